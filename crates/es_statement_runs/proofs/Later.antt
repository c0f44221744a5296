-- Names that the source sets later than the target: the relation of states with loose names.
use Rattle.std.proofs.Common.{◌≡◌, refl, sym, subst, List, [], ap, ◌∙◌}
use Rattle.std.specs.Prelude.{ℕ, Bool, true, false, codes, bytes_eq, if◌then◌else◌}
use Rattle.std.proofs.lemmas.Slice.Eq.{bytes_eq-Decides}
use Rattle.es_tree.specs.Words.{Text}
use Rattle.es_tree.specs.Fresh.{is_among}
use Rattle.es_tree.specs.Names.{first_text}
use Rattle.es_tree.specs.Scopes.{Declared}
use Rattle.es_tree.specs.Tree.{Tree, Trees, ◌then◌}
use Rattle.es_runs.specs.Machine.{Value, M, Cell, Move, ◌>>=◌}
use Rattle.es_runs.specs.Machine.Value.{undefined, own}
use Rattle.es_runs.specs.Machine.OwnValue.{count}
use Rattle.es_runs.specs.Machine.Cell.{unset, holds}
use Rattle.es_runs.specs.Machine.State.{state}
use Rattle.es_runs.specs.Core.{World, Binding, value, declared, Reference, settle}
use Rattle.es_runs.specs.Core.Binding.{changeable}
use Rattle.es_runs.specs.Core.Reference.{plain}
use Rattle.es_runs.specs.Alike.{Frame, CellSeen, Agree, Alike, Equal, SameWorld}
use Rattle.es_runs.specs.Alike.Agree.{agree}
use Rattle.es_runs.specs.Alike.Same.{both_give}
use Rattle.es_runs.specs.Runs.{none_hidden, scope_of, cells_of, binding_of, first_cell}
use Rattle.es_runs.proofs.Basic.{then_alike, set_alike, bind_alike, return_alike}
use Rattle.es_runs.proofs.Congruence.{plain_like}
use Rattle.es_statement_runs.proofs.OwnCells.{program_apart}
use Rattle.es_statement_runs.specs.Scopes.{is_own_cell, turns_cell, stack_cell}
use Rattle.es_statement_runs.specs.Helpers.Supply.{no_helpers}
use Rattle.es_statement_runs.specs.Kinds.{sense, senses}
use Rattle.es_statement_runs.specs.Senses.{cores}
use Rattle.es_statement_runs.specs.Senses.More.{nothing_more}
use Rattle.es_statement_runs.specs.StatementParts.{first_more}
use Rattle.es_statement_runs.specs.Alike.{Quiet, StackSeen, SenseLike}
use Rattle.es_statement_runs.specs.Alike.MoreLike.{same_nothing}
use Rattle.es_statement_runs.specs.Places.{quiet_at, Take, value_taken, CloseTrees, CloseFields}
use Rattle.es_statement_runs.specs.Runs.{start_cells}
use Rattle.es_statement_runs.specs.Laws.{later, nothing_bad, NamedDeclarators, LetRow, ByVar, LawLater}
use Rattle.es_statement_runs.specs.Laws.NamedDeclarators.{no_declarator, named_declarator}
use Rattle.es_statement_runs.specs.Laws.LetRow.{let_row}
use Rattle.es_statement_runs.specs.Laws.ByVar.{none_declared, same_declared, later_declared}
use Rattle.es_statement_runs.proofs.Everywhere.{close_like, close_self}
use Rattle.es_statement_runs.proofs.Everywhere.PlaceLike.{place_like}
use Rattle.es_statement_runs.proofs.Programs.{rows_run}

pub data BothPlain : Reference → Reference → Type 0 where
  both_plain : {u : Value} → BothPlain (plain u) (plain u)

settled_alike : {F : Frame} {k l : M Value} (a b : Reference) → BothPlain a b → Alike F Equal k l → Alike F Equal (settle true a >>= λ z. k) (settle false b >>= λ z. l)
settled_alike _ _ both_plain h = h

-- declarators of names say nothing more
said_by_let : {ds : Trees} → NamedDeclarators ds → (w : World) → first_more (senses (quiet_at w [] (codes "let")) ds) ≡ nothing_more
said_by_let no_declarator w = refl
said_by_let (named_declarator h rest) w = refl

said_by_var : {ds : Trees} → NamedDeclarators ds → (w : World) → first_more (senses (quiet_at w [] (codes "var")) ds) ≡ nothing_more
said_by_var no_declarator w = refl
said_by_var (named_declarator h rest) w = refl

module _ (xs : List Text) (apart : (y : Text) → is_own_cell y ≡ true → is_among xs y ≡ false) where
  abbrev L : Frame
  L = later xs

  quiet : Quiet L
  quiet = record { own_seen = λ y e i. record { hidden = refl; frozen = refl; loose = apart y e }; math = refl }

  seen : StackSeen L
  seen = record { hidden = refl; frozen = refl; loose = apart stack_cell refl }

  part : (e : Tree) → Rattle.es_statement_runs.specs.Places.avoids nothing_bad value_taken e ≡ true → (w v : World) → SameWorld none_hidden w v → Alike L Equal (value w (sense (quiet_at w [] []) e).core) (value v (sense (quiet_at v [] []) e).core)
  part e h w v same = (close_like L quiet seen nothing_bad (λ n x k. k) no_helpers tt (λ w v. Unit {0}) (λ es g w v k. tt) (λ t a b. ⊥) (λ t a b i. absurd i)
      (close_self nothing_bad (λ t a b. ⊥) e value_taken h) (place_like same tt)).core.evaluation

  -- declarators with a value do the same under either word
  declared_later : {ds : Trees} → NamedDeclarators ds → (w v : World) → SameWorld none_hidden w v → Alike L Equal (declared true (cores (senses (quiet_at w [] (codes "let")) ds))) (declared false (cores (senses (quiet_at v [] (codes "var")) ds)))
  declared_later no_declarator w v same = return_alike L undefined
  declared_later (named_declarator {m = m} {l = l} {e = e} {ds = ds} h rest) w v same =
      bind_alike L {R = BothPlain} (then_alike L (then_alike L (part e h w v same) (λ u. set_alike L (first_text l.texts) refl refl u)) (λ u s t g. both_give both_plain g)) (λ a b k. settled_alike a b k (declared_later rest w v same))

  let_like : (t : Take) (a b : Tree) → LetRow t a b → (w v : World) → SameWorld none_hidden w v → Unit {0} → (ls : List Text) (x : Text) → SenseLike L w v t (sense (quiet_at w ls x) a) (sense (quiet_at v ls x) b)
  let_like t _ _ (let_row {ds = ds} first second named) w v same k ls x = rw (first, second) (record { core = plain_like L w v same t.need _ _ (declared_later named w v same); more = λ _. rw (said_by_let named w, said_by_var named v) same_nothing })

  -- the top
  both_unset : (b : Bool) → CellSeen b unset unset
  both_unset true = tt
  both_unset false = refl

  seen_self : (b : Bool) (c : Cell) → CellSeen b c c
  seen_self true unset = tt
  seen_self true (holds v) = refl
  seen_self false c = refl

  top_cells : {ds es : List Declared} → ByVar xs ds es → (y : Text) → CellSeen (is_among xs y) (cells_of ds y) (cells_of es y)
  top_cells none_declared y = both_unset (is_among xs y)
  top_cells (same_declared {d = d} {ds = ds} {es = es} h) y = at (bytes_eq y d.name) (top_cells h y)
    where
      at : (b : Bool) → CellSeen (is_among xs y) (cells_of ds y) (cells_of es y) → CellSeen (is_among xs y) (if b then first_cell d.kind else cells_of ds y) (if b then first_cell d.kind else cells_of es y)
      at true g = seen_self (is_among xs y) (first_cell d.kind)
      at false g = g
  top_cells (later_declared {x = x} {ds = ds} {es = es} e h) y = at (bytes_eq y x) refl (top_cells h y)
    where
      at : (b : Bool) → bytes_eq y x ≡ b → CellSeen (is_among xs y) (cells_of ds y) (cells_of es y) → CellSeen (is_among xs y) (if b then unset else cells_of ds y) (if b then holds undefined else cells_of es y)
      at true i g = let j : y ≡ x = (bytes_eq-Decides y x).0 i in let k : is_among xs y ≡ true = ap (is_among xs) j ∙ e in subst (λ (b : Bool). CellSeen b unset (holds undefined)) (sym k) tt
      at false i g = g

  top_start : {ds es : List Declared} → ByVar xs ds es → (n : ℕ) (moves : List Move) → Agree L (state (start_cells n ds) moves []) (state (start_cells n es) moves [])
  top_start {ds = ds} {es = es} h n moves = agree (λ y e. at y (bytes_eq y turns_cell) (top_cells h y)) (λ y e. tt) (λ y e. tt)
    where
      at : (y : Text) (b : Bool) → CellSeen (is_among xs y) (cells_of ds y) (cells_of es y) → CellSeen (is_among xs y) (if b then holds (own (count n)) else cells_of ds y) (if b then holds (own (count n)) else cells_of es y)
      at y true g = seen_self (is_among xs y) (holds (own (count n)))
      at y false g = g

top_scope : {xs : List Text} {ds es : List Declared} → ByVar xs ds es → (y : Text) → scope_of es y ≡ scope_of ds y
top_scope none_declared y = refl
top_scope (same_declared {d = d} h) y = ap (λ (b : Binding). if bytes_eq y d.name then binding_of d.kind else b) (top_scope h y)
top_scope (later_declared {x = x} e h) y = ap (λ (b : Binding). if bytes_eq y x then changeable else b) (top_scope h y)

pub law_later_proof : LawLater
law_later_proof xs l ds body after rows tops uses apart =
    rows_run (later xs) (quiet xs (program_apart xs apart)) (seen xs (program_apart xs apart)) nothing_bad (λ n x k. k) no_helpers l ds body after [] tt (λ w v. Unit {0}) (λ es g w v k. tt) LetRow (let_like xs (program_apart xs apart)) rows uses
    (λ this. record { scope = λ y e. top_scope tops y; this = refl; counts = refl }) (λ this. tt) (top_start xs (program_apart xs apart) tops) (λ x e. refl)
