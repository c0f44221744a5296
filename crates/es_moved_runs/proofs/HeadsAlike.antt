-- A loop whose head binds a pattern: so it is where the head binds a name alone, and a block inside declares the pattern with that, if the right side asks no
-- name of the head.
use Rattle.std.proofs.Common.{◌≡◌, refl, sym, subst, List, [], ◌∷◌, ap, ◌∙◌}
use Rattle.std.specs.Prelude.{Bool, true, false, ◌||◌, Option, Some, None, codes, bytes_eq, if◌then◌else◌}
use Rattle.es_tree.specs.Words.{Text}
use Rattle.es_tree.specs.Fresh.{is_among}
use Rattle.es_tree.specs.Scopes.{Declared}
use Rattle.es_tree.specs.Tree.{Tree, Label, Trees, ◌then◌, empty, ◌before◌}
use Rattle.es_runs.specs.Machine.{Cell, M, Result, State, Value, ask, return, set_cell, ◌>>=◌}
use Rattle.es_runs.specs.Machine.Question.{of_statement}
use Rattle.es_runs.specs.Machine.StatementQuestion.{iterator, keys}
use Rattle.es_runs.specs.Core.{World, in_order, value}
use Rattle.es_runs.specs.Alike.{Agree, Alike, Equal, Frame, Level, Same, SameWorld, bad_names, kept_cells}
use Rattle.es_runs.specs.Alike.Agree.{agree}
use Rattle.es_runs.specs.Alike.Same.{at_fault, both_give, both_stop, outside}
use Rattle.es_runs.specs.Runs.{identifier, none_hidden, only}
use Rattle.es_runs.proofs.Temporary.{bytes_eq-flip}
use Rattle.es_runs.proofs.Basic.{ask_alike, then_alike}
use Rattle.es_statement_runs.specs.Alike.{SenseLike}
use Rattle.es_statement_runs.specs.Helpers.{Supply}
use Rattle.es_statement_runs.specs.Helpers.Supply.{by_global, by_import, by_require, no_helpers, spread_by_global}
use Rattle.es_statement_runs.specs.Kinds.{found, kind_in, sense, senses}
use Rattle.es_statement_runs.specs.Laws.{any_cells, apart_from, block_of, declare_statement, head_hidden, object_pattern_at}
use Rattle.es_statement_runs.specs.Names.{lexical_in, names_of_all}
use Rattle.es_statement_runs.specs.Patterns.{object_pattern}
use Rattle.es_statement_runs.specs.Places.{SupplySeen, Take, all_good, avoids, placed_at, target_taken, value_taken}
use Rattle.es_statement_runs.specs.Scopes.{are_program_names, is_own_cell, leave, left, put_back, scoped, shadowed, stack_cell}
use Rattle.es_statement_runs.specs.Senses.{cores, ends, members_in}
use Rattle.es_statement_runs.specs.Stacks.{in_scope, own_cells}
use Rattle.es_statement_runs.specs.StatementParts.{used_where}
use Rattle.es_statement_runs.specs.Statements.{each}
use Rattle.es_statement_runs.proofs.BareVars.{beside_like, said_alike_from, self_beside, unsaid_inside}
use Rattle.es_statement_runs.proofs.BareVars.Places.{both_at}
use Rattle.es_statement_runs.proofs.Catches.{one_quiet}
use Rattle.es_statement_runs.proofs.Combinators.{each_alike}
use Rattle.es_statement_runs.proofs.KindsAlike.{inner}
use Rattle.es_statement_runs.proofs.OwnCells.{own_apart, program_apart}
use Rattle.es_statement_runs.proofs.SensesAlike.{ends_like}
use Rattle.es_moved_runs.proofs.ClausesAlike.{clause_alike}
use Rattle.es_moved_runs.proofs.HeldNames.{bad_alone}
use Rattle.es_moved_runs.proofs.TurnedRuns.{NoneSaid}

-- THE RIGHT SIDE: it sees the head's names unset in the source, and as they are outside in the target, and asks none of them

-- none of these names is evaluated or written
abbrev pub bad_in_head : Text → List Text → Level → Text → Bool
bad_in_head x ns = bad_names (head_hidden x ns) none_hidden

among_none : (ds : List Declared) (y : Text) → is_among (names_of_all ds) y ≡ false → kind_in ds y ≡ None
among_none [] y h = refl
among_none (d ∷ ds) y h = rw (bytes_eq-flip y d.name) (at (bytes_eq d.name y) h (λ g. among_none ds y g))
  where
    at : (b : Bool) → (b || is_among (names_of_all ds) y) ≡ false → (is_among (names_of_all ds) y ≡ false → kind_in ds y ≡ None) → (if b then Some d.kind else kind_in ds y) ≡ None
    at true k g = absurd (cc k)
    at false k g = g k

pub either_false : (a b : Bool) → a ≡ false → b ≡ false → (a || b) ≡ false
either_false a b h g = rw (h, g) refl

left_false : (a b : Bool) → (a || b) ≡ false → a ≡ false
left_false true b h = absurd (cc h)
left_false false b h = refl

right_false : (a b : Bool) → (a || b) ≡ false → b ≡ false
right_false true b h = absurd (cc h)
right_false false b h = h

module _ (held x : Text) (math : bytes_eq (codes "Math") x ≡ false) (no_own : is_own_cell x ≡ false) (o : Supply) (w v : World) (same : SameWorld (only x) w v) (none : NoneSaid w v) (D : List Declared)
    (cells_apart : (y : Text) → is_own_cell y ≡ true → is_among (names_of_all D) y ≡ false) (not_math : is_among (names_of_all D) (codes "Math") ≡ false)
    (helpers : SupplySeen (any_cells (head_hidden x (names_of_all D))) by_global) (e : Tree) (avoid : avoids (bad_in_head x (names_of_all D)) value_taken e ≡ true) where
  abbrev N : List Text
  N = names_of_all D

  abbrev hid : Text → Bool
  hid = head_hidden x N

  abbrev held_name : List Declared
  held_name = record { name = x; kind = held } ∷ []

  abbrev v1 : World
  v1 = inner v held_name

  none_inside : NoneSaid (inner w D) v1
  none_inside y h = ((unsaid_inside (λ z. true) D w v none y h).0, (unsaid_inside (λ z. true) held_name w v none y h).1)

  module _ (d0 : Text → Cell) where
    abbrev Z : Frame
    Z = kept_cells hid none_hidden d0

    seen_by : (u : Supply) → SupplySeen Z u
    seen_by no_helpers = tt
    seen_by spread_by_global = record { global = helpers.global; require = helpers.require }
    seen_by by_global = record { global = helpers.global; require = helpers.require }
    seen_by (by_import m) = record { global = helpers.global; require = helpers.require }
    seen_by (by_require m) = record { global = helpers.global; require = helpers.require }

    worlds : SameWorld hid (inner w D) v1
    worlds = record {
      scope = λ y h. (rw (left_false (only x y) (is_among N y) h) (same.scope y (left_false (only x y) (is_among N y) h))) ∙ sym (ap (λ (k : Option Text). found k y w.scope y) (among_none D y (right_false (only x y) (is_among N y) h)));
      this = same.this;
      counts = same.counts;
    }

    both_apart : (y : Text) → is_own_cell y ≡ true → hid y ≡ false
    both_apart y e = either_false (only x y) (is_among N y) (own_apart x y no_own e) (cells_apart y e)

    value_same : Alike Z Equal (value (inner w D) (sense (placed_at o (inner w D) [] []) e).core) (value v1 (sense (placed_at o v1 [] []) e).core)
    value_same = (beside_like Z (record { own_seen = λ y e i. record { hidden = both_apart y e; frozen = refl; loose = refl }; math = either_false (only x (codes "Math")) (is_among N (codes "Math")) math not_math })
        (record { hidden = both_apart stack_cell refl; frozen = refl; loose = refl })
        (bad_in_head x N) (λ n y k. k) o (seen_by o) (λ ds w v. NoneSaid w v) (λ ds w v same k. said_alike_from Z o w v same (λ y h. k y refl)) (λ ds es vis w v k. unsaid_inside (λ z. true) es w v k)
        (λ ds t a b. ⊥) (λ ds t a b i. absurd i) (self_beside (bad_in_head x N) (λ ds t a b. ⊥) e [] value_taken avoid) (both_at worlds none_inside)).core.evaluation

  pub right_alike : Alike (apart_from x) Equal (scoped N (value (inner w D) (sense (placed_at o (inner w D) [] []) e).core)) (scoped (x ∷ []) (value v1 (sense (placed_at o v1 [] []) e).core))
  right_alike _ _ (agree {c = c} {d = d} {ms = ms} {qs = qs} f g i) = back (value_same (shadowed (x ∷ []) d) _ _ (agree (λ y h. inside y h) (λ y h. refl) (λ y h. absurd (cc h))))
    where
      apart : (y : Text) → only x y ≡ false → bytes_eq x y ≡ false
      apart y h = bytes_eq-flip x y ∙ h

      inside : (y : Text) → hid y ≡ false → shadowed (x ∷ []) d y ≡ shadowed N c y
      inside y h = rw (apart y (left_false (only x y) (is_among N y) h), right_false (only x y) (is_among N y) h) (f y (left_false (only x y) (is_among N y) h))

      kept : (y : Text) → only x y ≡ false → shadowed (x ∷ []) d y ≡ c y
      kept y h = rw (apart y h) (f y h)

      out : (a b : Text → Cell) → ((y : Text) → hid y ≡ false → b y ≡ a y) → ((y : Text) → hid y ≡ true → b y ≡ shadowed (x ∷ []) d y) → (y : Text) → only x y ≡ false → (k : Bool) → is_among N y ≡ k → b y ≡ (if k then c y else a y)
      out a b p q y h true j = q y (rw (h, j) refl) ∙ kept y h
      out a b p q y h false j = p y (rw (h, j) refl)

      leaves : {s t : State} → Agree (kept_cells hid none_hidden (shadowed (x ∷ []) d)) s t → Agree (apart_from x) (leave N c s) (leave (x ∷ []) d t)
      leaves (agree {c = a} {d = b} p q r) = agree (λ y h. (gone b y h) ∙ out a b p q y h (is_among N y) refl) (λ y h. tt) (λ y h. tt)
        where
          gone : (b : Text → Cell) (y : Text) → only x y ≡ false → put_back (x ∷ []) d b y ≡ b y
          gone b y h = rw (apart y h) refl

      back : {r q : Result Value} → Same (kept_cells hid none_hidden (shadowed (x ∷ []) d)) Equal r q → Same (apart_from x) Equal (left N c r) (left (x ∷ []) d q)
      back (both_give k a) = both_give k (leaves a)
      back (both_stop a) = both_stop (leaves a)
      back outside = outside
      back (at_fault k) = absurd (cc k)

-- THE LOOP

-- what is asked of a head `K P`, a body and a right side
pub record HeadParts (x kind : Text) (pm dm bm : Label) (ps bs : Trees) (e : Tree) (D : List Declared) : Type 0 where
  pub pattern : avoids (bad_alone x) target_taken (object_pattern_at pm ps) ≡ true
  pub body : avoids (bad_alone x) value_taken (block_of bm bs) ≡ true
  pub names : lexical_in (declare_statement kind dm (object_pattern_at pm ps) (identifier x) before block_of bm bs before empty) ≡ D
  pub good : all_good (bad_alone x) (names_of_all D) ≡ true
  pub program_names : are_program_names (names_of_all D) ≡ true
  pub math : is_among (names_of_all D) (codes "Math") ≡ false
  pub helpers : SupplySeen (any_cells (head_hidden x (names_of_all D))) by_global
  pub right : avoids (bad_in_head x (names_of_all D)) value_taken e ≡ true

module _ (held x : Text) (math : bytes_eq (codes "Math") x ≡ false) (no_own : is_own_cell x ≡ false) (o : Supply) (supply : SupplySeen (apart_from x) o) (w v : World) (same : SameWorld (only x) w v) (none : NoneSaid w v)
    (kind : Text) (pm dm bm : Label) (ps bs : Trees) (e : Tree) (D : List Declared) (h : HeadParts x kind pm dm bm ps bs e D) where
  abbrev P : Tree
  P = object_pattern_at pm ps

  abbrev wa : World
  wa = inner w D

  abbrev va : World
  va = inner v (record { name = x; kind = held } ∷ [])

  abbrev moved : Trees
  moved = declare_statement kind dm P (identifier x) before block_of bm bs before empty

  abbrev source_turn : Bool → Bool → Value → M Value
  source_turn b d u = in_scope (record { names = names_of_all D; uses = b }) ((return (object_pattern (members_in (senses (placed_at o wa [] []) ps))) >>= λ put. return (used_where d put)) >>= λ put. put u >>= λ z. value wa (sense (placed_at o wa [] []) (block_of bm bs)).core)

  abbrev target_turn : Bool → Value → M Value
  target_turn g u = scoped (x ∷ []) (set_cell x u >>= λ z. value va (ends (in_scope (record { names = names_of_all (lexical_in moved); uses = g }) (in_order (inner va (lexical_in moved)) (cores (senses (placed_at o (inner va (lexical_in moved)) [] []) moved))))).core)

  turn_alike : (u : Value) → Alike (apart_from x) Equal (source_turn false false u) (target_turn false u)
  turn_alike u = clause_alike held kind x u math no_own o supply w v same (λ y k. none y refl) pm dm bm ps bs h.pattern h.body D h.good (lexical_in moved) h.names

  abbrev source_loop : List Text → Bool → Bool → Bool → M Value
  source_loop ls closes b d = scoped (own_cells (record { names = names_of_all D; uses = b })) (value wa (sense (placed_at o wa [] []) e).core) >>= λ u. ask (if closes then of_statement (iterator u) else of_statement (keys u)) >>= each ls closes (source_turn b d)

  abbrev target_loop : List Text → Bool → Bool → M Value
  target_loop ls closes g = scoped (x ∷ []) (value va (sense (placed_at o va [] []) e).core) >>= λ u. ask (if closes then of_statement (iterator u) else of_statement (keys u)) >>= each ls closes (target_turn g)

  loop_alike : (ls : List Text) (closes : Bool) → Alike (apart_from x) Equal (source_loop ls closes false false) (target_loop ls closes false)
  loop_alike ls closes = then_alike (apart_from x) (right_alike held x math no_own o w v same none D (program_apart (names_of_all D) h.program_names) h.math h.helpers e h.right) (λ u. then_alike (apart_from x) (ask_alike (apart_from x) (if closes then of_statement (iterator u) else of_statement (keys u))) (λ it. each_alike (apart_from x) (one_quiet x math no_own) ls closes turn_alike it))

  pub loop_sense : (t : Take) (ls : List Text) (closes b d g : Bool) → b ≡ false → d ≡ false → g ≡ false → SenseLike (apart_from x) w v t (ends (source_loop ls closes b d)) (ends (target_loop ls closes g))
  loop_sense t ls closes b d g i j k = subst (λ (a : Bool). SenseLike (apart_from x) w v t (ends (source_loop ls closes a d)) (ends (target_loop ls closes g))) (sym i)
      (subst (λ (a : Bool). SenseLike (apart_from x) w v t (ends (source_loop ls closes false a)) (ends (target_loop ls closes g))) (sym j)
      (subst (λ (a : Bool). SenseLike (apart_from x) w v t (ends (source_loop ls closes false false)) (ends (target_loop ls closes a))) (sym k) (ends_like (apart_from x) (one_quiet x math no_own) w v same t (loop_alike ls closes))))
