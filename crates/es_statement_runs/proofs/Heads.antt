-- The heads of loops with object rest: the pattern is bound in a block inside.
use Rattle.std.proofs.Common.{◌≡◌, refl, sym, subst, List, [], ◌∷◌, ap, ◌∙◌}
use Rattle.std.specs.Prelude.{Bool, true, false, ◌||◌, Option, Some, None, codes, bytes_eq, if◌then◌else◌}
use Rattle.es_tree.specs.Words.{Text}
use Rattle.es_tree.specs.Fresh.{is_among}
use Rattle.es_tree.specs.Scopes.{Declared}
use Rattle.es_tree.specs.Tree.{Tree, Label, Trees, ◌then◌, empty, ◌before◌}
use Rattle.es_runs.specs.Machine.{Value, M, ◌>>=◌, return, set_cell, Cell, State, Result, ask}
use Rattle.es_runs.specs.Machine.State.{state}
use Rattle.es_runs.specs.Machine.Question.{of_statement}
use Rattle.es_runs.specs.Machine.StatementQuestion.{iterator, keys}
use Rattle.es_runs.specs.Core.{World, value, name, in_order}
use Rattle.es_runs.specs.Alike.{Frame, Agree, Same, Alike, Equal, SameWorld, kept_cells}
use Rattle.es_runs.specs.Alike.Agree.{agree}
use Rattle.es_runs.specs.Alike.Same.{both_give, both_stop, outside, at_fault}
use Rattle.es_runs.specs.Runs.{program, only, identifier, none_hidden}
use Rattle.es_runs.proofs.Temporary.{bytes_eq-flip}
use Rattle.es_runs.proofs.Basic.{then_alike, ask_alike}
use Rattle.es_statement_runs.specs.Helpers.{Supply}
use Rattle.es_statement_runs.specs.Helpers.Supply.{by_require, no_helpers, by_global, by_import, spread_by_global}
use Rattle.es_statement_runs.proofs.OwnCells.{program_apart, own_apart}
use Rattle.es_statement_runs.specs.Alike.{Told, Quiet, SenseLike}
use Rattle.es_statement_runs.proofs.Programs.{top_world, rows_run}
use Rattle.es_statement_runs.specs.Scopes.{is_own_cell, shadowed, put_back, leave, left, scoped, stack_cell}
use Rattle.es_statement_runs.specs.Stacks.{own_cells, in_scope}
use Rattle.es_statement_runs.specs.Names.{top_in, names_of_all, lexical_in, lexical_names, is_word}
use Rattle.es_statement_runs.specs.Kinds.{sense, found, kind_in, senses}
use Rattle.es_statement_runs.specs.Places.{SupplySeen, placed_at, bad_anywhere, Take, value_taken, avoids}
use Rattle.es_statement_runs.specs.Runs.{start_cells}
use Rattle.es_statement_runs.specs.Laws.{any_cells, apart_from, bad_with, HeadMoves, HeadRow, LawHead, head_of, head_hidden, object_pattern_at, declare_statement, block_of}
use Rattle.es_statement_runs.specs.Laws.HeadRow.{of_row, in_row, of_const_row, in_const_row}
use Rattle.es_statement_runs.proofs.Catches.{all_told, declared_putter, own_binding, one_quiet, one_stack, below_anywhere, any_self, undeclared_hidden}
use Rattle.es_statement_runs.specs.Senses.{ends, cores, members_in}
use Rattle.es_statement_runs.specs.StatementParts.{used_where}
use Rattle.es_statement_runs.specs.Patterns.{object_pattern}
use Rattle.es_statement_runs.proofs.Everywhere.{close_like, close_self}
use Rattle.es_statement_runs.proofs.Everywhere.PlaceLike.{place_like}
use Rattle.es_statement_runs.proofs.KindsAlike.{inner}
use Rattle.es_statement_runs.proofs.SensesAlike.{ends_like}
use Rattle.es_statement_runs.specs.Statements.{each}
use Rattle.es_statement_runs.proofs.Combinators.{each_alike}
use Rattle.es_statement_runs.proofs.CatchPatterns.{clause_alike}

-- THE RIGHT SIDE: it sees the head's names unset in the source, and as they are outside in the target, and holds none of them

among_none : (ds : List Declared) (y : Text) → is_among (names_of_all ds) y ≡ false → kind_in ds y ≡ None
among_none [] y h = refl
among_none (d ∷ ds) y h = rw (bytes_eq-flip y d.name) (at (bytes_eq d.name y) h (λ g. among_none ds y g))
  where
    at : (b : Bool) → (b || is_among (names_of_all ds) y) ≡ false → (is_among (names_of_all ds) y ≡ false → kind_in ds y ≡ None) → (if b then Some d.kind else kind_in ds y) ≡ None
    at true k g = absurd (cc k)
    at false k g = g k

either_false : (a b : Bool) → a ≡ false → b ≡ false → (a || b) ≡ false
either_false a b h g = rw (h, g) refl

left_false : (a b : Bool) → (a || b) ≡ false → a ≡ false
left_false true b h = absurd (cc h)
left_false false b h = refl

right_false : (a b : Bool) → (a || b) ≡ false → b ≡ false
right_false true b h = absurd (cc h)
right_false false b h = h

module _ (held x : Text) (math : bytes_eq (codes "Math") x ≡ false) (no_own : is_own_cell x ≡ false) (o : Supply) (w v : World) (same : SameWorld (only x) w v) (D : List Declared)
    (cells_apart : (y : Text) → is_own_cell y ≡ true → is_among (names_of_all D) y ≡ false) (not_math : is_among (names_of_all D) (codes "Math") ≡ false)
    (helpers : SupplySeen (any_cells (head_hidden x (names_of_all D))) by_global) (e : Tree) (avoid : avoids (bad_anywhere (any_cells (head_hidden x (names_of_all D)))) value_taken e ≡ true) where
  abbrev N : List Text
  N = names_of_all D

  abbrev hid : Text → Bool
  hid = head_hidden x N

  abbrev v1 : World
  v1 = inner v (record { name = x; kind = held } ∷ [])

  module _ (d0 : Text → Cell) where
    abbrev Z : Frame
    Z = kept_cells hid none_hidden d0

    told_here : Told Z (bad_anywhere (any_cells hid)) o
    told_here = all_told hid Z (λ y. refl) o (seen_by o)
      where
        seen_by : (u : Supply) → SupplySeen (any_cells hid) u
        seen_by no_helpers = tt
        seen_by spread_by_global = helpers
        seen_by by_global = helpers
        seen_by (by_import m) = helpers
        seen_by (by_require m) = helpers

    worlds : SameWorld hid (inner w D) v1
    worlds = record {
      scope = λ y h. (rw (left_false (only x y) (is_among N y) h) (same.scope y (left_false (only x y) (is_among N y) h))) ∙ sym (ap (λ (k : Option Text). found k y w.scope y) (among_none D y (right_false (only x y) (is_among N y) h)));
      this = same.this;
      counts = same.counts;
    }

    both_apart : (y : Text) → is_own_cell y ≡ true → hid y ≡ false
    both_apart y e = either_false (only x y) (is_among N y) (own_apart x y no_own e) (cells_apart y e)

    value_same : Alike Z Equal (value (inner w D) (sense (placed_at o (inner w D) [] []) e).core) (value v1 (sense (placed_at o v1 [] []) e).core)
    value_same = (close_like Z (record { own_seen = λ y e i. record { hidden = both_apart y e; frozen = refl; loose = refl }; math = either_false (only x (codes "Math")) (is_among N (codes "Math")) math not_math })
        (record { hidden = both_apart stack_cell refl; frozen = refl; loose = refl })
        (bad_anywhere (any_cells hid)) (below_anywhere hid) o told_here (λ w v. Unit {0}) (λ ds h w v k. tt) (λ t a b. ⊥) (λ t a b i. absurd i)
        (close_self (bad_anywhere (any_cells hid)) (λ t a b. ⊥) e value_taken avoid) (place_like worlds tt)).core.evaluation

  right_alike : Alike (apart_from x) Equal (scoped N (value (inner w D) (sense (placed_at o (inner w D) [] []) e).core)) (scoped (x ∷ []) (value v1 (sense (placed_at o v1 [] []) e).core))
  right_alike _ _ (agree {c = c} {d = d} {ms = ms} {qs = qs} f g i) = back (value_same (shadowed (x ∷ []) d) _ _ (agree (λ y h. inside y h) (λ y h. refl) (λ y h. absurd (cc h))))
    where
      apart : (y : Text) → only x y ≡ false → bytes_eq x y ≡ false
      apart y h = bytes_eq-flip x y ∙ h

      inside : (y : Text) → hid y ≡ false → shadowed (x ∷ []) d y ≡ shadowed N c y
      inside y h = rw (apart y (left_false (only x y) (is_among N y) h), right_false (only x y) (is_among N y) h) (f y (left_false (only x y) (is_among N y) h))

      kept : (y : Text) → only x y ≡ false → shadowed (x ∷ []) d y ≡ c y
      kept y h = rw (apart y h) (f y h)

      out : (a b : Text → Cell) → ((y : Text) → hid y ≡ false → b y ≡ a y) → ((y : Text) → hid y ≡ true → b y ≡ shadowed (x ∷ []) d y) → (y : Text) → only x y ≡ false → (k : Bool) → is_among N y ≡ k → b y ≡ (if k then c y else a y)
      out a b p q y h true j = q y (rw (h, j) refl) ∙ kept y h
      out a b p q y h false j = p y (rw (h, j) refl)

      leaves : {s t : State} → Agree (kept_cells hid none_hidden (shadowed (x ∷ []) d)) s t → Agree (apart_from x) (leave N c s) (leave (x ∷ []) d t)
      leaves (agree {c = a} {d = b} p q r) = agree (λ y h. (gone b y h) ∙ out a b p q y h (is_among N y) refl) (λ y h. tt) (λ y h. tt)
        where
          gone : (b : Text → Cell) (y : Text) → only x y ≡ false → put_back (x ∷ []) d b y ≡ b y
          gone b y h = rw (apart y h) refl

      back : {r q : Result Value} → Same (kept_cells hid none_hidden (shadowed (x ∷ []) d)) Equal r q → Same (apart_from x) Equal (left N c r) (left (x ∷ []) d q)
      back (both_give k a) = both_give k (leaves a)
      back (both_stop a) = both_stop (leaves a)
      back outside = outside
      back (at_fault k) = absurd (cc k)

-- THE LOOP

module _ (held x : Text) (math : bytes_eq (codes "Math") x ≡ false) (no_own : is_own_cell x ≡ false) (o : Supply) (supply : SupplySeen (apart_from x) o) (w v : World) (same : SameWorld (only x) w v)
    (kind : Text) (pm dm bm n : Label) (ps bs : Trees) (e : Tree) (h : HeadMoves x kind pm dm bm ps bs e) where
  abbrev F0 : Frame
  F0 = apart_from x

  abbrev P : Tree
  P = object_pattern_at pm ps

  abbrev D : List Declared
  D = lexical_names (head_of kind dm P)

  abbrev wa : World
  wa = inner w D

  abbrev va : World
  va = inner v (record { name = x; kind = held } ∷ [])

  abbrev moved : Trees
  moved = declare_statement kind dm P (identifier x) before block_of bm bs before empty

  abbrev source_turn : Bool → Bool → Value → M Value
  source_turn b d u = in_scope (record { names = names_of_all D; uses = b }) ((return (object_pattern (members_in (senses (placed_at o wa [] []) ps))) >>= λ put. return (used_where d put)) >>= λ put. put u >>= λ z. value wa (sense (placed_at o wa [] []) (block_of bm bs)).core)

  abbrev target_turn : Bool → Value → M Value
  target_turn g u = scoped (x ∷ []) (set_cell x u >>= λ z. value va (ends (in_scope (record { names = names_of_all (lexical_in moved); uses = g }) (in_order (inner va (lexical_in moved)) (cores (senses (placed_at o (inner va (lexical_in moved)) [] []) moved))))).core)

  turn_alike : (u : Value) → Alike (apart_from x) Equal (source_turn false false u) (target_turn false u)
  turn_alike u = clause_alike held kind x u math no_own o supply w v same pm dm bm ps bs h.pattern h.body D h.good (lexical_in moved) h.names

  abbrev source_loop : List Text → Bool → Bool → Bool → M Value
  source_loop ls closes b d = scoped (own_cells (record { names = names_of_all D; uses = b })) (value wa (sense (placed_at o wa [] []) e).core) >>= λ u. ask (if closes then of_statement (iterator u) else of_statement (keys u)) >>= each ls closes (source_turn b d)

  abbrev target_loop : List Text → Bool → Bool → M Value
  target_loop ls closes g = scoped (x ∷ []) (value va (sense (placed_at o va [] []) e).core) >>= λ u. ask (if closes then of_statement (iterator u) else of_statement (keys u)) >>= each ls closes (target_turn g)

  quiet : Quiet (apart_from x)
  quiet = record { own_seen = λ y e i. record { hidden = own_apart x y no_own e; frozen = refl; loose = refl }; math = math }

  loop_alike : (ls : List Text) (closes : Bool) → Alike (apart_from x) Equal (source_loop ls closes false false) (target_loop ls closes false)
  loop_alike ls closes = then_alike (apart_from x) (right_alike held x math no_own o w v same D (program_apart (names_of_all D) h.program_names) h.math h.helpers e h.right) (λ u. then_alike (apart_from x) (ask_alike (apart_from x) (if closes then of_statement (iterator u) else of_statement (keys u))) (λ it. each_alike (apart_from x) quiet ls closes turn_alike it))

  none_used : (is_word (codes "using") kind || false) ≡ false
  none_used = rw h.not_using refl

  loop_sense : (t : Take) (ls : List Text) (closes b d g : Bool) → b ≡ false → d ≡ false → g ≡ false → SenseLike (apart_from x) w v t (ends (source_loop ls closes b d)) (ends (target_loop ls closes g))
  loop_sense t ls closes b d g i j k = subst (λ (a : Bool). SenseLike (apart_from x) w v t (ends (source_loop ls closes a d)) (ends (target_loop ls closes g))) (sym i)
      (subst (λ (a : Bool). SenseLike (apart_from x) w v t (ends (source_loop ls closes false a)) (ends (target_loop ls closes g))) (sym j)
      (subst (λ (a : Bool). SenseLike (apart_from x) w v t (ends (source_loop ls closes false false)) (ends (target_loop ls closes a))) (sym k) (ends_like (apart_from x) quiet w v same t (loop_alike ls closes))))

module _ (x : Text) (math : bytes_eq (codes "Math") x ≡ false) (no_own : is_own_cell x ≡ false) (o : Supply) (supply : SupplySeen (apart_from x) o) where
  head_like : (t : Take) (a b : Tree) → HeadRow x t a b → (w v : World) → SameWorld (only x) w v → Unit {0} → (ls : List Text) (y : Text) → SenseLike (apart_from x) w v t (sense (placed_at o w ls y) a) (sense (placed_at o v ls y) b)
  head_like t _ _ (of_row {m = m} {pm = pm} {dm = dm} {n = n} {bm = bm} {kind = kind} {ps = ps} {bs = bs} {e = e} h) w v same k ls y =
      rw (own_binding v x (codes "let"), declared_putter o (inner v (record { name = x; kind = codes "let" } ∷ [])) (codes "let") (name x))
      (loop_sense (codes "let") x math no_own o supply w v same kind pm dm bm n ps bs e h t ls true (is_word (codes "using") kind) (is_word (codes "using") kind) (is_word (codes "using") kind || false) h.not_using h.not_using (none_used (codes "let") x math no_own o supply w v same kind pm dm bm n ps bs e h))
  head_like t _ _ (in_row {m = m} {pm = pm} {dm = dm} {n = n} {bm = bm} {kind = kind} {ps = ps} {bs = bs} {e = e} h) w v same k ls y =
      rw (own_binding v x (codes "let"), declared_putter o (inner v (record { name = x; kind = codes "let" } ∷ [])) (codes "let") (name x))
      (loop_sense (codes "let") x math no_own o supply w v same kind pm dm bm n ps bs e h t ls false false (is_word (codes "using") kind) (is_word (codes "using") kind || false) refl h.not_using (none_used (codes "let") x math no_own o supply w v same kind pm dm bm n ps bs e h))
  head_like t _ _ (of_const_row {m = m} {pm = pm} {dm = dm} {n = n} {bm = bm} {kind = kind} {ps = ps} {bs = bs} {e = e} h) w v same k ls y =
      rw (own_binding v x (codes "const"), declared_putter o (inner v (record { name = x; kind = codes "const" } ∷ [])) (codes "const") (name x))
      (loop_sense (codes "const") x math no_own o supply w v same kind pm dm bm n ps bs e h t ls true (is_word (codes "using") kind) (is_word (codes "using") kind) (is_word (codes "using") kind || false) h.not_using h.not_using (none_used (codes "const") x math no_own o supply w v same kind pm dm bm n ps bs e h))
  head_like t _ _ (in_const_row {m = m} {pm = pm} {dm = dm} {n = n} {bm = bm} {kind = kind} {ps = ps} {bs = bs} {e = e} h) w v same k ls y =
      rw (own_binding v x (codes "const"), declared_putter o (inner v (record { name = x; kind = codes "const" } ∷ [])) (codes "const") (name x))
      (loop_sense (codes "const") x math no_own o supply w v same kind pm dm bm n ps bs e h t ls false false (is_word (codes "using") kind) (is_word (codes "using") kind || false) refl h.not_using (none_used (codes "const") x math no_own o supply w v same kind pm dm bm n ps bs e h))

pub law_head_proof : LawHead
law_head_proof u x l ds body after rows tops uses silents math no_own supply undeclared =
    rows_run (apart_from x) (one_quiet x math no_own) (one_stack x no_own) (bad_with x) (below_anywhere (only x)) u l ds body after [] (all_told (only x) (apart_from x) (λ y. refl) u supply) (λ w v. Unit {0}) (λ es vis w v k. tt) (HeadRow x) (head_like x math no_own u supply) rows uses
    (top_world u (only x) (program l ds body) (program l ds after) tops silents) (λ this. tt) (λ n moves. rw tops (any_self x (state (start_cells n (top_in body)) moves []))) (undeclared_hidden x (top_in body) undeclared)
