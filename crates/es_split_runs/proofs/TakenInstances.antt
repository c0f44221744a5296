-- The laws of keys that are read and of rests that are taken at programs, so that it is seen that their premises can be met, and these programs' runs, computed;
-- and two laws one after another.
use Rattle.std.proofs.Common.{◌≡◌, refl, List, [], ◌∷◌}
use Rattle.std.specs.Prelude.{Bool, true, false, not, ◌||◌, bytes_eq, codes, if◌then◌else◌}
use Rattle.std.proofs.lemmas.Slice.Eq.{bytes_eq-Decides}
use Rattle.es_tree.specs.Words.{Text}
use Rattle.es_tree.specs.Scopes.{Declared}
use Rattle.es_tree.specs.Tree.{Tree, Label, Trees, empty, ◌before◌}
use Rattle.es_runs.specs.Core.{is_free}
use Rattle.es_runs.specs.Core.Binding.{constant, free}
use Rattle.es_runs.specs.Machine.{Move}
use Rattle.es_runs.specs.Machine.Move.{answer}
use Rattle.es_runs.specs.Machine.OwnValue.{list}
use Rattle.es_runs.specs.Machine.Question.{call, get, of_statement, read}
use Rattle.es_runs.specs.Machine.StatementQuestion.{copy, make}
use Rattle.es_runs.specs.Machine.Value.{null, own, text, undefined}
use Rattle.es_runs.specs.Machine.Values.{none, ◌and◌}
use Rattle.es_runs.specs.Runs.{is_declared, made, program}
use Rattle.es_statement_runs.specs.Helpers.{Supply}
use Rattle.es_statement_runs.specs.Helpers.Supply.{by_global, no_helpers}
use Rattle.es_statement_runs.specs.Laws.{among_names, body_needs, followed, is_silent}
use Rattle.es_statement_runs.specs.Names.{top_in}
use Rattle.es_statement_runs.specs.Places.{value_taken}
use Rattle.es_statement_runs.specs.Runs.{RunAlike, outcome, run}
use Rattle.es_statement_runs.specs.Scopes.{is_own_cell}
use Rattle.es_statement_runs.proofs.Examples.{a_host, block, called, questions, statement, string, x_}
use Rattle.es_statement_runs.proofs.Composing.{law_then_proof}
use Rattle.es_split_runs.specs.Growing.{GrownTrees}
use Rattle.es_split_runs.specs.Growing.Grown.{at_place, in_block}
use Rattle.es_split_runs.specs.Growing.GrownTrees.{grown_before, grown_empty}
use Rattle.es_split_runs.specs.Growing.NamesMore.{as_before, no_names, one_more}
use Rattle.es_split_runs.specs.Laws.{Groups, Key, KeyedRow, StoreRow, TakenRow, bad_fresh, bad_helped, left_call, property_at}
use Rattle.es_split_runs.specs.Laws.Groups.{known_key, last_group, read_key}
use Rattle.es_split_runs.specs.Laws.Key.{name_key, text_key}
use Rattle.es_split_runs.specs.Laws.KeyedRow.{keyed_row}
use Rattle.es_split_runs.specs.Laws.StoreRow.{store_row}
use Rattle.es_split_runs.specs.Laws.TakenRow.{taken_row}
use Rattle.es_split_runs.proofs.Instances.{bare, declares, from_value, key_label, named, pattern, rest_of}
use Rattle.es_split_runs.proofs.KeyTexts.{literal_leaves, static_leaves}
use Rattle.es_split_runs.proofs.ReadKeys.{read_leaves}
use Rattle.es_split_runs.proofs.SelfGrown.{self_grown}
use Rattle.es_split_runs.proofs.Stored.{law_stored_proof}
use Rattle.es_split_runs.proofs.Taken.{law_keyed_proof, law_taken_proof}

-- `const o = z; { let { a: b, [k]: c, ["d"]: d, ...r } = o; g(r); }` becomes
-- `const o = z; { let { a: b } = o, _k = k, { [_k]: c, ["d"]: d } = o, r = babelHelpers.objectWithoutProperties(o, ["a", _k, "d"].map(babelHelpers.toPropertyKey)); g(r); }`
abbrev fresh_k : List Text
fresh_k = codes "_k" ∷ []

abbrev read_names : List Text
read_names = codes "o" ∷ codes "r" ∷ []

abbrev read_label : Label
read_label = made [] (false ∷ true ∷ [])

abbrev computed : Tree → Text → Tree
computed k v = property_at read_label k (x_ v)

abbrev by_a : Tree
by_a = named (codes "a") (x_ (codes "b"))

abbrev by_d : Tree
by_d = computed (string (codes "d")) (codes "d")

abbrev all_three : Trees
all_three = by_a before computed (x_ (codes "k")) (codes "c") before by_d before empty

abbrev keys : List Key
keys = text_key (codes "a") ∷ name_key (codes "_k") ∷ text_key (codes "d") ∷ []

abbrev parts_of : Text → Trees
parts_of o = from_value (pattern (by_a before empty)) (x_ o) before from_value (x_ (codes "_k")) (x_ (codes "k")) before from_value (pattern (computed (x_ (codes "_k")) (codes "c") before by_d before empty)) (x_ o) before empty

abbrev parted : Trees
parted = parts_of (codes "o")

abbrev whole : Trees
whole = from_value (pattern (followed all_three (rest_of (codes "r") before empty))) (x_ (codes "o")) before empty

abbrev taken : Trees
taken = followed parted (from_value (x_ (codes "r")) (left_call true (codes "o") keys) before empty)

abbrev call_r : Tree
call_r = statement (called (x_ (codes "g")) (x_ (codes "r") before empty))

abbrev first : Tree
first = declares (codes "const") (from_value (x_ (codes "o")) (x_ (codes "z")) before empty)

abbrev blocked : Trees → Trees
blocked ds = first before block (declares (codes "let") ds before call_r before empty) before empty

-- the groups of the properties, where the key's name is declared around, whatever the name of the source
groups : (u : Supply) (ds : List Declared) → is_declared ds (codes "_k") ≡ true → (o : Text) → Groups u fresh_k ds o empty all_three (parts_of o) keys fresh_k
groups u ds declared o = known_key key_label _ _ (codes "a") (static_leaves u key_label (x_ (codes "a")) refl refl) (read_key bare bare bare read_label _ (x_ (codes "k")) (x_ (codes "c")) (codes "_k") refl (read_leaves u read_label (x_ (codes "k")) refl refl) refl refl declared
    (known_key read_label _ _ (codes "d") (literal_leaves u read_label (string (codes "d")) refl refl) (last_group bare bare _)))

rows : GrownTrees (bad_helped fresh_k) (among_names fresh_k) (TakenRow fresh_k read_names) (top_in (blocked taken)) body_needs (blocked whole) (blocked taken)
rows = grown_before (self_grown _ _ _ first _ body_needs refl) (grown_before (in_block (as_before (one_more refl (as_before (as_before (as_before no_names))))) refl refl
    (grown_before (at_place (taken_row bare bare bare bare (codes "o") (codes "r") empty all_three parted empty keys fresh_k refl refl refl refl refl refl (groups by_global _ refl (codes "o")) refl refl refl)) (grown_before (self_grown _ _ _ call_r _ value_taken refl) grown_empty))) grown_empty)

again : (y : Text) → among_names read_names y ≡ true → (among_names fresh_k y ≡ false) × (is_own_cell y ≡ false) × (is_silent [] y ≡ false)
again y h = at (bytes_eq y (codes "o")) (bytes_eq y (codes "r")) refl refl h
  where
    at : (a b : Bool) → bytes_eq y (codes "o") ≡ a → bytes_eq y (codes "r") ≡ b → (a || (b || false)) ≡ true → (among_names fresh_k y ≡ false) × (is_own_cell y ≡ false) × (is_silent [] y ≡ false)
    at true b e d k = let j : y ≡ codes "o" = (bytes_eq-Decides y (codes "o")).0 e in rw j (refl, refl, refl)
    at false true e d k = let j : y ≡ codes "r" = (bytes_eq-Decides y (codes "r")).0 d in rw j (refl, refl, refl)
    at false false e d k = absurd (cc k)

declared_apart : (y : Text) → is_declared (top_in (blocked whole)) y ≡ true → among_names fresh_k y ≡ false
declared_apart y h = at (bytes_eq y (codes "o")) refl h
  where
    at : (b : Bool) → bytes_eq y (codes "o") ≡ b → not (is_free (if b then constant else free)) ≡ true → among_names fresh_k y ≡ false
    at true e k = let j : y ≡ codes "o" = (bytes_eq-Decides y (codes "o")).0 e in rw j refl
    at false e k = absurd (cc k)

taken_here : RunAlike by_global false (program bare empty (blocked whole)) (program bare empty (blocked taken))
taken_here = law_taken_proof fresh_k read_names bare empty _ _ rows
    (record { tops = as_before no_names; uses = refl; silents = refl; unsilent = λ y h. refl; undeclared = declared_apart; math = refl; program_names = refl; supply = record { global = refl; require = refl } }) again refl refl

-- `o`, `a` of it, the key, what it has there, `d` of it, the copy without these three and the object of it, and the call
abbrev moves : List Move
moves = answer (a_host 1) ∷ answer (a_host 2) ∷ answer (a_host 3) ∷ answer (a_host 4) ∷ answer (a_host 5) ∷ answer (a_host 6) ∷ answer (a_host 7) ∷ answer (a_host 8) ∷ answer undefined ∷ []

taken_asks : questions (run by_global 0 (program bare empty (blocked taken)) undefined moves) ≡ questions (run by_global 0 (program bare empty (blocked whole)) undefined moves)
taken_asks = refl

whole_asks : questions (run by_global 0 (program bare empty (blocked whole)) undefined moves) ≡
    call (a_host 8) undefined (a_host 7 and none) ∷ read (codes "g") ∷ of_statement (make (own (list (a_host 6 and none)) and none)) ∷ of_statement (copy (a_host 1) (text (codes "a") and a_host 3 and text (codes "d") and none)) ∷
    get (a_host 1) (text (codes "d")) ∷ get (a_host 1) (a_host 3) ∷ read (codes "k") ∷ get (a_host 1) (text (codes "a")) ∷ read (codes "z") ∷ []
whole_asks = refl

taken_null : outcome (run by_global 0 (program bare empty (blocked taken)) undefined (answer null ∷ [])) ≡ outcome (run by_global 0 (program bare empty (blocked whole)) undefined (answer null ∷ []))
taken_null = refl

-- WITHOUT A REST: `const o = z; { let { a: b, [k]: c, ["d"]: d } = o; g(r); }` becomes `const o = z; { let { a: b } = o, _k = k, { [_k]: c, ["d"]: d } = o; g(r); }`
abbrev unrested : Trees
unrested = from_value (pattern all_three) (x_ (codes "o")) before empty

keyed_rows : GrownTrees (bad_fresh fresh_k) (among_names fresh_k) (KeyedRow no_helpers fresh_k read_names) (top_in (blocked parted)) body_needs (blocked unrested) (blocked parted)
keyed_rows = grown_before (self_grown _ _ _ first _ body_needs refl) (grown_before (in_block (as_before (one_more refl (as_before (as_before no_names)))) refl refl
    (grown_before (at_place (keyed_row bare bare (codes "o") empty all_three parted empty keys fresh_k refl refl refl refl (groups no_helpers _ refl (codes "o")) refl refl refl)) (grown_before (self_grown _ _ _ call_r _ value_taken refl) grown_empty))) grown_empty)

keyed_here : RunAlike no_helpers false (program bare empty (blocked unrested)) (program bare empty (blocked parted))
keyed_here = law_keyed_proof no_helpers fresh_k read_names bare empty _ _ keyed_rows
    (record { tops = as_before no_names; uses = refl; silents = refl; unsilent = λ y h. refl; undeclared = declared_apart; math = refl; program_names = refl; supply = tt }) again

keyed_asks : questions (run no_helpers 0 (program bare empty (blocked parted)) undefined moves) ≡ questions (run no_helpers 0 (program bare empty (blocked unrested)) undefined moves)
keyed_asks = refl

-- IN TWO STEPS: `{ let { a: b, [k]: c, ["d"]: d, ...r } = z; g(r); }` becomes
-- `{ let _z = z, { a: b } = _z, _k = k, { [_k]: c, ["d"]: d } = _z, r = babelHelpers.objectWithoutProperties(_z, ["a", _k, "d"].map(babelHelpers.toPropertyKey)); g(r); }`
abbrev fresh_z : List Text
fresh_z = codes "_z" ∷ []

abbrev read_z : List Text
read_z = codes "_z" ∷ codes "r" ∷ []

abbrev alone : Trees → Trees
alone ds = block (declares (codes "let") ds before call_r before empty) before empty

abbrev with_rest : Trees
with_rest = followed all_three (rest_of (codes "r") before empty)

abbrev of_z : Trees
of_z = from_value (pattern with_rest) (x_ (codes "z")) before empty

abbrev set_z : Trees
set_z = from_value (x_ (codes "_z")) (x_ (codes "z")) before empty

abbrev then_of_z : Trees
then_of_z = followed set_z (from_value (pattern with_rest) (x_ (codes "_z")) before empty)

abbrev in_parts : Trees
in_parts = followed set_z (followed (parts_of (codes "_z")) (from_value (x_ (codes "r")) (left_call true (codes "_z") keys) before empty))

z_rows : GrownTrees (bad_fresh fresh_z) (among_names fresh_z) (StoreRow fresh_z) [] body_needs (alone of_z) (alone then_of_z)
z_rows = grown_before (in_block (one_more refl (as_before (as_before (as_before (as_before no_names))))) refl refl
    (grown_before (at_place (store_row bare bare bare bare [] [] (codes "_z") empty with_rest (x_ (codes "z")) empty refl refl refl refl refl refl refl refl)) (grown_before (self_grown _ _ _ call_r _ value_taken refl) grown_empty))) grown_empty

parts_rows : GrownTrees (bad_helped fresh_k) (among_names fresh_k) (TakenRow fresh_k read_z) [] body_needs (alone then_of_z) (alone in_parts)
parts_rows = grown_before (in_block (as_before (as_before (one_more refl (as_before (as_before (as_before no_names)))))) refl refl
    (grown_before (at_place (taken_row bare bare bare bare (codes "_z") (codes "r") set_z all_three (parts_of (codes "_z")) empty keys fresh_k refl refl refl refl refl refl (groups by_global _ refl (codes "_z")) refl refl refl)) (grown_before (self_grown _ _ _ call_r _ value_taken refl) grown_empty))) grown_empty

z_again : (y : Text) → among_names read_z y ≡ true → (among_names fresh_k y ≡ false) × (is_own_cell y ≡ false) × (is_silent [] y ≡ false)
z_again y h = at (bytes_eq y (codes "_z")) (bytes_eq y (codes "r")) refl refl h
  where
    at : (a b : Bool) → bytes_eq y (codes "_z") ≡ a → bytes_eq y (codes "r") ≡ b → (a || (b || false)) ≡ true → (among_names fresh_k y ≡ false) × (is_own_cell y ≡ false) × (is_silent [] y ≡ false)
    at true b e d k = let j : y ≡ codes "_z" = (bytes_eq-Decides y (codes "_z")).0 e in rw j (refl, refl, refl)
    at false true e d k = let j : y ≡ codes "r" = (bytes_eq-Decides y (codes "r")).0 d in rw j (refl, refl, refl)
    at false false e d k = absurd (cc k)

two_steps : RunAlike by_global false (program bare empty (alone of_z)) (program bare empty (alone in_parts))
two_steps = law_then_proof by_global false (program bare empty (alone of_z)) (program bare empty (alone then_of_z)) (program bare empty (alone in_parts))
    (law_stored_proof by_global fresh_z bare empty (alone of_z) (alone then_of_z) z_rows (record { tops = no_names; uses = refl; silents = refl; unsilent = λ y h. refl; undeclared = λ y h. absurd (cc h); math = refl; program_names = refl; supply = record { global = refl; require = refl } }))
    (law_taken_proof fresh_k read_z bare empty (alone then_of_z) (alone in_parts) parts_rows (record { tops = no_names; uses = refl; silents = refl; unsilent = λ y h. refl; undeclared = λ y h. absurd (cc h); math = refl; program_names = refl; supply = record { global = refl; require = refl } }) z_again refl refl)
    (λ y h. h)
