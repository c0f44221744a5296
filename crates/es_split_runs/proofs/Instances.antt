-- The laws at programs, so that it is seen that their premises can be met, and these programs' runs, computed.
use Rattle.std.proofs.Common.{◌≡◌, refl, List, [], ◌∷◌}
use Rattle.std.specs.Prelude.{Bool, true, false, not, ◌||◌, Some, bytes_eq, codes, if◌then◌else◌}
use Rattle.std.proofs.lemmas.Slice.Eq.{bytes_eq-Decides}
use Rattle.es_tree.specs.Words.{Text}
use Rattle.es_tree.specs.Tree.{Tree, Label, node, done, ◌then◌, one, many, missing, statements, Trees, empty, ◌before◌}
use Rattle.es_tree.specs.declared.ast_type.AstType.TheVariants.{AssignmentPattern, ForStatement, RestElement, SwitchCase, SwitchStatement, VariableDeclaration, VariableDeclarator, WhileStatement}
use Rattle.es_runs.specs.Machine.{Move}
use Rattle.es_runs.specs.Machine.Move.{answer}
use Rattle.es_runs.specs.Machine.Value.{boolean, null, undefined}
use Rattle.es_runs.specs.Core.{is_free}
use Rattle.es_runs.specs.Core.Binding.{constant, free}
use Rattle.es_runs.specs.Runs.{is_declared, made, program}
use Rattle.es_statement_runs.specs.Helpers.Supply.{by_global, no_helpers}
use Rattle.es_statement_runs.specs.Laws.{among_names, body_needs, followed, is_silent, object_pattern_at}
use Rattle.es_statement_runs.specs.Names.{top_in}
use Rattle.es_statement_runs.specs.Places.{value_taken}
use Rattle.es_statement_runs.specs.Runs.{RunAlike, outcome, run}
use Rattle.es_statement_runs.specs.Runs.Outcome.{finished}
use Rattle.es_statement_runs.specs.Scopes.{is_own_cell}
use Rattle.es_statement_runs.proofs.Examples.{a_host, block, called, numeral, plain, questions, statement, x_}
use Rattle.es_split_runs.specs.Growing.{GrownTrees}
use Rattle.es_split_runs.specs.Growing.Grown.{at_place, in_block, in_for, in_node, in_switch}
use Rattle.es_split_runs.specs.Growing.GrownField.{grown_missing, grown_one, grown_statements}
use Rattle.es_split_runs.specs.Growing.GrownFields.{grown_done, grown_then}
use Rattle.es_split_runs.specs.Growing.GrownTrees.{grown_before, grown_empty}
use Rattle.es_split_runs.specs.Growing.NamesMore.{as_before, no_names, one_more}
use Rattle.es_split_runs.specs.Laws.{NestedRow, StoreRow, bad_fresh, property_at}
use Rattle.es_split_runs.specs.Laws.Behind.{none_behind, some_behind}
use Rattle.es_split_runs.specs.Laws.NestedRow.{nested_row}
use Rattle.es_split_runs.specs.Laws.Properties.{no_property, one_property}
use Rattle.es_split_runs.specs.Laws.StoreRow.{store_row}
use Rattle.es_split_runs.specs.Laws.WithName.{pattern_alone, with_default}
use Rattle.es_split_runs.proofs.Nested.{law_nested_proof}
use Rattle.es_split_runs.proofs.SelfGrown.{self_grown}
use Rattle.es_split_runs.proofs.Stored.{law_stored_proof}

abbrev pub bare : Label
bare = made [] []

abbrev pub key_label : Label
key_label = made [] (false ∷ false ∷ [])

abbrev pub declares : Text → Trees → Tree
declares kind ds = node VariableDeclaration (made (Some kind ∷ []) []) (many ds then done)

abbrev pub from_value : Tree → Tree → Tree
from_value p e = plain VariableDeclarator (one p then one e then done)

abbrev pub pattern : Trees → Tree
pattern ps = object_pattern_at bare ps

abbrev pub rest_of : Text → Tree
rest_of r = plain RestElement (one (x_ r) then done)

-- `a: e`
abbrev pub named : Text → Tree → Tree
named k e = property_at key_label (x_ k) e

-- STORED: `while (t) { const { a: b, ...r } = f(); g(r); }` becomes `while (t) { const _f = f(), { a: b, ...r } = _f; g(r); }`
abbrev fresh_f : List Text
fresh_f = codes "_f" ∷ []

abbrev ps_f : Trees
ps_f = named (codes "a") (x_ (codes "b")) before rest_of (codes "r") before empty

abbrev call_f : Tree
call_f = called (x_ (codes "f")) empty

abbrev call_g : Tree
call_g = statement (called (x_ (codes "g")) (x_ (codes "r") before empty))

abbrev looping : Trees → Trees
looping ds = plain WhileStatement (one (x_ (codes "t")) then one (block (declares (codes "const") ds before call_g before empty)) then done) before empty

abbrev at_once : Trees
at_once = from_value (pattern ps_f) call_f before empty

abbrev stored_first : Trees
stored_first = from_value (x_ (codes "_f")) call_f before from_value (pattern ps_f) (x_ (codes "_f")) before empty

stored_rows : GrownTrees (bad_fresh fresh_f) (among_names fresh_f) (StoreRow fresh_f) [] body_needs (looping at_once) (looping stored_first)
stored_rows = grown_before (in_node refl refl refl refl refl refl refl (grown_then (grown_one (self_grown _ _ _ (x_ (codes "t")) [] value_taken refl)) (grown_then (grown_one
    (in_block (one_more refl (as_before (as_before no_names))) refl refl
    (grown_before (at_place (store_row bare bare bare bare [] [] (codes "_f") empty ps_f call_f empty refl refl refl refl refl refl refl refl)) (grown_before (self_grown _ _ _ call_g _ value_taken refl) grown_empty)))) grown_done))) grown_empty

stored_here : RunAlike by_global false (program bare empty (looping at_once)) (program bare empty (looping stored_first))
stored_here = law_stored_proof by_global fresh_f bare empty _ _ stored_rows
    (record { tops = no_names; uses = refl; silents = refl; unsilent = λ y h. refl; undeclared = λ y h. absurd (cc h); math = refl; program_names = refl; supply = record { global = refl; require = refl } })

abbrev moves : List Move
moves = answer (boolean true) ∷ answer (a_host 1) ∷ answer (a_host 2) ∷ answer (a_host 3) ∷ answer (a_host 4) ∷ answer (a_host 5) ∷ answer (a_host 6) ∷ answer (a_host 7) ∷ answer (boolean false) ∷ []

stored_asks : questions (run by_global 1 (program bare empty (looping stored_first)) undefined moves) ≡ questions (run by_global 1 (program bare empty (looping at_once)) undefined moves)
stored_asks = refl

-- NESTED: `const o = z; for (let { a: { ...y } = d, w } = o; t;) { switch (w) { case 1: let { b, a: { ...y } } = o; } }` becomes, in two steps,
-- `const o = z; for (let { a: _r = d } = o, { ...y } = _r, { w } = o; t;) { switch (w) { case 1: let { b, a: _s } = o, { ...y } = _s; } }`
abbrev fresh_r : List Text
fresh_r = codes "_r" ∷ codes "_s" ∷ []

abbrev read_o : List Text
read_o = codes "o" ∷ []

abbrev rest_y : Trees
rest_y = rest_of (codes "y") before empty

abbrev defaulted : Tree → Tree
defaulted p = plain AssignmentPattern (one p then one (x_ (codes "d")) then done)

abbrev behind_w : Trees
behind_w = named (codes "w") (x_ (codes "w")) before empty

abbrev before_b : Trees
before_b = named (codes "b") (x_ (codes "b")) before empty

abbrev of_head : Trees
of_head = from_value (pattern (named (codes "a") (defaulted (pattern rest_y)) before behind_w)) (x_ (codes "o")) before empty

abbrev head_parts : Trees
head_parts = from_value (pattern (named (codes "a") (defaulted (x_ (codes "_r"))) before empty)) (x_ (codes "o")) before from_value (pattern rest_y) (x_ (codes "_r")) before from_value (pattern behind_w) (x_ (codes "o")) before empty

abbrev of_case : Trees
of_case = from_value (pattern (followed before_b (named (codes "a") (pattern rest_y) before empty))) (x_ (codes "o")) before empty

abbrev case_parts : Trees
case_parts = from_value (pattern (followed before_b (named (codes "a") (x_ (codes "_s")) before empty))) (x_ (codes "o")) before from_value (pattern rest_y) (x_ (codes "_s")) before empty

abbrev switching : Trees → Tree
switching ds = plain SwitchStatement (one (x_ (codes "w")) then many (plain SwitchCase (one (numeral (codes "1")) then statements (declares (codes "let") ds before empty) then done) before empty) then done)

abbrev with_for : Trees → Trees → Trees
with_for ds es = declares (codes "const") (from_value (x_ (codes "o")) (x_ (codes "z")) before empty) before
    plain ForStatement (one (declares (codes "let") ds) then one (x_ (codes "t")) then missing then one (block (switching es before empty)) then done) before empty

nested_rows : GrownTrees (bad_fresh fresh_r) (among_names fresh_r) (NestedRow fresh_r read_o) (top_in (with_for head_parts case_parts)) body_needs (with_for of_head of_case) (with_for head_parts case_parts)
nested_rows = grown_before (self_grown _ _ _ (declares (codes "const") (from_value (x_ (codes "o")) (x_ (codes "z")) before empty)) _ body_needs refl) (grown_before
    (in_for (one_more refl (as_before (as_before no_names))) refl refl
    (grown_then (grown_one (at_place (nested_row bare bare bare bare bare bare key_label [] [] [] (codes "o") (codes "_r") empty empty rest_y (x_ (codes "a")) _ _ behind_w _ empty refl refl refl refl refl refl no_property (one_property no_property) (with_default [] bare bare (x_ (codes "d"))) (some_behind [] bare bare behind_w) refl refl refl)))
    (grown_then (grown_one (self_grown _ _ _ (x_ (codes "t")) _ value_taken refl)) (grown_then grown_missing (grown_then (grown_one (in_block no_names refl refl (grown_before
    (in_switch (as_before (one_more refl (as_before no_names))) refl refl (self_grown _ _ _ (x_ (codes "w")) _ value_taken refl) (grown_before
    (in_node refl refl refl refl refl refl refl (grown_then (grown_one (self_grown _ _ _ (numeral (codes "1")) _ value_taken refl)) (grown_then (grown_statements (grown_before
    (at_place (nested_row bare bare bare bare bare bare key_label [] [] [] (codes "o") (codes "_s") empty before_b rest_y (x_ (codes "a")) _ _ empty _ empty refl refl refl refl refl refl (one_property no_property) no_property (pattern_alone []) none_behind refl refl refl))
    grown_empty)) grown_done))) grown_empty)) grown_empty))) grown_done))))) grown_empty)

o_again : (y : Text) → among_names read_o y ≡ true → (among_names fresh_r y ≡ false) × (is_own_cell y ≡ false) × (is_silent [] y ≡ false)
o_again y h = at (bytes_eq y (codes "o")) refl h
  where
    at : (b : Bool) → bytes_eq y (codes "o") ≡ b → (b || false) ≡ true → (among_names fresh_r y ≡ false) × (is_own_cell y ≡ false) × (is_silent [] y ≡ false)
    at true e k = let j : y ≡ codes "o" = (bytes_eq-Decides y (codes "o")).0 e in rw j (refl, refl, refl)
    at false e k = absurd (cc k)

o_declared : (y : Text) → is_declared (top_in (with_for of_head of_case)) y ≡ true → among_names fresh_r y ≡ false
o_declared y h = at (bytes_eq y (codes "o")) refl h
  where
    at : (b : Bool) → bytes_eq y (codes "o") ≡ b → not (is_free (if b then constant else free)) ≡ true → among_names fresh_r y ≡ false
    at true e k = let j : y ≡ codes "o" = (bytes_eq-Decides y (codes "o")).0 e in rw j refl
    at false e k = absurd (cc k)

nested_here : RunAlike no_helpers false (program bare empty (with_for of_head of_case)) (program bare empty (with_for head_parts case_parts))
nested_here = law_nested_proof no_helpers fresh_r read_o bare empty _ _ nested_rows
    (record { tops = as_before no_names; uses = refl; silents = refl; unsilent = λ y h. refl; undeclared = o_declared; math = refl; program_names = refl; supply = tt }) o_again

-- `o` is read, then `a` of it, a copy for its rest, and `w` of it; then the test, and the `case`'s
abbrev nested_moves : List Move
nested_moves = answer (a_host 1) ∷ answer (a_host 2) ∷ answer (a_host 3) ∷ answer (a_host 4) ∷ answer (a_host 5) ∷ answer (boolean true) ∷ answer (boolean true) ∷ answer (a_host 6) ∷ answer (a_host 7) ∷ answer (a_host 8) ∷ answer (a_host 9) ∷ answer (boolean false) ∷ []

nested_asks : questions (run no_helpers 1 (program bare empty (with_for head_parts case_parts)) undefined nested_moves) ≡ questions (run no_helpers 1 (program bare empty (with_for of_head of_case)) undefined nested_moves)
nested_asks = refl

nested_ends : outcome (run no_helpers 1 (program bare empty (with_for head_parts case_parts)) undefined nested_moves) ≡ finished
nested_ends = refl

nested_null : outcome (run no_helpers 1 (program bare empty (with_for head_parts case_parts)) undefined (answer null ∷ [])) ≡ outcome (run no_helpers 1 (program bare empty (with_for of_head of_case)) undefined (answer null ∷ []))
nested_null = refl
