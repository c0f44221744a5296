-- The laws of `var` statements and of exports of namespaces at some programs, so that it is seen that their premises can be met.
use Rattle.std.proofs.Common.{refl, [], ◌∷◌}
use Rattle.std.specs.Prelude.{Bool, List, true, false, Some, codes}
use Rattle.es_tree.specs.Words.{Text}
use Rattle.es_tree.specs.Tree.{Tree, Label, node, done, ◌then◌, one, many, missing, statements, Trees, empty, ◌before◌}
use Rattle.es_tree.specs.declared.ast_type.AstType.TheVariants.{ExportAllDeclaration, ImportDeclaration, ImportDefaultSpecifier, LogicalExpression, SwitchCase, SwitchStatement, VariableDeclaration, VariableDeclarator}
use Rattle.es_runs.specs.Alike.{Level, bad_names}
use Rattle.es_runs.specs.Rules.{tested_by}
use Rattle.es_runs.specs.Runs.{made, identifier, none_hidden, only, program}
use Rattle.es_statement_runs.specs.BareVars.{BareVar, BesideList, PutList}
use Rattle.es_statement_runs.specs.BareVars.BareDeclarators.{none_bare, one_bare}
use Rattle.es_statement_runs.specs.BareVars.BareVar.{bare_var}
use Rattle.es_statement_runs.specs.BareVars.Beside.{in_block}
use Rattle.es_statement_runs.specs.BareVars.GrownDeclarators.{as_named, none_grown, one_grown}
use Rattle.es_statement_runs.specs.BareVars.PutField.{put_many}
use Rattle.es_statement_runs.specs.BareVars.PutFields.{put_done, put_then}
use Rattle.es_statement_runs.specs.BareVars.PutIn.{put_block, put_case, put_node}
use Rattle.es_statement_runs.specs.BareVars.PutList.{grown_var, new_var, put_end, put_statement}
use Rattle.es_statement_runs.specs.BareVars.PutTrees.{put_before, put_empty}
use Rattle.es_statement_runs.specs.BareVars.BesideList.{list_ends, both_have, first_has, second_has}
use Rattle.es_statement_runs.specs.Helpers.Supply.{by_global, no_helpers}
use Rattle.es_statement_runs.specs.Laws.{NullishRow, SplitExports, among_names, body_needs, export_of, namespace_import, no_row}
use Rattle.es_statement_runs.specs.Laws.NullishRow.{nullish_row}
use Rattle.es_statement_runs.specs.Laws.SplitExports.{as_it_is, none_split, one_split}
use Rattle.es_statement_runs.specs.Names.{top_in}
use Rattle.es_statement_runs.specs.Places.{CloseTrees, target_taken}
use Rattle.es_statement_runs.specs.Places.Close.{placed, within}
use Rattle.es_statement_runs.specs.Places.CloseField.{close_one, close_statements}
use Rattle.es_statement_runs.specs.Places.CloseFields.{close_done, close_then}
use Rattle.es_statement_runs.specs.Places.CloseTrees.{close_before, close_empty}
use Rattle.es_statement_runs.specs.Runs.{RunAlike}
use Rattle.es_statement_runs.proofs.BareVars.{MoreDeclared, declared_apart, kinds_kept, law_vars_proof, list_beside}
use Rattle.es_statement_runs.proofs.BareVars.MoreDeclared.{as_before, declared_more, none_declared}
use Rattle.es_statement_runs.proofs.Temporaries.{field_self, law_temporaries_proof, list_self, put_self}
use Rattle.es_statement_runs.proofs.NamespaceExports.{law_namespace_exports_proof}
use Rattle.es_statement_runs.proofs.Composing.{law_then_proof}
use Rattle.es_statement_runs.proofs.Everywhere.{close_self}
use Rattle.es_statement_runs.proofs.Rows.{law_nullish_proof}
use Rattle.es_statement_runs.proofs.Examples.{assign, block, called, plain, statement, string, x_}

abbrev bare : Label
bare = made [] []

abbrev a_ : Text
a_ = codes "_a"

abbrev b_ : Text
b_ = codes "_b"

abbrev name_alone : Text → Tree
name_alone x = plain VariableDeclarator (one (identifier x) then missing then done)

abbrev vars : Trees → Tree
vars ds = node VariableDeclaration (made (Some (codes "var") ∷ []) []) (many ds then done)

abbrev var_a : Tree
var_a = vars (name_alone a_ before empty)

abbrev var_b : Tree
var_b = vars (name_alone b_ before empty)

abbrev var_a_b : Tree
var_a_b = vars (name_alone a_ before name_alone b_ before empty)

bare_a_b : BareVar var_a_b
bare_a_b = bare_var refl (one_bare (one_bare none_bare))

-- behind an import, in a block and in a case: `import f from "m"; { f(); switch (t) { case y: f(); } }`
abbrev imported : Tree
imported = plain ImportDeclaration (many (plain ImportDefaultSpecifier (one (x_ (codes "f")) then done) before empty) then one (string (codes "m")) then many empty then done)

abbrev call : Tree
call = statement (called (x_ (codes "f")) empty)

abbrev in_switch : Trees → Tree
in_switch ts = plain SwitchStatement (one (x_ (codes "t")) then many (plain SwitchCase (one (x_ (codes "y")) then statements ts then done) before empty) then done)

abbrev nested : Trees
nested = imported before block (call before in_switch (call before empty) before empty) before empty

abbrev nested_vars : Trees
nested_vars = imported before block (var_a before call before in_switch (var_b before call before empty) before empty) before empty

abbrev both : List Text
both = a_ ∷ b_ ∷ []

nested_rows : PutList (among_names both) nested nested_vars
nested_rows = put_statement (put_self both imported) (put_statement (put_block refl (new_var refl (one_grown refl none_grown) (put_statement (put_self both call)
    (put_statement (put_node refl refl (put_then (field_self both (one (x_ (codes "t")))) (put_then (put_many (put_before (put_case refl (field_self both (one (x_ (codes "y")))) (new_var refl (one_grown refl none_grown) (list_self both (call before empty)))) put_empty)) put_done)))
    put_end)))) put_end)

nested_here : RunAlike by_global false (program bare empty nested) (program bare empty nested_vars)
nested_here = law_temporaries_proof by_global both bare empty nested nested_vars nested_rows refl (declared_apart both (top_in nested) refl) refl (λ y e. refl) refl refl (record { global = refl; require = refl })

-- `{ var _a; f(_a = y); }` and `{ var _a, _b; f(_a = y); }`, and with `var _a, _b;` at the top
abbrev used : Tree
used = statement (called (x_ (codes "f")) (assign (x_ a_) (x_ (codes "y")) before empty))

abbrev growing : Trees → Trees
growing ts = block ts before empty

grown_rows : PutList (among_names (b_ ∷ [])) (growing (var_a before used before empty)) (growing (var_a_b before used before empty))
grown_rows = put_statement (put_block refl (grown_var refl refl (as_named refl (one_grown refl none_grown)) (list_self (b_ ∷ []) (used before empty)))) put_end

grown_here : RunAlike no_helpers false (program bare empty (growing (var_a before used before empty))) (program bare empty (growing (var_a_b before used before empty)))
grown_here = law_temporaries_proof no_helpers (b_ ∷ []) bare empty _ _ grown_rows refl (declared_apart (b_ ∷ []) (top_in (growing (var_a before used before empty))) refl) refl (λ y e. refl) refl refl tt

moved_rows : BesideList (bad_names (among_names []) none_hidden) (λ es. no_row) (top_in (growing (var_a_b before used before empty))) true (growing (var_a_b before used before empty)) (var_a_b before growing (used before empty))
moved_rows = second_has bare_a_b (both_have (in_block refl refl refl (first_has bare_a_b (list_beside _ (λ es. no_row) _ false (used before empty) refl))) list_ends)

moved_here : RunAlike no_helpers false (program bare empty (growing (var_a_b before used before empty))) (program bare empty (var_a_b before growing (used before empty)))
moved_here = law_vars_proof no_helpers [] bare empty _ _ moved_rows (λ y e. refl) (λ y e. refl) refl (λ y e. refl) refl refl tt

-- `f(); export * as n from "m"; import f from "m";`
abbrev exports_n : Tree
exports_n = plain ExportAllDeclaration (one (x_ (codes "n")) then one (string (codes "m")) then many empty then done)

abbrev n_ : List Text
n_ = codes "_n" ∷ []

abbrev exported_body : Trees
exported_body = call before exports_n before imported before empty

abbrev split_body : Trees
split_body = call before namespace_import bare bare (codes "_n") (string (codes "m")) empty before export_of bare bare (codes "_n") (x_ (codes "n")) before imported before empty

split_rows : SplitExports (bad_names (among_names n_) none_hidden) n_ exported_body split_body
split_rows = as_it_is refl (one_split refl refl (as_it_is refl none_split))

split_tops : MoreDeclared (codes "const") n_ (top_in exported_body) (top_in split_body)
split_tops = declared_more refl refl (as_before none_declared)

split_here : RunAlike by_global false (program bare empty exported_body) (program bare empty split_body)
split_here = law_namespace_exports_proof by_global n_ bare empty exported_body split_body split_rows (kinds_kept (codes "const") n_ split_tops) (declared_apart n_ (top_in exported_body) refl) refl (λ y e. refl) refl refl (record { global = refl; require = refl })

-- `{ y = a ?? b; }` with its temporary in the block: the row, with a `var` at the top, and then that moves
abbrev coalesced : Tree
coalesced = node LogicalExpression (made (Some (codes "??") ∷ []) []) (one (x_ (codes "a")) then one (x_ (codes "b")) then done)

abbrev tested : Tree
tested = tested_by (made (Some (codes "??") ∷ []) []) a_ (x_ (codes "a")) (x_ (codes "b"))

abbrev setting : Tree → Trees
setting e = statement (assign (x_ (codes "y")) e) before empty

abbrev bad_a : Level → Text → Bool
bad_a = bad_names (only a_) none_hidden

coalescing_rows : CloseTrees bad_a (NullishRow a_) body_needs (growing (setting coalesced)) (growing (setting tested))
coalescing_rows = close_before (within refl refl refl refl refl refl refl (close_then (close_statements (close_before (within refl refl refl refl refl refl refl (close_then (close_one
    (within refl refl refl refl refl refl refl (close_then (close_one (close_self bad_a (NullishRow a_) (x_ (codes "y")) target_taken refl)) (close_then (close_one (placed (nullish_row refl refl refl))) close_done))))
    close_done)) close_empty)) close_done)) close_empty

inward_rows : BesideList (bad_names (among_names []) none_hidden) (λ es. no_row) (top_in (var_a before growing (setting tested))) true (var_a before growing (setting tested)) (growing (var_a before setting tested))
inward_rows = first_has (bare_var refl (one_bare none_bare)) (both_have (in_block refl refl refl (second_has (bare_var refl (one_bare none_bare)) (list_beside _ (λ es. no_row) _ false (setting tested) refl))) list_ends)

inward_here : RunAlike no_helpers false (program bare empty (growing (setting coalesced))) (program bare empty (growing (var_a before setting tested)))
inward_here = law_then_proof no_helpers false (program bare empty (growing (setting coalesced))) (program bare empty (var_a before growing (setting tested))) (program bare empty (growing (var_a before setting tested))) (law_nullish_proof a_ bare empty (growing (setting coalesced)) (growing (setting tested)) coalescing_rows refl refl refl refl refl)
    (law_vars_proof no_helpers [] bare empty (var_a before growing (setting tested)) (growing (var_a before setting tested)) inward_rows (λ y e. refl) (λ y e. refl) refl (λ y e. refl) refl refl tt) (λ y e. absurd (cc e))
