-- Each export of a namespace is lowered by two steps in the list of the program: the rule puts the import beside the export, and what
-- stands beside is written. Whatever is pending for the list stays so.
use Rattle.std.proofs.Common.{◌≡◌, refl}
use Rattle.std.specs.Prelude.{true, None}
use Rattle.es_tree.specs.HasForm.{trees_form}
use Rattle.es_tree.specs.Tree.{Label, Trees, empty, ◌before◌}
use Rattle.es_tree.specs.declared.ast_type.AstType.TheVariants.{Program}
use Rattle.es_tree.specs.declared.table.Sort.TheVariants.{Statement as s-Statement}
use Rattle.es_steps.specs.Laws.{nothing_beside}
use Rattle.es_steps.specs.NamespaceExports.{NamespaceRule, namespace_import}
use Rattle.es_steps.specs.NamespaceExports.NamespaceRule.{exports}
use Rattle.es_steps.specs.Nodes.{placed}
use Rattle.es_steps.specs.Open.{Open, OpenField, OpenTrees, Pending, ends, list, no_additions, open_node, opened, opened_trees, ◌and◌, ◌next◌}
use Rattle.es_steps.specs.Rules.{Writing, next_name}
use Rattle.es_steps.specs.Rules.Writing.{insertions}
use Rattle.es_steps.specs.Steps.{Ledger, ledger, Site, Spot, Step, Steps, TreesStep, Whole, is_program_list, the_program}
use Rattle.es_steps.specs.Steps.FieldStep.{in_program}
use Rattle.es_steps.specs.Steps.FieldsStep.{in_first, in_later}
use Rattle.es_steps.specs.Steps.Step.{inside}
use Rattle.es_steps.specs.Steps.Steps.{goes, stays}
use Rattle.es_steps.specs.Steps.TreesStep.{acts_on_flanked, flanks, in_tail}
use Rattle.es_steps.proofs.FormLists.{first-formed}
use Rattle.lower_namespace_exports.proofs.Formed.{silent-parts}
use Rattle.lower_namespace_exports.proofs.Shown.{Shown, export_all, export_of_name}
use Rattle.lower_namespace_exports.proofs.Shown.Shown.{lowered, nothing, same}

module _ (R : Site → Ledger → Spot → Ledger → Spot → Type 0) (exporting : (n : Site) (s : Ledger) (x : Spot) (s' : Ledger) (y : Spot) → NamespaceRule n s x s' y → R n s x s' y) (writing : (n : Site) (s : Ledger) (x : Spot) (s' : Ledger) (y : Spot) → Writing n s x s' y → R n s x s' y) (l : Label) (ds : OpenField) (p : Pending) where
  -- the program with these statements, for whose list this is pending
  abbrev pub program : OpenTrees → Open
  program ts = open_node Program l (ds and (list p None no_additions ts and ends))

  abbrev beside : Whole → Ledger
  beside w = ledger w p None no_additions

  in-the-list : {w v : Whole} {ts us : OpenTrees} → ((n : Site) → is_program_list n.above ≡ true → TreesStep R n (beside w) ts (beside v) us) → Step R the_program (nothing_beside w) (program ts) (nothing_beside v) (program us)
  in-the-list h = inside (in_later (in_first (in_program refl (h _ refl))))

  -- behind statements that are done
  abbrev IsBehind : (OpenTrees → OpenTrees) → Type 0
  IsBehind c = (n : Site) (s s' : Ledger) (ts us : OpenTrees) → TreesStep R n s ts s' us → TreesStep R n s (c ts) s' (c us)

  pub rows : (c : OpenTrees → OpenTrees) → IsBehind c → {w v : Whole} {ts us : Trees} → Shown w ts v us → trees_form s-Statement s-Statement ts ≡ true → Steps (Step R the_program) (nothing_beside w) (program (c (opened_trees ts))) (nothing_beside v) (program (c (opened_trees us)))
  rows c behind nothing h = stays
  rows c behind (same {ts = ts} t e r) h = rows (λ vs. c (opened t next vs)) (λ n s s' vs ws d. behind n s s' (opened t next vs) (opened t next ws) (in_tail d)) r (first-formed s-Statement t ts h).1
  rows c behind (lowered {w = w} {ts = ts} {us = us} m e s attributes x fresh r) h =
      let y = next_name w x in
      let import_now = placed m (namespace_import y s attributes) in
      let export_now = export_of_name y e in
      let parts = first-formed s-Statement (export_all m e s attributes) ts h in
      let silent = silent-parts m e s attributes parts.0 in
      let first = in-the-list (λ n d. behind n _ _ _ _ (flanks (export_all m e s attributes) export_now (exporting n _ _ _ _ (exports d fresh silent.exported silent.source silent.attributes_silent)))) in
      let second = in-the-list (λ n d. behind n _ _ _ _ (acts_on_flanked export_now (import_now before (export_now before empty)) (writing n _ _ _ _ insertions))) in
      goes first (goes second (rows (λ vs. c (opened import_now next (opened export_now next vs))) (λ n s s' vs ws d. behind n s s' _ _ (in_tail (in_tail d))) r parts.1))
