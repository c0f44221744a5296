-- The law of exports that are split: what a program becomes is reached by steps of the rule, each name keeps its binding, it breaks no static rule, and it is
-- the same to other modules.
use Rattle.std.proofs.Common.{◌≡◌, refl, sym, []}
use Rattle.std.specs.Prelude.{true, false}
use Rattle.es_tree.specs.Bare.{bare}
use Rattle.es_tree.specs.HasForm.{has_form}
use Rattle.es_tree.specs.StaticRules.{breaks}
use Rattle.es_tree.specs.Tree.{Tree, Label, Field, done, ◌then◌, missing, many, one, statements, Trees, empty}
use Rattle.es_tree.specs.declared.ast_type.AstType.TheVariants.{Program}
use Rattle.es_tree.specs.declared.table.Sort.TheVariants.{Program as s-Program}
use Rattle.es_tree.proofs.NodeForm.{node_form}
use Rattle.es_resolution.specs.Laws.{source}
use Rattle.es_steps.specs.CoreBridge.{first_whole}
use Rattle.es_steps.specs.Laws.{IsWellBound, nothing_beside}
use Rattle.es_steps.specs.Open.{opened}
use Rattle.es_steps.specs.Steps.{Step, Steps, Whole, the_program}
use Rattle.es_steps.proofs.Reached.{bindings-keep}
use Rattle.es_module_names.specs.Laws.{SameOutside}
use Rattle.es_module_names.proofs.BareNames.{law_outside_bare_proof}
use Rattle.es_reached.proofs.Results.{form-same, outside-then, program-kind, rules-bare, source-form, source-well-bound}
use Rattle.es_reached.proofs.Sources.{law_bare_source_proof}
use Rattle.es_top_imports.proofs.TopForms.{IsProgram, is_program, program-is, program_with}
use Rattle.es_export_splits.specs.Laws.{LawSplit}
use Rattle.es_export_splits.specs.SplitRule.{ExportRule}
use Rattle.es_export_splits.specs.Splits.{plainly, split, with_symbols}
use Rattle.es_export_splits.proofs.ExportBare.{IsListed, is_listed, splits-alike}
use Rattle.es_export_splits.proofs.ExportRules.{export-lawful, export-writes}
use Rattle.es_export_splits.proofs.ExportSteps.{reaches}

-- PROGRAMS have a list of directives

listed-with : (l : Label) (d : Field) (ts : Trees) → has_form s-Program (program_with l d ts) ≡ true → IsListed (program_with l d ts)
listed-with l (many ds) ts f = is_listed l ds ts
listed-with l missing ts f = absurd (let no : false ≡ true = (node_form s-Program Program l (missing then statements ts then done) f).children in cc no)
listed-with l (one t) ts f = absurd (let no : false ≡ true = (node_form s-Program Program l (one t then statements ts then done) f).children in cc no)
listed-with l (statements us) ts f = absurd (let no : false ≡ true = (node_form s-Program Program l (statements us then statements ts then done) f).children in cc no)

pub listed : (t : Tree) → IsProgram t → has_form s-Program t ≡ true → IsListed t
listed t (is_program l d ts) f = listed-with l d ts f

-- WHERE STEPS LEAD

record Leads (w : Whole) (t u : Tree) : Type 0 where
  steps : Steps (Step ExportRule the_program) (nothing_beside w) (opened t) (nothing_beside w) (opened u)
  form : has_form s-Program u ≡ true
  kept : breaks u ≡ []
  outside : SameOutside t u

leads : (w : Whole) (t : Tree) → IsListed t → has_form s-Program t ≡ true → breaks t ≡ [] → IsWellBound w t → Leads w t (split with_symbols t)
leads w t (is_listed l ds ts) f e bound =
    let r = reaches l (many ds) w ts empty (record { form = f; kept = e; bound = bound }) in
    record { steps = r.steps; form = r.ready.form; kept = r.ready.kept; outside = r.outside }

-- THE LAW

pub law_split_proof : LawSplit
law_split_proof p form right =
    let first = first_whole p in
    let same = sym (law_bare_source_proof p) in
    let there = source-form p form in
    let bound = source-well-bound p form right in
    let shape = listed (source p) (program-is (source p) there) there in
    let r = leads first (source p) shape there (rules-bare p (source p) same right) bound in
    let q = split with_symbols (source p) in
    let written : bare q ≡ bare (split plainly p) = splits-alike (source p) p shape (listed p (program-is p form) form) (law_bare_source_proof p) in
    record {
      resolved = q;
      written = written;
      reached = record { whole = first; steps = r.steps; made = refl };
      bindings = bindings-keep ExportRule export-lawful export-writes (source p) q first first (program-kind (source p) there) bound r.steps;
      form = form-same q (split plainly p) written r.form;
      kept = rules-bare q (split plainly p) written r.kept;
      outside = outside-then (law_outside_bare_proof p (source p) same) (outside-then r.outside (law_outside_bare_proof q (split plainly p) written));
    }
