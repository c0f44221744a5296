use Rattle.std.proofs.Common.{◌∙◌, map, subst, sym}
use Rattle.std.specs.Prelude.{string_bytes}
use Rattle.es_tree.specs.Tree.{trees}
use Rattle.es_statements.specs.ProgramArity.{IsProgram}
use Rattle.es_steps.specs.CoreBridge.{first_whole}
use Rattle.es_helper_calls.specs.HelperCalls.{calling}
use Rattle.es_helper_calls.specs.Importing.{is_module}
use Rattle.es_helper_imports.specs.Imported.{AreFresh}
use Rattle.es_top_imports.specs.TopImports.{with_top}
use Rattle.lower_helper_imports.specs.Parts.{callee_of, source_type}
use Rattle.lower_helper_imports.proofs.BareImports.{imports-to}
use Rattle.lower_helper_imports.proofs.OpenedProgram.{called-opens, program_opens}
use Rattle.lower_helper_imports.proofs.PutStatements.{statements_of}
use Rattle.lower_helper_imports.proofs.import_helpers.Goals as goal

pub import_all-requires : goal.import_all-requires
import_all-requires c = subst IsProgram (sym c.in_ok-call_by_names.ensures) (called-opens (callee_of c.as_slice-2.result.now c.as_slice-3.result.now) c.args.program (program_opens c.args.program c.requires))

pub returns : goal.returns
returns c =
    let p = c.args.program in let n = c.call_by_names.new.node in let m = c.args.module_name.now in
    let xs = c.in_ok-names.names.items in let in_use = (first_whole p).in_use in
    imports-to in_use m c.in_ok-helpers.helpers.items xs p n c.in_ok-program.program c.in_ok-helpers.ensures
    (subst (λ hs. AreFresh in_use hs (map string_bytes xs)) c.as_slice.ensures.value c.in_ok-names.ensures)
    (c.in_ok-call_by_names.ensures ∙ (λ i. calling (callee_of (c.as_slice-2.ensures.value i) (c.as_slice-3.ensures.value i)) p))
    (c.in_ok-program.ensures ∙ (λ i. with_top (trees (statements_of (source_type (is_module n)) m (c.as_slice-4.ensures.value i) (c.as_slice-5.ensures.value i))) n))
