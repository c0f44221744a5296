use Rattle.std.proofs.Common.{ap, ◌∙◌, arith}
use Rattle.es_tree.specs.Marks.{with_scope}
use Rattle.es_scope.specs.Tables.{scope_count}
use Rattle.es_semantic.specs.Places.{outermost}
use Rattle.es_semantic.specs.ReferencesOf.{marked_tree}
use Rattle.es_semantic.specs.ScopesOf.{scopes_of}
use Rattle.es_semantic.specs.SymbolsOf.{symbols_of}
use Rattle.es_semantic.proofs.ReferredPrograms.{known_more, program_at, program_room, program_table}
use Rattle.es_semantic.proofs.referring.refer_program.Goals as goal

pub mark_node-requires : goal.mark_node-requires
mark_node-requires c =
    let p = c.args.program.now in let s = c.args.scoping.now in
    let room = program_room p (symbols_of p) s c.requires.names in
    record { known = known_more c.outermost-place.result 1 (scope_count s) (omega (arith, room)) c.outermost-place.ensures.known; room = omega (arith, room) }

pub returns-clause-table : goal.returns-clause-table
returns-clause-table c =
    let p = c.args.program.now in let s = c.args.scoping.now in
    let here = program_at c.outermost-place.result p s c.outermost-place.ensures.stands c.requires.names in
    program_table p s _ c.requires.names (c.in_ok-mark_node.ensures.referred (outermost p) (scopes_of p) (symbols_of p) here)

pub returns-clause-marks : goal.returns-clause-marks
returns-clause-marks c =
    let p = c.args.program.now in let s = c.args.scoping.now in
    let here = program_at c.outermost-place.result p s c.outermost-place.ensures.stands c.requires.names in
    let marked = c.in_ok-mark_node.ensures.marked (outermost p) (scopes_of p) (symbols_of p) here in
    c.mark_scope.ensures ∙ (ap with_scope marked ∙ ap (λ m. with_scope (marked_tree (symbols_of p) (outermost p) 1 m p)) c.requires.names.none_referred)
