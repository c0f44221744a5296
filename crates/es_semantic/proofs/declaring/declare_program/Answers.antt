use Rattle.std.proofs.Common.{[], ◌∷◌}
use Rattle.es_scope.specs.TableChanges.{IsRootAlone}
use Rattle.es_semantic.specs.Places.{outermost}
use Rattle.es_semantic.specs.ProgramFlags.{program_flags}
use Rattle.es_semantic.proofs.HeldTables.{Holds-root}
use Rattle.es_semantic.proofs.declaring.declare_program.Goals as goal

pub returns : goal.returns
returns c =
    let p = c.args.program.now in let flags = program_flags p in
    let root : IsRootAlone flags c.in_ok-scoping.scoping = rw (← c.program_flags.ensures) c.in_ok-scoping.ensures in
    c.in_ok-declare_node.ensures.declared (outermost p) c.outermost.ensures.stands (record { around = []; flags = flags } ∷ []) [] (Holds-root flags c.in_ok-scoping.scoping root)
