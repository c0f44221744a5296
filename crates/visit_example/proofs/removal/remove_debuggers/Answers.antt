use Rattle.std.proofs.Common.{Some, refl, arith}
use Rattle.es_tree.specs.Tree.{trees}
use Rattle.es_visit.specs.declared.hook.Hook.TheVariants.{Statement}
use Rattle.es_traverse.proofs.NothingAsked.{nothing-asked-sound}
use Rattle.visit_example.proofs.Left.{none-left}
use Rattle.visit_example.proofs.removal.remove_debuggers.Goals as goal

pub traverse-requires-clause-can : goal.traverse-requires-clause-can
traverse-requires-clause-can g c = record { pairs = λ s e. refl; sound = nothing-asked-sound; counts = λ n t. refl; leaves = λ n t. refl }

pub traverse-requires-clause-ready : goal.traverse-requires-clause-ready
traverse-requires-clause-ready g c = record { suited = tt; room = c.requires.room; pair = omega arith }

pub returns-clause-none : goal.returns-clause-none
returns-clause-none g c names fits = none-left names (trees c.traverse.new.program.body.items) ((c.in_ok-traverse.ensures.visited names).free refl fits refl (Some Statement))
