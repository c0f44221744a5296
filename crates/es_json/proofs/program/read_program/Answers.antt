use Rattle.std.proofs.Common.{arith}
use Rattle.serde_json.specs.View.{view}
use Rattle.es_tree.specs.declared.table.Sort.TheVariants.{Program as s-Program}
use Rattle.es_json.proofs.NoFaults.{no_faults}
use Rattle.es_json.proofs.TreeObjects.{size_within}
use Rattle.es_json.proofs.program.read_program.Goals as goal

pub returns-in-Ok-clause-size : goal.returns-in-Ok-clause-size
returns-in-Ok-clause-size c =
    omega (arith, size_within s-Program (view c.args.value.now) c.in-Ok.program c.in-Ok.ensures.form)

pub returns-in-Ok-clause-none : goal.returns-in-Ok-clause-none
returns-in-Ok-clause-none c = no_faults s-Program (view c.args.value.now) c.in-Ok.program c.in-Ok.ensures.form
