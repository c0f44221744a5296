use Rattle.std.proofs.Common.{arith}
use Rattle.lower_using.proofs.BodyTests.{arrow-length}
use Rattle.lower_using.proofs.bodies.use_in_arrow.Goals as goal

pub exactly-requires : goal.exactly-requires
exactly-requires c = (omega arith, arrow-length c.args.fields.items c.requires)
