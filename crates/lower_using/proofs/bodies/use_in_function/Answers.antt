use Rattle.std.proofs.Common.{arith}
use Rattle.lower_using.proofs.BodyTests.{function-length}
use Rattle.lower_using.proofs.bodies.use_in_function.Goals as goal

pub exactly-requires : goal.exactly-requires
exactly-requires c = (omega arith, function-length c.args.fields.items c.requires)
