use Rattle.std.proofs.Common.{arith, sym}
use Rattle.es_tree.specs.Tree.{trees}
use Rattle.lower_using.proofs.BodyTests.{fewer-directives, more-directives}
use Rattle.lower_using.proofs.places.uses_after_directives.Goals as goal

pub returns-in_default : goal.returns-in_default
returns-in_default c = sym (fewer-directives (trees c.args.parameters.now) c.args.fields.now (omega (arith, c.in_default.len_below)))

pub returns-in_default-4 : goal.returns-in_default-4
returns-in_default-4 c = sym (more-directives (trees c.args.parameters.now) c.args.fields.now (omega (arith, c.in_default.len_at_least)))
