use Rattle.lower_editions.specs.Apart.{es2018_apart}
use Rattle.lower_editions.proofs.es2018.ES2018.lowerings.Goals as goal

-- src/es2018.rt:29:9
pub new-requires-3-clause-apart : goal.new-requires-3-clause-apart
new-requires-3-clause-apart c = es2018_apart
