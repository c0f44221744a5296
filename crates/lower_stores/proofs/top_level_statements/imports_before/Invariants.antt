use Rattle.std.proofs.Common.{◌≡◌, ◌+◌, drop}
use Rattle.lower_stores.specs.TopLevel.{imports_before}
use Rattle.lower_stores.proofs.top_level_statements.imports_before.Given as goal

abbrev pub invariant-loop-index : goal.invariant-loop-index
invariant-loop-index l = imports_before l.statements ≡ imports_before (drop l.index l.statements) + l.index
