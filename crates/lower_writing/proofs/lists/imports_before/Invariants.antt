use Rattle.std.proofs.Common.{◌≡◌, ◌+◌, drop}
use Rattle.lower_writing.specs.Lists.{imports_before}
use Rattle.lower_writing.proofs.lists.imports_before.Given as goal

-- the statements so far are imports
abbrev pub invariant-loop-index : goal.invariant-loop-index
invariant-loop-index l = l.index + imports_before (drop l.index l.statements) ≡ imports_before l.statements
