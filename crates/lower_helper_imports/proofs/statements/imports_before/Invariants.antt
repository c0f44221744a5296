use Rattle.std.proofs.Common.{◌≡◌, ◌+◌, drop}
use Rattle.lower_helper_imports.specs.Parts.{imports_before}
use Rattle.lower_helper_imports.proofs.statements.imports_before.Given as goal

-- the statements so far are imports
abbrev pub invariant-loop-index : goal.invariant-loop-index
invariant-loop-index l = l.index + imports_before (drop l.index l.statements) ≡ imports_before l.statements
