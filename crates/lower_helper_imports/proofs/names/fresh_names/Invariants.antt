use Rattle.std.proofs.Common.{take}
use Rattle.es_scope.specs.Uids.{made, uses}
use Rattle.es_steps.specs.CoreBridge.{first_whole}
use Rattle.lower_helper_imports.proofs.FreshNames.{MadeFor}
use Rattle.lower_helper_imports.proofs.names.fresh_names.Given as goal

-- names were made for the helpers so far
abbrev pub invariant-loop-helper : goal.invariant-loop-helper
invariant-loop-helper l = MadeFor (first_whole l.program).in_use (uses l.uids) (take l.helper-index l.helpers) (made l.uids)
