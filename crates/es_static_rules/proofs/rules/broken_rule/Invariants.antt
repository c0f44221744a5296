use Rattle.std.proofs.Common.{take, None}
use Rattle.es_static_rules.specs.Checks.{IsFirstBroken}
use Rattle.es_static_rules.specs.Outward.{outward}
use Rattle.es_static_rules.proofs.rules.broken_rule.Given as goal

abbrev pub invariant-loop-rule : goal.invariant-loop-rule
invariant-loop-rule l = IsFirstBroken l.all l.names (outward l.visit.ancestors.now) l.visit.node.now (take l.rule-index l.rules) None
