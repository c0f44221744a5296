use Rattle.std.proofs.Common.{sym}
use Rattle.std.proofs.lemmas.List.{take_all}
use Rattle.es_tree.specs.StaticRules.{is_broken}
use Rattle.es_static_rules.specs.Outward.{outward}
use Rattle.es_static_rules.proofs.FirstBroken.{find-found, find-next}
use Rattle.es_static_rules.proofs.rules.broken_rule.Goals as goal

pub returns-then-is_broken : goal.returns-then-is_broken
returns-then-is_broken c = λ all earlier knows_all knows.
    find-found (is_broken all earlier (outward c.args.visit.ancestors.now) c.args.visit.node.now) c.args.rules.now c.loop-rule.rule-index _ c.loop-rule-test.true (sym (c.loop-rule.invariant all earlier knows_all knows)) (sym (c.if-is_broken.ensures all earlier knows_all knows))

pub loop-rule-preserved : goal.loop-rule-preserved
loop-rule-preserved c = λ all earlier knows_all knows.
    sym
    (find-next (is_broken all earlier (outward c.args.visit.ancestors.now) c.args.visit.node.now) c.args.rules.now c.loop-rule.rule-index _ c.loop-rule-test.true (sym (c.loop-rule.invariant all earlier knows_all knows)) (sym (c.if-is_broken.ensures all earlier knows_all knows)))

pub returns : goal.returns
returns c =
    let whole = take_all c.loop-rule.rule-index c.args.rules.now c.loop-rule-test.false in
    rw whole at c.loop-rule.invariant
