use Rattle.std.proofs.Common.{sym, ap}
use Rattle.es_tree.specs.Tree.{label_of}
use Rattle.es_static_rules.specs.Outward.{outward}
use Rattle.es_static_rules.proofs.FirstBroken.{breaks_at-none, breaks_at-first}
use Rattle.es_static_rules.proofs.static_rules.check_visit.Goals as goal

pub returns-in-Some : goal.returns-in-Some
returns-in-Some c = λ all earlier knows_all knows.
    (breaks_at-first c.args.pass.rules.now all earlier (outward c.args.ancestors.now) 0 c.args.node.now c.in-Some.rule c.node.inside.id (sym (c.in-Some.ensures all earlier knows_all knows)) (sym (ap (λ t. (label_of t).id) c.node.view_is)), tt)

pub returns : goal.returns
returns c = λ all earlier knows_all knows. (
  breaks_at-none c.args.pass.rules.now all earlier (outward c.args.ancestors.now) 0 c.args.node.now (sym (c.in_default.ensures all earlier knows_all knows)),
  rw (← c.in_ok-declared.ensures, ← c.deref-2.ensures.value) (c.in_ok-declare_all.ensures earlier knows),
)
