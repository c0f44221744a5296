use Rattle.std.proofs.Common.{◌<◌, ◌≤◌, ◌∙◌, length}
use Rattle.es_tree.proofs.Children.{child_at-get, child_at-past}
use Rattle.es_tree.proofs.node.Node.child_at.Goals as goal

pub returns-in_err-get : goal.returns-in_err-get
returns-in_err-get c =
    let past : length c.deref.result.now ≤ c.args.index = c.in_err-get.ensures.lookup.3 in
    rw (← c.self.view_is, ← c.deref.ensures.value, c.from_residual.ensures) (child_at-past c.deref.result.now c.args.index past)

pub returns : goal.returns
returns c =
    let inside : c.args.index < length c.deref.result.now = c.in_ok-get.ensures.lookup.3.0 in
    rw (← c.self.view_is, ← c.deref.ensures.value) (c.only_child.ensures ∙ child_at-get c.deref.result.now c.args.index c.in_ok-get.field-0.now inside c.in_ok-get.ensures.lookup.1)
