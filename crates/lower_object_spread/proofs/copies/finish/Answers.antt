use Rattle.std.proofs.Common.{◌∙◌, Option, Some, ap, arith, refl, subst, sym}
use Rattle.es_tree.specs.Tree.{Tree}
use Rattle.es_steps.specs.Nodes.{call_node}
use Rattle.lower_temporaries.proofs.Takings.{reads-ids, reads-then}
use Rattle.lower_object_spread.specs.Copying.{CopiesLast, helper, literals_before}
use Rattle.lower_object_spread.proofs.Copying.{last-more, some-pending}
use Rattle.lower_object_spread.proofs.copies.finish.Goals as goal

pub returns : goal.returns
returns c =
    let old = c.args.ctx.now in
    let new = c.new_copy.new.ctx in
    let copy = c.in-Some.copy in
    let pending = c.args.copied.pending in
    let node = c.in_ok-node.node in
    let reads = reads-then {m = literals_before (Some copy) pending.items} {n = 4} (reads-ids _ old _ c.in_ok-arguments.ensures.counted refl (record { used = λ x. refl; made_is = refl }) (record { state = refl; options = refl; around = refl; scopes = refl; place = refl })) c.in_ok-node.ensures.reads in
    subst (λ (o : Option Tree). CopiesLast old new o pending.items node) (sym c.in-Some.is)
    (last-more old new copy node pending.items (some-pending _ pending.items (sym c.is_empty.ensures ∙ c.if-is_empty.false) (omega (arith, pending.ok.0)))
    (λ names. c.in_ok-node.ensures.made names ∙ ap (call_node helper) (c.in_ok-arguments.ensures.made names)) reads)
