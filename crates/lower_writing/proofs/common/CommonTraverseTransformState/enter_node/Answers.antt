use Rattle.std.proofs.Common.{◌≡◌, ◌∙◌, subst, sym}
use Rattle.es_scope.specs.Contexts.{around_of}
use Rattle.es_resolution.specs.Seen.{seen}
use Rattle.es_traverse.specs.Loads.{load}
use Rattle.lower_temporaries.specs.Takings.{moment_of}
use Rattle.lower_writing.specs.Wrapping.{IsCallOf}
use Rattle.lower_writing.proofs.WrapHooks.{entered-left, entered-other, entered-wrapped, kept-wrapped, room-for-call, to-wrap-seen}
use Rattle.lower_writing.proofs.common.CommonTraverseTransformState.enter_node.Goals as goal

pub called_arrow-requires : goal.called_arrow-requires
called_arrow-requires c = record { room = room-for-call c.args.hook c.args.site (moment_of c.args.ctx.now) (load c.args.node.now) (sym c.is_slot_hook.ensures ∙ c.if-not-is_slot_hook.false) c.requires.ready.room }

pub returns-then-not-is_slot_hook-clause-entered : goal.returns-then-not-is_slot_hook-clause-entered
returns-then-not-is_slot_hook-clause-entered c names = entered-other c.args.ctx.now.options c.args.hook c.args.site _ _ (sym c.is_slot_hook.ensures ∙ c.if-not-is_slot_hook.true)

pub returns-then-not-is_to_wrap-clause-entered : goal.returns-then-not-is_to_wrap-clause-entered
returns-then-not-is_to_wrap-clause-entered c names =
    entered-left c.args.ctx.now.options c.args.hook c.args.site (moment_of c.args.ctx.now) (seen names c.args.node.now) (sym c.is_slot_hook.ensures ∙ c.if-not-is_slot_hook.false)
    (to-wrap-seen names c.args.ctx.now.options (around_of c.args.ctx.now) c.args.node.now ∙ sym c.is_to_wrap.ensures ∙ c.if-not-is_to_wrap.true)

pub returns-clause-kept : goal.returns-clause-kept
returns-clause-kept c =
    let taken : c.replace-taken.result ≡ c.args.node.now = cc in
    kept-wrapped c.args.hook c.args.site (moment_of c.args.ctx.now) _ c.args.node.now c.in_ok-node.field-0 (sym c.is_slot_hook.ensures ∙ c.if-not-is_slot_hook.false) c.in_ok-node.ensures.reads.moment_is
    (subst (λ t. IsCallOf t c.in_ok-node.field-0) taken c.in_ok-node.ensures.called)

pub returns-clause-entered : goal.returns-clause-entered
returns-clause-entered c names =
    let taken : c.replace-taken.result ≡ c.args.node.now = cc in
    entered-wrapped c.args.ctx.now.options c.args.hook c.args.site (moment_of c.args.ctx.now) _ (seen names c.args.node.now) (seen names c.in_ok-node.field-0) (sym c.is_slot_hook.ensures ∙ c.if-not-is_slot_hook.false)
    (to-wrap-seen names c.args.ctx.now.options (around_of c.args.ctx.now) c.args.node.now ∙ sym c.is_to_wrap.ensures ∙ c.if-not-is_to_wrap.false)
    c.in_ok-node.ensures.reads.moment_is (subst (λ t. IsCallOf t c.in_ok-node.field-0) taken c.in_ok-node.ensures.called names)
