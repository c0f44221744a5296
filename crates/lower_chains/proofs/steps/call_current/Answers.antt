use Rattle.std.proofs.Common.{◌∙◌, sym, subst, Option}
use Rattle.es_resolution.specs.Seen.{seen_among}
use Rattle.es_scope.specs.declared.context_names.BoundIdentifier.{BoundIdentifier}
use Rattle.es_tree.specs.Tree.{trees}
use Rattle.lower_chains.specs.Ways.{IsHeld}
use Rattle.lower_chains.proofs.Calling.{calls-member, calls-name, calls-value}
use Rattle.lower_chains.proofs.Held.{held-read}
use Rattle.lower_chains.proofs.Receiving.{stands-single}
use Rattle.lower_chains.proofs.steps.call_current.Goals as goal

pub call_name-requires-clause-alone : goal.call_name-requires-clause-alone
call_name-requires-clause-alone c = stands-single c.as_slice.result.now c.take_from_parens-callee.result (sym c.may_stand.ensures ∙ c.if-may_stand.true)

pub returns-then-may_stand-clause-called : goal.returns-then-may_stand-clause-called
returns-then-may_stand-clause-called c = λ names begin w h.
    let e = c.take_from_parens-callee in
    let called = c.in_ok-way.ensures in
    calls-name c.args.no_document_all h c.as_slice.result.now e.result c.as_slice.ensures.value e.ensures c.args.span (seen_among names (trees c.args.arguments.items)) c.call_name.new.ctx c.in_ok-way.way (sym c.may_stand.ensures ∙ c.if-may_stand.true) (called.tests names) (called.current names) called.holder called.reads

pub returns-then-may_stand-clause-kept : goal.returns-then-may_stand-clause-kept
returns-then-may_stand-clause-kept c =
    let called = c.in_ok-way.ensures in
    subst (λ (h : Option BoundIdentifier). IsHeld c.call_name.new.ctx h) (sym called.holder) (held-read c.args.ctx.now c.call_name.new.ctx c.args.way.holder called.reads c.requires.held)

pub returns-then-is_plain_member-clause-called : goal.returns-then-is_plain_member-clause-called
returns-then-is_plain_member-clause-called c = λ names begin w h.
    let e = c.take_from_parens-callee in
    calls-member c.args.no_document_all h c.as_slice.result.now e.result c.as_slice.ensures.value e.ensures c.args.span (seen_among names (trees c.args.arguments.items)) c.call_member.new.ctx c.in_ok-way-2.way (c.in_ok-way-2.ensures.called names)

pub returns-clause-called : goal.returns-clause-called
returns-clause-called c = λ names begin w h.
    let e = c.take_from_parens-callee in
    calls-value c.args.no_document_all h c.as_slice.result.now e.result c.as_slice.ensures.value e.ensures c.args.span (seen_among names (trees c.args.arguments.items)) c.call_value.new.ctx c.in_ok-way-3.way (sym c.may_stand.ensures ∙ c.if-may_stand.false) (sym c.is_plain_member.ensures ∙ c.if-is_plain_member.false) (c.in_ok-way-3.ensures.called names)
