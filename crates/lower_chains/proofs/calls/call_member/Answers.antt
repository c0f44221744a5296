use Rattle.std.proofs.Common.{◌∙◌, Option, ap, arith, map, subst, sym}
use Rattle.es_scope.specs.declared.context_names.BoundIdentifier.{BoundIdentifier}
use Rattle.lower_temporaries.specs.SeenTrees.{no_bindings}
use Rattle.lower_chains.proofs.Held.{held-read}
use Rattle.lower_chains.proofs.Receiving.{receiver-few}
use Rattle.lower_chains.proofs.Testing.{nodes-few}
use Rattle.std.specs.Prelude.{Bool}
use Rattle.es_resolution.specs.Seen.{seen, seen_among}
use Rattle.es_tree.specs.Tree.{trees}
use Rattle.lower_chains.specs.WayParts.{WritesCallee, has_none}
use Rattle.lower_chains.specs.Ways.{IsHeld, call_label, held}
use Rattle.lower_chains.proofs.Calling.{called-member, none-length}
use Rattle.lower_chains.proofs.calls.call_member.Goals as goal

pub returns-clause-called : goal.returns-clause-called
returns-clause-called c = λ names.
    let old = c.args.ctx.now in
    let callee = seen names c.args.callee in
    let ts = c.args.tests in
    let holder = held c.args.holder.now in
    let made = c.in_ok-callee in
    let stored = c.in_ok-way.ensures in
    let called = c.in_ok-way-2.ensures in
    let written = subst (λ (b : Bool). WritesCallee b old c.write_callee.new.ctx holder callee (seen names made.callee) (seen names made.receiver) made.temporary) (c.is_empty.ensures ∙ none-length ts.items _ (omega (arith, ts.ok.0))) (made.ensures.written names) in
    called-member names c.args.no_document_all (has_none ts.items) old c.write_callee.new.ctx c.test_stored.new.ctx c.call_with.new.ctx (call_label c.args.call.span) (seen_among names (trees c.args.call.arguments.items)) (map (seen names) ts.items) holder callee (seen names made.callee) (seen names made.receiver)
    (seen names c.in_ok-way.way.current) made.temporary c.in_ok-way-2.way written (ap (λ v. map (seen names) v.items) called.tests ∙ stored.tests names) (stored.current names) (called.current names) (ap held called.holder ∙ stored.holder) stored.reads called.reads

pub test_stored-requires-clause-room : goal.test_stored-requires-clause-room
test_stored-requires-clause-room c =
    let w = c.in_ok-callee.ensures.written no_bindings in
    omega (arith, receiver-few w.how, w.takes.next_is, c.requires.room)

pub call_with-requires : goal.call_with-requires
call_with-requires c =
    let w = c.in_ok-callee.ensures.written no_bindings in
    let next = ap (λ m. m.next) c.in_ok-way.ensures.reads.moment_is in
    record { room = omega (arith, receiver-few w.how, w.takes.next_is, nodes-few c.args.no_document_all, next, c.requires.room) }

pub returns-clause-kept : goal.returns-clause-kept
returns-clause-kept c =
    let called = c.in_ok-way-2.ensures in
    subst (λ (h : Option BoundIdentifier). IsHeld c.call_with.new.ctx h) (sym called.holder) (held-read c.test_stored.new.ctx c.call_with.new.ctx c.in_ok-way.way.holder called.reads c.in_ok-way.ensures.kept)
