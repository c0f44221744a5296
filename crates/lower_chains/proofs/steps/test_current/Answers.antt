use Rattle.std.proofs.Common.{◌∙◌, refl, sym, arith}
use Rattle.lower_chains.proofs.Held.{held-read}
use Rattle.lower_chains.proofs.Receiving.{stands-single}
use Rattle.lower_chains.proofs.Testing.{target-next, tested-name, tested-stored}
use Rattle.lower_chains.proofs.steps.test_current.Goals as goal

pub test_name-requires-clause-alone : goal.test_name-requires-clause-alone
test_name-requires-clause-alone c = stands-single c.as_slice.result.now c.take_from_parens-current.result (sym c.may_stand.ensures ∙ c.if-may_stand.true)

pub test_stored-requires-clause-room : goal.test_stored-requires-clause-room
test_stored-requires-clause-room c = let few = target-next c.args.ctx.now c.choose_target.new.ctx c.in_ok-target.target c.in_ok-target.ensures.chosen in omega (arith, few, c.requires.room)

pub returns-in_ok-tests-clause-tested : goal.returns-in_ok-tests-clause-tested
returns-in_ok-tests-clause-tested c = λ names begin w h.
    let e = c.take_from_parens-current in
    let tested = c.in_ok-tests.ensures in
    tested-name c.args.no_document_all h c.as_slice.result.now e.result c.as_slice.ensures.value e.ensures c.test_name.new.ctx _ (sym c.may_stand.ensures ∙ c.if-may_stand.true) (tested.pushed names) refl refl tested.reads

pub returns-in_ok-tests-clause-kept : goal.returns-in_ok-tests-clause-kept
returns-in_ok-tests-clause-kept c = held-read c.args.ctx.now c.test_name.new.ctx c.args.way.holder c.in_ok-tests.ensures.reads c.requires.held

pub returns-in_ok-way-clause-tested : goal.returns-in_ok-way-clause-tested
returns-in_ok-way-clause-tested c = λ names begin w h.
    let e = c.take_from_parens-current in
    let tested = c.in_ok-way.ensures in
    tested-stored c.args.no_document_all h c.as_slice.result.now e.result c.as_slice.ensures.value e.ensures c.choose_target.new.ctx c.test_stored.new.ctx c.in_ok-way.way c.in_ok-target.target (sym c.may_stand.ensures ∙ c.if-may_stand.false) c.in_ok-target.ensures.chosen (tested.tests names) (tested.current names) tested.holder tested.reads
