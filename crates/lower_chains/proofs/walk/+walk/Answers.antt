use Rattle.std.proofs.Common.{◌∙◌, refl, sym, ap, arith}
use Rattle.es_tree.specs.Tree.{tree_size}
use Rattle.es_traverse.specs.Loads.{load}
use Rattle.lower_temporaries.proofs.SeenLaws.{load-seen}
use Rattle.lower_temporaries.specs.SeenTrees.{no_bindings}
use Rattle.lower_temporaries.proofs.Later.{there-moved}
use Rattle.lower_chains.specs.Spines.{is_content}
use Rattle.lower_chains.proofs.Spines.{accessed-load, called-load, content-load, content-size, continues-inner, continues-same, walks-base, walks-marked-call, walks-marked-member, walks-plain-call, walks-plain-member}
use Rattle.lower_chains.proofs.walk.+walk.Goals as goal

pub continue_spine-walk-requires : goal.continue_spine-walk-requires
continue_spine-walk-requires t c = (omega (arith, c.decreases), (c.requires.there, c.requires.room))

pub continue_spine-returns-then-not-is_content-clause-continued :
    goal.continue_spine-returns-then-not-is_content-clause-continued
continue_spine-returns-then-not-is_content-clause-continued t c = λ names.
    let none = sym (ap is_content c.strip_parens.ensures) ∙ sym c.is_content.ensures ∙ c.if-not-is_content.true in
    continues-same names c.args.node none (c.in_ok-way.ensures.walked names)

pub continue_spine-walk-requires-2 : goal.continue_spine-walk-requires-2
continue_spine-walk-requires-2 t c =
    let opened = c.open-chain.ensures ∙ c.take_from_parens.ensures in
    let small = content-size c.args.node c.open-chain.result opened in
    let light = content-load c.args.node c.open-chain.result opened in
    (omega (arith, small, c.decreases), (c.requires.there, omega (arith, light, c.requires.room)))

pub continue_spine-returns-clause-continued : goal.continue_spine-returns-clause-continued
continue_spine-returns-clause-continued t c = λ names.
    continues-inner names c.args.node c.open-chain.result (c.open-chain.ensures ∙ c.take_from_parens.ensures) (c.in_ok-way-2.ensures.walked names)

pub walk-walk_member-requires : goal.walk-walk_member-requires
walk-walk_member-requires t c =
    let small = ap tree_size c.open.ensures in
    let light = ap load c.open.ensures in
    (omega (arith, small, c.decreases), (c.requires.there, omega (arith, light, c.requires.room)))

pub walk-walk_call-requires : goal.walk-walk_call-requires
walk-walk_call-requires t c =
    let small = ap tree_size c.open-then-is_call_step.ensures in
    let light = ap load c.open-then-is_call_step.ensures in
    (omega (arith, small, c.decreases), (c.requires.there, omega (arith, light, c.requires.room)))

pub walk-returns-clause-walked : goal.walk-returns-clause-walked
walk-returns-clause-walked t c = λ names.
    walks-base names c.args.no_document_all c.args.ctx.now c.args.node _ (sym c.is_member_step.ensures ∙ c.if-is_member_step.false) (sym c.is_call_step.ensures ∙ c.if-is_call_step.false) c.new.ensures.items refl refl

pub walk_call-continue_spine-requires : goal.walk_call-continue_spine-requires
walk_call-continue_spine-requires t c = (omega (arith, c.decreases), (c.requires.there, omega (arith, c.requires.room)))

pub walk_call-returns-then-optional-clause-walked :
    goal.walk_call-returns-then-optional-clause-walked
walk_call-returns-then-optional-clause-walked t c = λ names.
    let w = c.in_ok-before.ensures.continued names in
    walks-marked-call names c.args.call_expression c.if-optional.true w (c.in_ok-way.ensures.called names c.args.ctx.now w.to w.is)

pub walk_call-walk-requires : goal.walk_call-walk-requires
walk_call-walk-requires t c = (omega (arith, c.decreases), (c.requires.there, omega (arith, c.requires.room)))

pub walk_call-returns-clause-walked : goal.walk_call-returns-clause-walked
walk_call-returns-clause-walked t c = λ names.
    let made = c.in_ok-way-2.ensures in
    walks-plain-call names c.args.call_expression c.if-optional.false (c.in_ok-before-2.ensures.walked names) (record { tests = made.tests; holder = made.holder; current = made.current })

pub walk_member-continue_spine-requires : goal.walk_member-continue_spine-requires
walk_member-continue_spine-requires t c = (omega (arith, c.decreases), (c.requires.there, omega (arith, c.requires.room)))

pub walk_member-returns-then-optional-clause-walked :
    goal.walk_member-returns-then-optional-clause-walked
walk_member-returns-then-optional-clause-walked t c = λ names.
    let w = c.in_ok-before.ensures.continued names in
    let made = c.in_ok-way.ensures in
    walks-marked-member names c.args.member c.if-optional.true w (c.in_ok-tested.ensures.tested names c.args.ctx.now w.to w.is) (record { tests = made.tests; holder = made.holder; current = made.current })

pub walk_member-walk-requires : goal.walk_member-walk-requires
walk_member-walk-requires t c = (omega (arith, c.decreases), (c.requires.there, omega (arith, c.requires.room)))

pub walk_member-returns-clause-walked : goal.walk_member-returns-clause-walked
walk_member-returns-clause-walked t c = λ names.
    let made = c.in_ok-way-2.ensures in
    walks-plain-member names c.args.member c.if-optional.false (c.in_ok-before-2.ensures.walked names) (record { tests = made.tests; holder = made.holder; current = made.current })

pub walk_call-call_current-requires-clause-there : goal.walk_call-call_current-requires-clause-there
walk_call-call_current-requires-clause-there t c = there-moved c.args.ctx.now c.continue_spine.new.ctx (c.in_ok-before.ensures.continued no_bindings).is.takes c.requires.there

pub walk_call-call_current-requires-clause-room : goal.walk_call-call_current-requires-clause-room
walk_call-call_current-requires-clause-room t c =
    let w = c.in_ok-before.ensures.continued no_bindings in
    let paid = called-load c.args.call_expression c.if-optional.true in
    let same = load-seen no_bindings c.args.call_expression.callee in
    omega (arith, w.is.takes.next_is, w.affords.lighter, same, paid, c.requires.room)

pub walk_member-test_current-requires-clause-there :
    goal.walk_member-test_current-requires-clause-there
walk_member-test_current-requires-clause-there t c = there-moved c.args.ctx.now c.continue_spine.new.ctx (c.in_ok-before.ensures.continued no_bindings).is.takes c.requires.there

pub walk_member-test_current-requires-clause-room :
    goal.walk_member-test_current-requires-clause-room
walk_member-test_current-requires-clause-room t c =
    let w = c.in_ok-before.ensures.continued no_bindings in
    let paid = accessed-load c.args.member c.if-optional.true in
    let same = load-seen no_bindings c.args.member.object in
    omega (arith, w.is.takes.next_is, w.affords.lighter, same, paid, c.requires.room)
