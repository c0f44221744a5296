use Rattle.std.proofs.lemmas.List.{take_all}
use Rattle.es_static_rules.proofs.NamesKnown.{clash-found, clash-next}
use Rattle.es_static_rules.proofs.known_names.has_clash.Goals as goal

pub returns-then-clashes_under : goal.returns-then-clashes_under
returns-then-clashes_under c = clash-found c.args.names.now c.args.rule c.args.declared.now c.loop-name.name-index _ c.loop-name-test.true c.if-clashes_under.ensures

pub loop-name-preserved : goal.loop-name-preserved
loop-name-preserved c =
    clash-next c.args.names.now c.args.rule c.args.declared.now c.loop-name.name-index _ c.loop-name-test.true c.loop-name.invariant c.if-clashes_under.ensures

pub returns : goal.returns
returns c =
    let whole = take_all c.loop-name.name-index c.args.declared.now c.loop-name-test.false in
    rw whole at c.loop-name.invariant
