use Rattle.es_semantic.proofs.Identifiers.{found_around, found_symbol}
use Rattle.es_semantic.proofs.marks.refer.Goals as goal

pub returns-clause-symbol : goal.returns-clause-symbol
returns-clause-symbol c = λ p rows ds stands names chain.
    found_symbol rows ds c.args.scoping.now p c.args.place c.args.name.now _ stands names chain c.find_binding-symbol.ensures.found

pub returns-clause-referred : goal.returns-clause-referred
returns-clause-referred c = λ p rows ds stands names chain.
    found_around rows ds c.args.scoping.now c.add_reference.new.self c.args.node c.args.flags p c.args.place c.args.name.now c.find_binding-symbol.result stands names chain c.find_binding-symbol.ensures.found c.in_ok-reference.ensures.added
