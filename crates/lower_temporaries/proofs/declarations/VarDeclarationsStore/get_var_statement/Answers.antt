use Rattle.std.proofs.Common.{arith, ap, subst, sym}
use Rattle.std.specs.Prelude.{codes}
use Rattle.lower_temporaries.specs.Declarators.{declaration_of}
use Rattle.es_changes.specs.Moments.{below, top}
use Rattle.lower_temporaries.specs.SeenTrees.{IsSeenAsOption}
use Rattle.lower_temporaries.proofs.StoreLemmas.{popped, top-inert, written_in}
use Rattle.lower_temporaries.proofs.declarations.VarDeclarationsStore.get_var_statement.Goals as goal

pub declaration-var-requires-clause-room : goal.declaration-var-requires-clause-room
declaration-var-requires-clause-room c =
    let e = popped c.self.inside.pairs.items c.pop.new.self.items c.in-Some.field-0 _ c.self.view_is c.in-Some.ensures.items in
    let h = written_in c.in-Some.field-0 _ _ e in
    omega (arith, h, c.requires.room)

pub declaration-other-requires-clause-room : goal.declaration-other-requires-clause-room
declaration-other-requires-clause-room c =
    let e = popped c.self.inside.pairs.items c.pop.new.self.items c.in-Some.field-0 _ c.self.view_is c.in-Some.ensures.items in
    let h = written_in c.in-Some.field-0 _ _ e in
    omega (arith, h, c.requires.room, c.declaration-var.ensures.counted)

pub returns-clause-by_var : goal.returns-clause-by_var
returns-clause-by_var c =
    let e = popped c.self.inside.pairs.items c.pop.new.self.items c.in-Some.field-0 _ c.self.view_is c.in-Some.ensures.items in
    subst (λ p. IsSeenAsOption c.declaration-var.result (declaration_of (codes "var") (top p).vars)) (sym e) c.declaration-var.ensures.made

pub returns-clause-by_let : goal.returns-clause-by_let
returns-clause-by_let c =
    let e = popped c.self.inside.pairs.items c.pop.new.self.items c.in-Some.field-0 _ c.self.view_is c.in-Some.ensures.items in
    subst (λ p. IsSeenAsOption c.declaration-other.result (declaration_of (codes "let") (top p).lets)) (sym e) c.declaration-other.ensures.made

pub returns-clause-inert : goal.returns-clause-inert
returns-clause-inert c = top-inert c.self.inside.pairs.items _ c.self.view_is c.self.inside.inert

pub returns-clause-ended : goal.returns-clause-ended
returns-clause-ended c =
    sym (ap below (popped c.self.inside.pairs.items c.pop.new.self.items c.in-Some.field-0 _ c.self.view_is c.in-Some.ensures.items))

pub returns-clause-counted : goal.returns-clause-counted
returns-clause-counted c =
    let e = popped c.self.inside.pairs.items c.pop.new.self.items c.in-Some.field-0 _ c.self.view_is c.in-Some.ensures.items in
    let h = written_in c.in-Some.field-0 _ _ e in
    omega (arith, h, c.declaration-var.ensures.counted, c.declaration-other.ensures.counted)
