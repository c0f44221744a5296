use Rattle.std.proofs.Common.{◌≡◌, ◌+◌, suc, ap, sym, ◌∙◌, drop, arith}
use Rattle.es_scope.specs.Contexts.{around_of}
use Rattle.lower_temporaries.proofs.Outward.{reaches-found, reaches-left, reaches-outside, reaches-passed}
use Rattle.lower_rest_assignments.specs.Unused.{is_parenthesis, is_statement, is_unused}
use Rattle.lower_rest_assignments.proofs.assignments.is_unused.Goals as goal

pub returns-then-is_statement : goal.returns-then-is_statement
returns-then-is_statement c =
    sym (reaches-found is_statement is_parenthesis (around_of c.args.ctx.now) c.loop-place.place c.in-Some.ancestor (sym c.in-Some.is ∙ c.ancestor.ensures) (sym c.is_statement.ensures ∙ c.if-is_statement.true)) ∙ c.loop-place.invariant

pub returns-then-not-is_parenthesis : goal.returns-then-not-is_parenthesis
returns-then-not-is_parenthesis c =
    sym (reaches-left is_statement is_parenthesis (around_of c.args.ctx.now) c.loop-place.place c.in-Some.ancestor (sym c.in-Some.is ∙ c.ancestor.ensures) (sym c.is_statement.ensures ∙ c.if-is_statement.false) (sym c.is_parenthesis.ensures ∙ c.if-not-is_parenthesis.true)) ∙ c.loop-place.invariant

pub loop-place-preserved : goal.loop-place-preserved
loop-place-preserved c =
    let xs = around_of c.args.ctx.now in
    let next : suc c.loop-place.place ≡ c.loop-place.place + 1 = omega arith in
    sym (ap (λ i. is_unused (drop i xs)) next)
    ∙ sym (reaches-passed is_statement is_parenthesis xs c.loop-place.place c.in-Some.ancestor (sym c.in-Some.is ∙ c.ancestor.ensures) (sym c.is_statement.ensures ∙ c.if-is_statement.false) (sym c.is_parenthesis.ensures ∙ c.if-not-is_parenthesis.false))
    ∙ c.loop-place.invariant

pub returns-in_default : goal.returns-in_default
returns-in_default c = sym (reaches-outside is_statement is_parenthesis (around_of c.args.ctx.now) c.loop-place.place (sym c.in_default.is ∙ c.ancestor.ensures)) ∙ c.loop-place.invariant
