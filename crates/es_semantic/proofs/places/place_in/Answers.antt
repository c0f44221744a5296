use Rattle.es_tree.specs.Heads.{head_of, label}
use Rattle.es_tree.specs.Views.{plain_fields}
use Rattle.es_semantic.proofs.PlaceSteps.{stands_in}
use Rattle.es_semantic.proofs.places.place_in.Goals as goal

pub returns-clause-stands : goal.returns-clause-stands
returns-clause-stands c =
    let a = c.node.inside in let fs = plain_fields a.fields.items in let kind = (head_of a.kind).kind in let said = label a.id a.span (head_of a.kind) in
    let role = rw (← c.node.view_is) at c.role_in.ensures in
    let strict = rw (← c.node.view_is) at c.requires.strict in
    rw (← c.node.view_is)
    (λ p n stands own. stands_in c.args.place _ p n kind said fs c.args.index stands role (c.scope_in.ensures.stands p n fs stands own) (c.hoist_in.ensures.stands p n fs stands own) (c.parameters_in.ensures.stands p stands) strict)

pub returns-clause-known : goal.returns-clause-known
returns-clause-known c = λ count known name own. record {
  scope_known = c.scope_in.ensures.known count known name own;
  hoist_known = c.hoist_in.ensures.known count known own;
  parameters_known = c.parameters_in.ensures.known count known;
}
