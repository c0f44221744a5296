use Rattle.std.proofs.Common.{◌∙◌, ap}
use Rattle.std.specs.Prelude.{Some}
use Rattle.es_resolution.specs.Seen.{seen}
use Rattle.es_steps.specs.Nodes.{identifier}
use Rattle.lower_temporaries.specs.SeenTrees.{named}
use Rattle.lower_temporaries.proofs.BoundNames.{taken-bound-name}
use Rattle.lower_temporaries.proofs.temporaries.new_bound_name_based_on_node.Goals as goal

pub returns : goal.returns
returns c =
    let b = c.in_ok-name.field-0 in
    let bound = c.in_ok-name.ensures in
    let node = c.in_ok-node.ensures in
    record {
      taken =
          taken-bound-name _ c.args.ctx.now c.generate_uid_based_on_node.new.self c.create_bound_ident_expr.new.self b c.args.scope.0 c.args.flags c.in_ok-node.node bound.fresh bound.made bound.bound bound.symbol
          (λ names. ap (seen names) node.node ∙ ap (λ x. identifier (named x (Some b.symbol_id.0))) c.as_str.ensures.value) node.refers;
    }
