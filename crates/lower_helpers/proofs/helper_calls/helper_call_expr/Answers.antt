use Rattle.std.proofs.Common.{◌≡◌, ◌+◌, ◌∷◌, [], ◌∙◌, ap, arith, false, refl, set}
use Rattle.es_tree.specs.Tree.{node}
use Rattle.es_tree.specs.Views.{plain_fields}
use Rattle.es_tree.specs.declared.ast_type.AstType.TheVariants.{CallExpression}
use Rattle.es_tree.specs.declared.node.Field.TheVariants.{One}
use Rattle.lower_helpers.proofs.LoadingLemmas.{few_ids, next_id, with_id}
use Rattle.lower_helpers.specs.HelperNodes.{called_node, made}
use Rattle.lower_helpers.specs.Loading.{helper_ids}
use Rattle.lower_helpers.proofs.helper_calls.helper_call_expr.Goals as goal

pub new_id-requires : goal.new_id-requires
new_id-requires g c =
    let mid = c.helper_load.new.ctx in
    let next = next_id c.args.helper 0 c.args.stores.now c.helper_load.new.stores c.args.ctx.now mid c.in_ok-callee.callee c.in_ok-callee.ensures.loaded in
    let few = few_ids c.args.stores.now.helper_loader.mode in
    omega (arith, next, few, c.requires.room)

pub returns-clause-called : goal.returns-clause-called
returns-clause-called g c =
    let old = c.args.ctx.now in
    let mid = c.helper_load.new.ctx in
    let stores = c.args.stores.now in
    let loads = c.in_ok-callee.ensures.loaded in
    let next = next_id c.args.helper 0 stores c.helper_load.new.stores old mid c.in_ok-callee.callee loads in
    let id : c.new_id.result.0 ≡ old.ast.next + helper_ids stores.helper_loader.mode = omega (arith, next, c.new_id.ensures.id) in
    record {
      callee = c.in_ok-callee.callee;
      loads = with_id c.args.helper 0 stores c.helper_load.new.stores old mid _ c.in_ok-callee.callee loads c.new_id.ensures.counted refl
          (record { used = λ x. refl; made_is = refl })
          (record { state = refl; options = refl; around = refl; scopes = refl; place = refl });
      call = ap (λ fs. node CallExpression (made c.new_id.result.0 [] (false ∷ []) []) (plain_fields (set fs 0 (One c.in_ok-callee.callee)))) c.in_ok-fields.ensures.items ∙ (λ i. called_node (id i) c.in_ok-callee.callee c.args.arguments.items);
    }
