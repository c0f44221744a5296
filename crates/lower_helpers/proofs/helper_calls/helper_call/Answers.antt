use Rattle.std.proofs.Common.{◌≡◌, ◌+◌, arith, refl}
use Rattle.lower_helpers.proofs.LoadingLemmas.{few_ids, next_id, with_id}
use Rattle.lower_helpers.specs.HelperNodes.{called_node}
use Rattle.lower_helpers.specs.Loading.{helper_ids}
use Rattle.lower_helpers.proofs.helper_calls.helper_call.Goals as goal

pub new_id-id-requires : goal.new_id-id-requires
new_id-id-requires g c =
    let mid = c.helper_load.new.ctx in
    let next = next_id c.args.helper 0 c.args.stores.now c.helper_load.new.stores c.args.ctx.now mid c.in_ok-callee.callee c.in_ok-callee.ensures.loaded in
    let few = few_ids c.args.stores.now.helper_loader.mode in
    omega (arith, next, few, c.requires.room)

pub returns-clause-called : goal.returns-clause-called
returns-clause-called g c =
    let old = c.args.ctx.now in
    let mid = c.helper_load.new.ctx in
    let stores = c.args.stores.now in
    let loads = c.in_ok-callee.ensures.loaded in
    let next = next_id c.args.helper 0 stores c.helper_load.new.stores old mid c.in_ok-callee.callee loads in
    let id : c.new_id-id.result.0 ≡ old.ast.next + helper_ids stores.helper_loader.mode = omega (arith, next, c.new_id-id.ensures.id) in
    record {
      callee = c.in_ok-callee.callee;
      loads = with_id c.args.helper 0 stores c.helper_load.new.stores old mid _ c.in_ok-callee.callee loads c.new_id-id.ensures.counted refl
          (record { used = λ x. refl; made_is = refl })
          (record { state = refl; options = refl; around = refl; scopes = refl; place = refl });
      call = λ i. called_node (id i) c.in_ok-callee.callee c.args.arguments.items;
    }
