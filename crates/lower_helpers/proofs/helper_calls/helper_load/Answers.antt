use Rattle.std.proofs.Common.{◌∙◌, sym}
use Rattle.lower_helpers.proofs.LoadingLemmas.{loads_bound}
use Rattle.lower_helpers.proofs.helper_calls.helper_load.Goals as goal

pub returns-in_ok-node-in-External-clause-loaded :
    goal.returns-in_ok-node-in-External-clause-loaded
returns-in_ok-node-in-External-clause-loaded g c =
    c.in_ok-node-in-External.ensures.read c.args.stores.now (sym c.mode.ensures ∙ c.in-External.is)

pub returns-in_ok-node-in-External-clause-bound : goal.returns-in_ok-node-in-External-clause-bound
returns-in_ok-node-in-External-clause-bound g c =
    let stores = c.args.stores.now in
    let loads = c.in_ok-node-in-External.ensures.read stores (sym c.mode.ensures ∙ c.in-External.is) in
    loads_bound c.args.helper 0 stores stores c.args.ctx.now c.external_helper.new.ctx c.in_ok-node-in-External.node loads c.requires.bound

pub returns-in_ok-node-in-Runtime-clause-bound : goal.returns-in_ok-node-in-Runtime-clause-bound
returns-in_ok-node-in-Runtime-clause-bound g c =
    loads_bound c.args.helper 0 c.args.stores.now c.runtime_helper.new.stores c.args.ctx.now c.runtime_helper.new.ctx c.in_ok-node-in-Runtime.node c.in_ok-node-in-Runtime.ensures.loaded c.requires.bound
