use Rattle.std.proofs.Common.{◌≡◌, sym, ap, subst, arith}
use Rattle.es_tree.specs.Tree.{tree_size}
use Rattle.lower_temporaries.specs.FurtherUses.{read_by}
use Rattle.lower_temporaries.specs.Takings.{ReadsMore}
use Rattle.lower_temporaries.proofs.duplicate.further_use.Goals as goal

pub read_once_more-requires : goal.read_once_more-requires
read_once_more-requires c =
    let size : tree_size (read_by c.args.first.now c.args.again.now) ≡ tree_size c.args.first.now = ap (λ a. tree_size (read_by c.args.first.now a)) c.in-ByCopy.is in
    record { room = omega arith }

pub returns-in_ok-node-in-ByCopy-clause-reads : goal.returns-in_ok-node-in-ByCopy-clause-reads
returns-in_ok-node-in-ByCopy-clause-reads c =
    let size : tree_size (read_by c.args.first.now c.args.again.now) ≡ tree_size c.args.first.now = ap (λ a. tree_size (read_by c.args.first.now a)) c.in-ByCopy.is in
    subst (λ n. ReadsMore n c.args.ctx.now c.read_once_more.new.ctx) (sym size) c.in_ok-node-in-ByCopy.ensures.reads
