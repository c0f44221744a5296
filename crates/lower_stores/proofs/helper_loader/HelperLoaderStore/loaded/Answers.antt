use Rattle.std.proofs.Common.{sym, true≢false, ◌∙◌}
use Rattle.lower_stores.proofs.HelperLemmas.{not_among_more}
use Rattle.lower_stores.proofs.helper_loader.HelperLoaderStore.loaded.Goals as goal

pub loop-known-preserved : goal.loop-known-preserved
loop-known-preserved c =
    not_among_more c.args.helper c.deref-known-items.result.now c.loop-known.known-index c.loop-known-item.result c.loop-known-test.true c.loop-known-item.is c.loop-known.invariant
    (λ same. true≢false (sym (c.is_same.ensures.1 same) ∙ c.if-is_same.false))
