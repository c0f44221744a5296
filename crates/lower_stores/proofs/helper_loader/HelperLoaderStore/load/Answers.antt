use Rattle.std.proofs.Common.{◌∙◌, ◌++◌, ◌∷◌, [], ap, cond, is_ok, subst, sym}
use Rattle.lower_stores.specs.LoadedHelpers.{Helpers, IsNotLoaded}
use Rattle.lower_stores.proofs.HelperLemmas.{once_more}
use Rattle.lower_stores.proofs.helper_loader.HelperLoaderStore.load.Goals as goal

pub invariant_of-self-2 : goal.invariant_of-self-2
invariant_of-self-2 c =
    let room = c.reserve.new.self.items in
    once_more c.self.inside.loaded.items c.push.new.self.items c.args.helper c.args.local
    (c.push.ensures.items ∙ ap (λ r. cond (is_ok r) (room ++ (c.args.helper, c.args.local) ∷ []) room) c.unwrap.ensures ∙ ap (λ es. es ++ (c.args.helper, c.args.local) ∷ []) c.reserve.ensures.items)
    c.self.invariant
    (subst (λ (h : Helpers). IsNotLoaded c.args.helper h.loaded) (sym c.self.view_is) c.requires)
