-- What a program becomes is told by its fresh names, and each is the first of its base that isn't in use: so two programs that it becomes are one.
use Rattle.std.proofs.Common.{◌≡◌, ◌∙◌, sym, ap, subst, List, [], ◌∷◌}
use Rattle.std.specs.Prelude.{Bool, true, false, codes}
use Rattle.es_tree.specs.Fresh.{IsFreshName, also, text_base}
use Rattle.es_tree.specs.Words.{Text}
use Rattle.es_pattern_moves.proofs.MovedAgree.{one-fresh}
use Rattle.es_using_modules.specs.Laws.{LawOneTopped}
use Rattle.es_using_modules.specs.ModuleTops.{AreFresh, has_default, plainly, topped}

module _ (in_use : Text → Bool) where
  abbrev IsContext : Text → Text → Type 0
  IsContext x c = IsFreshName (also x in_use) (text_base (codes "usingCtx")) c

  same-names : (b : Bool) (xs ys : List Text) → AreFresh in_use b xs → AreFresh in_use b ys → xs ≡ ys
  same-names true (x ∷ c ∷ []) (y ∷ d ∷ []) f g =
      let first : x ≡ y = one-fresh in_use (text_base (codes "default")) x y f.0 g.0 in
      let second : c ≡ d = one-fresh (also x in_use) (text_base (codes "usingCtx")) c d f.1 (subst (λ (z : Text). IsContext z d) (sym first) g.1) in
      λ i. first i ∷ second i ∷ []
  same-names true (x ∷ c ∷ []) _ f g = absurd g
  same-names true _ ys f g = absurd f
  same-names false (c ∷ []) (d ∷ []) f g = let only : c ≡ d = one-fresh in_use (text_base (codes "usingCtx")) c d f g in λ i. only i ∷ []
  same-names false (c ∷ []) _ f g = absurd g
  same-names false _ ys f g = absurd f

pub law_one_topped_proof : LawOneTopped
law_one_topped_proof in_use p q r names others a b =
    let same : names ≡ others = same-names in_use (has_default p) names others a.fresh b.fresh in
    (a.tree ∙ ap (λ (xs : List Text). topped (plainly (has_default p) xs) p) same ∙ sym b.tree, same)
