-- Where no arrow stands in a function, no `this` of its body belongs to one.
use Rattle.std.proofs.Common.{◌≡◌, ◌∙◌, ℕ, zero, suc, refl, ap}
use Rattle.std.specs.Prelude.{false, ◌&&◌, not, Bool}
use Rattle.std.proofs.lemmas.Bool.{or_from, or_parts}
use Rattle.es_tree.specs.Ancestors.{ancestor}
use Rattle.es_tree.specs.HasForm.{same_type}
use Rattle.es_tree.specs.Tree.{Tree, node, Label, Fields, done, ◌then◌, Field, missing, one, many, statements, Trees, empty, ◌before◌}
use Rattle.es_tree.specs.Walks.{NodeTest, any_in_field, any_in_fields, any_in_trees, any_node}
use Rattle.es_tree.specs.declared.ast_type.AstType.{AstType}
use Rattle.es_tree.specs.declared.ast_type.AstType.TheVariants.{ArrowFunctionExpression, ThisExpression}
use Rattle.es_steps.specs.ThisPlaces.{keeps_this}
use Rattle.es_unsupported.specs.EarlySuper.{arrow_this, arrow_this_among, arrow_this_by, arrow_this_in, has_arrow_this}
use Rattle.es_unsupported.proofs.QuietStrays.{last-off}

-- by a test that finds each arrow
module _ (test : NodeTest) (no-arrow : (k : AstType) (l : Label) (fs : Fields) → any_node test (node k l fs) ≡ false → same_type k ArrowFunctionExpression ≡ false) where
  mutual
    this-none : (t : Tree) → any_node test t ≡ false → arrow_this false t ≡ false
    this-none (node k l fs) h =
        let keeps : ℕ → Bool = λ i. keeps_this (ancestor k l done i 0) in
        or_from (same_type k ThisExpression && false) (arrow_this_in (same_type k ArrowFunctionExpression) keeps fs) (last-off (same_type k ThisExpression) false refl)
        (ap (λ b. arrow_this_in b keeps fs) (no-arrow k l fs h) ∙ this-none-in keeps fs (or_parts (test k l fs) (any_in_fields test fs) h).1)

    this-none-in : (keeps : ℕ → Bool) (fs : Fields) → any_in_fields test fs ≡ false → arrow_this_in false keeps fs ≡ false
    this-none-in keeps done h = refl
    this-none-in keeps (f then fs) h =
        let g = or_parts (any_in_field test f) (any_in_fields test fs) h in
        or_from (not (keeps zero) && arrow_this_by false f) (arrow_this_in false (λ i. keeps (suc i)) fs) (last-off (not (keeps zero)) (arrow_this_by false f) (this-none-by f g.0)) (this-none-in (λ i. keeps (suc i)) fs g.1)

    this-none-by : (f : Field) → any_in_field test f ≡ false → arrow_this_by false f ≡ false
    this-none-by missing h = refl
    this-none-by (one t) h = this-none t h
    this-none-by (many ts) h = this-none-among ts h
    this-none-by (statements ts) h = this-none-among ts h

    this-none-among : (ts : Trees) → any_in_trees test ts ≡ false → arrow_this_among false ts ≡ false
    this-none-among empty h = refl
    this-none-among (t before ts) h =
        let g = or_parts (any_node test t) (any_in_trees test ts) h in
        or_from (arrow_this false t) (arrow_this_among false ts) (this-none t g.0) (this-none-among ts g.1)

  pub has_this-none : (fs : Fields) → any_in_fields test fs ≡ false → has_arrow_this fs ≡ false
  has_this-none (f then ps then b then fs) h =
      let g = or_parts (any_in_field test f) (any_in_fields test (ps then b then fs)) h in
      let i = or_parts (any_in_field test ps) (any_in_fields test (b then fs)) g.1 in
      this-none-by b (or_parts (any_in_field test b) (any_in_fields test fs) i.1).0
  has_this-none (f then ps then done) h = refl
  has_this-none (f then done) h = refl
  has_this-none done h = refl
