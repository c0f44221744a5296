-- Whether arrows can become functions asks for no ids and no marks.
use Rattle.std.proofs.Common.{◌≡◌, ℕ, zero, suc, refl, sym, ap, subst, ◌∙◌}
use Rattle.std.specs.Prelude.{◌&&◌, ◌||◌, not, Bool, false, true, bytes_eq, codes}
use Rattle.es_tree.specs.Ancestors.{Ancestor, ancestor, is_field_value}
use Rattle.es_tree.specs.Bare.{bare, bare_fields, bare_field, bare_label, bare_trees}
use Rattle.es_tree.specs.Children.{child_at}
use Rattle.es_tree.specs.HasForm.{same_type}
use Rattle.es_tree.specs.Names.{first_text}
use Rattle.es_tree.specs.Parens.{without_parens}
use Rattle.es_tree.specs.StaticRules.{is_accessor_word}
use Rattle.es_tree.specs.Tree.{Tree, node, Label, Fields, done, ◌then◌, Field, missing, one, many, statements, Trees, empty, ◌before◌, kind_of}
use Rattle.es_tree.specs.declared.ast_type.AstType.{AstType}
use Rattle.es_tree.specs.declared.ast_type.AstType.TheVariants.{ArrowFunctionExpression, ObjectProperty, Super, ThisExpression, UnaryExpression}
use Rattle.es_tree.specs.declared.options.EnvOptions.{EnvOptions}
use Rattle.es_steps.specs.Slots.{leads_to_value}
use Rattle.es_steps.specs.ThisPlaces.{keeps_this}
use Rattle.es_steps.proofs.BridgeTrees.{without_parens-bare}
use Rattle.es_arrow_steps.specs.ThisFits.{reaches_in}
use Rattle.es_valid_steps.specs.ArrowNodes.{is_arrow_accessor, is_kind_within, is_this_within}
use Rattle.es_valid_arrows.specs.ArrowPlaces.{arrow_in, is_outer, parameter_in}
use Rattle.es_valid_arrows.proofs.BareHolds.{field-bare, kind-bare}
use Rattle.es_valid_arrows.proofs.Fits.{ArrowsFit, ArrowsFitAll, ArrowsFitBy, ArrowsFitIn, from-fits, to-fits}
use Rattle.es_valid_arrows.specs.Laws.{LawBareFits}

this-bare : (fs : Fields) → is_this_within (child_at 0 (bare_fields fs)) ≡ is_this_within (child_at 0 fs)
this-bare done = refl
this-bare (missing then fs) = refl
this-bare (one t then fs) = ap (λ k. same_type k ThisExpression) (ap kind_of (without_parens-bare t) ∙ kind-bare (without_parens t))
this-bare (many ts then fs) = refl
this-bare (statements ts then fs) = refl

second-bare : (fs : Fields) → is_kind_within ArrowFunctionExpression (child_at 1 (bare_fields fs)) ≡ is_kind_within ArrowFunctionExpression (child_at 1 fs)
second-bare done = refl
second-bare (f then done) = refl
second-bare (f then (missing then fs)) = refl
second-bare (f then (one t then fs)) = ap (λ k. same_type k ArrowFunctionExpression) (kind-bare t)
second-bare (f then (many ts then fs)) = refl
second-bare (f then (statements ts then fs)) = refl

outer-bare : (reaches : Bool) (k : AstType) (l : Label) (fs : Fields) → is_outer reaches k (bare_label l) (bare_fields fs) ≡ is_outer reaches k l fs
outer-bare reaches Super l fs = refl
outer-bare reaches ThisExpression l fs = refl
outer-bare reaches UnaryExpression l fs = λ i. bytes_eq (first_text l.texts) (codes "delete") && this-bare fs i
outer-bare reaches _ l fs = refl

accessor-bare : (k : AstType) (l : Label) (fs : Fields) → is_arrow_accessor k (bare_label l) (bare_fields fs) ≡ is_arrow_accessor k l fs
accessor-bare ObjectProperty l fs = λ i. is_accessor_word (first_text l.texts) && second-bare fs i
accessor-bare _ l fs = refl

own-bare : (k : AstType) (l : Label) (fs : Fields) (arrow reaches : Bool) → ((is_outer reaches k (bare_label l) (bare_fields fs) && arrow) || is_arrow_accessor k (bare_label l) (bare_fields fs)) ≡ ((is_outer reaches k l fs && arrow) || is_arrow_accessor k l fs)
own-bare k l fs arrow reaches = λ i. (outer-bare reaches k l fs i && arrow) || accessor-bare k l fs i

module _ (o : EnvOptions) where
  state-bare : (arrow parameter : Bool) (a : Ancestor) (f : Field) → arrow_in o arrow parameter a (bare_field f) ≡ arrow_in o arrow parameter a f
  state-bare arrow parameter a f = λ i. ((is_field_value a || (leads_to_value a && parameter)) && field-bare o f i) || (not (keeps_this a) && (same_type a.kind ArrowFunctionExpression || arrow))

  mutual
    to-bare : (arrow parameter reaches : Bool) (t : Tree) → ArrowsFit o arrow parameter reaches t → ArrowsFit o arrow parameter reaches (bare t)
    to-bare arrow parameter reaches (node k l fs) f =
        (own-bare k l fs arrow reaches ∙ f.0, to-bare-in (λ i f. arrow_in o arrow parameter (ancestor k l done i 0) f) (λ i. parameter_in parameter (ancestor k l done i 0)) (λ i. reaches_in reaches (ancestor k l done i 0)) (λ i f. state-bare arrow parameter (ancestor k l done i 0) f) fs f.1)

    to-bare-in : (arrows : ℕ → Field → Bool) (parameters reaches : ℕ → Bool) → ((i : ℕ) (f : Field) → arrows i (bare_field f) ≡ arrows i f) → (fs : Fields) → ArrowsFitIn o arrows parameters reaches fs → ArrowsFitIn o arrows parameters reaches (bare_fields fs)
    to-bare-in arrows parameters reaches same done f = tt
    to-bare-in arrows parameters reaches same (x then fs) f = (
      subst (λ (b : Bool). ArrowsFitBy o b (parameters zero) (reaches zero) (bare_field x)) (sym (same zero x)) (to-bare-by (arrows zero x) (parameters zero) (reaches zero) x f.0),
      to-bare-in (λ i. arrows (suc i)) (λ i. parameters (suc i)) (λ i. reaches (suc i)) (λ i. same (suc i)) fs f.1,
    )

    to-bare-by : (arrow parameter reaches : Bool) (x : Field) → ArrowsFitBy o arrow parameter reaches x → ArrowsFitBy o arrow parameter reaches (bare_field x)
    to-bare-by arrow parameter reaches missing f = tt
    to-bare-by arrow parameter reaches (one t) f = to-bare arrow parameter reaches t f
    to-bare-by arrow parameter reaches (many ts) f = to-bare-all arrow parameter reaches ts f
    to-bare-by arrow parameter reaches (statements ts) f = to-bare-all arrow parameter reaches ts f

    to-bare-all : (arrow parameter reaches : Bool) (ts : Trees) → ArrowsFitAll o arrow parameter reaches ts → ArrowsFitAll o arrow parameter reaches (bare_trees ts)
    to-bare-all arrow parameter reaches empty f = tt
    to-bare-all arrow parameter reaches (t before ts) f = (to-bare arrow parameter reaches t f.0, to-bare-all arrow parameter reaches ts f.1)

  mutual
    from-bare : (arrow parameter reaches : Bool) (t : Tree) → ArrowsFit o arrow parameter reaches (bare t) → ArrowsFit o arrow parameter reaches t
    from-bare arrow parameter reaches (node k l fs) f =
        (sym (own-bare k l fs arrow reaches) ∙ f.0, from-bare-in (λ i f. arrow_in o arrow parameter (ancestor k l done i 0) f) (λ i. parameter_in parameter (ancestor k l done i 0)) (λ i. reaches_in reaches (ancestor k l done i 0)) (λ i f. state-bare arrow parameter (ancestor k l done i 0) f) fs f.1)

    from-bare-in : (arrows : ℕ → Field → Bool) (parameters reaches : ℕ → Bool) → ((i : ℕ) (f : Field) → arrows i (bare_field f) ≡ arrows i f) → (fs : Fields) → ArrowsFitIn o arrows parameters reaches (bare_fields fs) → ArrowsFitIn o arrows parameters reaches fs
    from-bare-in arrows parameters reaches same done f = tt
    from-bare-in arrows parameters reaches same (x then fs) f = (
      from-bare-by (arrows zero x) (parameters zero) (reaches zero) x (subst (λ (b : Bool). ArrowsFitBy o b (parameters zero) (reaches zero) (bare_field x)) (same zero x) f.0),
      from-bare-in (λ i. arrows (suc i)) (λ i. parameters (suc i)) (λ i. reaches (suc i)) (λ i. same (suc i)) fs f.1,
    )

    from-bare-by : (arrow parameter reaches : Bool) (x : Field) → ArrowsFitBy o arrow parameter reaches (bare_field x) → ArrowsFitBy o arrow parameter reaches x
    from-bare-by arrow parameter reaches missing f = tt
    from-bare-by arrow parameter reaches (one t) f = from-bare arrow parameter reaches t f
    from-bare-by arrow parameter reaches (many ts) f = from-bare-all arrow parameter reaches ts f
    from-bare-by arrow parameter reaches (statements ts) f = from-bare-all arrow parameter reaches ts f

    from-bare-all : (arrow parameter reaches : Bool) (ts : Trees) → ArrowsFitAll o arrow parameter reaches (bare_trees ts) → ArrowsFitAll o arrow parameter reaches ts
    from-bare-all arrow parameter reaches empty f = tt
    from-bare-all arrow parameter reaches (t before ts) f = (from-bare arrow parameter reaches t f.0, from-bare-all arrow parameter reaches ts f.1)

-- THE LAW

pub law_bare_fits_proof : LawBareFits
law_bare_fits_proof o t u e f = from-fits o false false true u (from-bare o false false true u (subst (λ (x : Tree). ArrowsFit o false false true x) e (to-bare o false false true t (to-fits o false false true t f))))
