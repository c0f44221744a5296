-- Where nothing stands in the way of arrows, each can become a function.
use Rattle.std.proofs.Common.{◌≡◌, ◌∙◌, ℕ, zero, suc, ◌+◌, List, Bool, true, false, ◌&&◌, ◌||◌, not, Option, Some, None, is_some, if◌then◌else◌, refl, sym, ap}
use Rattle.std.proofs.lemmas.Bool.{and_from}
use Rattle.es_tree.specs.Ancestors.{ancestor}
use Rattle.es_tree.specs.Tree.{Tree, node, Label, Fields, done, ◌then◌, Field, missing, one, many, statements, Trees, empty, ◌before◌}
use Rattle.es_tree.specs.declared.ast_type.AstType.{AstType}
use Rattle.es_tree.specs.declared.ast_type.AstType.TheVariants.{Super, ThisExpression, UnaryExpression}
use Rattle.es_tree.specs.declared.error.UnsupportedKind.{UnsupportedKind}
use Rattle.es_tree.specs.declared.error.UnsupportedKind.TheVariants.{ArrowOuter, ArrowThis}
use Rattle.es_tree.specs.declared.options.EnvOptions.{EnvOptions}
use Rattle.es_semantic.specs.Places.{Place, own_scope, own_scope_count, outermost, place_in, scope_count_in, scope_count_in_field}
use Rattle.es_semantic.specs.SymbolsOf.{Declared, symbols_of}
use Rattle.es_arrow_steps.specs.ThisFits.{reaches_in}
use Rattle.es_valid_steps.specs.ArrowNodes.{is_arrow_accessor}
use Rattle.es_valid_arrows.specs.ArrowPlaces.{arrow_in, arrows_fit, arrows_fit_all, arrows_fit_by, arrows_fit_in, is_outer, parameter_in}
use Rattle.es_unsupported.specs.ArrowShapes.{arrow_shape, binds_arguments, inner_shape, refers_by}
use Rattle.es_unsupported.specs.EarlySuper.{calls_super_here}
use Rattle.es_unsupported.specs.declared.arrow_places.ArrowPlace.{ArrowPlace}
use Rattle.es_unsupported.specs.declared.node_places.NodePlace.{NodePlace}
use Rattle.es_unsupported.specs.Laws.{LawArrowsTaken}
use Rattle.es_unsupported.specs.NodePlaces.{node_place_in, program_place}
use Rattle.es_unsupported.specs.PatternPlaces.{pattern_shape}
use Rattle.es_unsupported.proofs.Firsts.{right_none}
use Rattle.es_unsupported.proofs.Taken.{NoneTold, NoneToldOfField, NoneToldOfFields, NoneToldOfTrees, taken-places}

-- what is outer in an arrow has a shape
inner-found : (q : ArrowPlace) (r : Bool) (k : AstType) (l : Label) (fs : Fields) → is_outer q.reaches k l fs ≡ true → inner_shape q r k l fs ≡ None → ⊥
inner-found q r Super l fs e h = cc h
inner-found q r ThisExpression l fs e h = at q.reaches e h
  where
    at : (reaches : Bool) → not reaches ≡ true → (if reaches then None else Some ArrowThis) ≡ None → ⊥
    at true e h = cc e
    at false e h = cc h
inner-found q r UnaryExpression l fs e h = cc (sym (ap (λ b. if b then Some ArrowThis else None) e) ∙ h)
inner-found q r _ l fs e h = cc e

node-fits : (o : EnvOptions) → is_some o.es2015.arrow_function ≡ true → (q : ArrowPlace) (r : Bool) (k : AstType) (l : Label) (fs : Fields) → arrow_shape o q r k l fs ≡ None → not ((is_outer q.reaches k l fs && q.in_arrow) || is_arrow_accessor k l fs) ≡ true
node-fits o on q r k l fs h =
    at (is_arrow_accessor k l fs) (q.early_super && calls_super_here k fs) q.in_arrow (is_outer q.reaches k l fs) (inner_shape q r k l fs) (inner-found q r k l fs)
    (sym (ap (λ b. if not b then None else if is_arrow_accessor k l fs then Some ArrowOuter else if q.early_super && calls_super_here k fs then Some ArrowThis else if q.in_arrow then inner_shape q r k l fs else None) on) ∙ h)
  where
    at : (accessor early inside outer : Bool) (s : Option UnsupportedKind) → (outer ≡ true → s ≡ None → ⊥) → (if accessor then Some ArrowOuter else if early then Some ArrowThis else if inside then s else None) ≡ None → not ((outer && inside) || accessor) ≡ true
    at true early inside outer s found h = absurd (cc h)
    at false true inside outer s found h = absurd (cc h)
    at false false true true s found h = absurd (found refl h)
    at false false true false s found h = refl
    at false false false true s found h = refl
    at false false false false s found h = refl

-- what is known of places, field by field
abbrev Tells : (ℕ → Field → NodePlace) → (ℕ → Field → Bool) → (ℕ → Bool) → (ℕ → Bool) → Type 0
Tells qs arrows parameters reaches = (i : ℕ) (f : Field) → ((qs i f).arrows.in_arrow ≡ arrows i f) × ((qs i f).arrows.parameter ≡ parameters i) × ((qs i f).arrows.reaches ≡ reaches i)

module _ (o : EnvOptions) (ds : List Declared) (on : is_some o.es2015.arrow_function ≡ true) where
  place-tells : (binds : Bool) (q : NodePlace) (k : AstType) (l : Label) (fs : Fields) →
      Tells (node_place_in o binds q k l fs) (λ i f. arrow_in o q.arrows.in_arrow q.arrows.parameter (ancestor k l done i 0) f) (λ i. parameter_in q.arrows.parameter (ancestor k l done i 0)) (λ i. reaches_in q.arrows.reaches (ancestor k l done i 0))
  place-tells binds q k l fs i f = (rw on refl, rw on refl, rw on refl)

  mutual
    fits-of : (p : Place) (q : NodePlace) (n : ℕ) (t : Tree) → NoneTold o ds p q n t → arrows_fit o q.arrows.in_arrow q.arrows.parameter q.arrows.reaches t ≡ true
    fits-of p q n (node k l fs) h =
        let arrows : ℕ → Field → Bool = λ i f. arrow_in o q.arrows.in_arrow q.arrows.parameter (ancestor k l done i 0) f in
        let parameters : ℕ → Bool = λ i. parameter_in q.arrows.parameter (ancestor k l done i 0) in
        let reaches : ℕ → Bool = λ i. reaches_in q.arrows.reaches (ancestor k l done i 0) in
        let binds = binds_arguments ds (own_scope n k fs) k in
        and_from (not ((is_outer q.arrows.reaches k l fs && q.arrows.in_arrow) || is_arrow_accessor k l fs)) (arrows_fit_in o arrows parameters reaches fs)
        (node-fits o on q.arrows (refers_by p.role) k l fs (right_none (pattern_shape o q.pattern k l fs) (arrow_shape o q.arrows (refers_by p.role) k l fs) h.0)) (fits-of-fields (place_in p n k l fs) (node_place_in o binds q k l fs) arrows parameters reaches (place-tells binds q k l fs) (n + own_scope_count k fs) fs h.1)

    fits-of-fields : (ps : ℕ → Place) (qs : ℕ → Field → NodePlace) (arrows : ℕ → Field → Bool) (parameters reaches : ℕ → Bool) → Tells qs arrows parameters reaches → (n : ℕ) (fs : Fields) → NoneToldOfFields o ds ps qs n fs → arrows_fit_in o arrows parameters reaches fs ≡ true
    fits-of-fields ps qs arrows parameters reaches tells n done h = refl
    fits-of-fields ps qs arrows parameters reaches tells n (f then fs) h =
        let told = tells zero f in
        and_from (arrows_fit_by o (arrows zero f) (parameters zero) (reaches zero) f) (arrows_fit_in o (λ i. arrows (suc i)) (λ i. parameters (suc i)) (λ i. reaches (suc i)) fs)
        ((λ j. arrows_fit_by o (sym told.0 j) (sym told.1 j) (sym told.2 j) f) ∙ fits-of-field (ps zero) (qs zero f) n f h.0)
        (fits-of-fields (λ i. ps (suc i)) (λ i. qs (suc i)) (λ i. arrows (suc i)) (λ i. parameters (suc i)) (λ i. reaches (suc i)) (λ i. tells (suc i)) (n + scope_count_in_field f) fs h.1)

    fits-of-field : (p : Place) (q : NodePlace) (n : ℕ) (f : Field) → NoneToldOfField o ds p q n f → arrows_fit_by o q.arrows.in_arrow q.arrows.parameter q.arrows.reaches f ≡ true
    fits-of-field p q n missing h = refl
    fits-of-field p q n (one t) h = fits-of p q n t h
    fits-of-field p q n (many ts) h = fits-of-trees p q n ts h
    fits-of-field p q n (statements ts) h = fits-of-trees p q n ts h

    fits-of-trees : (p : Place) (q : NodePlace) (n : ℕ) (ts : Trees) → NoneToldOfTrees o ds p q n ts → arrows_fit_all o q.arrows.in_arrow q.arrows.parameter q.arrows.reaches ts ≡ true
    fits-of-trees p q n empty h = refl
    fits-of-trees p q n (t before ts) h =
        and_from (arrows_fit o q.arrows.in_arrow q.arrows.parameter q.arrows.reaches t) (arrows_fit_all o q.arrows.in_arrow q.arrows.parameter q.arrows.reaches ts) (fits-of p q n t h.0) (fits-of-trees p q (n + scope_count_in t) ts h.1)

pub law_arrows_taken_proof : LawArrowsTaken
law_arrows_taken_proof o p on taken = fits-of o (symbols_of p) on (outermost p) program_place 1 p (taken-places o p taken)
