-- What slots are wrapped for, what is known of places, and what stands in the way of arrows look at no mark and no id.
use Rattle.std.proofs.Common.{◌≡◌, ◌∙◌, ℕ, zero, suc, ◌==◌, Bool, false, ◌&&◌, ◌||◌, not, Option, Some, None, is_some, bytes_eq, codes, if◌then◌else◌, List, refl, sym, ap}
use Rattle.es_tree.specs.Ancestors.{ancestor, is_field_value}
use Rattle.es_tree.specs.Bare.{bare, bare_field, bare_fields, bare_label, bare_trees}
use Rattle.es_tree.specs.Constructs.{field_at, is_chain, is_logical_assignment, is_nullish_coalescing, is_private_target}
use Rattle.es_tree.specs.HasForm.{same_type}
use Rattle.es_tree.specs.Names.{first_text}
use Rattle.es_tree.specs.StaticRules.{is_accessor_word}
use Rattle.es_tree.specs.Tree.{Tree, node, Label, Fields, done, ◌then◌, Field, missing, one, many, statements, Trees, empty, ◌before◌}
use Rattle.es_tree.specs.Walks.{NodeTest}
use Rattle.es_tree.specs.declared.ast_type.AstType.{AstType}
use Rattle.es_tree.specs.declared.ast_type.AstType.TheVariants.{ArrowFunctionExpression, AssignmentExpression, CallExpression, ChainExpression, LogicalExpression, MemberExpression, ObjectProperty, ThisExpression, UnaryExpression}
use Rattle.es_tree.specs.declared.error.UnsupportedKind.TheVariants.{ArrowOuter, ArrowThis}
use Rattle.es_tree.specs.declared.options.EnvOptions.{EnvOptions}
use Rattle.es_semantic.specs.Places.{is_inside}
use Rattle.es_steps.specs.Slots.{closes, holds, holds_field, holds_fields, holds_trees, leads_to_value}
use Rattle.es_steps.specs.ThisPlaces.{keeps_this}
use Rattle.es_tree.specs.RestTargets.{is_rest_target}
use Rattle.es_steps.specs.WrapRule.{is_member_target, is_wrapped_for}
use Rattle.es_arrow_steps.specs.ThisFits.{reaches_in}
use Rattle.es_valid_steps.specs.ArrowNodes.{is_arrow_accessor, is_kind_within, is_this_within}
use Rattle.es_valid_arrows.specs.ArrowPlaces.{parameter_in}
use Rattle.es_super_calls.specs.Constructors.{is_constructor}
use Rattle.es_super_calls.specs.declared.standing.ClassStanding.{ClassStanding}
use Rattle.es_super_calls.proofs.BareCalls.{calls_it-bare}
use Rattle.es_super_calls.proofs.BareStandings.{standing-bare}
use Rattle.es_unsupported.specs.ArrowShapes.{arrow_place_in, arrow_shape, inner_shape}
use Rattle.es_unsupported.specs.EarlySuper.{arrow_this, arrow_this_among, arrow_this_by, arrow_this_in, has_arrow_this}
use Rattle.es_unsupported.specs.declared.arrow_places.ArrowPlace.{ArrowPlace}
use Rattle.es_unsupported.proofs.BareNodes.{child-bare, exponentiation-bare, field_at-bare, kind-bare, kind_within-bare, private-target-bare, rest-target-bare}

-- WHAT A SLOT IS WRAPPED FOR

nullish-bare : (k : AstType) (l : Label) (fs : Fields) → is_nullish_coalescing k (bare_label l) (bare_fields fs) ≡ is_nullish_coalescing k l fs
nullish-bare LogicalExpression l fs = refl
nullish-bare _ l fs = refl

chain-bare : (k : AstType) (l : Label) (fs : Fields) → is_chain k (bare_label l) (bare_fields fs) ≡ is_chain k l fs
chain-bare ChainExpression l fs = refl
chain-bare _ l fs = refl

logical-bare : (k : AstType) (l : Label) (fs : Fields) → is_logical_assignment k (bare_label l) (bare_fields fs) ≡ is_logical_assignment k l fs
logical-bare AssignmentExpression l fs =
    ap (λ b. (bytes_eq (first_text l.texts) (codes "||=") || bytes_eq (first_text l.texts) (codes "&&=") || bytes_eq (first_text l.texts) (codes "??=")) && not b)
    (ap is_private_target (field_at-bare 0 fs) ∙ private-target-bare (field_at 0 fs))
logical-bare _ l fs = refl

member-target-bare : (f : Field) → is_member_target (bare_field f) ≡ is_member_target f
member-target-bare missing = refl
member-target-bare (one t) = ap (λ k. same_type k MemberExpression) (kind_within-bare t)
member-target-bare (many ts) = refl
member-target-bare (statements ts) = refl

wrapped_for-bare : (o : EnvOptions) (k : AstType) (l : Label) (fs : Fields) → is_wrapped_for o k (bare_label l) (bare_fields fs) ≡ is_wrapped_for o k l fs
wrapped_for-bare o k l fs =
    let member : is_member_target (field_at 0 (bare_fields fs)) ≡ is_member_target (field_at 0 fs) = ap is_member_target (field_at-bare 0 fs) ∙ member-target-bare (field_at 0 fs) in
    let rest : is_rest_target (field_at 0 (bare_fields fs)) ≡ is_rest_target (field_at 0 fs) = ap is_rest_target (field_at-bare 0 fs) ∙ rest-target-bare (field_at 0 fs) in
    λ i. (o.es2020.nullish_coalescing_operator && nullish-bare k l fs i)
    || (o.es2020.optional_chaining && chain-bare k l fs i)
    || (o.es2016.exponentiation_operator && same_type k AssignmentExpression && exponentiation-bare k l fs i)
    || (o.es2021.logical_assignment_operators && logical-bare k l fs i && (member i || (o.es2020.nullish_coalescing_operator && bytes_eq (first_text l.texts) (codes "??="))))
    || (is_some o.es2018.object_rest_spread && same_type k AssignmentExpression && rest i)

module _ (p : NodeTest) (same : (k : AstType) (l : Label) (fs : Fields) → p k (bare_label l) (bare_fields fs) ≡ p k l fs) where
  mutual
    holds-bare : (t : Tree) → holds p (bare t) ≡ holds p t
    holds-bare (node k l fs) = λ i. same k l fs i || holds-fields-bare (closes k) fs i

    holds-fields-bare : (c : ℕ → Bool) (fs : Fields) → holds_fields p c (bare_fields fs) ≡ holds_fields p c fs
    holds-fields-bare c done = refl
    holds-fields-bare c (f then fs) = λ i. (not (c zero) && holds-field-bare f i) || holds-fields-bare (λ j. c (suc j)) fs i

    holds-field-bare : (f : Field) → holds_field p (bare_field f) ≡ holds_field p f
    holds-field-bare missing = refl
    holds-field-bare (one t) = holds-bare t
    holds-field-bare (many ts) = holds-trees-bare ts
    holds-field-bare (statements ts) = holds-trees-bare ts

    holds-trees-bare : (ts : Trees) → holds_trees p (bare_trees ts) ≡ holds_trees p ts
    holds-trees-bare empty = refl
    holds-trees-bare (t before ts) = λ i. holds-bare t i || holds-trees-bare ts i

wrapped-bare : (o : EnvOptions) (f : Field) → holds_field (is_wrapped_for o) (bare_field f) ≡ holds_field (is_wrapped_for o) f
wrapped-bare o = holds-field-bare (is_wrapped_for o) (wrapped_for-bare o)

-- PLACES

mutual
  this-bare : (inside : Bool) (t : Tree) → arrow_this inside (bare t) ≡ arrow_this inside t
  this-bare inside (node k l fs) = λ i. (same_type k ThisExpression && inside) || this-in-bare (inside || same_type k ArrowFunctionExpression) (λ j. keeps_this (ancestor k l done j 0)) fs i

  this-in-bare : (inside : Bool) (keeps : ℕ → Bool) (fs : Fields) → arrow_this_in inside keeps (bare_fields fs) ≡ arrow_this_in inside keeps fs
  this-in-bare inside keeps done = refl
  this-in-bare inside keeps (f then fs) = λ i. (not (keeps zero) && this-by-bare inside f i) || this-in-bare inside (λ j. keeps (suc j)) fs i

  this-by-bare : (inside : Bool) (f : Field) → arrow_this_by inside (bare_field f) ≡ arrow_this_by inside f
  this-by-bare inside missing = refl
  this-by-bare inside (one t) = this-bare inside t
  this-by-bare inside (many ts) = this-among-bare inside ts
  this-by-bare inside (statements ts) = this-among-bare inside ts

  this-among-bare : (inside : Bool) (ts : Trees) → arrow_this_among inside (bare_trees ts) ≡ arrow_this_among inside ts
  this-among-bare inside empty = refl
  this-among-bare inside (t before ts) = λ i. this-bare inside t i || this-among-bare inside ts i

has_this-bare : (fs : Fields) → has_arrow_this (bare_fields fs) ≡ has_arrow_this fs
has_this-bare done = refl
has_this-bare (f then done) = refl
has_this-bare (f then ps then done) = refl
has_this-bare (f then ps then b then fs) = this-by-bare false b

-- what is known of what stands in a field, where it is known whether that holds what a slot is wrapped for, how it stands, and whether a `this`
-- of the body belongs to an arrow
abbrev place_with : EnvOptions → Bool → ArrowPlace → AstType → Label → ℕ → Bool → ClassStanding → Bool → ArrowPlace
place_with o binds q k l i held standing has_this =
    let a = ancestor k l done i 0 in
    let wrapped = (is_field_value a || (leads_to_value a && q.parameter)) && held in
    if is_some o.es2015.arrow_function then record {
      in_arrow = wrapped || (not (keeps_this a) && (same_type k ArrowFunctionExpression || q.in_arrow));
      parameter = parameter_in q.parameter a;
      reaches = reaches_in q.reaches a;
      standing = standing;
      early_super = if keeps_this a then is_constructor q.standing && i == 1 && has_this else q.early_super;
      own_arguments = (not (wrapped || same_type k ArrowFunctionExpression) && q.own_arguments) || (binds && is_inside k i);
    } else q

arrow_place-bare : (o : EnvOptions) (binds : Bool) (q : ArrowPlace) (k : AstType) (l : Label) (fs : Fields) (i : ℕ) (f : Field) → arrow_place_in o binds q k (bare_label l) (bare_fields fs) i (bare_field f) ≡ arrow_place_in o binds q k l fs i f
arrow_place-bare o binds q k l fs i f = λ j. place_with o binds q k l i (wrapped-bare o f j) (standing-bare q.standing k l fs i j) (has_this-bare fs j)

-- so it is where two nodes and two fields differ in marks alone
pub arrow_place-marked : (o : EnvOptions) (binds : Bool) (q : ArrowPlace) (k : AstType) (l : Label) (ms : List (Option ℕ)) (fs gs : Fields) (i : ℕ) (f g : Field) → bare_fields gs ≡ bare_fields fs → bare_field g ≡ bare_field f →
    arrow_place_in o binds q k (record l { marks = ms }) gs i g ≡ arrow_place_in o binds q k l fs i f
arrow_place-marked o binds q k l ms fs gs i f g e d =
    sym (arrow_place-bare o binds q k (record l { marks = ms }) gs i g) ∙ ((λ j. arrow_place_in o binds q k (bare_label l) (e j) i (d j)) ∙ arrow_place-bare o binds q k l fs i f)

-- SHAPES

accessor-bare : (k : AstType) (l : Label) (fs : Fields) → is_arrow_accessor k (bare_label l) (bare_fields fs) ≡ is_arrow_accessor k l fs
accessor-bare ObjectProperty l fs = ap (λ b. is_accessor_word (first_text l.texts) && b) (child-bare (is_kind_within ArrowFunctionExpression) (λ t. ap (λ k. same_type k ArrowFunctionExpression) (kind-bare t)) 1 fs)
accessor-bare _ l fs = refl

inner-bare : (q : ArrowPlace) (r : Bool) (k : AstType) (l : Label) (fs : Fields) → inner_shape q r k (bare_label l) (bare_fields fs) ≡ inner_shape q r k l fs
inner-bare q r UnaryExpression l fs =
    ap (λ b. if bytes_eq (first_text l.texts) (codes "delete") && b then Some ArrowThis else None) (child-bare is_this_within (λ t. ap (λ k. same_type k ThisExpression) (kind_within-bare t)) 0 fs)
inner-bare q r _ l fs = refl

arrow_shape-bare : (o : EnvOptions) (q : ArrowPlace) (r : Bool) (k : AstType) (l : Label) (fs : Fields) → arrow_shape o q r k (bare_label l) (bare_fields fs) ≡ arrow_shape o q r k l fs
arrow_shape-bare o q r k l fs = λ i. if not (is_some o.es2015.arrow_function) then None else if accessor-bare k l fs i then Some ArrowOuter else if q.early_super && (same_type k CallExpression && calls_it-bare fs i) then Some ArrowThis else if q.in_arrow then inner-bare q r k l fs i else None

pub arrow_shape-marked : (o : EnvOptions) (q : ArrowPlace) (r : Bool) (k : AstType) (l : Label) (ms : List (Option ℕ)) (fs gs : Fields) → bare_fields gs ≡ bare_fields fs → arrow_shape o q r k (record l { marks = ms }) gs ≡ arrow_shape o q r k l fs
arrow_shape-marked o q r k l ms fs gs e = sym (arrow_shape-bare o q r k (record l { marks = ms }) gs) ∙ (ap (arrow_shape o q r k (bare_label l)) e ∙ arrow_shape-bare o q r k l fs)
