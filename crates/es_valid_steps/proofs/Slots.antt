-- An expression in a slot that is wrapped, and one that is the body of an arrow, keep the rules of places where they then stand.
use Rattle.std.proofs.Common.{◌≡◌, ℕ, zero, suc, refl, sym, ap, subst, List, [], ◌∷◌}
use Rattle.std.specs.Prelude.{Bool, true, false}
use Rattle.es_tree.specs.Ancestors.{Ancestor, ancestor, is_derived_constructor, is_method_value, place_of}
use Rattle.es_tree.specs.CoreStaticRules.{is_bad_target, link_place}
use Rattle.es_tree.specs.HasForm.{has_form}
use Rattle.es_tree.specs.StaticRules.{is_misplaced_super, is_unmarked_callee, is_unmarked_object}
use Rattle.es_tree.specs.Tree.{Tree, Label, Fields, done, ◌then◌, one, many, empty, label_of}
use Rattle.es_tree.specs.declared.ast_type.AstType.{AstType}
use Rattle.es_tree.specs.declared.ast_type.AstType.TheVariants.{ArrowFunctionExpression, AssignmentPattern, CallExpression, PatternProperty, PropertyDefinition}
use Rattle.es_tree.specs.declared.place.Place.{Place}
use Rattle.es_tree.specs.declared.place.Place.TheVariants.{Other}
use Rattle.es_tree.specs.declared.table.Sort.TheVariants.{Expression as s-Expression}
use Rattle.es_runs.specs.Rules.{in_place_of}
use Rattle.es_steps.specs.Nodes.{arrow_node, made}
use Rattle.es_steps.specs.Slots.{is_slot}
use Rattle.es_steps.specs.WrapRule.{called_arrow}
use Rattle.es_valid_steps.specs.PlaceRules.{Keeps}
use Rattle.es_valid_steps.proofs.Edges.{expression-jumpless}
use Rattle.es_valid_steps.proofs.Free.{made-there, no-true}
use Rattle.es_valid_steps.proofs.Loose.{Loose, PlaceGoes, goes, is_loose, loose}
use Rattle.es_valid_steps.proofs.Loose.PlaceGoes.{within}
use Rattle.es_valid_steps.proofs.Moves.{super-moved}
use Rattle.es_valid_steps.proofs.Offers.{Offers, in_derived as in-derived}
use Rattle.es_valid_steps.proofs.Offers.PlaceOffers.{same_place}

-- SLOTS

abbrev pub is_slot_kind : AstType → Bool
is_slot_kind AssignmentPattern = true
is_slot_kind PatternProperty = true
is_slot_kind PropertyDefinition = true
is_slot_kind _ = false

-- the parent is a default value's, a property's of a pattern, or a class field
pub data SlotHead : List Ancestor → Type 0 where
  slot_head : {up : List Ancestor} (k : AstType) (l : Label) (all : Fields) (i : ℕ) → is_slot_kind k ≡ true → SlotHead (ancestor k l all i 0 ∷ up)

pub slot-kind : (up : List Ancestor) (k : AstType) (l : Label) (all : Fields) (i : ℕ) → is_slot (ancestor k l all i 0 ∷ up) ≡ true → is_slot_kind k ≡ true
slot-kind up AssignmentPattern l all i e = refl
slot-kind up PatternProperty l all i e = refl
slot-kind up PropertyDefinition l all i e = refl
slot-kind up k l all i e = absurd (cc e)

slot-loose : (k : AstType) → is_slot_kind k ≡ true → is_loose k ≡ true
slot-loose AssignmentPattern e = refl
slot-loose PatternProperty e = refl
slot-loose PropertyDefinition e = refl
slot-loose _ e = absurd (cc e)

record SlotPlace (up : List Ancestor) : Type 0 where
  is_loose : Loose up
  place : place_of up ≡ Other
  callee : is_unmarked_callee up ≡ false
  object : is_unmarked_object up ≡ false
  method : is_method_value up ≡ false
  constructor : is_derived_constructor up ≡ false
  class : in-derived up ≡ false

module _ (l : Label) (all : Fields) (up : List Ancestor) where
  slot-at : (k : AstType) (i : ℕ) → is_slot_kind k ≡ true → place_of (ancestor k l all i 0 ∷ up) ≡ Other
  slot-at AssignmentPattern zero e = refl
  slot-at AssignmentPattern (suc zero) e = refl
  slot-at AssignmentPattern (suc (suc i)) e = refl
  slot-at PatternProperty zero e = refl
  slot-at PatternProperty (suc zero) e = refl
  slot-at PatternProperty (suc (suc i)) e = refl
  slot-at PropertyDefinition zero e = refl
  slot-at PropertyDefinition (suc zero) e = refl
  slot-at PropertyDefinition (suc (suc i)) e = refl
  slot-at _ i e = absurd (cc e)

  no-constructor : (k : AstType) (i : ℕ) → is_slot_kind k ≡ true → (up : List Ancestor) → is_derived_constructor (ancestor k l all i 0 ∷ up) ≡ false
  no-constructor k i e [] = refl
  no-constructor AssignmentPattern i e (c ∷ up) = refl
  no-constructor PatternProperty i e (c ∷ up) = refl
  no-constructor PropertyDefinition i e (c ∷ up) = refl
  no-constructor _ i e (c ∷ up) = absurd (cc e)

  record SlotSays (k : AstType) (i : ℕ) : Type 0 where
    callee : is_unmarked_callee (ancestor k l all i 0 ∷ up) ≡ false
    object : is_unmarked_object (ancestor k l all i 0 ∷ up) ≡ false
    method : is_method_value (ancestor k l all i 0 ∷ up) ≡ false
    class : in-derived (ancestor k l all i 0 ∷ up) ≡ false

  slot-says : (k : AstType) (i : ℕ) → is_slot_kind k ≡ true → SlotSays k i
  slot-says AssignmentPattern i e = record { callee = refl; object = refl; method = refl; class = refl }
  slot-says PatternProperty i e = record { callee = refl; object = refl; method = refl; class = refl }
  slot-says PropertyDefinition i e = record { callee = refl; object = refl; method = refl; class = refl }
  slot-says _ i e = absurd (cc e)

slot-place : (up : List Ancestor) → SlotHead up → SlotPlace up
slot-place up (slot_head {up = rest} k l all i e) =
    let s = slot-says l all rest k i e in
    record { is_loose = loose l all i 0 rest k (slot-loose k e); place = slot-at l all rest k i e; callee = s.callee; object = s.object; method = s.method; constructor = no-constructor l all rest k i e rest; class = s.class }

-- the arrow's body, in the call that stands here
abbrev call_at_slot : Tree → List Ancestor → List Ancestor
call_at_slot e up = ancestor CallExpression (record (in_place_of (label_of e)) { flags = false ∷ [] }) (one (arrow_node e) then many empty then done) 0 0 ∷ up

abbrev in_arrow : Tree → List Ancestor → List Ancestor
in_arrow e up = ancestor ArrowFunctionExpression (made [] []) (many empty then one e then done) 1 0 ∷ up

wrapped-offers : (e : Tree) (up : List Ancestor) → SlotPlace up → Offers false up (in_arrow e (call_at_slot e up))
wrapped-offers e up s = record {
  labels = refl;
  loop = λ j h. absurd (cc j);
  breakable = λ j h. absurd (cc j);
  function = λ h. refl;
  members = λ h. h;
  calls = λ h. h;
  targets = λ h. h;
  in_module = refl;
  method = λ h. no-true (is_method_value up) _ s.method h;
  constructor = λ h. no-true (is_derived_constructor up) _ s.constructor h;
  class = λ h. no-true (in-derived up) _ s.class h;
}

from-other : (t : Tree) (p : Place) → p ≡ Other → PlaceGoes t p Other
from-other t p e = subst (λ (q : Place). PlaceGoes t q Other) (sym e) (within (same_place Other))

pub wrapped-keeps : (up : List Ancestor) (e : Tree) → SlotHead up → has_form s-Expression e ≡ true → Keeps up e → Keeps up (called_arrow e)
wrapped-keeps up e head f h =
    let s = slot-place up head in
    let call = call_at_slot e up in
    let arrow = in_arrow e call in
    let c = λ (w : is_misplaced_super up e ≡ false). super-moved up arrow false (wrapped-offers e up s) (λ x. no-true (is_unmarked_callee up) _ s.callee x) (λ x. no-true (is_unmarked_object up) _ s.object x) e w in
    let body = goes up arrow s.is_loose (loose (made [] []) (many empty then one e then done) 1 0 call ArrowFunctionExpression refl) false (wrapped-offers e up s) e c (from-other e (place_of up) s.place) (λ x. expression-jumpless e f) h in
    let target = subst (λ (p : Place). is_bad_target p (called_arrow e) ≡ false) (sym s.place) refl in
    (made-there up CallExpression _ _ s.is_loose target refl refl refl, ((made-there call ArrowFunctionExpression (made [] []) (many empty then one e then done) (loose _ _ 0 0 up CallExpression refl) (arrow-target e up s) refl refl refl, (tt, (body, tt))), (tt, tt)))
  where
    arrow-target : (e : Tree) (up : List Ancestor) → SlotPlace up → is_bad_target (place_of (call_at_slot e up)) (arrow_node e) ≡ false
    arrow-target e up s = ap (λ p. is_bad_target (link_place p) (arrow_node e)) s.place
