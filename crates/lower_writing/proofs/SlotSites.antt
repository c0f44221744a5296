-- What the ancestors of a context say of slots is so at each site to which they lead, and a slot is read.
use Rattle.std.proofs.Common.{◌≡◌, ◌∙◌, ℕ, refl, sym, ap, subst, List, true≢false}
use Rattle.std.specs.Prelude.{Bool, true, false, ◌&&◌, ◌||◌, ◌==◌}
use Rattle.std.proofs.lemmas.Bool.{eqb-true}
use Rattle.es_tree.specs.Ancestors.{ancestor, is_field_value}
use Rattle.es_tree.specs.Names.{has_computed}
use Rattle.es_tree.specs.Tree.{Label, Fields}
use Rattle.es_tree.specs.declared.ast_type.AstType.{AstType}
use Rattle.es_tree.specs.declared.ast_type.AstType.TheVariants.{ArrayPattern, ArrowFunctionExpression, AssignmentPattern, FunctionDeclaration, FunctionExpression, ObjectPattern, PatternProperty, PropertyDefinition, RestElement}
use Rattle.es_scope.specs.declared.ancestor.Ancestor.{Ancestor}
use Rattle.es_semantic.specs.RolesOf.{reads, role_at}
use Rattle.es_semantic.specs.declared.place.Role.{Role}
use Rattle.es_steps.specs.Open.{finished_fields}
use Rattle.es_steps.specs.Slots.{is_in_parameter, is_slot, leads_to_parameter, leads_to_part, leads_to_value}
use Rattle.es_steps.specs.Steps.{Site, outline}
use Rattle.es_changes.specs.Fits.{LeadTo}
use Rattle.es_changes.specs.Fits.LeadTo.{to_body, to_field, to_program}
use Rattle.es_traverse.specs.Sites.{leads_to_slot}
use Rattle.lower_writing.specs.Slots.{in_parameter, is_class_field, is_parameter_at, is_part_at, is_slot_at}

-- THE TABLE

or-off : (b : Bool) → (b || false) ≡ b
or-off true = refl
or-off false = refl

or-off-twice : (b : Bool) → ((b || false) || false) ≡ b
or-off-twice true = refl
or-off-twice false = refl

or-off-often : (b : Bool) → ((((b || false) || false) || false) || false) ≡ b
or-off-often true = refl
or-off-often false = refl

part-alike : (k : AstType) (l : Label) (fs : Fields) (i : ℕ) → leads_to_part (ancestor k l fs i 0) ≡ is_part_at k i
part-alike ObjectPattern l fs i = or-off-often (i == 0)
part-alike PatternProperty l fs i = or-off-twice (i == 1)
part-alike AssignmentPattern l fs i = or-off (i == 0)
part-alike ArrayPattern l fs i = refl
part-alike RestElement l fs i = refl
part-alike _ l fs i = refl

parameter-alike : (k : AstType) (l : Label) (fs : Fields) (i : ℕ) → leads_to_parameter (ancestor k l fs i 0) ≡ is_parameter_at k i
parameter-alike FunctionDeclaration l fs i = or-off-twice (i == 1)
parameter-alike FunctionExpression l fs i = or-off (i == 1)
parameter-alike ArrowFunctionExpression l fs i = refl
parameter-alike _ l fs i = refl

value-off : (x p : Bool) → (x || false) ≡ true → (x || (false && p)) ≡ (true || p)
value-off true p h = refl
value-off false p h = absurd (true≢false (sym h))

default-on : (x p : Bool) → (x || false) ≡ true → ((x || false) && p) ≡ p
default-on true p h = refl
default-on false p h = absurd (true≢false (sym h))

key-on : (x z p : Bool) → (x && z) ≡ true → ((x && z) && p) ≡ p
key-on x z p h = ap (λ b. b && p) h

slot-by-kind : (k : AstType) (l : Label) (fs : Fields) (i : ℕ) (p : Bool) → (is_field_value (ancestor k l fs i 0) || leads_to_value (ancestor k l fs i 0)) ≡ true →
    (is_field_value (ancestor k l fs i 0) || (leads_to_value (ancestor k l fs i 0) && p)) ≡ (is_class_field k || p)
slot-by-kind PropertyDefinition l fs i p h = value-off (i == 1) p h
slot-by-kind AssignmentPattern l fs i p h = default-on (i == 1) p h
slot-by-kind PatternProperty l fs i p h = key-on (i == 0) (has_computed PatternProperty l.flags) p h
slot-by-kind _ l fs i p h = absurd (true≢false (sym h))

only-first : (x p : Bool) → (x || (false && p)) ≡ true → x ≡ true
only-first true p h = refl
only-first false p h = h

first-of-two : (x p : Bool) → ((x || false) && p) ≡ true → x ≡ true
first-of-two true p h = refl
first-of-two false p h = h

first-of-three : (x z p : Bool) → ((x && z) && p) ≡ true → x ≡ true
first-of-three true z p h = refl
first-of-three false z p h = h

second-of-three : (x z p : Bool) → ((x && z) && p) ≡ true → z ≡ true
second-of-three true true p h = refl
second-of-three true false p h = h
second-of-three false z p h = absurd (true≢false (sym h))

slot-read : (k : AstType) (l : Label) (fs gs : Fields) (i : ℕ) (p : Bool) (r : Role) → (is_field_value (ancestor k l fs i 0) || (leads_to_value (ancestor k l fs i 0) && p)) ≡ true → role_at r k l gs i ≡ reads
slot-read PropertyDefinition l fs gs i p r h = subst (λ (j : ℕ). role_at r PropertyDefinition l gs j ≡ reads) (sym (eqb-true i 1 (only-first (i == 1) p h))) refl
slot-read AssignmentPattern l fs gs i p r h = subst (λ (j : ℕ). role_at r AssignmentPattern l gs j ≡ reads) (sym (eqb-true i 1 (first-of-two (i == 1) p h))) refl
slot-read PatternProperty l fs gs i p r h =
    subst (λ (j : ℕ). role_at r PatternProperty l gs j ≡ reads) (sym (eqb-true i 0 (first-of-three (i == 0) (has_computed PatternProperty l.flags) p h)))
    (rw (second-of-three (i == 0) (has_computed PatternProperty l.flags) p h) refl)
slot-read _ l fs gs i p r h = absurd (true≢false (sym h))

-- SITES

alike-parameter : {xs : List Ancestor} {n : Site} → LeadTo xs n → is_in_parameter n.above ≡ in_parameter xs
alike-parameter to_program = refl
alike-parameter (to_field a l fs d) = λ i. parameter-alike a.kind l (outline fs) a.field i || (part-alike a.kind l (outline fs) a.field i && alike-parameter d i)
alike-parameter (to_body p e d) = alike-parameter d

pub alike-slot : {xs : List Ancestor} {n : Site} → LeadTo xs n → leads_to_slot n.above ≡ true → is_slot n.above ≡ is_slot_at xs
alike-slot to_program h = absurd (true≢false (sym h))
alike-slot (to_field {n = n} a l fs d) h = slot-by-kind a.kind l (outline fs) a.field (is_in_parameter n.above) h ∙ ap (λ b. is_class_field a.kind || b) (alike-parameter d)
alike-slot (to_body p e d) h = alike-slot d h

pub read-slot : {xs : List Ancestor} {n : Site} → LeadTo xs n → is_slot n.above ≡ true → n.role ≡ reads
read-slot to_program h = absurd (true≢false (sym h))
read-slot (to_field {n = n} a l fs d) h = slot-read a.kind l (outline fs) (finished_fields fs) a.field (is_in_parameter n.above) n.role h
read-slot (to_body p e d) h = refl
