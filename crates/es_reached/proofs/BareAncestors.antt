-- What the rules of places ask of the ancestors of a node, without their ids and marks.
use Rattle.std.proofs.Common.{◌≡◌, ℕ, zero, suc, refl, ap, ◌∙◌, List, [], ◌∷◌, ◌++◌}
use Rattle.std.specs.Prelude.{not, ◌&&◌, ◌||◌, bytes_eq, codes, if◌then◌else◌}
use Rattle.es_tree.specs.Ancestors.{Ancestor, has_new_target, has_super_calls, has_super_members, is_boundary, is_breakable, is_class, is_derived, is_derived_constructor, is_field_value, is_function, is_in_function, is_in_loop, is_loop, is_method_value, is_module, is_switch, labels, leads_by, own_labels, place_of, stands_in}
use Rattle.es_tree.specs.Bare.{bare_fields, bare_label}
use Rattle.es_tree.specs.CoreStaticRules.{first_place, place_in}
use Rattle.es_tree.specs.HasForm.{same_type}
use Rattle.es_tree.specs.Names.{first_text}
use Rattle.es_tree.specs.StaticRules.{is_lone_body, is_unmarked_callee, is_unmarked_object}
use Rattle.es_tree.specs.Tree.{Label}
use Rattle.es_tree.specs.declared.ast_type.AstType.{AstType}
use Rattle.es_tree.specs.declared.ast_type.AstType.TheVariants.{AssignmentExpression, CallExpression, LabeledStatement, MemberExpression, MethodDefinition, Program, StaticBlock, VariableDeclaration}
use Rattle.es_tree.specs.declared.place.Place.{Place}
use Rattle.es_reached.proofs.BareNodes.{has-child-bare, loop-body-bare, name-bare, optional-bare}

abbrev pub bare_ancestor : Ancestor → Ancestor
bare_ancestor a = record a { label = bare_label a.label; fields = bare_fields a.fields }

abbrev pub bare_around : List Ancestor → List Ancestor
bare_around [] = []
bare_around (a ∷ up) = bare_ancestor a ∷ bare_around up

-- THE PARENT

pub stands-bare : (k : AstType) (i : ℕ) (up : List Ancestor) → stands_in k i (bare_around up) ≡ stands_in k i up
stands-bare k i [] = refl
stands-bare k i (a ∷ up) = refl

pub callee-bare : (up : List Ancestor) → is_unmarked_callee (bare_around up) ≡ is_unmarked_callee up
callee-bare [] = refl
callee-bare (a ∷ up) = ap (λ b. leads_by CallExpression 0 a && not b) (optional-bare a.kind a.label)

pub object-bare : (up : List Ancestor) → is_unmarked_object (bare_around up) ≡ is_unmarked_object up
object-bare [] = refl
object-bare (a ∷ up) = ap (λ b. leads_by MemberExpression 0 a && not b) (optional-bare a.kind a.label)

pub lone-body-bare : (up : List Ancestor) → is_lone_body (bare_around up) ≡ is_lone_body up
lone-body-bare [] = refl
lone-body-bare (a ∷ up) = refl

-- PLACES

first-place-bare : (p : Place) (k : AstType) (l : Label) → first_place p k (bare_label l) ≡ first_place p k l
first-place-bare p VariableDeclaration l = refl
first-place-bare p AssignmentExpression l = refl
first-place-bare p _ l = refl

place-in-bare : (p : Place) (k : AstType) (l : Label) (n : ℕ) → place_in p k (bare_label l) n ≡ place_in p k l n
place-in-bare p k l zero = first-place-bare p k l
place-in-bare p k l (suc zero) = refl
place-in-bare p k l (suc (suc n)) = refl

pub place-bare : (up : List Ancestor) → place_of (bare_around up) ≡ place_of up
place-bare [] = refl
place-bare (a ∷ up) = place-in-bare (place_of (bare_around up)) a.kind a.label a.index ∙ ap (λ p. place_in p a.kind a.label a.index) (place-bare up)

-- MODULES

pub module-bare : (up : List Ancestor) → is_module (bare_around up) ≡ is_module up
module-bare [] = refl
module-bare (a ∷ up) = ap (λ b. (same_type a.kind Program && bytes_eq (first_text a.label.texts) (codes "module")) || b) (module-bare up)

-- LABELS AND JUMPS

own-labels-bare : (a : Ancestor) → own_labels (bare_ancestor a) ≡ own_labels a
own-labels-bare a = λ i. if leads_by LabeledStatement 1 a then record { name = name-bare a.fields i; loop = loop-body-bare a.fields i } ∷ [] else []

pub labels-bare : (up : List Ancestor) → labels (bare_around up) ≡ labels up
labels-bare [] = refl
labels-bare (a ∷ up) = λ i. if is_boundary a.kind then [] else own-labels-bare a i ++ labels-bare up i

pub in-loop-bare : (up : List Ancestor) → is_in_loop (bare_around up) ≡ is_in_loop up
in-loop-bare [] = refl
in-loop-bare (a ∷ up) = ap (λ b. not (is_boundary a.kind) && (is_loop a.kind || b)) (in-loop-bare up)

pub breakable-bare : (up : List Ancestor) → is_breakable (bare_around up) ≡ is_breakable up
breakable-bare [] = refl
breakable-bare (a ∷ up) = ap (λ b. not (is_boundary a.kind) && (is_loop a.kind || is_switch a.kind || b)) (breakable-bare up)

pub in-function-bare : (up : List Ancestor) → is_in_function (bare_around up) ≡ is_in_function up
in-function-bare [] = refl
in-function-bare (a ∷ up) = ap (λ b. if is_boundary a.kind then not (same_type a.kind StaticBlock) else b) (in-function-bare up)

-- `super` AND `new.target`

method-bare : (up : List Ancestor) → is_method_value (bare_around up) ≡ is_method_value up
method-bare [] = refl
method-bare (a ∷ up) = refl

pub members-bare : (up : List Ancestor) → has_super_members (bare_around up) ≡ has_super_members up
members-bare [] = refl
members-bare (a ∷ up) = λ i. if is_function a.kind then method-bare up i else same_type a.kind StaticBlock || is_field_value a || members-bare up i

derived-bare : (c : Ancestor) → is_derived (bare_ancestor c) ≡ is_derived c
derived-bare c = ap (λ b. is_class c.kind && b) (has-child-bare 1 c.fields)

constructor-bare : (up : List Ancestor) → is_derived_constructor (bare_around up) ≡ is_derived_constructor up
constructor-bare [] = refl
constructor-bare (a ∷ []) = refl
constructor-bare (a ∷ (c ∷ up)) = ap (λ b. leads_by MethodDefinition 1 a && bytes_eq (first_text a.label.texts) (codes "constructor") && b) (derived-bare c)

pub calls-bare : (up : List Ancestor) → has_super_calls (bare_around up) ≡ has_super_calls up
calls-bare [] = refl
calls-bare (a ∷ up) = λ i. if is_function a.kind then constructor-bare up i else not (same_type a.kind StaticBlock || is_field_value a) && calls-bare up i

pub new-target-bare : (up : List Ancestor) → has_new_target (bare_around up) ≡ has_new_target up
new-target-bare [] = refl
new-target-bare (a ∷ up) = ap (λ b. is_function a.kind || same_type a.kind StaticBlock || is_field_value a || b) (new-target-bare up)
