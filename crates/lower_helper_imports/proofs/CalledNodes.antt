-- Which helper a node uses, and what it becomes, by its fields.
use Rattle.std.proofs.Common.{◌≡◌, ◌∙◌, ◌<◌, ◌≤◌, ◌∷◌, Bool, Global, List, [], None, Vec, arith, false, length, refl, set, sym, true}
use Rattle.std.specs.Prelude.{if◌then◌else◌}
use Rattle.es_tree.specs.Tree.{Tree, node, Label, Fields, ◌then◌, many, trees}
use Rattle.es_tree.specs.Views.{plain_field, plain_fields}
use Rattle.es_tree.specs.declared.ast_type.AstType.TheVariants.{Identifier, MemberExpression}
use Rattle.es_tree.specs.declared.node.Field.{Field as NodeField}
use Rattle.es_tree.specs.declared.node.Field.TheVariants.{Many, Missing, One, Statements}
use Rattle.es_helper_calls.specs.HelperCalls.{calls_one, helper_of, in_its_place, lone_helper, with_argument, with_callee}
use Rattle.lower_helper_imports.specs.Parts.{has_arguments}

-- a member has two fields
pub few-parts : (l : Label) (fs : List NodeField) → length fs < 2 → None ≡ helper_of (node MemberExpression l (plain_fields fs))
few-parts l [] h = refl
few-parts l (Missing ∷ []) h = refl
few-parts l (One t ∷ []) h = refl
few-parts l (Many ts ∷ []) h = refl
few-parts l (Statements ts ∷ []) h = refl
few-parts l (f ∷ g ∷ fs) h = absurd (omega (arith, h))

pub more-parts : (l : Label) (fs : List NodeField) → 3 ≤ length fs → None ≡ helper_of (node MemberExpression l (plain_fields fs))
more-parts l [] h = absurd (omega (arith, h))
more-parts l (f ∷ []) h = absurd (omega (arith, h))
more-parts l (f ∷ g ∷ []) h = absurd (omega (arith, h))
more-parts l (One t ∷ One (node Identifier m gs) ∷ k ∷ fs) h = refl
more-parts l (One t ∷ One (node _ m gs) ∷ k ∷ fs) h = refl
more-parts l (One t ∷ Missing ∷ k ∷ fs) h = refl
more-parts l (One t ∷ Many us ∷ k ∷ fs) h = refl
more-parts l (One t ∷ Statements us ∷ k ∷ fs) h = refl
more-parts l (Missing ∷ g ∷ k ∷ fs) h = refl
more-parts l (Many ts ∷ g ∷ k ∷ fs) h = refl
more-parts l (Statements ts ∷ g ∷ k ∷ fs) h = refl

-- more arguments than one are none alone
pub more-arguments : (ts : List Tree) → 2 ≤ length ts → None ≡ lone_helper (trees ts)
more-arguments [] h = absurd (omega (arith, h))
more-arguments (t ∷ []) h = absurd (omega (arith, h))
more-arguments (t ∷ u ∷ ts) h = refl

-- a call has two fields
pub few-fields : (fs : List NodeField) → length fs < 2 → false ≡ has_arguments (plain_fields fs)
few-fields [] h = refl
few-fields (f ∷ []) h = refl
few-fields (f ∷ g ∷ fs) h = absurd (omega (arith, h))

pub some-fields : (fs : List NodeField) → has_arguments (plain_fields fs) ≡ true → 1 < length fs
some-fields [] e = absurd (cc e)
some-fields (f ∷ []) e = absurd (cc e)
some-fields (f ∷ g ∷ fs) e = omega arith

-- A NAME WHERE THE HELPER STOOD

-- which of two, by whether a helper is what is called
in-place : (b : Bool) (t : Tree) (fs : Fields) → calls_one fs ≡ b → (if b then with_callee t fs else with_argument t fs) ≡ in_its_place t fs
in-place b t fs e = λ i. if sym e i then with_callee t fs else with_argument t fs

pub put-callee : (fs : List NodeField) (t : Tree) → calls_one (plain_fields fs) ≡ true → plain_fields (set fs 0 (One t)) ≡ in_its_place t (plain_fields fs)
put-callee [] t e = absurd (cc e)
put-callee (One f ∷ fs) t e = in-place true t (plain_fields (One f ∷ fs)) e
put-callee (Missing ∷ fs) t e = absurd (cc e)
put-callee (Many ts ∷ fs) t e = absurd (cc e)
put-callee (Statements ts ∷ fs) t e = absurd (cc e)

pub put-argument : (fs : List NodeField) (ts : Vec Tree Global) (t : Tree) → ts.items ≡ t ∷ [] → calls_one (plain_fields fs) ≡ false → has_arguments (plain_fields fs) ≡ true → plain_fields (set fs 1 (Many ts)) ≡ in_its_place t (plain_fields fs)
put-argument [] ts t is e h = absurd (cc h)
put-argument (f ∷ []) ts t is e h = absurd (cc h)
put-argument (f ∷ Many us ∷ fs) ts t is e h = (λ i. plain_field f then (many (trees (is i)) then plain_fields fs)) ∙ in-place false t (plain_fields (f ∷ Many us ∷ fs)) e
put-argument (f ∷ Missing ∷ fs) ts t is e h = absurd (cc h)
put-argument (f ∷ One u ∷ fs) ts t is e h = absurd (cc h)
put-argument (f ∷ Statements us ∷ fs) ts t is e h = absurd (cc h)
