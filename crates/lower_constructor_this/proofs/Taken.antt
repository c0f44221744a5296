-- Where no name is taken, and what holds of a node without fields.
use Rattle.std.proofs.Common.{◌≡◌, ◌≤◌, ◌∷◌, Bool, List, [], None, arith, false, length, refl}
use Rattle.std.proofs.lemmas.Bool.Decides.{nat_tests}
use Rattle.std.specs.Prelude.{◌==◌}
use Rattle.es_tree.specs.Tree.{Tree, Label, node, trees}
use Rattle.es_tree.specs.Views.{plain_fields}
use Rattle.es_tree.specs.Words.{Text}
use Rattle.es_tree.specs.declared.ast_type.AstType.TheVariants.{Identifier, ThisExpression}
use Rattle.es_tree.specs.declared.node.Field.{Field as NodeField}
use Rattle.es_tree.specs.declared.node.Field.TheVariants.{Many, Missing, One, Statements}
use Rattle.es_set_this.specs.ConstructorThis.{is_made_name, is_this}
use Rattle.lower_constructor_this.specs.Parts.{in_declarations, in_declarators, in_parts, parts_without}

-- NO FIELDS

some-left : (f : NodeField) (fs : List NodeField) → (length (f ∷ fs) == 0) ≡ false
some-left f fs = grind (arith, nat_tests)

pub this-alone : (l : Label) (fs : List NodeField) → (length fs == 0) ≡ is_this (node ThisExpression l (plain_fields fs))
this-alone l [] = refl
this-alone l (f ∷ fs) = some-left f fs

pub no-name : (made : Text → Bool) (l : Label) (fs : List NodeField) → (length fs == 0) ≡ false → false ≡ is_made_name made (node Identifier l (plain_fields fs))
no-name made l [] h = absurd (cc h)
no-name made l (f ∷ fs) h = refl

-- NO NAME

pub other-parts : (made : Text → Bool) (fs : List NodeField) → (length fs ≡ 2 → ⊥) → None ≡ in_parts made (plain_fields fs)
other-parts made [] h = refl
other-parts made (f ∷ []) h = refl
other-parts made (f ∷ g ∷ []) h = absurd (h refl)
other-parts made (f ∷ g ∷ i ∷ fs) h = refl

pub other-declarators : (made : Text → Bool) (ts : List Tree) → (length ts ≡ 1 → ⊥) → None ≡ in_declarators made (trees ts)
other-declarators made [] h = refl
other-declarators made (t ∷ []) h = absurd (h refl)
other-declarators made (t ∷ u ∷ ts) h = refl

pub other-declarations : (made : Text → Bool) (fs : List NodeField) → (length fs ≡ 1 → ⊥) → None ≡ in_declarations made (plain_fields fs)
other-declarations made [] h = refl
other-declarations made (f ∷ []) h = absurd (h refl)
other-declarations made (Many ts ∷ g ∷ fs) h = refl
other-declarations made (One t ∷ g ∷ fs) h = refl
other-declarations made (Missing ∷ g ∷ fs) h = refl
other-declarations made (Statements ts ∷ g ∷ fs) h = refl

-- NO VALUE

pub fewer-parts : (fs : List NodeField) → length fs ≤ 1 → plain_fields fs ≡ parts_without (plain_fields fs)
fewer-parts [] h = refl
fewer-parts (f ∷ []) h = refl
fewer-parts (f ∷ g ∷ fs) h = absurd (omega (arith, h))
