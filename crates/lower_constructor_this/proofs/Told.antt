-- The fields in which anything stands otherwise than elsewhere.
use Rattle.std.proofs.Common.{◌≡◌, arith, refl, suc, sym, zero, ℕ}
use Rattle.std.proofs.lemmas.Bool.Decides.{nat_tests}
use Rattle.std.specs.Prelude.{◌&&◌, ◌==◌, Bool, false, true}
use Rattle.es_tree.specs.Tree.{Label, Fields}
use Rattle.es_tree.specs.Ancestors.{is_class}
use Rattle.es_tree.specs.HasForm.{same_type}
use Rattle.es_tree.specs.declared.ast_type.AstType.{AstType}
use Rattle.es_tree.specs.declared.ast_type.AstType.TheVariants.{FunctionExpression, MethodDefinition}
use Rattle.es_super_calls.specs.Constructors.{is_constructor, is_member, standing_in}
use Rattle.es_super_calls.specs.declared.standing.ClassStanding.{ClassStanding}
use Rattle.es_super_calls.specs.declared.standing.ClassStanding.TheVariants.{Elsewhere}
use Rattle.lower_constructor_this.specs.Parts.{standing_at}
use Rattle.lower_constructor_this.specs.declared.places.Standings.{Standings}

and-no : (b : Bool) → b && false ≡ false
and-no true = refl
and-no false = refl

in-first : (s : ClassStanding) (k : AstType) (l : Label) (fs : Fields) → standing_in s k l fs 0 ≡ Elsewhere
in-first s k l fs = rw (and-no (is_class k), and-no (is_member s && same_type k MethodDefinition), and-no (is_constructor s && same_type k FunctionExpression)) refl

not-2 : (i : ℕ) → (suc (suc (suc i)) == 2) ≡ false
not-2 i = grind (arith, nat_tests)

not-1 : (i : ℕ) → (suc (suc (suc i)) == 1) ≡ false
not-1 i = grind (arith, nat_tests)

in-later : (s : ClassStanding) (k : AstType) (l : Label) (fs : Fields) (i : ℕ) → standing_in s k l fs (suc (suc (suc i))) ≡ Elsewhere
in-later s k l fs i = rw (not-2 i, not-1 i, and-no (is_class k), and-no (is_member s && same_type k MethodDefinition), and-no (is_constructor s && same_type k FunctionExpression)) refl

pub told : (r : Standings) (s : ClassStanding) (k : AstType) (l : Label) (fs : Fields) → r.at_1 ≡ standing_in s k l fs 1 → r.at_2 ≡ standing_in s k l fs 2 → (i : ℕ) → standing_at r i ≡ standing_in s k l fs i
told r s k l fs h1 h2 zero = sym (in-first s k l fs)
told r s k l fs h1 h2 (suc zero) = h1
told r s k l fs h1 h2 (suc (suc zero)) = h2
told r s k l fs h1 h2 (suc (suc (suc i))) = sym (in-later s k l fs i)
