-- A kind of a sort is found by its name.
use Rattle.std.proofs.Common.{◌≡◌, List, [], ◌∷◌, Bool, true, false, Option, Some, None, refl, sym, ap, ◌∙◌}
use Rattle.std.proofs.lemmas.Bool.{eqb-true}
use Rattle.std.specs.List.{list_any, list_all}
use Rattle.es_tree.specs.Tree.{type_number, type_at, type_at-number}
use Rattle.es_tree.specs.Table.{kinds_of, kind_named, type_name}
use Rattle.es_tree.specs.HasForm.{same_type, is_of_sort}
use Rattle.es_tree.specs.declared.ast_type.AstType.{AstType}
use Rattle.es_tree.specs.declared.table.Sort.{Sort}
use Rattle.std.proofs.lemmas.Bool.{and_parts}
use Rattle.es_json.proofs.TableFacts.{is_type, sorts-tell_apart}

pub same_type-equal : (j k : AstType) → same_type j k ≡ true → j ≡ k
same_type-equal j k h = sym (type_at-number j) ∙ ap type_at (eqb-true (type_number j) (type_number k) h) ∙ type_at-number k

passes_at : (p : AstType → Bool) (k j : AstType) (ks : List AstType) (b : Bool) → same_type k j ≡ b → (list_any (same_type k) ks ≡ true → p k ≡ true)
    → list_any (same_type k) (j ∷ ks) ≡ true → p j ≡ true → p k ≡ true
passes_at p k j ks true is later h here = rw (same_type-equal k j is) here
passes_at p k j ks false is later h here = later (rw is at h)

-- what each of these kinds passes, one among them passes
pub passes : (p : AstType → Bool) (k : AstType) (ks : List AstType) → list_any (same_type k) ks ≡ true → list_all p ks ≡ true → p k ≡ true
passes p k [] h all = absurd (cc h)
passes p k (j ∷ ks) h all =
    passes_at p k j ks (same_type k j) refl (λ later. passes p k ks later (and_parts (p j) _ all).1) h (and_parts (p j) _ all).0

found : (o : Option AstType) (k : AstType) → is_type o k ≡ true → o ≡ Some k
found None k h = absurd (cc h)
found (Some j) k h = ap Some (same_type-equal j k h)

pub kind_named-type_name : (s : Sort) (k : AstType) → is_of_sort s k ≡ true → kind_named s (type_name k) ≡ Some k
kind_named-type_name s k h = found _ k (passes (λ j. is_type (kind_named s (type_name j)) j) k (kinds_of s) h (sorts-tell_apart s))
