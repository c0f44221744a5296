-- Whether a kind is among others, by comparison and by its number.
use Rattle.std.proofs.Common.{◌≡◌, Bool, true, false, List, [], ◌∷◌, refl, sym, ap, ◌∙◌}
use Rattle.std.proofs.lemmas.Bool.{eqb-true, eq-eqb, false_from_ne_true}
use Rattle.std.specs.List.{list_any}
use denote.Enum.Bare.{sameb, same_true, same_false}
use Rattle.es_tree.specs.HasForm.{same_type}
use Rattle.es_tree.specs.Tree.{type_number, type_at, type_at-number}
use Rattle.es_tree.specs.declared.ast_type.AstType.{AstType}
use Rattle.es_tree.specs.contracts.ast_type.AstType.{the_type}

one_number : (j k : AstType) → type_number j ≡ type_number k → j ≡ k
one_number j k e = sym (type_at-number j) ∙ (ap type_at e ∙ type_at-number k)

pub same_by_number : (j k : AstType) (b : Bool) → sameb the_type j k ≡ b → b ≡ same_type k j
same_by_number j k true e =
    let same : j ≡ k = same_true the_type tt j k e in
    sym (eq-eqb (type_number k) (type_number j) (ap type_number (sym same)))
same_by_number j k false e =
    sym (false_from_ne_true (same_type k j) (λ h. same_false the_type j k e (sym (one_number k j (eqb-true (type_number k) (type_number j) h)))))

pub among_by_number : (k : AstType) (ks : List AstType) → list_any (λ j. sameb the_type j k) ks ≡ list_any (same_type k) ks
among_by_number k [] = refl
among_by_number k (j ∷ js) = rw (same_by_number j k (sameb the_type j k) refl, among_by_number k js) refl
