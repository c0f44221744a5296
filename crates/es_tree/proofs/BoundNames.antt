-- The bound identifiers of one more field or node, and of a property without its value.
use Rattle.std.proofs.Common.{ℕ, ◌+◌, ◌<◌, ◌≤◌, ◌≡◌, ◌∙◌, List, [], ◌∷◌, ◌++◌, append-nil, append_assoc, ap, arith, get_or, length, map, refl, sym, take}
use Rattle.std.proofs.lemmas.List.{take_more}
use Rattle.es_tree.specs.BoundNames.{bound_identifiers, bound_in_second, bound_in_fields, bound_in_field, bound_in_trees}
use Rattle.es_tree.specs.Tree.{Tree, fields, trees}
use Rattle.es_tree.specs.Views.{plain_field}
use Rattle.es_tree.specs.declared.node.Field.{Field as NodeField}

trees_push : (ts : List Tree) (t : Tree) → bound_in_trees (trees (ts ++ t ∷ [])) ≡ bound_in_trees (trees ts) ++ bound_identifiers t
trees_push [] t = append-nil (bound_identifiers t)
trees_push (u ∷ ts) t = ap (λ bs. bound_identifiers u ++ bs) (trees_push ts t) ∙ sym (append_assoc (bound_identifiers u) _ _)

fields_push : (fs : List NodeField) (f : NodeField) → bound_in_fields (fields (map plain_field (fs ++ f ∷ []))) ≡ bound_in_fields (fields (map plain_field fs)) ++ bound_in_field (plain_field f)
fields_push [] f = append-nil (bound_in_field (plain_field f))
fields_push (g ∷ fs) f = ap (λ bs. bound_in_field (plain_field g) ++ bs) (fields_push fs f) ∙ sym (append_assoc (bound_in_field (plain_field g)) _ _)

pub trees_more : (old mid new : List Tree) (ts : List Tree) (i : ℕ) (t : Tree) → i < length ts → t ≡ get_or ts i t
    → mid ≡ old ++ bound_in_trees (trees (take i ts)) → new ≡ mid ++ bound_identifiers t → new ≡ old ++ bound_in_trees (trees (take (i + 1) ts))
trees_more old mid new ts i t h is e d =
    rw (take_more ts i t h, ← is, trees_push (take i ts) t, d, e) (append_assoc old _ _)

pub fields_more : (old mid new : List Tree) (fs : List NodeField) (i : ℕ) (f : NodeField) → i < length fs → f ≡ get_or fs i f
    → mid ≡ old ++ bound_in_fields (fields (map plain_field (take i fs))) → new ≡ mid ++ bound_in_field (plain_field f)
    → new ≡ old ++ bound_in_fields (fields (map plain_field (take (i + 1) fs)))
fields_more old mid new fs i f h is e d =
    rw (take_more fs i f h, ← is, fields_push (take i fs) f, d, e) (append_assoc old _ _)

pub no_second : (fs : List NodeField) → length fs ≤ 1 → bound_in_second (fields (map plain_field fs)) ≡ []
no_second [] h = refl
no_second (f ∷ []) h = refl
no_second (f ∷ (g ∷ fs)) h = absurd (omega arith)
