-- The sizes of one field or tree more.
use Rattle.std.proofs.Common.{ℕ, ◌+◌, ◌<◌, ◌≡◌, List, [], ◌∷◌, ◌++◌, map, take, get_or, length, ap, ◌∙◌, refl, arith}
use Rattle.std.proofs.lemmas.List.{take_more}
use Rattle.es_tree.specs.Tree.{Tree, fields, trees, tree_size, field_size, fields_size, trees_size}
use Rattle.es_tree.specs.Views.{plain_field}
use Rattle.es_tree.specs.declared.node.Field.{Field as NodeField}

fields_size-push : (fs : List NodeField) (f : NodeField) → fields_size (fields (map plain_field (fs ++ f ∷ []))) ≡ fields_size (fields (map plain_field fs)) + field_size (plain_field f)
fields_size-push [] f = omega arith
fields_size-push (g ∷ fs) f = omega (arith, fields_size-push fs f)

trees_size-push : (ts : List Tree) (t : Tree) → trees_size (trees (ts ++ t ∷ [])) ≡ trees_size (trees ts) + tree_size t
trees_size-push [] t = omega arith
trees_size-push (u ∷ ts) t = omega (arith, trees_size-push ts t)

pub one_more_field : (fs : List NodeField) (i : ℕ) (f : NodeField) → i < length fs → f ≡ get_or fs i f → fields_size (fields (map plain_field (take (i + 1) fs))) ≡ fields_size (fields (map plain_field (take i fs))) + field_size (plain_field f)
one_more_field fs i f h e =
    ap (λ l. fields_size (fields (map plain_field l))) (take_more fs i f h) ∙ fields_size-push (take i fs) (get_or fs i f) ∙ rw (← e) refl

pub one_more_tree : (ts : List Tree) (i : ℕ) (t : Tree) → i < length ts → t ≡ get_or ts i t → trees_size (trees (take (i + 1) ts)) ≡ trees_size (trees (take i ts)) + tree_size t
one_more_tree ts i t h e =
    ap (λ l. trees_size (trees l)) (take_more ts i t h) ∙ trees_size-push (take i ts) (get_or ts i t) ∙ rw (← e) refl
