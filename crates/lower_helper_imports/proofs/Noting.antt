-- The helpers of a tree are noted part by part.
use Rattle.std.proofs.Common.{◌≡◌, ◌∙◌, ◌<◌, ◌+◌, ◌++◌, ◌∷◌, List, [], Some, ap, append-nil, append_assoc, get_or, length, refl, sym, take, ℕ}
use Rattle.std.specs.Prelude.{if◌then◌else◌}
use Rattle.std.specs.List.{list_any}
use Rattle.std.proofs.lemmas.List.{take_more}
use Rattle.es_tree.specs.Tree.{Tree, fields_of, kind_of, label_of, node, trees}
use Rattle.es_tree.specs.Views.{plain_field, plain_fields}
use Rattle.es_tree.specs.declared.helper.Helper.{Helper}
use Rattle.es_tree.specs.declared.node.Field.{Field as NodeField}
use Rattle.es_helper_calls.specs.HelperCalls.{used_helper, helpers_among, helpers_in, helpers_in_field, helpers_in_fields, is_helper, noted, own_helper}

-- those of two lists one after the other
pub noted-joined : (known hs gs : List Helper) → noted known (hs ++ gs) ≡ noted (noted known hs) gs
noted-joined known [] gs = refl
noted-joined known (h ∷ hs) gs = noted-joined (if list_any (λ g. is_helper g h) known then known else known ++ h ∷ []) hs gs

among-joined : (xs : List Tree) (t : Tree) → helpers_among (trees (xs ++ t ∷ [])) ≡ helpers_among (trees xs) ++ helpers_in t
among-joined [] t = append-nil (helpers_in t)
among-joined (x ∷ xs) t = ap (λ hs. helpers_in x ++ hs) (among-joined xs t) ∙ sym (append_assoc (helpers_in x) (helpers_among (trees xs)) (helpers_in t))

fields-joined : (xs : List NodeField) (x : NodeField) → helpers_in_fields (plain_fields (xs ++ x ∷ [])) ≡ helpers_in_fields (plain_fields xs) ++ helpers_in_field (plain_field x)
fields-joined [] x = append-nil (helpers_in_field (plain_field x))
fields-joined (y ∷ xs) x = ap (λ hs. helpers_in_field (plain_field y) ++ hs) (fields-joined xs x) ∙ sym (append_assoc (helpers_in_field (plain_field y)) (helpers_in_fields (plain_fields xs)) (helpers_in_field (plain_field x)))

-- one more node of a list
pub among-more : (first now next : List Helper) (xs : List Tree) (i : ℕ) (t : Tree) → i < length xs → t ≡ get_or xs i t → now ≡ noted first (helpers_among (trees (take i xs))) → next ≡ noted now (helpers_in t) → next ≡ noted first (helpers_among (trees (take (i + 1) xs)))
among-more first now next xs i t l is before here =
    here ∙ ap (λ ks. noted ks (helpers_in t)) before ∙ sym (noted-joined first (helpers_among (trees (take i xs))) (helpers_in t))
    ∙ ap (noted first) (sym (among-joined (take i xs) t) ∙ ap (λ ts. helpers_among (trees ts)) (ap (λ u. take i xs ++ u ∷ []) is ∙ sym (take_more xs i t l)))

-- one more field of a node
pub fields-more : (first now next : List Helper) (xs : List NodeField) (i : ℕ) (x : NodeField) → i < length xs → x ≡ get_or xs i x → now ≡ noted first (helpers_in_fields (plain_fields (take i xs))) → next ≡ noted now (helpers_in_field (plain_field x)) → next ≡ noted first (helpers_in_fields (plain_fields (take (i + 1) xs)))
fields-more first now next xs i x l is before here =
    here ∙ ap (λ ks. noted ks (helpers_in_field (plain_field x))) before ∙ sym (noted-joined first (helpers_in_fields (plain_fields (take i xs))) (helpers_in_field (plain_field x)))
    ∙ ap (noted first) (sym (fields-joined (take i xs) x) ∙ ap (λ fs. helpers_in_fields (plain_fields fs)) (ap (λ y. take i xs ++ y ∷ []) is ∙ sym (take_more xs i x l)))

-- what a node calls is noted behind what is called in its fields
pub noted-node : (first now next : List Helper) (h : Helper) (t : Tree) → now ≡ noted first (helpers_in_fields (fields_of t)) → used_helper (kind_of t) (label_of t) (fields_of t) ≡ Some h → next ≡ noted now (h ∷ []) → next ≡ noted first (helpers_in t)
noted-node first now next h (node k l fs) inside calls here =
    here ∙ ap (λ ks. noted ks (h ∷ [])) inside ∙ sym (noted-joined first (helpers_in_fields fs) (h ∷ [])) ∙ ap (λ o. noted first (helpers_in_fields fs ++ own_helper o)) (sym calls)
