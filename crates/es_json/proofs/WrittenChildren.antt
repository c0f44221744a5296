-- The values of a node's children.
use Rattle.std.proofs.Common.{◌≡◌, ◌⊎◌, inl, inr, ℕ, ◌≤◌, List, [], ◌∷◌, map, take, length, Vec, Global, refl, sym, ap}
use Rattle.std.proofs.lemmas.List.{take_all}
use Rattle.serde_json.specs.Data.{Data, object, array, item}
use Rattle.serde_json.specs.View.{view, items_of, items_view}
use Rattle.serde_json.specs.declared.value.Value.{Value}
use Rattle.es_tree.specs.Tree.{Tree, fields, trees, kind_of, label_of}
use Rattle.es_tree.specs.Views.{plain_field, view_node}
use Rattle.es_tree.specs.declared.node.Field.{Field as NodeField}
use Rattle.es_tree.specs.declared.node.Field.TheVariants.{Many, Statements}
use Rattle.es_tree.specs.declared.node.Node.{Node}
use Rattle.es_tree.specs.declared.node.Node.TheInside.{Inside}
use Rattle.es_json.specs.Canonical.{canonical, values, field_value, tree_items, node_members}

values-fields : (fs : List NodeField) → values (fields (map plain_field fs)) ≡ map (λ f. field_value (plain_field f)) fs
values-fields [] = refl
values-fields (f ∷ fs) = ap (λ ds. field_value (plain_field f) ∷ ds) (values-fields fs)

tree_items-trees : (ts : List Tree) → tree_items (trees ts) ≡ items_of (map canonical ts)
tree_items-trees [] = refl
tree_items-trees (t ∷ ts) = ap (item (canonical t)) (tree_items-trees ts)

pub canonical_node : (a : Inside) (n : Tree) (ds : List Data) → view_node a ≡ n → ds ≡ map (λ f. field_value (plain_field f)) a.fields.items
    → object (node_members (kind_of n) (label_of n) ds) ≡ canonical n
canonical_node a n ds is all = rw (← is, all, ← values-fields a.fields.items) refl

pub canonical_list : (ts : Vec Node Global) (f : NodeField) (vs : List Value) → (f ≡ Many ts) ⊎ (f ≡ Statements ts) → map view vs ≡ map canonical ts.items
    → array (items_view vs) ≡ field_value (plain_field f)
canonical_list ts f vs (inl is) all = rw (is, all) (ap array (sym (tree_items-trees ts.items)))
canonical_list ts f vs (inr is) all = rw (is, all) (ap array (sym (tree_items-trees ts.items)))

pub map-take_all : {A B : Type 0} (f : A → B) (xs : List A) (i : ℕ) → length xs ≤ i → map f (take i xs) ≡ map f xs
map-take_all f xs i h = ap (map f) (take_all i xs h)
