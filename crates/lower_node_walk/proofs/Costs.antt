-- What a walk costs, part by part.
use Rattle.std.proofs.Common.{◌≡◌, ◌∙◌, ◌+◌, ◌-◌, ◌<◌, ◌^◌, ℕ, refl, arith, length, List, [], ◌∷◌, get_or, set, sum_by}
use Rattle.std.proofs.lemmas.List.Sums.{get_or-le-sum_by, sum_by-cons, sum_by-set}
use Rattle.es_tree.specs.Tree.{Tree, node, Label, Fields, fields_size, tree_size, trees, trees_size}
use Rattle.es_tree.specs.Views.{plain_field, plain_fields}
use Rattle.es_tree.specs.declared.ast_type.AstType.{AstType}
use Rattle.es_tree.specs.declared.node.Field.{Field as NodeField}
use Rattle.es_changes.specs.Moments.{Moment}
use Rattle.lower_arrows.proofs.Costs.{plain_size}
use Rattle.lower_nodes.specs.Nodes.{AlikeIn, IsNodeLawful, NodeProfile, Paid, PaidTree, owed, owed_among, owed_by, owed_in}

-- PARTS, one after another

pub paid-none : (a : Moment) (w s : ℕ) → Paid a w s a w s
paid-none a w s = record { lists = refl; around = refl; options = refl; counted = omega arith; lighter = omega arith; nodes = omega arith }

pub paid-then : {a b c : Moment} {w s w' s' w'' s'' : ℕ} → Paid a w s b w' s' → Paid b w' s' c w'' s'' → Paid a w s c w'' s''
paid-then g h = record {
  lists = h.lists ∙ g.lists;
  around = h.around ∙ g.around;
  options = h.options ∙ g.options;
  counted = omega (arith, g.counted, h.counted);
  lighter = omega (arith, g.lighter, h.lighter);
  nodes = omega (arith, g.nodes, h.nodes);
}

-- a node whose fields were walked
pub paid-node : (p : NodeProfile) → IsNodeLawful p → {a b : Moment} (k : AstType) (l : Label) (fs gs : Fields) → AlikeIn p.changes fs gs → Paid a (owed_in p.owes fs) (fields_size fs) b (owed_in p.owes gs) (fields_size gs) → PaidTree p.owes a (node k l fs) b (node k l gs)
paid-node p law k l fs gs same h =
    let own = law.lighter k l fs gs same in
    record { lists = h.lists; around = h.around; options = h.options; counted = h.counted; lighter = omega (arith, h.lighter, own); nodes = omega (arith, h.nodes) }

module _ (owes : AstType → Label → Fields → ℕ) where
  -- SUMS

  abbrev pub plain_owed : NodeField → ℕ
  plain_owed f = owed_by owes (plain_field f)

  fields-sum : (xs : List NodeField) → owed_in owes (plain_fields xs) ≡ sum_by plain_owed xs
  fields-sum [] = refl
  fields-sum (x ∷ xs) = omega (arith, fields-sum xs, sum_by-cons plain_owed x xs)

  fields-size-sum : (xs : List NodeField) → fields_size (plain_fields xs) ≡ sum_by plain_size xs
  fields-size-sum [] = refl
  fields-size-sum (x ∷ xs) = omega (arith, fields-size-sum xs, sum_by-cons plain_size x xs)

  trees-sum : (xs : List Tree) → owed_among owes (trees xs) ≡ sum_by (owed owes) xs
  trees-sum [] = refl
  trees-sum (x ∷ xs) = omega (arith, trees-sum xs, sum_by-cons (owed owes) x xs)

  trees-size-sum : (xs : List Tree) → trees_size (trees xs) ≡ sum_by tree_size xs
  trees-size-sum [] = refl
  trees-size-sum (x ∷ xs) = omega (arith, trees-size-sum xs, sum_by-cons tree_size x xs)

  -- FIELDS AND LISTS with one item more

  module _ {a b c : Moment} where
    pub paid-fields-more : (first items : List NodeField) (i : ℕ) (d g : NodeField) → i < length items → Paid b (plain_owed (get_or items i d)) (plain_size (get_or items i d)) c (plain_owed g) (plain_size g) →
        Paid a (owed_in owes (plain_fields first)) (fields_size (plain_fields first)) b (owed_in owes (plain_fields items)) (fields_size (plain_fields items)) →
        Paid a (owed_in owes (plain_fields first)) (fields_size (plain_fields first)) c (owed_in owes (plain_fields (set items i g))) (fields_size (plain_fields (set items i g)))
    paid-fields-more first items i d g lt v h =
        let w = sum_by-set plain_owed items i g d lt in
        let s = sum_by-set plain_size items i g d lt in
        let wi = get_or-le-sum_by plain_owed items i d lt in
        let si = get_or-le-sum_by plain_size items i d lt in
        paid-then h (record {
          lists = v.lists;
          around = v.around;
          options = v.options;
          counted = v.counted;
          lighter = omega (arith, v.lighter, w, wi, fields-sum items, fields-sum (set items i g));
          nodes = omega (arith, v.nodes, s, si, fields-size-sum items, fields-size-sum (set items i g));
        })

    pub paid-trees-more : (first items : List Tree) (i : ℕ) (d u : Tree) → i < length items → PaidTree owes b (get_or items i d) c u →
        Paid a (owed_among owes (trees first)) (trees_size (trees first)) b (owed_among owes (trees items)) (trees_size (trees items)) →
        Paid a (owed_among owes (trees first)) (trees_size (trees first)) c (owed_among owes (trees (set items i u))) (trees_size (trees (set items i u)))
    paid-trees-more first items i d u lt v h =
        let w = sum_by-set (owed owes) items i u d lt in
        let s = sum_by-set tree_size items i u d lt in
        let wi = get_or-le-sum_by (owed owes) items i d lt in
        let si = get_or-le-sum_by tree_size items i d lt in
        paid-then h (record {
          lists = v.lists;
          around = v.around;
          options = v.options;
          counted = v.counted;
          lighter = omega (arith, v.lighter, w, wi, trees-sum items, trees-sum (set items i u));
          nodes = omega (arith, v.nodes, s, si, trees-size-sum items, trees-size-sum (set items i u));
        })

  -- the room for what stands in a field, and for a node of a list
  module _ {a b : Moment} where
    pub field-room : (first items : List NodeField) (i : ℕ) (d : NodeField) → i < length items → a.next + owed_in owes (plain_fields first) < 2 ^ 32 - 1 → Paid a (owed_in owes (plain_fields first)) (fields_size (plain_fields first)) b (owed_in owes (plain_fields items)) (fields_size (plain_fields items)) → b.next + plain_owed (get_or items i d) < 2 ^ 32 - 1
    field-room first items i d lt room g = omega (arith, room, g.lighter, fields-sum items, get_or-le-sum_by plain_owed items i d lt)

    pub tree-room : (first items : List Tree) (i : ℕ) (d : Tree) → i < length items → a.next + owed_among owes (trees first) < 2 ^ 32 - 1 → Paid a (owed_among owes (trees first)) (trees_size (trees first)) b (owed_among owes (trees items)) (trees_size (trees items)) → b.next + owed owes (get_or items i d) < 2 ^ 32 - 1
    tree-room first items i d lt room g = omega (arith, room, g.lighter, trees-sum items, get_or-le-sum_by (owed owes) items i d lt)
