-- What a walk costs, part by part.
use Rattle.std.proofs.Common.{◌≡◌, ◌∙◌, ◌+◌, ◌-◌, ◌<◌, ◌≤◌, ◌^◌, ℕ, refl, sym, subst, arith, length, List, [], ◌∷◌, get_or, set, sum_by, true≢false}
use Rattle.std.specs.Prelude.{Bool, true, false, Option, Some, None}
use Rattle.std.proofs.lemmas.List.Sums.{get_or-le-sum_by, sum_by-cons, sum_by-set}
use Rattle.es_tree.specs.Tree.{Tree, field_size, fields_size, tree_size, trees, trees_size}
use Rattle.es_tree.specs.Views.{plain_field, plain_fields}
use Rattle.es_tree.specs.declared.node.Field.{Field as NodeField}
use Rattle.es_runs.specs.Weights.{field_weight, fields_weight, trees_weight, weight}
use Rattle.es_changes.specs.Moments.{Moment}
use Rattle.lower_arrows.specs.Names.{Stays, due}
use Rattle.lower_arrows.specs.Walks.{Paid}

-- WHAT IS DUE

pub due-wider : (u v : Bool) → (u ≡ true → v ≡ true) → (x : Option Tree) → due u x ≤ due v x
due-wider u v h (Some t) = omega arith
due-wider false v h None = omega arith
due-wider true v h None = subst (λ (w : Bool). 8 ≤ due w None) (sym (h refl)) (omega arith)

-- PARTS, one after another

pub paid-none : (o : Bool) (a : Moment) (x : Option Tree) (w s : ℕ) → Paid o a x w s a x w s
paid-none o a x w s = record { lists = refl; around = refl; options = refl; counted = omega arith; lighter = omega arith; nodes = omega arith; stays = λ e. e }

pub paid-then : {o : Bool} {a b c : Moment} {x y z : Option Tree} {w s w' s' w'' s'' : ℕ} → Paid o a x w s b y w' s' → Paid o b y w' s' c z w'' s'' → Paid o a x w s c z w'' s''
paid-then g h = record {
  lists = h.lists ∙ g.lists;
  around = h.around ∙ g.around;
  options = h.options ∙ g.options;
  counted = omega (arith, g.counted, h.counted);
  lighter = omega (arith, g.lighter, h.lighter);
  nodes = omega (arith, g.nodes, h.nodes);
  stays = λ e. h.stays (g.stays e);
}

-- where no more is due, as where more is
pub paid-wider : {a b : Moment} {w s w' s' : ℕ} (u v : Bool) (x y : Option Tree) → (u ≡ true → v ≡ true) → Paid u a x w s b y w' s' → Paid v a x w s b y w' s'
paid-wider {a} {b} {w} {s} {w'} {s'} u v x y h g = record { lists = g.lists; around = g.around; options = g.options; counted = g.counted; lighter = by u v x y h g.stays g.lighter; nodes = g.nodes; stays = g.stays }
  where
    by : (u v : Bool) (x y : Option Tree) → (u ≡ true → v ≡ true) → Stays x y → b.next + due u y + w' ≤ a.next + due u x + w → b.next + due v y + w' ≤ a.next + due v x + w
    by u v (Some t) (Some z) h k e = omega (arith, e)
    by u v (Some t) None h k e = absurd (true≢false (sym (k refl)))
    by u v None (Some z) h k e = let d = due-wider u v h None in omega (arith, e, d)
    by true v None None h k e = subst (λ (o : Bool). b.next + due o None + w' ≤ a.next + due o None + w) (sym (h refl)) e
    by false true None None h k e = omega (arith, e)
    by false false None None h k e = e

-- SUMS

abbrev pub plain_weight : NodeField → ℕ
plain_weight f = field_weight (plain_field f)

abbrev pub plain_size : NodeField → ℕ
plain_size f = field_size (plain_field f)

pub fields-weight-sum : (xs : List NodeField) → fields_weight (plain_fields xs) ≡ sum_by plain_weight xs
fields-weight-sum [] = refl
fields-weight-sum (x ∷ xs) = omega (arith, fields-weight-sum xs, sum_by-cons plain_weight x xs)

fields-size-sum : (xs : List NodeField) → fields_size (plain_fields xs) ≡ sum_by plain_size xs
fields-size-sum [] = refl
fields-size-sum (x ∷ xs) = omega (arith, fields-size-sum xs, sum_by-cons plain_size x xs)

trees-weight-sum : (xs : List Tree) → trees_weight (trees xs) ≡ sum_by weight xs
trees-weight-sum [] = refl
trees-weight-sum (x ∷ xs) = omega (arith, trees-weight-sum xs, sum_by-cons weight x xs)

trees-size-sum : (xs : List Tree) → trees_size (trees xs) ≡ sum_by tree_size xs
trees-size-sum [] = refl
trees-size-sum (x ∷ xs) = omega (arith, trees-size-sum xs, sum_by-cons tree_size x xs)

-- FIELDS AND LISTS with one item more

module _ (o : Bool) {a b c : Moment} {x y z : Option Tree} where
  pub paid-fields-more : (first items : List NodeField) (i : ℕ) (d g : NodeField) → i < length items → Paid o b y (plain_weight (get_or items i d)) (plain_size (get_or items i d)) c z (plain_weight g) (plain_size g) →
      Paid o a x (fields_weight (plain_fields first)) (fields_size (plain_fields first)) b y (fields_weight (plain_fields items)) (fields_size (plain_fields items)) →
      Paid o a x (fields_weight (plain_fields first)) (fields_size (plain_fields first)) c z (fields_weight (plain_fields (set items i g))) (fields_size (plain_fields (set items i g)))
  paid-fields-more first items i d g lt v h =
      let w = sum_by-set plain_weight items i g d lt in
      let s = sum_by-set plain_size items i g d lt in
      let wi = get_or-le-sum_by plain_weight items i d lt in
      let si = get_or-le-sum_by plain_size items i d lt in
      paid-then h (record {
        lists = v.lists;
        around = v.around;
        options = v.options;
        counted = v.counted;
        lighter = omega (arith, v.lighter, w, wi, fields-weight-sum items, fields-weight-sum (set items i g));
        nodes = omega (arith, v.nodes, s, si, fields-size-sum items, fields-size-sum (set items i g));
        stays = v.stays;
      })

  pub paid-trees-more : (first items : List Tree) (i : ℕ) (d u : Tree) → i < length items → Paid o b y (weight (get_or items i d)) (tree_size (get_or items i d)) c z (weight u) (tree_size u) →
      Paid o a x (trees_weight (trees first)) (trees_size (trees first)) b y (trees_weight (trees items)) (trees_size (trees items)) →
      Paid o a x (trees_weight (trees first)) (trees_size (trees first)) c z (trees_weight (trees (set items i u))) (trees_size (trees (set items i u)))
  paid-trees-more first items i d u lt v h =
      let w = sum_by-set weight items i u d lt in
      let s = sum_by-set tree_size items i u d lt in
      let wi = get_or-le-sum_by weight items i d lt in
      let si = get_or-le-sum_by tree_size items i d lt in
      paid-then h (record {
        lists = v.lists;
        around = v.around;
        options = v.options;
        counted = v.counted;
        lighter = omega (arith, v.lighter, w, wi, trees-weight-sum items, trees-weight-sum (set items i u));
        nodes = omega (arith, v.nodes, s, si, trees-size-sum items, trees-size-sum (set items i u));
        stays = v.stays;
      })

-- the room for what stands in a field, and for a node of a list
module _ (o : Bool) {a b : Moment} {x y : Option Tree} where
  pub field-room : (u : Bool) (first items : List NodeField) (i : ℕ) (d : NodeField) → (u ≡ true → o ≡ true) → i < length items → a.next + due o x + fields_weight (plain_fields first) < 2 ^ 32 - 1 → Paid o a x (fields_weight (plain_fields first)) (fields_size (plain_fields first)) b y (fields_weight (plain_fields items)) (fields_size (plain_fields items)) →
      b.next + due u y + plain_weight (get_or items i d) < 2 ^ 32 - 1
  field-room u first items i d h lt room g = omega (arith, room, g.lighter, fields-weight-sum items, get_or-le-sum_by plain_weight items i d lt, due-wider u o h y)

  pub tree-room : (first items : List Tree) (i : ℕ) (d : Tree) → i < length items → a.next + due o x + trees_weight (trees first) < 2 ^ 32 - 1 → Paid o a x (trees_weight (trees first)) (trees_size (trees first)) b y (trees_weight (trees items)) (trees_size (trees items)) → b.next + due o y + weight (get_or items i d) < 2 ^ 32 - 1
  tree-room first items i d lt room g = omega (arith, room, g.lighter, trees-weight-sum items, get_or-le-sum_by weight items i d lt)
