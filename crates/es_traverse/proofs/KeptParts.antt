-- What stays of the weights of fields and lists where one part changes, and what the next part may count on.
use Rattle.std.proofs.Common.{◌≡◌, ◌∙◌, ◌≤◌, ◌<◌, ◌+◌, refl, sym, ap, subst, arith, ℕ, zero, suc, length, List, [], ◌∷◌, get_or, set, sum_by}
use Rattle.std.proofs.lemmas.List.{get_or-set_other}
use Rattle.std.proofs.lemmas.List.Sums.{sum_by-cons, sum_by-set}
use Rattle.es_tree.specs.Tree.{Tree, field_size, fields_size, tree_size, trees, trees_size}
use Rattle.es_tree.specs.Views.{plain_field, plain_fields}
use Rattle.es_tree.specs.declared.ast_type.AstType.{AstType}
use Rattle.es_tree.specs.declared.node.Field.{Field as NodeField}
use Rattle.es_tree.specs.declared.options.EnvOptions.{EnvOptions}
use Rattle.es_runs.specs.Weights.{field_weight, fields_weight, trees_weight, weight}
use Rattle.es_scope.specs.declared.ancestor.Ancestor.{Ancestor}
use Rattle.es_changes.specs.Changes.{Kept, heft}
use Rattle.es_changes.specs.Laws.{SamePlace}
use Rattle.es_changes.specs.Moments.{Moment, inside_of}
use Rattle.es_traverse.specs.Laws.{IsReady, KeptVisited, KeptVisitedTrees}
use Rattle.es_traverse.specs.Loads.{field_load, fields_load, load, own_allowance, trees_load}
use Rattle.es_traverse.proofs.Kept.{kept-then}
use Rattle.es_traverse.proofs.LoadParts.{allowance-first, allowance_from, mixed, mixed-at, mixed-more}

-- SUMS

abbrev pub plain_weight : NodeField → ℕ
plain_weight f = field_weight (plain_field f)

abbrev pub plain_load : NodeField → ℕ
plain_load f = field_load (plain_field f)

abbrev pub plain_size : NodeField → ℕ
plain_size f = field_size (plain_field f)

fields_size-sum : (xs : List NodeField) → fields_size (plain_fields xs) ≡ sum_by plain_size xs
fields_size-sum [] = refl
fields_size-sum (x ∷ xs) = omega (arith, fields_size-sum xs, sum_by-cons plain_size x xs)

trees_size-sum : (xs : List Tree) → trees_size (trees xs) ≡ sum_by tree_size xs
trees_size-sum [] = refl
trees_size-sum (x ∷ xs) = omega (arith, trees_size-sum xs, sum_by-cons tree_size x xs)

-- of which none is visited yet, or all are
fields-none : (xs : List NodeField) → mixed plain_weight plain_load 0 xs ≡ fields_load (plain_fields xs)
fields-none [] = refl
fields-none (x ∷ xs) = omega (arith, fields-none xs)

fields-all : (xs : List NodeField) (i : ℕ) → length xs ≤ i → mixed plain_weight plain_load i xs ≡ fields_weight (plain_fields xs)
fields-all [] i l = refl
fields-all (x ∷ xs) zero l = absurd (omega (arith, l))
fields-all (x ∷ xs) (suc i) l = omega (arith, fields-all xs i (omega (arith, l)))

trees-none : (xs : List Tree) → mixed weight load 0 xs ≡ trees_load (trees xs)
trees-none [] = refl
trees-none (x ∷ xs) = omega (arith, trees-none xs)

trees-all : (xs : List Tree) (i : ℕ) → length xs ≤ i → mixed weight load i xs ≡ trees_weight (trees xs)
trees-all [] i l = refl
trees-all (x ∷ xs) zero l = absurd (omega (arith, l))
trees-all (x ∷ xs) (suc i) l = omega (arith, trees-all xs i (omega (arith, l)))

-- ONE FIELD MORE

-- of the fields of a node of this kind so many are visited
abbrev pub KeptFields : AstType → Moment → List NodeField → Moment → List NodeField → ℕ → Type 0
KeptFields k a xs b ys i = Kept a (fields_load (plain_fields xs) + own_allowance k) (fields_size (plain_fields xs)) b (mixed plain_weight plain_load i ys + allowance_from k i) (fields_size (plain_fields ys))

abbrev pub KeptField : ℕ → Moment → NodeField → Moment → NodeField → Type 0
KeptField more a x b y = Kept a (plain_load x + more) (plain_size x) b (plain_weight y) (plain_size y)

pub kept-fields-none : (k : AstType) (a : Moment) (xs : List NodeField) → KeptFields k a xs a xs 0
kept-fields-none k a xs = record {
  level = record { deep = refl; outer = refl };
  around = refl;
  options = refl;
  counted = omega arith;
  lighter = omega (arith, fields-none xs, allowance-first k);
  nodes = omega arith;
}

pub kept-fields-all : (k : AstType) {a b : Moment} (xs ys : List NodeField) (i : ℕ) → length ys ≤ i → KeptFields k a xs b ys i → Kept a (fields_load (plain_fields xs) + own_allowance k) (fields_size (plain_fields xs)) b (fields_weight (plain_fields ys)) (fields_size (plain_fields ys))
kept-fields-all k xs ys i le g = record {
  level = g.level;
  around = g.around;
  options = g.options;
  counted = g.counted;
  lighter = omega (arith, g.lighter, fields-all ys i le);
  nodes = g.nodes;
}

abbrev rest : List Ancestor → List Ancestor
rest [] = []
rest (x ∷ xs) = xs

module _ (x : Ancestor) {b m : Moment} (into : m ≡ inside_of x b) where
  same-outside : {c w : Moment} {y z y' z' : ℕ} → w ≡ inside_of x c → Kept m y z w y' z' → Kept b y z c y' z'
  same-outside {c = c} {w = w} {y = y} {z = z} {y' = y'} {z' = z'} out v' =
      let v : Kept (inside_of x b) y z (inside_of x c) y' z' = subst (λ q. Kept (inside_of x b) y z q y' z') out (subst (λ q. Kept q y z w y' z') into v') in
      record { level = v.level; around = ap rest v.around; options = v.options; counted = v.counted; lighter = v.lighter; nodes = v.nodes }

  -- the place stays
  pub place-outside : {c w : Moment} {y z y' z' : ℕ} → w ≡ inside_of x c → Kept m y z w y' z' → SamePlace b c
  place-outside out v = let s = same-outside out v in record { level = s.level; around = s.around }

  pub kept-fields-more : (k : AstType) (more : ℕ) {a c w : Moment} (first items : List NodeField) (i : ℕ) (d y : NodeField) → w ≡ inside_of x c → i < length items → more + allowance_from k (suc i) ≤ allowance_from k i → KeptField more m (get_or items i d) w y → KeptFields k a first b items i → KeptFields k a first c (set items i y) (i + 1)
  kept-fields-more k more first items i d y out l room v' g =
      let v = same-outside out v' in
      let next : suc i ≡ i + 1 = omega arith in
      kept-then g (record {
        level = v.level;
        around = v.around;
        options = v.options;
        counted = v.counted;
        lighter = omega (arith, v.lighter, room, ap (λ j. allowance_from k j) next, mixed-more plain_weight plain_load items i y d l);
        nodes = omega (arith, v.nodes, fields_size-sum items, fields_size-sum (set items i y), sum_by-set plain_size items i y d l);
      })

  pub lighter-field : (k : AstType) (more : ℕ) {a : Moment} (first items : List NodeField) (i : ℕ) (d : NodeField) → i < length items → more + allowance_from k (suc i) ≤ allowance_from k i → KeptFields k a first b items i → heft m + (plain_load (get_or items i d) + more) ≤ heft a + (fields_load (plain_fields first) + own_allowance k)
  lighter-field k more first items i d l room g = omega (arith, ap heft into, room, g.lighter, mixed-at plain_weight plain_load items i d l)

  pub ready-field : (k : AstType) (more : ℕ) {X : Type 0} {suits : X → EnvOptions → Type 0} {a : Moment} (u v : X) (first items : List NodeField) (i : ℕ) (d : NodeField) → i < length items → more + allowance_from k (suc i) ≤ allowance_from k i → KeptFields k a first b items i → suits v a.options → IsReady suits u a (fields_load (plain_fields first) + own_allowance k) →
      IsReady suits v m (plain_load (get_or items i d) + more)
  ready-field k more {suits = suits} u v first items i d l room g s r = record {
    suited = subst (λ o. suits v o) (sym (ap (λ z. z.options) into ∙ g.options)) s;
    room = omega (arith, r.room, lighter-field k more first items i d l room g);
    pair = omega (arith, r.pair, g.level.deep, ap (λ z. length z.lists) into);
  }

-- ONE NODE MORE

-- of the nodes of a list so many are visited
abbrev pub KeptSome : Moment → List Tree → Moment → List Tree → ℕ → Type 0
KeptSome a xs b ys i = Kept a (trees_load (trees xs)) (trees_size (trees xs)) b (mixed weight load i ys) (trees_size (trees ys))

pub kept-trees-none : (a : Moment) (xs : List Tree) → KeptSome a xs a xs 0
kept-trees-none a xs = record {
  level = record { deep = refl; outer = refl };
  around = refl;
  options = refl;
  counted = omega arith;
  lighter = omega (arith, trees-none xs);
  nodes = omega arith;
}

pub kept-trees-all : {a b : Moment} (xs ys : List Tree) (i : ℕ) → length ys ≤ i → KeptSome a xs b ys i → KeptVisitedTrees a (trees xs) b (trees ys)
kept-trees-all xs ys i le g = record {
  level = g.level;
  around = g.around;
  options = g.options;
  counted = g.counted;
  lighter = omega (arith, g.lighter, trees-all ys i le);
  nodes = g.nodes;
}

pub kept-trees-more : (more : ℕ) {a b c : Moment} (first items : List Tree) (i : ℕ) (d y : Tree) → more ≡ 0 → i < length items → KeptVisited more b (get_or items i d) c y → KeptSome a first b items i → KeptSome a first c (set items i y) (i + 1)
kept-trees-more more first items i d y none l v g =
    kept-then g (record {
      level = v.level;
      around = v.around;
      options = v.options;
      counted = v.counted;
      lighter = omega (arith, v.lighter, none, mixed-more weight load items i y d l);
      nodes = omega (arith, v.nodes, trees_size-sum items, trees_size-sum (set items i y), sum_by-set tree_size items i y d l);
    })

pub lighter-tree : {a b : Moment} (first items : List Tree) (i : ℕ) (d : Tree) → i < length items → KeptSome a first b items i → heft b + load (get_or items i d) ≤ heft a + trees_load (trees first)
lighter-tree first items i d l g = omega (arith, g.lighter, mixed-at weight load items i d l)

pub ready-tree : (more : ℕ) {X : Type 0} {suits : X → EnvOptions → Type 0} {a b : Moment} (u v : X) (first items : List Tree) (i : ℕ) (d : Tree) → more ≡ 0 → i < length items → KeptSome a first b items i → suits v a.options → IsReady suits u a (trees_load (trees first)) → IsReady suits v b (load (get_or items i d) + more)
ready-tree more {suits = suits} u v first items i d none l g s r = record {
  suited = subst (λ o. suits v o) (sym g.options) s;
  room = omega (arith, r.room, none, lighter-tree first items i d l g);
  pair = omega (arith, r.pair, g.level.deep);
}

-- WHAT ISN'T VISITED YET is as it was

abbrev pub Untouched : {X : Type 0} → List X → List X → ℕ → Type 0
Untouched {X = X} first items i = (j : ℕ) (d : X) → i ≤ j → get_or items j d ≡ get_or first j d

pub untouched-none : {X : Type 0} (xs : List X) → Untouched xs xs 0
untouched-none xs j d l = refl

pub untouched-more : {X : Type 0} (first items : List X) (i : ℕ) (y : X) → Untouched first items i → Untouched first (set items i y) (i + 1)
untouched-more first items i y h j d l = get_or-set_other items i j y d (λ e. absurd (omega (arith, e, l))) ∙ h j d (omega (arith, l))
