-- The fields of a node and the nodes of a list, walked one after the other.
use Rattle.std.proofs.Common.{◌≡◌, ◌∙◌, ◌<◌, ◌≤◌, ◌+◌, ℕ, zero, suc, refl, sym, ap, subst, arith, length, List, [], ◌∷◌, get_or, set}
use Rattle.std.specs.Prelude.{Bool, false, ◌||◌, Option}
use Rattle.std.proofs.lemmas.List.{length-set}
use Rattle.es_tree.specs.Tree.{Tree, Field, fields, trees}
use Rattle.es_tree.specs.Views.{plain_field, plain_fields}
use Rattle.es_tree.specs.Walks.{any_in_field, any_in_fields, any_in_trees, any_node}
use Rattle.es_tree.specs.declared.ast_type.AstType.{AstType}
use Rattle.es_tree.specs.declared.node.Field.{Field as NodeField}
use Rattle.es_resolution.specs.Declarations.{Bound}
use Rattle.es_changes.specs.Changes.{Each, EachBy, EachIn}
use Rattle.es_changes.specs.Moments.{Moment, whole_at}
use Rattle.es_changes.proofs.FieldParts.{fields-row}
use Rattle.es_changes.proofs.StepRows.{steps-map, steps-trans}
use Rattle.es_steps.specs.Open.{Additions, Pending, is_body, opened, opened_fields, opened_trees, ◌next◌}
use Rattle.es_steps.specs.Steps.{FieldsStep, Ledger, Site, Spot, Step, Steps, TreesStep, ledger}
use Rattle.es_steps.specs.Steps.Steps.{stays}
use Rattle.es_steps.specs.Steps.TreesStep.{in_head, in_tail}
use Rattle.es_traverse.proofs.FieldVisits.{each-at, each-set, neither}
use Rattle.es_traverse.proofs.ListVisits.{each-tree-at}
use Rattle.lower_nodes.specs.Nodes.{Alike, AlikeAmong, AlikeBy, AlikeIn, NodeProfile, bars_by, bars_in, each_barred}
use Rattle.lower_nodes.specs.Nodes.AlikeIn.{fields_alike}
use Rattle.lower_nodes.specs.Nodes.AlikeAmong.{trees_alike}
use Rattle.lower_nodes.proofs.Alike.{alike-same, alike-same-among, alike-same-by, alike-same-in, alike-then-among, alike-then-in}
use Rattle.lower_node_walk.specs.Walks.{AreInside, IsIn, IsWalkable, Walked, WalkedField, WalkedFields, WalkedTrees}
use Rattle.lower_node_walk.proofs.Inward.{or-first, or-rest}

-- WHAT IS BARRED of one of them

bars-at : (test : ℕ → Tree → Bool) (xs : List Field) (i : ℕ) (d : Field) → i < length xs → bars_in test (fields xs) ≡ false → bars_by (test i) (get_or xs i d) ≡ false
bars-at test [] i d l h = absurd (omega (arith, l))
bars-at test (x ∷ xs) zero d l h = or-first (bars_by (test zero) x) _ h
bars-at test (x ∷ xs) (suc i) d l h = bars-at (λ j. test (suc j)) xs i d (omega (arith, l)) (or-rest (bars_by (test zero) x) _ h)

bars-tree : (test : Tree → Bool) (xs : List Tree) (i : ℕ) (d : Tree) → i < length xs → each_barred test (trees xs) ≡ false → test (get_or xs i d) ≡ false
bars-tree test [] i d l h = absurd (omega (arith, l))
bars-tree test (x ∷ xs) zero d l h = or-first (test x) _ h
bars-tree test (x ∷ xs) (suc i) d l h = bars-tree test xs i d (omega (arith, l)) (or-rest (test x) _ h)

-- FIELDS

-- nothing of this is left in it
pub record FieldDone (p : NodeProfile) (g : Field) : Type 0 where
  pub none : any_in_field p.constructs g ≡ false
  pub clear : any_in_field p.strays g ≡ false

pub record FieldsTo (p : NodeProfile) (k : AstType) (c : ℕ → Site) (a : Moment) (first : List Field) (b : Moment) (items : List Field) (i : ℕ) : Type 0 where
  pub count : length items ≡ length first
  pub steps : (q : Pending) (x : Option Bound) (y : Additions) → Steps (FieldsStep p.rule c) (ledger (whole_at a) q x y) (opened_fields (is_body k) (fields first)) (ledger (whole_at b) q x y) (opened_fields (is_body k) (fields items))
  pub done : (j : ℕ) (d : Field) → j < i → FieldDone p (get_or items j d)

abbrev pub FieldsSoFar : NodeProfile → Moment → List Field → Moment → List Field → ℕ → Type 0
FieldsSoFar p a first b items i = (k : AstType) (c : ℕ → Site) → AreInside k c → EachIn (IsWalkable p) c (is_body k) (fields first) → bars_in (p.barred k) (fields first) ≡ false → FieldsTo p k c a first b items i

module _ (p : NodeProfile) where
  pub fields-none : (a : Moment) (first : List Field) → FieldsSoFar p a first a first 0
  fields-none a first k c inside fit bar = record { count = refl; steps = λ q x y. stays; done = λ j d m. absurd (omega (arith, m)) }

  pub fields-more : {a b e : Moment} (first items : List Field) (i : ℕ) (d g : Field) → i < length items → get_or items i d ≡ get_or first i d → WalkedField p b (get_or items i d) e g → FieldsSoFar p a first b items i → FieldsSoFar p a first e (set items i g) (i + 1)
  fields-more first items i d g lt same w h k c inside fit bar =
      let so = h k c inside fit bar in
      let l : i < length first = omega (arith, lt, so.count) in
      let left = w k i (c i) (inside i) (subst (λ f. EachBy (IsWalkable p) (c i) (is_body k i) f) (sym same) (each-at (IsWalkable p) c (is_body k) first i d l fit)) (ap (bars_by (p.barred k i)) same ∙ bars-at (p.barred k) first i d l bar) in
      record {
        count = length-set items i g ∙ so.count;
        steps = λ q x y. steps-trans (so.steps q x y) (fields-row p.rule items i d g (is_body k) c lt (left.steps q x y));
        done = each-set (FieldDone p) items i g lt so.done (record { none = left.none; clear = left.clear });
      }

  none-of : (test : Field → Bool) (all : List Field → Bool) → all [] ≡ false → ((x : Field) (xs : List Field) → all (x ∷ xs) ≡ (test x || all xs)) → (items : List Field) → ((j : ℕ) (d : Field) → j < length items → test (get_or items j d) ≡ false) → all items ≡ false
  none-of test all e r [] h = e
  none-of test all e r (x ∷ xs) h = r x xs ∙ neither (test x) (all xs) (h 0 x (omega arith)) (none-of test all e r xs (λ j d l. h (suc j) d (omega (arith, l))))

  pub fields-all : (a b : Moment) (first items : List Field) (i : ℕ) → length items ≤ i → FieldsSoFar p a first b items i → WalkedFields p a (fields first) b (fields items)
  fields-all a b first items i le h k c inside fit bar =
      let so = h k c inside fit bar in
      record {
        steps = so.steps;
        none = none-of (any_in_field p.constructs) (λ xs. any_in_fields p.constructs (fields xs)) refl (λ x xs. refl) items (λ j d l. (so.done j d (omega (arith, l, le))).none);
        clear = none-of (any_in_field p.strays) (λ xs. any_in_fields p.strays (fields xs)) refl (λ x xs. refl) items (λ j d l. (so.done j d (omega (arith, l, le))).clear);
      }

-- LISTS

trees-row : (R : Site → Ledger → Spot → Ledger → Spot → Type 0) (n : Site) {s s' : Ledger} (xs : List Tree) (i : ℕ) (d y : Tree) → i < length xs → Steps (Step R n) s (opened (get_or xs i d)) s' (opened y) → Steps (TreesStep R n) s (opened_trees (trees xs)) s' (opened_trees (trees (set xs i y)))
trees-row R n [] i d y l h = absurd (omega (arith, l))
trees-row R n (x ∷ xs) zero d y l h = steps-map (λ t. t next opened_trees (trees xs)) (λ s s' t u r. in_head r) h
trees-row R n (x ∷ xs) (suc i) d y l h = steps-map (λ ts. opened x next ts) (λ s s' ts us r. in_tail r) (trees-row R n xs i d y (omega (arith, l)) h)

pub record TreeDone (p : NodeProfile) (u : Tree) : Type 0 where
  pub none : any_node p.constructs u ≡ false
  pub clear : any_node p.strays u ≡ false

pub record TreesTo (p : NodeProfile) (n : Site) (a : Moment) (first : List Tree) (b : Moment) (items : List Tree) (i : ℕ) : Type 0 where
  pub count : length items ≡ length first
  pub steps : (q : Pending) (x : Option Bound) (y : Additions) → Steps (TreesStep p.rule n) (ledger (whole_at a) q x y) (opened_trees (trees first)) (ledger (whole_at b) q x y) (opened_trees (trees items))
  pub done : (j : ℕ) (d : Tree) → j < i → TreeDone p (get_or items j d)

abbrev pub TreesSoFar : NodeProfile → Moment → List Tree → Moment → List Tree → ℕ → Type 0
TreesSoFar p a first b items i = (k : AstType) (f : ℕ) (n : Site) → IsIn k f n → Each (IsWalkable p) n (trees first) → each_barred (p.barred k f) (trees first) ≡ false → TreesTo p n a first b items i

module _ (p : NodeProfile) where
  pub trees-none : (a : Moment) (first : List Tree) → TreesSoFar p a first a first 0
  trees-none a first k f n place fit bar = record { count = refl; steps = λ q x y. stays; done = λ j d m. absurd (omega (arith, m)) }

  pub trees-more : {a b e : Moment} (first items : List Tree) (i : ℕ) (d u : Tree) → i < length items → get_or items i d ≡ get_or first i d → Walked p b (get_or items i d) e u → TreesSoFar p a first b items i → TreesSoFar p a first e (set items i u) (i + 1)
  trees-more first items i d u lt same w h k f n place fit bar =
      let so = h k f n place fit bar in
      let l : i < length first = omega (arith, lt, so.count) in
      let left = w k f n place (subst (IsWalkable p n) (sym same) (each-tree-at (IsWalkable p) n first i d l fit)) (ap (p.barred k f) same ∙ bars-tree (p.barred k f) first i d l bar) in
      record {
        count = length-set items i u ∙ so.count;
        steps = λ q x y. steps-trans (so.steps q x y) (trees-row p.rule n items i d u lt (left.steps q x y));
        done = each-set (TreeDone p) items i u lt so.done (record { none = left.none; clear = left.clear });
      }

  none-among : (test : Tree → Bool) (all : List Tree → Bool) → all [] ≡ false → ((x : Tree) (xs : List Tree) → all (x ∷ xs) ≡ (test x || all xs)) → (items : List Tree) → ((j : ℕ) (d : Tree) → j < length items → test (get_or items j d) ≡ false) → all items ≡ false
  none-among test all e r [] h = e
  none-among test all e r (x ∷ xs) h = r x xs ∙ neither (test x) (all xs) (h 0 x (omega arith)) (none-among test all e r xs (λ j d l. h (suc j) d (omega (arith, l))))

  pub trees-all : (a b : Moment) (first items : List Tree) (i : ℕ) → length items ≤ i → TreesSoFar p a first b items i → WalkedTrees p a (trees first) b (trees items)
  trees-all a b first items i le h k f n place fit bar =
      let so = h k f n place fit bar in
      record {
        steps = so.steps;
        none = none-among (any_node p.constructs) (λ xs. any_in_trees p.constructs (trees xs)) refl (λ x xs. refl) items (λ j d l. (so.done j d (omega (arith, l, le))).none);
        clear = none-among (any_node p.strays) (λ xs. any_in_trees p.strays (trees xs)) refl (λ x xs. refl) items (λ j d l. (so.done j d (omega (arith, l, le))).clear);
      }

-- ALIKE: with one item more

module _ (c : AstType → Bool) where
  set-fields : (items : List NodeField) (i : ℕ) (d g : NodeField) → i < length items → AlikeBy c (plain_field (get_or items i d)) (plain_field g) → AlikeIn c (plain_fields items) (plain_fields (set items i g))
  set-fields [] i d g l h = absurd (omega (arith, l))
  set-fields (x ∷ xs) zero d g l h = fields_alike h (alike-same-in c (plain_fields xs))
  set-fields (x ∷ xs) (suc i) d g l h = fields_alike (alike-same-by c (plain_field x)) (set-fields xs i d g (omega (arith, l)) h)

  pub alike-fields-more : (first items : List NodeField) (i : ℕ) (d g : NodeField) → i < length items → AlikeBy c (plain_field (get_or items i d)) (plain_field g) → AlikeIn c (plain_fields first) (plain_fields items) → AlikeIn c (plain_fields first) (plain_fields (set items i g))
  alike-fields-more first items i d g l h so = alike-then-in c so (set-fields items i d g l h)

  set-trees : (items : List Tree) (i : ℕ) (d u : Tree) → i < length items → Alike c (get_or items i d) u → AlikeAmong c (trees items) (trees (set items i u))
  set-trees [] i d u l h = absurd (omega (arith, l))
  set-trees (x ∷ xs) zero d u l h = trees_alike h (alike-same-among c (trees xs))
  set-trees (x ∷ xs) (suc i) d u l h = trees_alike (alike-same c x) (set-trees xs i d u (omega (arith, l)) h)

  pub alike-trees-more : (first items : List Tree) (i : ℕ) (d u : Tree) → i < length items → Alike c (get_or items i d) u → AlikeAmong c (trees first) (trees items) → AlikeAmong c (trees first) (trees (set items i u))
  alike-trees-more first items i d u l h so = alike-then-among c so (set-trees items i d u l h)
