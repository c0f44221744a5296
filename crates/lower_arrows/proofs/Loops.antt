-- The fields of a node and the nodes of a list, walked one after the other.
use Rattle.std.proofs.Common.{◌≡◌, ◌∙◌, ◌<◌, ◌≤◌, ◌+◌, ℕ, zero, suc, refl, sym, ap, subst, arith, length, List, [], ◌∷◌, get_or, set}
use Rattle.std.specs.Prelude.{Bool, true, false, ◌||◌, Option}
use Rattle.std.proofs.lemmas.List.{length-set}
use Rattle.es_tree.specs.Constructs.{is_arrow}
use Rattle.es_tree.specs.Tree.{Tree, Field, fields, trees}
use Rattle.es_tree.specs.Walks.{any_in_field, any_in_fields, any_in_trees, any_node}
use Rattle.es_tree.specs.declared.ast_type.AstType.{AstType}
use Rattle.es_tree.specs.declared.ast_type.AstType.TheVariants.{ArrowFunctionExpression}
use Rattle.es_semantic.specs.declared.place.Role.{Role}
use Rattle.es_resolution.specs.Declarations.{Bound}
use Rattle.es_resolution.specs.Resolved.{first_declared, own_by}
use Rattle.es_changes.specs.Changes.{Each, EachBy, EachIn}
use Rattle.es_changes.specs.Moments.{Moment, whole_at}
use Rattle.es_changes.proofs.FieldParts.{fields-row}
use Rattle.es_changes.proofs.StepRows.{steps-map, steps-trans}
use Rattle.es_steps.specs.Open.{Additions, Pending, is_body, opened, opened_fields, opened_trees, ◌next◌}
use Rattle.es_steps.specs.Steps.{FieldsStep, Ledger, Site, Spot, Step, Steps, TreesStep, ledger}
use Rattle.es_steps.specs.Steps.Steps.{stays}
use Rattle.es_steps.specs.Steps.TreesStep.{in_head, in_tail}
use Rattle.es_steps.specs.ThisPlaces.{belongs_to_arrow, has_this, this_in_field, this_in_trees}
use Rattle.es_steps.proofs.FormLists.{HasText}
use Rattle.es_traverse.proofs.FieldVisits.{each-at}
use Rattle.es_traverse.proofs.ListVisits.{each-tree-at}
use Rattle.lower_arrows.specs.Lowered.{walk_rule}
use Rattle.lower_arrows.specs.Walks.{AreInside, IsInside, IsWalkable, NoThis, Walked, WalkedField, WalkedFields, WalkedTrees, belongs_at}

-- ONE ITEM MORE of those that this holds of, at their places

each-set : {X : Type 0} (P : ℕ → X → Type 0) (xs : List X) (i : ℕ) (y : X) → i < length xs → ((j : ℕ) (d : X) → j < i → P j (get_or xs j d)) → P i y → (j : ℕ) (d : X) → j < i + 1 → P j (get_or (set xs i y) j d)
each-set P [] i y l h e j d m = absurd (omega (arith, l))
each-set P (x ∷ xs) zero y l h e zero d m = e
each-set P (x ∷ xs) zero y l h e (suc j) d m = absurd (omega (arith, m))
each-set P (x ∷ xs) (suc i) y l h e zero d m = h 0 d (omega arith)
each-set P (x ∷ xs) (suc i) y l h e (suc j) d m = each-set (λ n. P (suc n)) xs i y (omega (arith, l)) (λ m b n. h (suc m) b (omega (arith, n))) e j d (omega (arith, m))

neither : (a b : Bool) → a ≡ false → b ≡ false → (a || b) ≡ false
neither false b e d = d
neither true b e d = absurd (cc e)

-- FIELDS

pub record FieldDone (outer : Bool) (k : AstType) (i : ℕ) (g : Field) : Type 0 where
  pub arrows : any_in_field is_arrow g ≡ false
  pub this : belongs_at outer k i ≡ true → this_in_field g ≡ false

pub record FieldsSoFar (outer : Bool) (k : AstType) (a : Moment) (x : Option Bound) (first : List Field) (b : Moment) (y : Option Bound) (items : List Field) (i : ℕ) : Type 0 where
  pub count : length items ≡ length first
  pub steps : (c : ℕ → Site) → AreInside outer k c → EachIn IsWalkable c (is_body k) (fields first) → HasText x → (p : Pending) (ad : Additions) →
      Steps (FieldsStep walk_rule c) (ledger (whole_at a) p x ad) (opened_fields (is_body k) (fields first)) (ledger (whole_at b) p y ad) (opened_fields (is_body k) (fields items))
  pub own : (c : ℕ → Site) → AreInside outer k c → EachIn IsWalkable c (is_body k) (fields first) → HasText x → first_declared (λ i. (c i).role) (fields items) ≡ first_declared (λ i. (c i).role) (fields first)
  pub text : HasText x → HasText y
  pub done : (j : ℕ) (d : Field) → j < i → FieldDone outer k j (get_or items j d)

inside-at : (outer : Bool) (k : AstType) (c : ℕ → Site) (i : ℕ) → AreInside outer k c → IsInside outer k i (c i)
inside-at outer k c i h = record { label = h.label; fields = h.fields; up = h.up; around = h.around; above = h.above i; role = h.role i }

no-first-body : (k : AstType) → is_body k 0 ≡ false
no-first-body ArrowFunctionExpression = refl
no-first-body _ = refl

-- the first field alone declares
own-set : (roles : ℕ → Role) (xs : List Field) (i : ℕ) (d y : Field) → i < length xs → (i ≡ 0 → own_by (roles zero) y ≡ own_by (roles zero) (get_or xs zero d)) → first_declared roles (fields (set xs i y)) ≡ first_declared roles (fields xs)
own-set roles [] i d y l e = absurd (omega (arith, l))
own-set roles (x ∷ xs) zero d y l e = e refl
own-set roles (x ∷ xs) (suc i) d y l e = refl

module _ (outer : Bool) (k : AstType) where
  pub fields-none : (a : Moment) (x : Option Bound) (first : List Field) → FieldsSoFar outer k a x first a x first 0
  fields-none a x first = record { count = refl; steps = λ c h fit text p ad. stays; own = λ c h fit text. refl; text = λ h. h; done = λ j d m. absurd (omega (arith, m)) }

  pub fields-more : {a b e : Moment} {x y z : Option Bound} (first items : List Field) (i : ℕ) (d g : Field) → i < length items → get_or items i d ≡ get_or first i d → WalkedField outer k i b y (get_or items i d) e z g → FieldsSoFar outer k a x first b y items i → FieldsSoFar outer k a x first e z (set items i g) (i + 1)
  fields-more {a = a} {b = b} {e = e} {x = x} {y = y} {z = z} first items i d g lt same w h =
      let at : (c : ℕ → Site) → EachIn IsWalkable c (is_body k) (fields first) → EachBy IsWalkable (c i) (is_body k i) (get_or items i d) =
      λ c fit. subst (λ f. EachBy IsWalkable (c i) (is_body k i) f) (sym same) (each-at IsWalkable c (is_body k) first i d (omega (arith, lt, h.count)) fit) in
      record {
        count = length-set items i g ∙ h.count;
        steps = λ c inside fit text p ad. steps-trans (h.steps c inside fit text p ad) (fields-row walk_rule items i d g (is_body k) c lt (w.steps (c i) (inside-at outer k c i inside) (at c fit) (h.text text) p ad));
        own = λ c inside fit text. own-set (λ j. (c j).role) items i d g lt (own-first c inside fit text) ∙ h.own c inside fit text;
        text = λ t. w.text (h.text t);
        done = each-set (FieldDone outer k) items i g lt h.done (record { arrows = w.arrows; this = w.this });
      }
    where
      own-first : (c : ℕ → Site) → AreInside outer k c → EachIn IsWalkable c (is_body k) (fields first) → HasText x → i ≡ 0 → own_by (c zero).role g ≡ own_by (c zero).role (get_or items zero d)
      own-first c inside fit text none =
          let here = subst (λ f. EachBy IsWalkable (c i) (is_body k i) f) (sym same) (each-at IsWalkable c (is_body k) first i d (omega (arith, lt, h.count)) fit) in
          let no_body : is_body k i ≡ false = ap (is_body k) none ∙ no-first-body k in
          subst (λ j. own_by (c j).role g ≡ own_by (c j).role (get_or items j d)) none (w.own (c i) (inside-at outer k c i inside) no_body (subst (λ v. EachBy IsWalkable (c i) v (get_or items i d)) no_body here) (h.text text))

  none-of : (items : List Field) → ((j : ℕ) (d : Field) → j < length items → any_in_field is_arrow (get_or items j d) ≡ false) → any_in_fields is_arrow (fields items) ≡ false
  none-of [] h = refl
  none-of (x ∷ xs) h = neither (any_in_field is_arrow x) (any_in_fields is_arrow (fields xs)) (h 0 x (omega arith)) (none-of xs (λ j d l. h (suc j) d (omega (arith, l))))

  no-this-in : (belongs : ℕ → Bool) (items : List Field) → ((j : ℕ) (d : Field) → j < length items → belongs j ≡ true → this_in_field (get_or items j d) ≡ false) → NoThis belongs (fields items)
  no-this-in belongs [] h = tt
  no-this-in belongs (x ∷ xs) h = (h 0 x (omega arith), no-this-in (λ i. belongs (suc i)) xs (λ j d l. h (suc j) d (omega (arith, l))))

  pub fields-all : (a b : Moment) (x y : Option Bound) (first items : List Field) (i : ℕ) → length items ≤ i → FieldsSoFar outer k a x first b y items i → WalkedFields outer k a x (fields first) b y (fields items)
  fields-all a b x y first items i le h = record {
    steps = h.steps;
    own = h.own;
    text = h.text;
    arrows = none-of items (λ j d l. (h.done j d (omega (arith, l, le))).arrows);
    this = no-this-in (λ i. belongs_at outer k i) items (λ j d l. (h.done j d (omega (arith, l, le))).this);
  }

-- LISTS

trees-row : (R : Site → Ledger → Spot → Ledger → Spot → Type 0) (n : Site) {s s' : Ledger} (xs : List Tree) (i : ℕ) (d y : Tree) → i < length xs → Steps (Step R n) s (opened (get_or xs i d)) s' (opened y) → Steps (TreesStep R n) s (opened_trees (trees xs)) s' (opened_trees (trees (set xs i y)))
trees-row R n [] i d y l h = absurd (omega (arith, l))
trees-row R n (x ∷ xs) zero d y l h = steps-map (λ t. t next opened_trees (trees xs)) (λ s s' t u r. in_head r) h
trees-row R n (x ∷ xs) (suc i) d y l h = steps-map (λ ts. opened x next ts) (λ s s' ts us r. in_tail r) (trees-row R n xs i d y (omega (arith, l)) h)

pub record TreeDone (outer : Bool) (i : ℕ) (u : Tree) : Type 0 where
  pub arrows : any_node is_arrow u ≡ false
  pub this : outer ≡ true → has_this u ≡ false

pub record TreesSoFar (outer : Bool) (a : Moment) (x : Option Bound) (first : List Tree) (b : Moment) (y : Option Bound) (items : List Tree) (i : ℕ) : Type 0 where
  pub count : length items ≡ length first
  pub steps : (n : Site) → belongs_to_arrow n.above ≡ outer → Each IsWalkable n (trees first) → HasText x → (p : Pending) (ad : Additions) →
      Steps (TreesStep walk_rule n) (ledger (whole_at a) p x ad) (opened_trees (trees first)) (ledger (whole_at b) p y ad) (opened_trees (trees items))
  pub text : HasText x → HasText y
  pub done : (j : ℕ) (d : Tree) → j < i → TreeDone outer j (get_or items j d)

module _ (outer : Bool) where
  pub trees-none : (a : Moment) (x : Option Bound) (first : List Tree) → TreesSoFar outer a x first a x first 0
  trees-none a x first = record { count = refl; steps = λ n e fit text p ad. stays; text = λ h. h; done = λ j d m. absurd (omega (arith, m)) }

  pub trees-more : {a b e : Moment} {x y z : Option Bound} (first items : List Tree) (i : ℕ) (d u : Tree) → i < length items → get_or items i d ≡ get_or first i d → Walked outer b y (get_or items i d) e z u → TreesSoFar outer a x first b y items i → TreesSoFar outer a x first e z (set items i u) (i + 1)
  trees-more first items i d u lt same w h = record {
    count = length-set items i u ∙ h.count;
    steps = λ n e fit text p ad. steps-trans (h.steps n e fit text p ad) (trees-row walk_rule n items i d u lt (w.steps n e (subst (IsWalkable n) (sym same) (each-tree-at IsWalkable n first i d (omega (arith, lt, h.count)) fit)) (h.text text) p ad));
    text = λ t. w.text (h.text t);
    done = each-set (TreeDone outer) items i u lt h.done (record { arrows = w.arrows; this = w.this });
  }

  none-among : (items : List Tree) → ((j : ℕ) (d : Tree) → j < length items → any_node is_arrow (get_or items j d) ≡ false) → any_in_trees is_arrow (trees items) ≡ false
  none-among [] h = refl
  none-among (x ∷ xs) h = neither (any_node is_arrow x) (any_in_trees is_arrow (trees xs)) (h 0 x (omega arith)) (none-among xs (λ j d l. h (suc j) d (omega (arith, l))))

  no-this-among : (items : List Tree) → ((j : ℕ) (d : Tree) → j < length items → has_this (get_or items j d) ≡ false) → this_in_trees (trees items) ≡ false
  no-this-among [] h = refl
  no-this-among (x ∷ xs) h = neither (has_this x) (this_in_trees (trees xs)) (h 0 x (omega arith)) (no-this-among xs (λ j d l. h (suc j) d (omega (arith, l))))

  pub trees-all : (a b : Moment) (x y : Option Bound) (first items : List Tree) (i : ℕ) → length items ≤ i → TreesSoFar outer a x first b y items i → WalkedTrees outer a x (trees first) b y (trees items)
  trees-all a b x y first items i le h = record {
    steps = h.steps;
    text = h.text;
    arrows = none-among items (λ j d l. (h.done j d (omega (arith, l, le))).arrows);
    this = λ e. no-this-among items (λ j d l. (h.done j d (omega (arith, l, le))).this e);
  }
