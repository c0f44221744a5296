-- What is left of what stands in a field, and of the list of a target.
use Rattle.std.proofs.Common.{◌≡◌, ◌∙◌, ℕ, refl, sym, ap, subst, inl, inr, true≢false, List}
use Rattle.std.specs.Prelude.{◌⊎◌, Bool, true, false, not, ◌&&◌, ◌||◌, ◌==◌, Option, None, if◌then◌else◌}
use Rattle.std.proofs.lemmas.Bool.{and_parts}
use Rattle.es_tree.specs.Ancestors.{Ancestor, stands_in}
use Rattle.es_tree.specs.Constructs.{is_arrow}
use Rattle.es_tree.specs.HasForm.{has_form, same_type}
use Rattle.es_tree.specs.Tree.{Tree, missing, one, many, statements, Trees}
use Rattle.es_tree.specs.Walks.{any_in_trees}
use Rattle.es_tree.specs.declared.ast_type.AstType.{AstType}
use Rattle.es_tree.specs.declared.ast_type.AstType.TheVariants.{ArrowFunctionExpression, FunctionBody, Program, StaticBlock}
use Rattle.es_tree.specs.declared.table.Sort.{Sort}
use Rattle.es_resolution.specs.Declarations.{Bound}
use Rattle.es_changes.specs.Changes.{AsBody, Each, EachBy}
use Rattle.es_changes.specs.Moments.{Moment, whole_at}
use Rattle.es_changes.proofs.StepRows.{steps-map, steps-trans}
use Rattle.es_steps.specs.Open.{Additions, OpenField, Pending, body, child, children, is_body, is_statement_body, list, no_additions, nothing_pending, opened, opened_field, opened_trees, whole_list}
use Rattle.es_steps.specs.Rules.Writing.{all_pending}
use Rattle.es_steps.specs.Steps.{FieldStep, Site, Steps, is_program_list, is_target, ledger, site_in_body}
use Rattle.es_steps.specs.Steps.FieldStep.{acts_on_list, in_child, in_children}
use Rattle.es_steps.specs.Steps.Steps.{goes, stays}
use Rattle.es_steps.specs.ThisPlaces.{belongs_to_arrow}
use Rattle.es_steps.proofs.FormLists.{HasText}
use Rattle.lower_arrows.specs.Lowered.{walk_rule}
use Rattle.lower_arrows.specs.Walks.{IsInside, IsTargetList, IsWalkable, Walked, WalkedField, WalkedTarget, WalkedTrees, belongs_at, is_target_at}
use Rattle.lower_arrows.proofs.BodyRows.{body-row}
use Rattle.lower_arrows.proofs.Inward.{arrow-field}
use Rattle.lower_arrows.proofs.Rows.{list-row, program-row, target-row}

module _ (outer : Bool) (k : AstType) (i : ℕ) (n : Site) (h : IsInside outer k i n) where
  -- what stands there belongs to an arrow as the code tells
  belongs-there : belongs_to_arrow n.above ≡ belongs_at outer k i
  belongs-there = ap (λ (up : List Ancestor). belongs_to_arrow up) h.above ∙ ap (λ (o : Bool). belongs_at o k i) h.around.belongs

  body-there : stands_in ArrowFunctionExpression 1 n.above ≡ is_body k i
  body-there = ap (λ (up : List Ancestor). stands_in ArrowFunctionExpression 1 up) h.above ∙ arrow-field k i

-- ONE NODE

module _ (outer : Bool) (k : AstType) (i : ℕ) (a : Moment) (x : Option Bound) (t : Tree) (b : Moment) (y : Option Bound) (u : Tree) (w : Walked (belongs_at outer k i) a x t b y u) where
  abbrev Goes : Site → Pending → Additions → OpenField → OpenField → Type 0
  Goes n p ad f g = Steps (FieldStep walk_rule n) (ledger (whole_at a) p x ad) f (ledger (whole_at b) p y ad) g

  as-child : (n : Site) → IsInside outer k i n → IsWalkable n t → HasText x → (p : Pending) (ad : Additions) → Goes n p ad (child (opened t)) (child (opened u))
  as-child n h fit text p ad = steps-map child (λ s s' c d r. in_child r) (w.steps n (belongs-there outer k i n h) fit text p ad)

  in-the-body : (n : Site) → IsInside outer k i n → is_body k i ≡ true → is_statement_body t ≡ false → IsWalkable (site_in_body n nothing_pending t) t → HasText x → (p : Pending) (ad : Additions) → Goes n p ad (body nothing_pending (opened t)) (body nothing_pending (opened u))
  in-the-body n h e d fit text p ad =
      let sort = fit.place.body (body-there outer k i n h ∙ e) in
      body-row n (h.role e) (λ c. sym sort ∙ fit.slot c) p nothing_pending t u (subst (λ (s : Sort). has_form s t ≡ true) sort fit.formed) d text (w.steps (site_in_body n nothing_pending t) (belongs-there outer k i n h) fit text nothing_pending ad)

  by-body : (n : Site) → IsInside outer k i n → is_body k i ≡ true → (v : Bool) → is_statement_body t ≡ v → AsBody IsWalkable n v t → HasText x → (p : Pending) (ad : Additions) → Goes n p ad (if v then child (opened t) else body nothing_pending (opened t)) (if v then child (opened u) else body nothing_pending (opened u))
  by-body n h e true d fit text p ad = as-child n h fit text p ad
  by-body n h e false d fit text p ad = in-the-body n h e d fit text p ad

  by-field : (n : Site) → IsInside outer k i n → (v : Bool) → is_body k i ≡ v → EachBy IsWalkable n v (one t) → HasText x → (p : Pending) (ad : Additions) → Goes n p ad (opened_field v (one t)) (opened_field v (one u))
  by-field n h true e fit text p ad =
      subst (λ (v : Bool). Goes n p ad (opened_field true (one t)) (if v then child (opened u) else body nothing_pending (opened u))) (sym w.body) (by-body n h e (is_statement_body t) refl fit text p ad)
  by-field n h false e fit text p ad = as-child n h fit text p ad

  pub one-walked : WalkedField outer k i a x (one t) b y (one u)
  one-walked = record {
    steps = λ n h fit text p ad. by-field n h (is_body k i) refl fit text p ad;
    own = λ n h e fit text. w.own n (belongs-there outer k i n h) fit text;
    text = w.text;
    arrows = w.arrows;
    this = w.this;
  }

pub missing-walked : (outer : Bool) (k : AstType) (i : ℕ) (a : Moment) (x : Option Bound) → WalkedField outer k i a x missing a x missing
missing-walked outer k i a x = record { steps = λ n h fit text p ad. stays; own = λ n h e fit text. refl; text = λ h. h; arrows = refl; this = λ e. refl }

-- LISTS

each-of : (n : Site) (v : Bool) (ts : Trees) → EachBy IsWalkable n v (many ts) → Each IsWalkable n ts
each-of n true ts h = h
each-of n false ts h = h

each-in : (n : Site) (v : Bool) (ts : Trees) → EachBy IsWalkable n v (statements ts) → Each IsWalkable n ts
each-in n true ts h = h
each-in n false ts h = h

opened-many : (v : Bool) (ts : Trees) → children (opened_trees ts) ≡ opened_field v (many ts)
opened-many true ts = refl
opened-many false ts = refl

opened-list : (v : Bool) (ts : Trees) → list nothing_pending None no_additions (opened_trees ts) ≡ opened_field v (statements ts)
opened-list true ts = refl
opened-list false ts = refl

module _ (outer : Bool) (k : AstType) (i : ℕ) (a : Moment) (x : Option Bound) (ts : Trees) (b : Moment) (y : Option Bound) (us : Trees) (w : WalkedTrees (belongs_at outer k i) a x ts b y us) where
  pub many-walked : WalkedField outer k i a x (many ts) b y (many us)
  many-walked = record {
    steps = λ n h fit text p ad. subst (λ (g : OpenField). Steps (FieldStep walk_rule n) (ledger (whole_at a) p x ad) (opened_field (is_body k i) (many ts)) (ledger (whole_at b) p y ad) g) (opened-many (is_body k i) us)
        (subst (λ (f : OpenField). Steps (FieldStep walk_rule n) (ledger (whole_at a) p x ad) f (ledger (whole_at b) p y ad) (children (opened_trees us))) (opened-many (is_body k i) ts)
        (steps-map children (λ s s' c d r. in_children r) (w.steps n (belongs-there outer k i n h) (each-of n (is_body k i) ts fit) text p ad)));
    own = λ n h e fit text. refl;
    text = w.text;
    arrows = w.arrows;
    this = w.this;
  }

-- is this list that of a target?
no-target : (outer : Bool) (k : AstType) (i : ℕ) (v : Bool) → is_target_at outer k i ≡ false → (k ≡ FunctionBody → v ≡ outer) → ((same_type k StaticBlock && i == 0) || ((same_type k FunctionBody && i == 1) && not v)) ≡ false
no-target outer FunctionBody i v e h = subst (λ (o : Bool). ((i == 1) && not o) ≡ false) (sym (h refl)) e
no-target outer StaticBlock i v e h = e
no-target outer _ i v e h = refl

no-program : (k : AstType) (i : ℕ) → (k ≡ Program → ⊥) → (same_type k Program && i == 1) ≡ false
no-program Program i h = absurd (h refl)
no-program _ i h = refl

some-target : (outer : Bool) (k : AstType) (i : ℕ) (v : Bool) → is_target_at outer k i ≡ true → (k ≡ FunctionBody → v ≡ outer) → ((same_type k StaticBlock && i == 0) || ((same_type k FunctionBody && i == 1) && not v)) ≡ true
some-target outer FunctionBody i v e h = subst (λ (o : Bool). ((i == 1) && not o) ≡ true) (sym (h refl)) e
some-target outer StaticBlock i v e h = e
some-target outer _ i v e h = absurd (cc e)

-- what stands in it belongs to no arrow
target-apart : (outer : Bool) (k : AstType) (i : ℕ) → is_target_at outer k i ≡ true → belongs_at outer k i ≡ false
target-apart true FunctionBody i e = absurd (true≢false (sym (and_parts (i == 1) false e).1))
target-apart false FunctionBody i e = refl
target-apart outer StaticBlock i e = refl
target-apart outer _ i e = absurd (cc e)

module _ (outer : Bool) (k : AstType) (i : ℕ) (n : Site) (h : IsInside outer k i n) where
  pub no-target-there : is_target_at outer k i ≡ false → is_target n.above ≡ false
  no-target-there e = ap (λ (up : List Ancestor). is_target up) h.above ∙ no-target outer k i (stands_in ArrowFunctionExpression 1 h.up) e h.around.body

  pub no-program-there : is_program_list n.above ≡ false
  no-program-there = ap (λ (up : List Ancestor). is_program_list up) h.above ∙ no-program k i h.around.inner

  pub target-there : is_target_at outer k i ≡ true → IsTargetList n
  target-there e = record {
    belongs = belongs-there outer k i n h ∙ target-apart outer k i e;
    target = inl (ap (λ (up : List Ancestor). is_target up) h.above ∙ some-target outer k i (stands_in ArrowFunctionExpression 1 h.up) e h.around.body);
  }

-- a list of no target
pub list-walked : (outer : Bool) (k : AstType) (i : ℕ) (a : Moment) (x : Option Bound) (ts : Trees) (b : Moment) (y : Option Bound) (us : Trees) → is_target_at outer k i ≡ false → WalkedTrees (belongs_at outer k i) a x ts b y us → WalkedField outer k i a x (statements ts) b y (statements us)
list-walked outer k i a x ts b y us none w = record {
  steps = λ n h fit text p ad. subst (λ (g : OpenField). Steps (FieldStep walk_rule n) (ledger (whole_at a) p x ad) (opened_field (is_body k i) (statements ts)) (ledger (whole_at b) p y ad) g) (opened-list (is_body k i) us)
      (subst (λ (f : OpenField). Steps (FieldStep walk_rule n) (ledger (whole_at a) p x ad) f (ledger (whole_at b) p y ad) (list nothing_pending None no_additions (opened_trees us))) (opened-list (is_body k i) ts)
      (list-row walk_rule n (no-target-there outer k i n h none) (no-program-there outer k i n h) p None no_additions (w.steps n (belongs-there outer k i n h) (each-in n (is_body k i) ts fit) text nothing_pending ad)));
  own = λ n h e fit text. refl;
  text = w.text;
  arrows = w.arrows;
  this = w.this;
}

-- that of a target, of which nothing else is known
pub apart-walked : (outer : Bool) (k : AstType) (i : ℕ) (a : Moment) (x : Option Bound) (ts : Trees) (b : Moment) (us : Trees) → is_target_at outer k i ≡ true → WalkedTarget a ts b us → WalkedField outer k i a x (statements ts) b x (statements us)
apart-walked outer k i a x ts b us some w = record {
  steps = λ n h fit text p ad. subst (λ (g : OpenField). Steps (FieldStep walk_rule n) (ledger (whole_at a) p x ad) (opened_field (is_body k i) (statements ts)) (ledger (whole_at b) p x ad) g) (opened-list (is_body k i) us)
      (subst (λ (f : OpenField). Steps (FieldStep walk_rule n) (ledger (whole_at a) p x ad) f (ledger (whole_at b) p x ad) (list nothing_pending None no_additions (opened_trees us))) (opened-list (is_body k i) ts)
      (w.steps n (target-there outer k i n h some) (each-in n (is_body k i) ts fit) p x ad));
  own = λ n h e fit text. refl;
  text = λ h. h;
  arrows = w.arrows;
  this = λ e. absurd (true≢false (sym e ∙ target-apart outer k i some));
}

-- THE LIST OF A TARGET, with its name written

pub target-walked : (a : Moment) (ts : Trees) (b : Moment) (y : Option Bound) (us vs : Trees) → vs ≡ whole_list nothing_pending y no_additions us → any_in_trees is_arrow vs ≡ false → WalkedTrees false a None ts b y us → WalkedTarget a ts b vs
target-walked a ts b y us vs is none w = record {
  steps = λ n h fit o x ad. subst (λ (zs : Trees). Steps (FieldStep walk_rule n) (ledger (whole_at a) o x ad) (list nothing_pending None no_additions (opened_trees ts)) (ledger (whole_at b) o x ad) (list nothing_pending None no_additions (opened_trees zs))) (sym is)
      (steps-trans (inside n h fit o x ad) (goes (acts_on_list us (whole_list nothing_pending y no_additions us) (inl all_pending)) stays));
  arrows = none;
}
  where
    by : (n : Site) → (is_target n.above ≡ true) ⊎ (is_program_list n.above ≡ true) → belongs_to_arrow n.above ≡ false → Each IsWalkable n ts → (o : Pending) (x : Option Bound) (ad : Additions) →
        Steps (FieldStep walk_rule n) (ledger (whole_at a) o x ad) (list nothing_pending None no_additions (opened_trees ts)) (ledger (whole_at b) o x ad) (list nothing_pending y no_additions (opened_trees us))
    by n (inl e) belongs fit o x ad = target-row walk_rule n e o x no_additions (w.steps n belongs fit tt nothing_pending ad)
    by n (inr e) belongs fit o x ad = program-row walk_rule n e o x ad (w.steps n belongs fit tt nothing_pending no_additions)

    inside : (n : Site) → IsTargetList n → Each IsWalkable n ts → (o : Pending) (x : Option Bound) (ad : Additions) →
        Steps (FieldStep walk_rule n) (ledger (whole_at a) o x ad) (list nothing_pending None no_additions (opened_trees ts)) (ledger (whole_at b) o x ad) (list nothing_pending y no_additions (opened_trees us))
    inside n h fit o x ad = by n h.target h.belongs fit o x ad
