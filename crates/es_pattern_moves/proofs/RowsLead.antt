-- Where rows lead from the parts of a tree to others, one part after the other, they lead from what is made of the parts to what is made of the
-- others: fields, lists, and the body of an arrow. Each leads on from where the one before it got, which a number says.
use Rattle.std.proofs.Common.{◌≡◌, ℕ, zero, suc, refl, sym, subst}
use Rattle.std.specs.Prelude.{Bool, true, false, Option, None, if◌then◌else◌}
use Rattle.es_tree.specs.Tree.{Tree, Fields, done, ◌then◌, Field, missing, one, many, statements, Trees, empty, ◌before◌}
use Rattle.es_resolution.specs.Declarations.{Bound}
use Rattle.es_changes.proofs.StepRows.{steps-map, steps-trans}
use Rattle.es_steps.specs.Open.{Additions, Pending, body, child, children, is_statement_body, list, no_additions, nothing_pending, opened, opened_field, opened_fields, opened_trees, ◌and◌, ◌next◌}
use Rattle.es_steps.specs.Steps.{FieldStep, FieldsStep, Ledger, Site, Spot, Step, Steps, TreesStep, Whole, is_program_list, is_target, ledger}
use Rattle.es_steps.specs.Steps.FieldStep.{in_child, in_children}
use Rattle.es_steps.specs.Steps.FieldsStep.{in_first, in_later}
use Rattle.es_steps.specs.Steps.Steps.{stays}
use Rattle.es_steps.specs.Steps.TreesStep.{in_head, in_tail}
use Rattle.es_rest_steps.proofs.RowsInside.{list-row, program-row, target-row}

module _ (R : Site → Ledger → Spot → Ledger → Spot → Type 0) (There : Whole → ℕ → Type 0) where
  -- WHERE ROWS LEAD, with the number that is reached

  pub record LeadTo (n : Site) (w : Whole) (t : Tree) (r : ℕ × Tree) : Type 0 where
    pub after : Whole
    pub there : There after r.0
    pub steps : (q : Pending) (x : Option Bound) (y : Additions) → Steps (Step R n) (ledger w q x y) (opened t) (ledger after q x y) (opened r.1)

  pub record LeadIn (c : ℕ → Site) (bodies : ℕ → Bool) (w : Whole) (fs : Fields) (r : ℕ × Fields) : Type 0 where
    pub after : Whole
    pub there : There after r.0
    pub steps : (q : Pending) (x : Option Bound) (y : Additions) → Steps (FieldsStep R c) (ledger w q x y) (opened_fields bodies fs) (ledger after q x y) (opened_fields bodies r.1)

  pub record LeadBy (n : Site) (inside : Bool) (w : Whole) (f : Field) (r : ℕ × Field) : Type 0 where
    pub after : Whole
    pub there : There after r.0
    pub steps : (q : Pending) (x : Option Bound) (y : Additions) → Steps (FieldStep R n) (ledger w q x y) (opened_field inside f) (ledger after q x y) (opened_field inside r.1)

  pub record LeadAmong (n : Site) (w : Whole) (ts : Trees) (r : ℕ × Trees) : Type 0 where
    pub after : Whole
    pub there : There after r.0
    pub steps : (q : Pending) (x : Option Bound) (y : Additions) → Steps (TreesStep R n) (ledger w q x y) (opened_trees ts) (ledger after q x y) (opened_trees r.1)

  -- FIELDS, one after the other

  pub none-in : (c : ℕ → Site) (bodies : ℕ → Bool) (i : ℕ) (w : Whole) → There w i → LeadIn c bodies w done (i, done)
  none-in c bodies i w here = record { after = w; there = here; steps = λ q x y. stays }

  pub more-in : (c : ℕ → Site) (bodies : ℕ → Bool) (w : Whole) (f : Field) (fs : Fields) (g : ℕ × Field) (gs : ℕ × Fields) (head : LeadBy (c zero) (bodies zero) w f g) → LeadIn (λ a. c (suc a)) (λ a. bodies (suc a)) head.after fs gs → LeadIn c bodies w (f then fs) (gs.0, g.1 then gs.1)
  more-in c bodies w f fs g gs head tail = record {
    after = tail.after;
    there = tail.there;
    steps = λ q x y. steps-trans (steps-map (λ h. h and opened_fields (λ a. bodies (suc a)) fs) (λ s s' h k r. in_first r) (head.steps q x y)) (steps-map (λ hs. opened_field (bodies zero) g.1 and hs) (λ s s' h k r. in_later r) (tail.steps q x y));
  }

  -- A LIST, one node after the other

  pub none-among : (n : Site) (i : ℕ) (w : Whole) → There w i → LeadAmong n w empty (i, empty)
  none-among n i w here = record { after = w; there = here; steps = λ q x y. stays }

  pub more-among : (n : Site) (w : Whole) (t : Tree) (ts : Trees) (u : ℕ × Tree) (us : ℕ × Trees) (head : LeadTo n w t u) → LeadAmong n head.after ts us → LeadAmong n w (t before ts) (us.0, u.1 before us.1)
  more-among n w t ts u us head tail = record {
    after = tail.after;
    there = tail.there;
    steps = λ q x y. steps-trans (steps-map (λ h. h next opened_trees ts) (λ s s' h k r. in_head r) (head.steps q x y)) (steps-map (λ hs. opened u.1 next hs) (λ s s' h k r. in_tail r) (tail.steps q x y));
  }

  -- ONE FIELD

  pub none-by : (n : Site) (v : Bool) (i : ℕ) (w : Whole) → There w i → LeadBy n v w missing (i, missing)
  none-by n v i w here = record { after = w; there = here; steps = λ q x y. stays }

  pub many-by : (n : Site) (v : Bool) (w : Whole) (ts : Trees) (r : ℕ × Trees) → LeadAmong n w ts r → LeadBy n v w (many ts) (r.0, many r.1)
  many-by n true w ts r left = record { after = left.after; there = left.there; steps = λ q x y. steps-map children (λ s s' c d h. in_children h) (left.steps q x y) }
  many-by n false w ts r left = record { after = left.after; there = left.there; steps = λ q x y. steps-map children (λ s s' c d h. in_children h) (left.steps q x y) }

  -- whatever list of statements it is
  list-steps : (n : Site) (w : Whole) (ts : Trees) (r : ℕ × Trees) (left : LeadAmong n w ts r) (target whole : Bool) → is_target n.above ≡ target → is_program_list n.above ≡ whole → (q : Pending) (x : Option Bound) (y : Additions) →
      Steps (FieldStep R n) (ledger w q x y) (list nothing_pending None no_additions (opened_trees ts)) (ledger left.after q x y) (list nothing_pending None no_additions (opened_trees r.1))
  list-steps n w ts r left true whole e d q x y = target-row R n e q x no_additions (left.steps nothing_pending None y)
  list-steps n w ts r left false true e d q x y = program-row R n d q x y (left.steps nothing_pending None no_additions)
  list-steps n w ts r left false false e d q x y = list-row R n e d q None no_additions (left.steps nothing_pending x y)

  pub statements-by : (n : Site) (v : Bool) (w : Whole) (ts : Trees) (r : ℕ × Trees) → LeadAmong n w ts r → LeadBy n v w (statements ts) (r.0, statements r.1)
  statements-by n true w ts r left = record { after = left.after; there = left.there; steps = λ q x y. list-steps n w ts r left (is_target n.above) (is_program_list n.above) refl refl q x y }
  statements-by n false w ts r left = record { after = left.after; there = left.there; steps = λ q x y. list-steps n w ts r left (is_target n.above) (is_program_list n.above) refl refl q x y }

  -- one node
  child-steps : (n : Site) (w : Whole) (t : Tree) (r : ℕ × Tree) (left : LeadTo n w t r) (q : Pending) (x : Option Bound) (y : Additions) → Steps (FieldStep R n) (ledger w q x y) (child (opened t)) (ledger left.after q x y) (child (opened r.1))
  child-steps n w t r left q x y = steps-map child (λ s s' c d h. in_child h) (left.steps q x y)

  pub child-by : (n : Site) (w : Whole) (t : Tree) (r : ℕ × Tree) → LeadTo n w t r → LeadBy n false w (one t) (r.0, one r.1)
  child-by n w t r left = record { after = left.after; there = left.there; steps = λ q x y. child-steps n w t r left q x y }

  -- in a field that may be the body of an arrow
  module _ (n : Site) (w : Whole) (t : Tree) (r : ℕ × Tree) (kept : is_statement_body r.1 ≡ is_statement_body t) where
    as-opened : (v : Bool) → is_statement_body t ≡ v → (after : Whole) (q : Pending) (x : Option Bound) (y : Additions) →
        Steps (FieldStep R n) (ledger w q x y) (if v then child (opened t) else body nothing_pending (opened t)) (ledger after q x y) (if v then child (opened r.1) else body nothing_pending (opened r.1)) →
        Steps (FieldStep R n) (ledger w q x y) (opened_field true (one t)) (ledger after q x y) (opened_field true (one r.1))
    as-opened v e after q x y h =
        subst (λ (b : Bool). Steps (FieldStep R n) (ledger w q x y) (if is_statement_body t then child (opened t) else body nothing_pending (opened t)) (ledger after q x y) (if b then child (opened r.1) else body nothing_pending (opened r.1))) (sym kept)
        (subst (λ (b : Bool). Steps (FieldStep R n) (ledger w q x y) (if b then child (opened t) else body nothing_pending (opened t)) (ledger after q x y) (if b then child (opened r.1) else body nothing_pending (opened r.1))) (sym e) h)

    pub statement-body-by : is_statement_body t ≡ true → LeadTo n w t r → LeadBy n true w (one t) (r.0, one r.1)
    statement-body-by e left = record { after = left.after; there = left.there; steps = λ q x y. as-opened true e left.after q x y (child-steps n w t r left q x y) }

    pub body-by : is_statement_body t ≡ false → (after : Whole) → There after r.0 →
        ((q : Pending) (x : Option Bound) (y : Additions) → Steps (FieldStep R n) (ledger w q x y) (body nothing_pending (opened t)) (ledger after q x y) (body nothing_pending (opened r.1))) → LeadBy n true w (one t) (r.0, one r.1)
    body-by e after there steps = record { after = after; there = there; steps = λ q x y. as-opened false e after q x y (steps q x y) }
