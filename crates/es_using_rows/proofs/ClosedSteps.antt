-- Rows of a walk make nothing pending: an open program that they lead to is as its tree is opened.
use Rattle.std.proofs.Common.{◌≡◌, ◌∙◌, ℕ, zero, suc, refl, sym, ap, inl, inr, true≢false}
use Rattle.std.specs.Prelude.{◌⊎◌, Bool, true, false, Option, None, if◌then◌else◌}
use Rattle.es_tree.specs.Tree.{Tree, node, Fields, done, ◌then◌, Field, missing, one, many, statements, Trees, empty, ◌before◌}
use Rattle.es_resolution.specs.Declarations.{Bound}
use Rattle.es_steps.specs.Open.{
  Additions,
  Open,
  OpenField,
  OpenFields,
  OpenTrees,
  Pending,
  body,
  child,
  children,
  ends,
  finished,
  finished_field,
  finished_fields,
  finished_trees,
  flanked,
  gap,
  is_body,
  is_statement_body,
  list,
  nil,
  no_additions,
  nothing_pending,
  open_node,
  opened,
  opened_field,
  opened_fields,
  opened_trees,
  whole_list,
  written_body,
  ◌and◌,
  ◌next◌,
}
use Rattle.es_steps.specs.Steps.{FieldStep, FieldsStep, Ledger, Site, Step, TreesStep}
use Rattle.es_steps.specs.Steps.FieldStep.{acts_on_body, acts_on_list, in_body, in_child, in_children, in_list, in_program, in_target}
use Rattle.es_steps.specs.Steps.FieldsStep.{in_first, in_later}
use Rattle.es_steps.specs.Steps.Spot.{at_beside, at_body, at_list, at_node, at_trees}
use Rattle.es_steps.specs.Steps.Step.{acts, inside}
use Rattle.es_steps.specs.Steps.TreesStep.{acts_on_flanked, after_flanked, flanks, in_flanked, in_head, in_tail}
use Rattle.es_steps.proofs.Opened.{finished-opened, written-none}
use Rattle.es_steps.proofs.Taken.{pending_in, this_in, top_in}
use Rattle.es_pattern_moves.proofs.MovedRows.{same-body}
use Rattle.es_using_rows.specs.UsingRows.{UsingWalkRow, making}
use Rattle.es_using_rows.specs.UsingRows.UsingWalkRow.{uses}
use Rattle.es_using_rows.proofs.UsedRows.{walk-only}
use Rattle.es_using_rows.proofs.UsedSteps.{used-no-body, uses-no-body}

-- CLOSED TREES: nothing is pending, and what may be the body of an arrow is one where it is an expression

abbrev mutual
  pub IsClosed : Open → Type 0
  IsClosed (open_node k l fs) = AreClosedFields (is_body k) fs

  pub AreClosedFields : (ℕ → Bool) → OpenFields → Type 0
  AreClosedFields bodies ends = Unit {0}
  AreClosedFields bodies (f and fs) = IsClosedField (bodies zero) f × AreClosedFields (λ i. bodies (suc i)) fs

  pub IsClosedField : Bool → OpenField → Type 0
  IsClosedField b gap = Unit {0}
  IsClosedField b (child t) = ((b ≡ false) ⊎ (is_statement_body (finished t) ≡ true)) × IsClosed t
  IsClosedField b (body p t) = (b ≡ true) × (p ≡ nothing_pending) × (is_statement_body (finished t) ≡ false) × IsClosed t
  IsClosedField b (children ts) = AreClosedTrees ts
  IsClosedField b (list p x a ts) = (p ≡ nothing_pending) × (x ≡ None) × (a ≡ no_additions) × AreClosedTrees ts

  pub AreClosedTrees : OpenTrees → Type 0
  AreClosedTrees nil = Unit {0}
  AreClosedTrees (t next ts) = IsClosed t × AreClosedTrees ts
  AreClosedTrees (flanked bs t cs ts) = ⊥

-- a tree that is opened is closed

-- one that may be the body of an arrow
arrow-closed : (t : Tree) → IsClosed (opened t) → IsClosedField true (if is_statement_body t then child (opened t) else body nothing_pending (opened t))
arrow-closed t h = at (is_statement_body t) (ap (λ z. is_statement_body z) (finished-opened t))
  where
    at : (v : Bool) → is_statement_body (finished (opened t)) ≡ v → IsClosedField true (if v then child (opened t) else body nothing_pending (opened t))
    at true e = (inr e, h)
    at false e = (refl, refl, e, h)

mutual
  pub closed-opened : (t : Tree) → IsClosed (opened t)
  closed-opened (node k l fs) = closed-fields (is_body k) fs

  closed-fields : (bodies : ℕ → Bool) (fs : Fields) → AreClosedFields bodies (opened_fields bodies fs)
  closed-fields bodies done = tt
  closed-fields bodies (f then fs) = (closed-field (bodies zero) f, closed-fields (λ i. bodies (suc i)) fs)

  closed-field : (b : Bool) (f : Field) → IsClosedField b (opened_field b f)
  closed-field true missing = tt
  closed-field false missing = tt
  closed-field true (one t) = arrow-closed t (closed-opened t)
  closed-field false (one t) = (inl refl, closed-opened t)
  closed-field true (many ts) = closed-trees ts
  closed-field false (many ts) = closed-trees ts
  closed-field true (statements ts) = (refl, refl, refl, closed-trees ts)
  closed-field false (statements ts) = (refl, refl, refl, closed-trees ts)

  closed-trees : (ts : Trees) → AreClosedTrees (opened_trees ts)
  closed-trees empty = tt
  closed-trees (t before ts) = (closed-opened t, closed-trees ts)

-- and a closed one is as its tree is opened

child-again : (b : Bool) (t : Open) → (b ≡ false) ⊎ (is_statement_body (finished t) ≡ true) → opened (finished t) ≡ t → opened_field b (one (finished t)) ≡ child t
child-again false t h e = ap child e
child-again true t (inl h) e = absurd (true≢false h)
child-again true t (inr h) e = ap (λ (v : Bool). if v then child (opened (finished t)) else body nothing_pending (opened (finished t))) h ∙ ap child e

body-again : (b : Bool) (p : Pending) (t : Open) → b ≡ true → p ≡ nothing_pending → is_statement_body (finished t) ≡ false → opened (finished t) ≡ t → opened_field b (one (written_body p (finished t))) ≡ body p t
body-again b p t at none h e =
    (λ i. opened_field (at i) (one (written_body (none i) (finished t)))) ∙ ap (λ (v : Bool). if v then child (opened (finished t)) else body nothing_pending (opened (finished t))) h ∙ ap (λ (z : Open). body nothing_pending z) e ∙ ap (λ (q : Pending). body q t) (sym none)

children-again : (b : Bool) (ts : OpenTrees) → opened_trees (finished_trees ts) ≡ ts → opened_field b (many (finished_trees ts)) ≡ children ts
children-again true ts e = ap children e
children-again false ts e = ap children e

list-again : (b : Bool) (p : Pending) (x : Option Bound) (a : Additions) (ts : OpenTrees) → p ≡ nothing_pending → x ≡ None → a ≡ no_additions → opened_trees (finished_trees ts) ≡ ts → opened_field b (statements (whole_list p x a (finished_trees ts))) ≡ list p x a ts
list-again b p x a ts h j k e = at b ∙ ap (λ (us : OpenTrees). list nothing_pending None no_additions us) (ap opened_trees ((λ i. whole_list (h i) (j i) (k i) (finished_trees ts)) ∙ written-none (finished_trees ts)) ∙ e) ∙ (λ i. list (sym h i) (sym j i) (sym k i) ts)
  where
    us : Trees
    us = whole_list p x a (finished_trees ts)

    at : (b : Bool) → opened_field b (statements us) ≡ list nothing_pending None no_additions (opened_trees us)
    at true = refl
    at false = refl

mutual
  pub opened-again : (t : Open) → IsClosed t → opened (finished t) ≡ t
  opened-again (open_node k l fs) h = ap (λ (gs : OpenFields). open_node k l gs) (fields-again (is_body k) fs h)

  fields-again : (bodies : ℕ → Bool) (fs : OpenFields) → AreClosedFields bodies fs → opened_fields bodies (finished_fields fs) ≡ fs
  fields-again bodies ends h = refl
  fields-again bodies (f and fs) h = λ i. field-again (bodies zero) f h.0 i and fields-again (λ j. bodies (suc j)) fs h.1 i

  pub field-again : (b : Bool) (f : OpenField) → IsClosedField b f → opened_field b (finished_field f) ≡ f
  field-again true gap h = refl
  field-again false gap h = refl
  field-again b (child t) h = child-again b t h.0 (opened-again t h.1)
  field-again b (body p t) h = body-again b p t h.0 h.1 h.2 (opened-again t h.3)
  field-again b (children ts) h = children-again b ts (trees-again ts h)
  field-again b (list p x a ts) h = list-again b p x a ts h.0 h.1 h.2 (trees-again ts h.3)

  pub trees-again : (ts : OpenTrees) → AreClosedTrees ts → opened_trees (finished_trees ts) ≡ ts
  trees-again nil h = refl
  trees-again (t next ts) h = λ i. opened-again t h.0 i next trees-again ts h.1 i
  trees-again (flanked bs t cs ts) h = absurd h

-- A ROW leaves what is pending, and neither makes the body of a function nor acts at one

record NothingMore (s s' : Ledger) : Type 0 where
  pending : pending_in s' ≡ pending_in s
  this : this_in s' ≡ this_in s
  top : top_in s' ≡ top_in s

row-more : (n : Site) (s s' : Ledger) (t u : Tree) → UsingWalkRow n s (at_node t) s' (at_node u) → NothingMore s s'
row-more n s s' t u (uses a i k l fs c so here fresh helpers) = record { pending = refl; this = refl; top = refl }

row-body : (n : Site) (s s' : Ledger) (t u : Tree) → UsingWalkRow n s (at_node t) s' (at_node u) → is_statement_body u ≡ is_statement_body t
row-body n s s' t u (uses {w = w} a i k l fs c so here fresh helpers) = used-no-body (making w c) a i k l fs ∙ sym (uses-no-body a k l fs fs here)

-- A STEP

mutual
  step-more : {n : Site} {s s' : Ledger} {t u : Open} → Step UsingWalkRow n s t s' u → NothingMore s s'
  step-more (acts {n = n} {s = s} {s' = s'} t u r) = row-more n s s' t u r
  step-more (inside r) = fields-more r

  fields-more : {c : ℕ → Site} {s s' : Ledger} {fs gs : OpenFields} → FieldsStep UsingWalkRow c s fs s' gs → NothingMore s s'
  fields-more (in_first r) = field-more r
  fields-more (in_later r) = fields-more r

  field-more : {n : Site} {s s' : Ledger} {f g : OpenField} → FieldStep UsingWalkRow n s f s' g → NothingMore s s'
  field-more (in_child r) = step-more r
  field-more (in_children r) = trees-more r
  field-more (in_body e x y r) = let more = step-more r in record { pending = refl; this = more.this; top = more.top }
  field-more (in_list d e r) = let more = trees-more r in record { pending = refl; this = more.this; top = more.top }
  field-more (in_target e r) = let more = trees-more r in record { pending = refl; this = refl; top = more.top }
  field-more (in_program e r) = record { pending = refl; this = refl; top = refl }
  field-more (acts_on_list {n = n} {s = s} {s' = s'} {p = p} {q = q} {x = x} {y = y} {a = a} {b = b} ts us r) = absurd (walk-only n s s' (at_list p x a ts) (at_list q y b us) r)
  field-more (acts_on_body {n = n} {s = s} {s' = s'} {p = p} t u r) = absurd (walk-only n s s' (at_body p t) (at_node u) r)

  trees-more : {n : Site} {s s' : Ledger} {ts us : OpenTrees} → TreesStep UsingWalkRow n s ts s' us → NothingMore s s'
  trees-more (in_head r) = step-more r
  trees-more (in_tail r) = trees-more r
  trees-more (in_flanked r) = step-more r
  trees-more (after_flanked r) = trees-more r
  trees-more (flanks {n = n} {s = s} {s' = s'} {bs = bs} {cs = cs} t u r) = absurd (walk-only n s s' (at_node t) (at_beside bs u cs) r)
  trees-more (acts_on_flanked {n = n} {s = s} {s' = s'} {bs = bs} {cs = cs} t us r) = absurd (walk-only n s s' (at_beside bs t cs) (at_trees us) r)

step-body : {n : Site} {s s' : Ledger} {t u : Open} → Step UsingWalkRow n s t s' u → is_statement_body (finished u) ≡ is_statement_body (finished t)
step-body (acts {n = n} {s = s} {s' = s'} t u r) = ap (λ z. is_statement_body z) (finished-opened u) ∙ row-body n s s' t u r ∙ sym (ap (λ z. is_statement_body z) (finished-opened t))
step-body (inside {k = k} {l = l} {fs = fs} {gs = gs} r) = same-body k l l (finished_fields fs) (finished_fields gs)

still-child : (b : Bool) {n : Site} {s s' : Ledger} {t u : Open} → Step UsingWalkRow n s t s' u → (b ≡ false) ⊎ (is_statement_body (finished t) ≡ true) → (b ≡ false) ⊎ (is_statement_body (finished u) ≡ true)
still-child b r (inl e) = inl e
still-child b r (inr e) = inr (step-body r ∙ e)

mutual
  pub closed-after : {n : Site} {s s' : Ledger} {t u : Open} → Step UsingWalkRow n s t s' u → IsClosed t → IsClosed u
  closed-after (acts t u r) h = closed-opened u
  closed-after (inside {k = k} r) h = fields-after (is_body k) r h

  fields-after : (bodies : ℕ → Bool) {c : ℕ → Site} {s s' : Ledger} {fs gs : OpenFields} → FieldsStep UsingWalkRow c s fs s' gs → AreClosedFields bodies fs → AreClosedFields bodies gs
  fields-after bodies (in_first r) h = (field-after (bodies zero) r h.0, h.1)
  fields-after bodies (in_later r) h = (h.0, fields-after (λ i. bodies (suc i)) r h.1)

  field-after : (b : Bool) {n : Site} {s s' : Ledger} {f g : OpenField} → FieldStep UsingWalkRow n s f s' g → IsClosedField b f → IsClosedField b g
  field-after b (in_child r) h = (still-child b r h.0, closed-after r h.1)
  field-after b (in_children r) h = trees-after r h
  field-after b (in_body e x y r) h = (h.0, (step-more r).pending ∙ h.1, step-body r ∙ h.2, closed-after r h.3)
  field-after b (in_list d e r) h = ((trees-more r).pending ∙ h.0, h.1, h.2, trees-after r h.3)
  field-after b (in_target e r) h = let more = trees-more r in (more.pending ∙ h.0, more.this ∙ h.1, h.2, trees-after r h.3)
  field-after b (in_program e r) h = let more = trees-more r in (more.pending ∙ h.0, more.this ∙ h.1, more.top ∙ h.2, trees-after r h.3)
  field-after b (acts_on_list {n = n} {s = s} {s' = s'} {p = p} {q = q} {x = x} {y = y} {a = a} {b = d} ts us r) h = absurd (walk-only n s s' (at_list p x a ts) (at_list q y d us) r)
  field-after b (acts_on_body {n = n} {s = s} {s' = s'} {p = p} t u r) h = absurd (walk-only n s s' (at_body p t) (at_node u) r)

  trees-after : {n : Site} {s s' : Ledger} {ts us : OpenTrees} → TreesStep UsingWalkRow n s ts s' us → AreClosedTrees ts → AreClosedTrees us
  trees-after (in_head r) h = (closed-after r h.0, h.1)
  trees-after (in_tail r) h = (h.0, trees-after r h.1)
  trees-after (in_flanked r) h = absurd h
  trees-after (after_flanked r) h = absurd h
  trees-after (flanks {n = n} {s = s} {s' = s'} {bs = bs} {cs = cs} t u r) h = absurd (walk-only n s s' (at_node t) (at_beside bs u cs) r)
  trees-after (acts_on_flanked t us r) h = absurd h
