-- What a hook or a visit does to a part of the tree: whatever the site where it fits, steps of the type's rule lead from what it was to
-- what it is, with all that is pending; and it doesn't weigh more.
use Rattle.std.specs.Prelude.{◌≡◌, ℕ, zero, suc, ◌+◌, ◌≤◌, ◌<◌, ◌^◌, ◌-◌, List, [], ◌∷◌, Bool, true, false, None, length}
use Rattle.es_tree.specs.Tree.{Tree, node, Fields, done, ◌then◌, Field, missing, one, many, statements, Trees, empty, ◌before◌}
use Rattle.es_runs.specs.Weights.{declarators_weight, declarators_size}
use Rattle.es_steps.specs.Open.{Pending, nothing_pending, no_additions, Open, open_node, OpenFields, ends, ◌and◌, list, is_body, is_statement_body, opened, opened_field, opened_fields, opened_trees}
use Rattle.es_steps.specs.Steps.{Ledger, Site, Spot, Step, FieldStep, TreesStep, Steps, site_in_body}
use Rattle.es_changes.specs.Fits.{Fits, FitsBy, FitAll, FitInList}
use Rattle.es_changes.specs.Moments.{Moment, below, ledger_at, ledger_with, top}

-- WHAT STAYS, AND WHAT IT WEIGHS

-- the lists around are those before, with the same pending for all but the innermost
pub record Level (ps qs : List Pending) : Type 0 where
  pub deep : length qs ≡ length ps
  pub outer : below qs ≡ below ps

abbrev pub pending_weight : Pending → ℕ
pending_weight p = declarators_weight p.vars + declarators_weight p.lets

abbrev pub pending_size : Pending → ℕ
pending_size p = declarators_size p.vars + declarators_size p.lets

abbrev pub lists_weight : List Pending → ℕ
lists_weight [] = 0
lists_weight (p ∷ ps) = pending_weight p + lists_weight ps

abbrev pub lists_size : List Pending → ℕ
lists_size [] = 0
lists_size (p ∷ ps) = pending_size p + lists_size ps

-- the ids given so far, and the weight of what is pending
abbrev pub heft : Moment → ℕ
heft a = a.next + lists_weight a.lists

-- there is room for the ids of all nodes that can still be made for a part of this weight
abbrev pub HasRoom : Moment → ℕ → Type 0
HasRoom a weight = heft a + weight < 2 ^ 32 - 1

-- Between two moments the place stays; the sum of the part's weight, of what is pending and of the ids given doesn't rise, and each node
-- more has an id of its own. A part is told by its weight and its number of nodes.
pub record Kept (a : Moment) (weight size : ℕ) (b : Moment) (weight' size' : ℕ) : Type 0 where
  pub level : Level a.lists b.lists
  pub around : b.around ≡ a.around
  pub options : b.options ≡ a.options
  pub counted : a.next ≤ b.next
  pub lighter : heft b + weight' ≤ heft a + weight
  pub nodes : size' + lists_size b.lists + a.next ≤ size + lists_size a.lists + b.next

-- STEPS

abbrev pub AnyRule : Type 1
AnyRule = Site → Ledger → Spot → Ledger → Spot → Type 0

-- wherever the part fits and this is known of it there
abbrev pub Stepped : (Site → Ledger → Spot → Ledger → Spot → Type 0) → (Site → Tree → Type 0) → Moment → Tree → Moment → Tree → Type 0
Stepped R counts a t b u = (n : Site) → Fits a n t → counts n t → Steps (Step R n) (ledger_at a) (opened t) (ledger_at b) (opened u)

abbrev pub FieldStepped : (Site → Ledger → Spot → Ledger → Spot → Type 0) → (Site → Bool → Field → Type 0) → Bool → Moment → Field → Moment → Field → Type 0
FieldStepped R counts body a f b g = (n : Site) → FitsBy a n body f → counts n body f → Steps (FieldStep R n) (ledger_at a) (opened_field body f) (ledger_at b) (opened_field body g)

abbrev pub TreesStepped : (Site → Ledger → Spot → Ledger → Spot → Type 0) → (Site → Trees → Type 0) → Moment → Trees → Moment → Trees → Type 0
TreesStepped R counts a ts b us = (n : Site) → FitAll a n ts → counts n ts → Steps (TreesStep R n) (ledger_at a) (opened_trees ts) (ledger_at b) (opened_trees us)

-- a statement list, whose own pair is the innermost: what is pending around it stays, whatever it is
abbrev pub ListStepped : (Site → Ledger → Spot → Ledger → Spot → Type 0) → (Site → Trees → Type 0) → Moment → Trees → Moment → Trees → Type 0
ListStepped R counts a ts b us = (n : Site) → FitInList a n ts → counts n ts → (o : Pending) →
    Steps (FieldStep R n) (ledger_with o a) (list (top a.lists) None no_additions (opened_trees ts)) (ledger_with o b) (list (top b.lists) None no_additions (opened_trees us))

-- each tree of a list
abbrev pub Each : (Site → Tree → Type 0) → Site → Trees → Type 0
Each P n empty = Unit {0}
Each P n (t before ts) = P n t × Each P n ts

-- the body of an arrow, which is a body of statements or not: an expression stands at a site of its own
abbrev pub AsBody : (Site → Tree → Type 0) → Site → Bool → Tree → Type 0
AsBody P n true t = P n t
AsBody P n false t = P (site_in_body n nothing_pending t) t

-- what stands in a field
abbrev pub EachBy : (Site → Tree → Type 0) → Site → Bool → Field → Type 0
EachBy P n body missing = Unit {0}
EachBy P n true (one t) = AsBody P n (is_statement_body t) t
EachBy P n false (one t) = P n t
EachBy P n body (many ts) = Each P n ts
EachBy P n body (statements ts) = Each P n ts

-- the fields of a node
abbrev pub EachIn : (Site → Tree → Type 0) → (ℕ → Site) → (ℕ → Bool) → Fields → Type 0
EachIn P sites bodies done = Unit {0}
EachIn P sites bodies (f then fs) = EachBy P (sites zero) (bodies zero) f × EachIn P (λ i. sites (suc i)) (λ i. bodies (suc i)) fs

-- A PROGRAM

-- the last of these fields, a list, with what is pending for it
abbrev pub with_pending : Pending → OpenFields → OpenFields
with_pending p (list q x a ts and ends) = list p x a ts and ends
with_pending p (f and fs) = f and with_pending p fs
with_pending p ends = ends

-- a program with what is pending for its own list
abbrev pub open_program : Pending → Tree → Open
open_program p (node k l fs) = open_node k l (with_pending p (opened_fields (is_body k) fs))
