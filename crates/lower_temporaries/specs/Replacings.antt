-- What a lowering leaves that replaced a node by a row, or made a step below it, and what it owes beside the row.
use Rattle.std.specs.Prelude.{◌≡◌, ℕ, ◌+◌, ◌*◌, ◌≤◌, false, List, None, length}
use Rattle.es_tree.specs.Tree.{Tree, tree_size}
use Rattle.es_resolution.specs.Declarations.{Bound}
use Rattle.es_steps.specs.Open.{Pending, no_additions, opened, with_vars}
use Rattle.es_steps.specs.Rules.{with_made}
use Rattle.es_steps.specs.Steps.{Ledger, ledger, Site, Spot, Step, Whole}
use Rattle.es_visit.specs.declared.hook.Hook.TheVariants.{Expression}
use Rattle.es_changes.specs.Fits.{Fits}
use Rattle.es_changes.specs.Moments.{Moment, ledger_with, whole_at}
use Rattle.es_traverse.specs.Laws.{KeepsBody, KeepsSort, Profile, is_construct}
use Rattle.es_traverse.specs.Loads.{load}
use Rattle.lower_temporaries.specs.Takings.{Takes}

-- A node became another by the row, wherever it fits and this is known of it, with the temporaries declared in the innermost list. Each
-- node more has an id of its own, and the load doesn't rise.
pub record Replaces (known : Site → Tree → Type 0) (R : Site → Whole → List Bound → Tree → Tree → Type 0) (a : Moment) (t : Tree) (b : Moment) (u : Tree) : Type 0 where
  pub made : List Bound
  pub ids : ℕ
  pub takes : Takes made ids a b
  pub row : (n : Site) → Fits a n t → known n t → R n (whole_at a) made t u
  pub nodes : tree_size u + 2 * length made ≤ tree_size t + ids
  pub lighter : ids + 4 * length made + load u ≤ load t

-- the ledger at a moment with these temporaries more, where this was pending
abbrev pub ledger_taking : List Bound → Pending → Moment → Ledger
ledger_taking bs p a = ledger (with_made bs (whole_at a)) (with_vars bs p) None no_additions

-- A node became another by one step of the rule at it or below it, whatever is pending for the innermost list.
pub record StepsTo (known : Site → Tree → Type 0) (R : Site → Ledger → Spot → Ledger → Spot → Type 0) (a : Moment) (t : Tree) (b : Moment) (u : Tree) : Type 0 where
  pub made : List Bound
  pub ids : ℕ
  pub takes : Takes made ids a b
  pub step : (n : Site) → Fits a n t → known n t → (p : Pending) → Step R n (ledger_with p a) (opened t) (ledger_taking made p a) (opened u)
  pub nodes : tree_size u + 2 * length made ≤ tree_size t + ids
  pub lighter : ids + 4 * length made + load u ≤ load t

-- what a lowering puts in the place of an expression
pub record IsPut (p : Profile) (t u : Tree) : Type 0 where
  pub cleared : is_construct (p.constructs Expression) u ≡ false
  pub sort : KeepsSort Expression t u
  pub body : KeepsBody t u
  pub made : p.makes u
