-- The rules: those of the rows, each at a node, and writing what is pending.
use Rattle.std.specs.Prelude.{◌≡◌, ◌⊎◌, ◌||◌, Bool, true, false, List, ◌++◌, codes}
use Rattle.es_tree.specs.Fresh.{is_among}
use Rattle.es_tree.specs.declared.options.EnvOptions.{EnvOptions}
use Rattle.es_tree.specs.Words.{Text}
use Rattle.es_tree.specs.Tree.{Tree, Trees}
use Rattle.es_runs.specs.Alike.{Need}
use Rattle.es_runs.specs.Open.{Pending, nothing_pending, written, with_vars}
use Rattle.es_runs.specs.OpenSteps.{Whole, Ledger, ledger, Spot, at_node, at_list}
use Rattle.es_runs.specs.NullishCoalescing.{NullishCoalescingRule, also_all}
use Rattle.es_runs.specs.Exponentiation.{ExponentiationRule}
use Rattle.es_runs.specs.LogicalAssignment.{LogicalAssignmentRule}
use Rattle.es_runs.specs.OptionalChaining.{OptionalChainingRule}

-- these fresh names more
abbrev pub with_names : List Text → Whole → Whole
with_names xs w = record w { in_use = also_all xs w.in_use; made = w.made ++ xs }

-- A rule of nodes: what is known of the whole, the names that it takes, what the place takes of the node, and the node before
-- and after.
abbrev pub NodeRule : Type 1
NodeRule = Whole → List Text → Need → Tree → Tree → Type 0

-- A node is replaced; the temporaries that it takes are declared in the innermost list around.
pub data Replacing (R : Whole → List Text → Need → Tree → Tree → Type 0) : Need → Ledger → Spot → Ledger → Spot → Type 0 where
  replaces : {n : Need} {w : Whole} {p : Pending} {t u : Tree} (xs : List Text) → R w xs n t u → Replacing R n (ledger w p) (at_node t) (ledger (with_names xs w) (with_vars xs p)) (at_node u)

-- `??`
abbrev pub nullish_coalescing_rule : Whole → List Text → Need → Tree → Tree → Type 0
nullish_coalescing_rule w = NullishCoalescingRule w.steady w.in_use

abbrev pub OpenNullishCoalescing : Need → Ledger → Spot → Ledger → Spot → Type 0
OpenNullishCoalescing = Replacing nullish_coalescing_rule

-- `||=`, `&&=` and `??=`
abbrev pub logical_assignment_rule : Whole → List Text → Need → Tree → Tree → Type 0
logical_assignment_rule w = LogicalAssignmentRule w.steady w.in_use

abbrev pub OpenLogicalAssignment : Need → Ledger → Spot → Ledger → Spot → Type 0
OpenLogicalAssignment = Replacing logical_assignment_rule

-- names that may stand again: those that the source binds, and fresh ones
abbrev pub is_bound_in : Whole → Text → Bool
is_bound_in w x = w.bound x || is_among w.made x

-- `**` and `**=`, where the name `Math` isn't bound
pub data exponentiation_rule (w : Whole) (xs : List Text) (n : Need) (t u : Tree) : Type 0 where
  raises : is_bound_in w (codes "Math") ≡ false → ExponentiationRule (is_bound_in w) w.in_use xs n t u → exponentiation_rule w xs n t u

abbrev pub OpenExponentiation : Need → Ledger → Spot → Ledger → Spot → Type 0
OpenExponentiation = Replacing exponentiation_rule

-- chains, where it is assumed or not that no value is `document.all`
abbrev pub optional_chaining_rule : Bool → Whole → List Text → Need → Tree → Tree → Type 0
optional_chaining_rule no_all w = OptionalChainingRule no_all (is_bound_in w) w.steady w.in_use

abbrev pub OpenOptionalChaining : Bool → Need → Ledger → Spot → Ledger → Spot → Type 0
OpenOptionalChaining no_all = Replacing (optional_chaining_rule no_all)

-- what is pending for a list is written at its top
pub data Writing : Need → Ledger → Spot → Ledger → Spot → Type 0 where
  writes : {n : Need} {s : Ledger} {p : Pending} {ts : Trees} → Writing n s (at_list p ts) s (at_list nothing_pending (written p ts))

-- one rule or the other
abbrev pub either_rule : (Need → Ledger → Spot → Ledger → Spot → Type 0) → (Need → Ledger → Spot → Ledger → Spot → Type 0) → Need → Ledger → Spot → Ledger → Spot → Type 0
either_rule Q R n s x s' y = Q n s x s' y ⊎ R n s x s' y

-- a rule where it is on
abbrev pub where_on : Bool → (Need → Ledger → Spot → Ledger → Spot → Type 0) → (Need → Ledger → Spot → Ledger → Spot → Type 0)
where_on true R = R
where_on false R = λ n s x s' y. ⊥

-- the rules of core programs
abbrev pub CoreRule : Bool → Need → Ledger → Spot → Ledger → Spot → Type 0
CoreRule no_all = either_rule Writing (either_rule OpenLogicalAssignment (either_rule (either_rule OpenNullishCoalescing (OpenOptionalChaining no_all)) OpenExponentiation))

-- those that options ask for
abbrev pub rule_under : EnvOptions → Need → Ledger → Spot → Ledger → Spot → Type 0
rule_under o = either_rule Writing (either_rule (where_on o.es2021.logical_assignment_operators OpenLogicalAssignment) (either_rule (either_rule (where_on o.es2020.nullish_coalescing_operator OpenNullishCoalescing) (where_on o.es2020.optional_chaining (OpenOptionalChaining o.assumptions.no_document_all))) (where_on o.es2016.exponentiation_operator OpenExponentiation)))
