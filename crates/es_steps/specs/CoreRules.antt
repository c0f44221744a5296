-- The rules of the core lowerings together: their rows, each at a node, the wrap rule, and writing what is pending.
use Rattle.std.specs.Prelude.{Bool, true, false, List}
use Rattle.es_tree.specs.Tree.{Tree}
use Rattle.es_tree.specs.declared.options.EnvOptions.{EnvOptions}
use Rattle.es_resolution.specs.Declarations.{Bound}
use Rattle.es_steps.specs.Exponentiation.{ExponentiationRule}
use Rattle.es_steps.specs.LogicalAssignment.{LogicalAssignmentRule}
use Rattle.es_steps.specs.NullishCoalescing.{NullishCoalescingRule}
use Rattle.es_steps.specs.OptionalChaining.{OptionalChainingRule}
use Rattle.es_steps.specs.Rules.{Replacing, Writing, either_rule}
use Rattle.es_steps.specs.Steps.{Whole, Site, Ledger, Spot}
use Rattle.es_steps.specs.WrapRule.{OutsideSlots, WrapRule}

-- a row at a node; its temporaries are declared in the innermost list or arrow body around, and it acts in no open slot
abbrev pub RowRule : (Site → Whole → List Bound → Tree → Tree → Type 0) → Site → Ledger → Spot → Ledger → Spot → Type 0
RowRule R = Replacing (OutsideSlots R)

-- the rows, where it is assumed or not that no value is `document.all`
abbrev pub CoreRows : Bool → Site → Ledger → Spot → Ledger → Spot → Type 0
CoreRows no_all = either_rule (RowRule LogicalAssignmentRule) (either_rule (either_rule (RowRule NullishCoalescingRule) (RowRule (OptionalChainingRule no_all))) (RowRule ExponentiationRule))

-- all of them, with the wrap rule for what these options ask for
abbrev pub CoreRule : EnvOptions → Site → Ledger → Spot → Ledger → Spot → Type 0
CoreRule o = either_rule Writing (either_rule (WrapRule o) (CoreRows o.assumptions.no_document_all))

-- a rule where it is on
abbrev pub where_on : Bool → (Site → Ledger → Spot → Ledger → Spot → Type 0) → Site → Ledger → Spot → Ledger → Spot → Type 0
where_on true R = R
where_on false R = λ n s x s' y. ⊥

abbrev pub rows_under : EnvOptions → Site → Ledger → Spot → Ledger → Spot → Type 0
rows_under o = either_rule (where_on o.es2021.logical_assignment_operators (RowRule LogicalAssignmentRule)) (either_rule (either_rule (where_on o.es2020.nullish_coalescing_operator (RowRule NullishCoalescingRule)) (where_on o.es2020.optional_chaining (RowRule (OptionalChainingRule o.assumptions.no_document_all)))) (where_on o.es2016.exponentiation_operator (RowRule ExponentiationRule)))

-- the rules that options ask for
abbrev pub rule_under : EnvOptions → Site → Ledger → Spot → Ledger → Spot → Type 0
rule_under o = either_rule Writing (either_rule (WrapRule o) (rows_under o))
