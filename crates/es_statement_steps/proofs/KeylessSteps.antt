-- Steps of the rules make no call that excludes keys, in programs of the class.
use Rattle.std.proofs.Common.{◌≡◌, subst, List}
use Rattle.std.specs.Prelude.{false, is_some}
use Rattle.es_tree.specs.Tree.{Tree}
use Rattle.es_tree.specs.declared.options.EnvOptions.{EnvOptions}
use Rattle.es_resolution.specs.Declarations.{Bound}
use Rattle.es_steps.specs.CoreRules.{RowRule}
use Rattle.es_steps.specs.Exponentiation.{ExponentiationRule}
use Rattle.es_steps.specs.LogicalAssignment.{LogicalAssignmentRule}
use Rattle.es_steps.specs.NullishCoalescing.{NullishCoalescingRule}
use Rattle.es_steps.specs.ObjectSpread.{SpreadRule}
use Rattle.es_steps.specs.Open.{Open, finished}
use Rattle.es_steps.specs.OptionalCatch.{CatchRule}
use Rattle.es_steps.specs.OptionalChaining.{OptionalChainingRule}
use Rattle.es_steps.specs.Rules.{Replacing, Writing}
use Rattle.es_steps.specs.Steps.{Ledger, Site, Spot, Whole}
use Rattle.es_steps.proofs.RuleLaws.{writes-lists}
use Rattle.es_steps.proofs.Taken.{whole_in}
use Rattle.es_statement_steps.specs.Laws.{assignments_there, chains_there, powers_there}
use Rattle.es_statement_steps.proofs.Absent.{Absent, no-assignment, no-chain, no-power, not-there}
use Rattle.es_statement_steps.proofs.Catchings.{CatchRow, catch-rule}
use Rattle.es_statement_steps.proofs.Coalescings.{CoalescingRow, coalescing-shape}
use Rattle.es_statement_steps.proofs.Composition.{Known, known-fine}
use Rattle.es_statement_steps.proofs.KeylessPrograms.{IsKeyless, KeepsKeyless, keyless_after}
use Rattle.es_statement_steps.proofs.KeylessRows.{catch-keyless, coalescing-keyless, spread-keyless}
use Rattle.es_statement_steps.proofs.ProgramMoves.{program-moved}
use Rattle.es_statement_steps.proofs.Replacings.{Row, replacing-rule}
use Rattle.es_statement_steps.proofs.SpreadRuns.{spread-shape}
use Rattle.es_statement_steps.proofs.StepMoves.{NodeRule}
use Rattle.es_statement_steps.proofs.StepRules.{Does, StatementRules, on-does, statement-does, writing-form}
use Rattle.es_statement_steps.proofs.Writings.{written-same}

-- rows that aren't asked for, or whose construct doesn't stand in the program: chains, logical assignment and exponentiation
pub record NoneBeside (o : EnvOptions) (p : Tree) : Type 0 where
  pub chains : chains_there o p ≡ false
  pub assignments : assignments_there o p ≡ false
  pub powers : powers_there o p ≡ false

module _ (p : Tree) where
  abbrev pub StaysKeyless : Ledger → Ledger → Open → Open → Type 0
  StaysKeyless s s' x y = Known s x → Known s' y → Absent p (finished x) → IsKeyless (finished x) → IsKeyless (finished y)

  node-keyless : (Q : Site → Ledger → Spot → Ledger → Spot → Type 0) (A : List Bound → Site → Whole → Tree → Tree → Type 0) (law : NodeRule Q A) → ((new : List Bound) (n : Site) (w : Whole) (a b : Tree) → A new n w a b → KeepsKeyless a b) → Does StaysKeyless Q
  node-keyless Q A law rows s s' x y h k m a c =
      keyless_after Q A law rows (whole_in s) (finished x) (finished y) (program-moved Q A law h k.proper k.form k.class (known-fine k) (known-fine m) k.resolved) m.form c

  pub statement-keyless : (o : EnvOptions) → NoneBeside o p → Does StaysKeyless (StatementRules o)
  statement-keyless o off = statement-does StaysKeyless o (record {
    writing = λ s s' x y h k m a c. subst IsKeyless (written-same Writing (writing-form o) (λ n s s' t u h. absurd (writes-lists h)) h k.proper).1 c;
    assigning = λ s s' x y h k m a c. absurd (not-there o.es2021.logical_assignment_operators _ p (RowRule LogicalAssignmentRule) off.assignments (no-assignment p) s s' x y h k.proper k.class a);
    coalescing = node-keyless (RowRule NullishCoalescingRule) (Row CoalescingRow coalescing-shape) (replacing-rule CoalescingRow coalescing-shape) coalescing-keyless;
    chaining = λ s s' x y h k m a c. absurd (not-there o.es2020.optional_chaining _ p (RowRule (OptionalChainingRule o.assumptions.no_document_all)) off.chains (no-chain o.assumptions.no_document_all p) s s' x y h k.proper k.class a);
    raising = λ s s' x y h k m a c. absurd (not-there o.es2016.exponentiation_operator _ p (RowRule ExponentiationRule) off.powers (no-power p) s s' x y h k.proper k.class a);
    catching = node-keyless CatchRule CatchRow catch-rule catch-keyless;
    spreading = on-does StaysKeyless (is_some o.es2018.object_rest_spread) (Replacing SpreadRule) (node-keyless (Replacing SpreadRule) (Row SpreadRule spread-shape) (replacing-rule SpreadRule spread-shape) spread-keyless);
  })
