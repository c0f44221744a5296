-- Logical assignment and exponentiation in programs on the way that use no helper but that of object spread, and optional chaining in those that use none:
-- what is known of such a program as a whole, and that these rows keep its runs.
use Rattle.std.proofs.Common.{◌≡◌, inl, inr, refl, subst, []}
use Rattle.std.specs.Prelude.{Bool, true}
use Rattle.es_tree.specs.HasForm.{has_form}
use Rattle.es_tree.specs.Tree.{Fields, Label, Tree}
use Rattle.es_tree.specs.declared.ast_type.AstType.{AstType}
use Rattle.es_tree.specs.declared.ast_type.AstType.TheVariants.{TaggedTemplateExpression}
use Rattle.es_tree.specs.declared.options.EnvOptions.{EnvOptions}
use Rattle.es_tree.specs.declared.table.Sort.TheVariants.{Program as s-Program}
use Rattle.es_semantic.specs.RolesOf.{reads}
use Rattle.es_resolution.specs.Laws.{source}
use Rattle.es_steps.specs.CoreBridge.{first_whole}
use Rattle.es_steps.specs.CoreRules.{RowRule}
use Rattle.es_steps.specs.Exponentiation.{ExponentiationRule}
use Rattle.es_steps.specs.LogicalAssignment.{LogicalAssignmentRule}
use Rattle.es_steps.specs.Open.{Open, finished, finished_fields}
use Rattle.es_steps.specs.OptionalChaining.{OptionalChainingRule}
use Rattle.es_steps.specs.Steps.{Ledger, Step, Whole, site_in, the_program}
use Rattle.es_steps.proofs.BridgeInclusion.{step_under}
use Rattle.es_steps.proofs.Taken.{whole_in}
use Rattle.es_statement_steps.proofs.AloneRules.{alone}
use Rattle.es_valid_steps.proofs.Spread.{finished-spread, spread}
use Rattle.es_statement_runs.specs.Helpers.{Supply, silent_names}
use Rattle.es_statement_runs.specs.Helpers.Supply.{no_helpers}
use Rattle.es_statement_runs.specs.Programs.{IsStatementProgram}
use Rattle.es_statement_steps.specs.Laws.{no_chain_tag}
use Rattle.es_statement_steps.proofs.Assignments.{AssigningRow, assigning-shape}
use Rattle.es_statement_steps.proofs.Below.{both_below}
use Rattle.es_statement_steps.proofs.CellPrograms.{named-meant}
use Rattle.es_statement_steps.proofs.CellFree.{UsesNoCell, cells-named, cells-start, cells-step, running_rules}
use Rattle.es_statement_steps.proofs.ChainPlaces.{ChainsHere, chaining-keeps-here, chains-inwards, chains-program}
use Rattle.es_statement_steps.proofs.Chainings.{ChainingRow, chaining-shape}
use Rattle.es_statement_steps.proofs.ChainTags.{Unchained, Untagged, assigning-no-chain, catch-no-chain, chaining-no-chain, coalescing-no-chain, raising-no-chain, source-untagged, spread-no-chain, untagged-after}
use Rattle.es_statement_steps.proofs.Composition.{Exports, Known, exported, known-fine}
use Rattle.es_statement_steps.proofs.ExportSplits.{is_export_kind}
use Rattle.es_statement_steps.proofs.Exports.{exports-so}
use Rattle.es_statement_steps.proofs.PlacePremises.{here-program}
use Rattle.es_statement_steps.proofs.PlainSupplies.{is_core_supply, none-silent}
use Rattle.es_statement_steps.proofs.Powers.{RaisingRow, raising-shape}
use Rattle.es_statement_steps.proofs.Premises.{Inwards, Premise, RowWith, premised-runs}
use Rattle.es_statement_steps.proofs.RowRuns.{KeepsRuns}
use Rattle.es_statement_steps.proofs.StepRules.{RowsDo, Runs, StatementRules, nodes-do, statement-form, tamed-step}
use Rattle.es_statement_steps.proofs.SteadyRows.{SteadyPlace, assigning-keeps-steady, chaining-operands, raising-keeps-steady, steady-place-inwards}
use Rattle.es_statement_steps.proofs.Unwritten.{SteadyIn, steady-start}
use Rattle.es_statement_steps.proofs.UnwrittenSteps.{steady-exported, steady-step}

-- WHAT IS CARRIED along steps: no steady symbol is written, no name in use is a cell of the machine's own, and no tag is a chain where chains are lowered

pub record Suited (o : EnvOptions) (w : Whole) (t : Tree) : Type 0 where
  pub steady : SteadyIn w reads t
  pub cells : UsesNoCell w
  pub tags : o.es2020.optional_chaining ≡ true → Untagged t

pub no-silent : (o : EnvOptions) (u : Supply) → is_core_supply u ≡ true → (w : Whole) (t : Tree) → Suited o w t → silent_names u t ≡ []
no-silent o u plain w t h = none-silent u plain t

pub suited-start : (o : EnvOptions) (p : Tree) → IsStatementProgram p → (o.es2020.optional_chaining ≡ true → Untagged p) → Suited o (first_whole p) (source p)
suited-start o p h untagged = record { steady = steady-start p; cells = cells-start p h.names; tags = λ e. source-untagged p (untagged e) }

rows-untagged : (no_all : Bool) → RowsDo no_all Unchained
rows-untagged no_all = record { assigning = assigning-no-chain; coalescing = coalescing-no-chain; chaining = chaining-no-chain no_all; raising = raising-no-chain; catching = catch-no-chain; spreading = spread-no-chain }

made-untagged : (k : AstType) (l : Label) (fs : Fields) → is_export_kind k ≡ true → no_chain_tag k l fs ≡ true
made-untagged TaggedTemplateExpression l fs h = absurd (cc h)
made-untagged _ l fs h = refl

module _ (o : EnvOptions) where
  pub suited-step : (s s' : Ledger) (x y : Open) → Step (alone o) the_program s x s' y → Known s x → Known s' y → Suited o (whole_in s) (finished x) → Suited o (whole_in s') (finished y)
  suited-step s s' x y h k m c = record {
    steady = steady-step o h k.proper m.proper c.steady;
    cells = cells-step o (step_under (alone o) (running_rules o) (λ n s x s' y r. inl r) h) c.cells;
    tags = λ e. untagged-after (StatementRules o) (statement-form o) (nodes-do o Unchained (rows-untagged o.assumptions.no_document_all)) (tamed-step o h k.proper m.proper k.class).0 k.proper m.proper k.class (c.tags e);
  }

  pub suited-export : (s s' : Ledger) (x y : Open) → Step (Exports o) the_program s x s' y → Known s (spread x) → Known s' (spread y) → Suited o (whole_in s) (finished x) → Suited o (whole_in s') (finished y)
  suited-export s s' x y h k m c = record {
    steady = steady-exported (exported o h) (subst (λ (t : Tree). has_form s-Program t ≡ true) (finished-spread x) k.form) m.proper c.steady;
    cells = cells-step o (step_under (Exports o) (running_rules o) (λ n s x s' y r. inr r) h) c.cells;
    tags = λ e. exports-so no_chain_tag made-untagged (λ x new. refl) o h (subst (λ (t : Tree). has_form s-Program t ≡ true) (finished-spread x) k.form) (c.tags e);
  }

-- CHAINS ask besides that no tag is one, and that the rules of places are kept

abbrev pub ChainSteady : Premise
ChainSteady n w a = SteadyPlace n w a × ChainsHere n w a

pub chain-steady-inwards : Inwards ChainSteady
chain-steady-inwards n w k l fs h = both_below (λ i t. SteadyPlace (site_in n k l fs i) w t) (λ i t. ChainsHere (site_in n k l fs i) w t) (finished_fields fs) (steady-place-inwards n w k l fs h.0) (chains-inwards n w k l fs h.1)

pub chaining-keeps-steady : (no_all : Bool) → KeepsRuns no_all no_helpers true (RowWith (ChainingRow no_all) (chaining-shape no_all) ChainSteady)
chaining-keeps-steady no_all = record { alike = λ new n w a b h. (chaining-keeps-here no_all).alike new n w a b (h.0, (chaining-operands no_all new n w a b h.0 h.1.0, h.1.1)) }

-- RUNS

module _ (o : EnvOptions) where
  -- what is known of the program
  pub steady-program : {s : Ledger} {x : Open} → Known s x → Suited o (whole_in s) (finished x) → SteadyPlace the_program (whole_in s) (finished x)
  steady-program {s = s} {x = x} k c =
      let w = whole_in s in
      let named = cells-named w c.cells reads (finished x) k.named in
      ((here-program w (finished x) (known-fine k) k.resolved k.named named, named-meant w.free_symbol (finished x) k.form k.rules k.class named), c.steady)

  module _ (u : Supply) (plain : is_core_supply u ≡ true) where
    pub assigning-runs : (no_all : Bool) → Runs no_all u (Suited o) (no-silent o u plain) (RowRule LogicalAssignmentRule)
    assigning-runs no_all s s' x y h k m c d = premised-runs no_all u SteadyPlace steady-place-inwards AssigningRow assigning-shape (assigning-keeps-steady no_all u plain) h k m (none-silent u plain (finished x)) (none-silent u plain (finished y)) (steady-program k c)

    pub raising-runs : (no_all : Bool) → Runs no_all u (Suited o) (no-silent o u plain) (RowRule ExponentiationRule)
    raising-runs no_all s s' x y h k m c d = premised-runs no_all u SteadyPlace steady-place-inwards RaisingRow raising-shape (raising-keeps-steady no_all u plain) h k m (none-silent u plain (finished x)) (none-silent u plain (finished y)) (steady-program k c)

  pub chaining-runs : (no_all : Bool) → o.es2020.optional_chaining ≡ true → Runs no_all no_helpers (Suited o) (no-silent o no_helpers refl) (RowRule (OptionalChainingRule no_all))
  chaining-runs no_all asked s s' x y h k m c d =
      premised-runs no_all no_helpers ChainSteady chain-steady-inwards (ChainingRow no_all) (chaining-shape no_all) (chaining-keeps-steady no_all) h k m refl refl
      (steady-program k c, chains-program (whole_in s) (finished x) k.form (known-fine k) (c.tags asked) k.keeps)
