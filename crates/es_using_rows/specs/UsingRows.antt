-- The rows of a walk that lowers `using`, told by tests of the tree alone. That `babelHelpers` finds nothing where a context is made is a law over
-- whole programs (`LawUsedSteps`).
use Rattle.std.specs.Prelude.{◌≡◌, true, not, Option, codes, ℕ}
use Rattle.es_tree.specs.Fresh.{IsFreshName, text_base}
use Rattle.es_tree.specs.Tree.{node, Label, Fields}
use Rattle.es_tree.specs.Words.{Text}
use Rattle.es_tree.specs.declared.ast_type.AstType.{AstType}
use Rattle.es_resolution.specs.Declarations.{Bound}
use Rattle.es_steps.specs.Open.{Additions, Pending}
use Rattle.es_steps.specs.Rules.{next_name}
use Rattle.es_steps.specs.Steps.{Ledger, Site, Spot, Whole, at_node, ledger}
use Rattle.es_steps.specs.UsingBlocks.{error_of, is_statement_place, with_context}
use Rattle.es_steps.specs.UsingLoops as loops
use Rattle.es_using_rows.specs.UsingPlaces.{is_labelled, is_part, uses_here}
use Rattle.es_using_rows.specs.Used.{Makes, by_bounds, used_node}
use Rattle.es_using_rows.specs.declared.standing.Standing.{Standing}

-- a node stands at this site as the standing says
pub record StandsSo (s : Standing) (n : Site) : Type 0 where
  pub part : is_part s ≡ not (is_statement_place n.above)
  pub labelled : is_labelled s ≡ loops.is_labelled n.above

abbrev pub making : Whole → Text → Makes
making w c = by_bounds (λ i. next_name w c) (λ i. error_of w)

pub data UsingWalkRow : Site → Ledger → Spot → Ledger → Spot → Type 0 where
  uses : {n : Site} {w : Whole} {q : Pending} {x : Option Bound} {y : Additions} (s : Standing) (i : ℕ) (k : AstType) (l : Label) (fs : Fields) (c : Text) → StandsSo s n → uses_here s k l fs ≡ true → IsFreshName w.in_use (text_base (codes "usingCtx")) c → w.in_use (codes "babelHelpers") ≡ true →
      UsingWalkRow n (ledger w q x y) (at_node (node k l fs)) (ledger (with_context c w) q x y) (at_node (used_node (making w c) s i k l fs))
