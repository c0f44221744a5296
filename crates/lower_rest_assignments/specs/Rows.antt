-- An assignment to a pattern with a rest that became a sequence, as a row.
use Rattle.std.specs.Prelude.{◌≡◌, ◌≤◌, ◌++◌, ℕ, Bool, List, map, Option}
use Rattle.es_tree.specs.Tree.{Tree, kind_of, trees, trees_size}
use Rattle.es_tree.specs.Words.{Text}
use Rattle.es_tree.specs.declared.ast_type.AstType.TheVariants.{SequenceExpression}
use Rattle.es_scope.specs.declared.context.TraverseCtx.{TraverseCtx}
use Rattle.es_resolution.specs.Declarations.{Bound}
use Rattle.es_resolution.specs.Seen.{seen}
use Rattle.es_steps.specs.RestAssignments.{RestAssignmentRule, value_after}
use Rattle.es_conditions.specs.CoreConditions.{is_free}
use Rattle.es_traverse.specs.Laws.{Known}
use Rattle.es_traverse.specs.Loads.{trees_load}
use Rattle.lower_temporaries.specs.Replacings.{Replaces}
use Rattle.lower_temporaries.specs.Takings.{ReadsMore, moment_of}
use Rattle.lower_temporaries.specs.declared.state.TransformState.{TransformState}

-- The value behind these assignments, unless it isn't used.
pub record AddsValue (s : Bound) (unused : Bool) (old new : TraverseCtx TransformState) (first all : List Tree) : Type 0 where
  pub ids : ℕ
  pub reads : ReadsMore ids old new
  pub added : List Tree
  pub are : all ≡ first ++ added
  pub value : (names : ℕ → Text → Option ℕ) → map (seen names) added ≡ value_after unused s
  pub few : ids ≤ 1
  pub size : trees_size (trees added) ≡ ids
  pub load : trees_load (trees added) ≡ ids

-- It became one by the rule, wherever it fits and `babelHelpers` is unbound.
pub record Lowers (old new : TraverseCtx TransformState) (t u : Tree) : Type 0 where
  pub replaces : Replaces (Known (is_free old.options)) RestAssignmentRule (moment_of old) t (moment_of new) u
  pub made : kind_of u ≡ SequenceExpression
