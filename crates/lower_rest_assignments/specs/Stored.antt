-- What a call leaves that stores an expression.
use Rattle.std.specs.Prelude.{◌≡◌, ℕ, [], ◌∷◌, Option}
use Rattle.es_tree.specs.Fresh.{node_base}
use Rattle.es_tree.specs.Tree.{Tree}
use Rattle.es_tree.specs.Words.{Text}
use Rattle.es_scope.specs.declared.context.TraverseCtx.{TraverseCtx}
use Rattle.es_resolution.specs.Seen.{seen}
use Rattle.es_steps.specs.Duplication.{IsNext}
use Rattle.es_steps.specs.Nodes.{assign_node, identifier}
use Rattle.es_changes.specs.Moments.{whole_at}
use Rattle.lower_temporaries.specs.Declarators.{bound_as}
use Rattle.lower_temporaries.specs.Takings.{Takes, moment_of}
use Rattle.lower_temporaries.specs.declared.state.TransformState.{TransformState}
use Rattle.lower_rest_assignments.specs.declared.values.Stored.{Stored}

-- The next temporary of its base is declared, and the expression is assigned to it: four ids.
pub record Stores (old new : TraverseCtx TransformState) (e : Tree) (s : Stored) : Type 0 where
  pub next : IsNext (whole_at (moment_of old)) (node_base e) (bound_as s.name)
  pub is : (names : ℕ → Text → Option ℕ) → seen names s.assignment ≡ assign_node (identifier (bound_as s.name)) (seen names e)
  pub takes : Takes (bound_as s.name ∷ []) 4 (moment_of old) (moment_of new)
