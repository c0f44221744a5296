-- The `??` that are lowered (ECMA-262, 13.13), and what their lowering makes.
use Rattle.std.specs.Prelude.{◌≡◌, ◌&&◌, ℕ, Bool, [], ◌∷◌, Option}
use Rattle.es_tree.specs.Constructs.{is_nullish_coalescing}
use Rattle.es_tree.specs.Fresh.{node_base}
use Rattle.es_tree.specs.Tree.{Tree, Label, Fields}
use Rattle.es_tree.specs.Words.{Text}
use Rattle.es_tree.specs.declared.ast_type.AstType.{AstType}
use Rattle.es_tree.specs.declared.ids.Span.{Span}
use Rattle.es_scope.specs.declared.context.TraverseCtx.{TraverseCtx}
use Rattle.es_resolution.specs.Declarations.{Bound}
use Rattle.es_resolution.specs.Seen.{seen}
use Rattle.es_steps.specs.Duplication.{IsNext}
use Rattle.es_steps.specs.NullishCoalescing.{tested_by}
use Rattle.es_changes.specs.Moments.{whole_at}
use Rattle.lower_temporaries.specs.Shapes.{at_span, is_pair}
use Rattle.lower_temporaries.specs.Takings.{Takes, moment_of}
use Rattle.lower_temporaries.specs.declared.state.TransformState.{TransformState}

-- `l ?? r` with its two sides, which each has that has form
abbrev pub is_lowerable_coalescing : AstType → Label → Fields → Bool
is_lowerable_coalescing k l fs = is_nullish_coalescing k l fs && is_pair fs

-- A `??` became a conditional by this temporary.
pub record ByTemporary (old new : TraverseCtx TransformState) (span : Span) (left right node : Tree) : Type 0 where
  pub temporary : Bound
  pub next : IsNext (whole_at (moment_of old)) (node_base left) temporary
  pub takes : Takes (temporary ∷ []) 13 (moment_of old) (moment_of new)
  pub wrote : (names : ℕ → Text → Option ℕ) → seen names node ≡ tested_by (at_span span) temporary (seen names left) (seen names right)
