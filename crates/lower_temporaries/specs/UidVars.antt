-- What a call leaves that makes a fresh name and declares it by `var`.
use Rattle.std.specs.Prelude.{◌≡◌, ℕ, ◌+◌, ◌<◌, [], ◌∷◌, List}
use Rattle.es_tree.specs.Tree.{Tree}
use Rattle.es_scope.specs.Contexts.{MakesName, around_of, function_scoped, hoist_scope_at, scope_at, scopes_around, table_of}
use Rattle.es_scope.specs.TableChanges.{HasBindingMore}
use Rattle.es_scope.specs.Tables.{scope_count, symbol_count}
use Rattle.es_scope.specs.declared.context.TraverseCtx.{TraverseCtx}
use Rattle.es_scope.specs.declared.context_names.BoundIdentifier.{BoundIdentifier}
use Rattle.es_resolution.specs.Declarations.{Bound}
use Rattle.es_steps.specs.Nodes.{declarator_with, identifier}
use Rattle.es_steps.specs.Open.{Pending, with_vars}
use Rattle.lower_temporaries.specs.Declarators.{bound_as}
use Rattle.lower_temporaries.specs.Stacks.{with_top, with_var}
use Rattle.lower_temporaries.specs.declared.state.TransformState.{TransformState}

-- one binding more, of this name and function scoped, where `var` declares
pub record HoistsName {S : Type 0} (old new : TraverseCtx S) (b : Bound) : Type 0 where
  pub scope : ℕ
  pub hoists : scope ≡ hoist_scope_at old
  pub known : scope < scope_count (table_of old)
  pub table : HasBindingMore (table_of old) (table_of new) scope b.name function_scoped

-- a fresh name, bound where `var` declares; two nodes more; and what is pending becomes this
pub record Declares (old new : TraverseCtx TransformState) (b : BoundIdentifier) (pending : List Pending) : Type 0 where
  pub makes : MakesName old new (bound_as b).name
  pub binds : HoistsName old new (bound_as b)
  pub symbol : b.symbol_id.0 ≡ symbol_count (table_of old)
  pub next : new.ast.next ≡ old.ast.next + 2
  pub options : new.options ≡ old.options
  pub around : around_of new ≡ around_of old
  pub scopes : scopes_around new ≡ scopes_around old
  pub place : scope_at new ≡ scope_at old
  pub source_type : new.state.source_type ≡ old.state.source_type
  pub assumptions : new.state.assumptions ≡ old.state.assumptions
  pub pending_is : new.state.var_declarations ≡ pending

-- its declarator, without initialiser, stands in the innermost pair
abbrev pub DeclaresVar : TraverseCtx TransformState → TraverseCtx TransformState → BoundIdentifier → Type 0
DeclaresVar old new b = Declares old new b (with_top (with_vars (bound_as b ∷ [])) old.state.var_declarations)

-- the same with an initialiser
abbrev pub DeclaresVarWith : TraverseCtx TransformState → TraverseCtx TransformState → BoundIdentifier → Tree → Type 0
DeclaresVarWith old new b init = Declares old new b (with_top (with_var (declarator_with (identifier (bound_as b)) init)) old.state.var_declarations)
