-- What a call leaves that makes a temporary, or a name that is bound where it stands.
use Rattle.std.specs.Prelude.{◌≡◌, ℕ, ◌<◌, false, [], ◌∷◌, Some, string_bytes}
use Rattle.es_tree.specs.Tree.{Tree}
use Rattle.es_tree.specs.Words.{Text}
use Rattle.es_scope.specs.ContextSymbols.{steady_symbols_of}
use Rattle.es_scope.specs.Contexts.{Binds, Refers, table_of}
use Rattle.es_scope.specs.Tables.{symbol_count}
use Rattle.es_scope.specs.declared.context.TraverseCtx.{TraverseCtx}
use Rattle.es_scope.specs.declared.flags.SymbolFlags.{SymbolFlags}
use Rattle.es_resolution.specs.Declarations.{Bound}
use Rattle.es_steps.specs.Duplication.{IsNext}
use Rattle.es_steps.specs.Nodes.{identifier}
use Rattle.es_changes.specs.Moments.{whole_at}
use Rattle.lower_temporaries.specs.SeenTrees.{IsSeenAs}
use Rattle.lower_temporaries.specs.Takings.{Takes, TakesBound, moment_of, writing}
use Rattle.lower_temporaries.specs.declared.state.TransformState.{TransformState}
use Rattle.lower_temporaries.specs.declared.temporaries.Temporary.{Temporary}

-- its name, with its symbol
abbrev pub bound_of : Temporary → Bound
bound_of t = record { name = string_bytes t.name; symbol = Some t.symbol_id.0 }

-- The next temporary of this base is declared and stands as a target, with three nodes more. Its symbol is one of the table, and is not
-- steady.
pub record TakesTemporary (base : Text) (old new : TraverseCtx TransformState) (t : Temporary) : Type 0 where
  pub next : IsNext (whole_at (moment_of old)) base (bound_of t)
  pub target : IsSeenAs t.target (identifier (bound_of t))
  pub takes : Takes (bound_of t ∷ []) 3 (moment_of old) (moment_of new)
  pub known : t.symbol_id.0 < symbol_count (table_of new)
  pub unsteady : steady_symbols_of new t.symbol_id.0 ≡ false

-- The next name of this base is bound in this scope with these flags, and stands as a node, which is one more and writes it.
pub record TakesBoundName (base : Text) (scope : ℕ) (flags : SymbolFlags) (old new : TraverseCtx TransformState) (node : Tree) : Type 0 where
  pub name : Bound
  pub next : IsNext (whole_at (moment_of old)) base name
  pub stands : IsSeenAs node (identifier name)
  pub takes : TakesBound name 1 (moment_of old) (moment_of new)
  -- the context once it was bound, before it was written
  pub between : TraverseCtx TransformState
  pub binds : Binds old between scope name.name flags
  pub refers : Refers between new name.symbol writing
