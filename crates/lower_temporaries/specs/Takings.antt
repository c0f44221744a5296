-- What is between two moments where a node was lowered, and what a call adds for it.
use Rattle.std.specs.Prelude.{◌≡◌, ℕ, ◌+◌, List, [], ◌∷◌, Some, true, false}
use Rattle.es_scope.specs.Contexts.{KeptBeside, Refers, table_of}
use Rattle.es_scope.specs.Tables.{symbol_count}
use Rattle.es_scope.specs.declared.context.TraverseCtx.{TraverseCtx}
use Rattle.es_scope.specs.declared.flags.ReferenceFlags.{ReferenceFlags}
use Rattle.es_resolution.specs.Declarations.{Bound}
use Rattle.es_steps.specs.Open.{Pending, with_vars}
use Rattle.es_steps.specs.Rules.{with_made}
use Rattle.es_steps.proofs.Numbered.{Numbered}
use Rattle.es_changes.specs.Moments.{Moment, whole_at}
use Rattle.es_traverse.specs.ContextMoments.{moment}
use Rattle.lower_temporaries.specs.Stacks.{with_top}
use Rattle.lower_temporaries.specs.declared.state.TransformState.{TransformState}

-- what a state holds to be written later
abbrev pub pending_of : TransformState → List Pending
pending_of s = s.var_declarations

abbrev pub moment_of : TraverseCtx TransformState → Moment
moment_of ctx = moment pending_of ctx

-- These temporaries more, with the next symbols, declared by `var` in the innermost list, and so many ids: all else is as before.
pub record Takes (bs : List Bound) (ids : ℕ) (a b : Moment) : Type 0 where
  pub numbered : Numbered a.free_symbol bs
  pub whole_is : whole_at b ≡ with_made bs (whole_at a)
  pub next_is : b.next ≡ a.next + ids
  pub lists_are : b.lists ≡ with_top (with_vars bs) a.lists
  pub around_is : b.around ≡ a.around
  pub options_are : b.options ≡ a.options

-- This name more, with the next symbol, and so many ids: it is declared where it stands, and all else is as before.
pub record TakesBound (name : Bound) (ids : ℕ) (a b : Moment) : Type 0 where
  pub whole_is : whole_at b ≡ with_made (name ∷ []) (whole_at a)
  pub next_is : b.next ≡ a.next + ids
  pub lists_are : b.lists ≡ a.lists
  pub around_is : b.around ≡ a.around
  pub options_are : b.options ≡ a.options

-- so many ids more, and nothing else
abbrev pub with_ids : ℕ → Moment → Moment
with_ids ids a = record a { next = a.next + ids }

-- So many ids more, and no name: references that read may be added, and such as write a name that is not steady.
pub record ReadsMore (ids : ℕ) (old new : TraverseCtx TransformState) : Type 0 where
  pub moment_is : moment_of new ≡ with_ids ids (moment_of old)
  pub symbols : symbol_count (table_of new) ≡ symbol_count (table_of old)
  pub kept : KeptBeside old new

abbrev pub writing : ReferenceFlags
writing = record { read = false; write = true }

-- So many ids more, and no name: this symbol gets a reference that writes it, and others may get some that read.
pub record WritesOnce (symbol ids : ℕ) (old new : TraverseCtx TransformState) : Type 0 where
  pub written : TraverseCtx TransformState
  pub refers : Refers old written (Some symbol) writing
  pub read : ℕ
  pub more : ReadsMore read written new
  pub ids_are : ids ≡ 1 + read
