-- The moment of a context whose state holds what is pending: the names that rules write of themselves are in use from the start.
use Rattle.std.specs.Prelude.{ℕ, suc, ◌-◌, ◌||◌, List, [], ◌∷◌, Some, length}
use Rattle.es_tree.specs.Words.{Text}
use Rattle.es_scope.specs.ContextSymbols.{called_of, free_symbol_of, steady_symbols_of}
use Rattle.es_scope.specs.Contexts.{around_of, made_of, uses_of}
use Rattle.es_scope.specs.declared.context.TraverseCtx.{TraverseCtx}
use Rattle.es_resolution.specs.Declarations.{Bound}
use Rattle.es_steps.specs.CoreBridge.{is_written_name}
use Rattle.es_steps.specs.Open.{Pending}
use Rattle.es_changes.specs.Moments.{Moment}

-- These names with their symbols: each is bound where it is made, and so they have the last symbols below this number, in their order.
abbrev pub bound_names : ℕ → List Text → List Bound
bound_names free [] = []
bound_names free (x ∷ xs) = record { name = x; symbol = Some (free - suc (length xs)) } ∷ bound_names free xs

abbrev pub moment : {S : Type 0} → (S → List Pending) → TraverseCtx S → Moment
moment pending ctx = record {
  in_use = λ x. is_written_name x || uses_of ctx x;
  steady = steady_symbols_of ctx;
  free_symbol = free_symbol_of ctx;
  called = called_of ctx;
  made = bound_names (free_symbol_of ctx) (made_of ctx);
  next = ctx.ast.next;
  lists = pending ctx.state;
  around = around_of ctx;
  options = ctx.options;
}
