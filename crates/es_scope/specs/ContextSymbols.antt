-- What a context says by symbols.
use Rattle.std.specs.Prelude.{ℕ, Bool, Option}
use Rattle.es_tree.specs.Words.{Text}
use Rattle.es_scope.specs.Contexts.{scope_at, table_of}
use Rattle.es_scope.specs.Tables.{Finds, called, is_steady, symbol_count}
use Rattle.es_scope.specs.declared.context.TraverseCtx.{TraverseCtx}

-- whether the symbol is one of the table that no reference writes
abbrev pub steady_symbols_of : {S : Type 0} → TraverseCtx S → ℕ → Bool
steady_symbols_of ctx n = is_steady (table_of ctx) n

-- the name of a symbol
abbrev pub called_of : {S : Type 0} → TraverseCtx S → ℕ → Text
called_of ctx n = called (table_of ctx) n

-- the next symbol
abbrev pub free_symbol_of : {S : Type 0} → TraverseCtx S → ℕ
free_symbol_of ctx = symbol_count (table_of ctx)

-- what a name finds from the place
abbrev pub FindsAt : {S : Type 0} → TraverseCtx S → Text → Option ℕ → Type 0
FindsAt ctx x r = Finds (table_of ctx) x (scope_at ctx) r
