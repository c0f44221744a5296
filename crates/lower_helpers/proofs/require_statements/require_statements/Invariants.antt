use Rattle.std.proofs.Common.{◌≡◌, ℕ, ◌+◌, ◌*◌, ◌<◌, ◌++◌, length}
use Rattle.std.specs.Option.{ForSome}
use Rattle.es_scope.specs.Contexts.{table_of}
use Rattle.es_scope.specs.Tables.{reference_count, symbol_count}
use Rattle.es_tree.specs.Heads.{symbol as symbol_number}
use Rattle.lower_stores.specs.PlainImports.{plain_sources}
use Rattle.lower_helpers.specs.RequireNodes.{AreAlone, ReadsTimes, require_statements}
use Rattle.lower_helpers.proofs.require_statements.require_statements.Given as goal

abbrev pub invariant-loop-source : goal.invariant-loop-source
invariant-loop-source g l =
    let rest = plain_sources l.source-iterator in
    let old = l.initial.ctx in
    let symbol = symbol_number l.symbol in record {
      made : l.statements.items ++ require_statements l.ctx.ast.next (reference_count (table_of l.ctx)) symbol rest ≡ require_statements old.ast.next (reference_count (table_of old)) symbol l.imports;
      alone : AreAlone rest;
      room : l.ctx.ast.next + 6 * length rest ≡ old.ast.next + 6 * length l.imports;
      known : ForSome l.symbol (λ s. s.0 < symbol_count (table_of l.ctx));
      times : ℕ;
      reads : ReadsTimes symbol times old l.ctx;
      counted : times + length rest ≡ length l.imports;
    }
