use Rattle.std.proofs.Common.{◌≡◌, ◌+◌, ◌++◌}
use Rattle.lower_stores.specs.PlainImports.{plain_sources}
use Rattle.lower_helpers.specs.ImportNodes.{import_ids, import_statements}
use Rattle.lower_helpers.proofs.import_statements.import_statements.Given as goal

abbrev pub invariant-loop-source : goal.invariant-loop-source
invariant-loop-source l =
    let rest = plain_sources l.source-iterator in record {
      made : l.statements.items ++ import_statements l.ast.next rest ≡ import_statements l.initial.ast.next l.imports;
      counted : l.ast.next + import_ids rest ≡ l.initial.ast.next + import_ids l.imports;
    }
