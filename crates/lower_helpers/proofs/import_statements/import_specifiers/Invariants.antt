use Rattle.std.proofs.Common.{◌≡◌, ◌+◌, ◌++◌, drop, map}
use Rattle.lower_stores.specs.PlainImports.{plain_import}
use Rattle.lower_helpers.specs.ImportNodes.{specifiers, specifiers_ids}
use Rattle.lower_helpers.proofs.import_statements.import_specifiers.Given as goal

abbrev pub invariant-loop-import : goal.invariant-loop-import
invariant-loop-import l =
    let rest = map plain_import (drop l.import-index l.imports) in record {
      made : l.nodes.items ++ specifiers l.ast.next rest ≡ specifiers l.initial.ast.next (map plain_import l.imports);
      counted : l.ast.next + specifiers_ids rest ≡ l.initial.ast.next + specifiers_ids (map plain_import l.imports);
    }
