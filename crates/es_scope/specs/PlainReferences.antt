-- The references of a table, as the definitions have them.
use Rattle.std.specs.Prelude.{List, Vec, map}
use Rattle.es_tree.specs.Heads.{symbol}
use Rattle.es_tree.specs.References.{Reference}
use Rattle.es_scope.specs.declared.scoping.Reference.{Reference as TableReference}

abbrev pub plain_reference : TableReference → Reference
plain_reference r = record { node = r.node.0; symbol = symbol r.symbol; read = r.flags.read; write = r.flags.write }

abbrev pub plain_references : {X : Type 0} → Vec TableReference X → List Reference
plain_references references = map plain_reference references.items
