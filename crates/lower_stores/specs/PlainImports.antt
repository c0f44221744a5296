-- What a store of imports holds.
use Rattle.std.specs.Prelude.{List, map, string_bytes}
use Rattle.std.specs.declared.string.String.{String}
use Rattle.std.specs.declared.vec.Vec.{Vec}
use Rattle.std.specs.declared.alloc.Global.{Global}
use Rattle.es_tree.specs.Words.{Text}
use Rattle.lower_stores.specs.Imports.{ImportedName, Sources, by_default, by_name}
use Rattle.lower_stores.specs.declared.module_imports.Import.{Import}
use Rattle.lower_stores.specs.declared.module_imports.Import.TheVariants.{Default, Named}

abbrev pub plain_import : Import → ImportedName
plain_import (Named n) = by_name (string_bytes n.imported) (string_bytes n.local.name) n.local.symbol_id.0
plain_import (Default local) = by_default (string_bytes local.name) local.symbol_id.0

abbrev pub plain_source : String Global × Vec Import Global → Text × List ImportedName
plain_source e = (string_bytes e.0, map plain_import e.1.items)

abbrev pub plain_sources : List (String Global × Vec Import Global) → Sources
plain_sources entries = map plain_source entries
