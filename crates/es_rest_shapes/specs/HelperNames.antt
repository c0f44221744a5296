-- Programs that bind the name of which the helpers are properties.
use Rattle.std.specs.Prelude.{Bool, List, bytes_eq, codes}
use Rattle.std.specs.List.{list_any}
use Rattle.es_tree.specs.Words.{Text}
use Rattle.es_semantic.specs.SymbolsOf.{Declared}

-- whether one of the symbols of a program has this name
abbrev pub binds_name : Text → List Declared → Bool
binds_name x ds = list_any (λ d. bytes_eq d.name x) ds

abbrev pub binds_helpers : List Declared → Bool
binds_helpers ds = binds_name (codes "babelHelpers") ds
