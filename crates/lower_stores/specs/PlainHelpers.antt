-- What a store of helpers holds.
use Rattle.std.specs.Prelude.{List, map, string_bytes}
use Rattle.std.specs.declared.alloc.Global.{Global}
use Rattle.std.specs.declared.string.String.{String}
use Rattle.es_scope.specs.declared.context_names.BoundIdentifier.{BoundIdentifier}
use Rattle.es_tree.specs.declared.helper.Helper.{Helper}
use Rattle.es_tree.specs.declared.options.HelperLoaderMode.{HelperLoaderMode}
use Rattle.lower_stores.specs.LoadedHelpers.{Helpers, IsEachOnce, LocalName}

abbrev pub plain_name : BoundIdentifier → LocalName
plain_name b = record { name = string_bytes b.name; symbol = b.symbol_id.0 }

abbrev pub plain_loaded : List (Helper × BoundIdentifier) → List (Helper × LocalName)
plain_loaded loaded = map (λ e. (e.0, plain_name e.1)) loaded

abbrev pub plain_helpers : HelperLoaderMode → String Global → List (Helper × BoundIdentifier) → Helpers
plain_helpers mode module_name loaded = record { mode = mode; module_name = string_bytes module_name; loaded = plain_loaded loaded }

abbrev pub HoldsEachOnce : List (Helper × BoundIdentifier) → Type 0
HoldsEachOnce loaded = IsEachOnce (plain_loaded loaded)
