-- The stores of a program's helpers.
use Rattle.es_tree.specs.declared.helper.Helper.{Helper}
use Rattle.lower_stores.specs.LoadedHelpers.{LocalName, with_helper_import, with_loaded}
use Rattle.lower_helpers.specs.declared.helper_stores.HelperStores.{HelperStores}

-- one helper more, with its import
abbrev pub with_helper : Helper → LocalName → HelperStores → HelperStores
with_helper helper local s = record s { helper_loader = with_loaded helper local s.helper_loader; module_imports = with_helper_import s.helper_loader.module_name helper local s.module_imports }
