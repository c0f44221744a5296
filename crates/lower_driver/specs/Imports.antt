-- What a program becomes once its constructs are lowered, and names stand for lists of excluded keys.
use Rattle.std.specs.Prelude.{◌≡◌, Bool, List, [], false, true}
use Rattle.es_tree.specs.Tree.{Tree}
use Rattle.es_tree.specs.Words.{Text}
use Rattle.es_steps.specs.CoreBridge.{first_whole}
use Rattle.es_helper_imports.specs.Imported.{ImportsTo}

-- Where helpers are to be imported, the program calls those of this module by fresh names; else it stays as it is.
pub record Imports (on : Bool) (m : Text) (shared written : Tree) (names : List Text) : Type 0 where
  pub goes : on ≡ true → ImportsTo (first_whole shared).in_use m shared written names
  pub stays : on ≡ false → (written ≡ shared) × (names ≡ [])
