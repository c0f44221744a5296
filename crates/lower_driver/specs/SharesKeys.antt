-- What a program becomes when its constructs are lowered, before its helpers are imported.
use Rattle.std.specs.Prelude.{◌≡◌, Bool, List, [], false, true}
use Rattle.es_tree.specs.Tree.{Tree}
use Rattle.es_tree.specs.Words.{Text}
use Rattle.es_steps.specs.CoreBridge.{first_whole}
use Rattle.es_excluded_keys.specs.ExcludedKeys.{SharesTo}

-- Where that is asked for, fresh names stand for lists of the keys that object rests leave out; else the program stays as it is.
pub record SharesKeys (on : Bool) (lowered shared : Tree) (names : List Text) : Type 0 where
  pub goes : on ≡ true → SharesTo (first_whole lowered).in_use lowered shared names
  pub stays : on ≡ false → (shared ≡ lowered) × (names ≡ [])
