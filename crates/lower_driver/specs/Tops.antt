-- What a source becomes after its other `using` is lowered: the top of a module that declares so, where that is asked for.
use Rattle.std.specs.Prelude.{◌≡◌, ◌&&◌, Bool, List, [], false, true}
use Rattle.es_tree.specs.Tree.{Tree}
use Rattle.es_tree.specs.Words.{Text}
use Rattle.es_tree.specs.declared.options.EnvOptions.{EnvOptions}
use Rattle.es_steps.specs.CoreBridge.{first_whole}
use Rattle.es_using_modules.specs.ModuleTops.{TopsTo, uses_at_top}
use Rattle.lower_driver.specs.Uses.{lowers_using}

-- whether it is lowered, where `using` is in this program, and was elsewhere in that one
abbrev pub lowers_top : EnvOptions → Tree → Tree → Bool
lowers_top o split used = lowers_using o split && uses_at_top used

-- Where it is, it becomes a `try`, with these fresh names; else the program stays as it is. There is one such program.
pub record Tops (on : Bool) (used topped : Tree) (names : List Text) : Type 0 where
  pub goes : on ≡ true → TopsTo (first_whole used).in_use used topped names
  pub stays : on ≡ false → (topped ≡ used) × (names ≡ [])
