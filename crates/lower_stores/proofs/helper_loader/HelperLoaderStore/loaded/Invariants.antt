use Rattle.std.proofs.Common.{take}
use Rattle.lower_stores.specs.LoadedHelpers.{IsNotLoaded}
use Rattle.lower_stores.specs.PlainHelpers.{plain_loaded}
use Rattle.lower_stores.proofs.helper_loader.HelperLoaderStore.loaded.Given as goal

abbrev pub invariant-loop-known : goal.invariant-loop-known
invariant-loop-known l = IsNotLoaded l.helper (plain_loaded (take l.known-index l.known-items))
