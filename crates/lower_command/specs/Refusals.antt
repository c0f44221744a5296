-- Want of memory, which is no cause of a refusal.
use Rattle.es_tree.specs.declared.error.LowerError.{LowerError}
use Rattle.es_tree.specs.declared.error.LowerError.TheVariants.{OutOfMemory}

abbrev pub IsNoMemory : LowerError → Type 0
IsNoMemory OutOfMemory = Unit {0}
IsNoMemory _ = ⊥
