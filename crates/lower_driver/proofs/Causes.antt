-- A broken rule as the cause of a refusal.
use Rattle.std.proofs.Common.{◌≡◌, List, [], ◌∷◌, None}
use Rattle.serde_json.specs.Data.{Data}
use Rattle.es_tree.specs.CoreStaticRules.{Break}
use Rattle.es_tree.specs.Options.{first_fault}
use Rattle.es_tree.specs.StaticRules.{breaks, IsFirstBreak}
use Rattle.es_tree.specs.Tree.{Tree}
use Rattle.es_tree.specs.declared.error.LowerError.{LowerError}
use Rattle.es_tree.specs.declared.error.LowerError.TheVariants.{Invalid, OutOfMemory}
use Rattle.es_tree.specs.declared.options.EnvOptions.{EnvOptions}
use Rattle.lower_driver.specs.Sources.{IsSource, IsValueCauseOrMemory}

abbrev IsOfRules : LowerError → Type 0
IsOfRules (Invalid rule id) = Unit {0}
IsOfRules OutOfMemory = Unit {0}
IsOfRules _ = ⊥

of_rules : (bs : List Break) (error : LowerError) → IsFirstBreak bs error → IsOfRules error
of_rules [] (Invalid rule id) first = tt
of_rules [] OutOfMemory first = tt
of_rules [] _ first = absurd first
of_rules (b ∷ bs) (Invalid rule id) first = tt
of_rules (b ∷ bs) OutOfMemory first = tt
of_rules (b ∷ bs) _ first = absurd first

pub broken_value : (o : EnvOptions) (v : Data) (p : Tree) (error : LowerError) → IsSource v p → first_fault o ≡ None → IsFirstBreak (breaks p) error → IsValueCauseOrMemory o v error
broken_value o v p error source asked first = by error (of_rules (breaks p) error first) first
  where
    by : (e : LowerError) → IsOfRules e → IsFirstBreak (breaks p) e → IsValueCauseOrMemory o v e
    by (Invalid rule id) of h = (asked, record { program = p; source = source; first = h })
    by OutOfMemory of h = tt
    by _ of h = absurd of
