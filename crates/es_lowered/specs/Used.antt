-- What a program becomes once its exports are split: `using` is lowered, before patterns move.
use Rattle.std.specs.Prelude.{◌≡◌, Bool, List, [], false, true}
use Rattle.es_tree.specs.HasForm.{has_form}
use Rattle.es_tree.specs.StaticRules.{breaks}
use Rattle.es_tree.specs.Tree.{Tree}
use Rattle.es_tree.specs.Words.{Text}
use Rattle.es_tree.specs.declared.options.EnvOptions.{EnvOptions}
use Rattle.es_tree.specs.declared.table.Sort.TheVariants.{Program as s-Program}
use Rattle.es_semantic.specs.SymbolsOf.{symbols_of}
use Rattle.es_steps.specs.AllRules.{UsingRule}
use Rattle.es_steps.specs.CoreBridge.{first_whole}
use Rattle.es_steps.specs.CoreRules.{where_on}
use Rattle.es_steps.specs.Steps.{Ledger, Site, Spot}
use Rattle.es_reached.specs.Reached.{IsResultOf}
use Rattle.es_rest_shapes.specs.HelperNames.{binds_helpers}
use Rattle.es_using_heads.specs.Heads.{HeadsTo}
use Rattle.es_using_rows.specs.Used.{UsesTo}

-- the rules of `using`, where it is lowered
abbrev pub used_rules : Bool → Site → Ledger → Spot → Ledger → Spot → Type 0
used_rules on = where_on on UsingRule

-- what a program becomes by them
abbrev pub IsUsed : Bool → Tree → Tree → List Text → Type 0
IsUsed on p q names = IsResultOf (used_rules on) p q names

-- So it is of a program that has form, breaks no static rule and binds no `babelHelpers`, where options ask for `using`.
abbrev pub LawUsed : Type 0
LawUsed = (o : EnvOptions) (p q : Tree) (names : List Text) → has_form s-Program p ≡ true → breaks p ≡ [] → o.es2026.explicit_resource_management ≡ true → binds_helpers (symbols_of p) ≡ false → UsesTo (first_whole p).in_use p q names → IsUsed true p q names

-- So it is where `using` moves out of heads of loops, before that.
abbrev pub LawHeaded : Type 0
LawHeaded = (o : EnvOptions) (p q : Tree) (names : List Text) → has_form s-Program p ≡ true → breaks p ≡ [] → o.es2026.explicit_resource_management ≡ true → HeadsTo (first_whole p).in_use p q names → IsUsed true p q names

-- And such a program may stay as it is.
abbrev pub LawUnused : Type 0
LawUnused = (on : Bool) (p : Tree) → has_form s-Program p ≡ true → breaks p ≡ [] → IsUsed on p p []
