-- What a program becomes last of all: its constructors set their name for `this` behind `super(..)`, where arrows were lowered.
use Rattle.std.specs.Prelude.{◌≡◌, Bool, [], true}
use Rattle.es_tree.specs.HasForm.{has_form}
use Rattle.es_tree.specs.StaticRules.{breaks}
use Rattle.es_tree.specs.Tree.{Tree}
use Rattle.es_tree.specs.Words.{Text}
use Rattle.es_tree.specs.declared.table.Sort.TheVariants.{Program as s-Program}
use Rattle.es_steps.specs.CoreRules.{where_on}
use Rattle.es_steps.specs.Steps.{Ledger, Site, Spot}
use Rattle.es_reached.specs.Reached.{IsResultOf}
use Rattle.es_super_calls.specs.declared.standing.ClassStanding.TheVariants.{Elsewhere}
use Rattle.es_set_this.specs.ConstructorThis.{set_this}
use Rattle.es_constructor_this.specs.SetRows.{SetRow}

-- the row, where arrows are lowered
abbrev pub set_rules : Bool → Site → Ledger → Spot → Ledger → Spot → Type 0
set_rules on = where_on on SetRow

-- what a program becomes by it, with no name made
abbrev pub IsSet : Bool → Tree → Tree → Type 0
IsSet on p q = IsResultOf (set_rules on) p q []

-- So it is of a program that has form and breaks no static rule, whatever names count as made.
abbrev pub LawSet : Type 0
LawSet = (made : Text → Bool) (p : Tree) → has_form s-Program p ≡ true → breaks p ≡ [] → IsSet true p (set_this made Elsewhere p)

-- And such a program may stay as it is.
abbrev pub LawUnset : Type 0
LawUnset = (on : Bool) (p : Tree) → has_form s-Program p ≡ true → breaks p ≡ [] → IsSet on p p
