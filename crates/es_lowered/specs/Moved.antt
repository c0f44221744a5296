-- What a program becomes once its `using` is lowered: patterns with a rest move to declarations of their own, where their rest is taken.
use Rattle.std.specs.Prelude.{◌≡◌, Bool, List, [], is_some, true}
use Rattle.es_tree.specs.HasForm.{has_form}
use Rattle.es_tree.specs.StaticRules.{breaks}
use Rattle.es_tree.specs.Tree.{Tree}
use Rattle.es_tree.specs.Words.{Text}
use Rattle.es_tree.specs.declared.options.EnvOptions.{EnvOptions}
use Rattle.es_tree.specs.declared.table.Sort.TheVariants.{Program as s-Program}
use Rattle.es_steps.specs.CoreBridge.{first_whole}
use Rattle.es_steps.specs.CoreRules.{where_on}
use Rattle.es_steps.specs.Steps.{Ledger, Site, Spot}
use Rattle.es_reached.specs.Reached.{IsResultOf}
use Rattle.es_pattern_moves.specs.MoveRows.{MoveRow}
use Rattle.es_pattern_moves.specs.Moved.{MovesTo}

-- the rows by which they move, where the lowering of object rests is on
abbrev pub moved_rules : Bool → Site → Ledger → Spot → Ledger → Spot → Type 0
moved_rules on = where_on on MoveRow

-- what a program becomes by them
abbrev pub IsMoved : Bool → Tree → Tree → List Text → Type 0
IsMoved on p q names = IsResultOf (moved_rules on) p q names

-- So it is of a program that has form and breaks no static rule, where options ask for the lowering of object rests.
abbrev pub LawMoved : Type 0
LawMoved = (o : EnvOptions) (p q : Tree) (names : List Text) → has_form s-Program p ≡ true → breaks p ≡ [] → is_some o.es2018.object_rest_spread ≡ true → MovesTo (first_whole p).in_use p q names → IsMoved true p q names

-- And such a program may stay as it is.
abbrev pub LawUnmoved : Type 0
LawUnmoved = (on : Bool) (p : Tree) → has_form s-Program p ≡ true → breaks p ≡ [] → IsMoved on p p []
