-- The laws of `using` at the top of a module: what a program becomes is one that breaks no static rule, in which each name keeps its binding, and which is
-- the same to other modules; there is one such program, and it weighs little.
use Rattle.std.specs.Prelude.{◌≡◌, ◌*◌, ◌≤◌, Bool, List, [], None, codes, true}
use Rattle.es_tree.specs.HasForm.{has_form}
use Rattle.es_tree.specs.StaticRules.{breaks}
use Rattle.es_tree.specs.Tree.{Tree, tree_size}
use Rattle.es_tree.specs.Words.{Text}
use Rattle.es_tree.specs.declared.table.Sort.TheVariants.{Program as s-Program}
use Rattle.es_resolution.specs.Laws.{source}
use Rattle.es_steps.specs.CoreBridge.{first_whole}
use Rattle.es_steps.specs.CoreRules.{where_on}
use Rattle.es_steps.specs.Steps.{Ledger, Site, Spot}
use Rattle.es_pattern_moves.specs.Moved.{plainly as plainly_headed}
use Rattle.es_pattern_moves.specs.Weights.{weighed}
use Rattle.es_reached.specs.Reached.{IsResultOf}
use Rattle.es_top_imports.specs.Laws.{list_place}
use Rattle.es_export_splits.specs.Splits as splits
use Rattle.es_using_heads.specs.Heads.{headed}
use Rattle.es_using_rows.specs.Used as uses
use Rattle.es_using_rows.specs.declared.standing.Standing.TheVariants.{Anywhere}
use Rattle.es_using_modules.specs.ModuleTops.{TopsTo, plainly, topped, uses_at_top}
use Rattle.es_using_modules.specs.TopRule.{TopRule}

-- the rule, where it acts
abbrev pub top_rules : Bool → Site → Ledger → Spot → Ledger → Spot → Type 0
top_rules on = where_on on TopRule

-- what a program becomes by it
abbrev pub IsTopped : Bool → Tree → Tree → List Text → Type 0
IsTopped on p q names = IsResultOf (top_rules on) p q names

-- So it is of a program that has form, breaks no static rule and declares by `using` at its top, where its list finds no `babelHelpers`.
abbrev pub LawTopped : Type 0
LawTopped = (p q : Tree) (names : List Text) → has_form s-Program p ≡ true → breaks p ≡ [] → uses_at_top p ≡ true → (list_place (source p)).scope (codes "babelHelpers") ≡ None → TopsTo (first_whole p).in_use p q names → IsTopped true p q names

-- WHAT A PROGRAM BECOMES is one: neither names nor program can be others.
abbrev pub LawOneTopped : Type 0
LawOneTopped = (in_use : Text → Bool) (p q r : Tree) (names others : List Text) → TopsTo in_use p q names → TopsTo in_use p r others → (q ≡ r) × (names ≡ others)

-- SIZE: once exports are split, `using` moved out of heads of loops and was lowered elsewhere, what a program becomes by all of it weighs twenty for each of
-- its nodes at most.
abbrev pub LawToppedWeighs : Type 0
LawToppedWeighs = (p : Tree) (heads contexts names : List Text) (b : Bool) → has_form s-Program p ≡ true →
    let q : Tree = (uses.used (uses.plainly contexts) Anywhere 0 (headed (plainly_headed heads) 0 (splits.split splits.plainly p)).1).1 in
    uses_at_top q ≡ true → weighed (topped (plainly b names) q) ≤ 20 * tree_size p

-- and so where no export is split before
abbrev pub LawToppedAloneWeighs : Type 0
LawToppedAloneWeighs = (p : Tree) (heads contexts names : List Text) (b : Bool) → has_form s-Program p ≡ true →
    let q : Tree = (uses.used (uses.plainly contexts) Anywhere 0 (headed (plainly_headed heads) 0 p).1).1 in
    uses_at_top q ≡ true → weighed (topped (plainly b names) q) ≤ 20 * tree_size p
