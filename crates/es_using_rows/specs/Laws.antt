-- The laws of `using`: what a program becomes is one, it is reached by steps of the rules of `using`, and it is no more than eight times as large,
-- also once patterns moved in it.
use Rattle.std.specs.Prelude.{◌≡◌, ◌*◌, ◌≤◌, Bool, List, [], false, true, ℕ}
use Rattle.es_tree.specs.Bare.{bare}
use Rattle.es_tree.specs.Constructs.{is_using}
use Rattle.es_tree.specs.HasForm.{has_form}
use Rattle.es_tree.specs.StaticRules.{breaks}
use Rattle.es_tree.specs.Tree.{Tree, tree_size}
use Rattle.es_tree.specs.Walks.{any_node}
use Rattle.es_tree.specs.Words.{Text}
use Rattle.es_tree.specs.declared.table.Sort.TheVariants.{Program as s-Program}
use Rattle.es_semantic.specs.SymbolsOf.{symbols_of}
use Rattle.es_resolution.specs.Laws.{source}
use Rattle.es_steps.specs.AllRules.{UsingRule}
use Rattle.es_steps.specs.CoreBridge.{first_whole, names_among}
use Rattle.es_steps.specs.Laws.{nothing_beside}
use Rattle.es_steps.specs.Open.{opened}
use Rattle.es_steps.specs.Steps.{Step, Steps, Whole, the_program}
use Rattle.es_pattern_moves.specs.Weights.{weighed}
use Rattle.es_rest_shapes.specs.HelperNames.{binds_helpers}
use Rattle.es_using_rows.specs.Used.{Makes, UsesTo, plainly, used}
use Rattle.es_using_rows.specs.declared.standing.Standing.{Standing}
use Rattle.es_using_rows.specs.declared.standing.Standing.TheVariants.{Anywhere}

-- WHERE NO `using` STANDS the tree stays as it is.
abbrev pub LawStays : Type 0
LawStays = (m : Makes) (s : Standing) (n : ℕ) (t : Tree) → any_node is_using t ≡ false → used m s n t ≡ (n, t)

-- WHAT A PROGRAM BECOMES is one: neither names nor program can be others.
abbrev pub LawOneUsed : Type 0
LawOneUsed = (in_use : Text → Bool) (p q r : Tree) (names others : List Text) → UsesTo in_use p q names → UsesTo in_use p r others → (q ≡ r) × (names ≡ others)

-- SIZE: each node of a program that has form makes it weigh sixteen at most, of which each node of what it becomes by moving patterns takes two
-- (`LawMovedSize`).
abbrev pub LawUsedSize : Type 0
LawUsedSize = (p : Tree) (names : List Text) → has_form s-Program p ≡ true → weighed (used (plainly names) Anywhere 0 p).1 ≤ 16 * tree_size p

-- STEPS: what a program becomes that binds no `babelHelpers` is reached by steps of the rules of `using`: with symbols from the program with symbols,
-- whose names are in use; and as it is read it is the same but for ids and marks.
abbrev pub LawUsedSteps : Type 0
LawUsedSteps = (p q : Tree) (names : List Text) → has_form s-Program p ≡ true → breaks p ≡ [] → binds_helpers (symbols_of p) ≡ false → UsesTo (first_whole p).in_use p q names →
    (r : Tree) × (w : Whole) × Steps (Step UsingRule the_program) (nothing_beside (first_whole p)) (opened (source p)) (nothing_beside w) (opened r) × (names_among w.made ≡ names) × (bare r ≡ bare q)
