-- The laws of `using` that moves out of the head of a loop: what a program becomes is one, it is reached by steps of the rules of `using`, and is no more
-- than twice as large, and weighs little once its `using` is lowered; and where none stands, none moves.
use Rattle.std.specs.Prelude.{◌≡◌, ◌*◌, ◌≤◌, Bool, List, [], false, true, ℕ}
use Rattle.es_tree.specs.Bare.{bare}
use Rattle.es_tree.specs.Constructs.{is_using}
use Rattle.es_tree.specs.HasForm.{has_form}
use Rattle.es_tree.specs.StaticRules.{breaks}
use Rattle.es_tree.specs.Tree.{Tree, tree_size}
use Rattle.es_tree.specs.Walks.{any_node}
use Rattle.es_tree.specs.Words.{Text}
use Rattle.es_tree.specs.declared.table.Sort.TheVariants.{Program as s-Program}
use Rattle.es_resolution.specs.Laws.{source}
use Rattle.es_steps.specs.AllRules.{UsingRule}
use Rattle.es_steps.specs.CoreBridge.{first_whole, names_among}
use Rattle.es_steps.specs.Laws.{nothing_beside}
use Rattle.es_steps.specs.Open.{opened}
use Rattle.es_steps.specs.Steps.{Step, Steps, Whole, the_program}
use Rattle.es_pattern_moves.specs.Moved.{Makes, plainly}
use Rattle.es_pattern_moves.specs.Weights.{weighed}
use Rattle.es_using_rows.specs.Used.{plainly as plainly_used, used}
use Rattle.es_using_rows.specs.declared.standing.Standing.TheVariants.{Anywhere}
use Rattle.es_using_heads.specs.Heads.{HeadsTo, headed}

-- WHERE NO `using` STANDS, none moves, and the tree stays as it is.
abbrev pub LawStays : Type 0
LawStays = (m : Makes) (n : ℕ) (t : Tree) → any_node is_using t ≡ false → headed m n t ≡ (n, t)

-- WHAT A PROGRAM BECOMES is one: neither names nor program can be others.
abbrev pub LawOneHeaded : Type 0
LawOneHeaded = (in_use : Text → Bool) (p q r : Tree) (names others : List Text) → HeadsTo in_use p q names → HeadsTo in_use p r others → (q ≡ r) × (names ≡ others)

-- SIZE: a loop gets a block with a declaration, and a name in its head, five nodes, and has six itself.
abbrev pub LawHeadedSize : Type 0
LawHeadedSize = (m : Makes) (n : ℕ) (t : Tree) → ((i : ℕ) (x : Tree) → tree_size (m.name i x) ≡ 1) → tree_size (headed m n t).1 ≤ 2 * tree_size t

-- SIZE, with its `using` lowered: each node of a program that has form makes what it becomes weigh twenty at most, of which each node of what that becomes
-- by moving patterns takes two.
abbrev pub LawWeighed : Type 0
LawWeighed = (p : Tree) (heads names : List Text) → has_form s-Program p ≡ true → weighed (used (plainly_used names) Anywhere 0 (headed (plainly heads) 0 p).1).1 ≤ 20 * tree_size p

-- STEPS: what a program becomes is reached by steps of the rules of `using`: with symbols from the program with symbols, whose names are in use; and as it
-- is read it is the same but for ids and marks.
abbrev pub LawHeadedSteps : Type 0
LawHeadedSteps = (p q : Tree) (names : List Text) → has_form s-Program p ≡ true → breaks p ≡ [] → HeadsTo (first_whole p).in_use p q names →
    (r : Tree) × (w : Whole) × Steps (Step UsingRule the_program) (nothing_beside (first_whole p)) (opened (source p)) (nothing_beside w) (opened r) × (names_among w.made ≡ names) × (bare r ≡ bare q)
