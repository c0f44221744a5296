-- The laws of patterns that move: the rows are steps of the rules of object rests, and so are those of a walk over a program whose names are
-- bound; and where no pattern with a rest stands, none moves.
use Rattle.std.specs.Prelude.{◌≡◌, ◌*◌, ◌≤◌, Bool, List, [], false, true, ℕ}
use Rattle.es_tree.specs.Bare.{bare}
use Rattle.es_tree.specs.Constructs.{is_object_rest}
use Rattle.es_tree.specs.HasForm.{has_form}
use Rattle.es_tree.specs.StaticRules.{breaks}
use Rattle.es_tree.specs.Tree.{Tree, tree_size}
use Rattle.es_tree.specs.Walks.{any_node}
use Rattle.es_tree.specs.Words.{Text}
use Rattle.es_tree.specs.declared.table.Sort.TheVariants.{Program as s-Program}
use Rattle.es_resolution.specs.Laws.{source}
use Rattle.es_steps.specs.CoreBridge.{first_whole, names_among}
use Rattle.es_steps.specs.Laws.{IsWellBound, nothing_beside}
use Rattle.es_steps.specs.Open.{opened}
use Rattle.es_steps.specs.Steps.{Ledger, Site, Spot, Step, Steps, Whole, the_program}
use Rattle.es_arrow_bodies.specs.ArrowBodies.{WithBodies}
use Rattle.es_pattern_moves.specs.MoveRows.{MoveRow, MoveWalkRow}
use Rattle.es_pattern_moves.specs.Moved.{Makes, MovesTo, moved}
use Rattle.es_pattern_moves.specs.PatternMoves.{moves_pattern}
use Rattle.es_pattern_moves.specs.Weights.{weighed}

-- THE ROWS are steps of the rules of object rests and of bodies, of which it is proved that what they leave is a program.
abbrev pub LawMoveRows : Type 0
LawMoveRows = (n : Site) (s s' : Ledger) (x y : Spot) → MoveRow n s x s' y → WithBodies n s x s' y

-- STEPS OF A WALK from a program that has form, breaks no static rule, and whose names are bound are steps of the rows: the rules say that no
-- declaration is the body of a loop, and that a body declares no more than the tests of its statements find.
abbrev pub LawMoveWalks : Type 0
LawMoveWalks = (t u : Tree) (w w' : Whole) → has_form s-Program t ≡ true → breaks t ≡ [] → IsWellBound w t →
    Steps (Step MoveWalkRow the_program) (nothing_beside w) (opened t) (nothing_beside w') (opened u) → Steps (Step MoveRow the_program) (nothing_beside w) (opened t) (nothing_beside w') (opened u)

-- WHERE NO PATTERN WITH A REST STANDS, none moves.
abbrev pub LawMovesAreRests : Type 0
LawMovesAreRests = (t : Tree) → any_node is_object_rest t ≡ false → any_node moves_pattern t ≡ false

-- IDS AND MARKS mean nothing to the test.
abbrev pub LawBareMoves : Type 0
LawBareMoves = (t u : Tree) → bare t ≡ bare u → any_node moves_pattern t ≡ any_node moves_pattern u

-- WHAT A PROGRAM BECOMES BY MOVING is one: neither names nor program can be others.
abbrev pub LawOneMoved : Type 0
LawOneMoved = (in_use : Text → Bool) (p q r : Tree) (names others : List Text) → MovesTo in_use p q names → MovesTo in_use p r others → (q ≡ r) × (names ≡ others)

-- Where no pattern moves it is the program itself.
abbrev pub LawStays : Type 0
LawStays = (p : Tree) (m : Makes) → any_node moves_pattern p ≡ false → moved m 0 p ≡ (0, p)

-- Each node of it is paid for by what the program weighs, which is three and a half for a node at most.
abbrev pub LawMovedSize : Type 0
LawMovedSize = (p : Tree) (m : Makes) → ((n : ℕ) (t : Tree) → tree_size (m.name n t) ≡ 1) → (2 * tree_size (moved m 0 p).1 ≤ weighed p) × (weighed p ≤ 7 * tree_size p)

-- It is reached by steps of a walk: with symbols from the program with symbols, whose names are in use; and as it is read it is the same but for
-- ids and marks.
abbrev pub LawMovedSteps : Type 0
LawMovedSteps = (p q : Tree) (names : List Text) → has_form s-Program p ≡ true → breaks p ≡ [] → MovesTo (first_whole p).in_use p q names →
    (r : Tree) × (w : Whole) × Steps (Step MoveRow the_program) (nothing_beside (first_whole p)) (opened (source p)) (nothing_beside w) (opened r) × (names_among w.made ≡ names) × (bare r ≡ bare q)
