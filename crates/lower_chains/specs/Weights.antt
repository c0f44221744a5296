-- What a spine weighs so far that became tests and a current expression, and how many nodes it has.
use Rattle.std.specs.Prelude.{◌≡◌, ℕ, ◌+◌, ◌*◌, ◌≤◌, List, length}
use Rattle.es_tree.specs.Parens.{without_parens}
use Rattle.es_tree.specs.Tree.{Tree, trees, tree_size, trees_size}
use Rattle.es_resolution.specs.Declarations.{Bound}
use Rattle.es_steps.specs.OptionalChaining.{Way}
use Rattle.es_traverse.specs.Loads.{load, trees_load}

-- the nodes, with the declarators of the temporaries
abbrev pub way_size : Way → ℕ
way_size w = trees_size (trees w.tests) + tree_size w.current + 2 * length w.taken

-- the load, with the node and the id that each test takes where the tests are joined and chosen by
abbrev pub way_load : Way → ℕ
way_load w = trees_load (trees w.tests) + 2 * length w.tests + load w.current + 4 * length w.taken

-- A spine became a way, and so many ids were taken: each node more has an id of its own, and the load doesn't rise.
pub record AffordsWay (ids : ℕ) (e : Tree) (w : Way) : Type 0 where
  pub nodes : way_size w ≤ tree_size e + ids
  pub lighter : ids + way_load w ≤ load e

-- The same of a node that became another, with these temporaries.
pub record AffordsRow (ids : ℕ) (names : List Bound) (t u : Tree) : Type 0 where
  pub nodes : tree_size u + 2 * length names ≤ tree_size t + ids
  pub lighter : ids + 4 * length names + load u ≤ load t

-- without the parentheses around what is current
abbrev pub stripped : Way → Way
stripped w = record w { current = without_parens w.current }

-- A step made so many nodes, the declarators of temporaries among them, and weighs at most so much more.
pub record FewMade (most heaviest kept weigh : ℕ) (w u : Way) : Type 0 where
  pub made : ℕ
  pub few : made ≤ most
  pub size : way_size u ≡ made + kept + way_size (stripped w)
  pub paid : made + way_load u ≤ heaviest + weigh + way_load (stripped w)

-- A callee was bound, with so many nodes more.
pub record FewBound (names : List Bound) (e d : Tree) : Type 0 where
  pub own : ℕ
  pub few : own ≤ 8
  pub paid : own + 4 * length names + load d ≤ load e + 18
  pub size : tree_size d + 2 * length names ≡ own + tree_size e
