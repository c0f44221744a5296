-- What a spine weighs so far that became tests and a current expression, and how many nodes it has.
use Rattle.std.specs.Prelude.{ℕ, ◌+◌, ◌*◌, ◌≤◌, List, length}
use Rattle.es_tree.specs.Parens.{without_parens}
use Rattle.es_tree.specs.Tree.{Tree, trees, tree_size, trees_size}
use Rattle.es_tree.specs.Words.{Text}
use Rattle.es_runs.specs.OptionalChaining.{Way}
use Rattle.es_runs.specs.Weights.{trees_weight, weight}

-- the nodes, with the declarators of the temporaries
abbrev pub way_size : Way → ℕ
way_size w = trees_size (trees w.tests) + tree_size w.current + 2 * length w.taken

-- the weight, with the node and the id that each test takes where the tests are joined and chosen by
abbrev pub way_weight : Way → ℕ
way_weight w = trees_weight (trees w.tests) + 2 * length w.tests + weight w.current + 4 * length w.taken

-- A spine became a way, and so many ids were taken: each node more has an id of its own, and the weight doesn't rise.
pub record AffordsWay (ids : ℕ) (e : Tree) (w : Way) : Type 0 where
  pub nodes : way_size w ≤ tree_size e + ids
  pub lighter : ids + way_weight w ≤ weight e

-- The same of a node that became another, with these temporaries.
pub record AffordsRow (ids : ℕ) (names : List Text) (t u : Tree) : Type 0 where
  pub nodes : tree_size u + 2 * length names ≤ tree_size t + ids
  pub lighter : ids + 4 * length names + weight u ≤ weight t

-- without the parentheses around what is current
abbrev pub stripped : Way → Way
stripped w = record w { current = without_parens w.current }
