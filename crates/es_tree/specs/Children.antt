-- The one children of the fields of a node.
use Rattle.std.specs.Prelude.{ℕ, zero, suc, Option, Some, None}
use Rattle.es_tree.specs.Tree.{Tree, Field, one, Fields, done, ◌then◌}

-- the one child of a field
abbrev pub only_child : Field → Option Tree
only_child (one t) = Some t
only_child _ = None

-- the one child of the field at this place, counted from 0
abbrev pub child_at : ℕ → Fields → Option Tree
child_at n done = None
child_at zero (f then fs) = only_child f
child_at (suc n) (f then fs) = child_at n fs
