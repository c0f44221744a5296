-- What stands at a place of a node.
use Rattle.std.specs.Prelude.{Option, Some, None}
use Rattle.std.specs.Borrow.{Bor}
use Rattle.es_tree.specs.Tree.{Field, missing, many, Trees, empty}
use Rattle.es_tree.specs.Views.{plain_field}
use Rattle.es_tree.specs.declared.node.Field.{Field as NodeField}

abbrev pub maybe_field : Option (Bor NodeField) → Field
maybe_field None = missing
maybe_field (Some f) = plain_field f.now

-- the nodes of a list, none of what is no list
abbrev pub nodes_in : Field → Trees
nodes_in (many ts) = ts
nodes_in _ = empty
