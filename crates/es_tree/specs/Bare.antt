-- A tree without its ids and the marks of the tables of scopes: what a reader of the written program sees.
use Rattle.std.specs.Prelude.{[]}
use Rattle.es_tree.specs.Tree.{Tree, node, Label, Fields, done, ◌then◌, Field, missing, one, many, statements, Trees, empty, ◌before◌}

abbrev pub bare_label : Label → Label
bare_label l = record l { id = 0; marks = [] }

abbrev mutual
  pub bare : Tree → Tree
  bare (node k l fs) = node k (bare_label l) (bare_fields fs)

  pub bare_fields : Fields → Fields
  bare_fields done = done
  bare_fields (f then fs) = bare_field f then bare_fields fs

  pub bare_field : Field → Field
  bare_field missing = missing
  bare_field (one t) = one (bare t)
  bare_field (many ts) = many (bare_trees ts)
  bare_field (statements ts) = statements (bare_trees ts)

  pub bare_trees : Trees → Trees
  bare_trees empty = empty
  bare_trees (t before ts) = bare t before bare_trees ts
