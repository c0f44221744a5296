-- What a node taken apart is seen as.
use Rattle.std.specs.Prelude.{map}
use Rattle.es_tree.specs.Tree.{Tree, fields}
use Rattle.es_tree.specs.Views.{plain, plain_field}
use Rattle.es_tree.specs.declared.node.Parts.{Parts}

abbrev pub plain_parts : Parts → Tree
plain_parts a = plain a.id a.span a.kind (fields (map plain_field a.fields.items))
