-- What a node is seen as.
use Rattle.std.specs.Prelude.{List, map}
use Rattle.es_tree.specs.Tree.{Tree, node, Fields, fields, Field, missing, one, many, statements, trees}
use Rattle.es_tree.specs.Heads.{head_of, label}
use Rattle.es_tree.specs.declared.ids.NodeId.{NodeId}
use Rattle.es_tree.specs.declared.ids.Span.{Span}
use Rattle.es_tree.specs.declared.kind.Kind.{Kind as NodeKind}
use Rattle.es_tree.specs.declared.node.Field.{Field as NodeField}
use Rattle.es_tree.specs.declared.node.Field.TheVariants.{Missing, One, Many, Statements}
use Rattle.es_tree.specs.declared.node.Node.TheInside.{Inside}

abbrev pub plain_field : NodeField → Field
plain_field Missing = missing
plain_field (One t) = one t
plain_field (Many ts) = many (trees ts.items)
plain_field (Statements ts) = statements (trees ts.items)

-- the fields of a node
abbrev pub plain_fields : List NodeField → Fields
plain_fields fs = fields (map plain_field fs)

-- A node of this id, span, kind and fields.
abbrev pub plain : NodeId → Span → NodeKind → Fields → Tree
plain id span kind fs = node (head_of kind).kind (label id span (head_of kind)) fs

abbrev pub view_node : Inside → Tree
view_node a = plain a.id a.span a.kind (plain_fields a.fields.items)
