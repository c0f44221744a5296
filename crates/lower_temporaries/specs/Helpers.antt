-- Calls of helpers, as they are seen.
use Rattle.std.specs.Prelude.{ℕ, Bool, true, false, List, [], ◌∷◌, codes, if◌then◌else◌, map}
use Rattle.es_tree.specs.Tree.{Tree, node, Fields, fields, one}
use Rattle.es_tree.specs.declared.ast_type.AstType.TheVariants.{ArrayExpression}
use Rattle.es_steps.specs.Nodes.{call_node, made, member_node}
use Rattle.es_steps.specs.ObjectRest.{helper_node}

-- `babelHelpers.objectWithoutProperties`
abbrev pub rest_helper : Tree
rest_helper = helper_node (codes "objectWithoutProperties")

abbrev pub elements : List Tree → Fields
elements ks = fields (map one ks)

-- the keys that a rest leaves out, as an argument of the helper: an array of them, which is mapped where one is read
abbrev pub keys_value : Bool → Fields → Tree
keys_value true ks = call_node (member_node (node ArrayExpression (made [] []) ks) (codes "map")) (helper_node (codes "toPropertyKey") ∷ [])
keys_value false ks = node ArrayExpression (made [] []) ks

-- six ids for the keys of a pattern together, where one is read
abbrev pub mapped_ids : Bool → ℕ
mapped_ids read = if read then 6 else 0
