-- The node of a name that is made, with this id: it has no place in the source, and no marks of a scope table.
use Rattle.std.specs.Prelude.{[], ◌∷◌, None, Some, ℕ}
use Rattle.es_tree.specs.Tree.{Tree, node, done}
use Rattle.es_tree.specs.Words.{Text}
use Rattle.es_tree.specs.declared.ast_type.AstType.TheVariants.{Identifier}
use Rattle.es_steps.specs.Nodes.{made}

abbrev pub name_with : ℕ → Text → Tree
name_with id x = node Identifier (record (made (Some x ∷ []) []) { id = id; marks = None ∷ None ∷ [] }) done
