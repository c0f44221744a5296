-- The identifiers that a binding pattern binds, in source order (ECMA-262, 8.2.1). Property keys and default
-- values bind nothing.
use Rattle.std.specs.Prelude.{List, [], ◌∷◌, ◌++◌}
use Rattle.es_tree.specs.Tree.{Tree, node, Fields, done, ◌then◌, Field, missing, one, many, statements, Trees, empty, ◌before◌}
use Rattle.es_tree.specs.declared.ast_type.AstType.TheVariants.{
  Identifier,
  ObjectPattern,
  PatternProperty,
  ArrayPattern,
  AssignmentPattern,
  RestElement,
}

abbrev mutual
  pub bound_identifiers : Tree → List Tree
  bound_identifiers (node Identifier l fs) = node Identifier l fs ∷ []
  bound_identifiers (node ObjectPattern l fs) = bound_in_first fs
  bound_identifiers (node PatternProperty l fs) = bound_in_second fs
  bound_identifiers (node ArrayPattern l fs) = bound_in_fields fs
  bound_identifiers (node AssignmentPattern l fs) = bound_in_first fs
  bound_identifiers (node RestElement l fs) = bound_in_first fs
  bound_identifiers _ = []

  pub bound_in_fields : Fields → List Tree
  bound_in_fields done = []
  bound_in_fields (f then fs) = bound_in_field f ++ bound_in_fields fs

  pub bound_in_first : Fields → List Tree
  bound_in_first done = []
  bound_in_first (f then fs) = bound_in_field f

  pub bound_in_second : Fields → List Tree
  bound_in_second done = []
  bound_in_second (f then fs) = bound_in_first fs

  pub bound_in_field : Field → List Tree
  bound_in_field missing = []
  bound_in_field (one t) = bound_identifiers t
  bound_in_field (many ts) = bound_in_trees ts
  bound_in_field (statements ts) = bound_in_trees ts

  pub bound_in_trees : Trees → List Tree
  bound_in_trees empty = []
  bound_in_trees (t before ts) = bound_identifiers t ++ bound_in_trees ts
