-- The arity of each kind of node.
use Rattle.std.specs.Prelude.{[], ◌∷◌}
use Rattle.es_tree.specs.Tree.{Tree}
use Rattle.es_tree.specs.declared.ast_type.AstType.TheVariants.{
  FunctionDeclaration,
  FunctionBody,
  ClassDeclaration,
  MethodDefinition,
  PropertyDefinition,
  StaticBlock,
}
use Rattle.es_tree.specs.Arity.{Opens, required, optional, list, statement_list}

abbrev pub IsFunctionDeclaration : Tree → Type 0
IsFunctionDeclaration = Opens FunctionDeclaration (optional ∷ list ∷ required ∷ [])

abbrev pub IsFunctionBody : Tree → Type 0
IsFunctionBody = Opens FunctionBody (list ∷ statement_list ∷ [])

abbrev pub IsClassDeclaration : Tree → Type 0
IsClassDeclaration = Opens ClassDeclaration (optional ∷ optional ∷ list ∷ [])

abbrev pub IsMethodDefinition : Tree → Type 0
IsMethodDefinition = Opens MethodDefinition (required ∷ required ∷ [])

abbrev pub IsPropertyDefinition : Tree → Type 0
IsPropertyDefinition = Opens PropertyDefinition (required ∷ optional ∷ [])

abbrev pub IsStaticBlock : Tree → Type 0
IsStaticBlock = Opens StaticBlock (statement_list ∷ [])
