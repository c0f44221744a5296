-- The arity of each kind of node.
use Rattle.std.specs.Prelude.{[], ◌∷◌}
use Rattle.es_tree.specs.Tree.{Tree}
use Rattle.es_tree.specs.declared.ast_type.AstType.TheVariants.{
  MemberExpression,
  CallExpression,
  NewExpression,
  ChainExpression,
  MetaProperty,
  TaggedTemplateExpression,
}
use Rattle.es_tree.specs.Arity.{Opens, required, list}

abbrev pub IsMemberExpression : Tree → Type 0
IsMemberExpression = Opens MemberExpression (required ∷ required ∷ [])

abbrev pub IsCallExpression : Tree → Type 0
IsCallExpression = Opens CallExpression (required ∷ list ∷ [])

abbrev pub IsNewExpression : Tree → Type 0
IsNewExpression = Opens NewExpression (required ∷ list ∷ [])

abbrev pub IsChainExpression : Tree → Type 0
IsChainExpression = Opens ChainExpression (required ∷ [])

abbrev pub IsMetaProperty : Tree → Type 0
IsMetaProperty = Opens MetaProperty ([])

abbrev pub IsTaggedTemplateExpression : Tree → Type 0
IsTaggedTemplateExpression = Opens TaggedTemplateExpression (required ∷ required ∷ [])
