-- What trees weigh: the nodes of a tree, and what moving its patterns may add, in half nodes.
use Rattle.std.specs.Prelude.{◌+◌, ℕ}
use Rattle.es_tree.specs.Tree.{Tree, node, Fields, done, ◌then◌, Field, missing, one, many, statements, Trees, empty, ◌before◌}
use Rattle.es_tree.specs.declared.ast_type.AstType.{AstType}
use Rattle.es_tree.specs.declared.ast_type.AstType.TheVariants.{ArrowFunctionExpression, ForInStatement, ForOfStatement, FunctionDeclaration, FunctionExpression, ObjectPattern, ObjectTarget, RestElement, TargetRest}

-- A node weighs two, and seven where something is made for it once patterns move: five more for a pattern and for a rest, one of which stands in
-- each pattern that moves, as many for a function, which may get a body, and for a loop over the members of a value, which may get an assignment.
abbrev pub own_weight : AstType → ℕ
own_weight ObjectPattern = 7
own_weight RestElement = 7
own_weight ObjectTarget = 7
own_weight TargetRest = 7
own_weight ForInStatement = 7
own_weight ForOfStatement = 7
own_weight FunctionDeclaration = 7
own_weight FunctionExpression = 7
own_weight ArrowFunctionExpression = 7
own_weight _ = 2

abbrev mutual
  pub weighed : Tree → ℕ
  weighed (node k l fs) = own_weight k + weighed_in fs

  pub weighed_in : Fields → ℕ
  weighed_in done = 0
  weighed_in (f then fs) = weighed_by f + weighed_in fs

  pub weighed_by : Field → ℕ
  weighed_by missing = 0
  weighed_by (one t) = weighed t
  weighed_by (many ts) = weighed_among ts
  weighed_by (statements ts) = weighed_among ts

  pub weighed_among : Trees → ℕ
  weighed_among empty = 0
  weighed_among (t before ts) = weighed t + weighed_among ts
