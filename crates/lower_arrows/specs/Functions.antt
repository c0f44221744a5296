-- An arrow without a `this` of its own becomes a function (ECMA-262, 15.3): `(ps) => e` becomes `function (ps) { return e; }`.
use Rattle.std.specs.Prelude.{ℕ, Option, if◌then◌else◌}
use Rattle.es_tree.specs.Tree.{Tree, node, Fields, ◌then◌, Field, missing, one, empty, ◌before◌}
use Rattle.es_tree.specs.declared.ast_type.AstType.TheVariants.{FunctionExpression}
use Rattle.es_steps.specs.Nodes.{body_node, return_node}
use Rattle.es_tree.specs.Words.{Text}
use Rattle.es_resolution.specs.Seen.{seen_by}
use Rattle.es_steps.specs.Open.{is_statement_body}

-- a body of statements, which returns what is an expression
abbrev pub bodied : Tree → Tree
bodied t = if is_statement_body t then t else body_node (return_node t before empty)

abbrev pub bodied_by : Field → Field
bodied_by (one t) = one (bodied t)
bodied_by f = f

-- the second field is the body
abbrev pub bodied_in : Fields → Fields
bodied_in (f then (g then fs)) = f then (bodied_by g then fs)
bodied_in fs = fs

-- the function, which has no name
abbrev pub function_from : Tree → Tree
function_from (node k l fs) = node FunctionExpression l (missing then bodied_in fs)

-- the nodes that are made for it, each with an id
abbrev pub ids_for : Tree → ℕ
ids_for t = if is_statement_body t then 0 else 2

abbrev pub ids_by : Field → ℕ
ids_by (one t) = ids_for t
ids_by f = 0

abbrev pub ids_in : Fields → ℕ
ids_in (f then (g then fs)) = ids_by g
ids_in fs = 0

-- whatever scopes bind, this is so of a field as it is seen
abbrev pub SeenField : (Field → Field → Type 0) → Field → Field → Type 0
SeenField P f g = (names : ℕ → Text → Option ℕ) → P (seen_by names f) (seen_by names g)
