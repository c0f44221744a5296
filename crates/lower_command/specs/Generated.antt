-- The script that is made where a number of statements is asked for: statements of four forms in turn, each with
-- something that is to be lowered. Its nodes are numbered in node order and have no marks.
use Rattle.std.specs.Prelude.{ℕ, zero, suc, ◌+◌, ◌*◌, ◌/◌, ◌%◌, List, [], ◌∷◌, ◌++◌, map, Bool, true, false, Option, Some, codes}
use Rattle.std.specs.Fmt.{decimal}
use Rattle.std.specs.List.{range_with_len}
use Rattle.es_tree.specs.Attributes.{no_marks}
use Rattle.es_tree.specs.Tree.{Tree, node, Fields, done, ◌then◌, one, many, statements, empty, trees}
use Rattle.es_tree.specs.Words.{Text}
use Rattle.es_tree.specs.declared.ast_type.AstType.{AstType}
use Rattle.es_tree.specs.declared.ast_type.AstType.TheVariants.{
  Program,
  ExpressionStatement,
  Identifier,
  LogicalExpression,
  AssignmentExpression,
  MemberExpression,
  ChainExpression,
}

-- NODES

abbrev pub node_at : ℕ → AstType → List (Option Text) → List Bool → Fields → Tree
node_at id k texts flags fs = node k (record { id = id; start = 0; stop = 0; texts = texts; flags = flags; marks = no_marks k }) fs

abbrev pub name_node : ℕ → Text → Tree
name_node id name = node_at id Identifier (Some name ∷ []) [] done

-- `object.property`, or `object?.property`
abbrev pub member_node : ℕ → Bool → Tree → Tree → Tree
member_node id optional object property = node_at id MemberExpression [] (false ∷ optional ∷ []) (one object then one property then done)

abbrev pub assignment_node : ℕ → Text → Tree → Tree → Tree
assignment_node id operator left right = node_at id AssignmentExpression (Some operator ∷ []) [] (one left then one right then done)

abbrev pub coalescing_node : ℕ → Tree → Tree → Tree
coalescing_node id left right = node_at id LogicalExpression (Some (codes "??") ∷ []) [] (one left then one right then done)

abbrev pub chain_node : ℕ → Tree → Tree
chain_node id expression = node_at id ChainExpression [] [] (one expression then done)

abbrev pub statement_node : ℕ → Tree → Tree
statement_node id expression = node_at id ExpressionStatement [] [] (one expression then done)

-- STATEMENTS, each from its number and the id at which it starts

abbrev pub value_name : ℕ → Text
value_name i = codes "v" ++ decimal i

abbrev pub object_name : ℕ → Text
object_name i = codes "o" ++ decimal i ++ codes "x"

-- a member of the object of this number
abbrev pub object_member : ℕ → ℕ → Bool → Text → Tree
object_member i id optional property = member_node id optional (name_node (id + 1) (object_name i)) (name_node (id + 2) property)

-- `vI = oIx.p ?? d;`
abbrev pub coalescing : ℕ → ℕ → Tree
coalescing i id =
    statement_node id
    (assignment_node (id + 1) (codes "=") (name_node (id + 2) (value_name i))
    (coalescing_node (id + 3) (object_member i (id + 4) false (codes "p")) (name_node (id + 7) (codes "d"))))

-- `oIx?.q?.r;`
abbrev pub chaining : ℕ → ℕ → Tree
chaining i id =
    statement_node id
    (chain_node (id + 1)
    (member_node (id + 2) true (object_member i (id + 3) true (codes "q")) (name_node (id + 6) (codes "r"))))

-- `oIx.property operator d;`
abbrev pub assigning : Text → Text → ℕ → ℕ → Tree
assigning property operator i id =
    statement_node id
    (assignment_node (id + 1) operator (object_member i (id + 2) false property) (name_node (id + 5) (codes "d")))

-- the form by the remainder of the number by four
abbrev pub statement_for : ℕ → ℕ → ℕ → Tree
statement_for zero = coalescing
statement_for (suc zero) = chaining
statement_for (suc (suc zero)) = assigning (codes "s") (codes "||=")
statement_for (suc (suc (suc r))) = assigning (codes "t") (codes "**=")

-- THE PROGRAM

-- how many nodes the first so many of four statements in a row have
abbrev pub nodes_of_first : ℕ → ℕ
nodes_of_first zero = 0
nodes_of_first (suc zero) = 8
nodes_of_first (suc (suc zero)) = 15
nodes_of_first (suc (suc (suc r))) = 21

-- the id at which the statement of this number starts: the program has id 0, and four statements have 27 nodes
abbrev pub start_of : ℕ → ℕ
start_of i = 1 + 27 * (i / 4) + nodes_of_first (i % 4)

abbrev pub generated_statement : ℕ → Tree
generated_statement i = statement_for (i % 4) i (start_of i)

-- the script of the statements from number 0 on, so many
abbrev pub generated : ℕ → Tree
generated n =
    node_at 0 Program (Some (codes "script") ∷ []) []
    (many empty then statements (trees (map generated_statement (range_with_len 0 n))) then done)
