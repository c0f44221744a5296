-- Which object patterns with a rest, or with such a pattern in a property, move to a declaration of their own, in which their rests are taken: out
-- of a catch clause (ECMA-262, 14.15), out of the head of a loop (14.7.5), and out of the parameters of a function (10.2.11). A pattern with a rest
-- that the head of a loop assigns to moves to an assignment of its own.
use Rattle.std.specs.Prelude.{◌&&◌, ◌||◌, not, Bool, false, true, bytes_eq, codes, ℕ, zero, suc}
use Rattle.es_tree.specs.Names.{first_text, is_name_place}
use Rattle.es_tree.specs.RestTargets.{is_rest_target}
use Rattle.es_tree.specs.Tree.{Tree, node, Label, Fields, done, ◌then◌, Field, missing, one, many, statements, Trees, empty, ◌before◌, label_of}
use Rattle.es_tree.specs.Words.{Text}
use Rattle.es_tree.specs.declared.ast_type.AstType.{AstType}
use Rattle.es_tree.specs.declared.ast_type.AstType.TheVariants.{
  ArrowFunctionExpression,
  AssignmentPattern,
  CatchClause,
  ClassDeclaration,
  ForInStatement,
  ForOfStatement,
  FunctionBody,
  FunctionDeclaration,
  FunctionExpression,
  Identifier,
  ObjectTarget,
  RestElement,
  VariableDeclaration,
  VariableDeclarator,
}
use Rattle.es_resolution.specs.Declarations.{is_var_scope}
use Rattle.es_steps.specs.Nodes.{joined_trees}
use Rattle.es_rest_rows.specs.RestRows.{binds_name}
use Rattle.es_rest_shapes.specs.RestShapes.{any_tree, is_name, is_plain_pattern}

-- NAMES that stand in a tree: of its bindings and references (13.1, 8.2). Property names and labels are none.

abbrev pub own_stands : (Text → Bool) → Bool → AstType → Label → Bool
own_stands test true Identifier l = test (first_text l.texts)
own_stands test _ k l = false

-- whether one stands there that passes a test; an identifier that is the tree itself counts or not
abbrev mutual
  pub stands_if : (Text → Bool) → Bool → Tree → Bool
  stands_if test counts (node k l fs) = own_stands test counts k l || stands_in_fields test (is_name_place k l) fs

  pub stands_in_fields : (Text → Bool) → (ℕ → Bool) → Fields → Bool
  stands_in_fields test counts done = false
  stands_in_fields test counts (f then fs) = stands_in_field test (counts zero) f || stands_in_fields test (λ i. counts (suc i)) fs

  pub stands_in_field : (Text → Bool) → Bool → Field → Bool
  stands_in_field test counts missing = false
  stands_in_field test counts (one t) = stands_if test counts t
  stands_in_field test counts (many ts) = stands_among test ts
  stands_in_field test counts (statements ts) = stands_among test ts

  pub stands_among : (Text → Bool) → Trees → Bool
  stands_among test empty = false
  stands_among test (t before ts) = stands_if test true t || stands_among test ts

abbrev pub stands : (Text → Bool) → Tree → Bool
stands test t = stands_if test true t

-- whether a name of the pattern p stands there
abbrev pub meets : Tree → Tree → Bool
meets p t = stands (λ x. binds_name x p) t

abbrev pub meets_among : Tree → Trees → Bool
meets_among p ts = stands_among (λ x. binds_name x p) ts

-- `let` is no name of a `let` declaration (14.3.1.1)
abbrev pub binds_let : Tree → Bool
binds_let p = binds_name (codes "let") p

-- CATCH CLAUSES: `catch ({ a, ...b }) { }`

abbrev pub moves_from_catch : Fields → Bool
moves_from_catch (one p then one b then done) = is_plain_pattern p && not (binds_let p)
moves_from_catch _ = false

-- HEADS OF LOOPS: `for (const { a, ...b } of e)`, where none of the names is asked on the right side, which would ask it before it is set, and
-- `for ({ a, ...b } of e)`, which declares none

abbrev pub is_var : Label → Bool
is_var l = bytes_eq (first_text l.texts) (codes "var")

abbrev pub moves_from_head : Fields → Bool
moves_from_head (one (node VariableDeclaration l (many (node VariableDeclarator m (one p then missing then done) before empty) then done)) then one e then one b then done) = is_plain_pattern p && (is_var l || not (meets p e))
moves_from_head (one (node ObjectTarget l gs) then one e then one b then done) = is_rest_target (one (node ObjectTarget l gs))
moves_from_head _ = false

-- WHAT A BODY DECLARES (8.2.4 to 8.2.7): its own declarations, and what stands in it outside functions and static blocks and is declared by
-- `var`, or as a function, which in a block is declared as by `var`, too (B.3.2.1)

abbrev pub declarator_declares : Text → Tree → Bool
declarator_declares x (node VariableDeclarator l (one p then fs)) = binds_name x p
declarator_declares x _ = false

abbrev pub is_called : Text → Tree → Bool
is_called x t = bytes_eq (first_text (label_of t).texts) x

abbrev pub top_declares : Text → Tree → Bool
top_declares x (node VariableDeclaration l (many ds then fs)) = any_tree (declarator_declares x) ds
top_declares x (node FunctionDeclaration l (one t then fs)) = is_called x t
top_declares x (node ClassDeclaration l (one t then fs)) = is_called x t
top_declares x _ = false

abbrev pub var_here : Text → AstType → Label → Fields → Bool
var_here x VariableDeclaration l (many ds then fs) = is_var l && any_tree (declarator_declares x) ds
var_here x FunctionDeclaration l (one t then fs) = is_called x t
var_here x _ l fs = false

abbrev mutual
  pub var_declares : Text → Tree → Bool
  var_declares x (node k l fs) = not (is_var_scope k) && (var_here x k l fs || var_in_fields x fs)

  pub var_in_fields : Text → Fields → Bool
  var_in_fields x done = false
  var_in_fields x (f then fs) = var_in_field x f || var_in_fields x fs

  pub var_in_field : Text → Field → Bool
  var_in_field x missing = false
  var_in_field x (one t) = var_declares x t
  var_in_field x (many ts) = var_among x ts
  var_in_field x (statements ts) = var_among x ts

  pub var_among : Text → Trees → Bool
  var_among x empty = false
  var_among x (t before ts) = var_declares x t || var_among x ts

abbrev pub body_declares : Trees → Text → Bool
body_declares ts x = any_tree (top_declares x) ts || var_among x ts

-- PARAMETERS: `function f({ a, ...b } = c) { }`

-- a parameter that is such a pattern, alone or with a default value
abbrev pub is_rest_parameter : Tree → Bool
is_rest_parameter (node AssignmentPattern l (one p then one d then done)) = is_plain_pattern p
is_rest_parameter t = is_plain_pattern t

abbrev pub pattern_of : Tree → Tree
pattern_of (node AssignmentPattern l (one p then fs)) = p
pattern_of t = t

-- the default value holds none of the pattern's names
abbrev pub default_apart : Tree → Bool
default_apart (node AssignmentPattern l (one p then one d then done)) = not (meets p d)
default_apart t = true

-- A parameter that may be bound before the pattern is: nothing is evaluated for it, or it moves, too.
abbrev pub is_later : Tree → Bool
is_later (node RestElement l (one t then done)) = is_name t
is_later t = is_name t || is_plain_pattern t

abbrev pub are_later : Trees → Bool
are_later empty = true
are_later (t before ts) = is_later t && are_later ts

-- what is bound after it, by the parameters c and in a body of these statements
abbrev pub declared_later : Trees → Trees → Text → Bool
declared_later c ts x = any_tree (binds_name x) c || body_declares ts x

-- Whether this parameter moves, where a stands before it and c after it, and ts in the body: no other parameter holds a name that it binds,
-- and it holds none that is bound after it.
abbrev pub may_move : Trees → Tree → Trees → Trees → Bool
may_move a t c ts = are_later c && not (meets_among (pattern_of t) a) && not (meets_among (pattern_of t) c) && default_apart t && not (binds_let (pattern_of t)) && not (stands (declared_later c ts) (pattern_of t))

-- each such parameter does
abbrev pub all_may_move : Trees → Trees → Trees → Bool
all_may_move a empty ts = true
all_may_move a (t before c) ts = (not (is_rest_parameter t) || may_move a t c ts) && all_may_move (joined_trees a (t before empty)) c ts

-- all of them move into a body of these statements, or none
abbrev pub all_move : Trees → Trees → Bool
all_move ps ts = any_tree is_rest_parameter ps && all_may_move empty ps ts

-- a body that is an expression, as an arrow function may have it
abbrev pub is_value : Tree → Bool
is_value (node FunctionBody l fs) = false
is_value _ = true

-- into this body of a function with these parameters
abbrev pub moves_with_body : Trees → Tree → Bool
moves_with_body ps (node FunctionBody l (many ds then statements ts then done)) = all_move ps ts
moves_with_body ps e = is_value e && all_move ps (e before empty)

abbrev pub moves_from_function : Fields → Bool
moves_from_function (f then many ps then one b then done) = moves_with_body ps b
moves_from_function _ = false

abbrev pub moves_from_arrow : Fields → Bool
moves_from_arrow (many ps then one b then done) = moves_with_body ps b
moves_from_arrow _ = false

-- THE NODES out of which a pattern moves
abbrev pub moves_pattern : AstType → Label → Fields → Bool
moves_pattern CatchClause l fs = moves_from_catch fs
moves_pattern ForInStatement l fs = moves_from_head fs
moves_pattern ForOfStatement l fs = moves_from_head fs
moves_pattern FunctionDeclaration l fs = moves_from_function fs
moves_pattern FunctionExpression l fs = moves_from_function fs
moves_pattern ArrowFunctionExpression l fs = moves_from_arrow fs
moves_pattern _ l fs = false
