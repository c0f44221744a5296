-- What parts of a program become, each with the next number of a name: nodes, fields, parameters and their functions; and what is made.
use Rattle.std.specs.Prelude.{◌≡◌, ◌+◌, ◌++◌, List, [], ◌∷◌, None, Option, Some, codes, ℕ}
use Rattle.es_tree.specs.Names.{first_text}
use Rattle.es_tree.specs.Tree.{Tree, node, Label, Fields, done, ◌then◌, Field, missing, one, many, statements, Trees, empty, ◌before◌, label_of, trees}
use Rattle.es_tree.specs.Words.{Text}
use Rattle.es_tree.specs.declared.ast_type.AstType.{AstType}
use Rattle.es_tree.specs.declared.ast_type.AstType.TheVariants.{AssignmentExpression, AssignmentPattern, BlockStatement, ExpressionStatement, FunctionBody, ReturnStatement, VariableDeclaration, VariableDeclarator}
use Rattle.es_scope.specs.declared.uids.UidGenerator.{UidGenerator}
use Rattle.es_steps.specs.Nodes.{joined_trees, made}
use Rattle.es_pattern_moves.specs.Moved.{Makes, all_declared, all_named, assigns, block_of, count_arrow, count_function, count_here, count_rests, in_block, moved_arrow, moved_catch, moved_fields, moved_function, moved_head, moved_here, plain_name, with_declared}
use Rattle.lower_pattern_moves.specs.Moves.{MovesAs}

-- WHAT IS MADE, with this id

abbrev pub made_with : ℕ → List (Option Text) → Label
made_with id texts = record (made texts []) { id = id }

-- `kind p = v;`, or without the value
abbrev pub declaration_with : ℕ → Text → Tree → Field → Tree
declaration_with id kind p v = node VariableDeclaration (made_with id (Some kind ∷ [])) (many (node VariableDeclarator (made_with id []) (one p then v then done) before empty) then done)

-- `p = v;`
abbrev pub assignment_with : ℕ → Tree → Tree → Tree
assignment_with id p v = node ExpressionStatement (made_with id []) (one (node AssignmentExpression (made_with id (Some (codes "=") ∷ [])) (one p then one v then done)) then done)

-- `{ s b }`
abbrev pub block_with : ℕ → Tree → Tree → Tree
block_with id s b = node BlockStatement (record (made_with id []) { marks = None ∷ [] }) (statements (s before b before empty) then done)

-- `return e;`
abbrev pub return_with : ℕ → Tree → Tree
return_with id e = node ReturnStatement (made_with id []) (one e then done)

-- the body `{ ts }` of a function
abbrev pub body_with : ℕ → Trees → Tree
body_with id ts = node FunctionBody (record (made_with id []) { marks = None ∷ [] }) (many empty then statements ts then done)

-- `{ ds return e; }`
abbrev pub returning_with : ℕ → Trees → Tree → Tree
returning_with id ds e = body_with id (joined_trees ds (return_with id e before empty))

-- a parameter with this name in place of its pattern
abbrev pub named_by : Text → Tree → Tree
named_by x (node AssignmentPattern l (one p then fs)) = node AssignmentPattern l (one (plain_name x p) then fs)
named_by x p = plain_name x p

-- WHAT PARTS BECOME

-- a pattern: the name in its place, and the block `{ kind p = x; b }`
abbrev pub moved_into_block : Text → Tree → Makes → ℕ → Tree → ℕ × (Tree × Tree)
moved_into_block kind b m n p = (n + 1, (m.name n p, in_block m kind n p b))

-- a target: the name in its place, and the block `{ t = x; b }`
abbrev pub assigned_in_block : Tree → Makes → ℕ → Tree → ℕ × (Tree × Tree)
assigned_in_block b m n t = (n + 1, (m.name n t, block_of m t (assigns m n t) b))

-- parameters: those with names in place of patterns, and the declarations of these patterns
abbrev pub moved_parameters : Makes → ℕ → Trees → ℕ × (Trees × Trees)
moved_parameters m n ps = (n + count_rests ps, (all_named m n ps, all_declared m n ps))

-- and with the body of their function
abbrev pub moved_with_body : Tree → Makes → ℕ → Trees → ℕ × (Trees × Tree)
moved_with_body b m n ps = (n + count_rests ps, (all_named m n ps, with_declared m n ps b))

-- the fields of a catch clause, of a loop, of a function and of an arrow function
abbrev pub moved_catch_fields : Makes → ℕ → Fields → ℕ × Fields
moved_catch_fields m n fs = (n + 1, moved_catch m n fs)

abbrev pub moved_head_fields : Makes → ℕ → Fields → ℕ × Fields
moved_head_fields m n fs = (n + 1, moved_head m n fs)

abbrev pub moved_function_fields : Makes → ℕ → Fields → ℕ × Fields
moved_function_fields m n fs = (n + count_function fs, moved_function m n fs)

abbrev pub moved_arrow_fields : Makes → ℕ → Fields → ℕ × Fields
moved_arrow_fields m n fs = (n + count_arrow fs, moved_arrow m n fs)

-- the fields of a node of this kind
abbrev pub moved_fields_of : AstType → Makes → ℕ → Fields → ℕ × Fields
moved_fields_of k m n fs = (n + count_here k fs, moved_fields m n k fs)

-- a node, the parts of which were moved before
abbrev pub moved_node : Makes → ℕ → Tree → ℕ × Tree
moved_node m n (node k l fs) = moved_here m n k l fs

-- A DECLARATION THAT DECLARES A PATTERN ALONE, without a value

abbrev pub declared_alone : Label → Label → Tree → Tree
declared_alone l m p = node VariableDeclaration l (many (node VariableDeclarator m (one p then missing then done) before empty) then done)

pub record DeclaresAlone (t : Tree) : Type 0 where
  pub label : Label
  pub inner : Label
  pub pattern : Tree
  pub tree : t ≡ declared_alone label inner pattern

-- by this word, and this pattern
pub record DeclaresBy (t : Tree) (kind : Text) (p : Tree) : Type 0 where
  pub label : Label
  pub inner : Label
  pub tree : t ≡ declared_alone label inner p
  pub word : first_text label.texts ≡ kind

-- THE BODY OF A FUNCTION with these statements first: where it is an expression, its value is returned after them
abbrev pub with_first : Trees → Tree → Tree
with_first ds (node FunctionBody l (many ps then statements ts then done)) = node FunctionBody l (many ps then statements (joined_trees ds ts) then done)
with_first ds e = returning_with (label_of e).id ds e

-- A PARAMETER MORE: what is added to those with names, and to the declarations
pub record AddsParameter (old new : UidGenerator) (t : Tree) (named named' declared declared' : List Tree) : Type 0 where
  pub parameters : List Tree
  pub declarations : List Tree
  pub named_is : named' ≡ named ++ parameters
  pub declared_is : declared' ≡ declared ++ declarations
  pub moves : MovesAs moved_parameters old new (t before empty) (trees parameters, trees declarations)
