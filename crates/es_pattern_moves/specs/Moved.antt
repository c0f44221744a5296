-- A program whose patterns were moved: of each node after its parts, in node order, with one fresh name after the other. What is made has the id
-- of its pattern, or of the value that it returns.
use Rattle.std.specs.Prelude.{◌≡◌, ◌+◌, Bool, List, [], ◌∷◌, Option, Some, None, codes, length, if◌then◌else◌, ℕ, zero, suc}
use Rattle.es_tree.specs.Fresh.{IsFreshName, also}
use Rattle.es_tree.specs.Names.{first_text}
use Rattle.es_tree.specs.Tree.{Tree, node, Label, Fields, done, ◌then◌, Field, missing, one, many, statements, Trees, empty, ◌before◌, label_of}
use Rattle.es_tree.specs.Words.{Text}
use Rattle.es_tree.specs.declared.ast_type.AstType.{AstType}
use Rattle.es_tree.specs.declared.ast_type.AstType.TheVariants.{
  ArrowFunctionExpression,
  AssignmentExpression,
  AssignmentPattern,
  BlockStatement,
  CatchClause,
  ExpressionStatement,
  ForInStatement,
  ForOfStatement,
  FunctionBody,
  FunctionDeclaration,
  FunctionExpression,
  Identifier,
  ObjectTarget,
  ReturnStatement,
  VariableDeclaration,
  VariableDeclarator,
}
use Rattle.es_steps.specs.Nodes.{identifier, joined_trees, made}
use Rattle.es_pattern_moves.specs.PatternMoves.{is_rest_parameter, moves_pattern, pattern_of}

-- WHAT IS MADE, each for a pattern or for a value that is returned: the name of this number, the label with these texts of a declaration, a
-- declarator or a `return`, and that of a block or a body
pub record Makes : Type 0 where
  pub name : ℕ → Tree → Tree
  pub label : Tree → List (Option Text) → Label
  pub block : Tree → Label

abbrev pub made_for : Tree → List (Option Text) → Label
made_for p texts = record (made texts []) { id = (label_of p).id }

-- `kind p = x;`
abbrev pub declares : Makes → Text → ℕ → Tree → Tree
declares m kind n p = node VariableDeclaration (m.label p (Some kind ∷ [])) (many (node VariableDeclarator (m.label p []) (one p then one (m.name n p) then done) before empty) then done)

-- `p = x;`
abbrev pub assigns : Makes → ℕ → Tree → Tree
assigns m n p = node ExpressionStatement (m.label p []) (one (node AssignmentExpression (m.label p (Some (codes "=") ∷ [])) (one p then one (m.name n p) then done)) then done)

-- `{ s b }`, for the pattern p
abbrev pub block_of : Makes → Tree → Tree → Tree → Tree
block_of m p s b = node BlockStatement (m.block p) (statements (s before b before empty) then done)

-- `{ kind p = x; b }`
abbrev pub in_block : Makes → Text → ℕ → Tree → Tree → Tree
in_block m kind n p b = block_of m p (declares m kind n p) b

-- CATCH CLAUSES

abbrev pub moved_catch : Makes → ℕ → Fields → Fields
moved_catch m n (one p then one b then done) = one (m.name n p) then one (in_block m (codes "let") n p b) then done
moved_catch m n fs = fs

-- HEADS OF LOOPS

-- `kind x`, for the pattern p
abbrev pub names_alone : Makes → Text → ℕ → Tree → Tree
names_alone m kind n p = node VariableDeclaration (m.label p (Some kind ∷ [])) (many (node VariableDeclarator (m.label p []) (one (m.name n p) then missing then done) before empty) then done)

abbrev pub moved_head : Makes → ℕ → Fields → Fields
moved_head m n (one (node VariableDeclaration l (many (node VariableDeclarator l' (one p then missing then done) before empty) then done)) then one e then one b then done) =
    one (names_alone m (first_text l.texts) n p) then one e then one (in_block m (first_text l.texts) n p b) then done
moved_head m n (one (node ObjectTarget l gs) then one e then one b then done) =
    one (names_alone m (codes "var") n (node ObjectTarget l gs)) then one e then one (block_of m (node ObjectTarget l gs) (assigns m n (node ObjectTarget l gs)) b) then done
moved_head m n fs = fs

-- PARAMETERS

-- the name in the place of the pattern
abbrev pub named : Makes → ℕ → Tree → Tree
named m n (node AssignmentPattern l (one p then fs)) = node AssignmentPattern l (one (m.name n p) then fs)
named m n p = m.name n p

abbrev pub all_named : Makes → ℕ → Trees → Trees
all_named m n empty = empty
all_named m n (t before ts) = if is_rest_parameter t then named m n t before all_named m (suc n) ts else t before all_named m n ts

-- the declarations of these patterns
abbrev pub all_declared : Makes → ℕ → Trees → Trees
all_declared m n empty = empty
all_declared m n (t before ts) = if is_rest_parameter t then declares m (codes "let") n (pattern_of t) before all_declared m (suc n) ts else all_declared m n ts

-- how many there are
abbrev pub count_rests : Trees → ℕ
count_rests empty = 0
count_rests (t before ts) = if is_rest_parameter t then suc (count_rests ts) else count_rests ts

-- `{ ds return e; }`
abbrev pub returning : Makes → Trees → Tree → Tree
returning m ds e = node FunctionBody (m.block e) (many empty then statements (joined_trees ds (node ReturnStatement (m.label e []) (one e then done) before empty)) then done)

-- the body with the declarations of these patterns first
abbrev pub with_declared : Makes → ℕ → Trees → Tree → Tree
with_declared m n ps (node FunctionBody l (many ds then statements ts then done)) = node FunctionBody l (many ds then statements (joined_trees (all_declared m n ps) ts) then done)
with_declared m n ps e = returning m (all_declared m n ps) e

abbrev pub moved_function : Makes → ℕ → Fields → Fields
moved_function m n (f then many ps then one b then done) = f then many (all_named m n ps) then one (with_declared m n ps b) then done
moved_function m n fs = fs

abbrev pub moved_arrow : Makes → ℕ → Fields → Fields
moved_arrow m n (many ps then one b then done) = many (all_named m n ps) then one (with_declared m n ps b) then done
moved_arrow m n fs = fs

-- NODES

-- the fields of a node of this kind out of which patterns move
abbrev pub moved_fields : Makes → ℕ → AstType → Fields → Fields
moved_fields m n CatchClause fs = moved_catch m n fs
moved_fields m n ForInStatement fs = moved_head m n fs
moved_fields m n ForOfStatement fs = moved_head m n fs
moved_fields m n FunctionDeclaration fs = moved_function m n fs
moved_fields m n FunctionExpression fs = moved_function m n fs
moved_fields m n ArrowFunctionExpression fs = moved_arrow m n fs
moved_fields m n k fs = fs

-- and how many
abbrev pub count_function : Fields → ℕ
count_function (f then many ps then fs) = count_rests ps
count_function fs = 0

abbrev pub count_arrow : Fields → ℕ
count_arrow (many ps then fs) = count_rests ps
count_arrow fs = 0

abbrev pub count_here : AstType → Fields → ℕ
count_here FunctionDeclaration fs = count_function fs
count_here FunctionExpression fs = count_function fs
count_here ArrowFunctionExpression fs = count_arrow fs
count_here k fs = 1

-- the next number, and the node
abbrev pub moved_here : Makes → ℕ → AstType → Label → Fields → ℕ × Tree
moved_here m n k l fs = if moves_pattern k l fs then (n + count_here k fs, node k l (moved_fields m n k fs)) else (n, node k l fs)

-- A TREE, where names of this number and those after it are to be had: the next number, and what it becomes
abbrev mutual
  pub moved : Makes → ℕ → Tree → ℕ × Tree
  moved m n (node k l fs) = moved_here m (moved_in m n fs).0 k l (moved_in m n fs).1

  pub moved_in : Makes → ℕ → Fields → ℕ × Fields
  moved_in m n done = (n, done)
  moved_in m n (f then fs) = ((moved_in m (moved_by m n f).0 fs).0, (moved_by m n f).1 then (moved_in m (moved_by m n f).0 fs).1)

  pub moved_by : Makes → ℕ → Field → ℕ × Field
  moved_by m n missing = (n, missing)
  moved_by m n (one t) = ((moved m n t).0, one (moved m n t).1)
  moved_by m n (many ts) = ((moved_among m n ts).0, many (moved_among m n ts).1)
  moved_by m n (statements ts) = ((moved_among m n ts).0, statements (moved_among m n ts).1)

  pub moved_among : Makes → ℕ → Trees → ℕ × Trees
  moved_among m n empty = (n, empty)
  moved_among m n (t before ts) = ((moved_among m (moved m n t).0 ts).0, (moved m n t).1 before (moved_among m (moved m n t).0 ts).1)

-- A PROGRAM AS IT IS READ, where these are the names

-- the name of this number
abbrev pub name_of : List Text → ℕ → Text
name_of [] n = []
name_of (x ∷ xs) zero = x
name_of (x ∷ xs) (suc n) = name_of xs n

abbrev pub plain_name : Text → Tree → Tree
plain_name x p = node Identifier (record (made_for p (Some x ∷ [])) { marks = None ∷ None ∷ [] }) done

abbrev pub plainly : List Text → Makes
plainly names = record { name = λ n p. plain_name (name_of names n) p; label = λ p texts. made_for p texts; block = λ p. record (made_for p []) { marks = None ∷ [] } }

-- AND WITH ITS SYMBOLS: a name has the symbol after that of the name before
abbrev pub with_symbols : List Text → ℕ → Makes
with_symbols names first = record { name = λ n p. identifier (record { name = name_of names n; symbol = Some (first + n) }); label = λ p texts. made texts []; block = λ p. made [] [] }

-- FRESH NAMES: each is the first of the base `ref` that isn't in use, and in use after it
abbrev pub AreFresh : (Text → Bool) → List Text → Type 0
AreFresh in_use [] = Unit {0}
AreFresh in_use (x ∷ xs) = IsFreshName in_use (codes "ref") x × AreFresh (also x in_use) xs

-- What a program p becomes by moving, with these fresh names, where these names are in use.
pub record MovesTo (in_use : Text → Bool) (p q : Tree) (names : List Text) : Type 0 where
  pub fresh : AreFresh in_use names
  pub count : (moved (plainly names) 0 p).0 ≡ length names
  pub tree : q ≡ (moved (plainly names) 0 p).1
