-- A program whose `using` is lowered: at each node after its parts, in node order, with one fresh name after the other. What is made for a value
-- has the id of the value, and all else that of the node at which it is made.
use Rattle.std.specs.Prelude.{◌≡◌, ◌+◌, ◌*◌, Bool, false, List, [], ◌∷◌, Option, Some, None, codes, length, if◌then◌else◌, ℕ, zero, suc}
use Rattle.es_tree.specs.Fresh.{IsFreshName, also, text_base}
use Rattle.es_tree.specs.Tree.{Tree, node, Label, Fields, done, ◌then◌, Field, missing, one, many, statements, Trees, empty, ◌before◌, label_of}
use Rattle.es_tree.specs.Words.{Text}
use Rattle.es_tree.specs.declared.ast_type.AstType.{AstType}
use Rattle.es_tree.specs.declared.ast_type.AstType.TheVariants.{ArrowFunctionExpression, AssignmentExpression, BlockStatement, CallExpression, CatchClause, ExpressionStatement, ForStatement, FunctionBody, FunctionDeclaration, FunctionExpression, LabeledStatement, MemberExpression, StaticBlock, SwitchCase, SwitchStatement, TryStatement, VariableDeclaration, VariableDeclarator}
use Rattle.es_resolution.specs.Declarations.{Bound}
use Rattle.es_steps.specs.Nodes.{identifier, made, word}
use Rattle.es_steps.specs.UsingBlocks.{error_name, is_using_node}
use Rattle.es_pattern_moves.specs.Moved.{name_of, plain_name}
use Rattle.es_using_rows.specs.UsingPlaces.{is_part, standing_in, uses_here}
use Rattle.es_using_rows.specs.declared.standing.Standing.{Standing}
use Rattle.es_using_rows.specs.declared.standing.Standing.TheVariants.{Anywhere}

-- WHAT IS MADE for a node: the context of this number and the parameter of the `catch` that comes with it, a name that refers to nothing, the label
-- with these texts and flags, and that of a block or a `catch`
pub record Makes : Type 0 where
  pub context : ℕ → Tree → Tree
  pub error : ℕ → Tree → Tree
  pub word : Text → Tree → Tree
  pub label : Tree → List (Option Text) → List Bool → Label
  pub scope : Tree → Label

-- `o.p`, `f(args)` and `c.p(args)`
abbrev pub member : Makes → Tree → Tree → Text → Tree
member m h o p = node MemberExpression (m.label h [] (false ∷ false ∷ [])) (one o then one (m.word p h) then done)

abbrev pub call : Makes → Tree → Tree → Trees → Tree
call m h f args = node CallExpression (m.label h [] (false ∷ [])) (one f then many args then done)

abbrev pub method : Makes → ℕ → Tree → Text → Trees → Tree
method m n h p args = call m h (member m h (m.context n h) p) args

abbrev pub statement : Makes → Tree → Tree → Tree
statement m h e = node ExpressionStatement (m.label h [] []) (one e then done)

abbrev pub block : Makes → Tree → Trees → Tree
block m h ts = node BlockStatement (m.scope h) (statements ts then done)

-- CONSTANTS: `using a = b;` becomes `const a = c.u(b);`

abbrev pub used_declarator : Makes → ℕ → Tree → Tree
used_declarator m n (node VariableDeclarator l (one x then one e then done)) = node VariableDeclarator l (one x then one (method m n e (codes "u") (e before empty)) then done)
used_declarator m n d = d

abbrev pub used_declarators : Makes → ℕ → Trees → Trees
used_declarators m n empty = empty
used_declarators m n (d before ds) = used_declarator m n d before used_declarators m n ds

abbrev pub const_label : Label → Label
const_label l = record l { texts = Some (codes "const") ∷ [] }

abbrev pub used_declaration : Makes → ℕ → Tree → Tree
used_declaration m n (node VariableDeclaration l (many ds then done)) = node VariableDeclaration (const_label l) (many (used_declarators m n ds) then done)
used_declaration m n t = t

abbrev pub constant : Makes → ℕ → Tree → Tree
constant m n t = if is_using_node t then used_declaration m n t else t

abbrev pub constants : Makes → ℕ → Trees → Trees
constants m n empty = empty
constants m n (t before ts) = constant m n t before constants m n ts

-- THE `try`: `try { var c = babelHelpers.usingCtx(); ts } catch (_) { c.e = _; } finally { c.d(); }`

-- `var c = babelHelpers.usingCtx();`
abbrev pub new_context : Makes → ℕ → Tree → Tree
new_context m n h = node VariableDeclaration (m.label h (Some (codes "var") ∷ []) []) (many (node VariableDeclarator (m.label h [] []) (one (m.context n h) then one (call m h (member m h (m.word (codes "babelHelpers") h) (codes "usingCtx")) empty) then done) before empty) then done)

-- `c.e = _;`
abbrev pub notes_error : Makes → ℕ → Tree → Tree
notes_error m n h = statement m h (node AssignmentExpression (m.label h (Some (codes "=") ∷ []) []) (one (member m h (m.context n h) (codes "e")) then one (m.error n h) then done))

-- `catch (_) { c.e = _; }`
abbrev pub handler : Makes → ℕ → Tree → Tree
handler m n h = node CatchClause (m.scope h) (one (m.error n h) then one (block m h (notes_error m n h before empty)) then done)

-- `{ c.d(); }`
abbrev pub finalizer : Makes → ℕ → Tree → Tree
finalizer m n h = block m h (statement m h (method m n h (codes "d") empty) before empty)

abbrev pub tried : Makes → ℕ → Tree → Trees → Tree
tried m n h ts = node TryStatement (m.label h [] []) (one (block m h (new_context m n h before ts)) then one (handler m n h) then one (finalizer m n h) then done)

-- NODES

-- a block that is a statement becomes the `try`, and one of a `try` stays around it
abbrev pub used_block : Makes → Standing → ℕ → Label → Fields → Tree
used_block m s n l (statements ts then done) =
    let h : Tree = node BlockStatement l (statements ts then done) in
    if is_part s then node BlockStatement l (statements (tried m n h (constants m n ts) before empty) then done) else tried m n h (constants m n ts)
used_block m s n l fs = node BlockStatement l fs

abbrev pub used_case : Makes → ℕ → Tree → Tree
used_case m n (node SwitchCase l (f then statements ts then done)) = node SwitchCase l (f then statements (constants m n ts) then done)
used_case m n t = t

abbrev pub used_cases : Makes → ℕ → Trees → Trees
used_cases m n empty = empty
used_cases m n (t before ts) = used_case m n t before used_cases m n ts

-- the `try` around the `switch`
abbrev pub used_switch : Makes → ℕ → Label → Fields → Tree
used_switch m n l (d then many cs then done) = tried m n (node SwitchStatement l (d then many cs then done)) (node SwitchStatement l (d then many (used_cases m n cs) then done) before empty)
used_switch m n l fs = node SwitchStatement l fs

-- the loop with constants in its head
abbrev pub used_head : Makes → ℕ → Fields → Fields
used_head m n (one t then fs) = one (used_declaration m n t) then fs
used_head m n fs = fs

abbrev pub used_loop : Makes → ℕ → Tree → Tree
used_loop m n (node ForStatement l fs) = node ForStatement l (used_head m n fs)
used_loop m n (node LabeledStatement l (one t then one u then done)) = node LabeledStatement l (one t then one (used_loop m n u) then done)
used_loop m n t = t

-- the body of a function, whose directives stay in front, and the fields of a function and of an arrow
abbrev pub used_body : Makes → ℕ → Tree → Tree
used_body m n (node FunctionBody l (many ds then statements ts then done)) = node FunctionBody l (many ds then statements (tried m n (node FunctionBody l (many ds then statements ts then done)) (constants m n ts) before empty) then done)
used_body m n b = b

abbrev pub used_function : Makes → ℕ → Fields → Fields
used_function m n (f then many ps then one b then done) = f then many ps then one (used_body m n b) then done
used_function m n fs = fs

abbrev pub used_arrow : Makes → ℕ → Fields → Fields
used_arrow m n (many ps then one b then done) = many ps then one (used_body m n b) then done
used_arrow m n fs = fs

-- a static block, which stays around the `try`
abbrev pub used_static_block : Makes → ℕ → Label → Fields → Tree
used_static_block m n l (statements ts then done) = node StaticBlock l (statements (tried m n (node StaticBlock l (statements ts then done)) (constants m n ts) before empty) then done)
used_static_block m n l fs = node StaticBlock l fs

-- a node at which `using` is lowered
abbrev pub used_node : Makes → Standing → ℕ → AstType → Label → Fields → Tree
used_node m s n BlockStatement l fs = used_block m s n l fs
used_node m s n SwitchStatement l fs = used_switch m n l fs
used_node m s n FunctionDeclaration l fs = node FunctionDeclaration l (used_function m n fs)
used_node m s n FunctionExpression l fs = node FunctionExpression l (used_function m n fs)
used_node m s n ArrowFunctionExpression l fs = node ArrowFunctionExpression l (used_arrow m n fs)
used_node m s n StaticBlock l fs = used_static_block m n l fs
used_node m s n k l fs = tried m n (node k l fs) (used_loop m n (node k l fs) before empty)

-- the next number, and the node
abbrev pub used_here : Makes → Standing → ℕ → AstType → Label → Fields → ℕ × Tree
used_here m s n k l fs = if uses_here s k l fs then (suc n, used_node m s n k l fs) else (n, node k l fs)

-- A TREE that stands so, where names of this number and those after it are to be had: the next number, and what it becomes
abbrev mutual
  pub used : Makes → Standing → ℕ → Tree → ℕ × Tree
  used m s n (node k l fs) = used_here m s (used_in m (standing_in k) n fs).0 k l (used_in m (standing_in k) n fs).1

  pub used_in : Makes → (ℕ → Standing) → ℕ → Fields → ℕ × Fields
  used_in m c n done = (n, done)
  used_in m c n (f then fs) = ((used_in m (λ i. c (suc i)) (used_by m (c zero) n f).0 fs).0, (used_by m (c zero) n f).1 then (used_in m (λ i. c (suc i)) (used_by m (c zero) n f).0 fs).1)

  pub used_by : Makes → Standing → ℕ → Field → ℕ × Field
  used_by m s n missing = (n, missing)
  used_by m s n (one t) = ((used m s n t).0, one (used m s n t).1)
  used_by m s n (many ts) = ((used_among m s n ts).0, many (used_among m s n ts).1)
  used_by m s n (statements ts) = ((used_among m s n ts).0, statements (used_among m s n ts).1)

  pub used_among : Makes → Standing → ℕ → Trees → ℕ × Trees
  used_among m s n empty = (n, empty)
  used_among m s n (t before ts) = ((used_among m s (used m s n t).0 ts).0, (used m s n t).1 before (used_among m s (used m s n t).0 ts).1)

-- A PROGRAM AS IT IS READ, where these are the names of the contexts

abbrev pub plain_label : Tree → List (Option Text) → List Bool → Label
plain_label h texts flags = record (made texts flags) { id = (label_of h).id }

abbrev pub plainly : List Text → Makes
plainly names = record {
  context = λ n h. plain_name (name_of names n) h;
  error = λ n h. plain_name error_name h;
  word = λ x h. plain_name x h;
  label = λ h texts flags. plain_label h texts flags;
  scope = λ h. record (plain_label h [] []) { marks = None ∷ [] };
}

-- AND WITH ITS SYMBOLS: a context has the symbol after those of the context before and of its `catch`

abbrev pub context_bound : List Text → ℕ → ℕ → Bound
context_bound names first n = record { name = name_of names n; symbol = Some (first + 2 * n) }

abbrev pub error_bound : ℕ → ℕ → Bound
error_bound first n = record { name = error_name; symbol = Some (first + 2 * n + 1) }

-- with this context and this parameter, whatever number it has
abbrev pub by_bounds : (ℕ → Bound) → (ℕ → Bound) → Makes
by_bounds context error = record { context = λ n h. identifier (context n); error = λ n h. identifier (error n); word = λ x h. word x; label = λ h texts flags. made texts flags; scope = λ h. made [] [] }

abbrev pub with_symbols : List Text → ℕ → Makes
with_symbols names first = by_bounds (context_bound names first) (error_bound first)

-- FRESH NAMES: each is the first of the base `usingCtx` that isn't in use, and in use after it
abbrev pub AreFresh : (Text → Bool) → List Text → Type 0
AreFresh in_use [] = Unit {0}
AreFresh in_use (x ∷ xs) = IsFreshName in_use (text_base (codes "usingCtx")) x × AreFresh (also x in_use) xs

-- What a program p becomes, with these fresh names, where these names are in use.
pub record UsesTo (in_use : Text → Bool) (p q : Tree) (names : List Text) : Type 0 where
  pub fresh : AreFresh in_use names
  pub count : (used (plainly names) Anywhere 0 p).0 ≡ length names
  pub tree : q ≡ (used (plainly names) Anywhere 0 p).1
