-- Programs that show what the conditions of moves are for: without them a name would be bound otherwise.
use Rattle.std.proofs.Common.{◌≡◌, ℕ, refl, List, [], ◌∷◌}
use Rattle.std.specs.Prelude.{false, Some, codes}
use Rattle.es_tree.specs.Words.{Text}
use Rattle.es_tree.specs.Tree.{Tree, node, done, ◌then◌, missing, one, many, statements, empty, ◌before◌, trees}
use Rattle.es_tree.specs.declared.ast_type.AstType.TheVariants.{Program, FunctionDeclaration, ForOfStatement, EmptyStatement, AssignmentPattern, ObjectPattern, PatternProperty, RestElement, VariableDeclarator}
use Rattle.es_semantic.specs.RolesOf.{reads}
use Rattle.es_resolution.specs.Resolved.{IsResolved, no_name}
use Rattle.es_resolution.specs.Single.{scopes_with}
use Rattle.es_steps.specs.Nodes.{made, identifier, word, body_node, block_node, declarator_with, declaration_node, call_node, try_node, catch_node}
use Rattle.es_steps.specs.Patterns.{let_statement}
use Rattle.es_steps.specs.LoopHeads.{head_fields, new_head}
use Rattle.es_resolution.specs.Declarations.{Bound}
use Rattle.es_steps.proofs.Checked.{is_resolved-sound}

abbrev bound : Text → ℕ → Bound
bound x s = record { name = x; symbol = Some s }

abbrev name : Text → ℕ → Tree
name x s = identifier (bound x s)

-- `{ a, ...b }`
abbrev pattern : Tree
pattern = node ObjectPattern (made [] []) (many (node PatternProperty (made [] (false ∷ false ∷ [])) (one (word (codes "a")) then one (name (codes "a") 1) then done) before node RestElement (made [] []) (one (name (codes "b") 2) then done) before empty) then done)

abbrev defaults : Tree → Tree → Tree
defaults p e = node AssignmentPattern (made [] []) (one p then one e then done)

abbrev function_of : Text → ℕ → List Tree → List Tree → Tree
function_of f s ps ts = node FunctionDeclaration (made [] (false ∷ false ∷ [])) (one (name f s) then many (trees ps) then one (body_node (trees ts)) then done)

abbrev program : List Tree → Tree
program ts = node Program (made (Some (codes "script") ∷ []) []) (many empty then statements (trees ts) then done)

abbrev scopes : ℕ → Tree → ℕ
scopes s t = scopes_with s no_name reads t

-- THE DEFAULT of the parameter itself must name nothing that its pattern binds
-- function f({ a, ...b } = a) {}   becomes   function f(_ref = a) { let { a, ...b } = _ref; }, whose `a` is another one

abbrev own_default : Tree
own_default = program (function_of (codes "f") 0 (defaults pattern (name (codes "a") 1) ∷ []) [] ∷ [])

abbrev own_default_moved : Tree
own_default_moved = program (function_of (codes "f") 0 (defaults (name (codes "_ref") 3) (name (codes "a") 1) ∷ []) (let_statement pattern (bound (codes "_ref") 3) ∷ []) ∷ [])

own-default : IsResolved own_default
own-default = is_resolved-sound own_default refl

own-default-moved : IsResolved own_default_moved → ⊥
own-default-moved h = absurd (cc h.2.1.0.0.2.1.0.0.2.1.0.0)

-- where nothing of the kind stands there it is well
abbrev other_default_moved : Tree
other_default_moved = program (function_of (codes "f") 0 (defaults (name (codes "_ref") 3) (name (codes "f") 0) ∷ []) (let_statement pattern (bound (codes "_ref") 3) ∷ []) ∷ [])

other-default-moved : IsResolved other_default_moved
other-default-moved = is_resolved-sound other_default_moved refl

-- IsSingle DOESN'T SAY that a symbol has one name: here `a` and `c` share one, and moving `a` gives it a second scope
-- function f({ a, ...b }, c) {}   becomes   function f(_ref, c) { let { a, ...b } = _ref; }

abbrev one_symbol : Tree
one_symbol = program (function_of (codes "f") 0 (pattern ∷ name (codes "c") 1 ∷ []) [] ∷ [])

abbrev one_symbol_moved : Tree
one_symbol_moved = program (function_of (codes "f") 0 (name (codes "_ref") 3 ∷ name (codes "c") 1 ∷ []) (let_statement pattern (bound (codes "_ref") 3) ∷ []) ∷ [])

one-symbol : IsResolved one_symbol × (scopes 0 one_symbol ≡ 1) × (scopes 1 one_symbol ≡ 1) × (scopes 2 one_symbol ≡ 1)
one-symbol = (is_resolved-sound one_symbol refl, refl, refl, refl)

one-symbol-moved : IsResolved one_symbol_moved × (scopes 1 one_symbol_moved ≡ 2)
one-symbol-moved = (is_resolved-sound one_symbol_moved refl, refl)

-- The right side of a loop must name nothing of its head: for (let { a, ...b } of a) ;   becomes   for (let _ref of a) { let { a, ...b } = _ref; ; }

abbrev nothing : Tree
nothing = node EmptyStatement (made [] []) done

abbrev head : Tree
head = program (node ForOfStatement (made [] []) (head_fields (made (Some (codes "let") ∷ []) []) (made [] []) pattern (name (codes "a") 1) nothing) ∷ [])

abbrev head_moved : Tree
head_moved = program (node ForOfStatement (made [] []) (new_head (codes "let") (bound (codes "_ref") 3) pattern (name (codes "a") 1) nothing) ∷ [])

head-right : IsResolved head
head-right = is_resolved-sound head refl

head-wrong : IsResolved head_moved → ⊥
head-wrong h = absurd (cc h.2.1.0.0.2.1.0.0)

-- for (var { a, ...b } of a) ; needs no such condition
abbrev var_head_moved : Tree
var_head_moved = program (node ForOfStatement (made [] []) (new_head (codes "var") (bound (codes "_ref") 3) pattern (name (codes "a") 1) nothing) ∷ [])

var-head-right : IsResolved var_head_moved
var-head-right = is_resolved-sound var_head_moved refl

-- A body with `using` is no block: a function at a body's top with a parameter's name is the parameter; in a block it is another one
-- function f(a) { using x = f; function a() {} }

abbrev shared : Tree
shared = program (function_of (codes "f") 0 (name (codes "a") 1 ∷ []) (declaration_node (codes "using") (declarator_with (name (codes "x") 2) (name (codes "f") 0) ∷ []) ∷ function_of (codes "a") 1 [] [] ∷ []) ∷ [])

abbrev context : Tree
context = name (codes "_usingCtx") 3

abbrev shared_wrapped : Tree
shared_wrapped = program (function_of (codes "f") 0 (name (codes "a") 1 ∷ []) (try_node (block_node (trees (declaration_node (codes "var") (declarator_with context (call_node (word (codes "usingCtx")) []) ∷ []) ∷ declaration_node (codes "const") (declarator_with (name (codes "x") 2) (call_node context (name (codes "f") 0 ∷ [])) ∷ []) ∷ function_of (codes "a") 1 [] [] ∷ []))) (catch_node (name (codes "_") 4) (block_node empty)) (block_node empty) ∷ []) ∷ [])

shared-right : IsResolved shared × (scopes 1 shared ≡ 1)
shared-right = (is_resolved-sound shared refl, refl)

shared-twice : IsResolved shared_wrapped × (scopes 1 shared_wrapped ≡ 2)
shared-twice = (is_resolved-sound shared_wrapped refl, refl)

-- and a function with the name of a `var`: function f() { using x = f; var a; function a() {} }

abbrev var_a : Tree
var_a = declaration_node (codes "var") (node VariableDeclarator (made [] []) (one (name (codes "a") 1) then missing then done) ∷ [])

abbrev var_shared : Tree
var_shared = program (function_of (codes "f") 0 [] (declaration_node (codes "using") (declarator_with (name (codes "x") 2) (name (codes "f") 0) ∷ []) ∷ var_a ∷ function_of (codes "a") 1 [] [] ∷ []) ∷ [])

abbrev var_wrapped : Tree
var_wrapped = program (function_of (codes "f") 0 [] (try_node (block_node (trees (declaration_node (codes "var") (declarator_with context (call_node (word (codes "usingCtx")) []) ∷ []) ∷ declaration_node (codes "const") (declarator_with (name (codes "x") 2) (call_node context (name (codes "f") 0 ∷ [])) ∷ []) ∷ var_a ∷ function_of (codes "a") 1 [] [] ∷ []))) (catch_node (name (codes "_") 4) (block_node empty)) (block_node empty) ∷ []) ∷ [])

var-shared : IsResolved var_shared × (scopes 1 var_shared ≡ 1)
var-shared = (is_resolved-sound var_shared refl, refl)

var-twice : scopes 1 var_wrapped ≡ 2
var-twice = refl
