-- A constructor, and what becomes of it, node by node: `class A extends B { constructor() { var _this = this; f(); super(a); g(); } }` becomes
-- `class A extends B { constructor() { var _this; f(); super(a); _this = this; g(); } }`. Without `extends B`, and where another name was made, it stays.
-- And so does one in which the name stands elsewhere than in functions.
use Rattle.std.specs.Prelude.{◌≡◌, [], ◌∷◌, List, Option, Some, bytes_eq, codes, false}
use Rattle.es_tree.specs.Tree.{Tree, node, Field, done, ◌then◌, missing, one, many, statements, empty, ◌before◌, trees}
use Rattle.es_tree.specs.Words.{Text}
use Rattle.es_tree.specs.declared.ast_type.AstType.TheVariants.{ClassDeclaration, FunctionBody, FunctionExpression, MethodDefinition, Super, VariableDeclaration, VariableDeclarator}
use Rattle.es_steps.specs.Nodes.{assign_node, block_node, call_node, made, sequence_node, statement_node, this_expression, this_statement, word}
use Rattle.es_super_calls.specs.declared.standing.ClassStanding.TheVariants.{Elsewhere}
use Rattle.es_set_this.specs.ConstructorThis.{plain_name, set_this}

-- `f();`, `super(a)` and `super(a);`
abbrev pub calls : Text → Tree
calls f = statement_node (call_node (word f) [])

abbrev pub super_call : Tree
super_call = call_node (node Super (made [] []) done) (word (codes "a") ∷ [])

abbrev pub super_statement : Tree
super_statement = statement_node super_call

-- `class A { constructor() { ts } }`, where this stands behind its name
abbrev pub class_with : Field → List Tree → Tree
class_with heritage ts =
    let body : Tree = node FunctionBody (made [] []) (many empty then statements (trees ts) then done) in
    let method : Tree = node MethodDefinition (made (Some (codes "constructor") ∷ []) (false ∷ false ∷ [])) (one (word (codes "constructor")) then one (node FunctionExpression (made [] []) (missing then many empty then one body then done)) then done) in
    node ClassDeclaration (made [] []) (one (word (codes "A")) then heritage then many (method before empty) then done)

abbrev pub derived_with : List Tree → Tree
derived_with = class_with (one (word (codes "B")))

-- `var _this = this;`, `var _this;` and `_this = this;`
abbrev pub declared_first : Tree
declared_first = this_statement (record { name = codes "_this"; symbol = Option.None })

abbrev pub declared_alone : Tree
declared_alone = node VariableDeclaration (made (Some (codes "var") ∷ []) []) (many (node VariableDeclarator (made [] []) (one (word (codes "_this")) then missing then done) before empty) then done)

abbrev pub set_to_this : Tree
set_to_this = assign_node (plain_name (codes "_this")) this_expression

abbrev pub set_behind_it : Tree
set_behind_it = statement_node set_to_this

-- `(super(a), _this = this)`, and `f(e);`
abbrev pub set_after_it : Tree
set_after_it = sequence_node (super_call ∷ set_to_this ∷ [])

abbrev pub calls_with : Tree → Tree
calls_with e = statement_node (call_node (word (codes "f")) (e ∷ []))

abbrev pub as_arrows_leave : List Tree
as_arrows_leave = declared_first ∷ calls (codes "f") ∷ super_statement ∷ calls (codes "g") ∷ []

pub record LawSetExamples : Type 0 where
  pub sets : set_this (bytes_eq (codes "_this")) Elsewhere (derived_with as_arrows_leave) ≡ derived_with (declared_alone ∷ calls (codes "f") ∷ super_statement ∷ set_behind_it ∷ calls (codes "g") ∷ [])
  -- in an argument, and in a block
  pub in_argument : set_this (bytes_eq (codes "_this")) Elsewhere (derived_with (declared_first ∷ calls_with super_call ∷ [])) ≡ derived_with (declared_alone ∷ calls_with set_after_it ∷ [])
  pub in_a_block : set_this (bytes_eq (codes "_this")) Elsewhere (derived_with (declared_first ∷ block_node (trees (super_statement ∷ calls (codes "g") ∷ [])) ∷ [])) ≡ derived_with (declared_alone ∷ block_node (trees (super_statement ∷ set_behind_it ∷ calls (codes "g") ∷ [])) ∷ [])
  -- behind the first call no other is followed
  pub two_calls : set_this (bytes_eq (codes "_this")) Elsewhere (derived_with (declared_first ∷ super_statement ∷ calls_with super_call ∷ [])) ≡ derived_with (declared_alone ∷ super_statement ∷ set_behind_it ∷ calls_with super_call ∷ [])
  pub no_call : set_this (bytes_eq (codes "_this")) Elsewhere (derived_with (declared_first ∷ calls (codes "f") ∷ [])) ≡ derived_with (declared_alone ∷ calls (codes "f") ∷ [])
  pub no_heritage : set_this (bytes_eq (codes "_this")) Elsewhere (class_with missing as_arrows_leave) ≡ class_with missing as_arrows_leave
  pub named : set_this (bytes_eq (codes "_this")) Elsewhere (derived_with (declared_first ∷ calls (codes "_this") ∷ super_statement ∷ [])) ≡ derived_with (declared_first ∷ calls (codes "_this") ∷ super_statement ∷ [])
  pub other_name : set_this (bytes_eq (codes "_this2")) Elsewhere (derived_with as_arrows_leave) ≡ derived_with as_arrows_leave
