-- Programs whose arrows can become functions, and programs with one that can't: each has form and breaks no rule of places, and where an
-- arrow that can't becomes a function all the same, a rule is broken.
use Rattle.std.specs.Prelude.{◌≡◌, List, [], ◌∷◌, true, false, Some, codes, is_some}
use Rattle.es_tree.specs.CoreStaticRules.{Break}
use Rattle.es_tree.specs.HasForm.{has_form}
use Rattle.es_tree.specs.Tree.{Tree, node, done, ◌then◌, missing, one, many, statements, empty, trees}
use Rattle.es_tree.specs.declared.ast_type.AstType.TheVariants.{ArrowFunctionExpression, AssignmentPattern, ClassDeclaration, FunctionExpression, LogicalExpression, MemberExpression, MethodDefinition, NumericLiteral, ObjectExpression, ObjectProperty, Program, Super, UnaryExpression}
use Rattle.es_tree.specs.declared.error.Rule.TheVariants.{BadAccessor, DeleteName, MisplacedSuper}
use Rattle.es_tree.specs.declared.options.EnvOptions.{EnvOptions}
use Rattle.es_tree.specs.declared.table.Sort.TheVariants.{Program as s-Program}
use Rattle.es_resolution.specs.Declarations.{Bound}
use Rattle.es_steps.specs.Laws.{nothing_beside}
use Rattle.es_steps.specs.Open.{opened}
use Rattle.es_steps.specs.Rules.{next_name}
use Rattle.es_steps.specs.Steps.{Whole, the_program, Step, Steps}
use Rattle.es_tree.specs.Fresh.{IsFreshName, text_base}
use Rattle.es_valid_arrows.specs.Laws.{with_arrows}
use Rattle.es_steps.specs.Nodes.{identifier, this_statement, arrow_node, body_node, made, return_node, statement_node, this_expression, word}
use Rattle.es_valid_steps.specs.PlaceRules.{place_breaks}
use Rattle.es_valid_arrows.specs.ArrowPlaces.{fits_arrows}

-- NODES

abbrev pub script : List Tree → Tree
script ts = node Program (made (Some (codes "script") ∷ []) []) (many empty then statements (trees ts) then done)

-- `function (ps) { ts }`
abbrev pub function_of : List Tree → List Tree → Tree
function_of ps ts = node FunctionExpression (made [] []) (missing then many (trees ps) then one (body_node (trees ts)) then done)

-- `class c { m(ps) { ts } }`
abbrev pub class_with : List Tree → List Tree → Tree
class_with ps ts =
    let method : Tree = node MethodDefinition (made (Some (codes "method") ∷ []) (false ∷ false ∷ [])) (one (word (codes "m")) then one (function_of ps ts) then done) in
    node ClassDeclaration (made [] []) (one (word (codes "c")) then missing then many (trees (method ∷ [])) then done)

-- `super.x`
abbrev pub super_member : Tree
super_member = node MemberExpression (made [] (false ∷ false ∷ [])) (one (node Super (made [] []) done) then one (word (codes "x")) then done)

abbrev pub one_number : Tree
one_number = node NumericLiteral (made (Some (codes "1") ∷ Some (codes "1") ∷ []) []) done

-- `this.b`
abbrev pub this_member : Tree
this_member = node MemberExpression (made [] (false ∷ false ∷ [])) (one this_expression then one (word (codes "b")) then done)

-- `e ?? 1`
abbrev pub or_one : Tree → Tree
or_one e = node LogicalExpression (made (Some (codes "??") ∷ []) []) (one e then one one_number then done)

-- `delete e`
abbrev pub deleted : Tree → Tree
deleted e = node UnaryExpression (made (Some (codes "delete") ∷ []) []) (one e then done)

-- `a = e` as a parameter
abbrev pub parameter_with : Tree → Tree
parameter_with e = node AssignmentPattern (made [] []) (one (word (codes "a")) then one e then done)

-- `({ get g: e })`
abbrev pub getter_of : Tree → Tree
getter_of e =
    let property : Tree = node ObjectProperty (made (Some (codes "get") ∷ []) (false ∷ false ∷ false ∷ [])) (one (word (codes "g")) then one e then done) in
    node ObjectExpression (made [] []) (many (trees (property ∷ [])) then done)

abbrev pub arrow_with : List Tree → Tree → Tree
arrow_with ps e = node ArrowFunctionExpression (made [] []) (many (trees ps) then one e then done)

-- EXAMPLES

-- a program that may be lowered: it has form, and breaks no rule of places
pub record IsProgram (p : Tree) : Type 0 where
  pub formed : has_form s-Program p ≡ true
  pub kept : place_breaks p ≡ []

-- its arrows can become functions
pub record CanBe (p : Tree) : Type 0 where
  pub program : IsProgram p
  pub fits : (o : EnvOptions) → fits_arrows o p ≡ true

-- one of them can't: as a function it breaks a rule
pub record CanNot (p q : Tree) (b : Break) : Type 0 where
  pub program : IsProgram p
  pub unfit : (o : EnvOptions) → fits_arrows o p ≡ false
  pub formed : has_form s-Program q ≡ true
  pub broken : place_breaks q ≡ b ∷ []

-- they can where options don't ask for `??`, and can't where they do
pub record WhereNullishIsKept (p : Tree) : Type 0 where
  pub program : IsProgram p
  pub fits : (o : EnvOptions) → o.es2020.nullish_coalescing_operator ≡ false → fits_arrows o p ≡ true
  pub unfit : (o : EnvOptions) → o.es2020.nullish_coalescing_operator ≡ true → fits_arrows o p ≡ false

-- steps from one program to the other, with nothing pending, and the other breaks no rule of places
pub record Becomes (o : EnvOptions) (w : Whole) (p q : Tree) : Type 0 where
  pub left : Whole
  pub steps : Steps (Step (with_arrows o) the_program) (nothing_beside w) (opened p) (nothing_beside left) (opened q)
  pub kept : place_breaks q ≡ []

-- `() => e;`, `() => { return e; };`, and what becomes of both: `var _this = this;` is written in the list of the program
abbrev pub short_arrow : Tree → Tree
short_arrow e = script (statement_node (arrow_node e) ∷ [])

abbrev pub long_arrow : Tree → Tree
long_arrow e = script (statement_node (arrow_node (body_node (trees (return_node e ∷ [])))) ∷ [])

abbrev pub named_this : Whole → Bound
named_this w = next_name w (codes "_this")

abbrev pub with_name : Whole → Tree
with_name w = script (this_statement (named_this w) ∷ statement_node (function_of [] (return_node (identifier (named_this w)) ∷ [])) ∷ [])

-- the steps are there where options ask for arrows and the name isn't in use
abbrev pub WhereFresh : EnvOptions → Whole → Type 0 → Type 0
WhereFresh o w A = is_some o.es2015.arrow_function ≡ true → IsFreshName w.in_use (text_base (codes "this")) (codes "_this") → A

pub record LawArrowExamples : Type 0 where
  pub short : (o : EnvOptions) (w : Whole) → WhereFresh o w (Becomes o w (short_arrow this_expression) (with_name w))
  pub long : (o : EnvOptions) (w : Whole) → WhereFresh o w (Becomes o w (long_arrow this_expression) (with_name w))
  -- `class c { m() { super.x; () => 1; } }`
  pub beside : CanBe (script (class_with [] (statement_node super_member ∷ statement_node (arrow_node one_number) ∷ []) ∷ []))
  -- `() => function () { class c { m() { return super.x; } } };`
  pub in_method : CanBe (script (statement_node (arrow_node (function_of [] (class_with [] (return_node super_member ∷ []) ∷ []))) ∷ []))
  -- `() => this;`, `delete this;`, `() => function () { return delete this; };`
  pub this_alone : CanBe (script (statement_node (arrow_node this_expression) ∷ statement_node (deleted this_expression) ∷ statement_node (arrow_node (function_of [] (return_node (deleted this_expression) ∷ []))) ∷ []))
  -- `class c { m() { () => super.x; } }`
  pub super_word : CanNot (script (class_with [] (statement_node (arrow_node super_member) ∷ []) ∷ [])) (script (class_with [] (statement_node (function_of [] (return_node super_member ∷ [])) ∷ []) ∷ [])) (MisplacedSuper, 0)
  -- `() => delete this;`
  pub deleted_this : CanNot (script (statement_node (arrow_node (deleted this_expression)) ∷ [])) (script (statement_node (function_of [] (return_node (deleted (word (codes "_this"))) ∷ [])) ∷ [])) (DeleteName, 0)
  -- `({ get g: (a) => 1 });`
  pub accessor : CanNot (script (statement_node (getter_of (arrow_with (word (codes "a") ∷ []) one_number)) ∷ [])) (script (statement_node (getter_of (function_of (word (codes "a") ∷ []) (return_node one_number ∷ []))) ∷ [])) (BadAccessor, 0)
  -- `class c { m(a = super.x) {} }`: no slot is wrapped for that
  pub slot : CanBe (script (class_with (parameter_with super_member ∷ []) [] ∷ []))
  -- `class c { m(a = super.x ?? 1) {} }`: an arrow would be around `super`
  pub wrapped_slot : WhereNullishIsKept (script (class_with (parameter_with (or_one super_member) ∷ []) [] ∷ []))
  -- `(function (a = this.b ?? 1) {});`: no name of `this` can be declared for it
  pub wrapped_this : WhereNullishIsKept (script (statement_node (function_of (parameter_with (or_one this_member) ∷ []) []) ∷ []))
