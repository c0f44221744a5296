-- What is found in programs, by the numbers of their nodes in node order, the program's 0.
use Rattle.std.specs.Prelude.{◌≡◌, ℕ, List, [], ◌∷◌, Bool, true, false, Option, Some, None, codes, if◌then◌else◌}
use Rattle.es_tree.specs.HasForm.{has_form}
use Rattle.es_tree.specs.Order.{renumber}
use Rattle.es_tree.specs.Tree.{Tree, node, done, ◌then◌, missing, one, many, statements, empty, trees}
use Rattle.es_tree.specs.Words.{Text}
use Rattle.es_tree.specs.declared.ast_type.AstType.TheVariants.{ArrayPattern, ArrayTarget, ArrowFunctionExpression, AssignmentPattern, ClassDeclaration, EmptyStatement, ForOfStatement, FunctionDeclaration, FunctionExpression, LogicalExpression, MethodDefinition, ObjectPattern, ObjectTarget, ParenthesizedExpression, PatternProperty, Program, RestElement, Super, TargetProperty, TargetRest, TargetWithDefault, UnaryExpression, VariableDeclaration, VariableDeclarator}
use Rattle.es_tree.specs.declared.error.UnsupportedKind.{UnsupportedKind}
use Rattle.es_tree.specs.declared.error.UnsupportedKind.TheVariants.{ArrowOuter, ArrowThis, HeadName, HelperName, RestInArray, RestNested, RestParameter, UsingFunction}
use Rattle.es_tree.specs.declared.options.EnvOptions.{EnvOptions}
use Rattle.es_tree.specs.declared.options.HelperLoaderMode.TheVariants.{External}
use Rattle.es_tree.specs.declared.table.Sort.TheVariants.{Program as s-Program}
use Rattle.es_steps.specs.Nodes.{arrow_node, assign_node, body_node, call_node, made, member_node, statement_node, this_expression, word}
use Rattle.es_unsupported.specs.FirstUnsupported.{first_unsupported}

-- OPTIONS that ask for arrows, for `??`, for object rests and spreads or for `using`, and for nothing else

abbrev pub asking : Bool → Bool → Bool → Bool → EnvOptions → EnvOptions
asking arrows nullish rests resources o = record o {
  es2015 = record { arrow_function = if arrows then Some (record { spec = false }) else None };
  es2016 = record { exponentiation_operator = false };
  es2018 = record { object_rest_spread = if rests then Some (record { loose = false; use_built_ins = false }) else None; async_generator_functions = false };
  es2020 = record o.es2020 { nullish_coalescing_operator = nullish; optional_chaining = false };
  es2021 = record { logical_assignment_operators = false };
  es2026 = record { explicit_resource_management = resources };
  helper_loader = record o.helper_loader { mode = External };
}

-- NODES

abbrev pub script : List Tree → Tree
script ts = renumber 0 (node Program (made (Some (codes "script") ∷ []) []) (many empty then statements (trees ts) then done))

-- `function (ps) { ts }`, without a name
abbrev pub method_function : List Tree → List Tree → Tree
method_function ps ts = node FunctionExpression (made [] []) (missing then many (trees ps) then one (body_node (trees ts)) then done)

-- `function x(ps) { ts }`
abbrev pub named_function : Text → List Tree → List Tree → Tree
named_function x ps ts = node FunctionDeclaration (made [] []) (one (word x) then many (trees ps) then one (body_node (trees ts)) then done)

-- `function f(ps) { ts }`
abbrev pub function_node : List Tree → List Tree → Tree
function_node = named_function (codes "f")

abbrev pub super_word : Tree
super_word = node Super (made [] []) done

-- `super()`
abbrev pub super_call : Tree
super_call = call_node super_word []

-- `class A { m() { ts } }`
abbrev pub class_with : List Tree → Tree
class_with ts =
    let method : Tree = node MethodDefinition (made (Some (codes "method") ∷ []) (false ∷ false ∷ [])) (one (word (codes "m")) then one (method_function [] ts) then done) in
    node ClassDeclaration (made [] []) (one (word (codes "A")) then missing then many (trees (method ∷ [])) then done)

-- `class A extends B { constructor(ps) { ts } }`
abbrev pub derived_with : List Tree → List Tree → Tree
derived_with ps ts =
    let method : Tree = node MethodDefinition (made (Some (codes "constructor") ∷ []) (false ∷ false ∷ [])) (one (word (codes "constructor")) then one (method_function ps ts) then done) in
    node ClassDeclaration (made [] []) (one (word (codes "A")) then one (word (codes "B")) then many (trees (method ∷ [])) then done)

abbrev pub arrow_with : List Tree → Tree → Tree
arrow_with ps e = node ArrowFunctionExpression (made [] []) (many (trees ps) then one e then done)

-- `l ?? b`
abbrev pub coalescing : Tree → Tree
coalescing l = node LogicalExpression (made (Some (codes "??") ∷ []) []) (one l then one (word (codes "b")) then done)

-- `a = e` as a parameter
abbrev pub parameter_with : Tree → Tree
parameter_with e = node AssignmentPattern (made [] []) (one (word (codes "a")) then one e then done)

abbrev pub deleted : Tree → Tree
deleted e = node UnaryExpression (made (Some (codes "delete") ∷ []) []) (one e then done)

-- `{ ...x }`
abbrev pub rest_pattern : Text → Tree
rest_pattern x =
    let rest : Tree = node RestElement (made [] []) (one (word x) then done) in
    node ObjectPattern (made [] []) (many (trees (rest ∷ [])) then done)

-- `{ [k]: a, ...x }`
abbrev pub computed_pattern : Text → Tree
computed_pattern x =
    let property : Tree = node PatternProperty (made [] (false ∷ true ∷ [])) (one (word (codes "k")) then one (word (codes "a")) then done) in
    let rest : Tree = node RestElement (made [] []) (one (word x) then done) in
    node ObjectPattern (made [] []) (many (trees (property ∷ rest ∷ [])) then done)

-- `{ k: p }`
abbrev pub in_property : Tree → Tree
in_property p =
    let property : Tree = node PatternProperty (made [] (false ∷ false ∷ [])) (one (word (codes "k")) then one p then done) in
    node ObjectPattern (made [] []) (many (trees (property ∷ [])) then done)

-- `w p = b;`, where w is `let` or `using`
abbrev pub declaration : Text → Tree → Tree
declaration w p =
    let declarator : Tree = node VariableDeclarator (made [] []) (one p then one (word (codes "b")) then done) in
    node VariableDeclaration (made (Some w ∷ []) []) (many (trees (declarator ∷ [])) then done)

-- `let { ...x } = b;`
abbrev pub rest_declaration : Text → Tree
rest_declaration x = declaration (codes "let") (rest_pattern x)

-- `p = b` as a parameter
abbrev pub with_default : Tree → Tree
with_default p = node AssignmentPattern (made [] []) (one p then one (word (codes "b")) then done)

-- `for (w p of e) ;`
abbrev pub loop_over : Text → Tree → Tree → Tree
loop_over w p e =
    let declarator : Tree = node VariableDeclarator (made [] []) (one p then missing then done) in
    let head : Tree = node VariableDeclaration (made (Some w ∷ []) []) (many (trees (declarator ∷ [])) then done) in
    node ForOfStatement (made [] []) (one head then one e then one (node EmptyStatement (made [] []) done) then done)

-- `[p]`
abbrev pub array_pattern : Tree → Tree
array_pattern p = node ArrayPattern (made [] []) (one p then done)

-- `[t] = b;`
abbrev pub array_assignment : Tree → Tree
array_assignment t = statement_node (assign_node (node ArrayTarget (made [] []) (one t then done)) (word (codes "b")))

-- `{ ...x }` as a target
abbrev pub rest_target : Text → Tree
rest_target x =
    let rest : Tree = node TargetRest (made [] []) (one (word x) then done) in
    node ObjectTarget (made [] []) (many (trees (rest ∷ [])) then done)

-- `{ k: t }` as a target
abbrev pub target_in_property : Tree → Tree
target_in_property t =
    let property : Tree = node TargetProperty (made [] (false ∷ false ∷ [])) (one (word (codes "k")) then one t then done) in
    node ObjectTarget (made [] []) (many (trees (property ∷ [])) then done)

-- `t = e` as a target
abbrev pub target_with_default : Tree → Tree → Tree
target_with_default t e = node TargetWithDefault (made [] []) (one t then one e then done)

-- `(t = b)`
abbrev pub assignment_in_parens : Tree → Tree
assignment_in_parens t = node ParenthesizedExpression (made [] []) (one (assign_node t (word (codes "b"))) then done)

-- EXAMPLES

-- of a program that has form, where options ask for arrows, for `??` or not, for object rests or not, and for `using` or not
pub record FindsIn (nullish rests resources : Bool) (ts : List Tree) (found : Option (UnsupportedKind × ℕ)) : Type 0 where
  pub formed : has_form s-Program (script ts) ≡ true
  pub first : (o : EnvOptions) → first_unsupported (asking true nullish rests resources o) (script ts) ≡ found

abbrev pub Finds : Bool → Bool → List Tree → Option (UnsupportedKind × ℕ) → Type 0
Finds nullish rests = FindsIn nullish rests false

abbrev pub FindsUsing : List Tree → Option (UnsupportedKind × ℕ) → Type 0
FindsUsing = FindsIn false false true

pub record LawShapeExamples : Type 0 where
  -- `() => this;`
  pub this_word : Finds false false (statement_node (arrow_node this_expression) ∷ []) None
  -- `() => delete this;`
  pub deleted_this : Finds false false (statement_node (arrow_node (deleted this_expression)) ∷ []) (Some (ArrowThis, 3))
  -- `class A { m() { () => super.x; } }`
  pub super_member : Finds false false (class_with (statement_node (arrow_node (member_node super_word (codes "x"))) ∷ []) ∷ []) (Some (ArrowOuter, 10))
  -- `class A { m() { super.x; } }`
  pub in_method : Finds false false (class_with (statement_node (member_node super_word (codes "x")) ∷ []) ∷ []) None
  -- `class A extends B { constructor() { super(); () => this; } }`, and with `f(super());` in place of `super();`
  pub constructor_this : Finds false false (derived_with [] (statement_node super_call ∷ statement_node (arrow_node this_expression) ∷ []) ∷ []) None
  pub inner_super : Finds false false (derived_with [] (statement_node (call_node (word (codes "f")) (super_call ∷ [])) ∷ statement_node (arrow_node this_expression) ∷ []) ∷ []) None
  -- `class A extends B { constructor(a = super()) { () => this; } }`, and with `this;` in place of the arrow
  pub early_super : Finds false false (derived_with (parameter_with super_call ∷ []) (statement_node (arrow_node this_expression) ∷ []) ∷ []) (Some (ArrowThis, 9))
  pub early_alone : Finds false false (derived_with (parameter_with super_call ∷ []) (statement_node this_expression ∷ []) ∷ []) None
  -- `function f() { () => arguments; }`
  pub outer_arguments : Finds false false (function_node [] (statement_node (arrow_node (word (codes "arguments"))) ∷ []) ∷ []) (Some (ArrowOuter, 6))
  -- `function f() { (arguments) => arguments; }`
  pub own_arguments : Finds false false (function_node [] (statement_node (arrow_with (word (codes "arguments") ∷ []) (word (codes "arguments"))) ∷ []) ∷ []) None
  -- `function f(a = this.c ?? b) {}`, where `??` is lowered, and where it isn't
  pub in_slot : Finds true false (function_node (parameter_with (coalescing (member_node this_expression (codes "c"))) ∷ []) [] ∷ []) (Some (ArrowThis, 7))
  pub in_parameter : Finds false false (function_node (parameter_with (coalescing (member_node this_expression (codes "c"))) ∷ []) [] ∷ []) None
  -- where object rests are lowered, `let { ...a } = b;`, `function f({ ...a }) {}` and `let { ...babelHelpers } = b;`
  pub object_rest : Finds false true (rest_declaration (codes "a") ∷ []) None
  pub rest_parameter : Finds false true (function_node (rest_pattern (codes "a") ∷ []) [] ∷ []) (Some (RestParameter, 1))
  -- `let { [k]: a, ...c } = b;` and `function f({ [k]: a, ...c }) {}`
  pub computed_key : Finds false true (declaration (codes "let") (computed_pattern (codes "c")) ∷ []) None
  pub computed_parameter : Finds false true (function_node (computed_pattern (codes "c") ∷ []) [] ∷ []) (Some (RestParameter, 1))
  -- `let { k: { ...a } } = b;`, `let { k: { ...a } = b } = b;`, `let { k: [{ ...a }] } = b;` and `function f({ k: { ...a } }) {}`
  pub rest_in_property : Finds false true (declaration (codes "let") (in_property (rest_pattern (codes "a"))) ∷ []) None
  pub rest_of_default : Finds false true (declaration (codes "let") (in_property (with_default (rest_pattern (codes "a")))) ∷ []) None
  pub array_in_property : Finds false true (declaration (codes "let") (in_property (array_pattern (rest_pattern (codes "a")))) ∷ []) (Some (RestInArray, 7))
  pub property_parameter : Finds false true (function_node (in_property (rest_pattern (codes "a")) ∷ []) [] ∷ []) (Some (RestParameter, 1))
  -- `function f({ ...a } = b) {}`: the function has it, not the parameter; `for (let { ...a } of a) ;`
  pub rest_default : Finds false true (function_node (with_default (rest_pattern (codes "a")) ∷ []) [] ∷ []) (Some (RestParameter, 1))
  pub rest_head : Finds false true (loop_over (codes "let") (rest_pattern (codes "a")) (word (codes "a")) ∷ []) (Some (HeadName, 3))
  -- `let [{ ...a }] = b;`, `function f([{ ...a }]) {}` and `function f([{ k: { ...a } }]) {}`
  pub array_declared : Finds false true (declaration (codes "let") (array_pattern (rest_pattern (codes "a"))) ∷ []) (Some (RestInArray, 4))
  pub rest_in_array : Finds false true (function_node (array_pattern (rest_pattern (codes "a")) ∷ []) [] ∷ []) (Some (RestInArray, 4))
  pub property_in_array : Finds false true (function_node (array_pattern (in_property (rest_pattern (codes "a"))) ∷ []) [] ∷ []) (Some (RestInArray, 7))
  -- `[{ ...a }] = b;`, `a = ({ k: { ...a } } = b);` and `a = ({ ...a } = b);`
  pub rest_nested : Finds false true (array_assignment (rest_target (codes "a")) ∷ []) (Some (RestNested, 4))
  pub target_nested : Finds false true (statement_node (assign_node (word (codes "a")) (assignment_in_parens (target_in_property (rest_target (codes "a"))))) ∷ []) (Some (RestNested, 9))
  pub rest_assigned : Finds false true (statement_node (assign_node (word (codes "a")) (assignment_in_parens (rest_target (codes "a")))) ∷ []) None
  -- An assignment in a default value is inside no pattern: `({ k: a = ({ ...a } = b) } = b);`, and so it is in a parameter: `function f([a = ({ ...a } = b)]) {}`.
  pub target_default : Finds false true (statement_node (assignment_in_parens (target_in_property (target_with_default (word (codes "a")) (assignment_in_parens (rest_target (codes "a")))))) ∷ []) None
  pub parameter_default : Finds false true (function_node (array_pattern (parameter_with (assignment_in_parens (rest_target (codes "a")))) ∷ []) [] ∷ []) None
  pub bound_helper : Finds false true (rest_declaration (codes "babelHelpers") ∷ []) (Some (HelperName, 1))
  -- `function f(babelHelpers) { ({ ...a } = b); }` and `function f(babelHelpers) { [{ ...a }] = b; }`; `function f(babelHelpers) {} ({ ...a } = b);`
  pub bound_target : Finds false true (function_node (word (codes "babelHelpers") ∷ []) (statement_node (assignment_in_parens (rest_target (codes "a"))) ∷ []) ∷ []) (Some (HelperName, 8))
  pub bound_nested : Finds false true (function_node (word (codes "babelHelpers") ∷ []) (array_assignment (rest_target (codes "a")) ∷ []) ∷ []) (Some (HelperName, 8))
  pub bound_elsewhere : Finds false true (function_node (word (codes "babelHelpers") ∷ []) [] ∷ statement_node (assignment_in_parens (rest_target (codes "a"))) ∷ []) None
  -- where `using` is lowered, `for (using a of a) ;`
  pub using_head : FindsUsing (loop_over (codes "using") (word (codes "a")) (word (codes "a")) ∷ []) (Some (HeadName, 1))
  -- `function f(g) { using a = b; function g() {} }`, and without the parameter
  pub using_function : FindsUsing (function_node (word (codes "g") ∷ []) (declaration (codes "using") (word (codes "a")) ∷ named_function (codes "g") [] [] ∷ []) ∷ []) (Some (UsingFunction, 1))
  pub using_declared : FindsUsing (function_node [] (declaration (codes "using") (word (codes "a")) ∷ named_function (codes "g") [] [] ∷ []) ∷ []) (Some (HelperName, 4))
