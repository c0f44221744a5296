-- Programs that are lowered step by step, each with what is reached from it, the steps being those of the core rules.
use Rattle.std.specs.Prelude.{◌≡◌, ℕ, zero, suc, ◌==◌, List, [], ◌∷◌, Bool, true, false, not, Some, codes, map}
use Rattle.es_tree.specs.Words.{Text}
use Rattle.es_tree.specs.Fresh.{also, is_among}
use Rattle.es_tree.specs.Names.{names_of}
use Rattle.es_tree.specs.Tree.{Tree, node, done, ◌then◌, missing, one, many, statements, empty, ◌before◌, trees}
use Rattle.es_tree.specs.declared.ast_type.AstType.TheVariants.{AssignmentPattern, CallExpression, ClassDeclaration, FunctionDeclaration, FunctionExpression, MemberExpression, MethodDefinition, NumericLiteral, Program, TryStatement}
use Rattle.es_tree.specs.declared.options.EnvOptions.{EnvOptions}
use Rattle.es_resolution.specs.Declarations.{Bound}
use Rattle.es_resolution.specs.Resolved.{IsResolved}
use Rattle.es_runs.specs.Rules.{assign_node, binary_node, conditional_node, logical_node, null_node, void_zero_node}
use Rattle.es_steps.specs.CoreRules.{CoreRule}
use Rattle.es_steps.specs.Nodes.{made, identifier, word, declarator, declaration_node, body_node, block_node, statement_node, return_node, catch_node, arrow_node}
use Rattle.es_steps.specs.Laws.{nothing_beside}
use Rattle.es_steps.specs.Open.{Open, open_node, OpenFields, ends, ◌and◌, OpenField, gap, child, body, children, list, OpenTrees, nil, ◌next◌, flanked, opened}
use Rattle.es_steps.specs.Rules.{with_made}
use Rattle.es_steps.specs.Steps.{Whole, Site, the_program, site_in, Step, Steps}
use Rattle.es_steps.specs.Exponentiation.{power_at, ExponentiationRule}

-- NODES

abbrev pub bound : Text → ℕ → Bound
bound x s = record { name = x; symbol = Some s }

-- a name with its symbol
abbrev pub name : Text → ℕ → Tree
name x s = identifier (bound x s)

abbrev pub number : Text → Tree
number x = node NumericLiteral (made (Some x ∷ Some x ∷ []) []) done

abbrev pub coalesce : Tree → Tree → Tree
coalesce l r = logical_node (codes "??") l r

abbrev pub called : Tree → Tree
called f = node CallExpression (made [] (false ∷ [])) (one f then many empty then done)

abbrev pub member : Tree → Text → Tree
member o x = node MemberExpression (made [] (false ∷ false ∷ [])) (one o then one (word x) then done)

-- `first !== null && again !== void 0 ? again : r`
abbrev pub checked : Tree → Tree → Tree → Tree
checked begin again r = conditional_node (logical_node (codes "&&") (binary_node (codes "!==") begin null_node) (binary_node (codes "!==") again void_zero_node)) again r

abbrev pub stored : Bound → Tree → Tree → Tree
stored x l r = checked (assign_node (identifier x) l) (identifier x) r

abbrev pub function_node : Tree → List Tree → List Tree → Tree
function_node f params ts = node FunctionDeclaration (made [] (false ∷ false ∷ [])) (one f then many (trees params) then one (body_node (trees ts)) then done)

abbrev pub script : List Tree → Tree
script ts = node Program (made (Some (codes "script") ∷ []) []) (many empty then statements (trees ts) then done)

-- these statements after a `var` of these names
abbrev pub with_vars_of : List Bound → List Tree → List Tree
with_vars_of bs ts = declaration_node (codes "var") (map declarator bs) ∷ ts

-- STEPS

-- before the first step: the symbols of the source are below this, and these are written
abbrev pub first_whole : Tree → ℕ → (ℕ → Bool) → Whole
first_whole p free written = record { in_use = also (codes "Math") (is_among (names_of p)); steady = λ s. not (written s); free_symbol = free; called = λ s. []; made = [] }

abbrev pub nothing_written : ℕ → Bool
nothing_written s = false

-- temporaries that are taken one after the other
abbrev pub after_taking : List Bound → Whole → Whole
after_taking [] w = w
after_taking (b ∷ bs) w = after_taking bs (with_made (b ∷ []) w)

-- from the program p, which is resolved, steps that take these temporaries lead to q
pub record Derives (o : EnvOptions) (p : Tree) (w : Whole) (bs : List Bound) (q : Tree) : Type 0 where
  pub resolved : IsResolved p
  pub steps : Steps (Step (CoreRule o) the_program) (nothing_beside w) (opened p) (nothing_beside (after_taking bs w)) (opened q)

-- PROGRAMS

-- `() => (f() ?? g()) ?? 1;`: two steps in the body of an arrow that is an expression, and what is pending for it is written
abbrev pub arrow_source : Tree
arrow_source = script (statement_node (arrow_node (coalesce (coalesce (called (word (codes "f"))) (called (word (codes "g")))) (number (codes "1")))) ∷ [])

abbrev pub arrow_first : Bound
arrow_first = bound (codes "_ref") 0

abbrev pub arrow_second : Bound
arrow_second = bound (codes "_f") 1

abbrev pub arrow_result : Tree
arrow_result = stored arrow_first (stored arrow_second (called (word (codes "f"))) (called (word (codes "g")))) (number (codes "1"))

abbrev pub arrow_reached : Tree
arrow_reached = script (statement_node (arrow_node (body_node (trees (with_vars_of (arrow_first ∷ arrow_second ∷ []) (return_node arrow_result ∷ []))))) ∷ [])

-- `function f(x) { x ?? 1; } x = 2;`: the parameter is read again, while another `x` is written outside
abbrev pub parameter_source : Tree → Tree
parameter_source e = script (function_node (name (codes "f") 0) (name (codes "x") 1 ∷ []) (statement_node e ∷ []) ∷ statement_node (assign_node (word (codes "x")) (number (codes "2"))) ∷ [])

-- `function f(Math) {} function g() { 2 ** 3; }`: `Math` is bound in one function and free in the other
abbrev pub math_source : Tree → Tree
math_source e = script (function_node (name (codes "f") 0) (name (codes "Math") 2 ∷ []) (statement_node (binary_node (codes "**") (number (codes "2")) (number (codes "3"))) ∷ []) ∷ function_node (name (codes "g") 1) [] (statement_node e ∷ []) ∷ [])

-- `try {} catch (e) { e ?? 1; }`: the parameter is read again
abbrev pub catch_source : Tree → Tree
catch_source e = script (node TryStatement (made [] []) (one (block_node empty) then one (catch_node (name (codes "e") 0) (block_node (statement_node e before empty))) then missing then done) ∷ [])

-- `class C { m() { return C ?? 1; } } C = 2;`: inside the class its name is its own, which nothing writes
abbrev pub class_source : Tree → Tree
class_source e = script (node ClassDeclaration (record (made [] []) { marks = Some 1 ∷ [] }) (one (name (codes "C") 0) then missing then many (node MethodDefinition (made (Some (codes "method") ∷ []) (false ∷ false ∷ [])) (one (word (codes "m")) then one (node FunctionExpression (made [] (false ∷ false ∷ [])) (missing then many empty then one (body_node (return_node e before empty)) then done)) then done) before empty) then done) ∷ statement_node (assign_node (name (codes "C") 0) (number (codes "2"))) ∷ [])

abbrev pub outer_written : ℕ → Bool
outer_written s = s == 0

-- `function f(a = b.c ?? 1) {}`: the default is wrapped, and then lowered in the arrow's body
abbrev pub slot_source : Tree → Tree
slot_source e = script (function_node (name (codes "f") 0) (node AssignmentPattern (made [] []) (one (name (codes "a") 1) then one e then done) ∷ []) [] ∷ [])

abbrev pub slot_temporary : Bound
slot_temporary = bound (codes "_b$c") 2

abbrev pub slot_reached : Tree
slot_reached = called (arrow_node (body_node (trees (with_vars_of (slot_temporary ∷ []) (return_node (stored slot_temporary (member (word (codes "b")) (codes "c")) (number (codes "1"))) ∷ [])))))

-- PLACES

abbrev pub tree_in : OpenTrees → ℕ → Open → Open
tree_in nil j t = t
tree_in (u next us) zero t = u
tree_in (u next us) (suc j) t = tree_in us j t
tree_in (flanked bs u cs us) zero t = u
tree_in (flanked bs u cs us) (suc j) t = tree_in us j t

abbrev pub tree_of : OpenField → ℕ → Open → Open
tree_of gap j t = t
tree_of (child u) j t = u
tree_of (body p u) j t = u
tree_of (children us) j t = tree_in us j t
tree_of (list p x a us) j t = tree_in us j t

abbrev pub tree_at : OpenFields → ℕ → ℕ → Open → Open
tree_at ends i j t = t
tree_at (f and fs) zero j t = tree_of f j t
tree_at (f and fs) (suc i) j t = tree_at fs i j t

-- a field of a node, and the place in its list, counted from 0
pub record Way : Type 0 where
  pub field : ℕ
  pub place : ℕ

abbrev pub to : ℕ → ℕ → Way
to i j = record { field = i; place = j }

-- the site that this way leads to
abbrev pub site_along : Site → Open → List Way → Site
site_along n t [] = n
site_along n (open_node k l fs) (y ∷ ys) = site_along (site_in n k l fs y.field) (tree_at fs y.field y.place (open_node k l fs)) ys

-- the expression in the body of the first function of a script
abbrev pub in_first_function : List Way
in_first_function = to 1 0 ∷ to 2 0 ∷ to 1 0 ∷ to 0 0 ∷ []

pub record DerivedPrograms (o : EnvOptions) : Type 0 where
  pub arrow : Derives o arrow_source (first_whole arrow_source 0 nothing_written) (arrow_first ∷ arrow_second ∷ []) arrow_reached
  pub parameter : let e = coalesce (name (codes "x") 1) (number (codes "1")) in Derives o (parameter_source e) (first_whole (parameter_source e) 2 nothing_written) [] (parameter_source (checked (name (codes "x") 1) (name (codes "x") 1) (number (codes "1"))))
  pub math : let e = binary_node (codes "**") (number (codes "2")) (number (codes "3")) in Derives o (math_source e) (first_whole (math_source e) 3 nothing_written) [] (math_source (power_at (made [] []) (number (codes "2")) (number (codes "3"))))
  -- and where it is bound no power is lowered
  pub math_bound : (w : Whole) (bs : List Bound) (t u : Tree) → let e = binary_node (codes "**") (number (codes "2")) (number (codes "3")) in ExponentiationRule (site_along the_program (opened (math_source e)) in_first_function) w bs t u → ⊥
  pub catching : let e = coalesce (name (codes "e") 0) (number (codes "1")) in Derives o (catch_source e) (first_whole (catch_source e) 1 nothing_written) [] (catch_source (checked (name (codes "e") 0) (name (codes "e") 0) (number (codes "1"))))
  pub class_name : let e = coalesce (name (codes "C") 1) (number (codes "1")) in Derives o (class_source e) (first_whole (class_source e) 2 outer_written) [] (class_source (checked (name (codes "C") 1) (name (codes "C") 1) (number (codes "1"))))
  pub slot : o.es2020.nullish_coalescing_operator ≡ true → let e = coalesce (member (word (codes "b")) (codes "c")) (number (codes "1")) in Derives o (slot_source e) (first_whole (slot_source e) 2 nothing_written) (slot_temporary ∷ []) (slot_source slot_reached)

-- each program above is lowered so, whatever else is asked for
abbrev pub LawDerivedPrograms : Type 0
LawDerivedPrograms = (o : EnvOptions) → DerivedPrograms o
