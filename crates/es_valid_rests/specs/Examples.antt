-- Programs with object rests, and what steps of their rules leave of them. Where a pattern with a rest has a default value, a step of the
-- rule as it stands can leave what is no program.
use Rattle.std.specs.Prelude.{◌≡◌, List, [], ◌∷◌, true, false, Some, codes}
use Rattle.es_tree.specs.CoreStaticRules.{Break}
use Rattle.es_tree.specs.Fresh.{IsFreshName, node_base}
use Rattle.es_tree.specs.HasForm.{has_form}
use Rattle.es_tree.specs.StaticRules.{breaks}
use Rattle.es_tree.specs.Tree.{Tree, node, Fields, done, ◌then◌, missing, one, many, statements, empty, ◌before◌, trees}
use Rattle.es_tree.specs.Words.{Text}
use Rattle.es_tree.specs.declared.ast_type.AstType.TheVariants.{AssignmentPattern, CatchClause, FunctionDeclaration, ObjectPattern, PatternProperty, Program, RestElement, TryStatement}
use Rattle.es_tree.specs.declared.error.Rule.TheVariants.{DuplicateName}
use Rattle.es_tree.specs.declared.table.Sort.TheVariants.{Program as s-Program}
use Rattle.es_resolution.specs.Declarations.{Bound}
use Rattle.es_steps.specs.Laws.{nothing_beside}
use Rattle.es_steps.specs.Nodes.{block_node, body_node, call_node, declaration_node, declarator_with, identifier, made, statement_node, word}
use Rattle.es_steps.specs.ObjectRest.{SplitRule, mapped_value, whole_value}
use Rattle.es_steps.specs.Open.{opened}
use Rattle.es_steps.specs.Patterns.{let_statement}
use Rattle.es_steps.specs.Rules.{next_name, with_made}
use Rattle.es_steps.specs.Steps.{Ledger, Site, Spot, Whole, the_program, Step, Steps}
use Rattle.es_steps.specs.Steps.Spot.{at_node}
use Rattle.es_valid_rests.specs.RestRules.{RestPart, leaves_bindings}

-- NODES

abbrev pub program_of : Text → List Tree → Tree
program_of kind ts = node Program (made (Some kind ∷ []) []) (many empty then statements (trees ts) then done)

-- `{ a, ...b }`
abbrev pub rest_members : Fields
rest_members = many (trees (node PatternProperty (made [] (true ∷ false ∷ [])) (one (word (codes "a")) then one (word (codes "a")) then done) ∷ node RestElement (made [] []) (one (word (codes "b")) then done) ∷ [])) then done

abbrev pub rest_pattern : Tree
rest_pattern = node ObjectPattern (made [] []) rest_members

-- `{ k: v }`
abbrev pub keyed_pattern : Tree → Tree
keyed_pattern v = node ObjectPattern (made [] []) (many (trees (node PatternProperty (made [] (false ∷ false ∷ [])) (one (word (codes "k")) then one v then done) ∷ [])) then done)

abbrev pub let_of : List Tree → Tree
let_of ds = declaration_node (codes "let") ds

-- STEPS from one program to another

abbrev pub Leads : (Site → Ledger → Spot → Ledger → Spot → Type 0) → Whole → Bound → Tree → Tree → Type 0
Leads R w b p q = Steps (Step R the_program) (nothing_beside w) (opened p) (nothing_beside (with_made (b ∷ []) w)) (opened q)

-- a program, and what it becomes, which is one
pub record BecomesProgram (w : Whole) (b : Bound) (p q : Tree) : Type 0 where
  pub formed : has_form s-Program p ≡ true
  pub kept : breaks p ≡ []
  pub steps : Leads RestPart w b p q
  pub formed_after : has_form s-Program q ≡ true
  pub kept_after : breaks q ≡ []

-- CATCH CLAUSES: `try {} catch ({ a, ...b }) { f(b); }` becomes `try {} catch (_ref) { let { a, ...b } = _ref; { f(b); } }`

abbrev pub the_ref : Whole → Bound
the_ref w = next_name w (codes "_ref")

abbrev pub use_of_rest : Tree
use_of_rest = block_node (trees (statement_node (call_node (word (codes "f")) (word (codes "b") ∷ [])) ∷ []))

abbrev pub tried : Tree → Tree → Tree
tried p b = node TryStatement (made [] []) (one (block_node empty) then one (node CatchClause (made [] []) (one p then one b then done)) then missing then done)

abbrev pub caught : Tree
caught = program_of (codes "script") (tried rest_pattern use_of_rest ∷ [])

abbrev pub caught_by_name : Whole → Tree
caught_by_name w = program_of (codes "script") (tried (identifier (the_ref w)) (block_node (trees (let_statement rest_pattern (the_ref w) ∷ use_of_rest ∷ []))) ∷ [])

-- PARAMETERS: `function f({ a, ...b }) { f(b); }` becomes `function f(_ref) { let { a, ...b } = _ref; f(b); }`

abbrev pub function_with : Tree → List Tree → Tree
function_with p ts = node FunctionDeclaration (made [] []) (one (word (codes "f")) then many (p before empty) then one (body_node (trees ts)) then done)

abbrev pub called_with_rest : Tree
called_with_rest = statement_node (call_node (word (codes "f")) (word (codes "b") ∷ []))

abbrev pub with_parameter : Tree
with_parameter = function_with rest_pattern (called_with_rest ∷ [])

abbrev pub parameter_moved : Whole → Tree
parameter_moved w = function_with (identifier (the_ref w)) (let_statement rest_pattern (the_ref w) ∷ called_with_rest ∷ [])

-- where the body declares a name of the pattern, by `var`, the pattern has to stay
abbrev pub var_beside : Tree
var_beside = declaration_node (codes "var") (declarator_with (word (codes "b")) (word (codes "f")) ∷ [])

pub record HasToStay (p q : Tree) (b : Break) : Type 0 where
  pub formed : has_form s-Program p ≡ true
  pub kept : breaks p ≡ []
  pub broken : breaks q ≡ b ∷ []

-- A REST ALONE: `let { ...b } = s;` becomes `let _s = s, b = babelHelpers.extends({}, (babelHelpers.objectDestructuringEmpty(_s), _s));`

abbrev pub the_source : Whole → Bound
the_source w = next_name w (codes "_s")

abbrev pub pattern_of : List Tree → Tree
pattern_of ps = node ObjectPattern (made [] []) (many (trees ps) then done)

abbrev pub the_rest : Tree
the_rest = node RestElement (made [] []) (one (word (codes "b")) then done)

abbrev pub declared_alone : Tree
declared_alone = let_of (declarator_with (pattern_of (the_rest ∷ [])) (word (codes "s")) ∷ [])

abbrev pub copied_whole : Whole → Tree
copied_whole w = let_of (declarator_with (identifier (the_source w)) (word (codes "s")) ∷ declarator_with (word (codes "b")) (whole_value (identifier (the_source w))) ∷ [])

-- BESIDE A COMPUTED KEY: `let { [k]: a, ...b } = s;` becomes
-- `let _s = s, { [k]: a } = _s, b = babelHelpers.objectWithoutProperties(_s, [k].map(babelHelpers.toPropertyKey));`

abbrev pub computed_property : Tree
computed_property = node PatternProperty (made [] (false ∷ true ∷ [])) (one (word (codes "k")) then one (word (codes "a")) then done)

abbrev pub declared_computed : Tree
declared_computed = let_of (declarator_with (pattern_of (computed_property ∷ the_rest ∷ [])) (word (codes "s")) ∷ [])

abbrev pub mapped_keys : Whole → Tree
mapped_keys w = let_of (declarator_with (identifier (the_source w)) (word (codes "s")) ∷ declarator_with (pattern_of (computed_property ∷ [])) (identifier (the_source w)) ∷ declarator_with (word (codes "b")) (mapped_value (identifier (the_source w)) (word (codes "k") ∷ [])) ∷ [])

-- DEFAULT VALUES: `let { k: { a, ...b } = d } = s;`, where the pattern moves with its default, as `let { k: _ref } = s, { a, ...b } = d = _ref;`,
-- that is none

abbrev pub with_default : Tree
with_default = node AssignmentPattern (made [] []) (one rest_pattern then one (word (codes "d")) then done)

abbrev pub defaulted : Tree
defaulted = let_of (declarator_with (keyed_pattern with_default) (word (codes "s")) ∷ [])

abbrev pub moved_with_default : Whole → Tree
moved_with_default w = let_of (declarator_with (keyed_pattern (identifier (the_ref w))) (word (codes "s")) ∷ declarator_with with_default (identifier (the_ref w)) ∷ [])

-- such a step has to be refused: it leaves no program
pub record LosesForm (w : Whole) (b : Bound) (t u : Tree) : Type 0 where
  pub formed : has_form s-Program (program_of (codes "script") (t ∷ [])) ≡ true
  pub kept : breaks (program_of (codes "script") (t ∷ [])) ≡ []
  pub steps : Leads SplitRule w b (program_of (codes "script") (t ∷ [])) (program_of (codes "script") (u ∷ []))
  pub lost : has_form s-Program (program_of (codes "script") (u ∷ [])) ≡ false
  pub refused : leaves_bindings (at_node u) ≡ false

pub record LawRestExamples : Type 0 where
  pub catches : (w : Whole) → IsFreshName w.in_use (codes "ref") (codes "_ref") → BecomesProgram w (the_ref w) caught (caught_by_name w)
  pub parameters : (w : Whole) → IsFreshName w.in_use (codes "ref") (codes "_ref") → w.in_use (codes "a") ≡ true → w.in_use (codes "b") ≡ true → BecomesProgram w (the_ref w) (program_of (codes "script") (with_parameter ∷ [])) (program_of (codes "script") (parameter_moved w ∷ []))
  pub copies : (w : Whole) → IsFreshName w.in_use (node_base (word (codes "s"))) (codes "_s") → w.in_use (codes "babelHelpers") ≡ true → BecomesProgram w (the_source w) (program_of (codes "script") (declared_alone ∷ [])) (program_of (codes "script") (copied_whole w ∷ []))
  pub maps : (w : Whole) → IsFreshName w.in_use (node_base (word (codes "s"))) (codes "_s") → w.in_use (codes "babelHelpers") ≡ true → BecomesProgram w (the_source w) (program_of (codes "script") (declared_computed ∷ [])) (program_of (codes "script") (mapped_keys w ∷ []))
  pub stays : (w : Whole) → HasToStay (program_of (codes "script") (function_with rest_pattern (var_beside ∷ []) ∷ [])) (program_of (codes "script") (function_with (identifier (the_ref w)) (let_statement rest_pattern (the_ref w) ∷ var_beside ∷ []) ∷ [])) (DuplicateName, 0)
  pub defaults : (w : Whole) → IsFreshName w.in_use (codes "ref") (codes "_ref") → LosesForm w (the_ref w) defaulted (moved_with_default w)
