-- Runs of sources and of what they are lowered to with helpers, computed.
use Rattle.std.proofs.Common.{◌≡◌, refl, List, [], ◌∷◌}
use Rattle.std.specs.Prelude.{true, false, codes, Some}
use Rattle.es_tree.specs.Words.{Text}
use Rattle.es_tree.specs.declared.ast_type.AstType.TheVariants.{VariableDeclaration, VariableDeclarator, ObjectPattern, PatternProperty, RestElement, ArrayExpression, SequenceExpression, ParenthesizedExpression, ImportDeclaration, ImportDefaultSpecifier, ImportSpecifier, ForInStatement, WhileStatement, TryStatement, CatchClause, BreakStatement, ContinueStatement, ThrowStatement, TaggedTemplateExpression, TemplateLiteral, TemplateElement}
use Rattle.es_tree.specs.Tree.{Tree, node, Fields, done, ◌then◌, one, many, missing, Trees, empty, ◌before◌}
use Rattle.es_runs.specs.Machine.{Move, Question, Value, Values}
use Rattle.es_runs.specs.Machine.Value.{undefined, null, host, text, number, boolean, own}
use Rattle.es_runs.specs.Machine.OwnValue.{list, pattern_error}
use Rattle.es_runs.specs.Machine.Values.{none, ◌and◌}
use Rattle.es_runs.specs.Machine.Question.{read, write, get, call, of_statement}
use Rattle.es_runs.specs.Machine.StatementQuestion.{copy, make, keys, step, item, close, import_name, template}
use Rattle.es_runs.specs.Machine.Move.{answer, throw}
use Rattle.es_runs.specs.Machine.Cell.{holds}
use Rattle.es_runs.specs.Runs.{made, state_of, cells}
use Rattle.es_statement_runs.specs.Helpers.Supply.{by_require, by_import, no_helpers, by_global}
use Rattle.es_statement_runs.specs.Runs.{run, outcome}
use Rattle.es_statement_runs.specs.Runs.Outcome.{threw}
use Rattle.es_statement_runs.proofs.Examples.{script, plain, worded, x_, statement, assign, string, numeral, member, called, object, property, spread_of, helper_of, questions, a_host, block, label_l, break_l}

abbrev moves : List Move
moves = answer (a_host 1) ∷ answer (a_host 2) ∷ answer (a_host 3) ∷ answer (a_host 4) ∷ answer (a_host 5) ∷ answer (a_host 6) ∷ answer (a_host 7) ∷ answer (a_host 8) ∷ []

-- `y = { a: 1, ...b, c: 2 }`
abbrev pub nested_source : Tree
nested_source = script (statement (assign (x_ (codes "y")) (object (property (codes "a") (numeral (codes "1")) before spread_of (x_ (codes "b")) before property (codes "c") (numeral (codes "2")) before empty))) before empty)

abbrev pub nested_lowered : Tree
nested_lowered = script (statement (assign (x_ (codes "y")) (helper_of (codes "objectSpread2") (helper_of (codes "objectSpread2") (object (property (codes "a") (numeral (codes "1")) before empty) before x_ (codes "b") before empty) before object empty before object (property (codes "c") (numeral (codes "2")) before empty) before empty))) before empty)

nested_asks : questions (run by_global 0 nested_lowered undefined moves) ≡ questions (run by_global 0 nested_source undefined moves)
nested_asks = refl

nested_asked : questions (run by_global 0 nested_source undefined moves) ≡
    write (codes "y") (a_host 3) ∷ of_statement (make (own (list (text (codes "a") and number (codes "1") and none)) and own (list (a_host 2 and none)) and own (list (text (codes "c") and number (codes "2") and none)) and none)) ∷ of_statement (copy (a_host 1) none) ∷ read (codes "b") ∷ []
nested_asked = refl

-- `const { a, [k]: b, ...r } = e;`
abbrev pub declares : Text → Trees → Tree
declares kind ds = worded VariableDeclaration kind (many ds then done)

abbrev pub declarator : Tree → Tree → Tree
declarator p e = plain VariableDeclarator (one p then one e then done)

abbrev pub pattern : Trees → Tree
pattern ms = plain ObjectPattern (many ms then done)

abbrev pub named : Text → Tree
named a = node PatternProperty (made [] (true ∷ false ∷ [])) (one (x_ a) then one (x_ a) then done)

abbrev pub computed : Tree → Text → Tree
computed k b = node PatternProperty (made [] (false ∷ true ∷ [])) (one k then one (x_ b) then done)

abbrev pub rest : Text → Tree
rest r = plain RestElement (one (x_ r) then done)

abbrev array_of : Fields → Tree
array_of es = plain ArrayExpression es

abbrev pub split_source : Tree
split_source = script (declares (codes "const") (declarator (pattern (named (codes "a") before computed (x_ (codes "k")) (codes "b") before rest (codes "r") before empty)) (x_ (codes "e")) before empty) before empty)

abbrev pub key_array : Text → Tree
key_array k = called (member (array_of (one (string (codes "a")) then one (x_ k) then done)) (codes "map")) (member (x_ (codes "babelHelpers")) (codes "toPropertyKey") before empty)

abbrev pub split_lowered : Tree
split_lowered = script (declares (codes "const") (
    declarator (x_ (codes "_e")) (x_ (codes "e")) before
    declarator (pattern (named (codes "a") before empty)) (x_ (codes "_e")) before
    declarator (x_ (codes "_k")) (x_ (codes "k")) before
    declarator (pattern (computed (x_ (codes "_k")) (codes "b") before empty)) (x_ (codes "_e")) before
    declarator (x_ (codes "r")) (helper_of (codes "objectWithoutProperties") (x_ (codes "_e") before key_array (codes "_k") before empty)) before empty) before empty)

split_asks : questions (run by_global 0 split_lowered undefined moves) ≡ questions (run by_global 0 split_source undefined moves)
split_asks = refl

split_asked : questions (run by_global 0 split_source undefined moves) ≡
    of_statement (make (own (list (a_host 5 and none)) and none)) ∷ of_statement (copy (a_host 1) (text (codes "a") and a_host 3 and none)) ∷ get (a_host 1) (a_host 3) ∷ read (codes "k") ∷ get (a_host 1) (text (codes "a")) ∷ read (codes "e") ∷ []
split_asked = refl

split_null : outcome (run by_global 0 split_lowered undefined (answer null ∷ [])) ≡ outcome (run by_global 0 split_source undefined (answer null ∷ []))
split_null = refl

-- below the top, with a constant of excluded keys: `{ let { a, ...r } = e; }`
abbrev below_source : Tree
below_source = script (block (declares (codes "let") (declarator (pattern (named (codes "a") before rest (codes "r") before empty)) (x_ (codes "e")) before empty) before empty) before empty)

abbrev below_lowered : Tree
below_lowered = script (
    declares (codes "const") (declarator (x_ (codes "_excluded")) (array_of (one (string (codes "a")) then done)) before empty) before
    block (declares (codes "let") (
    declarator (x_ (codes "_e")) (x_ (codes "e")) before
    declarator (pattern (named (codes "a") before empty)) (x_ (codes "_e")) before
    declarator (x_ (codes "r")) (helper_of (codes "objectWithoutProperties") (x_ (codes "_e") before x_ (codes "_excluded") before empty)) before empty) before empty) before empty)

below_asks : questions (run by_global 0 below_lowered undefined moves) ≡ questions (run by_global 0 below_source undefined moves)
below_asks = refl

-- a constant that is read elsewhere asks array
abbrev read_elsewhere : Tree
read_elsewhere = script (
    declares (codes "const") (declarator (x_ (codes "_excluded")) (array_of (one (string (codes "a")) then done)) before empty) before
    statement (x_ (codes "_excluded")) before empty)

elsewhere_asks : questions (run by_global 0 read_elsewhere undefined moves) ≡ of_statement (Rattle.es_runs.specs.Machine.StatementQuestion.array (text (codes "a") and none)) ∷ []
elsewhere_asks = refl

-- `var { ...r } = e;`
abbrev empty_source : Tree
empty_source = script (declares (codes "var") (declarator (pattern (rest (codes "r") before empty)) (x_ (codes "e")) before empty) before empty)

abbrev empty_lowered : Tree
empty_lowered = script (declares (codes "var") (
    declarator (x_ (codes "_e")) (x_ (codes "e")) before
    declarator (x_ (codes "r")) (helper_of (codes "extends") (object empty before plain ParenthesizedExpression (one (plain SequenceExpression (many (helper_of (codes "objectDestructuringEmpty") (x_ (codes "_e") before empty) before x_ (codes "_e") before empty) then done)) then done) before empty)) before empty) before empty)

empty_asks : questions (run by_global 0 empty_lowered undefined moves) ≡ questions (run by_global 0 empty_source undefined moves)
empty_asks = refl

empty_null : outcome (run by_global 0 empty_lowered undefined (answer null ∷ [])) ≡ threw (own pattern_error)
empty_null = refl

empty_rest : cells (state_of (run by_global 0 empty_lowered undefined moves)) (codes "r") ≡ holds (a_host 3)
empty_rest = refl

-- Runtime in a module: `import _objectSpread2 from "m/helpers/objectSpread2"; import b, { c as d } from "n"; y = { ...b }; d;`
abbrev pub module_text : Text → Tree
module_text t = string t

abbrev pub import_of : Trees → Text → Tree
import_of ss m = plain ImportDeclaration (many ss then one (module_text m) then many empty then done)

abbrev pub default_of : Text → Tree
default_of x = plain ImportDefaultSpecifier (one (x_ x) then done)

abbrev name_of : Text → Text → Tree
name_of x y = plain ImportSpecifier (one (x_ x) then one (x_ y) then done)

abbrev module_source : Tree
module_source = script (import_of (default_of (codes "b") before name_of (codes "c") (codes "d") before empty) (codes "n") before statement (assign (x_ (codes "y")) (object (spread_of (x_ (codes "b")) before empty))) before statement (x_ (codes "d")) before empty)

abbrev module_lowered : Tree
module_lowered = script (import_of (default_of (codes "_objectSpread2") before empty) (codes "m/helpers/objectSpread2") before import_of (default_of (codes "b") before name_of (codes "c") (codes "d") before empty) (codes "n") before
    statement (assign (x_ (codes "y")) (called (x_ (codes "_objectSpread2")) (object empty before x_ (codes "b") before empty))) before statement (x_ (codes "d")) before empty)

module_asks : questions (run (by_import (codes "m")) 0 module_lowered undefined moves) ≡ questions (run (by_import (codes "m")) 0 module_source undefined moves)
module_asks = refl

module_asked : questions (run (by_import (codes "m")) 0 module_source undefined moves) ≡
    write (codes "y") (a_host 4) ∷ of_statement (make (own (list (a_host 3 and none)) and none)) ∷ of_statement (copy (a_host 1) none) ∷ of_statement (import_name (codes "n") (codes "c")) ∷ of_statement (import_name (codes "n") (codes "default")) ∷ []
module_asked = refl

-- Runtime in a script: `var _o = require("m/helpers/objectSpread2"); y = _o({}, b);`
abbrev required_lowered : Tree
required_lowered = script (declares (codes "var") (declarator (x_ (codes "_o")) (called (x_ (codes "require")) (string (codes "m/helpers/objectSpread2") before empty)) before empty) before
    statement (assign (x_ (codes "y")) (called (x_ (codes "_o")) (object empty before x_ (codes "b") before empty))) before empty)

required_asks : questions (run (by_require (codes "m")) 0 required_lowered undefined moves) ≡ write (codes "y") (a_host 3) ∷ of_statement (make (own (list (a_host 2 and none)) and none)) ∷ of_statement (copy (a_host 1) none) ∷ read (codes "b") ∷ []
required_asks = refl

-- `l: while (a) { try { continue; } finally { break l; } }`: the finalizer's end wins
abbrev finally_script : Tree
finally_script = script (label_l (plain WhileStatement (one (x_ (codes "a")) then one (block (plain TryStatement (one (block (plain ContinueStatement (missing then done) before empty)) then missing then one (block (break_l before empty)) then done) before empty)) then done)) before statement (x_ (codes "b")) before empty)

finally_asks : questions (run no_helpers 1 finally_script undefined moves) ≡ read (codes "b") ∷ read (codes "a") ∷ []
finally_asks = refl

-- `try { throw a; } catch ({ x }) { x; }`
abbrev catch_script : Tree
catch_script = script (plain TryStatement (one (block (plain ThrowStatement (one (x_ (codes "a")) then done) before empty)) then one (plain CatchClause (one (pattern (named (codes "x") before empty)) then one (block (statement (called (x_ (codes "x")) empty) before empty)) then done)) then missing then done) before empty)

catch_asks : questions (run no_helpers 0 catch_script undefined moves) ≡ call (a_host 2) undefined none ∷ get (a_host 1) (text (codes "x")) ∷ read (codes "a") ∷ []
catch_asks = refl

-- ``a.b`x${c}y` ``
abbrev part : Text → Tree
part t = node TemplateElement (made (Some t ∷ Some t ∷ []) []) done

abbrev tagged_script : Tree
tagged_script = script (statement (plain TaggedTemplateExpression (one (member (x_ (codes "a")) (codes "b")) then one (plain TemplateLiteral (many (part (codes "x") before part (codes "y") before empty) then many (x_ (codes "c") before empty) then done)) then done)) before empty)

tagged_asks : questions (run no_helpers 0 tagged_script undefined moves) ≡
    call (a_host 2) (a_host 1) (a_host 3 and a_host 4 and none) ∷ read (codes "c") ∷ of_statement (template (own (list (text (codes "x") and text (codes "y") and none)) and own (list (text (codes "x") and text (codes "y") and none)) and none)) ∷ get (a_host 1) (text (codes "b")) ∷ read (codes "a") ∷ []
tagged_asks = refl

-- `for (o.p in a) ;` asks keys, and closes nothing
abbrev in_script : Tree
in_script = script (plain ForInStatement (one (member (x_ (codes "o")) (codes "p")) then one (x_ (codes "a")) then one (block (plain BreakStatement (missing then done) before empty)) then done) before empty)

in_asks : questions (run no_helpers 1 in_script undefined moves) ≡
    Rattle.es_runs.specs.Machine.Question.put (a_host 5) (text (codes "p")) (a_host 4) ∷ read (codes "o") ∷ of_statement (item (a_host 2)) ∷ of_statement (step (a_host 2)) ∷ of_statement (keys (a_host 1)) ∷ read (codes "a") ∷ []
in_asks = refl
