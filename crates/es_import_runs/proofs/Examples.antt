-- Runs of programs that import their helpers, or require them, computed: they ask what the programs before ask.
use Rattle.std.proofs.Common.{◌≡◌, refl, List, [], ◌∷◌}
use Rattle.std.specs.Prelude.{None, Some, codes, false, true}
use Rattle.es_tree.specs.Tree.{Label, Tree, Trees, done, empty, node, one, ◌before◌, ◌then◌}
use Rattle.es_tree.specs.Words.{Text}
use Rattle.es_tree.specs.declared.ast_type.AstType.TheVariants.{ChainExpression, MemberExpression}
use Rattle.es_tree.specs.declared.helper.Helper.TheVariants.{ObjectSpread2}
use Rattle.es_resolution.specs.Declarations.{Bound}
use Rattle.es_runs.specs.Machine.{Move, Question}
use Rattle.es_runs.specs.Machine.Move.{answer}
use Rattle.es_runs.specs.Machine.OwnValue.{list}
use Rattle.es_runs.specs.Machine.Question.{call, get, of_statement, read, write}
use Rattle.es_runs.specs.Machine.StatementQuestion.{copy, import_name, make}
use Rattle.es_runs.specs.Machine.Value.{own, text, undefined}
use Rattle.es_runs.specs.Machine.Values.{none, ◌and◌}
use Rattle.es_runs.specs.Rules.{binary_node, conditional_at, logical_node, null_node, void_zero_node}
use Rattle.es_runs.specs.Runs.{made, program}
use Rattle.es_statement_runs.specs.Helpers.Supply.{by_global, by_import, by_require}
use Rattle.es_statement_runs.specs.Runs.{outcome, run}
use Rattle.es_statement_runs.specs.Runs.Outcome.{outside}
use Rattle.es_statement_runs.proofs.Examples.{a_host, assign, called as call_with, helper_of, member, object, questions, spread_of, statement, string, x_}
use Rattle.es_statement_runs.proofs.HelperExamples.{declarator, declares, default_of, import_of}
use Rattle.es_helper_imports.specs.Imported.{imported_as, unmarked}
use Rattle.es_import_runs.specs.Laws.{CallsSpread, RunUnder}
use Rattle.es_import_runs.proofs.Programs.{law_importing_program_proof}

abbrev moves : List Move
moves = answer (a_host 1) ∷ answer (a_host 2) ∷ answer (a_host 3) ∷ answer (a_host 4) ∷ []

abbrev six_moves : List Move
six_moves = answer (a_host 1) ∷ answer (a_host 2) ∷ answer undefined ∷ answer (a_host 3) ∷ answer (a_host 4) ∷ answer (a_host 5) ∷ []

-- `import b from "n"; y = babelHelpers.objectSpread2({}, b);`, as a module or as a script
abbrev label : Text → Label
label kind = made (Some kind ∷ []) []

abbrev copied : Trees
copied = import_of (default_of (codes "b") before empty) (codes "n") before statement (assign (x_ (codes "y")) (helper_of (codes "objectSpread2") (object empty before x_ (codes "b") before empty))) before empty

abbrev copying : Text → Tree
copying kind = program (label kind) empty copied

abbrev importing : Text → Tree
importing kind = imported_as (codes "m") (ObjectSpread2 ∷ []) (unmarked (codes "_objectSpread" ∷ [])) (copying kind)

abbrev asks : List Question
asks = write (codes "y") (a_host 3) ∷ of_statement (make (own (list (a_host 2 and none)) and none)) ∷ of_statement (copy (a_host 1) none) ∷ of_statement (import_name (codes "n") (codes "default")) ∷ []

global_asks : questions (run by_global 0 (copying (codes "module")) undefined moves) ≡ asks
global_asks = refl

-- behind that import stands `import _objectSpread from "m/helpers/objectSpread2";`
import_asks : questions (run (by_import (codes "m")) 0 (importing (codes "module")) undefined moves) ≡ asks
import_asks = refl

-- or `var _objectSpread = require("m/helpers/objectSpread2");`
require_asks : questions (run (by_require (codes "m")) 0 (importing (codes "script")) undefined moves) ≡ asks
require_asks = refl

-- helpers of another module are asked for
other_asks : questions (run (by_import (codes "k")) 0 (importing (codes "module")) undefined (answer (a_host 1) ∷ answer (a_host 2) ∷ [])) ≡
    of_statement (make none) ∷ of_statement (import_name (codes "m/helpers/objectSpread2") (codes "default")) ∷ of_statement (import_name (codes "n") (codes "default")) ∷ []
other_asks = refl

-- `f = require("fs"); y = babelHelpers.objectSpread2({}, b);`
abbrev scripted : Trees
scripted = statement (assign (x_ (codes "f")) (call_with (x_ (codes "require")) (string (codes "fs") before empty))) before statement (assign (x_ (codes "y")) (helper_of (codes "objectSpread2") (object empty before x_ (codes "b") before empty))) before empty

-- where a script binds `require` itself, its own is called, before it is set
abbrev binding : Tree
binding = imported_as (codes "m") (ObjectSpread2 ∷ []) (unmarked (codes "_objectSpread" ∷ [])) (program (label (codes "script")) empty (declares (codes "var") (declarator (x_ (codes "require")) (x_ (codes "b")) before empty) before scripted))

binding_fails : outcome (run (by_require (codes "m")) 0 binding undefined moves) ≡ outside
binding_fails = refl

-- The law speaks of the module, and of such a script.
abbrev called : Bound
called = record { name = codes "_objectSpread"; symbol = None }

calls : CallsSpread (codes "m") (label (codes "module")) empty copied called
calls = record {
  form = refl;
  spreads = refl;
  called = refl;
  global = refl;
  silent = refl;
  helpers = refl;
  require = λ e. refl;
  name = refl;
  undeclared = refl;
  seen = record { global = refl; require = refl };
  math = refl;
  no_cell = refl;
}

runs_alike : RunUnder by_global (by_import (codes "m")) (copying (codes "module")) (importing (codes "module"))
runs_alike = law_importing_program_proof (codes "m") (label (codes "module")) empty copied called calls

abbrev script_of : Tree
script_of = program (label (codes "script")) empty scripted

abbrev requiring : Tree
requiring = imported_as (codes "m") (ObjectSpread2 ∷ []) (unmarked (codes "_objectSpread" ∷ [])) script_of

script_asks : questions (run (by_require (codes "m")) 0 requiring undefined six_moves) ≡ questions (run by_global 0 script_of undefined six_moves)
script_asks = refl

script_asked : questions (run by_global 0 script_of undefined six_moves) ≡
    write (codes "y") (a_host 5) ∷ of_statement (make (own (list (a_host 4 and none)) and none)) ∷ of_statement (copy (a_host 3) none) ∷ read (codes "b") ∷ write (codes "f") (a_host 2) ∷ call (a_host 1) undefined (text (codes "fs") and none) ∷ read (codes "require") ∷ []
script_asked = refl

script_calls : CallsSpread (codes "m") (label (codes "script")) empty scripted called
script_calls = record {
  form = refl;
  spreads = refl;
  called = refl;
  global = refl;
  silent = refl;
  helpers = refl;
  require = λ e. refl;
  name = refl;
  undeclared = refl;
  seen = record { global = refl; require = refl };
  math = refl;
  no_cell = refl;
}

script_alike : RunUnder by_global (by_require (codes "m")) script_of requiring
script_alike = law_importing_program_proof (codes "m") (label (codes "script")) empty scripted called script_calls

-- BESIDE A CHAIN: `import b from "n"; y = { ...b?.c };`, and what it becomes, with its helper imported
abbrev chain : Tree
chain = node ChainExpression (made [] []) (one (node MemberExpression (made [] (false ∷ true ∷ [])) (one (x_ (codes "b")) then (one (x_ (codes "c")) then done))) then done)

abbrev tested : Tree
tested = conditional_at (made [] []) (logical_node (codes "||") (binary_node (codes "===") (x_ (codes "b")) null_node) (binary_node (codes "===") (x_ (codes "b")) void_zero_node)) void_zero_node (member (x_ (codes "b")) (codes "c"))

abbrev copies_to : Tree → Trees
copies_to e = import_of (default_of (codes "b") before empty) (codes "n") before statement (assign (x_ (codes "y")) e) before empty

abbrev chained : Tree
chained = program (label (codes "module")) empty (copies_to (object (spread_of chain before empty)))

abbrev unchained : Tree
unchained = imported_as (codes "m") (ObjectSpread2 ∷ []) (unmarked (codes "_objectSpread" ∷ [])) (program (label (codes "module")) empty (copies_to (helper_of (codes "objectSpread2") (object empty before tested before empty))))

abbrev five_moves : List Move
five_moves = answer (a_host 1) ∷ answer (a_host 2) ∷ answer (a_host 3) ∷ answer (a_host 4) ∷ answer (a_host 5) ∷ []

abbrev chain_asks : List Question
chain_asks = write (codes "y") (a_host 4) ∷ of_statement (make (own (list (a_host 3 and none)) and none)) ∷ of_statement (copy (a_host 2) none) ∷ get (a_host 1) (text (codes "c")) ∷ of_statement (import_name (codes "n") (codes "default")) ∷ []

chained_asks : questions (run (by_import (codes "m")) 0 chained undefined five_moves) ≡ chain_asks
chained_asks = refl

unchained_asks : questions (run (by_import (codes "m")) 0 unchained undefined five_moves) ≡ chain_asks
unchained_asks = refl
