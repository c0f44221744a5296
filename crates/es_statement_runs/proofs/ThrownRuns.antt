-- Runs of sources and of what they are lowered to, computed, with a throw at each of their questions: both have asked the same until then, ask the same
-- after it, and end alike. And wrong lowerings, which ask something else.
use Rattle.std.proofs.Common.{◌≡◌, refl, ℕ, zero, suc, List, [], ◌∷◌, length}
use Rattle.std.specs.Prelude.{None, Option, Some, codes, false, true}
use Rattle.es_tree.specs.declared.ast_type.AstType.TheVariants.{ArrayExpression, CatchClause, SequenceExpression, SwitchStatement, TryStatement, VariableDeclarator}
use Rattle.es_tree.specs.Tree.{Tree, done, ◌then◌, one, many, missing, Trees, empty, ◌before◌}
use Rattle.es_tree.specs.Words.{Text}
use Rattle.es_runs.specs.Machine.{Move, Question}
use Rattle.es_runs.specs.Machine.Question.{of_statement, read}
use Rattle.es_runs.specs.Machine.StatementQuestion.{copy, dispose, iterator}
use Rattle.es_runs.specs.Machine.Value.{boolean, number, text, undefined}
use Rattle.es_runs.specs.Machine.Values.{none, ◌and◌}
use Rattle.es_runs.specs.Machine.Move.{answer, throw}
use Rattle.es_statement_runs.specs.Helpers.Supply.{by_global}
use Rattle.es_statement_runs.specs.Runs.{Outcome, run, outcome}
use Rattle.es_statement_runs.specs.Runs.Outcome.{outside}
use Rattle.es_statement_runs.proofs.Examples.{a_host, assign, block, break_l, called, ctx, case_of, declaration, for_of, head, head_lowered, head_moves, head_source, helper_of, label_l, member, object, plain, questions, script, spread_of, statement, string, taken_by_ctx, using_lowered, using_source, wrap, x_}
use Rattle.es_statement_runs.proofs.HelperExamples.{computed, declarator, declares, key_array, named, nested_lowered, nested_source, pattern, rest, split_lowered, split_source}
use Rattle.es_statement_runs.proofs.ScopeExamples.{for_lowered, for_moves, for_using}
use Rattle.es_statement_runs.proofs.WorkedRuns.{throw_statement}

-- these moves, of which the one after so many is a throw
abbrev throwing : ℕ → List Move → List Move
throwing n [] = []
throwing zero (m ∷ ms) = throw (number (codes "7")) ∷ ms
throwing (suc n) (m ∷ ms) = m ∷ throwing n ms

-- how a run ends and what it asks, with so many turns
abbrev Told : Type 0
Told = Outcome × List Question

abbrev told : ℕ → Tree → List Move → Told
told turns p ms = (outcome (run by_global turns p undefined ms), questions (run by_global turns p undefined ms))

-- with a throw at each of so many questions
abbrev thrown : ℕ → ℕ → Tree → List Move → List Told
thrown turns zero p ms = []
thrown turns (suc n) p ms = told turns p (throwing n ms) ∷ thrown turns n p ms

-- Both have the same run of so many questions, and run alike with a throw at each of them.
pub record RunsAlike (turns n : ℕ) (source written : Tree) (ms : List Move) : Type 0 where
  pub asked : length (questions (run by_global turns source undefined ms)) ≡ n
  pub same : told turns written ms ≡ told turns source ms
  pub each : thrown turns n written ms ≡ thrown turns n source ms

abbrev hosts : List Move
hosts = answer (a_host 1) ∷ answer (a_host 2) ∷ answer (a_host 3) ∷ answer (a_host 4) ∷ answer (a_host 5) ∷ answer (a_host 6) ∷ answer (a_host 7) ∷ answer (a_host 8) ∷ answer (a_host 9) ∷ []

-- OBJECT SPREAD: `y = { a: 1, ...b, c: 2 }`
nested_throws : RunsAlike 0 4 nested_source nested_lowered hosts
nested_throws = record { asked = refl; same = refl; each = refl }

-- `y = { ...f(), ...g() }`, whose first copy is made before `g` is called
abbrev call_of : Text → Tree
call_of f = called (x_ f) empty

abbrev two_source : Tree
two_source = script (statement (assign (x_ (codes "y")) (object (spread_of (call_of (codes "f")) before spread_of (call_of (codes "g")) before empty))) before empty)

abbrev copying : Trees → Tree
copying es = helper_of (codes "objectSpread2") es

abbrev two_lowered : Tree
two_lowered = script (statement (assign (x_ (codes "y")) (copying (copying (object empty before call_of (codes "f") before empty) before call_of (codes "g") before empty))) before empty)

two_throw : RunsAlike 0 8 two_source two_lowered hosts
two_throw = record { asked = refl; same = refl; each = refl }

-- OBJECT REST: `const { a, [k]: b, ...r } = e;`
split_throws : RunsAlike 0 6 split_source split_lowered hosts
split_throws = record { asked = refl; same = refl; each = refl }

-- `let { ...r } = e;` becomes `let _e = e, r = babelHelpers.extends({}, (babelHelpers.objectDestructuringEmpty(_e), _e));`
abbrev whole_of : Text → Tree
whole_of s = helper_of (codes "extends") (object empty before plain SequenceExpression (many (helper_of (codes "objectDestructuringEmpty") (x_ s before empty) before x_ s before empty) then done) before empty)

abbrev alone_source : Tree
alone_source = script (declares (codes "let") (declarator (pattern (rest (codes "r") before empty)) (x_ (codes "e")) before empty) before empty)

abbrev alone_lowered : Tree
alone_lowered = script (declares (codes "let") (declarator (x_ (codes "_e")) (x_ (codes "e")) before declarator (x_ (codes "r")) (whole_of (codes "_e")) before empty) before empty)

alone_throws : RunsAlike 0 3 alone_source alone_lowered hosts
alone_throws = record { asked = refl; same = refl; each = refl }

-- `try { throw a; } catch ({ x, ...r }) { r.p; }`, whose pattern moves into the clause's block
abbrev without_x : Text → Tree
without_x s = helper_of (codes "objectWithoutProperties") (x_ s before plain ArrayExpression (one (string (codes "x")) then done) before empty)

abbrev catching : Tree → Trees → Tree
catching p ts = script (plain TryStatement (one (block (throw_statement (x_ (codes "a")) before empty)) then one (plain CatchClause (one p then one (block ts) then done)) then missing then done) before empty)

abbrev reads_rest : Tree
reads_rest = statement (member (x_ (codes "r")) (codes "p"))

abbrev x_and_rest : Tree
x_and_rest = pattern (named (codes "x") before rest (codes "r") before empty)

-- `K { x } = s, r = babelHelpers.objectWithoutProperties(s, ["x"])`
abbrev takes_x : Text → Text → Tree
takes_x kind s = declares kind (declarator (pattern (named (codes "x") before empty)) (x_ s) before declarator (x_ (codes "r")) (without_x s) before empty)

catch_throws : RunsAlike 0 5 (catching x_and_rest (reads_rest before empty)) (catching (x_ (codes "_ref")) (takes_x (codes "let") (codes "_ref") before block (reads_rest before empty) before empty)) hosts
catch_throws = record { asked = refl; same = refl; each = refl }

-- `for (const { x, ...r } of a) r.p;`, whose pattern moves into the body
abbrev loop_over : Tree → Tree → Tree
loop_over p s = script (for_of (declares (codes "const") (plain VariableDeclarator (one p then missing then done) before empty)) (x_ (codes "a")) s before empty)

abbrev loop_moves : List Move
loop_moves = answer (a_host 1) ∷ answer (a_host 2) ∷ answer (boolean true) ∷ answer (a_host 3) ∷ answer (a_host 4) ∷ answer (a_host 5) ∷ answer (a_host 6) ∷ answer (a_host 7) ∷ answer (boolean false) ∷ answer undefined ∷ []

loop_throws : RunsAlike 2 9 (loop_over x_and_rest (block (reads_rest before empty))) (loop_over (x_ (codes "_ref")) (block (takes_x (codes "const") (codes "_ref") before block (reads_rest before empty) before empty))) loop_moves
loop_throws = record { asked = refl; same = refl; each = refl }

-- `using`: `l: { using x = a; using y = b; c; break l; } e;`
using_throws : RunsAlike 0 8 using_source using_lowered hosts
using_throws = record { asked = refl; same = refl; each = refl }

-- in the heads of loops: `l: for (using x = a; b; ) { continue l; }` and `for (using x of a) break;`
for_throws : RunsAlike 1 5 for_using for_lowered for_moves
for_throws = record { asked = refl; same = refl; each = refl }

head_throws : RunsAlike 1 7 head_source head_lowered head_moves
head_throws = record { asked = refl; same = refl; each = refl }

-- in a `switch`: `switch (a) { case b: using x = c; d; }`
abbrev switch_on : Trees → Tree
switch_on ts = plain SwitchStatement (one (x_ (codes "a")) then many (case_of (codes "b") ts before empty) then done)

abbrev switch_moves : List Move
switch_moves = answer (a_host 1) ∷ answer (a_host 2) ∷ answer (boolean true) ∷ answer (a_host 3) ∷ answer (a_host 4) ∷ answer (a_host 5) ∷ answer undefined ∷ []

switch_throws : RunsAlike 0 7 (script (switch_on (declaration (codes "using") (codes "x") (x_ (codes "c")) before statement (x_ (codes "d")) before empty) before empty))
    (script (wrap (switch_on (taken_by_ctx (codes "x") (x_ (codes "c")) before statement (x_ (codes "d")) before empty) before empty) before empty)) switch_moves
switch_throws = record { asked = refl; same = refl; each = refl }

-- WRONG LOWERINGS ask something else, or end otherwise

-- what is asked after so many answers
abbrev first : List Question → Option Question
first [] = None
first (q ∷ qs) = Some q

abbrev answered : ℕ → List Move → List Move
answered zero ms = []
answered (suc n) [] = []
answered (suc n) (m ∷ ms) = m ∷ answered n ms

abbrev next : ℕ → ℕ → Tree → Option Question
next turns n p = first (questions (run by_global turns p undefined (answered n hosts)))

-- every operand is evaluated before the first copy: `_f = f(), _g = g(), y = objectSpread2(objectSpread2({}, _f), _g)`
abbrev operands_first : Tree
operands_first = script (
    declaration (codes "var") (codes "_f") (call_of (codes "f")) before declaration (codes "var") (codes "_g") (call_of (codes "g")) before
    statement (assign (x_ (codes "y")) (copying (copying (object empty before x_ (codes "_f") before empty) before x_ (codes "_g") before empty))) before empty)

copies_first : next 0 2 two_source ≡ Some (of_statement (copy (a_host 2) none))
copies_first = refl

reads_first : next 0 2 operands_first ≡ Some (read (codes "g"))
reads_first = refl

-- a key is converted twice, where the pattern asks for it and where it is excluded
abbrev key_again : Tree
key_again = script (declares (codes "const") (
    declarator (x_ (codes "_e")) (x_ (codes "e")) before
    declarator (pattern (named (codes "a") before computed (x_ (codes "k")) (codes "b") before empty)) (x_ (codes "_e")) before
    declarator (x_ (codes "r")) (helper_of (codes "objectWithoutProperties") (x_ (codes "_e") before key_array (codes "k") before empty)) before empty) before empty)

key_is_kept : next 0 4 split_source ≡ Some (of_statement (copy (a_host 1) (text (codes "a") and a_host 3 and none)))
key_is_kept = refl

key_is_read_again : next 0 4 key_again ≡ Some (read (codes "k"))
key_is_read_again = refl

-- a `break` passes the disposal by: `l: { var c = usingCtx(); const x = c.u(a); const y = c.u(b); .. break l; c.d(); }`
abbrev context : Tree
context = declaration (codes "var") (codes "_usingCtx") (helper_of (codes "usingCtx") empty)

abbrev disposes : Tree
disposes = statement (called (member ctx (codes "d")) empty)

abbrev left_by_break : Tree
left_by_break = script (label_l (block (context before taken_by_ctx (codes "x") (x_ (codes "a")) before taken_by_ctx (codes "y") (x_ (codes "b")) before statement (x_ (codes "c")) before break_l before disposes before empty)) before statement (x_ (codes "e")) before empty)

disposed_on_break : next 0 5 using_source ≡ Some (of_statement (dispose (a_host 3) (a_host 4)))
disposed_on_break = refl

kept_on_break : next 0 5 left_by_break ≡ Some (read (codes "e"))
kept_on_break = refl

-- the names of a head are set before the right side is read: `for (const x of x)`
abbrev head_over : Tree → Tree
head_over e = script (for_of (head (codes "const") (codes "x")) e (block empty) before empty)

abbrev right_side_read_late : Tree
right_side_read_late = script (block (declaration (codes "let") (codes "x") (x_ (codes "a")) before for_of (head (codes "const") (codes "_x")) (x_ (codes "x")) (block empty) before empty) before empty)

read_before_it_is_set : outcome (run by_global 1 (head_over (x_ (codes "x"))) undefined hosts) ≡ outside
read_before_it_is_set = refl

read_after_it_is_set : next 1 1 right_side_read_late ≡ Some (of_statement (iterator (a_host 1)))
read_after_it_is_set = refl
