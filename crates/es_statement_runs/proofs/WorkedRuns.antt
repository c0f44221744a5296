-- Runs, computed: what ends loops and `try`, what closes iterators, and which names stand for helpers.
use Rattle.std.proofs.Common.{◌≡◌, refl, List, [], ◌∷◌}
use Rattle.std.specs.Prelude.{codes}
use Rattle.es_tree.specs.Words.{Text}
use Rattle.es_tree.specs.declared.ast_type.AstType.TheVariants.{ForOfStatement, BreakStatement, ThrowStatement, TryStatement, CatchClause, WhileStatement, ContinueStatement}
use Rattle.es_tree.specs.Tree.{Tree, done, ◌then◌, one, missing, Trees, empty, ◌before◌}
use Rattle.es_runs.specs.Machine.{Move}
use Rattle.es_runs.specs.Machine.Value.{undefined, null, text, unset_error, own}
use Rattle.es_runs.specs.Machine.OwnValue.{stack}
use Rattle.es_runs.specs.Machine.Values.{none, ◌and◌}
use Rattle.es_runs.specs.Machine.Question.{read, get, call, of_statement}
use Rattle.es_runs.specs.Machine.StatementQuestion.{iterator, step, item, close, import_name, spread, method, dispose}
use Rattle.es_runs.specs.Machine.Move.{answer, throw}
use Rattle.es_runs.specs.Machine.Cell.{holds}
use Rattle.es_runs.specs.Runs.{made, state_of, cells}
use Rattle.es_statement_runs.specs.Helpers.Supply.{no_helpers, by_global, by_import}
use Rattle.es_statement_runs.specs.Laws.{head_of}
use Rattle.es_statement_runs.specs.Runs.{run, outcome}
use Rattle.es_statement_runs.specs.Runs.Outcome.{finished, threw, outside}
use Rattle.es_statement_runs.proofs.Examples.{script, plain, x_, statement, assign, member, called, spread_of, questions, a_host, block, declaration, label_l, helper_of}
use Rattle.es_statement_runs.proofs.HelperExamples.{import_of, default_of}

abbrev moves : List Move
moves = answer (a_host 1) ∷ answer (a_host 2) ∷ answer (a_host 3) ∷ answer (a_host 4) ∷ answer (a_host 5) ∷ answer (a_host 6) ∷ answer (a_host 7) ∷ []

abbrev pub throw_statement : Tree → Tree
throw_statement e = plain ThrowStatement (one e then done)

abbrev break_statement : Tree
break_statement = plain BreakStatement (missing then done)

abbrev try_catch : Trees → Text → Trees → Tree
try_catch body x handler = plain TryStatement (one (block body) then one (plain CatchClause (one (x_ x) then one (block handler) then done)) then missing then done)

abbrev try_finally : Trees → Trees → Tree
try_finally body last = plain TryStatement (one (block body) then missing then one (block last) then done)

-- `try { throw a; } finally { throw b; }`: the finalizer's throw wins
abbrev throwing_finalizer : Tree
throwing_finalizer = script (try_finally (throw_statement (x_ (codes "a")) before empty) (throw_statement (x_ (codes "b")) before empty) before empty)

finalizer_throws : outcome (run no_helpers 0 throwing_finalizer undefined moves) ≡ threw (a_host 2)
finalizer_throws = refl

-- `for (const x of a) break;` and `for (const x of a) throw x;` close the iterator
abbrev for_of : Tree → Tree
for_of body = script (plain ForOfStatement (one (head_of (codes "const") (made [] []) (x_ (codes "x"))) then one (x_ (codes "a")) then one (block (body before empty)) then done) before empty)

closed_on_break : questions (run no_helpers 1 (for_of break_statement) undefined moves) ≡
    of_statement (close (a_host 2)) ∷ of_statement (item (a_host 2)) ∷ of_statement (step (a_host 2)) ∷ of_statement (iterator (a_host 1)) ∷ read (codes "a") ∷ []
closed_on_break = refl

closed_on_throw : questions (run no_helpers 1 (for_of (throw_statement (x_ (codes "x")))) undefined moves) ≡
    of_statement (close (a_host 2)) ∷ of_statement (item (a_host 2)) ∷ of_statement (step (a_host 2)) ∷ of_statement (iterator (a_host 1)) ∷ read (codes "a") ∷ []
closed_on_throw = refl

thrown_item : outcome (run no_helpers 1 (for_of (throw_statement (x_ (codes "x")))) undefined moves) ≡ threw (a_host 4)
thrown_item = refl

-- without a turn the body isn't reached, and no item is asked
no_item_asked : questions (run no_helpers 0 (for_of break_statement) undefined moves) ≡ of_statement (step (a_host 2)) ∷ of_statement (iterator (a_host 1)) ∷ read (codes "a") ∷ []
no_item_asked = refl

-- `l: while (a) { while (b) { continue l; } }`
abbrev outer_loop : Tree
outer_loop = script (label_l (plain WhileStatement (one (x_ (codes "a")) then one (block (plain WhileStatement (one (x_ (codes "b")) then one (block (plain ContinueStatement (one (x_ (codes "l")) then done) before empty)) then done) before empty)) then done)) before empty)

outer_goes_on : questions (run no_helpers 9 outer_loop undefined (answer (a_host 1) ∷ answer (a_host 2) ∷ answer null ∷ [])) ≡ read (codes "a") ∷ read (codes "b") ∷ read (codes "a") ∷ []
outer_goes_on = refl

-- `try { f(); } catch (e) { g(); }`: the host's throw of the error "unset" is caught like any throw ..
abbrev catching : Trees → Tree
catching body = script (try_catch body (codes "e") (statement (called (x_ (codes "g")) empty) before empty) before empty)

thrown_by_host : questions (run no_helpers 0 (catching (statement (called (x_ (codes "f")) empty) before empty)) undefined (answer (a_host 1) ∷ throw (unset_error (codes "z")) ∷ answer (a_host 2) ∷ answer (a_host 3) ∷ [])) ≡
    call (a_host 2) undefined none ∷ read (codes "g") ∷ call (a_host 1) undefined none ∷ read (codes "f") ∷ []
thrown_by_host = refl

-- .. and a read of what isn't set is no throw: `try { y; let y = a; } catch (e) { g(); }`
read_too_early : outcome (run no_helpers 0 (catching (statement (x_ (codes "y")) before declaration (codes "let") (codes "y") (x_ (codes "a")) before empty)) undefined moves) ≡ outside
read_too_early = refl

-- `let x = a; { let x = b; { let x = c; x(); } x(); } x();`
abbrev calls_x : Tree
calls_x = statement (called (x_ (codes "x")) empty)

abbrev nested_blocks : Tree
nested_blocks = script (declaration (codes "let") (codes "x") (x_ (codes "a")) before block (declaration (codes "let") (codes "x") (x_ (codes "b")) before block (declaration (codes "let") (codes "x") (x_ (codes "c")) before calls_x before empty) before calls_x before empty) before calls_x before empty)

nested_asks : questions (run no_helpers 0 nested_blocks undefined (answer (a_host 1) ∷ answer (a_host 2) ∷ answer (a_host 3) ∷ answer undefined ∷ answer undefined ∷ answer undefined ∷ [])) ≡
    call (a_host 1) undefined none ∷ call (a_host 2) undefined none ∷ call (a_host 3) undefined none ∷ read (codes "c") ∷ read (codes "b") ∷ read (codes "a") ∷ []
nested_asks = refl

-- `import f from "m/helpers/typeof"` is no helper, and asks; `import o from "m/helpers/extends"` asks nothing
other_import : questions (run (by_import (codes "m")) 0 (script (import_of (default_of (codes "f") before empty) (codes "m/helpers/typeof") before empty)) undefined moves) ≡ of_statement (import_name (codes "m/helpers/typeof") (codes "default")) ∷ []
other_import = refl

helper_import : questions (run (by_import (codes "m")) 0 (script (import_of (default_of (codes "o") before empty) (codes "m/helpers/extends") before empty)) undefined moves) ≡ []
helper_import = refl

-- an inner name hides a helper's: `import o from "m/helpers/usingCtx"; { let o = a; o(); }`
hidden_helper : questions (run (by_import (codes "m")) 0 (script (import_of (default_of (codes "o") before empty) (codes "m/helpers/usingCtx") before block (declaration (codes "let") (codes "o") (x_ (codes "a")) before statement (called (x_ (codes "o")) empty) before empty) before empty)) undefined moves) ≡
    call (a_host 1) undefined none ∷ read (codes "a") ∷ []
hidden_helper = refl

-- `babelHelpers.typeof()` is a call like any other
other_member : outcome (run by_global 0 (script (statement (helper_of (codes "typeof") empty) before empty)) undefined moves) ≡ finished
other_member = refl

-- `var c = babelHelpers.usingCtx(); var d = c;`: a stack is a value, by its number
abbrev two_names : Tree
two_names = script (declaration (codes "var") (codes "b") (helper_of (codes "usingCtx") empty) before declaration (codes "var") (codes "c") (helper_of (codes "usingCtx") empty) before declaration (codes "var") (codes "d") (x_ (codes "c")) before empty)

its_number : cells (state_of (run by_global 0 two_names undefined [])) (codes "d") ≡ holds (own (stack 1))
its_number = refl

-- `var c = babelHelpers.usingCtx(); c.u(...a);`: with a spread the method is called like any other
abbrev with_context : Trees → Tree
with_context ts = script (declaration (codes "var") (codes "c") (helper_of (codes "usingCtx") empty) before ts)

spread_method : questions (run by_global 0 (with_context (statement (called (member (x_ (codes "c")) (codes "u")) (spread_of (x_ (codes "a")) before empty)) before empty)) undefined moves) ≡
    call (a_host 1) (own (stack 0)) (a_host 3 and none) ∷ of_statement (spread (a_host 2)) ∷ read (codes "a") ∷ get (own (stack 0)) (text (codes "u")) ∷ []
spread_method = refl

-- `var c = babelHelpers.usingCtx(); c.e = c.u(a); c.d();`: the value is evaluated before the error is kept, and nothing is lost
kept_use : questions (run by_global 0 (with_context (statement (assign (member (x_ (codes "c")) (codes "e")) (called (member (x_ (codes "c")) (codes "u")) (x_ (codes "a") before empty))) before statement (called (member (x_ (codes "c")) (codes "d")) empty) before empty)) undefined moves) ≡
    of_statement (dispose (a_host 1) (a_host 2)) ∷ of_statement (method (a_host 1)) ∷ read (codes "a") ∷ []
kept_use = refl
