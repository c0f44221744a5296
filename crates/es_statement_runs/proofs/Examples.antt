-- Runs, computed.
use Rattle.std.proofs.Common.{◌≡◌, refl, List, [], ◌∷◌}
use Rattle.std.specs.Prelude.{ℕ, true, false, codes, Some}
use Rattle.es_tree.specs.Words.{Text}
use Rattle.es_tree.specs.declared.ast_type.AstType.{AstType}
use Rattle.es_tree.specs.declared.ast_type.AstType.TheVariants.{ExpressionStatement, CallExpression, MemberExpression, AssignmentExpression, ObjectExpression, ObjectProperty, SpreadElement, StringLiteral, NumericLiteral, ForStatement, EmptyStatement, BlockStatement, VariableDeclaration, VariableDeclarator, TryStatement, CatchClause, LabeledStatement, BreakStatement, ForOfStatement, WhileStatement, SwitchStatement, SwitchCase, ArrayTarget, ObjectTarget, TargetProperty, TargetRest, TargetWithDefault}
use Rattle.es_tree.specs.Tree.{Tree, node, Fields, done, ◌then◌, one, many, statements, missing, Trees, empty, ◌before◌}
use Rattle.es_runs.specs.Machine.{Move, Question, Value, Result}
use Rattle.es_runs.specs.Machine.Value.{undefined, null, host, text, number, boolean, own}
use Rattle.es_runs.specs.Machine.OwnValue.{list, suppressed, pattern_error}
use Rattle.es_runs.specs.Machine.Values.{none, ◌and◌}
use Rattle.es_runs.specs.Machine.Question.{read, write, get, put, operator, of_statement}
use Rattle.es_runs.specs.Machine.StatementQuestion.{copy, make, iterator, step, item, close, array, method, dispose}
use Rattle.es_runs.specs.Machine.Move.{answer, throw}
use Rattle.es_runs.specs.Runs.{made, identifier, program, asked, state_of}
use Rattle.es_statement_runs.specs.Helpers.Supply.{no_helpers, by_global}
use Rattle.es_statement_runs.specs.Runs.{run, outcome}
use Rattle.es_statement_runs.specs.Runs.Outcome.{finished, threw, outside, no_turns}

abbrev pub script : Trees → Tree
script ts = program (made [] []) empty ts

abbrev pub plain : AstType → Fields → Tree
plain k fs = node k (made [] []) fs

abbrev pub worded : AstType → Text → Fields → Tree
worded k t fs = node k (made (Some t ∷ []) []) fs

abbrev pub x_ : Text → Tree
x_ = identifier

abbrev pub statement : Tree → Tree
statement e = plain ExpressionStatement (one e then done)

abbrev pub assign : Tree → Tree → Tree
assign l r = worded AssignmentExpression (codes "=") (one l then one r then done)

abbrev pub string : Text → Tree
string t = worded StringLiteral t done

abbrev pub numeral : Text → Tree
numeral t = node NumericLiteral (made (Some t ∷ Some t ∷ []) []) done

abbrev pub member : Tree → Text → Tree
member o x = node MemberExpression (made [] (false ∷ false ∷ [])) (one o then one (x_ x) then done)

abbrev pub called : Tree → Trees → Tree
called f es = node CallExpression (made [] (false ∷ [])) (one f then many es then done)

abbrev pub object : Trees → Tree
object ms = plain ObjectExpression (many ms then done)

abbrev pub property : Text → Tree → Tree
property k e = node ObjectProperty (made (Some (codes "init") ∷ []) (false ∷ false ∷ false ∷ [])) (one (x_ k) then one e then done)

abbrev pub spread_of : Tree → Tree
spread_of e = plain SpreadElement (one e then done)

abbrev pub helper_of : Text → Trees → Tree
helper_of h es = called (member (x_ (codes "babelHelpers")) h) es

abbrev pub questions : Result Value → List Question
questions r = asked (state_of r)

abbrev pub a_host : ℕ → Value
a_host n = host n true true false

-- OBJECT SPREAD: `y = { ...{ a: 1 } }`

abbrev pub spread_source : Tree
spread_source = script (statement (assign (x_ (codes "y")) (object (spread_of (object (property (codes "a") (numeral (codes "1")) before empty)) before empty))) before empty)

abbrev pub spread_lowered : Tree
spread_lowered = script (statement (assign (x_ (codes "y")) (helper_of (codes "objectSpread2") (object empty before object (property (codes "a") (numeral (codes "1")) before empty) before empty))) before empty)

abbrev pub four_moves : List Move
four_moves = answer (a_host 1) ∷ answer (a_host 2) ∷ answer (a_host 3) ∷ answer undefined ∷ []

abbrev pub spread_asks : List Question
spread_asks =
    write (codes "y") (a_host 3) ∷
    of_statement (make (own (list (a_host 2 and none)) and none)) ∷
    of_statement (copy (a_host 1) none) ∷
    of_statement (make (own (list (text (codes "a") and number (codes "1") and none)) and none)) ∷ []

source_asks : questions (run by_global 5 spread_source undefined four_moves) ≡ spread_asks
source_asks = refl

lowered_asks : questions (run by_global 5 spread_lowered undefined four_moves) ≡ spread_asks
lowered_asks = refl

-- `for (;;) ;` WITH THREE TURNS

abbrev pub forever : Tree
forever = script (plain ForStatement (missing then missing then missing then one (plain EmptyStatement done) then done) before empty)

three_turns : outcome (run no_helpers 3 forever undefined []) ≡ no_turns
three_turns = refl

-- `while (f) ;` takes a turn only where its test holds
abbrev pub while_f : Tree
while_f = script (plain WhileStatement (one (x_ (codes "f")) then one (plain EmptyStatement done) then done) before empty)

no_turn_taken : outcome (run no_helpers 0 while_f undefined (answer null ∷ [])) ≡ finished
no_turn_taken = refl

two_turns : outcome (run no_helpers 2 while_f undefined (answer (a_host 1) ∷ answer (a_host 1) ∷ answer (a_host 1) ∷ [])) ≡ no_turns
two_turns = refl

-- `using` IN A BLOCK WITH `break`: `l: { using x = a; using y = b; c; break l; }`

abbrev pub declaration : Text → Text → Tree → Tree
declaration kind x e = worded VariableDeclaration kind (many (plain VariableDeclarator (one (x_ x) then one e then done) before empty) then done)

abbrev pub block : Trees → Tree
block ts = plain BlockStatement (statements ts then done)

abbrev pub label_l : Tree → Tree
label_l s = plain LabeledStatement (one (x_ (codes "l")) then one s then done)

abbrev pub break_l : Tree
break_l = plain BreakStatement (one (x_ (codes "l")) then done)

abbrev pub ctx : Tree
ctx = x_ (codes "_usingCtx")

abbrev pub wrap : Trees → Tree
wrap ts = plain TryStatement (
    one (block (declaration (codes "var") (codes "_usingCtx") (helper_of (codes "usingCtx") empty) before ts)) then
    one (plain CatchClause (one (x_ (codes "_")) then one (block (statement (assign (member ctx (codes "e")) (x_ (codes "_"))) before empty)) then done)) then
    one (block (statement (called (member ctx (codes "d")) empty) before empty)) then done)

abbrev pub taken_by_ctx : Text → Tree → Tree
taken_by_ctx x e = declaration (codes "const") x (called (member ctx (codes "u")) (e before empty))

abbrev pub using_source : Tree
using_source = script (label_l (block (declaration (codes "using") (codes "x") (x_ (codes "a")) before declaration (codes "using") (codes "y") (x_ (codes "b")) before statement (x_ (codes "c")) before break_l before empty)) before statement (x_ (codes "e")) before empty)

abbrev pub using_lowered : Tree
using_lowered = script (label_l (wrap (taken_by_ctx (codes "x") (x_ (codes "a")) before taken_by_ctx (codes "y") (x_ (codes "b")) before statement (x_ (codes "c")) before break_l before empty)) before statement (x_ (codes "e")) before empty)

abbrev pub using_asks : List Question
using_asks =
    read (codes "e") ∷ of_statement (dispose (a_host 1) (a_host 2)) ∷ of_statement (dispose (a_host 3) (a_host 4)) ∷ read (codes "c") ∷ of_statement (method (a_host 3)) ∷ read (codes "b") ∷ of_statement (method (a_host 1)) ∷ read (codes "a") ∷ []

abbrev pub good_moves : List Move
good_moves = answer (a_host 1) ∷ answer (a_host 2) ∷ answer (a_host 3) ∷ answer (a_host 4) ∷ answer undefined ∷ answer undefined ∷ answer undefined ∷ answer undefined ∷ []

using_source_asks : questions (run by_global 0 using_source undefined good_moves) ≡ using_asks
using_source_asks = refl

using_lowered_asks : questions (run by_global 0 using_lowered undefined good_moves) ≡ using_asks
using_lowered_asks = refl

-- what is read throws, and so do both disposals
abbrev pub bad_moves : List Move
bad_moves = answer (a_host 1) ∷ answer (a_host 2) ∷ answer (a_host 3) ∷ answer (a_host 4) ∷ throw (number (codes "7")) ∷ throw (number (codes "8")) ∷ throw (number (codes "9")) ∷ []

using_source_throws : outcome (run by_global 0 using_source undefined bad_moves) ≡ threw (own (suppressed (number (codes "9")) (own (suppressed (number (codes "8")) (number (codes "7"))))))
using_source_throws = refl

using_lowered_throws : outcome (run by_global 0 using_lowered undefined bad_moves) ≡ threw (own (suppressed (number (codes "9")) (own (suppressed (number (codes "8")) (number (codes "7"))))))
using_lowered_throws = refl

-- in a module's top and in a loop: `for (x of a) { using y = x; continue; }`, closed by none of its turns
abbrev pub for_of : Tree → Tree → Tree → Tree
for_of l e s = plain ForOfStatement (one l then one e then one s then done)

abbrev pub head : Text → Text → Tree
head kind x = worded VariableDeclaration kind (many (plain VariableDeclarator (one (x_ x) then missing then done) before empty) then done)

abbrev pub head_source : Tree
head_source = script (for_of (head (codes "using") (codes "x")) (x_ (codes "a")) (block (plain BreakStatement (missing then done) before empty)) before empty)

abbrev pub head_lowered : Tree
head_lowered = script (for_of (head (codes "const") (codes "_x")) (x_ (codes "a")) (wrap (taken_by_ctx (codes "x") (x_ (codes "_x")) before plain BreakStatement (missing then done) before empty)) before empty)

abbrev pub head_moves : List Move
head_moves = answer (a_host 1) ∷ answer (a_host 2) ∷ answer (boolean true) ∷ answer (a_host 3) ∷ answer (a_host 4) ∷ answer undefined ∷ answer undefined ∷ []

abbrev pub head_asks : List Question
head_asks = of_statement (close (a_host 2)) ∷ of_statement (dispose (a_host 3) (a_host 4)) ∷ of_statement (method (a_host 3)) ∷ of_statement (item (a_host 2)) ∷ of_statement (step (a_host 2)) ∷ of_statement (iterator (a_host 1)) ∷ read (codes "a") ∷ []

head_source_asks : questions (run by_global 1 head_source undefined head_moves) ≡ head_asks
head_source_asks = refl

head_lowered_asks : questions (run by_global 1 head_lowered undefined head_moves) ≡ head_asks
head_lowered_asks = refl

-- a throw of the disposal closes the iterator, and wins over one of the closing
head_source_throws : outcome (run by_global 1 head_source undefined (answer (a_host 1) ∷ answer (a_host 2) ∷ answer (boolean true) ∷ answer (a_host 3) ∷ answer (a_host 4) ∷ throw (number (codes "8")) ∷ throw (number (codes "9")) ∷ [])) ≡ threw (number (codes "8"))
head_source_throws = refl

-- PATTERNS: `[o.a, , ...o.b] = c`, `({ p: o.a = d, ...r } = c)`

abbrev pub array_target : Tree
array_target = plain ArrayTarget (one (member (x_ (codes "o")) (codes "a")) then missing then one (plain TargetRest (one (member (x_ (codes "o")) (codes "b")) then done)) then done)

abbrev pub array_script : Tree
array_script = script (statement (assign array_target (x_ (codes "c"))) before empty)

array_asks : questions (run no_helpers 0 array_script undefined (answer (a_host 1) ∷ answer (a_host 2) ∷ answer (a_host 3) ∷ answer (boolean true) ∷ answer (number (codes "5")) ∷ answer undefined ∷ answer (boolean true) ∷ answer (a_host 4) ∷ answer (boolean true) ∷ answer (number (codes "6")) ∷ answer (boolean false) ∷ answer (a_host 7) ∷ answer undefined ∷ []))
    ≡ put (a_host 4) (text (codes "b")) (a_host 7) ∷ of_statement (array (number (codes "6") and none)) ∷ of_statement (step (a_host 2)) ∷ of_statement (item (a_host 2)) ∷ of_statement (step (a_host 2)) ∷ read (codes "o") ∷ of_statement (step (a_host 2)) ∷ put (a_host 3) (text (codes "a")) (number (codes "5")) ∷ of_statement (item (a_host 2)) ∷ of_statement (step (a_host 2)) ∷ read (codes "o") ∷ of_statement (iterator (a_host 1)) ∷ read (codes "c") ∷ []
array_asks = refl

-- a throw of the first target closes the iterator; a throw of the step doesn't
array_closes : questions (run no_helpers 0 array_script undefined (answer (a_host 1) ∷ answer (a_host 2) ∷ throw null ∷ answer undefined ∷ [])) ≡ of_statement (close (a_host 2)) ∷ read (codes "o") ∷ of_statement (iterator (a_host 1)) ∷ read (codes "c") ∷ []
array_closes = refl

array_stays : questions (run no_helpers 0 array_script undefined (answer (a_host 1) ∷ answer (a_host 2) ∷ answer (a_host 3) ∷ throw null ∷ [])) ≡ of_statement (step (a_host 2)) ∷ read (codes "o") ∷ of_statement (iterator (a_host 1)) ∷ read (codes "c") ∷ []
array_stays = refl

abbrev pub target_property : Text → Tree → Tree
target_property k e = node TargetProperty (made [] (false ∷ false ∷ [])) (one (x_ k) then one e then done)

abbrev pub object_target : Tree
object_target = plain ObjectTarget (many (target_property (codes "p") (plain TargetWithDefault (one (member (x_ (codes "o")) (codes "a")) then one (x_ (codes "d")) then done)) before plain TargetRest (one (x_ (codes "r")) then done) before empty) then done)

abbrev pub object_script : Tree
object_script = script (statement (assign object_target (x_ (codes "c"))) before empty)

object_asks : questions (run no_helpers 0 object_script undefined (answer (a_host 1) ∷ answer (a_host 2) ∷ answer undefined ∷ answer (a_host 3) ∷ answer undefined ∷ answer (a_host 4) ∷ answer (a_host 5) ∷ answer undefined ∷ []))
    ≡ write (codes "r") (a_host 5) ∷ of_statement (make (own (list (a_host 4 and none)) and none)) ∷ of_statement (copy (a_host 1) (text (codes "p") and none)) ∷ put (a_host 2) (text (codes "a")) (a_host 3) ∷ read (codes "d") ∷ get (a_host 1) (text (codes "p")) ∷ read (codes "o") ∷ read (codes "c") ∷ []
object_asks = refl

object_of_null : outcome (run no_helpers 0 object_script undefined (answer null ∷ [])) ≡ threw (own pattern_error)
object_of_null = refl

-- SHADOWING AND FAULTS: `let x = a; { x; let x = b; }` reads an unset cell

abbrev pub shadow_script : Tree
shadow_script = script (declaration (codes "let") (codes "x") (x_ (codes "a")) before block (statement (x_ (codes "x")) before declaration (codes "let") (codes "x") (x_ (codes "b")) before empty) before empty)

unset_read : outcome (run no_helpers 0 shadow_script undefined (answer null ∷ answer null ∷ [])) ≡ outside
unset_read = refl

-- `switch (a) { case b: c; default: d; case e: f; }`

abbrev pub case_of : Text → Trees → Tree
case_of t ss = plain SwitchCase (one (x_ t) then statements ss then done)

abbrev pub switch_script : Tree
switch_script = script (plain SwitchStatement (one (x_ (codes "a")) then many (case_of (codes "b") (statement (x_ (codes "c")) before empty) before plain SwitchCase (missing then statements (statement (x_ (codes "d")) before empty) then done) before case_of (codes "e") (statement (x_ (codes "f")) before empty) before empty) then done) before empty)

-- no test is equal: the default clause, and on into the last
falls_through : questions (run no_helpers 0 switch_script undefined (answer null ∷ answer null ∷ answer (boolean false) ∷ answer null ∷ answer (boolean false) ∷ answer null ∷ answer null ∷ []))
    ≡ read (codes "f") ∷ read (codes "d") ∷ operator (codes "===") (null and null and none) ∷ read (codes "e") ∷ operator (codes "===") (null and null and none) ∷ read (codes "b") ∷ read (codes "a") ∷ []
falls_through = refl

-- `for (let i = a; i; i = b) ;`: the head's names are those of the loop's scope
abbrev pub for_let : Tree
for_let = script (plain ForStatement (one (declaration (codes "let") (codes "i") (x_ (codes "a"))) then one (x_ (codes "i")) then one (assign (x_ (codes "i")) (x_ (codes "b"))) then one (statement (x_ (codes "i"))) then done) before statement (x_ (codes "i")) before empty)

head_names : questions (run no_helpers 5 for_let undefined (answer (a_host 1) ∷ answer null ∷ answer null ∷ [])) ≡ read (codes "i") ∷ read (codes "b") ∷ read (codes "a") ∷ []
head_names = refl
