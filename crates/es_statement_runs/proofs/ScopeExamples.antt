-- Runs of scopes and loops, computed.
use Rattle.std.proofs.Common.{◌≡◌, refl, List, [], ◌∷◌}
use Rattle.std.specs.Prelude.{true, false, codes}
use Rattle.es_tree.specs.declared.ast_type.AstType.TheVariants.{SwitchStatement, ForStatement, ContinueStatement, BreakStatement, DoWhileStatement}
use Rattle.es_tree.specs.Tree.{Tree, done, ◌then◌, one, many, missing, empty, ◌before◌}
use Rattle.es_runs.specs.Machine.{Move}
use Rattle.es_runs.specs.Machine.Value.{undefined, null, boolean}
use Rattle.es_runs.specs.Machine.Values.{none, ◌and◌}
use Rattle.es_runs.specs.Machine.Question.{read, call, operator, of_statement}
use Rattle.es_runs.specs.Machine.StatementQuestion.{iterator, step, item, close, method, dispose}
use Rattle.es_runs.specs.Machine.Move.{answer}
use Rattle.es_runs.specs.Machine.Cell.{holds}
use Rattle.es_runs.specs.Runs.{state_of, cells}
use Rattle.es_statement_runs.specs.Helpers.Supply.{no_helpers, by_global}
use Rattle.es_statement_runs.specs.Runs.{run, outcome}
use Rattle.es_statement_runs.specs.Runs.Outcome.{outside, no_turns}
use Rattle.es_statement_runs.proofs.Examples.{script, plain, x_, statement, assign, called, questions, a_host, block, label_l, declaration, for_of, head, case_of, wrap, taken_by_ctx}
use Rattle.es_statement_runs.proofs.HelperExamples.{import_of, default_of}

abbrev yes_answer : Move
yes_answer = answer (boolean true)

-- `switch (x) { case y: let x = a; x; }`: the discriminant stands outside, the cases inside
abbrev switch_scope : Tree
switch_scope = script (declaration (codes "let") (codes "x") (x_ (codes "b")) before plain SwitchStatement (one (x_ (codes "x")) then many (case_of (codes "y") (declaration (codes "let") (codes "x") (x_ (codes "a")) before statement (x_ (codes "x")) before statement (called (x_ (codes "x")) empty) before empty) before empty) then done) before statement (called (x_ (codes "x")) empty) before empty)

switch_names : questions (run no_helpers 0 switch_scope undefined (answer (a_host 1) ∷ answer (a_host 2) ∷ yes_answer ∷ answer (a_host 3) ∷ answer null ∷ answer null ∷ [])) ≡
    call (a_host 1) undefined none ∷ call (a_host 3) undefined none ∷ read (codes "a") ∷ operator (codes "===") (a_host 1 and a_host 2 and none) ∷ read (codes "y") ∷ read (codes "b") ∷ []
switch_names = refl

-- `for (const x of a) x();` and `for (const x of a) x = b;`
abbrev of_reads : Tree
of_reads = script (for_of (head (codes "const") (codes "x")) (x_ (codes "a")) (statement (called (x_ (codes "x")) empty)) before empty)

of_asks : questions (run no_helpers 2 of_reads undefined (answer (a_host 1) ∷ answer (a_host 2) ∷ yes_answer ∷ answer (a_host 3) ∷ answer null ∷ answer (boolean false) ∷ [])) ≡
    of_statement (step (a_host 2)) ∷ call (a_host 3) undefined none ∷ of_statement (item (a_host 2)) ∷ of_statement (step (a_host 2)) ∷ of_statement (iterator (a_host 1)) ∷ read (codes "a") ∷ []
of_asks = refl

abbrev of_writes : Tree
of_writes = script (for_of (head (codes "const") (codes "x")) (x_ (codes "a")) (statement (assign (x_ (codes "x")) (x_ (codes "b")))) before empty)

-- a constant that is written ends the run, and no iterator is closed
of_constant : outcome (run no_helpers 2 of_writes undefined (answer (a_host 1) ∷ answer (a_host 2) ∷ yes_answer ∷ answer (a_host 3) ∷ answer null ∷ answer (boolean false) ∷ [])) ≡ outside
of_constant = refl

-- the right side doesn't see the head's names: `for (const x of x) ;`
of_unset : outcome (run no_helpers 2 (script (for_of (head (codes "const") (codes "x")) (x_ (codes "x")) (block empty) before empty)) undefined (answer null ∷ [])) ≡ outside
of_unset = refl

-- `l: for (const x of a) for (const y of b) continue l;` closes the inner iterator alone
abbrev continue_l : Tree
continue_l = plain ContinueStatement (one (x_ (codes "l")) then done)

abbrev two_loops : Tree
two_loops = script (label_l (for_of (head (codes "const") (codes "x")) (x_ (codes "a")) (for_of (head (codes "const") (codes "y")) (x_ (codes "b")) continue_l)) before empty)

inner_closed : questions (run no_helpers 2 two_loops undefined (answer (a_host 1) ∷ answer (a_host 2) ∷ yes_answer ∷ answer (a_host 3) ∷ answer (a_host 4) ∷ answer (a_host 5) ∷ yes_answer ∷ answer (a_host 6) ∷ answer null ∷ answer null ∷ [])) ≡
    of_statement (step (a_host 2)) ∷ of_statement (close (a_host 5)) ∷ of_statement (item (a_host 5)) ∷ of_statement (step (a_host 5)) ∷ of_statement (iterator (a_host 4)) ∷ read (codes "b") ∷ of_statement (item (a_host 2)) ∷ of_statement (step (a_host 2)) ∷ of_statement (iterator (a_host 1)) ∷ read (codes "a") ∷ []
inner_closed = refl

-- `l: for (using x = a; b; ) { continue l; }`, with the labels inside the made `try`
abbrev pub for_using : Tree
for_using = script (label_l (plain ForStatement (one (declaration (codes "using") (codes "x") (x_ (codes "a"))) then one (x_ (codes "b")) then missing then one (block (continue_l before empty)) then done)) before empty)

abbrev pub for_lowered : Tree
for_lowered = script (wrap (label_l (plain ForStatement (one (taken_by_ctx (codes "x") (x_ (codes "a"))) then one (x_ (codes "b")) then missing then one (block (continue_l before empty)) then done)) before empty) before empty)

abbrev pub for_moves : List Move
for_moves = answer (a_host 1) ∷ answer (a_host 2) ∷ yes_answer ∷ answer null ∷ answer null ∷ []

for_asks : questions (run by_global 1 for_using undefined for_moves) ≡ of_statement (dispose (a_host 1) (a_host 2)) ∷ read (codes "b") ∷ read (codes "b") ∷ of_statement (method (a_host 1)) ∷ read (codes "a") ∷ []
for_asks = refl

for_asks_too : questions (run by_global 1 for_lowered undefined for_moves) ≡ questions (run by_global 1 for_using undefined for_moves)
for_asks_too = refl

-- a `using` that isn't used: null asks no method
null_unused : questions (run by_global 1 for_using undefined (answer null ∷ answer null ∷ [])) ≡ read (codes "b") ∷ read (codes "a") ∷ []
null_unused = refl

-- with no turn left nothing is disposed: the run has no end
no_turn : outcome (run by_global 0 for_using undefined for_moves) ≡ no_turns
no_turn = refl

-- an imported name is a constant
import_written : outcome (run no_helpers 0 (script (import_of (default_of (codes "x") before empty) (codes "m") before statement (assign (x_ (codes "x")) (x_ (codes "b"))) before empty)) undefined (answer null ∷ answer null ∷ [])) ≡ outside
import_written = refl

-- the cells of the top at the end: the outer x
top_cells : cells (state_of (run no_helpers 0 (script (declaration (codes "let") (codes "x") (x_ (codes "a")) before block (declaration (codes "let") (codes "x") (x_ (codes "b")) before statement (x_ (codes "c")) before empty) before empty)) undefined (answer (a_host 1) ∷ answer (a_host 2) ∷ []))) (codes "x") ≡ holds (a_host 1)
top_cells = refl

-- `do { var x = a; break; } while (b);`: a hoisted name is a cell of the top
hoisted : cells (state_of (run no_helpers 1 (script (plain DoWhileStatement (one (block (declaration (codes "var") (codes "x") (x_ (codes "a")) before plain BreakStatement (missing then done) before empty)) then one (x_ (codes "b")) then done) before empty)) undefined (answer (a_host 1) ∷ []))) (codes "x") ≡ holds (a_host 1)
hoisted = refl
