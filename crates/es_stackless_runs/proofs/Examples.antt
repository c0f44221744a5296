-- Runs computed: a member by the key `u` is a member, where its object is no stack.
use Rattle.std.proofs.Common.{◌≡◌, refl, List, [], ◌∷◌}
use Rattle.std.specs.Prelude.{codes}
use Rattle.es_tree.specs.Tree.{Tree, done, empty, ◌before◌}
use Rattle.es_tree.specs.declared.ast_type.AstType.TheVariants.{ThisExpression}
use Rattle.es_runs.specs.Machine.{Move, Question}
use Rattle.es_runs.specs.Machine.Move.{answer}
use Rattle.es_runs.specs.Machine.OwnValue.{stack}
use Rattle.es_runs.specs.Machine.Question.{call, get, of_statement, read}
use Rattle.es_runs.specs.Machine.StatementQuestion.{method}
use Rattle.es_runs.specs.Machine.Value.{own, text}
use Rattle.es_runs.specs.Machine.Values.{none, ◌and◌}
use Rattle.es_statement_runs.specs.Helpers.Supply.{by_global, spread_by_global}
use Rattle.es_statement_runs.specs.Runs.{run}
use Rattle.es_statement_runs.proofs.Examples.{a_host, called, member, plain, questions, script, statement, x_}
use Rattle.es_stackless_runs.proofs.EveryTree.{law_stackless_proof}

-- `this.u(b);`
abbrev calling : Tree
calling = script (statement (called (member (plain ThisExpression done) (codes "u")) (x_ (codes "b") before empty)) before empty)

abbrev moves : List Move
moves = answer (a_host 1) ∷ answer (a_host 2) ∷ []

abbrev asks : List Question
asks = call (a_host 1) (a_host 0) (a_host 2 and none) ∷ read (codes "b") ∷ get (a_host 0) (text (codes "u")) ∷ []

asked_by_one : questions (run spread_by_global 0 calling (a_host 0) moves) ≡ asks
asked_by_one = refl

asked_by_all : questions (run by_global 0 calling (a_host 0) moves) ≡ asks
asked_by_all = refl

-- The law speaks of it,
runs_same : run spread_by_global 0 calling (a_host 0) moves ≡ run by_global 0 calling (a_host 0) moves
runs_same = law_stackless_proof 0 calling (a_host 0) moves refl refl refl refl refl

-- but of no `this` that is a stack, which no host has: its method takes b into use
stack_asks : questions (run by_global 0 calling (own (stack 0)) (answer (a_host 1) ∷ answer (a_host 2) ∷ [])) ≡ of_statement (method (a_host 1)) ∷ read (codes "b") ∷ []
stack_asks = refl
