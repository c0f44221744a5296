-- Two runs, computed.
use Rattle.std.proofs.Common.{◌≡◌, refl, List, [], ◌∷◌}
use Rattle.std.specs.Prelude.{true, false, codes}
use Rattle.es_tree.specs.Words.{Text}
use Rattle.es_tree.specs.Tree.{Tree}
use Rattle.es_tree.specs.declared.ast_type.AstType.TheVariants.{ExpressionStatement, CallExpression, ChainExpression}
use Rattle.es_tree.specs.Tree.{node}
use Rattle.es_tree.specs.Tree.{done, ◌then◌}
use Rattle.es_tree.specs.Tree.{one, many}
use Rattle.es_tree.specs.Tree.{empty, ◌before◌}
use Rattle.es_runs.specs.Machine.{Move}
use Rattle.es_runs.specs.Machine.Value.{undefined, null, host, text, number}
use Rattle.es_runs.specs.Machine.Values.{none, ◌and◌}
use Rattle.es_runs.specs.Machine.Question.{read, get, call}
use Rattle.es_runs.specs.Machine.Move.{answer}
use Rattle.es_runs.specs.Runs.{made, identifier, program, run, asked, state_of, run_with}
use Rattle.es_runs.specs.Rules.{pending, member_node, conditional_node, void_zero_node, null_node, assign_node, binary_node, logical_node}

abbrev script : Tree → Tree
script e = program (made [] []) empty (node ExpressionStatement (made [] []) (one e then done) before empty)

-- `a.b?.(c)`
abbrev optional_call : Tree
optional_call = node ChainExpression (made [] []) (one (node CallExpression (made [] (true ∷ [])) (one (member_node false (identifier (codes "a")) (identifier (codes "b"))) then many (identifier (codes "c") before empty) then done)) then done)

abbrev moves : List Move
moves = answer (host 1 false true false) ∷ answer (host 2 true true false) ∷ answer (number (codes "7")) ∷ answer null ∷ []

asks_four : asked (state_of (run (script optional_call) undefined moves)) ≡ call (host 2 true true false) (host 1 false true false) (number (codes "7") and none) ∷ read (codes "c") ∷ get (host 1 false true false) (text (codes "b")) ∷ read (codes "a") ∷ []
asks_four = refl

-- cut short: two questions
asks_two : asked (state_of (run (script optional_call) undefined (answer (host 1 false true false) ∷ answer null ∷ []))) ≡ get (host 1 false true false) (text (codes "b")) ∷ read (codes "a") ∷ []
asks_two = refl

-- `(x = e) === null || x === void 0`
abbrev tests_node : Text → Tree → Tree
tests_node x e = logical_node (codes "||") (binary_node (codes "===") (assign_node (identifier x) e) null_node) (binary_node (codes "===") (identifier x) void_zero_node)

-- and what it becomes
abbrev lowered : Tree
lowered = conditional_node (tests_node (codes "_f") (member_node false (assign_node (identifier (codes "_r")) (identifier (codes "a"))) (identifier (codes "b")))) void_zero_node (node CallExpression (made [] (false ∷ [])) (one (member_node false (identifier (codes "_f")) (identifier (codes "call"))) then many (identifier (codes "_r") before identifier (codes "c") before empty) then done))

asks_four_too : asked (state_of (run_with (pending (codes "_f") (pending (codes "_r") [])) (script lowered) undefined moves)) ≡ asked (state_of (run (script optional_call) undefined moves))
asks_four_too = refl
