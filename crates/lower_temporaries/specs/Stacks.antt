-- What is pending for the statement lists and arrow bodies around a place, the innermost first.
use Rattle.std.specs.Prelude.{List, [], ◌∷◌, ◌++◌, refl}
use Rattle.std.specs.Coded.{Coded, code_by, coded_list, coded×}
use Rattle.es_tree.specs.Tree.{Tree}
use Rattle.es_tree.specs.TreeCode.{tree_code}
use Rattle.es_steps.specs.Open.{Pending}

abbrev pub pending_code : Coded Pending
pending_code = code_by (List Tree × List Tree) (coded× (coded_list tree_code) (coded_list tree_code)) (λ p. (p.vars, p.lets)) (λ q. record { vars = q.0; lets = q.1 }) (λ _. refl)

abbrev pub stack_code : Coded (List Pending)
stack_code = coded_list pending_code

-- the same with another pair for the innermost list
abbrev pub with_top : (Pending → Pending) → List Pending → List Pending
with_top f [] = []
with_top f (p ∷ ps) = f p ∷ ps

-- this declarator of `var` more
abbrev pub with_var : Tree → Pending → Pending
with_var d p = record p { vars = p.vars ++ d ∷ [] }

-- this declarator of `let` more
abbrev pub with_let : Tree → Pending → Pending
with_let d p = record p { lets = p.lets ++ d ∷ [] }
