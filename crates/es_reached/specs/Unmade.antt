-- Constructs that no row makes, as one test of nodes: those that are sought are found by it.
use Rattle.std.specs.Prelude.{◌≡◌, List, Bool, true, false, ◌&&◌, ◌||◌, bytes_eq, codes}
use Rattle.es_tree.specs.Constructs.{is_chain, is_object_rest, is_object_spread, is_using}
use Rattle.es_tree.specs.HasForm.{same_type}
use Rattle.es_tree.specs.Names.{first_text}
use Rattle.es_tree.specs.Tree.{Tree, Label, Fields}
use Rattle.es_tree.specs.Walks.{any_node}
use Rattle.es_tree.specs.Words.{Text}
use Rattle.es_tree.specs.declared.ast_type.AstType.{AstType}
use Rattle.es_tree.specs.declared.ast_type.AstType.TheVariants.{AssignmentExpression, BinaryExpression, ObjectPattern, ObjectTarget}
use Rattle.es_tree.specs.declared.options.EnvOptions.{EnvOptions}
use Rattle.es_runs.specs.LogicalAssignment.{is_logical_assignment_operator}
use Rattle.es_steps.specs.CoreBridge.{Reached, first_whole}
use Rattle.es_reached.specs.Reached.{built_rules}

-- Which of these are sought: object patterns with a rest, of these kinds, object literals with a spread, optional chains, assignments by `||=`, `&&=` and `??=`,
-- powers by `**` and `**=`, and declarations by `using`.
pub record Sought : Type 0 where
  pub rests : AstType → Bool
  pub spreads : Bool
  pub chains : Bool
  pub assignments : Bool
  pub powers : Bool
  pub usings : Bool

-- an assignment by `||=`, `&&=` or `??=`, whatever its target (ECMA-262, 13.15)
abbrev pub is_any_logical_assignment : AstType → Label → Fields → Bool
is_any_logical_assignment AssignmentExpression l fs = is_logical_assignment_operator (first_text l.texts)
is_any_logical_assignment _ l fs = false

-- a power by `**` or `**=`, whatever its operands (13.6, 13.15)
abbrev pub is_any_power : AstType → Label → Fields → Bool
is_any_power AssignmentExpression l fs = bytes_eq (first_text l.texts) (codes "**=")
is_any_power BinaryExpression l fs = bytes_eq (first_text l.texts) (codes "**")
is_any_power _ l fs = false

abbrev pub is_sought : Sought → AstType → Label → Fields → Bool
is_sought c k l fs =
    (is_object_rest k l fs && c.rests k)
    || (is_object_spread k l fs && c.spreads)
    || (is_chain k l fs && c.chains)
    || (is_any_logical_assignment k l fs && c.assignments)
    || (is_any_power k l fs && c.powers)
    || (is_using k l fs && c.usings)

-- one of them alone
abbrev pub nothing_sought : Sought
nothing_sought = record { rests = λ k. false; spreads = false; chains = false; assignments = false; powers = false; usings = false }

-- of object patterns with a rest those that are declared
abbrev pub of_declared_rests : Sought
of_declared_rests = record nothing_sought { rests = λ k. same_type k ObjectPattern }

-- and those to which a value is assigned
abbrev pub of_assigned_rests : Sought
of_assigned_rests = record nothing_sought { rests = λ k. same_type k ObjectTarget }

abbrev pub of_spreads : Sought
of_spreads = record nothing_sought { spreads = true }

abbrev pub of_chains : Sought
of_chains = record nothing_sought { chains = true }

abbrev pub of_assignments : Sought
of_assignments = record nothing_sought { assignments = true }

abbrev pub of_powers : Sought
of_powers = record nothing_sought { powers = true }

abbrev pub of_usings : Sought
of_usings = record nothing_sought { usings = true }

-- No step of the built rules makes one of them: what is reached from a program without what is sought is without it too.
abbrev pub LawNoneMade : Type 0
LawNoneMade = (c : Sought) (o : EnvOptions) (p r : Tree) (names : List Text) → Reached (built_rules o) p (first_whole p) names r → any_node (is_sought c) p ≡ false → any_node (is_sought c) r ≡ false
