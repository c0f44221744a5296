-- The rules of lowerings one by one: each is lawful alone, and the constructs of a lowering stay what they are under steps of all.
use Rattle.std.specs.Prelude.{◌≡◌, ◌&&◌, is_some, not, Bool, true, false}
use Rattle.es_tree.specs.Constructs.{field_at, is_chain, is_exponentiation, is_logical_assignment, is_nullish_coalescing, is_object_spread, is_optional_catch}
use Rattle.es_tree.specs.CoreStaticRules.{is_simple_target as is_simple_kind}
use Rattle.es_tree.specs.Parens.{without_parens}
use Rattle.es_tree.specs.RestTargets.{is_rest_assignment}
use Rattle.es_tree.specs.Tree.{Tree, node, Label, Fields, ◌then◌, Field, one, many, Trees, empty, ◌before◌, kind_of}
use Rattle.es_tree.specs.declared.ast_type.AstType.{AstType}
use Rattle.es_tree.specs.declared.ast_type.AstType.TheVariants.{AssignmentExpression, BinaryExpression, Identifier, MemberExpression, ObjectTarget, TargetRest}
use Rattle.es_tree.specs.declared.options.EnvOptions.{EnvOptions}
use Rattle.es_runs.specs.Rules.{is_marked}
use Rattle.es_steps.specs.CoreRules.{RowRule, rule_under, where_on}
use Rattle.es_steps.specs.Exponentiation.{ExponentiationRule}
use Rattle.es_steps.specs.LogicalAssignment.{LogicalAssignmentRule}
use Rattle.es_steps.specs.NullishCoalescing.{NullishCoalescingRule}
use Rattle.es_steps.specs.ObjectSpread.{SpreadRule}
use Rattle.es_steps.specs.OptionalCatch.{CatchRule}
use Rattle.es_steps.specs.OptionalChaining.{OptionalChainingRule}
use Rattle.es_steps.specs.RestAssignments.{RestAssignmentRule}
use Rattle.es_steps.specs.Rules.{Writing, either_rule}
use Rattle.es_steps.specs.Steps.{Ledger, Site, Spot}
use Rattle.es_steps.specs.WrapRule.{WrapRule}
use Rattle.es_changes.specs.Rules.{IsLawfulRule}
use Rattle.es_conditions.specs.CoreConditions.{is_past_chains}
use Rattle.es_traverse.specs.Laws.{IsStable}

-- THE RULE OF EACH LOWERING under some options

abbrev pub logical_assignment_under : EnvOptions → Site → Ledger → Spot → Ledger → Spot → Type 0
logical_assignment_under o = where_on o.es2021.logical_assignment_operators (RowRule LogicalAssignmentRule)

abbrev pub nullish_coalescing_under : EnvOptions → Site → Ledger → Spot → Ledger → Spot → Type 0
nullish_coalescing_under o = where_on o.es2020.nullish_coalescing_operator (RowRule NullishCoalescingRule)

abbrev pub optional_chaining_under : EnvOptions → Site → Ledger → Spot → Ledger → Spot → Type 0
optional_chaining_under o = where_on o.es2020.optional_chaining (RowRule (OptionalChainingRule o.assumptions.no_document_all))

abbrev pub exponentiation_under : EnvOptions → Site → Ledger → Spot → Ledger → Spot → Type 0
exponentiation_under o = where_on o.es2016.exponentiation_operator (RowRule ExponentiationRule)

abbrev pub optional_catch_under : EnvOptions → Site → Ledger → Spot → Ledger → Spot → Type 0
optional_catch_under o = where_on o.es2019.optional_catch_binding CatchRule

-- object spread, where no chain stands around that is lowered
abbrev pub object_spread_under : EnvOptions → Site → Ledger → Spot → Ledger → Spot → Type 0
object_spread_under o n s x s' y = where_on (is_some o.es2018.object_rest_spread) (RowRule SpreadRule) n s x s' y × (is_past_chains o n ≡ true)

abbrev pub rest_assignment_under : EnvOptions → Site → Ledger → Spot → Ledger → Spot → Type 0
rest_assignment_under o = where_on (is_some o.es2018.object_rest_spread) (RowRule RestAssignmentRule)

-- that of the type that keeps what is pending
abbrev pub writing_under : EnvOptions → Site → Ledger → Spot → Ledger → Spot → Type 0
writing_under o = either_rule Writing (WrapRule o)

-- Of each of these rules.
pub record OfEachRule (P : (Site → Ledger → Spot → Ledger → Spot → Type 0) → Type 0) (o : EnvOptions) : Type 0 where
  pub writing : P (writing_under o)
  pub logical_assignment : P (logical_assignment_under o)
  pub nullish_coalescing : P (nullish_coalescing_under o)
  pub optional_chaining : P (optional_chaining_under o)
  pub exponentiation : P (exponentiation_under o)
  pub optional_catch : P (optional_catch_under o)
  pub object_spread : P (object_spread_under o)
  pub rest_assignment : P (rest_assignment_under o)

-- WHAT THEY LOWER: of assignments those to a name or a member without an optional mark, maybe in parentheses. No other target is valid beside these operators
-- (ECMA-262, 13.15.1).

abbrev pub is_simple_node : Tree → Bool
is_simple_node (node Identifier l fs) = true
is_simple_node (node MemberExpression l fs) = not (is_marked MemberExpression l.flags)
is_simple_node _ = false

abbrev pub is_simple : Tree → Bool
is_simple t = is_simple_node (without_parens t)

abbrev pub is_simple_target : Field → Bool
is_simple_target (one t) = is_simple t
is_simple_target _ = false

abbrev pub is_lowered_assignment : AstType → Label → Fields → Bool
is_lowered_assignment k l fs = is_logical_assignment k l fs && is_simple_target (field_at 0 fs)

-- Of assignments to a pattern with a rest those that assign each rest to a name or a member, maybe in parentheses (13.15.5.1).
abbrev pub is_simple_rest : Tree → Bool
is_simple_rest (node TargetRest l (one t then fs)) = is_simple_kind (kind_of (without_parens t))
is_simple_rest _ = true

abbrev pub rests_are_simple : Trees → Bool
rests_are_simple empty = true
rests_are_simple (p before ps) = is_simple_rest p && rests_are_simple ps

abbrev pub is_lowered_rest : AstType → Label → Fields → Bool
is_lowered_rest AssignmentExpression l (one (node ObjectTarget m (many ps then gs)) then fs) = is_rest_assignment AssignmentExpression l (one (node ObjectTarget m (many ps then gs)) then fs) && rests_are_simple ps
is_lowered_rest _ l fs = false

abbrev pub is_lowered_power : AstType → Label → Fields → Bool
is_lowered_power BinaryExpression l fs = is_exponentiation BinaryExpression l fs
is_lowered_power k l fs = is_exponentiation k l fs && is_simple_target (field_at 0 fs)

-- LAWS

-- each is lawful
abbrev pub LawLawfulRows : Type 0
LawLawfulRows = (o : EnvOptions) → OfEachRule IsLawfulRule o

-- Steps of a rule make no node above them a construct of a lowering.
pub record KeepsConstructs (R : Site → Ledger → Spot → Ledger → Spot → Type 0) : Type 0 where
  pub logical_assignment : IsStable R is_lowered_assignment
  pub nullish_coalescing : IsStable R is_nullish_coalescing
  pub optional_chaining : IsStable R is_chain
  pub exponentiation : IsStable R is_lowered_power
  pub optional_catch : IsStable R is_optional_catch
  pub object_spread : IsStable R is_object_spread
  pub rest_assignment : IsStable R is_lowered_rest

-- the core rules together, and each rule
abbrev pub LawStable : Type 0
LawStable = (o : EnvOptions) → KeepsConstructs (rule_under o)

abbrev pub LawStableRows : Type 0
LawStableRows = (o : EnvOptions) → OfEachRule KeepsConstructs o
