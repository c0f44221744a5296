-- All rules together, as far as options ask for their lowerings.
use Rattle.std.specs.Prelude.{is_some}
use Rattle.es_tree.specs.declared.options.EnvOptions.{EnvOptions}
use Rattle.es_steps.specs.Arrows.{ArrowRule}
use Rattle.es_steps.specs.CatchPatterns.{CatchRest}
use Rattle.es_steps.specs.CoreRules.{RowRule, rule_under, where_on}
use Rattle.es_steps.specs.LoopHeads.{HeadRest, TargetHead}
use Rattle.es_steps.specs.NamespaceExports.{NamespaceRule}
use Rattle.es_steps.specs.ObjectRest.{SplitRule, TakesRest}
use Rattle.es_steps.specs.ObjectSpread.{SpreadRule}
use Rattle.es_steps.specs.OptionalCatch.{CatchRule}
use Rattle.es_steps.specs.ParameterPatterns.{ParameterRest}
use Rattle.es_steps.specs.RestAssignments.{RestAssignmentRule}
use Rattle.es_steps.specs.Rules.{Replacing, either_rule}
use Rattle.es_steps.specs.Steps.{Ledger, Site, Spot}
use Rattle.es_steps.specs.UsingBlocks.{BlockUsing}
use Rattle.es_steps.specs.UsingBodies.{BodyUsing}
use Rattle.es_steps.specs.UsingLoops.{HeadUsing, LoopUsing}
use Rattle.es_steps.specs.UsingSwitches.{SwitchUsing}

-- a rest is taken where it stands, and patterns with one move to a declaration
abbrev pub RestRule : Site → Ledger → Spot → Ledger → Spot → Type 0
RestRule = either_rule SplitRule (either_rule TakesRest (either_rule CatchRest (either_rule HeadRest (either_rule TargetHead ParameterRest))))

-- `using` in each of its places
abbrev pub UsingRule : Site → Ledger → Spot → Ledger → Spot → Type 0
UsingRule = either_rule BlockUsing (either_rule BodyUsing (either_rule LoopUsing (either_rule SwitchUsing HeadUsing)))

-- what becomes of objects in expressions: of a literal with spreads, and of an assignment to a pattern with a rest
abbrev pub ObjectRule : Site → Ledger → Spot → Ledger → Spot → Type 0
ObjectRule = either_rule (Replacing SpreadRule) (RowRule RestAssignmentRule)

-- the lowerings that aren't core ones
abbrev pub further_rules : EnvOptions → Site → Ledger → Spot → Ledger → Spot → Type 0
further_rules o =
    either_rule (where_on o.es2019.optional_catch_binding CatchRule)
    (either_rule (where_on o.es2020.export_namespace_from NamespaceRule)
    (either_rule (where_on (is_some o.es2018.object_rest_spread) (either_rule ObjectRule RestRule))
    (either_rule (where_on o.es2026.explicit_resource_management UsingRule) (where_on (is_some o.es2015.arrow_function) ArrowRule))))

abbrev pub AllRules : EnvOptions → Site → Ledger → Spot → Ledger → Spot → Type 0
AllRules o = either_rule (rule_under o) (further_rules o)
