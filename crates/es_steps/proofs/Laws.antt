-- All rules are lawful, and so steps of them keep what a program has.
use Rattle.std.specs.Prelude.{is_some}
use Rattle.es_tree.specs.declared.options.EnvOptions.{EnvOptions}
use Rattle.es_steps.specs.AllRules.{AllRules, ObjectRule, RestRule, UsingRule}
use Rattle.es_steps.specs.Arrows.{ArrowRule}
use Rattle.es_steps.specs.NamespaceExports.{NamespaceRule}
use Rattle.es_steps.specs.OptionalCatch.{CatchRule}
use Rattle.es_steps.proofs.BodyWraps.{body-lawful}
use Rattle.es_steps.proofs.Namespaces.{namespace-lawful}
use Rattle.es_steps.proofs.StatementWraps.{loop-lawful, switch-lawful}
use Rattle.es_steps.proofs.HeadUsings.{head-using-lawful, head-using-writes}
use Rattle.es_steps.proofs.UsingWrites.{body-writes, loop-writes, switch-writes}
use Rattle.es_steps.proofs.CoreLaws.{made-writes, row-lawful, row-writes-all, rule-under-lawful, rule-under-writes, on-lawful, on-writes}
use Rattle.es_steps.proofs.RulesWrite.{row-writes, namespace-writes, catch-writes, catch-rest-writes, parameter-writes, head-writes, target-writes, split-writes, takes-rest-writes, block-writes, arrow-writes}
use Rattle.es_steps.proofs.CatchRests.{catch-rest-lawful}
use Rattle.es_steps.proofs.Heads.{head-lawful, target-lawful}
use Rattle.es_steps.proofs.TakesRest.{takes-rest-lawful}
use Rattle.es_steps.proofs.Wraps.{block-lawful}
use Rattle.es_steps.proofs.Splits.{split-lawful}
use Rattle.es_steps.proofs.Parameters.{parameter-lawful}
use Rattle.es_steps.proofs.Arrows.{arrow-lawful}
use Rattle.es_steps.proofs.Catching.{catch-lawful}
use Rattle.es_steps.specs.Laws.{LawSteps, LawReached}
use Rattle.es_steps.specs.ObjectSpread.{SpreadRule}
use Rattle.es_steps.specs.RestAssignments.{RestAssignmentRule}
use Rattle.es_steps.specs.Rules.{Replacing, either_rule}
use Rattle.es_steps.proofs.Made.{made-law}
use Rattle.es_steps.proofs.RestAssignments.{assigning_rest-makes}
use Rattle.es_steps.proofs.RuleLaws.{node-lawful}
use Rattle.es_steps.proofs.Spreads.{spread-makes}
use Rattle.es_steps.proofs.StepsKept.{steps-keep, reached-keeps}
use Rattle.es_steps.proofs.Taken.{Lawful, Writes, both-lawful, both-write}

spread-lawful : Lawful (Replacing SpreadRule)
spread-lawful = node-lawful SpreadRule (λ n w bs t u h used. made-law n w bs t u (spread-makes n w bs t u h) used)

spread-writes : Writes (Replacing SpreadRule)
spread-writes = row-writes {R = SpreadRule} (made-writes SpreadRule spread-makes)

object-lawful : Lawful ObjectRule
object-lawful = both-lawful spread-lawful (row-lawful RestAssignmentRule assigning_rest-makes)

object-writes : Writes ObjectRule
object-writes = both-write spread-writes (row-writes-all RestAssignmentRule assigning_rest-makes)

rest-lawful : Lawful RestRule
rest-lawful = both-lawful split-lawful (both-lawful takes-rest-lawful (both-lawful catch-rest-lawful (both-lawful head-lawful (both-lawful target-lawful parameter-lawful))))

rest-writes : Writes RestRule
rest-writes = both-write split-writes (both-write takes-rest-writes (both-write catch-rest-writes (both-write head-writes (both-write target-writes parameter-writes))))

using-lawful : Lawful UsingRule
using-lawful = both-lawful block-lawful (both-lawful body-lawful (both-lawful loop-lawful (both-lawful switch-lawful head-using-lawful)))

using-writes : Writes UsingRule
using-writes = both-write block-writes (both-write body-writes (both-write loop-writes (both-write switch-writes head-using-writes)))

pub all-rules-lawful : (o : EnvOptions) → Lawful (AllRules o)
all-rules-lawful o =
    both-lawful (rule-under-lawful o)
    (both-lawful (on-lawful o.es2019.optional_catch_binding CatchRule catch-lawful)
    (both-lawful (on-lawful o.es2020.export_namespace_from NamespaceRule namespace-lawful)
    (both-lawful (on-lawful (is_some o.es2018.object_rest_spread) (either_rule ObjectRule RestRule) (both-lawful object-lawful rest-lawful))
    (both-lawful (on-lawful o.es2026.explicit_resource_management UsingRule using-lawful) (on-lawful (is_some o.es2015.arrow_function) ArrowRule arrow-lawful)))))

pub all-rules-write : (o : EnvOptions) → Writes (AllRules o)
all-rules-write o =
    both-write (rule-under-writes o)
    (both-write (on-writes o.es2019.optional_catch_binding CatchRule catch-writes)
    (both-write (on-writes o.es2020.export_namespace_from NamespaceRule namespace-writes)
    (both-write (on-writes (is_some o.es2018.object_rest_spread) (either_rule ObjectRule RestRule) (both-write object-writes rest-writes))
    (both-write (on-writes o.es2026.explicit_resource_management UsingRule using-writes) (on-writes (is_some o.es2015.arrow_function) ArrowRule arrow-writes)))))

pub law_steps_proof : LawSteps
law_steps_proof o = steps-keep (AllRules o) (all-rules-lawful o) (all-rules-write o)

pub law_reached_proof : LawReached
law_reached_proof o = reached-keeps (AllRules o) (all-rules-lawful o) (all-rules-write o)
