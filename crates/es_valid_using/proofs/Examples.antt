-- The examples of `using` hold.
use Rattle.std.proofs.Common.{◌≡◌, refl, inl, inr, sym, subst}
use Rattle.std.specs.Prelude.{Bool, true}
use Rattle.es_tree.specs.Tree.{empty, ◌before◌}
use Rattle.es_tree.specs.declared.options.EnvOptions.{EnvOptions}
use Rattle.es_steps.specs.AllRules.{UsingRule}
use Rattle.es_steps.specs.CoreRules.{where_on}
use Rattle.es_steps.specs.Nodes.{block_node}
use Rattle.es_steps.specs.Open.{Open}
use Rattle.es_steps.specs.Rules.{either_rule}
use Rattle.es_steps.specs.Steps.{Ledger, the_program, Step, Steps, acts, inside, in_later, in_first, in_child, in_program, in_head, stays, goes}
use Rattle.es_steps.specs.UsingBlocks.BlockUsing.{of_block, of_part}
use Rattle.es_steps.specs.UsingBlocks.Constants.{ended, using}
use Rattle.es_steps.specs.UsingBlocks.Constants.{stays as other}
use Rattle.es_steps.specs.UsingBlocks.UsedAll.{no_more, uses}
use Rattle.es_steps.specs.UsingLoops.LoopUsing.{of_loop}
use Rattle.es_steps.specs.UsingLoops.UsesInHead.{in_head as in_head_of, with_label}
use Rattle.es_steps.specs.UsingSwitches.ConstantsInCases.{no_case, in_case}
use Rattle.es_steps.specs.UsingSwitches.SwitchUsing.{of_switch}
use Rattle.es_valid_steps.specs.Laws.{with_further_rules}
use Rattle.es_valid_using.specs.Examples.{LawUsingExamples, Leads, constant, labelled, loop_of, switch_of, tried, try_of, used, script}
use Rattle.es_valid_using.specs.Laws.{with_using}

-- where options ask for them
asked : (o : EnvOptions) {s s' : Ledger} {t u : Open} → o.es2026.explicit_resource_management ≡ true → Step (either_rule (with_further_rules o) UsingRule) the_program s t s' u → Steps (Step (with_using UsingRule o) the_program) s t s' u
asked o {s} {s'} {t} {u} e h = subst (λ (b : Bool). Steps (Step (either_rule (with_further_rules o) (where_on b UsingRule)) the_program) s t s' u) (sym e) (goes h stays)

block-leads : Leads (script (block_node (used before empty) before empty)) (λ w. script (tried w (constant w before empty) before empty))
block-leads o w on fresh helpers = asked o on (inside (in_later (in_first (in_program refl (in_head (acts (block_node (used before empty)) (tried w (constant w before empty)) (inr (inl (of_block refl refl (record { fresh = fresh; other = refl; helpers = refl; helpers_used = helpers }) (using refl (uses no_more) ended))))))))))

part-leads : Leads (script (try_of (used before empty) before empty)) (λ w. script (try_of (tried w (constant w before empty) before empty) before empty))
part-leads o w on fresh helpers = asked o on (inside (in_later (in_first (in_program refl (in_head (inside (in_first (in_child (acts (block_node (used before empty)) (block_node (tried w (constant w before empty) before empty)) (inr (inl (of_part refl refl (record { fresh = fresh; other = refl; helpers = refl; helpers_used = helpers }) (using refl (uses no_more) ended)))))))))))))

switch-leads : Leads (script (switch_of used before empty)) (λ w. script (tried w (switch_of (constant w) before empty) before empty))
switch-leads o w on fresh helpers = asked o on (inside (in_later (in_first (in_program refl (in_head (acts (switch_of used) (tried w (switch_of (constant w) before empty)) (inr (inr (inr (inr (inl (of_switch refl refl (record { fresh = fresh; other = refl; helpers = refl; helpers_used = helpers }) (in_case (using refl (uses no_more) (other refl ended)) no_case)))))))))))))

loop-leads : Leads (script (labelled (loop_of used) before empty)) (λ w. script (tried w (labelled (loop_of (constant w)) before empty) before empty))
loop-leads o w on fresh helpers = asked o on (inside (in_later (in_first (in_program refl (in_head (acts (labelled (loop_of used)) (tried w (labelled (loop_of (constant w)) before empty)) (inr (inr (inr (inl (of_loop refl (record { fresh = fresh; other = refl; helpers = refl; helpers_used = helpers }) (with_label (in_head_of refl (uses no_more))))))))))))))

pub law_using_examples_proof : LawUsingExamples
law_using_examples_proof = record {
  block = record { both = record { source = record { formed = refl; kept = refl }; left = λ w. record { formed = refl; kept = refl } }; leads = block-leads };
  part = record { both = record { source = record { formed = refl; kept = refl }; left = λ w. record { formed = refl; kept = refl } }; leads = part-leads };
  switch_word = record { both = record { source = record { formed = refl; kept = refl }; left = λ w. record { formed = refl; kept = refl } }; leads = switch-leads };
  loop = record { both = record { source = record { formed = refl; kept = refl }; left = λ w. record { formed = refl; kept = refl } }; leads = loop-leads };
  head = record { source = record { formed = refl; kept = refl }; left = λ w. record { formed = refl; kept = refl } };
  top = refl;
}
