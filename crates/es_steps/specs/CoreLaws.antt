-- The laws of the core lowerings: each step keeps every name's binding, and in a slot that isn't wrapped nothing is declared.
use Rattle.std.specs.Prelude.{◌≡◌, true}
use Rattle.es_tree.specs.Tree.{Tree}
use Rattle.es_tree.specs.declared.options.EnvOptions.{EnvOptions}
use Rattle.es_steps.specs.CoreRules.{CoreRule, rule_under}
use Rattle.es_steps.specs.Laws.{StepsKeep, ReachedKeeps, BindingsKeep}
use Rattle.es_steps.specs.Open.{Pending}
use Rattle.es_steps.specs.Slots.{in_open_slot}
use Rattle.es_steps.specs.Steps.{Ledger, ledger, Site, Spot, at_node}

-- These laws speak of the core rules all together, of which options ask for some.
abbrev pub LawCoreSteps : Type 0
LawCoreSteps = (o : EnvOptions) → StepsKeep (CoreRule o)

abbrev pub LawCoreReached : Type 0
LawCoreReached = (o : EnvOptions) → ReachedKeeps (CoreRule o)

abbrev pub LawCoreBindings : Type 0
LawCoreBindings = (o : EnvOptions) → BindingsKeep (CoreRule o)

-- what the options ask for is among the core rules
abbrev pub LawRulesUnder : Type 0
LawRulesUnder = (o : EnvOptions) (n : Site) (s s' : Ledger) (x y : Spot) → rule_under o n s x s' y → CoreRule o n s x s' y

-- SLOTS

abbrev pub declarators_in : Ledger → Pending
declarators_in (ledger w p x a) = p

abbrev pub LawSlots : Type 0
LawSlots = (o : EnvOptions) (n : Site) (s s' : Ledger) (t u : Tree) → in_open_slot n.above ≡ true → CoreRule o n s (at_node t) s' (at_node u) → declarators_in s' ≡ declarators_in s
