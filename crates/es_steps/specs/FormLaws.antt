-- The laws of form: what the rules of the core lowerings make of a program that has form has form.
use Rattle.std.specs.Prelude.{◌≡◌, true}
use Rattle.es_tree.specs.HasForm.{has_form}
use Rattle.es_tree.specs.Tree.{Tree}
use Rattle.es_tree.specs.declared.options.EnvOptions.{EnvOptions}
use Rattle.es_tree.specs.declared.table.Sort.TheVariants.{Program as s-Program}
use Rattle.es_steps.specs.CoreRules.{CoreRule, rule_under}
use Rattle.es_steps.specs.Laws.{nothing_beside}
use Rattle.es_steps.specs.Open.{Open, opened, finished}
use Rattle.es_steps.specs.Steps.{Whole, Ledger, Site, Spot, the_program, Step, Steps}

-- Whatever steps of these rules are taken from a program that has form, at whatever places and in whatever order: with all that is
-- pending written it has form again.
abbrev pub StepsKeepForm : (Site → Ledger → Spot → Ledger → Spot → Type 0) → Type 0
StepsKeepForm R = (t : Tree) (w w' : Whole) (x : Open) → has_form s-Program t ≡ true → Steps (Step R the_program) (nothing_beside w) (opened t) (nothing_beside w') x → has_form s-Program (finished x) ≡ true

-- And so has what is reached with nothing pending.
abbrev pub ReachedKeepsForm : (Site → Ledger → Spot → Ledger → Spot → Type 0) → Type 0
ReachedKeepsForm R = (p q : Tree) (w w' : Whole) → has_form s-Program p ≡ true → Steps (Step R the_program) (nothing_beside w) (opened p) (nothing_beside w') (opened q) → has_form s-Program q ≡ true

-- the rules that options ask for
abbrev pub LawForm : Type 0
LawForm = (o : EnvOptions) → StepsKeepForm (rule_under o)

abbrev pub LawFormReached : Type 0
LawFormReached = (o : EnvOptions) → ReachedKeepsForm (rule_under o)

-- and the core rules all together
abbrev pub LawCoreForm : Type 0
LawCoreForm = (o : EnvOptions) → StepsKeepForm (CoreRule o)
