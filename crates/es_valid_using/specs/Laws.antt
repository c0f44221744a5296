-- The laws of `using`: what steps reach, those of `using` among them, has form, breaks no static rule, and is alike to other modules.
use Rattle.std.specs.Prelude.{◌≡◌, [], true}
use Rattle.es_tree.specs.HasForm.{has_form}
use Rattle.es_tree.specs.StaticRules.{breaks}
use Rattle.es_tree.specs.Tree.{Tree}
use Rattle.es_tree.specs.declared.options.EnvOptions.{EnvOptions}
use Rattle.es_tree.specs.declared.table.Sort.TheVariants.{Program as s-Program}
use Rattle.es_steps.specs.AllRules.{UsingRule}
use Rattle.es_steps.specs.CoreRules.{where_on}
use Rattle.es_steps.specs.FormLaws.{StepsKeepForm}
use Rattle.es_steps.specs.Laws.{IsWellBound, nothing_beside}
use Rattle.es_steps.specs.Open.{opened}
use Rattle.es_steps.specs.Rules.{either_rule}
use Rattle.es_steps.specs.Steps.{Whole, Ledger, Site, Spot, the_program, Step, Steps}
use Rattle.es_valid_steps.specs.Laws.{StepsKeepPlaces, with_further_rules}
use Rattle.es_module_names.specs.Laws.{SameOutside, StepsKeepOutside}
use Rattle.es_valid_names.specs.Laws.{StepsKeepRules}

-- the rules of all other lowerings that are lawful, and these of `using`, as far as options ask for them
abbrev pub with_using : (Site → Ledger → Spot → Ledger → Spot → Type 0) → EnvOptions → Site → Ledger → Spot → Ledger → Spot → Type 0
with_using Q o = either_rule (with_further_rules o) (where_on o.es2026.explicit_resource_management Q)

-- FORM, of every program
abbrev pub LawUsingForm : Type 0
LawUsingForm = (o : EnvOptions) → StepsKeepForm (with_using UsingRule o)

-- THE SIXTEEN RULES OF PLACES
abbrev pub LawUsingPlaces : Type 0
LawUsingPlaces = (o : EnvOptions) → StepsKeepPlaces (with_using UsingRule o)

-- OTHER MODULES see the same
abbrev pub LawUsingOutside : Type 0
LawUsingOutside = (o : EnvOptions) → StepsKeepOutside (with_using UsingRule o)

-- ALL NINETEEN RULES, where the names of the program are bound and in use
abbrev pub LawUsingRules : Type 0
LawUsingRules = (o : EnvOptions) → StepsKeepRules (with_using UsingRule o)

-- WHAT IS REACHED with nothing pending, from such a program
pub record IsUsingResult (p q : Tree) : Type 0 where
  pub form : has_form s-Program q ≡ true
  pub kept : breaks q ≡ []
  pub outside : SameOutside p q

abbrev pub LawUsingReached : Type 0
LawUsingReached = (o : EnvOptions) (p q : Tree) (w w' : Whole) → has_form s-Program p ≡ true → breaks p ≡ [] → IsWellBound w p → Steps (Step (with_using UsingRule o) the_program) (nothing_beside w) (opened p) (nothing_beside w') (opened q) → IsUsingResult p q
