-- The laws of object rests: what steps reach, those of rests among them, has form and breaks no static rule of places, and where no exported
-- declaration splits none of all nineteen, and is the same to other modules.
use Rattle.std.specs.Prelude.{is_some}
use Rattle.es_tree.specs.declared.options.EnvOptions.{EnvOptions}
use Rattle.es_steps.specs.CoreRules.{where_on}
use Rattle.es_steps.specs.FormLaws.{StepsKeepForm}
use Rattle.es_steps.specs.Rules.{either_rule}
use Rattle.es_steps.specs.Steps.{Ledger, Site, Spot}
use Rattle.es_valid_steps.specs.Laws.{StepsKeepPlaces, with_further_rules}
use Rattle.es_module_names.specs.Laws.{StepsKeepOutside}
use Rattle.es_valid_names.specs.Laws.{StepsKeepRules}
use Rattle.es_valid_rests.specs.RestRules.{OutsidePart, RestPart}

-- the rules of all other lowerings that are lawful but those of arrows, and those of object rests, as far as options ask for them
abbrev pub with_rests : (Site → Ledger → Spot → Ledger → Spot → Type 0) → EnvOptions → Site → Ledger → Spot → Ledger → Spot → Type 0
with_rests Q o = either_rule (with_further_rules o) (where_on (is_some o.es2018.object_rest_spread) Q)

-- FORM, of every program
abbrev pub LawRestForm : Type 0
LawRestForm = (o : EnvOptions) → StepsKeepForm (with_rests RestPart o)

-- THE SIXTEEN RULES OF PLACES
abbrev pub LawRestPlaces : Type 0
LawRestPlaces = (o : EnvOptions) → StepsKeepPlaces (with_rests RestPart o)

-- OTHER MODULES see the same, where no exported declaration splits
abbrev pub LawRestOutside : Type 0
LawRestOutside = (o : EnvOptions) → StepsKeepOutside (with_rests OutsidePart o)

-- ALL NINETEEN, where the names of the program are bound and in use
abbrev pub LawRestRules : Type 0
LawRestRules = (o : EnvOptions) → StepsKeepRules (with_rests OutsidePart o)
