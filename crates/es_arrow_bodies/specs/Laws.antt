-- The laws of arrows that get a body: what steps reach, those of object rests among them, has form, is the same to other modules, breaks no
-- static rule, and its names keep their bindings.
use Rattle.es_tree.specs.declared.options.EnvOptions.{EnvOptions}
use Rattle.es_steps.specs.FormLaws.{StepsKeepForm}
use Rattle.es_steps.specs.Laws.{BindingsKeep, ReachedKeeps}
use Rattle.es_module_names.specs.Laws.{StepsKeepOutside}
use Rattle.es_valid_names.specs.Laws.{StepsKeepRules}
use Rattle.es_valid_rests.specs.Laws.{with_rests}
use Rattle.es_arrow_bodies.specs.ArrowBodies.{WithBodies}

-- FORM, of every program
abbrev pub LawBodyForm : Type 0
LawBodyForm = (o : EnvOptions) → StepsKeepForm (with_rests WithBodies o)

-- OTHER MODULES see the same
abbrev pub LawBodyOutside : Type 0
LawBodyOutside = (o : EnvOptions) → StepsKeepOutside (with_rests WithBodies o)

-- ALL NINETEEN static rules, where the names of the program are bound and in use
abbrev pub LawBodyRules : Type 0
LawBodyRules = (o : EnvOptions) → StepsKeepRules (with_rests WithBodies o)

-- NAMES KEEP THEIR BINDINGS
abbrev pub LawBodyBound : Type 0
LawBodyBound = ReachedKeeps WithBodies

abbrev pub LawBodyBindings : Type 0
LawBodyBindings = BindingsKeep WithBodies
