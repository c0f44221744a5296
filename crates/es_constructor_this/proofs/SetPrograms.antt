-- The laws of steps of the row: what they reach has form, is the same to other modules, breaks no static rule, and its names keep their bindings.
use Rattle.es_tree.specs.declared.options.EnvOptions.{EnvOptions}
use Rattle.es_steps.specs.FormLaws.{StepsKeepForm}
use Rattle.es_steps.specs.Laws.{BindingsKeep, ReachedKeeps}
use Rattle.es_steps.proofs.Reached.{bindings-keep}
use Rattle.es_steps.proofs.StepsKept.{reached-keeps}
use Rattle.es_module_names.specs.Laws.{StepsKeepOutside}
use Rattle.es_valid_names.specs.Laws.{StepsKeepRules}
use Rattle.es_valid_rests.specs.Laws.{with_rests}
use Rattle.es_valid_rests.proofs.RestPrograms.{source-outside, source-rules}
use Rattle.es_valid_rests.proofs.RestSteps.{source-form}
use Rattle.es_constructor_this.specs.SetRows.{SetRow}
use Rattle.es_constructor_this.proofs.SetBindings.{set-lawful, set-writes}
use Rattle.es_constructor_this.proofs.SetForms.{set-form}
use Rattle.es_constructor_this.proofs.SetNames.{set-good}
use Rattle.es_constructor_this.proofs.SetPlaces.{set-faced}
use Rattle.es_constructor_this.proofs.SetReads.{set-read}

-- with those of the other lowerings, as options ask for them

pub set_form_proof : (o : EnvOptions) → StepsKeepForm (with_rests SetRow o)
set_form_proof = source-form SetRow set-form set-faced

pub set_outside_proof : (o : EnvOptions) → StepsKeepOutside (with_rests SetRow o)
set_outside_proof o = source-outside SetRow set-form set-faced o set-read

pub set_rules_proof : (o : EnvOptions) → StepsKeepRules (with_rests SetRow o)
set_rules_proof o = source-rules SetRow set-form set-faced o set-read set-good

-- of the row alone

pub set_bound_proof : ReachedKeeps SetRow
set_bound_proof = reached-keeps SetRow set-lawful set-writes

pub set_bindings_proof : BindingsKeep SetRow
set_bindings_proof = bindings-keep SetRow set-lawful set-writes
