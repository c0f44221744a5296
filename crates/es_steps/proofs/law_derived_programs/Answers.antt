use Rattle.es_steps.proofs.DerivedPrograms.{law_derived_programs_proof}
use Rattle.es_steps.proofs.law_derived_programs.Goals as goal

pub returns : goal.returns
returns c = law_derived_programs_proof
