-- The rules that options ask for are lawful.
use Rattle.std.proofs.Common.{refl}
use Rattle.es_steps.proofs.CoreLaws.{rule-under-lawful, rule-under-writes}
use Rattle.es_steps.proofs.FormRules.{rule-under-form}
use Rattle.es_steps.proofs.LocalRules.{law_core_local_proof}
use Rattle.es_changes.specs.Laws.{LawLawful}
use Rattle.es_changes.specs.Rules.{is_asked_for}

pub law_lawful_proof : LawLawful
law_lawful_proof o = record { names = rule-under-lawful o; writes = rule-under-writes o; form = rule-under-form o; local = law_core_local_proof o is_asked_for refl }
