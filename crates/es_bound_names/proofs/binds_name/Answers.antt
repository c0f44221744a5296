use Rattle.std.proofs.Common.{◌∙◌, sym}
use Rattle.es_bound_names.proofs.Declaring.{law_bound_proof}
use Rattle.es_bound_names.proofs.binds_name.Goals as goal

pub returns : goal.returns
returns c = c.declares.ensures ∙ sym (law_bound_proof c.args.name.now c.args.program.now)
