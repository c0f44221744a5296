use Rattle.std.proofs.Common.{arith, sym}
use Rattle.std.proofs.lemmas.Bool.{ltb-false, ltb-true}
use Rattle.es_rest_nodes.proofs.RestTests.{other-lists}
use Rattle.es_rest_nodes.proofs.keys.template_text.Goals as goal
use Rattle.es_rest_nodes.proofs.keys.template_text.Goals.{in_default-via-then-fields-lt2, in_default-via-else-fields-lt2+else-fields-lt3}

pub returns-in_default : goal.returns-in_default
returns-in_default c =
    elim c.in_default.branch [
      | in_default-via-then-fields-lt2 w ↦ sym (other-lists c.args.fields.now (omega (arith, ltb-true)))
      | in_default-via-else-fields-lt2+else-fields-lt3 w ↦ sym (other-lists c.args.fields.now (omega (arith, ltb-false)))
    ]
