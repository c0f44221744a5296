use Rattle.std.proofs.Common.{arith, sym}
use Rattle.std.proofs.lemmas.Bool.{ltb-false, ltb-true}
use Rattle.es_rest_nodes.proofs.RestTests.{more-elements, some-expressions}
use Rattle.es_rest_nodes.proofs.keys.sole_text.Goals as goal
use Rattle.es_rest_nodes.proofs.keys.sole_text.Goals.{in_default-via-then-elements-lt1, in_default-via-else-elements-lt1+then-this-lt2+else-this-lt1, in_default-via-else-elements-lt1+else-this-lt2}

pub returns-in_default : goal.returns-in_default
returns-in_default c =
    let ts = c.args.elements.now in
    let us = c.args.expressions.now in
    elim c.in_default.branch [
      | in_default-via-then-elements-lt1 w ↦ sym (more-elements ts us (omega (arith, ltb-true)))
      | in_default-via-else-elements-lt1+then-this-lt2+else-this-lt1 w ↦ sym (some-expressions ts us (omega (arith, ltb-false)))
      | in_default-via-else-elements-lt1+else-this-lt2 w ↦ sym (more-elements ts us (omega (arith, ltb-false)))
    ]
