use Rattle.std.proofs.Common.{◌∙◌, ◌+◌, length, refl, ap, arith, map}
use Rattle.es_resolution.specs.Seen.{seen}
use Rattle.es_runs.specs.OptionalChaining.{where_short}
use Rattle.es_tree.specs.Tree.{Tree}
use Rattle.lower_temporaries.proofs.Takings.{reads-none}
use Rattle.lower_temporaries.specs.Shapes.{at_span}
use Rattle.lower_temporaries.proofs.Later.{reads-made}
use Rattle.lower_chains.proofs.choices.choose_value.Goals as goal

pub returns : goal.returns
returns c = λ names. record {
  chooses = record {
    some = c.requires.some;
    choice = c.in_ok-node.ensures.made names ∙ ap (λ (v : Tree). where_short (at_span c.args.span) (map (seen names) c.args.way.tests.items) v (seen names c.args.way.current)) (c.in_ok-undefined.ensures.made names);
  };
  reads = reads-made (length c.args.way.tests.items + 2) (length c.args.way.tests.items + 2) c.args.ctx.now c.args.ctx.now _ (reads-none c.args.ctx.now) (omega (arith, c.in_ok-undefined.ensures.counted, c.in_ok-node.ensures.counted)) refl (record { used = λ x. refl; made_is = refl }) (record { state = refl; options = refl; around = refl; scopes = refl; place = refl }) (omega arith);
}
