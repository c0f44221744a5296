use Rattle.std.proofs.Common.{◌∙◌, ◌+◌, length, refl, ap, arith, map}
use Rattle.es_resolution.specs.Seen.{seen}
use Rattle.es_runs.specs.OptionalChaining.{where_short}
use Rattle.es_tree.specs.Tree.{Tree}
use Rattle.lower_temporaries.proofs.Takings.{reads-none}
use Rattle.lower_temporaries.specs.SeenTrees.{no_bindings}
use Rattle.lower_temporaries.specs.Shapes.{at_span}
use Rattle.lower_temporaries.proofs.Later.{reads-made}
use Rattle.lower_chains.proofs.choices.choose_callee.Goals as goal

pub new_void_zero-requires : goal.new_void_zero-requires
new_void_zero-requires c = let b = c.in_ok-callee.ensures no_bindings in omega (arith, b.bound.few, b.bound.size, b.sized, b.takes.next_is, c.requires.room)

pub new_choice-requires-clause-room : goal.new_choice-requires-clause-room
new_choice-requires-clause-room c = let b = c.in_ok-callee.ensures no_bindings in omega (arith, b.bound.few, b.bound.size, b.sized, b.takes.next_is, c.in_ok-undefined.ensures.counted, c.requires.room)

pub returns : goal.returns
returns c = λ names. record {
  between = c.bind_callee.new.ctx;
  callee = seen names c.in_ok-callee.callee;
  binds = c.in_ok-callee.ensures names;
  chooses = record {
    some = c.requires.some;
    choice = c.in_ok-node.ensures.made names ∙ ap (λ (v : Tree). where_short (at_span c.args.span) (map (seen names) c.args.way.tests.items) v (seen names c.in_ok-callee.callee)) (c.in_ok-undefined.ensures.made names);
  };
  reads = reads-made (length c.args.way.tests.items + 2) (length c.args.way.tests.items + 2) c.bind_callee.new.ctx c.bind_callee.new.ctx _ (reads-none c.bind_callee.new.ctx) (omega (arith, c.in_ok-undefined.ensures.counted, c.in_ok-node.ensures.counted)) refl (record { used = λ x. refl; made_is = refl }) (record { state = refl; options = refl; around = refl; scopes = refl; place = refl }) (omega arith);
}
