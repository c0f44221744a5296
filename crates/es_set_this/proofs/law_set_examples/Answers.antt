use Rattle.std.proofs.Common.{refl}
use Rattle.es_set_this.proofs.law_set_examples.Goals as goal

pub returns : goal.returns
returns c = record { sets = refl; in_argument = refl; in_a_block = refl; two_calls = refl; no_call = refl; no_heritage = refl; named = refl; other_name = refl }
