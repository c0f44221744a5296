use Rattle.std.proofs.Common.{refl}
use Rattle.es_chain_tags.proofs.law_chain_tags.Goals as goal

pub returns : goal.returns
returns c m n o fs gs hs = record { chain = refl; in_parentheses = refl; member = refl }
