-- The example holds by computing.
use Rattle.std.proofs.Common.{refl}
use Rattle.es_module_names.specs.Examples.{LawExamples}

pub law_examples_proof : LawExamples
law_examples_proof = record { formed = refl; requests = refl; stars = refl; exports = refl }
