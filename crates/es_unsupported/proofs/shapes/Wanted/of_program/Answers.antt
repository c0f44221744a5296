use Rattle.std.proofs.Common.{◌&&◌, refl, ap, ◌∙◌}
use Rattle.es_rest_shapes.specs.HelperNames.{binds_helpers}
use Rattle.es_unsupported.proofs.shapes.Wanted.of_program.Goals as goal

pub returns : goal.returns
returns c = λ ds binds. record {
  math = c.where_bound.ensures ds binds;
  helpers = c.where_bound-2.ensures ds binds ∙ ap (λ b. b && binds_helpers ds) c.is_some-copies.ensures;
  literals = c.is_some-copies.ensures;
  rests = c.is_some-copies.ensures;
  declarations = refl;
  arrows = c.is_some.ensures;
  chains = refl;
}
