use Rattle.std.proofs.Common.{refl}
use Rattle.es_unsupported.proofs.laws.law_shape_examples.Goals as goal

pub returns : goal.returns
returns c = record {
  this_word = record { formed = refl; first = λ o. refl };
  deleted_this = record { formed = refl; first = λ o. refl };
  super_member = record { formed = refl; first = λ o. refl };
  in_method = record { formed = refl; first = λ o. refl };
  constructor_this = record { formed = refl; first = λ o. refl };
  inner_super = record { formed = refl; first = λ o. refl };
  early_super = record { formed = refl; first = λ o. refl };
  early_alone = record { formed = refl; first = λ o. refl };
  outer_arguments = record { formed = refl; first = λ o. refl };
  own_arguments = record { formed = refl; first = λ o. refl };
  in_slot = record { formed = refl; first = λ o. refl };
  in_parameter = record { formed = refl; first = λ o. refl };
  object_rest = record { formed = refl; first = λ o. refl };
  rest_parameter = record { formed = refl; first = λ o. refl };
  computed_key = record { formed = refl; first = λ o. refl };
  computed_parameter = record { formed = refl; first = λ o. refl };
  rest_in_property = record { formed = refl; first = λ o. refl };
  rest_of_default = record { formed = refl; first = λ o. refl };
  array_in_property = record { formed = refl; first = λ o. refl };
  property_parameter = record { formed = refl; first = λ o. refl };
  rest_default = record { formed = refl; first = λ o. refl };
  rest_head = record { formed = refl; first = λ o. refl };
  array_declared = record { formed = refl; first = λ o. refl };
  rest_in_array = record { formed = refl; first = λ o. refl };
  property_in_array = record { formed = refl; first = λ o. refl };
  rest_nested = record { formed = refl; first = λ o. refl };
  target_nested = record { formed = refl; first = λ o. refl };
  rest_assigned = record { formed = refl; first = λ o. refl };
  target_default = record { formed = refl; first = λ o. refl };
  parameter_default = record { formed = refl; first = λ o. refl };
  bound_helper = record { formed = refl; first = λ o. refl };
  bound_target = record { formed = refl; first = λ o. refl };
  bound_nested = record { formed = refl; first = λ o. refl };
  bound_elsewhere = record { formed = refl; first = λ o. refl };
  using_head = record { formed = refl; first = λ o. refl };
  using_function = record { formed = refl; first = λ o. refl };
  using_declared = record { formed = refl; first = λ o. refl };
}
