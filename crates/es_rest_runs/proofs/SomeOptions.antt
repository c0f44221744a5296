-- Options that ask for object rests, and for nothing else.
use denote.RawPtr.{null_ptr}
use Rattle.std.proofs.Common.{refl, [], arith}
use Rattle.std.specs.Prelude.{false, Some, None}
use Rattle.std.proofs.lemmas.Grind.{merely}
use Rattle.std.proofs.lemmas.Str.{IsUtf8-nil}
use Rattle.es_tree.specs.declared.options.EnvOptions.{EnvOptions}
use Rattle.es_tree.specs.declared.options.HelperLoaderMode.TheVariants.{Runtime}

abbrev pub some_options : EnvOptions
some_options = record {
  es2015 = record { arrow_function = None };
  es2016 = record { exponentiation_operator = false };
  es2017 = record { async_to_generator = false };
  es2018 = record { object_rest_spread = Some (record { loose = false; use_built_ins = false }); async_generator_functions = false };
  es2019 = record { optional_catch_binding = false };
  es2020 = record { export_namespace_from = false; nullish_coalescing_operator = false; optional_chaining = false; big_int = false; arbitrary_module_namespace_names = false };
  es2021 = record { logical_assignment_operators = false };
  es2026 = record { explicit_resource_management = false };
  assumptions = record { pure_getters = false; object_rest_no_symbols = false; ignore_function_length = false; no_document_all = false };
  helper_loader = record { module_name = record { bytes = record { ptr = null_ptr; len = 0; cap = 0; alloc = record { memory = record { seal = tt } }; items = []; ok = (refl, omega arith); small = omega arith }; ok = merely IsUtf8-nil }; mode = Runtime };
}
