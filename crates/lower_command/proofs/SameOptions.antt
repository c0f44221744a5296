-- Options that the same words ask for are the same.
use Rattle.std.proofs.Common.{List, String, sym, ◌∙◌}
use Rattle.std.specs.declared.alloc.Global.{Global}
use Rattle.es_tree.specs.declared.options.EnvOptions.{EnvOptions}
use Rattle.lower_driver.specs.Copies.{IsCopy}
use Rattle.lower_command.specs.Words.{Asks}

module _ (words : List (String Global)) (o q : EnvOptions) (a : Asks words o) (b : Asks words q) where
  pub same_options : IsCopy q o
  same_options = record {
    es2015 = λ i. record { arrow_function = (a.arrows ∙ sym b.arrows) i };
    es2016 = λ i. record { exponentiation_operator = (a.exponentiation ∙ sym b.exponentiation) i };
    es2017 = λ i. record { async_to_generator = (a.async_to_generator ∙ sym b.async_to_generator) i };
    es2018 = λ i. record { object_rest_spread = (a.rest_spread ∙ sym b.rest_spread) i; async_generator_functions = (a.async_generator_functions ∙ sym b.async_generator_functions) i };
    es2019 = λ i. record { optional_catch_binding = (a.optional_catch ∙ sym b.optional_catch) i };
    es2020 = λ i. record {
      export_namespace_from = (a.namespace ∙ sym b.namespace) i;
      nullish_coalescing_operator = (a.nullish ∙ sym b.nullish) i;
      optional_chaining = (a.chaining ∙ sym b.chaining) i;
      big_int = (a.bigint_warnings ∙ sym b.bigint_warnings) i;
      arbitrary_module_namespace_names = (a.name_warnings ∙ sym b.name_warnings) i;
    };
    es2021 = λ i. record { logical_assignment_operators = (a.logical ∙ sym b.logical) i };
    es2026 = λ i. record { explicit_resource_management = (a.resources ∙ sym b.resources) i };
    assumptions = λ i. record {
      pure_getters = (a.pure_getters ∙ sym b.pure_getters) i;
      object_rest_no_symbols = (a.object_rest_no_symbols ∙ sym b.object_rest_no_symbols) i;
      ignore_function_length = (a.ignore_function_length ∙ sym b.ignore_function_length) i;
      no_document_all = (a.no_document_all ∙ sym b.no_document_all) i;
    };
    mode = a.mode ∙ sym b.mode;
    module_name = a.helper_module ∙ sym b.helper_module;
  }
