-- What options ask for that no lowering does.
use Rattle.std.specs.Prelude.{◌≡◌, List, [], ◌∷◌, Bool, true, false, Option, Some, None, find}
use Rattle.es_tree.specs.declared.error.OptionName.{OptionName}
use Rattle.es_tree.specs.declared.error.OptionName.TheVariants.{
  InlineHelpers,
  Spec,
  Loose,
  UseBuiltIns,
  AsyncToGenerator,
  AsyncGeneratorFunctions,
  PureGetters,
  ObjectRestNoSymbols,
  IgnoreFunctionLength,
}
use Rattle.es_tree.specs.declared.options.ArrowFunctionsOptions.{ArrowFunctionsOptions}
use Rattle.es_tree.specs.declared.options.EnvOptions.{EnvOptions}
use Rattle.es_tree.specs.declared.options.HelperLoaderMode.{HelperLoaderMode}
use Rattle.es_tree.specs.declared.options.HelperLoaderMode.TheVariants.{External, Inline}
use Rattle.es_tree.specs.declared.options.ObjectRestSpreadOptions.{ObjectRestSpreadOptions}

abbrev pub is_inline : HelperLoaderMode → Bool
is_inline Inline = true
is_inline _ = false

abbrev pub is_external : HelperLoaderMode → Bool
is_external External = true
is_external _ = false

abbrev pub is_spec : Option ArrowFunctionsOptions → Bool
is_spec (Some a) = a.spec
is_spec None = false

abbrev pub is_loose : Option ObjectRestSpreadOptions → Bool
is_loose (Some o) = o.loose
is_loose None = false

abbrev pub uses_built_ins : Option ObjectRestSpreadOptions → Bool
uses_built_ins (Some o) = o.use_built_ins
uses_built_ins None = false

-- whether the options ask for this
abbrev pub asks_for : OptionName → EnvOptions → Bool
asks_for InlineHelpers o = is_inline o.helper_loader.mode
asks_for Spec o = is_spec o.es2015.arrow_function
asks_for Loose o = is_loose o.es2018.object_rest_spread
asks_for UseBuiltIns o = uses_built_ins o.es2018.object_rest_spread
asks_for AsyncToGenerator o = o.es2017.async_to_generator
asks_for AsyncGeneratorFunctions o = o.es2018.async_generator_functions
asks_for PureGetters o = o.assumptions.pure_getters
asks_for ObjectRestNoSymbols o = o.assumptions.object_rest_no_symbols
asks_for IgnoreFunctionLength o = o.assumptions.ignore_function_length

-- the names in the order in which they are refused
abbrev pub option_names : List OptionName
option_names =
    InlineHelpers ∷ Spec ∷ Loose ∷ UseBuiltIns ∷ AsyncToGenerator ∷ AsyncGeneratorFunctions ∷ PureGetters ∷
    ObjectRestNoSymbols ∷ IgnoreFunctionLength ∷ []

-- the first that is asked for
abbrev pub first_fault : EnvOptions → Option OptionName
first_fault o = find (λ n. asks_for n o) option_names

-- nothing is asked for that no lowering does
abbrev pub AreCarried : EnvOptions → Type 0
AreCarried o = (n : OptionName) → asks_for n o ≡ false
