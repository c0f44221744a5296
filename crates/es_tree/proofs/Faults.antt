-- No fault is found just where the options ask for nothing that no lowering does.
use Rattle.std.proofs.Common.{◌≡◌, List, [], ◌∷◌, Bool, true, false, cond, Option, Some, None, find, refl}
use Rattle.es_tree.specs.Options.{asks_for, first_fault, option_names, AreCarried}
use Rattle.es_tree.specs.declared.error.OptionName.TheVariants.{
  InlineHelpers,
  Spec,
  Loose,
  UseBuiltIns,
  AsyncToGenerator,
  AsyncGeneratorFunctions,
  PureGetters,
  ObjectRestNoSymbols,
  IgnoreFunctionLength,
}
use Rattle.es_tree.specs.declared.options.EnvOptions.{EnvOptions}

passed : {X : Type 0} (found : Bool) (x : X) (later : Option X) → cond found (Some x) later ≡ None → (found ≡ false) × (later ≡ None)
passed true x later h = cc
passed false x later h = (refl, h)

pub no_fault : (o : EnvOptions) → first_fault o ≡ None → AreCarried o
no_fault o h =
    let inline = passed (asks_for InlineHelpers o) InlineHelpers _ h in
    let spec = passed (asks_for Spec o) Spec _ inline.1 in
    let loose = passed (asks_for Loose o) Loose _ spec.1 in
    let built_ins = passed (asks_for UseBuiltIns o) UseBuiltIns _ loose.1 in
    let async = passed (asks_for AsyncToGenerator o) AsyncToGenerator _ built_ins.1 in
    let generators = passed (asks_for AsyncGeneratorFunctions o) AsyncGeneratorFunctions _ async.1 in
    let getters = passed (asks_for PureGetters o) PureGetters _ generators.1 in
    let symbols = passed (asks_for ObjectRestNoSymbols o) ObjectRestNoSymbols _ getters.1 in
    let lengths = passed (asks_for IgnoreFunctionLength o) IgnoreFunctionLength _ symbols.1 in
    λ n. elim n as (λ m. asks_for m o ≡ false) [
      | InlineHelpers ↦ inline.0
      | Spec ↦ spec.0
      | Loose ↦ loose.0
      | UseBuiltIns ↦ built_ins.0
      | AsyncToGenerator ↦ async.0
      | AsyncGeneratorFunctions ↦ generators.0
      | PureGetters ↦ getters.0
      | ObjectRestNoSymbols ↦ symbols.0
      | IgnoreFunctionLength ↦ lengths.0
    ]

none_found : {X : Type 0} (p : X → Bool) (xs : List X) → ((x : X) → p x ≡ false) → find p xs ≡ None
none_found p [] h = refl
none_found p (x ∷ xs) h = λ i. cond (h x i) (Some x) (none_found p xs h i)

pub carried : (o : EnvOptions) → AreCarried o → first_fault o ≡ None
carried o h = none_found (λ n. asks_for n o) option_names h
