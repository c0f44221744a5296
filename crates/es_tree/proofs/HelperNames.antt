-- No two helpers have one name.
use Rattle.std.proofs.Common.{◌≡◌, List, [], ◌∷◌, Option, Some, find, bytes_eq, refl, sym, ap, ◌∙◌, unwrap_or}
use Rattle.es_tree.specs.Words.{Text}
use Rattle.es_tree.specs.Helpers.{helper_text}
use Rattle.es_tree.specs.declared.helper.Helper.{Helper}
use Rattle.es_tree.specs.declared.helper.Helper.TheVariants.{
  AwaitAsyncGenerator,
  AsyncGeneratorDelegate,
  AsyncIterator,
  AsyncToGenerator,
  ObjectSpread2,
  WrapAsyncGenerator,
  Extends,
  ObjectDestructuringEmpty,
  ObjectWithoutProperties,
  ToPropertyKey,
  DefineProperty,
  ClassPrivateFieldInitSpec,
  ClassPrivateMethodInitSpec,
  ClassPrivateFieldGet2,
  ClassPrivateFieldSet2,
  AssertClassBrand,
  ToSetter,
  ClassPrivateFieldLooseKey,
  ClassPrivateFieldLooseBase,
  SuperPropGet,
  SuperPropSet,
  ReadOnlyError,
  WriteOnlyError,
  CheckInRHS,
  Decorate,
  DecorateParam,
  DecorateMetadata,
  UsingCtx,
  TaggedTemplateLiteral,
  SetFunctionName,
}

abbrev helpers : List Helper
helpers =
    AwaitAsyncGenerator ∷ AsyncGeneratorDelegate ∷ AsyncIterator ∷ AsyncToGenerator ∷ ObjectSpread2 ∷
    WrapAsyncGenerator ∷ Extends ∷ ObjectDestructuringEmpty ∷ ObjectWithoutProperties ∷ ToPropertyKey ∷
    DefineProperty ∷ ClassPrivateFieldInitSpec ∷ ClassPrivateMethodInitSpec ∷ ClassPrivateFieldGet2 ∷
    ClassPrivateFieldSet2 ∷ AssertClassBrand ∷ ToSetter ∷ ClassPrivateFieldLooseKey ∷
    ClassPrivateFieldLooseBase ∷ SuperPropGet ∷ SuperPropSet ∷ ReadOnlyError ∷ WriteOnlyError ∷ CheckInRHS ∷
    Decorate ∷ DecorateParam ∷ DecorateMetadata ∷ UsingCtx ∷ TaggedTemplateLiteral ∷ SetFunctionName ∷ []

-- the helper with this name
abbrev pub helper_named : Text → Option Helper
helper_named s = find (λ h. bytes_eq (helper_text h) s) helpers

pub named-text : (h : Helper) → helper_named (helper_text h) ≡ Some h
named-text AwaitAsyncGenerator = refl
named-text AsyncGeneratorDelegate = refl
named-text AsyncIterator = refl
named-text AsyncToGenerator = refl
named-text ObjectSpread2 = refl
named-text WrapAsyncGenerator = refl
named-text Extends = refl
named-text ObjectDestructuringEmpty = refl
named-text ObjectWithoutProperties = refl
named-text ToPropertyKey = refl
named-text DefineProperty = refl
named-text ClassPrivateFieldInitSpec = refl
named-text ClassPrivateMethodInitSpec = refl
named-text ClassPrivateFieldGet2 = refl
named-text ClassPrivateFieldSet2 = refl
named-text AssertClassBrand = refl
named-text ToSetter = refl
named-text ClassPrivateFieldLooseKey = refl
named-text ClassPrivateFieldLooseBase = refl
named-text SuperPropGet = refl
named-text SuperPropSet = refl
named-text ReadOnlyError = refl
named-text WriteOnlyError = refl
named-text CheckInRHS = refl
named-text Decorate = refl
named-text DecorateParam = refl
named-text DecorateMetadata = refl
named-text UsingCtx = refl
named-text TaggedTemplateLiteral = refl
named-text SetFunctionName = refl

pub helper_text-injective : (g h : Helper) → helper_text g ≡ helper_text h → g ≡ h
helper_text-injective g h e =
    ap (λ o. unwrap_or o g) (sym (named-text g) ∙ ap helper_named e ∙ named-text h)
