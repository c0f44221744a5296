-- The helpers of the runtime.
use Rattle.std.specs.Prelude.{Bool, true, false, codes}
use Rattle.es_tree.specs.Words.{Text}
use Rattle.es_tree.specs.declared.helper.Helper.{Helper}
use Rattle.es_tree.specs.declared.helper.Helper.TheVariants.{
  AwaitAsyncGenerator,
  AsyncGeneratorDelegate,
  AsyncIterator,
  AsyncToGenerator,
  ObjectSpread2,
  WrapAsyncGenerator,
  Extends,
  ObjectDestructuringEmpty,
  ObjectWithoutProperties,
  ToPropertyKey,
  DefineProperty,
  ClassPrivateFieldInitSpec,
  ClassPrivateMethodInitSpec,
  ClassPrivateFieldGet2,
  ClassPrivateFieldSet2,
  AssertClassBrand,
  ToSetter,
  ClassPrivateFieldLooseKey,
  ClassPrivateFieldLooseBase,
  SuperPropGet,
  SuperPropSet,
  ReadOnlyError,
  WriteOnlyError,
  CheckInRHS,
  Decorate,
  DecorateParam,
  DecorateMetadata,
  UsingCtx,
  TaggedTemplateLiteral,
  SetFunctionName,
}

-- the name in the runtime
abbrev pub helper_text : Helper → Text
helper_text AwaitAsyncGenerator = codes "awaitAsyncGenerator"
helper_text AsyncGeneratorDelegate = codes "asyncGeneratorDelegate"
helper_text AsyncIterator = codes "asyncIterator"
helper_text AsyncToGenerator = codes "asyncToGenerator"
helper_text ObjectSpread2 = codes "objectSpread2"
helper_text WrapAsyncGenerator = codes "wrapAsyncGenerator"
helper_text Extends = codes "extends"
helper_text ObjectDestructuringEmpty = codes "objectDestructuringEmpty"
helper_text ObjectWithoutProperties = codes "objectWithoutProperties"
helper_text ToPropertyKey = codes "toPropertyKey"
helper_text DefineProperty = codes "defineProperty"
helper_text ClassPrivateFieldInitSpec = codes "classPrivateFieldInitSpec"
helper_text ClassPrivateMethodInitSpec = codes "classPrivateMethodInitSpec"
helper_text ClassPrivateFieldGet2 = codes "classPrivateFieldGet2"
helper_text ClassPrivateFieldSet2 = codes "classPrivateFieldSet2"
helper_text AssertClassBrand = codes "assertClassBrand"
helper_text ToSetter = codes "toSetter"
helper_text ClassPrivateFieldLooseKey = codes "classPrivateFieldLooseKey"
helper_text ClassPrivateFieldLooseBase = codes "classPrivateFieldLooseBase"
helper_text SuperPropGet = codes "superPropGet"
helper_text SuperPropSet = codes "superPropSet"
helper_text ReadOnlyError = codes "readOnlyError"
helper_text WriteOnlyError = codes "writeOnlyError"
helper_text CheckInRHS = codes "checkInRHS"
helper_text Decorate = codes "decorate"
helper_text DecorateParam = codes "decorateParam"
helper_text DecorateMetadata = codes "decorateMetadata"
helper_text UsingCtx = codes "usingCtx"
helper_text TaggedTemplateLiteral = codes "taggedTemplateLiteral"
helper_text SetFunctionName = codes "setFunctionName"

-- whether a call has no effect: making the key of a private field has none
abbrev pub is_pure : Helper → Bool
is_pure ClassPrivateFieldLooseKey = true
is_pure _ = false
