-- The names of causes, as they are printed.
use Rattle.std.specs.Prelude.{codes}
use Rattle.es_tree.specs.Words.{Text}
use Rattle.es_tree.specs.declared.error.OptionName.{OptionName}
use Rattle.es_tree.specs.declared.error.OptionName.TheVariants.{
  InlineHelpers as OptionName-InlineHelpers,
  Spec as OptionName-Spec,
  Loose as OptionName-Loose,
  UseBuiltIns as OptionName-UseBuiltIns,
  AsyncToGenerator as OptionName-AsyncToGenerator,
  AsyncGeneratorFunctions as OptionName-AsyncGeneratorFunctions,
  PureGetters as OptionName-PureGetters,
  ObjectRestNoSymbols as OptionName-ObjectRestNoSymbols,
  IgnoreFunctionLength as OptionName-IgnoreFunctionLength,
}
use Rattle.es_tree.specs.declared.error.Rule.{Rule}
use Rattle.es_tree.specs.declared.error.Rule.TheVariants.{
  DuplicateName as Rule-DuplicateName,
  MissingLabel as Rule-MissingLabel,
  DuplicateLabel as Rule-DuplicateLabel,
  MisplacedReturn as Rule-MisplacedReturn,
  MisplacedSuper as Rule-MisplacedSuper,
  BadTarget as Rule-BadTarget,
  EmptyChain as Rule-EmptyChain,
  StrayOptional as Rule-StrayOptional,
  DeleteName as Rule-DeleteName,
  MissingInit as Rule-MissingInit,
  BadUsing as Rule-BadUsing,
  BadFor as Rule-BadFor,
  MisplacedModuleItem as Rule-MisplacedModuleItem,
  BadExport as Rule-BadExport,
  BadClass as Rule-BadClass,
  BadAccessor as Rule-BadAccessor,
  BadRest as Rule-BadRest,
  MisplacedDeclaration as Rule-MisplacedDeclaration,
  MisplacedMeta as Rule-MisplacedMeta,
}
use Rattle.es_tree.specs.declared.error.UnsupportedKind.{UnsupportedKind}
use Rattle.es_tree.specs.declared.error.UnsupportedKind.TheVariants.{
  NotBuilt as UnsupportedKind-NotBuilt,
  MathBound as UnsupportedKind-MathBound,
  HelperName as UnsupportedKind-HelperName,
  RestInArray as UnsupportedKind-RestInArray,
  RestNested as UnsupportedKind-RestNested,
  RestParameter as UnsupportedKind-RestParameter,
  HeadName as UnsupportedKind-HeadName,
  SpreadLiteral as UnsupportedKind-SpreadLiteral,
  TagChain as UnsupportedKind-TagChain,
  UsingFunction as UnsupportedKind-UsingFunction,
  ArrowOuter as UnsupportedKind-ArrowOuter,
  ArrowThis as UnsupportedKind-ArrowThis,
}

abbrev pub option_name : OptionName → Text
option_name OptionName-InlineHelpers = codes "InlineHelpers"
option_name OptionName-Spec = codes "Spec"
option_name OptionName-Loose = codes "Loose"
option_name OptionName-UseBuiltIns = codes "UseBuiltIns"
option_name OptionName-AsyncToGenerator = codes "AsyncToGenerator"
option_name OptionName-AsyncGeneratorFunctions = codes "AsyncGeneratorFunctions"
option_name OptionName-PureGetters = codes "PureGetters"
option_name OptionName-ObjectRestNoSymbols = codes "ObjectRestNoSymbols"
option_name OptionName-IgnoreFunctionLength = codes "IgnoreFunctionLength"

abbrev pub rule_name : Rule → Text
rule_name Rule-DuplicateName = codes "DuplicateName"
rule_name Rule-MissingLabel = codes "MissingLabel"
rule_name Rule-DuplicateLabel = codes "DuplicateLabel"
rule_name Rule-MisplacedReturn = codes "MisplacedReturn"
rule_name Rule-MisplacedSuper = codes "MisplacedSuper"
rule_name Rule-BadTarget = codes "BadTarget"
rule_name Rule-EmptyChain = codes "EmptyChain"
rule_name Rule-StrayOptional = codes "StrayOptional"
rule_name Rule-DeleteName = codes "DeleteName"
rule_name Rule-MissingInit = codes "MissingInit"
rule_name Rule-BadUsing = codes "BadUsing"
rule_name Rule-BadFor = codes "BadFor"
rule_name Rule-MisplacedModuleItem = codes "MisplacedModuleItem"
rule_name Rule-BadExport = codes "BadExport"
rule_name Rule-BadClass = codes "BadClass"
rule_name Rule-BadAccessor = codes "BadAccessor"
rule_name Rule-BadRest = codes "BadRest"
rule_name Rule-MisplacedDeclaration = codes "MisplacedDeclaration"
rule_name Rule-MisplacedMeta = codes "MisplacedMeta"

abbrev pub unsupported_name : UnsupportedKind → Text
unsupported_name UnsupportedKind-NotBuilt = codes "NotBuilt"
unsupported_name UnsupportedKind-MathBound = codes "MathBound"
unsupported_name UnsupportedKind-HelperName = codes "HelperName"
unsupported_name UnsupportedKind-RestInArray = codes "RestInArray"
unsupported_name UnsupportedKind-RestNested = codes "RestNested"
unsupported_name UnsupportedKind-RestParameter = codes "RestParameter"
unsupported_name UnsupportedKind-HeadName = codes "HeadName"
unsupported_name UnsupportedKind-SpreadLiteral = codes "SpreadLiteral"
unsupported_name UnsupportedKind-TagChain = codes "TagChain"
unsupported_name UnsupportedKind-UsingFunction = codes "UsingFunction"
unsupported_name UnsupportedKind-ArrowOuter = codes "ArrowOuter"
unsupported_name UnsupportedKind-ArrowThis = codes "ArrowThis"
