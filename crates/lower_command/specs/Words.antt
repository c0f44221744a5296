-- The words of a run, as `clap` takes them, and the options that they ask for.
use Rattle.std.specs.Prelude.{◌≡◌, ◌≢◌, ◌≤◌, ◌||◌, ◌∷◌, ◌++◌, ℕ, List, [], Bool, true, false, not, Option, Some, None, IfSome, if◌then◌else◌, fold, map, option_map, unwrap_or, slice_index, String, string_bytes, codes}
use Rattle.std.specs.Option.{option_map_or}
use Rattle.std.specs.Str.{bytes_eq}
use Rattle.std.specs.Str.Parse.{IsNumeral, digits_value}
use Rattle.std.specs.declared.alloc.Global.{Global}
use Rattle.es_tree.specs.declared.options.ArrowFunctionsOptions.{ArrowFunctionsOptions}
use Rattle.es_tree.specs.declared.options.EnvOptions.{EnvOptions}
use Rattle.es_tree.specs.declared.options.HelperLoaderMode.{HelperLoaderMode}
use Rattle.es_tree.specs.declared.options.HelperLoaderMode.TheVariants.{External, Inline, Runtime}
use Rattle.es_tree.specs.declared.options.ObjectRestSpreadOptions.{ObjectRestSpreadOptions}
use Rattle.clap.specs.Walk.{Row, Rule, Text, first_of, is_empty}
use Rattle.clap.specs.Simple.{App, Shape, new_app, new_rule, on_top, with_rule, matches_of}
use Rattle.clap.specs.Faults.{fault_of}
use Rattle.clap.specs.declared.builder.action.ArgAction.{ArgAction}
use Rattle.clap.specs.declared.builder.action.ArgAction.TheVariants.{Set, SetTrue}

-- THE COMMAND LINE

-- an argument `--NAME` with this action, which may stand once
abbrev pub argument_rule : ArgAction → Text → Rule
argument_rule action name = record (new_rule name) { long = Some name; action = Some action }

-- a flag `--NAME`, which has no value, and an option `--NAME=VALUE` or `--NAME VALUE`
abbrev pub flag_rule : Text → Rule
flag_rule name = argument_rule SetTrue name

abbrev pub option_rule : Text → Rule
option_rule name = argument_rule Set name

-- the lowerings, all of them, the warnings, and what may be assumed
abbrev pub flag_names : List Text
flag_names =
    codes "exponentiation" ∷ codes "catch" ∷ codes "namespace" ∷ codes "nullish" ∷ codes "chaining" ∷ codes "logical" ∷
    codes "rest-spread" ∷ codes "using" ∷ codes "arrows" ∷ codes "all" ∷ codes "bigint-warnings" ∷
    codes "name-warnings" ∷ codes "no-document-all" ∷ []

-- where helpers come from, and how many statements the made script is to have
abbrev pub option_names : List Text
option_names = codes "helpers" ∷ codes "helper-module" ∷ codes "generate" ∷ []

-- no word is the program's name, and none asks for help or for the version
abbrev pub bare : Shape → Shape
bare s = record s { no_binary_name = true; disable_help_flag = true; disable_version_flag = true }

-- the command line of the tool: its flags and its options
abbrev pub tool_app : App
tool_app = fold with_rule (on_top bare (new_app (codes "lower"))) (map flag_rule flag_names ++ map option_rule option_names)

-- WHAT THE WORDS GIVE

-- what the command line makes of the words, a row for each flag and each option that has a value
abbrev pub given : List (String Global) → List Row
given words = matches_of tool_app (map string_bytes words)

abbrev pub is_true : Option Text → Bool
is_true None = false
is_true (Some text) = bytes_eq text (codes "true")

-- the first value of this argument is `true`
abbrev pub is_set : Text → List Row → Bool
is_set name rows = is_true (first_of name rows)

-- the flag of this lowering is set, or that of all of them
abbrev pub is_asked : Text → List Row → Bool
is_asked name rows = is_set name rows || is_set (codes "all") rows

-- the words set the flag
abbrev pub has_flag : List (String Global) → Text → Bool
has_flag words name = is_set name (given words)

-- the value that the words give the option
abbrev pub value_given : List (String Global) → Text → Option Text
value_given words name = first_of name (given words)

-- THE VALUES

abbrev pub is_mode : Text → Bool
is_mode text = bytes_eq text (codes "external") || bytes_eq text (codes "runtime") || bytes_eq text (codes "inline")

abbrev pub is_module : Text → Bool
is_module text = not (is_empty text)

-- the number that decimal digits write
abbrev pub number_of : Text → ℕ
number_of text = digits_value 10 text

-- decimal digits, of which the first isn't 0, and whose number is at most 20000: so they are five at most
pub record IsCount (text : Text) : Type 0 where
  pub digits : IsNumeral 10 text
  pub no_zero : slice_index text 0 ≢ 48
  pub most : number_of text ≤ 20000

-- the value, where there is one, is in its table
abbrev pub IsModeGiven : Option Text → Type 0
IsModeGiven value = IfSome value (λ text. is_mode text ≡ true)

abbrev pub IsModuleGiven : Option Text → Type 0
IsModuleGiven value = IfSome value (λ text. is_module text ≡ true)

abbrev pub IsCountGiven : Option Text → Type 0
IsCountGiven value = IfSome value IsCount

-- the three values are in their tables
pub record AreValues (rows : List Row) : Type 0 where
  pub helpers : IsModeGiven (first_of (codes "helpers") rows)
  pub helper_module : IsModuleGiven (first_of (codes "helper-module") rows)
  pub count : IsCountGiven (first_of (codes "generate") rows)

-- The command line takes the words, and each option is absent or has a value in its table.
pub record AreProper (words : List (String Global)) : Type 0 where
  pub taken : fault_of tool_app (map string_bytes words) ≡ []
  pub helpers : IsModeGiven (value_given words (codes "helpers"))
  pub helper_module : IsModuleGiven (value_given words (codes "helper-module"))
  pub count : IsCountGiven (value_given words (codes "generate"))

-- WHAT THE WORDS ASK FOR

abbrev pub mode_named : Text → HelperLoaderMode
mode_named text = if bytes_eq text (codes "external") then External else if bytes_eq text (codes "inline") then Inline else Runtime

abbrev pub mode_of : Option Text → HelperLoaderMode
mode_of value = option_map_or mode_named value Runtime

abbrev pub module_of : Option Text → Text
module_of value = unwrap_or value (codes "@oxc-project/runtime")

abbrev pub count_of : Option Text → Option ℕ
count_of value = option_map number_of value

abbrev pub arrows_if : Bool → Option ArrowFunctionsOptions
arrows_if asked = if asked then Some (record { spec = false }) else None

abbrev pub rest_spread_if : Bool → Option ObjectRestSpreadOptions
rest_spread_if asked = if asked then Some (record { loose = false; use_built_ins = false }) else None

-- these are the options that the rows ask for
pub record AreAsked (rows : List Row) (o : EnvOptions) : Type 0 where
  pub arrows : o.es2015.arrow_function ≡ arrows_if (is_asked (codes "arrows") rows)
  pub exponentiation : o.es2016.exponentiation_operator ≡ is_asked (codes "exponentiation") rows
  pub async_to_generator : o.es2017.async_to_generator ≡ false
  pub rest_spread : o.es2018.object_rest_spread ≡ rest_spread_if (is_asked (codes "rest-spread") rows)
  pub async_generator_functions : o.es2018.async_generator_functions ≡ false
  pub optional_catch : o.es2019.optional_catch_binding ≡ is_asked (codes "catch") rows
  pub namespace : o.es2020.export_namespace_from ≡ is_asked (codes "namespace") rows
  pub nullish : o.es2020.nullish_coalescing_operator ≡ is_asked (codes "nullish") rows
  pub chaining : o.es2020.optional_chaining ≡ is_asked (codes "chaining") rows
  pub bigint_warnings : o.es2020.big_int ≡ is_set (codes "bigint-warnings") rows
  pub name_warnings : o.es2020.arbitrary_module_namespace_names ≡ is_set (codes "name-warnings") rows
  pub logical : o.es2021.logical_assignment_operators ≡ is_asked (codes "logical") rows
  pub resources : o.es2026.explicit_resource_management ≡ is_asked (codes "using") rows
  pub pure_getters : o.assumptions.pure_getters ≡ false
  pub object_rest_no_symbols : o.assumptions.object_rest_no_symbols ≡ false
  pub ignore_function_length : o.assumptions.ignore_function_length ≡ false
  pub no_document_all : o.assumptions.no_document_all ≡ is_set (codes "no-document-all") rows
  pub mode : o.helper_loader.mode ≡ mode_of (first_of (codes "helpers") rows)
  pub helper_module : string_bytes o.helper_loader.module_name ≡ module_of (first_of (codes "helper-module") rows)

-- these are the options that the words ask for
abbrev pub Asks : List (String Global) → EnvOptions → Type 0
Asks words o = AreAsked (given words) o

-- how many statements the script has that the words ask to make in place of the input
abbrev pub generate_of : List (String Global) → Option ℕ
generate_of words = count_of (value_given words (codes "generate"))
