-- What a run is given: a JSON value, or bytes that read as one, and why it is refused.
use Rattle.std.specs.Prelude.{◌≡◌, ℕ, List, [], Some, None, IsUtf8}
use Rattle.serde_json.specs.Data.{Data}
use Rattle.serde_json.specs.Read.{read}
use Rattle.es_tree.specs.Tree.{Tree}
use Rattle.es_tree.specs.Order.{IsNumbered, IsUnmarked}
use Rattle.es_tree.specs.Options.{first_fault}
use Rattle.es_tree.specs.StaticRules.{breaks, IsFirstBreak}
use Rattle.es_tree.specs.declared.error.LowerError.{LowerError}
use Rattle.es_tree.specs.declared.error.LowerError.TheVariants.{Json, Option as e-Option, TooLarge, TooDeep, Shape, Invalid, Unsupported, OutOfMemory}
use Rattle.es_tree.specs.declared.error.UnsupportedKind.{UnsupportedKind}
use Rattle.es_tree.specs.declared.ids.NodeId.{NodeId}
use Rattle.es_tree.specs.declared.options.EnvOptions.{EnvOptions}
use Rattle.es_json.specs.Programs.{IsProgramForm, IsRefusal}
use Rattle.lower_driver.specs.UnsupportedPrograms.{IsUnsupported}

-- VALUES

-- the value is the form of this program, with its nodes numbered in node order and no marks
pub record IsSource (v : Data) (program : Tree) : Type 0 where
  pub form : IsProgramForm v program
  pub order : IsNumbered 0 program
  pub marks : IsUnmarked program

-- the value is the form of a program that breaks a static rule, first of all this one
pub record IsBrokenValue (v : Data) (error : LowerError) : Type 0 where
  pub program : Tree
  pub source : IsSource v program
  pub first : IsFirstBreak (breaks program) error

-- the value is the form of a program that keeps the static rules, whose first node, in node order, that a run under these options doesn't
-- take is this, for this shape
pub record IsUnsupportedValue (o : EnvOptions) (v : Data) (kind : UnsupportedKind) (id : NodeId) : Type 0 where
  pub program : Tree
  pub source : IsSource v program
  pub kept : breaks program ≡ []
  pub unsupported : IsUnsupported o program kind id

-- Why a value is refused, whatever the options are. Causes are told in this order: too many objects, nested too deep, a place
-- without form, a broken rule.
abbrev pub IsValueCause : Data → LowerError → Type 0
IsValueCause v (TooLarge count) = IsRefusal v (TooLarge count)
IsValueCause v (TooDeep depth) = IsRefusal v (TooDeep depth)
IsValueCause v (Shape path) = IsRefusal v (Shape path)
IsValueCause v (Invalid rule id) = IsBrokenValue v (Invalid rule id)
IsValueCause v _ = ⊥

-- The same where a run has options: what they ask for that isn't done comes first, and what their lowerings don't take last.
abbrev pub IsValueCauseUnder : EnvOptions → Data → LowerError → Type 0
IsValueCauseUnder o v (e-Option name) = first_fault o ≡ Some name
IsValueCauseUnder o v (Unsupported kind id) = (first_fault o ≡ None) × IsUnsupportedValue o v kind id
IsValueCauseUnder o v error = (first_fault o ≡ None) × IsValueCause v error

-- the cause of a refusal, or want of memory
abbrev pub IsValueCauseOrMemory : EnvOptions → Data → LowerError → Type 0
IsValueCauseOrMemory o v OutOfMemory = Unit {0}
IsValueCauseOrMemory o v error = IsValueCauseUnder o v error

-- BYTES

-- the bytes read as this JSON value, nested at most 127 deep
pub record IsReading (bytes : List ℕ) (v : Data) : Type 0 where
  pub utf8 : IsUtf8 bytes
  pub reads : read bytes ≡ Some v

-- the bytes read as a JSON value
pub record HasReading (bytes : List ℕ) : Type 0 where
  pub value : Data
  pub reading : IsReading bytes value

-- the bytes read as a value of which P holds
pub record ReadsAs (P : Data → Type 0) (bytes : List ℕ) : Type 0 where
  pub value : Data
  pub reading : IsReading bytes value
  pub holds : P value

-- the bytes read as a value that is the form of this program
abbrev pub Reads : List ℕ → Tree → Type 0
Reads bytes program = ReadsAs (λ v. IsSource v program) bytes

-- no value is read for this cause: there is none, or want of memory
abbrev pub IsNoValue : List ℕ → LowerError → Type 0
IsNoValue bytes Json = ¬ HasReading bytes
IsNoValue bytes OutOfMemory = Unit {0}
IsNoValue bytes _ = ⊥

-- Why an input of these bytes is refused under these options: they have no reading as JSON, or the value that they read as
-- is refused.
abbrev pub IsCauseUnder : EnvOptions → List ℕ → LowerError → Type 0
IsCauseUnder o bytes Json = ¬ HasReading bytes
IsCauseUnder o bytes error = ReadsAs (λ v. IsValueCauseUnder o v error) bytes

-- the cause of a refusal, or want of memory
abbrev pub IsCauseOrMemory : EnvOptions → List ℕ → LowerError → Type 0
IsCauseOrMemory o bytes OutOfMemory = Unit {0}
IsCauseOrMemory o bytes error = IsCauseUnder o bytes error
