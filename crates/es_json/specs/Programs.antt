-- What `read_program` takes, and why it refuses the rest.
use Rattle.std.specs.Prelude.{ℕ, ◌≡◌, ◌<◌, ◌≤◌, ◌^◌, Some, List, string_bytes}
use Rattle.serde_json.specs.Data.{Data, depth}
use Rattle.es_tree.specs.Tree.{Tree}
use Rattle.es_tree.specs.declared.error.LowerError.{LowerError}
use Rattle.es_tree.specs.declared.error.LowerError.TheVariants.{TooLarge, TooDeep, Shape as l-Shape, OutOfMemory as l-OutOfMemory}
use Rattle.es_tree.specs.declared.table.Sort.TheVariants.{Program as s-Program}
use Rattle.es_json.specs.Form.{IsForm}
use Rattle.es_json.specs.Faults.{Path, faults, first_path_of}
use Rattle.es_tree.specs.Capped.{capped}
use Rattle.es_json.specs.Limits.{objects}
use Rattle.es_json.specs.Pointer.{pointer}

-- the value has fewer than 2^20 objects, and nests at most 400 deep
abbrev pub IsSmall : Data → Type 0
IsSmall v = objects v < 2 ^ 20

abbrev pub IsShallow : Data → Type 0
IsShallow v = depth v ≤ 400

-- the value is the form of this program, within the limits
pub record IsProgramForm (v : Data) (p : Tree) : Type 0 where
  pub form : IsForm s-Program v p
  pub small : IsSmall v
  pub shallow : IsShallow v

-- the text is the pointer of the first place that fails by itself
pub record IsFirstFault (text : List ℕ) (v : Data) : Type 0 where
  pub path : Path
  pub first : first_path_of (faults s-Program v) ≡ Some path
  pub pointed : text ≡ pointer path

-- The cause of a refusal: too many objects, else too deep, else the first place that fails by itself, and
-- no other but want of memory.
abbrev pub IsRefusal : Data → LowerError → Type 0
IsRefusal v (TooLarge n) = (2 ^ 20 ≤ objects v) × (n ≡ capped (objects v))
IsRefusal v (TooDeep n) = IsSmall v × (400 < depth v) × (n ≡ capped (depth v))
IsRefusal v (l-Shape text) = IsSmall v × IsShallow v × IsFirstFault (string_bytes text) v
IsRefusal v l-OutOfMemory = Unit {0}
IsRefusal v _ = ⊥
