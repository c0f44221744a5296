-- Laws of the tree form.
use Rattle.std.specs.Prelude.{ℕ, ◌≡◌, [], true}
use Rattle.serde_json.specs.Data.{Data}
use Rattle.es_tree.specs.Tree.{Tree}
use Rattle.es_tree.specs.HasForm.{has_form}
use Rattle.es_tree.specs.Order.{IsNumbered, IsUnmarked}
use Rattle.es_tree.specs.declared.table.Sort.{Sort}
use Rattle.es_json.specs.Form.{IsForm}
use Rattle.es_json.specs.Faults.{faults}
use Rattle.es_json.specs.Canonical.{canonical}

-- What is written of a tree with form is a form of that tree.
abbrev pub WrittenReads : Type 0
WrittenReads = (s : Sort) (t : Tree) → has_form s t ≡ true → IsForm s (canonical t) t

-- A tree that a value is a form of has form.
abbrev pub FormHasForm : Type 0
FormHasForm = (s : Sort) (v : Data) (t : Tree) → IsForm s v t → has_form s t ≡ true

-- Where a value is a form of some tree, no place of it fails by itself.
abbrev pub FormHasNoFault : Type 0
FormHasNoFault = (s : Sort) (v : Data) (t : Tree) → IsForm s v t → faults s v ≡ []

-- At a place of one sort, a value is a form of at most one tree whose ids count from n and that has no marks.
abbrev pub OneTree : Type 0
OneTree = (s : Sort) (v : Data) (t u : Tree) (n : ℕ) → IsForm s v t → IsForm s v u → IsNumbered n t → IsNumbered n u → IsUnmarked t → IsUnmarked u → t ≡ u
