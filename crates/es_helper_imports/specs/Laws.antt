-- The laws of programs that import their helpers.
use Rattle.std.specs.Prelude.{◌≡◌, ◌≤◌, ◌+◌, Bool, List, [], true, false, None, codes, map, if◌then◌else◌}
use Rattle.es_tree.specs.Bare.{bare}
use Rattle.es_tree.specs.Constructs.{has_enabled_construct}
use Rattle.es_tree.specs.HasForm.{has_form}
use Rattle.es_tree.specs.StaticRules.{breaks}
use Rattle.es_tree.specs.Tree.{Tree, tree_size}
use Rattle.es_tree.specs.Words.{Text}
use Rattle.es_tree.specs.declared.helper.Helper.{Helper}
use Rattle.es_tree.specs.declared.options.EnvOptions.{EnvOptions}
use Rattle.es_tree.specs.declared.table.Sort.TheVariants.{Program as s-Program}
use Rattle.es_resolution.specs.Declarations.{Bound}
use Rattle.es_resolution.specs.Laws.{source}
use Rattle.es_steps.specs.Bindings.{Bindings}
use Rattle.es_steps.specs.CoreBridge.{first_whole, names_among}
use Rattle.es_steps.specs.Steps.{Whole}
use Rattle.es_helper_calls.specs.HelperCalls.{helpers_called}
use Rattle.es_helper_calls.specs.Importing.{is_module}
use Rattle.es_top_imports.specs.Laws.{AsksMore, list_place}
use Rattle.es_helper_imports.specs.Imported.{ImportsTo, helper_source, imported_as}

-- What is known of a program p that imports its helpers of module m, as q, with these made names.
pub record IsImported (m : Text) (p q : Tree) (names : List Text) : Type 0 where
  -- the program with the symbols of its names; written it is equal to this, but for ids and marks
  pub resolved : Tree
  pub written : bare resolved ≡ bare q
  pub whole : Whole
  pub made : names_among whole.made ≡ names
  -- A name of p has the symbol that it had, and the others are made; each is bound to what looking it up finds, by one scope, and one without a
  -- symbol is unbound;
  pub bindings : Bindings (source p) resolved (first_whole p) whole
  -- and `require`, by which a script imports, finds nothing at its top
  pub require : is_module p ≡ false → (list_place resolved).scope (codes "require") ≡ None
  -- it is a program, and breaks none of the nineteen static rules
  pub form : has_form s-Program q ≡ true
  pub kept : breaks q ≡ []
  -- to other modules it is what p is, but that a module asks for those of the helpers, too
  pub outside : AsksMore (if is_module p then map (helper_source m) (helpers_called p) else []) p q

-- So it is of a program that has form and breaks no static rule, and that binds no `require` at its top where it is a script.
abbrev pub LawImported : Type 0
LawImported = (m : Text) (p q : Tree) (names : List Text) → has_form s-Program p ≡ true → breaks p ≡ [] → (is_module p ≡ false → (list_place (source p)).scope (codes "require") ≡ None) → ImportsTo (first_whole p).in_use m p q names → IsImported m p q names

-- It has no construct that options ask to lower where p has none;
abbrev pub LawNoConstructs : Type 0
LawNoConstructs = (o : EnvOptions) (m : Text) (hs : List Helper) (bs : List Bound) (p : Tree) → has_enabled_construct o p ≡ false → has_enabled_construct o (imported_as m hs bs p) ≡ false

-- and at most thirty-six nodes more.
abbrev pub LawImportedSize : Type 0
LawImportedSize = (in_use : Text → Bool) (m : Text) (p q : Tree) (names : List Text) → ImportsTo in_use m p q names → tree_size q ≤ tree_size p + 36
