-- The helpers that are loaded.
use Rattle.std.specs.Prelude.{◌≢◌, ℕ, List, [], ◌∷◌, ◌++◌, codes, false}
use Rattle.es_tree.specs.Helpers.{helper_text}
use Rattle.es_tree.specs.Words.{Text}
use Rattle.es_tree.specs.declared.helper.Helper.{Helper}
use Rattle.es_tree.specs.declared.options.HelperLoaderMode.{HelperLoaderMode}
use Rattle.lower_stores.specs.Imports.{Sources, added, by_default}

-- a name, and the symbol that it is bound to
pub record LocalName : Type 0 where
  pub name : Text
  pub symbol : ℕ

-- where helpers come from, and those that are loaded with their names, the first loaded first
pub record Helpers : Type 0 where
  pub mode : HelperLoaderMode
  pub module_name : Text
  pub loaded : List (Helper × LocalName)

-- the helper is none of these
abbrev pub IsNotLoaded : Helper → List (Helper × LocalName) → Type 0
IsNotLoaded helper [] = Unit {0}
IsNotLoaded helper (e ∷ es) = (e.0 ≢ helper) × IsNotLoaded helper es

-- no helper is loaded twice
abbrev pub IsEachOnce : List (Helper × LocalName) → Type 0
IsEachOnce [] = Unit {0}
IsEachOnce (e ∷ es) = IsNotLoaded e.0 es × IsEachOnce es

-- one helper more
abbrev pub with_loaded : Helper → LocalName → Helpers → Helpers
with_loaded helper local h = record h { loaded = h.loaded ++ (helper, local) ∷ [] }

-- the text that names the module of a helper
abbrev pub helper_source : Text → Helper → Text
helper_source module_name helper = module_name ++ codes "/helpers/" ++ helper_text helper

-- with an import of the helper as this name
abbrev pub with_helper_import : Text → Helper → LocalName → Sources → Sources
with_helper_import module_name helper local ss = added (helper_source module_name helper) (by_default local.name local.symbol) false ss
