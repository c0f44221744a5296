-- A PROGRAM THAT IMPORTS ITS HELPERS: each call of a helper of `babelHelpers` calls a fresh name of the program's, and what hands one on hands on
-- such a name, which the program imports of the helper's module, or requires where it is a script. In a module
-- `x = babelHelpers.objectSpread2({}, a);` becomes `import _objectSpread from "@oxc-project/runtime/helpers/objectSpread2"; x = _objectSpread({}, a);`.
use Rattle.std.specs.Prelude.{◌≡◌, ℕ, suc, List, [], ◌∷◌, ◌++◌, Bool, Some, None, codes, map}
use Rattle.es_tree.specs.Bare.{bare}
use Rattle.es_tree.specs.Fresh.{IsFreshName, also, text_base}
use Rattle.es_tree.specs.Helpers.{helper_text}
use Rattle.es_tree.specs.Tree.{Tree, trees}
use Rattle.es_tree.specs.Words.{Text}
use Rattle.es_tree.specs.declared.helper.Helper.{Helper}
use Rattle.es_resolution.specs.Declarations.{Bound}
use Rattle.es_steps.specs.Nodes.{identifier}
use Rattle.es_helper_calls.specs.HelperCalls.{bound_of, calling, helpers_called}
use Rattle.es_helper_calls.specs.Importing.{is_module}
use Rattle.es_top_imports.specs.TopImports.{Import, top_of, with_top}

-- the module of a helper, among those of this module
abbrev pub helper_source : Text → Helper → Text
helper_source m h = m ++ codes "/helpers/" ++ helper_text h

-- these helpers under these names
abbrev pub imports_of : Text → List Helper → List Bound → List Import
imports_of m (h ∷ hs) (b ∷ bs) = record { source = helper_source m h; local = b } ∷ imports_of m hs bs
imports_of m hs bs = []

-- the program that uses these helpers by these names
abbrev pub imported_as : Text → List Helper → List Bound → Tree → Tree
imported_as m hs bs p = with_top (trees (map (top_of (is_module p)) (imports_of m hs bs))) (calling (λ h. identifier (bound_of hs bs h)) p)

-- FRESH NAMES: of each helper the first of its own name that isn't in use, and in use after it
abbrev pub AreFresh : (Text → Bool) → List Helper → List Text → Type 0
AreFresh in_use [] [] = Unit {0}
AreFresh in_use (h ∷ hs) (x ∷ xs) = IsFreshName in_use (text_base (helper_text h)) x × AreFresh (also x in_use) hs xs
AreFresh in_use hs xs = ⊥

-- names without symbols, and with those from this one on
abbrev pub unmarked : List Text → List Bound
unmarked xs = map (λ x. record { name = x; symbol = None }) xs

abbrev pub marked_from : ℕ → List Text → List Bound
marked_from n [] = []
marked_from n (x ∷ xs) = record { name = x; symbol = Some n } ∷ marked_from (suc n) xs

-- What a program p becomes by importing its helpers of module m, with these fresh names, where these names are in use: but for ids and marks it is
-- this program.
pub record ImportsTo (in_use : Text → Bool) (m : Text) (p q : Tree) (names : List Text) : Type 0 where
  pub fresh : AreFresh in_use (helpers_called p) names
  pub written : bare q ≡ bare (imported_as m (helpers_called p) (unmarked names) p)
