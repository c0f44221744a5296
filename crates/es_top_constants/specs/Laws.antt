-- The law of a program that declares constants at its top: it stays one, its names keep their bindings, and to other modules it is what it was.
use Rattle.std.specs.Prelude.{◌≡◌, List, [], ◌∷◌, map, true}
use Rattle.es_tree.specs.HasForm.{has_form}
use Rattle.es_tree.specs.StaticRules.{breaks}
use Rattle.es_tree.specs.Tree.{Tree}
use Rattle.es_tree.specs.declared.table.Sort.TheVariants.{Expression as s-Expression, Program as s-Program}
use Rattle.es_semantic.specs.RolesOf.{reads}
use Rattle.es_resolution.specs.Declarations.{Bound}
use Rattle.es_resolution.specs.Named.{Named}
use Rattle.es_module_names.specs.Laws.{SameOutside}
use Rattle.es_steps.specs.Bindings.{Bindings}
use Rattle.es_steps.specs.Laws.{IsWellBound}
use Rattle.es_steps.specs.Steps.{Whole}
use Rattle.es_top_imports.specs.Laws.{AreFound, AreNew, with_each}
use Rattle.es_helper_calls.specs.TextLists.{is_text_list}
use Rattle.es_top_constants.specs.TopConstants.{Constant, with_constants}

abbrev pub names_of : List Constant → List Bound
names_of cs = map (λ c. c.local) cs

-- each list is one of texts, it has form, and the symbols that its nodes are marked with, if any, are in use
abbrev pub AreLists : Whole → List Constant → Type 0
AreLists w [] = Unit {0}
AreLists w (c ∷ cs) = (is_text_list c.list ≡ true) × (has_form s-Expression c.list ≡ true) × Named w.in_use w.free_symbol reads c.list × AreLists w cs

-- what is known of a program p that declares these constants, as q
pub record DeclaresMore (cs : List Constant) (w : Whole) (p q : Tree) : Type 0 where
  pub form : has_form s-Program q ≡ true
  pub kept : breaks q ≡ []
  pub bound : IsWellBound (with_each (names_of cs) w) q
  pub bindings : Bindings p q w (with_each (names_of cs) w)
  pub found : AreFound q (names_of cs)
  pub outside : SameOutside p q

-- So it is of a program that has form, breaks no static rule and whose names are bound, where the names are new.
abbrev pub LawConstantsMore : Type 0
LawConstantsMore = (cs : List Constant) (w : Whole) (p : Tree) → has_form s-Program p ≡ true → breaks p ≡ [] → IsWellBound w p → AreNew w.in_use w.free_symbol (names_of cs) → AreLists w cs → DeclaresMore cs w p (with_constants cs p)
