-- The law of helpers that are called, or handed on, by names: what a program becomes so is one, and to other modules it is as before.
use Rattle.std.specs.Prelude.{◌≡◌, ◌==◌, List, [], ◌∷◌, length, true, false}
use Rattle.es_tree.specs.HasForm.{has_form}
use Rattle.es_tree.specs.StaticRules.{breaks}
use Rattle.es_tree.specs.Tree.{Tree}
use Rattle.es_tree.specs.declared.helper.Helper.{Helper}
use Rattle.es_tree.specs.declared.table.Sort.TheVariants.{Program as s-Program}
use Rattle.es_resolution.specs.Declarations.{Bound}
use Rattle.es_steps.specs.Laws.{IsWellBound}
use Rattle.es_steps.specs.Nodes.{identifier}
use Rattle.es_steps.specs.Steps.{Whole}
use Rattle.es_module_names.specs.Laws.{SameOutside}
use Rattle.es_helper_calls.specs.HelperCalls.{calling, helpers_in}

-- it has form, breaks none of the nineteen static rules, asks for the same modules and exports under the same names
pub record IsKept (p q : Tree) : Type 0 where
  pub form : has_form s-Program q ≡ true
  pub kept : breaks q ≡ []
  pub outside : SameOutside p q

-- a name that isn't empty
abbrev pub IsNamed : Bound → Type 0
IsNamed b = (length b.name == 0) ≡ false

-- each of these helpers has a name of this kind
abbrev pub HaveNames : (Bound → Type 0) → (Helper → Bound) → List Helper → Type 0
HaveNames P c [] = Unit {0}
HaveNames P c (h ∷ hs) = P (c h) × HaveNames P c hs

-- So it is of a program that has form, breaks no static rule, and whose names are bound and in use, where each helper that it uses has a name.
abbrev pub LawCallsKept : Type 0
LawCallsKept = (p : Tree) (w : Whole) (c : Helper → Bound) → has_form s-Program p ≡ true → breaks p ≡ [] → IsWellBound w p → HaveNames IsNamed c (helpers_in p) → IsKept p (calling (λ h. identifier (c h)) p)
