-- Helpers that are called, or handed on, by names which a program declares at its top: names keep their bindings.
use Rattle.std.specs.Prelude.{◌≡◌, ◌≤◌, ℕ, Some, true, false}
use Rattle.es_tree.specs.HasForm.{has_form}
use Rattle.es_tree.specs.Tree.{Tree, Trees}
use Rattle.es_tree.specs.declared.helper.Helper.{Helper}
use Rattle.es_tree.specs.declared.table.Sort.TheVariants.{Program as s-Program}
use Rattle.es_resolution.specs.Declarations.{Bound}
use Rattle.es_steps.specs.Bindings.{Bindings}
use Rattle.es_steps.specs.Laws.{IsWellBound}
use Rattle.es_steps.specs.Nodes.{identifier}
use Rattle.es_steps.specs.Steps.{Whole}
use Rattle.es_helper_calls.specs.HelperCalls.{calling, helpers_in}
use Rattle.es_helper_calls.specs.Laws.{HaveNames}
use Rattle.es_top_imports.specs.Laws.{list_place}
use Rattle.es_top_imports.specs.TopImports.{with_top}

-- A name that is new between two wholes, with its symbol, and that the list of a program finds.
pub record IsTopName (w w' : Whole) (t : Tree) (b : Bound) : Type 0 where
  pub free : w.in_use b.name ≡ false
  pub number : ℕ
  pub symbol : b.symbol ≡ Some number
  pub new : w.free_symbol ≤ number
  pub called : w'.called number ≡ b.name
  pub found : (list_place t).scope b.name ≡ b.symbol

-- What is known then of q, which uses helpers by such names as t declares them at its top beside p: the names of q are those of p, with the symbols
-- that they had there, and new ones, and each is bound; and from its list names find what they find from that of t.
pub record KeepsNames (p t q : Tree) (w w' : Whole) : Type 0 where
  pub bindings : Bindings p q w w'
  pub place : list_place q ≡ list_place t

-- So it is of a program with its names bound that gets these statements at its top, where the names that they declare are bound then, and each helper
-- that the program uses is used by one of these names.
abbrev pub LawCallNames : Type 0
LawCallNames = (p : Tree) (w w' : Whole) (news : Trees) (c : Helper → Bound) → has_form s-Program p ≡ true → IsWellBound w p → IsWellBound w' (with_top news p) → Bindings p (with_top news p) w w' →
    HaveNames (IsTopName w w' (with_top news p)) c (helpers_in p) → KeepsNames p (with_top news p) (with_top news (calling (λ h. identifier (c h)) p)) w w'
