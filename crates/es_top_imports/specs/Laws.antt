-- The laws of a program that imports more: it is one, its names keep their bindings, and to other modules it is what it was but for what it imports.
use Rattle.std.specs.Prelude.{◌≡◌, ◌==◌, length, ℕ, suc, List, [], ◌∷◌, ◌++◌, Bool, Some, None, true, false, codes, map, if◌then◌else◌}
use Rattle.es_tree.specs.Fresh.{also}
use Rattle.es_tree.specs.HasForm.{has_form}
use Rattle.es_tree.specs.Names.{first_text}
use Rattle.es_tree.specs.StaticRules.{breaks}
use Rattle.es_tree.specs.Tree.{Tree, trees, label_of}
use Rattle.es_tree.specs.Words.{Text}
use Rattle.es_tree.specs.declared.table.Sort.TheVariants.{Program as s-Program}
use Rattle.es_resolution.specs.Declarations.{Bound}
use Rattle.es_resolution.specs.Resolved.{Place, nowhere, place_in}
use Rattle.es_semantic.specs.RolesOf.{reads, role_at}
use Rattle.es_tree.specs.Tree.{kind_of, fields_of}
use Rattle.es_steps.specs.Bindings.{Bindings}
use Rattle.es_steps.specs.Laws.{IsWellBound}
use Rattle.es_steps.specs.Rules.{with_made}
use Rattle.es_steps.specs.Steps.{Whole}
use Rattle.es_module_names.specs.Modules.{exported_of, requests_of, star_requests_of}
use Rattle.es_top_imports.specs.TopImports.{Import, top_of, with_top}

-- To other modules q is what p is, but that it asks for these modules more, behind the first that p asks for.
pub record AsksMore (sources : List Text) (p q : Tree) : Type 0 where
  pub earlier : List Text
  pub later : List Text
  pub asked : requests_of p ≡ earlier ++ later
  pub asks : requests_of q ≡ earlier ++ sources ++ later
  pub stars : star_requests_of q ≡ star_requests_of p
  pub exports : exported_of q ≡ exported_of p

-- names that are in use neither in a whole nor among those before them, and not empty, with symbols from the next on
abbrev pub AreNew : (Text → Bool) → ℕ → List Bound → Type 0
AreNew in_use free [] = Unit {0}
AreNew in_use free (b ∷ bs) = (in_use b.name ≡ false) × ((length b.name == 0) ≡ false) × (b.symbol ≡ Some free) × AreNew (also b.name in_use) (suc free) bs

-- each made after the other
abbrev pub with_each : List Bound → Whole → Whole
with_each [] w = w
with_each (b ∷ bs) w = with_each bs (with_made (b ∷ []) w)

-- what names find from the list of a program
abbrev pub list_place : Tree → Place
list_place t = place_in nowhere (kind_of t) (label_of t) (role_at reads (kind_of t) (label_of t) (fields_of t)) (fields_of t) 1

abbrev pub AreFound : Tree → List Bound → Type 0
AreFound t [] = Unit {0}
AreFound t (b ∷ bs) = ((list_place t).scope b.name ≡ b.symbol) × AreFound t bs

abbrev pub locals : List Import → List Bound
locals is = map (λ i. i.local) is

abbrev pub sources_of : List Import → List Text
sources_of is = map (λ i. i.source) is

-- what is known of a program p that imports these more, as q
pub record ImportsMore (in_module : Bool) (is : List Import) (w : Whole) (p q : Tree) : Type 0 where
  pub form : has_form s-Program q ≡ true
  pub kept : breaks q ≡ []
  pub bound : IsWellBound (with_each (locals is) w) q
  pub bindings : Bindings p q w (with_each (locals is) w)
  pub found : AreFound q (locals is)
  -- `require`, by which a script imports, is found nowhere
  pub unbound : in_module ≡ false → (list_place q).scope (codes "require") ≡ None
  pub outside : AsksMore (if in_module then sources_of is else []) p q

-- So it is of a program that has form, breaks no static rule and whose names are bound, where what it imports is new; in a script, where `require` is
-- bound nowhere at its top.
abbrev pub LawImportsMore : Type 0
LawImportsMore = (in_module : Bool) (is : List Import) (w : Whole) (p : Tree) → (in_module ≡ true → first_text (label_of p).texts ≡ codes "module") → has_form s-Program p ≡ true → breaks p ≡ [] → IsWellBound w p → AreNew w.in_use w.free_symbol (locals is) →
    (in_module ≡ false → ((list_place p).scope (codes "require") ≡ None) × (w.in_use (codes "require") ≡ true)) → ImportsMore in_module is w p (with_top (trees (map (top_of in_module) is)) p)
