-- What is to be imported, from which module.
use Rattle.std.specs.Prelude.{◌≡◌, ℕ, zero, suc, Bool, true, false, not, List, [], ◌∷◌, ◌++◌, Option, None, Some, bytes_eq, filter, if◌then◌else◌, refl}
use Rattle.std.specs.Coded.{Coded, code_by, coded_list, coded_option, coded_ℕ, coded×}
use Rattle.es_tree.specs.Words.{Text}

-- an import by the name that the module gives it, or without one by default; the name that it is bound to here, and the
-- symbol of that
pub record ImportedName : Type 0 where
  pub imported : Option Text
  pub local : Text
  pub symbol : ℕ

abbrev pub text_code : Coded Text
text_code = coded_list coded_ℕ

abbrev pub imported_name_code : Coded ImportedName
imported_name_code = code_by (Option Text × (Text × ℕ)) (coded× (coded_option text_code) (coded× text_code coded_ℕ)) (λ i. (i.imported, (i.local, i.symbol))) (λ p. record { imported = p.0; local = p.1.0; symbol = p.1.1 }) (λ _. refl)

-- the modules in the order in which they are to be imported, each with what is imported of it
abbrev pub Sources : Type 0
Sources = List (Text × List ImportedName)

abbrev pub sources_code : Coded Sources
sources_code = coded_list (coded× text_code (coded_list imported_name_code))

-- one import more: behind those of its module, which else goes last
abbrev pub with_import : Text → ImportedName → Sources → Sources
with_import source i [] = (source, i ∷ []) ∷ []
with_import source i (s ∷ ss) = if bytes_eq source s.0 then (s.0, s.1 ++ i ∷ []) ∷ ss else s ∷ with_import source i ss

-- the module first, and the others in their order
abbrev pub in_front : Text → Sources → Sources
in_front source ss = filter (λ s. bytes_eq source s.0) ss ++ filter (λ s. not (bytes_eq source s.0)) ss

abbrev pub added : Text → ImportedName → Bool → Sources → Sources
added source i front ss = if front then in_front source (with_import source i ss) else with_import source i ss

-- what is imported by default, or by a name
abbrev pub by_default : Text → ℕ → ImportedName
by_default local symbol = record { imported = None; local = local; symbol = symbol }

abbrev pub by_name : Text → Text → ℕ → ImportedName
by_name imported local symbol = record { imported = Some imported; local = local; symbol = symbol }

-- this module is the one at this place, and none before it
abbrev pub IsPlaceOf : Text → Sources → ℕ → Type 0
IsPlaceOf source [] i = ⊥
IsPlaceOf source (s ∷ ss) zero = bytes_eq source s.0 ≡ true
IsPlaceOf source (s ∷ ss) (suc i) = (bytes_eq source s.0 ≡ false) × IsPlaceOf source ss i
