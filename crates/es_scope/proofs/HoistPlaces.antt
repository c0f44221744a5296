-- The scope that `var` declares in, from the innermost place outwards.
use Rattle.std.proofs.Common.{◌≡◌, ℕ, true, false, if◌then◌else◌, List, [], ◌∷◌, ◌++◌, length, refl, ap, ◌∙◌, arith}
use Rattle.std.proofs.lemmas.List.{reverse-append}
use Rattle.es_scope.specs.HoistScopes.{hoist_scope, is_hoist_place}
use Rattle.es_scope.specs.Places.{ancestors_in, scopes_in}
use Rattle.es_scope.specs.declared.ancestor.Place.{Place}

-- of these places, the innermost last
abbrev pub hoist_of : List Place → ℕ
hoist_of ps = hoist_scope (ancestors_in ps) (scopes_in ps)

pub hoist-last : (ps : List Place) (p : Place) → hoist_of (ps ++ p ∷ []) ≡ (if is_hoist_place p.ancestor then p.scope.0 else hoist_of ps)
hoist-last ps p = rw (reverse-append ps (p ∷ [])) refl

-- where the innermost place declares `var`, and where it doesn't
pub hoists-here : (ps : List Place) (p : Place) → is_hoist_place p.ancestor ≡ true → hoist_of (ps ++ p ∷ []) ≡ p.scope.0
hoists-here ps p e = hoist-last ps p ∙ ap (λ b. if b then p.scope.0 else hoist_of ps) e

pub hoists-further : (ps : List Place) (p : Place) → is_hoist_place p.ancestor ≡ false → hoist_of (ps ++ p ∷ []) ≡ hoist_of ps
hoists-further ps p e = hoist-last ps p ∙ ap (λ b. if b then p.scope.0 else hoist_of ps) e

pub hoists-nowhere : (ps : List Place) → length ps ≡ 0 → hoist_of ps ≡ 0
hoists-nowhere [] e = refl
hoists-nowhere (p ∷ ps) e = absurd (omega (arith, e))
