-- The helpers that a program uses, each once: each has one of the names that these have.
use Rattle.std.proofs.Common.{◌≡◌, ℕ, suc, refl, List, [], ◌∷◌, ◌++◌}
use Rattle.std.specs.Prelude.{Bool, true, false, ◌||◌, Some, None, if◌then◌else◌}
use Rattle.std.specs.List.{list_any}
use Rattle.std.proofs.lemmas.Bool.{or_right}
use Rattle.es_tree.specs.Bare.{bare}
use Rattle.es_tree.specs.Fresh.{also}
use Rattle.es_tree.specs.Helpers.{helper_text}
use Rattle.es_tree.specs.Words.{Text}
use Rattle.es_tree.specs.declared.helper.Helper.{Helper}
use Rattle.es_resolution.specs.Declarations.{Bound}
use Rattle.es_resolution.proofs.Basics.{Each, bytes_eq-self}
use Rattle.es_steps.specs.Nodes.{identifier}
use Rattle.es_helper_calls.specs.HelperCalls.{bound_of, is_helper, noted}
use Rattle.es_helper_calls.specs.Laws.{HaveNames}
use Rattle.es_helper_imports.specs.Imported.{AreFresh, marked_from, unmarked}

-- whether a helper is among these
abbrev pub is_noted : List Helper → Helper → Bool
is_noted hs h = list_any (λ g. is_helper g h) hs

noted-front : (gs hs : List Helper) (h : Helper) → is_noted gs h ≡ true → is_noted (gs ++ hs) h ≡ true
noted-front [] hs h e = absurd (cc e)
noted-front (g ∷ gs) hs h e = at (is_helper g h) (noted-front gs hs h) e
  where
    at : (v : Bool) → (is_noted gs h ≡ true → is_noted (gs ++ hs) h ≡ true) → (v || is_noted gs h) ≡ true → (v || is_noted (gs ++ hs) h) ≡ true
    at true rest d = refl
    at false rest d = rest d

noted-last : (gs : List Helper) (h : Helper) → is_noted (gs ++ h ∷ []) h ≡ true
noted-last [] h = λ i. bytes_eq-self (helper_text h) i || false
noted-last (g ∷ gs) h = or_right (is_helper g h) (is_noted (gs ++ h ∷ []) h) (noted-last gs h)

-- what is known already with this one, where it isn't among it
abbrev noting : List Helper → Helper → List Helper
noting known h = if is_noted known h then known else known ++ h ∷ []

noting-old : (known : List Helper) (g h : Helper) → is_noted known h ≡ true → is_noted (noting known g) h ≡ true
noting-old known g h e = at (is_noted known g)
  where
    at : (v : Bool) → is_noted (if v then known else known ++ g ∷ []) h ≡ true
    at true = e
    at false = noted-front known (g ∷ []) h e

noting-it : (known : List Helper) (h : Helper) → is_noted (noting known h) h ≡ true
noting-it known h = at (is_noted known h) refl
  where
    at : (v : Bool) → is_noted known h ≡ v → is_noted (if v then known else known ++ h ∷ []) h ≡ true
    at true e = e
    at false e = noted-last known h

noted-old : (hs known : List Helper) (h : Helper) → is_noted known h ≡ true → is_noted (noted known hs) h ≡ true
noted-old [] known h e = e
noted-old (g ∷ gs) known h e = noted-old gs (noting known g) h (noting-old known g h e)

-- THE NAME of a helper among those that have names is one of these

module _ (P : Bound → Type 0) where
  name-holds : (u : Text → Bool) (hs : List Helper) (names : List Text) (n : ℕ) → AreFresh u hs names → Each P (marked_from n names) → (h : Helper) → is_noted hs h ≡ true → P (bound_of hs (marked_from n names) h)
  name-holds u [] names n fresh all h e = absurd (cc e)
  name-holds u (g ∷ gs) [] n fresh all h e = absurd fresh
  name-holds u (g ∷ gs) (x ∷ xs) n fresh all h e = at (is_helper g h) (name-holds (also x u) gs xs (suc n) fresh.1 all.1 h) e
    where
      at : (v : Bool) → (is_noted gs h ≡ true → P (bound_of gs (marked_from (suc n) xs) h)) → (v || is_noted gs h) ≡ true → P (if v then record { name = x; symbol = Some n } else bound_of gs (marked_from (suc n) xs) h)
      at true rest d = all.0
      at false rest d = rest d

  holds-from : (c : Helper → Bound) (known hs : List Helper) → ((h : Helper) → is_noted (noted known hs) h ≡ true → P (c h)) → HaveNames P c hs
  holds-from c known [] named = tt
  holds-from c known (h ∷ hs) named = (named h (noted-old hs (noting known h) h (noting-it known h)), holds-from c (noting known h) hs named)

  -- so each that a program uses has one
  pub names-hold : (u : Text → Bool) (hs : List Helper) (names : List Text) (n : ℕ) → AreFresh u (noted [] hs) names → Each P (marked_from n names) → HaveNames P (bound_of (noted [] hs) (marked_from n names)) hs
  names-hold u hs names n fresh all = holds-from (bound_of (noted [] hs) (marked_from n names)) [] hs (name-holds u (noted [] hs) names n fresh all)

-- WITHOUT MARKS it is the same name

pub unmarked-name : (hs : List Helper) (names : List Text) (n : ℕ) (h : Helper) → bare (identifier (bound_of hs (marked_from n names) h)) ≡ bare (identifier (bound_of hs (unmarked names) h))
unmarked-name [] names n h = refl
unmarked-name (g ∷ gs) [] n h = refl
unmarked-name (g ∷ gs) (x ∷ xs) n h = at (is_helper g h) (unmarked-name gs xs (suc n) h)
  where
    at : (v : Bool) → bare (identifier (bound_of gs (marked_from (suc n) xs) h)) ≡ bare (identifier (bound_of gs (unmarked xs) h)) →
        bare (identifier (if v then record { name = x; symbol = Some n } else bound_of gs (marked_from (suc n) xs) h)) ≡ bare (identifier (if v then record { name = x; symbol = None } else bound_of gs (unmarked xs) h))
    at true rest = refl
    at false rest = rest
