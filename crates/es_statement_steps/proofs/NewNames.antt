-- The names that rules make aren't in use, and may be a program's.
use Rattle.std.proofs.Common.{◌≡◌, refl, sym, ap, ◌∙◌, List, [], ◌∷◌, ◌++◌}
use Rattle.std.proofs.lemmas.Bool.{and_from, and_parts}
use Rattle.std.proofs.lemmas.Slice.Eq.{bytes_eq-Decides}
use Rattle.std.specs.Prelude.{Bool, true, false, ◌||◌, ◌&&◌, bytes_eq}
use Rattle.es_tree.specs.Fresh.{IsFreshName, also}
use Rattle.es_tree.specs.Tree.{Tree}
use Rattle.es_tree.specs.Words.{Text}
use Rattle.es_runs.specs.Duplication.{duplicate_base}
use Rattle.es_resolution.specs.Declarations.{Bound}
use Rattle.es_steps.specs.CoreBridge.{names_among}
use Rattle.es_steps.specs.Duplication.{IsDuplicated, IsNext}
use Rattle.es_steps.specs.Duplication.IsDuplicated.{read_again, by_temporary}
use Rattle.es_steps.specs.Rules.{also_all, with_made}
use Rattle.es_steps.specs.Steps.{Whole}
use Rattle.es_statement_runs.specs.Laws.{among_names}
use Rattle.es_statement_steps.proofs.MadeNames.{all_made, fresh_made, is_made_text}
use Rattle.es_statement_steps.proofs.StepMoves.{AreNew}

pub no-new : (w : Whole) → AreNew w []
no-new w = record { free = λ x e. absurd (cc e); names = refl }

-- one more, which isn't in use where these are
fresh-free : (w : Whole) (b : Bound) → w.in_use b.name ≡ false → (x : Text) → among_names (names_among (b ∷ [])) x ≡ true → w.in_use x ≡ false
fresh-free w b h x e = at (bytes_eq x b.name) refl e
  where
    at : (c : Bool) → bytes_eq x b.name ≡ c → (c || false) ≡ true → w.in_use x ≡ false
    at true g d = ap w.in_use ((bytes_eq-Decides x b.name).0 g) ∙ h
    at false g d = absurd (cc d)

pub new-fresh : (w : Whole) (base : Text) (b : Bound) → IsFreshName w.in_use base b.name → AreNew w (b ∷ [])
new-fresh w base b h = record { free = fresh-free w b h.free; names = ap (λ c. c && true) (fresh_made w.in_use base b.name h) }

pub new-one : (w : Whole) (base : Text) (b : Bound) → IsNext w base b → AreNew w (b ∷ [])
new-one w base b h = new-fresh w base b h.fresh

-- THOSE OF TWO PARTS, of which the second are made where the first are in use

pub free-before : (bs : List Bound) (f : Text → Bool) (x : Text) → also_all bs f x ≡ false → f x ≡ false
free-before [] f x h = h
free-before (b ∷ bs) f x h = first (f x) (bytes_eq b.name x) (free-before bs (also b.name f) x h)
  where
    first : (a c : Bool) → (a || c) ≡ false → a ≡ false
    first true c e = absurd (cc e)
    first false c e = refl

among-both : (xs ys : List Bound) (x : Text) → among_names (names_among (xs ++ ys)) x ≡ (among_names (names_among xs) x || among_names (names_among ys) x)
among-both [] ys x = refl
among-both (z ∷ zs) ys x = pick (bytes_eq x z.name) (among-both zs ys x)
  where
    pick : (b : Bool) → among_names (names_among (zs ++ ys)) x ≡ (among_names (names_among zs) x || among_names (names_among ys) x) → (b || among_names (names_among (zs ++ ys)) x) ≡ ((b || among_names (names_among zs) x) || among_names (names_among ys) x)
    pick true e = refl
    pick false e = e

both-free : (w : Whole) (xs ys : List Bound) → AreNew w xs → ((x : Text) → among_names (names_among ys) x ≡ true → w.in_use x ≡ false) → (x : Text) → among_names (names_among (xs ++ ys)) x ≡ true → w.in_use x ≡ false
both-free w xs ys h g x e = pick (among_names (names_among xs) x) (among_names (names_among ys) x) (h.free x) (g x) (sym (among-both xs ys x) ∙ e)
  where
    pick : (a b : Bool) → (a ≡ true → w.in_use x ≡ false) → (b ≡ true → w.in_use x ≡ false) → (a || b) ≡ true → w.in_use x ≡ false
    pick true b f k d = f refl
    pick false b f k d = k d

both-names : (xs ys : List Bound) → all_made (names_among xs) ≡ true → all_made (names_among ys) ≡ true → all_made (names_among (xs ++ ys)) ≡ true
both-names [] ys h g = g
both-names (x ∷ xs) ys h g = let d = and_parts (is_made_text x.name) (all_made (names_among xs)) h in and_from (is_made_text x.name) (all_made (names_among (xs ++ ys))) d.0 (both-names xs ys d.1 g)

pub new-both : (w : Whole) (xs ys : List Bound) → AreNew w xs → AreNew (with_made xs w) ys → AreNew w (xs ++ ys)
new-both w xs ys h g = record { free = both-free w xs ys h (λ x e. free-before xs w.in_use x (g.free x e)); names = both-names xs ys h.names g.names }

pub doubled-new : (w : Whole) (xs : List Bound) {e e1 e2 : Tree} → IsDuplicated w xs e e1 e2 → AreNew w xs
doubled-new w xs (read_again again) = no-new w
doubled-new w xs (by_temporary {e = e} {x = x} again next) = new-one w (duplicate_base e) x next
