-- The names that steps make begin with an underscore: so none is a cell of the machine's own, `Math`, `babelHelpers` or `require`.
use Rattle.std.proofs.Common.{◌≡◌, ℕ, zero, suc, refl, ap, subst, sym, List, [], ◌∷◌}
use Rattle.std.proofs.lemmas.Bool.{and_parts, and_from, eqb-true}
use Rattle.std.specs.Prelude.{Bool, true, false, not, ◌&&◌, ◌||◌, bytes_eq, codes, nat_eq}
use Rattle.es_tree.specs.Fresh.{IsFreshName, candidate, is_underscore}
use Rattle.es_tree.specs.Words.{Text}
use Rattle.es_resolution.proofs.Basics.{bytes_eq-equal}
use Rattle.es_statement_runs.specs.Laws.{among_names, any_cells}
use Rattle.es_statement_runs.specs.Helpers.{Supply}
use Rattle.es_statement_runs.specs.Helpers.Supply.{no_helpers, by_global, by_import, by_require, spread_by_global}
use Rattle.es_statement_runs.specs.Places.{SupplySeen}
use Rattle.es_statement_runs.specs.Scopes.{are_program_names, is_own_cell}

abbrev pub is_made_text : Text → Bool
is_made_text [] = false
is_made_text (c ∷ cs) = is_underscore c

candidate_made : (base : Text) (n : ℕ) → is_made_text (candidate base n) ≡ true
candidate_made base zero = refl
candidate_made base (suc n) = refl

pub fresh_made : (in_use : Text → Bool) (base x : Text) → IsFreshName in_use base x → is_made_text x ≡ true
fresh_made in_use base x h = subst (λ y. is_made_text y ≡ true) (sym h.name) (candidate_made base h.number)

pub made_no_cell : (x : Text) → is_made_text x ≡ true → is_own_cell x ≡ false
made_no_cell [] h = refl
made_no_cell (c ∷ cs) h = subst (λ d. nat_eq d 256 ≡ false) (sym (eqb-true c 95 h)) refl

pub made_apart : (w x : Text) → is_made_text w ≡ false → is_made_text x ≡ true → bytes_eq w x ≡ false
made_apart w x g h = at (bytes_eq w x) refl
  where
    at : (b : Bool) → bytes_eq w x ≡ b → b ≡ false
    at true e = absurd (let same : w ≡ x = bytes_eq-equal w x e in let yes : is_made_text w ≡ true = subst (λ y. is_made_text y ≡ true) (sym same) h in cc (yes, g))
    at false e = refl

-- LISTS OF SUCH NAMES

abbrev pub all_made : List Text → Bool
all_made [] = true
all_made (x ∷ xs) = is_made_text x && all_made xs

pub made_program_names : (xs : List Text) → all_made xs ≡ true → are_program_names xs ≡ true
made_program_names [] h = refl
made_program_names (x ∷ xs) h =
    let d = and_parts (is_made_text x) (all_made xs) h in
    and_from (not (is_own_cell x)) (are_program_names xs) (ap not (made_no_cell x d.0)) (made_program_names xs d.1)

pub made_among : (w : Text) (xs : List Text) → is_made_text w ≡ false → all_made xs ≡ true → among_names xs w ≡ false
made_among w [] g h = refl
made_among w (x ∷ xs) g h =
    let d = and_parts (is_made_text x) (all_made xs) h in
    (λ i. made_apart w x g d.0 i || made_among w xs g d.1 i)

pub made_math : (xs : List Text) → all_made xs ≡ true → among_names xs (codes "Math") ≡ false
made_math xs h = made_among (codes "Math") xs refl h

pub made_supply : (u : Supply) (xs : List Text) → all_made xs ≡ true → SupplySeen (any_cells (among_names xs)) u
made_supply no_helpers xs h = tt
made_supply spread_by_global xs h = record { global = made_among (codes "babelHelpers") xs refl h; require = made_among (codes "require") xs refl h }
made_supply by_global xs h = record { global = made_among (codes "babelHelpers") xs refl h; require = made_among (codes "require") xs refl h }
made_supply (by_import m) xs h = record { global = made_among (codes "babelHelpers") xs refl h; require = made_among (codes "require") xs refl h }
made_supply (by_require m) xs h = record { global = made_among (codes "babelHelpers") xs refl h; require = made_among (codes "require") xs refl h }
