-- Fresh names one after the other, with the next symbols: they are new, and found under their names.
use Rattle.std.proofs.Common.{◌≡◌, ◌==◌, ◌≤◌, ◌<◌, ◌∙◌, ℕ, suc, refl, sym, ap, length, List, [], ◌∷◌, ◌++◌, append_assoc, arith}
use Rattle.std.specs.Prelude.{Bool, false, Some, map, if◌then◌else◌}
use Rattle.std.proofs.lemmas.Bool.{eq-eqb, ne_eqb, or_parts}
use Rattle.std.proofs.lemmas.List.{append-nil, map-append}
use Rattle.es_tree.specs.Fresh.{IsFreshName, also, text_base}
use Rattle.es_tree.specs.Helpers.{helper_text}
use Rattle.es_tree.specs.Tree.{Tree}
use Rattle.es_tree.specs.Words.{Text}
use Rattle.es_tree.specs.declared.helper.Helper.{Helper}
use Rattle.es_resolution.specs.Declarations.{Bound}
use Rattle.es_resolution.proofs.Basics.{Each}
use Rattle.es_steps.specs.CoreBridge.{names_among}
use Rattle.es_steps.specs.Rules.{with_made}
use Rattle.es_steps.specs.Steps.{Whole}
use Rattle.es_steps.proofs.FormParts.{IsText}
use Rattle.es_steps.proofs.FormRows.{next-text}
use Rattle.es_helper_names.specs.CallNames.{IsTopName}
use Rattle.es_top_imports.specs.Laws.{AreFound, AreNew, locals, sources_of, with_each}
use Rattle.es_helper_imports.specs.Imported.{AreFresh, helper_source, imports_of, marked_from}

-- WHAT IS IMPORTED: of each helper its module, under its name

pub locals-are : (m : Text) (u : Text → Bool) (hs : List Helper) (names : List Text) (n : ℕ) → AreFresh u hs names → locals (imports_of m hs (marked_from n names)) ≡ marked_from n names
locals-are m u [] [] n h = refl
locals-are m u (g ∷ gs) (x ∷ xs) n h = ap (λ bs. record { name = x; symbol = Some n } ∷ bs) (locals-are m (also x u) gs xs (suc n) h.1)
locals-are m u [] (x ∷ xs) n h = absurd h
locals-are m u (g ∷ gs) [] n h = absurd h

pub sources-are : (m : Text) (u : Text → Bool) (hs : List Helper) (names : List Text) (n : ℕ) → AreFresh u hs names → sources_of (imports_of m hs (marked_from n names)) ≡ map (helper_source m) hs
sources-are m u [] [] n h = refl
sources-are m u (g ∷ gs) (x ∷ xs) n h = ap (λ ts. helper_source m g ∷ ts) (sources-are m (also x u) gs xs (suc n) h.1)
sources-are m u [] (x ∷ xs) n h = absurd h
sources-are m u (g ∷ gs) [] n h = absurd h

-- NEW NAMES: none is in use, nor empty, and each is in use after it

abbrev pub AreFree : (Text → Bool) → List Text → Type 0
AreFree u [] = Unit {0}
AreFree u (x ∷ xs) = (u x ≡ false) × ((length x == 0) ≡ false) × AreFree (also x u) xs

-- a fresh name isn't empty
pub fresh-text : (w : Whole) (u : Text → Bool) (base x : Text) → IsFreshName u base x → (length x == 0) ≡ false
fresh-text w u base x h = next-text (record w { in_use = u }) base (record { name = x; symbol = Some w.free_symbol }) (record { fresh = h; symbol = refl })

pub are-free : (w : Whole) (u : Text → Bool) (hs : List Helper) (names : List Text) → AreFresh u hs names → AreFree u names
are-free w u [] [] h = tt
are-free w u (g ∷ gs) (x ∷ xs) h = (h.0.free, fresh-text w u (text_base (helper_text g)) x h.0, are-free w (also x u) gs xs h.1)
are-free w u [] (x ∷ xs) h = absurd h
are-free w u (g ∷ gs) [] h = absurd h

pub are-texts : (u : Text → Bool) (names : List Text) (n : ℕ) → AreFree u names → Each IsText (marked_from n names)
are-texts u [] n h = tt
are-texts u (x ∷ xs) n h = (h.1, are-texts (also x u) xs (suc n) h.2)

pub are-new : (u : Text → Bool) (names : List Text) (n : ℕ) → AreFree u names → AreNew u n (marked_from n names)
are-new u [] n h = tt
are-new u (x ∷ xs) n h = (h.0, h.1, refl, are-new (also x u) xs (suc n) h.2)

-- the names that are made then
pub made-names : (names : List Text) (n : ℕ) (w : Whole) → names_among (with_each (marked_from n names) w).made ≡ names_among w.made ++ names
made-names [] n w = sym (append-nil (names_among w.made))
made-names (x ∷ xs) n w =
    let b : Bound = record { name = x; symbol = Some n } in
    made-names xs (suc n) (with_made (b ∷ []) w) ∙ (λ i. map-append (λ (c : Bound). c.name) w.made (b ∷ []) i ++ xs) ∙ append_assoc (names_among w.made) (x ∷ []) xs

-- THE NAMES OF SYMBOLS

-- a symbol before them has the name that it had
called-before : (names : List Text) (n : ℕ) (w : Whole) (s : ℕ) → s < n → (with_each (marked_from n names) w).called s ≡ w.called s
called-before [] n w s h = refl
called-before (x ∷ xs) n w s h = called-before xs (suc n) (with_made (record { name = x; symbol = Some n } ∷ []) w) s (omega arith) ∙ (λ i. if ne_eqb n s (λ e. omega (arith, e)) i then x else w.called s)

module _ (w w' : Whole) (t : Tree) where
  -- each of them is a name of the program's top
  pub are-top-names : (names : List Text) (n : ℕ) (v : Whole) → ((y : Text) → v.in_use y ≡ false → w.in_use y ≡ false) → w.free_symbol ≤ n → with_each (marked_from n names) v ≡ w' → AreFree v.in_use names → AreFound t (marked_from n names) → Each (IsTopName w w' t) (marked_from n names)
  are-top-names [] n v less low e h found = tt
  are-top-names (x ∷ xs) n v less low e h found =
      let b : Bound = record { name = x; symbol = Some n } in
      let next : Whole = with_made (b ∷ []) v in (
        record {
          free = less x h.0;
          number = n;
          symbol = refl;
          new = low;
          called = ap (λ (z : Whole). z.called n) (sym e) ∙ called-before xs (suc n) next n (omega arith) ∙ (λ i. if eq-eqb n n refl i then x else v.called n);
          found = found.0;
        },
        are-top-names xs (suc n) next (λ y k. less y (or_parts _ _ k).0) (omega arith) e h.2 found.1,
      )
