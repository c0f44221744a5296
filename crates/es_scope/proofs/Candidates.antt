-- The candidates in use, as names are taken.
use Rattle.std.proofs.Common.{◌≡◌, ℕ, zero, suc, ◌+◌, ◌<◌, List, [], ◌∷◌, ◌++◌, map, Bool, true, false, ◌||◌, cond, Some, Result, Ok, Err, OnOk, OnErr, unwrap_or, bytes_eq, string_bytes, below_more, String, HashMap, HashSet, refl, sym, ap, ◌∙◌}
use Rattle.std.proofs.lemmas.List.{map-append}
use Rattle.std.proofs.lemmas.List.Folds.{list_any-append}
use Rattle.std.proofs.lemmas.Map.Text.{hash_map_updates_text}
use Rattle.std.specs.Cmp.Lexicographic.{bytes_decides}
use Rattle.std.specs.HashMap.{get_by_text, UpdatesBy, IsUnchanged}
use Rattle.std.specs.HashSet.{contains_text, UpdatesBy as SetUpdatesBy, IsUnchanged as SetIsUnchanged}
use Rattle.std.specs.String.{string_eq}
use Rattle.std.specs.List.{list_any}
use Rattle.es_tree.specs.Words.{Text}
use Rattle.es_tree.specs.Fresh.{also, candidate, is_among}
use Rattle.es_scope.specs.Taken.{AreTaken, AreUnderscored, is_underscored}
use Rattle.es_scope.proofs.Among.{also-inserted}

pub stays : (used : Bool) (b : Bool) → used ≡ true → (used || b) ≡ true
stays used b e = rw e refl

comes : (used : Bool) → (used || true) ≡ true
comes true = refl
comes false = refl

-- a name more in use
pub AreTaken-also : {X Y S T : Type 0} (numbers : HashMap (String X) ℕ S) (old new : HashSet (String Y) T) (name : Text) → ((x : Text) → contains_text new x ≡ also name (contains_text old) x) → AreTaken numbers old → AreTaken numbers new
AreTaken-also numbers old new name adds taken =
    λ base m h. adds (candidate base m) ∙ stays _ (bytes_eq name (candidate base m)) (taken base m h)

-- the candidates up to the one that the name is
pub taken_through : {Y T : Type 0} (old new : HashSet (String Y) T) (name : Text) → ((x : Text) → contains_text new x ≡ also name (contains_text old) x) → (base : Text) (number : ℕ) → name ≡ candidate base number → ((m : ℕ) → m < number → contains_text old (candidate base m) ≡ true) → (m : ℕ) → m < number + 1 → contains_text new (candidate base m) ≡ true
taken_through old new name adds base number e first =
    let here : bytes_eq name (candidate base number) ≡ true = (bytes_decides name (candidate base number)).1 e in
    below_more (λ m. contains_text new (candidate base m) ≡ true) number
    (λ m h. adds (candidate base m) ∙ stays _ (bytes_eq name (candidate base m)) (first m h))
    (adds (candidate base number) ∙ rw here (comes _))

-- the number of a base, after an insertion that may fail
pub AreTaken-inserted : {X Y S T A E : Type 0} (old new : HashMap (String X) ℕ S) (in_use : HashSet (String Y) T) (base : Text) (number : ℕ) (r : Result A E) → OnOk r (UpdatesBy string_eq (λ k. bytes_eq base (string_bytes k)) old new (Some number)) → OnErr r (IsUnchanged old new) → ((m : ℕ) → m < number → contains_text in_use (candidate base m) ≡ true) → AreTaken old in_use → AreTaken new in_use
AreTaken-inserted old new in_use base number (Ok a) updated unchanged first taken = λ b m h. at b m (bytes_eq base b) refl (rw (hash_map_updates_text base old new (Some number) updated b) at h) where
  at : (b : Text) (m : ℕ) (same : Bool) → bytes_eq base b ≡ same → m < unwrap_or (cond (bytes_eq base b) (Some number) (get_by_text old b)) 0 → contains_text in_use (candidate b m) ≡ true
  at b m true e h =
      let this : base ≡ b = (bytes_decides base b).0 e in
      rw (← this) (first m (rw e at h))
  at b m false e h = taken b m (rw e at h)
AreTaken-inserted old new in_use base number (Err a) updated unchanged first taken = λ b m h. taken b m (rw unchanged at h)

-- the candidates stay in use, after an insertion of a name that may fail
pub AreTaken-inserted_use : {X Y S T A E : Type 0} (numbers : HashMap (String X) ℕ S) (old new : HashSet (String Y) T) (name : Text) (r : Result A E) → OnOk r (SetUpdatesBy string_eq (λ k. bytes_eq name (string_bytes k)) old new true) → OnErr r (SetIsUnchanged old new) → AreTaken numbers old → AreTaken numbers new
AreTaken-inserted_use numbers old new name (Ok a) updated unchanged taken = AreTaken-also numbers old new name (also-inserted old new name name updated refl) taken
AreTaken-inserted_use numbers old new name (Err a) updated unchanged taken = λ b m h. rw unchanged (taken b m h)

-- a candidate begins with `_`
pub candidate-underscored : (base : Text) (number : ℕ) → is_underscored (candidate base number) ≡ true
candidate-underscored base zero = refl
candidate-underscored base (suc n) = refl

-- a candidate more among the names made
pub AreUnderscored-pushed : {X : Type 0} (old new : List (String X)) (name : String X) (base : Text) (number : ℕ) → string_bytes name ≡ candidate base number → new ≡ old ++ name ∷ [] → AreUnderscored old → AreUnderscored new
AreUnderscored-pushed old new name base number n e known = λ x h. at x (is_among (map string_bytes old) x) refl (bytes_eq (string_bytes name) x) refl (sym (among x) ∙ h) where
  among : (x : Text) → is_among (map string_bytes new) x ≡ (is_among (map string_bytes old) x || (bytes_eq (string_bytes name) x || false))
  among x = rw (e, map-append string_bytes old (name ∷ [])) (list_any-append (λ y. bytes_eq y x) (map string_bytes old) (string_bytes name ∷ []))

  at : (x : Text) (was : Bool) → is_among (map string_bytes old) x ≡ was → (same : Bool) → bytes_eq (string_bytes name) x ≡ same → (is_among (map string_bytes old) x || (bytes_eq (string_bytes name) x || false)) ≡ true → is_underscored x ≡ true
  at x true f same g h = known x f
  at x false f true g h = ap is_underscored (sym ((bytes_decides (string_bytes name) x).0 g) ∙ n) ∙ candidate-underscored base number
  at x false f false g h = absurd (let no : false ≡ true = rw (f, g) at h in cc)

-- whether a name is among those made, as the code asks for it
pub among-made : {X : Type 0} (names : List (String X)) (x : Text) → list_any (λ made. bytes_eq (string_bytes made) x) names ≡ is_among (map string_bytes names) x
among-made [] x = refl
among-made (name ∷ names) x = ap (λ b. bytes_eq (string_bytes name) x || b) (among-made names x)
