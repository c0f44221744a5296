-- What is known of the candidates of each base, and of the names made.
use Rattle.std.specs.Prelude.{◌≡◌, ℕ, ◌<◌, List, [], ◌∷◌, Bool, true, false, map, string_bytes, unwrap_or}
use Rattle.std.specs.HashMap.{HashMap, get_by_text}
use Rattle.std.specs.HashSet.{HashSet, contains_text}
use Rattle.std.specs.declared.string.String.{String}
use Rattle.es_tree.specs.Words.{Text}
use Rattle.es_tree.specs.Fresh.{candidate, is_among, is_underscore}

-- for each base, the candidates below its number are in use
abbrev pub AreTaken : {X Y S T : Type 0} → HashMap (String X) ℕ S → HashSet (String Y) T → Type 0
AreTaken numbers in_use =
    (base : Text) (m : ℕ) → m < unwrap_or (get_by_text numbers base) 0 → contains_text in_use (candidate base m) ≡ true

-- whether a name begins with `_`, as each candidate does
abbrev pub is_underscored : Text → Bool
is_underscored [] = false
is_underscored (c ∷ cs) = is_underscore c

abbrev pub AreUnderscored : {X : Type 0} → List (String X) → Type 0
AreUnderscored names = (x : Text) → is_among (map string_bytes names) x ≡ true → is_underscored x ≡ true
