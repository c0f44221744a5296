-- The entries of a store of imports, and the sources that they show.
use Rattle.std.proofs.Common.{◌≡◌, ℕ, zero, suc, ◌+◌, ◌<◌, arith, refl, sym, ◌∙◌, ap, subst, Bool, true, false, cond, not, List, [], ◌∷◌, ◌++◌, map, length, filter, slice_get, position, Some, remove, bytes_eq, string_bytes, unwrap_or, String, Vec, Global, insert}
use Rattle.std.specs.Cmp.Lexicographic.{nat_list_eq_equiv}
use Rattle.std.specs.List.{AllByRecursion, IsDistinct, position_or_len}
use Rattle.std.specs.Option.{option_map_or}
use Rattle.std.specs.Map.{keys_of, values_of}
use Rattle.std.specs.String.{string_eq}
use Rattle.std.proofs.lemmas.Map.Keys.{IsDistinct-head}
use Rattle.indexmap.specs.IndexMap.{move_index, set_value_at}
use Rattle.indexmap.proofs.MapLemmas.{Found-position}
use Rattle.es_tree.specs.Words.{Text}
use Rattle.lower_stores.specs.Imports.{IsPlaceOf, in_front, with_import}
use Rattle.lower_stores.specs.PlainImports.{plain_import, plain_source, plain_sources}
use Rattle.lower_stores.specs.declared.module_imports.Import.{Import}

abbrev pub Key : Type 0
Key = String Global

abbrev pub Entry : Type 0
Entry = Key × Vec Import Global

-- the key of this source
abbrev pub names : Text → Key → Bool
names source key = bytes_eq source (string_bytes key)

-- none of these has the source
abbrev pub NoneNames : Text → List Entry → Type 0
NoneNames source es = AllByRecursion (λ key. names source key ≡ false) (keys_of es)

same_some : {X : Type 0} (x y : X) → Some x ≡ Some y → x ≡ y
same_some x y e = ap (λ r. unwrap_or r x) e

map-append : (xs ys : List Import) → map plain_import (xs ++ ys) ≡ map plain_import xs ++ map plain_import ys
map-append [] ys = refl
map-append (x ∷ xs) ys = ap (λ l. plain_import x ∷ l) (map-append xs ys)

-- A KNOWN SOURCE

pub kept_sources : (es : List Entry) (i : ℕ) (v old : Vec Import Global) → slice_get (values_of es) i ≡ Some old → v.items ≡ old.items → plain_sources (set_value_at es i v) ≡ plain_sources es
kept_sources [] i v old h e = refl
kept_sources (x ∷ es) zero v old h e =
    ap (λ l. (string_bytes x.0, map plain_import l) ∷ plain_sources es) (e ∙ ap (λ (w : Vec Import Global). w.items) (sym (same_some x.1 old h)))
kept_sources (x ∷ es) (suc i) v old h e = ap (λ l. plain_source x ∷ l) (kept_sources es i v old h e)

pub pushed_sources : (source : Text) (es : List Entry) (i : ℕ) (v old : Vec Import Global) (import : Import) → IsPlaceOf source (plain_sources es) i → slice_get (values_of es) i ≡ Some old → v.items ≡ old.items ++ import ∷ [] → plain_sources (set_value_at es i v) ≡ with_import source (plain_import import) (plain_sources es)
pushed_sources source [] i v old import f h e = absurd f
pushed_sources source (x ∷ es) zero v old import f h e =
    ap (λ l. (string_bytes x.0, map plain_import l) ∷ plain_sources es) (e ∙ ap (λ (w : Vec Import Global). w.items ++ import ∷ []) (sym (same_some x.1 old h)))
    ∙ ap (λ l. (string_bytes x.0, l) ∷ plain_sources es) (map-append x.1.items (import ∷ []))
    ∙ sym (ap (λ b. cond b ((string_bytes x.0, map plain_import x.1.items ++ plain_import import ∷ []) ∷ plain_sources es) (plain_source x ∷ with_import source (plain_import import) (plain_sources es))) f)
pushed_sources source (x ∷ es) (suc i) v old import f h e =
    ap (λ l. plain_source x ∷ l) (pushed_sources source es i v old import f.1 h e)
    ∙ sym (ap (λ b. cond b ((string_bytes x.0, map plain_import x.1.items ++ plain_import import ∷ []) ∷ plain_sources es) (plain_source x ∷ with_import source (plain_import import) (plain_sources es))) f.0)

pub place_kept : (source : Text) (es : List Entry) (i j : ℕ) (v : Vec Import Global) → IsPlaceOf source (plain_sources es) i → IsPlaceOf source (plain_sources (set_value_at es j v)) i
place_kept source [] i j v f = f
place_kept source (x ∷ es) zero zero v f = f
place_kept source (x ∷ es) zero (suc j) v f = f
place_kept source (x ∷ es) (suc i) zero v f = f
place_kept source (x ∷ es) (suc i) (suc j) v f = (f.0, place_kept source es i j v f.1)

-- where a search for the key ended
found_here : (b : Bool) (n : ℕ) → cond (not b) (1 + n) 0 ≡ 0 → b ≡ true
found_here true n e = refl
found_here false n e = absurd (omega arith)

found_later : (b : Bool) (n i : ℕ) → cond (not b) (1 + n) 0 ≡ suc i → (b ≡ false) × (n ≡ i)
found_later true n i e = absurd (omega arith)
found_later false n i e = (refl, omega arith)

place_from_search : (source : Text) (es : List Entry) (i : ℕ) → position_or_len (names source) (keys_of es) ≡ i → i < length es → IsPlaceOf source (plain_sources es) i
place_from_search source [] i e h = absurd (omega arith)
place_from_search source (x ∷ es) zero e h = found_here (names source x.0) _ e
place_from_search source (x ∷ es) (suc i) e h =
    let f = found_later (names source x.0) (position_or_len (names source) (keys_of es)) i e in
    (f.0, place_from_search source es i f.1 (omega arith))

pub place_found : (source : Text) (es : List Entry) (i : ℕ) → position (names source) (keys_of es) ≡ Some i → IsPlaceOf source (plain_sources es) i
place_found source es i e = let f = Found-position (names source) es i e in place_from_search source es i f.or_len f.within

pub place_within : (source : Text) (es : List Entry) (i : ℕ) → IsPlaceOf source (plain_sources es) i → i < length es
place_within source [] i f = absurd f
place_within source (x ∷ es) zero f = omega arith
place_within source (x ∷ es) (suc i) f = let h = place_within source es i f.1 in omega (arith, h)

-- A NEW SOURCE

pub new_source : (es : List Entry) (key : Key) (v : Vec Import Global) (import : Import) → NoneNames (string_bytes key) es → v.items ≡ import ∷ [] → plain_sources (es ++ (key, v) ∷ []) ≡ with_import (string_bytes key) (plain_import import) (plain_sources es)
new_source [] key v import f e = ap (λ l. (string_bytes key, map plain_import l) ∷ []) e
new_source (x ∷ es) key v import f e =
    ap (λ l. plain_source x ∷ l) (new_source es key v import f.1 e)
    ∙ sym (ap (λ b. cond b ((string_bytes x.0, map plain_import x.1.items ++ plain_import import ∷ []) ∷ plain_sources es) (plain_source x ∷ with_import (string_bytes key) (plain_import import) (plain_sources es))) f.0)

pub last_place : (es : List Entry) (key : Key) (v : Vec Import Global) → NoneNames (string_bytes key) es → IsPlaceOf (string_bytes key) (plain_sources (es ++ (key, v) ∷ [])) (length es)
last_place [] key v f = nat_list_eq_equiv.refl (string_bytes key)
last_place (x ∷ es) key v f = (f.0, last_place es key v f.1)

-- THE SOURCE IN FRONT

first_entry : (source : Text) (es : List Entry) (i : ℕ) → IsPlaceOf source (plain_sources es) i → (e : Entry) × (slice_get es i ≡ Some e) × (names source e.0 ≡ true)
first_entry source [] i f = absurd f
first_entry source (x ∷ es) zero f = (x, refl, f)
first_entry source (x ∷ es) (suc i) f = first_entry source es i f.1

none_of : (source : Text) (es : List Entry) → NoneNames source es → filter (λ s. bytes_eq source s.0) (plain_sources es) ≡ []
none_of source [] h = refl
none_of source (x ∷ es) h =
    ap (λ b. cond b (plain_source x ∷ filter (λ s. bytes_eq source s.0) (plain_sources es)) (filter (λ s. bytes_eq source s.0) (plain_sources es))) h.0 ∙ none_of source es h.1

all_others : (source : Text) (es : List Entry) → NoneNames source es → filter (λ s. not (bytes_eq source s.0)) (plain_sources es) ≡ plain_sources es
all_others source [] h = refl
all_others source (x ∷ es) h =
    ap (λ b. cond (not b) (plain_source x ∷ filter (λ s. not (bytes_eq source s.0)) (plain_sources es)) (filter (λ s. not (bytes_eq source s.0)) (plain_sources es))) h.0
    ∙ ap (λ l. plain_source x ∷ l) (all_others source es h.1)

only_this : (source : Text) (es : List Entry) (i : ℕ) (e : Entry) → IsPlaceOf source (plain_sources es) i → slice_get es i ≡ Some e → NoneNames source (remove es i) → filter (λ s. bytes_eq source s.0) (plain_sources es) ≡ plain_source e ∷ []
only_this source [] i e f h n = absurd f
only_this source (x ∷ es) zero e f h n =
    ap (λ b. cond b (plain_source x ∷ filter (λ s. bytes_eq source s.0) (plain_sources es)) (filter (λ s. bytes_eq source s.0) (plain_sources es))) f
    ∙ (λ i. plain_source (same_some x e h i) ∷ none_of source es n i)
only_this source (x ∷ es) (suc i) e f h n =
    ap (λ b. cond b (plain_source x ∷ filter (λ s. bytes_eq source s.0) (plain_sources es)) (filter (λ s. bytes_eq source s.0) (plain_sources es))) f.0
    ∙ only_this source es i e f.1 h n.1

the_others : (source : Text) (es : List Entry) (i : ℕ) → IsPlaceOf source (plain_sources es) i → NoneNames source (remove es i) → filter (λ s. not (bytes_eq source s.0)) (plain_sources es) ≡ plain_sources (remove es i)
the_others source [] i f n = absurd f
the_others source (x ∷ es) zero f n =
    ap (λ b. cond (not b) (plain_source x ∷ filter (λ s. not (bytes_eq source s.0)) (plain_sources es)) (filter (λ s. not (bytes_eq source s.0)) (plain_sources es))) f
    ∙ all_others source es n
the_others source (x ∷ es) (suc i) f n =
    ap (λ b. cond (not b) (plain_source x ∷ filter (λ s. not (bytes_eq source s.0)) (plain_sources es)) (filter (λ s. not (bytes_eq source s.0)) (plain_sources es))) f.0
    ∙ ap (λ l. plain_source x ∷ l) (the_others source es i f.1 n.1)

-- keys that differ from one that has the source don't have it
differing : (source : Text) (key : Key) (ks : List Key) → names source key ≡ true → AllByRecursion (λ k. string_eq key k ≡ false) ks → AllByRecursion (λ k. names source k ≡ false) ks
differing source key [] h d = tt
differing source key (k ∷ ks) h d =
    (nat_list_eq_equiv.congr source (string_bytes key) (string_bytes k) h ∙ d.0, differing source key ks h d.1)

pub front_sources : (source : Text) (es fs : List Entry) (i : ℕ) → IsPlaceOf source (plain_sources es) i → fs ≡ move_index es i 0 → IsDistinct string_eq (keys_of fs) → plain_sources fs ≡ in_front source (plain_sources es)
front_sources source es fs i f e d =
    let at = first_entry source es i f in
    let moved : fs ≡ at.0 ∷ remove es i = e ∙ ap (λ r. option_map_or (λ x. insert (remove es i) 0 x) r es) at.1 in
    let others = differing source at.0.0 (keys_of (remove es i)) at.2 (IsDistinct-head string_eq at.0.0 (keys_of (remove es i)) (subst (λ l. IsDistinct string_eq (keys_of l)) moved d)) in
    ap plain_sources moved
    ∙ sym (λ j. only_this source es i at.0 f at.1 others j ++ the_others source es i f others j)
