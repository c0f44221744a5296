-- The symbols of declared names: what one more declaration adds, and that their numbers tell names apart.
use Rattle.std.proofs.Common.{◌≡◌, ℕ, suc, ◌<◌, Bool, true, false, not, ◌||◌, Option, Some, None, is_some, option_map, filter, List, [], ◌∷◌, ◌++◌, length, bytes_eq, if◌then◌else◌, cond, ◌==◌, refl, sym, ap, ◌∙◌, arith}
use Rattle.std.proofs.lemmas.Bool.Decides.{nat_tests}
use Rattle.std.proofs.lemmas.List.Elements.{filter-append}
use Rattle.std.specs.Cmp.Lexicographic.{bytes_decides}
use Rattle.es_tree.specs.Words.{Text}
use Rattle.es_tree.specs.Scopes.{Declared, is_named, declares}
use Rattle.es_tree.specs.Symbols.{symbols, symbol_of, place_of, has_other_name}
use Rattle.es_tree.specs.References.{is_symbol}

-- the declaration, unless its name is known
abbrev pub if_new : Bool → Declared → List Declared
if_new true d = []
if_new false d = d ∷ []

-- PLACES

is_some-suc : (o : Option ℕ) → is_some (option_map suc o) ≡ is_some o
is_some-suc None = refl
is_some-suc (Some n) = refl

-- a name has a place where it is there
pub place-some : (ss : List Declared) (x : Text) → is_some (place_of ss x) ≡ declares ss x
place-some [] x = refl
place-some (s ∷ ss) x = at (is_named x s) (place-some ss x) where
  at : (b : Bool) → is_some (place_of ss x) ≡ declares ss x → is_some (if b then Some 0 else option_map suc (place_of ss x)) ≡ (b || declares ss x)
  at true e = refl
  at false e = is_some-suc (place_of ss x) ∙ e

none_of : (o : Option ℕ) → is_some o ≡ false → o ≡ None
none_of None e = refl
none_of (Some n) e = absurd (cc)

pub place-none : (ss : List Declared) (x : Text) → declares ss x ≡ false → place_of ss x ≡ None
place-none ss x e = none_of (place_of ss x) (place-some ss x ∙ e)

-- the place of a name after one more declaration
pub place-last : (ss : List Declared) (d : Declared) (x : Text) → declares ss x ≡ false → is_named x d ≡ true → place_of (ss ++ d ∷ []) x ≡ Some (length ss)
place-last [] d x e h = rw h refl
place-last (s ∷ ss) d x e h = at (is_named x s) refl (λ f. place-last ss d x f h) where
  at : (b : Bool) → is_named x s ≡ b → (declares ss x ≡ false → place_of (ss ++ d ∷ []) x ≡ Some (length ss)) → place_of (s ∷ (ss ++ d ∷ [])) x ≡ Some (suc (length ss))
  at true f g = absurd (let g : true ≡ false = sym (ap (λ b. b || declares ss x) f) ∙ e in cc)
  at false f g = rw (f, g (sym (ap (λ b. b || declares ss x) f) ∙ e)) refl

pub place-kept : (ss : List Declared) (d : Declared) (x : Text) → is_named x d ≡ false → place_of (ss ++ d ∷ []) x ≡ place_of ss x
place-kept [] d x h = rw h refl
place-kept (s ∷ ss) d x h = ap (λ o. if is_named x s then Some 0 else option_map suc o) (place-kept ss d x h)

-- a place is one of the list
pub place-within : (ss : List Declared) (x : Text) (n : ℕ) → place_of ss x ≡ Some n → n < length ss
place-within [] x n e = absurd (cc)
place-within (s ∷ ss) x n e = at (place-within ss x) (is_named x s) e where
  later : (o : Option ℕ) → ((m : ℕ) → o ≡ Some m → m < length ss) → option_map suc o ≡ Some n → n < suc (length ss)
  later None h e = absurd (cc)
  later (Some m) h e = let same : suc m ≡ n = cc in omega (arith, h m refl, same)

  at : ((m : ℕ) → place_of ss x ≡ Some m → m < length ss) → (b : Bool) → (if b then Some 0 else option_map suc (place_of ss x)) ≡ Some n → n < suc (length ss)
  at h true e = let same : 0 ≡ n = cc in omega (arith, same)
  at h false e = later (place_of ss x) h e

-- NUMBERS TELL NAMES APART

-- two names at one place are one
same_place : (ss : List Declared) (x y : Text) (n : ℕ) → place_of ss x ≡ Some n → place_of ss y ≡ Some n → x ≡ y
same_place [] x y n e f = absurd (cc)
same_place (s ∷ ss) x y n e f = at (λ i. same_place ss x y i) (is_named x s) refl (is_named y s) refl e f where
  later : ((i : ℕ) → place_of ss x ≡ Some i → place_of ss y ≡ Some i → x ≡ y) → (o q : Option ℕ) → place_of ss x ≡ o → place_of ss y ≡ q → option_map suc o ≡ Some n → option_map suc q ≡ Some n → x ≡ y
  later below None q g h e f = absurd (cc)
  later below (Some i) None g h e f = absurd (cc)
  later below (Some i) (Some j) g h e f = let same : j ≡ i = cc in below i g (h ∙ ap (λ k. Some k) same)

  first : (o : Option ℕ) → Some 0 ≡ Some n → option_map suc o ≡ Some n → ⊥
  first None e f = cc
  first (Some i) e f = cc

  at : ((i : ℕ) → place_of ss x ≡ Some i → place_of ss y ≡ Some i → x ≡ y) → (b : Bool) → is_named x s ≡ b → (c : Bool) → is_named y s ≡ c →
      (if b then Some 0 else option_map suc (place_of ss x)) ≡ Some n → (if c then Some 0 else option_map suc (place_of ss y)) ≡ Some n → x ≡ y
  at below true g true h e f = sym ((bytes_decides s.name x).0 g) ∙ (bytes_decides s.name y).0 h
  at below true g false h e f = absurd (first (place_of ss y) e f)
  at below false g true h e f = absurd (first (place_of ss x) f e)
  at below false g false h e f = later below (place_of ss x) (place_of ss y) refl refl e f

-- the number of a name is that of another exactly where they are one
pub number-decides : (ds : List Declared) (x y : Text) (s : ℕ) → symbol_of ds x ≡ Some s → is_symbol s (symbol_of ds y) ≡ bytes_eq y x
number-decides ds x y s e = at (bytes_eq y x) refl where
  differs : bytes_eq y x ≡ false → (o : Option ℕ) → symbol_of ds y ≡ o → is_symbol s o ≡ false
  differs h None f = refl
  differs h (Some m) f = test (m == s) refl where
    test : (b : Bool) → (m == s) ≡ b → b ≡ false
    test false g = refl
    test true g =
        let number : m ≡ s = grind (arith, nat_tests) in
        let same : y ≡ x = same_place (symbols ds) y x s (f ∙ ap (λ k. Some k) number) e in
        let equal : bytes_eq y x ≡ true = (bytes_decides y x).1 same in
        sym equal ∙ h

  at : (b : Bool) → bytes_eq y x ≡ b → is_symbol s (symbol_of ds y) ≡ b
  at true h =
      let same : y ≡ x = (bytes_decides y x).0 h in
      let own : (s == s) ≡ true = grind (arith, nat_tests) in
      rw (same, e) own
  at false h = differs h (symbol_of ds y) refl

-- ONE MORE DECLARATION

other_kept : (x y : Text) → bytes_eq y x ≡ false → (ss : List Declared) → declares (filter (has_other_name y) ss) x ≡ declares ss x
other_kept x y h [] = refl
other_kept x y h (s ∷ ss) = at (other_kept x y h ss) (is_named y s) refl where
  at : declares (filter (has_other_name y) ss) x ≡ declares ss x → (b : Bool) → is_named y s ≡ b → declares (cond (not b) (s ∷ filter (has_other_name y) ss) (filter (has_other_name y) ss)) x ≡ (is_named x s || declares ss x)
  at below true e =
      let name : s.name ≡ y = (bytes_decides s.name y).0 e in
      let differs : is_named x s ≡ false = ap (λ z. bytes_eq z x) name ∙ h in
      rw differs below
  at below false e = ap (λ b. is_named x s || b) below

-- the symbols after one more declaration
pub symbols-more : (ds : List Declared) (d : Declared) → symbols (ds ++ d ∷ []) ≡ symbols ds ++ if_new (declares (symbols ds) d.name) d
symbols-more [] d = refl
symbols-more (e ∷ es) d = ap (λ ss. e ∷ ss) (ap (filter (has_other_name e.name)) (symbols-more es d) ∙ (filter-append (has_other_name e.name) (symbols es) _ ∙ ap (λ ss. filter (has_other_name e.name) (symbols es) ++ ss) (at (bytes_eq e.name d.name) refl))) where
  none : (b : Bool) → has_other_name e.name d ≡ false → filter (has_other_name e.name) (if_new b d) ≡ []
  none true h = refl
  none false h = rw h refl

  all : (b : Bool) → has_other_name e.name d ≡ true → filter (has_other_name e.name) (if_new b d) ≡ if_new b d
  all true h = refl
  all false h = rw h refl

  at : (b : Bool) → bytes_eq e.name d.name ≡ b → filter (has_other_name e.name) (if_new (declares (symbols es) d.name) d) ≡ if_new (b || declares (filter (has_other_name e.name) (symbols es)) d.name) d
  at true h =
      let name : d.name ≡ e.name = sym ((bytes_decides e.name d.name).0 h) in
      none _ (ap not ((bytes_decides d.name e.name).1 name))
  at false h =
      let differs : bytes_eq d.name e.name ≡ false = flip h in
      all _ (ap not differs) ∙ ap (λ b. if_new b d) (sym (other_kept d.name e.name h (symbols es))) where
        flip : bytes_eq e.name d.name ≡ false → bytes_eq d.name e.name ≡ false
        flip h = test (bytes_eq d.name e.name) refl where
          test : (b : Bool) → bytes_eq d.name e.name ≡ b → b ≡ false
          test false g = refl
          test true g = sym ((bytes_decides e.name d.name).1 (sym ((bytes_decides d.name e.name).0 g))) ∙ h

-- a name has a symbol where it is declared
pub symbols-declare : (ds : List Declared) (x : Text) → declares (symbols ds) x ≡ declares ds x
symbols-declare [] x = refl
symbols-declare (d ∷ ds) x = at (symbols-declare ds x) (bytes_eq d.name x) refl where
  at : declares (symbols ds) x ≡ declares ds x → (b : Bool) → bytes_eq d.name x ≡ b → (b || declares (filter (has_other_name d.name) (symbols ds)) x) ≡ (b || declares ds x)
  at below true h = refl
  at below false h = other_kept x d.name h (symbols ds) ∙ below

pub symbol-some : (ds : List Declared) (x : Text) → is_some (symbol_of ds x) ≡ declares ds x
symbol-some ds x = place-some (symbols ds) x ∙ symbols-declare ds x
