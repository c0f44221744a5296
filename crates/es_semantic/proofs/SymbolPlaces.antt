-- The numbers of symbols, after one more declaration.
use Rattle.std.proofs.Common.{◌≡◌, ℕ, suc, ◌==◌, ◌&&◌, ◌||◌, Bool, true, false, if◌then◌else◌, Option, Some, None, is_some, option_map, List, [], ◌∷◌, ◌++◌, length, bytes_eq, refl, sym, ap, ◌∙◌}
use Rattle.std.proofs.lemmas.Bool.{eqb-true, eqb-false}
use Rattle.std.specs.Cmp.Lexicographic.{bytes_decides}
use Rattle.es_tree.specs.Heads.{symbol}
use Rattle.es_tree.specs.Words.{Text}
use Rattle.es_tree.specs.declared.ids.SymbolId.{SymbolId}
use Rattle.es_semantic.specs.Places.{Place}
use Rattle.es_semantic.specs.SymbolsOf.{Declared, declared, hoist_scope, is_bound, is_symbol, symbol_in, with_symbol}
use Rattle.es_semantic.specs.declared.place.Binding.{Binding}

is_some-suc : (o : Option ℕ) → is_some (option_map suc o) ≡ is_some o
is_some-suc None = refl
is_some-suc (Some n) = refl

-- a name has a symbol where it is bound
pub symbol-bound : (ds : List Declared) (s : ℕ) (x : Text) → is_some (symbol_in ds s x) ≡ is_bound ds s x
symbol-bound [] s x = refl
symbol-bound (d ∷ ds) s x = at (is_symbol s x d) (symbol-bound ds s x) where
  at : (b : Bool) → is_some (symbol_in ds s x) ≡ is_bound ds s x → is_some (if b then Some 0 else option_map suc (symbol_in ds s x)) ≡ (b || is_bound ds s x)
  at true e = refl
  at false e = is_some-suc (symbol_in ds s x) ∙ e

-- a symbol more that is the first of its name has the last number
symbol-last : (ds : List Declared) (d : Declared) (n : ℕ) (y : Text) → is_bound ds n y ≡ false → is_symbol n y d ≡ true → symbol_in (ds ++ d ∷ []) n y ≡ Some (length ds)
symbol-last [] d n y e h = rw h refl
symbol-last (c ∷ ds) d n y e h = at (is_symbol n y c) refl (λ f. symbol-last ds d n y f h) where
  at : (b : Bool) → is_symbol n y c ≡ b → (is_bound ds n y ≡ false → symbol_in (ds ++ d ∷ []) n y ≡ Some (length ds)) → symbol_in (c ∷ (ds ++ d ∷ [])) n y ≡ Some (suc (length ds))
  at true f g = absurd (let no : true ≡ false = sym (ap (λ b. b || is_bound ds n y) f) ∙ e in cc)
  at false f g = rw (f, g (sym (ap (λ b. b || is_bound ds n y) f) ∙ e)) refl

-- one of another name leaves the number
symbol-kept : (ds : List Declared) (d : Declared) (n : ℕ) (y : Text) → is_symbol n y d ≡ false → symbol_in (ds ++ d ∷ []) n y ≡ symbol_in ds n y
symbol-kept [] d n y h = rw h refl
symbol-kept (c ∷ ds) d n y h = ap (λ o. if is_symbol n y c then Some 0 else option_map suc o) (symbol-kept ds d n y h)

eqb-sym : (m n : ℕ) → (m == n) ≡ (n == m)
eqb-sym m n = at (m == n) (n == m) refl refl where
  at : (b c : Bool) → (m == n) ≡ b → (n == m) ≡ c → b ≡ c
  at true true e f = refl
  at false false e f = refl
  at true false e f = absurd (eqb-false n m f (sym (eqb-true m n e)))
  at false true e f = absurd (eqb-false m n e (sym (eqb-true n m f)))

both : (b c : Bool) → (b && c) ≡ true → (b ≡ true) × (c ≡ true)
both true true e = (refl, refl)
both true false e = absurd (cc)
both false c e = absurd (cc)

-- the numbers with one more symbol, whose scope doesn't bind its name yet
pub symbol-more : (ds : List Declared) (s : ℕ) (x : Text) (b : Binding) → is_bound ds s x ≡ false → (n : ℕ) (y : Text) → symbol_in (ds ++ declared s x b ∷ []) n y ≡ (if n == s && bytes_eq x y then Some (length ds) else symbol_in ds n y)
symbol-more ds s x b e n y = at (s == n && bytes_eq x y) refl ∙ ap (λ c. if c && bytes_eq x y then Some (length ds) else symbol_in ds n y) (eqb-sym s n) where
  at : (c : Bool) → (s == n && bytes_eq x y) ≡ c → symbol_in (ds ++ declared s x b ∷ []) n y ≡ (if s == n && bytes_eq x y then Some (length ds) else symbol_in ds n y)
  at true f =
      let parts = both (s == n) (bytes_eq x y) f in
      let free : is_bound ds n y ≡ false = ap (λ m. is_bound ds m y) (sym (eqb-true s n parts.0)) ∙ (ap (λ z. is_bound ds s z) (sym ((bytes_decides x y).0 parts.1)) ∙ e) in
      rw f (symbol-last ds (declared s x b) n y free f)
  at false f = rw f (symbol-kept ds (declared s x b) n y f)

pub with_symbol-known : (ds : List Declared) (s : ℕ) (x : Text) (b : Binding) → is_bound ds s x ≡ true → with_symbol ds s x b ≡ ds
with_symbol-known ds s x b e = rw e refl

pub with_symbol-new : (ds : List Declared) (s : ℕ) (x : Text) (b : Binding) → is_bound ds s x ≡ false → with_symbol ds s x b ≡ ds ++ declared s x b ∷ []
with_symbol-new ds s x b e = rw e refl

-- WHAT A LOOK-UP SAYS

some_symbol : (o : Option SymbolId) → is_some (symbol o) ≡ is_some o
some_symbol None = refl
some_symbol (Some s) = refl

pub found-bound : (ds : List Declared) (s : ℕ) (x : Text) (o : Option SymbolId) → symbol o ≡ symbol_in ds s x → is_some o ≡ is_bound ds s x
found-bound ds s x o e = sym (some_symbol o) ∙ (ap is_some e ∙ symbol-bound ds s x)

-- `var` at a place inside the parameters of this scope
pub hoist_scope-parameter : (ds : List Declared) (p : Place) (x : Text) (s : ℕ) → p.parameters ≡ Some s → is_bound ds s x ≡ true → hoist_scope ds p x ≡ s
hoist_scope-parameter ds p x s e h = rw (e, h) refl

pub hoist_scope-free : (ds : List Declared) (p : Place) (x : Text) (s : ℕ) → p.parameters ≡ Some s → is_bound ds s x ≡ false → hoist_scope ds p x ≡ p.hoist
hoist_scope-free ds p x s e h = rw (e, h) refl
