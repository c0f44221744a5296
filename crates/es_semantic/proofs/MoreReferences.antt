-- References added to a table one after the other.
use Rattle.std.proofs.Common.{◌≡◌, ℕ, zero, suc, ◌+◌, ◌-◌, ◌<◌, ◌≤◌, ◌==◌, ltb, Bool, true, false, ◌||◌, if◌then◌else◌, Option, Some, None, List, [], ◌∷◌, ◌++◌, length, slice_get, refl, sym, ap, ◌∙◌, arith, ltb-true, ltb-false, lt-ltb, le-ltb, eqb-true, length-append}
use Rattle.std.proofs.lemmas.Bool.{eqb-false}
use Rattle.std.proofs.lemmas.List.Folds.{list_any-append}
use Rattle.std.proofs.lemmas.Option.{slice_get_past}
use Rattle.std.proofs.Math.Bool.{or_assoc, or-false}
use Rattle.std.specs.List.{list_any}
use Rattle.es_tree.specs.References.{Reference, writes_symbol}
use Rattle.es_scope.specs.TableChanges.{HasReferenceMore, SameScopes, SameSymbols, with_last}
use Rattle.es_scope.specs.Tables.{is_mutated, reference_at, reference_count}
use Rattle.es_scope.specs.declared.scoping.Scoping.{Scoping}
use Rattle.es_semantic.specs.Referring.{HasNames, HasReferencesMore, with_more}
use Rattle.es_semantic.specs.ScopesOf.{ScopeRow}
use Rattle.es_semantic.specs.SymbolsOf.{Declared}

-- LISTS

pub get_first : {X : Type 0} (xs ys : List X) (n : ℕ) → n < length xs → slice_get (xs ++ ys) n ≡ slice_get xs n
get_first [] ys n l = absurd (omega (arith, l))
get_first (x ∷ xs) ys zero l = refl
get_first (x ∷ xs) ys (suc n) l = get_first xs ys n (omega (arith, l))

pub get_later : {X : Type 0} (xs ys : List X) (n m : ℕ) → n ≡ length xs + m → slice_get (xs ++ ys) n ≡ slice_get ys m
get_later [] ys n m e = ap (slice_get ys) (omega (arith, e))
get_later (x ∷ xs) ys zero m e = absurd (omega (arith, e))
get_later (x ∷ xs) ys (suc n) m e = get_later xs ys n m (omega (arith, e))

-- NUMBERS

more_before : {X : Type 0} (count : ℕ) (xs : List X) (old : ℕ → Option X) (n : ℕ) → n < count → with_more count xs old n ≡ old n
more_before count xs old n l = rw (lt-ltb n count l) refl

pub more_from : {X : Type 0} (count : ℕ) (xs : List X) (old : ℕ → Option X) (n : ℕ) → count ≤ n → with_more count xs old n ≡ slice_get xs (n - count)
more_from count xs old n l = rw (le-ltb n count l) refl

-- those and then more
more_joined : {X : Type 0} (count mid : ℕ) (xs ys : List X) (old : ℕ → Option X) (n : ℕ) → mid ≡ count + length xs → with_more mid ys (with_more count xs old) n ≡ with_more count (xs ++ ys) old n
more_joined count mid xs ys old n e = at (ltb n count) (ltb n mid) refl refl where
  at : (b c : Bool) → ltb n count ≡ b → ltb n mid ≡ c → with_more mid ys (with_more count xs old) n ≡ with_more count (xs ++ ys) old n
  at true c f g =
      let l : n < count = ltb-true n count f in
      more_before mid ys (with_more count xs old) n (omega (arith, l, e)) ∙ (more_before count xs old n l ∙ sym (more_before count (xs ++ ys) old n l))
  at false true f g =
      let l : count ≤ n = ltb-false n count f in let h : n < mid = ltb-true n mid g in
      more_before mid ys (with_more count xs old) n h ∙ (more_from count xs old n l ∙ (sym (get_first xs ys (n - count) (omega (arith, l, h, e))) ∙ sym (more_from count (xs ++ ys) old n l)))
  at false false f g =
      let l : count ≤ n = ltb-false n count f in let h : mid ≤ n = ltb-false n mid g in
      more_from mid ys (with_more count xs old) n h ∙ (sym (get_later xs ys (n - count) (n - mid) (omega (arith, l, h, e))) ∙ sym (more_from count (xs ++ ys) old n l))

-- no more
more_none : {X : Type 0} (count : ℕ) (old : ℕ → Option X) (n : ℕ) → (count ≤ n → old n ≡ None) → with_more count [] old n ≡ old n
more_none count old n h = at (ltb n count) refl where
  at : (b : Bool) → ltb n count ≡ b → with_more count [] old n ≡ old n
  at true f = more_before count [] old n (ltb-true n count f)
  at false f = let l : count ≤ n = ltb-false n count f in more_from count [] old n l ∙ sym (h l)

-- one more
more_one : {X : Type 0} (count : ℕ) (x : X) (old : ℕ → Option X) (n : ℕ) → (count ≤ n → old n ≡ None) → with_last count x old n ≡ with_more count (x ∷ []) old n
more_one count x old n h = at (ltb n count) (n == count) refl refl where
  at : (b c : Bool) → ltb n count ≡ b → (n == count) ≡ c → (if c then Some x else old n) ≡ with_more count (x ∷ []) old n
  at true true f g = absurd (omega (arith, ltb-true n count f, eqb-true n count g))
  at true false f g = sym (more_before count (x ∷ []) old n (ltb-true n count f))
  at false true f g = let e = eqb-true n count g in let zero_left : n - count ≡ 0 = omega (arith, e) in sym (more_from count (x ∷ []) old n (omega (arith, e)) ∙ ap (slice_get (x ∷ [])) zero_left)
  at false false f g =
      let l : count ≤ n = ltb-false n count f in let ne : n ≡ count → ⊥ = eqb-false n count g in
      h l ∙ sym (more_from count (x ∷ []) old n l ∙ slice_get_past (x ∷ []) (n - count) (omega (arith, l, ne)))

-- TABLES

same_scopes-then : (a b c : Scoping) → SameScopes a b → SameScopes b c → SameScopes a c
same_scopes-then a b c f g = record { count = g.count ∙ f.count; parents = λ n. g.parents n ∙ f.parents n; flags = λ n. g.flags n ∙ f.flags n }

same_symbols-then : (a b c : Scoping) → SameSymbols a b → SameSymbols b c → SameSymbols a c
same_symbols-then a b c f g = record { count = g.count ∙ f.count; scopes = λ n. g.scopes n ∙ f.scopes n; flags = λ n. g.flags n ∙ f.flags n; names = λ n. g.names n ∙ f.names n }

past_none : (s : Scoping) (n : ℕ) → reference_count s ≤ n → reference_at s n ≡ None
past_none s n l = rw (slice_get_past s.references.items n l) refl

pub references_none : (s : Scoping) → HasReferencesMore s s []
references_none s = record {
  scopes = record { count = refl; parents = λ _. refl; flags = λ _. refl };
  bindings = λ _ _. refl;
  symbols = record { count = refl; scopes = λ _. refl; flags = λ _. refl; names = λ _. refl };
  mutated = λ n. sym (or-false (is_mutated s n));
  count = omega arith;
  references = λ n. sym (more_none (reference_count s) (reference_at s) n (past_none s n));
}

pub references_one : (old new : Scoping) (r : Reference) → HasReferenceMore old new r → HasReferencesMore old new (r ∷ [])
references_one old new r h = record {
  scopes = h.scopes;
  bindings = h.bindings;
  symbols = h.symbols;
  mutated = λ n. h.mutated n ∙ ap (λ b. is_mutated old n || b) (sym (or-false (writes_symbol n r)));
  count = h.count;
  references = λ n. h.references n ∙ more_one (reference_count old) r (reference_at old) n (past_none old n);
}

with_more-old : {X : Type 0} (count : ℕ) (xs : List X) (old old' : ℕ → Option X) (n : ℕ) → old n ≡ old' n → with_more count xs old n ≡ with_more count xs old' n
with_more-old count xs old old' n e = ap (λ o. if ltb n count then o else slice_get xs (n - count)) e

pub references_then : (a b c : Scoping) (xs ys : List Reference) → HasReferencesMore a b xs → HasReferencesMore b c ys → HasReferencesMore a c (xs ++ ys)
references_then a b c xs ys f g = record {
  scopes = same_scopes-then a b c f.scopes g.scopes;
  bindings = λ n x. g.bindings n x ∙ f.bindings n x;
  symbols = same_symbols-then a b c f.symbols g.symbols;
  mutated = λ n. g.mutated n ∙ (ap (λ o. o || list_any (writes_symbol n) ys) (f.mutated n) ∙ (or_assoc (is_mutated a n) (list_any (writes_symbol n) xs) (list_any (writes_symbol n) ys) ∙ ap (λ o. is_mutated a n || o) (sym (list_any-append (writes_symbol n) xs ys))));
  count = omega (arith, f.count, g.count, length-append xs ys);
  references = λ n. g.references n ∙ (with_more-old (reference_count b) ys (reference_at b) (with_more (reference_count a) xs (reference_at a)) n (f.references n) ∙ more_joined (reference_count a) (reference_count b) xs ys (reference_at a) n f.count);
}

-- the names stay
pub names_kept : (rows : List ScopeRow) (ds : List Declared) (old new : Scoping) (more : List Reference) → HasReferencesMore old new more → HasNames rows ds old → HasNames rows ds new
names_kept rows ds old new more h k = record {
  all_scopes = h.scopes.count ∙ k.all_scopes;
  parents = λ n. h.scopes.parents n ∙ k.parents n;
  flags = λ n. h.scopes.flags n ∙ k.flags n;
  bindings = λ n x. h.bindings n x ∙ k.bindings n x;
  all_symbols = h.symbols.count ∙ k.all_symbols;
  symbol_scopes = λ n. h.symbols.scopes n ∙ k.symbol_scopes n;
  symbol_flags_are = λ n. h.symbols.flags n ∙ k.symbol_flags_are n;
}
