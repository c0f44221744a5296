-- The parts of a table after one scope, one binding or one reference more.
use Rattle.std.proofs.Common.{◌≡◌, ℕ, zero, suc, ◌+◌, ◌<◌, ◌==◌, ◌&&◌, Bool, true, false, if◌then◌else◌, Option, Some, None, List, [], ◌∷◌, ◌++◌, length, option_map, option_and_then, slice_get, unwrap_or, bytes_eq, string_bytes, Result, Ok, Err, OnOk, OnErr, refl, sym, ap, subst, ◌∙◌, arith, length-append}
use Rattle.std.proofs.lemmas.Bool.{and_parts, eqb-true}
use Rattle.std.specs.Cmp.Lexicographic.{bytes_decides}
use Rattle.es_tree.specs.Heads.{scope}
use Rattle.es_tree.specs.Words.{Text}
use Rattle.es_tree.specs.declared.ids.ScopeId.{ScopeId}
use Rattle.es_scope.specs.Bindings.{AreBound, IsBoundAs, bound_in}
use Rattle.es_scope.specs.Mutations.{AreWritten}
use Rattle.es_scope.specs.Numbers.{numbers}
use Rattle.es_scope.specs.Outwards.{AreOutwards, SameShape, parent_in}
use Rattle.es_scope.specs.PlainReferences.{plain_reference}
use Rattle.es_scope.specs.TableChanges.{SameReferences, SameScopes, SameSymbols, HasBindingMore, HasScopeMore}
use Rattle.es_scope.specs.declared.scoping.Reference.{Reference}
use Rattle.es_scope.specs.declared.scoping.Scope.{Scope}
use Rattle.es_scope.specs.declared.scoping.Scoping.{Scoping}
use Rattle.es_scope.specs.declared.scoping.Symbol.{Symbol}
use Rattle.es_scope.proofs.Lasts.{get_kept, get_last, said_within, with_last-map, unsaid_last}
use Rattle.es_scope.proofs.Outward.{outwards-more, outwards-same}

pub same_scopes : (old new : Scoping) → new.scopes.items ≡ old.scopes.items → SameScopes old new
same_scopes old new e = record {
  count = ap length e;
  parents = λ n. ap (λ cs. option_and_then (λ c. scope c.parent) (slice_get cs n)) e;
  flags = λ n. ap (λ cs. option_map (λ c. c.flags) (slice_get cs n)) e;
}

pub same_symbols : (old new : Scoping) → new.symbols.items ≡ old.symbols.items → SameSymbols old new
same_symbols old new e = record {
  count = ap length e;
  scopes = λ n. ap (λ bs. option_map (λ b. b.scope.0) (slice_get bs n)) e;
  flags = λ n. ap (λ bs. option_map (λ b. b.flags) (slice_get bs n)) e;
  names = λ n. ap (λ bs. option_map (λ b. string_bytes b.name) (slice_get bs n)) e;
}

pub same_references : (old new : Scoping) → new.references.items ≡ old.references.items → SameReferences old new
same_references old new e = record {
  count = ap length e;
  each = λ n. ap (λ rs. option_map plain_reference (slice_get rs n)) e;
}

pub one_more : {X : Type 0} (xs : List X) (y : X) → length (xs ++ y ∷ []) ≡ length xs + 1
one_more xs y = omega (arith, length-append xs (y ∷ []))

-- ONE SCOPE MORE

-- the table of one scope that binds nothing
pub unbound_alone : (c : Scope) → c.bindings.entries ≡ [] → (n : ℕ) (x : Text) → bound_in (c ∷ []) n x ≡ None
unbound_alone c e zero x = rw e refl
unbound_alone c e (suc n) x = refl

pub bound_alone : (c : Scope) → c.bindings.entries ≡ [] → AreBound (c ∷ []) []
bound_alone c e = λ n x m f. absurd (let no : bound_in (c ∷ []) n x ≡ None = unbound_alone c e n x in cc)

-- what a scope that binds nothing says of a name
pub binds_nothing : (scopes : List Scope) (c : Scope) → c.bindings.entries ≡ [] → (n : ℕ) (x : Text) → bound_in (scopes ++ c ∷ []) n x ≡ bound_in scopes n x
binds_nothing scopes c e n x = unsaid_last (λ o. option_and_then (λ d. numbers d.bindings x) o) scopes c n (rw e refl)

pub scope_more : (old new : Scoping) (c : Scope) (parent : ScopeId) → c.parent ≡ Some parent → c.bindings.entries ≡ [] → new.scopes.items ≡ old.scopes.items ++ c ∷ [] → new.symbols.items ≡ old.symbols.items → new.references.items ≡ old.references.items → HasScopeMore old new parent.0 c.flags
scope_more old new c parent p e s t r = record {
  count = ap length s ∙ one_more old.scopes.items c;
  parents = λ n. ap (λ cs. option_and_then (λ d. scope d.parent) (slice_get cs n)) s ∙ with_last-map (λ o. option_and_then (λ d. scope d.parent) o) old.scopes.items c parent.0 n (ap scope p);
  flags_are = λ n. ap (λ cs. option_map (λ d. d.flags) (slice_get cs n)) s ∙ with_last-map (λ o. option_map (λ d. d.flags) o) old.scopes.items c c.flags n refl;
  bindings = λ n x. ap (λ cs. bound_in cs n x) s ∙ binds_nothing old.scopes.items c e n x;
  symbols = same_symbols old new t;
  mutated = λ n. ap (λ bs. unwrap_or (option_map (λ b. b.mutated) (slice_get bs n)) false) t;
  references = same_references old new r;
}

-- the order after a push that may fail
pub outwards_pushed : (old new : List Scope) (c : Scope) (parent : ScopeId) (b : Bool) → c.parent ≡ Some parent → parent.0 < length old → new ≡ (if b then old ++ c ∷ [] else old) → AreOutwards old → AreOutwards new
outwards_pushed old new c parent true p l s o = outwards-more old new parent.0 l (ap length s ∙ one_more old c) (λ n. ap (λ cs. parent_in cs n) s ∙ with_last-map (λ q. option_and_then (λ d. scope d.parent) q) old c parent.0 n (ap scope p)) o
outwards_pushed old new c parent false p l s o = subst AreOutwards (sym s) o

-- the bindings after a push that may fail
pub bound_pushed : (old new : List Scope) (symbols : List Symbol) (c : Scope) (b : Bool) → c.bindings.entries ≡ [] → new ≡ (if b then old ++ c ∷ [] else old) → AreBound old symbols → AreBound new symbols
bound_pushed old new symbols c true e s h = λ n x m f. h n x m (sym (binds_nothing old c e n x) ∙ (ap (λ cs. bound_in cs n x) (sym s) ∙ f))
bound_pushed old new symbols c false e s h = λ n x m f. h n x m (ap (λ cs. bound_in cs n x) (sym s) ∙ f)

-- a binding's symbol is of the table
pub bound_within : (scopes : List Scope) (symbols : List Symbol) → AreBound scopes symbols → (n : ℕ) (x : Text) (m : ℕ) → bound_in scopes n x ≡ Some m → m < length symbols
bound_within scopes symbols h n x m e = said_within (λ b. b.scope.0) symbols m n (h n x m e).place

-- ONE BINDING MORE

-- what is said of an item that is there is said of it with one item more
pub said_still : {X B : Type 0} (f : X → B) (xs : List X) (y : X) (n : ℕ) (z : B) → option_map f (slice_get xs n) ≡ Some z → option_map f (slice_get (xs ++ y ∷ []) n) ≡ Some z
said_still {X = X} f xs y n z e = at (slice_get xs n) refl where
  at : (o : Option X) → slice_get xs n ≡ o → option_map f (slice_get (xs ++ y ∷ []) n) ≡ Some z
  at None g = absurd (let no : option_map f (slice_get xs n) ≡ None = ap (option_map f) g in cc)
  at (Some w) g = ap (option_map f) (get_kept xs y w n g) ∙ (sym (ap (option_map f) g) ∙ e)

-- a symbol of the table stays what it is with one symbol more
pub bound_still : (symbols : List Symbol) (s : Symbol) (scope : ℕ) (name : Text) (m : ℕ) → IsBoundAs symbols scope name m → IsBoundAs (symbols ++ s ∷ []) scope name m
bound_still symbols s scope name m h = record {
  place = said_still (λ b. b.scope.0) symbols s m scope h.place;
  called = said_still (λ b. string_bytes b.name) symbols s m name h.called;
}

-- the bindings with one symbol more that isn't bound
pub bound_more : (old new : List Scope) (symbols : List Symbol) (s : Symbol) → ((n : ℕ) (x : Text) → bound_in new n x ≡ bound_in old n x) → AreBound old symbols → AreBound new (symbols ++ s ∷ [])
bound_more old new symbols s same h = λ n x m f. bound_still symbols s n x m (h n x m (sym (same n x) ∙ f))

-- the bindings with one symbol more, which is bound
pub bound_added : (old new : List Scope) (symbols : List Symbol) (s : Symbol) (name : Text) → string_bytes s.name ≡ name → ((n : ℕ) (x : Text) → bound_in new n x ≡ (if n == s.scope.0 && bytes_eq name x then Some (length symbols) else bound_in old n x)) → AreBound old symbols → AreBound new (symbols ++ s ∷ [])
bound_added old new symbols s name is added h = λ n x m f. at n x m (n == s.scope.0 && bytes_eq name x) refl (sym (added n x) ∙ f) where
  at : (n : ℕ) (x : Text) (m : ℕ) (b : Bool) → (n == s.scope.0 && bytes_eq name x) ≡ b → (if n == s.scope.0 && bytes_eq name x then Some (length symbols) else bound_in old n x) ≡ Some m → IsBoundAs (symbols ++ s ∷ []) n x m
  at n x m true g f =
      let same : Some (length symbols) ≡ Some m = rw g at f in
      let number : m ≡ length symbols = cc in
      let parts = and_parts (n == s.scope.0) (bytes_eq name x) g in
      let there : slice_get (symbols ++ s ∷ []) m ≡ Some s = get_last symbols s m number in
      record {
        place = ap (option_map (λ b. b.scope.0)) there ∙ ap Some (sym (eqb-true n s.scope.0 parts.0));
        called = ap (option_map (λ b. string_bytes b.name)) there ∙ ap Some (is ∙ (bytes_decides name x).0 parts.1);
      }
  at n x m false g f = bound_still symbols s n x m (h n x m (rw g at f))

-- the bindings after a symbol more and a name bound to it, which may fail: in scopes that were lent, and are written back
pub bound_named : {A E : Type 0} (r : Result A E) (old lent ended new : List Scope) (symbols : List Symbol) (s : Symbol) (key : Text) (k : ℕ) → lent ≡ old → new ≡ ended → k ≡ length symbols → key ≡ string_bytes s.name →
    OnOk r ((n : ℕ) (x : Text) → bound_in ended n x ≡ (if n == s.scope.0 && bytes_eq key x then Some k else bound_in lent n x)) → OnErr r ((n : ℕ) (x : Text) → bound_in ended n x ≡ bound_in lent n x) →
    AreBound old symbols → AreBound new (symbols ++ s ∷ [])
bound_named (Ok a) old lent ended new symbols s key k l w is c added err h =
    bound_added old new symbols s key (sym c) (λ n x. ap (λ cs. bound_in cs n x) w ∙ (added n x ∙ (ap (λ m. if n == s.scope.0 && bytes_eq key x then Some m else bound_in lent n x) is ∙ ap (λ cs. if n == s.scope.0 && bytes_eq key x then Some (length symbols) else bound_in cs n x) l))) h
bound_named (Err e) old lent ended new symbols s key k l w is c added same h = bound_more old new symbols s (λ n x. ap (λ cs. bound_in cs n x) w ∙ (same n x ∙ ap (λ cs. bound_in cs n x) l)) h

-- the order after scopes were lent, and written back in the same shape
pub outwards_lent : (old lent ended new : List Scope) → lent ≡ old → new ≡ ended → SameShape lent ended → AreOutwards old → AreOutwards new
outwards_lent old lent ended new l w h = outwards-same old new (ap length w ∙ (h.count ∙ ap length l)) (λ n. ap (λ cs. parent_in cs n) w ∙ (h.parents n ∙ ap (λ cs. parent_in cs n) l))

-- a symbol more that nothing writes
pub written_more : (symbols : List Symbol) (s : Symbol) (references : List Reference) → s.mutated ≡ false → AreWritten symbols references → AreWritten (symbols ++ s ∷ []) references
written_more symbols s references m h = λ n. unsaid_last (λ o. unwrap_or (option_map (λ d. d.mutated) o) false) symbols s n m ∙ h n

pub same_shapes : (old new : Scoping) → SameShape old.scopes.items new.scopes.items → SameScopes old new
same_shapes old new h = record { count = h.count; parents = h.parents; flags = h.flags }

pub binding_more : (old new : Scoping) (symbol : Symbol) (name : Text) → symbol.mutated ≡ false → string_bytes symbol.name ≡ name → SameShape old.scopes.items new.scopes.items → ((n : ℕ) (x : Text) → bound_in new.scopes.items n x ≡ (if n == symbol.scope.0 && bytes_eq name x then Some (length old.symbols.items) else bound_in old.scopes.items n x)) → new.symbols.items ≡ old.symbols.items ++ symbol ∷ [] → new.references.items ≡ old.references.items → HasBindingMore old new symbol.scope.0 name symbol.flags
binding_more old new symbol name m is h b s r = record {
  scopes = same_shapes old new h;
  bindings = b;
  count = ap length s ∙ one_more old.symbols.items symbol;
  symbol_scopes = λ n. ap (λ bs. option_map (λ d. d.scope.0) (slice_get bs n)) s ∙ with_last-map (λ o. option_map (λ d. d.scope.0) o) old.symbols.items symbol symbol.scope.0 n refl;
  symbol_flags = λ n. ap (λ bs. option_map (λ d. d.flags) (slice_get bs n)) s ∙ with_last-map (λ o. option_map (λ d. d.flags) o) old.symbols.items symbol symbol.flags n refl;
  symbol_names = λ n. ap (λ bs. option_map (λ d. string_bytes d.name) (slice_get bs n)) s ∙ with_last-map (λ o. option_map (λ d. string_bytes d.name) o) old.symbols.items symbol name n (ap Some is);
  mutated = λ n. ap (λ bs. unwrap_or (option_map (λ d. d.mutated) (slice_get bs n)) false) s ∙ unsaid_last (λ o. unwrap_or (option_map (λ d. d.mutated) o) false) old.symbols.items symbol n m;
  references = same_references old new r;
}
