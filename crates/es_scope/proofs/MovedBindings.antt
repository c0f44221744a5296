-- The bindings and the symbols of a table after a binding is moved to another scope.
use Rattle.std.proofs.Common.{◌≡◌, ℕ, zero, suc, ◌<◌, ◌==◌, ◌&&◌, Bool, true, false, if◌then◌else◌, Option, Some, None, List, [], ◌∷◌, length, get_or, set, option_map, slice_get, unwrap_or, bytes_eq, string_bytes, Result, Ok, Err, OnOk, OnErr, Vec, refl, sym, ap, ◌∙◌, arith}
use Rattle.std.proofs.lemmas.Bool.{eqb-false, eqb-true}
use Rattle.std.proofs.lemmas.Option.{slice_get_read}
use Rattle.std.specs.Cmp.Lexicographic.{bytes_decides}
use Rattle.es_tree.specs.Words.{Text}
use Rattle.es_scope.specs.Bindings.{AreBound, IsBoundAs, bound_in, name_in, place_in}
use Rattle.es_scope.specs.Mutations.{mutated_in}
use Rattle.es_scope.specs.Outwards.{SameShape}
use Rattle.es_scope.specs.Places.{AreInTable, AreInUse}
use Rattle.es_scope.specs.TableChanges.{SameNames}
use Rattle.es_scope.specs.TableSettings.{MovesBinding, moved}
use Rattle.es_scope.specs.Tables.{binding_in, called, symbol_count}
use Rattle.es_scope.specs.Uids.{uses}
use Rattle.es_scope.specs.declared.ancestor.Place.{Place}
use Rattle.es_scope.specs.declared.uids.UidGenerator.{UidGenerator}
use Rattle.es_scope.specs.declared.scoping.Scope.{Scope}
use Rattle.es_scope.specs.declared.scoping.Scoping.{Scoping}
use Rattle.es_scope.specs.declared.scoping.Symbol.{Symbol}
use Rattle.es_scope.proofs.ChangedItems.{get_changed, get_other, length_changed, said_set}
use Rattle.es_scope.proofs.TableSettings.{alike, mutated_alike}
use Rattle.es_scope.proofs.TableSteps.{same_references, same_shapes}

-- a name taken out of one scope after it is bound in another
pub as_moved : (f t b : Bool) (s o : Option ℕ) → (if f && b then None else if t && b then s else o) ≡ (if b then (if f then None else if t then s else o) else o)
as_moved true t true s o = refl
as_moved true true false s o = refl
as_moved true false false s o = refl
as_moved false true true s o = refl
as_moved false false true s o = refl
as_moved false true false s o = refl
as_moved false false false s o = refl

-- the same shape through two changes
pub shape_then : (a b c : List Scope) → SameShape a b → SameShape b c → SameShape a c
shape_then a b c f g = record { count = g.count ∙ f.count; parents = λ n. g.parents n ∙ f.parents n; flags = λ n. g.flags n ∙ f.flags n }

-- the bindings after a name was moved in vain
pub bound_unmoved : (old new : List Scope) (symbols : List Symbol) → ((n : ℕ) (x : Text) → bound_in new n x ≡ bound_in old n x) → AreBound old symbols → AreBound new symbols
bound_unmoved old new symbols same h = λ n x m e. h n x m (sym (same n x) ∙ e)

module _ (old new : List Scope) (symbols : List Symbol) (from to i : ℕ) (name : Text) (c d : Symbol) (l : i < length symbols) (is : d ≡ get_or symbols i d) (same : c.name ≡ d.name) (there : c.scope.0 ≡ to) (its : name ≡ string_bytes d.name) (stood : bound_in old from name ≡ Some i) (all : AreBound old symbols) where
  -- a binding of another symbol
  other_bound : (n : ℕ) (x : Text) (m : ℕ) → (m ≡ i → ⊥) → IsBoundAs symbols n x m → IsBoundAs (set symbols i c) n x m
  other_bound n x m other h = record {
    place = ap (option_map (λ b. b.scope.0)) (get_other symbols i c m other) ∙ h.place;
    called = ap (option_map (λ b. string_bytes b.name)) (get_other symbols i c m other) ∙ h.called;
  }

  -- this symbol was bound so alone
  alone : (n : ℕ) (x : Text) (m : ℕ) → IsBoundAs symbols n x m → m ≡ i → (n ≡ from) × (name ≡ x)
  alone n x m h e =
      let was = all from name i stood in
      let place : Some n ≡ Some from = sym h.place ∙ (ap (place_in symbols) e ∙ was.place) in
      let called : Some name ≡ Some x = sym was.called ∙ (ap (name_in symbols) (sym e) ∙ h.called) in
      (cc, cc)

  pub bound_moved : ((n : ℕ) (x : Text) → bound_in new n x ≡ moved from to name i (bound_in old) n x) → AreBound new (set symbols i c)
  bound_moved h = λ n x m e. at n x m (bytes_eq name x) (n == from) (n == to) refl refl refl (sym (h n x) ∙ e) where
    at : (n : ℕ) (x : Text) (m : ℕ) (b f t : Bool) → bytes_eq name x ≡ b → (n == from) ≡ f → (n == to) ≡ t → (if b then (if f then None else if t then Some i else bound_in old n x) else bound_in old n x) ≡ Some m → IsBoundAs (set symbols i c) n x m
    at n x m true true t p q r e = absurd (cc)
    at n x m true false true p q r e =
        let number : m ≡ i = cc in
        let here : slice_get (set symbols i c) m ≡ Some c = get_changed symbols i c m l number in
        record {
          place = ap (option_map (λ b. b.scope.0)) here ∙ ap Some (there ∙ sym (eqb-true n to r));
          called = ap (option_map (λ b. string_bytes b.name)) here ∙ ap Some (ap string_bytes same ∙ (sym its ∙ (bytes_decides name x).0 p));
        }
    at n x m true false false p q r e = let was = all n x m e in other_bound n x m (λ g. eqb-false n from q (alone n x m was g).0) was
    at n x m false f t p q r e = let was = all n x m e in other_bound n x m (λ g. absurd (let no : true ≡ false = sym ((bytes_decides name x).1 (alone n x m was g).1) ∙ p in cc)) was

pub binding_moved : (old new : Scoping) (from to i : ℕ) (c d : Symbol) → i < symbol_count old → d ≡ get_or old.symbols.items i d → c.name ≡ d.name → c.flags ≡ d.flags → c.mutated ≡ d.mutated → c.scope.0 ≡ to → SameShape old.scopes.items new.scopes.items → ((n : ℕ) (x : Text) → bound_in new.scopes.items n x ≡ moved from to (called old i) i (bound_in old.scopes.items) n x) → new.symbols.items ≡ set old.symbols.items i c → new.references.items ≡ old.references.items → MovesBinding old new from to i
binding_moved old new from to i c d l is x f m s shape b t r = record {
  scopes = same_shapes old new shape;
  bindings = b;
  count = ap length t ∙ length_changed old.symbols.items i c;
  symbol_scopes = λ n. ap (λ bs. option_map (λ k. k.scope.0) (slice_get bs n)) t ∙ said_set (λ o. option_map (λ k. k.scope.0) o) old.symbols.items i c to n l (ap Some s);
  symbol_flags = λ n. ap (λ bs. option_map (λ k. k.flags) (slice_get bs n)) t ∙ alike old.symbols.items i c d l is (λ k. k.flags) f n;
  symbol_names = λ n. ap (λ bs. option_map (λ k. string_bytes k.name) (slice_get bs n)) t ∙ alike old.symbols.items i c d l is (λ k. string_bytes k.name) (ap string_bytes x) n;
  mutated = λ n. ap (λ bs. mutated_in bs n) t ∙ mutated_alike old.symbols.items i c d l is m n;
  references = same_references old new r;
}

-- the name of a symbol that was read
pub called_read : (s : Scoping) (i : ℕ) (d : Symbol) → i < symbol_count s → d ≡ get_or s.symbols.items i d → called s i ≡ string_bytes d.name
called_read s i d l is = ap (λ o. unwrap_or (option_map (λ b. string_bytes b.name) o) []) (slice_get_read s.symbols.items (length s.symbols.items) i d refl l is)

-- a binding stands in a scope of the table
pub bound_there : (scopes : List Scope) (n : ℕ) (x : Text) (m : ℕ) → bound_in scopes n x ≡ Some m → n < length scopes
bound_there [] n x m e = absurd (cc)
bound_there (c ∷ cs) zero x m e = omega arith
bound_there (c ∷ cs) (suc n) x m e = omega (arith, bound_there cs n x m e)

-- IN A CONTEXT

-- the names that are bound stay in use, and the scopes of places stay of the table, whether the binding was moved or not
pub in_use_moved : {A E : Type 0} (r : Result A E) (old new : Scoping) (uids : UidGenerator) (from to i : ℕ) → OnOk r (MovesBinding old new from to i) → OnErr r (SameNames old new) → binding_in old from (called old i) ≡ Some i → AreInUse old uids → AreInUse new uids
in_use_moved (Err e) old new uids from to i on same stood h = λ n x m g. h n x m (sym (same.bindings n x) ∙ g)
in_use_moved (Ok a) old new uids from to i m err stood h = λ n x k g. at n x k (bytes_eq (called old i) x) refl (sym (m.bindings n x) ∙ g) where
  at : (n : ℕ) (x : Text) (k : ℕ) (b : Bool) → bytes_eq (called old i) x ≡ b → moved from to (called old i) i (binding_in old) n x ≡ Some k → uses uids x ≡ true
  at n x k true p g = ap (uses uids) (sym ((bytes_decides (called old i) x).0 p)) ∙ h from (called old i) i stood
  at n x k false p g = h n x k (rw p at g)

pub in_table_moved : {A E X : Type 0} (r : Result A E) (old new : Scoping) (places : Vec Place X) (from to i : ℕ) → OnOk r (MovesBinding old new from to i) → OnErr r (SameNames old new) → AreInTable places old → AreInTable places new
in_table_moved (Err e) old new places from to i on same h = λ n p e'. omega (arith, h n p e', same.scopes)
in_table_moved (Ok a) old new places from to i m err h = λ n p e. omega (arith, h n p e, m.scopes.count)
