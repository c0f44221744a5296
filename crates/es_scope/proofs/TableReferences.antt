-- The symbols and references of a table after one reference more, and after other flags of one.
use Rattle.std.proofs.Common.{◌≡◌, ℕ, zero, suc, ◌<◌, ◌==◌, ◌||◌, ◌&&◌, Bool, true, false, if◌then◌else◌, Option, Some, None, List, [], ◌∷◌, ◌++◌, length, option_map, option_and_then, get_or, set, slice_get, unwrap_or, string_bytes, refl, sym, ap, ◌∙◌, arith}
use mathlib.Core.Bool.{beq}
use Rattle.std.proofs.lemmas.Bool.{eq-eqb, eqb-false, eqb-true}
use Rattle.std.proofs.lemmas.Option.{slice_get_read}
use Rattle.std.proofs.lemmas.List.Folds.{list_any-append}
use Rattle.std.specs.List.{list_any}
use Rattle.std.specs.Option.{ForSome}
use Rattle.es_tree.specs.Heads.{symbol}
use Rattle.es_tree.specs.References.{is_symbol}
use Rattle.es_tree.specs.declared.ids.SymbolId.{SymbolId}
use Rattle.es_scope.specs.Bindings.{AreBound, bound_in}
use Rattle.es_scope.specs.Mutations.{AreReferring, AreWritten, mutated_by, mutated_in, referred_in, writes}
use Rattle.es_scope.specs.PlainReferences.{plain_reference}
use Rattle.es_scope.specs.TableChanges.{HasReferenceMore, SameBindings, SameScopes, SameSymbols, with_last}
use Rattle.es_scope.specs.TableSettings.{SetsReferenceFlags, with_flags}
use Rattle.es_scope.specs.Tables.{reference_count}
use Rattle.es_scope.specs.declared.flags.ReferenceFlags.{ReferenceFlags}
use Rattle.es_scope.specs.declared.scoping.Reference.{Reference}
use Rattle.es_scope.specs.declared.scoping.Scope.{Scope}
use Rattle.es_scope.specs.declared.scoping.Scoping.{Scoping}
use Rattle.es_scope.specs.declared.scoping.Symbol.{Symbol}
use Rattle.es_scope.proofs.ChangedItems.{get_changed, get_other, length_changed, said_same}
use Rattle.es_scope.proofs.Lasts.{slice_get-last, with_last-map}
use Rattle.es_scope.proofs.TableSteps.{one_more, same_scopes}

and_false : (b : Bool) → (b && false) ≡ false
and_false true = refl
and_false false = refl

-- a test of two numbers, turned
pub eqb_turned : (n m : ℕ) → (n == m) ≡ false → (m == n) ≡ false
eqb_turned n m e = at (m == n) refl where
  at : (b : Bool) → (m == n) ≡ b → b ≡ false
  at true g = absurd (eqb-false n m e (sym (eqb-true m n g)))
  at false g = refl

pub or_false : (b : Bool) → (b || false) ≡ b
or_false true = refl
or_false false = refl

-- the symbol of a reference is of the table
pub symbol_known : (o : Option SymbolId) (count : ℕ) → ForSome o (λ s. s.0 < count) → (m : ℕ) → symbol o ≡ Some m → m < count
symbol_known None count h m e = absurd (cc)
symbol_known (Some s) count h m e = let same : s.0 ≡ m = cc in omega (arith, h s refl, same)

-- a reference to a symbol of the table writes no other number
unwritten_past : (r : Reference) (count n : ℕ) → ((m : ℕ) → symbol r.symbol ≡ Some m → m < count) → (n < count → ⊥) → writes n r ≡ false
unwritten_past r count n known past = at (symbol r.symbol) refl where
  at : (o : Option ℕ) → symbol r.symbol ≡ o → (r.flags.write && is_symbol n o) ≡ false
  at None e = and_false r.flags.write
  at (Some m) e = other (m == n) refl where
    other : (b : Bool) → (m == n) ≡ b → (r.flags.write && b) ≡ false
    other true g = absurd (past (omega (arith, known m e, eqb-true m n g)))
    other false g = and_false r.flags.write

-- where there is no item the list has ended
none_past : {X : Type 0} (xs : List X) (n : ℕ) → slice_get xs n ≡ None → n < length xs → ⊥
none_past [] n e l = omega (arith, l)
none_past (x ∷ xs) zero e l = cc
none_past (x ∷ xs) (suc n) e l = none_past xs n e (omega (arith, l))

-- ONE REFERENCE MORE

-- symbols after it is noted that this reference may write them
module _ (old new : List Symbol) (r : Reference) (noted : (n : ℕ) → slice_get new n ≡ option_map (mutated_by (writes n r)) (slice_get old n)) where
  -- all else of a symbol stays
  pub noted-else : {B : Type 0} (f : Symbol → B) → ((s : Symbol) (b : Bool) → f (mutated_by b s) ≡ f s) → (n : ℕ) → option_map f (slice_get new n) ≡ option_map f (slice_get old n)
  noted-else f same n = ap (option_map f) (noted n) ∙ at (slice_get old n) where
    at : (o : Option Symbol) → option_map f (option_map (mutated_by (writes n r)) o) ≡ option_map f o
    at None = refl
    at (Some s) = ap Some (same s (writes n r))

  pub noted-written : ((m : ℕ) → symbol r.symbol ≡ Some m → m < length old) → (n : ℕ) → mutated_in new n ≡ (mutated_in old n || writes n r)
  noted-written known n = ap (λ o. unwrap_or (option_map (λ b. b.mutated) o) false) (noted n) ∙ at (slice_get old n) refl where
    at : (o : Option Symbol) → slice_get old n ≡ o → unwrap_or (option_map (λ b. b.mutated) (option_map (mutated_by (writes n r)) o)) false ≡ (unwrap_or (option_map (λ b. b.mutated) o) false || writes n r)
    at None e = sym (unwritten_past r (length old) n known (none_past old n e))
    at (Some s) e = refl

pub bound_noted : (scopes : List Scope) (old new : List Symbol) (r : Reference) → ((n : ℕ) → slice_get new n ≡ option_map (mutated_by (writes n r)) (slice_get old n)) → AreBound scopes old → AreBound scopes new
bound_noted scopes old new r noted h = λ n x m e. record {
  place = noted-else old new r noted (λ b. b.scope.0) (λ s b. refl) m ∙ (h n x m e).place;
  called = noted-else old new r noted (λ b. string_bytes b.name) (λ s b. refl) m ∙ (h n x m e).called;
}

pub written_noted : (old new : List Symbol) (references : List Reference) (r : Reference) → ((n : ℕ) → slice_get new n ≡ option_map (mutated_by (writes n r)) (slice_get old n)) → ((m : ℕ) → symbol r.symbol ≡ Some m → m < length old) → AreWritten old references → AreWritten new (references ++ r ∷ [])
written_noted old new references r noted known h = λ n.
    noted-written old new r noted known n ∙
    (ap (λ b. b || writes n r) (h n) ∙
    sym (list_any-append (writes n) references (r ∷ []) ∙ ap (λ b. list_any (writes n) references || b) (or_false (writes n r))))

pub referring_more : (references : List Reference) (old new : List Symbol) (r : Reference) → length new ≡ length old → ((m : ℕ) → symbol r.symbol ≡ Some m → m < length old) → AreReferring references old → AreReferring (references ++ r ∷ []) new
referring_more references old new r l known h = λ n m e. at n m (n == length references) refl (sym (ap (λ o. option_and_then (λ q. symbol q.symbol) o) (slice_get-last references r n)) ∙ e) where
  at : (n m : ℕ) (b : Bool) → (n == length references) ≡ b → option_and_then (λ q. symbol q.symbol) (with_last (length references) r (slice_get references) n) ≡ Some m → m < length new
  at n m true g e = let d : symbol r.symbol ≡ Some m = rw g at e in omega (arith, known m d, l)
  at n m false g e = let d : referred_in references n ≡ Some m = rw g at e in omega (arith, h n m d, l)

pub reference_more : (old new : Scoping) (r : Reference) → new.scopes.items ≡ old.scopes.items → length new.symbols.items ≡ length old.symbols.items → ((n : ℕ) → slice_get new.symbols.items n ≡ option_map (mutated_by (writes n r)) (slice_get old.symbols.items n)) → ((m : ℕ) → symbol r.symbol ≡ Some m → m < length old.symbols.items) → new.references.items ≡ old.references.items ++ r ∷ [] → HasReferenceMore old new (plain_reference r)
reference_more old new r s l noted known e = record {
  scopes = same_scopes old new s;
  bindings = λ n x. ap (λ cs. bound_in cs n x) s;
  symbols = record {
    count = l;
    scopes = noted-else old.symbols.items new.symbols.items r noted (λ b. b.scope.0) (λ b w. refl);
    flags = noted-else old.symbols.items new.symbols.items r noted (λ b. b.flags) (λ b w. refl);
    names = noted-else old.symbols.items new.symbols.items r noted (λ b. string_bytes b.name) (λ b w. refl);
  };
  mutated = noted-written old.symbols.items new.symbols.items r noted known;
  count = ap length e ∙ one_more old.references.items r;
  references = λ n. ap (λ rs. option_map plain_reference (slice_get rs n)) e ∙ with_last-map (λ o. option_map plain_reference o) old.references.items r (plain_reference r) n refl;
}

-- OTHER FLAGS OF ONE REFERENCE

-- two reads of one item
pub read_twice : {X : Type 0} (xs : List X) (i : ℕ) (b d : X) → i < length xs → b ≡ get_or xs i b → d ≡ get_or xs i d → b ≡ d
read_twice xs i b d l f g =
    let one = slice_get_read xs (length xs) i b refl l f in
    let two = slice_get_read xs (length xs) i d refl l g in
    let both : Some b ≡ Some d = sym one ∙ two in cc

pub alike_tests : (a b : Bool) → beq a b ≡ true → a ≡ b
alike_tests true true e = refl
alike_tests true false e = absurd (cc)
alike_tests false true e = absurd (cc)
alike_tests false false e = refl

-- the symbol of a reference that was read
pub symbol_read : (references : List Reference) (i : ℕ) (b : Reference) (id : SymbolId) → i < length references → b ≡ get_or references i b → b.symbol ≡ Some id → referred_in references i ≡ Some id.0
symbol_read references i b id l is e = ap (λ o. option_and_then (λ r. symbol r.symbol) o) (slice_get_read references (length references) i b refl l is) ∙ ap symbol e

-- what passes a test is the same where one item is another that passes it alike
any_changed : {X : Type 0} (p : X → Bool) (xs : List X) (i : ℕ) (c d : X) → i < length xs → d ≡ get_or xs i d → p c ≡ p d → list_any p (set xs i c) ≡ list_any p xs
any_changed p [] i c d l e same = absurd (omega (arith, l))
any_changed p (x ∷ xs) zero c d l e same = ap (λ b. b || list_any p xs) (same ∙ ap p e)
any_changed p (x ∷ xs) (suc i) c d l e same = ap (λ b. p x || b) (any_changed p xs i c d (omega (arith, l)) e same)

-- a reference to no symbol, or to another, writes this one neither before nor after
writes_other : (n : ℕ) (c d : Reference) → c.symbol ≡ d.symbol → is_symbol n (symbol d.symbol) ≡ false → writes n c ≡ writes n d
writes_other n c d s e =
    let there : is_symbol n (symbol c.symbol) ≡ false = ap (λ o. is_symbol n (symbol o)) s ∙ e in
    rw (there, e, and_false c.flags.write, and_false d.flags.write) refl

writes_alike : (n : ℕ) (c d : Reference) → c.symbol ≡ d.symbol → c.flags.write ≡ d.flags.write → writes n c ≡ writes n d
writes_alike n c d s e = rw (s, e) refl

module _ (references : List Reference) (symbols : List Symbol) (i : ℕ) (c d : Reference) (l : i < length references) (is : d ≡ get_or references i d) (same : c.symbol ≡ d.symbol) where
  pub referring_set : AreReferring references symbols → AreReferring (set references i c) symbols
  referring_set h = λ n m e. h n m (sym (said_same (λ o. option_and_then (λ r. symbol r.symbol) o) references i c d n l is (ap symbol same)) ∙ e)

  -- where it writes as before, or refers to no symbol
  pub written_alike : c.flags.write ≡ d.flags.write → AreWritten symbols references → AreWritten symbols (set references i c)
  written_alike e h = λ n. h n ∙ sym (any_changed (writes n) references i c d l is (writes_alike n c d same e))

  pub written_unbound : d.symbol ≡ None → AreWritten symbols references → AreWritten symbols (set references i c)
  written_unbound e h = λ n. h n ∙ sym (any_changed (writes n) references i c d l is (writes_other n c d same (ap (λ o. is_symbol n (symbol o)) e)))

  -- where its symbol is noted anew
  pub written_anew : (id : SymbolId) (s b : Symbol) → d.symbol ≡ Some id → id.0 < length symbols → b ≡ get_or symbols id.0 b → s.mutated ≡ list_any (writes id.0) (set references i c) → AreWritten symbols references → AreWritten (set symbols id.0 s) (set references i c)
  written_anew id s b e k there noted h = λ n. at n (n == id.0) refl where
    at : (n : ℕ) (v : Bool) → (n == id.0) ≡ v → mutated_in (set symbols id.0 s) n ≡ list_any (writes n) (set references i c)
    at n true g =
        let this = eqb-true n id.0 g in
        ap (λ o. unwrap_or (option_map (λ q. q.mutated) o) false) (get_changed symbols id.0 s n k this) ∙ (noted ∙ ap (λ m. list_any (writes m) (set references i c)) (sym this))
    at n false g =
        ap (λ o. unwrap_or (option_map (λ q. q.mutated) o) false) (get_other symbols id.0 s n (eqb-false n id.0 g)) ∙
        (h n ∙ sym (any_changed (writes n) references i c d l is (writes_other n c d same (ap (λ o. is_symbol n (symbol o)) e ∙ other))))
      where
        other : (id.0 == n) ≡ false
        other = eqb_turned n id.0 g

pub reference_set : (old new : Scoping) (i : ℕ) (c d : Reference) (flags : ReferenceFlags) → i < reference_count old → d ≡ get_or old.references.items i d → c ≡ record d { flags = flags } → SameScopes old new → SameBindings old new → SameSymbols old new → new.references.items ≡ set old.references.items i c → SetsReferenceFlags old new (Some i) flags
reference_set old new i c d flags l is made scopes bindings symbols e = record {
  scopes = scopes;
  bindings = bindings;
  symbols = symbols;
  mutated = λ n. new.written n;
  count = ap length e ∙ length_changed old.references.items i c;
  references = λ n. ap (λ rs. option_map plain_reference (slice_get rs n)) e ∙ at n (n == i) refl;
} where
  at : (n : ℕ) (v : Bool) → (n == i) ≡ v → option_map plain_reference (slice_get (set old.references.items i c) n) ≡ (if i == n then option_map (with_flags flags) (option_map plain_reference (slice_get old.references.items n)) else option_map plain_reference (slice_get old.references.items n))
  at n true g =
      let this = eqb-true n i g in
      let before : slice_get old.references.items n ≡ Some d = ap (slice_get old.references.items) this ∙ slice_get_read old.references.items (length old.references.items) i d refl l is in
      rw (eq-eqb i n (sym this), before) (ap (option_map plain_reference) (get_changed old.references.items i c n l this) ∙ ap (λ r. Some (plain_reference r)) made)
  at n false g = rw (eqb_turned n i g) (ap (option_map plain_reference) (get_other old.references.items i c n (eqb-false n i g)))
