-- A reference with other flags that writes its symbol as before: what the table says of symbols stays.
use Rattle.std.proofs.Common.{◌≡◌, ◌∙◌, ◌⊎◌, ℕ, suc, ◌==◌, ◌&&◌, ◌||◌, not, ◌+◌, arith, Bool, true, false, if◌then◌else◌, refl, sym, ap, subst, List, [], ◌∷◌, Option, Some, None, option_map, slice_get, inl, inr}
use Rattle.std.proofs.lemmas.Bool.{eqb-true}
use Rattle.std.specs.List.{list_any}
use Rattle.std.specs.Prelude.{is_some}
use Rattle.es_tree.specs.Heads.{symbol as symbol_number}
use Rattle.es_tree.specs.declared.ids.SymbolId.{SymbolId}
use Rattle.es_tree.specs.References.{Reference, is_symbol, writes_symbol}
use Rattle.es_scope.specs.Contexts.{KeepsBesideTable, table_of}
use Rattle.es_scope.specs.Mutations.{writes}
use Rattle.es_scope.specs.PlainReferences.{plain_reference}
use Rattle.es_scope.specs.TableSettings.{SetsReferenceFlags, with_flags}
use Rattle.es_scope.specs.Tables.{is_mutated, reference_at}
use Rattle.es_scope.specs.declared.context.TraverseCtx.{TraverseCtx}
use Rattle.es_scope.specs.declared.flags.ReferenceFlags.{ReferenceFlags}
use Rattle.es_scope.specs.declared.scoping.Reference.{Reference as TableReference}
use Rattle.es_scope.specs.declared.scoping.Scoping.{Scoping}
use Rattle.es_scope.proofs.SymbolContexts.{SaysSame, says-same}
use Rattle.lower_temporaries.specs.Takings.{ReadsMore}
use Rattle.lower_temporaries.specs.declared.state.TransformState.{TransformState}
use Rattle.lower_temporaries.proofs.Takings.{reads-said}

-- a reference without symbol
pub no-symbol : (o : Option SymbolId) (b : Bool) → b ≡ true → is_some o ≡ not b → symbol_number o ≡ None
no-symbol None b e h = refl
no-symbol (Some s) b e h = absurd (let n : true ≡ false = h ∙ ap not e in cc n)

any-slices : {X : Type 0} (p : X → Bool) (xs ys : List X) → ((m : ℕ) → option_map p (slice_get xs m) ≡ option_map p (slice_get ys m)) → list_any p xs ≡ list_any p ys
any-slices p [] [] h = refl
any-slices p [] (y ∷ ys) h = absurd (cc (h 0))
any-slices p (x ∷ xs) [] h = absurd (cc (h 0))
any-slices p (x ∷ xs) (y ∷ ys) h = let e : Some (p x) ≡ Some (p y) = h 0 in let first : p x ≡ p y = cc e in λ i. first i || any-slices p xs ys (λ m. h (suc m)) i

plainly : (n : ℕ) (o : Option TableReference) → option_map (writes n) o ≡ option_map (writes_symbol n) (option_map plain_reference o)
plainly n None = refl
plainly n (Some r) = refl

and-none : (b : Bool) → (b && false) ≡ false
and-none true = refl
and-none false = refl

writes-flagged : (n : ℕ) (flags : ReferenceFlags) (r : Reference) → (r.symbol ≡ None) ⊎ (r.write ≡ flags.write) → writes_symbol n (with_flags flags r) ≡ writes_symbol n r
writes-flagged n flags r (inl e) = ap (λ o. flags.write && is_symbol n o) e ∙ (and-none flags.write ∙ sym (ap (λ o. r.write && is_symbol n o) e ∙ and-none r.write))
writes-flagged n flags r (inr e) = ap (λ b. b && is_symbol n r.symbol) (sym e)

module _ (old new : Scoping) (i : ℕ) (flags : ReferenceFlags) (r : Reference) (s : SetsReferenceFlags old new (Some i) flags) (found : reference_at old i ≡ Some r) (same : (r.symbol ≡ None) ⊎ (r.write ≡ flags.write)) where
  at-each : (n m : ℕ) (b : Bool) → (i == m) ≡ b → option_map (writes_symbol n) (if b then option_map (with_flags flags) (reference_at old m) else reference_at old m) ≡ option_map (writes_symbol n) (reference_at old m)
  at-each n m true e =
      let here : reference_at old m ≡ Some r = subst (λ j. reference_at old j ≡ Some r) (eqb-true i m e) found in
      ap (λ o. option_map (writes_symbol n) (option_map (with_flags flags) o)) here ∙ (ap Some (writes-flagged n flags r same) ∙ sym (ap (option_map (writes_symbol n)) here))
  at-each n m false e = refl

  still-mutated : (n : ℕ) → is_mutated new n ≡ is_mutated old n
  still-mutated n =
      new.written n ∙ (any-slices (writes n) new.references.items old.references.items (λ m.
      plainly n (slice_get new.references.items m) ∙ (ap (option_map (writes_symbol n)) (s.references m) ∙ (at-each n m (i == m) refl ∙ sym (plainly n (slice_get old.references.items m))))) ∙ sym (old.written n))

  pub says-flags : SaysSame old new
  says-flags = says-same old new s.symbols.count s.symbols.names still-mutated

pub reads-flags : (old new : TraverseCtx TransformState) (i : ℕ) (flags : ReferenceFlags) (r : Reference) → SetsReferenceFlags (table_of old) (table_of new) (Some i) flags → KeepsBesideTable old new → Some r ≡ reference_at (table_of old) i → (r.symbol ≡ None) ⊎ (r.write ≡ flags.write) → ReadsMore 0 old new
reads-flags old new i flags r s kept found same = reads-said 0 old new (says-flags (table_of old) (table_of new) i flags r s (sym found) same) (ap (λ a. a.next) kept.ast ∙ sym (plus-none old.ast.next)) kept.names kept.kept where
  plus-none : (n : ℕ) → n + 0 ≡ n
  plus-none n = omega arith
