use Rattle.std.proofs.Common.{◌≡◌, ◌<◌, ℕ, Some, List, length, take, drop, ◌++◌, option_map, slice_get, refl, sym, ap, subst, ◌∙◌, arith}
use Rattle.es_tree.specs.Heads.{symbol}
use Rattle.es_scope.specs.Mutations.{AreReferring, AreWritten, mutated_by, writes}
use Rattle.es_scope.specs.declared.scoping.Reference.{Reference}
use Rattle.es_scope.specs.declared.scoping.Symbol.{Symbol}
use Rattle.es_scope.proofs.ChangedItems.{written_back}
use Rattle.es_scope.proofs.TableReferences.{bound_noted, reference_more, referring_more, symbol_known, written_noted}
use Rattle.es_scope.proofs.scoping.Scoping.add_reference.Goals as goal

pub invariant_of-self-2 : goal.invariant_of-self-2
invariant_of-self-2 c =
    let self = c.args.self.now in
    let old : List Symbol = self.symbols.items in
    let r = c.args.reference in
    let new : List Symbol = take self.symbols.len (c.mutate.new.symbols ++ drop (length c.mutate.new.symbols) old) in
    let known : (m : ℕ) → symbol r.symbol ≡ Some m → m < length old = symbol_known r.symbol (length old) c.requires in
    let kept : length c.mutate.new.symbols ≡ length old = c.mutate.auto.symbols ∙ ap length c.deref_mut.ensures.value in
    let back : new ≡ c.mutate.new.symbols = written_back c.mutate.new.symbols old self.symbols.len (omega (arith, kept, self.symbols.ok.0)) in
    let noted : (n : ℕ) → slice_get new n ≡ option_map (mutated_by (writes n r)) (slice_get old n) = λ n. ap (λ bs. slice_get bs n) back ∙ (c.mutate.ensures n ∙ ap (λ bs. option_map (mutated_by (writes n r)) (slice_get bs n)) c.deref_mut.ensures.value) in
    let W : List Reference → Type 0 = λ rs. AreWritten new rs in
    let R : List Reference → Type 0 = λ rs. AreReferring rs new in
    record {
      outwards = self.outwards;
      bound = bound_noted self.scopes.items old new r noted self.bound;
      written = subst W (sym c.in_ok-push.ensures.items) (written_noted old new self.references.items r noted known self.written);
      referring = subst R (sym c.in_ok-push.ensures.items) (referring_more self.references.items old new r (ap length back ∙ kept) known self.referring);
      rooted = self.rooted;
    }

pub returns-clause-added : goal.returns-clause-added
returns-clause-added c =
    let self = c.args.self.now in
    let old : List Symbol = self.symbols.items in
    let r = c.args.reference in
    let new : List Symbol = take self.symbols.len (c.mutate.new.symbols ++ drop (length c.mutate.new.symbols) old) in
    let known : (m : ℕ) → symbol r.symbol ≡ Some m → m < length old = symbol_known r.symbol (length old) c.requires in
    let kept : length c.mutate.new.symbols ≡ length old = c.mutate.auto.symbols ∙ ap length c.deref_mut.ensures.value in
    let back : new ≡ c.mutate.new.symbols = written_back c.mutate.new.symbols old self.symbols.len (omega (arith, kept, self.symbols.ok.0)) in
    let noted : (n : ℕ) → slice_get new n ≡ option_map (mutated_by (writes n r)) (slice_get old n) = λ n. ap (λ bs. slice_get bs n) back ∙ (c.mutate.ensures n ∙ ap (λ bs. option_map (mutated_by (writes n r)) (slice_get bs n)) c.deref_mut.ensures.value) in
    reference_more self _ r refl (ap length back ∙ kept) noted known c.in_ok-push.ensures.items
