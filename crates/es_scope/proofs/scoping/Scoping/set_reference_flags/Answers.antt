use Rattle.std.proofs.Common.{◌≡◌, ◌<◌, Some, length, refl, sym, ap, ◌∙◌, arith}
use Rattle.std.specs.List.{list_any}
use Rattle.es_scope.specs.Mutations.{writes}
use Rattle.es_scope.specs.declared.scoping.Reference.{Reference}
use Rattle.es_scope.specs.declared.scoping.Symbol.{Symbol}
use Rattle.es_scope.proofs.ChangedItems.{length_changed}
use Rattle.es_scope.proofs.TableReferences.{alike_tests, read_twice, reference_set, referring_set, symbol_read, written_alike, written_anew, written_unbound}
use Rattle.es_scope.proofs.TableSettings.{bound_alike, symbols_alike}
use Rattle.es_scope.proofs.TableSteps.{same_scopes, same_symbols}
use Rattle.es_scope.proofs.scoping.Scoping.set_reference_flags.Goals as goal

pub invariant_of-self : goal.invariant_of-self
invariant_of-self c =
    let self = c.args.self.now in
    let d = c.index_mut.result.now in
    record {
      outwards = self.outwards;
      bound = self.bound;
      written = written_alike self.references.items self.symbols.items c.args.reference_id.0 (record d { flags = c.args.flags }) d c.requires c.index_mut.ensures.value refl (alike_tests _ _ c.if-flags-before.true ∙ ap (λ r. r.flags.write) (read_twice self.references.items c.args.reference_id.0 c.index-before.result.now d c.requires c.index-before.ensures c.index_mut.ensures.value)) self.written;
      referring = referring_set self.references.items self.symbols.items c.args.reference_id.0 (record d { flags = c.args.flags }) d c.requires c.index_mut.ensures.value refl self.referring;
      rooted = self.rooted;
    }

pub returns-then-flags-before : goal.returns-then-flags-before
returns-then-flags-before c =
    let d = c.index_mut.result.now in
    reference_set c.args.self.now _ c.args.reference_id.0 (record d { flags = c.args.flags }) d c.args.flags c.requires c.index_mut.ensures.value refl (same_scopes _ _ refl) (λ n x. refl) (same_symbols _ _ refl) refl

pub index_mut-requires-in-Some : goal.index_mut-requires-in-Some
index_mut-requires-in-Some c =
    let self = c.args.self.now in
    omega (arith, self.referring c.args.reference_id.0 c.in-Some.symbol_id.0 (symbol_read self.references.items c.args.reference_id.0 c.index-before.result.now c.in-Some.symbol_id c.requires c.index-before.ensures c.in-Some.is), self.symbols.ok.0)

pub invariant_of-self-in-Some : goal.invariant_of-self-in-Some
invariant_of-self-in-Some c =
    let self = c.args.self.now in
    let i = c.args.reference_id.0 in
    let id = c.in-Some.symbol_id in
    let d = c.index_mut.result.now in
    let e : Reference = record d { flags = c.args.flags } in
    let b = c.index_mut-in-Some.result.now in
    let s : Symbol = record b { mutated = c.is_written-mutated.result } in
    let known : id.0 < length self.symbols.items = self.referring i id.0 (symbol_read self.references.items i c.index-before.result.now id c.requires c.index-before.ensures c.in-Some.is) in
    let its : d.symbol ≡ Some id = sym (ap (λ r. r.symbol) (read_twice self.references.items i c.index-before.result.now d c.requires c.index-before.ensures c.index_mut.ensures.value)) ∙ c.in-Some.is in
    record {
      outwards = self.outwards;
      bound = bound_alike self.symbols.items id.0 s b known c.index_mut-in-Some.ensures.value self.scopes.items refl refl self.bound;
      written = written_anew self.references.items self.symbols.items i e d c.requires c.index_mut.ensures.value refl id s b its known c.index_mut-in-Some.ensures.value (c.is_written-mutated.ensures ∙ ap (λ rs. list_any (writes id.0) rs) c.deref.ensures.value) self.written;
      referring = λ n m f. omega (arith, referring_set self.references.items self.symbols.items i e d c.requires c.index_mut.ensures.value refl self.referring n m f, length_changed self.symbols.items id.0 s);
      rooted = self.rooted;
    }

pub returns-in-Some : goal.returns-in-Some
returns-in-Some c =
    let self = c.args.self.now in
    let i = c.args.reference_id.0 in
    let id = c.in-Some.symbol_id in
    let d = c.index_mut.result.now in
    let b = c.index_mut-in-Some.result.now in
    let s : Symbol = record b { mutated = c.is_written-mutated.result } in
    let known : id.0 < length self.symbols.items = self.referring i id.0 (symbol_read self.references.items i c.index-before.result.now id c.requires c.index-before.ensures c.in-Some.is) in
    reference_set self _ i (record d { flags = c.args.flags }) d c.args.flags c.requires c.index_mut.ensures.value refl (same_scopes _ _ refl) (λ n x. refl) (symbols_alike self _ id.0 s b known c.index_mut-in-Some.ensures.value refl refl refl refl) refl

pub invariant_of-self-in_default : goal.invariant_of-self-in_default
invariant_of-self-in_default c =
    let self = c.args.self.now in
    let d = c.index_mut.result.now in
    record {
      outwards = self.outwards;
      bound = self.bound;
      written = written_unbound self.references.items self.symbols.items c.args.reference_id.0 (record d { flags = c.args.flags }) d c.requires c.index_mut.ensures.value refl (sym (ap (λ r. r.symbol) (read_twice self.references.items c.args.reference_id.0 c.index-before.result.now d c.requires c.index-before.ensures c.index_mut.ensures.value)) ∙ c.in_default.is) self.written;
      referring = referring_set self.references.items self.symbols.items c.args.reference_id.0 (record d { flags = c.args.flags }) d c.requires c.index_mut.ensures.value refl self.referring;
      rooted = self.rooted;
    }

pub returns-in_default : goal.returns-in_default
returns-in_default c =
    let d = c.index_mut.result.now in
    reference_set c.args.self.now _ c.args.reference_id.0 (record d { flags = c.args.flags }) d c.args.flags c.requires c.index_mut.ensures.value refl (same_scopes _ _ refl) (λ n x. refl) (same_symbols _ _ refl) refl
