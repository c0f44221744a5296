use Rattle.std.proofs.Common.{◌≡◌, ◌<◌, ℕ, ◌++◌, List, length, take, drop, option_map, slice_get, string_bytes, refl, sym, ap, ◌∙◌, arith}
use Rattle.es_tree.specs.Words.{Text}
use Rattle.es_scope.specs.Bindings.{bound_in}
use Rattle.es_scope.specs.Outwards.{parent_in}
use Rattle.es_scope.specs.TableSettings.{moved}
use Rattle.es_scope.specs.Tables.{called}
use Rattle.es_scope.specs.declared.scoping.Scope.{Scope}
use Rattle.es_scope.specs.declared.scoping.Symbol.{Symbol}
use Rattle.es_scope.proofs.ChangedItems.{length_changed, written_back}
use Rattle.es_scope.proofs.MovedBindings.{binding_moved, bound_moved, bound_there, bound_unmoved, called_read}
use Rattle.es_scope.proofs.TableReferences.{read_twice}
use Rattle.es_scope.proofs.TableSettings.{written_same}
use Rattle.es_scope.proofs.TableSteps.{bound_within, outwards_lent}
use Rattle.es_scope.proofs.scoping.Scoping.move_binding_by_symbol_id.Goals as goal

pub index-requires : goal.index-requires
index-requires c =
    let self = c.args.self.now in
    let i = c.args.symbol_id.0 in
    let symbols : List Symbol = self.symbols.items in
    let old : List Scope = self.scopes.items in
    let known : i < length symbols = bound_within old symbols self.bound c.args.from.0 (called self i) i c.requires.stands in
    omega (arith, known, self.symbols.ok.0)

pub move_name-requires-clause-from : goal.move_name-requires-clause-from
move_name-requires-clause-from c = omega (arith, bound_there c.args.self.now.scopes.items c.args.from.0 (called c.args.self.now c.args.symbol_id.0) c.args.symbol_id.0 c.requires.stands, ap length c.deref_mut.ensures.value)

-- where the name didn't fit into memory all is as it was
pub invariant_of-self : goal.invariant_of-self
invariant_of-self c =
    let self = c.args.self.now in
    let old : List Scope = self.scopes.items in
    let new : List Scope = take self.scopes.len (c.move_name.new.scopes ++ drop (length c.move_name.new.scopes) old) in
    let back : new ≡ c.move_name.new.scopes = written_back c.move_name.new.scopes old self.scopes.len (omega (arith, c.move_name.ensures.shape.count, ap length c.deref_mut.ensures.value, self.scopes.ok.0)) in
    record {
      outwards = outwards_lent old c.deref_mut.result.now c.move_name.new.scopes new c.deref_mut.ensures.value back c.move_name.ensures.shape self.outwards;
      bound = bound_unmoved old new self.symbols.items (λ n x. ap (λ cs. bound_in cs n x) back ∙ (c.in_err-move_name.ensures.err n x ∙ ap (λ cs. bound_in cs n x) c.deref_mut.ensures.value)) self.bound;
      written = self.written;
      referring = self.referring;
      rooted = self.rooted;
    }

pub index_mut-requires : goal.index_mut-requires
index_mut-requires c =
    let self = c.args.self.now in
    let i = c.args.symbol_id.0 in
    let symbols : List Symbol = self.symbols.items in
    let old : List Scope = self.scopes.items in
    let known : i < length symbols = bound_within old symbols self.bound c.args.from.0 (called self i) i c.requires.stands in
    omega (arith, known, self.symbols.ok.0)

pub invariant_of-self-2 : goal.invariant_of-self-2
invariant_of-self-2 c =
    let self = c.args.self.now in
    let i = c.args.symbol_id.0 in
    let symbols : List Symbol = self.symbols.items in
    let old : List Scope = self.scopes.items in
    let known : i < length symbols = bound_within old symbols self.bound c.args.from.0 (called self i) i c.requires.stands in
    let new : List Scope = take self.scopes.len (c.move_name.new.scopes ++ drop (length c.move_name.new.scopes) old) in
    let back : new ≡ c.move_name.new.scopes = written_back c.move_name.new.scopes old self.scopes.len (omega (arith, c.move_name.ensures.shape.count, ap length c.deref_mut.ensures.value, self.scopes.ok.0)) in
    let d = c.index.result.now in
    let e = c.index_mut.result.now in
    let s : Symbol = record e { scope = c.args.to } in
    let moves : (n : ℕ) (x : Text) → bound_in new n x ≡ moved c.args.from.0 c.args.to.0 (string_bytes d.name) i (bound_in old) n x = λ n x. ap (λ cs. bound_in cs n x) back ∙ (c.in_ok-move_name.ensures.moved n x ∙ ap (λ cs. moved c.args.from.0 c.args.to.0 (string_bytes d.name) i (bound_in cs) n x) c.deref_mut.ensures.value) in
    record {
      outwards = outwards_lent old c.deref_mut.result.now c.move_name.new.scopes new c.deref_mut.ensures.value back c.move_name.ensures.shape self.outwards;
      bound = bound_moved old new symbols c.args.from.0 c.args.to.0 i (string_bytes d.name) s e known c.index_mut.ensures.value refl refl (ap (λ b. string_bytes b.name) (read_twice symbols i d e known c.index.ensures c.index_mut.ensures.value)) (ap (bound_in old c.args.from.0) (sym (called_read self i d known c.index.ensures)) ∙ c.requires.stands) self.bound moves;
      written = written_same symbols i s e known c.index_mut.ensures.value self.references.items refl self.written;
      referring = λ n m f. omega (arith, self.referring n m f, length_changed symbols i s);
      rooted = self.rooted;
    }

pub returns-clause-moved : goal.returns-clause-moved
returns-clause-moved c =
    let self = c.args.self.now in
    let i = c.args.symbol_id.0 in
    let symbols : List Symbol = self.symbols.items in
    let old : List Scope = self.scopes.items in
    let known : i < length symbols = bound_within old symbols self.bound c.args.from.0 (called self i) i c.requires.stands in
    let new : List Scope = take self.scopes.len (c.move_name.new.scopes ++ drop (length c.move_name.new.scopes) old) in
    let back : new ≡ c.move_name.new.scopes = written_back c.move_name.new.scopes old self.scopes.len (omega (arith, c.move_name.ensures.shape.count, ap length c.deref_mut.ensures.value, self.scopes.ok.0)) in
    let d = c.index.result.now in
    let e = c.index_mut.result.now in
    let s : Symbol = record e { scope = c.args.to } in
    let moves : (n : ℕ) (x : Text) → bound_in new n x ≡ moved c.args.from.0 c.args.to.0 (string_bytes d.name) i (bound_in old) n x = λ n x. ap (λ cs. bound_in cs n x) back ∙ (c.in_ok-move_name.ensures.moved n x ∙ ap (λ cs. moved c.args.from.0 c.args.to.0 (string_bytes d.name) i (bound_in cs) n x) c.deref_mut.ensures.value) in
    binding_moved self _ c.args.from.0 c.args.to.0 i s e known c.index_mut.ensures.value refl refl refl refl (record {
      count = ap length back ∙ (c.move_name.ensures.shape.count ∙ ap length c.deref_mut.ensures.value);
      parents = λ n. ap (λ cs. parent_in cs n) back ∙ (c.move_name.ensures.shape.parents n ∙ ap (λ cs. parent_in cs n) c.deref_mut.ensures.value);
      flags = λ n. ap (λ cs. option_map (λ k. k.flags) (slice_get cs n)) back ∙ (c.move_name.ensures.shape.flags n ∙ ap (λ cs. option_map (λ k. k.flags) (slice_get cs n)) c.deref_mut.ensures.value);
    }) (λ n x. moves n x ∙ ap (λ y. moved c.args.from.0 c.args.to.0 y i (bound_in old) n x) (sym (called_read self i d known c.index.ensures))) refl refl
