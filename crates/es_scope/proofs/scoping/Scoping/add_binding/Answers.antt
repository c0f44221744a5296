use Rattle.std.proofs.Common.{◌≡◌, ◌==◌, ◌&&◌, ◌++◌, ◌∷◌, [], Some, List, bytes_eq, if◌then◌else◌, length, take, drop, refl, sym, ap, subst, ◌∙◌, false, string_bytes, arith}
use Rattle.es_scope.specs.Bindings.{AreBound, bound_in}
use Rattle.es_scope.specs.Mutations.{AreWritten, mutated_in}
use Rattle.es_scope.specs.declared.scoping.Scope.{Scope}
use Rattle.es_scope.specs.declared.scoping.Symbol.{Symbol}
use Rattle.es_scope.proofs.ChangedItems.{written_back}
use Rattle.es_scope.proofs.TableSteps.{binding_more, bound_named, one_more, outwards_lent, written_more}
use Rattle.es_scope.proofs.scoping.Scoping.add_binding.Goals as goal

-- where the symbol didn't fit into memory all is as it was
pub invariant_of-self : goal.invariant_of-self
invariant_of-self c =
    let self = c.args.self.now in
    let same : c.push.new.self.items ≡ self.symbols.items = c.in_err-push.ensures.items in
    let B : List Symbol → Type 0 = λ bs. AreBound self.scopes.items bs in
    record {
      outwards = self.outwards;
      bound = subst B (sym same) self.bound;
      written = λ n. ap (λ bs. mutated_in bs n) same ∙ self.written n;
      referring = λ n m f. omega (arith, self.referring n m f, ap length same);
      rooted = self.rooted;
    }

pub invariant_of-self-2 : goal.invariant_of-self-2
invariant_of-self-2 c =
    let self = c.args.self.now in
    let old : List Scope = self.scopes.items in
    let new : List Scope = take self.scopes.len (c.bind_name.new.scopes ++ drop (length c.bind_name.new.scopes) old) in
    let back : new ≡ c.bind_name.new.scopes = written_back c.bind_name.new.scopes old self.scopes.len (omega (arith, c.bind_name.ensures.shape.count, ap length c.deref_mut.ensures.value, self.scopes.ok.0)) in
    let number : c.in-Ok.number ≡ length self.symbols.items = omega (arith, c.in-Ok.ensures, c.len.ensures, self.symbols.ok.0) in
    let s : Symbol = record { scope = c.args.scope; name = c.args.name; flags = c.args.flags; mutated = false } in
    let pushed : c.push.new.self.items ≡ self.symbols.items ++ s ∷ [] = c.in_ok-push.ensures.items in
    let B : List Symbol → Type 0 = λ bs. AreBound new bs in
    let W : List Symbol → Type 0 = λ bs. AreWritten bs self.references.items in
    record {
      outwards = outwards_lent old c.deref_mut.result.now c.bind_name.new.scopes new c.deref_mut.ensures.value back c.bind_name.ensures.shape self.outwards;
      bound = subst B (sym pushed) (bound_named c.bind_name.result old c.deref_mut.result.now c.bind_name.new.scopes new self.symbols.items s (string_bytes c.in_ok-key.key) c.in-Ok.number c.deref_mut.ensures.value back number c.in_ok-key.ensures.cases c.bind_name.ensures.bound c.bind_name.ensures.err self.bound);
      written = subst W (sym pushed) (written_more self.symbols.items s self.references.items refl self.written);
      referring = λ n m f. omega (arith, self.referring n m f, ap length pushed, one_more self.symbols.items s);
      rooted = self.rooted;
    }

pub returns-clause-added : goal.returns-clause-added
returns-clause-added c =
    let self = c.args.self.now in
    let old : List Scope = self.scopes.items in
    let new : List Scope = take self.scopes.len (c.bind_name.new.scopes ++ drop (length c.bind_name.new.scopes) old) in
    let back : new ≡ c.bind_name.new.scopes = written_back c.bind_name.new.scopes old self.scopes.len (omega (arith, c.bind_name.ensures.shape.count, ap length c.deref_mut.ensures.value, self.scopes.ok.0)) in
    let number : c.in-Ok.number ≡ length self.symbols.items = omega (arith, c.in-Ok.ensures, c.len.ensures, self.symbols.ok.0) in
    let key : string_bytes c.in_ok-key.key ≡ string_bytes c.args.name = c.in_ok-key.ensures.cases in
    binding_more self _ (record { scope = c.args.scope; name = c.args.name; flags = c.args.flags; mutated = false }) (string_bytes c.args.name) refl refl (rw (back, ← c.deref_mut.ensures.value) c.bind_name.ensures.shape)
    (λ n x. rw (back, ← c.deref_mut.ensures.value, ← key) (c.in_ok-bind_name.ensures.bound n x ∙ ap (λ m. if n == c.args.scope.0 && bytes_eq (string_bytes c.in_ok-key.key) x then Some m else bound_in c.deref_mut.result.now n x) number)) c.in_ok-push.ensures.items refl
