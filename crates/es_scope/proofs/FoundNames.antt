-- What names find in a table after a call.
use Rattle.std.proofs.Common.{◌≡◌, ℕ, ◌<◌, ◌==◌, Bool, true, false, if◌then◌else◌, Option, Some, None, option_and_then, refl, sym, ap, subst, ◌∙◌, arith}
use Rattle.std.proofs.lemmas.Bool.{eq-eqb, eqb-true}
use Rattle.std.proofs.lemmas.Option.{slice_get_past}
use Rattle.es_tree.specs.Words.{Text}
use Rattle.es_scope.specs.Numbers.{numbers}
use Rattle.es_scope.specs.TableChanges.{with_last}
use Rattle.es_scope.specs.TableSettings.{InsertsScope, below}
use Rattle.es_scope.specs.Tables.{Finds, found_here, found_outside, found_nowhere, binding_in, parent_of, scope_count}
use Rattle.es_scope.specs.declared.flags.ScopeFlags.{ScopeFlags}
use Rattle.es_scope.specs.declared.scoping.Scoping.{Scoping}

-- where parents, and the bindings of this name, are the same
pub finds-same : (old new : Scoping) (x : Text) → ((n : ℕ) → binding_in new n x ≡ binding_in old n x) → ((n : ℕ) → parent_of new n ≡ parent_of old n) → (n : ℕ) (r : Option ℕ) → Finds old x n r → Finds new x n r
finds-same old new x b p n (Some m) (found_here e) = found_here (b n ∙ e)
finds-same old new x b p n r (found_outside {up = up} e f g) = found_outside (b n ∙ e) (p n ∙ f) (finds-same old new x b p up r g)
finds-same old new x b p n None (found_nowhere e f) = found_nowhere (b n ∙ e) (p n ∙ f)

-- A scope that is put around children of its parent binds nothing, so names find what they found.
pub finds-inserted : (old new : Scoping) (parent : ℕ) (flags : ScopeFlags) (moves : ℕ → Bool) → InsertsScope old new parent flags moves → parent < scope_count old → ((n : ℕ) → moves n ≡ true → parent_of old n ≡ Some parent) → (x : Text) (n : ℕ) (r : Option ℕ) → n < scope_count old → Finds old x n r → Finds new x n r
finds-inserted old new parent flags moves h known children x n (Some m) l (found_here e) = found_here (h.beside.bindings n x ∙ e)
finds-inserted old new parent flags moves h known children x n r l (found_outside {up = up} e f g) =
    through (moves n) refl (finds-inserted old new parent flags moves h known children x up r (old.outwards.known n up f) g)
  where
    unbound : binding_in new n x ≡ None
    unbound = h.beside.bindings n x ∙ e

    new_parent : parent_of new n ≡ below moves (scope_count old) (parent_of old) n
    new_parent = h.parents n ∙ ap (λ b. if b then Some parent else below moves (scope_count old) (parent_of old) n) (before (n == scope_count old) refl) where
      before : (b : Bool) → (n == scope_count old) ≡ b → b ≡ false
      before true q = absurd (omega (arith, l, eqb-true n (scope_count old) q))
      before false q = refl

    made_unbound : binding_in new (scope_count old) x ≡ None
    made_unbound = h.beside.bindings (scope_count old) x ∙ ap (λ o. option_and_then (λ c. numbers c.bindings x) o) (slice_get_past old.scopes.items (scope_count old) (omega arith))

    made_parent : parent_of new (scope_count old) ≡ Some parent
    made_parent = h.parents (scope_count old) ∙ ap (λ b. if b then Some parent else below moves (scope_count old) (parent_of old) (scope_count old)) (eq-eqb (scope_count old) (scope_count old) refl)

    through : (b : Bool) → moves n ≡ b → Finds new x up r → Finds new x n r
    through true q rest =
        let same : up ≡ parent = let both : Some up ≡ Some parent = sym f ∙ children n q in cc in
        found_outside unbound (new_parent ∙ ap (λ b. if b then Some (scope_count old) else parent_of old n) q) (found_outside made_unbound made_parent (subst (λ (m : ℕ). Finds new x m r) same rest))
    through false q rest = found_outside unbound (new_parent ∙ (ap (λ b. if b then Some (scope_count old) else parent_of old n) q ∙ f)) rest
finds-inserted old new parent flags moves h known children x n None l (found_nowhere e f) = found_nowhere (h.beside.bindings n x ∙ e) (h.parents n ∙ at (n == scope_count old) (moves n) refl refl) where
  at : (b c : Bool) → (n == scope_count old) ≡ b → moves n ≡ c → (if b then Some parent else if c then Some (scope_count old) else parent_of old n) ≡ None
  at true c q m = absurd (omega (arith, l, eqb-true n (scope_count old) q))
  at false true q m = absurd (let some = children n m in cc)
  at false false q m = f
