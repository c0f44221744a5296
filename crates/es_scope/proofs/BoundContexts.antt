-- What a context's bound names are after a call.
use Rattle.std.proofs.Common.{◌≡◌, ℕ, ◌==◌, ◌&&◌, ◌||◌, List, ◌∷◌, [], ◌++◌, Bool, true, false, not, is_some, Option, Some, None, bytes_eq, refl, sym, ap, ◌∙◌}
use Rattle.std.proofs.lemmas.List.Folds.{list_any-append}
use Rattle.std.specs.Cmp.Lexicographic.{bytes_decides}
use Rattle.es_tree.specs.Fresh.{is_among}
use Rattle.es_tree.specs.Words.{Text}
use Rattle.es_scope.specs.Contexts.{AddsScope, KeepsNames, MakesName, Refers, bound_of, made_of, table_of, uses_of}
use Rattle.es_scope.specs.TableChanges.{HasBindingMore, SameBindings}
use Rattle.es_scope.specs.Tables.{binding_in}
use Rattle.es_scope.specs.Taken.{is_underscored}
use Rattle.es_scope.specs.declared.context.TraverseCtx.{TraverseCtx}
use Rattle.es_scope.specs.declared.flags.ReferenceFlags.{ReferenceFlags}
use Rattle.es_scope.specs.declared.flags.ScopeFlags.{ScopeFlags}
use Rattle.es_scope.specs.declared.flags.SymbolFlags.{SymbolFlags}
use Rattle.es_scope.proofs.SteadyContexts.{unused-unbound}

-- a name that the program's scope doesn't bind is no bound one
pub unfound-unbound : {S : Type 0} (ctx : TraverseCtx S) (x : Text) → binding_in (table_of ctx) 0 x ≡ None → bound_of ctx x ≡ false
unfound-unbound ctx x e = rw e refl

-- a name that it binds is a bound one or a fresh one
pub found-bound : {S : Type 0} (ctx : TraverseCtx S) (x : Text) (m : ℕ) → binding_in (table_of ctx) 0 x ≡ Some m → (bound_of ctx x || is_among (made_of ctx) x) ≡ true
found-bound ctx x m e = rw e (at (is_among (made_of ctx) x))
  where
    at : (b : Bool) → ((true && not b) || b) ≡ true
    at true = refl
    at false = refl

-- a name that doesn't begin with `_` is no fresh one
pub plain-unmade : {S : Type 0} (ctx : TraverseCtx S) (x : Text) → is_underscored x ≡ false → is_among (made_of ctx) x ≡ false
plain-unmade ctx x e = at (is_among (made_of ctx) x) refl
  where
    at : (b : Bool) → is_among (made_of ctx) x ≡ b → b ≡ false
    at true h = absurd (let no : true ≡ false = sym (ctx.uids.underscored x h) ∙ e in cc)
    at false h = refl

-- the same bindings and the same fresh names
pub bound-alike : {S : Type 0} (old new : TraverseCtx S) → SameBindings (table_of old) (table_of new) → made_of new ≡ made_of old → (x : Text) → bound_of new x ≡ bound_of old x
bound-alike old new b m x = rw (b 0 x, m) refl

-- the same table, and no name more
pub bound-kept : {S : Type 0} (old new : TraverseCtx S) → table_of new ≡ table_of old → KeepsNames old new → (x : Text) → bound_of new x ≡ bound_of old x
bound-kept old new t k = bound-alike old new (λ n x. ap (λ s. binding_in s n x) t) k.made_is

-- A reference more leaves all bound names so, and binds none.
pub bound-read : {S : Type 0} (old new : TraverseCtx S) (symbol : Option ℕ) (flags : ReferenceFlags) → Refers old new symbol flags → (x : Text) → bound_of new x ≡ bound_of old x
bound-read old new symbol flags r = bound-alike old new r.table.bindings r.names.made_is

-- a scope more leaves all bound names so, and binds none
pub bound-scoped : {S : Type 0} (old new : TraverseCtx S) (parent : ℕ) (flags : ScopeFlags) → AddsScope old new parent flags → (x : Text) → bound_of new x ≡ bound_of old x
bound-scoped old new parent flags a = bound-alike old new a.table.bindings a.names.made_is

or_false : (b : Bool) → (b || false) ≡ b
or_false true = refl
or_false false = refl

and_false : (b : Bool) → (b && false) ≡ false
and_false true = refl
and_false false = refl

or_true : (b : Bool) → (b || true) ≡ true
or_true true = refl
or_true false = refl

among_more : (names : List Text) (name x : Text) (same : Bool) → bytes_eq name x ≡ same → is_among (names ++ name ∷ []) x ≡ (is_among names x || same)
among_more names name x same e = rw (list_any-append (λ y. bytes_eq y x) names (name ∷ []), e) (ap (λ w. is_among names x || w) (or_false same))

-- A name that was not in use, made and bound in whatever scope: it is a fresh one, and the bound names are as they were.
pub bound-made : {S : Type 0} (old new : TraverseCtx S) (name : Text) (scope : ℕ) (kind : SymbolFlags) → uses_of old name ≡ false → MakesName old new name → HasBindingMore (table_of old) (table_of new) scope name kind → (x : Text) → bound_of new x ≡ bound_of old x
bound-made old new name scope kind unused m b x = at (bytes_eq name x) refl where
  at : (same : Bool) → bytes_eq name x ≡ same → bound_of new x ≡ bound_of old x
  at true e =
      let this : name ≡ x = (bytes_decides name x).0 e in
      let unbound : binding_in (table_of old) 0 x ≡ None = unused-unbound old 0 x (ap (uses_of old) (sym this) ∙ unused) in
      rw (m.made_is, among_more (made_of old) name x true e, or_true (is_among (made_of old) x), unbound) (and_false (is_some (binding_in (table_of new) 0 x)))
  at false e =
      let found : binding_in (table_of new) 0 x ≡ binding_in (table_of old) 0 x = rw (e, and_false (0 == scope)) at (b.bindings 0 x) in
      rw (found, m.made_is, among_more (made_of old) name x false e, or_false (is_among (made_of old) x)) refl
