-- What a context's steady names are after a call.
use Rattle.std.proofs.Common.{◌≡◌, ℕ, ◌<◌, ◌==◌, ◌&&◌, ◌||◌, Bool, true, false, if◌then◌else◌, not, Option, Some, None, bytes_eq, refl, sym, ap, ◌∙◌, arith}
use Rattle.std.proofs.lemmas.Bool.{and_parts, eqb-true, eq-eqb}
use Rattle.std.specs.Cmp.Lexicographic.{bytes_decides}
use Rattle.es_tree.specs.Words.{Text}
use Rattle.es_scope.specs.Contexts.{AddsScope, Binds, Refers, reference_to, steady_of, table_of, uses_of}
use Rattle.es_scope.specs.TableChanges.{HasBindingMore, HasReferenceMore}
use Rattle.es_scope.specs.Tables.{binding_in, is_found_steady, is_mutated, symbol_count}
use Rattle.es_scope.specs.declared.context.TraverseCtx.{TraverseCtx}
use Rattle.es_scope.specs.declared.flags.ReferenceFlags.{ReferenceFlags}
use Rattle.es_scope.specs.declared.flags.ScopeFlags.{ScopeFlags}
use Rattle.es_scope.specs.declared.flags.SymbolFlags.{SymbolFlags}
use Rattle.es_scope.specs.declared.scoping.Scoping.{Scoping}
use Rattle.es_scope.proofs.TableSteps.{bound_within}

or_true : (b : Bool) → (b || true) ≡ true
or_true true = refl
or_true false = refl

or_false : (b : Bool) → (b || false) ≡ b
or_false true = refl
or_false false = refl

found_same : (old new : Scoping) (o : Option ℕ) → ((m : ℕ) → o ≡ Some m → is_mutated new m ≡ is_mutated old m) → is_found_steady new o ≡ is_found_steady old o
found_same old new None h = refl
found_same old new (Some m) h = ap not (h m refl)

-- a name that is not in use is bound nowhere
pub unused-unbound : {S : Type 0} (ctx : TraverseCtx S) (n : ℕ) (x : Text) → uses_of ctx x ≡ false → binding_in (table_of ctx) n x ≡ None
unused-unbound ctx n x e = at (binding_in (table_of ctx) n x) refl where
  at : (o : Option ℕ) → binding_in (table_of ctx) n x ≡ o → o ≡ None
  at None h = refl
  at (Some m) h = absurd (let no : true ≡ false = sym (ctx.in_use n x m h) ∙ e in cc)

-- a binding's symbol is of the table
pub bound-known : (s : Scoping) (n : ℕ) (x : Text) (m : ℕ) → binding_in s n x ≡ Some m → m < symbol_count s
bound-known s n x m e = bound_within s.scopes.items s.symbols.items s.bound n x m e

-- A reference that only reads leaves all steady names so, and makes none steady.
pub steady-read : {S : Type 0} (old new : TraverseCtx S) (symbol : Option ℕ) (flags : ReferenceFlags) → Refers old new symbol flags → flags.write ≡ false → (x : Text) → steady_of new x ≡ steady_of old x
steady-read old new symbol flags r reads x =
    ap (is_found_steady (table_of new)) (r.table.bindings 0 x) ∙
    found_same (table_of old) (table_of new) (binding_in (table_of old) 0 x) (λ m e. rw reads at (r.table.mutated m) ∙ or_false (is_mutated (table_of old) m))

-- a scope more leaves all steady names so, and makes none steady
pub steady-scoped : {S : Type 0} (old new : TraverseCtx S) (parent : ℕ) (flags : ScopeFlags) → AddsScope old new parent flags → (x : Text) → steady_of new x ≡ steady_of old x
steady-scoped old new parent flags a x =
    ap (is_found_steady (table_of new)) (a.table.bindings 0 x) ∙ found_same (table_of old) (table_of new) (binding_in (table_of old) 0 x) (λ m e. a.table.mutated m)

-- a binding of one name leaves the others as they are
pub steady-bound : {S : Type 0} (old new : TraverseCtx S) (scope : ℕ) (name : Text) (flags : SymbolFlags) → Binds old new scope name flags → (x : Text) → bytes_eq name x ≡ false → steady_of new x ≡ steady_of old x
steady-bound old new scope name flags b x other =
    ap (is_found_steady (table_of new)) (b.table.bindings 0 x ∙ unnamed (0 == scope)) ∙
    found_same (table_of old) (table_of new) (binding_in (table_of old) 0 x) (λ m e. b.table.mutated m)
  where
    unnamed : (here : Bool) → (if here && bytes_eq name x then Some (symbol_count (table_of old)) else binding_in (table_of old) 0 x) ≡ binding_in (table_of old) 0 x
    unnamed true = rw other refl
    unnamed false = refl

-- what is mutated after a binding, and then a reference that writes
noted : (old mid new : Scoping) (name : Text) (scope : ℕ) (kind : SymbolFlags) (symbol node : ℕ) (flags : ReferenceFlags) → HasBindingMore old mid scope name kind → HasReferenceMore mid new (reference_to node (Some symbol) flags) → flags.write ≡ true → (m : ℕ) → is_mutated new m ≡ (is_mutated old m || symbol == m)
noted old mid new name scope kind symbol node flags b r writes m = rw writes at (r.mutated m) ∙ ap (λ w. w || symbol == m) (b.mutated m)

other_symbol : (was : Bool) (count symbol m : ℕ) → symbol ≡ count → m < count → (was || symbol == m) ≡ was
other_symbol was count symbol m k l = at (symbol == m) refl where
  at : (w : Bool) → (symbol == m) ≡ w → (was || symbol == m) ≡ was
  at true f = absurd (omega (arith, l, k, eqb-true symbol m f))
  at false f = rw f (or_false was)

-- A name that was not in use, bound and then written: the steady names are as they were. Of the context between only its
-- table counts.
pub steady-declared : {S : Type 0} (old : TraverseCtx S) (mid : Scoping) (new : TraverseCtx S) (name : Text) (scope : ℕ) (kind : SymbolFlags) (symbol node : ℕ) (flags : ReferenceFlags) → uses_of old name ≡ false → HasBindingMore (table_of old) mid scope name kind → symbol ≡ symbol_count (table_of old) → HasReferenceMore mid (table_of new) (reference_to node (Some symbol) flags) → flags.write ≡ true → (x : Text) → steady_of new x ≡ steady_of old x
steady-declared old mid new name scope kind symbol node flags unused b k r writes x = at (0 == scope && bytes_eq name x) refl where
  at : (same : Bool) → (0 == scope && bytes_eq name x) ≡ same → steady_of new x ≡ steady_of old x
  at true e =
      let this : name ≡ x = (bytes_decides name x).0 (and_parts (0 == scope) (bytes_eq name x) e).1 in
      let found : binding_in (table_of new) 0 x ≡ Some symbol = r.bindings 0 x ∙ (rw e at (b.bindings 0 x) ∙ ap Some (sym k)) in
      let unbound : binding_in (table_of old) 0 x ≡ None = unused-unbound old 0 x (ap (uses_of old) (sym this) ∙ unused) in
      let written : is_mutated (table_of new) symbol ≡ true = noted (table_of old) mid (table_of new) name scope kind symbol node flags b r writes symbol ∙ (ap (λ w. is_mutated (table_of old) symbol || w) (eq-eqb symbol symbol refl) ∙ or_true (is_mutated (table_of old) symbol)) in
      ap (is_found_steady (table_of new)) found ∙ (ap not written ∙ sym (ap (is_found_steady (table_of old)) unbound))
  at false e =
      let found : binding_in (table_of new) 0 x ≡ binding_in (table_of old) 0 x = r.bindings 0 x ∙ rw e at (b.bindings 0 x) in
      ap (is_found_steady (table_of new)) found ∙
      found_same (table_of old) (table_of new) (binding_in (table_of old) 0 x) (λ m f. noted (table_of old) mid (table_of new) name scope kind symbol node flags b r writes m ∙ other_symbol (is_mutated (table_of old) m) (symbol_count (table_of old)) symbol m k (bound-known (table_of old) 0 x m f))

-- the same of three contexts
pub steady-made : {S : Type 0} (old mid new : TraverseCtx S) (name : Text) (scope : ℕ) (kind : SymbolFlags) (symbol : ℕ) (flags : ReferenceFlags) → uses_of old name ≡ false → Binds old mid scope name kind → symbol ≡ symbol_count (table_of old) → Refers mid new (Some symbol) flags → flags.write ≡ true → (x : Text) → steady_of new x ≡ steady_of old x
steady-made old mid new name scope kind symbol flags unused b k r writes x = steady-declared old (table_of mid) new name scope kind symbol mid.ast.next flags unused b.table k r.table writes x
