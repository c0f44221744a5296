-- What a context says by symbols after a call.
use Rattle.std.proofs.Common.{◌≡◌, ℕ, ◌+◌, ◌==◌, ◌&&◌, ◌||◌, Bool, true, false, if◌then◌else◌, not, ltb, Option, Some, [], unwrap_or, bytes_eq, refl, sym, ap, ◌∙◌, arith}
use Rattle.std.proofs.lemmas.Bool.{eq-eqb, eqb-true}
use Rattle.std.proofs.lemmas.Bool.Decides.{nat_tests}
use Rattle.std.specs.Cmp.Lexicographic.{bytes_decides}
use Rattle.es_tree.specs.References.{is_symbol}
use Rattle.es_tree.specs.Words.{Text}
use Rattle.es_scope.specs.ContextSymbols.{called_of, free_symbol_of, steady_symbols_of}
use Rattle.es_scope.specs.Contexts.{AddsScope, Binds, Refers, table_of}
use Rattle.es_scope.specs.TableChanges.{SameMutated}
use Rattle.es_scope.specs.TableSettings.{MovesBinding, SameBesideScopes, SetsSymbolFlags}
use Rattle.es_scope.specs.Tables.{binding_in, called, is_mutated, is_steady, symbol_count, symbol_name_of}
use Rattle.es_scope.specs.declared.context.TraverseCtx.{TraverseCtx}
use Rattle.es_scope.specs.declared.flags.ReferenceFlags.{ReferenceFlags}
use Rattle.es_scope.specs.declared.flags.ScopeFlags.{ScopeFlags}
use Rattle.es_scope.specs.declared.flags.SymbolFlags.{SymbolFlags}
use Rattle.es_scope.specs.declared.scoping.Scoping.{Scoping}
use Rattle.es_scope.proofs.Lasts.{choice}

or_false : (b : Bool) → (b || false) ≡ b
or_false true = refl
or_false false = refl

or_true : (b : Bool) → (b || true) ≡ true
or_true true = refl
or_true false = refl

and_false : (b : Bool) → (b && false) ≡ false
and_false true = refl
and_false false = refl

same_tests : (n m : ℕ) → (n == m) ≡ (m == n)
same_tests n m = at (n == m) refl where
  at : (b : Bool) → (n == m) ≡ b → b ≡ (m == n)
  at true g = sym (eq-eqb m n (sym (eqb-true n m g)))
  at false g = grind (arith, nat_tests)

-- whether a number is below another, and below the next
below_next : (n count : ℕ) → (count == n) ≡ false → ltb n (count + 1) ≡ ltb n count
below_next n count e = grind (arith, nat_tests)

-- OF TABLES

-- What is known of the symbols of two tables: as many, of the same names, and the same of them steady.
pub record SaysSame (old new : Scoping) : Type 0 where
  pub free : symbol_count new ≡ symbol_count old
  pub names : (n : ℕ) → called new n ≡ called old n
  pub steady : (n : ℕ) → is_steady new n ≡ is_steady old n

pub says-same : (old new : Scoping) → symbol_count new ≡ symbol_count old → ((n : ℕ) → symbol_name_of new n ≡ symbol_name_of old n) → SameMutated old new → SaysSame old new
says-same old new c x m = record {
  free = c;
  names = λ n. ap (λ o. unwrap_or o []) (x n);
  steady = λ n. ap (λ k. ltb n k && not (is_mutated new n)) c ∙ ap (λ b. ltb n (symbol_count old) && not b) (m n);
}

-- where only scopes, their bindings or flags are others
pub says-beside : (old new : Scoping) → SameBesideScopes old new → SaysSame old new
says-beside old new h = says-same old new h.symbols.count h.symbols.names h.mutated

pub says-flagged : (old new : Scoping) (symbol : ℕ) (flags : SymbolFlags) → SetsSymbolFlags old new symbol flags → SaysSame old new
says-flagged old new symbol flags h = says-same old new h.count h.symbol_names h.mutated

pub says-moved : (old new : Scoping) (from to symbol : ℕ) → MovesBinding old new from to symbol → SaysSame old new
says-moved old new from to symbol h = says-same old new h.count h.symbol_names h.mutated

-- OF CONTEXTS

-- a scope more says the same
pub symbols-scoped : {S : Type 0} (old new : TraverseCtx S) (parent : ℕ) (flags : ScopeFlags) → AddsScope old new parent flags → SaysSame (table_of old) (table_of new)
symbols-scoped old new parent flags a = says-same (table_of old) (table_of new) a.table.symbols.count a.table.symbols.names a.table.mutated

-- and so does a reference that only reads
pub symbols-read : {S : Type 0} (old new : TraverseCtx S) (symbol : Option ℕ) (flags : ReferenceFlags) → Refers old new symbol flags → flags.write ≡ false → SaysSame (table_of old) (table_of new)
symbols-read old new symbol flags r reads = says-same (table_of old) (table_of new) r.table.symbols.count r.table.symbols.names (λ n. rw reads at (r.table.mutated n) ∙ or_false (is_mutated (table_of old) n))

-- One that writes leaves all names, and says the same of the other symbols.
pub called-written : {S : Type 0} (old new : TraverseCtx S) (symbol : Option ℕ) (flags : ReferenceFlags) → Refers old new symbol flags → (n : ℕ) → called_of new n ≡ called_of old n
called-written old new symbol flags r n = ap (λ o. unwrap_or o []) (r.table.symbols.names n)

pub free-written : {S : Type 0} (old new : TraverseCtx S) (symbol : Option ℕ) (flags : ReferenceFlags) → Refers old new symbol flags → free_symbol_of new ≡ free_symbol_of old
free-written old new symbol flags r = r.table.symbols.count

pub steady-written : {S : Type 0} (old new : TraverseCtx S) (symbol : Option ℕ) (flags : ReferenceFlags) → Refers old new symbol flags → (n : ℕ) → is_symbol n symbol ≡ false → steady_symbols_of new n ≡ steady_symbols_of old n
steady-written old new symbol flags r n other =
    ap (λ k. ltb n k && not (is_mutated (table_of new) n)) r.table.symbols.count ∙
    ap (λ b. ltb n (symbol_count (table_of old)) && not b) (r.table.mutated n ∙ (ap (λ b. is_mutated (table_of old) n || (flags.write && b)) other ∙ (ap (λ b. is_mutated (table_of old) n || b) (and_false flags.write) ∙ or_false (is_mutated (table_of old) n))))

-- A binding more takes the next symbol for its name.
pub free-bound : {S : Type 0} (old new : TraverseCtx S) (scope : ℕ) (name : Text) (flags : SymbolFlags) → Binds old new scope name flags → free_symbol_of new ≡ free_symbol_of old + 1
free-bound old new scope name flags b = b.table.count

pub called-bound : {S : Type 0} (old new : TraverseCtx S) (scope : ℕ) (name : Text) (flags : SymbolFlags) → Binds old new scope name flags → (n : ℕ) → called_of new n ≡ (if free_symbol_of old == n then name else called_of old n)
called-bound old new scope name flags b n =
    ap (λ o. unwrap_or o []) (b.table.symbol_names n) ∙
    (choice (λ o. unwrap_or o []) (n == symbol_count (table_of old)) (Some name) (symbol_name_of (table_of old) n) ∙ ap (λ v. if v then name else called_of old n) (same_tests n (symbol_count (table_of old))))

-- It is bound there under that name, as a call that moves it asks.
pub stands-bound : {S : Type 0} (old new : TraverseCtx S) (scope : ℕ) (name : Text) (flags : SymbolFlags) → Binds old new scope name flags → binding_in (table_of new) scope (called_of new (free_symbol_of old)) ≡ Some (free_symbol_of old)
stands-bound old new scope name flags b =
    let named : called_of new (free_symbol_of old) ≡ name = called-bound old new scope name flags b (free_symbol_of old) ∙ ap (λ v. if v then name else called_of old (free_symbol_of old)) (eq-eqb (free_symbol_of old) (free_symbol_of old) refl) in
    ap (binding_in (table_of new) scope) named ∙ (b.table.bindings scope name ∙ (ap (λ v. if v && bytes_eq name name then Some (free_symbol_of old) else binding_in (table_of old) scope name) (eq-eqb scope scope refl) ∙ ap (λ v. if v then Some (free_symbol_of old) else binding_in (table_of old) scope name) ((bytes_decides name name).1 refl)))

-- the other symbols are steady as they were
pub steady-added : {S : Type 0} (old new : TraverseCtx S) (scope : ℕ) (name : Text) (flags : SymbolFlags) → Binds old new scope name flags → (n : ℕ) → (free_symbol_of old == n) ≡ false → steady_symbols_of new n ≡ steady_symbols_of old n
steady-added old new scope name flags b n other =
    ap (λ k. ltb n k && not (is_mutated (table_of new) n)) b.table.count ∙
    (ap (λ v. v && not (is_mutated (table_of new) n)) (below_next n (symbol_count (table_of old)) other) ∙ ap (λ v. ltb n (symbol_count (table_of old)) && not v) (b.table.mutated n))

-- A name bound and then written, as a temporary is: the steady symbols are as they were.
pub steady-temporary : {S : Type 0} (old mid new : TraverseCtx S) (scope : ℕ) (name : Text) (kind : SymbolFlags) (symbol : ℕ) (flags : ReferenceFlags) → Binds old mid scope name kind → symbol ≡ free_symbol_of old → Refers mid new (Some symbol) flags → flags.write ≡ true → (n : ℕ) → steady_symbols_of new n ≡ steady_symbols_of old n
steady-temporary old mid new scope name kind symbol flags b k r writes n = at (symbol == n) refl where
  at : (same : Bool) → (symbol == n) ≡ same → steady_symbols_of new n ≡ steady_symbols_of old n
  at true g =
      let this = eqb-true symbol n g in
      let written : is_mutated (table_of new) n ≡ true = r.table.mutated n ∙ (ap (λ v. is_mutated (table_of mid) n || (v && symbol == n)) writes ∙ (ap (λ v. is_mutated (table_of mid) n || v) g ∙ or_true (is_mutated (table_of mid) n))) in
      let past : ltb n (symbol_count (table_of old)) ≡ false = not_below n (symbol_count (table_of old)) (sym this ∙ k) in
      ap (λ v. ltb n (symbol_count (table_of new)) && not v) written ∙ (and_false (ltb n (symbol_count (table_of new))) ∙ sym (ap (λ v. v && not (is_mutated (table_of old) n)) past))
    where
      not_below : (n count : ℕ) → n ≡ count → ltb n count ≡ false
      not_below n count e = grind (arith, nat_tests)
  at false g = steady-written mid new (Some symbol) flags r n g ∙ steady-added old mid scope name kind b n (ap (λ m. m == n) (sym k) ∙ g)
