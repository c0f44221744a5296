-- In the scope table of a program the names that are found and not mutated are its steady ones.
use Rattle.std.proofs.Common.{◌≡◌, ℕ, ◌<◌, true, false, not, Option, Some, None, is_some, refl, sym, ap, subst, ◌∙◌, arith}
use Rattle.es_tree.specs.Words.{Text}
use Rattle.es_tree.specs.Scopes.{declared_of, declares, is_steady}
use Rattle.es_tree.specs.Symbols.{symbols, symbol_of}
use Rattle.es_tree.specs.Tree.{Tree}
use Rattle.es_tree.proofs.SymbolNumbers.{place-within, symbol-some}
use Rattle.es_tree.proofs.WrittenSymbols.{mutated-written}
use Rattle.es_semantic.specs.ScopingOf.{IsScopingOf}
use Rattle.es_scope.specs.Tables.{Finds, found_here, found_outside, found_nowhere, binding_in, parent_of, symbol_count, is_found_steady}
use Rattle.es_scope.specs.declared.scoping.Scoping.{Scoping}

-- what is found from a scope that has no parent is its own binding
pub found-outermost : (s : Scoping) (x : Text) (n : ℕ) (r : Option ℕ) → parent_of s n ≡ None → Finds s x n r → r ≡ binding_in s n x
found-outermost s x n (Some m) e (found_here h) = sym h
found-outermost s x n r e (found_outside h g f) = absurd (let no : None ≡ Some _ = sym e ∙ g in cc)
found-outermost s x n None e (found_nowhere h g) = sym h

-- what is found from the program's scope is the symbol of the name
pub found-symbol : (p : Tree) (s : Scoping) → IsScopingOf p s → (x : Text) (r : Option ℕ) → Finds s x 0 r → r ≡ symbol_of (declared_of p) x
found-symbol p s h x r f = found-outermost s x 0 r h.parent f ∙ h.bindings x

-- a symbol that is found is one of the table
pub found-known : (p : Tree) (s : Scoping) → IsScopingOf p s → (x : Text) (n : ℕ) → Finds s x 0 (Some n) → n < symbol_count s
found-known p s h x n f = omega (arith, place-within (symbols (declared_of p)) x n (sym (found-symbol p s h x (Some n) f)), h.all_symbols)

steady_at : (p : Tree) (s : Scoping) → IsScopingOf p s → (x : Text) (r : Option ℕ) → r ≡ symbol_of (declared_of p) x → ((n : ℕ) → r ≡ Some n → n < symbol_count s) → is_found_steady s r ≡ is_steady p x
steady_at p s h x None e known =
    let undeclared : declares (declared_of p) x ≡ false = sym (symbol-some (declared_of p) x) ∙ ap is_some (sym e) in
    rw undeclared refl
steady_at p s h x (Some n) e known =
    let declared : declares (declared_of p) x ≡ true = sym (symbol-some (declared_of p) x) ∙ ap is_some (sym e) in
    rw declared (ap not (h.mutated n (known n refl) ∙ mutated-written p x n (sym e)))

-- A name is found, and its symbol not mutated, exactly where it is steady.
pub found-steady : (p : Tree) (s : Scoping) → IsScopingOf p s → (x : Text) (r : Option ℕ) → Finds s x 0 r → is_found_steady s r ≡ is_steady p x
found-steady p s h x r f = steady_at p s h x r (found-symbol p s h x r f) (λ n e. found-known p s h x n (subst (Finds s x 0) e f))

-- the binding of the program's scope is what is found from there
binding-found : (p : Tree) (s : Scoping) → IsScopingOf p s → (x : Text) → Finds s x 0 (binding_in s 0 x)
binding-found p s h x = at (binding_in s 0 x) refl
  where
    at : (r : Option ℕ) → binding_in s 0 x ≡ r → Finds s x 0 r
    at (Some m) e = found_here e
    at None e = found_nowhere e h.parent

-- by the binding of the program's scope
pub table-steady : (p : Tree) (s : Scoping) → IsScopingOf p s → (x : Text) → is_found_steady s (binding_in s 0 x) ≡ is_steady p x
table-steady p s h x = found-steady p s h x (binding_in s 0 x) (binding-found p s h x)
