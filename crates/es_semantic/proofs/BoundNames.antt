-- The names that the table of a program binds.
use Rattle.std.proofs.Common.{◌≡◌, ℕ, zero, suc, ◌&&◌, [], Bool, true, false, Some, None, is_some, slice_get, option_and_then, refl, sym, ap, ◌∙◌, arith}
use Rattle.std.proofs.lemmas.Option.{slice_get_past}
use Rattle.es_tree.specs.Fresh.{is_among}
use Rattle.es_tree.specs.Names.{names_of}
use Rattle.es_tree.specs.Scopes.{declared_of, declares}
use Rattle.es_tree.specs.Tree.{Tree}
use Rattle.es_tree.specs.Words.{Text}
use Rattle.es_tree.proofs.SymbolNumbers.{symbol-some}
use Rattle.es_scope.specs.Contexts.{BindsNamesOf, bound_of, made_of, table_of}
use Rattle.es_scope.specs.Numbers.{numbers}
use Rattle.es_semantic.specs.ScopingOf.{IsScopingOf}
use Rattle.es_scope.specs.Tables.{binding_in}
use Rattle.es_scope.specs.declared.context.TraverseCtx.{TraverseCtx}
use Rattle.es_scope.specs.declared.scoping.Scoping.{Scoping}

-- the program's scope binds what the program declares
pub table-bound : (p : Tree) (s : Scoping) → IsScopingOf p s → (x : Text) → is_some (binding_in s 0 x) ≡ declares (declared_of p) x
table-bound p s h x = ap is_some (h.bindings x) ∙ symbol-some (declared_of p) x

-- a name that a table binds is declared
pub bound-declared : (p : Tree) (s : Scoping) → IsScopingOf p s → (n : ℕ) (x : Text) (m : ℕ) → binding_in s n x ≡ Some m → declares (declared_of p) x ≡ true
bound-declared p s h zero x m e = sym (symbol-some (declared_of p) x) ∙ ap is_some (sym (h.bindings x) ∙ e)
bound-declared p s h (suc n) x m e =
    let past : slice_get s.scopes.items (suc n) ≡ None = slice_get_past s.scopes.items (suc n) (omega (arith, h.one_scope)) in
    absurd (let no : None ≡ Some m = sym (ap (λ o. option_and_then (λ c. numbers c.bindings x) o) past) ∙ e in cc)

-- Where what a program declares is among the names of a tree, its table binds names of the tree alone.
pub binds-names : (p t : Tree) (s : Scoping) → IsScopingOf p s → ((x : Text) → declares (declared_of p) x ≡ true → is_among (names_of t) x ≡ true) → BindsNamesOf t s
binds-names p t s h named = λ n x m e. named x (bound-declared p s h n x m e)

-- before the first fresh name the bound names are those that the program declares
pub bound-first : {S : Type 0} (p : Tree) (ctx : TraverseCtx S) → IsScopingOf p (table_of ctx) → made_of ctx ≡ [] → (x : Text) → bound_of ctx x ≡ declares (declared_of p) x
bound-first p ctx h none x = rw (none, table-bound p (table_of ctx) h x) (at (declares (declared_of p) x))
  where
    at : (b : Bool) → (b && true) ≡ b
    at true = refl
    at false = refl
