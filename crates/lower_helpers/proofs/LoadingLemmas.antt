-- What follows where a helper is loaded.
use Rattle.std.proofs.Common.{◌≡◌, ℕ, zero, suc, ◌+◌, ◌<◌, ◌≤◌, arith, refl, sym, ◌∙◌, ap, subst, Bool, true, false, true≢false, cond, List, [], ◌∷◌, ◌++◌, length, Option, None, Some, bytes_eq, is_some, slice_index_or}
use Rattle.std.specs.Cmp.Lexicographic.{bytes_decides}
use Rattle.es_tree.specs.Tree.{Tree}
use Rattle.es_tree.specs.Words.{Text}
use Rattle.es_tree.specs.declared.helper.Helper.{Helper}
use Rattle.es_tree.specs.declared.options.HelperLoaderMode.{HelperLoaderMode}
use Rattle.es_tree.specs.declared.options.HelperLoaderMode.TheVariants.{External, Inline, Runtime}
use Rattle.es_scope.proofs.SteadyContexts.{unused-unbound}
use Rattle.es_scope.specs.Contexts.{KeepsNames, KeptBeside, reference_to, table_of, uses_of}
use Rattle.es_scope.specs.TableChanges.{HasBindingMore, HasReferenceMore}
use Rattle.es_scope.specs.Tables.{binding_in, symbol_count}
use Rattle.es_scope.specs.declared.context.TraverseCtx.{TraverseCtx}
use Rattle.es_scope.specs.declared.flags.SymbolFlags.{SymbolFlags}
use Rattle.es_scope.specs.declared.scoping.Scoping.{Scoping}
use Rattle.lower_stores.specs.LoadedHelpers.{LocalName}
use Rattle.lower_helpers.specs.Loading.{AreBoundAtTop, LoadsHelper, ReadsName, external, helper_flags, helper_ids, loaded_before, loaded_now, reading}
use Rattle.lower_helpers.specs.declared.helper_stores.HelperStores.{HelperStores}

-- WHAT IS KEPT, CALL AFTER CALL

names_then : {S : Type 0} {a b c : TraverseCtx S} → KeepsNames a b → KeepsNames b c → KeepsNames a c
names_then g h = record { used = λ x. h.used x ∙ g.used x; made_is = h.made_is ∙ g.made_is }

beside_then : {S : Type 0} {a b c : TraverseCtx S} → KeptBeside a b → KeptBeside b c → KeptBeside a c
beside_then g h = record { state = h.state ∙ g.state; options = h.options ∙ g.options; around = h.around ∙ g.around; scopes = h.scopes ∙ g.scopes; place = h.place ∙ g.place }

pub read_then : {S : Type 0} {table : Scoping} {symbol : Option ℕ} {m n : ℕ} {a b c : TraverseCtx S} → ReadsName table symbol m a b → c.ast.next ≡ b.ast.next + 1 → table_of c ≡ table_of b → KeptBeside b c → n ≡ m + 1 → ReadsName table symbol n a c
read_then {S} {table} {symbol} {m} {n} {a} {b} {c} reads e same beside f = record {
  refers = subst (λ t. HasReferenceMore table t (reference_to a.ast.next symbol reading)) (sym same) reads.refers;
  next = omega (arith, reads.next, e, f);
  kept = beside_then reads.kept beside;
}

-- NAMES BOUND AT THE TOP

pub bound_local : (s : Scoping) (es : List (Helper × LocalName)) (k : ℕ) (e : Helper × LocalName) → k < length es → slice_index_or es k e ≡ e → AreBoundAtTop s es → binding_in s 0 e.1.name ≡ Some e.1.symbol
bound_local s [] k e h at b = absurd (omega (arith, h))
bound_local s (x ∷ es) zero e h at b = subst (λ (y : Helper × LocalName). binding_in s 0 y.1.name ≡ Some y.1.symbol) at b.0
bound_local s (x ∷ es) (suc k) e h at b = bound_local s es k e (omega (arith, h)) at b.1

bound_in_more : (s t : Scoping) (es : List (Helper × LocalName)) → ((x : Text) (m : ℕ) → binding_in s 0 x ≡ Some m → binding_in t 0 x ≡ Some m) → AreBoundAtTop s es → AreBoundAtTop t es
bound_in_more s t [] h b = tt
bound_in_more s t (e ∷ es) h b = (h e.1.name e.1.symbol b.0, bound_in_more s t es h b.1)

bound_and_one : (s : Scoping) (es : List (Helper × LocalName)) (e : Helper × LocalName) → AreBoundAtTop s es → binding_in s 0 e.1.name ≡ Some e.1.symbol → AreBoundAtTop s (es ++ e ∷ [])
bound_and_one s [] e b h = (h, tt)
bound_and_one s (x ∷ es) e b h = (b.0, bound_and_one s es e b.1 h)

kept_choice : (b : Bool) (x y r : Option ℕ) → y ≡ r → (b ≡ true → r ≡ x) → cond b x y ≡ r
kept_choice true x y r h g = sym (g refl)
kept_choice false x y r h g = h

nothing_is : {X : Type 0} (m : ℕ) (r : Option ℕ) → r ≡ None → r ≡ Some m → X
nothing_is m None e h = absurd (true≢false (sym (ap is_some h)))
nothing_is m (Some n) e h = absurd (true≢false (ap is_some e))

-- a name that is bound stays so where a fresh one is bound
bound_still : {S : Type 0} (ctx : TraverseCtx S) (table : Scoping) (x : Text) (flags : SymbolFlags) → uses_of ctx x ≡ false → HasBindingMore (table_of ctx) table 0 x flags → (y : Text) (m : ℕ) → binding_in (table_of ctx) 0 y ≡ Some m → binding_in table 0 y ≡ Some m
bound_still ctx table x flags free more y m h =
    more.bindings 0 y
    ∙ kept_choice (bytes_eq x y) (Some (symbol_count (table_of ctx))) (binding_in (table_of ctx) 0 y) (Some m) h
    (λ e. nothing_is m (binding_in (table_of ctx) 0 y) (unused-unbound ctx 0 y (ap (uses_of ctx) (sym ((bytes_decides x y).0 e)) ∙ free)) h)

bound_fresh : {S : Type 0} (ctx : TraverseCtx S) (table : Scoping) (x : Text) (flags : SymbolFlags) → HasBindingMore (table_of ctx) table 0 x flags → binding_in table 0 x ≡ Some (symbol_count (table_of ctx))
bound_fresh ctx table x flags more =
    more.bindings 0 x ∙ ap (λ b. cond b (Some (symbol_count (table_of ctx))) (binding_in (table_of ctx) 0 x)) ((bytes_decides x x).1 refl)

-- all names stay bound, and that of a helper that is loaded now is bound too
pub loads_bound : {S : Type 0} (helper : Helper) (more : ℕ) (a b : HelperStores) (old new : TraverseCtx S) (t : Tree) → LoadsHelper helper more a b old new t → AreBoundAtTop (table_of old) a.helper_loader.loaded → AreBoundAtTop (table_of new) b.helper_loader.loaded
loads_bound helper more a b old new t (external mode same found names reads) h =
    subst (λ (s : HelperStores). AreBoundAtTop (table_of new) s.helper_loader.loaded) (sym same)
    (bound_in_more (table_of old) (table_of new) a.helper_loader.loaded (λ x m e. reads.refers.bindings 0 x ∙ e) h)
loads_bound helper more a b old new t (loaded_before mode same there names reads) h =
    subst (λ (s : HelperStores). AreBoundAtTop (table_of new) s.helper_loader.loaded) (sym same)
    (bound_in_more (table_of old) (table_of new) a.helper_loader.loaded (λ x m e. reads.refers.bindings 0 x ∙ e) h)
loads_bound helper more a b old new t (loaded_now {x} {table} mode absent added binds reads) h =
    let flags = helper_flags a.source_type in
    let loaded = a.helper_loader.loaded in
    let entry : Helper × LocalName = (helper, record { name = x; symbol = symbol_count (table_of old) }) in
    subst (λ (s : HelperStores). AreBoundAtTop (table_of new) s.helper_loader.loaded) (sym added)
    (bound_and_one (table_of new) loaded entry
    (bound_in_more (table_of old) (table_of new) loaded (λ y m e. reads.refers.bindings 0 y ∙ bound_still old table x flags binds.fresh.free binds.binds y m e) h)
    (reads.refers.bindings 0 x ∙ bound_fresh old table x flags binds.binds))

-- IDS

-- the next id after a helper is loaded
pub next_id : {S : Type 0} (helper : Helper) (more : ℕ) (a b : HelperStores) (old new : TraverseCtx S) (t : Tree) → LoadsHelper helper more a b old new t → new.ast.next ≡ old.ast.next + helper_ids a.helper_loader.mode + more
next_id helper more a b old new t (external mode same found names reads) =
    let n = old.ast.next in
    let e : n + (3 + more) ≡ n + 3 + more = omega arith in
    reads.next ∙ e ∙ ap (λ m. n + helper_ids m + more) (sym mode)
next_id helper more a b old new t (loaded_before mode same there names reads) =
    let n = old.ast.next in
    let e : n + (1 + more) ≡ n + 1 + more = omega arith in
    reads.next ∙ e ∙ ap (λ m. n + helper_ids m + more) (sym mode)
next_id helper more a b old new t (loaded_now mode absent added binds reads) =
    let n = old.ast.next in
    let e : n + (1 + more) ≡ n + 1 + more = omega arith in
    reads.next ∙ e ∙ ap (λ m. n + helper_ids m + more) (sym mode)

pub few_ids : (mode : HelperLoaderMode) → helper_ids mode ≤ 3
few_ids External = omega arith
few_ids Runtime = omega arith
few_ids Inline = omega arith

-- one id more
pub with_id : {S : Type 0} (helper : Helper) (more : ℕ) (a b : HelperStores) (old mid new : TraverseCtx S) (t : Tree) → LoadsHelper helper more a b old mid t → new.ast.next ≡ mid.ast.next + 1 → table_of new ≡ table_of mid → KeepsNames mid new → KeptBeside mid new → LoadsHelper helper (more + 1) a b old new t
with_id helper more a b old mid new t (external {symbol} mode same found names reads) e table kept beside =
    external mode same found (names_then names kept) (read_then reads e table beside (omega arith))
with_id helper more a b old mid new t (loaded_before mode same there names reads) e table kept beside =
    loaded_before mode same there (names_then names kept) (read_then reads e table beside (omega arith))
with_id helper more a b old mid new t (loaded_now mode absent added binds reads) e table kept beside =
    loaded_now mode absent added (record { fresh = binds.fresh; makes = record { used = λ x. kept.used x ∙ binds.makes.used x; made_is = kept.made_is ∙ binds.makes.made_is }; binds = binds.binds }) (read_then reads e table beside (omega arith))
