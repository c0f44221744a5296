-- A table after one scope or one symbol more, and at its start.
use Rattle.std.proofs.Common.{◌≡◌, ℕ, zero, suc, ◌+◌, ◌==◌, ◌&&◌, false, if◌then◌else◌, Option, Some, None, option_map, option_and_then, unwrap_or, List, [], ◌∷◌, ◌++◌, length, slice_get, bytes_eq, string_bytes, refl, sym, ap, ◌∙◌, arith, length-append}
use Rattle.std.proofs.lemmas.Option.{slice_get_past}
use Rattle.es_tree.specs.Heads.{scope}
use Rattle.es_tree.specs.Words.{Text}
use Rattle.es_scope.specs.TableChanges.{HasBindingMore, HasScopeMore, IsRootAlone, with_last}
use Rattle.es_scope.specs.Tables.{binding_in, parent_of, scope_count, scope_flags_of, symbol_count, symbol_flags_of, symbol_name_of, symbol_scope_of}
use Rattle.es_scope.specs.declared.flags.ScopeFlags.{ScopeFlags}
use Rattle.es_scope.specs.declared.scoping.Scoping.{Scoping}
use Rattle.es_scope.proofs.Lasts.{with_last-map}
use Rattle.es_semantic.specs.ScopesOf.{ScopeRow}
use Rattle.es_semantic.specs.SymbolsOf.{Declared, declared, is_bound, symbol_flags}
use Rattle.es_semantic.specs.TableOf.{parent}
use Rattle.es_semantic.specs.Walks.{Holds}
use Rattle.es_semantic.specs.declared.place.Binding.{Binding}
use Rattle.es_semantic.proofs.SymbolPlaces.{symbol-more}

with_last-same : {X : Type 0} (c d : ℕ) (x : X) (f g : ℕ → Option X) (n : ℕ) → c ≡ d → f n ≡ g n → with_last c x f n ≡ with_last d x g n
with_last-same c d x f g n e h = ap (λ m. if n == m then Some x else f n) e ∙ ap (λ o. if n == d then Some x else o) h

one_more : {X : Type 0} (xs : List X) (y : X) → length (xs ++ y ∷ []) ≡ length xs + 1
one_more xs y = omega (arith, length-append xs (y ∷ []))

pub Holds-scope : (rows : List ScopeRow) (ds : List Declared) (old new : Scoping) (up : ℕ) (around outer : List ℕ) (flags : ScopeFlags) → around ≡ up ∷ outer → HasScopeMore old new up flags → Holds rows ds old → Holds (rows ++ record { around = around; flags = flags } ∷ []) ds new
Holds-scope rows ds old new up around outer flags e more h =
    let row : ScopeRow = record { around = around; flags = flags } in
    record {
      all_scopes = omega (arith, more.count, h.all_scopes, one_more rows row);
      parents = λ n.
          more.parents n ∙
          (with_last-same (scope_count old) (length rows) up (parent_of old) (λ m. option_and_then (λ r. parent r.around) (slice_get rows m)) n h.all_scopes (h.parents n) ∙
          sym (with_last-map (λ o. option_and_then (λ r. parent r.around) o) rows row up n (ap parent e)));
      flags = λ n.
          more.flags_are n ∙
          (with_last-same (scope_count old) (length rows) flags (scope_flags_of old) (λ m. option_map (λ r. r.flags) (slice_get rows m)) n h.all_scopes (h.flags n) ∙
          sym (with_last-map (λ o. option_map (λ r. r.flags) o) rows row flags n refl));
      bindings = λ n x. more.bindings n x ∙ h.bindings n x;
      all_symbols = more.symbols.count ∙ h.all_symbols;
      symbol_scopes = λ n. more.symbols.scopes n ∙ h.symbol_scopes n;
      symbol_flags_are = λ n. more.symbols.flags n ∙ h.symbol_flags_are n;
      symbol_names = λ n. more.symbols.names n ∙ h.symbol_names n;
      mutated = λ n. more.mutated n ∙ h.mutated n;
      none_referred = more.references.count ∙ h.none_referred;
    }

pub Holds-symbol : (rows : List ScopeRow) (ds : List Declared) (old new : Scoping) (s : ℕ) (x : Text) (b : Binding) → is_bound ds s x ≡ false → HasBindingMore old new s x (symbol_flags b) → Holds rows ds old → Holds rows (ds ++ declared s x b ∷ []) new
Holds-symbol rows ds old new s x b e more h =
    let d : Declared = declared s x b in
    record {
      all_scopes = more.scopes.count ∙ h.all_scopes;
      parents = λ n. more.scopes.parents n ∙ h.parents n;
      flags = λ n. more.scopes.flags n ∙ h.flags n;
      bindings = λ n y.
          more.bindings n y ∙
          (ap (λ m. if n == s && bytes_eq x y then Some m else binding_in old n y) h.all_symbols ∙
          (ap (λ o. if n == s && bytes_eq x y then Some (length ds) else o) (h.bindings n y) ∙ sym (symbol-more ds s x b e n y)));
      all_symbols = omega (arith, more.count, h.all_symbols, one_more ds d);
      symbol_scopes = λ n.
          more.symbol_scopes n ∙
          (with_last-same (symbol_count old) (length ds) s (symbol_scope_of old) (λ m. option_map (λ c. c.scope) (slice_get ds m)) n h.all_symbols (h.symbol_scopes n) ∙
          sym (with_last-map (λ o. option_map (λ c. c.scope) o) ds d s n refl));
      symbol_flags_are = λ n.
          more.symbol_flags n ∙
          (with_last-same (symbol_count old) (length ds) (symbol_flags b) (symbol_flags_of old) (λ m. option_map (λ c. symbol_flags c.binding) (slice_get ds m)) n h.all_symbols (h.symbol_flags_are n) ∙
          sym (with_last-map (λ o. option_map (λ c. symbol_flags c.binding) o) ds d (symbol_flags b) n refl));
      symbol_names = λ n.
          more.symbol_names n ∙
          (with_last-same (symbol_count old) (length ds) x (symbol_name_of old) (λ m. option_map (λ c. c.name) (slice_get ds m)) n h.all_symbols (h.symbol_names n) ∙
          sym (with_last-map (λ o. option_map (λ c. c.name) o) ds d x n refl));
      mutated = λ n. more.mutated n ∙ h.mutated n;
      none_referred = more.references.count ∙ h.none_referred;
    }

-- AT THE START

-- the table of one scope that binds nothing
pub Holds-root : (flags : ScopeFlags) (s : Scoping) → IsRootAlone flags s → Holds (record { around = []; flags = flags } ∷ []) [] s
Holds-root flags s h = record {
  all_scopes = h.count;
  parents = parents;
  flags = flags_are;
  bindings = λ n x. h.bindings n x;
  all_symbols = h.symbols;
  symbol_scopes = λ n. ap (λ o. option_map (λ b. b.scope.0) o) (no_symbol n);
  symbol_flags_are = λ n. ap (λ o. option_map (λ b. b.flags) o) (no_symbol n);
  symbol_names = λ n. ap (λ o. option_map (λ b. string_bytes b.name) o) (no_symbol n);
  mutated = λ n. ap (λ o. unwrap_or (option_map (λ b. b.mutated) o) false) (no_symbol n);
  none_referred = h.references;
}
  where
    root : ScopeRow
    root = record { around = []; flags = flags }

    no_symbol : (n : ℕ) → slice_get s.symbols.items n ≡ None
    no_symbol n = slice_get_past s.symbols.items n (omega (arith, h.symbols))

    no_scope : (n : ℕ) → slice_get s.scopes.items (suc n) ≡ None
    no_scope n = slice_get_past s.scopes.items (suc n) (omega (arith, h.count))

    parents : (n : ℕ) → parent_of s n ≡ option_and_then (λ r. parent r.around) (slice_get (root ∷ []) n)
    parents zero = h.parent
    parents (suc n) = ap (λ o. option_and_then (λ c. scope c.parent) o) (no_scope n)

    flags_are : (n : ℕ) → scope_flags_of s n ≡ option_map (λ r. r.flags) (slice_get (root ∷ []) n)
    flags_are zero = h.flags_are
    flags_are (suc n) = ap (λ o. option_map (λ c. c.flags) o) (no_scope n)
