-- The scope table of a program: its scopes, symbols and references (ECMA-262, 8.2, 9.1 and 13.1), over every tree.
use Rattle.std.specs.Prelude.{◌≡◌, ℕ, List, [], ◌∷◌, Option, Some, None, length, option_map, option_and_then, slice_get}
use Rattle.es_tree.specs.Tree.{Tree}
use Rattle.es_tree.specs.Words.{Text}
use Rattle.es_scope.specs.Tables.{scope_count, parent_of, scope_flags_of, binding_in, symbol_count, symbol_scope_of, symbol_flags_of, symbol_name_of, is_mutated, reference_count, reference_at}
use Rattle.es_scope.specs.declared.scoping.Scoping.{Scoping}
use Rattle.es_semantic.specs.ReferencesOf.{is_mutated_of, references_of}
use Rattle.es_semantic.specs.ScopesOf.{scopes_of}
use Rattle.es_semantic.specs.SymbolsOf.{symbol_flags, symbol_in, symbols_of}

abbrev pub parent : List ℕ → Option ℕ
parent [] = None
parent (n ∷ ns) = Some n

pub record IsTableOf (p : Tree) (s : Scoping) : Type 0 where
  -- the scopes in node order, the program's first
  pub all_scopes : scope_count s ≡ length (scopes_of p)
  pub parents : (n : ℕ) → parent_of s n ≡ option_and_then (λ r. parent r.around) (slice_get (scopes_of p) n)
  pub flags : (n : ℕ) → scope_flags_of s n ≡ option_map (λ r. r.flags) (slice_get (scopes_of p) n)
  pub bindings : (n : ℕ) (x : Text) → binding_in s n x ≡ symbol_in (symbols_of p) n x
  -- the symbols in the order of first declaration
  pub all_symbols : symbol_count s ≡ length (symbols_of p)
  pub symbol_scopes : (n : ℕ) → symbol_scope_of s n ≡ option_map (λ d. d.scope) (slice_get (symbols_of p) n)
  pub symbol_flags_are : (n : ℕ) → symbol_flags_of s n ≡ option_map (λ d. symbol_flags d.binding) (slice_get (symbols_of p) n)
  pub symbol_names : (n : ℕ) → symbol_name_of s n ≡ option_map (λ d. d.name) (slice_get (symbols_of p) n)
  pub mutated : (n : ℕ) → is_mutated s n ≡ is_mutated_of p n
  -- the references in node order
  pub all_references : reference_count s ≡ length (references_of p)
  pub each_reference : (n : ℕ) → reference_at s n ≡ slice_get (references_of p) n
