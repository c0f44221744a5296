-- The scope table of a core program: one scope, whose symbols are the declared names (ECMA-262, 8.2, 9.1 and 13.1).
-- The definition is total over trees; scopes inside a program are none of a core program's.
use Rattle.std.specs.Prelude.{◌≡◌, ℕ, ◌<◌, Some, None, length, option_map, slice_get}
use Rattle.es_tree.specs.Words.{Text}
use Rattle.es_tree.specs.References.{references, is_mutated_in}
use Rattle.es_tree.specs.Scopes.{declared_of}
use Rattle.es_tree.specs.Symbols.{symbols, symbol_of}
use Rattle.es_tree.specs.Tree.{Tree}
use Rattle.es_semantic.specs.ProgramFlags.{program_flags}
use Rattle.es_semantic.specs.SymbolFlags.{flags_of}
use Rattle.es_scope.specs.Tables.{scope_count, parent_of, scope_flags_of, binding_in, symbol_count, symbol_scope_of, symbol_flags_of, is_mutated, reference_count, reference_at}
use Rattle.es_scope.specs.declared.scoping.Scoping.{Scoping}

pub record IsScopingOf (p : Tree) (s : Scoping) : Type 0 where
  -- the program's scope, numbered 0, and no other
  pub one_scope : scope_count s ≡ 1
  pub parent : parent_of s 0 ≡ None
  pub flags : scope_flags_of s 0 ≡ Some (program_flags p)
  pub bindings : (x : Text) → binding_in s 0 x ≡ symbol_of (declared_of p) x
  -- one symbol for each declared name
  pub all_symbols : symbol_count s ≡ length (symbols (declared_of p))
  pub symbol_scopes : (n : ℕ) → n < symbol_count s → symbol_scope_of s n ≡ Some 0
  pub symbol_flags : (n : ℕ) → symbol_flags_of s n ≡ option_map flags_of (slice_get (symbols (declared_of p)) n)
  pub mutated : (n : ℕ) → n < symbol_count s → is_mutated s n ≡ is_mutated_in p n
  -- the references in node order
  pub all_references : reference_count s ≡ length (references p)
  pub each_reference : (n : ℕ) → reference_at s n ≡ slice_get (references p) n
