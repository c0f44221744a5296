-- The flags of the scope of a program.
use Rattle.std.specs.Prelude.{true, false}
use Rattle.es_tree.specs.Symbols.{is_strict}
use Rattle.es_tree.specs.Tree.{Tree}
use Rattle.es_scope.specs.declared.flags.ScopeFlags.{ScopeFlags}

abbrev pub program_flags : Tree → ScopeFlags
program_flags p = record {
  function = false;
  arrow = false;
  top = true;
  class_static_block = false;
  catch_clause = false;
  constructor = false;
  derived = false;
  strict = is_strict p;
}
