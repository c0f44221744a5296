-- The flags of a symbol, by its first declaration.
use Rattle.std.specs.Prelude.{false}
use Rattle.es_tree.specs.Scopes.{Declared}
use Rattle.es_tree.specs.Symbols.{is_function_scoped, is_block_scoped, is_constant}
use Rattle.es_scope.specs.declared.flags.SymbolFlags.{SymbolFlags}

abbrev pub flags_of : Declared → SymbolFlags
flags_of d = record {
  function_scoped = is_function_scoped d;
  block_scoped = is_block_scoped d;
  constant = is_constant d;
  «import» = false;
  catch_variable = false;
  «class» = false;
}
