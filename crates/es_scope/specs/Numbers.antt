-- The numbers of symbols by name.
use Rattle.std.specs.Prelude.{ℕ, Option}
use Rattle.std.specs.HashMap.{HashMap, get_by_text}
use Rattle.std.specs.declared.string.String.{String}
use Rattle.es_tree.specs.Words.{Text}
use Rattle.es_tree.specs.Heads.{symbol}
use Rattle.es_tree.specs.declared.ids.SymbolId.{SymbolId}

-- the numbers of the symbols that a map gives to names
abbrev pub numbers : {X S : Type 0} → HashMap (String X) SymbolId S → Text → Option ℕ
numbers bindings x = symbol (get_by_text bindings x)
