-- Duplication: an expression that is read more than once. Some are written down again, and the others take a temporary: the
-- object of `o().p ||= r` gives `(_o = o()).p || (_o.p = r)`. What may be written again of names is told by their symbols.
use Rattle.std.specs.Prelude.{◌≡◌, ℕ, List, [], ◌∷◌, ◌&&◌, Bool, true, false, Option, Some, None}
use Rattle.es_tree.specs.Words.{Text}
use Rattle.es_tree.specs.Fresh.{IsFreshName}
use Rattle.es_tree.specs.Tree.{Tree, node, ◌then◌, one}
use Rattle.es_tree.specs.declared.ast_type.AstType.TheVariants.{Identifier, ParenthesizedExpression}
use Rattle.es_runs.specs.Duplication.{has_no_fields, duplicate_base, is_read_again as is_read_again_without_names}
use Rattle.es_runs.specs.Rules.{assign_node}
use Rattle.es_resolution.specs.Declarations.{Bound, symbol_of}
use Rattle.es_steps.specs.Nodes.{identifier}
use Rattle.es_steps.specs.Steps.{Whole}

-- TEMPORARIES

-- The next temporary: the first fresh name for a base, with the next free symbol.
pub record IsNext (w : Whole) (base : Text) (b : Bound) : Type 0 where
  pub fresh : IsFreshName w.in_use base b.name
  pub symbol : b.symbol ≡ Some w.free_symbol

-- NAMES

-- whether it is a symbol of these
abbrev pub is_among_symbols : (ℕ → Bool) → Option ℕ → Bool
is_among_symbols symbols None = false
is_among_symbols symbols (Some s) = symbols s

abbrev pub no_symbol : Option ℕ → Bool
no_symbol s = false

-- whether parentheses around an expression have it alone, as ECMA-262 has it (13.2.9)
abbrev pub is_alone : Tree → Bool
is_alone (node ParenthesizedExpression l (one t then fs)) = has_no_fields fs && is_alone t
is_alone _ = true

abbrev pub no_text : Text → Bool
no_text x = false

-- whether an expression gives the same each time and asks nothing: a name of these symbols, or what es_runs says of all else
abbrev pub is_read_again : (Option ℕ → Bool) → Tree → Bool
is_read_again again (node Identifier l fs) = again (symbol_of l) && has_no_fields fs
is_read_again again t = is_read_again_without_names no_text t

-- the temporaries that it takes, the expression, what is written at its first reading, and what at each further one
pub data IsDuplicated (w : Whole) : List Bound → Tree → Tree → Tree → Type 0 where
  read_again : {e : Tree} → is_read_again (is_among_symbols w.steady) e ≡ true → IsDuplicated w [] e e e
  by_temporary : {e : Tree} {x : Bound} → is_read_again (is_among_symbols w.steady) e ≡ false → IsNext w (duplicate_base e) x → IsDuplicated w (x ∷ []) e (assign_node (identifier x) e) (identifier x)
