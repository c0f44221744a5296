-- The nodes that a context makes.
use Rattle.std.specs.Prelude.{ℕ, [], ◌∷◌, Option, Some}
use Rattle.es_tree.specs.Tree.{Tree, node, done}
use Rattle.es_tree.specs.Words.{Text}
use Rattle.es_tree.specs.declared.ast_type.AstType.TheVariants.{Identifier}
use Rattle.es_tree.specs.declared.ids.Span.{Span}

-- an identifier with the marks of its reference and of its symbol, if it has one
abbrev pub made_identifier : ℕ → Span → Text → ℕ → Option ℕ → Tree
made_identifier id span name reference symbol =
    node Identifier (record { id = id; start = span.start; stop = span.end; texts = Some name ∷ []; flags = []; marks = Some reference ∷ symbol ∷ [] }) done
