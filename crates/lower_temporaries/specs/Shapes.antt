-- Shapes that lowerings ask for, and the place of what they make.
use Rattle.std.specs.Prelude.{Bool, true, false, []}
use Rattle.es_tree.specs.Tree.{Tree, node, Label, Fields, done, ◌then◌, one}
use Rattle.es_tree.specs.declared.ast_type.AstType.TheVariants.{Identifier}
use Rattle.es_tree.specs.declared.ids.Span.{Span}
use Rattle.es_runs.specs.Duplication.{has_no_fields}
use Rattle.es_steps.specs.Nodes.{made}

-- a name
abbrev pub is_name : Tree → Bool
is_name (node Identifier l fs) = has_no_fields fs
is_name _ = false

-- two children, of which this holds
abbrev pub on_two : (Tree → Tree → Bool) → Fields → Bool
on_two P (one a then (one b then done)) = P a b
on_two P _ = false

-- two children
abbrev pub is_pair : Fields → Bool
is_pair fs = on_two (λ a b. true) fs

-- the label of a made node with this span
abbrev pub at_span : Span → Label
at_span s = record (made [] []) { start = s.start; stop = s.end }
