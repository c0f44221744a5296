-- An arrow whose body is an expression, and what two steps leave of it: it gets a body, into which its pattern moves.
use Rattle.std.specs.Prelude.{◌≡◌, [], ◌∷◌, true, codes}
use Rattle.es_tree.specs.Fresh.{IsFreshName}
use Rattle.es_tree.specs.HasForm.{has_form}
use Rattle.es_tree.specs.StaticRules.{breaks}
use Rattle.es_tree.specs.Tree.{Tree, node, done, ◌then◌, one, many, empty, ◌before◌}
use Rattle.es_tree.specs.declared.ast_type.AstType.TheVariants.{ArrowFunctionExpression}
use Rattle.es_tree.specs.declared.table.Sort.TheVariants.{Program as s-Program}
use Rattle.es_steps.specs.Nodes.{body_node, call_node, identifier, made, return_node, statement_node, word}
use Rattle.es_steps.specs.Patterns.{let_statement}
use Rattle.es_steps.specs.Steps.{Whole}
use Rattle.es_arrow_bodies.specs.ArrowBodies.{WithBodies}
use Rattle.es_valid_rests.specs.Examples.{Leads, program_of, rest_pattern, the_ref}

-- `({ a, ...b }) => f(b)` becomes `({ a, ...b }) => { return f(b); }`, and that `_ref => { let { a, ...b } = _ref; return f(b); }`

abbrev pub called : Tree
called = call_node (word (codes "f")) (word (codes "b") ∷ [])

abbrev pub arrow_of : Tree → Tree → Tree
arrow_of p b = node ArrowFunctionExpression (made [] []) (many (p before empty) then one b then done)

abbrev pub short_arrow : Tree
short_arrow = arrow_of rest_pattern called

abbrev pub with_body : Tree
with_body = arrow_of rest_pattern (body_node (return_node called before empty))

abbrev pub with_moved : Whole → Tree
with_moved w = arrow_of (identifier (the_ref w)) (body_node (let_statement rest_pattern (the_ref w) before (return_node called before empty)))

abbrev pub script : Tree → Tree
script t = program_of (codes "script") (statement_node t ∷ [])

-- a program, and what it becomes, which is one
pub record BecomesScript (w : Whole) (p q : Tree) : Type 0 where
  pub formed : has_form s-Program p ≡ true
  pub kept : breaks p ≡ []
  pub steps : Leads WithBodies w (the_ref w) p q
  pub formed_after : has_form s-Program q ≡ true
  pub kept_after : breaks q ≡ []

abbrev pub LawBodyExamples : Type 0
LawBodyExamples = (w : Whole) → IsFreshName w.in_use (codes "ref") (codes "_ref") → w.in_use (codes "a") ≡ true → w.in_use (codes "b") ≡ true → BecomesScript w (script short_arrow) (script (with_moved w))
