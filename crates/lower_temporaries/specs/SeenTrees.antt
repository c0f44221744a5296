-- What is seen of made nodes, whatever scopes bind, and trees of which the same is seen whatever scopes bind.
use Rattle.std.specs.Prelude.{◌≡◌, ℕ, Bool, true, false, not, [], ◌∷◌, Option, Some, None, bytes_eq, codes}
use Rattle.es_tree.specs.Names.{first_text}
use Rattle.es_tree.specs.Tree.{Tree, node, Label, Fields, done}
use Rattle.es_tree.specs.Walks.{any_node}
use Rattle.es_tree.specs.Words.{Text}
use Rattle.es_tree.specs.declared.ast_type.AstType.{AstType}
use Rattle.es_tree.specs.declared.ast_type.AstType.TheVariants.{ArrayExpression, BooleanLiteral, CallExpression, Identifier, MemberExpression, NullLiteral, NumericLiteral, StringLiteral, ThisExpression, VariableDeclaration, VariableDeclarator}
use Rattle.es_tree.specs.declared.ids.Span.{Span}
use Rattle.es_resolution.specs.Declarations.{Bound}
use Rattle.es_resolution.specs.Seen.{seen}
use Rattle.es_steps.specs.Nodes.{made}

-- whatever scopes bind, this is seen of a node
abbrev pub IsSeenAs : Tree → Tree → Type 0
IsSeenAs t u = (names : ℕ → Text → Option ℕ) → seen names t ≡ u

-- the same of a node that may be there
abbrev pub IsSeenAsOption : Option Tree → Option Tree → Type 0
IsSeenAsOption None None = Unit {0}
IsSeenAsOption (Some t) (Some u) = IsSeenAs t u
IsSeenAsOption _ _ = ⊥

-- what scopes bind that bind nothing
abbrev pub no_bindings : ℕ → Text → Option ℕ
no_bindings s x = None

abbrev pub seen_alone : Tree → Tree
seen_alone t = seen no_bindings t

-- INERT TREES, which may be declared: no node of them is a construct of a lowering, and none is a class, so that the same is seen of them
-- whatever scopes bind.

abbrev pub is_inert_node : AstType → Label → Fields → Bool
is_inert_node VariableDeclaration l fs = not (bytes_eq (first_text l.texts) (codes "using"))
is_inert_node VariableDeclarator l fs = true
is_inert_node Identifier l fs = true
is_inert_node ThisExpression l fs = true
is_inert_node NullLiteral l fs = true
is_inert_node BooleanLiteral l fs = true
is_inert_node NumericLiteral l fs = true
is_inert_node StringLiteral l fs = true
is_inert_node ArrayExpression l fs = true
is_inert_node MemberExpression l fs = true
is_inert_node CallExpression l fs = true
is_inert_node _ l fs = false

abbrev pub is_active_node : AstType → Label → Fields → Bool
is_active_node k l fs = not (is_inert_node k l fs)

abbrev pub is_inert : Tree → Bool
is_inert t = not (any_node is_active_node t)

-- a name with its symbol, if it has one
abbrev pub named : Text → Option ℕ → Bound
named x s = record { name = x; symbol = s }

-- an identifier of this name at a place of the source
abbrev pub identifier_at : Span → Bound → Tree
identifier_at span b = node Identifier (record (made (Some b.name ∷ []) []) { start = span.start; stop = span.end; marks = b.symbol ∷ [] }) done
