-- Declarators and declarations, as they are seen.
use Rattle.std.specs.Prelude.{◌≡◌, ℕ, ◌+◌, List, [], ◌∷◌, true, Option, Some, None, string_bytes}
use Rattle.es_tree.specs.Words.{Text}
use Rattle.es_tree.specs.declared.ast_type.AstType.TheVariants.{Identifier, VariableDeclarator}
use Rattle.es_tree.specs.Tree.{Tree, node, done, ◌then◌, missing, one}
use Rattle.es_scope.specs.declared.context_names.BoundIdentifier.{BoundIdentifier}
use Rattle.es_resolution.specs.Declarations.{Bound}
use Rattle.es_steps.specs.Nodes.{declaration_node, declarator_with, made}
use Rattle.es_steps.specs.Open.{Pending}
use Rattle.lower_temporaries.specs.SeenTrees.{is_inert, seen_alone}

-- a fresh name, with its symbol
abbrev pub bound_as : BoundIdentifier → Bound
bound_as b = record { name = string_bytes b.name; symbol = Some b.symbol_id.0 }

-- a declarator of this binding, with this initialiser if there is one
abbrev pub declarator_of : Tree → Option Tree → Tree
declarator_of p None = node VariableDeclarator (made [] []) (one p then missing then done)
declarator_of p (Some e) = declarator_with p e

-- an initialiser, if there is one, as it is seen
abbrev pub seen_option : Option Tree → Option Tree
seen_option None = None
seen_option (Some t) = Some (seen_alone t)

-- an initialiser that is inert, if there is one
abbrev pub IsInert : Option Tree → Type 0
IsInert None = Unit {0}
IsInert (Some t) = is_inert t ≡ true

-- a binding identifier with the mark of its symbol
abbrev pub binding_node : ℕ → Text → ℕ → Tree
binding_node id x symbol = node Identifier (record { id = id; start = 0; stop = 0; texts = Some x ∷ []; flags = []; marks = None ∷ Some symbol ∷ [] }) done

-- one declaration of this kind, where there are declarators
abbrev pub declaration_of : Text → List Tree → Option Tree
declaration_of kind [] = None
declaration_of kind (d ∷ ds) = Some (declaration_node kind (d ∷ ds))

-- how many declarations are written for these declarators, and for all that is pending
abbrev pub declarations_for : List Tree → ℕ
declarations_for [] = 0
declarations_for (d ∷ ds) = 1

abbrev pub declarations_written : Pending → ℕ
declarations_written p = declarations_for p.vars + declarations_for p.lets
