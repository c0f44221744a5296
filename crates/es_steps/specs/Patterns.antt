-- Object patterns with a rest that move to a declaration of their own, and names that are apart.
use Rattle.std.specs.Prelude.{◌≡◌, ◌||◌, ◌&&◌, not, Bool, false, List, ◌∷◌, codes, []}
use Rattle.es_resolution.specs.Declarations.{Bound, declared}
use Rattle.es_resolution.specs.Resolved.{bound_by}
use Rattle.es_semantic.specs.declared.place.Role.{Role}
use Rattle.es_steps.specs.Nodes.{identifier, declarator_with, declaration_node}
use Rattle.es_tree.specs.Constructs.{any_kind, is_rest}
use Rattle.es_tree.specs.Tree.{Tree, node, Fields, done, ◌then◌, one, many, Trees, empty, ◌before◌}
use Rattle.es_tree.specs.Words.{Text}
use Rattle.es_tree.specs.declared.ast_type.AstType.TheVariants.{ArrayPattern, AssignmentPattern, ObjectPattern, PatternProperty, RestElement}

-- what has form declares nothing here
abbrev pub IsSilent : Role → Tree → Type 0
IsSilent r t = (v : Bool) → declared v r t ≡ []

-- whether a binding pattern holds an object pattern with a rest; default values and computed keys don't count
abbrev mutual
  pub holds_rest : Tree → Bool
  holds_rest (node ObjectPattern l (many ps then fs)) = any_kind is_rest ps || some_holds_rest ps
  holds_rest (node PatternProperty l (k then fs)) = first_holds_rest fs
  holds_rest (node AssignmentPattern l fs) = first_holds_rest fs
  holds_rest (node ArrayPattern l fs) = field_holds_rest fs
  holds_rest (node RestElement l fs) = first_holds_rest fs
  holds_rest _ = false

  pub first_holds_rest : Fields → Bool
  first_holds_rest (one t then fs) = holds_rest t
  first_holds_rest _ = false

  pub field_holds_rest : Fields → Bool
  field_holds_rest (one t then fs) = holds_rest t || field_holds_rest fs
  field_holds_rest (f then fs) = field_holds_rest fs
  field_holds_rest done = false

  pub some_holds_rest : Trees → Bool
  some_holds_rest empty = false
  some_holds_rest (t before ts) = holds_rest t || some_holds_rest ts

abbrev pub let_statement : Tree → Bound → Tree
let_statement p x = declaration_node (codes "let") (declarator_with p (identifier x) ∷ [])

-- NAMES

-- names in use, but for these
abbrev pub avoiding : List Bound → (Text → Bool) → Text → Bool
avoiding bs in_use y = in_use y && not (bound_by bs y)

abbrev pub no_name_of : List Bound → Bound → Bool
no_name_of bs b = not (bound_by bs b.name)
