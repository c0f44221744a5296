-- The names of a tree: those of its bindings and references (ECMA-262, 13.1 and 8.2). Property names, labels and
-- the names of imports and exports in other modules refer to nothing.
use Rattle.std.specs.Prelude.{ℕ, zero, suc, List, [], ◌∷◌, ◌++◌, Bool, true, false, Option, Some, if◌then◌else◌}
use Rattle.es_tree.specs.Words.{Text}
use Rattle.es_tree.specs.Tree.{Tree, node, Label, Fields, done, ◌then◌, Field, missing, one, many, statements, Trees, empty, ◌before◌}
use Rattle.es_tree.specs.declared.ast_type.AstType.{AstType}
use Rattle.es_tree.specs.declared.ast_type.AstType.TheVariants.{
  Identifier,
  MemberExpression,
  MethodDefinition,
  PropertyDefinition,
  ObjectProperty,
  PatternProperty,
  TargetProperty,
  BreakStatement,
  ContinueStatement,
  LabeledStatement,
  ImportSpecifier,
  ExportSpecifier,
  ExportNamedDeclaration,
  ExportAllDeclaration,
}

-- the first text, or none
abbrev pub first_text : List (Option Text) → Text
first_text (Some t ∷ ts) = t
first_text _ = []

-- the truth value at this place, false past the last
abbrev pub flag_at : ℕ → List Bool → Bool
flag_at n [] = false
flag_at zero (b ∷ bs) = b
flag_at (suc n) (b ∷ bs) = flag_at n bs

-- whether the key or the property is computed
abbrev pub has_computed : AstType → List Bool → Bool
has_computed MemberExpression bs = flag_at 0 bs
has_computed MethodDefinition bs = flag_at 1 bs
has_computed PropertyDefinition bs = flag_at 1 bs
has_computed ObjectProperty bs = flag_at 2 bs
has_computed PatternProperty bs = flag_at 1 bs
has_computed TargetProperty bs = flag_at 1 bs
has_computed _ bs = false

-- whether the third field stands: the source of an export
abbrev pub third_stands : Fields → Bool
third_stands (a then (b then (one t then fs))) = true
third_stands _ = false

-- whether an identifier that stands in this field of the node is a name; the fields of a node count from 0
abbrev pub is_name_place : AstType → Label → ℕ → Bool
is_name_place MemberExpression l (suc zero) = has_computed MemberExpression l.flags
is_name_place MethodDefinition l zero = has_computed MethodDefinition l.flags
is_name_place PropertyDefinition l zero = has_computed PropertyDefinition l.flags
is_name_place ObjectProperty l zero = has_computed ObjectProperty l.flags
is_name_place PatternProperty l zero = has_computed PatternProperty l.flags
is_name_place TargetProperty l zero = has_computed TargetProperty l.flags
is_name_place BreakStatement l zero = false
is_name_place ContinueStatement l zero = false
is_name_place LabeledStatement l zero = false
is_name_place ImportSpecifier l zero = false
is_name_place ExportSpecifier l (suc zero) = false
is_name_place ExportAllDeclaration l zero = false
is_name_place _ l n = true

-- an export from another module refers to nothing here
abbrev pub is_reexport : AstType → Fields → Bool
is_reexport ExportNamedDeclaration fs = third_stands fs
is_reexport _ fs = false

abbrev pub own_name : Bool → AstType → Label → List Text
own_name true Identifier l = first_text l.texts ∷ []
own_name _ _ l = []

abbrev mutual
  -- the names in node order; an identifier that is the tree itself counts or not
  pub names_if : Bool → Tree → List Text
  names_if counts (node k l fs) = own_name counts k l ++ (if is_reexport k fs then [] else names_in_fields (is_name_place k l) fs)

  pub names_in_fields : (ℕ → Bool) → Fields → List Text
  names_in_fields counts done = []
  names_in_fields counts (f then fs) = names_in_field (counts zero) f ++ names_in_fields (λ n. counts (suc n)) fs

  pub names_in_field : Bool → Field → List Text
  names_in_field counts missing = []
  names_in_field counts (one t) = names_if counts t
  names_in_field counts (many ts) = names_in_trees ts
  names_in_field counts (statements ts) = names_in_trees ts

  pub names_in_trees : Trees → List Text
  names_in_trees empty = []
  names_in_trees (t before ts) = names_if true t ++ names_in_trees ts

abbrev pub names_of : Tree → List Text
names_of t = names_if true t
