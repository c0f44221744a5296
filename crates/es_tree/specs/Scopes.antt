-- The scope of a core program: what its declarations bind, and which names are written (ECMA-262, 8.2 and 9.1). All
-- bindings of a core program stand in the program's scope.
use Rattle.std.specs.Prelude.{List, [], ◌∷◌, ◌++◌, ◌&&◌, Bool, bytes_eq, not}
use Rattle.std.specs.List.{list_any}
use Rattle.es_tree.specs.Words.{Text}
use Rattle.es_tree.specs.Names.{first_text}
use Rattle.es_tree.specs.Fresh.{is_among}
use Rattle.es_tree.specs.Walks.{any_node}
use Rattle.es_tree.specs.Tree.{Tree, node, Label, Fields, ◌then◌, one, many, statements, Trees, empty, ◌before◌}
use Rattle.es_tree.specs.declared.ast_type.AstType.{AstType}
use Rattle.es_tree.specs.declared.ast_type.AstType.TheVariants.{Identifier, VariableDeclaration, AssignmentExpression, UpdateExpression, ParenthesizedExpression}

-- DECLARED NAMES (ECMA-262, 8.2.6 and 8.2.7)

-- A declared name, and the word that declares it.
pub record Declared : Type 0 where
  pub name : Text
  pub kind : Text

abbrev pub own_text : Tree → Text
own_text (node k l fs) = first_text l.texts

abbrev pub name_in : Fields → Text
name_in (one n then fs) = own_text n
name_in _ = []

abbrev pub declarator_name : Tree → Text
declarator_name (node k l fs) = name_in fs

abbrev pub declared_names : Text → Trees → List Declared
declared_names kind empty = []
declared_names kind (d before ds) = record { name = declarator_name d; kind = kind } ∷ declared_names kind ds

abbrev pub declared_in : AstType → Text → Fields → List Declared
declared_in VariableDeclaration kind (many ds then fs) = declared_names kind ds
declared_in _ kind fs = []

abbrev pub declared_by : Tree → List Declared
declared_by (node k l fs) = declared_in k (first_text l.texts) fs

abbrev pub declared_in_body : Trees → List Declared
declared_in_body empty = []
declared_in_body (n before ns) = declared_by n ++ declared_in_body ns

abbrev pub program_names : Fields → List Declared
program_names (ds then statements body then fs) = declared_in_body body
program_names _ = []

-- what the declarations of the program's body declare, in their order
abbrev pub declared_of : Tree → List Declared
declared_of (node k l fs) = program_names fs

abbrev pub is_named : Text → Declared → Bool
is_named x d = bytes_eq d.name x

-- whether one of these is this name
abbrev pub declares : List Declared → Text → Bool
declares ds x = list_any (is_named x) ds

-- WRITTEN NAMES (ECMA-262, 13.4 and 13.15)

-- the name that is written where this is the target, parentheses looked through
abbrev pub target_names : Tree → List Text
target_names (node Identifier l fs) = first_text l.texts ∷ []
target_names (node ParenthesizedExpression l (one t then fs)) = target_names t
target_names _ = []

-- the name that a node writes by itself
abbrev pub written_by : AstType → Fields → List Text
written_by AssignmentExpression (one t then fs) = target_names t
written_by UpdateExpression (one t then fs) = target_names t
written_by _ fs = []

abbrev pub writes : Text → AstType → Label → Fields → Bool
writes x k l fs = is_among (written_by k fs) x

-- whether a reference of the program writes this name
abbrev pub is_written : Text → Tree → Bool
is_written x t = any_node (writes x) t

-- a bound name that no reference writes: it reads alike twice in a row
abbrev pub is_steady : Tree → Text → Bool
is_steady p x = declares (declared_of p) x && not (is_written x p)
