-- What scopes declare (ECMA-262, 8.2), in programs without functions and classes.
use Rattle.std.specs.Prelude.{Bool, true, false, not, ◌||◌, List, [], ◌∷◌, ◌++◌, bytes_eq, if◌then◌else◌, codes}
use Rattle.es_tree.specs.Words.{Text}
use Rattle.es_tree.specs.Names.{first_text}
use Rattle.es_tree.specs.BoundNames.{bound_identifiers}
use Rattle.es_tree.specs.Scopes.{Declared, own_text}
use Rattle.es_tree.specs.Tree.{Tree, node, Fields, done, ◌then◌, Field, missing, one, many, statements, Trees, empty, ◌before◌}
use Rattle.es_tree.specs.declared.ast_type.AstType.{AstType}
use Rattle.es_tree.specs.declared.ast_type.AstType.TheVariants.{Program, BlockStatement, VariableDeclaration, ForStatement, ForInStatement, ForOfStatement, SwitchStatement, CatchClause, ImportDeclaration, ImportSpecifier, ImportDefaultSpecifier, ImportNamespaceSpecifier, ExportNamedDeclaration}

abbrev pub is_word : Text → Text → Bool
is_word word t = bytes_eq t word

-- `using` binds as `const` does
abbrev pub binding_word : Text → Text
binding_word t = if is_word (codes "using") t then codes "const" else t

abbrev pub declared_as : Text → List Tree → List Declared
declared_as word [] = []
declared_as word (x ∷ xs) = record { name = own_text x; kind = word } ∷ declared_as word xs

abbrev pub first_bound : Fields → List Tree
first_bound (one t then fs) = bound_identifiers t
first_bound _ = []

abbrev pub declarator_bound : Tree → List Tree
declarator_bound (node k l fs) = first_bound fs

abbrev pub declarators_names : Text → Trees → List Declared
declarators_names word empty = []
declarators_names word (d before ds) = declared_as word (declarator_bound d) ++ declarators_names word ds

abbrev pub declarations_names : Text → Fields → List Declared
declarations_names word (many ds then fs) = declarators_names word ds
declarations_names word _ = []

-- the names of a declaration, by its word, or none
abbrev pub names_where : Bool → Text → Fields → List Declared
names_where true word fs = declarations_names (binding_word word) fs
names_where false word fs = []

abbrev mutual
  -- what hoists out of a node: the names of each `var` (8.2.6)
  pub var_names : Tree → List Declared
  var_names (node VariableDeclaration l fs) = names_where (is_word (codes "var") (first_text l.texts)) (first_text l.texts) fs
  var_names (node k l fs) = var_names_in fs

  pub var_names_in : Fields → List Declared
  var_names_in done = []
  var_names_in (f then fs) = var_names_at f ++ var_names_in fs

  pub var_names_at : Field → List Declared
  var_names_at missing = []
  var_names_at (one t) = var_names t
  var_names_at (many ts) = var_names_all ts
  var_names_at (statements ts) = var_names_all ts

  pub var_names_all : Trees → List Declared
  var_names_all empty = []
  var_names_all (t before ts) = var_names t ++ var_names_all ts

-- the names that a statement binds in the scope of its list (8.2.4)
abbrev pub lexical_names : Tree → List Declared
lexical_names (node VariableDeclaration l fs) = names_where (not (is_word (codes "var") (first_text l.texts))) (first_text l.texts) fs
lexical_names _ = []

abbrev pub lexical_in : Trees → List Declared
lexical_in empty = []
lexical_in (t before ts) = lexical_names t ++ lexical_in ts

abbrev pub using_here : Tree → Bool
using_here (node VariableDeclaration l fs) = is_word (codes "using") (first_text l.texts)
using_here _ = false

abbrev pub using_in : Trees → Bool
using_in empty = false
using_in (t before ts) = using_here t || using_in ts

abbrev pub cases_names : Trees → List Declared
cases_names empty = []
cases_names (node k l (f then statements ts then fs) before cs) = lexical_in ts ++ cases_names cs
cases_names (node k l fs before cs) = cases_names cs

abbrev pub cases_use : Trees → Bool
cases_use empty = false
cases_use (node k l (f then statements ts then fs) before cs) = using_in ts || cases_use cs
cases_use (node k l fs before cs) = cases_use cs

abbrev pub last_name : Fields → List Declared
last_name done = []
last_name (one (node k l gs) then done) = record { name = first_text l.texts; kind = codes "const" } ∷ []
last_name (f then fs) = last_name fs

-- what a node's own scope declares, and what an import's specifier binds
abbrev pub own_names : AstType → Fields → List Declared
own_names BlockStatement (statements ts then fs) = lexical_in ts
own_names ForStatement (one t then fs) = lexical_names t
own_names ForInStatement (one t then fs) = lexical_names t
own_names ForOfStatement (one t then fs) = lexical_names t
own_names SwitchStatement (f then (many cs then fs)) = cases_names cs
own_names CatchClause fs = declared_as (codes "let") (first_bound fs)
own_names ImportSpecifier fs = last_name fs
own_names ImportDefaultSpecifier fs = last_name fs
own_names ImportNamespaceSpecifier fs = last_name fs
own_names _ fs = []

abbrev pub own_use : AstType → Fields → Bool
own_use Program (f then (statements ts then fs)) = using_in ts
own_use BlockStatement (statements ts then fs) = using_in ts
own_use ForStatement (one t then fs) = using_here t
own_use ForOfStatement (one t then fs) = using_here t
own_use SwitchStatement (f then (many cs then fs)) = cases_use cs
own_use _ fs = false

abbrev pub names_of_all : List Declared → List Text
names_of_all [] = []
names_of_all (d ∷ ds) = d.name ∷ names_of_all ds

-- THE TOP OF A PROGRAM: its lexical names, its imports, and each `var` below

abbrev pub import_names : Trees → List Declared
import_names empty = []
import_names (node k l fs before is) = last_name fs ++ import_names is

abbrev pub top_names : Tree → List Declared
top_names (node VariableDeclaration l fs) = declarations_names (binding_word (first_text l.texts)) fs
top_names (node ImportDeclaration l (many is then fs)) = import_names is
top_names (node ExportNamedDeclaration l (one (node VariableDeclaration m fs) then gs)) = declarations_names (binding_word (first_text m.texts)) fs
top_names t = var_names t

abbrev pub top_in : Trees → List Declared
top_in empty = []
top_in (t before ts) = top_names t ++ top_in ts

abbrev pub tops : Fields → List Declared
tops (f then (statements ts then fs)) = top_in ts
tops _ = []

-- what the top of a program declares
abbrev pub declared_at_top : Tree → List Declared
declared_at_top (node k l fs) = tops fs
