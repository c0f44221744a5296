-- What is to be imported, as statements. They are made, at no place of the source; n is the id of the first node of each.
use Rattle.std.specs.Prelude.{ℕ, ◌+◌, List, [], ◌∷◌, Option, Some, None}
use Rattle.es_tree.specs.Tree.{Tree, node, done, ◌then◌, one, many, trees, empty}
use Rattle.es_tree.specs.Words.{Text}
use Rattle.es_tree.specs.declared.ast_type.AstType.TheVariants.{ImportDeclaration, ImportDefaultSpecifier, ImportSpecifier, StringLiteral}
use Rattle.lower_stores.specs.Imports.{ImportedName, Sources}
use Rattle.lower_helpers.specs.HelperNodes.{made, name_node}

abbrev pub string_node : ℕ → Text → Tree
string_node id t = node StringLiteral (made id (Some t ∷ []) [] []) done

-- a name that is bound here (13.1)
abbrev pub binding_node : ℕ → ImportedName → Tree
binding_node id i = name_node id i.local None (Some i.symbol)

-- IMPORTS OF A MODULE (16.2.2)

-- `x`, or `{ imported as x }`
abbrev pub import_specifier : ℕ → Option Text → ImportedName → Tree
import_specifier n None i = node ImportDefaultSpecifier (made (n + 1) [] [] []) (one (binding_node n i) then done)
import_specifier n (Some imported) i = node ImportSpecifier (made (n + 2) [] [] []) (one (name_node n imported None None) then one (binding_node (n + 1) i) then done)

abbrev pub specifier_node : ℕ → ImportedName → Tree
specifier_node n i = import_specifier n i.imported i

-- how many nodes it is
abbrev pub specifier_ids : Option Text → ℕ
specifier_ids None = 2
specifier_ids (Some imported) = 3

abbrev pub specifiers : ℕ → List ImportedName → List Tree
specifiers n [] = []
specifiers n (i ∷ is) = specifier_node n i ∷ specifiers (n + specifier_ids i.imported) is

abbrev pub specifiers_ids : List ImportedName → ℕ
specifiers_ids [] = 0
specifiers_ids (i ∷ is) = specifier_ids i.imported + specifiers_ids is

-- `import .. from "m"`, with all that is imported of m
abbrev pub import_node : ℕ → Text × List ImportedName → Tree
import_node n e =
    let m = n + specifiers_ids e.1 in node ImportDeclaration (made (m + 1) [] [] []) (many (trees (specifiers n e.1)) then one (string_node m e.0) then many empty then done)

-- one statement for each module, in order
abbrev pub import_statements : ℕ → Sources → List Tree
import_statements n [] = []
import_statements n (e ∷ es) = import_node n e ∷ import_statements (n + (specifiers_ids e.1 + 2)) es

abbrev pub import_ids : Sources → ℕ
import_ids [] = 0
import_ids (e ∷ es) = specifiers_ids e.1 + 2 + import_ids es
