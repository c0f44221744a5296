-- The nodes of helpers and of their calls. They are made, at no place of the source; n is the id of the first of them.
use Rattle.std.specs.Prelude.{ℕ, ◌+◌, List, [], ◌∷◌, Bool, false, Option, Some, None, codes}
use Rattle.es_tree.specs.Helpers.{helper_text}
use Rattle.es_tree.specs.Tree.{Tree, node, Label, done, ◌then◌, one, many, trees}
use Rattle.es_tree.specs.Words.{Text}
use Rattle.es_tree.specs.declared.ast_type.AstType.TheVariants.{CallExpression, Identifier, MemberExpression}
use Rattle.es_tree.specs.declared.helper.Helper.{Helper}

abbrev pub made : ℕ → List (Option Text) → List Bool → List (Option ℕ) → Label
made id ts fs ms = record { id = id; start = 0; stop = 0; texts = ts; flags = fs; marks = ms }

-- a name with the marks of its reference and of its symbol, if it has them (13.1)
abbrev pub name_node : ℕ → Text → Option ℕ → Option ℕ → Tree
name_node id x reference symbol = node Identifier (made id (Some x ∷ []) [] (reference ∷ symbol ∷ [])) done

-- `babelHelpers.NAME` (13.3.2)
abbrev pub external_node : ℕ → ℕ → Option ℕ → Helper → Tree
external_node n reference symbol helper =
    node MemberExpression (made (n + 2) [] (false ∷ false ∷ []) []) (one (name_node n (codes "babelHelpers") (Some reference) symbol) then one (name_node (n + 1) (helper_text helper) None None) then done)

-- a call of f with these arguments (13.3.6)
abbrev pub called_node : ℕ → Tree → List Tree → Tree
called_node id f ts = node CallExpression (made id [] (false ∷ []) []) (one f then many (trees ts) then done)
