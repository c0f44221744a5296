-- What a script requires, as statements. They are made, at no place of the source; n is the id of the first node of each.
use Rattle.std.specs.Prelude.{◌≡◌, ℕ, zero, suc, ◌+◌, List, [], ◌∷◌, Option, Some, None, codes, length}
use Rattle.es_tree.specs.Tree.{Tree, node, done, ◌then◌, one, many, trees}
use Rattle.es_tree.specs.Words.{Text}
use Rattle.es_tree.specs.declared.ast_type.AstType.TheVariants.{VariableDeclaration, VariableDeclarator}
use Rattle.es_scope.specs.Contexts.{KeepsNames, scope_at, table_of}
use Rattle.es_scope.specs.Tables.{Finds, reference_count}
use Rattle.es_scope.specs.declared.context.TraverseCtx.{TraverseCtx}
use Rattle.lower_stores.specs.Imports.{ImportedName, Sources, by_default}
use Rattle.lower_helpers.specs.HelperNodes.{called_node, made, name_node}
use Rattle.lower_helpers.specs.ImportNodes.{binding_node, string_node}
use Rattle.lower_helpers.specs.Loading.{ReadsName}

-- of each module one thing is imported, by default
abbrev pub IsAlone : List ImportedName → Type 0
IsAlone (i ∷ []) = i.imported ≡ None
IsAlone _ = ⊥

abbrev pub AreAlone : Sources → Type 0
AreAlone [] = Unit {0}
AreAlone (e ∷ es) = IsAlone e.1 × AreAlone es

-- the first, where there is one
abbrev pub first_import : List ImportedName → ImportedName
first_import [] = by_default [] 0
first_import (i ∷ is) = i

-- `require("m")`, with the marks of the reference of `require` and of its symbol, if it has one (13.3.6)
abbrev pub required : ℕ → ℕ → Option ℕ → Text → Tree
required n reference symbol m = called_node (n + 2) (name_node n (codes "require") (Some reference) symbol) (string_node (n + 1) m ∷ [])

-- `var x = require("m");` (14.3.2)
abbrev pub require_node : ℕ → ℕ → Option ℕ → Text → ImportedName → Tree
require_node n reference symbol m i =
    let declarator = node VariableDeclarator (made (n + 4) [] [] []) (one (binding_node (n + 3) i) then one (required n reference symbol m) then done) in
    node VariableDeclaration (made (n + 5) (Some (codes "var") ∷ []) [] []) (many (trees (declarator ∷ [])) then done)

-- one statement for each module, in order
abbrev pub require_statements : ℕ → ℕ → Option ℕ → Sources → List Tree
require_statements n reference symbol [] = []
require_statements n reference symbol (e ∷ es) = require_node n reference symbol e.0 (first_import e.1) ∷ require_statements (n + 6) (reference + 1) symbol es

-- so many statements, each of six nodes with a reference that reads the name of this symbol
pub data ReadsTimes {S : Type 0} (symbol : Option ℕ) : ℕ → TraverseCtx S → TraverseCtx S → Type 0 where
  never : {ctx : TraverseCtx S} → ReadsTimes symbol zero ctx ctx
  once_more : {k : ℕ} {old mid new : TraverseCtx S} → ReadsTimes symbol k old mid → KeepsNames mid new → ReadsName (table_of mid) symbol 6 mid new → ReadsTimes symbol (suc k) old new

-- These are the statements, and `require` is looked up from the place (9.4.2).
pub record WritesRequires {S : Type 0} (sources : Sources) (old new : TraverseCtx S) (ss : List Tree) : Type 0 where
  pub symbol : Option ℕ
  pub found : Finds (table_of old) (codes "require") (scope_at old) symbol
  pub statements_are : ss ≡ require_statements old.ast.next (reference_count (table_of old)) symbol sources
  pub reads : ReadsTimes symbol (length sources) old new
