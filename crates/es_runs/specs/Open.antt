-- Open programs: a tree with what is pending for its statement lists, each list with its own, and beside it what is
-- pending for the program as a whole. A lowering adds declarators while the list that they belong to is still open.
use Rattle.std.specs.Prelude.{List, [], ◌∷◌, ◌++◌, Option, codes, Some, map}
use Rattle.es_tree.specs.Words.{Text}
use Rattle.es_tree.specs.declared.ast_type.AstType.{AstType}
use Rattle.es_tree.specs.declared.ast_type.AstType.TheVariants.{VariableDeclaration, VariableDeclarator}
use Rattle.es_tree.specs.Tree.{Tree, node, Label, Fields, done, ◌then◌, Field, missing, one, many, statements, Trees, empty, ◌before◌, trees}
use Rattle.es_runs.specs.Runs.{made, identifier}

-- Declarators that are to be written at the top of a statement list: those of `var`, and those of `let`.
pub record Pending : Type 0 where
  pub vars : List Tree
  pub lets : List Tree

abbrev pub nothing_pending : Pending
nothing_pending = record { vars = []; lets = [] }

-- an import that is to be written: the default one of the module, or that of a name
pub record Import : Type 0 where
  pub source : Text
  pub imported : Option Text
  pub local : Text

-- What is to be written at the top of the program.
pub record Additions : Type 0 where
  pub imports : List Import
  pub top_level : List Tree

abbrev pub no_additions : Additions
no_additions = record { imports = []; top_level = [] }

-- A tree whose statement lists each have what is pending for them.
mutual
  pub data Open : Type 0 where
    open_node : AstType → Label → OpenFields → Open

  pub data OpenFields : Type 0 where
    ends : OpenFields
    ◌and◌ : OpenField → OpenFields → OpenFields

  pub data OpenField : Type 0 where
    gap : OpenField
    child : Open → OpenField
    children : OpenTrees → OpenField
    list : Pending → OpenTrees → OpenField

  pub data OpenTrees : Type 0 where
    nil : OpenTrees
    ◌next◌ : Open → OpenTrees → OpenTrees

infixr 5 ◌and◌
infixr 5 ◌next◌
-- a tree with nothing pending
abbrev mutual
  pub opened : Tree → Open
  opened (node k l fs) = open_node k l (opened_fields fs)

  pub opened_fields : Fields → OpenFields
  opened_fields done = ends
  opened_fields (f then fs) = opened_field f and opened_fields fs

  pub opened_field : Field → OpenField
  opened_field missing = gap
  opened_field (one t) = child (opened t)
  opened_field (many ts) = children (opened_trees ts)
  opened_field (statements ts) = list nothing_pending (opened_trees ts)

  pub opened_trees : Trees → OpenTrees
  opened_trees empty = nil
  opened_trees (t before ts) = opened t next opened_trees ts

-- the tree alone, whatever is pending
abbrev mutual
  pub closed : Open → Tree
  closed (open_node k l fs) = node k l (closed_fields fs)

  pub closed_fields : OpenFields → Fields
  closed_fields ends = done
  closed_fields (f and fs) = closed_field f then closed_fields fs

  pub closed_field : OpenField → Field
  closed_field gap = missing
  closed_field (child t) = one (closed t)
  closed_field (children ts) = many (closed_trees ts)
  closed_field (list p ts) = statements (closed_trees ts)

  pub closed_trees : OpenTrees → Trees
  closed_trees nil = empty
  closed_trees (t next ts) = closed t before closed_trees ts

-- DECLARATORS

-- `x` as a declarator without initialiser
abbrev pub declarator_node : Text → Tree
declarator_node x = node VariableDeclarator (made [] []) (one (identifier x) then missing then done)

-- one declaration of this kind in front of these statements, where there are declarators
abbrev pub declared : Text → List Tree → Trees → Trees
declared kind [] ts = ts
declared kind (d ∷ ds) ts = node VariableDeclaration (made (Some kind ∷ []) []) (many (trees (d ∷ ds)) then done) before ts

-- the list with its declarators written at its top: first `var`, then `let`
abbrev pub written : Pending → Trees → Trees
written p ts = declared (codes "var") p.vars (declared (codes "let") p.lets ts)

-- `var` declarators of these names more
abbrev pub with_vars : List Text → Pending → Pending
with_vars xs p = record p { vars = p.vars ++ map declarator_node xs }
