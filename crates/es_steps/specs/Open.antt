-- Open programs: a tree with what is pending in it. A statement list has its own declarators, that of a target of arrows also
-- the name that stands for `this` there, and that of a program what is to be written at its top. The body of an arrow that
-- is an expression has declarators of its own. A statement may carry others before and after it.
use Rattle.std.specs.Prelude.{ℕ, zero, suc, List, [], ◌∷◌, ◌++◌, Bool, true, false, Option, Some, None, codes, map, if◌then◌else◌}
use Rattle.es_tree.specs.Words.{Text}
use Rattle.es_tree.specs.HasForm.{same_type}
use Rattle.es_tree.specs.declared.ast_type.AstType.{AstType}
use Rattle.es_tree.specs.declared.ast_type.AstType.TheVariants.{VariableDeclaration, FunctionBody, ArrowFunctionExpression, ImportDeclaration}
use Rattle.es_tree.specs.Tree.{Tree, node, Label, Fields, done, ◌then◌, Field, missing, one, many, statements, Trees, empty, ◌before◌, trees, kind_of}
use Rattle.es_resolution.specs.Declarations.{Bound}
use Rattle.es_steps.specs.Nodes.{made, declarator, body_node, return_node, string_node, this_statement, import_specifier, import_node, joined_trees}

-- PENDING

pub record Pending : Type 0 where
  pub vars : List Tree
  pub lets : List Tree

abbrev pub nothing_pending : Pending
nothing_pending = record { vars = []; lets = [] }

abbrev pub declaration : Text → List Tree → Trees → Trees
declaration kind [] ts = ts
declaration kind (d ∷ ds) ts = node VariableDeclaration (made (Some kind ∷ []) []) (many (trees (d ∷ ds)) then done) before ts

-- the declarators before these statements
abbrev pub written : Pending → Trees → Trees
written p ts = declaration (codes "var") p.vars (declaration (codes "let") p.lets ts)

-- `var` declarators of these names more
abbrev pub with_vars : List Bound → Pending → Pending
with_vars bs p = record p { vars = p.vars ++ map declarator bs }

-- The body of an arrow that is the expression e, with its declarators written: where there are some it becomes a body with
-- them and a `return`.
abbrev pub body_with : List Tree → List Tree → Tree → Tree
body_with [] [] e = e
body_with vs ls e = body_node (declaration (codes "var") vs (declaration (codes "let") ls (return_node e before empty)))

abbrev pub written_body : Pending → Tree → Tree
written_body p e = body_with p.vars p.lets e

-- the list with the target's name for `this`
abbrev pub with_this : Option Bound → Trees → Trees
with_this None ts = ts
with_this (Some x) ts = this_statement x before ts

-- what is to be written at the top of a program: imports, and the declarators of the one `const` statement of excluded keys
pub record Import : Type 0 where
  pub source : Text
  pub imported : Option Text
  pub local : Bound

pub record Additions : Type 0 where
  pub imports : List Import
  pub excluded : List Tree

abbrev pub no_additions : Additions
no_additions = record { imports = []; excluded = [] }

abbrev pub import_statement : Import → Tree
import_statement i = import_node (import_specifier i.imported i.local) (string_node i.source) empty

-- OPEN TREES

mutual
  pub data Open : Type 0 where
    open_node : AstType → Label → OpenFields → Open

  pub data OpenFields : Type 0 where
    ends : OpenFields
    ◌and◌ : OpenField → OpenFields → OpenFields

  pub data OpenField : Type 0 where
    gap : OpenField
    child : Open → OpenField
    body : Pending → Open → OpenField
    children : OpenTrees → OpenField
    list : Pending → Option Bound → Additions → OpenTrees → OpenField

  pub data OpenTrees : Type 0 where
    nil : OpenTrees
    ◌next◌ : Open → OpenTrees → OpenTrees
    -- a statement with those before and after it, and the rest
    flanked : List Tree → Open → List Tree → OpenTrees → OpenTrees

infixr 5 ◌and◌
infixr 5 ◌next◌
-- whether the field of this number may hold an arrow's body
abbrev pub is_body : AstType → ℕ → Bool
is_body ArrowFunctionExpression (suc zero) = true
is_body _ i = false

abbrev pub is_statement_body : Tree → Bool
is_statement_body (node FunctionBody l fs) = true
is_statement_body _ = false

abbrev mutual
  pub opened : Tree → Open
  opened (node k l fs) = open_node k l (opened_fields (is_body k) fs)

  pub opened_fields : (ℕ → Bool) → Fields → OpenFields
  opened_fields bodies done = ends
  opened_fields bodies (f then fs) = opened_field (bodies zero) f and opened_fields (λ i. bodies (suc i)) fs

  pub opened_field : Bool → Field → OpenField
  opened_field b missing = gap
  opened_field true (one t) = if is_statement_body t then child (opened t) else body nothing_pending (opened t)
  opened_field false (one t) = child (opened t)
  opened_field b (many ts) = children (opened_trees ts)
  opened_field b (statements ts) = list nothing_pending None no_additions (opened_trees ts)

  pub opened_trees : Trees → OpenTrees
  opened_trees empty = nil
  opened_trees (t before ts) = opened t next opened_trees ts

-- WRITTEN: what is pending for a list stands before its first statement that is no import. Imports stand in the list of a program
-- alone (16.2).

abbrev pub is_import : Tree → Bool
is_import t = same_type (kind_of t) ImportDeclaration

-- these statements before the first that is no import
abbrev pub after_imports : Trees → Trees → Trees
after_imports bs empty = bs
after_imports bs (t before ts) = if is_import t then t before after_imports bs ts else joined_trees bs (t before ts)

-- the constants of excluded keys, the name of `this`, imports, `var` and `let`
abbrev pub pending_statements : Pending → Option Bound → Additions → Trees
pending_statements p x a = declaration (codes "const") a.excluded (with_this x (joined_trees (trees (map import_statement a.imports)) (written p empty)))

-- a list with all that is pending for it
abbrev pub whole_list : Pending → Option Bound → Additions → Trees → Trees
whole_list p x a ts = after_imports (pending_statements p x a) ts

abbrev pub flanks_with : List Tree → Tree → List Tree → Trees → Trees
flanks_with bs t cs ts = joined_trees (trees bs) (t before joined_trees (trees cs) ts)

-- the tree with all that is pending written
abbrev mutual
  pub finished : Open → Tree
  finished (open_node k l fs) = node k l (finished_fields fs)

  pub finished_fields : OpenFields → Fields
  finished_fields ends = done
  finished_fields (f and fs) = finished_field f then finished_fields fs

  pub finished_field : OpenField → Field
  finished_field gap = missing
  finished_field (child t) = one (finished t)
  finished_field (body p t) = one (written_body p (finished t))
  finished_field (children ts) = many (finished_trees ts)
  finished_field (list p x a ts) = statements (whole_list p x a (finished_trees ts))

  pub finished_trees : OpenTrees → Trees
  finished_trees nil = empty
  finished_trees (t next ts) = finished t before finished_trees ts
  finished_trees (flanked bs t cs ts) = flanks_with bs (finished t) cs (finished_trees ts)

abbrev pub followed_by : OpenTrees → OpenTrees → OpenTrees
followed_by nil us = us
followed_by (t next ts) us = t next followed_by ts us
followed_by (flanked bs t cs ts) us = flanked bs t cs (followed_by ts us)
