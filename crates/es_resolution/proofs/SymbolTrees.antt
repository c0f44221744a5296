-- A program with the symbols that its scope table gives its names: on each identifier, and on each class that of its name inside
-- itself. Nothing else is marked.
use Rattle.std.specs.Prelude.{ℕ, zero, suc, ◌+◌, List, [], ◌∷◌, Option, None}
use Rattle.es_tree.specs.Names.{first_text}
use Rattle.es_tree.specs.Scopes.{own_text}
use Rattle.es_tree.specs.Tree.{Tree, node, Label, Fields, done, ◌then◌, Field, missing, one, many, statements, Trees, empty, ◌before◌}
use Rattle.es_tree.specs.Words.{Text}
use Rattle.es_tree.specs.declared.ast_type.AstType.{AstType}
use Rattle.es_tree.specs.declared.ast_type.AstType.TheVariants.{Identifier, ClassDeclaration, ClassExpression}
use Rattle.es_semantic.specs.Places.{Place, outermost, own_scope, own_scope_count, place_in, scope_count_in, scope_count_in_field}
use Rattle.es_semantic.specs.SymbolsOf.{Declared, find, scope_for, symbol_in, symbols_of}
use Rattle.es_semantic.specs.declared.place.Role.{Role}
use Rattle.es_semantic.specs.declared.place.Role.TheVariants.{Nothing, Binds}

-- the symbol that an identifier of this role declares or refers to
abbrev pub symbol_for : List Declared → Place → Role → Text → Option ℕ
symbol_for ds p Nothing x = None
symbol_for ds p (Binds b) x = symbol_in ds (scope_for ds p b x) x
symbol_for ds p _ x = find ds p.around x

abbrev pub class_symbol : List Declared → ℕ → Fields → Option ℕ
class_symbol ds s (one name then fs) = symbol_in ds s (own_text name)
class_symbol ds s _ = None

abbrev pub own_symbols : List Declared → Place → ℕ → AstType → Label → Fields → List (Option ℕ)
own_symbols ds p n Identifier l fs = symbol_for ds p p.role (first_text l.texts) ∷ []
own_symbols ds p n ClassDeclaration l fs = class_symbol ds (own_scope n ClassDeclaration fs) fs ∷ []
own_symbols ds p n ClassExpression l fs = class_symbol ds (own_scope n ClassExpression fs) fs ∷ []
own_symbols ds p n _ l fs = []

abbrev mutual
  -- the tree with its symbols, where n is the number of the next scope
  pub resolved_tree : List Declared → Place → ℕ → Tree → Tree
  resolved_tree ds p n (node k l fs) = node k (record l { id = 0; marks = own_symbols ds p n k l fs }) (resolved_in ds (place_in p n k l fs) (n + own_scope_count k fs) fs)

  pub resolved_in : List Declared → (ℕ → Place) → ℕ → Fields → Fields
  resolved_in ds ps n done = done
  resolved_in ds ps n (f then fs) = resolved_by ds (ps zero) n f then resolved_in ds (λ i. ps (suc i)) (n + scope_count_in_field f) fs

  pub resolved_by : List Declared → Place → ℕ → Field → Field
  resolved_by ds p n missing = missing
  resolved_by ds p n (one t) = one (resolved_tree ds p n t)
  resolved_by ds p n (many ts) = many (resolved_among ds p n ts)
  resolved_by ds p n (statements ts) = statements (resolved_among ds p n ts)

  pub resolved_among : List Declared → Place → ℕ → Trees → Trees
  resolved_among ds p n empty = empty
  resolved_among ds p n (t before ts) = resolved_tree ds p n t before resolved_among ds p (n + scope_count_in t) ts

-- the program with its symbols
abbrev pub resolved : Tree → Tree
resolved p = resolved_tree (symbols_of p) (outermost p) 1 p
