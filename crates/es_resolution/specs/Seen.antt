-- What a clause sees of a tree: each identifier with the symbol that it declares or refers to, and each class with the symbol of its
-- name inside itself. Ids, the numbers of references and those of scopes are forgotten.
use Rattle.std.specs.Prelude.{ℕ, List, [], ◌∷◌, Option, Some, None}
use Rattle.es_tree.specs.Scopes.{own_text}
use Rattle.es_tree.specs.Tree.{Tree, node, Label, Fields, done, ◌then◌, Field, missing, one, many, statements, Trees, empty, ◌before◌}
use Rattle.es_tree.specs.Words.{Text}
use Rattle.es_tree.specs.declared.ast_type.AstType.{AstType}
use Rattle.es_tree.specs.declared.ast_type.AstType.TheVariants.{Identifier, ClassDeclaration, ClassExpression}
use Rattle.es_semantic.specs.NodeMarks.{scope_mark, symbol_mark}

-- the symbol of the name of a class in the scope that it makes, where what scopes bind is given
abbrev pub name_inside : (ℕ → Text → Option ℕ) → Option ℕ → Fields → Option ℕ
name_inside bound (Some s) (one name then fs) = bound s (own_text name)
name_inside bound _ fs = None

abbrev pub seen_marks : (ℕ → Text → Option ℕ) → AstType → Label → Fields → List (Option ℕ)
seen_marks bound Identifier l fs = symbol_mark l ∷ []
seen_marks bound ClassDeclaration l fs = name_inside bound (scope_mark l) fs ∷ []
seen_marks bound ClassExpression l fs = name_inside bound (scope_mark l) fs ∷ []
seen_marks bound _ l fs = []

abbrev mutual
  -- what is seen of a tree with the marks of a scope table, where the bindings of its scopes are given
  pub seen : (ℕ → Text → Option ℕ) → Tree → Tree
  seen bound (node k l fs) = node k (record l { id = 0; marks = seen_marks bound k l fs }) (seen_in bound fs)

  pub seen_in : (ℕ → Text → Option ℕ) → Fields → Fields
  seen_in bound done = done
  seen_in bound (f then fs) = seen_by bound f then seen_in bound fs

  pub seen_by : (ℕ → Text → Option ℕ) → Field → Field
  seen_by bound missing = missing
  seen_by bound (one t) = one (seen bound t)
  seen_by bound (many ts) = many (seen_among bound ts)
  seen_by bound (statements ts) = statements (seen_among bound ts)

  pub seen_among : (ℕ → Text → Option ℕ) → Trees → Trees
  seen_among bound empty = empty
  seen_among bound (t before ts) = seen bound t before seen_among bound ts
