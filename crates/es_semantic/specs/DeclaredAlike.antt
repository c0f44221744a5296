-- The scope table and the static rules agree on what is declared: over the nodes of a program, one after the other, an identifier
-- is declared by its role exactly where the static rules have a name for it, but for the name of a function or class expression,
-- which it binds for itself alone, so that no declaration clashes with it (ECMA-262, 15.2.5, 15.7.14).
use Rattle.std.specs.Prelude.{◌≡◌, List, [], ◌∷◌, Bool, true, false, ◌||◌}
use Rattle.es_tree.specs.Ancestors.{Ancestor, Visit as SeenVisit, stands_in, visits as seen_visits}
use Rattle.es_tree.specs.DeclaredNames.{Name, bound_names}
use Rattle.es_tree.specs.HasForm.{has_form}
use Rattle.es_tree.specs.Names.{first_text}
use Rattle.es_tree.specs.Tree.{Tree, node}
use Rattle.es_tree.specs.declared.ast_type.AstType.TheVariants.{FunctionExpression, ClassExpression, Identifier}
use Rattle.es_tree.specs.declared.table.Sort.TheVariants.{Program as s-Program}
use Rattle.es_semantic.specs.Places.{Visit, visits_of}
use Rattle.es_semantic.specs.declared.place.Role.{Role}
use Rattle.es_semantic.specs.declared.place.Role.TheVariants.{Binds}

-- whether an identifier of this role is declared
abbrev pub declares : Role → Bool
declares (Binds b) = true
declares _ = false

abbrev pub is_any : List Name → Bool
is_any [] = false
is_any (n ∷ ns) = true

-- the name of a function or class expression
abbrev pub is_own_name : List Ancestor → Bool
is_own_name up = stands_in FunctionExpression 0 up || stands_in ClassExpression 0 up

-- A node as the static rules visit it, and as the scope table does.
pub record IsAlike (seen : SeenVisit) (v : Visit) : Type 0 where
  pub same : seen.tree ≡ node v.kind v.label v.fields
  pub declared : v.kind ≡ Identifier → declares v.place.role ≡ (is_any (bound_names seen.ancestors (first_text v.label.texts)) || is_own_name seen.ancestors)

abbrev pub AreAlike : List SeenVisit → List Visit → Type 0
AreAlike [] [] = Unit {0}
AreAlike (s ∷ ss) (v ∷ vs) = IsAlike s v × AreAlike ss vs
AreAlike _ _ = ⊥

abbrev pub LawDeclared : Type 0
LawDeclared = (p : Tree) → has_form s-Program p ≡ true → AreAlike (seen_visits [] 0 p) (visits_of p)
