-- The nodes of a program with their places: the scopes around each, and what stands there (ECMA-262, 8.2, 9.1, 10.2.11,
-- 14.2, 14.7.4, 14.12, 14.15, 15.7, 16.1 and 16.2). The program's scope is numbered 0, and the others from 1 in node order.
use Rattle.std.specs.Prelude.{ℕ, zero, suc, ◌+◌, List, [], ◌∷◌, ◌++◌, Bool, true, false, ◌&&◌, ◌||◌, Option, Some, None, if◌then◌else◌}
use Rattle.es_tree.specs.Children.{child_at}
use Rattle.es_tree.specs.Symbols.{has_use_strict, is_strict}
use Rattle.es_tree.specs.Tree.{Tree, node, Label, Fields, done, ◌then◌, Field, missing, one, many, statements, Trees, empty, ◌before◌}
use Rattle.es_tree.specs.declared.ast_type.AstType.{AstType}
use Rattle.es_tree.specs.declared.ast_type.AstType.TheVariants.{
  BlockStatement,
  StaticBlock,
  FunctionDeclaration,
  FunctionExpression,
  FunctionBody,
  ArrowFunctionExpression,
  ClassDeclaration,
  ClassExpression,
  ForStatement,
  ForInStatement,
  ForOfStatement,
  SwitchStatement,
  CatchClause,
}
use Rattle.es_semantic.specs.RolesOf.{reads, role_at}
use Rattle.es_semantic.specs.declared.place.Role.{Role}

-- SCOPES OF NODES

-- whether a node of this kind makes a scope inside a program
abbrev pub makes_scope : AstType → Bool
makes_scope BlockStatement = true
makes_scope StaticBlock = true
makes_scope FunctionDeclaration = true
makes_scope FunctionExpression = true
makes_scope FunctionBody = true
makes_scope ArrowFunctionExpression = true
makes_scope ClassDeclaration = true
makes_scope ClassExpression = true
makes_scope ForStatement = true
makes_scope ForInStatement = true
makes_scope ForOfStatement = true
makes_scope SwitchStatement = true
makes_scope CatchClause = true
makes_scope _ = false

-- whether a function expression has a name, which has a scope by itself, around the function's
abbrev pub has_name_scope : AstType → Fields → Bool
has_name_scope FunctionExpression (one name then fs) = true
has_name_scope _ fs = false

-- whether what stands in this field is inside the node's scope: the name of a declaration isn't, nor that of a function
-- expression, nor what a `switch` tests
abbrev pub is_inside : AstType → ℕ → Bool
is_inside FunctionDeclaration zero = false
is_inside FunctionExpression zero = false
is_inside ClassDeclaration zero = false
is_inside SwitchStatement zero = false
is_inside k n = true

-- how many scopes a node makes by itself
abbrev pub own_scope_count : AstType → Fields → ℕ
own_scope_count k fs = if has_name_scope k fs then 2 else if makes_scope k then 1 else 0

-- how many scopes a tree has
abbrev mutual
  pub scope_count_in : Tree → ℕ
  scope_count_in (node k l fs) = own_scope_count k fs + scope_count_in_fields fs

  pub scope_count_in_fields : Fields → ℕ
  scope_count_in_fields done = 0
  scope_count_in_fields (f then fs) = scope_count_in_field f + scope_count_in_fields fs

  pub scope_count_in_field : Field → ℕ
  scope_count_in_field missing = 0
  scope_count_in_field (one t) = scope_count_in t
  scope_count_in_field (many ts) = scope_count_in_trees ts
  scope_count_in_field (statements ts) = scope_count_in_trees ts

  pub scope_count_in_trees : Trees → ℕ
  scope_count_in_trees empty = 0
  scope_count_in_trees (t before ts) = scope_count_in t + scope_count_in_trees ts

-- STRICT CODE (11.2.2)

-- whether the body of a function or an arrow, which stands in this field, has the directive `use strict`
abbrev pub has_strict_body : Option Tree → Bool
has_strict_body (Some (node FunctionBody l fs)) = has_use_strict fs
has_strict_body _ = false

-- whether the code of a node inside a program is strict by itself
abbrev pub is_strict_by_itself : AstType → Label → Fields → Bool
is_strict_by_itself FunctionDeclaration l fs = has_strict_body (child_at 2 fs)
is_strict_by_itself FunctionExpression l fs = has_strict_body (child_at 2 fs)
is_strict_by_itself ArrowFunctionExpression l fs = has_strict_body (child_at 1 fs)
is_strict_by_itself FunctionBody l fs = has_use_strict fs
is_strict_by_itself ClassDeclaration l fs = true
is_strict_by_itself ClassExpression l fs = true
is_strict_by_itself _ l fs = false

-- PLACES

-- What stands at a place, the scopes around it, the innermost first, the one of them in which `var` declares, where that is a
-- function's body the scope of the function's parameters, and whether the code is strict.
pub record Place : Type 0 where
  pub role : Role
  pub around : List ℕ
  pub hoist : ℕ
  pub parameters : Option ℕ
  pub strict : Bool

abbrev pub first : List ℕ → ℕ
first [] = 0
first (n ∷ ns) = n

-- the scopes around the scope that a node makes by itself, where n is the number of the next scope
abbrev pub around_own : List ℕ → ℕ → AstType → Fields → List ℕ
around_own up n k fs = if has_name_scope k fs then n ∷ up else up

-- the number of that scope
abbrev pub own_scope : ℕ → AstType → Fields → ℕ
own_scope n k fs = if has_name_scope k fs then suc n else n

abbrev pub around_in : List ℕ → ℕ → AstType → Fields → ℕ → List ℕ
around_in up n k fs i = if makes_scope k && is_inside k i then own_scope n k fs ∷ around_own up n k fs else around_own up n k fs

-- whether `var` declares in the scope of a node of this kind (8.2.6)
abbrev pub is_hoisted_to : AstType → Bool
is_hoisted_to FunctionBody = true
is_hoisted_to StaticBlock = true
is_hoisted_to _ = false

abbrev pub parameters_in : Place → AstType → Option ℕ
parameters_in p FunctionBody = Some (first p.around)
parameters_in p StaticBlock = None
parameters_in p _ = p.parameters

abbrev pub is_strict_in : Place → AstType → Label → Fields → Bool
is_strict_in p k l fs = p.strict || is_strict_by_itself k l fs

-- the place of what stands in this field of a node, where n is the number of the next scope
abbrev pub place_in : Place → ℕ → AstType → Label → Fields → ℕ → Place
place_in p n k l fs i = record {
  role = role_at p.role k l fs i;
  around = around_in p.around n k fs i;
  hoist = if is_hoisted_to k then own_scope n k fs else p.hoist;
  parameters = parameters_in p k;
  strict = is_strict_in p k l fs;
}

-- the place of a program, inside its own scope
abbrev pub outermost : Tree → Place
outermost p = record { role = reads; around = 0 ∷ []; hoist = 0; parameters = None; strict = is_strict p }

-- NODES WITH THEIR PLACES

-- A node, its place, and the number of the next scope.
pub record Visit : Type 0 where
  pub place : Place
  pub next : ℕ
  pub kind : AstType
  pub label : Label
  pub fields : Fields

abbrev pub visit : Place → ℕ → AstType → Label → Fields → Visit
visit p n k l fs = record { place = p; next = n; kind = k; label = l; fields = fs }

abbrev mutual
  -- the nodes of a tree in node order
  pub visits : Place → ℕ → Tree → List Visit
  visits p n (node k l fs) = visit p n k l fs ∷ visits_in_fields (place_in p n k l fs) (n + own_scope_count k fs) fs

  pub visits_in_fields : (ℕ → Place) → ℕ → Fields → List Visit
  visits_in_fields ps n done = []
  visits_in_fields ps n (f then fs) = visits_in_field (ps zero) n f ++ visits_in_fields (λ i. ps (suc i)) (n + scope_count_in_field f) fs

  pub visits_in_field : Place → ℕ → Field → List Visit
  visits_in_field p n missing = []
  visits_in_field p n (one t) = visits p n t
  visits_in_field p n (many ts) = visits_in_trees p n ts
  visits_in_field p n (statements ts) = visits_in_trees p n ts

  pub visits_in_trees : Place → ℕ → Trees → List Visit
  visits_in_trees p n empty = []
  visits_in_trees p n (t before ts) = visits p n t ++ visits_in_trees p (n + scope_count_in t) ts

abbrev pub visits_of : Tree → List Visit
visits_of p = visits (outermost p) 1 p
