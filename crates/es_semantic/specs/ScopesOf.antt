-- The scopes of a program, in their order, with what is around them and their flags (ECMA-262, 9.1; for strict code,
-- 11.2.2).
use Rattle.std.specs.Prelude.{ℕ, List, [], ◌∷◌, ◌++◌, Bool, true, false, if◌then◌else◌}
use Rattle.es_tree.specs.Tree.{Tree}
use Rattle.es_tree.specs.declared.ast_type.AstType.{AstType}
use Rattle.es_tree.specs.declared.ast_type.AstType.TheVariants.{StaticBlock, FunctionDeclaration, FunctionExpression, ArrowFunctionExpression, CatchClause}
use Rattle.es_scope.specs.declared.flags.ScopeFlags.{ScopeFlags}
use Rattle.es_semantic.specs.Places.{Visit, around_own, has_name_scope, is_strict_in, makes_scope, visits_of}
use Rattle.es_semantic.specs.ProgramFlags.{program_flags}
use Rattle.es_semantic.specs.declared.place.Role.{Role}
use Rattle.es_semantic.specs.declared.place.Role.TheVariants.{Constructor}

-- A scope: those around it, the innermost first, and its flags.
pub record ScopeRow : Type 0 where
  pub around : List ℕ
  pub flags : ScopeFlags

-- FLAGS

abbrev pub is_function : AstType → Bool
is_function FunctionDeclaration = true
is_function FunctionExpression = true
is_function ArrowFunctionExpression = true
is_function _ = false

abbrev pub is_arrow : AstType → Bool
is_arrow ArrowFunctionExpression = true
is_arrow _ = false

abbrev pub is_static_block : AstType → Bool
is_static_block StaticBlock = true
is_static_block _ = false

abbrev pub is_catch : AstType → Bool
is_catch CatchClause = true
is_catch _ = false

-- whether the function is that of a constructor, and whether of a class that extends another
abbrev pub is_constructor : Role → Bool
is_constructor (Constructor derived) = true
is_constructor _ = false

abbrev pub is_derived : Role → Bool
is_derived (Constructor derived) = derived
is_derived _ = false

abbrev pub scope_flags : Bool → Role → AstType → ScopeFlags
scope_flags strict r k = record {
  function = is_function k;
  arrow = is_arrow k;
  top = false;
  class_static_block = is_static_block k;
  catch_clause = is_catch k;
  constructor = is_constructor r;
  derived = is_derived r;
  strict = strict;
}

-- the scope of the name of a function expression
abbrev pub name_scope_flags : Bool → ScopeFlags
name_scope_flags strict = record { function = false; arrow = false; top = false; class_static_block = false; catch_clause = false; constructor = false; derived = false; strict = strict }

-- SCOPES

abbrev pub strict_of : Visit → Bool
strict_of v = is_strict_in v.place v.kind v.label v.fields

abbrev pub name_scope : Visit → List ScopeRow
name_scope v = if has_name_scope v.kind v.fields then record { around = v.place.around; flags = name_scope_flags (strict_of v) } ∷ [] else []

abbrev pub own_scope_row : Visit → List ScopeRow
own_scope_row v =
    if makes_scope v.kind then record { around = around_own v.place.around v.next v.kind v.fields; flags = scope_flags (strict_of v) v.place.role v.kind } ∷ [] else []

-- those that a node makes by itself
abbrev pub scopes_made : Visit → List ScopeRow
scopes_made v = name_scope v ++ own_scope_row v

abbrev pub scopes_among : List Visit → List ScopeRow
scopes_among [] = []
scopes_among (v ∷ vs) = scopes_made v ++ scopes_among vs

-- the scopes of a program, its own first; the number of each is its place here, counted from 0
abbrev pub scopes_of : Tree → List ScopeRow
scopes_of p = record { around = []; flags = program_flags p } ∷ scopes_among (visits_of p)
