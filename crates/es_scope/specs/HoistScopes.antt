-- The scope that `var` declares in, by the places around (ECMA-262, 8.2.6 and 10.2.11): that of the nearest body of a function,
-- body of an arrow that is an expression, static block or program. The parameters of a function are no part of its body.
use Rattle.std.specs.Prelude.{ℕ, zero, suc, List, ◌∷◌, Bool, true, false, if◌then◌else◌}
use Rattle.es_tree.specs.declared.ast_type.AstType.{AstType}
use Rattle.es_tree.specs.declared.ast_type.AstType.TheVariants.{ArrowFunctionExpression, FunctionBody, Program, StaticBlock}
use Rattle.es_scope.specs.declared.ancestor.Ancestor.{Ancestor}

-- Whether `var` declares inside this field of a node of this kind. Where the body of an arrow is a FunctionBody, that is nearer.
abbrev pub is_hoist_field : AstType → ℕ → Bool
is_hoist_field Program i = true
is_hoist_field FunctionBody i = true
is_hoist_field StaticBlock i = true
is_hoist_field ArrowFunctionExpression (suc zero) = true
is_hoist_field _ i = false

abbrev pub is_hoist_place : Ancestor → Bool
is_hoist_place a = is_hoist_field a.kind a.field

-- of these ancestors with the scopes of their places, innermost first, the first such scope; the program's where there is none
abbrev pub hoist_scope : List Ancestor → List ℕ → ℕ
hoist_scope (a ∷ up) (n ∷ ns) = if is_hoist_place a then n else hoist_scope up ns
hoist_scope _ _ = 0
