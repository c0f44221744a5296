-- What the code knows of a place, and what that says of its site.
use Rattle.std.specs.Prelude.{◌≡◌, ℕ, suc, zero, ◌||◌, Bool, true, false, Option, Some, None, List, [], ◌∷◌}
use Rattle.es_tree.specs.declared.ast_type.AstType.{AstType}
use Rattle.es_tree.specs.declared.ast_type.AstType.TheVariants.{AssignmentPattern, CallExpression, PatternProperty, PropertyDefinition}
use Rattle.es_tree.specs.Ancestors.{Ancestor, is_field_value}
use Rattle.es_steps.specs.Slots.{is_slot, leads_to_value}
use Rattle.es_steps.specs.Steps.{Site as ProgramSite}
use Rattle.es_traverse.specs.declared.site.Role.{Role}
use Rattle.es_traverse.specs.declared.site.Role.TheVariants.{Expression as r-Expression, Statement as r-Statement, Nothing}
use Rattle.es_traverse.specs.declared.site.Site.{Site}
use Rattle.es_traverse.specs.declared.site.Site.TheVariants.{Expression, Slot, Statement, ArrowBody, Parameters}
use Rattle.es_visit.specs.declared.hook.Hook.{Hook}
use Rattle.es_visit.specs.Hooks.{sort_of}
use Rattle.es_visit.specs.declared.hook.Hook.TheVariants.{Expression as h-Expression, Statement as h-Statement}
use Rattle.es_visit.specs.declared.hook.Sort.{Sort}
use Rattle.es_visit.specs.declared.hook.Sort.TheVariants.{AlwaysExpression, MaybeExpression, AlwaysStatement, MaybeStatement}

-- whether it is the body of an arrow
abbrev pub is_arrow_body : Site → Bool
is_arrow_body ArrowBody = true
is_arrow_body _ = false

-- whether a slot may stand here
abbrev pub is_slot_place : Site → Bool
is_slot_place Slot = true
is_slot_place _ = false

-- Whether a slot may stand in this field of a node of this kind, where it has a computed key or not: the value of a class field, a default
-- value, a computed key of a pattern (ECMA-262, 15.1 and 15.7).
abbrev pub may_be_slot : AstType → ℕ → Bool → Bool
may_be_slot PropertyDefinition (suc zero) computed = true
may_be_slot AssignmentPattern (suc zero) computed = true
may_be_slot PatternProperty zero computed = computed
may_be_slot _ i computed = false

-- whether this field of the parent may hold a slot
abbrev pub leads_to_slot : List Ancestor → Bool
leads_to_slot [] = false
leads_to_slot (a ∷ up) = is_field_value a || leads_to_value a

-- What the code knows of a place is told by its site: a slot is known as one that may be, which only such fields are.
pub record Tells (c : Site) (n : ProgramSite) : Type 0 where
  pub slot : is_slot n.above ≡ true → c ≡ Slot
  pub leads : c ≡ Slot → leads_to_slot n.above ≡ true

-- so much for the list of parameters that stands there
abbrev pub parameters_in : ℕ → Site → ℕ
parameters_in n Parameters = n
parameters_in n _ = 0

-- As what a node of this kind and sort stands at such a place. A call is an expression wherever it stands, the content of a chain among it.
abbrev pub role_of : Sort → Site → Role
role_of AlwaysExpression site = r-Expression
role_of AlwaysStatement site = r-Statement
role_of MaybeExpression Expression = r-Expression
role_of MaybeExpression Slot = r-Expression
role_of MaybeExpression ArrowBody = r-Expression
role_of MaybeStatement Statement = r-Statement
role_of _ _ = Nothing

abbrev pub role_at : AstType → Site → Role
role_at CallExpression site = r-Expression
role_at k site = role_of (sort_of k) site

-- the hook that a node gets by its sort
abbrev pub hook_of_role : Role → Option Hook
hook_of_role r-Expression = Some h-Expression
hook_of_role r-Statement = Some h-Statement
hook_of_role Nothing = None
