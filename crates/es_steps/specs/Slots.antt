-- Slots: the default values and computed keys in the parameters of functions and arrows, and the values of class fields
-- (ECMA-262, 15.1 and 15.7). No statement list of their own is around what stands there, so that it can declare no temporary.
use Rattle.std.specs.Prelude.{ℕ, zero, suc, ◌==◌, ◌&&◌, ◌||◌, not, Bool, false, List, [], ◌∷◌}
use Rattle.es_tree.specs.Ancestors.{Ancestor, is_boundary, is_field_value, leads_by}
use Rattle.es_tree.specs.HasForm.{same_type}
use Rattle.es_tree.specs.Names.{has_computed}
use Rattle.es_tree.specs.declared.ast_type.AstType.{AstType}
use Rattle.es_tree.specs.declared.ast_type.AstType.TheVariants.{ArrayPattern, ArrowFunctionExpression, AssignmentPattern, FunctionDeclaration, FunctionExpression, ObjectPattern, PatternProperty, PropertyDefinition, RestElement}
use Rattle.es_tree.specs.Tree.{Tree, node, Label, Fields, done, ◌then◌, Field, missing, one, many, statements, Trees, empty, ◌before◌}

-- PARAMETERS

-- whether this is a part of a pattern that the ancestor is
abbrev pub leads_to_part : Ancestor → Bool
leads_to_part a = leads_by ObjectPattern 0 a || same_type a.kind ArrayPattern || leads_by PatternProperty 1 a || leads_by AssignmentPattern 0 a || leads_by RestElement 0 a

abbrev pub leads_to_parameter : Ancestor → Bool
leads_to_parameter a = leads_by FunctionDeclaration 1 a || leads_by FunctionExpression 1 a || leads_by ArrowFunctionExpression 0 a

-- whether a pattern that stands here is a parameter, or a part of one
abbrev pub is_in_parameter : List Ancestor → Bool
is_in_parameter [] = false
is_in_parameter (a ∷ up) = leads_to_parameter a || (leads_to_part a && is_in_parameter up)

-- SLOTS

-- a default value, or a computed key
abbrev pub leads_to_value : Ancestor → Bool
leads_to_value a = leads_by AssignmentPattern 1 a || (leads_by PatternProperty 0 a && has_computed a.kind a.label.flags)

-- whether what stands here is a slot
abbrev pub is_slot : List Ancestor → Bool
is_slot [] = false
is_slot (a ∷ up) = is_field_value a || (leads_to_value a && is_in_parameter up)

-- what has statement lists or slots of its own: functions, arrows, static blocks and the values of class fields
abbrev pub closes : AstType → ℕ → Bool
closes k i = is_boundary k || (same_type k PropertyDefinition && i == 1)

-- whether this stands in a slot, with nothing between that closes it
abbrev pub in_open_slot : List Ancestor → Bool
in_open_slot [] = false
in_open_slot (a ∷ up) = is_slot (a ∷ up) || (not (closes a.kind a.index) && in_open_slot up)

-- whether a node of the tree passes the test, outside what closes
abbrev mutual
  pub holds : (AstType → Label → Fields → Bool) → Tree → Bool
  holds p (node k l fs) = p k l fs || holds_fields p (closes k) fs

  pub holds_fields : (AstType → Label → Fields → Bool) → (ℕ → Bool) → Fields → Bool
  holds_fields p c done = false
  holds_fields p c (f then fs) = (not (c zero) && holds_field p f) || holds_fields p (λ i. c (suc i)) fs

  pub holds_field : (AstType → Label → Fields → Bool) → Field → Bool
  holds_field p missing = false
  holds_field p (one t) = holds p t
  holds_field p (many ts) = holds_trees p ts
  holds_field p (statements ts) = holds_trees p ts

  pub holds_trees : (AstType → Label → Fields → Bool) → Trees → Bool
  holds_trees p empty = false
  holds_trees p (t before ts) = holds p t || holds_trees p ts
