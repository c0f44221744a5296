-- Where a `this` belongs (ECMA-262, 9.4.4): to the nearest function that is no arrow, class static block or field value around it, or to
-- the program. An arrow has none of its own (15.3).
use Rattle.std.specs.Prelude.{◌==◌, ◌&&◌, ◌||◌, not, Bool, true, false, List, [], ◌∷◌, if◌then◌else◌}
use Rattle.es_tree.specs.Ancestors.{Ancestor, is_function, leads_by}
use Rattle.es_tree.specs.HasForm.{same_type}
use Rattle.es_tree.specs.declared.ast_type.AstType.TheVariants.{ArrowFunctionExpression, PropertyDefinition, StaticBlock, ThisExpression}
use Rattle.es_tree.specs.Tree.{Tree, node, Fields, done, ◌then◌, Field, missing, one, many, statements, Trees, empty, ◌before◌}

-- what keeps a `this` from what is around: a function that is no arrow, a static block, the value of a class field
abbrev pub keeps_this : Ancestor → Bool
keeps_this a = is_function a.kind || same_type a.kind StaticBlock || leads_by PropertyDefinition 1 a

-- whether a `this` that stands here belongs to an arrow
abbrev pub belongs_to_arrow : List Ancestor → Bool
belongs_to_arrow [] = false
belongs_to_arrow (a ∷ up) = not (keeps_this a) && (same_type a.kind ArrowFunctionExpression || belongs_to_arrow up)

-- Whether nothing but arrows and plain nodes is between this and the list of a target: neither the value of a class field nor the
-- parameters of a function that is no arrow, where the target's name isn't declared.
abbrev pub reaches_target : List Ancestor → Bool
reaches_target [] = true
reaches_target (a ∷ up) = if is_function a.kind then a.index == 2 else same_type a.kind StaticBlock || (not (leads_by PropertyDefinition 1 a) && reaches_target up)

-- whether a `this` stands in the tree that belongs to this place
abbrev mutual
  pub has_this : Tree → Bool
  has_this (node k l fs) = same_type k ThisExpression || (not (is_function k || same_type k StaticBlock) && this_in_fields (same_type k PropertyDefinition) fs)

  -- of a class field only the key counts
  pub this_in_fields : Bool → Fields → Bool
  this_in_fields key done = false
  this_in_fields key (f then fs) = this_in_field f || (not key && this_in_fields key fs)

  pub this_in_field : Field → Bool
  this_in_field missing = false
  this_in_field (one t) = has_this t
  this_in_field (many ts) = this_in_trees ts
  this_in_field (statements ts) = this_in_trees ts

  pub this_in_trees : Trees → Bool
  this_in_trees empty = false
  this_in_trees (t before ts) = has_this t || this_in_trees ts
