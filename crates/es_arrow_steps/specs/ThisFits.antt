-- Where each `this` that belongs to an arrow can become the name of its target: it is read (ECMA-262, 13.2.1), and between it and the list
-- of the target stand neither the value of a class field nor the parameters of a function that is no arrow.
use Rattle.std.specs.Prelude.{ℕ, zero, suc, ◌==◌, ◌&&◌, ◌||◌, not, Bool, true, false, if◌then◌else◌}
use Rattle.es_tree.specs.Ancestors.{Ancestor, ancestor, is_function, leads_by}
use Rattle.es_tree.specs.HasForm.{same_type}
use Rattle.es_tree.specs.Tree.{Tree, node, Fields, done, ◌then◌, Field, missing, one, many, statements, Trees, empty, ◌before◌}
use Rattle.es_tree.specs.declared.ast_type.AstType.TheVariants.{ArrowFunctionExpression, PropertyDefinition, StaticBlock, ThisExpression}
use Rattle.es_semantic.specs.RolesOf.{reads, role_at}
use Rattle.es_semantic.specs.declared.place.Role.{Role}
use Rattle.es_semantic.specs.declared.place.Role.TheVariants.{Refers}
use Rattle.es_steps.specs.ThisPlaces.{keeps_this}

-- whether what stands in a field belongs to an arrow, where it is known of the node itself
abbrev pub belongs_in : Bool → Ancestor → Bool
belongs_in belongs a = not (keeps_this a) && (same_type a.kind ArrowFunctionExpression || belongs)

-- whether it reaches its target's list
abbrev pub reaches_in : Bool → Ancestor → Bool
reaches_in reaches a = if is_function a.kind then a.index == 2 else same_type a.kind StaticBlock || (not (leads_by PropertyDefinition 1 a) && reaches)

abbrev pub is_read : Role → Bool
is_read (Refers flags) = flags.read && not flags.write
is_read r = false

-- of each node of a tree with this role, which belongs to an arrow or not and reaches its target or not
abbrev mutual
  pub this_fits : Role → Bool → Bool → Tree → Bool
  this_fits r belongs reaches (node k l fs) =
      not (same_type k ThisExpression && belongs && not (is_read r && reaches))
      && this_fits_in (role_at r k l fs) (λ i. belongs_in belongs (ancestor k l done i 0)) (λ i. reaches_in reaches (ancestor k l done i 0)) fs

  pub this_fits_in : (ℕ → Role) → (ℕ → Bool) → (ℕ → Bool) → Fields → Bool
  this_fits_in roles belongs reaches done = true
  this_fits_in roles belongs reaches (f then fs) = this_fits_by (roles zero) (belongs zero) (reaches zero) f && this_fits_in (λ i. roles (suc i)) (λ i. belongs (suc i)) (λ i. reaches (suc i)) fs

  pub this_fits_by : Role → Bool → Bool → Field → Bool
  this_fits_by r belongs reaches missing = true
  this_fits_by r belongs reaches (one t) = this_fits r belongs reaches t
  this_fits_by r belongs reaches (many ts) = this_fits_all r belongs reaches ts
  this_fits_by r belongs reaches (statements ts) = this_fits_all r belongs reaches ts

  pub this_fits_all : Role → Bool → Bool → Trees → Bool
  this_fits_all r belongs reaches empty = true
  this_fits_all r belongs reaches (t before ts) = this_fits r belongs reaches t && this_fits_all r belongs reaches ts

-- of a program
abbrev pub each_this_fits : Tree → Bool
each_this_fits p = this_fits reads false true p
