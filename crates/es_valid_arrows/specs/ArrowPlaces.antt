-- Which arrows can become functions (ECMA-262, 15.3). A function has a `this` and a `super` of its own, an arrow none: so no `super` may
-- belong to an arrow (13.3.7.1), nor the `this` of a `delete`, since it becomes a name (13.5.1.1), nor one that doesn't reach its target's
-- list, where that name is declared. The value of a slot that is wrapped is one of an arrow, too. And where an accessor's value is an
-- arrow, which no program has (13.2.5), it stays one, since the parameters of a function are asked there (15.4).
use Rattle.std.specs.Prelude.{◌&&◌, ◌||◌, not, ℕ, zero, suc, Bool, true, false, bytes_eq, codes}
use Rattle.es_tree.specs.Ancestors.{Ancestor, ancestor, is_field_value}
use Rattle.es_tree.specs.Children.{child_at}
use Rattle.es_tree.specs.HasForm.{same_type}
use Rattle.es_tree.specs.Names.{first_text}
use Rattle.es_tree.specs.Tree.{Tree, node, Label, Fields, done, ◌then◌, Field, missing, one, many, statements, Trees, empty, ◌before◌}
use Rattle.es_tree.specs.declared.ast_type.AstType.{AstType}
use Rattle.es_tree.specs.declared.ast_type.AstType.TheVariants.{ArrowFunctionExpression, Super, ThisExpression, UnaryExpression}
use Rattle.es_tree.specs.declared.options.EnvOptions.{EnvOptions}
use Rattle.es_steps.specs.Slots.{holds_field, leads_to_parameter, leads_to_part, leads_to_value}
use Rattle.es_steps.specs.ThisPlaces.{keeps_this}
use Rattle.es_steps.specs.WrapRule.{is_wrapped_for}
use Rattle.es_arrow_steps.specs.ThisFits.{reaches_in}
use Rattle.es_valid_steps.specs.ArrowNodes.{is_arrow_accessor, is_this_within}

-- NODES

-- What belongs to what is around an arrow, and can't belong to a function in its place: `super`, `delete this`, maybe in parentheses, and
-- a `this` that doesn't reach its target's list.
abbrev pub is_outer : Bool → AstType → Label → Fields → Bool
is_outer reaches Super l fs = true
is_outer reaches ThisExpression l fs = not reaches
is_outer reaches UnaryExpression l fs = bytes_eq (first_text l.texts) (codes "delete") && is_this_within (child_at 0 fs)
is_outer reaches k l fs = false

-- PLACES

-- whether a pattern that stands in this field is a parameter or a part of one, where it is known of the node itself
abbrev pub parameter_in : Bool → Ancestor → Bool
parameter_in parameter a = leads_to_parameter a || (leads_to_part a && parameter)

-- whether this field is a slot that holds what it is wrapped for, so that its value becomes the body of an arrow
abbrev pub is_wrapped_slot : EnvOptions → Bool → Ancestor → Field → Bool
is_wrapped_slot o parameter a f = (is_field_value a || (leads_to_value a && parameter)) && holds_field (is_wrapped_for o) f

-- Whether what stands in this field belongs to an arrow (9.4.4), or to the value of such a slot; where it is known of the node itself.
abbrev pub arrow_in : EnvOptions → Bool → Bool → Ancestor → Field → Bool
arrow_in o arrow parameter a f = is_wrapped_slot o parameter a f || (not (keeps_this a) && (same_type a.kind ArrowFunctionExpression || arrow))

-- EACH NODE: none that is outer belongs to an arrow, and no accessor's value is one. Of the tree itself it is known whether it belongs to
-- an arrow, whether it is a parameter or a part of one, and whether a `this` reaches its target from there; of fields the same of each.
abbrev mutual
  pub arrows_fit : EnvOptions → Bool → Bool → Bool → Tree → Bool
  arrows_fit o arrow parameter reaches (node k l fs) =
      not ((is_outer reaches k l fs && arrow) || is_arrow_accessor k l fs)
      && arrows_fit_in o (λ i f. arrow_in o arrow parameter (ancestor k l done i 0) f) (λ i. parameter_in parameter (ancestor k l done i 0)) (λ i. reaches_in reaches (ancestor k l done i 0)) fs

  pub arrows_fit_in : EnvOptions → (ℕ → Field → Bool) → (ℕ → Bool) → (ℕ → Bool) → Fields → Bool
  arrows_fit_in o arrows parameters reaches done = true
  arrows_fit_in o arrows parameters reaches (f then fs) =
      arrows_fit_by o (arrows zero f) (parameters zero) (reaches zero) f
      && arrows_fit_in o (λ i. arrows (suc i)) (λ i. parameters (suc i)) (λ i. reaches (suc i)) fs

  pub arrows_fit_by : EnvOptions → Bool → Bool → Bool → Field → Bool
  arrows_fit_by o arrow parameter reaches missing = true
  arrows_fit_by o arrow parameter reaches (one t) = arrows_fit o arrow parameter reaches t
  arrows_fit_by o arrow parameter reaches (many ts) = arrows_fit_all o arrow parameter reaches ts
  arrows_fit_by o arrow parameter reaches (statements ts) = arrows_fit_all o arrow parameter reaches ts

  pub arrows_fit_all : EnvOptions → Bool → Bool → Bool → Trees → Bool
  arrows_fit_all o arrow parameter reaches empty = true
  arrows_fit_all o arrow parameter reaches (t before ts) = arrows_fit o arrow parameter reaches t && arrows_fit_all o arrow parameter reaches ts

-- each arrow of a program can become a function
abbrev pub fits_arrows : EnvOptions → Tree → Bool
fits_arrows o p = arrows_fit o false false true p
