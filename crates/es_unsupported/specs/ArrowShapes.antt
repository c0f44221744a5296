-- What stands in the way where arrows become functions (ECMA-262, 15.3). A function has a `super`, a `new.target` and an `arguments` of its
-- own, an arrow none: what is written in an arrow belongs to what is around it. A `this` becomes a name that is declared in the list of the
-- statements around, which it has to reach. So it is with the value of a slot that is wrapped, which becomes the body of an arrow.
use Rattle.std.specs.Prelude.{◌&&◌, ◌||◌, not, ℕ, ◌==◌, List, Bool, true, false, Option, Some, None, is_some, bytes_eq, codes, if◌then◌else◌}
use Rattle.es_tree.specs.Ancestors.{ancestor}
use Rattle.es_tree.specs.Children.{child_at}
use Rattle.es_tree.specs.HasForm.{same_type}
use Rattle.es_tree.specs.Names.{first_text}
use Rattle.es_tree.specs.Tree.{Label, Fields, done, Field}
use Rattle.es_tree.specs.declared.ast_type.AstType.{AstType}
use Rattle.es_tree.specs.declared.ast_type.AstType.TheVariants.{ArrowFunctionExpression, FunctionBody, Identifier, MetaProperty, Super, ThisExpression, UnaryExpression}
use Rattle.es_tree.specs.declared.error.UnsupportedKind.{UnsupportedKind}
use Rattle.es_tree.specs.declared.error.UnsupportedKind.TheVariants.{ArrowOuter, ArrowThis}
use Rattle.es_tree.specs.declared.options.EnvOptions.{EnvOptions}
use Rattle.es_semantic.specs.Places.{is_inside, makes_scope}
use Rattle.es_semantic.specs.SymbolsOf.{Declared, is_bound}
use Rattle.es_semantic.specs.declared.place.Role.{Role}
use Rattle.es_semantic.specs.declared.place.Role.TheVariants.{Nothing, Binds}
use Rattle.es_steps.specs.ThisPlaces.{keeps_this}
use Rattle.es_arrow_steps.specs.ThisFits.{reaches_in}
use Rattle.es_valid_steps.specs.ArrowNodes.{is_arrow_accessor, is_this_within}
use Rattle.es_valid_arrows.specs.ArrowPlaces.{arrow_in, is_wrapped_slot, parameter_in}
use Rattle.es_super_calls.specs.Constructors.{is_constructor, standing_in}
use Rattle.es_super_calls.specs.declared.standing.ClassStanding.TheVariants.{Elsewhere}
use Rattle.es_unsupported.specs.EarlySuper.{calls_super_here, has_arrow_this}
use Rattle.es_unsupported.specs.declared.arrow_places.ArrowPlace.{ArrowPlace}

-- PLACES

-- what is known of a program
abbrev pub outside : ArrowPlace
outside = record { in_arrow = false; parameter = false; reaches = true; standing = Elsewhere; early_super = false; own_arguments = false }

-- Whether a scope of a node of this kind may bind an `arguments` that stays as it is where the arrow around is a function: that of a body
-- doesn't, since a `var` of this name finds the function's own there (10.2.11).
abbrev pub may_bind_arguments : AstType → Bool
may_bind_arguments k = makes_scope k && not (same_type k FunctionBody)

abbrev pub binds_arguments : List Declared → ℕ → AstType → Bool
binds_arguments ds own k = may_bind_arguments k && is_bound ds own (codes "arguments")

-- What is known of what stands in this field of a node, where it is known of the node itself and whether its scope binds `arguments`;
-- nothing where no arrow is to become a function.
abbrev pub arrow_place_in : EnvOptions → Bool → ArrowPlace → AstType → Label → Fields → ℕ → Field → ArrowPlace
arrow_place_in o binds q k l fs i f =
    let a = ancestor k l done i 0 in
    if is_some o.es2015.arrow_function then record {
      in_arrow = arrow_in o q.in_arrow q.parameter a f;
      parameter = parameter_in q.parameter a;
      reaches = reaches_in q.reaches a;
      standing = standing_in q.standing k l fs i;
      early_super = if keeps_this a then is_constructor q.standing && i == 1 && has_arrow_this fs else q.early_super;
      own_arguments = (not (is_wrapped_slot o q.parameter a f || same_type k ArrowFunctionExpression) && q.own_arguments) || (binds && is_inside k i);
    } else q

-- THE SHAPES

-- whether an identifier of this role refers to its name (13.1)
abbrev pub refers_by : Role → Bool
refers_by Nothing = false
refers_by (Binds b) = false
refers_by _ = true

-- Of a node that belongs to an arrow, and refers to its name or doesn't: `super` (13.3.7), `new.target` (13.3.12), an `arguments` that no
-- scope inside the arrow binds (10.2.11), and a `this` (13.2.1) that doesn't reach its list or that `delete` has (13.5.1).
abbrev pub inner_shape : ArrowPlace → Bool → AstType → Label → Fields → Option UnsupportedKind
inner_shape q refers Super l fs = Some ArrowOuter
inner_shape q refers MetaProperty l fs = if bytes_eq (first_text l.texts) (codes "new") then Some ArrowOuter else None
inner_shape q refers Identifier l fs = if refers && bytes_eq (first_text l.texts) (codes "arguments") && not q.own_arguments then Some ArrowOuter else None
inner_shape q refers ThisExpression l fs = if q.reaches then None else Some ArrowThis
inner_shape q refers UnaryExpression l fs = if bytes_eq (first_text l.texts) (codes "delete") && is_this_within (child_at 0 fs) then Some ArrowThis else None
inner_shape q refers _ l fs = None

-- of any node, where arrows are to become functions; a getter or a setter that is an arrow stays one (13.2.5), and a call of `super` comes before the name
-- that it would set
abbrev pub arrow_shape : EnvOptions → ArrowPlace → Bool → AstType → Label → Fields → Option UnsupportedKind
arrow_shape o q refers k l fs =
    if not (is_some o.es2015.arrow_function) then None
    else if is_arrow_accessor k l fs then Some ArrowOuter
    else if q.early_super && calls_super_here k fs then Some ArrowThis
    else if q.in_arrow then inner_shape q refers k l fs
    else None
