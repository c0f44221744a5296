-- What is known of places, and what they tell of the nodes there: of patterns inside others, and of what stands in the way of arrows.
use Rattle.std.specs.Prelude.{ℕ, Bool, Option}
use Rattle.std.specs.Option.{option_or}
use Rattle.es_tree.specs.Tree.{Label, Fields, Field}
use Rattle.es_tree.specs.declared.ast_type.AstType.{AstType}
use Rattle.es_tree.specs.declared.error.UnsupportedKind.{UnsupportedKind}
use Rattle.es_tree.specs.declared.options.EnvOptions.{EnvOptions}
use Rattle.es_unsupported.specs.ArrowShapes.{arrow_place_in, arrow_shape, outside}
use Rattle.es_unsupported.specs.PatternPlaces.{pattern_place_in, pattern_shape}
use Rattle.es_unsupported.specs.declared.node_places.NodePlace.{NodePlace}
use Rattle.es_unsupported.specs.declared.pattern_places.PatternPlace.TheVariants.{Outside}

-- of a program
abbrev pub program_place : NodePlace
program_place = record { arrows = outside; pattern = Outside }

-- of what stands in this field of a node, where it is known of the node itself and whether its scope binds `arguments`
abbrev pub node_place_in : EnvOptions → Bool → NodePlace → AstType → Label → Fields → ℕ → Field → NodePlace
node_place_in o binds q k l fs i f = record { arrows = arrow_place_in o binds q.arrows k l fs i f; pattern = pattern_place_in q.pattern k }

-- the shape that its place tells of a node, which refers to its name or doesn't
abbrev pub place_shape : EnvOptions → NodePlace → Bool → AstType → Label → Fields → Option UnsupportedKind
place_shape o q refers k l fs = option_or (pattern_shape o q.pattern k l fs) (arrow_shape o q.arrows refers k l fs)
