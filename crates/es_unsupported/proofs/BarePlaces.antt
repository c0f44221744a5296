-- What is known of places, and the shapes that they tell, look at no mark.
use Rattle.std.proofs.Common.{◌≡◌, ◌∙◌, ℕ, Bool, ◌&&◌, Option, None, is_some, if◌then◌else◌, List, sym, ap}
use Rattle.std.specs.Option.{option_or}
use Rattle.es_tree.specs.Bare.{bare_field, bare_fields, bare_label}
use Rattle.es_tree.specs.Tree.{Label, Fields, Field}
use Rattle.es_tree.specs.declared.ast_type.AstType.{AstType}
use Rattle.es_tree.specs.declared.options.EnvOptions.{EnvOptions}
use Rattle.es_unsupported.specs.NodePlaces.{node_place_in, place_shape}
use Rattle.es_unsupported.specs.PatternPlaces.{nested_shape, pattern_place_in, pattern_shape}
use Rattle.es_unsupported.specs.declared.arrow_places.ArrowPlace.{ArrowPlace}
use Rattle.es_unsupported.specs.declared.node_places.NodePlace.{NodePlace}
use Rattle.es_unsupported.specs.declared.pattern_places.PatternPlace.{PatternPlace}
use Rattle.es_unsupported.proofs.BareArrows.{arrow_shape-marked, arrow_place-marked}
use Rattle.es_unsupported.proofs.BareNodes.{object-rest-bare}

pattern_shape-bare : (o : EnvOptions) (q : PatternPlace) (k : AstType) (l : Label) (fs : Fields) → pattern_shape o q k (bare_label l) (bare_fields fs) ≡ pattern_shape o q k l fs
pattern_shape-bare o q k l fs = ap (λ b. if is_some o.es2018.object_rest_spread && b then nested_shape q else None) (object-rest-bare k l fs)

-- so it is where two nodes and two fields differ in marks alone
module _ (o : EnvOptions) (q : NodePlace) (k : AstType) (l : Label) (ms : List (Option ℕ)) (fs gs : Fields) (same : bare_fields gs ≡ bare_fields fs) where
  pub node_place-marked : (binds : Bool) (i : ℕ) (f g : Field) → bare_field g ≡ bare_field f → node_place_in o binds q k (record l { marks = ms }) gs i g ≡ node_place_in o binds q k l fs i f
  node_place-marked binds i f g e = ap (λ (a : ArrowPlace). record { arrows = a; pattern = pattern_place_in q.pattern k }) (arrow_place-marked o binds q.arrows k l ms fs gs i f g same e)

  pattern_shape-marked : pattern_shape o q.pattern k (record l { marks = ms }) gs ≡ pattern_shape o q.pattern k l fs
  pattern_shape-marked = sym (pattern_shape-bare o q.pattern k (record l { marks = ms }) gs) ∙ (ap (pattern_shape o q.pattern k (bare_label l)) same ∙ pattern_shape-bare o q.pattern k l fs)

  pub place_shape-marked : (r : Bool) → place_shape o q r k (record l { marks = ms }) gs ≡ place_shape o q r k l fs
  place_shape-marked r = λ i. option_or (pattern_shape-marked i) (arrow_shape-marked o q.arrows r k l ms fs gs same i)
