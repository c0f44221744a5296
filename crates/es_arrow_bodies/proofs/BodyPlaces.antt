-- Arrows that get a body: the static rules of places are kept.
use Rattle.std.proofs.Common.{◌≡◌, ℕ, refl, List, [], ◌∷◌}
use Rattle.std.specs.Prelude.{true, false}
use Rattle.es_tree.specs.Ancestors.{Ancestor, ancestor, is_derived_constructor}
use Rattle.es_tree.specs.HasForm.{has_form}
use Rattle.es_tree.specs.Tree.{Tree, Label, Fields, done, ◌then◌, one, many, statements, Trees, empty, ◌before◌}
use Rattle.es_tree.specs.declared.ast_type.AstType.TheVariants.{ArrowFunctionExpression, FunctionBody, ReturnStatement}
use Rattle.es_tree.specs.declared.place.Place.TheVariants.{Other}
use Rattle.es_tree.specs.declared.table.Sort.{Sort}
use Rattle.es_steps.specs.Nodes.{body_node, made, return_node}
use Rattle.es_steps.specs.Steps.{Ledger, Site}
use Rattle.es_steps.specs.Steps.Spot.{at_node}
use Rattle.es_valid_steps.specs.PlaceRules.{Keeps, KeepsAll, KeepsHere}
use Rattle.es_valid_steps.proofs.Loose.{goes, loose}
use Rattle.es_valid_steps.proofs.Loose.PlaceGoes.{within}
use Rattle.es_valid_steps.proofs.Moves.{super-moved}
use Rattle.es_valid_steps.proofs.Offers.{Alike, Offers, near-self, offers-self}
use Rattle.es_valid_steps.proofs.Offers.PlaceOffers.{same_place}
use Rattle.es_valid_rests.proofs.FacedSteps.{FaceLawful, NodeFaced}
use Rattle.es_valid_rests.proofs.RestPlaces.{calm-again}
use Rattle.es_valid_rests.proofs.RestPlacesFunctions.{all-again}
use Rattle.es_arrow_bodies.specs.ArrowBodies.{BodyRule}
use Rattle.es_arrow_bodies.specs.ArrowBodies.BodyRule.{returns}
use Rattle.es_arrow_bodies.proofs.BodyBindings.{body-only}

no-constructor : (l : Label) (fs : Fields) (i : ℕ) (up : List Ancestor) → is_derived_constructor (ancestor ArrowFunctionExpression l fs i 0 ∷ up) ≡ false
no-constructor l fs i [] = refl
no-constructor l fs i (a ∷ up) = refl

module _ (l : Label) (old new : Fields) (up : List Ancestor) where
  alike : (i : ℕ) → Alike (ancestor ArrowFunctionExpression l old i 0) (ancestor ArrowFunctionExpression l new i 0)
  alike i = record { kind = refl; label = refl; index = refl; labels = refl; derived = refl }

  parameters-keep : (ps : Trees) → KeepsAll (ancestor ArrowFunctionExpression l old 0 0 ∷ up) ps → KeepsAll (ancestor ArrowFunctionExpression l new 0 0 ∷ up) ps
  parameters-keep ps h = all-again up up (ancestor ArrowFunctionExpression l old 0 0) (ancestor ArrowFunctionExpression l new 0 0) (alike 0) (offers-self up) (near-self up) ps h

  -- the expression stands in a `return`, which stands in the arrow's body
  module _ (e : Tree) where
    abbrev list : Fields
    list = many empty then statements (return_node e before empty) then done

    abbrev before_it : List Ancestor
    before_it = ancestor ArrowFunctionExpression l old 1 0 ∷ up

    abbrev inside : List Ancestor
    inside = ancestor ArrowFunctionExpression l new 1 0 ∷ up

    abbrev in_body : List Ancestor
    in_body = ancestor FunctionBody (made [] []) list 1 0 ∷ inside

    abbrev in_return : List Ancestor
    in_return = ancestor ReturnStatement (made [] []) (one e then done) 0 0 ∷ in_body

    return-offers : Offers true before_it in_return
    return-offers = record { labels = refl; loop = λ j h. h; breakable = λ j h. h; function = λ h. h; members = λ h. h; calls = λ h. h; targets = λ h. h; in_module = refl; method = λ h. absurd (cc h); constructor = λ h. absurd (let no = no-constructor l old 1 up in cc (no, h)); class = λ h. absurd (cc h) }

    returned-keeps : Keeps before_it e → Keeps in_return e
    returned-keeps h =
        goes before_it in_return (loose l old 1 0 up ArrowFunctionExpression refl) (loose (made [] []) (one e then done) 0 0 in_body ReturnStatement refl) true return-offers e
        (super-moved before_it in_return true return-offers (λ x. x) (λ x. x) e) (within (same_place Other)) (λ x. absurd (cc x)) h

    body-here : KeepsHere inside (body_node (return_node e before empty))
    body-here = record { jump = refl; label = refl; returned = refl; super_word = refl; target = refl; chain = refl; mark = refl; deleted = refl; value = refl; using_word = refl; head = refl; item = refl; accessor = refl; rest = (loose l new 1 0 up ArrowFunctionExpression refl).rest (body_node (return_node e before empty)); declaration = refl; meta = refl }

    return-here : KeepsHere in_body (return_node e)
    return-here = record { jump = refl; label = refl; returned = refl; super_word = refl; target = refl; chain = refl; mark = refl; deleted = refl; value = refl; using_word = refl; head = refl; item = refl; accessor = refl; rest = refl; declaration = refl; meta = refl }

    body-keeps : Keeps before_it e → Keeps inside (body_node (return_node e before empty))
    body-keeps h = (body-here, (tt, (((return-here, (returned-keeps h, tt)), tt), tt)))

pub body-faced : FaceLawful BodyRule
body-faced = record { at_nodes = body-only; leaves = leaves }
  where
    leaves : (n : Site) (s s' : Ledger) (t u : Tree) (a : Sort) (up : List Ancestor) → BodyRule n s (at_node t) s' (at_node u) → has_form a t ≡ true → Keeps up t → NodeFaced up s s' t u
    leaves n s s' t u a up (returns {l = l} {ps = ps} {e = e} x) f h =
        let old : Fields = many ps then one e then done in
        let new : Fields = many ps then one (body_node (return_node e before empty)) then done in
        record { keeps = (calm-again up ArrowFunctionExpression l l old new refl h.0, (parameters-keep l old new up ps h.1.0, (body-keeps l old new up e h.1.1.0, tt))); seen = refl; beside = record { pending = refl; this = refl; top = refl } }
