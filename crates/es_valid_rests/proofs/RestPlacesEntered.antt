-- A tree that moves from one place to another, where none of them is asked for.
use Rattle.std.proofs.Common.{◌≡◌, sym, subst, List, ◌∷◌}
use Rattle.std.specs.Prelude.{true, false}
use Rattle.es_tree.specs.Ancestors.{Ancestor, place_of, stands_in}
use Rattle.es_tree.specs.StaticRules.{is_bad_rest, is_lone_body, is_misplaced_super}
use Rattle.es_tree.specs.Tree.{Tree, Trees, empty, ◌before◌}
use Rattle.es_tree.specs.declared.ast_type.AstType.TheVariants.{ExportNamedDeclaration, ForInStatement, ForOfStatement, LabeledStatement, Program}
use Rattle.es_tree.specs.declared.place.Place.{Place}
use Rattle.es_valid_steps.specs.PlaceRules.{Keeps, KeepsAll}
use Rattle.es_valid_steps.proofs.Loose.{reaches}
use Rattle.es_valid_steps.proofs.Loose.PlaceGoes.{within}
use Rattle.es_valid_steps.proofs.Offers.{Offers, PlaceOffers}
use Rattle.es_valid_steps.proofs.Offers.PlaceOffers.{same_place}

-- FROM ONE PLACE TO ANOTHER

pub record Reaches (up vp : List Ancestor) : Type 0 where
  pub offers : Offers true up vp
  pub place : place_of vp ≡ place_of up
  pub from_top : stands_in Program 1 up ≡ false
  pub top : stands_in Program 1 vp ≡ false
  pub label : stands_in LabeledStatement 0 vp ≡ false
  pub for_in : stands_in ForInStatement 0 vp ≡ false
  pub for_of : stands_in ForOfStatement 0 vp ≡ false
  pub exported : stands_in ExportNamedDeclaration 0 vp ≡ false
  pub lone : is_lone_body vp ≡ false
  pub rest : (t : Tree) → is_bad_rest vp t ≡ false
  pub inner_rest : (a : Ancestor) (t : Tree) → is_bad_rest (a ∷ vp) t ≡ is_bad_rest (a ∷ up) t

module _ (up vp : List Ancestor) (b : Reaches up vp) where
  same-offers : PlaceOffers (place_of up) (place_of vp)
  same-offers = subst (λ (p : Place). PlaceOffers (place_of up) p) (sym b.place) (same_place (place_of up))

  pub enters : (t : Tree) → (is_misplaced_super up t ≡ false → is_misplaced_super vp t ≡ false) → Keeps up t → Keeps vp t
  enters t c h = reaches up vp (record { from_top = b.from_top; top = b.top; label = b.label; for_in = b.for_in; for_of = b.for_of; exported = b.exported; lone = b.lone; rest = b.rest; inner_rest = b.inner_rest }) true b.offers t c (within same-offers) (λ e. absurd (cc e)) h

  pub all-enter : (ts : Trees) → ((t : Tree) → is_misplaced_super up t ≡ false → is_misplaced_super vp t ≡ false) → KeepsAll up ts → KeepsAll vp ts
  all-enter empty c h = tt
  all-enter (t before ts) c h = (enters t (c t) h.0, all-enter ts c h.1)
