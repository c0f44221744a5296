-- A program in which parts of calls give way to names keeps the static rules of places.
use Rattle.std.proofs.Common.{◌≡◌, ℕ, suc, refl, List, [], ◌∷◌}
use Rattle.std.specs.Prelude.{true, false}
use Rattle.es_tree.specs.Ancestors.{Ancestor, ancestor, place_of}
use Rattle.es_tree.specs.CoreStaticRules.{is_bad_target, link_place}
use Rattle.es_tree.specs.HasForm.{has_form}
use Rattle.es_tree.specs.Tree.{Tree, Label, Fields, done, Field, Trees, label_of}
use Rattle.es_tree.specs.declared.ast_type.AstType.{AstType}
use Rattle.es_tree.specs.declared.ast_type.AstType.TheVariants.{CallExpression, Identifier}
use Rattle.es_tree.specs.declared.place.Place.{Place}
use Rattle.es_tree.specs.declared.place.Place.TheVariants.{Spine}
use Rattle.es_tree.specs.declared.table.Sort.{Sort}
use Rattle.es_tree.specs.declared.table.Sort.TheVariants.{Program as s-Program}
use Rattle.es_tree.proofs.NodeForm.{has_form-node}
use Rattle.es_resolution.specs.Declarations.{Bound}
use Rattle.es_steps.specs.Nodes.{identifier}
use Rattle.es_resolution.proofs.AllForms.{All, AllAmong, AllBy, AllIn, all-tree}
use Rattle.es_semantic.proofs.FormEdges.{EdgesIn}
use Rattle.es_valid_steps.specs.PlaceRules.{Keeps, KeepsAll, KeepsBy, KeepsIn, place_breaks}
use Rattle.es_valid_steps.proofs.Edges.{edges, stands}
use Rattle.es_valid_steps.proofs.Free.{made-there}
use Rattle.es_valid_steps.proofs.Loose.{loose}
use Rattle.es_valid_steps.proofs.Moves.{in-moved}
use Rattle.es_valid_steps.proofs.Offers.{Near, Offers, near-self, near-within, offers-self, offers-within}
use Rattle.es_valid_steps.proofs.Visits.{law_places_proof}
use Rattle.es_helper_calls.proofs.CallHere.{alike-now, here-now}
use Rattle.es_helper_calls.proofs.CalledTrees.{Calls, CallsAll, CallsBy, CallsHere, CallsIn}
use Rattle.es_helper_calls.proofs.CalledTrees.Calls.{becomes}
use Rattle.es_helper_calls.proofs.CalledTrees.CallsAll.{next, none}
use Rattle.es_helper_calls.proofs.CalledTrees.CallsBy.{at_many, at_none, at_one, at_statements}
use Rattle.es_helper_calls.proofs.CalledTrees.CallsHere.{calls, lists, passes, stays}
use Rattle.es_helper_calls.proofs.CalledTrees.CallsIn.{ends, goes}

-- each node's fields stand where they may
abbrev Stands : AstType → Label → Fields → Type 0
Stands k l fs = EdgesIn stands k 0 fs

all-stand : (s : Sort) (t : Tree) → has_form s t ≡ true → All Stands t
all-stand = all-tree Stands (λ s k l fs f. edges s k l fs (has_form-node s k l fs f))

-- no target is asked for as the callee of a call
no-target : (p : Place) (t : Tree) → is_bad_target (link_place p) t ≡ false
no-target Spine t = refl
no-target _ t = refl

module _ (P : Tree → Bound → Type 0) where
  callee-keeps : (up : List Ancestor) (l : Label) (all : Fields) (b : Bound) → Keeps (ancestor CallExpression l all 0 0 ∷ up) (identifier b)
  callee-keeps up l all b =
      let there = ancestor CallExpression l all 0 0 ∷ up in
      (made-there there Identifier (label_of (identifier b)) done (loose l all 0 0 up CallExpression refl) (no-target (place_of up) (identifier b)) refl refl refl, tt)

  argument-keeps : (up : List Ancestor) (l : Label) (all : Fields) (b : Bound) → Keeps (ancestor CallExpression l all 1 0 ∷ up) (identifier b)
  argument-keeps up l all b =
      let there = ancestor CallExpression l all 1 0 ∷ up in
      (made-there there Identifier (label_of (identifier b)) done (loose l all 1 0 up CallExpression refl) refl refl refl refl, tt)

  mutual
    tree-keeps : (up : List Ancestor) {t u : Tree} → Calls P t u → All Stands t → Keeps up t → Keeps up u
    tree-keeps up (becomes {k = k} {l = l} {fs = fs} {gs = gs} c) q h =
        let inner = here-keep up k l fs c q.1 h.1 in
        let offers : (j : ℕ) → Offers true (ancestor k l fs j 0 ∷ up) (ancestor k l gs j 0 ∷ up) = λ j. offers-within true up up (ancestor k l fs j 0) (ancestor k l gs j 0) (alike-now P k l c j) (offers-self up) (λ e. absurd (cc e)) in
        let near : (j : ℕ) → Near (ancestor k l fs j 0 ∷ up) (ancestor k l gs j 0 ∷ up) = λ j. near-within up up (ancestor k l fs j 0) (ancestor k l gs j 0) (alike-now P k l c j) (near-self up) in
        (here-now P up k l c q.0 h.0, in-moved true up up k l fs gs 0 gs offers near (λ e. absurd (cc e)) inner)

    here-keep : (up : List Ancestor) (k : AstType) (l : Label) (all : Fields) {fs gs : Fields} → CallsHere P k l fs gs → AllIn Stands fs → KeepsIn up k l all 0 fs → KeepsIn up k l all 0 gs
    here-keep up k l all (stays c) q h = fields-keep up k l all 0 c q h
    here-keep up _ l all (calls b p mark it c) q h = (callee-keeps up l all b, fields-keep up CallExpression l all 1 c q.1 h.1)
    here-keep up _ l all (passes b p mark other it k c) q h = (tree-keeps (ancestor CallExpression l all 0 0 ∷ up) k q.0 h.0, ((argument-keeps up l all b, tt), fields-keep up CallExpression l all 2 c q.1.1 h.1.1))
    here-keep up _ l all (lists b p texts k m) q h = (tree-keeps (ancestor CallExpression l all 0 0 ∷ up) k q.0 h.0, ((tree-keeps (ancestor CallExpression l all 1 0 ∷ up) m q.1.0.0 h.1.0.0, (argument-keeps up l all b, tt)), tt))

    fields-keep : (up : List Ancestor) (k : AstType) (l : Label) (all : Fields) (i : ℕ) {fs gs : Fields} → CallsIn P fs gs → AllIn Stands fs → KeepsIn up k l all i fs → KeepsIn up k l all i gs
    fields-keep up k l all i ends q h = tt
    fields-keep up k l all i (goes d c) q h = (field-keeps (ancestor k l all i 0 ∷ up) d q.0 h.0, fields-keep up k l all (suc i) c q.1 h.1)

    field-keeps : (up : List Ancestor) {f g : Field} → CallsBy P f g → AllBy Stands f → KeepsBy up f → KeepsBy up g
    field-keeps up at_none q h = tt
    field-keeps up (at_one c) q h = tree-keeps up c q h
    field-keeps up (at_many c) q h = all-keep up c q h
    field-keeps up (at_statements c) q h = all-keep up c q h

    all-keep : (up : List Ancestor) {ts us : Trees} → CallsAll P ts us → AllAmong Stands ts → KeepsAll up ts → KeepsAll up us
    all-keep up none q h = tt
    all-keep up (next c d) q h = (tree-keeps up c q.0 h.0, all-keep up d q.1 h.1)

  pub places-kept : (p q : Tree) → Calls P p q → has_form s-Program p ≡ true → place_breaks p ≡ [] → place_breaks q ≡ []
  places-kept p q c f h = (law_places_proof q).from_places (tree-keeps [] c (all-stand s-Program p f) ((law_places_proof p).to_places h))
