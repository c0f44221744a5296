-- Patterns with an object rest that move to a declaration in a block, as those of catch clauses do, keep the rules of places.
use Rattle.std.proofs.Common.{◌≡◌, ℕ, refl, List, [], ◌∷◌}
use Rattle.std.specs.Prelude.{true, false, bytes_eq, codes, Some}
use Rattle.es_tree.specs.Ancestors.{Ancestor, ancestor, is_derived_constructor, place_of}
use Rattle.es_tree.specs.HasForm.{has_form}
use Rattle.es_tree.specs.Tree.{Tree, node, Label, Fields, done, ◌then◌, one, many, statements, Trees, empty, ◌before◌}
use Rattle.es_tree.specs.Words.{Text}
use Rattle.es_tree.specs.declared.ast_type.AstType.TheVariants.{BlockStatement, CatchClause, VariableDeclaration, VariableDeclarator}
use Rattle.es_tree.specs.declared.place.Place.TheVariants.{Other}
use Rattle.es_tree.specs.declared.table.Sort.{Sort}
use Rattle.es_resolution.specs.Declarations.{Bound}
use Rattle.es_steps.specs.CatchPatterns.{CatchRest}
use Rattle.es_steps.specs.CatchPatterns.CatchRest.{moves}
use Rattle.es_steps.specs.Nodes.{block_node, declaration_node, declarator_with, identifier, made}
use Rattle.es_steps.specs.Patterns.{let_statement}
use Rattle.es_steps.specs.Rules.{next_name}
use Rattle.es_steps.specs.Steps.{Ledger, Site}
use Rattle.es_steps.specs.Steps.Spot.{at_node}
use Rattle.es_steps.proofs.CatchRests.{catch-rest-only}
use Rattle.es_valid_steps.specs.PlaceRules.{Keeps}
use Rattle.es_valid_steps.proofs.Loose.{Loose, goes, loose}
use Rattle.es_valid_steps.proofs.Loose.PlaceGoes.{within}
use Rattle.es_valid_steps.proofs.Moves.{super-moved}
use Rattle.es_valid_steps.proofs.Offers.{Offers}
use Rattle.es_valid_steps.proofs.Offers.PlaceOffers.{same_place}
use Rattle.es_valid_rests.proofs.FacedSteps.{FaceLawful, NodeFaced}
use Rattle.es_valid_rests.proofs.RestPlaces.{Still, block-here, calm-again, declaration-here, declarator-loose, declarator-target, level-loose, name-keeps, valued-here}
use Rattle.es_valid_rests.proofs.RestPlaces.Still.{still_other}

-- `K p = x;` in a list

-- the ancestors of the pattern and of the name
abbrev pub in_declaration : Text → Tree → Bound → List Ancestor → List Ancestor
in_declaration kind p it vp = ancestor VariableDeclaration (made (Some kind ∷ []) []) (many (declarator_with p (identifier it) before empty) then done) 0 0 ∷ vp

abbrev pub in_declarator : Text → Tree → Bound → ℕ → List Ancestor → List Ancestor
in_declarator kind p it i vp = ancestor VariableDeclarator (made [] []) (one p then one (identifier it) then done) i 0 ∷ in_declaration kind p it vp

-- in a list
pub moved-keeps : (kind : Text) (p : Tree) (it : Bound) (vp : List Ancestor) → Loose vp → Still (place_of vp) → bytes_eq kind (codes "using") ≡ false → Keeps (in_declarator kind p it 0 vp) p → Keeps vp (declaration_node kind (declarator_with p (identifier it) ∷ []))
moved-keeps kind p it vp loose_there still e h = (
  declaration-here vp (made (Some kind ∷ []) []) (declarator_with p (identifier it) before empty) loose_there still e,
  (((valued-here (in_declaration kind p it vp) (made [] []) p (identifier it) (level-loose VariableDeclaration (made (Some kind ∷ []) []) (many (declarator_with p (identifier it) before empty) then done) 0 vp refl) (declarator-target (place_of vp) kind (declarator_with p (identifier it))), (h, (name-keeps (in_declarator kind p it 1 vp) it (declarator-loose (made [] []) (one p then one (identifier it) then done) 1 (in_declaration kind p it vp)) still_other, tt))), tt), tt),
)

-- CATCH CLAUSES

module _ (m l : Label) (p : Tree) (bs : Trees) (it : Bound) (up : List Ancestor) where
  abbrev body : Tree
  body = node BlockStatement l (statements bs then done)

  abbrev old : Fields
  old = one p then one body then done

  abbrev list : Trees
  list = let_statement p it before body before empty

  abbrev new : Fields
  new = one (identifier it) then one (block_node list) then done

  abbrev new_body : List Ancestor
  new_body = ancestor CatchClause m new 1 0 ∷ up

  abbrev new_list : List Ancestor
  new_list = ancestor BlockStatement (made [] []) (statements list then done) 0 0 ∷ new_body

  pattern-offers : Offers true (ancestor CatchClause m old 0 0 ∷ up) (in_declarator (codes "let") p it 0 new_list)
  pattern-offers = record { labels = refl; loop = λ j h. h; breakable = λ j h. h; function = λ h. h; members = λ h. h; calls = λ h. h; targets = λ h. h; in_module = refl; method = λ h. absurd (cc h); constructor = λ h. no-constructor up h; class = λ h. absurd (cc h) }
    where
      no-constructor : (up : List Ancestor) → {A : Type 0} → is_derived_constructor (ancestor CatchClause m old 0 0 ∷ up) ≡ true → A
      no-constructor [] h = absurd (cc h)
      no-constructor (a ∷ up) h = absurd (cc h)

  body-offers : Offers true (ancestor CatchClause m old 1 0 ∷ up) new_list
  body-offers = record { labels = refl; loop = λ j h. h; breakable = λ j h. h; function = λ h. h; members = λ h. h; calls = λ h. h; targets = λ h. h; in_module = refl; method = λ h. absurd (cc h); constructor = λ h. no-constructor up h; class = λ h. absurd (cc h) }
    where
      no-constructor : (up : List Ancestor) → {A : Type 0} → is_derived_constructor (ancestor CatchClause m old 1 0 ∷ up) ≡ true → A
      no-constructor [] h = absurd (cc h)
      no-constructor (a ∷ up) h = absurd (cc h)

  catch-keeps : Keeps up (node CatchClause m old) → Keeps up (node CatchClause m new)
  catch-keeps h =
      let name = name-keeps (ancestor CatchClause m new 0 0 ∷ up) it (loose m new 0 0 up CatchClause refl) still_other in
      let from = ancestor CatchClause m old 0 0 ∷ up in
      let to = in_declarator (codes "let") p it 0 new_list in
      let pattern = goes from to (loose m old 0 0 up CatchClause refl) (declarator-loose (made [] []) (one p then one (identifier it) then done) 0 (in_declaration (codes "let") p it new_list)) true pattern-offers p (super-moved from to true pattern-offers (λ x. x) (λ x. x) p) (within (same_place Other)) (λ e. absurd (cc e)) h.1.0 in
      let from_body = ancestor CatchClause m old 1 0 ∷ up in
      let moved = goes from_body new_list (loose m old 1 0 up CatchClause refl) (loose (made [] []) (statements list then done) 0 0 new_body BlockStatement refl) true body-offers body (super-moved from_body new_list true body-offers (λ x. x) (λ x. x) body) (within (same_place Other)) (λ e. absurd (cc e)) h.1.1.0 in
      let first = moved-keeps (codes "let") p it new_list (loose (made [] []) (statements list then done) 0 0 new_body BlockStatement refl) still_other refl pattern in
      let block = block-here new_body (made [] []) (statements list then done) (loose m new 1 0 up CatchClause refl) still_other in
      (calm-again up CatchClause m m old new refl h.0, (name, ((block, ((first, (moved, tt)), tt)), tt)))

pub catch-rest-faced : FaceLawful CatchRest
catch-rest-faced = record { at_nodes = catch-rest-only; leaves = leaves }
  where
    leaves : (n : Site) (s s' : Ledger) (t u : Tree) (a : Sort) (up : List Ancestor) → CatchRest n s (at_node t) s' (at_node u) → has_form a t ≡ true → Keeps up t → NodeFaced up s s' t u
    leaves n s s' t u a up (moves {w = w} {m = m} {l = l} {p = p} {bs = bs} {x = x} holds fresh) f h = record { keeps = catch-keeps m l p bs (next_name w x) up h; seen = refl; beside = record { pending = refl; this = refl; top = refl } }
