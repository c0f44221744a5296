-- Below a declaration: what stands in it is offered the same wherever it is put in that declaration. Patterns and their members move there.
use Rattle.std.proofs.Common.{◌≡◌, ℕ, zero, suc, refl, sym, ◌∙◌, List, [], ◌∷◌}
use Rattle.std.specs.Prelude.{Bool, true, false}
use Rattle.es_tree.specs.Ancestors.{Ancestor, ancestor, has_new_target, has_super_calls, has_super_members, is_breakable, is_derived_constructor, is_in_function, is_in_loop, is_method_value, is_module, labels, place_of}
use Rattle.es_tree.specs.CoreStaticRules.{binding_place, is_bad_target, place_in}
use Rattle.es_tree.specs.StaticRules.{is_bad_rest, is_misplaced_super, is_unmarked_callee, is_unmarked_object}
use Rattle.es_tree.specs.Tree.{Tree, node, Label, Fields, Field, missing, one, many, statements, Trees, kind_of}
use Rattle.es_tree.specs.declared.ast_type.AstType.{AstType}
use Rattle.es_tree.specs.declared.ast_type.AstType.TheVariants.{ArrayPattern, AssignmentPattern, Identifier, ObjectPattern, PatternProperty, RestElement, VariableDeclaration, VariableDeclarator}
use Rattle.es_tree.specs.declared.place.Place.{Place}
use Rattle.es_tree.specs.declared.place.Place.TheVariants.{Declarator}
use Rattle.es_valid_steps.specs.PlaceRules.{Keeps, KeepsAll, KeepsBy, KeepsHere}
use Rattle.es_valid_steps.proofs.Free.{made-there, no-true}
use Rattle.es_valid_steps.proofs.Loose.{PlaceGoes, goes}
use Rattle.es_valid_steps.proofs.Loose.PlaceGoes.{within}
use Rattle.es_valid_steps.proofs.Moves.{all-moved, in-moved, keeps-moved, super-moved}
use Rattle.es_valid_steps.proofs.Offers.{Near, Offers, PlaceOffers, alike-self, in_derived, offers-within}
use Rattle.es_valid_steps.proofs.Offers.PlaceOffers.{same_place}
use Rattle.es_valid_rests.specs.RestRules.{is_binding_kind}
use Rattle.es_valid_rests.proofs.RestPlaces.{calm-here, declarator-loose}
use Rattle.es_valid_rests.proofs.RestPlacesEntered.{Reaches, all-enter}

-- CLEAR: searches go through these, and they offer nothing of their own

abbrev pub is_clear : AstType → Bool
is_clear AssignmentPattern = true
is_clear ObjectPattern = true
is_clear PatternProperty = true
is_clear RestElement = true
is_clear VariableDeclaration = true
is_clear VariableDeclarator = true
is_clear _ = false

pub data Clear (up : List Ancestor) : List Ancestor → Type 0 where
  itself : Clear up up
  deeper : {vp : List Ancestor} {k : AstType} {l : Label} {all : Fields} {i : ℕ} → is_clear k ≡ true → Clear up vp → Clear up (ancestor k l all i 0 ∷ vp)

record SameSearches (up vp : List Ancestor) : Type 0 where
  labels : labels vp ≡ labels up
  loop : is_in_loop vp ≡ is_in_loop up
  breakable : is_breakable vp ≡ is_breakable up
  function : is_in_function vp ≡ is_in_function up
  members : has_super_members vp ≡ has_super_members up
  calls : has_super_calls vp ≡ has_super_calls up
  targets : has_new_target vp ≡ has_new_target up
  in_module : is_module vp ≡ is_module up

record Silent (up : List Ancestor) : Type 0 where
  method : is_method_value up ≡ false
  constructor : is_derived_constructor up ≡ false
  class : in_derived up ≡ false
  callee : is_unmarked_callee up ≡ false
  object : is_unmarked_object up ≡ false

module _ (l : Label) (all : Fields) (i : ℕ) where
  one-searches : (k : AstType) → is_clear k ≡ true → (up : List Ancestor) → SameSearches up (ancestor k l all i 0 ∷ up)
  one-searches AssignmentPattern e up = record { labels = refl; loop = refl; breakable = refl; function = refl; members = refl; calls = refl; targets = refl; in_module = refl }
  one-searches ObjectPattern e up = record { labels = refl; loop = refl; breakable = refl; function = refl; members = refl; calls = refl; targets = refl; in_module = refl }
  one-searches PatternProperty e up = record { labels = refl; loop = refl; breakable = refl; function = refl; members = refl; calls = refl; targets = refl; in_module = refl }
  one-searches RestElement e up = record { labels = refl; loop = refl; breakable = refl; function = refl; members = refl; calls = refl; targets = refl; in_module = refl }
  one-searches VariableDeclaration e up = record { labels = refl; loop = refl; breakable = refl; function = refl; members = refl; calls = refl; targets = refl; in_module = refl }
  one-searches VariableDeclarator e up = record { labels = refl; loop = refl; breakable = refl; function = refl; members = refl; calls = refl; targets = refl; in_module = refl }
  one-searches _ e up = absurd (cc e)

  one-silent : (k : AstType) → is_clear k ≡ true → (up : List Ancestor) → Silent (ancestor k l all i 0 ∷ up)
  one-silent AssignmentPattern e [] = record { method = refl; constructor = refl; class = refl; callee = refl; object = refl }
  one-silent AssignmentPattern e (a ∷ up) = record { method = refl; constructor = refl; class = refl; callee = refl; object = refl }
  one-silent ObjectPattern e [] = record { method = refl; constructor = refl; class = refl; callee = refl; object = refl }
  one-silent ObjectPattern e (a ∷ up) = record { method = refl; constructor = refl; class = refl; callee = refl; object = refl }
  one-silent PatternProperty e [] = record { method = refl; constructor = refl; class = refl; callee = refl; object = refl }
  one-silent RestElement e [] = record { method = refl; constructor = refl; class = refl; callee = refl; object = refl }
  one-silent PatternProperty e (a ∷ up) = record { method = refl; constructor = refl; class = refl; callee = refl; object = refl }
  one-silent RestElement e (a ∷ up) = record { method = refl; constructor = refl; class = refl; callee = refl; object = refl }
  one-silent VariableDeclaration e [] = record { method = refl; constructor = refl; class = refl; callee = refl; object = refl }
  one-silent VariableDeclaration e (a ∷ up) = record { method = refl; constructor = refl; class = refl; callee = refl; object = refl }
  one-silent VariableDeclarator e [] = record { method = refl; constructor = refl; class = refl; callee = refl; object = refl }
  one-silent VariableDeclarator e (a ∷ up) = record { method = refl; constructor = refl; class = refl; callee = refl; object = refl }
  one-silent _ e up = absurd (cc e)

searches : (up vp : List Ancestor) → Clear up vp → SameSearches up vp
searches up vp itself = record { labels = refl; loop = refl; breakable = refl; function = refl; members = refl; calls = refl; targets = refl; in_module = refl }
searches up wp (deeper {vp = vp} {k = k} {l = l} {all = all} {i = i} e u) =
    let s = searches up vp u in
    let n = one-searches l all i k e vp in
    record { labels = n.labels ∙ s.labels; loop = n.loop ∙ s.loop; breakable = n.breakable ∙ s.breakable; function = n.function ∙ s.function; members = n.members ∙ s.members; calls = n.calls ∙ s.calls; targets = n.targets ∙ s.targets; in_module = n.in_module ∙ s.in_module }

-- what stands directly in one of these below is offered the same anywhere else below
module _ (up vp wp : List Ancestor) (k : AstType) (l : Label) (all : Fields) (i : ℕ) (e : is_clear k ≡ true) (u : Clear up vp) (w : Clear up wp) where
  abbrev here : List Ancestor
  here = ancestor k l all i 0 ∷ vp

  pub clear-offers : Offers true here wp
  clear-offers =
      let a = searches up here (deeper e u) in
      let b = searches up wp w in
      let s = one-silent l all i k e vp in
      record {
        labels = b.labels ∙ sym a.labels;
        loop = λ j h. b.loop ∙ sym a.loop ∙ h;
        breakable = λ j h. b.breakable ∙ sym a.breakable ∙ h;
        function = λ h. b.function ∙ sym a.function ∙ h;
        members = λ h. b.members ∙ sym a.members ∙ h;
        calls = λ h. b.calls ∙ sym a.calls ∙ h;
        targets = λ h. b.targets ∙ sym a.targets ∙ h;
        in_module = b.in_module ∙ sym a.in_module;
        method = λ h. no-true (is_method_value here) (is_method_value wp ≡ true) s.method h;
        constructor = λ h. no-true (is_derived_constructor here) (is_derived_constructor wp ≡ true) s.constructor h;
        class = λ h. no-true (in_derived here) (in_derived wp ≡ true) s.class h;
      }

  pub clear-super : (t : Tree) → is_misplaced_super here t ≡ false → is_misplaced_super wp t ≡ false
  clear-super t h =
      let s = one-silent l all i k e vp in
      super-moved here wp true clear-offers (λ d. no-true (is_unmarked_callee here) (is_unmarked_callee wp ≡ true) s.callee d) (λ d. no-true (is_unmarked_object here) (is_unmarked_object wp ≡ true) s.object d) t h

-- FIELDS

pub moved-field : (up vp : List Ancestor) → Offers true up vp → Near up vp → (f : Field) → KeepsBy up f → KeepsBy vp f
moved-field up vp o n missing h = tt
moved-field up vp o n (one t) h = keeps-moved true up vp t o n (λ e. absurd (cc e)) h
moved-field up vp o n (many ts) h = all-moved true up vp ts o n (λ e. absurd (cc e)) h
moved-field up vp o n (statements ts) h = all-moved true up vp ts o n (λ e. absurd (cc e)) h

-- PATTERNS, where a declarator declares one

binding-target : (p : Place) (t : Tree) → is_bad_target (binding_place p) t ≡ false
binding-target (Declarator true lexical constant) t = refl
binding-target (Declarator false lexical constant) t = refl
binding-target _ t = refl

pub pattern-here : (l : Label) (fs : Fields) (vp : List Ancestor) (m : Label) (gs : Fields) → KeepsHere (ancestor VariableDeclarator l fs 0 0 ∷ vp) (node ObjectPattern m gs)
pattern-here l fs vp m gs = let h = declarator-loose l fs 0 vp in calm-here (ancestor VariableDeclarator l fs 0 0 ∷ vp) ObjectPattern m gs refl (binding-target (place_of vp) (node ObjectPattern m gs)) (h.rest (node ObjectPattern m gs)) refl

-- in another declarator of the same declaration
pub declarator-goes : (up : List Ancestor) (d : Label) (ds : Fields) (l m : Label) (fs gs : Fields) (i : ℕ) (t : Tree) → Keeps (ancestor VariableDeclarator l fs i 0 ∷ (ancestor VariableDeclaration d ds 0 0 ∷ up)) t → Keeps (ancestor VariableDeclarator m gs i 0 ∷ (ancestor VariableDeclaration d ds 0 0 ∷ up)) t
declarator-goes up d ds l m fs gs i t h =
    let vp = ancestor VariableDeclaration d ds 0 0 ∷ up in
    let from = ancestor VariableDeclarator l fs i 0 ∷ vp in
    let to = ancestor VariableDeclarator m gs i 0 ∷ vp in
    let o = clear-offers vp vp to VariableDeclarator l fs i refl itself (deeper refl itself) in
    goes from to (declarator-loose l fs i vp) (declarator-loose m gs i vp) true o t (clear-super vp vp to VariableDeclarator l fs i refl itself (deeper refl itself) t) (at i) (λ e. absurd (cc e)) h
  where
    at : (i : ℕ) → PlaceGoes t (place_of (ancestor VariableDeclarator l fs i 0 ∷ (ancestor VariableDeclaration d ds 0 0 ∷ up))) (place_of (ancestor VariableDeclarator m gs i 0 ∷ (ancestor VariableDeclaration d ds 0 0 ∷ up)))
    at zero = within (same_place _)
    at (suc zero) = within (same_place _)
    at (suc (suc i)) = within (same_place _)

-- the members of a pattern, in another pattern
module _ (up vp wp : List Ancestor) (u : Clear up vp) (w : Clear up wp) (l m : Label) (fs gs : Fields) where
  abbrev from_members : List Ancestor
  from_members = ancestor ObjectPattern l fs 0 0 ∷ vp

  abbrev to_members : List Ancestor
  to_members = ancestor ObjectPattern m gs 0 0 ∷ wp

  members-reach : Reaches from_members to_members
  members-reach = record {
    offers = clear-offers up vp to_members ObjectPattern l fs 0 refl u (deeper refl w);
    place = refl;
    from_top = refl;
    top = refl;
    label = refl;
    for_in = refl;
    for_of = refl;
    exported = refl;
    lone = refl;
    rest = λ t. no-member wp t;
    inner_rest = λ a t. refl;
  }
    where
      no-member : (wp : List Ancestor) (t : Tree) → is_bad_rest (ancestor ObjectPattern m gs 0 0 ∷ wp) t ≡ false
      no-member [] t = refl
      no-member (a ∷ wp) t = refl

  pub members-go : (ts : Trees) → KeepsAll from_members ts → KeepsAll to_members ts
  members-go ts h = all-enter from_members to_members members-reach ts (λ t. clear-super up vp to_members ObjectPattern l fs 0 refl u (deeper refl w) t) h

-- WHAT IS DECLARED, in a declarator: a name, or a pattern

binding-place : (p q : Place) (k : AstType) (l : Label) (i : ℕ) → is_binding_kind k ≡ true → PlaceOffers (place_in p k l i) (place_in q k l i)
binding-place p q k l (suc zero) e = same_place _
binding-place p q k l (suc (suc i)) e = same_place _
binding-place p q Identifier l zero e = same_place _
binding-place p q ObjectPattern l zero e = same_place _
binding-place p q ArrayPattern l zero e = same_place _
binding-place p q _ l zero e = absurd (cc e)

binding-rest : (k : AstType) (l : Label) (fs : Fields) (i : ℕ) (up : List Ancestor) (t : Tree) → is_binding_kind k ≡ true → is_bad_rest (ancestor k l fs i 0 ∷ up) t ≡ false
binding-rest k l fs i [] t e = refl
binding-rest Identifier l fs i (a ∷ up) t e = refl
binding-rest ObjectPattern l fs i (a ∷ up) t e = refl
binding-rest ArrayPattern l fs i (a ∷ up) t e = refl
binding-rest _ l fs i (a ∷ up) t e = absurd (cc e)

binding-here : (l : Label) (fs : Fields) (vp : List Ancestor) (k : AstType) (m : Label) (gs : Fields) → is_binding_kind k ≡ true → KeepsHere (ancestor VariableDeclarator l fs 0 0 ∷ vp) (node k m gs)
binding-here l fs vp Identifier m gs e = made-there (ancestor VariableDeclarator l fs 0 0 ∷ vp) Identifier m gs (declarator-loose l fs 0 vp) (binding-target (place_of vp) (node Identifier m gs)) refl refl refl
binding-here l fs vp ObjectPattern m gs e = pattern-here l fs vp m gs
binding-here l fs vp ArrayPattern m gs e = let h = declarator-loose l fs 0 vp in calm-here (ancestor VariableDeclarator l fs 0 0 ∷ vp) ArrayPattern m gs refl (binding-target (place_of vp) (node ArrayPattern m gs)) (h.rest (node ArrayPattern m gs)) refl
binding-here l fs vp _ m gs e = absurd (cc e)

pub binding-goes : (l : Label) (fs : Fields) (up vp : List Ancestor) → Offers true up (ancestor VariableDeclarator l fs 0 0 ∷ vp) → (t : Tree) → is_binding_kind (kind_of t) ≡ true → Keeps up t → Keeps (ancestor VariableDeclarator l fs 0 0 ∷ vp) t
binding-goes l fs up vp o (node k m gs) e h =
    let to = ancestor VariableDeclarator l fs 0 0 ∷ vp in
    let offers : (j : ℕ) → Offers true (ancestor k m gs j 0 ∷ up) (ancestor k m gs j 0 ∷ to) = λ j. offers-within true up to (ancestor k m gs j 0) (ancestor k m gs j 0) (alike-self _) o (λ d. absurd (cc d)) in
    let near : (j : ℕ) → Near (ancestor k m gs j 0 ∷ up) (ancestor k m gs j 0 ∷ to) = λ j. record { place = binding-place (place_of up) (place_of to) k m j e; head = alike-self _; rest = λ t. binding-rest k m gs j to t e ∙ sym (binding-rest k m gs j up t e) } in
    (binding-here l fs vp k m gs e, in-moved true up to k m gs gs 0 gs offers near (λ d. absurd (cc d)) h.1)
