-- Declarators that split, for an object rest in one of them: the rules of places are kept.
use Rattle.std.proofs.Common.{◌≡◌, ℕ, refl, List, [], ◌∷◌}
use Rattle.std.specs.Prelude.{true, false}
use Rattle.es_tree.specs.Ancestors.{Ancestor, ancestor, place_of}
use Rattle.es_tree.specs.CoreStaticRules.{binding_place}
use Rattle.es_tree.specs.HasForm.{has_form}
use Rattle.es_tree.specs.Names.{first_text}
use Rattle.es_tree.specs.Tree.{Tree, node, Label, Fields, done, ◌then◌, Field, one, many, Trees, empty, ◌before◌, kind_of}
use Rattle.es_tree.specs.Words.{Text}
use Rattle.es_tree.specs.declared.ast_type.AstType.TheVariants.{AssignmentPattern, Identifier, ObjectPattern, PatternProperty, VariableDeclaration, VariableDeclarator}
use Rattle.es_tree.specs.declared.place.Place.{Place}
use Rattle.es_tree.specs.declared.place.Place.TheVariants.{Declarator}
use Rattle.es_tree.specs.declared.table.Sort.{Sort}
use Rattle.es_semantic.specs.declared.place.Role.{Role}
use Rattle.es_resolution.specs.Declarations.{Bound}
use Rattle.es_steps.specs.Nodes.{declarator_with, identifier, joined_trees, made}
use Rattle.es_steps.specs.ObjectRest.{SplitRule, SplitsOff, declares_as, declares_some, pattern_node}
use Rattle.es_steps.specs.ObjectRest.SplitRule.{splits}
use Rattle.es_steps.specs.ObjectRest.SplitsOff.{source, nested, nested_default, key}
use Rattle.es_steps.specs.Rules.{next_name}
use Rattle.es_steps.specs.Steps.{Ledger, Site, Whole}
use Rattle.es_steps.specs.Steps.Spot.{at_node}
use Rattle.es_steps.proofs.Fronts.{front-some}
use Rattle.es_valid_steps.specs.PlaceRules.{Keeps, KeepsAll, KeepsHere}
use Rattle.es_valid_steps.proofs.Loose.{goes, loose}
use Rattle.es_valid_steps.proofs.Loose.PlaceGoes.{within}
use Rattle.es_valid_steps.proofs.Moves.{keeps-moved}
use Rattle.es_valid_steps.proofs.Offers.{Near, Offers}
use Rattle.es_valid_steps.proofs.Offers.PlaceOffers.{same_place}
use Rattle.es_valid_rests.specs.RestRules.{Binding, all_declare, is_binding_kind}
use Rattle.es_valid_rests.proofs.FacedSteps.{FaceLawful, NodeFaced}
use Rattle.es_valid_rests.proofs.RestFormsDeclared.{declared-before, declared-joined, second-kind, split-nodes}
use Rattle.es_valid_rests.proofs.RestPlaces.{Still, calm-here, declarator-loose, declarator-target, level-loose, name-keeps, valued-here}
use Rattle.es_valid_rests.proofs.RestPlaces.Still.{still_declared, still_other}
use Rattle.es_valid_rests.proofs.RestPlacesDeclared.{DeclaratorsLeft, declared-keeps, front-keeps}
use Rattle.es_valid_rests.proofs.RestPlacesFunctions.{all-joined, all-parts}
use Rattle.es_valid_rests.proofs.RestPlacesHeads.{no-name}
use Rattle.es_valid_rests.proofs.RestPlacesPatterns.{binding-goes, clear-offers, clear-super, declarator-goes, members-go, moved-field, pattern-here}
use Rattle.es_valid_rests.proofs.RestPlacesPatterns.Clear.{itself, deeper}

-- what a declarator declares is no target
binding-still : (p : Place) → Still (binding_place p)
binding-still (Declarator true lexical constant) = still_declared
binding-still (Declarator false lexical constant) = still_other
binding-still _ = still_other

-- IN ONE DECLARATION

module _ (m : Label) (fs : Fields) (up : List Ancestor) where
  abbrev vp : List Ancestor
  vp = ancestor VariableDeclaration m fs 0 0 ∷ up

  abbrev in_part : Label → Fields → ℕ → List Ancestor
  in_part l gs i = ancestor VariableDeclarator l gs i 0 ∷ vp

  abbrev in_pattern : Label → Fields → Label → Trees → List Ancestor
  in_pattern l gs lp ps = ancestor ObjectPattern lp (many ps then done) 0 0 ∷ in_part l gs 0

  declared-here : (l : Label) (p e : Tree) → KeepsHere vp (declares_as l p e)
  declared-here l p e = valued-here vp l p e (level-loose VariableDeclaration m fs 0 up refl) (declarator-target (place_of up) (first_text m.texts) (declares_as l p e))

  -- the name of the temporary, as what is declared and as a value
  name-declared : (l : Label) (gs : Fields) (b : Bound) → Keeps (in_part l gs 0) (identifier b)
  name-declared l gs b = name-keeps (in_part l gs 0) b (declarator-loose l gs 0 vp) (binding-still (place_of vp))

  name-read : (l : Label) (gs : Fields) (b : Bound) → Keeps (in_part l gs 1) (identifier b)
  name-read l gs b = name-keeps (in_part l gs 1) b (declarator-loose l gs 1 vp) still_other

  -- a pattern of members of the old one
  module _ (l d lp lq : Label) (old new : Fields) (all : Trees) where
    some-members : (ps qs : Trees) → KeepsAll (in_pattern l old lp all) ps → KeepsAll (in_pattern d new lq qs) ps
    some-members ps qs h = members-go vp (in_part l old 0) (in_part d new 0) (deeper refl itself) (deeper refl itself) lp lq (many all then done) (many qs then done) ps h

    pattern-of : (qs : Trees) → KeepsAll (in_pattern d new lq qs) qs → Keeps (in_part d new 0) (pattern_node lq qs)
    pattern-of qs h = (pattern-here d new vp lq (many qs then done), (h, tt))

  -- A PROPERTY of the old pattern, in a new one
  module _ (l d lp lr lq : Label) (old new was is : Fields) (all qs : Trees) (i : ℕ) where
    abbrev from_field : List Ancestor
    from_field = ancestor PatternProperty lq was i 0 ∷ in_pattern l old lp all

    abbrev to_field : List Ancestor
    to_field = ancestor PatternProperty lq is i 0 ∷ in_pattern d new lr qs

    property-here : KeepsHere (in_pattern d new lr qs) (node PatternProperty lq is)
    property-here = calm-here (in_pattern d new lr qs) PatternProperty lq is refl refl refl refl

    property-offers : Offers true from_field to_field
    property-offers = clear-offers vp (in_pattern l old lp all) to_field PatternProperty lq was i refl (deeper refl (deeper refl itself)) (deeper refl (deeper refl (deeper refl itself)))

  module _ (l d lp lr lq : Label) (old new was is : Fields) (all qs : Trees) where
    key-near : Near (from_field l d lp lr lq old new was is all qs 0) (to_field l d lp lr lq old new was is all qs 0)
    key-near = record { place = same_place _; head = record { kind = refl; label = refl; index = refl; labels = refl; derived = refl }; rest = λ t. refl }

    value-near : Near (from_field l d lp lr lq old new was is all qs 1) (to_field l d lp lr lq old new was is all qs 1)
    value-near = record { place = same_place _; head = record { kind = refl; label = refl; index = refl; labels = refl; derived = refl }; rest = λ t. refl }

  -- WHAT SPLITS OFF

  source-keeps : (l : Label) (p e : Tree) (b : Bound) → Keeps vp (declares_as l p e) → KeepsAll vp (declarator_with (identifier b) e before declares_as l p (identifier b) before empty)
  source-keeps l p e b h =
      let old : Fields = one p then one e then done in
      let first : Fields = one (identifier b) then one e then done in
      let second : Fields = one p then one (identifier b) then done in (
        (declared-here (made [] []) (identifier b) e, (name-declared (made [] []) first b, (declarator-goes up m fs l (made [] []) old first 1 e h.1.1.0, tt))),
        ((declared-here l p (identifier b), (declarator-goes up m fs l l old second 0 p h.1.0, (name-read l second b, tt))), tt),
      )

  nested-keeps : (l lp lq ls : Label) (a c : Trees) (k : Field) (q : Tree) (b : Bound) → is_binding_kind (kind_of q) ≡ true → Keeps vp (declares_as l (pattern_node lp (joined_trees a (node PatternProperty lq (k then one q then done) before c))) (node Identifier ls done)) → KeepsAll vp (declarator_with (pattern_node (made [] []) (joined_trees a (node PatternProperty lq (k then one (identifier b) then done) before empty))) (node Identifier ls done) before declarator_with q (identifier b) before declares_some lp (node Identifier ls done) c)
  nested-keeps l lp lq ls a c k q b e h =
      let it = identifier b in
      let s : Tree = node Identifier ls done in
      let d = made [] [] in
      let was : Fields = k then one q then done in
      let is : Fields = k then one it then done in
      let property : Tree = node PatternProperty lq was in
      let all : Trees = joined_trees a (property before c) in
      let some : Trees = joined_trees a (node PatternProperty lq is before empty) in
      let old : Fields = one (pattern_node lp all) then one s then done in
      let first : Fields = one (pattern_node d some) then one s then done in
      let second : Fields = one q then one it then done in
      let third : Fields = one (pattern_node lp c) then one s then done in
      let parts = all-parts (in_pattern l old lp all) a (property before c) h.1.0.1.0 in
      let held = parts.1.0 in
      let before_it = some-members l d lp d old first all a some parts.0 in
      let key_left = moved-field (from_field l d lp d lq old first was is all some 0) (to_field l d lp d lq old first was is all some 0) (property-offers l d lp d lq old first was is all some 0) (key-near l d lp d lq old first was is all some) k held.1.0 in
      let name = name-keeps (to_field l d lp d lq old first was is all some 1) b (loose lq is 1 0 (in_pattern d first d some) PatternProperty refl) still_other in
      let left = all-joined (in_pattern d first d some) a (node PatternProperty lq is before empty) before_it ((property-here l d lp d lq old first was is all some 0, (key_left, (name, tt))), tt) in
      let offers = clear-offers vp (in_pattern l old lp all) (in_part d second 0) PatternProperty lq was 1 refl (deeper refl (deeper refl itself)) (deeper refl itself) in
      let taken = binding-goes d second (from_field l d lp d lq old first was is all some 1) vp offers q e held.1.1.0 in
      let later = some-members l d lp lp old third all c c parts.1.1 in (
        (declared-here d (pattern_node d some) s, (pattern-of l d lp d old first all some left, (declarator-goes up m fs l d old first 1 s h.1.1.0, tt))),
        ((declared-here d q it, (taken, (name-read d second b, tt))), front-keeps vp lp s c (declares_some lp s c) (front-some lp s c) (declared-here d (pattern_node lp c) s, (pattern-of l d lp lp old third all c later, (declarator-goes up m fs l d old third 1 s h.1.1.0, tt)))),
      )

  default-keeps : (l lp lq la ls : Label) (a c : Trees) (k : Field) (q e : Tree) (b : Bound) → is_binding_kind (kind_of q) ≡ true → Keeps vp (declares_as l (pattern_node lp (joined_trees a (node PatternProperty lq (k then one (node AssignmentPattern la (one q then one e then done)) then done) before c))) (node Identifier ls done)) → KeepsAll vp (declarator_with (pattern_node (made [] []) (joined_trees a (node PatternProperty lq (k then one (node AssignmentPattern la (one (identifier b) then one e then done)) then done) before empty))) (node Identifier ls done) before declarator_with q (identifier b) before declares_some lp (node Identifier ls done) c)
  default-keeps l lp lq la ls a c k q e b binds h =
      let it = identifier b in
      let s : Tree = node Identifier ls done in
      let d = made [] [] in
      let whole : Fields = one q then one e then done in
      let left : Fields = one it then one e then done in
      let was : Fields = k then one (node AssignmentPattern la whole) then done in
      let is : Fields = k then one (node AssignmentPattern la left) then done in
      let property : Tree = node PatternProperty lq was in
      let all : Trees = joined_trees a (property before c) in
      let some : Trees = joined_trees a (node PatternProperty lq is before empty) in
      let old : Fields = one (pattern_node lp all) then one s then done in
      let first : Fields = one (pattern_node d some) then one s then done in
      let second : Fields = one q then one it then done in
      let third : Fields = one (pattern_node lp c) then one s then done in
      let from = from_field l d lp d lq old first was is all some 1 in
      let to = to_field l d lp d lq old first was is all some 1 in
      let parts = all-parts (in_pattern l old lp all) a (property before c) h.1.0.1.0 in
      let held = parts.1.0 in
      let before_it = some-members l d lp d old first all a some parts.0 in
      let key_left = moved-field (from_field l d lp d lq old first was is all some 0) (to_field l d lp d lq old first was is all some 0) (property-offers l d lp d lq old first was is all some 0) (key-near l d lp d lq old first was is all some) k held.1.0 in
      let default_there = ancestor AssignmentPattern la left 1 0 ∷ to in
      let default_offers = clear-offers vp from default_there AssignmentPattern la whole 1 refl (deeper refl (deeper refl (deeper refl itself))) (deeper refl (deeper refl (deeper refl (deeper refl itself)))) in
      let default_near : Near (ancestor AssignmentPattern la whole 1 0 ∷ from) default_there = record { place = same_place _; head = record { kind = refl; label = refl; index = refl; labels = refl; derived = refl }; rest = λ t. refl } in
      let default = keeps-moved true (ancestor AssignmentPattern la whole 1 0 ∷ from) default_there e default_offers default_near (λ x. absurd (cc x)) held.1.1.0.1.1.0 in
      let name = name-keeps (ancestor AssignmentPattern la left 0 0 ∷ to) b (loose la left 0 0 to AssignmentPattern refl) still_other in
      let value : Keeps to (node AssignmentPattern la left) = (calm-here to AssignmentPattern la left refl refl refl refl, (name, (default, tt))) in
      let members = all-joined (in_pattern d first d some) a (node PatternProperty lq is before empty) before_it ((property-here l d lp d lq old first was is all some 0, (key_left, (value, tt))), tt) in
      let offers = clear-offers vp from (in_part d second 0) AssignmentPattern la whole 0 refl (deeper refl (deeper refl (deeper refl itself))) (deeper refl itself) in
      let taken = binding-goes d second (ancestor AssignmentPattern la whole 0 0 ∷ from) vp offers q binds held.1.1.0.1.0 in
      let later = some-members l d lp lp old third all c c parts.1.1 in (
        (declared-here d (pattern_node d some) s, (pattern-of l d lp d old first all some members, (declarator-goes up m fs l d old first 1 s h.1.1.0, tt))),
        ((declared-here d q it, (taken, (name-read d second b, tt))), front-keeps vp lp s c (declares_some lp s c) (front-some lp s c) (declared-here d (pattern_node lp c) s, (pattern-of l d lp lp old third all c later, (declarator-goes up m fs l d old third 1 s h.1.1.0, tt)))),
      )

  key-keeps : (l lp lq ls : Label) (a c : Trees) (k v : Tree) (b : Bound) → Keeps vp (declares_as l (pattern_node lp (joined_trees a (node PatternProperty lq (one k then one v then done) before c))) (node Identifier ls done)) → KeepsAll vp (declarator_with (pattern_node (made [] []) a) (node Identifier ls done) before declarator_with (identifier b) k before declarator_with (pattern_node lp (node PatternProperty lq (one (identifier b) then one v then done) before c)) (node Identifier ls done) before empty)
  key-keeps l lp lq ls a c k v b h =
      let it = identifier b in
      let s : Tree = node Identifier ls done in
      let d = made [] [] in
      let was : Fields = one k then one v then done in
      let is : Fields = one it then one v then done in
      let property : Tree = node PatternProperty lq was in
      let all : Trees = joined_trees a (property before c) in
      let rest : Trees = node PatternProperty lq is before c in
      let old : Fields = one (pattern_node lp all) then one s then done in
      let first : Fields = one (pattern_node d a) then one s then done in
      let second : Fields = one it then one k then done in
      let third : Fields = one (pattern_node lp rest) then one s then done in
      let parts = all-parts (in_pattern l old lp all) a (property before c) h.1.0.1.0 in
      let held = parts.1.0 in
      let before_it = some-members l d lp d old first all a a parts.0 in
      let from = from_field l d lp lp lq old third was is all rest 0 in
      let read = goes from (in_part d second 1) (loose lq was 0 0 (in_pattern l old lp all) PatternProperty refl) (declarator-loose d second 1 vp) true (clear-offers vp (in_pattern l old lp all) (in_part d second 1) PatternProperty lq was 0 refl (deeper refl (deeper refl itself)) (deeper refl itself)) k (clear-super vp (in_pattern l old lp all) (in_part d second 1) PatternProperty lq was 0 refl (deeper refl (deeper refl itself)) (deeper refl itself) k) (within (same_place _)) (λ x. absurd (cc x)) held.1.0 in
      let name = name-keeps (to_field l d lp lp lq old third was is all rest 0) b (loose lq is 0 0 (in_pattern d third lp rest) PatternProperty refl) still_other in
      let value = keeps-moved true (from_field l d lp lp lq old third was is all rest 1) (to_field l d lp lp lq old third was is all rest 1) v (property-offers l d lp lp lq old third was is all rest 1) (value-near l d lp lp lq old third was is all rest) (λ x. absurd (cc x)) held.1.1.0 in
      let members : KeepsAll (in_pattern d third lp rest) rest = ((property-here l d lp lp lq old third was is all rest 0, (name, (value, tt))), some-members l d lp lp old third all c rest parts.1.1) in (
        (declared-here d (pattern_node d a) s, (pattern-of l d lp d old first all a before_it, (declarator-goes up m fs l d old first 1 s h.1.1.0, tt))),
        ((declared-here d it k, (name-declared d second b, (read, tt))), ((declared-here d (pattern_node lp rest) s, (pattern-of l d lp lp old third all rest members, (declarator-goes up m fs l d old third 1 s h.1.1.0, tt))), tt)),
      )

-- THE RULE

splits-left : (w : Whole) (r : Role) (x : Text) (d : Tree) (es : Trees) (m : Label) (up : List Ancestor) → SplitsOff w r x d es → all_declare es ≡ true → DeclaratorsLeft up m d es
splits-left w r x d es m up (source l p e holds fresh silent) binds = record { pattern = no-name p holds; valued = refl; left = λ fs h. source-keeps m fs up l p e (next_name w x) h }
splits-left w r x d es m up (nested l lp lq ls a c k q holds fresh) binds = record { pattern = refl; valued = refl; left = λ fs h. nested-keeps m fs up l lp lq ls a c k q (next_name w x) (second-kind (pattern_node (made [] []) (joined_trees a (node PatternProperty lq (k then one (identifier (next_name w x)) then done) before empty))) q (node Identifier ls done) (identifier (next_name w x)) (declares_some lp (node Identifier ls done) c) binds) h }
splits-left w r x d es m up (nested_default l lp lq la ls a c k q e holds fresh silent) binds = record { pattern = refl; valued = refl; left = λ fs h. default-keeps m fs up l lp lq la ls a c k q e (next_name w x) (second-kind (pattern_node (made [] []) (joined_trees a (node PatternProperty lq (k then one (node AssignmentPattern la (one (identifier (next_name w x)) then one e then done)) then done) before empty))) q (node Identifier ls done) (identifier (next_name w x)) (declares_some lp (node Identifier ls done) c) binds) h }
splits-left w r x d es m up (key l lp lq ls a c k v fresh computed silent) binds = record { pattern = refl; valued = refl; left = λ fs h. key-keeps m fs up l lp lq ls a c k v (next_name w x) h }

pub split-faced : FaceLawful (Binding SplitRule)
split-faced = record { at_nodes = split-nodes; leaves = leaves }
  where
    leaves : (n : Site) (s s' : Ledger) (t u : Tree) (a : Sort) (up : List Ancestor) → Binding SplitRule n s (at_node t) s' (at_node u) → has_form a t ≡ true → Keeps up t → NodeFaced up s s' t u
    leaves n s s' t u g up (splits {w = w} m a c d es x free declares off, binds) f h = record { keeps = declared-keeps up m a c d es (splits-left w _ x d es m up off (declared-before es c (declared-joined a (joined_trees es c) binds))) h; seen = refl; beside = record { pending = refl; this = refl; top = refl } }
