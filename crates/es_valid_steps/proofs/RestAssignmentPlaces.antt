-- Rests in assignments keep the static rules of places.
use Rattle.std.proofs.Common.{◌≡◌, ℕ, zero, suc, refl, sym, ◌∙◌, List, [], ◌∷◌, ◌++◌, map}
use Rattle.std.specs.Prelude.{Bool, true, false, Some, codes}
use Rattle.es_tree.specs.Ancestors.{Ancestor, ancestor, place_of}
use Rattle.es_tree.specs.CoreStaticRules.{is_simple_target, place_in}
use Rattle.es_tree.specs.HasForm.{has_form}
use Rattle.es_tree.specs.Parens.{without_parens}
use Rattle.es_tree.specs.Tree.{Tree, node, Label, Fields, done, ◌then◌, one, many, Trees, empty, ◌before◌, fields, kind_of, trees}
use Rattle.es_tree.specs.declared.ast_type.AstType.TheVariants.{ArrayExpression, AssignmentExpression, Identifier, ObjectTarget, SequenceExpression, StringLiteral, TargetProperty, TargetRest}
use Rattle.es_tree.specs.declared.table.Sort.{Sort}
use Rattle.es_resolution.specs.Declarations.{Bound}
use Rattle.es_steps.specs.CoreRules.{RowRule}
use Rattle.es_steps.specs.Nodes.{array_node, assign_node, call_node, identifier, made, member_node, object_node, sequence_node, string_node, word}
use Rattle.es_steps.specs.ObjectRest.{helper_node, left_of, whole_value}
use Rattle.es_steps.specs.RestAssignments.{RestAssignmentRule, is_unused, object_target, property_target, rest_target, value_after}
use Rattle.es_steps.specs.RestAssignments.RestAssignmentRule.{assigns}
use Rattle.es_steps.specs.Rules.{with_made}
use Rattle.es_steps.specs.Steps.{Site, Whole}
use Rattle.es_steps.proofs.RestParts.{EachAmong, EachTree, IsLeft, PartsRight, each-append, each-name, each-part, parts-right}
use Rattle.es_steps.proofs.RestParts.IsLeft.{name_left, text_left}
use Rattle.es_valid_steps.specs.PlaceRules.{Keeps, KeepsAll, KeepsHere, KeepsIn}
use Rattle.es_valid_steps.proofs.Free.{Free, FreeAll, Under, as-free, free-as, made-there, part, room-in, under-offers}
use Rattle.es_valid_steps.proofs.Free.From.{from_other}
use Rattle.es_valid_steps.proofs.Free.Under.{deeper, itself}
use Rattle.es_valid_steps.proofs.FurtherRows.{helper-free}
use Rattle.es_valid_steps.proofs.Loose.{OpenPlace, goes, loose, no-rest, reaches}
use Rattle.es_valid_steps.proofs.Loose.OpenPlace.{at_other}
use Rattle.es_valid_steps.proofs.Loose.PlaceGoes.{off_target, within}
use Rattle.es_valid_steps.proofs.MadeNodes.{FreeTarget, free-assignment, free-call, free-empty, free-leaf, free-member, free-more, free-name, free-node, free-object, in-sequence, left-keeps, name-target}
use Rattle.es_valid_steps.proofs.Moves.{super-moved}
use Rattle.es_valid_steps.proofs.Offers.PlaceOffers.{same_place}
use Rattle.es_valid_steps.proofs.PlaceRows.{PlaceLawful, RowKinds, row-lawful}
use Rattle.es_valid_steps.proofs.Rows.{value-free}

module _ (up : List Ancestor) where
  -- LISTS

  each-free : (ts : List Tree) → EachTree (Free up) ts → FreeAll up (trees ts)
  each-free [] h = free-empty up
  each-free (t ∷ ts) h = free-more up t (trees ts) h.0 (each-free ts h.1)

  called-free : (f : Tree) (ts : List Tree) → Free up f → EachTree (Free up) ts → Free up (call_node f ts)
  called-free f ts h k = free-call up (made [] (false ∷ [])) f (trees ts) refl (free-as true false up f h) (each-free ts k)

  array-free : (ts : List Tree) → EachTree (Free up) ts → Free up (array_node ts)
  array-free ts h = free-node up ArrayExpression (made [] []) (fields (map one ts)) refl refl refl (λ vp u. elements vp u (fields (map one ts)) 0 ts h)
    where
      at : (vp : List Ancestor) (i : ℕ) → OpenPlace (place_in (place_of vp) ArrayExpression (made [] []) i)
      at vp zero = at_other
      at vp (suc zero) = at_other
      at vp (suc (suc i)) = at_other

      elements : (vp : List Ancestor) → Under up vp → (all : Fields) (i : ℕ) (ts : List Tree) → EachTree (Free up) ts → KeepsIn vp ArrayExpression (made [] []) all i (fields (map one ts))
      elements vp u all i [] h = tt
      elements vp u all i (t ∷ ts) h = (h.0 _ (room-in up vp ArrayExpression (made [] []) all i refl u (at vp i)), elements vp u all (suc i) ts h.1)

  -- VALUES OF A REST

  mapped-free : (ks : List Tree) → EachTree (Free up) ks → Free up (call_node (member_node (array_node ks) (codes "map")) (helper_node (codes "toPropertyKey") ∷ []))
  mapped-free ks h =
      let member = free-member up (made [] (false ∷ false ∷ [])) (array_node ks) (word (codes "map")) refl (free-as false true up (array_node ks) (array-free ks h)) (free-name up _) in
      called-free (member_node (array_node ks) (codes "map")) (helper_node (codes "toPropertyKey") ∷ []) member (helper-free up (codes "toPropertyKey"), tt)

  pub left-of-free : (read : Bool) (s : Tree) (ks : List Tree) → Free up s → EachTree (Free up) ks → Free up (left_of read s ks)
  left-of-free true s ks h k = called-free (helper_node (codes "objectWithoutProperties")) (s ∷ call_node (member_node (array_node ks) (codes "map")) (helper_node (codes "toPropertyKey") ∷ []) ∷ []) (helper-free up (codes "objectWithoutProperties")) (h, (mapped-free ks k, tt))
  left-of-free false s ks h k = called-free (helper_node (codes "objectWithoutProperties")) (s ∷ array_node ks ∷ []) (helper-free up (codes "objectWithoutProperties")) (h, (array-free ks k, tt))

  pub whole-free : (s : Tree) → Free up s → Free up (whole_value s)
  whole-free s h =
      let call = call_node (helper_node (codes "objectDestructuringEmpty")) (s ∷ []) in
      let list = each-free (call ∷ s ∷ []) (called-free (helper_node (codes "objectDestructuringEmpty")) (s ∷ []) (helper-free up (codes "objectDestructuringEmpty")) (h, tt), (h, tt)) in
      let both = free-node up SequenceExpression (made [] []) (many (trees (call ∷ s ∷ [])) then done) refl refl refl (in-sequence up (made [] []) (trees (call ∷ s ∷ [])) list) in
      called-free (helper_node (codes "extends")) (object_node [] ∷ sequence_node (call ∷ s ∷ []) ∷ []) (helper-free up (codes "extends")) (free-object up (made [] []) empty (free-empty up), (both, tt))

  text-free : (x : List ℕ) → Free up (string_node x)
  text-free x = free-leaf up StringLiteral (made (Some x ∷ []) []) refl refl refl

  keys-free : (ks : List Tree) → EachTree (IsLeft (λ x. Unit {0})) ks → EachTree (Free up) ks
  keys-free [] h = tt
  keys-free (k ∷ ks) h = (at k h.0, keys-free ks h.1)
    where
      at : (k : Tree) → IsLeft (λ x. Unit {0}) k → Free up k
      at k (text_left x) = text-free x
      at k (name_left x e) = free-name up _

  -- PARTS OF A PATTERN

  abbrev in_pattern : Label → Label → Fields → Fields → List Ancestor → List Ancestor
  in_pattern l m all whole vp = ancestor ObjectTarget l all 0 0 ∷ (ancestor AssignmentExpression m whole 0 0 ∷ vp)

  -- what keeps the rules in whatever pattern something is assigned to below
  abbrev FreePart : Tree → Type 0
  FreePart p = (l m : Label) (all whole : Fields) (vp : List Ancestor) → Under up vp → Keeps (in_pattern l m all whole vp) p

  part-free : (l m : Label) (all whole : Fields) (p : Tree) → Keeps (in_pattern l m all whole up) p → FreePart p
  part-free l m all whole p h l' m' all' whole' vp u =
      let from = in_pattern l m all whole up in
      let to = in_pattern l' m' all' whole' vp in
      let offers = under-offers up (ancestor AssignmentExpression m whole 0 0 ∷ up) to ObjectTarget l all 0 refl (deeper refl itself) (deeper refl (deeper refl u)) in
      reaches from to (record { from_top = refl; top = refl; label = refl; for_in = refl; for_of = refl; exported = refl; lone = refl; rest = λ t. refl; inner_rest = λ a t. refl })
      true offers p (super-moved from to true offers (λ d. absurd (cc d)) (λ d. absurd (cc d)) p) (within (same_place _)) (λ d. absurd (cc d)) h

  parts-free : (l m : Label) (all whole : Fields) (ps : Trees) → KeepsAll (in_pattern l m all whole up) ps → EachAmong FreePart ps
  parts-free l m all whole empty h = tt
  parts-free l m all whole (p before ps) h = (part-free l m all whole p h.0, parts-free l m all whole ps h.1)

  parts-keep : (l m : Label) (all whole : Fields) (vp : List Ancestor) → Under up vp → (ps : List Tree) → EachTree FreePart ps → KeepsAll (in_pattern l m all whole vp) (trees ps)
  parts-keep l m all whole vp u [] h = tt
  parts-keep l m all whole vp u (p ∷ ps) h = (h.0 l m all whole vp u, parts-keep l m all whole vp u ps h.1)

  module _ (l : Label) (k v : Tree) (h : FreePart (property_target l k v)) where
    key-free : Free up k
    key-free = as-free up k (part up (in_pattern l l done done up) TargetProperty l (one k then one v then done) 0 k (deeper refl (deeper refl itself)) refl from_other (h l l done done up itself).1.0)

    -- with a name as its key
    keyed-free : (x : Bound) → FreePart (property_target l (identifier x) v)
    keyed-free x lp m all whole vp u =
        let there = in_pattern lp m all whole vp in
        let old : Fields = one k then one v then done in
        let new : Fields = one (identifier x) then one v then done in
        let here : KeepsHere there (property_target l (identifier x) v) = record { jump = refl; label = refl; returned = refl; super_word = refl; target = refl; chain = refl; mark = refl; deleted = refl; value = refl; using_word = refl; head = refl; item = refl; accessor = refl; rest = refl; declaration = refl; meta = refl } in
        let name = made-there (ancestor TargetProperty l new 0 0 ∷ there) Identifier (record (made (Some x.name ∷ []) []) { marks = x.symbol ∷ [] }) done (loose l new 0 0 there TargetProperty refl) refl refl refl refl in
        let from = ancestor TargetProperty l old 1 0 ∷ there in
        let to = ancestor TargetProperty l new 1 0 ∷ there in
        let inside : Under up there = deeper refl (deeper refl u) in
        let offers = under-offers up there to TargetProperty l old 1 refl inside (deeper refl inside) in
        let value = goes from to (loose l old 1 0 there TargetProperty refl) (loose l new 1 0 there TargetProperty refl) true offers v (super-moved from to true offers (λ d. absurd (cc d)) (λ d. absurd (cc d)) v) (within (same_place _)) (λ d. absurd (cc d)) (h lp m all whole vp u).1.1.0 in
        (here, ((name, tt), (value, tt)))

  -- what a rest is assigned to
  rest-free : (l : Label) (t : Tree) → is_simple_target (kind_of (without_parens t)) ≡ true → FreePart (rest_target l t) → FreeTarget up t
  rest-free l t e h vp u b =
      let there = in_pattern l l done done up in
      let from = ancestor TargetRest l (one t then done) 0 0 ∷ there in
      let offers = under-offers up there vp TargetRest l (one t then done) 0 refl (deeper refl (deeper refl itself)) u in
      reaches from vp (record { from_top = refl; top = b.top; label = b.label; for_in = b.for_in; for_of = b.for_of; exported = b.exported; lone = b.lone; rest = b.rest; inner_rest = λ a s. b.inner_rest a s ∙ sym (no-rest _ _ _ _) })
      true offers t (super-moved from vp true offers (λ d. absurd (cc d)) (λ d. absurd (cc d)) t) (off_target e) (λ d. absurd (cc d)) (h l l done done up itself).1.0

  -- ASSIGNMENTS

  assigned-free : (l : Label) (ps : List Tree) (s : Tree) → EachTree FreePart ps → Free up s → Free up (assign_node (object_target l ps) s)
  assigned-free l ps s h k =
      let m = made (Some (codes "=") ∷ []) [] in
      let whole : Fields = one (object_target l ps) then one s then done in
      free-node up AssignmentExpression m whole refl refl refl (λ vp u.
      let here : KeepsHere (ancestor AssignmentExpression m whole 0 0 ∷ vp) (object_target l ps) = record { jump = refl; label = refl; returned = refl; super_word = refl; target = refl; chain = refl; mark = refl; deleted = refl; value = refl; using_word = refl; head = refl; item = refl; accessor = refl; rest = (loose m whole 0 0 vp AssignmentExpression refl).rest (object_target l ps); declaration = refl; meta = refl } in
      ((here, (parts-keep l m (many (trees ps) then done) whole vp u ps h, tt)), (k _ (room-in up vp AssignmentExpression m whole 1 refl u at_other), tt)))

  places-right : (s : Tree) (lp : Label) → Free up s → PartsRight s lp (λ x. Unit {0}) FreePart FreePart (Free up)
  places-right s lp source = record {
    last = λ ps e h. assigned-free lp ps s h source;
    group = λ ps e h. assigned-free (made [] []) ps s h source;
    key = λ x l k v e taken h. free-assignment up _ (identifier x) k (name-target up _) (key-free l k v h);
    keyed = λ x l k v e taken h. keyed-free l k v h x;
    rest = λ read ks l t e names h. free-assignment up _ t (left_of read s ks) (rest-free l t e h) (left-of-free read s ks source (keys-free ks names));
    whole = λ l t e h. free-assignment up _ t (whole_value s) (rest-free l t e h) (whole-free s source);
  }

-- THE ROW

assigning-keeps : (n : Site) (w : Whole) (bs : List Bound) (t u : Tree) (a : Sort) (up : List Ancestor) → RestAssignmentRule n w bs t u → has_form a t ≡ true → Keeps up t → Keeps up u
assigning-keeps n w bs t u a up (assigns {m = m} {lp = lp} {ps = ps} {e = e} {x = x} {xs = xs} {us = us} unbound used texts silent next r) f h =
    let pattern : Tree = node ObjectTarget lp (many ps then done) in
    let whole : Fields = one pattern then one e then done in
    let first = free-assignment up (made (Some (codes "=") ∷ []) []) (identifier x) e (name-target up _) (value-free up m pattern e h) in
    let parts = parts-right (identifier x) lp (λ y. Unit {0}) (FreePart up) (FreePart up) (Free up) (places-right up (identifier x) lp (free-name up _)) (with_made (x ∷ []) w) ps xs us r (each-name xs) (each-part (FreePart up) ps (parts-free up lp m (many ps then done) whole ps h.1.0.1.0)) in
    let after = value_after (is_unused n.above) x in
    let list = assign_node (identifier x) e ∷ us ++ after in
    left-keeps up t SequenceExpression (record (made [] []) { start = m.start; stop = m.stop }) (many (trees list) then done) refl h.0 refl refl
    (in-sequence up (record (made [] []) { start = m.start; stop = m.stop }) (trees list) (each-free up list (first, each-append (Free up) us after parts (value-free-after (is_unused n.above)))))
  where
    value-free-after : (unused : Bool) → EachTree (Free up) (value_after unused x)
    value-free-after true = tt
    value-free-after false = (free-name up _, tt)

assigning-kinds : (n : Site) (w : Whole) (bs : List Bound) (t u : Tree) → RestAssignmentRule n w bs t u → RowKinds t u
assigning-kinds n w bs t u (assigns unbound used texts silent next r) = record { acted = refl; left = refl }

pub rest-assignment-lawful : PlaceLawful (RowRule RestAssignmentRule)
rest-assignment-lawful = row-lawful RestAssignmentRule assigning-kinds assigning-keeps
