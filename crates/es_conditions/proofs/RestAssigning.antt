-- The row of rests in assignments keeps the conditions: the right side, the properties of the pattern, its computed keys and what the rest is assigned to
-- move into a sequence of assignments (ECMA-262, 13.15.5).
use Rattle.std.proofs.Common.{◌≡◌, ◌&&◌, ℕ, zero, suc, Bool, true, false, List, [], ◌∷◌, ◌++◌, refl, map}
use Rattle.std.specs.Prelude.{Option, Some, codes, is_some}
use Rattle.std.proofs.lemmas.Bool.{and_from, and_parts, and_right}
use Rattle.es_tree.specs.CoreStaticRules.{is_simple_target}
use Rattle.es_tree.specs.HasForm.{has_form, sort_before_trees, trees_form}
use Rattle.es_tree.specs.Parens.{without_parens}
use Rattle.es_tree.specs.RestTargets.{is_rest_target}
use Rattle.es_tree.specs.Tree.{Tree, node, Label, Fields, done, ◌then◌, one, many, Trees, empty, ◌before◌, fields, kind_of, trees}
use Rattle.es_tree.specs.Walks.{any_in_fields, any_in_trees, any_node}
use Rattle.es_tree.specs.Words.{Text}
use Rattle.es_tree.specs.declared.ast_type.AstType.TheVariants.{ArrayExpression, AssignmentExpression, Identifier, MemberExpression, ObjectTarget, ParenthesizedExpression, StringLiteral, TargetProperty, TargetRest}
use Rattle.es_tree.specs.declared.options.EnvOptions.{EnvOptions}
use Rattle.es_tree.specs.declared.table.Sort.{Sort}
use Rattle.es_tree.specs.declared.table.Sort.TheVariants.{AssignmentTarget as s-AssignmentTarget, Expression as s-Expression, TargetElement as s-TargetElement, TargetMember as s-TargetMember, TargetMemberRest as s-TargetMemberRest}
use Rattle.es_tree.proofs.NodeForm.{node_form}
use Rattle.es_runs.specs.Rules.{strays, strays_fields, strays_nodes}
use Rattle.es_resolution.specs.Declarations.{Bound}
use Rattle.es_steps.specs.Nodes.{array_node, assign_node, call_node, identifier, made, member_node, object_node, sequence_node, string_node, word}
use Rattle.es_steps.specs.ObjectRest.{helper_node, left_of, whole_value}
use Rattle.es_steps.specs.Open.{is_body, opened_fields}
use Rattle.es_steps.specs.RestAssignments.{RestAssignmentRule, is_unused, object_target, property_target, rest_target, value_after}
use Rattle.es_steps.specs.RestAssignments.RestAssignmentRule.{assigns}
use Rattle.es_steps.specs.Rules.{with_made}
use Rattle.es_steps.specs.Slots.{in_open_slot}
use Rattle.es_steps.specs.Steps.{Site, Whole, site_in}
use Rattle.es_steps.specs.WrapRule.{takes_one}
use Rattle.es_steps.proofs.FormParts.{and-left, and-right}
use Rattle.es_steps.proofs.FormRows.{two-parts as two-formed}
use Rattle.es_steps.proofs.RestParts.{EachAmong, EachTree, IsLeft, Part as PartOf, PartsRight, acts-on-rest, each-append, each-name, parts-right}
use Rattle.es_steps.proofs.RestParts.IsLeft.{name_left, text_left}
use Rattle.es_conditions.specs.CoreConditions.{each_passes, each_passes_among, each_passes_in, is_free, is_placed, is_unmarked_chain}
use Rattle.es_conditions.specs.Laws.{Keeps}
use Rattle.es_conditions.proofs.Marks.{first-of, none-where}
use Rattle.es_conditions.proofs.Moves.{Moves, moved-in}
use Rattle.es_conditions.proofs.Parts.{Finds, Here, Made, Part, PartsAmong, among-at, among-first, among-none, among-parts, key-value, made-assignment, made-called, made-identifier, made-leaf, made-member, made-name, made-object, made-parens, made-sequence, made-static, made-stored, made-word, part-at, part-inside, part-of, plain, sites_of, some_site, takes_chain, two-parts}
use Rattle.es_conditions.proofs.Rows.{free-of, outside-slots, parts-of-assignment, past-free, scope_at, wrapped-free, wrapped-made, wrapped-of}
use Rattle.es_conditions.proofs.Unwrapped.{rest-holds}

module _ (o : EnvOptions) (s : Text → Option ℕ) where
  -- LISTS

  list-among : (ts : List Tree) → EachTree (Part o s) ts → PartsAmong o s (trees ts)
  list-among [] h = among-none o s
  list-among (t ∷ ts) h = among-first o s t (trees ts) h.0 (list-among ts h.1)

  -- the elements of an array
  made-array : (ts : List Tree) → EachTree (Part o s) ts → Made o s (array_node ts)
  made-array ts h = record {
    anywhere = λ m k. and_from (is_placed o m ArrayExpression (made [] []) (fields (map one ts))) _ (plain o m ArrayExpression (made [] []) (fields (map one ts)) refl refl refl)
        (passes (sites_of o s m ArrayExpression (made [] []) (fields (map one ts))) ts (λ i. record { scope = k; parameters = λ y u. refl }) (λ i. refl) h);
    marked = record { tidy = λ on. tidy on ts h; full = λ on. full on ts h };
  }
    where
      passes : (c : ℕ → Site) (ts : List Tree) → ((i : ℕ) → Here s (c i)) → ((i : ℕ) → takes_chain (c i) ≡ true) → EachTree (Part o s) ts → each_passes_in (is_placed o) c (λ i. false) (fields (map one ts)) ≡ true
      passes c [] g e h = refl
      passes c (t ∷ ts) g e h = and_from (each_passes (is_placed o) (c 0) t) _ (h.0.valued (c 0) (g 0) (e 0)) (passes (λ i. c (suc i)) ts (λ i. g (suc i)) (λ i. e (suc i)) h.1)

      tidy : o.es2020.optional_chaining ≡ true → (ts : List Tree) → EachTree (Part o s) ts → strays_fields false (fields (map one ts)) ≡ false
      tidy on [] h = refl
      tidy on (t ∷ ts) h = rw (h.0.marked.tidy on) (tidy on ts h.1)

      full : o.es2020.optional_chaining ≡ true → (ts : List Tree) → EachTree (Part o s) ts → any_in_fields is_unmarked_chain (fields (map one ts)) ≡ false
      full on [] h = refl
      full on (t ∷ ts) h = rw (h.0.marked.full on) (full on ts h.1)

  -- VALUES OF A REST

  called-part : (x : Text) (ts : List Tree) → EachTree (Part o s) ts → Part o s (call_node (helper_node x) ts)
  called-part x ts h = part-of o s (call_node (helper_node x) ts) (made-called o s (made [] (false ∷ [])) (helper_node x) (trees ts) refl (made-static o s (codes "babelHelpers") x) (list-among ts h))

  array-part : (ks : List Tree) → EachTree (Part o s) ks → Part o s (array_node ks)
  array-part ks h = part-of o s (array_node ks) (made-array ks h)

  left-part : (read : Bool) (e : Tree) (ks : List Tree) → Part o s e → EachTree (Part o s) ks → Part o s (left_of read e ks)
  left-part true e ks h k =
      let mapping = member_node (array_node ks) (codes "map") in
      let helper = helper_node (codes "toPropertyKey") in
      let mapped = call_node mapping (helper ∷ []) in
      let callee = made-member o s (made [] []) false (array_node ks) (word (codes "map")) (array-part ks k) (part-of o s (word (codes "map")) (made-word o s (codes "map"))) in
      let called = made-called o s (made [] (false ∷ [])) mapping (trees (helper ∷ [])) refl callee (list-among (helper ∷ []) (part-of o s helper (made-static o s (codes "babelHelpers") (codes "toPropertyKey")), tt)) in
      called-part (codes "objectWithoutProperties") (e ∷ mapped ∷ []) (h, (part-of o s mapped called, tt))
  left-part false e ks h k = called-part (codes "objectWithoutProperties") (e ∷ array_node ks ∷ []) (h, (array-part ks k, tt))

  whole-part : (e : Tree) → Part o s e → Part o s (whole_value e)
  whole-part e h =
      let call = call_node (helper_node (codes "objectDestructuringEmpty")) (e ∷ []) in
      let both = sequence_node (call ∷ e ∷ []) in
      let sequence = made-sequence o s (made [] []) (trees (call ∷ e ∷ [])) (list-among (call ∷ e ∷ []) (called-part (codes "objectDestructuringEmpty") (e ∷ []) (h, tt), (h, tt))) in
      called-part (codes "extends") (object_node [] ∷ both ∷ []) (part-of o s (object_node []) (made-object o s (made [] []) empty refl (among-none o s)), (part-of o s both sequence, tt))

  name-part : (x : Bound) → Part o s (identifier x)
  name-part x = part-of o s (identifier x) (made-identifier o s x)

  keys-parts : (ks : List Tree) → EachTree (IsLeft (λ x. Unit {0})) ks → EachTree (Part o s) ks
  keys-parts [] h = tt
  keys-parts (k ∷ ks) h = (at k h.0, keys-parts ks h.1)
    where
      at : (k : Tree) → IsLeft (λ x. Unit {0}) k → Part o s k
      at k (text_left x) = part-of o s (string_node x) (made-leaf o s StringLiteral (made (Some x ∷ []) []) refl refl refl refl)
      at k (name_left x e) = name-part x

  -- PATTERNS: what stands in them may stand where a value is taken

  made-target : (l : Label) (ts : Trees) → is_rest_target (one (node ObjectTarget l (many ts then done))) ≡ false → PartsAmong o s ts → Made o s (node ObjectTarget l (many ts then done))
  made-target l ts none h = record {
    anywhere = λ m k. and_from (is_placed o m ObjectTarget l (many ts then done)) _ (plain o m ObjectTarget l (many ts then done) refl none refl)
        (and_from (each_passes_among (is_placed o) (sites_of o s m ObjectTarget l (many ts then done) 0) ts) true (h.valued (sites_of o s m ObjectTarget l (many ts then done) 0) (record { scope = k; parameters = λ y u. refl }) refl) refl);
    marked = record { tidy = λ on. rw (h.tidy on) refl; full = λ on. rw (h.full on) refl };
  }

  property-parts : (l : Label) (k v : Tree) → Part o s (property_target l k v) → Part o s k × Part o s v
  property-parts l k v h = two-parts o s (sites_of o s (some_site s) TargetProperty l (one k then one v then done)) k v _ false false (record { scope = λ y u. refl; parameters = λ y u. refl }) (record { scope = λ y u. refl; parameters = λ y u. refl }) (h.valued (some_site s) (record { scope = λ y u. refl; parameters = λ y u. refl }) refl) h.marked.tidy h.marked.full

  made-property : (l : Label) (k v : Tree) → Part o s k → Part o s v → Made o s (property_target l k v)
  made-property l k v hk hv =
      let fs : Fields = one k then one v then done in
      record {
        anywhere = λ m h. and_from (is_placed o m TargetProperty l fs) _ (plain o m TargetProperty l fs refl refl refl)
            (and_from (each_passes (is_placed o) (sites_of o s m TargetProperty l fs 0) k) _ (hk.valued (sites_of o s m TargetProperty l fs 0) (record { scope = h; parameters = λ y u. refl }) (key-value _))
            (and_from (each_passes (is_placed o) (sites_of o s m TargetProperty l fs 1) v) true (hv.valued (sites_of o s m TargetProperty l fs 1) (record { scope = h; parameters = λ y u. refl }) refl) refl));
        marked = record { tidy = λ on. rw (hk.marked.tidy on, hv.marked.tidy on) refl; full = λ on. rw (hk.marked.full on, hv.marked.full on) refl };
      }

  -- what a rest is assigned to: a name or a member, maybe in parentheses

  rest-part : (l : Label) (t : Tree) → Part o s (rest_target l t) → Part o s t
  rest-part l t h =
      let fs : Fields = one t then done in
      let sites = site_in (some_site s) TargetRest l (opened_fields (is_body TargetRest) fs) in
      let passes = (and_parts (is_placed o (some_site s) TargetRest l fs) (each_passes (is_placed o) (sites 0) t && true) (h.valued (some_site s) (record { scope = λ y u. refl; parameters = λ y u. refl }) refl)).1 in
      part-at o s (sites 0) t (record { scope = λ y u. refl; parameters = λ y u. refl }) (and_parts (each_passes (is_placed o) (sites 0) t) true passes).0 (record { tidy = λ on. first-of (strays false t) false (h.marked.tidy on); full = λ on. first-of (any_node is_unmarked_chain t) false (h.marked.full on) })

  made-named-member : (l : Label) (fs : Fields) → Part o s (node MemberExpression l fs) → Made o s (node MemberExpression l fs)
  made-named-member l fs h = record {
    anywhere = λ m k. and_from (is_placed o m MemberExpression l fs) _ (plain o m MemberExpression l fs refl refl refl)
        (moved-in o (sites_of o s (some_site s) MemberExpression l fs) (sites_of o s m MemberExpression l fs) (is_body MemberExpression) fs (moves m k) (and_parts (is_placed o (some_site s) MemberExpression l fs) _ (h.valued (some_site s) (record { scope = λ y u. refl; parameters = λ y u. refl }) refl)).1);
    marked = h.marked;
  }
    where
      moves : (m : Site) → Finds s m → (i : ℕ) → Moves (sites_of o s (some_site s) MemberExpression l fs i) (sites_of o s m MemberExpression l fs i)
      moves m k zero = record { names = record { scope = k; parameters = λ y u. refl }; levels = record { value = λ d. d; content = λ d. d }; accepted = λ d. d }
      moves m k (suc i) = record { names = record { scope = k; parameters = λ y u. refl }; levels = record { value = λ d. d; content = λ d. d }; accepted = λ d. d }

  made-simple : (a : Sort) (t : Tree) → has_form a t ≡ true → is_simple_target (kind_of (without_parens t)) ≡ true → Part o s t → Made o s t
  made-simple a (node Identifier l done) f e h = made-name o s l
  made-simple a (node Identifier l (g then gs)) f e h = absurd (let no : false ≡ true = (node_form a Identifier l (g then gs) f).children in cc no)
  made-simple a (node MemberExpression l fs) f e h = made-named-member l fs h
  made-simple a (node ParenthesizedExpression l (one t then done)) f e h = made-parens o s l t (made-simple s-Expression t (and-left (has_form s-Expression t) true (node_form a ParenthesizedExpression l (one t then done) f).children) e (part-inside o s l t done h))
  made-simple a (node ParenthesizedExpression l (one t then (g then gs))) f e h = absurd (cc (and-right (has_form s-Expression t) false (node_form a ParenthesizedExpression l (one t then (g then gs)) f).children))
  made-simple a (node _ l fs) f e h = absurd (cc e)

  -- a rest that has form somewhere
  record RestPart (p : Tree) : Type 0 where
    part : Part o s p
    sort : Sort
    formed : has_form sort p ≡ true

  assigned-rest : (l : Label) (t v : Tree) → is_simple_target (kind_of (without_parens t)) ≡ true → RestPart (rest_target l t) → Part o s v → Part o s (assign_node t v)
  assigned-rest l t v e h k =
      let formed = and-left (has_form s-TargetElement t) true (node_form h.sort TargetRest l (one t then done) h.formed).children in
      part-of o s (assign_node t v) (made-assignment o s (made (Some (codes "=") ∷ []) []) t v refl (made-simple s-TargetElement t formed e (rest-part l t h.part)) k)

  pattern-parts : (ps : Trees) → PartsAmong o s ps → trees_form s-TargetMember s-TargetMemberRest ps ≡ true → EachAmong (PartOf (Part o s) RestPart) ps
  pattern-parts empty h f = tt
  pattern-parts (p before ps) h f =
      let parts = among-parts o s p ps h in
      let forms = and_parts (has_form (sort_before_trees s-TargetMember s-TargetMemberRest ps) p) (trees_form s-TargetMember s-TargetMemberRest ps) f in
      (one-of p parts.0 (record { part = parts.0; sort = sort_before_trees s-TargetMember s-TargetMemberRest ps; formed = forms.0 }), pattern-parts ps parts.1 forms.1)
    where
      one-of : (p : Tree) → Part o s p → RestPart p → PartOf (Part o s) RestPart p
      one-of (node TargetRest l fs) h k = k
      one-of _ h k = h

  -- the properties of the pattern, and its rest
  parts-in : (lp : Label) (ps : Trees) → Part o s (node ObjectTarget lp (many ps then done)) → PartsAmong o s ps
  parts-in lp ps h =
      let fs : Fields = many ps then done in
      let sites = site_in (some_site s) ObjectTarget lp (opened_fields (is_body ObjectTarget) fs) in
      let passes = (and_parts (is_placed o (some_site s) ObjectTarget lp fs) (each_passes_among (is_placed o) (sites 0) ps && true) (h.valued (some_site s) (record { scope = λ y u. refl; parameters = λ y u. refl }) refl)).1 in
      among-at o s (sites 0) ps (record { scope = λ y u. refl; parameters = λ y u. refl }) (and_parts (each_passes_among (is_placed o) (sites 0) ps) true passes).0 (λ on. first-of (strays_nodes false ps) false (h.marked.tidy on)) (λ on. first-of (any_in_trees is_unmarked_chain ps) false (h.marked.full on))

  assigned-pattern : (l : Label) (ps : List Tree) (e : Tree) → is_rest_target (one (object_target l ps)) ≡ false → EachTree (Part o s) ps → Part o s e → Part o s (assign_node (object_target l ps) e)
  assigned-pattern l ps e none h k = part-of o s (assign_node (object_target l ps) e) (made-assignment o s (made (Some (codes "=") ∷ []) []) (object_target l ps) e refl (made-target l (trees ps) none (list-among ps h)) k)

  conditions-right : (e : Tree) (lp : Label) → Part o s e → PartsRight e lp (λ x. Unit {0}) (Part o s) RestPart (Part o s)
  conditions-right e lp source = record {
    last = λ ps none h. assigned-pattern lp ps e none h source;
    group = λ ps none h. assigned-pattern (made [] []) ps e none h source;
    key = λ x l k v asked taken h. part-of o s (assign_node (identifier x) k) (made-stored o s x k (property-parts l k v h).0);
    keyed = λ x l k v asked taken h. part-of o s (property_target l (identifier x) v) (made-property l (identifier x) v (name-part x) (property-parts l k v h).1);
    rest = λ read ks l t simple names h. assigned-rest l t (left_of read e ks) simple h (left-part read e ks source (keys-parts ks names));
    whole = λ l t simple h. assigned-rest l t (whole_value e) simple h (whole-part e source);
  }

-- THE ROW

module _ (o : EnvOptions) (on : is_some o.es2018.object_rest_spread ≡ true) where
  row-slot : (n : Site) (w : Whole) (bs : List Bound) (t u : Tree) → RestAssignmentRule n w bs t u → is_free o n t ≡ true → in_open_slot n.above ≡ false
  row-slot n w bs t u (assigns {m = m} {lp = lp} {ps = ps} {e = e} {x = x} {xs = xs} {us = us} unbound used texts silent next takes) free =
      let acts = acts-on-rest n w bs t u (assigns unbound used texts silent next takes) in
      let target = (and_parts _ (is_rest_target (one (node ObjectTarget lp (many ps then done)))) acts).1 in
      outside-slots o n t (wrapped-free o n t free) (rest-holds o AssignmentExpression m (one (node ObjectTarget lp (many ps then done)) then one e then done) (and_from (is_some o.es2018.object_rest_spread && true) _ (and_from (is_some o.es2018.object_rest_spread) true on refl) target))

  row-made : (n : Site) (w : Whole) (bs : List Bound) (a : Sort) (t u : Tree) → RestAssignmentRule n w bs t u → has_form a t ≡ true → is_free o n t ≡ true → is_free o n u ≡ true
  row-made n w bs a t u (assigns {m = m} {lp = lp} {ps = ps} {e = e} {x = x} {xs = xs} {us = us} unbound used texts silent next takes) form free =
      let s = scope_at n in
      let pattern : Tree = node ObjectTarget lp (many ps then done) in
      let slot = row-slot n w bs t u (assigns unbound used texts silent next takes) free in
      let sides = parts-of-assignment o n m pattern e (wrapped-of o n t (wrapped-free o n t free)).known in
      let formed = (two-formed (has_form s-AssignmentTarget pattern) (has_form s-Expression e) (node_form a AssignmentExpression m (one pattern then one e then done) form).children).0 in
      let list = and-left (trees_form s-TargetMember s-TargetMemberRest ps) true (node_form s-AssignmentTarget ObjectTarget lp (many ps then done) formed).children in
      let parts = parts-right (identifier x) lp (λ y. Unit {0}) (Part o s) (RestPart o s) (Part o s) (conditions-right o s (identifier x) lp (name-part o s x)) (with_made (x ∷ []) w) ps xs us takes (each-name xs) (pattern-parts o s ps (parts-in o s lp ps sides.0) list) in
      let after = value_after (is_unused n.above) x in
      let all = assign_node (identifier x) e ∷ us ++ after in
      let l = record (made [] []) { start = m.start; stop = m.stop } in
      let stored = part-of o s (assign_node (identifier x) e) (made-stored o s x e sides.1) in
      let sequence = made-sequence o s l (trees all) (list-among o s all (stored, each-append (Part o s) us after parts (value-parts (is_unused n.above)))) in
      free-of o n u (wrapped-made o n u slot (past-free o n t free) sequence refl) (none-where o.es2020.optional_chaining false (λ d. refl))
    where
      value-parts : (unused : Bool) → EachTree (Part o (scope_at n)) (value_after unused x)
      value-parts true = tt
      value-parts false = (name-part o (scope_at n) x, tt)

  pub rest-assignment-keeps : Keeps (is_free o) (is_free o) RestAssignmentRule
  rest-assignment-keeps = record {
    outside = λ n w bs a t u form free r. and_right (takes_one bs) (in_open_slot n.above) (row-slot n w bs t u r free);
    known = λ n w bs a t u form free r. row-made n w bs a t u r form free;
  }
