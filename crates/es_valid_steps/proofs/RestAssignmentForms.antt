-- Rests in assignments keep form.
use Rattle.std.proofs.Common.{◌≡◌, ◌∙◌, ℕ, length, refl, sym, subst, List, [], ◌∷◌, ◌++◌, map}
use Rattle.std.specs.Prelude.{Bool, true, false, codes, if◌then◌else◌}
use Rattle.std.proofs.lemmas.Bool.{and_from, and_parts, or_parts}
use Rattle.es_tree.specs.Attributes.{flag_entries, text_entries, texts_fit}
use Rattle.es_tree.specs.Constructs.{any_kind, is_rest}
use Rattle.es_tree.specs.CoreStaticRules.{is_simple_target}
use Rattle.es_tree.specs.HasForm.{elements_form, flag_of, has_form, is_computed, is_of_sort, sort_at, sort_before_fields, sort_before_trees, trees_form}
use Rattle.es_tree.specs.Names.{flag_at, has_computed}
use Rattle.es_tree.specs.Parens.{without_parens}
use Rattle.es_tree.specs.PropertyKeys.{is_read_key}
use Rattle.es_tree.specs.RestTargets.{is_rest_target}
use Rattle.es_tree.specs.Tree.{Tree, node, Label, Fields, done, ◌then◌, one, many, Trees, empty, ◌before◌, fields, kind_of, trees}
use Rattle.es_tree.specs.declared.ast_type.AstType.{AstType}
use Rattle.es_tree.specs.declared.ast_type.AstType.TheVariants.{ArrayExpression, AssignmentExpression, Identifier, MemberExpression, ObjectTarget, ParenthesizedExpression, SequenceExpression, TargetProperty, TargetRest}
use Rattle.es_tree.specs.declared.table.FieldName.TheVariants.{Computed as f-Computed}
use Rattle.es_tree.specs.declared.table.Sort.{Sort}
use Rattle.es_tree.specs.declared.table.Sort.TheVariants.{Argument as s-Argument, AssignmentTarget as s-AssignmentTarget, Expression as s-Expression, PropertyKey as s-PropertyKey, TargetElement as s-TargetElement, TargetMember as s-TargetMember, TargetMemberRest as s-TargetMemberRest}
use Rattle.es_tree.proofs.NodeForm.{node_form, has_form-node}
use Rattle.es_resolution.specs.Declarations.{Bound}
use Rattle.es_steps.specs.CoreRules.{RowRule}
use Rattle.es_steps.specs.Duplication.{IsNext}
use Rattle.es_steps.specs.Nodes.{array_node, assign_node, call_node, identifier, made, member_node, object_node, sequence_node, word}
use Rattle.es_steps.specs.ObjectRest.{helper_node, left_of, whole_value}
use Rattle.es_steps.specs.RestAssignments.{Groups, RestAssignmentRule, TakesTarget, is_unused, object_target, property_target, rest_target, value_after}
use Rattle.es_steps.specs.RestAssignments.Groups.{begins, ends, keeps}
use Rattle.es_steps.specs.RestAssignments.RestAssignmentRule.{assigns}
use Rattle.es_steps.specs.RestAssignments.TakesTarget.{alone, beside}
use Rattle.es_steps.specs.Rules.{with_made}
use Rattle.es_steps.specs.Steps.{Site, Whole}
use Rattle.es_steps.proofs.FormMembers.{formed-first, formed-member}
use Rattle.es_steps.proofs.FormParts.{HasSpan, IsFormed, IsText, and-left, formed-name, formed-stored, no-span, span-of}
use Rattle.es_steps.proofs.FormPowers.{AreFormed, formed-both}
use Rattle.es_steps.proofs.FormRows.{AreTexts, RowForm, next-text, two-parts}
use Rattle.es_steps.proofs.FormRules.{FormLawful, row-form}
use Rattle.es_steps.proofs.FormSorts.{form-wider, wide-assignment}
use Rattle.es_steps.proofs.Kept.{Each}
use Rattle.es_steps.proofs.RestParts.{EachAmong, EachTree, IsLeft, PartsRight, each-part, parts-right}
use Rattle.es_steps.proofs.RestParts.IsLeft.{name_left, text_left}
use Rattle.es_valid_steps.proofs.FurtherForms.{formed-called, formed-object}

-- SEQUENCES AND ARRAYS

formed-list : (ts : List Tree) → AreFormed ts → trees_form s-Expression s-Expression (trees ts) ≡ true
formed-list [] h = refl
formed-list (t ∷ ts) h = formed-first s-Expression t (trees ts) h.0 (formed-list ts h.1)

formed-sequence : (m : Label) (t : Tree) (ts : List Tree) → HasSpan m → AreFormed (t ∷ ts) → IsFormed (node SequenceExpression (record (made [] []) { start = m.start; stop = m.stop }) (many (trees (t ∷ ts)) then done))
formed-sequence m t ts s h = has_form-node s-Expression SequenceExpression (record (made [] []) { start = m.start; stop = m.stop }) (many (trees (t ∷ ts)) then done) (record { sort = refl; texts = refl; flags = refl; start = s.start; stop = s.stop; agree = refl; children = and_from _ true (formed-list (t ∷ ts) h) refl })

elements-formed : (ts : List Tree) → AreFormed ts → elements_form s-Argument s-Argument (fields (map one ts)) ≡ true
elements-formed [] h = refl
elements-formed (t ∷ ts) h = and_from _ _ (subst (λ (b : Sort). has_form b t ≡ true) (sym (one-sort (fields (map one ts)))) (form-wider s-Argument t refl h.0)) (elements-formed ts h.1)
  where
    one-sort : (fs : Fields) → sort_before_fields s-Argument s-Argument fs ≡ s-Argument
    one-sort done = refl
    one-sort (f then fs) = refl

formed-array : (ts : List Tree) → AreFormed ts → IsFormed (array_node ts)
formed-array ts h = let span = no-span [] [] in has_form-node s-Expression ArrayExpression (made [] []) (fields (map one ts)) (record { sort = refl; texts = refl; flags = refl; start = span.start; stop = span.stop; agree = refl; children = elements-formed ts h })

-- VALUES OF A REST

pub formed-mapped : (ks : List Tree) → AreFormed ks → IsFormed (call_node (member_node (array_node ks) (codes "map")) (helper_node (codes "toPropertyKey") ∷ []))
formed-mapped ks h = formed-called (member_node (array_node ks) (codes "map")) (helper_node (codes "toPropertyKey") ∷ []) (formed-member (made [] (false ∷ false ∷ [])) false false (array_node ks) (word (codes "map")) refl refl (no-span [] (false ∷ false ∷ [])) (formed-array ks h) refl) (refl, tt)

pub formed-left : (read : Bool) (s : Tree) (ks : List Tree) → IsFormed s → AreFormed ks → IsFormed (left_of read s ks)
formed-left true s ks h k = formed-called (helper_node (codes "objectWithoutProperties")) (s ∷ call_node (member_node (array_node ks) (codes "map")) (helper_node (codes "toPropertyKey") ∷ []) ∷ []) refl (h, (formed-mapped ks k, tt))
formed-left false s ks h k = formed-called (helper_node (codes "objectWithoutProperties")) (s ∷ array_node ks ∷ []) refl (h, (formed-array ks k, tt))

pub formed-whole : (s : Tree) → IsFormed s → IsFormed (whole_value s)
formed-whole s h =
    let call = call_node (helper_node (codes "objectDestructuringEmpty")) (s ∷ []) in
    let both = formed-sequence (made [] []) call (s ∷ []) (no-span [] []) (formed-called (helper_node (codes "objectDestructuringEmpty")) (s ∷ []) refl (h, tt), (h, tt)) in
    formed-called (helper_node (codes "extends")) (object_node [] ∷ sequence_node (call ∷ s ∷ []) ∷ []) refl (formed-object [] tt, (both, tt))

left-formed : (ks : List Tree) → EachTree (IsLeft IsText) ks → AreFormed ks
left-formed [] h = tt
left-formed (k ∷ ks) h = (at k h.0, left-formed ks h.1)
  where
    at : (k : Tree) → IsLeft IsText k → IsFormed k
    at k (text_left x) = refl
    at k (name_left x e) = formed-name x e

-- PATTERNS, by their parts: a property or a rest

abbrev IsPart : Tree → Type 0
IsPart p = has_form s-TargetMemberRest p ≡ true

property-kind : (k : AstType) → is_of_sort s-TargetMember k ≡ true → is_of_sort s-TargetMemberRest k ≡ true
property-kind TargetProperty e = refl
property-kind _ e = absurd (cc e)

lone-kind : (k : AstType) → is_rest k ≡ false → is_of_sort s-TargetMemberRest k ≡ true → is_of_sort s-TargetMember k ≡ true
lone-kind TargetProperty d e = refl
lone-kind TargetRest d e = absurd (cc d)
lone-kind _ d e = absurd (cc e)

-- the parts of a list with a rest at its end at most
list-parts : (ps : Trees) → trees_form s-TargetMember s-TargetMemberRest ps ≡ true → EachAmong IsPart ps
list-parts empty h = tt
list-parts (p before ps) h = let parts = and_parts (has_form (sort_before_trees s-TargetMember s-TargetMemberRest ps) p) (trees_form s-TargetMember s-TargetMemberRest ps) h in (at p ps parts.0, list-parts ps parts.1)
  where
    at : (p : Tree) (ps : Trees) → has_form (sort_before_trees s-TargetMember s-TargetMemberRest ps) p ≡ true → IsPart p
    at p empty h = h
    at (node k l fs) (q before qs) h = let f = node_form s-TargetMember k l fs h in has_form-node s-TargetMemberRest k l fs (record { sort = property-kind k f.sort; texts = f.texts; flags = f.flags; start = f.start; stop = f.stop; agree = f.agree; children = f.children })

-- and a list without one
parts-list : (ps : List Tree) → any_kind is_rest (trees ps) ≡ false → EachTree IsPart ps → trees_form s-TargetMember s-TargetMemberRest (trees ps) ≡ true
parts-list [] e h = refl
parts-list (p ∷ ps) e h = let none = or_parts (is_rest (kind_of p)) (any_kind is_rest (trees ps)) e in and_from _ (trees_form s-TargetMember s-TargetMemberRest (trees ps)) (at p (trees ps) none.0 h.0) (parts-list ps none.1 h.1)
  where
    at : (p : Tree) (ps : Trees) → is_rest (kind_of p) ≡ false → IsPart p → has_form (sort_before_trees s-TargetMember s-TargetMemberRest ps) p ≡ true
    at p empty d h = h
    at (node k l fs) (q before qs) d h = let f = node_form s-TargetMemberRest k l fs h in has_form-node s-TargetMember k l fs (record { sort = lone-kind k d f.sort; texts = f.texts; flags = f.flags; start = f.start; stop = f.stop; agree = f.agree; children = f.children })

-- what a pattern says beside its parts
record PatternLabel (l : Label) : Type 0 where
  texts : texts_fit (text_entries ObjectTarget) l.texts ≡ true
  flags : length l.flags ≡ length (flag_entries ObjectTarget)
  span : HasSpan l

formed-pattern : (l : Label) (ps : List Tree) → PatternLabel l → is_rest_target (one (object_target l ps)) ≡ false → EachTree IsPart ps → has_form s-AssignmentTarget (object_target l ps) ≡ true
formed-pattern l ps p e h = has_form-node s-AssignmentTarget ObjectTarget l (many (trees ps) then done) (record { sort = refl; texts = p.texts; flags = p.flags; start = p.span.start; stop = p.span.stop; agree = refl; children = and_from _ true (parts-list ps e h) refl })

-- KEYS that are read are computed

flag-computed : (bs : List Bool) → flag_at 1 bs ≡ flag_of f-Computed (flag_entries TargetProperty) bs
flag-computed [] = refl
flag-computed (a ∷ []) = refl
flag-computed (a ∷ (b ∷ bs)) = refl

abbrev key_sort : Bool → Sort
key_sort computed = if computed then s-Expression else s-PropertyKey

read-sort : (l : Label) (k : Tree) → is_read_key (has_computed TargetProperty l.flags) k ≡ true → key_sort (is_computed TargetProperty l) ≡ s-Expression
read-sort l k e = at (is_computed TargetProperty l) (sym (flag-computed l.flags) ∙ and-left (flag_at 1 l.flags) _ e)
  where
    at : (b : Bool) → b ≡ true → key_sort b ≡ s-Expression
    at true d = refl
    at false d = absurd (cc d)

module _ (l : Label) (k v : Tree) (e : is_read_key (has_computed TargetProperty l.flags) k ≡ true) (h : IsPart (property_target l k v)) where
  key-formed : IsFormed k
  key-formed = subst (λ (s : Sort). has_form s k ≡ true) (read-sort l k e) (two-parts (has_form (sort_at TargetProperty l s-PropertyKey) k) (has_form s-TargetElement v) (node_form s-TargetMemberRest TargetProperty l (one k then one v then done) h).children).0

  keyed-part : (x : Bound) → IsText x → IsPart (property_target l (identifier x) v)
  keyed-part x named =
      let f = node_form s-TargetMemberRest TargetProperty l (one k then one v then done) h in
      let value = (two-parts (has_form (sort_at TargetProperty l s-PropertyKey) k) (has_form s-TargetElement v) f.children).1 in
      let key = subst (λ (s : Sort). has_form s (identifier x) ≡ true) (sym (read-sort l k e)) (formed-name x named) in
      has_form-node s-TargetMemberRest TargetProperty l (one (identifier x) then one v then done) (record { sort = refl; texts = f.texts; flags = f.flags; start = f.start; stop = f.stop; agree = refl; children = and_from _ _ key (and_from (has_form s-TargetElement v) true value refl) })

-- ASSIGNMENTS

formed-assigned : (t v : Tree) → has_form s-AssignmentTarget t ≡ true → IsFormed v → IsFormed (assign_node t v)
formed-assigned t v h k = rw (h, k) refl

simple-kind : (k : AstType) (l : Label) (fs : Fields) → is_simple_target (kind_of (without_parens (node k l fs))) ≡ true → is_of_sort s-AssignmentTarget k ≡ true
simple-kind Identifier l fs e = refl
simple-kind MemberExpression l fs e = refl
simple-kind ParenthesizedExpression l fs e = refl
simple-kind _ l fs e = absurd (cc e)

-- what a rest is assigned to
rest-formed : (l : Label) (t : Tree) → is_simple_target (kind_of (without_parens t)) ≡ true → IsPart (rest_target l t) → has_form s-AssignmentTarget t ≡ true
rest-formed l (node k m fs) e h =
    let f = node_form s-TargetElement k m fs (and-left (has_form s-TargetElement (node k m fs)) true (node_form s-TargetMemberRest TargetRest l (one (node k m fs) then done) h).children) in
    has_form-node s-AssignmentTarget k m fs (record { sort = simple-kind k m fs e; texts = f.texts; flags = f.flags; start = f.start; stop = f.stop; agree = f.agree; children = f.children })

forms-right : (s : Tree) (lp : Label) → IsFormed s → PatternLabel lp → PartsRight s lp IsText IsPart IsPart IsFormed
forms-right s lp source label = record {
  last = λ ps e h. formed-assigned (object_target lp ps) s (formed-pattern lp ps label e h) source;
  group = λ ps e h. formed-assigned (object_target (made [] []) ps) s (formed-pattern (made [] []) ps (record { texts = refl; flags = refl; span = no-span [] [] }) e h) source;
  key = λ x l k v e named h. formed-stored x k named (key-formed l k v e h);
  keyed = λ x l k v e named h. keyed-part l k v e h x named;
  rest = λ read ks l t e names h. formed-assigned t (left_of read s ks) (rest-formed l t e h) (formed-left read s ks source (left-formed ks names));
  whole = λ l t e h. formed-assigned t (whole_value s) (rest-formed l t e h) (formed-whole s source);
}

-- NAMES that keys take

module _ (Taken : Bound → Type 0) (next : (w : Whole) (base : List ℕ) (x : Bound) → IsNext w base x → Taken x) where
  groups-taken : (s : Tree) (lp : Label) (w : Whole) (read : Bool) (before_it keys : List Tree) (ps : Trees) (xs : List Bound) (us : List Tree) → Groups s lp w read before_it keys ps xs us → Each Taken xs
  groups-taken s lp w read before_it keys ps xs us (ends simple) = tt
  groups-taken s lp w read before_it keys ps xs us (keeps known g) = groups-taken s lp w read _ _ _ xs us g
  groups-taken s lp w read before_it keys ps xs us (begins {x = x} {xs = ys} {us = vs} asked n g) = (next w _ x n, groups-taken s lp (with_made (x ∷ []) w) true _ _ _ ys vs g)

  pub target-taken : (s : Tree) (lp : Label) (w : Whole) (ps : Trees) (xs : List Bound) (us : List Tree) → TakesTarget s lp w ps xs us → Each Taken xs
  target-taken s lp w ps xs us (alone simple) = tt
  target-taken s lp w ps xs us (beside g) = groups-taken s lp w false [] [] ps xs us g

all-texts : (xs : List Bound) → Each IsText xs → AreTexts xs
all-texts [] h = tt
all-texts (x ∷ xs) h = (h.0, all-texts xs h.1)

all-formed : (ts : List Tree) → EachTree IsFormed ts → AreFormed ts
all-formed [] h = tt
all-formed (t ∷ ts) h = (h.0, all-formed ts h.1)

-- THE ROW

assigned-form : (n : Site) (w : Whole) (bs : List Bound) (t u : Tree) (a : Sort) → RestAssignmentRule n w bs t u → has_form a t ≡ true → RowForm a bs u
assigned-form n w bs t u a (assigns {m = m} {lp = lp} {ps = ps} {e = e} {x = x} {xs = xs} {us = us} unbound used texts silent next r) h =
    let pattern : Tree = node ObjectTarget lp (many ps then done) in
    let f = node_form a AssignmentExpression m (one pattern then one e then done) h in
    let sides = two-parts (has_form s-AssignmentTarget pattern) (has_form s-Expression e) f.children in
    let p = node_form s-AssignmentTarget ObjectTarget lp (many ps then done) sides.0 in
    let named = next-text w _ x next in
    let others = target-taken IsText next-text (identifier x) lp (with_made (x ∷ []) w) ps xs us r in
    let right = forms-right (identifier x) lp (formed-name x named) (record { texts = p.texts; flags = p.flags; span = record { start = p.start; stop = p.stop } }) in
    let parts = parts-right (identifier x) lp IsText IsPart IsPart IsFormed right (with_made (x ∷ []) w) ps xs us r others (each-part IsPart ps (list-parts ps (and-left (trees_form s-TargetMember s-TargetMemberRest ps) true p.children))) in
    let after = value_after (is_unused n.above) x in
    let all = formed-both us after (all-formed us parts) (value-formed (is_unused n.above) x named) in
    record { formed = form-wider a u (wide-assignment a f.sort) (formed-sequence m (assign_node (identifier x) e) (us ++ after) (span-of a AssignmentExpression m (one pattern then one e then done) h) (formed-stored x e named sides.1, all)); names = (named, all-texts xs others) }
  where
    value-formed : (unused : Bool) (x : Bound) → IsText x → AreFormed (value_after unused x)
    value-formed true x named = tt
    value-formed false x named = (formed-name x named, tt)

pub rest-assignment-form : FormLawful (RowRule RestAssignmentRule)
rest-assignment-form = row-form RestAssignmentRule assigned-form
