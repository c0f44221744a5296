-- What was made of the properties of a pattern and its source, where patterns in some of them bear a rest, one property after another.
use Rattle.std.proofs.Common.{ap, append-nil, append_assoc, arith, length, refl, subst, sym, ◌+◌, ◌<◌, ◌≤◌, ◌++◌, ◌==◌, ◌∙◌, ◌∷◌, ◌≡◌, [], List, Option, ℕ}
use Rattle.std.proofs.lemmas.Bool.{and_parts, or_from, or_parts}
use Rattle.std.specs.Prelude.{Bool, false, if◌then◌else◌, true, ◌||◌}
use Rattle.es_tree.specs.Bare.{bare_label}
use Rattle.es_tree.specs.Constructs.{any_kind, is_rest}
use Rattle.es_tree.specs.HasForm.{has_form}
use Rattle.es_tree.specs.Tree.{Label, Tree, Trees, done, empty, kind_of, node, one, tree_size, trees, trees_size, ◌before◌, ◌then◌}
use Rattle.es_tree.specs.Words.{Text}
use Rattle.es_tree.specs.declared.ast_type.AstType.TheVariants.{AssignmentPattern, Identifier, PatternProperty}
use Rattle.es_tree.specs.declared.table.Sort.TheVariants.{Pattern as s-Pattern, PatternMember as s-PatternMember, PatternMemberRest as s-PatternMemberRest, VariableDeclarator as s-VariableDeclarator}
use Rattle.es_scope.specs.declared.context.TraverseCtx.{TraverseCtx}
use Rattle.es_semantic.specs.RolesOf.{reads}
use Rattle.es_resolution.specs.Declarations.{Bound}
use Rattle.es_resolution.specs.Seen.{seen, seen_among}
use Rattle.es_runs.proofs.OptionalChainingWeights.{tests_size-append}
use Rattle.es_steps.specs.Nodes.{declarator_with, identifier, joined_trees, made}
use Rattle.es_steps.specs.ObjectRest.{declares_as, declares_some, pattern_node}
use Rattle.es_steps.specs.Patterns.{IsSilent}
use Rattle.es_steps.specs.Rules.{with_made}
use Rattle.es_steps.specs.Steps.{Whole}
use Rattle.es_steps.proofs.FormLists.{first-formed}
use Rattle.es_steps.proofs.Lists.{joined-empty}
use Rattle.es_steps.proofs.Written.{joined-twice}
use Rattle.es_changes.specs.Moments.{Moment, whole_at}
use Rattle.es_changes.proofs.Expressions.{law_expression_proof}
use Rattle.es_valid_rests.proofs.RestFormsDeclared.{declarator-parts, default-parts, pattern-members, property-value, rest-parts}
use Rattle.es_rest_rows.specs.RestRows.{PutsName, group, is_kept, property_of}
use Rattle.es_rest_rows.specs.RestRows.PutsName.{for_pattern as k-for_pattern, with_default as k-with_default}
use Rattle.es_rest_shapes.specs.RestShapes.{any_tree, are_plain, bears_among, bears_rest, is_name, is_plain_pattern, is_plain_property, is_rest_declarator}
use Rattle.lower_nodes.specs.Nodes.{owed, owed_among}
use Rattle.lower_temporaries.specs.SeenTrees.{IsSeenAs, no_bindings}
use Rattle.lower_temporaries.specs.Takings.{ReadsMore, moment_of}
use Rattle.lower_temporaries.specs.declared.state.TransformState.{TransformState}
use Rattle.lower_temporaries.proofs.SeenLaws.{any_kind-seen, size-seen}
use Rattle.lower_object_rest.specs.Declarators.{AddsKept, AddsPattern, AreKnown, LowersPattern, Rows}
use Rattle.lower_object_rest.specs.Nested.{AddsPart, PartsMade, Puts, TakesOut, Turns, declares_left, left_ids}
use Rattle.lower_object_rest.specs.Nested.Puts.{for_pattern, with_default}
use Rattle.lower_object_rest.specs.Profile.{key_ids, nested_ids, nested_ids_by, nested_ids_of, rest_owes}
use Rattle.lower_object_rest.specs.declared.nested.PropertyOut.{PropertyOut}
use Rattle.lower_object_rest.proofs.Clear.{clear-parted}
use Rattle.lower_object_rest.proofs.Composition.{append-seen, grows-same, grows-then, owed-append, rows-first, rows-same, rows-turns, turns-all, turns-none, turns-then}
use Rattle.lower_object_rest.proofs.Costs.{nested-plain, owed-name, owed-without, pattern_work, size-name, size-within, work-size}
use Rattle.lower_object_rest.proofs.Declarators.{bound-grows, reads-grow, seen-name, seen-source}
use Rattle.lower_object_rest.proofs.GroupsMade.{none-of, plain-among}
use Rattle.lower_object_rest.proofs.KeptSources.{binds-behind, kept-later}
use Rattle.lower_object_rest.proofs.PatternShapes.{plain-kind, plain-parts}
use Rattle.lower_object_rest.proofs.SeenShapes.{any-bears-seen, bears-seen, name-seen, owed-among, owed-seen, pattern-seen, plain-seen, size-among}
use Rattle.lower_object_rest.proofs.Steps.{RowAt, nested-row}
use Rattle.lower_object_rest.proofs.Turning.{row-turns}

-- LISTS

any-bears-append : (ps qs : List Tree) → bears_among (trees (ps ++ qs)) ≡ (bears_among (trees ps) || bears_among (trees qs))
any-bears-append [] qs = refl
any-bears-append (p ∷ ps) qs = ap (λ b. bears_rest p || b) (any-bears-append ps qs) ∙ apart (bears_rest p) (bears_among (trees ps)) (bears_among (trees qs))
  where
    apart : (a b c : Bool) → (a || (b || c)) ≡ ((a || b) || c)
    apart true b c = refl
    apart false b c = refl

nested-append : (ps qs : List Tree) → nested_ids (trees (ps ++ qs)) ≡ nested_ids (trees ps) + nested_ids (trees qs)
nested-append [] qs = omega arith
nested-append (p ∷ ps) qs = omega (arith, nested-append ps qs)

kinds-more : (ps : List Tree) (p : Tree) → any_kind is_rest (trees ps) ≡ false → is_rest (kind_of p) ≡ false → any_kind is_rest (trees (ps ++ p ∷ [])) ≡ false
kinds-more [] p h e = λ i. e i || false
kinds-more (q ∷ ps) p h e = let parts = or_parts (is_rest (kind_of q)) (any_kind is_rest (trees ps)) h in or_from (is_rest (kind_of q)) (any_kind is_rest (trees (ps ++ p ∷ []))) parts.0 (kinds-more ps p parts.1 e)

-- properties that bear no rest have no ids for one
nested-of-none : (p : Tree) → bears_rest p ≡ false → nested_ids_of p ≡ 0
nested-of-none (node PatternProperty l fs) h = ap nested_ids_by h
nested-of-none (node _ l fs) h = refl

nested-none : (ps : Trees) → bears_among ps ≡ false → nested_ids ps ≡ 0
nested-none empty h = refl
nested-none (p before ps) h = let parts = or_parts (bears_rest p) (bears_among ps) h in omega (arith, nested-of-none p parts.0, nested-none ps parts.1)

-- nor does a pattern of them owe any for itself
pub owed-clear : (l : Label) (ps : Trees) → any_kind is_rest ps ≡ false → bears_among ps ≡ false → owed rest_owes (pattern_node l ps) ≡ owed_among rest_owes ps
owed-clear l ps kinds h =
    let own : (if any_kind is_rest ps then 16 + key_ids ps else 0) ≡ 0 = ap (λ b. if b then 16 + key_ids ps else 0) kinds in
    omega (arith, own, nested-none ps h)

-- one property more, at the end
module _ (ps : List Tree) (p : Tree) where
  bears-more : (b : Bool) → bears_rest p ≡ b → bears_among (trees (ps ++ p ∷ [])) ≡ (bears_among (trees ps) || b)
  bears-more b e = any-bears-append ps (p ∷ []) ∙ ap (λ c. bears_among (trees ps) || c) (off (bears_rest p) ∙ e)
    where
      off : (c : Bool) → (c || false) ≡ c
      off true = refl
      off false = refl

  bears-still : bears_rest p ≡ false → bears_among (trees (ps ++ p ∷ [])) ≡ bears_among (trees ps)
  bears-still e = bears-more false e ∙ off (bears_among (trees ps))
    where
      off : (c : Bool) → (c || false) ≡ c
      off true = refl
      off false = refl

  bears-now : bears_rest p ≡ true → bears_among (trees (ps ++ p ∷ [])) ≡ true
  bears-now e = bears-more true e ∙ on (bears_among (trees ps))
    where
      on : (c : Bool) → (c || true) ≡ true
      on true = refl
      on false = refl

  -- those that come stand behind it
  seen-behind : (names : ℕ → Text → Option ℕ) (more : Trees) → joined_trees (seen_among names (trees (ps ++ p ∷ []))) more ≡ joined_trees (seen_among names (trees ps)) (seen names p before more)
  seen-behind names more = ap (λ us. joined_trees us more) (append-seen names ps (p ∷ [])) ∙ joined-twice (seen_among names (trees ps)) (seen names p before empty) more

-- NONE YET

pub parts-none : (ctx : TraverseCtx TransformState) (s : Tree) → PartsMade ctx ctx [] s [] []
parts-none ctx s = record {
  turns = λ names l lp more plain kept. turns-none (moment_of ctx) (declares_as l (pattern_node lp more) (seen names s) before empty);
  front = [];
  behind = refl;
  kinds = refl;
  clear = refl;
  grows = grows-same (moment_of ctx);
  paid = record { lists = refl; around = refl; options = refl; counted = omega arith; lighter = omega arith; nodes = omega arith };
}

-- A PROPERTY THAT BEARS NO REST

pub parts-plain : (old new : TraverseCtx TransformState) (ps : List Tree) (s p : Tree) (these us : List Tree) → is_plain_property p ≡ true → bears_rest p ≡ false → PartsMade old new ps s these us → PartsMade old new (ps ++ p ∷ []) s (these ++ p ∷ []) us
parts-plain old new ps s p these us own none m =
    let still = bears-still ps p none in
    record {
      turns = λ names l lp more plain kept.
          let all_is = seen-behind ps p names more in
          let these_is = seen-behind these p names more in
          let S = seen names s in
          let plain_so : are_plain (joined_trees (seen_among names (trees ps)) (seen names p before more)) ≡ true = subst (λ (ts : Trees). are_plain ts ≡ true) all_is plain in
          let kept_so : is_kept (whole_at (moment_of old)) (pattern_node lp (joined_trees (seen_among names (trees ps)) (seen names p before more))) S ≡ true = subst (λ (ts : Trees). is_kept (whole_at (moment_of old)) (pattern_node lp ts) S ≡ true) all_is kept in
          subst (λ (ts : Trees). Turns (moment_of old) (declares_as l (pattern_node lp ts) S before empty) (moment_of new) (seen_among names (trees us)) (declares_left (bears_among (trees (ps ++ p ∷ []))) l lp S (joined_trees (seen_among names (trees (these ++ p ∷ []))) more))) (sym all_is)
          (subst (λ (ts : Trees). Turns (moment_of old) (declares_as l (pattern_node lp (joined_trees (seen_among names (trees ps)) (seen names p before more))) S before empty) (moment_of new) (seen_among names (trees us)) (declares_left (bears_among (trees (ps ++ p ∷ []))) l lp S ts)) (sym these_is)
          (subst (λ (b : Bool). Turns (moment_of old) (declares_as l (pattern_node lp (joined_trees (seen_among names (trees ps)) (seen names p before more))) S before empty) (moment_of new) (seen_among names (trees us)) (declares_left b l lp S (joined_trees (seen_among names (trees these)) (seen names p before more)))) (sym still)
          (m.turns names l lp (seen names p before more) plain_so kept_so)));
      front = m.front;
      behind = ap (λ (ts : List Tree). ts ++ p ∷ []) m.behind ∙ append_assoc m.front these (p ∷ []);
      kinds = kinds-more these p m.kinds (plain-kind p own);
      clear = bears-still these p none ∙ m.clear;
      grows = m.grows;
      paid = record {
        lists = m.paid.lists;
        around = m.paid.around;
        options = m.paid.options;
        counted = m.paid.counted;
        lighter = omega (arith, m.paid.lighter, ap left_ids still, nested-append ps (p ∷ []), nested-of-none p none, owed-append ps (p ∷ []), owed-append these (p ∷ []));
        nodes = omega (arith, m.paid.nodes, tests_size-append ps (p ∷ []), tests_size-append these (p ∷ []));
      };
    }

-- A PATTERN IN A PROPERTY

-- the value that has a name in the place of the pattern: as many ids are owed, and it has as many nodes but for the pattern's
record PutCosts (x p v u : Tree) : Type 0 where
  owed-put : owed rest_owes v + owed rest_owes x ≡ owed rest_owes p + owed rest_owes u
  size-put : tree_size v + tree_size x ≡ tree_size p + tree_size u

put-costs : (x p v u : Tree) → Puts x p v u → PutCosts x p v u
put-costs x p v u for_pattern = record { owed-put = omega arith; size-put = omega arith }
put-costs x p v u (with_default l e) = record { owed-put = omega arith; size-put = omega arith }

some-size : (t : Tree) → 1 ≤ tree_size t
some-size (node k l fs) = omega arith

-- the pattern in a property is smaller, and owes no more
pub out-work : (old new : TraverseCtx TransformState) (q : Tree) (out : PropertyOut) → TakesOut old new q out → pattern_work out.pattern ≤ pattern_work q
out-work old new q out t =
    let put = put-costs t.binding out.pattern t.value t.named t.put.puts in
    omega (arith, ap tree_size t.was, work-size q, work-size out.pattern, put.size-put, some-size t.named, size-name t.binding (seen-name t.binding t.name (t.binding_is no_bindings)))

pub out-owed : (old new : TraverseCtx TransformState) (q : Tree) (out : PropertyOut) → TakesOut old new q out → owed rest_owes out.pattern ≤ owed rest_owes q
out-owed old new q out t =
    let put = put-costs t.binding out.pattern t.value t.named t.put.puts in
    omega (arith, ap (owed rest_owes) t.was, put.owed-put, owed-name t.binding (seen-name t.binding t.name (t.binding_is no_bindings)))

-- as it is seen, where it has form: a default value is an expression
put-seen : (names : ℕ → Text → Option ℕ) (b : Bound) (x p v u : Tree) → IsSeenAs x (identifier b) → has_form s-Pattern (seen names v) ≡ true → Puts x p v u → PutsName (identifier b) (seen names p) (seen names v) (seen names u)
put-seen names b x p v u name h for_pattern = subst (λ (t : Tree). PutsName (identifier b) (seen names p) (seen names p) t) (sym (name names)) k-for_pattern
put-seen names b x p v u name h (with_default l e) =
    let value = (default-parts (bare_label l) (seen names p) (seen names e) h).value in
    let silent : IsSilent reads (seen names e) = (law_expression_proof (seen names e) value).declares_nothing in
    subst (λ (t : Tree). PutsName (identifier b) (seen names p) (node AssignmentPattern (bare_label l) (one (seen names p) then one (seen names e) then done)) (node AssignmentPattern (bare_label l) (one t then one (seen names e) then done))) (sym (name names)) (k-with_default (bare_label l) (seen names e) silent)

-- the label of the declarator that is left
abbrev left_label : Bool → Label → Label
left_label false l = l
left_label true l = made [] []

left-is : (b : Bool) (l lp : Label) (s : Tree) (xs : Trees) (p : Tree) (ys : Trees) → declares_left b l lp s (joined_trees xs (p before ys)) ≡ declares_as (left_label b l) (pattern_node lp (joined_trees xs (p before ys))) s before empty
left-is false l lp s xs p ys = refl
left-is true l lp s empty p ys = refl
left-is true l lp s (x before xs) p ys = refl

module _ (first old mid between new : TraverseCtx TransformState) (ps : List Tree) (s q : Tree) (these ts : List Tree) (g : Tree) (us : List Tree) (out : PropertyOut)
    (name : is_name s ≡ true) (bears : bears_rest q ≡ true) (m : PartsMade first old ps s these ts) (t : TakesOut old mid q out)
    (declared : (names : ℕ → Text → Option ℕ) → seen names g ≡ group (made [] []) (seen names s) (seen_among names (trees (these ++ out.property ∷ [])))) (read : ReadsMore 3 mid between) (h : LowersPattern between new out.pattern out.name us) where
  whole-is : whole_at (moment_of between) ≡ with_made (t.name ∷ []) (whole_at (moment_of old))
  whole-is = ap whole_at read.moment_is ∙ t.takes.whole_is

  module _ (names : ℕ → Text → Option ℕ) (l lp : Label) (more : Trees) (ls : Label) (is_source : seen names s ≡ node Identifier ls done) where
    abbrev it : Tree
    it = node Identifier ls done

    abbrev seen_these : Trees
    seen_these = seen_among names (trees these)

    abbrev lq : Label
    lq = bare_label t.label

    abbrev key : Tree
    key = seen names t.key

    abbrev value : Tree
    value = seen names t.value

    abbrev named : Tree
    named = seen names t.named

    abbrev pattern : Tree
    pattern = seen names out.pattern

    -- the properties of the declarator that is left
    abbrev left_properties : Trees
    left_properties = joined_trees seen_these (property_of lq key value before more)

    abbrev left_declarator : Label → Tree
    left_declarator j = declares_as j (pattern_node lp left_properties) it

    property-seen : seen names q ≡ property_of lq key value
    property-seen = ap (seen names) t.was

    value-formed : (j : Label) → AreKnown (left_declarator j before empty) → has_form s-Pattern value ≡ true
    value-formed j known =
        let formed = (first-formed s-VariableDeclarator (left_declarator j) empty known.formed).0 in
        let target = (declarator-parts j (pattern_node lp left_properties) it formed).target in
        property-value _ lq (one key) value (rest-parts s-PatternMember s-PatternMemberRest seen_these (property_of lq key value) more (pattern-members lp left_properties target)).it

    left-puts : (j : Label) → AreKnown (left_declarator j before empty) → PutsName (identifier t.name) pattern value named
    left-puts j known = put-seen names t.name t.binding out.pattern t.value t.named t.binding_is (value-formed j known) t.put.puts

    these-clear : bears_among seen_these ≡ false
    these-clear = any-bears-seen names (trees these) ∙ m.clear

    pattern-plain : is_plain_pattern pattern ≡ true
    pattern-plain = pattern-seen names out.pattern ∙ t.put.plain

    -- the declarators that the row leaves
    abbrev closed : Tree
    closed = group (made [] []) it (joined_trees seen_these (property_of lq key named before empty))

    abbrev behind_it : Trees
    behind_it = declarator_with pattern (identifier t.name) before declares_some lp it more

    part-turns : (j : Label) → are_plain left_properties ≡ true → is_kept (whole_at (moment_of old)) (pattern_node lp left_properties) it ≡ true → Turns (moment_of old) (left_declarator j before empty) (moment_of between) (closed before empty) behind_it
    part-turns j plain kept =
        let w = whole_at (moment_of old) in
        let row = λ (known : AreKnown (left_declarator j before empty)).
        subst (λ (v : Whole). RowAt w (left_declarator j) v (closed before behind_it)) (sym whole-is) (nested-row w j lp lq ls seen_these more key pattern value named t.name plain these-clear pattern-plain (left-puts j known) kept t.next) in
        let clear = λ (known : AreKnown (left_declarator j before empty)). clear-parted j lp lq ls seen_these more key pattern value named it t.name plain these-clear pattern-plain (left-puts j known) known in
        row-turns (moment_of old) (moment_of between) (left_declarator j) (closed before empty) behind_it row (λ known. (clear known).clear) (λ known. (clear known).none)

    closed-is : closed ≡ seen names g
    closed-is =
        let all = append-seen names these (out.property ∷ []) in
        sym (declared names ∙ ((λ i. group (made [] []) (is_source i) (all i)) ∙ ap (λ (p : Tree). group (made [] []) it (joined_trees seen_these (p before empty))) (ap (seen names) t.property_is)))

    -- and those that come of the pattern
    nested-turns : Turns (moment_of between) behind_it (moment_of new) (seen_among names (trees us)) (declares_some lp it more)
    nested-turns =
        rows-first (moment_of between) (moment_of new) (declarator_with pattern (identifier t.name) before empty) (seen_among names (trees us)) (declares_some lp it more)
        (subst (λ (x : Tree). Rows (moment_of between) (declarator_with pattern x before empty) (moment_of new) (seen_among names (trees us))) (t.name_is names) (h.rows names (made [] [])))

    -- the properties before, and what came of them
    module _ (plain : are_plain (joined_trees (seen_among names (trees ps)) (seen names q before more)) ≡ true) (kept : is_kept (whole_at (moment_of first)) (pattern_node lp (joined_trees (seen_among names (trees ps)) (seen names q before more))) (seen names s) ≡ true) where
      front-is : joined_trees (seen_among names (trees ps)) (seen names q before more) ≡ joined_trees (seen_among names (trees m.front)) left_properties
      front-is =
          ap (λ (qs : List Tree). joined_trees (seen_among names (trees qs)) (seen names q before more)) m.behind
          ∙ (ap (λ (qs : Trees). joined_trees qs (seen names q before more)) (append-seen names m.front these)
          ∙ (joined-twice (seen_among names (trees m.front)) seen_these (seen names q before more) ∙ ap (λ (p : Tree). joined_trees (seen_among names (trees m.front)) (joined_trees seen_these (p before more))) property-seen))

      left-plain : are_plain left_properties ≡ true
      left-plain = (plain-parts (seen_among names (trees m.front)) left_properties (subst (λ (qs : Trees). are_plain qs ≡ true) front-is plain)).1

      left-kept : is_kept (whole_at (moment_of old)) (pattern_node lp left_properties) it ≡ true
      left-kept =
          kept-later (whole_at (moment_of first)) (whole_at (moment_of old)) (pattern_node lp (joined_trees (seen_among names (trees m.front)) left_properties)) (pattern_node lp left_properties) it m.grows.made m.grows.steady (λ x e. binds-behind x lp lp (seen_among names (trees m.front)) left_properties e)
          (subst (λ (t : Tree). is_kept (whole_at (moment_of first)) (pattern_node lp (joined_trees (seen_among names (trees m.front)) left_properties)) t ≡ true) is_source (subst (λ (qs : Trees). is_kept (whole_at (moment_of first)) (pattern_node lp qs) (seen names s) ≡ true) front-is kept))

      abbrev whole_declarator : Tree
      whole_declarator = declares_as l (pattern_node lp (joined_trees (seen_among names (trees ps)) (seen names q before more))) (seen names s)

      earlier-turns : Turns (moment_of first) (whole_declarator before empty) (moment_of old) (seen_among names (trees ts)) (left_declarator (left_label (bears_among (trees ps)) l) before empty)
      earlier-turns =
          let b = bears_among (trees ps) in
          subst (λ (ds : Trees). Turns (moment_of first) (whole_declarator before empty) (moment_of old) (seen_among names (trees ts)) ds) (left-is b l lp it seen_these (property_of lq key value) more)
          (subst (λ (p : Tree). Turns (moment_of first) (whole_declarator before empty) (moment_of old) (seen_among names (trees ts)) (declares_left b l lp it (joined_trees seen_these (p before more)))) property-seen
          (subst (λ (x : Tree). Turns (moment_of first) (whole_declarator before empty) (moment_of old) (seen_among names (trees ts)) (declares_left b l lp x (joined_trees seen_these (seen names q before more)))) is_source (m.turns names l lp (seen names q before more) plain kept)))

      all-turns : Turns (moment_of first) (whole_declarator before empty) (moment_of new) (seen_among names (trees (ts ++ g ∷ us))) (declares_some lp (seen names s) more)
      all-turns =
          let j = left_label (bears_among (trees ps)) l in
          let T = seen_among names (trees ts) in
          let U = seen_among names (trees us) in
          let one_more = turns-then (moment_of first) (moment_of old) (moment_of between) (whole_declarator before empty) T (left_declarator j before empty) (closed before empty) behind_it earlier-turns (part-turns j left-plain left-kept) in
          let all = turns-then (moment_of first) (moment_of between) (moment_of new) (whole_declarator before empty) (joined_trees T (closed before empty)) behind_it U (declares_some lp it more) one_more nested-turns in
          let made_is : joined_trees (joined_trees T (closed before empty)) U ≡ seen_among names (trees (ts ++ g ∷ us)) = joined-twice T (closed before empty) U ∙ ((λ i. joined_trees T (closed-is i before U)) ∙ sym (append-seen names ts (g ∷ us))) in
          subst (λ (x : Tree). Turns (moment_of first) (whole_declarator before empty) (moment_of new) (seen_among names (trees (ts ++ g ∷ us))) (declares_some lp x more)) (sym is_source)
          (subst (λ (ds : Trees). Turns (moment_of first) (whole_declarator before empty) (moment_of new) ds (declares_some lp it more)) made_is all)

  -- ids and sizes
  size-group : tree_size g ≡ 3 + (trees_size (trees these) + tree_size out.property)
  size-group =
      let seen_size : tree_size g ≡ tree_size (group (made [] []) (seen no_bindings s) (seen_among no_bindings (trees (these ++ out.property ∷ [])))) = sym (size-seen no_bindings g) ∙ ap tree_size (declared no_bindings) in
      omega (arith, seen_size, size-among no_bindings (trees (these ++ out.property ∷ [])), tests_size-append these (out.property ∷ []), size-name (seen no_bindings s) (name-seen no_bindings s ∙ name))

  property-clear : bears_rest out.property ≡ false
  property-clear = ap bears_rest t.property_is ∙ at t.binding out.pattern t.value t.named t.binding_is t.put.puts
    where
      name-clear : (x : Tree) → IsSeenAs x (identifier t.name) → bears_rest x ≡ false
      name-clear x e = sym (bears-seen no_bindings x) ∙ ap bears_rest (e no_bindings)

      at : (x p v u : Tree) → IsSeenAs x (identifier t.name) → Puts x p v u → bears_rest (property_of t.label t.key u) ≡ false
      at x p v u e for_pattern = name-clear x e
      at x p v u e (with_default l d) = name-clear x e

  owed-closed : owed rest_owes g ≡ owed_among rest_owes (trees these) + owed rest_owes out.property
  owed-closed =
      let all = these ++ out.property ∷ [] in
      let there = seen_among no_bindings (trees all) in
      let seen_owed : owed rest_owes g ≡ owed rest_owes (group (made [] []) (seen no_bindings s) there) = sym (owed-seen no_bindings g) ∙ ap (owed rest_owes) (declared no_bindings) in
      let clear : bears_among there ≡ false = any-bears-seen no_bindings (trees all) ∙ (bears-still these out.property property-clear ∙ m.clear) in
      let kinds : any_kind is_rest there ≡ false = any_kind-seen no_bindings is_rest (trees all) ∙ kinds-more these out.property m.kinds (ap (λ (p : Tree). is_rest (kind_of p)) t.property_is) in
      omega (arith, seen_owed, owed-clear (made [] []) there kinds clear, owed-among no_bindings (trees all), owed-append these (out.property ∷ []), owed-name (seen no_bindings s) (name-seen no_bindings s ∙ name))

  pub parts-nested : PartsMade first new (ps ++ q ∷ []) s [] (ts ++ g ∷ us)
  parts-nested =
      let now = bears-now ps q bears in
      let put = put-costs t.binding out.pattern t.value t.named t.put.puts in
      let next = ap (λ (a : Moment). a.next) read.moment_is in
      let binding = seen-name t.binding t.name (t.binding_is no_bindings) in
      let reading = seen-name out.name t.name (t.name_is no_bindings) in
      record {
        turns = λ names l lp more plain kept.
            let all_is = seen-behind ps q names more in
            let source = seen-source names s name in
            let S = seen names s in
            let plain_so : are_plain (joined_trees (seen_among names (trees ps)) (seen names q before more)) ≡ true = subst (λ (qs : Trees). are_plain qs ≡ true) all_is plain in
            let kept_so : is_kept (whole_at (moment_of first)) (pattern_node lp (joined_trees (seen_among names (trees ps)) (seen names q before more))) S ≡ true = subst (λ (qs : Trees). is_kept (whole_at (moment_of first)) (pattern_node lp qs) S ≡ true) all_is kept in
            subst (λ (qs : Trees). Turns (moment_of first) (declares_as l (pattern_node lp qs) S before empty) (moment_of new) (seen_among names (trees (ts ++ g ∷ us))) (declares_left (bears_among (trees (ps ++ q ∷ []))) l lp S more)) (sym all_is)
            (subst (λ (b : Bool). Turns (moment_of first) (declares_as l (pattern_node lp (joined_trees (seen_among names (trees ps)) (seen names q before more))) S before empty) (moment_of new) (seen_among names (trees (ts ++ g ∷ us))) (declares_left b l lp S more)) (sym now)
            (all-turns names l lp more source.label source.is plain_so kept_so));
        front = ps ++ q ∷ [];
        behind = sym (append-nil (ps ++ q ∷ []));
        kinds = refl;
        clear = refl;
        grows = grows-then m.grows (grows-then (bound-grows t.name 2 (moment_of old) (moment_of mid) t.takes) (grows-then (reads-grow 3 mid between read) h.grows));
        paid = record {
          lists = h.paid.lists ∙ (ap (λ (a : Moment). a.lists) read.moment_is ∙ (t.takes.lists_are ∙ m.paid.lists));
          around = h.paid.around ∙ (ap (λ (a : Moment). a.around) read.moment_is ∙ (t.takes.around_is ∙ m.paid.around));
          options = h.paid.options ∙ (ap (λ (a : Moment). a.options) read.moment_is ∙ (t.takes.options_are ∙ m.paid.options));
          counted = omega (arith, m.paid.counted, t.takes.next_is, next, h.paid.counted);
          lighter = omega (arith, m.paid.lighter, t.takes.next_is, next, h.paid.lighter, ap left_ids now, nested-append ps (q ∷ []), ap nested_ids_of t.was, ap nested_ids_by (sym (ap bears_rest t.was) ∙ bears), owed-append ps (q ∷ []), owed-append ts (g ∷ us), owed-closed, put.owed-put, owed-name t.binding binding, owed-name out.name reading, ap (owed rest_owes) t.was, ap (owed rest_owes) t.property_is);
          nodes = omega (arith, m.paid.nodes, t.takes.next_is, next, h.paid.nodes, tests_size-append ps (q ∷ []), tests_size-append ts (g ∷ us), size-group, put.size-put, size-name t.binding binding, size-name out.name reading, ap tree_size t.was, ap tree_size t.property_is);
        };
      }

-- A CALL for a property

pub adds-plain : (ctx : TraverseCtx TransformState) (s p : Tree) (these us those : List Tree) → is_plain_property p ≡ true → bears_rest p ≡ false → those ≡ these ++ p ∷ [] → AddsPart ctx ctx p s these us those us
adds-plain ctx s p these us those own none put = record {
  added = [];
  are = sym (append-nil us);
  more = λ first ps ts m.
      subst (λ (qs : List Tree). PartsMade first ctx (ps ++ p ∷ []) s qs (ts ++ [])) (sym put)
      (subst (λ (vs : List Tree). PartsMade first ctx (ps ++ p ∷ []) s (these ++ p ∷ []) vs) (sym (append-nil ts)) (parts-plain first ctx ps s p these ts own none m));
}

pub adds-nested : (old mid between new : TraverseCtx TransformState) (s q : Tree) (these us those vs : List Tree) (g : Tree) (out : PropertyOut) → is_name s ≡ true → bears_rest q ≡ true → TakesOut old mid q out →
    ((names : ℕ → Text → Option ℕ) → seen names g ≡ group (made [] []) (seen names s) (seen_among names (trees (these ++ out.property ∷ [])))) → ReadsMore 3 mid between → AddsPattern between new out.pattern out.name (us ++ g ∷ []) vs → those ≡ [] → AddsPart old new q s these us those vs
adds-nested old mid between new s q these us those vs g out name bears t declared read h none = record {
  added = g ∷ h.added;
  are = h.are ∙ append_assoc us (g ∷ []) h.added;
  more = λ first ps ts m. subst (λ (qs : List Tree). PartsMade first new (ps ++ q ∷ []) s qs (ts ++ g ∷ h.added)) (sym none) (parts-nested first old mid between new ps s q these ts g h.added out name bears m t declared read h.lowers);
}

-- ONE AFTER ANOTHER

-- those before the rest were gone through, and what came of them stands behind what was made before
pub record PartsSoFar (old new : TraverseCtx TransformState) (all rest : List Tree) (s : Tree) (these us vs : List Tree) : Type 0 where
  pub first : List Tree
  pub are : all ≡ first ++ rest
  pub added : List Tree
  pub added_are : vs ≡ us ++ added
  pub parts : PartsMade old new first s these added

pub parts-so-far-none : (ctx : TraverseCtx TransformState) (all rest : List Tree) (s : Tree) (these us : List Tree) → rest ≡ all → these ≡ [] → PartsSoFar ctx ctx all rest s these us us
parts-so-far-none ctx all rest s these us whole none = record {
  first = [];
  are = sym whole;
  added = [];
  added_are = sym (append-nil us);
  parts = subst (λ (qs : List Tree). PartsMade ctx ctx [] s qs []) (sym none) (parts-none ctx s);
}

module _ (old mid : TraverseCtx TransformState) (all rest : List Tree) (s p : Tree) (these us vs : List Tree) (h : PartsSoFar old mid all (p ∷ rest) s these us vs) where
  pub parts-so-far-plain : are_plain (trees all) ≡ true → is_plain_property p ≡ true
  parts-so-far-plain plain = plain-among h.first p rest (sym (ap (λ (ts : List Tree). are_plain (trees ts)) h.are) ∙ plain)

  pub parts-so-far-size : tree_size p ≤ trees_size (trees all)
  parts-so-far-size = let whole = ap (λ (ts : List Tree). trees_size (trees ts)) h.are in omega (arith, whole, size-within h.first p rest)

  pub parts-so-far-room : (bound : ℕ) → is_plain_property p ≡ true → old.ast.next + (nested_ids (trees all) + owed_among rest_owes (trees all)) < bound → mid.ast.next + nested_ids_by (bears_rest p) + owed rest_owes p < bound
  parts-so-far-room bound own room =
      let nested = ap (λ (ts : List Tree). nested_ids (trees ts)) h.are in
      let whole = ap (λ (ts : List Tree). owed_among rest_owes (trees ts)) h.are in
      omega (arith, room, nested, whole, nested-plain p own, h.parts.paid.lighter, nested-append h.first (p ∷ rest), owed-append h.first (p ∷ rest))

  pub parts-so-far-next : (new : TraverseCtx TransformState) (those ws : List Tree) → AddsPart mid new p s these vs those ws → PartsSoFar old new all rest s those us ws
  parts-so-far-next new those ws a = record {
    first = h.first ++ p ∷ [];
    are = h.are ∙ sym (append_assoc h.first (p ∷ []) rest);
    added = h.added ++ a.added;
    added_are = a.are ∙ (ap (λ (ts : List Tree). ts ++ a.added) h.added_are ∙ append_assoc us h.added a.added);
    parts = a.more old h.first h.added h.parts;
  }

-- ALL OF THEM

module _ (old mid : TraverseCtx TransformState) (all rest : List Tree) (s : Tree) (these us vs : List Tree) (h : PartsSoFar old mid all rest s these us vs) (ended : length rest ≡ 0) where
  all-are : all ≡ h.first
  all-are = h.are ∙ (ap (λ (ts : List Tree). h.first ++ ts) (none-of rest ended) ∙ append-nil h.first)

  parts-all : PartsMade old mid all s these h.added
  parts-all = subst (λ (ts : List Tree). PartsMade old mid ts s these h.added) (sym all-are) h.parts

  module _ (lp : Label) (plain : are_plain (trees all) ≡ true) (bears : bears_among (trees all) ≡ true) (name : is_name s ≡ true) where
    abbrev pattern_of : Tree
    pattern_of = pattern_node lp (trees all)

    whole-turns : (names : ℕ → Text → Option ℕ) (l : Label) → is_kept (whole_at (moment_of old)) (seen names pattern_of) (seen names s) ≡ true → Turns (moment_of old) (declares_as l (seen names pattern_of) (seen names s) before empty) (moment_of mid) (seen_among names (trees h.added)) (declares_some (bare_label lp) (seen names s) (seen_among names (trees these)))
    whole-turns names l kept =
        let A = seen_among names (trees all) in
        let T = seen_among names (trees these) in
        let S = seen names s in
        let whole = joined-empty A in
        let plain_so : are_plain (joined_trees A empty) ≡ true = subst (λ (ts : Trees). are_plain ts ≡ true) (sym whole) (plain-seen names (trees all) ∙ plain) in
        let kept_so : is_kept (whole_at (moment_of old)) (pattern_node (bare_label lp) (joined_trees A empty)) S ≡ true = subst (λ (ts : Trees). is_kept (whole_at (moment_of old)) (pattern_node (bare_label lp) ts) S ≡ true) (sym whole) kept in
        let turns = parts-all.turns names l (bare_label lp) empty plain_so kept_so in
        subst (λ (ts : Trees). Turns (moment_of old) (declares_as l (pattern_node (bare_label lp) A) S before empty) (moment_of mid) (seen_among names (trees h.added)) (declares_some (bare_label lp) S ts)) (joined-empty T)
        (subst (λ (b : Bool). Turns (moment_of old) (declares_as l (pattern_node (bare_label lp) A) S before empty) (moment_of mid) (seen_among names (trees h.added)) (declares_left b l (bare_label lp) S (joined_trees T empty))) bears
        (subst (λ (ts : Trees). Turns (moment_of old) (declares_as l (pattern_node (bare_label lp) ts) S before empty) (moment_of mid) (seen_among names (trees h.added)) (declares_left (bears_among (trees all)) l (bare_label lp) S (joined_trees T empty))) whole turns))

    abbrev whole_owed : owed rest_owes pattern_of ≡ nested_ids (trees all) + owed_among rest_owes (trees all)
    whole_owed = owed-without lp (trees all) plain

    -- no property stands behind the last pattern
    pub parts-ended : these ≡ [] → AddsKept old mid pattern_of s us vs
    parts-ended none =
        let none_owed = ap (λ (ts : List Tree). owed_among rest_owes (trees ts)) none in
        let none_size = ap (λ (ts : List Tree). trees_size (trees ts)) none in
        let paid = parts-all.paid in
        record {
          added = h.added;
          are = h.added_are;
          lowers = record {
            paid = record { lists = paid.lists; around = paid.around; options = paid.options; counted = paid.counted; lighter = omega (arith, paid.lighter, ap left_ids bears, whole_owed, none_owed); nodes = omega (arith, paid.nodes, none_size) };
            grows = parts-all.grows;
            rows = λ names l kept.
                turns-all (moment_of old) (moment_of mid) (declares_as l (seen names pattern_of) (seen names s) before empty) (seen_among names (trees h.added))
                (subst (λ (ts : List Tree). Turns (moment_of old) (declares_as l (seen names pattern_of) (seen names s) before empty) (moment_of mid) (seen_among names (trees h.added)) (declares_some (bare_label lp) (seen names s) (seen_among names (trees ts)))) none (whole-turns names l kept));
          };
        }

    -- or some do
    module _ (new : TraverseCtx TransformState) (last : Tree) (some : (length these == 0) ≡ false) (last_is : (names : ℕ → Text → Option ℕ) → seen names last ≡ group (bare_label lp) (seen names s) (seen_among names (trees these))) (read : ReadsMore 1 mid new) where
      last-known : (names : ℕ → Text → Option ℕ) → any_tree is_rest_declarator (seen names last before empty) ≡ false
      last-known names =
          let T = seen_among names (trees these) in
          ap (λ (d : Tree). any_tree is_rest_declarator (d before empty)) (last_is names) ∙ (λ i. ((any_kind-seen names is_rest (trees these) ∙ parts-all.kinds) i || (any-bears-seen names (trees these) ∙ parts-all.clear) i) || false)

      last-some : (names : ℕ → Text → Option ℕ) → declares_some (bare_label lp) (seen names s) (seen_among names (trees these)) ≡ seen names last before empty
      last-some names = at these some ∙ (λ i. sym (last_is names) i before empty)
        where
          at : (ts : List Tree) → (length ts == 0) ≡ false → declares_some (bare_label lp) (seen names s) (seen_among names (trees ts)) ≡ group (bare_label lp) (seen names s) (seen_among names (trees ts)) before empty
          at [] e = absurd (cc e)
          at (t ∷ ts) e = refl

      last-size : tree_size last ≡ 3 + trees_size (trees these)
      last-size =
          let seen_size : tree_size last ≡ tree_size (group (bare_label lp) (seen no_bindings s) (seen_among no_bindings (trees these))) = sym (size-seen no_bindings last) ∙ ap tree_size (last_is no_bindings) in
          omega (arith, seen_size, size-among no_bindings (trees these), size-name (seen no_bindings s) (name-seen no_bindings s ∙ name))

      last-owed : owed rest_owes last ≡ owed_among rest_owes (trees these)
      last-owed =
          let there = seen_among no_bindings (trees these) in
          let seen_owed : owed rest_owes last ≡ owed rest_owes (group (bare_label lp) (seen no_bindings s) there) = sym (owed-seen no_bindings last) ∙ ap (owed rest_owes) (last_is no_bindings) in
          omega (arith, seen_owed, owed-clear (bare_label lp) there (any_kind-seen no_bindings is_rest (trees these) ∙ parts-all.kinds) (any-bears-seen no_bindings (trees these) ∙ parts-all.clear), owed-among no_bindings (trees these), owed-name (seen no_bindings s) (name-seen no_bindings s ∙ name))

      pub parts-behind : (ws : List Tree) → ws ≡ vs ++ last ∷ [] → AddsKept old new pattern_of s us ws
      parts-behind ws put =
          let paid = parts-all.paid in
          let next = ap (λ (a : Moment). a.next) read.moment_is in
          record {
            added = h.added ++ last ∷ [];
            are = put ∙ (ap (λ (ts : List Tree). ts ++ last ∷ []) h.added_are ∙ append_assoc us h.added (last ∷ []));
            lowers = record {
              paid = record {
                lists = ap (λ (a : Moment). a.lists) read.moment_is ∙ paid.lists;
                around = ap (λ (a : Moment). a.around) read.moment_is ∙ paid.around;
                options = ap (λ (a : Moment). a.options) read.moment_is ∙ paid.options;
                counted = omega (arith, next, paid.counted);
                lighter = omega (arith, next, paid.lighter, ap left_ids bears, whole_owed, last-owed, owed-append h.added (last ∷ []));
                nodes = omega (arith, next, paid.nodes, last-size, tests_size-append h.added (last ∷ []), size-name s name);
              };
              grows = grows-then parts-all.grows (reads-grow 1 mid new read);
              rows = λ names l kept.
                  let D = declares_as l (seen names pattern_of) (seen names s) before empty in
                  let turns = subst (λ (ts : Trees). Turns (moment_of old) D (moment_of mid) (seen_among names (trees h.added)) ts) (last-some names) (whole-turns names l kept) in
                  let same : whole_at (moment_of new) ≡ whole_at (moment_of mid) = ap whole_at read.moment_is in
                  let rows = rows-same (moment_of mid) (moment_of new) same (seen names last before empty) (λ known. last-known names) in
                  let both = turns-then (moment_of old) (moment_of mid) (moment_of new) D (seen_among names (trees h.added)) (seen names last before empty) (seen names last before empty) empty turns (rows-turns (moment_of mid) (moment_of new) _ _ rows) in
                  subst (λ (ts : Trees). Rows (moment_of old) D (moment_of new) ts) (sym (append-seen names h.added (last ∷ []))) (turns-all (moment_of old) (moment_of new) D _ both);
            };
          }
