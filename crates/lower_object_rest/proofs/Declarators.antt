-- What comes of one declarator, by the rows.
use Rattle.std.proofs.Common.{ap, arith, refl, subst, sym, ◌+◌, ◌-◌, ◌<◌, ◌^◌, ◌∙◌, ◌∷◌, ◌≡◌, ◌≤◌, [], List, Option, ℕ}
use Rattle.std.proofs.lemmas.Bool.{or_parts}
use Rattle.std.specs.Prelude.{Bool, false, not, true, ◌&&◌, ◌||◌}
use Rattle.es_tree.specs.Bare.{bare_label}
use Rattle.es_tree.specs.Fresh.{node_base}
use Rattle.es_tree.specs.HasForm.{trees_form}
use Rattle.es_tree.specs.Tree.{Fields, Label, Tree, Trees, done, empty, many, missing, node, one, statements, tree_size, trees, trees_size, ◌before◌, ◌then◌}
use Rattle.es_tree.specs.Walks.{any_in_fields, any_node}
use Rattle.es_tree.specs.Words.{Text}
use Rattle.es_tree.specs.declared.ast_type.AstType.TheVariants.{Identifier, RestElement, VariableDeclarator}
use Rattle.es_tree.specs.declared.table.Sort.TheVariants.{PatternMember as s-PatternMember, PatternMemberRest as s-PatternMemberRest, VariableDeclarator as s-VariableDeclarator}
use Rattle.es_scope.specs.declared.context.TraverseCtx.{TraverseCtx}
use Rattle.es_semantic.specs.RolesOf.{reads}
use Rattle.es_resolution.specs.Declarations.{Bound}
use Rattle.es_resolution.specs.Resolved.{bound_by}
use Rattle.es_resolution.specs.Seen.{seen, seen_among}
use Rattle.es_steps.specs.Duplication.{IsNext, is_among_symbols}
use Rattle.es_steps.specs.Nodes.{declarator_with, identifier, joined_trees}
use Rattle.es_steps.specs.ObjectRest.{declares_as}
use Rattle.es_steps.specs.Patterns.{IsSilent}
use Rattle.es_steps.specs.Steps.{Whole}
use Rattle.es_steps.proofs.BridgeDeclarations.{bound-left}
use Rattle.es_steps.proofs.FormLists.{first-formed}
use Rattle.es_changes.specs.Moments.{Moment, whole_at}
use Rattle.es_changes.proofs.Expressions.{law_expression_proof}
use Rattle.es_valid_rests.proofs.RestFormsDeclared.{declarator-parts, pattern-members, rest-parts}
use Rattle.es_rest_rows.specs.RestRows.{binds_name, is_kept, taken, with_rest}
use Rattle.es_rest_shapes.specs.RestShapes.{any_child, are_plain, bears_rest, is_misplaced, is_name, is_odd_pattern, is_plain_pattern, is_rest_declarator, is_stray_rest}
use Rattle.lower_nodes.specs.Nodes.{Paid, owed, owed_among}
use Rattle.lower_temporaries.specs.SeenTrees.{no_bindings}
use Rattle.lower_temporaries.specs.Takings.{ReadsMore, TakesBound, moment_of}
use Rattle.lower_temporaries.specs.declared.state.TransformState.{TransformState}
use Rattle.lower_temporaries.proofs.SeenLaws.{base-seen, size-seen}
use Rattle.lower_object_rest.specs.Declarators.{AreKnown, Grows, LowersAll, LowersKept, LowersPattern}
use Rattle.lower_object_rest.specs.Groups.{NamesRead}
use Rattle.lower_object_rest.specs.Groups.NamesRead.{knows, no_properties, reads_one}
use Rattle.lower_object_rest.specs.Nested.{Turns}
use Rattle.lower_object_rest.specs.Parts.{Stores, Takes, taken_ids}
use Rattle.lower_object_rest.specs.Profile.{key_ids, nested_ids, rest_owes}
use Rattle.lower_object_rest.specs.Shapes.{is_lowerable}
use Rattle.lower_object_rest.proofs.Clear.{clear-stored, clear-taken}
use Rattle.lower_object_rest.proofs.Composition.{grows-same, grows-then, rows-same, rows-turns, turns-all, turns-then}
use Rattle.lower_object_rest.proofs.Costs.{declarators_work, ids-enough, owed-made, owed-name, owed-pattern, pattern_work, size-made, size-name, size-pattern, work-made, work-seen, work-size}
use Rattle.lower_object_rest.proofs.SeenShapes.{ids-seen, lowerable-seen, name-seen, nested_ids-seen, owed-among, owed-seen, pattern-seen, plain-seen, rest-pattern-seen, size-among}
use Rattle.lower_object_rest.proofs.Steps.{IsNamed, RowAt, last-made, name-node, names-keys, stores-row, takes-row}
use Rattle.lower_object_rest.proofs.Turning.{row-turns}

-- A NAME THAT IS BOUND, and then read
pub bound-read : (b : Bound) (m n : ℕ) (old mid new : TraverseCtx TransformState) → TakesBound b m (moment_of old) (moment_of mid) → ReadsMore n mid new → TakesBound b (m + n) (moment_of old) (moment_of new)
bound-read b m n old mid new t r =
    let next = ap (λ (a : Moment). a.next) r.moment_is in
    record {
      whole_is = ap whole_at r.moment_is ∙ t.whole_is;
      next_is = omega (arith, next, t.next_is);
      lists_are = ap (λ (a : Moment). a.lists) r.moment_is ∙ t.lists_are;
      around_is = ap (λ (a : Moment). a.around) r.moment_is ∙ t.around_is;
      options_are = ap (λ (a : Moment). a.options) r.moment_is ∙ t.options_are;
    }

pub bound-grows : (b : Bound) (n : ℕ) (old new : Moment) → TakesBound b n old new → Grows old new
bound-grows b n old new t = record { made = λ x e. subst (λ (w : Whole). bound_by w.made x ≡ true) (sym t.whole_is) (bound-left old.made (b ∷ []) x e); steady = ap (λ (w : Whole). w.steady) t.whole_is }

pub reads-grow : (n : ℕ) (old new : TraverseCtx TransformState) → ReadsMore n old new → Grows (moment_of old) (moment_of new)
reads-grow n old new r = record { made = λ x e. subst (λ (a : Moment). bound_by a.made x ≡ true) (sym r.moment_is) e; steady = ap (λ (a : Moment). a.steady) r.moment_is }

-- A NAME AS A SOURCE

-- a node that is seen as a name is one
pub seen-name : (t : Tree) (b : Bound) → seen no_bindings t ≡ identifier b → is_name t ≡ true
seen-name t b e = sym (name-seen no_bindings t) ∙ ap is_name e

pub seen-source : (names : ℕ → Text → Option ℕ) (t : Tree) → is_name t ≡ true → IsNamed (seen names t)
seen-source names t h = name-node (seen names t) (name-seen names t ∙ h)

-- what is seen of a pattern is plain
pub seen-plain : (names : ℕ → Text → Option ℕ) (p : Tree) → is_plain_pattern p ≡ true → is_plain_pattern (seen names p) ≡ true
seen-plain names p h = pattern-seen names p ∙ h

-- THE DECLARATORS, as they are seen

module _ (old new : TraverseCtx TransformState) (p s : Tree) (us : List Tree) (k : Takes old new p s us) (names : ℕ → Text → Option ℕ) (ls : Label) (is_source : node Identifier ls done ≡ seen names s) where
  abbrev seen_properties : Trees
  seen_properties = seen_among names (trees k.ps)

  abbrev seen_pattern : Tree
  seen_pattern = with_rest (bare_label k.lp) seen_properties (bare_label k.parts.rest) (seen names k.t)

  abbrev taken_from : Tree → Trees
  taken_from e = taken (bare_label k.lp) e k.bound seen_properties (seen names k.t)

  pattern-is : seen_pattern ≡ seen names p
  pattern-is = sym (rest-pattern-seen names k.lp k.parts.rest (trees k.ps) k.t) ∙ ap (seen names) (sym k.parts.pattern)

  taken-is : taken_from (node Identifier ls done) ≡ seen_among names (trees us)
  taken-is = ap taken_from is_source ∙ sym (k.are names)

  properties-plain : are_plain seen_properties ≡ true
  properties-plain = plain-seen names (trees k.ps) ∙ k.parts.plain

  target-name : is_name (seen names k.t) ≡ true
  target-name = name-seen names k.t ∙ k.parts.name

  properties-formed : (l : Label) (e : Tree) → AreKnown (declares_as l seen_pattern e before empty) → trees_form s-PatternMember s-PatternMember seen_properties ≡ true
  properties-formed l e known =
      let r : Tree = node RestElement (bare_label k.parts.rest) (one (seen names k.t) then done) in
      let formed = (first-formed s-VariableDeclarator (declares_as l seen_pattern e) empty known.formed).0 in
      let target = (declarator-parts l seen_pattern e formed).target in
      (rest-parts s-PatternMember s-PatternMemberRest seen_properties r empty (pattern-members (bare_label k.lp) (joined_trees seen_properties (r before empty)) target)).earlier

  taken-turns : (l : Label) → is_kept (whole_at (moment_of old)) (seen names p) (seen names s) ≡ true → Turns (moment_of old) (declares_as l (seen names p) (seen names s) before empty) (moment_of new) empty (seen_among names (trees us))
  taken-turns l kept =
      let w = whole_at (moment_of old) in
      let it : Tree = node Identifier ls done in
      let kept_so : is_kept w seen_pattern it ≡ true = (λ i. is_kept w (pattern-is i) (is_source i)) ∙ kept in
      let row = λ (known : AreKnown (declares_as l seen_pattern it before empty)).
      takes-row w (whole_at (moment_of new)) l (bare_label k.lp) (bare_label k.parts.rest) ls seen_properties (seen names k.t) k.bound properties-plain target-name kept_so (names-keys names k.named (properties-formed l it known)) refl in
      let clear = λ (known : AreKnown (declares_as l seen_pattern it before empty)). clear-taken l (bare_label k.lp) (bare_label k.parts.rest) ls k.bound seen_properties (seen names k.t) it properties-plain target-name known in
      let turns = row-turns (moment_of old) (moment_of new) (declares_as l seen_pattern it) empty (taken_from it) row clear (λ known. refl) in
      let from : declares_as l seen_pattern it ≡ declares_as l (seen names p) (seen names s) = λ i. declares_as l (pattern-is i) (is_source i) in
      subst (λ (d : Tree). Turns (moment_of old) (d before empty) (moment_of new) empty (seen_among names (trees us))) from
      (subst (λ (ts : Trees). Turns (moment_of old) (declares_as l seen_pattern it before empty) (moment_of new) empty ts) taken-is turns)

-- THEIR IDS, SIZES AND WORK

module _ (old new : TraverseCtx TransformState) (p s : Tree) (us : List Tree) (k : Takes old new p s us) (source : is_name s ≡ true) where
  abbrev made : Trees
  made = taken (bare_label k.lp) (seen no_bindings s) k.bound (seen_among no_bindings (trees k.ps)) (seen no_bindings k.t)

  made-plain : are_plain (seen_among no_bindings (trees k.ps)) ≡ true
  made-plain = plain-seen no_bindings (trees k.ps) ∙ k.parts.plain

  made-source : is_name (seen no_bindings s) ≡ true
  made-source = name-seen no_bindings s ∙ source

  made-target : is_name (seen no_bindings k.t) ≡ true
  made-target = name-seen no_bindings k.t ∙ k.parts.name

  owed-taken : owed rest_owes p ≡ owed_among rest_owes (trees us) + (17 + key_ids (trees k.ps))
  owed-taken =
      let whole : owed rest_owes p ≡ 17 + key_ids (trees k.ps) + (nested_ids (trees k.ps) + owed_among rest_owes (trees k.ps)) = ap (owed rest_owes) k.parts.pattern ∙ owed-pattern k.lp k.parts.rest (trees k.ps) k.t k.parts.name in
      let all : owed_among rest_owes (trees us) ≡ owed_among rest_owes made = sym (owed-among no_bindings (trees us)) ∙ ap (owed_among rest_owes) (k.are no_bindings) in
      let parts = owed-made (bare_label k.lp) (seen no_bindings s) k.bound (seen_among no_bindings (trees k.ps)) (seen no_bindings k.t) made-plain made-source made-target in
      let same : nested_ids (seen_among no_bindings (trees k.ps)) + owed_among rest_owes (seen_among no_bindings (trees k.ps)) ≡ nested_ids (trees k.ps) + owed_among rest_owes (trees k.ps) = λ i. nested_ids-seen no_bindings (trees k.ps) i + owed-among no_bindings (trees k.ps) i in
      owed-sum (owed rest_owes p) (owed_among rest_owes (trees us)) (key_ids (trees k.ps)) (nested_ids (trees k.ps) + owed_among rest_owes (trees k.ps)) whole (all ∙ (parts ∙ same))
    where
      owed-sum : (p u number among : ℕ) → p ≡ 17 + number + among → u ≡ among → p ≡ u + (17 + number)
      owed-sum p u number among h g = omega arith

  size-taken : trees_size (trees us) ≤ tree_size p + taken_ids (trees k.ps)
  size-taken =
      let whole : tree_size p ≡ 3 + trees_size (trees k.ps) = ap tree_size k.parts.pattern ∙ size-pattern k.lp k.parts.rest (trees k.ps) k.t k.parts.name in
      let all : trees_size (trees us) ≡ trees_size made = sym (size-among no_bindings (trees us)) ∙ ap trees_size (k.are no_bindings) in
      let most = size-made (bare_label k.lp) (seen no_bindings s) k.bound (seen_among no_bindings (trees k.ps)) (seen no_bindings k.t) made-plain made-source made-target in
      size-sum (tree_size p) (trees_size (trees us)) (trees_size made) (trees_size (trees k.ps)) (trees_size (seen_among no_bindings (trees k.ps))) (taken_ids (trees k.ps)) (taken_ids (seen_among no_bindings (trees k.ps))) whole all most (size-among no_bindings (trees k.ps)) (ids-seen no_bindings (trees k.ps))
    where
      size-sum : (p u m among seen_among ids seen_ids : ℕ) → p ≡ 3 + among → u ≡ m → m ≤ 3 + seen_among + seen_ids → seen_among ≡ among → seen_ids ≡ ids → u ≤ p + ids
      size-sum p u m among seen_among ids seen_ids h g f e d = omega arith

  -- the work that is left is less
  pub work-taken : declarators_work (trees us) + 2 ≤ pattern_work p
  work-taken =
      let whole : tree_size p ≡ 3 + trees_size (trees k.ps) = ap tree_size k.parts.pattern ∙ size-pattern k.lp k.parts.rest (trees k.ps) k.t k.parts.name in
      let all : declarators_work (trees us) ≡ declarators_work made = sym (work-seen (trees us)) ∙ ap declarators_work (k.are no_bindings) in
      let most = work-made (bare_label k.lp) (seen no_bindings s) k.bound (seen_among no_bindings (trees k.ps)) (seen no_bindings k.t) made-plain made-target in
      work-sum (tree_size p) (pattern_work p) (declarators_work (trees us)) (declarators_work made) (trees_size (trees k.ps)) (trees_size (seen_among no_bindings (trees k.ps))) whole (work-size p) all most (size-among no_bindings (trees k.ps))
    where
      work-sum : (p w u m among seen_among : ℕ) → p ≡ 3 + among → p ≡ 1 + w → u ≡ m → m ≤ seen_among → seen_among ≡ among → u + 2 ≤ w
      work-sum p w u m among seen_among h g f e d = omega arith

  -- ids, where three are left for a source that is stored
  pub taken-room : old.ast.next + owed rest_owes p < 2 ^ 32 + 2 → new.ast.next + owed_among rest_owes (trees us) < 2 ^ 32 - 1
  taken-room room = let next = k.gives.next_is in omega (arith, room, next, owed-taken, ids-enough (trees k.ps))

  taken-paid : Paid (moment_of old) (owed rest_owes p + owed rest_owes s) (tree_size p + tree_size s) (moment_of new) (3 + owed_among rest_owes (trees us)) (trees_size (trees us))
  taken-paid =
      let next = k.gives.next_is in
      record {
        lists = k.gives.lists_are;
        around = k.gives.around_is;
        options = k.gives.options_are;
        counted = omega (arith, next);
        lighter = omega (arith, next, owed-taken, ids-enough (trees k.ps));
        nodes = omega (arith, next, size-taken);
      }

-- NAMES OF KEYS are made names

named-made : {w v : Whole} {ps : Trees} {xs : List Bound} → NamesRead w ps xs v → (x : Text) → bound_by w.made x ≡ true → bound_by v.made x ≡ true
named-made no_properties x e = e
named-made (knows k h) x e = named-made h x e
named-made (reads_one {w = w} b k next h) x e = named-made h x (bound-left w.made (b ∷ []) x e)

named-steady : {w v : Whole} {ps : Trees} {xs : List Bound} → NamesRead w ps xs v → v.steady ≡ w.steady
named-steady no_properties = refl
named-steady (knows k h) = named-steady h
named-steady (reads_one b k next h) = named-steady h

-- WHAT COMES OF THEM

pub lowers-taken : (old mid new : TraverseCtx TransformState) (p s : Tree) (ts us : List Tree) → is_name s ≡ true → Takes old mid p s ts → LowersAll mid new ts us → LowersKept old new p s us
lowers-taken old mid new p s ts us name k h =
    let first = taken-paid old mid p s ts k name in
    record {
      paid = record {
        lists = h.paid.lists ∙ first.lists;
        around = h.paid.around ∙ first.around;
        options = h.paid.options ∙ first.options;
        counted = omega (arith, first.counted, h.paid.counted);
        lighter = omega (arith, first.lighter, h.paid.lighter);
        nodes = omega (arith, first.nodes, h.paid.nodes);
      };
      grows = grows-then (record { made = named-made k.named; steady = named-steady k.named }) h.grows;
      rows = λ names l kept.
          let it = seen-source names s name in
          let first_turns = taken-turns old mid p s ts k names it.label (sym it.is) l kept in
          turns-all (moment_of old) (moment_of new) (declares_as l (seen names p) (seen names s) before empty) (seen_among names (trees us))
          (turns-then (moment_of old) (moment_of mid) (moment_of new) _ empty (seen_among names (trees ts)) (seen_among names (trees us)) empty first_turns (rows-turns (moment_of mid) (moment_of new) _ _ (h.rows names)));
    }

-- A SOURCE THAT IS KEPT

kept-name : (w : Whole) (p e : Tree) → is_kept w p e ≡ true → is_name e ≡ true
kept-name w p (node Identifier l done) h = refl
kept-name w p (node Identifier l (f then fs)) h = absurd (cc h)
kept-name w p (node _ l fs) h = absurd (cc h)

pub kept-source : (w : Whole) (p e : Tree) → ((names : ℕ → Text → Option ℕ) → true ≡ is_kept w (seen names p) (seen names e)) → is_name e ≡ true
kept-source w p e h = sym (name-seen no_bindings e) ∙ kept-name w (seen no_bindings p) (seen no_bindings e) (sym (h no_bindings))

pub lowers-kept-source : (old new : TraverseCtx TransformState) (p e : Tree) (us : List Tree) → ((names : ℕ → Text → Option ℕ) → is_kept (whole_at (moment_of old)) (seen names p) (seen names e) ≡ true) → LowersKept old new p e us → LowersPattern old new p e us
lowers-kept-source old new p e us kept h = record {
  paid = record { lists = h.paid.lists; around = h.paid.around; options = h.paid.options; counted = h.paid.counted; lighter = omega (arith, h.paid.lighter); nodes = h.paid.nodes };
  grows = h.grows;
  rows = λ names l. h.rows names l (kept names);
}

-- ONE THAT IS STORED

module _ (old mid new : TraverseCtx TransformState) (p e stored name : Tree) (us : List Tree) (plain : is_plain_pattern p ≡ true) (kept : (names : ℕ → Text → Option ℕ) → is_kept (whole_at (moment_of old)) (seen names p) (seen names e) ≡ false) (k : Stores old mid e stored name) (h : LowersKept mid new p name us) where
  source-name : is_name name ≡ true
  source-name = seen-name name k.name (k.read_is no_bindings)

  stored-silent : (names : ℕ → Text → Option ℕ) (l : Label) → AreKnown (declares_as l (seen names p) (seen names e) before empty) → IsSilent reads (seen names e)
  stored-silent names l known =
      let formed = first-formed s-VariableDeclarator (declares_as l (seen names p) (seen names e)) empty known.formed in
      (law_expression_proof (seen names e) (declarator-parts l (seen names p) (seen names e) formed.0).value).declares_nothing

  stored-kept : (names : ℕ → Text → Option ℕ) → is_kept (whole_at (moment_of mid)) (seen names p) (seen names name) ≡ true
  stored-kept names =
      let w = whole_at (moment_of old) in
      (λ i. is_kept (k.takes.whole_is i) (seen names p) (k.read_is names i)) ∙ (λ i. last-made w.made k.name i || (is_among_symbols w.steady k.name.symbol && not (binds_name k.name.name (seen names p))))

  stored-turns : (names : ℕ → Text → Option ℕ) (l : Label) → Turns (moment_of old) (declares_as l (seen names p) (seen names e) before empty) (moment_of mid) (seen names stored before empty) (declares_as l (seen names p) (seen names name) before empty)
  stored-turns names l =
      let w = whole_at (moment_of old) in
      let P = seen names p in
      let E = seen names e in
      let it = identifier k.name in
      let put = declarator_with it E in
      let next : IsNext w (node_base E) k.name = subst (λ (b : Text). IsNext w b k.name) (sym (base-seen names e)) k.next in
      let row = λ (known : AreKnown (declares_as l P E before empty)).
      subst (λ (v : Whole). RowAt w (declares_as l P E) v (put before declares_as l P it before empty)) (sym k.takes.whole_is) (stores-row w l P E k.name (seen-plain names p plain) (kept names) (stored-silent names l known) next) in
      let turns = row-turns (moment_of old) (moment_of mid) (declares_as l P E) (put before empty) (declares_as l P it before empty) row (λ known. clear-stored l P E k.name known) (λ known. refl) in
      subst (λ (d : Tree). Turns (moment_of old) (declares_as l P E before empty) (moment_of mid) (d before empty) (declares_as l P (seen names name) before empty)) (sym (k.declarator_is names))
      (subst (λ (s : Tree). Turns (moment_of old) (declares_as l P E before empty) (moment_of mid) (put before empty) (declares_as l P s before empty)) (sym (k.read_is names)) turns)

  stored-size : tree_size stored ≡ 2 + tree_size e
  stored-size =
      let seen_size : tree_size stored ≡ tree_size (declarator_with (identifier k.name) (seen no_bindings e)) = sym (size-seen no_bindings stored) ∙ ap tree_size (k.declarator_is no_bindings) in
      omega (arith, seen_size, size-seen no_bindings e)

  stored-owed : owed rest_owes stored ≡ owed rest_owes e
  stored-owed =
      let seen_owed : owed rest_owes stored ≡ owed rest_owes (declarator_with (identifier k.name) (seen no_bindings e)) = sym (owed-seen no_bindings stored) ∙ ap (owed rest_owes) (k.declarator_is no_bindings) in
      omega (arith, seen_owed, owed-seen no_bindings e)

  pub lowers-stored-source : LowersPattern old new p e (stored ∷ us)
  lowers-stored-source =
      let next = k.takes.next_is in
      let size = size-name name source-name in
      record {
        paid = record {
          lists = h.paid.lists ∙ k.takes.lists_are;
          around = h.paid.around ∙ k.takes.around_is;
          options = h.paid.options ∙ k.takes.options_are;
          counted = omega (arith, next, h.paid.counted);
          lighter = omega (arith, next, h.paid.lighter, stored-owed, owed-name name source-name);
          nodes = omega (arith, next, h.paid.nodes, stored-size, size);
        };
        grows = grows-then (bound-grows k.name 3 (moment_of old) (moment_of mid) k.takes) h.grows;
        rows = λ names l.
            turns-all (moment_of old) (moment_of new) (declares_as l (seen names p) (seen names e) before empty) (seen_among names (trees (stored ∷ us)))
            (turns-then (moment_of old) (moment_of mid) (moment_of new) _ (seen names stored before empty) (declares_as l (seen names p) (seen names name) before empty) (seen_among names (trees us)) empty (stored-turns names l) (rows-turns (moment_of mid) (moment_of new) _ _ (h.rows names l (stored-kept names))));
      }

-- A DECLARATOR of a pattern and its source

pub lowers-declarator : (old new : TraverseCtx TransformState) (l : Label) (p e : Tree) (us : List Tree) → LowersPattern old new p e us → LowersAll old new (declares_as l p e ∷ []) us
lowers-declarator old new l p e us h = record {
  paid = record { lists = h.paid.lists; around = h.paid.around; options = h.paid.options; counted = h.paid.counted; lighter = omega (arith, h.paid.lighter); nodes = omega (arith, h.paid.nodes) };
  grows = h.grows;
  rows = λ names. h.rows names (bare_label l);
}

-- A DECLARATOR THAT STAYS

-- with form, and no pattern that isn't lowered, it has none with a rest
pub no-rest : (d : Tree) → is_lowerable d ≡ false → any_node is_stray_rest d ≡ false → is_rest_declarator d ≡ false
no-rest (node VariableDeclarator l fs) low h = at fs low (or_parts (is_stray_rest VariableDeclarator l fs) (any_in_fields is_stray_rest fs) h).0
  where
    not-plain : (p : Tree) (e : Tree) → is_plain_pattern p ≡ false → (is_odd_pattern p || is_misplaced e) ≡ false → bears_rest p ≡ false
    not-plain p e low h =
        let rest = (or_parts (bears_rest p && not (is_plain_pattern p)) (is_rest_declarator p) (or_parts (is_odd_pattern p) (is_misplaced e) h).0).0 in
        only (bears_rest p) (is_plain_pattern p) low rest
      where
        only : (a b : Bool) → b ≡ false → (a && not b) ≡ false → a ≡ false
        only false b e h = refl
        only true true e h = absurd (cc e)
        only true false e h = h

    first : (p : Tree) (b : Bool) → (is_misplaced p || b) ≡ false → bears_rest p ≡ false
    first p b h = (or_parts (bears_rest p) (is_rest_declarator p) (or_parts (is_misplaced p) b h).0).0

    at : (fs : Fields) → is_lowerable (node VariableDeclarator l fs) ≡ false → is_stray_rest VariableDeclarator l fs ≡ false → is_rest_declarator (node VariableDeclarator l fs) ≡ false
    at (one p then (one e then done)) low h = not-plain p e low h
    at done low h = refl
    at (missing then fs) low h = refl
    at (many ts then fs) low h = refl
    at (statements ts then fs) low h = refl
    at (one p then done) low h = first p false h
    at (one p then (missing then fs)) low h = first p (any_child is_misplaced (missing then fs)) h
    at (one p then (many ts then fs)) low h = first p (any_child is_misplaced (many ts then fs)) h
    at (one p then (statements ts then fs)) low h = first p (any_child is_misplaced (statements ts then fs)) h
    at (one p then (one e then (f then fs))) low h = first p (any_child is_misplaced (one e then (f then fs))) h
no-rest (node _ l fs) low h = refl

pub lowers-same : (ctx : TraverseCtx TransformState) (d : Tree) → is_lowerable d ≡ false → LowersAll ctx ctx (d ∷ []) (d ∷ [])
lowers-same ctx d low = record {
  paid = record { lists = refl; around = refl; options = refl; counted = omega arith; lighter = omega arith; nodes = omega arith };
  grows = grows-same (moment_of ctx);
  rows = λ names. rows-same (moment_of ctx) (moment_of ctx) refl (seen names d before empty) (λ known. let strays = (or_parts (any_node is_stray_rest (seen names d)) false known.strays).0 in λ i. no-rest (seen names d) (lowerable-seen names d ∙ low) strays i || false);
}
