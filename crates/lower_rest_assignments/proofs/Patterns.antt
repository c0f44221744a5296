-- The assignments that come for a pattern: of its properties and its rest, and of a rest alone.
use Rattle.std.proofs.Common.{◌≡◌, ◌∙◌, ◌≤◌, ◌==◌, ℕ, ◌+◌, List, [], ◌∷◌, ◌++◌, append-nil, append_assoc, length, map, refl, sym, ap, subst, arith, Option}
use Rattle.std.proofs.lemmas.Bool.{and_parts, eqb-true}
use Rattle.std.proofs.lemmas.List.{map-append}
use Rattle.std.specs.Prelude.{Bool, true, false, ◌||◌, ◌<◌, ◌^◌, if◌then◌else◌, suc}
use Rattle.es_tree.specs.Bare.{bare_label}
use Rattle.es_tree.specs.Constructs.{any_kind, is_rest}
use Rattle.es_tree.specs.CoreStaticRules.{is_simple_target}
use Rattle.es_tree.specs.HasForm.{same_type}
use Rattle.es_tree.specs.Parens.{without_parens}
use Rattle.es_tree.specs.Tree.{Tree, node, Label, ◌then◌, fields_size, one, Trees, empty, ◌before◌, kind_of, tree_size, trees, trees_size}
use Rattle.es_tree.specs.Views.{plain_fields}
use Rattle.es_tree.specs.Words.{Text}
use Rattle.es_tree.specs.declared.ast_type.AstType.TheVariants.{MemberExpression, TargetProperty}
use Rattle.es_tree.specs.declared.node.Field.TheVariants.{One}
use Rattle.es_scope.specs.declared.context.TraverseCtx.{TraverseCtx}
use Rattle.es_resolution.specs.Declarations.{Bound}
use Rattle.es_resolution.specs.Seen.{seen, seen_among, seen_in}
use Rattle.es_runs.proofs.OptionalChainingWeights.{tests_size-append}
use Rattle.es_steps.specs.Nodes.{assign_node, call_node, identifier, made}
use Rattle.es_steps.specs.ObjectRest.{left_of, whole_value}
use Rattle.es_steps.specs.RestAssignments.{Groups, TakesTarget, object_target, property_target, rest_target}
use Rattle.es_steps.specs.RestAssignments.Groups.{ends}
use Rattle.es_steps.specs.RestAssignments.TakesTarget.{alone, beside}
use Rattle.es_steps.specs.Steps.{Whole}
use Rattle.es_steps.specs.WrapRule.{is_member_target}
use Rattle.es_changes.specs.Moments.{whole_at}
use Rattle.es_traverse.specs.Loads.{fields_load, load, member_allowance, members_allowance, trees_load}
use Rattle.lower_temporaries.specs.Helpers.{elements, keys_value, mapped_ids, rest_helper}
use Rattle.lower_temporaries.specs.SeenTrees.{no_bindings}
use Rattle.lower_temporaries.specs.Takings.{ReadsMore, moment_of}
use Rattle.lower_temporaries.specs.declared.state.TransformState.{TransformState}
use Rattle.lower_temporaries.proofs.Loads.{trees_load-append}
use Rattle.lower_temporaries.proofs.SeenLaws.{load-seen, loads-among, parens-seen, seen-trees, size-seen, sizes-among}
use Rattle.lower_temporaries.proofs.Takings.{reads-then, takes-none, takes-reads}
use Rattle.lower_rest_assignments.specs.Assignments.{are_properties, is_property}
use Rattle.lower_rest_assignments.specs.Groups.{AddsAlone, AddsGroups, AddsPattern, Opens, SplitsGroups, pattern_label, seen_before}
use Rattle.lower_rest_assignments.specs.declared.groups.OpenGroups.{OpenGroups}
use Rattle.lower_rest_assignments.specs.declared.groups.RestPattern.{RestPattern}
use Rattle.lower_rest_assignments.proofs.Formed.{simple-seen}
use Rattle.lower_rest_assignments.proofs.Opened.{two-of}
use Rattle.lower_rest_assignments.proofs.Properties.{groups-as, last-load, last-seen, last-size, load-told, size-told}

-- THE KEYS, as elements of an array

keys-seen : (names : ℕ → Text → Option ℕ) (ks : List Tree) → seen_in names (plain_fields (map One ks)) ≡ elements (map (seen names) ks)
keys-seen names [] = refl
keys-seen names (k ∷ ks) = ap (λ fs. one (seen names k) then fs) (keys-seen names ks)

elements-load : (ks : List Tree) → fields_load (elements ks) ≡ trees_load (trees ks)
elements-load [] = refl
elements-load (k ∷ ks) = ap (λ n. load k + n) (elements-load ks)

elements-size : (ks : List Tree) → fields_size (elements ks) ≡ trees_size (trees ks)
elements-size [] = refl
elements-size (k ∷ ks) = ap (λ n. tree_size k + n) (elements-size ks)

keys-load : (read : Bool) (ks : List Tree) → load (keys_value read (elements ks)) ≡ 1 + mapped_ids read + trees_load (trees ks)
keys-load true ks = omega (arith, elements-load ks)
keys-load false ks = omega (arith, elements-load ks)

keys-size : (read : Bool) (ks : List Tree) → tree_size (keys_value read (elements ks)) ≡ 1 + mapped_ids read + trees_size (trees ks)
keys-size true ks = omega (arith, elements-size ks)
keys-size false ks = omega (arith, elements-size ks)

left-made : (read : Bool) (s : Tree) (ks : List Tree) → call_node rest_helper (s ∷ keys_value read (elements ks) ∷ []) ≡ left_of read s ks
left-made true s ks = refl
left-made false s ks = refl

-- A REST BEHIND PROPERTIES

module _ (s : Bound) (old mid closed new : TraverseCtx TransformState) (r : RestPattern) (first all : List Tree) (g : OpenGroups) (group last rest : Tree) (m : SplitsGroups s old mid first r.properties.items [] g) (made_group : group ≡ object_target (pattern_label r) g.properties.items)
    (made_last : (names : ℕ → Text → Option ℕ) → seen names last ≡ assign_node (seen names group) (identifier s))
    (made_rest : (names : ℕ → Text → Option ℕ) → seen names rest ≡ assign_node (seen names r.target) (call_node rest_helper (identifier s ∷ keys_value g.is_read (seen_in names (plain_fields g.keys.items)) ∷ []))) where
  abbrev rest_told : (ℕ → Text → Option ℕ) → Tree
  rest_told names = assign_node (seen names r.target) (call_node rest_helper (identifier s ∷ keys_value g.is_read (elements (map (seen names) m.keys)) ∷ []))

  rest-told : (names : ℕ → Text → Option ℕ) → seen names rest ≡ rest_told names
  rest-told names = made_rest names ∙ ap (λ fs. assign_node (seen names r.target) (call_node rest_helper (identifier s ∷ keys_value g.is_read fs ∷ []))) (ap (λ fs. seen_in names (plain_fields fs)) m.keys_are ∙ keys-seen names m.keys)

  rest-load : load rest ≡ 7 + mapped_ids g.is_read + trees_load (trees m.keys) + load r.target
  rest-load =
      let told = load-told rest rest_told rest-told in
      let keys = keys-load g.is_read (map (seen no_bindings) m.keys) in
      let same = ap trees_load (sym (seen-trees no_bindings m.keys)) ∙ loads-among no_bindings (trees m.keys) in
      omega (arith, told, keys, same, load-seen no_bindings r.target)

  rest-size : tree_size rest ≡ 7 + mapped_ids g.is_read + trees_size (trees m.keys) + tree_size r.target
  rest-size =
      let told = size-told rest rest_told rest-told in
      let keys = keys-size g.is_read (map (seen no_bindings) m.keys) in
      let same = ap trees_size (sym (seen-trees no_bindings m.keys)) ∙ sizes-among no_bindings (trees m.keys) in
      omega (arith, told, keys, same, size-seen no_bindings r.target)

  few : mapped_ids g.is_read ≤ 6
  few = at g.is_read
    where
      at : (b : Bool) → mapped_ids b ≤ 6
      at true = omega arith
      at false = omega arith

  pub groups-added : is_simple_target (kind_of (without_parens r.target)) ≡ true → ReadsMore 2 mid closed → ReadsMore (7 + mapped_ids g.is_read) closed new → all ≡ (g.assignments.items ++ last ∷ []) ++ rest ∷ [] → AddsGroups s old new r first all
  groups-added simple reads more put =
      let ids : ℕ = m.ids + (2 + (7 + mapped_ids g.is_read)) in
      let lists = trees_load-append m.added (last ∷ rest ∷ []) in
      let sizes = tests_size-append m.added (last ∷ rest ∷ []) in
      let last_load = last-load s (pattern_label r) g.properties.items group last made_group made_last m.plain in
      let last_size = last-size s (pattern_label r) g.properties.items group last made_group made_last in
      record {
        made = m.made;
        ids = ids;
        takes = takes-reads mid new m.takes (reads-then {m = 2} {n = 7 + mapped_ids g.is_read} reads more);
        added = m.added ++ last ∷ rest ∷ [];
        are = put ∙ (append_assoc g.assignments.items (last ∷ []) (rest ∷ []) ∙ (ap (λ (ts : List Tree). ts ++ last ∷ rest ∷ []) m.assignments_are ∙ append_assoc first m.added (last ∷ rest ∷ [])));
        groups = λ names l.
            let lp = bare_label (pattern_label r) in
            let w = whole_at (moment_of old) in
            let t = seen names r.target in
            let end : Trees = rest_target l t before empty in
            let last_is = last-seen s (pattern_label r) g.properties.items group last made_group made_last names in
            let rest_is = rest-told names ∙ ap (λ v. assign_node t v) (left-made g.is_read (identifier s) (map (seen names) m.keys)) in
            let two = groups-as refl refl refl refl (λ i. sym last_is i ∷ sym rest_is i ∷ []) (ends {w = whole_at (moment_of mid)} {read = g.is_read} {before_it = map (seen names) g.properties.items} {keys = map (seen names) m.keys} {l = l} (simple-seen names r.target ∙ simple)) in
            subst (λ (xs : List Bound). Groups (identifier s) lp w false [] [] (seen_before names r.properties.items end) xs (map (seen names) (m.added ++ last ∷ rest ∷ []))) (append-nil m.made)
            (groups-as refl refl refl refl (sym (map-append (seen names) m.added (last ∷ rest ∷ []))) (m.groups names lp end [] (seen names last ∷ seen names rest ∷ []) two));
        nodes = omega (arith, m.nodes, sizes, last_size, rest-size);
        lighter = omega (arith, m.lighter, lists, last_load, rest-load, few);
      }

-- A REST ALONE

member-seen : (names : ℕ → Text → Option ℕ) (t : Tree) → is_member_target (one (seen names t)) ≡ is_member_target (one t)
member-seen names t = ap (λ u. same_type (kind_of u) MemberExpression) (parens-seen names t) ∙ same (without_parens t)
  where
    same : (u : Tree) → same_type (kind_of (seen names u)) MemberExpression ≡ same_type (kind_of u) MemberExpression
    same (node k l fs) = refl

by-member : (b c : Bool) (x y : List Tree) → c ≡ b → (if b then x else y) ≡ (if c then x else y)
by-member b c x y e = ap (λ d. if d then x else y) (sym e)

module _ (s : Bound) (old new : TraverseCtx TransformState) (t rest : Tree) (first all : List Tree) (made_rest : (names : ℕ → Text → Option ℕ) → seen names rest ≡ assign_node (seen names t) (whole_value (identifier s))) where
  abbrev whole_told : (ℕ → Text → Option ℕ) → Tree
  whole_told names = assign_node (seen names t) (whole_value (identifier s))

  whole-load : load rest ≡ 13 + load t
  whole-load = let told = load-told rest whole_told made_rest in omega (arith, told, load-seen no_bindings t)

  whole-size : tree_size rest ≡ 13 + tree_size t
  whole-size = let told = size-told rest whole_told made_rest in omega (arith, told, size-seen no_bindings t)

  pub alone-name : is_member_target (one t) ≡ false → ReadsMore 13 old new → all ≡ first ++ rest ∷ [] → AddsAlone s old new t first all
  alone-name other reads put = record {
    ids = 13;
    reads = reads;
    added = rest ∷ [];
    are = put;
    assigned = λ names. ap (λ (u : Tree). u ∷ []) (made_rest names) ∙ by-member false (is_member_target (one (seen names t))) _ _ (member-seen names t ∙ other);
    nodes = omega (arith, whole-size);
    lighter = omega (arith, whole-load);
  }

  -- a member is evaluated behind `{} = s`
  pub alone-member : (mid : TraverseCtx TransformState) (m : Label) (group asked : Tree) → bare_label m ≡ made [] [] → is_member_target (one t) ≡ true → group ≡ object_target m [] → ((names : ℕ → Text → Option ℕ) → seen names asked ≡ assign_node (seen names group) (identifier s)) → ReadsMore 13 old mid → ReadsMore 3 mid new → all ≡ (first ++ asked ∷ []) ++ rest ∷ [] → AddsAlone s old new t first all
  alone-member mid m group asked plain_label member made_group made_asked reads more put =
      let asked_load = last-load s m [] group asked made_group made_asked refl in
      let asked_size = last-size s m [] group asked made_group made_asked in
      record {
        ids = 16;
        reads = reads-then {m = 13} {n = 3} reads more;
        added = asked ∷ rest ∷ [];
        are = put ∙ append_assoc first (asked ∷ []) (rest ∷ []);
        assigned = λ names.
            let asked_is = last-seen s m [] group asked made_group made_asked names ∙ ap (λ (l : Label). assign_node (object_target l []) (identifier s)) plain_label in
            (λ i. asked_is i ∷ made_rest names i ∷ []) ∙ by-member true (is_member_target (one (seen names t))) _ _ (member-seen names t ∙ member);
        nodes = omega (arith, asked_size, whole-size);
        lighter = omega (arith, asked_load, whole-load);
      }

-- THE PATTERN

seen-append : (names : ℕ → Text → Option ℕ) (ps : List Tree) (t : Tree) → seen_before names ps (seen names t before empty) ≡ seen_among names (trees (ps ++ t ∷ []))
seen-append names [] t = refl
seen-append names (p ∷ ps) t = ap (λ us. seen names p before us) (seen-append names ps t)

-- a property, as its parts
record IsParts (p : Tree) : Type 0 where
  label : Label
  key : Tree
  value : Tree
  is : p ≡ property_target label key value

property-parts : (p : Tree) → is_property p ≡ true → IsParts p
property-parts (node TargetProperty l fs) h = let two = two-of (λ k v. true) fs h in record { label = l; key = two.first; value = two.second; is = ap (node TargetProperty l) two.are }
property-parts (node _ l fs) h = absurd (cc h)

-- properties, of which there is one
taken-beside : (s : Tree) (lp : Label) (w : Whole) (names : ℕ → Text → Option ℕ) (ps : List Tree) (end : Trees) (xs : List Bound) (us : List Tree) → (length ps == 0) ≡ false → are_properties (trees ps) ≡ true → Groups s lp w false [] [] (seen_before names ps end) xs us → TakesTarget s lp w (seen_before names ps end) xs us
taken-beside s lp w names [] end xs us some whole g = absurd (cc some)
taken-beside s lp w names (p ∷ ps) end xs us some whole g =
    let q = property-parts p (and_parts (is_property p) (are_properties (trees ps)) whole).0 in
    let is : seen names p ≡ property_target (bare_label q.label) (seen names q.key) (seen names q.value) = ap (seen names) q.is in
    subst (λ (t : Tree). TakesTarget s lp w (t before seen_before names ps end) xs us) (sym is) (beside (subst (λ (t : Tree). Groups s lp w false [] [] (t before seen_before names ps end) xs us) is g))

-- its members and their load: where there is a rest, with what they may take
any-rest : (ps : List Tree) (l : Label) (t : Tree) → any_kind is_rest (trees (ps ++ rest_target l t ∷ [])) ≡ true
any-rest [] l t = refl
any-rest (p ∷ ps) l t = or-true (is_rest (kind_of p)) (any_kind is_rest (trees (ps ++ rest_target l t ∷ []))) (any-rest ps l t)
  where
    or-true : (a b : Bool) → b ≡ true → (a || b) ≡ true
    or-true true b e = refl
    or-true false b e = e

members-append : (ps : List Tree) (t : Tree) → members_allowance (trees (ps ++ t ∷ [])) ≡ members_allowance (trees ps) + member_allowance (kind_of t)
members-append [] t = omega arith
members-append (p ∷ ps) t = omega (arith, members-append ps t)

module _ (p : Tree) (r : RestPattern) (o : Opens p r) where
  pattern-load : load p ≡ 48 + load r.target + trees_load (trees r.properties.items) + members_allowance (trees r.properties.items)
  pattern-load =
      let end = rest_target o.rest r.target in
      let all = r.properties.items ++ end ∷ [] in
      let allowed : (if any_kind is_rest (trees all) then members_allowance (trees all) else 0) ≡ members_allowance (trees all) = ap (λ (b : Bool). if b then members_allowance (trees all) else 0) (any-rest r.properties.items o.rest r.target) in
      omega (arith, ap load o.pattern, allowed, members-append r.properties.items end, trees_load-append r.properties.items (end ∷ []))

  pattern-size : tree_size p ≡ 2 + tree_size r.target + trees_size (trees r.properties.items)
  pattern-size = let end = rest_target o.rest r.target in omega (arith, ap tree_size o.pattern, tests_size-append r.properties.items (end ∷ []))

  -- room for what comes
  pub alone-room : (next : ℕ) → next + load p < 2 ^ 32 + 12 → next + 16 < 2 ^ 32
  alone-room next room = omega (arith, room, pattern-load)

  pub groups-room : (next : ℕ) → next + load p < 2 ^ 32 + 12 → next + trees_load (trees r.properties.items) + members_allowance (trees r.properties.items) + 15 < 2 ^ 32
  groups-room next room = omega (arith, room, pattern-load)

  module _ (s : Bound) (old new : TraverseCtx TransformState) (first all : List Tree) where
    pub pattern-beside : (n : ℕ) → n ≡ length r.properties.items → (n == 0) ≡ false → AddsGroups s old new r first all → AddsPattern s old new p first all
    pattern-beside n count some a = record {
      lp = pattern_label r;
      ps = trees (r.properties.items ++ rest_target o.rest r.target ∷ []);
      is = o.pattern;
      made = a.made;
      ids = a.ids;
      takes = a.takes;
      added = a.added;
      are = a.are;
      taken = λ names.
          let lp = bare_label (pattern_label r) in
          let w = whole_at (moment_of old) in
          let end : Trees = rest_target (bare_label o.rest) (seen names r.target) before empty in
          subst (λ (ts : Trees). TakesTarget (identifier s) lp w ts a.made (map (seen names) a.added)) (seen-append names r.properties.items (rest_target o.rest r.target))
          (taken-beside (identifier s) lp w names r.properties.items end a.made (map (seen names) a.added) (ap (λ (m : ℕ). m == 0) (sym count) ∙ some) o.whole (a.groups names (bare_label o.rest)));
      nodes = omega (arith, a.nodes, pattern-size);
      lighter = omega (arith, a.lighter, pattern-load);
    }

    pub pattern-alone : (n : ℕ) → n ≡ length r.properties.items → (n == 0) ≡ true → AddsAlone s old new r.target first all → AddsPattern s old new p first all
    pattern-alone n count none a = record {
      lp = pattern_label r;
      ps = trees (r.properties.items ++ rest_target o.rest r.target ∷ []);
      is = o.pattern;
      made = [];
      ids = a.ids;
      takes = takes-none a.reads;
      added = a.added;
      are = a.are;
      taken = λ names. at names r.properties.items (ap (λ (m : ℕ). m == 0) (sym count) ∙ none);
      nodes = omega (arith, a.nodes, pattern-size);
      lighter = omega (arith, a.lighter, pattern-load);
    } where
      at : (names : ℕ → Text → Option ℕ) (ps : List Tree) → (length ps == 0) ≡ true → TakesTarget (identifier s) (bare_label (pattern_label r)) (whole_at (moment_of old)) (seen_among names (trees (ps ++ rest_target o.rest r.target ∷ []))) [] (map (seen names) a.added)
      at names [] e = subst (λ (us : List Tree). TakesTarget (identifier s) (bare_label (pattern_label r)) (whole_at (moment_of old)) (rest_target (bare_label o.rest) (seen names r.target) before empty) [] us) (sym (a.assigned names)) (alone (simple-seen names r.target ∙ o.simple))
      at names (q ∷ ps) e = absurd (omega (arith, eqb-true (suc (length ps)) 0 e))
