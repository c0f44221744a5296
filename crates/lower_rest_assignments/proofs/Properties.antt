-- A property more of a pattern: it goes into the open group, or begins one.
use Rattle.std.proofs.Common.{◌≡◌, ◌∙◌, ℕ, ◌+◌, List, [], ◌∷◌, ◌++◌, append-nil, append_assoc, map, refl, sym, ap, subst, arith, Option}
use Rattle.std.proofs.lemmas.Bool.{or_parts}
use Rattle.std.proofs.lemmas.List.{map-append}
use Rattle.std.specs.Prelude.{Bool, true, false, ◌||◌, if◌then◌else◌}
use Rattle.es_tree.specs.Bare.{bare_label}
use Rattle.es_tree.specs.Constructs.{any_kind, is_rest}
use Rattle.es_tree.specs.Fresh.{node_base}
use Rattle.es_tree.specs.Names.{has_computed}
use Rattle.es_tree.specs.PropertyKeys.{is_read_key, key_text}
use Rattle.es_tree.specs.Tree.{Tree, node, Label, done, ◌then◌, many, Trees, ◌before◌, kind_of, tree_size, trees, trees_size}
use Rattle.es_tree.specs.Words.{Text}
use Rattle.es_tree.specs.declared.ast_type.AstType.TheVariants.{ObjectTarget, TargetProperty}
use Rattle.es_tree.specs.declared.node.Field.TheVariants.{One}
use Rattle.es_scope.specs.declared.context.TraverseCtx.{TraverseCtx}
use Rattle.es_resolution.specs.Declarations.{Bound}
use Rattle.es_resolution.specs.Seen.{seen}
use Rattle.es_runs.proofs.OptionalChainingWeights.{tests_size-append}
use Rattle.es_steps.specs.Duplication.{IsNext}
use Rattle.es_steps.specs.Nodes.{assign_node, identifier, made, string_node}
use Rattle.es_steps.specs.RestAssignments.{Groups, object_target, property_target}
use Rattle.es_steps.specs.RestAssignments.Groups.{begins, keeps}
use Rattle.es_steps.specs.Steps.{Whole}
use Rattle.es_changes.specs.Moments.{whole_at}
use Rattle.es_traverse.specs.Loads.{load, members_allowance, trees_load}
use Rattle.lower_temporaries.specs.Declarators.{bound_as}
use Rattle.lower_temporaries.specs.SeenTrees.{IsSeenAs, no_bindings}
use Rattle.lower_temporaries.specs.Takings.{ReadsMore, moment_of}
use Rattle.lower_temporaries.specs.declared.state.TransformState.{TransformState}
use Rattle.lower_temporaries.proofs.KeysSeen.{key_text-seen, read_key-seen}
use Rattle.lower_temporaries.proofs.Loads.{trees_load-append}
use Rattle.lower_temporaries.proofs.SeenLaws.{base-seen, load-seen, seen-trees, size-seen}
use Rattle.lower_temporaries.proofs.Takings.{reads-takes, takes-none, takes-reads}
use Rattle.lower_rest_assignments.specs.Groups.{AddsProperty}
use Rattle.lower_rest_assignments.specs.Stored.{Stores}
use Rattle.lower_rest_assignments.specs.declared.groups.OpenGroups.{OpenGroups}
use Rattle.lower_rest_assignments.specs.declared.values.Stored.{Stored}

-- WHAT IS SEEN TELLS HOW MUCH IT IS

module _ (t : Tree) (told : (ℕ → Text → Option ℕ) → Tree) (made_as : (names : ℕ → Text → Option ℕ) → seen names t ≡ told names) where
  pub load-told : load t ≡ load (told no_bindings)
  load-told = sym (load-seen no_bindings t) ∙ ap load (made_as no_bindings)

  pub size-told : tree_size t ≡ tree_size (told no_bindings)
  size-told = sym (size-seen no_bindings t) ∙ ap tree_size (made_as no_bindings)

-- A GROUP

-- an object target without a rest
pub group-load : (l : Label) (ps : List Tree) → any_kind is_rest (trees ps) ≡ false → load (object_target l ps) ≡ 1 + trees_load (trees ps)
group-load l ps e = let none : (if any_kind is_rest (trees ps) then members_allowance (trees ps) else 0) ≡ 0 = rw e refl in omega (arith, none)

pub group-seen : (names : ℕ → Text → Option ℕ) (l : Label) (ps : List Tree) → seen names (object_target l ps) ≡ object_target (bare_label l) (map (seen names) ps)
group-seen names l ps = λ i. node ObjectTarget (bare_label l) (many (seen-trees names ps i) then done)

-- the assignment of a source to it
module _ (s : Bound) (l : Label) (ps : List Tree) (group last : Tree) (closed : group ≡ object_target l ps) (assigned : (names : ℕ → Text → Option ℕ) → seen names last ≡ assign_node (seen names group) (identifier s)) where
  pub last-seen : (names : ℕ → Text → Option ℕ) → seen names last ≡ assign_node (object_target (bare_label l) (map (seen names) ps)) (identifier s)
  last-seen names = assigned names ∙ ap (λ t. assign_node t (identifier s)) (ap (seen names) closed ∙ group-seen names l ps)

  pub last-load : any_kind is_rest (trees ps) ≡ false → load last ≡ 3 + trees_load (trees ps)
  last-load e =
      let told = load-told last (λ names. assign_node (seen names group) (identifier s)) assigned in
      let group_load = load-seen no_bindings group ∙ (ap load closed ∙ group-load l ps e) in
      omega (arith, told, group_load)

  pub last-size : tree_size last ≡ 3 + trees_size (trees ps)
  last-size =
      let told = size-told last (λ names. assign_node (seen names group) (identifier s)) assigned in
      let group_size = size-seen no_bindings group ∙ ap tree_size closed in
      omega (arith, told, group_size)

-- a property more
no-rest-more : (ps : List Tree) (p : Tree) → is_rest (kind_of p) ≡ false → any_kind is_rest (trees ps) ≡ false → any_kind is_rest (trees (ps ++ p ∷ [])) ≡ false
no-rest-more [] p other e = ap (λ b. b || false) other
no-rest-more (t ∷ ps) p other e = let parts = or_parts (is_rest (kind_of t)) (any_kind is_rest (trees ps)) e in λ i. parts.0 i || no-rest-more ps p other parts.1 i

-- GROUPS, of what is the same

pub groups-as : {s : Tree} {lp : Label} {w v : Whole} {read also : Bool} {ps qs ks js us vs : List Tree} {ts : Trees} {xs : List Bound} → w ≡ v → read ≡ also → ps ≡ qs → ks ≡ js → us ≡ vs → Groups s lp w read ps ks ts xs us → Groups s lp v also qs js ts xs vs
groups-as {s} {lp} {w} {v} {read} {also} {ps} {qs} {ks} {js} {us} {vs} {ts} {xs} a b c d e g =
    subst (λ (zs : List Tree). Groups s lp v also qs js ts xs zs) e
    (subst (λ (zs : List Tree). Groups s lp v also qs zs ts xs us) d
    (subst (λ (zs : List Tree). Groups s lp v also zs ks ts xs us) c
    (subst (λ (z : Bool). Groups s lp v z ps ks ts xs us) b
    (subst (λ (z : Whole). Groups s lp z read ps ks ts xs us) a g))))

-- A PROPERTY, opened

module _ (s : Bound) (old new : TraverseCtx TransformState) (l : Label) (k v p : Tree) (g h : OpenGroups) (opened : property_target l k v ≡ p) where
  abbrev seen_property : (ℕ → Text → Option ℕ) → Tree
  seen_property names = property_target (bare_label l) (seen names k) (seen names v)

  -- whose key isn't read
  pub adds-known : (key : Tree) → is_read_key (has_computed TargetProperty l.flags) k ≡ false → IsSeenAs key (string_node (key_text k)) → h.assignments.items ≡ g.assignments.items → h.properties.items ≡ g.properties.items ++ p ∷ [] → h.keys.items ≡ g.keys.items ++ One key ∷ [] → h.is_read ≡ g.is_read →
      ReadsMore 1 old new → AddsProperty s old new p g h
  adds-known key known made_key assignments properties keys read reads =
      let key_load = load-told key (λ names. string_node (key_text k)) made_key in
      let key_size = size-told key (λ names. string_node (key_text k)) made_key in
      let loads = ap (λ (ts : List Tree). trees_load (trees ts)) properties ∙ trees_load-append g.properties.items (p ∷ []) in
      let sizes = ap (λ (ts : List Tree). trees_size (trees ts)) properties ∙ tests_size-append g.properties.items (p ∷ []) in
      record {
        made = [];
        ids = 1;
        takes = takes-none reads;
        added = [];
        key = key;
        assignments = assignments ∙ sym (append-nil g.assignments.items);
        keys = keys;
        groups = λ names lp ks ts xs us r.
            let property : seen_property names ≡ seen names p = ap (seen names) opened in
            let there : map (seen names) h.properties.items ≡ map (seen names) g.properties.items ++ seen_property names ∷ [] =
            ap (map (seen names)) properties ∙ (map-append (seen names) g.properties.items (p ∷ []) ∙ ap (λ (t : Tree). map (seen names) g.properties.items ++ t ∷ []) (sym property)) in
            let text : ks ++ seen names key ∷ [] ≡ ks ++ string_node (key_text (seen names k)) ∷ [] = ap (λ (t : Tree). ks ++ t ∷ []) (made_key names ∙ ap string_node (sym (key_text-seen names k))) in
            subst (λ (t : Tree). Groups (identifier s) lp (whole_at (moment_of old)) g.is_read (map (seen names) g.properties.items) ks (t before ts) xs us) property
            (keeps (read_key-seen names (has_computed TargetProperty l.flags) k ∙ known) (groups-as (ap whole_at reads.moment_is) read there text refl r));
        plain = λ e. ap (λ (ts : List Tree). any_kind is_rest (trees ts)) properties ∙ no-rest-more g.properties.items p (ap (λ (t : Tree). is_rest (kind_of t)) (sym opened)) e;
        nodes = omega (arith, sizes, key_size);
        lighter = λ e. omega (arith, loads, key_load);
      }

  -- and whose key is
  pub adds-read : (closed stored : TraverseCtx TransformState) (st : Stored) (m : Label) (group last target keyed element : Tree) → bare_label m ≡ made [] [] → is_read_key (has_computed TargetProperty l.flags) k ≡ true → group ≡ object_target m g.properties.items →
      ((names : ℕ → Text → Option ℕ) → seen names last ≡ assign_node (seen names group) (identifier s)) → ReadsMore 3 old closed → Stores closed stored k st → ReadsMore 2 stored new → IsSeenAs target (identifier (bound_as st.name)) → IsSeenAs element (identifier (bound_as st.name)) →
      keyed ≡ property_target l target v → h.assignments.items ≡ (g.assignments.items ++ last ∷ []) ++ st.assignment ∷ [] → h.properties.items ≡ keyed ∷ [] → h.keys.items ≡ g.keys.items ++ One element ∷ [] → h.is_read ≡ true → AddsProperty s old new p g h
  adds-read closed stored st m group last target keyed element plain_label asked made_group assigned reads stores more is_target is_element put assignments properties keys read =
      let x = bound_as st.name in
      let w = whole_at (moment_of old) in
      let takes = takes-reads stored new (reads-takes {m = 3} {n = 4} old closed reads stores.takes) more in
      let same : whole_at (moment_of closed) ≡ w = ap whole_at reads.moment_is in
      let next : IsNext w (node_base k) x = subst (λ (z : Whole). IsNext z (node_base k) x) same stores.next in
      let element_load = load-told element (λ names. identifier x) is_element in
      let element_size = size-told element (λ names. identifier x) is_element in
      let target_load = load-told target (λ names. identifier x) is_target in
      let target_size = size-told target (λ names. identifier x) is_target in
      let stored_load = load-told st.assignment (λ names. assign_node (identifier x) (seen names k)) stores.is in
      let stored_size = size-told st.assignment (λ names. assign_node (identifier x) (seen names k)) stores.is in
      let loads = ap (λ (ts : List Tree). trees_load (trees ts)) properties in
      let sizes = ap (λ (ts : List Tree). trees_size (trees ts)) properties in
      let keyed_load = ap load put in
      let keyed_size = ap tree_size put in
      let property_load = ap load (sym opened) in
      let property_size = ap tree_size (sym opened) in
      record {
        made = x ∷ [];
        ids = 9;
        takes = takes;
        added = last ∷ st.assignment ∷ [];
        key = element;
        assignments = assignments ∙ append_assoc g.assignments.items (last ∷ []) (st.assignment ∷ []);
        keys = keys;
        groups = λ names lp ks ts xs us r.
            let property : seen_property names ≡ seen names p = ap (seen names) opened in
            let there : map (seen names) h.properties.items ≡ property_target (bare_label l) (identifier x) (seen names v) ∷ [] =
            ap (map (seen names)) properties ∙ ap (λ (t : Tree). t ∷ []) (ap (seen names) put ∙ ap (λ (t : Tree). property_target (bare_label l) t (seen names v)) (is_target names)) in
            let element_is : ks ++ seen names element ∷ [] ≡ ks ++ identifier x ∷ [] = ap (λ (t : Tree). ks ++ t ∷ []) (is_element names) in
            let closed_is : assign_node (object_target (made [] []) (map (seen names) g.properties.items)) (identifier s) ≡ seen names last =
            ap (λ (j : Label). assign_node (object_target j (map (seen names) g.properties.items)) (identifier s)) (sym plain_label) ∙ sym (last-seen s m g.properties.items group last made_group assigned names) in
            subst (λ (t : Tree). Groups (identifier s) lp w g.is_read (map (seen names) g.properties.items) ks (t before ts) (x ∷ xs) (seen names last ∷ seen names st.assignment ∷ us)) property
            (groups-as refl refl refl refl (λ i. closed_is i ∷ sym (stores.is names) i ∷ us)
            (begins (read_key-seen names (has_computed TargetProperty l.flags) k ∙ asked) (subst (λ base. IsNext w base x) (sym (base-seen names k)) next) (groups-as takes.whole_is read there element_is refl r)));
        plain = λ e. ap (λ (ts : List Tree). any_kind is_rest (trees ts)) (properties ∙ ap (λ (t : Tree). t ∷ []) put);
        nodes = omega (arith, last-size s m g.properties.items group last made_group assigned, stored_size, size-seen no_bindings k, sizes, keyed_size, target_size, element_size, property_size);
        lighter = λ e. omega (arith, last-load s m g.properties.items group last made_group assigned e, stored_load, load-seen no_bindings k, loads, keyed_load, target_load, element_load, property_load);
      }
