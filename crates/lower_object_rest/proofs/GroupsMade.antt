-- What was made of the properties of a pattern and its source, one property after another.
use Rattle.std.proofs.Common.{ap, append-nil, append_assoc, arith, length, refl, subst, sym, ◌+◌, ◌++◌, ◌<◌, ◌^◌, ◌∙◌, ◌∷◌, ◌≡◌, [], List, Option, ℕ}
use Rattle.std.proofs.lemmas.Bool.{and_parts}
use Rattle.std.specs.Prelude.{Bool, codes, false, true, ◌||◌}
use Rattle.es_tree.specs.Fresh.{node_base}
use Rattle.es_tree.specs.Tree.{Field, Fields, Label, Tree, Trees, done, empty, many, node, one, trees, ◌before◌, ◌then◌}
use Rattle.es_tree.specs.Views.{plain_field, plain_fields}
use Rattle.es_tree.specs.Words.{Text}
use Rattle.es_tree.specs.declared.ast_type.AstType.TheVariants.{CallExpression, MemberExpression, PatternProperty}
use Rattle.es_tree.specs.declared.node.Field.{Field as NodeField}
use Rattle.es_tree.specs.declared.node.Field.TheVariants.{One}
use Rattle.es_scope.specs.declared.context.TraverseCtx.{TraverseCtx}
use Rattle.es_resolution.specs.Declarations.{Bound}
use Rattle.es_resolution.specs.Seen.{seen, seen_among, seen_by, seen_in}
use Rattle.es_steps.specs.Duplication.{IsNext}
use Rattle.es_steps.specs.Nodes.{call_node, identifier, joined_trees, made, member_node, word}
use Rattle.es_steps.specs.ObjectRest.{helper_node, left_of}
use Rattle.es_steps.specs.Rules.{with_made}
use Rattle.es_steps.specs.Steps.{Whole}
use Rattle.es_steps.proofs.Lists.{joined-empty}
use Rattle.es_steps.proofs.Written.{joined-twice}
use Rattle.es_changes.specs.Moments.{Moment, whole_at}
use Rattle.es_rest_rows.specs.RestRows.{group, groups, groups_by, keyed_by, keys_by, keys_of, names_key, text_of_key}
use Rattle.es_rest_shapes.specs.RestShapes.{any_tree, are_plain, is_plain_property, reads_key}
use Rattle.lower_temporaries.specs.SeenTrees.{IsSeenAs}
use Rattle.lower_temporaries.specs.Takings.{ReadsMore, moment_of}
use Rattle.lower_temporaries.specs.declared.state.TransformState.{TransformState}
use Rattle.lower_temporaries.specs.Helpers.{elements, keys_value, rest_helper}
use Rattle.lower_temporaries.proofs.HelperCalls.{elements-more}
use Rattle.lower_object_rest.specs.Groups.{AddsProperty, Gives, MakesGroups, NamesKey, NamesRead}
use Rattle.lower_object_rest.specs.Groups.NamesRead.{no_properties, knows, reads_one}
use Rattle.lower_object_rest.specs.Profile.{key_ids, key_ids_by}
use Rattle.lower_object_rest.specs.declared.groups.Groups.{Groups as RestGroups}
use Rattle.lower_object_rest.specs.declared.groups.NamedKey.{NamedKey}
use Rattle.lower_object_rest.proofs.Composition.{append-seen}
use Rattle.lower_object_rest.proofs.SeenShapes.{key-of-seen, reads-seen}

-- LISTS

append-trees : (ps : List Tree) (p : Tree) → trees (ps ++ p ∷ []) ≡ joined_trees (trees ps) (p before empty)
append-trees [] p = refl
append-trees (q ∷ ps) p = ap (λ us. q before us) (append-trees ps p)

any-append : (test : Tree → Bool) (ps : List Tree) (p : Tree) → any_tree test (trees (ps ++ p ∷ [])) ≡ (any_tree test (trees ps) || test p)
any-append test [] p = last (test p)
  where
    last : (b : Bool) → (b || false) ≡ b
    last true = refl
    last false = refl
any-append test (q ∷ ps) p = ap (λ b. test q || b) (any-append test ps p) ∙ apart (test q) (any_tree test (trees ps)) (test p)
  where
    apart : (a b c : Bool) → (a || (b || c)) ≡ ((a || b) || c)
    apart true b c = refl
    apart false b c = refl

key_ids-joined : (ps qs : List Tree) → key_ids (trees (ps ++ qs)) ≡ key_ids (trees ps) + key_ids (trees qs)
key_ids-joined [] qs = omega arith
key_ids-joined (p ∷ ps) qs = omega (arith, key_ids-joined ps qs)

-- ONE PROPERTY, at the head of those that come

-- whose key isn't read
groups-known : (lp : Label) (s : Tree) (xs : List Bound) (these : Trees) (p : Tree) (more : Trees) → reads_key p ≡ false → groups lp s xs these (p before more) ≡ groups lp s xs (joined_trees these (p before empty)) more
groups-known lp s xs these p more e = ap (λ b. groups_by b lp s xs these p (λ ys qs. groups lp s ys qs more)) e

keys-known : (xs : List Bound) (p : Tree) (more : Trees) → reads_key p ≡ false → keys_of xs (p before more) ≡ text_of_key p ∷ keys_of xs more
keys-known xs p more e = ap (λ b. keys_by b xs p (λ ys. keys_of ys more)) e

-- and whose key is
groups-read : (lp : Label) (s : Tree) (x : Bound) (xs : List Bound) (these : Trees) (p : Tree) (more : Trees) → reads_key p ≡ true → groups lp s (x ∷ xs) these (p before more) ≡ group (made [] []) s these before names_key x p before groups lp s xs (keyed_by x p before empty) more
groups-read lp s x xs these p more e = ap (λ b. groups_by b lp s (x ∷ xs) these p (λ ys qs. groups lp s ys qs more)) e

keys-read : (x : Bound) (xs : List Bound) (p : Tree) (more : Trees) → reads_key p ≡ true → keys_of (x ∷ xs) (p before more) ≡ identifier x ∷ keys_of xs more
keys-read x xs p more e = ap (λ b. keys_by b (x ∷ xs) p (λ ys. keys_of ys more)) e

-- NAMES

named-known : {w v : Whole} {ps : Trees} {xs : List Bound} (p : Tree) → reads_key p ≡ false → NamesRead w ps xs v → NamesRead w (joined_trees ps (p before empty)) xs v
named-known p e no_properties = knows e no_properties
named-known p e (knows k h) = knows k (named-known p e h)
named-known p e (reads_one x k next h) = reads_one x k next (named-known p e h)

named-read : {w v : Whole} {ps : Trees} {xs : List Bound} (l : Label) (k u : Tree) (x : Bound) → reads_key (node PatternProperty l (one k then one u then done)) ≡ true → IsNext v (node_base k) x → NamesRead w ps xs v →
    NamesRead w (joined_trees ps (node PatternProperty l (one k then one u then done) before empty)) (xs ++ x ∷ []) (with_made (x ∷ []) v)
named-read l k u x e next no_properties = reads_one x e next no_properties
named-read l k u x e next (knows j h) = knows j (named-read l k u x e next h)
named-read l k u x e next (reads_one y j first h) = reads_one y j first (named-read l k u x e next h)

-- WHAT WAS MADE

makes-none : (ctx : TraverseCtx TransformState) (s : Tree) (g : RestGroups) → g.declarators.items ≡ [] → g.properties.items ≡ [] → g.keys.items ≡ [] → g.is_read ≡ false → MakesGroups ctx ctx [] s g
makes-none ctx s g ds ps ks read = record {
  bound = [];
  named = no_properties;
  declare = λ names lp xs more i. joined_trees (seen_among names (trees (sym ds i))) (groups lp (seen names s) xs (seen_among names (trees (sym ps i))) more);
  keys = λ names. [];
  keys_seen = λ names. ap (λ fs. seen_in names (plain_fields fs)) ks;
  keys_are = λ names xs more. refl;
  read = read;
  gives = record { next_is = omega arith; lists_are = refl; around_is = refl; options_are = refl };
}

module _ (old mid new : TraverseCtx TransformState) (ps : List Tree) (s p : Tree) (g h : RestGroups) (m : MakesGroups old mid ps s g) where
  -- with a property more, those that come stand behind it
  behind : (names : ℕ → Text → Option ℕ) (more : Trees) → joined_trees (seen_among names (trees (ps ++ p ∷ []))) more ≡ joined_trees (seen_among names (trees ps)) (seen names p before more)
  behind names more = ap (λ us. joined_trees us more) (append-seen names ps (p ∷ [])) ∙ joined-twice (seen_among names (trees ps)) (seen names p before empty) more

  given-more : (ids : ℕ) → ids ≡ key_ids_by (reads_key p) → Gives ids (moment_of mid) (moment_of new) → Gives (key_ids (trees (ps ++ p ∷ []))) (moment_of old) (moment_of new)
  given-more ids e more = record {
    next_is = omega (arith, e, m.gives.next_is, more.next_is, key_ids-joined ps (p ∷ []));
    lists_are = more.lists_are ∙ m.gives.lists_are;
    around_is = more.around_is ∙ m.gives.around_is;
    options_are = more.options_are ∙ m.gives.options_are;
  }

  pub makes-known : (key : Tree) → reads_key p ≡ false → IsSeenAs key (text_of_key p) → h.declarators.items ≡ g.declarators.items → h.properties.items ≡ g.properties.items ++ p ∷ [] → h.keys.items ≡ g.keys.items ++ One key ∷ [] → h.is_read ≡ g.is_read → ReadsMore 1 mid new → MakesGroups old new (ps ++ p ∷ []) s h
  makes-known key known made_key ds members ks read reads =
      let same : whole_at (moment_of mid) ≡ whole_at (moment_of new) = sym (ap whole_at reads.moment_is) in
      record {
        bound = m.bound;
        named = subst (λ (us : Trees). NamesRead (whole_at (moment_of old)) us m.bound (whole_at (moment_of new))) (sym (append-trees ps p)) (subst (λ (w : Whole). NamesRead (whole_at (moment_of old)) (joined_trees (trees ps) (p before empty)) m.bound w) same (named-known p known m.named));
        declare = λ names lp xs more.
            ap (groups lp (seen names s) (m.bound ++ xs) empty) (behind names more)
            ∙ (m.declare names lp xs (seen names p before more)
            ∙ (ap (joined_trees (seen_among names (trees g.declarators.items))) (groups-known lp (seen names s) xs (seen_among names (trees g.properties.items)) (seen names p) more (reads-seen names p ∙ known)
            ∙ ap (λ us. groups lp (seen names s) xs us more) (sym (ap (λ (qs : List Tree). seen_among names (trees qs)) members ∙ append-seen names g.properties.items (p ∷ []))))
            ∙ ap (λ (qs : List Tree). joined_trees (seen_among names (trees qs)) (groups lp (seen names s) xs (seen_among names (trees h.properties.items)) more)) (sym ds)));
        keys = λ names. m.keys names ++ seen names key ∷ [];
        keys_seen = λ names. elements-more names g.keys.items h.keys.items key (m.keys names) ks (m.keys_seen names);
        keys_are = λ names xs more.
            ap (keys_of (m.bound ++ xs)) (behind names more)
            ∙ (m.keys_are names xs (seen names p before more)
            ∙ (ap (λ (js : List Tree). m.keys names ++ js) (keys-known xs (seen names p) more (reads-seen names p ∙ known) ∙ ap (λ (j : Tree). j ∷ keys_of xs more) (key-of-seen names p ∙ sym (made_key names)))
            ∙ sym (append_assoc (m.keys names) (seen names key ∷ []) (keys_of xs more))));
        read = read ∙ (m.read ∙ (or-off (any_tree reads_key (trees ps)) ∙ (ap (λ b. any_tree reads_key (trees ps) || b) (sym known) ∙ sym (any-append reads_key ps p))));
        gives = given-more 1 (ap key_ids_by (sym known)) (record { next_is = ap (λ (a : Moment). a.next) reads.moment_is; lists_are = ap (λ (a : Moment). a.lists) reads.moment_is; around_is = ap (λ (a : Moment). a.around) reads.moment_is; options_are = ap (λ (a : Moment). a.options) reads.moment_is });
      }
    where
      or-off : (b : Bool) → b ≡ (b || false)
      or-off true = refl
      or-off false = refl

  pub makes-read : (between : TraverseCtx TransformState) (d : Tree) (k : NamedKey) → reads_key p ≡ true → ((names : ℕ → Text → Option ℕ) → seen names d ≡ group (made [] []) (seen names s) (seen_among names (trees g.properties.items))) → ReadsMore 3 mid between → NamesKey between new p k →
      h.declarators.items ≡ (g.declarators.items ++ d ∷ []) ++ k.declarator ∷ [] → h.properties.items ≡ k.property ∷ [] → h.keys.items ≡ g.keys.items ++ One k.element ∷ [] → h.is_read ≡ true → MakesGroups old new (ps ++ p ∷ []) s h
  makes-read between d k read closed reads named ds members ks is_read =
      let x = named.name in
      let same : whole_at (moment_of between) ≡ whole_at (moment_of mid) = ap whole_at reads.moment_is in
      let next : IsNext (whole_at (moment_of mid)) (node_base named.key) x = subst (λ (w : Whole). IsNext w (node_base named.key) x) same named.next in
      let last : with_made (x ∷ []) (whole_at (moment_of mid)) ≡ whole_at (moment_of new) = sym (named.takes.whole_is ∙ ap (with_made (x ∷ [])) same) in
      let property : Tree = node PatternProperty named.label (one named.key then one named.value then done) in
      let step = named-read named.label named.key named.value x (ap reads_key (sym named.was) ∙ read) next m.named in
      let first = λ (names : ℕ → Text → Option ℕ). seen_among names (trees g.declarators.items) in
      let later = ap (λ (a : Moment). a.next) reads.moment_is in
      record {
        bound = m.bound ++ x ∷ [];
        named = subst (λ (us : Trees). NamesRead (whole_at (moment_of old)) us (m.bound ++ x ∷ []) (whole_at (moment_of new))) (ap (λ (q : Tree). joined_trees (trees ps) (q before empty)) (sym named.was) ∙ sym (append-trees ps p))
            (subst (λ (w : Whole). NamesRead (whole_at (moment_of old)) (joined_trees (trees ps) (property before empty)) (m.bound ++ x ∷ []) w) last step);
        declare = λ names lp xs more.
            (λ i. groups lp (seen names s) (append_assoc m.bound (x ∷ []) xs i) empty (behind names more i))
            ∙ (m.declare names lp (x ∷ xs) (seen names p before more)
            ∙ (ap (joined_trees (first names)) (groups-read lp (seen names s) x xs (seen_among names (trees g.properties.items)) (seen names p) more (reads-seen names p ∙ read)
            ∙ (λ i. sym (closed names) i before sym (named.declarator_is names) i before groups lp (seen names s) xs (sym (named.property_is names) i before empty) more))
            ∙ (sym (joined-twice (first names) (seen names d before seen names k.declarator before empty) (groups lp (seen names s) xs (seen names k.property before empty) more))
            ∙ (λ i. joined_trees (two-more names i) (groups lp (seen names s) xs (seen_among names (trees (sym members i))) more)))));
        keys = λ names. m.keys names ++ seen names k.element ∷ [];
        keys_seen = λ names. elements-more names g.keys.items h.keys.items k.element (m.keys names) ks (m.keys_seen names);
        keys_are = λ names xs more.
            (λ i. keys_of (append_assoc m.bound (x ∷ []) xs i) (behind names more i))
            ∙ (m.keys_are names (x ∷ xs) (seen names p before more)
            ∙ (ap (λ (js : List Tree). m.keys names ++ js) (keys-read x xs (seen names p) more (reads-seen names p ∙ read) ∙ ap (λ (j : Tree). j ∷ keys_of xs more) (sym (named.element_is names)))
            ∙ sym (append_assoc (m.keys names) (seen names k.element ∷ []) (keys_of xs more))));
        read = is_read ∙ (sym (or-on (any_tree reads_key (trees ps))) ∙ (ap (λ b. any_tree reads_key (trees ps) || b) (sym read) ∙ sym (any-append reads_key ps p)));
        gives = given-more 7 (ap key_ids_by (sym read)) (record {
          next_is = omega (arith, later, named.takes.next_is);
          lists_are = named.takes.lists_are ∙ ap (λ (a : Moment). a.lists) reads.moment_is;
          around_is = named.takes.around_is ∙ ap (λ (a : Moment). a.around) reads.moment_is;
          options_are = named.takes.options_are ∙ ap (λ (a : Moment). a.options) reads.moment_is;
        });
      }
    where
      or-on : (b : Bool) → (b || true) ≡ true
      or-on true = refl
      or-on false = refl

      two-more : (names : ℕ → Text → Option ℕ) → joined_trees (seen_among names (trees g.declarators.items)) (seen names d before seen names k.declarator before empty) ≡ seen_among names (trees h.declarators.items)
      two-more names = sym (ap (λ (us : List Tree). seen_among names (trees us)) (ds ∙ append_assoc g.declarators.items (d ∷ []) (k.declarator ∷ [])) ∙ append-seen names g.declarators.items (d ∷ k.declarator ∷ []))

-- OF ALL PROPERTIES

pub record AllGroups (names : ℕ → Text → Option ℕ) (lp : Label) (ps : List Tree) (s : Tree) (g : RestGroups) (bound : List Bound) : Type 0 where
  pub declare : groups lp (seen names s) bound empty (seen_among names (trees ps)) ≡ joined_trees (seen_among names (trees g.declarators.items)) (group lp (seen names s) (seen_among names (trees g.properties.items)) before empty)
  pub keys : seen_in names (plain_fields g.keys.items) ≡ elements (keys_of bound (seen_among names (trees ps)))

pub all-groups : (old new : TraverseCtx TransformState) (ps : List Tree) (s : Tree) (g : RestGroups) (m : MakesGroups old new ps s g) (names : ℕ → Text → Option ℕ) (lp : Label) → AllGroups names lp ps s g m.bound
all-groups old new ps s g m names lp =
    let all = seen_among names (trees ps) in
    record {
      declare = sym (λ i. groups lp (seen names s) (append-nil m.bound i) empty (joined-empty all i)) ∙ m.declare names lp [] empty;
      keys = m.keys_seen names ∙ ap elements (sym (append-nil (m.keys names)) ∙ (sym (m.keys_are names [] empty) ∙ (λ i. keys_of (append-nil m.bound i) (joined-empty all i))));
    }

-- the value of the rest, by its keys
pub left-made : (read : Bool) (s : Tree) (ks : List Tree) → call_node rest_helper (s ∷ keys_value read (elements ks) ∷ []) ≡ left_of read s ks
left-made true s ks = refl
left-made false s ks = refl

-- ONE AFTER ANOTHER

-- groups were made of those before the rest
pub record GroupsSoFar (old new : TraverseCtx TransformState) (all rest : List Tree) (s : Tree) (g : RestGroups) : Type 0 where
  pub first : List Tree
  pub are : all ≡ first ++ rest
  pub made : MakesGroups old new first s g

pub so-far-first : (ctx : TraverseCtx TransformState) (all rest : List Tree) (s : Tree) (g : RestGroups) → rest ≡ all → g.declarators.items ≡ [] → g.properties.items ≡ [] → g.keys.items ≡ [] → g.is_read ≡ false → GroupsSoFar ctx ctx all rest s g
so-far-first ctx all rest s g whole ds ps ks read = record { first = []; are = sym whole; made = makes-none ctx s g ds ps ks read }

pub plain-among : (first : List Tree) (p : Tree) (rest : List Tree) → are_plain (trees (first ++ p ∷ rest)) ≡ true → is_plain_property p ≡ true
plain-among [] p rest h = (and_parts (is_plain_property p) (are_plain (trees rest)) h).0
plain-among (q ∷ first) p rest h = plain-among first p rest (and_parts (is_plain_property q) (are_plain (trees (first ++ p ∷ rest))) h).1

module _ (old mid : TraverseCtx TransformState) (all rest : List Tree) (s p : Tree) (g : RestGroups) (h : GroupsSoFar old mid all (p ∷ rest) s g) where
  pub so-far-plain : are_plain (trees all) ≡ true → is_plain_property p ≡ true
  so-far-plain plain = plain-among h.first p rest (sym (ap (λ (ts : List Tree). are_plain (trees ts)) h.are) ∙ plain)

  pub so-far-room : old.ast.next + key_ids (trees all) < 2 ^ 32 → mid.ast.next + key_ids_by (reads_key p) < 2 ^ 32
  so-far-room room = omega (arith, room, ap (λ (ts : List Tree). key_ids (trees ts)) h.are, key_ids-joined h.first (p ∷ rest), h.made.gives.next_is)

  pub so-far-next : (new : TraverseCtx TransformState) (k : RestGroups) → AddsProperty mid new p s g k → GroupsSoFar old new all rest s k
  so-far-next new k adds = record { first = h.first ++ p ∷ []; are = h.are ∙ sym (append_assoc h.first (p ∷ []) rest); made = adds old h.first h.made }

pub none-of : (ts : List Tree) → length ts ≡ 0 → ts ≡ []
none-of [] e = refl
none-of (t ∷ ts) e = absurd (omega (arith, e))

pub so-far-all : (old new : TraverseCtx TransformState) (all rest : List Tree) (s : Tree) (g : RestGroups) → length rest ≡ 0 → GroupsSoFar old new all rest s g → MakesGroups old new all s g
so-far-all old new all rest s g e h = subst (λ (ts : List Tree). MakesGroups old new ts s g) (sym (h.are ∙ (ap (λ (ts : List Tree). h.first ++ ts) (none-of rest e) ∙ append-nil h.first))) h.made
