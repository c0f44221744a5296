-- How many ids a pattern with a rest owes, the sizes of what comes of it, and the work that is left for that.
use Rattle.std.proofs.Common.{ap, arith, length, refl, subst, sym, true≢false, ◌+◌, ◌++◌, ◌≤◌, ◌∷◌, ◌≡◌, [], List, ℕ}
use Rattle.std.proofs.lemmas.Bool.{and_from, and_parts}
use Rattle.std.specs.Prelude.{Bool, false, if◌then◌else◌, true, ◌||◌}
use Rattle.es_tree.specs.Constructs.{any_kind, is_rest}
use Rattle.es_tree.specs.Tree.{Label, Tree, Trees, done, empty, fields_of, fields_size, kind_of, many, missing, node, one, statements, tree_size, trees, trees_size, ◌before◌, ◌then◌}
use Rattle.es_tree.specs.declared.ast_type.AstType.TheVariants.{Identifier, ObjectPattern, PatternProperty, RestElement}
use Rattle.es_resolution.specs.Declarations.{Bound}
use Rattle.es_resolution.specs.Seen.{seen, seen_among}
use Rattle.es_steps.specs.Nodes.{declarator_with, joined_trees, made}
use Rattle.es_steps.specs.ObjectRest.{left_of, pattern_node, whole_value}
use Rattle.es_rest_rows.specs.RestRows.{group, groups, groups_by, keyed_by, keys_of, names_key, taken, with_rest}
use Rattle.es_rest_shapes.specs.RestShapes.{any_tree, are_plain, are_plain_members, bears_among, bears_rest, is_name, is_named_rest, is_plain_pattern, is_plain_property, reads_key}
use Rattle.lower_nodes.specs.Nodes.{owed, owed_among, owed_in}
use Rattle.lower_temporaries.specs.SeenTrees.{no_bindings}
use Rattle.lower_temporaries.proofs.HelperCalls.{few-mapped}
use Rattle.lower_temporaries.proofs.SeenLaws.{size-seen}
use Rattle.lower_temporaries.specs.Helpers.{elements, mapped_ids}
use Rattle.lower_object_rest.specs.Parts.{taken_ids}
use Rattle.lower_object_rest.specs.Profile.{key_ids, key_ids_by, nested_ids, nested_ids_by, nested_ids_of, number_of, rest_owes}
use Rattle.lower_object_rest.proofs.Keys.{AreLeaves, IsLeaf, keys-leaves, keys-number}
use Rattle.lower_object_rest.proofs.Keys.IsLeaf.{text_leaf, word_leaf}
use Rattle.lower_object_rest.proofs.PatternShapes.{keyed-plain, parts-of, pattern-bears, plain-joined, plain-kinds, plain-property}

-- THE MEMBERS of a pattern

joined-rest : (ps : Trees) (r : Tree) → is_rest (kind_of r) ≡ true → any_kind is_rest (joined_trees ps (r before empty)) ≡ true
joined-rest empty r h = ap (λ b. b || false) h
joined-rest (p before ps) r h = at (is_rest (kind_of p)) (joined-rest ps r h)
  where
    at : (b : Bool) {c : Bool} → c ≡ true → (b || c) ≡ true
    at true h = refl
    at false h = h

keys-joined : (ps : Trees) (lr : Label) (t : Tree) → key_ids (joined_trees ps (node RestElement lr (one t then done) before empty)) ≡ key_ids ps + 1
keys-joined empty lr t = refl
keys-joined (p before ps) lr t = omega (arith, keys-joined ps lr t)

-- a rest bears none itself
nested-joined : (ps : Trees) (lr : Label) (t : Tree) → nested_ids (joined_trees ps (node RestElement lr (one t then done) before empty)) ≡ nested_ids ps
nested-joined empty lr t = refl
nested-joined (p before ps) lr t = omega (arith, nested-joined ps lr t)

nested-one : (ps : Trees) (p : Tree) → nested_ids (joined_trees ps (p before empty)) ≡ nested_ids ps + nested_ids_of p
nested-one empty p = omega arith
nested-one (q before ps) p = omega (arith, nested-one ps p)

owed-joined : (ps : Trees) (r : Tree) → owed_among rest_owes (joined_trees ps (r before empty)) ≡ owed_among rest_owes ps + owed rest_owes r
owed-joined empty r = omega arith
owed-joined (p before ps) r = omega (arith, owed-joined ps r)

size-joined : (ps : Trees) (r : Tree) → trees_size (joined_trees ps (r before empty)) ≡ trees_size ps + tree_size r
size-joined empty r = omega arith
size-joined (p before ps) r = omega (arith, size-joined ps r)

-- IDS OWED

pub owed-name : (t : Tree) → is_name t ≡ true → owed rest_owes t ≡ 0
owed-name (node Identifier l done) h = refl
owed-name (node Identifier l (f then fs)) h = absurd (cc h)
owed-name (node _ l fs) h = absurd (cc h)

pub owed-pattern : (lp lr : Label) (ps : Trees) (t : Tree) → is_name t ≡ true → owed rest_owes (with_rest lp ps lr t) ≡ 17 + key_ids ps + (nested_ids ps + owed_among rest_owes ps)
owed-pattern lp lr ps t name =
    let r : Tree = node RestElement lr (one t then done) in
    let all = joined_trees ps (r before empty) in
    let own : (if any_kind is_rest all then 16 + key_ids all else 0) ≡ 16 + key_ids all = ap (λ b. if b then 16 + key_ids all else 0) (joined-rest ps r refl) in
    omega (arith, own, keys-joined ps lr t, nested-joined ps lr t, owed-joined ps r, owed-name t name)

pub owed-without : (lp : Label) (ps : Trees) → are_plain ps ≡ true → owed rest_owes (pattern_node lp ps) ≡ nested_ids ps + owed_among rest_owes ps
owed-without lp ps plain =
    let own : (if any_kind is_rest ps then 16 + key_ids ps else 0) ≡ 0 = ap (λ b. if b then 16 + key_ids ps else 0) (plain-kinds ps plain) in
    omega (arith, own)

-- the keys in the array owe none
owed-leaf : (k : Tree) → IsLeaf k → owed rest_owes k ≡ 0
owed-leaf k (word_leaf l) = refl
owed-leaf k (text_leaf l) = refl

owed-leaves : (ks : List Tree) → AreLeaves ks → owed_in rest_owes (elements ks) ≡ 0
owed-leaves [] h = refl
owed-leaves (k ∷ ks) h = omega (arith, owed-leaf k h.0, owed-leaves ks h.1)

owed-value : (b : Bool) (s : Tree) (xs : List Bound) (ps : Trees) → is_name s ≡ true → owed rest_owes (left_of b s (keys_of xs ps)) ≡ 0
owed-value true s xs ps name = omega (arith, owed-name s name, owed-leaves (keys_of xs ps) (keys-leaves xs ps))
owed-value false s xs ps name = omega (arith, owed-name s name, owed-leaves (keys_of xs ps) (keys-leaves xs ps))

owed-whole : (s : Tree) → is_name s ≡ true → owed rest_owes (whole_value s) ≡ 0
owed-whole s name = omega (arith, owed-name s name)

-- a group owes what its properties do
owed-group : (lp : Label) (s : Tree) (ps : Trees) → is_name s ≡ true → are_plain ps ≡ true → owed rest_owes (group lp s ps) ≡ nested_ids ps + owed_among rest_owes ps
owed-group lp s ps name plain = omega (arith, owed-without lp ps plain, owed-name s name)

-- a key owes as much behind its name as in its property
owed-keyed : (x : Bound) (p : Tree) → is_plain_property p ≡ true → owed rest_owes (names_key x p) + owed rest_owes (keyed_by x p) ≡ owed rest_owes p
owed-keyed x p h = let q = plain-property p h in subst (λ (t : Tree). owed rest_owes (names_key x t) + owed rest_owes (keyed_by x t) ≡ owed rest_owes t) (sym q.is) (omega arith)

keyed-nested : (x : Bound) (p : Tree) → is_plain_property p ≡ true → nested_ids_of (keyed_by x p) ≡ nested_ids_of p
keyed-nested x p h = let q = plain-property p h in subst (λ (t : Tree). nested_ids_of (keyed_by x t) ≡ nested_ids_of t) (sym q.is) refl

module _ (lp : Label) (s : Tree) (name : is_name s ≡ true) where
  owed-by : (b : Bool) (xs : List Bound) (these : Trees) (p : Tree) (behind : List Bound → Trees → Trees) (n : ℕ) → are_plain these ≡ true → is_plain_property p ≡ true →
      ((ys : List Bound) (qs : Trees) → are_plain qs ≡ true → owed_among rest_owes (behind ys qs) ≡ nested_ids qs + owed_among rest_owes qs + n) →
      owed_among rest_owes (groups_by b lp s xs these p behind) ≡ nested_ids these + owed_among rest_owes these + (nested_ids_of p + owed rest_owes p + n)
  owed-by true (x ∷ xs) these p behind n plain own later =
      omega (arith, owed-group (made [] []) s these name plain, owed-keyed x p own, keyed-nested x p own, later xs (keyed_by x p before empty) (and_from (is_plain_property (keyed_by x p)) true (keyed-plain x p own) refl))
  owed-by true [] these p behind n plain own later = omega (arith, owed-joined these p, nested-one these p, later [] (joined_trees these (p before empty)) (plain-joined these p plain own))
  owed-by false xs these p behind n plain own later = omega (arith, owed-joined these p, nested-one these p, later xs (joined_trees these (p before empty)) (plain-joined these p plain own))

  owed-groups : (xs : List Bound) (these ps : Trees) → are_plain these ≡ true → are_plain ps ≡ true → owed_among rest_owes (groups lp s xs these ps) ≡ nested_ids these + owed_among rest_owes these + (nested_ids ps + owed_among rest_owes ps)
  owed-groups xs these empty plain more = omega (arith, owed-group lp s these name plain)
  owed-groups xs these (p before ps) plain more =
      let parts = and_parts (is_plain_property p) (are_plain ps) more in
      let by = owed-by (reads_key p) xs these p (λ ys qs. groups lp s ys qs ps) (nested_ids ps + owed_among rest_owes ps) plain parts.0 (λ ys qs h. owed-groups ys qs ps h parts.1) in
      omega (arith, by)

-- what is made of a pattern owes what its properties do
pub owed-made : (lp : Label) (s : Tree) (xs : List Bound) (ps : Trees) (t : Tree) → are_plain ps ≡ true → is_name s ≡ true → is_name t ≡ true → owed_among rest_owes (taken lp s xs ps t) ≡ nested_ids ps + owed_among rest_owes ps
owed-made lp s xs empty t plain source name = omega (arith, owed-name t name, owed-whole s source)
owed-made lp s xs (p before ps) t plain source name =
    let all : Trees = p before ps in
    let value = left_of (any_tree reads_key all) s (keys_of xs all) in
    omega (arith, owed-joined (groups lp s xs empty all) (declarator_with t value), owed-groups lp s source xs empty all refl plain, owed-name t name, owed-value (any_tree reads_key all) s xs all source)

-- and what is owed for a pattern is enough for the ids that are given for it, and for those of a stored source
pub ids-enough : (ps : Trees) → 3 + taken_ids ps ≤ 17 + key_ids ps
ids-enough empty = omega arith
ids-enough (p before ps) = omega (arith, few-mapped (any_tree reads_key (p before ps)))

-- SIZES

pub size-name : (t : Tree) → is_name t ≡ true → tree_size t ≡ 1
size-name (node Identifier l done) h = refl
size-name (node Identifier l (f then fs)) h = absurd (cc h)
size-name (node _ l fs) h = absurd (cc h)

size-leaf : (k : Tree) → IsLeaf k → tree_size k ≡ 1
size-leaf k (word_leaf l) = refl
size-leaf k (text_leaf l) = refl

size-leaves : (ks : List Tree) → AreLeaves ks → fields_size (elements ks) ≡ length ks
size-leaves [] h = refl
size-leaves (k ∷ ks) h = omega (arith, size-leaf k h.0, size-leaves ks h.1)

pub size-pattern : (lp lr : Label) (ps : Trees) (t : Tree) → is_name t ≡ true → tree_size (with_rest lp ps lr t) ≡ 3 + trees_size ps
size-pattern lp lr ps t name = omega (arith, size-joined ps (node RestElement lr (one t then done)), size-name t name)

size-value : (b : Bool) (s : Tree) (xs : List Bound) (ps : Trees) → is_name s ≡ true → tree_size (left_of b s (keys_of xs ps)) ≡ 6 + number_of ps + mapped_ids b
size-value true s xs ps name = omega (arith, size-leaves (keys_of xs ps) (keys-leaves xs ps), keys-number xs ps, size-name s name)
size-value false s xs ps name = omega (arith, size-leaves (keys_of xs ps) (keys-leaves xs ps), keys-number xs ps, size-name s name)

-- the declarator of a name and the property that has it in the place of its key
size-keyed : (x : Bound) (p : Tree) → is_plain_property p ≡ true → tree_size (names_key x p) + tree_size (keyed_by x p) ≡ 3 + tree_size p
size-keyed x p h = let q = plain-property p h in subst (λ (t : Tree). tree_size (names_key x t) + tree_size (keyed_by x t) ≡ 3 + tree_size t) (sym q.is) (omega arith)

-- groups have no more nodes than the properties and the ids that are given for them, but for those of the keys in the array
module _ (lp : Label) (s : Tree) (name : is_name s ≡ true) where
  size-by : (b : Bool) (xs : List Bound) (these : Trees) (p : Tree) (behind : List Bound → Trees → Trees) (number size ids : ℕ) → is_plain_property p ≡ true →
      ((ys : List Bound) (qs : Trees) → trees_size (behind ys qs) + number ≤ 3 + trees_size qs + size + ids) → trees_size (groups_by b lp s xs these p behind) + (1 + number) ≤ 3 + trees_size these + (tree_size p + size) + (key_ids_by b + ids)
  size-by true (x ∷ xs) these p behind number size ids own later = omega (arith, size-name s name, size-keyed x p own, later xs (keyed_by x p before empty))
  size-by true [] these p behind number size ids own later = omega (arith, size-joined these p, later [] (joined_trees these (p before empty)))
  size-by false xs these p behind number size ids own later = omega (arith, size-joined these p, later xs (joined_trees these (p before empty)))

  size-groups : (xs : List Bound) (these ps : Trees) → are_plain ps ≡ true → trees_size (groups lp s xs these ps) + number_of ps ≤ 3 + trees_size these + trees_size ps + key_ids ps
  size-groups xs these empty plain = omega (arith, size-name s name)
  size-groups xs these (p before ps) plain =
      let parts = and_parts (is_plain_property p) (are_plain ps) plain in
      size-by (reads_key p) xs these p (λ ys qs. groups lp s ys qs ps) (number_of ps) (trees_size ps) (key_ids ps) parts.0 (λ ys qs. size-groups ys qs ps parts.1)

size-whole : (s : Tree) → is_name s ≡ true → tree_size (whole_value s) ≡ 12
size-whole s name = omega (arith, size-name s name)

-- what is made of a pattern has no more nodes than it and the ids that are given
pub size-made : (lp : Label) (s : Tree) (xs : List Bound) (ps : Trees) (t : Tree) → are_plain ps ≡ true → is_name s ≡ true → is_name t ≡ true → trees_size (taken lp s xs ps t) ≤ 3 + trees_size ps + taken_ids ps
size-made lp s xs empty t plain source name = omega (arith, size-name t name, size-whole s source)
size-made lp s xs (p before ps) t plain source name =
    let all : Trees = p before ps in
    let read = any_tree reads_key all in
    omega (arith, size-joined (groups lp s xs empty all) (declarator_with t (left_of read s (keys_of xs all))), size-groups lp s source xs empty all plain, size-value read s xs all source, size-name t name)

-- AT LEAST

-- a plain property has them where it bears a rest
pub nested-plain : (p : Tree) → is_plain_property p ≡ true → nested_ids_of p ≡ nested_ids_by (bears_rest p)
nested-plain (node PatternProperty l fs) h = refl
nested-plain (node _ l fs) h = absurd (cc h)

rest-bears-none : (t : Tree) → is_named_rest t ≡ true → bears_rest t ≡ false
rest-bears-none (node RestElement l fs) h = refl
rest-bears-none (node _ l fs) h = absurd (cc h)

nested-some : (ps : Trees) → are_plain_members ps ≡ true → bears_among ps ≡ true → 9 ≤ nested_ids ps
nested-some empty plain h = absurd (cc h)
nested-some (p before empty) plain h = at (is_plain_property p) (bears_rest p) (is_named_rest p) plain h (nested-plain p) (rest-bears-none p)
  where
    at : (a b c : Bool) → (a || c) ≡ true → (b || false) ≡ true → (a ≡ true → nested_ids_of p ≡ nested_ids_by b) → (c ≡ true → b ≡ false) → 9 ≤ nested_ids_of p + 0
    at true true c e h own none = omega (arith, own refl)
    at false true c e h own none = absurd (true≢false (none e))
    at a false c e h own none = absurd (cc h)
nested-some (p before (q before ps)) plain h =
    let parts = and_parts (is_plain_property p) (are_plain_members (q before ps)) plain in
    at (bears_rest p) h (nested-plain p parts.0) (nested-some (q before ps) parts.1)
  where
    at : (b : Bool) → (b || bears_among (q before ps)) ≡ true → nested_ids_of p ≡ nested_ids_by b → (bears_among (q before ps) ≡ true → 9 ≤ nested_ids (q before ps)) → 9 ≤ nested_ids_of p + nested_ids (q before ps)
    at true h own more = omega (arith, own)
    at false h own more = omega (arith, own, more h)

-- a plain pattern owes for its rest, or for one in a property
pub owed-plain : (p : Tree) → is_plain_pattern p ≡ true → 9 ≤ owed rest_owes p
owed-plain (node ObjectPattern l (many ps then done)) h = at (any_kind is_rest ps) (pattern-bears (node ObjectPattern l (many ps then done)) h)
  where
    at : (b : Bool) → (b || bears_among ps) ≡ true → 9 ≤ (if b then 16 + key_ids ps else 0) + nested_ids ps + (owed_among rest_owes ps + 0)
    at true e = omega arith
    at false e = omega (arith, nested-some ps (parts-of l (many ps then done) h) e)
owed-plain (node ObjectPattern l done) h = absurd (cc (parts-of l done h))
owed-plain (node ObjectPattern l (missing then fs)) h = absurd (cc (parts-of l (missing then fs) h))
owed-plain (node ObjectPattern l (one t then fs)) h = absurd (cc (parts-of l (one t then fs) h))
owed-plain (node ObjectPattern l (statements ts then fs)) h = absurd (cc (parts-of l (statements ts then fs) h))
owed-plain (node ObjectPattern l (many ts then (f then fs))) h = absurd (cc (parts-of l (many ts then (f then fs)) h))
owed-plain (node _ l fs) h = absurd (cc h)

-- THE WORK OF A DECLARATOR: the size of what stands in its pattern, as no declarator of a name has any

abbrev pub pattern_work : Tree → ℕ
pattern_work p = fields_size (fields_of p)

abbrev pub declarator_work : Tree → ℕ
declarator_work (node k l (one p then fs)) = pattern_work p
declarator_work _ = 0

abbrev pub declarators_work : Trees → ℕ
declarators_work empty = 0
declarators_work (d before ds) = declarator_work d + declarators_work ds

-- one among others
pub work-within : (first : List Tree) (d : Tree) (rest : List Tree) → declarator_work d ≤ declarators_work (trees (first ++ d ∷ rest))
work-within [] d rest = omega arith
work-within (e ∷ first) d rest = omega (arith, work-within first d rest)

pub size-within : (first : List Tree) (p : Tree) (rest : List Tree) → tree_size p ≤ trees_size (trees (first ++ p ∷ rest))
size-within [] p rest = omega arith
size-within (q ∷ first) p rest = omega (arith, size-within first p rest)

-- a pattern and the nodes in it
pub work-size : (t : Tree) → tree_size t ≡ 1 + pattern_work t
work-size (node k l fs) = omega arith

pattern-work-seen : (t : Tree) → pattern_work (seen no_bindings t) ≡ pattern_work t
pattern-work-seen t = omega (arith, size-seen no_bindings t, work-size t, work-size (seen no_bindings t))

declarator-work-seen : (d : Tree) → declarator_work (seen no_bindings d) ≡ declarator_work d
declarator-work-seen (node k l (one p then fs)) = pattern-work-seen p
declarator-work-seen (node k l done) = refl
declarator-work-seen (node k l (missing then fs)) = refl
declarator-work-seen (node k l (many ts then fs)) = refl
declarator-work-seen (node k l (statements ts then fs)) = refl

pub work-seen : (ds : Trees) → declarators_work (seen_among no_bindings ds) ≡ declarators_work ds
work-seen empty = refl
work-seen (d before ds) = λ i. declarator-work-seen d i + work-seen ds i

work-joined : (xs ys : Trees) → declarators_work (joined_trees xs ys) ≡ declarators_work xs + declarators_work ys
work-joined empty ys = omega arith
work-joined (x before xs) ys = omega (arith, work-joined xs ys)

-- a property with a name in the place of its key is no larger, and that name has no work
keyed-smaller : (x : Bound) (p : Tree) → is_plain_property p ≡ true → tree_size (keyed_by x p) ≤ tree_size p
keyed-smaller x p h = let q = plain-property p h in subst (λ (t : Tree). tree_size (keyed_by x t) ≤ tree_size t) (sym q.is) (omega (arith, work-size q.key))

named-work : (x : Bound) (p : Tree) → is_plain_property p ≡ true → declarator_work (names_key x p) ≡ 0
named-work x p h = let q = plain-property p h in subst (λ (t : Tree). declarator_work (names_key x t) ≡ 0) (sym q.is) refl

name-work : (t : Tree) → is_name t ≡ true → pattern_work t ≡ 0
name-work t h = omega (arith, work-size t, size-name t h)

module _ (lp : Label) (s : Tree) where
  work-by : (b : Bool) (xs : List Bound) (these : Trees) (p : Tree) (behind : List Bound → Trees → Trees) (n : ℕ) → is_plain_property p ≡ true → ((ys : List Bound) (qs : Trees) → declarators_work (behind ys qs) ≤ trees_size qs + n) →
      declarators_work (groups_by b lp s xs these p behind) ≤ trees_size these + (tree_size p + n)
  work-by true (x ∷ xs) these p behind n own later = omega (arith, keyed-smaller x p own, named-work x p own, later xs (keyed_by x p before empty))
  work-by true [] these p behind n own later = omega (arith, size-joined these p, later [] (joined_trees these (p before empty)))
  work-by false xs these p behind n own later = omega (arith, size-joined these p, later xs (joined_trees these (p before empty)))

  work-groups : (xs : List Bound) (these ps : Trees) → are_plain ps ≡ true → declarators_work (groups lp s xs these ps) ≤ trees_size these + trees_size ps
  work-groups xs these empty plain = omega arith
  work-groups xs these (p before ps) plain =
      let parts = and_parts (is_plain_property p) (are_plain ps) plain in
      work-by (reads_key p) xs these p (λ ys qs. groups lp s ys qs ps) (trees_size ps) parts.0 (λ ys qs. work-groups ys qs ps parts.1)

-- what is made of a pattern has no more than its properties
pub work-made : (lp : Label) (s : Tree) (xs : List Bound) (ps : Trees) (t : Tree) → are_plain ps ≡ true → is_name t ≡ true → declarators_work (taken lp s xs ps t) ≤ trees_size ps
work-made lp s xs empty t plain name = omega (arith, name-work t name)
work-made lp s xs (p before ps) t plain name =
    let all : Trees = p before ps in
    omega (arith, work-joined (groups lp s xs empty all) (declarator_with t (left_of (any_tree reads_key all) s (keys_of xs all)) before empty), work-groups lp s xs empty all plain, name-work t name)
