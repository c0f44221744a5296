-- What the rows of a declarator leave: no pattern with a rest where it isn't lowered.
use Rattle.std.proofs.Common.{refl, subst, sym, ◌∷◌, ◌≡◌, [], List}
use Rattle.std.proofs.lemmas.Bool.{and_parts, or_from, or_parts}
use Rattle.std.specs.Prelude.{Bool, false, not, true, ◌&&◌, ◌||◌}
use Rattle.es_tree.specs.Tree.{Fields, Label, Tree, Trees, done, empty, node, one, ◌before◌, ◌then◌}
use Rattle.es_tree.specs.Walks.{any_in_fields, any_in_trees, any_node}
use Rattle.es_tree.specs.declared.ast_type.AstType.{AstType}
use Rattle.es_tree.specs.declared.ast_type.AstType.TheVariants.{AssignmentPattern, Identifier, ObjectPattern, PatternProperty, RestElement, StringLiteral}
use Rattle.es_resolution.specs.Declarations.{Bound}
use Rattle.es_steps.specs.Nodes.{declarator_with, identifier, joined_trees, made}
use Rattle.es_steps.specs.ObjectRest.{declares_as, declares_some, left_of, pattern_node, whole_value}
use Rattle.es_rest_rows.specs.RestRows.{PutsName, group, groups, groups_by, keyed_by, keys_of, names_key, parted, property_of, taken, with_rest}
use Rattle.es_rest_rows.specs.RestRows.PutsName.{for_pattern, with_default}
use Rattle.es_rest_shapes.specs.RestShapes.{any_child, any_tree, are_plain, are_plain_members, bears_among, bears_rest, is_misplaced, is_name, is_odd_pattern, is_plain_key, is_plain_pattern, is_plain_property, is_plain_value, is_rest_declaration, is_rest_declarator, is_stray_rest, reads_key}
use Rattle.es_tree.specs.Names.{has_computed}
use Rattle.lower_temporaries.specs.Helpers.{elements}
use Rattle.lower_object_rest.specs.Declarators.{AreKnown}
use Rattle.lower_object_rest.proofs.Composition.{nodes-joined, nodes-parts}
use Rattle.lower_object_rest.proofs.Keys.{AreLeaves, IsLeaf, keys-leaves}
use Rattle.lower_object_rest.proofs.Keys.IsLeaf.{text_leaf, word_leaf}
use Rattle.lower_object_rest.proofs.PatternShapes.{plain-joined, plain-kinds, plain-members, plain-no-declarators, plain-parts, plain-property}

-- none is left that isn't lowered, in these nodes or in what stands in them
pub record AreClear (us : Trees) : Type 0 where
  pub strays : any_in_trees is_stray_rest us ≡ false
  pub inside : any_in_trees is_rest_declaration us ≡ false

pub clear-none : AreClear empty
clear-none = record { strays = refl; inside = refl }

pub clear-joined : (us vs : Trees) → AreClear us → AreClear vs → AreClear (joined_trees us vs)
clear-joined us vs first last = record { strays = nodes-joined is_stray_rest us vs first.strays last.strays; inside = nodes-joined is_rest_declaration us vs first.inside last.inside }

-- THE KEYS in the array

-- none of them passes such a test
placed-leaves : (ks : List Tree) → AreLeaves ks → any_child is_misplaced (elements ks) ≡ false
placed-leaves [] h = refl
placed-leaves (k ∷ ks) h = or_from (is_misplaced k) (any_child is_misplaced (elements ks)) (at k h.0) (placed-leaves ks h.1)
  where
    at : (k : Tree) → IsLeaf k → is_misplaced k ≡ false
    at k (word_leaf l) = refl
    at k (text_leaf l) = refl

module _ (test : AstType → Label → Fields → Bool) (texts : (l : Label) → test StringLiteral l done ≡ false) (words : (l : Label) → test Identifier l done ≡ false) where
  leaves-pass : (ks : List Tree) → AreLeaves ks → any_in_fields test (elements ks) ≡ false
  leaves-pass [] h = refl
  leaves-pass (k ∷ ks) h = or_from (any_node test k) (any_in_fields test (elements ks)) (at k h.0) (leaves-pass ks h.1)
    where
      at : (k : Tree) → IsLeaf k → any_node test k ≡ false
      at k (word_leaf l) = λ i. words l i || false
      at k (text_leaf l) = λ i. texts l i || false

abbrev keys_placed : (xs : List Bound) (ps : Trees) → any_child is_misplaced (elements (keys_of xs ps)) ≡ false
keys_placed xs ps = placed-leaves (keys_of xs ps) (keys-leaves xs ps)

abbrev keys_inside : (xs : List Bound) (ps : Trees) → any_in_fields is_rest_declaration (elements (keys_of xs ps)) ≡ false
keys_inside xs ps = leaves-pass is_rest_declaration (λ l. refl) (λ l. refl) (keys_of xs ps) (keys-leaves xs ps)

abbrev keys_strays : (xs : List Bound) (ps : Trees) → any_in_fields is_stray_rest (elements (keys_of xs ps)) ≡ false
keys_strays xs ps = leaves-pass is_stray_rest (λ l. refl) (λ l. refl) (keys_of xs ps) (keys-leaves xs ps)

value-inside : (b : Bool) (ls : Label) (xs : List Bound) (ps : Trees) → any_node is_rest_declaration (left_of b (node Identifier ls done) (keys_of xs ps)) ≡ false
value-inside true ls xs ps = rw (keys_inside xs ps) refl
value-inside false ls xs ps = rw (keys_inside xs ps) refl

value-strays : (b : Bool) (ls : Label) (xs : List Bound) (ps : Trees) → any_node is_stray_rest (left_of b (node Identifier ls done) (keys_of xs ps)) ≡ false
value-strays true ls xs ps = rw (keys_placed xs ps, keys_strays xs ps) refl
value-strays false ls xs ps = rw (keys_placed xs ps, keys_strays xs ps) refl

-- the declarator of a rest
clear-left : (b : Bool) (ls : Label) (xs : List Bound) (ps : Trees) (t : Tree) → is_name t ≡ true → AreClear (declarator_with t (left_of b (node Identifier ls done) (keys_of xs ps)) before empty)
clear-left true ls xs ps (node Identifier lt done) name = record { strays = rw (value-strays true ls xs ps) refl; inside = rw (value-inside true ls xs ps) refl }
clear-left false ls xs ps (node Identifier lt done) name = record { strays = rw (value-strays false ls xs ps) refl; inside = rw (value-inside false ls xs ps) refl }
clear-left b ls xs ps (node Identifier lt (f then fs)) name = absurd (cc name)
clear-left b ls xs ps (node _ lt fs) name = absurd (cc name)

-- of a pattern whose rest stands alone nothing is left
clear-alone : (ls : Label) (t : Tree) → is_name t ≡ true → AreClear (declarator_with t (whole_value (node Identifier ls done)) before empty)
clear-alone ls (node Identifier lt done) name = record { strays = refl; inside = refl }
clear-alone ls (node Identifier lt (f then fs)) name = absurd (cc name)
clear-alone ls (node _ lt fs) name = absurd (cc name)

-- the declarator of a name, whose value holds none
clear-named : (b : Bound) (e : Tree) (us : Trees) → any_node is_rest_declaration e ≡ false → any_node is_stray_rest e ≡ false → is_misplaced e ≡ false → AreClear us → AreClear (declarator_with (identifier b) e before us)
clear-named b e us inside strays placed s = record {
  strays = or_from (is_misplaced e || (any_node is_stray_rest e || false)) (any_in_trees is_stray_rest us) (λ i. placed i || (strays i || false)) s.strays;
  inside = or_from (any_node is_rest_declaration e || false) (any_in_trees is_rest_declaration us) (λ i. inside i || false) s.inside;
}

-- PROPERTIES that hold none but in the patterns of their values

pub record AreHarmless (ps : Trees) : Type 0 where
  pub plain : are_plain ps ≡ true
  pub strays : any_in_trees is_stray_rest ps ≡ false
  pub inside : any_in_trees is_rest_declaration ps ≡ false

no-properties : AreHarmless empty
no-properties = record { plain = refl; strays = refl; inside = refl }

harmless-apart : (xs ys : Trees) → AreHarmless (joined_trees xs ys) → AreHarmless xs × AreHarmless ys
harmless-apart xs ys h =
    let plain = plain-parts xs ys h.plain in
    let strays = nodes-parts is_stray_rest xs ys h.strays in
    let inside = nodes-parts is_rest_declaration xs ys h.inside in
    (record { plain = plain.0; strays = strays.0; inside = inside.0 }, record { plain = plain.1; strays = strays.1; inside = inside.1 })

harmless-joined : (ps : Trees) (p : Tree) → AreHarmless ps → AreHarmless (p before empty) → AreHarmless (joined_trees ps (p before empty))
harmless-joined ps p h k = record {
  plain = plain-joined ps p h.plain (and_parts (is_plain_property p) true k.plain).0;
  strays = nodes-joined is_stray_rest ps (p before empty) h.strays k.strays;
  inside = nodes-joined is_rest_declaration ps (p before empty) h.inside k.inside;
}

-- a property, by its key and its value
record PropertyHarmless (l : Label) (k v : Tree) : Type 0 where
  plain : is_plain_key (has_computed PatternProperty l.flags) k ≡ true
  value-plain : is_plain_value v ≡ true
  placed : is_misplaced k ≡ false
  declarator : is_rest_declarator v ≡ false
  strays : any_node is_stray_rest k ≡ false
  value-strays : any_node is_stray_rest v ≡ false
  inside : any_node is_rest_declaration k ≡ false
  value-inside : any_node is_rest_declaration v ≡ false

property-harmless : (l : Label) (k v : Tree) → AreHarmless (property_of l k v before empty) → PropertyHarmless l k v
property-harmless l k v h =
    let plain = and_parts (is_plain_key (has_computed PatternProperty l.flags) k) (is_plain_value v) (and_parts (is_plain_property (property_of l k v)) true h.plain).0 in
    let strays = or_parts (is_misplaced k || (is_rest_declarator v || false)) (any_node is_stray_rest k || (any_node is_stray_rest v || false)) (or_parts _ false h.strays).0 in
    let placed = or_parts (is_misplaced k) (is_rest_declarator v || false) strays.0 in
    let holds = or_parts (any_node is_stray_rest k) (any_node is_stray_rest v || false) strays.1 in
    let inside = or_parts (any_node is_rest_declaration k) (any_node is_rest_declaration v || false) (or_parts _ false h.inside).0 in
    record {
      plain = plain.0;
      value-plain = plain.1;
      placed = placed.0;
      declarator = (or_parts (is_rest_declarator v) false placed.1).0;
      strays = holds.0;
      value-strays = (or_parts (any_node is_stray_rest v) false holds.1).0;
      inside = inside.0;
      value-inside = (or_parts (any_node is_rest_declaration v) false inside.1).0;
    }

harmless-of : (l : Label) (k v : Tree) → PropertyHarmless l k v → AreHarmless (property_of l k v before empty)
harmless-of l k v h = record {
  plain = λ i. (h.plain i && h.value-plain i) && true;
  strays = λ i. ((h.placed i || (h.declarator i || false)) || (h.strays i || (h.value-strays i || false))) || false;
  inside = λ i. (h.inside i || (h.value-inside i || false)) || false;
}

-- a property with a name in the place of its key, and the declarator of that name
record KeyedHarmless (x : Bound) (p : Tree) : Type 0 where
  property : AreHarmless (keyed_by x p before empty)
  declarator : (us : Trees) → AreClear us → AreClear (names_key x p before us)

name-key : (computed : Bool) (x : Bound) → is_plain_key computed (identifier x) ≡ true
name-key true x = refl
name-key false x = refl

keyed-harmless : (x : Bound) (p : Tree) → AreHarmless (p before empty) → KeyedHarmless x p
keyed-harmless x p h = let q = plain-property p (and_parts (is_plain_property p) true h.plain).0 in subst (λ (t : Tree). KeyedHarmless x t) (sym q.is) (at q.label q.key q.value (subst (λ (t : Tree). AreHarmless (t before empty)) q.is h))
  where
    at : (l : Label) (k v : Tree) → AreHarmless (property_of l k v before empty) → KeyedHarmless x (property_of l k v)
    at l k v h =
        let p = property-harmless l k v h in
        record {
          property = harmless-of l (identifier x) v (record { plain = name-key (has_computed PatternProperty l.flags) x; value-plain = p.value-plain; placed = refl; declarator = p.declarator; strays = refl; value-strays = p.value-strays; inside = refl; value-inside = p.value-inside });
          declarator = λ us s. clear-named x k us p.inside p.strays p.placed s;
        }

-- GROUPS

-- a pattern of such properties isn't odd
odd-pattern : (lp : Label) (ps : Trees) → are_plain ps ≡ true → is_odd_pattern (pattern_node lp ps) ≡ false
odd-pattern lp ps h = λ i. off (bears_rest (pattern_node lp ps)) (are_plain_members ps) (plain-members ps h) i || false
  where
    off : (b m : Bool) → m ≡ true → (b && not (b && m)) ≡ false
    off true true e = refl
    off true false e = absurd (cc e)
    off false m e = refl

clear-group : (lp ls : Label) (ps us : Trees) → AreHarmless ps → AreClear us → AreClear (group lp (node Identifier ls done) ps before us)
clear-group lp ls ps us h s =
    let declarators = plain-no-declarators ps h.plain in
    record {
      strays = λ i. ((odd-pattern lp ps h.plain i || false) || (((declarators i || false) || (h.strays i || false)) || false)) || s.strays i;
      inside = λ i. ((h.inside i || false) || false) || s.inside i;
    }

module _ (lp ls : Label) where
  abbrev it : Tree
  it = node Identifier ls done

  clear-by : (b : Bool) (xs : List Bound) (these : Trees) (p : Tree) (behind : List Bound → Trees → Trees) → AreHarmless these → AreHarmless (p before empty) → ((ys : List Bound) (qs : Trees) → AreHarmless qs → AreClear (behind ys qs)) → AreClear (groups_by b lp it xs these p behind)
  clear-by true (x ∷ xs) these p behind h own later =
      let keyed = keyed-harmless x p own in
      clear-group (made [] []) ls these (names_key x p before behind xs (keyed_by x p before empty)) h (keyed.declarator (behind xs (keyed_by x p before empty)) (later xs (keyed_by x p before empty) keyed.property))
  clear-by true [] these p behind h own later = later [] (joined_trees these (p before empty)) (harmless-joined these p h own)
  clear-by false xs these p behind h own later = later xs (joined_trees these (p before empty)) (harmless-joined these p h own)

  clear-groups : (xs : List Bound) (these ps : Trees) → AreHarmless these → AreHarmless ps → AreClear (groups lp it xs these ps)
  clear-groups xs these empty h k = clear-group lp ls these empty h clear-none
  clear-groups xs these (p before ps) h k =
      let parts = harmless-apart (p before empty) ps k in
      clear-by (reads_key p) xs these p (λ ys qs. groups lp it ys qs ps) h parts.0 (λ ys qs j. clear-groups ys qs ps j parts.1)

-- THE PARTS of a declarator

-- what is known of them
pub record PartsKnown (p e : Tree) : Type 0 where
  pub odd : is_odd_pattern p ≡ false
  pub pattern-inside : any_node is_rest_declaration p ≡ false
  pub value-inside : any_node is_rest_declaration e ≡ false
  pub pattern-strays : any_node is_stray_rest p ≡ false
  pub value-strays : any_node is_stray_rest e ≡ false
  pub value-placed : is_misplaced e ≡ false

pub known-parts : (l : Label) (p e : Tree) → AreKnown (declares_as l p e before empty) → PartsKnown p e
known-parts l p e k =
    let inside = (or_parts (any_node is_rest_declaration p || (any_node is_rest_declaration e || false)) false k.inside).0 in
    let in_both = or_parts (any_node is_rest_declaration p) (any_node is_rest_declaration e || false) inside in
    let all = (or_parts ((is_odd_pattern p || is_misplaced e) || (any_node is_stray_rest p || (any_node is_stray_rest e || false))) false k.strays).0 in
    let both = or_parts (is_odd_pattern p || is_misplaced e) (any_node is_stray_rest p || (any_node is_stray_rest e || false)) all in
    let further = or_parts (any_node is_stray_rest p) (any_node is_stray_rest e || false) both.1 in
    let own = or_parts (is_odd_pattern p) (is_misplaced e) both.0 in
    record {
      odd = own.0;
      pattern-inside = in_both.0;
      value-inside = (or_parts (any_node is_rest_declaration e) false in_both.1).0;
      pattern-strays = further.0;
      value-strays = (or_parts (any_node is_stray_rest e) false further.1).0;
      value-placed = own.1;
    }

-- the declarator of such a pattern and a name
clear-pattern : (l m : Label) (p : Tree) (us : Trees) → is_odd_pattern p ≡ false → any_node is_stray_rest p ≡ false → any_node is_rest_declaration p ≡ false → AreClear us → AreClear (declares_as l p (node Identifier m done) before us)
clear-pattern l m p us odd strays inside s = record {
  strays = λ i. ((odd i || false) || (strays i || false)) || s.strays i;
  inside = λ i. (inside i || false) || s.inside i;
}

-- the members of a pattern
members-harmless : (l lp : Label) (ps : Trees) (e : Tree) → are_plain ps ≡ true → AreKnown (declares_as l (pattern_node lp ps) e before empty) → AreHarmless ps
members-harmless l lp ps e plain k =
    let parts = known-parts l (pattern_node lp ps) e k in
    record {
      plain = plain;
      strays = (or_parts (any_in_trees is_stray_rest ps) false (or_parts (any_tree is_rest_declarator ps || false) (any_in_trees is_stray_rest ps || false) parts.pattern-strays).1).0;
      inside = (or_parts (any_in_trees is_rest_declaration ps) false parts.pattern-inside).0;
    }

-- and its properties, with a rest behind them
properties-harmless : (l lp lr : Label) (ps : Trees) (t e : Tree) → are_plain ps ≡ true → AreKnown (declares_as l (with_rest lp ps lr t) e before empty) → AreHarmless ps
properties-harmless l lp lr ps t e plain k =
    let r : Trees = node RestElement lr (one t then done) before empty in
    let parts = known-parts l (with_rest lp ps lr t) e k in
    record {
      plain = plain;
      strays = (nodes-parts is_stray_rest ps r (or_parts (any_in_trees is_stray_rest (joined_trees ps r)) false (or_parts (any_tree is_rest_declarator (joined_trees ps r) || false) (any_in_trees is_stray_rest (joined_trees ps r) || false) parts.pattern-strays).1).0).0;
      inside = (nodes-parts is_rest_declaration ps r (or_parts (any_in_trees is_rest_declaration (joined_trees ps r)) false parts.pattern-inside).0).0;
    }

-- WHAT THE ROWS LEAVE

-- of a source that is stored
pub clear-stored : (l : Label) (p e : Tree) (b : Bound) → AreKnown (declares_as l p e before empty) → AreClear (declarator_with (identifier b) e before declares_as l p (identifier b) before empty)
clear-stored l p e b k =
    let parts = known-parts l p e k in
    clear-named b e (declares_as l p (identifier b) before empty) parts.value-inside parts.value-strays parts.value-placed (clear-pattern l _ p empty parts.odd parts.pattern-strays parts.pattern-inside clear-none)

-- of a rest that is taken
pub clear-taken : (l lp lr ls : Label) (xs : List Bound) (ps : Trees) (t e : Tree) → are_plain ps ≡ true → is_name t ≡ true → AreKnown (declares_as l (with_rest lp ps lr t) e before empty) → AreClear (taken lp (node Identifier ls done) xs ps t)
clear-taken l lp lr ls xs empty t e plain name k = clear-alone ls t name
clear-taken l lp lr ls xs (p before ps) t e plain name k =
    let all : Trees = p before ps in
    let read = any_tree reads_key all in
    clear-joined (groups lp (node Identifier ls done) xs empty all) (declarator_with t (left_of read (node Identifier ls done) (keys_of xs all)) before empty) (clear-groups lp ls xs empty all no-properties (properties-harmless l lp lr all t e plain k)) (clear-left read ls xs all t name)

-- the properties behind a pattern
clear-some : (lp ls : Label) (ps : Trees) → AreHarmless ps → AreClear (declares_some lp (node Identifier ls done) ps)
clear-some lp ls empty h = clear-none
clear-some lp ls (p before ps) h = clear-group lp ls (p before ps) empty h clear-none

plain-odd : (p : Tree) → is_plain_pattern p ≡ true → is_odd_pattern p ≡ false
plain-odd (node ObjectPattern l fs) h = λ i. off (bears_rest (node ObjectPattern l fs)) (is_plain_pattern (node ObjectPattern l fs)) h i || false
  where
    off : (b c : Bool) → c ≡ true → (b && not c) ≡ false
    off true true e = refl
    off true false e = absurd (cc e)
    off false c e = refl
plain-odd (node _ l fs) h = absurd (cc h)

-- a value with a name in the place of its pattern, and that pattern
record PutClear (l : Label) (k p u : Tree) : Type 0 where
  property : AreHarmless (property_of l k u before empty)
  strays : any_node is_stray_rest p ≡ false
  inside : any_node is_rest_declaration p ≡ false
  none : bears_rest (property_of l k u) ≡ false

put-clear : (l : Label) (k p v u : Tree) (b : Bound) → PutsName (identifier b) p v u → PropertyHarmless l k v → PutClear l k p u
put-clear l k p v u b for_pattern h = record {
  property = harmless-of l k (identifier b) (record { plain = h.plain; value-plain = refl; placed = h.placed; declarator = refl; strays = h.strays; value-strays = refl; inside = h.inside; value-inside = refl });
  strays = h.value-strays;
  inside = h.value-inside;
  none = refl;
}
put-clear l k p v u b (with_default m e silent) h =
    let strays = or_parts (is_rest_declarator p || (is_misplaced e || false)) (any_node is_stray_rest p || (any_node is_stray_rest e || false)) h.value-strays in
    let placed = (or_parts (is_misplaced e) false (or_parts (is_rest_declarator p) (is_misplaced e || false) strays.0).1).0 in
    let holds = or_parts (any_node is_stray_rest p) (any_node is_stray_rest e || false) strays.1 in
    let left = (or_parts (any_node is_stray_rest e) false holds.1).0 in
    let inside = or_parts (any_node is_rest_declaration p) (any_node is_rest_declaration e || false) h.value-inside in
    let last = (or_parts (any_node is_rest_declaration e) false inside.1).0 in
    record {
      property = harmless-of l k (node AssignmentPattern m (one (identifier b) then one e then done)) (record {
        plain = h.plain;
        value-plain = refl;
        placed = h.placed;
        declarator = refl;
        strays = h.strays;
        value-strays = λ i. (placed i || false) || (left i || false);
        inside = h.inside;
        value-inside = λ i. last i || false;
      });
      strays = holds.0;
      inside = inside.0;
      none = refl;
    }

-- of a pattern in a property: the first declarator has no pattern with a rest, and none of the others is left that isn't lowered
pub record PartedClear (lp ls : Label) (ps : Trees) (q p : Tree) (b : Bound) (rs : Trees) : Type 0 where
  pub clear : AreClear (parted lp (node Identifier ls done) ps q p b rs)
  pub none : any_tree is_rest_declarator (group (made [] []) (node Identifier ls done) (joined_trees ps (q before empty)) before empty) ≡ false

bears-joined : (ps : Trees) (q : Tree) → bears_among ps ≡ false → bears_rest q ≡ false → bears_among (joined_trees ps (q before empty)) ≡ false
bears-joined empty q h e = λ i. e i || false
bears-joined (p before ps) q h e = let parts = or_parts (bears_rest p) (bears_among ps) h in or_from (bears_rest p) (bears_among (joined_trees ps (q before empty))) parts.0 (bears-joined ps q parts.1 e)

pub clear-parted : (l lp lq ls : Label) (ps rs : Trees) (k p v u e : Tree) (b : Bound) → are_plain (joined_trees ps (property_of lq k v before rs)) ≡ true → bears_among ps ≡ false → is_plain_pattern p ≡ true → PutsName (identifier b) p v u →
    AreKnown (declares_as l (pattern_node lp (joined_trees ps (property_of lq k v before rs))) e before empty) → PartedClear lp ls ps (property_of lq k u) p b rs
clear-parted l lp lq ls ps rs k p v u e b plain none bears put known =
    let all = harmless-apart ps (property_of lq k v before rs) (members-harmless l lp (joined_trees ps (property_of lq k v before rs)) e plain known) in
    let later = harmless-apart (property_of lq k v before empty) rs all.1 in
    let c = put-clear lq k p v u b put (property-harmless lq k v later.0) in
    let first = joined_trees ps (property_of lq k u before empty) in
    let harmless = harmless-joined ps (property_of lq k u) all.0 c.property in
    record {
      clear = clear-group (made [] []) ls first (declarator_with p (identifier b) before declares_some lp (node Identifier ls done) rs) harmless (clear-pattern (made [] []) _ p (declares_some lp (node Identifier ls done) rs) (plain-odd p bears) c.strays c.inside (clear-some lp ls rs later.1));
      none = λ i. (plain-kinds first harmless.plain i || bears-joined ps (property_of lq k u) none c.none i) || false;
    }
