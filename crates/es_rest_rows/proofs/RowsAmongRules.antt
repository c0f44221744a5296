-- Each row of object rests is steps of their rules: one where a source is stored or a pattern stands in a property, and where a rest is taken one for
-- each key that is read, and one.
use Rattle.std.proofs.Common.{◌≡◌, ◌∙◌, refl, sym, ap, subst, inl, inr, true≢false, List, [], ◌∷◌}
use Rattle.std.specs.Prelude.{◌⊎◌, ◌||◌, Bool, None, Option, codes, true, false, if◌then◌else◌, map, bytes_eq}
use Rattle.std.proofs.lemmas.Bool.{and_from, and_parts, or_left, or_parts}
use Rattle.es_tree.specs.Children.{child_at}
use Rattle.es_tree.specs.Fresh.{IsFreshName}
use Rattle.es_tree.specs.Names.{has_computed}
use Rattle.es_tree.specs.Tree.{Tree, node, Label, done, ◌then◌, missing, one, many, statements, Trees, empty, ◌before◌, fields_of, kind_of, label_of}
use Rattle.es_tree.specs.Words.{Text}
use Rattle.es_tree.specs.declared.ast_type.AstType.TheVariants.{Identifier, PatternProperty, RestElement}
use Rattle.es_resolution.specs.Declarations.{Bound}
use Rattle.es_semantic.specs.RolesOf.{reads}
use Rattle.es_semantic.specs.declared.place.Role.{Role}
use Rattle.es_semantic.specs.declared.place.Role.TheVariants.{Binds, Nothing}
use Rattle.es_steps.specs.Nodes.{declarator_with, identifier, joined_trees, made, string_node}
use Rattle.es_steps.specs.ObjectRest.IsKey.{name_key, text_key}
use Rattle.es_steps.specs.ObjectRest.RestOf.{alone, beside, mapped}
use Rattle.es_steps.specs.ObjectRest.SplitRule.{splits}
use Rattle.es_steps.specs.ObjectRest.SplitsOff.{key, nested as splits_nested, nested_default, source}
use Rattle.es_steps.specs.ObjectRest.TakesRest.{takes_rest}
use Rattle.es_steps.specs.ObjectRest.{AreKeys, Declares, IsKey, RestOf, SplitsOff, and_declarator, declares_as, declares_some, kind_of_declaration, left_of, mapped_value, pattern_node, rest_value, whole_value}
use Rattle.es_steps.specs.Open.{Additions, Pending}
use Rattle.es_steps.specs.Rules.{next_name, with_made}
use Rattle.es_steps.specs.Steps.{Ledger, Site, Spot, Steps, Whole, ledger}
use Rattle.es_steps.specs.Steps.Spot.{at_node}
use Rattle.es_steps.specs.Steps.Steps.{goes, stays}
use Rattle.es_steps.proofs.Lists.{joined-empty}
use Rattle.es_steps.proofs.Written.{joined-twice}
use Rattle.es_valid_rests.specs.RestRules.{OutsidePart, all_declare, is_binding, is_binding_kind}
use Rattle.es_rest_rows.specs.Laws.{AtNode, LawRestRows}
use Rattle.es_rest_rows.specs.RestParts.{PartsWhere}
use Rattle.es_rest_rows.specs.RestRows.NamesKeys.{knows, no_properties, reads_one}
use Rattle.es_rest_rows.specs.RestRows.PutsName.{for_pattern, with_default}
use Rattle.es_rest_rows.specs.RestRows.RowsWhere.{nested, stores, takes}
use Rattle.es_rest_rows.specs.RestRows.{NamesKeys, PutsName, RowsWhere, declaring, group, groups, groups_by, is_exported, keyed_by, keys_by, keys_of, names_key, parted, property_of, taken, text_of_key, with_rest}
use Rattle.es_rest_rows.proofs.PlainPatterns.{plain-binds, plain-holds}
use Rattle.es_tree.specs.PropertyKeys.{is_read_key, key_text}
use Rattle.es_rest_shapes.specs.RestShapes.{any_tree, is_name, is_plain_pattern, reads_key}

-- the groups of a property and those behind it, and the keys, where it is told whether its key is read
abbrev groups_from : Bool → Label → Tree → List Bound → Trees → Tree → Trees → Trees
groups_from v lp s xs b p ps = groups_by v lp s xs b p (λ ys these. groups lp s ys these ps)

abbrev keys_from : Bool → List Bound → Tree → Trees → List Tree
keys_from v xs p ps = keys_by v xs p (λ ys. keys_of ys ps)

-- WHAT IS LEFT declares names and patterns

name-binds : (t : Tree) → is_name t ≡ true → is_binding_kind (kind_of t) ≡ true
name-binds (node Identifier l fs) e = refl
name-binds (node _ l fs) e = absurd (true≢false (sym e))

joined-declare : (a c d : Trees) → (all_declare c ≡ true → all_declare d ≡ true) → all_declare (joined_trees a c) ≡ true → all_declare (joined_trees a d) ≡ true
joined-declare empty c d f e = f e
joined-declare (t before a) c d f e =
    let h = and_parts _ (all_declare (joined_trees a c)) e in
    and_from _ (all_declare (joined_trees a d)) h.0 (joined-declare a c d f h.1)

names-declare : (x : Bound) (p : Tree) → is_binding (child_at 0 (fields_of (names_key x p))) ≡ true
names-declare x (node k l done) = refl
names-declare x (node k l (missing then fs)) = refl
names-declare x (node k l (one e then fs)) = refl
names-declare x (node k l (many ts then fs)) = refl
names-declare x (node k l (statements ts then fs)) = refl

module _ (lp : Label) (s : Tree) (c : Trees) (h : all_declare c ≡ true) where
  first-declares : (v : Bool) (xs : List Bound) (b : Trees) (p : Tree) (behind : List Bound → Trees → Trees) → ((ys : List Bound) (d : Trees) → all_declare (joined_trees (behind ys d) c) ≡ true) → all_declare (joined_trees (groups_by v lp s xs b p behind) c) ≡ true
  first-declares true (x ∷ xs) b p behind later = and_from (is_binding (child_at 0 (fields_of (names_key x p)))) (all_declare (joined_trees (behind xs (keyed_by x p before empty)) c)) (names-declare x p) (later xs (keyed_by x p before empty))
  first-declares true [] b p behind later = later [] (joined_trees b (p before empty))
  first-declares false xs b p behind later = later xs (joined_trees b (p before empty))

  groups-declare : (xs : List Bound) (b ps : Trees) → all_declare (joined_trees (groups lp s xs b ps) c) ≡ true
  groups-declare xs b empty = h
  groups-declare xs b (p before ps) = first-declares (reads_key p) xs b p (λ ys d. groups lp s ys d ps) (λ ys d. groups-declare ys d ps)

and-declares : (fs : Trees) (t e : Tree) (c : Trees) → is_name t ≡ true → ((d : Trees) → all_declare d ≡ true → all_declare (joined_trees fs d) ≡ true) → all_declare c ≡ true → all_declare (joined_trees (and_declarator fs t e) c) ≡ true
and-declares fs t e c name f h = subst (λ (ds : Trees). all_declare ds ≡ true) (sym (joined-twice fs (declarator_with t e before empty) c)) (f (declarator_with t e before c) (and_from (is_binding_kind (kind_of t)) (all_declare c) (name-binds t name) h))

taken-declare : (lp : Label) (s : Tree) (xs : List Bound) (ps : Trees) (t : Tree) (c : Trees) → is_name t ≡ true → all_declare c ≡ true → all_declare (joined_trees (taken lp s xs ps t) c) ≡ true
taken-declare lp s xs empty t c name h = and-declares empty t (whole_value s) c name (λ d k. k) h
taken-declare lp s xs (p before ps) t c name h = and-declares (groups lp s xs empty (p before ps)) t (left_of (any_tree reads_key (p before ps)) s (keys_of xs (p before ps))) c name (λ d k. groups-declare lp s d k xs empty (p before ps)) h

rest-declare : (l lp lr : Label) (a ps c : Trees) (t s : Tree) (xs : List Bound) → is_name t ≡ true → all_declare (joined_trees a (declares_as l (with_rest lp ps lr t) s before c)) ≡ true → all_declare (joined_trees a (joined_trees (taken lp s xs ps t) c)) ≡ true
rest-declare l lp lr a ps c t s xs name bind = joined-declare a (declares_as l (with_rest lp ps lr t) s before c) (joined_trees (taken lp s xs ps t) c) (taken-declare lp s xs ps t c name) bind

-- A PATTERN IN A PROPERTY leaves that pattern, and those of the properties around it

some-declare : (lp : Label) (s : Tree) (rs c : Trees) → all_declare c ≡ true → all_declare (joined_trees (declares_some lp s rs) c) ≡ true
some-declare lp s empty c h = h
some-declare lp s (r before rs) c h = h

parted-declare : (lp : Label) (s : Tree) (ps : Trees) (u p : Tree) (x : Bound) (rs c : Trees) → is_plain_pattern p ≡ true → all_declare c ≡ true → all_declare (joined_trees (parted lp s ps u p x rs) c) ≡ true
parted-declare lp s ps u p x rs c plain h = and_from (is_binding_kind (kind_of p)) (all_declare (joined_trees (declares_some lp s rs) c)) (plain-binds p plain) (some-declare lp s rs c h)

-- it is one part
splits-parted : {w : Whole} {x : Text} (r : Role) (l lp lq ls : Label) (ps rs : Trees) (k p v u : Tree) → is_plain_pattern p ≡ true → IsFreshName w.in_use (codes "ref") x → PutsName (identifier (next_name w x)) p v u →
    SplitsOff w r x (declares_as l (pattern_node lp (joined_trees ps (property_of lq k v before rs))) (node Identifier ls done)) (parted lp (node Identifier ls done) ps (property_of lq k u) p (next_name w x) rs)
splits-parted r l lp lq ls ps rs k p v u plain fresh for_pattern = splits_nested l lp lq ls ps rs (one k) p (plain-holds p plain) fresh
splits-parted r l lp lq ls ps rs k p v u plain fresh (with_default la e silent) = nested_default l lp lq la ls ps rs (one k) p e (plain-holds p plain) fresh silent

-- THE KEYS: no key is read, and all are texts

abbrev text_in : Tree → Text
text_in (node k l (one e then fs)) = key_text e
text_in t = []

abbrev texts_in : Trees → List Text
texts_in empty = []
texts_in (p before ps) = text_in p ∷ texts_in ps

text-same : (p : Tree) → text_of_key p ≡ string_node (text_in p)
text-same (node k l done) = refl
text-same (node k l (missing then fs)) = refl
text-same (node k l (one e then fs)) = refl
text-same (node k l (many ts then fs)) = refl
text-same (node k l (statements ts then fs)) = refl

-- or some are names that stand in the groups

read-computed : (c : Bool) (k : Tree) → is_read_key c k ≡ true → c ≡ true
read-computed true k e = refl
read-computed false k e = e

used-later : {w w' : Whole} {ps : Trees} {xs : List Bound} (y : Text) → NamesKeys w ps xs w' → w.in_use y ≡ true → w'.in_use y ≡ true
used-later y no_properties used = used
used-later y (knows e names) used = used-later y names used
used-later y (reads_one {w = w} x e silent fresh names) used = used-later y names (or_left (w.in_use y) (bytes_eq x y) used)

module _ (lp : Label) (s : Tree) where
  -- where none is read there is one group
  record NoneRead (w w' : Whole) (xs : List Bound) (b ps : Trees) : Type 0 where
    whole : w' ≡ w
    front : groups lp s xs b ps ≡ group lp s (joined_trees b ps) before empty
    keys : keys_of xs ps ≡ map string_node (texts_in ps)

  none-read : {w w' : Whole} {ps : Trees} {xs : List Bound} → NamesKeys w ps xs w' → (b : Trees) → any_tree reads_key ps ≡ false → NoneRead w w' xs b ps
  none-read no_properties b none = record { whole = refl; front = ap (λ (ps : Trees). group lp s ps before empty) (sym (joined-empty b)); keys = refl }
  none-read (knows {p = p} {ps = ps} {xs = xs} e names) b none =
      let r = none-read names (joined_trees b (p before empty)) (or_parts (reads_key p) (any_tree reads_key ps) none).1 in
      record {
        whole = r.whole;
        front = ap (λ (v : Bool). groups_from v lp s xs b p ps) e ∙ (r.front ∙ ap (λ (qs : Trees). group lp s qs before empty) (joined-twice b (p before empty) ps));
        keys = ap (λ (v : Bool). keys_from v xs p ps) e ∙ (ap (λ (k : Tree). k ∷ keys_of xs ps) (text-same p) ∙ ap (λ (ks : List Tree). string_node (text_in p) ∷ ks) r.keys);
      }
  none-read (reads_one {l = l} {k = k} {v = v} {ps = ps} x e silent fresh names) b none =
      absurd (true≢false (sym e ∙ (or_parts (reads_key (node PatternProperty l (one k then one v then done))) (any_tree reads_key ps) none).0))

-- WITH THE REST, which goes along in the last group

module _ (lp lr ls : Label) (t : Tree) where
  abbrev it : Tree
  it = node Identifier ls done

  abbrev rest : Trees
  rest = node RestElement lr (one t then done) before empty

  -- the last of these groups, without the rest and with it
  record Last (plain rested : Trees) : Type 0 where
    front : Trees
    members : Trees
    without : plain ≡ joined_trees front (group lp it members before empty)
    with_it : rested ≡ joined_trees front (group lp it (joined_trees members rest) before empty)

  last-by : (v : Bool) (xs : List Bound) (b : Trees) (p : Tree) (behind with_it : List Bound → Trees → Trees) → ((ys : List Bound) (d : Trees) → Last (behind ys d) (with_it ys d)) → Last (groups_by v lp it xs b p behind) (groups_by v lp it xs b p with_it)
  last-by true (x ∷ xs) b p behind with_it later =
      let r = later xs (keyed_by x p before empty) in
      record {
        front = group (made [] []) it b before names_key x p before r.front;
        members = r.members;
        without = ap (λ (ds : Trees). group (made [] []) it b before names_key x p before ds) r.without;
        with_it = ap (λ (ds : Trees). group (made [] []) it b before names_key x p before ds) r.with_it;
      }
  last-by true [] b p behind with_it later = later [] (joined_trees b (p before empty))
  last-by false xs b p behind with_it later = later xs (joined_trees b (p before empty))

  last-group : (xs : List Bound) (b ps : Trees) → Last (groups lp it xs b ps) (groups lp it xs b (joined_trees ps rest))
  last-group xs b empty = record { front = empty; members = b; without = refl; with_it = refl }
  last-group xs b (p before ps) = last-by (reads_key p) xs b p (λ ys d. groups lp it ys d ps) (λ ys d. groups lp it ys d (joined_trees ps rest)) (λ ys d. last-group ys d ps)

  -- the first of them has those that stand before
  record First (b ds : Trees) : Type 0 where
    label : Label
    more : Trees
    behind : Trees
    so : ds ≡ joined_trees (group label it (joined_trees b more) before empty) behind

  first-more : (b : Trees) (p : Tree) (ds : Trees) → First (joined_trees b (p before empty)) ds → First b ds
  first-more b p ds r = record { label = r.label; more = p before r.more; behind = r.behind; so = r.so ∙ ap (λ (qs : Trees). group r.label it qs before r.behind) (joined-twice b (p before empty) r.more) }

  first-by : (v : Bool) (xs : List Bound) (b : Trees) (p : Tree) (behind : List Bound → Trees → Trees) → ((ys : List Bound) (d : Trees) → First d (behind ys d)) → First b (groups_by v lp it xs b p behind)
  first-by true (x ∷ xs) b p behind later =
      let behind_it : Trees = names_key x p before behind xs (keyed_by x p before empty) in
      record { label = made [] []; more = empty; behind = behind_it; so = ap (λ (qs : Trees). group (made [] []) it qs before behind_it) (sym (joined-empty b)) }
  first-by true [] b p behind later = first-more b p (behind [] (joined_trees b (p before empty))) (later [] (joined_trees b (p before empty)))
  first-by false xs b p behind later = first-more b p (behind xs (joined_trees b (p before empty))) (later xs (joined_trees b (p before empty)))

  first-group : (xs : List Bound) (b ps : Trees) → First b (groups lp it xs b ps)
  first-group xs b empty = record { label = lp; more = empty; behind = empty; so = ap (λ (ps : Trees). group lp it ps before empty) (sym (joined-empty b)) }
  first-group xs b (p before ps) = first-by (reads_key p) xs b p (λ ys d. groups lp it ys d ps) (λ ys d. first-group ys d ps)

  text-key : (ds : Trees) (p : Tree) → IsKey ds (text_of_key p)
  text-key ds p = subst (λ (k : Tree). IsKey ds k) (sym (text-same p)) (text_key (text_in p))

  -- a name in the place of a key that is read stands in the group that it begins
  name-stands : (a : Trees) (l : Label) (v : Tree) (x : Bound) (ds : Trees) → has_computed PatternProperty l.flags ≡ true → First (node PatternProperty l (one (identifier x) then one v then done) before empty) ds → IsKey (joined_trees a ds) (identifier x)
  name-stands a l v x ds computed r = name_key (made [] []) r.label l (label_of (identifier x)) a r.behind empty r.more v it (ap (λ (es : Trees). joined_trees a es) r.so) computed

  keys-stand : {w w' : Whole} {ps : Trees} {xs : List Bound} → NamesKeys w ps xs w' → (a b : Trees) → AreKeys (joined_trees a (groups lp it xs b (joined_trees ps rest))) (keys_of xs ps)
  keys-stand no_properties a b = tt
  keys-stand (knows {p = p} {ps = ps} {xs = xs} e names) a b =
      let ds = joined_trees a (groups lp it xs (joined_trees b (p before empty)) (joined_trees ps rest)) in
      subst (λ (v : Bool). AreKeys (joined_trees a (groups_from v lp it xs b p (joined_trees ps rest))) (keys_from v xs p ps)) (sym e) (text-key ds p, keys-stand names a (joined_trees b (p before empty)))
  keys-stand (reads_one {w = w} {l = l} {k = k} {v = v} {ps = ps} {xs = xs} x e silent fresh names) a b =
      let n = next_name w x in
      let p : Tree = node PatternProperty l (one k then one v then done) in
      let q : Tree = node PatternProperty l (one (identifier n) then one v then done) in
      let front : Trees = group (made [] []) it b before names_key n p before empty in
      let behind = groups lp it xs (q before empty) (joined_trees ps rest) in
      let same = joined-twice a front behind in
      let stands = name-stands (joined_trees a front) l v n behind (read-computed (has_computed PatternProperty l.flags) k e) (first-group xs (q before empty) (joined_trees ps rest)) in
      subst (λ (c : Bool). AreKeys (joined_trees a (groups_from c lp it (n ∷ xs) b p (joined_trees ps rest))) (keys_from c (n ∷ xs) p ps)) (sym e)
      (subst (λ (ds : Trees). IsKey ds (identifier n)) same stands, subst (λ (ds : Trees). AreKeys ds (keys_of xs ps)) same (keys-stand names (joined_trees a front) (q before empty)))

-- THE STEPS of a row, by a rule that holds wherever the parts do

module _ (asked : Site → Type 0) (Q : Site → Ledger → Spot → Ledger → Spot → Type 0) (among : (n : Site) (s : Ledger) (x : Spot) (s' : Ledger) (y : Spot) → PartsWhere asked n s x s' y → Q n s x s' y) where
  module _ (n : Site) (m lp lr ls : Label) (t : Tree) (c : Trees) (q : Pending) (z : Option Bound) (y : Additions) (out : is_exported n ≡ false) where
    -- steps from these declarators
    abbrev From : Whole → Trees → Ledger → Tree → Type 0
    From w ds s' u = Steps (AtNode Q n) (ledger w q z y) (declaring m ds) s' u

    -- the declarator of a pattern with these members
    abbrev with_members : Label → Trees → Tree
    with_members l ps = declares_as l (pattern_node lp ps) (node Identifier ls done)

    abbrev groups_with : List Bound → Trees → Trees → Trees
    groups_with xs b ps = groups lp (node Identifier ls done) xs b (joined_trees ps (rest lp lr ls t))

    -- one for each key that is read; where none is, the declarator has no place already
    keys-split : Declares (kind_of_declaration m) → {w w' : Whole} {ps : Trees} {xs : List Bound} {s' : Ledger} {u : Tree} → NamesKeys w ps xs w' → (l : Label) (a b : Trees) → (l ≡ made [] []) ⊎ (any_tree reads_key ps ≡ true) → all_declare (joined_trees a (with_members l (joined_trees b (joined_trees ps (rest lp lr ls t))) before c)) ≡ true →
        From w' (joined_trees a (joined_trees (groups_with xs b ps) c)) s' u → From w (joined_trees a (with_members l (joined_trees b (joined_trees ps (rest lp lr ls t))) before c)) s' u
    keys-split kind {w = w} {s' = s'} {u = u} no_properties l a b (inl e) declares next = subst (λ (j : Label). From w (joined_trees a (with_members j (joined_trees b (rest lp lr ls t)) before c)) s' u) (sym e) next
    keys-split kind no_properties l a b (inr e) declares next = absurd (true≢false (sym e))
    keys-split kind {w = w} {w' = w'} {s' = s'} {u = u} (knows {p = p} {ps = ps} {xs = xs} e names) l a b some declares next =
        let more = joined_trees b (p before empty) in
        let same = joined-twice b (p before empty) (joined_trees ps (rest lp lr ls t)) in
        let list = λ (qs : Trees). joined_trees a (with_members l qs before c) in
        subst (λ (qs : Trees). From w (list qs) s' u) same
        (keys-split kind names l a more (still-some some) (subst (λ (qs : Trees). all_declare (list qs) ≡ true) (sym same) declares)
        (subst (λ (v : Bool). From w' (joined_trees a (joined_trees (groups_from v lp (node Identifier ls done) xs b p (joined_trees ps (rest lp lr ls t))) c)) s' u) e next))
      where
        still-some : (l ≡ made [] []) ⊎ ((reads_key p || any_tree reads_key ps) ≡ true) → (l ≡ made [] []) ⊎ (any_tree reads_key ps ≡ true)
        still-some (inl d) = inl d
        still-some (inr d) = inr (subst (λ (v : Bool). (v || any_tree reads_key ps) ≡ true) e d)
    keys-split kind {w = w} {w' = w'} {s' = s'} {u = u} (reads_one {l = lq} {k = k} {v = v} {ps = ps} {xs = xs} x e silent fresh names) l a b some declares next =
        let it : Tree = node Identifier ls done in
        let b' = next_name w x in
        let p : Tree = node PatternProperty lq (one k then one v then done) in
        let p' : Tree = node PatternProperty lq (one (identifier b') then one v then done) in
        let behind = joined_trees ps (rest lp lr ls t) in
        let d = with_members l (joined_trees b (p before behind)) in
        let front : Trees = group (made [] []) it b before declarator_with (identifier b') k before empty in
        let last = with_members (made [] []) (p' before behind) in
        let es : Trees = group (made [] []) it b before declarator_with (identifier b') k before last before empty in
        let role = ap (λ (v : Bool). if v then reads else Nothing) (read-computed (has_computed PatternProperty lq.flags) k e) in
        let still = joined-declare a (d before c) (joined_trees es c) (λ h. h) declares in
        let step = among n (ledger w q z y) (at_node (declaring m (joined_trees a (d before c)))) (ledger (with_made (b' ∷ []) w) q z y) (at_node (declaring m (joined_trees a (joined_trees es c)))) (inl ((splits m a c d es x fresh.free kind (key l lp lq ls b behind k v fresh role silent), still), out)) in
        let here = joined-twice a front (last before c) in
        goes step
        (subst (λ (ds : Trees). From (with_made (b' ∷ []) w) ds s' u) here
        (keys-split kind names (made [] []) (joined_trees a front) (p' before empty) (inl refl) (subst (λ (ds : Trees). all_declare ds ≡ true) (sym here) still)
        (subst (λ (ds : Trees). From w' ds s' u) (sym (joined-twice a front (joined_trees (groups_with xs (p' before empty) ps) c)))
        (subst (λ (v : Bool). From w' (joined_trees a (joined_trees (groups_from v lp it (b' ∷ xs) b p behind) c)) s' u) e next))))

    -- and one for the rest
    rest-step : {w : Whole} {fs : Trees} {e : Tree} (l : Label) (a ps : Trees) → asked n → w.in_use (codes "babelHelpers") ≡ true → RestOf (joined_trees a (with_members l (joined_trees ps (rest lp lr ls t)) before empty)) lp (node Identifier ls done) ps fs e →
        all_declare (joined_trees a (joined_trees (and_declarator fs t e) c)) ≡ true → From w (joined_trees a (with_members l (joined_trees ps (rest lp lr ls t)) before c)) (ledger w q z y) (declaring m (joined_trees a (joined_trees (and_declarator fs t e) c)))
    rest-step {w = w} l a ps asks used it declares = goes (among n _ _ _ _ (inr (asks, (takes_rest m l lp lr ls a ps c t it refl used, declares)))) stays

    -- where some key is read
    mapped-step : {w w₀ : Whole} {ps : Trees} {xs : List Bound} (a : Trees) → NamesKeys w₀ ps xs w → asked n → w.in_use (codes "babelHelpers") ≡ true → all_declare (joined_trees a (joined_trees (and_declarator (groups lp (node Identifier ls done) xs empty ps) t (mapped_value (node Identifier ls done) (keys_of xs ps))) c)) ≡ true →
        From w (joined_trees a (joined_trees (groups_with xs empty ps) c)) (ledger w q z y) (declaring m (joined_trees a (joined_trees (and_declarator (groups lp (node Identifier ls done) xs empty ps) t (mapped_value (node Identifier ls done) (keys_of xs ps))) c)))
    mapped-step {w = w} {ps = ps} {xs = xs} a names asks used declares =
        let it : Tree = node Identifier ls done in
        let e = mapped_value it (keys_of xs ps) in
        let g = last-group lp lr ls t xs empty ps in
        let plain : Trees = group lp it g.members before empty in
        let with_it : Tree = with_members (made [] []) (joined_trees g.members (rest lp lr ls t)) in
        let before_it = joined_trees a g.front in
        let start : joined_trees a (joined_trees (groups_with xs empty ps) c) ≡ joined_trees before_it (with_it before c) =
        ap (λ (ds : Trees). joined_trees a (joined_trees ds c)) g.with_it ∙ (ap (λ (ds : Trees). joined_trees a ds) (joined-twice g.front (with_it before empty) c) ∙ sym (joined-twice a g.front (with_it before c))) in
        let end : joined_trees a (joined_trees (and_declarator (groups lp it xs empty ps) t e) c) ≡ joined_trees before_it (joined_trees (and_declarator plain t e) c) =
        ap (λ (ds : Trees). joined_trees a (joined_trees (and_declarator ds t e) c)) g.without
        ∙ (ap (λ (ds : Trees). joined_trees a (joined_trees ds c)) (joined-twice g.front plain (declarator_with t e before empty))
        ∙ (ap (λ (ds : Trees). joined_trees a ds) (joined-twice g.front (and_declarator plain t e) c) ∙ sym (joined-twice a g.front (joined_trees (and_declarator plain t e) c)))) in
        let keys = subst (λ (ds : Trees). AreKeys ds (keys_of xs ps)) (ap (λ (ds : Trees). joined_trees a ds) g.with_it ∙ sym (joined-twice a g.front (with_it before empty))) (keys-stand lp lr ls t names a empty) in
        let step = rest-step (made [] []) before_it g.members asks used (mapped (keys_of xs ps) keys) (subst (λ (ds : Trees). all_declare ds ≡ true) end declares) in
        subst (λ (ds : Trees). From w ds (ledger w q z y) (declaring m (joined_trees a (joined_trees (and_declarator (groups lp it xs empty ps) t e) c)))) (sym start)
        (subst (λ (ds : Trees). From w (joined_trees before_it (with_it before c)) (ledger w q z y) (declaring m ds)) (sym end) step)

    rest-steps : {w w' : Whole} {ps : Trees} {xs : List Bound} (l : Label) (a : Trees) → Declares (kind_of_declaration m) → NamesKeys w ps xs w' → is_name t ≡ true → all_declare (joined_trees a (declares_as l (with_rest lp ps lr t) (node Identifier ls done) before c)) ≡ true → asked n → w.in_use (codes "babelHelpers") ≡ true →
        From w (joined_trees a (declares_as l (with_rest lp ps lr t) (node Identifier ls done) before c)) (ledger w' q z y) (declaring m (joined_trees a (joined_trees (taken lp (node Identifier ls done) xs ps t) c)))
    rest-steps {ps = empty} {xs = []} l a kind no_properties name declares asks used = rest-step l a empty asks used alone (rest-declare l lp lr a empty c t (node Identifier ls done) [] name declares)
    rest-steps {w = w} {w' = w'} {ps = empty} {xs = x ∷ xs} l a kind names name declares asks used = elim names [ ]
    rest-steps {w = w} {w' = w'} {ps = p before ps} {xs = xs} l a kind names name declares asks used = at (any_tree reads_key (p before ps)) refl
      where
        it : Tree
        it = node Identifier ls done

        left : Bool → Trees
        left v = joined_trees a (joined_trees (and_declarator (groups lp it xs empty (p before ps)) t (left_of v it (keys_of xs (p before ps)))) c)

        binds : all_declare (left (any_tree reads_key (p before ps))) ≡ true
        binds = rest-declare l lp lr a (p before ps) c t it xs name declares

        at : (v : Bool) → any_tree reads_key (p before ps) ≡ v → From w (joined_trees a (declares_as l (with_rest lp (p before ps) lr t) it before c)) (ledger w' q z y) (declaring m (left (any_tree reads_key (p before ps))))
        at true e = subst (λ (v : Bool). From w (joined_trees a (declares_as l (with_rest lp (p before ps) lr t) it before c)) (ledger w' q z y) (declaring m (left v))) (sym e)
            (keys-split kind names l a empty (inr e) declares (mapped-step a names asks (used-later (codes "babelHelpers") names used) (subst (λ (v : Bool). all_declare (left v) ≡ true) e binds)))
        at false e =
            let r = none-read lp it names empty e in
            let value : left_of false it (keys_of xs (p before ps)) ≡ rest_value it (texts_in (p before ps)) = ap (λ (ks : List Tree). left_of false it ks) r.keys in
            let end : left (any_tree reads_key (p before ps)) ≡ joined_trees a (joined_trees (and_declarator (group lp it (p before ps) before empty) t (rest_value it (texts_in (p before ps)))) c) =
            ap left e ∙ (ap (λ (ds : Trees). joined_trees a (joined_trees (and_declarator ds t (left_of false it (keys_of xs (p before ps)))) c)) r.front ∙ ap (λ (v : Tree). joined_trees a (joined_trees (and_declarator (group lp it (p before ps) before empty) t v) c)) value) in
            subst (λ (v : Whole). From w (joined_trees a (declares_as l (with_rest lp (p before ps) lr t) it before c)) (ledger v q z y) (declaring m (left (any_tree reads_key (p before ps))))) (sym r.whole)
            (subst (λ (ds : Trees). From w (joined_trees a (declares_as l (with_rest lp (p before ps) lr t) it before c)) (ledger w q z y) (declaring m ds)) (sym end)
            (rest-step l a (p before ps) asks used (beside (texts_in (p before ps))) (subst (λ (ds : Trees). all_declare ds ≡ true) end binds)))

  row-steps : (n : Site) (s s' : Ledger) (t u : Tree) → AtNode (RowsWhere asked) n s t s' u → Steps (AtNode Q n) s t s' u
  row-steps n s s' t u (stores {w = w} m l a c p e x out kind plain binds kept silent fresh) =
      let d = declares_as l p e in
      let es : Trees = declarator_with (identifier (next_name w x)) e before declares_as l p (identifier (next_name w x)) before empty in
      goes (among n s (at_node t) s' (at_node u) (inl ((splits m a c d es x fresh.free kind (source l p e (plain-holds p plain) fresh silent), joined-declare a (d before c) (joined_trees es c) (λ h. h) binds), out))) stays
  row-steps n s s' t u (takes {q = q} {z = z} {y = y} m l lp lr ls a ps c v xs out kind plain name binds kept names asks used) = rest-steps n m lp lr ls v c q z y out l a kind names name binds asks used
  row-steps n s s' t u (nested {w = w} m l lp lq ls a ps rs c k p v e x out kind members bears plain puts binds kept fresh) =
      let it : Tree = node Identifier ls done in
      let d = declares_as l (pattern_node lp (joined_trees ps (property_of lq k v before rs))) it in
      let es = parted lp it ps (property_of lq k e) p (next_name w x) rs in
      let part = splits-parted (Binds (kind_of_declaration m)) l lp lq ls ps rs k p v e plain fresh puts in
      goes (among n s (at_node t) s' (at_node u) (inl ((splits m a c d es x fresh.free kind part, joined-declare a (d before c) (joined_trees es c) (parted-declare lp it ps (property_of lq k e) p (next_name w x) rs c plain) binds), out))) stays

-- by the parts
pub row-parts : (asked : Site → Type 0) (n : Site) (s s' : Ledger) (t u : Tree) → AtNode (RowsWhere asked) n s t s' u → Steps (AtNode (PartsWhere asked) n) s t s' u
row-parts asked = row-steps asked (PartsWhere asked) (λ n s x s' y r. r)

-- and, where `babelHelpers` is bound nowhere around, by the rules of object rests
pub parts-outside : (n : Site) (s : Ledger) (x : Spot) (s' : Ledger) (y : Spot) → PartsWhere (λ n. n.names.scope (codes "babelHelpers") ≡ None) n s x s' y → OutsidePart n s x s' y
parts-outside n s x s' y (inl r) = inl r
parts-outside n s x s' y (inr (unbound, (takes_rest m l lp lr ls a ps c t it here used, binds))) = inr (inl (takes_rest m l lp lr ls a ps c t it unbound used, binds))

pub law_rest_rows_proof : LawRestRows
law_rest_rows_proof n s s' t u r = row-steps (λ n. n.names.scope (codes "babelHelpers") ≡ None) OutsidePart parts-outside n s s' t u r
