-- A pattern in a property is declared with what that property gives: what the row declares more, and where it stands, a row of the machine.
use Rattle.std.proofs.Common.{◌≡◌, ℕ, refl, sym, ap, subst, ◌∙◌, List, [], ◌∷◌, ◌++◌}
use Rattle.std.proofs.lemmas.Bool.{and_from, and_parts}
use Rattle.std.proofs.lemmas.List.{append_assoc}
use Rattle.std.proofs.lemmas.Slice.Eq.{bytes_eq-Decides}
use Rattle.std.specs.Prelude.{Bool, true, false, not, ◌&&◌, ◌||◌, Option, Some, codes}
use Rattle.es_tree.specs.BoundNames.{bound_identifiers, bound_in_trees}
use Rattle.es_tree.specs.Names.{first_text}
use Rattle.es_tree.specs.Scopes.{Declared, declares}
use Rattle.es_tree.specs.StaticRules.{binds_name, has_pattern}
use Rattle.es_tree.specs.Tree.{Tree, Label, done, ◌then◌, many, Trees, empty, ◌before◌}
use Rattle.es_tree.specs.Walks.{all_in_trees}
use Rattle.es_tree.specs.Words.{Text}
use Rattle.es_tree.specs.declared.ast_type.AstType.TheVariants.{VariableDeclaration}
use Rattle.es_runs.specs.Alike.{SameWorld}
use Rattle.es_runs.specs.Core.{World}
use Rattle.es_runs.specs.Runs.{none_hidden, only, program}
use Rattle.es_semantic.specs.RolesOf.{binding_of}
use Rattle.es_semantic.specs.declared.place.Role.TheVariants.{Binds}
use Rattle.es_steps.specs.Nodes.{declarator_with, identifier, joined_trees, made}
use Rattle.es_steps.specs.ObjectRest.{declares_as, declares_some, pattern_node}
use Rattle.es_steps.specs.Steps.{Ledger, Site, Whole}
use Rattle.es_steps.specs.Steps.Spot.{at_node}
use Rattle.es_steps.proofs.Taken.{whole_in}
use Rattle.es_rest_shapes.specs.RestShapes.{are_plain, is_plain_property}
use Rattle.es_rest_rows.specs.RestRows.{PutsName, RestRow, declaring, is_kept, parted, property_of}
use Rattle.es_rest_rows.specs.RestRows.PutsName.{for_pattern, with_default}
use Rattle.es_rest_rows.specs.RestRows.RowsWhere.{nested, stores, takes}
use Rattle.es_statement_runs.specs.Alike.{SenseLike}
use Rattle.es_statement_runs.specs.Helpers.{Supply, silent_names}
use Rattle.es_statement_runs.specs.Kinds.{sense}
use Rattle.es_statement_runs.specs.Laws.{among_names, any_cells, declaration_of, declares_from, followed, is_silent, object_pattern_at}
use Rattle.es_statement_runs.specs.Names.{declared_as, declarators_names, is_word}
use Rattle.es_statement_runs.specs.Places.{Take, avoids, avoids_trees, placed_at, target_taken, value_taken}
use Rattle.es_statement_runs.specs.Scopes.{is_own_cell}
use Rattle.es_statement_steps.proofs.FreshNames.{unused_avoids_all}
use Rattle.es_statement_steps.proofs.MadeNames.{fresh_made}
use Rattle.es_statement_steps.proofs.SameSenses.{AllSame, SameSense}
use Rattle.es_statement_steps.proofs.Stands.{standing, stands}
use Rattle.es_split_runs.specs.Growing.{NamesMore}
use Rattle.es_split_runs.specs.Growing.NamesMore.{one_more}
use Rattle.es_split_runs.specs.Laws.{Behind, FreshNames, Properties, ReadAgain, WithName, bad_fresh, bad_held, declarators_taken, marked, property_at}
use Rattle.es_split_runs.specs.Laws.Behind.{none_behind, some_behind}
use Rattle.es_split_runs.specs.Laws.NestedRow.{nested_row}
use Rattle.es_split_runs.specs.Laws.Properties.{no_property, one_property}
use Rattle.es_split_runs.specs.Laws.WithName.{pattern_alone, with_default as default_put}
use Rattle.es_split_runs.proofs.GrownScopes.{same_names}
use Rattle.es_split_runs.proofs.KnownNames.{Known as NamesKnown}
use Rattle.es_split_runs.proofs.Nested.{nested_like}
use Rattle.es_rest_runs.specs.Growth.{Grows}
use Rattle.es_rest_runs.specs.Growth.Grows.{grows}
use Rattle.es_rest_runs.specs.Laws.{NestsRow, is_nested}
use Rattle.es_rest_runs.proofs.GrownNames.{Apt, Decl, in_right, more_append, using_so}
use Rattle.es_rest_runs.proofs.QuietSteps.{Before, PlainRule}
use Rattle.es_rest_runs.proofs.SeenPlaces.{Seen}
use Rattle.es_rest_runs.proofs.SeenPrograms.{New, Raw, unused}
use Rattle.es_rest_runs.proofs.SourcePlaces.{SourceFacts, source_facts}
use Rattle.es_rest_runs.proofs.SparedNames.{avoids_both}
use Rattle.es_rest_runs.proofs.Stores.{IsNew, Picked, declared_is, joined_avoids, joined_same, lone_joined, no_using, one_name, or_true, plain_shape, row_nodes, row_pending, row_this, row_top, still_declared}
use Rattle.es_rest_runs.proofs.TakenGroups.{all_self, as_same, declaration_same, declarator_same, joined_followed, one_and, property_shape}
use Rattle.es_rest_runs.proofs.TakenNames.{declared_both, name_at, named, named_joined}

-- WHAT THE ROW MAKES

abbrev put_name : Text → Option ℕ → Tree
put_name x o = identifier (record { name = x; symbol = o })

pub data NestedAt (w : Whole) (vx : Bool × Text) : Tree → Tree → Type 0 where
  nested_at : (m l lp lq ls lk : Label) (a ps rs c qs : Trees) (k v u : Tree) (o : Option ℕ) → is_word (codes "var") (first_text m.texts) ≡ vx.0 → are_plain (joined_trees ps (property_of lq k v before rs)) ≡ true →
      is_kept w (pattern_node lp (joined_trees ps (property_of lq k v before rs))) (name_at ls) ≡ true → IsNew w vx.1 → PutsName (put_name vx.1 o) (pattern_node lk qs) v u →
      NestedAt w vx (declaring m (joined_trees a (declares_as l (pattern_node lp (joined_trees ps (property_of lq k v before rs))) (name_at ls) before c)))
      (declaring m (joined_trees a (joined_trees (parted lp (name_at ls) ps (property_of lq k u) (pattern_node lk qs) (record { name = vx.1; symbol = o }) rs) c)))

abbrev pub SomeNested : Whole → Tree → Tree → Type 0
SomeNested w a b = Picked (Bool × Text) (λ i. NestedAt w i a b)

row_made : {n : Site} {s s' : Ledger} {t u : Tree} (r : RestRow n s (at_node t) s' (at_node u)) → is_nested r ≡ true → SomeNested (whole_in s) t u
row_made (nested {w = w} m l lp lq ls a ps rs c k p v u x b1 b2 plain b4 pattern puts b7 kept fresh) so =
    let shape = plain_shape p pattern in
    subst (λ (q : Tree). PutsName (put_name x (Some w.free_symbol)) q v u →
    SomeNested w (declaring m (joined_trees a (declares_as l (pattern_node lp (joined_trees ps (property_of lq k v before rs))) (name_at ls) before c)))
    (declaring m (joined_trees a (joined_trees (parted lp (name_at ls) ps (property_of lq k u) q (record { name = x; symbol = Some w.free_symbol }) rs) c)))) {x = pattern_node shape.label shape.parts} (sym shape.same)
    (λ h. record { index = (is_word (codes "var") (first_text m.texts), x); holds = nested_at m l lp lq ls shape.label a ps rs c shape.parts k v u (Some w.free_symbol) refl plain kept (fresh.free, fresh_made w.in_use _ x fresh) h }) puts
row_made (stores m l a c p e x b1 b2 b3 b4 b5 b6 b7) so = absurd (cc so)
row_made (takes m l lp lr ls a ps c t xs b1 b2 b3 b4 b5 b6 b7 b8 b9) so = absurd (cc so)

pub nests-rule : PlainRule NestsRow (Before SomeNested)
nests-rule = record {
  nodes = λ n s s' x y h. row_nodes h.row;
  pending = λ n s s' t u h. row_pending h.row;
  this = λ n s s' t u h. row_this h.row;
  top = λ n s s' t u h. row_top h.row;
  made = λ n s s' t u h. row_made h.row h.nests;
}

pub are_new : {w : Whole} {v : Bool} {x : Text} {a b : Tree} → NestedAt w (v, x) a b → New w (x ∷ [])
are_new {w = w} {x = x} (nested_at m l lp lq ls lk a ps rs c qs k v u o word plain kept new puts) = record { fresh = λ y e. ap w.in_use (one_name x y e) ∙ new.0; made = ap (λ b. b && true) new.1 }

-- IT DECLARES ITS NAME MORE

module _ (word x : Text) (o : Option ℕ) where
  -- the property binds what its pattern does, and with the name in its place the name alone
  puts_names : {lk : Label} {qs : Trees} {v u : Tree} → PutsName (put_name x o) (pattern_node lk qs) v u → declared_as word (bound_identifiers v) ≡ named word qs
  puts_names for_pattern = refl
  puts_names (with_default l e silent) = refl

  puts_name : {lk : Label} {qs : Trees} {v u : Tree} → PutsName (put_name x o) (pattern_node lk qs) v u → declared_as word (bound_identifiers u) ≡ record { name = x; kind = word } ∷ []
  puts_name for_pattern = refl
  puts_name (with_default l e silent) = refl

some_names : (word : Text) (lp ls : Label) (rs c : Trees) → declarators_names word (joined_trees (declares_some lp (name_at ls) rs) c) ≡ named word rs ++ declarators_names word c
some_names word lp ls empty c = refl
some_names word lp ls (r before rs) c = refl

module _ (x : Text) (l lp lq ls lk : Label) (ps rs c qs : Trees) (k v u : Tree) (o : Option ℕ) (puts : PutsName (put_name x o) (pattern_node lk qs) v u) where
  abbrev xs : List Text
  xs = x ∷ []

  abbrev before_it : Trees
  before_it = declares_as l (pattern_node lp (joined_trees ps (property_of lq k v before rs))) (name_at ls) before c

  abbrev after_it : Trees
  after_it = joined_trees (parted lp (name_at ls) ps (property_of lq k u) (pattern_node lk qs) (record { name = x; symbol = o }) rs) c

  -- A, P and B before, and A, x, P and B after
  before_names : (word : Text) → declarators_names word before_it ≡ named word ps ++ (named word qs ++ (named word rs ++ declarators_names word c))
  before_names word =
      let A = named word ps in
      let Q = named word qs in
      let R = named word rs in
      let C = declarators_names word c in
      ap (λ ds. ds ++ C) (named_joined word ps (property_of lq k v before rs) ∙ ap (λ ds. A ++ ds) (declared_both word (bound_identifiers v) (bound_in_trees rs) ∙ ap (λ ds. ds ++ R) (puts_names word x o puts)))
      ∙ (append_assoc A (Q ++ R) C ∙ ap (λ ds. A ++ ds) (append_assoc Q R C))

  after_names : (word : Text) → declarators_names word after_it ≡ named word ps ++ (record { name = x; kind = word } ∷ (named word qs ++ (named word rs ++ declarators_names word c)))
  after_names word =
      let A = named word ps in
      let Q = named word qs in
      let R = named word rs in
      let C = declarators_names word c in
      (λ i. (named_joined word ps (property_of lq k u before empty) ∙ ap (λ ds. A ++ ds) (declared_both word (bound_identifiers u) [] ∙ ap (λ ds. ds ++ []) (puts_name word x o puts))) i ++ (Q ++ some_names word lp ls rs c i))
      ∙ append_assoc A (record { name = x; kind = word } ∷ []) (Q ++ (R ++ C))

  here : among_names xs x ≡ true
  here = ap (λ b. b || false) ((bytes_eq-Decides x x).1 refl)

  nested_more : (word : Text) (a : Trees) → NamesMore (among_names xs) (declarators_names word (joined_trees a before_it)) (declarators_names word (joined_trees a after_it))
  nested_more word empty =
      subst (λ (ds : List Declared). NamesMore (among_names xs) ds (declarators_names word after_it)) (sym (before_names word))
      (subst (λ (ds : List Declared). NamesMore (among_names xs) (named word ps ++ (named word qs ++ (named word rs ++ declarators_names word c))) ds) (sym (after_names word))
      (more_append xs (same_names (among_names xs) (named word ps)) (one_more here (same_names (among_names xs) (named word qs ++ (named word rs ++ declarators_names word c))))))
  nested_more word (d before a) = more_append xs (same_names (among_names xs) _) (nested_more word a)

  nested_declares : (word : Text) (a : Trees) → Decl xs (declarators_names word (joined_trees a after_it))
  nested_declares word empty = λ y h.
      let rest = named word qs ++ (named word rs ++ declarators_names word c) in
      subst (λ (ds : List Declared). declares ds y ≡ true) (sym (after_names word))
      (in_right xs (named word ps) (record { name = x; kind = word } ∷ rest) (λ z e. subst (λ t. declares (record { name = x; kind = word } ∷ rest) t ≡ true) (sym (one_name x z e)) (ap (λ b. b || declares rest x) ((bytes_eq-Decides x x).1 refl))) y h)
  nested_declares word (d before a) = in_right xs _ (declarators_names word (joined_trees a after_it)) (nested_declares word a)

  pattern_there : (a : Trees) → has_pattern (joined_trees a before_it) ≡ true
  pattern_there empty = refl
  pattern_there (d before a) = ap (λ b. not (binds_name d) || b) (pattern_there a) ∙ or_true (not (binds_name d))

pub grow : (w : Whole) (i : Bool × Text) (a b : Tree) → NestedAt w i a b → Grows i.0 (i.1 ∷ []) a b
grow w i _ _ (nested_at m l lp lq ls lk a ps rs c qs k v u o word plain kept new puts) =
    grows m (joined_trees a (before_it i.1 l lp lq ls lk ps rs c qs k v u o puts)) (joined_trees a (after_it i.1 l lp lq ls lk ps rs c qs k v u o puts)) word (lone_joined a c l (pattern_node lp (joined_trees ps (property_of lq k v before rs))) (name_at ls))
    (λ y. nested_more i.1 l lp lq ls lk ps rs c qs k v u o puts y a) (λ y. nested_declares i.1 l lp lq ls lk ps rs c qs k v u o puts y a)

-- IT IS A ROW OF THE MACHINE

properties_of : (ps : Trees) → are_plain ps ≡ true → Properties ps
properties_of empty h = no_property
properties_of (p before ps) h =
    let d = and_parts (is_plain_property p) (are_plain ps) h in
    let shape = property_shape p d.0 in
    subst (λ (q : Tree). Properties (q before ps)) (sym shape.same) (one_property (properties_of ps d.1))

plain_parts : (ps qs : Trees) → are_plain (joined_trees ps qs) ≡ true → (are_plain ps ≡ true) × (are_plain qs ≡ true)
plain_parts empty qs h = (refl, h)
plain_parts (p before ps) qs h =
    let d = and_parts (is_plain_property p) (are_plain (joined_trees ps qs)) h in
    let e = plain_parts ps qs d.1 in
    (and_from (is_plain_property p) (are_plain ps) d.0 e.0, e.1)

named_value : {x : Text} {o : Option ℕ} {p v u : Tree} → PutsName (put_name x o) p v u → WithName x p v u
named_value {o = o} for_pattern = pattern_alone (o ∷ [])
named_value {o = o} (with_default l e silent) = default_put (o ∷ []) l l e

-- the declarator behind, or none
record BehindRow (lp ls : Label) (rs c : Trees) : Type 0 where
  declarators : Trees
  row : Behind (first_text ls.texts) rs declarators
  same : AllSame (joined_trees (declares_some lp (name_at ls) rs) c) (followed declarators c)

behind_row : (lp ls : Label) (rs c : Trees) → BehindRow lp ls rs c
behind_row lp ls empty c = record { declarators = empty; row = none_behind; same = all_self c }
behind_row lp ls (r before rs) c = record {
  declarators = declares_from (made [] []) (object_pattern_at lp (r before rs)) (marked [] (first_text ls.texts)) before empty;
  row = some_behind [] (made [] []) lp (r before rs);
  same = one_and (declarator_with (pattern_node lp (r before rs)) (name_at ls)) (declares_from (made [] []) (object_pattern_at lp (r before rs)) (marked [] (first_text ls.texts))) c c
      (declarator_same (made [] []) (pattern_node lp (r before rs)) (object_pattern_at lp (r before rs)) (name_at ls) (marked [] (first_text ls.texts)) (λ p. refl) (λ p. refl)) (all_self c);
}

module _ (z : Supply) (w : Whole) (vx : Bool × Text) (new : New w (vx.1 ∷ [])) {lg : Label} {ds body after : Trees} (fresh : FreshNames z (vx.1 ∷ []) lg ds body after) (none : silent_names z (program lg ds body) ≡ []) where
  abbrev x_ : Text
  x_ = vx.1

  abbrev xs_ : List Text
  xs_ = x_ ∷ []

  module _ (m l lp lq ls lk : Label) (a ps rs c qs : Trees) (k v u : Tree) (o : Option ℕ) (plain : are_plain (joined_trees ps (property_of lq k v before rs)) ≡ true) (puts : PutsName (put_name x_ o) (pattern_node lk qs) v u) (D : List Declared) (around : Decl xs_ D)
      (apt : Apt (declaring m (joined_trees a (declares_as l (pattern_node lp (joined_trees ps (property_of lq k v before rs))) (name_at ls) before c))))
      (seen : Seen w xs_ D (declaring m (joined_trees a (declares_as l (pattern_node lp (joined_trees ps (property_of lq k v before rs))) (name_at ls) before c))))
      (known : SourceFacts w seen.around ls (pattern_node lp (joined_trees ps (property_of lq k v before rs)))) where
    abbrev s : Text
    s = first_text ls.texts

    abbrev parts : Trees
    parts = joined_trees ps (property_of lq k v before rs)

    abbrev declarator : Tree
    declarator = declares_as l (pattern_node lp parts) (name_at ls)

    abbrev list : Trees
    list = joined_trees a (declarator before c)

    again : ReadAgain z xs_ (s ∷ []) lg ds body
    again y e = subst (λ t. (among_names xs_ t ≡ false) × (is_own_cell t ≡ false) × (is_silent (silent_names z (program lg ds body)) t ≡ false)) (sym (one_name s y e)) (unused w xs_ new s known.used, known.no_cell, ap (λ es. is_silent es s) none)

    listed : avoids_trees (bad_fresh xs_) declarators_taken list ≡ true
    listed = unused_avoids_all w.in_use w.free_symbol (among_names xs_) (unused w xs_ new) (Binds (binding_of (first_text m.texts))) declarators_taken list (λ e. absurd (cc e)) seen.known.named.1.0
        (and_parts (all_in_trees stands list) true (standing VariableDeclaration m (many list then done) seen.known.fine).below).0

    before_avoids : (avoids_trees (bad_fresh xs_) declarators_taken a ≡ true) × (avoids_trees (bad_fresh xs_) declarators_taken (declarator before c) ≡ true)
    before_avoids = joined_avoids (bad_fresh xs_) declarators_taken a (declarator before c) listed

    behind_avoids : (avoids (bad_fresh xs_) declarators_taken declarator ≡ true) × (avoids_trees (bad_fresh xs_) declarators_taken c ≡ true)
    behind_avoids = and_parts (avoids (bad_fresh xs_) declarators_taken declarator) (avoids_trees (bad_fresh xs_) declarators_taken c) before_avoids.1

    pattern_avoids : avoids (bad_held xs_ s) target_taken (pattern_node lp parts) ≡ true
    pattern_avoids = avoids_both (among_names xs_) (only s) target_taken (pattern_node lp parts) (and_parts (avoids (bad_fresh xs_) target_taken (pattern_node lp parts)) (avoids (bad_fresh xs_) value_taken (name_at ls) && true) behind_avoids.0).0 known.spared

    not_using : is_word (codes "using") (first_text m.texts) ≡ false
    not_using = no_using (is_word (codes "using") (first_text m.texts)) (has_pattern list) (pattern_there x_ l lp lq ls lk ps rs c qs k v u o puts a) (using_so VariableDeclaration m (many list then done) apt)

    abbrev pattern' : Tree
    pattern' = object_pattern_at lp (followed ps (property_at lq k v before rs))

    abbrev declarator' : Tree
    declarator' = declares_from l pattern' (marked [] s)

    abbrev first' : Tree
    first' = declaration_of m (followed a (declarator' before c))

    first_same : SameSense (declaring m list) first'
    first_same = declaration_same m list (followed a (declarator' before c)) (joined_followed a a (declarator before c) (declarator' before c) (all_self a) (one_and declarator declarator' c c (declarator_same l (pattern_node lp parts) pattern' (name_at ls) (marked [] s)
        (subst (λ (ts : Trees). SameSense (pattern_node lp parts) (object_pattern_at lp ts)) (joined_same ps (property_of lq k v before rs)) (λ p. refl)) (λ p. refl)) (all_self c)))

    nested_here : (W V : World) → SameWorld (among_names xs_) W V → NamesKnown (λ y. true) none_hidden xs_ D W V → (t : Take) (ls' : List Text) (y : Text) →
        SenseLike (any_cells (among_names xs_)) W V t (sense (placed_at z W ls' y) (declaring m list))
        (sense (placed_at z V ls' y) (declaring m (joined_trees a (joined_trees (parted lp (name_at ls) ps (property_of lq k u) (pattern_node lk qs) (record { name = x_; symbol = o }) rs) c))))
    nested_here W V same names t ls' y =
        let behind = behind_row lp ls rs c in
        let plain_ps = plain_parts ps (property_of lq k v before rs) plain in
        let plain_rs = (and_parts (is_plain_property (property_of lq k v)) (are_plain rs) plain_ps.1).1 in
        let group : Tree = declarator_with (pattern_node (made [] []) (joined_trees ps (property_of lq k u before empty))) (name_at ls) in
        let group' : Tree = declares_from (made [] []) (object_pattern_at (made [] []) (followed ps (property_at lq k u before empty))) (marked [] s) in
        let between : Tree = declarator_with (pattern_node lk qs) (put_name x_ o) in
        let behind_it : Trees = joined_trees (declares_some lp (name_at ls) rs) c in
        let second : Tree = declaring m (joined_trees a (group before (between before behind_it))) in
        let second' : Tree = declaration_of m (followed a (group' before (between before followed behind.declarators c))) in
        let second_same : SameSense second second' =
        declaration_same m (joined_trees a (group before (between before behind_it))) (followed a (group' before (between before followed behind.declarators c)))
        (joined_followed a a (group before (between before behind_it)) (group' before (between before followed behind.declarators c)) (all_self a)
        (one_and group group' (between before behind_it) (between before followed behind.declarators c)
        (declarator_same (made [] []) (pattern_node (made [] []) (joined_trees ps (property_of lq k u before empty))) (object_pattern_at (made [] []) (followed ps (property_at lq k u before empty))) (name_at ls) (marked [] s)
        (subst (λ (ts : Trees). SameSense (pattern_node (made [] []) (joined_trees ps (property_of lq k u before empty))) (object_pattern_at (made [] []) ts)) (joined_same ps (property_of lq k u before empty)) (λ p. refl)) (λ p. refl))
        (one_and between between behind_it (followed behind.declarators c) (λ p. refl) behind.same))) in
        let fits : avoids (bad_held xs_ s) target_taken (object_pattern_at lp (followed ps (property_at lq k v before rs))) ≡ true =
        subst (λ (ts : Trees). avoids (bad_held xs_ s) target_taken (object_pattern_at lp ts) ≡ true) (joined_same ps (property_of lq k v before rs)) pattern_avoids in
        as_same z (among_names xs_) t ls' y W V (declaring m list) second first' second' first_same second_same
        (nested_like z xs_ (s ∷ []) fresh again D t first' second'
        (nested_row l (made [] []) (made [] []) lp (made [] []) lk lq [] [] (o ∷ []) s x_ a ps qs k v u rs behind.declarators c refl not_using (one_of x_) (declared_is D x_ (around x_ (one_of x_))) (one_of s) (declared_is D s (still_declared seen.more s known.bound))
        (properties_of ps plain_ps.0) (properties_of rs plain_rs) (named_value puts) behind.row before_avoids.0 fits behind_avoids.1)
        W V same (names.0, (λ q e d. names.1 q refl d), names.2) ls' y)
      where
        one_of : (q : Text) → among_names (q ∷ []) q ≡ true
        one_of q = ap (λ b. b || false) ((bytes_eq-Decides q q).1 refl)

  pub nested_place : (D : List Declared) (t : Take) (a b : Tree) → Raw (NestedAt w vx) xs_ D t a b × Seen w xs_ D a → (W V : World) → SameWorld (among_names xs_) W V → NamesKnown (λ y. true) none_hidden xs_ D W V → (ls : List Text) (y : Text) →
      SenseLike (any_cells (among_names xs_)) W V t (sense (placed_at z W ls y) a) (sense (placed_at z V ls y) b)
  nested_place D t a b h W V same names ls' y = at a b h.0.changed h.0.apt h.1
    where
      at : (a b : Tree) → NestedAt w vx a b → Apt a → Seen w xs_ D a → SenseLike (any_cells (among_names xs_)) W V t (sense (placed_at z W ls' y) a) (sense (placed_at z V ls' y) b)
      at _ _ (nested_at m l lp lq ls lk a ps rs c qs k v u o word plain kept fine puts) apt seen =
          nested_here m l lp lq ls lk a ps rs c qs k v u o plain puts D h.0.around apt seen (source_facts w xs_ D m l lp ls a (joined_trees ps (property_of lq k v before rs)) c seen kept) W V same names t ls' y
