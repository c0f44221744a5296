-- What a row makes that takes a rest, and what it declares more: the names of the keys that are read.
use Rattle.std.proofs.Common.{◌≡◌, refl, sym, ap, subst, ◌∙◌, List, [], ◌∷◌, ◌++◌}
use Rattle.std.proofs.lemmas.Bool.{and_parts}
use Rattle.std.proofs.lemmas.List.{append_assoc}
use Rattle.std.proofs.lemmas.Slice.Eq.{bytes_eq-Decides}
use Rattle.std.specs.Prelude.{Bool, true, false, not, ◌||◌, bytes_eq, codes}
use Rattle.es_tree.specs.BoundNames.{bound_identifiers, bound_in_trees}
use Rattle.es_tree.specs.Names.{first_text}
use Rattle.es_tree.specs.Scopes.{Declared, declares, own_text}
use Rattle.es_tree.specs.StaticRules.{binds_name, has_pattern}
use Rattle.es_tree.specs.Tree.{Tree, node, Label, done, ◌then◌, one, Trees, empty, ◌before◌}
use Rattle.es_tree.specs.Words.{Text}
use Rattle.es_tree.specs.declared.ast_type.AstType.TheVariants.{Identifier, RestElement}
use Rattle.es_resolution.specs.Declarations.{Bound}
use Rattle.es_steps.specs.Nodes.{declarator_with, joined_trees}
use Rattle.es_steps.specs.ObjectRest.{declares_as, left_of}
use Rattle.es_steps.specs.Rules.{next_name}
use Rattle.es_steps.specs.Steps.{Ledger, Site, Whole}
use Rattle.es_steps.specs.Steps.Spot.{at_node}
use Rattle.es_steps.proofs.Taken.{whole_in}
use Rattle.es_rest_shapes.specs.RestShapes.{any_tree, are_plain, is_name, is_plain_property, reads_key}
use Rattle.es_rest_rows.specs.RestRows.{NamesKeys, RestRow, declaring, groups, groups_by, is_kept, keyed_by, keys_of, taken, with_rest}
use Rattle.es_rest_rows.specs.RestRows.NamesKeys.{knows, no_properties, reads_one}
use Rattle.es_rest_rows.specs.RestRows.RowsWhere.{nested, stores, takes}
use Rattle.es_statement_runs.specs.Laws.{among_names}
use Rattle.es_statement_runs.specs.Names.{declarator_bound, declared_as, declarators_names, is_word}
use Rattle.es_split_runs.specs.Growing.{NamesMore}
use Rattle.es_split_runs.specs.Growing.NamesMore.{as_before, no_names, one_more}
use Rattle.es_split_runs.specs.Laws.{property_at}
use Rattle.es_split_runs.proofs.GrownScopes.{same_names}
use Rattle.es_rest_runs.specs.Growth.{Grows}
use Rattle.es_rest_runs.specs.Growth.Grows.{grows}
use Rattle.es_rest_runs.specs.Laws.{TakesRow, is_taken}
use Rattle.es_rest_runs.proofs.GrownNames.{Decl, in_left, in_right, more_append}
use Rattle.es_rest_runs.proofs.QuietSteps.{Before, PlainRule}
use Rattle.es_rest_runs.proofs.Stores.{Picked, lone_joined, or_true, row_nodes, row_pending, row_this, row_top}
use Rattle.es_rest_runs.proofs.TakenGroups.{texts_of}

-- WHAT THE ROW MAKES

abbrev pub name_at : Label → Tree
name_at l = node Identifier l done

pub data TakenAt (w : Whole) (vn : Bool × List Bound) : Tree → Tree → Type 0 where
  taken_at : {w' : Whole} (m l lp lr ls lt : Label) (a ps c : Trees) → is_word (codes "var") (first_text m.texts) ≡ vn.0 → are_plain ps ≡ true → is_kept w (with_rest lp ps lr (name_at lt)) (name_at ls) ≡ true → NamesKeys w ps vn.1 w' →
      TakenAt w vn (declaring m (joined_trees a (declares_as l (with_rest lp ps lr (name_at lt)) (name_at ls) before c))) (declaring m (joined_trees a (joined_trees (taken lp (name_at ls) vn.1 ps (name_at lt)) c)))

abbrev pub SomeTaken : Whole → Tree → Tree → Type 0
SomeTaken w a b = Picked (Bool × List Bound) (λ i. TakenAt w i a b)

record NameShape (t : Tree) : Type 0 where
  label : Label
  same : t ≡ name_at label

name_shape : (t : Tree) → is_name t ≡ true → NameShape t
name_shape (node Identifier l done) e = record { label = l; same = refl }
name_shape (node Identifier l (f then fs)) e = absurd (cc e)
name_shape (node k l fs) e = absurd (cc e)

row_made : {n : Site} {s s' : Ledger} {t u : Tree} (r : RestRow n s (at_node t) s' (at_node u)) → is_taken r ≡ true → SomeTaken (whole_in s) t u
row_made (takes {w = w} m l lp lr ls a ps c t xs b1 b2 plain name b5 kept keys b8 b9) so =
    let shape = name_shape t name in
    subst (λ (t : Tree). is_kept w (with_rest lp ps lr t) (name_at ls) ≡ true →
    SomeTaken w (declaring m (joined_trees a (declares_as l (with_rest lp ps lr t) (name_at ls) before c))) (declaring m (joined_trees a (joined_trees (taken lp (name_at ls) xs ps t) c)))) {x = name_at shape.label} (sym shape.same)
    (λ k. record { index = (is_word (codes "var") (first_text m.texts), xs); holds = taken_at m l lp lr ls shape.label a ps c refl plain k keys }) kept
row_made (stores m l a c p e x b1 b2 b3 b4 b5 b6 b7) so = absurd (cc so)
row_made (nested m l lp lq ls a ps rs c k p v u x b1 b2 b3 b4 b5 b6 b7 b8 b9) so = absurd (cc so)

pub takes-rule : PlainRule TakesRow (Before SomeTaken)
takes-rule = record {
  nodes = λ n s s' x y h. row_nodes h.row;
  pending = λ n s s' t u h. row_pending h.row;
  this = λ n s s' t u h. row_this h.row;
  top = λ n s s' t u h. row_top h.row;
  made = λ n s s' t u h. row_made h.row h.taken;
}

-- IT DECLARES THE NAMES OF ITS KEYS MORE

pub joined_one : (ts : Trees) (p : Tree) (ps : Trees) → joined_trees (joined_trees ts (p before empty)) ps ≡ joined_trees ts (p before ps)
joined_one empty p ps = refl
joined_one (t before ts) p ps = ap (λ us. t before us) (joined_one ts p ps)

joined_none : (ts : Trees) → joined_trees ts empty ≡ ts
joined_none empty = refl
joined_none (t before ts) = ap (λ us. t before us) (joined_none ts)

module _ (word : Text) where
  pub declared_both : (xs ys : List Tree) → declared_as word (xs ++ ys) ≡ declared_as word xs ++ declared_as word ys
  declared_both [] ys = refl
  declared_both (x ∷ xs) ys = ap (λ ds. record { name = own_text x; kind = word } ∷ ds) (declared_both xs ys)

  -- what properties declare
  abbrev pub named : Trees → List Declared
  named ts = declared_as word (bound_in_trees ts)

  pub named_joined : (ts us : Trees) → named (joined_trees ts us) ≡ named ts ++ named us
  named_joined empty us = refl
  named_joined (t before ts) us =
      declared_both (bound_identifiers t) (bound_in_trees (joined_trees ts us)) ∙ (ap (λ ds. declared_as word (bound_identifiers t) ++ ds) (named_joined ts us)
      ∙ (sym (append_assoc (declared_as word (bound_identifiers t)) (named ts) (named us)) ∙ ap (λ ds. ds ++ named us) (sym (declared_both (bound_identifiers t) (bound_in_trees ts)))))

  pub names_joined : (a c : Trees) → declarators_names word (joined_trees a c) ≡ declarators_names word a ++ declarators_names word c
  names_joined empty c = refl
  names_joined (d before a) c =
      ap (λ ds. declared_as word (declarator_bound d) ++ ds) (names_joined a c) ∙ sym (append_assoc (declared_as word (declarator_bound d)) (declarators_names word a) (declarators_names word c))

  module _ (lp : Label) (S : Tree) (XS : List Text) where
    abbrev More : List Declared → List Declared → Type 0
    More = NamesMore (among_names XS)

    here_name : (x : Text) (ys : List Text) → among_names (x ∷ ys) x ≡ true
    here_name x ys = ap (λ b. b || among_names ys x) ((bytes_eq-Decides x x).1 refl)

    later_name : (x y : Text) (ys : List Text) → among_names ys y ≡ true → among_names (x ∷ ys) y ≡ true
    later_name x y ys h = ap (λ b. bytes_eq y x || b) h ∙ or_true (bytes_eq y x)

    groups_more : {w w' : Whole} {ps : Trees} {ns : List Bound} → NamesKeys w ps ns w' → are_plain ps ≡ true → ((y : Text) → among_names (texts_of ns) y ≡ true → among_names XS y ≡ true) → (ts : Trees) → More (named (joined_trees ts ps)) (declarators_names word (groups lp S ns ts ps))
    groups_more no_properties plain all ts = subst (λ (us : Trees). More (named us) (named ts ++ [])) (sym (joined_none ts)) (more_nil (named ts))
      where
        more_nil : (ds : List Declared) → More ds (ds ++ [])
        more_nil [] = no_names
        more_nil (d ∷ ds) = as_before (more_nil ds)
    groups_more (knows {p = p} {ps = ps} {xs = ns} reads h) plain all ts =
        subst (λ (c : Bool). More (named (joined_trees ts (p before ps))) (declarators_names word (groups_by c lp S ns ts p (λ ys these. groups lp S ys these ps)))) (sym reads)
        (subst (λ (us : Trees). More (named us) (declarators_names word (groups lp S ns (joined_trees ts (p before empty)) ps))) (joined_one ts p ps)
        (groups_more h (and_parts (is_plain_property p) (are_plain ps) plain).1 all (joined_trees ts (p before empty))))
    groups_more (reads_one {w = w} {l = l} {k = k} {v = v} {ps = ps} {xs = ns} x reads silent fresh h) plain all ts =
        let p = property_at l k v in
        let X = next_name w x in
        subst (λ (c : Bool). More (named (joined_trees ts (p before ps))) (declarators_names word (groups_by c lp S (X ∷ ns) ts p (λ ys these. groups lp S ys these ps)))) (sym reads)
        (subst (λ (ds : List Declared). More ds (named ts ++ (record { name = x; kind = word } ∷ declarators_names word (groups lp S ns (keyed_by X p before empty) ps)))) (sym (named_joined ts (p before ps)))
        (more_append XS (same_names (among_names XS) (named ts)) (one_more (all x (here_name x (texts_of ns)))
        (groups_more h (and_parts (is_plain_property p) (are_plain ps) plain).1 (λ y e. all y (later_name x y (texts_of ns) e)) (keyed_by X p before empty)))))

    groups_declare : {w w' : Whole} {ps : Trees} {ns : List Bound} → NamesKeys w ps ns w' → (ts : Trees) → Decl (texts_of ns) (declarators_names word (groups lp S ns ts ps))
    groups_declare no_properties ts = λ y e. absurd (cc e)
    groups_declare (knows {p = p} {ps = ps} {xs = ns} reads h) ts =
        subst (λ (c : Bool). Decl (texts_of ns) (declarators_names word (groups_by c lp S ns ts p (λ ys these. groups lp S ys these ps)))) (sym reads) (groups_declare h (joined_trees ts (p before empty)))
    groups_declare (reads_one {w = w} {l = l} {k = k} {v = v} {ps = ps} {xs = ns} x reads silent fresh h) ts =
        let p = property_at l k v in
        let X = next_name w x in
        let rest = declarators_names word (groups lp S ns (keyed_by X p before empty) ps) in
        subst (λ (c : Bool). Decl (x ∷ texts_of ns) (declarators_names word (groups_by c lp S (X ∷ ns) ts p (λ ys these. groups lp S ys these ps)))) (sym reads)
        (in_right (x ∷ texts_of ns) (named ts) (record { name = x; kind = word } ∷ rest) (λ y e. at y rest (groups_declare h (keyed_by X p before empty) y) (bytes_eq y x) refl e))
      where
        at : (y : Text) (ds : List Declared) → (among_names (texts_of ns) y ≡ true → declares ds y ≡ true) → (b : Bool) → bytes_eq y x ≡ b → (b || among_names (texts_of ns) y) ≡ true → declares (record { name = x; kind = word } ∷ ds) y ≡ true
        at y ds later true g e = subst (λ z. declares (record { name = x; kind = word } ∷ ds) z ≡ true) (sym ((bytes_eq-Decides y x).0 g)) (ap (λ b. b || declares ds x) ((bytes_eq-Decides x x).1 refl))
        at y ds later false g e = ap (λ b. bytes_eq x y || b) (later e) ∙ or_true (bytes_eq x y)

-- the whole row
module _ (w : Whole) (ns : List Bound) (l lp lr ls lt : Label) (c : Trees) where
  abbrev rest_at : Tree
  rest_at = node RestElement lr (one (name_at lt) then done)

  abbrev before_it : Trees → Trees
  before_it ps = declares_as l (with_rest lp ps lr (name_at lt)) (name_at ls) before c

  abbrev after_it : Trees → Trees
  after_it ps = joined_trees (taken lp (name_at ls) ns ps (name_at lt)) c

  -- the groups, and the rest behind
  abbrev built : Trees → Trees
  built ps = joined_trees (groups lp (name_at ls) ns empty ps) (declarator_with (name_at lt) (left_of (any_tree reads_key ps) (name_at ls) (keys_of ns ps)) before empty)

  abbrev xs : List Text
  xs = texts_of ns

  built_more : {w' : Whole} (word : Text) (ps : Trees) → NamesKeys w ps ns w' → are_plain ps ≡ true → NamesMore (among_names xs) (declarators_names word (before_it ps)) (declarators_names word (joined_trees (built ps) c))
  built_more word ps keys plain =
      let G = groups lp (name_at ls) ns empty ps in
      let R = declarator_with (name_at lt) (left_of (any_tree reads_key ps) (name_at ls) (keys_of ns ps)) before empty in
      subst (λ (ds : List Declared). NamesMore (among_names xs) (declarators_names word (before_it ps)) ds) (sym (names_joined word (joined_trees G R) c))
      (subst (λ (ds : List Declared). NamesMore (among_names xs) (declarators_names word (before_it ps)) (ds ++ declarators_names word c)) (sym (names_joined word G R))
      (subst (λ (ds : List Declared). NamesMore (among_names xs) (ds ++ declarators_names word c) ((declarators_names word G ++ declarators_names word R) ++ declarators_names word c)) (sym (named_joined word ps (rest_at before empty)))
      (more_append xs (more_append xs (groups_more word lp (name_at ls) xs keys plain (λ y e. e) empty) (same_names (among_names xs) (named word (rest_at before empty)))) (same_names (among_names xs) (declarators_names word c)))))

  taken_more : {w' : Whole} (word : Text) (ps : Trees) → NamesKeys w ps ns w' → are_plain ps ≡ true → NamesMore (among_names xs) (declarators_names word (before_it ps)) (declarators_names word (after_it ps))
  taken_more word empty keys plain = same_names (among_names xs) (declarators_names word (before_it empty))
  taken_more word (p before ps) keys plain = built_more word (p before ps) keys plain

  built_declares : {w' : Whole} (word : Text) (ps : Trees) → NamesKeys w ps ns w' → Decl xs (declarators_names word (joined_trees (built ps) c))
  built_declares word ps keys =
      let G = groups lp (name_at ls) ns empty ps in
      let R = declarator_with (name_at lt) (left_of (any_tree reads_key ps) (name_at ls) (keys_of ns ps)) before empty in
      subst (λ (ds : List Declared). Decl xs ds) (sym (names_joined word (joined_trees G R) c)) (in_left xs (declarators_names word (joined_trees G R)) (declarators_names word c)
      (subst (λ (ds : List Declared). Decl xs ds) (sym (names_joined word G R)) (in_left xs (declarators_names word G) (declarators_names word R) (groups_declare word lp (name_at ls) xs keys empty))))

  none_named : {w' : Whole} {ms : List Bound} → NamesKeys w empty ms w' → (ds : List Declared) → Decl (texts_of ms) ds
  none_named no_properties ds y e = absurd (cc e)

  taken_declares : {w' : Whole} (word : Text) (ps : Trees) → NamesKeys w ps ns w' → Decl xs (declarators_names word (after_it ps))
  taken_declares word empty keys = none_named keys (declarators_names word (after_it empty))
  taken_declares word (p before ps) keys = built_declares word (p before ps) keys

  row_more : {w' : Whole} (word : Text) (ps a : Trees) → NamesKeys w ps ns w' → are_plain ps ≡ true → NamesMore (among_names xs) (declarators_names word (joined_trees a (before_it ps))) (declarators_names word (joined_trees a (after_it ps)))
  row_more word ps empty keys plain = taken_more word ps keys plain
  row_more word ps (d before a) keys plain = more_append xs (same_names (among_names xs) _) (row_more word ps a keys plain)

  row_declares : {w' : Whole} (word : Text) (ps a : Trees) → NamesKeys w ps ns w' → Decl xs (declarators_names word (joined_trees a (after_it ps)))
  row_declares word ps empty keys = taken_declares word ps keys
  row_declares word ps (d before a) keys = in_right xs _ (declarators_names word (joined_trees a (after_it ps))) (row_declares word ps a keys)

  pub pattern_there : (ps a : Trees) → has_pattern (joined_trees a (before_it ps)) ≡ true
  pattern_there ps empty = refl
  pattern_there ps (d before a) = ap (λ b. not (binds_name d) || b) (pattern_there ps a) ∙ or_true (not (binds_name d))

pub grow : (w : Whole) (i : Bool × List Bound) (a b : Tree) → TakenAt w i a b → Grows i.0 (texts_of i.1) a b
grow w i _ _ (taken_at m l lp lr ls lt a ps c word plain kept keys) =
    grows m (joined_trees a (before_it w i.1 l lp lr ls lt c ps)) (joined_trees a (after_it w i.1 l lp lr ls lt c ps)) word (lone_joined a c l (with_rest lp ps lr (name_at lt)) (name_at ls))
    (λ x. row_more w i.1 l lp lr ls lt c x ps a keys plain) (λ x. row_declares w i.1 l lp lr ls lt c x ps a keys)
