-- A step by which the value of a pattern is stored keeps the runs of a program.
use Rattle.std.proofs.Common.{◌≡◌, ℕ, refl, sym, ap, subst, ◌∙◌, List, [], ◌∷◌}
use Rattle.std.specs.Prelude.{Bool, true, false, not, ◌||◌, ◌&&◌, Option, Some, bytes_eq, codes}
use Rattle.std.proofs.lemmas.Bool.{and_parts}
use Rattle.std.proofs.lemmas.List.{append-nil}
use Rattle.std.proofs.lemmas.Slice.Eq.{bytes_eq-Decides}
use Rattle.es_tree.specs.HasForm.{has_form}
use Rattle.es_tree.specs.Names.{first_text}
use Rattle.es_tree.specs.Scopes.{Declared, declares}
use Rattle.es_tree.specs.StaticRules.{binds_name, has_pattern, is_lone_declarator}
use Rattle.es_tree.specs.Tree.{Tree, node, Label, Fields, done, ◌then◌, Field, missing, one, many, statements, Trees, empty, ◌before◌, kind_of}
use Rattle.es_tree.specs.Walks.{all_in_trees}
use Rattle.es_tree.specs.Words.{Text}
use Rattle.es_tree.specs.declared.ast_type.AstType.TheVariants.{ObjectPattern, Program, VariableDeclaration}
use Rattle.es_tree.specs.declared.table.Sort.TheVariants.{Program as s-Program}
use Rattle.es_runs.specs.Alike.{Level}
use Rattle.es_runs.specs.Core.{is_free}
use Rattle.es_runs.specs.Core.Binding.{free}
use Rattle.es_runs.specs.Runs.{is_declared, program, scope_of}
use Rattle.es_runs.proofs.Temporary.{bytes_eq-self}
use Rattle.es_semantic.specs.RolesOf.{reads, role_at}
use Rattle.es_resolution.specs.Named.{Named}
use Rattle.es_resolution.proofs.Forms.{form-placed}
use Rattle.es_valid_steps.proofs.Visits.{law_among_proof, law_places_proof}
use Rattle.es_steps.specs.Nodes.{declarator_with, identifier, joined_trees}
use Rattle.es_steps.specs.ObjectRest.{declares_as, pattern_node}
use Rattle.es_steps.specs.Laws.{nothing_beside}
use Rattle.es_steps.specs.Open.{Open, finished, opened}
use Rattle.es_steps.specs.Steps.{Ledger, Site, Spot, Step, Whole, the_program}
use Rattle.es_steps.specs.Steps.Spot.{at_node}
use Rattle.es_steps.proofs.FormRules.{AtNodes}
use Rattle.es_steps.proofs.Opened.{finished-opened}
use Rattle.es_steps.proofs.Taken.{pending_in, this_in, top_in as top_beside, whole_in}
use Rattle.es_rest_shapes.specs.RestShapes.{bears_rest, is_plain_pattern}
use Rattle.es_rest_rows.specs.RestRows.{RestRow, declaring}
use Rattle.es_rest_rows.specs.RestRows.RowsWhere.{nested, stores, takes}
use Rattle.es_statement_runs.specs.Helpers.{Supply, silent_names}
use Rattle.es_statement_runs.specs.Laws.{among_names, body_needs, followed, is_silent}
use Rattle.es_statement_runs.specs.Names.{declared_at_top, declarators_names, is_word, top_in}
use Rattle.es_statement_runs.specs.Programs.{IsStatementProgram}
use Rattle.es_statement_runs.specs.Places.{Take, avoids, avoids_trees, target_taken, value_taken}
use Rattle.es_statement_runs.specs.Runs.{RunAlike}
use Rattle.es_statement_runs.proofs.BareVars.{top_bound}
use Rattle.es_statement_steps.proofs.FoundNames.{entered_free}
use Rattle.es_statement_steps.proofs.FreshNames.{top_used, unused_avoids_all}
use Rattle.es_statement_steps.proofs.MadeNames.{all_made, fresh_made, is_made_text, made_math, made_program_names, made_supply}
use Rattle.es_statement_steps.proofs.StandingPrograms.{program_stands}
use Rattle.es_statement_steps.proofs.Stands.{is_program, standing, stands}
use Rattle.es_split_runs.specs.Growing.{NamesMore}
use Rattle.es_split_runs.specs.Growing.NamesMore.{as_before, no_names, one_more}
use Rattle.es_split_runs.specs.Laws.{FreshNames, StoreRow, bad_fresh, declarators_taken}
use Rattle.es_split_runs.specs.Laws.StoreRow.{store_row}
use Rattle.es_split_runs.proofs.GrownScopes.{same_names}
use Rattle.es_split_runs.proofs.Stored.{law_stored_proof}
use Rattle.es_rest_runs.specs.Changing.{Changed, ChangedAmong, ChangedBy, ChangedIn}
use Rattle.es_rest_runs.specs.Changing.Changed.{below, here}
use Rattle.es_rest_runs.specs.Changing.ChangedAmong.{head_of, tail_of}
use Rattle.es_rest_runs.specs.Changing.ChangedBy.{many_of, one_of, statements_of}
use Rattle.es_rest_runs.specs.Changing.ChangedIn.{first_of, later_of}
use Rattle.es_rest_runs.specs.Growth.{Grows}
use Rattle.es_rest_runs.specs.Growth.Grows.{grows}
use Rattle.es_rest_runs.specs.Laws.{LawStores, StoresRow, is_stored}
use Rattle.es_rest_runs.proofs.GrownNames.{Apt, Decl, in_right, more_append, using_same_in, using_so}
use Rattle.es_rest_runs.proofs.GrownPrograms.{ProgramChanged, list_grown_at_top, program_changed, tops_more}
use Rattle.es_rest_runs.proofs.TestsHold.{program_tested}
use Rattle.es_rest_runs.specs.Quiet.{IsQuiet}
use Rattle.es_rest_runs.proofs.QuietSteps.{Before, Left, PlainRule, opened_quiet, step_changed}

-- ONE PLACE has one name
pub record Picked (I : Type 0) (C : I → Type 0) : Type 0 where
  pub index : I
  pub holds : C index

module _ (I : Type 0) (B : I → Tree → Tree → Type 0) where
  abbrev Some_of : Tree → Tree → Type 0
  Some_of a b = Picked I (λ i. B i a b)

  mutual
    pub pick : {a b : Tree} → Changed Some_of a b → Picked I (λ i. Changed (B i) a b)
    pick (here h) = record { index = h.index; holds = here h.holds }
    pick (below h) = let g = pick_in h in record { index = g.index; holds = below g.holds }

    pick_in : {fs gs : Fields} → ChangedIn Some_of fs gs → Picked I (λ i. ChangedIn (B i) fs gs)
    pick_in (first_of h) = let g = pick_by h in record { index = g.index; holds = first_of g.holds }
    pick_in (later_of h) = let g = pick_in h in record { index = g.index; holds = later_of g.holds }

    pick_by : {f g : Field} → ChangedBy Some_of f g → Picked I (λ i. ChangedBy (B i) f g)
    pick_by (one_of h) = let g = pick h in record { index = g.index; holds = one_of g.holds }
    pick_by (many_of h) = let g = pick_among h in record { index = g.index; holds = many_of g.holds }
    pick_by (statements_of h) = let g = pick_among h in record { index = g.index; holds = statements_of g.holds }

    pick_among : {ts us : Trees} → ChangedAmong Some_of ts us → Picked I (λ i. ChangedAmong (B i) ts us)
    pick_among (head_of h) = let g = pick h in record { index = g.index; holds = head_of g.holds }
    pick_among (tail_of h) = let g = pick_among h in record { index = g.index; holds = tail_of g.holds }

-- WHAT THE ROW MAKES
abbrev pub IsNew : Whole → Text → Type 0
IsNew w x = (w.in_use x ≡ false) × (is_made_text x ≡ true)

pub data StoredAt (w : Whole) (vx : Bool × Text) : Tree → Tree → Type 0 where
  stored_at : (m l lp : Label) (a c ps : Trees) (e : Tree) (s : Option ℕ) → is_word (codes "var") (first_text m.texts) ≡ vx.0 → IsNew w vx.1 →
      StoredAt w vx (declaring m (joined_trees a (declares_as l (pattern_node lp ps) e before c)))
      (declaring m (joined_trees a (declarator_with (identifier (record { name = vx.1; symbol = s })) e before declares_as l (pattern_node lp ps) (identifier (record { name = vx.1; symbol = s })) before c)))

abbrev pub SomeStored : Whole → Tree → Tree → Type 0
SomeStored w a b = Picked (Bool × Text) (λ i. StoredAt w i a b)

pub record Shape (p : Tree) : Type 0 where
  pub label : Label
  pub parts : Trees
  pub same : p ≡ pattern_node label parts

pub plain_shape : (p : Tree) → is_plain_pattern p ≡ true → Shape p
plain_shape (node ObjectPattern l (many ps then done)) e = record { label = l; parts = ps; same = refl }
plain_shape (node ObjectPattern l (many ps then (f then fs))) e = absurd (let no : false ≡ true = (and_parts (bears_rest (node ObjectPattern l (many ps then (f then fs)))) false e).1 in cc no)
plain_shape (node ObjectPattern l (missing then fs)) e = absurd (let no : false ≡ true = (and_parts (bears_rest (node ObjectPattern l (missing then fs))) false e).1 in cc no)
plain_shape (node ObjectPattern l (one t then fs)) e = absurd (let no : false ≡ true = (and_parts (bears_rest (node ObjectPattern l (one t then fs))) false e).1 in cc no)
plain_shape (node ObjectPattern l (statements t then fs)) e = absurd (let no : false ≡ true = (and_parts (bears_rest (node ObjectPattern l (statements t then fs))) false e).1 in cc no)
plain_shape (node ObjectPattern l done) e = absurd (let no : false ≡ true = (and_parts (bears_rest (node ObjectPattern l done)) false e).1 in cc no)
plain_shape (node k l fs) e = absurd (cc e)

pub row_nodes : {n : Site} {s s' : Ledger} {x y : Spot} → RestRow n s x s' y → AtNodes x y
row_nodes (stores m l a c p e x b1 b2 b3 b4 b5 b6 b7) = tt
row_nodes (takes m l lp lr ls a ps c t xs b1 b2 b3 b4 b5 b6 b7 b8 b9) = tt
row_nodes (nested m l lp lq ls a ps rs c k p v u x b1 b2 b3 b4 b5 b6 b7 b8 b9) = tt

pub row_pending : {n : Site} {s s' : Ledger} {x y : Spot} → RestRow n s x s' y → pending_in s' ≡ pending_in s
row_pending (stores m l a c p e x b1 b2 b3 b4 b5 b6 b7) = refl
row_pending (takes m l lp lr ls a ps c t xs b1 b2 b3 b4 b5 b6 b7 b8 b9) = refl
row_pending (nested m l lp lq ls a ps rs c k p v u x b1 b2 b3 b4 b5 b6 b7 b8 b9) = refl

pub row_this : {n : Site} {s s' : Ledger} {x y : Spot} → RestRow n s x s' y → this_in s' ≡ this_in s
row_this (stores m l a c p e x b1 b2 b3 b4 b5 b6 b7) = refl
row_this (takes m l lp lr ls a ps c t xs b1 b2 b3 b4 b5 b6 b7 b8 b9) = refl
row_this (nested m l lp lq ls a ps rs c k p v u x b1 b2 b3 b4 b5 b6 b7 b8 b9) = refl

pub row_top : {n : Site} {s s' : Ledger} {x y : Spot} → RestRow n s x s' y → top_beside s' ≡ top_beside s
row_top (stores m l a c p e x b1 b2 b3 b4 b5 b6 b7) = refl
row_top (takes m l lp lr ls a ps c t xs b1 b2 b3 b4 b5 b6 b7 b8 b9) = refl
row_top (nested m l lp lq ls a ps rs c k p v u x b1 b2 b3 b4 b5 b6 b7 b8 b9) = refl

row_made : {n : Site} {s s' : Ledger} {t u : Tree} (r : RestRow n s (at_node t) s' (at_node u)) → is_stored r ≡ true → SomeStored (whole_in s) t u
row_made (stores {w = w} m l a c p e x b1 b2 plain b4 b5 b6 fresh) so =
    let shape = plain_shape p plain in
    let name = λ (s : Option ℕ). identifier (record { name = x; symbol = s }) in
    subst (λ (p : Tree). SomeStored w (declaring m (joined_trees a (declares_as l p e before c))) (declaring m (joined_trees a (declarator_with (name (Some w.free_symbol)) e before declares_as l p (name (Some w.free_symbol)) before c)))) (sym shape.same)
    (record { index = (is_word (codes "var") (first_text m.texts), x); holds = stored_at m l shape.label a c shape.parts e (Some w.free_symbol) refl (fresh.free, fresh_made w.in_use _ x fresh) })
row_made (takes m l lp lr ls a ps c t xs b1 b2 b3 b4 b5 b6 b7 b8 b9) so = absurd (cc so)
row_made (nested m l lp lq ls a ps rs c k p v u x b1 b2 b3 b4 b5 b6 b7 b8 b9) so = absurd (cc so)

pub stores-rule : PlainRule StoresRow (Before SomeStored)
stores-rule = record {
  nodes = λ n s s' x y h. row_nodes h.row;
  pending = λ n s s' t u h. row_pending h.row;
  this = λ n s s' t u h. row_this h.row;
  top = λ n s s' t u h. row_top h.row;
  made = λ n s s' t u h. row_made h.row h.stored;
}

-- IT DECLARES ITS NAME MORE
pub lone_joined : (a c : Trees) (l : Label) (p e : Tree) → is_lone_declarator (joined_trees a (declares_as l p e before c)) ≡ false
lone_joined empty empty l p e = refl
lone_joined empty (d before c) l p e = refl
lone_joined (d before empty) c l p e = refl
lone_joined (d before (b before a)) c l p e = refl

pub or_true : (b : Bool) → (b || true) ≡ true
or_true true = refl
or_true false = refl

pub one_name : (x y : Text) → (bytes_eq y x || false) ≡ true → y ≡ x
one_name x y e = at (bytes_eq y x) refl e
  where
    at : (b : Bool) → bytes_eq y x ≡ b → (b || false) ≡ true → y ≡ x
    at true g e = (bytes_eq-Decides y x).0 g
    at false g e = absurd (cc e)

module _ (x : Text) (l lp : Label) (ps c : Trees) (e : Tree) (s : Option ℕ) where
  abbrev name : Tree
  name = identifier (record { name = x; symbol = s })

  abbrev before_it : Trees
  before_it = declares_as l (pattern_node lp ps) e before c

  abbrev after_it : Trees
  after_it = declarator_with name e before declares_as l (pattern_node lp ps) name before c

  more_names : (a : Trees) (w : Text) → NamesMore (among_names (x ∷ [])) (declarators_names w (joined_trees a before_it)) (declarators_names w (joined_trees a after_it))
  more_names empty w = one_more (ap (λ b. b || false) (bytes_eq-self x)) (same_names (among_names (x ∷ [])) (declarators_names w before_it))
  more_names (d before a) w = more_append (x ∷ []) (same_names (among_names (x ∷ [])) _) (more_names a w)

  names_it : (a : Trees) (w : Text) → Decl (x ∷ []) (declarators_names w (joined_trees a after_it))
  names_it empty w y h = subst (λ z. declares (declarators_names w after_it) z ≡ true) (sym (one_name x y h)) (ap (λ b. b || declares (declarators_names w before_it) x) (bytes_eq-self x))
  names_it (d before a) w y h = in_right (x ∷ []) _ (declarators_names w (joined_trees a after_it)) (names_it a w) y h

  pattern_joined : (a : Trees) → has_pattern (joined_trees a before_it) ≡ true
  pattern_joined empty = refl
  pattern_joined (d before a) = ap (λ b. not (binds_name d) || b) (pattern_joined a) ∙ or_true (not (binds_name d))

grow : (w : Whole) (i : Bool × Text) (a b : Tree) → StoredAt w i a b → Grows i.0 (i.1 ∷ []) a b
grow w i _ _ (stored_at m l lp a c ps e s word new) =
    grows m (joined_trees a (declares_as l (pattern_node lp ps) e before c)) _ word (lone_joined a c l (pattern_node lp ps) e) (more_names i.1 l lp ps c e s a) (names_it i.1 l lp ps c e s a)

-- IT IS A ROW OF THE MACHINE
pub joined_same : (a c : Trees) → joined_trees a c ≡ followed a c
joined_same empty c = refl
joined_same (d before a) c = ap (λ ts. d before ts) (joined_same a c)

pub joined_avoids : (bad : Level → Text → Bool) (t : Take) (a c : Trees) → avoids_trees bad t (joined_trees a c) ≡ true → (avoids_trees bad t a ≡ true) × (avoids_trees bad t c ≡ true)
joined_avoids bad t empty c h = (refl, h)
joined_avoids bad t (d before a) c h =
    let p = and_parts (avoids bad t d) (avoids_trees bad t (joined_trees a c)) h in
    let q = joined_avoids bad t a c p.1 in
    (both (avoids bad t d) (avoids_trees bad t a) p.0 q.0, q.1)
  where
    both : (a b : Bool) → a ≡ true → b ≡ true → (a && b) ≡ true
    both true b e f = f
    both false b e f = absurd (cc e)

pub declared_is : (ds : List Declared) (x : Text) → declares ds x ≡ true → is_declared ds x ≡ true
declared_is ds x h = ap (λ b. not (is_free b)) (top_bound ds x) ∙ ap not (entered_free ds [] (λ z. free) x refl ∙ ap (λ es. not (declares es x)) (append-nil ds) ∙ ap not h)

pub undeclared_is : (ds : List Declared) (y : Text) → is_declared ds y ≡ true → declares ds y ≡ true
undeclared_is ds y h = at (declares ds y) refl
  where
    at : (b : Bool) → declares ds y ≡ b → b ≡ true
    at true g = refl
    at false g =
        let f : is_free (scope_of ds y) ≡ true = ap is_free (top_bound ds y) ∙ entered_free ds [] (λ z. free) y refl ∙ ap (λ es. not (declares es y)) (append-nil ds) ∙ ap not g in
        absurd (let no : true ≡ false = sym h ∙ ap not f in cc no)

pub still_declared : {fresh : Text → Bool} {ds es : List Declared} → NamesMore fresh ds es → (y : Text) → declares ds y ≡ true → declares es y ≡ true
still_declared no_names y e = e
still_declared (as_before {d = d} {ds = ds} {es = es} h) y e = at (bytes_eq d.name y) (declares ds y) (declares es y) e (still_declared h y)
  where
    at : (a b c : Bool) → (a || b) ≡ true → (b ≡ true → c ≡ true) → (a || c) ≡ true
    at true b c e f = refl
    at false b c e f = f e
still_declared (one_more {d = d} e h) y g = ap (λ b. bytes_eq d.name y || b) (still_declared h y g) ∙ or_true (bytes_eq d.name y)

pub no_using : (a b : Bool) → b ≡ true → not (a && b) ≡ true → a ≡ false
no_using true true e h = absurd (cc h)
no_using true false e h = absurd (cc e)
no_using false b e h = refl

row : (w : Whole) (i : Bool × Text) (D : List Declared) (t : Take) (a b : Tree) → StoredAt w i a b → Apt a → avoids (bad_fresh (i.1 ∷ [])) t a ≡ true → Decl (i.1 ∷ []) D → StoreRow (i.1 ∷ []) D t a b
row w i D t _ _ (stored_at m l lp a c ps e s word new) apt av decl =
    let x = i.1 in
    let bad = bad_fresh (x ∷ []) in
    let P = pattern_node lp ps in
    let first = declares_as l P e before c in
    let X = identifier (record { name = x; symbol = s }) in
    let second = declarator_with X e before declares_as l P X before c in
    let list = (and_parts (avoids_trees bad declarators_taken (joined_trees a first)) true av).0 in
    let q = joined_avoids bad declarators_taken a first list in
    let r = and_parts (avoids bad declarators_taken (declares_as l P e)) (avoids_trees bad declarators_taken c) q.1 in
    let o = and_parts (avoids bad target_taken P) (avoids bad value_taken e && true) r.0 in
    let using_none = no_using (is_word (codes "using") (first_text m.texts)) (has_pattern (joined_trees a first)) (pattern_joined x l lp ps c e s a) (using_so VariableDeclaration m (many (joined_trees a first) then done) apt) in
    subst (λ ts. StoreRow (x ∷ []) D t (declaring m ts) (declaring m (joined_trees a second))) (sym (joined_same a first))
    (subst (λ ts. StoreRow (x ∷ []) D t (declaring m (followed a first)) (declaring m ts)) (sym (joined_same a second))
    (store_row l _ l lp (s ∷ []) (s ∷ []) x a ps e c refl (ap (λ b. b || false) (bytes_eq-self x)) (declared_is D x (decl x (ap (λ b. b || false) (bytes_eq-self x)))) using_none q.0 o.0 (and_parts (avoids bad value_taken e) true o.1).0 r.1))

-- PROGRAMS
apart_from : (w : Whole) (x : Text) → IsNew w x → (y : Text) → w.in_use y ≡ true → among_names (x ∷ []) y ≡ false
apart_from w x new y used = at (among_names (x ∷ []) y) refl
  where
    at : (b : Bool) → among_names (x ∷ []) y ≡ b → b ≡ false
    at true g = absurd (let same : y ≡ x = one_name x y g in let no : false ≡ true = sym new.0 ∙ ap w.in_use (sym same) ∙ used in cc no)
    at false g = refl

is_new : {w : Whole} {i : Bool × Text} {a b : Tree} → StoredAt w i a b → IsNew w i.1
is_new (stored_at m l lp a c ps e s word new) = new

module _ (u : Supply) (w : Whole) (v : Bool) (x : Text) (new : IsNew w x) (p q : Tree) (apt : Apt p) (named : Named w.in_use w.free_symbol reads p) (changed : ProgramChanged (StoredAt w (v, x)) p q) (silent : silent_names u p ≡ []) (silent_after : silent_names u q ≡ []) where
  abbrev xs : List Text
  xs = x ∷ []

  abbrev P : Tree
  P = program changed.label changed.directives changed.body

  abbrev Q : Tree
  Q = program changed.label changed.directives changed.after

  abbrev fields : Fields
  fields = many changed.directives then (statements changed.body then done)

  all_are_made : all_made xs ≡ true
  all_are_made = ap (λ b. b && true) new.1

  names : Named w.in_use w.free_symbol reads P
  names = subst (λ t. Named w.in_use w.free_symbol reads t) changed.first named

  fine : Apt P
  fine = subst (λ t. Apt t) changed.first apt

  none : silent_names u P ≡ []
  none = sym (ap (silent_names u) changed.first) ∙ silent

  none_after : silent_names u Q ≡ []
  none_after = sym (ap (silent_names u) changed.second) ∙ silent_after

  false_where : (b : Bool) → (b ≡ true → ⊥) → b ≡ false
  false_where true n = absurd (n refl)
  false_where false n = refl

  fresh_names : FreshNames u xs changed.label changed.directives changed.body changed.after
  fresh_names = record {
    tops = tops_more v xs (StoredAt w (v, x)) (grow w (v, x)) changed.changed changed.parts;
    uses = using_same_in v xs (StoredAt w (v, x)) (grow w (v, x)) changed.changed;
    silents = none_after ∙ sym none;
    unsilent = λ y e. ap (λ es. is_silent es y) none;
    undeclared = λ y d. apart_from w x new y (top_used w.in_use w.free_symbol changed.label fields fine.0 names y (undeclared_is (top_in changed.body) y d));
    math = made_math xs all_are_made;
    program_names = made_program_names xs all_are_made;
    supply = made_supply u xs all_are_made;
  }

  avoid : avoids_trees (bad_fresh xs) body_needs changed.body ≡ true
  avoid = unused_avoids_all w.in_use w.free_symbol (among_names xs) (λ y e. apart_from w x new y e) (role_at reads Program changed.label fields 1) body_needs changed.body (λ e. absurd (cc e)) names.1.1.0 (and_parts (all_in_trees stands changed.body) true (and_parts (all_in_trees stands changed.directives) (all_in_trees stands changed.body && true) (standing Program changed.label fields fine.0).below).1).0

  pub stores_run : RunAlike u false p q
  stores_run =
      subst (λ t. RunAlike u false t q) (sym changed.first) (subst (λ t. RunAlike u false P t) (sym changed.second)
      (law_stored_proof u xs changed.label changed.directives changed.body changed.after
      (list_grown_at_top v xs (StoredAt w (v, x)) (grow w (v, x)) (bad_fresh xs) (StoreRow xs) (row w (v, x)) changed.changed (top_in changed.after) changed.parts avoid (λ d. d)) fresh_names))

-- what the changed place says
module _ (A : Tree → Tree → Type 0) (T : Type 0) (says : (a b : Tree) → A a b → T) where
  mutual
    pub said_of : {a b : Tree} → Changed A a b → T
    said_of (here {a = a} {b = b} h) = says a b h
    said_of (below h) = said_in h

    said_in : {fs gs : Fields} → ChangedIn A fs gs → T
    said_in (first_of h) = said_by h
    said_in (later_of h) = said_in h

    said_by : {f g : Field} → ChangedBy A f g → T
    said_by (one_of h) = said_of h
    said_by (many_of h) = said_among h
    said_by (statements_of h) = said_among h

    said_among : {ts us : Trees} → ChangedAmong A ts us → T
    said_among (head_of h) = said_of h
    said_among (tail_of h) = said_among h

pub kind_program : (t : Tree) → has_form s-Program t ≡ true → is_program (kind_of t) ≡ true
kind_program (node k l fs) h = subst (λ j. is_program j ≡ true) (sym (form-placed (node k l fs) h).0) refl

-- of an open program with nothing pending
pub record StoredAlike (u : Supply) (s s' : Ledger) (p : Tree) (y : Open) : Type 0 where
  pub runs : silent_names u (finished y) ≡ [] → RunAlike u false p (finished y)
  pub declared : (z : Text) → is_declared (declared_at_top p) z ≡ true → is_declared (declared_at_top (finished y)) z ≡ true
  pub left : Left s s' (IsQuiet y) (Changed (SomeStored (whole_in s)) p (finished y))

module _ (u : Supply) (s s' : Ledger) (p : Tree) (y : Open) (v : Bool) (x : Text) where
  abbrev At : Tree → Tree → Type 0
  At = StoredAt (whole_in s) (v, x)

  alike_of : Apt p → Named (whole_in s).in_use (whole_in s).free_symbol reads p → silent_names u p ≡ [] → Left s s' (IsQuiet y) (Changed (SomeStored (whole_in s)) p (finished y)) → Changed At p (finished y) → ProgramChanged At p (finished y) → StoredAlike u s s' p y
  alike_of apt named silent left place changed = record {
    runs = λ after. stores_run u (whole_in s) v x (said_of At (IsNew (whole_in s) x) (λ a b h. is_new h) place) p (finished y) apt named changed silent after;
    declared = λ z e. subst (λ t. is_declared (declared_at_top t) z ≡ true) {x = program changed.label changed.directives changed.after} (sym changed.second)
        (declared_is (top_in changed.after) z (still_declared (tops_more v (x ∷ []) At (grow (whole_in s) (v, x)) changed.changed changed.parts) z
        (undeclared_is (top_in changed.body) z (subst (λ t. is_declared (declared_at_top t) z ≡ true) {x = p} changed.first e))));
    left = left;
  }

  alike_at : Apt p → Named (whole_in s).in_use (whole_in s).free_symbol reads p → silent_names u p ≡ [] → is_program (kind_of p) ≡ true → Left s s' (IsQuiet y) (Changed (SomeStored (whole_in s)) p (finished y)) → Changed At p (finished y) → StoredAlike u s s' p y
  alike_at apt named silent program left place = alike_of apt named silent left place (program_changed v (x ∷ []) At (grow (whole_in s) (v, x)) place apt program)

module _ (u : Supply) (s s' : Ledger) (p : Tree) (y : Open) (apt : Apt p) (named : Named (whole_in s).in_use (whole_in s).free_symbol reads p) (silent : silent_names u p ≡ []) (program : is_program (kind_of p) ≡ true) (left : Left s s' (IsQuiet y) (Changed (SomeStored (whole_in s)) p (finished y))) where
  alike_where : Picked (Bool × Text) (λ i. Changed (StoredAt (whole_in s) i) p (finished y)) → StoredAlike u s s' p y
  alike_where place = alike_at u s s' p y place.index.0 place.index.1 apt named silent program left place.holds

pub stored_alike : (u : Supply) (s s' : Ledger) (x y : Open) → IsStatementProgram (finished x) → Named (whole_in s).in_use (whole_in s).free_symbol reads (finished x) → Step StoresRow the_program s x s' y → IsQuiet x → silent_names u (finished x) ≡ [] → StoredAlike u s s' (finished x) y
stored_alike u s s' x y class named step quiet silent =
    let keeps = (law_places_proof (finished x)).to_places (law_among_proof (finished x) class.rules) in
    let apt : Apt (finished x) = (program_stands (finished x) class.form class.without_functions keeps, program_tested (finished x) class.form class.without_functions keeps) in
    let left = step_changed StoresRow (Before SomeStored) stores-rule step quiet in
    alike_where u s s' (finished x) y apt named silent (kind_program (finished x) class.form) left (pick (Bool × Text) (StoredAt (whole_in s)) left.changed)

one_step : (u : Supply) (w : Whole) (s : Ledger) (t : Tree) (p q : Open) → finished p ≡ t → IsStatementProgram t → Named w.in_use w.free_symbol reads t → Step StoresRow the_program (nothing_beside w) p s q → IsQuiet p → silent_names u t ≡ [] → silent_names u (finished q) ≡ [] → RunAlike u false t (finished q)
one_step u w s t p q same class named step quiet silent after =
    subst (λ (t : Tree). RunAlike u false t (finished q)) {x = finished p} same
    ((stored_alike u (nothing_beside w) s p q (subst (λ (t : Tree). IsStatementProgram t) {x = t} (sym same) class) (subst (λ (t : Tree). Named w.in_use w.free_symbol reads t) {x = t} (sym same) named) step quiet (subst (λ (t : Tree). silent_names u t ≡ []) {x = t} (sym same) silent)).runs after)

pub law_stores_proof : LawStores
law_stores_proof u w s p q class bound step silent silent_after = one_step u w s p (opened p) q (finished-opened p) class bound.named step (opened_quiet p) silent silent_after
