-- Where a rest is taken: the names of the row are declared around, nothing in its pattern writes the source, and so it is a row of the machine.
use Rattle.std.proofs.Common.{◌≡◌, ℕ, refl, sym, ap, subst, ◌∙◌, List, [], ◌∷◌}
use Rattle.std.proofs.lemmas.Bool.{and_from, and_parts}
use Rattle.std.proofs.lemmas.Slice.Eq.{bytes_eq-Decides}
use Rattle.std.specs.Prelude.{Bool, true, false, ◌&&◌, ◌||◌, Option, bytes_eq, codes, is_some, if◌then◌else◌}
use Rattle.es_tree.specs.Names.{first_text}
use Rattle.es_tree.specs.Scopes.{Declared, declares}
use Rattle.es_tree.specs.StaticRules.{has_pattern}
use Rattle.es_tree.specs.Tree.{Tree, node, Label, Fields, done, ◌then◌, one, many, Trees, empty, ◌before◌}
use Rattle.es_tree.specs.Walks.{all_in_trees}
use Rattle.es_tree.specs.Words.{Text}
use Rattle.es_tree.specs.declared.ast_type.AstType.TheVariants.{ObjectPattern, RestElement, VariableDeclaration}
use Rattle.es_runs.specs.Alike.{Alike, Equal, Frame, SameWorld}
use Rattle.es_runs.specs.Core.{Binding, Meaning, World, declarator, gives_value, is_free, name, value}
use Rattle.es_runs.specs.Core.Binding.{changeable, constant, free, silent}
use Rattle.es_runs.specs.Machine.{M, State, Value, ◌>>=◌, return, set_cell}
use Rattle.es_runs.specs.Machine.Value.{undefined}
use Rattle.es_runs.proofs.Basic.{then_alike}
use Rattle.es_runs.specs.Runs.{identifier, is_declared, only, program}
use Rattle.es_semantic.specs.RolesOf.{binding_of, role_at}
use Rattle.es_semantic.specs.SymbolsOf.{hoists}
use Rattle.es_semantic.specs.declared.place.Role.{Role}
use Rattle.es_semantic.specs.declared.place.Role.TheVariants.{Binds}
use Rattle.es_resolution.specs.Declarations.{Bound, symbol_of}
use Rattle.es_resolution.specs.Resolved.{Place, place_in}
use Rattle.es_steps.specs.Nodes.{declarator_with, joined_trees, made}
use Rattle.es_steps.specs.ObjectRest.{declares_as, left_of, whole_value}
use Rattle.es_steps.specs.Steps.{Whole}
use Rattle.es_rest_shapes.specs.RestShapes.{any_tree, are_plain, is_plain_property, reads_key}
use Rattle.es_rest_rows.specs.RestRows.{NamesKeys, declaring, groups, keys_of, with_rest}
use Rattle.es_statement_runs.specs.Alike.{SenseLike}
use Rattle.es_statement_runs.specs.Helpers.{silent_names}
use Rattle.es_statement_runs.specs.Helpers.Supply.{by_global}
use Rattle.es_statement_runs.specs.Kinds.{sense, senses}
use Rattle.es_statement_runs.specs.Laws.{among_names, any_cells, bare_rest_call, declaration_of, declares_from, followed, is_silent, object_pattern_at}
use Rattle.es_statement_runs.specs.Names.{is_word}
use Rattle.es_statement_runs.specs.Patterns.{object_pattern}
use Rattle.es_statement_runs.specs.Senses.{Place as SensePlace, cores, members_in, said_in}
use Rattle.es_statement_runs.proofs.CatchPatterns.{aims_like}
use Rattle.es_statement_runs.proofs.ObjectRests.{bare_runs}
use Rattle.es_statement_runs.proofs.PatternsAlike.{put_alike_then}
use Rattle.es_statement_runs.specs.Places.{Take, avoids, avoids_trees, more_taken, placed_at, target_taken, value_taken}
use Rattle.es_statement_runs.specs.Scopes.{is_own_cell}
use Rattle.es_statement_runs.proofs.Spreads.{calls_helper, helpers_}
use Rattle.es_statement_steps.proofs.Below.{BelowTrees, map_trees, both_trees}
use Rattle.es_statement_steps.proofs.FreshNames.{unused_avoids_all}
use Rattle.es_statement_steps.proofs.SameSenses.{AllSame, SameSense, node-same, one-same}
use Rattle.es_statement_steps.proofs.Stands.{standing, stands}
use Rattle.es_split_runs.specs.Laws.{FreshNames, ReadAgain, bad_fresh, bad_held, declarators_taken, left_call, some_name}
use Rattle.es_split_runs.specs.Laws.TakenRow.{taken_row}
use Rattle.es_split_runs.proofs.Declarators.{Both, alike_by, and_undefined, bound_says, declared_turns, in_turn, is_bound, named_core, turns_by, valued_more}
use Rattle.es_split_runs.proofs.KnownNames.{Known as NamesKnown, fresh_quiet, fresh_stack}
use Rattle.es_split_runs.proofs.Parts.{part_like}
use Rattle.es_split_runs.proofs.Split.{split_like}
use Rattle.es_split_runs.proofs.Taken.{taken_like}
use Rattle.es_rest_runs.proofs.GrownNames.{Apt, Decl, using_so}
use Rattle.es_rest_runs.proofs.SeenPlaces.{Known, Seen, known_below, known_joined}
use Rattle.es_rest_runs.proofs.SeenPrograms.{Raw}
use Rattle.es_rest_runs.proofs.SourcePlaces.{SourceFacts, known_pattern, not_own, place_2, source_facts}
use Rattle.es_rest_runs.proofs.SparedNames.{avoids_both}
use Rattle.es_rest_runs.proofs.Stores.{declared_is, joined_avoids, no_using, still_declared}
use Rattle.es_rest_runs.proofs.TakenGroups.{PropertyLeaves, all_self, as_same, build, call_same, declaration_same, declarator_same, joined_followed, keys_new, one_and, pattern_same, some_read, texts_of}
use Rattle.es_rest_runs.proofs.TakenNames.{TakenAt, joined_one, name_at, pattern_there}
use Rattle.es_rest_runs.proofs.TakenNames.TakenAt.{taken_at}

-- TWO NAMES
two_names : (C : Text → Type 0) (s r : Text) → C s → C r → (y : Text) → among_names (s ∷ r ∷ []) y ≡ true → C y
two_names C s r h g y e = at (bytes_eq y s) (bytes_eq y r) refl refl e
  where
    at : (a b : Bool) → bytes_eq y s ≡ a → bytes_eq y r ≡ b → (a || (b || false)) ≡ true → C y
    at true b i j e = subst C (sym ((bytes_eq-Decides y s).0 i)) h
    at false true i j e = subst C (sym ((bytes_eq-Decides y r).0 j)) g
    at false false i j e = absurd (cc e)

first_name : (s r : Text) → among_names (s ∷ r ∷ []) s ≡ true
first_name s r = ap (λ b. b || (bytes_eq s r || false)) ((bytes_eq-Decides s s).1 refl)

second_name : (s r : Text) → among_names (s ∷ r ∷ []) r ≡ true
second_name s r = ap (λ b. bytes_eq r s || (b || false)) ((bytes_eq-Decides r r).1 refl) ∙ or_so (bytes_eq r s)
  where
    or_so : (b : Bool) → (b || true) ≡ true
    or_so true = refl
    or_so false = refl

-- what is known of the first ones of a list
known_first : (w : Whole) (r : Role) (p : Place) (a c : Trees) → BelowTrees (Known w r p) (joined_trees a c) → BelowTrees (Known w r p) a
known_first w r p empty c h = tt
known_first w r p (d before a) c h = (h.0, known_first w r p a c h.1)

plain_each : (ps : Trees) → are_plain ps ≡ true → BelowTrees (λ t. is_plain_property t ≡ true) ps
plain_each empty h = tt
plain_each (p before ps) h = let d = and_parts (is_plain_property p) (are_plain ps) h in (d.0, plain_each ps d.1)

-- WHAT IS KNOWN of the name of the rest, and of the properties
record RestFacts (w : Whole) (around : List Declared) (lt : Label) (ps : Trees) : Type 0 where
  bound : declares around (first_text lt.texts) ≡ true
  used : w.in_use (first_text lt.texts) ≡ true
  no_cell : is_own_cell (first_text lt.texts) ≡ false
  leaves : BelowTrees PropertyLeaves ps

module _ (w : Whole) (xs : List Text) (D : List Declared) (m l lp lr ls lt : Label) (a ps c : Trees) (plain : are_plain ps ≡ true) (leaves : (p : Tree) → is_plain_property p ≡ true → (r : Role) (q : Place) → Known w r q p → PropertyLeaves p) where
  abbrev rest : Tree
  rest = node RestElement lr (one (name_at lt) then done)

  abbrev parts : Trees
  parts = joined_trees ps (rest before empty)

  abbrev binds : Role
  binds = Binds (binding_of (first_text m.texts))

  rest_facts : (seen : Seen w xs D (declaring m (joined_trees a (declares_as l (with_rest lp ps lr (name_at lt)) (name_at ls) before c)))) → RestFacts w seen.around lt ps
  rest_facts seen =
      let p2 = place_2 w xs D m l lp ls a parts c seen in
      let fs2 : Fields = many parts then done in
      let p3 = place_in p2 ObjectPattern lp (role_at binds ObjectPattern lp fs2) fs2 0 in
      let inside = (known_below w binds p2 ObjectPattern lp fs2 (known_pattern w xs D m l lp ls a parts c seen)).0 in
      let of_rest : Known w binds p3 rest = (known_joined w binds p3 ps (rest before empty) inside).0 in
      let fs3 : Fields = one (name_at lt) then done in
      let p4 = place_in p3 RestElement lr (role_at binds RestElement lr fs3) fs3 0 in
      let of_name : Known w binds p4 (name_at lt) = (known_below w binds p3 RestElement lr fs3 of_rest).0 in
      let own = of_name.resolved.0 in
      let found : symbol_of lt ≡ (if hoists (binding_of (first_text m.texts)) then seen.place.hoist (first_text lt.texts) else seen.place.scope (first_text lt.texts)) = own.0 in
      record {
        bound = by_word (hoists (binding_of (first_text m.texts))) seen (symbol_of lt) (first_text lt.texts) found own.1;
        used = of_name.named.0.0;
        no_cell = not_own lt of_name.cells;
        leaves = map_trees (λ t. (is_plain_property t ≡ true) × Known w binds p3 t) PropertyLeaves (λ t q. leaves t q.0 binds p3 q.1) ps
            (both_trees (λ t. is_plain_property t ≡ true) (λ t. Known w binds p3 t) ps (plain_each ps plain) (known_first w binds p3 ps (rest before empty) inside));
      }
    where
      by_word : (b : Bool) {t : Tree} (seen : Seen w xs D t) (o : Option ℕ) (x : Text) → o ≡ (if b then seen.place.hoist x else seen.place.scope x) → is_some o ≡ true → declares seen.around x ≡ true
      by_word true seen o x e h = seen.hoisted x (ap is_some (sym e) ∙ h)
      by_word false seen o x e h = sym (seen.found x) ∙ (ap is_some (sym e) ∙ h)

-- THE ROW OF THE MACHINE

module _ (w : Whole) (v : Bool) (ns : List Bound) {lg : Label} {ds body after : Trees} (fresh : FreshNames by_global (texts_of ns) lg ds body after) (none : silent_names by_global (program lg ds body) ≡ [])
    (leaves : (p : Tree) → is_plain_property p ≡ true → (r : Role) (q : Place) → Known w r q p → PropertyLeaves p) where
  abbrev xs : List Text
  xs = texts_of ns

  abbrev NamesAt : List Declared → World → World → Type 0
  NamesAt = NamesKnown (λ y. true) (only helpers_) xs

  abbrev Like : Take → List Text → Text → World → World → Tree → Tree → Type 0
  Like t ls y W V a b = SenseLike (any_cells (among_names xs)) W V t (sense (placed_at by_global W ls y) a) (sense (placed_at by_global V ls y) b)

  unused : (x : Text) → w.in_use x ≡ true → {w' : Whole} {ps : Trees} → NamesKeys w ps ns w' → among_names xs x ≡ false
  unused x e keys = at (among_names xs x) refl
    where
      at : (b : Bool) → among_names xs x ≡ b → b ≡ false
      at false g = refl
      at true g = absurd (let no : w.in_use x ≡ false = keys_new keys x g in cc (no, e))

  module _ {w' : Whole} (m l lp lr ls lt : Label) (a ps c : Trees) (plain : are_plain ps ≡ true) (keys : NamesKeys w ps ns w') (D : List Declared) (around : Decl xs D) (apt : Apt (declaring m (joined_trees a (declares_as l (with_rest lp ps lr (name_at lt)) (name_at ls) before c))))
      (seen : Seen w xs D (declaring m (joined_trees a (declares_as l (with_rest lp ps lr (name_at lt)) (name_at ls) before c)))) (known : SourceFacts w seen.around ls (with_rest lp ps lr (name_at lt))) (known_rest : RestFacts w seen.around lt ps) where
    abbrev s : Text
    s = first_text ls.texts

    abbrev r : Text
    r = first_text lt.texts

    abbrev ss : List Text
    ss = s ∷ r ∷ []

    abbrev list : Trees
    list = joined_trees a (declares_as l (with_rest lp ps lr (name_at lt)) (name_at ls) before c)

    again : ReadAgain by_global xs ss lg ds body
    again = two_names (λ y. (among_names xs y ≡ false) × (is_own_cell y ≡ false) × (is_silent (silent_names by_global (program lg ds body)) y ≡ false)) s r
        (unused s known.used keys, known.no_cell, ap (λ es. is_silent es s) none) (unused r known_rest.used keys, known_rest.no_cell, ap (λ es. is_silent es r) none)

    -- what the declarators avoid
    listed : avoids_trees (bad_fresh xs) declarators_taken list ≡ true
    listed = unused_avoids_all w.in_use w.free_symbol (among_names xs) (λ y e. unused y e keys) (Binds (binding_of (first_text m.texts))) declarators_taken list (λ e. absurd (cc e)) seen.known.named.1.0
        (and_parts (all_in_trees stands list) true (standing VariableDeclaration m (many list then done) seen.known.fine).below).0

    before_it : (avoids_trees (bad_fresh xs) declarators_taken a ≡ true) × (avoids_trees (bad_fresh xs) declarators_taken (declares_as l (with_rest lp ps lr (name_at lt)) (name_at ls) before c) ≡ true)
    before_it = joined_avoids (bad_fresh xs) declarators_taken a (declares_as l (with_rest lp ps lr (name_at lt)) (name_at ls) before c) listed

    behind_it : (avoids (bad_fresh xs) declarators_taken (declares_as l (with_rest lp ps lr (name_at lt)) (name_at ls)) ≡ true) × (avoids_trees (bad_fresh xs) declarators_taken c ≡ true)
    behind_it = and_parts (avoids (bad_fresh xs) declarators_taken (declares_as l (with_rest lp ps lr (name_at lt)) (name_at ls))) (avoids_trees (bad_fresh xs) declarators_taken c) before_it.1

    parts_avoid : (avoids (bad_fresh xs) target_taken (with_rest lp ps lr (name_at lt)) ≡ true) × ((avoids (bad_fresh xs) value_taken (name_at ls) && true) ≡ true)
    parts_avoid = and_parts (avoids (bad_fresh xs) target_taken (with_rest lp ps lr (name_at lt))) (avoids (bad_fresh xs) value_taken (name_at ls) && true) behind_it.0

    pattern_avoids : avoids (bad_held xs s) target_taken (with_rest lp ps lr (name_at lt)) ≡ true
    pattern_avoids = avoids_both (among_names xs) (only s) target_taken (with_rest lp ps lr (name_at lt)) parts_avoid.0 known.spared

    properties_avoid : avoids (bad_held xs s) target_taken (object_pattern_at lp ps) ≡ true
    properties_avoid = and_from (avoids_trees (bad_held xs s) more_taken ps) true
        (joined_avoids (bad_held xs s) more_taken ps (rest_tree before empty) (and_parts (avoids_trees (bad_held xs s) more_taken (joined_trees ps (rest_tree before empty))) true pattern_avoids).0).0 refl
      where
        rest_tree : Tree
        rest_tree = node RestElement lr (one (name_at lt) then done)

    not_using : is_word (codes "using") (first_text m.texts) ≡ false
    not_using = no_using (is_word (codes "using") (first_text m.texts)) (has_pattern list) (pattern_there w ns l lp lr ls lt c ps a) (using_so VariableDeclaration m (many list then done) apt)

    declared : (x : Text) → declares seen.around x ≡ true → is_declared D x ≡ true
    declared x h = declared_is D x (still_declared seen.more x h)

    abbrev rest_old : Tree
    rest_old = node RestElement lr (one (name_at lt) then done)

    abbrev rest_new : Tree
    rest_new = node RestElement lr (one (identifier r) then done)

    abbrev pattern_old : Tree
    pattern_old = with_rest lp ps lr (name_at lt)

    abbrev pattern_new : Tree
    pattern_new = object_pattern_at lp (followed ps (rest_new before empty))

    abbrev declarator_old : Tree
    declarator_old = declares_as l pattern_old (name_at ls)

    abbrev declarator_new : Tree
    declarator_new = declares_from l pattern_new (identifier s)

    abbrev first_new : Tree
    first_new = declaration_of m (followed a (declarator_new before c))

    first_same : SameSense (declaring m list) first_new
    first_same =
        declaration_same m list (followed a (declarator_new before c))
        (joined_followed a a (declarator_old before c) (declarator_new before c) (all_self a)
        (one_and declarator_old declarator_new c c
        (declarator_same l pattern_old pattern_new (name_at ls) (identifier s) (pattern_same lp (joined_trees ps (rest_old before empty)) (followed ps (rest_new before empty))
        (joined_followed ps ps (rest_old before empty) (rest_new before empty) (all_self ps)
        (one_and rest_old rest_new empty empty (node-same RestElement lr (one (name_at lt) then done) (one (identifier r) then done) refl refl refl (one-same (name_at lt) (identifier r) (λ p. refl))) (all_self empty)))) (λ p. refl)) (all_self c)))

    -- the groups and the rest behind
    built_like : (W V : World) → SameWorld (among_names xs) W V → NamesAt D W V → (t : Take) (ls' : List Text) (y : Text) →
        Like t ls' y W V (declaring m list) (declaring m (joined_trees a (joined_trees (joined_trees (groups lp (name_at ls) ns empty ps) (declarator_with (name_at lt) (left_of (any_tree reads_key ps) (name_at ls) (keys_of ns ps)) before empty)) c)))
    built_like W V same names t ls' y =
        let made_ = build xs D lp (name_at ls) s (λ p. refl) keys plain known_rest.leaves (λ y e. (e, declared_is D y (around y e))) empty empty (all_self empty) in
        let G : Trees = groups lp (name_at ls) ns empty ps in
        let last : Tree = declarator_with (name_at lt) (left_of (any_tree reads_key ps) (name_at ls) (keys_of ns ps)) in
        let last' : Tree = declares_from (made [] []) (identifier r) (left_call (some_name xs) s made_.left) in
        let last_same : SameSense last last' = declarator_same (made [] []) (name_at lt) (identifier r) (left_of (any_tree reads_key ps) (name_at ls) (keys_of ns ps)) (left_call (some_name xs) s made_.left) (λ p. refl)
        (call_same xs D lp (name_at ls) s (λ p. refl) (any_tree reads_key ps) (some_name xs) (keys_of ns ps) made_.left (some_read keys) made_.listed) in
        let second : Tree = declaring m (joined_trees a (joined_trees (joined_trees G (last before empty)) c)) in
        let second' : Tree = declaration_of m (followed a (followed made_.declarators (last' before c))) in
        let second_same : SameSense second second' =
        declaration_same m (joined_trees a (joined_trees (joined_trees G (last before empty)) c)) (followed a (followed made_.declarators (last' before c)))
        (joined_followed a a (joined_trees (joined_trees G (last before empty)) c) (followed made_.declarators (last' before c)) (all_self a)
        (subst (λ us. AllSame us (followed made_.declarators (last' before c))) (sym (joined_one G last c))
        (joined_followed G made_.declarators (last before c) (last' before c) made_.same (one_and last last' c c last_same (all_self c))))) in
        as_same by_global (among_names xs) t ls' y W V (declaring m list) second first_new second' first_same second_same
        (taken_like xs ss fresh again D t first_new second'
        (taken_row l (made [] []) lp lr s r a ps made_.declarators c made_.left xs refl not_using (first_name s r) (declared s known.bound) (second_name s r) (declared r known_rest.bound) made_.built before_it.0 properties_avoid behind_it.1)
        W V same (names.0, (λ y e d. names.1 y refl d), names.2) ls' y)

  -- THE REST ALONE

  module _ {w' : Whole} (m l lp lr ls lt : Label) (a c : Trees) (keys : NamesKeys w empty ns w') (D : List Declared) (apt : Apt (declaring m (joined_trees a (declares_as l (with_rest lp empty lr (name_at lt)) (name_at ls) before c)))) (around : Decl xs D)
      (seen : Seen w xs D (declaring m (joined_trees a (declares_as l (with_rest lp empty lr (name_at lt)) (name_at ls) before c)))) (known : SourceFacts w seen.around ls (with_rest lp empty lr (name_at lt))) (known_rest : RestFacts w seen.around lt empty) (W V : World) (same : SameWorld (among_names xs) W V) (names : NamesAt D W V) where
    abbrev s' : Text
    s' = first_text ls.texts

    abbrev r' : Text
    r' = first_text lt.texts

    abbrev rest' : Trees
    rest' = node RestElement lr (one (identifier r') then done) before empty

    abbrev kind : Text
    kind = first_text m.texts

    abbrev F : Frame
    F = any_cells (among_names xs)

    abbrev inner_W : SensePlace
    inner_W = placed_at by_global W [] []

    abbrev inner_V : SensePlace
    inner_V = placed_at by_global V [] []

    abbrev Before : M Value
    Before = value W (name s') >>= object_pattern (members_in (senses inner_W rest'))

    abbrev Between : M Value
    Between = value V (name s') >>= object_pattern (members_in (senses inner_V rest'))

    abbrev Last : M Value
    Last = value V (sense inner_V (bare_rest_call s')).core >>= set_cell r'

    s_bound : is_bound (V.scope s') ≡ true
    s_bound = names.1 s' refl (declared m l lp lr ls lt a empty c refl keys D around apt seen known known_rest s' known.bound)

    r_bound : is_bound (V.scope r') ≡ true
    r_bound = names.1 r' refl (declared m l lp lr ls lt a empty c refl keys D around apt seen known known_rest r' known_rest.bound)

    free_ : is_free (V.scope helpers_) ≡ true
    free_ = names.2 helpers_ ((bytes_eq-Decides helpers_ helpers_).1 refl)

    turned : (b d : Binding) → V.scope s' ≡ b → is_bound b ≡ true → V.scope r' ≡ d → is_bound d ≡ true → (st : State) → in_turn (Last ∷ []) (return undefined) st ≡ (Between >>= λ z. return undefined) st
    turned changeable changeable e h g k st = sym (declared_turns false (Last ∷ []) [] st) ∙ (sym (bare_runs s' r' V (rw e refl) (rw g refl) (calls_helper (codes "extends") refl V free_) (calls_helper (codes "objectDestructuringEmpty") refl V free_) lr false [] (gives_value Last) refl st) ∙ declared_turns false (Between ∷ []) [] st)
    turned changeable constant e h g k st = sym (declared_turns false (Last ∷ []) [] st) ∙ (sym (bare_runs s' r' V (rw e refl) (rw g refl) (calls_helper (codes "extends") refl V free_) (calls_helper (codes "objectDestructuringEmpty") refl V free_) lr false [] (gives_value Last) refl st) ∙ declared_turns false (Between ∷ []) [] st)
    turned constant changeable e h g k st = sym (declared_turns false (Last ∷ []) [] st) ∙ (sym (bare_runs s' r' V (rw e refl) (rw g refl) (calls_helper (codes "extends") refl V free_) (calls_helper (codes "objectDestructuringEmpty") refl V free_) lr false [] (gives_value Last) refl st) ∙ declared_turns false (Between ∷ []) [] st)
    turned constant constant e h g k st = sym (declared_turns false (Last ∷ []) [] st) ∙ (sym (bare_runs s' r' V (rw e refl) (rw g refl) (calls_helper (codes "extends") refl V free_) (calls_helper (codes "objectDestructuringEmpty") refl V free_) lr false [] (gives_value Last) refl st) ∙ declared_turns false (Between ∷ []) [] st)
    turned changeable free e h g k st = absurd (cc k)
    turned changeable (silent x) e h g k st = absurd (cc k)
    turned constant free e h g k st = absurd (cc k)
    turned constant (silent x) e h g k st = absurd (cc k)
    turned free d e h g k st = absurd (cc h)
    turned (silent x) d e h g k st = absurd (cc h)

    alone_like : (t : Take) (ls' : List Text) (y : Text) → Like t ls' y W V (declaring m (joined_trees a (declares_as l (with_rest lp empty lr (name_at lt)) (name_at ls) before c))) (declaring m (joined_trees a (declarator_with (name_at lt) (whole_value (name_at ls)) before c)))
    alone_like t ls' y =
        let q = fresh_quiet (λ y. true) (only helpers_) xs fresh in
        let st = fresh_stack (λ y. true) (only helpers_) xs fresh in
        let avoid = parts_avoid m l lp lr ls lt a empty c refl keys D around apt seen known known_rest in
        let value_like = (part_like F q st by_global fresh.supply W V same names.0 value_taken (identifier s') (and_parts (avoids (bad_fresh xs) value_taken (name_at ls)) true avoid.1).0 [] []).core.evaluation in
        let whole = part_like F q st by_global fresh.supply W V same names.0 target_taken (object_pattern_at lp rest') avoid.0 [] [] in
        let source : Alike F Equal Before Between = then_alike F value_like (λ z. put_alike_then F (aims_like (whole.more refl)) z) in
        let main : Alike F Both Before (in_turn (Last ∷ []) (return undefined)) = alike_by F {k = Between >>= λ z. return undefined} (λ x. refl) (turned (V.scope s') (V.scope r') refl s_bound refl r_bound) (and_undefined F source) in
        let last' : Tree = declares_from (made [] []) (identifier r') (bare_rest_call s') in
        let second : Tree = declaring m (joined_trees a (declarator_with (name_at lt) (whole_value (name_at ls)) before c)) in
        let second' : Tree = declaration_of m (followed a (last' before c)) in
        let second_same : SameSense second second' =
        declaration_same m (joined_trees a (declarator_with (name_at lt) (whole_value (name_at ls)) before c)) (followed a (last' before c))
        (joined_followed a a (declarator_with (name_at lt) (whole_value (name_at ls)) before c) (last' before c) (all_self a)
        (one_and (declarator_with (name_at lt) (whole_value (name_at ls))) last' c c (declarator_same (made [] []) (name_at lt) (identifier r') (whole_value (name_at ls)) (bare_rest_call s') (λ p. refl) (λ p. refl)) (all_self c))) in
        let pv = placed_at by_global V [] kind in
        as_same by_global (among_names xs) t ls' y W V (declaring m (joined_trees a (declares_as l (with_rest lp empty lr (name_at lt)) (name_at ls) before c))) second (declaration_of m (followed a (declares_from l (object_pattern_at lp rest') (identifier s') before c))) second' (first_same m l lp lr ls lt a empty c refl keys D around apt seen known known_rest) second_same
        (split_like F q st by_global fresh.supply W V same names.0 a c kind (before_it m l lp lr ls lt a empty c refl keys D around apt seen known known_rest).0 (behind_it m l lp lr ls lt a empty c refl keys D around apt seen known known_rest).1 _ _ Before (Last ∷ []) refl refl
        (ap (λ (z : Meaning). z ∷ cores (senses pv c)) (named_core pv (said_in by_global (V.scope r')) _ (sense inner_V (bare_rest_call s')) (declarator V (name r') (sense inner_V (bare_rest_call s')).core) (bound_says by_global (V.scope r') r_bound) (not_using m l lp lr ls lt a empty c refl keys D around apt seen known known_rest)))
        (valued_more pv _ _ _ _)
        (turns_by F (Last ∷ []) main) t m m refl refl ls' y)

  -- THE ROW

  pub taken_place : (D : List Declared) (t : Take) (a b : Tree) → Raw (TakenAt w (v, ns)) xs D t a b × Seen w xs D a → (W V : World) → SameWorld (among_names xs) W V → NamesAt D W V → (ls : List Text) (y : Text) → Like t ls y W V a b
  taken_place D t a b h W V same names ls' y = at a b h.0.changed h.0.apt h.1
    where
      at : (a b : Tree) → TakenAt w (v, ns) a b → Apt a → Seen w xs D a → Like t ls' y W V a b
      at _ _ (taken_at m l lp lr ls lt a empty c word plain kept keys) apt seen =
          alone_like m l lp lr ls lt a c keys D apt h.0.around seen (source_facts w xs D m l lp ls a (joined_trees empty (node RestElement lr (one (name_at lt) then done) before empty)) c seen kept) (rest_facts w xs D m l lp lr ls lt a empty c plain leaves seen) W V same names t ls' y
      at _ _ (taken_at m l lp lr ls lt a (p before ps) c word plain kept keys) apt seen =
          built_like m l lp lr ls lt a (p before ps) c plain keys D h.0.around apt seen (source_facts w xs D m l lp ls a (joined_trees (p before ps) (node RestElement lr (one (name_at lt) then done) before empty)) c seen kept) (rest_facts w xs D m l lp lr ls lt a (p before ps) c plain leaves seen) W V same names t ls' y
