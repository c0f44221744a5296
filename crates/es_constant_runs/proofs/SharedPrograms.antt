-- A program runs as it does where names stand for its lists of excluded keys.
use Rattle.std.proofs.Common.{◌+◌, ◌≡◌, ◌∙◌, ℕ, zero, suc, refl, sym, ap, subst, length, List, [], ◌∷◌, ◌++◌, arith}
use Rattle.std.proofs.lemmas.Bool.{and_from, and_parts, not-false}
use Rattle.std.specs.Prelude.{◌&&◌, Bool, true, false, not, Option, Some, codes}
use Rattle.es_tree.specs.Bare.{bare, bare_field, bare_fields, bare_label, bare_trees}
use Rattle.es_tree.specs.Fresh.{also, is_among}
use Rattle.es_tree.specs.Names.{names_if, names_of}
use Rattle.es_tree.specs.Scopes.{Declared, declares}
use Rattle.es_tree.specs.Tree.{Tree, node, Label, Fields, done, ◌then◌, Field, missing, one, many, statements, Trees, empty, ◌before◌}
use Rattle.es_tree.specs.Walks.{all_nodes}
use Rattle.es_tree.specs.Words.{Text}
use Rattle.es_tree.specs.declared.ast_type.AstType.{AstType}
use Rattle.es_tree.specs.declared.ast_type.AstType.TheVariants.{Identifier}
use Rattle.es_semantic.specs.RolesOf.{reads}
use Rattle.es_semantic.specs.SymbolsOf.{symbols_of}
use Rattle.es_resolution.specs.Declarations.{Bound}
use Rattle.es_resolution.specs.Laws.{source}
use Rattle.es_resolution.specs.Named.{Named}
use Rattle.es_resolution.proofs.Sources.{law_named_proof}
use Rattle.es_resolution.proofs.WholeExports.{whole-exports}
use Rattle.es_runs.specs.Alike.{Equal, Level, Same, SameWorld, bad_names, is_bad, the_value}
use Rattle.es_runs.specs.Core.{Silent, World, is_free}
use Rattle.es_runs.specs.Core.Binding.{silent}
use Rattle.es_runs.specs.Core.Silent.{keys_name}
use Rattle.es_runs.specs.Machine.{Move, Value}
use Rattle.es_runs.specs.Runs.{is_declared, none_hidden, only, program, scope_of}
use Rattle.es_steps.specs.CoreBridge.{names_among}
use Rattle.es_steps.specs.Open.{after_imports}
use Rattle.es_valid_steps.proofs.Visits.{law_among_proof, law_places_proof}
use Rattle.es_reached.proofs.BarePlaces.{law_bare_places_proof}
use Rattle.es_reached.proofs.Results.{source-form}
use Rattle.es_statement_runs.specs.Alike.{Quiet, SensesLike, StackSeen}
use Rattle.es_statement_runs.specs.Helpers.{entry, key_places, occurrences, silent_names}
use Rattle.es_statement_runs.specs.Helpers.Supply.{by_global}
use Rattle.es_statement_runs.specs.Kinds.{kind_in, senses}
use Rattle.es_statement_runs.specs.Laws.{among_names, any_cells}
use Rattle.es_statement_runs.specs.Names.{declared_at_top, names_of_all, top_in}
use Rattle.es_statement_runs.specs.Places.{HelpersSeen, Take, all_good, avoids, avoids_field, avoids_fields, avoids_trees, placed_at, take, takes_of, value_taken}
use Rattle.es_statement_runs.specs.Programs.{IsStatementProgram, is_without_functions}
use Rattle.es_statement_runs.specs.Runs.{RunAlike, program_world, run, silent_or}
use Rattle.es_statement_runs.specs.Scopes.{stack_cell}
use Rattle.es_statement_runs.proofs.BareVars.{start_same, top_bound}
use Rattle.es_statement_runs.proofs.Programs.{body_taken}
use Rattle.es_statement_runs.proofs.RunLaws.{same_run}
use Rattle.es_statement_runs.proofs.TopVars.{temporaries_apart}
use Rattle.es_helper_imports.specs.Imported.{unmarked}
use Rattle.es_top_constants.specs.TopConstants.{constants_of, with_constants}
use Rattle.es_statement_steps.proofs.BareRuns.{alike-seen}
use Rattle.es_statement_steps.proofs.BareScopes.{declared-bare, own-names-bare}
use Rattle.es_statement_steps.proofs.FreshNames.{top_used, unused_avoids}
use Rattle.es_statement_steps.proofs.MadeNames.{all_made, fresh_made, made_among, made_math, made_program_names}
use Rattle.es_statement_steps.proofs.ReachedRuns.{class-bare, program-parts, source-bare}
use Rattle.es_statement_steps.proofs.StandingPrograms.{program_stands}
use Rattle.es_statement_steps.proofs.Stands.{stands}
use Rattle.es_rest_runs.specs.Laws.{LeavesHelpers, excludes_no_name}
use Rattle.es_rest_runs.proofs.NoSilence.{no_silent}
use Rattle.es_rest_runs.proofs.SparedNames.{trees_both}
use Rattle.es_rest_runs.proofs.Stores.{undeclared_is}
use Rattle.es_excluded_keys.specs.ExcludedKeys.{AreFresh, Shares, SharesAll, SharesBy, SharesIn, SharesTo}
use Rattle.es_excluded_keys.specs.ExcludedKeys.Shares.{keeps, shares}
use Rattle.es_excluded_keys.specs.ExcludedKeys.SharesAll.{next, none}
use Rattle.es_excluded_keys.specs.ExcludedKeys.SharesBy.{at_many, at_none, at_one, at_statements}
use Rattle.es_excluded_keys.specs.ExcludedKeys.SharesIn.{ends, goes}
use Rattle.es_import_runs.proofs.Callings.{helpers_}
use Rattle.es_import_runs.proofs.Tops.{kinds_after, none_both, program_after}
use Rattle.es_constant_runs.specs.Laws.{LawSharedRuns}
use Rattle.es_constant_runs.proofs.ConstantNames.{among_flipped, among_free, among_unmarked, each_found, found_among, listed, listed_after, not_again, others_declared, others_unfound, program_named, program_places, statement_named, statement_of, statement_placed, there_once, unused_nowhere}
use Rattle.es_constant_runs.proofs.ConstantTops.{IsKeptSo, statement_silent}
use Rattle.es_constant_runs.proofs.CountedNames.{names_shared, places_shared}
use Rattle.es_constant_runs.proofs.SharedNames.{tops_same, using_all_same}
use Rattle.es_constant_runs.proofs.SharedTrees.{AllPaired, AsMany, KeysKnown, StandsFor, counted, counted_all, keys_kept, listed_in, map_paired, parted, shares_all}
use Rattle.es_constant_runs.proofs.ToldTrees.{at_worlds, trees_heard}

-- WITHOUT NAMES nothing changes

mutual
  same_tree : {deep : Bool} {t u : Tree} {xs : List Bound} {ls : List Tree} → Shares deep t xs ls u → xs ≡ [] → u ≡ t
  same_tree (keeps {k = k} {l = l} out h) e = λ i. node k l (same_in h e i)
  same_tree (shares {xs = xs} x out h) e = absurd (let no = (none_both xs (x ∷ []) e).1 in cc no)

  same_in : {deep : ℕ → Bool} {fs gs : Fields} {xs : List Bound} {ls : List Tree} → SharesIn deep fs xs ls gs → xs ≡ [] → gs ≡ fs
  same_in ends e = refl
  same_in (goes {xs = xs} {ys = ys} h hs) e = let d = none_both xs ys e in λ i. same_by h d.0 i then same_in hs d.1 i

  same_by : {deep : Bool} {f g : Field} {xs : List Bound} {ls : List Tree} → SharesBy deep f xs ls g → xs ≡ [] → g ≡ f
  same_by at_none e = refl
  same_by (at_one h) e = ap one (same_tree h e)
  same_by (at_many h) e = ap many (same_all h e)
  same_by (at_statements h) e = ap statements (same_all h e)

  same_all : {deep : Bool} {ts us : Trees} {xs : List Bound} {ls : List Tree} → SharesAll deep ts xs ls us → xs ≡ [] → us ≡ ts
  same_all none e = refl
  same_all (next {xs = xs} {ys = ys} h hs) e = let d = none_both xs ys e in λ i. same_tree h d.0 i before same_all hs d.1 i

-- NAMES AVOIDED, whatever ids and marks there are

module _ (bad : Level → Text → Bool) where
  own-bad-bare : (n : Take) (k : AstType) (l : Label) → is_bad bad n.need.level k (bare_label l).texts ≡ is_bad bad n.need.level k l.texts
  own-bad-bare n Identifier l = refl
  own-bad-bare n _ l = refl

  mutual
    avoids-bare : (n : Take) (t : Tree) → avoids bad n (bare t) ≡ avoids bad n t
    avoids-bare n (node k l fs) = λ i. not (own-bad-bare n k l i) && (all_good bad (names_of_all (own-names-bare k fs i)) && avoids-fields-bare (takes_of n k l.texts l.flags) fs i)

    avoids-fields-bare : (c : ℕ → Take) (fs : Fields) → avoids_fields bad c (bare_fields fs) ≡ avoids_fields bad c fs
    avoids-fields-bare c done = refl
    avoids-fields-bare c (f then fs) = λ i. avoids-field-bare (c zero) f i && avoids-fields-bare (λ j. c (suc j)) fs i

    avoids-field-bare : (n : Take) (f : Field) → avoids_field bad n (bare_field f) ≡ avoids_field bad n f
    avoids-field-bare n missing = refl
    avoids-field-bare n (one t) = avoids-bare n t
    avoids-field-bare n (many ts) = avoids-trees-bare n ts
    avoids-field-bare n (statements ts) = avoids-trees-bare n ts

    avoids-trees-bare : (n : Take) (ts : Trees) → avoids_trees bad n (bare_trees ts) ≡ avoids_trees bad n ts
    avoids-trees-bare n empty = refl
    avoids-trees-bare n (t before ts) = λ i. avoids-bare n t i && avoids-trees-bare n ts i

  pub avoids-seen : (n : Take) (t u : Tree) → bare t ≡ bare u → avoids bad n t ≡ avoids bad n u
  avoids-seen n t u e = sym (avoids-bare n t) ∙ ap (avoids bad n) e ∙ avoids-bare n u

  -- of a program's list
  body_avoids : (l : Label) (ds body : Trees) → avoids bad value_taken (program l ds body) ≡ true → avoids_trees bad (take the_value true) body ≡ true
  body_avoids l ds body h = (and_parts (avoids_trees bad (take the_value true) body) true (and_parts (avoids_trees bad (take the_value true) ds) (avoids_trees bad (take the_value true) body && true) h).1).0

-- A PROGRAM WITH NAMES FOR LISTS: its directives and its list

record SharedParts (l : Label) (ds body : Trees) (xs : List Bound) (ls : List Tree) (shared : Tree) : Type 0 where
  directives : Trees
  after : Trees
  same : shared ≡ program l directives after
  own_names_there : List Bound
  own_lists : List Tree
  list : SharesAll false body own_names_there own_lists after
  paired : (es : List (Text × Silent)) → AllPaired (StandsFor es) xs ls → AllPaired (StandsFor es) own_names_there own_lists

shared_parts : (l : Label) (ds body : Trees) {xs : List Bound} {ls : List Tree} {shared : Tree} → Shares false (program l ds body) xs ls shared → SharedParts l ds body xs ls shared
shared_parts l ds body (keeps out (goes {xs = fs} {ls = ks} (at_many {us = es} d) (goes {xs = bs} {ls = ms} (at_statements {us = us} b) ends))) = record {
  directives = es;
  after = us;
  same = refl;
  own_names_there = bs;
  own_lists = ms;
  list = b;
  paired = λ es h. (parted (StandsFor es) (counted_all b) [] [] (parted (StandsFor es) (counted_all d) (bs ++ []) (ms ++ []) h).1).0;
}

-- WHAT IS KNOWN OF THE PROGRAM, and of its names

module _ (in_use : Text → Bool) (l : Label) (ds body : Trees) (class : IsStatementProgram (program l ds body)) (no_name : all_nodes excludes_no_name (program l ds body) ≡ true) (leaves : LeavesHelpers (program l ds body))
    (used : (x : Text) → is_among (names_of (program l ds body)) x ≡ true → in_use x ≡ true) (names : List Text) (fresh : AreFresh in_use names) where
  abbrev P : Tree
  P = program l ds body

  abbrev hidden : Text → Bool
  hidden = among_names names

  made : (u : Text → Bool) (xs : List Text) → AreFresh u xs → all_made xs ≡ true
  made u [] h = refl
  made u (x ∷ xs) h = and_from _ (all_made xs) (fresh_made u (codes "excluded") x h.0) (made (also x u) xs h.1)

  are_made : all_made names ≡ true
  are_made = made in_use names fresh

  quiet : Quiet (any_cells hidden)
  quiet = record { own_seen = λ y e i. record { hidden = temporaries_apart names (made_program_names names are_made) y e; frozen = refl; loose = refl }; math = made_math names are_made }

  stack : StackSeen (any_cells hidden)
  stack = record { hidden = temporaries_apart names (made_program_names names are_made) stack_cell refl; frozen = refl; loose = refl }

  seen : HelpersSeen (any_cells hidden)
  seen = record { global = made_among (codes "babelHelpers") names refl are_made; require = made_among (codes "require") names refl are_made }

  -- what is in use is none of the names
  away : (x : Text) → in_use x ≡ true → hidden x ≡ false
  away x e = at (hidden x) refl
    where
      at : (b : Bool) → hidden x ≡ b → b ≡ false
      at true d = absurd (let no : true ≡ false = sym e ∙ among_free in_use names fresh x (sym (among_flipped names x) ∙ d) in cc no)
      at false d = refl

  fine : all_nodes stands P ≡ true
  fine = program_stands P class.form class.without_functions ((law_places_proof P).to_places (law_among_proof P class.rules))

  source_class : is_without_functions (source P) ≡ true
  source_class = sym (class-bare (source P)) ∙ ap (λ (t : Tree). is_without_functions t) (sym (source-bare P)) ∙ class-bare P ∙ class.without_functions

  source_fine : all_nodes stands (source P) ≡ true
  source_fine = program_stands (source P) (source-form P class.form) source_class ((law_places_proof (source P)).to_places (law_bare_places_proof P (source P) (source-bare P) (law_among_proof P class.rules)))

  source_named : Named in_use (length (symbols_of P)) reads (source P)
  source_named = law_named_proof P in_use (length (symbols_of P)) class.form class.rules used (omega arith)

  -- so its list has none of them, but as keys and labels
  list_avoids : avoids_trees (bad_names hidden (only helpers_)) (take the_value true) body ≡ true
  list_avoids =
      let at_source : avoids (bad_names hidden none_hidden) value_taken (source P) ≡ true = unused_avoids in_use (length (symbols_of P)) hidden away reads value_taken (source P) (λ e. absurd (cc e)) source_named source_fine in
      trees_both hidden (only helpers_) (take the_value true) body (body_avoids (bad_names hidden none_hidden) l ds body (avoids-seen (bad_names hidden none_hidden) value_taken P (source P) (source-bare P) ∙ at_source))
      (body_avoids (bad_names none_hidden (only helpers_)) l ds body leaves.unwritten)

  -- and its top declares none
  top_away : (y : Text) → declares (top_in body) y ≡ true → in_use y ≡ true
  top_away y e =
      let parts = program-parts (source P) (source-form P class.form) in
      let tops_same_there : declared_at_top (source P) ≡ top_in body = sym (declared-bare (source P)) ∙ ap declared_at_top (sym (source-bare P)) ∙ declared-bare P in
      at parts.label parts.directives parts.body parts.same (ap (λ (es : List Declared). declares es y) tops_same_there ∙ e)
    where
      at : (m : Label) (es us : Trees) → source P ≡ program m es us → declares (declared_at_top (source P)) y ≡ true → in_use y ≡ true
      at m es us same d =
          top_used in_use (length (symbols_of P)) m (many es then (statements us then done)) (subst (λ (t : Tree). all_nodes stands t ≡ true) same source_fine) (subst (λ (t : Tree). Named in_use (length (symbols_of P)) reads t) same source_named) y
          (ap (λ (t : Tree). declares (declared_at_top t) y) (sym same) ∙ d)

  undeclared : (y : Text) → is_declared (top_in body) y ≡ true → hidden y ≡ false
  undeclared y e = away y (top_away y (undeclared_is (top_in body) y e))

  -- WHERE NAMES STAND FOR LISTS

  module _ (ls : List Tree) (shared : Tree) (shares_there : Shares false P (unmarked names) ls shared) where
    each : AsMany (unmarked names) ls
    each = counted shares_there

    abbrev entries : List (Text × Silent)
    entries = listed (unmarked names) ls

    abbrev parts : SharedParts l ds body (unmarked names) ls shared
    parts = shared_parts l ds body shares_there

    abbrev statement : Tree
    statement = statement_of names ls

    abbrev us : Trees
    us = parts.after

    abbrev after : Trees
    after = after_imports (statement before empty) us

    abbrev Q : Tree
    Q = program l parts.directives after

    same_tops : top_in us ≡ top_in body
    same_tops = tops_same parts.list

    -- how often a name stands in it
    places_now : (y : Text) → key_places by_global [] y Q ≡ occurrences y names
    places_now y =
        let none : key_places by_global [] y statement ≡ 0 = statement_placed y names ls each in
        let before_it : key_places by_global [] y (program l parts.directives us) ≡ occurrences y names =
        ap (λ (t : Tree). key_places by_global [] y t) (sym parts.same) ∙ places_shared y shares_there no_name ∙ ap (occurrences y) (among_unmarked names) in
        let all = program_places statement y l parts.directives us in
        omega arith

    names_now : (y : Text) → occurrences y (names_of Q) ≡ occurrences y (names_of P) + (occurrences y names + occurrences y names)
    names_now y =
        let own : occurrences y (names_if true statement) ≡ occurrences y names = ap (occurrences y) (statement_named names ls each) in
        let before_it : occurrences y (names_of (program l parts.directives us)) ≡ occurrences y (names_of P) + occurrences y (names_among (unmarked names)) =
        ap (λ (t : Tree). occurrences y (names_of t)) (sym parts.same) ∙ names_shared y true shares_there fine (whole-exports P class.rules) (λ e. absurd (cc e)) in
        let among : occurrences y (names_among (unmarked names)) ≡ occurrences y names = ap (occurrences y) (among_unmarked names) in
        let all = program_named statement y l parts.directives us in
        omega arith

    key_names : (y : Text) → is_among names y ≡ true → (key_places by_global [] y Q ≡ 1) × (occurrences y (names_of Q) ≡ 2)
    key_names y e =
        let once : occurrences y names ≡ 1 = there_once in_use names fresh y e in
        let nowhere : occurrences y (names_of P) ≡ 0 = unused_nowhere in_use (names_of P) used y (among_free in_use names fresh y e) in
        let a = places_now y in
        let b = names_now y in
        (omega arith, omega arith)

    no_keys : (y : Text) → declares (top_in us) y ≡ true → key_places by_global [] y Q ≡ 0
    no_keys y e = places_now y ∙ not_again in_use names fresh y (top_away y (ap (λ (es : List Declared). declares es y) (sym same_tops) ∙ e))

    silents : silent_names by_global Q ≡ entries
    silents = listed_after Q names ls each key_names us no_keys

    -- WORLDS

    same_kinds : (y : Text) → hidden y ≡ false → kind_in (top_in after) y ≡ kind_in (top_in body) y
    same_kinds y e = kinds_after y statement (others_declared names ls y e) us ∙ ap (λ (es : List Declared). kind_in es y) same_tops

    module _ (this : Value) where
      abbrev w : World
      w = program_world by_global this P

      abbrev v : World
      v = program_world by_global this Q

      scope_before : (y : Text) → w.scope y ≡ scope_of (top_in body) y
      scope_before y = ap (λ (es : List (Text × Silent)). silent_or (entry es y) (scope_of (top_in body) y)) (no_silent P no_name)

      scope_after : (y : Text) → v.scope y ≡ silent_or (entry entries y) (scope_of (top_in after) y)
      scope_after y = ap (λ (es : List (Text × Silent)). silent_or (entry es y) (scope_of (top_in after) y)) silents

      same : SameWorld hidden w v
      same = record {
        scope = λ y e. scope_after y ∙ ap (λ (o : Option Silent). silent_or o (scope_of (top_in after) y)) (others_unfound names ls y e) ∙ (rw (top_bound (top_in after) y, top_bound (top_in body) y, same_kinds y e) refl) ∙ sym (scope_before y);
        this = refl;
        counts = refl;
      }

      stood : (x : Text) (s : Silent) → entry entries x ≡ Some s → v.scope x ≡ silent s
      stood x s e = scope_after x ∙ ap (λ (o : Option Silent). silent_or o (scope_of (top_in after) x)) e

      known : KeysKnown entries w v
      known = record { global = ap is_free (scope_before helpers_) ∙ not-false (is_free (scope_of (top_in body) helpers_)) leaves.undeclared; names = stood }

      pairs : AllPaired (StandsFor entries) (unmarked names) ls
      pairs = each_found in_use names ls fresh each

      like : SensesLike (any_cells hidden) w v body_taken (senses (placed_at by_global w [] []) body) (senses (placed_at by_global v [] []) us)
      like = trees_heard hidden quiet stack seen (KeysKnown entries) (keys_kept hidden entries (found_among names ls)) {n = body_taken} refl
          (shares_all hidden entries (found_among names ls) quiet stack seen parts.list (parts.paired entries pairs) body_taken list_avoids)
          (at_worlds hidden quiet stack seen (KeysKnown entries) (keys_kept hidden entries (found_among names ls)) same known)

      kept_so : AllPaired (IsKeptSo v) (unmarked names) ls
      kept_so = map_paired (StandsFor entries) (IsKeptSo v) (λ b t e. stood b.name (keys_name (listed_in t)) e) (unmarked names) ls pairs

      runs : (n : ℕ) (moves : List Move) → Same (any_cells hidden) Equal (run by_global n P this moves) (run by_global n Q this moves)
      runs n moves = program_after by_global by_global hidden w v same quiet statement (statement_silent v hidden (unmarked names) ls kept_so) stack refl l ds parts.directives body us like (using_all_same parts.list) _ _
          (start_same hidden (top_in body) (top_in after) same_kinds n moves)

    as_before : RunAlike by_global false P Q
    as_before n this moves assumed proper moved in_sight = same_run (any_cells hidden) (is_declared (top_in body)) undeclared in_sight (runs this n moves)

-- THE LAW

itself : (p : Tree) → RunAlike by_global false p p
itself p n this moves assumed proper moved in_sight = record { outcomes = refl; questions = refl; final_cells = λ x e i. refl }

with_parts : (in_use : Text → Bool) (l : Label) (ds body : Trees) (q : Tree) (names : List Text) → IsStatementProgram (program l ds body) → all_nodes excludes_no_name (program l ds body) ≡ true → LeavesHelpers (program l ds body) → ((x : Text) → is_among (names_of (program l ds body)) x ≡ true → in_use x ≡ true) →
    SharesTo in_use (program l ds body) q names → RunAlike by_global false (program l ds body) q
with_parts in_use l ds body q [] class no_name leaves used h =
    let p = program l ds body in
    alike-seen by_global refl false p h.shared p q refl (sym h.written) (subst (λ (t : Tree). RunAlike by_global false p t) (sym (same_tree h.shares refl)) (itself p))
with_parts in_use l ds body q (x ∷ xs) class no_name leaves used h = at h.lists h.shared h.shares h.written
  where
    at : (ls : List Tree) (shared : Tree) → Shares false (program l ds body) (unmarked (x ∷ xs)) ls shared → bare q ≡ bare (with_constants (constants_of (unmarked (x ∷ xs)) ls) shared) → RunAlike by_global false (program l ds body) q
    at [] shared s e = elim (counted s) [ ]
    at (t ∷ ts) shared s e =
        let parts = shared_parts l ds body s in
        let made : with_constants (constants_of (unmarked (x ∷ xs)) (t ∷ ts)) shared ≡ program l parts.directives (after_imports (statement_of (x ∷ xs) (t ∷ ts) before empty) parts.after) = ap (with_constants (constants_of (unmarked (x ∷ xs)) (t ∷ ts))) parts.same in
        alike-seen by_global refl false (program l ds body) (program l parts.directives (after_imports (statement_of (x ∷ xs) (t ∷ ts) before empty) parts.after)) (program l ds body) q refl (ap bare (sym made) ∙ sym e)
        (as_before in_use l ds body class no_name leaves used (x ∷ xs) h.fresh (t ∷ ts) shared s)

pub law_shared_runs_proof : LawSharedRuns
law_shared_runs_proof in_use p q names class no_name leaves used h =
    let parts = program-parts p class.form in
    at parts.label parts.directives parts.body parts.same class no_name leaves used h
  where
    at : (l : Label) (ds body : Trees) → p ≡ program l ds body → IsStatementProgram p → all_nodes excludes_no_name p ≡ true → LeavesHelpers p → ((x : Text) → is_among (names_of p) x ≡ true → in_use x ≡ true) → SharesTo in_use p q names → RunAlike by_global false p q
    at l ds body same = subst (λ (t : Tree). IsStatementProgram t → all_nodes excludes_no_name t ≡ true → LeavesHelpers t → ((x : Text) → is_among (names_of t) x ≡ true → in_use x ≡ true) → SharesTo in_use t q names → RunAlike by_global false t q) (sym same) (with_parts in_use l ds body q names)
