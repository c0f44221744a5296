-- What a program becomes by the lowerings runs as it does, when it imports the helper of object spread, or requires it.
use Rattle.std.proofs.Common.{arith, ◌≡◌, ◌∙◌, ℕ, zero, suc, refl, sym, ap, subst, List, [], ◌∷◌, ◌++◌}
use Rattle.std.proofs.lemmas.Bool.{and_parts}
use Rattle.std.specs.List.{list_all}
use Rattle.std.specs.Prelude.{◌&&◌, ◌||◌, Bool, true, false, not, Option, Some, None, bytes_eq, codes, if◌then◌else◌, is_some, length, map}
use Rattle.es_tree.specs.Bare.{bare, bare_trees}
use Rattle.es_tree.specs.Fresh.{is_among, text_base}
use Rattle.es_tree.specs.HasForm.{has_form}
use Rattle.es_tree.specs.Helpers.{helper_text}
use Rattle.es_tree.specs.Names.{first_text, names_of}
use Rattle.es_tree.specs.Scopes.{Declared}
use Rattle.es_tree.specs.Tree.{Tree, node, Label, Fields, done, ◌then◌, Field, missing, one, many, statements, Trees, empty, ◌before◌, trees}
use Rattle.es_tree.specs.Walks.{all_nodes}
use Rattle.es_tree.specs.Words.{Text}
use Rattle.es_tree.specs.declared.ast_type.AstType.{AstType}
use Rattle.es_tree.specs.declared.ast_type.AstType.TheVariants.{Identifier}
use Rattle.es_tree.specs.declared.helper.Helper.{Helper}
use Rattle.es_tree.specs.declared.helper.Helper.TheVariants.{ObjectSpread2}
use Rattle.es_tree.specs.declared.options.HelperLoaderMode.TheVariants.{Runtime}
use Rattle.es_tree.specs.declared.options.EnvOptions.{EnvOptions}
use Rattle.es_tree.specs.declared.table.Sort.TheVariants.{Program as s-Program}
use Rattle.es_runs.specs.Alike.{Level, the_value, bad_names}
use Rattle.es_runs.specs.Core.{Silent}
use Rattle.es_runs.specs.Core.Silent.{helper_name}
use Rattle.es_runs.specs.Machine.{Move, Result, Value}
use Rattle.es_statement_runs.specs.HelperMembers.{no_helper_member}
use Rattle.es_statement_steps.proofs.HelperMembers.{named-members}
use Rattle.es_resolution.specs.Named.{Named, NamedAll, NamedBy, NamedIn, OwnUsed}
use Rattle.std.proofs.lemmas.Slice.Eq.{bytes_eq-Decides}
use Rattle.es_runs.specs.Runs.{is_declared, only, program}
use Rattle.es_runs.proofs.Temporary.{bytes_eq-self}
use Rattle.es_semantic.specs.RolesOf.{reads, role_at}
use Rattle.es_semantic.specs.SymbolsOf.{symbols_of}
use Rattle.es_semantic.specs.declared.place.Role.{Role}
use Rattle.es_semantic.specs.declared.place.Role.TheVariants.{Nothing}
use Rattle.es_resolution.specs.Declarations.{Bound}
use Rattle.es_resolution.specs.Laws.{source}
use Rattle.es_resolution.specs.Resolved.{IsResolved}
use Rattle.es_resolution.proofs.AllForms.{All}
use Rattle.es_resolution.proofs.Sources.{law_named_proof, law_resolved_proof}
use Rattle.es_steps.specs.CoreBridge.{Reached, first_whole}
use Rattle.es_steps.specs.Nodes.{identifier}
use Rattle.es_steps.specs.Open.{after_imports, is_import}
use Rattle.es_valid_steps.proofs.Spread.{finished-spread}
use Rattle.es_valid_steps.proofs.Visits.{law_among_proof, law_places_proof}
use Rattle.es_reached.specs.Reached.{IsResult}
use Rattle.es_reached.proofs.BarePlaces.{law_bare_places_proof}
use Rattle.es_reached.proofs.Results.{source-form}
use Rattle.es_statement_runs.specs.Helpers.{Supply, constants_in, helper_in, helper_names, imported_helpers, program_list, silent_names}
use Rattle.es_statement_runs.specs.Helpers.Supply.{by_global, by_import, by_require, spread_by_global}
use Rattle.es_statement_runs.specs.Names.{declared_at_top, top_in}
use Rattle.es_statement_runs.specs.Places.{avoids, avoids_trees, take}
use Rattle.es_statement_runs.specs.Programs.{IsStatementProgram, is_statement_node, supply_by}
use Rattle.es_statement_runs.specs.Runs.{RunAlike, SameRun, outcome, run}
use Rattle.es_helper_calls.specs.HelperCalls.{bound_of, calling, calling_among, calling_by, calling_here, calling_in, used_helper, helpers_among, helpers_called, helpers_in, helpers_in_field, helpers_in_fields, is_helper as is_this, noted, own_helper}
use Rattle.es_helper_calls.specs.Importing.{is_module}
use Rattle.es_helper_imports.specs.Imported.{AreFresh, ImportsTo, imported_as, imports_of, unmarked}
use Rattle.es_helper_imports.proofs.BareCalls.{bare-calling, bare-helpers}
use Rattle.es_helper_imports.proofs.BareTops.{bare-top}
use Rattle.es_top_imports.specs.Laws.{list_place}
use Rattle.es_top_imports.specs.TopImports.{top_of, with_top}
use Rattle.es_statement_steps.specs.Laws.{AssignsNoRest, TagsAreNoChains, assumes_no_all, powers_there}
use Rattle.es_statement_steps.specs.Orders.{in_order}
use Rattle.es_statement_steps.proofs.AvoidedNames.{AtNames, AtNamesAll, AtNamesBy, AtNamesIn, OwnAt, aims_pass, both_names, is_aimed, names_avoid, top_fine}
use Rattle.es_statement_steps.proofs.BareRuns.{alike-seen, list-bare, run-told}
use Rattle.es_statement_steps.proofs.BareScopes.{declared-bare}
use Rattle.es_statement_steps.proofs.FoundNames.{declared_is, finds_top}
use Rattle.es_statement_steps.proofs.KeylessPrograms.{IsKeyless, keyless_silent}
use Rattle.es_statement_steps.proofs.KeylessSources.{named-keyless, same-keyless}
use Rattle.es_statement_steps.proofs.MadeNames.{fresh_made, is_made_text, made_apart, made_no_cell}
use Rattle.es_statement_steps.proofs.ReachedRuns.{class-bare, program-parts, source-bare}
use Rattle.es_statement_steps.proofs.RowRuns.{StepAlike}
use Rattle.es_statement_steps.proofs.StandingPrograms.{program_stands}
use Rattle.es_statement_steps.proofs.StatementLaw.{KeptInOrder, in-order-run}
use Rattle.es_statement_steps.proofs.StepMoves.{Fine}
use Rattle.es_statement_steps.proofs.Tamed.{Class}
use Rattle.es_stackless_runs.proofs.EveryTree.{law_stackless_proof}
use Rattle.es_import_runs.specs.Laws.{AsksNone, CallsSpread, GetsNone, LawImportingResult, RunsImporting, UsesNone, asks_no_helper, supply_in}
use Rattle.es_import_runs.proofs.AskedModules.{imports_bare, none_imported, same_members}
use Rattle.es_import_runs.proofs.BareRequires.{required_bare}
use Rattle.es_import_runs.proofs.CalledNames.{Plainly, formed_plainly}
use Rattle.es_import_runs.proofs.Constants.{none_listed}
use Rattle.es_import_runs.proofs.CopySteps.{keeps_copies}
use Rattle.es_import_runs.proofs.KeptNames.{NoCells, keeps_names, same_names}
use Rattle.es_import_runs.proofs.KeptTexts.{HasNone, keeps_texts, same_texts}
use Rattle.es_import_runs.proofs.OnlyCopies.{aims_at, helpers_spread, named_other, not_aimed, only_copies, same_copies, named_copies}
use Rattle.es_import_runs.proofs.OnlySpreads.{Spreads, spreads_so}
use Rattle.es_import_runs.proofs.Programs.{ExcludesNone, importing_names, none_excludes}
use Rattle.es_import_runs.proofs.Sources.{gets_none, law_imported_program_proof, none_named, supplies_same}

-- WHAT IS KEPT ON THE WAY: `babelHelpers` in calls of the helper alone, the class of programs, names that are no cell of the machine, and in a script that no
-- literal has the text of a helper's module

abbrev Asked : Text → Tree → Tree → Type 0
Asked m p t = (only_copies reads t ≡ true) × (Class t × (NoCells t × (is_module p ≡ false → HasNone m p → HasNone m t)))

asked_kept : (o : EnvOptions) (m : Text) (p : Tree) → (is_module p ≡ false → powers_there o p ≡ false) → KeptInOrder o p (Asked m p)
asked_kept o m p off =
    let kept = keeps_copies o p in
    let cells = keeps_names o p in
    let texts = λ (e : is_module p ≡ false). keeps_texts m o p (off e) in
    record {
      steps = λ s s' x y h k i a n c. (kept.steps s s' x y h k i a n c.0, (i.class, (cells.steps s s' x y h k i a n c.1.1.0, λ e g. (texts e).steps s s' x y h k i a n (c.1.1.1 e g))));
      exports = λ s s' x y h k i c. (kept.exports s s' x y h k i c.0, (subst (λ (t : Tree). Class t) (finished-spread y) i.class, (cells.exports s s' x y h k i c.1.1.0, λ e g. (texts e).exports s s' x y h k i (c.1.1.1 e g))));
    }

-- WHAT RUNS ALIKE where the helper of object spread is the only one does so with the object of all helpers
global_alike : (no_all : Bool) (p t : Tree) → Spreads p → Spreads t → RunAlike spread_by_global no_all p t → RunAlike by_global no_all p t
global_alike no_all p t first second h n this moves assumed proper moved inside =
    let a : run spread_by_global n p this moves ≡ run by_global n p this moves = law_stackless_proof n p this moves first.only (keyless_silent p first.keyless) first.unbound proper moved in
    let b : run spread_by_global n t this moves ≡ run by_global n t this moves = law_stackless_proof n t this moves second.only (keyless_silent t second.keyless) second.unbound proper moved in
    subst (λ (z : Result Value). SameRun (is_declared (declared_at_top p)) z (run by_global n t this moves)) a
    (subst (λ (z : Result Value). SameRun (is_declared (declared_at_top p)) (run spread_by_global n p this moves) z) b (h n this moves assumed proper moved (λ e. inside (sym (ap outcome a) ∙ e))))

-- WHICH HELPERS a program calls, where it calls that of object spread alone

this_helper : (h : Helper) → is_this ObjectSpread2 h ≡ true → h ≡ ObjectSpread2
this_helper ObjectSpread2 e = refl
this_helper _ e = absurd (cc e)

noted_once : (hs : List Helper) → list_all (λ h. is_this ObjectSpread2 h) hs ≡ true → noted (ObjectSpread2 ∷ []) hs ≡ ObjectSpread2 ∷ []
noted_once [] h = refl
noted_once (g ∷ gs) h = let d = and_parts (is_this ObjectSpread2 g) (list_all (λ h. is_this ObjectSpread2 h) gs) h in rw d.0 (noted_once gs d.1)

data Called (hs : List Helper) : Type 0 where
  calls_none : hs ≡ [] → Called hs
  calls_spread : noted [] hs ≡ ObjectSpread2 ∷ [] → Called hs

called_so : (hs : List Helper) → list_all (λ h. is_this ObjectSpread2 h) hs ≡ true → Called hs
called_so [] h = calls_none refl
called_so (g ∷ gs) h =
    let d = and_parts (is_this ObjectSpread2 g) (list_all (λ h. is_this ObjectSpread2 h) gs) h in
    calls_spread (ap (λ (f : Helper). noted (f ∷ []) gs) (this_helper g d.0) ∙ noted_once gs d.1)

-- WHERE IT CALLS NONE, nothing is called by another name

both_none : (gs hs : List Helper) → gs ++ hs ≡ [] → (gs ≡ []) × (hs ≡ [])
both_none [] hs e = (refl, e)
both_none (g ∷ gs) hs e = absurd (cc e)

module _ (c : Helper → Tree) where
  mutual
    uncalled : (t : Tree) → helpers_in t ≡ [] → calling c t ≡ t
    uncalled (node k l fs) e =
        let d = both_none (helpers_in_fields fs) (own_helper (used_helper k l fs)) e in
        at (used_helper k l fs) d.1 (uncalled_in fs d.0)
      where
        at : (o : Option Helper) → own_helper o ≡ [] → calling_in c fs ≡ fs → node k l (calling_here c o (calling_in c fs)) ≡ node k l fs
        at None e h = ap (λ (gs : Fields). node k l gs) h
        at (Some g) e h = absurd (cc e)

    uncalled_in : (fs : Fields) → helpers_in_fields fs ≡ [] → calling_in c fs ≡ fs
    uncalled_in done e = refl
    uncalled_in (f then fs) e = let d = both_none (helpers_in_field f) (helpers_in_fields fs) e in λ i. uncalled_by f d.0 i then uncalled_in fs d.1 i

    uncalled_by : (f : Field) → helpers_in_field f ≡ [] → calling_by c f ≡ f
    uncalled_by missing e = refl
    uncalled_by (one t) e = ap (λ z. one z) (uncalled t e)
    uncalled_by (many ts) e = ap (λ z. many z) (uncalled_among ts e)
    uncalled_by (statements ts) e = ap (λ z. statements z) (uncalled_among ts e)

    uncalled_among : (ts : Trees) → helpers_among ts ≡ [] → calling_among c ts ≡ ts
    uncalled_among empty e = refl
    uncalled_among (t before ts) e = let d = both_none (helpers_in t) (helpers_among ts) e in λ i. uncalled t d.0 i before uncalled_among ts d.1 i

nothing_after : (ts : Trees) → after_imports empty ts ≡ ts
nothing_after empty = refl
nothing_after (t before ts) = at (is_import t) (nothing_after ts)
  where
    at : (b : Bool) → after_imports empty ts ≡ ts → (if b then t before after_imports empty ts else t before ts) ≡ (t before ts)
    at true h = ap (λ us. t before us) h
    at false h = refl

nothing_on : (t : Tree) → with_top empty t ≡ t
nothing_on (node k l (f then (statements ts then fs))) = ap (λ us. node k l (f then (statements us then fs))) (nothing_after ts)
nothing_on _ = refl

-- IDS AND MARKS of what imports helpers

module_bare : (t : Tree) → is_module (bare t) ≡ is_module t
module_bare (node k l fs) = refl

modules_alike : (t u : Tree) → bare t ≡ bare u → is_module t ≡ is_module u
modules_alike t u e = sym (module_bare t) ∙ ap is_module e ∙ module_bare u

imported_alike : (m : Text) (hs : List Helper) (bs : List Bound) (t u : Tree) → bare t ≡ bare u → bare (imported_as m hs bs t) ≡ bare (imported_as m hs bs u)
imported_alike m hs bs t u e =
    let c : Helper → Tree = λ h. identifier (bound_of hs bs h) in
    let news : Bool → Trees = λ b. trees (map (top_of b) (imports_of m hs bs)) in
    bare-top (news (is_module t)) (calling c t) ∙ ap (λ (z : Tree). with_top (bare_trees (news (is_module t))) z) (bare-calling c t) ∙
    (λ i. with_top (bare_trees (news (modules_alike t u e i))) (calling (λ h. bare (c h)) (e i))) ∙
    ap (λ (z : Tree). with_top (bare_trees (news (is_module u))) z) (sym (bare-calling c u)) ∙ sym (bare-top (news (is_module u)) (calling c u))

-- the names that stand for helpers
names_bare : (c : Bool) (m : Text) (t : Tree) → helper_names (supply_by Runtime m c) (bare t) ≡ helper_names (supply_by Runtime m c) t
names_bare true m t = ap (imported_helpers m) (list-bare t) ∙ imports_bare m (program_list t)
names_bare false m t = required_bare m t

no_more : (xs : List (Text × Silent)) → xs ++ [] ≡ xs
no_more [] = refl
no_more (x ∷ xs) = ap (λ ys. x ∷ ys) (no_more xs)

-- programs in which the same names stand for helpers and that are the same but for ids and marks run alike
module _ (m : Text) (es : List (Text × Silent)) (none : (c : Bool) → ExcludesNone (supply_by Runtime m c) es) where
  silent_by : (u : Supply) → ExcludesNone u es → (t : Tree) → helper_names u t ≡ es → helper_names u t ++ constants_in u (helper_names u t) t (program_list t) ≡ es
  silent_by u free t e = (λ i. e i ++ constants_in u (e i) t (program_list t)) ∙ (λ i. es ++ none_listed u es free t (program_list t) i) ∙ no_more es

  silent_as : (c : Bool) (t : Tree) → helper_names (supply_by Runtime m c) t ≡ es → silent_names (supply_by Runtime m c) t ≡ es
  silent_as true t e = silent_by (by_import m) (none true) t e
  silent_as false t e = silent_by (by_require m) (none false) t e

  module _ (c : Bool) where
    abbrev u : Supply
    u = supply_by Runtime m c

    seen_so : (t : Tree) → helper_names u t ≡ es → silent_names u (bare t) ≡ silent_names u t
    seen_so t e = silent_as c (bare t) (names_bare c m t ∙ e) ∙ sym (silent_as c t e)

    run_seen : (t v : Tree) → bare t ≡ bare v → helper_names u t ≡ es → (n : ℕ) (this : Value) (moves : List Move) → run u n t this moves ≡ run u n v this moves
    run_seen t v e h n this moves =
        sym (run-told u n t this moves (seen_so t h)) ∙ ap (λ (z : Tree). run u n z this moves) e ∙ run-told u n v this moves (seen_so v (sym (names_bare c m v) ∙ ap (helper_names u) (sym e) ∙ names_bare c m t ∙ h))

    written_alike : (no_all : Bool) (p t v : Tree) → bare t ≡ bare v → helper_names u t ≡ es → RunAlike u no_all p t → RunAlike u no_all p v
    written_alike no_all p t v e h alike n this moves assumed proper moved inside = subst (λ (z : Result Value). SameRun (is_declared (declared_at_top p)) (run u n p this moves) z) (run_seen t v e h n this moves) (alike n this moves assumed proper moved inside)

-- WHAT IS KNOWN of what the lowerings leave: the program t with its symbols

record Left (no_all : Bool) (m : Text) (p t : Tree) : Type 0 where
  form : has_form s-Program t ≡ true
  fine : Fine t
  copies : only_copies reads t ≡ true
  keyless : IsKeyless t
  alike : RunAlike by_global no_all p t
  declared : (y : Text) → is_declared (declared_at_top p) y ≡ true → is_declared (declared_at_top t) y ≡ true
  helpers : GetsNone (is_module t) m t
  require : is_module t ≡ false → is_declared (declared_at_top t) (codes "require") ≡ false

module _ (no_all : Bool) (m : Text) (p t : Tree) (left : Left no_all m p t) (uses : UsesNone (is_module t) m p) where
  plain : All Plainly t
  plain = formed_plainly t left.form

  -- WHERE IT CALLS NO HELPER

  nothing_imported : helpers_in t ≡ [] → RunAlike (supply_in m t) no_all p (imported_as m [] [] t)
  nothing_imported none = subst (λ (z : Tree). RunAlike (supply_in m t) no_all p z) (sym itself) here
    where
      c : Helper → Bound
      c h = bound_of [] [] h

      itself : imported_as m [] [] t ≡ t
      itself = ap (with_top empty) (uncalled (λ h. identifier (c h)) t none) ∙ nothing_on t

      global : all_nodes no_helper_member t ≡ true
      global = ap (all_nodes no_helper_member) (sym (uncalled (λ h. identifier (c h)) t none)) ∙ named_other c reads t plain left.copies

      none_used : UsesNone (is_module t) m t
      none_used = record { global = global; helpers = left.helpers; silent = keyless_silent t left.keyless }

      here : RunAlike (supply_in m t) no_all p t
      here n this moves assumed proper moved inside =
          let before_it = supplies_same (is_module t) m p uses n this moves in
          let after_it = supplies_same (is_module t) m t none_used n this moves in
          rw (before_it, after_it) (left.alike n this moves assumed proper moved (λ e. inside (ap outcome before_it ∙ e)))

-- WHERE IT CALLS THAT OF OBJECT SPREAD, by a name that none of its names is

module _ (x : Text) where
  abbrev AwayFrom : Role → Label → Type 0
  AwayFrom Nothing l = Unit {0}
  AwayFrom r l = only x (first_text l.texts) ≡ false

  away_seen : (r : Role) (l : Label) → (r ≡ Nothing → ⊥) → AwayFrom r l → only x (first_text l.texts) ≡ false
  away_seen Nothing l e h = absurd (e refl)
  away_seen _ l e h = h

  module _ (free : ℕ) (used : Text → Bool) (unused : used x ≡ false) where
    apart : (y : Text) → used y ≡ true → only x y ≡ false
    apart y h = at (bytes_eq y x) refl
      where
        at : (b : Bool) → bytes_eq y x ≡ b → b ≡ false
        at true e = let no : true ≡ false = sym h ∙ ap used ((bytes_eq-Decides y x).0 e) ∙ unused in absurd (cc no)
        at false e = refl

    away_own : (r : Role) (k : AstType) (l : Label) → OwnUsed used r k l → OwnAt AwayFrom r k l
    away_own Nothing Identifier l h = tt
    away_own _ Identifier l h = apart (first_text l.texts) h
    away_own r _ l h = tt

    mutual
      away_at : (t : Tree) (r : Role) → Named used free r t → AtNames AwayFrom r t
      away_at (node k l fs) r h = (away_own r k l h.0.0, away_in fs (role_at r k l fs) h.1)

      away_in : (fs : Fields) (roles : ℕ → Role) → NamedIn used free roles fs → AtNamesIn AwayFrom roles fs
      away_in done roles h = tt
      away_in (f then fs) roles h = (away_by f (roles zero) h.0, away_in fs (λ n. roles (suc n)) h.1)

      away_by : (f : Field) (r : Role) → NamedBy used free r f → AtNamesBy AwayFrom r f
      away_by missing r h = tt
      away_by (one t) r h = away_at t r h
      away_by (many ts) r h = away_among ts r h
      away_by (statements ts) r h = away_among ts r h

      away_among : (ts : Trees) (r : Role) → NamedAll used free r ts → AtNamesAll AwayFrom r ts
      away_among empty r h = tt
      away_among (t before ts) r h = (away_at t r h.0, away_among ts r h.1)

module _ (no_all : Bool) (m : Text) (p : Tree) (l : Label) (ds body : Trees) (left : Left no_all m p (program l ds body)) (uses : UsesNone (is_module (program l ds body)) m p) (x : Text) (made : is_made_text x ≡ true) (away : AtNames (AwayFrom x) reads (program l ds body)) where
  abbrev t : Tree
  t = program l ds body

  abbrev b : Bound
  b = record { name = x; symbol = None }

  abbrev bad : Level → Text → Bool
  bad = bad_names (only x) (only (codes "babelHelpers"))

  abbrev IsSo : Role → Label → Type 0
  IsSo r i = AwayFrom x r i × not_aimed r i

  good : (r : Role) (n : Level) (i : Label) → (r ≡ Nothing → n ≡ Level.no_evaluation) → (n ≡ Level.a_target → is_aimed r ≡ true) → IsSo r i → bad n (first_text i.texts) ≡ false
  good r Level.no_evaluation i e d q = refl
  good r Level.a_target i e d q = λ j. away_seen x r i (λ g. absurd (cc (e g))) q.0 j || q.1 (d refl) j
  good r _ i e d q = away_seen x r i (λ g. absurd (cc (e g))) q.0

  names_there : AtNames IsSo reads t
  names_there = both_names (AwayFrom x) not_aimed reads t away (aims_at t reads (formed_plainly t left.form) left.copies)

  avoided : avoids_trees bad (take the_value true) body ≡ true
  avoided =
      let all : avoids bad (take the_value true) t ≡ true = names_avoid is_aimed aims_pass bad IsSo good reads (take the_value true) t names_there (record { told = λ e. absurd (cc e); target = λ e a. absurd (cc e); pattern = λ e. absurd (cc e) }) left.fine in
      (and_parts (avoids_trees bad (take the_value true) body) true (and_parts (avoids_trees bad (take the_value true) ds) (avoids_trees bad (take the_value true) body && true) all).1).0

  unbound : (y : Text) → bad Level.a_target y ≡ true → is_declared (top_in body) y ≡ false
  unbound y e = at (is_declared (top_in body) y) refl
    where
      at : (c : Bool) → is_declared (top_in body) y ≡ c → c ≡ false
      at false d = refl
      at true d =
          let no : bad Level.a_target y ≡ false = top_fine is_aimed aims_pass bad IsSo good l (many ds then (statements body then done)) left.fine names_there y (sym (declared_is (top_in body) y) ∙ d) in
          absurd (cc (e, no))

  or_second : (c : Bool) → (c || true) ≡ true
  or_second true = refl
  or_second false = refl

  calls : CallsSpread m l ds body b
  calls = record {
    form = left.form;
    spreads = helpers_spread reads t (formed_plainly t left.form) left.copies;
    called = named_other (bound_of (ObjectSpread2 ∷ []) (b ∷ [])) reads t (formed_plainly t left.form) left.copies;
    global = unbound (codes "babelHelpers") (or_second (only x (codes "babelHelpers")));
    silent = keyless_silent t left.keyless;
    helpers = left.helpers;
    require = left.require;
    name = avoided;
    undeclared = unbound x (ap (λ (c : Bool). c || only (codes "babelHelpers") x) (bytes_eq-self x));
    seen = record { global = made_apart (codes "babelHelpers") x refl made; require = made_apart (codes "require") x refl made };
    math = made_apart (codes "Math") x refl made;
    no_cell = made_no_cell x made;
  }

  abbrev importing : Tree
  importing = imported_as m (ObjectSpread2 ∷ []) (b ∷ []) t

  runs_importing : RunAlike (supply_in m t) no_all p importing
  runs_importing = law_imported_program_proof m no_all p l ds body b calls uses left.declared left.alike

  spread_imported : (r : Tree) → bare importing ≡ bare r → RunAlike (supply_in m t) no_all p r
  spread_imported r e = written_alike m ((x, helper_name (codes "objectSpread2")) ∷ []) (λ c. none_excludes c m x) (is_module t) no_all p importing r e (importing_names m l ds body b calls) runs_importing

-- THE LAW

-- what a program asks for, and the names of it that stand for helpers
asked_names : (m : Text) (z : Tree) → has_form s-Program z ≡ true → asks_no_helper m z ≡ true → helper_names (by_import m) z ≡ []
asked_names m z form asks =
    let a = program-parts z form in
    ap (helper_names (by_import m)) a.same ∙ none_imported m a.label a.directives a.body (subst (λ (y : Tree). has_form s-Program y ≡ true) a.same form) (subst (λ (y : Tree). asks_no_helper m y ≡ true) a.same asks)

-- looking `require` up from the list of a program that has none finds nothing
none_found : (t : Tree) → has_form s-Program t ≡ true → Fine t → IsResolved t → (list_place t).scope (codes "require") ≡ None → is_declared (declared_at_top t) (codes "require") ≡ false
none_found t form fine resolved none =
    let a = program-parts t form in
    let found = finds_top a.label (many a.directives then (statements a.body then done)) 1 (subst Fine a.same fine) (subst IsResolved a.same resolved) (codes "require") in
    ap (λ (z : Tree). is_declared (declared_at_top z) (codes "require")) a.same ∙ declared_is (top_in a.body) (codes "require") ∙ sym found ∙ ap (λ (z : Tree). is_some ((list_place z).scope (codes "require"))) (sym a.same) ∙ ap is_some none

module _ (o : EnvOptions) (m : Text) (p q r t : Tree) (names last : List Text) (h : IsStatementProgram p) (untagged : TagsAreNoChains o p) (lacks : AssignsNoRest o p) (imp : RunsImporting o m p) (result : IsResult o p q names) (reached : Reached (in_order o) p (first_whole p) names t) (written : bare t ≡ bare q)
    (sort : is_module q ≡ is_module p) (require : is_module q ≡ false → (list_place (source q)).scope (codes "require") ≡ None) (goes : ImportsTo (first_whole q).in_use m q r last) where
  abbrev no_all : Bool
  no_all = assumes_no_all o p

  source_named : Named (is_among (names_of p)) (length (symbols_of p)) reads (source p)
  source_named = law_named_proof p (is_among (names_of p)) (length (symbols_of p)) h.form h.rules (λ x e. e) (omega arith)

  keyless_source : IsKeyless (source p)
  keyless_source = named-keyless (length (symbols_of p)) (is_among (names_of p)) imp.names reads (source p) source_named

  uses_by : (c : Bool) → AsksNone c m p → GetsNone c m p
  uses_by true asks = asked_names m p h.form asks
  uses_by false texts = texts

  class_of : (y z : Tree) → bare y ≡ bare z → Class y → Class z
  class_of y z e c = sym (class-bare z) ∙ ap (λ (x : Tree). all_nodes is_statement_node x) (sym e) ∙ class-bare y ∙ c

  copies_source : only_copies reads (source p) ≡ true
  copies_source = named_copies (length (symbols_of p)) (is_among (names_of p)) imp.names reads (source p) source_named

  class_source : Class (source p)
  class_source = class_of p (source p) (source-bare p) h.without_functions

  names_source : NoCells (source p)
  names_source = same_names p (source p) (source-bare p) h.names

  reached_there : StepAlike no_all spread_by_global p t × Asked m p t
  reached_there = in-order-run o p t names h untagged lacks (Asked m p) (asked_kept o m p imp.powers) (ap not imp.names) (copies_source, (class_source, (names_source, λ e. same_texts m p (source p) (source-bare p)))) reached

  abbrev seen : Tree
  seen = source q

  same : bare t ≡ bare seen
  same = written ∙ source-bare q

  sort_seen : is_module seen ≡ is_module p
  sort_seen = modules_alike seen q (sym (source-bare q)) ∙ sort

  uses : UsesNone (is_module seen) m p
  uses = record {
    global = same_members (source p) p (sym (source-bare p)) (named-members (length (symbols_of p)) (is_among (names_of p)) imp.names reads (source p) source_named);
    helpers = subst (λ (c : Bool). GetsNone c m p) (sym sort_seen) (uses_by (is_module p) imp.asks);
    silent = keyless_silent p (same-keyless p (source p) (source-bare p) keyless_source);
  }

  gets_by : (c : Bool) → is_module p ≡ c → AsksNone c m p → GetsNone c m seen
  gets_by true e asks = sym (names_bare true m seen) ∙ ap (helper_names (by_import m)) (sym (source-bare q)) ∙ names_bare true m q ∙ asked_names m q result.form (ap (λ (ts : List Text). list_all (λ y. not (is_some (helper_in m y))) ts) result.outside.requests ∙ asks)
  gets_by false e texts = same_texts m t seen same (reached_there.1.1.1.1 e texts)

  -- the source with its symbols, and what is seen of the result
  spreads_source : Spreads (source p)
  spreads_source = spreads_so (source p) (source-form p h.form) (program_stands (source p) (source-form p h.form) class_source ((law_places_proof (source p)).to_places (law_bare_places_proof p (source p) (source-bare p) (law_among_proof p h.rules)))) copies_source names_source

  fine_seen : Fine seen
  fine_seen = program_stands seen (source-form q result.form) (class_of t seen same reached_there.1.1.0) ((law_places_proof seen).to_places (law_bare_places_proof q seen (source-bare q) (law_among_proof q result.kept)))

  copies_seen : only_copies reads seen ≡ true
  copies_seen = same_copies reads t seen same reached_there.1.0

  spreads_seen : Spreads seen
  spreads_seen = spreads_so seen (source-form q result.form) fine_seen copies_seen (same_names t seen same reached_there.1.1.1.0)

  global_there : RunAlike by_global no_all p seen
  global_there = alike-seen by_global refl no_all (source p) seen p seen (sym (source-bare p)) refl (global_alike no_all (source p) seen spreads_source spreads_seen (alike-seen spread_by_global refl no_all p t (source p) seen (source-bare p) same reached_there.0.runs))

  left : Left no_all m p seen
  left = record {
    form = source-form q result.form;
    fine = fine_seen;
    copies = copies_seen;
    keyless = spreads_seen.keyless;
    alike = global_there;
    declared = λ y e. ap (λ (ds : List Declared). is_declared ds y) (sym (declared-bare seen) ∙ ap declared_at_top (sym same) ∙ declared-bare t) ∙ reached_there.0.declared y e;
    helpers = subst (λ (c : Bool). GetsNone c m seen) (sym sort_seen) (gets_by (is_module p) refl imp.asks);
    require = λ e. none_found seen (source-form q result.form) fine_seen (law_resolved_proof q result.form) (require (modules_alike q seen (source-bare q) ∙ e));
  }

  same_helpers : helpers_in q ≡ helpers_in seen
  same_helpers = sym (bare-helpers q) ∙ ap helpers_in (source-bare q) ∙ bare-helpers seen

  written_as : (hs : List Helper) → helpers_called q ≡ hs → (bs : List Bound) → unmarked last ≡ bs → bare (imported_as m hs bs seen) ≡ bare r
  written_as hs e bs d = imported_alike m hs bs seen q (sym (source-bare q)) ∙ (λ i. bare (imported_as m (sym e i) (sym d i) q)) ∙ sym goes.written

  abbrev Runs : Tree → Type 0
  Runs z = RunAlike (supply_in m z) no_all p r

  spread_there : helpers_called q ≡ ObjectSpread2 ∷ [] → (xs : List Text) → last ≡ xs → AreFresh (first_whole q).in_use (ObjectSpread2 ∷ []) xs → Runs seen
  spread_there e [] d fresh = absurd fresh
  spread_there e (x ∷ []) d fresh =
      let a = program-parts seen left.form in
      let away = away_at x (length (symbols_of q)) (first_whole q).in_use fresh.0.free seen reads (law_named_proof q (first_whole q).in_use (length (symbols_of q)) result.form result.kept (λ y e. rw e refl) (omega arith)) in
      subst Runs (sym a.same)
      (spread_imported no_all m p a.label a.directives a.body (subst (λ (z : Tree). Left no_all m p z) a.same left) (subst (λ (z : Tree). UsesNone (is_module z) m p) a.same uses) x (fresh_made (first_whole q).in_use (text_base (helper_text ObjectSpread2)) x fresh.0) (subst (λ (z : Tree). AtNames (AwayFrom x) reads z) a.same away) r
      (ap (λ (z : Tree). bare (imported_as m (ObjectSpread2 ∷ []) (unmarked (x ∷ [])) z)) (sym a.same) ∙ written_as (ObjectSpread2 ∷ []) e (unmarked (x ∷ [])) (ap unmarked d)))
  spread_there e (x ∷ (y ∷ ys)) d fresh = absurd fresh.1

  none_there : helpers_in seen ≡ [] → (xs : List Text) → last ≡ xs → AreFresh (first_whole q).in_use [] xs → Runs seen
  none_there e [] d fresh =
      written_alike m [] (λ c. none_named c m) (is_module seen) no_all p (imported_as m [] [] seen) r (written_as [] (ap (noted []) (same_helpers ∙ e)) [] (ap unmarked d)) (itself_names (uncalled (λ h. identifier (bound_of [] [] h)) seen e)) (nothing_imported no_all m p seen left uses e)
    where
      itself_names : calling (λ h. identifier (bound_of [] [] h)) seen ≡ seen → helper_names (supply_in m seen) (imported_as m [] [] seen) ≡ []
      itself_names g = ap (λ (z : Tree). helper_names (supply_in m seen) (with_top empty z)) g ∙ ap (helper_names (supply_in m seen)) (nothing_on seen) ∙ gets_none (is_module seen) m seen left.helpers
  none_there e (x ∷ xs) d fresh = absurd fresh

  runs_there : Runs p
  runs_there = subst (λ (c : Bool). RunAlike (supply_by Runtime m c) no_all p r) sort_seen (at (called_so (helpers_in seen) (helpers_spread reads seen (formed_plainly seen left.form) left.copies)))
    where
      at : Called (helpers_in seen) → Runs seen
      at (calls_none e) = none_there e last refl (subst (λ (hs : List Helper). AreFresh (first_whole q).in_use hs last) (ap (noted []) (same_helpers ∙ e)) goes.fresh)
      at (calls_spread e) = let d : helpers_called q ≡ ObjectSpread2 ∷ [] = ap (noted []) same_helpers ∙ e in spread_there d last refl (subst (λ (hs : List Helper). AreFresh (first_whole q).in_use hs last) d goes.fresh)

pub law_importing_result_proof : LawImportingResult
law_importing_result_proof o m p q r t names last h untagged lacks imp result reached written sort require goes = runs_there o m p q r t names last h untagged lacks imp result reached written sort require goes
