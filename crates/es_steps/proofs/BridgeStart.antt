-- The laws of steps by symbols on core programs: where they begin, and where they lead.
use Rattle.std.proofs.Common.{inl, arith, ◌≡◌, ◌<◌, ◌≤◌, ◌+◌, ℕ, zero, suc, refl, sym, ap, subst, ◌∙◌, List, [], length}
use Rattle.std.proofs.lemmas.Bool.{le-ltb, lt-ltb, ltb-true}
use Rattle.std.specs.Prelude.{Bool, true, false, not, ◌&&◌, ◌||◌, Option, Some, None, is_some, ltb}
use Rattle.std.proofs.Math.Bool.{or-false}
use Rattle.es_tree.specs.Bare.{bare, bare_fields, bare_field, bare_trees}
use Rattle.es_tree.specs.Core.{IsCoreProgram}
use Rattle.es_tree.specs.Fresh.{candidate, is_among}
use Rattle.es_tree.specs.Names.{is_name_place, names_of}
use Rattle.es_tree.specs.Scopes.{declared_of, declares, is_steady, is_written}
use Rattle.es_tree.specs.Tree.{Tree, node, Fields, done, ◌then◌, Field, missing, one, many, statements, Trees, empty, ◌before◌}
use Rattle.es_tree.specs.Words.{Text}
use Rattle.es_tree.specs.declared.ast_type.AstType.TheVariants.{Program}
use Rattle.es_tree.specs.declared.options.EnvOptions.{EnvOptions}
use Rattle.es_tree.specs.declared.table.Sort.TheVariants.{Program as s-Program}
use Rattle.es_tree.proofs.SymbolNumbers.{symbol-some}
use Rattle.es_tree.proofs.WrittenSymbols.{mutated-written}
use Rattle.es_semantic.specs.Places.{Place, outermost, own_scope_count, place_in, scope_count_in, scope_count_in_field}
use Rattle.es_semantic.specs.ReferencesOf.{is_mutated_of}
use Rattle.es_semantic.specs.RolesOf.{reads}
use Rattle.es_semantic.specs.SymbolsOf.{Declared, symbol_in, symbols_of}
use Rattle.es_semantic.proofs.CoreSymbols.{core-symbol, outermost_in}
use Rattle.es_semantic.proofs.CoreTable.{core-references}
use Rattle.es_semantic.proofs.CoreWalks.{in_program_below}
use Rattle.es_tree.specs.References.{writes_symbol}
use Rattle.std.specs.List.{list_any}
use Rattle.es_runs.specs.Alike.{Need, all_of_it}
use Rattle.es_runs.specs.NullishCoalescing.{also_all}
use Rattle.es_runs.specs.Open as plain
use Rattle.es_runs.specs.OpenRules as rules
use Rattle.es_runs.specs.OpenSteps as steps
use Rattle.es_runs.specs.OpenSteps.Steps.{stays as plain_stays}
use Rattle.es_runs.proofs.BareTrees.{declared_of-bare, names-bare}
use Rattle.es_runs.proofs.DeclaredNames.{core_shaped, declared_used}
use Rattle.es_runs.proofs.OpenLaws.{law_reached_bindings_proof, law_reached_proof, source_open}
use Rattle.es_runs.proofs.OpenRuns.{IsOpenProgram}
use Rattle.es_runs.proofs.StaticLaws.{law_reached_rules_proof}
use Rattle.es_resolution.specs.Declarations.{Bound}
use Rattle.es_resolution.specs.Called.{HasName, name_at}
use Rattle.es_resolution.specs.Laws.{source}
use Rattle.es_resolution.proofs.AllForms.{All, all-tree}
use Rattle.es_resolution.proofs.CalledSources.{symbol-name}
use Rattle.es_resolution.proofs.Forms.{form-placed}
use Rattle.es_resolution.proofs.Placed.{IsWellPlaced}
use Rattle.es_resolution.proofs.Sources.{source-resolved}
use Rattle.es_resolution.proofs.Starting.{is_below, symbol-low}
use Rattle.es_resolution.proofs.SymbolTrees.{resolved, resolved_among, resolved_by, resolved_in, resolved_tree}
use Rattle.es_steps.specs.CoreBridge.{IsStart, LawFirstWhole, LawKeptBySymbols, LawReachedByName, LawRunsBySymbols, LawStepsByName, Reached, ReachedByName, StepsByName, forgotten, forgotten_ledger, forgotten_whole, is_written_name, names_among}
use Rattle.es_steps.specs.Duplication.{is_among_symbols}
use Rattle.es_steps.specs.Laws.{nothing_beside}
use Rattle.es_steps.specs.Open.{is_body, opened}
use Rattle.es_steps.specs.Steps.{Whole, Ledger, Site, Spot}
use Rattle.es_steps.specs.AllRules.{AllRules}
use Rattle.es_steps.specs.CoreRules.{CoreRule, rule_under}
use Rattle.es_steps.proofs.BridgeFurther.{all_of}
use Rattle.es_steps.proofs.BridgeInclusion.{all_under}
use Rattle.es_steps.proofs.BridgeLaws.{Going, RootTied, many-steps, with-rows, with_all}
use Rattle.es_steps.proofs.BridgeLinks.{Linked, asks, look_with}
use Rattle.es_steps.proofs.BridgeOpen.{in-opened}
use Rattle.es_steps.proofs.BridgeSources.{Leaf, asks-name, leaf-form, lists-ok, role-named, source-in}
use Rattle.es_steps.proofs.BridgeSteps.{WholeTied, look_of}
use Rattle.es_steps.proofs.BridgeTrees.{forgotten-opened}

-- WITHOUT MARKS

mutual
  bare-tree : (F : List Declared) (p : Place) (n : ℕ) (t : Tree) → bare (resolved_tree F p n t) ≡ bare t
  bare-tree F p n (node k l fs) = λ i. node k (record l { id = 0; marks = [] }) (bare-in F (place_in p n k l fs) (n + own_scope_count k fs) fs i)

  bare-in : (F : List Declared) (ps : ℕ → Place) (n : ℕ) (fs : Fields) → bare_fields (resolved_in F ps n fs) ≡ bare_fields fs
  bare-in F ps n done = refl
  bare-in F ps n (f then fs) = λ i. bare-by F (ps 0) n f i then bare-in F (λ j. ps (suc j)) (n + scope_count_in_field f) fs i

  bare-by : (F : List Declared) (p : Place) (n : ℕ) (f : Field) → bare_field (resolved_by F p n f) ≡ bare_field f
  bare-by F p n missing = refl
  bare-by F p n (one t) = ap one (bare-tree F p n t)
  bare-by F p n (many ts) = ap many (bare-among F p n ts)
  bare-by F p n (statements ts) = ap statements (bare-among F p n ts)

  bare-among : (F : List Declared) (p : Place) (n : ℕ) (ts : Trees) → bare_trees (resolved_among F p n ts) ≡ bare_trees ts
  bare-among F p n empty = refl
  bare-among F p n (t before ts) = λ i. bare-tree F p n t i before bare-among F p (n + scope_count_in t) ts i

bare-source : (p : Tree) → bare (source p) ≡ bare p
bare-source p = ap bare (source-resolved p) ∙ bare-tree (symbols_of p) (outermost p) 1 p

-- THE FIRST LEDGER

module _ (p : Tree) (is : IsCoreProgram p) where
  abbrev look : Text → Option ℕ
  look x = symbol_in (symbols_of p) 0 x

  declared-some : (x : Text) → declares (declared_of p) x ≡ is_some (look x)
  declared-some x = sym (symbol-some (declared_of p) x) ∙ ap is_some (sym (core-symbol p is x))

  low : (x : Text) (o : Option ℕ) (s : ℕ) → look x ≡ o → o ≡ Some s → s < length (symbols_of p)
  low x None s e d = absurd (cc d)
  low x (Some m) s e d =
      let under : ltb m (length (symbols_of p)) ≡ true = ap (is_below (length (symbols_of p))) (sym e) ∙ symbol-low (symbols_of p) 0 x in
      let same : m ≡ s = cc d in
      let less : m < length (symbols_of p) = ltb-true m (length (symbols_of p)) under in
      omega arith

  name-is : (x : Text) (s : ℕ) → look x ≡ Some s → x ≡ name_at (symbols_of p) s
  name-is x s e = subst (λ o. HasName (name_at (symbols_of p)) o x) e (symbol-name (symbols_of p) 0 x)

  written-is : (x : Text) (s : ℕ) → look x ≡ Some s → is_mutated_of p s ≡ is_written x p
  written-is x s e = ap (list_any (writes_symbol s)) (core-references p is) ∙ mutated-written p x s (sym (core-symbol p is x) ∙ e)

  steady-is : (w : Whole) → IsStart p w → (x : Text) (o : Option ℕ) → look x ≡ o → is_steady p x ≡ is_among_symbols w.steady o
  steady-is w start x None e = ap (λ b. b && not (is_written x p)) (declared-some x ∙ ap is_some e)
  steady-is w start x (Some s) e =
      let here : declares (declared_of p) x ≡ true = declared-some x ∙ ap is_some e in
      let under : ltb s (length (symbols_of p)) ≡ true = lt-ltb s (length (symbols_of p)) (low x (Some s) s e refl) in
      (λ i. here i && not (sym (written-is x s e) i)) ∙ ((λ i. sym under i && not (is_mutated_of p s)) ∙ sym (start.steady s))

  unused-is : (w : Whole) → IsStart p w → (x : Text) → w.in_use x ≡ false → (o : Option ℕ) → look x ≡ o → o ≡ None
  unused-is w start x e None d = refl
  unused-is w start x e (Some s) d =
      let unused : is_among (names_of (bare p)) x ≡ false = ap (λ ns. is_among ns x) (names-bare true p) ∙ not-used (is_among (names_of p) x) refl in
      let undeclared : declares (declared_of p) x ≡ false = ap (λ ds. declares ds x) (sym (declared_of-bare p)) ∙ declared_used x (bare p) (core_shaped p is) unused in
      absurd (let no : true ≡ false = sym (declared-some x ∙ ap is_some d) ∙ undeclared in cc no)
    where
      not-used : (b : Bool) → is_among (names_of p) x ≡ b → b ≡ false
      not-used false k = refl
      not-used true k = absurd (let no : true ≡ false = sym (start.names x k) ∙ e in cc no)

  whole-start : (w : Whole) → IsStart p w → WholeTied p w
  whole-start w start = at w.made start.made (λ h. h)
    where
      base : Linked w look (is_among (names_of p)) (is_steady p)
      base = record {
        candidates = λ b n. sym (start.candidates b n);
        steady = λ x. steady-is w start x (look x) refl;
        named = λ x y s e d. name-is x s e ∙ sym (name-is y s d);
        below = λ x s e. (let less : s < length (symbols_of p) = low x (look x) s refl e in let more : length (symbols_of p) ≤ w.free_symbol = start.free in omega arith);
        unused = λ x e. unused-is w start x e (look x) refl;
        later = λ s e. (let more : length (symbols_of p) ≤ w.free_symbol = start.free in start.steady s ∙ ap (λ b. b && not (is_mutated_of p s)) (le-ltb s (length (symbols_of p)) (omega arith)));
      }

      Goal : List Bound → Type 0
      Goal ms = Linked w (look_with ms look) (also_all (names_among ms) (is_among (names_of p))) (is_steady p) × ((x : Text) → (declares (declared_of p) x || is_among (names_among ms) x) ≡ is_some (look_with ms look x))

      at : (ms : List Bound) → ms ≡ [] → (Goal ms → Goal w.made) → WholeTied p w
      at ms e f = let g = subst Goal (sym start.made) (base, λ x. or-false (declares (declared_of p) x) ∙ declared-some x) in record { linked = g.0; bound = g.1 }

  ledger-start : (w : Whole) → w.made ≡ [] → steps.ledger (steps.whole_of p) plain.nothing_pending ≡ forgotten_ledger p (nothing_beside w)
  ledger-start w e = λ i. steps.ledger (record (steps.whole_of p) { in_use = also_all (names_among (sym e i)) (is_among (names_of p)); made = names_among (sym e i) }) plain.nothing_pending

-- THE FIRST PROGRAM

root-source : (p : Tree) → IsCoreProgram p → IsWellPlaced p → All Leaf p → (used : Text → Bool) → ((x : Text) → is_among (names_of p) x ≡ true → used x ≡ true) → (v o g : EnvOptions) → RootTied v o g p used (symbol_in (symbols_of p) 0) (opened (resolved p))
root-source (node Program l fs) is placed leaf used names v o g =
    let p : Tree = node Program l fs in (
      refl,
      in-opened used (symbol_in (symbols_of p) 0) (is_body Program) (λ i. refl) (asks true Program l) (resolved_in (symbols_of p) (place_in (outermost p) 1 Program l fs) 1 fs)
          (source-in (symbols_of p) used (asks true Program l) (is_name_place Program l) Program (place_in (outermost p) 1 Program l fs) 1 fs (λ i. role-named reads true Program l fs i refl (λ e. refl)) (λ i. asks-name true Program l i) (in_program_below (outermost p) 1 Program l fs refl (outermost_in p)) is.core placed.1 leaf.1 (lists-ok true Program l fs refl refl) names),
    )
root-source (node k l fs) is placed leaf used names v o g = absurd (cc (placed.0))

-- THE LAWS

steps-by-name : (v o g : EnvOptions) → StepsByName (all_of v o g) (rules.rule_under o)
steps-by-name v o g p w s x is start r =
    let placed = form-placed p is.form in
    let leaf = all-tree Leaf (λ t k l fs form. leaf-form k l fs form.children) s-Program p is.form in
    let root = root-source p is placed leaf w.in_use start.names v o g in
    let here : RootTied v o g p w.in_use (look_of p w) (opened (source p)) =
    subst (λ ms. RootTied v o g p w.in_use (look_with ms (symbol_in (symbols_of p) 0)) (opened (source p))) (sym start.made) (subst (λ t. RootTied v o g p w.in_use (symbol_in (symbols_of p) 0) (opened t)) (sym (source-resolved p)) root) in
    let begin : plain.opened (bare p) ≡ forgotten (opened (source p)) = sym (forgotten-opened (source p) ∙ ap plain.opened (bare-source p)) in
    let first : steps.Steps (steps.Step (rules.rule_under o) all_of_it) (steps.ledger (steps.whole_of p) plain.nothing_pending) (plain.opened (bare p)) (forgotten_ledger p (nothing_beside w)) (forgotten (opened (source p))) =
    subst (λ z. steps.Steps (steps.Step (rules.rule_under o) all_of_it) (steps.ledger (steps.whole_of p) plain.nothing_pending) (plain.opened (bare p)) z (forgotten (opened (source p)))) (ledger-start p is w start.made)
    (subst (λ z. steps.Steps (steps.Step (rules.rule_under o) all_of_it) (steps.ledger (steps.whole_of p) plain.nothing_pending) (plain.opened (bare p)) (steps.ledger (steps.whole_of p) plain.nothing_pending) z) begin plain_stays) in
    let known : Going v o g p (nothing_beside w) (opened (source p)) =
    subst (λ z. IsOpenProgram (steps.whole_in z) (forgotten (opened (source p)))) (ledger-start p is w start.made) (subst (λ z. IsOpenProgram (steps.whole_of p) z) begin (source_open p is)) in
    many-steps v o g p (nothing_beside w) s r (whole-start p is w start, (tt, tt), refl, refl) here known first

reached-by-name : (R : Site → Ledger → Spot → Ledger → Spot → Type 0) (Q : Need → steps.Ledger → steps.Spot → steps.Ledger → steps.Spot → Type 0) → StepsByName R Q → ReachedByName R Q
reached-by-name R Q law p q w names is start r = record {
  whole = forgotten_whole p r.whole;
  steps = subst (λ z. steps.Steps (steps.Step Q all_of_it) (steps.ledger (steps.whole_of p) plain.nothing_pending) (plain.opened (bare p)) (steps.ledger (forgotten_whole p r.whole) plain.nothing_pending) z) (forgotten-opened q) (law p w (nothing_beside r.whole) (opened q) is start r.steps);
  made = r.made;
  others = refl;
}

under-all : (R Q : Site → Ledger → Spot → Ledger → Spot → Type 0) (P : Need → steps.Ledger → steps.Spot → steps.Ledger → steps.Spot → Type 0) → ((n : Site) (s : Ledger) (x : Spot) (s' : Ledger) (y : Spot) → R n s x s' y → Q n s x s' y) → StepsByName Q P → StepsByName R P
under-all R Q P under law p w s x is start r = law p w s x is start (all_under R Q under r)

pub law_steps_by_name_proof : LawStepsByName
law_steps_by_name_proof o = (
  steps-by-name o o o,
  under-all (rule_under o) (AllRules o) (rules.rule_under o) (λ n s x s' y r. inl r) (steps-by-name o o o),
  under-all (CoreRule o) (all_of o (with_all o) o) (rules.CoreRule o.assumptions.no_document_all) (λ n s x s' y r. inl r) (steps-by-name o (with_all o) o),
)

pub law_reached_by_name_proof : LawReachedByName
law_reached_by_name_proof o = let all = law_steps_by_name_proof o in (reached-by-name _ _ all.0, reached-by-name _ _ all.1, reached-by-name _ _ all.2)

-- by the rules of core programs
core-reached : (o : EnvOptions) (p q : Tree) (w : Whole) (names : List Text) → IsCoreProgram p → IsStart p w → Reached (AllRules o) p w names q → steps.Reached (rules.CoreRule o.assumptions.no_document_all) p names q
core-reached o = reached-by-name _ _ (under-all (AllRules o) (all_of o (with_all o) o) (rules.CoreRule o.assumptions.no_document_all) (with-rows o o o) (steps-by-name o (with_all o) o))

pub law_runs_by_symbols_proof : LawRunsBySymbols
law_runs_by_symbols_proof o p q w names is tidy start r = law_reached_proof o.assumptions.no_document_all p q names is tidy (core-reached o p q w names is start r)

pub law_kept_by_symbols_proof : LawKeptBySymbols
law_kept_by_symbols_proof o p q w names is start r =
    let h = core-reached o p q w names is start r in
    (law_reached_bindings_proof o.assumptions.no_document_all p q names is h, λ valid. law_reached_rules_proof o.assumptions.no_document_all p q names is valid h)

-- a candidate begins with an underscore
no-candidate : (base : Text) (n : ℕ) → is_written_name (candidate base n) ≡ false
no-candidate base zero = refl
no-candidate base (suc n) = refl

pub law_first_whole_proof : LawFirstWhole
law_first_whole_proof p = record {
  names = λ x e. rw e;
  candidates = λ base n. ap (λ b. is_among (names_of p) (candidate base n) || b) (no-candidate base n) ∙ or-false (is_among (names_of p) (candidate base n));
  steady = λ s. refl;
  free = omega arith;
  made = refl;
}
