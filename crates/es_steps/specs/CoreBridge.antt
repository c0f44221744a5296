-- Steps by symbols on core programs are steps by names: what is forgotten of an open program and its ledger, so that those of
-- es_runs are left. All bindings of a core program stand in the program's scope (ECMA-262, 9.1.1.4), where a name has one symbol.
use Rattle.std.specs.Prelude.{◌≡◌, ℕ, ◌≤◌, ◌&&◌, ◌||◌, not, List, [], ◌∷◌, codes, Bool, true, length, ltb, map}
use Rattle.es_tree.specs.Bare.{bare, bare_label}
use Rattle.es_tree.specs.Core.{IsCoreProgram}
use Rattle.es_tree.specs.Fresh.{candidate, is_among}
use Rattle.es_tree.specs.Names.{names_of}
use Rattle.es_tree.specs.Scopes.{declared_of, declares, is_steady}
use Rattle.es_tree.specs.StaticRules.{breaks}
use Rattle.es_tree.specs.Tree.{Tree}
use Rattle.es_tree.specs.Words.{Text}
use Rattle.es_tree.specs.declared.options.EnvOptions.{EnvOptions}
use Rattle.es_semantic.specs.ReferencesOf.{is_mutated_of}
use Rattle.es_semantic.specs.SymbolsOf.{symbols_of}
use Rattle.es_runs.specs.Alike.{Need, all_of_it}
use Rattle.es_runs.specs.NullishCoalescing.{also_all}
use Rattle.es_runs.specs.Open as plain
use Rattle.es_runs.specs.OpenRules as plain_rules
use Rattle.es_runs.specs.OpenSteps as plain_steps
use Rattle.es_runs.specs.Rules.{IsTidy}
use Rattle.es_runs.specs.Runs.{RunAlike, is_declared}
use Rattle.es_resolution.specs.Called.{name_at}
use Rattle.es_resolution.specs.Declarations.{Bound}
use Rattle.es_resolution.specs.Laws.{source}
use Rattle.es_steps.specs.AllRules.{AllRules}
use Rattle.es_steps.specs.CoreRules.{CoreRule, rule_under}
use Rattle.es_steps.specs.Laws.{nothing_beside}
use Rattle.es_steps.specs.Open.{Pending, Open, open_node, OpenFields, ends, ◌and◌, OpenField, gap, child, body, children, list, OpenTrees, nil, ◌next◌, flanked, opened}
use Rattle.es_steps.specs.Steps.{Whole, Ledger, ledger, Site, Spot, the_program, Step, Steps}

-- OPEN PROGRAMS

abbrev pub forgotten_pending : Pending → plain.Pending
forgotten_pending p = record { vars = map bare p.vars; lets = map bare p.lets }

abbrev mutual
  -- An open program without symbols. A core program has no arrow, so no body by itself, and nothing is pending for its list but
  -- declarators, nor beside a statement.
  pub forgotten : Open → plain.Open
  forgotten (open_node k l fs) = plain.open_node k (bare_label l) (forgotten_fields fs)

  pub forgotten_fields : OpenFields → plain.OpenFields
  forgotten_fields ends = plain.ends
  forgotten_fields (f and fs) = plain.◌and◌ (forgotten_field f) (forgotten_fields fs)

  pub forgotten_field : OpenField → plain.OpenField
  forgotten_field gap = plain.gap
  forgotten_field (child t) = plain.child (forgotten t)
  forgotten_field (body p t) = plain.child (forgotten t)
  forgotten_field (children ts) = plain.children (forgotten_trees ts)
  forgotten_field (list p x a ts) = plain.list (forgotten_pending p) (forgotten_trees ts)

  pub forgotten_trees : OpenTrees → plain.OpenTrees
  forgotten_trees nil = plain.nil
  forgotten_trees (t next ts) = plain.◌next◌ (forgotten t) (forgotten_trees ts)
  forgotten_trees (flanked bs t cs ts) = plain.◌next◌ (forgotten t) (forgotten_trees ts)

-- LEDGERS

abbrev pub names_among : List Bound → List Text
names_among bs = map (λ b. b.name) bs

-- What is known of the whole by names: those of the source and the made ones are in use, bound is what the source declares, and
-- steady what nothing in it writes.
abbrev pub forgotten_whole : Tree → Whole → plain_steps.Whole
forgotten_whole p w = record {
  in_use = also_all (names_among w.made) (is_among (names_of p));
  bound = declares (declared_of p);
  steady = is_steady p;
  made = names_among w.made;
  others = plain.no_additions;
}

abbrev pub forgotten_ledger : Tree → Ledger → plain_steps.Ledger
forgotten_ledger p (ledger w q x a) = plain_steps.ledger (forgotten_whole p w) (forgotten_pending q)

-- WHERE STEPS BEGIN

-- whether nothing writes this symbol of the program
abbrev pub is_steady_symbol : Tree → ℕ → Bool
is_steady_symbol p s = ltb s (length (symbols_of p)) && not (is_mutated_of p s)

-- A ledger of a program before the first step: the program's names are in use, and none that a temporary may have but those; its
-- symbols that nothing writes are steady; and nothing is made.
pub record IsStart (p : Tree) (w : Whole) : Type 0 where
  pub names : (x : Text) → is_among (names_of p) x ≡ true → w.in_use x ≡ true
  pub candidates : (base : Text) (n : ℕ) → w.in_use (candidate base n) ≡ is_among (names_of p) (candidate base n)
  pub steady : (s : ℕ) → w.steady s ≡ is_steady_symbol p s
  pub free : length (symbols_of p) ≤ w.free_symbol
  pub made : w.made ≡ []

-- names that rules write though they make none
abbrev pub is_written_name : Text → Bool
is_written_name x = is_among (codes "Math" ∷ codes "babelHelpers" ∷ codes "require" ∷ []) x

-- the ledger in which those are in use too
abbrev pub first_whole : Tree → Whole
first_whole p = record {
  in_use = λ x. is_among (names_of p) x || is_written_name x;
  steady = is_steady_symbol p;
  free_symbol = length (symbols_of p);
  called = name_at (symbols_of p);
  made = [];
}

-- From the source with its symbols and nothing pending steps of the rule lead to q with nothing pending, and these are the names
-- that they make, in their order.
pub record Reached (R : Site → Ledger → Spot → Ledger → Spot → Type 0) (p : Tree) (w : Whole) (names : List Text) (q : Tree) : Type 0 where
  pub whole : Whole
  pub steps : Steps (Step R the_program) (nothing_beside w) (opened (source p)) (nothing_beside whole) (opened q)
  pub made : names_among whole.made ≡ names

-- THE LAWS

-- a rule by symbols, and one by names
abbrev pub StepsByName : (Site → Ledger → Spot → Ledger → Spot → Type 0) → (Need → plain_steps.Ledger → plain_steps.Spot → plain_steps.Ledger → plain_steps.Spot → Type 0) → Type 0
StepsByName R Q = (p : Tree) (w : Whole) (s : Ledger) (x : Open) → IsCoreProgram p → IsStart p w → Steps (Step R the_program) (nothing_beside w) (opened (source p)) s x →
    plain_steps.Steps (plain_steps.Step Q all_of_it) (plain_steps.ledger (plain_steps.whole_of p) plain.nothing_pending) (plain.opened (bare p)) (forgotten_ledger p s) (forgotten x)

abbrev pub ReachedByName : (Site → Ledger → Spot → Ledger → Spot → Type 0) → (Need → plain_steps.Ledger → plain_steps.Spot → plain_steps.Ledger → plain_steps.Spot → Type 0) → Type 0
ReachedByName R Q = (p q : Tree) (w : Whole) (names : List Text) → IsCoreProgram p → IsStart p w → Reached R p w names q → plain_steps.Reached Q p names q

-- Whatever steps by symbols are taken from a core program, at whatever places and in whatever order: by names they are steps of
-- es_runs. Of the lowerings that options ask for only the core ones act there; and it is so of all core ones, asked for or not.
abbrev pub LawStepsByName : Type 0
LawStepsByName = (o : EnvOptions) → StepsByName (AllRules o) (plain_rules.rule_under o) × StepsByName (rule_under o) (plain_rules.rule_under o) × StepsByName (CoreRule o) (plain_rules.CoreRule o.assumptions.no_document_all)

-- What is reached by symbols is reached by names, with the same names.
abbrev pub LawReachedByName : Type 0
LawReachedByName = (o : EnvOptions) → ReachedByName (AllRules o) (plain_rules.rule_under o) × ReachedByName (rule_under o) (plain_rules.rule_under o) × ReachedByName (CoreRule o) (plain_rules.CoreRule o.assumptions.no_document_all)

-- So source and what is reached from it run alike, where no optional mark of the source stands outside chains.
abbrev pub LawRunsBySymbols : Type 0
LawRunsBySymbols = (o : EnvOptions) (p q : Tree) (w : Whole) (names : List Text) → IsCoreProgram p → IsTidy p → IsStart p w → Reached (AllRules o) p w names q → RunAlike o.assumptions.no_document_all p q

-- Names of the source are bound there where they were, and static rules that the source keeps are kept.
abbrev pub LawKeptBySymbols : Type 0
LawKeptBySymbols = (o : EnvOptions) (p q : Tree) (w : Whole) (names : List Text) → IsCoreProgram p → IsStart p w → Reached (AllRules o) p w names q → ((x : Text) → is_among (names_of p) x ≡ true → is_declared (declared_of q) x ≡ is_declared (declared_of p) x) × (breaks p ≡ [] → breaks q ≡ [])

-- Steps can begin: where besides the program's names those are in use that the rules write of themselves, it is so.
abbrev pub LawFirstWhole : Type 0
LawFirstWhole = (p : Tree) → IsStart p (first_whole p)
