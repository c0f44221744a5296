-- What steps reach from a program of the class runs as the program does, and what is kept on the way holds of it.
use Rattle.std.proofs.Common.{arith, ◌≡◌, refl, sym, ap, subst, ◌∙◌, List, []}
use Rattle.std.specs.Prelude.{Bool, true, ◌&&◌}
use Rattle.es_tree.specs.Bare.{bare, bare_field, bare_fields, bare_label, bare_trees}
use Rattle.es_tree.specs.HasForm.{has_form}
use Rattle.es_tree.specs.StaticRules.{breaks}
use Rattle.es_tree.specs.Tree.{Tree, node, Label, Fields, done, ◌then◌, Field, missing, one, many, statements, Trees, empty, ◌before◌, kind_of}
use Rattle.es_tree.specs.Walks.{all_nodes, all_in_field, all_in_fields, all_in_trees}
use Rattle.es_tree.specs.Words.{Text}
use Rattle.es_tree.specs.declared.ast_type.AstType.{AstType}
use Rattle.es_tree.specs.declared.ast_type.AstType.TheVariants.{MetaProperty, ObjectProperty, Program}
use Rattle.es_tree.specs.declared.options.EnvOptions.{EnvOptions}
use Rattle.es_tree.specs.declared.table.Sort.TheVariants.{Program as s-Program}
use Rattle.es_tree.proofs.BareForm.{has_form-bare}
use Rattle.es_runs.specs.Runs.{program}
use Rattle.es_semantic.specs.RolesOf.{reads}
use Rattle.es_resolution.specs.Declarations.{is_var_scope}
use Rattle.es_resolution.specs.Laws.{source}
use Rattle.es_resolution.specs.Named.{Named}
use Rattle.es_resolution.specs.Resolved.{IsResolved}
use Rattle.es_resolution.proofs.Forms.{form-placed}
use Rattle.es_steps.specs.CoreBridge.{Reached, first_whole}
use Rattle.es_steps.specs.Identifiers.{Passes, is_called}
use Rattle.es_steps.specs.Laws.{IsWellBound}
use Rattle.es_steps.specs.Open.{Open, finished, opened}
use Rattle.es_steps.specs.Steps.{Site, Spot, Whole}
use Rattle.es_steps.specs.Steps.Steps.{stays}
use Rattle.es_steps.proofs.BridgeInclusion.{all_under}
use Rattle.es_steps.specs.AllRules.{AllRules}
use Rattle.es_steps.proofs.FormOpen.{IsProper, opened-proper}
use Rattle.es_steps.proofs.Laws.{all-rules-lawful, all-rules-write}
use Rattle.es_steps.proofs.Opened.{finished-opened}
use Rattle.es_steps.proofs.Passing.{called-passes}
use Rattle.es_steps.proofs.Start.{law_start_proof}
use Rattle.es_steps.proofs.StepsKept.{all-recalled, none-beside}
use Rattle.es_valid_steps.specs.PlaceRules.{Keeps}
use Rattle.es_valid_steps.proofs.Spread.{spread, spread-opened}
use Rattle.es_valid_steps.proofs.Visits.{law_among_proof, law_places_proof}
use Rattle.es_valid_names.proofs.BareNames.{law_bare_declared_proof, law_declared_among_proof, law_together_proof}
use Rattle.es_reached.specs.Reached.{built_rules}
use Rattle.es_reached.proofs.BarePlaces.{law_bare_places_proof}
use Rattle.es_reached.proofs.BuiltRules.{built-all}
use Rattle.es_reached.proofs.Sources.{law_bare_source_proof}
use Rattle.es_statement_runs.specs.Helpers.{Supply, program_list, silent_names}
use Rattle.es_statement_runs.specs.Programs.{IsStatementProgram, is_statement_node}
use Rattle.es_statement_steps.specs.Orders.{only_where}
use Rattle.es_statement_steps.proofs.Composition.{AloneRuns, NamespaceRuns, Shaped, composed}
use Rattle.es_statement_steps.proofs.Rooms.{IsProgram, program-fields}
use Rattle.es_statement_steps.proofs.RowRuns.{StepAlike}
use Rattle.es_statement_steps.proofs.Sources.{same-but-marks, then-alike}
use Rattle.es_statement_steps.proofs.Tamed.{Class}

-- THE SOURCE is of the class as the program is

bare-node : (k : AstType) (l : Label) (fs : Fields) → is_statement_node k (bare_label l) (bare_fields fs) ≡ is_statement_node k l fs
bare-node ObjectProperty l fs = refl
bare-node MetaProperty l fs = refl
bare-node _ l fs = refl

mutual
  pub class-bare : (t : Tree) → all_nodes is_statement_node (bare t) ≡ all_nodes is_statement_node t
  class-bare (node k l fs) = λ i. bare-node k l fs i && class-bare-in fs i

  class-bare-in : (fs : Fields) → all_in_fields is_statement_node (bare_fields fs) ≡ all_in_fields is_statement_node fs
  class-bare-in done = refl
  class-bare-in (f then fs) = λ i. class-bare-at f i && class-bare-in fs i

  class-bare-at : (f : Field) → all_in_field is_statement_node (bare_field f) ≡ all_in_field is_statement_node f
  class-bare-at missing = refl
  class-bare-at (one t) = class-bare t
  class-bare-at (many ts) = class-bare-all ts
  class-bare-at (statements ts) = class-bare-all ts

  class-bare-all : (ts : Trees) → all_in_trees is_statement_node (bare_trees ts) ≡ all_in_trees is_statement_node ts
  class-bare-all empty = refl
  class-bare-all (t before ts) = λ i. class-bare t i && class-bare-all ts i

pub source-bare : (p : Tree) → bare p ≡ bare (source p)
source-bare p = sym (law_bare_source_proof p)

source-class : (p : Tree) → Class p → Class (source p)
source-class p h = sym (class-bare (source p)) ∙ ap (λ t. all_nodes is_statement_node t) (sym (source-bare p)) ∙ class-bare p ∙ h

-- and breaks no static rule
rules-bare : (t u : Tree) → bare t ≡ bare u → breaks t ≡ [] → breaks u ≡ []
rules-bare t u same h = law_together_proof u (law_bare_places_proof t u same (law_among_proof t h)) (law_bare_declared_proof t u same (law_declared_among_proof t h))

source-form : (p : Tree) → has_form s-Program p ≡ true → has_form s-Program (source p) ≡ true
source-form p h = sym (has_form-bare s-Program (source p)) ∙ ap (has_form s-Program) (sym (source-bare p)) ∙ has_form-bare s-Program p ∙ h

-- A PROGRAM is a label, directives and a list

pub record ProgramParts (t : Tree) : Type 0 where
  pub label : Label
  pub directives : Trees
  pub body : Trees
  pub same : t ≡ program label directives body

parts-of : (l : Label) (fs : Fields) → IsProgram fs → ProgramParts (node Program l fs)
parts-of l (many ds then (statements ts then done)) h = record { label = l; directives = ds; body = ts; same = refl }
parts-of l done h = absurd h
parts-of l (missing then fs) h = absurd h
parts-of l (one t then fs) h = absurd h
parts-of l (statements ts then fs) h = absurd h
parts-of l (many ds then done) h = absurd h
parts-of l (many ds then (missing then fs)) h = absurd h
parts-of l (many ds then (one t then fs)) h = absurd h
parts-of l (many ds then (many ts then fs)) h = absurd h
parts-of l (many ds then (statements ts then (f then fs))) h = absurd h

pub program-parts : (t : Tree) → has_form s-Program t ≡ true → ProgramParts t
program-parts (node k l fs) h = at k (form-placed (node k l fs) h).0 h
  where
    at : (k : AstType) → k ≡ Program → has_form s-Program (node k l fs) ≡ true → ProgramParts (node k l fs)
    at k e h = subst (λ (j : AstType). ProgramParts (node j l fs)) (sym e) (parts-of l fs (program-fields s-Program l fs (subst (λ (j : AstType). has_form s-Program (node j l fs) ≡ true) e h)))

-- WHAT NO NAME OF A PROGRAM STANDS FOR, nor of those between it and its source

abbrev pub AllSilent : Supply → Tree → Type 0
AllSilent u p = (t : Tree) → bare t ≡ bare p → silent_names u t ≡ []

mutual
  bare-twice-tree : (t : Tree) → bare (bare t) ≡ bare t
  bare-twice-tree (node k l fs) = λ i. node k (bare_label l) (bare-twice-in fs i)

  bare-twice-in : (fs : Fields) → bare_fields (bare_fields fs) ≡ bare_fields fs
  bare-twice-in done = refl
  bare-twice-in (f then fs) = λ i. bare-twice-at f i then bare-twice-in fs i

  bare-twice-at : (f : Field) → bare_field (bare_field f) ≡ bare_field f
  bare-twice-at missing = refl
  bare-twice-at (one t) = λ i. one (bare-twice-tree t i)
  bare-twice-at (many ts) = λ i. many (bare-twice ts i)
  bare-twice-at (statements ts) = λ i. statements (bare-twice ts i)

  bare-twice : (ts : Trees) → bare_trees (bare_trees ts) ≡ bare_trees ts
  bare-twice empty = refl
  bare-twice (t before ts) = λ i. bare-twice-tree t i before bare-twice ts i

source-alike : (no_all : Bool) (u : Supply) (p : Tree) → has_form s-Program p ≡ true → AllSilent u p → StepAlike no_all u p (source p)
source-alike no_all u p form silent =
    let a = program-parts p form in
    let b = program-parts (source p) (source-form p form) in
    let listed : bare_trees a.body ≡ bare_trees b.body = same-lists a.same b.same in
    subst (λ (t : Tree). StepAlike no_all u t (source p)) (sym a.same) (subst (λ (t : Tree). StepAlike no_all u (program a.label a.directives a.body) t) (sym b.same)
    (same-but-marks no_all u a.label b.label a.directives b.directives a.body b.body listed
    (silent (program a.label a.directives a.body) (ap bare (sym a.same)))
    (silent (program a.label a.directives (bare_trees a.body)) (ap (λ ts. program (bare_label a.label) (bare_trees a.directives) ts) (bare-twice a.body) ∙ ap bare (sym a.same)))
    (silent (program a.label a.directives b.body) (ap (λ ts. program (bare_label a.label) (bare_trees a.directives) ts) (sym listed) ∙ ap bare (sym a.same)))
    (silent (program b.label b.directives b.body) (ap bare (sym b.same) ∙ sym (source-bare p)))))
  where
    same-lists : {l m : Label} {ds es body after : Trees} → p ≡ program l ds body → source p ≡ program m es after → bare_trees body ≡ bare_trees after
    same-lists d e = ap program_list (sym (ap bare d) ∙ source-bare p ∙ ap bare e)

-- STEPS

pub reached-runs : (o : EnvOptions) (at : Site → Spot → Bool) (no_all : Bool) (u : Supply) (Clean : Whole → Tree → Type 0) → AloneRuns o at no_all u Clean → NamespaceRuns o no_all u Clean → (p q : Tree) (names : List Text) → IsStatementProgram p → AllSilent u p → Clean (first_whole p) (source p) → (reached : Reached (only_where at (built_rules o)) p (first_whole p) names q) → StepAlike no_all u p q × Clean reached.whole q
reached-runs o at no_all u Clean alone exports p q names h silent clean reached =
    let w = first_whole p in
    let w' = reached.whole in
    let t = source p in
    let form = source-form p h.form in
    let bound : IsWellBound w t = law_start_proof p w h.form h.rules (λ x e. rw e refl) (omega arith) (λ s. refl) in
    let steps = all_under (only_where at (built_rules o)) (AllRules o) (λ n s x s' y r. built-all o n s x s' y r.0) reached.steps in
    let r = all-recalled (AllRules o) (all-rules-lawful o) (all-rules-write o) steps in
    let called = called-passes w.called w'.called w.free_symbol r.same w.in_use reads t bound.named bound.called bound.class_names in
    let opens = λ (P : Tree → Type 0) (z : P t). subst P (sym (finished-opened t)) z in
    let places = law_bare_places_proof p t (source-bare p) (law_among_proof p h.rules) in
    let spread_same : finished (spread (opened t)) ≡ t = ap finished (spread-opened t) ∙ finished-opened t in
    let shaped : Shaped o at no_all u Clean alone exports (spread (opened t)) = record {
      proper = subst (λ (x : Open). IsProper x) (sym (spread-opened t)) (opened-proper t);
      form = subst (λ (x : Tree). has_form s-Program x ≡ true) (sym spread_same) form;
      keeps = subst (λ (x : Tree). Keeps [] x) (sym spread_same) ((law_places_proof t).to_places places);
      class = subst (λ (x : Tree). Class x) (sym spread_same) (source-class p h.without_functions);
    } in
    let rules = rules-bare p t (source-bare p) h.rules in
    let led = composed o at no_all u Clean alone exports t w form rules bound w'.called stays refl reached.steps (λ m e. refl) (ap (λ (a : Tree). is_var_scope (kind_of a)) (finished-opened t) ∙ ap is_var_scope (program-kind t form))
    (opens (λ a. Named w.in_use w.free_symbol reads a) bound.named) (none-beside (is_called w'.called) w) (opens (λ a. Passes (is_called w'.called) a) called) (opens (λ a. IsResolved a) bound.resolved)
    (record { vars = refl; this = refl }) shaped (opens (Clean w) clean) in
    (then-alike no_all u p t q (source-alike no_all u p h.form silent) (subst (λ (x : Tree). StepAlike no_all u x q) (finished-opened t) (subst (λ (y : Tree). StepAlike no_all u (finished (opened t)) y) (finished-opened q) led.0)), subst (λ (y : Tree). Clean w' y) (finished-opened q) led.1)
  where
    program-kind : (t : Tree) → has_form s-Program t ≡ true → kind_of t ≡ Program
    program-kind (node k l fs) f = (form-placed (node k l fs) f).0
