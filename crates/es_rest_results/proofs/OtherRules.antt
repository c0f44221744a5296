-- Where of what options ask to lower nothing but object patterns with a rest that are declared stands in a program, steps of the built rules change nothing: no
-- row acts, and nothing is pending that could be written.
use Rattle.std.proofs.Common.{◌≡◌, inl, inr, refl, sym, ap, subst, ◌∙◌, List}
use Rattle.std.proofs.lemmas.Bool.{and_from, and_parts, or_parts}
use Rattle.std.specs.Prelude.{◌⊎◌, ◌&&◌, ◌||◌, Bool, true, false, not, Option, bytes_eq, codes, is_some}
use Rattle.es_tree.specs.Bare.{bare_fields, bare_label}
use Rattle.es_tree.specs.Constructs.{field_at, is_namespace_export, is_nullish_coalescing, is_optional_catch, stands}
use Rattle.es_tree.specs.HasForm.{has_form}
use Rattle.es_tree.specs.Names.{first_text}
use Rattle.es_tree.specs.Tree.{Tree, node, Label, Fields, done, ◌then◌, Field, missing, one, many, statements, Trees, empty, ◌before◌}
use Rattle.es_tree.specs.Walks.{all_in_field, all_in_fields, all_in_trees, all_nodes, any_in_field, any_in_fields, any_in_trees, any_node}
use Rattle.es_tree.specs.Words.{Text}
use Rattle.es_tree.specs.declared.ast_type.AstType.{AstType}
use Rattle.es_tree.specs.declared.ast_type.AstType.TheVariants.{CatchClause, ExportAllDeclaration, LogicalExpression}
use Rattle.es_tree.specs.declared.options.EnvOptions.{EnvOptions}
use Rattle.es_tree.specs.declared.table.Sort.TheVariants.{Program as s-Program}
use Rattle.es_resolution.specs.Declarations.{Bound}
use Rattle.es_resolution.specs.Laws.{source}
use Rattle.es_steps.specs.CoreBridge.{Reached, first_whole}
use Rattle.es_steps.specs.CoreRules.{RowRule, where_on}
use Rattle.es_steps.specs.Exponentiation.{ExponentiationRule}
use Rattle.es_steps.specs.LogicalAssignment.{LogicalAssignmentRule}
use Rattle.es_steps.specs.NamespaceExports.{NamespaceRule}
use Rattle.es_steps.specs.NamespaceExports.NamespaceRule.{exports}
use Rattle.es_steps.specs.NullishCoalescing.{NullishCoalescingRule}
use Rattle.es_steps.specs.NullishCoalescing.NullishCoalescingRule.{reading_again, with_temporary}
use Rattle.es_steps.specs.ObjectSpread.{SpreadRule}
use Rattle.es_steps.specs.Open.{Open, finished, finished_fields}
use Rattle.es_steps.specs.OptionalCatch.{CatchRule}
use Rattle.es_steps.specs.OptionalCatch.CatchRule.{catches}
use Rattle.es_steps.specs.OptionalChaining.{OptionalChainingRule}
use Rattle.es_steps.specs.Rules.{Replacing, Writing, either_rule}
use Rattle.es_steps.specs.Rules.Replacing.{replaces}
use Rattle.es_steps.specs.Steps.{Ledger, Site, Spot, Step, Steps, Whole, the_program}
use Rattle.es_steps.specs.Steps.Steps.{goes, stays}
use Rattle.es_steps.proofs.BridgeInclusion.{step_under}
use Rattle.es_steps.proofs.FormOpen.{IsProper, opened-proper}
use Rattle.es_steps.proofs.FormSteps.{formed-after}
use Rattle.es_steps.proofs.Opened.{finished-opened}
use Rattle.es_steps.proofs.RuleLaws.{writes-lists}
use Rattle.es_steps.proofs.Taken.{whole_in}
use Rattle.es_valid_steps.specs.Laws.{with_further_rules}
use Rattle.es_valid_steps.proofs.FurtherSteps.{alone as all_alone}
use Rattle.es_reached.specs.Reached.{built_rules}
use Rattle.es_reached.proofs.Results.{source-form}
use Rattle.es_statement_runs.specs.Programs.{IsStatementProgram, is_statement_node}
use Rattle.es_statement_steps.specs.Laws.{assignments_there, chains_there, powers_there, spreads_there}
use Rattle.es_statement_steps.specs.Orders.{only_where}
use Rattle.es_statement_steps.proofs.Absent.{Absent, Never, absent-source, no-assignment, no-chain, no-power, no-spread, not-there}
use Rattle.es_statement_steps.proofs.AloneRules.{alone, alone-form}
use Rattle.es_statement_steps.proofs.Arrowless.{arrows-apart}
use Rattle.es_statement_steps.proofs.BareTests.{source-passes}
use Rattle.es_statement_steps.proofs.Below.{nodes_below}
use Rattle.es_statement_steps.proofs.Composition.{Exports, anywhere}
use Rattle.es_statement_steps.proofs.NoSteps.{never-step}
use Rattle.es_statement_steps.proofs.Premises.{Inwards, Premise, PremiseAt, With, premised}
use Rattle.es_statement_steps.proofs.ReachedRuns.{class-bare, source-bare}
use Rattle.es_statement_steps.proofs.RestsApart.{rests-apart}
use Rattle.es_statement_steps.proofs.StepRules.{Does, StatementRules, chains_under, spreads_under, tamed-step, writing-form}
use Rattle.es_statement_steps.proofs.StepSplits.{step-either}
use Rattle.es_statement_steps.proofs.Tamed.{Class}
use Rattle.es_statement_steps.proofs.Writings.{written-same}
use Rattle.es_rest_results.specs.Others.{assigned_rests_there, catches_there, coalescings_there, exports_there, others_there}

-- WHERE NO NODE PASSES A TEST, or it isn't asked for

abbrev fails : Bool → (AstType → Label → Fields → Bool) → AstType → Label → Fields → Bool
fails on T k l fs = not (on && T k l fs)

neither : (on a b : Bool) → (on && (a || b)) ≡ false → ((on && a) ≡ false) × ((on && b) ≡ false)
neither true a b h = or_parts a b h
neither false a b h = (refl, refl)

module _ (on : Bool) (T : AstType → Label → Fields → Bool) where
  mutual
    all-fail : (t : Tree) → (on && any_node T t) ≡ false → all_nodes (fails on T) t ≡ true
    all-fail (node k l fs) h = let d = neither on (T k l fs) (any_in_fields T fs) h in and_from (fails on T k l fs) (all_in_fields (fails on T) fs) (ap not d.0) (all-fail-in fs d.1)

    all-fail-in : (fs : Fields) → (on && any_in_fields T fs) ≡ false → all_in_fields (fails on T) fs ≡ true
    all-fail-in done h = refl
    all-fail-in (f then fs) h = let d = neither on (any_in_field T f) (any_in_fields T fs) h in and_from (all_in_field (fails on T) f) (all_in_fields (fails on T) fs) (all-fail-by f d.0) (all-fail-in fs d.1)

    all-fail-by : (f : Field) → (on && any_in_field T f) ≡ false → all_in_field (fails on T) f ≡ true
    all-fail-by missing h = refl
    all-fail-by (one t) h = all-fail t h
    all-fail-by (many ts) h = all-fail-among ts h
    all-fail-by (statements ts) h = all-fail-among ts h

    all-fail-among : (ts : Trees) → (on && any_in_trees T ts) ≡ false → all_in_trees (fails on T) ts ≡ true
    all-fail-among empty h = refl
    all-fail-among (t before ts) h = let d = neither on (any_node T t) (any_in_trees T ts) h in and_from (all_nodes (fails on T) t) (all_in_trees (fails on T) ts) (all-fail t d.0) (all-fail-among ts d.1)

  -- so it is in the source of a program, where ids and marks don't count for the test
  source-fails : ((k : AstType) (l : Label) (fs : Fields) → T k (bare_label l) (bare_fields fs) ≡ T k l fs) → (p : Tree) → (on && any_node T p) ≡ false → all_nodes (fails on T) (source p) ≡ true
  source-fails same p h = source-passes (fails on T) (λ k l fs. ap (λ b. not (on && b)) (same k l fs)) p (all-fail p h)

  abbrev Failing : Premise
  Failing n w t = all_nodes (fails on T) t ≡ true

  inwards : Inwards Failing
  inwards n w k l fs h = nodes_below (fails on T) (finished_fields fs) (and_parts (fails on T k l (finished_fields fs)) (all_in_fields (fails on T) (finished_fields fs)) h).1

  -- a rule acts only at nodes that pass, where it is asked for
  abbrev ActsThere : (Site → Ledger → Spot → Ledger → Spot → Type 0) → Type 0
  ActsThere R = (n : Site) (s : Ledger) (x : Spot) (s' : Ledger) (y : Spot) → where_on on R n s x s' y → PremiseAt Failing n s x → ⊥

  no-step : (R : Site → Ledger → Spot → Ledger → Spot → Type 0) → ActsThere R → {s s' : Ledger} {x y : Open} → Step (where_on on R) the_program s x s' y → IsProper x → Class (finished x) → all_nodes (fails on T) (finished x) ≡ true → ⊥
  no-step R acts h proper class fail = never-step (With (where_on on R) Failing) (λ n s x s' y r. acts n s x s' y r.0 r.1) (premised (where_on on R) Failing inwards h proper class fail)

-- nullish coalescing
passes-not : (b c : Bool) → b ≡ true → (not b && c) ≡ true → ⊥
passes-not true c e h = absurd (cc h)
passes-not false c e h = absurd (cc e)

coalesces : (n : Site) (w : Whole) (bs : List Bound) (t u : Tree) → NullishCoalescingRule n w bs t u → all_nodes (fails true is_nullish_coalescing) t ≡ true → ⊥
coalesces n w bs t u (with_temporary {m = m} texts again next) h = passes-not (bytes_eq (first_text m.texts) (codes "??")) _ (ap (λ (ts : List (Option Text)). bytes_eq (first_text ts) (codes "??")) texts) h
coalesces n w bs t u (reading_again {m = m} texts again) h = passes-not (bytes_eq (first_text m.texts) (codes "??")) _ (ap (λ (ts : List (Option Text)). bytes_eq (first_text ts) (codes "??")) texts) h

coalescing-acts : (on : Bool) → ActsThere on is_nullish_coalescing (RowRule NullishCoalescingRule)
coalescing-acts true n s x s' y (replaces {w = w} {t = t} {u = u} bs d) h = coalesces n w bs t u d.rule h
coalescing-acts false n s x s' y r h = absurd r

coalescing-bare : (k : AstType) (l : Label) (fs : Fields) → is_nullish_coalescing k (bare_label l) (bare_fields fs) ≡ is_nullish_coalescing k l fs
coalescing-bare LogicalExpression l fs = refl
coalescing-bare _ l fs = refl

-- optional catch, and exports of namespaces
stands-bare : (fs : Fields) → stands (field_at 0 (bare_fields fs)) ≡ stands (field_at 0 fs)
stands-bare done = refl
stands-bare (missing then fs) = refl
stands-bare (one t then fs) = refl
stands-bare (many ts then fs) = refl
stands-bare (statements ts then fs) = refl

catch-acts : (on : Bool) → ActsThere on is_optional_catch CatchRule
catch-acts true n s x s' y (catches fresh) h = absurd (cc h)
catch-acts false n s x s' y r h = absurd r

catch-bare : (k : AstType) (l : Label) (fs : Fields) → is_optional_catch k (bare_label l) (bare_fields fs) ≡ is_optional_catch k l fs
catch-bare CatchClause l fs = ap not (stands-bare fs)
catch-bare _ l fs = refl

export-acts : (on : Bool) → ActsThere on is_namespace_export NamespaceRule
export-acts true n s x s' y (exports listed fresh exported from attributes) h = absurd (cc h)
export-acts false n s x s' y r h = absurd r

export-bare : (k : AstType) (l : Label) (fs : Fields) → is_namespace_export k (bare_label l) (bare_fields fs) ≡ is_namespace_export k l fs
export-bare ExportAllDeclaration l fs = stands-bare fs
export-bare _ l fs = refl

-- NONE OF THEM STANDS THERE

record NoOthers (o : EnvOptions) (p : Tree) : Type 0 where
  spreads : spreads_there o p ≡ false
  chains : chains_there o p ≡ false
  assignments : assignments_there o p ≡ false
  powers : powers_there o p ≡ false
  coalescings : coalescings_there o p ≡ false
  optional_catches : catches_there o p ≡ false
  namespace_exports : exports_there o p ≡ false
  assigned_rests : assigned_rests_there o p ≡ false

no-others : (o : EnvOptions) (p : Tree) → others_there o p ≡ false → NoOthers o p
no-others o p h =
    let a = or_parts (spreads_there o p) _ h in
    let b = or_parts (chains_there o p) _ a.1 in
    let c = or_parts (assignments_there o p) _ b.1 in
    let d = or_parts (powers_there o p) _ c.1 in
    let e = or_parts (coalescings_there o p) _ d.1 in
    let f = or_parts (catches_there o p) _ e.1 in
    let g = or_parts (exports_there o p) (assigned_rests_there o p) f.1 in
    record { spreads = a.0; chains = b.0; assignments = c.0; powers = d.0; coalescings = e.0; optional_catches = f.0; namespace_exports = g.0; assigned_rests = g.1 }

-- STEPS, at whatever places
abbrev everywhere : Site → Spot → Bool
everywhere n x = true

module _ (o : EnvOptions) (p : Tree) (class : IsStatementProgram p) (lacks : NoOthers o p) where
  -- an open program whose finished tree is the source
  record Still (x : Open) : Type 0 where
    proper : IsProper x
    same : finished x ≡ source p

  there : (P : Tree → Type 0) (x : Open) → Still x → P (source p) → P (finished x)
  there P x k h = subst P (sym k.same) h

  class-there : (x : Open) → Still x → Class (finished x)
  class-there x k = there (λ t. Class t) x k (sym (class-bare (source p)) ∙ ap (λ t. all_nodes is_statement_node t) (sym (source-bare p)) ∙ class-bare p ∙ class.without_functions)

  absent-there : (x : Open) → Still x → Absent p (finished x)
  absent-there x k = there (λ t. Absent p t) x k (absent-source p)

  -- a rule whose steps change nothing there
  abbrev Idle : (Site → Ledger → Spot → Ledger → Spot → Type 0) → Type 0
  Idle R = Does (λ s s' x y. Still x → (s ≡ s') × (finished x ≡ finished y)) R

  either-idle : (R Q : Site → Ledger → Spot → Ledger → Spot → Type 0) → Idle R → Idle Q → Idle (either_rule R Q)
  either-idle R Q first second s s' x y h k = at (step-either R Q h)
    where
      at : Step R the_program s x s' y ⊎ Step Q the_program s x s' y → (s ≡ s') × (finished x ≡ finished y)
      at (inl r) = first s s' x y r k
      at (inr r) = second s s' x y r k

  writing-idle : Idle Writing
  writing-idle s s' x y h k = written-same Writing (writing-form o) (λ n s s' t u r. absurd (writes-lists r)) h k.proper

  -- one of what is sought
  sought-idle : (asked found : Bool) (R : Site → Ledger → Spot → Ledger → Spot → Type 0) → (asked && found) ≡ false → (found ≡ false → Never p R) → Idle (where_on asked R)
  sought-idle asked found R e never s s' x y h k = absurd (not-there asked found p R e never s s' x y h k.proper (class-there x k) (absent-there x k))

  -- and one of the others
  never-there : (asked : Bool) (T : AstType → Label → Fields → Bool) (R : Site → Ledger → Spot → Ledger → Spot → Type 0) → ActsThere asked T R → ((k : AstType) (l : Label) (fs : Fields) → T k (bare_label l) (bare_fields fs) ≡ T k l fs) → (asked && any_node T p) ≡ false → {s s' : Ledger} {x y : Open} → Step (where_on asked R) the_program s x s' y → Still x → ⊥
  never-there asked T R acts same e {x = x} h k = no-step asked T R acts h k.proper (class-there x k) (there (λ t. all_nodes (fails asked T) t ≡ true) x k (source-fails asked T same p e))

  abbrev Assigning : Site → Ledger → Spot → Ledger → Spot → Type 0
  Assigning = where_on o.es2021.logical_assignment_operators (RowRule LogicalAssignmentRule)

  abbrev Coalescing : Site → Ledger → Spot → Ledger → Spot → Type 0
  Coalescing = where_on o.es2020.nullish_coalescing_operator (RowRule NullishCoalescingRule)

  abbrev Raising : Site → Ledger → Spot → Ledger → Spot → Type 0
  Raising = where_on o.es2016.exponentiation_operator (RowRule ExponentiationRule)

  abbrev Catching : Site → Ledger → Spot → Ledger → Spot → Type 0
  Catching = where_on o.es2019.optional_catch_binding CatchRule

  coalescing-idle : Idle Coalescing
  coalescing-idle s s' x y h k = absurd (never-there o.es2020.nullish_coalescing_operator is_nullish_coalescing (RowRule NullishCoalescingRule) (coalescing-acts o.es2020.nullish_coalescing_operator) coalescing-bare lacks.coalescings h k)

  catch-idle : Idle Catching
  catch-idle s s' x y h k = absurd (never-there o.es2019.optional_catch_binding is_optional_catch CatchRule (catch-acts o.es2019.optional_catch_binding) catch-bare lacks.optional_catches h k)

  rows-idle : Idle (either_rule Assigning (either_rule (either_rule Coalescing (chains_under o)) Raising))
  rows-idle =
      either-idle Assigning (either_rule (either_rule Coalescing (chains_under o)) Raising) (sought-idle o.es2021.logical_assignment_operators _ (RowRule LogicalAssignmentRule) lacks.assignments (no-assignment p))
      (either-idle (either_rule Coalescing (chains_under o)) Raising
      (either-idle Coalescing (chains_under o) coalescing-idle (sought-idle o.es2020.optional_chaining _ (RowRule (OptionalChainingRule o.assumptions.no_document_all)) lacks.chains (no-chain o.assumptions.no_document_all p)))
      (sought-idle o.es2016.exponentiation_operator _ (RowRule ExponentiationRule) lacks.powers (no-power p)))

  statements-idle : Idle (StatementRules o)
  statements-idle =
      either-idle Writing (either_rule (either_rule Assigning (either_rule (either_rule Coalescing (chains_under o)) Raising)) (either_rule Catching (spreads_under o))) writing-idle
      (either-idle (either_rule Assigning (either_rule (either_rule Coalescing (chains_under o)) Raising)) (either_rule Catching (spreads_under o)) rows-idle
      (either-idle Catching (spreads_under o) catch-idle (sought-idle (is_some o.es2018.object_rest_spread) _ (Replacing SpreadRule) lacks.spreads (no-spread p))))

  -- A STEP of the built rules: no arrow stands there, no namespace is exported, nothing is assigned to a rest, and no slot is wrapped

  told-apart : (n : Site) (s : Ledger) (x : Spot) (s' : Ledger) (y : Spot) → only_where everywhere (with_further_rules o) n s x s' y → either_rule (only_where everywhere (all_alone o)) (Exports o) n s x s' y
  told-apart n s x s' y (inl r, e) = inl (inl r, e)
  told-apart n s x s' y (inr (inl r), e) = inl (inr (inl r), e)
  told-apart n s x s' y (inr (inr (inl r)), e) = inr r
  told-apart n s x s' y (inr (inr (inr r)), e) = inl (inr (inr r), e)

  alone-step : {s s' : Ledger} {x y : Open} → Step (built_rules o) the_program s x s' y → Still x → Step (alone o) the_program s x s' y
  alone-step {s = s} {s' = s'} {x = x} {y = y} h k =
      let further = arrows-apart o everywhere (step_under (built_rules o) (only_where everywhere (built_rules o)) (λ n s x s' y r. (r, refl)) h) refl (class-there x k) in
      at (step-either (only_where everywhere (all_alone o)) (Exports o) (step_under (only_where everywhere (with_further_rules o)) (either_rule (only_where everywhere (all_alone o)) (Exports o)) told-apart further))
    where
      at : Step (only_where everywhere (all_alone o)) the_program s x s' y ⊎ Step (Exports o) the_program s x s' y → Step (alone o) the_program s x s' y
      at (inl r) = anywhere everywhere (alone o) (rests-apart o p lacks.assigned_rests everywhere r k.proper (class-there x k) (absent-there x k))
      at (inr r) = absurd (never-there o.es2020.export_namespace_from is_namespace_export NamespaceRule (export-acts o.es2020.export_namespace_from) export-bare lacks.namespace_exports r k)

  one-step : {s s' : Ledger} {x y : Open} → Step (built_rules o) the_program s x s' y → Still x → (s ≡ s') × Still y
  one-step {s = s} {s' = s'} {x = x} {y = y} h k =
      let step = alone-step h k in
      let after = formed-after (alone o) (alone-form o) step s-Program (λ e. absurd (cc e)) k.proper (there (λ t. has_form s-Program t ≡ true) x k (source-form p class.form)) in
      let r = statements-idle s s' x y (tamed-step o step k.proper after.proper (class-there x k)).0 k in
      (r.0, record { proper = after.proper; same = sym r.1 ∙ k.same })

  in-a-row : {s s' : Ledger} {x y : Open} → Steps (Step (built_rules o) the_program) s x s' y → Still x → (s ≡ s') × Still y
  in-a-row stays k = (refl, k)
  in-a-row (goes h rest) k = let r = one-step h k in let rs = in-a-row rest r.1 in (r.0 ∙ rs.0, rs.1)

-- THE LAW: what is reached is the source, and no name is made.
pub law_others_idle_proof : (o : EnvOptions) (p r : Tree) (names : List Text) → IsStatementProgram p → others_there o p ≡ false → (reached : Reached (built_rules o) p (first_whole p) names r) → (r ≡ source p) × (reached.whole ≡ first_whole p)
law_others_idle_proof o p r names class none reached =
    let end = in-a-row o p class (no-others o p none) reached.steps (record { proper = opened-proper (source p); same = finished-opened (source p) }) in
    (sym (finished-opened r) ∙ end.1.same, ap whole_in (sym end.0))
