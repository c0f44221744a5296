-- The law of steps and runs, from what is known of the rows.
use Rattle.std.proofs.Common.{arith, ap, ◌≡◌, refl, sym, subst, ◌∙◌, List, []}
use Rattle.std.proofs.lemmas.Bool.{and_from, or_parts}
use Rattle.std.specs.Prelude.{◌&&◌, ◌||◌, Bool, true, false, codes, is_some, length, not, if◌then◌else◌}
use Rattle.es_tree.specs.Fresh.{is_among}
use Rattle.es_tree.specs.Names.{names_of}
use Rattle.es_tree.specs.Tree.{Tree}
use Rattle.es_tree.specs.HasForm.{has_form}
use Rattle.es_tree.specs.declared.table.Sort.TheVariants.{Program as s-Program}
use Rattle.es_tree.specs.Walks.{all_nodes, any_node}
use Rattle.es_tree.specs.Words.{Text}
use Rattle.es_tree.specs.declared.options.EnvOptions.{EnvOptions}
use Rattle.es_semantic.specs.RolesOf.{reads}
use Rattle.es_semantic.specs.SymbolsOf.{symbols_of}
use Rattle.es_resolution.specs.Laws.{source}
use Rattle.es_resolution.proofs.Sources.{law_named_proof}
use Rattle.es_steps.specs.CoreBridge.{Reached, first_whole}
use Rattle.es_steps.specs.CoreRules.{RowRule, where_on}
use Rattle.es_steps.specs.Exponentiation.{ExponentiationRule}
use Rattle.es_steps.specs.LogicalAssignment.{LogicalAssignmentRule}
use Rattle.es_steps.specs.ObjectSpread.{SpreadRule}
use Rattle.es_steps.specs.Open.{Open, finished}
use Rattle.es_steps.specs.OptionalChaining.{OptionalChainingRule}
use Rattle.es_steps.specs.Rules.{Replacing}
use Rattle.es_steps.specs.Steps.{Ledger, Site, Spot, Step, Whole, the_program}
use Rattle.es_steps.proofs.BridgeInclusion.{all_under}
use Rattle.es_steps.proofs.Taken.{whole_in}
use Rattle.es_statement_steps.proofs.AloneRules.{alone}
use Rattle.es_valid_steps.proofs.Spread.{finished-spread, spread}
use Rattle.es_reached.specs.Reached.{built_rules}
use Rattle.es_reached.specs.Unmade.{is_sought, of_chains}
use Rattle.es_statement_runs.specs.Helpers.{Supply, silent_names}
use Rattle.es_statement_runs.specs.Helpers.Supply.{no_helpers, spread_by_global, by_global}
use Rattle.es_statement_runs.specs.Programs.{IsStatementProgram, uses_no_helper}
use Rattle.es_statement_runs.specs.HelperMembers.{no_helper_member}
use Rattle.es_statement_runs.specs.Runs.{RunAlike}
use Rattle.es_statement_runs.proofs.Spreads.{has_global_spread}
use Rattle.es_statement_steps.specs.Laws.{AssignsNoRest, LawStatementRules, TagsAreNoChains, assignments_there, assumes_no_all, chains_there, powers_there, spreads_there, supply_there}
use Rattle.es_statement_steps.specs.Orders.{in_order, is_in_order, only_where}
use Rattle.es_statement_steps.proofs.Absent.{Absent, Never, absent-alone, absent-exports, absent-source, no-assignment, no-chain, no-power, no-spread, not-there}
use Rattle.es_statement_steps.proofs.Composition.{AloneRuns, Exports, Known, NamespaceRuns, anywhere}
use Rattle.es_statement_steps.proofs.Exports.{exports-run, exports-so, keyless-parts, namespace-runs}
use Rattle.es_statement_steps.proofs.KeylessPrograms.{IsKeyless, keyless_silent}
use Rattle.es_statement_steps.proofs.KeylessSources.{named-keyless, same-keyless}
use Rattle.es_statement_steps.proofs.KeylessSteps.{NoneBeside, statement-keyless}
use Rattle.es_statement_steps.proofs.ChainsApart.{no_helper_in_chain}
use Rattle.es_statement_steps.proofs.HelperMembers.{named-members}
use Rattle.es_statement_steps.proofs.Nameless.{Nameless, export-nameless, is_outside, members-nameless, nameless-runs, outside-slots, statement-nameless}
use Rattle.es_statement_steps.proofs.OperandSteps.{Suited, assigning-runs, chaining-runs, no-silent, raising-runs, suited-export, suited-start, suited-step}
use Rattle.es_statement_steps.proofs.PlainSupplies.{is_core_supply, none-silent}
use Rattle.es_statement_steps.proofs.ReachedRuns.{AllSilent, reached-runs, source-bare}
use Rattle.es_statement_steps.proofs.RestsApart.{rests-apart}
use Rattle.es_statement_steps.proofs.RowRuns.{StepAlike}
use Rattle.es_statement_steps.proofs.SpreadRuns.{spread-keeps, spread-shape}
use Rattle.es_statement_steps.proofs.StepRules.{Does, EachDoesWhere, Keeping, OffSlots, Runs, StatementRules, catch-runs, chains_under, spreads_under, coalescing-runs, off-does, on-does, on-where-does, replacing-runs, same-places, statement-does-where, tamed-step, tamed-where, where-does, writing-runs}

-- THE LAW, from what each rule does and what is kept of a program on the way

module _ (o : EnvOptions) (p : Tree) (lacks : AssignsNoRest o p) (at there : Site → Spot → Bool) (off : OffSlots at there) (no_all : Bool) (u : Supply) (Clean : Whole → Tree → Type 0) (quiet : (w : Whole) (t : Tree) → Clean w t → silent_names u t ≡ []) (absent : (w : Whole) (t : Tree) → Clean w t → Absent p t)
    (each : EachDoesWhere (Keeping no_all u Clean quiet) o there) (clean : (s s' : Ledger) (x y : Open) → Step (only_where at (alone o)) the_program s x s' y → Known s x → Known s' y → Clean (whole_in s) (finished x) → Clean (whole_in s') (finished y)) (exports : NamespaceRuns o no_all u Clean) where
  alone-runs : AloneRuns o at no_all u Clean
  alone-runs = record {
    class = λ h proper after class c. (tamed-step o (anywhere at (alone o) (rests-apart o p lacks at h proper class (absent _ _ c))) proper after class).1;
    clean = λ h k m c. clean _ _ _ _ (rests-apart o p lacks at h k.proper k.class (absent _ _ c)) k m c;
    runs = λ h k m c d. statement-does-where (Keeping no_all u Clean quiet) o there each _ _ _ _ (tamed-where o at there off (rests-apart o p lacks at h k.proper k.class (absent _ _ c)) k.proper m.proper k.class) k m c d;
  }

  rules-run : (q : Tree) (names : List Text) → IsStatementProgram p → AllSilent u p → Clean (first_whole p) (source p) → (reached : Reached (only_where at (built_rules o)) p (first_whole p) names q) → StepAlike no_all u p q × Clean reached.whole q
  rules-run q names h silent first reached = reached-runs o at no_all u Clean alone-runs exports p q names h silent first reached

-- steps at whatever places
abbrev all_places : Site → Spot → Bool
all_places n x = true

reached-anywhere : (o : EnvOptions) (p : Tree) (w : Whole) (names : List Text) (q : Tree) → Reached (built_rules o) p w names q → Reached (only_where all_places (built_rules o)) p w names q
reached-anywhere o p w names q h = record { whole = h.whole; steps = all_under (built_rules o) (only_where all_places (built_rules o)) (λ n s x s' y r. (r, refl)) h.steps; made = h.made }

-- WHAT A PROGRAM LACKS none has on the way, so that what is asked of programs may tell it, too

abbrev Lacking : Tree → (Whole → Tree → Type 0) → Whole → Tree → Type 0
Lacking p Clean w t = Clean w t × Absent p t

module _ (no_all : Bool) (u : Supply) (p : Tree) (Clean : Whole → Tree → Type 0) (quiet : (w : Whole) (t : Tree) → Clean w t → silent_names u t ≡ []) where
  quietly : (w : Whole) (t : Tree) → Lacking p Clean w t → silent_names u t ≡ []
  quietly w t h = quiet w t h.0

  abbrev Kept : Ledger → Ledger → Open → Open → Type 0
  Kept = Keeping no_all u (Lacking p Clean) quietly

  -- a rule that acts
  acting : (R : Site → Ledger → Spot → Ledger → Spot → Type 0) → Runs no_all u Clean quiet R → Does Kept R
  acting R does s s' x y h k m c d = does s s' x y h k m c.0 d.0

  -- and one that doesn't
  resting : (asked there : Bool) (R : Site → Ledger → Spot → Ledger → Spot → Type 0) → (asked && there) ≡ false → (there ≡ false → Never p R) → Does Kept (where_on asked R)
  resting asked there R e none s s' x y h k m c d = absurd (not-there asked there p R e none s s' x y h k.proper k.class c.1)

not-so : (b : Bool) → not b ≡ true → b ≡ false
not-so true h = absurd (cc h)
not-so false h = refl

-- WITH THE OBJECT OF ALL HELPERS, beside which no row of chains, logical assignment and exponentiation acts

module _ (o : EnvOptions) (no_all : Bool) (p : Tree) (lacks : AssignsNoRest o p) (off : NoneBeside o p) where
  abbrev IsWithoutKeys : Whole → Tree → Type 0
  IsWithoutKeys w t = IsKeyless t

  without-keys-silent : (w : Whole) (t : Tree) → IsWithoutKeys w t → silent_names by_global t ≡ []
  without-keys-silent w t h = keyless_silent t h

  abbrev Helped : Whole → Tree → Type 0
  Helped = Lacking p IsWithoutKeys

  helped-silent : (w : Whole) (t : Tree) → Helped w t → silent_names by_global t ≡ []
  helped-silent w t h = without-keys-silent w t h.0

  helped-does : EachDoesWhere (Keeping no_all by_global Helped helped-silent) o all_places
  helped-does = record {
    writing = writing-runs no_all by_global Helped helped-silent o;
    assigning = resting no_all by_global p IsWithoutKeys without-keys-silent o.es2021.logical_assignment_operators _ (RowRule LogicalAssignmentRule) off.assignments (no-assignment p);
    coalescing = coalescing-runs no_all by_global Helped helped-silent;
    chaining = where-does (Keeping no_all by_global Helped helped-silent) all_places (chains_under o) (resting no_all by_global p IsWithoutKeys without-keys-silent o.es2020.optional_chaining _ (RowRule (OptionalChainingRule o.assumptions.no_document_all)) off.chains (no-chain o.assumptions.no_document_all p));
    raising = resting no_all by_global p IsWithoutKeys without-keys-silent o.es2016.exponentiation_operator _ (RowRule ExponentiationRule) off.powers (no-power p);
    catching = catch-runs no_all by_global Helped helped-silent;
    spreading = where-does (Keeping no_all by_global Helped helped-silent) all_places (spreads_under o)
        (on-does (Keeping no_all by_global Helped helped-silent) (is_some o.es2018.object_rest_spread) (Replacing SpreadRule) (replacing-runs no_all by_global Helped helped-silent SpreadRule spread-shape (spread-keeps no_all by_global refl)));
  }

  helped-exports : NamespaceRuns o no_all by_global Helped
  helped-exports = namespace-runs o no_all by_global IsKeyless keyless_silent keyless-parts Helped (λ w t c. c.0)
      (λ s s' x y h k m c. ((exports-run o no_all by_global IsKeyless keyless_silent keyless-parts h k c.0).1, absent-exports o p h k.alone c.1))

  helped-clean : (s s' : Ledger) (x y : Open) → Step (only_where all_places (alone o)) the_program s x s' y → Known s x → Known s' y → Helped (whole_in s) (finished x) → Helped (whole_in s') (finished y)
  helped-clean s s' x y r k m c =
      let a = anywhere all_places (alone o) r in
      let tame = (tamed-step o a k.proper m.proper k.class).0 in
      (statement-keyless p o off s s' x y tame k m c.1 c.0, absent-alone o p a k.alone c.1)

  helped-run : (q : Tree) (names : List Text) → IsStatementProgram p → uses_no_helper by_global p ≡ true → Reached (built_rules o) p (first_whole p) names q → RunAlike by_global no_all p q
  helped-run q names h none reached =
      let keyless : IsKeyless (source p) = named-keyless (length (symbols_of p)) (is_among (names_of p)) (not-so (is_among (names_of p) (codes "babelHelpers")) none) reads (source p) (law_named_proof p (is_among (names_of p)) (length (symbols_of p)) h.form h.rules (λ x e. e) (omega arith)) in
      (rules-run o p lacks all_places all_places (same-places all_places) no_all by_global Helped helped-silent (λ w t c. c.1) helped-does helped-clean helped-exports
      q names h (λ t e. keyless_silent t (same-keyless t (source p) (e ∙ source-bare p) keyless)) (keyless, absent-source p) (reached-anywhere o p (first_whole p) names q reached)).0.runs

-- WITHOUT HELPERS, or with that of object spread alone; where chains act beside that, none has a member of the object of helpers

abbrev Plain : EnvOptions → (Tree → Type 0) → Whole → Tree → Type 0
Plain o Asked w t = Suited o w t × Asked t

-- what else is asked of programs on the way, which exports of namespaces keep
abbrev ExportsKeep : EnvOptions → (Tree → Type 0) → Type 0
ExportsKeep o Asked = (s s' : Ledger) (x y : Open) → Step (Exports o) the_program s x s' y → Known s (spread x) → Known s' (spread y) → Asked (finished x) → Asked (finished y)

anything-kept : (o : EnvOptions) → ExportsKeep o (λ t. Unit {0})
anything-kept o s s' x y h k m c = tt

nameless-kept : (o : EnvOptions) → ExportsKeep o Nameless
nameless-kept o s s' x y h k m c = exports-so no_helper_in_chain export-nameless (λ x new. refl) o h (subst (λ (t : Tree). has_form s-Program t ≡ true) (finished-spread x) k.form) c

module _ (o : EnvOptions) (p : Tree) (no_all : Bool) (u : Supply) (plain : is_core_supply u ≡ true) (Asked : Tree → Type 0) (at : Site → Spot → Bool) where
  plain-silent : (w : Whole) (t : Tree) → Plain o Asked w t → silent_names u t ≡ []
  plain-silent w t h = none-silent u plain t

  kept-silent : (w : Whole) (t : Tree) → Lacking p (Plain o Asked) w t → silent_names u t ≡ []
  kept-silent w t h = none-silent u plain t

  abbrev PlainKept : Ledger → Ledger → Open → Open → Type 0
  PlainKept = Keeping no_all u (Lacking p (Plain o Asked)) kept-silent

  abbrev Chaining : Site → Ledger → Spot → Ledger → Spot → Type 0
  Chaining = RowRule (OptionalChainingRule o.assumptions.no_document_all)

  abbrev Chains : Type 0
  Chains = Does PlainKept (only_where at (chains_under o))

  abbrev Spreads : Type 0
  Spreads = Does PlainKept (only_where at (spreads_under o))

  plain-acts : (R : Site → Ledger → Spot → Ledger → Spot → Type 0) → Runs no_all u (Plain o Asked) plain-silent R → Does PlainKept R
  plain-acts R does = acting no_all u p (Plain o Asked) plain-silent R does

  suited-acts : (R : Site → Ledger → Spot → Ledger → Spot → Type 0) → Runs no_all u (Suited o) (no-silent o u plain) R → Does PlainKept R
  suited-acts R does = plain-acts R (λ s s' x y h k m c d. does s s' x y h k m c.0 d.0)

  plain-rests : (on there : Bool) (R : Site → Ledger → Spot → Ledger → Spot → Type 0) → (on && there) ≡ false → (there ≡ false → Never p R) → Does PlainKept (where_on on R)
  plain-rests = resting no_all u p (Plain o Asked) plain-silent

  plain-does : Chains → Spreads → EachDoesWhere PlainKept o at
  plain-does chains spreads = record {
    writing = writing-runs no_all u (Lacking p (Plain o Asked)) kept-silent o;
    assigning = on-does PlainKept o.es2021.logical_assignment_operators (RowRule LogicalAssignmentRule) (suited-acts (RowRule LogicalAssignmentRule) (assigning-runs o u plain no_all));
    coalescing = coalescing-runs no_all u (Lacking p (Plain o Asked)) kept-silent;
    chaining = chains;
    raising = on-does PlainKept o.es2016.exponentiation_operator (RowRule ExponentiationRule) (suited-acts (RowRule ExponentiationRule) (raising-runs o u plain no_all));
    catching = catch-runs no_all u (Lacking p (Plain o Asked)) kept-silent;
    spreading = spreads;
  }

  plain-exports : ExportsKeep o Asked → NamespaceRuns o no_all u (Lacking p (Plain o Asked))
  plain-exports kept = namespace-runs o no_all u (λ t. Unit {0}) (λ t h. none-silent u plain t) (λ x l ds body after parts c. (tt, tt)) (Lacking p (Plain o Asked)) (λ w t c. tt)
      (λ s s' x y h k m c. ((suited-export o s s' x y h k m c.0.0, kept s s' x y h k m c.0.1), absent-exports o p h k.alone c.1))

  -- what is asked of chains stays
  abbrev StaysAsked : Type 0
  StaysAsked = (s s' : Ledger) (x y : Open) → Step (only_where at (StatementRules o)) the_program s x s' y → Known s x → Known s' y → Absent p (finished x) → Asked (finished x) → Asked (finished y)

  plain-run : AssignsNoRest o p → (first : Site → Spot → Bool) → OffSlots first at → Chains → Spreads → StaysAsked → ExportsKeep o Asked → (q : Tree) (names : List Text) → IsStatementProgram p → TagsAreNoChains o p → Asked (source p) → Reached (only_where first (built_rules o)) p (first_whole p) names q → StepAlike no_all u p q × Asked q
  plain-run lacks first off chains spreads stays kept q names h untagged so reached =
      let r = rules-run o p lacks first at off no_all u (Lacking p (Plain o Asked)) kept-silent (λ w t c. c.1) (plain-does chains spreads)
      (λ s s' x y r k m c. let a = anywhere first (alone o) r in ((suited-step o s s' x y a k m c.0.0, stays s s' x y (tamed-where o first at off r k.proper m.proper k.class) k m c.1 c.0.1), absent-alone o p a k.alone c.1)) (plain-exports kept) q names h (λ t e. none-silent u plain t) ((suited-start o p h untagged, so), absent-source p) reached in
      (r.0, r.1.0.1)

  -- in whatever order
  anyhow : AssignsNoRest o p → Chains → Spreads → StaysAsked → ExportsKeep o Asked → (q : Tree) (names : List Text) → IsStatementProgram p → TagsAreNoChains o p → Asked (source p) → Reached (only_where at (built_rules o)) p (first_whole p) names q → StepAlike no_all u p q × Asked q
  anyhow lacks = plain-run lacks at (same-places at)

  -- rows that don't act
  no-chains : chains_there o p ≡ false → Chains
  no-chains off = where-does PlainKept at (chains_under o) (plain-rests o.es2020.optional_chaining _ Chaining off (no-chain o.assumptions.no_document_all p))

  no-spreads : spreads_there o p ≡ false → Spreads
  no-spreads off = where-does PlainKept at (spreads_under o) (plain-rests (is_some o.es2018.object_rest_spread) _ (Replacing SpreadRule) off (no-spread p))

  -- object spread, where it has its helper
  with-spreads : has_global_spread u ≡ true → Spreads
  with-spreads has = where-does PlainKept at (spreads_under o) (on-does PlainKept (is_some o.es2018.object_rest_spread) (Replacing SpreadRule) (replacing-runs no_all u (Lacking p (Plain o Asked)) kept-silent SpreadRule spread-shape (spread-keeps no_all u has)))

-- chains, where what they assume is assumed
module _ (o : EnvOptions) (p : Tree) (u : Supply) (plain : is_core_supply u ≡ true) (Asked : Tree → Type 0) (at : Site → Spot → Bool) (runs : o.es2020.optional_chaining ≡ true → Runs o.assumptions.no_document_all u (Plain o Asked) (plain-silent o p (assumes_no_all o p) u plain Asked at) (only_where at (RowRule (OptionalChainingRule o.assumptions.no_document_all)))) where
  abbrev assumed : Bool
  assumed = assumes_no_all o p

  abbrev Kept-there : Ledger → Ledger → Open → Open → Type 0
  Kept-there = PlainKept o p assumed u plain Asked at

  abbrev Row-there : Site → Ledger → Spot → Ledger → Spot → Type 0
  Row-there = Chaining o p assumed u plain Asked at

  with-chains : Chains o p assumed u plain Asked at
  with-chains = chosen o.es2020.optional_chaining (any_node (is_sought of_chains) p) refl refl
    where
      chosen : (on there : Bool) → o.es2020.optional_chaining ≡ on → any_node (is_sought of_chains) p ≡ there → Chains o p assumed u plain Asked at
      chosen true true e d = on-where-does Kept-there o.es2020.optional_chaining at Row-there (plain-acts o p assumed u plain Asked at (only_where at Row-there)
          (subst (λ (no_all : Bool). Runs no_all u (Plain o Asked) (plain-silent o p assumed u plain Asked at) (only_where at Row-there)) (λ i. (sym e i && sym d i) && o.assumptions.no_document_all) (runs e)))
      chosen true false e d = where-does Kept-there at (chains_under o) (plain-rests o p assumed u plain Asked at o.es2020.optional_chaining false Row-there (λ i. e i && false) (λ r. no-chain o.assumptions.no_document_all p d))
      chosen false there e d = where-does Kept-there at (chains_under o) (off-does Kept-there o.es2020.optional_chaining Row-there e)

-- WHAT ELSE IS KEPT of a program, by steps at whatever places, where no member of the object of helpers stands in a chain that may be lowered

pub record KeptInOrder (o : EnvOptions) (p : Tree) (Asked : Tree → Type 0) : Type 0 where
  pub steps : (s s' : Ledger) (x y : Open) → Step (StatementRules o) the_program s x s' y → Known s x → Known s' y → Absent p (finished x) → (o.es2020.optional_chaining ≡ true → Nameless (finished x)) → Asked (finished x) → Asked (finished y)
  pub exports : ExportsKeep o Asked

-- THE LAWS

module _ (o : EnvOptions) (p q : Tree) (names : List Text) (h : IsStatementProgram p) (untagged : TagsAreNoChains o p) (lacks : AssignsNoRest o p) where
  abbrev assumes : Bool
  assumes = assumes_no_all o p

  abbrev Chains-row : Site → Ledger → Spot → Ledger → Spot → Type 0
  Chains-row = RowRule (OptionalChainingRule o.assumptions.no_document_all)

  module _ (Asked : Tree → Type 0) (kept : KeptInOrder o p Asked) where
    -- object spread where chains may be lowered: no spread is lowered while a chain stands around it, and no chain has a member of that object at first
    chains-on : o.es2020.optional_chaining ≡ true → uses_no_helper spread_by_global p ≡ true → Asked (source p) → Reached (in_order o) p (first_whole p) names q → StepAlike assumes spread_by_global p q × Asked q
    chains-on on none so reached =
        let members : all_nodes no_helper_member (source p) ≡ true =
        named-members (length (symbols_of p)) (is_among (names_of p)) (not-so (is_among (names_of p) (codes "babelHelpers")) none) reads (source p) (law_named_proof p (is_among (names_of p)) (length (symbols_of p)) h.form h.rules (λ x e. e) (omega arith)) in
        let r = plain-run o p assumes spread_by_global refl (λ t. Nameless t × Asked t) is_outside lacks (is_in_order o) (outside-slots o on)
        (with-chains o p spread_by_global refl (λ t. Nameless t × Asked t) is_outside (λ a s s' x y r k m c d. nameless-runs o o.assumptions.no_document_all a s s' x y (anywhere is_outside Chains-row r) k m c.0 c.1.0))
        (with-spreads o p assumes spread_by_global refl (λ t. Nameless t × Asked t) is_outside refl)
        (λ s s' x y r k m a c. (statement-nameless o s s' x y r k m c.0, kept.steps s s' x y (anywhere is_outside (StatementRules o) r) k m a (λ e. c.0) c.1))
        (λ s s' x y r k m c. (nameless-kept o s s' x y r k m c.0, kept.exports s s' x y r k m c.1)) q names h untagged (members-nameless (source p) members, so) reached in
        (r.0, r.1.1)

    -- and where they aren't
    chains-off : o.es2020.optional_chaining ≡ false → Asked (source p) → Reached (built_rules o) p (first_whole p) names q → StepAlike assumes spread_by_global p q × Asked q
    chains-off off so reached =
        anyhow o p assumes spread_by_global refl Asked all_places lacks (no-chains o p assumes spread_by_global refl Asked all_places (ap (λ b. b && any_node (is_sought of_chains) p) off)) (with-spreads o p assumes spread_by_global refl Asked all_places refl)
        (λ s s' x y r k m a c. kept.steps s s' x y (anywhere all_places (StatementRules o) r) k m a (λ e. absurd (let no : false ≡ true = sym off ∙ e in cc no)) c) kept.exports q names h untagged so (reached-anywhere o p (first_whole p) names q reached)

    -- with object spread's helper alone it runs alike, and what is asked is kept
    pub in-order-run : uses_no_helper spread_by_global p ≡ true → Asked (source p) → Reached (in_order o) p (first_whole p) names q → StepAlike assumes spread_by_global p q × Asked q
    in-order-run none so reached = chosen o.es2020.optional_chaining refl
      where
        chosen : (b : Bool) → o.es2020.optional_chaining ≡ b → StepAlike assumes spread_by_global p q × Asked q
        chosen true e = chains-on e none so reached
        chosen false e = chains-off e so (record { whole = reached.whole; steps = all_under (in_order o) (built_rules o) (λ n s x s' y r. r.0) reached.steps; made = reached.made })

  abbrev Nothing-asked : Tree → Type 0
  Nothing-asked t = Unit {0}

  nothing-kept : KeptInOrder o p Nothing-asked
  nothing-kept = record { steps = λ s s' x y r k m a n c. tt; exports = anything-kept o }

  -- object spread beside assignments and powers, and the others without helpers
  without-chains : chains_there o p ≡ false → Reached (built_rules o) p (first_whole p) names q → RunAlike spread_by_global assumes p q
  without-chains d reached = (anyhow o p assumes spread_by_global refl Nothing-asked all_places lacks (no-chains o p assumes spread_by_global refl Nothing-asked all_places d) (with-spreads o p assumes spread_by_global refl Nothing-asked all_places refl) (λ s s' x y r k m a c. tt) (anything-kept o) q names h untagged tt (reached-anywhere o p (first_whole p) names q reached)).0.runs

  without-spreads : spreads_there o p ≡ false → Reached (built_rules o) p (first_whole p) names q → RunAlike no_helpers assumes p q
  without-spreads e reached = (anyhow o p assumes no_helpers refl Nothing-asked all_places lacks
      (with-chains o p no_helpers refl Nothing-asked all_places (λ a s s' x y r k m c d. chaining-runs o o.assumptions.no_document_all a s s' x y (anywhere all_places Chains-row r) k m c.0 d.0))
      (no-spreads o p assumes no_helpers refl Nothing-asked all_places e) (λ s s' x y r k m a c. tt) (anything-kept o) q names h untagged tt (reached-anywhere o p (first_whole p) names q reached)).0.runs

  -- from what is known of chains beside spreads
  by-rows : (spreads_there o p ≡ true → chains_there o p ≡ true → uses_no_helper spread_by_global p ≡ true → RunAlike spread_by_global assumes p q) → uses_no_helper (supply_there o p) p ≡ true → Reached (built_rules o) p (first_whole p) names q → RunAlike (supply_there o p) assumes p q
  by-rows beside none reached = chosen (spreads_there o p) (chains_there o p) (assignments_there o p || powers_there o p) refl refl refl none
    where
      chosen : (b d c : Bool) → spreads_there o p ≡ b → chains_there o p ≡ d → (assignments_there o p || powers_there o p) ≡ c → uses_no_helper (if b then (if d || c then spread_by_global else by_global) else no_helpers) p ≡ true →
          RunAlike (if b then (if d || c then spread_by_global else by_global) else no_helpers) assumes p q
      chosen true true c e d g none = beside e d none
      chosen true false true e d g none = without-chains d reached
      chosen true false false e d g none =
          let v = or_parts (assignments_there o p) (powers_there o p) g in
          helped-run o assumes p lacks (record { chains = d; assignments = v.0; powers = v.1 }) q names h none reached
      chosen false d c e f g none = without-spreads e reached

pub law_statement_rules_proof : LawStatementRules
law_statement_rules_proof o p q names h untagged lacks none reached ordered =
    by-rows o p q names h untagged lacks (λ e d unnamed. (in-order-run o p q names h untagged lacks (λ t. Unit {0}) (nothing-kept o p q names h untagged lacks) unnamed tt (ordered (and_from (spreads_there o p) (chains_there o p) e d))).0.runs) none reached
