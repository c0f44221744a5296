-- Steps of a walk that takes object rests after those of the other lowerings: by rows, and by the rules of object rests.
use Rattle.std.proofs.Common.{◌≡◌, List, [], inl, inr, subst, sym}
use Rattle.std.specs.Prelude.{Bool, true, false, is_some}
use Rattle.es_tree.specs.Bare.{bare}
use Rattle.es_tree.specs.HasForm.{has_form}
use Rattle.es_tree.specs.StaticRules.{breaks}
use Rattle.es_tree.specs.Tree.{Tree}
use Rattle.es_tree.specs.Walks.{any_node}
use Rattle.es_tree.specs.Words.{Text}
use Rattle.es_tree.specs.declared.options.EnvOptions.{EnvOptions}
use Rattle.es_tree.specs.declared.table.Sort.TheVariants.{Program as s-Program}
use Rattle.es_resolution.specs.Laws.{source}
use Rattle.es_steps.specs.AllRules.{AllRules, ObjectRule, RestRule}
use Rattle.es_steps.specs.CoreBridge.{first_whole}
use Rattle.es_steps.specs.CoreRules.{where_on}
use Rattle.es_steps.specs.Laws.{IsWellBound, nothing_beside}
use Rattle.es_steps.specs.Open.{opened}
use Rattle.es_steps.specs.Rules.{either_rule}
use Rattle.es_steps.specs.Steps.{Ledger, Site, Spot, Step, Steps, Whole, the_program}
use Rattle.es_steps.proofs.BridgeInclusion.{all_under}
use Rattle.es_steps.proofs.Laws.{law_reached_proof}
use Rattle.es_steps.proofs.Opened.{finished-opened}
use Rattle.es_steps.proofs.Reached.{law_bindings_proof}
use Rattle.es_changes.proofs.StepRows.{steps-trans}
use Rattle.es_module_names.specs.Laws.{SameOutside}
use Rattle.es_module_names.proofs.BareNames.{law_outside_bare_proof}
use Rattle.es_reached.specs.Reached.{IsResultOf, built_rules}
use Rattle.es_reached.proofs.BuiltRules.{built-all}
use Rattle.es_reached.proofs.Results.{IsRight, form-same, outside-then, program-kind, right-reached, rules-bare, source-form, source-well-bound}
use Rattle.es_reached.proofs.Sources.{law_bare_source_proof}
use Rattle.es_rest_rows.specs.Laws.{is_bound_helper}
use Rattle.es_rest_rows.specs.RestRows.{RestRow}
use Rattle.es_rest_rows.proofs.HelperSteps.{Unbound, law_helpers_unbound_proof, reached-unbound}
use Rattle.es_rest_steps.proofs.WalkSteps.{law_rest_parts_proof, law_rest_walks_proof}
use Rattle.es_valid_arrows.proofs.FitBare.{law_bare_fits_proof}
use Rattle.es_valid_rests.specs.Laws.{with_rests}
use Rattle.es_valid_rests.specs.RestRules.{OutsidePart, RestPart}
use Rattle.es_valid_rests.proofs.RestPrograms.{law_rest_outside_proof, law_rest_rules_proof}
use Rattle.es_valid_rests.proofs.RestSteps.{law_rest_form_proof}
use Rattle.es_lowered.specs.Lowered.{LawLowered, LawLoweredAlone, lowered_rules, part_rules}

pub where-asked : (b : Bool) (R : Site → Ledger → Spot → Ledger → Spot → Type 0) (n : Site) (s : Ledger) (x : Spot) (s' : Ledger) (y : Spot) → b ≡ true → R n s x s' y → where_on b R n s x s' y
where-asked b R n s x s' y on r = subst (λ (c : Bool). where_on c R n s x s' y) (sym on) r

-- THE ROWS among other rules

-- those of object rests, without the conditions under which what they write is a program
rests-all : (n : Site) (s : Ledger) (x : Spot) (s' : Ledger) (y : Spot) → OutsidePart n s x s' y → RestRule n s x s' y
rests-all n s x s' y (inl r) = inl r.0.0
rests-all n s x s' y (inr (inl r)) = inr (inl r.0)
rests-all n s x s' y (inr (inr r)) = inr (inr r)

-- and those that may be exported, too
rests-part : (n : Site) (s : Ledger) (x : Spot) (s' : Ledger) (y : Spot) → OutsidePart n s x s' y → RestPart n s x s' y
rests-part n s x s' y (inl r) = inl r.0
rests-part n s x s' y (inr r) = inr r

module _ (o : EnvOptions) (on : is_some o.es2018.object_rest_spread ≡ true) where
  among-rests : (n : Site) (s : Ledger) (x : Spot) (s' : Ledger) (y : Spot) → OutsidePart n s x s' y → with_rests OutsidePart o n s x s' y
  among-rests n s x s' y r = inr (where-asked (is_some o.es2018.object_rest_spread) OutsidePart n s x s' y on r)

  among-parts : (n : Site) (s : Ledger) (x : Spot) (s' : Ledger) (y : Spot) → OutsidePart n s x s' y → with_rests RestPart o n s x s' y
  among-parts n s x s' y r = inr (where-asked (is_some o.es2018.object_rest_spread) RestPart n s x s' y on (rests-part n s x s' y r))

  among-all : (n : Site) (s : Ledger) (x : Spot) (s' : Ledger) (y : Spot) → OutsidePart n s x s' y → AllRules o n s x s' y
  among-all n s x s' y r = inr (inr (inr (inl (where-asked (is_some o.es2018.object_rest_spread) (either_rule ObjectRule RestRule) n s x s' y on (inr (rests-all n s x s' y r))))))

-- THE LAWS

pub law_lowered_proof : LawLowered
law_lowered_proof o p q r t names more w form right fits on unbound h walk made written = record { result = by (lowered_rules o) (among RestRow rows); parts = by (part_rules o) (among OutsidePart parts) }
  where
    first : Whole
    first = first_whole p

    same : bare p ≡ bare (source p)
    same = sym (law_bare_source_proof p)

    there : has_form s-Program (source p) ≡ true
    there = source-form p form

    bound : IsWellBound first (source p)
    bound = source-well-bound p form right

    before : Steps (Step (AllRules o) the_program) (nothing_beside first) (opened (source p)) (nothing_beside h.whole) (opened r)
    before = all_under (built_rules o) (AllRules o) (built-all o) h.steps

    arrived : IsRight (source p) r
    arrived = right-reached o (source p) r first h.whole there (rules-bare p (source p) same right) (λ e. law_bare_fits_proof o p (source p) same (fits e)) bound h.steps

    well : IsWellBound h.whole r
    well = law_reached_proof o (source p) r first h.whole (program-kind (source p) there) bound before

    free : Unbound (nothing_beside h.whole) (opened r)
    free = reached-unbound o p r names form right unbound h

    none : any_node is_bound_helper r ≡ false
    none = law_helpers_unbound_proof o p r names form right unbound h

    rows : Steps (Step RestRow the_program) (nothing_beside h.whole) (opened r) (nothing_beside w) (opened t)
    rows = law_rest_walks_proof r h.whole w (opened t) arrived.form well none free.used walk

    parts : Steps (Step OutsidePart the_program) (nothing_beside h.whole) (opened r) (nothing_beside w) (opened t)
    parts = law_rest_parts_proof r h.whole w (opened t) arrived.form well none free.used walk

    rests : Steps (Step (with_rests OutsidePart o) the_program) (nothing_beside h.whole) (opened r) (nothing_beside w) (opened t)
    rests = all_under OutsidePart (with_rests OutsidePart o) (among-rests o on) parts

    -- steps of this rule after those of the others
    among : (R : Site → Ledger → Spot → Ledger → Spot → Type 0) → Steps (Step R the_program) (nothing_beside h.whole) (opened r) (nothing_beside w) (opened t) → Steps (Step (either_rule (built_rules o) (where_on (is_some o.es2018.object_rest_spread) R)) the_program) (nothing_beside first) (opened (source p)) (nothing_beside w) (opened t)
    among R steps =
        let all = either_rule (built_rules o) (where_on (is_some o.es2018.object_rest_spread) R) in
        steps-trans (all_under (built_rules o) all (λ n s x s' y b. inl b) h.steps) (all_under R all (λ n s x s' y b. inr (where-asked (is_some o.es2018.object_rest_spread) R n s x s' y on b)) steps)

    by : (R : Site → Ledger → Spot → Ledger → Spot → Type 0) → Steps (Step R the_program) (nothing_beside first) (opened (source p)) (nothing_beside w) (opened t) → IsResultOf R p q more
    by R steps =
        let form-there : has_form s-Program t ≡ true = subst (λ (x : Tree). has_form s-Program x ≡ true) (finished-opened t) (law_rest_form_proof o r h.whole w (opened t) arrived.form (all_under OutsidePart (with_rests RestPart o) (among-parts o on) parts)) in
        let kept-there : breaks t ≡ [] = subst (λ (x : Tree). breaks x ≡ []) (finished-opened t) (law_rest_rules_proof o r h.whole w (opened t) arrived.form arrived.kept well rests) in
        let outside-there = subst (λ (x : Tree). SameOutside r x) (finished-opened t) (law_rest_outside_proof o r h.whole w (opened t) arrived.form rests) in
        record {
          resolved = t;
          written = written;
          reached = record { whole = w; steps = steps; made = made };
          bindings = law_bindings_proof o (source p) t first w (program-kind (source p) there) bound (steps-trans before (all_under OutsidePart (AllRules o) (among-all o on) parts));
          form = form-same t q written form-there;
          kept = rules-bare t q written kept-there;
          outside = outside-then (law_outside_bare_proof p (source p) same) (outside-then arrived.outside (outside-then outside-there (law_outside_bare_proof t q written)));
        }

-- a result of rules is one of more rules
result-under : (Q R : Site → Ledger → Spot → Ledger → Spot → Type 0) → ((n : Site) (s : Ledger) (x : Spot) (s' : Ledger) (y : Spot) → Q n s x s' y → R n s x s' y) → (p q : Tree) (names : List Text) → IsResultOf Q p q names → IsResultOf R p q names
result-under Q R among p q names h = record {
  resolved = h.resolved;
  written = h.written;
  reached = record { whole = h.reached.whole; steps = all_under Q R among h.reached.steps; made = h.reached.made };
  bindings = h.bindings;
  form = h.form;
  kept = h.kept;
  outside = h.outside;
}

pub law_lowered_alone_proof : LawLoweredAlone
law_lowered_alone_proof o p q names h = record { result = result-under (built_rules o) (lowered_rules o) (λ n s x s' y b. inl b) p q names h; parts = result-under (built_rules o) (part_rules o) (λ n s x s' y b. inl b) p q names h }
