-- Steps one after another: what is known of a program is kept by each of them, and runs alike compose.
use Rattle.std.proofs.Common.{arith, ◌≤◌, ◌<◌, inl, inr, ◌≡◌, ℕ, refl, sym, ap, subst, ◌∙◌, []}
use Rattle.std.proofs.lemmas.Slice.Eq.{bytes_eq-Decides}
use Rattle.std.specs.Prelude.{Bool, true, false}
use Rattle.es_tree.specs.HasForm.{has_form}
use Rattle.es_tree.specs.StaticRules.{breaks}
use Rattle.es_tree.specs.Tree.{Tree, node, kind_of}
use Rattle.es_tree.specs.Words.{Text}
use Rattle.es_tree.specs.declared.options.EnvOptions.{EnvOptions}
use Rattle.es_tree.specs.declared.table.Sort.TheVariants.{Program as s-Program}
use Rattle.es_semantic.specs.RolesOf.{reads}
use Rattle.es_resolution.specs.Declarations.{is_var_scope}
use Rattle.es_resolution.specs.Named.{Named}
use Rattle.es_resolution.specs.Resolved.{IsResolved}
use Rattle.es_resolution.proofs.Forms.{form-placed}
use Rattle.es_steps.specs.AllRules.{AllRules}
use Rattle.es_steps.specs.CoreRules.{where_on}
use Rattle.es_steps.specs.Identifiers.{Passes, is_called}
use Rattle.es_steps.specs.NamespaceExports.{NamespaceRule}
use Rattle.es_steps.specs.Laws.{IsWellBound, nothing_beside}
use Rattle.es_steps.specs.Open.{Open, finished, opened}
use Rattle.es_steps.specs.Rules.{either_rule}
use Rattle.es_steps.specs.Steps.{Ledger, Site, Spot, Step, Steps, Whole, the_program}
use Rattle.es_steps.specs.Steps.Steps.{goes, stays}
use Rattle.es_steps.proofs.BridgeInclusion.{all_under, step_under}
use Rattle.es_steps.proofs.FormOpen.{IsProper}
use Rattle.es_steps.proofs.FormSteps.{formed-after}
use Rattle.es_steps.proofs.Laws.{all-rules-lawful, all-rules-write}
use Rattle.es_steps.proofs.Passed.{passed, recalled}
use Rattle.es_steps.proofs.StepsKept.{IsClean, all-recalled, led}
use Rattle.es_steps.proofs.Taken.{LedgerPasses, whole_in}
use Rattle.es_valid_steps.specs.Laws.{with_further_rules}
use Rattle.es_valid_steps.specs.PlaceRules.{Keeps}
use Rattle.es_valid_steps.proofs.FurtherSteps.{alone, alone-form, alone-lawful, alone-written}
use Rattle.es_valid_steps.proofs.NamespaceRows.{program-left}
use Rattle.es_valid_steps.proofs.PlaceSteps.{kept-after}
use Rattle.es_valid_steps.proofs.ProgramLists.{program-exported}
use Rattle.es_valid_steps.proofs.Spread.{finished-spread, spread}
use Rattle.es_valid_steps.proofs.SpreadSteps.{SameBoth, Went, spread-step}
use Rattle.es_valid_steps.proofs.SpreadSteps.Went.{moves, rests, leaves}
use Rattle.es_valid_names.proofs.FurtherNames.{law_further_rules_proof}
use Rattle.es_reached.specs.Reached.{built_rules}
use Rattle.es_reached.proofs.BuiltRules.{built-all}
use Rattle.es_statement_runs.specs.Helpers.{Supply}
use Rattle.es_statement_runs.proofs.Composing.{law_then_proof}
use Rattle.es_statement_steps.specs.Orders.{only_where}
use Rattle.es_statement_steps.proofs.Arrowless.{arrows-apart}
use Rattle.es_statement_steps.proofs.NothingBeside.{IsAlone, alone-after, one-more}
use Rattle.es_statement_steps.proofs.RowRuns.{StepAlike, unchanged}
use Rattle.es_statement_steps.proofs.StandingPrograms.{program_stands}
use Rattle.es_statement_steps.proofs.StepMoves.{Fine}
use Rattle.es_statement_steps.proofs.Tamed.{Class}

-- THE BUILT LOWERINGS but for arrows

told-apart : (o : EnvOptions) (n : Site) (s : Ledger) (x : Spot) (s' : Ledger) (y : Spot) → with_further_rules o n s x s' y → either_rule (alone o) (where_on o.es2020.export_namespace_from NamespaceRule) n s x s' y
told-apart o n s x s' y (inl r) = inl (inl r)
told-apart o n s x s' y (inr (inl r)) = inl (inr (inl r))
told-apart o n s x s' y (inr (inr (inl r))) = inr r
told-apart o n s x s' y (inr (inr (inr r))) = inl (inr (inr r))

-- steps at some places are steps
pub anywhere : (at : Site → Spot → Bool) (R : Site → Ledger → Spot → Ledger → Spot → Type 0) {n : Site} {s s' : Ledger} {x y : Open} → Step (only_where at R) n s x s' y → Step R n s x s' y
anywhere at R h = step_under (only_where at R) R (λ n s x s' y r. r.0) h

on-exports : (b : Bool) (n : Site) (s : Ledger) (x : Spot) (s' : Ledger) (y : Spot) → where_on b NamespaceRule n s x s' y → NamespaceRule n s x s' y
on-exports true n s x s' y r = r
on-exports false n s x s' y r = absurd r

pub exported : (o : EnvOptions) {s s' : Ledger} {x y : Open} → Step (where_on o.es2020.export_namespace_from NamespaceRule) the_program s x s' y → Step NamespaceRule the_program s x s' y
exported o r = step_under (where_on o.es2020.export_namespace_from NamespaceRule) NamespaceRule (on-exports o.es2020.export_namespace_from) r

-- WHAT IS KNOWN of a program, with what stands beside statements in its lists: temporaries alone are pending, and nothing outside it; it has form, breaks no
-- static rule, is of the class, and names are resolved and in use

pub record Known (s : Ledger) (x : Open) : Type 0 where
  pub proper : IsProper x
  pub alone : IsAlone s
  pub form : has_form s-Program (finished x) ≡ true
  pub keeps : Keeps [] (finished x)
  pub rules : breaks (finished x) ≡ []
  pub class : Class (finished x)
  pub resolved : IsResolved (finished x)
  pub named : Named (whole_in s).in_use (whole_in s).free_symbol reads (finished x)

pub known-fine : {s : Ledger} {x : Open} → Known s x → Fine (finished x)
known-fine {x = x} k = program_stands (finished x) k.form k.class k.keeps

-- WHAT IS ASKED OF STEPS

pub record AloneRuns (o : EnvOptions) (at : Site → Spot → Bool) (no_all : Bool) (u : Supply) (Clean : Whole → Tree → Type 0) : Type 0 where
  -- of the class
  pub class : {s s' : Ledger} {x y : Open} → Step (only_where at (alone o)) the_program s x s' y → IsProper x → IsProper y → Class (finished x) → Clean (whole_in s) (finished x) → Class (finished y)
  -- and of runs, where Clean is kept
  pub clean : {s s' : Ledger} {x y : Open} → Step (only_where at (alone o)) the_program s x s' y → Known s x → Known s' y → Clean (whole_in s) (finished x) → Clean (whole_in s') (finished y)
  pub runs : {s s' : Ledger} {x y : Open} → Step (only_where at (alone o)) the_program s x s' y → Known s x → Known s' y → Clean (whole_in s) (finished x) → Clean (whole_in s') (finished y) → StepAlike no_all u (finished x) (finished y)

-- exports of namespaces, where they are asked for
abbrev pub Exports : EnvOptions → Site → Ledger → Spot → Ledger → Spot → Type 0
Exports o = where_on o.es2020.export_namespace_from NamespaceRule

pub record NamespaceRuns (o : EnvOptions) (no_all : Bool) (u : Supply) (Clean : Whole → Tree → Type 0) : Type 0 where
  pub class : {s s' : Ledger} {x y : Open} → Step (Exports o) the_program s x s' y → has_form s-Program (finished x) ≡ true → Class (finished x) → Class (finished y)
  pub clean : {s s' : Ledger} {x y : Open} → Step (Exports o) the_program s x s' y → Known s (spread x) → Known s' (spread y) → Clean (whole_in s) (finished x) → Clean (whole_in s') (finished y)
  pub runs : {s s' : Ledger} {x y : Open} → Step (Exports o) the_program s x s' y → Known s (spread x) → Known s' (spread y) → Clean (whole_in s) (finished x) → Clean (whole_in s') (finished y) → StepAlike no_all u (finished x) (finished y)

module _ (o : EnvOptions) (at : Site → Spot → Bool) (no_all : Bool) (u : Supply) (Clean : Whole → Tree → Type 0) (law : AloneRuns o at no_all u Clean) (exports : NamespaceRuns o no_all u Clean) where
  -- what is kept of form and places, and the class
  pub record Shaped (x : Open) : Type 0 where
    pub proper : IsProper x
    pub form : has_form s-Program (finished x) ≡ true
    pub keeps : Keeps [] (finished x)
    pub class : Class (finished x)

  abbrev Split : Ledger → Ledger → Open → Open → Type 0
  Split s s' x y = Went (Step (only_where at (alone o)) the_program s (spread x) s' (spread y)) (SameBoth s (spread x) s' (spread y)) (Step (Exports o) the_program s x s' y)

  told-there : (n : Site) (s : Ledger) (x : Spot) (s' : Ledger) (y : Spot) → only_where at (with_further_rules o) n s x s' y → either_rule (only_where at (alone o)) (Exports o) n s x s' y
  told-there n s x s' y h = either-told (told-apart o n s x s' y h.0)
    where
      either-told : either_rule (alone o) (Exports o) n s x s' y → either_rule (only_where at (alone o)) (Exports o) n s x s' y
      either-told (inl r) = inl (r, h.1)
      either-told (inr r) = inr r

  split : {s s' : Ledger} {x y : Open} → Step (only_where at (with_further_rules o)) the_program s x s' y → Split s s' x y
  split h =
      spread-step (only_where at (alone o)) (Exports o) (λ n s s' t u bs cs r. (alone-form o).no_flanks n s s' t u bs cs r.0) (λ n s s' t bs cs us r. alone-written o n s s' t bs cs us r.0)
      (step_under (only_where at (with_further_rules o)) (either_rule (only_where at (alone o)) (Exports o)) told-there h)

  shaped-after : {s s' : Ledger} (x y : Open) → Split s s' x y → Shaped (spread x) → Clean (whole_in s) (finished x) → Shaped (spread y)
  shaped-after {s = s} x y (moves m) k c =
      let r = anywhere at (alone o) m in
      let next = formed-after (alone o) (alone-form o) r s-Program (λ e. absurd (cc e)) k.proper k.form in
      record {
        proper = next.proper;
        form = next.formed;
        keeps = (kept-after (alone o) (alone-form o) (alone-lawful o) r s-Program [] (λ e. absurd (cc e)) (λ e. absurd (cc e)) k.proper k.form k.keeps).keeps;
        class = law.class m k.proper next.proper k.class (subst (λ (t : Tree). Clean (whole_in s) t) (sym (finished-spread x)) c);
      }
  shaped-after x y (rests e) k c = subst (λ (z : Open). Shaped z) e.1 k
  shaped-after x y (leaves r) k c =
      let form = subst (λ (t : Tree). has_form s-Program t ≡ true) (finished-spread x) k.form in
      let next = program-left (program-exported (exported o r) form) k.proper k.form in
      record { proper = next.proper; form = next.formed; keeps = next.keeps k.keeps; class = subst (λ (t : Tree). Class t) (sym (finished-spread y)) (exports.class r form (subst (λ (t : Tree). Class t) (finished-spread x) k.class)) }

  -- one step, where the names on both sides are known
  alike-after : {s s' : Ledger} (x y : Open) → Split s s' x y → Known s (spread x) → Known s' (spread y) → Clean (whole_in s) (finished x) → Clean (whole_in s') (finished y) → StepAlike no_all u (finished x) (finished y)
  alike-after {s = s} {s' = s'} x y (moves r) k m c d =
      subst (λ (t : Tree). StepAlike no_all u t (finished y)) (finished-spread x) (subst (λ (t : Tree). StepAlike no_all u (finished (spread x)) t) (finished-spread y)
      (law.runs r k m (subst (λ (t : Tree). Clean (whole_in s) t) (sym (finished-spread x)) c) (subst (λ (t : Tree). Clean (whole_in s') t) (sym (finished-spread y)) d)))
  alike-after x y (rests e) k m c d = unchanged no_all u (finished x) (finished y) (sym (finished-spread x) ∙ ap finished e.1 ∙ finished-spread y)
  alike-after x y (leaves r) k m c d = exports.runs r k m c d

  clean-after : {s s' : Ledger} (x y : Open) → Split s s' x y → Known s (spread x) → Known s' (spread y) → Clean (whole_in s) (finished x) → Clean (whole_in s') (finished y)
  clean-after {s = s} {s' = s'} x y (moves r) k m c = subst (λ (t : Tree). Clean (whole_in s') t) (finished-spread y) (law.clean r k m (subst (λ (t : Tree). Clean (whole_in s) t) (sym (finished-spread x)) c))
  clean-after {s = s} {s' = s'} x y (rests e) k m c = subst (λ (z : Ledger). Clean (whole_in z) (finished y)) e.0 (subst (λ (t : Tree). Clean (whole_in s) t) (sym (finished-spread x) ∙ ap finished e.1 ∙ finished-spread y) c)
  clean-after x y (leaves r) k m c = exports.clean r k m c

  known-of : (s : Ledger) (x : Open) → Shaped (spread x) → IsAlone s → breaks (finished x) ≡ [] → IsResolved (finished x) → Named (whole_in s).in_use (whole_in s).free_symbol reads (finished x) → Known s (spread x)
  known-of s x k alone rules resolved named = record {
    proper = k.proper;
    alone = alone;
    form = k.form;
    keeps = k.keeps;
    rules = subst (λ (t : Tree). breaks t ≡ []) (sym (finished-spread x)) rules;
    class = k.class;
    resolved = subst (λ (t : Tree). IsResolved t) (sym (finished-spread x)) resolved;
    named = subst (λ (t : Tree). Named (whole_in s).in_use (whole_in s).free_symbol reads t) (sym (finished-spread x)) named;
  }

  spread-form : (x : Open) → Shaped (spread x) → has_form s-Program (finished x) ≡ true
  spread-form x k = subst (λ (t : Tree). has_form s-Program t ≡ true) (finished-spread x) k.form

  program-scope : (t : Tree) → has_form s-Program t ≡ true → is_var_scope (kind_of t) ≡ true
  program-scope (node k l fs) h = ap is_var_scope (form-placed (node k l fs) h).0

  then-alike : (x y z : Tree) → StepAlike no_all u x y → StepAlike no_all u y z → StepAlike no_all u x z
  then-alike x y z a b = record { runs = law_then_proof u no_all x y z a.runs b.runs a.declared; declared = λ w h. b.declared w (a.declared w h) }

  -- STEPS IN A ROW from a program that breaks no static rule, where each symbol has the name that it has in the end, and nothing is pending outside the
  -- program
  module _ (source : Tree) (first : Whole) (source_form : has_form s-Program source ≡ true) (source_rules : breaks source ≡ []) (bound : IsWellBound first source) where
    abbrev From : Ledger → Open → Type 0
    From s x = Steps (Step (with_further_rules o) the_program) (nothing_beside first) (opened source) s x

    rules-there : (s : Ledger) (x : Open) → From s x → IsAlone s → breaks (finished x) ≡ []
    rules-there s x from alone = law_further_rules_proof o source first (whole_in s) x source_form source_rules bound (subst (λ (z : Ledger). From z x) alone from)

    pub composed : (ends : ℕ → Text) {s s' : Ledger} {x x' : Open} → From s x → IsAlone s → Steps (Step (only_where at (built_rules o)) the_program) s x s' x' → ((m : ℕ) → m < (whole_in s').free_symbol → ends m ≡ (whole_in s').called m) → is_var_scope (kind_of (finished x)) ≡ true →
        Named (whole_in s).in_use (whole_in s).free_symbol reads (finished x) → LedgerPasses (is_called ends) s → Passes (is_called ends) (finished x) → IsResolved (finished x) → IsClean s' → Shaped (spread x) → Clean (whole_in s) (finished x) → StepAlike no_all u (finished x) (finished x') × Clean (whole_in s') (finished x')
    composed ends {x = x} from alone stays end kind used beside names resolved last shaped clean = (unchanged no_all u (finished x) (finished x) refl, clean)
    composed ends {x = x} {x' = x'} from alone (goes {s = s} {s' = m} {s'' = s'} {u = y} step rest) end kind used beside names resolved last shaped clean =
        let one = arrows-apart o at step refl (subst (λ (t : Tree). Class t) (finished-spread x) shaped.class) in
        let all = step_under (only_where at (built_rules o)) (AllRules o) (λ n s x s' y r. built-all o n s x s' y r.0) step in
        let later = all_under (only_where at (built_rules o)) (AllRules o) (λ n s x s' y r. built-all o n s x s' y r.0) rest in
        let lawful = all-rules-lawful o in
        let writes = all-rules-write o in
        let r = recalled (AllRules o) lawful writes all in
        let rs = all-recalled (AllRules o) lawful writes later in
        let same : (k : ℕ) → k < (whole_in m).free_symbol → ends k ≡ (whole_in m).called k = λ k e. end k (longer-free k e rs.freer) ∙ rs.same k e in
        let first = led (AllRules o) lawful writes ends (goes all stays) same kind used beside names in
        let k = passed (AllRules o) lawful writes (is_called ends) all (record { words = λ w. refl; new = λ n e d. (bytes_eq-Decides ((whole_in m).called n) (ends n)).1 (sym (same n d)) }) beside names in
        let kind_after = program-scope (finished y) (spread-form y (shaped-after x y (split one) shaped clean)) in
        let others = led (AllRules o) lawful writes ends later end kind_after first.named k.1 k.0 in
        let here = others.clean last in
        let resolved_after = first.resolved here resolved in
        let shaped_after = shaped-after x y (split one) shaped clean in
        let from_after = one-more from (anywhere at (with_further_rules o) one) in
        let alone_after = alone-after (AllRules o) lawful writes ends all same used names alone here in
        let known = known-of s x shaped alone (rules-there s x from alone) resolved used in
        let known_after = known-of m y shaped_after alone_after (rules-there m y from_after alone_after) resolved_after first.named in
        let clean_after = clean-after x y (split one) known known_after clean in
        let further = composed ends from_after alone_after rest end kind_after first.named k.1 k.0 resolved_after last shaped_after clean_after in
        (then-alike (finished x) (finished y) (finished x') (alike-after x y (split one) known known_after clean clean_after) further.0, further.1)
      where
        longer-free : (k : ℕ) → k < (whole_in m).free_symbol → (whole_in m).free_symbol ≤ (whole_in s').free_symbol → k < (whole_in s').free_symbol
        longer-free k d e = omega arith
