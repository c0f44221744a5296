-- What steps reach from a program is what it becomes.
use Rattle.std.proofs.Common.{arith, ◌≡◌, refl, sym, subst, ap, ◌∙◌, List, []}
use Rattle.std.specs.Prelude.{Bool, true, false, is_some}
use Rattle.es_tree.specs.Bare.{bare}
use Rattle.es_tree.specs.HasForm.{has_form}
use Rattle.es_tree.specs.StaticRules.{breaks}
use Rattle.es_tree.specs.Tree.{Tree, node, kind_of}
use Rattle.es_tree.specs.Words.{Text}
use Rattle.es_tree.specs.declared.ast_type.AstType.TheVariants.{Program}
use Rattle.es_tree.specs.declared.options.EnvOptions.{EnvOptions}
use Rattle.es_tree.specs.declared.table.Sort.TheVariants.{Program as s-Program}
use Rattle.es_tree.proofs.BareForm.{has_form-bare}
use Rattle.es_runs.specs.Alike.{Need, all_of_it}
use Rattle.es_runs.specs.Open as plain
use Rattle.es_runs.specs.OpenRules as plain_rules
use Rattle.es_runs.specs.OpenSteps as plain_steps
use Rattle.es_runs.proofs.OpenLaws.{law_reached_bindings_proof, law_reached_proof}
use Rattle.es_runs.proofs.StaticMarks.{tidy_source}
use Rattle.es_resolution.specs.Laws.{source}
use Rattle.es_resolution.proofs.Forms.{form-placed}
use Rattle.es_steps.specs.AllRules.{AllRules}
use Rattle.es_steps.specs.CoreBridge.{Reached, first_whole}
use Rattle.es_steps.specs.Laws.{IsWellBound, nothing_beside}
use Rattle.es_steps.specs.Open.{opened}
use Rattle.es_steps.specs.Steps.{Step, Steps, Whole, the_program}
use Rattle.es_steps.proofs.BridgeInclusion.{all_under}
use Rattle.es_steps.proofs.BridgeStart.{law_first_whole_proof, law_reached_by_name_proof}
use Rattle.es_steps.proofs.Opened.{finished-opened}
use Rattle.es_steps.proofs.Reached.{law_bindings_proof}
use Rattle.es_steps.proofs.Start.{law_start_proof}
use Rattle.es_valid_steps.specs.Laws.{with_further_rules}
use Rattle.es_valid_steps.proofs.FurtherSteps.{law_further_form_proof}
use Rattle.es_valid_steps.proofs.Visits.{law_among_proof}
use Rattle.es_module_names.specs.Laws.{SameOutside}
use Rattle.es_module_names.proofs.BareNames.{law_outside_bare_proof}
use Rattle.es_module_names.proofs.ProgramSteps.{law_outside_reached_proof}
use Rattle.es_valid_names.proofs.BareNames.{law_bare_declared_proof, law_declared_among_proof, law_together_proof}
use Rattle.es_valid_names.proofs.FurtherNames.{law_further_rules_reached_proof}
use Rattle.es_valid_arrows.specs.ArrowPlaces.{fits_arrows}
use Rattle.es_valid_arrows.proofs.FitBare.{law_bare_fits_proof}
use Rattle.es_valid_arrows.proofs.NamedPrograms.{law_arrows_reached_proof}
use Rattle.es_reached.specs.Reached.{LawCoreResult, LawFirst, LawResult, built_rules}
use Rattle.es_reached.proofs.BarePlaces.{law_bare_places_proof}
use Rattle.es_reached.proofs.BuiltRules.{arrows-off, built-all}
use Rattle.es_reached.proofs.Sources.{law_bare_source_proof}
use Rattle.es_reached.proofs.StepsByName.{reached-core}

-- THE SOURCE

pub form-same : (t u : Tree) → bare t ≡ bare u → has_form s-Program t ≡ true → has_form s-Program u ≡ true
form-same t u same h = sym (has_form-bare s-Program u) ∙ ap (has_form s-Program) (sym same) ∙ has_form-bare s-Program t ∙ h

pub program-kind : (t : Tree) → has_form s-Program t ≡ true → kind_of t ≡ Program
program-kind (node k l fs) h = (form-placed (node k l fs) h).0

pub source-form : (p : Tree) → has_form s-Program p ≡ true → has_form s-Program (source p) ≡ true
source-form p h = form-same p (source p) (sym (law_bare_source_proof p)) h

pub source-well-bound : (p : Tree) → has_form s-Program p ≡ true → breaks p ≡ [] → IsWellBound (first_whole p) (source p)
source-well-bound p form right = law_start_proof p (first_whole p) form right (λ x e. rw e refl) (omega arith) (λ s. refl)

-- no static rule asks for ids or marks
pub rules-bare : (t u : Tree) → bare t ≡ bare u → breaks t ≡ [] → breaks u ≡ []
rules-bare t u same h = law_together_proof u (law_bare_places_proof t u same (law_among_proof t h)) (law_bare_declared_proof t u same (law_declared_among_proof t h))

-- what two others are alike to is alike itself
pub outside-then : {p q r : Tree} → SameOutside p q → SameOutside q r → SameOutside p r
outside-then a b = record { requests = b.requests ∙ a.requests; stars = b.stars ∙ a.stars; exports = b.exports ∙ a.exports }

-- EVERY PROGRAM

-- what is reached has form, breaks no static rule, and is alike to other modules
pub record IsRight (t r : Tree) : Type 0 where
  pub form : has_form s-Program r ≡ true
  pub kept : breaks r ≡ []
  pub outside : SameOutside t r

pub right-reached : (o : EnvOptions) (t r : Tree) (w w' : Whole) → has_form s-Program t ≡ true → breaks t ≡ [] → (is_some o.es2015.arrow_function ≡ true → fits_arrows o t ≡ true) → IsWellBound w t → Steps (Step (built_rules o) the_program) (nothing_beside w) (opened t) (nothing_beside w') (opened r) → IsRight t r
right-reached o t r w w' form right fits bound steps = at (is_some o.es2015.arrow_function) refl
  where
    at : (b : Bool) → is_some o.es2015.arrow_function ≡ b → IsRight t r
    at true e = let k = law_arrows_reached_proof o t r w w' form (fits e) right bound steps in record { form = k.form; kept = k.kept; outside = k.outside }
    at false e =
        let others = all_under (built_rules o) (with_further_rules o) (arrows-off o e) steps in
        record {
          form = subst (λ (x : Tree). has_form s-Program x ≡ true) (finished-opened r) (law_further_form_proof o t w w' (opened r) form others);
          kept = law_further_rules_reached_proof o t r w w' form right bound others;
          outside = law_outside_reached_proof o t r w w' form others;
        }

pub law_result_proof : LawResult
law_result_proof o p q r names form right fits h written =
    let w = first_whole p in
    let same = sym (law_bare_source_proof p) in
    let form_there = source-form p form in
    let bound = source-well-bound p form right in
    let k = right-reached o (source p) r w h.whole form_there (rules-bare p (source p) same right) (λ e. law_bare_fits_proof o p (source p) same (fits e)) bound h.steps in
    record {
      resolved = r;
      written = written;
      reached = h;
      bindings = law_bindings_proof o (source p) r w h.whole (program-kind (source p) form_there) bound (all_under (built_rules o) (AllRules o) (built-all o) h.steps);
      form = form-same r q written k.form;
      kept = rules-bare r q written k.kept;
      outside = outside-then (law_outside_bare_proof p (source p) same) (outside-then k.outside (law_outside_bare_proof r q written));
    }

-- CORE PROGRAMS

-- steps by names speak of trees without ids and marks
written-too : (R : Need → plain_steps.Ledger → plain_steps.Spot → plain_steps.Ledger → plain_steps.Spot → Type 0) (p q r : Tree) (names : List Text) → bare r ≡ bare q → plain_steps.Reached R p names r → plain_steps.Reached R p names q
written-too R p q r names same h = record {
  whole = h.whole;
  steps = subst (λ (t : Tree). plain_steps.Steps (plain_steps.Step R all_of_it) (plain_steps.ledger (plain_steps.whole_of p) plain.nothing_pending) (plain.opened (bare p)) (plain_steps.ledger h.whole plain.nothing_pending) (plain.opened t)) same h.steps;
  made = h.made;
  others = h.others;
}

pub law_core_result_proof : LawCoreResult
law_core_result_proof o p q names core right h =
    let no_all = o.assumptions.no_document_all in
    let by_all : Reached (AllRules o) p (first_whole p) names h.resolved = record { whole = h.reached.whole; steps = all_under (built_rules o) (AllRules o) (built-all o) h.reached.steps; made = h.reached.made } in
    let by_name = (law_reached_by_name_proof o).0 p h.resolved (first_whole p) names core (law_first_whole_proof p) by_all in
    let under = written-too (plain_rules.rule_under o) p q h.resolved names h.written by_name in
    let all = reached-core o p q names under in
    record {
      reached = under;
      alike = law_reached_proof no_all p q names core (tidy_source p core right) all;
      bindings = law_reached_bindings_proof no_all p q names core all;
    }

-- WHERE STEPS BEGIN

pub law_first_proof : LawFirst
law_first_proof p w h = λ i. record {
  in_use = λ x. h.in_use x i;
  steady = λ s. h.steady s i;
  free_symbol = h.free_symbol i;
  called = λ s. h.called s i;
  made = h.made i;
}
