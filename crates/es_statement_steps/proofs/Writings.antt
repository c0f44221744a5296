-- Writing what is pending changes nothing of what is finished, where temporaries alone are pending.
use Rattle.std.proofs.Common.{◌≡◌, ℕ, suc, sym, ap, ◌∙◌}
use Rattle.std.specs.Prelude.{Bool}
use Rattle.es_tree.specs.Tree.{Tree, node, ◌then◌, one, many, statements, ◌before◌}
use Rattle.es_steps.specs.Open.{Open, OpenField, OpenFields, OpenTrees, finished, finished_field, finished_fields, finished_trees, is_body, whole_list, written_body}
use Rattle.es_steps.specs.Steps.{FieldStep, FieldsStep, Ledger, Site, Spot, Step, TreesStep, ledger}
use Rattle.es_steps.specs.Steps.Step.{acts, inside}
use Rattle.es_steps.specs.Steps.FieldsStep.{in_first, in_later}
use Rattle.es_steps.specs.Steps.FieldStep.{acts_on_body, acts_on_list, in_body, in_child, in_children, in_list, in_program, in_target}
use Rattle.es_steps.specs.Steps.TreesStep.{acts_on_flanked, after_flanked, flanks, in_flanked, in_head, in_tail}
use Rattle.es_steps.specs.Steps.Spot.{at_node}
use Rattle.es_steps.proofs.FormOpen.{AreProperFields, AreProperTrees, IsProper, IsProperField}
use Rattle.es_steps.proofs.FormRules.{FormLawful}
use Rattle.es_steps.proofs.Opened.{finished-opened, finished-trees}
use Rattle.es_steps.proofs.Taken.{pending_in, this_in, top_in, whole_in}

-- a rule of lists and bodies alone, which keeps form
module _ (R : Site → Ledger → Spot → Ledger → Spot → Type 0) (law : FormLawful R) (no_nodes : (n : Site) (s s' : Ledger) (t u : Tree) → R n s (at_node t) s' (at_node u) → ⊥) where
  mutual
    pub written-same : {n : Site} {s s' : Ledger} {t u : Open} → Step R n s t s' u → IsProper t → (s ≡ s') × (finished t ≡ finished u)
    written-same (acts {n = n} {s = s} {s' = s'} t u h) proper = absurd (no_nodes n s s' t u h)
    written-same (inside {k = k} {l = l} h) proper = let r = written-in h (is_body k) proper in (r.0, λ i. node k l (r.1 i))

    written-in : {c : ℕ → Site} {s s' : Ledger} {fs gs : OpenFields} → FieldsStep R c s fs s' gs → (bodies : ℕ → Bool) → AreProperFields bodies fs → (s ≡ s') × (finished_fields fs ≡ finished_fields gs)
    written-in (in_first {fs = fs} h) bodies proper = let r = written-by h (bodies 0) proper.0 in (r.0, λ i. r.1 i then finished_fields fs)
    written-in (in_later {f = f} h) bodies proper = let r = written-in h (λ i. bodies (suc i)) proper.1 in (r.0, λ i. finished_field f then r.1 i)

    written-by : {n : Site} {s s' : Ledger} {f g : OpenField} → FieldStep R n s f s' g → (b : Bool) → IsProperField b f → (s ≡ s') × (finished_field f ≡ finished_field g)
    written-by (in_child h) b proper = let r = written-same h proper in (r.0, λ i. one (r.1 i))
    written-by (in_children h) b proper = let r = written-all h proper in (r.0, λ i. many (r.1 i))
    written-by (in_body {o = o} h0 y y' h) b proper = let r = written-same h proper.2 in (ap (λ r. ledger (whole_in r) o (this_in r) (top_in r)) r.0, λ i. one (written_body (pending_in (r.0 i)) (r.1 i)))
    written-by (in_list {o = o} {y = y} {b = d} e e' h) b proper = let r = written-all h proper.1 in (ap (λ r. ledger (whole_in r) o (this_in r) (top_in r)) r.0, λ i. statements (whole_list (pending_in (r.0 i)) y d (r.1 i)))
    written-by (in_target {o = o} {x = x} {b = d} e h) b proper = let r = written-all h proper.1 in (ap (λ r. ledger (whole_in r) o x (top_in r)) r.0, λ i. statements (whole_list (pending_in (r.0 i)) (this_in (r.0 i)) d (r.1 i)))
    written-by (in_program {o = o} {x = x} {a = a} e h) b proper = let r = written-all h proper.1 in (ap (λ r. ledger (whole_in r) o x a) r.0, λ i. statements (whole_list (pending_in (r.0 i)) (this_in (r.0 i)) (top_in (r.0 i)) (r.1 i)))
    written-by (acts_on_list {n = n} {s = s} {s' = s'} {p = p} {q = q} {x = x} {y = y} {a = a} {b = d} ts us h) b proper =
        let r = law.at_lists n s s' p q x y a d ts us h proper.0 in
        (r.ledger, ap statements (ap (λ vs. whole_list p x a vs) (finished-trees ts) ∙ r.trees ∙ sym (ap (λ vs. whole_list q y d vs) (finished-trees us))))
    written-by (acts_on_body {n = n} {s = s} {s' = s'} {p = p} t u h) b proper =
        let r = law.at_bodies n s s' p t u h in
        (r.0, ap one (ap (λ x. written_body p x) (finished-opened t) ∙ r.1 ∙ sym (finished-opened u)))

    written-all : {n : Site} {s s' : Ledger} {ts us : OpenTrees} → TreesStep R n s ts s' us → AreProperTrees ts → (s ≡ s') × (finished_trees ts ≡ finished_trees us)
    written-all (in_head {ts = ts} h) proper = let r = written-same h proper.0 in (r.0, λ i. r.1 i before finished_trees ts)
    written-all (in_tail {t = t} h) proper = let r = written-all h proper.1 in (r.0, λ i. finished t before r.1 i)
    written-all (in_flanked h) proper = absurd proper
    written-all (after_flanked h) proper = absurd proper
    written-all (flanks {n = n} {s = s} {s' = s'} {bs = bs} {cs = cs} t u h) proper = absurd (law.no_flanks n s s' t u bs cs h)
    written-all (acts_on_flanked t us h) proper = absurd proper
