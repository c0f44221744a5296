-- Where a rule is local, so are its steps.
use Rattle.std.proofs.Common.{ℕ, suc, zero, ap, ◌∙◌}
use Rattle.std.specs.Prelude.{Bool}
use Rattle.es_tree.specs.Words.{Text}
use Rattle.es_steps.specs.Open.{Open, OpenField, OpenFields, OpenTrees, finished}
use Rattle.es_steps.specs.ObjectRest.{the_whole}
use Rattle.es_steps.specs.Sites.{AreAlike, IsLocal, StepsAreLocal}
use Rattle.es_steps.specs.Steps.{FieldStep, FieldsStep, Ledger, Site, Spot, Step, TreesStep, Whole, is_program_list, is_target}
use Rattle.es_steps.specs.Steps.Spot.{at_node, at_beside, at_body, at_list, at_trees}
use Rattle.es_steps.specs.Steps.Step.{acts, inside}
use Rattle.es_steps.specs.Steps.FieldsStep.{in_first, in_later}
use Rattle.es_steps.specs.Steps.FieldStep.{in_child, in_body, in_children, in_list, in_target, in_program, acts_on_body, acts_on_list}
use Rattle.es_steps.specs.Steps.TreesStep.{in_head, in_tail, in_flanked, after_flanked, flanks, acts_on_flanked}
use Rattle.es_steps.proofs.Sites.{alike-in, alike-in-body}

module _ (asked : Whole → Text → Bool) (R : Site → Ledger → Spot → Ledger → Spot → Type 0) (local : IsLocal (λ s. asked (the_whole s)) R) where
  mutual
    step-local : {n m : Site} {s s' : Ledger} {t u : Open} → AreAlike (asked (the_whole s)) n m → Step R n s t s' u → Step R m s t s' u
    step-local {m = m} a (acts {n = n} {s = s} {s' = s'} t u h) = acts t u (local n m s s' (at_node t) (at_node u) a h)
    step-local {m = m} a (inside {n = n} {s = s} {k = k} {l = l} {fs = fs} h) = inside (fields-local (λ i. alike-in (asked (the_whole s)) n m a k l fs i) h)

    fields-local : {c d : ℕ → Site} {s s' : Ledger} {fs gs : OpenFields} → ((i : ℕ) → AreAlike (asked (the_whole s)) (c i) (d i)) → FieldsStep R c s fs s' gs → FieldsStep R d s fs s' gs
    fields-local a (in_first h) = in_first (field-local (a zero) h)
    fields-local a (in_later h) = in_later (fields-local (λ i. a (suc i)) h)

    field-local : {n m : Site} {s s' : Ledger} {f g : OpenField} → AreAlike (asked (the_whole s)) n m → FieldStep R n s f s' g → FieldStep R m s f s' g
    field-local a (in_child h) = in_child (step-local a h)
    field-local a (in_children h) = in_children (trees-local a h)
    field-local {m = m} a (in_body {n = n} {w = w} {p = p} {t = t} e x y h) = in_body (a.role ∙ e) x y (step-local (alike-in-body (asked w) n m a p (finished t)) h)
    field-local a (in_list e d h) = in_list (ap (λ up. is_target up) a.above ∙ e) (ap (λ up. is_program_list up) a.above ∙ d) (trees-local a h)
    field-local a (in_target e h) = in_target (ap (λ up. is_target up) a.above ∙ e) (trees-local a h)
    field-local a (in_program e h) = in_program (ap (λ up. is_program_list up) a.above ∙ e) (trees-local a h)
    field-local {m = m} a (acts_on_list {n = n} {s = s} {s' = s'} {p = p} {q = q} {x = x} {y = y} {a = b} {b = c} ts us h) = acts_on_list ts us (local n m s s' (at_list p x b ts) (at_list q y c us) a h)
    field-local {m = m} a (acts_on_body {n = n} {s = s} {s' = s'} {p = p} t u h) = acts_on_body t u (local n m s s' (at_body p t) (at_node u) a h)

    trees-local : {n m : Site} {s s' : Ledger} {ts us : OpenTrees} → AreAlike (asked (the_whole s)) n m → TreesStep R n s ts s' us → TreesStep R m s ts s' us
    trees-local a (in_head h) = in_head (step-local a h)
    trees-local a (in_tail h) = in_tail (trees-local a h)
    trees-local a (in_flanked h) = in_flanked (step-local a h)
    trees-local a (after_flanked h) = after_flanked (trees-local a h)
    trees-local {m = m} a (flanks {n = n} {s = s} {s' = s'} {bs = bs} {cs = cs} t u h) = flanks t u (local n m s s' (at_node t) (at_beside bs u cs) a h)
    trees-local {m = m} a (acts_on_flanked {n = n} {s = s} {s' = s'} {bs = bs} {cs = cs} t us h) = acts_on_flanked t us (local n m s s' (at_beside bs t cs) (at_trees us) a h)

  pub steps-local : StepsAreLocal asked R
  steps-local = record {
    step = λ n m s s' t u a h. step-local a h;
    fields = λ c d s s' fs gs a h. fields-local a h;
    field = λ n m s s' f g a h. field-local a h;
    trees = λ n m s s' ts us a h. trees-local a h;
  }
