-- A step of one of two rules, where no statement has others beside it: it is a step of the first rule, or nothing changes but where
-- statements are written, or it is a step of the second rule.
use Rattle.std.proofs.Common.{◌≡◌, ℕ, inl, inr, sym, ap, subst, ◌∙◌, List, [], ◌∷◌}
use Rattle.es_tree.specs.Tree.{Tree, Trees, empty}
use Rattle.es_steps.specs.Open.{Open, OpenFields, OpenField, child, body, children, list, OpenTrees, open_node, ◌and◌, ◌next◌, flanks_with, followed_by, opened, opened_trees}
use Rattle.es_steps.specs.Rules.{either_rule}
use Rattle.es_steps.specs.Steps.{Ledger, ledger, Site, Spot, IsExpression, site_in_body, Step, FieldsStep, FieldStep, TreesStep}
use Rattle.es_steps.specs.Steps.Spot.{at_node, at_beside, at_trees}
use Rattle.es_steps.specs.Steps.Step.{acts, inside}
use Rattle.es_steps.specs.Steps.FieldsStep.{in_first, in_later}
use Rattle.es_steps.specs.Steps.FieldStep.{in_child, in_children, in_body, in_list, in_target, in_program, acts_on_list, acts_on_body}
use Rattle.es_steps.specs.Steps.TreesStep.{in_head, in_tail, in_flanked, after_flanked, flanks, acts_on_flanked}
use Rattle.es_steps.proofs.Taken.{pending_in, this_in, top_in, whole_in}
use Rattle.es_valid_steps.proofs.Spread.{finished-spread, opened_before, site-spread, spread, spread_field, spread_fields, spread_trees, spread-flanks, spread-opened, spread-opened-trees}

-- what a step is then: one of the first rule, nothing, or one of the second rule as it was taken
pub data Went (A E B : Type 0) : Type 0 where
  moves : A → Went A E B
  rests : E → Went A E B
  leaves : B → Went A E B

pub went : {A E B C F D : Type 0} → (A → C) → (E → F) → (B → D) → Went A E B → Went C F D
went f g h (moves a) = moves (f a)
went f g h (rests e) = rests (g e)
went f g h (leaves b) = leaves (h b)

-- nothing changed
abbrev pub SameBoth : {X : Type 0} → Ledger → X → Ledger → X → Type 0
SameBoth s t s' u = (s ≡ s') × (t ≡ u)

module _ (Q N : Site → Ledger → Spot → Ledger → Spot → Type 0) (apart : (n : Site) (s s' : Ledger) (t u : Tree) (bs cs : List Tree) → Q n s (at_node t) s' (at_beside bs u cs) → ⊥) (written : (n : Site) (s s' : Ledger) (t : Tree) (bs cs : List Tree) (us : Trees) → Q n s (at_beside bs t cs) s' (at_trees us) → (s ≡ s') × (flanks_with bs t cs empty ≡ us)) where
  -- a step in a list with others before it
  later : (bs : List Tree) {n : Site} {s s' : Ledger} {ts us : OpenTrees} → TreesStep Q n s ts s' us → TreesStep Q n s (opened_before bs ts) s' (opened_before bs us)
  later [] h = h
  later (b ∷ bs) h = in_tail (later bs h)

  mutual
    pub spread-step : {n : Site} {s s' : Ledger} {t u : Open} → Step (either_rule Q N) n s t s' u → Went (Step Q n s (spread t) s' (spread u)) (SameBoth s (spread t) s' (spread u)) (Step N n s t s' u)
    spread-step (acts {n = n} {s = s} {s' = s'} t u (inl r)) = moves (subst (λ (x : Open). Step Q n s x s' (spread (opened u))) (sym (spread-opened t)) (subst (λ (y : Open). Step Q n s (opened t) s' y) (sym (spread-opened u)) (acts t u r)))
    spread-step (acts t u (inr r)) = leaves (acts t u r)
    spread-step (inside {n = n} {s = s} {s' = s'} {k = k} {l = l} {fs = fs} {gs = gs} h) =
        went (λ r. inside (subst (λ (c : ℕ → Site). FieldsStep Q c s (spread_fields fs) s' (spread_fields gs)) (site-spread n k l fs) r)) (λ e. (e.0, λ i. open_node k l (e.1 i))) (λ r. inside r) (spread-in h)

    spread-in : {c : ℕ → Site} {s s' : Ledger} {fs gs : OpenFields} → FieldsStep (either_rule Q N) c s fs s' gs → Went (FieldsStep Q c s (spread_fields fs) s' (spread_fields gs)) (SameBoth s (spread_fields fs) s' (spread_fields gs)) (FieldsStep N c s fs s' gs)
    spread-in (in_first {fs = fs} h) = went (λ r. in_first r) (λ e. (e.0, λ i. e.1 i and spread_fields fs)) (λ r. in_first r) (spread-by h)
    spread-in (in_later {f = f} h) = went (λ r. in_later r) (λ e. (e.0, λ i. spread_field f and e.1 i)) (λ r. in_later r) (spread-in h)

    spread-by : {n : Site} {s s' : Ledger} {f g : OpenField} → FieldStep (either_rule Q N) n s f s' g → Went (FieldStep Q n s (spread_field f) s' (spread_field g)) (SameBoth s (spread_field f) s' (spread_field g)) (FieldStep N n s f s' g)
    spread-by (in_child h) = went (λ r. in_child r) (λ e. (e.0, λ i. child (e.1 i))) (λ r. in_child r) (spread-step h)
    spread-by (in_children h) = went (λ r. in_children r) (λ e. (e.0, λ i. children (e.1 i))) (λ r. in_children r) (spread-all h)
    spread-by (in_body {n = n} {w = w} {w' = w'} {o = o} {p = p} {q = q} {x = x} {x' = x'} {a = a} {a' = a'} {t = t} {u = u} e y y' h) =
        went (λ r. in_body e (subst (λ (z : Tree). IsExpression z) (sym (finished-spread t)) y) (subst (λ (z : Tree). IsExpression z) (sym (finished-spread u)) y') (subst (λ (z : Tree). Step Q (site_in_body n p z) (ledger w p x a) (spread t) (ledger w' q x' a') (spread u)) (sym (finished-spread t)) r))
        (λ d. (ap (λ r. ledger (whole_in r) o (this_in r) (top_in r)) d.0, λ i. body (pending_in (d.0 i)) (d.1 i)))
        (λ r. in_body e y y' r) (spread-step h)
    spread-by (in_list {o = o} {y = y} {b = b} e e' h) = went (λ r. in_list e e' r) (λ d. (ap (λ r. ledger (whole_in r) o (this_in r) (top_in r)) d.0, λ i. list (pending_in (d.0 i)) y b (d.1 i))) (λ r. in_list e e' r) (spread-all h)
    spread-by (in_target {o = o} {x = x} {b = b} e h) = went (λ r. in_target e r) (λ d. (ap (λ r. ledger (whole_in r) o x (top_in r)) d.0, λ i. list (pending_in (d.0 i)) (this_in (d.0 i)) b (d.1 i))) (λ r. in_target e r) (spread-all h)
    spread-by (in_program {o = o} {x = x} {a = a} e h) = went (λ r. in_program e r) (λ d. (ap (λ r. ledger (whole_in r) o x a) d.0, λ i. list (pending_in (d.0 i)) (this_in (d.0 i)) (top_in (d.0 i)) (d.1 i))) (λ r. in_program e r) (spread-all h)
    spread-by (acts_on_list {n = n} {s = s} {s' = s'} {p = p} {q = q} {x = x} {y = y} {a = a} {b = b} ts us (inl r)) = moves (subst (λ (vs : OpenTrees). FieldStep Q n s (list p x a vs) s' (list q y b (spread_trees (opened_trees us)))) (sym (spread-opened-trees ts)) (subst (λ (vs : OpenTrees). FieldStep Q n s (list p x a (opened_trees ts)) s' (list q y b vs)) (sym (spread-opened-trees us)) (acts_on_list ts us r)))
    spread-by (acts_on_list ts us (inr r)) = leaves (acts_on_list ts us r)
    spread-by (acts_on_body {n = n} {s = s} {s' = s'} {p = p} t u (inl r)) = moves (subst (λ (x : Open). FieldStep Q n s (body p x) s' (child (spread (opened u)))) (sym (spread-opened t)) (subst (λ (y : Open). FieldStep Q n s (body p (opened t)) s' (child y)) (sym (spread-opened u)) (acts_on_body t u r)))
    spread-by (acts_on_body t u (inr r)) = leaves (acts_on_body t u r)

    spread-all : {n : Site} {s s' : Ledger} {ts us : OpenTrees} → TreesStep (either_rule Q N) n s ts s' us → Went (TreesStep Q n s (spread_trees ts) s' (spread_trees us)) (SameBoth s (spread_trees ts) s' (spread_trees us)) (TreesStep N n s ts s' us)
    spread-all (in_head {ts = ts} h) = went (λ r. in_head r) (λ e. (e.0, λ i. e.1 i next spread_trees ts)) (λ r. in_head r) (spread-step h)
    spread-all (in_tail {t = t} h) = went (λ r. in_tail r) (λ e. (e.0, λ i. spread t next e.1 i)) (λ r. in_tail r) (spread-all h)
    spread-all (in_flanked {bs = bs} {cs = cs} {ts = ts} h) = went (λ r. later bs (in_head r)) (λ e. (e.0, λ i. opened_before bs (e.1 i next opened_before cs (spread_trees ts)))) (λ r. in_flanked r) (spread-step h)
    spread-all (after_flanked {bs = bs} {cs = cs} {t = t} h) = went (λ r. later bs (in_tail (later cs r))) (λ e. (e.0, λ i. opened_before bs (spread t next opened_before cs (e.1 i)))) (λ r. after_flanked r) (spread-all h)
    spread-all (flanks {n = n} {s = s} {s' = s'} {bs = bs} {cs = cs} t u (inl r)) = absurd (apart n s s' t u bs cs r)
    spread-all (flanks t u (inr r)) = leaves (flanks t u r)
    spread-all (acts_on_flanked {n = n} {s = s} {s' = s'} {bs = bs} {cs = cs} {ts = ts} t us (inl r)) = let found = written n s s' t bs cs us r in rests (found.0, spread-flanks bs cs t ts ∙ ap (λ vs. spread_trees (followed_by (opened_trees vs) ts)) found.1)
    spread-all (acts_on_flanked t us (inr r)) = leaves (acts_on_flanked t us r)
