-- A step of a rule of nodes that puts nothing into lists, in an open program with nothing pending: the finished trees are the same but at its place.
use Rattle.std.proofs.Common.{◌≡◌, ℕ, zero, suc, refl, sym, subst, ◌∙◌}
use Rattle.std.specs.Prelude.{Bool, true, false, Option, None, if◌then◌else◌}
use Rattle.es_tree.specs.Tree.{Tree, node, Fields, done, ◌then◌, Field, missing, one, many, statements, Trees, empty, ◌before◌}
use Rattle.es_steps.specs.Open.{Additions, Pending, finished, finished_field, finished_fields, finished_trees, is_body, is_statement_body, no_additions, nothing_pending, opened, opened_field, opened_fields, opened_trees, whole_list, written_body, Open, OpenFields, OpenField, OpenTrees}
use Rattle.es_steps.specs.Open.OpenField.{body, child}
use Rattle.es_steps.specs.Steps.{FieldStep, FieldsStep, Ledger, Site, Spot, Step, TreesStep, Whole}
use Rattle.es_steps.specs.Steps.Spot.{at_beside, at_body, at_list, at_node}
use Rattle.es_steps.specs.Steps.Step.{acts, inside}
use Rattle.es_steps.specs.Steps.FieldsStep.{in_first, in_later}
use Rattle.es_steps.specs.Steps.FieldStep.{acts_on_body, acts_on_list, in_body, in_child, in_children, in_list, in_program, in_target}
use Rattle.es_steps.specs.Steps.TreesStep.{acts_on_flanked, after_flanked, flanks, in_flanked, in_head, in_tail}
use Rattle.es_steps.proofs.FormRules.{AtNodes}
use Rattle.es_steps.proofs.Opened.{finished-opened, written-none}
use Rattle.es_steps.proofs.Taken.{pending_in, this_in, top_in, whole_in}
use Rattle.es_rest_runs.specs.Changing.{Changed, ChangedAmong, ChangedBy, ChangedIn}
use Rattle.es_rest_runs.specs.Changing.Changed.{below, here}
use Rattle.es_rest_runs.specs.Changing.ChangedAmong.{head_of, tail_of}
use Rattle.es_rest_runs.specs.Changing.ChangedBy.{many_of, one_of, statements_of}
use Rattle.es_rest_runs.specs.Changing.ChangedIn.{first_of, later_of}
use Rattle.es_rest_runs.specs.Quiet.{AreQuietFields, AreQuietTrees, IsQuiet, IsQuietField}

-- an opened tree has nothing pending
either_quiet : (v : Bool) (t : Open) → IsQuiet t → IsQuietField (if v then child t else body nothing_pending t)
either_quiet true t h = h
either_quiet false t h = (refl, h)

mutual
  pub opened_quiet : (t : Tree) → IsQuiet (opened t)
  opened_quiet (node k l fs) = opened_fields_quiet (is_body k) fs

  opened_fields_quiet : (bodies : ℕ → Bool) (fs : Fields) → AreQuietFields (opened_fields bodies fs)
  opened_fields_quiet bodies done = tt
  opened_fields_quiet bodies (f then fs) = (opened_field_quiet (bodies zero) f, opened_fields_quiet (λ i. bodies (suc i)) fs)

  opened_field_quiet : (b : Bool) (f : Field) → IsQuietField (opened_field b f)
  opened_field_quiet true missing = tt
  opened_field_quiet false missing = tt
  opened_field_quiet true (one t) = either_quiet (is_statement_body t) (opened t) (opened_quiet t)
  opened_field_quiet false (one t) = opened_quiet t
  opened_field_quiet true (many ts) = opened_trees_quiet ts
  opened_field_quiet false (many ts) = opened_trees_quiet ts
  opened_field_quiet true (statements ts) = (refl, refl, refl, opened_trees_quiet ts)
  opened_field_quiet false (statements ts) = (refl, refl, refl, opened_trees_quiet ts)

  opened_trees_quiet : (ts : Trees) → AreQuietTrees (opened_trees ts)
  opened_trees_quiet empty = tt
  opened_trees_quiet (t before ts) = (opened_quiet t, opened_trees_quiet ts)

-- A rule of nodes that puts nothing into lists, and what it makes of a node, by what is known of the whole before and after
pub record PlainRule (Q : Site → Ledger → Spot → Ledger → Spot → Type 0) (A : Whole → Whole → Tree → Tree → Type 0) : Type 0 where
  pub nodes : (n : Site) (s s' : Ledger) (x y : Spot) → Q n s x s' y → AtNodes x y
  pub pending : (n : Site) (s s' : Ledger) (t u : Tree) → Q n s (at_node t) s' (at_node u) → pending_in s' ≡ pending_in s
  pub this : (n : Site) (s s' : Ledger) (t u : Tree) → Q n s (at_node t) s' (at_node u) → this_in s' ≡ this_in s
  pub top : (n : Site) (s s' : Ledger) (t u : Tree) → Q n s (at_node t) s' (at_node u) → top_in s' ≡ top_in s
  pub made : (n : Site) (s s' : Ledger) (t u : Tree) → Q n s (at_node t) s' (at_node u) → A (whole_in s) (whole_in s') t u

-- what is made by what was known before alone
abbrev pub Before : (Whole → Tree → Tree → Type 0) → Whole → Whole → Tree → Tree → Type 0
Before A w w' = A w

-- what a step leaves
pub record Left (s s' : Ledger) (K C : Type 0) : Type 0 where
  pub pending : pending_in s' ≡ pending_in s
  pub this : this_in s' ≡ this_in s
  pub top : top_in s' ≡ top_in s
  pub quiet : K
  pub changed : C

onward : {s s' : Ledger} {K L C D : Type 0} → (K → L) → (C → D) → Left s s' K C → Left s s' L D
onward f g h = record { pending = h.pending; this = h.this; top = h.top; quiet = f h.quiet; changed = g h.changed }

-- a list with nothing pending
listed : (A : Tree → Tree → Type 0) (p : Pending) (x : Option _) (a : Additions) → p ≡ nothing_pending → x ≡ None → a ≡ no_additions → (ts us : Trees) → ChangedAmong A ts us → ChangedBy A (statements (whole_list p x a ts)) (statements (whole_list p x a us))
listed A p x a e f g ts us h =
    subst (λ p. ChangedBy A (statements (whole_list p x a ts)) (statements (whole_list p x a us))) (sym e)
    (subst (λ x. ChangedBy A (statements (whole_list nothing_pending x a ts)) (statements (whole_list nothing_pending x a us))) (sym f)
    (subst (λ a. ChangedBy A (statements (whole_list nothing_pending None a ts)) (statements (whole_list nothing_pending None a us))) (sym g)
    (subst (λ xs. ChangedBy A (statements xs) (statements (whole_list nothing_pending None no_additions us))) (sym (written-none ts))
    (subst (λ xs. ChangedBy A (statements ts) (statements xs)) (sym (written-none us)) (statements_of h)))))

bodied : (A : Tree → Tree → Type 0) (p : Pending) → p ≡ nothing_pending → (t u : Tree) → Changed A t u → ChangedBy A (one (written_body p t)) (one (written_body p u))
bodied A p e t u h = subst (λ p. ChangedBy A (one (written_body p t)) (one (written_body p u))) (sym e) (one_of h)

module _ (Q : Site → Ledger → Spot → Ledger → Spot → Type 0) (A : Whole → Whole → Tree → Tree → Type 0) (law : PlainRule Q A) where
  mutual
    pub step_changed : {n : Site} {s s' : Ledger} {t u : Open} → Step Q n s t s' u → IsQuiet t → Left s s' (IsQuiet u) (Changed (A (whole_in s) (whole_in s')) (finished t) (finished u))
    step_changed (acts {n = n} {s = s} {s' = s'} t u h) q = record {
      pending = law.pending n s s' t u h;
      this = law.this n s s' t u h;
      top = law.top n s s' t u h;
      quiet = opened_quiet u;
      changed = subst (λ x. Changed (A (whole_in s) (whole_in s')) x (finished (opened u))) (sym (finished-opened t)) (subst (λ x. Changed (A (whole_in s) (whole_in s')) t x) (sym (finished-opened u)) (here (law.made n s s' t u h)));
    }
    step_changed (inside h) q = onward (λ k. k) below (fields_changed h q)

    fields_changed : {c : ℕ → Site} {s s' : Ledger} {fs gs : OpenFields} → FieldsStep Q c s fs s' gs → AreQuietFields fs → Left s s' (AreQuietFields gs) (ChangedIn (A (whole_in s) (whole_in s')) (finished_fields fs) (finished_fields gs))
    fields_changed (in_first h) q = onward (λ k. (k, q.1)) first_of (field_changed h q.0)
    fields_changed (in_later h) q = onward (λ k. (q.0, k)) later_of (fields_changed h q.1)

    field_changed : {n : Site} {s s' : Ledger} {f g : OpenField} → FieldStep Q n s f s' g → IsQuietField f → Left s s' (IsQuietField g) (ChangedBy (A (whole_in s) (whole_in s')) (finished_field f) (finished_field g))
    field_changed (in_child h) q = onward (λ k. k) one_of (step_changed h q)
    field_changed (in_children h) q = onward (λ k. k) many_of (trees_changed h q)
    field_changed (in_body {w = w} {w' = w'} {p = p} {q = r} {t = t} {u = u} e y y' h) q =
        let g = step_changed h q.1 in
        record {
          pending = refl;
          this = g.this;
          top = g.top;
          quiet = (g.pending ∙ q.0, g.quiet);
          changed = subst (λ z. ChangedBy (A w w') (one (written_body p (finished t))) (one (written_body z (finished u)))) (sym g.pending) (bodied (A w w') p q.0 (finished t) (finished u) g.changed);
        }
    field_changed (in_list {w = w} {w' = w'} {p = p} {q = r} {y = y} {b = b} {ts = ts} {us = us} e e' h) q =
        let g = trees_changed h q.3 in
        record {
          pending = refl;
          this = g.this;
          top = g.top;
          quiet = (g.pending ∙ q.0, q.1, q.2, g.quiet);
          changed = subst (λ z. ChangedBy (A w w') (statements (whole_list p y b (finished_trees ts))) (statements (whole_list z y b (finished_trees us)))) (sym g.pending) (listed (A w w') p y b q.0 q.1 q.2 (finished_trees ts) (finished_trees us) g.changed);
        }
    field_changed (in_target {w = w} {w' = w'} {p = p} {q = r} {y = y} {y' = y'} {b = b} {ts = ts} {us = us} e h) q =
        let g = trees_changed h q.3 in
        record {
          pending = refl;
          this = refl;
          top = g.top;
          quiet = (g.pending ∙ q.0, g.this ∙ q.1, q.2, g.quiet);
          changed = subst (λ z. ChangedBy (A w w') (statements (whole_list p y b (finished_trees ts))) (statements (whole_list z y' b (finished_trees us)))) (sym g.pending)
              (subst (λ z. ChangedBy (A w w') (statements (whole_list p y b (finished_trees ts))) (statements (whole_list p z b (finished_trees us)))) (sym g.this) (listed (A w w') p y b q.0 q.1 q.2 (finished_trees ts) (finished_trees us) g.changed));
        }
    field_changed (in_program {w = w} {w' = w'} {p = p} {q = r} {y = y} {y' = y'} {b = b} {b' = b'} {ts = ts} {us = us} e h) q =
        let g = trees_changed h q.3 in
        record {
          pending = refl;
          this = refl;
          top = refl;
          quiet = (g.pending ∙ q.0, g.this ∙ q.1, g.top ∙ q.2, g.quiet);
          changed = subst (λ z. ChangedBy (A w w') (statements (whole_list p y b (finished_trees ts))) (statements (whole_list z y' b' (finished_trees us)))) (sym g.pending)
              (subst (λ z. ChangedBy (A w w') (statements (whole_list p y b (finished_trees ts))) (statements (whole_list p z b' (finished_trees us)))) (sym g.this)
              (subst (λ z. ChangedBy (A w w') (statements (whole_list p y b (finished_trees ts))) (statements (whole_list p y z (finished_trees us)))) (sym g.top) (listed (A w w') p y b q.0 q.1 q.2 (finished_trees ts) (finished_trees us) g.changed)));
        }
    field_changed (acts_on_list {n = n} {s = s} {s' = s'} {p = p} {q = r} {x = x} {y = y} {a = a} {b = b} ts us h) q = absurd (law.nodes n s s' (at_list p x a ts) (at_list r y b us) h)
    field_changed (acts_on_body {n = n} {s = s} {s' = s'} {p = p} t u h) q = absurd (law.nodes n s s' (at_body p t) (at_node u) h)

    trees_changed : {n : Site} {s s' : Ledger} {ts us : OpenTrees} → TreesStep Q n s ts s' us → AreQuietTrees ts → Left s s' (AreQuietTrees us) (ChangedAmong (A (whole_in s) (whole_in s')) (finished_trees ts) (finished_trees us))
    trees_changed (in_head h) q = onward (λ k. (k, q.1)) head_of (step_changed h q.0)
    trees_changed (in_tail h) q = onward (λ k. (q.0, k)) tail_of (trees_changed h q.1)
    trees_changed (in_flanked h) q = absurd q
    trees_changed (after_flanked h) q = absurd q
    trees_changed (flanks {n = n} {s = s} {s' = s'} {bs = bs} {cs = cs} t u h) q = absurd (law.nodes n s s' (at_node t) (at_beside bs u cs) h)
    trees_changed (acts_on_flanked t us h) q = absurd q
