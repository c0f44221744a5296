-- A step of a walk is a step of the rules, where what is pending for `this` is found.
use Rattle.std.proofs.Common.{◌<◌, ◌≡◌, ℕ, suc, zero, inl, inr, sym, subst, ◌∙◌}
use Rattle.std.specs.Prelude.{true, Option, Some}
use Rattle.es_tree.specs.Tree.{Label, done, node}
use Rattle.es_tree.specs.Words.{Text}
use Rattle.es_tree.specs.declared.ast_type.AstType.TheVariants.{ThisExpression}
use Rattle.es_tree.specs.declared.options.EnvOptions.{EnvOptions}
use Rattle.es_semantic.specs.RolesOf.{reads}
use Rattle.es_semantic.specs.declared.place.Role.{Role}
use Rattle.es_steps.specs.AllRules.{AllRules}
use Rattle.es_steps.specs.Arrows.{ArrowRule}
use Rattle.es_steps.specs.Arrows.ArrowRule.{by_name}
use Rattle.es_steps.specs.Nodes.{identifier, placed}
use Rattle.es_steps.specs.Open.{Additions, Open, OpenField, OpenFields, OpenTrees, Pending, finished, finished_field, finished_fields, finished_trees, written_body}
use Rattle.es_steps.specs.Rules.{either_rule}
use Rattle.es_steps.specs.Steps.{FieldStep, FieldsStep, Ledger, Site, Spot, Step, TreesStep, Whole}
use Rattle.es_steps.specs.Steps.Ledger.{ledger}
use Rattle.es_steps.specs.Steps.Spot.{at_beside, at_body, at_list, at_node, at_trees}
use Rattle.es_steps.specs.Steps.Step.{acts, inside}
use Rattle.es_steps.specs.Steps.FieldsStep.{in_first, in_later}
use Rattle.es_steps.specs.Steps.FieldStep.{acts_on_body, acts_on_list, in_body, in_child, in_children, in_list, in_program, in_target}
use Rattle.es_steps.specs.Steps.TreesStep.{acts_on_flanked, after_flanked, flanks, in_flanked, in_head, in_tail}
use Rattle.es_steps.specs.ThisPlaces.{belongs_to_arrow, reaches_target}
use Rattle.es_steps.proofs.Taken.{this_in, whole_in}
use Rattle.es_arrow_steps.specs.ArrowWalks.{ArrowWalkRule}
use Rattle.es_arrow_steps.specs.ArrowWalks.ArrowWalkRule.{by_pending_name, by_rule}
use Rattle.es_arrow_steps.proofs.Declared.{Good, GoodAll, GoodBy, GoodIn}
use Rattle.es_arrow_steps.proofs.Onward.{OwnIn, OwnInField, OwnInFields, OwnInTrees}
use Rattle.es_arrow_steps.proofs.Sited.{Finds, Fits, body-good, fits-inside, flanked-good, found-body, found-list, list-good}

-- some rules of those that there are, the ones of arrows among them
pub record HasArrows (o : EnvOptions) (R : Site → Ledger → Spot → Ledger → Spot → Type 0) : Type 0 where
  pub among : (n : Site) (s s' : Ledger) (x y : Spot) → R n s x s' y → AllRules o n s x s' y
  pub arrows : (n : Site) (s s' : Ledger) (x y : Spot) → ArrowRule n s x s' y → R n s x s' y

-- where the pending name is found, the rule of arrows puts it
named-so : (n : Site) (w : Whole) (p : Pending) (a : Additions) (l : Label) (x : Text) (o : Option ℕ) (m : ℕ) → o ≡ Some m → n.role ≡ reads → belongs_to_arrow n.above ≡ true → reaches_target n.above ≡ true → n.names.scope x ≡ o → w.in_use x ≡ true → m < w.free_symbol →
    ArrowRule n (ledger w p (Some (record { name = x; symbol = o })) a) (at_node (node ThisExpression l done)) (ledger w p (Some (record { name = x; symbol = o })) a) (at_node (placed l (identifier (record { name = x; symbol = o }))))
named-so n w p a l x o m e role belongs reaches found used low =
    subst (λ (z : Option ℕ). ArrowRule n (ledger w p (Some (record { name = x; symbol = z })) a) (at_node (node ThisExpression l done)) (ledger w p (Some (record { name = x; symbol = z })) a) (at_node (placed l (identifier (record { name = x; symbol = z }))))) (sym e) (by_name role belongs reaches (found ∙ e) used low)

module _ (o : EnvOptions) (R : Site → Ledger → Spot → Ledger → Spot → Type 0) (has : HasArrows o R) where
  walk-rule : (n : Site) (s s' : Ledger) (x y : Spot) → ArrowWalkRule n s x s' y → Finds (whole_in s) (this_in s) n.names → ArrowRule n s x s' y
  walk-rule n s s' x y (by_pending_name {w = w} {p = p} {a = a} {l = l} {b = b} role belongs reaches) h = named-so n w p a l b.name b.symbol h.0.symbol h.0.has role belongs reaches h.1 h.0.used h.0.below
  walk-rule n s s' x y (by_rule r) h = r

  rule : (n : Site) (s s' : Ledger) (x y : Spot) → either_rule R ArrowWalkRule n s x s' y → Finds (whole_in s) (this_in s) n.names → R n s x s' y
  rule n s s' x y (inl r) h = r
  rule n s s' x y (inr r) h = has.arrows n s s' x y (walk-rule n s s' x y r h)

  mutual
    pub converted : {n : Site} {s s' : Ledger} {t u : Open} → Step (either_rule R ArrowWalkRule) n s t s' u → Finds (whole_in s) (this_in s) n.names → Good (whole_in s) n.role n.names (finished t) → OwnIn (whole_in s) t → Step R n s t s' u
    converted (acts {n = n} {s = s} {s' = s'} t u r) h good own = acts t u (rule n s s' (at_node t) (at_node u) r h)
    converted (inside {n = n} {s = s} {k = k} {l = l} {fs = fs} r) h good own = inside (converted-in r (fits-inside (whole_in s) (this_in s) n k l fs good h) (good.0.2, good.1.1, good.2.1) own)

    converted-in : {c : ℕ → Site} {s s' : Ledger} {fs gs : OpenFields} → FieldsStep (either_rule R ArrowWalkRule) c s fs s' gs → ((i : ℕ) → Fits (whole_in s) (this_in s) (c i)) → GoodIn (whole_in s) (λ i. (c i).role) (λ i. (c i).names) (finished_fields fs) → OwnInFields (whole_in s) fs → FieldsStep R c s fs s' gs
    converted-in (in_first r) h good own = in_first (converted-by r (h zero) (good.0.0, good.1.0, good.2.0) own.0)
    converted-in (in_later r) h good own = in_later (converted-in r (λ i. h (suc i)) (good.0.1, good.1.1, good.2.1) own.1)

    converted-by : {n : Site} {s s' : Ledger} {f g : OpenField} → FieldStep (either_rule R ArrowWalkRule) n s f s' g → Fits (whole_in s) (this_in s) n → GoodBy (whole_in s) n.role n.names (finished_field f) → OwnInField (whole_in s) f → FieldStep R n s f s' g
    converted-by (in_child r) h good own = in_child (converted r h.this good own)
    converted-by (in_children r) h good own = in_children (converted-all r h.this good own)
    converted-by (in_body {n = n} {w = w} {p = p} {x = x} {t = t} e y y' r) h good own =
        let so : Good w reads n.names (written_body p (finished t)) = subst (λ (z : Role). Good w z n.names (written_body p (finished t))) e good in
        in_body e y y' (converted r (found-body w x n.names p.vars p.lets (finished t) so h.this) (body-good w n.names p.vars p.lets (finished t) y so) own)
    converted-by (in_list {n = n} {w = w} {p = p} {y = y} {b = b} {ts = ts} d e r) h good own = in_list d e (converted-all r h.this (list-good w n.role n.names p y b (finished_trees ts) good) own.1)
    converted-by (in_target {n = n} {w = w} {p = p} {y = y} {b = b} {ts = ts} e r) h good own = in_target e (converted-all r (found-list w n p y b (finished_trees ts) h.meets (inl e) good.0 own.0) (list-good w n.role n.names p y b (finished_trees ts) good) own.1)
    converted-by (in_program {n = n} {w = w} {p = p} {y = y} {b = b} {ts = ts} e r) h good own = in_program e (converted-all r (found-list w n p y b (finished_trees ts) h.meets (inr e) good.0 own.0) (list-good w n.role n.names p y b (finished_trees ts) good) own.1)
    converted-by (acts_on_list {n = n} {s = s} {s' = s'} {p = p} {q = q} {x = x} {y = y} {a = a} {b = b} ts us r) h good own = acts_on_list ts us (rule n s s' (at_list p x a ts) (at_list q y b us) r h.this)
    converted-by (acts_on_body {n = n} {s = s} {s' = s'} {p = p} t u r) h good own = acts_on_body t u (rule n s s' (at_body p t) (at_node u) r h.this)

    converted-all : {n : Site} {s s' : Ledger} {ts us : OpenTrees} → TreesStep (either_rule R ArrowWalkRule) n s ts s' us → Finds (whole_in s) (this_in s) n.names → GoodAll (whole_in s) n.role n.names (finished_trees ts) → OwnInTrees (whole_in s) ts → TreesStep R n s ts s' us
    converted-all (in_head r) h good own = in_head (converted r h (good.0.0, good.1.0, good.2.0) own.0)
    converted-all (in_tail r) h good own = in_tail (converted-all r h (good.0.1, good.1.1, good.2.1) own.1)
    converted-all (in_flanked {n = n} {s = s} {bs = bs} {cs = cs} {t = t} {ts = ts} r) h good own = in_flanked (converted r h (flanked-good (whole_in s) n.role n.names bs cs (finished t) (finished_trees ts) good).0 own.0)
    converted-all (after_flanked {n = n} {s = s} {bs = bs} {cs = cs} {t = t} {ts = ts} r) h good own = after_flanked (converted-all r h (flanked-good (whole_in s) n.role n.names bs cs (finished t) (finished_trees ts) good).1 own.1)
    converted-all (flanks {n = n} {s = s} {s' = s'} {bs = bs} {cs = cs} t u r) h good own = flanks t u (rule n s s' (at_node t) (at_beside bs u cs) r h)
    converted-all (acts_on_flanked {n = n} {s = s} {s' = s'} {bs = bs} {cs = cs} t us r) h good own = acts_on_flanked t us (rule n s s' (at_beside bs t cs) (at_trees us) r h)
