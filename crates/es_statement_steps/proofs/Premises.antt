-- A step of a rule of nodes in a program, with what is known of the node where it acts: what is known of the program and goes inwards is known there.
use Rattle.std.proofs.Common.{◌≡◌, ℕ, zero, suc, sym, subst, List, []}
use Rattle.std.proofs.lemmas.Bool.{and_parts}
use Rattle.std.specs.Prelude.{Bool, true, false}
use Rattle.es_tree.specs.Tree.{Tree, Label}
use Rattle.es_tree.specs.Walks.{all_in_fields}
use Rattle.es_tree.specs.declared.ast_type.AstType.{AstType}
use Rattle.es_resolution.specs.Declarations.{Bound}
use Rattle.es_steps.specs.Open.{Open, OpenField, OpenFields, OpenTrees, finished, finished_field, finished_fields, finished_trees, is_body, pending_statements}
use Rattle.es_tree.specs.Tree.Tree.{node}
use Rattle.es_steps.specs.Rules.{Replacing}
use Rattle.es_steps.specs.Steps.{FieldStep, FieldsStep, Ledger, Site, Spot, Step, TreesStep, Whole, site_in, the_program}
use Rattle.es_steps.specs.Steps.Spot.{at_node}
use Rattle.es_steps.specs.Steps.Step.{acts, inside}
use Rattle.es_steps.specs.Steps.FieldsStep.{in_first, in_later}
use Rattle.es_steps.specs.Steps.FieldStep.{acts_on_body, acts_on_list, in_body, in_child, in_children, in_list, in_program, in_target}
use Rattle.es_steps.specs.Steps.TreesStep.{acts_on_flanked, after_flanked, flanks, in_flanked, in_head, in_tail}
use Rattle.es_steps.proofs.FormOpen.{AreProperFields, AreProperTrees, IsProper, IsProperField}
use Rattle.es_steps.proofs.Opened.{finished-opened}
use Rattle.es_steps.proofs.Taken.{whole_in}
use Rattle.es_statement_runs.specs.Helpers.{Supply, silent_names}
use Rattle.es_statement_runs.specs.Programs.{is_statement_node}
use Rattle.es_statement_steps.proofs.Below.{Below, BelowField, BelowTrees, nodes_below}
use Rattle.es_statement_steps.proofs.Composition.{Known, known-fine}
use Rattle.es_statement_steps.proofs.Replacings.{RowShape, replacing-hoists, replacing-rule}
use Rattle.es_statement_steps.proofs.RowRuns.{KeepsRuns, StepAlike, row-alike}
use Rattle.es_statement_steps.proofs.StepMoves.{NodeRule, below-after}
use Rattle.es_statement_steps.proofs.ProgramMoves.{program-moved}
use Rattle.es_statement_steps.proofs.Tamed.{Class, no-arrow, node-kind}

-- WHAT GOES INWARDS

abbrev pub Premise : Type 1
Premise = Site → Whole → Tree → Type 0

abbrev pub Inwards : Premise → Type 0
Inwards H = (n : Site) (w : Whole) (k : AstType) (l : Label) (fs : OpenFields) → H n w (node k l (finished_fields fs)) → Below (λ i t. H (site_in n k l fs i) w t) (finished_fields fs)

-- of the node at which a rule acts
abbrev pub PremiseAt : Premise → Site → Ledger → Spot → Type 0
PremiseAt H n s (at_node t) = H n (whole_in s) t
PremiseAt H n s x = Unit {0}

abbrev pub With : (Site → Ledger → Spot → Ledger → Spot → Type 0) → Premise → Site → Ledger → Spot → Ledger → Spot → Type 0
With Q H n s x s' y = Q n s x s' y × PremiseAt H n s x

module _ (Q : Site → Ledger → Spot → Ledger → Spot → Type 0) (H : Premise) (inwards : Inwards H) where
  mutual
    pub premised : {n : Site} {s s' : Ledger} {t u : Open} → Step Q n s t s' u → IsProper t → Class (finished t) → H n (whole_in s) (finished t) → Step (With Q H) n s t s' u
    premised (acts {n = n} {s = s} t u h) proper class known = acts t u (h, subst (λ (x : Tree). H n (whole_in s) x) (finished-opened t) known)
    premised (inside {n = n} {s = s} {k = k} {l = l} {fs = fs} h) proper class known =
        let d = and_parts (is_statement_node k l (finished_fields fs)) (all_in_fields is_statement_node (finished_fields fs)) class in
        inside (premised-in h (is_body k) proper (λ i. no-arrow k i (node-kind k l (finished_fields fs) d.0)) (nodes_below is_statement_node (finished_fields fs) d.1) (inwards n (whole_in s) k l fs known))

    premised-in : {c : ℕ → Site} {s s' : Ledger} {fs gs : OpenFields} → FieldsStep Q c s fs s' gs → (bodies : ℕ → Bool) → AreProperFields bodies fs → ((i : ℕ) → bodies i ≡ false) → Below (λ i. Class) (finished_fields fs) → Below (λ i t. H (c i) (whole_in s) t) (finished_fields fs) → FieldsStep (With Q H) c s fs s' gs
    premised-in (in_first h) bodies proper none class known = in_first (premised-by h (bodies zero) proper.0 (none zero) class.0 known.0)
    premised-in (in_later h) bodies proper none class known = in_later (premised-in h (λ i. bodies (suc i)) proper.1 (λ i. none (suc i)) class.1 known.1)

    premised-by : {n : Site} {s s' : Ledger} {f g : OpenField} → FieldStep Q n s f s' g → (b : Bool) → IsProperField b f → b ≡ false → BelowField Class (finished_field f) → BelowField (λ t. H n (whole_in s) t) (finished_field f) → FieldStep (With Q H) n s f s' g
    premised-by (in_child h) b proper none class known = in_child (premised h proper class known)
    premised-by (in_children h) b proper none class known = in_children (premised-all h proper class known)
    premised-by (in_body e y y' h) b proper none class known = absurd (let e : b ≡ true = proper.0 in cc (e, none))
    premised-by (in_list {n = n} {w = w} {p = p} {y = y} {b = d} {ts = ts} e e' h) b proper none class known =
        in_list e e' (premised-all h proper.1 (below-after Class (pending_statements p y d) (finished_trees ts) class) (below-after (λ t. H n w t) (pending_statements p y d) (finished_trees ts) known))
    premised-by (in_target {n = n} {w = w} {p = p} {y = y} {b = d} {ts = ts} e h) b proper none class known =
        in_target e (premised-all h proper.1 (below-after Class (pending_statements p y d) (finished_trees ts) class) (below-after (λ t. H n w t) (pending_statements p y d) (finished_trees ts) known))
    premised-by (in_program {n = n} {w = w} {p = p} {y = y} {b = d} {ts = ts} e h) b proper none class known =
        in_program e (premised-all h proper.1 (below-after Class (pending_statements p y d) (finished_trees ts) class) (below-after (λ t. H n w t) (pending_statements p y d) (finished_trees ts) known))
    premised-by (acts_on_list ts us h) b proper none class known = acts_on_list ts us (h, tt)
    premised-by (acts_on_body t u h) b proper none class known = acts_on_body t u (h, tt)

    premised-all : {n : Site} {s s' : Ledger} {ts us : OpenTrees} → TreesStep Q n s ts s' us → AreProperTrees ts → BelowTrees Class (finished_trees ts) → BelowTrees (λ t. H n (whole_in s) t) (finished_trees ts) → TreesStep (With Q H) n s ts s' us
    premised-all (in_head h) proper class known = in_head (premised h proper.0 class.0 known.0)
    premised-all (in_tail h) proper class known = in_tail (premised-all h proper.1 class.1 known.1)
    premised-all (in_flanked h) proper class known = absurd proper
    premised-all (after_flanked h) proper class known = absurd proper
    premised-all (flanks {n = n} {s = s} t u h) proper class known = flanks t u (h, subst (λ (x : Tree). H n (whole_in s) x) (finished-opened t) known.0)
    premised-all (acts_on_flanked t us h) proper class known = absurd proper

-- ROWS with what is known there

module _ (R : Site → Whole → List Bound → Tree → Tree → Type 0) (shape : RowShape R) (H : Premise) where
  abbrev pub RowWith : List Bound → Site → Whole → Tree → Tree → Type 0
  RowWith new n w t u = R n w new t u × H n w t

  pub premised-rule : NodeRule (With (Replacing R) H) RowWith
  premised-rule = record {
    hoisted = (replacing-rule R shape).hoisted;
    nodes = λ n s s' x y h. (replacing-rule R shape).nodes n s s' x y h.0;
    acting = λ n s s' t u h. let a = (replacing-rule R shape).acting n s s' t u h.0 in record { new = a.new; pending = a.pending; this = a.this; top = a.top; rule = (a.rule, h.1) };
    new_names = λ new n w t u h. (replacing-rule R shape).new_names new n w t u h.0;
    acts_on = λ new n w t u h. (replacing-rule R shape).acts_on new n w t u h.0;
    mute = λ new n w t u h. (replacing-rule R shape).mute new n w t u h.0;
  }

  pub premised-hoists : premised-rule.hoisted ≡ true
  unfolding premised-rule
  premised-hoists = replacing-hoists R shape

-- THE RUN of a step of such a row
module _ (no_all : Bool) (u : Supply) (H : Premise) (R : Site → Whole → List Bound → Tree → Tree → Type 0) (shape : RowShape R) where
  with-runs : KeepsRuns no_all u true (RowWith R shape H) → {s s' : Ledger} {x y : Open} → Step (With (Replacing R) H) the_program s x s' y → Known s x → Known s' y → silent_names u (finished x) ≡ [] → silent_names u (finished y) ≡ [] → StepAlike no_all u (finished x) (finished y)
  with-runs keeps {s = s} {x = x} {y = y} h k m silent silent_after =
      let law = premised-rule R shape H in
      row-alike no_all u (With (Replacing R) H) (RowWith R shape H) law (subst (λ (b : Bool). KeepsRuns no_all u b (RowWith R shape H)) (sym (premised-hoists R shape H)) keeps) (whole_in s) (finished x) (finished y)
      (program-moved (With (Replacing R) H) (RowWith R shape H) law h k.proper k.form k.class (known-fine k) (known-fine m) k.resolved) k.named (known-fine k) (known-fine m) silent silent_after

pub premised-runs : (no_all : Bool) (u : Supply) (H : Premise) → Inwards H → (R : Site → Whole → List Bound → Tree → Tree → Type 0) (shape : RowShape R) → KeepsRuns no_all u true (RowWith R shape H) → {s s' : Ledger} {x y : Open} → Step (Replacing R) the_program s x s' y → Known s x → Known s' y →
    silent_names u (finished x) ≡ [] → silent_names u (finished y) ≡ [] → H the_program (whole_in s) (finished x) → StepAlike no_all u (finished x) (finished y)
premised-runs no_all u H inwards R shape keeps h k m silent silent_after premise = with-runs no_all u H R shape keeps (premised (Replacing R) H inwards h k.proper k.class premise) k m silent silent_after
