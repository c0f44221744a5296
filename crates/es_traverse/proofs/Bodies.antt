-- Bodies stand where they may in what a visit opens, and after each step of any rule.
use Rattle.std.proofs.Common.{ℕ, zero, suc, Bool, true, false, refl}
use Rattle.std.specs.Prelude.{if◌then◌else◌}
use Rattle.es_tree.specs.Tree.{Tree, node, Fields, done, ◌then◌, Field, missing, one, many, statements, Trees, empty, ◌before◌}
use Rattle.es_steps.specs.Open.{Open, OpenFields, OpenField, child, body, OpenTrees, nil, ◌next◌, flanked, followed_by, is_body, is_statement_body, nothing_pending, opened, opened_field, opened_fields, opened_trees}
use Rattle.es_steps.specs.Steps.{FieldStep, FieldsStep, Ledger, Site, Spot, Step, TreesStep}
use Rattle.es_steps.specs.Steps.Step.{acts, inside}
use Rattle.es_steps.specs.Steps.FieldsStep.{in_first, in_later}
use Rattle.es_steps.specs.Steps.FieldStep.{in_child, in_children, in_body, in_list, in_target, in_program, acts_on_list, acts_on_body}
use Rattle.es_steps.specs.Steps.TreesStep.{in_head, in_tail, in_flanked, after_flanked, flanks, acts_on_flanked}
use Rattle.es_traverse.specs.Bodies.{BodiesStand, BodiesStandAmong, BodiesStandBy, BodiesStandIn}

either-stands : (v : Bool) (t : Open) → BodiesStand t → BodiesStandBy true (if v then child t else body nothing_pending t)
either-stands true t h = h
either-stands false t h = (refl, h)

mutual
  pub opened-stands : (t : Tree) → BodiesStand (opened t)
  opened-stands (node k l fs) = opened-fields-stand (is_body k) fs

  pub opened-fields-stand : (bodies : ℕ → Bool) (fs : Fields) → BodiesStandIn bodies (opened_fields bodies fs)
  opened-fields-stand bodies done = tt
  opened-fields-stand bodies (f then fs) = (opened-field-stands (bodies zero) f, opened-fields-stand (λ i. bodies (suc i)) fs)

  opened-field-stands : (b : Bool) (f : Field) → BodiesStandBy b (opened_field b f)
  opened-field-stands true missing = tt
  opened-field-stands false missing = tt
  opened-field-stands true (one t) = either-stands (is_statement_body t) (opened t) (opened-stands t)
  opened-field-stands false (one t) = opened-stands t
  opened-field-stands true (many ts) = opened-trees-stand ts
  opened-field-stands false (many ts) = opened-trees-stand ts
  opened-field-stands true (statements ts) = opened-trees-stand ts
  opened-field-stands false (statements ts) = opened-trees-stand ts

  pub opened-trees-stand : (ts : Trees) → BodiesStandAmong (opened_trees ts)
  opened-trees-stand empty = tt
  opened-trees-stand (t before ts) = (opened-stands t, opened-trees-stand ts)

followed-stand : (ts us : OpenTrees) → BodiesStandAmong ts → BodiesStandAmong us → BodiesStandAmong (followed_by ts us)
followed-stand nil us h g = g
followed-stand (t next ts) us h g = (h.0, followed-stand ts us h.1 g)
followed-stand (flanked bs t cs ts) us h g = (h.0, followed-stand ts us h.1 g)

module _ {R : Site → Ledger → Spot → Ledger → Spot → Type 0} where
  mutual
    step-stands : {n : Site} {s s' : Ledger} {t u : Open} → Step R n s t s' u → BodiesStand t → BodiesStand u
    step-stands (acts t u r) h = opened-stands u
    step-stands (inside r) h = fields-stand r _ h

    pub fields-stand : {c : ℕ → Site} {s s' : Ledger} {fs gs : OpenFields} → FieldsStep R c s fs s' gs → (bodies : ℕ → Bool) → BodiesStandIn bodies fs → BodiesStandIn bodies gs
    fields-stand (in_first r) bodies h = (field-stands r (bodies zero) h.0, h.1)
    fields-stand (in_later r) bodies h = (h.0, fields-stand r (λ i. bodies (suc i)) h.1)

    field-stands : {n : Site} {s s' : Ledger} {f g : OpenField} → FieldStep R n s f s' g → (b : Bool) → BodiesStandBy b f → BodiesStandBy b g
    field-stands (in_child r) b h = step-stands r h
    field-stands (in_children r) b h = trees-stand r h
    field-stands (in_body e x y r) b h = (h.0, step-stands r h.1)
    field-stands (in_list e d r) b h = trees-stand r h
    field-stands (in_target e r) b h = trees-stand r h
    field-stands (in_program e r) b h = trees-stand r h
    field-stands (acts_on_list ts us r) b h = opened-trees-stand us
    field-stands (acts_on_body t u r) b h = opened-stands u

    trees-stand : {n : Site} {s s' : Ledger} {ts us : OpenTrees} → TreesStep R n s ts s' us → BodiesStandAmong ts → BodiesStandAmong us
    trees-stand (in_head r) h = (step-stands r h.0, h.1)
    trees-stand (in_tail r) h = (h.0, trees-stand r h.1)
    trees-stand (in_flanked r) h = (step-stands r h.0, h.1)
    trees-stand (after_flanked r) h = (h.0, trees-stand r h.1)
    trees-stand (flanks t u r) h = (opened-stands u, h.1)
    trees-stand (acts_on_flanked {ts = ts} t us r) h = followed-stand (opened_trees us) ts (opened-trees-stand us) h.1
