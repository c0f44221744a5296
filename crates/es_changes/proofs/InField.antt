-- What stands in a field fits there, and its steps are steps in the field.
use Rattle.std.proofs.Common.{◌≡◌, refl, sym, ap, subst, ◌∙◌}
use Rattle.std.specs.Prelude.{Bool, true, false, if◌then◌else◌}
use Rattle.es_tree.specs.HasForm.{has_form, is_of_sort}
use Rattle.es_tree.specs.Tree.{Tree, Trees, node, Label, Fields, one, many, kind_of}
use Rattle.es_tree.specs.declared.ast_type.AstType.{AstType}
use Rattle.es_tree.specs.declared.ast_type.AstType.TheVariants.{FunctionBody, Program, StaticBlock}
use Rattle.es_tree.specs.declared.table.Sort.{Sort}
use Rattle.es_tree.specs.declared.table.Sort.TheVariants.{ArrowFunctionBody as s-ArrowFunctionBody, Expression as s-Expression, FunctionBody as s-FunctionBody}
use Rattle.es_tree.proofs.NodeForm.{node_form}
use Rattle.es_resolution.specs.Declarations.{is_var_scope}
use Rattle.es_steps.specs.Open.{Open, OpenField, body, child, children, finished, is_statement_body, nothing_pending, opened, opened_field, opened_trees}
use Rattle.es_steps.specs.Slots.{is_slot}
use Rattle.es_steps.specs.Steps.{FieldStep, Ledger, Site, Spot, Step, Steps, TreesStep, Whole}
use Rattle.es_steps.specs.Steps.FieldStep.{in_child, in_children}
use Rattle.es_steps.proofs.Opened.{finished-opened}
use Rattle.es_steps.proofs.Passed.{Recalled, recalled}
use Rattle.es_steps.proofs.Taken.{whole_in}
use Rattle.es_changes.specs.Fits.{Fits, FitAll, FitsBy}
use Rattle.es_changes.specs.Laws.{LawsOfField}
use Rattle.es_changes.specs.Moments.{Moment, ledger_at, whole_at}
use Rattle.es_changes.specs.Rules.{IsLawfulRule}
use Rattle.es_changes.proofs.GoesOn.{TreeGoes, row-keeps, row-recalled, tree-goes, tree-kind}
use Rattle.es_changes.proofs.KnownNames.{recalled-none}
use Rattle.es_changes.proofs.StepRows.{steps-map}
use Rattle.es_changes.proofs.StillFits.{tree-start}

-- WHAT FITS

one-fits : (a : Moment) (n : Site) (b : Bool) (t : Tree) → FitsBy a n b (one t) → Fits a n t
one-fits a n b t h =
    let form = h.holds.at_one t h.formed in
    record { stands = h.stands; used = record { named = h.used.named; known = h.used.known }; sort = form.sort; slot = form.slot; formed = form.formed }

many-fit : (a : Moment) (n : Site) (b : Bool) (ts : Trees) → FitsBy a n b (many ts) → FitAll a n ts
many-fit a n b ts h =
    let form = h.holds.at_many ts h.formed in
    record { stands = h.stands; used = record { named = h.used.named; known = h.used.known }; sort = form.sort; last = form.last; no_slot = form.no_slot; formed = form.formed }

-- BODIES OF STATEMENTS stay such

-- what may stand where such a body does, and has scopes of `var` of its own, is one
same-sort : (s : Sort) (k : AstType) → is_of_sort s FunctionBody ≡ true → is_of_sort s k ≡ true → is_var_scope k ≡ true → k ≡ FunctionBody
same-sort s-FunctionBody FunctionBody e f v = refl
same-sort s-FunctionBody Program e f v = absurd (cc f)
same-sort s-FunctionBody StaticBlock e f v = absurd (cc f)
same-sort s-FunctionBody k e f v = absurd (cc v)
same-sort s-ArrowFunctionBody FunctionBody e f v = refl
same-sort s-ArrowFunctionBody Program e f v = absurd (cc f)
same-sort s-ArrowFunctionBody StaticBlock e f v = absurd (cc f)
same-sort s-ArrowFunctionBody k e f v = absurd (cc v)
same-sort s k e f v = absurd (cc e)

body-kind : (k : AstType) (l : Label) (fs : Fields) → is_statement_body (node k l fs) ≡ true → k ≡ FunctionBody
body-kind FunctionBody l fs e = refl
body-kind k l fs e = absurd (cc e)

kind-body : (k : AstType) (l : Label) (fs : Fields) → k ≡ FunctionBody → is_statement_body (node k l fs) ≡ true
kind-body k l fs e = subst (λ (k : AstType). is_statement_body (node k l fs) ≡ true) (sym e) refl

still-body : (s : Sort) (t u : Tree) → is_statement_body t ≡ true → has_form s t ≡ true → has_form s u ≡ true → is_var_scope (kind_of u) ≡ is_var_scope (kind_of t) → is_statement_body u ≡ true
still-body s (node k l fs) (node j m gs) e f g same =
    let is = body-kind k l fs e in
    let there = subst (λ (k : AstType). is_of_sort s k ≡ true) is (node_form s k l fs f).sort in
    kind-body j m gs (same-sort s j there (node_form s j m gs g).sort (same ∙ ap (λ k. is_var_scope k) is))

module _ (R : Site → Ledger → Spot → Ledger → Spot → Type 0) (lawful : IsLawfulRule R) (w : Whole) (n : Site) (a : Sort) (slot : is_slot n.above ≡ true → a ≡ s-Expression) where
  record BodyGoes (e : Whole) (s : Ledger) (t : Open) : Type 0 where
    goes : TreeGoes R lawful w n a e s t
    is_body : is_statement_body (finished t) ≡ true

  body-goes : (e : Whole) (s s' : Ledger) (t u : Open) → Recalled (whole_in s') e → BodyGoes e s t → Step R n s t s' u → BodyGoes e s' u
  body-goes e s s' t u r g h =
      let m = tree-goes R lawful w n a slot e s s' t u r g.goes h in
      record { goes = m; is_body = still-body a (finished t) (finished u) g.is_body g.goes.formed m.formed (tree-kind R lawful w n a e s s' t u r g.goes h) }

body-field : (b : Bool) (t : Open) → b ≡ true → child t ≡ (if b then child t else body nothing_pending t)
body-field true t e = refl
body-field false t e = absurd (cc e)

-- THE LAWS

module _ (R : Site → Ledger → Spot → Ledger → Spot → Type 0) (lawful : IsLawfulRule R) where
  statements-step : (a b : Moment) (n : Site) (t u : Tree) → is_statement_body t ≡ true → Fits a n t → Steps (Step R n) (ledger_at a) (opened t) (ledger_at b) (opened u) → Steps (FieldStep R n) (ledger_at a) (opened_field true (one t)) (ledger_at b) (opened_field true (one u))
  statements-step a b n t u e h row =
      let w = whole_at a in
      let recall = λ (s s' : Ledger) (t u : Open) (k : Step R n s t s' u). recalled R lawful.names lawful.writes k in
      let start : BodyGoes R lawful w n h.sort h.slot (whole_at b) (ledger_at a) (opened t) = record { goes = tree-start R lawful a b n t (row-recalled (Step R n) recall row) h; is_body = subst (λ (z : Tree). is_statement_body z ≡ true) (sym (finished-opened t)) e } in
      let after = row-keeps (Step R n) recall (BodyGoes R lawful w n h.sort h.slot) (body-goes R lawful w n h.sort h.slot) row (whole_at b) (recalled-none (whole_at b)) start in
      let still = subst (λ (z : Tree). is_statement_body z ≡ true) (finished-opened u) after.is_body in
      subst (λ (f : OpenField). Steps (FieldStep R n) (ledger_at a) f (ledger_at b) (opened_field true (one u))) (body-field (is_statement_body t) (opened t) e)
      (subst (λ (g : OpenField). Steps (FieldStep R n) (ledger_at a) (child (opened t)) (ledger_at b) g) (body-field (is_statement_body u) (opened u) still) (steps-map (λ x. child x) (λ s s' x y k. in_child k) row))

  many-step : (n : Site) (b : Bool) (s s' : Ledger) (ts us : Trees) → Steps (TreesStep R n) s (opened_trees ts) s' (opened_trees us) → Steps (FieldStep R n) s (opened_field b (many ts)) s' (opened_field b (many us))
  many-step n true s s' ts us row = steps-map (λ x. children x) (λ s s' x y k. in_children k) row
  many-step n false s s' ts us row = steps-map (λ x. children x) (λ s s' x y k. in_children k) row

pub field-laws : (R : Site → Ledger → Spot → Ledger → Spot → Type 0) → IsLawfulRule R → LawsOfField R
field-laws R lawful = record {
  one_fits = λ a n t h. one-fits a n false t h;
  one_steps = λ n s s' t u row. steps-map (λ x. child x) (λ s s' x y k. in_child k) row;
  statements_fit = λ a n t e h. one-fits a n true t h;
  statements_step = statements-step R lawful;
  many_fit = many-fit;
  many_step = many-step R lawful;
}
