-- Rows of steps of a lowering's rule: they keep form and what is a body of statements, and those in the body of an arrow that is an
-- expression are steps of the field where it stands.
use Rattle.std.proofs.Common.{◌≡◌, ◌∙◌, refl, sym, ap, subst}
use Rattle.std.specs.Prelude.{false, true}
use Rattle.es_tree.specs.HasForm.{has_form}
use Rattle.es_tree.specs.Tree.{Tree, Label, Fields, node}
use Rattle.es_tree.specs.declared.ast_type.AstType.{AstType}
use Rattle.es_tree.specs.declared.ast_type.AstType.TheVariants.{FunctionBody}
use Rattle.es_tree.specs.declared.table.Sort.{Sort}
use Rattle.es_tree.specs.declared.table.Sort.TheVariants.{ArrowFunctionBody as s-ArrowFunctionBody, Expression as s-Expression}
use Rattle.es_semantic.specs.RolesOf.{reads}
use Rattle.es_changes.proofs.Expressions.{body-expression}
use Rattle.es_steps.specs.Open.{Open, Pending, body, finished, finished_fields, is_statement_body, opened}
use Rattle.es_steps.specs.Slots.{is_slot}
use Rattle.es_steps.specs.Steps.{FieldStep, Ledger, Site, Spot, Step, Steps, ledger, site_in_body}
use Rattle.es_steps.specs.Steps.FieldStep.{in_body}
use Rattle.es_steps.specs.Steps.Step.{acts, inside}
use Rattle.es_steps.specs.Steps.Steps.{goes, stays}
use Rattle.es_steps.proofs.FormOpen.{IsProper, opened-proper}
use Rattle.es_steps.proofs.FormSteps.{formed-after}
use Rattle.es_steps.proofs.Opened.{finished-opened}
use Rattle.es_steps.proofs.Taken.{pending_in, this_in, top_in, whole_in}
use Rattle.lower_arrows.proofs.Rows.{alike-here, moved}
use Rattle.lower_nodes.specs.Nodes.{IsNodeRule}

pub same-node : (k : AstType) (l m : Label) (fs gs : Fields) → is_statement_body (node k m gs) ≡ is_statement_body (node k l fs)
same-node FunctionBody l m fs gs = refl
same-node _ l m fs gs = refl

module _ (R : Site → Ledger → Spot → Ledger → Spot → Type 0) (rule : IsNodeRule R) where
  -- FORM

  record Formed (a : Sort) (t : Open) : Type 0 where
    form : has_form a (finished t) ≡ true
    proper : IsProper t

  formed-step : {n : Site} {s s' : Ledger} {t u : Open} (a : Sort) → (is_slot n.above ≡ true → a ≡ s-Expression) → Step R n s t s' u → Formed a t → Formed a u
  formed-step a slot h f = let r = formed-after R rule.form h a slot f.proper f.form in record { form = r.formed; proper = r.proper }

  formed-row : {n : Site} {s s' : Ledger} {t u : Open} (a : Sort) → (is_slot n.above ≡ true → a ≡ s-Expression) → Steps (Step R n) s t s' u → Formed a t → Formed a u
  formed-row a slot stays f = f
  formed-row a slot (goes h rest) f = formed-row a slot rest (formed-step a slot h f)

  formed-opened : (a : Sort) (t : Tree) → has_form a t ≡ true → Formed a (opened t)
  formed-opened a t f = record { form = subst (λ (x : Tree). has_form a x ≡ true) (sym (finished-opened t)) f; proper = opened-proper t }

  -- of a tree after a row
  pub formed-tree : {n : Site} {s s' : Ledger} (a : Sort) (t u : Tree) → (is_slot n.above ≡ true → a ≡ s-Expression) → Steps (Step R n) s (opened t) s' (opened u) → has_form a t ≡ true → has_form a u ≡ true
  formed-tree a t u slot row f = subst (λ (x : Tree). has_form a x ≡ true) (finished-opened u) (formed-row a slot row (formed-opened a t f)).form

  -- BODIES

  body-stays : {n : Site} {s s' : Ledger} {t u : Open} → Step R n s t s' u → is_statement_body (finished u) ≡ is_statement_body (finished t)
  body-stays (acts {n = n} {s = s} {s' = s'} t u h) = ap is_statement_body (finished-opened u) ∙ rule.bodies n s s' t u h ∙ sym (ap is_statement_body (finished-opened t))
  body-stays (inside {k = k} {l = l} {fs = fs} {gs = gs} h) = same-node k l l (finished_fields fs) (finished_fields gs)

  module _ (n : Site) (role : n.role ≡ reads) (slot : is_slot n.above ≡ true → s-ArrowFunctionBody ≡ s-Expression) (up : Pending) (tree : Tree) where
    -- the site before the first step
    abbrev first : Site
    first = site_in_body n up tree

    row-from : (o : Pending) {s s' : Ledger} {t u : Open} → Steps (Step R first) s t s' u → Formed s-ArrowFunctionBody t → is_statement_body (finished t) ≡ false →
        Steps (FieldStep R n) (ledger (whole_in s) o (this_in s) (top_in s)) (body (pending_in s) t) (ledger (whole_in s') o (this_in s') (top_in s')) (body (pending_in s') u)
    row-from o stays f e = stays
    row-from o (goes {s = ledger w p x a} {s' = ledger w' q x' a'} {t = t} {u = u} h rest) f e =
        let g = formed-step s-ArrowFunctionBody slot h f in
        let d = body-stays h ∙ e in
        let site = site_in_body n p (finished t) in
        let there : Step R site (ledger w p x a) t (ledger w' q x' a') u = (moved R rule.nameless).step first site (ledger w p x a) (ledger w' q x' a') t u (alike-here first site refl refl refl) h in
        goes (in_body role (body-expression (finished t) f.form e) (body-expression (finished u) g.form d) there) (row-from o rest g d)

  -- of a tree, as it is opened
  pub body-row : (n : Site) → n.role ≡ reads → (is_slot n.above ≡ true → s-ArrowFunctionBody ≡ s-Expression) → (o up : Pending) {s s' : Ledger} (t u : Tree) → has_form s-ArrowFunctionBody t ≡ true → is_statement_body t ≡ false → Steps (Step R (site_in_body n up t)) s (opened t) s' (opened u) →
      Steps (FieldStep R n) (ledger (whole_in s) o (this_in s) (top_in s)) (body (pending_in s) (opened t)) (ledger (whole_in s') o (this_in s') (top_in s')) (body (pending_in s') (opened u))
  body-row n role slot o up t u f e row = row-from n role slot up t o row (formed-opened s-ArrowFunctionBody t f) (subst (λ (z : Tree). is_statement_body z ≡ false) (sym (finished-opened t)) e)
