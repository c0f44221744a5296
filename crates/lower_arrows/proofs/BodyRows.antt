-- Steps in the body of an arrow that is an expression are steps of the field where it stands.
use Rattle.std.proofs.Common.{◌≡◌, ◌∙◌, refl, sym, subst}
use Rattle.std.specs.Prelude.{false, true}
use Rattle.es_tree.specs.HasForm.{has_form}
use Rattle.es_tree.specs.Tree.{Tree}
use Rattle.es_tree.specs.declared.table.Sort.TheVariants.{ArrowFunctionBody as s-ArrowFunctionBody, Expression as s-Expression}
use Rattle.es_semantic.specs.RolesOf.{reads}
use Rattle.es_steps.specs.Open.{Open, Pending, body, finished, is_statement_body, opened}
use Rattle.es_steps.specs.Slots.{is_slot}
use Rattle.es_steps.specs.Steps.{FieldStep, Ledger, Site, Step, Steps, ledger, site_in_body}
use Rattle.es_steps.specs.Steps.FieldStep.{in_body}
use Rattle.es_steps.specs.Steps.Steps.{goes, stays}
use Rattle.es_steps.proofs.FormLists.{HasText}
use Rattle.es_steps.proofs.Opened.{finished-opened}
use Rattle.es_steps.proofs.Taken.{pending_in, this_in, top_in, whole_in}
use Rattle.es_changes.proofs.Expressions.{body-expression}
use Rattle.lower_arrows.specs.Lowered.{walk_rule}
use Rattle.lower_arrows.proofs.Rows.{alike-here, moved}
use Rattle.lower_arrows.proofs.WalkRules.{Formed, body-stays, formed-opened, formed-step, walk-nameless}

module _ (n : Site) (role : n.role ≡ reads) (slot : is_slot n.above ≡ true → s-ArrowFunctionBody ≡ s-Expression) (up : Pending) (tree : Tree) where
  -- the site before the first step
  abbrev first : Site
  first = site_in_body n up tree

  row-from : (o : Pending) {s s' : Ledger} {t u : Open} → Steps (Step walk_rule first) s t s' u → Formed s-ArrowFunctionBody s t → is_statement_body (finished t) ≡ false →
      Steps (FieldStep walk_rule n) (ledger (whole_in s) o (this_in s) (top_in s)) (body (pending_in s) t) (ledger (whole_in s') o (this_in s') (top_in s')) (body (pending_in s') u)
  row-from o stays f e = stays
  row-from o (goes {s = ledger w p x a} {s' = ledger w' q x' a'} {t = t} {u = u} h rest) f e =
      let g = formed-step s-ArrowFunctionBody slot h f in
      let d = body-stays h ∙ e in
      let site = site_in_body n p (finished t) in
      let there : Step walk_rule site (ledger w p x a) t (ledger w' q x' a') u = (moved walk_rule walk-nameless).step first site (ledger w p x a) (ledger w' q x' a') t u (alike-here first site refl refl refl) h in
      goes (in_body role (body-expression (finished t) f.form e) (body-expression (finished u) g.form d) there) (row-from o rest g d)

-- of a tree, as it is opened
pub body-row : (n : Site) → n.role ≡ reads → (is_slot n.above ≡ true → s-ArrowFunctionBody ≡ s-Expression) → (o up : Pending) {s s' : Ledger} (t u : Tree) → has_form s-ArrowFunctionBody t ≡ true → is_statement_body t ≡ false → HasText (this_in s) → Steps (Step walk_rule (site_in_body n up t)) s (opened t) s' (opened u) →
    Steps (FieldStep walk_rule n) (ledger (whole_in s) o (this_in s) (top_in s)) (body (pending_in s) (opened t)) (ledger (whole_in s') o (this_in s') (top_in s')) (body (pending_in s') (opened u))
body-row n role slot o up {s = s} t u f e h row = row-from n role slot up t o row (formed-opened s-ArrowFunctionBody s t f h) (subst (λ (z : Tree). is_statement_body z ≡ false) (sym (finished-opened t)) e)
