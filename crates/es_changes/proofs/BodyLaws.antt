-- The body of an arrow that is an expression fits with a pair of its own, and its steps are steps of the body with what is pending for it.
use Rattle.std.proofs.Common.{◌≡◌, refl, sym, subst, ◌∙◌}
use Rattle.std.specs.Prelude.{true, false}
use Rattle.es_tree.specs.HasForm.{has_form}
use Rattle.es_tree.specs.Tree.{Tree, node, Label, Fields, one, kind_of}
use Rattle.es_tree.specs.Words.{Text}
use Rattle.es_tree.specs.declared.ast_type.AstType.{AstType}
use Rattle.es_tree.specs.declared.ast_type.AstType.TheVariants.{FunctionBody}
use Rattle.es_tree.specs.declared.table.Sort.{Sort}
use Rattle.es_tree.specs.declared.table.Sort.TheVariants.{ArrowFunctionBody as s-ArrowFunctionBody, Expression as s-Expression}
use Rattle.es_resolution.specs.Declarations.{is_var_scope}
use Rattle.es_resolution.specs.Named.{Named}
use Rattle.es_semantic.specs.RolesOf.{reads}
use Rattle.es_semantic.specs.declared.place.Role.{Role}
use Rattle.es_steps.specs.Open.{Open, Pending, body, ends, finished, is_statement_body, nothing_pending, opened, written_body, ◌and◌}
use Rattle.es_steps.specs.Sites.{AreAlike}
use Rattle.es_steps.specs.Slots.{is_slot}
use Rattle.es_steps.specs.Steps.{FieldStep, FieldsStep, Ledger, Site, Spot, Step, Steps, Whole, site_in_body}
use Rattle.es_steps.specs.Steps.Ledger.{ledger}
use Rattle.es_steps.specs.Steps.FieldStep.{in_body}
use Rattle.es_steps.specs.Steps.FieldsStep.{in_first}
use Rattle.es_steps.specs.Steps.Steps.{goes, stays}
use Rattle.es_steps.proofs.FormLists.{plain-none}
use Rattle.es_steps.proofs.LocalSteps.{steps-local}
use Rattle.es_steps.proofs.Opened.{finished-opened}
use Rattle.es_steps.proofs.Passed.{Recalled, recalled}
use Rattle.es_steps.proofs.Passing.{passes-body}
use Rattle.es_steps.proofs.Sites.{law_alike_on_fewer_proof, law_alike_proof}
use Rattle.es_steps.proofs.SitesStay.{sites-stay}
use Rattle.es_steps.proofs.Taken.{pending_in, taken-in, this_in, top_in, whole_in}
use Rattle.es_changes.specs.Fits.{Fits, FitsBy, FitsInBody, is_known}
use Rattle.es_changes.specs.Fits.LeadTo.{to_body}
use Rattle.es_changes.specs.Laws.{LawsOfBody, SamePlace}
use Rattle.es_changes.specs.Moments.{Moment, ledger_at, ledger_with, top, whole_at, with_pair}
use Rattle.es_changes.specs.Rules.{IsLawfulRule, is_asked_for}
use Rattle.es_changes.proofs.Expressions.{body-expression}
use Rattle.es_changes.proofs.GoesOn.{TreeGoes, row-recalled, tree-goes, tree-kind}
use Rattle.es_changes.proofs.KnownNames.{called-in, recalled-both, recalled-none}
use Rattle.es_changes.proofs.StillFits.{still-fits, tree-start}

-- AN EXPRESSION stays one

expression-kind : (k : AstType) (l : Label) (fs : Fields) → is_var_scope k ≡ false → is_statement_body (node k l fs) ≡ false
expression-kind FunctionBody l fs e = absurd (cc e)
expression-kind k l fs e = refl

no-statements : (t : Tree) → is_var_scope (kind_of t) ≡ false → is_statement_body t ≡ false
no-statements (node k l fs) e = expression-kind k l fs e

module _ (R : Site → Ledger → Spot → Ledger → Spot → Type 0) (lawful : IsLawfulRule R) (n : Site) (role : n.role ≡ reads) (slot : is_slot n.above ≡ true → s-ArrowFunctionBody ≡ s-Expression) (w : Whole) (asked : (x : Text) → is_asked_for x ≡ true → w.in_use x ≡ true) (up : Pending) (tree : Tree) where
  -- the site before the first step
  abbrev first : Site
  first = site_in_body n up tree

  -- before a step: where names are known in the end
  record Here (e : Whole) (s : Ledger) (t : Open) : Type 0 where
    goes : TreeGoes R lawful w first s-ArrowFunctionBody e s t
    alike : AreAlike is_asked_for first (site_in_body n (pending_in s) (finished t))
    written : Named (whole_in s).in_use (whole_in s).free_symbol n.role (written_body (pending_in s) (finished t))
    expression : is_statement_body (finished t) ≡ false

  record Next (e : Whole) (o : Pending) (s : Ledger) (t : Open) (s' : Ledger) (u : Open) : Type 0 where
    here : Here e s' u
    step : FieldStep R n (ledger (whole_in s) o (this_in s) (top_in s)) (body (pending_in s) t) (ledger (whole_in s') o (this_in s') (top_in s')) (body (pending_in s') u)

  next : (e : Whole) (o : Pending) (s s' : Ledger) (t u : Open) → Recalled (whole_in s') e → Here e s t → Step R first s t s' u → Next e o s t s' u
  next e o (ledger v p x a) (ledger v' q x' a') t u r g h =
      let s = ledger v p x a in
      let s' = ledger v' q x' a' in
      let site = site_in_body n p (finished t) in
      let m = tree-goes R lawful w first s-ArrowFunctionBody slot e s s' t u r g.goes h in
      let before = body-expression (finished t) g.goes.formed g.expression in
      let still = no-statements (finished u) (tree-kind R lawful w first s-ArrowFunctionBody e s s' t u r g.goes h ∙ before.no_body) in
      let after = body-expression (finished u) m.formed still in
      let there : Step R site s t s' u = (steps-local (λ v. is_asked_for) R lawful.local).step first site s s' t u g.alike h in
      let step : FieldStep R n (ledger v o x a) (body p t) (ledger v' o x' a') (body q u) = in_body role before after there in
      let known = passes-body (is_known e) p.vars p.lets (finished t) g.goes.beside.passes.pending.vars g.goes.beside.passes.pending.lets g.goes.known in
      let called = called-in v e (recalled-both v v' e (recalled R lawful.names lawful.writes h) r) n.role (written_body p (finished t)) g.written known in
      let field : FieldsStep R (λ i. n) (ledger v o x a) (body p t and ends) (ledger v' o x' a') (body q u and ends) = in_first step in
      let k = taken-in R lawful.names lawful.writes field ((g.written, tt), (called, tt)) in
      let named = subst (λ (r : Role). Named v.in_use v.free_symbol r (written_body p (finished t))) role g.written in
      let stays_alike = (sites-stay R lawful.names lawful.writes).in_body n v v' p q x x' a a' t u before after (record { named = named; called = called }) there in
      let alike = law_alike_on_fewer_proof v.in_use is_asked_for site (site_in_body n q (finished u)) (λ y d. g.goes.beside.more y (asked y d)) stays_alike in
      record { here = record { goes = m; alike = (law_alike_proof is_asked_for).transitive first site (site_in_body n q (finished u)) g.alike alike; written = k.kept.named.0; expression = still }; step = step }

  record Row (e : Whole) (o : Pending) (s : Ledger) (t : Open) (s' : Ledger) (u : Open) : Type 0 where
    here : Here e s' u
    steps : Steps (FieldStep R n) (ledger (whole_in s) o (this_in s) (top_in s)) (body (pending_in s) t) (ledger (whole_in s') o (this_in s') (top_in s')) (body (pending_in s') u)

  body-row : (e : Whole) (o : Pending) {s s' : Ledger} {t u : Open} → Steps (Step R first) s t s' u → Recalled (whole_in s') e → Here e s t → Row e o s t s' u
  body-row e o stays r g = record { here = g; steps = stays }
  body-row e o (goes {s = s} {s' = m} {s'' = s'} {t = t} {u = u} h rest) r g =
      let rs = row-recalled (Step R first) (λ s s' t u k. recalled R lawful.names lawful.writes k) rest in
      let one-more = next e o s m t u (recalled-both (whole_in m) (whole_in s') e rs r) g h in
      let row = body-row e o rest r one-more.here in
      record { here = row.here; steps = goes one-more.step row.steps }

-- THE LAWS

module _ (R : Site → Ledger → Spot → Ledger → Spot → Type 0) (lawful : IsLawfulRule R) where
  fits : (a : Moment) (n : Site) (t : Tree) → is_statement_body t ≡ false → FitsBy a n true (one t) → Fits (with_pair a) (site_in_body n nothing_pending t) t
  fits a n t e h =
      let form = h.holds.at_one t h.formed in
      record {
        stands = record { place = to_body nothing_pending t h.stands.place; asked = h.stands.asked; pending = ((plain-none, record { vars = tt; lets = tt }), h.stands.pending) };
        used = record { named = subst (λ (r : Role). Named a.in_use a.free_symbol r t) (h.role refl) h.used.named; known = h.used.known };
        sort = form.sort;
        slot = form.slot;
        formed = form.formed;
      }

  steps : (a b : Moment) (n : Site) (t u : Tree) → is_statement_body t ≡ false → FitsBy a n true (one t) → SamePlace (with_pair a) b → Steps (Step R (site_in_body n nothing_pending t)) (ledger_at (with_pair a)) (opened t) (ledger_at b) (opened u) → (o : Pending) →
      Steps (FieldStep R n) (ledger_with o a) (body nothing_pending (opened t)) (ledger_with o b) (body (top b.lists) (opened u)) × FitsInBody b n u
  unfolding fits
  steps a b n t u e h place row o =
      let form = h.holds.at_one t h.formed in
      let arrow = form.arrow refl in
      let role = h.role refl in
      let first = site_in_body n nothing_pending t in
      let same = sym (finished-opened t) in
      let c = with_pair a in
      let f = fits a n t e h in
      let r = row-recalled (Step R first) (λ s s' t u k. recalled R lawful.names lawful.writes k) row in
      let found = body-row R lawful n role (λ d. sym arrow ∙ form.slot d) (whole_at c) h.stands.asked nothing_pending t (whole_at b) o row (recalled-none (whole_at b)) (record {
        goes = subst (λ (z : Sort). TreeGoes R lawful (whole_at c) first z (whole_at b) (ledger_at c) (opened t)) arrow (tree-start R lawful c b first t r f);
        alike = subst (λ (z : Tree). AreAlike is_asked_for first (site_in_body n nothing_pending z)) same ((law_alike_proof is_asked_for).reflexive first);
        written = subst (λ (z : Tree). Named a.in_use a.free_symbol n.role z) same h.used.named;
        expression = subst (λ (z : Tree). is_statement_body z ≡ false) same e;
      }) in
      let after = (still-fits R lawful).tree c b first t u place f row in
      let back = finished-opened u in (
        found.steps,
        record {
          role = role;
          pending = after.stands.pending;
          used = after.used;
          expression = subst (λ (z : Tree). is_statement_body z ≡ false) back found.here.expression;
          formed = subst (λ (z : Tree). has_form s-ArrowFunctionBody z ≡ true) back found.here.goes.formed;
        },
      )

pub body-laws : (R : Site → Ledger → Spot → Ledger → Spot → Type 0) → IsLawfulRule R → LawsOfBody R
body-laws R lawful = record { fits = fits R lawful; steps = steps R lawful }
