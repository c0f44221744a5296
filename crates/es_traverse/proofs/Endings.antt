-- A program after the visit of its statements has form, and temporaries alone are pending for its list.
use Rattle.std.proofs.Common.{◌≡◌, ◌∙◌, refl, sym, ap, subst, Bool, true, false, true≢false}
use Rattle.std.specs.Prelude.{None}
use Rattle.std.proofs.lemmas.Bool.{and_parts, and_from}
use Rattle.es_tree.specs.HasForm.{has_form, is_of_sort}
use Rattle.es_tree.specs.Tree.{Tree, node, Label, Fields, missing, done, ◌then◌, Field, statements, Trees}
use Rattle.es_tree.specs.declared.ast_type.AstType.TheVariants.{Program}
use Rattle.es_tree.specs.declared.table.Sort.{Sort}
use Rattle.es_tree.specs.declared.table.Sort.TheVariants.{Expression as s-Expression, Program as s-Program, Statement as s-Statement}
use Rattle.es_tree.proofs.NodeForm.{node_form, has_form-node}
use Rattle.es_steps.specs.Open.{Open, OpenField, OpenFields, ends, gap, child, body, children, list, finished, finished_fields, finished_field, finished_trees, is_body, nothing_pending, no_additions, open_node, opened, opened_field, opened_fields, opened_trees, pending_statements, whole_list, Pending, ◌and◌}
use Rattle.es_steps.specs.Slots.{is_slot}
use Rattle.es_steps.specs.Steps.{Ledger, Site, Spot, Step, Steps, the_program}
use Rattle.es_steps.specs.Steps.Steps.{goes, stays}
use Rattle.es_steps.proofs.FormLists.{IsPlain, after-rest}
use Rattle.es_steps.proofs.FormOpen.{AreProperFields, IsProper, opened-proper}
use Rattle.es_steps.proofs.FormRules.{FormLawful}
use Rattle.es_steps.proofs.FormSteps.{formed-after}
use Rattle.es_steps.proofs.Opened.{finished-fields, finished-opened, finished-trees}
use Rattle.es_changes.specs.Changes.{open_program, with_pending}
use Rattle.es_changes.specs.Fits.{Fits}
use Rattle.es_changes.specs.Moments.{Moment, ledger_with, top}
use Rattle.es_changes.proofs.ProgramLaws.{with-last}
use Rattle.es_traverse.specs.Laws.{IsVisited}

-- what has the form of some sort and is a program has the form of a program
program-sort : (s : Sort) → is_of_sort s Program ≡ true → s ≡ s-Program
program-sort s-Program e = refl
program-sort _ e = absurd (cc e)

no-slot : is_slot the_program.above ≡ true → s-Program ≡ s-Expression
no-slot e = absurd (true≢false (sym e))

module _ (R : Site → Ledger → Spot → Ledger → Spot → Type 0) (law : FormLawful R) where
  formed-row : {s s' : Ledger} {x y : Open} → Steps (Step R the_program) s x s' y → IsProper x → has_form s-Program (finished x) ≡ true → IsProper y × (has_form s-Program (finished y) ≡ true)
  formed-row stays p f = (p, f)
  formed-row (goes h r) p f = let after = formed-after R law h s-Program no-slot p f in formed-row r after.proper after.formed

-- a program with what is pending for its list, and without it
last-plain : (p : Pending) (ds : OpenField) (us : Trees) → AreProperFields (is_body Program) (ds and (list p None no_additions (opened_trees us) and ends)) → IsPlain p
last-plain p ds us h = h.1.0.0.vars

abbrev first-of : Fields → Field
first-of (f then fs) = f
first-of done = missing

finished-first : (f : Field) → finished_field (opened_field false f) ≡ f
finished-first f = ap first-of (finished-fields (λ i. false) (f then done))

without : (p : Pending) (l : Label) (ds : Field) (us : Trees) → has_form s-Program (finished (open_node Program l (opened_field false ds and (list p None no_additions (opened_trees us) and ends)))) ≡ true → has_form s-Program (node Program l (ds then statements us then done)) ≡ true
without p l ds us h =
    let written = node_form s-Program Program l (finished_field (opened_field false ds) then statements (whole_list p None no_additions (finished_trees (opened_trees us))) then done) h in
    let first = and_parts _ _ written.children in
    has_form-node s-Program Program l (ds then statements us then done) (record {
      sort = written.sort;
      texts = written.texts;
      flags = written.flags;
      start = written.start;
      stop = written.stop;
      agree = refl;
      children = and_from _ _ (rw (sym (finished-first ds)) first.0) (and_from _ true (after-rest s-Statement (pending_statements p None no_additions) us (rw (sym (finished-trees us)) (and_parts _ true first.1).0)) refl);
    })

pub visited-program : (R : Site → Ledger → Spot → Ledger → Spot → Type 0) → FormLawful R → (a b : Moment) (l m : Label) (ds es : Field) (ts us : Trees) → top a.lists ≡ nothing_pending → Fits a the_program (node Program l (ds then statements ts then done)) →
    Steps (Step R the_program) (ledger_with nothing_pending a) (open_program (top a.lists) (node Program l (ds then statements ts then done))) (ledger_with nothing_pending b) (open_program (top b.lists) (node Program m (es then statements us then done))) →
    IsVisited b (node Program m (es then statements us then done))
visited-program R law a b l m ds es ts us none fits row =
    let t = node Program l (ds then statements ts then done) in
    let from : open_program (top a.lists) t ≡ opened t = ap (λ p. open_program p t) none ∙ ap (open_node Program l) (with-last nothing_pending nothing_pending None no_additions (opened_field false ds) (opened_trees ts)) in
    let into : open_program (top b.lists) (node Program m (es then statements us then done)) ≡ open_node Program m (opened_field false es and (list (top b.lists) None no_additions (opened_trees us) and ends)) = ap (open_node Program m) (with-last (top b.lists) nothing_pending None no_additions (opened_field false es) (opened_trees us)) in
    let formed : has_form s-Program t ≡ true = subst (λ s. has_form s t ≡ true) (program-sort fits.sort (node_form fits.sort Program l (ds then statements ts then done) fits.formed).sort) fits.formed in
    let after = formed-row R law row (subst IsProper (sym from) (opened-proper t)) (subst (λ x. has_form s-Program (finished x) ≡ true) (sym from) (subst (λ z. has_form s-Program z ≡ true) (sym (finished-opened t)) formed)) in
    record {
      formed = without (top b.lists) m es us (subst (λ x. has_form s-Program (finished x) ≡ true) into after.1);
      plain = last-plain (top b.lists) (opened_field false es) us (subst IsProper into after.0);
    }
