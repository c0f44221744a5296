-- The statements of a program fit, and steps of their list are steps of the program.
use Rattle.std.proofs.Common.{◌≡◌, ◌<◌, ℕ, refl, sym, ap, subst, ◌∙◌, arith, List, [], ◌∷◌, get_or}
use Rattle.std.specs.Prelude.{false, Option, None}
use Rattle.es_tree.specs.Tree.{node, Label, Field, done, ◌then◌, statements, Trees}
use Rattle.es_tree.specs.declared.ast_type.AstType.TheVariants.{Program}
use Rattle.es_scope.specs.declared.ancestor.Ancestor.{Ancestor}
use Rattle.es_resolution.specs.Declarations.{Bound}
use Rattle.es_steps.specs.Open.{Additions, OpenField, OpenFields, OpenTrees, Pending, ends, gap, child, body, children, list, is_body, no_additions, nothing_pending, open_node, opened_field, opened_fields, opened_trees, ◌and◌}
use Rattle.es_steps.specs.Steps.{FieldStep, FieldsStep, Ledger, Site, Spot, Step, Steps, site_in, the_program}
use Rattle.es_steps.specs.Steps.FieldsStep.{in_first, in_later}
use Rattle.es_changes.specs.Changes.{open_program, with_pending}
use Rattle.es_changes.specs.Fits.{FitInList, Fits, FitsBy}
use Rattle.es_changes.specs.Laws.{LawsOfProgram, SamePlace}
use Rattle.es_changes.specs.Moments.{Moment, inside_of, ledger_with, top}
use Rattle.es_changes.specs.Rules.{IsLawfulRule}
use Rattle.es_changes.proofs.FieldLaws.{fields-laws, row-beside}
use Rattle.es_changes.proofs.StepRows.{steps-map}
use Rattle.es_changes.proofs.TreeLaws.{list-fits}

-- the list of a program is its last field
pub with-last : (p q : Pending) (x : Option Bound) (a : Additions) (f : OpenField) (ts : OpenTrees) → with_pending p (f and (list q x a ts and ends)) ≡ (f and (list p x a ts and ends))
with-last p q x a gap ts = refl
with-last p q x a (child t) ts = refl
with-last p q x a (body o t) ts = refl
with-last p q x a (children us) ts = refl
with-last p q x a (list o y b us) ts = refl

module _ (R : Site → Ledger → Spot → Ledger → Spot → Type 0) (lawful : IsLawfulRule R) where
  fits : (a : Moment) (l : Label) (d : Field) (ts : Trees) (x : Ancestor) → x.kind ≡ Program → x.field ≡ 1 → Fits a the_program (node Program l (d then statements ts then done)) →
      FitInList (inside_of x a) (site_in the_program Program l (opened_fields (is_body Program) (d then statements ts then done)) 1) ts
  fits a l d ts x kind field h =
      let laws = fields-laws R lawful in
      let items : List Field = d ∷ (statements ts ∷ []) in
      let open_fields = opened_fields (is_body Program) (d then statements ts then done) in
      let first = laws.none the_program Program l a items h in
      let there = laws.inside the_program Program l a a items items x d first kind (subst (λ (i : ℕ). i < 2) (sym field) (omega arith)) in
      list-fits (inside_of x a) (site_in the_program Program l open_fields 1) false ts (subst (λ (i : ℕ). FitsBy (inside_of x a) (site_in the_program Program l open_fields i) (is_body Program i) (get_or items i d)) field there)

  steps : (a b : Moment) (l : Label) (d : Field) (ts us : Trees) → top a.lists ≡ nothing_pending → Fits a the_program (node Program l (d then statements ts then done)) → SamePlace a b →
      Steps (FieldStep R (site_in the_program Program l (opened_fields (is_body Program) (d then statements ts then done)) 1)) (ledger_with nothing_pending a) (list (top a.lists) None no_additions (opened_trees ts)) (ledger_with nothing_pending b) (list (top b.lists) None no_additions (opened_trees us)) →
      Steps (Step R the_program) (ledger_with nothing_pending a) (open_program (top a.lists) (node Program l (d then statements ts then done))) (ledger_with nothing_pending b) (open_program (top b.lists) (node Program l (d then statements us then done)))
  steps a b l d ts us none h place row =
      let fs = d then statements ts then done in
      let sites = site_in the_program Program l (opened_fields (is_body Program) fs) in
      let f = opened_field false d in
      let from = subst (λ (p : Pending). Steps (FieldStep R (sites 1)) (ledger_with nothing_pending a) (list p None no_additions (opened_trees ts)) (ledger_with nothing_pending b) (list (top b.lists) None no_additions (opened_trees us))) none row in
      let inner : Steps (FieldsStep R sites) (ledger_with nothing_pending a) (opened_fields (is_body Program) fs) (ledger_with nothing_pending b) (f and (list (top b.lists) None no_additions (opened_trees us) and ends)) = steps-map (λ g. f and (g and ends)) (λ s s' x y r. in_later (in_first r)) from in
      let whole = (row-beside R lawful a b nothing_pending nothing_pending the_program Program l fs (f and (list (top b.lists) None no_additions (opened_trees us) and ends)) h (record { vars = tt; lets = tt }) inner).0 in
      let start : (f and (list nothing_pending None no_additions (opened_trees ts) and ends)) ≡ with_pending (top a.lists) (opened_fields (is_body Program) fs) = sym (with-last nothing_pending nothing_pending None no_additions f (opened_trees ts)) ∙ ap (λ p. with_pending p (opened_fields (is_body Program) fs)) (sym none) in
      let end = sym (with-last (top b.lists) nothing_pending None no_additions f (opened_trees us)) in
      subst (λ (gs : OpenFields). Steps (Step R the_program) (ledger_with nothing_pending a) (open_node Program l gs) (ledger_with nothing_pending b) (open_program (top b.lists) (node Program l (d then statements us then done)))) start
      (subst (λ (gs : OpenFields). Steps (Step R the_program) (ledger_with nothing_pending a) (open_node Program l (opened_fields (is_body Program) fs)) (ledger_with nothing_pending b) (open_node Program l gs)) end whole)

pub program-laws : (R : Site → Ledger → Spot → Ledger → Spot → Type 0) → IsLawfulRule R → LawsOfProgram R
program-laws R lawful = record { fits = fits R lawful; steps = steps R lawful }
