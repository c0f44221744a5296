-- What stands in a field of a node fits at the site that it had before the first field was visited, and steps there are steps of the node.
use Rattle.std.proofs.Common.{◌≡◌, ◌<◌, ℕ, refl, sym, ap, subst, ◌∙◌, length, List, ◌∷◌, get_or, set}
use Rattle.std.specs.Prelude.{true, Option, None}
use Rattle.std.proofs.lemmas.List.{length-set}
use Rattle.es_tree.specs.Tree.{Tree, empty, node, Label, Fields, Field, fields}
use Rattle.es_tree.specs.Words.{Text}
use Rattle.es_tree.specs.declared.ast_type.AstType.{AstType}
use Rattle.es_scope.specs.declared.ancestor.Ancestor.{Ancestor}
use Rattle.es_resolution.specs.Named.{Named, NamedBy}
use Rattle.es_semantic.specs.RolesOf.{role_at}
use Rattle.es_semantic.specs.declared.place.Role.{Role}
use Rattle.es_steps.specs.Identifiers.{Passes, is_called}
use Rattle.es_steps.specs.Open.{OpenFields, Pending, finished_fields, is_body, no_additions, open_node, opened, opened_field, opened_fields}
use Rattle.es_steps.specs.Sites.{AreAlike}
use Rattle.es_steps.specs.Steps.{FieldStep, FieldsStep, Ledger, Site, Spot, Step, Steps, site_in}
use Rattle.es_steps.specs.Steps.Steps.{stays}
use Rattle.es_steps.proofs.LocalSteps.{steps-local}
use Rattle.es_steps.proofs.Opened.{finished-fields, finished-opened}
use Rattle.es_steps.proofs.Passed.{recalled-in}
use Rattle.es_steps.proofs.Passing.{PassesPending, passes-less, passes-whole}
use Rattle.es_steps.proofs.RowsInside.{rows-inside}
use Rattle.es_steps.proofs.Sites.{law_alike_proof}
use Rattle.es_changes.specs.Fits.{Fits, FitsBy, LeadTo, is_known}
use Rattle.es_changes.specs.Fits.LeadTo.{to_field}
use Rattle.es_changes.specs.Laws.{FieldsSoFar, LawsOfFields, SamePlace}
use Rattle.es_changes.specs.Moments.{Moment, inside_of, ledger_at, ledger_with, top, whole_at}
use Rattle.es_changes.specs.Rules.{IsLawfulRule, is_asked_for}
use Rattle.es_changes.proofs.FieldParts.{body-reads, fields-row, form-at, named-at, passes-at}
use Rattle.es_changes.proofs.GoesOn.{row-recalled}
use Rattle.es_changes.proofs.KnownNames.{known-called, known-later, pending-less, top-plain, used-second}
use Rattle.es_changes.proofs.StepRows.{steps-map, steps-trans}
use Rattle.es_changes.proofs.StillFits.{still-fits}

-- PLACES

pub same-place : (a : Moment) → SamePlace a a
same-place a = record { level = record { deep = refl; outer = refl }; around = refl }

pub same-place-then : {a b c : Moment} → SamePlace a b → SamePlace b c → SamePlace a c
same-place-then g h = record { level = record { deep = h.level.deep ∙ g.level.deep; outer = h.level.outer ∙ g.level.outer }; around = h.around ∙ g.around }

-- ROWS OF STEPS of the fields of a node that fits, at the sites that they have now

module _ (R : Site → Ledger → Spot → Ledger → Spot → Type 0) (lawful : IsLawfulRule R) where
  -- with what is pending beside
  pub row-beside : (a c : Moment) (p q : Pending) (n : Site) (k : AstType) (l : Label) (fs : Fields) (gs : OpenFields) → Fits a n (node k l fs) → PassesPending (is_known (whole_at a)) p → Steps (FieldsStep R (site_in n k l (opened_fields (is_body k) fs))) (ledger_with p a) (opened_fields (is_body k) fs) (ledger_with q c) gs →
      Steps (Step R n) (ledger_with p a) (opened (node k l fs)) (ledger_with q c) (open_node k l gs) × ((i : ℕ) → AreAlike is_asked_for (site_in n k l (opened_fields (is_body k) fs) i) (site_in n k l gs i))
  row-beside a c p q n k l fs gs h pending row =
      let r = row-recalled (FieldsStep R (site_in n k l (opened_fields (is_body k) fs))) (λ s s' x y h. recalled-in R lawful.names lawful.writes h) row in
      let less : (x : Text) (o : Option ℕ) → is_known (whole_at a) x o ≡ true → is_called c.called x o ≡ true = λ x o e. known-called (whole_at c) x o (known-later (whole_at a) (whole_at c) r x o e) in
      let named = subst (λ (t : Tree). Named a.in_use a.free_symbol n.role t) (sym (finished-opened (node k l fs))) h.used.named in
      let passes = subst (λ (t : Tree). Passes (is_called c.called) t) (sym (finished-opened (node k l fs))) (passes-less (is_known (whole_at a)) (is_called c.called) less (node k l fs) h.used.known) in
      let beside = passes-whole (is_called c.called) p None no_additions empty (pending-less (is_known (whole_at a)) (is_called c.called) less p pending) tt (record { imports = tt; excluded = tt }) tt in
      rows-inside is_asked_for R lawful.names lawful.writes lawful.local n k l (ledger_with p a) (ledger_with q c) (opened_fields (is_body k) fs) gs h.stands.asked named passes beside row

  node-row : (a c : Moment) (n : Site) (k : AstType) (l : Label) (fs : Fields) (gs : OpenFields) → Fits a n (node k l fs) → Steps (FieldsStep R (site_in n k l (opened_fields (is_body k) fs))) (ledger_at a) (opened_fields (is_body k) fs) (ledger_at c) gs →
      Steps (Step R n) (ledger_at a) (opened (node k l fs)) (ledger_at c) (open_node k l gs) × ((i : ℕ) → AreAlike is_asked_for (site_in n k l (opened_fields (is_body k) fs) i) (site_in n k l gs i))
  node-row a c n k l fs gs h row = row-beside a c (top a.lists) (top c.lists) n k l fs gs h (used-second (whole_at a) (top a.lists) (top-plain (whole_at a) a.lists h.stands.pending).1) row

-- FIELDS

module _ (R : Site → Ledger → Spot → Ledger → Spot → Type 0) (lawful : IsLawfulRule R) (n : Site) (k : AstType) (l : Label) where
  none : (a : Moment) (first : List Field) → Fits a n (node k l (fields first)) → FieldsSoFar R n k l a first a first
  none a first h = record { place = same-place a; count = refl; steps = stays; fits = h; alike = λ i. (law_alike_proof is_asked_for).reflexive (site_in n k l (opened_fields (is_body k) (fields first)) i) }

  inside : (a b : Moment) (first items : List Field) (x : Ancestor) (d : Field) → FieldsSoFar R n k l a first b items → x.kind ≡ k → x.field < length items →
      FitsBy (inside_of x b) (site_in n k l (opened_fields (is_body k) (fields first)) x.field) (is_body k x.field) (get_or items x.field d)
  inside a b first items x d h e lt =
      let before = opened_fields (is_body k) (fields first) in
      let role : role_at n.role k l (fields items) x.field ≡ (site_in n k l before x.field).role = ap (λ fs. role_at n.role k l fs x.field) (sym (finished-fields (is_body k) (fields items))) ∙ (h.alike x.field).role in
      let form = form-at n k l before items x.field d h.fits.sort lt h.fits.formed in
      record {
        stands = record { place = subst (λ q. LeadTo (x ∷ b.around) (site_in n q l before x.field)) e (to_field x l before h.fits.stands.place); asked = h.fits.stands.asked; pending = h.fits.stands.pending };
        used = record {
          named = subst (λ (r : Role). NamedBy b.in_use b.free_symbol r (get_or items x.field d)) role (named-at b.in_use b.free_symbol (role_at n.role k l (fields items)) items x.field d lt h.fits.used.named.1);
          known = passes-at (is_known (whole_at b)) items x.field d lt h.fits.used.known.1;
        };
        role = body-reads n.role k l (finished_fields before) x.field;
        test = form.test;
        holds = form.holds;
        formed = form.formed;
      }

  more : (a b c : Moment) (first items : List Field) (x : Ancestor) (d y : Field) → FieldsSoFar R n k l a first b items → x.kind ≡ k → x.field < length items → SamePlace b c →
      Steps (FieldStep R (site_in n k l (opened_fields (is_body k) (fields first)) x.field)) (ledger_at b) (opened_field (is_body k x.field) (get_or items x.field d)) (ledger_at c) (opened_field (is_body k x.field) y) → FieldsSoFar R n k l a first c (set items x.field y)
  more a b c first items x d y h e lt place steps =
      let before = opened_fields (is_body k) (fields first) in
      let now = opened_fields (is_body k) (fields items) in
      let here = steps-map (λ f. f) (λ s s' f g r. (steps-local (λ w. is_asked_for) R lawful.local).field (site_in n k l before x.field) (site_in n k l now x.field) s s' f g (h.alike x.field) r) steps in
      let row = node-row R lawful b c n k l (fields items) (opened_fields (is_body k) (fields (set items x.field y))) h.fits (fields-row R items x.field d y (is_body k) (site_in n k l now) lt here) in
      record {
        place = same-place-then h.place place;
        count = length-set items x.field y ∙ h.count;
        steps = steps-trans h.steps row.0;
        fits = (still-fits R lawful).tree b c n (node k l (fields items)) (node k l (fields (set items x.field y))) place h.fits row.0;
        alike = λ i. (law_alike_proof is_asked_for).transitive (site_in n k l before i) (site_in n k l now i) (site_in n k l (opened_fields (is_body k) (fields (set items x.field y))) i) (h.alike i) (row.1 i);
      }

pub fields-laws : (R : Site → Ledger → Spot → Ledger → Spot → Type 0) → IsLawfulRule R → LawsOfFields R
fields-laws R lawful = record {
  none = none R lawful;
  inside = inside R lawful;
  more = more R lawful;
}
