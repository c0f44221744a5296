-- A part fits after steps of a lawful rule, where it did before.
use Rattle.std.proofs.Common.{◌≡◌, refl, sym, subst, List}
use Rattle.std.specs.Prelude.{true, None}
use Rattle.es_tree.specs.HasForm.{has_form, trees_form}
use Rattle.es_tree.specs.Tree.{Tree, Trees}
use Rattle.es_scope.specs.declared.ancestor.Ancestor.{Ancestor}
use Rattle.es_resolution.specs.Named.{Named, NamedAll}
use Rattle.es_steps.specs.CoreRules.{rule_under}
use Rattle.es_steps.specs.Identifiers.{Passes, PassesAll}
use Rattle.es_steps.specs.Open.{Open, OpenField, OpenTrees, Pending, list, no_additions, opened, opened_trees, pending_statements, whole_list}
use Rattle.es_steps.specs.Steps.{FieldStep, Ledger, Site, Spot, Step, Steps, TreesStep}
use Rattle.es_steps.proofs.FormLists.{IsPlain, after-rest, whole-formed}
use Rattle.es_steps.proofs.FormOpen.{opened-proper, opened-trees-proper}
use Rattle.es_steps.proofs.Opened.{finished-opened, finished-trees}
use Rattle.es_steps.proofs.Passed.{Recalled, recalled, recalled-all, recalled-by}
use Rattle.es_steps.proofs.Passing.{PassesPending, passes-less, passes-less-all, passes-whole, whole-passes}
use Rattle.es_changes.specs.Fits.{FitAll, FitInList, Fits, LeadTo, Stands, is_known, is_used}
use Rattle.es_changes.specs.Laws.{LawStillFits, SamePlace, StillFits}
use Rattle.es_changes.specs.Moments.{Moment, ledger_at, ledger_with, top, whole_at}
use Rattle.es_changes.specs.Rules.{IsLawfulRule}
use Rattle.es_changes.proofs.GoesOn.{Beside, ListGoes, TreeGoes, TreesGo, list-goes, row-keeps, row-recalled, tree-goes, trees-go}
use Rattle.es_changes.proofs.KnownNames.{UsesMore, is_in_use, known-later, list-named, lists-after, named-list, pending-less, recalled-none, top-plain, used-first, used-known, used-second}
use Rattle.es_changes.proofs.Lawful.{law_lawful_proof}

-- WHERE A PART STANDS, before and after

-- what is pending, with symbols as they are known in the end
known-pending : (a b : Moment) → Recalled (whole_at a) (whole_at b) → (p : Pending) → PassesPending (is_used (whole_at a)) p → PassesPending (is_known (whole_at b)) p
known-pending a b r p h = pending-less (is_known (whole_at a)) (is_known (whole_at b)) (known-later (whole_at a) (whole_at b) r) p (used-second (whole_at a) p h)

beside-first : (a b : Moment) (n : Site) → Recalled (whole_at a) (whole_at b) → Stands a n → Beside (whole_at a) (whole_at b) (ledger_at a)
beside-first a b n r h =
    let p = top-plain (whole_at a) a.lists h.pending in
    record { more = λ x d. d; passes = record { pending = known-pending a b r (top a.lists) p.1; this = tt; top = record { imports = tt; excluded = tt } }; used = used-first (whole_at a) (top a.lists) p.1; plain = p.0 }

stands-after : (a b : Moment) (n : Site) → Recalled (whole_at a) (whole_at b) → UsesMore (whole_at a) (whole_at b) → SamePlace a b → IsPlain (top b.lists) → PassesPending (is_in_use (whole_at b)) (top b.lists) → PassesPending (is_known (whole_at b)) (top b.lists) → Stands a n → Stands b n
stands-after a b n r more place plain used known h = record {
  place = subst (λ (up : List Ancestor). LeadTo up n) (sym place.around) h.place;
  asked = λ x e. more x (h.asked x e);
  pending = lists-after (whole_at a) (whole_at b) r more a.lists b.lists place.level h.pending plain (used-known (whole_at b) (top b.lists) plain used known);
}

-- a tree that fits, before steps
pub tree-start : (R : Site → Ledger → Spot → Ledger → Spot → Type 0) (law : IsLawfulRule R) (a b : Moment) (n : Site) (t : Tree) → Recalled (whole_at a) (whole_at b) → (f : Fits a n t) → TreeGoes R law (whole_at a) n f.sort (whole_at b) (ledger_at a) (opened t)
tree-start R law a b n t r f =
    let w = whole_at a in
    let e = whole_at b in
    record {
      beside = beside-first a b n r f.stands;
      named = subst (λ (z : Tree). Named w.in_use w.free_symbol n.role z) (sym (finished-opened t)) f.used.named;
      known = subst (λ (z : Tree). Passes (is_known e) z) (sym (finished-opened t)) (passes-less (is_known w) (is_known e) (known-later w e r) t f.used.known);
      proper = opened-proper t;
      formed = subst (λ (z : Tree). has_form f.sort z ≡ true) (sym (finished-opened t)) f.formed;
    }

module _ (R : Site → Ledger → Spot → Ledger → Spot → Type 0) (law : IsLawfulRule R) (a b : Moment) (n : Site) (place : SamePlace a b) where
  -- A TREE

  tree-fits : (t u : Tree) → Fits a n t → Steps (Step R n) (ledger_at a) (opened t) (ledger_at b) (opened u) → Fits b n u
  tree-fits t u f steps =
      let w = whole_at a in
      let e = whole_at b in
      let goes = TreeGoes R law w n f.sort in
      let recall = λ (s s' : Ledger) (t u : Open) (h : Step R n s t s' u). recalled R law.names law.writes h in
      let keep = tree-goes R law w n f.sort f.slot in
      let r = row-recalled (Step R n) recall steps in
      let start = tree-start R law a b n t r f in
      let end = row-keeps (Step R n) recall goes keep steps e (recalled-none e) start in
      record {
        stands = stands-after a b n r end.beside.more place end.beside.plain end.beside.used end.beside.passes.pending f.stands;
        used = record {
          named = subst (λ (z : Tree). Named e.in_use e.free_symbol n.role z) (finished-opened u) end.named;
          known = subst (λ (z : Tree). Passes (is_known e) z) (finished-opened u) end.known;
        };
        sort = f.sort;
        slot = f.slot;
        formed = subst (λ (z : Tree). has_form f.sort z ≡ true) (finished-opened u) end.formed;
      }

  -- SOME TREES

  trees-fit : (ts us : Trees) → FitAll a n ts → Steps (TreesStep R n) (ledger_at a) (opened_trees ts) (ledger_at b) (opened_trees us) → FitAll b n us
  trees-fit ts us f steps =
      let w = whole_at a in
      let e = whole_at b in
      let go = TreesGo R law w n f.sort f.last in
      let recall = λ (s s' : Ledger) (ts us : OpenTrees) (h : TreesStep R n s ts s' us). recalled-all R law.names law.writes h in
      let keep = trees-go R law w n f.sort f.last f.no_slot in
      let r = row-recalled (TreesStep R n) recall steps in
      let start : go e (ledger_at a) (opened_trees ts) = record {
        beside = beside-first a b n r f.stands;
        named = subst (λ (z : Trees). NamedAll w.in_use w.free_symbol n.role z) (sym (finished-trees ts)) f.used.named;
        known = subst (λ (z : Trees). PassesAll (is_known e) z) (sym (finished-trees ts)) (passes-less-all (is_known w) (is_known e) (known-later w e r) ts f.used.known);
        proper = opened-trees-proper ts;
        formed = subst (λ (z : Trees). trees_form f.sort f.last z ≡ true) (sym (finished-trees ts)) f.formed;
      } in
      let end = row-keeps (TreesStep R n) recall go keep steps e (recalled-none e) start in
      record {
        stands = stands-after a b n r end.beside.more place end.beside.plain end.beside.used end.beside.passes.pending f.stands;
        used = record {
          named = subst (λ (z : Trees). NamedAll e.in_use e.free_symbol n.role z) (finished-trees us) end.named;
          known = subst (λ (z : Trees). PassesAll (is_known e) z) (finished-trees us) end.known;
        };
        sort = f.sort;
        last = f.last;
        no_slot = f.no_slot;
        formed = subst (λ (z : Trees). trees_form f.sort f.last z ≡ true) (finished-trees us) end.formed;
      }

  -- A STATEMENT LIST

  list-fits : (o : Pending) (ts us : Trees) → FitInList a n ts → Steps (FieldStep R n) (ledger_with o a) (list (top a.lists) None no_additions (opened_trees ts)) (ledger_with o b) (list (top b.lists) None no_additions (opened_trees us)) → FitInList b n us
  list-fits o ts us f steps =
      let w = whole_at a in
      let e = whole_at b in
      let p = top-plain w a.lists f.stands.pending in
      let goes = ListGoes R law w n f.sort in
      let recall = λ (s s' : Ledger) (f g : OpenField) (h : FieldStep R n s f s' g). recalled-by R law.names law.writes h in
      let keep = list-goes R law w n f.sort f.declares f.no_slot in
      let r = row-recalled (FieldStep R n) recall steps in
      let start : goes e (ledger_with o a) (list (top a.lists) None no_additions (opened_trees ts)) = record {
        more = λ x d. d;
        this = refl;
        top = refl;
        named = subst (λ (z : Trees). NamedAll w.in_use w.free_symbol n.role (whole_list (top a.lists) None no_additions z)) (sym (finished-trees ts)) (list-named w n.role (top a.lists) ts p.0 p.1 f.used.named);
        known = subst (λ (z : Trees). PassesAll (is_known e) (whole_list (top a.lists) None no_additions z)) (sym (finished-trees ts)) (passes-whole (is_known e) (top a.lists) None no_additions ts (known-pending a b r (top a.lists) p.1) tt (record { imports = tt; excluded = tt }) (passes-less-all (is_known w) (is_known e) (known-later w e r) ts f.used.known));
        proper = (record { vars = p.0; this = refl; top = refl }, opened-trees-proper ts);
        formed = subst (λ (z : Trees). trees_form f.sort f.sort (whole_list (top a.lists) None no_additions z) ≡ true) (sym (finished-trees ts)) (whole-formed f.sort (top a.lists) None no_additions ts f.declares (record { vars = p.0; this = refl; top = refl }) f.formed);
      } in
      let end = row-keeps (FieldStep R n) recall goes keep steps e (recalled-none e) start in
      let plain = end.proper.0.vars in
      let named = named-list e n.role (top b.lists) us plain (subst (λ (z : Trees). NamedAll e.in_use e.free_symbol n.role (whole_list (top b.lists) None no_additions z)) (finished-trees us) end.named) in
      let known = whole-passes (is_known e) (top b.lists) None no_additions us (subst (λ (z : Trees). PassesAll (is_known e) (whole_list (top b.lists) None no_additions z)) (finished-trees us) end.known) in
      record {
        stands = stands-after a b n r end.more place plain named.0 known.0.0 f.stands;
        used = record { named = named.1; known = known.1 };
        sort = f.sort;
        declares = f.declares;
        no_slot = f.no_slot;
        formed = after-rest f.sort (pending_statements (top b.lists) None no_additions) us (subst (λ (z : Trees). trees_form f.sort f.sort (whole_list (top b.lists) None no_additions z) ≡ true) (finished-trees us) end.formed);
      }

pub still-fits : (R : Site → Ledger → Spot → Ledger → Spot → Type 0) → IsLawfulRule R → StillFits R
still-fits R law = record {
  tree = λ a b n t u place f steps. tree-fits R law a b n place t u f steps;
  trees = λ a b n ts us place f steps. trees-fit R law a b n place ts us f steps;
  list = λ a b n o ts us place f steps. list-fits R law a b n place o ts us f steps;
}

pub law_still_fits_proof : LawStillFits
law_still_fits_proof o = still-fits (rule_under o) (law_lawful_proof o)
