-- The nodes of a list fit, and their steps are steps of the list.
use Rattle.std.proofs.Common.{◌≡◌, ◌<◌, ℕ, zero, suc, refl, ◌∙◌, arith, length, List, [], ◌∷◌, get_or, set}
use Rattle.std.specs.Prelude.{Bool, true, false, Option, None}
use Rattle.std.proofs.lemmas.Bool.{and_parts}
use Rattle.std.proofs.lemmas.List.{length-set}
use Rattle.es_tree.specs.HasForm.{has_form, sort_before_trees, trees_form}
use Rattle.es_tree.specs.Tree.{Tree, Trees, statements, trees}
use Rattle.es_tree.specs.Words.{Text}
use Rattle.es_tree.specs.declared.table.Sort.{Sort}
use Rattle.es_resolution.specs.Declarations.{Bound}
use Rattle.es_resolution.specs.Named.{Named, NamedAll}
use Rattle.es_semantic.specs.declared.place.Role.{Role}
use Rattle.es_steps.specs.Identifiers.{Passes, PassesAll}
use Rattle.es_steps.specs.Open.{Additions, OpenTrees, Pending, list, no_additions, opened, opened_trees, ◌next◌}
use Rattle.es_steps.specs.Steps.{FieldStep, Ledger, Site, Spot, Step, Steps, TreesStep, is_program_list, is_target}
use Rattle.es_steps.specs.Steps.Ledger.{ledger}
use Rattle.es_steps.specs.Steps.FieldStep.{in_list, in_program, in_target}
use Rattle.es_steps.specs.Steps.Steps.{goes, stays}
use Rattle.es_steps.specs.Steps.TreesStep.{in_head, in_tail}
use Rattle.es_steps.proofs.FormLists.{plain-none}
use Rattle.es_steps.proofs.Taken.{pending_in, this_in, top_in, whole_in}
use Rattle.es_changes.specs.Fits.{FitAll, FitInList, Fits, FitsBy, is_known}
use Rattle.es_changes.specs.Laws.{LawsOfTrees, SamePlace, TreesSoFar}
use Rattle.es_changes.specs.Moments.{Moment, ledger_at, ledger_with, top, whole_at, with_pair}
use Rattle.es_changes.specs.Rules.{IsLawfulRule}
use Rattle.es_changes.proofs.FieldLaws.{same-place, same-place-then}
use Rattle.es_changes.proofs.StepRows.{steps-map, steps-trans}
use Rattle.es_changes.proofs.StillFits.{still-fits}

-- ONE NODE of a list

all-named : (u : Text → Bool) (free : ℕ) (r : Role) (xs : List Tree) (i : ℕ) (d : Tree) → i < length xs → NamedAll u free r (trees xs) → Named u free r (get_or xs i d)
all-named u free r [] i d l h = absurd (omega (arith, l))
all-named u free r (x ∷ xs) zero d l h = h.0
all-named u free r (x ∷ xs) (suc i) d l h = all-named u free r xs i d (omega (arith, l)) h.1

all-pass : (q : Text → Option ℕ → Bool) (xs : List Tree) (i : ℕ) (d : Tree) → i < length xs → PassesAll q (trees xs) → Passes q (get_or xs i d)
all-pass q [] i d l h = absurd (omega (arith, l))
all-pass q (x ∷ xs) zero d l h = h.0
all-pass q (x ∷ xs) (suc i) d l h = all-pass q xs i d (omega (arith, l)) h.1

record HasSort (t : Tree) : Type 0 where
  sort : Sort
  formed : has_form sort t ≡ true

sort-of : (a last : Sort) (xs : List Tree) (i : ℕ) (d : Tree) → i < length xs → trees_form a last (trees xs) ≡ true → HasSort (get_or xs i d)
sort-of a last [] i d l h = absurd (omega (arith, l))
sort-of a last (x ∷ xs) zero d l h = record { sort = sort_before_trees a last (trees xs); formed = (and_parts (has_form (sort_before_trees a last (trees xs)) x) (trees_form a last (trees xs)) h).0 }
sort-of a last (x ∷ xs) (suc i) d l h = sort-of a last xs i d (omega (arith, l)) (and_parts (has_form (sort_before_trees a last (trees xs)) x) (trees_form a last (trees xs)) h).1

trees-row : (R : Site → Ledger → Spot → Ledger → Spot → Type 0) {s s' : Ledger} {n : Site} (xs : List Tree) (i : ℕ) (d y : Tree) → i < length xs → Steps (Step R n) s (opened (get_or xs i d)) s' (opened y) → Steps (TreesStep R n) s (opened_trees (trees xs)) s' (opened_trees (trees (set xs i y)))
trees-row R [] i d y l h = absurd (omega (arith, l))
trees-row R (x ∷ xs) zero d y l h = steps-map (λ t. t next opened_trees (trees xs)) (λ s s' t u r. in_head r) h
trees-row R (x ∷ xs) (suc i) d y l h = steps-map (λ ts. opened x next ts) (λ s s' ts us r. in_tail r) (trees-row R xs i d y (omega (arith, l)) h)

-- STATEMENT LISTS

module _ (R : Site → Ledger → Spot → Ledger → Spot → Type 0) (n : Site) (o : Pending) where
  one-within : is_target n.above ≡ false → is_program_list n.above ≡ false → (y : Option Bound) (b : Additions) (s s' : Ledger) (ts us : OpenTrees) → TreesStep R n s ts s' us →
      FieldStep R n (ledger (whole_in s) o (this_in s) (top_in s)) (list (pending_in s) y b ts) (ledger (whole_in s') o (this_in s') (top_in s')) (list (pending_in s') y b us)
  one-within e d y b (ledger w p x a) (ledger w' q x' a') ts us h = in_list e d h

  row-within : is_target n.above ≡ false → is_program_list n.above ≡ false → (y : Option Bound) (b : Additions) {s s' : Ledger} {ts us : OpenTrees} → Steps (TreesStep R n) s ts s' us →
      Steps (FieldStep R n) (ledger (whole_in s) o (this_in s) (top_in s)) (list (pending_in s) y b ts) (ledger (whole_in s') o (this_in s') (top_in s')) (list (pending_in s') y b us)
  row-within e d y b stays = stays
  row-within e d y b (goes h r) = goes (one-within e d y b _ _ _ _ h) (row-within e d y b r)

  one-target : is_target n.above ≡ true → (x : Option Bound) (b : Additions) (s s' : Ledger) (ts us : OpenTrees) → TreesStep R n s ts s' us →
      FieldStep R n (ledger (whole_in s) o x (top_in s)) (list (pending_in s) (this_in s) b ts) (ledger (whole_in s') o x (top_in s')) (list (pending_in s') (this_in s') b us)
  one-target e x b (ledger w p y a) (ledger w' q y' a') ts us h = in_target e h

  row-target : is_target n.above ≡ true → (x : Option Bound) (b : Additions) {s s' : Ledger} {ts us : OpenTrees} → Steps (TreesStep R n) s ts s' us →
      Steps (FieldStep R n) (ledger (whole_in s) o x (top_in s)) (list (pending_in s) (this_in s) b ts) (ledger (whole_in s') o x (top_in s')) (list (pending_in s') (this_in s') b us)
  row-target e x b stays = stays
  row-target e x b (goes h r) = goes (one-target e x b _ _ _ _ h) (row-target e x b r)

  one-program : is_program_list n.above ≡ true → (x : Option Bound) (a : Additions) (s s' : Ledger) (ts us : OpenTrees) → TreesStep R n s ts s' us →
      FieldStep R n (ledger (whole_in s) o x a) (list (pending_in s) (this_in s) (top_in s) ts) (ledger (whole_in s') o x a) (list (pending_in s') (this_in s') (top_in s') us)
  one-program e x a (ledger w p y b) (ledger w' q y' b') ts us h = in_program e h

  row-program : is_program_list n.above ≡ true → (x : Option Bound) (a : Additions) {s s' : Ledger} {ts us : OpenTrees} → Steps (TreesStep R n) s ts s' us →
      Steps (FieldStep R n) (ledger (whole_in s) o x a) (list (pending_in s) (this_in s) (top_in s) ts) (ledger (whole_in s') o x a) (list (pending_in s') (this_in s') (top_in s') us)
  row-program e x a stays = stays
  row-program e x a (goes h r) = goes (one-program e x a _ _ _ _ h) (row-program e x a r)

  -- by the kind of list that stands here
  in-list : (a b : Moment) (ts us : Trees) → Steps (TreesStep R n) (ledger_at a) (opened_trees ts) (ledger_at b) (opened_trees us) → Steps (FieldStep R n) (ledger_with o a) (list (top a.lists) None no_additions (opened_trees ts)) (ledger_with o b) (list (top b.lists) None no_additions (opened_trees us))
  in-list a b ts us row = at (is_target n.above) refl (is_program_list n.above) refl
    where
      at : (v : Bool) → is_target n.above ≡ v → (w : Bool) → is_program_list n.above ≡ w → Steps (FieldStep R n) (ledger_with o a) (list (top a.lists) None no_additions (opened_trees ts)) (ledger_with o b) (list (top b.lists) None no_additions (opened_trees us))
      at v e true d = row-program d None no_additions row
      at true e false d = row-target e None no_additions row
      at false e false d = row-within e d None no_additions row

pub list-fits : (a : Moment) (n : Site) (b : Bool) (ts : Trees) → FitsBy a n b (statements ts) → FitInList a n ts
list-fits a n b ts h =
    let form = h.holds.at_statements ts h.formed in
    record { stands = h.stands; used = record { named = h.used.named; known = h.used.known }; sort = form.sort; declares = form.declares; no_slot = form.no_slot; formed = form.formed }

-- with a pair of its own
pair-fits : (a : Moment) (n : Site) (ts : Trees) → FitInList a n ts → FitInList (with_pair a) n ts
pair-fits a n ts h = record {
  stands = record { place = h.stands.place; asked = h.stands.asked; pending = ((plain-none, record { vars = tt; lets = tt }), h.stands.pending) };
  used = record { named = h.used.named; known = h.used.known };
  sort = h.sort;
  declares = h.declares;
  no_slot = h.no_slot;
  formed = h.formed;
}

inside-fits : (a : Moment) (n : Site) (ts : Trees) → FitInList a n ts → FitAll a n ts
inside-fits a n ts h = record { stands = h.stands; used = h.used; sort = h.sort; last = h.sort; no_slot = h.no_slot; formed = h.formed }

-- THE LAWS

module _ (R : Site → Ledger → Spot → Ledger → Spot → Type 0) (lawful : IsLawfulRule R) (n : Site) where
  inside : (a b : Moment) (first items : List Tree) (i : ℕ) (d : Tree) → TreesSoFar R n a first b items → i < length items → Fits b n (get_or items i d)
  inside a b first items i d h l =
      let form = sort-of h.fits.sort h.fits.last items i d l h.fits.formed in
      record {
        stands = h.fits.stands;
        used = record { named = all-named b.in_use b.free_symbol n.role items i d l h.fits.used.named; known = all-pass (is_known (whole_at b)) items i d l h.fits.used.known };
        sort = form.sort;
        slot = λ e. absurd (h.fits.no_slot e);
        formed = form.formed;
      }

  more : (a b c : Moment) (first items : List Tree) (i : ℕ) (d y : Tree) → TreesSoFar R n a first b items → i < length items → SamePlace b c → Steps (Step R n) (ledger_at b) (opened (get_or items i d)) (ledger_at c) (opened y) → TreesSoFar R n a first c (set items i y)
  more a b c first items i d y h l place steps =
      let row = trees-row R items i d y l steps in
      record {
        place = same-place-then h.place place;
        count = length-set items i y ∙ h.count;
        steps = steps-trans h.steps row;
        fits = (still-fits R lawful).trees b c n (trees items) (trees (set items i y)) place h.fits row;
      }

pub trees-laws : (R : Site → Ledger → Spot → Ledger → Spot → Type 0) → IsLawfulRule R → LawsOfTrees R
trees-laws R lawful = record {
  none = λ n a first h. record { place = same-place a; count = refl; steps = stays; fits = h };
  inside = inside R lawful;
  more = more R lawful;
  list_fits = λ a n b ts h. pair-fits a n ts (list-fits a n b ts h);
  inside_fits = inside-fits;
  inside_steps = λ a b n ts us h place row o. in-list R n o a b ts us row;
}
