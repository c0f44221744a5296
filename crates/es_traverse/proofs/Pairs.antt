-- The moment inside a list, or inside the body of an arrow that is an expression: a type that keeps pairs has opened one for it; with
-- another nothing is pending, and what stands around serves.
use Rattle.std.proofs.Common.{◌∙◌, refl, sym, ap, subst, Bool, true, false}
use Rattle.std.specs.Prelude.{None, cond}
use Rattle.es_tree.specs.Tree.{Tree, Trees}
use Rattle.es_steps.specs.Open.{list, no_additions, nothing_pending, opened_trees}
use Rattle.es_steps.specs.Steps.{FieldStep, Ledger, Site, Spot, Steps}
use Rattle.es_changes.specs.Changes.{Level}
use Rattle.es_changes.specs.Fits.{FitInList, Fits, Stands}
use Rattle.es_changes.specs.Moments.{Moment, ledger_at, ledger_with, top, with_pair}
use Rattle.es_traverse.specs.Laws.{IsQuiet}

abbrev pub paired : Bool → Moment → Moment
paired keeps a = cond keeps (with_pair a) a

-- WHAT FITS with a pair of its own fits there

stands-around : (a : Moment) (n : Site) → Stands (with_pair a) n → Stands a n
stands-around a n h = record { place = h.place; asked = h.asked; pending = h.pending.1 }

pub paired-fits : (keeps : Bool) (a : Moment) (n : Site) (t : Tree) → Fits (with_pair a) n t → Fits (paired keeps a) n t
paired-fits true a n t f = f
paired-fits false a n t f = record { stands = stands-around a n f.stands; used = f.used; sort = f.sort; slot = f.slot; formed = f.formed }

pub paired-list : (keeps : Bool) (a : Moment) (n : Site) (ts : Trees) → FitInList (with_pair a) n ts → FitInList (paired keeps a) n ts
paired-list true a n ts f = f
paired-list false a n ts f = record { stands = stands-around a n f.stands; used = f.used; sort = f.sort; declares = f.declares; no_slot = f.no_slot; formed = f.formed }

-- STEPS of a list there are steps of the list beside what is pending around it, which stays
module _ {R : Site → Ledger → Spot → Ledger → Spot → Type 0} where
  pub paired-steps : (keeps : Bool) (n : Site) (a b : Moment) (ts us : Trees) → IsQuiet keeps a.lists → IsQuiet keeps b.lists → Level (paired keeps a).lists (paired keeps b).lists →
      Steps (FieldStep R n) (ledger_with (top a.lists) (paired keeps a)) (list (top (paired keeps a).lists) None no_additions (opened_trees ts)) (ledger_with (top a.lists) (paired keeps b)) (list (top (paired keeps b).lists) None no_additions (opened_trees us)) →
      Steps (FieldStep R n) (ledger_at a) (list nothing_pending None no_additions (opened_trees ts)) (ledger_at b) (list nothing_pending None no_additions (opened_trees us))
  paired-steps true n a b ts us quiet quiet' level rows =
      subst (λ q. Steps (FieldStep R n) (ledger_at a) (list nothing_pending None no_additions (opened_trees ts)) (ledger_with q b) (list nothing_pending None no_additions (opened_trees us))) (sym (ap top level.outer)) rows
  paired-steps false n a b ts us quiet quiet' level rows =
      let before = ap top (quiet refl) in
      let after = ap top (quiet' refl) in
      subst (λ q. Steps (FieldStep R n) (ledger_at a) (list nothing_pending None no_additions (opened_trees ts)) (ledger_with q b) (list nothing_pending None no_additions (opened_trees us))) (before ∙ sym after)
      (subst (λ q. Steps (FieldStep R n) (ledger_at a) (list nothing_pending None no_additions (opened_trees ts)) (ledger_with (top a.lists) b) (list q None no_additions (opened_trees us))) after
      (subst (λ q. Steps (FieldStep R n) (ledger_at a) (list q None no_additions (opened_trees ts)) (ledger_with (top a.lists) b) (list (top b.lists) None no_additions (opened_trees us))) before rows))
