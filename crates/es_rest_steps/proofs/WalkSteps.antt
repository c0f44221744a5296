-- Steps of a walk that takes object rests, over a whole program: each is steps of the parts of its row, and where no `babelHelpers` is bound, which
-- the parts leave so, a step of the rows and steps of the rules of object rests.
use Rattle.std.proofs.Common.{◌≡◌, inl, inr, refl}
use Rattle.std.specs.Prelude.{None}
use Rattle.es_tree.specs.declared.table.Sort.TheVariants.{Program as s-Program}
use Rattle.es_changes.proofs.StepRows.{steps-trans}
use Rattle.es_steps.specs.ObjectRest.{SplitRule, TakesRest}
use Rattle.es_steps.specs.ObjectRest.SplitRule.{splits}
use Rattle.es_steps.specs.ObjectRest.TakesRest.{takes_rest}
use Rattle.es_steps.specs.Open.{Open}
use Rattle.es_steps.specs.Rules.{either_rule}
use Rattle.es_steps.specs.Steps.{Ledger, Site, Spot, Step, Steps, the_program}
use Rattle.es_steps.specs.Steps.Steps.{goes, stays}
use Rattle.es_steps.proofs.BridgeInclusion.{all_under, step_under}
use Rattle.es_steps.proofs.RulesWrite.{split-writes, takes-rest-writes}
use Rattle.es_steps.proofs.Splits.{split-lawful}
use Rattle.es_steps.proofs.Taken.{both-lawful, both-write}
use Rattle.es_steps.proofs.TakesRest.{takes-rest-lawful}
use Rattle.es_arrow_steps.proofs.Onward.{onward}
use Rattle.es_arrow_steps.proofs.RuleMoves.{ActsSo}
use Rattle.es_arrow_steps.proofs.RuleMoves.Moves.{declared_name, still}
use Rattle.es_valid_rests.specs.RestRules.{OutsidePart}
use Rattle.es_rest_rows.specs.RestParts.{PartsWhere}
use Rattle.es_rest_rows.specs.RestRows.{RestRow, RestWalkRow}
use Rattle.es_rest_rows.proofs.HelperNames.{helpers_name, unbound-passes}
use Rattle.es_rest_rows.proofs.HelperSteps.{Unbound, first-unbound, still-unbound}
use Rattle.es_rest_rows.proofs.PartsForm.{parts-bodies, parts-form, parts-local, rows-nodes}
use Rattle.es_rest_rows.proofs.RowsAmongRules.{parts-outside, row-parts}
use Rattle.es_rest_steps.specs.Laws.{LawRestParts, LawRestWalks, LawWalkParts}
use Rattle.es_rest_steps.proofs.FormedRows.{Formed, formed-opened, formed-row, tree-steps}
use Rattle.es_rest_steps.proofs.HelperSites.{parts-there, rows-there, step-there}

-- STEPS OF THE PARTS, whatever `babelHelpers` finds

abbrev unasked : Site → Type 0
unasked n = Unit {0}

part-steps : {s s' : Ledger} {t u : Open} → Step RestWalkRow the_program s t s' u → Formed s-Program t → Steps (Step (PartsWhere unasked) the_program) s t s' u
part-steps one f = tree-steps (PartsWhere unasked) (parts-form unasked) parts-local (parts-bodies unasked) RestWalkRow (rows-nodes unasked) (row-parts unasked) one s-Program (λ e. absurd (cc e)) f.proper f.form

formed-still : {s s' : Ledger} {t u : Open} → Steps (Step (PartsWhere unasked) the_program) s t s' u → Formed s-Program t → Formed s-Program u
formed-still steps f = formed-row (PartsWhere unasked) (parts-form unasked) parts-local (parts-bodies unasked) s-Program (λ e. absurd (cc e)) steps f

walk-parts : {s s' : Ledger} {t u : Open} → Steps (Step RestWalkRow the_program) s t s' u → Formed s-Program t → Steps (Step (PartsWhere unasked) the_program) s t s' u
walk-parts stays f = stays
walk-parts (goes one rest) f = let parts = part-steps one f in steps-trans parts (walk-parts rest (formed-still parts f))

pub law_walk_parts_proof : LawWalkParts
law_walk_parts_proof t w w' x form walk = walk-parts walk (formed-opened s-Program t form)

-- WHERE `babelHelpers` is bound nowhere, they are steps of the parts that ask for that

abbrev unbound : Site → Type 0
unbound n = n.names.scope helpers_name ≡ None

part-simple : (n : Site) (s : Ledger) (x : Spot) (s' : Ledger) (y : Spot) → PartsWhere unbound n s x s' y → either_rule SplitRule TakesRest n s x s' y
part-simple n s x s' y (inl r) = inl r.0.0
part-simple n s x s' y (inr (none, (takes_rest m l lp lr ls a ps c t it here used, binds))) = inr (takes_rest m l lp lr ls a ps c t it none used)

part-acts : ActsSo (PartsWhere unbound)
part-acts n s s' x y (inl ((splits m a c d es z free kind off, binds), out)) = record { moves = declared_name z free; list = tt }
part-acts n s s' x y (inr (none, (takes_rest m l lp lr ls a ps c t it here used, binds))) = record { moves = still; list = tt }

still-there : {s s' : Ledger} {t u : Open} → Step (PartsWhere unbound) the_program s t s' u → Unbound s t → Unbound s' u
still-there one h =
    still-unbound (either_rule SplitRule TakesRest) (both-lawful split-lawful takes-rest-lawful) (both-write split-writes takes-rest-writes) (onward (PartsWhere unbound) part-acts one).numbers (step_under (PartsWhere unbound) (either_rule SplitRule TakesRest) part-simple one) h

record There (s : Ledger) (t : Open) (s' : Ledger) (u : Open) : Type 0 where
  steps : Steps (Step (PartsWhere unbound) the_program) s t s' u
  after : Unbound s' u

there : {s s' : Ledger} {t u : Open} → Steps (Step (PartsWhere unasked) the_program) s t s' u → Unbound s t → There s t s' u
there stays h = record { steps = stays; after = h }
there (goes one rest) h =
    let part = step-there (PartsWhere unasked) (PartsWhere unbound) parts-there one refl h.names in
    let later = there rest (still-there part h) in
    record { steps = goes part later.steps; after = later.after }

-- THE ROWS, and the rules of object rests

record Walked (s : Ledger) (t : Open) (s' : Ledger) (u : Open) : Type 0 where
  rows : Steps (Step RestRow the_program) s t s' u
  parts : Steps (Step OutsidePart the_program) s t s' u

walked : {s s' : Ledger} {t u : Open} → Steps (Step RestWalkRow the_program) s t s' u → Unbound s t → Formed s-Program t → Walked s t s' u
walked stays h f = record { rows = stays; parts = stays }
walked (goes one rest) h f =
    let parts = part-steps one f in
    let here = there parts h in
    let later = walked rest here.after (formed-still parts f) in
    record {
      rows = goes (step-there RestWalkRow RestRow rows-there one refl h.names) later.rows;
      parts = steps-trans (all_under (PartsWhere unbound) OutsidePart parts-outside here.steps) later.parts;
    }

pub law_rest_walks_proof : LawRestWalks
law_rest_walks_proof t w w' x form bound none used walk = (walked walk (first-unbound w t used (unbound-passes t bound.class_names none)) (formed-opened s-Program t form)).rows

pub law_rest_parts_proof : LawRestParts
law_rest_parts_proof t w w' x form bound none used walk = (walked walk (first-unbound w t used (unbound-passes t bound.class_names none)) (formed-opened s-Program t form)).parts
