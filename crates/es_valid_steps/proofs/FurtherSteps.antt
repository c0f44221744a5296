-- Steps of the core rules, of optional catch, namespace exports and object spread, and of rests in assignments keep form and the static rules of
-- places.
use Rattle.std.proofs.Common.{◌≡◌, inl, inr, sym, subst, ◌∙◌, List, []}
use Rattle.std.specs.Prelude.{Bool, true, false, is_some}
use Rattle.es_tree.specs.HasForm.{has_form}
use Rattle.es_tree.specs.Tree.{Tree, Trees, empty}
use Rattle.es_tree.specs.declared.options.EnvOptions.{EnvOptions}
use Rattle.es_tree.specs.declared.table.Sort.TheVariants.{Program as s-Program}
use Rattle.es_steps.specs.AllRules.{ObjectRule}
use Rattle.es_steps.specs.CoreRules.{rule_under, where_on}
use Rattle.es_steps.specs.NamespaceExports.{NamespaceRule}
use Rattle.es_steps.specs.Open.{Open, finished, flanks_with, opened}
use Rattle.es_steps.specs.OptionalCatch.{CatchRule}
use Rattle.es_steps.specs.RestAssignments.{RestAssignmentRule}
use Rattle.es_steps.specs.Rules.{either_rule}
use Rattle.es_steps.specs.Steps.{Ledger, Site, Spot, the_program, Step, Steps}
use Rattle.es_steps.specs.Steps.Spot.{at_beside, at_trees}
use Rattle.es_steps.specs.Steps.Steps.{stays, goes}
use Rattle.es_steps.proofs.BridgeInclusion.{all_under}
use Rattle.es_steps.proofs.CoreLaws.{rule-under-lawful}
use Rattle.es_steps.proofs.FormOpen.{IsProper, opened-proper}
use Rattle.es_steps.proofs.FormRules.{AtNodes, FormLawful, both-form, on-form, replaces-nodes, rule-under-form}
use Rattle.es_steps.proofs.FormSteps.{formed-after}
use Rattle.es_steps.proofs.Opened.{finished-opened}
use Rattle.es_valid_steps.specs.Laws.{LawFurtherForm, LawFurtherPlaces, with_further_rules}
use Rattle.es_valid_steps.specs.PlaceRules.{Keeps}
use Rattle.es_valid_steps.proofs.FurtherForms.{catch-form, catch-nodes, spread-form, spread-nodes}
use Rattle.es_valid_steps.proofs.FurtherRows.{catch-lawful, spread-lawful}
use Rattle.es_valid_steps.proofs.NamespaceRows.{ProgramLeft, program-left}
use Rattle.es_valid_steps.proofs.PlaceRows.{PlaceLawful, both-lawful, on-lawful, under-lawful}
use Rattle.es_valid_steps.proofs.PlaceSteps.{kept-after}
use Rattle.es_valid_steps.proofs.ProgramLists.{program-exported}
use Rattle.es_valid_steps.proofs.RestAssignmentForms.{rest-assignment-form}
use Rattle.es_valid_steps.proofs.RestAssignmentPlaces.{rest-assignment-lawful}
use Rattle.es_valid_steps.proofs.Spread.{finished-spread, spread, spread-opened}
use Rattle.es_valid_steps.proofs.SpreadSteps.{SameBoth, Went, spread-step}
use Rattle.es_valid_steps.proofs.SpreadSteps.Went.{moves, rests, leaves}
use Rattle.es_valid_steps.proofs.Visits.{law_places_proof}

-- THE RULES that put no statement beside another

abbrev pub alone : EnvOptions → Site → Ledger → Spot → Ledger → Spot → Type 0
alone o = either_rule (rule_under o) (either_rule (where_on o.es2019.optional_catch_binding CatchRule) (where_on (is_some o.es2018.object_rest_spread) ObjectRule))

pub alone-form : (o : EnvOptions) → FormLawful (alone o)
alone-form o = both-form (rule-under-form o) (both-form (on-form o.es2019.optional_catch_binding _ catch-form) (on-form (is_some o.es2018.object_rest_spread) _ (both-form spread-form rest-assignment-form)))

pub alone-lawful : (o : EnvOptions) → PlaceLawful (alone o)
alone-lawful o = both-lawful (under-lawful o) (both-lawful (on-lawful o.es2019.optional_catch_binding _ catch-lawful) (on-lawful (is_some o.es2018.object_rest_spread) _ (both-lawful spread-lawful rest-assignment-lawful)))

pub object-nodes : (n : Site) (s s' : Ledger) (x y : Spot) → ObjectRule n s x s' y → AtNodes x y
object-nodes n s s' x y (inl r) = spread-nodes n s s' x y r
object-nodes n s s' x y (inr r) = replaces-nodes RestAssignmentRule n s s' x y r

on-nodes : (b : Bool) (R : Site → Ledger → Spot → Ledger → Spot → Type 0) → ((n : Site) (s s' : Ledger) (x y : Spot) → R n s x s' y → AtNodes x y) → (n : Site) (s s' : Ledger) (x y : Spot) → where_on b R n s x s' y → AtNodes x y
on-nodes true R at n s s' x y r = at n s s' x y r
on-nodes false R at n s s' x y r = absurd r

pub alone-written : (o : EnvOptions) (n : Site) (s s' : Ledger) (t : Tree) (bs cs : List Tree) (us : Trees) → alone o n s (at_beside bs t cs) s' (at_trees us) → (s ≡ s') × (flanks_with bs t cs empty ≡ us)
alone-written o n s s' t bs cs us (inl r) = (rule-under-lawful o).unflanking n s s' t bs cs us r
alone-written o n s s' t bs cs us (inr (inl r)) = absurd (on-nodes o.es2019.optional_catch_binding CatchRule catch-nodes n s s' (at_beside bs t cs) (at_trees us) r)
alone-written o n s s' t bs cs us (inr (inr r)) = absurd (on-nodes (is_some o.es2018.object_rest_spread) ObjectRule object-nodes n s s' (at_beside bs t cs) (at_trees us) r)

-- the others lower namespace exports
on-exports : (b : Bool) (n : Site) (s : Ledger) (x : Spot) (s' : Ledger) (y : Spot) → where_on b NamespaceRule n s x s' y → NamespaceRule n s x s' y
on-exports true n s x s' y r = r
on-exports false n s x s' y r = absurd r

pub apart : (o : EnvOptions) (n : Site) (s : Ledger) (x : Spot) (s' : Ledger) (y : Spot) → with_further_rules o n s x s' y → either_rule (alone o) NamespaceRule n s x s' y
apart o n s x s' y (inl r) = inl (inl r)
apart o n s x s' y (inr (inl r)) = inl (inr (inl r))
apart o n s x s' y (inr (inr (inl r))) = inr (on-exports o.es2020.export_namespace_from n s x s' y r)
apart o n s x s' y (inr (inr (inr r))) = inl (inr (inr r))

-- STEPS

same-source : (t : Tree) → finished (spread (opened t)) ≡ t
same-source t = finished-spread (opened t) ∙ finished-opened t

module _ (o : EnvOptions) where
  one-step : {s s' : Ledger} {t u : Open} → Step (either_rule (alone o) NamespaceRule) the_program s t s' u → IsProper (spread t) → has_form s-Program (finished (spread t)) ≡ true → ProgramLeft (spread t) (spread u)
  one-step {s} {s'} {t} {u} h proper f = at (spread-step (alone o) NamespaceRule (alone-form o).no_flanks (alone-written o) h)
    where
      at : Went (Step (alone o) the_program s (spread t) s' (spread u)) (SameBoth s (spread t) s' (spread u)) (Step NamespaceRule the_program s t s' u) → ProgramLeft (spread t) (spread u)
      at (moves r) =
          let next = formed-after (alone o) (alone-form o) r s-Program (λ e. absurd (cc e)) proper f in
          record { proper = next.proper; formed = next.formed; keeps = λ g. (kept-after (alone o) (alone-form o) (alone-lawful o) r s-Program [] (λ e. absurd (cc e)) (λ e. absurd (cc e)) proper f g).keeps }
      at (rests e) = subst (λ (x : Open). ProgramLeft (spread t) x) e.1 (record { proper = proper; formed = f; keeps = λ g. g })
      at (leaves r) = program-left (program-exported r (subst (λ (x : Tree). has_form s-Program x ≡ true) (finished-spread t) f)) proper f

  in-a-row : {s s' : Ledger} {t u : Open} → Steps (Step (either_rule (alone o) NamespaceRule) the_program) s t s' u → IsProper (spread t) → has_form s-Program (finished (spread t)) ≡ true → ProgramLeft (spread t) (spread u)
  in-a-row stays proper f = record { proper = proper; formed = f; keeps = λ g. g }
  in-a-row (goes h rest) proper f =
      let a = one-step h proper f in
      let b = in-a-row rest a.proper a.formed in
      record { proper = b.proper; formed = b.formed; keeps = λ g. b.keeps (a.keeps g) }

  from-source : {s s' : Ledger} (t : Tree) {x : Open} → Steps (Step (with_further_rules o) the_program) s (opened t) s' x → has_form s-Program t ≡ true → ProgramLeft (spread (opened t)) (spread x)
  from-source t h f = in-a-row (all_under (with_further_rules o) (either_rule (alone o) NamespaceRule) (apart o) h) (subst (λ (x : Open). IsProper x) (sym (spread-opened t)) (opened-proper t)) (subst (λ (x : Tree). has_form s-Program x ≡ true) (sym (same-source t)) f)

-- THE LAWS

pub law_further_form_proof : LawFurtherForm
law_further_form_proof o t w w' x f steps = subst (λ (y : Tree). has_form s-Program y ≡ true) (finished-spread x) (from-source o t steps f).formed

pub law_further_places_proof : LawFurtherPlaces
law_further_places_proof o t w w' x f h steps =
    let kept = (from-source o t steps f).keeps (subst (λ (y : Tree). Keeps [] y) (sym (same-source t)) ((law_places_proof t).to_places h)) in
    (law_places_proof (finished x)).from_places (subst (λ (y : Tree). Keeps [] y) (finished-spread x) kept)
