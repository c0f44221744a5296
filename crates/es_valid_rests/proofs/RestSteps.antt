-- Steps of the core rules, of optional catch, namespace exports, object spread and object rests keep form and the static rules of places.
use Rattle.std.proofs.Common.{◌≡◌, inl, inr, sym, subst, ◌∙◌, List, []}
use Rattle.std.specs.Prelude.{◌⊎◌, Bool, true, false, is_some}
use Rattle.es_tree.specs.Ancestors.{Ancestor}
use Rattle.es_tree.specs.HasForm.{has_form}
use Rattle.es_tree.specs.Tree.{Tree, Trees, empty}
use Rattle.es_tree.specs.declared.options.EnvOptions.{EnvOptions}
use Rattle.es_tree.specs.declared.table.Sort.{Sort}
use Rattle.es_tree.specs.declared.table.Sort.TheVariants.{Program as s-Program}
use Rattle.es_steps.specs.CoreRules.{where_on}
use Rattle.es_steps.specs.NamespaceExports.{NamespaceRule}
use Rattle.es_steps.specs.Open.{Open, finished, flanks_with, opened}
use Rattle.es_steps.specs.Rules.{either_rule}
use Rattle.es_steps.specs.Steps.{Ledger, Site, Spot, the_program, Step, Steps}
use Rattle.es_steps.specs.Steps.Spot.{at_beside, at_node, at_trees}
use Rattle.es_steps.specs.Steps.Steps.{stays, goes}
use Rattle.es_steps.proofs.BridgeInclusion.{all_under}
use Rattle.es_steps.proofs.FormOpen.{IsProper, opened-proper}
use Rattle.es_steps.proofs.FormRules.{AtNodes, FormLawful, both-form, on-form}
use Rattle.es_steps.proofs.FormSteps.{formed-after}
use Rattle.es_steps.proofs.Opened.{finished-opened}
use Rattle.es_steps.specs.FormLaws.{StepsKeepForm}
use Rattle.es_valid_steps.specs.Laws.{StepsKeepPlaces}
use Rattle.es_valid_steps.specs.PlaceRules.{Keeps}
use Rattle.es_valid_steps.proofs.FurtherSteps.{alone, alone-form, alone-lawful, alone-written, apart}
use Rattle.es_valid_steps.proofs.NamespaceRows.{ProgramLeft, program-left}
use Rattle.es_valid_steps.proofs.PlaceSteps.{kept-after}
use Rattle.es_valid_steps.proofs.ProgramLists.{program-exported}
use Rattle.es_valid_steps.proofs.Spread.{finished-spread, spread, spread-opened}
use Rattle.es_valid_steps.proofs.SpreadSteps.{SameBoth, Went, spread-step}
use Rattle.es_valid_steps.proofs.SpreadSteps.Went.{moves, rests, leaves}
use Rattle.es_valid_steps.proofs.Visits.{law_places_proof}
use Rattle.es_valid_rests.specs.Laws.{LawRestForm, LawRestPlaces, with_rests}
use Rattle.es_valid_rests.specs.RestRules.{RestPart}
use Rattle.es_valid_rests.proofs.FacedSteps.{FaceLawful, NodeFaced, faced-after}
use Rattle.es_valid_rests.proofs.OneOf.{one-of}
use Rattle.es_valid_rests.proofs.RestForms.{catch-rest-form, head-rest-form, target-head-form}
use Rattle.es_valid_rests.proofs.RestFormsDeclared.{split-form, takes-form}
use Rattle.es_valid_rests.proofs.RestFormsMoved.{parameter-form}
use Rattle.es_valid_rests.proofs.RestPlacesDeclared.{takes-faced}
use Rattle.es_valid_rests.proofs.RestPlacesFunctions.{parameter-faced}
use Rattle.es_valid_rests.proofs.RestPlacesHeads.{head-rest-faced, target-head-faced}
use Rattle.es_valid_rests.proofs.RestPlacesMoved.{catch-rest-faced}
use Rattle.es_valid_rests.proofs.RestPlacesSplits.{split-faced}

-- RULES TOGETHER

pub both-faced : {Q R : Site → Ledger → Spot → Ledger → Spot → Type 0} → FaceLawful Q → FaceLawful R → FaceLawful (either_rule Q R)
both-faced {Q} {R} q r = record { at_nodes = at; leaves = left }
  where
    at : (n : Site) (s s' : Ledger) (x y : Spot) → either_rule Q R n s x s' y → AtNodes x y
    at n s s' x y (inl h) = q.at_nodes n s s' x y h
    at n s s' x y (inr h) = r.at_nodes n s s' x y h

    left : (n : Site) (s s' : Ledger) (t u : Tree) (a : Sort) (up : List Ancestor) → either_rule Q R n s (at_node t) s' (at_node u) → has_form a t ≡ true → Keeps up t → NodeFaced up s s' t u
    left n s s' t u a up (inl h) f g = q.leaves n s s' t u a up h f g
    left n s s' t u a up (inr h) f g = r.leaves n s s' t u a up h f g

pub on-faced : (b : Bool) (R : Site → Ledger → Spot → Ledger → Spot → Type 0) → FaceLawful R → FaceLawful (where_on b R)
on-faced true R h = h
on-faced false R h = record { at_nodes = λ n s s' x y d. absurd d; leaves = λ n s s' t u a up d f g. absurd d }

-- THE RULES that put no statement beside another, those of object rests among them

same-source : (t : Tree) → finished (spread (opened t)) ≡ t
same-source t = finished-spread (opened t) ∙ finished-opened t

-- a part of the rules of object rests
module _ (Q : Site → Ledger → Spot → Ledger → Spot → Type 0) (form : FormLawful Q) (faced : FaceLawful Q) (o : EnvOptions) where
  abbrev pub asked : Site → Ledger → Spot → Ledger → Spot → Type 0
  asked = where_on (is_some o.es2018.object_rest_spread) Q

  abbrev pub rests_alone : Site → Ledger → Spot → Ledger → Spot → Type 0
  rests_alone = either_rule (alone o) asked

  asked-faced : FaceLawful asked
  asked-faced = on-faced (is_some o.es2018.object_rest_spread) Q faced

  pub rests-form : FormLawful rests_alone
  rests-form = both-form (alone-form o) (on-form (is_some o.es2018.object_rest_spread) Q form)

  pub rests-written : (n : Site) (s s' : Ledger) (t : Tree) (bs cs : List Tree) (us : Trees) → rests_alone n s (at_beside bs t cs) s' (at_trees us) → (s ≡ s') × (flanks_with bs t cs empty ≡ us)
  rests-written n s s' t bs cs us (inl r) = alone-written o n s s' t bs cs us r
  rests-written n s s' t bs cs us (inr r) = absurd (asked-faced.at_nodes n s s' (at_beside bs t cs) (at_trees us) r)

  -- the others lower namespace exports
  pub rests-apart : (n : Site) (s : Ledger) (x : Spot) (s' : Ledger) (y : Spot) → with_rests Q o n s x s' y → either_rule (rests_alone) NamespaceRule n s x s' y
  rests-apart n s x s' y (inl r) = at (apart o n s x s' y r)
    where
      at : either_rule (alone o) NamespaceRule n s x s' y → either_rule (rests_alone) NamespaceRule n s x s' y
      at (inl r) = inl (inl r)
      at (inr r) = inr r
  rests-apart n s x s' y (inr r) = inl (inr r)

  -- STEPS

  kept : {s s' : Ledger} {t u : Open} → Step (rests_alone) the_program s t s' u → IsProper t → has_form s-Program (finished t) ≡ true → Keeps [] (finished t) → Keeps [] (finished u)
  kept {s} {s'} {t} {u} r proper f g = at (one-of (alone o) (asked) r)
    where
      at : Step (alone o) the_program s t s' u ⊎ Step (asked) the_program s t s' u → Keeps [] (finished u)
      at (inl h) = (kept-after (alone o) (alone-form o) (alone-lawful o) h s-Program [] (λ e. absurd (cc e)) (λ e. absurd (cc e)) proper f g).keeps
      at (inr h) = (faced-after (asked) asked-faced h s-Program [] (λ e. absurd (cc e)) proper f g).keeps

  pub one-step : {s s' : Ledger} {t u : Open} → Step (either_rule (rests_alone) NamespaceRule) the_program s t s' u → IsProper (spread t) → has_form s-Program (finished (spread t)) ≡ true → ProgramLeft (spread t) (spread u)
  one-step {s} {s'} {t} {u} h proper f = at (spread-step (rests_alone) NamespaceRule rests-form.no_flanks rests-written h)
    where
      at : Went (Step (rests_alone) the_program s (spread t) s' (spread u)) (SameBoth s (spread t) s' (spread u)) (Step NamespaceRule the_program s t s' u) → ProgramLeft (spread t) (spread u)
      at (moves r) =
          let next = formed-after (rests_alone) rests-form r s-Program (λ e. absurd (cc e)) proper f in
          record { proper = next.proper; formed = next.formed; keeps = λ g. kept r proper f g }
      at (rests e) = subst (λ (x : Open). ProgramLeft (spread t) x) e.1 (record { proper = proper; formed = f; keeps = λ g. g })
      at (leaves r) = program-left (program-exported r (subst (λ (x : Tree). has_form s-Program x ≡ true) (finished-spread t) f)) proper f

  in-a-row : {s s' : Ledger} {t u : Open} → Steps (Step (either_rule (rests_alone) NamespaceRule) the_program) s t s' u → IsProper (spread t) → has_form s-Program (finished (spread t)) ≡ true → ProgramLeft (spread t) (spread u)
  in-a-row stays proper f = record { proper = proper; formed = f; keeps = λ g. g }
  in-a-row (goes h rest) proper f =
      let a = one-step h proper f in
      let b = in-a-row rest a.proper a.formed in
      record { proper = b.proper; formed = b.formed; keeps = λ g. b.keeps (a.keeps g) }

  pub from-source : {s s' : Ledger} (t : Tree) {x : Open} → Steps (Step (with_rests Q o) the_program) s (opened t) s' x → has_form s-Program t ≡ true → ProgramLeft (spread (opened t)) (spread x)
  from-source t h f = in-a-row (all_under (with_rests Q o) (either_rule (rests_alone) NamespaceRule) rests-apart h) (subst (λ (x : Open). IsProper x) (sym (spread-opened t)) (opened-proper t)) (subst (λ (x : Tree). has_form s-Program x ≡ true) (sym (same-source t)) f)

  -- from a source
  pub source-form : StepsKeepForm (with_rests Q o)
  source-form t w w' x f steps = subst (λ (y : Tree). has_form s-Program y ≡ true) (finished-spread x) (from-source t steps f).formed

  pub source-places : StepsKeepPlaces (with_rests Q o)
  source-places t w w' x f h steps =
      let left = (from-source t steps f).keeps (subst (λ (y : Tree). Keeps [] y) (sym (same-source t)) ((law_places_proof t).to_places h)) in
      (law_places_proof (finished x)).from_places (subst (λ (y : Tree). Keeps [] y) (finished-spread x) left)

-- THE LAWS, of all rules of object rests

rest-form : FormLawful RestPart
rest-form = both-form split-form (both-form takes-form (both-form catch-rest-form (both-form head-rest-form (both-form target-head-form parameter-form))))

rest-faced : FaceLawful RestPart
rest-faced = both-faced split-faced (both-faced takes-faced (both-faced catch-rest-faced (both-faced head-rest-faced (both-faced target-head-faced parameter-faced))))

pub law_rest_form_proof : LawRestForm
law_rest_form_proof = source-form RestPart rest-form rest-faced

pub law_rest_places_proof : LawRestPlaces
law_rest_places_proof = source-places RestPart rest-form rest-faced
