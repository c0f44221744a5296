-- The laws: the rules of object rests and the rule of bodies together.
use Rattle.std.proofs.Common.{inl, inr}
use Rattle.es_steps.specs.AllRules.{RestRule}
use Rattle.es_steps.specs.ObjectRest.{SplitRule}
use Rattle.es_steps.specs.Rules.{either_rule}
use Rattle.es_steps.specs.Steps.{Ledger, Site, Spot}
use Rattle.es_steps.proofs.BridgeInclusion.{all_under, step_under}
use Rattle.es_steps.proofs.CatchRests.{catch-rest-lawful}
use Rattle.es_steps.proofs.FormRules.{FormLawful, both-form}
use Rattle.es_steps.proofs.Heads.{head-lawful, target-lawful}
use Rattle.es_steps.proofs.Parameters.{parameter-lawful}
use Rattle.es_steps.proofs.Reached.{bindings-keep}
use Rattle.es_steps.proofs.RulesWrite.{catch-rest-writes, head-writes, parameter-writes, split-writes, takes-rest-writes, target-writes}
use Rattle.es_steps.proofs.Splits.{split-lawful}
use Rattle.es_steps.proofs.StepsKept.{reached-keeps}
use Rattle.es_steps.proofs.Taken.{Lawful, Writes, both-lawful, both-write}
use Rattle.es_steps.proofs.TakesRest.{takes-rest-lawful}
use Rattle.es_valid_rests.specs.RestRules.{Binding, OutsidePart, Unexported}
use Rattle.es_valid_rests.proofs.FacedSteps.{FaceLawful}
use Rattle.es_valid_rests.proofs.RestForms.{catch-rest-form, head-rest-form, target-head-form}
use Rattle.es_valid_rests.proofs.RestFormsDeclared.{split-form, takes-form}
use Rattle.es_valid_rests.proofs.RestFormsMoved.{parameter-form}
use Rattle.es_valid_rests.proofs.RestNamesParametersRule.{parameter-good}
use Rattle.es_valid_rests.proofs.RestNamesRules.{GoodLawful, catch-good, either-good, head-good, split-good, takes-good, target-good}
use Rattle.es_valid_rests.proofs.RestPlacesDeclared.{takes-faced}
use Rattle.es_valid_rests.proofs.RestPlacesFunctions.{parameter-faced}
use Rattle.es_valid_rests.proofs.RestPlacesHeads.{head-rest-faced, target-head-faced}
use Rattle.es_valid_rests.proofs.RestPlacesMoved.{catch-rest-faced}
use Rattle.es_valid_rests.proofs.RestPlacesSplits.{split-faced}
use Rattle.es_valid_rests.proofs.RestPrograms.{source-outside, source-rules}
use Rattle.es_valid_rests.proofs.RestReadRules.{both-read, catch-read, head-read, parameter-read, split-read, takes-read, target-read}
use Rattle.es_valid_rests.proofs.RestReads.{ReadLawful}
use Rattle.es_valid_rests.proofs.RestSteps.{both-faced, source-form}
use Rattle.es_arrow_bodies.specs.ArrowBodies.{BodyRule, WithBodies}
use Rattle.es_arrow_bodies.specs.Laws.{LawBodyBindings, LawBodyBound, LawBodyForm, LawBodyOutside, LawBodyRules}
use Rattle.es_arrow_bodies.proofs.BodyBindings.{body-lawful, body-writes}
use Rattle.es_arrow_bodies.proofs.BodyForms.{body-form}
use Rattle.es_arrow_bodies.proofs.BodyNames.{body-good}
use Rattle.es_arrow_bodies.proofs.BodyPlaces.{body-faced}
use Rattle.es_arrow_bodies.proofs.BodyReads.{body-read}

-- THE RULES OF OBJECT RESTS of which all is proved

unexported-form : FormLawful (Unexported (Binding SplitRule))
unexported-form = record {
  at_nodes = λ n s s' t u a slot h f. split-form.at_nodes n s s' t u a slot h.0 f;
  no_flanks = λ n s s' t u bs cs h. split-form.no_flanks n s s' t u bs cs h.0;
  at_lists = λ n s s' p q x y a b ts us h k. split-form.at_lists n s s' p q x y a b ts us h.0 k;
  at_bodies = λ n s s' p t u h. split-form.at_bodies n s s' p t u h.0;
}

unexported-faced : FaceLawful (Unexported (Binding SplitRule))
unexported-faced = record { at_nodes = λ n s s' x y h. split-faced.at_nodes n s s' x y h.0; leaves = λ n s s' t u a up h f g. split-faced.leaves n s s' t u a up h.0 f g }

unexported-good : GoodLawful (Unexported (Binding SplitRule))
unexported-good = record { good = λ s s' t u h. split-good.good s s' t u (step_under (Unexported (Binding SplitRule)) (Binding SplitRule) (λ n s x s' y r. r.0) h) }

-- AND BODIES

bodies-form : FormLawful WithBodies
bodies-form = both-form (both-form unexported-form (both-form takes-form (both-form catch-rest-form (both-form head-rest-form (both-form target-head-form parameter-form))))) body-form

bodies-faced : FaceLawful WithBodies
bodies-faced = both-faced (both-faced unexported-faced (both-faced takes-faced (both-faced catch-rest-faced (both-faced head-rest-faced (both-faced target-head-faced parameter-faced))))) body-faced

bodies-read : ReadLawful WithBodies
bodies-read = both-read (both-read split-read (both-read takes-read (both-read catch-read (both-read head-read (both-read target-read parameter-read))))) body-read

bodies-good : GoodLawful WithBodies
bodies-good = either-good (either-good unexported-good (either-good takes-good (either-good catch-good (either-good head-good (either-good target-good parameter-good))))) body-good

pub law_body_form_proof : LawBodyForm
law_body_form_proof = source-form WithBodies bodies-form bodies-faced

pub law_body_outside_proof : LawBodyOutside
law_body_outside_proof o = source-outside WithBodies bodies-form bodies-faced o bodies-read

pub law_body_rules_proof : LawBodyRules
law_body_rules_proof o = source-rules WithBodies bodies-form bodies-faced o bodies-read bodies-good

-- BINDINGS: each step is one of all rules of object rests and of bodies

abbrev Wide : Site → Ledger → Spot → Ledger → Spot → Type 0
Wide = either_rule RestRule BodyRule

wide : (n : Site) (s : Ledger) (x : Spot) (s' : Ledger) (y : Spot) → WithBodies n s x s' y → Wide n s x s' y
wide n s x s' y (inr h) = inr h
wide n s x s' y (inl h) = inl (rests h)
  where
    rests : OutsidePart n s x s' y → RestRule n s x s' y
    rests (inl h) = inl h.0.0
    rests (inr (inl h)) = inr (inl h.0)
    rests (inr (inr h)) = inr (inr h)

wide-lawful : Lawful Wide
wide-lawful = both-lawful (both-lawful split-lawful (both-lawful takes-rest-lawful (both-lawful catch-rest-lawful (both-lawful head-lawful (both-lawful target-lawful parameter-lawful))))) body-lawful

wide-writes : Writes Wide
wide-writes = both-write (both-write split-writes (both-write takes-rest-writes (both-write catch-rest-writes (both-write head-writes (both-write target-writes parameter-writes))))) body-writes

pub law_body_bound_proof : LawBodyBound
law_body_bound_proof p q w w' k h steps = reached-keeps Wide wide-lawful wide-writes p q w w' k h (all_under WithBodies Wide wide steps)

pub law_body_bindings_proof : LawBodyBindings
law_body_bindings_proof p q w w' k h steps = bindings-keep Wide wide-lawful wide-writes p q w w' k h (all_under WithBodies Wide wide steps)
