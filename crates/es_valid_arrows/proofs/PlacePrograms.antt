-- Steps keep the static rules of places in programs whose arrows can become functions.
use Rattle.std.proofs.Common.{◌≡◌, refl, sym, subst, []}
use Rattle.std.specs.Prelude.{false, true}
use Rattle.es_tree.specs.HasForm.{has_form}
use Rattle.es_tree.specs.Tree.{Tree}
use Rattle.es_tree.specs.declared.options.EnvOptions.{EnvOptions}
use Rattle.es_tree.specs.declared.table.Sort.TheVariants.{Program as s-Program}
use Rattle.es_steps.specs.NamespaceExports.{NamespaceRule}
use Rattle.es_steps.specs.Open.{Open, finished}
use Rattle.es_steps.specs.Rules.{either_rule}
use Rattle.es_steps.specs.Steps.{Ledger, the_program, Step, Steps}
use Rattle.es_steps.specs.Steps.Steps.{stays, goes}
use Rattle.es_steps.proofs.BridgeInclusion.{all_under}
use Rattle.es_valid_steps.specs.PlaceRules.{Keeps}
use Rattle.es_valid_steps.proofs.ProgramLists.{program-exported}
use Rattle.es_valid_steps.proofs.Spread.{finished-spread, spread}
use Rattle.es_valid_steps.proofs.SpreadSteps.{SameBoth, Went, spread-step}
use Rattle.es_valid_steps.proofs.SpreadSteps.Went.{moves, rests, leaves}
use Rattle.es_valid_steps.proofs.Visits.{law_places_proof}
use Rattle.es_valid_arrows.proofs.Fits.{FitsProgram, to-fits}
use Rattle.es_valid_arrows.specs.Laws.{LawArrowPlaces, with_arrows}
use Rattle.es_valid_arrows.proofs.ArrowSteps.{OnTheWay, arrows_alone, arrows-apart, arrows-wide, arrows-written, one-step as formed-step, same-source, source-begins}
use Rattle.es_valid_arrows.proofs.FitPrograms.{one-step as fit-step}
use Rattle.es_valid_arrows.proofs.FitRules.{arrows-fit}
use Rattle.es_valid_arrows.proofs.TurnedRules.{arrows-turned}
use Rattle.es_valid_arrows.proofs.TurnedSteps.{kept-after}
use Rattle.es_valid_arrows.proofs.Wide.{program-wide}

module _ (o : EnvOptions) where
  one-step : {s s' : Ledger} {t u : Open} → Step (either_rule (arrows_alone o) NamespaceRule) the_program s t s' u → OnTheWay s (spread t) → FitsProgram o (finished (spread t)) → Keeps [] (finished (spread t)) → Keeps [] (finished (spread u))
  one-step {s} {s'} {t} {u} h g f k = at (spread-step (arrows_alone o) NamespaceRule (arrows-wide o).no_flanks (arrows-written o) h)
    where
      at : Went (Step (arrows_alone o) the_program s (spread t) s' (spread u)) (SameBoth s (spread t) s' (spread u)) (Step NamespaceRule the_program s t s' u) → Keeps [] (finished (spread u))
      at (moves r) = (kept-after o (arrows_alone o) (arrows-wide o) (arrows-fit o) (arrows-turned o) r g.named s-Program [] false false true (λ e. absurd (cc e)) (λ e. absurd (cc e)) (λ e. refl) (record { parameter_is = refl; in_slot = λ e w. absurd (cc e); belongs = λ e. absurd (cc e) }) g.wide g.formed f k).keeps
      at (rests e) = subst (λ (x : Open). Keeps [] (finished x)) e.1 k
      at (leaves r) = (program-wide (program-exported r (subst (λ (x : Tree). has_form s-Program x ≡ true) (finished-spread t) g.formed)) g.wide g.formed).keeps k

  in-a-row : {s s' : Ledger} {t u : Open} → Steps (Step (either_rule (arrows_alone o) NamespaceRule) the_program) s t s' u → OnTheWay s (spread t) → FitsProgram o (finished (spread t)) → Keeps [] (finished (spread t)) → Keeps [] (finished (spread u))
  in-a-row stays g f k = k
  in-a-row (goes h rest) g f k = in-a-row rest (formed-step o h g) (fit-step o h g f) (one-step h g f k)

-- THE LAW

pub law_arrow_places_proof : LawArrowPlaces
law_arrow_places_proof o t w w' x f fit h steps =
    let all = all_under (with_arrows o) (either_rule (arrows_alone o) NamespaceRule) (arrows-apart o) steps in
    let kept = in-a-row o all (source-begins t w f) (subst (λ (y : Tree). FitsProgram o y) (sym (same-source t)) (to-fits o false false true t fit)) (subst (λ (y : Tree). Keeps [] y) (sym (same-source t)) ((law_places_proof t).to_places h)) in
    (law_places_proof (finished x)).from_places (subst (λ (y : Tree). Keeps [] y) (finished-spread x) kept)
