-- Where each arrow of a program can become a function, each still can after steps, those that put statements beside others among them.
use Rattle.std.proofs.Common.{◌≡◌, refl, sym, subst, [], ◌∷◌}
use Rattle.std.specs.Prelude.{true, false}
use Rattle.es_tree.specs.HasForm.{has_form}
use Rattle.es_tree.specs.Tree.{Tree}
use Rattle.es_tree.specs.declared.options.EnvOptions.{EnvOptions}
use Rattle.es_tree.specs.declared.table.Sort.TheVariants.{Program as s-Program}
use Rattle.es_steps.specs.NamespaceExports.{NamespaceRule}
use Rattle.es_steps.specs.NamespaceExports.NamespaceRule.{exports}
use Rattle.es_steps.specs.Open.{Open, OpenTrees, finished, finished_trees, pending_statements}
use Rattle.es_steps.specs.Rules.{either_rule}
use Rattle.es_steps.specs.Steps.{Ledger, Site, the_program, Step, Steps}
use Rattle.es_steps.specs.Steps.Spot.{at_node, at_beside}
use Rattle.es_steps.specs.Steps.Steps.{stays, goes}
use Rattle.es_steps.proofs.BridgeInclusion.{all_under}
use Rattle.es_steps.proofs.Opened.{finished-opened}
use Rattle.es_valid_steps.proofs.ProgramLists.{Exported, ProgramExported, program-exported}
use Rattle.es_valid_steps.proofs.ProgramLists.Exported.{here, there}
use Rattle.es_valid_steps.proofs.ProgramLists.ProgramExported.{at_list as in_the_list}
use Rattle.es_valid_steps.proofs.Spread.{finished-spread, spread}
use Rattle.es_valid_steps.proofs.SpreadSteps.{SameBoth, Went, spread-step}
use Rattle.es_valid_steps.proofs.SpreadSteps.Went.{moves, rests, leaves}
use Rattle.es_valid_arrows.proofs.Fits.{ArrowsFit, ArrowsFitAll, FitsProgram, from-fits, to-fits}
use Rattle.es_valid_arrows.specs.Laws.{LawArrowsFit, with_arrows}
use Rattle.es_valid_arrows.proofs.ArrowSteps.{OnTheWay, arrows_alone, arrows-apart, arrows-wide, arrows-written, one-step as formed-step, same-source, source-begins}
use Rattle.es_valid_arrows.proofs.FitRules.{arrows-fit}
use Rattle.es_valid_arrows.proofs.FitSteps.{fits-after}
use Rattle.es_valid_arrows.proofs.FitTrees.{fit-after, outside-names, whole-fit}
use Rattle.es_valid_arrows.proofs.Wide.{IsWide, program-wide}

-- NAMESPACE EXPORTS

module _ (o : EnvOptions) where
  replaced-fit : {n : Site} {s s' : Ledger} {t i e : Tree} → NamespaceRule n s (at_node t) s' (at_beside (i ∷ []) e []) → ArrowsFit o false false true t → ArrowsFit o false false true i × ArrowsFit o false false true e
  replaced-fit (exports top fresh q r d) h = ((refl, (((refl, ((refl, tt), tt)), tt), (h.1.1.0, (h.1.1.1.0, tt)))), (refl, (tt, (((refl, ((refl, tt), (h.1.0, tt))), tt), (tt, (tt, tt))))))

  exported-fit : {n : Site} {s s' : Ledger} {ts us : OpenTrees} → Exported n s s' ts us → ArrowsFitAll o false false true (finished_trees ts) → ArrowsFitAll o false false true (finished_trees us)
  exported-fit (here t i e h) f =
      let r = replaced-fit h (subst (λ (x : Tree). ArrowsFit o false false true x) (finished-opened t) f.0) in
      (subst (λ (x : Tree). ArrowsFit o false false true x) (sym (finished-opened i)) r.0, (subst (λ (x : Tree). ArrowsFit o false false true x) (sym (finished-opened e)) r.1, f.1))
  exported-fit (there t h) f = (f.0, exported-fit h f.1)

  program-fit : {s s' : Ledger} {x y : Open} → ProgramExported s s' x y → IsWide x → IsWide y → FitsProgram o (finished x) → FitsProgram o (finished y)
  program-fit (in_the_list {p = p} {q = q} {x = x} {y = y} {a = a} {b = b} {ts = ts} {us = us} h) wide left f =
      (f.0, (f.1.0, (whole-fit o false true false q y b (finished_trees us) left.1.0.0 (outside-names false true y refl) (exported-fit h (fit-after o false false true (pending_statements p x a) (finished_trees ts) f.1.1.0)), tt)))

  -- STEPS

  pub one-step : {s s' : Ledger} {t u : Open} → Step (either_rule (arrows_alone o) NamespaceRule) the_program s t s' u → OnTheWay s (spread t) → FitsProgram o (finished (spread t)) → FitsProgram o (finished (spread u))
  one-step {s} {s'} {t} {u} h g f = at (spread-step (arrows_alone o) NamespaceRule (arrows-wide o).no_flanks (arrows-written o) h)
    where
      at : Went (Step (arrows_alone o) the_program s (spread t) s' (spread u)) (SameBoth s (spread t) s' (spread u)) (Step NamespaceRule the_program s t s' u) → FitsProgram o (finished (spread u))
      at (moves r) = (fits-after o (arrows_alone o) (arrows-wide o) (arrows-fit o) r g.named s-Program false false true (λ e. absurd (cc e)) (record { parameter_is = refl; in_slot = λ e w. absurd (cc e); belongs = λ e. absurd (cc e) }) (record { function = λ e d. refl; program = λ e. refl }) g.wide g.formed f).fits
      at (rests e) = subst (λ (x : Open). FitsProgram o (finished x)) e.1 f
      at (leaves r) =
          let export = program-exported r (subst (λ (x : Tree). has_form s-Program x ≡ true) (finished-spread t) g.formed) in
          program-fit export g.wide (program-wide export g.wide g.formed).proper f

  pub in-a-row : {s s' : Ledger} {t u : Open} → Steps (Step (either_rule (arrows_alone o) NamespaceRule) the_program) s t s' u → OnTheWay s (spread t) → FitsProgram o (finished (spread t)) → FitsProgram o (finished (spread u))
  in-a-row stays g f = f
  in-a-row (goes h rest) g f = in-a-row rest (formed-step o h g) (one-step h g f)

-- THE LAW

pub law_arrows_fit_proof : LawArrowsFit
law_arrows_fit_proof o t w w' x f fit steps =
    let all = all_under (with_arrows o) (either_rule (arrows_alone o) NamespaceRule) (arrows-apart o) steps in
    from-fits o false false true (finished x) (subst (λ (y : Tree). FitsProgram o y) (finished-spread x) (in-a-row o all (source-begins t w f) (subst (λ (y : Tree). FitsProgram o y) (sym (same-source t)) (to-fits o false false true t fit))))
