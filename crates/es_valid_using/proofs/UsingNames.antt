-- Steps of the rules of `using` and those of the other lowerings break no rule of declared names, and none of the nineteen static rules.
use Rattle.std.proofs.Common.{◌≡◌, sym, ap, subst, ◌∙◌, []}
use Rattle.std.specs.Prelude.{true}
use Rattle.es_tree.specs.Ancestors.{visits}
use Rattle.es_tree.specs.HasForm.{has_form}
use Rattle.es_tree.specs.Tree.{Tree}
use Rattle.es_tree.specs.declared.options.EnvOptions.{EnvOptions}
use Rattle.es_tree.specs.declared.table.Sort.TheVariants.{Program as s-Program}
use Rattle.es_steps.specs.FormLaws.{StepsKeepForm}
use Rattle.es_steps.specs.Laws.{IsWellBound, nothing_beside}
use Rattle.es_steps.specs.Open.{Open, finished, opened}
use Rattle.es_steps.specs.Steps.{Whole, Ledger, Site, Spot, the_program, Step, Steps}
use Rattle.es_steps.specs.Steps.Steps.{stays, goes}
use Rattle.es_steps.proofs.FormOpen.{opened-proper}
use Rattle.es_steps.proofs.Opened.{finished-opened}
use Rattle.es_valid_steps.specs.Laws.{StepsKeepPlaces}
use Rattle.es_valid_steps.proofs.FurtherSteps.{alone, alone-form}
use Rattle.es_valid_steps.proofs.NamespaceRows.{program-left}
use Rattle.es_valid_steps.proofs.ProgramLists.{program-exported}
use Rattle.es_valid_steps.proofs.Spread.{finished-spread, spread, spread-opened}
use Rattle.es_valid_steps.proofs.Visits.{law_among_proof, law_places_proof}
use Rattle.es_module_names.specs.Laws.{StepsKeepOutside}
use Rattle.es_valid_names.specs.Laws.{StepsKeepExports, StepsKeepNames, StepsKeepRules, declared_breaks, keeps_exports, name_breaks}
use Rattle.es_valid_names.proofs.BareNames.{law_declared_among_proof, law_together_proof}
use Rattle.es_valid_names.proofs.Claims.{Clear, elsewhere}
use Rattle.es_valid_names.proofs.ClearRules.{alone-names}
use Rattle.es_valid_names.proofs.ExportClashes.{same-exports}
use Rattle.es_valid_names.proofs.ExportPlaces.{exported_in}
use Rattle.es_valid_names.proofs.ExportStatements.{program-exports}
use Rattle.es_valid_names.proofs.ExportTexts.{lists}
use Rattle.es_valid_names.proofs.FurtherNames.{program-good}
use Rattle.es_valid_names.proofs.NameSteps.{Good, around, clear-breaks, clear-exports, one-step as named-step, start-clear}
use Rattle.es_valid_names.proofs.StartUsed.{start-used}
use Rattle.es_valid_using.specs.Laws.{with_using}
use Rattle.es_valid_using.proofs.UsingNamesSteps.{KeepsForm, MovesLawful, one-step as using-step}
use Rattle.es_valid_using.proofs.UsingSteps.{StepOf, all-sorted, either_way, step-of}
use Rattle.es_valid_using.proofs.UsingSteps.StepOf.{by_other, by_using, by_none, by_export}

module _ (o : EnvOptions) (Q : Site → Ledger → Spot → Ledger → Spot → Type 0) where
  module _ (form : KeepsForm Q) (law : MovesLawful Q) where
    one-step : {s s' : Ledger} {t u : Open} → Step (either_way o Q) the_program s t s' u → Good s (spread t) → Good s' (spread u)
    one-step {s} {s'} {t} {u} h g = at (step-of o Q law.only h)
      where
        at : StepOf o Q s t s' u → Good s' (spread u)
        at (by_other r) = named-step (alone o) (alone-form o) (alone-names o) r g
        at (by_using r) = using-step Q form law r g
        at (by_none e) = subst (λ (x : Open). Good s' x) e.1 (subst (λ (z : Ledger). Good z (spread t)) e.0 g)
        at (by_export r) =
            let export = program-exported r (subst (λ (x : Tree). has_form s-Program x ≡ true) (finished-spread t) g.formed) in
            let left = program-left export g.proper g.formed in
            program-good export g left.proper left.formed

    in-a-row : {s s' : Ledger} {t u : Open} → Steps (Step (either_way o Q) the_program) s t s' u → Good s (spread t) → Good s' (spread u)
    in-a-row stays g = g
    in-a-row (goes h rest) g = in-a-row rest (one-step h g)

    good-after : (t : Tree) (w w' : Whole) (x : Open) → has_form s-Program t ≡ true → declared_breaks t ≡ [] → IsWellBound w t → Steps (Step (with_using Q o) the_program) (nothing_beside w) (opened t) (nothing_beside w') x → Good (nothing_beside w') (spread x)
    good-after t w w' x f e bound steps =
        let start : Good (nothing_beside w) (opened t) = record { proper = opened-proper t; formed = subst (λ (y : Tree). has_form s-Program y ≡ true) (sym (finished-opened t)) f; clear = subst (λ (y : Tree). Clear (around w.in_use y) elsewhere y) (sym (finished-opened t)) (start-clear w.in_use t f e (start-used w.in_use w.free_symbol t f bound.named)) } in
        in-a-row (all-sorted o Q steps) (subst (λ (y : Open). Good (nothing_beside w) y) (sym (spread-opened t)) start)

    pub using-names : StepsKeepNames (with_using Q o)
    using-names t w w' x f e bound steps =
        let good = good-after t w w' x f e bound steps in
        subst (λ (y : Tree). name_breaks y ≡ []) (finished-spread x) (clear-breaks w'.in_use (finished (spread x)) good.formed good.clear)

    pub using-exports : StepsKeepExports (with_using Q o)
    using-exports t w w' x f e bound steps =
        let good = good-after t w w' x f e bound steps in
        subst (λ (y : Tree). keeps_exports y ≡ true) (finished-spread x) (clear-exports w'.in_use (finished (spread x)) good.formed good.clear)

    -- all nineteen, where form, the rules of places and what is read from outside are kept
    pub using-rules : StepsKeepForm (with_using Q o) → StepsKeepPlaces (with_using Q o) → StepsKeepOutside (with_using Q o) → StepsKeepRules (with_using Q o)
    using-rules forms places outside t w w' x f e bound steps =
        let declared = law_declared_among_proof t e in
        let before_places = law_among_proof t e in
        let formed = forms t w w' x f steps in
        let kept = places t w w' x f before_places steps in
        let same : exported_in (visits [] 0 (finished x)) ≡ exported_in (visits [] 0 t) = program-exports (finished x) formed ((law_places_proof (finished x)).to_places kept) ∙ ap lists (outside t w w' x f steps).exports ∙ sym (program-exports t f ((law_places_proof t).to_places before_places)) in
        law_together_proof (finished x) kept (same-exports t (finished x) declared same (using-names t w w' x f declared bound steps) (using-exports t w w' x f declared bound steps))
