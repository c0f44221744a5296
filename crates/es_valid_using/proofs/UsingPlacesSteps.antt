-- Steps of `using` and of the other rules keep form and the static rules of places.
use Rattle.std.proofs.Common.{◌≡◌, refl, sym, subst, ◌∙◌, []}
use Rattle.std.specs.Prelude.{true}
use Rattle.es_tree.specs.HasForm.{has_form}
use Rattle.es_tree.specs.Tree.{Tree}
use Rattle.es_tree.specs.declared.options.EnvOptions.{EnvOptions}
use Rattle.es_tree.specs.declared.table.Sort.TheVariants.{Program as s-Program}
use Rattle.es_steps.specs.FormLaws.{StepsKeepForm}
use Rattle.es_steps.specs.Open.{Open, finished, opened}
use Rattle.es_steps.specs.Steps.{Ledger, Site, Spot, the_program, Step, Steps}
use Rattle.es_steps.specs.Steps.Steps.{stays, goes}
use Rattle.es_steps.proofs.FormOpen.{IsProper, opened-proper}
use Rattle.es_steps.proofs.FormSteps.{formed-after}
use Rattle.es_steps.proofs.Opened.{finished-opened}
use Rattle.es_valid_steps.specs.Laws.{StepsKeepPlaces}
use Rattle.es_valid_steps.specs.PlaceRules.{Keeps}
use Rattle.es_valid_steps.proofs.FurtherSteps.{alone, alone-form, alone-lawful}
use Rattle.es_valid_steps.proofs.NamespaceRows.{ProgramLeft, program-left}
use Rattle.es_valid_steps.proofs.PlaceSteps.{kept-after}
use Rattle.es_valid_steps.proofs.ProgramLists.{program-exported}
use Rattle.es_valid_steps.proofs.Spread.{finished-spread, spread, spread-opened}
use Rattle.es_valid_steps.proofs.Visits.{law_places_proof}
use Rattle.es_valid_using.specs.Laws.{with_using}
use Rattle.es_valid_using.proofs.UsingMoves.{after-step}
use Rattle.es_valid_using.proofs.UsingNamesSteps.{KeepsForm}
use Rattle.es_valid_using.proofs.UsingSteps.{StepOf, all-sorted, either_way, step-of}
use Rattle.es_valid_using.proofs.UsingSteps.StepOf.{by_other, by_using, by_none, by_export}
use Rattle.es_valid_using.proofs.UsingTrees.{TreeAfter, UsingLawful, tree-after}

-- A STEP of a rule of `using`

module _ (Q : Site → Ledger → Spot → Ledger → Spot → Type 0) (law : UsingLawful Q) where
  using-left : {s s' : Ledger} {t u : Open} → Step Q the_program s t s' u → IsProper t → has_form s-Program (finished t) ≡ true → ProgramLeft t u
  using-left h proper f =
      let next = after-step Q law.alone h proper in
      let left : TreeAfter s-Program _ _ = tree-after Q law next.becomes s-Program (λ e. refl) f in
      record { proper = next.proper; formed = left.formed; keeps = λ g. left.keeps [] g }

  pub using-keeps-form : KeepsForm Q
  using-keeps-form s s' t u h proper f = let left = using-left h proper f in record { proper = left.proper; formed = left.formed }

  -- and of the others
  module _ (o : EnvOptions) where
    alone-left : {s s' : Ledger} {t u : Open} → Step (alone o) the_program s t s' u → IsProper t → has_form s-Program (finished t) ≡ true → ProgramLeft t u
    alone-left h proper f =
        let next = formed-after (alone o) (alone-form o) h s-Program (λ e. absurd (cc e)) proper f in
        record { proper = next.proper; formed = next.formed; keeps = λ g. (kept-after (alone o) (alone-form o) (alone-lawful o) h s-Program [] (λ e. absurd (cc e)) (λ e. absurd (cc e)) proper f g).keeps }

    one-step : {s s' : Ledger} {t u : Open} → Step (either_way o Q) the_program s t s' u → IsProper (spread t) → has_form s-Program (finished (spread t)) ≡ true → ProgramLeft (spread t) (spread u)
    one-step {s} {s'} {t} {u} h proper f = at (step-of o Q law.alone.nodes h)
      where
        at : StepOf o Q s t s' u → ProgramLeft (spread t) (spread u)
        at (by_other r) = alone-left r proper f
        at (by_using r) = using-left r proper f
        at (by_none e) = subst (λ (x : Open). ProgramLeft (spread t) x) e.1 (record { proper = proper; formed = f; keeps = λ g. g })
        at (by_export r) = program-left (program-exported r (subst (λ (x : Tree). has_form s-Program x ≡ true) (finished-spread t) f)) proper f

    in-a-row : {s s' : Ledger} {t u : Open} → Steps (Step (either_way o Q) the_program) s t s' u → IsProper (spread t) → has_form s-Program (finished (spread t)) ≡ true → ProgramLeft (spread t) (spread u)
    in-a-row stays proper f = record { proper = proper; formed = f; keeps = λ g. g }
    in-a-row (goes h rest) proper f =
        let a = one-step h proper f in
        let b = in-a-row rest a.proper a.formed in
        record { proper = b.proper; formed = b.formed; keeps = λ g. b.keeps (a.keeps g) }

    same-source : (t : Tree) → finished (spread (opened t)) ≡ t
    same-source t = finished-spread (opened t) ∙ finished-opened t

    from-source : {s s' : Ledger} (t : Tree) {x : Open} → Steps (Step (with_using Q o) the_program) s (opened t) s' x → has_form s-Program t ≡ true → ProgramLeft (spread (opened t)) (spread x)
    from-source t h f = in-a-row (all-sorted o Q h) (subst (λ (x : Open). IsProper x) (sym (spread-opened t)) (opened-proper t)) (subst (λ (x : Tree). has_form s-Program x ≡ true) (sym (same-source t)) f)

    pub using-form : StepsKeepForm (with_using Q o)
    using-form t w w' x f steps = subst (λ (y : Tree). has_form s-Program y ≡ true) (finished-spread x) (from-source t steps f).formed

    pub using-places : StepsKeepPlaces (with_using Q o)
    using-places t w w' x f h steps =
        let kept = (from-source t steps f).keeps (subst (λ (y : Tree). Keeps [] y) (sym (same-source t)) ((law_places_proof t).to_places h)) in
        (law_places_proof (finished x)).from_places (subst (λ (y : Tree). Keeps [] y) (finished-spread x) kept)
