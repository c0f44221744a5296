-- Steps of a part of the rules of object rests, and of all others, keep what other modules see, and break no static rule.
use Rattle.std.proofs.Common.{◌≡◌, inl, inr, refl, sym, ap, subst, ◌∙◌, List, []}
use Rattle.std.specs.Prelude.{◌⊎◌, Bool, true, false, is_some}
use Rattle.es_tree.specs.Ancestors.{Ancestor, visits}
use Rattle.es_tree.specs.HasForm.{has_form}
use Rattle.es_tree.specs.Tree.{Tree}
use Rattle.es_tree.specs.Words.{Text}
use Rattle.es_tree.specs.declared.options.EnvOptions.{EnvOptions}
use Rattle.es_tree.specs.declared.table.Sort.TheVariants.{Program as s-Program}
use Rattle.es_steps.specs.CoreRules.{where_on}
use Rattle.es_steps.specs.Laws.{IsWellBound, nothing_beside}
use Rattle.es_steps.specs.NamespaceExports.{NamespaceRule}
use Rattle.es_steps.specs.Open.{Open, finished, opened}
use Rattle.es_steps.specs.ObjectRest.{SplitRule}
use Rattle.es_steps.specs.Rules.{either_rule}
use Rattle.es_steps.specs.Steps.{Whole, Ledger, Site, Spot, the_program, Step, Steps}
use Rattle.es_steps.specs.Steps.Steps.{stays, goes}
use Rattle.es_steps.proofs.BridgeInclusion.{all_under, step_under}
use Rattle.es_steps.proofs.FormOpen.{IsProper, opened-proper}
use Rattle.es_steps.proofs.Opened.{finished-opened}
use Rattle.es_valid_steps.specs.Laws.{statements_of}
use Rattle.es_valid_steps.specs.PlaceRules.{place_breaks}
use Rattle.es_valid_steps.proofs.FurtherSteps.{alone, alone-form}
use Rattle.es_valid_steps.proofs.NamespaceRows.{program-left}
use Rattle.es_valid_steps.proofs.ProgramLists.{program-exported}
use Rattle.es_valid_steps.proofs.Spread.{finished-spread, spread, spread-opened}
use Rattle.es_valid_steps.proofs.SpreadSteps.{SameBoth, Went, spread-step}
use Rattle.es_valid_steps.proofs.SpreadSteps.Went.{moves, rests, leaves}
use Rattle.es_valid_steps.proofs.Visits.{law_among_proof, law_places_proof}
use Rattle.es_module_names.specs.Laws.{StepsKeepOutside}
use Rattle.es_module_names.specs.Modules.{exported, request, star_request, texts_among}
use Rattle.es_module_names.proofs.HeldSteps.{named-read as quiet-read, none-hides}
use Rattle.es_module_names.proofs.ProgramLists.{IsReading, exported-reading, exported-texts-after, request-reading, star-reading, texts-after, top-imports}
use Rattle.es_module_names.proofs.ProgramSteps.{alone-names as outside-names}
use Rattle.es_valid_names.specs.Laws.{StepsKeepRules, declared_breaks, keeps_exports, name_breaks}
use Rattle.es_valid_names.proofs.BareNames.{law_declared_among_proof, law_together_proof}
use Rattle.es_valid_names.proofs.Claims.{Clear, elsewhere}
use Rattle.es_valid_names.proofs.ClearRules.{alone-names}
use Rattle.es_valid_names.proofs.ExportClashes.{same-exports}
use Rattle.es_valid_names.proofs.ExportPlaces.{exported_in}
use Rattle.es_valid_names.proofs.ExportStatements.{program-exports}
use Rattle.es_valid_names.proofs.ExportTexts.{lists}
use Rattle.es_valid_names.proofs.FurtherNames.{program-good}
use Rattle.es_valid_names.proofs.NameSteps.{Good, around, clear-breaks, clear-exports, one-step as named-step, start-clear}
use Rattle.es_valid_names.proofs.StartUsed.{start-used}
use Rattle.es_steps.proofs.FormRules.{FormLawful, both-form}
use Rattle.es_steps.proofs.FormSteps.{formed-after}
use Rattle.es_valid_rests.specs.Laws.{LawRestOutside, LawRestRules, with_rests}
use Rattle.es_valid_rests.specs.RestRules.{Binding, OutsidePart, Unexported}
use Rattle.es_valid_rests.proofs.FacedSteps.{FaceLawful}
use Rattle.es_valid_rests.proofs.RestForms.{catch-rest-form, head-rest-form, target-head-form}
use Rattle.es_valid_rests.proofs.RestNamesRules.{GoodLawful, catch-good, either-good, head-good, target-good, split-good, takes-good}
use Rattle.es_valid_rests.proofs.RestNamesParametersRule.{parameter-good}
use Rattle.es_valid_rests.proofs.OneOf.{one-of}
use Rattle.es_valid_rests.proofs.RestFormsDeclared.{split-form, takes-form}
use Rattle.es_valid_rests.proofs.RestFormsMoved.{parameter-form}
use Rattle.es_valid_rests.proofs.RestPlacesDeclared.{takes-faced}
use Rattle.es_valid_rests.proofs.RestPlacesFunctions.{parameter-faced}
use Rattle.es_valid_rests.proofs.RestPlacesSplits.{split-faced}
use Rattle.es_valid_rests.proofs.RestReadPrograms.{program-read}
use Rattle.es_valid_rests.proofs.RestReadRules.{both-read, catch-read, head-read, target-read, on-read, parameter-read, split-read, takes-read}
use Rattle.es_valid_rests.proofs.RestReads.{ReadLawful, SameRead}
use Rattle.es_valid_rests.proofs.RestPlacesHeads.{head-rest-faced, target-head-faced}
use Rattle.es_valid_rests.proofs.RestPlacesMoved.{catch-rest-faced}
use Rattle.es_valid_rests.proofs.RestSteps.{asked, both-faced, rests-apart, rests-form, rests-written, rests_alone, source-form, source-places}

-- RULES where they are asked for

where-asked : (b : Bool) (R : Site → Ledger → Spot → Ledger → Spot → Type 0) (n : Site) (s : Ledger) (x : Spot) (s' : Ledger) (y : Spot) → where_on b R n s x s' y → R n s x s' y
where-asked true R n s x s' y r = r
where-asked false R n s x s' y r = absurd r

on-good : (b : Bool) (R : Site → Ledger → Spot → Ledger → Spot → Type 0) → GoodLawful R → GoodLawful (where_on b R)
on-good b R law = record { good = λ s s' t u h. law.good s s' t u (step_under (where_on b R) R (where-asked b R) h) }

-- STEPS

abbrev Read : (Tree → List Text) → Open → List Text
Read read x = texts_among read (statements_of (finished x))

record Left (read : Tree → List Text) (x y : Open) : Type 0 where
  proper : IsProper y
  formed : has_form s-Program (finished y) ≡ true
  same : Read read y ≡ Read read x

module _ (Q : Site → Ledger → Spot → Ledger → Spot → Type 0) (form : FormLawful Q) (faced : FaceLawful Q) (o : EnvOptions) where
  abbrev Alone : Site → Ledger → Spot → Ledger → Spot → Type 0
  Alone = rests_alone Q form faced o

  -- REQUESTS AND EXPORTS

  module _ (outside : ReadLawful Q) (read : Tree → List Text) (r : IsReading read) (same : (up : List Ancestor) (t u : Tree) → SameRead up t u → read u ≡ read t) where
    read-step : {s s' : Ledger} {t u : Open} → Step (either_rule Alone NamespaceRule) the_program s t s' u → IsProper (spread t) → has_form s-Program (finished (spread t)) ≡ true → Left read (spread t) (spread u)
    read-step {s} {s'} {t} {u} h proper f = at (spread-step Alone NamespaceRule (rests-form Q form faced o).no_flanks (rests-written Q form faced o) h)
      where
        texts : Step (alone o) the_program s (spread t) s' (spread u) ⊎ Step (asked Q form faced o) the_program s (spread t) s' (spread u) → IsProper (spread u) → Read read (spread u) ≡ Read read (spread t)
        texts (inl step) left = texts-after read r top-imports (λ up. false) none-hides (alone o) (alone-form o) (quiet-read (λ up. false) (alone o) (outside-names o)) step (λ e. absurd (cc e)) (λ e. absurd (cc e)) proper left f
        texts (inr step) left = program-read read same (asked Q form faced o) (on-read (is_some o.es2018.object_rest_spread) Q outside) step proper f

        at : Went (Step Alone the_program s (spread t) s' (spread u)) (SameBoth s (spread t) s' (spread u)) (Step NamespaceRule the_program s t s' u) → Left read (spread t) (spread u)
        at (moves step) =
            let next = formed-after Alone (rests-form Q form faced o) step s-Program (λ e. absurd (cc e)) proper f in
            record { proper = next.proper; formed = next.formed; same = texts (one-of (alone o) (asked Q form faced o) step) next.proper }
        at (rests e) = subst (λ (x : Open). Left read (spread t) x) e.1 (record { proper = proper; formed = f; same = refl })
        at (leaves step) =
            let export = program-exported step (subst (λ (x : Tree). has_form s-Program x ≡ true) (finished-spread t) f) in
            let next = program-left export proper f in
            record { proper = next.proper; formed = next.formed; same = exported-texts-after read r top-imports export proper next.proper }

    read-in-a-row : {s s' : Ledger} {t u : Open} → Steps (Step (either_rule Alone NamespaceRule) the_program) s t s' u → IsProper (spread t) → has_form s-Program (finished (spread t)) ≡ true → Read read (spread u) ≡ Read read (spread t)
    read-in-a-row stays proper f = refl
    read-in-a-row (goes h rest) proper f = let a = read-step h proper f in read-in-a-row rest a.proper a.formed ∙ a.same

    source-texts : {s s' : Ledger} (t : Tree) {x : Open} → Steps (Step (with_rests Q o) the_program) s (opened t) s' x → has_form s-Program t ≡ true → Read read x ≡ texts_among read (statements_of t)
    source-texts t {x} h f =
        let before : finished (spread (opened t)) ≡ t = finished-spread (opened t) ∙ finished-opened t in
        let proper = subst (λ (y : Open). IsProper y) (sym (spread-opened t)) (opened-proper t) in
        let formed = subst (λ (y : Tree). has_form s-Program y ≡ true) (sym before) f in
        let all = all_under (with_rests Q o) (either_rule Alone NamespaceRule) (rests-apart Q form faced o) h in
        sym (ap (λ y. texts_among read (statements_of y)) (finished-spread x)) ∙ read-in-a-row all proper formed ∙ ap (λ y. texts_among read (statements_of y)) before

  pub source-outside : ReadLawful Q → StepsKeepOutside (with_rests Q o)
  source-outside outside t w w' x f steps = record {
    requests = source-texts outside request request-reading (λ up t u r. r.request) t steps f;
    stars = source-texts outside star_request star-reading (λ up t u r. r.star) t steps f;
    exports = source-texts outside exported exported-reading (λ up t u r. r.exported) t steps f;
  }

  -- DECLARED NAMES

  module _ (outside : ReadLawful Q) (names : GoodLawful Q) where
    one-step : {s s' : Ledger} {t u : Open} → Step (either_rule Alone NamespaceRule) the_program s t s' u → Good s (spread t) → Good s' (spread u)
    one-step {s} {s'} {t} {u} h g = at (spread-step Alone NamespaceRule (rests-form Q form faced o).no_flanks (rests-written Q form faced o) h)
      where
        names-kept : Step (alone o) the_program s (spread t) s' (spread u) ⊎ Step (asked Q form faced o) the_program s (spread t) s' (spread u) → Good s (spread t) → Good s' (spread u)
        names-kept (inl r) = named-step (alone o) (alone-form o) (alone-names o) r
        names-kept (inr r) = (on-good (is_some o.es2018.object_rest_spread) Q names).good s s' (spread t) (spread u) r

        at : Went (Step Alone the_program s (spread t) s' (spread u)) (SameBoth s (spread t) s' (spread u)) (Step NamespaceRule the_program s t s' u) → Good s' (spread u)
        at (moves r) = names-kept (one-of (alone o) (asked Q form faced o) r) g
        at (rests e) = subst (λ (x : Open). Good s' x) e.1 (subst (λ (z : Ledger). Good z (spread t)) e.0 g)
        at (leaves r) =
            let export = program-exported r (subst (λ (x : Tree). has_form s-Program x ≡ true) (finished-spread t) g.formed) in
            let left = program-left export g.proper g.formed in
            program-good export g left.proper left.formed

    in-a-row : {s s' : Ledger} {t u : Open} → Steps (Step (either_rule Alone NamespaceRule) the_program) s t s' u → Good s (spread t) → Good s' (spread u)
    in-a-row stays g = g
    in-a-row (goes h rest) g = in-a-row rest (one-step h g)

    source-good : (t : Tree) (w w' : Whole) (x : Open) → has_form s-Program t ≡ true → declared_breaks t ≡ [] → IsWellBound w t → Steps (Step (with_rests Q o) the_program) (nothing_beside w) (opened t) (nothing_beside w') x → Good (nothing_beside w') (spread x)
    source-good t w w' x f e bound steps =
        let start : Good (nothing_beside w) (opened t) = record { proper = opened-proper t; formed = subst (λ (y : Tree). has_form s-Program y ≡ true) (sym (finished-opened t)) f; clear = subst (λ (y : Tree). Clear (around w.in_use y) elsewhere y) (sym (finished-opened t)) (start-clear w.in_use t f e (start-used w.in_use w.free_symbol t f bound.named)) } in
        in-a-row (all_under (with_rests Q o) (either_rule Alone NamespaceRule) (rests-apart Q form faced o) steps) (subst (λ (y : Open). Good (nothing_beside w) y) (sym (spread-opened t)) start)

    -- what is exported is what the source exports
    source-same : (t : Tree) (w w' : Whole) (x : Open) → has_form s-Program t ≡ true → place_breaks t ≡ [] → Steps (Step (with_rests Q o) the_program) (nothing_beside w) (opened t) (nothing_beside w') x → exported_in (visits [] 0 (finished x)) ≡ exported_in (visits [] 0 t)
    source-same t w w' x f e steps =
        let formed = source-form Q form faced o t w w' x f steps in
        let kept = source-places Q form faced o t w w' x f e steps in
        program-exports (finished x) formed ((law_places_proof (finished x)).to_places kept) ∙ ap lists (source-outside outside t w w' x f steps).exports ∙ sym (program-exports t f ((law_places_proof t).to_places e))

    pub source-rules : StepsKeepRules (with_rests Q o)
    source-rules t w w' x f e bound steps =
        let declared = law_declared_among_proof t e in
        let places = law_among_proof t e in
        let good = source-good t w w' x f declared bound steps in
        let once : name_breaks (finished x) ≡ [] = subst (λ (y : Tree). name_breaks y ≡ []) (finished-spread x) (clear-breaks w'.in_use (finished (spread x)) good.formed good.clear) in
        let exports : keeps_exports (finished x) ≡ true = subst (λ (y : Tree). keeps_exports y ≡ true) (finished-spread x) (clear-exports w'.in_use (finished (spread x)) good.formed good.clear) in
        law_together_proof (finished x) (source-places Q form faced o t w w' x f places steps) (same-exports t (finished x) declared (source-same t w w' x f places steps) once exports)

-- THE LAWS

-- where a declaration isn't exported
narrow-form : (R : Site → Ledger → Spot → Ledger → Spot → Type 0) → FormLawful R → FormLawful (Unexported R)
narrow-form R law = record {
  at_nodes = λ n s s' t u a slot h f. law.at_nodes n s s' t u a slot h.0 f;
  no_flanks = λ n s s' t u bs cs h. law.no_flanks n s s' t u bs cs h.0;
  at_lists = λ n s s' p q x y a b ts us h k. law.at_lists n s s' p q x y a b ts us h.0 k;
  at_bodies = λ n s s' p t u h. law.at_bodies n s s' p t u h.0;
}

narrow-faced : (R : Site → Ledger → Spot → Ledger → Spot → Type 0) → FaceLawful R → FaceLawful (Unexported R)
narrow-faced R law = record { at_nodes = λ n s s' x y h. law.at_nodes n s s' x y h.0; leaves = λ n s s' t u a up h f g. law.leaves n s s' t u a up h.0 f g }

outside-form : FormLawful OutsidePart
outside-form = both-form (narrow-form _ split-form) (both-form takes-form (both-form catch-rest-form (both-form head-rest-form (both-form target-head-form parameter-form))))

outside-faced : FaceLawful OutsidePart
outside-faced = both-faced (narrow-faced _ split-faced) (both-faced takes-faced (both-faced catch-rest-faced (both-faced head-rest-faced (both-faced target-head-faced parameter-faced))))

outside-read : ReadLawful OutsidePart
outside-read = both-read split-read (both-read takes-read (both-read catch-read (both-read head-read (both-read target-read parameter-read))))

unexported-good : GoodLawful (Unexported (Binding SplitRule))
unexported-good = record { good = λ s s' t u h. split-good.good s s' t u (step_under (Unexported (Binding SplitRule)) (Binding SplitRule) (λ n s x s' y r. r.0) h) }

outside-good : GoodLawful OutsidePart
outside-good = either-good unexported-good (either-good takes-good (either-good catch-good (either-good head-good (either-good target-good parameter-good))))

pub law_rest_outside_proof : LawRestOutside
law_rest_outside_proof o = source-outside OutsidePart outside-form outside-faced o outside-read

pub law_rest_rules_proof : LawRestRules
law_rest_rules_proof o = source-rules OutsidePart outside-form outside-faced o outside-read outside-good
