-- Steps of the core rules, of optional catch, namespace exports and object spread, and of rests in assignments keep module requests and exported names.
use Rattle.std.proofs.Common.{◌≡◌, refl, sym, ap, subst, ◌∙◌, List}
use Rattle.std.specs.Prelude.{true, false, is_some}
use Rattle.es_tree.specs.HasForm.{has_form}
use Rattle.es_tree.specs.Tree.{Tree}
use Rattle.es_tree.specs.Words.{Text}
use Rattle.es_tree.specs.declared.options.EnvOptions.{EnvOptions}
use Rattle.es_tree.specs.declared.table.Sort.TheVariants.{Program as s-Program}
use Rattle.es_steps.specs.NamespaceExports.{NamespaceRule}
use Rattle.es_steps.specs.Open.{Open, finished, opened}
use Rattle.es_steps.specs.Rules.{either_rule}
use Rattle.es_steps.specs.Steps.{Ledger, the_program, Step, Steps}
use Rattle.es_steps.specs.Steps.Steps.{stays, goes}
use Rattle.es_steps.proofs.BridgeInclusion.{all_under}
use Rattle.es_steps.proofs.FormOpen.{IsProper, opened-proper}
use Rattle.es_steps.proofs.FormSteps.{formed-after}
use Rattle.es_steps.proofs.Opened.{finished-opened}
use Rattle.es_valid_steps.specs.Laws.{statements_of, with_further_rules}
use Rattle.es_valid_steps.proofs.FurtherSteps.{alone, alone-form, alone-written, apart}
use Rattle.es_valid_steps.proofs.NamespaceRows.{program-left}
use Rattle.es_valid_steps.proofs.ProgramLists.{program-exported}
use Rattle.es_valid_steps.proofs.Spread.{finished-spread, spread, spread-opened}
use Rattle.es_valid_steps.proofs.SpreadSteps.{SameBoth, Went, spread-step}
use Rattle.es_valid_steps.proofs.SpreadSteps.Went.{moves, rests, leaves}
use Rattle.es_module_names.specs.Laws.{LawOutside, LawOutsideReached, SameOutside}
use Rattle.es_module_names.specs.Modules.{exported, request, star_request, texts_among}
use Rattle.es_module_names.proofs.HeldSteps.{named-read, none-hides}
use Rattle.es_module_names.proofs.ProgramLists.{IsReading, exported-reading, exported-texts-after, request-reading, star-reading, texts-after, top-imports}
use Rattle.es_module_names.proofs.RuleKinds.{NamesLawful, both-lawful, catch-lawful, on-lawful, rest-assignment-lawful, spread-lawful, under-lawful}

-- THE RULES that put no statement beside another, and the one that does

pub alone-names : (o : EnvOptions) → NamesLawful (alone o)
alone-names o = both-lawful (under-lawful o) (both-lawful (on-lawful o.es2019.optional_catch_binding _ catch-lawful) (on-lawful (is_some o.es2018.object_rest_spread) _ (both-lawful spread-lawful rest-assignment-lawful)))

-- STEPS

-- what is read off the list of a program
abbrev Read : (Tree → List Text) → Open → List Text
Read read x = texts_among read (statements_of (finished x))

record Left (read : Tree → List Text) (x y : Open) : Type 0 where
  proper : IsProper y
  formed : has_form s-Program (finished y) ≡ true
  same : Read read y ≡ Read read x

module _ (read : Tree → List Text) (r : IsReading read) (o : EnvOptions) where
  one-step : {s s' : Ledger} {t u : Open} → Step (either_rule (alone o) NamespaceRule) the_program s t s' u → IsProper (spread t) → has_form s-Program (finished (spread t)) ≡ true → Left read (spread t) (spread u)
  one-step {s} {s'} {t} {u} h proper f = at (spread-step (alone o) NamespaceRule (alone-form o).no_flanks (alone-written o) h)
    where
      at : Went (Step (alone o) the_program s (spread t) s' (spread u)) (SameBoth s (spread t) s' (spread u)) (Step NamespaceRule the_program s t s' u) → Left read (spread t) (spread u)
      at (moves step) =
          let next = formed-after (alone o) (alone-form o) step s-Program (λ e. absurd (cc e)) proper f in
          record { proper = next.proper; formed = next.formed; same = texts-after read r top-imports (λ up. false) none-hides (alone o) (alone-form o) (named-read (λ up. false) (alone o) (alone-names o)) step (λ e. absurd (cc e)) (λ e. absurd (cc e)) proper next.proper f }
      at (rests e) = subst (λ (x : Open). Left read (spread t) x) e.1 (record { proper = proper; formed = f; same = refl })
      at (leaves step) =
          let export = program-exported step (subst (λ (x : Tree). has_form s-Program x ≡ true) (finished-spread t) f) in
          let next = program-left export proper f in
          record { proper = next.proper; formed = next.formed; same = exported-texts-after read r top-imports export proper next.proper }

  in-a-row : {s s' : Ledger} {t u : Open} → Steps (Step (either_rule (alone o) NamespaceRule) the_program) s t s' u → IsProper (spread t) → has_form s-Program (finished (spread t)) ≡ true → Read read (spread u) ≡ Read read (spread t)
  in-a-row stays proper f = refl
  in-a-row (goes h rest) proper f = let a = one-step h proper f in in-a-row rest a.proper a.formed ∙ a.same

  -- from a source
  source-texts : {s s' : Ledger} (t : Tree) {x : Open} → Steps (Step (with_further_rules o) the_program) s (opened t) s' x → has_form s-Program t ≡ true → Read read x ≡ texts_among read (statements_of t)
  source-texts t {x} h f =
      let before : finished (spread (opened t)) ≡ t = finished-spread (opened t) ∙ finished-opened t in
      let proper = subst (λ (y : Open). IsProper y) (sym (spread-opened t)) (opened-proper t) in
      let formed = subst (λ (y : Tree). has_form s-Program y ≡ true) (sym before) f in
      let all = all_under (with_further_rules o) (either_rule (alone o) NamespaceRule) (apart o) h in
      sym (ap (λ y. texts_among read (statements_of y)) (finished-spread x)) ∙ in-a-row all proper formed ∙ ap (λ y. texts_among read (statements_of y)) before

-- THE LAWS

pub law_outside_proof : LawOutside
law_outside_proof o t w w' x f steps = record {
  requests = source-texts request request-reading o t steps f;
  stars = source-texts star_request star-reading o t steps f;
  exports = source-texts exported exported-reading o t steps f;
}

pub law_outside_reached_proof : LawOutsideReached
law_outside_reached_proof o p q w w' f steps = subst (λ (y : Tree). SameOutside p y) (finished-opened q) (law_outside_proof o p w w' (opened q) f steps)
