-- Where a script's own scope binds no `require`, nor does that of what the lowerings make of it.
use Rattle.std.proofs.Common.{◌≡◌, refl, sym, ap, ◌∙◌, List, [], ◌∷◌}
use Rattle.std.specs.Prelude.{Bool, true, false, ◌&&◌, ◌||◌, not, is_some, codes}
use Rattle.es_tree.specs.Fresh.{is_among}
use Rattle.es_tree.specs.HasForm.{has_form}
use Rattle.es_tree.specs.Names.{names_of}
use Rattle.es_tree.specs.StaticRules.{breaks}
use Rattle.es_tree.specs.Tree.{Tree}
use Rattle.es_tree.specs.Words.{Text}
use Rattle.es_tree.specs.declared.options.EnvOptions.{EnvOptions}
use Rattle.es_tree.specs.declared.table.Sort.TheVariants.{Program as s-Program}
use Rattle.es_semantic.specs.SymbolsOf.{find, symbols_of}
use Rattle.es_helper_calls.specs.Importing.{is_module}
use Rattle.es_resolution.specs.Laws.{source}
use Rattle.es_resolution.proofs.Sources.{law_resolved_proof}
use Rattle.es_steps.specs.AllRules.{AllRules}
use Rattle.es_steps.specs.CoreBridge.{first_whole}
use Rattle.es_steps.specs.Laws.{IsWellBound}
use Rattle.es_steps.specs.Open.{opened}
use Rattle.es_steps.specs.Steps.{Ledger, Site, Spot}
use Rattle.es_steps.proofs.BridgeInclusion.{all_under}
use Rattle.es_steps.proofs.Laws.{law_reached_proof}
use Rattle.es_steps.proofs.Opened.{finished-opened}
use Rattle.es_lowered.specs.Lowered.{IsLowered, part_rules}
use Rattle.es_reached.specs.Reached.{IsResultOf}
use Rattle.es_reached.proofs.Results.{form-same, program-kind, source-form, source-well-bound}
use Rattle.es_reached.proofs.Sources.{law_bare_source_proof}
use Rattle.es_top_imports.specs.Laws.{list_place}
use Rattle.es_top_names.specs.TopNames.{LawRequireFree}
use Rattle.es_helper_imports.proofs.BareLists.{lists-alike, none-found}
use Rattle.es_top_names.proofs.RootRules.{parts-all}
use Rattle.es_top_names.proofs.RootSteps.{list-kept}
use Rattle.es_top_names.proofs.SameSort.{law_same_sort_proof}
use Rattle.es_top_names.proofs.SourceList.{source-found}

-- A name that is in use finds a symbol from the list of what rules make of a program, which are among all, where the program's own scope binds it.
pub found-after : (o : EnvOptions) (R : Site → Ledger → Spot → Ledger → Spot → Type 0) → ((n : Site) (s : Ledger) (x : Spot) (s' : Ledger) (y : Spot) → R n s x s' y → AllRules o n s x s' y) →
    (p q : Tree) (names : List Text) → has_form s-Program p ≡ true → breaks p ≡ [] → IsResultOf R p q names → (x : Text) → (first_whole p).in_use x ≡ true → is_some ((list_place (source q)).scope x) ≡ is_some (find (symbols_of p) (0 ∷ []) x)
found-after o R among p q names form right h x used =
    let first = first_whole p in
    let start = source p in
    let program = program-kind start (source-form p form) in
    let bound = source-well-bound p form right in
    let steps = all_under R (AllRules o) among h.reached.steps in
    let after : IsWellBound h.reached.whole h.resolved = law_reached_proof o start h.resolved first h.reached.whole program bound steps in
    let kept : (list_place h.resolved).scope x ≡ (list_place start).scope x = sym (ap (λ (t : Tree). (list_place t).scope x) (finished-opened h.resolved)) ∙ list-kept o start first h.reached.whole (opened h.resolved) program bound steps x used in
    lists-alike h.resolved (source q) (program-kind h.resolved (form-same q h.resolved (sym h.written) h.form)) (program-kind (source q) (source-form q h.form)) after.resolved (law_resolved_proof q h.form) (h.written ∙ sym (law_bare_source_proof q)) x
    ∙ ap is_some (kept ∙ source-found p form x)

pub lowered-finds : (o : EnvOptions) (p q : Tree) (names : List Text) → has_form s-Program p ≡ true → breaks p ≡ [] → IsLowered o p q names → (x : Text) → (first_whole p).in_use x ≡ true → is_some ((list_place (source q)).scope x) ≡ is_some (find (symbols_of p) (0 ∷ []) x)
lowered-finds o p q names form right h x used = found-after o (part_rules o) (parts-all o) p q names form right h.parts x used

-- in a script, as `binds_require` asks
unbound-script : (is found : Bool) → is ≡ false → (not is && found) ≡ false → found ≡ false
unbound-script false found e h = h
unbound-script true found e h = absurd (cc e)

or-last : (b : Bool) → (b || true) ≡ true
or-last true = refl
or-last false = refl

pub law_require_free_proof : LawRequireFree
law_require_free_proof o p q names form right h unbound script =
    let require = codes "require" in
    let there = sym (law_same_sort_proof o p q names form right h) ∙ script in
    let none = unbound-script (is_module p) (is_some (find (symbols_of p) (0 ∷ []) require)) there unbound in
    none-found ((list_place (source q)).scope require) (lowered-finds o p q names form right h require (or-last (is_among (names_of p) require)) ∙ none)
