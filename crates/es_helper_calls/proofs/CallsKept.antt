-- A program in which parts of calls give way to names that aren't empty has form, breaks no static rule, and is the same to other modules.
use Rattle.std.proofs.Common.{◌≡◌, ◌∙◌, refl, sym, ap, subst, List, []}
use Rattle.std.specs.Prelude.{true, false}
use Rattle.es_tree.specs.Ancestors.{visits}
use Rattle.es_tree.specs.HasForm.{has_form}
use Rattle.es_tree.specs.StaticRules.{breaks}
use Rattle.es_tree.specs.Tree.{Tree}
use Rattle.es_tree.specs.Words.{Text}
use Rattle.es_tree.specs.declared.table.Sort.TheVariants.{Program as s-Program}
use Rattle.es_resolution.specs.Declarations.{Bound}
use Rattle.es_steps.specs.Laws.{IsWellBound, nothing_beside}
use Rattle.es_steps.specs.Open.{Open, finished, opened}
use Rattle.es_steps.specs.Steps.{Ledger, Step, Steps, Whole, the_program}
use Rattle.es_steps.specs.Steps.Steps.{goes, stays}
use Rattle.es_steps.proofs.FormOpen.{IsProper, opened-proper}
use Rattle.es_steps.proofs.FormSteps.{formed-after, steps-keep-form}
use Rattle.es_steps.proofs.Opened.{finished-opened}
use Rattle.es_valid_steps.specs.Laws.{statements_of}
use Rattle.es_valid_steps.specs.PlaceRules.{place_breaks}
use Rattle.es_valid_steps.proofs.Visits.{law_among_proof, law_places_proof}
use Rattle.es_module_names.specs.Laws.{SameOutside}
use Rattle.es_module_names.specs.Modules.{exported, request, star_request, texts_among}
use Rattle.es_module_names.proofs.HeldSteps.{named-read, none-hides}
use Rattle.es_module_names.proofs.ProgramLists.{IsReading, exported-reading, request-reading, star-reading, texts-after, top-imports}
use Rattle.es_valid_names.specs.Laws.{declared_breaks, keeps_exports, name_breaks}
use Rattle.es_valid_names.proofs.BareNames.{law_declared_among_proof, law_together_proof}
use Rattle.es_valid_names.proofs.Claims.{Clear, elsewhere}
use Rattle.es_valid_names.proofs.ExportClashes.{same-exports}
use Rattle.es_valid_names.proofs.ExportPlaces.{exported_in}
use Rattle.es_valid_names.proofs.ExportStatements.{program-exports}
use Rattle.es_valid_names.proofs.ExportTexts.{lists}
use Rattle.es_valid_names.proofs.NameSteps.{Good, around, clear-breaks, clear-exports, one-step, start-clear}
use Rattle.es_valid_names.proofs.StartUsed.{start-used}
use Rattle.es_helper_calls.specs.CallRows.{CallRow}
use Rattle.es_helper_calls.specs.HelperCalls.{calling}
use Rattle.es_helper_calls.specs.Laws.{IsKept, IsNamed, LawCallsKept}
use Rattle.es_helper_calls.proofs.CalledTrees.{Calls}
use Rattle.es_helper_calls.proofs.CallingTrees.{calls-named, named_by}
use Rattle.es_helper_calls.proofs.CallPlaces.{places-kept}
use Rattle.es_helper_calls.proofs.CallRules.{call-form, call-names, call-quiet}
use Rattle.es_helper_calls.proofs.CallSteps.{call-steps}

abbrev Row : Ledger → Open → Ledger → Open → Type 0
Row = Steps (Step CallRow the_program)

-- OTHER MODULES: what is read off the list of the program

abbrev Read : (Tree → List Text) → Tree → List Text
Read read t = texts_among read (statements_of t)

read-in-a-row : (read : Tree → List Text) → IsReading read → {s s' : Ledger} {t u : Open} → Row s t s' u → IsProper t → has_form s-Program (finished t) ≡ true → Read read (finished u) ≡ Read read (finished t)
read-in-a-row read r stays proper f = refl
read-in-a-row read r (goes h rest) proper f =
    let next = formed-after CallRow call-form h s-Program (λ e. absurd (cc e)) proper f in
    read-in-a-row read r rest next.proper next.formed ∙ texts-after read r top-imports (λ up. false) none-hides CallRow call-form (named-read (λ up. false) CallRow call-quiet) h (λ e. absurd (cc e)) (λ e. absurd (cc e)) proper next.proper f

-- DECLARED NAMES

good-in-a-row : {s s' : Ledger} {t u : Open} → Row s t s' u → Good s t → Good s' u
good-in-a-row stays g = g
good-in-a-row (goes h rest) g = good-in-a-row rest (one-step CallRow call-form call-names h g)

module _ (P : Tree → Bound → Type 0) (named : (f : Tree) (b : Bound) → P f b → IsNamed b) (p q : Tree) (w : Whole) (calls : Calls P p q) (formed : has_form s-Program p ≡ true) where
  row : Row (nothing_beside w) (opened p) (nothing_beside w) (opened q)
  row = call-steps w P named p q calls formed

  opened-formed : has_form s-Program (finished (opened p)) ≡ true
  opened-formed = subst (λ (y : Tree). has_form s-Program y ≡ true) (sym (finished-opened p)) formed

  formed-now : has_form s-Program q ≡ true
  formed-now = subst (λ (y : Tree). has_form s-Program y ≡ true) (finished-opened q) (steps-keep-form CallRow call-form p w w (opened q) formed row)

  read-same : (read : Tree → List Text) → IsReading read → Read read q ≡ Read read p
  read-same read r = sym (ap (λ t. Read read t) (finished-opened q)) ∙ read-in-a-row read r row (opened-proper p) opened-formed ∙ ap (λ t. Read read t) (finished-opened p)

  outside-same : SameOutside p q
  outside-same = record { requests = read-same request request-reading; stars = read-same star_request star-reading; exports = read-same exported exported-reading }

  good-now : declared_breaks p ≡ [] → IsWellBound w p → Good (nothing_beside w) (opened q)
  good-now declared bound =
      good-in-a-row row (record {
        proper = opened-proper p;
        formed = opened-formed;
        clear = subst (λ (y : Tree). Clear (around w.in_use y) elsewhere y) (sym (finished-opened p)) (start-clear w.in_use p formed declared (start-used w.in_use w.free_symbol p formed bound.named));
      })

  exports-same : place_breaks p ≡ [] → place_breaks q ≡ [] → exported_in (visits [] 0 q) ≡ exported_in (visits [] 0 p)
  exports-same before_it kept = program-exports q formed-now ((law_places_proof q).to_places kept) ∙ ap (λ xs. lists xs) outside-same.exports ∙ sym (program-exports p formed ((law_places_proof p).to_places before_it))

  pub calls-kept : breaks p ≡ [] → IsWellBound w p → IsKept p q
  calls-kept e bound =
      let declared = law_declared_among_proof p e in
      let places = law_among_proof p e in
      let kept = places-kept P p q calls formed places in
      let clear = subst (λ (y : Tree). Clear (around w.in_use y) elsewhere y) (finished-opened q) (good-now declared bound).clear in
      let once : name_breaks q ≡ [] = clear-breaks w.in_use q formed-now clear in
      let exports : keeps_exports q ≡ true = clear-exports w.in_use q formed-now clear in
      record {
        form = formed-now;
        kept = law_together_proof q kept (same-exports p q declared (exports-same places kept) once exports);
        outside = outside-same;
      }

pub law_calls_kept_proof : LawCallsKept
law_calls_kept_proof p w c f e bound have = calls-kept (λ g b. IsNamed b) (λ g b h. h) p (calling (named_by c) p) w (calls-named IsNamed c p have) f e bound
