-- Steps of the lowerings leave the root of a program as it is, and what names that are in use find from the program's list.
use Rattle.std.proofs.Common.{arith, ◌≡◌, ◌≤◌, ◌<◌, ℕ, refl, sym, ap, subst, ◌∙◌}
use Rattle.std.specs.Prelude.{true, false}
use Rattle.std.proofs.lemmas.Bool.{true≢false}
use Rattle.std.proofs.lemmas.Slice.Eq.{bytes_eq-Decides}
use Rattle.es_tree.specs.HasForm.{same_type}
use Rattle.es_tree.specs.Tree.{Tree, kind_of, label_of}
use Rattle.es_tree.specs.Words.{Text}
use Rattle.es_tree.specs.declared.ast_type.AstType.{AstType}
use Rattle.es_tree.specs.declared.ast_type.AstType.TheVariants.{Program}
use Rattle.es_tree.specs.declared.options.EnvOptions.{EnvOptions}
use Rattle.es_semantic.specs.RolesOf.{reads}
use Rattle.es_resolution.specs.Named.{Named}
use Rattle.es_steps.specs.AllRules.{AllRules}
use Rattle.es_steps.specs.Identifiers.{Passes, is_called}
use Rattle.es_steps.specs.Laws.{IsWellBound, nothing_beside}
use Rattle.es_steps.specs.Open.{Open, finished, opened}
use Rattle.es_steps.specs.Sites.{StandsInUse}
use Rattle.es_steps.specs.Steps.{Ledger, Site, Spot, Step, Steps, Whole, the_program}
use Rattle.es_steps.specs.Steps.Step.{acts, inside}
use Rattle.es_steps.specs.Steps.Steps.{goes, stays}
use Rattle.es_steps.proofs.Laws.{all-rules-lawful, all-rules-write}
use Rattle.es_steps.proofs.Opened.{finished-opened}
use Rattle.es_steps.proofs.Passed.{passed, recalled}
use Rattle.es_steps.proofs.Passing.{called-passes, passes-called}
use Rattle.es_steps.proofs.SitesStay.{law_sites_proof}
use Rattle.es_steps.proofs.StepsKept.{all-recalled, none-beside}
use Rattle.es_steps.proofs.Taken.{LedgerPasses, taken, whole_in}
use Rattle.es_top_imports.specs.Laws.{list_place}
use Rattle.es_top_names.proofs.RootRules.{NeverAtProgram, all-off}

-- THE ROOT

pub record SameRoot (t u : Tree) : Type 0 where
  pub kind : kind_of u ≡ kind_of t
  pub label : label_of u ≡ label_of t

-- what is off a program isn't one
not-there : (k : AstType) → k ≡ Program → same_type k Program ≡ false → ⊥
not-there k e off = true≢false (sym (ap (λ j. same_type j Program) e) ∙ off)

there : (t : Tree) → kind_of (finished (opened t)) ≡ Program → kind_of t ≡ Program
there t e = sym (ap kind_of (finished-opened t)) ∙ e

root-step : (R : Site → Ledger → Spot → Ledger → Spot → Type 0) → NeverAtProgram R → {n : Site} {s s' : Ledger} {t u : Open} → kind_of (finished t) ≡ Program → Step R n s t s' u → SameRoot (finished t) (finished u)
root-step R off program (acts {n = n} {s = s} {s' = s'} t u r) = absurd (not-there (kind_of t) (there t program) (off n s s' _ _ r))
root-step R off program (inside h) = record { kind = refl; label = refl }

pub root-steps : (R : Site → Ledger → Spot → Ledger → Spot → Type 0) → NeverAtProgram R → {n : Site} {s s' : Ledger} {t u : Open} → kind_of (finished t) ≡ Program → Steps (Step R n) s t s' u → SameRoot (finished t) (finished u)
root-steps R off program stays = record { kind = refl; label = refl }
root-steps R off program (goes one rest) =
    let a = root-step R off program one in
    let b = root-steps R off (a.kind ∙ program) rest in
    record { kind = b.kind ∙ a.kind; label = b.label ∙ a.label }

-- THE LIST

module _ (o : EnvOptions) where
  list-step : {s s' : Ledger} {t u : Open} → kind_of (finished t) ≡ Program → StandsInUse (whole_in s) reads (finished t) → Step (AllRules o) the_program s t s' u → (x : Text) → (whole_in s).in_use x ≡ true → (list_place (finished u)).scope x ≡ (list_place (finished t)).scope x
  list-step program used (acts {n = n} {s = s} {s' = s'} t u r) x e = absurd (not-there (kind_of t) (there t program) (all-off o n s s' _ _ r))
  list-step program used (inside {s = s} {s' = s'} {k = k} {l = l} {fs = fs} {gs = gs} h) x e = ((law_sites_proof o).in_fields the_program s s' k l fs gs used h 1).scope x e

  -- where each symbol has the name that it has in the end
  list-steps : (ends : ℕ → Text) {s s' : Ledger} {t u : Open} → Steps (Step (AllRules o) the_program) s t s' u → ((m : ℕ) → m < (whole_in s').free_symbol → ends m ≡ (whole_in s').called m) → kind_of (finished t) ≡ Program → Named (whole_in s).in_use (whole_in s).free_symbol reads (finished t) →
      LedgerPasses (is_called ends) s → Passes (is_called ends) (finished t) → (x : Text) → (whole_in s).in_use x ≡ true → (list_place (finished u)).scope x ≡ (list_place (finished t)).scope x
  list-steps ends stays end program used beside names x e = refl
  list-steps ends (goes {s = s} {s' = m} {t = t} {u = u} one rest) end program used beside names x e =
      let law = all-rules-lawful o in
      let writes = all-rules-write o in
      let r = recalled (AllRules o) law writes one in
      let rs = all-recalled (AllRules o) law writes rest in
      let same : (k : ℕ) → k < (whole_in m).free_symbol → ends k ≡ (whole_in m).called k = λ k d. end k (up-to k (whole_in m).free_symbol _ d rs.freer) ∙ rs.same k d in
      let called = passes-called (whole_in s).called ends (whole_in s).free_symbol (λ k d. same k (up-to k (whole_in s).free_symbol (whole_in m).free_symbol d r.freer) ∙ r.same k d) (whole_in s).in_use reads (finished t) used names in
      let after = taken (AllRules o) law writes one (used, called) in
      let k = passed (AllRules o) law writes (is_called ends) one (record { words = λ y. refl; new = λ k a d. (bytes_eq-Decides ((whole_in m).called k) (ends k)).1 (sym (same k d)) }) beside names in
      let root = root-step (AllRules o) (all-off o) program one in
      list-steps ends rest end (root.kind ∙ program) after.kept.named k.1 k.0 x (after.more x e) ∙ list-step program (record { named = used; called = called }) one x e
    where
      up-to : (k a b : ℕ) → k < a → a ≤ b → k < b
      up-to k a b e d = omega arith

  -- A name that is in use finds from the list of a program what it found before the steps, whatever they are.
  pub list-kept : (t : Tree) (w w' : Whole) (u : Open) → kind_of t ≡ Program → IsWellBound w t → Steps (Step (AllRules o) the_program) (nothing_beside w) (opened t) (nothing_beside w') u → (x : Text) → w.in_use x ≡ true → (list_place (finished u)).scope x ≡ (list_place t).scope x
  list-kept t w w' u program h steps x e =
      let law = all-rules-lawful o in
      let writes = all-rules-write o in
      let r = all-recalled (AllRules o) law writes steps in
      let names = called-passes w.called w'.called w.free_symbol r.same w.in_use reads t h.named h.called h.class_names in
      let opens = λ (P : Tree → Type 0) (z : P t). subst P (sym (finished-opened t)) z in
      list-steps w'.called steps (λ m d. refl) (opens (λ a. kind_of a ≡ Program) program) (opens (λ a. Named w.in_use w.free_symbol reads a) h.named) (none-beside (is_called w'.called) w) (opens (λ a. Passes (is_called w'.called) a) names) x e
      ∙ ap (λ (a : Tree). (list_place a).scope x) (finished-opened t)
