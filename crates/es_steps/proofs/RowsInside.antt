-- Steps in a row inside the fields of a node, at the sites as they were before the first, are steps of the node.
use Rattle.std.proofs.Common.{arith, ◌≡◌, ◌<◌, ◌≤◌, ℕ, refl, sym, ◌∙◌}
use Rattle.std.specs.Prelude.{Bool, true, Option}
use Rattle.std.proofs.lemmas.Slice.Eq.{bytes_eq-Decides}
use Rattle.es_tree.specs.Tree.{Label, empty, node}
use Rattle.es_tree.specs.Words.{Text}
use Rattle.es_tree.specs.declared.ast_type.AstType.{AstType}
use Rattle.es_resolution.specs.Named.{Named}
use Rattle.es_steps.specs.AllRules.{AllRules}
use Rattle.es_steps.specs.CoreRules.{rule_under}
use Rattle.es_steps.specs.Identifiers.{Passes, PassesAll, is_called}
use Rattle.es_steps.specs.Open.{OpenFields, finished_fields, open_node}
use Rattle.es_steps.specs.Sites.{AreAlike, IsLocal, LawRowsInside, LawRowsWithoutArrows, written_beside}
use Rattle.es_steps.specs.Steps.{FieldsStep, Ledger, Site, Spot, Step, Steps, site_in}
use Rattle.es_steps.specs.Steps.Ledger.{ledger}
use Rattle.es_steps.specs.Steps.Step.{inside}
use Rattle.es_steps.specs.Steps.Steps.{goes, stays}
use Rattle.es_steps.proofs.CoreLaws.{rule-under-lawful, rule-under-writes}
use Rattle.es_steps.proofs.Laws.{all-rules-lawful, all-rules-write}
use Rattle.es_steps.proofs.LocalRules.{law_core_local_proof, local-without-arrows}
use Rattle.es_steps.proofs.LocalSteps.{steps-local}
use Rattle.es_steps.proofs.Passed.{Recalled, passed, recalled, recalled-in}
use Rattle.es_steps.proofs.Passing.{passes-called, whole-passes}
use Rattle.es_steps.proofs.Sites.{law_alike_on_fewer_proof, law_alike_proof}
use Rattle.es_steps.proofs.SitesStay.{sites-stay}
use Rattle.es_steps.proofs.Taken.{Lawful, LedgerPasses, Writes, at-least, taken, whole_in}

beside-passes : (q : Text → Option ℕ → Bool) (s : Ledger) → PassesAll q (written_beside s) → LedgerPasses q s
beside-passes q (ledger w p x a) h = let parts = whole-passes q p x a empty h in record { pending = parts.0.0; this = parts.0.1; top = parts.0.2 }

up-to : (a b c : ℕ) → a ≤ b → b ≤ c → a ≤ c
up-to a b c e d = omega arith

below-more : (m a b : ℕ) → m < a → a ≤ b → m < b
below-more m a b e d = omega arith

module _ (used : Text → Bool) (R : Site → Ledger → Spot → Ledger → Spot → Type 0) (law : Lawful R) (writes : Writes R) (local : IsLocal (λ s. used) R) (n : Site) (k : AstType) (l : Label) where
  -- a step at sites that are alike
  moved : (c : ℕ → Site) (s s' : Ledger) (fs gs : OpenFields) → ((i : ℕ) → AreAlike used (c i) (site_in n k l fs i)) → FieldsStep R c s fs s' gs → FieldsStep R (site_in n k l fs) s fs s' gs
  moved c s s' fs gs a h = (steps-local (λ w. used) R local).fields c (site_in n k l fs) s s' fs gs a h

  row-recalled : (c : ℕ → Site) {s s' : Ledger} {fs gs : OpenFields} → Steps (FieldsStep R c) s fs s' gs → Recalled (whole_in s) (whole_in s')
  row-recalled c (stays {s = s}) = record { freer = at-least (whole_in s).free_symbol; same = λ m e. refl }
  row-recalled c (goes {s = s} {s' = m} {s'' = s'} one rest) =
      let a = recalled-in R law writes one in
      let b = row-recalled c rest in
      record { freer = up-to (whole_in s).free_symbol (whole_in m).free_symbol (whole_in s').free_symbol a.freer b.freer; same = λ j e. b.same j (below-more j (whole_in s).free_symbol (whole_in m).free_symbol e a.freer) ∙ a.same j e }

  row-inside : (ends : ℕ → Text) (c : ℕ → Site) {s s' : Ledger} {fs gs : OpenFields} → Steps (FieldsStep R c) s fs s' gs → ((m : ℕ) → m < (whole_in s').free_symbol → ends m ≡ (whole_in s').called m) → ((x : Text) → used x ≡ true → (whole_in s).in_use x ≡ true) → ((i : ℕ) → AreAlike used (c i) (site_in n k l fs i)) →
      Named (whole_in s).in_use (whole_in s).free_symbol n.role (node k l (finished_fields fs)) → LedgerPasses (is_called ends) s → Passes (is_called ends) (node k l (finished_fields fs)) → Steps (Step R n) s (open_node k l fs) s' (open_node k l gs) × ((i : ℕ) → AreAlike used (c i) (site_in n k l gs i))
  row-inside ends c stays end more a named beside names = (stays, a)
  row-inside ends c (goes {s = s} {s' = m} {s'' = s'} {t = fs} {u = xs} {v = gs} one rest) end more a named beside names =
      let here = moved c s m fs xs a one in
      let step : Step R n s (open_node k l fs) m (open_node k l xs) = inside here in
      let r = recalled R law writes step in
      let rs = row-recalled c rest in
      let same : (j : ℕ) → j < (whole_in m).free_symbol → ends j ≡ (whole_in m).called j = λ j e. end j (below-more j (whole_in m).free_symbol (whole_in s').free_symbol e rs.freer) ∙ rs.same j e in
      let called = passes-called (whole_in s).called ends (whole_in s).free_symbol (λ j e. same j (below-more j (whole_in s).free_symbol (whole_in m).free_symbol e r.freer) ∙ r.same j e) (whole_in s).in_use n.role (node k l (finished_fields fs)) named names in
      let o = taken R law writes step (named, called) in
      let p = passed R law writes (is_called ends) step (record { words = λ x. refl; new = λ j e d. (bytes_eq-Decides ((whole_in m).called j) (ends j)).1 (sym (same j d)) }) beside names in
      let after : (i : ℕ) → AreAlike used (c i) (site_in n k l xs i) = λ i. (law_alike_proof used).transitive (c i) (site_in n k l fs i) (site_in n k l xs i) (a i) (law_alike_on_fewer_proof (whole_in s).in_use used (site_in n k l fs i) (site_in n k l xs i) more ((sites-stay R law writes).in_fields n s m k l fs xs (record { named = named; called = called }) here i)) in
      let later = row-inside ends c rest end (λ x u. o.more x (more x u)) after o.kept.named p.1 p.0 in
      (goes step later.0, later.1)

  pub rows-inside : (s s' : Ledger) (fs gs : OpenFields) → ((x : Text) → used x ≡ true → (whole_in s).in_use x ≡ true) → Named (whole_in s).in_use (whole_in s).free_symbol n.role (node k l (finished_fields fs)) → Passes (is_called (whole_in s').called) (node k l (finished_fields fs)) → PassesAll (is_called (whole_in s').called) (written_beside s) →
      Steps (FieldsStep R (site_in n k l fs)) s fs s' gs → Steps (Step R n) s (open_node k l fs) s' (open_node k l gs) × ((i : ℕ) → AreAlike used (site_in n k l fs i) (site_in n k l gs i))
  rows-inside s s' fs gs more named names pending row = row-inside (whole_in s').called (site_in n k l fs) row (λ m e. refl) more (λ i. (law_alike_proof used).reflexive (site_in n k l fs i)) named (beside-passes (is_called (whole_in s').called) s pending) names

pub law_rows_inside_proof : LawRowsInside
law_rows_inside_proof o used math n s s' k l fs gs more h row = rows-inside used (rule_under o) (rule-under-lawful o) (rule-under-writes o) (law_core_local_proof o used math) n k l s s' fs gs more h.named h.called_so h.pending row

pub law_rows_without_arrows_proof : LawRowsWithoutArrows
law_rows_without_arrows_proof o used off math helpers n s s' k l fs gs more h row = rows-inside used (AllRules o) (all-rules-lawful o) (all-rules-write o) (local-without-arrows o used off math helpers) n k l s s' fs gs more h.named h.called_so h.pending row
