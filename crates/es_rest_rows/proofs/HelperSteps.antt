-- Steps leave `babelHelpers` unbound: what they move was there, and a name that they make isn't in use before, as that one is.
use Rattle.std.proofs.Common.{◌≡◌, ℕ, zero, suc, inl, inr, refl, sym, subst, List, [], ◌∷◌}
use Rattle.std.proofs.lemmas.Bool.{or_parts, or_right}
use Rattle.std.specs.Prelude.{◌⊎◌, ◌&&◌, Bool, true, false, not, Option, Some, None, bytes_eq, is_some}
use Rattle.es_tree.specs.Fresh.{is_among}
use Rattle.es_tree.specs.HasForm.{has_form}
use Rattle.es_tree.specs.Names.{names_of}
use Rattle.es_tree.specs.StaticRules.{breaks}
use Rattle.es_tree.specs.Tree.{Tree}
use Rattle.es_tree.specs.Words.{Text}
use Rattle.es_tree.specs.declared.options.EnvOptions.{EnvOptions}
use Rattle.es_tree.specs.declared.table.Sort.TheVariants.{Program as s-Program}
use Rattle.es_semantic.specs.RolesOf.{reads}
use Rattle.es_semantic.specs.SymbolsOf.{Declared, symbols_of}
use Rattle.es_resolution.specs.Called.{name_at}
use Rattle.es_resolution.specs.Laws.{source}
use Rattle.es_resolution.proofs.Basics.{bytes_eq-equal}
use Rattle.es_steps.specs.AllRules.{AllRules}
use Rattle.es_steps.specs.CoreBridge.{Reached, first_whole, is_written_name}
use Rattle.es_steps.specs.Identifiers.{Passes, is_called}
use Rattle.es_steps.specs.Laws.{nothing_beside}
use Rattle.es_steps.specs.Open.{Open, finished, opened}
use Rattle.es_steps.specs.Steps.{Ledger, Site, Spot, Step, Steps, Whole, the_program}
use Rattle.es_steps.specs.Steps.Steps.{goes, stays}
use Rattle.es_steps.specs.UsingBlocks.{error_name}
use Rattle.es_steps.proofs.BridgeInclusion.{all_under}
use Rattle.es_steps.proofs.Laws.{all-rules-lawful, all-rules-write}
use Rattle.es_steps.proofs.Opened.{finished-opened}
use Rattle.es_steps.proofs.Passed.{passed}
use Rattle.es_steps.proofs.Passing.{called-passes, passes-less}
use Rattle.es_steps.proofs.Start.{law_start_proof}
use Rattle.es_steps.proofs.StepsKept.{none-beside}
use Rattle.es_steps.proofs.Taken.{Allows, Lawful, LedgerPasses, Writes, at-least, whole_in}
use Rattle.es_arrow_steps.proofs.Onward.{onward}
use Rattle.es_arrow_steps.proofs.OwnNames.{Numbers}
use Rattle.es_arrow_steps.proofs.RuleMoves.{all-act}
use Rattle.es_reached.specs.Reached.{built_rules}
use Rattle.es_reached.proofs.BuiltRules.{built-all}
use Rattle.es_rest_shapes.specs.HelperNames.{binds_helpers}
use Rattle.es_rest_rows.specs.Laws.{LawHelpersUnbound}
use Rattle.es_rest_rows.proofs.HelperNames.{helpers_name, is_other_name, passes-unbound}

-- NEW NAMES

pub word-other : (x : Text) → is_other_name x None ≡ true
word-other x = at (bytes_eq x helpers_name)
  where
    at : (v : Bool) → not (v && false) ≡ true
    at true = refl
    at false = refl

pub name-other : (x : Text) (s : Option ℕ) → bytes_eq x helpers_name ≡ false → is_other_name x s ≡ true
name-other x s e = λ i. not (e i && is_some s)

pub apart : (v : Bool) → v ≡ true → v ≡ false → ⊥
apart v e d = absurd (cc (e, d))

no-helpers : (w : Whole) (y : Text) → w.in_use helpers_name ≡ true → (w.in_use y ≡ false) ⊎ (y ≡ error_name) → bytes_eq y helpers_name ≡ false
no-helpers w y used h = at (bytes_eq y helpers_name) refl h
  where
    at : (v : Bool) → bytes_eq y helpers_name ≡ v → (w.in_use y ≡ false) ⊎ (y ≡ error_name) → v ≡ false
    at false e k = refl
    at true e (inl k) = absurd (apart (w.in_use helpers_name) used (subst (λ (z : Text). w.in_use z ≡ false) (bytes_eq-equal y helpers_name e) k))
    at true e (inr k) = absurd (apart (bytes_eq error_name helpers_name) (subst (λ (z : Text). bytes_eq z helpers_name ≡ true) k e) refl)

other-allowed : (w w' : Whole) → Numbers w w' → w.in_use helpers_name ≡ true → Allows is_other_name w w'
other-allowed w w' h used = record { words = word-other; new = λ m e d. name-other (w'.called m) (Some m) (no-helpers w (w'.called m) used (h.new m e d).1) }

-- STEPS

-- `babelHelpers` is in use, and nowhere bound
pub record Unbound (s : Ledger) (t : Open) : Type 0 where
  pub used : (whole_in s).in_use helpers_name ≡ true
  pub beside : LedgerPasses is_other_name s
  pub names : Passes is_other_name (finished t)

module _ (R : Site → Ledger → Spot → Ledger → Spot → Type 0) (law : Lawful R) (writes : Writes R) where
  pub still-unbound : {n : Site} {s s' : Ledger} {t u : Open} → Numbers (whole_in s) (whole_in s') → Step R n s t s' u → Unbound s t → Unbound s' u
  still-unbound {s = s} {s' = s'} h one k =
      let after = passed R law writes is_other_name one (other-allowed (whole_in s) (whole_in s') h k.used) k.beside k.names in
      record { used = h.more helpers_name k.used; beside = after.1; names = after.0 }

-- from a program
pub first-unbound : (w : Whole) (t : Tree) → w.in_use helpers_name ≡ true → Passes is_other_name t → Unbound (nothing_beside w) (opened t)
first-unbound w t used h = record { used = used; beside = none-beside is_other_name w; names = subst (λ (z : Tree). Passes is_other_name z) (sym (finished-opened t)) h }

-- THE BUILT RULES

module _ (o : EnvOptions) where
  all-unbound : {s s' : Ledger} {t u : Open} → Steps (Step (AllRules o) the_program) s t s' u → Unbound s t → Unbound s' u
  all-unbound stays h = h
  all-unbound (goes one rest) h = all-unbound rest (still-unbound (AllRules o) (all-rules-lawful o) (all-rules-write o) (onward (AllRules o) (all-act o) one).numbers one h)

-- no symbol of a program is called so
name-none : (ds : List Declared) → binds_helpers ds ≡ false → (s : ℕ) → bytes_eq (name_at ds s) helpers_name ≡ false
name-none [] h s = refl
name-none (d ∷ ds) h zero = (or_parts (bytes_eq d.name helpers_name) (binds_helpers ds) h).0
name-none (d ∷ ds) h (suc s) = name-none ds (or_parts (bytes_eq d.name helpers_name) (binds_helpers ds) h).1 s

called-other : (called : ℕ → Text) → ((s : ℕ) → bytes_eq (called s) helpers_name ≡ false) → (x : Text) (s : Option ℕ) → is_called called x s ≡ true → is_other_name x s ≡ true
called-other called h x None e = word-other x
called-other called h x (Some m) e = name-other x (Some m) (subst (λ (z : Text). bytes_eq z helpers_name ≡ false) (sym (bytes_eq-equal x (called m) e)) (h m))

-- what the built rules reach from a program that binds no such name
pub reached-unbound : (o : EnvOptions) (p r : Tree) (names : List Text) → has_form s-Program p ≡ true → breaks p ≡ [] → binds_helpers (symbols_of p) ≡ false → (h : Reached (built_rules o) p (first_whole p) names r) → Unbound (nothing_beside h.whole) (opened r)
reached-unbound o p r names form right none reached =
    let w = first_whole p in
    let start = law_start_proof p w form right (λ x e. rw e) (at-least w.free_symbol) (λ s. refl) in
    let called = called-passes w.called w.called w.free_symbol (λ m e. refl) w.in_use reads (source p) start.named start.called start.class_names in
    let others = passes-less (is_called w.called) is_other_name (called-other w.called (name-none (symbols_of p) none)) (source p) called in
    let first = first-unbound w (source p) (or_right (is_among (names_of p) helpers_name) (is_written_name helpers_name) refl) others in
    all-unbound o (all_under (built_rules o) (AllRules o) (built-all o) reached.steps) first

pub law_helpers_unbound_proof : LawHelpersUnbound
law_helpers_unbound_proof o p r names form right none reached = passes-unbound r (subst (λ (z : Tree). Passes is_other_name z) (finished-opened r) (reached-unbound o p r names form right none reached).names)
