-- What is pending stands in lists of the program: where nothing is pending outside it before a step, and nothing in the end, nothing is after the step.
use Rattle.std.proofs.Common.{arith, ◌<◌, ◌≤◌, ◌≡◌, ℕ, sym, ap, subst, ◌∙◌, List, [], ◌∷◌}
use Rattle.std.specs.Prelude.{map}
use Rattle.es_tree.specs.Tree.{Tree}
use Rattle.es_tree.specs.Words.{Text}
use Rattle.es_semantic.specs.RolesOf.{reads}
use Rattle.es_resolution.specs.Declarations.{Bound}
use Rattle.es_resolution.specs.Named.{Named}
use Rattle.es_steps.specs.Identifiers.{Passes, is_called}
use Rattle.es_steps.specs.Laws.{nothing_beside}
use Rattle.es_steps.specs.Nodes.{declarator}
use Rattle.es_steps.specs.Open.{Open, Pending, finished}
use Rattle.es_steps.specs.Steps.{Ledger, Site, Spot, Step, Steps, Whole, the_program}
use Rattle.es_steps.specs.Steps.Ledger.{ledger}
use Rattle.es_steps.specs.Steps.Steps.{goes, stays}
use Rattle.es_steps.proofs.Kept.{Change}
use Rattle.es_steps.proofs.Kept.Change.{above, below, lexed, sealed}
use Rattle.es_steps.proofs.Passed.{recalled}
use Rattle.es_steps.proofs.Passing.{passes-called}
use Rattle.es_steps.proofs.StepsKept.{IsClean}
use Rattle.es_steps.proofs.Taken.{After, Goes, Lawful, Writes, taken, whole_in}
use Rattle.es_steps.proofs.Taken.Goes.{to_list, to_this}

-- one step more
pub one-more : {X : Type 0} {S : Ledger → X → Ledger → X → Type 0} {s s' s'' : Ledger} {t u v : X} → Steps S s t s' u → S s' u s'' v → Steps S s t s'' v
one-more stays k = goes k stays
one-more (goes h rest) k = goes h (one-more rest k)

-- nothing but the whole is in a ledger
abbrev pub IsAlone : Ledger → Type 0
IsAlone s = s ≡ nothing_beside (whole_in s)

no-trees : (t : Tree) (ts : List Tree) → ◌≡◌ {A = List Tree} (t ∷ ts) [] → ⊥
no-trees t ts e = absurd (cc e)

left-alone : (c : Change) (g : Goes) (given : List Bound) (w : Whole) (s : Ledger) → After c g given (nothing_beside w) s → IsClean s → IsAlone s
left-alone above to_list [] w (ledger w' p x a) e d = λ i. ledger w' (e.pending i) (e.this i) (e.top i)
left-alone above to_list (b ∷ bs) w (ledger w' p x a) e d = absurd (no-trees (declarator b) (map declarator bs) (sym (ap (λ (z : Pending). z.vars) e.pending) ∙ d.vars))
left-alone above to_this given w (ledger w' p x a) e d = absurd (cc (e.after, d.this))
left-alone below g given w (ledger w' p x a) e d = λ i. ledger w' (e.pending i) (e.this i) (e.top i)
left-alone lexed g given w (ledger w' p x a) e d = λ i. ledger w' (e.pending i) (e.this i) (e.top i)
left-alone sealed g given w (ledger w' p x a) e d = λ i. ledger w' (e.pending i) (e.this i) (e.top i)

-- where each symbol has the name that it has in the end
pub alone-after : (R : Site → Ledger → Spot → Ledger → Spot → Type 0) (law : Lawful R) (writes : Writes R) (ends : ℕ → Text) {s s' : Ledger} {t u : Open} → Step R the_program s t s' u → ((m : ℕ) → m < (whole_in s').free_symbol → ends m ≡ (whole_in s').called m) →
    Named (whole_in s).in_use (whole_in s).free_symbol reads (finished t) → Passes (is_called ends) (finished t) → IsAlone s → IsClean s' → IsAlone s'
alone-after R law writes ends {s = s} {s' = s'} {t = t} {u = u} h same used names alone clean =
    let r = recalled R law writes h in
    let o = taken R law writes h (used, passes-called (whole_in s).called ends (whole_in s).free_symbol (λ k e. same k (longer k e r.freer) ∙ r.same k e) (whole_in s).in_use reads (finished t) used names) in
    left-alone o.change o.goes o.given (whole_in s) s' (subst (λ (z : Ledger). After o.change o.goes o.given z s') alone o.beside) clean
  where
    longer : (k : ℕ) → k < (whole_in s).free_symbol → (whole_in s).free_symbol ≤ (whole_in s').free_symbol → k < (whole_in s').free_symbol
    longer k d e = omega arith
