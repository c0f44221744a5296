-- At the end of a chain: where the source is cut short, the result takes its short side.
use Rattle.std.proofs.Common.{◌≡◌, refl, List, [], ◌∷◌, ap, sym, subst, ◌∙◌}
use Rattle.std.specs.Prelude.{Bool, true, false, if◌then◌else◌}
use Rattle.es_tree.specs.Tree.{Tree, Label}
use Rattle.es_runs.specs.Alike.{Frame, Same, Alike}
use Rattle.es_runs.specs.Alike.Same.{both_give, both_stop, outside, at_fault}
use Rattle.es_runs.specs.Core.{World, Reference, Meaning, value, as_plain, chain, closed_result, meaning}
use Rattle.es_runs.specs.Core.Reference.{plain}
use Rattle.es_runs.specs.Machine.{Value, M, ◌>>=◌, onward, stop, State, Result, is_true}
use Rattle.es_runs.specs.Machine.Value.{undefined}
use Rattle.es_runs.specs.Machine.Stop.{throws, waits, uncallable, cut, unknown, breaks, continues, out_of_turns, faults}
use Rattle.es_runs.specs.Machine.Result.{gives, stops}
use Rattle.es_runs.specs.OptionalChaining.{has_tests, joined_by_or, where_short}
use Rattle.es_runs.specs.Rules.{strays}
use Rattle.es_runs.proofs.NoStray.{value_uncut}
use Rattle.es_runs.proofs.Temporary.{onward_onward, plain_again}
use Rattle.es_runs.proofs.Uncut.{Goes, NeverCut}
use Rattle.es_runs.proofs.OptionalChainingNullChecks.{joined_tries, passes, tries, tries_then}
use Rattle.es_runs.proofs.OptionalChainingUncut.{AllTidy}

-- something else where a result is cut short
abbrev pub instead : {A : Type 0} → (State → Result A) → Result A → Result A
instead after (stops cut s) = after s
instead after r = r

instead_goes : {A : Type 0} (after : State → Result A) (r : Result A) → Goes r → r ≡ instead after r
instead_goes after (gives a s) h = refl
instead_goes after (stops (throws u) s) h = refl
instead_goes after (stops waits s) h = refl
instead_goes after (stops uncallable s) h = refl
instead_goes after (stops cut s) h = absurd h
instead_goes after (stops unknown s) h = refl
instead_goes after (stops (breaks l) s) h = refl
instead_goes after (stops (continues l) s) h = refl
instead_goes after (stops out_of_turns s) h = refl
instead_goes after (stops (faults z) s) h = refl

-- what is done with a chain's reference, from what is done with its content's
chain_then : {A : Type 0} (k : Reference → M A) → ((r : Reference) → NeverCut (k r)) → (q : Result Reference) → onward (closed_result q) k ≡ instead (k (plain undefined)) (onward q k)
chain_then k h (gives r s) = instead_goes (k (plain undefined)) (k r s) (h r s)
chain_then k h (stops (throws u) s) = refl
chain_then k h (stops waits s) = refl
chain_then k h (stops uncallable s) = refl
chain_then k h (stops cut s) = refl
chain_then k h (stops unknown s) = refl
chain_then k h (stops (breaks l) s) = refl
chain_then k h (stops (continues l) s) = refl
chain_then k h (stops out_of_turns s) = refl
chain_then k h (stops (faults z) s) = refl

module _ (F : Frame) {A B : Type 0} (R : A → B → Type 0) where
  gone : (after : State → Result A) {r : Result A} {q : Result B} → Goes q → Same F R r q → Same F R (instead after r) q
  gone after h (both_give e g) = both_give e g
  gone after h (both_stop {w = throws u} g) = both_stop g
  gone after h (both_stop {w = waits} g) = both_stop g
  gone after h (both_stop {w = uncallable} g) = both_stop g
  gone after h (both_stop {w = unknown} g) = both_stop g
  gone after h (both_stop {w = breaks l} g) = both_stop g
  gone after h (both_stop {w = continues l} g) = both_stop g
  gone after h (both_stop {w = out_of_turns} g) = both_stop g
  gone after h (both_stop {w = faults z} g) = both_stop g
  gone after h (both_stop {w = cut} g) = absurd h
  gone after h outside = outside
  gone after h (at_fault h0) = at_fault h0

  module _ (v : World) (others : (t : Tree) → strays false t ≡ false → NeverCut (v.other t)) (after : State → Result A) (short long : M B) (long_goes : NeverCut long) (short_same : Alike F R after short) where
    cut_here : (t : State) {r : Result A} → Same F R r (stops cut t) → Same F R (instead after r) (short t)
    cut_here t (both_stop {s = s} g) = short_same s t g
    cut_here t outside = outside
    cut_here t (at_fault h0) = at_fault h0

    -- tests that cut short choose the short side instead
    settled : (ts : List Tree) → AllTidy ts → (r : Result A) (t : State) → Same F R r (passes v ts long t) → Same F R (instead after r) (tries v ts short long t)
    settled [] tidy r t h = gone after (long_goes t) h
    settled (t1 ∷ ts) tidy r t h = at (value v (meaning v t1) t) (value_uncut v others t1 tidy.0 t) h (λ z k. settled ts tidy.1 r z k)
      where
        by_test : (b : Bool) (z : State) → Same F R r ((if b then stop cut else passes v ts long) z) → ((z : State) → Same F R r (passes v ts long z) → Same F R (instead after r) (tries v ts short long z)) → Same F R (instead after r) ((if b then short else tries v ts short long) z)
        by_test true z k rest = cut_here z k
        by_test false z k rest = rest z k

        at : (q : Result Value) → Goes q → Same F R r (onward q (λ b. if is_true b then stop cut else passes v ts long)) → ((z : State) → Same F R r (passes v ts long z) → Same F R (instead after r) (tries v ts short long z)) →
            Same F R (instead after r) (onward q (λ b. if is_true b then short else tries v ts short long))
        at (gives b z) e k rest = by_test (is_true b) z k rest
        at (stops n z) e k rest = gone after e k

-- What is done with a chain, and with what its content becomes, by tests: from what is done with the content.
pub ended : (F : Frame) {A B : Type 0} (R : A → B → Type 0) (w v : World) → ((t : Tree) → strays false t ≡ false → NeverCut (v.other t)) → (source : Meaning) (ts : List Tree) → AllTidy ts → (k : Reference → M A) → ((r : Reference) → NeverCut (k r)) → (short long : M B) → NeverCut long →
    Alike F R (k (plain undefined)) short → Alike F R (source.reference >>= k) (passes v ts long) → Alike F R ((chain source).reference >>= k) (tries v ts short long)
ended F R w v others source ts tidy k k_goes short long long_goes h g s t a =
    subst (λ q. Same F R q (tries v ts short long t)) (sym (chain_then k k_goes (source.reference s)))
    (settled F R v others (k (plain undefined)) short long long_goes h ts tidy (onward (source.reference s) k) t (g s t a))

-- `tests ? short : long`, by its tests one after the other
pub short_value : (v : World) (m : Label) (ts : List Tree) (short long : Tree) → value v (meaning v (where_short m ts short long)) ≡ tries v ts (value v (meaning v short)) (value v (meaning v long))
short_value v m [] short long = refl
short_value v m (t ∷ ts) short long =
    λ i s. (plain_again v (onward (value v (meaning v (joined_by_or t ts)) s) (λ b. if is_true b then value v (meaning v short) else value v (meaning v long)))
    ∙ joined_tries v t ts (value v (meaning v short)) (value v (meaning v long)) s) i

pub short_then : (v : World) (m : Label) (ts : List Tree) (short long : Tree) {A : Type 0} (k : Reference → M A) → has_tests ts ≡ true →
    ((meaning v (where_short m ts short long)).reference >>= k) ≡ tries v ts (value v (meaning v short) >>= λ u. k (plain u)) (value v (meaning v long) >>= λ u. k (plain u))
short_then v m [] short long k h = absurd (cc h)
short_then v m (t ∷ ts) short long k h =
    (λ i s. (onward_onward (onward (value v (meaning v (joined_by_or t ts)) s) (λ b. if is_true b then value v (meaning v short) else value v (meaning v long))) as_plain k
    ∙ ap (λ q. onward q (λ u. k (plain u))) (joined_tries v t ts (value v (meaning v short)) (value v (meaning v long)) s)) i)
    ∙ tries_then v (t ∷ ts) (value v (meaning v short)) (value v (meaning v long)) (λ u. k (plain u))
