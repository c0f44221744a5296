-- What a step knows that takes one fresh name.
use Rattle.std.proofs.Common.{arith, ◌≤◌, ◌<◌, ◌+◌, ◌≡◌, ℕ, refl, subst, List, [], ◌∷◌}
use Rattle.std.specs.Prelude.{Bool, true, false, Option, Some, None, bytes_eq, if◌then◌else◌}
use Rattle.std.proofs.lemmas.Bool.{ne_eqb}
use Rattle.es_tree.specs.Words.{Text}
use Rattle.es_tree.specs.References.{is_symbol}
use Rattle.es_resolution.specs.Declarations.{Bound, sought}
use Rattle.es_steps.specs.Open.{Pending, Additions}
use Rattle.es_steps.specs.Steps.{Whole}
use Rattle.es_steps.specs.Steps.Ledger.{ledger}
use Rattle.es_steps.specs.Rules.{also_all, with_made, next_name}
use Rattle.es_resolution.proofs.Basics.{bytes_eq-self, bytes_eq-equal, or_true}
use Rattle.es_steps.proofs.Kept.{Change, Known}
use Rattle.es_steps.proofs.Kept.Change.{above, below, lexed, sealed}
use Rattle.es_steps.proofs.Taken.{at-least, After, Outcome}
use Rattle.es_steps.proofs.Taken.Goes.{to_list}

pub other_name : (u : Text → Bool) (x y : Text) → u x ≡ false → u y ≡ true → bytes_eq x y ≡ false
other_name u x y e d = at (bytes_eq x y) refl
  where
    at : (b : Bool) → bytes_eq x y ≡ b → b ≡ false
    at false f = refl
    at true f = let alike : x ≡ y = bytes_eq-equal x y f in let g : u y ≡ false = subst (λ z. u z ≡ false) alike e in absurd (cc (g, d))

pub lower : (m : ℕ) → m < m + 1
lower m = omega arith

pub wider : (m : ℕ) → m ≤ m + 1
wider m = omega arith

module _ (w : Whole) (x : Text) (free : w.in_use x ≡ false) where
  pub sought-it : (c : Bool) (y : Text) (o : Option ℕ) → bytes_eq x y ≡ c → (if c then Some (Some w.free_symbol) else None) ≡ Some o → w.in_use y ≡ false
  sought-it true y o e d = subst (λ z. w.in_use z ≡ false) (bytes_eq-equal x y e) free
  sought-it false y o e d = absurd (cc d)

  pub it-found : sought (next_name w x ∷ []) x ≡ Some (Some w.free_symbol)
  it-found = rw (bytes_eq-self x)

  pub it-used : also_all (next_name w x ∷ []) w.in_use x ≡ true
  it-used = rw (free, bytes_eq-self x)

  abbrev pub knowing : Known
  knowing = record { in_use = w.in_use; in_use_after = also_all (next_name w x ∷ []) w.in_use; given = next_name w x ∷ []; free = w.free_symbol; free_after = w.free_symbol + 1; more = λ y e. or_true (w.in_use y) (bytes_eq x y) e; freer = wider w.free_symbol; range = ((at-least w.free_symbol, lower w.free_symbol), tt); fresh = λ y o e. sought-it (bytes_eq x y) y o refl e; sound = ((it-found, refl, it-used), tt) }

  -- a name in use isn't it
  pub not-it : (y : Text) → w.in_use y ≡ true → bytes_eq x y ≡ false
  not-it y u = other_name w.in_use x y free u

  pub not-sought : (y : Text) → w.in_use y ≡ true → sought (next_name w x ∷ []) y ≡ None
  not-sought y u = rw (not-it y u)

  pub old-symbol : (s : ℕ) → s < w.free_symbol → is_symbol s (Some w.free_symbol) ≡ false
  old-symbol s e = ne_eqb w.free_symbol s (λ f. omega arith)

-- A STEP THAT TAKES IT, where what is pending stays so

abbrev pub is_above : Change → Bool
is_above above = true
is_above below = false
is_above lexed = false
is_above sealed = false

after-alone : (c : Change) → is_above c ≡ false → (bs : List Bound) (v w : Whole) (q : Pending) (y : Option Bound) (a : Additions) → After c to_list bs (ledger v q y a) (ledger w q y a)
after-alone above e bs v w q y a = absurd (cc e)
after-alone below e bs v w q y a = record { pending = refl; this = refl; top = refl }
after-alone lexed e bs v w q y a = record { pending = refl; this = refl; top = refl }
after-alone sealed e bs v w q y a = record { pending = refl; this = refl; top = refl }

pub one-taken : {K : Known → Change → Type 0} (q : Pending) (y : Option Bound) (a : Additions) (w : Whole) (x : Text) (free : w.in_use x ≡ false) (c : Change) → is_above c ≡ false → K (knowing w x free) c → Outcome K (ledger w q y a) (ledger (with_made (next_name w x ∷ []) w) q y a)
one-taken q y a w x free c e h = let k = knowing w x free in record { given = k.given; change = c; goes = to_list; more = k.more; freer = k.freer; range = k.range; fresh = k.fresh; sound = k.sound; beside = after-alone c e k.given w (with_made (next_name w x ∷ []) w) q y a; kept = h }
