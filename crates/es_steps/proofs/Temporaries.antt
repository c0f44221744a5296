-- Temporaries that are taken one after the other: each is fresh, and is found among all of them.
use Rattle.std.proofs.Common.{arith, ◌+◌, length, ◌≡◌, ℕ, suc, refl, subst, List, [], ◌∷◌, ◌++◌}
use Rattle.std.specs.Prelude.{Bool, true, false, ◌&&◌, Option, Some, None, is_some, bytes_eq, if◌then◌else◌}
use Rattle.std.specs.List.{list_all}
use Rattle.es_tree.specs.Words.{Text}
use Rattle.es_tree.specs.Fresh.{also}
use Rattle.es_resolution.specs.Declarations.{Bound, sought}
use Rattle.es_resolution.specs.Named.{IsBelow}
use Rattle.es_steps.specs.Duplication.{IsNext}
use Rattle.es_steps.specs.Rules.{also_all}
use Rattle.es_steps.specs.Steps.{Whole}
use Rattle.es_resolution.proofs.Basics.{bytes_eq-self, bytes_eq-equal}
use Rattle.es_steps.proofs.Kept.{Known, Each, IsNew}
use Rattle.es_steps.proofs.Nodes.{or_first, or_second}
use Rattle.es_steps.proofs.Numbered.{Numbered}
use Rattle.es_steps.proofs.RuleLaws.{used-after, freer_by}

-- each is free where it is taken, and has the next symbol
abbrev pub AreTaken : (Text → Bool) → ℕ → List Bound → Type 0
AreTaken u f [] = Unit {0}
AreTaken u f (b ∷ bs) = ((u b.name ≡ false) × (b.symbol ≡ Some f)) × AreTaken (also b.name u) (f + 1) bs

pub one-taken : (w : Whole) (base : Text) (b : Bound) → IsNext w base b → AreTaken w.in_use w.free_symbol (b ∷ [])
one-taken w base b h = ((h.fresh.free, h.symbol), tt)

from : (u : Text → Bool) (f g : ℕ) (bs : List Bound) → f ≡ g → AreTaken u f bs → AreTaken u g bs
from u f g bs e h = subst (λ (m : ℕ). AreTaken u m bs) e h

no-more : (f : ℕ) → f + 0 ≡ f
no-more f = omega arith

one-more : (f n : ℕ) → f + suc n ≡ f + 1 + n
one-more f n = omega arith

pub taken-append : (u : Text → Bool) (f : ℕ) (xs ys : List Bound) → AreTaken u f xs → AreTaken (also_all xs u) (f + length xs) ys → AreTaken u f (xs ++ ys)
taken-append u f [] ys h k = from u (f + 0) f ys (no-more f) k
taken-append u f (x ∷ xs) ys h k = (h.0, taken-append (also x.name u) (f + 1) xs ys h.1 (from (also_all xs (also x.name u)) (f + length (x ∷ xs)) (f + 1 + length xs) ys (one-more f (length xs)) k))

pub taken-numbered : (u : Text → Bool) (f : ℕ) (bs : List Bound) → AreTaken u f bs → Numbered f bs
taken-numbered u f [] h = tt
taken-numbered u f (b ∷ bs) h = (h.0.1, taken-numbered (also b.name u) (f + 1) bs h.1)

-- EACH OF THEM

pub each-map : {P Q : Bound → Type 0} (bs : List Bound) → ((b : Bound) → P b → Q b) → Each P bs → Each Q bs
each-map [] g h = tt
each-map (b ∷ bs) g h = (g b h.0, each-map bs g h.1)

pub each-left : (P : Bound → Type 0) (xs ys : List Bound) → Each P (xs ++ ys) → Each P xs
each-left P [] ys h = tt
each-left P (x ∷ xs) ys h = (h.0, each-left P xs ys h.1)

pub each-right : (P : Bound → Type 0) (xs ys : List Bound) → Each P (xs ++ ys) → Each P ys
each-right P [] ys h = h
each-right P (x ∷ xs) ys h = each-right P xs ys h.1

pub each-both : (P Q : Bound → Type 0) (bs : List Bound) → Each P bs → Each Q bs → Each (λ b. P b × Q b) bs
each-both P Q [] h k = tt
each-both P Q (b ∷ bs) h k = ((h.0, k.0), each-both P Q bs h.1 k.1)

-- a name that is found among them was not in use
pub taken-fresh : (u : Text → Bool) (f : ℕ) (bs : List Bound) → AreTaken u f bs → (y : Text) (o : Option ℕ) → sought bs y ≡ Some o → u y ≡ false
taken-fresh u f [] h y o e = absurd (cc e)
taken-fresh u f (b ∷ bs) h y o e = at (bytes_eq b.name y) refl e (taken-fresh (also b.name u) (f + 1) bs h.1 y o)
  where
    at : (c : Bool) → bytes_eq b.name y ≡ c → (if c then Some b.symbol else sought bs y) ≡ Some o → (sought bs y ≡ Some o → also b.name u y ≡ false) → u y ≡ false
    at true d g k = subst (λ z. u z ≡ false) (bytes_eq-equal b.name y d) h.0.0
    at false d g k = or_first (u y) (bytes_eq b.name y) (k g)

abbrev pub IsFound : (Text → Bool) → List Bound → Bound → Type 0
IsFound u bs b = (sought bs b.name ≡ Some b.symbol) × (is_some b.symbol ≡ true) × (also_all bs u b.name ≡ true)

pub taken-found : (u : Text → Bool) (f : ℕ) (bs : List Bound) → AreTaken u f bs → Each (IsFound u bs) bs
taken-found u f [] h = tt
taken-found u f (b ∷ bs) h = ((first, some, used), each-map {P = IsFound (also b.name u) bs} {Q = IsFound u (b ∷ bs)} bs later (taken-found (also b.name u) (f + 1) bs h.1))
  where
    first : sought (b ∷ bs) b.name ≡ Some b.symbol
    first = rw (bytes_eq-self b.name)

    some : is_some b.symbol ≡ true
    some = rw h.0.1

    used : also_all (b ∷ bs) u b.name ≡ true
    used = used-after bs (also b.name u) b.name (rw (h.0.0, bytes_eq-self b.name))

    later : (c : Bound) → IsFound (also b.name u) bs c → IsFound u (b ∷ bs) c
    later c g = (rw (or_second (u c.name) (bytes_eq b.name c.name) (taken-fresh (also b.name u) (f + 1) bs h.1 c.name c.symbol g.0)) g.0, g.1, g.2)

new-wider : (f n : ℕ) (o : Option ℕ) → IsNew (f + 1) (f + 1 + n) o → IsNew f (f + suc n) o
new-wider f n None h = h
new-wider f n (Some s) h = let a = h.0 in let b = h.1 in (omega arith, omega arith)

new-first : (f n : ℕ) → IsNew f (f + suc n) (Some f)
new-first f n = (omega arith, omega arith)

pub taken-range : (u : Text → Bool) (f : ℕ) (bs : List Bound) → AreTaken u f bs → Each (λ b. IsNew f (f + length bs) b.symbol) bs
taken-range u f [] h = tt
taken-range u f (b ∷ bs) h = (rw h.0.1 (new-first f (length bs)), each-map {P = λ c. IsNew (f + 1) (f + 1 + length bs) c.symbol} {Q = λ c. IsNew f (f + length (b ∷ bs)) c.symbol} bs (λ c g. new-wider f (length bs) c.symbol g) (taken-range (also b.name u) (f + 1) bs h.1))

-- WHAT IS KNOWN

-- with these temporaries
abbrev pub knowing : (w : Whole) (bs : List Bound) → AreTaken w.in_use w.free_symbol bs → Known
knowing w bs h = record { in_use = w.in_use; in_use_after = also_all bs w.in_use; given = bs; free = w.free_symbol; free_after = w.free_symbol + length bs; more = used-after bs w.in_use; freer = freer_by w.free_symbol (length bs); range = taken-range w.in_use w.free_symbol bs h; fresh = taken-fresh w.in_use w.free_symbol bs h; sound = taken-found w.in_use w.free_symbol bs h }

-- a name that is seen afterwards, with its symbol
pub record IsSeen (n : Known) (b : Bound) : Type 0 where
  pub found : sought n.given b.name ≡ Some b.symbol
  pub used : n.in_use_after b.name ≡ true
  pub below : IsBelow n.free_after b.symbol
  pub passing : (q : Text → Option ℕ → Bool) → list_all (λ c. q c.name c.symbol) n.given ≡ true → q b.name b.symbol ≡ true

new-below : (f g : ℕ) (o : Option ℕ) → IsNew f g o → IsBelow g o
new-below f g None h = tt
new-below f g (Some s) h = h.1

-- what all of them pass, each passes
first-of : (a b : Bool) → (a && b) ≡ true → a ≡ true
first-of true b e = refl
first-of false b e = e

second-of : (a b : Bool) → (a && b) ≡ true → b ≡ true
second-of true b e = e
second-of false b e = absurd (cc e)

abbrev PassesWith : List Bound → Bound → Type 0
PassesWith bs b = (q : Text → Option ℕ → Bool) → list_all (λ c. q c.name c.symbol) bs ≡ true → q b.name b.symbol ≡ true

all-passing : (bs : List Bound) → Each (PassesWith bs) bs
all-passing [] = tt
all-passing (b ∷ bs) = (λ q e. first-of (q b.name b.symbol) (list_all (λ c. q c.name c.symbol) bs) e, each-map {P = PassesWith bs} {Q = PassesWith (b ∷ bs)} bs (λ c h q e. h q (second-of (q b.name b.symbol) (list_all (λ c. q c.name c.symbol) bs) e)) (all-passing bs))

abbrev IsKnown : Known → Bound → Type 0
IsKnown n b = (sought n.given b.name ≡ Some b.symbol) × (is_some b.symbol ≡ true) × (n.in_use_after b.name ≡ true)

abbrev IsNewTo : Known → Bound → Type 0
IsNewTo n b = IsNew n.free n.free_after b.symbol

pub all-seen : (n : Known) → Each (IsSeen n) n.given
all-seen n = each-map {P = λ b. (IsKnown n b × IsNewTo n b) × PassesWith n.given b} {Q = IsSeen n} n.given (λ b h. record { found = h.0.0.0; used = h.0.0.2; below = new-below n.free n.free_after b.symbol h.0.1; passing = h.1 }) (each-both (λ b. IsKnown n b × IsNewTo n b) (PassesWith n.given) n.given (each-both (IsKnown n) (IsNewTo n) n.given n.sound n.range) (all-passing n.given))
