-- New names that are made one after the other: what a step knows that takes them all.
use Rattle.std.proofs.Common.{arith, ◌≤◌, ◌<◌, ◌+◌, ◌≡◌, ℕ, suc, refl, sym, subst, ◌∙◌, List, [], ◌∷◌}
use Rattle.std.specs.Prelude.{Bool, true, false, Option, Some, is_some, bytes_eq, map, if◌then◌else◌}
use Rattle.es_tree.specs.Fresh.{also}
use Rattle.es_tree.specs.Words.{Text}
use Rattle.es_resolution.specs.Declarations.{Bound, sought}
use Rattle.es_resolution.proofs.Basics.{bytes_eq-equal, bytes_eq-self, or_true}
use Rattle.es_steps.specs.Rules.{with_made}
use Rattle.es_steps.specs.Steps.{Whole}
use Rattle.es_steps.proofs.Kept.{Each, IsNew, Known}
use Rattle.es_steps.proofs.Numbered.{numbered-old}
use Rattle.es_steps.proofs.RulesWrite.{first-of, new-pass}
use Rattle.es_steps.proofs.Taken.{Allows, at-least}
use Rattle.es_valid_names.proofs.Grown.{left-none, right-none}
use Rattle.es_top_imports.specs.Laws.{AreNew, with_each}
use Rattle.es_top_imports.proofs.TopNames.{AreFresh}

abbrev with_one : Bound → Whole → Whole
with_one b w = with_made (b ∷ []) w

abbrev pub AllNew : Whole → List Bound → Type 0
AllNew w bs = AreNew w.in_use w.free_symbol bs

next-free : (m : ℕ) → suc m ≡ m + 1
next-free m = omega arith

-- the others, when the first is made
later : (b : Bound) (bs : List Bound) (w : Whole) → AllNew w (b ∷ bs) → AllNew (with_one b w) bs
later b bs w h = subst (λ (m : ℕ). AreNew (also b.name w.in_use) m bs) (next-free w.free_symbol) h.3

pub each-more : (bs : List Bound) (w : Whole) (y : Text) → w.in_use y ≡ true → (with_each bs w).in_use y ≡ true
each-more [] w y e = e
each-more (b ∷ bs) w y e = each-more bs (with_one b w) y (or_true (w.in_use y) (bytes_eq b.name y) e)

pub each-freer : (bs : List Bound) (w : Whole) → w.free_symbol ≤ (with_each bs w).free_symbol
each-freer [] w = omega arith
each-freer (b ∷ bs) w = let h : w.free_symbol + 1 ≤ (with_each bs (with_one b w)).free_symbol = each-freer bs (with_one b w) in omega arith

-- symbols keep their names
pub each-called : (bs : List Bound) (w : Whole) → AllNew w bs → (m : ℕ) → m < w.free_symbol → (with_each bs w).called m ≡ w.called m
each-called [] w h m e = refl
each-called (b ∷ bs) w h m e =
    let longer : m < w.free_symbol + 1 = omega arith in
    each-called bs (with_one b w) (later b bs w h) m longer ∙ numbered-old w.called w.free_symbol (b ∷ []) (h.2, tt) m e

pub each-range : (f : ℕ) (bs : List Bound) (w : Whole) → f ≤ w.free_symbol → AllNew w bs → Each (λ b. IsNew f (with_each bs w).free_symbol b.symbol) bs
each-range f [] w d h = tt
each-range f (b ∷ bs) w d h =
    let more : w.free_symbol + 1 ≤ (with_each bs (with_one b w)).free_symbol = each-freer bs (with_one b w) in
    let below : w.free_symbol < (with_each bs (with_one b w)).free_symbol = omega arith in
    let further : f ≤ w.free_symbol + 1 = omega arith in
    (subst (λ (o : Option ℕ). IsNew f (with_each bs (with_one b w)).free_symbol o) (sym h.2) (d, below), each-range f bs (with_one b w) further (later b bs w h))

pub each-fresh : (bs : List Bound) (w : Whole) → AllNew w bs → (y : Text) (o : Option ℕ) → sought bs y ≡ Some o → w.in_use y ≡ false
each-fresh [] w h y o e = absurd (cc e)
each-fresh (b ∷ bs) w h y o e = at (bytes_eq b.name y) refl (λ d. each-fresh bs (with_one b w) (later b bs w h) y o d) e
  where
    at : (v : Bool) → bytes_eq b.name y ≡ v → (sought bs y ≡ Some o → (with_one b w).in_use y ≡ false) → (if v then Some b.symbol else sought bs y) ≡ Some o → w.in_use y ≡ false
    at true g others d = subst (λ (z : Text). w.in_use z ≡ false) (bytes_eq-equal b.name y g) h.0
    at false g others d = left-none (w.in_use y) (bytes_eq b.name y) (others d)

-- each is found among them with its symbol, and in use afterwards
abbrev pub IsSound : (Text → Bool) → List Bound → Bound → Type 0
IsSound used given b = (sought given b.name ≡ Some b.symbol) × (is_some b.symbol ≡ true) × (used b.name ≡ true)

-- also behind another
behind-one : (used : Text → Bool) (b : Bound) (bs : List Bound) (w : Whole) → AllNew w (b ∷ bs) → (cs : List Bound) → Each (IsSound used bs) cs → Each (IsSound used (b ∷ bs)) cs
behind-one used b bs w h [] k = tt
behind-one used b bs w h (c ∷ cs) k =
    let other : bytes_eq b.name c.name ≡ false = right-none (w.in_use c.name) (bytes_eq b.name c.name) (each-fresh bs (with_one b w) (later b bs w h) c.name c.symbol k.0.0) in
    (((λ i. if other i then Some b.symbol else sought bs c.name) ∙ k.0.0, k.0.1, k.0.2), behind-one used b bs w h cs k.1)

pub each-sound : (bs : List Bound) (w : Whole) → AllNew w bs → Each (IsSound (with_each bs w).in_use bs) bs
each-sound [] w h = tt
each-sound (b ∷ bs) w h =
    let used : (with_one b w).in_use b.name ≡ true = rw (h.0, bytes_eq-self b.name) in
    let found : sought (b ∷ bs) b.name ≡ Some b.symbol = rw (bytes_eq-self b.name) in
    ((found, λ i. is_some (h.2 i), each-more bs (with_one b w) b.name used), behind-one (with_each bs (with_one b w)).in_use b bs w h bs (each-sound bs (with_one b w) (later b bs w h)))

abbrev pub knowing_each : (bs : List Bound) (w : Whole) → AllNew w bs → Known
knowing_each bs w h = record {
  in_use = w.in_use;
  in_use_after = (with_each bs w).in_use;
  given = bs;
  free = w.free_symbol;
  free_after = (with_each bs w).free_symbol;
  more = each-more bs w;
  freer = each-freer bs w;
  range = each-range w.free_symbol bs w (at-least w.free_symbol) h;
  fresh = each-fresh bs w h;
  sound = each-sound bs w h;
}

-- a test that new names pass with their symbols
pub each-passes : (q : Text → Option ℕ → Bool) (bs : List Bound) (w : Whole) → AllNew w bs → Allows q w (with_each bs w) → Each (λ b. q b.name b.symbol ≡ true) bs
each-passes q [] w h a = tt
each-passes q (b ∷ bs) w h a =
    let more : w.free_symbol + 1 ≤ (with_each bs (with_one b w)).free_symbol = each-freer bs (with_one b w) in
    let one : Allows q w (with_one b w) = record { words = a.words; new = λ m e d. subst (λ (x : Text). q x (Some m) ≡ true) (each-called bs (with_one b w) (later b bs w h) m d) (a.new m e (omega arith)) } in
    let others : Allows q (with_one b w) (with_each bs (with_one b w)) = record { words = a.words; new = λ m e d. a.new m (omega arith) d } in
    (first-of (q b.name b.symbol) true (new-pass q w (b ∷ []) (h.2, tt) one), each-passes q bs (with_one b w) (later b bs w h) others)

-- as texts
pub texts-fresh : (in_use : Text → Bool) (free : ℕ) (bs : List Bound) → AreNew in_use free bs → AreFresh in_use (map (λ b. b.name) bs)
texts-fresh in_use free [] h = tt
texts-fresh in_use free (b ∷ bs) h = (h.0, texts-fresh (also b.name in_use) (suc free) bs h.3)
