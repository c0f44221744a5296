-- Names for `this`: each is the only one of its symbol's name, however many symbols come later.
use Rattle.std.proofs.Common.{arith, ◌≤◌, ◌<◌, ◌+◌, ◌≡◌, ℕ, zero, suc, inl, inr, refl, sym, subst, ◌∙◌, List, [], ◌∷◌, length, eq-eqb}
use Rattle.std.proofs.lemmas.Bool.{cases_lt, ne_eqb, or_left, or_right}
use Rattle.std.proofs.lemmas.Slice.Eq.{bytes_eq-Decides}
use Rattle.std.specs.Prelude.{◌⊎◌, ◌||◌, Bool, true, false, Option, Some, None, bytes_eq, codes, if◌then◌else◌}
use Rattle.es_tree.specs.Fresh.{IsFreshName, also, candidate, text_base}
use Rattle.es_tree.specs.References.{is_symbol}
use Rattle.es_tree.specs.Words.{Text}
use Rattle.es_resolution.specs.Declarations.{Bound}
use Rattle.es_resolution.proofs.Basics.{bytes_eq-self}
use Rattle.es_steps.specs.Rules.{also_all, calling, next_name, with_made}
use Rattle.es_steps.specs.Steps.{Whole}
use Rattle.es_steps.specs.UsingBlocks.{error_name, error_of, with_context}
use Rattle.es_steps.proofs.Nodes.{or_first}
use Rattle.es_steps.proofs.Numbered.{numbered-old}
use Rattle.es_steps.proofs.OneName.{it-used, lower}
use Rattle.es_steps.proofs.RuleLaws.{freer_by, used-after}
use Rattle.es_steps.proofs.RulesWrite.{context-called}
use Rattle.es_steps.proofs.Taken.{at-least}
use Rattle.es_steps.proofs.Temporaries.{AreTaken, taken-numbered}
use Rattle.es_arrow_steps.specs.ArrowWalks.{UsesNames}

-- a name that is in use, with a symbol that is the only one so called
pub record IsOwn (w : Whole) (b : Bound) : Type 0 where
  pub symbol : ℕ
  pub has : b.symbol ≡ Some symbol
  pub below : symbol < w.free_symbol
  pub called : w.called symbol ≡ b.name
  pub used : w.in_use b.name ≡ true
  -- it isn't the name of the made `catch` clauses, which many symbols have
  pub other : bytes_eq error_name b.name ≡ false
  pub alone : (m : ℕ) → m < w.free_symbol → w.called m ≡ b.name → m ≡ symbol

abbrev pub IsOwnThis : Whole → Option Bound → Type 0
IsOwnThis w None = Unit {0}
IsOwnThis w (Some b) = IsOwn w b

-- from one whole to a later one symbols are numbered on, each with a name that wasn't in use or that of the made clauses
pub record Numbers (w w' : Whole) : Type 0 where
  pub freer : w.free_symbol ≤ w'.free_symbol
  pub same : (m : ℕ) → m < w.free_symbol → w'.called m ≡ w.called m
  pub more : (y : Text) → w.in_use y ≡ true → w'.in_use y ≡ true
  pub new : (m : ℕ) → w.free_symbol ≤ m → m < w'.free_symbol → (w'.in_use (w'.called m) ≡ true) × ((w.in_use (w'.called m) ≡ false) ⊎ (w'.called m ≡ error_name))

-- WHAT STAYS

pub numbers-use : (w w' : Whole) → Numbers w w' → UsesNames w → UsesNames w'
numbers-use w w' h used m e = at (cases_lt m w.free_symbol)
  where
    at : (m < w.free_symbol) ⊎ (w.free_symbol ≤ m) → w'.in_use (w'.called m) ≡ true
    at (inl d) = subst (λ (y : Text). w'.in_use y ≡ true) (sym (h.same m d)) (h.more (w.called m) (used m d))
    at (inr d) = (h.new m d e).0

below-more : (m a b : ℕ) → m < a → a ≤ b → m < b
below-more m a b e d = omega arith

not-both : (v : Bool) → v ≡ true → v ≡ false → ⊥
not-both v e d = absurd (cc (e, d))

numbers-own : (w w' : Whole) (b : Bound) → Numbers w w' → IsOwn w b → IsOwn w' b
numbers-own w w' b h o = record { symbol = o.symbol; has = o.has; below = below-more o.symbol w.free_symbol w'.free_symbol o.below h.freer; called = h.same o.symbol o.below ∙ o.called; used = h.more b.name o.used; other = o.other; alone = alone }
  where
    not-new : (y : Text) → y ≡ b.name → (w.in_use y ≡ false) ⊎ (y ≡ error_name) → ⊥
    not-new y e (inl f) = not-both (w.in_use b.name) o.used (subst (λ (z : Text). w.in_use z ≡ false) e f)
    not-new y e (inr f) = not-both (bytes_eq error_name b.name) ((bytes_eq-Decides error_name b.name).1 (sym f ∙ e)) o.other

    alone : (m : ℕ) → m < w'.free_symbol → w'.called m ≡ b.name → m ≡ o.symbol
    alone m e d = at (cases_lt m w.free_symbol)
      where
        at : (m < w.free_symbol) ⊎ (w.free_symbol ≤ m) → m ≡ o.symbol
        at (inl f) = o.alone m f (sym (h.same m f) ∙ d)
        at (inr f) = absurd (not-new (w'.called m) d (h.new m f e).1)

pub numbers-own-this : (w w' : Whole) (x : Option Bound) → Numbers w w' → IsOwnThis w x → IsOwnThis w' x
numbers-own-this w w' None h o = tt
numbers-own-this w w' (Some b) h o = numbers-own w w' b h o

-- WHAT RULES MAKE

no-room : (m f : ℕ) → f ≤ m → m < f → ⊥
no-room m f e d = omega arith

pub numbers-none : (w : Whole) → Numbers w w
numbers-none w = record { freer = at-least w.free_symbol; same = λ m e. refl; more = λ y u. u; new = λ m e d. absurd (no-room m w.free_symbol e d) }

symbol-is : (m f : ℕ) (o : Option ℕ) → o ≡ Some f → m ≡ f → is_symbol m o ≡ true
symbol-is m f o e d = subst (λ (z : Option ℕ). is_symbol m z ≡ true) (sym e) (eq-eqb f m (sym d))

not-first : (f m : ℕ) (o : Option ℕ) → o ≡ Some f → f ≤ m → is_symbol m o ≡ false → f + 1 ≤ m
not-first f m o e d g = at (cases_lt f m)
  where
    at : (f < m) ⊎ (m ≤ f) → f + 1 ≤ m
    at (inl k) = omega arith
    at (inr k) = absurd (not-both (is_symbol m o) (symbol-is m f o e (omega arith)) g)

-- the name of a new symbol
module _ (called : ℕ → Text) where
  called-new : (u : Text → Bool) (f : ℕ) (bs : List Bound) → AreTaken u f bs → (m : ℕ) → f ≤ m → m < f + length bs → (also_all bs u (calling bs called m) ≡ true) × (u (calling bs called m) ≡ false)
  called-new u f [] h m e d = absurd (no-room m f e (omega arith))
  called-new u f (b ∷ bs) h m e d = at (is_symbol m b.symbol) refl (λ k. called-new (also b.name u) (f + 1) bs h.1 m k (omega arith))
    where
      at : (v : Bool) → is_symbol m b.symbol ≡ v → (f + 1 ≤ m → (also_all bs (also b.name u) (calling bs called m) ≡ true) × (also b.name u (calling bs called m) ≡ false)) → (also_all (b ∷ bs) u (if v then b.name else calling bs called m) ≡ true) × (u (if v then b.name else calling bs called m) ≡ false)
      at true g rest = (used-after bs (also b.name u) b.name (or_right (u b.name) (bytes_eq b.name b.name) (bytes_eq-self b.name)), h.0.0)
      at false g rest =
          let k = rest (not-first f m b.symbol h.0.1 e g) in
          (k.0, or_first (u (calling bs called m)) (bytes_eq b.name (calling bs called m)) k.1)

pub numbers-taken : (w : Whole) (bs : List Bound) → AreTaken w.in_use w.free_symbol bs → Numbers w (with_made bs w)
numbers-taken w bs h = record {
  freer = freer_by w.free_symbol (length bs);
  same = numbered-old w.called w.free_symbol bs (taken-numbered w.in_use w.free_symbol bs h);
  more = used-after bs w.in_use;
  new = λ m e d. let k = called-new w.called w.in_use w.free_symbol bs h m e d in (k.0, inl k.1);
}

pub numbers-one : (w : Whole) (x : Text) → w.in_use x ≡ false → Numbers w (with_made (next_name w x ∷ []) w)
numbers-one w x free = numbers-taken w (next_name w x ∷ []) ((free, refl), tt)

-- `using` makes a context and the parameter of a `catch`
module _ (w : Whole) (x : Text) (free : w.in_use x ≡ false) where
  context-name : (m : ℕ) → m ≡ w.free_symbol → (with_context x w).called m ≡ x
  context-name m e = λ i. if symbol-is m w.free_symbol (Some w.free_symbol) refl e i then x else (if is_symbol m (Some (w.free_symbol + 1)) then error_name else w.called m)

  error-called : (m : ℕ) → m ≡ w.free_symbol + 1 → (with_context x w).called m ≡ error_name
  error-called m e = λ i. if ne_eqb w.free_symbol m (λ f. omega arith) i then x else (if symbol-is m (w.free_symbol + 1) (Some (w.free_symbol + 1)) refl e i then error_name else w.called m)

  context-used : (with_context x w).in_use x ≡ true
  context-used = or_left (w.in_use x || bytes_eq x x) (bytes_eq error_name x) (or_right (w.in_use x) (bytes_eq x x) (bytes_eq-self x))

  error-used : (with_context x w).in_use error_name ≡ true
  error-used = or_right (w.in_use error_name || bytes_eq x error_name) (bytes_eq error_name error_name) (bytes_eq-self error_name)

  context-new : (m : ℕ) → w.free_symbol ≤ m → m < w.free_symbol + 2 → ((with_context x w).in_use ((with_context x w).called m) ≡ true) × ((w.in_use ((with_context x w).called m) ≡ false) ⊎ ((with_context x w).called m ≡ error_name))
  context-new m e d = at (cases_lt w.free_symbol m)
    where
      at : (w.free_symbol < m) ⊎ (m ≤ w.free_symbol) → ((with_context x w).in_use ((with_context x w).called m) ≡ true) × ((w.in_use ((with_context x w).called m) ≡ false) ⊎ ((with_context x w).called m ≡ error_name))
      at (inl f) = let it = error-called m (omega arith) in (subst (λ (y : Text). (with_context x w).in_use y ≡ true) (sym it) error-used, inr it)
      at (inr f) = let it = context-name m (omega arith) in (subst (λ (y : Text). (with_context x w).in_use y ≡ true) (sym it) context-used, inl (subst (λ (y : Text). w.in_use y ≡ false) (sym it) free))

  pub numbers-context : Numbers w (with_context x w)
  numbers-context = record { freer = freer_by w.free_symbol 2; same = context-called w x; more = used-after (next_name w x ∷ error_of w ∷ []) w.in_use; new = context-new }

-- A NEW NAME FOR `this`

no-error-name : (n : ℕ) → bytes_eq error_name (candidate (text_base (codes "this")) n) ≡ false
no-error-name zero = refl
no-error-name (suc n) = refl

module _ (w : Whole) (x : Text) (used : UsesNames w) (fresh : IsFreshName w.in_use (text_base (codes "this")) x) where
  new-alone : (m : ℕ) → m < w.free_symbol + 1 → (with_made (next_name w x ∷ []) w).called m ≡ x → m ≡ w.free_symbol
  new-alone m e d = at (cases_lt m w.free_symbol)
    where
      at : (m < w.free_symbol) ⊎ (w.free_symbol ≤ m) → m ≡ w.free_symbol
      at (inl f) = absurd (not-both (w.in_use x) (subst (λ (y : Text). w.in_use y ≡ true) (sym (numbered-old w.called w.free_symbol (next_name w x ∷ []) (refl, tt) m f) ∙ d) (used m f)) fresh.free)
      at (inr f) = omega arith

  pub own-new : IsOwn (with_made (next_name w x ∷ []) w) (next_name w x)
  own-new = record {
    symbol = w.free_symbol;
    has = refl;
    below = lower w.free_symbol;
    called = λ i. if symbol-is w.free_symbol w.free_symbol (Some w.free_symbol) refl refl i then x else w.called w.free_symbol;
    used = it-used w x fresh.free;
    other = subst (λ (y : Text). bytes_eq error_name y ≡ false) (sym fresh.name) (no-error-name fresh.number);
    alone = new-alone;
  }
