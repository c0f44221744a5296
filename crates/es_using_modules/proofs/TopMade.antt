-- The names that `using` at the top of a module makes: that of a default export, where it takes one, and that of the context. They are new, and their
-- symbols are.
use Rattle.std.proofs.Common.{arith, ◌≤◌, ◌<◌, ◌+◌, ◌≡◌, ℕ, zero, suc, refl, sym, subst, ◌∙◌, List, [], ◌∷◌}
use Rattle.std.specs.Prelude.{Bool, true, false, ◌||◌, Option, Some, None, bytes_eq, codes, is_some}
use Rattle.std.specs.List.{list_any}
use Rattle.std.proofs.lemmas.Bool.{eqb-true, ne_eqb}
use Rattle.es_tree.specs.Fresh.{IsFreshName, candidate, text_base}
use Rattle.es_tree.specs.Words.{Text}
use Rattle.es_resolution.specs.Declarations.{Bound, sought}
use Rattle.es_resolution.specs.Named.{IsBelow}
use Rattle.es_resolution.specs.Resolved.{or_around}
use Rattle.es_resolution.specs.Single.{is_it}
use Rattle.es_resolution.proofs.Basics.{bytes_eq-self, or_true}
use Rattle.es_steps.specs.Identifiers.{Passes}
use Rattle.es_steps.specs.Nodes.{identifier}
use Rattle.es_steps.specs.Rules.{next_name}
use Rattle.es_steps.specs.Steps.{Whole}
use Rattle.es_steps.specs.UsingBlocks.{error_name, error_of, with_context}
use Rattle.es_steps.proofs.Numbered.{numbered-old}
use Rattle.es_steps.proofs.OneName.{it-used, not-it}
use Rattle.es_steps.proofs.RulesWrite.{context-called, context-names, one-new}
use Rattle.es_steps.proofs.Taken.{Allows}
use Rattle.es_using_modules.specs.TopRule.{with_default}
use Rattle.es_using_modules.proofs.TopFound.{Finds}

-- the names that are declared more
abbrev pub new_names : Bool → Bound → Bound → List Bound
new_names true d c = d ∷ c ∷ []
new_names false d c = c ∷ []

-- what is known of the wholes before and after, where w is the one in which the context's name is fresh
pub record Makes (before_it w : Whole) (b : Bool) (d : Bound) (x : Text) : Type 0 where
  pub wider : (y : Text) → before_it.in_use y ≡ true → (with_context x w).in_use y ≡ true
  pub freer : before_it.free_symbol ≤ (with_context x w).free_symbol
  pub same : (m : ℕ) → m < before_it.free_symbol → (with_context x w).called m ≡ before_it.called m
  pub other : bytes_eq error_name x ≡ false
  pub fresh : (y : Text) → before_it.in_use y ≡ true → sought (new_names b d (next_name w x)) y ≡ None
  pub finds : Finds (λ y. or_around (sought (new_names b d (next_name w x)) y) None) (new_names b d (next_name w x))
  pub default_found : sought (new_names b d (next_name w x)) d.name ≡ Some d.symbol
  pub context_found : sought (new_names b d (next_name w x)) x ≡ Some (Some w.free_symbol)
  pub default_used : (with_context x w).in_use d.name ≡ true
  pub default_below : IsBelow (with_context x w).free_symbol d.symbol
  pub default_some : is_some d.symbol ≡ true
  pub context_used : (with_context x w).in_use x ≡ true
  -- no symbol of theirs is an old one, or that of the error
  pub old : (s : ℕ) → s < before_it.free_symbol → (list_any (is_it s) (new_names b d (next_name w x)) ≡ false) × (is_it s (error_of w) ≡ false)
  pub apart : (s : ℕ) → is_it s (error_of w) ≡ true → list_any (is_it s) (new_names b d (next_name w x)) ≡ false
  pub pass : (q : Text → Option ℕ → Bool) → Allows q before_it (with_context x w) → Passes q (identifier d) × Passes q (identifier (next_name w x)) × Passes q (identifier (error_of w))

no-error-name : (n : ℕ) → bytes_eq error_name (candidate (text_base (codes "usingCtx")) n) ≡ false
no-error-name zero = refl
no-error-name (suc n) = refl

module _ (w : Whole) (x : Text) where
  above-old : (s : ℕ) → s < w.free_symbol → is_it s (next_name w x) ≡ false
  above-old s e = ne_eqb w.free_symbol s (λ f. omega arith)

  error-old : (s : ℕ) → s < w.free_symbol → is_it s (error_of w) ≡ false
  error-old s e = ne_eqb (w.free_symbol + 1) s (λ f. omega arith)

  -- the context's symbol isn't that of the error
  error-apart : (s : ℕ) → is_it s (error_of w) ≡ true → is_it s (next_name w x) ≡ false
  error-apart s e = let d : w.free_symbol + 1 ≡ s = eqb-true (w.free_symbol + 1) s e in ne_eqb w.free_symbol s (λ f. omega arith)

  context-wider : (y : Text) → w.in_use y ≡ true → (with_context x w).in_use y ≡ true
  context-wider y e = or_true (w.in_use y || bytes_eq x y) (bytes_eq error_name y) (or_true (w.in_use y) (bytes_eq x y) e)

  itself-used : (with_context x w).in_use x ≡ true
  itself-used = or_true (w.in_use x || bytes_eq x x) (bytes_eq error_name x) (or-second (w.in_use x) (bytes_eq x x) (bytes_eq-self x))
    where
      or-second : (a b : Bool) → b ≡ true → (a || b) ≡ true
      or-second true b e = refl
      or-second false b e = e

  self-found : sought (next_name w x ∷ []) x ≡ Some (Some w.free_symbol)
  self-found = rw (bytes_eq-self x) refl

  below-two : (m : ℕ) → m < m + 2
  below-two m = omega arith

  more-free : (m k : ℕ) → m ≤ m + k
  more-free m k = omega arith

pub makes-alone : (w : Whole) (c : Text) → IsFreshName w.in_use (text_base (codes "usingCtx")) c → Makes w w false (next_name w c) c
makes-alone w c fresh = record {
  wider = context-wider w c;
  freer = more-free w c w.free_symbol 2;
  same = context-called w c;
  other = subst (λ (x : Text). bytes_eq error_name x ≡ false) (sym fresh.name) (no-error-name fresh.number);
  fresh = λ y u. rw (not-it w c fresh.free y u) refl;
  finds = (sym (λ i. or_around (self-found w c i) None), tt);
  default_found = self-found w c;
  context_found = self-found w c;
  default_used = itself-used w c;
  default_below = below-two w c w.free_symbol;
  default_some = refl;
  context_used = itself-used w c;
  old = λ s e. ((λ i. above-old w c s e i || false), error-old w c s e);
  apart = λ s e i. error-apart w c s e i || false;
  pass = λ q a. let k = context-names q w c a in (k.0, k.0, k.1);
}

module _ (w : Whole) (x c : Text) (free : w.in_use x ≡ false) (fresh : IsFreshName (with_default x w).in_use (text_base (codes "usingCtx")) c) where
  abbrev next : Whole
  next = with_default x w

  default-wider : (y : Text) → w.in_use y ≡ true → next.in_use y ≡ true
  default-wider y e = or_true (w.in_use y) (bytes_eq x y) e

  default-called : (m : ℕ) → m < w.free_symbol → next.called m ≡ w.called m
  default-called = numbered-old w.called w.free_symbol (next_name w x ∷ []) (refl, tt)

  one-later : (m n : ℕ) → m < n → m < n + 1
  one-later m n e = omega arith

  no-less : (m n : ℕ) → n + 1 ≤ m → n ≤ m
  no-less m n e = omega arith

  long-later : (m n : ℕ) → m < n + 1 → m < n + 1 + 2
  long-later m n e = omega arith

  other-names : bytes_eq x c ≡ false
  other-names = or-second (w.in_use c) (bytes_eq x c) fresh.free
    where
      or-second : (a b : Bool) → (a || b) ≡ false → b ≡ false
      or-second true b e = absurd (cc e)
      or-second false b e = e

  first-found : sought (next_name w x ∷ next_name next c ∷ []) x ≡ Some (Some w.free_symbol)
  first-found = rw (bytes_eq-self x) refl

  second-found : sought (next_name w x ∷ next_name next c ∷ []) c ≡ Some (Some next.free_symbol)
  second-found = rw (other-names, bytes_eq-self c) refl

  pub makes-default : Makes w next true (next_name w x) c
  makes-default = record {
    wider = λ y u. context-wider next c y (default-wider y u);
    freer = longer w.free_symbol;
    same = λ m e. context-called next c m (one-later m w.free_symbol e) ∙ default-called m e;
    other = subst (λ (y : Text). bytes_eq error_name y ≡ false) (sym fresh.name) (no-error-name fresh.number);
    fresh = λ y u. rw (not-it w x free y u, not-it next c fresh.free y (default-wider y u)) refl;
    finds = (sym (λ i. or_around (first-found i) None), (sym (λ i. or_around (second-found i) None), tt));
    default_found = first-found;
    context_found = second-found;
    default_used = context-wider next c x (it-used w x free);
    default_below = below-all w.free_symbol;
    default_some = refl;
    context_used = itself-used next c;
    old = λ s e. ((λ i. above-old w x s e i || (above-old next c s (one-later s w.free_symbol e) i || false)), error-old next c s (one-later s w.free_symbol e));
    apart = λ s e i. first-apart s e i || (error-apart next c s e i || false);
    pass = λ q a.
        let first = one-new q w x (record { words = a.words; new = λ m e d. (λ i. q (sym (context-called next c m d) i) (Some m)) ∙ a.new m e (long-later m w.free_symbol d) }) in
        let k = context-names q next c (record { words = a.words; new = λ m e d. a.new m (no-less m w.free_symbol e) d }) in
        (first, k.0, k.1);
  }
    where
      longer : (m : ℕ) → m ≤ m + 1 + 2
      longer m = omega arith

      below-all : (m : ℕ) → m < m + 1 + 2
      below-all m = omega arith

      first-apart : (s : ℕ) → is_it s (error_of next) ≡ true → is_it s (next_name w x) ≡ false
      first-apart s e = let d : w.free_symbol + 1 + 1 ≡ s = eqb-true (w.free_symbol + 1 + 1) s e in ne_eqb w.free_symbol s (λ f. omega arith)
