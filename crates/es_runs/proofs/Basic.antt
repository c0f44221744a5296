-- The steps of the machine are alike in states that agree.
use Rattle.std.proofs.Common.{◌≡◌, refl, List, [], ◌∷◌, ap}
use Rattle.std.proofs.lemmas.Slice.Eq.{bytes_eq-Decides}
use Rattle.std.specs.Prelude.{Bool, true, false, bytes_eq, if◌then◌else◌, ◌&&◌}
use Rattle.es_tree.specs.Words.{Text}
use Rattle.es_runs.specs.Machine.{Value, Values, Question, Move, Cell, Stop, Result, M, ◌>>=◌, onward, return, stop, ask, next, cell_of, set_cell, with_cell, do_call, joined}
use Rattle.es_runs.specs.Machine.Value.{undefined, null, boolean, number, bigint, text, host, bound, unset_error, constant_error, own}
use Rattle.es_runs.specs.Machine.Question.{read, write, get, put, call}
use Rattle.es_runs.specs.Machine.Move.{answer, throw}
use Rattle.es_runs.specs.Machine.Cell.{unset, holds}
use Rattle.es_runs.specs.Machine.Stop.{unknown, faults}
use Rattle.es_runs.specs.Core.{World, Binding, Reference, Meaning, value, get_value, put_value, read_name, read_cell, write_name, change_cell, keep_cell}
use Rattle.es_runs.specs.Core.Binding.{free, changeable, constant, silent}
use Rattle.es_runs.specs.Alike.{Frame, CellSeen, is_loose, Same, Alike, Equal, SameReference, SameTarget, SameWorld}
use Rattle.es_runs.specs.Alike.SameTarget.{target_name, target_property, target_plain}
use Rattle.es_runs.specs.Alike.Agree.{agree}
use Rattle.es_runs.specs.Alike.Same.{both_give, both_stop, outside, at_fault}
use Rattle.es_runs.specs.Alike.Equal.{equal}
use Rattle.es_runs.specs.Alike.SameReference.{same_name, same_property, same_plain}

module _ (F : Frame) where
  pub onward_same : {A B C D : Type 0} {R : A → B → Type 0} {Q : C → D → Type 0} {r : Result A} {u : Result B} {k : A → M C} {l : B → M D} → Same F R r u → ((a : A) (b : B) → R a b → Alike F Q (k a) (l b)) → Same F Q (onward r k) (onward u l)
  onward_same (both_give h g) kl = kl _ _ h _ _ g
  onward_same (both_stop g) kl = both_stop g
  onward_same outside kl = outside
  onward_same (at_fault h0) kl = at_fault h0

  pub bind_alike : {A B C D : Type 0} {R : A → B → Type 0} {Q : C → D → Type 0} {m : M A} {n : M B} {k : A → M C} {l : B → M D} → Alike F R m n → ((a : A) (b : B) → R a b → Alike F Q (k a) (l b)) → Alike F Q (m >>= k) (n >>= l)
  bind_alike h kl s t g = onward_same (h s t g) kl

  equal_step : {A C D : Type 0} {Q : C → D → Type 0} {k : A → M C} {l : A → M D} → ((a : A) → Alike F Q (k a) (l a)) → (a b : A) → Equal a b → Alike F Q (k a) (l b)
  equal_step kl a b equal = kl a

  -- the same value on both sides
  pub then_alike : {A C D : Type 0} {Q : C → D → Type 0} {m n : M A} {k : A → M C} {l : A → M D} → Alike F Equal m n → ((a : A) → Alike F Q (k a) (l a)) → Alike F Q (m >>= k) (n >>= l)
  then_alike h kl = bind_alike h (equal_step kl)

  pub return_alike : {A : Type 0} (a : A) → Alike F Equal (return a) (return a)
  return_alike a s t g = both_give equal g

  pub stop_alike : {A B : Type 0} {R : A → B → Type 0} (w : Stop) → Alike F R (stop {A = A} w) (stop {A = B} w)
  stop_alike w s t g = both_stop g

  abbrev SeenAlike : (c d : Text → Cell) → Type 0
  SeenAlike c d = (x : Text) → F.hidden x ≡ false → CellSeen (is_loose F x) (c x) (d x)

  abbrev HiddenFit : (c d : Text → Cell) → Type 0
  HiddenFit c d = (x : Text) → F.hidden x ≡ true → F.fits c x (d x)

  abbrev FrozenKept : (d : Text → Cell) → Type 0
  FrozenKept d = (x : Text) → F.frozen x ≡ true → F.keeps x (d x)

  next_same : (c d : Text → Cell) (ms : List Move) (qs : List Question) → SeenAlike c d → HiddenFit c d → FrozenKept d → Same F Equal (next c ms qs) (next d ms qs)
  next_same c d [] qs h g f = both_stop (agree h g f)
  next_same c d (answer v ∷ ms) qs h g f = both_give equal (agree h g f)
  next_same c d (throw v ∷ ms) qs h g f = both_stop (agree h g f)

  pub ask_alike : (q : Question) → Alike F Equal (ask q) (ask q)
  ask_alike q s t (agree {c = c} {d = d} {ms = ms} {qs = qs} h g f) = next_same c d ms (q ∷ qs) h g f

  -- the same cell, or an unset one of a name that is set later
  pub data CellLike : Cell → Cell → Type 0 where
    same_cell : {c : Cell} → CellLike c c
    later_cell : {d : Cell} → F.faults_outside ≡ true → CellLike unset d

  like_seen : (b l : Bool) → F.faults_outside ≡ b → (c d : Cell) → CellSeen (b && l) c d → CellLike c d
  like_seen true true e unset d h = later_cell e
  like_seen true true e (holds v) d h = rw h same_cell
  like_seen true false e c d h = rw h same_cell
  like_seen false l e c d h = rw h same_cell

  pub cell_alike : (x : Text) → F.hidden x ≡ false → Alike F CellLike (cell_of x) (cell_of x)
  cell_alike x e s t (agree {c = c} {d = d} h g f) = both_give (like_seen F.faults_outside (F.loose x) refl (c x) (d x) (h x e)) (agree h g f)

  strict_like : (x : Text) → is_loose F x ≡ false → (c d : Cell) → CellSeen (is_loose F x) c d → Equal c d
  strict_like x k c d = rw k (λ h. rw h equal)

  -- the cell of a name that can't be set later
  pub strict_cell_alike : (x : Text) → F.hidden x ≡ false → is_loose F x ≡ false → Alike F Equal (cell_of x) (cell_of x)
  strict_cell_alike x e k s t (agree {c = c} {d = d} h g f) = both_give (strict_like x k (c x) (d x) (h x e)) (agree h g f)

  seen_self : (b : Bool) (v : Value) → CellSeen b (holds v) (holds v)
  seen_self true v = refl
  seen_self false v = refl

  changed : (x y : Text) (v : Value) (c d : Text → Cell) (l : Bool) → CellSeen l (c y) (d y) → CellSeen l (with_cell x v c y) (with_cell x v d y)
  changed x y v c d l e = at (bytes_eq y x)
    where
      at : (b : Bool) → CellSeen l (if b then holds v else c y) (if b then holds v else d y)
      at true = seen_self l v
      at false = e

  -- a hidden name is another name
  apart : (these : Text → Bool) (x y : Text) (v : Value) (d : Text → Cell) → these x ≡ false → these y ≡ true → (b : Bool) → bytes_eq y x ≡ b → (if b then holds v else d y) ≡ d y
  apart these x y v d e h false k = refl
  apart these x y v d e h true k = let i : y ≡ x = (bytes_eq-Decides y x).0 k in cc (ap these i)

  still : (P : Cell → Type 0) (these : Text → Bool) (x y : Text) (v : Value) (d : Text → Cell) → these x ≡ false → these y ≡ true → P (d y) → P (with_cell x v d y)
  still P these x y v d e h g = rw (apart these x y v d e h (bytes_eq y x) refl) g

  pub set_alike : (x : Text) → F.hidden x ≡ false → F.frozen x ≡ false → (v : Value) → Alike F Equal (set_cell x v) (set_cell x v)
  set_alike x e z v s t (agree {c = c} {d = d} h g f) = both_give equal (agree (λ y k. changed x y v c d (is_loose F y) (h y k))
      (λ y k. F.steady c (with_cell x v c) (λ u i. apart F.hidden x u v c e i (bytes_eq u x) refl) y k (with_cell x v d y) (still (F.fits c y) F.hidden x y v d e k (g y k)))
      (λ y k. still (F.keeps y) F.frozen x y v d z k (f y k)))

  read_cell_alike : (x : Text) (c d : Cell) → CellLike c d → Alike F Equal (read_cell x c) (read_cell x d)
  read_cell_alike x unset _ same_cell = stop_alike (faults (unset_error x))
  read_cell_alike x (holds v) _ same_cell = return_alike v
  read_cell_alike x _ d (later_cell e) = λ s t g. at_fault e

  pub read_name_alike : (x : Text) → F.hidden x ≡ false → (b : Binding) → Alike F Equal (read_name x b) (read_name x b)
  read_name_alike x e free = ask_alike (read x)
  read_name_alike x e changeable = bind_alike (cell_alike x e) (read_cell_alike x)
  read_name_alike x e constant = bind_alike (cell_alike x e) (read_cell_alike x)
  read_name_alike x e (silent z) = bind_alike (cell_alike x e) (read_cell_alike x)

  change_cell_alike : (x : Text) → F.hidden x ≡ false → F.frozen x ≡ false → (v : Value) (c d : Cell) → CellLike c d → Alike F Equal (change_cell x v c) (change_cell x v d)
  change_cell_alike x e z v unset _ same_cell = stop_alike (faults (unset_error x))
  change_cell_alike x e z v (holds u) _ same_cell = set_alike x e z v
  change_cell_alike x e z v _ d (later_cell i) = λ s t g. at_fault i

  keep_cell_alike : (x : Text) (c d : Cell) → CellLike c d → Alike F (Equal {A = Value}) (keep_cell x c) (keep_cell x d)
  keep_cell_alike x unset _ same_cell = stop_alike (faults (unset_error x))
  keep_cell_alike x (holds u) _ same_cell = stop_alike (faults (constant_error x))
  keep_cell_alike x _ d (later_cell i) = λ s t g. at_fault i

  pub write_name_alike : (x : Text) (v : Value) → F.hidden x ≡ false → F.frozen x ≡ false → (b : Binding) → Alike F Equal (write_name x v b) (write_name x v b)
  write_name_alike x v e z free = then_alike (ask_alike (write x v)) (λ _. return_alike v)
  write_name_alike x v e z changeable = bind_alike (cell_alike x e) (change_cell_alike x e z v)
  write_name_alike x v e z constant = bind_alike (cell_alike x e) (keep_cell_alike x)
  write_name_alike x v e z (silent i) = bind_alike (cell_alike x e) (keep_cell_alike x)

  pub call_alike : (f r : Value) (vs : Values) → Alike F Equal (do_call f r vs) (do_call f r vs)
  call_alike undefined r vs = ask_alike (call undefined r vs)
  call_alike null r vs = ask_alike (call null r vs)
  call_alike (boolean b) r vs = ask_alike (call (boolean b) r vs)
  call_alike (number b) r vs = ask_alike (call (number b) r vs)
  call_alike (bigint b) r vs = ask_alike (call (bigint b) r vs)
  call_alike (text b) r vs = ask_alike (call (text b) r vs)
  call_alike (host n a b c) r vs = ask_alike (call (host n a b c) r vs)
  call_alike (bound f q ws) r vs = call_alike f q (joined ws vs)
  call_alike (unset_error b) r vs = ask_alike (call (unset_error b) r vs)
  call_alike (constant_error b) r vs = ask_alike (call (constant_error b) r vs)
  call_alike (own b) r vs = ask_alike (call (own b) r vs)

  module _ (w v : World) (same : SameWorld F.hidden w v) where
    pub get_alike : {r q : Reference} → SameReference F r q → Alike F Equal (get_value w r) (get_value v q)
    get_alike (same_name {x = x} e) = rw (same.scope x e) (read_name_alike x e (w.scope x))
    get_alike (same_property {o = o} {k = k}) = ask_alike (get o k)
    get_alike (same_plain {v = u}) = return_alike u

    pub put_alike : {r q : Reference} (u : Value) → SameTarget F r q → Alike F Equal (put_value w r u) (put_value v q u)
    put_alike u (target_name {x = x} e z) = rw (same.scope x e) (write_name_alike x u e z (w.scope x))
    put_alike u (target_property {o = o} {k = k}) = then_alike (ask_alike (put o k u)) (λ _. return_alike u)
    put_alike u target_plain = stop_alike unknown

    pub read_target : {r q : Reference} → SameTarget F r q → SameReference F r q
    read_target (target_name e z) = same_name e
    read_target target_property = same_property
    read_target target_plain = same_plain

    pub value_alike : (a b : Meaning) → Alike F (SameReference F) a.reference b.reference → Alike F Equal (value w a) (value v b)
    value_alike a b h = bind_alike h (λ r q e. get_alike e)
