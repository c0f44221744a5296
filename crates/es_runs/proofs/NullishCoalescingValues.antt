-- The value of `l ?? r` and that of what it becomes are alike, where the values of `l` and `r` are.
use Rattle.std.proofs.Common.{◌≡◌, refl, List, ◌∙◌}
use Rattle.std.specs.Prelude.{Bool, true, false, codes, if◌then◌else◌, not}
use Rattle.es_tree.specs.Words.{Text}
use Rattle.es_tree.specs.Tree.{Tree, Label}
use Rattle.es_runs.specs.Machine.{Value, M, onward, return, State, Stop, Result, Cell, Move, Question, with_cell, is_set, is_null, is_true}
use Rattle.es_runs.specs.Machine.Value.{undefined, null, boolean, number, unset_error}
use Rattle.es_runs.specs.Machine.State.{state}
use Rattle.es_runs.specs.Machine.Result.{gives, stops}
use Rattle.es_runs.specs.Core.{World, Binding, Meaning, value, get_value, put_value, gives_value, as_plain, literal, name, conditional, logical, binary, unary, parenthesized, assignment, Form, meaning, goes_right, is_free, read_cell}
use Rattle.es_runs.specs.Machine.Stop.{faults}
use Rattle.es_runs.specs.Machine.Cell.{unset, holds}
use Rattle.es_runs.specs.Core.Binding.{free, changeable, constant, silent}
use Rattle.es_runs.specs.Core.Reference.{named}
use Rattle.es_runs.specs.Core.Form.{null_form, zero_form}
use Rattle.es_runs.specs.Alike.{set_cells, Agree, Same, Alike, Equal, Need, Like, SameWorld}
use Rattle.es_runs.specs.Alike.Agree.{agree}
use Rattle.es_runs.specs.Alike.Same.{both_give, both_stop, outside, at_fault}
use Rattle.es_runs.specs.Alike.Equal.{equal}
use Rattle.es_runs.specs.Rules.{tested_by}
use Rattle.es_runs.proofs.Congruence.{plain_like}
use Rattle.es_runs.proofs.Temporary.{put_temporary, get_temporary, plain_again, agree_stored}

abbrev strictly_not : World → Meaning → Meaning → Meaning
strictly_not v a b = binary v (codes "!==") a b

abbrev pub tested_meaning : World → Meaning → Meaning → Meaning → Meaning
tested_meaning v begin again r = conditional v (logical v (codes "&&") (strictly_not v begin (literal null null_form)) (strictly_not v again (unary v (codes "void") (literal (number (codes "0")) zero_form)))) again r

abbrev stored : World → Text → Meaning → Meaning
stored v x a = parenthesized (assignment v (codes "=") (name x) a)

-- the whole that a node stands for
made_as : (v : World) (m : Label) (x : Text) (l r : Tree) → meaning v (tested_by m x l r) ≡ tested_meaning v (stored v x (meaning v l)) (name x) (meaning v r)
made_as v m x l r = refl

-- the evaluation of what is made, from the result of l
abbrev after_store : World → Text → Result Value → Result Value
after_store v x q = onward (onward (onward q (put_value v (named x))) as_plain) (get_value v)

abbrev after_test : World → Meaning → (Value → Bool) → Result Value → Result Value
after_test v again f q = onward (onward (onward q (λ u. return (boolean (f u)))) as_plain) (get_value v)

abbrev after_and : World → Meaning → Result Value → Result Value
after_and v r q = onward (onward (onward q (λ u. if goes_right (codes "&&") u then value v r else return u)) as_plain) (get_value v)

abbrev after_choice : World → Meaning → Meaning → Result Value → Result Value
after_choice v a b q = onward (onward (onward q (λ u. if is_true u then value v a else value v b)) as_plain) (get_value v)

abbrev is_not : (Value → Bool) → Value → Bool
is_not f u = not (f u)

abbrev after_all : World → Text → Meaning → Result Value → Result Value
after_all v x b q = after_choice v (name x) b (after_and v (strictly_not v (name x) (unary v (codes "void") (literal (number (codes "0")) zero_form))) (after_test v b (is_not is_null) (after_store v x q)))

abbrev source_after : World → Meaning → Result Value → Result Value
source_after w b p = onward (onward (onward p (λ u. if goes_right (codes "??") u then value w b else return u)) as_plain) (get_value w)

module _ (hidden : Text → Bool) (w v : World) (same : SameWorld hidden w v) (x : Text) (is_hidden : hidden x ≡ true) (is_var : v.scope x ≡ changeable) (b b' : Meaning) (right : Alike (set_cells hidden) Equal (value w b) (value v b')) where
  right_plain : {s t : State} → Agree (set_cells hidden) s t → Same (set_cells hidden) Equal (onward (onward (value w b s) as_plain) (get_value w)) (onward (onward (value v b' t) as_plain) (get_value v))
  right_plain g = rw (plain_again w, plain_again v) (right _ _ g)

  given : (u : Value) {c d : Text → Cell} (ms : List Move) (qs : List Question) → is_set (d x) ≡ true → Agree (set_cells hidden) (state c ms qs) (state (with_cell x u d) ms qs) → Same (set_cells hidden) Equal (source_after w b (gives u (state c ms qs))) (after_all v x b' (gives u (state d ms qs)))
  given undefined {d = d} ms qs e g = rw (put_temporary v x undefined d ms qs is_var e) (rw (get_temporary v x undefined d ms qs is_var) (right_plain g))
  given null {d = d} ms qs e g = rw (put_temporary v x null d ms qs is_var e) (right_plain g)
  given u {d = d} ms qs e g = rw (put_temporary v x u d ms qs is_var e) (rw (get_temporary v x u d ms qs is_var) (rw (get_temporary v x u d ms qs is_var) (both_give equal g)))

  after_left : {p q : Result Value} → Same (set_cells hidden) Equal p q → Same (set_cells hidden) Equal (source_after w b p) (after_all v x b' q)
  after_left (both_give {a = u} equal (agree {ms = ms} {qs = qs} h g f)) = given u ms qs (g x is_hidden) (agree_stored hidden x u is_hidden h g)
  after_left (both_stop g) = both_stop g
  after_left outside = outside
  after_left (at_fault h0) = at_fault h0

  pub nullish_alike : (a a' : Meaning) → Alike (set_cells hidden) Equal (value w a) (value v a') → Alike (set_cells hidden) Equal (value w (logical w (codes "??") a b)) (value v (tested_meaning v (stored v x a') (name x) b'))
  nullish_alike a a' h s t g = after_left (h s t g)

module _ (hidden : Text → Bool) (w v : World) (same : SameWorld hidden w v) where
  bare : (p q : Result Value) → Same (set_cells hidden) Equal (onward (onward p as_plain) (get_value w)) (onward (onward q as_plain) (get_value v)) → Same (set_cells hidden) Equal p q
  bare p q h = rw (plain_again w, plain_again v) at h

  -- two evaluations that give no reference are alike at any place where their values are
  pub like_by_value : (n : Need) (m k : M Value) → Alike (set_cells hidden) Equal (value w (gives_value m)) (value v (gives_value k)) → Like (set_cells hidden) w v n (gives_value m) (gives_value k)
  like_by_value n m k h = plain_like (set_cells hidden) w v same n m k (λ s t g. bare (m s) (k t) (h s t g))

  -- a left side that gives u, and changes nothing, however often it is evaluated
  module _ (a a' b b' : Meaning) (right : Alike (set_cells hidden) Equal (value w b) (value v b')) where
    steady_gives : (u : Value) (s t : State) → Agree (set_cells hidden) s t → value w a s ≡ gives u s → value v a' t ≡ gives u t → Same (set_cells hidden) Equal (value w (logical w (codes "??") a b) s) (value v (tested_meaning v a' a' b') t)
    steady_gives undefined s t g e d = rw e (rw d (rw d (rw (plain_again w, plain_again v) (right s t g))))
    steady_gives null s t g e d = rw e (rw d (rw (plain_again w, plain_again v) (right s t g)))
    steady_gives u s t g e d = rw e (rw d (rw d (rw d (both_give equal g))))

    steady_stops : (m : Stop) (s t : State) → Agree (set_cells hidden) s t → value w a s ≡ stops m s → value v a' t ≡ stops m t → Same (set_cells hidden) Equal (value w (logical w (codes "??") a b) s) (value v (tested_meaning v a' a' b') t)
    steady_stops m s t g e d = rw e (rw d (both_stop g))

  pub literal_steady : (u : Value) (f : Form) (b b' : Meaning) → Alike (set_cells hidden) Equal (value w b) (value v b') → Alike (set_cells hidden) Equal (value w (logical w (codes "??") (literal u f) b)) (value v (tested_meaning v (literal u f) (literal u f) b'))
  literal_steady u f b b' right s t g = steady_gives (literal u f) (literal u f) b b' right u s t g refl refl

  -- a bound name
  pub cell_gives : (y : Text) (w1 : World) (b : Binding) → is_free b ≡ false → w1.scope y ≡ b → (c : Text → Cell) (ms : List Move) (qs : List Question) (o : Cell) → c y ≡ o → value w1 (name y) (state c ms qs) ≡ read_cell y o (state c ms qs)
  cell_gives y w1 free e d c ms qs o k = cc
  cell_gives y w1 changeable e d c ms qs o k = rw (d, k)
  cell_gives y w1 constant e d c ms qs o k = rw (d, k)
  cell_gives y w1 (silent z) e d c ms qs o k = rw (d, k)

  pub name_steady : (y : Text) → hidden y ≡ false → is_free (w.scope y) ≡ false → (b b' : Meaning) → Alike (set_cells hidden) Equal (value w b) (value v b') → Alike (set_cells hidden) Equal (value w (logical w (codes "??") (name y) b)) (value v (tested_meaning v (name y) (name y) b'))
  name_steady y e k b b' right _ _ (agree {c = c} {d = d} {ms = ms} {qs = qs} h g f) = at (c y) refl
    where
      here_w : (o : Cell) → c y ≡ o → value w (name y) (state c ms qs) ≡ read_cell y o (state c ms qs)
      here_w o i = cell_gives y w (w.scope y) k refl c ms qs o i

      here_v : (o : Cell) → c y ≡ o → value v (name y) (state d ms qs) ≡ read_cell y o (state d ms qs)
      here_v o i = cell_gives y v (w.scope y) k (same.scope y e) d ms qs o (h y e ∙ i)

      at : (o : Cell) → c y ≡ o → Same (set_cells hidden) Equal (value w (logical w (codes "??") (name y) b) (state c ms qs)) (value v (tested_meaning v (name y) (name y) b') (state d ms qs))
      at unset i = steady_stops (name y) (name y) b b' right (faults (unset_error y)) _ _ (agree h g f) (here_w unset i) (here_v unset i)
      at (holds u) i = steady_gives (name y) (name y) b b' right u _ _ (agree h g f) (here_w (holds u) i) (here_v (holds u) i)
