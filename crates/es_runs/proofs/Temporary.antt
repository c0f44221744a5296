-- Writing and reading a temporary, and the steps that a made node adds.
use Rattle.std.proofs.Common.{◌≡◌, refl, List}
use Rattle.std.specs.Prelude.{Bool, true, false, bytes_eq, if◌then◌else◌}
use Rattle.std.proofs.lemmas.Slice.Eq.{bytes_eq-Decides}
use Rattle.es_tree.specs.Words.{Text}
use Rattle.es_runs.specs.Machine.{Value, M, ◌>>=◌, onward, Result, Cell, Move, Question, with_cell, is_set}
use Rattle.es_runs.specs.Machine.State.{state}
use Rattle.es_runs.specs.Machine.Cell.{unset, holds}
use Rattle.es_runs.specs.Machine.Result.{gives, stops}
use Rattle.es_runs.specs.Core.{World, get_value, put_value, as_plain, write_name}
use Rattle.es_runs.specs.Core.Binding.{changeable}
use Rattle.es_runs.specs.Core.Reference.{named}
use Rattle.es_runs.specs.Alike.{set_cells, Agree}
use Rattle.es_runs.specs.Alike.Agree.{agree}

pub bytes_eq-self : (x : Text) → bytes_eq x x ≡ true
bytes_eq-self x = (bytes_eq-Decides x x).1 refl

pub bytes_eq-equal : (a b : Text) → bytes_eq a b ≡ true → a ≡ b
bytes_eq-equal a b h = (bytes_eq-Decides a b).0 h

pub bytes_eq-flip : (x y : Text) → bytes_eq x y ≡ bytes_eq y x
bytes_eq-flip x y = at (bytes_eq x y) (bytes_eq y x) refl refl
  where
    at : (b c : Bool) → bytes_eq x y ≡ b → bytes_eq y x ≡ c → b ≡ c
    at true true e d = refl
    at false false e d = refl
    at true false e d = let k : x ≡ y = bytes_eq-equal x y e in let same : bytes_eq y x ≡ true = rw k (bytes_eq-self y) in absurd (cc (same, d))
    at false true e d = let k : y ≡ x = bytes_eq-equal y x d in let same : bytes_eq x y ≡ true = rw k (bytes_eq-self x) in absurd (cc (same, e))

write_set : (x : Text) (u : Value) (d : Text → Cell) (ms : List Move) (qs : List Question) (c : Cell) → is_set c ≡ true → d x ≡ c → write_name x u changeable (state d ms qs) ≡ gives u (state (with_cell x u d) ms qs)
write_set x u d ms qs unset s e = cc
write_set x u d ms qs (holds old) s e = rw e

-- a temporary takes a value
pub put_temporary : (v : World) (x : Text) (u : Value) (d : Text → Cell) (ms : List Move) (qs : List Question) → v.scope x ≡ changeable → is_set (d x) ≡ true → put_value v (named x) u (state d ms qs) ≡ gives u (state (with_cell x u d) ms qs)
put_temporary v x u d ms qs e s = rw e (write_set x u d ms qs (d x) s refl)

-- and gives it back
pub get_temporary : (v : World) (x : Text) (u : Value) (d : Text → Cell) (ms : List Move) (qs : List Question) → v.scope x ≡ changeable → get_value v (named x) (state (with_cell x u d) ms qs) ≡ gives u (state (with_cell x u d) ms qs)
get_temporary v x u d ms qs e = rw (e, bytes_eq-self)

-- a cell that holds a value is read
pub read_holds : (v : World) (x : Text) (u : Value) (d : Text → Cell) (ms : List Move) (qs : List Question) → v.scope x ≡ changeable → d x ≡ holds u → get_value v (named x) (state d ms qs) ≡ gives u (state d ms qs)
read_holds v x u d ms qs e k = rw (e, k)

pub stored_here : (x : Text) (u : Value) (d : Text → Cell) → with_cell x u d x ≡ holds u
stored_here x u d = rw bytes_eq-self

pub stored_elsewhere : (x y : Text) (u : Value) (d : Text → Cell) → bytes_eq y x ≡ false → with_cell x u d y ≡ d y
stored_elsewhere x y u d e = rw e

-- a made node that gives its value adds no step
pub plain_again : (v : World) (r : Result Value) → onward (onward r as_plain) (get_value v) ≡ r
plain_again v (gives u s) = refl
plain_again v (stops w s) = refl

pub onward_onward : {A B C : Type 0} (r : Result A) (k : A → M B) (l : B → M C) → onward (onward r k) l ≡ onward r (λ a. k a >>= l)
onward_onward (gives a s) k l = refl
onward_onward (stops w s) k l = refl

module _ (hidden : Text → Bool) where
  -- what is stored in a hidden name is not seen
  pub agree_stored : (x : Text) (u : Value) {c d : Text → Cell} {ms : List Move} {qs : List Question} → hidden x ≡ true → ((y : Text) → hidden y ≡ false → d y ≡ c y) → ((y : Text) → hidden y ≡ true → is_set (d y) ≡ true) → Agree (set_cells hidden) (state c ms qs) (state (with_cell x u d) ms qs)
  agree_stored x u {c = c} {d = d} e h g = agree (λ y f. kept y f (bytes_eq y x) refl) (λ y f. set_where (bytes_eq y x) (d y) (g y f)) (λ y f. cc)
    where
      kept : (y : Text) → hidden y ≡ false → (b : Bool) → bytes_eq y x ≡ b → (if b then holds u else d y) ≡ c y
      kept y f false k = h y f
      kept y f true k = let i : y ≡ x = bytes_eq-equal y x k in cc

      set_where : (b : Bool) (o : Cell) → is_set o ≡ true → is_set (if b then holds u else o) ≡ true
      set_where true o k = refl
      set_where false o k = k
