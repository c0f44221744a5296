-- Marked calls: what stands before the arguments is tested, and called with its receiver.
use Rattle.std.proofs.Common.{◌≡◌, refl, List, ◌∷◌, ap, subst, ◌∙◌, ◌⊎◌}
use Rattle.std.specs.Prelude.{Bool, true, false, bytes_eq, codes}
use Rattle.es_tree.specs.Words.{Text}
use Rattle.es_tree.specs.Names.{first_text}
use Rattle.es_tree.specs.Tree.{Tree, Label, Fields}
use Rattle.es_runs.specs.Alike.{Frame, set_cells, kept_cells, Agree, Same, Alike, Equal, Like, SameReference, SameWorld, key_need, the_value}
use Rattle.es_runs.specs.Alike.Equal.{equal}
use Rattle.es_runs.specs.Alike.Same.{both_give, both_stop, outside, at_fault}
use Rattle.es_runs.specs.Alike.SameReference.{same_plain}
use Rattle.es_runs.specs.Core.{World, Meaning, Reference, value, values, get_value, as_plain, cut_where, key, member, name, call_of, plain_call, run_call, apply_call, is_free}
use Rattle.es_runs.specs.Core.Binding.{changeable}
use Rattle.es_runs.specs.Core.Reference.{named, property, plain}
use Rattle.es_runs.specs.Machine.{Value, Values, M, ◌>>=◌, onward, return, ask, State, Result, Cell, is_callable, is_nullish, do_call}
use Rattle.es_runs.specs.Machine.State.{state}
use Rattle.es_runs.specs.Machine.Value.{undefined}
use Rattle.es_runs.specs.Machine.Values.{◌and◌}
use Rattle.es_runs.specs.Machine.Cell.{holds}
use Rattle.es_runs.specs.Machine.Question.{get}
use Rattle.es_runs.specs.Machine.Result.{gives, stops}
use Rattle.es_runs.specs.Runs.{cells}
use Rattle.es_runs.proofs.Basic.{ask_alike, call_alike, onward_same}
use Rattle.es_runs.proofs.Duplicated.{AllSet, kept_agree, now_kept, now_set}
use Rattle.es_runs.proofs.Lists.{AllLike, key_alike, run_alike, values_alike}
use Rattle.es_runs.proofs.Temporary.{onward_onward, read_holds}
use Rattle.es_runs.proofs.OptionalChainingReceivers.{Held, passes_ends}
use Rattle.es_runs.proofs.OptionalChainingReceivers.Held.{held, neither, not_called}
use Rattle.es_runs.proofs.OptionalChainingStores.{kept_store, name_gives}
use Rattle.es_runs.proofs.OptionalChainingNullChecks.{passes, passes_then, store_and_test}

-- a result that isn't a member
abbrev pub NoProperty : Result Reference → Type 0
NoProperty (gives (property o k) s) = ⊥
NoProperty _ = Unit {0}

pub passes_twice : (v : World) (ts : List Tree) {A B C : Type 0} (m : M A) (k : A → M B) (l : B → M C) → ((passes v ts m >>= k) >>= l) ≡ passes v ts ((m >>= k) >>= l)
passes_twice v ts m k l = ap (λ n. n >>= l) (passes_then v ts m k) ∙ passes_then v ts (m >>= k) l

pub passes_no_property : (v : World) (ts : List Tree) (m : M Reference) → ((s : State) → NoProperty (m s)) → (t : State) → NoProperty (passes v ts m t)
passes_no_property v ts m h t = at (passes v ts m t) refl
  where
    at : (q : Result Reference) → passes v ts m t ≡ q → NoProperty q
    at (gives (property o k) z) e = passes_ends v (NoProperty (gives (property o k) z)) ts m t (property o k) z e (λ s i. subst NoProperty i (h s))
    at (gives (named x) z) e = tt
    at (gives (plain u) z) e = tt
    at (stops n z) e = tt

cut_then : (b : Bool) {A B : Type 0} (m : M A) (k : A → M B) (s : State) → onward (cut_where b m s) k ≡ cut_where b (m >>= k) s
cut_then true m k s = refl
cut_then false m k s = refl

module _ (hidden steady : Text → Bool) (w v : World) (same : SameWorld hidden w v) (vars : (y : Text) → hidden y ≡ true → v.scope y ≡ changeable) (steady_bound : (y : Text) → steady y ≡ true → is_free (w.scope y) ≡ false) where
  abbrev F : Frame
  F = set_cells hidden

  abbrev K : (Text → Cell) → Frame
  K d = kept_cells hidden steady d

  as_plain_same : {p q : Result Value} → Same F Equal p q → Same F (SameReference F) (onward p as_plain) (onward q as_plain)
  as_plain_same h = onward_same F h plain_step
    where
      plain_step : (a b : Value) → Equal a b → Alike F (SameReference F) (as_plain a) (as_plain b)
      plain_step a _ equal s t g = both_give same_plain g

  temporary_gives : (c : Text) → hidden c ≡ true → (f : Value) (t : State) → cells t c ≡ holds f → get_value v (named c) t ≡ gives f t
  temporary_gives c h f (state d ms qs) e = read_holds v c f d ms qs (vars c h) e

  module _ (es es' : List Meaning) (arguments : AllLike F w v the_value es es') where
    -- the arguments and the call, of a callee with its receiver
    abbrev finishes : Value → Value → M Reference
    finishes r f = run_call w (is_callable f) es f r >>= as_plain

    pub finish_after : (r : Value) (q : Result Value) → onward (onward q (λ f. cut_where (is_nullish f) (run_call w (is_callable f) es f r))) as_plain ≡ onward q (λ f. cut_where (is_nullish f) (finishes r f))
    finish_after r (gives f z) = cut_then (is_nullish f) (run_call w (is_callable f) es f r) as_plain z
    finish_after r (stops n z) = refl

    -- `y(..)`, where y has the callee
    pub name_called : (l : Label) (fs : Fields) → is_free (v.scope (first_text l.texts)) ≡ false → (f : Value) (s t : State) → Agree F s t → cells t (first_text l.texts) ≡ holds f →
        Same F (SameReference F) (finishes undefined f s) ((call_of v false (name (first_text l.texts)) es').reference t)
    name_called l fs bound f s t g e = rw (name_gives hidden steady w v same vars l fs bound f t e) (as_plain_same (run_alike F w v same (is_callable f) f undefined es es' arguments s t g))

    -- `c.call(r, ..)`, where c has the callee and r gives its receiver
    abbrev made_call : Text → Meaning → M Reference
    made_call c r = (call_of v false (member v false false (name c) (name (codes "call"))) (r ∷ es')).reference

    argument_step : (f u : Value) (a b : Values) → Equal a b → Alike F Equal (do_call f u a) (return (u and b) >>= apply_call f)
    argument_step f u a _ equal = call_alike F f u a

    member_called : (c : Text) → hidden c ≡ true → (r : Meaning) (f u : Value) (s t : State) → Agree F s t → cells t c ≡ holds f → value v r t ≡ gives u t → Same F (SameReference F) (finishes u f s) (made_call c r t)
    member_called c h r f u s t g e d = at (is_callable f) refl
      where
        at : (b : Bool) → is_callable f ≡ b → Same F (SameReference F) (finishes u f s) (made_call c r t)
        at false i = rw i outside
        at true i =
            rw (i, temporary_gives c h f t e) (rw (i, d) (rw (onward_onward (values v es' t) (λ us. return (u and us)) (apply_call f))
            (as_plain_same (onward_same F (values_alike F w v same arguments s t g) (argument_step f u)))))

    -- the callee is asked for, stored and tested
    module _ (no_all : Bool) (c : Text) (c_hidden : hidden c ≡ true) (r : Meaning) (names : Text → Bool) (kept : (z : Text) → names z ≡ true → (hidden z ≡ true) ⊎ (steady z ≡ true)) (others : (z : Text) → names z ≡ true → bytes_eq z c ≡ false) where
      keyed : (u : Value) (d : Text → Cell) → AllSet hidden d → ((t : State) → ((z : Text) → names z ≡ true → cells t z ≡ d z) → value v r t ≡ gives u t) → {m q : Result Value} → Same (K d) Equal m q →
          Same F (SameReference F) (onward (onward (onward m (λ k. return (property u k))) (plain_call w true es)) as_plain) (onward (onward (onward q (λ k. return (property u k))) (get_value v)) (store_and_test no_all v c (made_call c r)))
      keyed u d set again (both_give {a = k} {s = s} {t = t} equal g) =
          rw (finish_after u (ask (get u k) s))
          (kept_store hidden steady w v same vars no_all c c_hidden d set (ask_alike (K d) (get u k) s t g) (finishes u) (made_call c r)
          (λ f s2 t2 a e same_cells. member_called c c_hidden r f u s2 t2 a e (again t2 (λ z i. same_cells z (kept z i) (others z i)))))
      keyed u d set again (both_stop g) = both_stop (kept_agree hidden steady d set _ _ g)
      keyed u d set again outside = outside
      keyed u d set again (at_fault h0) = at_fault h0

      pub from_object : (computed : Bool) (p p' : Meaning) → ((d : Text → Cell) → Like (K d) w v (key_need computed) p p') → {m q : Result Value} → Held hidden v r names m q →
          Same F (SameReference F) (onward (onward (onward m (λ u. key w computed p >>= λ k. return (property u k))) (plain_call w true es)) as_plain)
          (onward (onward (onward q (λ u. key v computed p' >>= λ k. return (property u k))) (get_value v)) (store_and_test no_all v c (made_call c r)))
      from_object computed p p' keys (held {s = s} {t = t} u again g) = keyed u (cells t) (now_set hidden steady s t g) again (key_alike (K (cells t)) w v same computed p p' (keys (cells t)) s t (now_kept hidden steady s t g))
      from_object computed p p' keys (neither g) = both_stop g
      from_object computed p p' keys not_called = outside
