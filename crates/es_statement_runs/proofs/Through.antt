-- Likeness through two meanings that are the same beside it.
use Rattle.std.proofs.Common.{◌≡◌, refl, sym, ◌∙◌}
use Rattle.std.specs.Prelude.{Bool, true, false}
use Rattle.es_runs.specs.Machine.{Value, M, ◌>>=◌, State, Result, is_callable}
use Rattle.es_runs.specs.Core.{World, Called, Meaning, Reference, callee_from, receiver, tested_callee}
use Rattle.es_runs.specs.Core.Reference.{named, plain}
use Rattle.es_runs.specs.Alike.{Frame, Agree, Same, Alike, Equal, SameCalled, SameReference, SameTarget, SameWorld, Level, Need, Like, LikeAt, the_target}
use Rattle.es_runs.specs.Alike.Equal.{equal}
use Rattle.es_runs.specs.Alike.Level.{no_evaluation, value_alone, an_operand_of_typeof, whole_reference, a_callee, a_target}
use Rattle.es_runs.specs.Alike.LikeCallee.{by_call, by_reference}
use Rattle.es_runs.specs.Alike.Same.{both_give, both_stop, outside, at_fault}
use Rattle.es_runs.specs.Alike.SameReference.{same_name, same_property, same_plain}
use Rattle.es_runs.specs.Alike.SameTarget.{target_name, target_property, target_plain}
use Rattle.es_runs.specs.Runs.{none_hidden}
use Rattle.es_runs.proofs.Basic.{bind_alike, get_alike, then_alike}
use Rattle.es_runs.proofs.Congruence.{at_level, weak_alike}
use Rattle.es_statement_runs.specs.Laws.{no_frame}
use Rattle.es_statement_runs.proofs.RunLaws.{agree_self, same_states}

-- Likeness of all that may be taken of a meaning, with nothing hidden
abbrev pub Mirrors : World → World → Meaning → Meaning → Type 0
Mirrors w v a b = Like no_frame w v the_target a b

module _ (F : Frame) where
  states_after : {s1 s2 s3 s4 : State} → Agree no_frame s1 s2 → Agree F s2 s3 → Agree no_frame s3 s4 → Agree F s1 s4
  states_after {s1} {s2} {s3} {s4} g h k = rw (same_states k) (rw (same_states g) at h)

  module _ {A B C D : Type 0} {First : A → B → Type 0} {Second : B → C → Type 0} {Third : C → D → Type 0} {R : A → D → Type 0} (through : (a : A) (b : B) (c : C) (d : D) → First a b → Second b c → Third c d → R a d) where
    result_through : {p : Result A} {q : Result B} {r : Result C} {t : Result D} → Same no_frame First p q → Same F Second q r → Same no_frame Third r t → Same F R p t
    result_through (both_give e g) (both_give f h) (both_give d k) = both_give (through _ _ _ _ e f d) (states_after g h k)
    result_through (both_stop g) (both_stop h) (both_stop k) = both_stop (states_after g h k)
    result_through (both_stop g) (both_stop h) outside = outside
    result_through (both_stop g) (both_stop h) (at_fault e) = absurd (cc e)
    result_through (both_stop g) outside k = outside
    result_through (both_stop g) (at_fault e) k = at_fault e
    result_through outside h k = outside
    result_through (at_fault e) h k = absurd (cc e)

    alike_through : {m : M A} {k : M B} {l : M C} {n : M D} → Alike no_frame First m k → Alike F Second k l → Alike no_frame Third l n → Alike F R m n
    alike_through h g f s t a = result_through (h s s (agree_self s)) (g s t a) (f t t (agree_self t))

  equal_through : {A : Type 0} (a b c d : A) → Equal a b → Equal b c → Equal c d → Equal a d
  equal_through a _ _ _ equal equal equal = equal

  reference_through : (a b c d : Reference) → SameReference no_frame a b → SameReference F b c → SameReference no_frame c d → SameReference F a d
  reference_through _ _ _ _ (same_name e) (same_name h) (same_name g) = same_name h
  reference_through _ _ _ _ same_property same_property same_property = same_property
  reference_through _ _ _ _ same_plain same_plain same_plain = same_plain

  target_through : (a b c d : Reference) → SameTarget no_frame a b → SameTarget F b c → SameTarget no_frame c d → SameTarget F a d
  target_through _ _ _ _ (target_name e f) (target_name h i) (target_name g k) = target_name h i
  target_through _ _ _ _ target_property target_property target_property = target_property
  target_through _ _ _ _ target_plain target_plain target_plain = target_plain

  called_through : (a b c d : Called) → Equal a b → SameCalled b c → Equal c d → SameCalled a d
  called_through a _ c _ equal h equal = h

module _ (w v : World) (same : SameWorld none_hidden w v) where
  tested_same : (b : Bool) (f r : Value) → Alike no_frame Equal (tested_callee b f r) (tested_callee b f r)
  tested_same true f r s t g = both_give equal g
  tested_same false f r s t g = outside

  called_same : (r q : Reference) → SameReference no_frame r q → Alike no_frame Equal (callee_from w r) (callee_from v q)
  called_same _ _ (same_name {x = x} e) = then_alike no_frame (get_alike no_frame w v same (same_name e)) (λ f. tested_same (is_callable f) f (receiver (named x)))
  called_same _ _ (same_property {o = o} {k = k}) = then_alike no_frame (get_alike no_frame w v same (same_property {o = o} {k = k})) (λ f. tested_same (is_callable f) f o)
  called_same _ _ (same_plain {v = u}) = then_alike no_frame (get_alike no_frame w v same (same_plain {v = u})) (λ f. tested_same (is_callable f) f (receiver (plain u)))

  mirrored_call : {a b : Meaning} → Mirrors w v a b → Alike no_frame Equal (a.reference >>= callee_from w) (b.reference >>= callee_from v)
  mirrored_call h = bind_alike no_frame (weak_alike no_frame w v same h.evaluation) called_same

module _ (F : Frame) (w0 w v v0 : World) (first : SameWorld none_hidden w0 w) (second : SameWorld none_hidden v v0) (a b c d : Meaning) (left : Mirrors w0 w a b) (right : Mirrors v v0 c d) where
  level_through : (level : Level) → LikeAt F w v level b c → b.form ≡ a.form → LikeAt F w0 v0 level a d
  level_through no_evaluation h e = tt
  level_through value_alone h e = alike_through F (equal_through F) (at_level no_frame w0 w first value_alone a b left.evaluation) h (at_level no_frame v v0 second value_alone c d right.evaluation)
  level_through an_operand_of_typeof h e = alike_through F (equal_through F) (at_level no_frame w0 w first an_operand_of_typeof a b left.evaluation) h (at_level no_frame v v0 second an_operand_of_typeof c d right.evaluation)
  level_through whole_reference h e = alike_through F (reference_through F) (weak_alike no_frame w0 w first left.evaluation) h (weak_alike no_frame v v0 second right.evaluation)
  level_through a_callee (by_reference h) e = by_reference (alike_through F (reference_through F) (weak_alike no_frame w0 w first left.evaluation) h (weak_alike no_frame v v0 second right.evaluation))
  level_through a_callee (by_call f h) e = by_call (sym e ∙ f) (alike_through F (called_through F) (mirrored_call w0 w first left) h (mirrored_call v v0 second right))
  level_through a_target h e = alike_through F (target_through F) left.evaluation h right.evaluation

  -- what is like between the mirrors is like between what they mirror
  pub like_through : (n : Need) → Like F w v n b c → Like F w0 v0 n a d
  like_through n h = record { evaluation = level_through n.level h.evaluation (left.form refl); form = λ e. right.form refl ∙ (h.form e ∙ left.form refl) }
