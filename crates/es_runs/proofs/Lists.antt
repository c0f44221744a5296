-- The kinds with lists, references that are kept, and chains.
use Rattle.std.proofs.Common.{◌≡◌, refl, List, [], ◌∷◌}
use Rattle.std.specs.Prelude.{Bool, true, false, bytes_eq, codes, ◌&&◌}
use Rattle.es_tree.specs.Words.{Text}
use Rattle.es_runs.specs.Machine.{◌>>=◌, do_call}
use Rattle.es_runs.specs.Machine.{Value, Values, Question, Move, Cell, State, Result, M, onward, return, next, is_callable, is_nullish}
use Rattle.es_runs.specs.Machine.Value.{undefined, bound}
use Rattle.es_runs.specs.Machine.Values.{none, ◌and◌}
use Rattle.es_runs.specs.Machine.Question.{read, get, construct, operator}
use Rattle.es_runs.specs.Machine.State.{state}
use Rattle.es_runs.specs.Machine.Cell.{unset, holds}
use Rattle.es_runs.specs.Machine.Move.{answer, throw}
use Rattle.es_runs.specs.Machine.Stop.{throws, waits, uncallable, cut, unknown, breaks, continues, out_of_turns, faults}
use Rattle.es_runs.specs.Machine.Result.{gives, stops}
use Rattle.es_runs.specs.Core.{World, Binding, Reference, Meaning, Form, value, values, get_value, read_name, read_cell, sequence, last_value, new_of, cut_where, word_of, key, is_math, pow_form, static_form, member_form, member, receiver, run_call, plain_call, apply_call, apply_bind, method_call, ask_pow, unmarked_call, call_value, call_of, closed_result, chain, parenthesized, in_order, initialise, declarator, settle, declared}
use Rattle.es_runs.specs.Core.Binding.{free, changeable, constant, silent}
use Rattle.es_runs.specs.Core.Reference.{named, property, plain}
use Rattle.es_runs.specs.Core.Form.{word, math_pow, member_call, member_bind}
use Rattle.es_runs.specs.Alike.{Frame, Same, Alike, Equal, SameReference, SameTarget, SameWorld, Level, Need, Like, LikeAt, content_level, the_value, the_target, key_need, object_need}
use Rattle.es_runs.specs.Alike.Level.{no_evaluation, value_alone, an_operand_of_typeof, whole_reference, a_callee, a_target}
use Rattle.es_runs.specs.Alike.{LikeCallee, SameCalled, the_callee}
use Rattle.es_runs.specs.Alike.LikeCallee.{by_reference, by_call}
use Rattle.es_runs.specs.Alike.SameCalled.{same_called, bound_called}
use Rattle.es_runs.specs.Core.{Called, callee_from, tested_callee}
use Rattle.es_runs.specs.Core.Called.{called}
use Rattle.std.proofs.Common.{sym}
use Rattle.es_runs.specs.Alike.SameTarget.{target_name, target_property, target_plain}
use Rattle.es_runs.specs.Alike.Same.{both_give, both_stop, outside, at_fault}
use Rattle.es_runs.specs.Alike.Equal.{equal}
use Rattle.es_runs.specs.Alike.SameReference.{same_name, same_property, same_plain}
use Rattle.es_runs.proofs.Basic.{onward_same, bind_alike, then_alike, return_alike, stop_alike, ask_alike, set_alike, call_alike, get_alike, value_alike}
use Rattle.es_runs.proofs.MathWords.{NoMathWord}
use Rattle.es_runs.proofs.Congruence.{at_level, plain_like, choice_alike, typeof_alike}

pub data AllLike (F : Frame) (w v : World) (n : Need) : List Meaning → List Meaning → Type 0 where
  no_more : AllLike F w v n [] []
  one_more : {a b : Meaning} {xs ys : List Meaning} → Like F w v n a b → AllLike F w v n xs ys → AllLike F w v n (a ∷ xs) (b ∷ ys)

module _ (F : Frame) (w v : World) (same : SameWorld F.hidden w v) where
  pub values_alike : {xs ys : List Meaning} → AllLike F w v the_value xs ys → Alike F Equal (values w xs) (values v ys)
  values_alike no_more = return_alike F none
  values_alike (one_more h hs) = then_alike F h.evaluation (λ x. then_alike F (values_alike hs) (λ us. return_alike F (x and us)))

  last_alike : (u : Value) {xs ys : List Meaning} → AllLike F w v the_value xs ys → Alike F Equal (last_value w u xs) (last_value v u ys)
  last_alike u no_more = return_alike F u
  last_alike u (one_more h hs) = then_alike F h.evaluation (λ x. last_alike x hs)

  pub sequence_like : (n : Need) (xs ys : List Meaning) → AllLike F w v the_value xs ys → Like F w v n (sequence w xs) (sequence v ys)
  sequence_like n xs ys h = plain_like F w v same n _ _ (last_alike undefined h)

  pub new_like : (n : Need) (a b : Meaning) (xs ys : List Meaning) → Like F w v the_value a b → AllLike F w v the_value xs ys → Like F w v n (new_of w a xs) (new_of v b ys)
  new_like n a b xs ys h hs = plain_like F w v same n _ _ (then_alike F h.evaluation (λ f. then_alike F (values_alike hs) (λ us. ask_alike F (construct f us))))

  cut_alike : {A B : Type 0} {R : A → B → Type 0} (b : Bool) {m : M A} {k : M B} → Alike F R m k → Alike F R (cut_where b m) (cut_where b k)
  cut_alike true h = stop_alike F cut
  cut_alike false h = h

  pub key_alike : (computed : Bool) (a b : Meaning) → Like F w v (key_need computed) a b → Alike F Equal (key w computed a) (key v computed b)
  key_alike true a b h = h.evaluation
  key_alike false a b h = rw (h.form refl) (return_alike F (word_of a.form))

  pub property_alike : (o k : Value) → Alike F (SameTarget F) (return (property o k)) (return (property o k))
  property_alike o k s t g = both_give target_property g

  -- the value of an object, where the place takes its reference too
  object_alike : (form optional : Bool) (a b : Meaning) → Like F w v (object_need form optional) a b → Alike F Equal (value w a) (value v b)
  object_alike form false a b h = h.evaluation
  object_alike form true a b h = value_alike F w v same a b h.evaluation

  member_alike : (computed optional : Bool) (a a' b b' : Meaning) → Alike F Equal (value w a) (value v a') → Like F w v (key_need computed) b b' → Alike F (SameTarget F) (member w computed optional a b).reference (member v computed optional a' b').reference
  member_alike computed optional a a' b b' h g = then_alike F h (λ o. cut_alike (optional && is_nullish o) (then_alike F (key_alike computed b b' g) (property_alike o)))

  math_same : (x : Text) → (F.hidden (codes "Math") ≡ true → bytes_eq x (codes "Math") ≡ false) → is_math v x ≡ is_math w x
  math_same x words = at (F.hidden (codes "Math")) refl
    where
      at : (b : Bool) → F.hidden (codes "Math") ≡ b → is_math v x ≡ is_math w x
      at false e = rw (same.scope (codes "Math") e)
      at true e = rw (words e)

  pow_same : (optional : Bool) (f : Form) → NoMathWord F.hidden f → pow_form v optional f ≡ pow_form w optional f
  pow_same true f words = refl
  pow_same false (word x) words = rw (math_same x words)
  pow_same false _ words = refl

  static_same : (optional : Bool) (f : Form) (p : Text) → NoMathWord F.hidden f → static_form v optional f p ≡ static_form w optional f p
  static_same optional f p words = rw (pow_same optional f words)

  member_same : (computed optional : Bool) (f g : Form) → NoMathWord F.hidden f → member_form v computed optional f g ≡ member_form w computed optional f g
  member_same true optional f g words = refl
  member_same false optional f (word p) words = static_same optional f p words
  member_same false optional f _ words = refl

  pub member_form_like : (computed optional : Bool) (a a' b b' : Meaning) → NoMathWord F.hidden a.form → a'.form ≡ a.form → Like F w v (key_need computed) b b' → member_form v computed optional a'.form b'.form ≡ member_form w computed optional a.form b.form
  member_form_like true optional a a' b b' words e h = refl
  member_form_like false optional a a' b b' words e h = rw (e, h.form refl) (member_same false optional a.form b.form words)

  pub member_like : (n : Need) (computed optional : Bool) (a a' b b' : Meaning) → NoMathWord F.hidden a.form → Like F w v (object_need n.form optional) a a' → Like F w v (key_need computed) b b' → Like F w v n (member w computed optional a b) (member v computed optional a' b')
  member_like n computed optional a a' b b' words h g = record {
    evaluation = at_level F w v same n.level _ _ (member_alike computed optional a a' b b' (object_alike n.form optional a a' h) g);
    form = λ e. member_form_like computed optional a a' b b' words (h.form e) g;
  }

  -- calls

  pub run_alike : (b : Bool) (f r : Value) (xs ys : List Meaning) → AllLike F w v the_value xs ys → Alike F Equal (run_call w b xs f r) (run_call v b ys f r)
  run_alike true f r xs ys h = then_alike F (values_alike h) (call_alike F f r)
  run_alike false f r xs ys h = stop_alike F uncallable

  receiver_same : (r q : Reference) → SameReference F r q → receiver q ≡ receiver r
  receiver_same _ _ (same_name e) = refl
  receiver_same _ _ same_property = refl
  receiver_same _ _ same_plain = refl

  plain_call_alike : (optional : Bool) (xs ys : List Meaning) → AllLike F w v the_value xs ys → (r q : Reference) → SameReference F r q → Alike F Equal (plain_call w optional xs r) (plain_call v optional ys q)
  plain_call_alike optional xs ys h r q e = rw (receiver_same r q e) (then_alike F (get_alike F w v same e) (λ f. cut_alike (optional && is_nullish f) (run_alike (is_callable f) f (receiver r) xs ys h)))

  apply_call_alike : (f : Value) (us : Values) → Alike F Equal (apply_call f us) (apply_call f us)
  apply_call_alike f none = call_alike F f undefined none
  apply_call_alike f (r and us) = call_alike F f r us

  apply_bind_alike : (f : Value) (us : Values) → Alike F Equal (apply_bind f us) (apply_bind f us)
  apply_bind_alike f none = return_alike F (bound f undefined none)
  apply_bind_alike f (r and us) = return_alike F (bound f r us)

  method_alike : (apply : Value → Values → M Value) → ((f : Value) (us : Values) → Alike F Equal (apply f us) (apply f us)) → (xs ys : List Meaning) → AllLike F w v the_value xs ys → (r q : Reference) → SameReference F r q → Alike F Equal (method_call w apply xs r) (method_call v apply ys q)
  method_alike apply ok xs ys h _ _ (same_name {x = x} e) = plain_call_alike false xs ys h (named x) (named x) (same_name e)
  method_alike apply ok xs ys h _ _ (same_property {o = o} {k = k}) = choice_alike F w v same (is_callable o) (then_alike F (values_alike h) (ok o)) (plain_call_alike false xs ys h (property o k) (property o k) same_property)
  method_alike apply ok xs ys h _ _ (same_plain {v = u}) = plain_call_alike false xs ys h (plain u) (plain u) same_plain

  pow_alike : (a a' b b' : Meaning) → Like F w v the_value a a' → Like F w v the_value b b' → Alike F Equal (ask_pow w a b) (ask_pow v a' b')
  pow_alike a a' b b' h g = then_alike F h.evaluation (λ x. then_alike F g.evaluation (λ y. ask_alike F (operator (codes "**") (x and y and none))))

  unmarked_alike : (f : Form) (m k : M Reference) → Alike F (SameReference F) m k → (xs ys : List Meaning) → AllLike F w v the_value xs ys → Alike F Equal (unmarked_call w f m xs) (unmarked_call v f k ys)
  unmarked_alike math_pow m k h _ _ (one_more {a = a} {b = a'} g (one_more {a = b} {b = b'} f no_more)) = pow_alike a a' b b' g f
  unmarked_alike math_pow m k h _ _ no_more = bind_alike F h (plain_call_alike false _ _ no_more)
  unmarked_alike math_pow m k h _ _ (one_more g no_more) = bind_alike F h (plain_call_alike false _ _ (one_more g no_more))
  unmarked_alike math_pow m k h _ _ (one_more g (one_more f (one_more e d))) = bind_alike F h (plain_call_alike false _ _ (one_more g (one_more f (one_more e d))))
  unmarked_alike member_call m k h xs ys g = bind_alike F h (method_alike apply_call apply_call_alike xs ys g)
  unmarked_alike member_bind m k h xs ys g = bind_alike F h (method_alike apply_bind apply_bind_alike xs ys g)
  unmarked_alike _ m k h xs ys g = bind_alike F h (plain_call_alike false xs ys g)

  -- the arguments and the call, of a callee that can be called
  finish : World → List Meaning → Called → M Value
  finish u es (called f r) = values u es >>= do_call f r

  call_finishes : (u : World) (es : List Meaning) (r : Reference) (s : State) → plain_call u false es r s ≡ onward (callee_from u r s) (finish u es)
  unfolding finish
  call_finishes u es r s = at (get_value u r s)
    where
      tested : (b : Bool) (f : Value) (t : State) → run_call u b es f (receiver r) t ≡ onward (tested_callee b f (receiver r) t) (finish u es)
      tested true f t = refl
      tested false f t = refl

      at : (q : Result Value) → onward q (λ f. run_call u (is_callable f) es f (receiver r)) ≡ onward (onward q (λ f. tested_callee (is_callable f) f (receiver r))) (finish u es)
      at (gives f t) = tested (is_callable f) f t
      at (stops m t) = refl

  finish_alike : (xs ys : List Meaning) → AllLike F w v the_value xs ys → (a b : Called) → SameCalled a b → Alike F Equal (finish w xs a) (finish v ys b)
  unfolding finish
  finish_alike xs ys h _ _ (same_called {f = f} {r = r}) = then_alike F (values_alike h) (call_alike F f r)
  finish_alike xs ys h _ _ (bound_called {f = f} {r = r}) = then_alike F (values_alike h) (call_alike F f r)

  called_alike : (m k : M Reference) → Alike F SameCalled (m >>= callee_from w) (k >>= callee_from v) → (xs ys : List Meaning) → AllLike F w v the_value xs ys → Alike F Equal (m >>= plain_call w false xs) (k >>= plain_call v false ys)
  called_alike m k h xs ys g s t a = rw (all_finish w xs (m s), all_finish v ys (k t)) (onward_same F (h s t a) (finish_alike xs ys g))
    where
      all_finish : (u : World) (es : List Meaning) (q : Result Reference) → onward q (plain_call u false es) ≡ onward (onward q (callee_from u)) (finish u es)
      all_finish u es (gives r z) = call_finishes u es r z
      all_finish u es (stops n z) = refl

  callee_alike : (a b : Meaning) → LikeCallee F w v a b → b.form ≡ a.form → (xs ys : List Meaning) → AllLike F w v the_value xs ys → Alike F Equal (call_value w false a xs) (call_value v false b ys)
  callee_alike a b (by_reference h) e xs ys g = rw e (unmarked_alike a.form a.reference b.reference h xs ys g)
  callee_alike a b (by_call o h) e xs ys g = rw (e, o) (called_alike a.reference b.reference h xs ys g)

  call_value_alike : (optional : Bool) (a b : Meaning) → Like F w v (the_callee optional) a b → (xs ys : List Meaning) → AllLike F w v the_value xs ys → Alike F Equal (call_value w optional a xs) (call_value v optional b ys)
  call_value_alike true a b h xs ys g = bind_alike F h.evaluation (plain_call_alike true xs ys g)
  call_value_alike false a b h xs ys g = callee_alike a b h.evaluation (h.form refl) xs ys g

  pub call_like : (n : Need) (optional : Bool) (a b : Meaning) (xs ys : List Meaning) → Like F w v (the_callee optional) a b → AllLike F w v the_value xs ys → Like F w v n (call_of w optional a xs) (call_of v optional b ys)
  call_like n optional a b xs ys h g = plain_like F w v same n _ _ (call_value_alike optional a b h xs ys g)

  -- parentheses and chains

  parentheses_alike : (level : Level) (a b : Meaning) → LikeAt F w v level a b → LikeAt F w v level (parenthesized a) (parenthesized b)
  parentheses_alike no_evaluation a b h = tt
  parentheses_alike value_alone a b h = h
  parentheses_alike an_operand_of_typeof a b h = h
  parentheses_alike whole_reference a b h = h
  parentheses_alike a_callee a b (by_reference h) = by_reference h
  parentheses_alike a_callee a b (by_call e h) = by_call refl h
  parentheses_alike a_target a b h = h

  pub parenthesized_like : (n : Need) (a b : Meaning) → Like F w v (record { level = n.level; form = false }) a b → Like F w v n (parenthesized a) (parenthesized b)
  parenthesized_like n a b h = record { evaluation = parentheses_alike n.level a b h.evaluation; form = λ e. refl }

  closed_same : {r q : Result Reference} → Same F (SameReference F) r q → Same F (SameReference F) (closed_result r) (closed_result q)
  closed_same (both_give h g) = both_give h g
  closed_same (both_stop {w = cut} g) = both_give same_plain g
  closed_same (both_stop {w = throws u} g) = both_stop g
  closed_same (both_stop {w = waits} g) = both_stop g
  closed_same (both_stop {w = uncallable} g) = both_stop g
  closed_same (both_stop {w = unknown} g) = both_stop g
  closed_same (both_stop {w = breaks l} g) = both_stop g
  closed_same (both_stop {w = continues l} g) = both_stop g
  closed_same (both_stop {w = out_of_turns} g) = both_stop g
  closed_same (both_stop {w = faults z} g) = both_stop g
  closed_same outside = outside
  closed_same (at_fault h0) = at_fault h0

  -- statements

  pub in_order_alike : {xs ys : List Meaning} → AllLike F w v the_value xs ys → Alike F Equal (in_order w xs) (in_order v ys)
  in_order_alike no_more = return_alike F undefined
  in_order_alike (one_more h hs) = then_alike F h.evaluation (λ x. in_order_alike hs)

  initialise_alike : (u : Value) (r q : Reference) → SameTarget F r q → Alike F Equal (initialise u r) (initialise u q)
  initialise_alike u _ _ (target_name {x = x} e z) = set_alike F x e z u
  initialise_alike u _ _ target_property = stop_alike F unknown
  initialise_alike u _ _ target_plain = stop_alike F unknown

  pub declarator_like : (n : Need) (a a' b b' : Meaning) → Like F w v the_target a a' → Like F w v the_value b b' → Like F w v n (declarator w a b) (declarator v a' b')
  declarator_like n a a' b b' h g = plain_like F w v same n _ _ (bind_alike F h.evaluation (λ r q e. then_alike F g.evaluation (λ u. initialise_alike u r q e)))

  settle_alike : (lets : Bool) (r q : Reference) → SameTarget F r q → Alike F Equal (settle lets r) (settle lets q)
  settle_alike true _ _ (target_name {x = x} e z) = set_alike F x e z undefined
  settle_alike true _ _ target_property = return_alike F undefined
  settle_alike true _ _ target_plain = return_alike F undefined
  settle_alike false r q e = return_alike F undefined

  pub declared_alike : (lets : Bool) {xs ys : List Meaning} → AllLike F w v (record { level = a_target; form = false }) xs ys → Alike F Equal (declared lets xs) (declared lets ys)
  declared_alike lets no_more = return_alike F undefined
  declared_alike lets (one_more h hs) = bind_alike F h.evaluation (λ r q e. then_alike F (settle_alike lets r q e) (λ x. declared_alike lets hs))

abbrev pub closed_value : Result Value → Result Value
closed_value (gives u s) = gives u s
closed_value (stops cut s) = gives undefined s
closed_value (stops w s) = stops w s

next_uncut : (c : Text → Cell) (ms : List Move) (qs : List Question) → closed_value (next c ms qs) ≡ next c ms qs
next_uncut c [] qs = refl
next_uncut c (answer u ∷ ms) qs = refl
next_uncut c (throw u ∷ ms) qs = refl

cell_uncut : (x : Text) (d : Cell) (s : State) → closed_value (read_cell x d s) ≡ read_cell x d s
cell_uncut x unset s = refl
cell_uncut x (holds u) s = refl

name_uncut : (x : Text) (b : Binding) (s : State) → closed_value (read_name x b s) ≡ read_name x b s
name_uncut x free (state c ms qs) = next_uncut c ms (read x ∷ qs)
name_uncut x changeable (state c ms qs) = cell_uncut x (c x) (state c ms qs)
name_uncut x constant (state c ms qs) = cell_uncut x (c x) (state c ms qs)
name_uncut x (silent z) (state c ms qs) = cell_uncut x (c x) (state c ms qs)

get_uncut : (w : World) (r : Reference) (s : State) → closed_value (get_value w r s) ≡ get_value w r s
get_uncut w (named x) s = name_uncut x (w.scope x) s
get_uncut w (property o k) (state c ms qs) = next_uncut c ms (get o k ∷ qs)
get_uncut w (plain u) s = refl

-- the value of a chain is its content's, and undefined where that was cut short
pub closed_first : (w : World) (r : Result Reference) → onward (closed_result r) (get_value w) ≡ closed_value (onward r (get_value w))
closed_first w (gives r s) = rw get_uncut
closed_first w (stops (throws u) s) = refl
closed_first w (stops waits s) = refl
closed_first w (stops uncallable s) = refl
closed_first w (stops cut s) = refl
closed_first w (stops unknown s) = refl
closed_first w (stops (breaks l) s) = refl
closed_first w (stops (continues l) s) = refl
closed_first w (stops out_of_turns s) = refl
closed_first w (stops (faults z) s) = refl

module _ (F : Frame) (w v : World) (same : SameWorld F.hidden w v) where
  pub value_closed : {r q : Result Value} → Same F Equal r q → Same F Equal (closed_value r) (closed_value q)
  value_closed (both_give h g) = both_give h g
  value_closed (both_stop {w = cut} g) = both_give equal g
  value_closed (both_stop {w = throws u} g) = both_stop g
  value_closed (both_stop {w = waits} g) = both_stop g
  value_closed (both_stop {w = uncallable} g) = both_stop g
  value_closed (both_stop {w = unknown} g) = both_stop g
  value_closed (both_stop {w = breaks l} g) = both_stop g
  value_closed (both_stop {w = continues l} g) = both_stop g
  value_closed (both_stop {w = out_of_turns} g) = both_stop g
  value_closed (both_stop {w = faults z} g) = both_stop g
  value_closed outside = outside
  value_closed (at_fault h0) = at_fault h0

  closed_target : {r q : Result Reference} → Same F (SameTarget F) r q → Same F (SameTarget F) (closed_result r) (closed_result q)
  closed_target (both_give h g) = both_give h g
  closed_target (both_stop {w = cut} g) = both_give target_plain g
  closed_target (both_stop {w = throws u} g) = both_stop g
  closed_target (both_stop {w = waits} g) = both_stop g
  closed_target (both_stop {w = uncallable} g) = both_stop g
  closed_target (both_stop {w = unknown} g) = both_stop g
  closed_target (both_stop {w = breaks l} g) = both_stop g
  closed_target (both_stop {w = continues l} g) = both_stop g
  closed_target (both_stop {w = out_of_turns} g) = both_stop g
  closed_target (both_stop {w = faults z} g) = both_stop g
  closed_target outside = outside
  closed_target (at_fault h0) = at_fault h0

  value_chain : (a b : Meaning) → Alike F Equal (value w a) (value v b) → Alike F Equal (value w (chain a)) (value v (chain b))
  value_chain a b h s t g = rw (closed_first w (a.reference s), closed_first v (b.reference t)) (value_closed (h s t g))

  reference_chain : (a b : Meaning) → Alike F (SameReference F) a.reference b.reference → Alike F (SameReference F) (chain a).reference (chain b).reference
  reference_chain a b h s t g = closed_same F w v same (h s t g)

  target_chain : (a b : Meaning) → Alike F (SameTarget F) a.reference b.reference → Alike F (SameTarget F) (chain a).reference (chain b).reference
  target_chain a b h s t g = closed_target (h s t g)

  -- a chain that is cut short calls what isn't callable
  closed_called : Result Called → Result Called
  closed_called (gives c s) = gives c s
  closed_called (stops cut s) = stops uncallable s
  closed_called (stops n s) = stops n s

  get_called : (u : World) (r : Reference) (s : State) → closed_called (callee_from u r s) ≡ callee_from u r s
  unfolding closed_called
  get_called u r s = at (get_value u r s) (get_uncut u r s)
    where
      tested : (b : Bool) (f : Value) (t : State) → closed_called (tested_callee b f (receiver r) t) ≡ tested_callee b f (receiver r) t
      tested true f t = refl
      tested false f t = refl

      at : (q : Result Value) → closed_value q ≡ q → closed_called (onward q (λ f. tested_callee (is_callable f) f (receiver r))) ≡ onward q (λ f. tested_callee (is_callable f) f (receiver r))
      at (gives f t) e = tested (is_callable f) f t
      at (stops cut t) e = cc
      at (stops (throws x) t) e = refl
      at (stops waits t) e = refl
      at (stops uncallable t) e = refl
      at (stops unknown t) e = refl
      at (stops (breaks l) t) e = refl
      at (stops (continues l) t) e = refl
      at (stops out_of_turns t) e = refl
      at (stops (faults z) t) e = refl

  closed_call : (u : World) (q : Result Reference) → onward (closed_result q) (callee_from u) ≡ closed_called (onward q (callee_from u))
  unfolding closed_called
  closed_call u (gives r s) = sym (get_called u r s)
  closed_call u (stops cut s) = refl
  closed_call u (stops (throws x) s) = refl
  closed_call u (stops waits s) = refl
  closed_call u (stops uncallable s) = refl
  closed_call u (stops unknown s) = refl
  closed_call u (stops (breaks l) s) = refl
  closed_call u (stops (continues l) s) = refl
  closed_call u (stops out_of_turns s) = refl
  closed_call u (stops (faults z) s) = refl

  called_closed : {r q : Result Called} → Same F SameCalled r q → Same F SameCalled (closed_called r) (closed_called q)
  unfolding closed_called
  called_closed (both_give h g) = both_give h g
  called_closed (both_stop {w = cut} g) = both_stop g
  called_closed (both_stop {w = throws u} g) = both_stop g
  called_closed (both_stop {w = waits} g) = both_stop g
  called_closed (both_stop {w = uncallable} g) = both_stop g
  called_closed (both_stop {w = unknown} g) = both_stop g
  called_closed (both_stop {w = breaks l} g) = both_stop g
  called_closed (both_stop {w = continues l} g) = both_stop g
  called_closed (both_stop {w = out_of_turns} g) = both_stop g
  called_closed (both_stop {w = faults z} g) = both_stop g
  called_closed outside = outside
  called_closed (at_fault h0) = at_fault h0

  call_chain : (a b : Meaning) → Alike F SameCalled (a.reference >>= callee_from w) (b.reference >>= callee_from v) → Alike F SameCalled ((chain a).reference >>= callee_from w) ((chain b).reference >>= callee_from v)
  call_chain a b h s t g = rw (closed_call w (a.reference s), closed_call v (b.reference t)) (called_closed (h s t g))

  chain_alike : (level : Level) (a b : Meaning) → LikeAt F w v (content_level level) a b → LikeAt F w v level (chain a) (chain b)
  chain_alike no_evaluation a b h = tt
  chain_alike value_alone a b h = value_chain a b h
  chain_alike an_operand_of_typeof a b h = bind_alike F (reference_chain a b h) (typeof_alike F w v same)
  chain_alike whole_reference a b h = reference_chain a b h
  chain_alike a_callee a b (by_reference h) = by_reference (reference_chain a b h)
  chain_alike a_callee a b (by_call e h) = by_call refl (call_chain a b h)
  chain_alike a_target a b h = target_chain a b h

  pub chain_like : (n : Need) (a b : Meaning) → Like F w v (record { level = content_level n.level; form = false }) a b → Like F w v n (chain a) (chain b)
  chain_like n a b h = record { evaluation = chain_alike n.level a b h.evaluation; form = λ e. refl }
