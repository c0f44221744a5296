-- Each kind of node is alike where its children are alike at what it takes of them.
use Rattle.std.proofs.Common.{◌≡◌, refl, [], ap}
use Rattle.std.specs.Prelude.{Bool, true, false, if◌then◌else◌, codes, not}
use Rattle.es_tree.specs.Words.{Text}
use Rattle.es_runs.specs.Machine.{Value, Result, M, ◌>>=◌, return, is_null, is_true, is_undefined}
use Rattle.es_runs.specs.Machine.Value.{undefined, boolean}
use Rattle.es_runs.specs.Machine.Values.{none, ◌and◌}
use Rattle.es_runs.specs.Machine.Question.{typeof_read, get, delete, operator}
use Rattle.es_runs.specs.Machine.Stop.{unknown}
use Rattle.es_runs.specs.Core.{World, Binding, Reference, Meaning, Form, value, put_value, gives_value, as_plain, nothing, literal, conditional, logical, goes_right, binary, compared, equality, asked_binary, is_equality, typeof_name, typeof_value, delete_value, void_form, UnaryClass, unary_by, unary_class, unary, update, update_at, AssignClass, assigned, assign_class, assignment, without_last}
use Rattle.es_runs.specs.Core.UnaryClass.{typeof_class, delete_class, void_class, not_class, asked_class}
use Rattle.es_runs.specs.Core.AssignClass.{plainly, logically, compound}
use Rattle.es_runs.specs.Core.Binding.{free, changeable, constant, silent}
use Rattle.es_runs.specs.Core.Form.{null_form, void_zero}
use Rattle.es_runs.specs.Alike.{Frame, Same, Alike, Equal, SameReference, SameTarget, SameWorld, Level, Need, Like, LikeAt, the_value, the_target, value_and_form, unary_need}
use Rattle.es_runs.specs.Alike.Level.{no_evaluation, value_alone, an_operand_of_typeof, whole_reference, a_callee, a_target}
use Rattle.es_runs.specs.Alike.LikeCallee.{by_reference}
use Rattle.es_runs.specs.Alike.SameTarget.{target_plain}
use Rattle.es_runs.specs.Alike.Same.{both_give, both_stop, outside, at_fault}
use Rattle.es_runs.specs.Alike.SameReference.{same_name, same_property, same_plain}
use Rattle.es_runs.proofs.Basic.{read_target, read_name_alike, bind_alike, then_alike, return_alike, stop_alike, ask_alike, get_alike, put_alike, value_alike}

module _ (F : Frame) (w v : World) (same : SameWorld F.hidden w v) where
  as_plain_alike : (u : Value) → Alike F (SameTarget F) (as_plain u) (as_plain u)
  as_plain_alike u s t g = both_give target_plain g

  weak_same : {r q : Result Reference} → Same F (SameTarget F) r q → Same F (SameReference F) r q
  weak_same (both_give h g) = both_give (read_target F w v same h) g
  weak_same (both_stop g) = both_stop g
  weak_same outside = outside
  weak_same (at_fault h0) = at_fault h0

  pub weak_alike : {m k : M Reference} → Alike F (SameTarget F) m k → Alike F (SameReference F) m k
  weak_alike h s t g = weak_same (h s t g)

  typeof_name_alike : (x : Text) → F.hidden x ≡ false → (b : Binding) → Alike F Equal (typeof_name x b) (typeof_name x b)
  typeof_name_alike x e free = ask_alike F (typeof_read x)
  typeof_name_alike x e changeable = then_alike F (read_name_alike F x e changeable) (λ u. ask_alike F (operator (codes "typeof") (u and none)))
  typeof_name_alike x e constant = then_alike F (read_name_alike F x e constant) (λ u. ask_alike F (operator (codes "typeof") (u and none)))
  typeof_name_alike x e (silent z) = then_alike F (read_name_alike F x e (silent z)) (λ u. ask_alike F (operator (codes "typeof") (u and none)))

  -- what `typeof` takes of its operand
  pub typeof_alike : (r q : Reference) → SameReference F r q → Alike F Equal (typeof_value w r) (typeof_value v q)
  typeof_alike _ _ (same_name {x = x} e) = rw (same.scope x e) (typeof_name_alike x e (w.scope x))
  typeof_alike _ _ (same_property {o = o} {k = k}) = then_alike F (ask_alike F (get o k)) (λ u. ask_alike F (operator (codes "typeof") (u and none)))
  typeof_alike _ _ (same_plain {v = u}) = then_alike F (return_alike F u) (λ u. ask_alike F (operator (codes "typeof") (u and none)))

  -- an evaluation to a reference, at whatever level the place takes it
  pub at_level : (level : Level) (a b : Meaning) → Alike F (SameTarget F) a.reference b.reference → LikeAt F w v level a b
  at_level no_evaluation a b h = tt
  at_level value_alone a b h = value_alike F w v same a b (weak_alike h)
  at_level an_operand_of_typeof a b h = bind_alike F (weak_alike h) typeof_alike
  at_level whole_reference a b h = weak_alike h
  at_level a_callee a b h = by_reference (weak_alike h)
  at_level a_target a b h = h

  pub like : (n : Need) (a b : Meaning) → Alike F (SameTarget F) a.reference b.reference → b.form ≡ a.form → Like F w v n a b
  like n a b h f = record { evaluation = at_level n.level a b h; form = λ _. f }

  plain_reference : {m k : M Value} → Alike F Equal m k → Alike F (SameTarget F) (m >>= as_plain) (k >>= as_plain)
  plain_reference h = then_alike F h as_plain_alike

  pub plain_like : (n : Need) (m k : M Value) → Alike F Equal m k → Like F w v n (gives_value m) (gives_value k)
  plain_like n m k h = like n (gives_value m) (gives_value k) (plain_reference h) refl

  pub nothing_like : (n : Need) → Like F w v n nothing nothing
  nothing_like n = like n nothing nothing (stop_alike F unknown) refl

  pub literal_like : (n : Need) (u : Value) (f : Form) → Like F w v n (literal u f) (literal u f)
  literal_like n u f = like n (literal u f) (literal u f) (as_plain_alike u) refl

  pub choice_alike : (b : Bool) {m1 m2 k1 k2 : M Value} → Alike F Equal m1 k1 → Alike F Equal m2 k2 → Alike F Equal (if b then m1 else m2) (if b then k1 else k2)
  choice_alike true h g = h
  choice_alike false h g = g

  pub conditional_like : (n : Need) (a a' b b' c c' : Meaning) → Like F w v the_value a a' → Like F w v the_value b b' → Like F w v the_value c c' → Like F w v n (conditional w a b c) (conditional v a' b' c')
  conditional_like n a a' b b' c c' h g f = plain_like n _ _ (then_alike F h.evaluation (λ u. choice_alike (is_true u) g.evaluation f.evaluation))

  pub logical_like : (n : Need) (op : Text) (a a' b b' : Meaning) → Like F w v the_value a a' → Like F w v the_value b b' → Like F w v n (logical w op a b) (logical v op a' b')
  logical_like n op a a' b b' h g = plain_like n _ _ (then_alike F h.evaluation (λ u. choice_alike (goes_right op u) g.evaluation (return_alike F u)))

  asked_binary_alike : (op : Text) (a a' b b' : Meaning) → Alike F Equal (value w a) (value v a') → Alike F Equal (value w b) (value v b') → Alike F Equal (asked_binary w op a b) (asked_binary v op a' b')
  asked_binary_alike op a a' b b' h g = then_alike F h (λ x. then_alike F g (λ y. ask_alike F (operator op (x and y and none))))

  silent_alike : (f : Value → Bool) {m k : M Value} → Alike F Equal m k → Alike F Equal (m >>= (λ u. return (boolean (f u)))) (k >>= (λ u. return (boolean (f u))))
  silent_alike f h = then_alike F h (λ u. return_alike F (boolean (f u)))

  equality_alike : (op : Text) (a a' b b' : Meaning) (f : Form) → Alike F Equal (value w a) (value v a') → Alike F Equal (value w b) (value v b') → Alike F Equal (equality w op a b f) (equality v op a' b' f)
  equality_alike op a a' b b' null_form h g = rw same.counts (silent_alike (compared w.counts_all op is_null) h)
  equality_alike op a a' b b' void_zero h g = rw same.counts (silent_alike (compared w.counts_all op is_undefined) h)
  equality_alike op a a' b b' _ h g = asked_binary_alike op a a' b b' h g

  binary_value : (b : Bool) (op : Text) (a a' c c' : Meaning) → Like F w v the_value a a' → Like F w v (value_and_form b) c c' → Alike F Equal (if b then equality w op a c c.form else asked_binary w op a c) (if b then equality v op a' c' c'.form else asked_binary v op a' c')
  binary_value true op a a' c c' h g = rw (g.form refl) (equality_alike op a a' c c' c.form h.evaluation g.evaluation)
  binary_value false op a a' c c' h g = asked_binary_alike op a a' c c' h.evaluation g.evaluation

  pub binary_like : (n : Need) (op : Text) (a a' b b' : Meaning) → Like F w v the_value a a' → Like F w v (value_and_form (is_equality op)) b b' → Like F w v n (binary w op a b) (binary v op a' b')
  binary_like n op a a' b b' h g = plain_like n _ _ (binary_value (is_equality op) op a a' b b' h g)

  not_alike : {m k : M Value} → Alike F Equal m k → Alike F Equal (m >>= (λ u. return (boolean (not (is_true u))))) (k >>= (λ u. return (boolean (not (is_true u)))))
  not_alike h = then_alike F h (λ u. return_alike F (boolean (not (is_true u))))

  pub delete_alike : (r q : Reference) → SameReference F r q → Alike F Equal (delete_value w r) (delete_value v q)
  delete_alike _ _ (same_name {x = x} e) = then_alike F (get_alike F w v same (same_name e)) (λ u. return_alike F (boolean true))
  delete_alike _ _ (same_property {o = o} {k = k}) = ask_alike F (delete o k)
  delete_alike _ _ (same_plain {v = u}) = then_alike F (return_alike F u) (λ u. return_alike F (boolean true))

  void_evaluation : (level : Level) (a b : Meaning) → Alike F Equal (value w a) (value v b) → LikeAt F w v level (unary_by w void_class [] a) (unary_by v void_class [] b)
  void_evaluation level a b h = at_level level (unary_by w void_class [] a) (unary_by v void_class [] b) (then_alike F h (λ u. as_plain_alike undefined))

  unary_by_like : (n : Need) (c : UnaryClass) (op : Text) (a b : Meaning) → Like F w v (unary_need n.form c) a b → Like F w v n (unary_by w c op a) (unary_by v c op b)
  unary_by_like n typeof_class op a b h = plain_like n _ _ h.evaluation
  unary_by_like n delete_class op a b h = plain_like n _ _ (bind_alike F h.evaluation delete_alike)
  unary_by_like n void_class op a b h = record { evaluation = void_evaluation n.level a b h.evaluation; form = λ e. ap void_form (h.form e) }
  unary_by_like n not_class op a b h = plain_like n _ _ (not_alike h.evaluation)
  unary_by_like n asked_class op a b h = plain_like n _ _ (then_alike F h.evaluation (λ u. ask_alike F (operator op (u and none))))

  pub unary_like : (n : Need) (op : Text) (a b : Meaning) → Like F w v (unary_need n.form (unary_class op)) a b → Like F w v n (unary w op a) (unary v op b)
  unary_like n op a b h = unary_by_like n (unary_class op) op a b h

  -- targets

  update_alike : (op : Text) (prefix : Bool) (r q : Reference) → SameTarget F r q → Alike F Equal (update_at w op prefix r) (update_at v op prefix q)
  update_alike op prefix r q e =
      then_alike F (get_alike F w v same (read_target F w v same e)) (λ x.
      then_alike F (ask_alike F (operator (codes "numeric") (x and none))) (λ old.
      then_alike F (ask_alike F (operator op (old and none))) (λ new.
      then_alike F (put_alike F w v same new e) (λ z. return_alike F (if prefix then new else old)))))

  pub update_like : (n : Need) (op : Text) (prefix : Bool) (a b : Meaning) → Like F w v the_target a b → Like F w v n (update w op prefix a) (update v op prefix b)
  update_like n op prefix a b h = plain_like n _ _ (bind_alike F h.evaluation (update_alike op prefix))

  right_then_put : (a b : Meaning) → Alike F Equal (value w a) (value v b) → (r q : Reference) → SameTarget F r q → Alike F Equal (value w a >>= put_value w r) (value v b >>= put_value v q)
  right_then_put a b h r q e = then_alike F h (λ u. put_alike F w v same u e)

  assigned_alike : (c : AssignClass) (op : Text) (a b : Meaning) → Alike F Equal (value w a) (value v b) → (r q : Reference) → SameTarget F r q → Alike F Equal (assigned w c op a r) (assigned v c op b q)
  assigned_alike plainly op a b h r q e = right_then_put a b h r q e
  assigned_alike logically op a b h r q e = then_alike F (get_alike F w v same (read_target F w v same e)) (λ x. choice_alike (goes_right (without_last op) x) (right_then_put a b h r q e) (return_alike F x))
  assigned_alike compound op a b h r q e = then_alike F (get_alike F w v same (read_target F w v same e)) (λ x. then_alike F h (λ y. then_alike F (ask_alike F (operator (without_last op) (x and y and none))) (λ z. put_alike F w v same z e)))

  pub assignment_like : (n : Need) (op : Text) (a a' b b' : Meaning) → Like F w v the_target a a' → Like F w v the_value b b' → Like F w v n (assignment w op a b) (assignment v op a' b')
  assignment_like n op a a' b b' h g = plain_like n _ _ (bind_alike F h.evaluation (assigned_alike (assign_class op) op b b' g.evaluation))
