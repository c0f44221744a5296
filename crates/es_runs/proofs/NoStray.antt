-- Where no optional mark strays, no evaluation is cut short.
use Rattle.std.proofs.Common.{Option, ◌≡◌, List, [], ◌∷◌}
use Rattle.std.specs.Prelude.{Bool, true, false, bytes_eq, codes, if◌then◌else◌, ◌&&◌, not}
use Rattle.es_tree.specs.Words.{Text}
use Rattle.es_tree.specs.declared.ast_type.AstType.{AstType}
use Rattle.es_tree.specs.Tree.{Tree, Fields, Field, Trees}
use Rattle.es_tree.specs.declared.ast_type.AstType.TheVariants.{Program, ExpressionStatement, VariableDeclaration, VariableDeclarator, Identifier, ThisExpression, NullLiteral, BooleanLiteral, NumericLiteral, BigIntLiteral, StringLiteral, UnaryExpression, UpdateExpression, BinaryExpression, LogicalExpression, ConditionalExpression, AssignmentExpression, SequenceExpression, MemberExpression, CallExpression, NewExpression, ChainExpression, ParenthesizedExpression}
use Rattle.es_tree.specs.Tree.{node}
use Rattle.es_tree.specs.Tree.{done, ◌then◌}
use Rattle.es_tree.specs.Tree.{missing, one, many, statements}
use Rattle.es_tree.specs.Tree.{empty, ◌before◌}
use Rattle.es_runs.specs.Machine.{Value, Values, M, ◌>>=◌, onward, return, stop, State, Stop, Result, Cell, Question, ask, cell_of, set_cell, is_callable, is_true, do_call, joined}
use Rattle.es_runs.specs.Machine.Value.{undefined, null, boolean, number, bigint, text, host, bound, unset_error, constant_error, own}
use Rattle.es_runs.specs.Machine.Values.{none, ◌and◌}
use Rattle.es_runs.specs.Machine.Question.{typeof_read, write, delete, put, call, construct, operator}
use Rattle.es_runs.specs.Machine.State.{state}
use Rattle.es_runs.specs.Machine.Stop.{cut, uncallable, throws, waits, unknown, breaks, continues, out_of_turns, faults}
use Rattle.es_runs.specs.Machine.Cell.{unset, holds}
use Rattle.es_runs.specs.Machine.Result.{gives, stops}
use Rattle.es_tree.specs.Names.{first_text as first}
use Rattle.es_runs.specs.Core.{World, Binding, Reference, Meaning, Form, value, values, get_value, put_value, read_cell, write_name, change_cell, keep_cell, gives_value, nothing, key, member, receiver, run_call, plain_call, apply_call, apply_bind, method_call, unmarked_call, call_value, call_of, closed_result, chain, typeof_name, typeof_value, delete_value, UnaryClass, unary_by, unary_class, is_equality, asked_binary, equality, goes_right, logical, conditional, last_value, AssignClass, assigned, assign_class, without_last, update_at, in_order, initialise, settle, declared, Part, of_one, of_two, of_three, of_many, of_one_many, of_declarator, of_program, begins_with_spread, has_spread, first_formed, form_beside, own_parts, is_other, meaning_of, meaning, parts, part, meanings, second, flag, flag_after}
use Rattle.es_runs.specs.Core.UnaryClass.{typeof_class, delete_class, void_class, not_class, asked_class}
use Rattle.es_runs.specs.Core.AssignClass.{plainly, logically, compound}
use Rattle.es_runs.specs.Core.Binding.{free, changeable, constant, silent}
use Rattle.es_runs.specs.Core.Reference.{named, property, plain}
use Rattle.es_runs.specs.Core.Form.{null_form, void_zero, math_pow, member_call, member_bind}
use Rattle.es_runs.specs.Core.Part.{absent, single, several}
use Rattle.es_runs.specs.Rules.{is_marked, on_spine, strays, strays_fields, strays_field, strays_nodes}
use Rattle.es_runs.proofs.Fresh.{or_left, or_right}
use Rattle.es_runs.proofs.Uncut.{Goes, NeverCut, ask_uncut, get_uncut}

abbrev NotCut : Stop → Type 0
NotCut cut = ⊥
NotCut _ = Unit {0}

data Whole {A : Type 0} : Result A → Type 0 where
  value_whole : {a : A} {s : State} → Whole (gives a s)
  stop_whole : {m : Stop} {s : State} → NotCut m → Whole (stops m s)

abbrev Steady : {A : Type 0} → M A → Type 0
Steady m = (s : State) → Whole (m s)

onward_whole : {A B : Type 0} {r : Result A} {k : A → M B} → Whole r → ((a : A) → Steady (k a)) → Whole (onward r k)
onward_whole value_whole k = k _ _
onward_whole (stop_whole h) k = stop_whole h

bind : {A B : Type 0} {m : M A} {k : A → M B} → Steady m → ((a : A) → Steady (k a)) → Steady (m >>= k)
bind h k s = onward_whole (h s) k

back : {A : Type 0} (r : Result A) → Whole r → Goes r
back _ value_whole = tt
back _ (stop_whole {m = throws u} h) = tt
back _ (stop_whole {m = waits} h) = tt
back _ (stop_whole {m = uncallable} h) = tt
back _ (stop_whole {m = unknown} h) = tt
back _ (stop_whole {m = breaks l} h) = tt
back _ (stop_whole {m = continues l} h) = tt
back _ (stop_whole {m = out_of_turns} h) = tt
back _ (stop_whole {m = faults z} h) = tt
back _ (stop_whole {m = cut} h) = h

whole : {A : Type 0} (r : Result A) → Goes r → Whole r
whole (gives a s) h = value_whole
whole (stops (throws u) s) h = stop_whole tt
whole (stops waits s) h = stop_whole tt
whole (stops uncallable s) h = stop_whole tt
whole (stops unknown s) h = stop_whole tt
whole (stops (breaks l) s) h = stop_whole tt
whole (stops (continues l) s) h = stop_whole tt
whole (stops out_of_turns s) h = stop_whole tt
whole (stops (faults z) s) h = stop_whole tt
whole (stops cut s) h = absurd h

returns : {A : Type 0} (a : A) → Steady (return a)
returns a s = value_whole

stopped : {A : Type 0} (m : Stop) → NotCut m → Steady (stop {A = A} m)
stopped m h s = stop_whole h

asks : (q : Question) → Steady (ask q)
asks q s = whole (ask q s) (ask_uncut q s)

cell_steady : (x : Text) → Steady (cell_of x)
cell_steady x (state c ms qs) = value_whole

set_steady : (x : Text) (u : Value) → Steady (set_cell x u)
set_steady x u (state c ms qs) = value_whole

choice : (b : Bool) {A : Type 0} {m k : M A} → Steady m → Steady k → Steady (if b then m else k)
choice true h g = h
choice false h g = g

module _ (w : World) where
  gets : (r : Reference) → Steady (get_value w r)
  gets r s = whole (get_value w r s) (get_uncut w r s)

  changes : (x : Text) (u : Value) (c : Cell) → Steady (change_cell x u c)
  changes x u unset = stopped (faults (unset_error x)) tt
  changes x u (holds o) = set_steady x u

  keeps : (x : Text) (c : Cell) → Steady (keep_cell x c)
  keeps x unset = stopped (faults (unset_error x)) tt
  keeps x (holds o) = stopped (faults (constant_error x)) tt

  writes : (x : Text) (u : Value) (b : Binding) → Steady (write_name x u b)
  writes x u free = bind (asks (write x u)) (λ _. returns u)
  writes x u changeable = bind (cell_steady x) (changes x u)
  writes x u constant = bind (cell_steady x) (keeps x)
  writes x u (silent z) = bind (cell_steady x) (keeps x)

  puts : (r : Reference) (u : Value) → Steady (put_value w r u)
  puts (named x) u = writes x u (w.scope x)
  puts (property o k) u = bind (asks (put o k u)) (λ _. returns u)
  puts (plain p) u = stopped unknown tt

  calls : (f r : Value) (us : Values) → Steady (do_call f r us)
  calls undefined r us = asks (call undefined r us)
  calls null r us = asks (call null r us)
  calls (boolean b) r us = asks (call (boolean b) r us)
  calls (number b) r us = asks (call (number b) r us)
  calls (bigint b) r us = asks (call (bigint b) r us)
  calls (text b) r us = asks (call (text b) r us)
  calls (host n a b c) r us = asks (call (host n a b c) r us)
  calls (bound f q vs) r us = calls f q (joined vs us)
  calls (unset_error b) r us = asks (call (unset_error b) r us)
  calls (constant_error b) r us = asks (call (constant_error b) r us)
  calls (own b) r us = asks (call (own b) r us)

  abbrev Sound : Meaning → Type 0
  Sound e = Steady e.reference

  has_value : (e : Meaning) → Sound e → Steady (value w e)
  has_value e h = bind h gets

  abbrev AllSound : List Meaning → Type 0
  AllSound [] = Unit {0}
  AllSound (e ∷ es) = Sound e × AllSound es

  plainly_sound : (m : M Value) → Steady m → Sound (gives_value m)
  plainly_sound m h = bind h (λ u. returns (plain u))

  values_steady : (es : List Meaning) → AllSound es → Steady (values w es)
  values_steady [] h = returns none
  values_steady (e ∷ es) h = bind (has_value e h.0) (λ u. bind (values_steady es h.1) (λ us. returns (u and us)))

  last_steady : (u : Value) (es : List Meaning) → AllSound es → Steady (last_value w u es)
  last_steady u [] h = returns u
  last_steady u (e ∷ es) h = bind (has_value e h.0) (λ x. last_steady x es h.1)

  order_steady : (es : List Meaning) → AllSound es → Steady (in_order w es)
  order_steady [] h = returns undefined
  order_steady (e ∷ es) h = bind (has_value e h.0) (λ x. order_steady es h.1)

  key_steady : (computed : Bool) (e : Meaning) → Sound e → Steady (key w computed e)
  key_steady true e h = has_value e h
  key_steady false e h = returns _

  member_sound : (computed : Bool) (a b : Meaning) → Sound a → Sound b → Sound (member w computed false a b)
  member_sound computed a b h g = bind (has_value a h) (λ o. bind (key_steady computed b g) (λ k. returns (property o k)))

  run_steady : (b : Bool) (es : List Meaning) → AllSound es → (f r : Value) → Steady (run_call w b es f r)
  run_steady true es h f r = bind (values_steady es h) (calls f r)
  run_steady false es h f r = stopped uncallable tt

  plain_call_steady : (es : List Meaning) → AllSound es → (r : Reference) → Steady (plain_call w false es r)
  plain_call_steady es h r = bind (gets r) (λ f. run_steady (is_callable f) es h f (receiver r))

  apply_steady : (f : Value) (us : Values) → Steady (apply_call f us)
  apply_steady f none = calls f undefined none
  apply_steady f (r and us) = calls f r us

  binds_steady : (f : Value) (us : Values) → Steady (apply_bind f us)
  binds_steady f none = returns (bound f undefined none)
  binds_steady f (r and us) = returns (bound f r us)

  method_steady : (apply : Value → Values → M Value) → ((f : Value) (us : Values) → Steady (apply f us)) → (es : List Meaning) → AllSound es → (r : Reference) → Steady (method_call w apply es r)
  method_steady apply ok es h (named x) = plain_call_steady es h (named x)
  method_steady apply ok es h (property o k) = choice (is_callable o) (bind (values_steady es h) (ok o)) (plain_call_steady es h (property o k))
  method_steady apply ok es h (plain u) = plain_call_steady es h (plain u)

  unmarked_steady : (f : Form) (m : M Reference) → Steady m → (es : List Meaning) → AllSound es → Steady (unmarked_call w f m es)
  unmarked_steady math_pow m h (a ∷ b ∷ []) g = bind (has_value a g.0) (λ x. bind (has_value b g.1.0) (λ y. asks (operator (codes "**") (x and y and none))))
  unmarked_steady math_pow m h es g = bind h (plain_call_steady es g)
  unmarked_steady member_call m h es g = bind h (method_steady apply_call apply_steady es g)
  unmarked_steady member_bind m h es g = bind h (method_steady apply_bind binds_steady es g)
  unmarked_steady _ m h es g = bind h (plain_call_steady es g)

  call_steady : (a : Meaning) (es : List Meaning) → Sound a → AllSound es → Steady (call_value w false a es)
  call_steady a es h g = unmarked_steady a.form a.reference h es g

  closed_steady : (r : Result Reference) → Whole (closed_result r)
  closed_steady (gives r s) = value_whole
  closed_steady (stops (throws u) s) = stop_whole tt
  closed_steady (stops waits s) = stop_whole tt
  closed_steady (stops uncallable s) = stop_whole tt
  closed_steady (stops cut s) = value_whole
  closed_steady (stops unknown s) = stop_whole tt
  closed_steady (stops (breaks l) s) = stop_whole tt
  closed_steady (stops (continues l) s) = stop_whole tt
  closed_steady (stops out_of_turns s) = stop_whole tt
  closed_steady (stops (faults z) s) = stop_whole tt

  chain_sound : (e : Meaning) → Sound (chain e)
  chain_sound e s = closed_steady (e.reference s)

  reads : (x : Text) (c : Cell) → Steady (read_cell x c)
  reads x unset = stopped (faults (unset_error x)) tt
  reads x (holds u) = returns u

  typeof_name_steady : (x : Text) (b : Binding) → Steady (typeof_name x b)
  typeof_name_steady x free = asks (typeof_read x)
  typeof_name_steady x changeable = bind (bind (cell_steady x) (reads x)) (λ u. asks (operator (codes "typeof") (u and none)))
  typeof_name_steady x constant = bind (bind (cell_steady x) (reads x)) (λ u. asks (operator (codes "typeof") (u and none)))
  typeof_name_steady x (silent z) = bind (bind (cell_steady x) (reads x)) (λ u. asks (operator (codes "typeof") (u and none)))

  typeof_steady : (r : Reference) → Steady (typeof_value w r)
  typeof_steady (named x) = typeof_name_steady x (w.scope x)
  typeof_steady (property o k) = bind (gets (property o k)) (λ u. asks (operator (codes "typeof") (u and none)))
  typeof_steady (plain p) = bind (gets (plain p)) (λ u. asks (operator (codes "typeof") (u and none)))

  delete_steady : (r : Reference) → Steady (delete_value w r)
  delete_steady (named x) = bind (gets (named x)) (λ u. returns (boolean true))
  delete_steady (property o k) = asks (delete o k)
  delete_steady (plain p) = bind (gets (plain p)) (λ u. returns (boolean true))

  unary_sound : (c : UnaryClass) (op : Text) (e : Meaning) → Sound e → Sound (unary_by w c op e)
  unary_sound typeof_class op e h = plainly_sound _ (bind h typeof_steady)
  unary_sound delete_class op e h = plainly_sound _ (bind h delete_steady)
  unary_sound void_class op e h = bind (has_value e h) (λ u. returns (plain undefined))
  unary_sound not_class op e h = plainly_sound _ (bind (has_value e h) (λ u. returns (boolean (not (is_true u)))))
  unary_sound asked_class op e h = plainly_sound _ (bind (has_value e h) (λ u. asks (operator op (u and none))))

  asked_steady : (op : Text) (a b : Meaning) → Sound a → Sound b → Steady (asked_binary w op a b)
  asked_steady op a b h g = bind (has_value a h) (λ x. bind (has_value b g) (λ y. asks (operator op (x and y and none))))

  equality_steady : (op : Text) (a b : Meaning) (f : Form) → Sound a → Sound b → Steady (equality w op a b f)
  equality_steady op a b null_form h g = bind (has_value a h) (λ u. returns _)
  equality_steady op a b void_zero h g = bind (has_value a h) (λ u. returns _)
  equality_steady op a b _ h g = asked_steady op a b h g

  logical_sound : (op : Text) (a b : Meaning) → Sound a → Sound b → Sound (logical w op a b)
  logical_sound op a b h g = plainly_sound _ (bind (has_value a h) (λ u. choice (goes_right op u) (has_value b g) (returns u)))

  conditional_sound : (a b c : Meaning) → Sound a → Sound b → Sound c → Sound (conditional w a b c)
  conditional_sound a b c h g f = plainly_sound _ (bind (has_value a h) (λ u. choice (is_true u) (has_value b g) (has_value c f)))

  assigned_steady : (c : AssignClass) (op : Text) (e : Meaning) → Sound e → (r : Reference) → Steady (assigned w c op e r)
  assigned_steady plainly op e h r = bind (has_value e h) (puts r)
  assigned_steady logically op e h r = bind (gets r) (λ x. choice (goes_right (without_last op) x) (bind (has_value e h) (puts r)) (returns x))
  assigned_steady compound op e h r = bind (gets r) (λ x. bind (has_value e h) (λ y. bind (asks (operator (without_last op) (x and y and none))) (puts r)))

  update_steady : (op : Text) (prefix : Bool) (r : Reference) → Steady (update_at w op prefix r)
  update_steady op prefix r = bind (gets r) (λ x. bind (asks (operator (codes "numeric") (x and none))) (λ old. bind (asks (operator op (old and none))) (λ new. bind (puts r new) (λ z. returns (if prefix then new else old)))))

  initialise_steady : (u : Value) (r : Reference) → Steady (initialise u r)
  initialise_steady u (named x) = set_steady x u
  initialise_steady u (property o k) = stopped unknown tt
  initialise_steady u (plain p) = stopped unknown tt

  settle_steady : (lets : Bool) (r : Reference) → Steady (settle lets r)
  settle_steady true (named x) = set_steady x undefined
  settle_steady true (property o k) = returns undefined
  settle_steady true (plain p) = returns undefined
  settle_steady false r = returns undefined

  declared_steady : (lets : Bool) (es : List Meaning) → AllSound es → Steady (declared lets es)
  declared_steady lets [] h = returns undefined
  declared_steady lets (e ∷ es) h = bind h.0 (λ r. bind (settle_steady lets r) (λ x. declared_steady lets es h.1))

  -- the parts of a node: the first stands on a spine or not, the others never
  abbrev SoundPart : Bool → Part → Type 0
  SoundPart true p = Unit {0}
  SoundPart false absent = Unit {0}
  SoundPart false (single e) = Sound e
  SoundPart false (several es) = AllSound es

  abbrev SoundParts : Bool → List Part → Type 0
  SoundParts on [] = Unit {0}
  SoundParts on (p ∷ ps) = SoundPart on p × SoundParts false ps

  nothing_sound : Sound nothing
  nothing_sound = stopped unknown tt

  one_sound : (f : Meaning → Meaning) → ((a : Meaning) → Sound a → Sound (f a)) → (ps : List Part) → SoundParts false ps → Sound (of_one f ps)
  one_sound f k (single a ∷ []) h = k a h.0
  one_sound f k _ h = nothing_sound

  two_sound : (f : Meaning → Meaning → Meaning) → ((a b : Meaning) → Sound a → Sound b → Sound (f a b)) → (ps : List Part) → SoundParts false ps → Sound (of_two f ps)
  two_sound f k (single a ∷ single b ∷ []) h = k a b h.0 h.1.0
  two_sound f k _ h = nothing_sound

  three_sound : (f : Meaning → Meaning → Meaning → Meaning) → ((a b c : Meaning) → Sound a → Sound b → Sound c → Sound (f a b c)) → (ps : List Part) → SoundParts false ps → Sound (of_three f ps)
  three_sound f k (single a ∷ single b ∷ single c ∷ []) h = k a b c h.0 h.1.0 h.1.1.0
  three_sound f k _ h = nothing_sound

  many_sound : (f : List Meaning → Meaning) → ((es : List Meaning) → AllSound es → Sound (f es)) → (ps : List Part) → SoundParts false ps → Sound (of_many f ps)
  many_sound f k (several es ∷ []) h = k es h.0
  many_sound f k _ h = nothing_sound

  one_many_sound : (f : Meaning → List Meaning → Meaning) → ((a : Meaning) (es : List Meaning) → Sound a → AllSound es → Sound (f a es)) → (ps : List Part) → SoundParts false ps → Sound (of_one_many f ps)
  one_many_sound f k (single a ∷ several es ∷ []) h = k a es h.0 h.1.0
  one_many_sound f k _ h = nothing_sound

  chain_parts : (ps : List Part) → Sound (of_one chain ps)
  chain_parts (single a ∷ []) = chain_sound a
  chain_parts _ = nothing_sound

  declarator_parts : (ps : List Part) → SoundParts false ps → Sound (of_declarator w ps)
  declarator_parts (single a ∷ absent ∷ []) h = h.0
  declarator_parts (single a ∷ single b ∷ []) h = plainly_sound _ (bind h.0 (λ r. bind (has_value b h.1.0) (λ u. initialise_steady u r)))
  declarator_parts _ h = nothing_sound

  program_parts : (ps : List Part) → SoundParts false ps → Sound (of_program w ps)
  program_parts (several ds ∷ several es ∷ []) h = plainly_sound _ (order_steady es h.1.0)
  program_parts _ h = nothing_sound

  member_parts : (computed optional : Bool) → optional && true ≡ false → (ps : List Part) → SoundParts false ps → Sound (of_two (member w computed optional) ps)
  member_parts computed true e ps h = cc
  member_parts computed false e ps h = two_sound _ (member_sound computed) ps h

  call_parts : (optional : Bool) → optional && true ≡ false → (ps : List Part) → SoundParts false ps → Sound (of_one_many (call_of w optional) ps)
  call_parts true e ps h = cc
  call_parts false e ps h = one_many_sound _ (λ a es i j. plainly_sound _ (call_steady a es i j)) ps h

  kind_sound : (k : AstType) (ts : List (Option Text)) (fs : List Bool) (ps : List Part) → is_marked k fs && true ≡ false → SoundParts (on_spine k false) ps → Sound (meaning_of w k ts fs ps)
  kind_sound Identifier ts fs ps m h = returns (named (first ts))
  kind_sound ThisExpression ts fs ps m h = returns (plain w.this)
  kind_sound NullLiteral ts fs ps m h = returns (plain null)
  kind_sound BooleanLiteral ts fs ps m h = returns (plain (boolean (flag fs)))
  kind_sound NumericLiteral ts fs ps m h = returns (plain (number (second ts)))
  kind_sound BigIntLiteral ts fs ps m h = returns (plain (bigint (second ts)))
  kind_sound StringLiteral ts fs ps m h = returns (plain (text (first ts)))
  kind_sound UnaryExpression ts fs ps m h = one_sound _ (unary_sound (unary_class (first ts)) (first ts)) ps h
  kind_sound UpdateExpression ts fs ps m h = one_sound _ (λ a i. plainly_sound _ (bind i (update_steady (first ts) (flag fs)))) ps h
  kind_sound BinaryExpression ts fs ps m h = two_sound _ (λ a b i j. plainly_sound _ (choice (is_equality (first ts)) (equality_steady (first ts) a b b.form i j) (asked_steady (first ts) a b i j))) ps h
  kind_sound LogicalExpression ts fs ps m h = two_sound _ (logical_sound (first ts)) ps h
  kind_sound ConditionalExpression ts fs ps m h = three_sound _ conditional_sound ps h
  kind_sound AssignmentExpression ts fs ps m h = two_sound _ (λ a b i j. plainly_sound _ (bind i (assigned_steady (assign_class (first ts)) (first ts) b j))) ps h
  kind_sound SequenceExpression ts fs ps m h = many_sound _ (λ es i. plainly_sound _ (last_steady undefined es i)) ps h
  kind_sound MemberExpression ts fs ps m h = member_parts (flag fs) (flag_after fs) m ps h
  kind_sound CallExpression ts fs ps m h = call_parts (flag fs) m ps h
  kind_sound NewExpression ts fs ps m h = one_many_sound _ (λ a es i j. plainly_sound _ (bind (has_value a i) (λ f. bind (values_steady es j) (λ us. asks (construct f us))))) ps h
  kind_sound ChainExpression ts fs ps m h = chain_parts ps
  kind_sound ParenthesizedExpression ts fs ps m h = one_sound _ (λ a i. i) ps h
  kind_sound ExpressionStatement ts fs ps m h = one_sound _ (λ a i. plainly_sound _ (has_value a i)) ps h
  kind_sound VariableDeclarator ts fs ps m h = declarator_parts ps h
  kind_sound VariableDeclaration ts fs ps m h = many_sound _ (λ es i. plainly_sound _ (declared_steady (bytes_eq (first ts) (codes "let")) es i)) ps h
  kind_sound Program ts fs ps m h = program_parts ps h
  kind_sound _ ts fs ps m h = nothing_sound

  formed_sound : (f : Form → Form) (on : Bool) (ps : List Part) → SoundParts on ps → SoundParts on (first_formed f ps)
  formed_sound f on [] h = h
  formed_sound f true (single e ∷ ps) h = h
  formed_sound f false (single e ∷ ps) h = h
  formed_sound f on (absent ∷ ps) h = h
  formed_sound f on (several es ∷ ps) h = h

  called_sound : (on : Bool) (fs : Fields) (ps : List Part) → SoundParts on ps → SoundParts on (own_parts w CallExpression fs ps)
  called_sound on (f then (many ts then fs)) ps h = formed_sound (form_beside (w.spreads && begins_with_spread ts) (w.spreads && has_spread ts)) on ps h
  called_sound on done ps h = h
  called_sound on (f then done) ps h = h
  called_sound on (f then (missing then fs)) ps h = h
  called_sound on (f then (one t then fs)) ps h = h
  called_sound on (f then (statements ts then fs)) ps h = h

  own_sound : (on : Bool) (k : AstType) (fs : Fields) (ps : List Part) → SoundParts on ps → SoundParts on (own_parts w k fs ps)
  own_sound on CallExpression fs ps h = called_sound on fs ps h
  own_sound on _ fs ps h = h

  abbrev SoundAt : Bool → Meaning → Type 0
  SoundAt true e = Unit {0}
  SoundAt false e = Sound e

  -- where what isn't core is never cut short
  module _ (others : (t : Tree) → strays false t ≡ false → NeverCut (w.other t)) where
    mutual
      node_sound : (a : Tree) (on : Bool) → strays on a ≡ false → SoundAt on (meaning w a)
      node_sound (node k l fs) true h = tt
      node_sound (node k l fs) false h = at (is_other k fs) (fields_sound fs (on_spine k false) (or_right (is_marked k l.flags && true) (strays_fields (on_spine k false) fs) h))
        where
          at : (b : Bool) → SoundParts (on_spine k false) (parts w fs) → Sound (if b then gives_value (w.other (node k l fs)) else meaning_of w k l.texts l.flags (own_parts w k fs (parts w fs)))
          at true g = plainly_sound _ (λ s. whole (w.other (node k l fs) s) (others (node k l fs) h s))
          at false g = kind_sound k l.texts l.flags (own_parts w k fs (parts w fs)) (or_left (is_marked k l.flags && true) (strays_fields (on_spine k false) fs) h) (own_sound (on_spine k false) k fs (parts w fs) g)

      fields_sound : (fs : Fields) (on : Bool) → strays_fields on fs ≡ false → SoundParts on (parts w fs)
      fields_sound done on h = tt
      fields_sound (f then fs) on h = (field_sound f on (or_left (strays_field on f) (strays_fields false fs) h), fields_sound fs false (or_right (strays_field on f) (strays_fields false fs) h))

      field_sound : (f : Field) (on : Bool) → strays_field on f ≡ false → SoundPart on (part w f)
      field_sound f true h = tt
      field_sound missing false h = tt
      field_sound (one n) false h = node_sound n false h
      field_sound (many ns) false h = nodes_sound ns h
      field_sound (statements ns) false h = nodes_sound ns h

      nodes_sound : (ns : Trees) → strays_nodes false ns ≡ false → AllSound (meanings w ns)
      nodes_sound empty h = tt
      nodes_sound (n before ns) h = (node_sound n false (or_left (strays false n) (strays_nodes false ns) h), nodes_sound ns (or_right (strays false n) (strays_nodes false ns) h))

    -- the value of a node without stray marks is never cut short
    pub value_uncut : (a : Tree) → strays false a ≡ false → NeverCut (value w (meaning w a))
    value_uncut a h s = back (value w (meaning w a) s) (has_value (meaning w a) (node_sound a false h) s)

  -- nor is what is done with a reference
  pub typeof_uncut : (r : Reference) → NeverCut (typeof_value w r)
  typeof_uncut r s = back (typeof_value w r s) (typeof_steady r s)

  pub delete_uncut : (r : Reference) → NeverCut (delete_value w r)
  delete_uncut r s = back (delete_value w r s) (delete_steady r s)
