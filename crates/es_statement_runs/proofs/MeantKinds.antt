-- What each kind means stops only as is allowed, where its fields do.
use Rattle.std.proofs.Common.{◌≡◌, refl, sym, subst, List, [], ◌∷◌}
use Rattle.std.specs.Prelude.{ℕ, Bool, true, false, not, ◌&&◌, ◌||◌, codes, if◌then◌else◌}
use Rattle.es_tree.specs.Words.{Text}
use Rattle.es_runs.specs.Machine.{Value, Values, M, ◌>>=◌, return, stop, ask, set_cell, State, Stop, is_nullish, is_callable, is_true, do_call}
use Rattle.es_runs.specs.Machine.Stop.{throws, cut, uncallable, breaks, continues}
use Rattle.es_runs.specs.Machine.Value.{undefined, own, bound}
use Rattle.es_runs.specs.Machine.OwnValue.{stack, pattern_error}
use Rattle.es_runs.specs.Machine.Values.{none, ◌and◌}
use Rattle.es_runs.specs.Core.{World, Binding, Reference, Meaning, Form, value, cut_where, key, member, receiver, run_call, plain_call, apply_call, apply_bind, method_call, unmarked_call, call_value, new_of, chain, closed_result, typeof_name, typeof_value, delete_value, UnaryClass, unary_by, unary_class, is_equality, equality, binary, goes_right, logical, conditional, last_value, sequence, AssignClass, assign_class, without_last, assigned, assignment, update, declarator, settle, declared}
use Rattle.es_runs.specs.Core.Binding.{free, changeable, constant, silent}
use Rattle.es_runs.specs.Core.Reference.{named, property, plain}
use Rattle.es_runs.specs.Core.Form.{word, null_form, zero_form, void_zero, math_pow, member_call, member_bind, other}
use Rattle.es_runs.specs.Core.UnaryClass.{typeof_class, delete_class, void_class, not_class, asked_class}
use Rattle.es_runs.specs.Core.AssignClass.{plainly, logically, compound}
use Rattle.es_statement_runs.specs.Scopes.{is_own_cell}
use Rattle.es_statement_runs.specs.Stacks.{used}
use Rattle.es_statement_runs.specs.Names.{is_word}
use Rattle.es_statement_runs.specs.Patterns.{Putter, tagged}
use Rattle.es_statement_runs.specs.Helpers.{Supply}
use Rattle.es_statement_runs.specs.Senses.{More, Sense, cores, ends, plain_sense, putter, putter_by, reference_putter, tagged_template}
use Rattle.es_statement_runs.specs.Senses.More.{nothing_more, aims, heads, member_aims, rest_aims, defines, spreads, keys_of, maps, template_of, clause_of, handles, imports, begins, helper_call, stack_member}
use Rattle.es_statement_runs.specs.Calls.{on_stack, stack_method, stack_call, stack_failure, is_spread, assignment_by}
use Rattle.es_statement_runs.specs.StatementParts.{used_where, head_by, head_putter}
use Rattle.es_statement_runs.specs.Meant.{Exits, no_exits, Role, is_supply_word, assigned_role}
use Rattle.es_statement_runs.specs.Meant.Role.{a_value, a_place, a_target, an_element, a_member, a_definition, a_head, a_declarator, a_head_declarator, a_handler, a_template, an_import, a_clause, a_part}
use Rattle.es_statement_runs.proofs.Fine.{Fine, Means, Any, IsSeen, IsPlace, IsNamed, weaker, from_none, return_fine, stop_fine, then_fine, choice_fine, ask_fine, set_fine, read_fine, get_fine, put_fine, initialise_fine, value_fine, plain_fine, call_fine, AllFine, values_fine}
use Rattle.es_statement_runs.proofs.Fine.AllFine.{none_fine, one_fine}
use Rattle.es_statement_runs.proofs.Fine.Fine.{fine_gives, fine_stops}
use Rattle.es_statement_runs.proofs.FineStatements.{taken_use_fine, failed_fine, all_disposed_fine, used_fine, PutterFine, ClauseFine}

-- WHAT IS KNOWN OF A NODE, by what is taken of it

abbrev pub FormFine : Supply → Form → Type 0
FormFine S (word x) = is_supply_word S x ≡ false
FormFine S _ = Unit {0}

abbrev pub ValueMore : Bool → Exits → More → Type 0
ValueMore u E (helper_call h) = ⊥
ValueMore u E (stack_member x m) = Means u E IsPlace m
ValueMore u E (begins m) = (v : Bool) → Means v E Any m
ValueMore u E _ = Unit {0}

abbrev pub PlaceMore : Bool → Exits → More → Type 0
PlaceMore u E nothing_more = Unit {0}
PlaceMore u E (keys_of ks) = Unit {0}
PlaceMore u E (maps ks) = Unit {0}
PlaceMore u E (stack_member x m) = Means u E IsPlace m
PlaceMore u E _ = ⊥

pub record Valued (S : Supply) (u : Bool) (E : Exits) (e : Sense) : Type 0 where
  pub form : FormFine S e.core.form
  pub more : ValueMore u E e.more
  pub reference : Means u E IsSeen e.core.reference

pub record Placed (S : Supply) (u : Bool) (E : Exits) (e : Sense) : Type 0 where
  pub form : FormFine S e.core.form
  pub more : PlaceMore u E e.more
  pub reference : Means u E IsPlace e.core.reference

pub record Named (S : Supply) (u : Bool) (E : Exits) (e : Sense) : Type 0 where
  pub form : FormFine S e.core.form
  pub more : PlaceMore u E e.more
  pub reference : Means u E IsNamed e.core.reference

abbrev pub IsPut : Bool → Reference → Type 0
IsPut true = IsNamed
IsPut false = IsPlace

abbrev pub TargetOf : Bool → Bool → Exits → More → M Reference → Type 0
TargetOf b u E (aims m) r = Means u E (PutterFine u E) m
TargetOf b u E nothing_more r = Means u E (IsPut b) r
TargetOf b u E (keys_of ks) r = Means u E (IsPut b) r
TargetOf b u E (maps ks) r = Means u E (IsPut b) r
TargetOf b u E (stack_member x m) r = Means u E IsPlace m × Means u E (IsPut b) r
TargetOf b u E _ r = ⊥

abbrev pub ElementOf : Bool → Bool → Exits → More → M Reference → Type 0
ElementOf b u E (rest_aims m) r = Means u E (PutterFine u E) m
ElementOf b u E x r = TargetOf b u E x r

abbrev pub MemberOf : Bool → Exits → More → Type 0
MemberOf u E (member_aims f) = PutterFine u E f
MemberOf u E (rest_aims m) = Means u E (PutterFine u E) m
MemberOf u E _ = ⊥

abbrev pub DefinitionOf : Bool → Exits → More → Type 0
DefinitionOf u E (defines m) = Means u E Any m
DefinitionOf u E (spreads m) = Means u E Any m
DefinitionOf u E _ = ⊥

abbrev pub HeadsOf : Bool → Exits → More → Type 0
HeadsOf u E (heads m) = Means u E (PutterFine u E) m
HeadsOf u E _ = ⊥

abbrev pub HeadOf : Bool → Exits → More → M Reference → Type 0
HeadOf u E (heads m) r = Means u E (PutterFine u E) m
HeadOf u E x r = TargetOf false u E x r

abbrev pub DeclaratorMore : More → Type 0
DeclaratorMore nothing_more = Unit {0}
DeclaratorMore (heads m) = Unit {0}
DeclaratorMore _ = ⊥

abbrev pub HandlerOf : Bool → Exits → More → Type 0
HandlerOf u E (handles f) = PutterFine u E f
HandlerOf u E _ = ⊥

abbrev pub TemplateOf : Bool → Exits → More → Type 0
TemplateOf u E (template_of raws cooked t es) = Means u E Any es
TemplateOf u E _ = ⊥

abbrev pub ImportOf : More → Type 0
ImportOf (imports x y) = is_own_cell y ≡ false
ImportOf _ = ⊥

abbrev pub ClauseOf : Bool → Exits → More → Type 0
ClauseOf u E (clause_of c) = ClauseFine u E c
ClauseOf u E _ = Unit {0}

abbrev pub Gives : Supply → Bool → Exits → Role → Sense → Type 0
Gives S u E a_value e = Valued S u E e
Gives S u E a_place e = Placed S u E e
Gives S u E (a_target b) e = TargetOf b u E e.more e.core.reference
Gives S u E (an_element b) e = ElementOf b u E e.more e.core.reference
Gives S u E a_member e = MemberOf u E e.more
Gives S u E a_definition e = DefinitionOf u E e.more
Gives S u E a_head e = HeadOf u E e.more e.core.reference
Gives S u E a_declarator e = DeclaratorMore e.more × Means u E IsSeen e.core.reference
Gives S u E a_head_declarator e = HeadsOf u E e.more
Gives S u E a_handler e = HandlerOf u E e.more
Gives S u E a_template e = TemplateOf u E e.more
Gives S u E an_import e = ImportOf e.more
Gives S u E a_clause e = ClauseOf u E e.more
Gives S u E a_part e = Unit {0}

-- what is known where nothing leaves holds where something may
module _ {u : Bool} {E : Exits} where
  pub quiet : {A : Type 0} {Q : A → Type 0} {m : M A} → Means u (no_exits false) Q m → Means u E Q m
  quiet h = weaker (λ a q. q) (from_none E) h

  pub quiet_putter : {m : M Putter} → Means u (no_exits false) (PutterFine u (no_exits false)) m → Means u E (PutterFine u E) m
  quiet_putter h = weaker (λ put p v. quiet (p v)) (from_none E) h

-- A TARGET puts

module _ {u : Bool} {E : Exits} where
  put_or_set : (b : Bool) (w : World) (r : Reference) → IsPut b r → PutterFine u E (reference_putter b w r)
  put_or_set true w r h v = initialise_fine v r h
  put_or_set false w r h v = put_fine w v r h

  referred : (b : Bool) (w : World) {m : M Reference} → Means u E (IsPut b) m → Means u E (PutterFine u E) (m >>= λ r. return (reference_putter b w r))
  referred b w h = then_fine h (λ r k. return_fine (put_or_set b w r k))

  by_more : (b : Bool) (w : World) (x : More) (e : Meaning) → TargetOf b u E x e.reference → Means u E (PutterFine u E) (putter_by b w x e)
  by_more b w (aims m) e h = h
  by_more b w nothing_more e h = referred b w h
  by_more b w (keys_of ks) e h = referred b w h
  by_more b w (maps ks) e h = referred b w h
  by_more b w (stack_member x m) e h = referred b w h.1
  by_more b w _ e h = absurd h

  pub putter_fine : (b : Bool) (w : World) (e : Sense) → TargetOf b u E e.more e.core.reference → Means u E (PutterFine u E) (putter b w e)
  putter_fine b w e h = by_more b w e.more e.core h

  head_more : (w : World) (x : More) (e : Meaning) → HeadOf u E x e.reference → Means u E (PutterFine u E) (head_by x (putter_by false w x e))
  head_more w (heads m) e h = h
  head_more w (aims m) e h = h
  head_more w nothing_more e h = referred false w h
  head_more w (keys_of ks) e h = referred false w h
  head_more w (maps ks) e h = referred false w h
  head_more w (stack_member x m) e h = referred false w h.1
  head_more w _ e h = absurd h

  pub head_fine : (w : World) (e : Sense) → HeadOf u E e.more e.core.reference → Means u E (PutterFine u E) (head_putter w e)
  head_fine w e h = head_more w e.more e.core h

  pub used_where_fine : (b : Bool) → (not b || u) ≡ true → {put : Putter} → PutterFine u E put → PutterFine u E (used_where b put)
  used_where_fine true h p v = then_fine (subst (λ (z : Bool). Means z E Any (used v)) (sym h) (used_fine v)) (λ w _. p w)
  used_where_fine false h p v = p v

-- EXPRESSIONS OF THE CORE

module _ {u : Bool} {E : Exits} (w : World) where
  -- MEMBERS

  cut_fine : {A : Type 0} {Q : A → Type 0} (b x : Bool) → (not b || E.cuts) ≡ true → {m : M A} → Means u E Q m → Means u E Q (cut_where (b && x) m)
  cut_fine true true h g = stop_fine cut h
  cut_fine true false h g = g
  cut_fine false x h g = g

  key_fine : (b : Bool) (e : Meaning) → (b ≡ true → Means u E IsSeen e.reference) → Means u E Any (key w b e)
  key_fine true e h = value_fine w e (h refl)
  key_fine false e h = return_fine tt

  pub member_fine : (computed optional : Bool) (o k : Meaning) → (not optional || E.cuts) ≡ true → Means u E IsSeen o.reference → (computed ≡ true → Means u E IsSeen k.reference) → Means u E IsPlace (member w computed optional o k).reference
  member_fine computed optional o k c h g = then_fine (value_fine w o h) (λ v _. cut_fine optional (is_nullish v) c (then_fine (key_fine computed k g) (λ x _. return_fine tt)))

  -- CALLS

  run_call_fine : (b : Bool) {es : List Meaning} → AllFine u E es → (f r : Value) → Means u E Any (run_call w b es f r)
  run_call_fine true h f r = then_fine (values_fine w h) (λ vs _. call_fine f r vs)
  run_call_fine false h f r = stop_fine _ refl

  pub plain_call_fine : (optional : Bool) → (not optional || E.cuts) ≡ true → {es : List Meaning} → AllFine u E es → (r : Reference) → Means u E Any (plain_call w optional es r)
  plain_call_fine optional c h r = then_fine (get_fine w r) (λ f _. cut_fine optional (is_nullish f) c (run_call_fine (is_callable f) h f (receiver r)))

  apply_call_fine : (f : Value) (vs : Values) → Means u E Any (apply_call f vs)
  apply_call_fine f none = call_fine f undefined none
  apply_call_fine f (r and vs) = call_fine f r vs

  apply_bind_fine : (f : Value) (vs : Values) → Means u E Any (apply_bind f vs)
  apply_bind_fine f none = return_fine tt
  apply_bind_fine f (r and vs) = return_fine tt

  method_fine : (apply : Value → Values → M Value) → ((f : Value) (vs : Values) → Means u E Any (apply f vs)) → {es : List Meaning} → AllFine u E es → (r : Reference) → Means u E Any (method_call w apply es r)
  method_fine apply a h (property o k) = choice_fine (is_callable o) (then_fine (values_fine w h) (λ vs _. a o vs)) (plain_call_fine false refl h (property o k))
  method_fine apply a h (named x) = plain_call_fine false refl h (named x)
  method_fine apply a h (plain v) = plain_call_fine false refl h (plain v)

  plainly_called : {m : M Reference} → Means u E IsSeen m → {es : List Meaning} → AllFine u E es → Means u E Any (m >>= plain_call w false es)
  plainly_called h g = then_fine h (λ r _. plain_call_fine false refl g r)

  unmarked_fine : (f : Form) {m : M Reference} → Means u E IsSeen m → {es : List Meaning} → AllFine u E es → Means u E Any (unmarked_call w f m es)
  unmarked_fine math_pow h (one_fine {e = x} a (one_fine {e = y} b none_fine)) = then_fine (value_fine w x a) (λ v _. then_fine (value_fine w y b) (λ z _. ask_fine _))
  unmarked_fine math_pow h none_fine = plainly_called h none_fine
  unmarked_fine math_pow h (one_fine a none_fine) = plainly_called h (one_fine a none_fine)
  unmarked_fine math_pow h (one_fine a (one_fine b (one_fine d g))) = plainly_called h (one_fine a (one_fine b (one_fine d g)))
  unmarked_fine member_call h g = then_fine h (λ r _. method_fine apply_call apply_call_fine g r)
  unmarked_fine member_bind h g = then_fine h (λ r _. method_fine apply_bind apply_bind_fine g r)
  unmarked_fine (word x) h g = plainly_called h g
  unmarked_fine null_form h g = plainly_called h g
  unmarked_fine zero_form h g = plainly_called h g
  unmarked_fine void_zero h g = plainly_called h g
  unmarked_fine other h g = plainly_called h g

  pub call_value_fine : (optional : Bool) → (not optional || E.cuts) ≡ true → (callee : Meaning) → Means u E IsSeen callee.reference → {es : List Meaning} → AllFine u E es → Means u E Any (call_value w optional callee es)
  call_value_fine true c callee h g = then_fine h (λ r _. plain_call_fine true c g r)
  call_value_fine false c callee h g = unmarked_fine callee.form h g

  pub new_fine : (callee : Meaning) → Means u E IsSeen callee.reference → {es : List Meaning} → AllFine u E es → Means u E IsSeen (new_of w callee es).reference
  new_fine callee h g = plain_fine (then_fine (value_fine w callee h) (λ f _. then_fine (values_fine w g) (λ vs _. ask_fine _)))

  -- OPERATORS

  typeof_name_fine : (x : Text) (b : Binding) → Means u E Any (typeof_name x b)
  typeof_name_fine x free = ask_fine _
  typeof_name_fine x changeable = then_fine (read_fine x changeable) (λ v _. ask_fine _)
  typeof_name_fine x constant = then_fine (read_fine x constant) (λ v _. ask_fine _)
  typeof_name_fine x (silent s) = then_fine (read_fine x (silent s)) (λ v _. ask_fine _)

  typeof_fine : (r : Reference) → Means u E Any (typeof_value w r)
  typeof_fine (named x) = typeof_name_fine x (w.scope x)
  typeof_fine (property o k) = then_fine (get_fine w (property o k)) (λ v _. ask_fine _)
  typeof_fine (plain t) = ask_fine _

  delete_fine : (r : Reference) → Means u E Any (delete_value w r)
  delete_fine (property o k) = ask_fine _
  delete_fine (named x) = then_fine (get_fine w (named x)) (λ v _. return_fine tt)
  delete_fine (plain t) = return_fine tt

  unary_by_fine : (c : UnaryClass) (op : Text) (e : Meaning) → Means u E IsSeen e.reference → Means u E IsSeen (unary_by w c op e).reference
  unary_by_fine typeof_class op e h = plain_fine (then_fine h (λ r _. typeof_fine r))
  unary_by_fine delete_class op e h = plain_fine (then_fine h (λ r _. delete_fine r))
  unary_by_fine void_class op e h = then_fine (value_fine w e h) (λ v _. return_fine tt)
  unary_by_fine not_class op e h = plain_fine (then_fine (value_fine w e h) (λ v _. return_fine tt))
  unary_by_fine asked_class op e h = plain_fine (then_fine (value_fine w e h) (λ v _. ask_fine _))

  pub unary_fine : (op : Text) (e : Meaning) → Means u E IsSeen e.reference → Means u E IsSeen (unary_by w (unary_class op) op e).reference
  unary_fine op e h = unary_by_fine (unary_class op) op e h

  asked_fine : (op : Text) (l r : Meaning) → Means u E IsSeen l.reference → Means u E IsSeen r.reference → Means u E Any (value w l >>= λ x. value w r >>= λ y. ask (Rattle.es_runs.specs.Machine.Question.operator op (x and y and none)))
  asked_fine op l r h g = then_fine (value_fine w l h) (λ x _. then_fine (value_fine w r g) (λ y _. ask_fine _))

  equality_fine : (op : Text) (l r : Meaning) (f : Form) → Means u E IsSeen l.reference → Means u E IsSeen r.reference → Means u E Any (equality w op l r f)
  equality_fine op l r null_form h g = then_fine (value_fine w l h) (λ v _. return_fine tt)
  equality_fine op l r void_zero h g = then_fine (value_fine w l h) (λ v _. return_fine tt)
  equality_fine op l r _ h g = asked_fine op l r h g

  pub binary_fine : (op : Text) (l r : Meaning) → Means u E IsSeen l.reference → Means u E IsSeen r.reference → Means u E IsSeen (binary w op l r).reference
  binary_fine op l r h g = plain_fine (choice_fine (is_equality op) (equality_fine op l r r.form h g) (asked_fine op l r h g))

  pub logical_fine : (op : Text) (l r : Meaning) → Means u E IsSeen l.reference → Means u E IsSeen r.reference → Means u E IsSeen (logical w op l r).reference
  logical_fine op l r h g = plain_fine (then_fine (value_fine w l h) (λ v _. choice_fine (goes_right op v) (value_fine w r g) (return_fine tt)))

  pub conditional_fine : (t a b : Meaning) → Means u E IsSeen t.reference → Means u E IsSeen a.reference → Means u E IsSeen b.reference → Means u E IsSeen (conditional w t a b).reference
  conditional_fine t a b h g f = plain_fine (then_fine (value_fine w t h) (λ v _. choice_fine (is_true v) (value_fine w a g) (value_fine w b f)))

  last_fine : (v : Value) {es : List Meaning} → AllFine u E es → Means u E Any (last_value w v es)
  last_fine v none_fine = return_fine tt
  last_fine v (one_fine {e = e} h g) = then_fine (value_fine w e h) (λ x _. last_fine x g)

  pub sequence_fine : {es : List Meaning} → AllFine u E es → Means u E IsSeen (sequence w es).reference
  sequence_fine g = plain_fine (last_fine undefined g)

  assigned_fine : (c : AssignClass) (op : Text) (e : Meaning) → Means u E IsSeen e.reference → (r : Reference) → IsPlace r → Means u E Any (assigned w c op e r)
  assigned_fine plainly op e h r k = then_fine (value_fine w e h) (λ v _. put_fine w v r k)
  assigned_fine logically op e h r k = then_fine (get_fine w r) (λ v _. choice_fine (goes_right (without_last op) v) (then_fine (value_fine w e h) (λ x _. put_fine w x r k)) (return_fine tt))
  assigned_fine compound op e h r k = then_fine (get_fine w r) (λ v _. then_fine (value_fine w e h) (λ x _. then_fine (ask_fine _) (λ y _. put_fine w y r k)))

  pub assignment_fine : (op : Text) (l e : Meaning) → Means u E IsPlace l.reference → Means u E IsSeen e.reference → Means u E IsSeen (assignment w op l e).reference
  assignment_fine op l e h g = plain_fine (then_fine h (λ r k. assigned_fine (assign_class op) op e g r k))

  pub update_fine : (op : Text) (prefix : Bool) (e : Meaning) → Means u E IsPlace e.reference → Means u E IsSeen (update w op prefix e).reference
  update_fine op prefix e h = plain_fine (then_fine h (λ r k. then_fine (get_fine w r) (λ v _. then_fine (ask_fine _) (λ o _. then_fine (ask_fine _) (λ n _. then_fine (put_fine w n r k) (λ _ _. return_fine tt))))))

  -- DECLARATIONS

  settle_fine : (b : Bool) (r : Reference) → IsSeen r → Means u E Any (settle b r)
  settle_fine true (named x) h = set_fine x undefined h
  settle_fine true (property o k) h = return_fine tt
  settle_fine true (plain v) h = return_fine tt
  settle_fine false r h = return_fine tt

  pub declared_fine : (b : Bool) {es : List Meaning} → AllFine u E es → Means u E Any (declared b es)
  declared_fine b none_fine = return_fine tt
  declared_fine b (one_fine h g) = then_fine h (λ r k. then_fine (settle_fine b r k) (λ _ _. declared_fine b g))

  pub declarator_fine : (id e : Meaning) → Means u E IsNamed id.reference → Means u E IsSeen e.reference → Means u E IsSeen (declarator w id e).reference
  declarator_fine id e h g = plain_fine (then_fine h (λ r k. then_fine (value_fine w e g) (λ v _. initialise_fine v r k)))

  -- CHAINS

  closed_fine : {r : Rattle.es_runs.specs.Machine.Result Reference} → Fine u (no_exits true) IsSeen r → Fine u E IsSeen (closed_result r)
  closed_fine (fine_gives q h) = fine_gives q h
  closed_fine (fine_stops {w = cut} e h) = fine_gives tt h
  closed_fine (fine_stops {w = throws v} e h) = fine_stops refl h
  closed_fine (fine_stops {w = Rattle.es_runs.specs.Machine.Stop.faults v} e h) = fine_stops refl h
  closed_fine (fine_stops {w = Rattle.es_runs.specs.Machine.Stop.waits} e h) = fine_stops refl h
  closed_fine (fine_stops {w = uncallable} e h) = fine_stops refl h
  closed_fine (fine_stops {w = Rattle.es_runs.specs.Machine.Stop.out_of_turns} e h) = fine_stops refl h
  closed_fine (fine_stops {w = Rattle.es_runs.specs.Machine.Stop.unknown} e h) = absurd (cc e)
  closed_fine (fine_stops {w = breaks []} e h) = absurd (cc e)
  closed_fine (fine_stops {w = breaks (l ∷ ls)} e h) = absurd (cc e)
  closed_fine (fine_stops {w = continues []} e h) = absurd (cc e)
  closed_fine (fine_stops {w = continues (l ∷ ls)} e h) = absurd (cc e)

  pub chain_fine : (e : Meaning) → Means u (no_exits true) IsSeen e.reference → Means u E IsSeen (chain e).reference
  chain_fine e h s k = closed_fine (h s k)

  -- MEMBERS OF STACKS

  on_stack_fine : {f : ℕ → M Value} → ((n : ℕ) → Means u E Any (f n)) → {m : M Value} → Means u E Any m → (r : Reference) → Means u E Any (on_stack r f m)
  on_stack_fine h g (property (own (stack n)) k) = h n
  on_stack_fine h g _ = g

  method_of_stack : (x : Text) (es : List Sense) → AllFine u E (cores es) → {m : M Value} → Means u E Any m → (n : ℕ) → Means u E Any (stack_method w x es m n)
  method_of_stack x [] h g n = choice_fine (is_word (codes "d") x) (all_disposed_fine n) g
  method_of_stack x (e ∷ []) (one_fine h i) g n = choice_fine (is_word (codes "u") x && not (is_spread e.more)) (then_fine (value_fine w e.core h) (λ v _. taken_use_fine n v)) g
  method_of_stack x (e ∷ d ∷ es) h g n = g

  pub stack_call_fine : (x : Text) (es : List Sense) → AllFine u E (cores es) → {m : M Reference} → Means u E IsPlace m → Means u E Any (stack_call w x es m)
  stack_call_fine x es h g = then_fine g (λ r _. on_stack_fine (λ n. method_of_stack x es h (plain_call_fine false refl h r) n) (plain_call_fine false refl h r) r)

  pub stack_failure_fine : (x : Text) (e : Sense) → Means u E IsSeen e.core.reference → (r : Reference) → IsPlace r → Means u E Any (stack_failure w x e r)
  stack_failure_fine x e h r k = on_stack_fine (λ n. choice_fine (is_word (codes "e") x) (then_fine (value_fine w e.core h) (λ v _. failed_fine n v)) (then_fine (value_fine w e.core h) (λ v _. put_fine w v r k))) (then_fine (value_fine w e.core h) (λ v _. put_fine w v r k)) r

  -- TEMPLATES

  tagged_value_fine : (raws cooked : Values) {vs : M Values} → Means u E Any vs → (f r : Value) → Means u E Any (tagged raws cooked vs f r)
  tagged_value_fine raws cooked h f r = then_fine (ask_fine _) (λ t _. then_fine h (λ us _. choice_fine (is_callable f) (call_fine f r _) (stop_fine _ refl)))

  pub tagged_fine : (tag : Sense) (x : More) → Means u E IsSeen tag.core.reference → TemplateOf u E x → Means u E IsSeen (tagged_template w tag x).reference
  tagged_fine tag (template_of raws cooked t es) h g = plain_fine (then_fine h (λ r _. then_fine (get_fine w r) (λ f _. tagged_value_fine raws cooked g f (receiver r))))
  tagged_fine tag _ h g = absurd g

-- VALUES

module _ {S : Supply} {u : Bool} {E : Exits} where
  pub ended : {m : M Value} → Means u E Any m → Valued S u E (ends m)
  ended h = record { form = tt; more = tt; reference = plain_fine h }

  -- ASSIGNMENTS

  module _ (w : World) (op : Text) (l e : Sense) (g : Means u E IsSeen e.core.reference) (mean : Meaning) (form : FormFine S mean.form) (fine : Means u E IsPlace l.core.reference → Means u E IsSeen mean.reference) where
    put_plainly : Means u E IsPlace l.core.reference → Valued S u E (plain_sense mean)
    put_plainly h = record { form = form; more = tt; reference = fine h }

    pattern_assign : is_word (codes "=") op ≡ true → {target : M Putter} → Means u E (PutterFine u E) target → Valued S u E (assignment_by w op (aims target) e mean)
    pattern_assign k h = rw k (ended (then_fine (value_fine w e.core g) (λ v _. then_fine h (λ put p. then_fine (p v) (λ _ _. return_fine tt)))))

    stack_assign : (b : Bool) → is_word (codes "=") op ≡ b → (x : Text) {m : M Reference} → Means u E IsPlace m → Means u E IsPlace l.core.reference → Valued S u E (assignment_by w op (stack_member x m) e mean)
    stack_assign true k x h i = rw k (ended (then_fine h (λ r q. stack_failure_fine w x e g r q)))
    stack_assign false k x h i = rw k (put_plainly i)

    equal_assign : is_word (codes "=") op ≡ true → (x : More) → TargetOf false u E x l.core.reference → Valued S u E (assignment_by w op x e mean)
    equal_assign k (aims m) h = pattern_assign k h
    equal_assign k nothing_more h = put_plainly h
    equal_assign k (keys_of ks) h = put_plainly h
    equal_assign k (maps ks) h = put_plainly h
    equal_assign k (stack_member x m) h = stack_assign true k x h.0 h.1
    equal_assign k _ h = absurd h

    other_assign : (b : Bool) → is_word (codes "=") op ≡ b → (x : More) → PlaceMore u E x → Means u E IsPlace l.core.reference → Valued S u E (assignment_by w op x e mean)
    other_assign b k nothing_more h i = put_plainly i
    other_assign b k (keys_of ks) h i = put_plainly i
    other_assign b k (maps ks) h i = put_plainly i
    other_assign b k (stack_member x m) h i = stack_assign b k x h i
    other_assign b k _ h i = absurd h

    at_word : (b : Bool) → is_word (codes "=") op ≡ b → Gives S u E (if b then a_target false else a_place) l → Valued S u E (assignment_by w op l.more e mean)
    at_word true k h = equal_assign k l.more h
    at_word false k h = other_assign false k l.more h.more h.reference

    pub assigned_valued : Gives S u E (assigned_role op) l → Valued S u E (assignment_by w op l.more e mean)
    assigned_valued h = at_word (is_word (codes "=") op) refl h
