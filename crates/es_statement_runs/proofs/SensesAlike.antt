-- What nodes mean is alike where what their parts mean is.
use Rattle.std.proofs.Common.{◌≡◌, refl, subst, List, [], ◌∷◌, ap, ◌∙◌}
use Rattle.std.specs.Prelude.{ℕ, suc, Bool, true, false, not, ◌&&◌, ◌++◌, Option, Some, None, codes, if◌then◌else◌}
use Rattle.std.proofs.lemmas.Slice.Eq.{bytes_eq-Decides}
use Rattle.es_tree.specs.Words.{Text}
use Rattle.es_runs.specs.Core.{plain_call, World, Binding, Reference, Meaning, Form, value, values, initialise, gives_value, nothing, is_free, receiver, in_order}
use Rattle.es_runs.specs.Core.Silent.{keys_name, helper_name}
use Rattle.es_runs.specs.Core.Binding.{silent, free, changeable, constant}
use Rattle.es_runs.specs.Core.Form.{word, math_pow, member_call, member_bind, other, null_form, zero_form, void_zero}
use Rattle.es_runs.specs.Machine.{is_callable, Value, Values, M, ◌>>=◌, return, ask, is_true, is_nullish, joined}
use Rattle.es_runs.specs.Machine.Value.{undefined, text, own}
use Rattle.es_runs.specs.Machine.OwnValue.{list, helper, stack, pattern_error}
use Rattle.es_runs.specs.Machine.Values.{none, ◌and◌}
use Rattle.es_runs.specs.Machine.Question.{of_statement}
use Rattle.es_runs.specs.Machine.StatementQuestion.{make, import_name, template}
use Rattle.es_runs.specs.Machine.Stop.{throws, unknown}
use Rattle.es_runs.specs.Alike.{Frame, Alike, Equal, SameReference, SameTarget, SameWorld, Level, Need, Like, LikeAt, LikeCallee, needs, is_bad, bad_names, the_value, the_target, the_label, the_callee, value_and_form, object_need, key_need}
use Rattle.es_runs.specs.Alike.Level.{no_evaluation, value_alone, an_operand_of_typeof, whole_reference, a_callee, a_target}
use Rattle.es_runs.specs.Alike.LikeCallee.{by_reference, by_call}
use Rattle.es_runs.specs.Alike.Same.{both_give}
use Rattle.es_runs.proofs.Basic.{bind_alike, then_alike, return_alike, stop_alike, ask_alike, set_alike, get_alike, put_alike, read_target}
use Rattle.es_runs.proofs.Congruence.{plain_like, nothing_like, literal_like}
use Rattle.es_runs.proofs.Lists.{AllLike, run_alike, values_alike, in_order_alike, call_like}
use Rattle.es_runs.proofs.Lists.AllLike.{no_more, one_more}
use Rattle.es_runs.proofs.MathWords.{unhidden_word}
use Rattle.es_runs.proofs.Everywhere.{PartLike, PartsLike}
use Rattle.es_runs.proofs.Everywhere.PartLike.{absent_like, single_like, several_like}
use Rattle.es_runs.proofs.Everywhere.PartsLike.{no_part, one_part}
use Rattle.es_statement_runs.specs.Helpers.{is_helper_text, required_from, Supply}
use Rattle.es_statement_runs.specs.Helpers.Supply.{by_require, no_helpers, by_global, by_import, spread_by_global}
use Rattle.es_statement_runs.specs.Calls.{helper_member, is_stack_key, static_member, said_of_member, stack_failure, stack_call, stack_method, on_stack, is_spread, some_spread, first_spread, called_form, plain_callee, core_call, mapped, maps_keys, is_require, required_or, call_by, call_sense, member_by, member_sense, assignment_by, own_literal, module_text, is_global, definitions_by, is_bare, copied_values, spread_arguments, excluded_by, spread2_sense, extends_sense, destructuring_sense, without_sense, using_sense, helper_sense, named_member}
use Rattle.es_statement_runs.specs.Alike.{AllSeen, Told, Quiet, StackSeen, PutterLike, MemberLike, MembersLike, ElementLike, ElementsLike, DefinitionsLike, ClauseLike, ClausesLike, MoreLike, SenseLike, SensesLike, PortionLike, PortionsLike}
use Rattle.es_statement_runs.specs.Alike.MoreLike.{same_stack_member, same_nothing, same_literal, same_aims, same_heads, same_member, same_rest, same_defines, same_spreads, same_object, same_keys, same_maps, same_quasi, same_template, same_clause, same_handles, same_imports, same_begins, same_helper}
use Rattle.es_statement_runs.specs.Alike.MemberLike.{like_keyed, like_remaining}
use Rattle.es_statement_runs.specs.Alike.MembersLike.{no_member, member_and}
use Rattle.es_statement_runs.specs.Alike.ElementLike.{like_elision, like_takes, like_takes_rest}
use Rattle.es_statement_runs.specs.Alike.ElementsLike.{no_element, element_and}
use Rattle.es_statement_runs.specs.Alike.DefinitionsLike.{no_definition, definition_and}
use Rattle.es_statement_runs.specs.Alike.ClauseLike.{like_when, like_default}
use Rattle.es_statement_runs.specs.Alike.ClausesLike.{no_clause, clause_and}
use Rattle.es_statement_runs.specs.Alike.SensesLike.{no_sense, sense_and}
use Rattle.es_statement_runs.specs.Alike.PortionLike.{gap_like, alone_like, rows_like}
use Rattle.es_statement_runs.specs.Alike.PortionsLike.{no_portion, one_portion}
use Rattle.es_statement_runs.specs.Senses.{said_in, said_of, More, Sense, Portion, cores, core_part, core_parts, ends, only_more, plain_sense, word_text, static_by, static_text, key_value, literal_key, excluded_text, reference_putter, property_aims, putter_by, putter, member_of, members_in, element_by, element_of, elements_in, definition_of, definitions_in, is_empty, array_items, key_of, with_key, key_items, keys_where, raw_of, raw_texts, cooked_of, cooked_texts, whole_text, text_alone, template_meaning, template_literal, tagged_template}
use Rattle.es_statement_runs.specs.Senses.More.{stack_member, nothing_more, object_of, keys_of, maps, template_of, helper_call}
use Rattle.es_statement_runs.proofs.Combinators.{failed_alike, all_disposed_alike, taken_use_alike, new_stack_alike, choice_alike, caught_same, finalized_same, used_alike, done_alike}
use Rattle.es_statement_runs.specs.StatementParts.{asked_by, used_where, declarator_by, head_aims, first_more, optional_value, tested, for_test, head_by, head_putter, labels_of, clause_by, clauses, case_clause, bound_parameter, handler_of, handled, at_last, first_asked, begun, asked_names, asked_name, namespace_begins}
use Rattle.es_statement_runs.specs.Stacks.{taken_into_use, used}
use Rattle.es_statement_runs.specs.Statements.{Clause}
use Rattle.es_statement_runs.specs.Patterns.{Putter, defined, copied, one_value, rest_of}
use Rattle.es_statement_runs.specs.Names.{is_word}
use Rattle.es_statement_runs.specs.Places.{SupplySeen, placed_at, Take, take, value_taken, label_taken, target_taken, more_taken, key_taken}
use Rattle.es_statement_runs.proofs.PatternsAlike.{initialise_alike, put_alike_then, returns_putter, reference_putter_alike, copied_then, made_alike, rest_alike, property_alike, tagged_alike}

-- SENSES IN ONE WORLD AND ANOTHER

module _ (F : Frame) (quiet : Quiet F) (w v : World) (same : SameWorld F.hidden w v) where
  pub ends_like : (t : Take) {m k : M Value} → Alike F Equal m k → SenseLike F w v t (ends m) (ends k)
  ends_like t h = record { core = plain_like F w v same t.need _ _ h; more = λ _. same_nothing }

  pub only_like : (t : Take) {a b : More} → MoreLike F a b → SenseLike F w v t (only_more a) (only_more b)
  only_like t h = record { core = nothing_like F w v same t.need; more = λ _. h }

  pub plain_sense_like : (t : Take) {m k : Meaning} → Like F w v t.need m k → SenseLike F w v t (plain_sense m) (plain_sense k)
  plain_sense_like t h = record { core = h; more = λ _. same_nothing }

  pub cores_like : {t : Take} {es ds : List Sense} → SensesLike F w v t es ds → AllLike F w v t.need (cores es) (cores ds)
  cores_like no_sense = no_more
  cores_like (sense_and h hs) = one_more h.core (cores_like hs)

  part_like : {t : Take} {x y : Portion} → PortionLike F w v t x y → PartLike F w v t.need (core_part x) (core_part y)
  part_like gap_like = absent_like
  part_like (alone_like {e = e} h) = single_like (λ _. unhidden_word F.hidden e.core.form quiet.math) h.core
  part_like (rows_like h) = several_like (cores_like h)

  pub parts_like : (c : ℕ → Take) {xs ys : List Portion} → PortionsLike F (λ i. w) (λ i. v) c xs ys → PartsLike F w v (λ i. (c i).need) (core_parts xs) (core_parts ys)
  parts_like c no_portion = no_part
  parts_like c (one_portion h hs) = one_part (part_like h) (parts_like (λ i. c (suc i)) hs)

  static_same : {a b : More} → MoreLike F a b → {f g : Form} → g ≡ f → static_by b g ≡ static_by a f
  static_same same_literal e = refl
  static_same _ e = ap word_text e

  pub label_text : {e d : Sense} → SenseLike F w v label_taken e d → static_text d ≡ static_text e
  label_text h = static_same (h.more refl) (h.core.form refl)

  pub key_like : (computed : Bool) {e d : Sense} → SenseLike F w v (key_taken computed) e d → Alike F Equal (key_value w computed e) (key_value v computed d)
  key_like true h = h.core.evaluation
  key_like false {e = e} h = rw (label_text h) (return_alike F (text (static_text e)))

  literal_same : {a b : More} → MoreLike F a b → literal_key b ≡ literal_key a
  literal_same same_literal = refl
  literal_same same_nothing = refl
  literal_same _ = refl

  excluded_same : (computed : Bool) {e d : Sense} → SenseLike F w v (key_taken computed) e d → excluded_text computed d ≡ excluded_text computed e
  excluded_same true h = literal_same (h.more refl)
  excluded_same false h = ap (λ (x : Text). Some x) (label_text h)

  referred : (binding : Bool) {a b : Meaning} → Like F w v the_target a b → Alike F (PutterLike F) (a.reference >>= λ r. return (reference_putter binding w r)) (b.reference >>= λ r. return (reference_putter binding v r))
  referred binding h = bind_alike F h.evaluation (λ r q e. returns_putter F (reference_putter_alike F w v same binding r q e))

  aimed : (binding : Bool) {x y : More} → MoreLike F x y → {a b : Meaning} → Like F w v the_target a b → Alike F (PutterLike F) (putter_by binding w x a) (putter_by binding v y b)
  aimed binding (same_aims k) h = k
  aimed binding same_nothing h = referred binding h
  aimed binding same_literal h = referred binding h
  aimed binding _ h = referred binding h

  pub putter_like : (binding : Bool) {e d : Sense} → SenseLike F w v target_taken e d → Alike F (PutterLike F) (putter binding w e) (putter binding v d)
  putter_like binding h = aimed binding (h.more refl) h.core

  -- members and elements

  member_like_of : {a b : More} → MoreLike F a b → MemberLike F (member_of a) (member_of b)
  member_like_of (same_member h) = like_keyed h
  member_like_of (same_rest h) = like_remaining h
  member_like_of _ = like_keyed (λ u. stop_alike F unknown)

  pub members_like : {es ds : List Sense} → SensesLike F w v more_taken es ds → MembersLike F (members_in es) (members_in ds)
  members_like no_sense = no_member
  members_like (sense_and h hs) = member_and (member_like_of (h.more refl)) (members_like hs)

  element_like_by : {a b : More} → MoreLike F a b → {m k : M Putter} → Alike F (PutterLike F) m k → ElementLike F (element_by a m) (element_by b k)
  element_like_by (same_rest h) g = like_takes_rest h
  element_like_by _ g = like_takes g

  element_like : (binding : Bool) {x y : Portion} → PortionLike F w v target_taken x y → ElementLike F (element_of binding w x) (element_of binding v y)
  element_like binding gap_like = like_elision
  element_like binding (alone_like h) = element_like_by (h.more refl) (putter_like binding h)
  element_like binding (rows_like h) = like_elision

  pub elements_like : (binding : Bool) {xs ys : List Portion} → PortionsLike F (λ i. w) (λ i. v) (λ i. target_taken) xs ys → ElementsLike F (elements_in binding w xs) (elements_in binding v ys)
  elements_like binding no_portion = no_element
  elements_like binding (one_portion h hs) = element_and (element_like binding h) (elements_like binding hs)

  -- literals

  definition_like : {a b : More} → MoreLike F a b → Alike F Equal (definition_of a) (definition_of b)
  definition_like (same_defines h) = h
  definition_like (same_spreads h) = h
  definition_like _ = stop_alike F unknown

  pub definitions_like : {es ds : List Sense} → SensesLike F w v more_taken es ds → DefinitionsLike F (definitions_in es) (definitions_in ds)
  definitions_like no_sense = no_definition
  definitions_like (sense_and h hs) = definition_and (definition_like (h.more refl)) (definitions_like hs)

  pub as_empty : {t : Take} {es ds : List Sense} → SensesLike F w v t es ds → is_empty ds ≡ is_empty es
  as_empty no_sense = refl
  as_empty (sense_and h hs) = refl

  pub object_like : (t : Take) (b c : Bool) → c ≡ b → {m k : M Values} → Alike F Equal m k → SenseLike F w v t (record { core = gives_value (m >>= λ ds. ask (of_statement (make ds))); more = object_of b m }) (record { core = gives_value (k >>= λ ds. ask (of_statement (make ds))); more = object_of c k })
  object_like t b c e h = rw e (record { core = plain_like F w v same t.need _ _ (made_alike F h); more = λ _. same_object h })

  abbrev element_taken : Take
  element_taken = take (value_and_form true) true

  pub items_like : {xs ys : List Portion} → PortionsLike F (λ i. w) (λ i. v) (λ i. element_taken) xs ys → Alike F Equal (array_items w xs) (array_items v ys)
  items_like no_portion = return_alike F none
  items_like (one_portion gap_like hs) = then_alike F (items_like hs) (λ us. return_alike F (own (list none) and us))
  items_like (one_portion (alone_like h) hs) = then_alike F h.core.evaluation (λ u. then_alike F (items_like hs) (λ us. return_alike F (u and us)))
  items_like (one_portion (rows_like h) hs) = then_alike F (items_like hs) (λ us. return_alike F (own (list none) and us))

  -- both are none, or alike
  pub data MaybeLike {A : Type 0} : Option (M A) → Option (M A) → Type 0 where
    both_none : MaybeLike None None
    both_some : {m k : M A} → Alike F Equal m k → MaybeLike (Some m) (Some k)

  key_named : (f : Form) (a b : Meaning) → Alike F Equal (value w a) (value v b) → MaybeLike (key_of w nothing_more f a) (key_of v nothing_more f b)
  key_named (word x) a b h = both_some h
  key_named _ a b h = both_none

  key_same : {x y : More} → MoreLike F x y → {f g : Form} → g ≡ f → (a b : Meaning) → Alike F Equal (value w a) (value v b) → MaybeLike (key_of w x f a) (key_of v y g b)
  key_same (same_literal {t = t}) e a b h = both_some (return_alike F (text t))
  key_same _ {f = f} e a b h = rw e (key_named f a b h)

  with_key_like : {a b : Option (M Value)} {c d : Option (M Values)} → MaybeLike a b → MaybeLike c d → MaybeLike (with_key a c) (with_key b d)
  with_key_like (both_some h) (both_some g) = both_some (then_alike F h (λ u. then_alike F g (λ us. return_alike F (u and us))))
  with_key_like _ _ = both_none

  pub keys_like : {a b : Option (M Values)} → MaybeLike a b → MoreLike F (keys_where a) (keys_where b)
  keys_like (both_some h) = same_keys h
  keys_like both_none = same_nothing

  pub key_items_like : {xs ys : List Portion} → PortionsLike F (λ i. w) (λ i. v) (λ i. element_taken) xs ys → MaybeLike (key_items w xs) (key_items v ys)
  key_items_like no_portion = both_some (return_alike F none)
  key_items_like (one_portion gap_like hs) = both_none
  key_items_like (one_portion (alone_like {e = e} {d = d} h) hs) = with_key_like (key_same (h.more refl) (h.core.form refl) e.core d.core h.core.evaluation) (key_items_like hs)
  key_items_like (one_portion (rows_like h) hs) = both_none

  -- templates

  raw_same : {a b : More} → MoreLike F a b → (us : Values) → raw_of b us ≡ raw_of a us
  raw_same same_quasi us = refl
  raw_same _ us = refl

  raws_same : {es ds : List Sense} → SensesLike F w v more_taken es ds → raw_texts ds ≡ raw_texts es
  raws_same no_sense = refl
  raws_same (sense_and {e = e} h hs) = raw_same (h.more refl) _ ∙ ap (raw_of e.more) (raws_same hs)

  cooked_same : {a b : More} → MoreLike F a b → (us : Values) → cooked_of b us ≡ cooked_of a us
  cooked_same same_quasi us = refl
  cooked_same _ us = refl

  cookeds_same : {es ds : List Sense} → SensesLike F w v more_taken es ds → cooked_texts ds ≡ cooked_texts es
  cookeds_same no_sense = refl
  cookeds_same (sense_and {e = e} h hs) = cooked_same (h.more refl) _ ∙ ap (cooked_of e.more) (cookeds_same hs)

  whole_same : {a b : More} → MoreLike F a b → whole_text b ≡ whole_text a
  whole_same same_quasi = refl
  whole_same _ = refl

  alone_same : {es ds : List Sense} → SensesLike F w v more_taken es ds → {xs ys : List Sense} → SensesLike F w v value_taken xs ys → text_alone ds ys ≡ text_alone es xs
  alone_same (sense_and h no_sense) no_sense = whole_same (h.more refl)
  alone_same (sense_and h no_sense) (sense_and g gs) = refl
  alone_same (sense_and h (sense_and i is)) no_sense = refl
  alone_same (sense_and h (sense_and i is)) (sense_and g gs) = refl
  alone_same no_sense no_sense = refl
  alone_same no_sense (sense_and g gs) = refl

  template_by : (t : Take) (c : Option Text) (us ks : Values) (xs ys : List Meaning) → AllLike F w v the_value xs ys →
      SenseLike F w v t (record { core = template_meaning w c us ks xs; more = template_of us ks c (values w xs) }) (record { core = template_meaning v c us ks ys; more = template_of us ks c (values v ys) })
  template_by t (Some x) us ks xs ys h = record { core = literal_like F w v same t.need (text x) other; more = λ _. same_template (values_alike F w v same h) }
  template_by t None us ks xs ys h = record { core = plain_like F w v same t.need _ _ (then_alike F (values_alike F w v same h) (λ u. ask_alike F (of_statement (template (own (list us) and own (list ks) and own (list u) and none))))); more = λ _. same_template (values_alike F w v same h) }

  pub template_like : (t : Take) {qs rs xs ys : List Sense} → SensesLike F w v more_taken qs rs → SensesLike F w v value_taken xs ys → SenseLike F w v t (template_literal w qs xs) (template_literal v rs ys)
  template_like t {qs = qs} {xs = xs} {ys = ys} h g = rw (alone_same h g, raws_same h, cookeds_same h) (template_by t (text_alone qs xs) (raw_texts qs) (cooked_texts qs) (cores xs) (cores ys) (cores_like g))

  receiver_of : (r q : Reference) → SameReference F r q → receiver q ≡ receiver r
  receiver_of _ _ same_name_of = at same_name_of
    where
      at : {r q : Reference} → SameReference F r q → receiver q ≡ receiver r
      at (Rattle.es_runs.specs.Alike.SameReference.same_name e) = refl
      at Rattle.es_runs.specs.Alike.SameReference.same_property = refl
      at Rattle.es_runs.specs.Alike.SameReference.same_plain = refl

  abbrev tag_taken : Take
  tag_taken = take (record { level = whole_reference; form = false }) false

  tag_called : (us vs : Values) {m k : M Values} → Alike F Equal m k → (f x y : Value) → y ≡ x → Alike F Equal (Rattle.es_statement_runs.specs.Patterns.tagged us vs m f x) (Rattle.es_statement_runs.specs.Patterns.tagged us vs k f y)
  tag_called us vs h f x y e = rw e (tagged_alike F us vs h f x)

  pub tagged_by : {e d : Sense} → SenseLike F w v tag_taken e d → {a b : More} → MoreLike F a b → (n : Need) → Like F w v n (tagged_template w e a) (tagged_template v d b)
  tagged_by h (same_template {us = us} {vs = ks} g) n = plain_like F w v same n _ _ (bind_alike F h.core.evaluation (λ r q e. then_alike F (get_alike F w v same e) (λ f. tag_called us ks g f (receiver r) (receiver q) (receiver_of r q e))))
  tagged_by h _ n = nothing_like F w v same n

  -- calls

  spread_same : {a b : More} → MoreLike F a b → is_spread b ≡ is_spread a
  spread_same (same_spreads h) = refl
  spread_same _ = refl

  abbrev argument_taken : Take
  argument_taken = take the_value true

  some_same : {es ds : List Sense} → SensesLike F w v argument_taken es ds → some_spread ds ≡ some_spread es
  some_same no_sense = refl
  some_same (sense_and h hs) = rw (spread_same (h.more refl), some_same hs)

  first_same : {es ds : List Sense} → SensesLike F w v argument_taken es ds → first_spread ds ≡ first_spread es
  first_same no_sense = refl
  first_same (sense_and h hs) = spread_same (h.more refl)

  form_same : {es ds : List Sense} → SensesLike F w v argument_taken es ds → (f : Form) → called_form ds f ≡ called_form es f
  form_same h math_pow = rw (some_same h)
  form_same h member_call = rw (first_same h)
  form_same h member_bind = rw (first_same h)
  form_same h (word x) = refl
  form_same h other = refl
  form_same h null_form = refl
  form_same h zero_form = refl
  form_same h void_zero = refl

  callee_like : (es ds : List Sense) (e d : Sense) → LikeCallee F w v e.core d.core → LikeCallee F w v (plain_callee e es) (plain_callee d ds)
  callee_like es ds e d (by_reference h) = by_reference h
  callee_like es ds e d (by_call f h) = by_call (ap (called_form es) f) h

  callee_at : (optional : Bool) (es ds : List Sense) (e d : Sense) → LikeAt F w v (the_callee optional).level e.core d.core → LikeAt F w v (the_callee optional).level (plain_callee e es) (plain_callee d ds)
  callee_at true es ds e d h = h
  callee_at false es ds e d h = callee_like es ds e d h

  callee_form : (optional : Bool) → (the_callee optional).form ≡ true
  callee_form true = refl
  callee_form false = refl

  callee_all : (optional : Bool) (e d : Sense) {es ds : List Sense} → Like F w v (the_callee optional) e.core d.core → SensesLike F w v argument_taken es ds → Like F w v (the_callee optional) (plain_callee e es) (plain_callee d ds)
  callee_all optional e d {es = es} {ds = ds} h hs = record { evaluation = callee_at optional es ds e d h.evaluation; form = λ _. ap (called_form ds) (h.form (callee_form optional)) ∙ form_same hs e.core.form }

  core_call_like : (n : Need) (optional : Bool) (e d : Sense) {es ds : List Sense} → Like F w v (the_callee optional) e.core d.core → SensesLike F w v argument_taken es ds → Like F w v n (core_call w optional e es) (core_call v optional d ds)
  core_call_like n optional e d h hs = call_like F w v same n optional _ _ _ _ (callee_all optional e d h hs) (cores_like hs)

  -- HELPERS

  required_at : (t : Take) (a : Option Text) {m k : Meaning} → Like F w v t.need m k → SenseLike F w v t (required_or a (plain_sense m)) (required_or a (plain_sense k))
  required_at t None h = plain_sense_like t h
  required_at t (Some x) h = plain_sense_like t (literal_like F w v same t.need (own (helper x)) other)

  required_like : (t : Take) {a b : Option Text} → b ≡ a → {m k : Meaning} → Like F w v t.need m k → SenseLike F w v t (required_or a (plain_sense m)) (required_or b (plain_sense k))
  required_like t {a = a} e h = rw e (required_at t a h)

  literal_own : {a b : More} → MoreLike F a b → own_literal b ≡ own_literal a
  literal_own same_literal = refl
  literal_own same_nothing = refl
  literal_own _ = refl

  module_same : {es ds : List Sense} → SensesLike F w v argument_taken es ds → module_text ds ≡ module_text es
  module_same no_sense = refl
  module_same (sense_and h no_sense) = literal_own (h.more refl)
  module_same (sense_and h (sense_and g gs)) = refl

  -- a name that is a certain visible one is bound alike
  free_same : (known x : Text) → F.hidden known ≡ false → (is_word known x && is_free (v.scope x)) ≡ (is_word known x && is_free (w.scope x))
  free_same known x h = at (is_word known x) refl
    where
      at : (b : Bool) → is_word known x ≡ b → (b && is_free (v.scope x)) ≡ (b && is_free (w.scope x))
      at true e = let i : x ≡ known = (bytes_eq-Decides x known).0 e in let j : F.hidden x ≡ false = ap F.hidden i ∙ h in ap is_free (same.scope x j)
      at false e = refl

  require_same : F.hidden (codes "require") ≡ false → (f : Form) → is_require v f ≡ is_require w f
  require_same h (word x) = free_same (codes "require") x h
  require_same h _ = refl

  abbrev no_text : Option Text
  no_text = None

  none_either : (b c : Bool) → (if b then no_text else no_text) ≡ (if c then no_text else no_text)
  none_either true true = refl
  none_either true false = refl
  none_either false true = refl
  none_either false false = refl

  module_required : (u : Supply) → SupplySeen F u → (f : Form) (t : Text) → (if is_require v f then required_from u t else None) ≡ (if is_require w f then required_from u t else None)
  module_required no_helpers h f t = none_either (is_require v f) (is_require w f)
  module_required spread_by_global h f t = none_either (is_require v f) (is_require w f)
  module_required by_global h f t = none_either (is_require v f) (is_require w f)
  module_required (by_import m) h f t = none_either (is_require v f) (is_require w f)
  module_required (by_require m) h f t = ap (λ (b : Bool). if b then required_from (by_require m) t else None) (require_same h.require f)

  required_same : (u : Supply) → SupplySeen F u → (f g : Form) → g ≡ f → (s t : Text) → t ≡ s → (if is_require v g then required_from u t else None) ≡ (if is_require w f then required_from u s else None)
  required_same u h f g i s t j = rw (i, j) (module_required u h f s)

  global_same : (u : Supply) → SupplySeen F u → (x : Text) → is_global v u x ≡ is_global w u x
  global_same no_helpers h x = refl
  global_same (by_import m) h x = refl
  global_same (by_require m) h x = refl
  global_same spread_by_global h x = free_same (codes "babelHelpers") x h.global
  global_same by_global h x = free_same (codes "babelHelpers") x h.global

  mapped_by : (b : Bool) {m k : M Values} → Alike F Equal m k → MoreLike F (if b then keys_of m else nothing_more) (if b then keys_of k else nothing_more)
  mapped_by true h = same_keys h
  mapped_by false h = same_nothing

  mapped_like : {a b : More} → MoreLike F a b → {m k : M Values} → Alike F Equal m k → MoreLike F (mapped a m) (mapped b k)
  mapped_like (same_helper {h = h}) g = mapped_by (is_word (codes "toPropertyKey") h) g
  mapped_like same_nothing g = same_nothing
  mapped_like _ g = same_nothing

  maps_like : {es ds : List Sense} → SensesLike F w v argument_taken es ds → {m k : M Values} → Alike F Equal m k → MoreLike F (maps_keys es m) (maps_keys ds k)
  maps_like no_sense g = same_nothing
  maps_like (sense_and h no_sense) g = mapped_like (h.more refl) g
  maps_like (sense_and h (sense_and i is)) g = same_nothing

  definitions_by_like : {a b : More} → MoreLike F a b → Alike F Equal (definitions_by a) (definitions_by b)
  definitions_by_like (same_object h) = h
  definitions_by_like _ = stop_alike F unknown

  bare_same : {a b : More} → MoreLike F a b → is_bare b ≡ is_bare a
  bare_same (same_object h) = refl
  bare_same _ = refl

  copied_like : {e d : Sense} → SenseLike F w v argument_taken e d → Alike F Equal (copied_values w e) (copied_values v d)
  copied_like h = then_alike F h.core.evaluation (λ u. then_alike F (copied_then F u none) (λ c. return_alike F (one_value c)))

  bare_or_copied : {e d : Sense} → SenseLike F w v argument_taken e d → Alike F Equal (if is_bare e.more then return none else copied_values w e) (if is_bare d.more then return none else copied_values v d)
  bare_or_copied {e = e} h = rw (bare_same (h.more refl)) (choice_alike F (is_bare e.more) (return_alike F none) (copied_like h))

  spread_like : {es ds : List Sense} → SensesLike F w v argument_taken es ds → Alike F Equal (spread_arguments w es) (spread_arguments v ds)
  spread_like no_sense = return_alike F none
  spread_like (sense_and h no_sense) = copied_like h
  spread_like (sense_and h (sense_and g gs)) = then_alike F (bare_or_copied h) (λ us. then_alike F (definitions_by_like (g.more refl)) (λ vs. then_alike F (spread_like gs) (λ rest. return_alike F (joined us (joined vs rest)))))

  excluded_like : {a b : More} → MoreLike F a b → Alike F Equal (excluded_by a) (excluded_by b)
  excluded_like (same_keys h) = h
  excluded_like _ = stop_alike F unknown

  nothing_here : (t : Take) → SenseLike F w v t (plain_sense nothing) (plain_sense nothing)
  nothing_here t = plain_sense_like t (nothing_like F w v same t.need)

  pick : (t : Take) (b : Bool) {e1 e2 d1 d2 : Sense} → SenseLike F w v t e1 d1 → SenseLike F w v t e2 d2 → SenseLike F w v t (if b then e1 else e2) (if b then d1 else d2)
  pick t true h g = h
  pick t false h g = g

  spread2_like : (t : Take) {es ds : List Sense} → SensesLike F w v argument_taken es ds → SenseLike F w v t (spread2_sense w es) (spread2_sense v ds)
  spread2_like t no_sense = nothing_here t
  spread2_like t (sense_and h hs) = object_like t false false refl (then_alike F (definitions_by_like (h.more refl)) (λ us. then_alike F (spread_like hs) (λ vs. return_alike F (joined us vs))))

  rest_ends : (t : Take) (ks : Values) {e d : Sense} → SenseLike F w v argument_taken e d → SenseLike F w v t (ends (value w e.core >>= λ u. rest_of u ks)) (ends (value v d.core >>= λ u. rest_of u ks))
  rest_ends t ks h = ends_like t (then_alike F h.core.evaluation (λ u. rest_alike F u ks))

  extends_like : (t : Take) {es ds : List Sense} → SensesLike F w v argument_taken es ds → SenseLike F w v t (extends_sense w es) (extends_sense v ds)
  extends_like t no_sense = nothing_here t
  extends_like t (sense_and h no_sense) = nothing_here t
  extends_like t (sense_and {e = a} h (sense_and g no_sense)) = rw (bare_same (h.more refl)) (pick t (is_bare a.more) (rest_ends t none g) (nothing_here t))
  extends_like t (sense_and h (sense_and g (sense_and i is))) = nothing_here t

  destructuring_like : (t : Take) {es ds : List Sense} → SensesLike F w v argument_taken es ds → SenseLike F w v t (destructuring_sense w es) (destructuring_sense v ds)
  destructuring_like t no_sense = nothing_here t
  destructuring_like t (sense_and h no_sense) = ends_like t (then_alike F h.core.evaluation (λ u. choice_alike F (is_nullish u) (stop_alike F (throws (own pattern_error))) (return_alike F undefined)))
  destructuring_like t (sense_and h (sense_and g gs)) = nothing_here t

  without_like : (t : Take) {es ds : List Sense} → SensesLike F w v argument_taken es ds → SenseLike F w v t (without_sense w es) (without_sense v ds)
  without_like t no_sense = nothing_here t
  without_like t (sense_and h no_sense) = nothing_here t
  without_like t (sense_and h (sense_and g no_sense)) = ends_like t (then_alike F h.core.evaluation (λ u. then_alike F (excluded_like (g.more refl)) (λ ks. rest_alike F u ks)))
  without_like t (sense_and h (sense_and g (sense_and i is))) = nothing_here t

  using_ctx_like : (t : Take) {es ds : List Sense} → SensesLike F w v argument_taken es ds → SenseLike F w v t (using_sense es) (using_sense ds)
  using_ctx_like t no_sense = ends_like t (new_stack_alike F quiet)
  using_ctx_like t (sense_and h hs) = nothing_here t

  helper_like : (t : Take) (h : Text) {es ds : List Sense} → SensesLike F w v argument_taken es ds → SenseLike F w v t (helper_sense w h es) (helper_sense v h ds)
  helper_like t h g = pick t (is_word (codes "objectSpread2") h) (spread2_like t g) (pick t (is_word (codes "extends") h) (extends_like t g) (pick t (is_word (codes "objectDestructuringEmpty") h) (destructuring_like t g)
      (pick t (is_word (codes "objectWithoutProperties") h) (without_like t g) (pick t (is_word (codes "usingCtx") h) (using_ctx_like t g) (nothing_here t)))))

  -- stacks

  on_stack_like : {r q : Reference} → SameReference F r q → {f g : ℕ → M Value} → ((n : ℕ) → Alike F Equal (f n) (g n)) → {m k : M Value} → Alike F Equal m k → Alike F Equal (on_stack r f m) (on_stack q g k)
  on_stack_like (Rattle.es_runs.specs.Alike.SameReference.same_property {o = own (stack n)}) h i = h n
  on_stack_like _ h i = i

  method_by : (b : Bool) {e d : Sense} → SenseLike F w v argument_taken e d → {m k : M Value} → Alike F Equal m k → (n : ℕ) → Alike F Equal (if b && not (is_spread e.more) then (value w e.core >>= taken_into_use n) else m) (if b && not (is_spread d.more) then (value v d.core >>= taken_into_use n) else k)
  method_by b {e = e} h i n = rw (spread_same (h.more refl)) (choice_alike F (b && not (is_spread e.more)) (then_alike F h.core.evaluation (taken_use_alike F quiet n)) i)

  method_like : (x : Text) {es ds : List Sense} → SensesLike F w v argument_taken es ds → {m k : M Value} → Alike F Equal m k → (n : ℕ) → Alike F Equal (stack_method w x es m n) (stack_method v x ds k n)
  method_like x no_sense i n = choice_alike F (is_word (codes "d") x) (all_disposed_alike F quiet n) i
  method_like x (sense_and h no_sense) i n = method_by (is_word (codes "u") x) h i n
  method_like x (sense_and h (sense_and g gs)) i n = i

  plainly_called : {es ds : List Sense} → SensesLike F w v argument_taken es ds → {r q : Reference} → SameReference F r q → Alike F Equal (plain_call w false (cores es) r) (plain_call v false (cores ds) q)
  plainly_called hs {r = r} {q = q} e = then_alike F (get_alike F w v same e) (λ f. rw (receiver_of r q e) (run_alike F w v same (is_callable f) f (receiver r) _ _ (cores_like hs)))

  stack_call_like : (x : Text) {es ds : List Sense} → SensesLike F w v argument_taken es ds → {m k : M Reference} → Alike F (SameTarget F) m k → Alike F Equal (stack_call w x es m) (stack_call v x ds k)
  stack_call_like x hs h = bind_alike F h (λ r q t. let e : SameReference F r q = read_target F w v same t in on_stack_like e (method_like x hs (plainly_called hs e)) (plainly_called hs e))

  stack_failure_like : (x : Text) {e d : Sense} → SenseLike F w v value_taken e d → {r q : Reference} → SameTarget F r q → Alike F Equal (stack_failure w x e r) (stack_failure v x d q)
  stack_failure_like x h t = on_stack_like (read_target F w v same t) (λ n. choice_alike F (is_word (codes "e") x) (then_alike F h.core.evaluation (failed_alike F quiet n)) (then_alike F h.core.evaluation (λ u. put_alike F w v same u t))) (then_alike F h.core.evaluation (λ u. put_alike F w v same u t))

  -- statements

  pub value_or_like : {x y : Portion} → PortionLike F w v value_taken x y → (u : Value) → Alike F Equal (optional_value w x u) (optional_value v y u)
  value_or_like gap_like u = return_alike F u
  value_or_like (alone_like h) u = h.core.evaluation
  value_or_like (rows_like h) u = return_alike F u

  pub tested_like : {m k : M Value} → Alike F Equal m k → Alike F Equal (tested m) (tested k)
  tested_like h = then_alike F h (λ u. return_alike F (is_true u))

  pub test_like : {x y : Portion} → PortionLike F w v value_taken x y → Alike F Equal (for_test w x) (for_test v y)
  test_like gap_like = return_alike F true
  test_like (alone_like h) = tested_like h.core.evaluation
  test_like (rows_like h) = return_alike F true

  headed : {a b : More} → MoreLike F a b → {m k : M Putter} → Alike F (PutterLike F) m k → Alike F (PutterLike F) (head_by a m) (head_by b k)
  headed (same_heads h) g = h
  headed _ g = g

  pub head_like : {e d : Sense} → SenseLike F w v target_taken e d → Alike F (PutterLike F) (head_putter w e) (head_putter v d)
  head_like h = headed (h.more refl) (putter_like false h)

  pub bodies_like : {t : Take} {es ds : List Sense} → t.need ≡ the_value → SensesLike F w v t es ds → Alike F Equal (in_order w (cores es)) (in_order v (cores ds))
  bodies_like {t = t} {es = es} {ds = ds} e h = let k : AllLike F w v the_value (cores es) (cores ds) = subst (λ (n : Need). AllLike F w v n (cores es) (cores ds)) e (cores_like h) in in_order_alike F w v same k

  pub labels_same : {x y : Portion} → PortionLike F w v label_taken x y → labels_of y ≡ labels_of x
  labels_same gap_like = refl
  labels_same (alone_like h) = ap (λ (f : Form). word_text f ∷ []) (h.core.form refl)
  labels_same (rows_like h) = refl

  clause_like : {a b : More} → MoreLike F a b → {cs ds : List Clause} → ClausesLike F cs ds → ClausesLike F (clause_by a ++ cs) (clause_by b ++ ds)
  clause_like (same_clause h) g = clause_and h g
  clause_like _ g = g

  pub clauses_like : {es ds : List Sense} → SensesLike F w v more_taken es ds → ClausesLike F (clauses es) (clauses ds)
  clauses_like no_sense = no_clause
  clauses_like (sense_and h hs) = clause_like (h.more refl) (clauses_like hs)

  pub case_like : {x y : Portion} → PortionLike F w v value_taken x y → {es ds : List Sense} → SensesLike F w v value_taken es ds → ClauseLike F (case_clause w x es) (case_clause v y ds)
  case_like gap_like g = like_default (bodies_like refl g)
  case_like (alone_like h) g = like_when h.core.evaluation (bodies_like refl g)
  case_like (rows_like h) g = like_default (bodies_like refl g)

  pub parameter_like : {x y : Portion} → PortionLike F w v target_taken x y → PutterLike F (bound_parameter w x) (bound_parameter v y)
  parameter_like gap_like u = return_alike F undefined
  parameter_like (alone_like h) u = put_alike_then F (putter_like true h) u
  parameter_like (rows_like h) u = return_alike F undefined

  handler_like : {a b : More} → MoreLike F a b → PutterLike F (handler_of a) (handler_of b)
  handler_like (same_handles h) u = h u
  handler_like _ u = stop_alike F unknown

  pub handled_like : {x y : Portion} → PortionLike F w v more_taken x y → {m k : M Value} → Alike F Equal m k → Alike F Equal (handled x m) (handled y k)
  handled_like gap_like g = g
  handled_like (alone_like h) g = λ s t k. caught_same F (handler_like (h.more refl)) (g s t k)
  handled_like (rows_like h) g = g

  pub last_like : {x y : Portion} → PortionLike F w v value_taken x y → {m k : M Value} → Alike F Equal m k → Alike F Equal (at_last w x m) (at_last v y k)
  last_like gap_like g = g
  last_like (alone_like h) g = λ s t k. finalized_same F h.core.evaluation (g s t k)
  last_like (rows_like h) g = g

  first_asked_like : {a b : More} → MoreLike F a b → {m k : M Value} → Alike F Equal m k → Alike F Equal (first_asked a m) (first_asked b k)
  first_asked_like (same_begins h) g = then_alike F h (λ u. g)
  first_asked_like _ g = g

  pub begun_like : {es ds : List Sense} → SensesLike F w v argument_taken es ds → {m k : M Value} → Alike F Equal m k → Alike F Equal (begun es m) (begun ds k)
  begun_like no_sense g = g
  begun_like (sense_and h hs) g = first_asked_like (h.more refl) (begun_like hs g)

  asked_by_like : (b : Binding) (m x y : Text) → F.hidden y ≡ false → F.frozen y ≡ false → Alike F Equal (asked_by b m x y) (asked_by b m x y)
  asked_by_like (silent (helper_name h)) m x y e z = set_alike F y e z (own (helper h))
  asked_by_like (silent (keys_name us)) m x y e z = then_alike F (ask_alike F (of_statement (import_name m x))) (λ u. set_alike F y e z u)
  asked_by_like free m x y e z = then_alike F (ask_alike F (of_statement (import_name m x))) (λ u. set_alike F y e z u)
  asked_by_like changeable m x y e z = then_alike F (ask_alike F (of_statement (import_name m x))) (λ u. set_alike F y e z u)
  asked_by_like constant m x y e z = then_alike F (ask_alike F (of_statement (import_name m x))) (λ u. set_alike F y e z u)

  asked_name_like : (m : Text) {a b : More} → MoreLike F a b → Alike F Equal (asked_name w m a) (asked_name v m b)
  asked_name_like m (same_imports {x = x} {y = y} e z) = rw (same.scope y e) (asked_by_like (w.scope y) m x y e z)
  asked_name_like m _ = stop_alike F unknown

  pub asked_names_like : (m : Text) {es ds : List Sense} → SensesLike F w v more_taken es ds → Alike F Equal (asked_names w m es) (asked_names v m ds)
  asked_names_like m no_sense = return_alike F undefined
  asked_names_like m (sense_and h hs) = then_alike F (asked_name_like m (h.more refl)) (λ u. asked_names_like m hs)

  pub namespace_like : {x y : Portion} → PortionLike F w v label_taken x y → (m : Text) → MoreLike F (namespace_begins x m) (namespace_begins y m)
  namespace_like gap_like m = same_nothing
  namespace_like (alone_like h) m = same_begins (then_alike F (ask_alike F (of_statement (import_name m (codes "*")))) (done_alike F))
  namespace_like (rows_like h) m = same_nothing

  choose_like : (t : Take) (b : Bool) {e1 e2 d1 d2 : Sense} → SenseLike F w v t e1 d1 → SenseLike F w v t e2 d2 → SenseLike F w v t (if b then e1 else e2) (if b then d1 else d2)
  choose_like t true h g = h
  choose_like t false h g = g

  pattern_put : {e d : M Value} → Alike F Equal e d → {m k : M Putter} → Alike F (PutterLike F) m k → Alike F Equal (e >>= λ u. m >>= λ put. put u >>= λ z. return u) (d >>= λ u. k >>= λ put. put u >>= λ z. return u)
  pattern_put h g = then_alike F h (λ u. bind_alike F g (λ p q k. then_alike F (k u) (λ z. return_alike F u)))

  pub assigned_like : (t : Take) (op : Text) {a b : More} → MoreLike F a b → {e d : Sense} → SenseLike F w v value_taken e d → (m k : Meaning) → Like F w v t.need m k → Alike F Equal (value w m) (value v k) → SenseLike F w v t (assignment_by w op a e m) (assignment_by v op b d k)
  assigned_like t op (same_aims h) g m k f z = choose_like t (is_word (codes "=") op) (ends_like t (pattern_put g.core.evaluation h)) (plain_sense_like t f)
  assigned_like t op (same_stack_member {x = x} h) g m k f z = choose_like t (is_word (codes "=") op) (ends_like t (bind_alike F h (λ r q e. stack_failure_like x g e))) (plain_sense_like t f)
  assigned_like t op _ g m k f z = plain_sense_like t f

  keys_member : (x : Text) {m k : M Values} → Alike F Equal m k → (b : Bool) → MoreLike F (if b then maps m else nothing_more) (if b then maps k else nothing_more)
  keys_member x h true = same_maps h
  keys_member x h false = same_nothing

  -- with what is known of the helpers

  said_self : (b : Binding) → MoreLike F (said_of b) (said_of b)
  said_self free = same_nothing
  said_self changeable = same_nothing
  said_self constant = same_nothing
  said_self (silent (helper_name h)) = same_helper
  said_self (silent (keys_name us)) = same_keys (return_alike F us)

  module _ (bad : Level → Text → Bool) where
    seen_supply : (u : Supply) → Told F bad u → SupplySeen F u
    seen_supply no_helpers h = tt
    seen_supply spread_by_global h = h.helpers
    seen_supply by_global h = h.helpers
    seen_supply (by_import m) h = h.helpers
    seen_supply (by_require m) h = h.helpers

    same_binding : (n : Level) (x : Text) → bad n x ≡ false → AllSeen F bad → MoreLike F (said_of (w.scope x)) (said_of (v.scope x))
    same_binding n x e h = rw (same.scope x (h.names n x e)) (said_self (w.scope x))

    pub name_like : (u : Supply) → Told F bad u → (n : Level) (x : Text) → bad n x ≡ false → MoreLike F (said_in u (w.scope x)) (said_in u (v.scope x))
    name_like no_helpers h n x e = same_nothing
    name_like spread_by_global h n x e = same_nothing
    name_like by_global h n x e = same_binding n x e h
    name_like (by_import m) h n x e = same_binding n x e h
    name_like (by_require m) h n x e = same_binding n x e h

    stack_key : (b : Bool) (x : Text) {m k : M Reference} → Alike F (SameTarget F) m k → MoreLike F (if b then stack_member x m else nothing_more) (if b then stack_member x k else nothing_more)
    stack_key true x h = same_stack_member h
    stack_key false x h = same_nothing

    said_member : (u : Supply) (x : Text) {m k : M Reference} → Alike F (SameTarget F) m k → MoreLike F (said_of_member u x m) (said_of_member u x k)
    said_member no_helpers x h = same_nothing
    said_member spread_by_global x h = same_nothing
    said_member by_global x h = stack_key (is_stack_key x) x h
    said_member (by_import m) x h = stack_key (is_stack_key x) x h
    said_member (by_require m) x h = stack_key (is_stack_key x) x h

    module _ (u : Supply) (told : Told F bad u) where
      maps_by : {es ds : List Sense} → SensesLike F w v argument_taken es ds → {m k : M Values} → Alike F Equal m k → MoreLike F (maps_keys es m) (maps_keys ds k)
      maps_by hs e = maps_like hs e

      called_plain : (t : Take) (f g : Sense) {es ds : List Sense} → Like F w v (the_callee false) f.core g.core → SensesLike F w v argument_taken es ds →
          SenseLike F w v t (required_or (if is_require w f.core.form then required_from u (module_text es) else None) (plain_sense (core_call w false f es))) (required_or (if is_require v g.core.form then required_from u (module_text ds) else None) (plain_sense (core_call v false g ds)))
      called_plain t f g {es = es} {ds = ds} h hs = required_like t (required_same u (seen_supply u told) f.core.form g.core.form (h.form refl) (module_text es) (module_text ds) (module_same hs)) (core_call_like t.need false f g h hs)

      called_like : (t : Take) (ls : List Text) (x : Text) {a b : More} → MoreLike F a b → (f g : Sense) {es ds : List Sense} → Like F w v (the_callee false) f.core g.core → SensesLike F w v argument_taken es ds → SenseLike F w v t (call_by (placed_at u w ls x) f es a) (call_by (placed_at u v ls x) g ds b)
      called_like t ls x (same_maps e) f g h hs = record { core = core_call_like t.need false f g h hs; more = λ _. maps_by hs e }
      called_like t ls x (same_helper {h = i}) f g h hs = helper_like t i hs
      called_like t ls x (same_stack_member {x = y} e) f g h hs = ends_like t (stack_call_like y hs e)
      called_like t ls x _ f g h hs = called_plain t f g h hs

      pub call_sense_like : (t : Take) (ls : List Text) (x : Text) (optional : Bool) (f g : Sense) {es ds : List Sense} → SenseLike F w v (take (the_callee optional) true) f g → SensesLike F w v argument_taken es ds → SenseLike F w v t (call_sense (placed_at u w ls x) optional f es) (call_sense (placed_at u v ls x) optional g ds)
      call_sense_like t ls x true f g h hs = plain_sense_like t (core_call_like t.need true f g h.core hs)
      call_sense_like t ls x false f g h hs = called_like t ls x (h.more refl) f g h.core hs

      static_like : (t : Take) (ls : List Text) (x y : Text) {m k : Meaning} → Like F w v t.need m k → Alike F (SameTarget F) m.reference k.reference → SenseLike F w v t (static_member (placed_at u w ls x) y m) (static_member (placed_at u v ls x) y k)
      static_like t ls x y h r = record { core = h; more = λ _. said_member u y r }

      spread_or_nothing : (b : Bool) (y : Text) → MoreLike F (if b then helper_call y else nothing_more) (if b then helper_call y else nothing_more)
      spread_or_nothing true y = same_helper
      spread_or_nothing false y = same_nothing

      helper_member_like : (o : Supply) (t : Take) (y : Text) {m k : Meaning} → Like F w v t.need m k → SenseLike F w v t (helper_member o y m) (helper_member o y k)
      helper_member_like spread_by_global t y h = record { core = h; more = λ _. spread_or_nothing (is_word (codes "objectSpread2") y) y }
      helper_member_like no_helpers t y h = record { core = literal_like F w v same t.need (own (helper y)) other; more = λ _. same_helper }
      helper_member_like by_global t y h = record { core = literal_like F w v same t.need (own (helper y)) other; more = λ _. same_helper }
      helper_member_like (by_import z) t y h = record { core = literal_like F w v same t.need (own (helper y)) other; more = λ _. same_helper }
      helper_member_like (by_require z) t y h = record { core = literal_like F w v same t.need (own (helper y)) other; more = λ _. same_helper }

      named_by : (t : Take) (ls : List Text) (x y : Text) (b c : Bool) → c ≡ b → {m k : Meaning} → Like F w v t.need m k → Alike F (SameTarget F) m.reference k.reference → SenseLike F w v t (if b then helper_member u y m else static_member (placed_at u w ls x) y m) (if c then helper_member u y k else static_member (placed_at u v ls x) y k)
      named_by t ls x y b c e h r = rw e (pick t b (helper_member_like u t y h) (static_like t ls x y h r))

      named_like : (t : Take) (ls : List Text) (x y z : Text) {m k : Meaning} → Like F w v t.need m k → Alike F (SameTarget F) m.reference k.reference → SenseLike F w v t (named_member (placed_at u w ls x) y z m) (named_member (placed_at u v ls x) y z k)
      named_like t ls x y z h r = named_by t ls x z (is_helper_text z && is_global w u y) (is_helper_text z && is_global v u y) (ap (λ (b : Bool). is_helper_text z && b) (global_same u (seen_supply u told) y)) h r

      member_by_like : (t : Take) (ls : List Text) (x : Text) {a b : More} → MoreLike F a b → (f g : Form) (m k : Meaning) → Like F w v t.need m k → Alike F (SameTarget F) m.reference k.reference → SenseLike F w v t (member_by (placed_at u w ls x) a f g m) (member_by (placed_at u v ls x) b f g k)
      member_by_like t ls x (same_keys e) f (word y) m k h r = record { core = h; more = λ _. keys_member y e (is_word (codes "map") y) }
      member_by_like t ls x (same_keys e) (word o) _ m k h r = plain_sense_like t h
      member_by_like t ls x (same_keys e) _ _ m k h r = plain_sense_like t h
      member_by_like t ls x same_nothing (word z) (word y) m k h r = named_like t ls x z y h r
      member_by_like t ls x same_nothing _ (word y) m k h r = static_like t ls x y h r
      member_by_like t ls x same_nothing _ _ m k h r = plain_sense_like t h
      member_by_like t ls x _ (word z) (word y) m k h r = named_like t ls x z y h r
      member_by_like t ls x _ _ (word y) m k h r = static_like t ls x y h r
      member_by_like t ls x _ _ _ m k h r = plain_sense_like t h

      pub member_sense_like : (t : Take) (ls : List Text) (x : Text) (a b : Bool) {e e' : Sense} → SenseLike F w v (take (object_need true b) true) e e' → (k k' : Sense) {m n : Meaning} → Like F w v t.need m n → Alike F (SameTarget F) m.reference n.reference → Like F w v (key_need a) k.core k'.core →
          SenseLike F w v t (member_sense (placed_at u w ls x) a b e k m) (member_sense (placed_at u v ls x) a b e' k' n)
      member_sense_like t ls x false false {e = e} {e' = e'} h k k' {m = m} {n = n} f r g = rw (h.core.form refl, g.form refl) (member_by_like t ls x (h.more refl) e.core.form k.core.form m n f r)
      member_sense_like t ls x false true h k k' f r g = plain_sense_like t f
      member_sense_like t ls x true b h k k' f r g = plain_sense_like t f

  pub form_weak : (b marked : Bool) (m k : Meaning) → Like F w v (object_need true marked) m k → Like F w v (object_need b marked) m k
  form_weak b marked m k h = record { evaluation = h.evaluation; form = λ _. h.form refl }

  -- declarations

  used_where_like : (b : Bool) → (b ≡ true → StackSeen F) → {f g : Putter} → PutterLike F f g → PutterLike F (used_where b f) (used_where b g)
  used_where_like true q h u = then_alike F (used_alike F quiet (q refl) u) h
  used_where_like false q h u = h u

  pub head_aims_like : (o : Supply) (ls : List Text) (x : Text) → (is_word (codes "using") x ≡ true → StackSeen F) → {e d : Sense} → SenseLike F w v target_taken e d → MoreLike F (head_aims (placed_at o w ls x) e) (head_aims (placed_at o v ls x) d)
  head_aims_like o ls x q h = same_heads (bind_alike F (putter_like true h) (λ f g e. returns_putter F (used_where_like (is_word (codes "using") x) q e)))

  pub using_like : StackSeen F → {e d : Sense} → SenseLike F w v target_taken e d → {a b : Sense} → SenseLike F w v value_taken a b →
      Alike F Equal (e.core.reference >>= λ r. value w a.core >>= used >>= λ u. initialise u r) (d.core.reference >>= λ r. value v b.core >>= used >>= λ u. initialise u r)
  using_like q h g = bind_alike F h.core.evaluation (λ r i e. then_alike F (then_alike F g.core.evaluation (used_alike F quiet q)) (λ u. initialise_alike F u e))

  declarator_plain : (t : Take) {e d : Sense} → SenseLike F w v target_taken e d → {a b : Sense} → SenseLike F w v value_taken a b → (m k : Meaning) → Like F w v t.need m k → (c : Bool) → (c ≡ true → StackSeen F) →
      SenseLike F w v t (if c then ends (e.core.reference >>= λ r. value w a.core >>= used >>= λ u. initialise u r) else plain_sense m) (if c then ends (d.core.reference >>= λ r. value v b.core >>= used >>= λ u. initialise u r) else plain_sense k)
  declarator_plain t h g m k f true q = ends_like t (using_like (q refl) h g)
  declarator_plain t h g m k f false q = plain_sense_like t f

  pub declarator_like_by : (o : Supply) (t : Take) (ls : List Text) (x : Text) → (is_word (codes "using") x ≡ true → StackSeen F) → {y z : More} → MoreLike F y z → {e d : Sense} → SenseLike F w v target_taken e d → {a b : Sense} → SenseLike F w v value_taken a b → (m k : Meaning) → Like F w v t.need m k →
      SenseLike F w v t (declarator_by (placed_at o w ls x) y e a m) (declarator_by (placed_at o v ls x) z d b k)
  declarator_like_by o t ls x q (same_aims i) h g m k f = ends_like t (then_alike F g.core.evaluation (λ u. put_alike_then F i u))
  declarator_like_by o t ls x q (same_keys i) h g m k f = ends_like t (return_alike F undefined)
  declarator_like_by o t ls x q same_nothing h g m k f = declarator_plain t h g m k f (is_word (codes "using") x) q
  declarator_like_by o t ls x q _ h g m k f = declarator_plain t h g m k f (is_word (codes "using") x) q

  pub first_more_like : {t : Take} {es ds : List Sense} → t.more ≡ true → SensesLike F w v t es ds → MoreLike F (first_more es) (first_more ds)
  first_more_like e no_sense = same_nothing
  first_more_like e (sense_and h hs) = h.more e

  pub property_like : (t : Take) (binding computed : Bool) {k k' e d : Sense} → SenseLike F w v (key_taken computed) k k' → SenseLike F w v target_taken e d → SenseLike F w v t (property_aims binding w computed k e) (property_aims binding v computed k' d)
  property_like t binding computed {k = k} h g = rw (excluded_same computed h) (only_like t (same_member (property_alike F (key_like computed h) (excluded_text computed k) (putter_like binding g))))
