-- Each kind's sense stops only as is allowed, and so a program that means something never ends without meaning.
use Rattle.std.proofs.Common.{◌≡◌, refl, sym, subst, List, [], ◌∷◌}
use Rattle.std.specs.Prelude.{Bool, true, false, not, ◌&&◌, ◌||◌, Option, Some, None, codes, if◌then◌else◌}
use Rattle.es_tree.specs.Words.{Text}
use Rattle.es_tree.specs.Tree.{◌then◌}
use Rattle.es_runs.specs.Machine.{Value, Values, M, ◌>>=◌, return, stop, ask, is_true}
use Rattle.es_runs.specs.Machine.Stop.{breaks, continues}
use Rattle.es_runs.specs.Machine.Value.{undefined, own}
use Rattle.es_runs.specs.Machine.OwnValue.{helper}
use Rattle.es_runs.specs.Core.{World, Binding, Reference, Meaning, Form, value, values, gives_value, as_plain, in_order, call_of, meaning_of, flag, flag_after, literal, member_form, static_form, pow_form, is_math, void_form, number_form, UnaryClass, unary_by, unary_class, second, is_free}
use Rattle.es_runs.specs.Core.Binding.{free, changeable, constant, silent}
use Rattle.es_runs.specs.Core.Silent.{helper_name, keys_name}
use Rattle.es_runs.specs.Core.Form.{word, null_form, zero_form, void_zero, math_pow, member_call, member_bind, other}
use Rattle.es_runs.specs.Core.UnaryClass.{typeof_class, delete_class, void_class, not_class, asked_class}
use Rattle.es_statement_runs.specs.Scopes.{is_own_cell}
use Rattle.es_statement_runs.specs.Stacks.{used}
use Rattle.es_statement_runs.specs.Names.{is_word}
use Rattle.es_statement_runs.specs.Patterns.{Putter, templated_value}
use Rattle.es_statement_runs.specs.Helpers.{Supply, is_helper_text}
use Rattle.es_statement_runs.specs.Helpers.Supply.{no_helpers, by_global, by_import, by_require, spread_by_global}
use Rattle.es_statement_runs.specs.Senses.{More, Sense, Portion, Place, cores, core_parts, ends, plain_sense, key_value, putter, said_of, said_in, definitions_in, members_in, element_of, elements_in, object_aims, array_aims, array_items, key_items, keys_where, array_literal, template_meaning, text_alone, raw_texts, cooked_texts, template_literal, only_more, static_text}
use Rattle.es_statement_runs.specs.Senses.More.{nothing_more, literal_text, aims, heads, member_aims, rest_aims, defines, spreads, object_of, keys_of, maps, quasi, template_of, clause_of, handles, imports, begins, helper_call, stack_member}
use Rattle.es_statement_runs.specs.Senses.Portion.{gap, alone, rows}
use Rattle.es_statement_runs.specs.Calls.{call_sense, call_by, core_call, required_or, maps_keys, mapped, member_sense, member_by, named_member, static_member, said_of_member, is_stack_key, is_global}
use Rattle.es_statement_runs.specs.StatementParts.{declarator_by, head_aims, labels_of, case_clause, bound_parameter, handled, handler_of, at_last, asked_by, asked_name, asked_names, namespace_begins}
use Rattle.es_statement_runs.specs.Places.{placed_at}
use Rattle.es_statement_runs.specs.Meant.{Exits, allowed, no_exits, Role, Spot, serves, as_role, as_statement, is_supply_word, key_slot, declarator_role, bound_role, parens_role}
use Rattle.es_statement_runs.specs.Meant.Slot.{optional, labelled_by}
use Rattle.es_statement_runs.specs.Meant.Role.{a_value, a_place, a_target, an_element, a_definition, a_head, a_declarator, a_head_declarator, a_handler, a_template, an_import}
use Rattle.es_statement_runs.specs.Meant.Nature.{parens_like, declaration_like, declarator_like, spread_like, template_like}
use Rattle.es_statement_runs.proofs.Fine.{Means, Any, IsSeen, IsPlace, IsNamed, place_seen, weaker, from_none, from_cuts, return_fine, then_fine, ask_fine, set_fine, value_fine, plain_fine, AllFine, values_fine, order_fine}
use Rattle.es_statement_runs.proofs.Fine.AllFine.{one_fine}
use Rattle.es_statement_runs.proofs.FineStatements.{used_fine, ClauseFine, caught_fine, finalized_fine, copied_fine}
use Rattle.es_statement_runs.proofs.FineStatements.ClauseFine.{when_fine, default_fine}
use Rattle.es_statement_runs.proofs.MeantKinds.{FormFine, ValueMore, PlaceMore, Valued, Placed, TargetOf, HeadsOf, HeadOf, DeclaratorMore, HandlerOf, TemplateOf, ImportOf, Gives, quiet, quiet_putter, putter_fine, used_where_fine, call_value_fine, declared_fine, stack_call_fine, ended}
use Rattle.es_runs.specs.Machine.{Stop, Result, State, set_cell}
use Rattle.es_runs.specs.Machine.Stop.{throws, faults, waits, uncallable, cut, unknown, out_of_turns}
use Rattle.es_statement_runs.proofs.Fine.{initialise_fine}
use Rattle.es_statement_runs.specs.Meant.{fits_head}
use Rattle.es_statement_runs.proofs.MeantSenses.{Sound, AllSound, PartSound, all_cores, all_declarators}
use Rattle.es_statement_runs.proofs.MeantSenses.AllSound.{none_sound, one_sound}
use Rattle.es_statement_runs.proofs.MeantSenses.PartSound.{required_part, missing_part, present_part, key_part, no_label, label_part}

-- KINDS THAT SERVE AS SEVERAL THINGS

module _ (S : Supply) (u : Bool) (E : Exits) where
  pub plainly : (m : Meaning) → FormFine S m.form → Means u E IsSeen m.reference → Valued S u E (plain_sense m)
  plainly m f h = record { form = f; more = tt; reference = h }

  pub value_more : (x : More) → ValueMore u (no_exits false) x → ValueMore u E x
  value_more (helper_call t) h = absurd h
  value_more (stack_member x m) h = quiet h
  value_more (begins m) h = λ v. quiet (h v)
  value_more _ h = tt

  pub value_up : (e : Sense) → Valued S u (no_exits false) e → Valued S u E e
  value_up e h = record { form = h.form; more = value_more e.more h.more; reference = quiet h.reference }

  pub place_up : (e : Sense) → Placed S u (no_exits false) e → Placed S u E e
  place_up e h = record { form = h.form; more = up e.more h.more; reference = quiet h.reference }
    where
      up : (x : More) → PlaceMore u (no_exits false) x → PlaceMore u E x
      up nothing_more h = tt
      up (keys_of ks) h = tt
      up (maps ks) h = tt
      up (stack_member x m) h = quiet h
      up _ h = absurd h

  -- DECLARATIONS

  pub declarator_value_more : (x : More) → DeclaratorMore x → ValueMore u E x
  declarator_value_more nothing_more h = tt
  declarator_value_more (heads m) h = tt
  declarator_value_more _ h = absurd h

  pub heads_head : (x : More) (r : M Reference) → HeadsOf u (no_exits false) x → HeadOf u E x r
  heads_head (heads m) r h = quiet_putter h
  heads_head _ r h = absurd h

  pub declaration_sound : (w : World) (r : Role) → serves declaration_like r ≡ true → (lets : Bool) (d : Sense) {es : List Sense} → Sound S (as_role (declarator_role r) u) d → AllSound S (as_role (declarator_role r) u) es → Gives S u E r (record { core = gives_value (Rattle.es_runs.specs.Core.declared lets (d.core ∷ cores es)); more = d.more })
  declaration_sound w a_value k lets d h g = record { form = tt; more = declarator_value_more d.more h.0; reference = plain_fine (declared_fine w lets (one_fine {e = d.core} (quiet h.1) (all_declarators S u E g))) }
  declaration_sound w a_head k lets d h g = heads_head d.more _ h
  declaration_sound w _ k lets d h g = absurd (cc k)

  module _ (w : World) (ls : List Text) (x : Text) (id : Sense) (stacks : (not (is_word (codes "using") x) || u) ≡ true) where
    abbrev here : Place
    here = placed_at S w ls x

    pub unvalued_sound : (r : Role) → serves declarator_like r ≡ true → Sound S (as_role (bound_role r false) u) id → Gives S u E r (record { core = id.core; more = head_aims here id })
    unvalued_sound a_declarator k h = (tt, weaker (λ z q. place_seen z q) (from_none E) h.reference)
    unvalued_sound a_head_declarator k h = then_fine (quiet_putter (putter_fine true w id h)) (λ put q. return_fine (used_where_fine (is_word (codes "using") x) stacks q))
    unvalued_sound _ k h = absurd (cc k)

    module _ (e : Sense) (val : Means u E IsSeen e.core.reference) (m : Meaning) (mean : Means u E IsNamed id.core.reference → Means u E IsSeen m.reference) where
      abbrev Declares : Sense → Type 0
      Declares s = DeclaratorMore s.more × Means u E IsSeen s.core.reference

      taken : (g : Bool) → (not g || u) ≡ true → Means u E IsNamed id.core.reference → Declares (if g then ends (id.core.reference >>= λ r. value w e.core >>= used >>= λ v. Rattle.es_runs.specs.Core.initialise v r) else plain_sense m)
      taken true k h = (tt, plain_fine (then_fine h (λ r q. then_fine (then_fine (value_fine w e.core val) (λ v _. subst (λ (z : Bool). Means z E Any (used v)) (sym k) (used_fine v))) (λ v _. initialise_fine v r q))))
      taken false k h = (tt, mean h)

      by_target : (y : More) → TargetOf true u (no_exits false) y id.core.reference → Declares (declarator_by here y id e m)
      by_target (aims target) h = (tt, plain_fine (then_fine (value_fine w e.core val) (λ v _. then_fine (quiet_putter h) (λ put p. p v))))
      by_target (keys_of ks) h = (tt, plain_fine (return_fine tt))
      by_target nothing_more h = taken (is_word (codes "using") x) stacks (quiet h)
      by_target (maps ks) h = taken (is_word (codes "using") x) stacks (quiet h)
      by_target (stack_member y t) h = taken (is_word (codes "using") x) stacks (quiet h.1)
      by_target _ h = absurd h

      pub valued_sound : (r : Role) → serves declarator_like r ≡ true → fits_head r true ≡ true → Sound S (as_role (bound_role r true) u) id → Gives S u E r (declarator_by here id.more id e m)
      valued_sound a_declarator k f h = by_target id.more h
      valued_sound a_head_declarator k f h = absurd (cc f)
      valued_sound _ k f h = absurd (cc k)

  -- MEMBERS

  pub choice_more : (b : Bool) (x y : More) → PlaceMore u E x → PlaceMore u E y → PlaceMore u E (if b then x else y)
  choice_more true x y h g = h
  choice_more false x y h g = g

  pub said_member : (o : Supply) (x : Text) (r : M Reference) → Means u E IsPlace r → PlaceMore u E (said_of_member o x r)
  said_member no_helpers x r h = tt
  said_member spread_by_global x r h = tt
  said_member by_global x r h = choice_more (is_stack_key x) _ _ h tt
  said_member (by_import m) x r h = choice_more (is_stack_key x) _ _ h tt
  said_member (by_require m) x r h = choice_more (is_stack_key x) _ _ h tt

  pub not_global : (o : Supply) (w : World) (x : Text) → is_supply_word o x ≡ false → is_global w o x ≡ false
  not_global no_helpers w x h = refl
  not_global spread_by_global w x h = rw h refl
  not_global by_global w x h = rw h refl
  not_global (by_import m) w x h = refl
  not_global (by_require m) w x h = refl

  pub and_false : (a : Bool) → (a && false) ≡ false
  and_false true = refl
  and_false false = refl

  module _ (w : World) (ls : List Text) (x : Text) (m : Meaning) (form : FormFine S m.form) (place : Means u E IsPlace m.reference) where
    abbrev there : Place
    there = placed_at S w ls x

    static_sound : (y : Text) → Placed S u E (static_member there y m)
    static_sound y = record { form = form; more = said_member S y m.reference place; reference = place }

    named_sound : (o y : Text) → is_supply_word S o ≡ false → Placed S u E (named_member there o y m)
    named_sound o y h = rw (not_global S w o h, and_false (is_helper_text y)) (static_sound y)

    other_sound : Placed S u E (plain_sense m)
    other_sound = record { form = form; more = tt; reference = place }

    member_by_sound : (e : More) (f g : Form) → FormFine S f → Placed S u E (member_by there e f g m)
    member_by_sound (keys_of ks) _ (word y) h = record { form = form; more = choice_more (is_word (codes "map") y) _ _ tt tt; reference = place }
    member_by_sound _ (word o) (word y) h = named_sound o y h
    member_by_sound _ _ (word y) h = static_sound y
    member_by_sound _ _ _ h = other_sound

    pub member_sound : (computed optional : Bool) (o k : Sense) → FormFine S o.core.form → Placed S u E (member_sense there computed optional o k m)
    member_sound false false o k h = member_by_sound o.more o.core.form k.core.form h
    member_sound true b o k h = other_sound
    member_sound false true o k h = other_sound

  -- CALLS

  pub required_sound : (o : Option Text) (e : Sense) → Valued S u E e → Valued S u E (required_or o e)
  required_sound (Some h) e g = record { form = tt; more = tt; reference = return_fine tt }
  required_sound None e g = g

  pub value_choice : (b : Bool) (x y : More) → ValueMore u E x → ValueMore u E y → ValueMore u E (if b then x else y)
  value_choice true x y h g = h
  value_choice false x y h g = g

  pub mapped_more : (x : More) (ks : M Values) → ValueMore u E (mapped x ks)
  mapped_more (helper_call h) ks = value_choice (is_word (codes "toPropertyKey") h) _ _ tt tt
  mapped_more _ ks = tt

  pub maps_more : (es : List Sense) (ks : M Values) → ValueMore u E (maps_keys es ks)
  maps_more [] ks = tt
  maps_more (e ∷ []) ks = mapped_more e.more ks
  maps_more (e ∷ d ∷ es) ks = tt

  module _ (w : World) (ls : List Text) (x : Text) (f : Sense) (es : List Sense) (callee : Means u E IsSeen f.core.reference) (all : AllFine u E (cores es)) where
    abbrev caller : Place
    caller = placed_at S w ls x

    core_call_fine : (optional : Bool) → (not optional || E.cuts) ≡ true → Valued S u E (plain_sense (core_call w optional f es))
    core_call_fine marked c = record { form = tt; more = tt; reference = plain_fine (call_value_fine w marked c _ callee all) }

    call_by_sound : (y : More) → ValueMore u (no_exits E.cuts) y → Valued S u E (call_by caller f es y)
    call_by_sound (helper_call t) h = absurd h
    call_by_sound (maps ks) h = record { form = tt; more = maps_more es ks; reference = (core_call_fine false refl).reference }
    call_by_sound (stack_member y m) h = ended (stack_call_fine w y es all (weaker (λ z q. q) (from_cuts E) h))
    call_by_sound _ h = required_sound _ _ (core_call_fine false refl)

    pub call_sound : (optional : Bool) → (not optional || E.cuts) ≡ true → ValueMore u (no_exits E.cuts) f.more → Valued S u E (call_sense caller optional f es)
    call_sound true c h = core_call_fine true c
    call_sound false c h = call_by_sound f.more h

  -- KEYS

  pub data KeyAt (b : Bool) : Portion → Type 0 where
    key_at : {e : Sense} → (b ≡ true → Valued S u (no_exits false) e) → KeyAt b (alone e)

  pub key_found : (b : Bool) {x : Portion} → PartSound S (key_slot b) (as_role a_value u) x → KeyAt b x
  key_found true (required_part h) = key_at (λ _. h)
  key_found false key_part = key_at (λ e. absurd (cc e))

  pub key_value_fine : (w : World) (b : Bool) (k : Sense) → (b ≡ true → Valued S u (no_exits false) k) → Means u E Any (key_value w b k)
  key_value_fine w true k h = value_fine w k.core (quiet (h refl).reference)
  key_value_fine w false k h = return_fine tt

  -- TEMPLATES, SPREADS, PARENTHESES

  pub template_fine : (w : World) (t : Option Text) (raws cooked : Values) {es : List Meaning} → AllFine u E es → Valued S u E (record { core = template_meaning w t raws cooked es; more = template_of raws cooked t (values w es) })
  template_fine w (Some t) raws cooked h = record { form = tt; more = tt; reference = return_fine tt }
  template_fine w None raws cooked h = record { form = tt; more = tt; reference = plain_fine (then_fine (values_fine w h) (λ vs _. ask_fine _)) }

  pub template_sound : (w : World) (r : Role) → serves template_like r ≡ true → (t : Option Text) (raws cooked : Values) {es : List Meaning} → AllFine u E es → Gives S u E r (record { core = template_meaning w t raws cooked es; more = template_of raws cooked t (values w es) })
  template_sound w a_value k t raws cooked h = template_fine w t raws cooked h
  template_sound w a_template k t raws cooked h = values_fine w h
  template_sound w _ k t raws cooked h = absurd (cc k)

  pub template_up : (x : More) → TemplateOf u (no_exits false) x → TemplateOf u E x
  template_up (template_of raws cooked t es) h = quiet h
  template_up _ h = absurd h

  pub tagged_form : (w : World) (tag : Sense) (x : More) → FormFine S (Rattle.es_statement_runs.specs.Senses.tagged_template w tag x).form
  tagged_form w tag (template_of raws cooked t es) = tt
  tagged_form w tag _ = tt

  pub spread_sound : (w : World) (r : Role) → serves spread_like r ≡ true → (e : Sense) → Means u E IsSeen e.core.reference → Gives S u E r (record { core = gives_value (value w e.core >>= λ v. ask (Rattle.es_runs.specs.Machine.Question.of_statement (Rattle.es_runs.specs.Machine.StatementQuestion.spread v))); more = spreads (value w e.core >>= λ v. Rattle.es_statement_runs.specs.Patterns.copied v Rattle.es_runs.specs.Machine.Values.none) })
  spread_sound w a_value k e h = record { form = tt; more = tt; reference = plain_fine (then_fine (value_fine w e.core h) (λ v _. ask_fine _)) }
  spread_sound w a_definition k e h = then_fine (value_fine w e.core h) (λ v _. copied_fine v _)
  spread_sound w _ k e h = absurd (cc k)

  pub parens_sound : (r : Role) → serves parens_like r ≡ true → (e : Sense) → Sound S (as_role (parens_role r) u) e → Gives S u E r (plain_sense (Rattle.es_runs.specs.Core.parenthesized e.core))
  parens_sound a_value k e h = record { form = tt; more = tt; reference = quiet h.reference }
  parens_sound a_place k e h = record { form = tt; more = tt; reference = quiet h.reference }
  parens_sound (a_target false) k e h = quiet h.reference
  parens_sound (an_element false) k e h = quiet h.reference
  parens_sound a_head k e h = quiet h.reference
  parens_sound _ k e h = absurd (cc k)

  pub keys_more : (o : Option (M Values)) → ValueMore u E (keys_where o)
  keys_more (Some ks) = tt
  keys_more None = tt

  -- STATEMENTS

  pub handler_fine : (x : More) → HandlerOf u E x → (v : Value) → Means u E Any (handler_of x v)
  handler_fine (handles f) h v = h v
  handler_fine _ h v = absurd h

  pub handled_fine : {x : Portion} → PartSound S optional (record { role = a_handler; exits = E; uses = u }) x → {m : M Value} → Means u E Any m → Means u E Any (handled x m)
  handled_fine missing_part g = g
  handled_fine (present_part {e = e} h) g = λ s k. caught_fine (handler_fine e.more h) (g s k)

  pub last_fine : (w : World) {x : Portion} → PartSound S optional (as_statement E u) x → {m : M Value} → Means u E Any m → Means u E Any (at_last w x m)
  last_fine w missing_part g = g
  last_fine w (present_part {e = e} h) g = λ s k. finalized_fine (value_fine w e.core h.reference) (g s k)

  pub parameter_fine : (w : World) {x : Portion} → PartSound S optional (as_role (a_target true) u) x → (v : Value) → Means u E Any (bound_parameter w x v)
  parameter_fine w missing_part v = return_fine tt
  parameter_fine w (present_part {e = e} h) v = then_fine (quiet_putter (putter_fine true w e h)) (λ put p. p v)

  pub case_fine : (w : World) {x : Portion} → PartSound S optional (as_role a_value u) x → {es : List Sense} → AllSound S (as_statement E u) es → ClauseFine u E (case_clause w x es)
  case_fine w missing_part g = default_fine (order_fine w (all_cores S u E g))
  case_fine w (present_part {e = e} h) g = when_fine (value_fine w e.core (quiet h.reference)) (order_fine w (all_cores S u E g))

  pub asked_by_fine : (v : Bool) (b : Binding) (m x y : Text) → is_own_cell y ≡ false → Means v E Any (asked_by b m x y)
  asked_by_fine v (silent (helper_name t)) m x y h = set_fine y _ h
  asked_by_fine v (silent (keys_name ks)) m x y h = then_fine (ask_fine _) (λ z _. set_fine y z h)
  asked_by_fine v free m x y h = then_fine (ask_fine _) (λ z _. set_fine y z h)
  asked_by_fine v changeable m x y h = then_fine (ask_fine _) (λ z _. set_fine y z h)
  asked_by_fine v constant m x y h = then_fine (ask_fine _) (λ z _. set_fine y z h)

  pub asked_name_fine : (v : Bool) (w : World) (m : Text) (x : More) → ImportOf x → Means v E Any (asked_name w m x)
  asked_name_fine v w m (imports x y) h = asked_by_fine v (w.scope y) m x y h
  asked_name_fine v w m _ h = absurd h

  pub asked_fine : (v : Bool) (w : World) (m : Text) {es : List Sense} → AllSound S (as_role an_import u) es → Means v E Any (asked_names w m es)
  asked_fine v w m none_sound = return_fine tt
  asked_fine v w m (one_sound {e = e} h g) = then_fine (asked_name_fine v w m e.more h) (λ _ _. asked_fine v w m g)

  pub space_more : (x : Portion) (m : Text) → ValueMore u E (namespace_begins x m)
  space_more (alone e) m = λ v. then_fine (ask_fine _) (λ z _. return_fine tt)
  space_more gap m = tt
  space_more (rows es) m = tt

  pub break_allowed : {ns : List Text} {c : Spot} {x : Portion} → PartSound S (labelled_by ns) c x → allowed E (breaks ns) ≡ true → allowed E (breaks (labels_of x)) ≡ true
  break_allowed no_label h = h
  break_allowed (label_part f) h = rw f h

  pub continue_allowed : {ns : List Text} {c : Spot} {x : Portion} → PartSound S (labelled_by ns) c x → allowed E (continues ns) ≡ true → allowed E (continues (labels_of x)) ≡ true
  continue_allowed no_label h = h
  continue_allowed (label_part f) h = rw f h
