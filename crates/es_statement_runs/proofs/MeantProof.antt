-- A program that means something never ends without meaning.
use Rattle.std.proofs.Common.{◌≡◌, refl, sym, subst, List, [], ◌∷◌, ap}
use Rattle.std.specs.Prelude.{ℕ, zero, suc, Bool, true, false, not, ◌&&◌, ◌||◌, Option, Some, None, codes, bytes_eq, if◌then◌else◌}
use Rattle.es_tree.specs.Words.{Text}
use Rattle.es_tree.specs.Names.{flag_at, first_text as first}
use Rattle.es_tree.specs.Scopes.{Declared}
use Rattle.es_tree.specs.Tree.{Tree, node, Label, Fields, done, ◌then◌, Field, missing, one, many, statements, Trees, empty, ◌before◌}
use Rattle.es_tree.specs.declared.ast_type.AstType.{AstType}
use Rattle.es_tree.specs.declared.ast_type.AstType.TheVariants.{Program, Directive, BlockStatement, EmptyStatement, DebuggerStatement, ExpressionStatement, VariableDeclaration, VariableDeclarator, ThrowStatement, IfStatement, ForStatement, ForInStatement, ForOfStatement, WhileStatement, DoWhileStatement, BreakStatement, ContinueStatement, LabeledStatement, SwitchStatement, SwitchCase, TryStatement, CatchClause, ImportDeclaration, ImportSpecifier, ImportDefaultSpecifier, ImportNamespaceSpecifier, ExportNamedDeclaration, ExportDefaultDeclaration, ExportAllDeclaration, Identifier, ThisExpression, NullLiteral, BooleanLiteral, NumericLiteral, BigIntLiteral, StringLiteral, RegExpLiteral, TemplateLiteral, TemplateElement, TaggedTemplateExpression, ArrayExpression, SpreadElement, ObjectExpression, ObjectProperty, UnaryExpression, UpdateExpression, BinaryExpression, LogicalExpression, ConditionalExpression, AssignmentExpression, SequenceExpression, MemberExpression, CallExpression, NewExpression, ChainExpression, ParenthesizedExpression, MetaProperty, ObjectPattern, PatternProperty, ArrayPattern, AssignmentPattern, RestElement, ObjectTarget, TargetProperty, ArrayTarget, TargetWithDefault, TargetRest}
use Rattle.es_runs.specs.Machine.{Value, Values, M, ◌>>=◌, return, stop, ask, is_true}
use Rattle.es_runs.specs.Machine.Stop.{breaks, continues}
use Rattle.es_runs.specs.Machine.Value.{undefined, own}
use Rattle.es_runs.specs.Machine.OwnValue.{helper}
use Rattle.es_runs.specs.Core.{World, Binding, meaning_of, flag, flag_after, unary_class, second}
use Rattle.es_runs.specs.Core.Binding.{changeable, constant, silent}
use Rattle.es_runs.specs.Core.Silent.{helper_name, keys_name}
use Rattle.es_runs.specs.Core.Form.{word}
use Rattle.es_statement_runs.specs.Scopes.{are_program_names}
use Rattle.es_statement_runs.specs.Names.{is_word, own_names, own_use, names_of_all}
use Rattle.es_statement_runs.specs.Helpers.{Supply}
use Rattle.es_statement_runs.specs.Helpers.Supply.{no_helpers, by_global, by_import, by_require, spread_by_global}
use Rattle.es_statement_runs.specs.Senses.{Sense, Portion, Place, core_parts, key_items, static_text}
use Rattle.es_statement_runs.specs.Senses.Portion.{alone}
use Rattle.es_statement_runs.specs.StatementParts.{for_each}
use Rattle.es_statement_runs.specs.Kinds.{sense_of, sense, senses, portion, portions, inside, label_in, scope_by}
use Rattle.es_statement_runs.specs.Places.{placed_at}
use Rattle.es_statement_runs.specs.Meant.{Exits, no_exits, Role, Spot, nature, serves, Slot, Slots, slots, spots, as_role, as_statement, loop_exits, switch_exits, labelled_exits, first_at, is_said, value_slot, labels_in, word_in, named_label, has_value, is_meant_at, are_meant, is_meant_field, all_meant, is_label, bound_role}
use Rattle.es_statement_runs.specs.Meant.Slot.{required, optional, absent, listed, nonempty, a_key, passed, labelled_by}
use Rattle.es_statement_runs.specs.Meant.Slots.{no_slot, slot, repeated}
use Rattle.es_statement_runs.specs.Meant.Role.{a_value, a_target, a_head}
use Rattle.es_statement_runs.specs.Meant.Nature.{value_like}
use Rattle.es_statement_runs.proofs.Fine.{Fine, Means, Any, weaker, from_cuts, return_fine, stop_fine, then_fine, choice_fine, ask_fine, value_fine, plain_fine, order_fine}
use Rattle.es_statement_runs.proofs.FineStatements.{stack_where_fine, in_scope_fine, outside_fine, looped_fine, go_on_fine, labelled_fine, each_fine, switched_fine, collected_fine, default_put_fine, property_fine, object_fine, array_fine}
use Rattle.es_statement_runs.proofs.SilentEntries.{Entries, both_entries, list_entries}
use Rattle.es_statement_runs.proofs.SilentEntries.Entries.{no_entry, entry_and}
use Rattle.es_statement_runs.proofs.MeantKinds.{Valued, Gives, quiet, quiet_putter, putter_fine, head_fine, member_fine, new_fine, unary_fine, binary_fine, logical_fine, conditional_fine, sequence_fine, assignment_fine, update_fine, declarator_fine, chain_fine, tagged_fine, ended, assigned_valued}
use Rattle.es_runs.specs.Machine.{Stop, Result, State, set_cell}
use Rattle.es_runs.specs.Machine.Stop.{throws, faults, waits, uncallable, cut, unknown, out_of_turns}
use Rattle.es_runs.specs.Runs.{binding_of}
use Rattle.es_statement_runs.proofs.Fine.Fine.{fine_gives, fine_stops}
use Rattle.es_statement_runs.specs.Kinds.{entered, found, kind_in}
use Rattle.es_statement_runs.specs.Meant.{fits_head, is_label_there}
use Rattle.es_statement_runs.proofs.MeantSenses.{both_left, both_right, not_so, HelperFree, Sound, AllSound, PartSound, PartsSound, as_value, as_name, as_place, as_pattern, as_default, as_rest, as_property, as_definition, as_handler, as_import, as_clause, as_part, quiet_all, all_cores, all_definitions, all_members, all_clauses, optional_fine, optional_statement, test_fine, begun_fine, items_fine, elements_fine, member_plain, unary_plain, number_plain, name_said}
use Rattle.es_statement_runs.proofs.MeantSenses.AllSound.{none_sound, one_sound}
use Rattle.es_statement_runs.proofs.MeantSenses.PartSound.{required_part, missing_part, present_part, absent_part, listed_part, nonempty_part, key_part, passed_part, no_label, label_part}
use Rattle.es_statement_runs.proofs.MeantSenses.PartsSound.{no_parts, part_and, end_parts, repeat_part}
use Rattle.es_statement_runs.proofs.MeantParts.{plainly, value_up, declaration_sound, unvalued_sound, valued_sound, member_sound, call_sound, KeyAt, key_found, key_value_fine, template_sound, template_up, tagged_form, spread_sound, parens_sound, keys_more, handled_fine, last_fine, parameter_fine, case_fine, asked_fine, space_more, break_allowed, continue_allowed}
use Rattle.es_statement_runs.proofs.MeantParts.KeyAt.{key_at}
use Rattle.std.proofs.lemmas.Slice.Eq.{bytes_eq-Decides}
use Rattle.es_runs.specs.Machine.{Move}
use Rattle.es_runs.specs.Machine.State.{state}
use Rattle.es_statement_runs.specs.Helpers.{entry, silent_names, helper_names, program_list}
use Rattle.es_statement_runs.specs.Runs.{silent_or, program_world, world_where, place_of, outcome, start_cells}
use Rattle.es_statement_runs.specs.Runs.Outcome.{meaningless}
use Rattle.es_statement_runs.specs.Names.{declared_at_top}
use Rattle.es_runs.specs.Core.{Silent}
use Rattle.es_runs.specs.Runs.{scope_of}
use Rattle.es_statement_runs.specs.Laws.{LawMeant}

module _ (S : Supply) (r : Role) (E : Exits) (u : Bool) (ts : List (Option Text)) (fs : List Bool) (ds : List Declared) (n b : Bool) (ns ls : List Text) (x : Text) (w v : World) (free_of : HelperFree w) where
  abbrev C : Spot
  C = record { role = r; exits = E; uses = u }

  abbrev Serves : AstType → Type 0
  Serves k = serves (nature k) r ≡ true

  abbrev Said : AstType → Type 0
  Said k = is_said S C k ts fs b (names_of_all ds) ns x ≡ true

  abbrev Parts : AstType → List Portion → Type 0
  Parts k xs = PartsSound S (slots k fs b ns) (spots C k ts n b ns ls) xs

  abbrev Result_of : AstType → List Portion → Type 0
  Result_of k xs = Gives S u E r (sense_of (placed_at S w ls x) k ts fs (scope_by ds n) v (meaning_of w k ts fs (core_parts xs)) xs)

  declarator_kind : (a : Bool) → b ≡ a → {xs : List Portion} → Serves VariableDeclarator → Said VariableDeclarator → PartsSound S (slot required (slot (value_slot a) no_slot)) (first_at (as_role (bound_role r a) u) (as_role a_value u)) xs → Result_of VariableDeclarator xs
  declarator_kind true e k q (part_and (required_part {e = id} h) (part_and (required_part {e = d} g) no_parts)) =
      valued_sound S u E w ls x id (both_left _ _ q) d (quiet g.reference) _ (λ i. declarator_fine w id.core d.core i (quiet g.reference)) r k (subst (λ (z : Bool). fits_head r z ≡ true) e (both_right _ _ q)) h
  declarator_kind false e k q (part_and (required_part {e = id} h) (part_and absent_part no_parts)) = unvalued_sound S u E w ls x id (both_left _ _ q) r k h

  definition_kind : {y : Portion} {e : Sense} → Serves ObjectProperty → KeyAt S u E (flag_at 2 fs) y → Sound S (as_role a_value u) e → Result_of ObjectProperty (y ∷ alone e ∷ [])
  definition_kind {e = e} k (key_at {e = d} h) g = as_definition S u E r k (then_fine (key_value_fine S u E w (flag_at 2 fs) d h) (λ z _. then_fine (value_fine w e.core (quiet g.reference)) (λ t _. return_fine tt)))

  pattern_property : {y : Portion} (e : Sense) → Serves PatternProperty → KeyAt S u E (flag_at 1 fs) y → Sound S (as_role (a_target true) u) e → Result_of PatternProperty (y ∷ alone e ∷ [])
  pattern_property e k (key_at {e = d} h) g = as_property S u E r k (property_fine _ (key_value_fine S u E w (flag_at 1 fs) d h) (quiet_putter (putter_fine true w e g)))

  target_property : {y : Portion} (e : Sense) → Serves TargetProperty → KeyAt S u E (flag_at 1 fs) y → Sound S (as_role (a_target false) u) e → Result_of TargetProperty (y ∷ alone e ∷ [])
  target_property e k (key_at {e = d} h) g = as_property S u E r k (property_fine _ (key_value_fine S u E w (flag_at 1 fs) d h) (quiet_putter (putter_fine false w e g)))

  member_kind : {o : Sense} {y : Portion} → Serves MemberExpression → Said MemberExpression → Valued S u (no_exits E.cuts) o → KeyAt S u E (flag fs) y → Result_of MemberExpression (alone o ∷ y ∷ [])
  member_kind {o = o} k q h (key_at {e = d} g) = as_place S u E r k _ (member_sound S u E w ls x _ (member_plain S w (flag fs) (flag_after fs) o.core.form d.core.form)
      (member_fine w (flag fs) (flag_after fs) o.core d.core q (weaker (λ z p. p) (from_cuts E) h.reference) (λ i. quiet (g i).reference)) (flag fs) (flag_after fs) o d h.form)

  labelled_kind : (ms : List Text) → ns ≡ ms → {l : Portion} {body : Sense} {c : Spot} → serves value_like r ≡ true → is_label_there ms ≡ true → PartSound S (labelled_by ms) c l → Sound S (as_statement (labelled_exits ms E) u) body → Result_of LabeledStatement (l ∷ alone body ∷ [])
  labelled_kind [] i k q no_label h = absurd (cc q)
  labelled_kind (t ∷ []) i {body = body} k q (label_part f) h = rw f (as_value S u E r k (ended (λ s z. labelled_fine t (value_fine w body.core h.reference s z))))
  labelled_kind (t ∷ (y ∷ ys)) i k q l h = elim l [ ]

  loop_kind : (closes : Bool) (l e body : Sense) → are_program_names (names_of_all ds) ≡ true → Sound S (as_role a_head (n || u)) l → Sound S (as_role a_value (not n && u)) e → Sound S (as_statement (loop_exits ls E) (n || u)) body → Means u E Any (for_each (placed_at S w ls x) v (scope_by ds n) closes l e body)
  loop_kind closes l e body q h g f = then_fine (outside_fine n u (names_of_all ds) q (value_fine v e.core (quiet g.reference))) (λ z _. then_fine (ask_fine _)
      (λ it _. each_fine ls closes (λ y. in_scope_fine n u (names_of_all ds) q (then_fine (quiet_putter (head_fine v l h)) (λ put p. then_fine (p y) (λ _ _. value_fine v body.core f.reference)))) it))

  kind_sound : (k : AstType) → Serves k → Said k → {xs : List Portion} → Parts k xs → Result_of k xs
  kind_sound Program k q (part_and (listed_part d) (part_and (listed_part bs) no_parts)) = as_value S u E r k (ended (begun_fine S (n || u) E u bs (stack_where_fine n u (order_fine w (all_cores S (n || u) E bs)))))
  kind_sound Directive k q ps = as_part S u E r k _
  kind_sound BlockStatement k q (part_and (listed_part bs) no_parts) = as_value S u E r k (ended (in_scope_fine n u (names_of_all ds) q (order_fine v (all_cores S (n || u) E bs))))
  kind_sound EmptyStatement k q ps = as_value S u E r k (ended (return_fine tt))
  kind_sound DebuggerStatement k q ps = as_value S u E r k (ended (return_fine tt))
  kind_sound ExpressionStatement k q (part_and (required_part {e = e} h) no_parts) = as_value S u E r k (plainly S u E _ tt (plain_fine (value_fine w e.core (quiet h.reference))))
  kind_sound VariableDeclaration k q (part_and (nonempty_part {e = d} h g) no_parts) = declaration_sound S u E w r k (bytes_eq (first ts) (codes "let")) d h g
  kind_sound VariableDeclarator k q ps = declarator_kind b refl k q ps
  kind_sound ThrowStatement k q (part_and (required_part {e = e} h) no_parts) = as_value S u E r k (ended (then_fine (value_fine w e.core (quiet h.reference)) (λ z _. stop_fine _ refl)))
  kind_sound IfStatement k q (part_and (required_part {e = t} h) (part_and (required_part {e = a} g) (part_and f no_parts))) =
      as_value S u E r k (ended (then_fine (value_fine w t.core (quiet h.reference)) (λ z _. choice_fine (is_true z) (value_fine w a.core g.reference) (optional_statement S u E w undefined f))))
  kind_sound ForStatement k q (part_and i (part_and t (part_and p (part_and (required_part {e = body} h) no_parts)))) =
      as_value S u E r k (ended (in_scope_fine n u (names_of_all ds) q (then_fine (optional_fine S (n || u) E v undefined i) (λ _ _. looped_fine E ls (test_fine S (n || u) (switch_exits E) v t) (value_fine v body.core h.reference) (optional_fine S (n || u) (switch_exits E) v undefined p)))))
  kind_sound ForInStatement k q (part_and (required_part {e = l} h) (part_and (required_part {e = e} g) (part_and (required_part {e = body} f) no_parts))) = as_value S u E r k (ended (loop_kind false l e body q h g f))
  kind_sound ForOfStatement k q (part_and (required_part {e = l} h) (part_and (required_part {e = e} g) (part_and (required_part {e = body} f) no_parts))) = as_value S u E r k (ended (loop_kind true l e body q h g f))
  kind_sound WhileStatement k q (part_and (required_part {e = t} h) (part_and (required_part {e = body} g) no_parts)) =
      as_value S u E r k (ended (looped_fine E ls (then_fine (value_fine w t.core (quiet h.reference)) (λ z _. return_fine tt)) (value_fine w body.core g.reference) (return_fine tt)))
  kind_sound DoWhileStatement k q (part_and (required_part {e = body} g) (part_and (required_part {e = t} h) no_parts)) =
      as_value S u E r k (ended (looped_fine E ls (return_fine {a = true} tt) (value_fine w body.core g.reference) (then_fine (value_fine w t.core (quiet h.reference)) (λ z _. go_on_fine E z))))
  kind_sound BreakStatement k q (part_and l no_parts) = as_value S u E r k (ended (stop_fine _ (break_allowed S u E l q)))
  kind_sound ContinueStatement k q (part_and l no_parts) = as_value S u E r k (ended (stop_fine _ (continue_allowed S u E l q)))
  kind_sound SwitchStatement k q (part_and (required_part {e = d} h) (part_and (listed_part cs) no_parts)) =
      as_value S u E r k (ended (then_fine (value_fine w d.core (quiet h.reference)) (λ z _. in_scope_fine n u (names_of_all ds) q (switched_fine E z (all_clauses S (n || u) (switch_exits E) cs)))))
  kind_sound SwitchCase k q (part_and t (part_and (listed_part bs) no_parts)) = as_clause S u E r k _ (case_fine S u E w t bs)
  kind_sound TryStatement k q (part_and (required_part {e = e} h) (part_and c (part_and f no_parts))) = as_value S u E r k (ended (last_fine S u E w f (handled_fine S u E c (value_fine w e.core h.reference))))
  kind_sound CatchClause k q (part_and c (part_and (required_part {e = body} h) no_parts)) = as_handler S u E r k (λ y. in_scope_fine n u (names_of_all ds) q (then_fine (parameter_fine S (n || u) E v c y) (λ _ _. value_fine v body.core h.reference)))
  kind_sound ImportDeclaration k q (part_and (listed_part is) (part_and (key_part {e = e}) rest)) = as_value S u E r k (record { form = tt; more = λ z. asked_fine S u E z w (static_text e) is; reference = plain_fine (return_fine tt) })
  kind_sound ImportSpecifier k q (part_and key_part (part_and key_part no_parts)) = as_import S u E r k _ _ q
  kind_sound ImportDefaultSpecifier k q ps = as_import S u E r k _ _ q
  kind_sound ImportNamespaceSpecifier k q ps = as_import S u E r k _ _ q
  kind_sound ExportNamedDeclaration k q (part_and d rest) = as_value S u E r k (ended (optional_fine S u E w undefined d))
  kind_sound ExportDefaultDeclaration k q (part_and (required_part {e = e} h) no_parts) = as_value S u E r k (ended (then_fine (value_fine w e.core (quiet h.reference)) (λ z _. return_fine tt)))
  kind_sound ExportAllDeclaration k q (part_and (passed_part {x = y}) (part_and (key_part {e = e}) rest)) = as_value S u E r k (record { form = tt; more = space_more S u E y (static_text e); reference = plain_fine (return_fine tt) })
  kind_sound Identifier k q ps = as_name S u E r k _ (record { form = not_so _ (both_right _ _ q); more = name_said S u E S w free_of (first ts); reference = return_fine (not_so _ (both_left _ _ q)) })
  kind_sound ThisExpression k q ps = as_value S u E r k (plainly S u E _ tt (return_fine tt))
  kind_sound NullLiteral k q ps = as_value S u E r k (record { form = tt; more = tt; reference = return_fine tt })
  kind_sound BooleanLiteral k q ps = as_value S u E r k (record { form = tt; more = tt; reference = return_fine tt })
  kind_sound NumericLiteral k q ps = as_value S u E r k (record { form = number_plain S (second ts); more = tt; reference = return_fine tt })
  kind_sound BigIntLiteral k q ps = as_value S u E r k (record { form = tt; more = tt; reference = return_fine tt })
  kind_sound StringLiteral k q ps = as_value S u E r k (record { form = tt; more = tt; reference = return_fine tt })
  kind_sound RegExpLiteral k q ps = as_value S u E r k (ended (ask_fine _))
  kind_sound TemplateLiteral k q (part_and (listed_part qs) (part_and (listed_part es) no_parts)) = template_sound S u E w r k _ _ _ (quiet_all S u E es)
  kind_sound TemplateElement k q ps = as_part S u E r k _
  kind_sound TaggedTemplateExpression k q (part_and (required_part {e = t} h) (part_and (required_part {e = e} g) no_parts)) =
      as_value S u E r k (plainly S u E _ (tagged_form S u E w t e.more) (tagged_fine w t e.more (quiet h.reference) (template_up S u E e.more g)))
  kind_sound ArrayExpression k q {xs = xs} ps = as_value S u E r k (record { form = tt; more = keys_more S u E (key_items w xs); reference = plain_fine (then_fine (items_fine S u E w _ (λ i. refl) ps) (λ z _. ask_fine _)) })
  kind_sound SpreadElement k q (part_and (required_part {e = e} h) no_parts) = spread_sound S u E w r k e (quiet h.reference)
  kind_sound ObjectExpression k q (part_and (listed_part es) no_parts) = as_value S u E r k (record { form = tt; more = tt; reference = plain_fine (then_fine (collected_fine (all_definitions S u E es)) (λ z _. ask_fine _)) })
  kind_sound ObjectProperty k q (part_and y (part_and (required_part g) no_parts)) = definition_kind k (key_found S u E (flag_at 2 fs) y) g
  kind_sound UnaryExpression k q (part_and (required_part {e = e} h) no_parts) = as_value S u E r k (plainly S u E _ (unary_plain S w (unary_class (first ts)) (first ts) e.core) (unary_fine w (first ts) e.core (quiet h.reference)))
  kind_sound UpdateExpression k q (part_and (required_part {e = e} h) no_parts) = as_value S u E r k (plainly S u E _ tt (update_fine w (first ts) (flag fs) e.core (quiet h.reference)))
  kind_sound BinaryExpression k q (part_and (required_part {e = l} h) (part_and (required_part {e = e} g) no_parts)) = as_value S u E r k (plainly S u E _ tt (binary_fine w (first ts) l.core e.core (quiet h.reference) (quiet g.reference)))
  kind_sound LogicalExpression k q (part_and (required_part {e = l} h) (part_and (required_part {e = e} g) no_parts)) = as_value S u E r k (plainly S u E _ tt (logical_fine w (first ts) l.core e.core (quiet h.reference) (quiet g.reference)))
  kind_sound ConditionalExpression k q (part_and (required_part {e = t} h) (part_and (required_part {e = a} g) (part_and (required_part {e = e} f) no_parts))) =
      as_value S u E r k (plainly S u E _ tt (conditional_fine w t.core a.core e.core (quiet h.reference) (quiet g.reference) (quiet f.reference)))
  kind_sound AssignmentExpression k q (part_and (required_part {e = l} h) (part_and (required_part {e = e} g) no_parts)) =
      as_value S u E r k (value_up S u E _ (assigned_valued w (first ts) l e g.reference _ tt (λ i. assignment_fine w (first ts) l.core e.core i g.reference) h))
  kind_sound SequenceExpression k q (part_and (listed_part es) no_parts) = as_value S u E r k (plainly S u E _ tt (sequence_fine w (quiet_all S u E es)))
  kind_sound MemberExpression k q (part_and (required_part h) (part_and y no_parts)) = member_kind k q h (key_found S u E (flag fs) y)
  kind_sound CallExpression k q (part_and (required_part {e = f} h) (part_and (listed_part {es = es} g) no_parts)) =
      as_value S u E r k (call_sound S u E w ls x f es (weaker (λ z p. p) (from_cuts E) h.reference) (quiet_all S u E g) (flag fs) q h.more)
  kind_sound NewExpression k q (part_and (required_part {e = f} h) (part_and (listed_part g) no_parts)) = as_value S u E r k (plainly S u E _ tt (new_fine w f.core (quiet h.reference) (quiet_all S u E g)))
  kind_sound ChainExpression k q (part_and (required_part {e = e} h) no_parts) = as_value S u E r k (plainly S u E _ tt (chain_fine w e.core h.reference))
  kind_sound ParenthesizedExpression k q (part_and (required_part {e = e} h) no_parts) = parens_sound S u E r k e h
  kind_sound MetaProperty k q ps = as_value S u E r k (ended (meta q))
    where
      meta : is_word (codes "import") (first ts) ≡ true → Means u E Any (if is_word (codes "import") (first ts) then ask (Rattle.es_runs.specs.Machine.Question.of_statement Rattle.es_runs.specs.Machine.StatementQuestion.meta) else stop unknown)
      meta h = rw h (ask_fine _)
  kind_sound ObjectPattern k q (part_and (listed_part ms) no_parts) = as_pattern S u E true r k (return_fine (object_fine (all_members S u E ms)))
  kind_sound ObjectTarget k q (part_and (listed_part ms) no_parts) = as_pattern S u E false r k (return_fine (object_fine (all_members S u E ms)))
  kind_sound PatternProperty k q (part_and y (part_and (required_part {e = e} g) no_parts)) = pattern_property e k (key_found S u E (flag_at 1 fs) y) g
  kind_sound TargetProperty k q (part_and y (part_and (required_part {e = e} g) no_parts)) = target_property e k (key_found S u E (flag_at 1 fs) y) g
  kind_sound ArrayPattern k q ps = as_pattern S u E true r k (return_fine (array_fine (elements_fine S u E true w _ (λ i. refl) ps)))
  kind_sound ArrayTarget k q ps = as_pattern S u E false r k (return_fine (array_fine (elements_fine S u E false w _ (λ i. refl) ps)))
  kind_sound AssignmentPattern k q (part_and (required_part {e = e} h) (part_and (required_part {e = d} g) no_parts)) =
      as_default S u E true r k (then_fine (quiet_putter (putter_fine true w e h)) (λ put p. return_fine (default_put_fine (value_fine w d.core (quiet g.reference)) p)))
  kind_sound TargetWithDefault k q (part_and (required_part {e = e} h) (part_and (required_part {e = d} g) no_parts)) =
      as_default S u E false r k (then_fine (quiet_putter (putter_fine false w e h)) (λ put p. return_fine (default_put_fine (value_fine w d.core (quiet g.reference)) p)))
  kind_sound RestElement k q (part_and (required_part {e = e} h) no_parts) = as_rest S u E r k (quiet_putter (putter_fine true w e h))
  kind_sound TargetRest k q (part_and (required_part {e = e} h) no_parts) = as_rest S u E r k (quiet_putter (putter_fine false w e h))
  kind_sound LabeledStatement k q (part_and l (part_and (required_part {e = body} h) no_parts)) = labelled_kind ns refl k q l h
  kind_sound _ k q ps = absurd (cc k)

-- A LABEL

label_found : (m : Text) (t : Tree) → is_label m t ≡ true → (p : Place) → (sense p t).core.form ≡ word m
label_found m (node Identifier l fs) h p = ap word ((bytes_eq-Decides (first l.texts) m).0 h)
label_found m _ h p = absurd (cc h)

-- WHERE THE FIELDS STAND

binding_not : (kind t : Text) → binding_of kind ≡ silent (helper_name t) → ⊥
binding_not kind t e = at (bytes_eq kind (codes "const")) e
  where
    at : (b : Bool) → (if b then constant else changeable) ≡ silent (helper_name t) → ⊥
    at true e = absurd (cc e)
    at false e = absurd (cc e)

pub entered_free : (S : Supply) (ds : List Declared) (w : World) (ls : List Text) (x : Text) → HelperFree w → HelperFree (entered ds (placed_at S w ls x)).world
entered_free S ds w ls x h = record { none_named = λ y t e. at (kind_in ds y) y t e }
  where
    at : (o : Option Text) (y t : Text) → found o y w.scope y ≡ silent (helper_name t) → ⊥
    at None y t e = h.none_named y t e
    at (Some kind) y t e = binding_not kind t e

pub data Spotted (S : Supply) : Place → List Text → Text → Type 0 where
  spotted : {w : World} {ls : List Text} {x : Text} → HelperFree w → Spotted S (placed_at S w ls x) ls x

inside_spotted : (S : Supply) (k : AstType) (l : Label) (fs : Fields) (w : World) (ls : List Text) (x : Text) → HelperFree w → (i : ℕ) → Spotted S (inside (placed_at S w ls x) k l.texts (own_names k fs) (label_in k fs) i) (labels_in k (named_label k fs) ls) (word_in k l.texts)
inside_spotted S BlockStatement l fs w ls x h i = spotted (entered_free S _ w ls x h)
inside_spotted S ForStatement l fs w ls x h i = spotted (entered_free S _ w ls x h)
inside_spotted S ForInStatement l fs w ls x h i = spotted (entered_free S _ w ls x h)
inside_spotted S ForOfStatement l fs w ls x h i = spotted (entered_free S _ w ls x h)
inside_spotted S CatchClause l fs w ls x h i = spotted (entered_free S _ w ls x h)
inside_spotted S SwitchStatement l fs w ls x h (suc i) = spotted (entered_free S _ w ls x h)
inside_spotted S SwitchStatement l fs w ls x h zero = spotted h
inside_spotted S LabeledStatement l fs w ls x h i = spotted h
inside_spotted S VariableDeclaration l fs w ls x h i = spotted h
inside_spotted S _ l fs w ls x h i = spotted h

-- EVERY NODE

module _ (S : Supply) where
  mutual
    pub tree_sound : (t : Tree) (c : Spot) (ls : List Text) (x : Text) → is_meant_at S c ls x t ≡ true → {p : Place} → Spotted S p ls x → Sound S c (sense p t)
    tree_sound (node k l fs) c ls x h (spotted {w = w} f) =
        let b1 : Bool = serves (nature k) c.role in
        let b2 : Bool = is_said S c k l.texts l.flags (has_value k fs) (names_of_all (own_names k fs)) (named_label k fs) x in
        let b3 : Bool = are_meant S (slots k l.flags (has_value k fs) (named_label k fs)) (spots c k l.texts (own_use k fs) (has_value k fs) (named_label k fs) ls) (labels_in k (named_label k fs) ls) (word_in k l.texts) fs in
        let rest : (b2 && b3) ≡ true = both_right b1 (b2 && b3) h in
        kind_sound S c.role c.exits c.uses l.texts l.flags (own_names k fs) (own_use k fs) (has_value k fs) (named_label k fs) ls x w (inside (placed_at S w ls x) k l.texts (own_names k fs) (label_in k fs) 1).world f k (both_left b1 (b2 && b3) h) (both_left b2 b3 rest)
        (fields_sound fs (slots k l.flags (has_value k fs) (named_label k fs)) (spots c k l.texts (own_use k fs) (has_value k fs) (named_label k fs) ls) (labels_in k (named_label k fs) ls) (word_in k l.texts) (both_right b2 b3 rest) (inside (placed_at S w ls x) k l.texts (own_names k fs) (label_in k fs)) (λ i. inside_spotted S k l fs w ls x f i))

    fields_sound : (fs : Fields) (ss : Slots) (at : ℕ → Spot) (ls : List Text) (x : Text) → are_meant S ss at ls x fs ≡ true → (places : ℕ → Place) → ((i : ℕ) → Spotted S (places i) ls x) → PartsSound S ss at (portions places fs)
    fields_sound done no_slot at ls x h places g = no_parts
    fields_sound done (slot s ss) at ls x h places g = absurd (cc h)
    fields_sound done (repeated s) at ls x h places g = end_parts
    fields_sound (f then fs) no_slot at ls x h places g = absurd (cc h)
    fields_sound (f then fs) (slot s ss) at ls x h places g = part_and (field_sound f s (at zero) ls x (both_left _ _ h) (g zero)) (fields_sound fs ss (λ i. at (suc i)) ls x (both_right _ _ h) (λ i. places (suc i)) (λ i. g (suc i)))
    fields_sound (f then fs) (repeated s) at ls x h places g = repeat_part (field_sound f s (at zero) ls x (both_left _ _ h) (g zero)) (fields_sound fs (repeated s) (λ i. at (suc i)) ls x (both_right _ _ h) (λ i. places (suc i)) (λ i. g (suc i)))

    field_sound : (f : Field) (s : Slot) (c : Spot) (ls : List Text) (x : Text) → is_meant_field S s c ls x f ≡ true → {p : Place} → Spotted S p ls x → PartSound S s c (portion p f)
    field_sound (one t) required c ls x h g = required_part (tree_sound t c ls x h g)
    field_sound missing optional c ls x h g = missing_part
    field_sound (one t) optional c ls x h g = present_part (tree_sound t c ls x h g)
    field_sound missing absent c ls x h g = absent_part
    field_sound (many ts) listed c ls x h g = listed_part (trees_sound ts c ls x h g)
    field_sound (statements ts) listed c ls x h g = listed_part (trees_sound ts c ls x h g)
    field_sound (many (t before ts)) nonempty c ls x h g = nonempty_part (tree_sound t c ls x (both_left _ _ h) g) (trees_sound ts c ls x (both_right _ _ h) g)
    field_sound (one t) a_key c ls x h g = key_part
    field_sound f passed c ls x h g = passed_part
    field_sound missing (labelled_by []) c ls x h g = no_label
    field_sound (one t) (labelled_by (m ∷ [])) c ls x h {p = p} g = label_part (label_found m t h p)
    field_sound missing (labelled_by (m ∷ [])) c ls x h g = absurd (cc h)
    field_sound missing (labelled_by (m ∷ (y ∷ ys))) c ls x h g = absurd (cc h)
    field_sound (many ts) (labelled_by (m ∷ [])) c ls x h g = absurd (cc h)
    field_sound (many ts) (labelled_by (m ∷ (y ∷ ys))) c ls x h g = absurd (cc h)
    field_sound (statements ts) (labelled_by (m ∷ [])) c ls x h g = absurd (cc h)
    field_sound (statements ts) (labelled_by (m ∷ (y ∷ ys))) c ls x h g = absurd (cc h)
    field_sound (one t) (labelled_by (m ∷ (y ∷ ys))) c ls x h g = absurd (cc h)
    field_sound _ _ c ls x h g = absurd (cc h)

    trees_sound : (ts : Trees) (c : Spot) (ls : List Text) (x : Text) → all_meant S c ls x ts ≡ true → {p : Place} → Spotted S p ls x → AllSound S c (senses p ts)
    trees_sound empty c ls x h g = none_sound
    trees_sound (t before ts) c ls x h g = one_sound (tree_sound t c ls x (both_left _ _ h) g) (trees_sound ts c ls x (both_right _ _ h) g)

-- THE NAMES OF THE TOP: where none stands for a helper, some may stand for keys

abbrev IsKeys : Silent → Type 0
IsKeys (helper_name h) = ⊥
IsKeys (keys_name vs) = Unit {0}

silent_keys : (u : Supply) (p : Tree) → helper_names u p ≡ [] → Entries IsKeys (silent_names u p)
silent_keys no_helpers p h = no_entry
silent_keys spread_by_global p h = no_entry
silent_keys by_global p h = both_entries IsKeys (subst (Entries IsKeys) (sym h) no_entry) (list_entries IsKeys (λ vs k. tt) by_global (helper_names by_global p) p (program_list p))
silent_keys (by_import m) p h = both_entries IsKeys (subst (Entries IsKeys) (sym h) no_entry) (list_entries IsKeys (λ vs k. tt) (by_import m) (helper_names (by_import m) p) p (program_list p))
silent_keys (by_require m) p h = both_entries IsKeys (subst (Entries IsKeys) (sym h) no_entry) (list_entries IsKeys (λ vs k. tt) (by_require m) (helper_names (by_require m) p) p (program_list p))

scope_not : (ds : List Declared) (x t : Text) → scope_of ds x ≡ silent (helper_name t) → ⊥
scope_not [] x t e = absurd (cc e)
scope_not (d ∷ ds) x t e = at (bytes_eq x d.name) (λ i. scope_not ds x t i) e
  where
    at : (b : Bool) → (scope_of ds x ≡ silent (helper_name t) → ⊥) → (if b then binding_of d.kind else scope_of ds x) ≡ silent (helper_name t) → ⊥
    at true g i = binding_not d.kind t i
    at false g i = g i

entry_not : {es : List (Text × Silent)} → Entries IsKeys es → (b : Binding) (x t : Text) → (b ≡ silent (helper_name t) → ⊥) → silent_or (entry es x) b ≡ silent (helper_name t) → ⊥
entry_not no_entry b x t g e = g e
entry_not (entry_and {s = helper_name t} k h) b x u g e = absurd k
entry_not (entry_and {x = y} {s = keys_name vs} {es = es} k h) b x t g e = at (bytes_eq y x) (λ i. entry_not h b x t g i) e
  where
    at : (z : Bool) → (silent_or (entry es x) b ≡ silent (helper_name t) → ⊥) → silent_or (if z then Some (keys_name vs) else entry es x) b ≡ silent (helper_name t) → ⊥
    at true k i = absurd (cc i)
    at false k i = k i

pub top_free : (counts : Bool) (u : Supply) (p : Tree) (this : Value) → helper_names u p ≡ [] → HelperFree (world_where counts u this p)
top_free counts u p this h = record { none_named = λ x t e. entry_not (silent_keys u p h) (scope_of (declared_at_top p) x) x t (λ i. scope_not (declared_at_top p) x t i) e }

-- THE LAW

never : {A : Value → Type 0} {r : Result Value} → Fine false (no_exits false) A r → outcome r ≡ meaningless → ⊥
never (fine_gives q h) e = absurd (cc e)
never (fine_stops {w = throws v} k h) e = absurd (cc e)
never (fine_stops {w = faults v} k h) e = absurd (cc e)
never (fine_stops {w = waits} k h) e = absurd (cc e)
never (fine_stops {w = uncallable} k h) e = absurd (cc e)
never (fine_stops {w = out_of_turns} k h) e = absurd (cc e)
never (fine_stops {w = cut} k h) e = absurd (cc k)
never (fine_stops {w = unknown} k h) e = absurd (cc k)
never (fine_stops {w = breaks []} k h) e = absurd (cc k)
never (fine_stops {w = breaks (l ∷ ls)} k h) e = absurd (cc k)
never (fine_stops {w = continues []} k h) e = absurd (cc k)
never (fine_stops {w = continues (l ∷ ls)} k h) e = absurd (cc k)

pub law_meant_proof : LawMeant
law_meant_proof u n p h g this moves = never {A = Any} (value_fine (program_world u this p) (sense (place_of u this p) p).core (tree_sound u p (as_role a_value false) [] [] h (spotted (top_free true u p this g))).reference (state (start_cells n (declared_at_top p)) moves []) tt)
