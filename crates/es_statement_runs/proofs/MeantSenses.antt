-- A program that means something never ends without meaning.
use Rattle.std.proofs.Common.{◌≡◌, refl, subst, List, [], ◌∷◌, ◌++◌}
use Rattle.std.specs.Prelude.{ℕ, zero, suc, Bool, true, false, not, ◌&&◌, codes, bytes_eq, if◌then◌else◌}
use Rattle.es_tree.specs.Words.{Text}
use Rattle.es_tree.specs.Tree.{◌then◌}
use Rattle.es_runs.specs.Machine.{Value, M}
use Rattle.es_runs.specs.Core.{World, Binding, Reference, Meaning, Form, member_form, pow_form, is_math, void_form, number_form, UnaryClass, unary_by}
use Rattle.es_runs.specs.Core.Binding.{free, changeable, constant, silent}
use Rattle.es_runs.specs.Core.Silent.{helper_name, keys_name}
use Rattle.es_runs.specs.Core.Form.{word, null_form, zero_form, void_zero, math_pow, member_call, member_bind, other}
use Rattle.es_runs.specs.Core.UnaryClass.{typeof_class, delete_class, void_class, not_class, asked_class}
use Rattle.es_statement_runs.specs.Scopes.{is_own_cell}
use Rattle.es_statement_runs.specs.Statements.{Clause}
use Rattle.es_statement_runs.specs.Patterns.{Putter}
use Rattle.es_statement_runs.specs.Helpers.{Supply}
use Rattle.es_statement_runs.specs.Helpers.Supply.{no_helpers, by_global, by_import, by_require, spread_by_global}
use Rattle.es_statement_runs.specs.Senses.{More, Sense, Portion, Place, cores, core_parts, ends, plain_sense, key_value, putter, said_of, said_in, definitions_in, members_in, element_of, elements_in, object_aims, array_aims, array_items, key_items, keys_where, array_literal, template_meaning, text_alone, raw_texts, cooked_texts, template_literal, only_more, static_text}
use Rattle.es_statement_runs.specs.Senses.More.{nothing_more, literal_text, aims, heads, member_aims, rest_aims, defines, spreads, object_of, keys_of, maps, quasi, template_of, clause_of, handles, imports, begins, helper_call, stack_member}
use Rattle.es_statement_runs.specs.Senses.Portion.{gap, alone, rows}
use Rattle.es_statement_runs.specs.StatementParts.{optional_value, for_test, clause_by, clauses, imported_as, first_asked, begun}
use Rattle.es_statement_runs.specs.Meant.{Exits, no_exits, Role, Spot, serves, Slot, Slots, as_role, as_statement, is_some_name}
use Rattle.es_statement_runs.specs.Meant.Slot.{required, optional, absent, listed, nonempty, a_key, passed, labelled_by}
use Rattle.es_statement_runs.specs.Meant.Slots.{no_slot, slot, repeated}
use Rattle.es_statement_runs.specs.Meant.Role.{a_value, a_place, a_target, an_element, a_member, a_definition, a_head, a_declarator, a_handler, an_import, a_clause, a_part}
use Rattle.es_statement_runs.specs.Meant.Nature.{value_like, name_like, member_like, definition_like, property_like, rest_like, handler_like, import_like, clause_like, part_like, pattern_like, default_like}
use Rattle.es_statement_runs.proofs.Fine.{Means, Any, IsSeen, IsPlace, IsNamed, place_seen, named_place, weaker, return_fine, then_fine, value_fine, AllFine}
use Rattle.es_statement_runs.proofs.Fine.AllFine.{none_fine, one_fine}
use Rattle.es_statement_runs.proofs.FineStatements.{PutterFine, ClauseFine, ClausesFine, MemberFine, MembersFine, ElementFine, ElementsFine, DefinitionsFine}
use Rattle.es_statement_runs.proofs.FineStatements.ClausesFine.{no_clauses, clause_and}
use Rattle.es_statement_runs.proofs.FineStatements.MemberFine.{keyed_fine, remaining_fine}
use Rattle.es_statement_runs.proofs.FineStatements.MembersFine.{no_members, member_and}
use Rattle.es_statement_runs.proofs.FineStatements.ElementFine.{elision_fine, takes_fine, takes_rest_fine}
use Rattle.es_statement_runs.proofs.FineStatements.ElementsFine.{no_elements, element_and}
use Rattle.es_statement_runs.proofs.FineStatements.DefinitionsFine.{no_definitions, definition_and}
use Rattle.es_statement_runs.proofs.MeantKinds.{FormFine, ValueMore, PlaceMore, Valued, Placed, Named, IsPut, TargetOf, ElementOf, MemberOf, DefinitionOf, HeadOf, ClauseOf, Gives, quiet, quiet_putter, putter_fine}

pub both_left : (a b : Bool) → a && b ≡ true → a ≡ true
both_left true b h = refl
both_left false b h = absurd (cc h)

pub both_right : (a b : Bool) → a && b ≡ true → b ≡ true
both_right true b h = h
both_right false b h = absurd (cc h)

pub not_so : (a : Bool) → not a ≡ true → a ≡ false
not_so true h = absurd (cc h)
not_so false h = refl

-- WHERE A NODE STANDS

pub record HelperFree (w : World) : Type 0 where
  pub none_named : (x h : Text) → w.scope x ≡ silent (helper_name h) → ⊥

-- WHAT IS KNOWN OF THE FIELDS

abbrev pub Sound : Supply → Spot → Sense → Type 0
Sound S c e = Gives S c.uses c.exits c.role e

pub data AllSound (S : Supply) (c : Spot) : List Sense → Type 0 where
  none_sound : AllSound S c []
  one_sound : {e : Sense} {es : List Sense} → Sound S c e → AllSound S c es → AllSound S c (e ∷ es)

pub data PartSound (S : Supply) : Slot → Spot → Portion → Type 0 where
  required_part : {c : Spot} {e : Sense} → Sound S c e → PartSound S required c (alone e)
  missing_part : {c : Spot} → PartSound S optional c gap
  present_part : {c : Spot} {e : Sense} → Sound S c e → PartSound S optional c (alone e)
  absent_part : {c : Spot} → PartSound S absent c gap
  listed_part : {c : Spot} {es : List Sense} → AllSound S c es → PartSound S listed c (rows es)
  nonempty_part : {c : Spot} {e : Sense} {es : List Sense} → Sound S c e → AllSound S c es → PartSound S nonempty c (rows (e ∷ es))
  key_part : {c : Spot} {e : Sense} → PartSound S a_key c (alone e)
  passed_part : {c : Spot} {x : Portion} → PartSound S passed c x
  no_label : {c : Spot} → PartSound S (labelled_by []) c gap
  label_part : {c : Spot} {t : Text} {e : Sense} → e.core.form ≡ word t → PartSound S (labelled_by (t ∷ [])) c (alone e)

pub data PartsSound (S : Supply) : Slots → (ℕ → Spot) → List Portion → Type 0 where
  no_parts : {at : ℕ → Spot} → PartsSound S no_slot at []
  part_and : {s : Slot} {ss : Slots} {at : ℕ → Spot} {x : Portion} {xs : List Portion} → PartSound S s (at zero) x → PartsSound S ss (λ i. at (suc i)) xs → PartsSound S (slot s ss) at (x ∷ xs)
  end_parts : {s : Slot} {at : ℕ → Spot} → PartsSound S (repeated s) at []
  repeat_part : {s : Slot} {at : ℕ → Spot} {x : Portion} {xs : List Portion} → PartSound S s (at zero) x → PartsSound S (repeated s) (λ i. at (suc i)) xs → PartsSound S (repeated s) at (x ∷ xs)

-- FORMS AND WHAT NAMES SAY

module _ (S : Supply) where
  choice_form : (b : Bool) (f g : Form) → FormFine S f → FormFine S g → FormFine S (if b then f else g)
  choice_form true f k h g = h
  choice_form false f k h g = g

  pow_plain : (w : World) (b : Bool) (f : Form) → FormFine S (pow_form w b f)
  pow_plain w false (word x) = choice_form (is_math w x) _ _ tt tt
  pow_plain w false null_form = tt
  pow_plain w false zero_form = tt
  pow_plain w false void_zero = tt
  pow_plain w false math_pow = tt
  pow_plain w false member_call = tt
  pow_plain w false member_bind = tt
  pow_plain w false other = tt
  pow_plain w true f = tt

  pub member_plain : (w : World) (b o : Bool) (f g : Form) → FormFine S (member_form w b o f g)
  member_plain w false o f (word p) = choice_form (bytes_eq p (codes "call")) _ _ tt (choice_form (bytes_eq p (codes "bind")) _ _ tt (choice_form (bytes_eq p (codes "pow")) _ _ (pow_plain w o f) tt))
  member_plain w false o f null_form = tt
  member_plain w false o f zero_form = tt
  member_plain w false o f void_zero = tt
  member_plain w false o f math_pow = tt
  member_plain w false o f member_call = tt
  member_plain w false o f member_bind = tt
  member_plain w false o f other = tt
  member_plain w true o f g = tt

  void_plain : (f : Form) → FormFine S (void_form f)
  void_plain zero_form = tt
  void_plain (word x) = tt
  void_plain null_form = tt
  void_plain void_zero = tt
  void_plain math_pow = tt
  void_plain member_call = tt
  void_plain member_bind = tt
  void_plain other = tt

  pub unary_plain : (w : World) (c : UnaryClass) (op : Text) (e : Meaning) → FormFine S (unary_by w c op e).form
  unary_plain w typeof_class op e = tt
  unary_plain w delete_class op e = tt
  unary_plain w void_class op e = void_plain e.form
  unary_plain w not_class op e = tt
  unary_plain w asked_class op e = tt

  pub number_plain : (t : Text) → FormFine S (number_form t)
  number_plain t = choice_form (bytes_eq t (codes "0")) _ _ tt tt

  binding_said : (u : Bool) (E : Exits) (w : World) → HelperFree w → (x : Text) (b : Binding) → w.scope x ≡ b → PlaceMore u E (said_of b)
  binding_said u E w h x free e = tt
  binding_said u E w h x changeable e = tt
  binding_said u E w h x constant e = tt
  binding_said u E w h x (silent (keys_name ks)) e = tt
  binding_said u E w h x (silent (helper_name t)) e = absurd (h.none_named x t e)

  pub name_said : (u : Bool) (E : Exits) (o : Supply) (w : World) → HelperFree w → (x : Text) → PlaceMore u E (said_in o (w.scope x))
  name_said u E no_helpers w h x = tt
  name_said u E spread_by_global w h x = tt
  name_said u E by_global w h x = binding_said u E w h x (w.scope x) refl
  name_said u E (by_import m) w h x = binding_said u E w h x (w.scope x) refl
  name_said u E (by_require m) w h x = binding_said u E w h x (w.scope x) refl

  place_value : (u : Bool) (E : Exits) (x : More) → PlaceMore u E x → ValueMore u E x
  place_value u E nothing_more h = tt
  place_value u E (keys_of ks) h = tt
  place_value u E (maps ks) h = tt
  place_value u E (stack_member x m) h = h
  place_value u E _ h = absurd h

-- WHAT A NODE SERVES AS

module _ (S : Supply) (u : Bool) (E : Exits) where
  pub as_value : (r : Role) → serves value_like r ≡ true → {e : Sense} → Valued S u E e → Gives S u E r e
  as_value a_value k h = h
  as_value _ k h = absurd (cc k)

  named_target : (b : Bool) (x : More) {m : M Reference} → PlaceMore u E x → Means u E IsNamed m → TargetOf b u E x m
  named_target b x h g = at x h (put b g)
    where
      put : (b : Bool) {m : M Reference} → Means u E IsNamed m → Means u E (IsPut b) m
      put true g = g
      put false g = weaker (λ r q. named_place r q) (λ w q. q) g

      at : (x : More) {m : M Reference} → PlaceMore u E x → Means u E (IsPut b) m → TargetOf b u E x m
      at nothing_more h g = g
      at (keys_of ks) h g = g
      at (maps ks) h g = g
      at (stack_member y m) h g = (h, g)
      at _ h g = absurd h

  placed_target : (x : More) {m : M Reference} → PlaceMore u E x → Means u E IsPlace m → TargetOf false u E x m
  placed_target nothing_more h g = g
  placed_target (keys_of ks) h g = g
  placed_target (maps ks) h g = g
  placed_target (stack_member y m) h g = (h, g)
  placed_target _ h g = absurd h

  target_element : (b : Bool) (x : More) (r : M Reference) → TargetOf b u E x r → ElementOf b u E x r
  target_element b (aims m) r h = h
  target_element b nothing_more r h = h
  target_element b (keys_of ks) r h = h
  target_element b (maps ks) r h = h
  target_element b (stack_member y m) r h = h
  target_element b _ r h = absurd h

  target_head : (x : More) (r : M Reference) → TargetOf false u E x r → HeadOf u E x r
  target_head (aims m) r h = h
  target_head nothing_more r h = h
  target_head (keys_of ks) r h = h
  target_head (maps ks) r h = h
  target_head (stack_member y m) r h = h
  target_head _ r h = absurd h

  pub seen : {m : M Reference} → Means u E IsPlace m → Means u E IsSeen m
  seen g = weaker (λ r q. place_seen r q) (λ w q. q) g

  placed_named : {m : M Reference} → Means u E IsNamed m → Means u E IsPlace m
  placed_named g = weaker (λ r q. named_place r q) (λ w q. q) g

  pub as_name : (r : Role) → serves name_like r ≡ true → (e : Sense) → Named S u E e → Gives S u E r e
  as_name a_value k e h = record { form = h.form; more = place_value S u E e.more h.more; reference = seen (placed_named h.reference) }
  as_name a_place k e h = record { form = h.form; more = h.more; reference = placed_named h.reference }
  as_name (a_target b) k e h = named_target b e.more h.more h.reference
  as_name (an_element b) k e h = target_element b e.more _ (named_target b e.more h.more h.reference)
  as_name a_head k e h = target_head e.more _ (named_target false e.more h.more h.reference)
  as_name _ k e h = absurd (cc k)

  pub as_place : (r : Role) → serves member_like r ≡ true → (e : Sense) → Placed S u E e → Gives S u E r e
  as_place a_value k e h = record { form = h.form; more = place_value S u E e.more h.more; reference = seen h.reference }
  as_place a_place k e h = h
  as_place (a_target false) k e h = placed_target e.more h.more h.reference
  as_place (an_element false) k e h = target_element false e.more _ (placed_target e.more h.more h.reference)
  as_place a_head k e h = target_head e.more _ (placed_target e.more h.more h.reference)
  as_place _ k e h = absurd (cc k)

  pub as_pattern : (b : Bool) (r : Role) → serves (pattern_like b) r ≡ true → {m : M Putter} → Means u E (PutterFine u E) m → Gives S u E r (only_more (aims m))
  as_pattern b (a_target d) k h = h
  as_pattern b (an_element d) k h = h
  as_pattern b a_head k h = h
  as_pattern b _ k h = absurd (cc k)

  pub as_default : (b : Bool) (r : Role) → serves (default_like b) r ≡ true → {m : M Putter} → Means u E (PutterFine u E) m → Gives S u E r (only_more (aims m))
  as_default b (a_target d) k h = h
  as_default b (an_element d) k h = h
  as_default b _ k h = absurd (cc k)

  pub as_rest : (r : Role) → serves rest_like r ≡ true → {m : M Putter} → Means u E (PutterFine u E) m → Gives S u E r (only_more (rest_aims m))
  as_rest a_member k h = h
  as_rest (an_element b) k h = h
  as_rest _ k h = absurd (cc k)

  pub as_property : (r : Role) → serves property_like r ≡ true → {f : Putter} → PutterFine u E f → Gives S u E r (only_more (member_aims f))
  as_property a_member k h = h
  as_property _ k h = absurd (cc k)

  pub as_definition : (r : Role) → serves definition_like r ≡ true → {m : M Value} → Means u E Any m → Gives S u E r (only_more (defines m))
  as_definition a_definition k h = h
  as_definition _ k h = absurd (cc k)

  pub as_handler : (r : Role) → serves handler_like r ≡ true → {f : Putter} → PutterFine u E f → Gives S u E r (only_more (handles f))
  as_handler a_handler k h = h
  as_handler _ k h = absurd (cc k)

  pub as_import : (r : Role) → serves import_like r ≡ true → (x : Text) (ys : List Text) → is_some_name ys ≡ true → Gives S u E r (only_more (imported_as x ys))
  as_import an_import k x (y ∷ ys) h = not_so (is_own_cell y) h
  as_import an_import k x [] h = absurd (cc h)
  as_import _ k x ys h = absurd (cc k)

  pub as_clause : (r : Role) → serves clause_like r ≡ true → (c : Clause) → ClauseFine u E c → Gives S u E r (only_more (clause_of c))
  as_clause a_clause k c h = h
  as_clause _ k c h = absurd (cc k)

  pub as_part : (r : Role) → serves part_like r ≡ true → (e : Sense) → Gives S u E r e
  as_part a_part k e = tt
  as_part _ k e = absurd (cc k)

-- LISTS OF FIELDS

module _ (S : Supply) (u : Bool) (E : Exits) where
  pub quiet_all : {es : List Sense} → AllSound S (as_role a_value u) es → AllFine u E (cores es)
  quiet_all none_sound = none_fine
  quiet_all (one_sound h g) = one_fine (quiet h.reference) (quiet_all g)

  pub all_cores : {es : List Sense} → AllSound S (as_statement E u) es → AllFine u E (cores es)
  all_cores none_sound = none_fine
  all_cores (one_sound h g) = one_fine h.reference (all_cores g)

  pub all_declarators : {es : List Sense} → AllSound S (as_role a_declarator u) es → AllFine u E (cores es)
  all_declarators none_sound = none_fine
  all_declarators (one_sound h g) = one_fine (quiet h.1) (all_declarators g)

  definition_fine : (x : More) → DefinitionOf u (no_exits false) x → Means u E Any (Rattle.es_statement_runs.specs.Senses.definition_of x)
  definition_fine (defines m) h = quiet h
  definition_fine (spreads m) h = quiet h
  definition_fine _ h = absurd h

  pub all_definitions : {es : List Sense} → AllSound S (as_role a_definition u) es → DefinitionsFine u E (definitions_in es)
  all_definitions none_sound = no_definitions
  all_definitions (one_sound {e = e} h g) = definition_and (definition_fine e.more h) (all_definitions g)

  a_member_fine : (x : More) → MemberOf u (no_exits false) x → MemberFine u E (Rattle.es_statement_runs.specs.Senses.member_of x)
  a_member_fine (member_aims f) h = keyed_fine (λ v. quiet (h v))
  a_member_fine (rest_aims m) h = remaining_fine (quiet_putter h)
  a_member_fine _ h = absurd h

  pub all_members : {es : List Sense} → AllSound S (as_role a_member u) es → MembersFine u E (members_in es)
  all_members none_sound = no_members
  all_members (one_sound {e = e} h g) = member_and (a_member_fine e.more h) (all_members g)

  a_clause_fine : (x : More) {cs : List Clause} → ClauseOf u E x → ClausesFine u E cs → ClausesFine u E (clause_by x ++ cs)
  a_clause_fine (clause_of c) h g = clause_and h g
  a_clause_fine _ h g = g

  pub all_clauses : {es : List Sense} → AllSound S (record { role = a_clause; exits = E; uses = u }) es → ClausesFine u E (clauses es)
  all_clauses none_sound = no_clauses
  all_clauses (one_sound {e = e} h g) = a_clause_fine e.more h (all_clauses g)

  pub optional_fine : (w : World) (v : Value) {x : Portion} → PartSound S optional (as_role a_value u) x → Means u E Any (optional_value w x v)
  optional_fine w v missing_part = return_fine tt
  optional_fine w v (present_part {e = e} h) = value_fine w e.core (quiet h.reference)

  pub optional_statement : (w : World) (v : Value) {x : Portion} → PartSound S optional (as_statement E u) x → Means u E Any (optional_value w x v)
  optional_statement w v missing_part = return_fine tt
  optional_statement w v (present_part {e = e} h) = value_fine w e.core h.reference

  pub test_fine : (w : World) {x : Portion} → PartSound S optional (as_role a_value u) x → Means u E Any (for_test w x)
  test_fine w missing_part = return_fine tt
  test_fine w (present_part {e = e} h) = then_fine (value_fine w e.core (quiet h.reference)) (λ v _. return_fine tt)

-- ELEMENTS OF ARRAYS

module _ (S : Supply) (u : Bool) (E : Exits) where
  pub begun_fine : (v : Bool) {es : List Sense} → AllSound S (as_statement E u) es → {m : M Value} → Means v E Any m → Means v E Any (begun es m)
  begun_fine v none_sound g = g
  begun_fine v (one_sound {e = e} h i) g = first e.more h.more (begun_fine v i g)
    where
      first : (x : More) {m : M Value} → ValueMore u E x → Means v E Any m → Means v E Any (first_asked x m)
      first (begins k) h g = then_fine (h v) (λ _ _. g)
      first (helper_call t) h g = absurd h
      first _ h g = g

  pub items_fine : (w : World) (at : ℕ → Spot) → ((i : ℕ) → at i ≡ as_role a_value u) → {xs : List Portion} → PartsSound S (repeated optional) at xs → Means u E Any (array_items w xs)
  items_fine w at k end_parts = return_fine tt
  items_fine w at k (repeat_part missing_part h) = then_fine (items_fine w (λ i. at (suc i)) (λ i. k (suc i)) h) (λ vs _. return_fine tt)
  items_fine w at k (repeat_part (present_part {e = e} g) h) = then_fine (value_fine w e.core (quiet (subst (λ (c : Spot). Sound S c e) (k zero) g).reference)) (λ v _. then_fine (items_fine w (λ i. at (suc i)) (λ i. k (suc i)) h) (λ vs _. return_fine tt))

  element_more : (b : Bool) (w : World) (e : Sense) (x : More) → ElementOf b u (no_exits false) x e.core.reference → ElementFine u E (Rattle.es_statement_runs.specs.Senses.element_by x (Rattle.es_statement_runs.specs.Senses.putter_by b w x e.core))
  element_more b w e (rest_aims m) h = takes_rest_fine (quiet_putter h)
  element_more b w e (aims m) h = takes_fine (quiet_putter h)
  element_more b w e nothing_more h = takes_fine (quiet_putter (putter_fine b w (record { core = e.core; more = nothing_more }) h))
  element_more b w e (keys_of ks) h = takes_fine (quiet_putter (putter_fine b w (record { core = e.core; more = keys_of ks }) h))
  element_more b w e (maps ks) h = takes_fine (quiet_putter (putter_fine b w (record { core = e.core; more = maps ks }) h))
  element_more b w e (stack_member y m) h = takes_fine (quiet_putter (putter_fine b w (record { core = e.core; more = stack_member y m }) h))
  element_more b w e _ h = absurd h

  pub elements_fine : (b : Bool) (w : World) (at : ℕ → Spot) → ((i : ℕ) → at i ≡ as_role (an_element b) u) → {xs : List Portion} → PartsSound S (repeated optional) at xs → ElementsFine u E (elements_in b w xs)
  elements_fine b w at k end_parts = no_elements
  elements_fine b w at k (repeat_part missing_part h) = element_and elision_fine (elements_fine b w (λ i. at (suc i)) (λ i. k (suc i)) h)
  elements_fine b w at k (repeat_part (present_part {e = e} g) h) = element_and (element_more b w e e.more (subst (λ (c : Spot). Sound S c e) (k zero) g)) (elements_fine b w (λ i. at (suc i)) (λ i. k (suc i)) h)
