-- What nodes mean where the helper of object spread is the only one known matches what they mean with the object of all helpers, where what their parts
-- mean does: a method of a stack is a member there, and no object is a stack.
use Rattle.std.proofs.Common.{◌≡◌, refl, sym, subst, List, [], ◌∷◌, ap, ◌∙◌}
use Rattle.std.proofs.lemmas.Bool.{and_right, not-true}
use Rattle.std.proofs.lemmas.Slice.Eq.{bytes_eq-Decides}
use Rattle.std.specs.Prelude.{ℕ, Bool, true, false, ◌||◌, ◌++◌, bytes_eq, Option, Some, None, codes, if◌then◌else◌}
use Rattle.es_tree.specs.Words.{Text}
use Rattle.es_runs.specs.Machine.{Value, Values, M, ◌>>=◌, ask, return, is_true, joined}
use Rattle.es_runs.specs.Machine.Value.{undefined, text, own}
use Rattle.es_runs.specs.Machine.OwnValue.{list, helper, stack}
use Rattle.es_runs.specs.Machine.Values.{none, ◌and◌}
use Rattle.es_runs.specs.Machine.Question.{of_statement}
use Rattle.es_runs.specs.Machine.StatementQuestion.{array, make, import_name, template, iterator, keys}
use Rattle.es_runs.specs.Machine.Stop.{unknown}
use Rattle.es_runs.specs.Core.{World, Binding, Reference, Meaning, Form, AssignClass, assign_class, assignment, gives_value, is_logical, member_form, put_value, static_form, without_last, value, values, initialise, nothing, receiver, in_order, plain_call}
use Rattle.es_runs.specs.Core.Binding.{silent, free, changeable, constant}
use Rattle.es_runs.specs.Core.Silent.{keys_name, helper_name}
use Rattle.es_runs.specs.Core.Reference.{property}
use Rattle.es_runs.specs.Core.Form.{word, math_pow, member_call, member_bind, other, null_form, zero_form, void_zero}
use Rattle.es_stackless_runs.proofs.Machine.{Lacks, AllLack, Anything, ReferenceLacks, Matches, bind, bind_by, returns, stopped, choice, asks, sets, both_lack, initialises}
use Rattle.es_stackless_runs.proofs.CoreKinds.{AllBy, Matching, PartMatching, world_in, gets, puts, has_value, all_values, order_matches, plain_call_matches, call_matches, plain_matching, literal_matching, nothing_matching}
use Rattle.es_stackless_runs.proofs.CoreKinds.AllBy.{no_more, one_more}
use Rattle.es_stackless_runs.proofs.CoreKinds.PartMatching.{absent_matching, single_matching, several_matching}
use Rattle.es_statement_runs.specs.Helpers.{is_helper_text, Supply}
use Rattle.es_statement_runs.specs.Helpers.Supply.{by_global, spread_by_global}
use Rattle.es_stackless_runs.proofs.Forms.{is_apart}
use Rattle.es_statement_runs.specs.Calls.{is_stack_key, static_member, stack_failure, stack_call, stack_method, on_stack, is_spread, some_spread, first_spread, called_form, plain_callee, core_call, mapped, maps_keys, is_require, required_or, call_by, call_sense, member_by, member_sense, assignment_by, own_literal, module_text, is_global, definitions_by, is_bare, copied_values, spread_arguments, excluded_by, spread2_sense, named_member}
use Rattle.es_statement_runs.specs.Senses.{said_in, More, Sense, Portion, cores, core_part, core_parts, ends, only_more, plain_sense, word_text, static_by, static_text, key_value, literal_key, excluded_text, reference_putter, property_aims, putter_by, putter, member_of, members_in, element_by, element_of, elements_in, definition_of, definitions_in, is_empty, object_by, array_literal, array_items, key_of, with_key, key_items, keys_where, raw_of, raw_texts, cooked_of, cooked_texts, whole_text, text_alone, template_meaning, template_literal, tagged_template}
use Rattle.es_statement_runs.specs.Senses.More.{nothing_more, literal_text, aims, heads, member_aims, rest_aims, defines, spreads, object_of, keys_of, maps, quasi, template_of, helper_call, stack_member, clause_of, handles, imports, begins}
use Rattle.es_statement_runs.specs.Senses.Portion.{gap, alone, rows}
use Rattle.es_statement_runs.specs.StatementParts.{asked_by, used_where, declarator_by, head_aims, first_more, optional_value, tested, for_test, head_by, head_putter, labels_of, clause_by, clauses, case_clause, bound_parameter, handler_of, handled, at_last, first_asked, begun, asked_names, asked_name, namespace_begins, imported_as, for_each}
use Rattle.es_statement_runs.specs.Stacks.{failed_with, used, Scope, own_cells}
use Rattle.es_statement_runs.specs.Statements.{Clause}
use Rattle.es_statement_runs.specs.Patterns.{Putter, one_value}
use Rattle.es_statement_runs.specs.Names.{is_word}
use Rattle.es_statement_runs.specs.Places.{placed_at}
use Rattle.es_stackless_runs.proofs.Statements.{PutterMatching, ClauseMatching, scoped_matches, scope_matches, used_matches, caught_matched, finalized_matched, done_matches, each_matches}
use Rattle.es_stackless_runs.proofs.Statements.ClauseMatching.{when_matching, default_matching}
use Rattle.es_stackless_runs.proofs.Patterns.{TargetMatching, MemberMatching, ElementMatching, returns_putter, puts_then, joined_lack, copied_matches, property_matches, tagged_matches}
use Rattle.es_stackless_runs.proofs.Patterns.MemberMatching.{keyed_matching, remaining_matching}
use Rattle.es_stackless_runs.proofs.Patterns.ElementMatching.{elision_matching, takes_matching, takes_rest_matching}

-- no name stands for a helper or for keys
abbrev pub BindingLacks : Binding → Type 0
BindingLacks (silent z) = ⊥
BindingLacks _ = Unit {0}

-- what nodes say beside their meanings
pub data MoreMatching : More → More → Type 0 where
  same_nothing : MoreMatching nothing_more nothing_more
  same_literal : {t : Text} → MoreMatching (literal_text t) (literal_text t)
  same_aims : {m k : M Putter} → TargetMatching m k → MoreMatching (aims m) (aims k)
  same_heads : {m k : M Putter} → TargetMatching m k → MoreMatching (heads m) (heads k)
  same_member : {f g : Putter} → PutterMatching f g → MoreMatching (member_aims f) (member_aims g)
  same_rest : {m k : M Putter} → TargetMatching m k → MoreMatching (rest_aims m) (rest_aims k)
  same_defines : {m k : M Value} → Matches Lacks m k → MoreMatching (defines m) (defines k)
  same_spreads : {m k : M Value} → Matches Lacks m k → MoreMatching (spreads m) (spreads k)
  same_object : {b : Bool} {m k : M Values} → Matches AllLack m k → MoreMatching (object_of b m) (object_of b k)
  same_keys : {m k : M Values} → Matches AllLack m k → MoreMatching (keys_of m) (keys_of k)
  same_maps : {m k : M Values} → Matches AllLack m k → MoreMatching (maps m) (maps k)
  same_quasi : {t : Text} {c : Option Text} → MoreMatching (quasi t c) (quasi t c)
  same_template : {us vs : Values} {c : Option Text} {m k : M Values} → Matches AllLack m k → MoreMatching (template_of us vs c m) (template_of us vs c k)
  same_clause : {c d : Clause} → ClauseMatching c d → MoreMatching (clause_of c) (clause_of d)
  same_handles : {f g : Putter} → PutterMatching f g → MoreMatching (handles f) (handles g)
  same_imports : {x y : Text} → MoreMatching (imports x y) (imports x y)
  same_begins : {m k : M Value} → Matches Lacks m k → MoreMatching (begins m) (begins k)
  -- only one of them says that a member may be a stack's
  no_stack : {x : Text} {k : M Reference} → MoreMatching nothing_more (stack_member x k)

-- says nothing of a stack
abbrev pub NoStack : More → Type 0
NoStack (stack_member x k) = ⊥
NoStack _ = Unit {0}

-- what may be a stack's member is the reference of what is meant, which has no form of its own
abbrev pub StackAt : Meaning → More → Type 0
StackAt m (stack_member x k) = (k ≡ m.reference) × (m.form ≡ other)
StackAt _ _ = Unit {0}

pub stack_at_none : (m : Meaning) (a : More) → NoStack a → StackAt m a
stack_at_none m (stack_member x k) h = absurd h
stack_at_none m _ h = tt

pub record SenseMatching (e d : Sense) : Type 0 where
  pub core : Matching e.core d.core
  pub more : MoreMatching e.more d.more
  pub stacks : StackAt d.core d.more

abbrev pub SensesMatching : List Sense → List Sense → Type 0
SensesMatching es ds = AllBy SenseMatching es ds

pub data PortionMatching : Portion → Portion → Type 0 where
  gap_matching : PortionMatching gap gap
  alone_matching : {e d : Sense} → SenseMatching e d → PortionMatching (alone e) (alone d)
  rows_matching : {es ds : List Sense} → SensesMatching es ds → PortionMatching (rows es) (rows ds)

abbrev pub PortionsMatching : List Portion → List Portion → Type 0
PortionsMatching xs ys = AllBy PortionMatching xs ys

-- SENSES

pub ends_matching : {m k : M Value} → Matches Lacks m k → SenseMatching (ends m) (ends k)
ends_matching h = record { core = plain_matching h; more = same_nothing; stacks = tt }

pub only_matching : {a b : More} → MoreMatching a b → NoStack b → SenseMatching (only_more a) (only_more b)
only_matching {b = b} h n = record { core = nothing_matching; more = h; stacks = stack_at_none nothing b n }

pub plainly : {m k : Meaning} → Matching m k → SenseMatching (plain_sense m) (plain_sense k)
plainly h = record { core = h; more = same_nothing; stacks = tt }

pub nothing_here : SenseMatching (plain_sense nothing) (plain_sense nothing)
nothing_here = plainly nothing_matching

pick : (b : Bool) {e d e' d' : Sense} → SenseMatching e d → SenseMatching e' d' → SenseMatching (if b then e else e') (if b then d else d')
pick true h g = h
pick false h g = g

cores_matching : {es ds : List Sense} → SensesMatching es ds → AllBy Matching (cores es) (cores ds)
cores_matching no_more = no_more
cores_matching (one_more h hs) = one_more h.core (cores_matching hs)

part_matching : {x y : Portion} → PortionMatching x y → PartMatching (core_part x) (core_part y)
part_matching gap_matching = absent_matching
part_matching (alone_matching h) = single_matching h.core
part_matching (rows_matching h) = several_matching (cores_matching h)

pub parts_matching : {xs ys : List Portion} → PortionsMatching xs ys → AllBy PartMatching (core_parts xs) (core_parts ys)
parts_matching no_more = no_more
parts_matching (one_more h hs) = one_more (part_matching h) (parts_matching hs)

static_same : {a b : More} → MoreMatching a b → {f g : Form} → g ≡ f → static_by b g ≡ static_by a f
static_same same_literal e = refl
static_same _ e = ap word_text e

pub label_text : {e d : Sense} → SenseMatching e d → static_text d ≡ static_text e
label_text h = static_same h.more h.core.form

literal_same : {a b : More} → MoreMatching a b → literal_key b ≡ literal_key a
literal_same same_literal = refl
literal_same _ = refl

excluded_same : (computed : Bool) {e d : Sense} → SenseMatching e d → excluded_text computed d ≡ excluded_text computed e
excluded_same true h = literal_same h.more
excluded_same false h = ap (λ (x : Text). Some x) (label_text h)

member_matching_of : {a b : More} → MoreMatching a b → MemberMatching (member_of a) (member_of b)
member_matching_of (same_member h) = keyed_matching h
member_matching_of (same_rest h) = remaining_matching h
member_matching_of _ = keyed_matching (λ u n. stopped unknown tt)

pub members_matching : {es ds : List Sense} → SensesMatching es ds → AllBy MemberMatching (members_in es) (members_in ds)
members_matching no_more = no_more
members_matching (one_more h hs) = one_more (member_matching_of h.more) (members_matching hs)

element_by_matching : {a b : More} → MoreMatching a b → {m k : M Putter} → TargetMatching m k → ElementMatching (element_by a m) (element_by b k)
element_by_matching (same_rest h) g = takes_rest_matching h
element_by_matching _ g = takes_matching g

definition_matching : {a b : More} → MoreMatching a b → Matches Lacks (definition_of a) (definition_of b)
definition_matching (same_defines h) = h
definition_matching (same_spreads h) = h
definition_matching _ = stopped unknown tt

pub definitions_matching : {es ds : List Sense} → SensesMatching es ds → AllBy (Matches Lacks) (definitions_in es) (definitions_in ds)
definitions_matching no_more = no_more
definitions_matching (one_more h hs) = one_more (definition_matching h.more) (definitions_matching hs)

pub as_empty : {es ds : List Sense} → SensesMatching es ds → is_empty ds ≡ is_empty es
as_empty no_more = refl
as_empty (one_more h hs) = refl

pub object_matching : (b c : Bool) → c ≡ b → {m k : M Values} → Matches AllLack m k → SenseMatching (object_by b m) (object_by c k)
object_matching b c e h = rw e (record { core = plain_matching (bind h (λ ds i. asks (of_statement (make ds)))); more = same_object h; stacks = tt })

-- both are none, or match
pub data MaybeMatching {A : Type 0} (P : A → Type 0) : Option (M A) → Option (M A) → Type 0 where
  both_none : MaybeMatching P None None
  both_some : {m k : M A} → Matches P m k → MaybeMatching P (Some m) (Some k)

with_key_matching : {a b : Option (M Value)} {c d : Option (M Values)} → MaybeMatching Lacks a b → MaybeMatching AllLack c d → MaybeMatching AllLack (with_key a c) (with_key b d)
with_key_matching (both_some h) (both_some g) = both_some (bind h (λ u i. bind g (λ us j. returns (u and us) (both_lack i j))))
with_key_matching (both_some h) both_none = both_none
with_key_matching both_none (both_some g) = both_none
with_key_matching both_none both_none = both_none

pub keys_matching : {a b : Option (M Values)} → MaybeMatching AllLack a b → MoreMatching (keys_where a) (keys_where b)
keys_matching (both_some h) = same_keys h
keys_matching both_none = same_nothing

raw_same : {a b : More} → MoreMatching a b → (us : Values) → raw_of b us ≡ raw_of a us
raw_same same_quasi us = refl
raw_same _ us = refl

raws_same : {es ds : List Sense} → SensesMatching es ds → raw_texts ds ≡ raw_texts es
raws_same no_more = refl
raws_same (one_more {a = e} h hs) = raw_same h.more _ ∙ ap (raw_of e.more) (raws_same hs)

cooked_same : {a b : More} → MoreMatching a b → (us : Values) → cooked_of b us ≡ cooked_of a us
cooked_same same_quasi us = refl
cooked_same _ us = refl

cookeds_same : {es ds : List Sense} → SensesMatching es ds → cooked_texts ds ≡ cooked_texts es
cookeds_same no_more = refl
cookeds_same (one_more {a = e} h hs) = cooked_same h.more _ ∙ ap (cooked_of e.more) (cookeds_same hs)

whole_same : {a b : More} → MoreMatching a b → whole_text b ≡ whole_text a
whole_same same_quasi = refl
whole_same _ = refl

alone_same : {es ds xs ys : List Sense} → SensesMatching es ds → SensesMatching xs ys → text_alone ds ys ≡ text_alone es xs
alone_same (one_more h no_more) no_more = whole_same h.more
alone_same (one_more h no_more) (one_more g gs) = refl
alone_same (one_more h (one_more i is)) no_more = refl
alone_same (one_more h (one_more i is)) (one_more g gs) = refl
alone_same no_more no_more = refl
alone_same no_more (one_more g gs) = refl

spread_same : {a b : More} → MoreMatching a b → is_spread b ≡ is_spread a
spread_same (same_spreads h) = refl
spread_same _ = refl

some_same : {es ds : List Sense} → SensesMatching es ds → some_spread ds ≡ some_spread es
some_same no_more = refl
some_same (one_more h hs) = rw (spread_same h.more, some_same hs)

first_same : {es ds : List Sense} → SensesMatching es ds → first_spread ds ≡ first_spread es
first_same no_more = refl
first_same (one_more h hs) = spread_same h.more

form_same : {es ds : List Sense} → SensesMatching es ds → (f : Form) → called_form ds f ≡ called_form es f
form_same h math_pow = rw (some_same h)
form_same h member_call = rw (first_same h)
form_same h member_bind = rw (first_same h)
form_same h (word x) = refl
form_same h other = refl
form_same h null_form = refl
form_same h zero_form = refl
form_same h void_zero = refl

callee_matching : {e d : Sense} {es ds : List Sense} → SenseMatching e d → SensesMatching es ds → Matching (plain_callee e es) (plain_callee d ds)
callee_matching {e = e} {ds = ds} h hs = record { evaluation = h.core.evaluation; form = ap (called_form ds) h.core.form ∙ form_same hs e.core.form }

literal_own : {a b : More} → MoreMatching a b → own_literal b ≡ own_literal a
literal_own same_literal = refl
literal_own _ = refl

module_same : {es ds : List Sense} → SensesMatching es ds → module_text ds ≡ module_text es
module_same no_more = refl
module_same (one_more h no_more) = literal_own h.more
module_same (one_more h (one_more g gs)) = refl

mapped_matching : {a b : More} → MoreMatching a b → {m k : M Values} → Matches AllLack m k → MoreMatching (mapped a m) (mapped b k)
mapped_matching same_nothing g = same_nothing
mapped_matching _ g = same_nothing

maps_matching : {es ds : List Sense} → SensesMatching es ds → {m k : M Values} → Matches AllLack m k → MoreMatching (maps_keys es m) (maps_keys ds k)
maps_matching no_more g = same_nothing
maps_matching (one_more h no_more) g = mapped_matching h.more g
maps_matching (one_more h (one_more i is)) g = same_nothing

maps_or_nothing : (b : Bool) {m k : M Values} → Matches AllLack m k → MoreMatching (if b then maps m else nothing_more) (if b then maps k else nothing_more)
maps_or_nothing true h = same_maps h
maps_or_nothing false h = same_nothing

definitions_by_matching : {a b : More} → MoreMatching a b → Matches AllLack (definitions_by a) (definitions_by b)
definitions_by_matching (same_object h) = h
definitions_by_matching _ = stopped unknown tt

bare_same : {a b : More} → MoreMatching a b → is_bare b ≡ is_bare a
bare_same (same_object h) = refl
bare_same _ = refl

excluded_matching : {a b : More} → MoreMatching a b → Matches AllLack (excluded_by a) (excluded_by b)
excluded_matching (same_keys h) = h
excluded_matching _ = stopped unknown tt

-- no object is a stack
not_stack : (r : Reference) → ReferenceLacks r → (f : ℕ → M Value) (m : M Value) → on_stack r f m ≡ m
not_stack (property (own (stack n)) k) h f m = absurd (cc h)
not_stack _ h f m = refl

pub name_matching : (b : Binding) → BindingLacks b → MoreMatching (said_in spread_by_global b) (said_in by_global b)
name_matching (silent z) h = absurd h
name_matching free h = same_nothing
name_matching changeable h = same_nothing
name_matching constant h = same_nothing

pub name_none : (b : Binding) → BindingLacks b → NoStack (said_in by_global b)
name_none (silent z) h = absurd h
name_none free h = tt
name_none changeable h = tt
name_none constant h = tt

stack_key : (b : Bool) (x : Text) (k : M Reference) → MoreMatching nothing_more (if b then stack_member x k else nothing_more)
stack_key true x k = no_stack
stack_key false x k = same_nothing

key_at : (b : Bool) (x : Text) (m : Meaning) → (b ≡ true → m.form ≡ other) → StackAt m (if b then stack_member x m.reference else nothing_more)
key_at true x m h = (refl, h refl)
key_at false x m h = tt

-- MORE THAT IS NO STACK'S

keys_none : (o : Option (M Values)) → NoStack (keys_where o)
keys_none (Some ks) = tt
keys_none None = tt

either_none : (b : Bool) (a c : More) → NoStack a → NoStack c → NoStack (if b then a else c)
either_none true a c h g = h
either_none false a c h g = g

mapped_none : (a : More) (ks : M Values) → NoStack (mapped a ks)
mapped_none (helper_call h) ks = either_none (is_word (codes "toPropertyKey") h) (keys_of ks) nothing_more tt tt
mapped_none _ ks = tt

maps_none : (es : List Sense) (ks : M Values) → NoStack (maps_keys es ks)
maps_none [] ks = tt
maps_none (e ∷ []) ks = mapped_none e.more ks
maps_none (e ∷ (f ∷ es)) ks = tt

pub imported_none : (x : Text) (ys : List Text) → NoStack (imported_as x ys)
imported_none x [] = tt
imported_none x (y ∷ ys) = tt

pub namespace_none : (x : Portion) (m : Text) → NoStack (namespace_begins x m)
namespace_none gap m = tt
namespace_none (alone e) m = tt
namespace_none (rows es) m = tt

pub labels_same : {x y : Portion} → PortionMatching x y → labels_of y ≡ labels_of x
labels_same gap_matching = refl
labels_same (alone_matching h) = ap (λ (f : Form). word_text f ∷ []) h.core.form
labels_same (rows_matching h) = refl

pub tested_matches : {m k : M Value} → Matches Lacks m k → Matches Anything (tested m) (tested k)
tested_matches h = bind h (λ u i. returns (is_true u) tt)

clause_matching : {a b : More} → MoreMatching a b → {cs ds : List Clause} → AllBy ClauseMatching cs ds → AllBy ClauseMatching (clause_by a ++ cs) (clause_by b ++ ds)
clause_matching (same_clause h) g = one_more h g
clause_matching _ g = g

pub clauses_matching : {es ds : List Sense} → SensesMatching es ds → AllBy ClauseMatching (clauses es) (clauses ds)
clauses_matching no_more = no_more
clauses_matching (one_more h hs) = clause_matching h.more (clauses_matching hs)

handler_matching : {a b : More} → MoreMatching a b → PutterMatching (handler_of a) (handler_of b)
handler_matching (same_handles h) u n = h u n
handler_matching _ u n = stopped unknown tt

pub handled_matches : {x y : Portion} → PortionMatching x y → {m k : M Value} → Matches Lacks m k → Matches Lacks (handled x m) (handled y k)
handled_matches gap_matching g = g
handled_matches (alone_matching h) g = λ s n. caught_matched (handler_matching h.more) (g s n)
handled_matches (rows_matching h) g = g

first_asked_matches : {a b : More} → MoreMatching a b → {m k : M Value} → Matches Lacks m k → Matches Lacks (first_asked a m) (first_asked b k)
first_asked_matches (same_begins h) g = bind h (λ u i. g)
first_asked_matches _ g = g

pub begun_matches : {es ds : List Sense} → SensesMatching es ds → {m k : M Value} → Matches Lacks m k → Matches Lacks (begun es m) (begun ds k)
begun_matches no_more g = g
begun_matches (one_more h hs) g = first_asked_matches h.more (begun_matches hs g)

asked_by_matches : (b : Binding) (m x y : Text) → Matches Lacks (asked_by b m x y) (asked_by b m x y)
asked_by_matches (silent (helper_name h)) m x y = sets y (own (helper h)) refl
asked_by_matches (silent (keys_name us)) m x y = bind (asks (of_statement (import_name m x))) (sets y)
asked_by_matches free m x y = bind (asks (of_statement (import_name m x))) (sets y)
asked_by_matches changeable m x y = bind (asks (of_statement (import_name m x))) (sets y)
asked_by_matches constant m x y = bind (asks (of_statement (import_name m x))) (sets y)

pub namespace_matching : {x y : Portion} → PortionMatching x y → (m : Text) → MoreMatching (namespace_begins x m) (namespace_begins y m)
namespace_matching gap_matching m = same_nothing
namespace_matching (alone_matching h) m = same_begins (bind (asks (of_statement (import_name m (codes "*")))) (λ u i. done_matches u))
namespace_matching (rows_matching h) m = same_nothing

pub imported_matching : (x : Text) (ys : List Text) → MoreMatching (imported_as x ys) (imported_as x ys)
imported_matching x [] = same_nothing
imported_matching x (y ∷ ys) = same_imports

used_where_matching : (b : Bool) {f g : Putter} → PutterMatching f g → PutterMatching (used_where b f) (used_where b g)
used_where_matching true h u n = bind (used_matches u n) h
used_where_matching false h u n = h u n

pub first_more_matching : {es ds : List Sense} → SensesMatching es ds → MoreMatching (first_more es) (first_more ds)
first_more_matching no_more = same_nothing
first_more_matching (one_more h hs) = h.more

headed : {a b : More} → MoreMatching a b → {m k : M Putter} → TargetMatching m k → TargetMatching (head_by a m) (head_by b k)
headed (same_heads h) g = h
headed _ g = g

-- IN A WORLD

module _ (scope : Text → Binding) (this : Value) (lacks : Lacks this) where
  abbrev w : World
  w = world_in scope this

  abbrev v : World
  v = world_in scope this

  pub has : {e d : Sense} → SenseMatching e d → Matches Lacks (value w e.core) (value v d.core)
  has h = has_value scope this lacks h.core

  pub key_matches : (computed : Bool) {e d : Sense} → SenseMatching e d → Matches Lacks (key_value w computed e) (key_value v computed d)
  key_matches true h = has h
  key_matches false {e = e} h = rw (label_text h) (returns (text (static_text e)) refl)

  -- targets

  reference_matching : (binding : Bool) (r : Reference) → ReferenceLacks r → PutterMatching (reference_putter binding w r) (reference_putter binding v r)
  reference_matching true r h u n = initialises u n r
  reference_matching false r h u n = puts scope this lacks r h u n

  referred : (binding : Bool) {a b : Meaning} → Matching a b → TargetMatching (a.reference >>= λ r. return (reference_putter binding w r)) (b.reference >>= λ r. return (reference_putter binding v r))
  referred binding h = bind h.evaluation (λ r i. returns_putter (reference_matching binding r i))

  aimed : (binding : Bool) {x y : More} → MoreMatching x y → {a b : Meaning} → Matching a b → TargetMatching (putter_by binding w x a) (putter_by binding v y b)
  aimed binding (same_aims k) h = k
  aimed binding _ h = referred binding h

  pub putter_matches : (binding : Bool) {e d : Sense} → SenseMatching e d → TargetMatching (putter binding w e) (putter binding v d)
  putter_matches binding h = aimed binding h.more h.core

  element_matching : (binding : Bool) {x y : Portion} → PortionMatching x y → ElementMatching (element_of binding w x) (element_of binding v y)
  element_matching binding gap_matching = elision_matching
  element_matching binding (alone_matching h) = element_by_matching h.more (putter_matches binding h)
  element_matching binding (rows_matching h) = elision_matching

  pub elements_matching : (binding : Bool) {xs ys : List Portion} → PortionsMatching xs ys → AllBy ElementMatching (elements_in binding w xs) (elements_in binding v ys)
  elements_matching binding no_more = no_more
  elements_matching binding (one_more h hs) = one_more (element_matching binding h) (elements_matching binding hs)

  pub property_matching : (binding computed : Bool) {k k' e d : Sense} → SenseMatching k k' → SenseMatching e d → SenseMatching (property_aims binding w computed k e) (property_aims binding v computed k' d)
  property_matching binding computed {k = k} h g = rw (excluded_same computed h) (only_matching (same_member (property_matches (key_matches computed h) (excluded_text computed k) (putter_matches binding g))) tt)

  -- literals

  items_matches : {xs ys : List Portion} → PortionsMatching xs ys → Matches AllLack (array_items w xs) (array_items v ys)
  items_matches no_more = returns none refl
  items_matches (one_more gap_matching hs) = bind (items_matches hs) (λ us j. returns (own (list none) and us) j)
  items_matches (one_more (alone_matching h) hs) = bind (has h) (λ u i. bind (items_matches hs) (λ us j. returns (u and us) (both_lack i j)))
  items_matches (one_more (rows_matching h) hs) = bind (items_matches hs) (λ us j. returns (own (list none) and us) j)

  key_named : (f : Form) (a b : Meaning) → Matches Lacks (value w a) (value v b) → MaybeMatching Lacks (key_of w nothing_more f a) (key_of v nothing_more f b)
  key_named (word x) a b h = both_some h
  key_named _ a b h = both_none

  key_same : {x y : More} → MoreMatching x y → {f g : Form} → g ≡ f → (a b : Meaning) → Matches Lacks (value w a) (value v b) → MaybeMatching Lacks (key_of w x f a) (key_of v y g b)
  key_same (same_literal {t = t}) e a b h = both_some (returns (text t) refl)
  key_same _ {f = f} e a b h = rw e (key_named f a b h)

  key_items_matching : {xs ys : List Portion} → PortionsMatching xs ys → MaybeMatching AllLack (key_items w xs) (key_items v ys)
  key_items_matching no_more = both_some (returns none refl)
  key_items_matching (one_more gap_matching hs) = both_none
  key_items_matching (one_more (alone_matching {e = e} {d = d} h) hs) = with_key_matching (key_same h.more h.core.form e.core d.core (has h)) (key_items_matching hs)
  key_items_matching (one_more (rows_matching h) hs) = both_none

  pub array_matching : {xs ys : List Portion} → PortionsMatching xs ys → SenseMatching (array_literal w xs) (array_literal v ys)
  array_matching {ys = ys} h = record {
    core = plain_matching (bind (items_matches h) (λ us i. asks (of_statement (array us))));
    more = keys_matching (key_items_matching h);
    stacks = stack_at_none (gives_value (array_items v ys >>= λ us. ask (of_statement (array us)))) (keys_where (key_items v ys)) (keys_none (key_items v ys));
  }

  template_by : (c : Option Text) (us ks : Values) {xs ys : List Meaning} → AllBy Matching xs ys → SenseMatching (record { core = template_meaning w c us ks xs; more = template_of us ks c (values w xs) }) (record { core = template_meaning v c us ks ys; more = template_of us ks c (values v ys) })
  template_by (Some x) us ks h = record { core = literal_matching (text x) other refl; more = same_template (all_values scope this lacks h); stacks = tt }
  template_by None us ks h = record { core = plain_matching (bind (all_values scope this lacks h) (λ u i. asks (of_statement (template (own (list us) and own (list ks) and own (list u) and none))))); more = same_template (all_values scope this lacks h); stacks = tt }

  pub template_matching : {qs rs xs ys : List Sense} → SensesMatching qs rs → SensesMatching xs ys → SenseMatching (template_literal w qs xs) (template_literal v rs ys)
  template_matching {qs = qs} {xs = xs} h g = rw (alone_same h g, raws_same h, cookeds_same h) (template_by (text_alone qs xs) (raw_texts qs) (cooked_texts qs) (cores_matching g))

  pub tagged_matching : {e d : Sense} → SenseMatching e d → {a b : More} → MoreMatching a b → Matching (tagged_template w e a) (tagged_template v d b)
  tagged_matching h (same_template {us = us} {vs = ks} g) = plain_matching (bind h.core.evaluation (λ r i. bind (gets scope this lacks r i) (λ f j. tagged_matches us ks g f (receiver r))))
  tagged_matching h _ = nothing_matching

  -- helpers

  copied_value_matches : {e d : Sense} → SenseMatching e d → Matches AllLack (copied_values w e) (copied_values v d)
  copied_value_matches h = bind (has h) (λ u i. bind (copied_matches u none) (λ c j. returns (one_value c) (both_lack j refl)))

  bare_or_copied : {e d : Sense} → SenseMatching e d → Matches AllLack (if is_bare e.more then return none else copied_values w e) (if is_bare d.more then return none else copied_values v d)
  bare_or_copied {e = e} h = rw (bare_same h.more) (choice (is_bare e.more) (returns none refl) (copied_value_matches h))

  spread_matches : {es ds : List Sense} → SensesMatching es ds → Matches AllLack (spread_arguments w es) (spread_arguments v ds)
  spread_matches no_more = returns none refl
  spread_matches (one_more h no_more) = copied_value_matches h
  spread_matches (one_more h (one_more g gs)) = bind (bare_or_copied h) (λ us i. bind (definitions_by_matching g.more) (λ vs j. bind (spread_matches gs) (λ rest k. returns (joined us (joined vs rest)) (joined_lack us (joined vs rest) i (joined_lack vs rest j k)))))

  pub spread2_matching : {es ds : List Sense} → SensesMatching es ds → SenseMatching (spread2_sense w es) (spread2_sense v ds)
  spread2_matching no_more = nothing_here
  spread2_matching (one_more h hs) = object_matching false false refl (bind (definitions_by_matching h.more) (λ us i. bind (spread_matches hs) (λ vs j. returns (joined us vs) (joined_lack us vs i j))))

  -- calls

  call_matching : (optional : Bool) {e d : Sense} {es ds : List Sense} → SenseMatching e d → SensesMatching es ds → Matching (core_call w optional e es) (core_call v optional d ds)
  call_matching optional {e = e} {d = d} {es = es} {ds = ds} h hs = plain_matching (call_matches scope this lacks optional (plain_callee e es) (plain_callee d ds) (callee_matching h hs) (cores_matching hs))

  plainly_called : {es ds : List Sense} → SensesMatching es ds → (r : Reference) → ReferenceLacks r → Matches Lacks (plain_call w false (cores es) r) (plain_call v false (cores ds) r)
  plainly_called hs r i = plain_call_matches scope this lacks false (cores_matching hs) r i

  no_text : (b : Bool) (o : Option Text) → (if b then o else o) ≡ o
  no_text true o = refl
  no_text false o = refl

  plain_called : {f g : Sense} {es ds : List Sense} → SenseMatching f g → SensesMatching es ds → SenseMatching (required_or (if is_require w f.core.form then None else None) (plain_sense (core_call w false f es))) (required_or (if is_require v g.core.form then None else None) (plain_sense (core_call v false g ds)))
  plain_called {f = f} {g = g} h hs = rw (no_text (is_require w f.core.form) None, no_text (is_require v g.core.form) None) (plainly (call_matching false h hs))

  -- what may be a method of a stack is called as any other
  method_called : (y : Text) (k : M Reference) {f g : Sense} {es ds : List Sense} → SenseMatching f g → ((k ≡ g.core.reference) × (g.core.form ≡ other)) → SensesMatching es ds → SenseMatching (required_or (if is_require w f.core.form then None else None) (plain_sense (core_call w false f es))) (ends (stack_call v y ds k))
  method_called y k {f = f} {g = g} {es = es} {ds = ds} h at hs =
      let form : f.core.form ≡ other = sym h.core.form ∙ at.1 in
      rw (no_text (is_require w f.core.form) None, form, at.0) (record {
        core = plain_matching (bind h.core.evaluation (λ r i. subst (λ (m : M Value). Matches Lacks (plain_call w false (cores es) r) m) (sym (not_stack r i (stack_method v y ds (plain_call v false (cores ds) r)) (plain_call v false (cores ds) r))) (plainly_called hs r i)));
        more = same_nothing;
        stacks = tt;
      })

  called_matching : (ls : List Text) (x : Text) {f g : Sense} {es ds : List Sense} → SenseMatching f g → SensesMatching es ds → {a b : More} → MoreMatching a b → StackAt g.core b → SenseMatching (call_by (placed_at spread_by_global w ls x) f es a) (call_by (placed_at by_global v ls x) g ds b)
  called_matching ls x {g = g} {ds = ds} h hs (same_maps {k = k} e) n = record { core = call_matching false h hs; more = maps_matching hs e; stacks = stack_at_none (core_call v false g ds) (maps_keys ds k) (maps_none ds k) }
  called_matching ls x h hs (no_stack {x = y} {k = k}) n = method_called y k h n hs
  called_matching ls x h hs _ n = plain_called h hs

  pub call_sense_matching : (ls : List Text) (x : Text) (optional : Bool) {f g : Sense} {es ds : List Sense} → SenseMatching f g → SensesMatching es ds → SenseMatching (call_sense (placed_at spread_by_global w ls x) optional f es) (call_sense (placed_at by_global v ls x) optional g ds)
  call_sense_matching ls x true h hs = plainly (call_matching true h hs)
  call_sense_matching ls x false h hs = called_matching ls x h hs h.more h.stacks

  -- members

  -- of these keys none is that of a method of functions, or `pow`
  plain_key : (y : Text) → is_stack_key y ≡ true → (optional : Bool) (f : Form) → static_form v optional f y ≡ other
  plain_key y e optional f = at (is_word (codes "u") y) (is_word (codes "d") y) refl refl e
    where
      known : (z : Text) → static_form v optional f z ≡ other → bytes_eq y z ≡ true → static_form v optional f y ≡ other
      known z g h = subst (λ (x : Text). static_form v optional f x ≡ other) (sym ((bytes_eq-Decides y z).0 h)) g

      at : (a b : Bool) → is_word (codes "u") y ≡ a → is_word (codes "d") y ≡ b → ((a || b) || is_word (codes "e") y) ≡ true → static_form v optional f y ≡ other
      at true b h g e = known (codes "u") refl h
      at false true h g e = known (codes "d") refl g
      at false false h g e = known (codes "e") refl e

  static_matching : (ls : List Text) (x y : Text) {m k : Meaning} → Matching m k → (is_stack_key y ≡ true → k.form ≡ other) → SenseMatching (static_member (placed_at spread_by_global w ls x) y m) (static_member (placed_at by_global v ls x) y k)
  static_matching ls x y {k = k} h n = record { core = h; more = stack_key (is_stack_key y) y k.reference; stacks = key_at (is_stack_key y) y k n }

  other_global : (u : Supply) (o : Text) → is_word (codes "babelHelpers") o ≡ false → is_global w u o ≡ false
  other_global spread_by_global o h = rw h refl
  other_global by_global o h = rw h refl
  other_global _ o h = refl

  named_matching : (ls : List Text) (x o y : Text) → is_word (codes "babelHelpers") o ≡ false → {m k : Meaning} → Matching m k → (is_stack_key y ≡ true → k.form ≡ other) → SenseMatching (named_member (placed_at spread_by_global w ls x) o y m) (named_member (placed_at by_global v ls x) o y k)
  named_matching ls x o y e h n = rw (other_global spread_by_global o e, and_right (is_helper_text y) false refl) (static_matching ls x y h n)

  member_by_matching : (ls : List Text) (x : Text) {a b : More} → MoreMatching a b → (f g : Form) → is_apart f ≡ true → {m k : Meaning} → Matching m k → k.form ≡ member_form v false false f g → SenseMatching (member_by (placed_at spread_by_global w ls x) a f g m) (member_by (placed_at by_global v ls x) b f g k)
  member_by_matching ls x (same_keys {k = ks} e) f (word y) apart {k = k} h n = record { core = h; more = maps_or_nothing (is_word (codes "map") y) e; stacks = stack_at_none k (if is_word (codes "map") y then maps ks else nothing_more) (either_none (is_word (codes "map") y) (maps ks) nothing_more tt tt) }
  member_by_matching ls x (same_keys e) (word o) _ apart h n = plainly h
  member_by_matching ls x (same_keys e) _ _ apart h n = plainly h
  member_by_matching ls x _ (word z) (word y) apart h n = named_matching ls x z y (not-true (bytes_eq z (codes "babelHelpers")) apart) h (λ e. n ∙ plain_key y e false (word z))
  member_by_matching ls x _ f (word y) apart h n = static_matching ls x y h (λ e. n ∙ plain_key y e false f)
  member_by_matching ls x _ _ _ apart h n = plainly h

  pub member_sense_matching : (ls : List Text) (x : Text) (a b : Bool) {e e' k k' : Sense} → SenseMatching e e' → SenseMatching k k' → is_apart e'.core.form ≡ true → {m n : Meaning} → Matching m n → n.form ≡ member_form v a b e'.core.form k'.core.form → SenseMatching (member_sense (placed_at spread_by_global w ls x) a b e k m) (member_sense (placed_at by_global v ls x) a b e' k' n)
  member_sense_matching ls x false false {e' = e'} {k' = k'} h g apart f n = rw (sym h.core.form, sym g.core.form) (member_by_matching ls x h.more e'.core.form k'.core.form apart f n)
  member_sense_matching ls x false true h g apart f n = plainly f
  member_sense_matching ls x true b h g apart f n = plainly f

  -- assignments and declarations

  pattern_put : {e d : M Value} → Matches Lacks e d → {m k : M Putter} → TargetMatching m k → Matches Lacks (e >>= λ u. m >>= λ put. put u >>= λ z. return u) (d >>= λ u. k >>= λ put. put u >>= λ z. return u)
  pattern_put h g = bind h (λ u i. bind_by g (λ p q k. bind (k u i) (λ z j. returns u i)))

  -- what may be a stack's pending error is put as any other
  error_put : (b : Bool) (op y : Text) (k : M Reference) → bytes_eq op (codes "=") ≡ b → (l : Sense) {e d : Sense} {g : Meaning} → Matching l.core g → k ≡ g.reference → SenseMatching e d → {m n : Meaning} → Matching m n → m ≡ assignment w op l.core e.core → SenseMatching (plain_sense m) (if b then ends (k >>= stack_failure v y d) else plain_sense n)
  error_put true op y k q l {e = e} {d = d} {g = g} c at h f so =
      let class : assign_class op ≡ AssignClass.plainly = ap (λ (b : Bool). if b then AssignClass.plainly else (if is_logical (without_last op) then AssignClass.logically else AssignClass.compound)) q in
      rw (so, at) (record {
        core = plain_matching (rw class (bind c.evaluation (λ r i. subst (λ (m : M Value). Matches Lacks (value w e.core >>= put_value w r) m) (sym (not_stack r i (λ n. if is_word (codes "e") y then (value v d.core >>= failed_with n) else (value v d.core >>= put_value v r)) (value v d.core >>= put_value v r))) (bind (has h) (puts scope this lacks r i)))));
        more = same_nothing;
        stacks = tt;
      })
  error_put false op y k q l c at h f so = plainly f

  pub assigned_matching : (op : Text) {l l' : Sense} → SenseMatching l l' → {a b : More} → MoreMatching a b → StackAt l'.core b → {e d : Sense} → SenseMatching e d → {m k : Meaning} → Matching m k → m ≡ assignment w op l.core e.core → SenseMatching (assignment_by w op a e m) (assignment_by v op b d k)
  assigned_matching op c (same_aims h) at g f so = pick (is_word (codes "=") op) (ends_matching (pattern_put (has g) h)) (plainly f)
  assigned_matching op {l = l} c (no_stack {x = y} {k = k}) at g f so = error_put (is_word (codes "=") op) op y k refl l c.core at.0 g f so
  assigned_matching op c _ at g f so = plainly f

  pub head_aims_matching : (ls : List Text) (x : Text) {e d : Sense} → SenseMatching e d → MoreMatching (head_aims (placed_at spread_by_global w ls x) e) (head_aims (placed_at by_global v ls x) d)
  head_aims_matching ls x h = same_heads (bind_by (putter_matches true h) (λ f g p. returns_putter (used_where_matching (is_word (codes "using") x) p)))

  declarator_plain : (b : Bool) {e d a c : Sense} → SenseMatching e d → SenseMatching a c → {m k : Meaning} → Matching m k →
      SenseMatching (if b then ends (e.core.reference >>= λ r. value w a.core >>= used >>= λ u. initialise u r) else plain_sense m) (if b then ends (d.core.reference >>= λ r. value v c.core >>= used >>= λ u. initialise u r) else plain_sense k)
  declarator_plain true h g f = ends_matching (bind h.core.evaluation (λ r i. bind (bind (has g) used_matches) (λ u j. initialises u j r)))
  declarator_plain false h g f = plainly f

  pub declarator_matching : (ls : List Text) (x : Text) {y z : More} → MoreMatching y z → {e d a c : Sense} → SenseMatching e d → SenseMatching a c → {m k : Meaning} → Matching m k → SenseMatching (declarator_by (placed_at spread_by_global w ls x) y e a m) (declarator_by (placed_at by_global v ls x) z d c k)
  declarator_matching ls x (same_aims i) h g f = ends_matching (bind (has g) (puts_then i))
  declarator_matching ls x (same_keys i) h g f = ends_matching (returns undefined refl)
  declarator_matching ls x _ h g f = declarator_plain (is_word (codes "using") x) h g f

  pub declarator_none : (y : More) (a b : Sense) (m : Meaning) (ls : List Text) (x : Text) → NoStack (declarator_by (placed_at by_global v ls x) y a b m).more
  declarator_none (aims t) a b m ls x = tt
  declarator_none (keys_of ks) a b m ls x = tt
  declarator_none _ a b m ls x = at (is_word (codes "using") x)
    where
      at : (c : Bool) → NoStack (if c then ends (a.core.reference >>= λ r. value v b.core >>= used >>= λ u. initialise u r) else plain_sense m).more
      at true = tt
      at false = tt

  -- statements

  pub value_or : {x y : Portion} → PortionMatching x y → (u : Value) → Lacks u → Matches Lacks (optional_value w x u) (optional_value v y u)
  value_or gap_matching u n = returns u n
  value_or (alone_matching h) u n = has h
  value_or (rows_matching h) u n = returns u n

  pub test_matches : {x y : Portion} → PortionMatching x y → Matches Anything (for_test w x) (for_test v y)
  test_matches gap_matching = returns true tt
  test_matches (alone_matching h) = tested_matches (has h)
  test_matches (rows_matching h) = returns true tt

  head_matches : {e d : Sense} → SenseMatching e d → TargetMatching (head_putter w e) (head_putter v d)
  head_matches h = headed h.more (putter_matches false h)

  pub in_order_matches : {es ds : List Sense} → SensesMatching es ds → Matches Lacks (in_order w (cores es)) (in_order v (cores ds))
  in_order_matches h = order_matches scope this lacks (cores_matching h)

  pub case_matching : {x y : Portion} → PortionMatching x y → {es ds : List Sense} → SensesMatching es ds → ClauseMatching (case_clause w x es) (case_clause v y ds)
  case_matching gap_matching g = default_matching (in_order_matches g)
  case_matching (alone_matching h) g = when_matching (has h) (in_order_matches g)
  case_matching (rows_matching h) g = default_matching (in_order_matches g)

  pub parameter_matching : {x y : Portion} → PortionMatching x y → PutterMatching (bound_parameter w x) (bound_parameter v y)
  parameter_matching gap_matching u n = returns undefined refl
  parameter_matching (alone_matching h) u n = puts_then (putter_matches true h) u n
  parameter_matching (rows_matching h) u n = returns undefined refl

  pub last_matches : {x y : Portion} → PortionMatching x y → {m k : M Value} → Matches Lacks m k → Matches Lacks (at_last w x m) (at_last v y k)
  last_matches gap_matching g = g
  last_matches (alone_matching h) g = λ s n. finalized_matched (has h) (g s n)
  last_matches (rows_matching h) g = g

  asked_name_matches : (m : Text) {a b : More} → MoreMatching a b → Matches Lacks (asked_name w m a) (asked_name v m b)
  asked_name_matches m (same_imports {x = x} {y = y}) = asked_by_matches (scope y) m x y
  asked_name_matches m _ = stopped unknown tt

  pub asked_names_matches : (m : Text) {es ds : List Sense} → SensesMatching es ds → Matches Lacks (asked_names w m es) (asked_names v m ds)
  asked_names_matches m no_more = returns undefined refl
  asked_names_matches m (one_more h hs) = bind (asked_name_matches m h.more) (λ u i. asked_names_matches m hs)

  pub for_each_matches : (outer : Text → Binding) (ls : List Text) (x : Text) (block : Scope) (closes : Bool) {a a' b b' c c' : Sense} → SenseMatching a a' → SenseMatching b b' → SenseMatching c c' →
      Matches Lacks (for_each (placed_at spread_by_global (world_in outer this) ls x) w block closes a b c) (for_each (placed_at by_global (world_in outer this) ls x) v block closes a' b' c')
  for_each_matches outer ls x block closes h g f =
      bind (scoped_matches (own_cells block) (has g)) (λ u i. bind (asks (if closes then of_statement (iterator u) else of_statement (keys u)))
      (λ it j. each_matches ls closes (λ z l. scope_matches block (bind_by (head_matches h) (λ m k p. bind (p z l) (λ y n. has f)))) it))
