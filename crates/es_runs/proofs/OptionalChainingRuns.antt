-- Runs of optional chains and of what they become, computed: `a.b?.()`, whose call has `a` as receiver, `a?.()?.()` and
-- `(a?.b).c?.d`, with null and undefined at each step, a throw, and values all the way. The questions stand with the
-- latest first. What they become is what the rows say.
use Rattle.std.proofs.Common.{◌≡◌, refl, List, [], ◌∷◌, arith}
use Rattle.std.specs.Prelude.{Bool, true, false, None, codes}
use Rattle.es_tree.specs.Fresh.{IsFreshName, is_among}
use Rattle.es_tree.specs.Names.{names_of}
use Rattle.es_tree.specs.Parens.{without_parens}
use Rattle.es_tree.specs.Scopes.{declared_of}
use Rattle.es_tree.specs.Tree.{Tree, Label, node, done, ◌then◌, one, many, Trees, empty, ◌before◌}
use Rattle.es_tree.specs.Words.{Text}
use Rattle.es_tree.specs.declared.ast_type.AstType.TheVariants.{CallExpression, ChainExpression, ExpressionStatement, MemberExpression}
use Rattle.es_runs.specs.Alike.{object_need, the_callee, the_value}
use Rattle.es_runs.specs.Machine.{Value, Move, Question}
use Rattle.es_runs.specs.Machine.Cell.{holds}
use Rattle.es_runs.specs.Machine.Move.{answer, throw}
use Rattle.es_runs.specs.Machine.Question.{read, get, call, delete}
use Rattle.es_runs.specs.Machine.Value.{undefined, null, boolean, host, text, number}
use Rattle.es_runs.specs.Machine.Values.{none}
use Rattle.es_runs.specs.OptionalChaining.{OptionalChainingRule, Tested, Way, delete_node, is_name_among, true_node}
use Rattle.es_runs.specs.OptionalChaining.BoundCallee.{to_object}
use Rattle.es_runs.specs.OptionalChaining.Called.{by_value, by_first_member, by_later_member}
use Rattle.es_runs.specs.OptionalChaining.Continued.{same_spine}
use Rattle.es_runs.specs.OptionalChaining.OptionalChainingRule.{by_tests, as_callee, in_delete}
use Rattle.es_runs.specs.OptionalChaining.Receives.{by_name, by_temporary}
use Rattle.es_runs.specs.OptionalChaining.Tested.{as_name, in_holder, in_temporary}
use Rattle.es_runs.specs.OptionalChaining.Walked.{base, plain_member, marked_member, marked_call}
use Rattle.es_runs.specs.Rules.{assign_node, binary_node, conditional_node, logical_node, member_node, null_node, parenthesized_node, void_zero_node}
use Rattle.es_runs.specs.NullishCoalescing.{also_all}
use Rattle.es_runs.specs.Runs.{Outcome, made, identifier, none_hidden, only, program, var_statement, run, run_where, asked, state_of, outcome, cells}
use Rattle.es_runs.specs.Runs.Outcome.{finished, threw, called_uncallable}

abbrev statement : Tree → Tree
statement e = node ExpressionStatement (made [] []) (one e then done)

abbrev script : Tree → Tree
script e = program (made [] []) empty (statement e before empty)

-- with two temporaries
abbrev script_with : Text → Text → Tree → Tree
script_with x y e = program (made [] []) empty (var_statement x before var_statement y before statement e before empty)

abbrev chain_node : Tree → Tree
chain_node e = node ChainExpression (made [] []) (one e then done)

abbrev optional_member : Tree → Tree → Tree
optional_member o p = node MemberExpression (made [] (false ∷ true ∷ [])) (one o then one p then done)

abbrev call_node : Bool → Tree → Trees → Tree
call_node optional f ts = node CallExpression (made [] (optional ∷ [])) (one f then many ts then done)

abbrev a : Tree
a = identifier (codes "a")

abbrev is_null_node : Tree → Tree
is_null_node e = binary_node (codes "===") e null_node

abbrev is_undefined_node : Text → Tree
is_undefined_node x = binary_node (codes "===") (identifier x) void_zero_node

abbrev stores_node : Text → Tree → Tree
stores_node x e = assign_node (identifier x) e

abbrev or_node : Tree → Tree → Tree
or_node l r = logical_node (codes "||") l r

abbrev questions_of : Tree → List Move → List Question
questions_of p moves = asked (state_of (run p undefined moves))

abbrev outcome_of : Tree → List Move → Outcome
outcome_of p moves = outcome (run p undefined moves)

-- an object, and two callable ones
abbrev object : Value
object = host 1 false true false

abbrev f : Value
f = host 2 true true false

abbrev g : Value
g = host 3 true true false

-- `a.b?.()`

abbrev method : Tree
method = chain_node (call_node true (member_node false a (identifier (codes "b"))) empty)

-- `(_a$b = (_a = a).b) === null || _a$b === void 0 ? void 0 : _a$b.call(_a)`
abbrev method_lowered : Tree
method_lowered = conditional_node (or_node (is_null_node (stores_node (codes "_a$b") (member_node false (stores_node (codes "_a") a) (identifier (codes "b"))))) (is_undefined_node (codes "_a$b"))) void_zero_node (call_node false (member_node false (identifier (codes "_a$b")) (identifier (codes "call"))) (identifier (codes "_a") before empty))

abbrev method_script : Tree
method_script = script_with (codes "_a$b") (codes "_a") method_lowered

-- the call has the object as its receiver
abbrev method_called : List Question
method_called = call f object none ∷ get object (text (codes "b")) ∷ read (codes "a") ∷ []

method_calls : questions_of (script method) (answer object ∷ answer f ∷ answer null ∷ []) ≡ method_called
method_calls = refl

method_calls_too : questions_of method_script (answer object ∷ answer f ∷ answer null ∷ []) ≡ method_called
method_calls_too = refl

method_ends : outcome_of (script method) (answer object ∷ answer f ∷ answer null ∷ []) ≡ finished
method_ends = refl

method_ends_too : outcome_of method_script (answer object ∷ answer f ∷ answer null ∷ []) ≡ finished
method_ends_too = refl

-- cut short after two questions
method_null : questions_of (script method) (answer object ∷ answer null ∷ []) ≡ get object (text (codes "b")) ∷ read (codes "a") ∷ []
method_null = refl

method_null_too : questions_of method_script (answer object ∷ answer null ∷ []) ≡ get object (text (codes "b")) ∷ read (codes "a") ∷ []
method_null_too = refl

method_null_ends : outcome_of (script method) (answer object ∷ answer undefined ∷ []) ≡ finished
method_null_ends = refl

method_null_ends_too : outcome_of method_script (answer object ∷ answer undefined ∷ []) ≡ finished
method_null_ends_too = refl

-- false is not nullish, and not callable
method_false : outcome_of (script method) (answer object ∷ answer (boolean false) ∷ []) ≡ called_uncallable
method_false = refl

method_throws : outcome_of (script method) (answer object ∷ answer f ∷ throw (text (codes "x")) ∷ []) ≡ threw (text (codes "x"))
method_throws = refl

method_throws_too : outcome_of method_script (answer object ∷ answer f ∷ throw (text (codes "x")) ∷ []) ≡ threw (text (codes "x"))
method_throws_too = refl

-- the temporaries hold the callee and its object
method_cell : cells (state_of (run method_script undefined (answer object ∷ answer f ∷ answer null ∷ []))) (codes "_a$b") ≡ holds f
method_cell = refl

method_receiver_cell : cells (state_of (run method_script undefined (answer object ∷ answer f ∷ answer null ∷ []))) (codes "_a") ≡ holds object
method_receiver_cell = refl

-- `a?.()?.()`

abbrev twice : Tree
twice = chain_node (call_node true (call_node true a empty) empty)

-- `(_a = a) === null || _a === void 0 || (_a2 = _a()) === null || _a2 === void 0 ? void 0 : _a2()`
abbrev twice_over : Text → Tree
twice_over y = conditional_node (or_node (or_node (or_node (is_null_node (stores_node (codes "_a") a)) (is_undefined_node (codes "_a"))) (is_null_node (stores_node y (call_node false (identifier (codes "_a")) empty)))) (is_undefined_node y)) void_zero_node (call_node false (identifier y) empty)

abbrev twice_script : Tree
twice_script = script_with (codes "_a") (codes "_a2") (twice_over (codes "_a2"))

-- both calls have no receiver
abbrev twice_called : List Question
twice_called = call g undefined none ∷ call f undefined none ∷ read (codes "a") ∷ []

twice_calls : questions_of (script twice) (answer f ∷ answer g ∷ answer null ∷ []) ≡ twice_called
twice_calls = refl

twice_calls_too : questions_of twice_script (answer f ∷ answer g ∷ answer null ∷ []) ≡ twice_called
twice_calls_too = refl

twice_ends_too : outcome_of twice_script (answer f ∷ answer g ∷ answer null ∷ []) ≡ finished
twice_ends_too = refl

-- null for `a`: one question
twice_null : questions_of (script twice) (answer null ∷ []) ≡ read (codes "a") ∷ []
twice_null = refl

twice_null_too : questions_of twice_script (answer null ∷ []) ≡ read (codes "a") ∷ []
twice_null_too = refl

twice_null_ends : outcome_of (script twice) (answer null ∷ []) ≡ finished
twice_null_ends = refl

twice_null_ends_too : outcome_of twice_script (answer null ∷ []) ≡ finished
twice_null_ends_too = refl

-- undefined from the first call: two
twice_undefined : questions_of (script twice) (answer f ∷ answer undefined ∷ []) ≡ call f undefined none ∷ read (codes "a") ∷ []
twice_undefined = refl

twice_undefined_too : questions_of twice_script (answer f ∷ answer undefined ∷ []) ≡ call f undefined none ∷ read (codes "a") ∷ []
twice_undefined_too = refl

twice_undefined_ends_too : outcome_of twice_script (answer f ∷ answer undefined ∷ []) ≡ finished
twice_undefined_ends_too = refl

-- `(a?.b).c?.d`

abbrev inner : Tree
inner = chain_node (optional_member a (identifier (codes "b")))

abbrev outer : Tree
outer = chain_node (optional_member (member_node false (parenthesized_node inner) (identifier (codes "c"))) (identifier (codes "d")))

-- `(_a = a) === null || _a === void 0 ? void 0 : _a.b`
abbrev inner_lowered : Tree
inner_lowered = conditional_node (or_node (is_null_node (stores_node (codes "_a") a)) (is_undefined_node (codes "_a"))) void_zero_node (member_node false (identifier (codes "_a")) (identifier (codes "b")))

-- `(_a$b$c = (e).c) === null || _a$b$c === void 0 ? void 0 : _a$b$c.d`
abbrev outer_over : Tree → Tree
outer_over e = conditional_node (or_node (is_null_node (stores_node (codes "_a$b$c") (member_node false (parenthesized_node e) (identifier (codes "c"))))) (is_undefined_node (codes "_a$b$c"))) void_zero_node (member_node false (identifier (codes "_a$b$c")) (identifier (codes "d")))

abbrev outer_script : Tree
outer_script = script_with (codes "_a$b$c") (codes "_a") (outer_over inner_lowered)

-- null for `a`: the inner chain ends in its parentheses, and `c` is asked of undefined
abbrev outer_null : List Question
outer_null = get undefined (text (codes "c")) ∷ read (codes "a") ∷ []

null_goes_on : questions_of (script outer) (answer null ∷ throw (text (codes "x")) ∷ []) ≡ outer_null
null_goes_on = refl

null_goes_on_too : questions_of outer_script (answer null ∷ throw (text (codes "x")) ∷ []) ≡ outer_null
null_goes_on_too = refl

null_throws : outcome_of (script outer) (answer null ∷ throw (text (codes "x")) ∷ []) ≡ threw (text (codes "x"))
null_throws = refl

null_throws_too : outcome_of outer_script (answer null ∷ throw (text (codes "x")) ∷ []) ≡ threw (text (codes "x"))
null_throws_too = refl

-- null for `c`: `d` isn't asked
abbrev outer_cut : List Question
outer_cut = get (number (codes "7")) (text (codes "c")) ∷ get object (text (codes "b")) ∷ read (codes "a") ∷ []

cut_at_d : questions_of (script outer) (answer object ∷ answer (number (codes "7")) ∷ answer null ∷ []) ≡ outer_cut
cut_at_d = refl

cut_at_d_too : questions_of outer_script (answer object ∷ answer (number (codes "7")) ∷ answer null ∷ []) ≡ outer_cut
cut_at_d_too = refl

cut_ends_too : outcome_of outer_script (answer object ∷ answer (number (codes "7")) ∷ answer null ∷ []) ≡ finished
cut_ends_too = refl

-- values all the way
abbrev outer_all : List Question
outer_all = get (boolean false) (text (codes "d")) ∷ get (number (codes "7")) (text (codes "c")) ∷ get object (text (codes "b")) ∷ read (codes "a") ∷ []

asks_all : questions_of (script outer) (answer object ∷ answer (number (codes "7")) ∷ answer (boolean false) ∷ answer null ∷ []) ≡ outer_all
asks_all = refl

asks_all_too : questions_of outer_script (answer object ∷ answer (number (codes "7")) ∷ answer (boolean false) ∷ answer null ∷ []) ≡ outer_all
asks_all_too = refl

-- BY THE ROWS

-- no name of these programs is bound
abbrev Becomes : Tree → List Text → Tree → Tree → Type 0
Becomes p xs e d = OptionalChainingRule false none_hidden none_hidden (is_among (names_of (script p))) xs the_value e d

method_row : Becomes method (codes "_a$b" ∷ codes "_a" ∷ []) method method_lowered
method_row =
    by_tests refl
    (marked_call refl (same_spine refl (plain_member refl (base refl)))
    (by_first_member refl refl refl (record { number = 0; name = refl; free = refl; first = λ m h. absurd (omega arith) }) (by_temporary refl refl (record { number = 0; name = refl; free = refl; first = λ m h. absurd (omega arith) })))) refl

-- whatever the second name is
twice_row : (y : Text) → IsFreshName (also_all (codes "_a" ∷ []) (is_among (names_of (script twice)))) (codes "a") y → Becomes twice (codes "_a" ∷ y ∷ []) twice (twice_over y)
twice_row y fresh =
    by_tests refl
    (marked_call refl (same_spine refl (marked_call refl (same_spine refl (base refl)) (by_value (λ e. refl) refl (record { number = 0; name = refl; free = refl; first = λ m h. absurd (omega arith) })))) (by_value (λ e. refl) refl fresh)) refl

-- `a?.().s?.()`: the receiver's name is made before the callee's, which is named after the member with the receiver in it
abbrev later : Tree
later = chain_node (call_node true (member_node false (call_node true a empty) (identifier (codes "s"))) empty)

-- `(_a = a) === null || _a === void 0 || (c = (_a2 = _a()).s) === null || c === void 0 ? void 0 : c.call(_a2)`
abbrev later_over : Text → Tree
later_over c = conditional_node (or_node (or_node (or_node (is_null_node (stores_node (codes "_a") a)) (is_undefined_node (codes "_a"))) (is_null_node (stores_node c (member_node false (stores_node (codes "_a2") (call_node false (identifier (codes "_a")) empty)) (identifier (codes "s")))))) (is_undefined_node c)) void_zero_node (call_node false (member_node false (identifier c) (identifier (codes "call"))) (identifier (codes "_a2") before empty))

later_row : (c : Text) → IsFreshName (also_all (codes "_a" ∷ []) (is_among (names_of (script later)))) (codes "a") (codes "_a2") → IsFreshName (also_all (codes "_a" ∷ codes "_a2" ∷ []) (is_among (names_of (script later)))) (codes "a2$s") c → Becomes later (codes "_a" ∷ codes "_a2" ∷ c ∷ []) later (later_over c)
later_row c receiver callee =
    by_tests refl
    (marked_call refl (same_spine refl (plain_member refl (marked_call refl (same_spine refl (base refl)) (by_value (λ e. refl) refl (record { number = 0; name = refl; free = refl; first = λ m h. absurd (omega arith) })))))
    (by_later_member refl refl refl (by_temporary refl refl receiver) callee)) refl

-- an inner chain that a marked member goes on with is no place of a row
no_place : {no_all form : Bool} {bound steady in_use : Text → Bool} {xs : List Text} {m : Label} {e d : Tree} → OptionalChainingRule no_all bound steady in_use xs (object_need form true) (node ChainExpression m (one e then done)) d → ⊥
no_place (by_tests level walked tested) = absurd (cc level)
no_place (as_callee level walked tested callee) = absurd (cc level)

-- a name that is bound, by the source or as a fresh one, is never stored once more
names_stand : {no_all : Bool} {bound in_use : Text → Bool} {w u : Way} → Tested no_all bound in_use w u → w.tests ≡ [] → w.holder ≡ None → is_name_among bound (without_parens w.current) ≡ true → u.taken ≡ w.taken
names_stand (as_name untested named) tests holder named_one = refl
names_stand (in_holder held) tests holder named_one = refl
names_stand (in_temporary other unheld fresh) tests holder named_one = absurd (cc (other tests, named_one))

-- the outer chain first, as a visit from outside in comes to it
outer_row : Becomes outer (codes "_a$b$c" ∷ []) outer (outer_over inner)
outer_row =
    by_tests refl
    (marked_member refl (same_spine refl (plain_member refl (base refl))) (in_temporary (λ e. refl) refl (record { number = 0; name = refl; free = refl; first = λ m h. absurd (omega arith) }))) refl

inner_row : Becomes outer (codes "_a" ∷ []) inner inner_lowered
inner_row =
    by_tests refl
    (marked_member refl (same_spine refl (base refl)) (in_temporary (λ e. refl) refl (record { number = 0; name = refl; free = refl; first = λ m h. absurd (omega arith) }))) refl

-- `(a?.b)()`, WHOSE CALL HAS `a` AS RECEIVER, AND `delete a?.b`

abbrev bound_call : Tree
bound_call = call_node false (parenthesized_node inner) empty

-- `(_a = a) === null || _a === void 0 ? void 0 : _a.b.bind(_a)`
abbrev inner_bound : Tree
inner_bound = conditional_node (or_node (is_null_node (stores_node (codes "_a") a)) (is_undefined_node (codes "_a"))) void_zero_node (call_node false (member_node false (member_node false (identifier (codes "_a")) (identifier (codes "b"))) (identifier (codes "bind"))) (identifier (codes "_a") before empty))

abbrev with_one : Tree → Tree
with_one e = program (made [] []) empty (var_statement (codes "_a") before statement e before empty)

bound_calls : questions_of (script bound_call) (answer object ∷ answer f ∷ answer null ∷ []) ≡ method_called
bound_calls = refl

bound_calls_too : questions_of (with_one (call_node false (parenthesized_node inner_bound) empty)) (answer object ∷ answer f ∷ answer null ∷ []) ≡ method_called
bound_calls_too = refl

-- with null for `a` what is called isn't callable
bound_null : outcome_of (script bound_call) (answer null ∷ []) ≡ called_uncallable
bound_null = refl

bound_row : OptionalChainingRule false none_hidden none_hidden (is_among (names_of (script bound_call))) (codes "_a" ∷ []) (the_callee false) inner inner_bound
bound_row =
    as_callee refl
    (marked_member refl (same_spine refl (base refl)) (in_temporary (λ e. refl) refl (record { number = 0; name = refl; free = refl; first = λ m h. absurd (omega arith) }))) refl
    (to_object refl (by_name refl refl))

abbrev deletion : Tree
deletion = delete_node inner

-- `(_a = a) === null || _a === void 0 ? true : delete _a.b`
abbrev deletion_lowered : Tree
deletion_lowered = conditional_node (or_node (is_null_node (stores_node (codes "_a") a)) (is_undefined_node (codes "_a"))) true_node (delete_node (member_node false (identifier (codes "_a")) (identifier (codes "b"))))

deletes : questions_of (script deletion) (answer object ∷ answer (boolean true) ∷ []) ≡ delete object (text (codes "b")) ∷ read (codes "a") ∷ []
deletes = refl

deletes_too : questions_of (with_one deletion_lowered) (answer object ∷ answer (boolean true) ∷ []) ≡ delete object (text (codes "b")) ∷ read (codes "a") ∷ []
deletes_too = refl

deletes_nothing : questions_of (script deletion) (answer undefined ∷ []) ≡ read (codes "a") ∷ []
deletes_nothing = refl

deletes_nothing_too : questions_of (with_one deletion_lowered) (answer undefined ∷ []) ≡ read (codes "a") ∷ []
deletes_nothing_too = refl

deletion_row : Becomes deletion (codes "_a" ∷ []) deletion deletion_lowered
deletion_row =
    in_delete refl refl
    (marked_member refl (same_spine refl (base refl)) (in_temporary (λ e. refl) refl (record { number = 0; name = refl; free = refl; first = λ m h. absurd (omega arith) }))) refl

-- WHERE NO VALUE IS `document.all`

-- `a == null ? void 0 : a.b`
abbrev inner_loose : Tree
inner_loose = conditional_node (binary_node (codes "==") a null_node) void_zero_node (member_node false a (identifier (codes "b")))

-- a name that is bound is read again
loose_row : OptionalChainingRule true (only (codes "a")) none_hidden (is_among (names_of (script inner))) [] the_value inner inner_loose
loose_row = by_tests refl (marked_member refl (same_spine refl (base refl)) (as_name refl refl)) refl

-- `var a; a = c; e`
abbrev with_a : Tree → Tree
with_a e = program (made [] []) empty (var_statement (codes "a") before statement (assign_node a (identifier (codes "c"))) before statement e before empty)

abbrev questions_where : Bool → Tree → List Move → List Question
questions_where counts p moves = asked (state_of (run_where counts (declared_of p) p undefined moves))

loose_asks : questions_where false (with_a inner) (answer object ∷ answer null ∷ []) ≡ get object (text (codes "b")) ∷ read (codes "c") ∷ []
loose_asks = refl

loose_asks_too : questions_where false (with_a inner_loose) (answer object ∷ answer null ∷ []) ≡ get object (text (codes "b")) ∷ read (codes "c") ∷ []
loose_asks_too = refl

loose_null : questions_where false (with_a inner) (answer null ∷ []) ≡ read (codes "c") ∷ []
loose_null = refl

loose_null_too : questions_where false (with_a inner_loose) (answer null ∷ []) ≡ read (codes "c") ∷ []
loose_null_too = refl

-- where `document.all` counts, the two differ at it: it isn't nullish, and `== null` holds of it
abbrev all : Value
all = host 4 true false true

all_asks : questions_where true (with_a inner) (answer all ∷ answer null ∷ []) ≡ get all (text (codes "b")) ∷ read (codes "c") ∷ []
all_asks = refl

all_is_cut : questions_where true (with_a inner_loose) (answer all ∷ answer null ∷ []) ≡ read (codes "c") ∷ []
all_is_cut = refl
