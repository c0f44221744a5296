-- What each kind of core expression means: the evaluation of ECMA-262, clause 13, as a computation that gives a reference.
use Rattle.std.specs.Prelude.{Bool, true, false, Option, List, [], ◌∷◌, bytes_eq, if◌then◌else◌, codes, ◌&&◌, ◌||◌, not}
use Rattle.es_tree.specs.Words.{Text}
use Rattle.es_tree.specs.Core.{is_core_kind}
use Rattle.es_tree.specs.Names.{first_text as first}
use Rattle.es_tree.specs.declared.ast_type.AstType.{AstType}
use Rattle.es_tree.specs.Tree.{Tree, Fields, Field, Trees, kind_of}
use Rattle.es_tree.specs.declared.ast_type.AstType.TheVariants.{Program, ExpressionStatement, VariableDeclaration, VariableDeclarator, Identifier, ThisExpression, NullLiteral, BooleanLiteral, NumericLiteral, BigIntLiteral, StringLiteral, UnaryExpression, UpdateExpression, BinaryExpression, LogicalExpression, ConditionalExpression, AssignmentExpression, SequenceExpression, MemberExpression, CallExpression, NewExpression, ChainExpression, ParenthesizedExpression, ObjectTarget, ArrayTarget, TargetWithDefault, ObjectPattern, ArrayPattern, AssignmentPattern, Super, PrivateIdentifier, SpreadElement}
use Rattle.es_tree.specs.Tree.{node}
use Rattle.es_tree.specs.Tree.{done, ◌then◌}
use Rattle.es_tree.specs.Tree.{missing, one, many, statements}
use Rattle.es_tree.specs.Tree.{empty, ◌before◌}
use Rattle.es_runs.specs.Machine.{Value, Values, Cell, Result, M, ◌>>=◌, return, stop, ask, cell_of, set_cell, is_nullish, is_callable, is_loosely_nullish, is_undefined, is_null, is_true, do_call}
use Rattle.es_runs.specs.Machine.Value.{undefined, null, boolean, number, bigint, text, bound, unset_error, constant_error}
use Rattle.es_runs.specs.Machine.Values.{none, ◌and◌}
use Rattle.es_runs.specs.Machine.Question.{read, typeof_read, write, get, delete, put, construct, operator}
use Rattle.es_runs.specs.Machine.Cell.{unset, holds}
use Rattle.es_runs.specs.Machine.Stop.{faults, uncallable, cut, unknown}
use Rattle.es_runs.specs.Machine.Result.{gives, stops}

-- What a name may stand for that is used without a question: a helper of the runtime, or a constant list of keys. No name of a
-- core program does.
pub data Silent : Type 0 where
  helper_name : Text → Silent
  keys_name : Values → Silent

pub data Binding : Type 0 where
  free changeable constant : Binding
  silent : Silent → Binding

-- What doesn't change in a run: how each name is bound, the value of `this`, whether `document.all` counts as null for `==`,
-- what a node gives that isn't core, and whether spreads stand among arguments. `document.all` counts (ECMA-262, B.3.6.2);
-- where no value is `document.all`, both machines do the same. In the runs of core programs what isn't core means nothing.
pub record World : Type 0 where
  pub scope : Text → Binding
  pub this : Value
  pub counts_all : Bool
  pub other : Tree → M Value
  pub spreads : Bool

-- A reference is a name, or an object with a key; anything else is a plain value (ECMA-262, 6.2.5).
pub data Reference : Type 0 where
  named : Text → Reference
  property : Value → Value → Reference
  plain : Value → Reference

-- The forms that the silent meanings ask for, read off the tree alone.
pub data Form : Type 0 where
  word : Text → Form
  null_form zero_form void_zero math_pow member_call member_bind other : Form

-- What a node means: its evaluation, and its form.
pub record Meaning : Type 0 where
  pub reference : M Reference
  pub form : Form

-- a binding that isn't initialised can't be read (ECMA-262, 9.1.1.1.6)
abbrev pub read_cell : Text → Cell → M Value
read_cell x unset = stop (faults (unset_error x))
read_cell x (holds v) = return v

abbrev pub read_name : Text → Binding → M Value
read_name x free = ask (read x)
read_name x changeable = cell_of x >>= read_cell x
read_name x constant = cell_of x >>= read_cell x
read_name x (silent s) = cell_of x >>= read_cell x

-- the value that a reference has (GetValue, ECMA-262, 6.2.5.5)
abbrev pub get_value : World → Reference → M Value
get_value w (named x) = read_name x (w.scope x)
get_value w (property o k) = ask (get o k)
get_value w (plain v) = return v

-- nor can it be written, and a constant is never written (ECMA-262, 9.1.1.1.5)
abbrev pub change_cell : Text → Value → Cell → M Value
change_cell x v unset = stop (faults (unset_error x))
change_cell x v (holds old) = set_cell x v

abbrev pub keep_cell : Text → Cell → M Value
keep_cell x unset = stop (faults (unset_error x))
keep_cell x (holds old) = stop (faults (constant_error x))

abbrev pub write_name : Text → Value → Binding → M Value
write_name x v free = ask (write x v) >>= λ _. return v
write_name x v changeable = cell_of x >>= change_cell x v
write_name x v constant = cell_of x >>= keep_cell x
write_name x v (silent s) = cell_of x >>= keep_cell x

-- puts a value, and gives it (PutValue, ECMA-262, 6.2.5.6)
abbrev pub put_value : World → Reference → Value → M Value
put_value w (named x) v = write_name x v (w.scope x)
put_value w (property o k) v = ask (put o k v) >>= λ _. return v
put_value w (plain u) v = stop unknown

abbrev pub value : World → Meaning → M Value
value w e = e.reference >>= get_value w

-- arguments, from left to right (ECMA-262, 13.3.8)
abbrev pub values : World → List Meaning → M Values
values w [] = return none
values w (e ∷ es) = value w e >>= λ v. values w es >>= λ vs. return (v and vs)

abbrev pub as_plain : Value → M Reference
as_plain v = return (plain v)

-- an evaluation that gives no reference
abbrev pub gives_value : M Value → Meaning
gives_value m = record { reference = m >>= as_plain; form = other }

abbrev pub nothing : Meaning
nothing = record { reference = stop unknown; form = other }

abbrev pub literal : Value → Form → Meaning
literal v f = record { reference = return (plain v); form = f }

abbrev pub name : Text → Meaning
name x = record { reference = return (named x); form = word x }

-- MEMBERS (ECMA-262, 13.3.2 and 13.3.3)

abbrev pub cut_where : {A : Type 0} → Bool → M A → M A
cut_where true m = stop cut
cut_where false m = m

abbrev pub word_of : Form → Value
word_of (word x) = text x
word_of _ = undefined

abbrev pub key : World → Bool → Meaning → M Value
key w true e = value w e
key w false e = return (word_of e.form)

abbrev pub is_free : Binding → Bool
is_free free = true
is_free _ = false

abbrev pub is_math : World → Text → Bool
is_math w x = bytes_eq x (codes "Math") && is_free (w.scope (codes "Math"))

abbrev pub pow_form : World → Bool → Form → Form
pow_form w false (word x) = if is_math w x then math_pow else other
pow_form w _ _ = other

abbrev pub static_form : World → Bool → Form → Text → Form
static_form w optional object p =
    if bytes_eq p (codes "call") then member_call
    else (if bytes_eq p (codes "bind") then member_bind
    else (if bytes_eq p (codes "pow") then pow_form w optional object else other))

abbrev pub member_form : World → Bool → Bool → Form → Form → Form
member_form w false optional object (word p) = static_form w optional object p
member_form w _ _ _ _ = other

abbrev pub member : World → Bool → Bool → Meaning → Meaning → Meaning
member w computed optional object p = record {
  reference = value w object >>= λ o. cut_where (optional && is_nullish o) (key w computed p >>= λ k. return (property o k));
  form = member_form w computed optional object.form p.form;
}

-- CALLS (ECMA-262, 13.3.6) AND `new` (13.3.5)

abbrev pub receiver : Reference → Value
receiver (property o k) = o
receiver _ = undefined

abbrev pub run_call : World → Bool → List Meaning → Value → Value → M Value
run_call w true es f r = values w es >>= do_call f r
run_call w false es f r = stop uncallable

abbrev pub plain_call : World → Bool → List Meaning → Reference → M Value
plain_call w optional es r =
    get_value w r >>= λ f. cut_where (optional && is_nullish f) (run_call w (is_callable f) es f (receiver r))

-- A callee that can be called, with its receiver.
pub data Called : Type 0 where
  called : Value → Value → Called

abbrev pub tested_callee : Bool → Value → Value → M Called
tested_callee true f r = return (called f r)
tested_callee false f r = stop uncallable

abbrev pub callee_from : World → Reference → M Called
callee_from w r = get_value w r >>= λ f. tested_callee (is_callable f) f (receiver r)

abbrev pub apply_call : Value → Values → M Value
apply_call f none = do_call f undefined none
apply_call f (r and vs) = do_call f r vs

abbrev pub apply_bind : Value → Values → M Value
apply_bind f none = return (bound f undefined none)
apply_bind f (r and vs) = return (bound f r vs)

-- a call of the method `call` or `bind` of a callable object is silent itself
abbrev pub method_call : World → (Value → Values → M Value) → List Meaning → Reference → M Value
method_call w apply es (property o k) =
    if is_callable o then (values w es >>= apply o) else plain_call w false es (property o k)
method_call w apply es r = plain_call w false es r

abbrev pub ask_pow : World → Meaning → Meaning → M Value
ask_pow w a b = value w a >>= λ x. value w b >>= λ y. ask (operator (codes "**") (x and y and none))

abbrev pub unmarked_call : World → Form → M Reference → List Meaning → M Value
unmarked_call w math_pow callee (a ∷ b ∷ []) = ask_pow w a b
unmarked_call w member_call callee es = callee >>= method_call w apply_call es
unmarked_call w member_bind callee es = callee >>= method_call w apply_bind es
unmarked_call w form callee es = callee >>= plain_call w false es

abbrev pub call_value : World → Bool → Meaning → List Meaning → M Value
call_value w true callee es = callee.reference >>= plain_call w true es
call_value w false callee es = unmarked_call w callee.form callee.reference es

abbrev pub call_of : World → Bool → Meaning → List Meaning → Meaning
call_of w optional callee es = gives_value (call_value w optional callee es)

abbrev pub new_of : World → Meaning → List Meaning → Meaning
new_of w callee es = gives_value (value w callee >>= λ f. values w es >>= λ vs. ask (construct f vs))

-- CHAINS (ECMA-262, 13.3.9) AND PARENTHESES (13.2.9)

abbrev pub closed_result : Result Reference → Result Reference
closed_result (gives r s) = gives r s
closed_result (stops cut s) = gives (plain undefined) s
closed_result (stops w s) = stops w s

abbrev pub chain : Meaning → Meaning
chain e = record { reference = λ s. closed_result (e.reference s); form = other }

abbrev pub parenthesized : Meaning → Meaning
parenthesized e = record { reference = e.reference; form = other }

-- OPERATORS: unary (ECMA-262, 13.5), equality (13.11), other binary ones (13.6 to 13.12), logical (13.13), conditional
-- (13.14), comma (13.16), assignment (13.15) and update (13.4)

-- `typeof` of a name that isn't bound throws nothing (ECMA-262, 13.5.3)
abbrev pub typeof_name : Text → Binding → M Value
typeof_name x free = ask (typeof_read x)
typeof_name x b = read_name x b >>= λ v. ask (operator (codes "typeof") (v and none))

abbrev pub typeof_value : World → Reference → M Value
typeof_value w (named x) = typeof_name x (w.scope x)
typeof_value w r = get_value w r >>= λ v. ask (operator (codes "typeof") (v and none))

-- `delete` (ECMA-262, 13.5.1)
abbrev pub delete_value : World → Reference → M Value
delete_value w (property o k) = ask (delete o k)
delete_value w r = get_value w r >>= λ v. return (boolean true)

abbrev pub void_form : Form → Form
void_form zero_form = void_zero
void_form _ = other

pub data UnaryClass : Type 0 where
  typeof_class delete_class void_class not_class asked_class : UnaryClass

abbrev pub unary_class : Text → UnaryClass
unary_class op =
    if bytes_eq op (codes "typeof") then typeof_class
    else (if bytes_eq op (codes "delete") then delete_class
    else (if bytes_eq op (codes "void") then void_class
    else (if bytes_eq op (codes "!") then not_class else asked_class)))

abbrev pub unary_by : World → UnaryClass → Text → Meaning → Meaning
unary_by w typeof_class op e = gives_value (e.reference >>= typeof_value w)
unary_by w delete_class op e = gives_value (e.reference >>= delete_value w)
unary_by w void_class op e = record { reference = value w e >>= λ v. as_plain undefined; form = void_form e.form }
unary_by w not_class op e = gives_value (value w e >>= λ v. return (boolean (not (is_true v))))
unary_by w asked_class op e = gives_value (value w e >>= λ v. ask (operator op (v and none)))

abbrev pub unary : World → Text → Meaning → Meaning
unary w op e = unary_by w (unary_class op) op e

abbrev pub is_equality : Text → Bool
is_equality op = bytes_eq op (codes "===") || bytes_eq op (codes "!==") || bytes_eq op (codes "==") || bytes_eq op (codes "!=")

abbrev pub compared : Bool → Text → (Value → Bool) → Value → Bool
compared counts op strictly v =
    if bytes_eq op (codes "===") then strictly v
    else (if bytes_eq op (codes "!==") then not (strictly v)
    else (if bytes_eq op (codes "==") then is_loosely_nullish counts v else not (is_loosely_nullish counts v)))

abbrev pub asked_binary : World → Text → Meaning → Meaning → M Value
asked_binary w op l r = value w l >>= λ x. value w r >>= λ y. ask (operator op (x and y and none))

abbrev pub equality : World → Text → Meaning → Meaning → Form → M Value
equality w op l r null_form = value w l >>= λ v. return (boolean (compared w.counts_all op is_null v))
equality w op l r void_zero = value w l >>= λ v. return (boolean (compared w.counts_all op is_undefined v))
equality w op l r _ = asked_binary w op l r

abbrev pub binary : World → Text → Meaning → Meaning → Meaning
binary w op l r = gives_value (if is_equality op then equality w op l r r.form else asked_binary w op l r)

-- whether a logical operator asks for its right side
abbrev pub goes_right : Text → Value → Bool
goes_right op v =
    if bytes_eq op (codes "||") then not (is_true v)
    else (if bytes_eq op (codes "&&") then is_true v else is_nullish v)

abbrev pub logical : World → Text → Meaning → Meaning → Meaning
logical w op l r = gives_value (value w l >>= λ v. if goes_right op v then value w r else return v)

abbrev pub conditional : World → Meaning → Meaning → Meaning → Meaning
conditional w test a b = gives_value (value w test >>= λ v. if is_true v then value w a else value w b)

abbrev pub last_value : World → Value → List Meaning → M Value
last_value w v [] = return v
last_value w v (e ∷ es) = value w e >>= λ u. last_value w u es

abbrev pub sequence : World → List Meaning → Meaning
sequence w es = gives_value (last_value w undefined es)

-- `+=` without its `=`
abbrev pub without_last : Text → Text
without_last [] = []
without_last (c ∷ []) = []
without_last (c ∷ d ∷ cs) = c ∷ without_last (d ∷ cs)

abbrev pub is_logical : Text → Bool
is_logical op = bytes_eq op (codes "||") || bytes_eq op (codes "&&") || bytes_eq op (codes "??")

abbrev pub assign_logical : World → Text → Meaning → Reference → M Value
assign_logical w op e r =
    get_value w r >>= λ v. if goes_right op v then (value w e >>= put_value w r) else return v

abbrev pub assign_compound : World → Text → Meaning → Reference → M Value
assign_compound w op e r =
    get_value w r >>= λ v. value w e >>= λ u. ask (operator op (v and u and none)) >>= put_value w r

pub data AssignClass : Type 0 where
  plainly logically compound : AssignClass

abbrev pub assign_class : Text → AssignClass
assign_class op = if bytes_eq op (codes "=") then plainly else (if is_logical (without_last op) then logically else compound)

abbrev pub assigned : World → AssignClass → Text → Meaning → Reference → M Value
assigned w plainly op e r = value w e >>= put_value w r
assigned w logically op e r = assign_logical w (without_last op) e r
assigned w compound op e r = assign_compound w (without_last op) e r

abbrev pub assignment : World → Text → Meaning → Meaning → Meaning
assignment w op target e = gives_value (target.reference >>= assigned w (assign_class op) op e)

abbrev pub update_at : World → Text → Bool → Reference → M Value
update_at w op prefix r =
    get_value w r >>= λ v. ask (operator (codes "numeric") (v and none)) >>= λ old. ask (operator op (old and none)) >>= λ new.
    put_value w r new >>= λ _. return (if prefix then new else old)

abbrev pub update : World → Text → Bool → Meaning → Meaning
update w op prefix target = gives_value (target.reference >>= update_at w op prefix)

-- STATEMENTS (ECMA-262, 14.2, 14.3 and 14.5), which give undefined

abbrev pub in_order : World → List Meaning → M Value
in_order w [] = return undefined
in_order w (e ∷ es) = value w e >>= λ v. in_order w es

abbrev pub initialise : Value → Reference → M Value
initialise v (named x) = set_cell x v
initialise v _ = stop unknown

-- with no initialiser it gives the name itself, for the declaration to settle
abbrev pub declarator : World → Meaning → Meaning → Meaning
declarator w id init = gives_value (id.reference >>= λ r. value w init >>= λ v. initialise v r)

abbrev pub settle : Bool → Reference → M Value
settle true (named x) = set_cell x undefined
settle _ _ = return undefined

abbrev pub declared : Bool → List Meaning → M Value
declared lets [] = return undefined
declared lets (d ∷ ds) = d.reference >>= λ r. settle lets r >>= λ _. declared lets ds

-- KINDS

pub data Part : Type 0 where
  absent : Part
  single : Meaning → Part
  several : List Meaning → Part

abbrev pub second : List (Option Text) → Text
second [] = []
second (t ∷ ts) = first ts

abbrev pub flag : List Bool → Bool
flag [] = false
flag (b ∷ bs) = b

abbrev pub flag_after : List Bool → Bool
flag_after [] = false
flag_after (b ∷ bs) = flag bs

abbrev pub of_one : (Meaning → Meaning) → List Part → Meaning
of_one f (single a ∷ []) = f a
of_one f _ = nothing

abbrev pub of_two : (Meaning → Meaning → Meaning) → List Part → Meaning
of_two f (single a ∷ single b ∷ []) = f a b
of_two f _ = nothing

abbrev pub of_three : (Meaning → Meaning → Meaning → Meaning) → List Part → Meaning
of_three f (single a ∷ single b ∷ single c ∷ []) = f a b c
of_three f _ = nothing

abbrev pub of_many : (List Meaning → Meaning) → List Part → Meaning
of_many f (several es ∷ []) = f es
of_many f _ = nothing

abbrev pub of_one_many : (Meaning → List Meaning → Meaning) → List Part → Meaning
of_one_many f (single a ∷ several es ∷ []) = f a es
of_one_many f _ = nothing

abbrev pub of_declarator : World → List Part → Meaning
of_declarator w (single id ∷ absent ∷ []) = id
of_declarator w (single id ∷ single init ∷ []) = declarator w id init
of_declarator w _ = nothing

abbrev pub of_program : World → List Part → Meaning
of_program w (several ds ∷ several body ∷ []) = gives_value (in_order w body)
of_program w _ = nothing

abbrev pub number_form : Text → Form
number_form k = if bytes_eq k (codes "0") then zero_form else other

abbrev pub meaning_of : World → AstType → List (Option Text) → List Bool → List Part → Meaning
meaning_of w Identifier ts fs ps = name (first ts)
meaning_of w ThisExpression ts fs ps = literal w.this other
meaning_of w NullLiteral ts fs ps = literal null null_form
meaning_of w BooleanLiteral ts fs ps = literal (boolean (flag fs)) other
meaning_of w NumericLiteral ts fs ps = literal (number (second ts)) (number_form (second ts))
meaning_of w BigIntLiteral ts fs ps = literal (bigint (second ts)) other
meaning_of w StringLiteral ts fs ps = literal (text (first ts)) other
meaning_of w UnaryExpression ts fs ps = of_one (unary w (first ts)) ps
meaning_of w UpdateExpression ts fs ps = of_one (update w (first ts) (flag fs)) ps
meaning_of w BinaryExpression ts fs ps = of_two (binary w (first ts)) ps
meaning_of w LogicalExpression ts fs ps = of_two (logical w (first ts)) ps
meaning_of w ConditionalExpression ts fs ps = of_three (conditional w) ps
meaning_of w AssignmentExpression ts fs ps = of_two (assignment w (first ts)) ps
meaning_of w SequenceExpression ts fs ps = of_many (sequence w) ps
meaning_of w MemberExpression ts fs ps = of_two (member w (flag fs) (flag_after fs)) ps
meaning_of w CallExpression ts fs ps = of_one_many (call_of w (flag fs)) ps
meaning_of w NewExpression ts fs ps = of_one_many (new_of w) ps
meaning_of w ChainExpression ts fs ps = of_one chain ps
meaning_of w ParenthesizedExpression ts fs ps = of_one parenthesized ps
meaning_of w ExpressionStatement ts fs ps = of_one (λ e. gives_value (value w e)) ps
meaning_of w VariableDeclarator ts fs ps = of_declarator w ps
meaning_of w VariableDeclaration ts fs ps = of_many (λ ds. gives_value (declared (bytes_eq (first ts) (codes "let")) ds)) ps
meaning_of w Program ts fs ps = of_program w ps
meaning_of w _ ts fs ps = nothing

-- a pattern as a target, or a target with a default (ECMA-262, 13.15.5 and 14.3.3)
abbrev pub is_pattern : AstType → Bool
is_pattern ObjectTarget = true
is_pattern ArrayTarget = true
is_pattern TargetWithDefault = true
is_pattern ObjectPattern = true
is_pattern ArrayPattern = true
is_pattern AssignmentPattern = true
is_pattern _ = false

-- a node that isn't core by its kind, or as it assigns to a pattern; but `super` and private names, which stand in classes
-- alone, mean nothing
abbrev pub is_other : AstType → Fields → Bool
is_other AssignmentExpression (one t then fs) = is_pattern (kind_of t)
is_other Super fs = false
is_other PrivateIdentifier fs = false
is_other k fs = not (is_core_kind k)

abbrev pub is_spread_kind : AstType → Bool
is_spread_kind SpreadElement = true
is_spread_kind _ = false

abbrev pub begins_with_spread : Trees → Bool
begins_with_spread empty = false
begins_with_spread (t before ts) = is_spread_kind (kind_of t)

abbrev pub has_spread : Trees → Bool
has_spread empty = false
has_spread (t before ts) = is_spread_kind (kind_of t) || has_spread ts

-- with a spread there are not two arguments for `**`, and with a spread in front none is the receiver
abbrev pub form_beside : Bool → Bool → Form → Form
form_beside in_front some math_pow = if some then other else math_pow
form_beside in_front some member_call = if in_front then other else member_call
form_beside in_front some member_bind = if in_front then other else member_bind
form_beside in_front some f = f

abbrev pub with_form : (Form → Form) → Meaning → Meaning
with_form f e = record { reference = e.reference; form = f e.form }

abbrev pub first_formed : (Form → Form) → List Part → List Part
first_formed f (single e ∷ ps) = single (with_form f e) ∷ ps
first_formed f ps = ps

-- what the parts of a node are: those of its fields, but a callee has its form beside its arguments
abbrev pub own_parts : World → AstType → Fields → List Part → List Part
own_parts w CallExpression (f then (many ts then fs)) ps = first_formed (form_beside (w.spreads && begins_with_spread ts) (w.spreads && has_spread ts)) ps
own_parts w k fs ps = ps

abbrev mutual
  pub meaning : World → Tree → Meaning
  meaning w (node k l fs) = if is_other k fs then gives_value (w.other (node k l fs)) else meaning_of w k l.texts l.flags (own_parts w k fs (parts w fs))

  pub parts : World → Fields → List Part
  parts w done = []
  parts w (f then fs) = part w f ∷ parts w fs

  pub part : World → Field → Part
  part w missing = absent
  part w (one n) = single (meaning w n)
  part w (many ns) = several (meanings w ns)
  part w (statements ns) = several (meanings w ns)

  pub meanings : World → Trees → List Meaning
  meanings w empty = []
  meanings w (n before ns) = meaning w n ∷ meanings w ns
