-- What a node means: its meaning as in the core, and what else its parent may take of it. Names, keys, targets and literals.
use Rattle.std.specs.Prelude.{Bool, true, false, List, [], ◌∷◌, Option, Some, None}
use Rattle.es_tree.specs.Words.{Text}
use Rattle.es_runs.specs.Machine.{Value, Values, M, ◌>>=◌, return, stop, ask}
use Rattle.es_runs.specs.Machine.Value.{undefined, text, own}
use Rattle.es_runs.specs.Machine.OwnValue.{list}
use Rattle.es_runs.specs.Machine.Values.{none, ◌and◌}
use Rattle.es_runs.specs.Machine.Question.{of_statement}
use Rattle.es_runs.specs.Machine.StatementQuestion.{array}
use Rattle.es_runs.specs.Machine.Stop.{unknown}
use Rattle.es_runs.specs.Core.{World, Binding, Reference, Meaning, Form, Part, value, values, put_value, get_value, initialise, gives_value, literal, nothing, receiver}
use Rattle.es_runs.specs.Core.Binding.{silent}
use Rattle.es_runs.specs.Core.Silent.{helper_name, keys_name}
use Rattle.es_runs.specs.Core.Form.{word, other}
use Rattle.es_runs.specs.Core.Part.{absent, single, several}
use Rattle.es_statement_runs.specs.Statements.{Clause}
use Rattle.es_statement_runs.specs.Patterns.{Putter, made_object, or_default, Member, property_of, object_pattern, Element, array_pattern, templated_value, tagged}
use Rattle.es_statement_runs.specs.Patterns.Member.{keyed, remaining}
use Rattle.es_statement_runs.specs.Patterns.Element.{elision, takes, takes_rest}
use Rattle.es_statement_runs.specs.Helpers.{Supply}
use Rattle.es_statement_runs.specs.Helpers.Supply.{no_helpers, spread_by_global}

-- Where a node stands: how names are bound there, the labels directly before it, the word of the declaration around it, and
-- how the program gets its helpers.
pub record Place : Type 0 where
  pub world : World
  pub labels : List Text
  pub word : Text
  pub supply : Supply

pub data More : Type 0 where
  nothing_more : More
  -- the key text of a literal
  literal_text : Text → More
  -- a pattern, or a target with a default: its target reference, and what puts a value
  aims : M Putter → More
  -- a declaration as the head of a loop: what puts a value
  heads : M Putter → More
  -- a property of an object pattern, and the rest of a pattern
  member_aims : (Value → M Value) → More
  rest_aims : M Putter → More
  -- a property of an object literal gives this definition, and so does a spread
  defines : M Value → More
  spreads : M Value → More
  -- an object literal, or a call of `objectSpread2`: whether it is `{}`, and its definitions
  object_of : Bool → M Values → More
  -- what stands for excluded keys, and the method `map` of it
  keys_of : M Values → More
  maps : M Values → More
  -- a part of a template; a template's raw and cooked texts, its text where it has no expressions, and its expressions
  quasi : Text → Option Text → More
  template_of : Values → Values → Option Text → M Values → More
  -- a callee that is a helper; a static member with a key that stacks have: the key, and its reference
  helper_call : Text → More
  stack_member : Text → M Reference → More
  clause_of : Clause → More
  handles : (Value → M Value) → More
  -- an import's names there and here; what a statement asks before the first one
  imports : Text → Text → More
  begins : M Value → More

pub record Sense : Type 0 where
  pub core : Meaning
  pub more : More

pub data Portion : Type 0 where
  gap : Portion
  alone : Sense → Portion
  rows : List Sense → Portion

abbrev pub cores : List Sense → List Meaning
cores [] = []
cores (e ∷ es) = e.core ∷ cores es

abbrev pub core_part : Portion → Part
core_part gap = absent
core_part (alone e) = single e.core
core_part (rows es) = several (cores es)

abbrev pub core_parts : List Portion → List Part
core_parts [] = []
core_parts (x ∷ xs) = core_part x ∷ core_parts xs

abbrev pub plain_sense : Meaning → Sense
plain_sense m = record { core = m; more = nothing_more }

abbrev pub ends : M Value → Sense
ends m = plain_sense (gives_value m)

abbrev pub only_more : More → Sense
only_more x = record { core = nothing; more = x }

-- NAMES AND KEYS

abbrev pub word_text : Form → Text
word_text (word x) = x
word_text _ = []

-- the text of a key that isn't computed
abbrev pub static_by : More → Form → Text
static_by (literal_text t) f = t
static_by _ f = word_text f

abbrev pub static_text : Sense → Text
static_text e = static_by e.more e.core.form

abbrev pub key_value : World → Bool → Sense → M Value
key_value w true e = value w e.core
key_value w false e = return (text (static_text e))

-- the key text of a literal key, or of a template without expressions
abbrev pub literal_key : More → Option Text
literal_key (literal_text t) = Some t
literal_key (template_of raws cooked t es) = t
literal_key _ = None

-- an excluded key is the key text of a literal or static key, else the key's value
abbrev pub excluded_text : Bool → Sense → Option Text
excluded_text true e = literal_key e.more
excluded_text false e = Some (static_text e)

-- what a name says that stands for a helper or for keys
abbrev pub said_of : Binding → More
said_of (silent (helper_name h)) = helper_call h
said_of (silent (keys_name vs)) = keys_of (return vs)
said_of _ = nothing_more

abbrev pub said_in : Supply → Binding → More
said_in no_helpers b = nothing_more
said_in spread_by_global b = nothing_more
said_in _ b = said_of b

-- TARGETS: those of a binding pattern initialise, the others put

abbrev pub reference_putter : Bool → World → Reference → Putter
reference_putter true w r = λ v. initialise v r
reference_putter false w r = put_value w r

abbrev pub putter_by : Bool → World → More → Meaning → M Putter
putter_by binding w (aims m) e = m
putter_by binding w _ e = e.reference >>= λ r. return (reference_putter binding w r)

abbrev pub putter : Bool → World → Sense → M Putter
putter binding w e = putter_by binding w e.more e.core

abbrev pub member_of : More → Member
member_of (member_aims f) = keyed f
member_of (rest_aims m) = remaining m
member_of _ = keyed (λ v. stop unknown)

abbrev pub members_in : List Sense → List Member
members_in [] = []
members_in (e ∷ es) = member_of e.more ∷ members_in es

abbrev pub element_by : More → M Putter → Element
element_by (rest_aims m) put = takes_rest m
element_by _ put = takes put

abbrev pub element_of : Bool → World → Portion → Element
element_of binding w (alone e) = element_by e.more (putter binding w e)
element_of binding w _ = elision

abbrev pub elements_in : Bool → World → List Portion → List Element
elements_in binding w [] = []
elements_in binding w (x ∷ xs) = element_of binding w x ∷ elements_in binding w xs

abbrev pub object_aims : List Sense → Sense
object_aims ms = only_more (aims (return (object_pattern (members_in ms))))

abbrev pub array_aims : Bool → World → List Portion → Sense
array_aims binding w xs = only_more (aims (return (array_pattern (elements_in binding w xs))))

abbrev pub property_aims : Bool → World → Bool → Sense → Sense → Sense
property_aims binding w computed k e = only_more (member_aims (property_of (key_value w computed k) (excluded_text computed k) (putter binding w e)))

abbrev pub default_aims : Bool → World → Sense → Sense → Sense
default_aims binding w e d = only_more (aims (putter binding w e >>= λ put. return (or_default (value w d.core) put)))

-- LITERALS

abbrev pub definition_of : More → M Value
definition_of (defines m) = m
definition_of (spreads m) = m
definition_of _ = stop unknown

abbrev pub definitions_in : List Sense → List (M Value)
definitions_in [] = []
definitions_in (e ∷ es) = definition_of e.more ∷ definitions_in es

abbrev pub is_empty : {A : Type 0} → List A → Bool
is_empty [] = true
is_empty (x ∷ xs) = false

-- what gives definitions asks make once with all of them
abbrev pub object_by : Bool → M Values → Sense
object_by none_at_all ds = record { core = gives_value (ds >>= made_object); more = object_of none_at_all ds }

abbrev pub array_items : World → List Portion → M Values
array_items w [] = return none
array_items w (alone e ∷ xs) = value w e.core >>= λ v. array_items w xs >>= λ vs. return (v and vs)
array_items w (x ∷ xs) = array_items w xs >>= λ vs. return (own (list none) and vs)

-- the elements as keys, where each is a text or a name
abbrev pub key_of : World → More → Form → Meaning → Option (M Value)
key_of w (literal_text t) f e = Some (return (text t))
key_of w m (word x) e = Some (value w e)
key_of w m f e = None

abbrev pub with_key : Option (M Value) → Option (M Values) → Option (M Values)
with_key (Some k) (Some ks) = Some (k >>= λ v. ks >>= λ vs. return (v and vs))
with_key _ _ = None

abbrev pub key_items : World → List Portion → Option (M Values)
key_items w [] = Some (return none)
key_items w (alone e ∷ xs) = with_key (key_of w e.more e.core.form e.core) (key_items w xs)
key_items w (x ∷ xs) = None

abbrev pub keys_where : Option (M Values) → More
keys_where (Some ks) = keys_of ks
keys_where None = nothing_more

abbrev pub array_literal : World → List Portion → Sense
array_literal w xs = record { core = gives_value (array_items w xs >>= λ vs. ask (of_statement (array vs))); more = keys_where (key_items w xs) }

abbrev pub cooked_value : Option Text → Value
cooked_value (Some t) = text t
cooked_value None = undefined

abbrev pub raw_of : More → Values → Values
raw_of (quasi raw cooked) vs = text raw and vs
raw_of _ vs = none

abbrev pub raw_texts : List Sense → Values
raw_texts [] = none
raw_texts (e ∷ es) = raw_of e.more (raw_texts es)

abbrev pub cooked_of : More → Values → Values
cooked_of (quasi raw cooked) vs = cooked_value cooked and vs
cooked_of _ vs = none

abbrev pub cooked_texts : List Sense → Values
cooked_texts [] = none
cooked_texts (e ∷ es) = cooked_of e.more (cooked_texts es)

abbrev pub whole_text : More → Option Text
whole_text (quasi raw cooked) = cooked
whole_text _ = None

abbrev pub text_alone : List Sense → List Sense → Option Text
text_alone (q ∷ []) [] = whole_text q.more
text_alone _ _ = None

abbrev pub template_meaning : World → Option Text → Values → Values → List Meaning → Meaning
template_meaning w (Some t) raws cooked es = literal (text t) other
template_meaning w None raws cooked es = gives_value (values w es >>= templated_value raws cooked)

abbrev pub template_literal : World → List Sense → List Sense → Sense
template_literal w qs es = record {
  core = template_meaning w (text_alone qs es) (raw_texts qs) (cooked_texts qs) (cores es);
  more = template_of (raw_texts qs) (cooked_texts qs) (text_alone qs es) (values w (cores es));
}

abbrev pub tagged_template : World → Sense → More → Meaning
tagged_template w tag (template_of raws cooked t es) =
    gives_value (tag.core.reference >>= λ r. get_value w r >>= λ f. tagged raws cooked es f (receiver r))
tagged_template w tag _ = nothing
