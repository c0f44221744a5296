-- Patterns and literals: what they ask of the values that they work on (ECMA-262, 13.2, 13.15.5 and 8.6.2).
use Rattle.std.specs.Prelude.{ℕ, zero, suc, Bool, true, false, List, [], ◌∷◌, Option, Some, None, if◌then◌else◌, length}
use Rattle.es_tree.specs.Words.{Text}
use Rattle.es_runs.specs.Machine.{Value, Values, M, ◌>>=◌, return, stop, ask, is_nullish, is_undefined, is_callable, do_call, joined}
use Rattle.es_runs.specs.Machine.Value.{undefined, text, own}
use Rattle.es_runs.specs.Machine.OwnValue.{list, pattern_error}
use Rattle.es_runs.specs.Machine.Values.{none, ◌and◌}
use Rattle.es_runs.specs.Machine.Question.{get, of_statement}
use Rattle.es_runs.specs.Machine.StatementQuestion.{iterator, item, close, array, template, copy, make}
use Rattle.es_runs.specs.Machine.State.{state}
use Rattle.es_runs.specs.Machine.Stop.{throws, unknown, uncallable}
use Rattle.es_statement_runs.specs.Statements.{guarded, stepped}
use Rattle.es_statement_runs.specs.Scopes.{done_with}

-- what puts a value, once the target's reference is evaluated
abbrev pub Putter : Type 0
Putter = Value → M Value

abbrev pub one_value : Value → Values
one_value v = v and none

-- a definition of an object: a key with its value, or what a copy gave
abbrev pub defined : Value → Value → Value
defined k v = own (list (k and v and none))

abbrev pub copied : Value → Values → M Value
copied v excluded = ask (of_statement (copy v excluded)) >>= λ c. return (own (list (one_value c)))

-- what the definitions are, in order
abbrev pub collected : List (M Value) → M Values
collected [] = return none
collected (d ∷ ds) = d >>= λ v. collected ds >>= λ vs. return (v and vs)

abbrev pub made_object : Values → M Value
made_object ds = ask (of_statement (make ds))

-- a new object with what a value has, but for these keys
abbrev pub rest_of : Value → Values → M Value
rest_of v excluded = copied v excluded >>= λ c. made_object (one_value c)

-- where the target takes undefined, the default's value
abbrev pub or_default : M Value → Putter → Putter
or_default e put v = if is_undefined v then (e >>= put) else put v

-- OBJECT PATTERNS

-- A property does what it does to the object, and gives its excluded key; a rest has a target.
pub data Member : Type 0 where
  keyed : (Value → M Value) → Member
  remaining : M Putter → Member

-- key, target reference, get, put
abbrev pub property_of : M Value → Option Text → M Putter → Value → M Value
property_of key (Some t) target v = key >>= λ k. target >>= λ put. ask (get v k) >>= put >>= λ _. return (text t)
property_of key None target v = key >>= λ k. target >>= λ put. ask (get v k) >>= put >>= λ _. return k

abbrev pub members_of : Value → Values → List Member → M Value
members_of v excluded [] = return undefined
members_of v excluded (keyed f ∷ ms) = f v >>= λ k. members_of v (joined excluded (one_value k)) ms
members_of v excluded (remaining target ∷ ms) = target >>= λ put. rest_of v excluded >>= put

abbrev pub object_pattern : List Member → Putter
object_pattern ms v = if is_nullish v then stop (throws (own pattern_error)) else members_of v none ms

-- ARRAY PATTERNS

pub data Element : Type 0 where
  elision : Element
  takes : M Putter → Element
  takes_rest : M Putter → Element

-- the next item, or the end
pub data Advance : Type 0 where
  at_end : Advance
  advanced : Value → Advance

abbrev pub advance : Bool → Value → M Advance
advance false it = return at_end
advance true it = stepped it >>= λ b. if b then (ask (of_statement (item it)) >>= λ v. return (advanced v)) else return at_end

-- an elision asks no item
abbrev pub skipped : Bool → Value → M Bool
skipped false it = return false
skipped true it = stepped it

abbrev pub is_alive : Advance → Bool
is_alive at_end = false
is_alive (advanced v) = true

abbrev pub item_of : Advance → Value
item_of at_end = undefined
item_of (advanced v) = v

-- all items that are left; each takes a move, so that there are fewer than moves
abbrev pub items_within : ℕ → Value → M Values
items_within zero it = stop unknown
items_within (suc n) it = stepped it >>= λ b. if b then (ask (of_statement (item it)) >>= λ v. items_within n it >>= λ vs. return (v and vs)) else return none

abbrev pub all_items : Bool → Value → M Values
all_items true it (state c ms qs) = items_within (suc (length ms)) it (state c ms qs)
all_items false it s = return none s

abbrev pub close_where : Bool → Value → M Value
close_where true it = ask (of_statement (close it)) >>= done_with
close_where false it = return undefined

abbrev pub elements_of : Value → Bool → List Element → M Value
elements_of it alive [] = close_where alive it
elements_of it alive (elision ∷ es) = skipped alive it >>= λ b. elements_of it b es
elements_of it alive (takes target ∷ es) =
    guarded alive it target >>= λ put. advance alive it >>= λ a. guarded (is_alive a) it (put (item_of a)) >>= λ _. elements_of it (is_alive a) es
elements_of it alive (takes_rest target ∷ es) =
    guarded alive it target >>= λ put. all_items alive it >>= λ vs. ask (of_statement (array vs)) >>= put

abbrev pub array_pattern : List Element → Putter
array_pattern es v = ask (of_statement (iterator v)) >>= λ it. elements_of it true es

-- TEMPLATES (13.2.8 and 13.3.11)

abbrev pub templated_value : Values → Values → Values → M Value
templated_value raws cooked vs = ask (of_statement (template (own (list raws) and own (list cooked) and own (list vs) and none)))

-- the texts are asked for before the expressions, and the tag is tested at the call (13.3.11.1)
abbrev pub tagged : Values → Values → M Values → Value → Value → M Value
tagged raws cooked vs f receiver =
    ask (of_statement (template (own (list raws) and own (list cooked) and none))) >>= λ t. vs >>= λ us. if is_callable f then do_call f receiver (t and us) else stop uncallable
