-- Calls, members and assignments, with the helpers of the runtime (ECMA-262, 13.3 and 13.15).
use Rattle.std.specs.Prelude.{ℕ, Bool, true, false, not, ◌&&◌, ◌||◌, List, [], ◌∷◌, Option, Some, None, if◌then◌else◌, codes}
use Rattle.es_tree.specs.Words.{Text}
use Rattle.es_tree.specs.Tree.{◌then◌}
use Rattle.es_runs.specs.Machine.{Value, Values, M, ◌>>=◌, return, stop, is_nullish, joined}
use Rattle.es_runs.specs.Machine.Value.{undefined, own}
use Rattle.es_runs.specs.Machine.OwnValue.{helper, stack, pattern_error}
use Rattle.es_runs.specs.Machine.Values.{none}
use Rattle.es_runs.specs.Machine.Stop.{throws, unknown}
use Rattle.es_runs.specs.Core.{World, Reference, Meaning, Form, value, put_value, literal, nothing, is_free, call_of, form_beside, plain_call}
use Rattle.es_runs.specs.Core.Reference.{property}
use Rattle.es_runs.specs.Core.Form.{word, other}
use Rattle.es_statement_runs.specs.Senses.{cores, plain_sense, ends, object_by, Place, Sense, More}
use Rattle.es_statement_runs.specs.Senses.More.{stack_member, maps, aims, literal_text, nothing_more, helper_call, spreads, keys_of, object_of}
use Rattle.es_statement_runs.specs.Stacks.{new_stack, taken_into_use, failed_with, all_disposed}
use Rattle.es_statement_runs.specs.Patterns.{one_value, copied, rest_of}
use Rattle.es_statement_runs.specs.Names.{is_word}
use Rattle.es_statement_runs.specs.Helpers.{Supply, is_helper_text, required_from}
use Rattle.es_statement_runs.specs.Helpers.Supply.{no_helpers, spread_by_global, by_global}

-- HELPERS

-- does this with the stack of a member of one, and otherwise that
abbrev pub on_stack : Reference → (ℕ → M Value) → M Value → M Value
on_stack (property (own (stack n)) k) f m = f n
on_stack _ f m = m

abbrev pub definitions_by : More → M Values
definitions_by (object_of e ds) = ds
definitions_by _ = stop unknown

abbrev pub is_bare : More → Bool
is_bare (object_of e ds) = e
is_bare _ = false

abbrev pub copied_values : World → Sense → M Values
copied_values w e = value w e.core >>= λ v. copied v none >>= λ c. return (one_value c)

-- the arguments after the first: odd ones are copied, but for a `{}` before another, and even ones give their definitions
abbrev pub spread_arguments : World → List Sense → M Values
spread_arguments w [] = return none
spread_arguments w (e ∷ []) = copied_values w e
spread_arguments w (e ∷ f ∷ es) =
    (if is_bare e.more then return none else copied_values w e) >>= λ us. definitions_by f.more >>= λ vs. spread_arguments w es >>= λ rest. return (joined us (joined vs rest))

abbrev pub excluded_by : More → M Values
excluded_by (keys_of ks) = ks
excluded_by _ = stop unknown

abbrev pub spread2_sense : World → List Sense → Sense
spread2_sense w (a ∷ rest) = object_by false (definitions_by a.more >>= λ us. spread_arguments w rest >>= λ vs. return (joined us vs))
spread2_sense w [] = plain_sense nothing

abbrev pub extends_sense : World → List Sense → Sense
extends_sense w (a ∷ e ∷ []) = if is_bare a.more then ends (value w e.core >>= λ v. rest_of v none) else plain_sense nothing
extends_sense w _ = plain_sense nothing

abbrev pub destructuring_sense : World → List Sense → Sense
destructuring_sense w (e ∷ []) = ends (value w e.core >>= λ v. if is_nullish v then stop (throws (own pattern_error)) else return undefined)
destructuring_sense w _ = plain_sense nothing

abbrev pub without_sense : World → List Sense → Sense
without_sense w (e ∷ k ∷ []) = ends (value w e.core >>= λ v. excluded_by k.more >>= λ ks. rest_of v ks)
without_sense w _ = plain_sense nothing

abbrev pub using_sense : List Sense → Sense
using_sense [] = ends new_stack
using_sense _ = plain_sense nothing

abbrev pub helper_sense : World → Text → List Sense → Sense
helper_sense w h es =
    if is_word (codes "objectSpread2") h then spread2_sense w es
    else if is_word (codes "extends") h then extends_sense w es
    else if is_word (codes "objectDestructuringEmpty") h then destructuring_sense w es
    else if is_word (codes "objectWithoutProperties") h then without_sense w es
    else if is_word (codes "usingCtx") h then using_sense es
    else plain_sense nothing

-- CALLS, MEMBERS, ASSIGNMENTS

abbrev pub is_spread : More → Bool
is_spread (spreads m) = true
is_spread _ = false

abbrev pub some_spread : List Sense → Bool
some_spread [] = false
some_spread (e ∷ es) = is_spread e.more || some_spread es

abbrev pub first_spread : List Sense → Bool
first_spread [] = false
first_spread (e ∷ es) = is_spread e.more

-- the form of a callee beside these arguments
abbrev pub called_form : List Sense → Form → Form
called_form es = form_beside (first_spread es) (some_spread es)

abbrev pub plain_callee : Sense → List Sense → Meaning
plain_callee f es = record { reference = f.core.reference; form = called_form es f.core.form }

abbrev pub core_call : World → Bool → Sense → List Sense → Meaning
core_call w optional f es = call_of w optional (plain_callee f es) (cores es)

abbrev pub mapped : More → M Values → More
mapped (helper_call h) ks = if is_word (codes "toPropertyKey") h then keys_of ks else nothing_more
mapped _ ks = nothing_more

abbrev pub maps_keys : List Sense → M Values → More
maps_keys (e ∷ []) ks = mapped e.more ks
maps_keys _ ks = nothing_more

-- the methods of a stack: `s.u(e)` takes a value into use, and `s.d()` disposes of all
abbrev pub stack_method : World → Text → List Sense → M Value → ℕ → M Value
stack_method w x (e ∷ []) m n = if is_word (codes "u") x && not (is_spread e.more) then (value w e.core >>= taken_into_use n) else m
stack_method w x [] m n = if is_word (codes "d") x then all_disposed n else m
stack_method w x _ m n = m

abbrev pub stack_call : World → Text → List Sense → M Reference → M Value
stack_call w x es callee = callee >>= λ r. on_stack r (stack_method w x es (plain_call w false (cores es) r)) (plain_call w false (cores es) r)

-- and `s.e = v` keeps an error as pending
abbrev pub stack_failure : World → Text → Sense → Reference → M Value
stack_failure w x e r = on_stack r (λ n. if is_word (codes "e") x then (value w e.core >>= failed_with n) else (value w e.core >>= put_value w r)) (value w e.core >>= put_value w r)

-- `require("MODULE/helpers/NAME")` is a helper
abbrev pub is_require : World → Form → Bool
is_require w (word x) = is_word (codes "require") x && is_free (w.scope x)
is_require w _ = false

abbrev pub own_literal : More → Text
own_literal (literal_text t) = t
own_literal _ = []

abbrev pub module_text : List Sense → Text
module_text (e ∷ []) = own_literal e.more
module_text _ = []

abbrev pub required_or : Option Text → Sense → Sense
required_or (Some h) e = plain_sense (literal (own (helper h)) other)
required_or None e = e

abbrev pub call_by : Place → Sense → List Sense → More → Sense
call_by p f es (helper_call h) = helper_sense p.world h es
call_by p f es (maps ks) = record { core = core_call p.world false f es; more = maps_keys es ks }
call_by p f es (stack_member x callee) = ends (stack_call p.world x es callee)
call_by p f es _ = required_or (if is_require p.world f.core.form then required_from p.supply (module_text es) else None) (plain_sense (core_call p.world false f es))

abbrev pub call_sense : Place → Bool → Sense → List Sense → Sense
call_sense p true f es = plain_sense (core_call p.world true f es)
call_sense p false f es = call_by p f es f.more

-- a static member of a name: a helper of `babelHelpers`
abbrev pub is_global : World → Supply → Text → Bool
is_global w spread_by_global x = is_word (codes "babelHelpers") x && is_free (w.scope x)
is_global w by_global x = is_word (codes "babelHelpers") x && is_free (w.scope x)
is_global w _ x = false

-- the keys that stacks have
abbrev pub is_stack_key : Text → Bool
is_stack_key x = is_word (codes "u") x || is_word (codes "d") x || is_word (codes "e") x

abbrev pub said_of_member : Supply → Text → M Reference → More
said_of_member no_helpers x r = nothing_more
said_of_member spread_by_global x r = nothing_more
said_of_member _ x r = if is_stack_key x then stack_member x r else nothing_more

abbrev pub static_member : Place → Text → Meaning → Sense
static_member p x m = record { core = m; more = said_of_member p.supply x m.reference }

-- where object spread's is the only one it is a helper as a callee alone
abbrev pub helper_member : Supply → Text → Meaning → Sense
helper_member spread_by_global x m = record { core = m; more = if is_word (codes "objectSpread2") x then helper_call x else nothing_more }
helper_member u x m = record { core = literal (own (helper x)) other; more = helper_call x }

abbrev pub named_member : Place → Text → Text → Meaning → Sense
named_member p o x m = if is_helper_text x && is_global p.world p.supply o then helper_member p.supply x m else static_member p x m

abbrev pub member_by : Place → More → Form → Form → Meaning → Sense
member_by p (keys_of ks) f (word x) m = record { core = m; more = if is_word (codes "map") x then maps ks else nothing_more }
member_by p e (word o) (word x) m = named_member p o x m
member_by p e f (word x) m = static_member p x m
member_by p e f g m = plain_sense m

abbrev pub member_sense : Place → Bool → Bool → Sense → Sense → Meaning → Sense
member_sense p false false o k m = member_by p o.more o.core.form k.core.form m
member_sense p computed optional o k m = plain_sense m

abbrev pub assignment_by : World → Text → More → Sense → Meaning → Sense
assignment_by w op (aims target) e m = if is_word (codes "=") op then ends (value w e.core >>= λ v. target >>= λ put. put v >>= λ _. return v) else plain_sense m
assignment_by w op (stack_member x target) e m = if is_word (codes "=") op then ends (target >>= stack_failure w x e) else plain_sense m
assignment_by w op _ e m = plain_sense m
