-- The forms of what a spine becomes, and calls behind tests.
use Rattle.std.proofs.Common.{◌≡◌, refl, List, [], ◌∷◌}
use Rattle.std.specs.Prelude.{Bool, true, false, ◌&&◌, bytes_eq, codes, if◌then◌else◌}
use Rattle.es_tree.specs.Words.{Text}
use Rattle.es_tree.specs.Tree.{Tree}
use Rattle.es_runs.specs.Core.{World, Form, Meaning, Reference, as_plain, member_form, pow_form, is_math, call_of, plain_call, method_call, apply_call, apply_bind, unmarked_call, is_free, form_beside}
use Rattle.es_runs.specs.Core.Form.{word, math_pow, member_call, member_bind, other}
use Rattle.es_runs.specs.Machine.{M, ◌>>=◌}
use Rattle.es_runs.specs.OptionalChaining.{has_tests}
use Rattle.es_runs.proofs.Temporary.{bytes_eq-equal}
use Rattle.es_runs.proofs.OptionalChainingCalls.{passes_twice}
use Rattle.es_runs.proofs.OptionalChainingNullChecks.{passes}

-- FORMS

-- neither `Math` nor its `pow`
abbrev pub NoMath : World → Form → Type 0
NoMath v (word x) = is_math v x ≡ false
NoMath v math_pow = ⊥
NoMath v _ = Unit {0}

pub bound_no_math : (v : World) (y : Text) → is_free (v.scope y) ≡ false → is_math v y ≡ false
bound_no_math v y bound = at (bytes_eq y (codes "Math")) refl
  where
    at : (b : Bool) → bytes_eq y (codes "Math") ≡ b → (b && is_free (v.scope (codes "Math"))) ≡ false
    at false e = refl
    at true e = let i : y ≡ codes "Math" = bytes_eq-equal y (codes "Math") e in rw i at bound

static_no_math : (v : World) (a b c : Bool) (f : Form) → NoMath v f → NoMath v (if a then member_call else (if b then member_bind else (if c then f else other)))
static_no_math v true b c f h = tt
static_no_math v false true c f h = tt
static_no_math v false false true f h = h
static_no_math v false false false f h = tt

pow_no_math : (v : World) (f : Form) → NoMath v f → NoMath v (pow_form v false f)
pow_no_math v (word x) h = rw h tt
pow_no_math v _ h = tt

pub member_no_math : (v : World) (computed : Bool) (f g : Form) → NoMath v f → NoMath v (member_form v computed false f g)
member_no_math v true f g h = tt
member_no_math v false f (word p) h = static_no_math v (bytes_eq p (codes "call")) (bytes_eq p (codes "bind")) (bytes_eq p (codes "pow")) (pow_form v false f) (pow_no_math v f h)
member_no_math v false f _ h = tt

pub formed_no_math : (v : World) (in_front some : Bool) (f : Form) → NoMath v f → NoMath v (form_beside in_front some f)
formed_no_math v in_front some math_pow h = absurd h
formed_no_math v true some member_call h = tt
formed_no_math v false some member_call h = tt
formed_no_math v true some member_bind h = tt
formed_no_math v false some member_bind h = tt
formed_no_math v in_front some _ h = h

-- a member of a name that is bound has the form of the marked member
pub marked_form : (w v : World) (computed : Bool) (f : Form) (y : Text) (g g' : Form) → is_math v y ≡ false → (computed ≡ false → g' ≡ g) → member_form v computed false (word y) g' ≡ member_form w computed true f g
marked_form w v true f y g g' h e = refl
marked_form w v false f y g g' h e = rw (e refl) (at g)
  where
    at : (g : Form) → member_form v false false (word y) g ≡ member_form w false true f g
    at (word p) = rw h refl
    at _ = refl

-- CALLS BEHIND TESTS

-- what a node means where tests stand in front of its reference
abbrev pub behind : World → List Tree → Meaning → Meaning
behind v ts m = record { reference = passes v ts m.reference; form = m.form }

by_form : (v : World) (ts : List Tree) (es : List Meaning) (f : Form) (c : M Reference) → NoMath v f → (unmarked_call v f (passes v ts c) es >>= as_plain) ≡ passes v ts (unmarked_call v f c es >>= as_plain)
by_form v ts es math_pow c h = absurd h
by_form v ts es member_call c h = passes_twice v ts c (method_call v apply_call es) as_plain
by_form v ts es member_bind c h = passes_twice v ts c (method_call v apply_bind es) as_plain
by_form v ts es _ c h = passes_twice v ts c (plain_call v false es) as_plain

-- a call of what stands behind tests is the call behind them
pub call_behind : (v : World) (ts : List Tree) (m : Meaning) (es : List Meaning) → (has_tests ts ≡ true → NoMath v m.form) → (call_of v false (behind v ts m) es).reference ≡ passes v ts (call_of v false m es).reference
call_behind v [] m es h = refl
call_behind v (t ∷ ts) m es h = by_form v (t ∷ ts) es m.form m.reference (h refl)
