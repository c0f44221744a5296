-- The machine: values, questions, moves, cells, and what a step of evaluation gives.
use Rattle.std.specs.Prelude.{ℕ, Bool, true, false, List, [], ◌∷◌, bytes_eq, if◌then◌else◌, codes, ◌&&◌, not}
use Rattle.es_tree.specs.Words.{Text}

mutual
  pub data Value : Type 0 where
    undefined : Value
    null : Value
    boolean : Bool → Value
    number : Text → Value
    bigint : Text → Value
    text : Text → Value
    -- a value of the host: its number, and whether it is callable, truthy and `document.all`
    host : ℕ → Bool → Bool → Bool → Value
    -- what `bind` gives: callee, receiver and first arguments
    bound : Value → Value → Values → Value
    unset_error : Text → Value
    constant_error : Text → Value
    -- a value that only statements give
    own : OwnValue → Value

  pub data Values : Type 0 where
    none : Values
    ◌and◌ : Value → Values → Values

  -- What the core doesn't have: the errors of an object pattern on undefined or null, and of a disposal that throws while
  -- another throw is pending, with the new one first; a helper of the runtime, and a stack of what was taken into use, by its
  -- number; and what stands in lists of operands and in the machine's own cells, which no evaluation gives.
  pub data OwnValue : Type 0 where
    pattern_error : OwnValue
    suppressed : Value → Value → OwnValue
    helper : Text → OwnValue
    stack : ℕ → OwnValue
    list : Values → OwnValue
    count : ℕ → OwnValue
    -- what a stack holds: the pending error, none or one, and each value with its method, the latest first
    contents : Values → Values → OwnValue

infixr 5 ◌and◌
abbrev pub joined : Values → Values → Values
joined none ys = ys
joined (x and xs) ys = x and joined xs ys

mutual
  pub data Question : Type 0 where
    read : Text → Question
    typeof_read : Text → Question
    write : Text → Value → Question
    get : Value → Value → Question
    delete : Value → Value → Question
    put : Value → Value → Value → Question
    call : Value → Value → Values → Question
    construct : Value → Values → Question
    operator : Text → Values → Question
    -- what only statements ask
    of_statement : StatementQuestion → Question

  pub data StatementQuestion : Type 0 where
    iterator : Value → StatementQuestion
    step : Value → StatementQuestion
    item : Value → StatementQuestion
    close : Value → StatementQuestion
    keys : Value → StatementQuestion
    array : Values → StatementQuestion
    regexp : Text → Text → StatementQuestion
    template : Values → StatementQuestion
    spread : Value → StatementQuestion
    meta : StatementQuestion
    import_name : Text → Text → StatementQuestion
    copy : Value → Values → StatementQuestion
    make : Values → StatementQuestion
    method : Value → StatementQuestion
    dispose : Value → Value → StatementQuestion

pub data Move : Type 0 where
  answer : Value → Move
  throw : Value → Move

pub data Cell : Type 0 where
  unset : Cell
  holds : Value → Cell

abbrev pub is_set : Cell → Bool
is_set unset = false
is_set (holds v) = true

-- The cells, the moves that are left, and the questions so far, the latest first.
pub data State : Type 0 where
  state : (Text → Cell) → List Move → List Question → State

-- Why an evaluation stops: it throws; it reads or writes what isn't set or writes a constant, where it throws an error of the
-- machine's own; it waits for a move; it calls what isn't callable; it is cut short to the end of the nearest chain; or the
-- node has no meaning. A statement that ends by `break` or `continue`, with a label or none, stops too, and a run may have no
-- turn of a loop left.
pub data Stop : Type 0 where
  throws : Value → Stop
  faults : Value → Stop
  waits : Stop
  uncallable : Stop
  cut : Stop
  unknown : Stop
  breaks : List Text → Stop
  continues : List Text → Stop
  out_of_turns : Stop

pub data Result (A : Type 0) : Type 0 where
  gives : A → State → Result A
  stops : Stop → State → Result A

-- A computation: from a state to its result.
abbrev pub M : Type 0 → Type 0
M A = State → Result A

-- goes on with what is given, and stops at the first result that is no value
abbrev pub onward : {A B : Type 0} → Result A → (A → M B) → Result B
onward (gives a s) k = k a s
onward (stops w s) k = stops w s

abbrev pub ◌>>=◌ : {A B : Type 0} → M A → (A → M B) → M B
◌>>=◌ m k = λ s. onward (m s) k

infixl 1 ◌>>=◌
abbrev pub return : {A : Type 0} → A → M A
return a = λ s. gives a s

abbrev pub stop : {A : Type 0} → Stop → M A
stop w = λ s. stops w s

abbrev pub next : (Text → Cell) → List Move → List Question → Result Value
next c [] q = stops waits (state c [] q)
next c (answer v ∷ ms) q = gives v (state c ms q)
next c (throw v ∷ ms) q = stops (throws v) (state c ms q)

-- a question takes the next move; without one it counts as asked, and the run waits
abbrev pub ask : Question → M Value
ask q (state c ms qs) = next c ms (q ∷ qs)

abbrev pub cell_of : Text → M Cell
cell_of x (state c ms qs) = gives (c x) (state c ms qs)

abbrev pub with_cell : Text → Value → (Text → Cell) → Text → Cell
with_cell x v c y = if bytes_eq y x then holds v else c y

abbrev pub set_cell : Text → Value → M Value
set_cell x v (state c ms qs) = gives v (state (with_cell x v c) ms qs)

-- undefined and null, and nothing else (ECMA-262, 13.13 and 13.3.9)
abbrev pub is_nullish : Value → Bool
is_nullish undefined = true
is_nullish null = true
is_nullish _ = false

-- IsCallable (ECMA-262, 7.2.3)
abbrev pub is_callable : Value → Bool
is_callable (host n callable truthy all) = callable
is_callable (bound f r vs) = true
is_callable _ = false

-- undefined, null and, where it counts, `document.all` (ECMA-262, 7.2.14 and B.3.6.2)
abbrev pub is_loosely_nullish : Bool → Value → Bool
is_loosely_nullish counts undefined = true
is_loosely_nullish counts null = true
is_loosely_nullish counts (host n callable truthy all) = counts && all
is_loosely_nullish counts _ = false

abbrev pub is_undefined : Value → Bool
is_undefined undefined = true
is_undefined _ = false

abbrev pub is_null : Value → Bool
is_null null = true
is_null _ = false

abbrev pub is_zero_text : Text → Bool
is_zero_text t = if bytes_eq t (codes "0") then true else bytes_eq t (codes "NaN")

-- whether a value counts as true in a test (ToBoolean, ECMA-262, 7.1.2)
abbrev pub is_true : Value → Bool
is_true undefined = false
is_true null = false
is_true (boolean b) = b
is_true (number t) = not (is_zero_text t)
is_true (bigint t) = not (bytes_eq t (codes "0"))
is_true (text []) = false
is_true (host n callable truthy all) = truthy && not all
is_true _ = true

-- asks call, of the callee inside for a bound callable
abbrev pub do_call : Value → Value → Values → M Value
do_call (bound f r first) receiver vs = do_call f r (joined first vs)
do_call f receiver vs = ask (call f receiver vs)
