-- Tests in front of what follows: where one of them holds, something short takes its place.
use Rattle.std.proofs.Common.{◌≡◌, refl, List, [], ◌∷◌, ◌++◌, ap, sym, ◌∙◌}
use Rattle.std.specs.Prelude.{Bool, true, false, codes, if◌then◌else◌, not}
use Rattle.es_tree.specs.Words.{Text}
use Rattle.es_tree.specs.Tree.{Tree}
use Rattle.es_runs.specs.Machine.{Value, M, ◌>>=◌, onward, return, stop, State, Result, Cell, Move, Question, with_cell, is_loosely_nullish, is_set, is_null, is_nullish, is_true, is_undefined}
use Rattle.es_runs.specs.Machine.Value.{undefined, null, boolean}
use Rattle.es_runs.specs.Machine.State.{state}
use Rattle.es_runs.specs.Machine.Stop.{cut}
use Rattle.es_runs.specs.Machine.Result.{gives, stops}
use Rattle.es_runs.specs.Core.{World, value, get_value, put_value, as_plain, goes_right, meaning, compared, cut_where}
use Rattle.es_runs.specs.Core.Binding.{changeable}
use Rattle.es_runs.specs.Core.Reference.{named}
use Rattle.es_runs.specs.OptionalChaining.{null_checks, joined_by_or}
use Rattle.es_runs.specs.Rules.{assign_node, logical_node}
use Rattle.es_runs.specs.Runs.{identifier}
use Rattle.es_runs.proofs.Temporary.{get_temporary, onward_onward, plain_again, put_temporary}

-- `t ? short : u ? short : .. long`
abbrev pub tries : World → List Tree → {A : Type 0} → M A → M A → M A
tries v [] short long = long
tries v (t ∷ ts) short long = λ s. onward (value v (meaning v t) s) (λ b. if is_true b then short else tries v ts short long)

-- cut short where a test holds
abbrev pub passes : World → List Tree → {A : Type 0} → M A → M A
passes v ts long = tries v ts (stop cut) long

-- a choice, from the result of its test
abbrev choice : {A : Type 0} → M A → M A → Result Value → Result A
choice short long r = onward r (λ b. if is_true b then short else long)

pub tries_more : (v : World) (ts us : List Tree) {A : Type 0} (short long : M A) → tries v (ts ++ us) short long ≡ tries v ts short (tries v us short long)
tries_more v [] us short long = refl
tries_more v (t ∷ ts) us short long = ap (λ m s. choice short m (value v (meaning v t) s)) (tries_more v ts us short long)

-- what comes after is done on both ways
if_then : (b : Bool) {A B : Type 0} (m n : M A) (k : A → M B) → ((if b then m else n) >>= k) ≡ (if b then (m >>= k) else (n >>= k))
if_then true m n k = refl
if_then false m n k = refl

pub tries_then : (v : World) (ts : List Tree) {A B : Type 0} (short long : M A) (k : A → M B) → (tries v ts short long >>= k) ≡ tries v ts (short >>= k) (long >>= k)
tries_then v [] short long k = refl
tries_then v (t ∷ ts) short long k = λ i s. (onward_onward (value v (meaning v t) s) (λ b. if is_true b then short else tries v ts short long) k ∙ ap (onward (value v (meaning v t) s)) (λ j b. each (tries_then v ts short long k) b j)) i
  where
    each : (tries v ts short long >>= k) ≡ tries v ts (short >>= k) (long >>= k) → (b : Value) → ((if is_true b then short else tries v ts short long) >>= k) ≡ (if is_true b then (short >>= k) else tries v ts (short >>= k) (long >>= k))
    each rest b = if_then (is_true b) short (tries v ts short long) k ∙ ap (λ m. if is_true b then (short >>= k) else m) rest

pub passes_then : (v : World) (ts : List Tree) {A B : Type 0} (m : M A) (k : A → M B) → (passes v ts m >>= k) ≡ passes v ts (m >>= k)
passes_then v ts m k = tries_then v ts (stop cut) m k

-- JOINED TESTS

or_choice : (v : World) (t : Tree) {A : Type 0} (short long : M A) (r : Result Value) → choice short long (onward r (λ u. if goes_right (codes "||") u then value v (meaning v t) else return u)) ≡ onward r (λ b. if is_true b then short else (λ s. choice short long (value v (meaning v t) s)))
or_choice v t short long (stops w s) = refl
or_choice v t {A} short long (gives u s) = at (is_true u) refl
  where
    at : (b : Bool) → is_true u ≡ b → choice short long ((if not (is_true u) then value v (meaning v t) else return u) s) ≡ (if is_true u then short else (λ z. choice short long (value v (meaning v t) z))) s
    at true e = rw (e, e)
    at false e = rw e

pub joined_tries : (v : World) (t : Tree) (ts : List Tree) {A : Type 0} (short long : M A) (s : State) → choice short long (value v (meaning v (joined_by_or t ts)) s) ≡ tries v (t ∷ ts) short long s
joined_tries v t [] short long s = refl
joined_tries v t (u ∷ us) short long s =
    joined_tries v (logical_node (codes "||") t u) us short long s
    ∙ (ap (choice short (tries v us short long)) (plain_again v (onward (value v (meaning v t) s) (λ x. if goes_right (codes "||") x then value v (meaning v u) else return x)))
    ∙ or_choice v u short (tries v us short long) (value v (meaning v t) s))

-- THE TESTS OF A VALUE

-- whether it is null or undefined, at once where `==` tells, and else it is read again
abbrev pub value_tested : Bool → World → Tree → {A : Type 0} → M A → M A → Value → M A
value_tested true v again short long u = if is_nullish u then short else long
value_tested false v again short long u = if is_null u then short else (value v (meaning v again) >>= λ x. if is_undefined x then short else long)

by_undefined : (v : World) {A : Type 0} (short long : M A) (r : Result Value) → choice short long (onward (onward (onward r (λ x. return (boolean (compared v.counts_all (codes "===") is_undefined x)))) as_plain) (get_value v)) ≡ onward r (λ x. if is_undefined x then short else long)
by_undefined v short long (gives u s) = refl
by_undefined v short long (stops m s) = refl

by_null : (v : World) {A : Type 0} (short long : M A) (r : Result Value) → choice short long (onward (onward (onward r (λ x. return (boolean (compared v.counts_all (codes "===") is_null x)))) as_plain) (get_value v)) ≡ onward r (λ x. if is_null x then short else long)
by_null v short long (gives u s) = refl
by_null v short long (stops m s) = refl

-- where `document.all` doesn't count, loosely nullish is nullish
loose_is_nullish : (u : Value) → is_loosely_nullish false u ≡ is_nullish u
loose_is_nullish undefined = refl
loose_is_nullish null = refl
loose_is_nullish u = refl

by_nullish : (v : World) → v.counts_all ≡ false → {A : Type 0} (short long : M A) (r : Result Value) → choice short long (onward (onward (onward r (λ x. return (boolean (compared v.counts_all (codes "==") is_null x)))) as_plain) (get_value v)) ≡ onward r (λ x. if is_nullish x then short else long)
by_nullish v counts short long (gives u s) = rw (counts, loose_is_nullish u) refl
by_nullish v counts short long (stops m s) = refl

pub tests_value : (no_all : Bool) (v : World) → v.counts_all ≡ not no_all → (e again : Tree) {A : Type 0} (short long : M A) → tries v (null_checks no_all e again) short long ≡ (value v (meaning v e) >>= value_tested no_all v again short long)
tests_value true v counts e again short long = λ i s. by_nullish v counts short long (value v (meaning v e) s) i
tests_value false v counts e again short long =
    λ i s. (ap (λ m. choice short m (onward (onward (onward (value v (meaning v e) s) (λ x. return (boolean (compared v.counts_all (codes "===") is_null x)))) as_plain) (get_value v))) (λ j z. by_undefined v short long (value v (meaning v again) z) j)
    ∙ by_null v short (value v (meaning v again) >>= λ x. if is_undefined x then short else long) (value v (meaning v e) s)) i

-- STORING

-- a value is stored in x and tested
abbrev pub store_and_test : Bool → World → Text → {A : Type 0} → M A → Value → M A
store_and_test no_all v x long u = put_value v (named x) u >>= value_tested no_all v (identifier x) (stop cut) long

pub stores_value : (v : World) (x : Text) (e : Tree) → value v (meaning v (assign_node (identifier x) e)) ≡ (value v (meaning v e) >>= put_value v (named x))
stores_value v x e = λ i s. plain_again v (onward (value v (meaning v e) s) (put_value v (named x))) i

-- the tests so far, and those of a value that is stored
pub stored_tests : (no_all : Bool) (v : World) → v.counts_all ≡ not no_all → (ts : List Tree) (x : Text) (e : Tree) {A : Type 0} (m : M A) →
    passes v (ts ++ null_checks no_all (assign_node (identifier x) e) (identifier x)) m ≡ (passes v ts (value v (meaning v e)) >>= store_and_test no_all v x m)
stored_tests no_all v counts ts x e m =
    tries_more v ts (null_checks no_all (assign_node (identifier x) e) (identifier x)) (stop cut) m
    ∙ (ap (passes v ts) (tests_value no_all v counts (assign_node (identifier x) e) (identifier x) (stop cut) m
    ∙ (ap (λ n. n >>= value_tested no_all v (identifier x) (stop cut) m) (stores_value v x e)
    ∙ (λ i s. onward_onward (value v (meaning v e) s) (put_value v (named x)) (value_tested no_all v (identifier x) (stop cut) m) i)))
    ∙ sym (passes_then v ts (value v (meaning v e)) (store_and_test no_all v x m)))

-- the temporary is written, and the value decides
pub stored_value : (no_all : Bool) (v : World) (x : Text) {A : Type 0} (m : M A) (u : Value) (d : Text → Cell) (ms : List Move) (qs : List Question) → v.scope x ≡ changeable → is_set (d x) ≡ true →
    store_and_test no_all v x m u (state d ms qs) ≡ cut_where (is_nullish u) m (state (with_cell x u d) ms qs)
stored_value no_all v x m null d ms qs e s = rw (put_temporary v x null d ms qs e s) (null_tested no_all)
  where
    null_tested : (b : Bool) → value_tested b v (identifier x) (stop cut) m null (state (with_cell x null d) ms qs) ≡ stop cut (state (with_cell x null d) ms qs)
    null_tested true = refl
    null_tested false = refl
stored_value true v x m undefined d ms qs e s = rw (put_temporary v x undefined d ms qs e s)
stored_value false v x m undefined d ms qs e s = rw (put_temporary v x undefined d ms qs e s) (rw (get_temporary v x undefined d ms qs e))
stored_value true v x m u d ms qs e s = rw (put_temporary v x u d ms qs e s)
stored_value false v x m u d ms qs e s = rw (put_temporary v x u d ms qs e s) (rw (get_temporary v x u d ms qs e))
