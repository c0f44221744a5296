-- What declarators do, one after another, and names that are bound.
use Rattle.std.proofs.Common.{◌≡◌, ◌∙◌, refl, sym, ap, List, [], ◌∷◌, ◌++◌}
use Rattle.std.proofs.lemmas.Bool.{false≢true}
use Rattle.std.specs.Prelude.{Bool, true, false, not, Some, codes, bytes_eq, if◌then◌else◌}
use Rattle.es_tree.specs.Words.{Text}
use Rattle.es_tree.specs.Scopes.{Declared}
use Rattle.es_tree.specs.Tree.{Trees, empty, ◌before◌}
use Rattle.es_runs.specs.Machine.{Value, M, ◌>>=◌, return, onward, Result, State, Cell, Move, Question}
use Rattle.es_runs.specs.Machine.Cell.{unset, holds}
use Rattle.es_runs.specs.Machine.Result.{gives, stops}
use Rattle.es_runs.specs.Machine.State.{state}
use Rattle.es_runs.specs.Machine.Stop.{faults}
use Rattle.es_runs.specs.Machine.Value.{undefined, unset_error}
use Rattle.es_runs.specs.Core.{World, Binding, Meaning, Reference, declared, gives_value, as_plain, is_free, initialise, read_name, settle}
use Rattle.es_runs.specs.Core.Binding.{free, changeable, constant, silent}
use Rattle.es_runs.specs.Core.Silent.{helper_name, keys_name}
use Rattle.es_runs.specs.Alike.{Frame, Alike, Equal, Same, SameTarget}
use Rattle.es_runs.specs.Alike.Level.{a_target}
use Rattle.es_runs.specs.Alike.Same.{both_give, both_stop, outside, at_fault}
use Rattle.es_runs.specs.Alike.SameTarget.{target_name, target_plain, target_property}
use Rattle.es_runs.specs.Runs.{binding_of, is_declared, scope_of}
use Rattle.es_runs.proofs.Basic.{bind_alike, return_alike, set_alike, then_alike}
use Rattle.es_runs.proofs.Lists.{AllLike}
use Rattle.es_runs.proofs.Temporary.{onward_onward}
use Rattle.es_runs.proofs.Lists.AllLike.{no_more, one_more}
use Rattle.es_statement_runs.specs.Helpers.{Supply}
use Rattle.es_statement_runs.specs.Helpers.Supply.{no_helpers, by_global, by_import, by_require, spread_by_global}
use Rattle.es_statement_runs.specs.Kinds.{found, kind_in, sense, senses}
use Rattle.es_statement_runs.specs.Laws.{followed}
use Rattle.es_statement_runs.specs.Names.{is_word}
use Rattle.es_statement_runs.specs.Senses.{More, Place, Sense, cores, ends, plain_sense, said_in}
use Rattle.es_statement_runs.specs.Senses.More.{aims, keys_of, nothing_more}
use Rattle.es_statement_runs.specs.StatementParts.{declarator_by}
use Rattle.es_statement_runs.specs.Stacks.{used}

-- NAMES THAT ARE BOUND

abbrev pub is_bound : Binding → Bool
is_bound changeable = true
is_bound constant = true
is_bound _ = false

kind_bound : (b : Bool) → is_bound (if b then constant else changeable) ≡ true
kind_bound true = refl
kind_bound false = refl

pub scope_bound : (ds : List Declared) (x : Text) → is_declared ds x ≡ true → is_bound (scope_of ds x) ≡ true
scope_bound [] x h = absurd (false≢true h)
scope_bound (d ∷ ds) x h = at (bytes_eq x d.name) (bytes_eq d.kind (codes "const")) (scope_of ds x) h (scope_bound ds x)
  where
    at : (a b : Bool) (e : Binding) → not (is_free (if a then (if b then constant else changeable) else e)) ≡ true → (not (is_free e) ≡ true → is_bound e ≡ true) → is_bound (if a then (if b then constant else changeable) else e) ≡ true
    at true b e h g = kind_bound b
    at false b e h g = g h

-- a scope's names are bound below it, and those around stay bound
pub entered_bound : (es ds : List Declared) (x : Text) (scope : Text → Binding) → (is_declared ds x ≡ true → is_bound (scope x) ≡ true) → is_declared (es ++ ds) x ≡ true → is_bound (found (kind_in es x) x scope x) ≡ true
entered_bound [] ds x scope h g = h g
entered_bound (e ∷ es) ds x scope h g = at (bytes_eq x e.name) g (entered_bound es ds x scope h)
  where
    at : (b : Bool) → not (is_free (if b then binding_of e.kind else scope_of (es ++ ds) x)) ≡ true → (not (is_free (scope_of (es ++ ds) x)) ≡ true → is_bound (found (kind_in es x) x scope x) ≡ true) → is_bound (found (if b then Some e.kind else kind_in es x) x scope x) ≡ true
    at true g k = kind_bound (bytes_eq e.kind (codes "const"))
    at false g k = k g

-- what a bound name gives, by its cell
pub read_bound : (b : Binding) (x : Text) (c : Text → Cell) (ms : List Move) (qs : List Question) (v : Value) → is_bound b ≡ true → c x ≡ holds v → read_name x b (state c ms qs) ≡ gives v (state c ms qs)
read_bound changeable x c ms qs v h e = rw e refl
read_bound constant x c ms qs v h e = rw e refl
read_bound free x c ms qs v h e = absurd (false≢true h)
read_bound (silent s) x c ms qs v h e = absurd (false≢true h)

pub read_unset : (b : Binding) (x : Text) (c : Text → Cell) (ms : List Move) (qs : List Question) → is_bound b ≡ true → c x ≡ unset → read_name x b (state c ms qs) ≡ stops (faults (unset_error x)) (state c ms qs)
read_unset changeable x c ms qs h e = rw e refl
read_unset constant x c ms qs h e = rw e refl
read_unset free x c ms qs h e = absurd (false≢true h)
read_unset (silent s) x c ms qs h e = absurd (false≢true h)

-- a bound name says nothing
pub bound_says : (o : Supply) (b : Binding) → is_bound b ≡ true → said_in o b ≡ nothing_more
bound_says no_helpers b h = refl
bound_says spread_by_global b h = refl
bound_says by_global changeable h = refl
bound_says by_global constant h = refl
bound_says by_global free h = refl
bound_says by_global (silent s) h = absurd (false≢true h)
bound_says (by_import m) changeable h = refl
bound_says (by_import m) constant h = refl
bound_says (by_import m) free h = refl
bound_says (by_import m) (silent s) h = absurd (false≢true h)
bound_says (by_require m) changeable h = refl
bound_says (by_require m) constant h = refl
bound_says (by_require m) free h = refl
bound_says (by_require m) (silent s) h = absurd (false≢true h)

-- DECLARATORS

-- of a name that says nothing, where the declaration isn't by `using`
pub named_core : (p : Place) (x : More) (id e : Sense) (m : Meaning) → x ≡ nothing_more → is_word (codes "using") p.word ≡ false → (declarator_by p x id e m).core ≡ m
named_core p x id e m h g = rw (h, g) refl

-- a declarator with a value says nothing more
pub valued_more : (p : Place) (x : More) (id e : Sense) (m : Meaning) → (declarator_by p x id e m).more ≡ nothing_more
valued_more p (aims target) id e m = refl
valued_more p (keys_of ks) id e m = refl
valued_more p _ id e m = at (is_word (codes "using") p.word)
  where
    at : (b : Bool) → (if b then ends (id.core.reference >>= λ r. Rattle.es_runs.specs.Core.value p.world e.core >>= used >>= λ v. initialise v r) else plain_sense m).more ≡ nothing_more
    at true = refl
    at false = refl

pub cores_followed : (p : Place) (xs ys : Trees) → cores (senses p (followed xs ys)) ≡ cores (senses p xs) ++ cores (senses p ys)
cores_followed p empty ys = refl
cores_followed p (x before xs) ys = ap (λ (es : List Meaning). (sense p x).core ∷ es) (cores_followed p xs ys)

-- computations one after another, and then this one
abbrev pub in_turn : List (M Value) → M Value → M Value
in_turn [] k = k
in_turn (m ∷ ms) k = m >>= λ _. in_turn ms k

abbrev pub as_values : List (M Value) → List Meaning
as_values [] = []
as_values (m ∷ ms) = gives_value m ∷ as_values ms

declared_first : (lets : Bool) (m : M Value) (es : List Meaning) (s : State) → declared lets (gives_value m ∷ es) s ≡ onward (m s) (λ z. declared lets es)
declared_first lets m es s = at lets (m s)
  where
    at : (b : Bool) (r : Result Value) → onward (onward r as_plain) (λ q. settle b q >>= λ z. declared lets es) ≡ onward r (λ z. declared lets es)
    at true (gives v t) = refl
    at false (gives v t) = refl
    at b (stops k t) = refl

onward_by : {k l : M Value} (r : Result Value) → ((t : State) → k t ≡ l t) → onward r (λ z. k) ≡ onward r (λ z. l)
onward_by (gives a t) h = h t
onward_by (stops w t) h = refl

pub declared_turns : (lets : Bool) (ms : List (M Value)) (es : List Meaning) (s : State) → declared lets (as_values ms ++ es) s ≡ in_turn ms (declared lets es) s
declared_turns lets [] es s = refl
declared_turns lets (m ∷ ms) es s = declared_first lets m (as_values ms ++ es) s ∙ onward_by (m s) (declared_turns lets ms es)

turns_end : (ms : List (M Value)) (l : M Value) (s : State) → in_turn ms l s ≡ onward (in_turn ms (return undefined) s) (λ z. l)
turns_end [] l s = refl
turns_end (m ∷ ms) l s = onward_by (m s) (turns_end ms l) ∙ sym (onward_onward (m s) (λ z. in_turn ms (return undefined)) (λ z. l))

-- whatever both give
abbrev pub Both : Value → Value → Type 0
Both a b = Unit {0}

module _ (F : Frame) where
  pub alike_by : {A B : Type 0} {R : A → B → Type 0} {m n : M A} {k l : M B} → ((s : State) → n s ≡ m s) → ((s : State) → l s ≡ k s) → Alike F R m k → Alike F R n l
  alike_by f g h s t a = rw (f s, g t) (h s t a)

  -- what goes on after both
  pub regroup : {A B C : Type 0} {R : A → C → Type 0} (m : M A) (n : M B) (K : B → M B) (N : M C) → Alike F R m (n >>= λ k. K k >>= λ z. N) → Alike F R m ((n >>= K) >>= λ z. N)
  regroup m n K N h = alike_by {k = n >>= λ k. K k >>= λ z. N} (λ s. refl) (λ t. onward_onward (n t) K (λ z. N)) h

  pub ungroup : {A B C : Type 0} {R : A → C → Type 0} (m : M A) (n k : M B) (N : M C) → Alike F R m ((n >>= λ z. k) >>= λ z. N) → Alike F R m (n >>= λ z. k >>= λ z. N)
  ungroup m n k N h = alike_by {k = (n >>= λ z. k) >>= λ z. N} (λ s. refl) (λ t. sym (onward_onward (n t) (λ z. k) (λ z. N))) h

  pub and_undefined : {R : Value → Value → Type 0} {m n : M Value} → Alike F R m n → Alike F Both m (n >>= λ z. return undefined)
  and_undefined {R} h s t g = at (h s t g)
    where
      at : {r q : Result Value} → Same F R r q → Same F Both r (onward q (λ z. return undefined))
      at (both_give k i) = both_give tt i
      at (both_stop i) = both_stop i
      at outside = outside
      at (at_fault e) = at_fault e

  -- what some do in turn one does, whatever they give, and then what goes on
  pub turns_by : {S : M Value} (Ms : List (M Value)) → Alike F Both S (in_turn Ms (return undefined)) → (k l : M Value) → Alike F Equal k l → Alike F Equal (S >>= λ z. k) (in_turn Ms l)
  turns_by Ms h k l g = alike_by {k = in_turn Ms (return undefined) >>= λ z. l} (λ s. refl) (λ t. turns_end Ms l t) (bind_alike F h (λ a b e. g))

  settle_alike : (lets : Bool) (r q : Reference) → SameTarget F r q → Alike F Equal (settle lets r) (settle lets q)
  settle_alike true _ _ (target_name {x = x} e z) = set_alike F x e z undefined
  settle_alike true _ _ target_property = return_alike F undefined
  settle_alike true _ _ target_plain = return_alike F undefined
  settle_alike false r q e = return_alike F undefined

  -- declarators that are alike, and what goes on
  pub declared_then : (w v : World) (lets : Bool) {xs ys : List Meaning} → AllLike F w v (record { level = a_target; form = false }) xs ys → (zs us : List Meaning) → Alike F Equal (declared lets zs) (declared lets us) → Alike F Equal (declared lets (xs ++ zs)) (declared lets (ys ++ us))
  declared_then w v lets no_more zs us h = h
  declared_then w v lets (one_more g gs) zs us h = bind_alike F g.evaluation (λ r q e. then_alike F (settle_alike lets r q e) (λ x. declared_then w v lets gs zs us h))
