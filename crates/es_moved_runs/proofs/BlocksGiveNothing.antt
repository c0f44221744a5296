-- A block gives undefined (ECMA-262, 14.2.2, where the completion's value isn't asked for), and so does a declaration of a pattern (14.3).
use Rattle.std.proofs.Common.{◌≡◌, refl, ap, ◌∙◌, List, [], ◌∷◌}
use Rattle.std.specs.Prelude.{ℕ, Bool, true, false}
use Rattle.es_tree.specs.Words.{Text}
use Rattle.es_runs.specs.Machine.{Cell, M, Result, State, Stop, Value, onward, return, set_cell, stop, with_cell, ◌>>=◌}
use Rattle.es_runs.specs.Machine.Cell.{holds}
use Rattle.es_runs.specs.Machine.OwnValue.{contents, stack}
use Rattle.es_runs.specs.Machine.Result.{gives, stops}
use Rattle.es_runs.specs.Machine.State.{state}
use Rattle.es_runs.specs.Machine.Stop.{breaks, continues, throws}
use Rattle.es_runs.specs.Machine.Value.{own, undefined}
use Rattle.es_runs.specs.Machine.Values.{none, ◌and◌}
use Rattle.es_runs.specs.Core.{Meaning, World, as_plain, get_value, in_order, settle, value}
use Rattle.es_statement_runs.specs.Scopes.{contents_cell, left, shadowed, stack_cell}
use Rattle.es_statement_runs.specs.Stacks.{all_disposed, emptied, entries_in, failed_with, in_scope, new_stack, on_own_stack, on_stack_in, own_cells, pending_in, with_stack_where}
use Rattle.es_statement_runs.proofs.Using.{disposed_nothing}

abbrev pub nothing_then : Value → M Value
nothing_then z = return undefined

order_step : (w : World) (es : List Meaning) (r : Result Value) → ((t : State) → onward (in_order w es t) nothing_then ≡ in_order w es t) → onward (onward r (λ v. in_order w es)) nothing_then ≡ onward r (λ v. in_order w es)
order_step w es (gives a t) h = h t
order_step w es (stops m t) h = refl

order_nothing : (w : World) (es : List Meaning) (s : State) → onward (in_order w es s) nothing_then ≡ in_order w es s
order_nothing w [] s = refl
order_nothing w (e ∷ es) s = order_step w es (value w e s) (λ t. order_nothing w es t)

left_nothing : (xs : List Text) (c : Text → Cell) (r : Result Value) → onward (left xs c r) nothing_then ≡ left xs c (onward r nothing_then)
left_nothing xs c (gives a (state d ms qs)) = refl
left_nothing xs c (stops m (state d ms qs)) = refl

all_nothing : (n : ℕ) (s : State) → onward (all_disposed n s) nothing_then ≡ all_disposed n s
all_nothing n (state c ms qs) = disposed_nothing (entries_in (c (contents_cell n))) (pending_in (c (contents_cell n))) (with_cell (contents_cell n) (own (contents none none)) c) ms qs

failed_nothing : (v : Value) (n : ℕ) (s : State) → onward ((failed_with n v >>= λ _. all_disposed n) s) nothing_then ≡ (failed_with n v >>= λ _. all_disposed n) s
failed_nothing v n (state c ms qs) = all_nothing n (state (with_cell (contents_cell n) (own (contents (v and none) (entries_in (c (contents_cell n))))) c) ms qs)

by_cell : (f : ℕ → M Value) → ((n : ℕ) (s : State) → onward (f n s) nothing_then ≡ f n s) → (d : Cell) (s : State) → onward (on_stack_in f d s) nothing_then ≡ on_stack_in f d s
by_cell f h (holds (own (stack n))) s = h n s
by_cell f h _ s = refl

own_nothing : (f : ℕ → M Value) → ((n : ℕ) (s : State) → onward (f n s) nothing_then ≡ f n s) → (s : State) → onward (on_own_stack f s) nothing_then ≡ on_own_stack f s
own_nothing f h (state c ms qs) = by_cell f h (c stack_cell) (state c ms qs)

stop_nothing : (w : Stop) (r : Result Value) → onward (onward r (λ _. stop w)) nothing_then ≡ onward r (λ _. stop w)
stop_nothing w (gives a s) = refl
stop_nothing w (stops k s) = refl

emptied_nothing : (r : Result Value) → onward (emptied r) nothing_then ≡ emptied r
emptied_nothing (gives a s) = own_nothing all_disposed all_nothing s
emptied_nothing (stops (throws v) s) = own_nothing (λ n. failed_with n v >>= λ _. all_disposed n) (failed_nothing v) s
emptied_nothing (stops (breaks l) s) = stop_nothing (breaks l) (on_own_stack all_disposed s)
emptied_nothing (stops (continues l) s) = stop_nothing (continues l) (on_own_stack all_disposed s)
emptied_nothing (stops _ s) = refl

stack_nothing : (b : Bool) (w : World) (es : List Meaning) (s : State) → onward (with_stack_where b (in_order w es) s) nothing_then ≡ with_stack_where b (in_order w es) s
stack_nothing true w es s = emptied_nothing ((new_stack >>= λ k. set_cell stack_cell k >>= λ _. in_order w es) s)
stack_nothing false w es s = order_nothing w es s

pub scope_nothing : (b : Bool) (N : List Text) (w : World) (es : List Meaning) (s : State) → onward (in_scope (record { names = N; uses = b }) (in_order w es) s) nothing_then ≡ in_scope (record { names = N; uses = b }) (in_order w es) s
scope_nothing b N w es (state c ms qs) =
    let xs : List Text = own_cells (record { names = N; uses = b }) in
    left_nothing xs c (with_stack_where b (in_order w es) (state (shadowed xs c) ms qs)) ∙ ap (left xs c) (stack_nothing b w es (state (shadowed xs c) ms qs))

-- what the declarator does with what its pattern ends in
pub settled_pattern : (v : World) (lets : Bool) (r : Result Value) → onward (onward (onward (onward r as_plain) (λ q. settle lets q >>= λ z. return undefined)) as_plain) (get_value v) ≡ onward r nothing_then
settled_pattern v true (gives a s) = refl
settled_pattern v false (gives a s) = refl
settled_pattern v lets (stops m s) = refl
