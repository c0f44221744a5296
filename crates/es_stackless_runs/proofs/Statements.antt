-- What statements do matches, where what their parts do does, and leaves no stack but in the cell of the innermost one.
use Rattle.std.proofs.Common.{refl, List, [], ◌∷◌}
use Rattle.std.proofs.lemmas.Bool.{and_parts}
use Rattle.std.specs.Prelude.{ℕ, zero, suc, Bool, true, false, Option, Some, None, codes, bytes_eq, if◌then◌else◌}
use Rattle.es_tree.specs.Words.{Text}
use Rattle.es_tree.specs.Fresh.{is_among}
use Rattle.es_runs.specs.Machine.{Value, Values, Cell, State, Stop, Result, M, is_nullish, is_true}
use Rattle.es_runs.specs.Machine.Value.{undefined, own}
use Rattle.es_runs.specs.Machine.OwnValue.{stack, count, contents}
use Rattle.es_runs.specs.Machine.Values.{none, ◌and◌}
use Rattle.es_runs.specs.Machine.Question.{operator, of_statement}
use Rattle.es_runs.specs.Machine.StatementQuestion.{step, item, close, method, dispose}
use Rattle.es_runs.specs.Machine.Cell.{unset, holds}
use Rattle.es_runs.specs.Machine.State.{state}
use Rattle.es_runs.specs.Machine.Stop.{throws, waits, uncallable, cut, unknown, breaks, continues, out_of_turns, faults}
use Rattle.es_runs.specs.Machine.Result.{stops}
use Rattle.es_stackless_runs.specs.Laws.{is_stackless, are_stackless}
use Rattle.es_stackless_runs.proofs.Machine.{Lacks, AllLack, Anything, IsName, CellLacks, StopLacks, StateLacks, Matched, Same, MatchesBy, Matches, both_lack, bind, bind_by, returns, stopped, choice, asks, reads_any, reads_cell, one_of, sets, sets_stack}
use Rattle.es_stackless_runs.proofs.Machine.Matched.{both_give, both_stop}
use Rattle.es_stackless_runs.proofs.Machine.Same.{same}
use Rattle.es_stackless_runs.proofs.CoreKinds.{AllBy}
use Rattle.es_stackless_runs.proofs.CoreKinds.AllBy.{no_more, one_more}
use Rattle.es_statement_runs.specs.Scopes.{turns_cell, stack_cell, stacks_cell, contents_cell, is_completion, shadowed, leave, left, scoped, done_with}
use Rattle.es_statement_runs.specs.Stacks.{throw_over, after_dispose, then_pending, disposed, pushed, used, emptied, with_stack_where, Scope, in_scope, number_in, entries_in, pending_in, on_own_stack, new_stack, taken_into_use, failed_with, all_disposed, on_stack_in, own_cells}
use Rattle.es_statement_runs.specs.Statements.{taken, is_own, turned, loop, unbroken, looped, go_on_where, labelled, caught, finalized, closed_after, closing, guarded, left_early, stepped, each, Clause, selected, bodies, switched}
use Rattle.es_statement_runs.specs.Statements.Clause.{when, default}

-- two functions of a value: the same on a value without a stack
abbrev pub PutterMatching : (Value → M Value) → (Value → M Value) → Type 0
PutterMatching f g = (v : Value) → Lacks v → Matches Lacks (f v) (g v)

choice_matched : {A : Type 0} {R : A → A → Type 0} (b : Bool) {r q r' q' : Result A} → Matched R r q → Matched R r' q' → Matched R (if b then r else r') (if b then q else q')
choice_matched true h g = h
choice_matched false h g = g

-- SCOPES

leave_lacks : (xs : List Text) (c : Text → Cell) → ((x : Text) → IsName x → CellLacks (c x)) → (s : State) → StateLacks s → StateLacks (leave xs c s)
leave_lacks xs c h (state d ms qs) n = ((λ x e. one_of (is_among xs x) (c x) (d x) (h x e) (n.0 x e)), n.1)

left_matched : {A : Type 0} {R : A → A → Type 0} (xs : List Text) (c : Text → Cell) → ((x : Text) → IsName x → CellLacks (c x)) → {r q : Result A} → Matched R r q → Matched R (left xs c r) (left xs c q)
left_matched xs c h (both_give {s = s} k n) = both_give k (leave_lacks xs c h s n)
left_matched xs c h (both_stop {s = s} k n) = both_stop k (leave_lacks xs c h s n)

pub scoped_matches : {A : Type 0} {R : A → A → Type 0} (xs : List Text) {m k : M A} → MatchesBy R m k → MatchesBy R (scoped xs m) (scoped xs k)
scoped_matches xs h (state c ms qs) n = left_matched xs c n.0 (h (state (shadowed xs c) ms qs) ((λ x e. one_of (is_among xs x) unset (c x) tt (n.0 x e)), n.1))

-- STACKS

abbrev pub PendingLacks : Option Value → Type 0
PendingLacks None = Unit {0}
PendingLacks (Some v) = Lacks v

entries_lack : (c : Cell) → CellLacks c → AllLack (entries_in c)
entries_lack (holds (own (contents p vs))) h = (and_parts (are_stackless p) (are_stackless vs) h).1
entries_lack _ h = refl

pending_lacks : (c : Cell) → CellLacks c → PendingLacks (pending_in c)
pending_lacks (holds (own (contents (v and p) vs))) h = (and_parts (is_stackless v) (are_stackless p) (and_parts (are_stackless (v and p)) (are_stackless vs) h).0).0
pending_lacks _ h = tt

pushed_lacks : (v m : Value) → Lacks v → Lacks m → (c : Cell) → CellLacks c → Lacks (pushed v m c)
pushed_lacks v m h g (holds (own (contents p vs))) i = let e = and_parts (are_stackless p) (are_stackless vs) i in both_lack e.0 (both_lack h (both_lack g e.1))
pushed_lacks v m h g _ i = both_lack h (both_lack g refl)

over_lacks : (p : Option Value) → PendingLacks p → (v : Value) → Lacks v → Lacks (throw_over p v)
over_lacks (Some old) h v g = both_lack g h
over_lacks None h v g = g

pub new_stack_matches : Matches Anything new_stack new_stack
new_stack_matches = bind (reads_cell stacks_cell refl) (λ c n. bind (sets stacks_cell (own (count (suc (number_in c)))) refl) (λ u i. bind (sets (contents_cell (number_in c)) (own (contents none none)) refl) (λ z j. returns (own (stack (number_in c))) tt)))

pub taken_use_matches : (n : ℕ) → PutterMatching (taken_into_use n) (taken_into_use n)
taken_use_matches n v h = choice (is_nullish v) (returns v h) (bind (asks (of_statement (method v))) (λ m g. bind (reads_cell (contents_cell n) refl) (λ c i. bind (sets (contents_cell n) (pushed v m c) (pushed_lacks v m h g c i)) (λ u j. returns v h))))

pub failed_matches : (n : ℕ) → PutterMatching (failed_with n) (failed_with n)
failed_matches n v h = bind (reads_cell (contents_cell n) refl) (λ c i. bind (sets (contents_cell n) (own (contents (v and none) (entries_in c))) (both_lack (both_lack h refl) (entries_lack c i))) (λ u j. returns v h))

pending_matches : (p : Option Value) → PendingLacks p → Matches Lacks (then_pending p) (then_pending p)
pending_matches None h = returns undefined refl
pending_matches (Some v) h = stopped (throws v) h

after_stop : {rest : Option Value → M Value} → ((p : Option Value) → PendingLacks p → Matches Lacks (rest p) (rest p)) → (p : Option Value) → PendingLacks p → (w : Stop) → StopLacks w → (s : State) → StateLacks s → Matched (Same Lacks) (after_dispose rest p (stops w s)) (after_dispose rest p (stops w s))
after_stop g p i (throws v) k s n = g (Some (throw_over p v)) (over_lacks p i v k) s n
after_stop g p i _ k s n = both_stop k n

after_matched : {rest : Option Value → M Value} → ((p : Option Value) → PendingLacks p → Matches Lacks (rest p) (rest p)) → (p : Option Value) → PendingLacks p → {r q : Result Value} → Matched (Same Lacks) r q → Matched (Same Lacks) (after_dispose rest p r) (after_dispose rest p q)
after_matched g p i (both_give {s = s} (same h) n) = g p i s n
after_matched g p i (both_stop {m = w} {s = s} k n) = after_stop g p i w k s n

disposed_matches : (vs : Values) → AllLack vs → (p : Option Value) → PendingLacks p → Matches Lacks (disposed vs p) (disposed vs p)
disposed_matches none h p i = pending_matches p i
disposed_matches (v and none) h p i = pending_matches p i
disposed_matches (v and (m and rest)) h p i = λ s n. after_matched (disposed_matches rest (and_parts (is_stackless m) (are_stackless rest) (and_parts (is_stackless v) (are_stackless (m and rest)) h).1).1) p i (asks (of_statement (dispose v m)) s n)

pub all_disposed_matches : (n : ℕ) → Matches Lacks (all_disposed n) (all_disposed n)
all_disposed_matches n = bind (reads_cell (contents_cell n) refl) (λ c i. bind (sets (contents_cell n) (own (contents none none)) refl) (λ u j. disposed_matches (entries_in c) (entries_lack c i) (pending_in c) (pending_lacks c i)))

on_stack_in_matches : {f : ℕ → M Value} → ((n : ℕ) → Matches Lacks (f n) (f n)) → (c : Cell) → Matches Lacks (on_stack_in f c) (on_stack_in f c)
on_stack_in_matches h (holds (own (stack n))) = h n
on_stack_in_matches h _ = stopped unknown tt

on_own_matches : {f : ℕ → M Value} → ((n : ℕ) → Matches Lacks (f n) (f n)) → Matches Lacks (on_own_stack f) (on_own_stack f)
on_own_matches h = bind (reads_any stack_cell) (λ c i. on_stack_in_matches h c)

pub used_matches : PutterMatching used used
used_matches v h = on_own_matches (λ n. taken_use_matches n v h)

emptied_stop : (w : Stop) → StopLacks w → (s : State) → StateLacks s → Matched (Same Lacks) (emptied (stops w s)) (emptied (stops w s))
emptied_stop (throws v) k s n = on_own_matches (λ i. bind (failed_matches i v k) (λ u j. all_disposed_matches i)) s n
emptied_stop (breaks l) k s n = bind (on_own_matches all_disposed_matches) (λ u j. stopped (breaks l) tt) s n
emptied_stop (continues l) k s n = bind (on_own_matches all_disposed_matches) (λ u j. stopped (continues l) tt) s n
emptied_stop _ k s n = both_stop k n

emptied_matched : {r q : Result Value} → Matched (Same Lacks) r q → Matched (Same Lacks) (emptied r) (emptied q)
emptied_matched (both_give {s = s} (same h) n) = on_own_matches all_disposed_matches s n
emptied_matched (both_stop {m = w} {s = s} k n) = emptied_stop w k s n

pub stack_matches : (uses : Bool) {m k : M Value} → Matches Lacks m k → Matches Lacks (with_stack_where uses m) (with_stack_where uses k)
stack_matches true h = λ s n. emptied_matched (bind new_stack_matches (λ u i. bind (sets_stack u) (λ z j. h)) s n)
stack_matches false h = h

pub scope_matches : (block : Scope) {m k : M Value} → Matches Lacks m k → Matches Lacks (in_scope block m) (in_scope block k)
scope_matches block h = scoped_matches (own_cells block) (stack_matches block.uses h)

-- LOOPS

taken_matches : (c : Cell) → Matches Lacks (taken c) (taken c)
taken_matches (holds (own (count (suc n)))) = sets turns_cell (own (count n)) refl
taken_matches _ = stopped out_of_turns tt

turned_stop : (ls : List Text) {again more : M Value} → Matches Lacks again more → (w : Stop) → StopLacks w → (s : State) → StateLacks s → Matched (Same Lacks) (turned ls again (stops w s)) (turned ls more (stops w s))
turned_stop ls h (continues l) k s n = choice_matched (is_own ls l) (h s n) (both_stop k n)
turned_stop ls h _ k s n = both_stop k n

turned_matched : (ls : List Text) {again more : M Value} → Matches Lacks again more → {r q : Result Value} → Matched (Same Lacks) r q → Matched (Same Lacks) (turned ls again r) (turned ls more q)
turned_matched ls h (both_give {s = s} (same g) n) = h s n
turned_matched ls h (both_stop {m = w} {s = s} k n) = turned_stop ls h w k s n

loop_matches : (n : ℕ) (ls : List Text) {test test' : M Bool} {body body' update update' : M Value} → Matches Anything test test' → Matches Lacks body body' → Matches Lacks update update' → Matches Lacks (loop n ls test body update) (loop n ls test' body' update')
loop_matches zero ls h g f = stopped out_of_turns tt
loop_matches (suc n) ls h g f = bind h (λ b i. choice b (bind (bind (reads_cell turns_cell refl) (λ c j. taken_matches c)) (λ u j s k. turned_matched ls (bind f (λ z l. loop_matches n ls h g f)) (g s k))) (returns undefined refl))

unbroken_stop : (w : Stop) → StopLacks w → (s : State) → StateLacks s → Matched (Same Lacks) (unbroken (stops w s)) (unbroken (stops w s))
unbroken_stop (breaks []) k s n = both_give (same refl) n
unbroken_stop _ k s n = both_stop k n

unbroken_matched : {r q : Result Value} → Matched (Same Lacks) r q → Matched (Same Lacks) (unbroken r) (unbroken q)
unbroken_matched (both_give (same h) n) = both_give (same refl) n
unbroken_matched (both_stop {m = w} {s = s} k n) = unbroken_stop w k s n

pub looped_matches : (ls : List Text) {test test' : M Bool} {body body' update update' : M Value} → Matches Anything test test' → Matches Lacks body body' → Matches Lacks update update' → Matches Lacks (looped ls test body update) (looped ls test' body' update')
looped_matches ls h g f s n = unbroken_matched (bind (reads_cell turns_cell refl) (λ c i. loop_matches (suc (number_in c)) ls h g f) s n)

pub go_on_matches : PutterMatching go_on_where go_on_where
go_on_matches v h = choice (is_true v) (returns undefined refl) (stopped (breaks []) tt)

-- LABELS AND `try`

labelled_stop : (x : Text) (w : Stop) → StopLacks w → (s : State) → StateLacks s → Matched (Same Lacks) (labelled x (stops w s)) (labelled x (stops w s))
labelled_stop x (breaks (l ∷ more)) k s n = choice_matched (bytes_eq l x) (both_give (same refl) n) (both_stop k n)
labelled_stop x _ k s n = both_stop k n

pub labelled_matched : (x : Text) {r q : Result Value} → Matched (Same Lacks) r q → Matched (Same Lacks) (labelled x r) (labelled x q)
labelled_matched x (both_give (same h) n) = both_give (same h) n
labelled_matched x (both_stop {m = w} {s = s} k n) = labelled_stop x w k s n

caught_stop : {f g : Value → M Value} → PutterMatching f g → (w : Stop) → StopLacks w → (s : State) → StateLacks s → Matched (Same Lacks) (caught f (stops w s)) (caught g (stops w s))
caught_stop h (throws v) k s n = h v k s n
caught_stop h _ k s n = both_stop k n

pub caught_matched : {f g : Value → M Value} → PutterMatching f g → {r q : Result Value} → Matched (Same Lacks) r q → Matched (Same Lacks) (caught f r) (caught g q)
caught_matched h (both_give (same g) n) = both_give (same g) n
caught_matched h (both_stop {m = w} {s = s} k n) = caught_stop h w k s n

pub finalized_matched : {m k : M Value} → Matches Lacks m k → {r q : Result Value} → Matched (Same Lacks) r q → Matched (Same Lacks) (finalized m r) (finalized k q)
finalized_matched h (both_give {s = s} (same g) n) = h s n
finalized_matched h (both_stop {m = w} {s = s} k n) = choice_matched (is_completion w) (bind h (λ u i. stopped w k) s n) (both_stop k n)

-- ITERATORS

closed_throw : {A : Type 0} {R : A → A → Type 0} (v : Value) → Lacks v → (u : Stop) → StopLacks u → (s : State) → StateLacks s → Matched R (closed_after (throws v) (stops u s)) (closed_after (throws v) (stops u s))
closed_throw v k (throws u) i s n = both_stop k n
closed_throw v k _ i s n = both_stop i n

closed_stop : {A : Type 0} {R : A → A → Type 0} (w : Stop) → StopLacks w → (u : Stop) → StopLacks u → (s : State) → StateLacks s → Matched R (closed_after w (stops u s)) (closed_after w (stops u s))
closed_stop (throws v) k u i s n = closed_throw v k u i s n
closed_stop _ k u i s n = both_stop i n

closed_by : {A : Type 0} {R : A → A → Type 0} (w : Stop) → StopLacks w → {r q : Result Value} → Matched (Same Lacks) r q → Matched R (closed_after w r) (closed_after w q)
closed_by w k (both_give (same h) n) = both_stop k n
closed_by w k (both_stop {m = u} {s = s} i n) = closed_stop w k u i s n

closing_matched : {A : Type 0} {R : A → A → Type 0} (b : Bool) (it : Value) {r q : Result A} → Matched R r q → Matched R (closing b it r) (closing b it q)
closing_matched true it (both_give h n) = both_give h n
closing_matched true it (both_stop {m = w} {s = s} k n) = choice_matched (is_completion w) (closed_by w k (asks (of_statement (close it)) s n)) (both_stop k n)
closing_matched false it (both_give h n) = both_give h n
closing_matched false it (both_stop k n) = both_stop k n

pub guarded_matches : {A : Type 0} {R : A → A → Type 0} (b : Bool) (it : Value) {m k : M A} → MatchesBy R m k → MatchesBy R (guarded b it m) (guarded b it k)
guarded_matches b it h s n = closing_matched b it (h s n)

early_stop : (ls : List Text) (b : Bool) (it : Value) (w : Stop) → StopLacks w → (s : State) → StateLacks s → Matched (Same Lacks) (left_early ls b it (stops w s)) (left_early ls b it (stops w s))
early_stop ls b it (continues l) k s n = choice_matched (is_own ls l) (both_stop k n) (closing_matched b it (both_stop k n))
early_stop ls b it (throws v) k s n = closing_matched b it (both_stop k n)
early_stop ls b it waits k s n = closing_matched b it (both_stop k n)
early_stop ls b it uncallable k s n = closing_matched b it (both_stop k n)
early_stop ls b it cut k s n = closing_matched b it (both_stop k n)
early_stop ls b it unknown k s n = closing_matched b it (both_stop k n)
early_stop ls b it (breaks l) k s n = closing_matched b it (both_stop k n)
early_stop ls b it out_of_turns k s n = closing_matched b it (both_stop k n)
early_stop ls b it (faults z) k s n = closing_matched b it (both_stop k n)

early_matched : (ls : List Text) (b : Bool) (it : Value) {r q : Result Value} → Matched (Same Lacks) r q → Matched (Same Lacks) (left_early ls b it r) (left_early ls b it q)
early_matched ls b it (both_give (same h) n) = both_give (same h) n
early_matched ls b it (both_stop {m = w} {s = s} k n) = early_stop ls b it w k s n

pub stepped_matches : (it : Value) → Matches Anything (stepped it) (stepped it)
stepped_matches it = bind (asks (of_statement (step it))) (λ v h. returns (is_true v) tt)

pub done_matches : (v : Value) → Matches Lacks (done_with v) (done_with v)
done_matches v = returns undefined refl

pub each_matches : (ls : List Text) (closes : Bool) {turn turn' : Value → M Value} → PutterMatching turn turn' → (it : Value) → Matches Lacks (each ls closes turn it) (each ls closes turn' it)
each_matches ls closes h it = looped_matches ls (stepped_matches it) (bind (asks (of_statement (item it))) (λ v i s n. early_matched ls closes it (h v i s n))) (returns undefined refl)

-- `switch`

pub data ClauseMatching : Clause → Clause → Type 0 where
  when_matching : {t u m k : M Value} → Matches Lacks t u → Matches Lacks m k → ClauseMatching (when t m) (when u k)
  default_matching : {m k : M Value} → Matches Lacks m k → ClauseMatching (default m) (default k)

selected_matches : (v : Value) {others others' cs ds : List Clause} → AllBy ClauseMatching others others' → AllBy ClauseMatching cs ds → MatchesBy (AllBy ClauseMatching) (selected v others cs) (selected v others' ds)
selected_matches v o no_more = λ s n. both_give o n
selected_matches v o (one_more (default_matching b) h) = selected_matches v (one_more (default_matching b) h) h
selected_matches v o (one_more (when_matching t b) h) = bind t (λ u i. bind (asks (operator (codes "===") (v and u and none))) (λ z j. choice (is_true z) (λ s n. both_give (one_more (when_matching t b) h) n) (selected_matches v o h)))

bodies_matches : {cs ds : List Clause} → AllBy ClauseMatching cs ds → Matches Lacks (bodies cs) (bodies ds)
bodies_matches no_more = returns undefined refl
bodies_matches (one_more (default_matching b) h) = bind b (λ u i. bodies_matches h)
bodies_matches (one_more (when_matching t b) h) = bind b (λ u i. bodies_matches h)

pub switched_matches : (v : Value) {cs ds : List Clause} → AllBy ClauseMatching cs ds → Matches Lacks (switched v cs) (switched v ds)
switched_matches v h s n = unbroken_matched (bind_by (selected_matches v no_more h) (λ cs ds k. bodies_matches k) s n)
