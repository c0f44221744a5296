-- What statements and patterns do stops only as is allowed.
use Rattle.std.proofs.Common.{◌≡◌, refl, List, [], ◌∷◌, ◌++◌, arith, length, ◌<◌}
use Rattle.std.specs.Prelude.{ℕ, zero, suc, Bool, true, false, not, ◌&&◌, ◌||◌, Option, Some, None, bytes_eq, if◌then◌else◌}
use Rattle.es_tree.specs.Words.{Text}
use Rattle.es_tree.specs.Fresh.{is_among}
use Rattle.es_runs.specs.Machine.{Value, Values, M, ◌>>=◌, return, stop, ask, cell_of, Cell, Move, Question, State, Stop, Result, is_nullish, is_undefined, is_true, joined}
use Rattle.es_runs.specs.Machine.Question.{of_statement}
use Rattle.es_runs.specs.Machine.StatementQuestion.{item, close, dispose}
use Rattle.es_runs.specs.Machine.Stop.{throws, faults, waits, uncallable, cut, unknown, breaks, continues, out_of_turns}
use Rattle.es_runs.specs.Machine.Move.{answer, throw}
use Rattle.es_runs.specs.Machine.Value.{undefined, own}
use Rattle.es_runs.specs.Machine.OwnValue.{count}
use Rattle.es_runs.specs.Machine.Cell.{holds}
use Rattle.es_runs.specs.Machine.Values.{none, ◌and◌}
use Rattle.es_runs.specs.Machine.State.{state}
use Rattle.es_runs.specs.Machine.Result.{gives, stops}
use Rattle.es_runs.proofs.Temporary.{bytes_eq-flip}
use Rattle.es_statement_runs.specs.Scopes.{stack_cell, turns_cell, stacks_cell, contents_cell, are_program_names, shadowed, leave, left, scoped, is_completion}
use Rattle.es_statement_runs.specs.Stacks.{new_stack, taken_into_use, failed_with, all_disposed, disposed, then_pending, after_dispose, throw_over, entries_in, pending_in, number_in, used, on_stack_in, emptied, with_stack, with_stack_where, in_scope, own_cells}
use Rattle.es_statement_runs.specs.Statements.{taken, one_turn, is_own, turned, loop, unbroken, looped, go_on_where, labelled, caught, finalized, closed_after, closing, guarded, left_early, stepped, each, Clause, selected, bodies, switched}
use Rattle.es_statement_runs.specs.Statements.Clause.{when, default}
use Rattle.es_statement_runs.specs.Patterns.{Putter, one_value, copied, rest_of, collected, or_default, Member, property_of, members_of, object_pattern, Element, advance, skipped, is_alive, item_of, items_within, all_items, close_where, elements_of, array_pattern}
use Rattle.es_statement_runs.specs.Patterns.Member.{keyed, remaining}
use Rattle.es_statement_runs.specs.Patterns.Element.{elision, takes, takes_rest}
use Rattle.es_statement_runs.specs.Meant.{Exits, allowed, loop_exits, switch_exits, labelled_exits}
use Rattle.es_statement_runs.proofs.OwnCells.{program_apart}
use Rattle.es_statement_runs.proofs.Fine.{HoldsStack, Held, Fine, Means, Any, return_fine, stop_fine, onward_fine, then_fine, choice_fine, ask_fine, cell_fine, apart_fine, still}
use Rattle.es_statement_runs.proofs.Fine.HoldsStack.{holds_stack}
use Rattle.es_statement_runs.proofs.Fine.Fine.{fine_gives, fine_stops}

-- SCOPES

enter_held : (b : Bool) (xs : List Text) (c : Text → Cell) (ms : List Move) (qs : List Question) → is_among xs stack_cell ≡ false → Held b (state c ms qs) → Held b (state (shadowed xs c) ms qs)
enter_held true xs c ms qs e h = rw e h
enter_held false xs c ms qs e h = tt

leave_new : (b : Bool) (xs : List Text) (c : Text → Cell) (s : State) → is_among xs stack_cell ≡ false → Held b s → Held b (leave xs c s)
leave_new true xs c (state d ms qs) e h = rw e h
leave_new false xs c (state d ms qs) e h = tt

leave_old : (b : Bool) (xs : List Text) (c : Text → Cell) (ms : List Move) (qs : List Question) (s : State) → is_among xs stack_cell ≡ true → Held b (state c ms qs) → Held b (leave xs c s)
leave_old true xs c ms qs (state d ns rs) e h = rw e h
leave_old false xs c ms qs (state d ns rs) e h = tt

module _ {u : Bool} {E : Exits} {A : Type 0} {Q : A → Type 0} (xs : List Text) where
  left_new : (c : Text → Cell) → is_among xs stack_cell ≡ false → {r : Result A} → Fine u E Q r → Fine u E Q (left xs c r)
  left_new c e (fine_gives {s = s} q h) = fine_gives q (leave_new u xs c s e h)
  left_new c e (fine_stops {s = s} q h) = fine_stops q (leave_new u xs c s e h)

  left_old : (b : Bool) (c : Text → Cell) (ms : List Move) (qs : List Question) → is_among xs stack_cell ≡ true → Held u (state c ms qs) → {r : Result A} → Fine b E Q r → Fine u E Q (left xs c r)
  left_old b c ms qs e k (fine_gives {s = s} q h) = fine_gives q (leave_old u xs c ms qs s e k)
  left_old b c ms qs e k (fine_stops {s = s} q h) = fine_stops q (leave_old u xs c ms qs s e k)

  pub scoped_same : {m : M A} → is_among xs stack_cell ≡ false → Means u E Q m → Means u E Q (scoped xs m)
  scoped_same e h (state c ms qs) k = left_new c e (h (state (shadowed xs c) ms qs) (enter_held u xs c ms qs e k))

  pub scoped_new : (b : Bool) {m : M A} → is_among xs stack_cell ≡ true → ((s : State) → Fine b E Q (m s)) → Means u E Q (scoped xs m)
  scoped_new b e h (state c ms qs) k = left_old b c ms qs e k (h (state (shadowed xs c) ms qs))

-- STACKS

module _ {u : Bool} {E : Exits} where
  pub taken_use_fine : (n : ℕ) (v : Value) → Means u E Any (taken_into_use n v)
  taken_use_fine n v = choice_fine (is_nullish v) (return_fine tt) (then_fine (ask_fine _) (λ m _. then_fine (cell_fine (contents_cell n)) (λ c _. then_fine (apart_fine (contents_cell n) _ refl) (λ _ _. return_fine tt))))

  pub failed_fine : (n : ℕ) (v : Value) → Means u E Any (failed_with n v)
  failed_fine n v = then_fine (cell_fine (contents_cell n)) (λ c _. then_fine (apart_fine (contents_cell n) _ refl) (λ _ _. return_fine tt))

  pending_fine : (p : Option Value) → Means u E Any (then_pending p)
  pending_fine None = return_fine tt
  pending_fine (Some v) = stop_fine _ refl

  after_fine : {rest : Option Value → M Value} → ((p : Option Value) → Means u E Any (rest p)) → (p : Option Value) {r : Result Value} → Fine u E Any r → Fine u E Any (after_dispose rest p r)
  after_fine g p (fine_gives {s = s} q h) = g p s h
  after_fine g p (fine_stops {w = throws v} {s = s} e h) = g (Some (throw_over p v)) s h
  after_fine g p (fine_stops {w = faults v} e h) = fine_stops e h
  after_fine g p (fine_stops {w = waits} e h) = fine_stops e h
  after_fine g p (fine_stops {w = uncallable} e h) = fine_stops e h
  after_fine g p (fine_stops {w = cut} e h) = fine_stops e h
  after_fine g p (fine_stops {w = unknown} e h) = fine_stops e h
  after_fine g p (fine_stops {w = breaks l} e h) = fine_stops e h
  after_fine g p (fine_stops {w = continues l} e h) = fine_stops e h
  after_fine g p (fine_stops {w = out_of_turns} e h) = fine_stops e h

  pub disposed_fine : (vs : Values) (p : Option Value) → Means u E Any (disposed vs p)
  disposed_fine none p = pending_fine p
  disposed_fine (v and none) p = pending_fine p
  disposed_fine (v and (m and rest)) p = λ s k. after_fine (λ q. disposed_fine rest q) p (ask_fine (of_statement (dispose v m)) s k)

  pub all_disposed_fine : (n : ℕ) → Means u E Any (all_disposed n)
  all_disposed_fine n = then_fine (cell_fine (contents_cell n)) (λ c _. then_fine (apart_fine (contents_cell n) _ refl) (λ _ _. disposed_fine (entries_in c) (pending_in c)))

  pub new_stack_fine : Means u E Any new_stack
  new_stack_fine = then_fine (cell_fine stacks_cell) (λ c _. then_fine (apart_fine stacks_cell _ refl) (λ _ _. then_fine (apart_fine (contents_cell (number_in c)) _ refl) (λ _ _. return_fine tt)))

held_less : (u : Bool) (s : State) → Held true s → Held u s
held_less true s h = h
held_less false s h = tt

among_self : (xs : List Text) → is_among (stack_cell ∷ xs) stack_cell ≡ true
among_self xs = refl

module _ {E : Exits} where
  in_fine : {f : ℕ → M Value} → ((n : ℕ) → Means true E Any (f n)) → (d : Cell) → HoldsStack d → (s : State) → Held true s → Fine true E Any (on_stack_in f d s)
  in_fine h d (holds_stack {n = n}) s k = h n s k

  own_fine : {f : ℕ → M Value} → ((n : ℕ) → Means true E Any (f n)) → Means true E Any (cell_of stack_cell >>= on_stack_in f)
  own_fine h (state c ms qs) k = in_fine h (c stack_cell) k (state c ms qs) k

  pub used_fine : (v : Value) → Means true E Any (used v)
  used_fine v = own_fine (λ n. taken_use_fine n v)

  emptied_fine : {r : Result Value} → Fine true E Any r → Fine true E Any (emptied r)
  emptied_fine (fine_gives {s = s} q h) = own_fine (λ n. all_disposed_fine n) s h
  emptied_fine (fine_stops {w = throws v} {s = s} e h) = own_fine (λ n. then_fine (failed_fine n v) (λ _ _. all_disposed_fine n)) s h
  emptied_fine (fine_stops {w = breaks l} {s = s} e h) = then_fine (own_fine (λ n. all_disposed_fine n)) (λ _ _. stop_fine (breaks l) e) s h
  emptied_fine (fine_stops {w = continues l} {s = s} e h) = then_fine (own_fine (λ n. all_disposed_fine n)) (λ _ _. stop_fine (continues l) e) s h
  emptied_fine (fine_stops {w = faults v} e h) = fine_stops e h
  emptied_fine (fine_stops {w = waits} e h) = fine_stops e h
  emptied_fine (fine_stops {w = uncallable} e h) = fine_stops e h
  emptied_fine (fine_stops {w = cut} e h) = fine_stops e h
  emptied_fine (fine_stops {w = unknown} e h) = fine_stops e h
  emptied_fine (fine_stops {w = out_of_turns} e h) = fine_stops e h

  pub with_stack_fine : {m : M Value} → Means true E Any m → (s : State) → Fine true E Any (with_stack m s)
  with_stack_fine h (state c ms qs) = emptied_fine (h _ holds_stack)

  less_fine : (u : Bool) {A : Type 0} {Q : A → Type 0} {r : Result A} → Fine true E Q r → Fine u E Q r
  less_fine u (fine_gives {s = s} q h) = fine_gives q (held_less u s h)
  less_fine u (fine_stops {s = s} e h) = fine_stops e (held_less u s h)

  pub stack_where_fine : (n u : Bool) {m : M Value} → Means (n || u) E Any m → Means u E Any (with_stack_where n m)
  stack_where_fine true u h = λ s k. less_fine u (with_stack_fine h s)
  stack_where_fine false u h = h

  pub in_scope_fine : (n u : Bool) (xs : List Text) → are_program_names xs ≡ true → {m : M Value} → Means (n || u) E Any m → Means u E Any (in_scope (record { names = xs; uses = n }) m)
  in_scope_fine true u xs e h = scoped_new (stack_cell ∷ xs) true (among_self xs) (with_stack_fine h)
  in_scope_fine false u xs e h = scoped_same xs (program_apart xs e stack_cell refl) h

  -- what is evaluated where a scope's names are unset
  pub outside_fine : (n u : Bool) (xs : List Text) → are_program_names xs ≡ true → {m : M Value} → Means (not n && u) E Any m → Means u E Any (scoped (own_cells (record { names = xs; uses = n })) m)
  outside_fine true u xs e h = scoped_new (stack_cell ∷ xs) false (among_self xs) (λ s. h s tt)
  outside_fine false u xs e h = scoped_same xs (program_apart xs e stack_cell refl) h

pub data ClauseFine (u : Bool) (E : Exits) : Clause → Type 0 where
  when_fine : {t m : M Value} → Means u E Any t → Means u E Any m → ClauseFine u E (when t m)
  default_fine : {m : M Value} → Means u E Any m → ClauseFine u E (default m)

pub data ClausesFine (u : Bool) (E : Exits) : List Clause → Type 0 where
  no_clauses : ClausesFine u E []
  clause_and : {c : Clause} {cs : List Clause} → ClauseFine u E c → ClausesFine u E cs → ClausesFine u E (c ∷ cs)

-- LOOPS

among_after : (xs ys : List Text) (y : Text) → is_among (xs ++ ys) y ≡ true → is_among xs y ≡ false → is_among ys y ≡ true
among_after [] ys y h g = h
among_after (x ∷ xs) ys y h g = at (bytes_eq x y) (λ i j. among_after xs ys y i j) h g
  where
    at : (b : Bool) → (is_among (xs ++ ys) y ≡ true → is_among xs y ≡ false → is_among ys y ≡ true) → (b || is_among (xs ++ ys) y) ≡ true → (b || is_among xs y) ≡ false → is_among ys y ≡ true
    at true k i j = absurd (cc j)
    at false k i j = k i j

module _ {u : Bool} (E : Exits) where
  continued : (ls : List Text) {again : M Value} → Means u (switch_exits E) Any again → (l : Text) (more : List Text) (s : State) → Held u s → is_among (ls ++ E.loops) l ≡ true → (b : Bool) → is_among ls l ≡ b → Fine u (switch_exits E) Any (if b then again s else stops (continues (l ∷ more)) s)
  continued ls g l more s h e true k = g s h
  continued ls g l more s h e false k = fine_stops (among_after ls E.loops l e k) h

  turned_fine : (ls : List Text) {again : M Value} → Means u (switch_exits E) Any again → {r : Result Value} → Fine u (loop_exits ls E) Any r → Fine u (switch_exits E) Any (turned ls again r)
  turned_fine ls g (fine_gives {s = s} q h) = g s h
  turned_fine ls g (fine_stops {w = continues []} {s = s} e h) = g s h
  turned_fine ls g (fine_stops {w = continues (l ∷ more)} {s = s} e h) = continued ls g l more s h e (is_among ls l) refl
  turned_fine ls g (fine_stops {w = throws v} e h) = fine_stops refl h
  turned_fine ls g (fine_stops {w = faults v} e h) = fine_stops refl h
  turned_fine ls g (fine_stops {w = waits} e h) = fine_stops refl h
  turned_fine ls g (fine_stops {w = uncallable} e h) = fine_stops refl h
  turned_fine ls g (fine_stops {w = cut} e h) = fine_stops e h
  turned_fine ls g (fine_stops {w = unknown} e h) = absurd (cc e)
  turned_fine ls g (fine_stops {w = breaks []} e h) = fine_stops refl h
  turned_fine ls g (fine_stops {w = breaks (l ∷ more)} e h) = fine_stops e h
  turned_fine ls g (fine_stops {w = out_of_turns} e h) = fine_stops refl h

  taken_fine : (c : Cell) → Means u (switch_exits E) Any (taken c)
  taken_fine (holds (own (count (suc n)))) = apart_fine turns_cell _ refl
  taken_fine _ = stop_fine _ refl

  turn_fine : Means u (switch_exits E) Any one_turn
  turn_fine = then_fine (cell_fine turns_cell) (λ c _. taken_fine c)

  loop_fine : (n : ℕ) (ls : List Text) {test : M Bool} {body update : M Value} → Means u (switch_exits E) Any test → Means u (loop_exits ls E) Any body → Means u (switch_exits E) Any update → Means u (switch_exits E) Any (loop n ls test body update)
  loop_fine zero ls h g f = stop_fine _ refl
  loop_fine (suc n) ls h g f = then_fine h (λ b _. choice_fine b (then_fine turn_fine (λ _ _ s k. turned_fine ls (then_fine f (λ _ _. loop_fine n ls h g f)) (g s k))) (return_fine tt))

  unbroken_fine : {r : Result Value} → Fine u (switch_exits E) Any r → Fine u E Any (unbroken r)
  unbroken_fine (fine_gives q h) = fine_gives tt h
  unbroken_fine (fine_stops {w = breaks []} e h) = fine_gives tt h
  unbroken_fine (fine_stops {w = breaks (l ∷ more)} e h) = fine_stops e h
  unbroken_fine (fine_stops {w = continues []} e h) = fine_stops e h
  unbroken_fine (fine_stops {w = continues (l ∷ more)} e h) = fine_stops e h
  unbroken_fine (fine_stops {w = throws v} e h) = fine_stops e h
  unbroken_fine (fine_stops {w = faults v} e h) = fine_stops e h
  unbroken_fine (fine_stops {w = waits} e h) = fine_stops e h
  unbroken_fine (fine_stops {w = uncallable} e h) = fine_stops e h
  unbroken_fine (fine_stops {w = cut} e h) = fine_stops e h
  unbroken_fine (fine_stops {w = unknown} e h) = absurd (cc e)
  unbroken_fine (fine_stops {w = out_of_turns} e h) = fine_stops e h

  pub looped_fine : (ls : List Text) {test : M Bool} {body update : M Value} → Means u (switch_exits E) Any test → Means u (loop_exits ls E) Any body → Means u (switch_exits E) Any update → Means u E Any (looped ls test body update)
  looped_fine ls h g f s k = unbroken_fine (then_fine (cell_fine turns_cell) (λ c _. loop_fine (suc (number_in c)) ls h g f) s k)

  pub go_on_fine : (v : Value) → Means u (switch_exits E) Any (go_on_where v)
  go_on_fine v = choice_fine (is_true v) (return_fine tt) (stop_fine _ refl)

-- LABELS

module _ {u : Bool} {E : Exits} where
  other_label : (x l : Text) (more : List Text) (s : State) → Held u s → (b : Bool) → bytes_eq x l ≡ b → (b || is_among E.labels l) ≡ true → Fine u E Any (if b then gives undefined s else stops (breaks (l ∷ more)) s)
  other_label x l more s h true e k = fine_gives tt h
  other_label x l more s h false e k = fine_stops k h

  pub labelled_fine : (x : Text) {r : Result Value} → Fine u (labelled_exits (x ∷ []) E) Any r → Fine u E Any (labelled x r)
  labelled_fine x (fine_gives q h) = fine_gives tt h
  labelled_fine x (fine_stops {w = breaks []} e h) = fine_stops e h
  labelled_fine x (fine_stops {w = breaks (l ∷ more)} {s = s} e h) = rw (bytes_eq-flip l x) (other_label x l more s h (bytes_eq x l) refl e)
  labelled_fine x (fine_stops {w = continues []} e h) = fine_stops e h
  labelled_fine x (fine_stops {w = continues (l ∷ more)} e h) = fine_stops e h
  labelled_fine x (fine_stops {w = throws v} e h) = fine_stops e h
  labelled_fine x (fine_stops {w = faults v} e h) = fine_stops e h
  labelled_fine x (fine_stops {w = waits} e h) = fine_stops e h
  labelled_fine x (fine_stops {w = uncallable} e h) = fine_stops e h
  labelled_fine x (fine_stops {w = cut} e h) = fine_stops e h
  labelled_fine x (fine_stops {w = unknown} e h) = absurd (cc e)
  labelled_fine x (fine_stops {w = out_of_turns} e h) = fine_stops e h

  -- `try`

  pub caught_fine : {handler : Value → M Value} → ((v : Value) → Means u E Any (handler v)) → {r : Result Value} → Fine u E Any r → Fine u E Any (caught handler r)
  caught_fine g (fine_gives q h) = fine_gives tt h
  caught_fine g (fine_stops {w = throws v} {s = s} e h) = g v s h
  caught_fine g (fine_stops {w = breaks l} e h) = fine_stops e h
  caught_fine g (fine_stops {w = continues l} e h) = fine_stops e h
  caught_fine g (fine_stops {w = faults v} e h) = fine_stops e h
  caught_fine g (fine_stops {w = waits} e h) = fine_stops e h
  caught_fine g (fine_stops {w = uncallable} e h) = fine_stops e h
  caught_fine g (fine_stops {w = cut} e h) = fine_stops e h
  caught_fine g (fine_stops {w = unknown} e h) = fine_stops e h
  caught_fine g (fine_stops {w = out_of_turns} e h) = fine_stops e h

  completed : {last : M Value} → Means u E Any last → (w : Stop) → allowed E w ≡ true → (s : State) → Held u s → (b : Bool) → Fine u E {A = Value} Any (if b then (last >>= λ _. stop w) s else stops w s)
  completed g w e s h true = then_fine g (λ _ _. stop_fine w e) s h
  completed g w e s h false = fine_stops e h

  pub finalized_fine : {last : M Value} → Means u E Any last → {r : Result Value} → Fine u E Any r → Fine u E Any (finalized last r)
  finalized_fine g (fine_gives {s = s} q h) = g s h
  finalized_fine g (fine_stops {w = w} {s = s} e h) = completed g w e s h (is_completion w)

-- ITERATORS

module _ {u : Bool} {E : Exits} where
  closed_fine : {A : Type 0} {Q : A → Type 0} (w : Stop) → allowed E w ≡ true → {r : Result Value} → Fine u E Any r → Fine u E Q (closed_after w r)
  closed_fine w e (fine_gives q h) = fine_stops e h
  closed_fine (throws v) e (fine_stops {w = throws t} i h) = fine_stops e h
  closed_fine (throws v) e (fine_stops {w = faults t} i h) = fine_stops i h
  closed_fine (throws v) e (fine_stops {w = waits} i h) = fine_stops i h
  closed_fine (throws v) e (fine_stops {w = uncallable} i h) = fine_stops i h
  closed_fine (throws v) e (fine_stops {w = cut} i h) = fine_stops i h
  closed_fine (throws v) e (fine_stops {w = unknown} i h) = fine_stops i h
  closed_fine (throws v) e (fine_stops {w = breaks l} i h) = fine_stops i h
  closed_fine (throws v) e (fine_stops {w = continues l} i h) = fine_stops i h
  closed_fine (throws v) e (fine_stops {w = out_of_turns} i h) = fine_stops i h
  closed_fine (faults v) e (fine_stops i h) = fine_stops i h
  closed_fine waits e (fine_stops i h) = fine_stops i h
  closed_fine uncallable e (fine_stops i h) = fine_stops i h
  closed_fine cut e (fine_stops i h) = fine_stops i h
  closed_fine unknown e (fine_stops i h) = fine_stops i h
  closed_fine (breaks l) e (fine_stops i h) = fine_stops i h
  closed_fine (continues l) e (fine_stops i h) = fine_stops i h
  closed_fine out_of_turns e (fine_stops i h) = fine_stops i h

  closing_stop : {A : Type 0} {Q : A → Type 0} (it : Value) (w : Stop) → allowed E w ≡ true → (s : State) → Held u s → (b : Bool) → Fine u E Q (if b then closed_after w (ask (of_statement (close it)) s) else stops w s)
  closing_stop it w e s h true = closed_fine w e (ask_fine (of_statement (close it)) s h)
  closing_stop it w e s h false = fine_stops e h

  closing_fine : {A : Type 0} {Q : A → Type 0} (alive : Bool) (it : Value) {r : Result A} → Fine u E Q r → Fine u E Q (closing alive it r)
  closing_fine true it (fine_gives q h) = fine_gives q h
  closing_fine true it (fine_stops {w = w} {s = s} e h) = closing_stop it w e s h (is_completion w)
  closing_fine false it (fine_gives q h) = fine_gives q h
  closing_fine false it (fine_stops e h) = fine_stops e h

  guarded_fine : {A : Type 0} {Q : A → Type 0} (alive : Bool) (it : Value) {m : M A} → Means u E Q m → Means u E Q (guarded alive it m)
  guarded_fine alive it h s k = closing_fine alive it (h s k)

  early_next : (ls : List Text) (closes : Bool) (it : Value) (w : Stop) → allowed E w ≡ true → (s : State) → Held u s → (b : Bool) → Fine u E {A = Value} Any (if b then stops w s else closing closes it (stops w s))
  early_next ls closes it w e s h true = fine_stops e h
  early_next ls closes it w e s h false = closing_fine closes it (fine_stops e h)

  early_fine : (ls : List Text) (closes : Bool) (it : Value) {r : Result Value} → Fine u E Any r → Fine u E Any (left_early ls closes it r)
  early_fine ls closes it (fine_gives q h) = fine_gives tt h
  early_fine ls closes it (fine_stops {w = continues l} {s = s} e h) = early_next ls closes it (continues l) e s h (is_own ls l)
  early_fine ls closes it (fine_stops {w = throws v} e h) = closing_fine closes it (fine_stops e h)
  early_fine ls closes it (fine_stops {w = breaks l} e h) = closing_fine closes it (fine_stops e h)
  early_fine ls closes it (fine_stops {w = faults v} e h) = closing_fine closes it (fine_stops e h)
  early_fine ls closes it (fine_stops {w = waits} e h) = closing_fine closes it (fine_stops e h)
  early_fine ls closes it (fine_stops {w = uncallable} e h) = closing_fine closes it (fine_stops e h)
  early_fine ls closes it (fine_stops {w = cut} e h) = closing_fine closes it (fine_stops e h)
  early_fine ls closes it (fine_stops {w = unknown} e h) = closing_fine closes it (fine_stops e h)
  early_fine ls closes it (fine_stops {w = out_of_turns} e h) = closing_fine closes it (fine_stops e h)

  pub stepped_fine : (it : Value) → Means u E Any (stepped it)
  stepped_fine it = then_fine (ask_fine _) (λ v _. return_fine tt)

module _ {u : Bool} {E : Exits} where
  pub each_fine : (ls : List Text) (closes : Bool) {turn : Value → M Value} → ((v : Value) → Means u (loop_exits ls E) Any (turn v)) → (it : Value) → Means u E Any (each ls closes turn it)
  each_fine ls closes h it = looped_fine E ls (stepped_fine it) (then_fine (ask_fine _) (λ v _ s k. early_fine ls closes it (h v s k))) (return_fine tt)

-- `switch`

module _ {u : Bool} (E : Exits) where
  selected_fine : (v : Value) {others cs : List Clause} → ClausesFine u (switch_exits E) others → ClausesFine u (switch_exits E) cs → Means u (switch_exits E) (ClausesFine u (switch_exits E)) (selected v others cs)
  selected_fine v o no_clauses = return_fine o
  selected_fine v o (clause_and (default_fine b) h) = selected_fine v (clause_and (default_fine b) h) h
  selected_fine v o (clause_and (when_fine t b) h) = then_fine t (λ w _. then_fine (ask_fine _) (λ x _. choice_fine (is_true x) (return_fine (clause_and (when_fine t b) h)) (selected_fine v o h)))

  bodies_fine : {cs : List Clause} → ClausesFine u (switch_exits E) cs → Means u (switch_exits E) Any (bodies cs)
  bodies_fine no_clauses = return_fine tt
  bodies_fine (clause_and (default_fine b) h) = then_fine b (λ _ _. bodies_fine h)
  bodies_fine (clause_and (when_fine t b) h) = then_fine b (λ _ _. bodies_fine h)

  pub switched_fine : (v : Value) {cs : List Clause} → ClausesFine u (switch_exits E) cs → Means u E Any (switched v cs)
  switched_fine v h s k = unbroken_fine E (then_fine (selected_fine v no_clauses h) (λ cs g. bodies_fine g) s k)

-- PATTERNS

abbrev pub PutterFine : Bool → Exits → Putter → Type 0
PutterFine u E f = (v : Value) → Means u E Any (f v)

pub data MemberFine (u : Bool) (E : Exits) : Member → Type 0 where
  keyed_fine : {f : Putter} → PutterFine u E f → MemberFine u E (keyed f)
  remaining_fine : {m : M Putter} → Means u E (PutterFine u E) m → MemberFine u E (remaining m)

pub data MembersFine (u : Bool) (E : Exits) : List Member → Type 0 where
  no_members : MembersFine u E []
  member_and : {c : Member} {cs : List Member} → MemberFine u E c → MembersFine u E cs → MembersFine u E (c ∷ cs)

pub data ElementFine (u : Bool) (E : Exits) : Element → Type 0 where
  elision_fine : ElementFine u E elision
  takes_fine : {m : M Putter} → Means u E (PutterFine u E) m → ElementFine u E (takes m)
  takes_rest_fine : {m : M Putter} → Means u E (PutterFine u E) m → ElementFine u E (takes_rest m)

pub data ElementsFine (u : Bool) (E : Exits) : List Element → Type 0 where
  no_elements : ElementsFine u E []
  element_and : {c : Element} {cs : List Element} → ElementFine u E c → ElementsFine u E cs → ElementsFine u E (c ∷ cs)

pub data DefinitionsFine (u : Bool) (E : Exits) : List (M Value) → Type 0 where
  no_definitions : DefinitionsFine u E []
  definition_and : {m : M Value} {ms : List (M Value)} → Means u E Any m → DefinitionsFine u E ms → DefinitionsFine u E (m ∷ ms)

module _ {u : Bool} {E : Exits} where
  pub collected_fine : {ms : List (M Value)} → DefinitionsFine u E ms → Means u E Any (collected ms)
  collected_fine no_definitions = return_fine tt
  collected_fine (definition_and h g) = then_fine h (λ v _. then_fine (collected_fine g) (λ vs _. return_fine tt))

  pub copied_fine : (v : Value) (ks : Values) → Means u E Any (copied v ks)
  copied_fine v ks = then_fine (ask_fine _) (λ c _. return_fine tt)

  rest_fine : (v : Value) (ks : Values) → Means u E Any (rest_of v ks)
  rest_fine v ks = then_fine (copied_fine v ks) (λ c _. ask_fine _)

  pub default_put_fine : {e : M Value} {put : Putter} → Means u E Any e → PutterFine u E put → PutterFine u E (or_default e put)
  default_put_fine h g v = choice_fine (is_undefined v) (then_fine h (λ w _. g w)) (g v)

  pub property_fine : {key : M Value} (t : Option Text) {target : M Putter} → Means u E Any key → Means u E (PutterFine u E) target → PutterFine u E (property_of key t target)
  property_fine (Some t) h g v = then_fine h (λ k _. then_fine g (λ put p. then_fine (then_fine (ask_fine _) (λ w _. p w)) (λ _ _. return_fine tt)))
  property_fine None h g v = then_fine h (λ k _. then_fine g (λ put p. then_fine (then_fine (ask_fine _) (λ w _. p w)) (λ _ _. return_fine tt)))

  members_fine : (v : Value) (ks : Values) {ms : List Member} → MembersFine u E ms → Means u E Any (members_of v ks ms)
  members_fine v ks no_members = return_fine tt
  members_fine v ks (member_and (keyed_fine f) h) = then_fine (f v) (λ k _. members_fine v (joined ks (one_value k)) h)
  members_fine v ks (member_and (remaining_fine m) h) = then_fine m (λ put p. then_fine (rest_fine v ks) (λ w _. p w))

  pub object_fine : {ms : List Member} → MembersFine u E ms → PutterFine u E (object_pattern ms)
  object_fine h v = choice_fine (is_nullish v) (stop_fine _ refl) (members_fine v none h)

  advance_fine : (alive : Bool) (it : Value) → Means u E Any (advance alive it)
  advance_fine false it = return_fine tt
  advance_fine true it = then_fine (stepped_fine it) (λ b _. choice_fine b (then_fine (ask_fine _) (λ v _. return_fine tt)) (return_fine tt))

  skipped_fine : (alive : Bool) (it : Value) → Means u E Any (skipped alive it)
  skipped_fine false it = return_fine tt
  skipped_fine true it = stepped_fine it

  -- each item takes two moves
  items_next : (n : ℕ) (it : Value) (c : Text → Cell) (ms : List Move) (qs : List Question) → Held u (state c ms qs) → ((ns : List Move) (rs : List Question) → length ns < length ms → Held u (state c ns rs) → Fine u E Any (items_within n it (state c ns rs))) → Fine u E Any ((ask (of_statement (item it)) >>= λ v. items_within n it >>= λ vs. return (v and vs)) (state c ms qs))
  items_next n it c [] qs k g = fine_stops refl (still u c _ _ _ _ k)
  items_next n it c (answer v ∷ ms) qs k g = onward_fine (g ms _ (omega arith) (still u c _ _ _ _ k)) (λ vs _. return_fine tt)
  items_next n it c (throw v ∷ ms) qs k g = fine_stops refl (still u c _ _ _ _ k)

  items_choice : (n : ℕ) (it : Value) (c : Text → Cell) (ms : List Move) (qs : List Question) → Held u (state c ms qs) → ((ns : List Move) (rs : List Question) → length ns < length ms → Held u (state c ns rs) → Fine u E Any (items_within n it (state c ns rs))) → (b : Bool) → Fine u E {A = Values} Any ((if b then (ask (of_statement (item it)) >>= λ v. items_within n it >>= λ vs. return (v and vs)) else return none) (state c ms qs))
  items_choice n it c ms qs k g true = items_next n it c ms qs k g
  items_choice n it c ms qs k g false = fine_gives tt k

  items_fine : (n : ℕ) (it : Value) (c : Text → Cell) (ms : List Move) (qs : List Question) → length ms < n → Held u (state c ms qs) → Fine u E Any (items_within n it (state c ms qs))
  items_fine zero it c ms qs e k = absurd (omega arith)
  items_fine (suc n) it c [] qs e k = fine_stops refl (still u c _ _ _ _ k)
  items_fine (suc n) it c (answer v ∷ ms) qs e k = items_choice n it c ms _ (still u c _ _ _ _ k) (λ ns rs i j. items_fine n it c ns rs (omega arith) j) (is_true v)
  items_fine (suc n) it c (throw v ∷ ms) qs e k = fine_stops refl (still u c _ _ _ _ k)

  all_items_fine : (alive : Bool) (it : Value) → Means u E Any (all_items alive it)
  all_items_fine true it (state c ms qs) k = items_fine (suc (length ms)) it c ms qs (omega arith) k
  all_items_fine false it s k = fine_gives tt k

  close_fine : (alive : Bool) (it : Value) → Means u E Any (close_where alive it)
  close_fine true it = then_fine (ask_fine _) (λ v _. return_fine tt)
  close_fine false it = return_fine tt

  elements_fine : (it : Value) (alive : Bool) {es : List Element} → ElementsFine u E es → Means u E Any (elements_of it alive es)
  elements_fine it alive no_elements = close_fine alive it
  elements_fine it alive (element_and elision_fine h) = then_fine (skipped_fine alive it) (λ b _. elements_fine it b h)
  elements_fine it alive (element_and (takes_fine m) h) = then_fine (guarded_fine alive it m) (λ put p. then_fine (advance_fine alive it) (λ a _. then_fine (guarded_fine (is_alive a) it (p (item_of a))) (λ _ _. elements_fine it (is_alive a) h)))
  elements_fine it alive (element_and (takes_rest_fine m) h) = then_fine (guarded_fine alive it m) (λ put p. then_fine (all_items_fine alive it) (λ vs _. then_fine (ask_fine _) (λ w _. p w)))

  pub array_fine : {es : List Element} → ElementsFine u E es → PutterFine u E (array_pattern es)
  array_fine h v = then_fine (ask_fine _) (λ it _. elements_fine it true h)
