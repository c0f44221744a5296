-- What statements are made of is alike in states that agree.
use Rattle.std.proofs.Common.{◌≡◌, refl, List, [], ◌∷◌, ap}
use Rattle.std.specs.Prelude.{ℕ, zero, suc, Bool, true, false, not, ◌&&◌, ◌||◌, Option, Some, None, codes, if◌then◌else◌, bytes_eq}
use Rattle.std.proofs.lemmas.Slice.Eq.{bytes_eq-Decides}
use Rattle.es_tree.specs.Words.{Text}
use Rattle.es_tree.specs.Fresh.{is_among}
use Rattle.es_runs.specs.Machine.{set_cell, cell_of, Value, Values, Cell, Move, Question, State, Stop, Result, M, ◌>>=◌, ask, is_nullish, is_true}
use Rattle.es_runs.specs.Machine.Value.{undefined, own}
use Rattle.es_runs.specs.Machine.OwnValue.{stack, count, contents}
use Rattle.es_runs.specs.Machine.Values.{none, ◌and◌}
use Rattle.es_runs.specs.Machine.Question.{operator, of_statement}
use Rattle.es_runs.specs.Machine.StatementQuestion.{step, item, close, method, dispose}
use Rattle.es_runs.specs.Machine.Cell.{unset, holds}
use Rattle.es_runs.specs.Machine.Move.{answer, throw}
use Rattle.es_runs.specs.Machine.State.{state}
use Rattle.es_runs.specs.Machine.Stop.{throws, waits, uncallable, cut, unknown, breaks, continues, out_of_turns, faults}
use Rattle.es_runs.specs.Machine.Result.{stops}
use Rattle.es_runs.specs.Alike.{Frame, CellSeen, is_loose, Agree, Same, Alike, Equal}
use Rattle.es_runs.specs.Alike.Agree.{agree}
use Rattle.es_runs.specs.Alike.Same.{both_give, both_stop, outside, at_fault}
use Rattle.es_runs.specs.Alike.Equal.{equal}
use Rattle.es_runs.proofs.Basic.{bind_alike, then_alike, return_alike, stop_alike, ask_alike, strict_cell_alike, set_alike}
use Rattle.es_statement_runs.specs.Scopes.{turns_cell, stack_cell, stacks_cell, contents_cell, is_completion, shadowed, put_back, leave, left, scoped, done_with}
use Rattle.es_statement_runs.specs.Stacks.{throw_over, after_dispose, then_pending, disposed, pushed, used, emptied, with_stack_where, Scope, in_scope, number_in, entries_in, pending_in, on_own_stack, new_stack, taken_into_use, failed_with, all_disposed, on_stack_in, own_cells}
use Rattle.es_statement_runs.specs.Statements.{taken, one_turn, is_own, turned, loop, unbroken, looped, go_on_where, labelled, caught, finalized, closed_after, closing, guarded, left_early, stepped, each, Clause, selected, bodies, switched}
use Rattle.es_statement_runs.specs.Alike.{Quiet, SeenAlike, StackSeen, visible, all_visible, ClausesLike}
use Rattle.es_statement_runs.specs.Alike.ClauseLike.{like_when, like_default}
use Rattle.es_statement_runs.specs.Alike.ClausesLike.{no_clause, clause_and}

module _ (F : Frame) where
  abbrev SeenCells : (c d : Text → Cell) → Type 0
  SeenCells c d = (x : Text) → F.hidden x ≡ false → CellSeen (is_loose F x) (c x) (d x)

  abbrev FitCells : (c d : Text → Cell) → Type 0
  FitCells c d = (x : Text) → F.hidden x ≡ true → F.fits c x (d x)

  abbrev KeptCells : (d : Text → Cell) → Type 0
  KeptCells d = (x : Text) → F.frozen x ≡ true → F.keeps x (d x)

  pub choice_same : {A B : Type 0} {R : A → B → Type 0} (b : Bool) {r1 r2 : Result A} {q1 q2 : Result B} → Same F R r1 q1 → Same F R r2 q2 → Same F R (if b then r1 else r2) (if b then q1 else q2)
  choice_same true h g = h
  choice_same false h g = g

  pub choice_alike : {A B : Type 0} {R : A → B → Type 0} (b : Bool) {m1 m2 : M A} {k1 k2 : M B} → Alike F R m1 k1 → Alike F R m2 k2 → Alike F R (if b then m1 else m2) (if b then k1 else k2)
  choice_alike true h g = h
  choice_alike false h g = g

  -- LABELS, LOOPS' ENDS

  labelled_stop : (x : Text) (w : Stop) {s t : State} → Agree F s t → Same F Equal (labelled x (stops w s)) (labelled x (stops w t))
  labelled_stop x (breaks (l ∷ more)) g = choice_same (bytes_eq l x) (both_give equal g) (both_stop g)
  labelled_stop x _ g = both_stop g

  pub labelled_same : (x : Text) {r q : Result Value} → Same F Equal r q → Same F Equal (labelled x r) (labelled x q)
  labelled_same x (both_give equal g) = both_give equal g
  labelled_same x (both_stop {w = w} g) = labelled_stop x w g
  labelled_same x outside = outside
  labelled_same x (at_fault e) = at_fault e

  unbroken_stop : (w : Stop) {s t : State} → Agree F s t → Same F Equal (unbroken (stops w s)) (unbroken (stops w t))
  unbroken_stop (breaks []) g = both_give equal g
  unbroken_stop _ g = both_stop g

  pub unbroken_same : {r q : Result Value} → Same F Equal r q → Same F Equal (unbroken r) (unbroken q)
  unbroken_same (both_give equal g) = both_give equal g
  unbroken_same (both_stop {w = w} g) = unbroken_stop w g
  unbroken_same outside = outside
  unbroken_same (at_fault e) = at_fault e

  turned_stop : (ls : List Text) (w : Stop) {again more : M Value} → Alike F Equal again more → {s t : State} → Agree F s t → Same F Equal (turned ls again (stops w s)) (turned ls more (stops w t))
  turned_stop ls (continues l) h {s = s} {t = t} g = choice_same (is_own ls l) (h s t g) (both_stop g)
  turned_stop ls _ h g = both_stop g

  turned_same : (ls : List Text) {again more : M Value} → Alike F Equal again more → {r q : Result Value} → Same F Equal r q → Same F Equal (turned ls again r) (turned ls more q)
  turned_same ls h (both_give {s = s} {t = t} equal g) = h s t g
  turned_same ls h (both_stop {w = w} g) = turned_stop ls w h g
  turned_same ls h outside = outside
  turned_same ls h (at_fault e) = at_fault e

  -- `try`

  caught_stop : (w : Stop) {h k : Value → M Value} → ((v : Value) → Alike F Equal (h v) (k v)) → {s t : State} → Agree F s t → Same F Equal (caught h (stops w s)) (caught k (stops w t))
  caught_stop (throws v) h {s = s} {t = t} g = h v s t g
  caught_stop _ h g = both_stop g

  pub caught_same : {h k : Value → M Value} → ((v : Value) → Alike F Equal (h v) (k v)) → {r q : Result Value} → Same F Equal r q → Same F Equal (caught h r) (caught k q)
  caught_same h (both_give equal g) = both_give equal g
  caught_same h (both_stop {w = w} g) = caught_stop w h g
  caught_same h outside = outside
  caught_same h (at_fault e) = at_fault e

  pub finalized_same : {m k : M Value} → Alike F Equal m k → {r q : Result Value} → Same F Equal r q → Same F Equal (finalized m r) (finalized k q)
  finalized_same h (both_give {s = s} {t = t} equal g) = h s t g
  finalized_same h (both_stop {w = w} {s = s} {t = t} g) = choice_same (is_completion w) (then_alike F h (λ u. stop_alike F w) s t g) (both_stop g)
  finalized_same h outside = outside
  finalized_same h (at_fault e) = at_fault e

  -- ITERATORS

  closed_throw : (v : Value) (w : Stop) {A B : Type 0} {R : A → B → Type 0} {s t : State} → Agree F s t → Same F R (closed_after {A = A} (throws v) (stops w s)) (closed_after {A = B} (throws v) (stops w t))
  closed_throw v (throws u) g = both_stop g
  closed_throw v _ g = both_stop g

  closed_stop : (w u : Stop) {A B : Type 0} {R : A → B → Type 0} {s t : State} → Agree F s t → Same F R (closed_after {A = A} w (stops u s)) (closed_after {A = B} w (stops u t))
  closed_stop (throws v) u g = closed_throw v u g
  closed_stop _ u g = both_stop g

  closed_next : (w : Stop) {A B : Type 0} {R : A → B → Type 0} (it : Value) (c d : Text → Cell) (ms : List Move) (qs : List Question) → Agree F (state c ms qs) (state d ms qs) → SeenCells c d → FitCells c d → KeptCells d → Same F R (closed_after {A = A} w (ask (of_statement (close it)) (state c ms qs))) (closed_after {A = B} w (ask (of_statement (close it)) (state d ms qs)))
  closed_next w it c d [] qs _ h g f = closed_stop w waits (agree h g f)
  closed_next w it c d (answer v ∷ ms) qs _ h g f = both_stop (agree h g f)
  closed_next w it c d (throw v ∷ ms) qs _ h g f = closed_stop w (throws v) (agree h g f)

  closed_same : (w : Stop) {A B : Type 0} {R : A → B → Type 0} (it : Value) {s t : State} → Agree F s t → Same F R (closed_after {A = A} w (ask (of_statement (close it)) s)) (closed_after {A = B} w (ask (of_statement (close it)) t))
  closed_same w it (agree {c = c} {d = d} {ms = ms} {qs = qs} h g f) = closed_next w it c d ms qs (agree h g f) h g f

  pub closing_same : {A B : Type 0} {R : A → B → Type 0} (b : Bool) (it : Value) {r : Result A} {q : Result B} → Same F R r q → Same F R (closing b it r) (closing b it q)
  closing_same true it (both_stop {w = w} {s = s} {t = t} g) = choice_same (is_completion w) (closed_same w it g) (both_stop g)
  closing_same true it (both_give h g) = both_give h g
  closing_same true it outside = outside
  closing_same true it (at_fault e) = at_fault e
  closing_same false it (both_stop g) = both_stop g
  closing_same false it (both_give h g) = both_give h g
  closing_same false it outside = outside
  closing_same false it (at_fault e) = at_fault e

  pub guarded_alike : {A B : Type 0} {R : A → B → Type 0} (b : Bool) (it : Value) {m : M A} {k : M B} → Alike F R m k → Alike F R (guarded b it m) (guarded b it k)
  guarded_alike b it h s t g = closing_same b it (h s t g)

  early_stop : (ls : List Text) (b : Bool) (it : Value) (w : Stop) {s t : State} → Agree F s t → Same F Equal (left_early ls b it (stops w s)) (left_early ls b it (stops w t))
  early_stop ls b it (continues l) g = choice_same (is_own ls l) (both_stop g) (closing_same b it (both_stop g))
  early_stop ls b it (throws v) g = closing_same b it (both_stop g)
  early_stop ls b it waits g = closing_same b it (both_stop g)
  early_stop ls b it uncallable g = closing_same b it (both_stop g)
  early_stop ls b it cut g = closing_same b it (both_stop g)
  early_stop ls b it unknown g = closing_same b it (both_stop g)
  early_stop ls b it (breaks l) g = closing_same b it (both_stop g)
  early_stop ls b it out_of_turns g = closing_same b it (both_stop g)
  early_stop ls b it (faults z) g = closing_same b it (both_stop g)

  early_outside : (ls : List Text) (b : Bool) (it : Value) (s : State) {q : Result Value} → Same F Equal (left_early ls b it (stops uncallable s)) q
  early_outside ls true it s = outside
  early_outside ls false it s = outside

  closing_fault : (b : Bool) (it : Value) (v : Value) (s : State) → F.faults_outside ≡ true → {q : Result Value} → Same F Equal (closing b it (stops (faults v) s)) q
  closing_fault true it v s e = at_fault e
  closing_fault false it v s e = at_fault e

  early_same : (ls : List Text) (b : Bool) (it : Value) {r q : Result Value} → Same F Equal r q → Same F Equal (left_early ls b it r) (left_early ls b it q)
  early_same ls b it (both_give equal g) = both_give equal g
  early_same ls b it (both_stop {w = w} g) = early_stop ls b it w g
  early_same ls b it outside = early_outside ls b it _
  early_same ls b it (at_fault {v = v} {s = s} e) = closing_fault b it v s e

  pub stepped_alike : (it : Value) → Alike F Equal (stepped it) (stepped it)
  stepped_alike it = then_alike F (ask_alike F (of_statement (step it))) (λ v. return_alike F (is_true v))

  pub done_alike : (v : Value) → Alike F Equal (done_with v) (done_with v)
  done_alike v = return_alike F undefined

  -- DISPOSAL

  after_stop : (rest : Option Value → M Value) → ((p : Option Value) → Alike F Equal (rest p) (rest p)) → (p : Option Value) (w : Stop) {s t : State} → Agree F s t → Same F Equal (after_dispose rest p (stops w s)) (after_dispose rest p (stops w t))
  after_stop rest h p (throws v) {s = s} {t = t} g = h (Some (throw_over p v)) s t g
  after_stop rest h p _ g = both_stop g

  after_next : (rest : Option Value → M Value) → ((p : Option Value) → Alike F Equal (rest p) (rest p)) → (p : Option Value) (q : Question) (c d : Text → Cell) (ms : List Move) (qs : List Question) → SeenCells c d → FitCells c d → KeptCells d → Same F Equal (after_dispose rest p (ask q (state c ms qs))) (after_dispose rest p (ask q (state d ms qs)))
  after_next rest i p q c d [] qs h g f = both_stop (agree h g f)
  after_next rest i p q c d (answer v ∷ ms) qs h g f = i p _ _ (agree h g f)
  after_next rest i p q c d (throw v ∷ ms) qs h g f = after_stop rest i p (throws v) (agree h g f)

  after_same : (rest : Option Value → M Value) → ((p : Option Value) → Alike F Equal (rest p) (rest p)) → (p : Option Value) (q : Question) {s t : State} → Agree F s t → Same F Equal (after_dispose rest p (ask q s)) (after_dispose rest p (ask q t))
  after_same rest i p q (agree {c = c} {d = d} {ms = ms} {qs = qs} h g f) = after_next rest i p q c d ms qs h g f

  pending_alike : (p : Option Value) → Alike F Equal (then_pending p) (then_pending p)
  pending_alike None = return_alike F undefined
  pending_alike (Some v) = stop_alike F (throws v)

  pub disposed_alike : (vs : Values) (p : Option Value) → Alike F Equal (disposed vs p) (disposed vs p)
  disposed_alike none p = pending_alike p
  disposed_alike (v and none) p = pending_alike p
  disposed_alike (v and (m and rest)) p = λ s t g. after_same (disposed rest) (disposed_alike rest) p (of_statement (dispose v m)) g

  -- SCOPES

  among_step : (xs : List Text) (x y : Text) → (all_visible F xs ≡ true → is_among xs y ≡ false) → visible F y ≡ false → (b : Bool) → bytes_eq x y ≡ b → (c : Bool) → visible F x ≡ c → (c && all_visible F xs) ≡ true → (b || is_among xs y) ≡ false
  among_step xs x y h g true e true c k = let i : x ≡ y = (bytes_eq-Decides x y).0 e in let j : visible F x ≡ visible F y = ap (visible F) i in absurd (cc j)
  among_step xs x y h g false e true c k = h k
  among_step xs x y h g true e false c k = absurd (cc k)
  among_step xs x y h g false e false c k = absurd (cc k)

  among_seen : (xs : List Text) (y : Text) → all_visible F xs ≡ true → visible F y ≡ false → is_among xs y ≡ false
  among_seen [] y h g = refl
  among_seen (x ∷ xs) y h g = among_step xs x y (λ k. among_seen xs y k g) g (bytes_eq x y) refl (visible F x) refl h

  hidden_unseen : (y : Text) → F.hidden y ≡ true → visible F y ≡ false
  hidden_unseen y h = rw h

  frozen_unseen : (y : Text) → F.frozen y ≡ true → visible F y ≡ false
  frozen_unseen y h = at (F.hidden y)
    where
      at : (b : Bool) → not (b || F.frozen y) ≡ false
      at true = refl
      at false = rw h

  both_unset : (l : Bool) → CellSeen l unset unset
  both_unset true = tt
  both_unset false = refl

  unset_or : (l b : Bool) (c d : Cell) → CellSeen l c d → CellSeen l (if b then unset else c) (if b then unset else d)
  unset_or l true c d e = both_unset l
  unset_or l false c d e = e

  back_or : (l b : Bool) (c d e f : Cell) → CellSeen l c d → CellSeen l e f → CellSeen l (if b then c else e) (if b then d else f)
  back_or l true c d e f h g = h
  back_or l false c d e f h g = g

  untouched_here : (P : Cell → Type 0) (xs : List Text) (y : Text) (d : Text → Cell) → is_among xs y ≡ false → P (d y) → P (shadowed xs d y)
  untouched_here P xs y d e h = rw e h

  untouched_back : (P : Cell → Type 0) (xs : List Text) (y : Text) (d f : Text → Cell) → is_among xs y ≡ false → P (f y) → P (put_back xs d f y)
  untouched_back P xs y d f e h = rw e h

  pub enter_agree : (xs : List Text) → all_visible F xs ≡ true → (c d : Text → Cell) (ms : List Move) (qs : List Question) → SeenCells c d → FitCells c d → KeptCells d → Agree F (state (shadowed xs c) ms qs) (state (shadowed xs d) ms qs)
  enter_agree xs v c d ms qs h g f = agree (λ y e. unset_or (is_loose F y) (is_among xs y) (c y) (d y) (h y e))
      (λ y e. F.steady c (shadowed xs c) (λ u i. untouched_here (λ k. k ≡ c u) xs u c (among_seen xs u v (hidden_unseen u i)) refl) y e (shadowed xs d y) (untouched_here (F.fits c y) xs y d (among_seen xs y v (hidden_unseen y e)) (g y e)))
      (λ y e. untouched_here (F.keeps y) xs y d (among_seen xs y v (frozen_unseen y e)) (f y e))

  pub leave_agree : (xs : List Text) → all_visible F xs ≡ true → (c d : Text → Cell) → SeenCells c d → {s t : State} → Agree F s t → Agree F (leave xs c s) (leave xs d t)
  leave_agree xs v c d o (agree {c = e} {d = i} h g f) = agree (λ y k. back_or (is_loose F y) (is_among xs y) (c y) (d y) (e y) (i y) (o y k) (h y k))
      (λ y k. F.steady e (put_back xs c e) (λ u j. untouched_back (λ z. z ≡ e u) xs u c e (among_seen xs u v (hidden_unseen u j)) refl) y k (put_back xs d i y) (untouched_back (F.fits e y) xs y d i (among_seen xs y v (hidden_unseen y k)) (g y k)))
      (λ y k. untouched_back (F.keeps y) xs y d i (among_seen xs y v (frozen_unseen y k)) (f y k))

  left_same : {A B : Type 0} {R : A → B → Type 0} (xs : List Text) → all_visible F xs ≡ true → (c d : Text → Cell) → SeenCells c d → {r : Result A} {q : Result B} → Same F R r q → Same F R (left xs c r) (left xs d q)
  left_same xs v c d o (both_give k g) = both_give k (leave_agree xs v c d o g)
  left_same xs v c d o (both_stop g) = both_stop (leave_agree xs v c d o g)
  left_same xs v c d o outside = outside
  left_same xs v c d o (at_fault e) = at_fault e

  pub scoped_alike : {A B : Type 0} {R : A → B → Type 0} (xs : List Text) → all_visible F xs ≡ true → {m : M A} {k : M B} → Alike F R m k → Alike F R (scoped xs m) (scoped xs k)
  scoped_alike xs v a s t (agree {c = c} {d = d} {ms = ms} {qs = qs} h g f) = left_same xs v c d h (a _ _ (enter_agree xs v c d ms qs h g f))

  -- WITH THE MACHINE'S OWN CELLS IN SIGHT

  pub seen_cell_alike : {x : Text} → SeenAlike F x → Alike F Equal (cell_of x) (cell_of x)
  seen_cell_alike {x = x} seen = strict_cell_alike F x seen.hidden seen.loose

  pub set_seen_alike : {x : Text} → SeenAlike F x → (u : Value) → Alike F Equal (set_cell x u) (set_cell x u)
  set_seen_alike {x = x} seen u = set_alike F x seen.hidden seen.frozen u

  visible_cell : {x : Text} → SeenAlike F x → visible F x ≡ true
  visible_cell seen = rw (seen.hidden, seen.frozen)

  pub own_visible : (block : Scope) → (block.uses ≡ true → StackSeen F) → all_visible F block.names ≡ true → all_visible F (own_cells block) ≡ true
  own_visible block q h = at block.uses q
    where
      at : (b : Bool) → (b ≡ true → StackSeen F) → all_visible F (if b then stack_cell ∷ block.names else block.names) ≡ true
      at true q = rw (visible_cell (q refl), h)
      at false q = h

  module _ (quiet : Quiet F) where
    turns_seen : SeenAlike F turns_cell
    turns_seen = quiet.own_seen turns_cell refl refl

    stacks_seen : SeenAlike F stacks_cell
    stacks_seen = quiet.own_seen stacks_cell refl refl

    contents_seen : (n : ℕ) → SeenAlike F (contents_cell n)
    contents_seen n = quiet.own_seen (contents_cell n) refl refl

    -- STACKS

    pub new_stack_alike : Alike F Equal new_stack new_stack
    new_stack_alike = then_alike F (seen_cell_alike stacks_seen) (λ c. then_alike F (set_seen_alike stacks_seen (own (count (suc (number_in c))))) (λ u. then_alike F (set_seen_alike (contents_seen (number_in c)) (own (contents none none))) (λ z. return_alike F (own (stack (number_in c))))))

    pub taken_use_alike : (n : ℕ) (v : Value) → Alike F Equal (taken_into_use n v) (taken_into_use n v)
    taken_use_alike n v = choice_alike (is_nullish v) (return_alike F v) (then_alike F (ask_alike F (of_statement (method v))) (λ m. then_alike F (seen_cell_alike (contents_seen n)) (λ c. then_alike F (set_seen_alike (contents_seen n) (pushed v m c)) (λ u. return_alike F v))))

    pub failed_alike : (n : ℕ) (v : Value) → Alike F Equal (failed_with n v) (failed_with n v)
    failed_alike n v = then_alike F (seen_cell_alike (contents_seen n)) (λ c. then_alike F (set_seen_alike (contents_seen n) (own (contents (v and none) (entries_in c)))) (λ u. return_alike F v))

    pub all_disposed_alike : (n : ℕ) → Alike F Equal (all_disposed n) (all_disposed n)
    all_disposed_alike n = then_alike F (seen_cell_alike (contents_seen n)) (λ c. then_alike F (set_seen_alike (contents_seen n) (own (contents none none))) (λ u. disposed_alike (entries_in c) (pending_in c)))

    on_stack_in_alike : {f : ℕ → M Value} → ((n : ℕ) → Alike F Equal (f n) (f n)) → (c : Cell) → Alike F Equal (on_stack_in f c) (on_stack_in f c)
    on_stack_in_alike h (holds (own (stack n))) = h n
    on_stack_in_alike h _ = stop_alike F unknown

    module _ (seen : StackSeen F) where
      pub used_alike : (v : Value) → Alike F Equal (used v) (used v)
      used_alike v = then_alike F (seen_cell_alike seen) (on_stack_in_alike (λ n. taken_use_alike n v))

      on_own_alike : {f : ℕ → M Value} → ((n : ℕ) → Alike F Equal (f n) (f n)) → Alike F Equal (on_own_stack f) (on_own_stack f)
      on_own_alike h = then_alike F (seen_cell_alike seen) (on_stack_in_alike h)

      emptied_stop : (w : Stop) {s t : State} → Agree F s t → Same F Equal (emptied (stops w s)) (emptied (stops w t))
      emptied_stop (throws v) {s = s} {t = t} g = on_own_alike (λ n. then_alike F (failed_alike n v) (λ u. all_disposed_alike n)) s t g
      emptied_stop (breaks l) {s = s} {t = t} g = then_alike F (on_own_alike all_disposed_alike) (λ u. stop_alike F (breaks l)) s t g
      emptied_stop (continues l) {s = s} {t = t} g = then_alike F (on_own_alike all_disposed_alike) (λ u. stop_alike F (continues l)) s t g
      emptied_stop _ g = both_stop g

      emptied_same : {r q : Result Value} → Same F Equal r q → Same F Equal (emptied r) (emptied q)
      emptied_same (both_give {s = s} {t = t} equal g) = on_own_alike all_disposed_alike s t g
      emptied_same (both_stop {w = w} g) = emptied_stop w g
      emptied_same outside = outside
      emptied_same (at_fault e) = at_fault e

      with_stack_alike : {m k : M Value} → Alike F Equal m k → Alike F Equal (with_stack_where true m) (with_stack_where true k)
      with_stack_alike h s t g = emptied_same (then_alike F new_stack_alike (λ k. then_alike F (set_seen_alike seen k) (λ u. h)) s t g)

    pub stack_alike : (uses : Bool) → (uses ≡ true → StackSeen F) → {m k : M Value} → Alike F Equal m k → Alike F Equal (with_stack_where uses m) (with_stack_where uses k)
    stack_alike true q h = with_stack_alike (q refl) h
    stack_alike false q h = h

    pub scope_alike : (block : Scope) → (block.uses ≡ true → StackSeen F) → all_visible F block.names ≡ true → {m k : M Value} → Alike F Equal m k → Alike F Equal (in_scope block m) (in_scope block k)
    scope_alike block q v h = scoped_alike (own_cells block) (own_visible block q v) (stack_alike block.uses q h)

    -- LOOPS

    taken_alike : (c : Cell) → Alike F Equal (taken c) (taken c)
    taken_alike (holds (own (count (suc n)))) = set_seen_alike turns_seen (own (count n))
    taken_alike _ = stop_alike F out_of_turns

    turn_alike : Alike F Equal one_turn one_turn
    turn_alike = then_alike F (seen_cell_alike turns_seen) taken_alike

    turn_then : (ls : List Text) {body body' again again' : M Value} → Alike F Equal body body' → Alike F Equal again again' → Alike F Equal (one_turn >>= λ _. λ s. turned ls again (body s)) (one_turn >>= λ _. λ s. turned ls again' (body' s))
    turn_then ls h g = then_alike F turn_alike (λ u s t k. turned_same ls g (h s t k))

    loop_alike : (n : ℕ) (ls : List Text) {test test' : M Bool} {body body' update update' : M Value} → Alike F Equal test test' → Alike F Equal body body' → Alike F Equal update update' → Alike F Equal (loop n ls test body update) (loop n ls test' body' update')
    loop_alike zero ls h g f = stop_alike F out_of_turns
    loop_alike (suc n) ls h g f = then_alike F h (λ b. choice_alike b (turn_then ls g (then_alike F f (λ u. loop_alike n ls h g f))) (return_alike F undefined))

    pub looped_alike : (ls : List Text) {test test' : M Bool} {body body' update update' : M Value} → Alike F Equal test test' → Alike F Equal body body' → Alike F Equal update update' → Alike F Equal (looped ls test body update) (looped ls test' body' update')
    looped_alike ls h g f s t k = unbroken_same (then_alike F (seen_cell_alike turns_seen) (λ c. loop_alike (suc (number_in c)) ls h g f) s t k)

    pub each_alike : (ls : List Text) (closes : Bool) {turn turn' : Value → M Value} → ((v : Value) → Alike F Equal (turn v) (turn' v)) → (it : Value) → Alike F Equal (each ls closes turn it) (each ls closes turn' it)
    each_alike ls closes h it = looped_alike ls (stepped_alike it) (then_alike F (ask_alike F (of_statement (item it))) (λ v s t g. early_same ls closes it (h v s t g))) (return_alike F undefined)

  -- `switch`

  selected_alike : (v : Value) {others others' : List Clause} → ClausesLike F others others' → {cs ds : List Clause} → ClausesLike F cs ds → Alike F (ClausesLike F) (selected v others cs) (selected v others' ds)
  selected_alike v o no_clause = λ s t g. both_give o g
  selected_alike v o (clause_and (like_default b) h) = selected_alike v (clause_and (like_default b) h) h
  selected_alike v o (clause_and (like_when e b) h) = then_alike F e (λ u. then_alike F (ask_alike F (operator (codes "===") (v and u and none))) (λ w. choice_alike (is_true w) (λ s t g. both_give (clause_and (like_when e b) h) g) (selected_alike v o h)))

  bodies_alike : {cs ds : List Clause} → ClausesLike F cs ds → Alike F Equal (bodies cs) (bodies ds)
  bodies_alike no_clause = return_alike F undefined
  bodies_alike (clause_and (like_default b) h) = then_alike F b (λ u. bodies_alike h)
  bodies_alike (clause_and (like_when e b) h) = then_alike F b (λ u. bodies_alike h)

  pub switched_alike : (v : Value) {cs ds : List Clause} → ClausesLike F cs ds → Alike F Equal (switched v cs) (switched v ds)
  switched_alike v h s t g = unbroken_same (bind_alike F (selected_alike v no_clause h) (λ cs ds k. bodies_alike k) s t g)

  pub go_on_alike : (v : Value) → Alike F Equal (go_on_where v) (go_on_where v)
  go_on_alike v = choice_alike (is_true v) (return_alike F undefined) (stop_alike F (breaks []))
