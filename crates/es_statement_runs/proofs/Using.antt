-- The row of `using` in a block.
use Rattle.std.proofs.Common.{suc, ℕ, ◌≡◌, refl, sym, subst, List, [], ◌∷◌, ap, ◌∙◌}
use Rattle.std.specs.Prelude.{Bool, true, false, not, ◌&&◌, ◌||◌, Option, Some, None, codes, bytes_eq, if◌then◌else◌}
use Rattle.std.proofs.lemmas.Slice.Eq.{bytes_eq-Decides}
use Rattle.es_tree.specs.Words.{Text}
use Rattle.es_tree.specs.Fresh.{is_among}
use Rattle.es_tree.specs.Scopes.{Declared}
use Rattle.es_tree.specs.Tree.{Tree, node, Trees, done, ◌then◌, one, empty, ◌before◌}
use Rattle.es_tree.specs.declared.ast_type.AstType.TheVariants.{CatchClause}
use Rattle.es_runs.specs.Core.{Silent, name, member, Reference, World, Binding, value, in_order, is_free, as_plain, get_value}
use Rattle.es_runs.specs.Core.Form.{word}
use Rattle.es_runs.specs.Core.Binding.{changeable}
use Rattle.es_runs.proofs.Basic.{stop_alike, return_alike, then_alike}
use Rattle.es_runs.specs.Machine.{Value, Values, M, ◌>>=◌, onward, return, stop, with_cell, Cell, Move, Question, State, Stop, Result}
use Rattle.es_runs.specs.Machine.Value.{undefined, own}
use Rattle.es_runs.specs.Machine.OwnValue.{stack, contents, count}
use Rattle.es_runs.specs.Machine.Values.{none, ◌and◌}
use Rattle.es_runs.specs.Machine.Question.{of_statement}
use Rattle.es_runs.specs.Machine.StatementQuestion.{dispose}
use Rattle.es_runs.specs.Machine.Move.{answer, throw}
use Rattle.es_runs.specs.Machine.Cell.{unset, holds}
use Rattle.es_runs.specs.Machine.State.{state}
use Rattle.es_runs.specs.Machine.Stop.{throws, waits, uncallable, cut, unknown, breaks, continues, out_of_turns, faults}
use Rattle.es_runs.specs.Machine.Result.{gives, stops}
use Rattle.es_runs.specs.Alike.{Frame, Agree, Same, Alike, Equal, SameWorld, Level, bad_names}
use Rattle.es_runs.specs.Alike.Level.{a_target}
use Rattle.es_runs.specs.Alike.Agree.{agree}
use Rattle.es_runs.specs.Alike.Same.{both_give, both_stop, outside, at_fault}
use Rattle.es_runs.specs.Alike.Equal.{equal}
use Rattle.es_runs.specs.Runs.{only, program, scope_of, cells_of, binding_of, first_cell, is_declared, identifier, made}
use Rattle.es_runs.proofs.Temporary.{bytes_eq-self, bytes_eq-flip, plain_again}
use Rattle.es_runs.specs.Rules.{assign_node}
use Rattle.es_statement_runs.proofs.Programs.{not_some, rows_run}
use Rattle.es_statement_runs.specs.Helpers.{entry, silent_names}
use Rattle.es_statement_runs.specs.Helpers.Supply.{by_global}
use Rattle.es_statement_runs.specs.Runs.{silent_or}
use Rattle.es_statement_runs.proofs.Catches.{one_stack, one_quiet, undeclared_hidden}
use Rattle.es_statement_runs.specs.Senses.{said_in, said_of, Sense, ends, cores}
use Rattle.es_statement_runs.specs.Senses.More.{helper_call}
use Rattle.es_statement_runs.proofs.OwnCells.{program_apart, own_apart}
use Rattle.es_statement_runs.specs.Calls.{member_by, call_sense, stack_call}
use Rattle.es_statement_runs.proofs.Tied.{using_told, tied, TiedBy, stack_hidden, wrapped_list}
use Rattle.es_statement_runs.specs.Scopes.{are_program_names, stacks_cell, contents_cell, is_own_cell, stack_cell, turns_cell, shadowed, put_back, left}
use Rattle.es_statement_runs.specs.Stacks.{failed_with, pending_in, on_own_stack, all_disposed, number_in, entries_in, throw_over, in_scope, disposed, emptied}
use Rattle.es_statement_runs.specs.Alike.{Told, Quiet, SenseLike}
use Rattle.es_statement_runs.specs.Laws.{global_helper, OneVar, LawUsing, own_or_stack, bad_using, apart_from, Wrapped, context_statement, context_call_node, context_member, expression_statement, block_of, UsingRow}
use Rattle.es_statement_runs.specs.Laws.UsingRow.{using_row}
use Rattle.es_statement_runs.specs.Laws.OneVar.{here_var, later_var}
use Rattle.es_statement_runs.specs.Statements.{caught, finalized}
use Rattle.es_statement_runs.specs.Names.{names_of_all, lexical_in, using_in, top_in}
use Rattle.es_statement_runs.specs.Kinds.{sense, senses, found, kind_in}
use Rattle.es_statement_runs.specs.StatementParts.{handler_of}
use Rattle.es_statement_runs.specs.Places.{HelpersSeen, placed_at, all_good, Take}
use Rattle.es_statement_runs.proofs.Combinators.{disposed_alike}
use Rattle.es_statement_runs.proofs.KindsAlike.{inner}
use Rattle.es_statement_runs.proofs.SensesAlike.{ends_like}

-- DISPOSING TOUCHES NO CELL

pub leaves_disposed : (xs : List Text) (old : Text → Cell) (k : Value → M Value) → ((u : Value) (c : Text → Cell) (ms : List Move) (qs : List Question) → left xs old (k u (state c ms qs)) ≡ k u (state (put_back xs old c) ms qs)) →
    (vs : Values) (p : Option Value) (c : Text → Cell) (ms : List Move) (qs : List Question) → left xs old (onward (disposed vs p (state c ms qs)) k) ≡ onward (disposed vs p (state (put_back xs old c) ms qs)) k
leaves_disposed xs old k h none None c ms qs = h undefined c ms qs
leaves_disposed xs old k h none (Some w) c ms qs = refl
leaves_disposed xs old k h (v and none) None c ms qs = h undefined c ms qs
leaves_disposed xs old k h (v and none) (Some w) c ms qs = refl
leaves_disposed xs old k h (v and (m and rest)) p c [] qs = refl
leaves_disposed xs old k h (v and (m and rest)) p c (answer u ∷ ms) qs = leaves_disposed xs old k h rest p c ms (of_statement (dispose v m) ∷ qs)
leaves_disposed xs old k h (v and (m and rest)) p c (throw u ∷ ms) qs = leaves_disposed xs old k h rest (Some (throw_over p u)) c ms (of_statement (dispose v m) ∷ qs)

-- it gives nothing
pub disposed_nothing : (vs : Values) (p : Option Value) (c : Text → Cell) (ms : List Move) (qs : List Question) → onward (disposed vs p (state c ms qs)) (λ u. return undefined) ≡ disposed vs p (state c ms qs)
disposed_nothing none None c ms qs = refl
disposed_nothing none (Some w) c ms qs = refl
disposed_nothing (v and none) None c ms qs = refl
disposed_nothing (v and none) (Some w) c ms qs = refl
disposed_nothing (v and (m and rest)) p c [] qs = refl
disposed_nothing (v and (m and rest)) p c (answer u ∷ ms) qs = disposed_nothing rest p c ms (of_statement (dispose v m) ∷ qs)
disposed_nothing (v and (m and rest)) p c (throw u ∷ ms) qs = disposed_nothing rest (Some (throw_over p u)) c ms (of_statement (dispose v m) ∷ qs)

left_none : {A : Type 0} (old : Text → Cell) (r : Result A) → left [] old r ≡ r
left_none old (gives a (state c ms qs)) = refl
left_none old (stops w (state c ms qs)) = refl

own_hidden : (c : Text) → own_or_stack c c ≡ true
own_hidden c = rw (bytes_eq-self c) refl

-- THE PARTS OF WHAT THE ROW MAKES

abbrev emptied_contents : Value
emptied_contents = own (contents none none)

module _ (c : Text) (v : World) (bound : v.scope c ≡ changeable) where
  abbrev reference_of : Text → M Reference
  reference_of x = (member v false false (name c) (name x)).reference

  abbrev last_block : Tree
  last_block = block_of (made [] []) (expression_statement (context_call_node c (codes "d") empty) before empty)

  abbrev at_last_of : M Value
  at_last_of = value v (sense (placed_at by_global v [] []) last_block).core

  means_disposal : sense (placed_at by_global v [] []) (context_call_node c (codes "d") empty) ≡ ends (stack_call v (codes "d") [] (reference_of (codes "d")))
  means_disposal = ap (λ (b : Binding). call_sense (placed_at by_global v [] []) false (member_by (placed_at by_global v [] []) (said_of b) (word c) (word (codes "d")) (member v false false (name c) (name (codes "d")))) []) bound

  reads_disposal : (n : ℕ) (e : Text → Cell) (ms : List Move) (qs : List Question) → e c ≡ holds (own (stack n)) → stack_call v (codes "d") [] (reference_of (codes "d")) (state e ms qs) ≡ all_disposed n (state e ms qs)
  reads_disposal n e ms qs h = rw (bound, h) refl

  call_disposes : (n : ℕ) (e : Text → Cell) (ms : List Move) (qs : List Question) → e c ≡ holds (own (stack n)) → value v (sense (placed_at by_global v [] []) (context_call_node c (codes "d") empty)).core (state e ms qs) ≡ all_disposed n (state e ms qs)
  call_disposes n e ms qs h = ap (λ (z : Sense). value v z.core (state e ms qs)) means_disposal ∙ (plain_again v (stack_call v (codes "d") [] (reference_of (codes "d")) (state e ms qs)) ∙ reads_disposal n e ms qs h)

  last_disposes : (n : ℕ) (e : Text → Cell) (ms : List Move) (qs : List Question) → e c ≡ holds (own (stack n)) → at_last_of (state e ms qs) ≡ all_disposed n (state e ms qs)
  last_disposes n e ms qs h =
      let call : Result Value = value v (sense (placed_at by_global v [] []) (context_call_node c (codes "d") empty)).core (state e ms qs) in
      plain_again v (left [] e (onward (onward (onward call as_plain) (get_value v)) (λ u. return undefined)))
      ∙ (left_none e (onward (onward (onward call as_plain) (get_value v)) (λ u. return undefined))
      ∙ (ap (λ (q : Result Value). onward q (λ u. return undefined)) (plain_again v call ∙ call_disposes n e ms qs h)
      ∙ disposed_nothing (entries_in (e (contents_cell n))) (pending_in (e (contents_cell n))) (with_cell (contents_cell n) emptied_contents e) ms qs))

  abbrev handler : Tree
  handler = node CatchClause (made [] []) (one (identifier (codes "_")) then one (block_of (made [] []) (expression_statement (assign_node (context_member c (codes "e")) (identifier (codes "_"))) before empty)) then done)

  abbrev handles_ : Value → M Value
  handles_ u = handler_of (sense (placed_at by_global v [] []) handler).more u

  -- the cell of `_` is put back
  settled_cell : (u X : Value) (n : ℕ) (e : Text → Cell) (y : Text) →
      put_back (codes "_" ∷ []) e (put_back [] (with_cell (codes "_") u (shadowed (codes "_" ∷ []) e)) (with_cell (contents_cell n) X (shadowed [] (with_cell (codes "_") u (shadowed (codes "_" ∷ []) e))))) y ≡ with_cell (contents_cell n) X e y
  settled_cell u X n e y = at (bytes_eq (codes "_") y) refl
    where
      same_name : codes "_" ≡ y → bytes_eq y (contents_cell n) ≡ false
      same_name i = sym (ap (λ (z : Text). bytes_eq z (contents_cell n)) i)

      other : bytes_eq (codes "_") y ≡ false → bytes_eq y (codes "_") ≡ false
      other k = bytes_eq-flip y (codes "_") ∙ k

      at : (b : Bool) → bytes_eq (codes "_") y ≡ b → put_back (codes "_" ∷ []) e (put_back [] (with_cell (codes "_") u (shadowed (codes "_" ∷ []) e)) (with_cell (contents_cell n) X (shadowed [] (with_cell (codes "_") u (shadowed (codes "_" ∷ []) e))))) y ≡ with_cell (contents_cell n) X e y
      at true k = let i : codes "_" ≡ y = (bytes_eq-Decides (codes "_") y).0 k in rw (k, same_name i) refl
      at false k = rw (k, other k) refl

  abbrev failed_contents : Value → Cell → Value
  failed_contents u d = own (contents (u and none) (entries_in d))

  handler_sets : only c (codes "_") ≡ false → (u : Value) (n : ℕ) (e : Text → Cell) (ms : List Move) (qs : List Question) → e c ≡ holds (own (stack n)) → handles_ u (state e ms qs) ≡ gives undefined (state (with_cell (contents_cell n) (failed_contents u (e (contents_cell n))) e) ms qs)
  handler_sets apart u n e ms qs h =
      let away : bytes_eq c (codes "_") ≡ false = bytes_eq-flip c (codes "_") ∙ apart in
      rw (away, bound, away, bound, away, apart, h) (ap (λ (cells : Text → Cell). gives undefined (state cells ms qs)) (λ i y. settled_cell u (failed_contents u (e (contents_cell n))) n e y i))

-- THE ENDS

module _ (c : Text) (n : ℕ) (apart : only c (codes "_") ≡ false) (no_own : is_own_cell c ≡ false) (v : World) (bound : v.scope c ≡ changeable)
    (N : List Text) (away : (y : Text) → own_or_stack c y ≡ true → is_among N y ≡ false) (own_away : (y : Text) → is_own_cell y ≡ true → is_among N y ≡ false) (c0 d0 : Text → Cell) (outer : (y : Text) → only c y ≡ false → d0 y ≡ c0 y) where
  abbrev F0 : Frame
  F0 = apart_from c

  abbrev T : Frame
  T = tied c n (d0 stack_cell)

  abbrev C : Text
  C = contents_cell n

  not_stack : only c stack_cell ≡ false
  not_stack = own_apart c stack_cell no_own refl

  contents_visible : only c C ≡ false
  contents_visible = own_apart c C no_own refl

  abbrev way : Result Value → Result Value
  way r = finalized (at_last_of c v bound) (caught (handles_ c v bound) r)

  module _ (es is : Text → Cell) (ms : List Move) (qs : List Question) (f : (y : Text) → own_or_stack c y ≡ false → is y ≡ es y) (k : is stack_cell ≡ d0 stack_cell) (inner : es stack_cell ≡ holds (own (stack n))) (its : is c ≡ holds (own (stack n))) where
    abbrev ended : State
    ended = state es ms qs

    abbrev ended_too : State
    ended_too = state is ms qs

    abbrev after : Text → Cell
    after = put_back N d0 is

    its_after : after c ≡ holds (own (stack n))
    its_after = rw (away c (own_hidden c)) its

    contents_after : after C ≡ es C
    contents_after = rw (own_away C refl) (f C (rw contents_visible refl))

    -- what both leave agrees
    left_cells : (y : Text) → only c y ≡ false → after y ≡ put_back (stack_cell ∷ N) c0 es y
    left_cells y e = at (bytes_eq y stack_cell) refl
      where
        either : (b : Bool) → own_or_stack c y ≡ false → (if b then d0 y else is y) ≡ (if b then c0 y else es y)
        either true h = outer y e
        either false h = f y h

        at : (b : Bool) → bytes_eq y stack_cell ≡ b → put_back N d0 is y ≡ put_back (stack_cell ∷ N) c0 es y
        at true i =
            let p : stack_cell ≡ y = sym ((bytes_eq-Decides y stack_cell).0 i) in
            subst (λ (z : Text). put_back N d0 is z ≡ put_back (stack_cell ∷ N) c0 es z) p (rw (away stack_cell (stack_hidden c)) (k ∙ outer stack_cell not_stack))
        at false i = rw (bytes_eq-flip stack_cell y ∙ i) (either (is_among N y) (rw (e, i) refl))

    stored_cells : (X : Value) (y : Text) → only c y ≡ false → with_cell C X after y ≡ put_back (stack_cell ∷ N) c0 (with_cell C X es) y
    stored_cells X y e = at (bytes_eq y C) refl
      where
        here : y ≡ C → put_back (stack_cell ∷ N) c0 (with_cell C X es) y ≡ holds X
        here p = ap (λ (z : Text). put_back (stack_cell ∷ N) c0 (with_cell C X es) z) p ∙ (rw (own_away C refl, bytes_eq-self C) refl)

        at : (b : Bool) → bytes_eq y C ≡ b → with_cell C X after y ≡ put_back (stack_cell ∷ N) c0 (with_cell C X es) y
        at true i = (rw i refl) ∙ sym (here ((bytes_eq-Decides y C).0 i))
        at false i = (rw i (left_cells y e)) ∙ same_back (is_among (stack_cell ∷ N) y) i
          where
            same_back : (b : Bool) → bytes_eq y C ≡ false → (if b then c0 y else es y) ≡ (if b then c0 y else with_cell C X es y)
            same_back true j = refl
            same_back false j = rw j refl

    left_agree : (j : Text → Cell) (d : Text → Cell) → ((y : Text) → only c y ≡ false → j y ≡ put_back (stack_cell ∷ N) c0 d y) → Agree F0 (state (put_back (stack_cell ∷ N) c0 d) ms qs) (state j ms qs)
    left_agree j d h = agree h (λ y e. tt) (λ y e. cc)

    stays : (w : Stop) → Same F0 {A = Value} {B = Value} Equal (stops w (state (put_back (stack_cell ∷ N) c0 es) ms qs)) (stops w (state after ms qs))
    stays w = both_stop (left_agree after es left_cells)

    -- disposing in both
    both_dispose : (z : Value → M Value) → ((u : Value) → Alike F0 Equal (z u) (z u)) → ((u : Value) (d : Text → Cell) (ns : List Move) (rs : List Question) → left (stack_cell ∷ N) c0 (z u (state d ns rs)) ≡ z u (state (put_back (stack_cell ∷ N) c0 d) ns rs)) →
        (vs : Values) (p : Option Value) (j d : Text → Cell) → ((y : Text) → only c y ≡ false → j y ≡ put_back (stack_cell ∷ N) c0 d y) →
        Same F0 Equal (left (stack_cell ∷ N) c0 (onward (disposed vs p (state d ms qs)) z)) (onward (disposed vs p (state j ms qs)) z)
    both_dispose z alike leaves vs p j d h = rw (leaves_disposed (stack_cell ∷ N) c0 z leaves vs p d ms qs) (then_alike F0 (disposed_alike F0 vs p) alike _ _ (left_agree j d h))

    same_by : {r1 r2 q1 q2 : Result Value} → r1 ≡ r2 → q1 ≡ q2 → Same F0 Equal r2 q2 → Same F0 Equal r1 q1
    same_by e h g = rw (e, h) g

    own_reads : (g : ℕ → M Value) → on_own_stack g ended ≡ g n ended
    own_reads g = rw inner refl

    abbrev leaving : Result Value → Result Value
    leaving r = left (stack_cell ∷ N) c0 r

    abbrev disposed_by : Cell → (Text → Cell) → Result Value
    disposed_by d g = disposed (entries_in d) (pending_in d) (state (with_cell C emptied_contents g) ms qs)

    last_here : at_last_of c v bound (state after ms qs) ≡ disposed_by (es C) after
    last_here = last_disposes c v bound n after ms qs its_after ∙ ap (λ (d : Cell). disposed_by d after) contents_after

    normal : (u : Value) → Same F0 Equal (leaving (emptied (gives u ended))) (way (left N d0 (gives u ended_too)))
    normal u =
        same_by (ap leaving (own_reads all_disposed ∙ sym (disposed_nothing (entries_in (es C)) (pending_in (es C)) (with_cell C emptied_contents es) ms qs)))
        (last_here ∙ sym (disposed_nothing (entries_in (es C)) (pending_in (es C)) (with_cell C emptied_contents after) ms qs))
        (both_dispose (λ z. return undefined) (λ z. return_alike F0 undefined) (λ z d ns rs. refl) (entries_in (es C)) (pending_in (es C)) (with_cell C emptied_contents after) (with_cell C emptied_contents es) (stored_cells emptied_contents))

    passes : (w : Stop) → Same F0 Equal (leaving ((on_own_stack all_disposed >>= λ u. stop w) ended)) ((at_last_of c v bound >>= λ u. stop w) (state after ms qs))
    passes w =
        same_by (ap (λ (r : Result Value). leaving (onward r (λ u. stop w))) (own_reads all_disposed)) (ap (λ (r : Result Value). onward r (λ (u : Value). stop {A = Value} w)) last_here)
        (both_dispose (λ z. stop w) (λ z. stop_alike F0 w) (λ z d ns rs. refl) (entries_in (es C)) (pending_in (es C)) (with_cell C emptied_contents after) (with_cell C emptied_contents es) (stored_cells emptied_contents))

    pick_store : (X Y : Value) (b : Bool) (d : Cell) → (if b then holds Y else (if b then holds X else d)) ≡ (if b then holds Y else d)
    pick_store X Y true d = refl
    pick_store X Y false d = refl

    same_store : (X Y : Value) (g : Text → Cell) → with_cell C Y (with_cell C X g) ≡ with_cell C Y g
    same_store X Y g = λ i z. pick_store X Y (bytes_eq z C) (g z) i

    here : (X : Value) (g : Text → Cell) → with_cell C X g C ≡ holds X
    here X g = rw (bytes_eq-self C) refl

    -- what is disposed after this error is kept
    failed_disposes : (u : Value) (g : Text → Cell) → g C ≡ es C → disposed_by (with_cell C (failed_contents c v bound u (g C)) g C) (with_cell C (failed_contents c v bound u (g C)) g) ≡ onward (disposed (entries_in (es C)) (Some u) (state (with_cell C emptied_contents g) ms qs)) (λ z. return undefined)
    failed_disposes u g e =
        ap (λ (d : Cell). disposed_by d (with_cell C (failed_contents c v bound u (g C)) g)) (here (failed_contents c v bound u (g C)) g)
        ∙ (ap (λ (h : Text → Cell). disposed (entries_in (g C)) (Some u) (state h ms qs)) (same_store (failed_contents c v bound u (g C)) emptied_contents g)
        ∙ (ap (λ (d : Cell). disposed (entries_in d) (Some u) (state (with_cell C emptied_contents g) ms qs)) e ∙ sym (disposed_nothing (entries_in (es C)) (Some u) (with_cell C emptied_contents g) ms qs)))

    caught_throw : (u : Value) → Same F0 Equal (leaving (emptied (stops (throws u) ended))) (way (left N d0 (stops (throws u) ended_too)))
    caught_throw u =
        same_by (ap leaving (own_reads (λ m. failed_with m u >>= λ _. all_disposed m) ∙ failed_disposes u es refl))
        (ap (finalized (at_last_of c v bound)) (handler_sets c v bound apart u n after ms qs its_after) ∙ (last_disposes c v bound n (with_cell C (failed_contents c v bound u (after C)) after) ms qs its_stored ∙ failed_disposes u after contents_after))
        (both_dispose (λ z. return undefined) (λ z. return_alike F0 undefined) (λ z d ns rs. refl) (entries_in (es C)) (Some u) (with_cell C emptied_contents after) (with_cell C emptied_contents es) (stored_cells emptied_contents))
      where
        its_stored : with_cell C (failed_contents c v bound u (after C)) after c ≡ holds (own (stack n))
        its_stored = rw (bytes_eq-flip c C ∙ contents_visible) its_after

    stopped : (w : Stop) → Same F0 Equal (left (stack_cell ∷ N) c0 (emptied (stops w ended))) (way (left N d0 (stops w ended_too)))
    stopped (throws u) = caught_throw u
    stopped (breaks l) = passes (breaks l)
    stopped (continues l) = passes (continues l)
    stopped waits = stays waits
    stopped uncallable = stays uncallable
    stopped cut = stays cut
    stopped unknown = stays unknown
    stopped out_of_turns = stays out_of_turns
    stopped (faults z) = stays (faults z)

  tie : (es is : Text → Cell) → ((x : Text) → own_or_stack c x ≡ true → TiedBy (bytes_eq x c) n (d0 stack_cell) (es stack_cell) (is x)) → TiedBy true n (d0 stack_cell) (es stack_cell) (is c)
  tie es is g = subst (λ (b : Bool). TiedBy b n (d0 stack_cell) (es stack_cell) (is c)) (bytes_eq-self c) (g c (own_hidden c))

  kept_stack : (es is : Text → Cell) → ((x : Text) → own_or_stack c x ≡ true → TiedBy (bytes_eq x c) n (d0 stack_cell) (es stack_cell) (is x)) → TiedBy false n (d0 stack_cell) (es stack_cell) (is stack_cell)
  kept_stack es is g = subst (λ (b : Bool). TiedBy b n (d0 stack_cell) (es stack_cell) (is stack_cell)) (bytes_eq-flip stack_cell c ∙ flipped) (g stack_cell (stack_hidden c))
    where
      flipped : bytes_eq c stack_cell ≡ false
      flipped = bytes_eq-flip c stack_cell ∙ not_stack

  finish : {r q : Result Value} → Same T Equal r q → Same F0 Equal (left (stack_cell ∷ N) c0 (emptied r)) (way (left N d0 q))
  finish (both_give {a = u} equal (agree {c = es} {d = is} {ms = ms} {qs = qs} f g i)) = let z : TiedBy true n (d0 stack_cell) (es stack_cell) (is c) = tie es is g in normal es is ms qs f (kept_stack es is g) z.0 z.1 u
  finish (both_stop {w = w} (agree {c = es} {d = is} {ms = ms} {qs = qs} f g i)) = let z : TiedBy true n (d0 stack_cell) (es stack_cell) (is c) = tie es is g in stopped es is ms qs f (kept_stack es is g) z.0 z.1 w
  finish outside = outside
  finish (at_fault h) = absurd (cc h)

or_left_false : (a b : Bool) → (a || b) ≡ false → a ≡ false
or_left_false true b h = absurd (cc h)
or_left_false false b h = refl

or_right_false : (a b : Bool) → (a || b) ≡ false → b ≡ false
or_right_false true b h = absurd (cc h)
or_right_false false b h = h

or_none : (a : Bool) → a ≡ false → (a || false) ≡ false
or_none a h = rw h refl

found_same : (d : Option Text) (x : Text) (f g : Text → Binding) → g x ≡ f x → found d x g x ≡ found d x f x
found_same None x f g e = e
found_same (Some k) x f g e = refl

-- THE ROW

abbrev helpers_ : Text
helpers_ = codes "babelHelpers"

-- what is known where the row acts
pub record Known (c : Text) (w v : World) : Type 0 where
  pub bound : v.scope c ≡ changeable
  pub free : is_free (v.scope helpers_) ≡ true

-- `var c = usingCtx()`
abbrev made_cells : ℕ → (Text → Cell) → Text → Cell
made_cells n e = with_cell (contents_cell n) emptied_contents (with_cell stacks_cell (own (count (suc n))) e)

module _ (c : Text) where
  calls_context : (v : World) → is_free (v.scope helpers_) ≡ true → (sense (placed_at by_global v [] []) (global_helper (codes "usingCtx"))).more ≡ helper_call (codes "usingCtx")
  calls_context v free = at (v.scope helpers_) free
    where
      at : (b : Binding) → is_free b ≡ true → (member_by (placed_at by_global v [] []) (said_in by_global b) (word helpers_) (word (codes "usingCtx")) (member v false false (name helpers_) (name (codes "usingCtx")))).more ≡ helper_call (codes "usingCtx")
      at Binding.free h = rw free refl
      at _ h = absurd (cc h)

  context_made : (v : World) → is_free (v.scope helpers_) ≡ true → v.scope c ≡ changeable → (e : Text → Cell) (ms : List Move) (qs : List Question) → value v (sense (placed_at by_global v [] []) (context_statement c)).core (state e ms qs) ≡ gives undefined (state (with_cell c (own (stack (number_in (e stacks_cell)))) (made_cells (number_in (e stacks_cell)) e)) ms qs)
  context_made v free bound e ms qs = rw (bound, calls_context v free) refl

  module _ (apart : only c (codes "_") ≡ false) (no_own : is_own_cell c ≡ false) (math : bytes_eq (codes "Math") c ≡ false) (helpers : HelpersSeen (apart_from c)) where
    not_good : (N : List Text) → all_good (bad_using c) N ≡ true → (y : Text) → own_or_stack c y ≡ true → is_among N y ≡ false
    not_good [] h y e = refl
    not_good (x ∷ N) h y e = step (bytes_eq x y) refl (own_or_stack c x) refl h (λ g. not_good N g y e)
      where
        step : (b : Bool) → bytes_eq x y ≡ b → (d : Bool) → own_or_stack c x ≡ d → (not (d || only helpers_ x) && all_good (bad_using c) N) ≡ true → (all_good (bad_using c) N ≡ true → is_among N y ≡ false) → (b || is_among N y) ≡ false
        step true i true k g r = absurd (cc g)
        step true i false k g r = let j : x ≡ y = (bytes_eq-Decides x y).0 i in let l : own_or_stack c x ≡ own_or_stack c y = ap (own_or_stack c) j in absurd (cc)
        step false i true k g r = absurd (cc g)
        step false i false k g r = r (rest (only helpers_ x) (all_good (bad_using c) N) g)
          where
            rest : (a b : Bool) → (not a && b) ≡ true → b ≡ true
            rest true b h = absurd (cc h)
            rest false b h = h

    module _ (w v : World) (same : SameWorld (only c) w v) (known : Known c w v) (ts us : Trees) (wrapped : Wrapped c ts us) (good : all_good (bad_using c) (names_of_all (lexical_in ts)) ≡ true) (program : are_program_names (names_of_all (lexical_in ts)) ≡ true) (bound_inside : (inner v (lexical_in ts)).scope c ≡ changeable) (free_inside : is_free ((inner v (lexical_in ts)).scope helpers_) ≡ true) where
      abbrev L : List Declared
      L = lexical_in ts

      abbrev N : List Text
      N = names_of_all L

      inner_both : SameWorld (own_or_stack c) (inner w L) (inner v L)
      inner_both = record { scope = λ y e. found_same (kind_in L y) y w.scope v.scope (same.scope y (or_left_false (only c y) (only stack_cell y) e)); this = same.this; counts = same.counts }

      own_away : (y : Text) → is_own_cell y ≡ true → is_among N y ≡ false
      own_away = program_apart N program

      start : (n : ℕ) (c0 d0 : Text → Cell) (ms : List Move) (qs : List Question) → ((y : Text) → only c y ≡ false → d0 y ≡ c0 y) →
          Agree (tied c n (d0 stack_cell)) (state (with_cell stack_cell (own (stack n)) (made_cells n (shadowed (stack_cell ∷ N) c0))) ms qs) (state (with_cell c (own (stack n)) (made_cells n (shadowed N d0))) ms qs)
      start n c0 d0 ms qs f = agree (λ y e. seen y e (or_left_false (only c y) (only stack_cell y) e) (or_right_false (only c y) (only stack_cell y) e)) (λ y e. tied_start y e (bytes_eq y c) refl) (λ y e. tt)
        where
          either : (y : Text) → only c y ≡ false → (b : Bool) → (if b then unset else d0 y) ≡ (if b then unset else c0 y)
          either y e true = refl
          either y e false = f y e

          made_alike : (y : Text) → shadowed N d0 y ≡ shadowed (stack_cell ∷ N) c0 y → made_cells n (shadowed N d0) y ≡ made_cells n (shadowed (stack_cell ∷ N) c0) y
          made_alike y h = rw h refl

          seen : (y : Text) → own_or_stack c y ≡ false → bytes_eq y c ≡ false → bytes_eq y stack_cell ≡ false → with_cell c (own (stack n)) (made_cells n (shadowed N d0)) y ≡ with_cell stack_cell (own (stack n)) (made_cells n (shadowed (stack_cell ∷ N) c0)) y
          seen y e h i = rw (h, i) (made_alike y (rw (bytes_eq-flip stack_cell y ∙ i) (either y h (is_among N y))))

          stack_stays : (y : Text) → y ≡ stack_cell → made_cells n (shadowed N d0) y ≡ d0 stack_cell
          stack_stays y p = ap (made_cells n (shadowed N d0)) p ∙ (rw (not_good N good stack_cell (stack_hidden c)) refl)

          tied_start : (y : Text) → own_or_stack c y ≡ true → (b : Bool) → bytes_eq y c ≡ b → TiedBy b n (d0 stack_cell) (holds (own (stack n))) (if b then holds (own (stack n)) else made_cells n (shadowed N d0) y)
          tied_start y e true i = (refl, refl)
          tied_start y e false i = stack_stays y (is_stack (bytes_eq y stack_cell) refl (rw i at e))
            where
              is_stack : (d : Bool) → bytes_eq y stack_cell ≡ d → d ≡ true → y ≡ stack_cell
              is_stack true j k = (bytes_eq-Decides y stack_cell).0 j
              is_stack false j k = absurd (cc k)

      abbrev source_runs : M Value
      source_runs = in_scope (record { names = N; uses = true }) (in_order (inner w L) (cores (senses (placed_at by_global (inner w L) [] []) ts)))

      abbrev target_list : M Value
      target_list = in_scope (record { names = N; uses = false }) (in_order (inner v L) (cores (senses (placed_at by_global (inner v L) [] []) (context_statement c before us))))

      abbrev target_runs : M Value
      target_runs = λ s. finalized (at_last_of c v known.bound) (caught (handles_ c v known.bound) (value v (ends target_list).core s))

      -- the stack that both make
      same_number : (c0 d0 : Text → Cell) → ((y : Text) → only c y ≡ false → d0 y ≡ c0 y) → shadowed N d0 stacks_cell ≡ shadowed (stack_cell ∷ N) c0 stacks_cell
      same_number c0 d0 f = rw (own_away stacks_cell refl) (f stacks_cell (own_apart c stacks_cell no_own refl))

      row_alike : Alike (apart_from c) Equal source_runs target_runs
      row_alike _ _ (agree {c = c0} {d = d0} {ms = ms} {qs = qs} f g i) =
          let n : ℕ = number_in (shadowed (stack_cell ∷ N) c0 stacks_cell) in
          rw (plain_again v, context_made (inner v L) free_inside bound_inside (shadowed N d0) ms qs, same_number c0 d0 f)
          (finish c n apart no_own v known.bound N (not_good N good) own_away c0 d0 f (wrapped_list c n (d0 stack_cell) no_own math helpers (inner w L) (inner v L) inner_both bound_inside wrapped _ _ (start n c0 d0 ms qs f)))

-- AT PLACES

module _ (c : Text) where
  good_here : (a b d : Bool) → (not (a || b) && d) ≡ true → (a ≡ false) × (b ≡ false) × (d ≡ true)
  good_here false false true h = (refl, refl, refl)
  good_here false false false h = absurd (cc h)
  good_here true b d h = absurd (cc h)
  good_here false true d h = absurd (cc h)

  unseen : (z : Text) → ((y : Text) → own_or_stack c y ≡ false → only helpers_ y ≡ false → bytes_eq y z ≡ false) → (ds : List Declared) → all_good (bad_using c) (names_of_all ds) ≡ true → kind_in ds z ≡ None
  unseen z away [] h = refl
  unseen z away (d ∷ ds) h =
      let g : (own_or_stack c d.name ≡ false) × (only helpers_ d.name ≡ false) × (all_good (bad_using c) (names_of_all ds) ≡ true) = good_here (own_or_stack c d.name) (only helpers_ d.name) (all_good (bad_using c) (names_of_all ds)) h in
      rw (bytes_eq-flip z d.name, away d.name g.0 g.1) (unseen z away ds g.2)

  pub kept : (ds : List Declared) → all_good (bad_using c) (names_of_all ds) ≡ true → (w v : World) → Known c w v → Known c (inner w ds) (inner v ds)
  kept ds h w v k = record {
    bound = ap (λ (e : Option Text). found e c v.scope c) (unseen c (λ y e i. or_left_false (only c y) (only stack_cell y) e) ds h) ∙ k.bound;
    free = ap (λ (e : Option Text). is_free (found e helpers_ v.scope helpers_)) (unseen helpers_ (λ y e i. i) ds h) ∙ k.free;
  }

  module _ (quiet : Quiet (apart_from c)) (apart : only c (codes "_") ≡ false) (no_own : is_own_cell c ≡ false) (math : bytes_eq (codes "Math") c ≡ false) (helpers : HelpersSeen (apart_from c)) where
    module _ (t : Take) (w v : World) (same : SameWorld (only c) w v) (known : Known c w v) (ts us : Trees) (wrapped : Wrapped c ts us) (good : all_good (bad_using c) (names_of_all (lexical_in ts)) ≡ true) (program : are_program_names (names_of_all (lexical_in ts)) ≡ true) where
      abbrev source_sense : Bool → Sense
      source_sense b = ends (in_scope (record { names = names_of_all (lexical_in ts); uses = b }) (in_order (inner w (lexical_in ts)) (cores (senses (placed_at by_global (inner w (lexical_in ts)) [] []) ts))))

      abbrev target_sense : List Declared → Bool → Sense
      target_sense es b = ends (λ s. finalized (at_last_of c v known.bound) (caught (handles_ c v known.bound)
          (value v (ends (in_scope (record { names = names_of_all es; uses = b }) (in_order (inner v es) (cores (senses (placed_at by_global (inner v es) [] []) (context_statement c before us)))))).core s)))

      sense_alike : (b : Bool) → b ≡ true → (es : List Declared) → es ≡ lexical_in ts → (d : Bool) → d ≡ false → SenseLike (apart_from c) w v t (source_sense b) (target_sense es d)
      sense_alike b e es names d h =
          let k : Known c (inner w (lexical_in ts)) (inner v (lexical_in ts)) = kept (lexical_in ts) good w v known in
          subst (λ (a : Bool). SenseLike (apart_from c) w v t (source_sense a) (target_sense es d)) (sym e)
          (subst (λ (fs : List Declared). SenseLike (apart_from c) w v t (source_sense true) (target_sense fs d)) (sym names)
          (subst (λ (a : Bool). SenseLike (apart_from c) w v t (source_sense true) (target_sense (lexical_in ts) a)) (sym h)
          (ends_like (apart_from c) quiet w v same t (row_alike c apart no_own math helpers w v same known ts us wrapped good program k.bound k.free))))

    using_like : (t : Take) (a b : Tree) → UsingRow c t a b → (w v : World) → SameWorld (only c) w v → Known c w v → (ls : List Text) (x : Text) → SenseLike (apart_from c) w v t (sense (placed_at by_global w ls x) a) (sense (placed_at by_global v ls x) b)
    using_like t _ _ (using_row {m = m} {ts = ts} {us = us} wrapped uses not_uses names good program) w v same known ls x = sense_alike t w v same known ts us wrapped good program (using_in ts) uses (lexical_in us) names (using_in us) not_uses

-- THE TOP

one_scope : (c : Text) {ds es : List Declared} → OneVar c ds es → (y : Text) → only c y ≡ false → scope_of es y ≡ scope_of ds y
one_scope c here_var y e = rw e refl
one_scope c (later_var {d = d} h) y e = ap (λ (b : Binding). if bytes_eq y d.name then binding_of d.kind else b) (one_scope c h y e)

one_cells : (c : Text) {ds es : List Declared} → OneVar c ds es → (y : Text) → only c y ≡ false → cells_of es y ≡ cells_of ds y
one_cells c here_var y e = rw e refl
one_cells c (later_var {d = d} h) y e = ap (λ (b : Cell). if bytes_eq y d.name then first_cell d.kind else b) (one_cells c h y e)

never_free : (a b : Bool) (f : Binding) → not (is_free (if a then (if b then Binding.constant else changeable) else f)) ≡ false → (a ≡ false) × (not (is_free f) ≡ false)
never_free true true f h = absurd (cc h)
never_free true false f h = absurd (cc h)
never_free false b f h = (refl, h)

one_bound : (c : Text) {ds es : List Declared} → OneVar c ds es → is_declared ds c ≡ false → scope_of es c ≡ changeable
one_bound c here_var h = rw (bytes_eq-self c) refl
one_bound c (later_var {d = d} {ds = ds} g) h = let z : (bytes_eq c d.name ≡ false) × (not (is_free (scope_of ds c)) ≡ false) = never_free (bytes_eq c d.name) (bytes_eq d.kind (codes "const")) (scope_of ds c) h in rw z.0 (one_bound c g z.1)

not_not : (a : Bool) → not a ≡ false → a ≡ true
not_not true h = refl
not_not false h = absurd (cc h)

below_here : (c : Text) (n : Level) (x : Text) → bad_using c n x ≡ false → bad_names (only c) (λ y. false) n x ≡ false
below_here c Level.no_evaluation x h = refl
below_here c a_target x h = or_none (only c x) (or_left_false (only c x) (only stack_cell x) (or_left_false (own_or_stack c x) (only helpers_ x) h))
below_here c _ x h = or_left_false (only c x) (only stack_cell x) h

pub law_using_proof : LawUsing
law_using_proof c l ds body after rows tops uses silents unsilent global_unsilent math no_own underscore helpers undeclared no_helper =
    let told : Told (apart_from c) (bad_using c) by_global = using_told c (apart_from c) (λ x h. or_left_false (only c x) (only stack_cell x) h) helpers in
    let p : Tree = program l ds body in
    let q : Tree = program l ds after in
    rows_run (apart_from c) (one_quiet c math no_own) (one_stack c no_own) (bad_using c) (below_here c) by_global l ds body after [] told (Known c) (kept c) (UsingRow c) (using_like c (one_quiet c math no_own) underscore no_own math helpers) rows uses
    (λ this. record { scope = λ y e. ap (λ (es : List (Text × Silent)). silent_or (entry es y) (scope_of (top_in after) y)) silents ∙ ap (silent_or (entry (silent_names by_global p) y)) (one_scope c tops y e); this = refl; counts = refl })
    (λ this. record {
      bound = ap (λ (es : List (Text × Silent)). silent_or (entry es c) (scope_of (top_in after) c)) silents ∙ (not_some (entry (silent_names by_global p) c) unsilent (scope_of (top_in after) c) ∙ one_bound c tops undeclared);
      free = ap is_free (ap (λ (es : List (Text × Silent)). silent_or (entry es helpers_) (scope_of (top_in after) helpers_)) silents ∙ not_some (entry (silent_names by_global p) helpers_) global_unsilent (scope_of (top_in after) helpers_)) ∙ (ap is_free (one_scope c tops helpers_ helpers.global) ∙ not_not (is_free (scope_of (top_in body) helpers_)) no_helper);
    })
    (λ n moves. agree (λ y e. ap (λ (k : Cell). if bytes_eq y turns_cell then holds (own (count n)) else k) (one_cells c tops y e)) (λ y e. tt) (λ y e. cc))
    (undeclared_hidden c (top_in body) undeclared)
