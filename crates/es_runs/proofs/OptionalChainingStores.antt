-- A value that is tested: a name that is read again, or a value that is stored and read from its temporary.
use Rattle.std.proofs.Common.{◌≡◌, refl, List, ◌++◌, subst, sym, ◌∙◌, ◌⊎◌, inl, inr}
use Rattle.std.specs.Prelude.{Bool, true, false, bytes_eq, not}
use Rattle.es_tree.specs.Words.{Text}
use Rattle.es_tree.specs.Names.{first_text}
use Rattle.es_tree.specs.Tree.{Tree, node, Label, Fields}
use Rattle.es_tree.specs.declared.ast_type.AstType.TheVariants.{Identifier}
use Rattle.es_runs.specs.Alike.{Frame, set_cells, kept_cells, Agree, Same, Alike, Equal, SameWorld}
use Rattle.es_runs.specs.Alike.Agree.{agree}
use Rattle.es_runs.specs.Alike.Equal.{equal}
use Rattle.es_runs.specs.Alike.Same.{both_give, both_stop, outside, at_fault}
use Rattle.es_runs.specs.Core.{World, value, cut_where, name, is_free, meaning, read_cell}
use Rattle.es_runs.specs.Core.Binding.{changeable}
use Rattle.es_runs.specs.Machine.{Value, M, ◌>>=◌, onward, stop, State, Result, Cell, Move, Question, with_cell, is_nullish}
use Rattle.es_runs.specs.Machine.State.{state}
use Rattle.es_runs.specs.Machine.Value.{undefined, null}
use Rattle.es_runs.specs.Machine.Cell.{unset, holds}
use Rattle.es_runs.specs.Machine.Stop.{cut}
use Rattle.es_runs.specs.Machine.Result.{gives}
use Rattle.es_runs.specs.OptionalChaining.{null_checks}
use Rattle.es_runs.specs.Rules.{assign_node}
use Rattle.es_runs.specs.Runs.{cells, identifier}
use Rattle.es_runs.proofs.Duplicated.{AllSet, kept_agree}
use Rattle.es_runs.proofs.NullishCoalescingValues.{cell_gives}
use Rattle.es_runs.proofs.Temporary.{agree_stored, stored_elsewhere, stored_here}
use Rattle.es_runs.proofs.OptionalChainingNullChecks.{passes, store_and_test, stored_tests, stored_value, tests_value, value_tested}

module _ (hidden steady : Text → Bool) (w v : World) (same : SameWorld hidden w v) (vars : (y : Text) → hidden y ≡ true → v.scope y ≡ changeable) where
  abbrev F : Frame
  F = set_cells hidden

  abbrev K : (Text → Cell) → Frame
  K d = kept_cells hidden steady d

  -- both are cut short, or neither
  cut_both : {A B : Type 0} {Q : A → B → Type 0} (b : Bool) (m : M A) (n : M B) (s t : State) → Agree F s t → Same F Q (m s) (n t) → Same F Q (cut_where b m s) (cut_where b n t)
  cut_both true m n s t g h = both_stop g
  cut_both false m n s t g h = h

  -- STORED

  module _ (no_all : Bool) (x : Text) (x_hidden : hidden x ≡ true) where
    -- among cells that are kept
    pub kept_store : (d : Text → Cell) → AllSet hidden d → {p q : Result Value} → Same (K d) Equal p q → {A B : Type 0} {Q : A → B → Type 0} (k : Value → M A) (m : M B) →
        ((u : Value) (s t : State) → Agree F s t → cells t x ≡ holds u → ((z : Text) → (hidden z ≡ true) ⊎ (steady z ≡ true) → bytes_eq z x ≡ false → cells t z ≡ d z) → Same F Q (k u s) (m t)) →
        Same F Q (onward p (λ u. cut_where (is_nullish u) (k u))) (onward q (store_and_test no_all v x m))
    kept_store d set (both_give {a = u} equal (agree {c = c} {d = e} {ms = ms} {qs = qs} h g f)) k m then_same =
        let a : Agree F (state c ms qs) (state (with_cell x u e) ms qs) = agree_stored hidden x u x_hidden h (λ z i. rw (g z i) (set z i)) in
        rw (stored_value no_all v x m u e ms qs (vars x x_hidden) (rw (g x x_hidden) (set x x_hidden)))
        (cut_both (is_nullish u) (k u) m _ _ a (then_same u (state c ms qs) (state (with_cell x u e) ms qs) a (stored_here x u e) others))
      where
        others : (z : Text) → (hidden z ≡ true) ⊎ (steady z ≡ true) → bytes_eq z x ≡ false → with_cell x u e z ≡ d z
        others z (inl i) n = stored_elsewhere x z u e n ∙ g z i
        others z (inr i) n = stored_elsewhere x z u e n ∙ f z i
    kept_store d set (both_stop g) k m then_same = both_stop (kept_agree hidden steady d set _ _ g)
    kept_store d set outside k m then_same = outside
    kept_store d set (at_fault h0) k m then_same = at_fault h0

    pub store : {p q : Result Value} → Same F Equal p q → {A B : Type 0} {Q : A → B → Type 0} (k : Value → M A) (m : M B) → ((u : Value) (s t : State) → Agree F s t → cells t x ≡ holds u → Same F Q (k u s) (m t)) →
        Same F Q (onward p (λ u. cut_where (is_nullish u) (k u))) (onward q (store_and_test no_all v x m))
    store (both_give {a = u} equal (agree {c = c} {d = e} {ms = ms} {qs = qs} h g f)) k m then_same =
        let a : Agree F (state c ms qs) (state (with_cell x u e) ms qs) = agree_stored hidden x u x_hidden h g in
        rw (stored_value no_all v x m u e ms qs (vars x x_hidden) (g x x_hidden)) (cut_both (is_nullish u) (k u) m _ _ a (then_same u (state c ms qs) (state (with_cell x u e) ms qs) a (stored_here x u e)))
    store (both_stop g) k m then_same = both_stop g
    store outside k m then_same = outside
    store (at_fault h0) k m then_same = at_fault h0

    -- after the tests so far
    pub stored_alike : v.counts_all ≡ not no_all → (ts : List Tree) (e : Tree) {A B : Type 0} {Q : A → B → Type 0} (k : Value → M A) (n : M Value) (m : M B) → Alike F Equal n (passes v ts (value v (meaning v e))) → ((u : Value) (s t : State) → Agree F s t → cells t x ≡ holds u → Same F Q (k u s) (m t)) →
        Alike F Q (n >>= λ u. cut_where (is_nullish u) (k u)) (passes v (ts ++ null_checks no_all (assign_node (identifier x) e) (identifier x)) m)
    stored_alike counts ts e {Q = Q} k n m h then_same = subst (Alike F Q (n >>= λ u. cut_where (is_nullish u) (k u))) (sym (stored_tests no_all v counts ts x e m)) (λ s t g. store (h s t g) k m then_same)

  -- READ AGAIN

  module _ (l : Label) (fs : Fields) (bound : is_free (v.scope (first_text l.texts)) ≡ false) where
    abbrev y : Text
    y = first_text l.texts

    decided : (no_all : Bool) {A : Type 0} (m : M A) (u : Value) (c : Text → Cell) (ms : List Move) (qs : List Question) → c y ≡ holds u → value_tested no_all v (node Identifier l fs) (stop cut) m u (state c ms qs) ≡ cut_where (is_nullish u) m (state c ms qs)
    decided true m undefined c ms qs e = refl
    decided true m null c ms qs e = refl
    decided true m u c ms qs e = refl
    decided false m undefined c ms qs e = rw (cell_gives hidden w v same y v (v.scope y) bound refl c ms qs (holds undefined) e)
    decided false m null c ms qs e = refl
    decided false m u c ms qs e = rw (cell_gives hidden w v same y v (v.scope y) bound refl c ms qs (holds u) e)

    pub name_gives : (u : Value) (t : State) → cells t y ≡ holds u → value v (name y) t ≡ gives u t
    name_gives u (state c ms qs) e = cell_gives hidden w v same y v (v.scope y) bound refl c ms qs (holds u) e

    read_tested : (no_all : Bool) {A B : Type 0} {Q : A → B → Type 0} (k : Value → M A) (m : M B) {p : Result Value} (c : Text → Cell) (ms : List Move) (qs : List Question) (o : Cell) → c y ≡ o → Same F Equal p (read_cell y o (state c ms qs)) → ((u : Value) (s t : State) → Agree F s t → cells t y ≡ holds u → Same F Q (k u s) (m t)) →
        Same F Q (onward p (λ u. cut_where (is_nullish u) (k u))) (onward (read_cell y o (state c ms qs)) (value_tested no_all v (node Identifier l fs) (stop cut) m))
    read_tested no_all k m c ms qs unset e (both_stop g) then_same = both_stop g
    read_tested no_all k m c ms qs unset e outside then_same = outside
    read_tested no_all k m c ms qs unset e (at_fault h0) then_same = at_fault h0
    read_tested no_all k m c ms qs (holds u) e (both_give {s = s} equal g) then_same = rw (decided no_all m u c ms qs e) (cut_both (is_nullish u) (k u) m s (state c ms qs) g (then_same u s (state c ms qs) g e))
    read_tested no_all k m c ms qs (holds u) e outside then_same = outside
    read_tested no_all k m c ms qs (holds u) e (at_fault h0) then_same = at_fault h0

    pub name_alike : (no_all : Bool) → v.counts_all ≡ not no_all → {A B : Type 0} {Q : A → B → Type 0} (k : Value → M A) (n : M Value) (m : M B) → Alike F Equal n (value v (name y)) → ((u : Value) (s t : State) → Agree F s t → cells t y ≡ holds u → Same F Q (k u s) (m t)) →
        Alike F Q (n >>= λ u. cut_where (is_nullish u) (k u)) (passes v (null_checks no_all (node Identifier l fs) (node Identifier l fs)) m)
    name_alike no_all counts {Q = Q} k n m h then_same = subst (Alike F Q (n >>= λ u. cut_where (is_nullish u) (k u))) (sym (tests_value no_all v counts (node Identifier l fs) (node Identifier l fs) (stop cut) m)) (λ s t g. at s t g)
      where
        at : (s t : State) → Agree F s t → Same F Q (onward (n s) (λ u. cut_where (is_nullish u) (k u))) (onward (value v (name y) t) (value_tested no_all v (node Identifier l fs) (stop cut) m))
        at s (state c ms qs) g =
            let e : value v (name y) (state c ms qs) ≡ read_cell y (c y) (state c ms qs) = cell_gives hidden w v same y v (v.scope y) bound refl c ms qs (c y) refl in
            subst (λ q. Same F Q (onward (n s) (λ u. cut_where (is_nullish u) (k u))) (onward q (value_tested no_all v (node Identifier l fs) (stop cut) m))) (sym e)
            (read_tested no_all k m c ms qs (c y) refl (subst (Same F Equal (n s)) e (h s (state c ms qs) g)) then_same)
