-- Where no value is `document.all`, a run is the same whether that counts as null for `==` or not.
use Rattle.std.proofs.Common.{◌≡◌, refl, sym, ap, subst, ◌∙◌, List, [], ◌∷◌}
use Rattle.std.specs.Prelude.{ℕ, Bool, true, false, not, Some, bytes_eq, if◌then◌else◌}
use Rattle.es_tree.specs.Words.{Text}
use Rattle.es_tree.specs.Scopes.{Declared}
use Rattle.es_tree.specs.Tree.{Tree}
use Rattle.es_runs.specs.Machine.{Value, Move, Result}
use Rattle.es_runs.specs.Machine.Value.{own}
use Rattle.es_runs.specs.Machine.OwnValue.{count}
use Rattle.es_runs.specs.Machine.Cell.{holds}
use Rattle.es_runs.specs.Machine.State.{state}
use Rattle.es_runs.specs.Alike.{Equal, Frame, Same}
use Rattle.es_runs.specs.Core.{Binding, Silent}
use Rattle.es_runs.specs.Core.Binding.{silent}
use Rattle.es_runs.specs.Runs.{IsAssumed, is_declared, binding_of, cells_of, scope_of}
use Rattle.es_runs.proofs.Lacking.{CellLacks, first_cells, one_of, same_result}
use Rattle.es_statement_runs.specs.Scopes.{turns_cell}
use Rattle.es_statement_runs.specs.Names.{declared_at_top}
use Rattle.es_statement_runs.specs.Helpers.{Supply, entry}
use Rattle.es_statement_runs.specs.Runs.{start_cells, program_scope, silent_or, run, run_where, outcome, SameRun, RunAlike}
use Rattle.es_statement_runs.specs.Laws.{LawWithoutAll}
use Rattle.es_statement_runs.proofs.RunLaws.{same_run}
use Rattle.es_statement_runs.proofs.SilentEntries.{Entries, silent_entries}
use Rattle.es_statement_runs.proofs.SilentEntries.Entries.{no_entry, entry_and}
use Rattle.es_statement_runs.proofs.LackingSenses.{BindingLacks, has}
use Rattle.es_statement_runs.proofs.LackingKinds.{binding_lacks, tree_matching}
use Rattle.es_statement_runs.proofs.LackingKinds.TwoPlaces.{two_places}

abbrev SilentLacks : Silent → Type 0
SilentLacks s = BindingLacks (silent s)

scope_lacks : (ds : List Declared) (x : Text) → BindingLacks (scope_of ds x)
scope_lacks [] x = tt
scope_lacks (d ∷ ds) x = at (bytes_eq x d.name) (scope_lacks ds x)
  where
    at : (b : Bool) → BindingLacks (scope_of ds x) → BindingLacks (if b then binding_of d.kind else scope_of ds x)
    at true h = binding_lacks d.kind
    at false h = h

entry_lacks : {es : List (Text × Silent)} → Entries SilentLacks es → (b : Binding) (x : Text) → BindingLacks b → BindingLacks (silent_or (entry es x) b)
entry_lacks no_entry b x g = g
entry_lacks (entry_and {x = y} {s = s} {es = es} p h) b x g = at (bytes_eq y x) (entry_lacks h b x g)
  where
    at : (z : Bool) → BindingLacks (silent_or (entry es x) b) → BindingLacks (silent_or (if z then Some s else entry es x) b)
    at true k = p
    at false k = k

top_lacks : (u : Supply) (p : Tree) (x : Text) → BindingLacks (program_scope u p x)
top_lacks u p x = entry_lacks (silent_entries SilentLacks (λ h. tt) (λ vs h. h) u p) (scope_of (declared_at_top p) x) x (scope_lacks (declared_at_top p) x)

start_lacks : (n : ℕ) (ds : List Declared) (x : Text) → CellLacks (start_cells n ds x)
start_lacks n ds x = one_of (bytes_eq x turns_cell) (holds (own (count n))) (cells_of ds x) refl (first_cells ds x)

pub law_without_all_proof : LawWithoutAll
law_without_all_proof u n p this moves h =
    let both = h refl in
    same_result (has (program_scope u p) this both.0 (tree_matching this both.0 u p (two_places {scope = program_scope u p} {ls = []} {x = []} (top_lacks u p))) (state (start_cells n (declared_at_top p)) moves []) (start_lacks n (declared_at_top p), both.1))

-- Under the assumption that no value is `document.all`, or without it, a run is that of the machine that goes with it.
pub run_assumed : (no_all : Bool) (u : Supply) (n : ℕ) (p : Tree) (this : Value) (moves : List Move) → IsAssumed no_all this moves → run u n p this moves ≡ run_where (not no_all) u n p this moves
run_assumed true u n p this moves h = law_without_all_proof u n p this moves h
run_assumed false u n p this moves h = refl

-- Two programs run alike under the assumption, or without it, where their runs in the machine that goes with it are the same.
pub alike_where : (F : Frame) (no_all : Bool) (u : Supply) (p q : Tree) → ((x : Text) → is_declared (declared_at_top p) x ≡ true → F.hidden x ≡ false) →
    ((n : ℕ) (this : Value) (moves : List Move) → Same F Equal (run_where (not no_all) u n p this moves) (run_where (not no_all) u n q this moves)) → RunAlike u no_all p q
alike_where F no_all u p q seen same n this moves assumed t ms in_sight =
    let first : run u n p this moves ≡ run_where (not no_all) u n p this moves = run_assumed no_all u n p this moves assumed in
    let second : run u n q this moves ≡ run_where (not no_all) u n q this moves = run_assumed no_all u n q this moves assumed in
    subst (λ (r : Result Value). SameRun (is_declared (declared_at_top p)) r (run u n q this moves)) (sym first)
    (subst (λ (r : Result Value). SameRun (is_declared (declared_at_top p)) (run_where (not no_all) u n p this moves) r) (sym second)
    (same_run F (is_declared (declared_at_top p)) seen (λ e. in_sight (ap outcome first ∙ e)) (same n this moves)))

-- Programs that run alike without the assumption run alike under it.
pub under_assumption : (no_all : Bool) (u : Supply) (p q : Tree) → RunAlike u false p q → RunAlike u no_all p q
under_assumption no_all u p q h n this moves assumed = h n this moves (λ e. absurd (cc e))
