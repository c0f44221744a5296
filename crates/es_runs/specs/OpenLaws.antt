-- How an open program runs, and the laws of the rules of core programs.
use Rattle.std.specs.Prelude.{◌≡◌, Bool, true, List, [], ◌++◌, codes}
use Rattle.es_tree.specs.Words.{Text}
use Rattle.es_tree.specs.Bare.{bare}
use Rattle.es_tree.specs.Names.{names_of}
use Rattle.es_tree.specs.Fresh.{is_among}
use Rattle.es_tree.specs.Core.{IsCoreProgram}
use Rattle.es_tree.specs.Scopes.{Declared, declared_of, declared_names}
use Rattle.es_tree.specs.Tree.{Tree, trees}
use Rattle.es_runs.specs.Machine.{Value, Move, Result}
use Rattle.es_runs.specs.Alike.{all_of_it}
use Rattle.es_runs.specs.Rules.{IsTidy}
use Rattle.es_runs.specs.Runs.{run, run_with, outcome, SameRun, RunAlike, IsAssumed, is_declared}
use Rattle.es_runs.specs.Runs.Outcome.{called_uncallable}
use Rattle.es_runs.specs.Open.{Pending, nothing_pending, Open, open_node, OpenFields, ◌and◌, list, opened, closed}
use Rattle.es_runs.specs.OpenSteps.{Ledger, ledger, Step, Steps, Reached, whole_of}
use Rattle.es_runs.specs.OpenRules.{CoreRule}

-- what the pending declarators of a list declare
abbrev pub declared_by_pending : Pending → List Declared
declared_by_pending p = declared_names (codes "var") (trees (p.vars ++ p.lets))

-- what is pending for the program's own list
abbrev pub pending_names : OpenFields → List Declared
pending_names (ds and list p body and fs) = declared_by_pending p
pending_names _ = []

abbrev pub pending_of : Open → List Declared
pending_of (open_node k l fs) = pending_names fs

-- the run of an open program: it has one more cell, undefined at first, for each pending declarator
abbrev pub run_open : Open → Value → List Move → Result Value
run_open o = run_with (pending_of o ++ declared_of (closed o)) (closed o)

-- Whatever steps are taken from a core program without optional marks outside chains, at whatever places and in whatever
-- order: source and open program run alike.
abbrev pub LawCoreRules : Type 0
LawCoreRules = (no_all : Bool) (p : Tree) (s : Ledger) (o : Open) → IsCoreProgram p → IsTidy p → Steps (Step (CoreRule no_all) all_of_it) (ledger (whole_of p) nothing_pending) (opened (bare p)) s o → (this : Value) (moves : List Move) → IsAssumed no_all this moves → (outcome (run p this moves) ≡ called_uncallable → ⊥) → SameRun (is_declared (declared_of p)) (run p this moves) (run_open o this moves)

-- Such a program and what is reached from it run alike.
abbrev pub LawReached : Type 0
LawReached = (no_all : Bool) (p q : Tree) (names : List Text) → IsCoreProgram p → IsTidy p → Reached (CoreRule no_all) p names q → RunAlike no_all p q

-- A name of a core program is bound in what is reached from it exactly where it is bound in the source.
abbrev pub LawReachedBindings : Type 0
LawReachedBindings = (no_all : Bool) (p q : Tree) (names : List Text) → IsCoreProgram p → Reached (CoreRule no_all) p names q → (x : Text) → is_among (names_of p) x ≡ true → is_declared (declared_of q) x ≡ is_declared (declared_of p) x
