-- A program runs as what it becomes where its exports are split: both tops bind the same names, and both programs do the same.
use Rattle.std.proofs.Common.{◌≡◌, ◌∙◌, ℕ, refl, sym, ap, subst, List, []}
use Rattle.std.specs.Prelude.{Bool, true, false}
use Rattle.es_tree.specs.Scopes.{Declared}
use Rattle.es_tree.specs.Tree.{Tree, node, Label, done, ◌then◌, many, statements, Trees}
use Rattle.es_tree.specs.Words.{Text}
use Rattle.es_tree.specs.declared.ast_type.AstType.TheVariants.{Program}
use Rattle.es_runs.specs.Core.{Silent, World, value}
use Rattle.es_runs.specs.Machine.{M, Move, Result, Value, stop}
use Rattle.es_runs.specs.Machine.State.{state}
use Rattle.es_runs.specs.Machine.Stop.{unknown}
use Rattle.es_runs.specs.Runs.{asked, cells, scope_of, state_of}
use Rattle.es_statement_runs.specs.Helpers.{Supply, entry, silent_names}
use Rattle.es_statement_runs.specs.Kinds.{sense}
use Rattle.es_statement_runs.specs.Names.{declared_at_top, top_in}
use Rattle.es_statement_runs.specs.Places.{placed_at}
use Rattle.es_statement_runs.specs.Programs.{IsStatementProgram}
use Rattle.es_statement_runs.specs.Runs.{RunAlike, outcome, program_world, run, silent_or, start_cells}
use Rattle.es_export_runs.specs.Laws.{LawSplitRuns, LawSplitTop}
use Rattle.es_export_splits.specs.Splits.{plainly, split, split_list}
use Rattle.es_export_runs.proofs.ListRuns.{program-same, top-same}
use Rattle.es_export_runs.proofs.PlainExports.{PlainAmong, plain-list}
use Rattle.es_export_runs.proofs.NoneSilent.{none-silent}
use Rattle.es_export_runs.proofs.SplitClass.{law_split_class_proof, law_split_helpers_proof}
use Rattle.es_export_splits.proofs.SplitStays.{Listed, listed}
use Rattle.es_export_splits.proofs.SplitStays.Listed.{lists, others}

-- equal runs are alike
equal-alike : (u : Supply) (no_all : Bool) (p q : Tree) → ((n : ℕ) (this : Value) (moves : List Move) → run u n q this moves ≡ run u n p this moves) → RunAlike u no_all p q
equal-alike u no_all p q same n this moves assumed t ms in_sight = record {
  outcomes = ap outcome (same n this moves);
  questions = ap (λ (r : Result Value). asked (state_of r)) (same n this moves);
  final_cells = λ x e i. ap (λ (r : Result Value). cells (state_of r) x) (same n this moves);
}

abbrev world_by : Value → List (Text × Silent) → List Declared → World
world_by this es ds = record { scope = λ x. silent_or (entry es x) (scope_of ds x); this = this; counts_all = true; other = λ e. stop unknown; spreads = false }

module _ (u : Supply) (l : Label) (ds ts : Trees) where
  abbrev old : Tree
  old = node Program l (many ds then statements ts then done)

  abbrev new : Tree
  new = node Program l (many ds then statements (split_list plainly ts) then done)

  same-run : PlainAmong ts → silent_names u new ≡ silent_names u old → (n : ℕ) (this : Value) (moves : List Move) → run u n new this moves ≡ run u n old this moves
  same-run h silents n this moves =
      let tops : top_in (split_list plainly ts) ≡ top_in ts = top-same ts h in
      (λ i. value (world_by this (silents i) (tops i)) (sense (placed_at u (world_by this (silents i) (tops i)) [] []) new).core (state (start_cells n (tops i)) moves []))
      ∙ ap (λ (m : M Value). m (state (start_cells n (top_in ts)) moves [])) (program-same u (program_world u this old) l ds ts h)

-- A PROGRAM, or another tree, which stays

listed-top : (p : Tree) → Listed p → IsStatementProgram p → declared_at_top (split plainly p) ≡ declared_at_top p
listed-top p (lists l ds ts) class = top-same ts (plain-list l ds ts class.form class.rules)
listed-top p (others same) class = ap declared_at_top (same plainly)

pub law_split_top_proof : LawSplitTop
law_split_top_proof p class = listed-top p (listed p) class

module _ (u : Supply) (no_all : Bool) where
  listed-runs : (p : Tree) → Listed p → IsStatementProgram p → silent_names u (split plainly p) ≡ silent_names u p → RunAlike u no_all p (split plainly p)
  listed-runs p (lists l ds ts) class silents = equal-alike u no_all (old u l ds ts) (new u l ds ts) (same-run u l ds ts (plain-list l ds ts class.form class.rules) silents)
  listed-runs p (others same) class silents = subst (λ (q : Tree). RunAlike u no_all p q) (sym (same plainly)) (equal-alike u no_all p p (λ n this moves. refl))

pub law_split_runs_proof : LawSplitRuns
law_split_runs_proof u no_all p class none =
    let after = none-silent u (split plainly p) (law_split_class_proof p class) (law_split_helpers_proof u p none) in
    listed-runs u no_all p (listed p) class (after ∙ sym (none-silent u p class none))
