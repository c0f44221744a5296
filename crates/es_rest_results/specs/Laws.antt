-- Laws of programs all of whose object rests are taken where they are declared (ECMA-262, 14.3.3).
use Rattle.std.specs.Prelude.{◌≡◌, List, false, true}
use Rattle.es_tree.specs.Bare.{bare}
use Rattle.es_tree.specs.Tree.{Tree}
use Rattle.es_tree.specs.Walks.{all_nodes}
use Rattle.es_tree.specs.Words.{Text}
use Rattle.es_tree.specs.declared.options.EnvOptions.{EnvOptions}
use Rattle.es_runs.specs.Runs.{is_declared}
use Rattle.es_semantic.specs.SymbolsOf.{symbols_of}
use Rattle.es_resolution.specs.Laws.{source}
use Rattle.es_steps.specs.CoreBridge.{Reached, first_whole}
use Rattle.es_steps.specs.Open.{Open, finished, opened}
use Rattle.es_steps.specs.Steps.{Whole}
use Rattle.es_reached.specs.Reached.{built_rules}
use Rattle.es_rest_shapes.specs.HelperNames.{binds_helpers}
use Rattle.es_rest_rows.specs.RestRows.{RestWalkRow}
use Rattle.es_rest_steps.specs.Laws.{Lead}
use Rattle.es_rest_runs.specs.Laws.{LeavesHelpers, excludes_no_name}
use Rattle.es_statement_runs.specs.Helpers.Supply.{by_global}
use Rattle.es_statement_runs.specs.Names.{declared_at_top}
use Rattle.es_statement_runs.specs.Programs.{IsStatementProgram, uses_no_helper}
use Rattle.es_statement_runs.specs.Runs.{RunAlike}
use Rattle.es_rest_results.specs.Others.{others_there}

-- What a program becomes: it runs as the program does, at whose top at least the same names are declared, and is again valid, of the class, and without a
-- call of the helper that leaves out the keys that a name holds; no scope of it declares `babelHelpers`, and nothing writes it.
pub record RunsTaken (p q : Tree) : Type 0 where
  pub runs : RunAlike by_global false p q
  pub declared : (y : Text) → is_declared (declared_at_top p) y ≡ true → is_declared (declared_at_top q) y ≡ true
  pub class : IsStatementProgram q
  pub no_name : all_nodes excludes_no_name q ≡ true
  pub leaves : LeavesHelpers q

-- A valid program of the class that uses no helper itself, and binds no `babelHelpers`, runs as what whatever steps of a walk that takes object rests make
-- of it: patterns' values that are stored, rests that are taken and patterns of properties that are declared, at whatever declarations and in whatever
-- order, one upon the other.
abbrev pub LawRestWalkRuns : Type 0
LawRestWalkRuns = (p : Tree) (w : Whole) (q : Open) → IsStatementProgram p → uses_no_helper by_global p ≡ true → binds_helpers (symbols_of p) ≡ false → Lead RestWalkRow (first_whole p) (source p) w q → RunsTaken p (finished q)

-- A program of which the laws below speak, under these options.
pub record TakesRestsAlone (o : EnvOptions) (p : Tree) : Type 0 where
  -- it is valid, and without functions, arrows and classes
  pub class : IsStatementProgram p
  -- it uses no helper itself
  pub helpers : uses_no_helper by_global p ≡ true
  -- of what the options ask to lower nothing stands in it but object rests that are declared
  pub others : others_there o p ≡ false

-- Such a program runs as what is written of it once its rests are taken, after steps of the other lowerings, of which none acts.
abbrev pub LawRestsAlone : Type 0
LawRestsAlone = (o : EnvOptions) (p q r t : Tree) (names : List Text) (w : Whole) → TakesRestsAlone o p → binds_helpers (symbols_of p) ≡ false → (h : Reached (built_rules o) p (first_whole p) names r) → Lead RestWalkRow h.whole r w (opened t) → bare t ≡ bare q → RunsTaken p q

-- And as what is written of it where none is taken.
abbrev pub LawNoneTaken : Type 0
LawNoneTaken = (o : EnvOptions) (p q r : Tree) (names : List Text) → TakesRestsAlone o p → Reached (built_rules o) p (first_whole p) names r → bare r ≡ bare q → RunsTaken p q
