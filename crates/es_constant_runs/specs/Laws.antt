-- The law of programs in which names stand for lists of excluded keys: they run as the programs run in which the lists stand.
use Rattle.std.specs.Prelude.{◌≡◌, List, Bool, true, false}
use Rattle.es_tree.specs.Fresh.{is_among}
use Rattle.es_tree.specs.Names.{names_of}
use Rattle.es_tree.specs.Tree.{Tree}
use Rattle.es_tree.specs.Walks.{all_nodes}
use Rattle.es_tree.specs.Words.{Text}
use Rattle.es_statement_runs.specs.Helpers.Supply.{by_global}
use Rattle.es_statement_runs.specs.Programs.{IsStatementProgram}
use Rattle.es_statement_runs.specs.Runs.{RunAlike}
use Rattle.es_rest_runs.specs.Laws.{LeavesHelpers, excludes_no_name}
use Rattle.es_excluded_keys.specs.ExcludedKeys.{SharesTo}

-- A VALID PROGRAM of the class in which no call of the helper leaves out the keys that a name holds, and which leaves `babelHelpers` alone, runs as it does with names for its lists of excluded keys
-- (ECMA-262, 14.3.1, 14.3.3 and 7.3.26): each of these names is a constant of the program, and none of the program's own.
abbrev pub LawSharedRuns : Type 0
LawSharedRuns = (in_use : Text → Bool) (p q : Tree) (names : List Text) → IsStatementProgram p → all_nodes excludes_no_name p ≡ true → LeavesHelpers p → ((x : Text) → is_among (names_of p) x ≡ true → in_use x ≡ true) → SharesTo in_use p q names → RunAlike by_global false p q
