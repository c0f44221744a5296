-- The laws of the runs of programs whose exports of declarations with an object rest are split (ECMA-262, 16.2.3).
use Rattle.std.specs.Prelude.{◌≡◌, Bool, true}
use Rattle.es_tree.specs.Tree.{Tree}
use Rattle.es_statement_runs.specs.Helpers.{Supply}
use Rattle.es_statement_runs.specs.Names.{declared_at_top}
use Rattle.es_statement_runs.specs.Programs.{IsStatementProgram, uses_no_helper}
use Rattle.es_statement_runs.specs.Runs.{RunAlike}
use Rattle.es_export_splits.specs.Splits.{plainly, split}

-- A valid program of the class becomes one.
abbrev pub LawSplitClass : Type 0
LawSplitClass = (p : Tree) → IsStatementProgram p → IsStatementProgram (split plainly p)

-- A program that uses no helper itself becomes one that uses none.
abbrev pub LawSplitHelpers : Type 0
LawSplitHelpers = (u : Supply) (p : Tree) → uses_no_helper u p ≡ true → uses_no_helper u (split plainly p) ≡ true

-- The top of what a valid program of the class becomes declares the same names (8.2.6 and 8.2.4).
abbrev pub LawSplitTop : Type 0
LawSplitTop = (p : Tree) → IsStatementProgram p → declared_at_top (split plainly p) ≡ declared_at_top p

-- A valid program of the class that uses no helper itself runs as what it becomes, with whatever helpers: the declaration does what the export of it did
-- (16.2.3.7), the export of its names does nothing, and the top binds the same names. What a module exports no run tells; other modules see the same
-- (`IsSplit`). A program that requires a helper may run otherwise: where an exported declaration requires one, its name stands for that only once the
-- declaration is a statement of the list, and then so may another name for the keys that calls of it leave out, whose list isn't made any more.
abbrev pub LawSplitRuns : Type 0
LawSplitRuns = (u : Supply) (no_all : Bool) (p : Tree) → IsStatementProgram p → uses_no_helper u p ≡ true → RunAlike u no_all p (split plainly p)
