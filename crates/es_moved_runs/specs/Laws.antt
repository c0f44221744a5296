-- Laws of programs whose object patterns with rests move to declarations of their own.
use Rattle.std.specs.Prelude.{◌≡◌, ◌&&◌, ◌||◌, not, Bool, true, false, List, [], codes}
use Rattle.es_steps.specs.Laws.{IsWellBound, nothing_beside}
use Rattle.es_steps.specs.Open.{Open, finished, opened}
use Rattle.es_steps.specs.Steps.{Ledger, Site, Spot, Step, Steps, Whole, the_program}
use Rattle.es_tree.specs.BoundNames.{bound_identifiers}
use Rattle.es_tree.specs.Fresh.{is_among}
use Rattle.es_tree.specs.Names.{first_text}
use Rattle.es_tree.specs.RestTargets.{is_rest_target}
use Rattle.es_tree.specs.Tree.{Tree, node, Label, Fields, done, ◌then◌, missing, one, many, statements, empty, ◌before◌}
use Rattle.es_tree.specs.Walks.{all_nodes}
use Rattle.es_tree.specs.Words.{Text}
use Rattle.es_tree.specs.declared.ast_type.AstType.{AstType}
use Rattle.es_tree.specs.declared.ast_type.AstType.TheVariants.{ArrowFunctionExpression, BlockStatement, ForInStatement, ForOfStatement, FunctionDeclaration, FunctionExpression, VariableDeclaration, VariableDeclarator}
use Rattle.es_steps.specs.CoreBridge.{first_whole}
use Rattle.es_rest_shapes.specs.RestShapes.{is_plain_pattern}
use Rattle.es_pattern_moves.specs.Moved.{MovesTo}
use Rattle.es_pattern_moves.specs.MoveRows.{MoveRow, MoveWalkRow}
use Rattle.es_pattern_moves.specs.MoveRows.MoveWalkRow.{from_catch, from_head}
use Rattle.es_statement_runs.specs.Helpers.{Supply, silent_names}
use Rattle.es_statement_runs.specs.Names.{declared_as, is_word, names_of_all, declared_at_top}
use Rattle.es_statement_runs.specs.Helpers.Supply.{by_global}
use Rattle.es_statement_runs.specs.Programs.{IsStatementProgram, uses_no_helper}
use Rattle.es_statement_runs.specs.Runs.{RunAlike}
use Rattle.es_runs.specs.Runs.{is_declared}

-- OUT OF A CATCH CLAUSE (ECMA-262, 14.15): `catch (P) { B }` becomes `catch (x) { let P = x; { B } }`
abbrev pub is_from_catch : {n : Site} {s s' : Ledger} {x y : Spot} → MoveWalkRow n s x s' y → Bool
is_from_catch (from_catch m l p bs x moves fresh) = true
is_from_catch _ = false

pub record CatchMovesRow (n : Site) (s : Ledger) (x : Spot) (s' : Ledger) (y : Spot) : Type 0 where
  pub row : MoveRow n s x s' y
  pub from : is_from_catch row.0 ≡ true

-- A valid program of the class whose names are bound and in use runs as what a step of this row makes of it, at whatever catch clause, with whatever
-- helpers. No name of either stands for a helper or for a constant list of keys.
abbrev pub LawCatchMoves : Type 0
LawCatchMoves = (u : Supply) (w : Whole) (s : Ledger) (p : Tree) (q : Open) → IsStatementProgram p → IsWellBound w p → Step CatchMovesRow the_program (nothing_beside w) (opened p) s q → silent_names u p ≡ [] → silent_names u (finished q) ≡ [] →
    RunAlike u false p (finished q)

-- OUT OF A LOOP'S HEAD (14.7.5): `for (K P of e) { B }` becomes `for (K x of e) { K P = x; { B } }`, and so for `in`, where K is `let` or `const`. The right
-- side finds other names there, so the head binds none of the names that runs look for by themselves: `Math`, and the two by which a program gets its
-- helpers.

-- whether a pattern binds the name (8.2.1)
abbrev pub binds : Tree → Text → Bool
binds p x = is_among (names_of_all (declared_as (codes "let") (bound_identifiers p))) x

abbrev pub binds_none_asked : Tree → Bool
binds_none_asked p = not (binds p (codes "Math")) && (not (binds p (codes "babelHelpers")) && not (binds p (codes "require")))

abbrev pub is_let_or_const : Text → Bool
is_let_or_const kind = is_word (codes "let") kind || is_word (codes "const") kind

abbrev pub is_block : Tree → Bool
is_block (node BlockStatement l (statements ts then done)) = true
is_block t = false

abbrev pub is_from_head : {n : Site} {s s' : Ledger} {x y : Spot} → MoveWalkRow n s x s' y → Bool
is_from_head (from_head m l j p e b x each moves fresh) = is_let_or_const (first_text l.texts) && (is_block b && binds_none_asked p)
is_from_head _ = false

pub record HeadMovesRow (n : Site) (s : Ledger) (x : Spot) (s' : Ledger) (y : Spot) : Type 0 where
  pub row : MoveRow n s x s' y
  pub from : is_from_head row.0 ≡ true

-- So it is of a step of this row, at whatever such loop whose body is a block.
abbrev pub LawHeadMoves : Type 0
LawHeadMoves = (u : Supply) (w : Whole) (s : Ledger) (p : Tree) (q : Open) → IsStatementProgram p → IsWellBound w p → Step HeadMovesRow the_program (nothing_beside w) (opened p) s q → silent_names u p ≡ [] → silent_names u (finished q) ≡ [] →
    RunAlike u false p (finished q)

-- STEPS IN A ROW, of both rows, where the helpers are those of `babelHelpers`
pub record MovesRow (n : Site) (s : Ledger) (x : Spot) (s' : Ledger) (y : Spot) : Type 0 where
  pub row : MoveRow n s x s' y
  pub from : (is_from_catch row.0 || is_from_head row.0) ≡ true

-- what a program becomes: it runs as the program does, and is again valid, of the class and without helpers, with its names bound and in use
pub record MovesOn (p : Tree) (w : Whole) (q : Tree) : Type 0 where
  pub runs : RunAlike by_global false p q
  pub class : IsStatementProgram q
  pub bound : IsWellBound w q
  pub helpers : uses_no_helper by_global q ≡ true

-- So does one to which whatever steps of the rows lead, at whatever places and in whatever order, from one that uses no helper itself.
abbrev pub LawMovesInRow : Type 0
LawMovesInRow = (w w' : Whole) (p : Tree) (q : Open) → IsStatementProgram p → IsWellBound w p → uses_no_helper by_global p ≡ true → Steps (Step MovesRow the_program) (nothing_beside w) (opened p) (nothing_beside w') q → MovesOn p w' (finished q)

-- FROM THE PROGRAM as it is read, where patterns move by these rows alone: each loop by for-in or for-of whose head is a pattern with a rest is one of those above,
-- and functions stand in no program of the class
abbrev pub head_moves_so : Bool → Tree → Bool
head_moves_so block (node VariableDeclaration l (many (node VariableDeclarator j (one p then missing then done) before empty) then done)) = not (is_plain_pattern p) || (is_let_or_const (first_text l.texts) && (block && binds_none_asked p))
head_moves_so block t = not (is_rest_target (one t))

abbrev pub loop_moves_so : Fields → Bool
loop_moves_so (one t then one e then one b then done) = head_moves_so (is_block b) t
loop_moves_so fs = true

abbrev pub moves_so : AstType → Label → Fields → Bool
moves_so ForInStatement l fs = loop_moves_so fs
moves_so ForOfStatement l fs = loop_moves_so fs
moves_so FunctionDeclaration l fs = false
moves_so FunctionExpression l fs = false
moves_so ArrowFunctionExpression l fs = false
moves_so k l fs = true

-- what such a program becomes by moving
pub record MovedOn (p q : Tree) : Type 0 where
  pub runs : RunAlike by_global false p q
  pub declared : (y : Text) → is_declared (declared_at_top p) y ≡ true → is_declared (declared_at_top q) y ≡ true
  pub class : IsStatementProgram q
  pub helpers : uses_no_helper by_global q ≡ true

-- A valid program of the class that uses no helper itself, and whose patterns move so, runs as what it becomes by moving, with fresh names, which is such a
-- program again.
abbrev pub LawMovedRuns : Type 0
LawMovedRuns = (p q : Tree) (names : List Text) → IsStatementProgram p → uses_no_helper by_global p ≡ true → all_nodes moves_so p ≡ true → MovesTo (first_whole p).in_use p q names → MovedOn p q
