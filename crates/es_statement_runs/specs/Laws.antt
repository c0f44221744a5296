-- Laws of the statement machine.
use Rattle.std.specs.Prelude.{is_some, ◌≡◌, ℕ, zero, suc, Bool, true, false, List, [], ◌∷◌, ◌++◌, Some, codes, bytes_eq, ◌||◌, ◌&&◌, not, if◌then◌else◌}
use Rattle.std.specs.List.{list_any}
use Rattle.es_statement_runs.specs.Operands.{is_settled, stands_over}
use Rattle.es_tree.specs.Words.{Text}
use Rattle.es_tree.specs.Core.{is_core}
use Rattle.es_tree.specs.Scopes.{declared_of, Declared}
use Rattle.es_tree.specs.Tree.{Tree, node, Trees, Label, done, ◌then◌, one, ◌before◌, Fields, Field, statements, many, empty, missing, kind_of}
use Rattle.es_tree.specs.declared.ast_type.AstType.TheVariants.{LogicalExpression, AssignmentExpression, BinaryExpression, Identifier, CatchClause, ObjectExpression, SpreadElement, CallExpression, ObjectPattern, ExpressionStatement, BlockStatement, VariableDeclaration, VariableDeclarator, TryStatement, ForInStatement, ForOfStatement, StringLiteral, NumericLiteral, BigIntLiteral, PatternProperty, RestElement, ArrayExpression, SequenceExpression, ImportDeclaration, ImportNamespaceSpecifier, ExportNamedDeclaration, ExportSpecifier, ExportAllDeclaration}
use Rattle.es_tree.specs.declared.ast_type.AstType.{AstType}
use Rattle.es_tree.specs.Fresh.{is_among}
use Rattle.es_tree.specs.Names.{first_text, flag_at}
use Rattle.es_tree.specs.Walks.{all_nodes}
use Rattle.es_runs.specs.Core.{Silent, World, value, meaning, second}
use Rattle.es_runs.specs.Alike.{Same, Equal, touches, Level, Frame, set_cells, bad_names, value_and_form, Need}
use Rattle.es_runs.specs.Alike.Level.{a_target}
use Rattle.es_runs.specs.Rules.{assign_node, member_node, strays, tested_by}
use Rattle.es_runs.specs.Runs.{IsAssumed, made, identifier, none_hidden, only, program, var_statement, is_declared, stands, asked, state_of, cells, outcome as core_outcome, run as core_run}
use Rattle.es_runs.specs.Runs.Outcome.{called_uncallable}
use Rattle.es_runs.specs.OptionalChaining.{OptionalChainingRule}
use Rattle.es_runs.specs.Standing.{undeclaring}
use Rattle.es_runs.specs.LogicalAssignment.{is_logical_assignment_operator, assigned_where, LogicalAssignmentRule}
use Rattle.es_runs.specs.Exponentiation.{power_at, ExponentiationRule, is_raisable}
use Rattle.es_runs.specs.Machine.{Value, Values, State, Move, Result, M, ◌>>=◌, return, joined}
use Rattle.es_runs.specs.Machine.Values.{none, ◌and◌}
use Rattle.es_statement_runs.specs.Programs.{IsStatementProgram, is_without_functions, uses_no_helper}
use Rattle.es_statement_runs.specs.Helpers.{helper_names, entry, silent_names, Supply}
use Rattle.es_statement_runs.specs.Helpers.Supply.{no_helpers, by_global}
use Rattle.es_statement_runs.specs.Scopes.{are_program_names, is_own_cell, turns_cell, stack_cell}
use Rattle.es_statement_runs.specs.Places.{InScope, placed_at, HelpersSeen, all_good, label_taken, target_taken, bad_anywhere, SupplySeen, Take, take, value_taken, quiet_at, Close, CloseTrees, avoids, avoids_trees}
use Rattle.es_statement_runs.specs.Names.{own_use, own_names, lexical_names, lexical_in, names_of_all, is_word, declared_at_top, top_in, using_in}
use Rattle.es_runs.specs.Machine.Value.{text}
use Rattle.es_statement_runs.specs.Patterns.{collected, Member, members_of, Putter, property_of}
use Rattle.es_statement_runs.specs.Patterns.Member.{keyed}
use Rattle.es_statement_runs.specs.Senses.{Place}
use Rattle.es_statement_runs.specs.Senses.More.{nothing_more}
use Rattle.es_statement_runs.specs.Kinds.{kind_in, sense}
use Rattle.es_statement_runs.specs.BareVars.{BesideList, PutList}
use Rattle.es_statement_runs.specs.Calls.{is_spread}
use Rattle.es_statement_runs.specs.Runs.{RunAlike, run, run_where, outcome}
use Rattle.es_statement_runs.specs.Runs.Outcome.{meaningless}
use Rattle.es_statement_runs.specs.Meant.{is_meant}

-- the place of a program without helpers
abbrev pub quiet_place : World → Place
quiet_place w = quiet_at w [] []

-- A tree of core kinds means what it means in the core.
abbrev pub LawCoreMeaning : Type 0
LawCoreMeaning = (w : World) (t : Tree) → is_core t ≡ true → (sense (quiet_place w) t).core ≡ meaning w t

abbrev pub no_frame : Frame
no_frame = set_cells none_hidden

-- nothing is hidden, and the source's faults are outside
abbrev pub open_frame : Frame
open_frame = record no_frame { faults_outside = true }

-- e and d give the same value wherever they stand, unless e is outside, and are alike in what else a place takes: in form, and
-- in that they say nothing more
pub record EvaluateAlike (form more : Bool) (e d : Tree) : Type 0 where
  pub values : (w : World) → w.counts_all ≡ true → (ls : List Text) (x : Text) (s : State) → Same open_frame Equal (value w (sense (quiet_at w ls x) e).core s) (value w (sense (quiet_at w ls x) d).core s)
  pub forms : form ≡ true → (w : World) (ls : List Text) (x : Text) → (sense (quiet_at w ls x) d).core.form ≡ (sense (quiet_at w ls x) e).core.form
  pub first_says : more ≡ true → (w : World) (ls : List Text) (x : Text) → (sense (quiet_at w ls x) e).more ≡ nothing_more
  pub second_says : more ≡ true → (w : World) (ls : List Text) (x : Text) → (sense (quiet_at w ls x) d).more ≡ nothing_more

pub data Swaps (t : Take) (e d : Tree) : Take → Tree → Tree → Type 0 where
  swaps : Swaps t e d t e d

-- Replacing an expression by one that evaluates alike, at places that take its value, and perhaps its form, keeps the runs,
-- inside whatever statements.
abbrev pub LawPlace : Type 0
LawPlace = (form more : Bool) (e d p q : Tree) → Close (bad_names none_hidden none_hidden) (Swaps (take (value_and_form form) more) e d) value_taken p q → EvaluateAlike form more e d → declared_at_top q ≡ declared_at_top p → RunAlike no_helpers false p q

abbrev pub hiding : Text → Frame
hiding x = set_cells (only x)

-- A `var` of a name that stands nowhere, at the top of a program's list, keeps the runs.
abbrev pub LawFresh : Type 0
LawFresh = (x : Text) (l : Label) (ds body : Trees) →
    avoids_trees (bad_names (only x) none_hidden) (take (value_and_form false) true) body ≡ true →
    bytes_eq (codes "Math") x ≡ false → is_own_cell x ≡ false → is_declared (declared_at_top (program l ds body)) x ≡ false →
    RunAlike no_helpers false (program l ds body) (program l ds (var_statement x before body))

-- the same end, the same questions, and the same cells of the declared names, as ends and cells are compared here
pub record AsInCore (declared : Text → Bool) (r q : Result Value) : Type 0 where
  pub outcomes : outcome q ≡ outcome r
  pub questions : asked (state_of q) ≡ asked (state_of r)
  pub final_cells : (x : Text) → declared x ≡ true → cells (state_of q) x ≡ cells (state_of r) x

-- A core program, whose names are those of its declarations, has the run of the core machine, from any number of turns,
-- unless that calls what isn't callable.
abbrev pub LawCoreRun : Type 0
LawCoreRun = (n : ℕ) (p : Tree) → is_core p ≡ true → declared_at_top p ≡ declared_of p → stands turns_cell p ≡ false → is_declared (declared_of p) turns_cell ≡ false →
    (this : Value) (moves : List Move) → (core_outcome (core_run p this moves) ≡ called_uncallable → ⊥) → AsInCore (is_declared (declared_of p)) (core_run p this moves) (run no_helpers n p this moves)

-- whether a name stands for a helper or for keys
abbrev pub is_silent : List (Text × Silent) → Text → Bool
is_silent es x = is_some (entry es x)

-- A ROW: `l ?? r` becomes `(x = l) !== null && x !== void 0 ? x : r`, where x stands in neither side
pub data NullishRow (x : Text) : Take → Tree → Tree → Type 0 where
  nullish_row : {t : Take} {m : Label} {l r : Tree} → m.texts ≡ Some (codes "??") ∷ [] →
      avoids (bad_names (only x) none_hidden) value_taken l ≡ true → avoids (bad_names (only x) none_hidden) value_taken r ≡ true →
      NullishRow x t (node LogicalExpression m (one l then one r then done)) (tested_by m x l r)

-- The row at whatever places of whatever statements, with a `var` of the name at the top of the list, keeps the runs of a
-- program in which the name stands nowhere.
abbrev pub LawNullish : Type 0
LawNullish = (x : Text) (l : Label) (ds body after : Trees) →
    CloseTrees (bad_names (only x) none_hidden) (NullishRow x) (take (value_and_form false) true) body after →
    top_in after ≡ top_in body → using_in after ≡ using_in body →
    bytes_eq (codes "Math") x ≡ false → is_own_cell x ≡ false → is_declared (declared_at_top (program l ds body)) x ≡ false →
    RunAlike no_helpers false (program l ds body) (program l ds (var_statement x before after))

-- MANY ROWS, WITH MANY TEMPORARIES

-- a `var` of each of these names before a list
abbrev pub vars_before : List Text → Trees → Trees
vars_before [] ts = ts
vars_before (x ∷ xs) ts = var_statement x before vars_before xs ts

abbrev pub body_needs : Take
body_needs = take (value_and_form false) true

abbrev pub nothing_bad : Level → Text → Bool
nothing_bad = bad_names none_hidden none_hidden

-- A ROW: `x op= r` becomes `x op (x = r)`, for the three logical operators, whatever r is
pub data AssignRow : Take → Tree → Tree → Type 0 where
  assign_row : {t : Take} {m l : Label} {r : Tree} {op : Text} → m.texts ≡ Some op ∷ [] → is_logical_assignment_operator op ≡ true →
      AssignRow t (node AssignmentExpression m (one (node Identifier l done) then one r then done)) (assigned_where m op (node Identifier l done) (node Identifier l done) r)

-- at whatever places of whatever statements, with whatever helpers
abbrev pub LawAssign : Type 0
LawAssign = (u : Supply) (l : Label) (ds body after : Trees) → CloseTrees nothing_bad AssignRow body_needs body after →
    top_in after ≡ top_in body → using_in after ≡ using_in body → silent_names u (program l ds after) ≡ silent_names u (program l ds body) →
    RunAlike u false (program l ds body) (program l ds after)

-- A ROW: `l ** r` becomes `Math.pow(l, r)`, whatever the operands are but spreads
abbrev pub Unspread : Supply → Tree → Type 0
Unspread u e = (w : World) → is_spread (sense (placed_at u w [] []) e).more ≡ false

pub data PowerRow : Take → Tree → Tree → Type 0 where
  power_row : {t : Take} {m : Label} {l r : Tree} → m.texts ≡ Some (codes "**") ∷ [] → Unspread no_helpers l → Unspread no_helpers r → PowerRow t (node BinaryExpression m (one l then one r then done)) (power_at m l r)

-- at whatever places of whatever statements, where no scope declares `Math` and nothing writes it
abbrev pub LawPower : Type 0
LawPower = (l : Label) (ds body after : Trees) → CloseTrees (bad_names none_hidden (only (codes "Math"))) PowerRow body_needs body after →
    top_in after ≡ top_in body → using_in after ≡ using_in body → is_declared (top_in body) (codes "Math") ≡ false →
    RunAlike no_helpers false (program l ds body) (program l ds after)

abbrev pub among_names : List Text → Text → Bool
among_names xs y = list_any (λ x. bytes_eq y x) xs

-- THE ROWS OF es_runs OVER WHATEVER OPERANDS: as they are, with these temporaries, at nodes of the core over operands of any kind that mean something.
-- The names `bound` may be read again, where the top or a scope around declares them, and of them nothing in the node writes the steady ones.
pub data RowOver (R : (bound steady in_use : Text → Bool) → List Text → Need → Tree → Tree → Type 0) (xs : List Text) (ds : List Declared) : Take → Tree → Tree → Type 0 where
  row_over : {t : Take} {a b : Tree} (bound steady in_use : Text → Bool) → R bound steady in_use xs t.need a b →
      ((y : Text) → bound y ≡ true → is_declared ds y ≡ true) → ((y : Text) → steady y ≡ true → bound y ≡ true) → ((y : Text) → steady y ≡ true → is_own_cell y ≡ false) →
      stands_over (is_settled (bad_names (among_names xs) steady)) a ≡ true → all_nodes undeclaring a ≡ true → touches (bad_names (among_names xs) steady) t.need a ≡ false → RowOver R xs ds t a b

-- n scopes deep at most
abbrev pub RowsOver : (Level → Text → Bool) → ((bound steady in_use : Text → Bool) → List Text → Need → Tree → Tree → Type 0) → List Text → ℕ → List Declared → Take → Tree → Tree → Type 0
RowsOver bad R xs zero ds t a b = RowOver R xs ds t a b
RowsOver bad R xs (suc n) ds t a b = InScope bad (RowsOver bad R xs n) ds t a b

-- At whatever places of whatever statements, with a `var` of each temporary at the top of the list, where no scope declares these other names and nothing
-- writes them.
abbrev pub RowsKeepRuns : Bool → (Text → Bool) → ((bound steady in_use : Text → Bool) → List Text → Need → Tree → Tree → Type 0) → Type 0
RowsKeepRuns no_all others R = (xs : List Text) (n : ℕ) (l : Label) (ds body after : Trees) →
    CloseTrees (bad_names (among_names xs) others) (RowsOver (bad_names (among_names xs) others) R xs n (top_in body)) body_needs body after → top_in after ≡ top_in body → using_in after ≡ using_in body →
    among_names xs (codes "Math") ≡ false → are_program_names xs ≡ true → ((y : Text) → is_declared (top_in body) y ≡ true → among_names xs y ≡ false) → ((y : Text) → others y ≡ true → is_declared (top_in body) y ≡ false) →
    RunAlike no_helpers no_all (program l ds body) (program l ds (vars_before xs after))

-- optional chaining, where no value is assumed to be `document.all`, or where one may be
abbrev pub chaining : (no_all : Bool) (bound steady in_use : Text → Bool) → List Text → Need → Tree → Tree → Type 0
chaining no_all bound steady in_use xs n a b = OptionalChainingRule no_all bound steady in_use xs n a b × (strays false a ≡ false)

abbrev pub LawChain : Type 0
LawChain = (no_all : Bool) → RowsKeepRuns no_all none_hidden (chaining no_all)

-- logical assignment, to names and members
abbrev pub assigning : (bound steady in_use : Text → Bool) → List Text → Need → Tree → Tree → Type 0
assigning bound steady in_use xs n a b = LogicalAssignmentRule steady in_use xs n a b

abbrev pub LawLogicalAssignment : Type 0
LawLogicalAssignment = RowsKeepRuns false none_hidden assigning

-- exponentiation, and its assignment, where no scope declares `Math` and nothing writes it
abbrev pub raising : (bound steady in_use : Text → Bool) → List Text → Need → Tree → Tree → Type 0
raising bound steady in_use xs n a b = ExponentiationRule bound in_use xs n a b × (is_raisable a ≡ true)

abbrev pub LawExponentiation : Type 0
LawExponentiation = RowsKeepRuns false (only (codes "Math")) raising

-- RUNS ALIKE COMPOSE, where what the first source declares is declared by the second, so that steps may be taken one after another
abbrev pub LawThen : Type 0
LawThen = (u : Supply) (no_all : Bool) (p q r : Tree) → RunAlike u no_all p q → RunAlike u no_all q r → ((y : Text) → is_declared (declared_at_top p) y ≡ true → is_declared (declared_at_top q) y ≡ true) → RunAlike u no_all p r

-- nothing is known of the cells of these names
abbrev pub any_cells : (Text → Bool) → Frame
any_cells hidden = record { hidden = hidden; fits = λ c x d. Unit {0}; frozen = λ x. false; keeps = λ x d. Unit {0}; faults_outside = false; loose = λ x. false; steady = λ c e h x k d g. g }

abbrev pub apart_from : Text → Frame
apart_from x = any_cells (only x)

abbrev pub bad_with : Text → Level → Text → Bool
bad_with x = bad_anywhere (apart_from x)

-- OPTIONAL CATCH: `catch { B }` becomes `catch (x) { B }`, where x stands nowhere in B
pub data CatchRow (x : Text) : Take → Tree → Tree → Type 0 where
  catch_row : {t : Take} {m : Label} {b : Tree} → avoids (bad_with x) value_taken b ≡ true →
      CatchRow x t (node CatchClause m (missing then one b then done)) (node CatchClause m (one (identifier x) then one b then done))

-- at whatever places of whatever statements in which the name stands nowhere, with whatever helpers
abbrev pub LawCatch : Type 0
LawCatch = (u : Supply) (x : Text) (l : Label) (ds body after : Trees) → CloseTrees (bad_with x) (CatchRow x) body_needs body after →
    top_in after ≡ top_in body → using_in after ≡ using_in body → silent_names u (program l ds after) ≡ silent_names u (program l ds body) →
    bytes_eq (codes "Math") x ≡ false → is_own_cell x ≡ false → SupplySeen (apart_from x) u → is_declared (top_in body) x ≡ false →
    RunAlike u false (program l ds body) (program l ds after)

-- OBJECT SPREAD, under External helpers

abbrev pub followed : Trees → Trees → Trees
followed empty ys = ys
followed (x before xs) ys = x before followed xs ys

-- `babelHelpers.NAME`
abbrev pub global_helper : Text → Tree
global_helper h = member_node false (identifier (codes "babelHelpers")) (identifier h)

abbrev pub helper_call_of : Text → Label → Trees → Tree
helper_call_of h m args = node CallExpression m (one (global_helper h) then many args then done)

abbrev pub object_at : Label → Trees → Tree
object_at m ps = node ObjectExpression m (many ps then done)

abbrev pub bare_object : Tree
bare_object = object_at (made [] []) empty

abbrev pub spread_at : Label → Tree → Tree
spread_at m e = node SpreadElement m (one e then done)

abbrev pub spread_call : Label → Trees → Tree
spread_call m args = helper_call_of (codes "objectSpread2") m args

-- the properties up to a spread, and the call that stands for them
pub data Gathered : Trees → Tree → Type 0 where
  begin_gathering : (m n k : Label) (os : Trees) (e : Tree) → m.flags ≡ false ∷ [] → Gathered (followed os (spread_at k e before empty)) (spread_call m (object_at n os before e before empty))
  one_gathered : (m k : Label) (ps : Trees) (c e : Tree) → m.flags ≡ false ∷ [] → Gathered ps c → Gathered (followed ps (spread_at k e before empty)) (spread_call m (c before e before empty))
  more_gathered : (m n k : Label) (ps os : Trees) (c e : Tree) → m.flags ≡ false ∷ [] → Gathered ps c →
      Gathered (followed ps (followed os (spread_at k e before empty))) (spread_call m (c before bare_object before object_at n os before e before empty))

-- an object literal with a spread becomes nested calls
pub data SpreadRow : Take → Tree → Tree → Type 0 where
  spread_last : {t : Take} {l : Label} {ps : Trees} {c : Tree} → Gathered ps c → SpreadRow t (object_at l ps) c
  properties_last : {t : Take} (l m n : Label) (ps os : Trees) (c : Tree) → m.flags ≡ false ∷ [] → Gathered ps c → SpreadRow t (object_at l (followed ps os)) (spread_call m (c before bare_object before object_at n os before empty))

-- at whatever places of whatever statements, where no scope declares `babelHelpers` and nothing writes it
abbrev pub LawSpread : Type 0
LawSpread = (l : Label) (ds body after : Trees) → CloseTrees (bad_names none_hidden (only (codes "babelHelpers"))) SpreadRow body_needs body after →
    top_in after ≡ top_in body → using_in after ≡ using_in body → silent_names by_global (program l ds after) ≡ silent_names by_global (program l ds body) → is_declared (top_in body) (codes "babelHelpers") ≡ false →
    is_silent (silent_names by_global (program l ds body)) (codes "babelHelpers") ≡ false → RunAlike by_global false (program l ds body) (program l ds after)

-- `using` IN A BLOCK, under External helpers

abbrev pub own_or_stack : Text → Text → Bool
own_or_stack c x = only c x || only stack_cell x

abbrev pub bad_using : Text → Level → Text → Bool
bad_using c Level.no_evaluation x = own_or_stack c x
bad_using c n x = bad_names (own_or_stack c) (only (codes "babelHelpers")) n x

-- `c.m(args)` and `c.e`
abbrev pub context_member : Text → Text → Tree
context_member c m = member_node false (identifier c) (identifier m)

abbrev pub context_call_node : Text → Text → Trees → Tree
context_call_node c m args = node CallExpression (made [] (false ∷ [])) (one (context_member c m) then many args then done)

abbrev pub expression_statement : Tree → Tree
expression_statement e = node ExpressionStatement (made [] []) (one e then done)

abbrev pub block_of : Label → Trees → Tree
block_of m ts = node BlockStatement m (statements ts then done)

abbrev pub declarator_at : Label → Label → Tree → Tree
declarator_at m l e = node VariableDeclarator m (one (node Identifier l done) then one e then done)

-- `var c = babelHelpers.usingCtx()`
abbrev pub context_statement : Text → Tree
context_statement c = node VariableDeclaration (made (Some (codes "var") ∷ []) []) (many (declarator_at (made [] []) (record (made [] []) { texts = Some c ∷ [] }) (helper_call_of (codes "usingCtx") (made [] (false ∷ [])) empty) before empty) then done)

abbrev pub is_using : AstType → Label → Bool
is_using VariableDeclaration l = is_word (codes "using") (first_text l.texts)
is_using k l = false

-- no `using` stands in it
abbrev mutual
  pub unused : Tree → Bool
  unused (node k l fs) = not (own_use k fs) && (not (is_using k l) && unused_fields fs)

  pub unused_fields : Fields → Bool
  unused_fields done = true
  unused_fields (f then fs) = unused_field f && unused_fields fs

  pub unused_field : Field → Bool
  unused_field missing = true
  unused_field (one t) = unused t
  unused_field (many ts) = unused_trees ts
  unused_field (statements ts) = unused_trees ts

  pub unused_trees : Trees → Bool
  unused_trees empty = true
  unused_trees (t before ts) = unused t && unused_trees ts

-- each declarator `x = e` becomes `x = c.u(e)`
pub data TakenUp (c : Text) : Trees → Trees → Type 0 where
  none_taken : TakenUp c empty empty
  one_taken : {m l : Label} {e : Tree} {ds es : Trees} → Unspread by_global e → avoids (bad_using c) value_taken e ≡ true → unused e ≡ true → bad_using c a_target (first_text l.texts) ≡ false → TakenUp c ds es →
      TakenUp c (declarator_at m l e before ds) (declarator_at m l (context_call_node c (codes "u") (e before empty)) before es)

-- a list: its direct `using` declarations become `const`, and the rest stays
pub data Wrapped (c : Text) : Trees → Trees → Type 0 where
  none_wrapped : Wrapped c empty empty
  use_wrapped : {m n : Label} {ds es ts us : Trees} → m.texts ≡ Some (codes "using") ∷ [] → n.texts ≡ Some (codes "const") ∷ [] → TakenUp c ds es → Wrapped c ts us →
      Wrapped c (node VariableDeclaration m (many ds then done) before ts) (node VariableDeclaration n (many es then done) before us)
  rest_wrapped : {a : Tree} {ts us : Trees} → avoids (bad_using c) value_taken a ≡ true → unused a ≡ true → Wrapped c ts us → Wrapped c (a before ts) (a before us)

-- `try { var c = usingCtx(); list } catch (_) { c.e = _; } finally { c.d(); }`
abbrev pub wrap : Text → Label → Trees → Tree
wrap c m ts = node TryStatement (made [] []) (
    one (block_of m (context_statement c before ts)) then
    one (node CatchClause (made [] []) (one (identifier (codes "_")) then one (block_of (made [] []) (expression_statement (assign_node (context_member c (codes "e")) (identifier (codes "_"))) before empty)) then done)) then
    one (block_of (made [] []) (expression_statement (context_call_node c (codes "d") empty) before empty)) then done)

pub data UsingRow (c : Text) : Take → Tree → Tree → Type 0 where
  using_row : {t : Take} {m : Label} {ts us : Trees} → Wrapped c ts us → using_in ts ≡ true → using_in us ≡ false → lexical_in us ≡ lexical_in ts → all_good (bad_using c) (names_of_all (lexical_in ts)) ≡ true → are_program_names (names_of_all (lexical_in ts)) ≡ true →
      UsingRow c t (block_of m ts) (wrap c m us)

-- A `var` is declared somewhere more.
pub data OneVar (c : Text) : List Declared → List Declared → Type 0 where
  here_var : {ds : List Declared} → OneVar c ds (record { name = c; kind = codes "var" } ∷ ds)
  later_var : {d : Declared} {ds es : List Declared} → OneVar c ds es → OneVar c (d ∷ ds) (d ∷ es)

-- The row at whatever places of whatever statements, where no scope declares `babelHelpers` and nothing writes it. Inner scopes that
-- declare by `using` are taken first.
abbrev pub LawUsing : Type 0
LawUsing = (c : Text) (l : Label) (ds body after : Trees) → CloseTrees (bad_using c) (UsingRow c) body_needs body after →
    OneVar c (top_in body) (top_in after) → using_in after ≡ using_in body → silent_names by_global (program l ds after) ≡ silent_names by_global (program l ds body) → is_silent (silent_names by_global (program l ds body)) c ≡ false → is_silent (silent_names by_global (program l ds body)) (codes "babelHelpers") ≡ false →
    bytes_eq (codes "Math") c ≡ false → is_own_cell c ≡ false → only c (codes "_") ≡ false → HelpersSeen (apart_from c) →
    is_declared (top_in body) c ≡ false → is_declared (top_in body) (codes "babelHelpers") ≡ false →
    RunAlike by_global false (program l ds body) (program l ds after)

-- A CATCH CLAUSE OF OBJECT REST: `catch (P) { B }` becomes `catch (x) { let P = x; { B } }`, for an object pattern P

abbrev pub object_pattern_at : Label → Trees → Tree
object_pattern_at m ps = node ObjectPattern m (many ps then done)

abbrev pub declare_statement : Text → Label → Tree → Tree → Tree
declare_statement kind m p e = node VariableDeclaration (made (Some kind ∷ []) []) (many (node VariableDeclarator m (one p then one e then done) before empty) then done)

abbrev pub let_statement : Label → Tree → Tree → Tree
let_statement m p e = declare_statement (codes "let") m p e

pub data CatchPatternRow (x : Text) : Take → Tree → Tree → Type 0 where
  catch_pattern_row : {t : Take} {m pm dm n bm : Label} {ps bs : Trees} →
      avoids (bad_with x) target_taken (object_pattern_at pm ps) ≡ true → avoids (bad_with x) value_taken (block_of bm bs) ≡ true →
      lexical_in (let_statement dm (object_pattern_at pm ps) (identifier x) before block_of bm bs before empty) ≡ own_names CatchClause (one (object_pattern_at pm ps) then one (block_of bm bs) then done) →
      all_good (bad_with x) (names_of_all (own_names CatchClause (one (object_pattern_at pm ps) then one (block_of bm bs) then done))) ≡ true →
      CatchPatternRow x t (node CatchClause m (one (object_pattern_at pm ps) then one (block_of bm bs) then done))
      (node CatchClause m (one (identifier x) then one (block_of n (let_statement dm (object_pattern_at pm ps) (identifier x) before block_of bm bs before empty)) then done))

abbrev pub LawCatchPattern : Type 0
LawCatchPattern = (u : Supply) (x : Text) (l : Label) (ds body after : Trees) → CloseTrees (bad_with x) (CatchPatternRow x) body_needs body after →
    top_in after ≡ top_in body → using_in after ≡ using_in body → silent_names u (program l ds after) ≡ silent_names u (program l ds body) →
    bytes_eq (codes "Math") x ≡ false → is_own_cell x ≡ false → SupplySeen (apart_from x) u → is_declared (top_in body) x ≡ false →
    RunAlike u false (program l ds body) (program l ds after)

-- A LOOP'S HEAD OF OBJECT REST: `for (K P of e) { B }` becomes `for (J x of e) { K P = x; { B } }`, with J `let` or `const`, and so for `in`, where e holds no name of the
-- head and K isn't `using`

abbrev pub head_of : Text → Label → Tree → Tree
head_of kind m p = node VariableDeclaration (made (Some kind ∷ []) []) (many (node VariableDeclarator m (one p then missing then done) before empty) then done)

abbrev pub head_hidden : Text → List Text → Text → Bool
head_hidden x ns y = only x y || is_among ns y

abbrev pub head_names : Text → Label → Tree → List Text
head_names kind m p = names_of_all (lexical_names (head_of kind m p))

pub record HeadMoves (x kind : Text) (pm dm bm : Label) (ps bs : Trees) (e : Tree) : Type 0 where
  pub pattern : avoids (bad_with x) target_taken (object_pattern_at pm ps) ≡ true
  pub body : avoids (bad_with x) value_taken (block_of bm bs) ≡ true
  pub names : lexical_in (declare_statement kind dm (object_pattern_at pm ps) (identifier x) before block_of bm bs before empty) ≡ lexical_names (head_of kind dm (object_pattern_at pm ps))
  pub good : all_good (bad_with x) (head_names kind dm (object_pattern_at pm ps)) ≡ true
  pub not_using : is_word (codes "using") kind ≡ false
  pub program_names : are_program_names (head_names kind dm (object_pattern_at pm ps)) ≡ true
  pub math : is_among (head_names kind dm (object_pattern_at pm ps)) (codes "Math") ≡ false
  pub helpers : SupplySeen (any_cells (head_hidden x (head_names kind dm (object_pattern_at pm ps)))) by_global
  pub right : avoids (bad_anywhere (any_cells (head_hidden x (head_names kind dm (object_pattern_at pm ps))))) value_taken e ≡ true

pub data HeadRow (x : Text) : Take → Tree → Tree → Type 0 where
  of_row : {t : Take} {m pm dm n bm : Label} {kind : Text} {ps bs : Trees} {e : Tree} → HeadMoves x kind pm dm bm ps bs e →
      HeadRow x t (node ForOfStatement m (one (head_of kind dm (object_pattern_at pm ps)) then one e then one (block_of bm bs) then done))
      (node ForOfStatement m (one (head_of (codes "let") (made [] []) (identifier x)) then one e then one (block_of n (declare_statement kind dm (object_pattern_at pm ps) (identifier x) before block_of bm bs before empty)) then done))
  in_row : {t : Take} {m pm dm n bm : Label} {kind : Text} {ps bs : Trees} {e : Tree} → HeadMoves x kind pm dm bm ps bs e →
      HeadRow x t (node ForInStatement m (one (head_of kind dm (object_pattern_at pm ps)) then one e then one (block_of bm bs) then done))
      (node ForInStatement m (one (head_of (codes "let") (made [] []) (identifier x)) then one e then one (block_of n (declare_statement kind dm (object_pattern_at pm ps) (identifier x) before block_of bm bs before empty)) then done))
  of_const_row : {t : Take} {m pm dm n bm : Label} {kind : Text} {ps bs : Trees} {e : Tree} → HeadMoves x kind pm dm bm ps bs e →
      HeadRow x t (node ForOfStatement m (one (head_of kind dm (object_pattern_at pm ps)) then one e then one (block_of bm bs) then done))
      (node ForOfStatement m (one (head_of (codes "const") (made [] []) (identifier x)) then one e then one (block_of n (declare_statement kind dm (object_pattern_at pm ps) (identifier x) before block_of bm bs before empty)) then done))
  in_const_row : {t : Take} {m pm dm n bm : Label} {kind : Text} {ps bs : Trees} {e : Tree} → HeadMoves x kind pm dm bm ps bs e →
      HeadRow x t (node ForInStatement m (one (head_of kind dm (object_pattern_at pm ps)) then one e then one (block_of bm bs) then done))
      (node ForInStatement m (one (head_of (codes "const") (made [] []) (identifier x)) then one e then one (block_of n (declare_statement kind dm (object_pattern_at pm ps) (identifier x) before block_of bm bs before empty)) then done))

abbrev pub LawHead : Type 0
LawHead = (u : Supply) (x : Text) (l : Label) (ds body after : Trees) → CloseTrees (bad_with x) (HeadRow x) body_needs body after →
    top_in after ≡ top_in body → using_in after ≡ using_in body → silent_names u (program l ds after) ≡ silent_names u (program l ds body) →
    bytes_eq (codes "Math") x ≡ false → is_own_cell x ≡ false → SupplySeen (apart_from x) u → is_declared (top_in body) x ≡ false →
    RunAlike u false (program l ds body) (program l ds after)

-- OBJECT REST IN A DECLARATION: `K { PS, ...r } = s` becomes `K { PS } = s, r = babelHelpers.objectWithoutProperties(s, [texts])`, where no key of PS
-- is computed and nothing in PS writes s; and `K { ...r } = s` becomes `K r = babelHelpers.extends({}, (babelHelpers.objectDestructuringEmpty(s), s))`

-- the text of a key that isn't computed: of a name or a string itself, of a number its key
abbrev pub key_text : Tree → Text
key_text (node NumericLiteral l fs) = second l.texts
key_text (node BigIntLiteral l fs) = second l.texts
key_text (node k l fs) = first_text l.texts

abbrev pub is_key : AstType → Bool
is_key Identifier = true
is_key StringLiteral = true
is_key NumericLiteral = true
is_key BigIntLiteral = true
is_key _ = false

-- properties of a pattern whose keys aren't computed, with the texts of their keys
pub data StaticProperties : Trees → List Text → Type 0 where
  no_property : StaticProperties empty []
  one_property : {l : Label} {k e : Tree} {ps : Trees} {ts : List Text} → flag_at 1 l.flags ≡ false → is_key (kind_of k) ≡ true → StaticProperties ps ts →
      StaticProperties (node PatternProperty l (one k then one e then done) before ps) (key_text k ∷ ts)

abbrev pub strings : List Text → Fields
strings [] = done
strings (t ∷ ts) = one (node StringLiteral (made (Some t ∷ []) []) done) then strings ts

abbrev pub rest_call : Text → List Text → Tree
rest_call s ts = helper_call_of (codes "objectWithoutProperties") (made [] (false ∷ [])) (identifier s before node ArrayExpression (made [] []) (strings ts) before empty)

abbrev pub bare_rest_call : Text → Tree
bare_rest_call s = helper_call_of (codes "extends") (made [] (false ∷ []))
    (bare_object before node SequenceExpression (made [] []) (many (helper_call_of (codes "objectDestructuringEmpty") (made [] (false ∷ [])) (identifier s before empty) before identifier s before empty) then done) before empty)

-- declarators of which the first, if there is one, has a value
pub data Valued : Trees → Type 0 where
  none_valued : Valued empty
  first_valued : {l : Label} {p e : Tree} {ds : Trees} → Valued (node VariableDeclarator l (one p then one e then done) before ds)

abbrev pub declares_from : Label → Tree → Tree → Tree
declares_from d p e = node VariableDeclarator d (one p then one e then done)

abbrev pub declaration_of : Label → Trees → Tree
declaration_of m ds = node VariableDeclaration m (many ds then done)

-- at one of the declarators of a declaration, where a stand before it and c after it
pub data RestRow (s r : Text) : Take → Tree → Tree → Type 0 where
  rest_row : {t : Take} {m : Label} {ps : Trees} {ts : List Text} (d e l n q : Label) (a c : Trees) → Valued a → is_word (codes "using") (first_text m.texts) ≡ false → StaticProperties ps ts →
      avoids (bad_names none_hidden (only s)) target_taken (object_pattern_at n ps) ≡ true →
      RestRow s r t (declaration_of m (followed a (declares_from d (object_pattern_at l (followed ps (node RestElement q (one (identifier r) then done) before empty))) (identifier s) before c)))
      (declaration_of m (followed a (declares_from d (object_pattern_at n ps) (identifier s) before declares_from e (identifier r) (rest_call s ts) before c)))
  bare_row : {t : Take} {m : Label} (d e l q : Label) (a c : Trees) → Valued a → is_word (codes "using") (first_text m.texts) ≡ false →
      RestRow s r t (declaration_of m (followed a (declares_from d (object_pattern_at l (node RestElement q (one (identifier r) then done) before empty)) (identifier s) before c)))
      (declaration_of m (followed a (declares_from e (identifier r) (bare_rest_call s) before c)))

-- where both names are declared, n scopes deep at most
abbrev pub Rests : Text → Text → ℕ → List Declared → Take → Tree → Tree → Type 0
Rests s r zero ds t a b = (is_declared ds s ≡ true) × (is_declared ds r ≡ true) × RestRow s r t a b
Rests s r (suc n) ds t a b = InScope (bad_names none_hidden (only (codes "babelHelpers"))) (Rests s r n) ds t a b

-- at whatever places of whatever statements, under External helpers, where the top or scopes around declare s and r, and no scope declares `babelHelpers`
abbrev pub LawRest : Type 0
LawRest = (s r : Text) (n : ℕ) (l : Label) (ds body after : Trees) → CloseTrees (bad_names none_hidden (only (codes "babelHelpers"))) (Rests s r n (top_in body)) body_needs body after →
    top_in after ≡ top_in body → using_in after ≡ using_in body → silent_names by_global (program l ds after) ≡ silent_names by_global (program l ds body) → is_declared (top_in body) (codes "babelHelpers") ≡ false →
    is_silent (silent_names by_global (program l ds body)) (codes "babelHelpers") ≡ false → is_own_cell s ≡ false → is_silent (silent_names by_global (program l ds body)) s ≡ false → is_silent (silent_names by_global (program l ds body)) r ≡ false →
    RunAlike by_global false (program l ds body) (program l ds after)

-- NAMES THAT ARE SET LATER: at the top, `let x = e` becomes `var x = e`, as at a module's top with `using`. The cells of x differ until the source sets
-- it, and a source that reads or writes it before is outside.

abbrev pub later : List Text → Frame
later xs = record { hidden = none_hidden; fits = λ c x d. Unit {0}; frozen = λ x. false; keeps = λ x d. Unit {0}; faults_outside = true; loose = λ x. is_among xs x; steady = λ c e h x k d g. g }

pub data NamedDeclarators : Trees → Type 0 where
  no_declarator : NamedDeclarators empty
  named_declarator : {m l : Label} {e : Tree} {ds : Trees} → avoids nothing_bad value_taken e ≡ true → NamedDeclarators ds → NamedDeclarators (declarator_at m l e before ds)

pub data LetRow : Take → Tree → Tree → Type 0 where
  let_row : {t : Take} {m n : Label} {ds : Trees} → m.texts ≡ Some (codes "let") ∷ [] → n.texts ≡ Some (codes "var") ∷ [] → NamedDeclarators ds →
      LetRow t (node VariableDeclaration m (many ds then done)) (node VariableDeclaration n (many ds then done))

-- the same declared names, but that some of these are by `var`
pub data ByVar (xs : List Text) : List Declared → List Declared → Type 0 where
  none_declared : ByVar xs [] []
  same_declared : {d : Declared} {ds es : List Declared} → ByVar xs ds es → ByVar xs (d ∷ ds) (d ∷ es)
  later_declared : {x : Text} {ds es : List Declared} → is_among xs x ≡ true → ByVar xs ds es → ByVar xs (record { name = x; kind = codes "let" } ∷ ds) (record { name = x; kind = codes "var" } ∷ es)

abbrev pub LawLater : Type 0
LawLater = (xs : List Text) (l : Label) (ds body after : Trees) → CloseTrees nothing_bad LetRow body_needs body after → ByVar xs (top_in body) (top_in after) → using_in after ≡ using_in body →
    are_program_names xs ≡ true → RunAlike no_helpers false (program l ds body) (program l ds after)

-- TEMPORARIES BY `var` IN ANY LISTS: `var` statements without values do nothing but declare, wherever they stand. Lists of statements, of the program, of
-- blocks and of cases, may have them, have them no longer or have others, where the top then binds as before but for names xs, which the source doesn't
-- declare and which stand nowhere else but as keys and labels, and stand for no helper. So temporaries may be declared, `var a;` may become `var a, b;`, and a `var a;` may move to another list.

-- no place but those of such statements differs
abbrev pub no_row : Take → Tree → Tree → Type 0
no_row t a b = ⊥

abbrev pub LawVars : Type 0
LawVars = (u : Supply) (xs : List Text) (l : Label) (ds body after : Trees) → BesideList (bad_names (among_names xs) none_hidden) (λ es. no_row) (top_in body) true body after →
    ((y : Text) → among_names xs y ≡ false → kind_in (top_in after) y ≡ kind_in (top_in body) y) → ((y : Text) → is_declared (top_in body) y ≡ true → among_names xs y ≡ false) →
    silent_names u (program l ds after) ≡ silent_names u (program l ds body) → ((y : Text) → among_names xs y ≡ true → is_silent (silent_names u (program l ds body)) y ≡ false) →
    among_names xs (codes "Math") ≡ false → are_program_names xs ≡ true → SupplySeen (any_cells (among_names xs)) u →
    RunAlike u false (program l ds body) (program l ds after)

-- So temporaries that stand nowhere in a program, nor are declared by it, may be put into its lists, at any depth.
abbrev pub LawTemporaries : Type 0
LawTemporaries = (u : Supply) (xs : List Text) (l : Label) (ds body after : Trees) → PutList (among_names xs) body after → avoids_trees (bad_names (among_names xs) none_hidden) body_needs body ≡ true →
    ((y : Text) → is_declared (top_in body) y ≡ true → among_names xs y ≡ false) → silent_names u (program l ds after) ≡ silent_names u (program l ds body) → ((y : Text) → among_names xs y ≡ true → is_silent (silent_names u (program l ds body)) y ≡ false) →
    among_names xs (codes "Math") ≡ false → are_program_names xs ≡ true → SupplySeen (any_cells (among_names xs)) u →
    RunAlike u false (program l ds body) (program l ds after)

-- EXPORTS OF NAMESPACES: in the program's list `export * as n from "m";` becomes `import * as x from "m"; export { x as n };`, for one or more such
-- exports, with names xs that stand nowhere. Both ask for the module's names at the same place among the imports. What a module exports no run tells.

abbrev pub namespace_import : Label → Label → Text → Tree → Trees → Tree
namespace_import m k x s attributes = node ImportDeclaration m (many (node ImportNamespaceSpecifier k (one (identifier x) then done) before empty) then one s then many attributes then done)

abbrev pub export_of : Label → Label → Text → Tree → Tree
export_of o k x e = node ExportNamedDeclaration o (missing then many (node ExportSpecifier k (one (identifier x) then one e then done) before empty) then missing then many empty then done)

pub data SplitExports (bad : Level → Text → Bool) (xs : List Text) : Trees → Trees → Type 0 where
  none_split : SplitExports bad xs empty empty
  as_it_is : {a : Tree} {ts us : Trees} → avoids bad body_needs a ≡ true → SplitExports bad xs ts us → SplitExports bad xs (a before ts) (a before us)
  one_split : {l m k o j : Label} {x : Text} {e s : Tree} {attributes ts us : Trees} → among_names xs x ≡ true → avoids bad label_taken s ≡ true → SplitExports bad xs ts us →
      SplitExports bad xs (node ExportAllDeclaration l (one e then one s then many attributes then done) before ts) (namespace_import m k x s attributes before export_of o j x e before us)

abbrev pub LawNamespaceExports : Type 0
LawNamespaceExports = (u : Supply) (xs : List Text) (l : Label) (ds body after : Trees) → SplitExports (bad_names (among_names xs) none_hidden) xs body after →
    ((y : Text) → among_names xs y ≡ false → kind_in (top_in after) y ≡ kind_in (top_in body) y) → ((y : Text) → is_declared (top_in body) y ≡ true → among_names xs y ≡ false) →
    silent_names u (program l ds after) ≡ silent_names u (program l ds body) → ((y : Text) → among_names xs y ≡ true → is_silent (silent_names u (program l ds body)) y ≡ false) →
    among_names xs (codes "Math") ≡ false → are_program_names xs ≡ true → SupplySeen (any_cells (among_names xs)) u →
    RunAlike u false (program l ds body) (program l ds after)

-- KERNELS, on computations

-- Definitions may be collected in parts.
abbrev pub LawCollected : Type 0
LawCollected = (ms ns : List (M Value)) (s : State) → collected (ms ++ ns) s ≡ (collected ms >>= λ us. collected ns >>= λ vs. return (joined us vs)) s

-- what properties do to an object, with the keys that they exclude
abbrev pub group_keys : Value → List (Value → M Value) → M Values
group_keys v [] = return none
group_keys v (f ∷ fs) = f v >>= λ k. group_keys v fs >>= λ ks. return (k and ks)

abbrev pub all_keyed : List (Value → M Value) → List Member
all_keyed [] = []
all_keyed (f ∷ fs) = keyed f ∷ all_keyed fs

-- An object pattern may be cut into groups: what stands after a group takes the keys of it.
abbrev pub LawGroups : Type 0
LawGroups = (v : Value) (ks : Values) (fs : List (Value → M Value)) (ms : List Member) (s : State) → members_of v ks (all_keyed fs ++ ms) s ≡ (group_keys v fs >>= λ us. members_of v (joined ks us) ms) s

-- a property of an object pattern whose key isn't computed, or is a literal: its key, the text that it excludes, and its target
pub record StaticProperty : Type 0 where
  pub key : M Value
  pub excluded : Text
  pub target : M Putter

abbrev pub static_properties : List StaticProperty → List (Value → M Value)
static_properties [] = []
static_properties (p ∷ ps) = property_of p.key (Some p.excluded) p.target ∷ static_properties ps

abbrev pub static_keys : List StaticProperty → Values
static_keys [] = none
static_keys (p ∷ ps) = text p.excluded and static_keys ps

-- Such properties may be put first, as a pattern of their own; what stands after excludes their texts, as `objectWithoutProperties` does with a list
-- of these.
abbrev pub LawParted : Type 0
LawParted = (v : Value) (ks : Values) (ps : List StaticProperty) (ms : List Member) (s : State) →
    members_of v ks (all_keyed (static_properties ps) ++ ms) s ≡ (members_of v ks (all_keyed (static_properties ps)) >>= λ _. members_of v (joined ks (static_keys ps)) ms) s

-- THE CLASS OF PROGRAMS

-- A program whose nodes are core is without functions, arrows and classes.
abbrev pub LawCoreClass : Type 0
LawCoreClass = (t : Tree) → is_core t ≡ true → is_without_functions t ≡ true

-- Where neither `this` nor a move has `document.all`, the run is the same whether it counts as null for `==` or not.
abbrev pub LawWithoutAll : Type 0
LawWithoutAll = (u : Supply) (n : ℕ) (p : Tree) (this : Value) (moves : List Move) → IsAssumed true this moves → run u n p this moves ≡ run_where false u n p this moves

-- In a program that uses no helper itself no name stands for one.
abbrev pub LawNoHelper : Type 0
LawNoHelper = (u : Supply) (p : Tree) → uses_no_helper u p ≡ true → helper_names u p ≡ []

-- PROGRAMS THAT MEAN SOMETHING: no run of theirs ends without meaning, that is by a node without meaning, a mark outside a chain, or a `break` or
-- `continue` that ends nothing, where no name stands for a helper.
abbrev pub LawMeant : Type 0
LawMeant = (u : Supply) (n : ℕ) (p : Tree) → is_meant u p ≡ true → helper_names u p ≡ [] → (this : Value) (moves : List Move) → (outcome (run u n p this moves) ≡ meaningless) → ⊥

-- A valid program of the class means something, where it uses no helper itself: its form and the static rules say all that `is_meant` asks.
abbrev pub LawValidIsMeant : Type 0
LawValidIsMeant = (u : Supply) (p : Tree) → IsStatementProgram p → uses_no_helper u p ≡ true → is_meant u p ≡ true

-- So no run of it ends without meaning.
abbrev pub LawValidMeaning : Type 0
LawValidMeaning = (u : Supply) (n : ℕ) (p : Tree) → IsStatementProgram p → uses_no_helper u p ≡ true → (this : Value) (moves : List Move) → (outcome (run u n p this moves) ≡ meaningless) → ⊥
