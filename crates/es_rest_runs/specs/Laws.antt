-- Laws of programs whose object patterns with rests are lowered.
use Rattle.std.specs.Prelude.{◌≡◌, ◌&&◌, ◌||◌, ℕ, Bool, true, false, not, List, [], Some, codes, is_some}
use Rattle.es_runs.specs.Alike.{bad_names}
use Rattle.es_runs.specs.Runs.{is_declared, none_hidden, only}
use Rattle.es_semantic.specs.RolesOf.{reads}
use Rattle.es_resolution.specs.Declarations.{Bound, symbol_of}
use Rattle.es_resolution.specs.Resolved.{bound_by}
use Rattle.es_resolution.specs.Written.{is_written}
use Rattle.es_steps.specs.Laws.{IsWellBound, nothing_beside}
use Rattle.es_steps.specs.Open.{Open, finished, opened}
use Rattle.es_steps.specs.Steps.{Ledger, Site, Spot, Step, Steps, Whole, the_program}
use Rattle.es_tree.specs.Names.{first_text, flag_at}
use Rattle.es_tree.specs.Tree.{Tree, node, Label, Fields, done, ◌then◌, one, many, empty, ◌before◌}
use Rattle.es_tree.specs.Walks.{all_nodes}
use Rattle.es_tree.specs.declared.ast_type.AstType.{AstType}
use Rattle.es_tree.specs.declared.ast_type.AstType.TheVariants.{CallExpression, Identifier, ObjectPattern, VariableDeclarator}
use Rattle.es_tree.specs.PropertyKeys.{is_literal_key, key_text}
use Rattle.es_rest_rows.specs.RestRows.{RestRow}
use Rattle.es_rest_rows.specs.RestRows.RowsWhere.{nested, stores, takes}
use Rattle.es_statement_runs.specs.Helpers.{Supply, is_helper, silent_names}
use Rattle.es_statement_runs.specs.Helpers.Supply.{by_global}
use Rattle.es_statement_runs.specs.Names.{declared_at_top}
use Rattle.es_statement_runs.specs.Places.{avoids, target_taken, value_taken}
use Rattle.es_statement_runs.specs.Programs.{IsStatementProgram, uses_no_helper}
use Rattle.es_statement_runs.specs.Runs.{RunAlike}
use Rattle.es_split_runs.specs.Laws.{LeavesOut}

-- A PATTERN'S VALUE IS STORED (ECMA-262, 14.3.3 and 8.6.2): `P = e` becomes `x = e, P = x`
abbrev pub is_stored : {n : Site} {s s' : Ledger} {x y : Spot} → RestRow n s x s' y → Bool
is_stored (stores m l a c p e x outside word plain binds unkept silent fresh) = true
is_stored _ = false

pub record StoresRow (n : Site) (s : Ledger) (x : Spot) (s' : Ledger) (y : Spot) : Type 0 where
  pub row : RestRow n s x s' y
  pub stored : is_stored row ≡ true

-- A valid program of the class whose names are bound and in use runs as what a step of this row makes of it, at whatever declaration, with whatever
-- helpers. No name of either stands for a constant list of keys: a source has no such name that uses no helper itself (`uses_no_helper`), and no row of
-- object rests makes one, since each lists its keys in the call.
abbrev pub LawStores : Type 0
LawStores = (u : Supply) (w : Whole) (s : Ledger) (p : Tree) (q : Open) → IsStatementProgram p → IsWellBound w p → Step StoresRow the_program (nothing_beside w) (opened p) s q → silent_names u p ≡ [] → silent_names u (finished q) ≡ [] →
    RunAlike u false p (finished q)

-- STEPS IN A ROW, where the helpers are those of `babelHelpers`, of a program in which no call leaves out the keys that a name holds. A source that uses no
-- helper itself is such a program, and no row makes such a call: the keys stand in it.

abbrev pub is_a_name : Tree → Bool
is_a_name (node Identifier l fs) = true
is_a_name t = false

abbrev pub excludes_no_name : AstType → Label → Fields → Bool
excludes_no_name CallExpression l (one f then (many (e before (k before empty)) then fs)) = not (is_helper by_global [] (codes "objectWithoutProperties") f && is_a_name k)
excludes_no_name k l fs = true

abbrev pub LawNoNameExcluded : Type 0
LawNoNameExcluded = (p : Tree) → IsStatementProgram p → uses_no_helper by_global p ≡ true → all_nodes excludes_no_name p ≡ true

-- what a program becomes: it runs as the program does, and is again valid, of the class and such a program, with its names bound and in use
pub record RunsOn (p : Tree) (w : Whole) (q : Tree) : Type 0 where
  pub runs : RunAlike by_global false p q
  pub class : IsStatementProgram q
  pub bound : IsWellBound w q
  pub no_name : all_nodes excludes_no_name q ≡ true

-- So does one to which whatever steps of the row lead, at whatever declarations and in whatever order.
abbrev pub LawStoresInRow : Type 0
LawStoresInRow = (w w' : Whole) (p : Tree) (q : Open) → IsStatementProgram p → IsWellBound w p → all_nodes excludes_no_name p ≡ true → Steps (Step StoresRow the_program) (nothing_beside w) (opened p) (nothing_beside w') q → RunsOn p w' (finished q)

-- KEYS: a computed literal, or a template without expressions, leaves out the text that stands for it in the call of the helper.
abbrev pub LawLiteralKeys : Type 0
LawLiteralKeys = (u : Supply) (l : Label) (k : Tree) → flag_at 1 l.flags ≡ true → is_literal_key k ≡ true → LeavesOut u (Some (key_text k)) l k

-- A REST IS TAKEN: `{ A.., ...r } = s` becomes the groups of A, `x = k` for each key that is read, and `r = babelHelpers.objectWithoutProperties(s, [keys])`,
-- and `{ ...r } = s` becomes `r = babelHelpers.extends({}, (babelHelpers.objectDestructuringEmpty(s), s))`
abbrev pub is_taken : {n : Site} {s s' : Ledger} {x y : Spot} → RestRow n s x s' y → Bool
is_taken (takes m l lp lr ls a ps c t xs outside word plain name binds kept keys unbound used) = true
is_taken _ = false

pub record TakesRow (n : Site) (s : Ledger) (x : Spot) (s' : Ledger) (y : Spot) : Type 0 where
  pub row : RestRow n s x s' y
  pub taken : is_taken row ≡ true

-- THE SOURCE s IS READ AGAIN, so nothing between may write it. It is a name of the source program that nothing writes, or a made name: a declarator's
-- object pattern whose value is a made name neither binds nor writes it, and the name is bound.
abbrev pub keeps_made : List Bound → AstType → Label → Fields → Bool
keeps_made bs VariableDeclarator l (one (node ObjectPattern lp ps) then (one (node Identifier ls done) then done)) =
    not (bound_by bs (first_text ls.texts)) || (is_some (symbol_of ls) && avoids (bad_names none_hidden (only (first_text ls.texts))) target_taken (node ObjectPattern lp ps))
keeps_made bs k l fs = true

pub record KeepsSources (w : Whole) (p : Tree) : Type 0 where
  pub steady : (m : ℕ) → w.steady m ≡ true → is_written m reads p ≡ false
  pub made : all_nodes (keeps_made w.made) p ≡ true

-- no scope declares `babelHelpers`, and nothing writes it
pub record LeavesHelpers (p : Tree) : Type 0 where
  pub undeclared : is_declared (declared_at_top p) (codes "babelHelpers") ≡ false
  pub unwritten : avoids (bad_names none_hidden (only (codes "babelHelpers"))) value_taken p ≡ true

-- A valid program of the class whose names are bound and in use, and which keeps sources and helpers so, runs as what a step of this row makes of it, at
-- whatever declaration.
abbrev pub LawTakes : Type 0
LawTakes = (w : Whole) (s : Ledger) (p : Tree) (q : Open) → IsStatementProgram p → IsWellBound w p → KeepsSources w p → LeavesHelpers p → Step TakesRow the_program (nothing_beside w) (opened p) s q →
    silent_names by_global p ≡ [] → silent_names by_global (finished q) ≡ [] → RunAlike by_global false p (finished q)

-- A PATTERN IN A PROPERTY: `{ A.., k: P, B.. } = s` becomes `{ A.., k: x } = s, P = x, { B.. } = s`
abbrev pub is_nested : {n : Site} {s s' : Ledger} {x y : Spot} → RestRow n s x s' y → Bool
is_nested (nested m l lp lq ls a ps rs c k p v u x outside word plain bears pattern puts binds kept fresh) = true
is_nested _ = false

pub record NestsRow (n : Site) (s : Ledger) (x : Spot) (s' : Ledger) (y : Spot) : Type 0 where
  pub row : RestRow n s x s' y
  pub nests : is_nested row ≡ true

-- So it is of a step of this row, with whatever helpers.
abbrev pub LawNests : Type 0
LawNests = (u : Supply) (w : Whole) (s : Ledger) (p : Tree) (q : Open) → IsStatementProgram p → IsWellBound w p → KeepsSources w p → Step NestsRow the_program (nothing_beside w) (opened p) s q → silent_names u p ≡ [] → silent_names u (finished q) ≡ [] →
    RunAlike u false p (finished q)
