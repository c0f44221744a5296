-- What a source becomes.
use Rattle.std.specs.Prelude.{◌≡◌, ◌≤◌, ◌+◌, ◌*◌, ◌++◌, ◌&&◌, Bool, List, [], None, codes, false, true, is_some, string_bytes, if◌then◌else◌, ℕ}
use Rattle.es_tree.specs.Constructs.{has_enabled_construct, is_object_rest}
use Rattle.es_tree.specs.Core.{IsCoreProgram}
use Rattle.es_tree.specs.Options.{is_external}
use Rattle.es_tree.specs.Tree.{Tree, tree_size}
use Rattle.es_tree.specs.Walks.{any_node, all_nodes}
use Rattle.es_tree.specs.Words.{Text}
use Rattle.es_tree.specs.declared.options.EnvOptions.{EnvOptions}
use Rattle.es_json.specs.Canonical.{canonical}
use Rattle.es_export_splits.specs.Laws.{IsSplit}
use Rattle.es_helper_calls.specs.Importing.{imports_helpers, is_module}
use Rattle.es_helper_imports.specs.Imported.{ImportsTo}
use Rattle.es_helper_imports.specs.Laws.{IsImported}
use Rattle.es_import_runs.specs.Laws.{RunsImporting, supply_in}
use Rattle.es_using_modules.specs.Laws.{IsTopped}
use Rattle.es_lowered.specs.Lowered.{IsLowered}
use Rattle.es_lowered.specs.Moved.{IsMoved}
use Rattle.es_lowered.specs.Set.{IsSet}
use Rattle.es_lowered.specs.Used.{IsUsed}
use Rattle.es_excluded_keys.specs.ExcludedKeys.{names_itself, shares_keys}
use Rattle.es_excluded_keys.specs.Laws.{IsShared}
use Rattle.es_reached.specs.Reached.{IsCoreResult}
use Rattle.es_resolution.specs.Laws.{source as with_symbols}
use Rattle.es_rest_results.specs.Laws.{RunsTaken, TakesRestsAlone}
use Rattle.es_statement_runs.specs.Helpers.Supply.{by_global}
use Rattle.es_statement_runs.specs.Programs.{IsStatementProgram, uses_no_helper}
use Rattle.es_statement_runs.specs.Runs.{RunAlike}
use Rattle.es_statement_steps.specs.Laws.{RunsAsStatements, assumes_no_all, supply_there}
use Rattle.es_steps.specs.CoreBridge.{first_whole}
use Rattle.es_top_imports.specs.Laws.{list_place}
use Rattle.lower_driver.specs.Imports.{Imports}
use Rattle.lower_driver.specs.Moves.{Moves}
use Rattle.lower_driver.specs.Sets.{Sets, sets_this}
use Rattle.lower_driver.specs.SharesKeys.{SharesKeys}
use Rattle.lower_driver.specs.Splits.{Splits, splits_exports}
use Rattle.lower_driver.specs.Tops.{Tops, lowers_top}
use Rattle.lower_driver.specs.Uses.{Heads, Uses, lowers_using, using_there}
use Rattle.es_moved_runs.specs.Laws.{moves_so}
use Rattle.es_rest_results.specs.Others.{others_there}

-- a source as it is written, with no name made
pub record IsAsBefore (source written : Tree) (names : List Text) : Type 0 where
  pub same : canonical written ≡ canonical source
  pub no_names : names ≡ []

-- whether an object rest is taken
abbrev pub rests_there : EnvOptions → Tree → Bool
rests_there o p = is_some o.es2018.object_rest_spread && any_node is_object_rest p

-- A program of statements, without functions, arrows and classes, that uses no helper itself, and in which object rests that are declared are lowered, and
-- nothing else: nothing else that is asked for stands in what it is once its patterns moved. Of the heads of its loops patterns move where the loop's body
-- is a block and its words are `let` and `const` (`moves_so`), and helpers are properties of `babelHelpers`.
pub record LowersRestsAlone (o : EnvOptions) (p moved : Tree) : Type 0 where
  pub class : IsStatementProgram p
  pub helpers : uses_no_helper by_global p ≡ true
  pub no_using : using_there o p ≡ false
  pub moves : all_nodes moves_so p ≡ true
  pub others : others_there o moved ≡ false
  pub external : is_external o.helper_loader.mode ≡ true

-- WHERE THEY STAND its constructs are lowered: what a program becomes in which no pattern moves any more.
pub record LowersInPlace (o : EnvOptions) (source written : Tree) (names : List Text) : Type 0 where
  -- By steps of the rules that the options ask for, with nothing pending at the end: each name keeps its binding, what is written
  -- has form and keeps all static rules, and it asks for the same modules and exports the same names. An object rest is taken by rows, and so by
  -- steps that take one name at most.
  pub result : IsLowered o source written names
  -- and no construct is left that the options ask to lower
  pub none : has_enabled_construct o written ≡ false
  -- A core program and what it becomes run alike, where the options assume that no value is `document.all` in every run in which none is.
  pub core : IsCoreProgram source → IsCoreResult o source written names
  -- A program of statements, without functions, arrows and classes, and what it becomes run alike, too, where no object rest is taken, of
  -- which no law is known: of whatever operands its expressions are, where none of its runs is outside; where chains are lowered and the
  -- options assume that no value is `document.all`, in every run in which none is.
  pub statements : rests_there o source ≡ false → RunsAsStatements o source → RunAlike (supply_there o source) (assumes_no_all o source) source written
  -- And so do a program of statements and what becomes of it when its helper of object spread is imported, or required by a script at whose top `require`
  -- is bound nowhere, whatever is lowered beside it, but exponentiation in a script.
  pub importing : rests_there o source ≡ false → IsStatementProgram source → (m : Text) (imported : Tree) (last : List Text) → RunsImporting o m source → (is_module written ≡ false → (list_place (with_symbols written)).scope (codes "require") ≡ None) →
      ImportsTo (first_whole written).in_use m written imported last → RunAlike (supply_in m source) (assumes_no_all o source) source imported
  -- And so do a program in which object rests that are declared are lowered, and nothing else, and what becomes of it, of which is known besides what
  -- the later stages count on.
  pub rests : TakesRestsAlone o source → RunsTaken source written
  -- It has at most so many nodes for each of the source's: an object rest makes a text for each property before it, and the walk that takes rests is the
  -- last of three.
  pub size : tree_size written ≤ (if rests_there o source then 372 else 64) * tree_size source

-- The most nodes that are written for one of the source's, where `using` stands that is asked for, where an object rest does, where an export of one
-- is split, and where lists of excluded keys become constants: moving `using` out of heads, lowering it and moving patterns make at most ten of one,
-- moving patterns alone three and a half, and four where exports were split; and those constants make half as many more.
abbrev pub most_for_each : Bool → Bool → Bool → Bool → ℕ
most_for_each true rests splits true = 5760
most_for_each true rests splits false = 3840
most_for_each false true true true = 2304
most_for_each false true true false = 1536
most_for_each false true false true = 2016
most_for_each false true false false = 1344
most_for_each false false splits shares = 64

-- What a source of any kind becomes under these options: this program, with these fresh names.
pub record Lowers (o : EnvOptions) (source written : Tree) (names : List Text) : Type 0 where
  -- First exports of declarations with an object rest are split, by steps of a rule: in what the source becomes each name keeps its binding, it has form,
  -- keeps all static rules, asks for the same modules and exports the same names.
  pub split : Tree
  pub splits : Splits (splits_exports o source) source split
  pub is_split : IsSplit (splits_exports o source) source split
  -- Then `using` moves out of heads of loops, by steps of its rules, of which the same holds,
  pub headed : Tree
  pub head_names : List Text
  pub heads : Heads (lowers_using o split) split headed head_names
  pub is_headed : IsUsed (lowers_using o split) split headed head_names
  -- is lowered, by steps of its rules, of which the same holds,
  pub used : Tree
  pub context_names : List Text
  pub uses : Uses (lowers_using o split) headed used context_names
  pub is_used : IsUsed (lowers_using o split) headed used context_names
  -- and so at the top of a module, by a step of a rule, of which the same holds.
  pub topped : Tree
  pub top_names : List Text
  pub tops : Tops (lowers_top o split used) used topped top_names
  pub is_topped : IsTopped (lowers_top o split used) used topped top_names
  -- Then patterns with a rest move to declarations of their own, by steps of the rows that do so, of which the same holds.
  pub moved : Tree
  pub first_names : List Text
  pub moves : Moves (is_some o.es2018.object_rest_spread) topped moved first_names
  pub is_moved : IsMoved (is_some o.es2018.object_rest_spread) topped moved first_names
  -- Then constructs are lowered where they stand,
  pub lowered : Tree
  pub later_names : List Text
  pub in_place : LowersInPlace o moved lowered later_names
  -- then, where an object rest was lowered of a source in which no identifier is `babelHelpers`, names of constants stand for the lists of the keys that
  -- rests leave out: it stays a program that breaks no static rule, each name keeps its binding, and it asks for the same modules and exports the same
  -- names.
  pub shared : Tree
  pub key_names : List Text
  pub shares : SharesKeys (shares_keys o (names_itself split) moved) lowered shared key_names
  pub is_shared : shares_keys o (names_itself split) moved ≡ true → IsShared lowered shared key_names
  -- Then, where helpers are not properties of `babelHelpers`, the program imports those that it calls: it stays a program that breaks no
  -- static rule, each name keeps its binding, and it asks for the same modules but for those of the helpers, and exports the same names.
  pub imported : Tree
  pub last_names : List Text
  pub imports : Imports (imports_helpers o (lowers_using o split) moved) (string_bytes o.helper_loader.module_name) shared imported last_names
  pub is_imported : imports_helpers o (lowers_using o split) moved ≡ true → IsImported (string_bytes o.helper_loader.module_name) shared imported last_names
  -- And last the constructors of classes that extend others set their name for `this` behind `super(..)`, by steps of a row that does so: each name
  -- keeps its binding, what is written has form, keeps all static rules, asks for the same modules and exports the same names.
  pub sets : Sets (sets_this o source) later_names imported written
  pub is_set : IsSet (sets_this o source) imported written
  pub all_names : names ≡ head_names ++ context_names ++ top_names ++ first_names ++ later_names ++ key_names ++ last_names
  -- no construct is left that the options ask to lower
  pub none : has_enabled_construct o written ≡ false
  -- In a core program no `using` stands, no pattern moves, no list is shared, no helper is imported and no constructor stands, nor in one of statements
  -- where neither `using` nor an object rest or spread is taken: the source itself and what is written run alike (`LowersInPlace`).
  pub core : IsCoreProgram source → IsCoreResult o source written names
  pub statements : using_there o source ≡ false → rests_there o source ≡ false → imports_helpers o false source ≡ false → RunsAsStatements o source → RunAlike (supply_there o source) (assumes_no_all o source) source written
  -- a program that imports the helper of object spread, or requires it, runs alike under what its import or call of `require` means
  pub statements_importing : using_there o source ≡ false → rests_there o source ≡ false → imports_helpers o false source ≡ true → IsStatementProgram source → RunsImporting o (string_bytes o.helper_loader.module_name) source →
      RunAlike (supply_in (string_bytes o.helper_loader.module_name) source) (assumes_no_all o source) source written
  -- Where of what the options ask for object rests that are declared alone stand in a program of statements, at its top, in blocks, `catch` clauses and
  -- heads of loops, exported or not, the source and what is written run alike, with the helpers as properties of `babelHelpers`.
  pub rests : LowersRestsAlone o source moved → RunAlike by_global false source written
  -- where the options ask for no construct of the source, nothing is changed
  pub unchanged : has_enabled_construct o source ≡ false → IsAsBefore source written names
  -- the nodes of the source and of what is written, with those of the imports: where a name is set behind `super(..)`, three times as many
  pub size : tree_size written ≤ (if sets_this o source then 3 else 1) * (most_for_each (using_there o source) (rests_there o source) (splits_exports o source) (shares_keys o (names_itself split) moved) * tree_size source + (if imports_helpers o (lowers_using o split) moved then 36 else 0))
