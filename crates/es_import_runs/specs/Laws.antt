-- The law of programs that get their helpers from modules: they run, as helpers are imported or required, as the program runs whose helpers are members of
-- `babelHelpers`.
use Rattle.std.specs.Prelude.{◌≡◌, ℕ, List, [], ◌∷◌, Bool, None, true, false, not, bytes_eq, codes, is_some}
use Rattle.std.specs.List.{list_all}
use Rattle.es_tree.specs.Bare.{bare}
use Rattle.es_tree.specs.Fresh.{is_among}
use Rattle.es_tree.specs.HasForm.{has_form}
use Rattle.es_tree.specs.Names.{first_text, names_of}
use Rattle.es_tree.specs.Tree.{Fields, Label, Tree, Trees}
use Rattle.es_tree.specs.Walks.{all_nodes}
use Rattle.es_tree.specs.Words.{Text}
use Rattle.es_tree.specs.declared.ast_type.AstType.{AstType}
use Rattle.es_tree.specs.declared.ast_type.AstType.TheVariants.{BigIntLiteral, NumericLiteral, StringLiteral}
use Rattle.es_tree.specs.declared.helper.Helper.{Helper}
use Rattle.es_tree.specs.declared.helper.Helper.TheVariants.{ObjectSpread2}
use Rattle.es_tree.specs.declared.options.EnvOptions.{EnvOptions}
use Rattle.es_tree.specs.declared.options.HelperLoaderMode.TheVariants.{Runtime}
use Rattle.es_tree.specs.declared.table.Sort.TheVariants.{Program as s-Program}
use Rattle.es_resolution.specs.Declarations.{Bound}
use Rattle.es_resolution.specs.Laws.{source}
use Rattle.es_runs.specs.Core.{second}
use Rattle.es_runs.specs.Machine.{Move, Value}
use Rattle.es_statement_runs.specs.HelperMembers.{no_helper_member}
use Rattle.es_runs.specs.Runs.{is_declared, only, program}
use Rattle.es_runs.specs.Alike.{bad_names, the_value}
use Rattle.es_steps.specs.CoreBridge.{Reached, first_whole}
use Rattle.es_steps.specs.Nodes.{identifier}
use Rattle.es_module_names.specs.Modules.{requests_of}
use Rattle.es_reached.specs.Reached.{IsResult}
use Rattle.es_statement_runs.specs.Helpers.{Supply, helper_in, helper_names, silent_names}
use Rattle.es_statement_runs.specs.Helpers.Supply.{by_global, by_import}
use Rattle.es_statement_runs.specs.Names.{declared_at_top, top_in}
use Rattle.es_statement_runs.specs.Places.{HelpersSeen, avoids_trees, take}
use Rattle.es_statement_runs.specs.Programs.{IsStatementProgram, supply_by}
use Rattle.es_statement_runs.specs.Laws.{apart_from}
use Rattle.es_statement_runs.specs.Runs.{RunAlike, SameRun, outcome, run}
use Rattle.es_statement_runs.specs.Runs.Outcome.{outside}
use Rattle.es_statement_runs.specs.Scopes.{is_own_cell}
use Rattle.es_helper_calls.specs.HelperCalls.{bound_of, calling, helpers_in, is_helper}
use Rattle.es_helper_imports.specs.Imported.{ImportsTo, imported_as}
use Rattle.es_helper_calls.specs.Importing.{is_module}
use Rattle.es_top_imports.specs.Laws.{list_place}
use Rattle.es_statement_steps.specs.Laws.{AssignsNoRest, TagsAreNoChains, assumes_no_all, powers_there}
use Rattle.es_statement_steps.specs.Orders.{in_order}

-- Under one supply and another: the same outcome, the same questions, and the same cells of the names that the source declares, unless its run is outside.
abbrev pub RunUnder : Supply → Supply → Tree → Tree → Type 0
RunUnder u v p q = (n : ℕ) (this : Value) (moves : List Move) → (outcome (run u n p this moves) ≡ outside → ⊥) → SameRun (is_declared (declared_at_top p)) (run u n p this moves) (run v n q this moves)

-- how a program gets helpers from modules: a module imports them, and a script requires them
abbrev pub supply_in : Text → Tree → Supply
supply_in m p = supply_by Runtime m (is_module p)

-- no literal of a tree has the text of a helper's module
abbrev pub no_helper_text : Text → AstType → Label → Fields → Bool
no_helper_text m StringLiteral l fs = not (is_some (helper_in m (first_text l.texts)))
no_helper_text m NumericLiteral l fs = not (is_some (helper_in m (second l.texts)))
no_helper_text m BigIntLiteral l fs = not (is_some (helper_in m (second l.texts)))
no_helper_text m k l fs = true

-- A program gets no helper from a module itself: no name of a module stands for one, and no literal of a script could name one to `require`.
abbrev pub GetsNone : Bool → Text → Tree → Type 0
GetsNone true m p = helper_names (by_import m) p ≡ []
GetsNone false m p = all_nodes (no_helper_text m) p ≡ true

-- the name by which the helper of object spread is called
abbrev pub spread_name : Bound → Helper → Tree
spread_name b h = identifier (bound_of (ObjectSpread2 ∷ []) (b ∷ []) h)

-- A program that calls the helper of object spread alone, which it is to import or to require of module m under a name
pub record CallsSpread (m : Text) (l : Label) (ds body : Trees) (b : Bound) : Type 0 where
  pub form : has_form s-Program (program l ds body) ≡ true
  pub spreads : list_all (λ h. is_helper ObjectSpread2 h) (helpers_in (program l ds body)) ≡ true
  -- no other member is one of `babelHelpers`, and no scope declares it
  pub called : all_nodes no_helper_member (calling (spread_name b) (program l ds body)) ≡ true
  pub global : is_declared (top_in body) (codes "babelHelpers") ≡ false
  -- no name of its stands for a helper or for keys
  pub silent : silent_names by_global (program l ds body) ≡ []
  pub helpers : GetsNone (is_module (program l ds body)) m (program l ds body)
  -- a script declares no `require`
  pub require : is_module (program l ds body) ≡ false → is_declared (top_in body) (codes "require") ≡ false
  -- the name is none of its names, which aren't its keys and labels; and none that is bound or written is `babelHelpers`
  pub name : avoids_trees (bad_names (only b.name) (only (codes "babelHelpers"))) (take the_value true) body ≡ true
  pub undeclared : is_declared (top_in body) b.name ≡ false
  pub seen : HelpersSeen (apart_from b.name)
  pub math : bytes_eq (codes "Math") b.name ≡ false
  pub no_cell : is_own_cell b.name ≡ false

-- A PROGRAM that does so runs, importing the helper, or requiring it, as it runs with the helper as a member of `babelHelpers`.
abbrev pub LawImportingProgram : Type 0
LawImportingProgram = (m : Text) (l : Label) (ds body : Trees) (b : Bound) → CallsSpread m l ds body b →
    RunUnder by_global (supply_in m (program l ds body)) (program l ds body) (imported_as m (ObjectSpread2 ∷ []) (b ∷ []) (program l ds body))

-- So what a source that uses no helper itself, as modules or scripts do, becomes runs as it does, importing or requiring the helper, too.
pub record UsesNone (in_module : Bool) (m : Text) (p : Tree) : Type 0 where
  pub global : all_nodes no_helper_member p ≡ true
  pub helpers : GetsNone in_module m p
  pub silent : silent_names by_global p ≡ []

abbrev pub LawImportedProgram : Type 0
LawImportedProgram = (m : Text) (no_all : Bool) (p : Tree) (l : Label) (ds body : Trees) (b : Bound) → CallsSpread m l ds body b → UsesNone (is_module (program l ds body)) m p →
    ((y : Text) → is_declared (declared_at_top p) y ≡ true → is_declared (top_in body) y ≡ true) → RunAlike by_global no_all p (program l ds body) →
    RunAlike (supply_in m (program l ds body)) no_all p (imported_as m (ObjectSpread2 ∷ []) (b ∷ []) (program l ds body))

-- WHAT A PROGRAM BECOMES

-- the module asks for none of the helpers' modules
abbrev pub asks_no_helper : Text → Tree → Bool
asks_no_helper m p = list_all (λ t. not (is_some (helper_in m t))) (requests_of p)

-- and no literal of a script has the text of one
abbrev pub AsksNone : Bool → Text → Tree → Type 0
AsksNone true m p = asks_no_helper m p ≡ true
AsksNone false m p = all_nodes (no_helper_text m) p ≡ true

-- A program of which the law speaks: it doesn't name `babelHelpers`, which may be a key of it, and asks for no helper; and in a script no exponentiation is
-- lowered, since a key may become a string by it.
pub record RunsImporting (o : EnvOptions) (m : Text) (p : Tree) : Type 0 where
  pub names : is_among (names_of p) (codes "babelHelpers") ≡ false
  pub asks : AsksNone (is_module p) m p
  pub powers : is_module p ≡ false → powers_there o p ≡ false

-- What such a program becomes in which no object rest is lowered, q, runs as it does, when it imports its helpers, or requires them, as r, by names that are none of q's. Of a script q, `require`
-- finds nothing at its top. Where spreads and chains are lowered no spread is while a chain stands around it, and no tag is a chain; and where chains assume that
-- no value is `document.all`, it does in every run in which none is.
abbrev pub LawImportingResult : Type 0
LawImportingResult = (o : EnvOptions) (m : Text) (p q r t : Tree) (names last : List Text) → IsStatementProgram p → TagsAreNoChains o p → AssignsNoRest o p → RunsImporting o m p → IsResult o p q names → Reached (in_order o) p (first_whole p) names t → bare t ≡ bare q → is_module q ≡ is_module p →
    (is_module q ≡ false → (list_place (source q)).scope (codes "require") ≡ None) → ImportsTo (first_whole q).in_use m q r last → RunAlike (supply_in m p) (assumes_no_all o p) p r
