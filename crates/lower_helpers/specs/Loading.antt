-- What a call leaves that loads a helper.
use Rattle.std.specs.Prelude.{◌≡◌, ℕ, ◌+◌, List, [], ◌∷◌, true, false, Contains, Option, Some, codes}
use Rattle.es_tree.specs.Fresh.{IsFreshName, text_base}
use Rattle.es_tree.specs.Helpers.{helper_text}
use Rattle.es_tree.specs.Tree.{Tree}
use Rattle.es_tree.specs.Words.{Text}
use Rattle.es_tree.specs.declared.helper.Helper.{Helper}
use Rattle.es_tree.specs.declared.operators.SourceType.{SourceType}
use Rattle.es_tree.specs.declared.operators.SourceType.TheVariants.{Module, Script}
use Rattle.es_tree.specs.declared.options.HelperLoaderMode.{HelperLoaderMode}
use Rattle.es_tree.specs.declared.options.HelperLoaderMode.TheVariants.{External, Inline, Runtime}
use Rattle.es_scope.specs.Contexts.{KeepsNames, KeptBeside, MakesName, function_scoped, reference_to, scope_at, table_of, uses_of}
use Rattle.es_scope.specs.TableChanges.{HasBindingMore, HasReferenceMore}
use Rattle.es_scope.specs.Tables.{Finds, binding_in, reference_count, symbol_count}
use Rattle.es_scope.specs.declared.context.TraverseCtx.{TraverseCtx}
use Rattle.es_scope.specs.declared.flags.ReferenceFlags.{ReferenceFlags}
use Rattle.es_scope.specs.declared.flags.SymbolFlags.{SymbolFlags}
use Rattle.es_scope.specs.declared.scoping.Scoping.{Scoping}
use Rattle.lower_stores.specs.LoadedHelpers.{IsNotLoaded, LocalName}
use Rattle.lower_helpers.specs.HelperNodes.{called_node, external_node, name_node}
use Rattle.lower_helpers.specs.Stores.{with_helper}
use Rattle.lower_helpers.specs.declared.helper_stores.HelperStores.{HelperStores}

-- the flags of what an import binds (16.2.2), and of what `var` binds in a script (14.3.2)
abbrev pub helper_flags : SourceType → SymbolFlags
helper_flags Module = record { function_scoped = false; block_scoped = false; constant = false; «import» = true; catch_variable = false; «class» = false }
helper_flags Script = function_scoped

abbrev pub reading : ReferenceFlags
reading = record { read = true; write = false }

-- each of these names is bound in the program's scope, to its symbol (9.1.1)
abbrev pub AreBoundAtTop : Scoping → List (Helper × LocalName) → Type 0
AreBoundAtTop s [] = Unit {0}
AreBoundAtTop s (e ∷ es) = (binding_in s 0 e.1.name ≡ Some e.1.symbol) × AreBoundAtTop s es

-- One reference more than in this table, which reads the name of this symbol, and so many ids more. But for names all else
-- is as before.
pub record ReadsName {S : Type 0} (table : Scoping) (symbol : Option ℕ) (ids : ℕ) (old new : TraverseCtx S) : Type 0 where
  pub refers : HasReferenceMore table (table_of new) (reference_to old.ast.next symbol reading)
  pub next : new.ast.next ≡ old.ast.next + ids
  pub kept : KeptBeside old new

-- A fresh name of the helper's name more, which the program's scope binds as this table says.
pub record BindsHelper {S : Type 0} (helper : Helper) (source_type : SourceType) (x : Text) (table : Scoping) (old new : TraverseCtx S) : Type 0 where
  pub fresh : IsFreshName (uses_of old) (text_base (helper_text helper)) x
  pub makes : MakesName old new x
  pub binds : HasBindingMore (table_of old) table 0 x (helper_flags source_type)

-- The helper is loaded, from the stores a to the stores b, and t is the expression for it: a property of `babelHelpers`, which
-- is looked up from the place (9.4.2); the name that it has from an earlier load; or a name that is made now.
pub data LoadsHelper {S : Type 0} (helper : Helper) (more : ℕ) (a b : HelperStores) (old new : TraverseCtx S) : Tree → Type 0 where
  external : {symbol : Option ℕ} → a.helper_loader.mode ≡ External → b ≡ a → Finds (table_of old) (codes "babelHelpers") (scope_at old) symbol → KeepsNames old new → ReadsName (table_of old) symbol (3 + more) old new →
      LoadsHelper helper more a b old new (external_node old.ast.next (reference_count (table_of old)) symbol helper)
  loaded_before : {local : LocalName} → a.helper_loader.mode ≡ Runtime → b ≡ a → Contains a.helper_loader.loaded (helper, local) → KeepsNames old new → ReadsName (table_of old) (Some local.symbol) (1 + more) old new →
      LoadsHelper helper more a b old new (name_node old.ast.next local.name (Some (reference_count (table_of old))) (Some local.symbol))
  loaded_now : {x : Text} {table : Scoping} → a.helper_loader.mode ≡ Runtime → IsNotLoaded helper a.helper_loader.loaded → b ≡ with_helper helper (record { name = x; symbol = symbol_count (table_of old) }) a → BindsHelper helper a.source_type x table old new → ReadsName table (Some (symbol_count (table_of old))) (1 + more) old new →
      LoadsHelper helper more a b old new (name_node old.ast.next x (Some (reference_count (table_of old))) (Some (symbol_count (table_of old))))

-- how many nodes the expression for a helper is
abbrev pub helper_ids : HelperLoaderMode → ℕ
helper_ids External = 3
helper_ids Runtime = 1
helper_ids Inline = 0

-- The helper is loaded, and t is a call of it with these arguments.
pub record CallsHelper {S : Type 0} (helper : Helper) (arguments : List Tree) (a b : HelperStores) (old new : TraverseCtx S) (t : Tree) : Type 0 where
  pub callee : Tree
  pub loads : LoadsHelper helper 1 a b old new callee
  pub call : t ≡ called_node (old.ast.next + helper_ids a.helper_loader.mode) callee arguments
