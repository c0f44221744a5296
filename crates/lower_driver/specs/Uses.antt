-- What a source becomes once its exports are split: `using` moves out of heads of loops, and is lowered, where that is asked for.
use Rattle.std.specs.Prelude.{◌≡◌, ◌&&◌, not, Bool, List, [], false, true}
use Rattle.es_tree.specs.Constructs.{is_using}
use Rattle.es_tree.specs.Tree.{Tree}
use Rattle.es_tree.specs.Walks.{any_node}
use Rattle.es_tree.specs.Words.{Text}
use Rattle.es_tree.specs.declared.options.EnvOptions.{EnvOptions}
use Rattle.es_semantic.specs.SymbolsOf.{symbols_of}
use Rattle.es_steps.specs.CoreBridge.{first_whole}
use Rattle.es_rest_shapes.specs.HelperNames.{binds_helpers}
use Rattle.es_using_heads.specs.Heads.{HeadsTo}
use Rattle.es_using_rows.specs.Used.{UsesTo}

-- whether a `using` stands that is asked for
abbrev pub using_there : EnvOptions → Tree → Bool
using_there o p = o.es2026.explicit_resource_management && any_node is_using p

-- Whether it is lowered: the program binds no `babelHelpers`, of which the helper is a property.
abbrev pub lowers_using : EnvOptions → Tree → Bool
lowers_using o p = using_there o p && not (binds_helpers (symbols_of p))

-- Where it is, it moves out of heads of loops first, for these fresh names; else the program stays as it is. There is one such program.
pub record Heads (on : Bool) (source headed : Tree) (names : List Text) : Type 0 where
  pub goes : on ≡ true → HeadsTo (first_whole source).in_use source headed names
  pub stays : on ≡ false → (headed ≡ source) × (names ≡ [])

-- And then it is lowered, with contexts of these fresh names.
pub record Uses (on : Bool) (headed used : Tree) (names : List Text) : Type 0 where
  pub goes : on ≡ true → UsesTo (first_whole headed).in_use headed used names
  pub stays : on ≡ false → (used ≡ headed) × (names ≡ [])
