-- What a source becomes first of all: exports of declarations with an object rest are split, where rests are asked for.
use Rattle.std.specs.Prelude.{◌≡◌, ◌&&◌, Bool, false, is_some, true}
use Rattle.es_tree.specs.Tree.{Tree}
use Rattle.es_tree.specs.declared.options.EnvOptions.{EnvOptions}
use Rattle.es_export_splits.specs.Splits as splits

-- whether such an export stands
abbrev pub splits_exports : EnvOptions → Tree → Bool
splits_exports o p = is_some o.es2018.object_rest_spread && splits.has_split p

-- Where one does each is split; else the program stays as it is.
pub record Splits (on : Bool) (source split : Tree) : Type 0 where
  pub goes : on ≡ true → split ≡ splits.split splits.plainly source
  pub stays : on ≡ false → split ≡ source
