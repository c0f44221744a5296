-- What a source becomes once its `using` is lowered, and before its constructs are lowered where they stand.
use Rattle.std.specs.Prelude.{◌≡◌, Bool, List, [], false, true}
use Rattle.es_tree.specs.Tree.{Tree}
use Rattle.es_tree.specs.Words.{Text}
use Rattle.es_steps.specs.CoreBridge.{first_whole}
use Rattle.es_pattern_moves.specs.Moved.{MovesTo}

-- Where the lowering of object rests is on, patterns with a rest move to declarations of their own, with these fresh names; else it stays as it
-- is. There is one such program.
pub record Moves (on : Bool) (source moved : Tree) (names : List Text) : Type 0 where
  pub goes : on ≡ true → MovesTo (first_whole source).in_use source moved names
  pub stays : on ≡ false → (moved ≡ source) × (names ≡ [])
