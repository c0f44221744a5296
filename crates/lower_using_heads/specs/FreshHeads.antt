-- Fresh names for a program as it is read.
use Rattle.std.specs.Prelude.{Bool, List, ℕ}
use Rattle.es_tree.specs.Tree.{Field, Fields, Label, Tree, Trees}
use Rattle.es_tree.specs.Words.{Text}
use Rattle.es_tree.specs.declared.ast_type.AstType.{AstType}
use Rattle.es_pattern_moves.specs.Moved.{plainly}
use Rattle.es_using_heads.specs.Heads as heads

abbrev pub FreshHere : (Text → Bool) → List Text → ℕ → AstType → Label → Fields → Type 0
FreshHere in_use names n k l fs = heads.FreshHere (plainly names) in_use names n k l fs

abbrev pub Fresh : (Text → Bool) → List Text → ℕ → Tree → Type 0
Fresh in_use names n t = heads.Fresh (plainly names) in_use names n t

abbrev pub FreshIn : (Text → Bool) → List Text → ℕ → Fields → Type 0
FreshIn in_use names n fs = heads.FreshIn (plainly names) in_use names n fs

abbrev pub FreshBy : (Text → Bool) → List Text → ℕ → Field → Type 0
FreshBy in_use names n f = heads.FreshBy (plainly names) in_use names n f

abbrev pub FreshAmong : (Text → Bool) → List Text → ℕ → Trees → Type 0
FreshAmong in_use names n ts = heads.FreshAmong (plainly names) in_use names n ts
