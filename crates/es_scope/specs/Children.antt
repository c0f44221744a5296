-- What the one children of a node give to its base.
use Rattle.std.specs.Prelude.{List, [], Option, Some, None}
use Rattle.es_tree.specs.Words.{Text}
use Rattle.es_tree.specs.Fresh.{parts}
use Rattle.es_tree.specs.Tree.{Tree}

-- the parts that a child gives, if there is one
abbrev pub optional_parts : Option Tree → List Text
optional_parts None = []
optional_parts (Some t) = parts t
