-- New nodes: their ids count from n in node order, m is the next id after them, and no mark stands in them.
use Rattle.std.specs.Prelude.{ℕ, ◌+◌, ◌≡◌}
use Rattle.es_tree.specs.Tree.{Field, Fields, Trees, field_size, fields_size, trees_size}
use Rattle.es_tree.specs.Order.{IsFieldNumbered, AreFieldsNumbered, AreTreesNumbered, IsFieldUnmarked, AreFieldsUnmarked, AreTreesUnmarked}

abbrev pub IsNewField : ℕ → ℕ → Field → Type 0
IsNewField n m f = IsFieldNumbered n f × IsFieldUnmarked f × (m ≡ n + field_size f)

abbrev pub AreNewFields : ℕ → ℕ → Fields → Type 0
AreNewFields n m fs = AreFieldsNumbered n fs × AreFieldsUnmarked fs × (m ≡ n + fields_size fs)

abbrev pub AreNewTrees : ℕ → ℕ → Trees → Type 0
AreNewTrees n m ts = AreTreesNumbered n ts × AreTreesUnmarked ts × (m ≡ n + trees_size ts)
