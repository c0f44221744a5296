-- Node order: a node before its children, children in reading order, lists from front to back.
use Rattle.std.specs.Prelude.{ℕ, suc, ◌+◌, ◌≡◌}
use Rattle.es_tree.specs.Tree.{Tree, node, Fields, done, ◌then◌, Field, missing, one, many, statements, Trees, empty, ◌before◌, tree_size, field_size}
use Rattle.es_tree.specs.Attributes.{no_marks}

-- The ids of the tree count from n in node order.
abbrev mutual
  pub IsNumbered : ℕ → Tree → Type 0
  IsNumbered n (node k l fs) = (l.id ≡ n) × AreFieldsNumbered (suc n) fs

  pub AreFieldsNumbered : ℕ → Fields → Type 0
  AreFieldsNumbered n done = Unit {0}
  AreFieldsNumbered n (f then fs) = IsFieldNumbered n f × AreFieldsNumbered (n + field_size f) fs

  pub IsFieldNumbered : ℕ → Field → Type 0
  IsFieldNumbered n missing = Unit {0}
  IsFieldNumbered n (one t) = IsNumbered n t
  IsFieldNumbered n (many ts) = AreTreesNumbered n ts
  IsFieldNumbered n (statements ts) = AreTreesNumbered n ts

  pub AreTreesNumbered : ℕ → Trees → Type 0
  AreTreesNumbered n empty = Unit {0}
  AreTreesNumbered n (t before ts) = IsNumbered n t × AreTreesNumbered (n + tree_size t) ts

-- No mark of the tables of scopes stands in the tree.
abbrev mutual
  pub IsUnmarked : Tree → Type 0
  IsUnmarked (node k l fs) = (l.marks ≡ no_marks k) × AreFieldsUnmarked fs

  pub AreFieldsUnmarked : Fields → Type 0
  AreFieldsUnmarked done = Unit {0}
  AreFieldsUnmarked (f then fs) = IsFieldUnmarked f × AreFieldsUnmarked fs

  pub IsFieldUnmarked : Field → Type 0
  IsFieldUnmarked missing = Unit {0}
  IsFieldUnmarked (one t) = IsUnmarked t
  IsFieldUnmarked (many ts) = AreTreesUnmarked ts
  IsFieldUnmarked (statements ts) = AreTreesUnmarked ts

  pub AreTreesUnmarked : Trees → Type 0
  AreTreesUnmarked empty = Unit {0}
  AreTreesUnmarked (t before ts) = IsUnmarked t × AreTreesUnmarked ts

-- The tree with ids that count from n in node order.
abbrev mutual
  pub renumber : ℕ → Tree → Tree
  renumber n (node k l fs) = node k (record l { id = n }) (renumber_fields (suc n) fs)

  pub renumber_fields : ℕ → Fields → Fields
  renumber_fields n done = done
  renumber_fields n (f then fs) = renumber_field n f then renumber_fields (n + field_size f) fs

  pub renumber_field : ℕ → Field → Field
  renumber_field n missing = missing
  renumber_field n (one t) = one (renumber n t)
  renumber_field n (many ts) = many (renumber_trees n ts)
  renumber_field n (statements ts) = statements (renumber_trees n ts)

  pub renumber_trees : ℕ → Trees → Trees
  renumber_trees n empty = empty
  renumber_trees n (t before ts) = renumber n t before renumber_trees (n + tree_size t) ts
