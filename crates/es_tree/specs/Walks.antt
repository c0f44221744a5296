-- Tests of every node of a tree.
use Rattle.std.specs.Prelude.{ℕ, Bool, true, false, ◌&&◌, ◌||◌, Option, Some, None, if◌then◌else◌}
use Rattle.es_tree.specs.Tree.{Tree, node, Label, Fields, done, ◌then◌, Field, missing, one, many, statements, Trees, empty, ◌before◌}
use Rattle.es_tree.specs.declared.ast_type.AstType.{AstType}

-- A test of a node by itself: its kind, its label, its fields.
abbrev pub NodeTest : Type 0
NodeTest = AstType → Label → Fields → Bool

-- every node of the tree passes the test
abbrev mutual
  pub all_nodes : (AstType → Label → Fields → Bool) → Tree → Bool
  all_nodes p (node k l fs) = p k l fs && all_in_fields p fs

  pub all_in_fields : (AstType → Label → Fields → Bool) → Fields → Bool
  all_in_fields p done = true
  all_in_fields p (f then fs) = all_in_field p f && all_in_fields p fs

  pub all_in_field : (AstType → Label → Fields → Bool) → Field → Bool
  all_in_field p missing = true
  all_in_field p (one t) = all_nodes p t
  all_in_field p (many ts) = all_in_trees p ts
  all_in_field p (statements ts) = all_in_trees p ts

  pub all_in_trees : (AstType → Label → Fields → Bool) → Trees → Bool
  all_in_trees p empty = true
  all_in_trees p (t before ts) = all_nodes p t && all_in_trees p ts

-- some node of the tree passes the test
abbrev mutual
  pub any_node : (AstType → Label → Fields → Bool) → Tree → Bool
  any_node p (node k l fs) = p k l fs || any_in_fields p fs

  pub any_in_fields : (AstType → Label → Fields → Bool) → Fields → Bool
  any_in_fields p done = false
  any_in_fields p (f then fs) = any_in_field p f || any_in_fields p fs

  pub any_in_field : (AstType → Label → Fields → Bool) → Field → Bool
  any_in_field p missing = false
  any_in_field p (one t) = any_node p t
  any_in_field p (many ts) = any_in_trees p ts
  any_in_field p (statements ts) = any_in_trees p ts

  pub any_in_trees : (AstType → Label → Fields → Bool) → Trees → Bool
  any_in_trees p empty = false
  any_in_trees p (t before ts) = any_node p t || any_in_trees p ts

-- the first of two ids
abbrev pub or_later : Option ℕ → Option ℕ → Option ℕ
or_later (Some n) later = Some n
or_later None later = later

-- the id of the first node, in node order, that passes the test
abbrev mutual
  pub first_node : (AstType → Label → Fields → Bool) → Tree → Option ℕ
  first_node p (node k l fs) = if p k l fs then Some l.id else first_in_fields p fs

  pub first_in_fields : (AstType → Label → Fields → Bool) → Fields → Option ℕ
  first_in_fields p done = None
  first_in_fields p (f then fs) = or_later (first_in_field p f) (first_in_fields p fs)

  pub first_in_field : (AstType → Label → Fields → Bool) → Field → Option ℕ
  first_in_field p missing = None
  first_in_field p (one t) = first_node p t
  first_in_field p (many ts) = first_in_trees p ts
  first_in_field p (statements ts) = first_in_trees p ts

  pub first_in_trees : (AstType → Label → Fields → Bool) → Trees → Option ℕ
  first_in_trees p empty = None
  first_in_trees p (t before ts) = or_later (first_node p t) (first_in_trees p ts)
