-- What holds of each tree, where it holds of a node if it does of all that stands in its fields; and what is known of the trees in fields.
use Rattle.std.proofs.Common.{◌≡◌, ℕ, zero, suc}
use Rattle.std.proofs.lemmas.Bool.{and_parts}
use Rattle.std.specs.Prelude.{Bool, true, ◌&&◌}
use Rattle.es_tree.specs.Tree.{Tree, node, Label, Fields, done, ◌then◌, Field, missing, one, many, statements, Trees, empty, ◌before◌}
use Rattle.es_tree.specs.Walks.{all_nodes, all_in_fields, all_in_field, all_in_trees}
use Rattle.es_tree.specs.declared.ast_type.AstType.{AstType}

-- each tree of a list, of a field, and of fields, these by their number
abbrev pub BelowTrees : (Tree → Type 0) → Trees → Type 0
BelowTrees P empty = Unit {0}
BelowTrees P (t before ts) = P t × BelowTrees P ts

abbrev pub BelowField : (Tree → Type 0) → Field → Type 0
BelowField P missing = Unit {0}
BelowField P (one t) = P t
BelowField P (many ts) = BelowTrees P ts
BelowField P (statements ts) = BelowTrees P ts

abbrev pub Below : (ℕ → Tree → Type 0) → Fields → Type 0
Below P done = Unit {0}
Below P (f then fs) = BelowField (P zero) f × Below (λ i. P (suc i)) fs

module _ (P : Tree → Type 0) (law : (k : AstType) (l : Label) (fs : Fields) → Below (λ i. P) fs → P (node k l fs)) where
  mutual
    pub by_parts : (t : Tree) → P t
    by_parts (node k l fs) = law k l fs (parts_of fs)

    pub parts_of : (fs : Fields) → Below (λ i. P) fs
    parts_of done = tt
    parts_of (f then fs) = (parts_at f, parts_of fs)

    parts_at : (f : Field) → BelowField P f
    parts_at missing = tt
    parts_at (one t) = by_parts t
    parts_at (many ts) = parts_among ts
    parts_at (statements ts) = parts_among ts

    parts_among : (ts : Trees) → BelowTrees P ts
    parts_among empty = tt
    parts_among (t before ts) = (by_parts t, parts_among ts)

-- what follows of each tree
module _ (P Q : Tree → Type 0) (law : (t : Tree) → P t → Q t) where
  pub map_trees : (ts : Trees) → BelowTrees P ts → BelowTrees Q ts
  map_trees empty h = tt
  map_trees (t before ts) h = (law t h.0, map_trees ts h.1)

  pub map_field : (f : Field) → BelowField P f → BelowField Q f
  map_field missing h = tt
  map_field (one t) h = law t h
  map_field (many ts) h = map_trees ts h
  map_field (statements ts) h = map_trees ts h

pub map_below : (P Q : ℕ → Tree → Type 0) → ((i : ℕ) (t : Tree) → P i t → Q i t) → (fs : Fields) → Below P fs → Below Q fs
map_below P Q law done h = tt
map_below P Q law (f then fs) h = (map_field (P zero) (Q zero) (law zero) f h.0, map_below (λ i. P (suc i)) (λ i. Q (suc i)) (λ i. law (suc i)) fs h.1)

-- both
module _ (P Q : Tree → Type 0) where
  pub both_trees : (ts : Trees) → BelowTrees P ts → BelowTrees Q ts → BelowTrees (λ t. P t × Q t) ts
  both_trees empty h g = tt
  both_trees (t before ts) h g = ((h.0, g.0), both_trees ts h.1 g.1)

  pub both_field : (f : Field) → BelowField P f → BelowField Q f → BelowField (λ t. P t × Q t) f
  both_field missing h g = tt
  both_field (one t) h g = (h, g)
  both_field (many ts) h g = both_trees ts h g
  both_field (statements ts) h g = both_trees ts h g

pub both_below : (P Q : ℕ → Tree → Type 0) (fs : Fields) → Below P fs → Below Q fs → Below (λ i t. P i t × Q i t) fs
both_below P Q done h g = tt
both_below P Q (f then fs) h g = (both_field (P zero) (Q zero) f h.0 g.0, both_below (λ i. P (suc i)) (λ i. Q (suc i)) fs h.1 g.1)

-- a test of each node
module _ (p : AstType → Label → Fields → Bool) where
  pub nodes_trees : (ts : Trees) → all_in_trees p ts ≡ true → BelowTrees (λ t. all_nodes p t ≡ true) ts
  nodes_trees empty h = tt
  nodes_trees (t before ts) h = let d = and_parts (all_nodes p t) (all_in_trees p ts) h in (d.0, nodes_trees ts d.1)

  pub nodes_field : (f : Field) → all_in_field p f ≡ true → BelowField (λ t. all_nodes p t ≡ true) f
  nodes_field missing h = tt
  nodes_field (one t) h = h
  nodes_field (many ts) h = nodes_trees ts h
  nodes_field (statements ts) h = nodes_trees ts h

  pub nodes_below : (fs : Fields) → all_in_fields p fs ≡ true → Below (λ i t. all_nodes p t ≡ true) fs
  nodes_below done h = tt
  nodes_below (f then fs) h = let d = and_parts (all_in_field p f) (all_in_fields p fs) h in (nodes_field f d.0, nodes_below fs d.1)

-- A TEST OF WHAT STANDS IN THE FIELDS of a node, by their number

abbrev pub trees_pass : (Tree → Bool) → Trees → Bool
trees_pass c empty = true
trees_pass c (t before ts) = c t && trees_pass c ts

abbrev pub field_passes : (Tree → Bool) → Field → Bool
field_passes c missing = true
field_passes c (one t) = c t
field_passes c (many ts) = trees_pass c ts
field_passes c (statements ts) = trees_pass c ts

abbrev pub fields_pass : (ℕ → Tree → Bool) → Fields → Bool
fields_pass c done = true
fields_pass c (f then fs) = field_passes (c zero) f && fields_pass (λ i. c (suc i)) fs

pub trees_passed : (c : Tree → Bool) (ts : Trees) → trees_pass c ts ≡ true → BelowTrees (λ t. c t ≡ true) ts
trees_passed c empty h = tt
trees_passed c (t before ts) h = let d = and_parts (c t) (trees_pass c ts) h in (d.0, trees_passed c ts d.1)

pub field_passed : (c : Tree → Bool) (f : Field) → field_passes c f ≡ true → BelowField (λ t. c t ≡ true) f
field_passed c missing h = tt
field_passed c (one t) h = h
field_passed c (many ts) h = trees_passed c ts h
field_passed c (statements ts) h = trees_passed c ts h

pub fields_passed : (c : ℕ → Tree → Bool) (fs : Fields) → fields_pass c fs ≡ true → Below (λ i t. c i t ≡ true) fs
fields_passed c done h = tt
fields_passed c (f then fs) h = let d = and_parts (field_passes (c zero) f) (fields_pass (λ i. c (suc i)) fs) h in (field_passed (c zero) f d.0, fields_passed (λ i. c (suc i)) fs d.1)
