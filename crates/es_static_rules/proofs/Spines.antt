-- The spines of chains.
use Rattle.std.proofs.Common.{◌≡◌, ℕ, ◌<◌, Option, Some, None, refl, arith}
use Rattle.es_tree.proofs.Children.{child_smaller}
use Rattle.es_tree.specs.Children.{child_at}
use Rattle.es_tree.specs.CoreStaticRules.{has_optional_in}
use Rattle.es_tree.specs.Tree.{Tree, node, tree_size, Fields, fields_of, done, ◌then◌, missing, one, many, statements}
use Rattle.es_static_rules.specs.Parts.{has_optional_within}

abbrev pub optional_size : Option Tree → ℕ
optional_size None = 0
optional_size (Some t) = tree_size t

optional_smaller-child : (i : ℕ) (t : Tree) (u : Option Tree) → u ≡ child_at i (fields_of t) → optional_size u < tree_size t
optional_smaller-child i (node k l fs) None e = omega arith
optional_smaller-child i t (Some u) e = child_smaller i t u e

pub optional_smaller : (i : ℕ) (t : Tree) → optional_size (child_at i (fields_of t)) < tree_size t
optional_smaller i t = optional_smaller-child i t (child_at i (fields_of t)) refl

pub has_optional_in-child : (fs : Fields) → has_optional_in fs ≡ has_optional_within (child_at 0 fs)
has_optional_in-child done = refl
has_optional_in-child (missing then fs) = refl
has_optional_in-child (one t then fs) = refl
has_optional_in-child (many ts then fs) = refl
has_optional_in-child (statements ts then fs) = refl
