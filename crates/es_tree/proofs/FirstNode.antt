-- Every node passes a test exactly where there is no first one that fails it.
use Rattle.std.proofs.Common.{◌≡◌, ℕ, refl}
use Rattle.std.specs.Prelude.{Bool, true, false, ◌&&◌, not, Option, Some, None, if◌then◌else◌}
use Rattle.es_tree.specs.Tree.{Tree, node, Label, Fields, done, ◌then◌, Field, missing, one, many, statements, Trees, empty, ◌before◌}
use Rattle.es_tree.specs.Walks.{all_nodes, all_in_fields, all_in_field, all_in_trees, or_later, first_node, first_in_fields, first_in_field, first_in_trees}
use Rattle.es_tree.specs.declared.ast_type.AstType.{AstType}

abbrev pub is_none : Option ℕ → Bool
is_none None = true
is_none (Some n) = false

none_of_both : (a b : Option ℕ) → is_none (or_later a b) ≡ (is_none a && is_none b)
none_of_both None b = refl
none_of_both (Some n) b = refl

module _ (p : AstType → Label → Fields → Bool) where
  abbrev fails : AstType → Label → Fields → Bool
  fails k l fs = not (p k l fs)

  at_node : (b : Bool) (n : ℕ) (first : Option ℕ) (rest : Bool) → rest ≡ is_none first → (b && rest) ≡ is_none (if not b then Some n else first)
  at_node true n first rest h = h
  at_node false n first rest h = refl

  mutual
    pub all-first : (t : Tree) → all_nodes p t ≡ is_none (first_node fails t)
    all-first (node k l fs) = at_node (p k l fs) l.id (first_in_fields fails fs) (all_in_fields p fs) (all-first-fields fs)

    all-first-fields : (fs : Fields) → all_in_fields p fs ≡ is_none (first_in_fields fails fs)
    all-first-fields done = refl
    all-first-fields (f then fs) = rw (all-first-field f, all-first-fields fs, none_of_both (first_in_field fails f) (first_in_fields fails fs)) refl

    all-first-field : (f : Field) → all_in_field p f ≡ is_none (first_in_field fails f)
    all-first-field missing = refl
    all-first-field (one t) = all-first t
    all-first-field (many ts) = all-first-trees ts
    all-first-field (statements ts) = all-first-trees ts

    all-first-trees : (ts : Trees) → all_in_trees p ts ≡ is_none (first_in_trees fails ts)
    all-first-trees empty = refl
    all-first-trees (t before ts) = rw (all-first t, all-first-trees ts, none_of_both (first_node fails t) (first_in_trees fails ts)) refl
