-- What holds of each tree of a list, and of declarations of temporaries, holds of each tree of the list with what is pending for it.
use Rattle.std.proofs.Common.{◌≡◌, sym, refl, subst, List}
use Rattle.std.proofs.lemmas.Bool.{and_from}
use Rattle.std.specs.Prelude.{Bool, true, false, Option, None, codes, map, if◌then◌else◌}
use Rattle.es_tree.specs.Tree.{Tree, Label, Fields, done, ◌then◌, Field, missing, one, many, statements, Trees, empty, ◌before◌}
use Rattle.es_tree.specs.Walks.{all_nodes, all_in_field, all_in_fields, all_in_trees}
use Rattle.es_tree.specs.declared.ast_type.AstType.{AstType}
use Rattle.es_resolution.specs.Declarations.{Bound}
use Rattle.es_steps.specs.Nodes.{declarator, joined_trees}
use Rattle.es_steps.specs.Open.{Additions, Pending, after_imports, declaration, is_import, nothing_pending, whole_list, with_vars}
use Rattle.es_steps.proofs.FormLists.{IsPlainList}
use Rattle.es_statement_steps.proofs.Below.{Below, BelowField, BelowTrees}

-- A TEST OF EACH NODE, from that of the trees in fields

module _ (p : AstType → Label → Fields → Bool) where
  pub trees-pass : (ts : Trees) → BelowTrees (λ t. all_nodes p t ≡ true) ts → all_in_trees p ts ≡ true
  trees-pass empty h = refl
  trees-pass (t before ts) h = and_from (all_nodes p t) (all_in_trees p ts) h.0 (trees-pass ts h.1)

  field-passes : (f : Field) → BelowField (λ t. all_nodes p t ≡ true) f → all_in_field p f ≡ true
  field-passes missing h = refl
  field-passes (one t) h = h
  field-passes (many ts) h = trees-pass ts h
  field-passes (statements ts) h = trees-pass ts h

  pub fields-pass : (fs : Fields) → Below (λ i t. all_nodes p t ≡ true) fs → all_in_fields p fs ≡ true
  fields-pass done h = refl
  fields-pass (f then fs) h = and_from (all_in_field p f) (all_in_fields p fs) (field-passes f h.0) (fields-pass fs h.1)

-- LISTS

module _ (P : Tree → Type 0) where
  joined-below : (bs ts : Trees) → BelowTrees P bs → BelowTrees P ts → BelowTrees P (joined_trees bs ts)
  joined-below empty ts h g = g
  joined-below (b before bs) ts h g = (h.0, joined-below bs ts h.1 g)

  written-below : (bs ts : Trees) → BelowTrees P bs → BelowTrees P ts → BelowTrees P (after_imports bs ts)
  written-below bs empty h g = h
  written-below bs (t before ts) h g = at (is_import t) (written-below bs ts h g.1)
    where
      at : (v : Bool) → BelowTrees P (after_imports bs ts) → BelowTrees P (if v then t before after_imports bs ts else joined_trees bs (t before ts))
      at true r = (g.0, r)
      at false r = joined-below bs (t before ts) h g

  pub whole-below : ((bs : List Bound) → BelowTrees P (declaration (codes "var") (map declarator bs) empty)) → (p : Pending) (y : Option Bound) (a : Additions) (ts : Trees) → IsPlainList p y a → BelowTrees P ts → BelowTrees P (whole_list p y a ts)
  whole-below vars p y a ts plain h =
      subst (λ (p : Pending). BelowTrees P (whole_list p y a ts)) (sym plain.vars.are)
      (subst (λ (y : Option Bound). BelowTrees P (whole_list (with_vars plain.vars.names nothing_pending) y a ts)) (sym plain.this)
      (subst (λ (a : Additions). BelowTrees P (whole_list (with_vars plain.vars.names nothing_pending) None a ts)) (sym plain.top)
      (written-below (declaration (codes "var") (map declarator plain.vars.names) empty) ts (vars plain.vars.names) h)))
