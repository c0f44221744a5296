-- What is known of a tree is known of the node at which a row acts in it.
use Rattle.std.proofs.Common.{◌≡◌, ℕ, zero, suc, List, ◌++◌}
use Rattle.std.specs.Prelude.{Bool, true, false, ◌&&◌, ◌||◌}
use Rattle.es_tree.specs.Words.{Text}
use Rattle.es_tree.specs.Core.{is_core_node}
use Rattle.es_tree.specs.Fresh.{is_among}
use Rattle.es_tree.specs.Names.{names_if, names_in_fields, names_in_field, names_in_trees, own_name, is_name_place}
use Rattle.es_tree.specs.Scopes.{is_written, writes}
use Rattle.es_tree.specs.Tree.{Tree, node, Label, Fields, Field, Trees, kind_of}
use Rattle.es_tree.specs.Walks.{all_nodes, all_in_fields, all_in_field, all_in_trees, any_in_fields, any_in_field, any_in_trees}
use Rattle.es_tree.specs.declared.ast_type.AstType.{AstType}
use Rattle.es_runs.specs.Alike.{Need}
use Rattle.es_runs.specs.Rules.{OnePlace, OneField, InField, OneNode}
use Rattle.es_runs.specs.Rules.OnePlace.{this_place, below}
use Rattle.es_runs.specs.Rules.OneField.{first_field, later_field}
use Rattle.es_runs.specs.Rules.InField.{in_one, in_many, in_statements}
use Rattle.es_runs.specs.Rules.OneNode.{first_node, later_node}
use Rattle.es_runs.specs.Standing.{undeclaring}
use Rattle.es_runs.proofs.Kept.{below_names}
use Rattle.es_runs.proofs.Named.{and_left, and_right, or_first, or_second, among_first, among_second, core_exports}
use Rattle.es_runs.proofs.RowFacts.{is_row_kind}
use Rattle.es_runs.proofs.RowKinds.{RowKinds}
use Rattle.es_runs.proofs.RowNames.{same_names, row_no_name}

module _ (hidden steady : Text → Bool) where
  -- Its nodes are core, declarations stand where they may, no hidden name is among these names, and no steady one is written.
  pub record Facts (core placed : Bool) (names : List Text) (written : Text → Bool) : Type 0 where
    pub core_nodes : core ≡ true
    pub placed_nodes : placed ≡ true
    pub unnamed : (y : Text) → hidden y ≡ true → is_among names y ≡ false
    pub unwritten : (y : Text) → steady y ≡ true → written y ≡ false

  first_facts : (b c d e : Bool) (xs ys : List Text) (f g : Text → Bool) → Facts (b && c) (d && e) (xs ++ ys) (λ y. f y || g y) → Facts b d xs f
  first_facts b c d e xs ys f g h = record {
    core_nodes = and_left b c h.core_nodes;
    placed_nodes = and_left d e h.placed_nodes;
    unnamed = λ y i. among_first xs ys y (h.unnamed y i);
    unwritten = λ y i. or_first (f y) (g y) (h.unwritten y i);
  }

  second_facts : (b c d e : Bool) (xs ys : List Text) (f g : Text → Bool) → Facts (b && c) (d && e) (xs ++ ys) (λ y. f y || g y) → Facts c e ys g
  second_facts b c d e xs ys f g h = record {
    core_nodes = and_right b c h.core_nodes;
    placed_nodes = and_right d e h.placed_nodes;
    unnamed = λ y i. among_second xs ys y (h.unnamed y i);
    unwritten = λ y i. or_second (f y) (g y) (h.unwritten y i);
  }

  abbrev pub NodeFacts : Bool → Tree → Type 0
  NodeFacts counts t = Facts (all_nodes is_core_node t) (all_nodes undeclaring t) (names_if counts t) (λ y. is_written y t)

  abbrev FieldsFacts : (ℕ → Bool) → Fields → Type 0
  FieldsFacts p fs = Facts (all_in_fields is_core_node fs) (all_in_fields undeclaring fs) (names_in_fields p fs) (λ y. any_in_fields (writes y) fs)

  abbrev FieldFacts : Bool → Field → Type 0
  FieldFacts counts f = Facts (all_in_field is_core_node f) (all_in_field undeclaring f) (names_in_field counts f) (λ y. any_in_field (writes y) f)

  abbrev TreesFacts : Trees → Type 0
  TreesFacts ts = Facts (all_in_trees is_core_node ts) (all_in_trees undeclaring ts) (names_in_trees ts) (λ y. any_in_trees (writes y) ts)

  below_facts : (counts : Bool) (k : AstType) (l : Label) (fs : Fields) → NodeFacts counts (node k l fs) → FieldsFacts (is_name_place k l) fs
  below_facts counts k l fs h =
      let own = and_left (is_core_node k l fs) (all_in_fields is_core_node fs) h.core_nodes in
      record {
        core_nodes = and_right (is_core_node k l fs) (all_in_fields is_core_node fs) h.core_nodes;
        placed_nodes = and_right (undeclaring k l fs) (all_in_fields undeclaring fs) h.placed_nodes;
        unnamed = λ y i.
            let free : is_among (own_name counts k l ++ names_in_fields (is_name_place k l) fs) y ≡ false = rw (below_names counts k l fs (core_exports k l fs fs own)) at (h.unnamed y i) in
            among_second (own_name counts k l) (names_in_fields (is_name_place k l) fs) y free;
        unwritten = λ y i. or_second (writes y k l fs) (any_in_fields (writes y) fs) (h.unwritten y i);
      }

  module _ (R : Need → Tree → Tree → Type 0) (kinds : (n : Need) (a b : Tree) → R n a b → RowKinds a b) where
    -- the row, with what is known of its node
    abbrev pub Placed : Need → Tree → Tree → Type 0
    Placed n a b = R n a b × NodeFacts true a

    row_facts : (counts : Bool) (a : Tree) → is_row_kind (kind_of a) ≡ true → NodeFacts counts a → NodeFacts true a
    row_facts counts a e h = record {
      core_nodes = h.core_nodes;
      placed_nodes = h.placed_nodes;
      unnamed = λ y i. rw (same_names counts a (row_no_name (kind_of a) e)) at (h.unnamed y i);
      unwritten = h.unwritten;
    }

    mutual
      pub placed : (counts : Bool) {n : Need} {t u : Tree} → OnePlace R n t u → NodeFacts counts t → OnePlace Placed n t u
      placed counts (this_place {n = n} {a = a} {b = b} r) h = this_place (r, row_facts counts a (kinds n a b r).acted h)
      placed counts (below {k = k} {l = l} {fs = fs} r) h = below (placed_fields (is_name_place k l) r (below_facts counts k l fs h))

      placed_fields : (p : ℕ → Bool) {c : ℕ → Need} {fs gs : Fields} → OneField R c fs gs → FieldsFacts p fs → OneField Placed c fs gs
      placed_fields p (first_field {f = f} {fs = fs} r) h =
          first_field (placed_field (p zero) r (first_facts (all_in_field is_core_node f) (all_in_fields is_core_node fs) (all_in_field undeclaring f) (all_in_fields undeclaring fs) (names_in_field (p zero) f) (names_in_fields (λ i. p (suc i)) fs) (λ y. any_in_field (writes y) f) (λ y. any_in_fields (writes y) fs) h))
      placed_fields p (later_field {f = f} {fs = fs} r) h =
          later_field (placed_fields (λ i. p (suc i)) r (second_facts (all_in_field is_core_node f) (all_in_fields is_core_node fs) (all_in_field undeclaring f) (all_in_fields undeclaring fs) (names_in_field (p zero) f) (names_in_fields (λ i. p (suc i)) fs) (λ y. any_in_field (writes y) f) (λ y. any_in_fields (writes y) fs) h))

      placed_field : (counts : Bool) {n : Need} {f g : Field} → InField R n f g → FieldFacts counts f → InField Placed n f g
      placed_field counts (in_one r) h = in_one (placed counts r h)
      placed_field counts (in_many r) h = in_many (placed_trees r h)
      placed_field counts (in_statements r) h = in_statements (placed_trees r h)

      placed_trees : {n : Need} {ts us : Trees} → OneNode R n ts us → TreesFacts ts → OneNode Placed n ts us
      placed_trees (first_node {a = a} {xs = ts} r) h = first_node (placed true r (first_facts (all_nodes is_core_node a) (all_in_trees is_core_node ts) (all_nodes undeclaring a) (all_in_trees undeclaring ts) (names_if true a) (names_in_trees ts) (λ y. is_written y a) (λ y. any_in_trees (writes y) ts) h))
      placed_trees (later_node {a = a} {xs = ts} r) h = later_node (placed_trees r (second_facts (all_nodes is_core_node a) (all_in_trees is_core_node ts) (all_nodes undeclaring a) (all_in_trees undeclaring ts) (names_if true a) (names_in_trees ts) (λ y. is_written y a) (λ y. any_in_trees (writes y) ts) h))
