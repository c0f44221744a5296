-- What a rule keeps at its own place, a step keeps: that a tree is core, that a name isn't among its names, that each node
-- passes a test.
use Rattle.std.proofs.Common.{◌≡◌, ℕ, zero, suc, refl, List, ◌++◌}
use Rattle.std.proofs.lemmas.Bool.{and_from}
use Rattle.std.specs.Prelude.{Bool, true, false}
use Rattle.es_tree.specs.Words.{Text}
use Rattle.es_tree.specs.Names.{names_if, names_in_fields, names_in_field, names_in_trees, own_name, is_name_place, is_reexport}
use Rattle.es_tree.specs.Fresh.{is_among}
use Rattle.es_tree.specs.Walks.{all_nodes, all_in_fields, all_in_field, all_in_trees}
use Rattle.es_tree.specs.Core.{is_core_node}
use Rattle.es_tree.specs.Tree.{Tree, node, Label, Fields, Field, Trees}
use Rattle.es_tree.specs.declared.ast_type.AstType.{AstType}
use Rattle.es_tree.specs.declared.ast_type.AstType.TheVariants.{VariableDeclaration}
use Rattle.es_runs.specs.Alike.{Need}
use Rattle.es_runs.specs.Rules.{OnePlace, OneField, InField, OneNode}
use Rattle.es_runs.specs.Rules.OnePlace.{this_place, below}
use Rattle.es_runs.specs.Rules.OneField.{first_field, later_field}
use Rattle.es_runs.specs.Rules.InField.{in_one, in_many, in_statements}
use Rattle.es_runs.specs.Rules.OneNode.{first_node, later_node}
use Rattle.es_runs.proofs.Named.{and_left, and_right, or_both, among-append, among_first, among_second, core_exports}

-- whether a node is core doesn't depend on its fields
core_label : (k : AstType) (l : Label) (fs gs : Fields) → is_core_node k l gs ≡ is_core_node k l fs
core_label VariableDeclaration l fs gs = refl
core_label _ l fs gs = refl

-- the tree is core, and a name y isn't among its names
pub record Without (y : Text) (counts : Bool) (t : Tree) : Type 0 where
  pub core : all_nodes is_core_node t ≡ true
  pub free : is_among (names_if counts t) y ≡ false

record FieldsWithout (y : Text) (p : ℕ → Bool) (fs : Fields) : Type 0 where
  core : all_in_fields is_core_node fs ≡ true
  free : is_among (names_in_fields p fs) y ≡ false

record FieldWithout (y : Text) (counts : Bool) (f : Field) : Type 0 where
  core : all_in_field is_core_node f ≡ true
  free : is_among (names_in_field counts f) y ≡ false

record TreesWithout (y : Text) (ts : Trees) : Type 0 where
  core : all_in_trees is_core_node ts ≡ true
  free : is_among (names_in_trees ts) y ≡ false

pub below_names : (counts : Bool) (k : AstType) (l : Label) (fs : Fields) → is_reexport k fs ≡ false → names_if counts (node k l fs) ≡ own_name counts k l ++ names_in_fields (is_name_place k l) fs
below_names counts k l fs e = rw e

pub among_both : (xs ys : List Text) (x : Text) → is_among xs x ≡ false → is_among ys x ≡ false → is_among (xs ++ ys) x ≡ false
among_both xs ys x e d = rw among-append (or_both (is_among xs x) (is_among ys x) e d)

-- what a rule keeps at its own place, a step keeps
module _ (R : Need → Tree → Tree → Type 0) (y : Text) (base : (n : Need) (a b : Tree) (counts : Bool) → R n a b → Without y counts a → Without y counts b) where
  mutual
    pub step_without : {n : Need} {t u : Tree} (counts : Bool) → OnePlace R n t u → Without y counts t → Without y counts u
    step_without counts (this_place {n = n} {a = a} {b = b} r) h = base n a b counts r h
    step_without counts (below {k = k} {l = l} {fs = fs} {gs = gs} r) h =
        let own = and_left (is_core_node k l fs) (all_in_fields is_core_node fs) h.core in
        let free : is_among (own_name counts k l ++ names_in_fields (is_name_place k l) fs) y ≡ false = rw (below_names counts k l fs (core_exports k l fs fs own)) at h.free in
        let inner = fields_without (is_name_place k l) r (record { core = and_right (is_core_node k l fs) (all_in_fields is_core_node fs) h.core; free = among_second (own_name counts k l) (names_in_fields (is_name_place k l) fs) y free }) in
        record {
          core = and_from (is_core_node k l gs) (all_in_fields is_core_node gs) (rw (core_label k l fs gs) own) inner.core;
          free = rw (below_names counts k l gs (core_exports k l fs gs own)) (among_both (own_name counts k l) (names_in_fields (is_name_place k l) gs) y (among_first (own_name counts k l) (names_in_fields (is_name_place k l) fs) y free) inner.free);
        }

    fields_without : {c : ℕ → Need} {fs gs : Fields} (p : ℕ → Bool) → OneField R c fs gs → FieldsWithout y p fs → FieldsWithout y p gs
    fields_without p (first_field {f = f} {g = g} {fs = fs} r) h =
        let one = field_without (p zero) r (record { core = and_left (all_in_field is_core_node f) (all_in_fields is_core_node fs) h.core; free = among_first (names_in_field (p zero) f) (names_in_fields (λ i. p (suc i)) fs) y h.free }) in
        record {
          core = and_from (all_in_field is_core_node g) (all_in_fields is_core_node fs) one.core (and_right (all_in_field is_core_node f) (all_in_fields is_core_node fs) h.core);
          free = among_both (names_in_field (p zero) g) (names_in_fields (λ i. p (suc i)) fs) y one.free (among_second (names_in_field (p zero) f) (names_in_fields (λ i. p (suc i)) fs) y h.free);
        }
    fields_without p (later_field {f = f} {fs = fs} {gs = gs} r) h =
        let rest = fields_without (λ i. p (suc i)) r (record { core = and_right (all_in_field is_core_node f) (all_in_fields is_core_node fs) h.core; free = among_second (names_in_field (p zero) f) (names_in_fields (λ i. p (suc i)) fs) y h.free }) in
        record {
          core = and_from (all_in_field is_core_node f) (all_in_fields is_core_node gs) (and_left (all_in_field is_core_node f) (all_in_fields is_core_node fs) h.core) rest.core;
          free = among_both (names_in_field (p zero) f) (names_in_fields (λ i. p (suc i)) gs) y (among_first (names_in_field (p zero) f) (names_in_fields (λ i. p (suc i)) fs) y h.free) rest.free;
        }

    field_without : {n : Need} {f g : Field} (counts : Bool) → InField R n f g → FieldWithout y counts f → FieldWithout y counts g
    field_without counts (in_one r) h = let k = step_without counts r (record { core = h.core; free = h.free }) in record { core = k.core; free = k.free }
    field_without counts (in_many r) h = let k = trees_without r (record { core = h.core; free = h.free }) in record { core = k.core; free = k.free }
    field_without counts (in_statements r) h = let k = trees_without r (record { core = h.core; free = h.free }) in record { core = k.core; free = k.free }

    trees_without : {n : Need} {ts us : Trees} → OneNode R n ts us → TreesWithout y ts → TreesWithout y us
    trees_without (first_node {a = a} {b = b} {xs = xs} r) h =
        let k = step_without true r (record { core = and_left (all_nodes is_core_node a) (all_in_trees is_core_node xs) h.core; free = among_first (names_if true a) (names_in_trees xs) y h.free }) in
        record {
          core = and_from (all_nodes is_core_node b) (all_in_trees is_core_node xs) k.core (and_right (all_nodes is_core_node a) (all_in_trees is_core_node xs) h.core);
          free = among_both (names_if true b) (names_in_trees xs) y k.free (among_second (names_if true a) (names_in_trees xs) y h.free);
        }
    trees_without (later_node {a = a} {xs = xs} {ys = ys} r) h =
        let k = trees_without r (record { core = and_right (all_nodes is_core_node a) (all_in_trees is_core_node xs) h.core; free = among_second (names_if true a) (names_in_trees xs) y h.free }) in
        record {
          core = and_from (all_nodes is_core_node a) (all_in_trees is_core_node ys) (and_left (all_nodes is_core_node a) (all_in_trees is_core_node xs) h.core) k.core;
          free = among_both (names_if true a) (names_in_trees ys) y (among_first (names_if true a) (names_in_trees xs) y h.free) k.free;
        }

-- a test of every node that holds of what a rule makes, and sees the kinds of the fields alone, holds after a step
module _ (test : AstType → Label → Fields → Bool) (R : Need → Tree → Tree → Type 0) (same : (k : AstType) (l : Label) (c : ℕ → Need) (fs gs : Fields) → OneField R c fs gs → test k l fs ≡ true → test k l gs ≡ true)
    (base : (n : Need) (a b : Tree) → R n a b → all_nodes test a ≡ true → all_nodes test b ≡ true) where
  mutual
    pub step_all : {n : Need} {t u : Tree} → OnePlace R n t u → all_nodes test t ≡ true → all_nodes test u ≡ true
    step_all (this_place {n = n} {a = a} {b = b} r) h = base n a b r h
    step_all (below {k = k} {l = l} {fs = fs} {gs = gs} r) h =
        and_from (test k l gs) (all_in_fields test gs) (same k l _ fs gs r (and_left (test k l fs) (all_in_fields test fs) h)) (fields_all r (and_right (test k l fs) (all_in_fields test fs) h))

    fields_all : {c : ℕ → Need} {fs gs : Fields} → OneField R c fs gs → all_in_fields test fs ≡ true → all_in_fields test gs ≡ true
    fields_all (first_field {f = f} {g = g} {fs = fs} r) h = and_from (all_in_field test g) (all_in_fields test fs) (field_all r (and_left (all_in_field test f) (all_in_fields test fs) h)) (and_right (all_in_field test f) (all_in_fields test fs) h)
    fields_all (later_field {f = f} {fs = fs} {gs = gs} r) h = and_from (all_in_field test f) (all_in_fields test gs) (and_left (all_in_field test f) (all_in_fields test fs) h) (fields_all r (and_right (all_in_field test f) (all_in_fields test fs) h))

    field_all : {n : Need} {f g : Field} → InField R n f g → all_in_field test f ≡ true → all_in_field test g ≡ true
    field_all (in_one r) h = step_all r h
    field_all (in_many r) h = trees_all r h
    field_all (in_statements r) h = trees_all r h

    pub trees_all : {n : Need} {ts us : Trees} → OneNode R n ts us → all_in_trees test ts ≡ true → all_in_trees test us ≡ true
    trees_all (first_node {a = a} {b = b} {xs = xs} r) h = and_from (all_nodes test b) (all_in_trees test xs) (step_all r (and_left (all_nodes test a) (all_in_trees test xs) h)) (and_right (all_nodes test a) (all_in_trees test xs) h)
    trees_all (later_node {a = a} {xs = xs} {ys = ys} r) h = and_from (all_nodes test a) (all_in_trees test ys) (and_left (all_nodes test a) (all_in_trees test xs) h) (trees_all r (and_right (all_nodes test a) (all_in_trees test xs) h))

pub step_core : (R : Need → Tree → Tree → Type 0) → ((n : Need) (a b : Tree) → R n a b → all_nodes is_core_node a ≡ true → all_nodes is_core_node b ≡ true) → {n : Need} {t u : Tree} → OnePlace R n t u → all_nodes is_core_node t ≡ true → all_nodes is_core_node u ≡ true
step_core R base = step_all is_core_node R (λ k l c fs gs r h. rw (core_label k l fs gs) h) base

-- what a rule says wherever it holds, it says of a step
module _ (R : Need → Tree → Tree → Type 0) (P : Type 0) (says : (n : Need) (a b : Tree) → R n a b → P) where
  mutual
    pub somewhere : {n : Need} {t u : Tree} → OnePlace R n t u → P
    somewhere (this_place {n = n} {a = a} {b = b} r) = says n a b r
    somewhere (below r) = somewhere_in_fields r

    somewhere_in_fields : {c : ℕ → Need} {fs gs : Fields} → OneField R c fs gs → P
    somewhere_in_fields (first_field r) = somewhere_in_field r
    somewhere_in_fields (later_field r) = somewhere_in_fields r

    somewhere_in_field : {n : Need} {f g : Field} → InField R n f g → P
    somewhere_in_field (in_one r) = somewhere r
    somewhere_in_field (in_many r) = somewhere_in_trees r
    somewhere_in_field (in_statements r) = somewhere_in_trees r

    somewhere_in_trees : {n : Need} {ts us : Trees} → OneNode R n ts us → P
    somewhere_in_trees (first_node r) = somewhere r
    somewhere_in_trees (later_node r) = somewhere_in_trees r
