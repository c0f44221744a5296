-- A value is a form of at most one tree: its trees are the same but for ids and marks, and a tree with ids in node order
-- and without marks is known by the rest.
use Rattle.std.proofs.Common.{◌≡◌, ℕ, suc, ◌+◌, ◌∙◌, refl, sym, ap, subst}
use Rattle.es_tree.specs.Tree.{Tree, node, Label, Fields, done, ◌then◌, Field, missing, one, many, statements, Trees, empty, ◌before◌, tree_size, field_size}
use Rattle.es_tree.specs.Bare.{bare, bare_label, bare_fields, bare_field, bare_trees}
use Rattle.es_tree.specs.Order.{IsNumbered, AreFieldsNumbered, IsFieldNumbered, AreTreesNumbered, IsUnmarked, AreFieldsUnmarked, IsFieldUnmarked, AreTreesUnmarked}
use Rattle.es_json.specs.Laws.{OneTree}
use Rattle.es_json.proofs.SameTrees.{same_tree}

-- what makes two trees one
abbrev AreFresh : ℕ → Tree → Tree → Type 0
AreFresh n t u = IsNumbered n t × IsNumbered n u × IsUnmarked t × IsUnmarked u

abbrev AreFieldsFresh : ℕ → Fields → Fields → Type 0
AreFieldsFresh n fs gs = AreFieldsNumbered n fs × AreFieldsNumbered n gs × AreFieldsUnmarked fs × AreFieldsUnmarked gs

abbrev IsFieldFresh : ℕ → Field → Field → Type 0
IsFieldFresh n f g = IsFieldNumbered n f × IsFieldNumbered n g × IsFieldUnmarked f × IsFieldUnmarked g

abbrev AreTreesFresh : ℕ → Trees → Trees → Type 0
AreTreesFresh n ts us = AreTreesNumbered n ts × AreTreesNumbered n us × AreTreesUnmarked ts × AreTreesUnmarked us

label_known : (l m : Label) → bare_label l ≡ bare_label m → l.id ≡ m.id → l.marks ≡ m.marks → l ≡ m
label_known l m e id marks = λ i. record { id = id i; start = (e i).start; stop = (e i).stop; texts = (e i).texts; flags = (e i).flags; marks = marks i }

mutual
  tree_known : (n : ℕ) (t u : Tree) → bare t ≡ bare u → AreFresh n t u → t ≡ u
  tree_known n (node k l fs) (node m j gs) e h =
      let kinds : k ≡ m = cc e in
      let labels : bare_label l ≡ bare_label j = cc e in
      let marks : l.marks ≡ j.marks = cc (kinds, h.2.0, h.3.0) in
      let label = label_known l j labels (h.0.0 ∙ sym h.1.0) marks in
      let children = fields_known (suc n) fs gs (cc e) (h.0.1, h.1.1, h.2.1, h.3.1) in
      λ i. node (kinds i) (label i) (children i)

  fields_known : (n : ℕ) (fs gs : Fields) → bare_fields fs ≡ bare_fields gs → AreFieldsFresh n fs gs → fs ≡ gs
  fields_known n done done e h = refl
  fields_known n done (g then gs) e h = absurd (cc e)
  fields_known n (f then fs) done e h = absurd (cc e)
  fields_known n (f then fs) (g then gs) e h =
      let first = field_known n f g (cc e) (h.0.0, h.1.0, h.2.0, h.3.0) in
      let P : Field → Type 0 = λ x. AreFieldsNumbered (n + field_size x) gs in
      let rest = fields_known (n + field_size f) fs gs (cc e) (h.0.1, subst P (sym first) h.1.1, h.2.1, h.3.1) in
      λ i. first i then rest i

  field_known : (n : ℕ) (f g : Field) → bare_field f ≡ bare_field g → IsFieldFresh n f g → f ≡ g
  field_known n missing missing e h = refl
  field_known n missing (one u) e h = absurd (cc e)
  field_known n missing (many us) e h = absurd (cc e)
  field_known n missing (statements us) e h = absurd (cc e)
  field_known n (one t) missing e h = absurd (cc e)
  field_known n (one t) (one u) e h = ap one (tree_known n t u (cc e) h)
  field_known n (one t) (many us) e h = absurd (cc e)
  field_known n (one t) (statements us) e h = absurd (cc e)
  field_known n (many ts) missing e h = absurd (cc e)
  field_known n (many ts) (one u) e h = absurd (cc e)
  field_known n (many ts) (many us) e h = ap many (trees_known n ts us (cc e) h)
  field_known n (many ts) (statements us) e h = absurd (cc e)
  field_known n (statements ts) missing e h = absurd (cc e)
  field_known n (statements ts) (one u) e h = absurd (cc e)
  field_known n (statements ts) (many us) e h = absurd (cc e)
  field_known n (statements ts) (statements us) e h = ap statements (trees_known n ts us (cc e) h)

  trees_known : (n : ℕ) (ts us : Trees) → bare_trees ts ≡ bare_trees us → AreTreesFresh n ts us → ts ≡ us
  trees_known n empty empty e h = refl
  trees_known n empty (u before us) e h = absurd (cc e)
  trees_known n (t before ts) empty e h = absurd (cc e)
  trees_known n (t before ts) (u before us) e h =
      let first = tree_known n t u (cc e) (h.0.0, h.1.0, h.2.0, h.3.0) in
      let P : Tree → Type 0 = λ x. AreTreesNumbered (n + tree_size x) us in
      let rest = trees_known (n + tree_size t) ts us (cc e) (h.0.1, subst P (sym first) h.1.1, h.2.1, h.3.1) in
      λ i. first i before rest i

pub one_tree_always : OneTree
one_tree_always s v t u n f g a b x y = tree_known n t u (same_tree s v t u f g) (a, b, x, y)
