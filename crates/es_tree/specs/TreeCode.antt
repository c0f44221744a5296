-- The code of plain trees.
use Rattle.std.specs.Prelude.{◌≡◌, refl}
use Rattle.std.specs.Coded.{Coded}
use base.Stored.{Gv, gnil, gnum, gcons}
use Rattle.std.proofs.Common.{sym, ap, subst}
use Rattle.es_tree.specs.Tree.{Tree, node, Fields, done, ◌then◌, Field, missing, one, many, statements, Trees, empty, ◌before◌, type_code, label_code}

abbrev pub head : Gv → Gv
head gnil = gnil
head (gnum n) = gnil
head (gcons a b) = a

abbrev pub tail : Gv → Gv
tail gnil = gnil
tail (gnum n) = gnil
tail (gcons a b) = b

abbrev pub IsCons : Gv → Type 0
IsCons gnil = ⊥
IsCons (gnum n) = ⊥
IsCons (gcons a b) = Unit {0}

abbrev mutual
  pub tree_gv : Tree → Gv
  tree_gv (node k l fs) = gcons (gcons (type_code.code k) (label_code.code l)) (fields_gv fs)

  pub fields_gv : Fields → Gv
  fields_gv done = gnil
  fields_gv (f then fs) = gcons (field_gv f) (fields_gv fs)

  pub field_gv : Field → Gv
  field_gv missing = gcons (gnum 0) gnil
  field_gv (one t) = gcons (gnum 1) (tree_gv t)
  field_gv (many ts) = gcons (gnum 2) (trees_gv ts)
  field_gv (statements ts) = gcons (gnum 3) (trees_gv ts)

  pub trees_gv : Trees → Gv
  trees_gv empty = gnil
  trees_gv (t before ts) = gcons (tree_gv t) (trees_gv ts)

pub no_nil : (g h : Gv) → gnil ≡ gcons g h → ⊥
no_nil g h p = let P : Gv → Type 0 = IsCons in subst P (sym p) tt

mutual
  pub tree_inj : (x y : Tree) → tree_gv x ≡ tree_gv y → x ≡ y
  tree_inj (node k l f) (node m n g) p =
      λ i. node (type_code.inj k m (ap (λ v. head (head v)) p) i) (label_code.inj l n (ap (λ v. tail (head v)) p) i) (fields_inj f g (ap tail p) i)

  pub fields_inj : (x y : Fields) → fields_gv x ≡ fields_gv y → x ≡ y
  fields_inj done done p = refl
  fields_inj done (g then gs) p = absurd (no_nil _ _ p)
  fields_inj (f then fs) done p = absurd (no_nil _ _ (sym p))
  fields_inj (f then fs) (g then gs) p = λ i. field_inj f g (ap head p) i then fields_inj fs gs (ap tail p) i

  pub field_inj : (x y : Field) → field_gv x ≡ field_gv y → x ≡ y
  field_inj missing missing p = refl
  field_inj missing (one u) p = cc
  field_inj missing (many us) p = cc
  field_inj missing (statements us) p = cc
  field_inj (one t) missing p = cc
  field_inj (one t) (one u) p = λ i. one (tree_inj t u (ap tail p) i)
  field_inj (one t) (many us) p = cc
  field_inj (one t) (statements us) p = cc
  field_inj (many ts) missing p = cc
  field_inj (many ts) (one u) p = cc
  field_inj (many ts) (many us) p = λ i. many (trees_inj ts us (ap tail p) i)
  field_inj (many ts) (statements us) p = cc
  field_inj (statements ts) missing p = cc
  field_inj (statements ts) (one u) p = cc
  field_inj (statements ts) (many us) p = cc
  field_inj (statements ts) (statements us) p = λ i. statements (trees_inj ts us (ap tail p) i)

  pub trees_inj : (x y : Trees) → trees_gv x ≡ trees_gv y → x ≡ y
  trees_inj empty empty p = refl
  trees_inj empty (u before us) p = absurd (no_nil _ _ p)
  trees_inj (t before ts) empty p = absurd (no_nil _ _ (sym p))
  trees_inj (t before ts) (u before us) p = λ i. tree_inj t u (ap head p) i before trees_inj ts us (ap tail p) i

abbrev pub tree_code : Coded Tree
tree_code = record { code = tree_gv; inj = tree_inj }
