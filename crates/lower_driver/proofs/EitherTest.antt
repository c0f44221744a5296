-- Where one of two tests finds no node, a test that asks for one or the other finds what the second finds.
use Rattle.std.proofs.Common.{◌≡◌, ap, refl, ◌∙◌}
use Rattle.std.specs.Prelude.{Bool, true, false, ◌&&◌, ◌||◌}
use Rattle.es_tree.specs.Tree.{Tree, node, Label, Fields, done, ◌then◌, Field, missing, one, many, statements, Trees, empty, ◌before◌}
use Rattle.es_tree.specs.Walks.{any_node, any_in_fields, any_in_field, any_in_trees}
use Rattle.es_tree.specs.declared.ast_type.AstType.{AstType}
use Rattle.es_runs.proofs.Named.{or_both, or_first, or_second}

module _ (p q r : AstType → Label → Fields → Bool) (either : (k : AstType) (l : Label) (fs : Fields) → r k l fs ≡ (p k l fs || q k l fs)) where
  mutual
    pub rest-of-tree : (t : Tree) → any_node p t ≡ false → any_node r t ≡ any_node q t
    rest-of-tree (node k l fs) a = λ i. (either k l fs ∙ ap (λ b. b || q k l fs) (or_first (p k l fs) (any_in_fields p fs) a)) i || rest-of-fields fs (or_second (p k l fs) (any_in_fields p fs) a) i

    rest-of-fields : (fs : Fields) → any_in_fields p fs ≡ false → any_in_fields r fs ≡ any_in_fields q fs
    rest-of-fields done a = refl
    rest-of-fields (f then fs) a = λ i. rest-of-field f (or_first (any_in_field p f) (any_in_fields p fs) a) i || rest-of-fields fs (or_second (any_in_field p f) (any_in_fields p fs) a) i

    rest-of-field : (f : Field) → any_in_field p f ≡ false → any_in_field r f ≡ any_in_field q f
    rest-of-field missing a = refl
    rest-of-field (one t) a = rest-of-tree t a
    rest-of-field (many ts) a = rest-of-trees ts a
    rest-of-field (statements ts) a = rest-of-trees ts a

    rest-of-trees : (ts : Trees) → any_in_trees p ts ≡ false → any_in_trees r ts ≡ any_in_trees q ts
    rest-of-trees empty a = refl
    rest-of-trees (t before ts) a = λ i. rest-of-tree t (or_first (any_node p t) (any_in_trees p ts) a) i || rest-of-trees ts (or_second (any_node p t) (any_in_trees p ts) a) i

  -- where neither finds one, none is found
  pub none-of-tree : (t : Tree) → any_node p t ≡ false → any_node q t ≡ false → any_node r t ≡ false
  none-of-tree t a b = rest-of-tree t a ∙ b

  pub none-of-trees : (ts : Trees) → any_in_trees p ts ≡ false → any_in_trees q ts ≡ false → any_in_trees r ts ≡ false
  none-of-trees ts a b = rest-of-trees ts a ∙ b

-- what passes one test passes the other, which finds none
module _ (p r : AstType → Label → Fields → Bool) (fewer : (k : AstType) (l : Label) (fs : Fields) → r k l fs ≡ false → p k l fs ≡ false) where
  mutual
    pub fewer-in-tree : (t : Tree) → any_node r t ≡ false → any_node p t ≡ false
    fewer-in-tree (node k l fs) h = or_both (p k l fs) (any_in_fields p fs) (fewer k l fs (or_first (r k l fs) (any_in_fields r fs) h)) (fewer-in-fields fs (or_second (r k l fs) (any_in_fields r fs) h))

    pub fewer-in-fields : (fs : Fields) → any_in_fields r fs ≡ false → any_in_fields p fs ≡ false
    fewer-in-fields done h = refl
    fewer-in-fields (f then fs) h = or_both (any_in_field p f) (any_in_fields p fs) (fewer-in-field f (or_first (any_in_field r f) (any_in_fields r fs) h)) (fewer-in-fields fs (or_second (any_in_field r f) (any_in_fields r fs) h))

    fewer-in-field : (f : Field) → any_in_field r f ≡ false → any_in_field p f ≡ false
    fewer-in-field missing h = refl
    fewer-in-field (one t) h = fewer-in-tree t h
    fewer-in-field (many ts) h = fewer-in-trees ts h
    fewer-in-field (statements ts) h = fewer-in-trees ts h

    fewer-in-trees : (ts : Trees) → any_in_trees r ts ≡ false → any_in_trees p ts ≡ false
    fewer-in-trees empty h = refl
    fewer-in-trees (t before ts) h = or_both (any_node p t) (any_in_trees p ts) (fewer-in-tree t (or_first (any_node r t) (any_in_trees r ts) h)) (fewer-in-trees ts (or_second (any_node r t) (any_in_trees r ts) h))

-- a test that is off finds none
abbrev never : AstType → Label → Fields → Bool
never k l fs = false

mutual
  none-never : (t : Tree) → any_node never t ≡ false
  none-never (node k l fs) = none-never-in fs

  none-never-in : (fs : Fields) → any_in_fields never fs ≡ false
  none-never-in done = refl
  none-never-in (f then fs) = λ i. none-never-by f i || none-never-in fs i

  none-never-by : (f : Field) → any_in_field never f ≡ false
  none-never-by missing = refl
  none-never-by (one t) = none-never t
  none-never-by (many ts) = none-never-among ts
  none-never-by (statements ts) = none-never-among ts

  none-never-among : (ts : Trees) → any_in_trees never ts ≡ false
  none-never-among empty = refl
  none-never-among (t before ts) = λ i. none-never t i || none-never-among ts i

pub any-where : (on : Bool) (test : AstType → Label → Fields → Bool) (t : Tree) → any_node (λ k l fs. on && test k l fs) t ≡ (on && any_node test t)
any-where true test t = refl
any-where false test t = none-never t

-- the same of fields
pub any-where-in : (on : Bool) (test : AstType → Label → Fields → Bool) (fs : Fields) → any_in_fields (λ k l gs. on && test k l gs) fs ≡ (on && any_in_fields test fs)
any-where-in true test fs = refl
any-where-in false test fs = none-never-in fs
