-- Heads of loops, as the code takes them apart, and as they are defined.
use Rattle.std.specs.Prelude.{◌&&◌, Some, None, true, if◌then◌else◌}
use Rattle.std.proofs.Common.{◌≡◌, ◌∙◌, refl, sym, List, [], ◌∷◌, Bool, false, length}
use Rattle.es_tree.specs.Tree.{Tree, Trees, node, Label, Fields, done, ◌then◌, Field, missing, one, many, statements, empty, ◌before◌, trees}
use Rattle.es_tree.specs.Views.{plain_field, plain_fields}
use Rattle.es_tree.specs.declared.ast_type.AstType.TheVariants.{VariableDeclaration, VariableDeclarator}
use Rattle.es_tree.specs.declared.node.Field.{Field as NodeField}
use Rattle.es_rest_shapes.specs.RestShapes.{is_name}
use Rattle.es_using_heads.specs.Heads.{from_head}
use Rattle.es_using_rows.specs.UsingPlaces.{is_using_word}
use Rattle.es_using_nodes.specs.HeadFields.{bare_name, in_head, in_three, listed_name, only_name, passes}

abbrev declaring : Label → Trees → Tree
declaring l ds = node VariableDeclaration l (many ds then done)

abbrev declarator : Label → Tree → Field → Tree
declarator m x f = node VariableDeclarator m (one x then f then done)

module _ (test : Tree → Tree → Bool) where
  -- a head that declares no name so
  none : (h : Tree) (fs : Fields) → ((e : Tree) → in_head test h e ≡ false) → in_three test (one h then fs) ≡ false
  none h (one e then one b then done) n = n e
  none h (one e then one b then f then fs) n = refl
  none h (one e then many ts then fs) n = refl
  none h (one e then statements ts then fs) n = refl
  none h (one e then missing then fs) n = refl
  none h (one e then done) n = refl
  none h (many ts then fs) n = refl
  none h (statements ts then fs) n = refl
  none h (missing then fs) n = refl
  none h done n = refl

  unused : (l : Label) (gs : Fields) → listed_name gs ≡ None → (e : Tree) → in_head test (node VariableDeclaration l gs) e ≡ false
  unused l gs n e = at (is_using_word l.texts)
    where
      at : (b : Bool) → passes test e (if b then listed_name gs else None) ≡ false
      at true = λ i. passes test e (n i)
      at false = refl

  named : (a b : Bool) (x e : Tree) → passes test e (if a then (if b then Some x else None) else None) ≡ (a && b && test x e)
  named true true x e = refl
  named true false x e = refl
  named false b x e = refl

  one-name : (l m : Label) (x : Tree) (fs : Fields) → in_three test (one (declaring l (declarator m x missing before empty)) then fs) ≡ from_head test (one (declaring l (declarator m x missing before empty)) then fs)
  one-name l m x (one e then one b then done) = named (is_using_word l.texts) (is_name x) x e
  one-name l m x (one e then one b then f then fs) = refl
  one-name l m x (one e then many ts then fs) = refl
  one-name l m x (one e then statements ts then fs) = refl
  one-name l m x (one e then missing then fs) = refl
  one-name l m x (one e then done) = refl
  one-name l m x (many ts then fs) = refl
  one-name l m x (statements ts then fs) = refl
  one-name l m x (missing then fs) = refl
  one-name l m x done = refl

  only-first : (l : Label) (d : Tree) (fs : Fields) → in_three test (one (declaring l (d before empty)) then fs) ≡ from_head test (one (declaring l (d before empty)) then fs)
  only-first l (node VariableDeclarator m (one x then missing then done)) fs = one-name l m x fs
  only-first l (node VariableDeclarator m (one x then one v then done)) fs = none (declaring l (declarator m x (one v) before empty)) fs (unused l (many (declarator m x (one v) before empty) then done) refl)
  only-first l (node VariableDeclarator m (one x then many vs then done)) fs = none (declaring l (declarator m x (many vs) before empty)) fs (unused l (many (declarator m x (many vs) before empty) then done) refl)
  only-first l (node VariableDeclarator m (one x then statements vs then done)) fs = none (declaring l (declarator m x (statements vs) before empty)) fs (unused l (many (declarator m x (statements vs) before empty) then done) refl)
  only-first l d fs = none (declaring l (d before empty)) fs (unused l (many (d before empty) then done) refl)

  more-declarators : (l : Label) (d u : Tree) (ds : Trees) (fs : Fields) → from_head test (one (declaring l (d before u before ds)) then fs) ≡ false
  more-declarators l (node VariableDeclarator m (one x then missing then done)) u ds fs = refl
  more-declarators l d u ds fs = refl

  list-first : (l : Label) (ds : Trees) (fs : Fields) → in_three test (one (declaring l ds) then fs) ≡ from_head test (one (declaring l ds) then fs)
  list-first l empty fs = none (declaring l empty) fs (unused l (many empty then done) refl)
  list-first l (d before empty) fs = only-first l d fs
  list-first l (d before u before ds) fs = none (declaring l (d before u before ds)) fs (unused l (many (d before u before ds) then done) refl) ∙ sym (more-declarators l d u ds fs)

  more-fields : (l : Label) (ds : Trees) (g : Field) (gs fs : Fields) → from_head test (one (node VariableDeclaration l (many ds then g then gs)) then fs) ≡ false
  more-fields l (node VariableDeclarator m (one x then missing then done) before empty) g gs fs = refl
  more-fields l ds g gs fs = refl

  declaration-first : (l : Label) (gs fs : Fields) → in_three test (one (node VariableDeclaration l gs) then fs) ≡ from_head test (one (node VariableDeclaration l gs) then fs)
  declaration-first l (many ds then done) fs = list-first l ds fs
  declaration-first l (many ds then g then gs) fs = none (node VariableDeclaration l (many ds then g then gs)) fs (unused l (many ds then g then gs) refl) ∙ sym (more-fields l ds g gs fs)
  declaration-first l (one t then gs) fs = none (node VariableDeclaration l (one t then gs)) fs (unused l (one t then gs) refl)
  declaration-first l (statements ts then gs) fs = none (node VariableDeclaration l (statements ts then gs)) fs (unused l (statements ts then gs) refl)
  declaration-first l (missing then gs) fs = none (node VariableDeclaration l (missing then gs)) fs (unused l (missing then gs) refl)
  declaration-first l done fs = none (node VariableDeclaration l done) fs (unused l done refl)

  head-first : (h : Tree) (fs : Fields) → in_three test (one h then fs) ≡ from_head test (one h then fs)
  head-first (node VariableDeclaration l gs) fs = declaration-first l gs fs
  head-first h fs = none h fs (λ e. refl)

  pub head-three : (fs : Fields) → in_three test fs ≡ from_head test fs
  head-three (one h then fs) = head-first h fs
  head-three (many ts then fs) = refl
  head-three (statements ts then fs) = refl
  head-three (missing then fs) = refl
  head-three done = refl

-- OTHER NUMBERS of fields and declarators

pub other-parts : (fs : List NodeField) → (length fs ≡ 2 → ⊥) → bare_name (plain_fields fs) ≡ None
other-parts [] h = refl
other-parts (f ∷ []) h = at (plain_field f)
  where
    at : (a : Field) → bare_name (a then done) ≡ None
    at missing = refl
    at (one t) = refl
    at (many ts) = refl
    at (statements ts) = refl
other-parts (f ∷ g ∷ []) h = absurd (h refl)
other-parts (f ∷ g ∷ i ∷ fs) h = at (plain_field f)
  where
    at : (a : Field) → bare_name (a then plain_field g then plain_field i then plain_fields fs) ≡ None
    at missing = refl
    at (one t) = refl
    at (many ts) = refl
    at (statements ts) = refl

pub other-lists : (fs : List NodeField) → (length fs ≡ 1 → ⊥) → listed_name (plain_fields fs) ≡ None
other-lists [] h = refl
other-lists (f ∷ []) h = absurd (h refl)
other-lists (f ∷ g ∷ fs) h = at (plain_field f)
  where
    at : (a : Field) → listed_name (a then plain_field g then plain_fields fs) ≡ None
    at missing = refl
    at (one t) = refl
    at (many ts) = refl
    at (statements ts) = refl

pub other-declarators : (ds : List Tree) → (length ds ≡ 1 → ⊥) → only_name (trees ds) ≡ None
other-declarators [] h = refl
other-declarators (d ∷ []) h = absurd (h refl)
other-declarators (d ∷ u ∷ ds) h = refl
