-- A program that binds no `babelHelpers` binds none once `using` moved out of heads of loops: it declares the same names, and fresh ones, which are others.
use Rattle.std.proofs.Common.{◌≡◌, ◌∙◌, ℕ, zero, suc, List, ap, refl, sym, true≢false}
use Rattle.std.specs.Prelude.{Bool, true, false, ◌||◌, bytes_eq, codes, if◌then◌else◌}
use Rattle.std.proofs.lemmas.Bool.{or_from, or_left, or_parts, or_right}
use Rattle.es_tree.specs.Children.{child_at}
use Rattle.es_tree.specs.Fresh.{IsFreshName}
use Rattle.es_tree.specs.Scopes.{own_text}
use Rattle.es_tree.specs.Tree.{Tree, node, Label, Fields, done, ◌then◌, Field, missing, one, many, statements, Trees, empty, ◌before◌}
use Rattle.es_tree.specs.Words.{Text}
use Rattle.es_tree.specs.declared.ast_type.AstType.{AstType}
use Rattle.es_tree.specs.declared.ast_type.AstType.TheVariants.{ClassDeclaration, ClassExpression, ForOfStatement, Identifier, VariableDeclaration, VariableDeclarator}
use Rattle.es_semantic.specs.SymbolsOf.{symbols_of}
use Rattle.es_resolution.proofs.Basics.{bytes_eq-equal}
use Rattle.es_steps.specs.CoreBridge.{first_whole}
use Rattle.es_pattern_moves.specs.Moved.{Makes, name_of, plainly}
use Rattle.es_rest_shapes.specs.HelperNames.{binds_helpers}
use Rattle.es_bound_names.specs.BoundNames.{declares, declares_among, declares_at, declares_by, declares_in, is_name_of, own_declares}
use Rattle.es_bound_names.proofs.Declaring.{law_bound_proof}
use Rattle.es_using_heads.specs.Heads.{Fresh, FreshAmong, FreshBy, FreshHere, FreshIn, HeadsTo, head_base, headed, headed_among, headed_by, headed_fields, headed_in, moves_using, with_first}

module _ (x : Text) (in_use : Text → Bool) (used : in_use x ≡ true) (names : List Text) where
  abbrev m : Makes
  m = plainly names

  -- it stays in use
  still-used : (n : ℕ) → with_first names n in_use x ≡ true
  still-used zero = used
  still-used (suc n) = or_left (with_first names n in_use x) (bytes_eq (name_of names n) x) (still-used n)

  other : (n : ℕ) (base : Text) → IsFreshName (with_first names n in_use) base (name_of names n) → bytes_eq (name_of names n) x ≡ false
  other n base fresh = at (bytes_eq (name_of names n) x) refl
    where
      at : (b : Bool) → bytes_eq (name_of names n) x ≡ b → bytes_eq (name_of names n) x ≡ false
      at true e = absurd (true≢false (sym (still-used n) ∙ (ap (with_first names n in_use) (sym (bytes_eq-equal (name_of names n) x e)) ∙ fresh.free)))
      at false e = e

  -- a loop that moves
  moved-none : (n : ℕ) (fs : Fields) → bytes_eq (name_of names n) x ≡ false → declares_in x (declares_at false ForOfStatement) fs ≡ false → declares_in x (declares_at false ForOfStatement) (headed_fields m n fs) ≡ false
  moved-none n (one (node VariableDeclaration l' (many (node VariableDeclarator k (one t then missing then done) before empty) then done)) then one e then one b then done) name h =
      let head = or_parts (declares x false (node VariableDeclaration l' (many (node VariableDeclarator k (one t then missing then done) before empty) then done))) (declares x false e || (declares x false b || false)) h in
      let inner : (declares x true t || false) ≡ false = (or_parts _ false (or_parts _ false head.0).0).0 in
      let rest = or_parts (declares x false e) (declares x false b || false) head.1 in
      rw (name, (or_parts (declares x true t) false inner).0, rest.0, (or_parts (declares x false b) false rest.1).0) refl
  moved-none n _ name h = h

  abbrev None_in : Bool → ℕ × Tree → Type 0
  None_in b r = declares x b r.1 ≡ false

  -- the name of a class
  abbrev text_in : ℕ × Tree → Text
  text_in r = own_text r.1

  text-kept : (n : ℕ) (t : Tree) → own_text (headed m n t).1 ≡ own_text t
  text-kept n (node k l fs) = at (moves_using k l (headed_in m n fs).1)
    where
      at : (b : Bool) → text_in (if b then (suc (headed_in m n fs).0, node k l (headed_fields m (headed_in m n fs).0 (headed_in m n fs).1)) else ((headed_in m n fs).0, node k l (headed_in m n fs).1)) ≡ own_text (node k l fs)
      at true = refl
      at false = refl

  name-kept : (n : ℕ) (fs : Fields) → is_name_of x (child_at 0 (headed_in m n fs).1) ≡ is_name_of x (child_at 0 fs)
  name-kept n done = refl
  name-kept n (missing then fs) = refl
  name-kept n (one t then fs) = ap (λ (y : Text). bytes_eq y x) (text-kept n t)
  name-kept n (many ts then fs) = refl
  name-kept n (statements ts then fs) = refl

  own-kept : (b : Bool) (n : ℕ) (k : AstType) (l : Label) (fs : Fields) → own_declares x b k l (headed_in m n fs).1 ≡ own_declares x b k l fs
  own-kept b n Identifier l fs = refl
  own-kept b n ClassDeclaration l fs = name-kept n fs
  own-kept b n ClassExpression l fs = name-kept n fs
  own-kept b n _ l fs = refl

  -- a node whose parts moved
  here-none : (b : Bool) (n : ℕ) (k : AstType) (l : Label) (fs : Fields) → FreshHere m in_use names n k l fs → own_declares x b k l fs ≡ false → declares_in x (declares_at b k) fs ≡ false →
      (c : Bool) → moves_using k l fs ≡ c → None_in b (if c then (suc n, node k l (headed_fields m n fs)) else (n, node k l fs))
  here-none b n ForOfStatement l fs fresh own inside true e = moved-none n fs (other n (head_base fs) (fresh e)) inside
  here-none b n k l fs fresh own inside true e = absurd (cc e)
  here-none b n k l fs fresh own inside false e = or_from (own_declares x b k l fs) (declares_in x (declares_at b k) fs) own inside

  mutual
    tree-none : (b : Bool) (n : ℕ) (t : Tree) → Fresh m in_use names n t → declares x b t ≡ false → None_in b (headed m n t)
    tree-none b n (node k l fs) fresh h =
        let parts = or_parts (own_declares x b k l fs) (declares_in x (declares_at b k) fs) h in
        here-none b (headed_in m n fs).0 k l (headed_in m n fs).1 fresh.1 (own-kept b n k l fs ∙ parts.0) (fields-none (declares_at b k) n fs fresh.0 parts.1) (moves_using k l (headed_in m n fs).1) refl

    fields-none : (bs : ℕ → Bool) (n : ℕ) (fs : Fields) → FreshIn m in_use names n fs → declares_in x bs fs ≡ false → declares_in x bs (headed_in m n fs).1 ≡ false
    fields-none bs n done fresh h = refl
    fields-none bs n (f then fs) fresh h =
        let parts = or_parts (declares_by x (bs zero) f) (declares_in x (λ i. bs (suc i)) fs) h in
        or_from (declares_by x (bs zero) (headed_by m n f).1) (declares_in x (λ i. bs (suc i)) (headed_in m (headed_by m n f).0 fs).1) (field-none (bs zero) n f fresh.0 parts.0) (fields-none (λ i. bs (suc i)) (headed_by m n f).0 fs fresh.1 parts.1)

    field-none : (b : Bool) (n : ℕ) (f : Field) → FreshBy m in_use names n f → declares_by x b f ≡ false → declares_by x b (headed_by m n f).1 ≡ false
    field-none b n missing fresh h = refl
    field-none b n (one t) fresh h = tree-none b n t fresh h
    field-none b n (many ts) fresh h = trees-none b n ts fresh h
    field-none b n (statements ts) fresh h = trees-none b n ts fresh h

    trees-none : (b : Bool) (n : ℕ) (ts : Trees) → FreshAmong m in_use names n ts → declares_among x b ts ≡ false → declares_among x b (headed_among m n ts).1 ≡ false
    trees-none b n empty fresh h = refl
    trees-none b n (t before ts) fresh h =
        let parts = or_parts (declares x b t) (declares_among x b ts) h in
        or_from (declares x b (headed m n t).1) (declares_among x b (headed_among m (headed m n t).0 ts).1) (tree-none b n t fresh.0 parts.0) (trees-none b (headed m n t).0 ts fresh.1 parts.1)

pub headed-unbound : (p q : Tree) (names : List Text) → HeadsTo (first_whole p).in_use p q names → binds_helpers (symbols_of p) ≡ false → binds_helpers (symbols_of q) ≡ false
headed-unbound p q names heads none =
    let x = codes "babelHelpers" in
    law_bound_proof x q ∙ ap (declares x false) heads.tree ∙ tree-none x (first_whole p).in_use (or_right _ _ refl) names false 0 p heads.fresh (sym (law_bound_proof x p) ∙ none)
