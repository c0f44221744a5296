-- Lists of statements, and bodies of arrows, with all that is pending for them: what is known of each statement stays where temporaries are
-- declared more.
use Rattle.std.proofs.Common.{◌≡◌, refl, List, [], ◌∷◌, ◌++◌}
use Rattle.std.specs.Prelude.{Bool, true, false, Option, Some, None, codes, if◌then◌else◌, map}
use Rattle.std.proofs.lemmas.Bool.{or_from, or_parts}
use Rattle.es_tree.specs.Tree.{Tree, node, Label, Fields, done, ◌then◌, many, Trees, empty, ◌before◌, trees}
use Rattle.es_tree.specs.Words.{Text}
use Rattle.es_tree.specs.declared.ast_type.AstType.{AstType}
use Rattle.es_tree.specs.declared.ast_type.AstType.TheVariants.{VariableDeclaration}
use Rattle.es_resolution.specs.Declarations.{Bound}
use Rattle.es_steps.specs.Nodes.{declarator, joined_trees, this_statement}
use Rattle.es_steps.specs.Open.{Additions, Pending, after_imports, declaration, import_statement, is_import, pending_statements, whole_list, with_this, with_vars, written}
use Rattle.es_reached.proofs.FreeTrees.{Free, FreeAll}
use Rattle.es_rest_shapes.specs.RestShapes.{any_tree}

-- a declaration of these
abbrev pub declaring : Label → List Tree → Tree
declaring l ds = node VariableDeclaration l (many (trees ds) then done)

module _ (P : Tree → Type 0) where
  abbrev pub Each : Trees → Type 0
  Each empty = Unit {0}
  Each (t before ts) = P t × Each ts

  joined-each : (xs ts : Trees) → Each xs → Each ts → Each (joined_trees xs ts)
  joined-each empty ts h k = k
  joined-each (x before xs) ts h k = (h.0, joined-each xs ts h.1 k)

  each-joined : (xs ts : Trees) → Each (joined_trees xs ts) → Each xs × Each ts
  each-joined empty ts h = (tt, h)
  each-joined (x before xs) ts h = let k = each-joined xs ts h.1 in ((h.0, k.0), k.1)

  after-each : (bs ts : Trees) → Each bs → Each ts → Each (after_imports bs ts)
  after-each bs empty h k = h
  after-each bs (t before ts) h k = at (is_import t) (after-each bs ts h k.1)
    where
      at : (v : Bool) → Each (after_imports bs ts) → Each (if v then t before after_imports bs ts else joined_trees bs (t before ts))
      at true rest = (k.0, rest)
      at false rest = joined-each bs (t before ts) h k

  each-after : (bs ts : Trees) → Each (after_imports bs ts) → Each bs × Each ts
  each-after bs empty h = (h, tt)
  each-after bs (t before ts) h = at (is_import t) (λ k. each-after bs ts k) h
    where
      at : (v : Bool) → (Each (after_imports bs ts) → Each bs × Each ts) → Each (if v then t before after_imports bs ts else joined_trees bs (t before ts)) → Each bs × Each (t before ts)
      at true rest h = let k = rest h.1 in (k.0, (h.0, k.1))
      at false rest h = each-joined bs (t before ts) h

  -- without what is pending
  pub each-list : (p : Pending) (x : Option Bound) (a : Additions) (ts : Trees) → Each (whole_list p x a ts) → Each ts
  each-list p x a ts h = (each-after (pending_statements p x a) ts h).1

  -- what is to be known of the statements that declare: of those that stand there, of new ones, and of that of the name for `this`
  pub record Grows : Type 0 where
    pub more : (l : Label) (ds : List Tree) (bs : List Bound) → P (declaring l ds) → P (declaring l (ds ++ map declarator bs))
    pub new : (l : Label) (bs : List Bound) → P (declaring l (map declarator bs))
    pub this : (b : Bound) → P (this_statement b)

  module _ (grows : Grows) where
    same-declared : (kind : Text) (ds : List Tree) (ts us : Trees) → (Each ts → Each us) → Each (declaration kind ds ts) → Each (declaration kind ds us)
    same-declared kind [] ts us f h = f h
    same-declared kind (d ∷ ds) ts us f h = (h.0, f h.1)

    more-declared : (kind : Text) (ds : List Tree) (bs : List Bound) (ts us : Trees) → (Each ts → Each us) → Each (declaration kind ds ts) → Each (declaration kind (ds ++ map declarator bs) us)
    more-declared kind [] [] ts us f h = f h
    more-declared kind [] (b ∷ bs) ts us f h = (grows.new _ (b ∷ bs), f h)
    more-declared kind (d ∷ ds) bs ts us f h = (grows.more _ (d ∷ ds) bs h.0, f h.1)

    this-each : (x y : Option Bound) (ts us : Trees) → (Each ts → Each us) → Each (with_this x ts) → Each (with_this y us)
    this-each None None ts us f h = f h
    this-each (Some a) None ts us f h = f h.1
    this-each None (Some b) ts us f h = (grows.this b, f h)
    this-each (Some a) (Some b) ts us f h = (grows.this b, f h.1)

    imports-each : (xs : Trees) (p : Pending) (bs : List Bound) → Each (joined_trees xs (written p empty)) → Each (joined_trees xs (written (with_vars bs p) empty))
    imports-each xs p bs h =
        let k = each-joined xs (written p empty) h in
        let lets = declaration (codes "let") p.lets empty in
        joined-each xs (written (with_vars bs p) empty) k.0 (more-declared (codes "var") p.vars bs lets lets (λ e. e) k.1)

    pub list-each : (p : Pending) (x y : Option Bound) (a : Additions) (bs : List Bound) (ts us : Trees) → (Each ts → Each us) → Each (whole_list p x a ts) → Each (whole_list (with_vars bs p) y a us)
    list-each p x y a bs ts us f h =
        let imports = trees (map import_statement a.imports) in
        let k = each-after (pending_statements p x a) ts h in
        let old = joined_trees imports (written p empty) in
        let new = joined_trees imports (written (with_vars bs p) empty) in
        after-each (pending_statements (with_vars bs p) y a) us (same-declared (codes "const") a.excluded (with_this x old) (with_this y new) (λ e. this-each x y old new (λ e. imports-each imports p bs e) e) k.0) (f k.1)

    -- the statements of a body
    pub body-each : (vs ls : List Tree) (bs : List Bound) (ts us : Trees) → (Each ts → Each us) → Each (declaration (codes "var") vs (declaration (codes "let") ls ts)) → Each (declaration (codes "var") (vs ++ map declarator bs) (declaration (codes "let") ls us))
    body-each vs ls bs ts us f h = more-declared (codes "var") vs bs (declaration (codes "let") ls ts) (declaration (codes "let") ls us) (λ e. same-declared (codes "let") ls ts us f e) h

-- TESTS that no node of a list passes

module _ (q : Tree → Bool) where
  pub each-none : (ts : Trees) → any_tree q ts ≡ false → Each (λ t. q t ≡ false) ts
  each-none empty e = tt
  each-none (t before ts) e = let h = or_parts (q t) (any_tree q ts) e in (h.0, each-none ts h.1)

  pub none-each : (ts : Trees) → Each (λ t. q t ≡ false) ts → any_tree q ts ≡ false
  none-each empty h = refl
  none-each (t before ts) h = or_from (q t) (any_tree q ts) h.0 (none-each ts h.1)

  pub joined-none : (xs ts : Trees) → any_tree q xs ≡ false → any_tree q ts ≡ false → any_tree q (joined_trees xs ts) ≡ false
  joined-none empty ts e f = f
  joined-none (x before xs) ts e f = let h = or_parts (q x) (any_tree q xs) e in or_from (q x) (any_tree q (joined_trees xs ts)) h.0 (joined-none xs ts h.1 f)

  -- nor do more declarators of names
  pub more-none : ((b : Bound) → q (declarator b) ≡ false) → (ds : List Tree) (bs : List Bound) → any_tree q (trees ds) ≡ false → any_tree q (trees (ds ++ map declarator bs)) ≡ false
  more-none new [] [] e = refl
  more-none new [] (b ∷ bs) e = or_from (q (declarator b)) (any_tree q (trees (map declarator bs))) (new b) (more-none new [] bs refl)
  more-none new (d ∷ ds) bs e = let h = or_parts (q d) (any_tree q (trees ds)) e in or_from (q d) (any_tree q (trees (ds ++ map declarator bs))) h.0 (more-none new ds bs h.1)

module _ (T : AstType → Label → Fields → Bool) where
  pub each-free : (ts : Trees) → FreeAll T ts → Each (λ t. Free T t) ts
  each-free empty h = tt
  each-free (t before ts) h = (h.0, each-free ts h.1)

  pub free-each : (ts : Trees) → Each (λ t. Free T t) ts → FreeAll T ts
  free-each empty h = tt
  free-each (t before ts) h = (h.0, free-each ts h.1)
