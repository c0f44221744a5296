-- Once `using` moved out of heads and is lowered, a declaration declares as many names as before: a node at which it does keeps its kind or becomes a `try`,
-- and neither is a declaration or a pattern.
use Rattle.std.proofs.Common.{◌≡◌, ◌∙◌, ℕ, suc, refl, sym, ap, arith, List, [], length, length-append}
use Rattle.std.specs.Prelude.{Bool, true, false, if◌then◌else◌}
use Rattle.es_tree.specs.BoundNames.{bound_identifiers, bound_in_field, bound_in_fields, bound_in_first, bound_in_second, bound_in_trees}
use Rattle.es_tree.specs.Tree.{Tree, node, Label, Fields, done, ◌then◌, Field, missing, one, many, statements, Trees, empty, ◌before◌, kind_of}
use Rattle.es_tree.specs.Words.{Text}
use Rattle.es_tree.specs.declared.ast_type.AstType.{AstType}
use Rattle.es_tree.specs.declared.ast_type.AstType.TheVariants.{ArrayPattern, ArrowFunctionExpression, AssignmentPattern, BlockStatement, ClassDeclaration, ForStatement, FunctionDeclaration, FunctionExpression, Identifier, LabeledStatement, ObjectPattern, PatternProperty, RestElement, StaticBlock, SwitchStatement, TryStatement, VariableDeclaration, VariableDeclarator}
use Rattle.es_pattern_moves.specs.Moved.{Makes as HeadMakes, plainly as plainly_headed}
use Rattle.es_using_rows.specs.Used.{Makes as UsedMakes, constants, tried, used, used_among, used_by, used_in, used_node}
use Rattle.es_using_rows.specs.UsingPlaces.{is_part, standing_in, uses_here}
use Rattle.es_using_rows.specs.declared.standing.Standing.{Standing}
use Rattle.es_using_rows.proofs.UsedSize.{AreNames}
use Rattle.es_using_heads.specs.Heads.{headed, headed_among, headed_by, headed_in}
use Rattle.es_using_heads.proofs.HeadWeights.{kind-stays}
use Rattle.es_export_splits.specs.Splits.{names_of_declarator, names_of_declarators}
use Rattle.es_using_modules.specs.ModuleTops.{names_declared}

-- KINDS that bind or declare names, and nodes of others

abbrev binds : AstType → Bool
binds ArrayPattern = true
binds AssignmentPattern = true
binds Identifier = true
binds ObjectPattern = true
binds PatternProperty = true
binds RestElement = true
binds _ = false

unbound : (t : Tree) → binds (kind_of t) ≡ false → bound_identifiers t ≡ []
unbound (node ArrayPattern l fs) e = absurd (cc e)
unbound (node AssignmentPattern l fs) e = absurd (cc e)
unbound (node Identifier l fs) e = absurd (cc e)
unbound (node ObjectPattern l fs) e = absurd (cc e)
unbound (node PatternProperty l fs) e = absurd (cc e)
unbound (node RestElement l fs) e = absurd (cc e)
unbound (node _ l fs) e = refl

abbrev is_declarator : AstType → Bool
is_declarator VariableDeclarator = true
is_declarator _ = false

undeclared : (t : Tree) → is_declarator (kind_of t) ≡ false → names_of_declarator t ≡ []
undeclared (node VariableDeclarator l fs) e = absurd (cc e)
undeclared (node _ l fs) e = refl

abbrev pub is_declaration : AstType → Bool
is_declaration ClassDeclaration = true
is_declaration VariableDeclaration = true
is_declaration _ = false

undeclaring : (t : Tree) → is_declaration (kind_of t) ≡ false → names_declared t ≡ []
undeclaring (node ClassDeclaration l fs) e = absurd (cc e)
undeclaring (node VariableDeclaration l fs) e = absurd (cc e)
undeclaring (node _ l fs) e = refl

module _ (heads : List Text) (m : UsedMakes) (named : AreNames m) where
  abbrev h : HeadMakes
  h = plainly_headed heads

  -- what a tree becomes
  abbrev pub lowered : Standing → ℕ → ℕ → Tree → Tree
  lowered s n i t = (used m s n (headed h i t).1).1

  -- A TEST of kinds that a `try` doesn't pass: a node that doesn't becomes one that doesn't
  module _ (q : AstType → Bool) (tries : q TryStatement ≡ false) where
    node-fails : (s : Standing) (n : ℕ) (k : AstType) (l : Label) (fs : Fields) → q k ≡ false → uses_here s k l fs ≡ true → q (kind_of (used_node m s n k l fs)) ≡ false
    node-fails s n BlockStatement l (statements ts then done) e on = at (is_part s)
      where
        at : (c : Bool) → let o : Tree = node BlockStatement l (statements ts then done) in q (kind_of (if c then node BlockStatement l (statements (tried m n o (constants m n ts) before empty) then done) else tried m n o (constants m n ts))) ≡ false
        at true = e
        at false = tries
    node-fails s n BlockStatement l _ e on = absurd (cc on)
    node-fails s n SwitchStatement l (d then many cs then done) e on = tries
    node-fails s n SwitchStatement l _ e on = absurd (cc on)
    node-fails s n ForStatement l fs e on = tries
    node-fails s n LabeledStatement l fs e on = tries
    node-fails s n StaticBlock l (statements ts then done) e on = e
    node-fails s n StaticBlock l _ e on = absurd (cc on)
    node-fails s n FunctionDeclaration l fs e on = e
    node-fails s n FunctionExpression l fs e on = e
    node-fails s n ArrowFunctionExpression l fs e on = e
    node-fails s n _ l fs e on = absurd (cc on)

    abbrev Fails : ℕ × Tree → Type 0
    Fails r = q (kind_of r.1) ≡ false

    used-fails : (s : Standing) (n : ℕ) (t : Tree) → q (kind_of t) ≡ false → q (kind_of (used m s n t).1) ≡ false
    used-fails s n (node k l fs) e = at (used_in m (standing_in k) n fs).0 (used_in m (standing_in k) n fs).1 (uses_here s k l (used_in m (standing_in k) n fs).1) refl
      where
        at : (j : ℕ) (gs : Fields) (c : Bool) → uses_here s k l gs ≡ c → Fails (if c then (suc j, used_node m s j k l gs) else (j, node k l gs))
        at j gs true on = node-fails s j k l gs e on
        at j gs false on = e

    pub fails : (s : Standing) (n i : ℕ) (t : Tree) → q (kind_of t) ≡ false → q (kind_of (lowered s n i t)) ≡ false
    fails s n i t e = used-fails s n (headed h i t).1 (ap q (kind-stays heads m named i t) ∙ e)

  -- PATTERNS bind as many names

  none-bound : (s : Standing) (n i : ℕ) (t : Tree) → binds (kind_of t) ≡ false → length (bound_identifiers (lowered s n i t)) ≡ length (bound_identifiers t)
  none-bound s n i t e = ap (length {A = Tree}) (unbound (lowered s n i t) (fails binds refl s n i t e) ∙ sym (unbound t e))

  mutual
    bound-same : (s : Standing) (n i : ℕ) (t : Tree) → length (bound_identifiers (lowered s n i t)) ≡ length (bound_identifiers t)
    bound-same s n i (node ArrayPattern l fs) = all-same (standing_in ArrayPattern) n i fs
    bound-same s n i (node AssignmentPattern l fs) = first-same (standing_in AssignmentPattern) n i fs
    bound-same s n i (node Identifier l fs) = refl
    bound-same s n i (node ObjectPattern l fs) = first-same (standing_in ObjectPattern) n i fs
    bound-same s n i (node PatternProperty l fs) = second-same (standing_in PatternProperty) n i fs
    bound-same s n i (node RestElement l fs) = first-same (standing_in RestElement) n i fs
    bound-same s n i t = none-bound s n i t refl

    all-same : (c : ℕ → Standing) (n i : ℕ) (fs : Fields) → length (bound_in_fields (used_in m c n (headed_in h i fs).1).1) ≡ length (bound_in_fields fs)
    all-same c n i done = refl
    all-same c n i (f then fs) =
        let r : ℕ × Field = used_by m (c 0) n (headed_by h i f).1 in
        let j : ℕ = (headed_by h i f).0 in
        let rest : Fields = (used_in m (λ k. c (suc k)) r.0 (headed_in h j fs).1).1 in
        omega (arith, length-append (bound_in_field f) (bound_in_fields fs), length-append (bound_in_field r.1) (bound_in_fields rest), part-same (c 0) n i f, all-same (λ k. c (suc k)) r.0 j fs)

    first-same : (c : ℕ → Standing) (n i : ℕ) (fs : Fields) → length (bound_in_first (used_in m c n (headed_in h i fs).1).1) ≡ length (bound_in_first fs)
    first-same c n i done = refl
    first-same c n i (f then fs) = part-same (c 0) n i f

    second-same : (c : ℕ → Standing) (n i : ℕ) (fs : Fields) → length (bound_in_second (used_in m c n (headed_in h i fs).1).1) ≡ length (bound_in_second fs)
    second-same c n i done = refl
    second-same c n i (f then fs) = first-same (λ k. c (suc k)) (used_by m (c 0) n (headed_by h i f).1).0 (headed_by h i f).0 fs

    part-same : (s : Standing) (n i : ℕ) (f : Field) → length (bound_in_field (used_by m s n (headed_by h i f).1).1) ≡ length (bound_in_field f)
    part-same s n i missing = refl
    part-same s n i (one t) = bound-same s n i t
    part-same s n i (many ts) = parts-same s n i ts
    part-same s n i (statements ts) = parts-same s n i ts

    parts-same : (s : Standing) (n i : ℕ) (ts : Trees) → length (bound_in_trees (used_among m s n (headed_among h i ts).1).1) ≡ length (bound_in_trees ts)
    parts-same s n i empty = refl
    parts-same s n i (t before ts) =
        let r : ℕ × Tree = used m s n (headed h i t).1 in
        let j : ℕ = (headed h i t).0 in
        let rest : Trees = (used_among m s r.0 (headed_among h j ts).1).1 in
        omega (arith, length-append (bound_identifiers t) (bound_in_trees ts), length-append (bound_identifiers r.1) (bound_in_trees rest), bound-same s n i t, parts-same s r.0 j ts)

  -- DECLARATIONS declare as many

  none-declared : (s : Standing) (n i : ℕ) (d : Tree) → is_declarator (kind_of d) ≡ false → length (names_of_declarator (lowered s n i d)) ≡ length (names_of_declarator d)
  none-declared s n i d e = ap (length {A = Tree}) (undeclared (lowered s n i d) (fails is_declarator refl s n i d e) ∙ sym (undeclared d e))

  declarator-same : (s : Standing) (n i : ℕ) (d : Tree) → length (names_of_declarator (lowered s n i d)) ≡ length (names_of_declarator d)
  declarator-same s n i (node VariableDeclarator l (one p then fs)) = bound-same (standing_in VariableDeclarator 0) n i p
  declarator-same s n i (node VariableDeclarator l fs) = refl
  declarator-same s n i d = none-declared s n i d refl

  pub declarators-same : (s : Standing) (n i : ℕ) (ds : Trees) → length (names_of_declarators (used_among m s n (headed_among h i ds).1).1) ≡ length (names_of_declarators ds)
  declarators-same s n i empty = refl
  declarators-same s n i (d before ds) =
      let r : ℕ × Tree = used m s n (headed h i d).1 in
      let j : ℕ = (headed h i d).0 in
      let rest : Trees = (used_among m s r.0 (headed_among h j ds).1).1 in
      omega (arith, length-append (names_of_declarator d) (names_of_declarators ds), length-append (names_of_declarator r.1) (names_of_declarators rest), declarator-same s n i d, declarators-same s r.0 j ds)

  pub none-declares : (s : Standing) (n i : ℕ) (d : Tree) → is_declaration (kind_of d) ≡ false → names_declared (lowered s n i d) ≡ []
  none-declares s n i d e = undeclaring (lowered s n i d) (fails is_declaration refl s n i d e)
