-- Moving goes on alike in programs that are the same but for ids and marks, whatever ids and marks are made.
use Rattle.std.proofs.Common.{◌≡◌, ◌∙◌, ℕ, suc, refl, sym, ap, List, [], ◌∷◌}
use Rattle.std.specs.Prelude.{Bool, true, false, ◌+◌, Option, Some, codes, if◌then◌else◌}
use Rattle.es_tree.specs.Bare.{bare, bare_field, bare_fields, bare_label, bare_trees}
use Rattle.es_tree.specs.Names.{first_text}
use Rattle.es_tree.specs.Tree.{Tree, node, Label, Fields, done, ◌then◌, Field, missing, one, many, statements, Trees, empty, ◌before◌}
use Rattle.es_tree.specs.Words.{Text}
use Rattle.es_tree.specs.declared.ast_type.AstType.{AstType}
use Rattle.es_tree.specs.declared.ast_type.AstType.TheVariants.{ArrowFunctionExpression, AssignmentExpression, AssignmentPattern, BlockStatement, CatchClause, ExpressionStatement, ForInStatement, ForOfStatement, FunctionBody, FunctionDeclaration, FunctionExpression, Identifier, ObjectTarget, ReturnStatement, VariableDeclaration, VariableDeclarator}
use Rattle.es_steps.specs.Nodes.{joined_trees, made}
use Rattle.es_pattern_moves.specs.Moved.{
  Makes,
  all_declared,
  all_named,
  count_arrow,
  count_function,
  count_here,
  count_rests,
  declares,
  moved,
  moved_among,
  moved_arrow,
  moved_by,
  moved_catch,
  moved_fields,
  moved_function,
  moved_head,
  moved_here,
  moved_in,
  name_of,
  named,
  plainly,
  returning,
  with_declared,
  with_symbols,
}
use Rattle.es_pattern_moves.specs.PatternMoves.{is_rest_parameter, moves_from_arrow, moves_from_catch, moves_from_function, moves_from_head, moves_pattern, moves_with_body, pattern_of}

-- WHAT IS MADE without ids and marks

abbrev pub barely : List Text → Makes
barely names = record { name = λ n p. node Identifier (made (Some (name_of names n) ∷ []) []) done; label = λ p texts. made texts []; block = λ p. made [] [] }

pub record IsBarely (names : List Text) (m : Makes) : Type 0 where
  pub name : (n : ℕ) (p : Tree) → bare (m.name n p) ≡ node Identifier (made (Some (name_of names n) ∷ []) []) done
  pub label : (p : Tree) (texts : List (Option Text)) → bare_label (m.label p texts) ≡ made texts []
  pub block : (p : Tree) → bare_label (m.block p) ≡ made [] []

pub plainly-so : (names : List Text) → IsBarely names (plainly names)
plainly-so names = record { name = λ n p. refl; label = λ p texts. refl; block = λ p. refl }

pub symbols-so : (names : List Text) (first : ℕ) → IsBarely names (with_symbols names first)
symbols-so names first = record { name = λ n p. refl; label = λ p texts. refl; block = λ p. refl }

joined-bare : (a c : Trees) → bare_trees (joined_trees a c) ≡ joined_trees (bare_trees a) (bare_trees c)
joined-bare empty c = refl
joined-bare (t before a) c = ap (λ ts. bare t before ts) (joined-bare a c)

module _ (moves-same : (k : AstType) (l : Label) (fs : Fields) → moves_pattern k (bare_label l) (bare_fields fs) ≡ moves_pattern k l fs) (parameter-same : (t : Tree) → is_rest_parameter (bare t) ≡ is_rest_parameter t) (pattern-same : (t : Tree) → pattern_of (bare t) ≡ bare (pattern_of t)) where
  rests-bare : (ts : Trees) → count_rests (bare_trees ts) ≡ count_rests ts
  rests-bare empty = refl
  rests-bare (t before ts) = λ i. if parameter-same t i then suc (rests-bare ts i) else rests-bare ts i

  function-count : (fs : Fields) → count_function (bare_fields fs) ≡ count_function fs
  function-count (f then many ps then fs) = rests-bare ps
  function-count (f then missing then fs) = refl
  function-count (f then one t then fs) = refl
  function-count (f then statements ts then fs) = refl
  function-count (f then done) = refl
  function-count done = refl

  arrow-count : (fs : Fields) → count_arrow (bare_fields fs) ≡ count_arrow fs
  arrow-count (many ps then fs) = rests-bare ps
  arrow-count (missing then fs) = refl
  arrow-count (one t then fs) = refl
  arrow-count (statements ts then fs) = refl
  arrow-count done = refl

  count-bare : (k : AstType) (fs : Fields) → count_here k (bare_fields fs) ≡ count_here k fs
  count-bare FunctionDeclaration fs = function-count fs
  count-bare FunctionExpression fs = function-count fs
  count-bare ArrowFunctionExpression fs = arrow-count fs
  count-bare _ fs = refl

  module _ (names : List Text) (m : Makes) (h : IsBarely names m) where
    abbrev b : Makes
    b = barely names

    declares-bare : (kind : Text) (n : ℕ) (p : Tree) → bare (declares m kind n p) ≡ declares b kind n (bare p)
    declares-bare kind n p = λ i. node VariableDeclaration (h.label p (Some kind ∷ []) i) (many (node VariableDeclarator (h.label p [] i) (one (bare p) then one (h.name n p i) then done) before empty) then done)

    -- PARAMETERS

    named-bare : (n : ℕ) (t : Tree) → bare (named m n t) ≡ named b n (bare t)
    named-bare n (node AssignmentPattern l (one p then fs)) = λ i. node AssignmentPattern (bare_label l) (one (h.name n p i) then bare_fields fs)
    named-bare n (node AssignmentPattern l (missing then fs)) = h.name n (node AssignmentPattern l (missing then fs))
    named-bare n (node AssignmentPattern l (many ts then fs)) = h.name n (node AssignmentPattern l (many ts then fs))
    named-bare n (node AssignmentPattern l (statements ts then fs)) = h.name n (node AssignmentPattern l (statements ts then fs))
    named-bare n (node AssignmentPattern l done) = h.name n (node AssignmentPattern l done)
    named-bare n (node k l fs) = h.name n (node k l fs)

    all-named-bare : (n : ℕ) (ts : Trees) → bare_trees (all_named m n ts) ≡ all_named b n (bare_trees ts)
    all-named-bare n empty = refl
    all-named-bare n (t before ts) = at (is_rest_parameter t) (all-named-bare n ts) (all-named-bare (suc n) ts) ∙ ap (λ (c : Bool). if c then named b n (bare t) before all_named b (suc n) (bare_trees ts) else bare t before all_named b n (bare_trees ts)) (sym (parameter-same t))
      where
        at : (c : Bool) → bare_trees (all_named m n ts) ≡ all_named b n (bare_trees ts) → bare_trees (all_named m (suc n) ts) ≡ all_named b (suc n) (bare_trees ts) →
            bare_trees (if c then named m n t before all_named m (suc n) ts else t before all_named m n ts) ≡ (if c then named b n (bare t) before all_named b (suc n) (bare_trees ts) else bare t before all_named b n (bare_trees ts))
        at true e d = λ i. named-bare n t i before d i
        at false e d = λ i. bare t before e i

    all-declared-bare : (n : ℕ) (ts : Trees) → bare_trees (all_declared m n ts) ≡ all_declared b n (bare_trees ts)
    all-declared-bare n empty = refl
    all-declared-bare n (t before ts) =
        at (is_rest_parameter t) (all-declared-bare n ts) (all-declared-bare (suc n) ts) ∙ ap (λ (c : Bool). if c then declares b (codes "let") n (pattern_of (bare t)) before all_declared b (suc n) (bare_trees ts) else all_declared b n (bare_trees ts)) (sym (parameter-same t))
      where
        at : (c : Bool) → bare_trees (all_declared m n ts) ≡ all_declared b n (bare_trees ts) → bare_trees (all_declared m (suc n) ts) ≡ all_declared b (suc n) (bare_trees ts) →
            bare_trees (if c then declares m (codes "let") n (pattern_of t) before all_declared m (suc n) ts else all_declared m n ts) ≡ (if c then declares b (codes "let") n (pattern_of (bare t)) before all_declared b (suc n) (bare_trees ts) else all_declared b n (bare_trees ts))
        at true e d = λ i. (declares-bare (codes "let") n (pattern_of t) ∙ ap (λ p. declares b (codes "let") n p) (sym (pattern-same t))) i before d i
        at false e d = e

    returning-bare : (n : ℕ) (ps : Trees) (e : Tree) → bare (returning m (all_declared m n ps) e) ≡ returning b (all_declared b n (bare_trees ps)) (bare e)
    returning-bare n ps e =
        let last : Trees = node ReturnStatement (m.label e []) (one e then done) before empty in
        let first : Trees = all_declared b n (bare_trees ps) in
        let list : bare_trees (joined_trees (all_declared m n ps) last) ≡ joined_trees first (node ReturnStatement (made [] []) (one (bare e) then done) before empty) =
        joined-bare (all_declared m n ps) last ∙ ap (λ ds. joined_trees ds (bare_trees last)) (all-declared-bare n ps) ∙ ap (λ (l : Label). joined_trees first (node ReturnStatement l (one (bare e) then done) before empty)) (h.label e []) in
        λ i. node FunctionBody (h.block e i) (many empty then statements (list i) then done)

    body-bare : (n : ℕ) (ps : Trees) (body : Tree) → moves_with_body ps body ≡ true → bare (with_declared m n ps body) ≡ with_declared b n (bare_trees ps) (bare body)
    body-bare n ps (node FunctionBody l (many ds then statements ts then done)) e =
        let list : bare_trees (joined_trees (all_declared m n ps) ts) ≡ joined_trees (all_declared b n (bare_trees ps)) (bare_trees ts) = joined-bare (all_declared m n ps) ts ∙ ap (λ es. joined_trees es (bare_trees ts)) (all-declared-bare n ps) in
        λ i. node FunctionBody (bare_label l) (many (bare_trees ds) then statements (list i) then done)
    body-bare n ps (node FunctionBody l fs) e = absurd (cc e)
    body-bare n ps body e = returning-bare n ps body

    -- NODES

    function-bare : (n : ℕ) (fs : Fields) → moves_from_function fs ≡ true → bare_fields (moved_function m n fs) ≡ moved_function b n (bare_fields fs)
    function-bare n (f then many ps then one body then done) e = λ i. bare_field f then many (all-named-bare n ps i) then one (body-bare n ps body e i) then done
    function-bare n _ e = absurd (cc e)

    arrow-bare : (n : ℕ) (fs : Fields) → moves_from_arrow fs ≡ true → bare_fields (moved_arrow m n fs) ≡ moved_arrow b n (bare_fields fs)
    arrow-bare n (many ps then one body then done) e = λ i. many (all-named-bare n ps i) then one (body-bare n ps body e i) then done
    arrow-bare n _ e = absurd (cc e)

    catch-bare : (n : ℕ) (fs : Fields) → moves_from_catch fs ≡ true → bare_fields (moved_catch m n fs) ≡ moved_catch b n (bare_fields fs)
    catch-bare n (one p then one body then done) e = λ i. one (h.name n p i) then one (node BlockStatement (h.block p i) (statements (declares-bare (codes "let") n p i before bare body before empty) then done)) then done
    catch-bare n _ e = absurd (cc e)

    head-bare : (n : ℕ) (fs : Fields) → moves_from_head fs ≡ true → bare_fields (moved_head m n fs) ≡ moved_head b n (bare_fields fs)
    head-bare n (one (node VariableDeclaration l (many (node VariableDeclarator l' (one p then missing then done) before empty) then done)) then one e then one body then done) d =
        λ i.
        one (node VariableDeclaration (h.label p (Some (first_text l.texts) ∷ []) i) (many (node VariableDeclarator (h.label p [] i) (one (h.name n p i) then missing then done) before empty) then done)) then one (bare e)
        then one (node BlockStatement (h.block p i) (statements (declares-bare (first_text l.texts) n p i before bare body before empty) then done)) then done
    head-bare n (one (node ObjectTarget l gs) then one e then one body then done) d =
        let t : Tree = node ObjectTarget l gs in
        λ i.
        one (node VariableDeclaration (h.label t (Some (codes "var") ∷ []) i) (many (node VariableDeclarator (h.label t [] i) (one (h.name n t i) then missing then done) before empty) then done)) then one (bare e)
        then one (node BlockStatement (h.block t i) (statements (node ExpressionStatement (h.label t [] i) (one (node AssignmentExpression (h.label t (Some (codes "=") ∷ []) i) (one (bare t) then one (h.name n t i) then done)) then done) before bare body before empty) then done)) then done
    head-bare n _ d = absurd (cc d)

    moving : (n : ℕ) (k : AstType) (l : Label) (fs : Fields) → moves_pattern k l fs ≡ true → bare_fields (moved_fields m n k fs) ≡ moved_fields b n k (bare_fields fs)
    moving n CatchClause l fs e = catch-bare n fs e
    moving n ForInStatement l fs e = head-bare n fs e
    moving n ForOfStatement l fs e = head-bare n fs e
    moving n FunctionDeclaration l fs e = function-bare n fs e
    moving n FunctionExpression l fs e = function-bare n fs e
    moving n ArrowFunctionExpression l fs e = arrow-bare n fs e
    moving n _ l fs e = absurd (cc e)

    abbrev forget : ℕ × Tree → ℕ × Tree
    forget r = (r.0, bare r.1)

    here-bare : (n : ℕ) (k : AstType) (l : Label) (fs : Fields) → forget (moved_here m n k l fs) ≡ moved_here b n k (bare_label l) (bare_fields fs)
    here-bare n k l fs = at (moves_pattern k l fs) refl ∙ ap (λ (c : Bool). if c then (n + count_here k (bare_fields fs), node k (bare_label l) (moved_fields b n k (bare_fields fs))) else (n, node k (bare_label l) (bare_fields fs))) (sym (moves-same k l fs))
      where
        at : (c : Bool) → moves_pattern k l fs ≡ c →
            forget (if c then (n + count_here k fs, node k l (moved_fields m n k fs)) else (n, node k l fs)) ≡ (if c then (n + count_here k (bare_fields fs), node k (bare_label l) (moved_fields b n k (bare_fields fs))) else (n, node k (bare_label l) (bare_fields fs)))
        at true e = let count : count_here k fs ≡ count_here k (bare_fields fs) = sym (count-bare k fs) in λ i. (n + count i, node k (bare_label l) (moving n k l fs e i))
        at false e = refl

    -- A TREE
    mutual
      pub tree-bare : (n : ℕ) (t : Tree) → ((moved m n t).0, bare (moved m n t).1) ≡ moved b n (bare t)
      tree-bare n (node k l fs) = here-bare (moved_in m n fs).0 k l (moved_in m n fs).1 ∙ ap (λ (r : ℕ × Fields). moved_here b r.0 k (bare_label l) r.1) (fields-bare n fs)

      fields-bare : (n : ℕ) (fs : Fields) → ((moved_in m n fs).0, bare_fields (moved_in m n fs).1) ≡ moved_in b n (bare_fields fs)
      fields-bare n done = refl
      fields-bare n (f then fs) =
          ap (λ (r : ℕ × Fields). (r.0, bare_field (moved_by m n f).1 then r.1)) (fields-bare (moved_by m n f).0 fs) ∙ ap (λ (q : ℕ × Field). ((moved_in b q.0 (bare_fields fs)).0, q.1 then (moved_in b q.0 (bare_fields fs)).1)) (field-bare n f)

      field-bare : (n : ℕ) (f : Field) → ((moved_by m n f).0, bare_field (moved_by m n f).1) ≡ moved_by b n (bare_field f)
      field-bare n missing = refl
      field-bare n (one t) = ap (λ (r : ℕ × Tree). (r.0, one r.1)) (tree-bare n t)
      field-bare n (many ts) = ap (λ (r : ℕ × Trees). (r.0, many r.1)) (trees-bare n ts)
      field-bare n (statements ts) = ap (λ (r : ℕ × Trees). (r.0, statements r.1)) (trees-bare n ts)

      trees-bare : (n : ℕ) (ts : Trees) → ((moved_among m n ts).0, bare_trees (moved_among m n ts).1) ≡ moved_among b n (bare_trees ts)
      trees-bare n empty = refl
      trees-bare n (t before ts) =
          ap (λ (r : ℕ × Trees). (r.0, bare (moved m n t).1 before r.1)) (trees-bare (moved m n t).0 ts) ∙ ap (λ (q : ℕ × Tree). ((moved_among b q.0 (bare_trees ts)).0, q.1 before (moved_among b q.0 (bare_trees ts)).1)) (tree-bare n t)

  -- two trees that are the same but for ids and marks
  pub moved-alike : (names : List Text) (m m' : Makes) → IsBarely names m → IsBarely names m' → (n : ℕ) (t u : Tree) → bare t ≡ bare u → ((moved m n t).0 ≡ (moved m' n u).0) × (bare (moved m n t).1 ≡ bare (moved m' n u).1)
  moved-alike names m m' h h' n t u e =
      let same : ◌≡◌ {A = ℕ × Tree} ((moved m n t).0, bare (moved m n t).1) ((moved m' n u).0, bare (moved m' n u).1) = tree-bare names m h n t ∙ ap (λ (x : Tree). moved (barely names) n x) e ∙ sym (tree-bare names m' h' n u) in
      (ap (λ (r : ℕ × Tree). r.0) same, ap (λ (r : ℕ × Tree). r.1) same)
