-- What a program becomes is told by its fresh names, and these are one by one the first that are not in use: so two programs that it becomes
-- are one.
use Rattle.std.proofs.Common.{◌≡◌, ◌∙◌, ◌≤◌, ◌<◌, ℕ, suc, refl, sym, ap, arith, length, List}
use Rattle.std.specs.Prelude.{Bool, true, false, Option, codes, if◌then◌else◌}
use Rattle.es_tree.specs.Fresh.{text_base}
use Rattle.es_tree.specs.Tree.{Tree, node, Label, Fields, done, ◌then◌, Field, missing, one, many, statements, Trees, empty, ◌before◌}
use Rattle.es_tree.specs.Words.{Text}
use Rattle.es_tree.specs.declared.ast_type.AstType.{AstType}
use Rattle.es_tree.specs.declared.ast_type.AstType.TheVariants.{ArrowFunctionExpression, BlockStatement, ForStatement, FunctionBody, FunctionDeclaration, FunctionExpression, LabeledStatement, StaticBlock, SwitchCase, SwitchStatement, VariableDeclaration, VariableDeclarator}
use Rattle.es_steps.specs.UsingBlocks.{is_using_node}
use Rattle.es_pattern_moves.specs.Moved.{name_of, plain_name}
use Rattle.es_pattern_moves.proofs.MovedAgree.{either-first, fresh-agree, same-lists}
use Rattle.es_using_rows.specs.Laws.{LawOneUsed}
use Rattle.es_using_rows.specs.Used.{AreFresh, Makes, UsesTo, const_label, constants, method, plainly, tried, used, used_among, used_arrow, used_block, used_body, used_by, used_case, used_cases, used_declaration, used_declarator, used_declarators, used_function, used_head, used_here, used_in, used_loop, used_node, used_static_block, used_switch}
use Rattle.es_using_rows.specs.UsingPlaces.{is_part, standing_in, uses_here}
use Rattle.es_using_rows.specs.declared.standing.Standing.{Standing}
use Rattle.es_using_rows.specs.declared.standing.Standing.TheVariants.{Anywhere}
use Rattle.es_using_rows.proofs.UsedCounts.{fields-more, here-more, trees-more}

-- WHERE THE SAME IS MADE for each number below a bound, up to it a tree becomes the same

pub record MakeSame (bound : ℕ) (m m' : Makes) : Type 0 where
  pub context : (i : ℕ) (h : Tree) → i < bound → m'.context i h ≡ m.context i h
  pub error : (i : ℕ) (h : Tree) → i < bound → m'.error i h ≡ m.error i h
  pub word : (x : Text) (h : Tree) → m'.word x h ≡ m.word x h
  pub label : (h : Tree) (texts : List (Option Text)) (flags : List Bool) → m'.label h texts flags ≡ m.label h texts flags
  pub scope : (h : Tree) → m'.scope h ≡ m.scope h

-- what is made with one number
abbrev at_number : Makes → ℕ → Makes
at_number m n = record { context = λ i h. m.context n h; error = λ i h. m.error n h; word = λ x h. m.word x h; label = λ h texts flags. m.label h texts flags; scope = λ h. m.scope h }

module _ (bound : ℕ) (m m' : Makes) (same : MakeSame bound m m') where
  there : (n : ℕ) → n < bound → at_number m' n ≡ at_number m n
  there n lt = λ i. record { context = λ k h. same.context n h lt i; error = λ k h. same.error n h lt i; word = λ x h. same.word x h i; label = λ h texts flags. same.label h texts flags i; scope = λ h. same.scope h i }

  tried-same : (n : ℕ) (h : Tree) (ts us : Trees) → n < bound → ts ≡ us → tried m' n h ts ≡ tried m n h us
  tried-same n h ts us lt e = λ i. tried (there n lt i) n h (e i)

  declarator-same : (n : ℕ) (d : Tree) → n < bound → used_declarator m' n d ≡ used_declarator m n d
  declarator-same n (node VariableDeclarator l (one x then one e then done)) lt = λ i. node VariableDeclarator l (one x then one (method (there n lt i) n e (codes "u") (e before empty)) then done)
  declarator-same n _ lt = refl

  declarators-same : (n : ℕ) (ds : Trees) → n < bound → used_declarators m' n ds ≡ used_declarators m n ds
  declarators-same n empty lt = refl
  declarators-same n (d before ds) lt = λ i. declarator-same n d lt i before declarators-same n ds lt i

  declaration-same : (n : ℕ) (t : Tree) → n < bound → used_declaration m' n t ≡ used_declaration m n t
  declaration-same n (node VariableDeclaration l (many ds then done)) lt = λ i. node VariableDeclaration (const_label l) (many (declarators-same n ds lt i) then done)
  declaration-same n _ lt = refl

  constants-same : (n : ℕ) (ts : Trees) → n < bound → constants m' n ts ≡ constants m n ts
  constants-same n empty lt = refl
  constants-same n (t before ts) lt = λ i. (if is_using_node t then declaration-same n t lt i else t) before constants-same n ts lt i

  case-same : (n : ℕ) (t : Tree) → n < bound → used_case m' n t ≡ used_case m n t
  case-same n (node SwitchCase l (f then statements ts then done)) lt = λ i. node SwitchCase l (f then statements (constants-same n ts lt i) then done)
  case-same n _ lt = refl

  cases-same : (n : ℕ) (ts : Trees) → n < bound → used_cases m' n ts ≡ used_cases m n ts
  cases-same n empty lt = refl
  cases-same n (t before ts) lt = λ i. case-same n t lt i before cases-same n ts lt i

  head-same : (n : ℕ) (fs : Fields) → n < bound → used_head m' n fs ≡ used_head m n fs
  head-same n (one t then fs) lt = λ i. one (declaration-same n t lt i) then fs
  head-same n _ lt = refl

  loop-same : (n : ℕ) (t : Tree) → n < bound → used_loop m' n t ≡ used_loop m n t
  loop-same n (node ForStatement l fs) lt = λ i. node ForStatement l (head-same n fs lt i)
  loop-same n (node LabeledStatement l (one t then one u then done)) lt = λ i. node LabeledStatement l (one t then one (loop-same n u lt i) then done)
  loop-same n _ lt = refl

  block-same : (s : Standing) (n : ℕ) (l : Label) (fs : Fields) → n < bound → used_block m' s n l fs ≡ used_block m s n l fs
  block-same s n l (statements ts then done) lt =
      let h : Tree = node BlockStatement l (statements ts then done) in
      let within : tried m' n h (constants m' n ts) ≡ tried m n h (constants m n ts) = tried-same n h (constants m' n ts) (constants m n ts) lt (constants-same n ts lt) in
      λ i. if is_part s then node BlockStatement l (statements (within i before empty) then done) else within i
  block-same s n l _ lt = refl

  switch-same : (n : ℕ) (l : Label) (fs : Fields) → n < bound → used_switch m' n l fs ≡ used_switch m n l fs
  switch-same n l (d then many cs then done) lt = tried-same n (node SwitchStatement l (d then many cs then done)) _ _ lt (λ i. node SwitchStatement l (d then many (cases-same n cs lt i) then done) before empty)
  switch-same n l _ lt = refl

  body-same : (n : ℕ) (b : Tree) → n < bound → used_body m' n b ≡ used_body m n b
  body-same n (node FunctionBody l (many ds then statements ts then done)) lt =
      let h : Tree = node FunctionBody l (many ds then statements ts then done) in
      let within : tried m' n h (constants m' n ts) ≡ tried m n h (constants m n ts) = tried-same n h (constants m' n ts) (constants m n ts) lt (constants-same n ts lt) in
      λ i. node FunctionBody l (many ds then statements (within i before empty) then done)
  body-same n _ lt = refl

  function-same : (n : ℕ) (fs : Fields) → n < bound → used_function m' n fs ≡ used_function m n fs
  function-same n (f then many ps then one b then done) lt = λ i. f then many ps then one (body-same n b lt i) then done
  function-same n _ lt = refl

  arrow-same : (n : ℕ) (fs : Fields) → n < bound → used_arrow m' n fs ≡ used_arrow m n fs
  arrow-same n (many ps then one b then done) lt = λ i. many ps then one (body-same n b lt i) then done
  arrow-same n _ lt = refl

  static-same : (n : ℕ) (l : Label) (fs : Fields) → n < bound → used_static_block m' n l fs ≡ used_static_block m n l fs
  static-same n l (statements ts then done) lt =
      let h : Tree = node StaticBlock l (statements ts then done) in
      let within : tried m' n h (constants m' n ts) ≡ tried m n h (constants m n ts) = tried-same n h (constants m' n ts) (constants m n ts) lt (constants-same n ts lt) in
      λ i. node StaticBlock l (statements (within i before empty) then done)
  static-same n l _ lt = refl

  node-same : (s : Standing) (n : ℕ) (k : AstType) (l : Label) (fs : Fields) → n < bound → used_node m' s n k l fs ≡ used_node m s n k l fs
  node-same s n BlockStatement l fs lt = block-same s n l fs lt
  node-same s n SwitchStatement l fs lt = switch-same n l fs lt
  node-same s n FunctionDeclaration l fs lt = λ i. node FunctionDeclaration l (function-same n fs lt i)
  node-same s n FunctionExpression l fs lt = λ i. node FunctionExpression l (function-same n fs lt i)
  node-same s n ArrowFunctionExpression l fs lt = λ i. node ArrowFunctionExpression l (arrow-same n fs lt i)
  node-same s n StaticBlock l fs lt = static-same n l fs lt
  node-same s n k l fs lt = tried-same n (node k l fs) _ _ lt (λ i. loop-same n (node k l fs) lt i before empty)

  abbrev UpTo : ℕ × Tree → Type 0
  UpTo r = r.0 ≤ bound

  here-same : (s : Standing) (n : ℕ) (k : AstType) (l : Label) (fs : Fields) → (used_here m s n k l fs).0 ≤ bound → used_here m' s n k l fs ≡ used_here m s n k l fs
  here-same s n k l fs le = at (uses_here s k l fs) le
    where
      at : (b : Bool) → UpTo (if b then (suc n, used_node m s n k l fs) else (n, node k l fs)) → ◌≡◌ {A = ℕ × Tree} (if b then (suc n, used_node m' s n k l fs) else (n, node k l fs)) (if b then (suc n, used_node m s n k l fs) else (n, node k l fs))
      at true h = λ i. (suc n, node-same s n k l fs (omega (arith, h)) i)
      at false h = refl

  mutual
    pub tree-same : (s : Standing) (n : ℕ) (t : Tree) → (used m s n t).0 ≤ bound → used m' s n t ≡ used m s n t
    tree-same s n (node k l fs) le =
        let inner : (used_in m (standing_in k) n fs).0 ≤ bound = omega (arith, le, here-more m s (used_in m (standing_in k) n fs).0 k l (used_in m (standing_in k) n fs).1) in
        ap (λ (r : ℕ × Fields). used_here m' s r.0 k l r.1) (fields-same (standing_in k) n fs inner) ∙ here-same s (used_in m (standing_in k) n fs).0 k l (used_in m (standing_in k) n fs).1 le

    fields-same : (c : ℕ → Standing) (n : ℕ) (fs : Fields) → (used_in m c n fs).0 ≤ bound → used_in m' c n fs ≡ used_in m c n fs
    fields-same c n done le = refl
    fields-same c n (f then fs) le =
        let d : ℕ → Standing = λ i. c (suc i) in
        let first : (used_by m (c 0) n f).0 ≤ bound = omega (arith, le, fields-more m d (used_by m (c 0) n f).0 fs) in
        ap (λ (r : ℕ × Field). ((used_in m' d r.0 fs).0, r.1 then (used_in m' d r.0 fs).1)) (field-same (c 0) n f first) ∙ ap (λ (r : ℕ × Fields). (r.0, (used_by m (c 0) n f).1 then r.1)) (fields-same d (used_by m (c 0) n f).0 fs le)

    field-same : (s : Standing) (n : ℕ) (f : Field) → (used_by m s n f).0 ≤ bound → used_by m' s n f ≡ used_by m s n f
    field-same s n missing le = refl
    field-same s n (one t) le = ap (λ (r : ℕ × Tree). (r.0, one r.1)) (tree-same s n t le)
    field-same s n (many ts) le = ap (λ (r : ℕ × Trees). (r.0, many r.1)) (trees-same s n ts le)
    field-same s n (statements ts) le = ap (λ (r : ℕ × Trees). (r.0, statements r.1)) (trees-same s n ts le)

    trees-same : (s : Standing) (n : ℕ) (ts : Trees) → (used_among m s n ts).0 ≤ bound → used_among m' s n ts ≡ used_among m s n ts
    trees-same s n empty le = refl
    trees-same s n (t before ts) le =
        let first : (used m s n t).0 ≤ bound = omega (arith, le, trees-more m s (used m s n t).0 ts) in
        ap (λ (r : ℕ × Tree). ((used_among m' s r.0 ts).0, r.1 before (used_among m' s r.0 ts).1)) (tree-same s n t first) ∙ ap (λ (r : ℕ × Trees). (r.0, (used m s n t).1 before r.1)) (trees-same s (used m s n t).0 ts le)

-- A PROGRAM

module _ (in_use : Text → Bool) (p q r : Tree) (names others : List Text) (a : UsesTo in_use p q names) (b : UsesTo in_use p r others) where
  no-longer : length names ≤ length others → (q ≡ r) × (names ≡ others)
  no-longer le =
      let agree : (i : ℕ) → i < length names → name_of others i ≡ name_of names i = λ i lt. fresh-agree (text_base (codes "usingCtx")) AreFresh (λ u x xs h. h) in_use names others a.fresh b.fresh i lt (omega (arith, lt, le)) in
      let made : MakeSame (length names) (plainly names) (plainly others) =
      record { context = λ i t lt. ap (λ x. plain_name x t) (agree i lt); error = λ i t lt. refl; word = λ x t. refl; label = λ t texts flags. refl; scope = λ t. refl } in
      let so : used (plainly others) Anywhere 0 p ≡ used (plainly names) Anywhere 0 p = tree-same (length names) (plainly names) (plainly others) made Anywhere 0 p (omega (arith, a.count)) in
      let count : length names ≡ length others = sym a.count ∙ sym (ap (λ (z : ℕ × Tree). z.0) so) ∙ b.count in
      (a.tree ∙ sym (ap (λ (z : ℕ × Tree). z.1) so) ∙ sym b.tree, same-lists names others count agree)

pub law_one_used_proof : LawOneUsed
law_one_used_proof in_use p q r names others a b = either-first (λ t ts. UsesTo in_use p t ts) (λ q r names others a b le. no-longer in_use p q r names others a b le) q r names others a b
