-- What a program becomes weighs no more than sixteen for each node of it. A node weighs seven at most and spares the rest. A `try` that is made
-- weighs 48, and a call eight: they are paid by the block, the static block, the `switch`, the loop or the body, and by the declarations in it, each
-- with a name and a value.
use Rattle.std.proofs.Common.{◌≡◌, ◌≤◌, ℕ, suc, refl, arith}
use Rattle.std.specs.Prelude.{Bool, true, false, ◌+◌, ◌*◌, ◌&&◌, ◌||◌, not, codes, if◌then◌else◌}
use Rattle.std.proofs.lemmas.Bool.{and_from, and_parts}
use Rattle.es_tree.specs.HasForm.{has_form}
use Rattle.es_tree.specs.Tree.{Tree, node, Label, Fields, done, ◌then◌, Field, missing, one, many, statements, Trees, empty, ◌before◌, field_size, fields_size, kind_of, tree_size, trees_size}
use Rattle.es_tree.specs.Walks.{all_in_field, all_in_fields, all_in_trees, all_nodes}
use Rattle.es_tree.specs.Words.{Text}
use Rattle.es_tree.specs.declared.ast_type.AstType.{AstType}
use Rattle.es_tree.specs.declared.ast_type.AstType.TheVariants.{ArrowFunctionExpression, BlockStatement, ForOfStatement, ForStatement, FunctionBody, FunctionDeclaration, FunctionExpression, LabeledStatement, StaticBlock, SwitchCase, SwitchStatement, TryStatement, VariableDeclaration, VariableDeclarator}
use Rattle.es_tree.specs.declared.table.Sort.{Sort}
use Rattle.es_tree.specs.declared.table.Sort.TheVariants.{Binding as s-Binding, Expression as s-Expression, Program as s-Program}
use Rattle.es_tree.proofs.CoreBreaks.{among_kinds}
use Rattle.es_tree.proofs.NodeForm.{NodeForm, node_form}
use Rattle.es_tree.specs.Table.{kinds_of}
use Rattle.std.specs.List.{list_all}
use Rattle.es_steps.specs.UsingBlocks.{has_using, is_using_node}
use Rattle.es_steps.specs.UsingSwitches.{case_has_using, some_case_has_using}
use Rattle.es_pattern_moves.specs.Weights.{own_weight, weighed, weighed_among, weighed_by, weighed_in}
use Rattle.es_using_rows.specs.Laws.{LawUsedSize}
use Rattle.es_using_rows.specs.Used.{Makes, constants, method, plainly, tried, used, used_among, used_arrow, used_block, used_body, used_by, used_case, used_cases, used_declaration, used_declarator, used_declarators, used_function, used_head, used_here, used_in, used_loop, used_node, used_static_block}
use Rattle.es_using_rows.specs.UsingPlaces.{are_used, are_used_cases, has_value, have_values, is_labelled, is_part, is_used, is_used_case, is_using_word, leads_to_head, may_enter, standing_in, uses_here, uses_in_arrow, uses_in_body, uses_in_function, uses_in_head, uses_in_list, uses_in_static_block}
use Rattle.es_using_rows.specs.declared.standing.Standing.{Standing}
use Rattle.es_using_rows.specs.declared.standing.Standing.TheVariants.{Anywhere}
use Rattle.es_using_rows.proofs.FormedNodes.{formed-nodes}

-- NAMES AND VALUES of declarators are of kinds that spare nine, functions among them, of which only the body becomes another one

abbrev pub is_other : AstType → Bool
is_other BlockStatement = false
is_other ForOfStatement = false
is_other ForStatement = false
is_other FunctionBody = false
is_other LabeledStatement = false
is_other StaticBlock = false
is_other SwitchCase = false
is_other SwitchStatement = false
is_other TryStatement = false
is_other VariableDeclaration = false
is_other VariableDeclarator = false
is_other _ = true

abbrev pub has_others : AstType → Label → Fields → Bool
has_others VariableDeclarator l (one x then one e then done) = is_other (kind_of x) && is_other (kind_of e)
has_others _ l fs = true

-- all kinds of such a sort are
sort-other : (s : Sort) (t : Tree) → list_all is_other (kinds_of s) ≡ true → has_form s t ≡ true → is_other (kind_of t) ≡ true
sort-other s (node k l fs) all h = among_kinds is_other k (kinds_of s) (node_form s k l fs h).sort all

pub formed-others : (s : Sort) (k : AstType) (l : Label) (fs : Fields) → NodeForm s k l fs → has_others k l fs ≡ true
formed-others s VariableDeclarator l (one x then one e then done) h =
    let d = and_parts (has_form s-Binding x) (has_form s-Expression e && true) h.children in
    and_from (is_other (kind_of x)) (is_other (kind_of e)) (sort-other s-Binding x refl d.0) (sort-other s-Expression e refl (and_parts (has_form s-Expression e) true d.1).0)
formed-others s _ l fs h = refl

-- WHAT A TREE SPARES: each name and each value nine; and what stands in a list of statements, in a case or in the head of a loop keeps it until
-- a `try` is made around. A declarator has all that its name and its value spare, and fourteen of its own, and so many has a body.
-- A `for`-`of` has nothing left: a block may have been made in it (`es_using_heads`).
abbrev mutual
  pub spare : Tree → ℕ
  spare (node VariableDeclaration l fs) = 14 + spare_in fs
  spare (node VariableDeclarator l (one x then one e then done)) = 32
  spare (node VariableDeclarator l fs) = 0
  spare (node ForStatement l fs) = spare_in fs
  spare (node FunctionBody l fs) = 14 + spare_in fs
  spare (node LabeledStatement l fs) = spare_in fs
  spare (node SwitchCase l fs) = spare_in fs
  spare (node BlockStatement l fs) = 0
  spare (node ForOfStatement l fs) = 0
  spare (node StaticBlock l fs) = 0
  spare (node SwitchStatement l fs) = 0
  spare (node TryStatement l fs) = 0
  spare (node k l fs) = 9

  pub spare_in : Fields → ℕ
  spare_in done = 0
  spare_in (f then fs) = spare_by f + spare_in fs

  pub spare_by : Field → ℕ
  spare_by missing = 0
  spare_by (one t) = spare t
  spare_by (many ts) = spare_among ts
  spare_by (statements ts) = spare_among ts

  pub spare_among : Trees → ℕ
  spare_among empty = 0
  spare_among (t before ts) = spare t + spare_among ts

spare-other : (t : Tree) → is_other (kind_of t) ≡ true → spare t ≡ 9
spare-other (node BlockStatement l fs) h = absurd (cc h)
spare-other (node ForOfStatement l fs) h = absurd (cc h)
spare-other (node ForStatement l fs) h = absurd (cc h)
spare-other (node FunctionBody l fs) h = absurd (cc h)
spare-other (node LabeledStatement l fs) h = absurd (cc h)
spare-other (node StaticBlock l fs) h = absurd (cc h)
spare-other (node SwitchCase l fs) h = absurd (cc h)
spare-other (node SwitchStatement l fs) h = absurd (cc h)
spare-other (node TryStatement l fs) h = absurd (cc h)
spare-other (node VariableDeclaration l fs) h = absurd (cc h)
spare-other (node VariableDeclarator l fs) h = absurd (cc h)
spare-other (node _ l fs) h = refl

-- a node spares no more than what its own weight leaves, and what its parts do
spare-node : (k : AstType) (l : Label) (fs : Fields) → has_others k l fs ≡ true → own_weight k + spare (node k l fs) ≤ 16 + spare_in fs
spare-node VariableDeclarator l (one x then one e then done) h = let d = and_parts (is_other (kind_of x)) (is_other (kind_of e)) h in omega (arith, spare-other x d.0, spare-other e d.1)
spare-node k l fs h = omega arith

-- WHAT IS MADE, where each name weighs two

pub record AreNames (m : Makes) : Type 0 where
  pub context : (n : ℕ) (h : Tree) → weighed (m.context n h) ≡ 2
  pub error : (n : ℕ) (h : Tree) → weighed (m.error n h) ≡ 2
  pub word : (x : Text) (h : Tree) → weighed (m.word x h) ≡ 2

module _ (m : Makes) (named : AreNames m) where
  method-weighs : (n : ℕ) (h : Tree) (p : Text) (args : Trees) → weighed (method m n h p args) ≡ 8 + weighed_among args
  method-weighs n h p args = omega (arith, named.context n h, named.word p h)

  pub tried-weighs : (n : ℕ) (h : Tree) (ts : Trees) → weighed (tried m n h ts) ≡ 48 + weighed_among ts
  tried-weighs n h ts = omega (arith, named.context n h, named.error n h, named.word (codes "babelHelpers") h, named.word (codes "usingCtx") h, named.word (codes "e") h, named.word (codes "d") h)

  -- declarations: one by `using` leaves all but the call that is made for its first value

  declarator-weighs : (n : ℕ) (d : Tree) → weighed (used_declarator m n d) ≤ weighed d + spare d
  declarator-weighs n (node VariableDeclarator l (one x then one e then done)) = omega (arith, method-weighs n e (codes "u") (e before empty))
  declarator-weighs n _ = omega arith

  value-leaves : (n : ℕ) (d : Tree) → has_value d ≡ true → weighed (used_declarator m n d) + 24 ≤ weighed d + spare d
  value-leaves n (node VariableDeclarator l (one x then one e then done)) h = omega (arith, method-weighs n e (codes "u") (e before empty))
  value-leaves n _ h = absurd (cc h)

  pub declarators-weigh : (n : ℕ) (ds : Trees) → weighed_among (used_declarators m n ds) ≤ weighed_among ds + spare_among ds
  declarators-weigh n empty = omega arith
  declarators-weigh n (d before ds) = omega (arith, declarator-weighs n d, declarators-weigh n ds)

  declaration-weighs : (n : ℕ) (t : Tree) → weighed (used_declaration m n t) ≤ weighed t + spare t
  declaration-weighs n (node VariableDeclaration l (many ds then done)) = omega (arith, declarators-weigh n ds)
  declaration-weighs n _ = omega arith

  pub using-leaves : (n : ℕ) (t : Tree) → is_used t ≡ true → weighed (used_declaration m n t) + 38 ≤ weighed t + spare t
  using-leaves n (node VariableDeclaration l (many (d before ds) then done)) h =
      let e = and_parts (has_value d) (have_values ds) (and_parts (is_using_word l.texts) (has_value d && have_values ds) h).1 in
      omega (arith, value-leaves n d e.0, declarators-weigh n ds)
  using-leaves n _ h = absurd (cc h)

  constants-weigh : (n : ℕ) (ts : Trees) → weighed_among (constants m n ts) ≤ weighed_among ts + spare_among ts
  constants-weigh n empty = omega arith
  constants-weigh n (t before ts) = at (is_using_node t) (constants-weigh n ts)
    where
      at : (b : Bool) → weighed_among (constants m n ts) ≤ weighed_among ts + spare_among ts → weighed (if b then used_declaration m n t else t) + weighed_among (constants m n ts) ≤ weighed t + weighed_among ts + (spare t + spare_among ts)
      at true h = omega (arith, declaration-weighs n t, h)
      at false h = omega (arith, h)

  constants-leave : (n : ℕ) (ts : Trees) → has_using ts ≡ true → are_used ts ≡ true → weighed_among (constants m n ts) + 38 ≤ weighed_among ts + spare_among ts
  constants-leave n empty h g = absurd (cc h)
  constants-leave n (t before ts) h g = at (is_using_node t) h g (λ d e. constants-leave n ts d e)
    where
      at : (b : Bool) → (b || has_using ts) ≡ true → ((not b || is_used t) && are_used ts) ≡ true → (has_using ts ≡ true → are_used ts ≡ true → weighed_among (constants m n ts) + 38 ≤ weighed_among ts + spare_among ts) →
          weighed (if b then used_declaration m n t else t) + weighed_among (constants m n ts) + 38 ≤ weighed t + weighed_among ts + (spare t + spare_among ts)
      at true d e rest = omega (arith, using-leaves n t (and_parts (is_used t) (are_used ts) e).0, constants-weigh n ts)
      at false d e rest = omega (arith, rest d e)

  -- cases

  case-weighs : (n : ℕ) (t : Tree) → weighed (used_case m n t) ≤ weighed t + spare t
  case-weighs n (node SwitchCase l (f then statements ts then done)) = omega (arith, constants-weigh n ts)
  case-weighs n _ = omega arith

  case-leaves : (n : ℕ) (t : Tree) → case_has_using t ≡ true → is_used_case t ≡ true → weighed (used_case m n t) + 38 ≤ weighed t + spare t
  case-leaves n (node SwitchCase l (f then statements ts then done)) h g = omega (arith, constants-leave n ts h g)
  case-leaves n _ h g = absurd (cc h)

  cases-weigh : (n : ℕ) (ts : Trees) → weighed_among (used_cases m n ts) ≤ weighed_among ts + spare_among ts
  cases-weigh n empty = omega arith
  cases-weigh n (t before ts) = omega (arith, case-weighs n t, cases-weigh n ts)

  cases-leave : (n : ℕ) (ts : Trees) → some_case_has_using ts ≡ true → are_used_cases ts ≡ true → weighed_among (used_cases m n ts) + 38 ≤ weighed_among ts + spare_among ts
  cases-leave n empty h g = absurd (cc h)
  cases-leave n (t before ts) h g = let d = and_parts (is_used_case t) (are_used_cases ts) g in at (case_has_using t) refl h d.0 (λ e. cases-leave n ts e d.1)
    where
      at : (b : Bool) → case_has_using t ≡ b → (b || some_case_has_using ts) ≡ true → is_used_case t ≡ true → (some_case_has_using ts ≡ true → weighed_among (used_cases m n ts) + 38 ≤ weighed_among ts + spare_among ts) →
          weighed (used_case m n t) + weighed_among (used_cases m n ts) + 38 ≤ weighed t + weighed_among ts + (spare t + spare_among ts)
      at true e d own rest = omega (arith, case-leaves n t e own, cases-weigh n ts)
      at false e d own rest = omega (arith, case-weighs n t, rest d)

  -- loops

  head-leaves : (n : ℕ) (fs : Fields) → uses_in_head fs ≡ true → weighed_in (used_head m n fs) + 38 ≤ weighed_in fs + spare_in fs
  head-leaves n (one t then f then g then h then done) e = omega (arith, using-leaves n t e)
  head-leaves n _ e = absurd (cc e)

  loop-leaves : (n : ℕ) (t : Tree) → leads_to_head t ≡ true → weighed (used_loop m n t) + 38 ≤ weighed t + spare t
  loop-leaves n (node ForStatement l fs) h = omega (arith, head-leaves n fs h)
  loop-leaves n (node LabeledStatement l (one t then one u then done)) h = omega (arith, loop-leaves n u h)
  loop-leaves n _ h = absurd (cc h)

  -- A NODE at which `using` is lowered is paid for, and spares nothing more

  abbrev PaidWith : ℕ → Tree → Fields → Type 0
  PaidWith w t fs = weighed t + spare t ≤ w + (weighed_in fs + spare_in fs)

  abbrev Paid : Tree → Fields → Type 0
  Paid t fs = PaidWith 16 t fs

  block-paid : (s : Standing) (n : ℕ) (l : Label) (ts : Trees) → uses_in_list ts ≡ true → PaidWith 12 (used_block m s n l (statements ts then done)) (statements ts then done)
  block-paid s n l ts h = at (is_part s)
    where
      at : (b : Bool) → let o : Tree = node BlockStatement l (statements ts then done) in PaidWith 12 (if b then node BlockStatement l (statements (tried m n o (constants m n ts) before empty) then done) else tried m n o (constants m n ts)) (statements ts then done)
      at true = let d = and_parts (has_using ts) (are_used ts) h in omega (arith, tried-weighs n (node BlockStatement l (statements ts then done)) (constants m n ts), constants-leave n ts d.0 d.1)
      at false = let d = and_parts (has_using ts) (are_used ts) h in omega (arith, tried-weighs n (node BlockStatement l (statements ts then done)) (constants m n ts), constants-leave n ts d.0 d.1)

  body-weighs : (n : ℕ) (ps : Trees) (b : Tree) → uses_in_body ps b ≡ true → weighed (used_body m n b) ≤ weighed b + spare b
  body-weighs n ps (node FunctionBody l (many ds then statements ts then done)) h =
      let d = and_parts (has_using ts) (are_used ts) (and_parts (uses_in_list ts) (may_enter ps ts) h).0 in
      omega (arith, tried-weighs n (node FunctionBody l (many ds then statements ts then done)) (constants m n ts), constants-leave n ts d.0 d.1)
  body-weighs n ps _ h = absurd (cc h)

  function-weighs : (n : ℕ) (fs : Fields) → uses_in_function fs ≡ true → weighed_in (used_function m n fs) ≤ weighed_in fs + spare_in fs
  function-weighs n (f then many ps then one b then done) h = omega (arith, body-weighs n ps b h)
  function-weighs n _ h = absurd (cc h)

  arrow-weighs : (n : ℕ) (fs : Fields) → uses_in_arrow fs ≡ true → weighed_in (used_arrow m n fs) ≤ weighed_in fs + spare_in fs
  arrow-weighs n (many ps then one b then done) h = omega (arith, body-weighs n ps b h)
  arrow-weighs n _ h = absurd (cc h)

  static-paid : (n : ℕ) (l : Label) (fs : Fields) → uses_in_static_block fs ≡ true → Paid (used_static_block m n l fs) fs
  static-paid n l (statements ts then done) h =
      let d = and_parts (has_using ts) (are_used ts) (and_parts (uses_in_list ts) (may_enter empty ts) h).0 in
      omega (arith, tried-weighs n (node StaticBlock l (statements ts then done)) (constants m n ts), constants-leave n ts d.0 d.1)
  static-paid n l _ h = absurd (cc h)

  node-paid : (s : Standing) (n : ℕ) (k : AstType) (l : Label) (fs : Fields) → uses_here s k l fs ≡ true → Paid (used_node m s n k l fs) fs
  node-paid s n BlockStatement l (statements ts then done) h = omega (arith, block-paid s n l ts h)
  node-paid s n BlockStatement l _ h = absurd (cc h)
  node-paid s n SwitchStatement l (d then many cs then done) h =
      let e = and_parts (some_case_has_using cs) (are_used_cases cs) h in
      omega (arith, tried-weighs n (node SwitchStatement l (d then many cs then done)) (node SwitchStatement l (d then many (used_cases m n cs) then done) before empty), cases-leave n cs e.0 e.1)
  node-paid s n SwitchStatement l _ h = absurd (cc h)
  node-paid s n ForStatement l fs h =
      let t : Tree = node ForStatement l fs in
      omega (arith, tried-weighs n t (used_loop m n t before empty), loop-leaves n t (and_parts (not (is_labelled s)) (uses_in_head fs) h).1)
  node-paid s n LabeledStatement l fs h =
      let t : Tree = node LabeledStatement l fs in
      omega (arith, tried-weighs n t (used_loop m n t before empty), loop-leaves n t (and_parts (not (is_labelled s)) (leads_to_head t) h).1)
  node-paid s n FunctionDeclaration l fs h = omega (arith, function-weighs n fs h)
  node-paid s n FunctionExpression l fs h = omega (arith, function-weighs n fs h)
  node-paid s n ArrowFunctionExpression l fs h = omega (arith, arrow-weighs n fs h)
  node-paid s n StaticBlock l fs h = static-paid n l fs h
  node-paid s n _ l _ h = absurd (cc h)

  abbrev pub PaidBy : ℕ → ℕ × Tree → Type 0
  PaidBy w r = weighed r.1 + spare r.1 ≤ w

  pub here-paid : (s : Standing) (n : ℕ) (k : AstType) (l : Label) (fs : Fields) (w : ℕ) → has_others k l fs ≡ true → weighed_in fs + spare_in fs ≤ w → PaidBy (16 + w) (used_here m s n k l fs)
  here-paid s n k l fs w others h = at (uses_here s k l fs) refl
    where
      at : (b : Bool) → uses_here s k l fs ≡ b → PaidBy (16 + w) (if b then (suc n, used_node m s n k l fs) else (n, node k l fs))
      at true e = omega (arith, node-paid s n k l fs e, h)
      at false e = omega (arith, spare-node k l fs others, h)

  -- a block less than others
  pub block-here : (s : Standing) (n : ℕ) (l : Label) (fs : Fields) (w : ℕ) → weighed_in fs + spare_in fs ≤ w → PaidBy (12 + w) (used_here m s n BlockStatement l fs)
  block-here s n l fs w h = at (uses_here s BlockStatement l fs) refl
    where
      used-block : (gs : Fields) → uses_here s BlockStatement l gs ≡ true → PaidWith 12 (used_node m s n BlockStatement l gs) gs
      used-block (statements ts then done) e = block-paid s n l ts e
      used-block _ e = absurd (cc e)

      at : (b : Bool) → uses_here s BlockStatement l fs ≡ b → PaidBy (12 + w) (if b then (suc n, used_node m s n BlockStatement l fs) else (n, node BlockStatement l fs))
      at true e = omega (arith, used-block fs e, h)
      at false e = omega (arith, h)

  -- names and values stay of such kinds

  node-other : (s : Standing) (n : ℕ) (k : AstType) (l : Label) (fs : Fields) → is_other k ≡ true → uses_here s k l fs ≡ true → is_other (kind_of (used_node m s n k l fs)) ≡ true
  node-other s n BlockStatement l fs h e = absurd (cc h)
  node-other s n ForStatement l fs h e = absurd (cc h)
  node-other s n LabeledStatement l fs h e = absurd (cc h)
  node-other s n StaticBlock l fs h e = absurd (cc h)
  node-other s n SwitchStatement l fs h e = absurd (cc h)
  node-other s n FunctionDeclaration l fs h e = refl
  node-other s n FunctionExpression l fs h e = refl
  node-other s n ArrowFunctionExpression l fs h e = refl
  node-other s n _ l fs h e = absurd (cc e)

  abbrev IsOther : ℕ × Tree → Type 0
  IsOther r = is_other (kind_of r.1) ≡ true

  other-stays : (s : Standing) (n : ℕ) (t : Tree) → is_other (kind_of t) ≡ true → is_other (kind_of (used m s n t).1) ≡ true
  other-stays s n (node k l fs) h = at (used_in m (standing_in k) n fs).0 (used_in m (standing_in k) n fs).1 (uses_here s k l (used_in m (standing_in k) n fs).1) refl
    where
      at : (j : ℕ) (gs : Fields) (b : Bool) → uses_here s k l gs ≡ b → IsOther (if b then (suc j, used_node m s j k l gs) else (j, node k l gs))
      at j gs true e = node-other s j k l gs h e
      at j gs false e = h

  pub others-stay : (c : ℕ → Standing) (n : ℕ) (k : AstType) (l : Label) (fs : Fields) → has_others k l fs ≡ true → has_others k l (used_in m c n fs).1 ≡ true
  others-stay c n VariableDeclarator l (one x then one e then done) h =
      let d = and_parts (is_other (kind_of x)) (is_other (kind_of e)) h in
      and_from (is_other (kind_of (used m (c 0) n x).1)) (is_other (kind_of (used m (c 1) (used m (c 0) n x).0 e).1)) (other-stays (c 0) n x d.0) (other-stays (c 1) (used m (c 0) n x).0 e d.1)
  others-stay c n _ l _ h = refl

  -- A TREE
  mutual
    tree-paid : (s : Standing) (n : ℕ) (t : Tree) → all_nodes has_others t ≡ true → weighed (used m s n t).1 + spare (used m s n t).1 ≤ 16 * tree_size t
    tree-paid s n (node k l fs) h =
        let d = and_parts (has_others k l fs) (all_in_fields has_others fs) h in
        omega (arith, here-paid s (used_in m (standing_in k) n fs).0 k l (used_in m (standing_in k) n fs).1 (16 * fields_size fs) (others-stay (standing_in k) n k l fs d.0) (fields-paid (standing_in k) n fs d.1))

    fields-paid : (c : ℕ → Standing) (n : ℕ) (fs : Fields) → all_in_fields has_others fs ≡ true → weighed_in (used_in m c n fs).1 + spare_in (used_in m c n fs).1 ≤ 16 * fields_size fs
    fields-paid c n done h = omega arith
    fields-paid c n (f then fs) h = let d = and_parts (all_in_field has_others f) (all_in_fields has_others fs) h in omega (arith, field-paid (c 0) n f d.0, fields-paid (λ i. c (suc i)) (used_by m (c 0) n f).0 fs d.1)

    field-paid : (s : Standing) (n : ℕ) (f : Field) → all_in_field has_others f ≡ true → weighed_by (used_by m s n f).1 + spare_by (used_by m s n f).1 ≤ 16 * field_size f
    field-paid s n missing h = omega arith
    field-paid s n (one t) h = tree-paid s n t h
    field-paid s n (many ts) h = trees-paid s n ts h
    field-paid s n (statements ts) h = trees-paid s n ts h

    trees-paid : (s : Standing) (n : ℕ) (ts : Trees) → all_in_trees has_others ts ≡ true → weighed_among (used_among m s n ts).1 + spare_among (used_among m s n ts).1 ≤ 16 * trees_size ts
    trees-paid s n empty h = omega arith
    trees-paid s n (t before ts) h = let d = and_parts (all_nodes has_others t) (all_in_trees has_others ts) h in omega (arith, tree-paid s n t d.0, trees-paid s (used m s n t).0 ts d.1)

  pub used-size : (t : Tree) → has_form s-Program t ≡ true → weighed (used m Anywhere 0 t).1 ≤ 16 * tree_size t
  used-size t h = omega (arith, tree-paid Anywhere 0 t (formed-nodes has_others formed-others s-Program t h))

pub law_used_size_proof : LawUsedSize
law_used_size_proof p names form = used-size (plainly names) (record { context = λ n h. refl; error = λ n h. refl; word = λ x h. refl }) p form
