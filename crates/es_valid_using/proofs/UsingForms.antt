-- What `using` becomes in a block has form.
use Rattle.std.proofs.Common.{◌≡◌, refl, List, [], ◌∷◌}
use Rattle.std.specs.Prelude.{true, false, Some, codes}
use Rattle.std.proofs.lemmas.Bool.{and_from}
use Rattle.es_tree.specs.HasForm.{has_form, is_of_sort, trees_form}
use Rattle.es_tree.specs.Tree.{Tree, node, Label, done, ◌then◌, one, many, statements, Trees, empty, ◌before◌, trees}
use Rattle.es_tree.specs.Words.{Text}
use Rattle.es_tree.specs.declared.ast_type.AstType.TheVariants.{BlockStatement, TryStatement, VariableDeclaration, VariableDeclarator}
use Rattle.es_tree.specs.declared.table.Sort.{Sort}
use Rattle.es_tree.specs.declared.table.Sort.TheVariants.{Argument as s-Argument, BlockStatement as s-BlockStatement, CatchClause as s-CatchClause, MemberProperty as s-MemberProperty, Statement as s-Statement, VariableDeclarator as s-VariableDeclarator}
use Rattle.es_tree.proofs.NodeForm.{node_form, has_form-node}
use Rattle.es_resolution.specs.Declarations.{Bound}
use Rattle.es_resolution.specs.Resolved.{Place}
use Rattle.es_steps.specs.Nodes.{block_node, call_node, catch_node, assign_node, declaration_node, declarator_with, identifier, made, member_node, statement_node, word}
use Rattle.es_steps.specs.Rules.{next_name}
use Rattle.es_steps.specs.Steps.{Ledger, Site, Whole}
use Rattle.es_steps.specs.Steps.Spot.{at_node}
use Rattle.es_steps.specs.UsingBlocks.{BlockUsing, Constants, TakesContext, UsedAll, block_of, error_of, inside_block, is_statement_place, method_call, protected}
use Rattle.es_steps.specs.UsingBlocks.BlockUsing.{of_block, of_part}
use Rattle.es_steps.specs.UsingBlocks.Constants.{ended, stays, using}
use Rattle.es_steps.specs.UsingBlocks.UsedAll.{no_more, uses}
use Rattle.es_steps.proofs.FormLists.{first-formed}
use Rattle.es_steps.proofs.FormMembers.{formed-call, formed-first, formed-member}
use Rattle.es_steps.proofs.FormParts.{IsFormed, IsText, and-left, and-right, formed-name, no-span}
use Rattle.es_steps.proofs.FormRows.{next-text}
use Rattle.es_steps.proofs.FormSorts.{form-wider}
use Rattle.es_valid_using.proofs.UsingTrees.{lets_try, or-first}

-- THE CONTEXT'S NAME isn't empty

pub context-text : (w : Whole) (c : Text) (p : Place) → TakesContext w c p → IsText (next_name w c)
context-text w c p h = next-text w (codes "usingCtx") (next_name w c) (record { fresh = h.fresh; symbol = refl })

-- CALLS of its methods

pub method-form : (c : Bound) (name : Text) (arguments : List Tree) → IsText c → has_form s-MemberProperty (word name) ≡ true → trees_form s-Argument s-Argument (trees arguments) ≡ true → IsFormed (method_call c name arguments)
method-form c name arguments h k g =
    let callee = formed-member (made [] (false ∷ false ∷ [])) false false (identifier c) (word name) refl refl (no-span [] (false ∷ false ∷ [])) (formed-name c h) k in
    formed-call (made [] (false ∷ [])) false (member_node (identifier c) name) (trees arguments) refl refl (no-span [] (false ∷ [])) callee g

used-form : (c : Bound) (e : Tree) → IsText c → IsFormed e → IsFormed (method_call c (codes "u") (e ∷ []))
used-form c e h k = method-form c (codes "u") (e ∷ []) h refl (formed-first s-Argument e empty (form-wider s-Argument e refl k) refl)

-- DECLARATORS, of which there are some

module _ (c : Bound) (h : IsText c) where
  uses-form : (ds es : Trees) → UsedAll c ds es → trees_form s-VariableDeclarator s-VariableDeclarator ds ≡ true → trees_form s-VariableDeclarator s-VariableDeclarator es ≡ true
  uses-form ds es no_more f = refl
  uses-form ds es (uses {l = l} {x = x} {e = e} {ds = ds'} {es = es'} r) f =
      let parts = first-formed s-VariableDeclarator (node VariableDeclarator l (one x then one e then done)) ds' f in
      let d = node_form s-VariableDeclarator VariableDeclarator l (one x then one e then done) parts.0 in
      let value = and-left _ true (and-right _ _ d.children) in
      let new = one x then one (method_call c (codes "u") (e ∷ [])) then done in
      formed-first s-VariableDeclarator (node VariableDeclarator l new) es'
      (has_form-node s-VariableDeclarator VariableDeclarator l new (record { sort = d.sort; texts = d.texts; flags = d.flags; start = d.start; stop = d.stop; agree = refl; children = and_from _ _ (and-left _ _ d.children) (and_from _ true (used-form c e h value) refl) }))
      (uses-form ds' es' r parts.1)

  -- `using` as `const`
  pub declaration-form : (s : Sort) (l : Label) (ds es : Trees) → UsedAll c ds es → has_form s (node VariableDeclaration l (many ds then done)) ≡ true → has_form s (node VariableDeclaration (record l { texts = Some (codes "const") ∷ [] }) (many es then done)) ≡ true
  declaration-form s l ds es no_more f = absurd (cc (node_form s VariableDeclaration l (many empty then done) f).children)
  declaration-form s l ds es (uses {l = k} {x = x} {e = e} {ds = ds'} {es = es'} r) f =
      let d = node_form s VariableDeclaration l (many (node VariableDeclarator k (one x then one e then done) before ds') then done) f in
      let list = uses-form (node VariableDeclarator k (one x then one e then done) before ds') (node VariableDeclarator k (one x then one (method_call c (codes "u") (e ∷ [])) then done) before es') (uses r) (and-left _ true d.children) in
      has_form-node s VariableDeclaration (record l { texts = Some (codes "const") ∷ [] }) (many (node VariableDeclarator k (one x then one (method_call c (codes "u") (e ∷ [])) then done) before es') then done) (record { sort = d.sort; texts = refl; flags = d.flags; start = d.start; stop = d.stop; agree = refl; children = and_from _ true list refl })

  pub constants-form : (ts us : Trees) → Constants c ts us → trees_form s-Statement s-Statement ts ≡ true → trees_form s-Statement s-Statement us ≡ true
  constants-form ts us ended f = refl
  constants-form ts us (stays {t = t} {ts = ts'} {us = us'} e r) f =
      let parts = first-formed s-Statement t ts' f in
      formed-first s-Statement t us' parts.0 (constants-form ts' us' r parts.1)
  constants-form ts us (using {l = l} {ds = ds} {es = es} {ts = ts'} {us = us'} e d r) f =
      let parts = first-formed s-Statement (node VariableDeclaration l (many ds then done)) ts' f in
      formed-first s-Statement (node VariableDeclaration (record l { texts = Some (codes "const") ∷ [] }) (many es then done)) us' (declaration-form s-Statement l ds es d parts.0) (constants-form ts' us' r parts.1)

  -- THE `try`

  made-form : has_form s-Statement (declaration_node (codes "var") (declarator_with (identifier c) (call_node (member_node (word (codes "babelHelpers")) (codes "usingCtx")) []) ∷ [])) ≡ true
  made-form = rw h refl

  block-form : (ts : Trees) → trees_form s-Statement s-Statement ts ≡ true → has_form s-BlockStatement (block_node (declaration_node (codes "var") (declarator_with (identifier c) (call_node (member_node (word (codes "babelHelpers")) (codes "usingCtx")) []) ∷ []) before ts)) ≡ true
  block-form ts f =
      let made_one = declaration_node (codes "var") (declarator_with (identifier c) (call_node (member_node (word (codes "babelHelpers")) (codes "usingCtx")) []) ∷ []) in
      let span = no-span [] [] in
      has_form-node s-BlockStatement BlockStatement (made [] []) (statements (made_one before ts) then done) (record { sort = refl; texts = refl; flags = refl; start = span.start; stop = span.stop; agree = refl; children = and_from _ true (formed-first s-Statement made_one ts made-form f) refl })

  handler-form : (u : Bound) → IsText u → has_form s-CatchClause (catch_node (identifier u) (block_node (statement_node (assign_node (member_node (identifier c) (codes "e")) (identifier u)) before empty))) ≡ true
  handler-form u k = rw (h, k) refl

  finalizer-form : has_form s-BlockStatement (block_node (statement_node (method_call c (codes "d") []) before empty)) ≡ true
  finalizer-form = rw h refl

  pub protected-form : (s : Sort) (u : Bound) (ts : Trees) → is_of_sort s TryStatement ≡ true → IsText u → trees_form s-Statement s-Statement ts ≡ true → has_form s (protected c u ts) ≡ true
  protected-form s u ts e k f =
      let span = no-span [] [] in
      let block = block_node (declaration_node (codes "var") (declarator_with (identifier c) (call_node (member_node (word (codes "babelHelpers")) (codes "usingCtx")) []) ∷ []) before ts) in
      let handler = catch_node (identifier u) (block_node (statement_node (assign_node (member_node (identifier c) (codes "e")) (identifier u)) before empty)) in
      let finalizer = block_node (statement_node (method_call c (codes "d") []) before empty) in
      has_form-node s TryStatement (made [] []) (one block then one handler then one finalizer then done) (record { sort = e; texts = refl; flags = refl; start = span.start; stop = span.stop; agree = refl; children = and_from _ _ (block-form ts f) (and_from _ _ (handler-form u k) (and_from _ true finalizer-form refl)) })

-- BLOCKS

-- a list in the place of another, in a block
listed-form : (a : Sort) (m : Label) (ts us : Trees) → has_form a (block_of m ts) ≡ true → (trees_form s-Statement s-Statement ts ≡ true → trees_form s-Statement s-Statement us ≡ true) → has_form a (block_of m us) ≡ true
listed-form a m ts us f g =
    let d = node_form a BlockStatement m (statements ts then done) f in
    has_form-node a BlockStatement m (statements us then done) (record { sort = d.sort; texts = d.texts; flags = d.flags; start = d.start; stop = d.stop; agree = refl; children = and_from _ true (g (and-left _ true d.children)) refl })

pub block-using-form : (n : Site) (s s' : Ledger) (t u : Tree) (a : Sort) → (is_statement_place n.above ≡ true → lets_try a ≡ true) → BlockUsing n s (at_node t) s' (at_node u) → has_form a t ≡ true → has_form a u ≡ true
block-using-form n s s' t u a lets (of_block {w = w} {m = m} {ts = ts} {us = us} {c = c} place has takes r) f =
    let d = node_form a BlockStatement m (statements ts then done) f in
    let text = context-text w c (inside_block n m ts) takes in
    protected-form (next_name w c) text a (error_of w) us (or-first (is_of_sort a BlockStatement) (is_of_sort a TryStatement) (lets place) d.sort) refl (constants-form (next_name w c) text ts us r (and-left _ true d.children))
block-using-form n s s' t u a lets (of_part {w = w} {m = m} {ts = ts} {us = us} {c = c} place has takes r) f =
    let text = context-text w c (inside_block n m ts) takes in
    listed-form a m ts (protected (next_name w c) (error_of w) us before empty) f (λ g. formed-first s-Statement (protected (next_name w c) (error_of w) us) empty (protected-form (next_name w c) text s-Statement (error_of w) us refl refl (constants-form (next_name w c) text ts us r g)) refl)
