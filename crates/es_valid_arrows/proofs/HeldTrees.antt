-- What is pending holds nothing that a slot is wrapped for.
use Rattle.std.proofs.Common.{refl, sym, subst, List, [], ◌∷◌}
use Rattle.std.specs.Prelude.{◌||◌, Bool, true, false, Option, Some, None, codes, map, if◌then◌else◌}
use Rattle.std.proofs.lemmas.Bool.{or_from}
use Rattle.es_tree.specs.Tree.{Tree, node, Label, done, ◌then◌, missing, one, many, statements, Trees, empty, ◌before◌, trees}
use Rattle.es_tree.specs.declared.ast_type.AstType.TheVariants.{FunctionBody, ReturnStatement, ThisExpression, VariableDeclaration, VariableDeclarator}
use Rattle.es_tree.specs.declared.options.EnvOptions.{EnvOptions}
use Rattle.es_resolution.specs.Declarations.{Bound}
use Rattle.es_steps.specs.Nodes.{declarator, declarator_with, identifier, joined_trees, made, return_node, this_expression}
use Rattle.es_steps.specs.Open.{Additions, Pending, after_imports, declaration, is_import, nothing_pending, whole_list, with_this, with_vars, written_body}
use Rattle.es_steps.specs.Slots.{holds, holds_trees}
use Rattle.es_steps.specs.WrapRule.{is_wrapped_for}
use Rattle.es_steps.proofs.FormLists.{IsPlain}
use Rattle.es_conditions.proofs.Marks.{first-of, second-of}
use Rattle.es_conditions.proofs.Unwrapped.{name-holds, no-nullish, two-hold-none, unwrapped}
use Rattle.es_valid_arrows.proofs.HeldRows.{None_among, None_of}
use Rattle.es_valid_arrows.proofs.Wide.{IsListed}

module _ (o : EnvOptions) where
  -- LISTS

  first-none : (t : Tree) (ts : Trees) → None_of o t → None_among o ts → None_among o (t before ts)
  first-none t ts h k = or_from (holds (is_wrapped_for o) t) (holds_trees (is_wrapped_for o) ts) h k

  joined-none : (xs ts : Trees) → None_among o xs → None_among o ts → None_among o (joined_trees xs ts)
  joined-none empty ts h k = k
  joined-none (x before xs) ts h k = first-none x (joined_trees xs ts) (first-of (holds (is_wrapped_for o) x) _ h) (joined-none xs ts (second-of (holds (is_wrapped_for o) x) _ h) k)

  none-joined : (xs ts : Trees) → None_among o (joined_trees xs ts) → None_among o ts
  none-joined empty ts h = h
  none-joined (x before xs) ts h = none-joined xs ts (second-of (holds (is_wrapped_for o) x) _ h)

  after-none : (bs ts : Trees) → None_among o bs → None_among o ts → None_among o (after_imports bs ts)
  after-none bs empty h k = h
  after-none bs (t before ts) h k = at (is_import t) (after-none bs ts h (second-of (holds (is_wrapped_for o) t) _ k))
    where
      at : (v : Bool) → None_among o (after_imports bs ts) → None_among o (if v then t before after_imports bs ts else joined_trees bs (t before ts))
      at true rest = first-none t (after_imports bs ts) (first-of (holds (is_wrapped_for o) t) _ k) rest
      at false rest = joined-none bs (t before ts) h k

  pub none-after : (bs ts : Trees) → None_among o (after_imports bs ts) → None_among o ts
  none-after bs empty h = refl
  none-after bs (t before ts) h = at (is_import t) (λ k. none-after bs ts k) h
    where
      at : (v : Bool) → (None_among o (after_imports bs ts) → None_among o ts) → None_among o (if v then t before after_imports bs ts else joined_trees bs (t before ts)) → None_among o (t before ts)
      at true rest h = first-none t ts (first-of (holds (is_wrapped_for o) t) _ h) (rest (second-of (holds (is_wrapped_for o) t) _ h))
      at false rest h = none-joined bs (t before ts) h

  -- PENDING

  pub identifier-none : (b : Bound) → None_of o (identifier b)
  identifier-none b = name-holds o (record (made (Some b.name ∷ []) []) { marks = b.symbol ∷ [] })

  declarator-none : (b : Bound) → None_of o (declarator b)
  declarator-none b =
      let fs = one (identifier b) then missing then done in
      or_from (is_wrapped_for o VariableDeclarator (made [] []) fs) (holds (is_wrapped_for o) (identifier b) || false) (unwrapped o VariableDeclarator (made [] []) fs (no-nullish o) refl refl refl refl) (or_from (holds (is_wrapped_for o) (identifier b)) false (identifier-none b) refl)

  declarators-none : (bs : List Bound) → None_among o (trees (map declarator bs))
  declarators-none [] = refl
  declarators-none (b ∷ bs) = first-none (declarator b) (trees (map declarator bs)) (declarator-none b) (declarators-none bs)

  statement-none : (l : Label) (ds : Trees) → None_among o ds → None_of o (node VariableDeclaration l (many ds then done))
  statement-none l ds h = or_from (is_wrapped_for o VariableDeclaration l (many ds then done)) (holds_trees (is_wrapped_for o) ds || false) (unwrapped o VariableDeclaration l (many ds then done) (no-nullish o) refl refl refl refl) (or_from (holds_trees (is_wrapped_for o) ds) false h refl)

  declaration-none : (bs : List Bound) (ts : Trees) → None_among o ts → None_among o (declaration (codes "var") (map declarator bs) ts)
  declaration-none [] ts h = h
  declaration-none (b ∷ bs) ts h =
      let l = made (Some (codes "var") ∷ []) [] in
      first-none (node VariableDeclaration l (many (trees (map declarator (b ∷ bs))) then done)) ts (statement-none l (trees (map declarator (b ∷ bs))) (declarators-none (b ∷ bs))) h

  this-none : (x : Option Bound) (ts : Trees) → None_among o ts → None_among o (with_this x ts)
  this-none None ts h = h
  this-none (Some b) ts h =
      let d = declarator_with (identifier b) this_expression in
      let fs = one (identifier b) then one this_expression then done in
      let word : None_of o this_expression = or_from (is_wrapped_for o ThisExpression (made [] []) done) false (unwrapped o ThisExpression (made [] []) done (no-nullish o) refl refl refl refl) refl in
      let one_declarator = two-hold-none (is_wrapped_for o VariableDeclarator (made [] []) fs) (holds (is_wrapped_for o) (identifier b)) (holds (is_wrapped_for o) this_expression) (unwrapped o VariableDeclarator (made [] []) fs (no-nullish o) refl refl refl refl) (identifier-none b) word in
      let l = made (Some (codes "var") ∷ []) [] in
      first-none (node VariableDeclaration l (many (d before empty) then done)) ts (statement-none l (d before empty) (first-none d empty one_declarator refl)) h

  -- a list with what is pending for it
  pub whole-none : (p : Pending) (x : Option Bound) (a : Additions) (ts : Trees) → IsListed p x a → None_among o ts → None_among o (whole_list p x a ts)
  whole-none p x a ts h g =
      subst (λ (p : Pending). None_among o (whole_list p x a ts)) (sym h.vars.are)
      (subst (λ (a : Additions). None_among o (whole_list (with_vars h.vars.names nothing_pending) x a ts)) (sym h.top)
      (after-none (with_this x (declaration (codes "var") (map declarator h.vars.names) empty)) ts (this-none x (declaration (codes "var") (map declarator h.vars.names) empty) (declaration-none h.vars.names empty refl)) g))

  -- BODIES of arrows

  returned-none : (e : Tree) → None_of o e → None_of o (return_node e)
  returned-none e h = or_from (is_wrapped_for o ReturnStatement (made [] []) (one e then done)) (holds (is_wrapped_for o) e || false) (unwrapped o ReturnStatement (made [] []) (one e then done) (no-nullish o) refl refl refl refl) (or_from (holds (is_wrapped_for o) e) false h refl)

  block-none : (ts : Trees) → None_among o ts → None_of o (node FunctionBody (made [] []) (many empty then statements ts then done))
  block-none ts h =
      let fs = many empty then statements ts then done in
      or_from (is_wrapped_for o FunctionBody (made [] []) fs) (holds_trees (is_wrapped_for o) ts || false) (unwrapped o FunctionBody (made [] []) fs (no-nullish o) refl refl refl refl) (or_from (holds_trees (is_wrapped_for o) ts) false h refl)

  with-names : (bs : List Bound) (e : Tree) → None_of o e → None_of o (written_body (with_vars bs nothing_pending) e)
  with-names [] e h = h
  with-names (b ∷ bs) e h =
      block-none (declaration (codes "var") (map declarator (b ∷ bs)) (return_node e before empty)) (declaration-none (b ∷ bs) (return_node e before empty) (first-none (return_node e) empty (returned-none e h) refl))

  without-names : (bs : List Bound) (e : Tree) → None_of o (written_body (with_vars bs nothing_pending) e) → None_of o e
  without-names [] e h = h
  without-names (b ∷ bs) e h =
      let ts = declaration (codes "var") (map declarator (b ∷ bs)) (return_node e before empty) in
      let listed = first-of (holds_trees (is_wrapped_for o) ts) false (second-of (is_wrapped_for o FunctionBody (made [] []) (many empty then statements ts then done)) _ h) in
      let last = first-of (holds (is_wrapped_for o) (return_node e)) false (second-of (holds (is_wrapped_for o) (node VariableDeclaration (made (Some (codes "var") ∷ []) []) (many (trees (map declarator (b ∷ bs))) then done))) _ listed) in
      first-of (holds (is_wrapped_for o) e) false (second-of (is_wrapped_for o ReturnStatement (made [] []) (one e then done)) _ last)

  pub body-none : (p : Pending) (e : Tree) → IsPlain p → None_of o e → None_of o (written_body p e)
  body-none p e h k = subst (λ (p : Pending). None_of o (written_body p e)) (sym h.are) (with-names h.names e k)

  pub none-body : (p : Pending) (e : Tree) → IsPlain p → None_of o (written_body p e) → None_of o e
  none-body p e h k = without-names h.names e (subst (λ (p : Pending). None_of o (written_body p e)) h.are k)
