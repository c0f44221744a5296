-- What may stand in which field of a program that has form, as far as the rules of places ask: no statement in an expression, but inside
-- functions, arrows and static blocks; a name as the label; declarators in a declaration, no `this` as what one declares; and no arrow as
-- the function of a method.
use Rattle.std.proofs.Common.{◌≡◌, ◌==◌, ℕ, suc, refl, ap}
use Rattle.std.specs.Prelude.{Bool, true, false, not, ◌&&◌, ◌||◌, Some}
use Rattle.std.proofs.lemmas.Bool.{and_parts, and_from}
use Rattle.es_tree.specs.Ancestors.{is_boundary}
use Rattle.es_tree.specs.Attributes.{child_entries}
use Rattle.es_tree.specs.Children.{child_at}
use Rattle.es_tree.specs.HasForm.{ElementsPlace, elements_of, has_form, is_of_sort, same_type}
use Rattle.es_tree.specs.Tree.{Tree, node, Label, Fields, done, ◌then◌, Field, missing, one, many, statements, Trees, empty, ◌before◌, kind_of}
use Rattle.es_tree.specs.declared.ast_type.AstType.{AstType}
use Rattle.es_tree.specs.declared.ast_type.AstType.TheVariants.{ArrayExpression, ArrayPattern, ArrayTarget, ArrowFunctionExpression, BlockStatement, BreakStatement, CatchClause, ClassDeclaration, ContinueStatement, DebuggerStatement, DoWhileStatement, EmptyStatement, ExportAllDeclaration, ExportDefaultDeclaration, ExportNamedDeclaration, ExpressionStatement, ForInStatement, ForOfStatement, ForStatement, FunctionBody, FunctionDeclaration, Identifier, IfStatement, ImportDeclaration, LabeledStatement, MethodDefinition, Program, ReturnStatement, SwitchCase, SwitchStatement, ThisExpression, ThrowStatement, TryStatement, VariableDeclaration, VariableDeclarator, WhileStatement}
use Rattle.es_tree.specs.declared.table.Sort.{Sort}
use Rattle.es_tree.specs.declared.table.Sort.TheVariants.{Expression as s-Expression}
use Rattle.es_tree.proofs.NodeForm.{node_form}
use Rattle.es_semantic.proofs.FormEdges.{Edges, EdgesAll, EdgesBy, EdgesIn, ElementsFit, edges-inside, elements-are, entries_fit, is_last, same-kind}
use Rattle.es_valid_steps.specs.ArrowNodes.{is_kind_within}
use Rattle.es_valid_steps.proofs.Moves.{is_jump, jumpless, jumpless_all, jumpless_by, jumpless_in}

-- THE TEST

abbrev is_statement : AstType → Bool
is_statement Program = true
is_statement BlockStatement = true
is_statement BreakStatement = true
is_statement CatchClause = true
is_statement ClassDeclaration = true
is_statement ContinueStatement = true
is_statement DebuggerStatement = true
is_statement DoWhileStatement = true
is_statement EmptyStatement = true
is_statement ExportAllDeclaration = true
is_statement ExportDefaultDeclaration = true
is_statement ExportNamedDeclaration = true
is_statement ExpressionStatement = true
is_statement ForInStatement = true
is_statement ForOfStatement = true
is_statement ForStatement = true
is_statement FunctionBody = true
is_statement FunctionDeclaration = true
is_statement IfStatement = true
is_statement ImportDeclaration = true
is_statement LabeledStatement = true
is_statement ReturnStatement = true
is_statement SwitchCase = true
is_statement SwitchStatement = true
is_statement ThrowStatement = true
is_statement TryStatement = true
is_statement VariableDeclaration = true
is_statement WhileStatement = true
is_statement _ = false

abbrev is_lasting : AstType → AstType → Bool
is_lasting k j = is_statement k || is_boundary k || not (is_statement j)

abbrev is_label_name : AstType → ℕ → AstType → Bool
is_label_name k i j = not (is_jump k && i == 0) || same_type j Identifier

abbrev is_declared : AstType → ℕ → AstType → Bool
is_declared k i j = not (same_type k VariableDeclaration && i == 0) || same_type j VariableDeclarator

abbrev is_bound : AstType → ℕ → AstType → Bool
is_bound k i j = not (same_type k VariableDeclarator && i == 0) || not (same_type j ThisExpression)

abbrev is_method : AstType → ℕ → AstType → Bool
is_method k i j = not (same_type k MethodDefinition && i == 1) || not (same_type j ArrowFunctionExpression)

abbrev pub stands : AstType → ℕ → Bool → AstType → Bool
stands k i last j = is_lasting k j && is_label_name k i j && is_declared k i j && is_bound k i j && is_method k i j

record Parts (k : AstType) (i : ℕ) (j : AstType) : Type 0 where
  lasting : is_lasting k j ≡ true
  label : is_label_name k i j ≡ true
  declared : is_declared k i j ≡ true
  bound : is_bound k i j ≡ true
  method : is_method k i j ≡ true

parts : (k j : AstType) (i : ℕ) (last : Bool) → stands k i last j ≡ true → Parts k i j
parts k j i last h =
    let a = and_parts (is_lasting k j && is_label_name k i j && is_declared k i j && is_bound k i j) (is_method k i j) h in
    let b = and_parts (is_lasting k j && is_label_name k i j && is_declared k i j) (is_bound k i j) a.0 in
    let c = and_parts (is_lasting k j && is_label_name k i j) (is_declared k i j) b.0 in
    let d = and_parts (is_lasting k j) (is_label_name k i j) c.0 in
    record { lasting = d.0; label = d.1; declared = c.1; bound = b.1; method = a.1 }

entries-fit : (k : AstType) → entries_fit stands k 0 (child_entries k) ≡ true
entries-fit Program = refl
entries-fit _ = refl

elements-fit : (k : AstType) (p : ElementsPlace) → elements_of (child_entries k) ≡ Some p → ElementsFit stands k p
elements-fit ArrayExpression p e = elements-are stands ArrayExpression _ p e (record { sort = λ i b. refl; last = λ i b. refl })
elements-fit ArrayPattern p e = elements-are stands ArrayPattern _ p e (record { sort = λ i b. refl; last = λ i b. refl })
elements-fit ArrayTarget p e = elements-are stands ArrayTarget _ p e (record { sort = λ i b. refl; last = λ i b. refl })
elements-fit _ p e = absurd (cc e)

pub edges : (s : Sort) (k : AstType) (l : Label) (fs : Fields) → has_form s (node k l fs) ≡ true → EdgesIn stands k 0 fs
edges = edges-inside stands (record { entries = entries-fit; elements = elements-fit })

-- NO JUMP in what is no statement

lasting : (k j : AstType) (i : ℕ) (last : Bool) → stands k i last j ≡ true → is_statement k ≡ false → is_boundary k ≡ false → is_statement j ≡ false
lasting k j i last h e d = at (is_statement k) (is_boundary k) (is_statement j) e d (parts k j i last h).lasting
  where
    at : (a b c : Bool) → a ≡ false → b ≡ false → (a || b || not c) ≡ true → c ≡ false
    at true b c e d h = absurd (cc e)
    at false true c e d h = absurd (cc d)
    at false false true e d h = absurd (cc h)
    at false false false e d h = refl

statement-jump : (k : AstType) → is_statement k ≡ false → is_jump k ≡ false
statement-jump BreakStatement e = absurd (cc e)
statement-jump ContinueStatement e = absurd (cc e)
statement-jump LabeledStatement e = absurd (cc e)
statement-jump _ e = refl

or-true : (b c : Bool) → (b ≡ false → c ≡ true) → (b || c) ≡ true
or-true true c h = refl
or-true false c h = h refl

mutual
  quiet-tree : (k : AstType) (i : ℕ) (last : Bool) (t : Tree) → Edges stands k i last t → is_statement (kind_of t) ≡ false → jumpless t ≡ true
  quiet-tree k i last (node j l fs) h e = and_from (not (is_jump j)) (is_boundary j || jumpless_in fs) (ap (λ b. not b) (statement-jump j e)) (or-true (is_boundary j) (jumpless_in fs) (λ d. quiet-in j 0 fs h.1 e d))

  quiet-in : (k : AstType) (i : ℕ) (fs : Fields) → EdgesIn stands k i fs → is_statement k ≡ false → is_boundary k ≡ false → jumpless_in fs ≡ true
  quiet-in k i done h e d = refl
  quiet-in k i (f then fs) h e d = and_from (jumpless_by f) (jumpless_in fs) (quiet-by k i (is_last fs) f h.0 e d) (quiet-in k (suc i) fs h.1 e d)

  quiet-by : (k : AstType) (i : ℕ) (last : Bool) (f : Field) → EdgesBy stands k i last f → is_statement k ≡ false → is_boundary k ≡ false → jumpless_by f ≡ true
  quiet-by k i last missing h e d = refl
  quiet-by k i last (one t) h e d = quiet-tree k i last t h (quiet-kind k i last t h e d)
  quiet-by k i last (many ts) h e d = quiet-all k i ts h e d
  quiet-by k i last (statements ts) h e d = quiet-all k i ts h e d

  quiet-all : (k : AstType) (i : ℕ) (ts : Trees) → EdgesAll stands k i ts → is_statement k ≡ false → is_boundary k ≡ false → jumpless_all ts ≡ true
  quiet-all k i empty h e d = refl
  quiet-all k i (t before ts) h e d = and_from (jumpless t) (jumpless_all ts) (quiet-tree k i false t h.0 (quiet-kind k i false t h.0 e d)) (quiet-all k i ts h.1 e d)

  quiet-kind : (k : AstType) (i : ℕ) (last : Bool) (t : Tree) → Edges stands k i last t → is_statement k ≡ false → is_boundary k ≡ false → is_statement (kind_of t) ≡ false
  quiet-kind k i last (node j l fs) h e d = lasting k j i last h.0 e d

expression-kind : (k : AstType) → is_of_sort s-Expression k ≡ true → is_statement k ≡ false
expression-kind Program h = absurd (cc h)
expression-kind BlockStatement h = absurd (cc h)
expression-kind BreakStatement h = absurd (cc h)
expression-kind CatchClause h = absurd (cc h)
expression-kind ClassDeclaration h = absurd (cc h)
expression-kind ContinueStatement h = absurd (cc h)
expression-kind DebuggerStatement h = absurd (cc h)
expression-kind DoWhileStatement h = absurd (cc h)
expression-kind EmptyStatement h = absurd (cc h)
expression-kind ExportAllDeclaration h = absurd (cc h)
expression-kind ExportDefaultDeclaration h = absurd (cc h)
expression-kind ExportNamedDeclaration h = absurd (cc h)
expression-kind ExpressionStatement h = absurd (cc h)
expression-kind ForInStatement h = absurd (cc h)
expression-kind ForOfStatement h = absurd (cc h)
expression-kind ForStatement h = absurd (cc h)
expression-kind FunctionBody h = absurd (cc h)
expression-kind FunctionDeclaration h = absurd (cc h)
expression-kind IfStatement h = absurd (cc h)
expression-kind ImportDeclaration h = absurd (cc h)
expression-kind LabeledStatement h = absurd (cc h)
expression-kind ReturnStatement h = absurd (cc h)
expression-kind SwitchCase h = absurd (cc h)
expression-kind SwitchStatement h = absurd (cc h)
expression-kind ThrowStatement h = absurd (cc h)
expression-kind TryStatement h = absurd (cc h)
expression-kind VariableDeclaration h = absurd (cc h)
expression-kind WhileStatement h = absurd (cc h)
expression-kind _ h = refl

-- an expression has no jump that leads out of it
pub expression-jumpless : (t : Tree) → has_form s-Expression t ≡ true → jumpless t ≡ true
expression-jumpless (node k l fs) h =
    let e = expression-kind k (node_form s-Expression k l fs h).sort in
    and_from (not (is_jump k)) (is_boundary k || jumpless_in fs) (ap (λ b. not b) (statement-jump k e)) (or-true (is_boundary k) (jumpless_in fs) (λ d. quiet-in k 0 fs (edges s-Expression k l fs h) e d))

-- WHAT STANDS IN A FIELD

left-false : (a b : Bool) → a ≡ true → (not a || b) ≡ true → b ≡ true
left-false true b e h = h
left-false false b e h = absurd (cc e)

-- a label is a name
pub is-label : (k : AstType) (i : ℕ) (last : Bool) (t : Tree) → Edges stands k i last t → is_label_name k i (kind_of t) ≡ true
is-label k i last (node j l fs) h = (parts k j i last h.0).label

pub label-kind : (k : AstType) (last : Bool) (t : Tree) → is_jump k ≡ true → Edges stands k 0 last t → kind_of t ≡ Identifier
label-kind k last t e h = same-kind (kind_of t) Identifier (left-false (is_jump k && true) (same_type (kind_of t) Identifier) (and_from (is_jump k) true e refl) (is-label k 0 last t h))

pub declarator-kind : (t : Tree) → Edges stands VariableDeclaration 0 false t → kind_of t ≡ VariableDeclarator
declarator-kind (node j l fs) h = same-kind j VariableDeclarator (parts VariableDeclaration j 0 false h.0).declared

not-true : (b : Bool) → not b ≡ true → b ≡ false
not-true true e = absurd (cc e)
not-true false e = refl

pub no-this-declared : (k : AstType) (fs : Fields) → k ≡ VariableDeclarator → EdgesIn stands k 0 fs → is_kind_within ThisExpression (child_at 0 fs) ≡ false
no-this-declared k done e h = refl
no-this-declared k (missing then fs) e h = refl
no-this-declared k (one (node j l hs) then fs) e h = not-true (same_type j ThisExpression) (left-false (same_type k VariableDeclarator && true) (not (same_type j ThisExpression)) (and_from (same_type k VariableDeclarator) true (ap (λ i. same_type i VariableDeclarator) e) refl) (parts k j 0 (is_last fs) h.0.0).bound)
no-this-declared k (many ts then fs) e h = refl
no-this-declared k (statements ts then fs) e h = refl

pub no-arrow-method : (fs : Fields) → EdgesIn stands MethodDefinition 0 fs → is_kind_within ArrowFunctionExpression (child_at 1 fs) ≡ false
no-arrow-method done h = refl
no-arrow-method (f then done) h = refl
no-arrow-method (f then (missing then fs)) h = refl
no-arrow-method (f then (one (node j l hs) then fs)) h = not-true (same_type j ArrowFunctionExpression) (parts MethodDefinition j 1 (is_last fs) h.1.0.0).method
no-arrow-method (f then (many ts then fs)) h = refl
no-arrow-method (f then (statements ts then fs)) h = refl
