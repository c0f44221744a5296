-- Where `using` isn't lowered in an expression or a pattern: outside functions and static blocks no statement at which it is lowered stands in it,
-- nor a list of statements; so nothing is pending there once the tree is opened. A static block itself is a scope of its own, as a body is.
use Rattle.std.proofs.Common.{◌≡◌, refl, inl, inr}
use Rattle.std.specs.Prelude.{◌⊎◌, Bool, true, false, if◌then◌else◌}
use Rattle.es_tree.specs.HasForm.{has_form}
use Rattle.es_tree.specs.Tree.{Tree, node, Label, Fields, ◌then◌, missing, one, many, Trees}
use Rattle.es_tree.specs.declared.ast_type.AstType.{AstType}
use Rattle.es_tree.specs.declared.ast_type.AstType.TheVariants.{BlockStatement, ForStatement, LabeledStatement, SwitchStatement}
use Rattle.es_tree.specs.declared.table.Sort.{Sort}
use Rattle.es_tree.specs.declared.table.Sort.TheVariants.{ArrowFunctionBody as s-ArrowFunctionBody}
use Rattle.es_resolution.specs.Declarations.{is_var_scope}
use Rattle.es_steps.specs.Open.{Open, OpenField, OpenFields, OpenTrees, body, child, children, ends, flanked, gap, is_body, is_statement_body, list, nil, nothing_pending, open_node, opened, opened_field, opened_fields, opened_trees, ◌and◌, ◌next◌}
use Rattle.es_pattern_moves.proofs.InnerTrees.{holds_inner, is_inner, tree-holds}

-- QUIET TREES

-- the kinds of statements at which `using` is lowered
abbrev pub is_lowered : AstType → Bool
is_lowered BlockStatement = true
is_lowered SwitchStatement = true
is_lowered ForStatement = true
is_lowered LabeledStatement = true
is_lowered _ = false

abbrev mutual
  pub IsQuiet : Open → Type 0
  IsQuiet (open_node k l fs) = (is_var_scope k ≡ true) ⊎ ((is_lowered k ≡ false) × AreQuietFields fs)

  pub AreQuietFields : OpenFields → Type 0
  AreQuietFields ends = Unit {0}
  AreQuietFields (f and fs) = IsQuietField f × AreQuietFields fs

  pub IsQuietField : OpenField → Type 0
  IsQuietField gap = Unit {0}
  IsQuietField (child t) = IsQuiet t
  IsQuietField (body p t) = (p ≡ nothing_pending) × IsQuiet t
  IsQuietField (children ts) = AreQuietTrees ts
  IsQuietField (list p x a ts) = ⊥

  pub AreQuietTrees : OpenTrees → Type 0
  AreQuietTrees nil = Unit {0}
  AreQuietTrees (t next ts) = IsQuiet t × AreQuietTrees ts
  AreQuietTrees (flanked bs t cs ts) = ⊥

missing-quiet : (b : Bool) → IsQuietField (opened_field b missing)
missing-quiet true = tt
missing-quiet false = tt

body-quiet : (v : Bool) (t : Open) → IsQuiet t → IsQuietField (if v then child t else body nothing_pending t)
body-quiet true t h = h
body-quiet false t h = (refl, h)

one-quiet : (b : Bool) (t : Tree) → IsQuiet (opened t) → IsQuietField (opened_field b (one t))
one-quiet true t h = body-quiet (is_statement_body t) (opened t) h
one-quiet false t h = h

many-quiet : (b : Bool) (ts : Trees) → AreQuietTrees (opened_trees ts) → IsQuietField (opened_field b (many ts))
many-quiet true ts h = h
many-quiet false ts h = h

here-none : (k : AstType) → is_inner k ≡ true → is_lowered k ≡ false
here-none BlockStatement e = absurd (cc e)
here-none SwitchStatement e = absurd (cc e)
here-none ForStatement e = absurd (cc e)
here-none LabeledStatement e = absurd (cc e)
here-none k e = refl

node-quiet : (k : AstType) (l : Label) (fs : Fields) → is_inner k ≡ true → (is_var_scope k ≡ false → AreQuietFields (opened_fields (is_body k) fs)) → IsQuiet (opened (node k l fs))
node-quiet k l fs e inside = at (is_var_scope k) refl
  where
    at : (b : Bool) → is_var_scope k ≡ b → IsQuiet (opened (node k l fs))
    at true h = inl h
    at false h = inr (here-none k e, inside h)

-- a tree in an expression or a pattern
tree-quiet : (s : Sort) (t : Tree) → holds_inner s ≡ true → has_form s t ≡ true → IsQuiet (opened t)
tree-quiet = tree-holds (λ t. IsQuiet (opened t)) (λ bodies fs. AreQuietFields (opened_fields bodies fs)) (λ b f. IsQuietField (opened_field b f)) (λ ts. AreQuietTrees (opened_trees ts)) (record {
  at_node = node-quiet;
  at_done = λ bodies. tt;
  at_then = λ bodies f fs h k. (h, k);
  at_missing = missing-quiet;
  at_one = one-quiet;
  at_many = many-quiet;
  at_empty = tt;
  at_before = λ t ts h k. (h, k);
})

-- the body of an arrow
pub body-is-quiet : (t : Tree) → has_form s-ArrowFunctionBody t ≡ true → IsQuiet (opened t)
body-is-quiet t h = tree-quiet s-ArrowFunctionBody t refl h
