-- An arrow that became a function: what is seen of it, and what it costs.
use Rattle.std.proofs.Common.{◌≡◌, ◌∙◌, ◌+◌, ◌<◌, ◌≤◌, ℕ, refl, sym, ap, subst, arith, length, List, [], ◌∷◌}
use Rattle.std.specs.Prelude.{Bool, true, false, Option, Some, None, if◌then◌else◌}
use Rattle.es_tree.specs.HasForm.{same_type}
use Rattle.es_tree.specs.Tree.{Tree, node, Label, Fields, done, ◌then◌, Field, missing, one, many, statements, empty, ◌before◌, field_size, fields_size, tree_size}
use Rattle.es_tree.specs.Views.{plain_fields}
use Rattle.es_tree.specs.Words.{Text}
use Rattle.es_tree.specs.declared.ast_type.AstType.{AstType}
use Rattle.es_tree.specs.declared.ast_type.AstType.TheVariants.{ArrowFunctionExpression, AssignmentExpression, BinaryExpression, FunctionBody, LogicalExpression}
use Rattle.es_tree.specs.declared.node.Field.{Field as NodeField}
use Rattle.es_runs.specs.Weights.{field_weight, fields_weight, own_weight, weight}
use Rattle.es_resolution.specs.Seen.{seen, seen_by, seen_in}
use Rattle.es_changes.specs.Moments.{Moment}
use Rattle.es_steps.specs.Nodes.{body_node, return_node}
use Rattle.es_steps.specs.Open.{is_statement_body}
use Rattle.lower_arrows.specs.Functions.{bodied, bodied_by, bodied_in, function_from, ids_by, ids_for, ids_in}
use Rattle.lower_arrows.specs.Names.{due}
use Rattle.lower_arrows.specs.Walks.{Paid, may_belong}

-- WHAT IS SEEN

statement-seen : (names : ℕ → Text → Option ℕ) (t : Tree) → is_statement_body (seen names t) ≡ is_statement_body t
statement-seen names (node FunctionBody l fs) = refl
statement-seen names (node _ l fs) = refl

-- fewer fields than two
pub short-fields : (names : ℕ → Text → Option ℕ) (fs : List NodeField) → length fs < 2 → seen_in names (plain_fields fs) ≡ bodied_in (seen_in names (plain_fields fs))
short-fields names [] h = refl
short-fields names (f ∷ []) h = refl
short-fields names (f ∷ g ∷ fs) h = absurd (omega (arith, h))

pub short-ids : (fs : List NodeField) → length fs < 2 → ids_in (plain_fields fs) ≡ 0
short-ids [] h = refl
short-ids (f ∷ []) h = refl
short-ids (f ∷ g ∷ fs) h = absurd (omega (arith, h))

-- WHAT IT COSTS

small-ids : (t : Tree) → ids_for t ≤ 2
small-ids t = by (is_statement_body t)
  where
    by : (v : Bool) → (if v then 0 else 2) ≤ 2
    by true = omega arith
    by false = omega arith

small-ids-by : (f : Field) → ids_by f ≤ 2
small-ids-by missing = omega arith
small-ids-by (one t) = small-ids t
small-ids-by (many ts) = omega arith
small-ids-by (statements ts) = omega arith

pub small-ids-in : (fs : Fields) → ids_in fs ≤ 2
small-ids-in done = omega arith
small-ids-in (f then done) = omega arith
small-ids-in (f then (g then fs)) = small-ids-by g

bodied-weight : (t : Tree) → weight (bodied t) ≡ weight t + ids_for t
bodied-weight t = by (is_statement_body t)
  where
    by : (v : Bool) → weight (if v then t else body_node (return_node t before empty)) ≡ weight t + (if v then 0 else 2)
    by true = omega arith
    by false = omega arith

bodied-size : (t : Tree) → tree_size (bodied t) ≡ tree_size t + ids_for t
bodied-size t = by (is_statement_body t)
  where
    by : (v : Bool) → tree_size (if v then t else body_node (return_node t before empty)) ≡ tree_size t + (if v then 0 else 2)
    by true = omega arith
    by false = omega arith

by-weight : (f : Field) → field_weight (bodied_by f) ≡ field_weight f + ids_by f
by-weight missing = refl
by-weight (one t) = bodied-weight t
by-weight (many ts) = omega arith
by-weight (statements ts) = omega arith

by-size : (f : Field) → field_size (bodied_by f) ≡ field_size f + ids_by f
by-size missing = refl
by-size (one t) = bodied-size t
by-size (many ts) = omega arith
by-size (statements ts) = omega arith

in-weight : (fs : Fields) → fields_weight (bodied_in fs) ≡ fields_weight fs + ids_in fs
in-weight done = refl
in-weight (f then done) = omega arith
in-weight (f then (g then fs)) = omega (arith, by-weight g)

in-size : (fs : Fields) → fields_size (bodied_in fs) ≡ fields_size fs + ids_in fs
in-size done = refl
in-size (f then done) = omega arith
in-size (f then (g then fs)) = omega (arith, by-size g)

ids-seen-by : (names : ℕ → Text → Option ℕ) (f : Field) → ids_by (seen_by names f) ≡ ids_by f
ids-seen-by names missing = refl
ids-seen-by names (one t) = ap (λ v. if v then 0 else 2) (statement-seen names t)
ids-seen-by names (many ts) = refl
ids-seen-by names (statements ts) = refl

ids-seen : (names : ℕ → Text → Option ℕ) (fs : Fields) → ids_in (seen_in names fs) ≡ ids_in fs
ids-seen names done = refl
ids-seen names (f then done) = refl
ids-seen names (f then (g then fs)) = ids-seen-by names g

wide-due : (o : Bool) (y : Option Tree) → due o y ≤ due true y
wide-due o (Some t) = omega arith
wide-due true None = omega arith
wide-due false None = omega arith

near-due : (o : Bool) (x : Option Tree) → due true x ≤ due o x + 8
near-due o (Some t) = omega arith
near-due true None = omega arith
near-due false None = omega arith

module _ (names : ℕ → Text → Option ℕ) (size-same : (t : Tree) → tree_size (seen names t) ≡ tree_size t) (weight-same : (t : Tree) → weight (seen names t) ≡ weight t) where
  arrow-weight : (l : Label) (gs : Fields) (u : Tree) → seen names u ≡ function_from (seen names (node ArrowFunctionExpression l gs)) → weight u + 12 ≡ weight (node ArrowFunctionExpression l gs) + ids_in gs
  arrow-weight l gs u e =
      let w = sym (weight-same u) ∙ ap weight e in
      let t = weight-same (node ArrowFunctionExpression l gs) in
      omega (arith, w, t, in-weight (seen_in names gs), ids-seen names gs)

  arrow-size : (l : Label) (gs : Fields) (u : Tree) → seen names u ≡ function_from (seen names (node ArrowFunctionExpression l gs)) → tree_size u ≡ tree_size (node ArrowFunctionExpression l gs) + ids_in gs
  arrow-size l gs u e =
      let w = sym (size-same u) ∙ ap tree_size e in
      let t = size-same (node ArrowFunctionExpression l gs) in
      omega (arith, w, t, in-size (seen_in names gs), ids-seen names gs)

  -- the arrow pays for its body and for a name
  pub arrow-paid : (o : Bool) (a b c : Moment) (x y : Option Tree) (l : Label) (fs gs : Fields) (u : Tree) → seen names u ≡ function_from (seen names (node ArrowFunctionExpression l gs)) → c.next ≡ b.next + ids_in gs → c.lists ≡ b.lists → c.around ≡ b.around → c.options ≡ b.options →
      Paid true a x (fields_weight fs) (fields_size fs) b y (fields_weight gs) (fields_size gs) → Paid o a x (weight (node ArrowFunctionExpression l fs)) (tree_size (node ArrowFunctionExpression l fs)) c y (weight u) (tree_size u)
  arrow-paid o a b c x y l fs gs u e next lists around options h = record {
    lists = lists ∙ h.lists;
    around = around ∙ h.around;
    options = options ∙ h.options;
    counted = omega (arith, h.counted, next);
    lighter = omega (arith, h.lighter, next, arrow-weight l gs u e, small-ids-in gs, wide-due o y, near-due o x);
    nodes = omega (arith, h.nodes, next, arrow-size l gs u e);
    stays = h.stays;
  }

-- A NODE that is no arrow

own-same : (k : AstType) (l : Label) (fs gs : Fields) → own_weight k l gs ≡ own_weight k l fs
own-same LogicalExpression l fs gs = refl
own-same BinaryExpression l fs gs = refl
own-same AssignmentExpression l fs gs = refl
own-same _ l fs gs = refl

may-here : (o : Bool) (k : AstType) → same_type k ArrowFunctionExpression ≡ false → may_belong o k ≡ o
may-here o ArrowFunctionExpression e = absurd (cc e)
may-here o _ e = refl

pub node-paid : (o : Bool) (a b : Moment) (x y : Option Tree) (k : AstType) (l : Label) (fs gs : Fields) → same_type k ArrowFunctionExpression ≡ false → Paid (may_belong o k) a x (fields_weight fs) (fields_size fs) b y (fields_weight gs) (fields_size gs) → Paid o a x (weight (node k l fs)) (tree_size (node k l fs)) b y (weight (node k l gs)) (tree_size (node k l gs))
node-paid o a b x y k l fs gs e g =
    let h : Paid o a x (fields_weight fs) (fields_size fs) b y (fields_weight gs) (fields_size gs) = subst (λ (v : Bool). Paid v a x (fields_weight fs) (fields_size fs) b y (fields_weight gs) (fields_size gs)) (may-here o k e) g in
    record { lists = h.lists; around = h.around; options = h.options; counted = h.counted; lighter = omega (arith, h.lighter, own-same k l fs gs); nodes = omega (arith, h.nodes); stays = h.stays }

-- the room for its fields
pub node-room : (o : Bool) (k : AstType) (l : Label) (fs : Fields) (x : Option Tree) (n m : ℕ) → n + due o x + weight (node k l fs) < m → n + due (may_belong o k) x + fields_weight fs < m
node-room o ArrowFunctionExpression l fs x n m h = omega (arith, h, near-due o x)
node-room o _ l fs x n m h = omega (arith, h)
