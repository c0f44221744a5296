-- Moving makes a tree no larger than what it weighs: what is made for a declared pattern has five nodes more at most, for which the pattern and its
-- rest, or a pattern in it, weigh enough, a body that is made has two, for which the function does, and what is made for a target has seven, for
-- which the loop weighs, too. And a tree weighs no more than three and a half for each node.
use Rattle.std.proofs.Common.{◌≡◌, ◌≤◌, ◌∙◌, ℕ, suc, refl, sym, ap, arith, inl, inr, ⊎_elim, true≢false, []}
use Rattle.std.specs.Prelude.{◌⊎◌, Bool, true, false, ◌+◌, ◌*◌, ◌||◌, not, codes, if◌then◌else◌}
use Rattle.std.proofs.lemmas.Bool.{and_parts, or_cases}
use Rattle.es_tree.specs.Constructs.{any_kind, is_rest}
use Rattle.es_tree.specs.Names.{has_computed}
use Rattle.es_tree.specs.RestTargets.{is_rest_target}
use Rattle.es_tree.specs.Tree.{Tree, node, Label, Fields, done, ◌then◌, Field, missing, one, many, statements, Trees, empty, ◌before◌, field_size, fields_size, kind_of, tree_size, trees_size}
use Rattle.es_tree.specs.Words.{Text}
use Rattle.es_tree.specs.declared.ast_type.AstType.{AstType}
use Rattle.es_tree.specs.declared.ast_type.AstType.TheVariants.{ArrowFunctionExpression, AssignmentPattern, CatchClause, ForInStatement, ForOfStatement, FunctionBody, FunctionDeclaration, FunctionExpression, ObjectPattern, ObjectTarget, PatternProperty, RestElement, ReturnStatement, TargetRest, VariableDeclaration, VariableDeclarator}
use Rattle.es_steps.specs.Nodes.{joined_trees}
use Rattle.es_pattern_moves.specs.Laws.{LawMovedSize}
use Rattle.es_pattern_moves.specs.Moved.{
  Makes,
  all_declared,
  all_named,
  count_arrow,
  count_function,
  count_here,
  count_rests,
  declares,
  moved,
  moved_among,
  moved_arrow,
  moved_by,
  moved_catch,
  moved_fields,
  moved_function,
  moved_head,
  moved_here,
  moved_in,
  named,
  returning,
  with_declared,
}
use Rattle.es_pattern_moves.specs.PatternMoves.{binds_let, is_rest_parameter, is_var, meets, moves_from_catch, moves_from_head, moves_pattern, pattern_of}
use Rattle.es_pattern_moves.specs.Weights.{own_weight, weighed, weighed_among, weighed_by, weighed_in}
use Rattle.es_rest_shapes.specs.RestShapes.{are_plain_members, are_plain_parts, bears_among, bears_rest, is_named_rest, is_plain_key, is_plain_pattern, is_plain_property, is_plain_target, is_plain_value}

-- WHAT PATTERNS SPARE: of what a pattern and its rest weigh, all but the node itself is kept until the pattern moves, and so it is of the
-- patterns in its properties, and of a target
abbrev mutual
  spare : Tree → ℕ
  spare (node ObjectPattern l fs) = 5 + spare_in fs
  spare (node RestElement l fs) = 5
  spare (node ObjectTarget l fs) = 5 + spare_in fs
  spare (node TargetRest l fs) = 5
  spare (node PatternProperty l fs) = spare_in fs
  spare (node AssignmentPattern l fs) = spare_in fs
  spare (node VariableDeclaration l fs) = spare_in fs
  spare (node VariableDeclarator l fs) = spare_in fs
  spare (node k l fs) = 0

  spare_in : Fields → ℕ
  spare_in done = 0
  spare_in (f then fs) = spare_by f + spare_in fs

  spare_by : Field → ℕ
  spare_by missing = 0
  spare_by (one t) = spare t
  spare_by (many ts) = spare_among ts
  spare_by (statements ts) = spare_among ts

  spare_among : Trees → ℕ
  spare_among empty = 0
  spare_among (t before ts) = spare t + spare_among ts

-- a node spares no more than its own and what its parts do
spare-node : (k : AstType) (l : Label) (fs : Fields) → 2 + spare (node k l fs) ≤ own_weight k + spare_in fs
spare-node ObjectPattern l fs = omega arith
spare-node RestElement l fs = omega arith
spare-node ObjectTarget l fs = omega arith
spare-node TargetRest l fs = omega arith
spare-node PatternProperty l fs = omega arith
spare-node AssignmentPattern l fs = omega arith
spare-node VariableDeclaration l fs = omega arith
spare-node VariableDeclarator l fs = omega arith
spare-node k l fs = omega arith

-- PATTERNS

rest-spares : (t : Tree) → is_named_rest t ≡ true → 5 ≤ spare t
rest-spares (node RestElement l fs) h = omega arith
rest-spares (node _ l fs) h = absurd (cc h)

-- what bears a rest in a property is a pattern
target-spares : (v : Tree) → is_plain_target v ≡ true → bears_rest v ≡ true → 5 ≤ spare v
target-spares (node ObjectPattern l fs) h b = omega arith
target-spares v h b = absurd (true≢false (sym h ∙ ap not b))

value-spares : (v : Tree) → is_plain_value v ≡ true → bears_rest v ≡ true → 5 ≤ spare v
value-spares (node ObjectPattern l fs) h b = omega arith
value-spares (node AssignmentPattern l (one p then one e then done)) h b = omega (arith, target-spares p h b)
value-spares (node AssignmentPattern l fs) h b = absurd (cc h)
value-spares v h b = absurd (true≢false (sym h ∙ ap not b))

property-spares : (t : Tree) → is_plain_property t ≡ true → bears_rest t ≡ true → 5 ≤ spare t
property-spares (node PatternProperty l (one k then one v then done)) h b = omega (arith, value-spares v (and_parts (is_plain_key (has_computed PatternProperty l.flags) k) (is_plain_value v) h).1 b)
property-spares (node _ l fs) h b = absurd (cc h)

property-kind : (t : Tree) → is_plain_property t ≡ true → is_rest (kind_of t) ≡ false
property-kind (node PatternProperty l fs) h = refl
property-kind (node _ l fs) h = absurd (cc h)

-- a member that is a rest, or bears one
abbrev HasOne : Trees → Type 0
HasOne ts = (any_kind is_rest ts ≡ true) ⊎ (bears_among ts ≡ true)

one-first : (t : Tree) (ts : Trees) → HasOne (t before ts) → ((is_rest (kind_of t) ≡ true) ⊎ (bears_rest t ≡ true)) ⊎ HasOne ts
one-first t ts (inl e) = ⊎_elim (λ d. inl (inl d)) (λ d. inr (inl d)) (or_cases (is_rest (kind_of t)) (any_kind is_rest ts) e)
one-first t ts (inr e) = ⊎_elim (λ d. inl (inr d)) (λ d. inr (inr d)) (or_cases (bears_rest t) (bears_among ts) e)

first-spares : (t : Tree) → is_plain_property t ≡ true → (is_rest (kind_of t) ≡ true) ⊎ (bears_rest t ≡ true) → 5 ≤ spare t
first-spares t h (inl e) = absurd (true≢false (sym e ∙ property-kind t h))
first-spares t h (inr e) = property-spares t h e

-- the first of them spares enough, or those behind it do
either-spares : (t : Tree) (ts : Trees) → is_plain_property t ≡ true → (HasOne ts → 5 ≤ spare_among ts) → ((is_rest (kind_of t) ≡ true) ⊎ (bears_rest t ≡ true)) ⊎ HasOne ts → 5 ≤ spare_among (t before ts)
either-spares t ts h later (inl f) = omega (arith, first-spares t h f)
either-spares t ts h later (inr f) = omega (arith, later f)

none-spares : HasOne empty → 5 ≤ spare_among empty
none-spares (inl e) = absurd (true≢false (sym e))
none-spares (inr e) = absurd (true≢false (sym e))

members-spare : (ps : Trees) → are_plain_members ps ≡ true → HasOne ps → 5 ≤ spare_among ps
members-spare empty h k = none-spares k
members-spare (t before empty) h k = ⊎_elim (λ p. either-spares t empty p none-spares (one-first t empty k)) (λ r. omega (arith, rest-spares t r)) (or_cases (is_plain_property t) (is_named_rest t) h)
members-spare (t before u before ts) h k =
    let parts = and_parts (is_plain_property t) (are_plain_members (u before ts)) h in
    either-spares t (u before ts) parts.0 (λ f. members-spare (u before ts) parts.1 f) (one-first t (u before ts) k)

plain-spares : (p : Tree) → is_plain_pattern p ≡ true → 10 ≤ spare p
plain-spares (node ObjectPattern l (many ps then done)) h =
    let parts = and_parts (any_kind is_rest ps || bears_among ps) (are_plain_members ps) h in
    omega (arith, members-spare ps parts.1 (or_cases (any_kind is_rest ps) (bears_among ps) parts.0))
plain-spares (node ObjectPattern l fs) h = absurd (true≢false (sym (and_parts (bears_rest (node ObjectPattern l fs)) (are_plain_parts fs) h).1))
plain-spares (node _ l fs) h = absurd (cc h)

parameter-spares : (t : Tree) → is_rest_parameter t ≡ true → 10 ≤ spare t
parameter-spares (node AssignmentPattern l (one p then one d then done)) h = omega (arith, plain-spares p h)
parameter-spares (node ObjectPattern l fs) h = plain-spares (node ObjectPattern l fs) h
parameter-spares (node _ l fs) h = absurd (cc h)

parameters-spare : (ts : Trees) → 10 * count_rests ts ≤ spare_among ts
parameters-spare empty = omega arith
parameters-spare (t before ts) = at (is_rest_parameter t) refl (parameters-spare ts)
  where
    at : (b : Bool) → is_rest_parameter t ≡ b → 10 * count_rests ts ≤ spare_among ts → 10 * (if b then suc (count_rests ts) else count_rests ts) ≤ spare t + spare_among ts
    at true e h = omega (arith, parameter-spares t e)
    at false e h = omega arith

-- a target with a rest among its members, which its own rest is
rests-spare : (ts : Trees) → any_kind is_rest ts ≡ true → 5 ≤ spare_among ts
rests-spare empty h = absurd (cc h)
rests-spare (t before ts) h = ⊎_elim (λ e. omega (arith, rest-kind t e)) (λ e. omega (arith, rests-spare ts e)) (or_cases (is_rest (kind_of t)) (any_kind is_rest ts) h)
  where
    rest-kind : (t : Tree) → is_rest (kind_of t) ≡ true → 5 ≤ spare t
    rest-kind (node RestElement l fs) e = omega arith
    rest-kind (node TargetRest l fs) e = omega arith
    rest-kind (node _ l fs) e = absurd (cc e)

assigned-spares : (l : Label) (fs : Fields) → is_rest_target (one (node ObjectTarget l fs)) ≡ true → 10 ≤ spare (node ObjectTarget l fs)
assigned-spares l (many ts then fs) h = omega (arith, rests-spare ts h)
assigned-spares l _ h = absurd (cc h)

function-spares : (fs : Fields) → 10 * count_function fs ≤ spare_in fs
function-spares (f then many ps then fs) = omega (arith, parameters-spare ps)
function-spares _ = omega arith

arrow-spares : (fs : Fields) → 10 * count_arrow fs ≤ spare_in fs
arrow-spares (many ps then fs) = omega (arith, parameters-spare ps)
arrow-spares _ = omega arith

size-joined : (ts us : Trees) → trees_size (joined_trees ts us) ≡ trees_size ts + trees_size us
size-joined empty us = omega arith
size-joined (t before ts) us = omega (arith, size-joined ts us)

-- WHAT A NODE BECOMES

module _ (m : Makes) (small : (n : ℕ) (t : Tree) → tree_size (m.name n t) ≡ 1) where
  declared-size : (kind : Text) (n : ℕ) (p : Tree) → tree_size (declares m kind n p) ≡ 3 + tree_size p
  declared-size kind n p = omega (arith, small n p)

  one-moved : (kind : Text) (n : ℕ) (t : Tree) → tree_size (named m n t) + tree_size (declares m kind n (pattern_of t)) ≡ 4 + tree_size t
  one-moved kind n (node AssignmentPattern l (one p then fs)) = omega (arith, small n p)
  one-moved kind n (node k l fs) = omega (arith, small n (node k l fs))

  all-moved : (n : ℕ) (ts : Trees) → trees_size (all_named m n ts) + trees_size (all_declared m n ts) ≡ 4 * count_rests ts + trees_size ts
  all-moved n empty = omega arith
  all-moved n (t before ts) = at (is_rest_parameter t) (all-moved n ts) (all-moved (suc n) ts)
    where
      at : (b : Bool) → trees_size (all_named m n ts) + trees_size (all_declared m n ts) ≡ 4 * count_rests ts + trees_size ts → trees_size (all_named m (suc n) ts) + trees_size (all_declared m (suc n) ts) ≡ 4 * count_rests ts + trees_size ts →
          trees_size (if b then named m n t before all_named m (suc n) ts else t before all_named m n ts) + trees_size (if b then declares m (codes "let") n (pattern_of t) before all_declared m (suc n) ts else all_declared m n ts) ≡ 4 * (if b then suc (count_rests ts) else count_rests ts) + (tree_size t + trees_size ts)
      at true h g = omega (arith, one-moved (codes "let") n t)
      at false h g = omega arith

  returning-size : (ds : Trees) (e : Tree) → tree_size (returning m ds e) ≤ 2 + trees_size ds + tree_size e
  returning-size ds e = omega (arith, size-joined ds (node ReturnStatement (m.label e []) (one e then done) before empty))

  body-size : (n : ℕ) (ps : Trees) (b : Tree) → tree_size (with_declared m n ps b) ≤ 2 + trees_size (all_declared m n ps) + tree_size b
  body-size n ps (node FunctionBody l (many ds then statements ts then done)) = omega (arith, size-joined (all_declared m n ps) ts)
  body-size n ps e = returning-size (all_declared m n ps) e

  function-size : (n : ℕ) (fs : Fields) → fields_size (moved_function m n fs) ≤ 2 + 4 * count_function fs + fields_size fs
  function-size n (f then many ps then one b then done) = omega (arith, all-moved n ps, body-size n ps b)
  function-size n fs = omega arith

  arrow-size : (n : ℕ) (fs : Fields) → fields_size (moved_arrow m n fs) ≤ 2 + 4 * count_arrow fs + fields_size fs
  arrow-size n (many ps then one b then done) = omega (arith, all-moved n ps, body-size n ps b)
  arrow-size n fs = omega arith

  catch-size : (n : ℕ) (fs : Fields) → moves_from_catch fs ≡ true → 2 * fields_size (moved_catch m n fs) ≤ 2 * fields_size fs + spare_in fs
  catch-size n (one p then one b then done) h = omega (arith, plain-spares p (and_parts (is_plain_pattern p) (not (binds_let p)) h).0, small n p)
  catch-size n _ h = absurd (cc h)

  head-size : (n : ℕ) (fs : Fields) → moves_from_head fs ≡ true → 2 * fields_size (moved_head m n fs) ≤ 5 + 2 * fields_size fs + spare_in fs
  head-size n (one (node VariableDeclaration l (many (node VariableDeclarator l' (one p then missing then done) before empty) then done)) then one e then one b then done) h =
      omega (arith, plain-spares p (and_parts (is_plain_pattern p) (is_var l || not (meets p e)) h).0, small n p)
  head-size n (one (node ObjectTarget l gs) then one e then one b then done) h = omega (arith, assigned-spares l gs h, small n (node ObjectTarget l gs))
  head-size n _ h = absurd (cc h)

  -- a node out of which patterns move spares nothing more, and what it becomes is paid for
  record Paid (n : ℕ) (k : AstType) (l : Label) (fs : Fields) : Type 0 where
    size : 2 + 2 * fields_size (moved_fields m n k fs) ≤ own_weight k + 2 * fields_size fs + spare_in fs
    none : spare (node k l (moved_fields m n k fs)) ≡ 0

  moving : (n : ℕ) (k : AstType) (l : Label) (fs : Fields) → moves_pattern k l fs ≡ true → Paid n k l fs
  moving n CatchClause l fs h = record { size = omega (arith, catch-size n fs h); none = refl }
  moving n ForInStatement l fs h = record { size = omega (arith, head-size n fs h); none = refl }
  moving n ForOfStatement l fs h = record { size = omega (arith, head-size n fs h); none = refl }
  moving n FunctionDeclaration l fs h = record { size = omega (arith, function-size n fs, function-spares fs); none = refl }
  moving n FunctionExpression l fs h = record { size = omega (arith, function-size n fs, function-spares fs); none = refl }
  moving n ArrowFunctionExpression l fs h = record { size = omega (arith, arrow-size n fs, arrow-spares fs); none = refl }
  moving n _ l fs h = absurd (cc h)

  -- by this weight
  abbrev PaidBy : ℕ → ℕ × Tree → Type 0
  PaidBy w r = 2 * tree_size r.1 + spare r.1 ≤ w

  here-size : (n : ℕ) (k : AstType) (l : Label) (w : ℕ) (gs : Fields) → 2 * fields_size gs + spare_in gs ≤ w → PaidBy (own_weight k + w) (moved_here m n k l gs)
  here-size n k l w gs h = at (moves_pattern k l gs) refl
    where
      at : (b : Bool) → moves_pattern k l gs ≡ b → PaidBy (own_weight k + w) (if b then (n + count_here k gs, node k l (moved_fields m n k gs)) else (n, node k l gs))
      at true e = let paid = moving n k l gs e in omega (arith, paid.size, paid.none)
      at false e = omega (arith, spare-node k l gs)

  -- A TREE
  mutual
    tree-moved : (n : ℕ) (t : Tree) → 2 * tree_size (moved m n t).1 + spare (moved m n t).1 ≤ weighed t
    tree-moved n (node k l fs) = here-size (moved_in m n fs).0 k l (weighed_in fs) (moved_in m n fs).1 (fields-moved n fs)

    fields-moved : (n : ℕ) (fs : Fields) → 2 * fields_size (moved_in m n fs).1 + spare_in (moved_in m n fs).1 ≤ weighed_in fs
    fields-moved n done = omega arith
    fields-moved n (f then fs) = omega (arith, field-moved n f, fields-moved (moved_by m n f).0 fs)

    field-moved : (n : ℕ) (f : Field) → 2 * field_size (moved_by m n f).1 + spare_by (moved_by m n f).1 ≤ weighed_by f
    field-moved n missing = omega arith
    field-moved n (one t) = tree-moved n t
    field-moved n (many ts) = trees-moved n ts
    field-moved n (statements ts) = trees-moved n ts

    trees-moved : (n : ℕ) (ts : Trees) → 2 * trees_size (moved_among m n ts).1 + spare_among (moved_among m n ts).1 ≤ weighed_among ts
    trees-moved n empty = omega arith
    trees-moved n (t before ts) = omega (arith, tree-moved n t, trees-moved (moved m n t).0 ts)

  pub moved-size : (n : ℕ) (t : Tree) → 2 * tree_size (moved m n t).1 ≤ weighed t
  moved-size n t = omega (arith, tree-moved n t)

-- WHAT A TREE WEIGHS

own-most : (k : AstType) → own_weight k ≤ 7
own-most ObjectPattern = omega arith
own-most RestElement = omega arith
own-most FunctionDeclaration = omega arith
own-most FunctionExpression = omega arith
own-most ArrowFunctionExpression = omega arith
own-most _ = omega arith

mutual
  pub tree-weighs : (t : Tree) → weighed t ≤ 7 * tree_size t
  tree-weighs (node k l fs) = omega (arith, own-most k, fields-weigh fs)

  fields-weigh : (fs : Fields) → weighed_in fs ≤ 7 * fields_size fs
  fields-weigh done = omega arith
  fields-weigh (f then fs) = omega (arith, field-weighs f, fields-weigh fs)

  field-weighs : (f : Field) → weighed_by f ≤ 7 * field_size f
  field-weighs missing = omega arith
  field-weighs (one t) = tree-weighs t
  field-weighs (many ts) = trees-weigh ts
  field-weighs (statements ts) = trees-weigh ts

  trees-weigh : (ts : Trees) → weighed_among ts ≤ 7 * trees_size ts
  trees-weigh empty = omega arith
  trees-weigh (t before ts) = omega (arith, tree-weighs t, trees-weigh ts)

pub law_moved_size_proof : LawMovedSize
law_moved_size_proof p m small = (moved-size m small 0 p, tree-weighs p)
