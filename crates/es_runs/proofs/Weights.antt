-- Weights and sizes: of a bare tree, of what the row of `??` makes, and of what is pending, before and after it is written.
use Rattle.std.proofs.Common.{◌≡◌, ℕ, ◌+◌, ◌*◌, ◌≤◌, suc, refl, ap, List, [], ◌∷◌, ◌++◌, append-nil, arith}
use Rattle.std.specs.Prelude.{Bool, true, false, if◌then◌else◌, Some, bytes_eq, codes}
use Rattle.es_tree.specs.Words.{Text}
use Rattle.es_tree.specs.Bare.{bare, bare_label, bare_fields, bare_field, bare_trees}
use Rattle.es_tree.specs.Names.{first_text}
use Rattle.es_tree.specs.Tree.{Tree, node, Label, Fields, done, ◌then◌, Field, missing, one, many, statements, Trees, empty, ◌before◌, trees, tree_size, fields_size, field_size, trees_size}
use Rattle.es_tree.specs.declared.ast_type.AstType.{AstType}
use Rattle.es_tree.specs.declared.ast_type.AstType.TheVariants.{AssignmentExpression, BinaryExpression, CallExpression, LogicalExpression, MemberExpression}
use Rattle.es_runs.specs.Rules.{is_marked, tested, tested_by}
use Rattle.es_runs.specs.Open.{Pending, declarator_node, written, declared, with_vars}
use Rattle.es_runs.specs.LogicalAssignment.{is_logical_assignment_operator}
use Rattle.es_runs.specs.Weights.{own_weight, weight, fields_weight, field_weight, trees_weight, declarators_weight, declarators_size, pending_weight, pending_size}

-- BARE TREES

own_weight-bare : (k : AstType) (l : Label) (fs gs : Fields) → own_weight k (bare_label l) gs ≡ own_weight k l fs
own_weight-bare LogicalExpression l fs gs = refl
own_weight-bare BinaryExpression l fs gs = refl
own_weight-bare AssignmentExpression l fs gs = refl
own_weight-bare _ l fs gs = refl

mutual
  pub weight-bare : (t : Tree) → weight (bare t) ≡ weight t
  weight-bare (node k l fs) = λ i. suc (own_weight-bare k l fs (bare_fields fs) i + fields_weight-bare fs i)

  pub fields_weight-bare : (fs : Fields) → fields_weight (bare_fields fs) ≡ fields_weight fs
  fields_weight-bare done = refl
  fields_weight-bare (f then fs) = λ i. field_weight-bare f i + fields_weight-bare fs i

  pub field_weight-bare : (f : Field) → field_weight (bare_field f) ≡ field_weight f
  field_weight-bare missing = refl
  field_weight-bare (one t) = weight-bare t
  field_weight-bare (many ts) = trees_weight-bare ts
  field_weight-bare (statements ts) = trees_weight-bare ts

  pub trees_weight-bare : (ts : Trees) → trees_weight (bare_trees ts) ≡ trees_weight ts
  trees_weight-bare empty = refl
  trees_weight-bare (t before ts) = λ i. weight-bare t i + trees_weight-bare ts i

mutual
  pub tree_size-bare : (t : Tree) → tree_size (bare t) ≡ tree_size t
  tree_size-bare (node k l fs) = ap (λ (n : ℕ). suc n) (fields_size-bare fs)

  pub fields_size-bare : (fs : Fields) → fields_size (bare_fields fs) ≡ fields_size fs
  fields_size-bare done = refl
  fields_size-bare (f then fs) = λ i. field_size-bare f i + fields_size-bare fs i

  pub field_size-bare : (f : Field) → field_size (bare_field f) ≡ field_size f
  field_size-bare missing = refl
  field_size-bare (one t) = tree_size-bare t
  field_size-bare (many ts) = trees_size-bare ts
  field_size-bare (statements ts) = trees_size-bare ts

  pub trees_size-bare : (ts : Trees) → trees_size (bare_trees ts) ≡ trees_size ts
  trees_size-bare empty = refl
  trees_size-bare (t before ts) = λ i. tree_size-bare t i + trees_size-bare ts i

-- WEIGHT AND SIZE

if_bound : (b : Bool) (m n k : ℕ) → m ≤ k → n ≤ k → (if b then m else n) ≤ k
if_bound true m n k h g = h
if_bound false m n k h g = g

own_bound : (k : AstType) (l : Label) (fs : Fields) → own_weight k l fs ≤ 60
own_bound LogicalExpression l fs = if_bound (bytes_eq (first_text l.texts) (codes "??")) 28 0 60 (omega arith) (omega arith)
own_bound BinaryExpression l fs = if_bound (bytes_eq (first_text l.texts) (codes "**")) 8 0 60 (omega arith) (omega arith)
own_bound AssignmentExpression l fs =
    if_bound (bytes_eq (first_text l.texts) (codes "**=")) 44 (if is_logical_assignment_operator (first_text l.texts) then 60 else 0) 60 (omega arith) (if_bound (is_logical_assignment_operator (first_text l.texts)) 60 0 60 (omega arith) (omega arith))
own_bound MemberExpression l fs = if_bound (is_marked MemberExpression l.flags) 28 0 60 (omega arith) (omega arith)
own_bound CallExpression l fs = if_bound (is_marked CallExpression l.flags) 44 0 60 (omega arith) (omega arith)
own_bound _ l fs = omega arith

-- a tree weighs no less than it has nodes
mutual
  pub size-weight : (t : Tree) → tree_size t ≤ weight t
  size-weight (node k l fs) = let h = fields_size-weight fs in omega arith

  pub fields_size-weight : (fs : Fields) → fields_size fs ≤ fields_weight fs
  fields_size-weight done = omega arith
  fields_size-weight (f then fs) = let h = field_size-weight f in let g = fields_size-weight fs in omega arith

  pub field_size-weight : (f : Field) → field_size f ≤ field_weight f
  field_size-weight missing = omega arith
  field_size-weight (one t) = size-weight t
  field_size-weight (many ts) = trees_size-weight ts
  field_size-weight (statements ts) = trees_size-weight ts

  pub trees_size-weight : (ts : Trees) → trees_size ts ≤ trees_weight ts
  trees_size-weight empty = omega arith
  trees_size-weight (t before ts) = let h = size-weight t in let g = trees_size-weight ts in omega arith

-- and at most 61 times as much
mutual
  pub weight-size : (t : Tree) → weight t ≤ 61 * tree_size t
  weight-size (node k l fs) = let h = fields_weight-size fs in let g = own_bound k l fs in omega arith

  pub fields_weight-size : (fs : Fields) → fields_weight fs ≤ 61 * fields_size fs
  fields_weight-size done = omega arith
  fields_weight-size (f then fs) = let h = field_weight-size f in let g = fields_weight-size fs in omega arith

  pub field_weight-size : (f : Field) → field_weight f ≤ 61 * field_size f
  field_weight-size missing = omega arith
  field_weight-size (one t) = weight-size t
  field_weight-size (many ts) = trees_weight-size ts
  field_weight-size (statements ts) = trees_weight-size ts

  pub trees_weight-size : (ts : Trees) → trees_weight ts ≤ 61 * trees_size ts
  trees_weight-size empty = omega arith
  trees_weight-size (t before ts) = let h = weight-size t in let g = trees_weight-size ts in omega arith

-- THE ROW OF `??`

-- `l ?? r`
pub nullish_coalescing_weight : (m : Label) (l r : Tree) → m.texts ≡ Some (codes "??") ∷ [] → weight (node LogicalExpression m (one l then (one r then done))) ≡ 29 + weight l + weight r
nullish_coalescing_weight m l r e = rw (ap first_text e) (omega arith)

pub nullish_coalescing_size : (m : Label) (l r : Tree) → tree_size (node LogicalExpression m (one l then (one r then done))) ≡ 1 + tree_size l + tree_size r
nullish_coalescing_size m l r = omega arith

pub tested_weight : (m : Label) (begin again r : Tree) → weight (tested m begin again r) ≡ 7 + weight begin + weight again + weight again + weight r
tested_weight m begin again r = omega arith

pub tested_size : (m : Label) (begin again r : Tree) → tree_size (tested m begin again r) ≡ 7 + tree_size begin + tree_size again + tree_size again + tree_size r
tested_size m begin again r = omega arith

pub tested_by_weight : (m : Label) (x : Text) (l r : Tree) → weight (tested_by m x l r) ≡ 11 + weight l + weight r
tested_by_weight m x l r = omega arith

pub tested_by_size : (m : Label) (x : Text) (l r : Tree) → tree_size (tested_by m x l r) ≡ 11 + tree_size l + tree_size r
tested_by_size m x l r = omega arith

-- WHAT IS PENDING

declarators_weight-append : (ds es : List Tree) → declarators_weight (ds ++ es) ≡ declarators_weight ds + declarators_weight es
declarators_weight-append [] es = omega arith
declarators_weight-append (d ∷ ds) es = let h = declarators_weight-append ds es in omega arith

declarators_size-append : (ds es : List Tree) → declarators_size (ds ++ es) ≡ declarators_size ds + declarators_size es
declarators_size-append [] es = omega arith
declarators_size-append (d ∷ ds) es = let h = declarators_size-append ds es in omega arith

-- no name more changes nothing
pub with_no_vars : (p : Pending) → with_vars [] p ≡ p
with_no_vars p = ap (λ (ds : List Tree). record { vars = ds; lets = p.lets }) (append-nil p.vars)

pub with_var_weight : (x : Text) (p : Pending) → pending_weight (with_vars (x ∷ []) p) ≡ pending_weight p + 4
with_var_weight x p = let h = declarators_weight-append p.vars (declarator_node x ∷ []) in omega arith

pub with_var_size : (x : Text) (p : Pending) → pending_size (with_vars (x ∷ []) p) ≡ pending_size p + 2
with_var_size x p = let h = declarators_size-append p.vars (declarator_node x ∷ []) in omega arith

-- how many statements are written for these declarators, and for all that is pending
abbrev pub statements_for : List Tree → ℕ
statements_for [] = 0
statements_for (d ∷ ds) = 1

abbrev pub statements_written : Pending → ℕ
statements_written p = statements_for p.vars + statements_for p.lets

trees_weight-declarators : (ds : List Tree) → trees_weight (trees ds) ≤ declarators_weight ds
trees_weight-declarators [] = omega arith
trees_weight-declarators (d ∷ ds) = let h = trees_weight-declarators ds in omega arith

trees_size-declarators : (ds : List Tree) → trees_size (trees ds) ≡ declarators_size ds
trees_size-declarators [] = refl
trees_size-declarators (d ∷ ds) = ap (λ n. tree_size d + n) (trees_size-declarators ds)

declared_weight : (kind : Text) (ds : List Tree) (ts : Trees) → trees_weight (declared kind ds ts) + statements_for ds ≤ trees_weight ts + declarators_weight ds
declared_weight kind [] ts = omega arith
declared_weight kind (d ∷ ds) ts = let h = trees_weight-declarators ds in omega arith

declared_size : (kind : Text) (ds : List Tree) (ts : Trees) → trees_size (declared kind ds ts) ≡ trees_size ts + declarators_size ds + statements_for ds
declared_size kind [] ts = omega arith
declared_size kind (d ∷ ds) ts = let h = trees_size-declarators ds in omega arith

-- what is written weighs less than it did while it was pending, by a node for each statement
pub written_weight : (p : Pending) (ts : Trees) → trees_weight (written p ts) + statements_written p ≤ trees_weight ts + pending_weight p
written_weight p ts =
    let h = declared_weight (codes "let") p.lets ts in
    let g = declared_weight (codes "var") p.vars (declared (codes "let") p.lets ts) in
    omega arith

pub written_size : (p : Pending) (ts : Trees) → trees_size (written p ts) ≡ trees_size ts + pending_size p + statements_written p
written_size p ts =
    let h = declared_size (codes "let") p.lets ts in
    let g = declared_size (codes "var") p.vars (declared (codes "let") p.lets ts) in
    omega arith
