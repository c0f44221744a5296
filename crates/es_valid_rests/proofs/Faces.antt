-- Faces: of a tree only what rules of places look at from the nodes around it. What changes inside a declaration, a function, a catch clause
-- or the head and the body of a loop isn't seen from outside, but for the number of a function's parameters.
use Rattle.std.proofs.Common.{◌≡◌, ℕ, zero, suc, refl, ap, []}
use Rattle.std.specs.Prelude.{Bool, true, false, not, ◌||◌, Option, Some, is_some, if◌then◌else◌}
use Rattle.es_tree.specs.Ancestors.{is_labeled_loop}
use Rattle.es_tree.specs.Children.{child_at}
use Rattle.es_tree.specs.CoreStaticRules.{has_optional, has_optional_in, is_kept, is_kept_within, is_name, is_optional, is_private_member, is_private_name, is_simple_target}
use Rattle.es_tree.specs.HasForm.{same_type}
use Rattle.es_tree.specs.Parens.{without_parens}
use Rattle.es_tree.specs.StaticRules.{is_empty, is_lone_parameter, parameters_in}
use Rattle.es_tree.specs.Tree.{Tree, node, Label, Fields, done, ◌then◌, Field, missing, one, many, statements, Trees, empty, ◌before◌, kind_of}
use Rattle.es_tree.specs.declared.ast_type.AstType.{AstType}
use Rattle.es_tree.specs.declared.ast_type.AstType.TheVariants.{ArrowFunctionExpression, CallExpression, CatchClause, ChainExpression, ForInStatement, ForOfStatement, FunctionDeclaration, FunctionExpression, Identifier, LabeledStatement, MemberExpression, ParenthesizedExpression, PrivateIdentifier, RestElement, VariableDeclaration}
use Rattle.es_steps.specs.Nodes.{made}

abbrev pub is_shut : AstType → Bool
is_shut ArrowFunctionExpression = true
is_shut CatchClause = true
is_shut ForInStatement = true
is_shut ForOfStatement = true
is_shut FunctionDeclaration = true
is_shut VariableDeclaration = true
is_shut _ = false

-- of a parameter it is seen whether it is a rest
abbrev mark : Tree → Tree
mark t = node (if same_type (kind_of t) RestElement then RestElement else Identifier) (made [] []) done

abbrev pub marks : Trees → Trees
marks empty = empty
marks (t before ts) = mark t before marks ts

abbrev pub marked : Fields → Fields
marked (n then (many ps then fs)) = missing then many (marks ps) then done
marked fs = done

-- what is shown of the fields of a node
abbrev pub shown : AstType → Fields → Fields
shown FunctionExpression fs = marked fs
shown k fs = if is_shut k then done else fs

abbrev mutual
  pub face : Tree → Tree
  face (node k l fs) = node k l (shown k (face_fields fs))

  pub face_fields : Fields → Fields
  face_fields done = done
  face_fields (f then fs) = face_field f then face_fields fs

  pub face_field : Field → Field
  face_field missing = missing
  face_field (one t) = one (face t)
  face_field (many ts) = many (face_trees ts)
  face_field (statements ts) = statements empty

  pub face_trees : Trees → Trees
  face_trees empty = empty
  face_trees (t before ts) = face t before face_trees ts

-- KINDS

pub face-child : (n : ℕ) (fs : Fields) → is_some (child_at n (face_fields fs)) ≡ is_some (child_at n fs)
face-child n done = refl
face-child zero (missing then fs) = refl
face-child zero (one t then fs) = refl
face-child zero (many ts then fs) = refl
face-child zero (statements ts then fs) = refl
face-child (suc n) (f then fs) = face-child n fs

-- a test of the kind of a child
module _ (test : Option Tree → Bool) (same : (t : Tree) → test (Some (face t)) ≡ test (Some t)) where
  pub face-tested : (n : ℕ) (fs : Fields) → test (child_at n (face_fields fs)) ≡ test (child_at n fs)
  face-tested n done = refl
  face-tested zero (missing then fs) = refl
  face-tested zero (one t then fs) = same t
  face-tested zero (many ts then fs) = refl
  face-tested zero (statements ts then fs) = refl
  face-tested (suc n) (f then fs) = face-tested n fs

name-same : (t : Tree) → is_name (Some (face t)) ≡ is_name (Some t)
name-same (node Identifier l fs) = refl
name-same (node _ l fs) = refl

pub face-name : (n : ℕ) (fs : Fields) → is_name (child_at n (face_fields fs)) ≡ is_name (child_at n fs)
face-name = face-tested is_name name-same

private-same : (t : Tree) → is_private_name (Some (face t)) ≡ is_private_name (Some t)
private-same (node PrivateIdentifier l fs) = refl
private-same (node _ l fs) = refl

face-private : (n : ℕ) (fs : Fields) → is_private_name (child_at n (face_fields fs)) ≡ is_private_name (child_at n fs)
face-private = face-tested is_private_name private-same

member-same : (t : Tree) → is_private_member (Some (face t)) ≡ is_private_member (Some t)
member-same (node MemberExpression l fs) = face-private 1 fs
member-same (node _ l fs) = refl

-- TARGETS

pub simple-same : (t : Tree) → is_simple_target (kind_of (without_parens (face t))) ≡ is_simple_target (kind_of (without_parens t))
simple-same (node ParenthesizedExpression l (one t then fs)) = simple-same t
simple-same (node ParenthesizedExpression l done) = refl
simple-same (node ParenthesizedExpression l (missing then fs)) = refl
simple-same (node ParenthesizedExpression l (many ts then fs)) = refl
simple-same (node ParenthesizedExpression l (statements ts then fs)) = refl
simple-same (node _ l fs) = refl

-- CHAINS

mutual
  optional-same : (t : Tree) → has_optional (face t) ≡ has_optional t
  optional-same (node MemberExpression l fs) = ap (λ b. is_optional MemberExpression l || b) (optional-in fs)
  optional-same (node CallExpression l fs) = ap (λ b. is_optional CallExpression l || b) (optional-in fs)
  optional-same (node _ l fs) = refl

  pub optional-in : (fs : Fields) → has_optional_in (face_fields fs) ≡ has_optional_in fs
  optional-in done = refl
  optional-in (missing then fs) = refl
  optional-in (one t then fs) = optional-same t
  optional-in (many ts then fs) = refl
  optional-in (statements ts then fs) = refl

-- WHAT IS DELETED

kept-same : (t : Tree) → is_kept (without_parens (face t)) ≡ is_kept (without_parens t)
kept-same (node ParenthesizedExpression l (one t then fs)) = kept-same t
kept-same (node ParenthesizedExpression l done) = refl
kept-same (node ParenthesizedExpression l (missing then fs)) = refl
kept-same (node ParenthesizedExpression l (many ts then fs)) = refl
kept-same (node ParenthesizedExpression l (statements ts then fs)) = refl
kept-same (node MemberExpression l fs) = face-private 1 fs
kept-same (node ChainExpression l fs) = face-tested is_private_member member-same 0 fs
kept-same (node _ l fs) = refl

pub face-kept : (n : ℕ) (fs : Fields) → is_kept_within (child_at n (face_fields fs)) ≡ is_kept_within (child_at n fs)
face-kept = face-tested is_kept_within kept-same

-- LOOPS BELOW LABELS

pub loop-same : (t : Tree) → is_labeled_loop (face t) ≡ is_labeled_loop t
loop-same (node LabeledStatement l (n then (one t then fs))) = loop-same t
loop-same (node LabeledStatement l done) = refl
loop-same (node LabeledStatement l (n then done)) = refl
loop-same (node LabeledStatement l (n then (missing then fs))) = refl
loop-same (node LabeledStatement l (n then (many ts then fs))) = refl
loop-same (node LabeledStatement l (n then (statements ts then fs))) = refl
loop-same (node _ l fs) = refl

-- PARAMETERS

pub record SameCount (ts us : Trees) : Type 0 where
  pub none : is_empty us ≡ is_empty ts
  pub lone : is_lone_parameter us ≡ is_lone_parameter ts

same-count : (ts : Trees) → SameCount ts ts
same-count ts = record { none = refl; lone = refl }

mark-kind : (k : AstType) → same_type (if same_type k RestElement then RestElement else Identifier) RestElement ≡ same_type k RestElement
mark-kind RestElement = refl
mark-kind _ = refl

marks-count : (ts : Trees) → SameCount ts (marks (face_trees ts))
marks-count empty = same-count empty
marks-count (node k l fs before empty) = record { none = refl; lone = ap (λ b. not b) (mark-kind k) }
marks-count (t before (u before us)) = record { none = refl; lone = refl }

function-count : (a : Field) (l : Label) (hs fs : Fields) → SameCount (parameters_in (a then (one (node FunctionExpression l hs) then fs))) (parameters_in (face_fields (a then (one (node FunctionExpression l hs) then fs))))
function-count a l done fs = same-count empty
function-count a l (n then done) fs = same-count empty
function-count a l (n then (missing then hs)) fs = same-count empty
function-count a l (n then (one t then hs)) fs = same-count empty
function-count a l (n then (many ps then hs)) fs = marks-count ps
function-count a l (n then (statements ts then hs)) fs = same-count empty

child-count : (a : Field) (t : Tree) (fs : Fields) → SameCount (parameters_in (a then (one t then fs))) (parameters_in (face_fields (a then (one t then fs))))
child-count a (node FunctionExpression l hs) fs = function-count a l hs fs
child-count a (node _ l hs) fs = same-count empty

pub face-count : (fs : Fields) → SameCount (parameters_in fs) (parameters_in (face_fields fs))
face-count done = same-count empty
face-count (a then done) = same-count empty
face-count (a then (missing then fs)) = same-count empty
face-count (a then (one t then fs)) = child-count a t fs
face-count (a then (many ts then fs)) = same-count empty
face-count (a then (statements ts then fs)) = same-count empty
