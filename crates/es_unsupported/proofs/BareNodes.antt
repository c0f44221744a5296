-- Tests of nodes and of what stands in their fields look at no mark and no id.
use Rattle.std.proofs.Common.{◌≡◌, ◌∙◌, ℕ, zero, suc, Bool, ◌&&◌, ◌||◌, not, Option, Some, is_some, bytes_eq, codes, refl, ap}
use Rattle.es_tree.specs.Bare.{bare, bare_field, bare_fields, bare_label, bare_trees}
use Rattle.es_tree.specs.Children.{child_at}
use Rattle.es_tree.specs.Constructs.{any_kind, field_at, has_member, is_big_int, is_child, is_exponentiation, is_object_rest, is_object_spread, is_private_member, is_private_name, is_private_target, is_rest, is_spread}
use Rattle.es_tree.specs.HasForm.{same_type}
use Rattle.es_tree.specs.Names.{first_text}
use Rattle.es_tree.specs.Parens.{without_parens}
use Rattle.es_tree.specs.RestTargets.{is_rest_target}
use Rattle.es_tree.specs.Tree.{Tree, node, Label, Fields, done, ◌then◌, Field, missing, one, many, statements, Trees, empty, ◌before◌, fields_of, kind_of}
use Rattle.es_tree.specs.declared.ast_type.AstType.{AstType}
use Rattle.es_tree.specs.declared.ast_type.AstType.TheVariants.{AssignmentExpression, BinaryExpression, MemberExpression, ObjectExpression, ObjectPattern, ObjectTarget, ParenthesizedExpression}

pub field_at-bare : (i : ℕ) (fs : Fields) → field_at i (bare_fields fs) ≡ bare_field (field_at i fs)
field_at-bare i done = refl
field_at-bare zero (f then fs) = refl
field_at-bare (suc i) (f then fs) = field_at-bare i fs

pub kind-bare : (t : Tree) → kind_of (bare t) ≡ kind_of t
kind-bare (node k l fs) = refl

-- what a test says of the one child of a field, where it says so of each tree
module _ (p : Option Tree → Bool) (same : (t : Tree) → p (Some (bare t)) ≡ p (Some t)) where
  pub child-bare : (n : ℕ) (fs : Fields) → p (child_at n (bare_fields fs)) ≡ p (child_at n fs)
  child-bare n done = refl
  child-bare zero (missing then fs) = refl
  child-bare zero (one t then fs) = same t
  child-bare zero (many ts then fs) = refl
  child-bare zero (statements ts then fs) = refl
  child-bare (suc n) (f then fs) = child-bare n fs

pub has_child-bare : (n : ℕ) (fs : Fields) → is_some (child_at n (bare_fields fs)) ≡ is_some (child_at n fs)
has_child-bare = child-bare is_some (λ t. refl)

-- PARENTHESES

pub within-bare : (t : Tree) → without_parens (bare t) ≡ bare (without_parens t)
within-bare (node ParenthesizedExpression l (one t then fs)) = within-bare t
within-bare (node ParenthesizedExpression l (missing then fs)) = refl
within-bare (node ParenthesizedExpression l (many ts then fs)) = refl
within-bare (node ParenthesizedExpression l (statements ts then fs)) = refl
within-bare (node ParenthesizedExpression l done) = refl
within-bare (node _ l fs) = refl

pub kind_within-bare : (t : Tree) → kind_of (without_parens (bare t)) ≡ kind_of (without_parens t)
kind_within-bare t = ap kind_of (within-bare t) ∙ kind-bare (without_parens t)

-- LISTS

pub any-kind-bare : (p : AstType → Bool) (ts : Trees) → any_kind p (bare_trees ts) ≡ any_kind p ts
any-kind-bare p empty = refl
any-kind-bare p (t before ts) = λ i. p (kind-bare t i) || any-kind-bare p ts i

pub member-bare : (p : AstType → Bool) (f : Field) → has_member p (bare_field f) ≡ has_member p f
member-bare p missing = refl
member-bare p (one t) = refl
member-bare p (many ts) = any-kind-bare p ts
member-bare p (statements ts) = refl

pub first_member-bare : (p : AstType → Bool) (fs : Fields) → has_member p (field_at 0 (bare_fields fs)) ≡ has_member p (field_at 0 fs)
first_member-bare p fs = ap (has_member p) (field_at-bare 0 fs) ∙ member-bare p (field_at 0 fs)

pub object-spread-bare : (k : AstType) (l : Label) (fs : Fields) → is_object_spread k (bare_label l) (bare_fields fs) ≡ is_object_spread k l fs
object-spread-bare ObjectExpression l fs = first_member-bare is_spread fs
object-spread-bare _ l fs = refl

pub object-rest-bare : (k : AstType) (l : Label) (fs : Fields) → is_object_rest k (bare_label l) (bare_fields fs) ≡ is_object_rest k l fs
object-rest-bare ObjectPattern l fs = first_member-bare is_rest fs
object-rest-bare ObjectTarget l fs = first_member-bare is_rest fs
object-rest-bare _ l fs = refl

pub rest-target-bare : (f : Field) → is_rest_target (bare_field f) ≡ is_rest_target f
rest-target-bare missing = refl
rest-target-bare (one (node k l fs)) = ap (λ b. same_type k ObjectTarget && b) (first_member-bare is_rest fs)
rest-target-bare (many ts) = refl
rest-target-bare (statements ts) = refl

-- CHILDREN

is_child-bare : (p : AstType → Bool) (f : Field) → is_child p (bare_field f) ≡ is_child p f
is_child-bare p missing = refl
is_child-bare p (one t) = ap p (kind-bare t)
is_child-bare p (many ts) = refl
is_child-bare p (statements ts) = refl

child_kind-bare : (p : AstType → Bool) (n : ℕ) (fs : Fields) → is_child p (field_at n (bare_fields fs)) ≡ is_child p (field_at n fs)
child_kind-bare p n fs = ap (is_child p) (field_at-bare n fs) ∙ is_child-bare p (field_at n fs)

pub exponentiation-bare : (k : AstType) (l : Label) (fs : Fields) → is_exponentiation k (bare_label l) (bare_fields fs) ≡ is_exponentiation k l fs
exponentiation-bare BinaryExpression l fs = λ i. bytes_eq (first_text l.texts) (codes "**") && not (child_kind-bare is_big_int 0 fs i) && not (child_kind-bare is_big_int 1 fs i)
exponentiation-bare AssignmentExpression l fs = λ i. bytes_eq (first_text l.texts) (codes "**=") && not (child_kind-bare is_big_int 1 fs i)
exponentiation-bare _ l fs = refl

private-member-bare : (t : Tree) → is_private_member (kind_of (bare t)) (fields_of (bare t)) ≡ is_private_member (kind_of t) (fields_of t)
private-member-bare (node MemberExpression l fs) = child_kind-bare is_private_name 1 fs
private-member-bare (node _ l fs) = refl

pub private-target-bare : (f : Field) → is_private_target (bare_field f) ≡ is_private_target f
private-target-bare missing = refl
private-target-bare (one t) = ap (λ u. is_private_member (kind_of u) (fields_of u)) (within-bare t) ∙ private-member-bare (without_parens t)
private-target-bare (many ts) = refl
private-target-bare (statements ts) = refl
