-- What a slot is wrapped for asks for no ids and no marks.
use Rattle.std.proofs.Common.{◌≡◌, ℕ, zero, suc, refl, ap, ◌∙◌}
use Rattle.std.specs.Prelude.{◌&&◌, ◌||◌, not, Bool, bytes_eq, codes, is_some}
use Rattle.es_tree.specs.Bare.{bare, bare_fields, bare_field, bare_label, bare_trees}
use Rattle.es_tree.specs.Constructs.{any_kind, field_at, has_member, is_big_int, is_chain, is_child, is_exponentiation, is_logical_assignment, is_nullish_coalescing, is_private_member, is_private_name, is_private_target, is_rest}
use Rattle.es_tree.specs.HasForm.{same_type}
use Rattle.es_tree.specs.Names.{first_text}
use Rattle.es_tree.specs.Parens.{without_parens}
use Rattle.es_tree.specs.Tree.{Tree, node, Label, Fields, done, ◌then◌, Field, missing, one, many, statements, Trees, empty, ◌before◌, fields_of, kind_of}
use Rattle.es_tree.specs.declared.ast_type.AstType.{AstType}
use Rattle.es_tree.specs.declared.ast_type.AstType.TheVariants.{AssignmentExpression, BinaryExpression, ChainExpression, LogicalExpression, MemberExpression, ObjectTarget}
use Rattle.es_tree.specs.declared.options.EnvOptions.{EnvOptions}
use Rattle.es_steps.specs.Slots.{closes, holds, holds_field, holds_fields, holds_trees}
use Rattle.es_tree.specs.RestTargets.{is_rest_target}
use Rattle.es_steps.specs.WrapRule.{is_member_target, is_wrapped_for}
use Rattle.es_steps.proofs.BridgeTrees.{without_parens-bare}

-- FIELDS

field_at-bare : (i : ℕ) (fs : Fields) → field_at i (bare_fields fs) ≡ bare_field (field_at i fs)
field_at-bare i done = refl
field_at-bare zero (f then fs) = refl
field_at-bare (suc i) (f then fs) = field_at-bare i fs

pub kind-bare : (t : Tree) → kind_of (bare t) ≡ kind_of t
kind-bare (node k l fs) = refl

child-bare : (p : AstType → Bool) (f : Field) → is_child p (bare_field f) ≡ is_child p f
child-bare p missing = refl
child-bare p (one t) = ap p (kind-bare t)
child-bare p (many ts) = refl
child-bare p (statements ts) = refl

child_at-bare : (p : AstType → Bool) (i : ℕ) (fs : Fields) → is_child p (field_at i (bare_fields fs)) ≡ is_child p (field_at i fs)
child_at-bare p i fs = ap (is_child p) (field_at-bare i fs) ∙ child-bare p (field_at i fs)

-- a test of the first field
first-bare : (p : Field → Bool) → ((f : Field) → p (bare_field f) ≡ p f) → (fs : Fields) → p (field_at 0 (bare_fields fs)) ≡ p (field_at 0 fs)
first-bare p h fs = ap p (field_at-bare 0 fs) ∙ h (field_at 0 fs)

-- TARGETS

private-bare : (t : Tree) → is_private_member (kind_of (bare t)) (fields_of (bare t)) ≡ is_private_member (kind_of t) (fields_of t)
private-bare (node MemberExpression l fs) = child_at-bare is_private_name 1 fs
private-bare (node _ l fs) = refl

private_target-bare : (f : Field) → is_private_target (bare_field f) ≡ is_private_target f
private_target-bare missing = refl
private_target-bare (one t) = ap (λ (u : Tree). is_private_member (kind_of u) (fields_of u)) (without_parens-bare t) ∙ private-bare (without_parens t)
private_target-bare (many ts) = refl
private_target-bare (statements ts) = refl

member_target-bare : (f : Field) → is_member_target (bare_field f) ≡ is_member_target f
member_target-bare missing = refl
member_target-bare (one t) = ap (λ k. same_type k MemberExpression) (ap kind_of (without_parens-bare t) ∙ kind-bare (without_parens t))
member_target-bare (many ts) = refl
member_target-bare (statements ts) = refl

any_kind-bare : (p : AstType → Bool) (ts : Trees) → any_kind p (bare_trees ts) ≡ any_kind p ts
any_kind-bare p empty = refl
any_kind-bare p (t before ts) = λ i. p (kind-bare t i) || any_kind-bare p ts i

rests-bare : (f : Field) → has_member is_rest (bare_field f) ≡ has_member is_rest f
rests-bare missing = refl
rests-bare (one t) = refl
rests-bare (many ts) = any_kind-bare is_rest ts
rests-bare (statements ts) = refl

rest_target-bare : (f : Field) → is_rest_target (bare_field f) ≡ is_rest_target f
rest_target-bare missing = refl
rest_target-bare (one (node k l fs)) = λ i. same_type k ObjectTarget && first-bare (has_member is_rest) rests-bare fs i
rest_target-bare (many ts) = refl
rest_target-bare (statements ts) = refl

-- CONSTRUCTS

power-bare : (k : AstType) (l : Label) (fs : Fields) → is_exponentiation k (bare_label l) (bare_fields fs) ≡ is_exponentiation k l fs
power-bare BinaryExpression l fs = λ i. bytes_eq (first_text l.texts) (codes "**") && not (child_at-bare is_big_int 0 fs i) && not (child_at-bare is_big_int 1 fs i)
power-bare AssignmentExpression l fs = λ i. bytes_eq (first_text l.texts) (codes "**=") && not (child_at-bare is_big_int 1 fs i)
power-bare _ l fs = refl

assignment-bare : (k : AstType) (l : Label) (fs : Fields) → is_logical_assignment k (bare_label l) (bare_fields fs) ≡ is_logical_assignment k l fs
assignment-bare AssignmentExpression l fs = λ i.
    (bytes_eq (first_text l.texts) (codes "||=") || bytes_eq (first_text l.texts) (codes "&&=") || bytes_eq (first_text l.texts) (codes "??="))
    && not (first-bare is_private_target private_target-bare fs i)
assignment-bare _ l fs = refl

coalescing-bare : (k : AstType) (l : Label) (fs : Fields) → is_nullish_coalescing k (bare_label l) (bare_fields fs) ≡ is_nullish_coalescing k l fs
coalescing-bare LogicalExpression l fs = refl
coalescing-bare _ l fs = refl

chain-bare : (k : AstType) (l : Label) (fs : Fields) → is_chain k (bare_label l) (bare_fields fs) ≡ is_chain k l fs
chain-bare ChainExpression l fs = refl
chain-bare _ l fs = refl

module _ (o : EnvOptions) where
  wrapped-bare : (k : AstType) (l : Label) (fs : Fields) → is_wrapped_for o k (bare_label l) (bare_fields fs) ≡ is_wrapped_for o k l fs
  wrapped-bare k l fs = λ i.
      (o.es2020.nullish_coalescing_operator && coalescing-bare k l fs i)
      || (o.es2020.optional_chaining && chain-bare k l fs i)
      || (o.es2016.exponentiation_operator && same_type k AssignmentExpression && power-bare k l fs i)
      || (o.es2021.logical_assignment_operators && assignment-bare k l fs i && (first-bare is_member_target member_target-bare fs i || (o.es2020.nullish_coalescing_operator && bytes_eq (first_text l.texts) (codes "??="))))
      || (is_some o.es2018.object_rest_spread && same_type k AssignmentExpression && first-bare is_rest_target rest_target-bare fs i)

  -- TREES

  mutual
    holds-bare : (t : Tree) → holds (is_wrapped_for o) (bare t) ≡ holds (is_wrapped_for o) t
    holds-bare (node k l fs) = λ i. wrapped-bare k l fs i || fields-bare (closes k) fs i

    fields-bare : (c : ℕ → Bool) (fs : Fields) → holds_fields (is_wrapped_for o) c (bare_fields fs) ≡ holds_fields (is_wrapped_for o) c fs
    fields-bare c done = refl
    fields-bare c (f then fs) = λ i. (not (c zero) && field-bare f i) || fields-bare (λ j. c (suc j)) fs i

    pub field-bare : (f : Field) → holds_field (is_wrapped_for o) (bare_field f) ≡ holds_field (is_wrapped_for o) f
    field-bare missing = refl
    field-bare (one t) = holds-bare t
    field-bare (many ts) = trees-bare ts
    field-bare (statements ts) = trees-bare ts

    trees-bare : (ts : Trees) → holds_trees (is_wrapped_for o) (bare_trees ts) ≡ holds_trees (is_wrapped_for o) ts
    trees-bare empty = refl
    trees-bare (t before ts) = λ i. holds-bare t i || trees-bare ts i
