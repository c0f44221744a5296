-- A tree without its ids and marks has the constructs that the tree has.
use Rattle.std.proofs.Common.{◌≡◌, ℕ, zero, suc, refl, sym, ap, ◌∙◌}
use Rattle.std.specs.Prelude.{Bool, ◌&&◌, ◌||◌, not, bytes_eq, codes, is_some}
use Rattle.es_tree.specs.Bare.{bare, bare_field, bare_fields, bare_label, bare_trees}
use Rattle.es_tree.specs.Constructs.{any_kind, field_at, has_enabled_construct, has_member, is_arrow, is_big_int, is_chain, is_child, is_enabled_construct, is_exponentiation, is_logical_assignment, is_namespace_export, is_nullish_coalescing, is_optional_catch, is_private_member, is_private_name, is_object_rest, is_object_spread, is_private_target, is_rest, is_spread, is_using, stands}
use Rattle.es_tree.specs.Names.{first_text}
use Rattle.es_tree.specs.Parens.{without_parens}
use Rattle.es_tree.specs.Tree.{Tree, node, Label, Fields, done, ◌then◌, Field, missing, one, many, statements, Trees, empty, ◌before◌, fields_of, kind_of}
use Rattle.es_tree.specs.Walks.{any_node, any_in_fields, any_in_field, any_in_trees}
use Rattle.es_tree.specs.declared.ast_type.AstType.{AstType}
use Rattle.es_tree.specs.declared.ast_type.AstType.TheVariants.{ArrowFunctionExpression, AssignmentExpression, BinaryExpression, CatchClause, ChainExpression, ExportAllDeclaration, LogicalExpression, MemberExpression, ObjectExpression, ObjectPattern, ObjectTarget, ParenthesizedExpression, VariableDeclaration}
use Rattle.es_tree.specs.declared.options.EnvOptions.{EnvOptions}

-- FIELDS

field_at-bare : (i : ℕ) (fs : Fields) → field_at i (bare_fields fs) ≡ bare_field (field_at i fs)
field_at-bare i done = refl
field_at-bare zero (f then fs) = refl
field_at-bare (suc i) (f then fs) = field_at-bare i fs

kind-bare : (t : Tree) → kind_of (bare t) ≡ kind_of t
kind-bare (node k l fs) = refl

fields-bare : (t : Tree) → fields_of (bare t) ≡ bare_fields (fields_of t)
fields-bare (node k l fs) = refl

child-bare : (p : AstType → Bool) (f : Field) → is_child p (bare_field f) ≡ is_child p f
child-bare p missing = refl
child-bare p (one t) = ap p (kind-bare t)
child-bare p (many ts) = refl
child-bare p (statements ts) = refl

child_at-bare : (p : AstType → Bool) (i : ℕ) (fs : Fields) → is_child p (field_at i (bare_fields fs)) ≡ is_child p (field_at i fs)
child_at-bare p i fs = ap (is_child p) (field_at-bare i fs) ∙ child-bare p (field_at i fs)

any_kind-bare : (p : AstType → Bool) (ts : Trees) → any_kind p (bare_trees ts) ≡ any_kind p ts
any_kind-bare p empty = refl
any_kind-bare p (t before ts) = λ i. p (kind-bare t i) || any_kind-bare p ts i

member-bare : (p : AstType → Bool) (f : Field) → has_member p (bare_field f) ≡ has_member p f
member-bare p missing = refl
member-bare p (one t) = refl
member-bare p (many ts) = any_kind-bare p ts
member-bare p (statements ts) = refl

member_at-bare : (p : AstType → Bool) (fs : Fields) → has_member p (field_at 0 (bare_fields fs)) ≡ has_member p (field_at 0 fs)
member_at-bare p fs = ap (has_member p) (field_at-bare 0 fs) ∙ member-bare p (field_at 0 fs)

stands-bare : (f : Field) → stands (bare_field f) ≡ stands f
stands-bare missing = refl
stands-bare (one t) = refl
stands-bare (many ts) = refl
stands-bare (statements ts) = refl

-- PRIVATE TARGETS

without_parens-bare : (t : Tree) → without_parens (bare t) ≡ bare (without_parens t)
without_parens-bare (node ParenthesizedExpression l (one t then fs)) = without_parens-bare t
without_parens-bare (node ParenthesizedExpression l done) = refl
without_parens-bare (node ParenthesizedExpression l (missing then fs)) = refl
without_parens-bare (node ParenthesizedExpression l (many ts then fs)) = refl
without_parens-bare (node ParenthesizedExpression l (statements ts then fs)) = refl
without_parens-bare (node _ l fs) = refl

private-bare : (t : Tree) → is_private_member (kind_of (bare t)) (fields_of (bare t)) ≡ is_private_member (kind_of t) (fields_of t)
private-bare (node MemberExpression l fs) = child_at-bare is_private_name 1 fs
private-bare (node _ l fs) = refl

target-bare : (f : Field) → is_private_target (bare_field f) ≡ is_private_target f
target-bare missing = refl
target-bare (one t) = ap (λ (u : Tree). is_private_member (kind_of u) (fields_of u)) (without_parens-bare t) ∙ private-bare (without_parens t)
target-bare (many ts) = refl
target-bare (statements ts) = refl

-- CONSTRUCTS

power-bare : (k : AstType) (l : Label) (fs : Fields) → is_exponentiation k (bare_label l) (bare_fields fs) ≡ is_exponentiation k l fs
power-bare BinaryExpression l fs = λ i. bytes_eq (first_text l.texts) (codes "**") && not (child_at-bare is_big_int 0 fs i) && not (child_at-bare is_big_int 1 fs i)
power-bare AssignmentExpression l fs = λ i. bytes_eq (first_text l.texts) (codes "**=") && not (child_at-bare is_big_int 1 fs i)
power-bare _ l fs = refl

assignment-bare : (k : AstType) (l : Label) (fs : Fields) → is_logical_assignment k (bare_label l) (bare_fields fs) ≡ is_logical_assignment k l fs
assignment-bare AssignmentExpression l fs = λ i.
    (bytes_eq (first_text l.texts) (codes "||=") || bytes_eq (first_text l.texts) (codes "&&=") || bytes_eq (first_text l.texts) (codes "??="))
    && not ((ap is_private_target (field_at-bare 0 fs) ∙ target-bare (field_at 0 fs)) i)
assignment-bare _ l fs = refl

coalescing-bare : (k : AstType) (l : Label) (fs : Fields) → is_nullish_coalescing k (bare_label l) (bare_fields fs) ≡ is_nullish_coalescing k l fs
coalescing-bare LogicalExpression l fs = refl
coalescing-bare _ l fs = refl

spread-bare : (k : AstType) (l : Label) (fs : Fields) → is_object_spread k (bare_label l) (bare_fields fs) ≡ is_object_spread k l fs
spread-bare ObjectExpression l fs = member_at-bare is_spread fs
spread-bare _ l fs = refl

rest-bare : (k : AstType) (l : Label) (fs : Fields) → is_object_rest k (bare_label l) (bare_fields fs) ≡ is_object_rest k l fs
rest-bare ObjectPattern l fs = member_at-bare is_rest fs
rest-bare ObjectTarget l fs = member_at-bare is_rest fs
rest-bare _ l fs = refl

catch-bare : (k : AstType) (l : Label) (fs : Fields) → is_optional_catch k (bare_label l) (bare_fields fs) ≡ is_optional_catch k l fs
catch-bare CatchClause l fs = ap not (ap stands (field_at-bare 0 fs) ∙ stands-bare (field_at 0 fs))
catch-bare _ l fs = refl

export-bare : (k : AstType) (l : Label) (fs : Fields) → is_namespace_export k (bare_label l) (bare_fields fs) ≡ is_namespace_export k l fs
export-bare ExportAllDeclaration l fs = ap stands (field_at-bare 0 fs) ∙ stands-bare (field_at 0 fs)
export-bare _ l fs = refl

using-bare : (k : AstType) (l : Label) (fs : Fields) → is_using k (bare_label l) (bare_fields fs) ≡ is_using k l fs
using-bare VariableDeclaration l fs = refl
using-bare _ l fs = refl

chain-bare : (k : AstType) (l : Label) (fs : Fields) → is_chain k (bare_label l) (bare_fields fs) ≡ is_chain k l fs
chain-bare ChainExpression l fs = refl
chain-bare _ l fs = refl

arrow-bare : (k : AstType) (l : Label) (fs : Fields) → is_arrow k (bare_label l) (bare_fields fs) ≡ is_arrow k l fs
arrow-bare ArrowFunctionExpression l fs = refl
arrow-bare _ l fs = refl

enabled-bare : (o : EnvOptions) (k : AstType) (l : Label) (fs : Fields) → is_enabled_construct o k (bare_label l) (bare_fields fs) ≡ is_enabled_construct o k l fs
enabled-bare o k l fs = λ i.
    ((o.es2016.exponentiation_operator && power-bare k l fs i)
    || (o.es2020.nullish_coalescing_operator && coalescing-bare k l fs i)
    || (o.es2020.optional_chaining && chain-bare k l fs i)
    || (o.es2021.logical_assignment_operators && assignment-bare k l fs i)
    || (is_some o.es2018.object_rest_spread && (spread-bare k l fs i || rest-bare k l fs i))
    || (is_some o.es2015.arrow_function && arrow-bare k l fs i))
    || ((o.es2019.optional_catch_binding && catch-bare k l fs i)
    || (o.es2020.export_namespace_from && export-bare k l fs i)
    || (o.es2026.explicit_resource_management && using-bare k l fs i))

-- TREES

module _ (test : AstType → Label → Fields → Bool) (same : (k : AstType) (l : Label) (fs : Fields) → test k (bare_label l) (bare_fields fs) ≡ test k l fs) where
  mutual
    pub any-bare : (t : Tree) → any_node test (bare t) ≡ any_node test t
    any-bare (node k l fs) = λ i. same k l fs i || any-bare-fields fs i

    any-bare-fields : (fs : Fields) → any_in_fields test (bare_fields fs) ≡ any_in_fields test fs
    any-bare-fields done = refl
    any-bare-fields (f then fs) = λ i. any-bare-field f i || any-bare-fields fs i

    any-bare-field : (f : Field) → any_in_field test (bare_field f) ≡ any_in_field test f
    any-bare-field missing = refl
    any-bare-field (one t) = any-bare t
    any-bare-field (many ts) = any-bare-trees ts
    any-bare-field (statements ts) = any-bare-trees ts

    any-bare-trees : (ts : Trees) → any_in_trees test (bare_trees ts) ≡ any_in_trees test ts
    any-bare-trees empty = refl
    any-bare-trees (t before ts) = λ i. any-bare t i || any-bare-trees ts i

-- trees that are equal but for ids and marks have the same constructs
pub same-constructs : (o : EnvOptions) (t u : Tree) → bare u ≡ bare t → has_enabled_construct o u ≡ has_enabled_construct o t
same-constructs o t u e = sym (any-bare (is_enabled_construct o) (enabled-bare o) u) ∙ ap (any_node (is_enabled_construct o)) e ∙ any-bare (is_enabled_construct o) (enabled-bare o) t

-- and the same arrows
pub same-arrows : (t u : Tree) → bare u ≡ bare t → any_node is_arrow u ≡ any_node is_arrow t
same-arrows t u e = sym (any-bare is_arrow arrow-bare u) ∙ ap (any_node is_arrow) e ∙ any-bare is_arrow arrow-bare t
