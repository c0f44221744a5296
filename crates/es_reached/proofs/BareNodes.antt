-- What the rules of places ask of a node and of what stands in it, without its ids and marks.
use Rattle.std.proofs.Common.{◌≡◌, ℕ, zero, suc, refl, ap, ◌∙◌}
use Rattle.std.specs.Prelude.{not, ◌&&◌, ◌||◌, bytes_eq, codes, is_some, Option, Some, None}
use Rattle.std.specs.List.{list_any}
use Rattle.es_tree.specs.Ancestors.{has_loop_body, is_labeled_loop}
use Rattle.es_tree.specs.Bare.{bare, bare_label, bare_field, bare_fields, bare_trees}
use Rattle.es_tree.specs.Children.{child_at, only_child}
use Rattle.es_tree.specs.CoreStaticRules.{has_optional, has_optional_in, is_bad_delete, is_bad_target, is_empty_chain, is_kept, is_kept_within, is_missing_init, is_name, is_optional, is_private_member, is_private_name, is_simple_target, is_stray_optional, needs_value}
use Rattle.es_tree.specs.HasForm.{same_type}
use Rattle.es_tree.specs.Names.{first_text}
use Rattle.es_tree.specs.Parens.{without_parens}
use Rattle.es_tree.specs.Scopes.{name_in, own_text}
use Rattle.es_tree.specs.StaticRules.{binds_name, has_pattern, has_value, is_bad_accessor, is_bad_accessor_of, is_declaration, is_empty, is_lone_declarator, is_lone_parameter, parameters_in}
use Rattle.es_tree.specs.Table.{own_kinds}
use Rattle.es_tree.specs.Tree.{Tree, node, Label, Fields, done, ◌then◌, Field, one, many, Trees, empty, ◌before◌, kind_of, label_of}
use Rattle.es_tree.specs.declared.ast_type.AstType.{AstType}
use Rattle.es_tree.specs.declared.ast_type.AstType.TheVariants.{CallExpression, ChainExpression, ClassDeclaration, FunctionDeclaration, FunctionExpression, Identifier, LabeledStatement, MemberExpression, MethodDefinition, ObjectProperty, PrivateIdentifier, RestElement, UnaryExpression, VariableDeclaration, VariableDeclarator}
use Rattle.es_tree.specs.declared.place.Place.{Place}
use Rattle.es_tree.specs.declared.place.Place.TheVariants.{Declarator, Spine, Target}
use Rattle.es_steps.proofs.BridgeTrees.{without_parens-bare}

-- KINDS AND TEXTS

pub kind-bare : (t : Tree) → kind_of (bare t) ≡ kind_of t
kind-bare (node k l fs) = refl

pub text-bare : (t : Tree) → own_text (bare t) ≡ own_text t
text-bare (node k l fs) = refl

pub inner-kind-bare : (t : Tree) → kind_of (without_parens (bare t)) ≡ kind_of (without_parens t)
inner-kind-bare t = ap kind_of (without_parens-bare t) ∙ kind-bare (without_parens t)

pub name-bare : (fs : Fields) → name_in (bare_fields fs) ≡ name_in fs
name-bare (one t then fs) = text-bare t
name-bare _ = refl

-- CHILDREN

abbrev bare_child : Option Tree → Option Tree
bare_child None = None
bare_child (Some t) = Some (bare t)

only-bare : (f : Field) → only_child (bare_field f) ≡ bare_child (only_child f)
only-bare (one t) = refl
only-bare _ = refl

child-bare : (n : ℕ) (fs : Fields) → child_at n (bare_fields fs) ≡ bare_child (child_at n fs)
child-bare n done = refl
child-bare zero (f then fs) = only-bare f
child-bare (suc n) (f then fs) = child-bare n fs

some-bare : (o : Option Tree) → is_some (bare_child o) ≡ is_some o
some-bare None = refl
some-bare (Some t) = refl

pub has-child-bare : (n : ℕ) (fs : Fields) → is_some (child_at n (bare_fields fs)) ≡ is_some (child_at n fs)
has-child-bare n fs = ap is_some (child-bare n fs) ∙ some-bare (child_at n fs)

is-name-bare : (o : Option Tree) → is_name (bare_child o) ≡ is_name o
is-name-bare None = refl
is-name-bare (Some (node Identifier l fs)) = refl
is-name-bare (Some (node _ l fs)) = refl

first-name-bare : (fs : Fields) → is_name (child_at 0 (bare_fields fs)) ≡ is_name (child_at 0 fs)
first-name-bare fs = ap is_name (child-bare 0 fs) ∙ is-name-bare (child_at 0 fs)

-- LABELS: whether a loop stands below them

loop-bare : (t : Tree) → is_labeled_loop (bare t) ≡ is_labeled_loop t
loop-bare (node LabeledStatement l (n then (one t then fs))) = loop-bare t
loop-bare (node LabeledStatement l fs) = refl
loop-bare (node _ l fs) = refl

pub loop-body-bare : (fs : Fields) → has_loop_body (bare_fields fs) ≡ has_loop_body fs
loop-body-bare (n then (one t then fs)) = loop-bare t
loop-body-bare _ = refl

-- TARGETS

pub target-bare : (p : Place) (t : Tree) → is_bad_target p (bare t) ≡ is_bad_target p t
target-bare (Target s) t = λ i. not (list_any (same_type (kind-bare t i)) (own_kinds s) || is_simple_target (inner-kind-bare t i))
target-bare _ t = refl

-- CHAINS

pub optional-bare : (k : AstType) (l : Label) → is_optional k (bare_label l) ≡ is_optional k l
optional-bare MemberExpression l = refl
optional-bare CallExpression l = refl
optional-bare _ l = refl

mutual
  has-optional-bare : (t : Tree) → has_optional (bare t) ≡ has_optional t
  has-optional-bare (node MemberExpression l fs) = ap (λ b. is_optional MemberExpression l || b) (has-optional-in-bare fs)
  has-optional-bare (node CallExpression l fs) = ap (λ b. is_optional CallExpression l || b) (has-optional-in-bare fs)
  has-optional-bare (node _ l fs) = refl

  has-optional-in-bare : (fs : Fields) → has_optional_in (bare_fields fs) ≡ has_optional_in fs
  has-optional-in-bare (one t then fs) = has-optional-bare t
  has-optional-in-bare _ = refl

pub chain-bare : (t : Tree) → is_empty_chain (bare t) ≡ is_empty_chain t
chain-bare (node ChainExpression l fs) = ap not (has-optional-in-bare fs)
chain-bare (node _ l fs) = refl

own-optional-bare : (t : Tree) → is_optional (kind_of (bare t)) (label_of (bare t)) ≡ is_optional (kind_of t) (label_of t)
own-optional-bare (node k l fs) = optional-bare k l

pub mark-bare : (p : Place) (t : Tree) → is_stray_optional p (bare t) ≡ is_stray_optional p t
mark-bare Spine t = refl
mark-bare _ t = own-optional-bare t

-- DELETE

private-bare : (o : Option Tree) → is_private_name (bare_child o) ≡ is_private_name o
private-bare None = refl
private-bare (Some (node PrivateIdentifier l fs)) = refl
private-bare (Some (node _ l fs)) = refl

second-private-bare : (fs : Fields) → is_private_name (child_at 1 (bare_fields fs)) ≡ is_private_name (child_at 1 fs)
second-private-bare fs = ap is_private_name (child-bare 1 fs) ∙ private-bare (child_at 1 fs)

member-bare : (o : Option Tree) → is_private_member (bare_child o) ≡ is_private_member o
member-bare None = refl
member-bare (Some (node MemberExpression l fs)) = second-private-bare fs
member-bare (Some (node _ l fs)) = refl

kept-bare : (t : Tree) → is_kept (bare t) ≡ is_kept t
kept-bare (node Identifier l fs) = refl
kept-bare (node MemberExpression l fs) = second-private-bare fs
kept-bare (node ChainExpression l fs) = ap is_private_member (child-bare 0 fs) ∙ member-bare (child_at 0 fs)
kept-bare (node _ l fs) = refl

within-bare : (o : Option Tree) → is_kept_within (bare_child o) ≡ is_kept_within o
within-bare None = refl
within-bare (Some t) = ap is_kept (without_parens-bare t) ∙ kept-bare (without_parens t)

pub delete-bare : (t : Tree) → is_bad_delete (bare t) ≡ is_bad_delete t
delete-bare (node UnaryExpression l fs) = ap (λ b. bytes_eq (first_text l.texts) (codes "delete") && b) (ap is_kept_within (child-bare 0 fs) ∙ within-bare (child_at 0 fs))
delete-bare (node _ l fs) = refl

-- DECLARATORS

needs-bare : (p : Place) (fs : Fields) → needs_value p (child_at 0 (bare_fields fs)) ≡ needs_value p (child_at 0 fs)
needs-bare (Declarator top lexical constant) fs = ap (λ b. constant || not b) (first-name-bare fs)
needs-bare _ fs = refl

pub value-bare : (p : Place) (t : Tree) → is_missing_init p (bare t) ≡ is_missing_init p t
value-bare p (node VariableDeclarator l fs) = λ i. needs-bare p fs i && not (has-child-bare 1 fs i)
value-bare p (node _ l fs) = refl

binds-bare : (t : Tree) → binds_name (bare t) ≡ binds_name t
binds-bare (node k l fs) = first-name-bare fs

has-value-bare : (t : Tree) → has_value (bare t) ≡ has_value t
has-value-bare (node k l fs) = has-child-bare 1 fs

pub pattern-bare : (ts : Trees) → has_pattern (bare_trees ts) ≡ has_pattern ts
pattern-bare empty = refl
pattern-bare (t before ts) = λ i. not (binds-bare t i) || pattern-bare ts i

pub lone-declarator-bare : (ts : Trees) → is_lone_declarator (bare_trees ts) ≡ is_lone_declarator ts
lone-declarator-bare empty = refl
lone-declarator-bare (t before empty) = ap not (has-value-bare t)
lone-declarator-bare (t before (u before ts)) = refl

-- ACCESSORS

parameters-bare : (fs : Fields) → parameters_in (bare_fields fs) ≡ bare_trees (parameters_in fs)
parameters-bare (key then (one (node FunctionExpression l (n then (many ps then gs))) then fs)) = refl
parameters-bare _ = refl

empty-bare : (ts : Trees) → is_empty (bare_trees ts) ≡ is_empty ts
empty-bare empty = refl
empty-bare (t before ts) = refl

lone-parameter-bare : (ts : Trees) → is_lone_parameter (bare_trees ts) ≡ is_lone_parameter ts
lone-parameter-bare empty = refl
lone-parameter-bare (t before empty) = ap (λ k. not (same_type k RestElement)) (kind-bare t)
lone-parameter-bare (t before (u before ts)) = refl

accessor-of-bare : (l : Label) (fs : Fields) → is_bad_accessor_of (bare_label l) (bare_fields fs) ≡ is_bad_accessor_of l fs
accessor-of-bare l fs =
    let none = ap is_empty (parameters-bare fs) ∙ empty-bare (parameters_in fs) in
    let one_there = ap is_lone_parameter (parameters-bare fs) ∙ lone-parameter-bare (parameters_in fs) in
    λ i. (bytes_eq (first_text l.texts) (codes "get") && not (none i)) || (bytes_eq (first_text l.texts) (codes "set") && not (one_there i))

pub accessor-bare : (t : Tree) → is_bad_accessor (bare t) ≡ is_bad_accessor t
accessor-bare (node MethodDefinition l fs) = accessor-of-bare l fs
accessor-bare (node ObjectProperty l fs) = accessor-of-bare l fs
accessor-bare (node _ l fs) = refl

-- DECLARATIONS

pub declaration-bare : (t : Tree) → is_declaration (kind_of (bare t)) (label_of (bare t)) ≡ is_declaration (kind_of t) (label_of t)
declaration-bare (node VariableDeclaration l fs) = refl
declaration-bare (node FunctionDeclaration l fs) = refl
declaration-bare (node ClassDeclaration l fs) = refl
declaration-bare (node _ l fs) = refl
