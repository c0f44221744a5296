-- Ids and marks mean nothing to patterns with a rest, whether they are declared or stray.
use Rattle.std.proofs.Common.{◌≡◌, ◌∙◌, refl, sym, ap}
use Rattle.std.specs.Prelude.{Bool, ◌||◌, ◌&&◌, not, bytes_eq, codes, is_some}
use Rattle.es_tree.specs.Bare.{bare, bare_field, bare_fields, bare_label, bare_trees}
use Rattle.es_tree.specs.Constructs.{any_kind, field_at, has_member, is_rest}
use Rattle.es_tree.specs.HasForm.{same_type}
use Rattle.es_tree.specs.Names.{first_text, has_computed}
use Rattle.es_tree.specs.Tree.{Tree, node, Label, Fields, done, ◌then◌, Field, missing, one, many, statements, Trees, empty, ◌before◌}
use Rattle.es_tree.specs.Walks.{any_in_field, any_in_fields, any_in_trees, any_node}
use Rattle.es_tree.specs.declared.ast_type.AstType.{AstType}
use Rattle.es_tree.specs.declared.ast_type.AstType.TheVariants.{AssignmentExpression, AssignmentPattern, ExportNamedDeclaration, Identifier, ObjectPattern, ObjectTarget, PatternProperty, RestElement, TemplateElement, TemplateLiteral, VariableDeclaration, VariableDeclarator}
use Rattle.es_rest_shapes.specs.Laws.{LawBareRests}
use Rattle.es_tree.specs.RestTargets.{is_rest_assignment, is_rest_target}
use Rattle.es_tree.specs.PropertyKeys.{literal_text, template_text}
use Rattle.es_rest_shapes.specs.RestShapes.{any_beside, any_child, any_child_by, any_tree, are_plain_members, are_plain_parts, bears_among, bears_by, bears_first, bears_rest, bears_second, declares_rest, is_known_key, is_misplaced, is_name, is_named_rest, is_odd_pattern, is_plain_first, is_plain_key, is_plain_pattern, is_plain_property, is_plain_target, is_plain_value, is_rest_declaration, is_rest_declarator, is_stray_rest}

-- CHILDREN

module _ (p : Tree → Bool) (same : (t : Tree) → p (bare t) ≡ p t) where
  pub trees-bare : (ts : Trees) → any_tree p (bare_trees ts) ≡ any_tree p ts
  trees-bare empty = refl
  trees-bare (t before ts) = λ i. same t i || trees-bare ts i

  child-bare : (f : Field) → any_child_by p (bare_field f) ≡ any_child_by p f
  child-bare missing = refl
  child-bare (one t) = same t
  child-bare (many ts) = trees-bare ts
  child-bare (statements ts) = trees-bare ts

  children-bare : (fs : Fields) → any_child p (bare_fields fs) ≡ any_child p fs
  children-bare done = refl
  children-bare (f then fs) = λ i. child-bare f i || children-bare fs i

-- PATTERNS

kinds-bare : (ts : Trees) → any_kind is_rest (bare_trees ts) ≡ any_kind is_rest ts
kinds-bare empty = refl
kinds-bare (node k l fs before ts) = ap (λ b. is_rest k || b) (kinds-bare ts)

members-bare : (fs : Fields) → has_member is_rest (field_at 0 (bare_fields fs)) ≡ has_member is_rest (field_at 0 fs)
members-bare done = refl
members-bare (missing then fs) = refl
members-bare (one t then fs) = refl
members-bare (many ts then fs) = kinds-bare ts
members-bare (statements ts then fs) = refl

mutual
  pub bears-bare : (t : Tree) → bears_rest (bare t) ≡ bears_rest t
  bears-bare (node ObjectPattern l fs) = λ i. members-bare fs i || bears-bare-first fs i
  bears-bare (node PatternProperty l fs) = bears-bare-second fs
  bears-bare (node AssignmentPattern l fs) = bears-bare-first fs
  bears-bare (node ObjectTarget l fs) = members-bare fs
  bears-bare (node _ l fs) = refl

  bears-bare-second : (fs : Fields) → bears_second (bare_fields fs) ≡ bears_second fs
  bears-bare-second done = refl
  bears-bare-second (f then fs) = bears-bare-first fs

  bears-bare-first : (fs : Fields) → bears_first (bare_fields fs) ≡ bears_first fs
  bears-bare-first done = refl
  bears-bare-first (f then fs) = bears-bare-by f

  bears-bare-by : (f : Field) → bears_by (bare_field f) ≡ bears_by f
  bears-bare-by missing = refl
  bears-bare-by (one t) = bears-bare t
  bears-bare-by (many ts) = bears-bare-among ts
  bears-bare-by (statements ts) = bears-bare-among ts

  bears-bare-among : (ts : Trees) → bears_among (bare_trees ts) ≡ bears_among ts
  bears-bare-among empty = refl
  bears-bare-among (t before ts) = λ i. bears-bare t i || bears-bare-among ts i

pub name-bare : (t : Tree) → is_name (bare t) ≡ is_name t
name-bare (node Identifier l done) = refl
name-bare (node Identifier l (f then fs)) = refl
name-bare (node _ l fs) = refl

template-bare : (fs : Fields) → template_text (bare_fields fs) ≡ template_text fs
template-bare (many (node TemplateElement l gs before empty) then (many empty then done)) = refl
template-bare (many (node TemplateElement l gs before empty) then (many empty then f then fs)) = refl
template-bare (many (node TemplateElement l gs before empty) then (many (t before ts) then fs)) = refl
template-bare (many (node TemplateElement l gs before empty) then (one t then fs)) = refl
template-bare (many (node TemplateElement l gs before empty) then (statements ts then fs)) = refl
template-bare (many (node TemplateElement l gs before empty) then (missing then fs)) = refl
template-bare (many (node TemplateElement l gs before empty) then done) = refl
template-bare (many (node TemplateElement l gs before t before ts) then fs) = refl
template-bare (many (node _ l gs before ts) then fs) = refl
template-bare (many empty then fs) = refl
template-bare (one t then fs) = refl
template-bare (statements ts then fs) = refl
template-bare (missing then fs) = refl
template-bare done = refl

literal-bare : (t : Tree) → literal_text (bare t) ≡ literal_text t
literal-bare (node TemplateLiteral l fs) = template-bare fs
literal-bare (node _ l fs) = refl

known-bare : (t : Tree) → is_known_key (bare t) ≡ is_known_key t
known-bare t = λ i. name-bare t i || is_some (literal-bare t i)

pub key-bare : (b : Bool) (t : Tree) → is_plain_key b (bare t) ≡ is_plain_key b t
key-bare computed t = ap (λ v. computed || v) (known-bare t)

pub named-bare : (t : Tree) → is_named_rest (bare t) ≡ is_named_rest t
named-bare (node RestElement l (one t then done)) = name-bare t
named-bare (node RestElement l (one t then f then fs)) = refl
named-bare (node RestElement l (missing then fs)) = refl
named-bare (node RestElement l (many ts then fs)) = refl
named-bare (node RestElement l (statements ts then fs)) = refl
named-bare (node RestElement l done) = refl
named-bare (node _ l fs) = refl

-- PLAIN PATTERNS

mutual
  pub property-bare : (t : Tree) → is_plain_property (bare t) ≡ is_plain_property t
  property-bare (node PatternProperty l (one k then one v then done)) = λ i. key-bare (has_computed PatternProperty l.flags) k i && value-bare v i
  property-bare (node PatternProperty l (one k then one v then f then fs)) = refl
  property-bare (node PatternProperty l (one k then missing then fs)) = refl
  property-bare (node PatternProperty l (one k then many ts then fs)) = refl
  property-bare (node PatternProperty l (one k then statements ts then fs)) = refl
  property-bare (node PatternProperty l (one k then done)) = refl
  property-bare (node PatternProperty l (missing then fs)) = refl
  property-bare (node PatternProperty l (many ts then fs)) = refl
  property-bare (node PatternProperty l (statements ts then fs)) = refl
  property-bare (node PatternProperty l done) = refl
  property-bare (node _ l fs) = refl

  value-bare : (t : Tree) → is_plain_value (bare t) ≡ is_plain_value t
  value-bare (node ObjectPattern l fs) = parts-bare fs
  value-bare (node AssignmentPattern l fs) = first-bare fs
  value-bare (node k l fs) = λ i. not (bears-bare (node k l fs) i)

  first-bare : (fs : Fields) → is_plain_first (bare_fields fs) ≡ is_plain_first fs
  first-bare (one t then one e then done) = target-bare t
  first-bare (one t then one e then f then fs) = refl
  first-bare (one t then missing then fs) = refl
  first-bare (one t then many ts then fs) = refl
  first-bare (one t then statements ts then fs) = refl
  first-bare (one t then done) = refl
  first-bare (missing then fs) = refl
  first-bare (many ts then fs) = refl
  first-bare (statements ts then fs) = refl
  first-bare done = refl

  target-bare : (t : Tree) → is_plain_target (bare t) ≡ is_plain_target t
  target-bare (node ObjectPattern l fs) = parts-bare fs
  target-bare (node k l fs) = λ i. not (bears-bare (node k l fs) i)

  pub parts-bare : (fs : Fields) → are_plain_parts (bare_fields fs) ≡ are_plain_parts fs
  parts-bare (many ts then done) = plain-members-bare ts
  parts-bare (many ts then f then fs) = refl
  parts-bare (missing then fs) = refl
  parts-bare (one t then fs) = refl
  parts-bare (statements ts then fs) = refl
  parts-bare done = refl

  plain-members-bare : (ts : Trees) → are_plain_members (bare_trees ts) ≡ are_plain_members ts
  plain-members-bare empty = refl
  plain-members-bare (t before empty) = λ i. property-bare t i || named-bare t i
  plain-members-bare (t before u before ts) = λ i. property-bare t i && plain-members-bare (u before ts) i

pub plain-bare : (t : Tree) → is_plain_pattern (bare t) ≡ is_plain_pattern t
plain-bare (node ObjectPattern l fs) = λ i. bears-bare (node ObjectPattern l fs) i && parts-bare fs i
plain-bare (node _ l fs) = refl

-- DECLARATIONS

declarator-bare : (t : Tree) → is_rest_declarator (bare t) ≡ is_rest_declarator t
declarator-bare (node VariableDeclarator l (one p then fs)) = bears-bare p
declarator-bare (node VariableDeclarator l (missing then fs)) = refl
declarator-bare (node VariableDeclarator l (many ts then fs)) = refl
declarator-bare (node VariableDeclarator l (statements ts then fs)) = refl
declarator-bare (node VariableDeclarator l done) = refl
declarator-bare (node _ l fs) = refl

pub declaration-bare : (k : AstType) (l : Label) (fs : Fields) → is_rest_declaration k (bare_label l) (bare_fields fs) ≡ is_rest_declaration k l fs
declaration-bare VariableDeclaration l (many ds then fs) = trees-bare is_rest_declarator declarator-bare ds
declaration-bare VariableDeclaration l (missing then fs) = refl
declaration-bare VariableDeclaration l (one t then fs) = refl
declaration-bare VariableDeclaration l (statements ts then fs) = refl
declaration-bare VariableDeclaration l done = refl
declaration-bare _ l fs = refl

declares-bare : (t : Tree) → declares_rest (bare t) ≡ declares_rest t
declares-bare (node k l fs) = declaration-bare k l fs

-- ASSIGNMENTS

rest-target-bare : (f : Field) → is_rest_target (bare_field f) ≡ is_rest_target f
rest-target-bare missing = refl
rest-target-bare (one (node k l fs)) = ap (λ b. same_type k ObjectTarget && b) (members-bare fs)
rest-target-bare (many ts) = refl
rest-target-bare (statements ts) = refl

pub assignment-bare : (k : AstType) (l : Label) (fs : Fields) → is_rest_assignment k (bare_label l) (bare_fields fs) ≡ is_rest_assignment k l fs
assignment-bare AssignmentExpression l (f then fs) = ap (λ b. bytes_eq (first_text l.texts) (codes "=") && b) (rest-target-bare f)
assignment-bare AssignmentExpression l done = refl
assignment-bare _ l fs = refl

-- THE OTHERS

misplaced-bare : (t : Tree) → is_misplaced (bare t) ≡ is_misplaced t
misplaced-bare t = λ i. bears-bare t i || declarator-bare t i

odd-bare : (t : Tree) → is_odd_pattern (bare t) ≡ is_odd_pattern t
odd-bare t = λ i. (bears-bare t i && not (plain-bare t i)) || declarator-bare t i

all-bare : (fs : Fields) → any_child is_misplaced (bare_fields fs) ≡ any_child is_misplaced fs
all-bare fs = children-bare is_misplaced misplaced-bare fs

beside-bare : (fs : Fields) → any_beside (bare_fields fs) ≡ any_beside fs
beside-bare done = refl
beside-bare (f then fs) = λ i. child-bare is_rest_declarator declarator-bare f i || all-bare fs i

pub stray-bare : (k : AstType) (l : Label) (fs : Fields) → is_stray_rest k (bare_label l) (bare_fields fs) ≡ is_stray_rest k l fs
stray-bare VariableDeclarator l (one p then one e then done) = λ i. odd-bare p i || misplaced-bare e i
stray-bare VariableDeclarator l (one p then one e then f then fs) = all-bare (one p then one e then f then fs)
stray-bare VariableDeclarator l (one p then missing then fs) = all-bare (one p then missing then fs)
stray-bare VariableDeclarator l (one p then many ts then fs) = all-bare (one p then many ts then fs)
stray-bare VariableDeclarator l (one p then statements ts then fs) = all-bare (one p then statements ts then fs)
stray-bare VariableDeclarator l (one p then done) = all-bare (one p then done)
stray-bare VariableDeclarator l (missing then fs) = all-bare (missing then fs)
stray-bare VariableDeclarator l (many ts then fs) = all-bare (many ts then fs)
stray-bare VariableDeclarator l (statements ts then fs) = all-bare (statements ts then fs)
stray-bare VariableDeclarator l done = refl
stray-bare VariableDeclaration l (many ds then done) = trees-bare bears_rest bears-bare ds
stray-bare VariableDeclaration l (many ds then f then fs) = all-bare (many ds then f then fs)
stray-bare VariableDeclaration l (missing then fs) = all-bare (missing then fs)
stray-bare VariableDeclaration l (one t then fs) = all-bare (one t then fs)
stray-bare VariableDeclaration l (statements ts then fs) = all-bare (statements ts then fs)
stray-bare VariableDeclaration l done = refl
stray-bare ExportNamedDeclaration l fs = children-bare (λ t. is_misplaced t || declares_rest t) (λ t i. misplaced-bare t i || declares-bare t i) fs
stray-bare ObjectPattern l fs = beside-bare fs
stray-bare PatternProperty l (k then fs) = λ i. child-bare is_misplaced misplaced-bare k i || beside-bare fs i
stray-bare PatternProperty l done = refl
stray-bare AssignmentPattern l fs = beside-bare fs
stray-bare AssignmentExpression l (f then fs) = λ i. (child-bare is_misplaced misplaced-bare f i && not (assignment-bare AssignmentExpression l (f then fs) i)) || all-bare fs i
stray-bare AssignmentExpression l done = refl
stray-bare _ l fs = all-bare fs

-- EVERY NODE

module _ (T : AstType → Label → Fields → Bool) (own : (k : AstType) (l : Label) (fs : Fields) → T k (bare_label l) (bare_fields fs) ≡ T k l fs) where
  mutual
    nodes-bare : (t : Tree) → any_node T (bare t) ≡ any_node T t
    nodes-bare (node k l fs) = λ i. own k l fs i || nodes-bare-in fs i

    nodes-bare-in : (fs : Fields) → any_in_fields T (bare_fields fs) ≡ any_in_fields T fs
    nodes-bare-in done = refl
    nodes-bare-in (f then fs) = λ i. nodes-bare-by f i || nodes-bare-in fs i

    nodes-bare-by : (f : Field) → any_in_field T (bare_field f) ≡ any_in_field T f
    nodes-bare-by missing = refl
    nodes-bare-by (one t) = nodes-bare t
    nodes-bare-by (many ts) = nodes-bare-all ts
    nodes-bare-by (statements ts) = nodes-bare-all ts

    nodes-bare-all : (ts : Trees) → any_in_trees T (bare_trees ts) ≡ any_in_trees T ts
    nodes-bare-all empty = refl
    nodes-bare-all (t before ts) = λ i. nodes-bare t i || nodes-bare-all ts i

  bare-alike : (t u : Tree) → bare t ≡ bare u → any_node T u ≡ any_node T t
  bare-alike t u e = sym (nodes-bare u) ∙ ap (λ (x : Tree). any_node T x) (sym e) ∙ nodes-bare t

-- a program as its bare tree has it
pub strays-bare : (t : Tree) → any_node is_stray_rest (bare t) ≡ any_node is_stray_rest t
strays-bare t = nodes-bare is_stray_rest stray-bare t

pub law_bare_rests_proof : LawBareRests
law_bare_rests_proof t u e = record { strays = bare-alike is_stray_rest stray-bare t u e; declared = bare-alike is_rest_declaration declaration-bare t u e; assigned = bare-alike is_rest_assignment assignment-bare t u e }
