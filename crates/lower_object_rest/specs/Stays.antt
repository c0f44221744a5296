-- Shapes of what is alike save in declarations: patterns and declarators are the same ones.
use Rattle.std.proofs.Common.{ap, refl, ◌+◌, ◌∙◌, ◌≡◌}
use Rattle.std.proofs.lemmas.Bool.{or_from, or_parts}
use Rattle.std.specs.Prelude.{Bool, bytes_eq, codes, false, if◌then◌else◌, is_some, not, true, ◌&&◌, ◌||◌}
use Rattle.es_tree.specs.Constructs.{any_kind, is_object_rest, is_rest}
use Rattle.es_tree.specs.Names.{first_text, has_computed}
use Rattle.es_tree.specs.RestTargets.{is_rest_target}
use Rattle.es_tree.specs.Tree.{Field, Fields, Label, Tree, Trees, empty, many, node, one, ◌before◌, ◌then◌}
use Rattle.es_tree.specs.Walks.{any_in_fields, any_in_trees, any_node}
use Rattle.es_tree.specs.declared.ast_type.AstType.{AstType}
use Rattle.es_tree.specs.declared.ast_type.AstType.TheVariants.{AssignmentExpression, AssignmentPattern, ExportNamedDeclaration, Identifier, ObjectPattern, ObjectTarget, PatternProperty, RestElement, TemplateElement, TemplateLiteral, VariableDeclaration, VariableDeclarator}
use Rattle.es_tree.specs.PropertyKeys.{literal_text, template_text}
use Rattle.es_rest_shapes.specs.RestShapes.{any_beside, any_child, any_child_by, any_tree, are_plain_members, are_plain_parts, bears_among, bears_by, bears_first, bears_rest, bears_second, declares_rest, is_known_key, is_misplaced, is_name, is_named_rest, is_odd_pattern, is_plain_first, is_plain_key, is_plain_pattern, is_plain_property, is_plain_target, is_plain_value, is_rest_declaration, is_rest_declarator, is_stray_rest, reads_key}
use Rattle.lower_nodes.specs.Nodes.{Alike, AlikeAmong, AlikeBy, AlikeIn}
use Rattle.lower_nodes.specs.Nodes.Alike.{changed, within}
use Rattle.lower_nodes.specs.Nodes.AlikeIn.{no_fields, fields_alike}
use Rattle.lower_nodes.specs.Nodes.AlikeBy.{both_missing, one_alike, many_alike, statements_alike}
use Rattle.lower_nodes.specs.Nodes.AlikeAmong.{no_trees, trees_alike}
use Rattle.lower_object_rest.specs.Profile.{is_declaration, key_ids, key_ids_by, nested_ids, nested_ids_by, nested_ids_of, rest_owes}

abbrev pub Same : Tree → Tree → Type 0
Same = Alike is_declaration

abbrev pub SameIn : Fields → Fields → Type 0
SameIn = AlikeIn is_declaration

abbrev SameAmong : Trees → Trees → Type 0
SameAmong = AlikeAmong is_declaration

-- what is changed is a declaration
changed_only : (P : AstType → Type 0) → P VariableDeclaration → (k : AstType) → is_declaration k ≡ true → P k
changed_only P h VariableDeclaration e = h
changed_only P h _ e = absurd (cc e)

-- TESTS, of which each node passes as many

module _ (test : Tree → Bool) (same : (t u : Tree) → Same t u → test u ≡ test t) where
  pub any_alike : {ts us : Trees} → SameAmong ts us → any_tree test us ≡ any_tree test ts
  any_alike no_trees = refl
  any_alike (trees_alike {t = t} {u = u} h r) = λ i. same t u h i || any_alike r i

  by_alike : {f g : Field} → AlikeBy is_declaration f g → any_child_by test g ≡ any_child_by test f
  by_alike both_missing = refl
  by_alike (one_alike {t = t} {u = u} h) = same t u h
  by_alike (many_alike h) = any_alike h
  by_alike (statements_alike h) = any_alike h

  child_alike : {fs gs : Fields} → SameIn fs gs → any_child test gs ≡ any_child test fs
  child_alike no_fields = refl
  child_alike (fields_alike h r) = λ i. by_alike h i || child_alike r i

-- PATTERNS

kinds_alike : {ts us : Trees} → SameAmong ts us → any_kind is_rest us ≡ any_kind is_rest ts
kinds_alike no_trees = refl
kinds_alike (trees_alike (changed {k = k} e) r) = ap (λ b. is_rest k || b) (kinds_alike r)
kinds_alike (trees_alike (within {k = k} h) r) = ap (λ b. is_rest k || b) (kinds_alike r)

rests_alike : (k : AstType) (l : Label) {fs gs : Fields} → SameIn fs gs → is_object_rest k l gs ≡ is_object_rest k l fs
rests_alike ObjectPattern l no_fields = refl
rests_alike ObjectPattern l (fields_alike both_missing r) = refl
rests_alike ObjectPattern l (fields_alike (one_alike h) r) = refl
rests_alike ObjectPattern l (fields_alike (many_alike h) r) = kinds_alike h
rests_alike ObjectPattern l (fields_alike (statements_alike h) r) = refl
rests_alike ObjectTarget l no_fields = refl
rests_alike ObjectTarget l (fields_alike both_missing r) = refl
rests_alike ObjectTarget l (fields_alike (one_alike h) r) = refl
rests_alike ObjectTarget l (fields_alike (many_alike h) r) = kinds_alike h
rests_alike ObjectTarget l (fields_alike (statements_alike h) r) = refl
rests_alike _ l h = refl

mutual
  bears_alike : {t u : Tree} → Same t u → bears_rest u ≡ bears_rest t
  bears_alike (changed {k = k} {l = l} {fs = fs} {gs = gs} e) = changed_only (λ j. bears_rest (node j l gs) ≡ bears_rest (node j l fs)) refl k e
  bears_alike (within {k = ObjectPattern} {l = l} h) = λ i. rests_alike ObjectPattern l h i || first_alike h i
  bears_alike (within {k = PatternProperty} h) = second_alike h
  bears_alike (within {k = AssignmentPattern} h) = first_alike h
  bears_alike (within {k = ObjectTarget} {l = l} h) = rests_alike ObjectTarget l h
  bears_alike (within {k = _} h) = refl

  first_alike : {fs gs : Fields} → SameIn fs gs → bears_first gs ≡ bears_first fs
  first_alike no_fields = refl
  first_alike (fields_alike h r) = bears_alike_by h

  second_alike : {fs gs : Fields} → SameIn fs gs → bears_second gs ≡ bears_second fs
  second_alike no_fields = refl
  second_alike (fields_alike h r) = first_alike r

  bears_alike_by : {f g : Field} → AlikeBy is_declaration f g → bears_by g ≡ bears_by f
  bears_alike_by both_missing = refl
  bears_alike_by (one_alike h) = bears_alike h
  bears_alike_by (many_alike h) = bears_alike_among h
  bears_alike_by (statements_alike h) = bears_alike_among h

  bears_alike_among : {ts us : Trees} → SameAmong ts us → bears_among us ≡ bears_among ts
  bears_alike_among no_trees = refl
  bears_alike_among (trees_alike h r) = λ i. bears_alike h i || bears_alike_among r i

name_within : (k : AstType) (l : Label) {fs gs : Fields} → SameIn fs gs → is_name (node k l gs) ≡ is_name (node k l fs)
name_within Identifier l no_fields = refl
name_within Identifier l (fields_alike h r) = refl
name_within _ l h = refl

name_alike : {t u : Tree} → Same t u → is_name u ≡ is_name t
name_alike (changed {k = k} {l = l} {fs = fs} {gs = gs} e) = changed_only (λ j. is_name (node j l gs) ≡ is_name (node j l fs)) refl k e
name_alike (within {k = k} {l = l} h) = name_within k l h

-- of the fields of a template, kinds and labels stay, and so does its text
last_within : (l : Label) (hs js : Fields) {fs gs : Fields} → SameIn fs gs → template_text (many (node TemplateElement l js before empty) then gs) ≡ template_text (many (node TemplateElement l hs before empty) then fs)
last_within l hs js no_fields = refl
last_within l hs js (fields_alike both_missing r) = refl
last_within l hs js (fields_alike (one_alike h) r) = refl
last_within l hs js (fields_alike (statements_alike h) r) = refl
last_within l hs js (fields_alike (many_alike no_trees) no_fields) = refl
last_within l hs js (fields_alike (many_alike no_trees) (fields_alike h r)) = refl
last_within l hs js (fields_alike (many_alike (trees_alike h q)) r) = refl

part_within : (k : AstType) (l : Label) (hs js : Fields) {ts us : Trees} {fs gs : Fields} → SameAmong ts us → SameIn fs gs → template_text (many (node k l js before us) then gs) ≡ template_text (many (node k l hs before ts) then fs)
part_within TemplateElement l hs js no_trees r = last_within l hs js r
part_within TemplateElement l hs js (trees_alike h q) r = refl
part_within _ l hs js q r = refl

part_alike : {t u : Tree} {ts us : Trees} {fs gs : Fields} → Same t u → SameAmong ts us → SameIn fs gs → template_text (many (u before us) then gs) ≡ template_text (many (t before ts) then fs)
part_alike {ts = ts} {us = us} {fs = fs} {gs = gs} (changed {k = k} {l = l} {fs = hs} {gs = js} e) q r = changed_only (λ j. template_text (many (node j l js before us) then gs) ≡ template_text (many (node j l hs before ts) then fs)) refl k e
part_alike (within {k = k} {l = l} {fs = hs} {gs = js} h) q r = part_within k l hs js q r

template_within : {fs gs : Fields} → SameIn fs gs → template_text gs ≡ template_text fs
template_within no_fields = refl
template_within (fields_alike both_missing r) = refl
template_within (fields_alike (one_alike h) r) = refl
template_within (fields_alike (statements_alike h) r) = refl
template_within (fields_alike (many_alike no_trees) r) = refl
template_within (fields_alike (many_alike (trees_alike h q)) r) = part_alike h q r

literal_within : (k : AstType) (l : Label) {fs gs : Fields} → SameIn fs gs → literal_text (node k l gs) ≡ literal_text (node k l fs)
literal_within TemplateLiteral l h = template_within h
literal_within _ l h = refl

literal_alike : {t u : Tree} → Same t u → literal_text u ≡ literal_text t
literal_alike (changed {k = k} {l = l} {fs = fs} {gs = gs} e) = changed_only (λ j. literal_text (node j l gs) ≡ literal_text (node j l fs)) refl k e
literal_alike (within {k = k} {l = l} h) = literal_within k l h

known_alike : {t u : Tree} → Same t u → is_known_key u ≡ is_known_key t
known_alike h = λ i. name_alike h i || is_some (literal_alike h i)

key_alike : (computed : Bool) {t u : Tree} → Same t u → is_plain_key computed u ≡ is_plain_key computed t
key_alike computed h = ap (λ b. computed || b) (known_alike h)

reads_within : (k : AstType) (l : Label) {fs gs : Fields} → SameIn fs gs → reads_key (node k l gs) ≡ reads_key (node k l fs)
reads_within PatternProperty l (fields_alike (one_alike h) (fields_alike (one_alike v) no_fields)) = ap (λ x. has_computed PatternProperty l.flags && not (is_some x)) (literal_alike h)
reads_within PatternProperty l no_fields = refl
reads_within PatternProperty l (fields_alike both_missing r) = refl
reads_within PatternProperty l (fields_alike (many_alike h) r) = refl
reads_within PatternProperty l (fields_alike (statements_alike h) r) = refl
reads_within PatternProperty l (fields_alike (one_alike h) no_fields) = refl
reads_within PatternProperty l (fields_alike (one_alike h) (fields_alike both_missing r)) = refl
reads_within PatternProperty l (fields_alike (one_alike h) (fields_alike (many_alike v) r)) = refl
reads_within PatternProperty l (fields_alike (one_alike h) (fields_alike (statements_alike v) r)) = refl
reads_within PatternProperty l (fields_alike (one_alike h) (fields_alike (one_alike v) (fields_alike w r))) = refl
reads_within _ l h = refl

reads_alike : {t u : Tree} → Same t u → reads_key u ≡ reads_key t
reads_alike (changed {k = k} {l = l} {fs = fs} {gs = gs} e) = changed_only (λ j. reads_key (node j l gs) ≡ reads_key (node j l fs)) refl k e
reads_alike (within {k = k} {l = l} h) = reads_within k l h

rest_within : (k : AstType) (l : Label) {fs gs : Fields} → SameIn fs gs → is_named_rest (node k l gs) ≡ is_named_rest (node k l fs)
rest_within RestElement l (fields_alike (one_alike h) no_fields) = name_alike h
rest_within RestElement l no_fields = refl
rest_within RestElement l (fields_alike both_missing r) = refl
rest_within RestElement l (fields_alike (many_alike h) r) = refl
rest_within RestElement l (fields_alike (statements_alike h) r) = refl
rest_within RestElement l (fields_alike (one_alike h) (fields_alike v r)) = refl
rest_within _ l h = refl

rest_alike : {t u : Tree} → Same t u → is_named_rest u ≡ is_named_rest t
rest_alike (changed {k = k} {l = l} {fs = fs} {gs = gs} e) = changed_only (λ j. is_named_rest (node j l gs) ≡ is_named_rest (node j l fs)) refl k e
rest_alike (within {k = k} {l = l} h) = rest_within k l h

-- properties, and the patterns in their values
mutual
  property_alike : {t u : Tree} → Same t u → is_plain_property u ≡ is_plain_property t
  property_alike (changed {k = k} {l = l} {fs = fs} {gs = gs} e) = changed_only (λ j. is_plain_property (node j l gs) ≡ is_plain_property (node j l fs)) refl k e
  property_alike (within {k = k} {l = l} h) = property_within k l h

  property_within : (k : AstType) (l : Label) {fs gs : Fields} → SameIn fs gs → is_plain_property (node k l gs) ≡ is_plain_property (node k l fs)
  property_within PatternProperty l (fields_alike (one_alike h) (fields_alike (one_alike v) no_fields)) = λ i. key_alike (has_computed PatternProperty l.flags) h i && value_alike v i
  property_within PatternProperty l no_fields = refl
  property_within PatternProperty l (fields_alike both_missing r) = refl
  property_within PatternProperty l (fields_alike (many_alike h) r) = refl
  property_within PatternProperty l (fields_alike (statements_alike h) r) = refl
  property_within PatternProperty l (fields_alike (one_alike h) no_fields) = refl
  property_within PatternProperty l (fields_alike (one_alike h) (fields_alike both_missing r)) = refl
  property_within PatternProperty l (fields_alike (one_alike h) (fields_alike (many_alike v) r)) = refl
  property_within PatternProperty l (fields_alike (one_alike h) (fields_alike (statements_alike v) r)) = refl
  property_within PatternProperty l (fields_alike (one_alike h) (fields_alike (one_alike v) (fields_alike w r))) = refl
  property_within _ l h = refl

  value_alike : {t u : Tree} → Same t u → is_plain_value u ≡ is_plain_value t
  value_alike (changed {k = k} {l = l} {fs = fs} {gs = gs} e) = changed_only (λ j. is_plain_value (node j l gs) ≡ is_plain_value (node j l fs)) refl k e
  value_alike (within {k = ObjectPattern} h) = parts_alike h
  value_alike (within {k = AssignmentPattern} h) = default_alike h
  value_alike (within {k = k} {l = l} h) = ap not (bears_alike (within {k = k} {l = l} h))

  default_alike : {fs gs : Fields} → SameIn fs gs → is_plain_first gs ≡ is_plain_first fs
  default_alike (fields_alike (one_alike h) (fields_alike (one_alike v) no_fields)) = target_alike h
  default_alike no_fields = refl
  default_alike (fields_alike both_missing r) = refl
  default_alike (fields_alike (many_alike h) r) = refl
  default_alike (fields_alike (statements_alike h) r) = refl
  default_alike (fields_alike (one_alike h) no_fields) = refl
  default_alike (fields_alike (one_alike h) (fields_alike both_missing r)) = refl
  default_alike (fields_alike (one_alike h) (fields_alike (many_alike v) r)) = refl
  default_alike (fields_alike (one_alike h) (fields_alike (statements_alike v) r)) = refl
  default_alike (fields_alike (one_alike h) (fields_alike (one_alike v) (fields_alike w r))) = refl

  target_alike : {t u : Tree} → Same t u → is_plain_target u ≡ is_plain_target t
  target_alike (changed {k = k} {l = l} {fs = fs} {gs = gs} e) = changed_only (λ j. is_plain_target (node j l gs) ≡ is_plain_target (node j l fs)) refl k e
  target_alike (within {k = ObjectPattern} h) = parts_alike h
  target_alike (within {k = k} {l = l} h) = ap not (bears_alike (within {k = k} {l = l} h))

  parts_alike : {fs gs : Fields} → SameIn fs gs → are_plain_parts gs ≡ are_plain_parts fs
  parts_alike (fields_alike (many_alike h) no_fields) = members_alike h
  parts_alike no_fields = refl
  parts_alike (fields_alike both_missing r) = refl
  parts_alike (fields_alike (one_alike h) r) = refl
  parts_alike (fields_alike (statements_alike h) r) = refl
  parts_alike (fields_alike (many_alike h) (fields_alike v r)) = refl

  members_alike : {ts us : Trees} → SameAmong ts us → are_plain_members us ≡ are_plain_members ts
  members_alike no_trees = refl
  members_alike (trees_alike h no_trees) = λ i. property_alike h i || rest_alike h i
  members_alike (trees_alike h (trees_alike g r)) = λ i. property_alike h i && members_alike (trees_alike g r) i

pattern_alike : {t u : Tree} → Same t u → is_plain_pattern u ≡ is_plain_pattern t
pattern_alike (changed {k = k} {l = l} {fs = fs} {gs = gs} e) = changed_only (λ j. is_plain_pattern (node j l gs) ≡ is_plain_pattern (node j l fs)) refl k e
pattern_alike (within {k = ObjectPattern} {l = l} h) = λ i. bears_alike (within {k = ObjectPattern} {l = l} h) i && parts_alike h i
pattern_alike (within {k = _} h) = refl

-- DECLARATORS

declarator_within : (k : AstType) (l : Label) {fs gs : Fields} → SameIn fs gs → is_rest_declarator (node k l gs) ≡ is_rest_declarator (node k l fs)
declarator_within VariableDeclarator l (fields_alike (one_alike h) r) = bears_alike h
declarator_within VariableDeclarator l no_fields = refl
declarator_within VariableDeclarator l (fields_alike both_missing r) = refl
declarator_within VariableDeclarator l (fields_alike (many_alike h) r) = refl
declarator_within VariableDeclarator l (fields_alike (statements_alike h) r) = refl
declarator_within _ l h = refl

declarator_alike : {t u : Tree} → Same t u → is_rest_declarator u ≡ is_rest_declarator t
declarator_alike (changed {k = k} {l = l} {fs = fs} {gs = gs} e) = changed_only (λ j. is_rest_declarator (node j l gs) ≡ is_rest_declarator (node j l fs)) refl k e
declarator_alike (within {k = k} {l = l} h) = declarator_within k l h

misplaced_alike : {t u : Tree} → Same t u → is_misplaced u ≡ is_misplaced t
misplaced_alike h = λ i. bears_alike h i || declarator_alike h i

odd_alike : {t u : Tree} → Same t u → is_odd_pattern u ≡ is_odd_pattern t
odd_alike h = λ i. (bears_alike h i && not (pattern_alike h i)) || declarator_alike h i

-- a declaration whose declarators are alike
pub declaration_alike : (k : AstType) (l : Label) {fs gs : Fields} → SameIn fs gs → is_rest_declaration k l gs ≡ is_rest_declaration k l fs
declaration_alike VariableDeclaration l (fields_alike (many_alike h) r) = any_alike is_rest_declarator (λ t u. declarator_alike) h
declaration_alike VariableDeclaration l no_fields = refl
declaration_alike VariableDeclaration l (fields_alike both_missing r) = refl
declaration_alike VariableDeclaration l (fields_alike (one_alike h) r) = refl
declaration_alike VariableDeclaration l (fields_alike (statements_alike h) r) = refl
declaration_alike _ l h = refl

-- EXPORTS, once no declaration in them is left to lower

abbrev is_exported_rest : Tree → Bool
is_exported_rest t = is_misplaced t || declares_rest t

-- a node that holds no declaration is none
none_itself : (t : Tree) → any_node is_rest_declaration t ≡ false → declares_rest t ≡ false
none_itself (node k l fs) h = (or_parts (is_rest_declaration k l fs) (any_in_fields is_rest_declaration fs) h).0

exported_tree : {t u : Tree} → Same t u → any_node is_rest_declaration u ≡ false → is_exported_rest t ≡ false → is_exported_rest u ≡ false
exported_tree {t} {u} h none e = or_from (is_misplaced u) (declares_rest u) (misplaced_alike h ∙ (or_parts (is_misplaced t) (declares_rest t) e).0) (none_itself u none)

exported_trees : {ts us : Trees} → SameAmong ts us → any_in_trees is_rest_declaration us ≡ false → any_tree is_exported_rest ts ≡ false → any_tree is_exported_rest us ≡ false
exported_trees no_trees none e = refl
exported_trees (trees_alike {t = t} {u = u} {ts = ts} {us = us} h r) none e =
    let left = or_parts (any_node is_rest_declaration u) (any_in_trees is_rest_declaration us) none in
    let parts = or_parts (is_exported_rest t) (any_tree is_exported_rest ts) e in
    or_from (is_exported_rest u) (any_tree is_exported_rest us) (exported_tree h left.0 parts.0) (exported_trees r left.1 parts.1)

exported_fields : {fs gs : Fields} → SameIn fs gs → any_in_fields is_rest_declaration gs ≡ false → any_child is_exported_rest fs ≡ false → any_child is_exported_rest gs ≡ false
exported_fields no_fields none e = refl
exported_fields (fields_alike both_missing r) none e = exported_fields r none e
exported_fields (fields_alike {fs = fs} {gs = gs} (one_alike {t = t} {u = u} h) r) none e =
    let left = or_parts (any_node is_rest_declaration u) (any_in_fields is_rest_declaration gs) none in
    let parts = or_parts (is_exported_rest t) (any_child is_exported_rest fs) e in
    or_from (is_exported_rest u) (any_child is_exported_rest gs) (exported_tree h left.0 parts.0) (exported_fields r left.1 parts.1)
exported_fields (fields_alike {fs = fs} {gs = gs} (many_alike {ts = ts} {us = us} h) r) none e =
    let left = or_parts (any_in_trees is_rest_declaration us) (any_in_fields is_rest_declaration gs) none in
    let parts = or_parts (any_tree is_exported_rest ts) (any_child is_exported_rest fs) e in
    or_from (any_tree is_exported_rest us) (any_child is_exported_rest gs) (exported_trees h left.0 parts.0) (exported_fields r left.1 parts.1)
exported_fields (fields_alike {fs = fs} {gs = gs} (statements_alike {ts = ts} {us = us} h) r) none e =
    let left = or_parts (any_in_trees is_rest_declaration us) (any_in_fields is_rest_declaration gs) none in
    let parts = or_parts (any_tree is_exported_rest ts) (any_child is_exported_rest fs) e in
    or_from (any_tree is_exported_rest us) (any_child is_exported_rest gs) (exported_trees h left.0 parts.0) (exported_fields r left.1 parts.1)

-- STRAYS

misplaced_child : {fs gs : Fields} → SameIn fs gs → any_child is_misplaced fs ≡ false → any_child is_misplaced gs ≡ false
misplaced_child h e = child_alike is_misplaced (λ t u. misplaced_alike) h ∙ e

beside_alike : {fs gs : Fields} → SameIn fs gs → any_beside gs ≡ any_beside fs
beside_alike no_fields = refl
beside_alike (fields_alike h r) = λ i. by_alike is_rest_declarator (λ t u. declarator_alike) h i || child_alike is_misplaced (λ t u. misplaced_alike) r i

-- what is assigned to
target_within : (k : AstType) (l : Label) {fs gs : Fields} → SameIn fs gs → is_rest_target (one (node k l gs)) ≡ is_rest_target (one (node k l fs))
target_within ObjectTarget l h = rests_alike ObjectTarget l h
target_within _ l h = refl

rest_target_alike : {t u : Tree} → Same t u → is_rest_target (one u) ≡ is_rest_target (one t)
rest_target_alike (changed {k = k} {l = l} {fs = fs} {gs = gs} e) = changed_only (λ j. is_rest_target (one (node j l gs)) ≡ is_rest_target (one (node j l fs))) refl k e
rest_target_alike (within {k = k} {l = l} h) = target_within k l h

assigned_alike : {f g : Field} → AlikeBy is_declaration f g → is_rest_target g ≡ is_rest_target f
assigned_alike both_missing = refl
assigned_alike (one_alike h) = rest_target_alike h
assigned_alike (many_alike h) = refl
assigned_alike (statements_alike h) = refl

pub stray_alike : (k : AstType) (l : Label) {fs gs : Fields} → SameIn fs gs → any_in_fields is_rest_declaration gs ≡ false → is_stray_rest k l fs ≡ false → is_stray_rest k l gs ≡ false
stray_alike VariableDeclarator l (fields_alike (one_alike h) (fields_alike (one_alike g) no_fields)) none e = (λ i. odd_alike h i || misplaced_alike g i) ∙ e
stray_alike VariableDeclarator l no_fields none e = refl
stray_alike VariableDeclarator l (fields_alike both_missing r) none e = misplaced_child (fields_alike both_missing r) e
stray_alike VariableDeclarator l (fields_alike (many_alike h) r) none e = misplaced_child (fields_alike (many_alike h) r) e
stray_alike VariableDeclarator l (fields_alike (statements_alike h) r) none e = misplaced_child (fields_alike (statements_alike h) r) e
stray_alike VariableDeclarator l (fields_alike (one_alike h) no_fields) none e = misplaced_child (fields_alike (one_alike h) no_fields) e
stray_alike VariableDeclarator l (fields_alike (one_alike h) (fields_alike both_missing r)) none e = misplaced_child (fields_alike (one_alike h) (fields_alike both_missing r)) e
stray_alike VariableDeclarator l (fields_alike (one_alike h) (fields_alike (many_alike g) r)) none e = misplaced_child (fields_alike (one_alike h) (fields_alike (many_alike g) r)) e
stray_alike VariableDeclarator l (fields_alike (one_alike h) (fields_alike (statements_alike g) r)) none e = misplaced_child (fields_alike (one_alike h) (fields_alike (statements_alike g) r)) e
stray_alike VariableDeclarator l (fields_alike (one_alike h) (fields_alike (one_alike g) (fields_alike v r))) none e = misplaced_child (fields_alike (one_alike h) (fields_alike (one_alike g) (fields_alike v r))) e
stray_alike VariableDeclaration l (fields_alike (many_alike h) no_fields) none e = any_alike bears_rest (λ t u. bears_alike) h ∙ e
stray_alike VariableDeclaration l no_fields none e = refl
stray_alike VariableDeclaration l (fields_alike both_missing r) none e = misplaced_child (fields_alike both_missing r) e
stray_alike VariableDeclaration l (fields_alike (one_alike h) r) none e = misplaced_child (fields_alike (one_alike h) r) e
stray_alike VariableDeclaration l (fields_alike (statements_alike h) r) none e = misplaced_child (fields_alike (statements_alike h) r) e
stray_alike VariableDeclaration l (fields_alike (many_alike h) (fields_alike v r)) none e = misplaced_child (fields_alike (many_alike h) (fields_alike v r)) e
stray_alike ExportNamedDeclaration l h none e = exported_fields h none e
stray_alike ObjectPattern l h none e = beside_alike h ∙ e
stray_alike PatternProperty l no_fields none e = refl
stray_alike PatternProperty l (fields_alike h r) none e = (λ i. by_alike is_misplaced (λ t u. misplaced_alike) h i || beside_alike r i) ∙ e
stray_alike AssignmentPattern l h none e = beside_alike h ∙ e
stray_alike AssignmentExpression l no_fields none e = refl
stray_alike AssignmentExpression l (fields_alike h r) none e = (λ i. (by_alike is_misplaced (λ t u. misplaced_alike) h i && not (bytes_eq (first_text l.texts) (codes "=") && assigned_alike h i)) || child_alike is_misplaced (λ t u. misplaced_alike) r i) ∙ e
stray_alike _ l h none e = misplaced_child h e

-- IDS OWED

keys_alike : {ts us : Trees} → SameAmong ts us → key_ids us ≡ key_ids ts
keys_alike no_trees = refl
keys_alike (trees_alike h r) = λ i. key_ids_by (reads_alike h i) + keys_alike r i

nested_of_alike : {t u : Tree} → Same t u → nested_ids_of u ≡ nested_ids_of t
nested_of_alike (changed {k = k} {l = l} {fs = fs} {gs = gs} e) = changed_only (λ j. nested_ids_of (node j l gs) ≡ nested_ids_of (node j l fs)) refl k e
nested_of_alike (within {k = PatternProperty} h) = ap nested_ids_by (second_alike h)
nested_of_alike (within {k = _} h) = refl

nested_alike : {ts us : Trees} → SameAmong ts us → nested_ids us ≡ nested_ids ts
nested_alike no_trees = refl
nested_alike (trees_alike h r) = λ i. nested_of_alike h i + nested_alike r i

pub owes_alike : (k : AstType) (l : Label) {fs gs : Fields} → SameIn fs gs → rest_owes k l gs ≡ rest_owes k l fs
owes_alike ObjectPattern l (fields_alike (many_alike h) r) = λ i. (if kinds_alike h i then 16 + keys_alike h i else 0) + nested_alike h i
owes_alike ObjectPattern l no_fields = refl
owes_alike ObjectPattern l (fields_alike both_missing r) = refl
owes_alike ObjectPattern l (fields_alike (one_alike h) r) = refl
owes_alike ObjectPattern l (fields_alike (statements_alike h) r) = refl
owes_alike _ l h = refl
