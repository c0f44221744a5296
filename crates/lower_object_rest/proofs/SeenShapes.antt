-- What is seen of declarators and patterns: the same shapes, the same keys, and as many ids owed.
use Rattle.std.proofs.Common.{ap, refl, sym, ◌+◌, ◌∙◌, ◌≡◌, Option, ℕ}
use Rattle.std.specs.Prelude.{if◌then◌else◌, is_some, not, unwrap_or, ◌&&◌, ◌||◌}
use Rattle.es_tree.specs.Bare.{bare, bare_field, bare_fields, bare_label, bare_trees}
use Rattle.es_tree.specs.Constructs.{any_kind, is_rest}
use Rattle.es_tree.specs.Names.{first_text, has_computed}
use Rattle.es_tree.specs.Tree.{Field, Fields, Label, Tree, Trees, done, empty, many, missing, node, one, statements, trees_size, ◌before◌, ◌then◌}
use Rattle.es_tree.specs.Words.{Text}
use Rattle.es_tree.specs.declared.ast_type.AstType.{AstType}
use Rattle.es_tree.specs.declared.ast_type.AstType.TheVariants.{Identifier, ObjectPattern, PatternProperty, RestElement, TemplateElement, TemplateLiteral, VariableDeclarator}
use Rattle.es_resolution.specs.Seen.{seen, seen_among, seen_by, seen_in, seen_marks}
use Rattle.es_steps.specs.Nodes.{joined_trees, string_node}
use Rattle.es_steps.specs.ObjectRest.{pattern_node}
use Rattle.es_rest_rows.specs.RestRows.{text_of_key, with_rest}
use Rattle.es_rest_shapes.specs.RestShapes.{any_tree, are_plain, bears_among, bears_rest, is_name, is_plain_pattern, is_plain_property, reads_key}
use Rattle.es_rest_shapes.proofs.BareRests.{bears-bare, plain-bare, property-bare}
use Rattle.lower_nodes.specs.Nodes.{owed, owed_among, owed_by, owed_in}
use Rattle.lower_temporaries.proofs.KeysSeen.{key_text-seen, read_key-seen}
use Rattle.lower_temporaries.proofs.SeenLaws.{any_kind-seen, size-seen}
use Rattle.lower_temporaries.proofs.TwoFields.{two-seen}
use Rattle.lower_temporaries.specs.Helpers.{mapped_ids}
use Rattle.lower_object_rest.specs.Parts.{taken_ids}
use Rattle.lower_object_rest.specs.Profile.{key_ids, key_ids_by, nested_ids, nested_ids_by, nested_ids_of, rest_owes}
use Rattle.lower_object_rest.specs.Shapes.{is_lowerable}

module _ (names : ℕ → Text → Option ℕ) where
  joined-seen : (xs ys : Trees) → seen_among names (joined_trees xs ys) ≡ joined_trees (seen_among names xs) (seen_among names ys)
  joined-seen empty ys = refl
  joined-seen (x before xs) ys = ap (λ us. seen names x before us) (joined-seen xs ys)

  -- what is seen of a tree, without its ids and marks
  mutual
    bare-seen : (t : Tree) → bare (seen names t) ≡ bare t
    bare-seen (node k l fs) = λ i. node k (bare_label l) (bare-seen-in fs i)

    bare-seen-in : (fs : Fields) → bare_fields (seen_in names fs) ≡ bare_fields fs
    bare-seen-in done = refl
    bare-seen-in (f then fs) = λ i. bare-seen-by f i then bare-seen-in fs i

    bare-seen-by : (f : Field) → bare_field (seen_by names f) ≡ bare_field f
    bare-seen-by missing = refl
    bare-seen-by (one t) = λ i. one (bare-seen t i)
    bare-seen-by (many ts) = λ i. many (bare-seen-among ts i)
    bare-seen-by (statements ts) = λ i. statements (bare-seen-among ts i)

    bare-seen-among : (ts : Trees) → bare_trees (seen_among names ts) ≡ bare_trees ts
    bare-seen-among empty = refl
    bare-seen-among (t before ts) = λ i. bare-seen t i before bare-seen-among ts i

  -- SHAPES

  pub name-seen : (t : Tree) → is_name (seen names t) ≡ is_name t
  name-seen (node Identifier l done) = refl
  name-seen (node Identifier l (f then fs)) = refl
  name-seen (node _ l fs) = refl

  property-seen : (t : Tree) → is_plain_property (seen names t) ≡ is_plain_property t
  property-seen t = sym (property-bare (seen names t)) ∙ (ap is_plain_property (bare-seen t) ∙ property-bare t)

  pub plain-seen : (ts : Trees) → are_plain (seen_among names ts) ≡ are_plain ts
  plain-seen empty = refl
  plain-seen (t before ts) = λ i. property-seen t i && plain-seen ts i

  pub pattern-seen : (t : Tree) → is_plain_pattern (seen names t) ≡ is_plain_pattern t
  pattern-seen t = sym (plain-bare (seen names t)) ∙ (ap is_plain_pattern (bare-seen t) ∙ plain-bare t)

  pub bears-seen : (t : Tree) → bears_rest (seen names t) ≡ bears_rest t
  bears-seen t = sym (bears-bare (seen names t)) ∙ (ap bears_rest (bare-seen t) ∙ bears-bare t)

  pub any-bears-seen : (ts : Trees) → bears_among (seen_among names ts) ≡ bears_among ts
  any-bears-seen empty = refl
  any-bears-seen (t before ts) = λ i. bears-seen t i || any-bears-seen ts i

  pub lowerable-seen : (d : Tree) → is_lowerable (seen names d) ≡ is_lowerable d
  lowerable-seen (node VariableDeclarator l fs) = two-seen names (λ p e. is_plain_pattern p) (λ p e. pattern-seen p) fs
  lowerable-seen (node _ l fs) = refl

  -- KEYS

  pub reads-seen : (t : Tree) → reads_key (seen names t) ≡ reads_key t
  reads-seen (node PatternProperty l (one k then (one v then done))) = read_key-seen names (has_computed PatternProperty l.flags) k
  reads-seen (node PatternProperty l done) = refl
  reads-seen (node PatternProperty l (missing then fs)) = refl
  reads-seen (node PatternProperty l (many ts then fs)) = refl
  reads-seen (node PatternProperty l (statements ts then fs)) = refl
  reads-seen (node PatternProperty l (one k then done)) = refl
  reads-seen (node PatternProperty l (one k then (missing then fs))) = refl
  reads-seen (node PatternProperty l (one k then (many ts then fs))) = refl
  reads-seen (node PatternProperty l (one k then (statements ts then fs))) = refl
  reads-seen (node PatternProperty l (one k then (one v then (f then fs)))) = refl
  reads-seen (node _ l fs) = refl

  pub any-read-seen : (ts : Trees) → any_tree reads_key (seen_among names ts) ≡ any_tree reads_key ts
  any-read-seen empty = refl
  any-read-seen (t before ts) = λ i. reads-seen t i || any-read-seen ts i

  pub key-of-seen : (t : Tree) → text_of_key (seen names t) ≡ text_of_key t
  key-of-seen (node k l (one e then fs)) = ap string_node (key_text-seen names e)
  key-of-seen (node k l done) = refl
  key-of-seen (node k l (missing then fs)) = refl
  key-of-seen (node k l (many ts then fs)) = refl
  key-of-seen (node k l (statements ts then fs)) = refl

  -- a pattern with its rest
  pub rest-pattern-seen : (lp lr : Label) (ps : Trees) (t : Tree) → seen names (with_rest lp ps lr t) ≡ with_rest (bare_label lp) (seen_among names ps) (bare_label lr) (seen names t)
  rest-pattern-seen lp lr ps t = ap (λ us. pattern_node (bare_label lp) us) (joined-seen ps (node RestElement lr (one t then done) before empty))

  -- SIZES

  pub size-among : (ts : Trees) → trees_size (seen_among names ts) ≡ trees_size ts
  size-among empty = refl
  size-among (t before ts) = λ i. size-seen names t i + size-among ts i

  -- IDS OWED

  key_ids-seen : (ts : Trees) → key_ids (seen_among names ts) ≡ key_ids ts
  key_ids-seen empty = refl
  key_ids-seen (t before ts) = λ i. key_ids_by (reads-seen t i) + key_ids-seen ts i

  nested-of-seen : (t : Tree) → nested_ids_of (seen names t) ≡ nested_ids_of t
  nested-of-seen (node PatternProperty l fs) = ap nested_ids_by (bears-seen (node PatternProperty l fs))
  nested-of-seen (node _ l fs) = refl

  pub nested_ids-seen : (ts : Trees) → nested_ids (seen_among names ts) ≡ nested_ids ts
  nested_ids-seen empty = refl
  nested_ids-seen (t before ts) = λ i. nested-of-seen t i + nested_ids-seen ts i

  -- and as many are given for it
  pub ids-seen : (ts : Trees) → taken_ids (seen_among names ts) ≡ taken_ids ts
  ids-seen empty = refl
  ids-seen (t before ts) = λ i. 8 + key_ids-seen (t before ts) i + mapped_ids (any-read-seen (t before ts) i)

  own-seen : (k : AstType) (l m : Label) (fs : Fields) → rest_owes k m (seen_in names fs) ≡ rest_owes k l fs
  own-seen ObjectPattern l m (many ps then fs) = λ i. (if any_kind-seen names is_rest ps i then 16 + key_ids-seen ps i else 0) + nested_ids-seen ps i
  own-seen ObjectPattern l m done = refl
  own-seen ObjectPattern l m (missing then fs) = refl
  own-seen ObjectPattern l m (one t then fs) = refl
  own-seen ObjectPattern l m (statements ts then fs) = refl
  own-seen _ l m fs = refl

  mutual
    pub owed-seen : (t : Tree) → owed rest_owes (seen names t) ≡ owed rest_owes t
    owed-seen (node k l fs) = λ i. own-seen k l (record l { id = 0; marks = seen_marks names k l fs }) fs i + owed-in fs i

    owed-in : (fs : Fields) → owed_in rest_owes (seen_in names fs) ≡ owed_in rest_owes fs
    owed-in done = refl
    owed-in (f then fs) = λ i. owed-by f i + owed-in fs i

    owed-by : (f : Field) → owed_by rest_owes (seen_by names f) ≡ owed_by rest_owes f
    owed-by missing = refl
    owed-by (one t) = owed-seen t
    owed-by (many ts) = owed-among ts
    owed-by (statements ts) = owed-among ts

    pub owed-among : (ts : Trees) → owed_among rest_owes (seen_among names ts) ≡ owed_among rest_owes ts
    owed-among empty = refl
    owed-among (t before ts) = λ i. owed-seen t i + owed-among ts i
