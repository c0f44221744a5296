-- The members of patterns.
use Rattle.std.proofs.Common.{ap, refl, subst, sym, true≢false, ◌++◌, ◌∙◌, ◌∷◌, ◌≡◌, [], List}
use Rattle.std.proofs.lemmas.Bool.{and_from, and_parts, or_from}
use Rattle.std.specs.Prelude.{Bool, false, not, true, ◌||◌}
use Rattle.es_tree.specs.Constructs.{any_kind, is_rest}
use Rattle.es_tree.specs.Names.{has_computed}
use Rattle.es_tree.specs.Tree.{Fields, Label, Tree, Trees, done, empty, kind_of, many, missing, node, one, statements, trees, ◌before◌, ◌then◌}
use Rattle.es_tree.specs.declared.ast_type.AstType.TheVariants.{AssignmentPattern, ObjectPattern, PatternProperty, RestElement}
use Rattle.es_resolution.specs.Declarations.{Bound}
use Rattle.es_steps.specs.Nodes.{identifier, joined_trees}
use Rattle.es_steps.specs.ObjectRest.{pattern_node}
use Rattle.es_rest_rows.specs.RestRows.{keyed_by}
use Rattle.es_rest_shapes.specs.RestShapes.{any_tree, are_plain, are_plain_members, are_plain_parts, bears_among, bears_rest, is_named_rest, is_plain_key, is_plain_pattern, is_plain_property, is_plain_target, is_plain_value, is_rest_declarator, reads_key}
use Rattle.lower_object_rest.specs.Parts.{ends_in_rest}

-- MEMBERS

-- a rest is no property
rest-no-property : (t : Tree) → is_named_rest t ≡ true → is_plain_property t ≡ false
rest-no-property (node RestElement l fs) h = refl
rest-no-property (node _ l fs) h = absurd (cc h)

-- plain members are properties, but for the last
pub members-before : (ps : List Tree) (r : Tree) → are_plain_members (trees (ps ++ r ∷ [])) ≡ true → are_plain (trees ps) ≡ true
members-before [] r h = refl
members-before (p ∷ []) r h = and_from (is_plain_property p) true (and_parts (is_plain_property p) (is_plain_property r || is_named_rest r) h).0 refl
members-before (p ∷ q ∷ ps) r h =
    let parts = and_parts (is_plain_property p) (are_plain_members (trees ((q ∷ ps) ++ r ∷ []))) h in
    and_from (is_plain_property p) (are_plain (trees (q ∷ ps))) parts.0 (members-before (q ∷ ps) r parts.1)

-- which is one, too, where it is no rest
pub members-plain : (ps : List Tree) → are_plain_members (trees ps) ≡ true → ends_in_rest ps ≡ false → are_plain (trees ps) ≡ true
members-plain [] h e = refl
members-plain (p ∷ []) h e = and_from (is_plain_property p) true (either (is_plain_property p) (is_named_rest p) h e) refl
  where
    either : (a b : Bool) → (a || b) ≡ true → b ≡ false → a ≡ true
    either true b h e = refl
    either false b h e = absurd (true≢false (sym h ∙ e))
members-plain (p ∷ q ∷ ps) h e =
    let parts = and_parts (is_plain_property p) (are_plain_members (trees (q ∷ ps))) h in
    and_from (is_plain_property p) (are_plain (trees (q ∷ ps))) parts.0 (members-plain (q ∷ ps) parts.1 e)

pub ends-last : (ps : List Tree) (r : Tree) → ends_in_rest (ps ++ r ∷ []) ≡ is_named_rest r
ends-last [] r = refl
ends-last (p ∷ []) r = refl
ends-last (p ∷ q ∷ ps) r = ends-last (q ∷ ps) r

-- plain properties are plain members
pub plain-members : (ps : Trees) → are_plain ps ≡ true → are_plain_members ps ≡ true
plain-members empty h = refl
plain-members (p before empty) h = ap (λ b. b || is_named_rest p) (and_parts (is_plain_property p) true h).0
plain-members (p before (q before ps)) h =
    let parts = and_parts (is_plain_property p) (are_plain (q before ps)) h in
    and_from (is_plain_property p) (are_plain_members (q before ps)) parts.0 (plain-members (q before ps) parts.1)

pub plain-kind : (t : Tree) → is_plain_property t ≡ true → is_rest (kind_of t) ≡ false
plain-kind (node PatternProperty l fs) h = refl
plain-kind (node _ l fs) h = absurd (cc h)

-- and none of them is a rest
pub plain-kinds : (ps : Trees) → are_plain ps ≡ true → any_kind is_rest ps ≡ false
plain-kinds empty h = refl
plain-kinds (p before ps) h = let parts = and_parts (is_plain_property p) (are_plain ps) h in or_from (is_rest (kind_of p)) (any_kind is_rest ps) (plain-kind p parts.0) (plain-kinds ps parts.1)

-- nor a declarator
plain-no-declarator : (t : Tree) → is_plain_property t ≡ true → is_rest_declarator t ≡ false
plain-no-declarator (node PatternProperty l fs) h = refl
plain-no-declarator (node _ l fs) h = absurd (cc h)

pub plain-no-declarators : (ps : Trees) → are_plain ps ≡ true → any_tree is_rest_declarator ps ≡ false
plain-no-declarators empty h = refl
plain-no-declarators (p before ps) h = let parts = and_parts (is_plain_property p) (are_plain ps) h in or_from (is_rest_declarator p) (any_tree is_rest_declarator ps) (plain-no-declarator p parts.0) (plain-no-declarators ps parts.1)

pub plain-parts : (xs ys : Trees) → are_plain (joined_trees xs ys) ≡ true → (are_plain xs ≡ true) × (are_plain ys ≡ true)
plain-parts empty ys h = (refl, h)
plain-parts (x before xs) ys h =
    let parts = and_parts (is_plain_property x) (are_plain (joined_trees xs ys)) h in
    let rest = plain-parts xs ys parts.1 in
    (and_from (is_plain_property x) (are_plain xs) parts.0 rest.0, rest.1)

pub plain-both : (xs ys : Trees) → are_plain xs ≡ true → are_plain ys ≡ true → are_plain (joined_trees xs ys) ≡ true
plain-both empty ys h k = k
plain-both (x before xs) ys h k = let parts = and_parts (is_plain_property x) (are_plain xs) h in and_from (is_plain_property x) (are_plain (joined_trees xs ys)) parts.0 (plain-both xs ys parts.1 k)

-- one more behind plain ones
pub plain-joined : (ps : Trees) (p : Tree) → are_plain ps ≡ true → is_plain_property p ≡ true → are_plain (joined_trees ps (p before empty)) ≡ true
plain-joined ps p h own = plain-both ps (p before empty) h (and_from (is_plain_property p) true own refl)

-- A PROPERTY, by its parts

pub record IsProperty (p : Tree) : Type 0 where
  pub label : Label
  pub key : Tree
  pub value : Tree
  pub is : p ≡ node PatternProperty label (one key then one value then done)

pub plain-property : (p : Tree) → is_plain_property p ≡ true → IsProperty p
plain-property (node PatternProperty l (one k then one v then done)) h = record { label = l; key = k; value = v; is = refl }
plain-property (node PatternProperty l done) h = absurd (cc h)
plain-property (node PatternProperty l (missing then fs)) h = absurd (cc h)
plain-property (node PatternProperty l (many ts then fs)) h = absurd (cc h)
plain-property (node PatternProperty l (statements ts then fs)) h = absurd (cc h)
plain-property (node PatternProperty l (one k then done)) h = absurd (cc h)
plain-property (node PatternProperty l (one k then (missing then fs))) h = absurd (cc h)
plain-property (node PatternProperty l (one k then (many ts then fs))) h = absurd (cc h)
plain-property (node PatternProperty l (one k then (statements ts then fs))) h = absurd (cc h)
plain-property (node PatternProperty l (one k then (one v then (f then fs)))) h = absurd (cc h)
plain-property (node _ l fs) h = absurd (cc h)

-- one whose key is read is one
pub read-property : (p : Tree) → reads_key p ≡ true → IsProperty p
read-property (node PatternProperty l (one k then one v then done)) h = record { label = l; key = k; value = v; is = refl }
read-property (node PatternProperty l done) h = absurd (cc h)
read-property (node PatternProperty l (missing then fs)) h = absurd (cc h)
read-property (node PatternProperty l (many ts then fs)) h = absurd (cc h)
read-property (node PatternProperty l (statements ts then fs)) h = absurd (cc h)
read-property (node PatternProperty l (one k then done)) h = absurd (cc h)
read-property (node PatternProperty l (one k then (missing then fs))) h = absurd (cc h)
read-property (node PatternProperty l (one k then (many ts then fs))) h = absurd (cc h)
read-property (node PatternProperty l (one k then (statements ts then fs))) h = absurd (cc h)
read-property (node PatternProperty l (one k then (one v then (f then fs)))) h = absurd (cc h)
read-property (node _ l fs) h = absurd (cc h)

-- a name in the place of a key
keyed-key : (computed : Bool) (x : Bound) → is_plain_key computed (identifier x) ≡ true
keyed-key true x = refl
keyed-key false x = refl

pub keyed-plain : (x : Bound) (p : Tree) → is_plain_property p ≡ true → is_plain_property (keyed_by x p) ≡ true
keyed-plain x p h =
    let q = plain-property p h in
    let computed = has_computed PatternProperty q.label.flags in
    let parts = and_parts (is_plain_key computed q.key) (is_plain_value q.value) (sym (ap is_plain_property q.is) ∙ h) in
    subst (λ (t : Tree). is_plain_property (keyed_by x t) ≡ true) (sym q.is) (and_from (is_plain_key computed (identifier x)) (is_plain_value q.value) (keyed-key computed x) parts.1)

-- PATTERNS

-- what bears a rest isn't plain for bearing none
bears-both : (b : Bool) → not b ≡ true → b ≡ true → ⊥
bears-both true h e = true≢false (sym h)
bears-both false h e = true≢false (sym e)

-- a plain pattern, by its members
pub pattern-plain : (l : Label) (ps : Trees) → is_plain_pattern (pattern_node l ps) ≡ true → are_plain_members ps ≡ true
pattern-plain l ps h = (and_parts (bears_rest (pattern_node l ps)) (are_plain_members ps) h).1

pub parts-of : (l : Label) (fs : Fields) → is_plain_pattern (node ObjectPattern l fs) ≡ true → are_plain_parts fs ≡ true
parts-of l fs h = (and_parts (bears_rest (node ObjectPattern l fs)) (are_plain_parts fs) h).1

pub pattern-bears : (p : Tree) → is_plain_pattern p ≡ true → bears_rest p ≡ true
pattern-bears (node ObjectPattern l fs) h = (and_parts (bears_rest (node ObjectPattern l fs)) (are_plain_parts fs) h).0
pattern-bears (node _ l fs) h = absurd (cc h)

-- with no rest of its own it has one in a property
pub pattern-among : (l : Label) (ps : Trees) → are_plain ps ≡ true → bears_rest (pattern_node l ps) ≡ true → bears_among ps ≡ true
pattern-among l ps h e = sym (ap (λ b. b || bears_among ps) (plain-kinds ps h)) ∙ e

target-plain : (p : Tree) → is_plain_target p ≡ true → bears_rest p ≡ true → is_plain_pattern p ≡ true
target-plain (node ObjectPattern l fs) h e = and_from (bears_rest (node ObjectPattern l fs)) (are_plain_parts fs) e h
target-plain (node k l fs) h e = absurd (bears-both (bears_rest (node k l fs)) h e)

-- the pattern in a value that bears a rest: with a default value,
pub default-plain : (l : Label) (p e : Tree) → is_plain_value (node AssignmentPattern l (one p then one e then done)) ≡ true → bears_rest (node AssignmentPattern l (one p then one e then done)) ≡ true → is_plain_pattern p ≡ true
default-plain l p e h b = target-plain p h b

-- or without
pub value-plain : (v : Tree) → (kind_of v ≡ AssignmentPattern → ⊥) → is_plain_value v ≡ true → bears_rest v ≡ true → is_plain_pattern v ≡ true
value-plain (node ObjectPattern l fs) k h b = and_from (bears_rest (node ObjectPattern l fs)) (are_plain_parts fs) b h
value-plain (node AssignmentPattern l fs) k h b = absurd (k refl)
value-plain (node j l fs) k h b = absurd (bears-both (bears_rest (node j l fs)) h b)
