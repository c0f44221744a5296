-- Tests of patterns with a rest, as the code has them, and as they are defined.
use Rattle.std.proofs.Common.{◌≡◌, ◌≢◌, ◌∙◌, ◌<◌, ℕ, zero, suc, refl, ap, arith, List, [], ◌∷◌, Bool, true, false, get_or, length, take}
use Rattle.std.specs.Prelude.{◌||◌, ◌&&◌, None}
use Rattle.std.specs.List.{list_any}
use Rattle.es_tree.specs.Names.{has_computed}
use Rattle.es_tree.specs.Tree.{Tree, Trees, node, Label, Fields, done, ◌then◌, Field, missing, one, many, statements, empty, ◌before◌, trees}
use Rattle.es_tree.specs.Views.{plain_field, plain_fields}
use Rattle.es_tree.specs.declared.ast_type.AstType.TheVariants.{PatternProperty, TemplateElement, VariableDeclarator}
use Rattle.es_tree.specs.declared.node.Field.{Field as NodeField}
use Rattle.es_runs.specs.Duplication.{has_no_fields}
use Rattle.es_tree.specs.PropertyKeys.{template_text}
use Rattle.es_rest_shapes.specs.RestShapes.{any_child, any_child_by, any_tree, are_plain, are_plain_members, are_plain_parts, bears_second, is_misplaced, is_named_rest, is_odd_pattern, is_plain_first, is_plain_property, is_plain_target, is_stray_rest}
use Rattle.es_rest_nodes.specs.RestFields.{is_plain_pair, is_stray_declarator, on_list, on_one, on_two, sole_text}

-- LISTS

pub any-list : (p : Tree → Bool) (ts : List Tree) → list_any p ts ≡ any_tree p (trees ts)
any-list p [] = refl
any-list p (t ∷ ts) = ap (λ b. p t || b) (any-list p ts)

pub any-fields : (p : Tree → Bool) (fs : List NodeField) → list_any (λ f. any_child_by p (plain_field f)) fs ≡ any_child p (plain_fields fs)
any-fields p [] = refl
any-fields p (f ∷ fs) = ap (λ b. any_child_by p (plain_field f) || b) (any-fields p fs)

or-off : (a : Bool) → (a || false) ≡ a
or-off true = refl
or-off false = refl

-- NODES

pub stray-declarator : (l : Label) (fs : Fields) → is_stray_declarator fs ≡ is_stray_rest VariableDeclarator l fs
stray-declarator l (one p then one e then done) = or-off (is_odd_pattern p || is_misplaced e)
stray-declarator l (one p then one e then f then fs) = refl
stray-declarator l (one p then many ts then fs) = refl
stray-declarator l (one p then statements ts then fs) = refl
stray-declarator l (one p then missing then fs) = refl
stray-declarator l (one p then done) = refl
stray-declarator l (many ts then fs) = refl
stray-declarator l (statements ts then fs) = refl
stray-declarator l (missing then fs) = refl
stray-declarator l done = refl

pub plain-property : (l : Label) (fs : Fields) → is_plain_pair (has_computed PatternProperty l.flags) fs ≡ is_plain_property (node PatternProperty l fs)
plain-property l (one k then one v then done) = refl
plain-property l (one k then one v then f then fs) = refl
plain-property l (one k then many ts then fs) = refl
plain-property l (one k then statements ts then fs) = refl
plain-property l (one k then missing then fs) = refl
plain-property l (one k then done) = refl
plain-property l (many ts then fs) = refl
plain-property l (statements ts then fs) = refl
plain-property l (missing then fs) = refl
plain-property l done = refl

-- THE LAST MEMBER

pub plain-last : (ms : List Tree) (n : ℕ) (r : Tree) → suc n ≡ length ms → r ≡ get_or ms n r → ((is_plain_property r || is_named_rest r) && are_plain (trees (take n ms))) ≡ are_plain_members (trees ms)
plain-last [] n r whole e = absurd (cc whole)
plain-last (m ∷ []) zero r whole e = and-true (is_plain_property r || is_named_rest r) ∙ (λ i. is_plain_property (e i) || is_named_rest (e i))
  where
    and-true : (a : Bool) → (a && true) ≡ a
    and-true true = refl
    and-true false = refl
plain-last (m ∷ []) (suc n) r whole e = absurd (omega (arith, whole))
plain-last (m ∷ l ∷ ms) zero r whole e = absurd (omega (arith, whole))
plain-last (m ∷ l ∷ ms) (suc n) r whole e = moved (is_plain_property r || is_named_rest r) (is_plain_property m) (are_plain (trees (take n (l ∷ ms)))) ∙ ap (λ b. is_plain_property m && b) (plain-last (l ∷ ms) n r (omega (arith, whole)) e)
  where
    moved : (a b c : Bool) → (a && (b && c)) ≡ (b && (a && c))
    moved true true c = refl
    moved true false c = refl
    moved false true c = refl
    moved false false c = refl

-- OTHER NUMBERS OF FIELDS

pub some-fields : (fs : List NodeField) → 0 < length fs → has_no_fields (plain_fields fs) ≡ false
some-fields [] h = absurd (omega (arith, h))
some-fields (f ∷ fs) h = refl

pub no-second : (fs : List NodeField) → length fs < 2 → bears_second (plain_fields fs) ≡ false
no-second [] h = refl
no-second (f ∷ []) h = refl
no-second (f ∷ g ∷ fs) h = absurd (omega (arith, h))

module _ (P : Trees → Bool) where
  two-lists : (f g : Field) (fs : Fields) → on_list P (f then g then fs) ≡ false
  two-lists missing g fs = refl
  two-lists (one t) g fs = refl
  two-lists (many ts) g fs = refl
  two-lists (statements ts) g fs = refl

  pub more-lists : (fs : List NodeField) → 1 < length fs → on_list P (plain_fields fs) ≡ false
  more-lists [] h = absurd (omega (arith, h))
  more-lists (f ∷ []) h = absurd (omega (arith, h))
  more-lists (f ∷ g ∷ fs) h = two-lists (plain_field f) (plain_field g) (plain_fields fs)

module _ (P : Tree → Bool) where
  two-children : (f g : Field) (fs : Fields) → on_one P (f then g then fs) ≡ false
  two-children missing g fs = refl
  two-children (one t) g fs = refl
  two-children (many ts) g fs = refl
  two-children (statements ts) g fs = refl

  pub more-children : (fs : List NodeField) → 1 < length fs → on_one P (plain_fields fs) ≡ false
  more-children [] h = absurd (omega (arith, h))
  more-children (f ∷ []) h = absurd (omega (arith, h))
  more-children (f ∷ g ∷ fs) h = two-children (plain_field f) (plain_field g) (plain_fields fs)

module _ (P : Tree → Tree → Bool) where
  one-alone : (f : Field) → on_two P (f then done) ≡ false
  one-alone missing = refl
  one-alone (one t) = refl
  one-alone (many ts) = refl
  one-alone (statements ts) = refl

  three-children : (f g h : Field) (fs : Fields) → on_two P (f then g then h then fs) ≡ false
  three-children (one t) missing h fs = refl
  three-children (one t) (one u) h fs = refl
  three-children (one t) (many us) h fs = refl
  three-children (one t) (statements us) h fs = refl
  three-children missing g h fs = refl
  three-children (many ts) g h fs = refl
  three-children (statements ts) g h fs = refl

  pub fewer-than-two : (fs : List NodeField) → length fs < 2 → on_two P (plain_fields fs) ≡ false
  fewer-than-two [] h = refl
  fewer-than-two (f ∷ []) h = one-alone (plain_field f)
  fewer-than-two (f ∷ g ∷ fs) h = absurd (omega (arith, h))

  pub more-than-two : (fs : List NodeField) → 2 < length fs → on_two P (plain_fields fs) ≡ false
  more-than-two [] h = absurd (omega (arith, h))
  more-than-two (f ∷ []) h = absurd (omega (arith, h))
  more-than-two (f ∷ g ∷ []) h = absurd (omega (arith, h))
  more-than-two (f ∷ g ∷ i ∷ fs) h = three-children (plain_field f) (plain_field g) (plain_field i) (plain_fields fs)

-- a list of members, and a target with its default value

parts-list : (fs : Fields) → are_plain_parts fs ≡ on_list are_plain_members fs
parts-list (many ts then done) = refl
parts-list (many ts then f then fs) = refl
parts-list (one t then fs) = refl
parts-list (statements ts then fs) = refl
parts-list (missing then fs) = refl
parts-list done = refl

pub more-parts : (fs : List NodeField) → 1 < length fs → are_plain_parts (plain_fields fs) ≡ false
more-parts fs h = parts-list (plain_fields fs) ∙ more-lists are_plain_members fs h

first-pair : (fs : Fields) → is_plain_first fs ≡ on_two (λ p e. is_plain_target p) fs
first-pair (one p then one e then done) = refl
first-pair (one p then one e then f then fs) = refl
first-pair (one p then many ts then fs) = refl
first-pair (one p then statements ts then fs) = refl
first-pair (one p then missing then fs) = refl
first-pair (one p then done) = refl
first-pair (many ts then fs) = refl
first-pair (statements ts then fs) = refl
first-pair (missing then fs) = refl
first-pair done = refl

pub fewer-first : (fs : List NodeField) → length fs < 2 → is_plain_first (plain_fields fs) ≡ false
fewer-first fs h = first-pair (plain_fields fs) ∙ fewer-than-two (λ p e. is_plain_target p) fs h

pub more-first : (fs : List NodeField) → 2 < length fs → is_plain_first (plain_fields fs) ≡ false
more-first fs h = first-pair (plain_fields fs) ∙ more-than-two (λ p e. is_plain_target p) fs h

-- TEMPLATES

one-list : (f : Field) → template_text (f then done) ≡ None
one-list missing = refl
one-list (one t) = refl
one-list (statements ts) = refl
one-list (many empty) = refl
one-list (many (node TemplateElement l fs before empty)) = refl
one-list (many (node TemplateElement l fs before t before ts)) = refl
one-list (many (node _ l fs before ts)) = refl

three-lists : (f g h : Field) (fs : Fields) → template_text (f then g then h then fs) ≡ None
three-lists missing g h fs = refl
three-lists (one t) g h fs = refl
three-lists (statements ts) g h fs = refl
three-lists (many empty) g h fs = refl
three-lists (many (node TemplateElement l gs before empty)) missing h fs = refl
three-lists (many (node TemplateElement l gs before empty)) (one t) h fs = refl
three-lists (many (node TemplateElement l gs before empty)) (statements ts) h fs = refl
three-lists (many (node TemplateElement l gs before empty)) (many empty) h fs = refl
three-lists (many (node TemplateElement l gs before empty)) (many (t before ts)) h fs = refl
three-lists (many (node TemplateElement l gs before t before ts)) g h fs = refl
three-lists (many (node _ l gs before ts)) g h fs = refl

pub other-lists : (fs : List NodeField) → length fs ≢ 2 → template_text (plain_fields fs) ≡ None
other-lists [] h = refl
other-lists (f ∷ []) h = one-list (plain_field f)
other-lists (f ∷ g ∷ []) h = absurd (omega (arith, h))
other-lists (f ∷ g ∷ i ∷ fs) h = three-lists (plain_field f) (plain_field g) (plain_field i) (plain_fields fs)

-- elements of a template: one, and no expressions

pub more-elements : (ts us : List Tree) → length ts ≢ 1 → sole_text (trees ts) (trees us) ≡ None
more-elements [] us h = refl
more-elements (t ∷ s ∷ ts) us h = refl
more-elements (t ∷ []) us h = absurd (h refl)

pub some-expressions : (ts us : List Tree) → 0 < length us → sole_text (trees ts) (trees us) ≡ None
some-expressions ts [] h = absurd (omega (arith, h))
some-expressions [] (u ∷ us) h = refl
some-expressions (t ∷ []) (u ∷ us) h = refl
some-expressions (t ∷ s ∷ ts) (u ∷ us) h = refl
