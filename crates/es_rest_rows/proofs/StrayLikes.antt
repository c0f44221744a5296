-- What the nodes around see of a tree in which something changed: no pattern with a rest where none was, and what is plain is still so. Where the
-- tree stands in a slot it may be wrapped, whatever it is: also a key of a parameter that is computed, which may be any expression.
use Rattle.std.proofs.Common.{◌≡◌, ◌==◌, ◌∙◌, ℕ, zero, suc, refl, sym, ap, true≢false, List, ◌∷◌, arith}
use Rattle.std.specs.Prelude.{Bool, bytes_eq, codes, false, is_some, not, true, ◌&&◌, ◌||◌}
use Rattle.std.proofs.lemmas.Bool.{and_from, and_left, and_parts, ne_eqb, or_from, or_left, or_parts}
use Rattle.es_tree.specs.Ancestors.{Ancestor, ancestor}
use Rattle.es_tree.specs.Constructs.{any_kind, field_at, has_member, is_rest}
use Rattle.es_tree.specs.Names.{first_text, has_computed}
use Rattle.es_tree.specs.Tree.{Tree, node, Label, Fields, done, ◌then◌, Field, missing, one, many, statements, Trees, empty, ◌before◌, kind_of}
use Rattle.es_tree.specs.RestTargets.{is_rest_assignment, is_rest_target}
use Rattle.es_tree.specs.declared.ast_type.AstType.{AstType}
use Rattle.es_tree.specs.declared.ast_type.AstType.TheVariants.{AssignmentExpression, AssignmentPattern, BigIntLiteral, BooleanLiteral, ExportNamedDeclaration, Identifier, NullLiteral, NumericLiteral, ObjectPattern, ObjectTarget, PatternProperty, RestElement, StringLiteral, TemplateElement, TemplateLiteral, VariableDeclaration, VariableDeclarator}
use Rattle.es_steps.specs.Nodes.{joined_trees}
use Rattle.es_steps.specs.Slots.{is_in_parameter, is_slot}
use Rattle.es_reached.proofs.FreeTrees.{Free, FreeAll, neither}
use Rattle.es_tree.specs.PropertyKeys.{template_text}
use Rattle.es_rest_shapes.specs.RestShapes.{any_beside, any_child, any_child_by, any_tree, are_plain_members, are_plain_parts, bears_among, bears_by, bears_first, bears_rest, bears_second, declares_rest, is_known_key, is_misplaced, is_name, is_named_rest, is_odd_pattern, is_plain_first, is_plain_key, is_plain_pattern, is_plain_property, is_plain_target, is_plain_value, is_rest_declaration, is_rest_declarator, is_stray_rest}
use Rattle.es_rest_rows.proofs.Changes.{is_body_place}
use Rattle.es_rest_rows.proofs.StrayNodes.{Mark, acting-element, acting-named, acting-property, and-true, is_acting, is_text_element, passes}
use Rattle.es_rest_rows.proofs.StrayNodes.Mark.{a_declaration, a_declarator, a_pattern, a_rest, a_stray, a_target, an_export}
use Rattle.es_rest_rows.proofs.WholeLists.{joined-none}

-- ALIKE, where the tree stands alone in a field

pub record LikeOne (up : List Ancestor) (t u : Tree) : Type 0 where
  pub marks : (m : Mark) → passes m t ≡ false → passes m u ≡ false
  pub odd : is_odd_pattern t ≡ false → is_odd_pattern u ≡ false
  pub value : is_plain_value t ≡ true → is_plain_value u ≡ true
  pub target : is_plain_target t ≡ true → is_plain_target u ≡ true
  pub fixed : is_slot up ≡ false → is_name t ≡ false
  pub known : is_slot up ≡ false → is_body_place up ≡ false → is_known_key t ≡ true → is_known_key u ≡ true

-- and where it stands in a list
pub record Like (up : List Ancestor) (t u : Tree) : Type 0 where
  pub alone : LikeOne up t u
  pub property : is_slot up ≡ false → is_plain_property t ≡ true → is_plain_property u ≡ true
  pub named : is_slot up ≡ false → is_named_rest t ≡ true → is_named_rest u ≡ true
  pub element : is_slot up ≡ false → is_text_element t ≡ true → is_text_element u ≡ true

-- what comes for a node with others beside it
pub record Besides (t : Tree) (us : Trees) : Type 0 where
  pub source : is_acting (kind_of t) ≡ true
  pub free : Free is_stray_rest t → FreeAll is_stray_rest us
  pub marks : (m : Mark) → any_tree (passes m) us ≡ false

pub data LikeAll (up : List Ancestor) : Trees → Trees → Type 0 where
  head_like : {t u : Tree} {ts : Trees} → Like up t u → LikeAll up (t before ts) (u before ts)
  tail_like : {t : Tree} {ts us : Trees} → LikeAll up ts us → LikeAll up (t before ts) (t before us)
  beside_like : {t : Tree} {us ts : Trees} → Besides t us → LikeAll up (t before ts) (joined_trees us ts)
  equal_trees : {ts : Trees} → LikeAll up ts ts

pub data LikeBy (up : List Ancestor) : Field → Field → Type 0 where
  one_like : {t u : Tree} → LikeOne up t u → LikeBy up (one t) (one u)
  many_like : {ts us : Trees} → LikeAll up ts us → LikeBy up (many ts) (many us)
  statements_like : {ts us : Trees} → ((m : Mark) → any_tree (passes m) ts ≡ false → any_tree (passes m) us ≡ false) → LikeBy up (statements ts) (statements us)
  equal_field : {f : Field} → LikeBy up f f

pub data LikeIn : (ℕ → List Ancestor) → Fields → Fields → Type 0 where
  first_like : {c : ℕ → List Ancestor} {f g : Field} {fs : Fields} → LikeBy (c zero) f g → LikeIn c (f then fs) (g then fs)
  later_like : {c : ℕ → List Ancestor} {f : Field} {fs gs : Fields} → LikeIn (λ i. c (suc i)) fs gs → LikeIn c (f then fs) (f then gs)

-- CHILDREN

pub all-marks : {up : List Ancestor} (m : Mark) {ts us : Trees} → LikeAll up ts us → any_tree (passes m) ts ≡ false → any_tree (passes m) us ≡ false
all-marks m (head_like {t = t} {u = u} {ts = ts} h) e = neither (passes m t) (any_tree (passes m) ts) (passes m u) (any_tree (passes m) ts) (h.alone.marks m) (λ x. x) e
all-marks m (tail_like {t = t} {ts = ts} {us = us} h) e = neither (passes m t) (any_tree (passes m) ts) (passes m t) (any_tree (passes m) us) (λ x. x) (all-marks m h) e
all-marks m (beside_like {t = t} {us = us} {ts = ts} h) e = joined-none (passes m) us ts (h.marks m) (or_parts (passes m t) (any_tree (passes m) ts) e).1
all-marks m equal_trees e = e

by-marks : {up : List Ancestor} (m : Mark) {f g : Field} → LikeBy up f g → any_child_by (passes m) f ≡ false → any_child_by (passes m) g ≡ false
by-marks m (one_like h) e = h.marks m e
by-marks m (many_like h) e = all-marks m h e
by-marks m (statements_like h) e = h m e
by-marks m equal_field e = e

in-marks : {c : ℕ → List Ancestor} (m : Mark) {fs gs : Fields} → LikeIn c fs gs → any_child (passes m) fs ≡ false → any_child (passes m) gs ≡ false
in-marks m (first_like {f = f} {g = g} {fs = fs} h) e = neither (any_child_by (passes m) f) (any_child (passes m) fs) (any_child_by (passes m) g) (any_child (passes m) fs) (by-marks m h) (λ x. x) e
in-marks m (later_like {f = f} {fs = fs} {gs = gs} h) e = neither (any_child_by (passes m) f) (any_child (passes m) fs) (any_child_by (passes m) f) (any_child (passes m) gs) (λ x. x) (in-marks m h) e

-- properties and a rest, outside slots

either : (a b c d : Bool) → (a ≡ true → c ≡ true) → (b ≡ true → d ≡ true) → (a || b) ≡ true → (c || d) ≡ true
either true b c d f g e = or_left c d (f refl)
either false b true d f g e = refl
either false b false d f g e = g e

members-more : (t : Tree) (us : Trees) → is_plain_property t ≡ true → are_plain_members us ≡ true → are_plain_members (t before us) ≡ true
members-more t empty e f = or_left (is_plain_property t) (is_named_rest t) e
members-more t (u before us) e f = and_from (is_plain_property t) (are_plain_members (u before us)) e f

all-members : {up : List Ancestor} {ts us : Trees} → is_slot up ≡ false → LikeAll up ts us → are_plain_members ts ≡ true → are_plain_members us ≡ true
all-members out (head_like {t = t} {u = u} {ts = empty} h) e = either (is_plain_property t) (is_named_rest t) (is_plain_property u) (is_named_rest u) (h.property out) (h.named out) e
all-members out (head_like {t = t} {u = u} {ts = x before xs} h) e = let k = and_parts (is_plain_property t) (are_plain_members (x before xs)) e in and_from (is_plain_property u) (are_plain_members (x before xs)) (h.property out k.0) k.1
all-members out (tail_like {ts = empty} equal_trees) e = e
all-members out (tail_like {t = t} {ts = x before xs} {us = us} h) e = let k = and_parts (is_plain_property t) (are_plain_members (x before xs)) e in members-more t us k.0 (all-members out h k.1)
all-members out (beside_like {t = t} {ts = empty} h) e = absurd (true≢false (sym e ∙ or_from (is_plain_property t) (is_named_rest t) (acting-property t h.source) (acting-named t h.source)))
all-members out (beside_like {t = t} {ts = x before xs} h) e = absurd (true≢false (sym (and_parts (is_plain_property t) (are_plain_members (x before xs)) e).0 ∙ acting-property t h.source))
all-members out equal_trees e = e

-- MARKS of a node in whose fields something changed

kinds-as : (ts : Trees) → any_kind is_rest ts ≡ any_tree (passes a_rest) ts
kinds-as empty = refl
kinds-as (t before ts) = ap (λ b. is_rest (kind_of t) || b) (kinds-as ts)

members-like : {c : ℕ → List Ancestor} {fs gs : Fields} → LikeIn c fs gs → has_member is_rest (field_at 0 fs) ≡ false → has_member is_rest (field_at 0 gs) ≡ false
members-like (first_like (one_like h)) e = refl
members-like (first_like (many_like {ts = ts} {us = us} h)) e = kinds-as us ∙ all-marks a_rest h (sym (kinds-as ts) ∙ e)
members-like (first_like (statements_like h)) e = refl
members-like (first_like equal_field) e = e
members-like (later_like h) e = e

bears-all : (ts : Trees) → bears_among ts ≡ any_tree bears_rest ts
bears-all empty = refl
bears-all (t before ts) = ap (λ b. bears_rest t || b) (bears-all ts)

bears-one : (f : Field) → bears_by f ≡ any_child_by bears_rest f
bears-one missing = refl
bears-one (one t) = refl
bears-one (many ts) = bears-all ts
bears-one (statements ts) = bears-all ts

bears-like : {c : ℕ → List Ancestor} {fs gs : Fields} → LikeIn c fs gs → bears_first fs ≡ false → bears_first gs ≡ false
bears-like (first_like {f = f} {g = g} h) e = bears-one g ∙ by-marks a_pattern h (sym (bears-one f) ∙ e)
bears-like (later_like h) e = e

second-like : {c : ℕ → List Ancestor} {fs gs : Fields} → LikeIn c fs gs → bears_second fs ≡ false → bears_second gs ≡ false
second-like (first_like h) e = e
second-like (later_like h) e = bears-like h e

pattern-like : {c : ℕ → List Ancestor} (k : AstType) (l : Label) {fs gs : Fields} → LikeIn c fs gs → bears_rest (node k l fs) ≡ false → bears_rest (node k l gs) ≡ false
pattern-like ObjectPattern l {fs} {gs} h e = neither (has_member is_rest (field_at 0 fs)) (bears_first fs) (has_member is_rest (field_at 0 gs)) (bears_first gs) (members-like h) (bears-like h) e
pattern-like PatternProperty l h e = second-like h e
pattern-like AssignmentPattern l h e = bears-like h e
pattern-like ObjectTarget l h e = members-like h e
pattern-like _ l h e = refl

first-pattern : {c : ℕ → List Ancestor} (l : Label) {fs gs : Fields} → LikeIn c fs gs → is_rest_declarator (node VariableDeclarator l fs) ≡ false → is_rest_declarator (node VariableDeclarator l gs) ≡ false
first-pattern l (first_like (one_like h)) e = h.marks a_pattern e
first-pattern l (first_like (many_like h)) e = refl
first-pattern l (first_like (statements_like h)) e = refl
first-pattern l (first_like equal_field) e = e
first-pattern l (later_like {f = one p} h) e = e
first-pattern l (later_like {f = missing} h) e = refl
first-pattern l (later_like {f = many ts} h) e = refl
first-pattern l (later_like {f = statements ts} h) e = refl

declarator-like : {c : ℕ → List Ancestor} (k : AstType) (l : Label) {fs gs : Fields} → LikeIn c fs gs → is_rest_declarator (node k l fs) ≡ false → is_rest_declarator (node k l gs) ≡ false
declarator-like VariableDeclarator l h e = first-pattern l h e
declarator-like _ l h e = refl

first-declarators : {c : ℕ → List Ancestor} (l : Label) {fs gs : Fields} → LikeIn c fs gs → is_rest_declaration VariableDeclaration l fs ≡ false → is_rest_declaration VariableDeclaration l gs ≡ false
first-declarators l (first_like (one_like h)) e = refl
first-declarators l (first_like (many_like h)) e = all-marks a_declarator h e
first-declarators l (first_like (statements_like h)) e = refl
first-declarators l (first_like equal_field) e = e
first-declarators l (later_like {f = many ds} h) e = e
first-declarators l (later_like {f = missing} h) e = refl
first-declarators l (later_like {f = one t} h) e = refl
first-declarators l (later_like {f = statements ts} h) e = refl

declaration-like : {c : ℕ → List Ancestor} (k : AstType) (l : Label) {fs gs : Fields} → LikeIn c fs gs → is_rest_declaration k l fs ≡ false → is_rest_declaration k l gs ≡ false
declaration-like VariableDeclaration l h e = first-declarators l h e
declaration-like _ l h e = refl

stray-mark : {c : ℕ → List Ancestor} (k : AstType) (l : Label) {fs gs : Fields} → LikeIn c fs gs → is_misplaced (node k l fs) ≡ false → is_misplaced (node k l gs) ≡ false
stray-mark k l {fs} {gs} h e = neither (bears_rest (node k l fs)) (is_rest_declarator (node k l fs)) (bears_rest (node k l gs)) (is_rest_declarator (node k l gs)) (pattern-like k l h) (declarator-like k l h) e

-- a pattern that is assigned to is one afterwards, or is at its place
assigned-like : {c : ℕ → List Ancestor} (k : AstType) (l : Label) {fs gs : Fields} → LikeIn c fs gs → passes a_target (node k l fs) ≡ false → passes a_target (node k l gs) ≡ false
assigned-like ObjectTarget l {fs} {gs} h e = at (has_member is_rest (field_at 0 gs))
  where
    at : (b : Bool) → ((b || false) && not b) ≡ false
    at true = refl
    at false = refl
assigned-like k l {fs} {gs} h e = and-true (is_misplaced (node k l gs)) ∙ stray-mark k l h (sym (and-true (is_misplaced (node k l fs))) ∙ e)

node-marks : {c : ℕ → List Ancestor} (k : AstType) (l : Label) {fs gs : Fields} → LikeIn c fs gs → (m : Mark) → passes m (node k l fs) ≡ false → passes m (node k l gs) ≡ false
node-marks k l h a_pattern e = pattern-like k l h e
node-marks k l h a_declarator e = declarator-like k l h e
node-marks k l h a_declaration e = declaration-like k l h e
node-marks k l h a_rest e = e
node-marks k l h a_stray e = stray-mark k l h e
node-marks k l h a_target e = assigned-like k l h e
node-marks k l {fs} {gs} h an_export e = neither (is_misplaced (node k l fs)) (declares_rest (node k l fs)) (is_misplaced (node k l gs)) (declares_rest (node k l gs)) (stray-mark k l h) (declaration-like k l h) e

-- WHAT IS PLAIN

name-of : (k : AstType) (l : Label) (f : Field) (fs : Fields) → is_name (node k l (f then fs)) ≡ false
name-of Identifier l f fs = refl
name-of _ l f fs = refl

no-name : {c : ℕ → List Ancestor} (k : AstType) (l : Label) {fs gs : Fields} → LikeIn c fs gs → is_name (node k l fs) ≡ false
no-name k l (first_like {f = f} {fs = fs} h) = name-of k l f fs
no-name k l (later_like {f = f} {fs = fs} h) = name-of k l f fs

key-stays : (computed : Bool) (k u : Tree) → (computed ≡ false → is_known_key k ≡ true → is_known_key u ≡ true) → is_plain_key computed k ≡ true → is_plain_key computed u ≡ true
key-stays true k u f e = refl
key-stays false k u f e = f refl e

-- a template without expressions, whose one element gives a text
data IsText : Fields → Type 0 where
  of_element : (t : Tree) → is_text_element t ≡ true → IsText (many (t before empty) then (many empty then done))

is-text : (fs : Fields) → is_some (template_text fs) ≡ true → IsText fs
is-text (many (node TemplateElement l gs before empty) then (many empty then done)) e = of_element (node TemplateElement l gs) e
is-text (many (node TemplateElement l gs before empty) then (many empty then f then fs)) e = absurd (true≢false (sym e))
is-text (many (node TemplateElement l gs before empty) then (many (t before ts) then fs)) e = absurd (true≢false (sym e))
is-text (many (node TemplateElement l gs before empty) then (one t then fs)) e = absurd (true≢false (sym e))
is-text (many (node TemplateElement l gs before empty) then (statements ts then fs)) e = absurd (true≢false (sym e))
is-text (many (node TemplateElement l gs before empty) then (missing then fs)) e = absurd (true≢false (sym e))
is-text (many (node TemplateElement l gs before empty) then done) e = absurd (true≢false (sym e))
is-text (many (node TemplateElement l gs before t before ts) then fs) e = absurd (true≢false (sym e))
is-text (many (node _ l gs before ts) then fs) e = absurd (true≢false (sym e))
is-text (many empty then fs) e = absurd (true≢false (sym e))
is-text (one t then fs) e = absurd (true≢false (sym e))
is-text (statements ts then fs) e = absurd (true≢false (sym e))
is-text (missing then fs) e = absurd (true≢false (sym e))
is-text done e = absurd (true≢false (sym e))

text-is : (t : Tree) → is_text_element t ≡ true → is_some (template_text (many (t before empty) then (many empty then done))) ≡ true
text-is (node TemplateElement l fs) e = e
text-is (node _ l fs) e = absurd (true≢false (sym e))

sole-like : {up : List Ancestor} (t : Tree) {us : Trees} → is_slot up ≡ false → LikeAll up (t before empty) us → is_text_element t ≡ true → is_some (template_text (many us then (many empty then done))) ≡ true
sole-like t out (head_like {u = u} h) e = text-is u (h.element out e)
sole-like t out (tail_like equal_trees) e = text-is t e
sole-like t out (beside_like h) e = absurd (true≢false (sym e ∙ acting-element t h.source))
sole-like t out equal_trees e = text-is t e

sole-in : {c : ℕ → List Ancestor} (t : Tree) {gs : Fields} → is_slot (c zero) ≡ false → LikeIn c (many (t before empty) then (many empty then done)) gs → is_text_element t ≡ true → is_some (template_text gs) ≡ true
sole-in t out (first_like (many_like h)) e = sole-like t out h e
sole-in t out (first_like equal_field) e = text-is t e
sole-in t out (later_like (first_like (many_like equal_trees))) e = text-is t e
sole-in t out (later_like (first_like equal_field)) e = text-is t e
sole-in t out (later_like (later_like h)) e = elim h [ ]

text-like : {c : ℕ → List Ancestor} {fs gs : Fields} → is_slot (c zero) ≡ false → IsText fs → LikeIn c fs gs → is_some (template_text gs) ≡ true
text-like out (of_element t e) h = sole-in t out h e

so : (b : Bool) → not b ≡ false → b ≡ true
so true e = refl
so false e = absurd (true≢false e)

module _ (all : Fields) (up : List Ancestor) where
  -- what is around the field of this number
  abbrev places : AstType → Label → ℕ → List Ancestor
  places k l i = ancestor k l all i 0 ∷ up

  property-like : (l : Label) (fs gs : Fields) → LikeIn (places PatternProperty l) fs gs → is_plain_property (node PatternProperty l fs) ≡ true → is_plain_property (node PatternProperty l gs) ≡ true
  property-like l (one k then one v then done) gs (first_like (one_like {u = u} h)) e =
      let computed = has_computed PatternProperty l.flags in
      let p = and_parts (is_plain_key computed k) (is_plain_value v) e in
      and_from (is_plain_key computed u) (is_plain_value v) (key-stays computed k u (λ c. h.known (and_left computed (is_in_parameter up) c) refl) p.0) p.1
  property-like l (one k then one v then done) gs (first_like equal_field) e = e
  property-like l (one k then one v then done) gs (later_like (first_like (one_like {u = u} h))) e =
      let computed = has_computed PatternProperty l.flags in
      let p = and_parts (is_plain_key computed k) (is_plain_value v) e in
      and_from (is_plain_key computed k) (is_plain_value u) p.0 (h.value p.1)
  property-like l (one k then one v then done) gs (later_like (first_like equal_field)) e = e
  property-like l (one k then one v then done) gs (later_like (later_like h)) e = elim h [ ]
  property-like l (one k then one v then f then fs) gs h e = absurd (true≢false (sym e))
  property-like l (one k then missing then fs) gs h e = absurd (true≢false (sym e))
  property-like l (one k then many ts then fs) gs h e = absurd (true≢false (sym e))
  property-like l (one k then statements ts then fs) gs h e = absurd (true≢false (sym e))
  property-like l (one k then done) gs h e = absurd (true≢false (sym e))
  property-like l (missing then fs) gs h e = absurd (true≢false (sym e))
  property-like l (many ts then fs) gs h e = absurd (true≢false (sym e))
  property-like l (statements ts then fs) gs h e = absurd (true≢false (sym e))
  property-like l done gs h e = absurd (true≢false (sym e))

  named-like : (l : Label) (fs gs : Fields) → LikeIn (places RestElement l) fs gs → is_named_rest (node RestElement l fs) ≡ true → is_named_rest (node RestElement l gs) ≡ true
  named-like l (one t then done) gs (first_like (one_like h)) e = absurd (true≢false (sym e ∙ h.fixed refl))
  named-like l (one t then done) gs (first_like equal_field) e = e
  named-like l (one t then done) gs (later_like h) e = elim h [ ]
  named-like l (one t then f then fs) gs h e = absurd (true≢false (sym e))
  named-like l (missing then fs) gs h e = absurd (true≢false (sym e))
  named-like l (many ts then fs) gs h e = absurd (true≢false (sym e))
  named-like l (statements ts then fs) gs h e = absurd (true≢false (sym e))
  named-like l done gs h e = absurd (true≢false (sym e))

  parts-like : {c : ℕ → List Ancestor} (fs gs : Fields) → is_slot (c zero) ≡ false → LikeIn c fs gs → are_plain_parts fs ≡ true → are_plain_parts gs ≡ true
  parts-like (many ps then done) gs out (first_like (many_like h)) e = all-members out h e
  parts-like (many ps then done) gs out (first_like equal_field) e = e
  parts-like (many ps then done) gs out (later_like h) e = elim h [ ]
  parts-like (many ps then f then fs) gs out h e = absurd (true≢false (sym e))
  parts-like (missing then fs) gs out h e = absurd (true≢false (sym e))
  parts-like (one t then fs) gs out h e = absurd (true≢false (sym e))
  parts-like (statements ts then fs) gs out h e = absurd (true≢false (sym e))
  parts-like done gs out h e = absurd (true≢false (sym e))

  target-like : {c : ℕ → List Ancestor} (fs gs : Fields) → LikeIn c fs gs → is_plain_first fs ≡ true → is_plain_first gs ≡ true
  target-like (one p then one d then done) gs (first_like (one_like h)) e = h.target e
  target-like (one p then one d then done) gs (first_like equal_field) e = e
  target-like (one p then one d then done) gs (later_like (first_like (one_like h))) e = e
  target-like (one p then one d then done) gs (later_like (first_like equal_field)) e = e
  target-like (one p then one d then done) gs (later_like (later_like h)) e = elim h [ ]
  target-like (one p then one d then f then fs) gs h e = absurd (true≢false (sym e))
  target-like (one p then missing then fs) gs h e = absurd (true≢false (sym e))
  target-like (one p then many ts then fs) gs h e = absurd (true≢false (sym e))
  target-like (one p then statements ts then fs) gs h e = absurd (true≢false (sym e))
  target-like (one p then done) gs h e = absurd (true≢false (sym e))
  target-like (missing then fs) gs h e = absurd (true≢false (sym e))
  target-like (many ts then fs) gs h e = absurd (true≢false (sym e))
  target-like (statements ts then fs) gs h e = absurd (true≢false (sym e))
  target-like done gs h e = absurd (true≢false (sym e))

  none-more : (a b : Bool) → (a ≡ false → b ≡ false) → not a ≡ true → not b ≡ true
  none-more true b f e = absurd (true≢false (sym e))
  none-more false b f e = ap not (f refl)

  quiet-node : (k : AstType) (l : Label) (fs gs : Fields) → LikeIn (places k l) fs gs → not (bears_rest (node k l fs)) ≡ true → not (bears_rest (node k l gs)) ≡ true
  quiet-node k l fs gs h = none-more (bears_rest (node k l fs)) (bears_rest (node k l gs)) (pattern-like k l h)

  value-node : (k : AstType) (l : Label) (fs gs : Fields) → LikeIn (places k l) fs gs → is_plain_value (node k l fs) ≡ true → is_plain_value (node k l gs) ≡ true
  value-node ObjectPattern l fs gs h e = parts-like fs gs refl h e
  value-node AssignmentPattern l fs gs h e = target-like fs gs h e
  value-node PatternProperty l fs gs h e = quiet-node PatternProperty l fs gs h e
  value-node ObjectTarget l fs gs h e = quiet-node ObjectTarget l fs gs h e
  value-node _ l fs gs h e = refl

  target-node : (k : AstType) (l : Label) (fs gs : Fields) → LikeIn (places k l) fs gs → is_plain_target (node k l fs) ≡ true → is_plain_target (node k l gs) ≡ true
  target-node ObjectPattern l fs gs h e = parts-like fs gs refl h e
  target-node AssignmentPattern l fs gs h e = quiet-node AssignmentPattern l fs gs h e
  target-node PatternProperty l fs gs h e = quiet-node PatternProperty l fs gs h e
  target-node ObjectTarget l fs gs h e = quiet-node ObjectTarget l fs gs h e
  target-node _ l fs gs h e = refl

  -- a plain pattern that bears a rest still is one
  plain-node : (k : AstType) (l : Label) (fs gs : Fields) → LikeIn (places k l) fs gs → is_plain_pattern (node k l fs) ≡ true → bears_rest (node k l gs) ≡ true → is_plain_pattern (node k l gs) ≡ true
  plain-node ObjectPattern l fs gs h e b = and_from (bears_rest (node ObjectPattern l gs)) (are_plain_parts gs) b (parts-like fs gs refl h (and_parts (bears_rest (node ObjectPattern l fs)) (are_plain_parts fs) e).1)
  plain-node _ l fs gs h e b = absurd (true≢false (sym e))

  property-node : (k : AstType) (l : Label) (fs gs : Fields) → LikeIn (places k l) fs gs → is_plain_property (node k l fs) ≡ true → is_plain_property (node k l gs) ≡ true
  property-node PatternProperty l fs gs h e = property-like l fs gs h e
  property-node _ l fs gs h e = absurd (true≢false (sym e))

  named-node : (k : AstType) (l : Label) (fs gs : Fields) → LikeIn (places k l) fs gs → is_named_rest (node k l fs) ≡ true → is_named_rest (node k l gs) ≡ true
  named-node RestElement l fs gs h e = named-like l fs gs h e
  named-node _ l fs gs h e = absurd (true≢false (sym e))

  known-node : (k : AstType) (l : Label) {fs gs : Fields} → LikeIn (places k l) fs gs → is_known_key (node k l fs) ≡ true → is_known_key (node k l gs) ≡ true
  known-node TemplateLiteral l {fs} h e = text-like refl (is-text fs e) h
  known-node BigIntLiteral l h e = e
  known-node BooleanLiteral l h e = e
  known-node NullLiteral l h e = e
  known-node NumericLiteral l h e = e
  known-node StringLiteral l h e = e
  known-node Identifier l (first_like h) e = absurd (true≢false (sym e))
  known-node Identifier l (later_like h) e = absurd (true≢false (sym e))
  known-node _ l h e = absurd (true≢false (sym e))

  element-node : (k : AstType) (l : Label) (fs gs : Fields) → is_text_element (node k l fs) ≡ true → is_text_element (node k l gs) ≡ true
  element-node TemplateElement l fs gs e = e
  element-node _ l fs gs e = absurd (true≢false (sym e))

  odd-bools : (a p d x y z : Bool) → (a ≡ false → x ≡ false) → (p ≡ true → x ≡ true → y ≡ true) → (d ≡ false → z ≡ false) → ((a && not p) || d) ≡ false → ((x && not y) || z) ≡ false
  odd-bools false p d x y z f g h e = or_from (x && not y) z (and_left x (not y) (f refl)) (h e)
  odd-bools true p d true y z f g h e = let k = or_parts (not p) d e in or_from (not y) z (ap not (g (so p k.0) refl)) (h k.1)
  odd-bools true p d false y z f g h e = h (or_parts (not p) d e).1

  -- A NODE in whose fields something changed is alike, wherever it stands
  pub node-like : (k : AstType) (l : Label) (fs gs : Fields) → LikeIn (places k l) fs gs → Like up (node k l fs) (node k l gs)
  node-like k l fs gs h = record {
    alone = record {
      marks = node-marks k l h;
      odd = odd-bools (bears_rest (node k l fs)) (is_plain_pattern (node k l fs)) (is_rest_declarator (node k l fs)) (bears_rest (node k l gs)) (is_plain_pattern (node k l gs)) (is_rest_declarator (node k l gs)) (pattern-like k l h) (plain-node k l fs gs h) (declarator-like k l h);
      value = value-node k l fs gs h;
      target = target-node k l fs gs h;
      fixed = λ out. no-name k l h;
      known = λ out place. known-node k l h;
    };
    property = λ out. property-node k l fs gs h;
    named = λ out. named-node k l fs gs h;
    element = λ out. element-node k l fs gs;
  }

-- STRAYS: a node that held none holds none

module _ (all : Fields) (up : List Ancestor) where
  declarator-stray : (l : Label) {fs gs : Fields} → LikeIn (places all up VariableDeclarator l) fs gs → (any_child is_misplaced fs ≡ false → any_child is_misplaced gs ≡ false) → is_stray_rest VariableDeclarator l fs ≡ false → is_stray_rest VariableDeclarator l gs ≡ false
  declarator-stray l (first_like {fs = one v then done} (one_like {t = t} {u = u} h)) k e = neither (is_odd_pattern t) (is_misplaced v) (is_odd_pattern u) (is_misplaced v) h.odd (λ x. x) e
  declarator-stray l (first_like {fs = one v then f then fs} (one_like h)) k e = k e
  declarator-stray l (first_like {fs = missing then fs} (one_like h)) k e = k e
  declarator-stray l (first_like {fs = many ts then fs} (one_like h)) k e = k e
  declarator-stray l (first_like {fs = statements ts then fs} (one_like h)) k e = k e
  declarator-stray l (first_like {fs = done} (one_like h)) k e = k e
  declarator-stray l (first_like (many_like h)) k e = k e
  declarator-stray l (first_like (statements_like h)) k e = k e
  declarator-stray l (first_like equal_field) k e = e
  declarator-stray l (later_like {f = one p} (first_like {fs = done} (one_like {t = t} {u = u} h))) k e = neither (is_odd_pattern p) (is_misplaced t) (is_odd_pattern p) (is_misplaced u) (λ x. x) (h.marks a_stray) e
  declarator-stray l (later_like {f = one p} (first_like {fs = f then fs} (one_like h))) k e = k e
  declarator-stray l (later_like {f = one p} (first_like (many_like h))) k e = k e
  declarator-stray l (later_like {f = one p} (first_like (statements_like h))) k e = k e
  declarator-stray l (later_like {f = one p} (first_like equal_field)) k e = e
  declarator-stray l (later_like {f = one p} (later_like {f = one v} (first_like h))) k e = k e
  declarator-stray l (later_like {f = one p} (later_like {f = one v} (later_like h))) k e = k e
  declarator-stray l (later_like {f = one p} (later_like {f = missing} h)) k e = k e
  declarator-stray l (later_like {f = one p} (later_like {f = many ts} h)) k e = k e
  declarator-stray l (later_like {f = one p} (later_like {f = statements ts} h)) k e = k e
  declarator-stray l (later_like {f = missing} h) k e = k e
  declarator-stray l (later_like {f = many ts} h) k e = k e
  declarator-stray l (later_like {f = statements ts} h) k e = k e

  declaration-stray : {c : ℕ → List Ancestor} (l : Label) {fs gs : Fields} → LikeIn c fs gs → (any_child is_misplaced fs ≡ false → any_child is_misplaced gs ≡ false) → is_stray_rest VariableDeclaration l fs ≡ false → is_stray_rest VariableDeclaration l gs ≡ false
  declaration-stray l (first_like {fs = done} (many_like h)) k e = all-marks a_pattern h e
  declaration-stray l (first_like {fs = f then fs} (many_like h)) k e = k e
  declaration-stray l (first_like (one_like h)) k e = k e
  declaration-stray l (first_like (statements_like h)) k e = k e
  declaration-stray l (first_like equal_field) k e = e
  declaration-stray l (later_like {f = many ds} (first_like h)) k e = k e
  declaration-stray l (later_like {f = many ds} (later_like h)) k e = k e
  declaration-stray l (later_like {f = missing} h) k e = k e
  declaration-stray l (later_like {f = one t} h) k e = k e
  declaration-stray l (later_like {f = statements ts} h) k e = k e

  beside-stray : {c : ℕ → List Ancestor} {fs gs : Fields} → LikeIn c fs gs → any_beside fs ≡ false → any_beside gs ≡ false
  beside-stray (first_like {f = f} {g = g} {fs = fs} h) e = neither (any_child_by is_rest_declarator f) (any_child is_misplaced fs) (any_child_by is_rest_declarator g) (any_child is_misplaced fs) (by-marks a_declarator h) (λ x. x) e
  beside-stray (later_like {f = f} {fs = fs} {gs = gs} h) e = neither (any_child_by is_rest_declarator f) (any_child is_misplaced fs) (any_child_by is_rest_declarator f) (any_child is_misplaced gs) (λ x. x) (in-marks a_stray h) e

  property-stray : {c : ℕ → List Ancestor} (l : Label) {fs gs : Fields} → LikeIn c fs gs → is_stray_rest PatternProperty l fs ≡ false → is_stray_rest PatternProperty l gs ≡ false
  property-stray l (first_like {f = f} {g = g} {fs = fs} h) e = neither (any_child_by is_misplaced f) (any_beside fs) (any_child_by is_misplaced g) (any_beside fs) (by-marks a_stray h) (λ x. x) e
  property-stray l (later_like {f = f} {fs = fs} {gs = gs} h) e = neither (any_child_by is_misplaced f) (any_beside fs) (any_child_by is_misplaced f) (any_beside gs) (λ x. x) (beside-stray h) e

  -- what is assigned to is a pattern with a rest afterwards, too, or at its place
  assigned-stray : {up : List Ancestor} (op : Bool) {f g : Field} → LikeBy up f g → (any_child_by is_misplaced f && not (op && is_rest_target f)) ≡ false → (any_child_by is_misplaced g && not (op && is_rest_target g)) ≡ false
  assigned-stray true (one_like h) e = h.marks a_target e
  assigned-stray false (one_like {t = t} {u = u} h) e = and-true (is_misplaced u) ∙ h.marks a_stray (sym (and-true (is_misplaced t)) ∙ e)
  assigned-stray true (many_like {ts = ts} {us = us} h) e = and-true (any_tree is_misplaced us) ∙ all-marks a_stray h (sym (and-true (any_tree is_misplaced ts)) ∙ e)
  assigned-stray false (many_like {ts = ts} {us = us} h) e = and-true (any_tree is_misplaced us) ∙ all-marks a_stray h (sym (and-true (any_tree is_misplaced ts)) ∙ e)
  assigned-stray true (statements_like {ts = ts} {us = us} h) e = and-true (any_tree is_misplaced us) ∙ h a_stray (sym (and-true (any_tree is_misplaced ts)) ∙ e)
  assigned-stray false (statements_like {ts = ts} {us = us} h) e = and-true (any_tree is_misplaced us) ∙ h a_stray (sym (and-true (any_tree is_misplaced ts)) ∙ e)
  assigned-stray op equal_field e = e

  assignment-stray : {c : ℕ → List Ancestor} (l : Label) {fs gs : Fields} → LikeIn c fs gs → is_stray_rest AssignmentExpression l fs ≡ false → is_stray_rest AssignmentExpression l gs ≡ false
  assignment-stray l (first_like {f = f} {g = g} {fs = fs} h) e =
      let op = bytes_eq (first_text l.texts) (codes "=") in
      neither (any_child_by is_misplaced f && not (op && is_rest_target f)) (any_child is_misplaced fs) (any_child_by is_misplaced g && not (op && is_rest_target g)) (any_child is_misplaced fs) (assigned-stray op h) (λ x. x) e
  assignment-stray l (later_like {f = f} {fs = fs} {gs = gs} h) e =
      let here = any_child_by is_misplaced f && not (is_rest_assignment AssignmentExpression l (f then fs)) in
      neither here (any_child is_misplaced fs) here (any_child is_misplaced gs) (λ x. x) (in-marks a_stray h) e

  pub stray-like : (k : AstType) (l : Label) {fs gs : Fields} → LikeIn (places all up k l) fs gs → is_stray_rest k l fs ≡ false → is_stray_rest k l gs ≡ false
  stray-like VariableDeclarator l h e = declarator-stray l h (in-marks a_stray h) e
  stray-like VariableDeclaration l h e = declaration-stray l h (in-marks a_stray h) e
  stray-like ExportNamedDeclaration l h e = in-marks an_export h e
  stray-like ObjectPattern l h e = beside-stray h e
  stray-like PatternProperty l h e = property-stray l h e
  stray-like AssignmentPattern l h e = beside-stray h e
  stray-like AssignmentExpression l h e = assignment-stray l h e
  stray-like _ l h e = in-marks a_stray h e

-- what stands in a slot, or as the body of an arrow, is at its place

abbrev pub is_inside : List Ancestor → Bool
is_inside up = is_slot up || is_body_place up

-- in the field of this number
abbrev pub placed_at : ℕ → Fields → Bool
placed_at i fs = any_child_by is_misplaced (field_at i fs)

placed-each : (i : ℕ) (fs : Fields) → any_child is_misplaced fs ≡ false → placed_at i fs ≡ false
placed-each i done e = refl
placed-each zero (f then fs) e = (or_parts (any_child_by is_misplaced f) (any_child is_misplaced fs) e).0
placed-each (suc i) (f then fs) e = placed-each i fs (or_parts (any_child_by is_misplaced f) (any_child is_misplaced fs) e).1

not-first : (i : ℕ) → (suc i == 0) ≡ false
not-first i = ne_eqb (suc i) 0 (λ d. omega (arith, d))

module _ (all : Fields) (up : List Ancestor) where
  key-placed : (l : Label) (fs : Fields) (i : ℕ) → is_inside (places all up PatternProperty l i) ≡ true → is_stray_rest PatternProperty l fs ≡ false → placed_at i fs ≡ false
  key-placed l done i h e = refl
  key-placed l (k then fs) zero h e = (or_parts (any_child_by is_misplaced k) (any_beside fs) e).0
  key-placed l (k then fs) (suc i) h e = absurd (true≢false (sym h ∙ ap (λ b. ((b && has_computed PatternProperty l.flags) && is_in_parameter up) || false) (not-first i)))

  default-placed : (l : Label) (fs : Fields) (i : ℕ) → is_inside (places all up AssignmentPattern l i) ≡ true → is_stray_rest AssignmentPattern l fs ≡ false → placed_at i fs ≡ false
  default-placed l done i h e = refl
  default-placed l (f then fs) zero h e = absurd (true≢false (sym h))
  default-placed l (f then fs) (suc i) h e = placed-each i fs (or_parts (any_child_by is_rest_declarator f) (any_child is_misplaced fs) e).1

  pub inside-placed : (k : AstType) (l : Label) (fs : Fields) (i : ℕ) → is_inside (places all up k l i) ≡ true → is_stray_rest k l fs ≡ false → placed_at i fs ≡ false
  inside-placed VariableDeclarator l fs i h e = absurd (true≢false (sym h))
  inside-placed VariableDeclaration l fs i h e = absurd (true≢false (sym h))
  inside-placed ExportNamedDeclaration l fs i h e = absurd (true≢false (sym h))
  inside-placed ObjectPattern l fs i h e = absurd (true≢false (sym h))
  inside-placed PatternProperty l fs i h e = key-placed l fs i h e
  inside-placed AssignmentPattern l fs i h e = default-placed l fs i h e
  inside-placed AssignmentExpression l fs i h e = absurd (true≢false (sym h))
  inside-placed _ l fs i h e = placed-each i fs e
