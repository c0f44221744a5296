-- Which literals are lowered: as the code sees their fields, the same of what is seen of them, and each that has form.
use Rattle.std.proofs.Common.{◌≡◌, ◌<◌, ◌∙◌, ℕ, List, [], ◌∷◌, length, refl, sym, ap, arith, Option, append-nil}
use Rattle.std.proofs.lemmas.Bool.{and_from, and_parts}
use Rattle.std.specs.Prelude.{Bool, true, false, ◌&&◌, ◌||◌, not}
use Rattle.es_tree.proofs.NodeForm.{has_form-node, node_form}
use Rattle.es_tree.specs.Attributes.{child_entries}
use Rattle.es_tree.specs.Constructs.{any_kind, field_at, has_member, is_object_spread, is_spread}
use Rattle.es_tree.specs.HasForm.{fields_form, has_form, sort_before_trees, trees_form}
use Rattle.es_tree.specs.Tree.{Tree, node, Label, Fields, done, ◌then◌, Field, missing, one, many, statements, Trees, empty, ◌before◌, kind_of}
use Rattle.es_tree.specs.Views.{plain_field, plain_fields}
use Rattle.es_tree.specs.Words.{Text}
use Rattle.es_tree.specs.declared.ast_type.AstType.TheVariants.{ObjectExpression, SpreadElement}
use Rattle.es_tree.specs.declared.node.Field.{Field as NodeField}
use Rattle.es_tree.specs.declared.table.Sort.{Sort}
use Rattle.es_tree.specs.declared.table.Sort.TheVariants.{Expression as s-Expression, ObjectMember as s-ObjectMember}
use Rattle.es_semantic.specs.RolesOf.{reads}
use Rattle.es_resolution.specs.Declarations.{declared, declared_among}
use Rattle.es_resolution.specs.Seen.{seen, seen_among, seen_by, seen_in}
use Rattle.es_changes.proofs.Expressions.{law_expression_proof}
use Rattle.es_traverse.specs.Laws.{is_construct}
use Rattle.lower_temporaries.proofs.SeenLaws.{any_kind-seen}
use Rattle.lower_object_spread.specs.Literals.{any_lacks_argument, has_argument, has_properties, is_lowerable_literal, lacks_argument}

-- AS THE CODE SEES THEM

another_argument : (f g : Field) (fs : Fields) → has_argument (f then (g then fs)) ≡ false
another_argument missing g fs = refl
another_argument (one t) g fs = refl
another_argument (many ts) g fs = refl
another_argument (statements ts) g fs = refl

pub more-arguments : (fs : List NodeField) → 1 < length fs → has_argument (plain_fields fs) ≡ false
more-arguments [] h = absurd (omega (arith, h))
more-arguments (f ∷ []) h = absurd (omega (arith, h))
more-arguments (f ∷ g ∷ fs) h = another_argument (plain_field f) (plain_field g) (plain_fields fs)

another_list : (f g : Field) (fs : Fields) → has_properties (f then (g then fs)) ≡ false
another_list missing g fs = refl
another_list (one t) g fs = refl
another_list (many ts) g fs = refl
another_list (statements ts) g fs = refl

pub more-lists : (fs : List NodeField) → 1 < length fs → has_properties (plain_fields fs) ≡ false
more-lists [] h = absurd (omega (arith, h))
more-lists (f ∷ []) h = absurd (omega (arith, h))
more-lists (f ∷ g ∷ fs) h = another_list (plain_field f) (plain_field g) (plain_fields fs)

-- AS THEY ARE SEEN

module _ (names : ℕ → Text → Option ℕ) where
  argument-seen : (fs : Fields) → has_argument (seen_in names fs) ≡ has_argument fs
  argument-seen done = refl
  argument-seen (one t then done) = refl
  argument-seen (f then (g then fs)) = another_argument (seen_by names f) (seen_by names g) (seen_in names fs) ∙ sym (another_argument f g fs)
  argument-seen (missing then done) = refl
  argument-seen (many ts then done) = refl
  argument-seen (statements ts then done) = refl

  lacks-seen : (t : Tree) → lacks_argument (seen names t) ≡ lacks_argument t
  lacks-seen (node k l fs) = ap (λ b. is_spread k && not b) (argument-seen fs)

  any-lacks-seen : (ts : Trees) → any_lacks_argument (seen_among names ts) ≡ any_lacks_argument ts
  any-lacks-seen empty = refl
  any-lacks-seen (t before ts) = λ i. lacks-seen t i || any-lacks-seen ts i

  pub spread-seen : (t : Tree) → is_spread (kind_of (seen names t)) ≡ is_spread (kind_of t)
  spread-seen (node k l fs) = refl

  properties-seen : (fs : Fields) → (has_member is_spread (field_at 0 (seen_in names fs)) && has_properties (seen_in names fs)) ≡ (has_member is_spread (field_at 0 fs) && has_properties fs)
  properties-seen done = refl
  properties-seen (many ts then done) = λ i. any_kind-seen names is_spread ts i && not (any-lacks-seen ts i)
  properties-seen (many ts then (g then fs)) = ap (λ b. b && false) (any_kind-seen names is_spread ts)
  properties-seen (missing then fs) = refl
  properties-seen (one t then fs) = refl
  properties-seen (statements ts then fs) = refl

  pub lowerable-seen : (t : Tree) → is_construct is_lowerable_literal (seen names t) ≡ is_construct is_lowerable_literal t
  lowerable-seen (node ObjectExpression l fs) = properties-seen fs
  lowerable-seen (node _ l fs) = refl

-- BY FORM

-- a spread has what it copies
has-argument : (l : Label) (fs : Fields) → fields_form SpreadElement l (child_entries SpreadElement) fs ≡ true → has_argument fs ≡ true
has-argument l (one t then done) h = refl
has-argument l done h = absurd (cc h)
has-argument l (missing then fs) h = absurd (cc h)
has-argument l (many ts then fs) h = absurd (cc h)
has-argument l (statements ts then fs) h = absurd (cc h)
has-argument l (one t then (g then fs)) h = absurd (cc (and_parts _ false h).1)

none-lacks : (s : Sort) (t : Tree) → has_form s t ≡ true → lacks_argument t ≡ false
none-lacks s (node SpreadElement l fs) h = ap not (has-argument l fs (node_form s SpreadElement l fs h).children)
none-lacks s (node _ l fs) h = refl

none-lacks-among : (s last : Sort) (ts : Trees) → trees_form s last ts ≡ true → any_lacks_argument ts ≡ false
none-lacks-among s last empty h = refl
none-lacks-among s last (t before ts) h =
    let both = and_parts (has_form (sort_before_trees s last ts) t) (trees_form s last ts) h in
    λ i. none-lacks (sort_before_trees s last ts) t both.0 i || none-lacks-among s last ts both.1 i

literal-properties : (l : Label) (fs : Fields) → fields_form ObjectExpression l (child_entries ObjectExpression) fs ≡ true → has_properties fs ≡ true
literal-properties l (many ts then done) h = ap not (none-lacks-among s-ObjectMember s-ObjectMember ts (and_parts (trees_form s-ObjectMember s-ObjectMember ts) true h).0)
literal-properties l done h = absurd (cc h)
literal-properties l (missing then fs) h = absurd (cc h)
literal-properties l (one t then fs) h = absurd (cc h)
literal-properties l (statements ts then fs) h = absurd (cc h)
literal-properties l (many ts then (g then fs)) h = absurd (cc (and_parts (trees_form s-ObjectMember s-ObjectMember ts) false h).1)

-- each literal with a spread that has form is lowered
pub formed-literal : (s : Sort) (t : Tree) → has_form s t ≡ true → is_construct is_object_spread t ≡ true → is_construct is_lowerable_literal t ≡ true
formed-literal s (node ObjectExpression l fs) h e = and_from (is_object_spread ObjectExpression l fs) (has_properties fs) e (literal-properties l fs (node_form s ObjectExpression l fs h).children)
formed-literal s (node _ l fs) h e = absurd (cc e)

-- its properties declare nothing around it
pub properties-declare : (s : Sort) (l : Label) (ps : Trees) → has_form s (node ObjectExpression l (many ps then done)) ≡ true → (v : Bool) → declared_among v reads ps ≡ []
properties-declare s l ps h v =
    let f = node_form s ObjectExpression l (many ps then done) h in
    let formed = has_form-node s-Expression ObjectExpression l (many ps then done) (record { sort = refl; texts = f.texts; flags = f.flags; start = f.start; stop = f.stop; agree = f.agree; children = f.children }) in
    at v ((law_expression_proof (node ObjectExpression l (many ps then done)) formed).declares_nothing v)
  where
    at : (v : Bool) → declared v reads (node ObjectExpression l (many ps then done)) ≡ [] → declared_among v reads ps ≡ []
    at true e = sym (append-nil (declared_among true reads ps)) ∙ e
    at false e = sym (append-nil (declared_among false reads ps)) ∙ e
