-- What the names, the form and the role of a node give for what stands in one of its fields.
use Rattle.std.proofs.Common.{◌≡◌, ◌<◌, ℕ, zero, suc, refl, sym, ◌∙◌, arith, length, List, [], ◌∷◌, get_or, set}
use Rattle.std.specs.Prelude.{Bool, true, Option, Some, None}
use Rattle.std.proofs.lemmas.Bool.{and_parts}
use Rattle.es_tree.specs.Attributes.{child_entries}
use Rattle.es_tree.specs.HasForm.{ElementsPlace, element_form, elements_form, elements_of, field_form, fields_form, has_form, match_option, sort_before_fields}
use Rattle.es_tree.specs.Tree.{node, Label, Fields, Field, fields}
use Rattle.es_tree.specs.Words.{Text}
use Rattle.es_tree.specs.declared.ast_type.AstType.{AstType}
use Rattle.es_tree.specs.declared.ast_type.AstType.TheVariants.{ArrowFunctionExpression}
use Rattle.es_tree.specs.declared.table.Entry.{Entry}
use Rattle.es_tree.specs.declared.table.Sort.{Sort}
use Rattle.es_tree.specs.declared.table.Sort.TheVariants.{ArrowFunctionBody as s-ArrowFunctionBody, Expression as s-Expression, Program as s-Program}
use Rattle.es_tree.proofs.NodeForm.{node_form}
use Rattle.es_resolution.specs.Named.{NamedBy, NamedIn}
use Rattle.es_semantic.specs.RolesOf.{reads, role_at}
use Rattle.es_semantic.specs.declared.place.Role.{Role}
use Rattle.es_steps.specs.Identifiers.{PassesBy, PassesIn}
use Rattle.es_steps.specs.Open.{OpenFields, is_body, opened_field, opened_fields, ◌and◌}
use Rattle.es_steps.specs.Slots.{is_slot}
use Rattle.es_steps.specs.Steps.{FieldStep, FieldsStep, Ledger, Site, Spot, Steps, outline, site_in}
use Rattle.es_steps.specs.Steps.FieldsStep.{in_first, in_later}
use Rattle.es_steps.proofs.FormOpen.{Holds, element-holds, entry-holds}
use Rattle.es_steps.proofs.FormPlaces.{all-take, arrow-sort, content_takes, elements-sort, entries_take, slot-sort, sort_in}
use Rattle.es_changes.proofs.StepRows.{steps-map}

-- NAMES

pub named-at : (u : Text → Bool) (free : ℕ) (roles : ℕ → Role) (xs : List Field) (i : ℕ) (d : Field) → i < length xs → NamedIn u free roles (fields xs) → NamedBy u free (roles i) (get_or xs i d)
named-at u free roles [] i d l h = absurd (omega (arith, l))
named-at u free roles (x ∷ xs) zero d l h = h.0
named-at u free roles (x ∷ xs) (suc i) d l h = named-at u free (λ j. roles (suc j)) xs i d (omega (arith, l)) h.1

pub passes-at : (q : Text → Option ℕ → Bool) (xs : List Field) (i : ℕ) (d : Field) → i < length xs → PassesIn q (fields xs) → PassesBy q (get_or xs i d)
passes-at q [] i d l h = absurd (omega (arith, l))
passes-at q (x ∷ xs) zero d l h = h.0
passes-at q (x ∷ xs) (suc i) d l h = passes-at q xs i d (omega (arith, l)) h.1

-- THE ROLE of the body of an arrow

pub body-reads : (r : Role) (k : AstType) (l : Label) (fs : Fields) (i : ℕ) → is_body k i ≡ true → role_at r k l fs i ≡ reads
body-reads r ArrowFunctionExpression l fs zero e = absurd (cc e)
body-reads r ArrowFunctionExpression l fs (suc zero) e = refl
body-reads r ArrowFunctionExpression l fs (suc (suc i)) e = absurd (cc e)
body-reads r k l fs i e = absurd (cc e)

-- FORM

pub record FieldForm (n : Site) (b : Bool) (f : Field) : Type 0 where
  pub test : Field → Bool
  pub holds : Holds test n b
  pub formed : test f ≡ true

entries-at : (k : AstType) (l : Label) (es : List Entry) (c : ℕ → Site) (bodies : ℕ → Bool) → ((i : ℕ) → is_slot (c i).above ≡ true → sort_in k l es i ≡ s-Expression) → ((i : ℕ) → bodies i ≡ true → sort_in k l es i ≡ s-ArrowFunctionBody) → entries_take es ≡ true →
    (xs : List Field) (i : ℕ) (d : Field) → i < length xs → fields_form k l es (fields xs) ≡ true → FieldForm (c i) (bodies i) (get_or xs i d)
entries-at k l es c bodies slots arrows takes [] i d lt h = absurd (omega (arith, lt))
entries-at k l [] c bodies slots arrows takes (x ∷ xs) i d lt h = absurd (cc h)
entries-at k l (e ∷ es) c bodies slots arrows takes (x ∷ xs) zero d lt h =
    let took = and_parts (content_takes e.content) (entries_take es) takes in
    record { test = field_form k l e.content; holds = entry-holds k l (c zero) (bodies zero) e.content (slots zero) (arrows zero) took.0; formed = (and_parts (field_form k l e.content x) (fields_form k l es (fields xs)) h).0 }
entries-at k l (e ∷ es) c bodies slots arrows takes (x ∷ xs) (suc i) d lt h =
    let took = and_parts (content_takes e.content) (entries_take es) takes in
    entries-at k l es (λ j. c (suc j)) (λ j. bodies (suc j)) (λ j. slots (suc j)) (λ j. arrows (suc j)) took.1 xs i d (omega (arith, lt)) (and_parts (field_form k l e.content x) (fields_form k l es (fields xs)) h).1

elements-at : (a last : Sort) (c : ℕ → Site) (bodies : ℕ → Bool) → ((i : ℕ) → is_slot (c i).above ≡ true → ⊥) → ((i : ℕ) → bodies i ≡ true → ⊥) → (xs : List Field) (i : ℕ) (d : Field) → i < length xs → elements_form a last (fields xs) ≡ true → FieldForm (c i) (bodies i) (get_or xs i d)
elements-at a last c bodies slots arrows [] i d lt h = absurd (omega (arith, lt))
elements-at a last c bodies slots arrows (x ∷ xs) zero d lt h =
    let b = sort_before_fields a last (fields xs) in
    record { test = element_form b; holds = element-holds b (c zero) (bodies zero) (slots zero) (arrows zero); formed = (and_parts (element_form b x) (elements_form a last (fields xs)) h).0 }
elements-at a last c bodies slots arrows (x ∷ xs) (suc i) d lt h =
    elements-at a last (λ j. c (suc j)) (λ j. bodies (suc j)) (λ j. slots (suc j)) (λ j. arrows (suc j)) xs i d (omega (arith, lt)) (and_parts (element_form (sort_before_fields a last (fields xs)) x) (elements_form a last (fields xs)) h).1

module _ (n : Site) (k : AstType) (l : Label) (fs : OpenFields) (xs : List Field) (i : ℕ) (d : Field) where
  no-slot : s-Program ≡ s-Expression → ⊥
  no-slot e = absurd (cc e)

  no-arrow : s-Program ≡ s-ArrowFunctionBody → ⊥
  no-arrow e = absurd (cc e)

  children-at : (o : Option ElementsPlace) → elements_of (child_entries k) ≡ o → i < length xs → match_option o (fields_form k l (child_entries k) (fields xs)) (λ p. elements_form p.sort p.last (fields xs)) ≡ true → FieldForm (site_in n k l fs i) (is_body k i) (get_or xs i d)
  children-at None e lt h = entries-at k l (child_entries k) (site_in n k l fs) (is_body k) (slot-sort n.above k l (outline fs)) (arrow-sort k l) (all-take k) xs i d lt h
  children-at (Some p) e lt h =
      let slots : (j : ℕ) → is_slot (site_in n k l fs j).above ≡ true → ⊥ = λ j g. no-slot (sym (elements-sort k l (child_entries k) p j e) ∙ slot-sort n.above k l (outline fs) j g) in
      let arrows : (j : ℕ) → is_body k j ≡ true → ⊥ = λ j g. no-arrow (sym (elements-sort k l (child_entries k) p j e) ∙ arrow-sort k l j g) in
      elements-at p.sort p.last (site_in n k l fs) (is_body k) slots arrows xs i d lt h

  -- what a field holds has the form that its place asks for
  pub form-at : (a : Sort) → i < length xs → has_form a (node k l (fields xs)) ≡ true → FieldForm (site_in n k l fs i) (is_body k i) (get_or xs i d)
  form-at a lt h = children-at (elements_of (child_entries k)) refl lt (node_form a k l (fields xs) h).children

-- STEPS in one field as steps of the fields

pub fields-row : (R : Site → Ledger → Spot → Ledger → Spot → Type 0) {s s' : Ledger} (xs : List Field) (i : ℕ) (d y : Field) (bodies : ℕ → Bool) (c : ℕ → Site) → i < length xs → Steps (FieldStep R (c i)) s (opened_field (bodies i) (get_or xs i d)) s' (opened_field (bodies i) y) →
    Steps (FieldsStep R c) s (opened_fields bodies (fields xs)) s' (opened_fields bodies (fields (set xs i y)))
fields-row R [] i d y bodies c l h = absurd (omega (arith, l))
fields-row R (x ∷ xs) zero d y bodies c l h = steps-map (λ f. f and opened_fields (λ j. bodies (suc j)) (fields xs)) (λ s s' f g r. in_first r) h
fields-row R (x ∷ xs) (suc i) d y bodies c l h = steps-map (λ fs. opened_field (bodies zero) x and fs) (λ s s' f g r. in_later r) (fields-row R xs i d y (λ j. bodies (suc j)) (λ j. c (suc j)) (omega (arith, l)) h)
