-- A node that has the form that its place asks for, and so what stands in each of its fields.
use Rattle.std.proofs.Common.{◌≡◌, ◌∙◌, ◌==◌, ℕ, zero, suc, refl, sym, arith, List, [], ◌∷◌, true≢false}
use Rattle.std.specs.Prelude.{Bool, true, false, ◌&&◌, Option, Some, None}
use Rattle.std.proofs.lemmas.Bool.{and_parts, false_from_ne_true, ne_eqb}
use Rattle.es_tree.specs.Ancestors.{stands_in}
use Rattle.es_tree.specs.Attributes.{child_entries}
use Rattle.es_tree.specs.HasForm.{ElementsPlace, element_form, elements_form, elements_of, field_form, fields_form, has_form, match_option, same_type, sort_at, sort_before_fields, sort_before_trees, trees_form}
use Rattle.es_tree.specs.Table.{rest_sort}
use Rattle.es_tree.specs.Tree.{Tree, node, Label, Fields, done, ◌then◌, Field, missing, one, many, statements, Trees, empty, ◌before◌}
use Rattle.es_tree.specs.declared.ast_type.AstType.{AstType}
use Rattle.es_tree.specs.declared.ast_type.AstType.TheVariants.{ArrowFunctionExpression}
use Rattle.es_tree.specs.declared.table.Content.{Content}
use Rattle.es_tree.specs.declared.table.Content.TheVariants.{Child as c-Child}
use Rattle.es_tree.specs.declared.table.Entry.{Entry}
use Rattle.es_tree.specs.declared.table.Often.TheVariants.{Required, Optional, List as a-List, NonEmptyList, ListWithRest, Statements}
use Rattle.es_tree.specs.declared.table.Sort.{Sort}
use Rattle.es_tree.specs.declared.table.Sort.TheVariants.{ArrowFunctionBody as s-ArrowFunctionBody, Expression as s-Expression, Program as s-Program}
use Rattle.es_tree.proofs.NodeForm.{node_form}
use Rattle.es_changes.specs.Changes.{AsBody, Each, EachBy, EachIn}
use Rattle.es_changes.proofs.FieldParts.{body-reads}
use Rattle.es_semantic.specs.RolesOf.{reads}
use Rattle.es_steps.specs.Open.{finished_fields, is_body, is_statement_body, opened_fields}
use Rattle.es_steps.specs.Slots.{is_slot}
use Rattle.es_steps.specs.Steps.{Site, outline, site_in}
use Rattle.es_steps.proofs.FormPlaces.{arrow-sort, content_sort, elements-sort, slot-sort, sort_in}

-- a node at a place of this sort, where it has form
pub record FitsAt (n : Site) (t : Tree) : Type 0 where
  pub sort : Sort
  pub formed : has_form sort t ≡ true
  pub slot : is_slot n.above ≡ true → sort ≡ s-Expression
  pub arrow : stands_in ArrowFunctionExpression 1 n.above ≡ true → sort ≡ s-ArrowFunctionBody

-- the site of a field, which may hold the body of an arrow or not
pub record IsField (body : Bool) (n : Site) : Type 0 where
  pub place : stands_in ArrowFunctionExpression 1 n.above ≡ body
  pub role : body ≡ true → n.role ≡ reads

not-slot : s-Program ≡ s-Expression → ⊥
not-slot e = absurd (cc e)

not-arrow : s-Program ≡ s-ArrowFunctionBody → ⊥
not-arrow e = absurd (cc e)

-- NODES AND LISTS

as-body : (n : Site) (v : Bool) (t : Tree) → FitsAt n t → AsBody FitsAt n v t
as-body n true t h = h
as-body n false t h = record { sort = h.sort; formed = h.formed; slot = h.slot; arrow = h.arrow }

one-by : (body : Bool) (n : Site) (t : Tree) → FitsAt n t → EachBy FitsAt n body (one t)
one-by true n t h = as-body n (is_statement_body t) t h
one-by false n t h = h

many-by : (body : Bool) (n : Site) (ts : Trees) → Each FitsAt n ts → EachBy FitsAt n body (many ts)
many-by true n ts h = h
many-by false n ts h = h

statements-by : (body : Bool) (n : Site) (ts : Trees) → Each FitsAt n ts → EachBy FitsAt n body (statements ts)
statements-by true n ts h = h
statements-by false n ts h = h

missing-by : (body : Bool) (n : Site) → EachBy FitsAt n body missing
missing-by true n = tt
missing-by false n = tt

trees-fit : (n : Site) (s last : Sort) (ts : Trees) → (is_slot n.above ≡ true → ⊥) → (stands_in ArrowFunctionExpression 1 n.above ≡ true → ⊥) → trees_form s last ts ≡ true → Each FitsAt n ts
trees-fit n s last empty slot arrow formed = tt
trees-fit n s last (t before ts) slot arrow formed =
    let form = and_parts (has_form (sort_before_trees s last ts) t) (trees_form s last ts) formed in (
      record { sort = sort_before_trees s last ts; formed = form.0; slot = λ e. absurd (slot e); arrow = λ e. absurd (arrow e) },
      trees-fit n s last ts slot arrow form.1,
    )

-- FIELDS

module _ (k : AstType) (l : Label) where
  list-in : (body : Bool) (n : Site) (s last : Sort) (ts : Trees) → stands_in ArrowFunctionExpression 1 n.above ≡ body → (is_slot n.above ≡ true → s-Program ≡ s-Expression) → (body ≡ true → s-Program ≡ s-ArrowFunctionBody) → trees_form s last ts ≡ true → Each FitsAt n ts
  list-in body n s last ts there slot arrow formed = trees-fit n s last ts (λ e. not-slot (slot e)) (λ e. not-arrow (arrow (sym there ∙ e))) formed

  one-in : (body : Bool) (n : Site) (s : Sort) (t : Tree) → stands_in ArrowFunctionExpression 1 n.above ≡ body → (is_slot n.above ≡ true → sort_at k l s ≡ s-Expression) → (body ≡ true → sort_at k l s ≡ s-ArrowFunctionBody) → has_form (sort_at k l s) t ≡ true → EachBy FitsAt n body (one t)
  one-in body n s t there slot arrow formed = one-by body n t (record { sort = sort_at k l s; formed = formed; slot = slot; arrow = λ e. arrow (sym there ∙ e) })

  field-in : (body : Bool) (n : Site) (c : Content) (f : Field) → stands_in ArrowFunctionExpression 1 n.above ≡ body → (is_slot n.above ≡ true → content_sort k l c ≡ s-Expression) → (body ≡ true → content_sort k l c ≡ s-ArrowFunctionBody) → field_form k l c f ≡ true → EachBy FitsAt n body f
  field-in body n (c-Child s Required) (one t) there slot arrow formed = one-in body n s t there slot arrow formed
  field-in body n (c-Child s Optional) (one t) there slot arrow formed = one-in body n s t there slot arrow formed
  field-in body n (c-Child s Optional) missing there slot arrow formed = missing-by body n
  field-in body n (c-Child s a-List) (many ts) there slot arrow formed = many-by body n ts (list-in body n s s ts there slot arrow formed)
  field-in body n (c-Child s NonEmptyList) (many (t before ts)) there slot arrow formed = many-by body n (t before ts) (list-in body n s s (t before ts) there slot arrow formed)
  field-in body n (c-Child s ListWithRest) (many ts) there slot arrow formed = many-by body n ts (list-in body n s (rest_sort s) ts there slot arrow formed)
  field-in body n (c-Child s Statements) (statements ts) there slot arrow formed = statements-by body n ts (list-in body n s s ts there slot arrow formed)
  field-in body n c f there slot arrow formed = absurd (cc formed)

  fields-in : (es : List Entry) (c : ℕ → Site) (bodies : ℕ → Bool) → ((i : ℕ) → stands_in ArrowFunctionExpression 1 (c i).above ≡ bodies i) → ((i : ℕ) → is_slot (c i).above ≡ true → sort_in k l es i ≡ s-Expression) → ((i : ℕ) → bodies i ≡ true → sort_in k l es i ≡ s-ArrowFunctionBody) →
      (fs : Fields) → fields_form k l es fs ≡ true → EachIn FitsAt c bodies fs
  fields-in [] c bodies there slots arrows done formed = tt
  fields-in [] c bodies there slots arrows (f then fs) formed = absurd (cc formed)
  fields-in (e ∷ es) c bodies there slots arrows done formed = absurd (cc formed)
  fields-in (e ∷ es) c bodies there slots arrows (f then fs) formed =
      let form = and_parts (field_form k l e.content f) (fields_form k l es fs) formed in (
        field-in (bodies zero) (c zero) e.content f (there zero) (slots zero) (arrows zero) form.0,
        fields-in es (λ i. c (suc i)) (λ i. bodies (suc i)) (λ i. there (suc i)) (λ i. slots (suc i)) (λ i. arrows (suc i)) fs form.1,
      )

  -- the elements of an array
  element-in : (body : Bool) (n : Site) (s : Sort) (f : Field) → stands_in ArrowFunctionExpression 1 n.above ≡ body → (is_slot n.above ≡ true → ⊥) → body ≡ false → element_form s f ≡ true → EachBy FitsAt n body f
  element-in body n s missing there slot bare formed = missing-by body n
  element-in body n s (one t) there slot bare formed = one-by body n t (record { sort = s; formed = formed; slot = λ e. absurd (slot e); arrow = λ e. absurd (true≢false (sym e ∙ there ∙ bare)) })
  element-in body n s (many ts) there slot bare formed = absurd (cc formed)
  element-in body n s (statements ts) there slot bare formed = absurd (cc formed)

  elements-in : (s last : Sort) (c : ℕ → Site) (bodies : ℕ → Bool) → ((i : ℕ) → stands_in ArrowFunctionExpression 1 (c i).above ≡ bodies i) → ((i : ℕ) → is_slot (c i).above ≡ true → ⊥) → ((i : ℕ) → bodies i ≡ false) →
      (fs : Fields) → elements_form s last fs ≡ true → EachIn FitsAt c bodies fs
  elements-in s last c bodies there slots bare done formed = tt
  elements-in s last c bodies there slots bare (f then fs) formed =
      let form = and_parts (element_form (sort_before_fields s last fs) f) (elements_form s last fs) formed in (
        element-in (bodies zero) (c zero) (sort_before_fields s last fs) f (there zero) (slots zero) (bare zero) form.0,
        elements-in s last (λ i. c (suc i)) (λ i. bodies (suc i)) (λ i. there (suc i)) (λ i. slots (suc i)) (λ i. bare (suc i)) fs form.1,
      )

-- A NODE

later : (i : ℕ) → (suc (suc i) == 1) ≡ false
later i = ne_eqb (suc (suc i)) 1 (λ d. omega (arith, d))

arrow-field : (k : AstType) (i : ℕ) → (same_type k ArrowFunctionExpression && i == 1) ≡ is_body k i
arrow-field ArrowFunctionExpression zero = refl
arrow-field ArrowFunctionExpression (suc zero) = refl
arrow-field ArrowFunctionExpression (suc (suc i)) = later i
arrow-field _ i = refl

module _ (n : Site) (k : AstType) (l : Label) (fs : Fields) where
  abbrev pub sites : ℕ → Site
  sites = site_in n k l (opened_fields (is_body k) fs)

  pub are-fields : (i : ℕ) → IsField (is_body k i) (sites i)
  are-fields i = record { place = arrow-field k i; role = λ e. body-reads n.role k l (finished_fields (opened_fields (is_body k) fs)) i e }

  in-children : (o : Option ElementsPlace) → elements_of (child_entries k) ≡ o → match_option o (fields_form k l (child_entries k) fs) (λ e. elements_form e.sort e.last fs) ≡ true → EachIn FitsAt sites (is_body k) fs
  in-children None e formed = fields-in k l (child_entries k) sites (is_body k) (arrow-field k) (slot-sort n.above k l (outline (opened_fields (is_body k) fs))) (arrow-sort k l) fs formed
  in-children (Some place) e formed =
      let bare : (i : ℕ) → is_body k i ≡ false = λ i. false_from_ne_true (is_body k i) (λ d. not-arrow (sym (elements-sort k l (child_entries k) place i e) ∙ arrow-sort k l i d)) in
      let slots : (i : ℕ) → is_slot (sites i).above ≡ true → ⊥ = λ i d. not-slot (sym (elements-sort k l (child_entries k) place i e) ∙ slot-sort n.above k l (outline (opened_fields (is_body k) fs)) i d) in
      elements-in k l place.sort place.last sites (is_body k) (arrow-field k) slots bare fs formed

  pub inward : (s : Sort) → has_form s (node k l fs) ≡ true → EachIn FitsAt sites (is_body k) fs
  inward s formed = in-children (elements_of (child_entries k)) refl (node_form s k l fs formed).children

-- WHAT A FIELD with a list asks of the nodes in it

pub each-of : (n : Site) (v : Bool) (ts : Trees) → EachBy FitsAt n v (many ts) → Each FitsAt n ts
each-of n true ts h = h
each-of n false ts h = h

pub each-in : (n : Site) (v : Bool) (ts : Trees) → EachBy FitsAt n v (statements ts) → Each FitsAt n ts
each-in n true ts h = h
each-in n false ts h = h
