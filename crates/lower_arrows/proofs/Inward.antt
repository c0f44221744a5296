-- What fits at a site fits in each field of it.
use Rattle.std.proofs.Common.{◌≡◌, ◌∙◌, ◌==◌, ℕ, zero, suc, refl, sym, ap, subst, List, [], ◌∷◌, arith, true≢false, inl, inr}
use Rattle.std.specs.Prelude.{◌⊎◌, Bool, true, false, not, ◌&&◌, ◌||◌, Option, Some, None, if◌then◌else◌}
use Rattle.std.proofs.lemmas.Bool.{and_parts, ne_eqb}
use Rattle.es_tree.specs.Ancestors.{Ancestor, ancestor, is_function, stands_in}
use Rattle.es_tree.specs.Attributes.{child_entries}
use Rattle.es_tree.specs.HasForm.{ElementsPlace, element_form, elements_form, elements_of, field_form, fields_form, has_form, is_computed, is_in, is_of_sort, match_option, same_type, sort_at, sort_before_fields, sort_before_trees, trees_form}
use Rattle.es_tree.specs.Table.{rest_sort}
use Rattle.es_tree.specs.Tree.{Tree, node, Label, Fields, done, ◌then◌, Field, missing, one, many, statements, Trees, empty, ◌before◌}
use Rattle.es_tree.specs.declared.ast_type.AstType.{AstType}
use Rattle.es_tree.specs.declared.ast_type.AstType.TheVariants.{ArrowFunctionExpression, FunctionBody, Program}
use Rattle.es_tree.specs.declared.table.Content.{Content}
use Rattle.es_tree.specs.declared.table.Content.TheVariants.{Child as c-Child}
use Rattle.es_tree.specs.declared.table.Entry.{Entry}
use Rattle.es_tree.specs.declared.table.Often.TheVariants.{Required, Optional, List as a-List, NonEmptyList, ListWithRest, Statements}
use Rattle.es_tree.specs.declared.table.Sort.{Sort}
use Rattle.es_tree.specs.declared.table.Sort.TheVariants.{ArrowFunctionBody as s-ArrowFunctionBody, BinaryLeft as s-BinaryLeft, Expression as s-Expression, FunctionBody as s-FunctionBody, MemberProperty as s-MemberProperty, Program as s-Program, Pattern as s-Pattern, PatternMember as s-PatternMember, PropertyKey as s-PropertyKey, TargetElement as s-TargetElement, TargetMember as s-TargetMember}
use Rattle.es_tree.proofs.NodeForm.{node_form}
use Rattle.es_semantic.specs.RolesOf.{role_at}
use Rattle.es_semantic.specs.declared.place.Role.{Role}
use Rattle.es_arrow_steps.specs.ThisFits.{belongs_in, reaches_in, this_fits, this_fits_all, this_fits_by, this_fits_in}
use Rattle.es_changes.specs.Changes.{AsBody, Each, EachBy, EachIn}
use Rattle.es_changes.proofs.FieldParts.{body-reads}
use Rattle.es_semantic.specs.RolesOf.{reads}
use Rattle.es_steps.specs.Open.{finished_fields, is_body, is_statement_body, nothing_pending, opened_fields}
use Rattle.es_steps.specs.Slots.{is_slot}
use Rattle.es_steps.specs.Steps.{Site, outline, site_in, site_in_body}
use Rattle.es_steps.specs.ThisPlaces.{belongs_to_arrow, reaches_target}
use Rattle.es_steps.proofs.FormPlaces.{arrow-sort, content_sort, elements-sort, slot-sort, sort_in}
use Rattle.es_steps.proofs.Opened.{finished-fields}
use Rattle.lower_arrows.specs.Walks.{AreInside, Around, IsWalkable, StandsBy, belongs_at}

-- SORTS of what stands in the fields of a node

abbrev is_function_body : Sort → Bool
is_function_body s-FunctionBody = true
is_function_body _ = false

abbrev is_arrow_body : Sort → Bool
is_arrow_body s-ArrowFunctionBody = true
is_arrow_body _ = false

abbrev is_program : Sort → Bool
is_program s-Program = true
is_program _ = false

-- each sort of bodies in the field of its own nodes alone
abbrev fits_entry : Bool → Bool → Content → Bool
fits_entry function body (c-Child s often) = (not (is_function_body s) || function) && ((not (is_arrow_body s) || body) && not (is_program s))
fits_entry function body _ = true

abbrev fit_entries : Bool → (ℕ → Bool) → List Entry → Bool
fit_entries function bodies [] = true
fit_entries function bodies (e ∷ es) = fits_entry function (bodies zero) e.content && fit_entries function (λ i. bodies (suc i)) es

all-fit : (k : AstType) → fit_entries (is_function k) (is_body k) (child_entries k) ≡ true
all-fit Program = refl
all-fit _ = refl

-- and none in arrays
abbrev fits_place : Option ElementsPlace → Bool
fits_place None = true
fits_place (Some p) = not (is_function_body p.sort || (is_arrow_body p.sort || is_program p.sort)) && not (is_function_body p.last || (is_arrow_body p.last || is_program p.last))

all-placed : (k : AstType) → fits_place (elements_of (child_entries k)) ≡ true
all-placed Program = refl
all-placed _ = refl

if-neither : (test : Sort → Bool) (b : Bool) (x y : Sort) → test x ≡ false → test y ≡ false → test (if b then x else y) ≡ false
if-neither test true x y e d = e
if-neither test false x y e d = d

-- tests that computed keys and the left of `in` don't change
record IsCoarse (test : Sort → Bool) : Type 0 where
  expression : test s-Expression ≡ false
  key : test s-PropertyKey ≡ false
  property : test s-MemberProperty ≡ false
  left : test s-BinaryLeft ≡ false
  pattern : test (rest_sort s-Pattern) ≡ test s-Pattern
  member : test (rest_sort s-PatternMember) ≡ test s-PatternMember
  element : test (rest_sort s-TargetElement) ≡ test s-TargetElement
  target : test (rest_sort s-TargetMember) ≡ test s-TargetMember

at-place : (test : Sort → Bool) → IsCoarse test → (k : AstType) (l : Label) (s : Sort) → test (sort_at k l s) ≡ test s
at-place test h k l s-PropertyKey = if-neither test (is_computed k l) s-Expression s-PropertyKey h.expression h.key ∙ sym h.key
at-place test h k l s-MemberProperty = if-neither test (is_computed k l) s-Expression s-MemberProperty h.expression h.property ∙ sym h.property
at-place test h k l s-BinaryLeft = if-neither test (is_in k l) s-BinaryLeft s-Expression h.left h.expression ∙ sym h.left
at-place test h k l _ = refl

at-rest : (test : Sort → Bool) → IsCoarse test → (s : Sort) → test (rest_sort s) ≡ test s
at-rest test h s-Pattern = h.pattern
at-rest test h s-PatternMember = h.member
at-rest test h s-TargetElement = h.element
at-rest test h s-TargetMember = h.target
at-rest test h _ = refl

coarse-function : IsCoarse is_function_body
coarse-function = record { expression = refl; key = refl; property = refl; left = refl; pattern = refl; member = refl; element = refl; target = refl }

coarse-arrow : IsCoarse is_arrow_body
coarse-arrow = record { expression = refl; key = refl; property = refl; left = refl; pattern = refl; member = refl; element = refl; target = refl }

coarse-program : IsCoarse is_program
coarse-program = record { expression = refl; key = refl; property = refl; left = refl; pattern = refl; member = refl; element = refl; target = refl }

-- THE PLACE of what stands by a sort

-- what is known of the site of a field
record FieldSite (function body : Bool) (n : Site) : Type 0 where
  in_function : function ≡ true → belongs_to_arrow n.above ≡ false
  in_arrow : stands_in ArrowFunctionExpression 1 n.above ≡ body
  is_read : body ≡ true → n.role ≡ reads

then-true : (a b : Bool) → (not a || b) ≡ true → a ≡ true → b ≡ true
then-true true b e d = e
then-true false b e d = absurd (cc d)

both-false : (b : Bool) → not b ≡ true → b ≡ true → ⊥
both-false true e d = absurd (cc e)
both-false false e d = absurd (cc d)

record Tested (function body : Bool) (s : Sort) : Type 0 where
  in_function : is_function_body s ≡ true → function ≡ true
  in_arrow : is_arrow_body s ≡ true → body ≡ true
  no_program : is_program s ≡ true → ⊥

tested-entry : (function body : Bool) (s : Sort) → ((not (is_function_body s) || function) && ((not (is_arrow_body s) || body) && not (is_program s))) ≡ true → Tested function body s
tested-entry function body s h =
    let one = and_parts (not (is_function_body s) || function) _ h in
    let two = and_parts (not (is_arrow_body s) || body) (not (is_program s)) one.1 in
    record { in_function = then-true (is_function_body s) function one.0; in_arrow = then-true (is_arrow_body s) body two.0; no_program = both-false (is_program s) two.1 }

neither-true : (a b c : Bool) → not (a || (b || c)) ≡ true → (a ≡ false) × (b ≡ false) × (c ≡ false)
neither-true false false false e = (refl, refl, refl)
neither-true true b c e = absurd (cc e)
neither-true false true c e = absurd (cc e)
neither-true false false true e = absurd (cc e)

tested-place : (function : Bool) (s : Sort) → not (is_function_body s || (is_arrow_body s || is_program s)) ≡ true → Tested function false s
tested-place function s h =
    let none = neither-true (is_function_body s) (is_arrow_body s) (is_program s) h in
    record { in_function = λ e. absurd (true≢false (sym e ∙ none.0)); in_arrow = λ e. absurd (true≢false (sym e ∙ none.1)); no_program = λ e. absurd (true≢false (sym e ∙ none.2)) }

tested-as : (function body : Bool) (s z : Sort) → is_function_body z ≡ is_function_body s → is_arrow_body z ≡ is_arrow_body s → is_program z ≡ is_program s → Tested function body s → Tested function body z
tested-as function body s z e d c h = record { in_function = λ y. h.in_function (sym e ∙ y); in_arrow = λ y. h.in_arrow (sym d ∙ y); no_program = λ y. h.no_program (sym c ∙ y) }

tested-at : (function body : Bool) (k : AstType) (l : Label) (s : Sort) → Tested function body s → Tested function body (sort_at k l s)
tested-at function body k l s h = tested-as function body s (sort_at k l s) (at-place is_function_body coarse-function k l s) (at-place is_arrow_body coarse-arrow k l s) (at-place is_program coarse-program k l s) h

tested-rest : (function body : Bool) (s : Sort) → Tested function body s → Tested function body (rest_sort s)
tested-rest function body s h = tested-as function body s (rest_sort s) (at-rest is_function_body coarse-function s) (at-rest is_arrow_body coarse-arrow s) (at-rest is_program coarse-program s) h

stands : (function body : Bool) (n : Site) (s : Sort) → FieldSite function body n → Tested function body s → (body ≡ true → s ≡ s-ArrowFunctionBody) → StandsBy s n.above
stands function body n s f h arrow = record {
  function = λ e. f.in_function (h.in_function (ap is_function_body e));
  arrow = λ e. f.in_arrow ∙ h.in_arrow (ap is_arrow_body e);
  body = λ e. arrow (sym f.in_arrow ∙ e);
  inner = λ e. h.no_program (ap is_program e);
}

-- NODES AND LISTS

walkable : (n : Site) (s : Sort) (t : Tree) → this_fits n.role (belongs_to_arrow n.above) (reaches_target n.above) t ≡ true → has_form s t ≡ true → (is_slot n.above ≡ true → s ≡ s-Expression) → StandsBy s n.above → IsWalkable n t
walkable n s t this formed slot place = record { this = this; sort = s; formed = formed; slot = slot; place = place }

walkable-body : (n : Site) (t : Tree) → n.role ≡ reads → IsWalkable n t → IsWalkable (site_in_body n nothing_pending t) t
walkable-body n t role h = record { this = subst (λ (r : Role). this_fits r (belongs_to_arrow n.above) (reaches_target n.above) t ≡ true) role h.this; sort = h.sort; formed = h.formed; slot = h.slot; place = h.place }

as-body : (n : Site) (v : Bool) (t : Tree) → n.role ≡ reads → IsWalkable n t → AsBody IsWalkable n v t
as-body n true t role h = h
as-body n false t role h = walkable-body n t role h

walkable-trees : (n : Site) (s last : Sort) (ts : Trees) → this_fits_all n.role (belongs_to_arrow n.above) (reaches_target n.above) ts ≡ true → trees_form s last ts ≡ true → (is_slot n.above ≡ true → ⊥) → StandsBy s n.above → StandsBy last n.above → Each IsWalkable n ts
walkable-trees n s last empty this formed slot a b = tt
walkable-trees n s last (t before ts) this formed slot a b =
    let r = n.role in
    let both = and_parts (this_fits n.role (belongs_to_arrow n.above) (reaches_target n.above) t) _ this in
    let form = and_parts (has_form (sort_before_trees s last ts) t) (trees_form s last ts) formed in
    (walkable n (sort_before_trees s last ts) t both.0 form.0 (λ e. absurd (slot e)) (place ts), walkable-trees n s last ts both.1 form.1 slot a b)
  where
    place : (ts : Trees) → StandsBy (sort_before_trees s last ts) n.above
    place empty = b
    place (t before ts) = a

-- FIELDS

not-slot : s-Program ≡ s-Expression → ⊥
not-slot e = absurd (cc e)

not-arrow : s-Program ≡ s-ArrowFunctionBody → ⊥
not-arrow e = absurd (cc e)

module _ (k : AstType) (l : Label) (function : Bool) where
  one-in : (body : Bool) (n : Site) (s : Sort) (t : Tree) → FieldSite function body n → Tested function body s → (is_slot n.above ≡ true → sort_at k l s ≡ s-Expression) → (body ≡ true → sort_at k l s ≡ s-ArrowFunctionBody) → has_form (sort_at k l s) t ≡ true → this_fits n.role (belongs_to_arrow n.above) (reaches_target n.above) t ≡ true → EachBy IsWalkable n body (one t)
  one-in true n s t f h slot arrow formed this = as-body n (is_statement_body t) t (f.is_read refl) (walkable n (sort_at k l s) t this formed slot (stands function true n (sort_at k l s) f (tested-at function true k l s h) arrow))
  one-in false n s t f h slot arrow formed this = walkable n (sort_at k l s) t this formed slot (stands function false n (sort_at k l s) f (tested-at function false k l s h) arrow)

  list-in : (body : Bool) (n : Site) (s last : Sort) (ts : Trees) → FieldSite function body n → Tested function body s → Tested function body last → (is_slot n.above ≡ true → s-Program ≡ s-Expression) → (body ≡ true → s-Program ≡ s-ArrowFunctionBody) → trees_form s last ts ≡ true → this_fits_all n.role (belongs_to_arrow n.above) (reaches_target n.above) ts ≡ true → Each IsWalkable n ts
  list-in body n s last ts f h g slot arrow formed this =
      walkable-trees n s last ts this formed (λ e. absurd (not-slot (slot e))) (stands function body n s f h (λ e. absurd (not-arrow (arrow e)))) (stands function body n last f g (λ e. absurd (not-arrow (arrow e))))

  many-by : (body : Bool) (n : Site) (ts : Trees) → Each IsWalkable n ts → EachBy IsWalkable n body (many ts)
  many-by true n ts h = h
  many-by false n ts h = h

  statements-by : (body : Bool) (n : Site) (ts : Trees) → Each IsWalkable n ts → EachBy IsWalkable n body (statements ts)
  statements-by true n ts h = h
  statements-by false n ts h = h

  missing-by : (body : Bool) (n : Site) → EachBy IsWalkable n body missing
  missing-by true n = tt
  missing-by false n = tt

  field-in : (body : Bool) (n : Site) (c : Content) (f : Field) → FieldSite function body n → fits_entry function body c ≡ true → (is_slot n.above ≡ true → content_sort k l c ≡ s-Expression) → (body ≡ true → content_sort k l c ≡ s-ArrowFunctionBody) → field_form k l c f ≡ true → this_fits_by n.role (belongs_to_arrow n.above) (reaches_target n.above) f ≡ true → EachBy IsWalkable n body f
  field-in body n (c-Child s Required) (one t) f h slot arrow formed this = one-in body n s t f (tested-entry function body s h) slot arrow formed this
  field-in body n (c-Child s Optional) (one t) f h slot arrow formed this = one-in body n s t f (tested-entry function body s h) slot arrow formed this
  field-in body n (c-Child s Optional) missing f h slot arrow formed this = missing-by body n
  field-in body n (c-Child s a-List) (many ts) f h slot arrow formed this = let g = tested-entry function body s h in many-by body n ts (list-in body n s s ts f g g slot arrow formed this)
  field-in body n (c-Child s NonEmptyList) (many (t before ts)) f h slot arrow formed this = let g = tested-entry function body s h in many-by body n (t before ts) (list-in body n s s (t before ts) f g g slot arrow formed this)
  field-in body n (c-Child s ListWithRest) (many ts) f h slot arrow formed this = let g = tested-entry function body s h in many-by body n ts (list-in body n s (rest_sort s) ts f g (tested-rest function body s g) slot arrow formed this)
  field-in body n (c-Child s Statements) (statements ts) f h slot arrow formed this = let g = tested-entry function body s h in statements-by body n ts (list-in body n s s ts f g g slot arrow formed this)
  field-in body n c f g h slot arrow formed this = absurd (cc formed)

  fields-in : (es : List Entry) (c : ℕ → Site) (bodies : ℕ → Bool) → ((i : ℕ) → FieldSite function (bodies i) (c i)) → fit_entries function bodies es ≡ true → ((i : ℕ) → is_slot (c i).above ≡ true → sort_in k l es i ≡ s-Expression) → ((i : ℕ) → bodies i ≡ true → sort_in k l es i ≡ s-ArrowFunctionBody) →
      (fs : Fields) → fields_form k l es fs ≡ true → this_fits_in (λ i. (c i).role) (λ i. belongs_to_arrow (c i).above) (λ i. reaches_target (c i).above) fs ≡ true → EachIn IsWalkable c bodies fs
  fields-in [] c bodies site fit slots arrows done formed this = tt
  fields-in [] c bodies site fit slots arrows (f then fs) formed this = absurd (cc formed)
  fields-in (e ∷ es) c bodies site fit slots arrows done formed this = absurd (cc formed)
  fields-in (e ∷ es) c bodies site fit slots arrows (f then fs) formed this =
      let fits = and_parts (fits_entry function (bodies zero) e.content) _ fit in
      let form = and_parts (field_form k l e.content f) (fields_form k l es fs) formed in
      let both = and_parts (this_fits_by (c zero).role (belongs_to_arrow (c zero).above) (reaches_target (c zero).above) f) _ this in
      (field-in (bodies zero) (c zero) e.content f (site zero) fits.0 (slots zero) (arrows zero) form.0 both.0, fields-in es (λ i. c (suc i)) (λ i. bodies (suc i)) (λ i. site (suc i)) fits.1 (λ i. slots (suc i)) (λ i. arrows (suc i)) fs form.1 both.1)

  -- the elements of an array
  element-in : (n : Site) (s : Sort) (f : Field) → FieldSite function false n → Tested function false s → (is_slot n.above ≡ true → ⊥) → element_form s f ≡ true → this_fits_by n.role (belongs_to_arrow n.above) (reaches_target n.above) f ≡ true → EachBy IsWalkable n false f
  element-in n s missing f h slot formed this = tt
  element-in n s (one t) f h slot formed this = walkable n s t this formed (λ e. absurd (slot e)) (stands function false n s f h (λ e. absurd (true≢false (sym e))))
  element-in n s (many ts) f h slot formed this = absurd (cc formed)
  element-in n s (statements ts) f h slot formed this = absurd (cc formed)

  none-body : (body : Bool) (n : Site) (f : Field) → body ≡ false → EachBy IsWalkable n false f → EachBy IsWalkable n body f
  none-body true n f e h = absurd (cc e)
  none-body false n f e h = h

  elements-in : (s last : Sort) → Tested function false s → Tested function false last → (c : ℕ → Site) (bodies : ℕ → Bool) → ((i : ℕ) → FieldSite function false (c i)) → ((i : ℕ) → is_slot (c i).above ≡ true → ⊥) → ((i : ℕ) → bodies i ≡ false) →
      (fs : Fields) → elements_form s last fs ≡ true → this_fits_in (λ i. (c i).role) (λ i. belongs_to_arrow (c i).above) (λ i. reaches_target (c i).above) fs ≡ true → EachIn IsWalkable c bodies fs
  elements-in s last h g c bodies site slots none done formed this = tt
  elements-in s last h g c bodies site slots none (f then fs) formed this =
      let form = and_parts (element_form (sort_before_fields s last fs) f) (elements_form s last fs) formed in
      let both = and_parts (this_fits_by (c zero).role (belongs_to_arrow (c zero).above) (reaches_target (c zero).above) f) _ this in
      (none-body (bodies zero) (c zero) f (none zero) (element-in (c zero) (sort_before_fields s last fs) f (site zero) (place fs) (slots zero) form.0 both.0), elements-in s last h g (λ i. c (suc i)) (λ i. bodies (suc i)) (λ i. site (suc i)) (λ i. slots (suc i)) (λ i. none (suc i)) fs form.1 both.1)
    where
      place : (fs : Fields) → Tested function false (sort_before_fields s last fs)
      place done = g
      place (f then fs) = h

-- A NODE

no-body-there : (a b : Bool) → (a ≡ true → b ≡ true) → b ≡ false → a ≡ false
no-body-there true b h e = absurd (true≢false (sym (h refl) ∙ e))
no-body-there false b h e = refl

never : (a : Bool) → (a ≡ true → ⊥) → a ≡ false
never true h = absurd (h refl)
never false h = refl

later-still : (i : ℕ) → (suc (suc i) == 1) ≡ false
later-still i = ne_eqb (suc (suc i)) 1 (λ d. omega (arith, d))

pub arrow-field : (k : AstType) (i : ℕ) → (same_type k ArrowFunctionExpression && i == 1) ≡ is_body k i
arrow-field ArrowFunctionExpression zero = refl
arrow-field ArrowFunctionExpression (suc zero) = refl
arrow-field ArrowFunctionExpression (suc (suc i)) = later-still i
arrow-field _ i = refl

keeps : (a b c d : Bool) → a ≡ true → (not (a || b || c) && d) ≡ false
keeps true b c d e = refl
keeps false b c d e = absurd (cc e)

arrow-belongs : (k : AstType) (i : ℕ) (v : Bool) → (same_type k ArrowFunctionExpression && i == 1) ≡ true → belongs_at v k i ≡ true
arrow-belongs ArrowFunctionExpression i v e = refl
arrow-belongs _ i v e = absurd (cc e)

-- what stands in the body of an arrow belongs to it
body-belongs : (up : List Ancestor) → stands_in ArrowFunctionExpression 1 up ≡ true → belongs_to_arrow up ≡ true
body-belongs [] e = absurd (cc e)
body-belongs (a ∷ up) e = arrow-belongs a.kind a.index (belongs_to_arrow up) e

body-sorts : (s : Sort) → is_of_sort s FunctionBody ≡ true → (s ≡ s-FunctionBody) ⊎ (s ≡ s-ArrowFunctionBody)
body-sorts s-FunctionBody e = inl refl
body-sorts s-ArrowFunctionBody e = inr refl
body-sorts _ e = absurd (cc e)

program-sorts : (s : Sort) → is_of_sort s Program ≡ true → s ≡ s-Program
program-sorts s-Program e = refl
program-sorts _ e = absurd (cc e)

body-around : (s : Sort) (up : List Ancestor) → StandsBy s up → (s ≡ s-FunctionBody) ⊎ (s ≡ s-ArrowFunctionBody) → stands_in ArrowFunctionExpression 1 up ≡ belongs_to_arrow up
body-around s up h (inl e) = let none = h.function e in no-body-there (stands_in ArrowFunctionExpression 1 up) (belongs_to_arrow up) (body-belongs up) none ∙ sym none
body-around s up h (inr e) = let there = h.arrow e in there ∙ sym (body-belongs up there)

pub around-node : (n : Site) (k : AstType) (l : Label) (fs : Fields) → IsWalkable n (node k l fs) → Around (belongs_to_arrow n.above) k n.above
around-node n k l fs h =
    let of = (node_form h.sort k l fs h.formed).sort in
    record {
      belongs = refl;
      body = λ e. body-around h.sort n.above h.place (body-sorts h.sort (subst (λ (j : AstType). is_of_sort h.sort j ≡ true) e of));
      inner = λ e. h.place.inner (program-sorts h.sort (subst (λ (j : AstType). is_of_sort h.sort j ≡ true) e of));
    }

module _ (n : Site) (k : AstType) (l : Label) (fs : Fields) where
  abbrev pub sites : ℕ → Site
  sites = site_in n k l (opened_fields (is_body k) fs)

  field-site : (i : ℕ) → FieldSite (is_function k) (is_body k i) (sites i)
  field-site i = record {
    in_function = λ e. keeps (is_function k) _ _ _ e;
    in_arrow = arrow-field k i;
    is_read = λ e. body-reads n.role k l (finished_fields (opened_fields (is_body k) fs)) i e;
  }

  in-children : (o : Option ElementsPlace) → elements_of (child_entries k) ≡ o → match_option o (fields_form k l (child_entries k) fs) (λ p. elements_form p.sort p.last fs) ≡ true → this_fits_in (λ i. (sites i).role) (λ i. belongs_to_arrow (sites i).above) (λ i. reaches_target (sites i).above) fs ≡ true → EachIn IsWalkable sites (is_body k) fs
  in-children None e formed this = fields-in k l (is_function k) (child_entries k) sites (is_body k) field-site (all-fit k) (slot-sort n.above k l (outline (opened_fields (is_body k) fs))) (arrow-sort k l) fs formed this
  in-children (Some p) e formed this =
      let none : (i : ℕ) → is_body k i ≡ false = λ i. never (is_body k i) (λ d. not-arrow (sym (elements-sort k l (child_entries k) p i e) ∙ arrow-sort k l i d)) in
      let slots : (i : ℕ) → is_slot (sites i).above ≡ true → ⊥ = λ i d. not-slot (sym (elements-sort k l (child_entries k) p i e) ∙ slot-sort n.above k l (outline (opened_fields (is_body k) fs)) i d) in
      let placed = and_parts _ _ (sym (ap fits_place e) ∙ all-placed k) in
      elements-in k l (is_function k) p.sort p.last (tested-place (is_function k) p.sort placed.0) (tested-place (is_function k) p.last placed.1) sites (is_body k) (λ i. subst (λ (b : Bool). FieldSite (is_function k) b (sites i)) (none i) (field-site i)) slots none fs formed this

  pub inward-from : (s : Sort) → has_form s (node k l fs) ≡ true → this_fits n.role (belongs_to_arrow n.above) (reaches_target n.above) (node k l fs) ≡ true → EachIn IsWalkable sites (is_body k) fs
  inward-from s formed this =
      let both = and_parts _ (this_fits_in (role_at n.role k l fs) (λ i. belongs_in (belongs_to_arrow n.above) (ancestor k l done i 0)) (λ i. reaches_in (reaches_target n.above) (ancestor k l done i 0)) fs) this in
      in-children (elements_of (child_entries k)) refl (node_form s k l fs formed).children
      (subst (λ (z : Fields). this_fits_in (role_at n.role k l z) (λ i. belongs_to_arrow (sites i).above) (λ i. reaches_target (sites i).above) fs ≡ true) (sym (finished-fields (is_body k) fs)) both.1)

  pub inward : IsWalkable n (node k l fs) → EachIn IsWalkable sites (is_body k) fs
  inward h = inward-from h.sort h.formed h.this

  pub inside-node : IsWalkable n (node k l fs) → AreInside (belongs_to_arrow n.above) k sites
  inside-node h = record { label = l; fields = outline (opened_fields (is_body k) fs); up = n.above; around = around-node n k l fs h; above = λ i. refl; role = λ i e. (field-site i).is_read e }
