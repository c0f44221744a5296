-- The fields of a node by the table: the sort of what stands in a slot or is the body of an arrow, the lists that take declarations,
-- and what a node asks of its fields together.
use Rattle.std.proofs.Common.{◌≡◌, ◌==◌, ℕ, zero, suc, refl, sym, ap, ◌∙◌, List, [], ◌∷◌, arith}
use Rattle.std.proofs.lemmas.Bool.{ne_eqb}
use Rattle.std.specs.Prelude.{Bool, true, false, not, ◌&&◌, Option, Some, if◌then◌else◌}
use Rattle.es_tree.specs.Agree.{fields_agree, is_guarded, is_missing, quasis_fit, trees_count}
use Rattle.es_tree.specs.Ancestors.{Ancestor, ancestor}
use Rattle.es_tree.specs.Attributes.{child_entries, flag_entries}
use Rattle.es_tree.specs.HasForm.{ElementsPlace, elements_by, elements_of, flag_of, is_of_sort, sort_at, sort_before_fields, sort_before_trees}
use Rattle.es_tree.specs.Names.{flag_at}
use Rattle.es_tree.specs.Tree.{Label, Fields, done, ◌then◌, Field, missing, one, many, statements, Trees, empty, ◌before◌}
use Rattle.es_tree.specs.Words.{Text}
use Rattle.es_tree.specs.declared.ast_type.AstType.{AstType}
use Rattle.es_tree.specs.declared.ast_type.AstType.TheVariants.{ArrowFunctionExpression, AssignmentPattern, PatternProperty, Program, PropertyDefinition, TemplateLiteral, TryStatement, VariableDeclaration}
use Rattle.es_tree.specs.declared.table.Content.{Content}
use Rattle.es_tree.specs.declared.table.Content.TheVariants.{Child as c-Child}
use Rattle.es_tree.specs.declared.table.Entry.{Entry}
use Rattle.es_tree.specs.declared.table.FieldName.{FieldName}
use Rattle.es_tree.specs.declared.table.FieldName.TheVariants.{Computed as f-Computed}
use Rattle.es_tree.specs.declared.table.Often.TheVariants.{Required, Optional, Statements, Elements, ElementsWithRest}
use Rattle.es_tree.specs.declared.table.Sort.{Sort}
use Rattle.es_tree.specs.declared.table.Sort.TheVariants.{ArrowFunctionBody as s-ArrowFunctionBody, Expression as s-Expression, Program as s-Program, PropertyKey as s-PropertyKey}
use Rattle.es_steps.specs.Nodes.{word}
use Rattle.es_steps.specs.Open.{is_body}
use Rattle.es_steps.specs.Slots.{is_slot}

-- SORTS

-- the sort of the one node in a field; that of a program where it has a list
abbrev pub content_sort : AstType → Label → Content → Sort
content_sort k l (c-Child s Required) = sort_at k l s
content_sort k l (c-Child s Optional) = sort_at k l s
content_sort k l _ = s-Program

-- that of the field of this number
abbrev pub sort_in : AstType → Label → List Entry → ℕ → Sort
sort_in k l [] i = s-Program
sort_in k l (e ∷ es) zero = content_sort k l e.content
sort_in k l (e ∷ es) (suc i) = sort_in k l es i

computed-key : (bs : List Bool) → flag_at 1 bs ≡ true → flag_of f-Computed (flag_entries PatternProperty) bs ≡ true
computed-key [] e = absurd (cc e)
computed-key (b ∷ []) e = absurd (cc e)
computed-key (b ∷ (c ∷ bs)) e = e

and-true : (b c : Bool) → (b && c) ≡ true → b ≡ true
and-true true c e = refl
and-true false c e = absurd (cc e)

later : (i : ℕ) → (suc i == 0) ≡ false
later i = ne_eqb (suc i) 0 (λ d. omega (arith, d))

later-still : (i : ℕ) → (suc (suc i) == 1) ≡ false
later-still i = ne_eqb (suc (suc i)) 1 (λ d. omega (arith, d))

-- what stands in a slot is an expression
pub slot-sort : (up : List Ancestor) (k : AstType) (l : Label) (fs : Fields) (i : ℕ) → is_slot (ancestor k l fs i 0 ∷ up) ≡ true → sort_in k l (child_entries k) i ≡ s-Expression
slot-sort up PropertyDefinition l fs zero e = absurd (cc e)
slot-sort up PropertyDefinition l fs (suc zero) e = refl
slot-sort up PropertyDefinition l fs (suc (suc i)) e = absurd (cc (e, later-still i))
slot-sort up AssignmentPattern l fs zero e = absurd (cc e)
slot-sort up AssignmentPattern l fs (suc zero) e = refl
slot-sort up AssignmentPattern l fs (suc (suc i)) e = absurd (cc (e, later-still i))
slot-sort up PatternProperty l fs zero e = ap (λ b. if b then s-Expression else s-PropertyKey) (computed-key l.flags (and-true (flag_at 1 l.flags) _ e))
slot-sort up PatternProperty l fs (suc i) e = absurd (cc (e, later i))
slot-sort up k l fs i e = absurd (cc e)

-- the body of an arrow
pub arrow-sort : (k : AstType) (l : Label) (i : ℕ) → is_body k i ≡ true → sort_in k l (child_entries k) i ≡ s-ArrowFunctionBody
arrow-sort ArrowFunctionExpression l zero e = absurd (cc e)
arrow-sort ArrowFunctionExpression l (suc zero) e = refl
arrow-sort ArrowFunctionExpression l (suc (suc i)) e = absurd (cc e)
arrow-sort k l i e = absurd (cc e)

-- no field of an array has a sort of its own
content-none : (k : AstType) (l : Label) (f : FieldName) (c : Content) (p : ElementsPlace) → elements_by f c ≡ Some p → content_sort k l c ≡ s-Program
content-none k l f (c-Child s Elements) p e = refl
content-none k l f (c-Child s ElementsWithRest) p e = refl
content-none k l f c p e = absurd (cc e)

pub elements-sort : (k : AstType) (l : Label) (es : List Entry) (p : ElementsPlace) (i : ℕ) → elements_of es ≡ Some p → sort_in k l es i ≡ s-Program
elements-sort k l [] p i e = absurd (cc e)
elements-sort k l (a ∷ []) p zero e = content-none k l a.field a.content p e
elements-sort k l (a ∷ []) p (suc i) e = refl
elements-sort k l (a ∷ (b ∷ es)) p i e = absurd (cc e)

-- LISTS: each list of statements takes declarations of variables

abbrev pub content_takes : Content → Bool
content_takes (c-Child s Statements) = is_of_sort s VariableDeclaration
content_takes _ = true

abbrev pub entries_take : List Entry → Bool
entries_take [] = true
entries_take (e ∷ es) = content_takes e.content && entries_take es

pub all-take : (k : AstType) → entries_take (child_entries k) ≡ true
all-take Program = refl
all-take _ = refl

-- OUTLINES: which fields are missing, and how many nodes a list has

abbrev pub outlined_trees : Trees → Trees
outlined_trees empty = empty
outlined_trees (t before ts) = word [] before outlined_trees ts

abbrev pub outlined_field : Field → Field
outlined_field missing = missing
outlined_field (one t) = one (word [])
outlined_field (many ts) = many (outlined_trees ts)
outlined_field (statements ts) = statements empty

abbrev pub outlined : Fields → Fields
outlined done = done
outlined (f then fs) = outlined_field f then outlined fs

count-outlined : (ts : Trees) → trees_count (outlined_trees ts) ≡ trees_count ts
count-outlined empty = refl
count-outlined (t before ts) = ap suc (count-outlined ts)

missing-outlined : (f : Field) → is_missing (outlined_field f) ≡ is_missing f
missing-outlined missing = refl
missing-outlined (one t) = refl
missing-outlined (many ts) = refl
missing-outlined (statements ts) = refl

quasis-outlined : (fs : Fields) → quasis_fit (outlined fs) ≡ quasis_fit fs
quasis-outlined (many qs then (many es then done)) = λ i. count-outlined qs i == suc (count-outlined es i)
quasis-outlined _ = refl

guarded-outlined : (fs : Fields) → is_guarded (outlined fs) ≡ is_guarded fs
guarded-outlined (b then (h then (f then done))) = λ i. not (missing-outlined h i && missing-outlined f i)
guarded-outlined _ = refl

agree-outlined : (k : AstType) (ts : List (Option Text)) (fs : Fields) → fields_agree k ts (outlined fs) ≡ fields_agree k ts fs
agree-outlined TemplateLiteral ts fs = quasis-outlined fs
agree-outlined TryStatement ts fs = guarded-outlined fs
agree-outlined _ ts fs = refl

-- what a node asks of its fields together is a matter of their outline
pub agree-kept : (k : AstType) (ts : List (Option Text)) (fs gs : Fields) → outlined fs ≡ outlined gs → fields_agree k ts fs ≡ true → fields_agree k ts gs ≡ true
agree-kept k ts fs gs e h = sym (agree-outlined k ts gs) ∙ sym (ap (λ hs. fields_agree k ts hs) e) ∙ agree-outlined k ts fs ∙ h

-- and so is the sort of a node before others
trees-outlined : (s last : Sort) (ts : Trees) → sort_before_trees s last (outlined_trees ts) ≡ sort_before_trees s last ts
trees-outlined s last empty = refl
trees-outlined s last (t before ts) = refl

pub before-trees : (s last : Sort) (ts us : Trees) → outlined_trees ts ≡ outlined_trees us → sort_before_trees s last ts ≡ sort_before_trees s last us
before-trees s last ts us e = sym (trees-outlined s last ts) ∙ ap (λ vs. sort_before_trees s last vs) e ∙ trees-outlined s last us

fields-outlined : (s last : Sort) (fs : Fields) → sort_before_fields s last (outlined fs) ≡ sort_before_fields s last fs
fields-outlined s last done = refl
fields-outlined s last (f then fs) = refl

pub before-fields : (s last : Sort) (fs gs : Fields) → outlined fs ≡ outlined gs → sort_before_fields s last fs ≡ sort_before_fields s last gs
before-fields s last fs gs e = sym (fields-outlined s last fs) ∙ ap (λ hs. sort_before_fields s last hs) e ∙ fields-outlined s last gs
