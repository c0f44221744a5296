-- Open programs in which no more is pending than may be, and what the form of a node asks of its fields.
use Rattle.std.proofs.Common.{◌≡◌, ℕ, zero, suc, refl}
use Rattle.std.specs.Prelude.{Bool, true, false, Option, if◌then◌else◌}
use Rattle.es_tree.specs.HasForm.{element_form, field_form, has_form, is_of_sort, sort_at, trees_form}
use Rattle.es_tree.specs.Table.{rest_sort}
use Rattle.es_tree.specs.Tree.{Tree, node, Label, Fields, done, ◌then◌, Field, missing, one, many, statements, Trees, empty, ◌before◌}
use Rattle.es_tree.specs.declared.ast_type.AstType.{AstType}
use Rattle.es_tree.specs.declared.ast_type.AstType.TheVariants.{VariableDeclaration}
use Rattle.es_tree.specs.declared.table.Content.{Content}
use Rattle.es_tree.specs.declared.table.Content.TheVariants.{Child as c-Child}
use Rattle.es_tree.specs.declared.table.Often.TheVariants.{Required, Optional, List as a-List, NonEmptyList, ListWithRest, Statements}
use Rattle.es_tree.specs.declared.table.Sort.{Sort}
use Rattle.es_tree.specs.declared.table.Sort.TheVariants.{ArrowFunctionBody as s-ArrowFunctionBody, Expression as s-Expression, Program as s-Program}
use Rattle.es_resolution.specs.Declarations.{Bound}
use Rattle.es_steps.specs.Open.{Additions, Pending, Open, open_node, OpenFields, ends, ◌and◌, OpenField, gap, child, body, children, list, OpenTrees, nil, ◌next◌, flanked, is_body, is_statement_body, nothing_pending, opened, opened_fields, opened_field, opened_trees}
use Rattle.es_steps.specs.Slots.{is_slot}
use Rattle.es_steps.specs.Steps.{Site}
use Rattle.es_steps.proofs.FormLists.{IsListIn, IsPlain, IsPlainList, Setting, nothing-in, plain-none, temporaries_alone}
use Rattle.es_steps.proofs.FormPlaces.{content_sort, content_takes}

-- TIDY OPEN TREES: for lists no more is pending than may be, for the bodies of arrows temporaries alone; each of those stands where one
-- may, and no statement has others before or after it

module _ (Listed : Pending → Option Bound → Additions → Type 0) where
  abbrev mutual
    pub IsTidy : Open → Type 0
    IsTidy (open_node k l fs) = AreTidyFields (is_body k) fs

    pub AreTidyFields : (ℕ → Bool) → OpenFields → Type 0
    AreTidyFields bodies ends = Unit {0}
    AreTidyFields bodies (f and fs) = IsTidyField (bodies zero) f × AreTidyFields (λ i. bodies (suc i)) fs

    pub IsTidyField : Bool → OpenField → Type 0
    IsTidyField b gap = Unit {0}
    IsTidyField b (child t) = IsTidy t
    IsTidyField b (body p t) = (b ≡ true) × IsPlain p × IsTidy t
    IsTidyField b (children ts) = AreTidyTrees ts
    IsTidyField b (list p x a ts) = Listed p x a × AreTidyTrees ts

    pub AreTidyTrees : OpenTrees → Type 0
    AreTidyTrees nil = Unit {0}
    AreTidyTrees (t next ts) = IsTidy t × AreTidyTrees ts
    AreTidyTrees (flanked bs t cs ts) = ⊥

module _ (P : Setting) where
  either-tidy : (v : Bool) (t : Open) → IsTidy (IsListIn P) t → IsTidyField (IsListIn P) true (if v then child t else body nothing_pending t)
  either-tidy true t h = h
  either-tidy false t h = (refl, plain-none, h)

  mutual
    pub opened-tidy : (t : Tree) → IsTidy (IsListIn P) (opened t)
    opened-tidy (node k l fs) = opened-fields-tidy (is_body k) fs

    opened-fields-tidy : (bodies : ℕ → Bool) (fs : Fields) → AreTidyFields (IsListIn P) bodies (opened_fields bodies fs)
    opened-fields-tidy bodies done = tt
    opened-fields-tidy bodies (f then fs) = (opened-field-tidy (bodies zero) f, opened-fields-tidy (λ i. bodies (suc i)) fs)

    opened-field-tidy : (b : Bool) (f : Field) → IsTidyField (IsListIn P) b (opened_field b f)
    opened-field-tidy true missing = tt
    opened-field-tidy false missing = tt
    opened-field-tidy true (one t) = either-tidy (is_statement_body t) (opened t) (opened-tidy t)
    opened-field-tidy false (one t) = opened-tidy t
    opened-field-tidy true (many ts) = opened-trees-tidy ts
    opened-field-tidy false (many ts) = opened-trees-tidy ts
    opened-field-tidy true (statements ts) = (nothing-in P, opened-trees-tidy ts)
    opened-field-tidy false (statements ts) = (nothing-in P, opened-trees-tidy ts)

    pub opened-trees-tidy : (ts : Trees) → AreTidyTrees (IsListIn P) (opened_trees ts)
    opened-trees-tidy empty = tt
    opened-trees-tidy (t before ts) = (opened-tidy t, opened-trees-tidy ts)

-- PROPER ones: temporaries alone are pending

abbrev pub IsProper : Open → Type 0
IsProper = IsTidy IsPlainList

abbrev pub AreProperFields : (ℕ → Bool) → OpenFields → Type 0
AreProperFields = AreTidyFields IsPlainList

abbrev pub IsProperField : Bool → OpenField → Type 0
IsProperField = IsTidyField IsPlainList

abbrev pub AreProperTrees : OpenTrees → Type 0
AreProperTrees = AreTidyTrees IsPlainList

pub opened-proper : (t : Tree) → IsProper (opened t)
opened-proper = opened-tidy temporaries_alone

pub opened-trees-proper : (ts : Trees) → AreProperTrees (opened_trees ts)
opened-trees-proper = opened-trees-tidy temporaries_alone

-- FIELDS: what a test of form asks of the nodes in a field, and that it asks nothing else

abbrev pub Begins : Trees → Type 0
Begins empty = ⊥
Begins (t before ts) = Unit {0}

pub record OneForm (test : Field → Bool) (n : Site) (b : Bool) (t : Tree) : Type 0 where
  pub sort : Sort
  pub formed : has_form sort t ≡ true
  pub slot : is_slot n.above ≡ true → sort ≡ s-Expression
  pub arrow : b ≡ true → sort ≡ s-ArrowFunctionBody
  pub back : (u : Tree) → has_form sort u ≡ true → test (one u) ≡ true

pub record ManyForm (test : Field → Bool) (n : Site) (ts : Trees) : Type 0 where
  pub sort : Sort
  pub last : Sort
  pub formed : trees_form sort last ts ≡ true
  pub no_slot : is_slot n.above ≡ true → ⊥
  pub back : (us : Trees) → Begins us → trees_form sort last us ≡ true → test (many us) ≡ true

pub record StatementsForm (test : Field → Bool) (n : Site) (ts : Trees) : Type 0 where
  pub sort : Sort
  pub formed : trees_form sort sort ts ≡ true
  pub no_slot : is_slot n.above ≡ true → ⊥
  pub declares : is_of_sort sort VariableDeclaration ≡ true
  pub back : (us : Trees) → trees_form sort sort us ≡ true → test (statements us) ≡ true

pub record Holds (test : Field → Bool) (n : Site) (b : Bool) : Type 0 where
  pub at_one : (t : Tree) → test (one t) ≡ true → OneForm test n b t
  pub at_many : (ts : Trees) → test (many ts) ≡ true → ManyForm test n ts
  pub at_statements : (ts : Trees) → test (statements ts) ≡ true → StatementsForm test n ts

no-program : s-Program ≡ s-Expression → ⊥
no-program e = absurd (cc e)

-- a field of the table
module _ (k : AstType) (l : Label) (n : Site) (b : Bool) where
  one-form : (c : Content) → (is_slot n.above ≡ true → content_sort k l c ≡ s-Expression) → (b ≡ true → content_sort k l c ≡ s-ArrowFunctionBody) → (t : Tree) → field_form k l c (one t) ≡ true → OneForm (field_form k l c) n b t
  one-form (c-Child s Required) slot arrow t h = record { sort = sort_at k l s; formed = h; slot = slot; arrow = arrow; back = λ u d. d }
  one-form (c-Child s Optional) slot arrow t h = record { sort = sort_at k l s; formed = h; slot = slot; arrow = arrow; back = λ u d. d }
  one-form c slot arrow t h = absurd (cc h)

  many-form : (c : Content) → (is_slot n.above ≡ true → content_sort k l c ≡ s-Expression) → (ts : Trees) → field_form k l c (many ts) ≡ true → ManyForm (field_form k l c) n ts
  many-form (c-Child s a-List) slot ts h = record { sort = s; last = s; formed = h; no_slot = λ e. no-program (slot e); back = λ us d e. e }
  many-form (c-Child s NonEmptyList) slot empty h = absurd (cc h)
  many-form (c-Child s NonEmptyList) slot (t before ts) h = record { sort = s; last = s; formed = h; no_slot = λ e. no-program (slot e); back = back }
    where
      back : (us : Trees) → Begins us → trees_form s s us ≡ true → field_form k l (c-Child s NonEmptyList) (many us) ≡ true
      back empty d e = absurd d
      back (u before us) d e = e
  many-form (c-Child s ListWithRest) slot ts h = record { sort = s; last = rest_sort s; formed = h; no_slot = λ e. no-program (slot e); back = λ us d e. e }
  many-form c slot ts h = absurd (cc h)

  statements-form : (c : Content) → (is_slot n.above ≡ true → content_sort k l c ≡ s-Expression) → content_takes c ≡ true → (ts : Trees) → field_form k l c (statements ts) ≡ true → StatementsForm (field_form k l c) n ts
  statements-form (c-Child s Statements) slot takes ts h = record { sort = s; formed = h; no_slot = λ e. no-program (slot e); declares = takes; back = λ us e. e }
  statements-form c slot takes ts h = absurd (cc h)

  pub entry-holds : (c : Content) → (is_slot n.above ≡ true → content_sort k l c ≡ s-Expression) → (b ≡ true → content_sort k l c ≡ s-ArrowFunctionBody) → content_takes c ≡ true → Holds (field_form k l c) n b
  entry-holds c slot arrow takes = record { at_one = one-form c slot arrow; at_many = many-form c slot; at_statements = statements-form c slot takes }

-- an element of an array
pub element-holds : (s : Sort) (n : Site) (b : Bool) → (is_slot n.above ≡ true → ⊥) → (b ≡ true → ⊥) → Holds (element_form s) n b
element-holds s n b no_slot no_arrow = record {
  at_one = λ t h. record { sort = s; formed = h; slot = λ e. absurd (no_slot e); arrow = λ e. absurd (no_arrow e); back = λ u d. d };
  at_many = λ ts h. absurd (cc h);
  at_statements = λ ts h. absurd (cc h);
}
