-- Form and size don't depend on ids and marks.
use Rattle.std.proofs.Common.{◌≡◌, refl, ap, ◌∙◌, List, [], ◌∷◌, Option, Some, None}
use Rattle.std.specs.Prelude.{Bool, ◌&&◌}
use Rattle.es_tree.specs.Words.{Text}
use Rattle.es_tree.specs.Agree.{fields_agree, quasis_fit, is_guarded, is_missing, trees_count}
use Rattle.es_tree.specs.Attributes.{child_entries}
use Rattle.es_tree.specs.Bare.{bare, bare_label, bare_fields, bare_field, bare_trees}
use Rattle.es_tree.specs.HasForm.{ElementsPlace, is_of_sort, label_form, elements_of, match_option, has_form, elements_form, element_form, fields_form, field_form, trees_form, sort_at, sort_before_trees, sort_before_fields}
use Rattle.es_tree.specs.Table.{rest_sort}
use Rattle.es_tree.specs.Tree.{Tree, node, Label, Fields, done, ◌then◌, Field, missing, one, many, statements, Trees, empty, ◌before◌, tree_size, fields_size, field_size, trees_size}
use Rattle.es_tree.specs.declared.ast_type.AstType.{AstType}
use Rattle.es_tree.specs.declared.ast_type.AstType.TheVariants.{TemplateLiteral, TryStatement, MetaProperty}
use Rattle.es_tree.specs.declared.table.Entry.{Entry}
use Rattle.es_tree.specs.declared.table.Sort.{Sort}
use Rattle.es_tree.specs.declared.table.Sort.TheVariants.{PropertyKey as s-PropertyKey, MemberProperty as s-MemberProperty, BinaryLeft as s-BinaryLeft}
use Rattle.es_tree.specs.declared.table.Often.TheVariants.{Required, Optional, List as a-List, NonEmptyList, ListWithRest, Statements}
use Rattle.es_tree.specs.declared.table.Content.{Content}
use Rattle.es_tree.specs.declared.table.Content.TheVariants.{Child as c-Child}

-- WHAT FIELDS ASK OF ONE ANOTHER

trees_count-bare : (ts : Trees) → trees_count (bare_trees ts) ≡ trees_count ts
trees_count-bare empty = refl
trees_count-bare (t before ts) = rw (trees_count-bare ts) refl

is_missing-bare : (f : Field) → is_missing (bare_field f) ≡ is_missing f
is_missing-bare missing = refl
is_missing-bare (one t) = refl
is_missing-bare (many ts) = refl
is_missing-bare (statements ts) = refl

quasis_fit-bare : (fs : Fields) → quasis_fit (bare_fields fs) ≡ quasis_fit fs
quasis_fit-bare (many qs then (many es then done)) = rw (trees_count-bare qs, trees_count-bare es) refl
quasis_fit-bare (many qs then (many es then (f then fs))) = refl
quasis_fit-bare (many qs then done) = refl
quasis_fit-bare (many qs then (missing then fs)) = refl
quasis_fit-bare (many qs then (one t then fs)) = refl
quasis_fit-bare (many qs then (statements ts then fs)) = refl
quasis_fit-bare done = refl
quasis_fit-bare (missing then fs) = refl
quasis_fit-bare (one t then fs) = refl
quasis_fit-bare (statements ts then fs) = refl

is_guarded-bare : (fs : Fields) → is_guarded (bare_fields fs) ≡ is_guarded fs
is_guarded-bare (b then (h then (f then done))) = rw (is_missing-bare h, is_missing-bare f) refl
is_guarded-bare (b then (h then (f then (g then fs)))) = refl
is_guarded-bare (b then (h then done)) = refl
is_guarded-bare (b then done) = refl
is_guarded-bare done = refl

fields_agree-bare : (k : AstType) (ts : List (Option Text)) (fs : Fields) → fields_agree k ts (bare_fields fs) ≡ fields_agree k ts fs
fields_agree-bare TemplateLiteral ts fs = quasis_fit-bare fs
fields_agree-bare TryStatement ts fs = is_guarded-bare fs
fields_agree-bare MetaProperty ts fs = refl
fields_agree-bare _ ts fs = refl

-- FORM

sort_at-bare : (k : AstType) (l : Label) (s : Sort) → sort_at k (bare_label l) s ≡ sort_at k l s
sort_at-bare k l s-PropertyKey = refl
sort_at-bare k l s-MemberProperty = refl
sort_at-bare k l s-BinaryLeft = refl
sort_at-bare k l _ = refl

sort_before_trees-bare : (s last : Sort) (ts : Trees) → sort_before_trees s last (bare_trees ts) ≡ sort_before_trees s last ts
sort_before_trees-bare s last empty = refl
sort_before_trees-bare s last (t before ts) = refl

sort_before_fields-bare : (s last : Sort) (fs : Fields) → sort_before_fields s last (bare_fields fs) ≡ sort_before_fields s last fs
sort_before_fields-bare s last done = refl
sort_before_fields-bare s last (f then fs) = refl

both_same : (a b c d : Bool) → a ≡ b → c ≡ d → (a && c) ≡ (b && d)
both_same a b c d e f = rw (e, f) refl

either_same : (o : Option ElementsPlace) (a b : Bool) (f g : ElementsPlace → Bool) → a ≡ b → ((p : ElementsPlace) → f p ≡ g p) → match_option o a f ≡ match_option o b g
either_same None a b f g e h = e
either_same (Some p) a b f g e h = h p

mutual
  pub has_form-bare : (s : Sort) (t : Tree) → has_form s (bare t) ≡ has_form s t
  has_form-bare s (node k l fs) =
      both_same (is_of_sort s k && label_form k l && fields_agree k l.texts (bare_fields fs)) (is_of_sort s k && label_form k l && fields_agree k l.texts fs)
      (match_option (elements_of (child_entries k)) (fields_form k (bare_label l) (child_entries k) (bare_fields fs)) (λ p. elements_form p.sort p.last (bare_fields fs)))
      (match_option (elements_of (child_entries k)) (fields_form k l (child_entries k) fs) (λ p. elements_form p.sort p.last fs))
      (ap (λ b. is_of_sort s k && label_form k l && b) (fields_agree-bare k l.texts fs))
      (either_same (elements_of (child_entries k)) (fields_form k (bare_label l) (child_entries k) (bare_fields fs)) (fields_form k l (child_entries k) fs) (λ p. elements_form p.sort p.last (bare_fields fs)) (λ p. elements_form p.sort p.last fs)
      (fields_form-bare k l (child_entries k) fs) (λ p. elements_form-bare p.sort p.last fs))

  fields_form-bare : (k : AstType) (l : Label) (es : List Entry) (fs : Fields) → fields_form k (bare_label l) es (bare_fields fs) ≡ fields_form k l es fs
  fields_form-bare k l [] done = refl
  fields_form-bare k l (e ∷ es) (f then fs) =
      both_same (field_form k (bare_label l) e.content (bare_field f)) (field_form k l e.content f) (fields_form k (bare_label l) es (bare_fields fs)) (fields_form k l es fs) (field_form-bare k l e.content f) (fields_form-bare k l es fs)
  fields_form-bare k l [] (f then fs) = refl
  fields_form-bare k l (e ∷ es) done = refl

  field_form-bare : (k : AstType) (l : Label) (c : Content) (f : Field) → field_form k (bare_label l) c (bare_field f) ≡ field_form k l c f
  field_form-bare k l (c-Child s Required) (one t) = ap (λ r. has_form r (bare t)) (sort_at-bare k l s) ∙ has_form-bare (sort_at k l s) t
  field_form-bare k l (c-Child s Optional) (one t) = ap (λ r. has_form r (bare t)) (sort_at-bare k l s) ∙ has_form-bare (sort_at k l s) t
  field_form-bare k l (c-Child s a-List) (many ts) = trees_form-bare s s ts
  field_form-bare k l (c-Child s NonEmptyList) (many (t before ts)) = trees_form-bare s s (t before ts)
  field_form-bare k l (c-Child s NonEmptyList) (many empty) = refl
  field_form-bare k l (c-Child s ListWithRest) (many ts) = trees_form-bare s (rest_sort s) ts
  field_form-bare k l (c-Child s Statements) (statements ts) = trees_form-bare s s ts
  field_form-bare k l _ _ = refl

  trees_form-bare : (s last : Sort) (ts : Trees) → trees_form s last (bare_trees ts) ≡ trees_form s last ts
  trees_form-bare s last empty = refl
  trees_form-bare s last (t before ts) =
      both_same (has_form (sort_before_trees s last (bare_trees ts)) (bare t)) (has_form (sort_before_trees s last ts) t) (trees_form s last (bare_trees ts)) (trees_form s last ts)
      (ap (λ r. has_form r (bare t)) (sort_before_trees-bare s last ts) ∙ has_form-bare (sort_before_trees s last ts) t) (trees_form-bare s last ts)

  elements_form-bare : (s last : Sort) (fs : Fields) → elements_form s last (bare_fields fs) ≡ elements_form s last fs
  elements_form-bare s last done = refl
  elements_form-bare s last (f then fs) =
      both_same (element_form (sort_before_fields s last (bare_fields fs)) (bare_field f)) (element_form (sort_before_fields s last fs) f) (elements_form s last (bare_fields fs)) (elements_form s last fs)
      (ap (λ r. element_form r (bare_field f)) (sort_before_fields-bare s last fs) ∙ element_form-bare (sort_before_fields s last fs) f) (elements_form-bare s last fs)

  element_form-bare : (s : Sort) (f : Field) → element_form s (bare_field f) ≡ element_form s f
  element_form-bare s missing = refl
  element_form-bare s (one t) = has_form-bare s t
  element_form-bare s (many ts) = refl
  element_form-bare s (statements ts) = refl

-- SIZE

mutual
  pub tree_size-bare : (t : Tree) → tree_size (bare t) ≡ tree_size t
  tree_size-bare (node k l fs) = rw (fields_size-bare fs) refl

  fields_size-bare : (fs : Fields) → fields_size (bare_fields fs) ≡ fields_size fs
  fields_size-bare done = refl
  fields_size-bare (f then fs) = rw (field_size-bare f, fields_size-bare fs) refl

  field_size-bare : (f : Field) → field_size (bare_field f) ≡ field_size f
  field_size-bare missing = refl
  field_size-bare (one t) = tree_size-bare t
  field_size-bare (many ts) = trees_size-bare ts
  field_size-bare (statements ts) = trees_size-bare ts

  trees_size-bare : (ts : Trees) → trees_size (bare_trees ts) ≡ trees_size ts
  trees_size-bare empty = refl
  trees_size-bare (t before ts) = rw (tree_size-bare t, trees_size-bare ts) refl
