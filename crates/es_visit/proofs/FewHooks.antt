-- In a tree that has form a visit calls at most eight hooks for each node.
use Rattle.std.proofs.Common.{◌≡◌, ◌≤◌, ◌+◌, ◌-◌, ◌*◌, ℕ, List, [], ◌∷◌, refl, sym, arith, Bool, true, false, true≢false, ◌&&◌, Some, None}
use Rattle.es_tree.specs.Attributes.{child_entries}
use Rattle.es_tree.specs.Agree.{fields_agree}
use Rattle.es_tree.specs.HasForm.{has_form, fields_form, field_form, trees_form, elements_form, element_form, match_option, elements_of, is_of_sort, label_form, sort_at, sort_before_trees, sort_before_fields}
use Rattle.es_tree.specs.Table.{rest_sort}
use Rattle.es_tree.specs.Tree.{Tree, node, Label, Fields, done, ◌then◌, Field, missing, one, many, statements, Trees, empty, ◌before◌, tree_size, fields_size, field_size, trees_size}
use Rattle.es_tree.specs.declared.ast_type.AstType.{AstType}
use Rattle.es_tree.specs.declared.ast_type.AstType.TheVariants.{FunctionDeclaration}
use Rattle.es_tree.specs.declared.table.Entry.{Entry}
use Rattle.es_tree.specs.declared.table.Sort.{Sort}
use Rattle.es_tree.specs.declared.table.Often.TheVariants.{Required, Optional, List as a-List, NonEmptyList, ListWithRest, Statements}
use Rattle.es_tree.specs.declared.table.Content.{Content}
use Rattle.es_tree.specs.declared.table.Content.TheVariants.{Child}
use Rattle.es_visit.specs.Counts.{hooks_in, hooks_in_trees, all_hooks, total_in, total_at, own_parameters}

and_first : (a b : Bool) → (a && b) ≡ true → a ≡ true
and_first true b h = refl
and_first false b h = absurd (true≢false (sym h))

and_rest : (a b : Bool) → (a && b) ≡ true → b ≡ true
and_rest true b h = h
and_rest false b h = absurd (true≢false (sym h))

-- the statement lists that these entries have
abbrev list_content : Content → ℕ
list_content (Child s Statements) = 1
list_content _ = 0

abbrev list_entries : List Entry → ℕ
list_entries [] = 0
list_entries (e ∷ es) = list_content e.content + list_entries es

-- each kind has one at most, and none where it has parameters
own_lists : (k : AstType) → (own_parameters 2 k + 2 * list_entries (child_entries k)) + (2 - (own_parameters 2 k + 2 * list_entries (child_entries k))) ≡ 2
own_lists FunctionDeclaration = refl
own_lists _ = refl

mutual
  pub few_hooks : (s : Sort) (t : Tree) → has_form s t ≡ true → hooks_in t ≤ 8 * tree_size t
  few_hooks s (node k l fs) h =
      let form : match_option (elements_of (child_entries k)) (fields_form k l (child_entries k) fs) (λ p. elements_form p.sort p.last fs) ≡ true =
      and_rest (is_of_sort s k && label_form k l && fields_agree k l.texts fs) (match_option (elements_of (child_entries k)) (fields_form k l (child_entries k) fs) (λ p. elements_form p.sort p.last fs)) h in
      let inside : total_in all_hooks fs ≤ 2 * list_entries (child_entries k) + 8 * fields_size fs =
      elim (elements_of (child_entries k)) as (λ o. match_option o (fields_form k l (child_entries k) fs) (λ p. elements_form p.sort p.last fs) ≡ true → total_in all_hooks fs ≤ 2 * list_entries (child_entries k) + 8 * fields_size fs) [
        | None ↦ λ f. few_in_fields k l (child_entries k) fs f
        | Some p ↦ λ f. omega (arith, few_in_elements p.sort p.last fs f)
      ] form in
      omega (arith, inside, own_lists k)

  few_in_fields : (k : AstType) (l : Label) (es : List Entry) (fs : Fields) → fields_form k l es fs ≡ true → total_in all_hooks fs ≤ 2 * list_entries es + 8 * fields_size fs
  few_in_fields k l [] done h = omega arith
  few_in_fields k l (e ∷ es) (f then fs) h =
      omega (arith, few_in_field k l e.content f (and_first (field_form k l e.content f) (fields_form k l es fs) h), few_in_fields k l es fs (and_rest (field_form k l e.content f) (fields_form k l es fs) h))
  few_in_fields k l _ _ h = absurd (true≢false (sym h))

  few_in_elements : (s last : Sort) (fs : Fields) → elements_form s last fs ≡ true → total_in all_hooks fs ≤ 8 * fields_size fs
  few_in_elements s last done h = omega arith
  few_in_elements s last (f then fs) h =
      omega (arith, few_in_element (sort_before_fields s last fs) f (and_first (element_form (sort_before_fields s last fs) f) (elements_form s last fs) h), few_in_elements s last fs (and_rest (element_form (sort_before_fields s last fs) f) (elements_form s last fs) h))

  few_in_element : (s : Sort) (f : Field) → element_form s f ≡ true → total_at all_hooks f ≤ 8 * field_size f
  few_in_element s missing h = omega arith
  few_in_element s (one t) h = few_hooks s t h
  few_in_element s (many ts) h = absurd (true≢false (sym h))
  few_in_element s (statements ts) h = absurd (true≢false (sym h))

  few_in_field : (k : AstType) (l : Label) (c : Content) (f : Field) → field_form k l c f ≡ true → total_at all_hooks f ≤ 2 * list_content c + 8 * field_size f
  few_in_field k l (Child s Required) (one t) h = omega (arith, few_hooks (sort_at k l s) t h)
  few_in_field k l (Child s Optional) missing h = omega arith
  few_in_field k l (Child s Optional) (one t) h = omega (arith, few_hooks (sort_at k l s) t h)
  few_in_field k l (Child s a-List) (many ts) h = omega (arith, few_in_trees s s ts h)
  few_in_field k l (Child s NonEmptyList) (many (t before ts)) h = omega (arith, few_in_trees s s (t before ts) h)
  few_in_field k l (Child s ListWithRest) (many ts) h = omega (arith, few_in_trees s (rest_sort s) ts h)
  few_in_field k l (Child s Statements) (statements ts) h = omega (arith, few_in_trees s s ts h)
  few_in_field k l _ _ h = absurd (true≢false (sym h))

  few_in_trees : (s last : Sort) (ts : Trees) → trees_form s last ts ≡ true → hooks_in_trees ts ≤ 8 * trees_size ts
  few_in_trees s last empty h = omega arith
  few_in_trees s last (t before ts) h =
      omega (arith, few_hooks (sort_before_trees s last ts) t (and_first (has_form (sort_before_trees s last ts) t) (trees_form s last ts) h), few_in_trees s last ts (and_rest (has_form (sort_before_trees s last ts) t) (trees_form s last ts) h))
