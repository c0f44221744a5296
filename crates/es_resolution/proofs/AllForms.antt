-- What the form of each node gives holds of each node of a tree of the form.
use Rattle.std.proofs.Common.{◌≡◌, List, [], ◌∷◌}
use Rattle.std.specs.Prelude.{true}
use Rattle.std.proofs.lemmas.Bool.{and_parts}
use Rattle.es_tree.specs.Tree.{Tree, node, Label, Fields, done, ◌then◌, Field, missing, one, many, statements, Trees, empty, ◌before◌}
use Rattle.es_tree.specs.Table.{rest_sort}
use Rattle.es_tree.specs.Attributes.{child_entries}
use Rattle.es_tree.specs.HasForm.{elements_of, sort_at, sort_before_trees, sort_before_fields, has_form, elements_form, element_form, fields_form, field_form, trees_form}
use Rattle.es_tree.specs.declared.ast_type.AstType.{AstType}
use Rattle.es_tree.specs.declared.table.Entry.{Entry}
use Rattle.es_tree.specs.declared.table.Sort.{Sort}
use Rattle.es_tree.specs.declared.table.Often.TheVariants.{Required, Optional, List as a-List, NonEmptyList, ListWithRest, Statements}
use Rattle.es_tree.specs.declared.table.Content.{Content}
use Rattle.es_tree.specs.declared.table.Content.TheVariants.{Child as c-Child}
use Rattle.es_tree.proofs.NodeForm.{NodeForm, node_form}
use Rattle.es_semantic.proofs.FormEdges.{by-option}

abbrev mutual
  pub All : (AstType → Label → Fields → Type 0) → Tree → Type 0
  All Q (node k l fs) = Q k l fs × AllIn Q fs

  pub AllIn : (AstType → Label → Fields → Type 0) → Fields → Type 0
  AllIn Q done = Unit {0}
  AllIn Q (f then fs) = AllBy Q f × AllIn Q fs

  pub AllBy : (AstType → Label → Fields → Type 0) → Field → Type 0
  AllBy Q missing = Unit {0}
  AllBy Q (one t) = All Q t
  AllBy Q (many ts) = AllAmong Q ts
  AllBy Q (statements ts) = AllAmong Q ts

  pub AllAmong : (AstType → Label → Fields → Type 0) → Trees → Type 0
  AllAmong Q empty = Unit {0}
  AllAmong Q (t before ts) = All Q t × AllAmong Q ts

module _ (Q : AstType → Label → Fields → Type 0) (law : (s : Sort) (k : AstType) (l : Label) (fs : Fields) → NodeForm s k l fs → Q k l fs) where
  mutual
    pub all-tree : (s : Sort) (t : Tree) → has_form s t ≡ true → All Q t
    all-tree s (node k l fs) e =
        let form = node_form s k l fs e in
        (law s k l fs form, by-option (elements_of (child_entries k)) (fields_form k l (child_entries k) fs) (λ p. elements_form p.sort p.last fs) (AllIn Q fs) form.children (λ d. all-fields k l (child_entries k) fs d) (λ p o d. all-elements p.sort p.last fs d))

    all-fields : (k : AstType) (l : Label) (es : List Entry) (fs : Fields) → fields_form k l es fs ≡ true → AllIn Q fs
    all-fields k l [] done e = tt
    all-fields k l [] (f then fs) e = absurd (cc e)
    all-fields k l (c ∷ es) done e = absurd (cc e)
    all-fields k l (c ∷ es) (f then fs) e =
        let both = and_parts (field_form k l c.content f) (fields_form k l es fs) e in
        (all-field k l c.content f both.0, all-fields k l es fs both.1)

    all-field : (k : AstType) (l : Label) (c : Content) (f : Field) → field_form k l c f ≡ true → AllBy Q f
    all-field k l (c-Child s Required) (one t) e = all-tree (sort_at k l s) t e
    all-field k l (c-Child s Optional) missing e = tt
    all-field k l (c-Child s Optional) (one t) e = all-tree (sort_at k l s) t e
    all-field k l (c-Child s a-List) (many ts) e = all-trees s s ts e
    all-field k l (c-Child s NonEmptyList) (many (t before ts)) e = all-trees s s (t before ts) e
    all-field k l (c-Child s ListWithRest) (many ts) e = all-trees s (rest_sort s) ts e
    all-field k l (c-Child s Statements) (statements ts) e = all-trees s s ts e
    all-field k l _ f e = absurd (cc e)

    all-trees : (s last : Sort) (ts : Trees) → trees_form s last ts ≡ true → AllAmong Q ts
    all-trees s last empty e = tt
    all-trees s last (t before ts) e =
        let both = and_parts (has_form (sort_before_trees s last ts) t) (trees_form s last ts) e in
        (all-tree (sort_before_trees s last ts) t both.0, all-trees s last ts both.1)

    all-elements : (s last : Sort) (fs : Fields) → elements_form s last fs ≡ true → AllIn Q fs
    all-elements s last done e = tt
    all-elements s last (f then fs) e =
        let both = and_parts (element_form (sort_before_fields s last fs) f) (elements_form s last fs) e in
        (all-element (sort_before_fields s last fs) f both.0, all-elements s last fs both.1)

    all-element : (s : Sort) (f : Field) → element_form s f ≡ true → AllBy Q f
    all-element s missing e = tt
    all-element s (one t) e = all-tree s t e
    all-element s (many ts) e = absurd (cc e)
    all-element s (statements ts) e = absurd (cc e)
