-- Whether a tree has form: by the table of fields each node's kind may stand where it stands, and the node
-- has the texts, the truth values and the children of its kind.
use Rattle.std.specs.Prelude.{◌&&◌, ◌==◌, ◌^◌, nat_lt, List, [], ◌∷◌, length, Bool, true, false, Option, Some, None, bytes_eq, codes, if◌then◌else◌}
use Rattle.std.specs.List.{list_any}
use Rattle.es_tree.specs.Words.{Text}
use Rattle.es_tree.specs.Table.{kinds_of, field_text, rest_sort}
use Rattle.es_tree.specs.Tree.{Tree, node, Label, Fields, done, ◌then◌, Field, missing, one, many, statements, Trees, empty, ◌before◌, type_number}
use Rattle.es_tree.specs.Attributes.{text_entries, flag_entries, child_entries, texts_fit}
use Rattle.es_tree.specs.Agree.{fields_agree}
use Rattle.es_tree.specs.declared.ast_type.AstType.{AstType}
use Rattle.es_tree.specs.declared.table.FieldName.{FieldName}
use Rattle.es_tree.specs.declared.table.FieldName.TheVariants.{Computed as f-Computed, Operator as f-Operator}
use Rattle.es_tree.specs.declared.table.Entry.{Entry}
use Rattle.es_tree.specs.declared.table.Sort.{Sort}
use Rattle.es_tree.specs.declared.table.Sort.TheVariants.{Expression as s-Expression, PropertyKey as s-PropertyKey, MemberProperty as s-MemberProperty, BinaryLeft as s-BinaryLeft}
use Rattle.es_tree.specs.declared.table.Often.TheVariants.{Required, Optional, List as a-List, NonEmptyList, ListWithRest, Statements, Elements, ElementsWithRest}
use Rattle.es_tree.specs.declared.table.Content.{Content}
use Rattle.es_tree.specs.declared.table.Content.TheVariants.{Child as c-Child}

-- The elements of an array: the field, the sort of each, and the sort of the last.
pub record ElementsPlace : Type 0 where
  pub field : FieldName
  pub sort : Sort
  pub last : Sort

abbrev pub elements_by : FieldName → Content → Option ElementsPlace
elements_by f (c-Child s Elements) = Some (record { field = f; sort = s; last = s })
elements_by f (c-Child s ElementsWithRest) = Some (record { field = f; sort = s; last = rest_sort s })
elements_by f _ = None

-- the one place of an array literal or an array pattern
abbrev pub elements_of : List Entry → Option ElementsPlace
elements_of (e ∷ []) = elements_by e.field e.content
elements_of _ = None

abbrev pub same_type : AstType → AstType → Bool
same_type j k = type_number j == type_number k

-- whether a node of this kind may stand at a place of this sort
abbrev pub is_of_sort : Sort → AstType → Bool
is_of_sort s k = list_any (same_type k) (kinds_of s)

abbrev pub has_name : FieldName → Entry → Bool
has_name f e = bytes_eq (field_text f) (field_text e.field)

-- the truth value of this field, false where there is none
abbrev pub flag_of : FieldName → List Entry → List Bool → Bool
flag_of f (e ∷ es) (b ∷ bs) = if has_name f e then b else flag_of f es bs
flag_of f _ _ = false

-- the text of this field
abbrev pub text_of : FieldName → List Entry → List (Option Text) → Option Text
text_of f (e ∷ es) (t ∷ ts) = if has_name f e then t else text_of f es ts
text_of f _ _ = None

-- whether the node says that its key or property is computed
abbrev pub is_computed : AstType → Label → Bool
is_computed k l = flag_of f-Computed (flag_entries k) l.flags

-- whether the node's operator is `in`
abbrev pub is_in : AstType → Label → Bool
is_in k l = is_operator (text_of f-Operator (text_entries k) l.texts) where
  is_operator : Option Text → Bool
  is_operator (Some t) = bytes_eq t (codes "in")
  is_operator None = false

-- The sort of a place in a node: a computed key or property is any expression, and a private name stands
-- only at the left of `in`.
abbrev pub sort_at : AstType → Label → Sort → Sort
sort_at k l s-PropertyKey = if is_computed k l then s-Expression else s-PropertyKey
sort_at k l s-MemberProperty = if is_computed k l then s-Expression else s-MemberProperty
sort_at k l s-BinaryLeft = if is_in k l then s-BinaryLeft else s-Expression
sort_at k l s = s

-- what a node says beside its children
abbrev pub label_form : AstType → Label → Bool
label_form k l =
    texts_fit (text_entries k) l.texts && (length l.flags == length (flag_entries k))
    && nat_lt l.start (2 ^ 32) && nat_lt l.stop (2 ^ 32)

-- the sort of a node before these
abbrev pub sort_before_trees : Sort → Sort → Trees → Sort
sort_before_trees s last empty = last
sort_before_trees s last (t before ts) = s

abbrev pub sort_before_fields : Sort → Sort → Fields → Sort
sort_before_fields s last done = last
sort_before_fields s last (f then fs) = s

abbrev pub match_option : {A B : Type 0} → Option A → B → (A → B) → B
match_option None b f = b
match_option (Some a) b f = f a

abbrev mutual
  -- the tree has form, at a place of this sort
  pub has_form : Sort → Tree → Bool
  has_form s (node k l fs) =
      is_of_sort s k && label_form k l && fields_agree k l.texts fs
      && match_option (elements_of (child_entries k)) (fields_form k l (child_entries k) fs) (λ p. elements_form p.sort p.last fs)

  -- the elements of an array, the last of its own sort
  pub elements_form : Sort → Sort → Fields → Bool
  elements_form s last done = true
  elements_form s last (f then fs) = element_form (sort_before_fields s last fs) f && elements_form s last fs

  pub element_form : Sort → Field → Bool
  element_form s missing = true
  element_form s (one t) = has_form s t
  element_form s (many ts) = false
  element_form s (statements ts) = false

  -- the fields are those of these entries, one by one
  pub fields_form : AstType → Label → List Entry → Fields → Bool
  fields_form k l [] done = true
  fields_form k l (e ∷ es) (f then fs) = field_form k l e.content f && fields_form k l es fs
  fields_form k l _ _ = false

  pub field_form : AstType → Label → Content → Field → Bool
  field_form k l (c-Child s Required) (one t) = has_form (sort_at k l s) t
  field_form k l (c-Child s Optional) missing = true
  field_form k l (c-Child s Optional) (one t) = has_form (sort_at k l s) t
  field_form k l (c-Child s a-List) (many ts) = trees_form s s ts
  field_form k l (c-Child s NonEmptyList) (many (t before ts)) = trees_form s s (t before ts)
  field_form k l (c-Child s ListWithRest) (many ts) = trees_form s (rest_sort s) ts
  field_form k l (c-Child s Statements) (statements ts) = trees_form s s ts
  field_form k l _ _ = false

  -- the nodes of a list, the last of its own sort
  pub trees_form : Sort → Sort → Trees → Bool
  trees_form s last empty = true
  trees_form s last (t before ts) = has_form (sort_before_trees s last ts) t && trees_form s last ts
