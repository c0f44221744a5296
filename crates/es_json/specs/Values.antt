-- What a field of a JSON value says by itself.
use Rattle.std.specs.Prelude.{ℕ, suc, ◌&&◌, ◌||◌, ◌==◌, ◌^◌, ◌<◌, ◌≡◌, List, [], ◌∷◌, Bool, true, false, Option, Some, None, option_and_then, bytes_eq, codes, if◌then◌else◌}
use Rattle.serde_json.specs.Data.{Data, null, boolean, string, array, Items, no_items, item}
use Rattle.serde_json.specs.Find.{get, as_str, as_number, as_u64}
use Rattle.es_tree.specs.Words.{Text}
use Rattle.es_tree.specs.Table.{kind_named, field_text, allows_text}
use Rattle.es_tree.specs.declared.ast_type.AstType.{AstType}
use Rattle.es_tree.specs.declared.ast_type.AstType.TheVariants.{TemplateLiteral, TryStatement, MetaProperty}
use Rattle.es_tree.specs.declared.table.FieldName.{FieldName}
use Rattle.es_tree.specs.declared.table.FieldName.TheVariants.{«Type» as f-Type, Computed as f-Computed, Operator as f-Operator, Quasis as f-Quasis, Expressions as f-Expressions, Handler as f-Handler, Finalizer as f-Finalizer, Meta as f-Meta, Property as f-Property}
use Rattle.es_tree.specs.declared.table.Entry.{Entry}
use Rattle.es_tree.specs.declared.table.Sort.{Sort}
use Rattle.es_tree.specs.declared.table.Sort.TheVariants.{Expression as s-Expression, PropertyKey as s-PropertyKey, MemberProperty as s-MemberProperty, BinaryLeft as s-BinaryLeft}
use Rattle.es_tree.specs.declared.table.Content.{Content}
use Rattle.es_tree.specs.declared.table.Content.TheVariants.{
  Text as c-Text,
  OptionalText as c-OptionalText,
  Flag as c-Flag,
  RequiredFlag as c-RequiredFlag,
}

-- the value of a field
abbrev pub field_of : FieldName → Data → Option Data
field_of f v = get (field_text f) v

-- the kind that the value names, where a node of this sort may stand
abbrev pub kind_here : Sort → Data → Option AstType
kind_here s v = option_and_then (kind_named s) (option_and_then as_str (field_of f-Type v))

-- a number that is whole and not negative
abbrev pub whole : Data → Option ℕ
whole v = option_and_then as_u64 (as_number v)

-- an end of a span: a whole number below 2^32, 0 where absent
abbrev pub IsOffset : Option Data → ℕ → Type 0
IsOffset None n = n ≡ 0
IsOffset (Some v) n = (whole v ≡ Some n) × (n < 2 ^ 32)

-- a text, or none
abbrev pub TextIs : Content → Option Data → Option Text → Type 0
TextIs (c-Text r) (Some (string s)) (Some t) = (t ≡ s) × (allows_text r t ≡ true)
TextIs c-OptionalText None None = Unit {0}
TextIs c-OptionalText (Some null) None = Unit {0}
TextIs c-OptionalText (Some (string s)) (Some t) = t ≡ s
TextIs _ _ _ = ⊥

-- a truth value
abbrev pub FlagIs : Content → Option Data → Bool → Type 0
FlagIs c-Flag None b = b ≡ false
FlagIs c-Flag (Some (boolean x)) b = b ≡ x
FlagIs c-RequiredFlag (Some (boolean x)) b = b ≡ x
FlagIs _ _ _ = ⊥

-- what has no form doesn't stand
abbrev pub IsAbsent : Option Data → Type 0
IsAbsent None = Unit {0}
IsAbsent (Some null) = Unit {0}
IsAbsent (Some (boolean b)) = b ≡ false
IsAbsent _ = ⊥

abbrev pub NoneStands : List Entry → Data → Type 0
NoneStands [] v = Unit {0}
NoneStands (e ∷ es) v = IsAbsent (field_of e.field v) × NoneStands es v

abbrev pub TextsAre : List Entry → Data → List (Option Text) → Type 0
TextsAre [] v [] = Unit {0}
TextsAre (e ∷ es) v (t ∷ ts) = TextIs e.content (field_of e.field v) t × TextsAre es v ts
TextsAre _ v _ = ⊥

abbrev pub FlagsAre : List Entry → Data → List Bool → Type 0
FlagsAre [] v [] = Unit {0}
FlagsAre (e ∷ es) v (b ∷ bs) = FlagIs e.content (field_of e.field v) b × FlagsAre es v bs
FlagsAre _ v _ = ⊥

-- whether the value says that its key or property is computed
abbrev pub is_computed : Data → Bool
is_computed v = is_true (field_of f-Computed v) where
  is_true : Option Data → Bool
  is_true (Some (boolean b)) = b
  is_true _ = false

-- whether the value's operator is `in`
abbrev pub is_in : Data → Bool
is_in v = is_operator (field_of f-Operator v) where
  is_operator : Option Data → Bool
  is_operator (Some (string s)) = bytes_eq s (codes "in")
  is_operator _ = false

-- The sort of a place in this value: a computed key or property is any expression, and a private name
-- stands only at the left of `in`.
abbrev pub sort_in : Data → Sort → Sort
sort_in v s-PropertyKey = if is_computed v then s-Expression else s-PropertyKey
sort_in v s-MemberProperty = if is_computed v then s-Expression else s-MemberProperty
sort_in v s-BinaryLeft = if is_in v then s-BinaryLeft else s-Expression
sort_in v s = s

-- a list, empty where absent
abbrev pub list_of : Option Data → Option Items
list_of None = Some no_items
list_of (Some (array ds)) = Some ds
list_of _ = None

abbrev pub items_count : Items → ℕ
items_count no_items = 0
items_count (item d ds) = suc (items_count ds)

-- one quasi more than expressions, where both are lists
abbrev pub counts_fit : Option Items → Option Items → Bool
counts_fit (Some qs) (Some es) = items_count qs == suc (items_count es)
counts_fit _ _ = true

-- neither absent nor null
abbrev pub stands : Option Data → Bool
stands None = false
stands (Some null) = false
stands _ = true

abbrev pub is_word : List ℕ → Option Data → Bool
is_word w (Some (string s)) = bytes_eq s w
is_word w _ = false

-- What the tree form asks of a node beside its single fields: a template has one quasi more than
-- expressions, a `try` a handler or a finalizer, and a meta property is `new.target` or `import.meta`.
abbrev pub value_agrees : AstType → Data → Bool
value_agrees TemplateLiteral v = counts_fit (list_of (field_of f-Quasis v)) (list_of (field_of f-Expressions v))
value_agrees TryStatement v = stands (field_of f-Handler v) || stands (field_of f-Finalizer v)
value_agrees MetaProperty v =
    (is_word (codes "new") (field_of f-Meta v) && is_word (codes "target") (field_of f-Property v))
    || (is_word (codes "import") (field_of f-Meta v) && is_word (codes "meta") (field_of f-Property v))
value_agrees _ v = true

-- the sort of the item before these
abbrev pub sort_before : Sort → Sort → Items → Sort
sort_before s last no_items = last
sort_before s last (item d ds) = s
