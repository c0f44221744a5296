-- Which places of a value fail by themselves, in reading order: each place before what is inside it, and in
-- a node `type`, `start`, `end`, and the fields as the table of fields lists them, refused ones first.
use Rattle.std.specs.Prelude.{ℕ, zero, suc, ◌&&◌, ◌≡◌, ◌++◌, List, [], ◌∷◌, map, reverse, Bool, true, false, nat_lt, Option, Some, None, is_some}
use Rattle.serde_json.specs.Data.{Data, null, boolean, string, object, Items, no_items, item, depth}
use Rattle.es_tree.specs.Table.{entries, allows_text, rest_sort}
use Rattle.es_tree.specs.declared.ast_type.AstType.{AstType}
use Rattle.es_tree.specs.declared.ast_type.AstType.TheVariants.{TemplateLiteral, TryStatement, MetaProperty}
use Rattle.es_tree.specs.declared.table.FieldName.{FieldName}
use Rattle.es_tree.specs.declared.table.FieldName.TheVariants.{«Type» as f-Type, Start as f-Start, End as f-End, Quasis as f-Quasis, Handler as f-Handler, Property as f-Property}
use Rattle.es_tree.specs.declared.table.Entry.{Entry}
use Rattle.es_tree.specs.declared.table.Sort.{Sort}
use Rattle.es_tree.specs.declared.table.Often.{Often}
use Rattle.es_tree.specs.declared.table.Often.TheVariants.{Required, Optional, NonEmptyList, ListWithRest, Elements, ElementsWithRest}
use Rattle.es_tree.specs.declared.table.Content.{Content}
use Rattle.es_tree.specs.declared.table.Content.TheVariants.{
  Text as c-Text,
  OptionalText as c-OptionalText,
  Flag as c-Flag,
  RequiredFlag as c-RequiredFlag,
  Refused as c-Refused,
  Child as c-Child,
}
use Rattle.es_json.specs.declared.error.Step.{Step}
use Rattle.es_json.specs.declared.error.Step.TheVariants.{Field as s-Field, Index as s-Index}
use Rattle.es_json.specs.declared.error.ReadError.{ReadError}
use Rattle.es_json.specs.declared.error.ReadError.TheVariants.{Shape, OutOfMemory}
use Rattle.es_json.specs.Values.{field_of, kind_here, whole, sort_in, list_of, sort_before, value_agrees}

-- the steps from the whole value to a place
abbrev pub Path : Type 0
Path = List Step

-- the place itself, where it doesn't hold
abbrev pub here : Bool → List Path
here true = []
here false = [] ∷ []

-- places inside a field or an item
abbrev pub under : Step → List Path → List Path
under step paths = map (λ (path : Path). step ∷ path) paths

abbrev pub first_path_of : List Path → Option Path
first_path_of [] = None
first_path_of (path ∷ paths) = Some path

-- ---- what a place is by itself

-- an end of a span: absent, or a whole number below 2^32
abbrev pub offset_holds : Option Data → Bool
offset_holds None = true
offset_holds (Some v) = is_offset (whole v) where
  is_offset : Option ℕ → Bool
  is_offset None = false
  is_offset (Some n) = nat_lt n 4294967296

-- a list that stands is an array, and one that may not be empty has a member
abbrev pub list_holds : Often → Option Items → Bool
list_holds NonEmptyList (Some no_items) = false
list_holds o list = is_some list

-- what stands in a field, apart from the nodes there
abbrev pub content_holds : Content → Option Data → Bool
content_holds (c-Text rule) (Some (string s)) = allows_text rule s
content_holds c-OptionalText None = true
content_holds c-OptionalText (Some null) = true
content_holds c-OptionalText (Some (string s)) = true
content_holds c-Flag None = true
content_holds c-Flag (Some (boolean b)) = true
content_holds c-RequiredFlag (Some (boolean b)) = true
content_holds c-Refused None = true
content_holds c-Refused (Some null) = true
content_holds c-Refused (Some (boolean false)) = true
content_holds (c-Child s Required) o = true
content_holds (c-Child s Optional) o = true
content_holds (c-Child s often) o = list_holds often (list_of o)
content_holds _ _ = false

-- the field at which what fields ask of one another is told
abbrev pub agrees_at : AstType → FieldName → Data → Bool
agrees_at TemplateLiteral f-Quasis v = value_agrees TemplateLiteral v
agrees_at TryStatement f-Handler v = value_agrees TryStatement v
agrees_at MetaProperty f-Property v = value_agrees MetaProperty v
agrees_at _ _ v = true

-- ---- the places of a value, where `inside` has those of a node inside it

abbrev pub Inside : Type 0
Inside = Sort → Data → List Path

-- null among the elements of an array is a hole, and in a field that may be without a node, none
abbrev pub unless_null : Inside → Inside
unless_null inside s null = []
unless_null inside s v = inside s v

-- the items from the index i on, the last of its own sort
abbrev pub items_faults : Inside → Sort → Sort → ℕ → Items → List Path
items_faults inside s last i no_items = []
items_faults inside s last i (item d ds) = under (s-Index i) (inside (sort_before s last ds) d) ++ items_faults inside s last (suc i) ds

abbrev pub list_faults : Inside → Sort → Sort → Option Items → List Path
list_faults inside s last None = []
list_faults inside s last (Some ds) = items_faults inside s last 0 ds

-- the nodes of a field
abbrev pub child_faults : Inside → Data → Sort → Often → Option Data → List Path
child_faults inside v s Required None = [] ∷ []
child_faults inside v s Required (Some d) = inside (sort_in v s) d
child_faults inside v s Optional None = []
child_faults inside v s Optional (Some d) = unless_null inside (sort_in v s) d
child_faults inside v s ListWithRest o = list_faults inside s (rest_sort s) (list_of o)
child_faults inside v s Elements o = list_faults (unless_null inside) s s (list_of o)
child_faults inside v s ElementsWithRest o = list_faults (unless_null inside) s (rest_sort s) (list_of o)
child_faults inside v s _ o = list_faults inside s s (list_of o)

-- whether the elements of an array stand there
abbrev pub holds_elements : Often → Bool
holds_elements Elements = true
holds_elements ElementsWithRest = true
holds_elements _ = false

-- a list with its own failing, and likewise what stands in a field for nodes
abbrev pub whole_list_faults : Inside → Sort → Sort → Option Items → List Path
whole_list_faults inside s last list = here (is_some list) ++ list_faults inside s last list

abbrev pub whole_child_faults : Inside → Data → Sort → Often → Option Data → List Path
whole_child_faults inside v s often o = here (content_holds (c-Child s often) o) ++ child_faults inside v s often o

abbrev pub content_faults : Inside → Data → Content → Option Data → List Path
content_faults inside v (c-Child s often) o = child_faults inside v s often o
content_faults inside v _ o = []

abbrev pub field_faults : Inside → AstType → Data → Entry → List Path
field_faults inside k v e =
    under (s-Field e.field)
    (here (content_holds e.content (field_of e.field v) && agrees_at k e.field v) ++ content_faults inside v e.content (field_of e.field v))

abbrev pub fields_faults : Inside → AstType → Data → List Entry → List Path
fields_faults inside k v [] = []
fields_faults inside k v (e ∷ es) = field_faults inside k v e ++ fields_faults inside k v es

abbrev pub span_faults : Data → List Path
span_faults v =
    under (s-Field f-Start) (here (offset_holds (field_of f-Start v)))
    ++ under (s-Field f-End) (here (offset_holds (field_of f-End v)))

-- a node of this kind; where no kind is known nothing else is read
abbrev pub kind_faults : Inside → Option AstType → Data → List Path
kind_faults inside None v = under (s-Field f-Type) (here false)
kind_faults inside (Some k) v = span_faults v ++ fields_faults inside k v (entries k)

abbrev pub node_faults : Inside → Inside
node_faults inside s (object ms) = kind_faults inside (kind_here s (object ms)) (object ms)
node_faults inside s v = here false

-- those of a value that nests at most so deep
abbrev pub faults_within : ℕ → Inside
faults_within zero s v = []
faults_within (suc n) s v = node_faults (faults_within n) s v

-- All places of a value that fail by themselves, at a place of this sort.
unfoldable pub faults : Inside
faults s v = faults_within (suc (depth v)) s v

-- an error of the reader is want of memory, or tells the first of these places
abbrev pub TellsFirst : ReadError → List Path → Type 0
TellsFirst (Shape steps) paths = first_path_of paths ≡ Some (reverse steps.items)
TellsFirst OutOfMemory paths = Unit {0}
