-- Facts of the table of fields, each by one test.
use Rattle.std.proofs.Common.{◌≡◌, List, [], ◌∷◌, map, Bool, true, false, not, ◌&&◌, Option, Some, None, bytes_eq, refl}
use Rattle.std.specs.List.{list_any, list_all}
use Rattle.es_tree.specs.Words.{Text}
use Rattle.es_tree.specs.Table.{entries, type_name, kind_named, kinds_of, field_text}
use Rattle.es_tree.specs.Attributes.{text_entries, flag_entries, child_entries}
use Rattle.es_tree.specs.HasForm.{has_name, same_type}
use Rattle.es_tree.specs.declared.ast_type.AstType.{AstType}
use Rattle.es_tree.specs.declared.ast_type.AstType.TheVariants.{Program}
use Rattle.es_tree.specs.declared.table.FieldName.TheVariants.{«Type» as f-Type, Start as f-Start, End as f-End, Computed as f-Computed, Operator as f-Operator}
use Rattle.es_tree.specs.declared.table.Entry.{Entry}
use Rattle.es_tree.specs.declared.table.Sort.{Sort}
use Rattle.es_tree.specs.declared.table.Sort.TheVariants.{Program as s-Program, PropertyKey as s-PropertyKey, MemberProperty as s-MemberProperty, BinaryLeft as s-BinaryLeft}
use Rattle.es_tree.specs.declared.table.Content.{Content}
use Rattle.es_tree.specs.declared.table.Content.TheVariants.{Child as c-Child}

abbrev pub entry_name : Entry → Text
entry_name e = field_text e.field

abbrev pub all_distinct : List Text → Bool
all_distinct [] = true
all_distinct (x ∷ xs) = not (list_any (bytes_eq x) xs) && all_distinct xs

-- the names of all fields of a node of this kind
abbrev pub names : AstType → List Text
names k = field_text f-Type ∷ field_text f-Start ∷ field_text f-End ∷ map entry_name (entries k)

pub names-distinct : (k : AstType) → all_distinct (names k) ≡ true
names-distinct Program = refl
names-distinct _ = refl

pub children-distinct : (k : AstType) → all_distinct (map entry_name (child_entries k)) ≡ true
children-distinct Program = refl
children-distinct _ = refl

-- a kind with a place whose sort depends on a field has that field
abbrev pub has_deciding_field : AstType → Sort → Bool
has_deciding_field k s-PropertyKey = list_any (has_name f-Computed) (flag_entries k)
has_deciding_field k s-MemberProperty = list_any (has_name f-Computed) (flag_entries k)
has_deciding_field k s-BinaryLeft = list_any (has_name f-Operator) (text_entries k)
has_deciding_field k _ = true

abbrev pub content_decides : AstType → Content → Bool
content_decides k (c-Child s o) = has_deciding_field k s
content_decides k _ = true

abbrev pub decides : AstType → Entry → Bool
decides k e = content_decides k e.content

pub children-decide : (k : AstType) → list_all (decides k) (child_entries k) ≡ true
children-decide Program = refl
children-decide _ = refl

abbrev pub is_type : Option AstType → AstType → Bool
is_type None k = false
is_type (Some j) k = same_type j k

-- each kind of a sort is found by its name
abbrev pub tells_apart : Sort → Bool
tells_apart s = list_all (λ k. is_type (kind_named s (type_name k)) k) (kinds_of s)

pub sorts-tell_apart : (s : Sort) → tells_apart s ≡ true
sorts-tell_apart s-Program = refl
sorts-tell_apart _ = refl
