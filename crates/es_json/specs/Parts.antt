-- What is read of a value once its kind is known.
use Rattle.std.specs.Prelude.{◌≡◌, true, Option, MatchOption}
use Rattle.serde_json.specs.Data.{Data}
use Rattle.es_tree.specs.Tree.{Field, Fields}
use Rattle.es_tree.specs.Heads.{Head}
use Rattle.es_tree.specs.Attributes.{text_entries, flag_entries, refused_entries, child_entries, no_marks}
use Rattle.es_tree.specs.declared.ast_type.AstType.{AstType}
use Rattle.es_tree.specs.declared.table.Sort.{Sort}
use Rattle.es_tree.specs.declared.table.Often.{Often}
use Rattle.es_tree.specs.declared.table.Content.TheVariants.{Child as c-Child}
use Rattle.es_json.specs.declared.places.ElementsPlace.{ElementsPlace as Place}
use Rattle.es_json.specs.Values.{field_of, NoneStands, TextsAre, FlagsAre, list_of, value_agrees}
use Rattle.es_json.specs.Form.{ElementsPlace, elements_of, IsChild, AreFields, AreElements}

-- the place as the definition of forms has it
abbrev pub plain_place : Place → ElementsPlace
plain_place p = record { field = p.field; sort = p.sort; last = p.last }

-- what stands in a field for children
abbrev pub IsChildOf : Data → Sort → Often → Option Data → Field → Type 0
IsChildOf v s o d f = IsChild v (c-Child s o) d f

-- the children of a node of this kind
abbrev pub AreChildren : AstType → Data → Fields → Type 0
AreChildren k v fs = MatchOption (elements_of (child_entries k)) (AreFields v (child_entries k) fs) (λ p. AreElements p.sort p.last (list_of (field_of p.field v)) fs)

-- what a node of this kind says by itself and its children
abbrev pub AreParts : AstType → Data → Head → Fields → Type 0
AreParts k v h fs =
    (h.kind ≡ k) × TextsAre (text_entries k) v h.texts × FlagsAre (flag_entries k) v h.flags × (h.marks ≡ no_marks k) × AreChildren k v fs
    × NoneStands (refused_entries k) v × (value_agrees k v ≡ true)
