-- The canonical form has no float, so its text is known.
use Rattle.std.proofs.Common.{◌≡◌, List, [], ◌∷◌, Bool, false, Option, Some, None, Ordering, Less, Equal, Greater, nat_cmp, refl}
use Rattle.std.proofs.lemmas.Bool.{or_from, or_parts}
use Rattle.std.specs.Ordering.{match_ordering}
use Rattle.std.specs.Cmp.Lexicographic.{slice_cmp}
use Rattle.serde_json.specs.Data.{Data, Members, no_members, member, put}
use Rattle.serde_json.specs.Written.{has_float, items_have_float, members_have_float}
use Rattle.es_tree.specs.Words.{Text}
use Rattle.es_tree.specs.Table.{entries, field_text}
use Rattle.es_tree.specs.Tree.{Tree, node, Fields, done, ◌then◌, Field, missing, one, many, statements, Trees, empty, ◌before◌}
use Rattle.es_tree.specs.declared.table.Entry.{Entry}
use Rattle.es_tree.specs.declared.table.Often.{Often}
use Rattle.es_tree.specs.declared.table.Often.TheVariants.{Required, Optional, List as a-List, NonEmptyList, ListWithRest, Statements, Elements, ElementsWithRest}
use Rattle.es_tree.specs.declared.table.Content.{Content}
use Rattle.es_tree.specs.declared.table.Content.TheVariants.{
  Text as c-Text,
  OptionalText as c-OptionalText,
  Flag as c-Flag,
  RequiredFlag as c-RequiredFlag,
  Refused as c-Refused,
  Child as c-Child,
}
use Rattle.es_json.specs.Canonical.{canonical, values, field_value, tree_items, items, text_value, Rest, child_value, children_after, put_text, put_flag, put_entry, put_entries}

put_at : (o : Ordering) (k l : Text) (d e : Data) (ms puts : Members) → has_float d ≡ false → members_have_float (member l e ms) ≡ false → members_have_float puts ≡ false
    → members_have_float (match_ordering o (member k d (member l e ms)) (member l d ms) (member l e puts)) ≡ false
put_at Less k l d e ms puts g h later = or_from (has_float d) _ g h
put_at Equal k l d e ms puts g h later = or_from (has_float d) _ g (or_parts (has_float e) _ h).1
put_at Greater k l d e ms puts g h later = or_from (has_float e) _ (or_parts (has_float e) _ h).0 later

pub no_float-put : (k : Text) (d : Data) (ms : Members) → has_float d ≡ false → members_have_float ms ≡ false → members_have_float (put k d ms) ≡ false
no_float-put k d no_members g h = or_from (has_float d) _ g refl
no_float-put k d (member l e ms) g h =
    put_at (slice_cmp nat_cmp k l) k l d e ms (put k d ms) g h (no_float-put k d ms g (or_parts (has_float e) _ h).1)

-- no value of the list has a float
abbrev AreFloatless : List Data → Type 0
AreFloatless [] = Unit {0}
AreFloatless (d ∷ ds) = (has_float d ≡ false) × AreFloatless ds

record IsFloatless (r : Rest) : Type 0 where
  children : AreFloatless r.children
  members : members_have_float r.members ≡ false

no_float-items : (ds : List Data) → AreFloatless ds → items_have_float (items ds) ≡ false
no_float-items [] h = refl
no_float-items (d ∷ ds) h = or_from (has_float d) _ h.0 (no_float-items ds h.1)

no_float-text_value : (t : Option Text) → has_float (text_value t) ≡ false
no_float-text_value None = refl
no_float-text_value (Some t) = refl

no_float-first : (ds : List Data) → AreFloatless ds → has_float (child_value Required ds) ≡ false
no_float-first [] h = refl
no_float-first (d ∷ ds) h = h.0

floatless-rest : (ds : List Data) → AreFloatless ds → AreFloatless (children_after Required ds)
floatless-rest [] h = tt
floatless-rest (d ∷ ds) h = h.1

no_float-child_value : (o : Often) (ds : List Data) → AreFloatless ds → has_float (child_value o ds) ≡ false
no_float-child_value Elements ds h = no_float-items ds h
no_float-child_value ElementsWithRest ds h = no_float-items ds h
no_float-child_value Required ds h = no_float-first ds h
no_float-child_value Optional ds h = no_float-first ds h
no_float-child_value a-List ds h = no_float-first ds h
no_float-child_value NonEmptyList ds h = no_float-first ds h
no_float-child_value ListWithRest ds h = no_float-first ds h
no_float-child_value Statements ds h = no_float-first ds h

floatless-children_after : (o : Often) (ds : List Data) → AreFloatless ds → AreFloatless (children_after o ds)
floatless-children_after Elements ds h = tt
floatless-children_after ElementsWithRest ds h = tt
floatless-children_after Required ds h = floatless-rest ds h
floatless-children_after Optional ds h = floatless-rest ds h
floatless-children_after a-List ds h = floatless-rest ds h
floatless-children_after NonEmptyList ds h = floatless-rest ds h
floatless-children_after ListWithRest ds h = floatless-rest ds h
floatless-children_after Statements ds h = floatless-rest ds h

floatless-put_text : (key : Text) (r : Rest) (ts : List (Option Text)) → IsFloatless r → IsFloatless (put_text key r ts)
floatless-put_text key r [] h = record { children = h.children; members = no_float-put key _ r.members refl h.members }
floatless-put_text key r (t ∷ ts) h = record { children = h.children; members = no_float-put key _ r.members (no_float-text_value t) h.members }

floatless-put_flag : (key : Text) (r : Rest) (bs : List Bool) → IsFloatless r → IsFloatless (put_flag key r bs)
floatless-put_flag key r [] h = record { children = h.children; members = no_float-put key _ r.members refl h.members }
floatless-put_flag key r (b ∷ bs) h = record { children = h.children; members = no_float-put key _ r.members refl h.members }

floatless-put_entry : (key : Text) (k : Content) (r : Rest) → IsFloatless r → IsFloatless (put_entry key k r)
floatless-put_entry key (c-Text rule) r h = floatless-put_text key r r.texts h
floatless-put_entry key c-OptionalText r h = floatless-put_text key r r.texts h
floatless-put_entry key c-Flag r h = floatless-put_flag key r r.flags h
floatless-put_entry key c-RequiredFlag r h = floatless-put_flag key r r.flags h
floatless-put_entry key c-Refused r h = h
floatless-put_entry key (c-Child s o) r h =
    record {
      children = floatless-children_after o r.children h.children;
      members = no_float-put key _ r.members (no_float-child_value o r.children h.children) h.members;
    }

floatless-put_entries : (es : List Entry) (r : Rest) → IsFloatless r → IsFloatless (put_entries es r)
floatless-put_entries [] r h = h
floatless-put_entries (e ∷ es) r h = floatless-put_entries es _ (floatless-put_entry (field_text e.field) e.content r h)

mutual
  pub no_float-canonical : (t : Tree) → has_float (canonical t) ≡ false
  no_float-canonical (node k l fs) =
      (floatless-put_entries (entries k) _ (record { children = floatless-values fs; members = refl })).members

  floatless-values : (fs : Fields) → AreFloatless (values fs)
  floatless-values done = tt
  floatless-values (f then fs) = (no_float-field_value f, floatless-values fs)

  no_float-field_value : (f : Field) → has_float (field_value f) ≡ false
  no_float-field_value missing = refl
  no_float-field_value (one t) = no_float-canonical t
  no_float-field_value (many ts) = no_float-tree_items ts
  no_float-field_value (statements ts) = no_float-tree_items ts

  no_float-tree_items : (ts : Trees) → items_have_float (tree_items ts) ≡ false
  no_float-tree_items empty = refl
  no_float-tree_items (t before ts) = or_from (has_float (canonical t)) _ (no_float-canonical t) (no_float-tree_items ts)
