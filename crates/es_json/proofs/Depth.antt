-- What stands in a value is less deep.
use Rattle.std.proofs.Common.{◌≡◌, ℕ, zero, suc, ◌<◌, ◌≤◌, List, [], ◌∷◌, length, get_or, max, Option, Some, None, Ordering, Less, Equal, Greater, nat_cmp, refl, ap, arith}
use Rattle.std.specs.Cmp.Lexicographic.{slice_cmp}
use Rattle.std.specs.Ordering.{match_ordering}
use Rattle.serde_json.specs.Data.{Data, null, boolean, number, string, array, object, Items, no_items, Members, no_members, member, depth, items_depth, members_depth}
use Rattle.serde_json.specs.Find.{get, get_member}
use Rattle.serde_json.specs.View.{view, items_view}
use Rattle.serde_json.specs.declared.value.Value.{Value}
use Rattle.es_json.specs.Values.{list_of}

found_depth : (o : Ordering) (r : Option Data) (e d : Data) (m : ℕ) → match_ordering o r (Some e) r ≡ Some d → (r ≡ Some d → depth d ≤ m) → depth d ≤ max (depth e) m
found_depth Less r e d m is below = omega (arith, below is)
found_depth Equal r e d m is below = let same : e ≡ d = cc in omega (arith, ap depth same)
found_depth Greater r e d m is below = omega (arith, below is)

member_depth : (k : List ℕ) (ms : Members) (d : Data) → get_member k ms ≡ Some d → depth d ≤ members_depth ms
member_depth k no_members d is = absurd (cc)
member_depth k (member l e ms) d is = found_depth (slice_cmp nat_cmp k l) (get_member k ms) e d (members_depth ms) is (member_depth k ms d)

pub get_depth : (k : List ℕ) (v d : Data) → get k v ≡ Some d → depth d < depth v
get_depth k null d is = absurd (cc)
get_depth k (boolean b) d is = absurd (cc)
get_depth k (number n) d is = absurd (cc)
get_depth k (string s) d is = absurd (cc)
get_depth k (array ds) d is = absurd (cc)
get_depth k (object ms) d is = omega (arith, member_depth k ms d is)

item_depth : (vs : List Value) (i : ℕ) (d : Value) → i < length vs → depth (view (get_or vs i d)) ≤ items_depth (items_view vs)
item_depth [] i d h = absurd (omega arith)
item_depth (v ∷ vs) zero d h = omega arith
item_depth (v ∷ vs) (suc i) d h = omega (arith, item_depth vs i d (omega arith))

list_depth : (o : Option Data) (v : Data) (ds : Items) → ((d : Data) → o ≡ Some d → depth d < depth v) → Some ds ≡ list_of o → (ds ≡ no_items → ⊥) → items_depth ds < depth v
list_depth None v ds below is some = absurd (some (cc))
list_depth (Some null) v ds below is some = absurd (cc)
list_depth (Some (boolean b)) v ds below is some = absurd (cc)
list_depth (Some (number n)) v ds below is some = absurd (cc)
list_depth (Some (string s)) v ds below is some = absurd (cc)
list_depth (Some (array es)) v ds below is some = let same : ds ≡ es = cc in omega (arith, below (array es) refl, ap items_depth same)
list_depth (Some (object ms)) v ds below is some = absurd (cc)

not_empty : (vs : List Value) (i : ℕ) → i < length vs → items_view vs ≡ no_items → ⊥
not_empty [] i h e = absurd (omega arith)
not_empty (v ∷ vs) i h e = cc

-- an item of a list in a field
pub listed_depth : (k : List ℕ) (v : Data) (vs : List Value) (i : ℕ) (d : Value) → Some (items_view vs) ≡ list_of (get k v) → i < length vs → depth (view (get_or vs i d)) < depth v
listed_depth k v vs i d is h =
    omega (arith, item_depth vs i d h, list_depth (get k v) v (items_view vs) (get_depth k v) is (not_empty vs i h))
