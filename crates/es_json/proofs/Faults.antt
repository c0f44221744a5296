-- The faults of a value are those of its node, with the faults of the values inside it.
use Rattle.std.proofs.Common.{◌≡◌, ℕ, zero, suc, ◌<◌, List, [], ◌∷◌, Option, Some, None, refl, arith}
use Rattle.serde_json.specs.Data.{Data, null, boolean, number, string, array, object, Items, no_items, item, depth, items_depth}
use Rattle.es_tree.specs.Table.{entries, field_text, rest_sort}
use Rattle.es_tree.specs.declared.ast_type.AstType.{AstType}
use Rattle.es_tree.specs.declared.table.Entry.{Entry}
use Rattle.es_tree.specs.declared.table.Sort.{Sort}
use Rattle.es_tree.specs.declared.table.Often.{Often}
use Rattle.es_tree.specs.declared.table.Often.TheVariants.{Required, Optional, List as a-List, NonEmptyList, ListWithRest, Statements, Elements, ElementsWithRest}
use Rattle.es_tree.specs.declared.table.Content.{Content}
use Rattle.es_tree.specs.declared.table.Content.TheVariants.{
  Text as c-Text,
  OptionalText as c-OptionalText,
  Flag as c-Flag,
  RequiredFlag as c-RequiredFlag,
  Refused as c-Refused,
  Child as c-Child,
}
use Rattle.es_json.specs.Values.{field_of, kind_here, sort_in, list_of, sort_before}
use Rattle.es_json.specs.Faults.{Inside, unless_null, items_faults, list_faults, child_faults, content_faults, fields_faults, kind_faults, node_faults, faults_within, faults}
use Rattle.es_json.proofs.Depth.{get_depth}

-- the two say the same of values less deep than m
abbrev AgreeBelow : ℕ → Inside → Inside → Type 0
AgreeBelow m a b = (s : Sort) (d : Data) → depth d < m → a s d ≡ b s d

abbrev IsBelow : ℕ → Option Data → Type 0
IsBelow m o = (d : Data) → o ≡ Some d → depth d < m

module _ (m : ℕ) (a b : Inside) (same : AgreeBelow m a b) where
  null-same : AgreeBelow m (unless_null a) (unless_null b)
  null-same s null h = refl
  null-same s (boolean x) h = same s (boolean x) h
  null-same s (number n) h = same s (number n) h
  null-same s (string t) h = same s (string t) h
  null-same s (array ds) h = same s (array ds) h
  null-same s (object ms) h = same s (object ms) h

  items-same : (s last : Sort) (i : ℕ) (ds : Items) → items_depth ds < m → items_faults a s last i ds ≡ items_faults b s last i ds
  items-same s last i no_items h = refl
  items-same s last i (item d ds) h = rw (same (sort_before s last ds) d (omega arith), items-same s last (suc i) ds (omega arith)) refl

  list-same : (s last : Sort) (o : Option Data) → IsBelow m o → list_faults a s last (list_of o) ≡ list_faults b s last (list_of o)
  list-same s last None h = refl
  list-same s last (Some null) h = refl
  list-same s last (Some (boolean x)) h = refl
  list-same s last (Some (number n)) h = refl
  list-same s last (Some (string t)) h = refl
  list-same s last (Some (array ds)) h = items-same s last 0 ds (omega (arith, h (array ds) refl))
  list-same s last (Some (object ms)) h = refl

module _ (m : ℕ) (a b : Inside) (same : AgreeBelow m a b) where
  child-same : (v : Data) (s : Sort) (often : Often) (o : Option Data) → IsBelow m o → child_faults a v s often o ≡ child_faults b v s often o
  child-same v s Required None h = refl
  child-same v s Required (Some d) h = same (sort_in v s) d (h d refl)
  child-same v s Optional None h = refl
  child-same v s Optional (Some d) h = null-same m a b same (sort_in v s) d (h d refl)
  child-same v s a-List o h = list-same m a b same s s o h
  child-same v s NonEmptyList o h = list-same m a b same s s o h
  child-same v s ListWithRest o h = list-same m a b same s (rest_sort s) o h
  child-same v s Statements o h = list-same m a b same s s o h
  child-same v s Elements o h = list-same m (unless_null a) (unless_null b) (null-same m a b same) s s o h
  child-same v s ElementsWithRest o h = list-same m (unless_null a) (unless_null b) (null-same m a b same) s (rest_sort s) o h

  content-same : (v : Data) (c : Content) (o : Option Data) → IsBelow m o → content_faults a v c o ≡ content_faults b v c o
  content-same v (c-Text r) o h = refl
  content-same v c-OptionalText o h = refl
  content-same v c-Flag o h = refl
  content-same v c-RequiredFlag o h = refl
  content-same v c-Refused o h = refl
  content-same v (c-Child s often) o h = child-same v s often o h

fields-same : (a b : Inside) (k : AstType) (v : Data) → AgreeBelow (depth v) a b → (es : List Entry) → fields_faults a k v es ≡ fields_faults b k v es
fields-same a b k v same [] = refl
fields-same a b k v same (e ∷ es) =
    rw (content-same (depth v) a b same v e.content (field_of e.field v) (get_depth (field_text e.field) v), fields-same a b k v same es) refl

kind-same : (a b : Inside) (o : Option AstType) (v : Data) → AgreeBelow (depth v) a b → kind_faults a o v ≡ kind_faults b o v
kind-same a b None v same = refl
kind-same a b (Some k) v same = rw (fields-same a b k v same (entries k)) refl

node-same : (a b : Inside) (s : Sort) (v : Data) → AgreeBelow (depth v) a b → node_faults a s v ≡ node_faults b s v
node-same a b s null same = refl
node-same a b s (boolean x) same = refl
node-same a b s (number n) same = refl
node-same a b s (string t) same = refl
node-same a b s (array ds) same = refl
node-same a b s (object ms) same = kind-same a b (kind_here s (object ms)) (object ms) same

within-same : (n m : ℕ) (s : Sort) (v : Data) → depth v < n → depth v < m → faults_within n s v ≡ faults_within m s v
within-same zero m s v h k = absurd (omega arith)
within-same (suc n) zero s v h k = absurd (omega arith)
within-same (suc n) (suc m) s v h k =
    node-same (faults_within n) (faults_within m) s v (λ r d below. within-same n m r d (omega arith) (omega arith))

pub faults_are : (s : Sort) (v : Data) → faults s v ≡ node_faults faults s v
unfolding faults
faults_are s v = node-same (faults_within (depth v)) faults s v (λ r d below. within-same (depth v) (suc (depth d)) r d below (omega arith))
