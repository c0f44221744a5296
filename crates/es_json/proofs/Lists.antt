-- Lists of values.
use Rattle.std.proofs.Common.{◌≡◌, suc, ◌+◌, List, [], ◌∷◌, length, nat_eq, Option, Some, refl, ap, add-one, ◌≤◌, arith}
use Rattle.serde_json.specs.Data.{Items}
use Rattle.serde_json.specs.View.{items_view}
use Rattle.serde_json.specs.declared.value.Value.{Value}
use Rattle.es_tree.specs.declared.table.Sort.{Sort}
use Rattle.es_json.specs.Values.{items_count, counts_fit, sort_before}

items_count-items_view : (vs : List Value) → items_count (items_view vs) ≡ length vs
items_count-items_view [] = refl
items_count-items_view (v ∷ vs) = ap suc (items_count-items_view vs)

pub counts_fit-items_view : (qs es : List Value) (a b : Option Items) → Some (items_view qs) ≡ a → Some (items_view es) ≡ b → nat_eq (length qs) (length es + 1) ≡ counts_fit a b
counts_fit-items_view qs es a b p q = rw (← p, ← q, items_count-items_view qs, items_count-items_view es, add-one)

pub sort_before-some : (s last : Sort) (vs : List Value) → 1 ≤ length vs → s ≡ sort_before s last (items_view vs)
sort_before-some s last [] h = absurd (omega arith)
sort_before-some s last (v ∷ vs) h = refl
