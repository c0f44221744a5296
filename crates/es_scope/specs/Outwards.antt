-- The order of the scopes of a table.
use Rattle.std.specs.Prelude.{◌≡◌, ℕ, ◌<◌, List, Option, Some, None, length, option_and_then, option_map, slice_get}
use Rattle.es_tree.specs.Heads.{scope}
use Rattle.es_scope.specs.declared.scoping.Scope.{Scope}

-- the parent of the scope of this number, if it has one
abbrev pub parent_in : List Scope → ℕ → Option ℕ
parent_in scopes n = option_and_then (λ c. scope c.parent) (slice_get scopes n)

-- Where scopes have these parents, going outwards from this one ends: it does so from its parent, if it has one.
pub data Ends (parents : ℕ → Option ℕ) : ℕ → Type 0 where
  ends : {n : ℕ} → ((up : ℕ) → parents n ≡ Some up → Ends parents up) → Ends parents n

pub Ends-prop : (parents : ℕ → Option ℕ) (n : ℕ) → IsProp (Ends parents n)
Ends-prop parents n (ends f) (ends g) = λ i. ends (λ up e. Ends-prop parents up (f up e) (g up e) i)

-- Going outwards ends from each scope; parents are of the table, and the first scope, which is the program's, has none.
pub record AreOutwards (scopes : List Scope) : Type 0 where
  pub end : (n : ℕ) → Ends (parent_in scopes) n
  pub known : (n up : ℕ) → parent_in scopes n ≡ Some up → up < length scopes
  pub outermost : parent_in scopes 0 ≡ None

-- where scopes have these parents, whether one is this scope or stands inside it
pub data IsInside (parents : ℕ → Option ℕ) (outer : ℕ) : ℕ → Type 0 where
  is_it : {n : ℕ} → n ≡ outer → IsInside parents outer n
  further_in : {n up : ℕ} → parents n ≡ Some up → IsInside parents outer up → IsInside parents outer n

-- the same scopes, but for their bindings
pub record SameShape (old new : List Scope) : Type 0 where
  pub count : length new ≡ length old
  pub parents : (n : ℕ) → parent_in new n ≡ parent_in old n
  pub flags : (n : ℕ) → option_map (λ c. c.flags) (slice_get new n) ≡ option_map (λ c. c.flags) (slice_get old n)
