-- Loads: a part weighs no more than its load, and what the places of fields may take is a node's own allowance.
use Rattle.std.proofs.Common.{◌≡◌, ◌≤◌, ◌<◌, ◌+◌, ◌*◌, refl, sym, ap, arith, ℕ, zero, suc, length, List, [], ◌∷◌, get_or, set, Bool, true, false, if◌then◌else◌, true≢false}
use Rattle.es_tree.specs.Constructs.{any_kind, is_rest}
use Rattle.es_tree.specs.Tree.{Tree, node, Label, Fields, done, ◌then◌, Field, missing, one, many, statements, Trees, empty, ◌before◌, field_size, fields_size, tree_size, trees_size}
use Rattle.es_tree.specs.declared.ast_type.AstType.{AstType}
use Rattle.es_tree.specs.declared.ast_type.AstType.TheVariants.{ArrowFunctionExpression, AssignmentExpression, AssignmentPattern, BinaryExpression, CatchClause, LogicalExpression, ObjectTarget, PatternProperty, PropertyDefinition, SpreadElement, TargetProperty, TargetRest}
use Rattle.es_runs.specs.Weights.{own_weight, field_weight, fields_weight, trees_weight, weight}
use Rattle.es_runs.proofs.Weights.{weight-size}
use Rattle.es_steps.specs.Open.{is_body}
use Rattle.es_visit.specs.declared.hook.Hook.{Hook}
use Rattle.es_visit.specs.declared.hook.Hook.TheVariants.{Expression}
use Rattle.es_visit.proofs.Calls.{is_of_kind}
use Rattle.es_traverse.specs.Loads.{allowance, field_load, fields_allowance, fields_load, load, members_allowance, own_allowance, trees_load, wrapping, wrapping_by, writing, writing_by}
use Rattle.es_traverse.specs.Sites.{is_arrow_body, is_slot_place, may_be_slot}
use Rattle.es_traverse.specs.declared.site.Site.{Site as CodeSite}
use Rattle.es_traverse.specs.declared.site.Site.TheVariants.{ArrowBody, Slot}

-- WEIGHTS

mutual
  pub weight-loaded : (t : Tree) → weight t ≤ load t
  weight-loaded (node k l fs) = omega (arith, weight-loaded-in fs)

  pub weight-loaded-in : (fs : Fields) → fields_weight fs ≤ fields_load fs
  weight-loaded-in done = omega arith
  weight-loaded-in (f then fs) = omega (arith, weight-loaded-by f, weight-loaded-in fs)

  pub weight-loaded-by : (f : Field) → field_weight f ≤ field_load f
  weight-loaded-by missing = omega arith
  weight-loaded-by (one t) = weight-loaded t
  weight-loaded-by (many ts) = weight-loaded-among ts
  weight-loaded-by (statements ts) = weight-loaded-among ts

  pub weight-loaded-among : (ts : Trees) → trees_weight ts ≤ trees_load ts
  weight-loaded-among empty = omega arith
  weight-loaded-among (t before ts) = omega (arith, weight-loaded t, weight-loaded-among ts)

-- what a node weighs by itself is told by its label
pub own-same : (k : AstType) (l : Label) (fs gs : Fields) → own_weight k l fs ≡ own_weight k l gs
own-same LogicalExpression l fs gs = refl
own-same BinaryExpression l fs gs = refl
own-same AssignmentExpression l fs gs = refl
own-same _ l fs gs = refl

parameter-loaded : (fs : Fields) → fields_allowance CatchClause fs ≤ 2
parameter-loaded (missing then fs) = omega arith
parameter-loaded (one t then fs) = omega arith
parameter-loaded (many ts then fs) = omega arith
parameter-loaded (statements ts then fs) = omega arith
parameter-loaded done = omega arith

own-loaded : (k : AstType) (l : Label) (fs : Fields) → fields_allowance k fs ≤ 2 → own_weight k l fs + own_allowance k + fields_allowance k fs ≤ 60
own-loaded PropertyDefinition l fs h = omega (arith, h)
own-loaded AssignmentPattern l fs h = omega (arith, h)
own-loaded PatternProperty l fs h = omega (arith, h)
own-loaded ArrowFunctionExpression l fs h = omega (arith, h)
own-loaded SpreadElement l fs h = omega (arith, h)
own-loaded CatchClause l fs h = omega (arith, h)
own-loaded k l fs h = omega (arith, weight-size (node k l done), own-same k l fs done, h)

taken-apart : (b : Bool) (n : ℕ) → (if b then n else 0) ≤ n
taken-apart true n = omega arith
taken-apart false n = omega arith

-- a tree has at most 61 times its number of nodes as its load
mutual
  pub load-size : (t : Tree) → load t ≤ 61 * tree_size t
  load-size (node CatchClause l fs) = omega (arith, own-loaded CatchClause l fs (parameter-loaded fs), load-size-in fs)
  load-size (node ObjectTarget l (many ps then fs)) = omega (arith, taken-apart (any_kind is_rest ps) (members_allowance ps), load-size-members ps, load-size-in fs)
  load-size (node ObjectTarget l (missing then fs)) = omega (arith, load-size-in fs)
  load-size (node ObjectTarget l (one t then fs)) = omega (arith, load-size t, load-size-in fs)
  load-size (node ObjectTarget l (statements ts then fs)) = omega (arith, load-size-among ts, load-size-in fs)
  load-size (node ObjectTarget l done) = omega arith
  load-size (node k l fs) = omega (arith, own-loaded k l fs (omega arith), load-size-in fs)

  -- with what the members of a pattern may take
  load-size-members : (ts : Trees) → trees_load ts + members_allowance ts ≤ 61 * trees_size ts
  load-size-members empty = omega arith
  load-size-members (node TargetProperty l fs before ts) = omega (arith, load-size-in fs, load-size-members ts)
  load-size-members (node TargetRest l fs before ts) = omega (arith, load-size-in fs, load-size-members ts)
  load-size-members (node k l fs before ts) = omega (arith, load-size (node k l fs), load-size-members ts)

  pub load-size-in : (fs : Fields) → fields_load fs ≤ 61 * fields_size fs
  load-size-in done = omega arith
  load-size-in (f then fs) = omega (arith, load-size-by f, load-size-in fs)

  pub load-size-by : (f : Field) → field_load f ≤ 61 * field_size f
  load-size-by missing = omega arith
  load-size-by (one t) = load-size t
  load-size-by (many ts) = load-size-among ts
  load-size-by (statements ts) = load-size-among ts

  pub load-size-among : (ts : Trees) → trees_load ts ≤ 61 * trees_size ts
  load-size-among empty = omega arith
  load-size-among (t before ts) = omega (arith, load-size t, load-size-among ts)

-- PLACES

-- what the fields from this one on may take
abbrev pub allowance_from : AstType → ℕ → ℕ
allowance_from PropertyDefinition zero = 20
allowance_from PropertyDefinition (suc zero) = 20
allowance_from AssignmentPattern zero = 20
allowance_from AssignmentPattern (suc zero) = 20
allowance_from PatternProperty zero = 20
allowance_from ArrowFunctionExpression zero = 4
allowance_from ArrowFunctionExpression (suc zero) = 4
allowance_from _ i = 0

pub allowance-first : (k : AstType) → allowance_from k 0 ≤ own_allowance k
allowance-first PropertyDefinition = omega arith
allowance-first AssignmentPattern = omega arith
allowance-first PatternProperty = omega arith
allowance-first ArrowFunctionExpression = omega arith
allowance-first _ = omega arith

later-less : (k : AstType) (i : ℕ) → allowance_from k (suc i) ≤ allowance_from k i
later-less PropertyDefinition zero = omega arith
later-less PropertyDefinition (suc zero) = omega arith
later-less PropertyDefinition (suc (suc i)) = omega arith
later-less AssignmentPattern zero = omega arith
later-less AssignmentPattern (suc zero) = omega arith
later-less AssignmentPattern (suc (suc i)) = omega arith
later-less PatternProperty zero = omega arith
later-less PatternProperty (suc i) = omega arith
later-less ArrowFunctionExpression zero = omega arith
later-less ArrowFunctionExpression (suc zero) = omega arith
later-less ArrowFunctionExpression (suc (suc i)) = omega arith
later-less _ i = omega arith

slot-room : (k : AstType) (i : ℕ) (computed : Bool) → true ≡ may_be_slot k i computed → 20 + allowance_from k (suc i) ≤ allowance_from k i
slot-room PropertyDefinition (suc zero) computed e = omega arith
slot-room AssignmentPattern (suc zero) computed e = omega arith
slot-room PatternProperty zero computed e = omega arith
slot-room _ i computed e = absurd (true≢false e)

body-room : (k : AstType) (i : ℕ) → true ≡ is_body k i → 4 + allowance_from k (suc i) ≤ allowance_from k i
body-room ArrowFunctionExpression (suc zero) e = omega arith
body-room _ i e = absurd (true≢false e)

-- one field more
pub allowance-room : (c : CodeSite) (k : AstType) (i : ℕ) (computed : Bool) → is_slot_place c ≡ may_be_slot k i computed → is_arrow_body c ≡ is_body k i → allowance c + allowance_from k (suc i) ≤ allowance_from k i
allowance-room Slot k i computed e b = omega (arith, slot-room k i computed e)
allowance-room ArrowBody k i computed e b = omega (arith, body-room k i b)
allowance-room _ k i computed e b = omega (arith, later-less k i)

-- HOOKS

pub wrapping-within : (keeps : Bool) (h : Hook) (c : CodeSite) → wrapping_by keeps h c ≤ wrapping c
wrapping-within true Expression Slot = omega arith
wrapping-within true Expression _ = omega arith
wrapping-within true _ c = omega arith
wrapping-within false h c = omega arith

pub writing-within : (keeps : Bool) → writing_by keeps ≤ writing ArrowBody
writing-within true = omega arith
writing-within false = omega arith

-- the hook of a kind takes nothing
pub kind-takes : (keeps : Bool) (h : Hook) (c : CodeSite) → is_of_kind h ≡ true → wrapping_by keeps h c ≡ 0
kind-takes true Expression c e = absurd (true≢false (sym e))
kind-takes true _ c e = refl
kind-takes false h c e = refl

-- SUMS of which the first so many parts are visited

abbrev pub mixed : {X : Type 0} → (X → ℕ) → (X → ℕ) → ℕ → List X → ℕ
mixed w l n [] = 0
mixed w l zero (x ∷ xs) = l x + mixed w l zero xs
mixed w l (suc n) (x ∷ xs) = w x + mixed w l n xs

module _ {X : Type 0} (w l : X → ℕ) where
  mixed-set : (xs : List X) (i : ℕ) (y d : X) → i < length xs → mixed w l (suc i) (set xs i y) + l (get_or xs i d) ≡ mixed w l i xs + w y
  mixed-set [] i y d lt = absurd (omega (arith, lt))
  mixed-set (x ∷ xs) zero y d lt = omega arith
  mixed-set (x ∷ xs) (suc i) y d lt = omega (arith, mixed-set xs i y d (omega (arith, lt)))

  pub mixed-more : (xs : List X) (i : ℕ) (y d : X) → i < length xs → mixed w l (i + 1) (set xs i y) + l (get_or xs i d) ≡ mixed w l i xs + w y
  mixed-more xs i y d lt =
      let next : suc i ≡ i + 1 = omega arith in
      omega (arith, mixed-set xs i y d lt, ap (λ j. mixed w l j (set xs i y)) next)

  pub mixed-at : (xs : List X) (i : ℕ) (d : X) → i < length xs → l (get_or xs i d) ≤ mixed w l i xs
  mixed-at [] i d lt = absurd (omega (arith, lt))
  mixed-at (x ∷ xs) zero d lt = omega arith
  mixed-at (x ∷ xs) (suc i) d lt = omega (arith, mixed-at xs i d (omega (arith, lt)))
