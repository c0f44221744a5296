-- The rows of core programs as one rule of nodes, and names that are fresh one after the other.
use Rattle.std.proofs.Common.{◌≡◌, List, [], ◌∷◌, ◌⊎◌}
use Rattle.std.specs.Prelude.{Bool, false, bytes_eq, codes}
use Rattle.es_tree.specs.Words.{Text}
use Rattle.es_tree.specs.Fresh.{also}
use Rattle.es_tree.specs.Tree.{Tree}
use Rattle.es_runs.specs.Alike.{Need}
use Rattle.es_runs.specs.OpenRules.{logical_assignment_rule, optional_chaining_rule, nullish_coalescing_rule, exponentiation_rule}
use Rattle.es_runs.specs.OpenSteps.{Whole}

abbrev pub core_rule : Bool → Whole → List Text → Need → Tree → Tree → Type 0
core_rule no_all w xs n t u = logical_assignment_rule w xs n t u ⊎ (nullish_coalescing_rule w xs n t u ⊎ optional_chaining_rule no_all w xs n t u) ⊎ exponentiation_rule w xs n t u

-- none of the names is in use, nor the same as an earlier one, nor `Math`
pub data FreshInTurn : (Text → Bool) → List Text → Type 0 where
  no_more : {in_use : Text → Bool} → FreshInTurn in_use []
  one_more : {in_use : Text → Bool} {x : Text} {xs : List Text} → in_use x ≡ false → bytes_eq (codes "Math") x ≡ false → FreshInTurn (also x in_use) xs → FreshInTurn in_use (x ∷ xs)
