-- Where a row acts: what is known of the worlds of source and result, and of the node.
use Rattle.std.proofs.Common.{◌≡◌, List}
use Rattle.std.specs.Prelude.{Bool, true, false, codes, not}
use Rattle.es_tree.specs.Words.{Text}
use Rattle.es_tree.specs.Tree.{Tree}
use Rattle.es_tree.specs.Walks.{all_nodes}
use Rattle.es_runs.specs.Alike.{Like, Need, SameWorld, bad_names, set_cells, touches}
use Rattle.es_runs.specs.Core.{World, is_free, meaning}
use Rattle.es_runs.specs.Core.Binding.{changeable}
use Rattle.es_runs.specs.Standing.{undeclaring}
use Rattle.es_runs.proofs.SameOthers.{SameOthers}
use Rattle.es_runs.proofs.Written.{one_of}

-- The result's world v is w with a cell for each of the names xs; w binds the names `bound`, of which nothing in the node
-- writes the steady ones, and no name of xs stands in the node or is `Math`. What isn't core is alike for both. Declarations and
-- parentheses in the node are as those of a program that has form.
pub record RowPlace (bound steady : Text → Bool) (w v : World) (xs : List Text) (n : Need) (a : Tree) : Type 0 where
  pub same : SameWorld (one_of xs) w v
  pub others : SameOthers (one_of xs) steady w v
  pub math : one_of xs (codes "Math") ≡ false
  pub cells : (x : Text) → one_of xs x ≡ true → v.scope x ≡ changeable
  pub binds : (y : Text) → bound y ≡ true → is_free (w.scope y) ≡ false
  pub steady_bound : (y : Text) → steady y ≡ true → bound y ≡ true
  pub placed : all_nodes undeclaring a ≡ true
  pub untouched : touches (bad_names (one_of xs) steady) n a ≡ false

-- a row whose two nodes are alike there
abbrev pub IsRuleAlike : (bound steady : Text → Bool) (xs : List Text) → (Need → Tree → Tree → Type 0) → Type 0
IsRuleAlike bound steady xs R = (w v : World) (n : Need) (a b : Tree) → RowPlace bound steady w v xs n a → R n a b → Like (set_cells (one_of xs)) w v n (meaning w a) (meaning v b)

-- or are where it is assumed or not that no value is `document.all`
abbrev pub IsRuleAlikeWhere : (no_all : Bool) (bound steady : Text → Bool) (xs : List Text) → (Need → Tree → Tree → Type 0) → Type 0
IsRuleAlikeWhere no_all bound steady xs R = (w v : World) (n : Need) (a b : Tree) → w.counts_all ≡ not no_all → RowPlace bound steady w v xs n a → R n a b → Like (set_cells (one_of xs)) w v n (meaning w a) (meaning v b)
