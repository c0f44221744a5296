-- The row of a walk that moves `using` out of heads of loops, told by a test of the tree alone. That the right side is silent, and that its names are in
-- use besides, is a law over whole programs (`LawHeadedSteps`).
use Rattle.std.specs.Prelude.{◌≡◌, true, Option, [], ◌∷◌}
use Rattle.es_tree.specs.Fresh.{IsFreshName, node_base}
use Rattle.es_tree.specs.Tree.{Tree, node, Label}
use Rattle.es_tree.specs.Words.{Text}
use Rattle.es_tree.specs.declared.ast_type.AstType.TheVariants.{ForOfStatement}
use Rattle.es_resolution.specs.Declarations.{Bound}
use Rattle.es_steps.specs.LoopHeads.{head_fields}
use Rattle.es_steps.specs.Open.{Additions, Pending}
use Rattle.es_steps.specs.Rules.{next_name, with_made}
use Rattle.es_steps.specs.Steps.{Ledger, Site, Spot, Whole, at_node, ledger}
use Rattle.es_steps.specs.UsingLoops.{block_head}
use Rattle.es_using_heads.specs.Heads.{moves_from_head}

pub data HeadWalkRow : Site → Ledger → Spot → Ledger → Spot → Type 0 where
  from_head : {n : Site} {w : Whole} {q : Pending} {s : Option Bound} {y : Additions} (m l k : Label) (x e b : Tree) (c : Text) → moves_from_head (head_fields l k x e b) ≡ true → IsFreshName w.in_use (node_base x) c →
      HeadWalkRow n (ledger w q s y) (at_node (node ForOfStatement m (head_fields l k x e b))) (ledger (with_made (next_name w c ∷ []) w) q s y) (at_node (node ForOfStatement m (block_head l k (next_name w c) x e b)))
