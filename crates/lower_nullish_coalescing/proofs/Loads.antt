-- What a `??` and its conditional weigh with what a visit may still make of them, and how many nodes they have.
use Rattle.std.proofs.Common.{◌≡◌, ◌+◌, ap, [], ◌∷◌, arith, Some, codes}
use Rattle.es_tree.specs.Names.{first_text}
use Rattle.es_tree.specs.Tree.{Tree, node, Label, done, ◌then◌, one, tree_size}
use Rattle.es_tree.specs.declared.ast_type.AstType.TheVariants.{LogicalExpression}
use Rattle.es_resolution.specs.Declarations.{Bound}
use Rattle.es_runs.specs.Rules.{tested}
use Rattle.es_steps.specs.NullishCoalescing.{tested_by}
use Rattle.es_traverse.specs.Loads.{load}

abbrev pub coalesced : Label → Tree → Tree → Tree
coalesced m l r = node LogicalExpression m (one l then one r then done)

pub coalesced-load : (m : Label) (l r : Tree) → m.texts ≡ Some (codes "??") ∷ [] → load (coalesced m l r) ≡ 29 + load l + load r
coalesced-load m l r e = rw (ap first_text e) (omega arith)

pub coalesced-size : (m : Label) (l r : Tree) → tree_size (coalesced m l r) ≡ 1 + tree_size l + tree_size r
coalesced-size m l r = omega arith

pub tested-load : (m : Label) (begin again r : Tree) → load (tested m begin again r) ≡ 7 + load begin + load again + load again + load r
tested-load m begin again r = omega arith

pub tested-size : (m : Label) (begin again r : Tree) → tree_size (tested m begin again r) ≡ 7 + tree_size begin + tree_size again + tree_size again + tree_size r
tested-size m begin again r = omega arith

pub tested_by-load : (m : Label) (x : Bound) (l r : Tree) → load (tested_by m x l r) ≡ 11 + load l + load r
tested_by-load m x l r = omega arith

pub tested_by-size : (m : Label) (x : Bound) (l r : Tree) → tree_size (tested_by m x l r) ≡ 11 + tree_size l + tree_size r
tested_by-size m x l r = omega arith
