-- The uses of an expression that is duplicated, one after another.
use Rattle.std.specs.Prelude.{◌≡◌, ℕ, ◌+◌, ◌*◌, ◌≤◌, Bool, List}
use Rattle.es_tree.specs.Tree.{Tree, tree_size}
use Rattle.es_scope.specs.declared.context.TraverseCtx.{TraverseCtx}
use Rattle.es_steps.specs.Nodes.{identifier}
use Rattle.lower_temporaries.specs.Declarators.{bound_as}
use Rattle.lower_temporaries.specs.Duplicates.{Duplicates}
use Rattle.lower_temporaries.specs.declared.duplicate.Again.{Again}
use Rattle.lower_temporaries.specs.declared.duplicate.Again.TheVariants.{ByCopy, ByTemporary}
use Rattle.lower_temporaries.specs.declared.state.TransformState.{TransformState}

-- what is written at a further use
abbrev pub read_by : Tree → Again → Tree
read_by first ByCopy = first
read_by first (ByTemporary b) = identifier (bound_as b)

-- An expression with so many further uses, each of which is written like this: one more takes at most two nodes.
pub record DuplicatedSoFar (written_counts : Bool) (count : ℕ) (old new : TraverseCtx TransformState) (e first : Tree) (again : Again) (others : List Tree) : Type 0 where
  pub duplicates : Duplicates written_counts count old new e first others
  pub again_is : duplicates.again ≡ read_by first again
  pub small : tree_size (read_by first again) ≤ 2
  pub next : new.ast.next ≤ old.ast.next + 2 * count + 4
