-- A declaration that was lowered.
use Rattle.std.specs.Prelude.{◌≡◌, List}
use Rattle.es_tree.specs.Tree.{Label, Tree, trees}
use Rattle.es_scope.specs.declared.context.TraverseCtx.{TraverseCtx}
use Rattle.es_rest_rows.specs.RestRows.{declaring}
use Rattle.lower_temporaries.specs.declared.state.TransformState.{TransformState}
use Rattle.lower_object_rest.specs.Declarators.{LowersAll}

-- It keeps its label, and its declarators were lowered.
pub record LowersDeclaration (old new : TraverseCtx TransformState) (t u : Tree) : Type 0 where
  pub label : Label
  pub first : List Tree
  pub last : List Tree
  pub was : t ≡ declaring label (trees first)
  pub becomes : u ≡ declaring label (trees last)
  pub lowers : LowersAll old new first last
