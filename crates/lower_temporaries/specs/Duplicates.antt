-- What duplication of an expression leaves: its first use, and so many further ones, each as it is seen.
use Rattle.std.specs.Prelude.{◌≡◌, ℕ, zero, suc, ◌+◌, ◌*◌, Bool, true, false, List, [], ◌∷◌, Option, is_some, length}
use Rattle.es_tree.specs.Tree.{Tree, tree_size}
use Rattle.es_scope.specs.ContextSymbols.{steady_symbols_of}
use Rattle.es_scope.specs.declared.context.TraverseCtx.{TraverseCtx}
use Rattle.es_runs.specs.Duplication.{duplicate_base}
use Rattle.es_runs.specs.Rules.{assign_node}
use Rattle.es_resolution.specs.Declarations.{Bound}
use Rattle.es_steps.specs.Duplication.{IsDuplicated, IsNext, is_among_symbols, is_read_again}
use Rattle.es_steps.specs.Nodes.{identifier}
use Rattle.es_steps.specs.Steps.{Whole}
use Rattle.es_changes.specs.Moments.{whole_at}
use Rattle.lower_temporaries.specs.Takings.{Takes, moment_of}
use Rattle.lower_temporaries.specs.declared.state.TransformState.{TransformState}

-- the symbols whose names may be read again: all, or, where it counts whether a name is written, those that no reference writes
abbrev pub read_again_by : Bool → (ℕ → Bool) → Option ℕ → Bool
read_again_by true steady s = is_among_symbols steady s
read_again_by false steady s = is_some s

abbrev pub read_again_in : Bool → TraverseCtx TransformState → Option ℕ → Bool
read_again_in counts ctx s = read_again_by counts (steady_symbols_of ctx) s

-- duplication where names of these symbols are read again
pub data IsDuplicatedBy (names : Option ℕ → Bool) (w : Whole) : List Bound → Tree → Tree → Tree → Type 0 where
  as_it_is : {e : Tree} → is_read_again names e ≡ true → IsDuplicatedBy names w [] e e e
  in_temporary : {e : Tree} {x : Bound} → is_read_again names e ≡ false → IsNext w (duplicate_base e) x → IsDuplicatedBy names w (x ∷ []) e (assign_node (identifier x) e) (identifier x)

-- that of the rules where it counts whether a name is written
abbrev pub IsDuplicatedWhere : Bool → Whole → List Bound → Tree → Tree → Tree → Type 0
IsDuplicatedWhere true w bs e first again = IsDuplicated w bs e first again
IsDuplicatedWhere false w bs e first again = IsDuplicatedBy is_some w bs e first again

-- so many of the same
abbrev pub repeated : ℕ → Tree → List Tree
repeated zero t = []
repeated (suc n) t = t ∷ repeated n t

-- Each made node has an id of its own, the declarators of temporaries among them.
pub record Duplicates (written_counts : Bool) (count : ℕ) (old new : TraverseCtx TransformState) (e first : Tree) (others : List Tree) : Type 0 where
  pub made : List Bound
  pub again : Tree
  pub is_duplicated : IsDuplicatedWhere written_counts (whole_at (moment_of old)) made e first again
  pub others_are : others ≡ repeated count again
  pub ids : ℕ
  pub takes : Takes made ids (moment_of old) (moment_of new)
  pub counted : ids + tree_size e ≡ tree_size first + count * tree_size again + 2 * length made
