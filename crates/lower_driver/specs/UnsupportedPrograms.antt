-- What a run doesn't take: the first node with a shape that its options' lowerings don't take, of a program whose exports were split, whose
-- `using` was lowered and whose patterns moved, or else one at which it can't import helpers.
use Rattle.std.specs.Prelude.{◌≡◌, Bool, List, None, Option, Some, is_some, ℕ}
use Rattle.std.specs.Option.{option_or}
use Rattle.es_tree.specs.Options.{first_fault}
use Rattle.es_tree.specs.Tree.{Tree}
use Rattle.es_tree.specs.Words.{Text}
use Rattle.es_tree.specs.declared.error.LowerError.{LowerError}
use Rattle.es_tree.specs.declared.error.LowerError.TheVariants.{Option as e-Option, OutOfMemory, Unsupported}
use Rattle.es_tree.specs.declared.error.UnsupportedKind.{UnsupportedKind}
use Rattle.es_tree.specs.declared.ids.NodeId.{NodeId}
use Rattle.es_tree.specs.declared.options.EnvOptions.{EnvOptions}
use Rattle.es_helper_calls.specs.Importing.{first_unimported, own_call}
use Rattle.es_unsupported.specs.FirstUnsupported.{first_unsupported}
use Rattle.lower_driver.specs.Moves.{Moves}
use Rattle.lower_driver.specs.Splits.{Splits, splits_exports}
use Rattle.lower_driver.specs.Tops.{Tops, lowers_top}
use Rattle.lower_driver.specs.Uses.{Heads, Uses, lowers_using}

-- of a program in which no pattern moves any more, where `using` was lowered, or wasn't, and whose source makes this use of a helper itself
abbrev pub first_refused : EnvOptions → Bool → Option ℕ → Tree → Option (UnsupportedKind × ℕ)
first_refused o made own p = option_or (first_unsupported o p) (first_unimported o made own p)

-- What is found in a source under these options, once its exports were split, its `using` was lowered and its patterns moved: such a shape and the id of its
-- node, or none.
pub record Finds (o : EnvOptions) (source : Tree) (found : Option (UnsupportedKind × ℕ)) : Type 0 where
  pub split : Tree
  pub splits : Splits (splits_exports o source) source split
  pub headed : Tree
  pub head_names : List Text
  pub heads : Heads (lowers_using o split) split headed head_names
  pub used : Tree
  pub context_names : List Text
  pub uses : Uses (lowers_using o split) headed used context_names
  pub topped : Tree
  pub top_names : List Text
  pub tops : Tops (lowers_top o split used) used topped top_names
  pub moved : Tree
  pub names : List Text
  pub moves : Moves (is_some o.es2018.object_rest_spread) topped moved names
  pub first : first_refused o (lowers_using o split) (own_call o split) moved ≡ found

abbrev pub IsUnsupported : EnvOptions → Tree → UnsupportedKind → NodeId → Type 0
IsUnsupported o p kind id = Finds o p (Some (kind, id.0))

-- such a node, or want of memory
abbrev pub IsUnsupportedOrMemory : EnvOptions → Tree → LowerError → Type 0
IsUnsupportedOrMemory o p (Unsupported kind id) = IsUnsupported o p kind id
IsUnsupportedOrMemory o p OutOfMemory = Unit {0}
IsUnsupportedOrMemory o p _ = ⊥

-- Why a program that was made as a tree is refused: what the options ask for that isn't done comes first, these after it.
abbrev pub IsTreeCauseOrMemory : EnvOptions → Tree → LowerError → Type 0
IsTreeCauseOrMemory o p (e-Option name) = first_fault o ≡ Some name
IsTreeCauseOrMemory o p (Unsupported kind id) = (first_fault o ≡ None) × IsUnsupported o p kind id
IsTreeCauseOrMemory o p OutOfMemory = Unit {0}
IsTreeCauseOrMemory o p _ = ⊥

-- the same of a program in which no pattern moves any more
abbrev pub IsFirstOrMemory : EnvOptions → Bool → Option ℕ → Tree → LowerError → Type 0
IsFirstOrMemory o made own p (Unsupported kind id) = first_refused o made own p ≡ Some (kind, id.0)
IsFirstOrMemory o made own p OutOfMemory = Unit {0}
IsFirstOrMemory o made own p _ = ⊥
