-- A target that is read and then written, as it is seen.
use Rattle.std.specs.Prelude.{◌≡◌, ℕ, ◌+◌, ◌*◌, ◌≤◌, Bool, true, false, List, [], ◌∷◌, ◌++◌, length}
use Rattle.es_tree.specs.Tree.{Tree, node, Label, done, ◌then◌, one, tree_size}
use Rattle.es_tree.specs.declared.ast_type.AstType.TheVariants.{Identifier, MemberExpression}
use Rattle.es_scope.specs.declared.context.TraverseCtx.{TraverseCtx}
use Rattle.es_resolution.specs.Declarations.{Bound}
use Rattle.es_runs.specs.Rules.{member_node}
use Rattle.es_steps.specs.Duplication.{IsDuplicated}
use Rattle.es_steps.specs.Rules.{with_made}
use Rattle.es_steps.specs.Steps.{Whole}
use Rattle.es_changes.specs.Moments.{whole_at}
use Rattle.es_traverse.specs.Loads.{load}
use Rattle.lower_temporaries.specs.Takings.{Takes, moment_of}
use Rattle.lower_temporaries.specs.declared.state.TransformState.{TransformState}

-- The temporaries that it takes, the target, what is read and what is written.
pub data TwiceTarget (w : Whole) : List Bound → Tree → Tree → Tree → Type 0 where
  twice_name : {l : Label} → TwiceTarget w [] (node Identifier l done) (node Identifier l done) (node Identifier l done)
  twice_static : {l k : Label} {o o1 o2 : Tree} {xs : List Bound} → l.flags ≡ false ∷ false ∷ [] → IsDuplicated w xs o o1 o2 →
      TwiceTarget w xs (node MemberExpression l (one o then one (node Identifier k done) then done)) (member_node false o1 (node Identifier k done)) (member_node false o2 (node Identifier k done))
  twice_computed : {l : Label} {o o1 o2 k k1 k2 : Tree} {xs ys : List Bound} → l.flags ≡ true ∷ false ∷ [] → IsDuplicated w xs o o1 o2 → IsDuplicated (with_made xs w) ys k k1 k2 →
      TwiceTarget w (xs ++ ys) (node MemberExpression l (one o then one k then done)) (member_node true o1 k1) (member_node true o2 k2)

-- A target was made into what is read and what is written. Each made node has an id of its own, the declarators of temporaries among them,
-- and the load rises by no more than this.
pub record DuplicatesTarget (old new : TraverseCtx TransformState) (target read written : Tree) : Type 0 where
  pub made : List Bound
  pub ids : ℕ
  pub twice : TwiceTarget (whole_at (moment_of old)) made target read written
  pub takes : Takes made ids (moment_of old) (moment_of new)
  pub few : ids ≤ 12
  pub nodes : tree_size read + tree_size written + 2 * length made ≤ tree_size target + ids + 1
  pub lighter : ids + 4 * length made + load read + load written ≤ load target + 27

-- the same of a member of an object and a key, with whatever label
abbrev pub DuplicatesMember : Bool → TraverseCtx TransformState → TraverseCtx TransformState → Tree → Tree → Tree → Tree → Type 0
DuplicatesMember computed old new object key read written = (l : Label) → l.flags ≡ computed ∷ false ∷ [] → DuplicatesTarget old new (node MemberExpression l (one object then one key then done)) read written

-- An expression was duplicated: a name whose symbol no reference writes is read again.
pub record DuplicatesOnce (old new : TraverseCtx TransformState) (e begin again : Tree) : Type 0 where
  pub made : List Bound
  pub ids : ℕ
  pub is_duplicated : IsDuplicated (whole_at (moment_of old)) made e begin again
  pub takes : Takes made ids (moment_of old) (moment_of new)
  pub few : ids ≤ 5
  pub counted : ids + tree_size e ≡ tree_size begin + tree_size again + 2 * length made
  pub lighter : ids + 4 * length made + load begin + load again ≤ load e + 12
