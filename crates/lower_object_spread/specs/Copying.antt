-- How the properties of a literal are copied one by one: what was copied so far, and what stands in the place of the literal at the end.
use Rattle.std.specs.Prelude.{◌≡◌, ◌||◌, true, ℕ, ◌+◌, ◌≤◌, List, [], ◌∷◌, map, Option, Some, None, codes, is_some}
use Rattle.es_tree.specs.Constructs.{is_spread}
use Rattle.es_tree.specs.Tree.{Tree, Trees, ◌before◌, kind_of, tree_size, trees, trees_size}
use Rattle.es_tree.specs.Words.{Text}
use Rattle.es_tree.specs.declared.ast_type.AstType.TheVariants.{CallExpression}
use Rattle.es_tree.specs.declared.options.EnvOptions.{EnvOptions}
use Rattle.es_scope.specs.declared.context.TraverseCtx.{TraverseCtx}
use Rattle.es_resolution.specs.Declarations.{Bound}
use Rattle.es_resolution.specs.Seen.{seen, seen_among}
use Rattle.es_steps.specs.Nodes.{object_node}
use Rattle.es_steps.specs.ObjectRest.{helper_node}
use Rattle.es_steps.specs.ObjectSpread.{Copies, SpreadRule, last_copied}
use Rattle.es_steps.specs.Steps.{Site, Whole}
use Rattle.es_conditions.specs.CoreConditions.{is_free, is_past_chains}
use Rattle.es_traverse.specs.Laws.{Known}
use Rattle.es_traverse.specs.Loads.{load, trees_load}
use Rattle.lower_temporaries.specs.Replacings.{Replaces}
use Rattle.lower_temporaries.specs.Takings.{ReadsMore, moment_of}
use Rattle.lower_temporaries.specs.declared.state.TransformState.{TransformState}

-- THE CALL

-- `babelHelpers.objectSpread2`
abbrev pub helper : Tree
helper = helper_node (codes "objectSpread2")

-- what a copy begins with, after the copy so far and the properties since
abbrev pub arguments_before : Option Tree → List Tree → List Tree
arguments_before None ps = object_node ps ∷ []
arguments_before (Some c) [] = c ∷ []
arguments_before (Some c) (p ∷ ps) = c ∷ object_node [] ∷ object_node (p ∷ ps) ∷ []

-- the literals among them that are made
abbrev pub literals_before : Option Tree → List Tree → ℕ
literals_before None ps = 1
literals_before (Some c) [] = 0
literals_before (Some c) (p ∷ ps) = 2

-- WHAT WAS COPIED SO FAR

abbrev pub seen_copy : (ℕ → Text → Option ℕ) → Option Tree → Option Tree
seen_copy names None = None
seen_copy names (Some t) = Some (seen names t)

abbrev pub copy_size : Option Tree → ℕ
copy_size None = 0
copy_size (Some t) = tree_size t

-- with what the last call may take, which is made once something was copied
abbrev pub copy_load : Option Tree → ℕ
copy_load None = 0
copy_load (Some t) = load t + 12

-- A property was added: each way from the new copy and the properties since is one from those before it. Each node more has an id of its
-- own, and the load doesn't rise.
pub record AddsProperty (old new : TraverseCtx TransformState) (t : Tree) (c : Option Tree) (ps : List Tree) (d : Option Tree) (qs : List Tree) : Type 0 where
  pub ids : ℕ
  pub reads : ReadsMore ids old new
  pub copies : (names : ℕ → Text → Option ℕ) (ts : Trees) (u : Tree) → Copies helper (seen_copy names d) (map (seen names) qs) ts u → Copies helper (seen_copy names c) (map (seen names) ps) (seen names t before ts) u
  pub copied : is_some d ≡ (is_some c || is_spread (kind_of t))
  pub nodes : copy_size d + trees_size (trees qs) ≤ copy_size c + trees_size (trees ps) + tree_size t + ids
  pub lighter : ids + copy_load d + trees_load (trees qs) ≤ copy_load c + trees_load (trees ps) + load t

-- the last properties were added
pub record CopiesLast (old new : TraverseCtx TransformState) (c : Option Tree) (ps : List Tree) (u : Tree) : Type 0 where
  pub ids : ℕ
  pub reads : ReadsMore ids old new
  pub last : (names : ℕ → Text → Option ℕ) → seen names u ≡ last_copied helper (seen_copy names c) (map (seen names) ps)
  pub nodes : tree_size u ≤ copy_size c + trees_size (trees ps) + ids
  pub lighter : ids + load u ≤ copy_load c + trees_load (trees ps)

-- all properties were copied
pub record CopiesAll (old new : TraverseCtx TransformState) (ps : List Tree) (u : Tree) : Type 0 where
  pub ids : ℕ
  pub reads : ReadsMore ids old new
  pub copies : (names : ℕ → Text → Option ℕ) → Copies helper None [] (seen_among names (trees ps)) (seen names u)
  pub nodes : tree_size u ≤ trees_size (trees ps) + ids
  pub lighter : ids + load u ≤ trees_load (trees ps)

-- the row, where no chain stands around that is lowered
abbrev pub SpreadRow : EnvOptions → Site → Whole → List Bound → Tree → Tree → Type 0
SpreadRow o n w bs t u = SpreadRule n w bs t u × (is_past_chains o n ≡ true)

-- A literal became a call by the rule, wherever it fits, `babelHelpers` is unbound and no chain stands around that is lowered.
pub record Lowers (old new : TraverseCtx TransformState) (t u : Tree) : Type 0 where
  pub replaces : Replaces (Known (is_free old.options)) (SpreadRow old.options) (moment_of old) t (moment_of new) u
  pub made : kind_of u ≡ CallExpression
