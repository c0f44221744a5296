-- The chains that are lowered (ECMA-262, 13.3.9), where they stand, and what their lowering leaves.
use Rattle.std.specs.Prelude.{◌≡◌, ℕ, ◌+◌, ◌*◌, ◌≤◌, Bool, true, false, List, length}
use Rattle.es_conditions.specs.CoreConditions.{put_inside}
use Rattle.es_runs.specs.Alike.Level.{a_callee}
use Rattle.es_runs.specs.OptionalChaining.{takes_value}
use Rattle.es_runs.specs.Rules.{strays}
use Rattle.es_changes.specs.Moments.{Moment, whole_at}
use Rattle.es_resolution.specs.Declarations.{Bound}
use Rattle.es_steps.specs.OptionalChaining.{OptionalChainingRule}
use Rattle.es_steps.specs.Steps.{Site}
use Rattle.es_traverse.specs.Loads.{load}
use Rattle.es_tree.specs.HasForm.{has_form}
use Rattle.es_tree.specs.Parens.{without_parens}
use Rattle.es_tree.specs.Tree.{Tree, kind_of, tree_size}
use Rattle.es_tree.specs.declared.ast_type.AstType.TheVariants.{ConditionalExpression}
use Rattle.es_tree.specs.declared.table.Sort.{Sort}
use Rattle.lower_temporaries.specs.Takings.{Takes}

-- a node that has form, and in which no mark stands outside a chain
pub record IsSoundNode (t : Tree) : Type 0 where
  pub sort : Sort
  pub formed : has_form sort t ≡ true
  pub tidy : strays false t ≡ false

-- what the place of a chain takes of it: it is called, or its value is taken
abbrev pub takes_by : Bool → Site → Type 0
takes_by true n = n.need.level ≡ a_callee
takes_by false n = takes_value n.need.level ≡ true

-- A node became another by the row of chains, at such places, with the temporaries declared in the innermost list.
pub record LowersAt (place : Site → Type 0) (no_all : Bool) (a : Moment) (t : Tree) (b : Moment) (u : Tree) : Type 0 where
  pub made : List Bound
  pub ids : ℕ
  pub takes : Takes made ids a b
  pub row : (n : Site) → place n → IsSoundNode t → OptionalChainingRule no_all n (whole_at a) made t u
  pub kind : kind_of u ≡ ConditionalExpression
  pub nodes : tree_size u + 2 * length made ≤ tree_size t + ids
  pub lighter : ids + 4 * length made + load u ≤ load t

-- wherever it stands
abbrev pub anywhere_at : Site → Type 0
anywhere_at n = Unit {0}

-- A chain that is a callee became a conditional, and the parentheses around it stay.
pub record LowersInside (no_all : Bool) (a : Moment) (t : Tree) (b : Moment) (u : Tree) : Type 0 where
  pub inner : Tree
  pub lowers : LowersAt (takes_by true) no_all a (without_parens t) b inner
  pub put : u ≡ put_inside t inner
