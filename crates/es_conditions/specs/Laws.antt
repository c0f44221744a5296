-- The laws of the conditions of a visit by the core lowerings: they go inward, and each lowering brings them about, or keeps them.
use Rattle.std.specs.Prelude.{◌≡◌, ◌&&◌, List, Bool, true, false, is_some}
use Rattle.es_tree.specs.CoreStaticRules.{has_optional}
use Rattle.es_tree.specs.HasForm.{has_form}
use Rattle.es_tree.specs.Parens.{without_parens}
use Rattle.es_tree.specs.Tree.{Tree, node, Label, done, ◌then◌, Field, missing, one, many, Trees}
use Rattle.es_tree.specs.declared.ast_type.AstType.TheVariants.{CallExpression, CatchClause, ChainExpression}
use Rattle.es_tree.specs.declared.options.EnvOptions.{EnvOptions}
use Rattle.es_tree.specs.declared.table.Sort.{Sort}
use Rattle.es_tree.specs.declared.table.Sort.TheVariants.{Expression as s-Expression}
use Rattle.es_resolution.specs.Declarations.{Bound}
use Rattle.es_runs.specs.Alike.Level.{a_callee}
use Rattle.es_runs.specs.OptionalChaining.{takes_value}
use Rattle.es_runs.specs.Rules.{strays}
use Rattle.es_steps.specs.Exponentiation.{ExponentiationRule}
use Rattle.es_steps.specs.LogicalAssignment.{LogicalAssignmentRule}
use Rattle.es_steps.specs.Nodes.{identifier}
use Rattle.es_steps.specs.NullishCoalescing.{NullishCoalescingRule}
use Rattle.es_steps.specs.ObjectSpread.{SpreadRule}
use Rattle.es_steps.specs.Open.{is_body, opened_fields}
use Rattle.es_steps.specs.OptionalChaining.{OptionalChainingRule}
use Rattle.es_steps.specs.RestAssignments.{RestAssignmentRule}
use Rattle.es_steps.specs.Slots.{holds, in_open_slot, is_slot}
use Rattle.es_steps.specs.Steps.{Site, Whole, site_in}
use Rattle.es_steps.specs.WrapRule.{called_arrow, is_wrapped_for, takes_one}
use Rattle.es_changes.specs.Conditions.{AreSound}
use Rattle.es_changes.specs.Rules.{is_asked_for}
use Rattle.es_conditions.specs.CoreConditions.{core_conditions, inside_site, is_chain_inside, is_fit, is_free, is_settled, is_wrapped, put_inside}

-- The second condition is the stronger one, differs in slots and at chains alone, and goes inward.
abbrev pub LawConditions : Type 0
LawConditions = (o : EnvOptions) → AreSound (core_conditions o)

-- SLOTS

-- A node that is no slot is wrapped; so is a slot that holds nothing that it would be wrapped for; and else the called arrow in its place.
pub record AreWrapped (o : EnvOptions) : Type 0 where
  pub elsewhere : (n : Site) (t : Tree) → is_slot n.above ≡ false → is_fit o n t ≡ true → is_wrapped o n t ≡ true
  pub held : (n : Site) (t : Tree) → holds (is_wrapped_for o) t ≡ false → is_fit o n t ≡ true → is_wrapped o n t ≡ true
  pub arrow : (n : Site) (t : Tree) → has_form s-Expression t ≡ true → is_slot n.above ≡ true → is_fit o n t ≡ true → is_wrapped o n (called_arrow t) ≡ true

abbrev pub LawSlots : Type 0
LawSlots = (o : EnvOptions) → AreWrapped o

-- ROWS

-- Where a node is known by the first test, a row acts in no open slot with a temporary, and what it leaves is known by the second.
pub record Keeps (before after : Site → Tree → Bool) (R : Site → Whole → List Bound → Tree → Tree → Type 0) : Type 0 where
  pub outside : (n : Site) (w : Whole) (bs : List Bound) (s : Sort) (t u : Tree) → has_form s t ≡ true → before n t ≡ true → R n w bs t u → (takes_one bs && in_open_slot n.above) ≡ false
  pub known : (n : Site) (w : Whole) (bs : List Bound) (s : Sort) (t u : Tree) → has_form s t ≡ true → before n t ≡ true → R n w bs t u → after n u ≡ true

-- of each row that the options ask for
pub record RowsKeep (o : EnvOptions) : Type 0 where
  pub logical_assignment : o.es2021.logical_assignment_operators ≡ true → Keeps (is_wrapped o) (is_wrapped o) LogicalAssignmentRule
  pub nullish_coalescing : o.es2020.nullish_coalescing_operator ≡ true → Keeps (is_wrapped o) (is_wrapped o) NullishCoalescingRule
  pub optional_chaining : o.es2020.optional_chaining ≡ true → Keeps (is_wrapped o) (is_free o) (OptionalChainingRule o.assumptions.no_document_all)
  pub exponentiation : o.es2016.exponentiation_operator ≡ true → Keeps (is_free o) (is_free o) ExponentiationRule
  pub object_spread : is_some o.es2018.object_rest_spread ≡ true → Keeps (is_free o) (is_free o) SpreadRule
  pub rest_assignment : is_some o.es2018.object_rest_spread ≡ true → Keeps (is_free o) (is_free o) RestAssignmentRule

abbrev pub LawRows : Type 0
LawRows = (o : EnvOptions) → RowsKeep o

-- CHAINS

abbrev pub called_by : Label → Tree → Trees → Tree
called_by l f arguments = node CallExpression l (one f then many arguments then done)

abbrev pub callee_site : Site → Label → Tree → Trees → Site
callee_site n l f arguments = inside_site (site_in n CallExpression l (opened_fields (is_body CallExpression) (one f then many arguments then done)) 0) f

pub record ChainsKnown (o : EnvOptions) : Type 0 where
  -- a chain stands where its value is taken, and has a mark
  pub value : (n : Site) (m : Label) (e : Tree) → is_wrapped o n (node ChainExpression m (one e then done)) ≡ true → takes_value n.need.level ≡ true
  pub marked : (n : Site) (m : Label) (e : Tree) → is_wrapped o n (node ChainExpression m (one e then done)) ≡ true → has_optional e ≡ true
  -- no mark stands outside chains
  pub tidy : (n : Site) (t : Tree) → is_wrapped o n t ≡ true → strays false t ≡ false
  -- the chain that a call has as its callee, maybe in parentheses, is lowered there, and so is the call (13.3.6)
  pub called : (n : Site) (w : Whole) (bs : List Bound) (sort : Sort) (l : Label) (f d : Tree) (arguments : Trees) → has_form sort (called_by l f arguments) ≡ true → is_wrapped o n (called_by l f arguments) ≡ true → is_chain_inside f ≡ true →
      OptionalChainingRule o.assumptions.no_document_all (callee_site n l f arguments) w bs (without_parens f) d → is_free o n (called_by l (put_inside f d) arguments) ≡ true
  -- it stands as a callee
  pub callee : (n : Site) (l : Label) (f : Tree) (arguments : Trees) → is_wrapped o n (called_by l f arguments) ≡ true → is_chain_inside f ≡ true → (callee_site n l f arguments).need.level ≡ a_callee
  -- a row acts in its callee in no open slot
  pub called_outside : (n : Site) (l : Label) (f : Tree) (arguments : Trees) → is_wrapped o n (called_by l f arguments) ≡ true → is_chain_inside f ≡ true → in_open_slot (callee_site n l f arguments).above ≡ false
  -- what no chain is lowered with is free
  pub settled : (n : Site) (t : Tree) → is_wrapped o n t ≡ true → is_settled o t ≡ true → is_free o n t ≡ true

abbrev pub LawChains : Type 0
LawChains = (o : EnvOptions) → o.es2020.optional_chaining ≡ true → ChainsKnown o

-- where chains aren't lowered, what is wrapped is free
abbrev pub LawChainsOff : Type 0
LawChainsOff = (o : EnvOptions) (n : Site) (t : Tree) → o.es2020.optional_chaining ≡ false → is_wrapped o n t ≡ true → is_free o n t ≡ true

-- OPTIONAL CATCH

abbrev pub catching : Label → Field → Tree → Tree
catching m parameter body = node CatchClause m (parameter then one body then done)

-- A `catch` without a parameter that takes one stays free: its body finds what is asked for as before, since the name is another.
abbrev pub LawCatch : Type 0
LawCatch = (o : EnvOptions) (n : Site) (m : Label) (body : Tree) (b : Bound) → is_asked_for b.name ≡ false → is_free o n (catching m missing body) ≡ true → is_free o n (catching m (one (identifier b)) body) ≡ true
