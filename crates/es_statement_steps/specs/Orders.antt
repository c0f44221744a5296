-- Steps of the lowerings in their order: where chains are lowered, each chain before the spreads in it.
use Rattle.std.specs.Prelude.{◌≡◌, ◌||◌, Bool, true}
use Rattle.es_tree.specs.Tree.{node}
use Rattle.es_tree.specs.declared.ast_type.AstType.TheVariants.{ObjectExpression}
use Rattle.es_tree.specs.declared.options.EnvOptions.{EnvOptions}
use Rattle.es_steps.specs.Slots.{is_slot}
use Rattle.es_steps.specs.Steps.{Ledger, Site, Spot}
use Rattle.es_steps.specs.Steps.Spot.{at_node}
use Rattle.es_conditions.specs.CoreConditions.{is_past_chains}
use Rattle.es_reached.specs.Reached.{built_rules}

-- the steps of a rule at such places alone
abbrev pub only_where : (Site → Spot → Bool) → (Site → Ledger → Spot → Ledger → Spot → Type 0) → Site → Ledger → Spot → Ledger → Spot → Type 0
only_where at R n s x s' y = R n s x s' y × (at n x ≡ true)

-- Where chains are lowered none stands around an object literal any more: `a?.b({ ...c })` becomes `a == null ? void 0 : a.b({ ...c })` first. Nothing is asked
-- of slots, of which programs without functions and classes have none.
abbrev pub is_in_order : EnvOptions → Site → Spot → Bool
is_in_order o n (at_node (node ObjectExpression l fs)) = is_slot n.above || is_past_chains o n
is_in_order o n x = true

abbrev pub in_order : EnvOptions → Site → Ledger → Spot → Ledger → Spot → Type 0
in_order o = only_where (is_in_order o) (built_rules o)
