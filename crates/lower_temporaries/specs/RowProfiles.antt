-- What a lowering states of itself that replaces expressions by a row, before what stands inside them.
use Rattle.std.specs.Prelude.{◌&&◌, Bool, false}
use Rattle.es_tree.specs.Tree.{Tree, Label, Fields}
use Rattle.es_tree.specs.declared.ast_type.AstType.{AstType}
use Rattle.es_tree.specs.declared.options.EnvOptions.{EnvOptions}
use Rattle.es_steps.specs.Steps.{Ledger, Site, Spot}
use Rattle.es_visit.specs.declared.hook.Hook.{Hook}
use Rattle.es_visit.specs.declared.hook.Hook.TheVariants.{Expression}
use Rattle.es_conditions.specs.CoreConditions.{core_conditions}
use Rattle.es_traverse.specs.Laws.{Profile, no_construct, whatever_it_is}

-- It removes these constructs, where it is on, and is the hook of expressions.
abbrev pub constructs_where : (AstType → Label → Fields → Bool) → Bool → Hook → AstType → Label → Fields → Bool
constructs_where is on Expression k l fs = on && is k l fs
constructs_where is on _ k l fs = false

-- It counts on the first test of nodes, leaves the second, and writes nothing.
abbrev pub row_profile : EnvOptions → (Site → Tree → Bool) → (Site → Tree → Bool) → (Site → Ledger → Spot → Ledger → Spot → Type 0) → (Hook → AstType → Label → Fields → Bool) → (Tree → Type 0) → Profile
row_profile o counts leaves rule constructs makes = record {
  rule = rule;
  conditions = core_conditions o;
  counts = counts;
  leaves = leaves;
  constructs = constructs;
  late_constructs = no_construct;
  counts_after = whatever_it_is;
  makes = makes;
  writes = λ t. ⊥;
}
