-- `debugger;` becomes `;` (ECMA-262, 14.16 and 14.4).
use Rattle.std.specs.Prelude.{◌≡◌, Bool, true, false}
use Rattle.es_tree.specs.Tree.{Tree, node, Label, Fields, done, kind_of}
use Rattle.es_tree.specs.declared.ast_type.AstType.{AstType}
use Rattle.es_tree.specs.declared.ast_type.AstType.TheVariants.{DebuggerStatement, EmptyStatement}
use Rattle.es_steps.specs.Steps.{Ledger, Site, Spot, at_node}
use Rattle.es_visit.specs.declared.hook.Hook.{Hook}
use Rattle.es_visit.specs.declared.hook.Hook.TheVariants.{Statement}
use Rattle.es_traverse.specs.Laws.{Profile, no_construct, whatever_it_is}
use Rattle.es_traverse.specs.NothingAsked.{nothing_asked}

-- the rule, wherever the statement stands
pub data Removing : Site → Ledger → Spot → Ledger → Spot → Type 0 where
  removes : {n : Site} {s : Ledger} {l : Label} → Removing n s (at_node (node DebuggerStatement l done)) s (at_node (node EmptyStatement l done))

abbrev pub is_debugger : AstType → Label → Fields → Bool
is_debugger DebuggerStatement l fs = true
is_debugger _ l fs = false

-- the node, or a `;` in the place of a `debugger;`
abbrev pub without_debugger : Tree → Tree
without_debugger (node DebuggerStatement l fs) = node EmptyStatement l fs
without_debugger (node k l fs) = node k l fs

-- the hook of statements removes them
abbrev pub debugger_constructs : Hook → AstType → Label → Fields → Bool
debugger_constructs Statement k l fs = is_debugger k l fs
debugger_constructs _ k l fs = false

-- It asks nothing of nodes.
abbrev pub removal : Profile
removal = record {
  rule = Removing;
  conditions = nothing_asked;
  counts = λ n t. true;
  leaves = λ n t. true;
  constructs = debugger_constructs;
  late_constructs = no_construct;
  counts_after = whatever_it_is;
  makes = λ t. kind_of t ≡ EmptyStatement;
  writes = λ t. ⊥;
}
