-- An optional catch (ECMA-262, 14.15) takes a parameter: `try { f(); } catch { g(); }` becomes
-- `try { f(); } catch (_unused) { g(); }`. The fresh name is bound by the clause itself, and nothing is pending.
use Rattle.std.specs.Prelude.{◌∷◌, Option, Some, codes, []}
use Rattle.es_resolution.specs.Declarations.{Bound}
use Rattle.es_steps.specs.Nodes.{identifier}
use Rattle.es_steps.specs.Open.{Pending, Additions}
use Rattle.es_steps.specs.Rules.{with_made}
use Rattle.es_steps.specs.Steps.{Whole, Ledger, ledger, Site, Spot, at_node}
use Rattle.es_tree.specs.Fresh.{IsFreshName}
use Rattle.es_tree.specs.Tree.{Tree, node, Label, done, ◌then◌, missing, one}
use Rattle.es_tree.specs.Words.{Text}
use Rattle.es_tree.specs.declared.ast_type.AstType.TheVariants.{CatchClause}

pub data CatchRule : Site → Ledger → Spot → Ledger → Spot → Type 0 where
  catches : {n : Site} {w : Whole} {p : Pending} {y : Option Bound} {a : Additions} {m : Label} {body : Tree} {x : Text} → IsFreshName w.in_use (codes "unused") x →
      CatchRule n (ledger w p y a) (at_node (node CatchClause m (missing then one body then done))) (ledger (with_made (record { name = x; symbol = Some w.free_symbol } ∷ []) w) p y a) (at_node (node CatchClause m (one (identifier (record { name = x; symbol = Some w.free_symbol })) then one body then done)))
