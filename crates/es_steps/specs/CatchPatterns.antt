-- A pattern with an object rest moves out of a catch clause (ECMA-262, 14.15): `catch ({ a, ...b }) { f(b); }` becomes
-- `catch (_ref) { let { a, ...b } = _ref; { f(b); } }`. It is lowered where it then stands.
use Rattle.std.specs.Prelude.{◌≡◌, true, ◌∷◌, Option, codes, []}
use Rattle.es_resolution.specs.Declarations.{Bound}
use Rattle.es_steps.specs.Nodes.{identifier, block_node}
use Rattle.es_steps.specs.Open.{Pending, Additions}
use Rattle.es_steps.specs.Patterns.{let_statement, holds_rest}
use Rattle.es_steps.specs.Rules.{with_made, next_name}
use Rattle.es_steps.specs.Steps.{Whole, Ledger, ledger, Site, Spot, at_node}
use Rattle.es_tree.specs.Fresh.{IsFreshName}
use Rattle.es_tree.specs.Tree.{Tree, node, Label, done, ◌then◌, one, statements, Trees, empty, ◌before◌}
use Rattle.es_tree.specs.Words.{Text}
use Rattle.es_tree.specs.declared.ast_type.AstType.TheVariants.{BlockStatement, CatchClause}

pub data CatchRest : Site → Ledger → Spot → Ledger → Spot → Type 0 where
  moves : {n : Site} {w : Whole} {s : Option Bound} {q : Pending} {a : Additions} {m l : Label} {p : Tree} {bs : Trees} {x : Text} → holds_rest p ≡ true → IsFreshName w.in_use (codes "ref") x →
      CatchRest n (ledger w q s a) (at_node (node CatchClause m (one p then one (node BlockStatement l (statements bs then done)) then done))) (ledger (with_made (next_name w x ∷ []) w) q s a)
      (at_node (node CatchClause m (one (identifier (next_name w x)) then one (block_node (let_statement p (next_name w x) before node BlockStatement l (statements bs then done) before empty)) then done)))
