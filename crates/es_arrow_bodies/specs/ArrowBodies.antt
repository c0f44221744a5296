-- Arrows whose body is an expression get a body of statements, so that the patterns of their parameters can move into it.
use Rattle.es_tree.specs.Tree.{Tree, node, Label, done, ◌then◌, one, many, Trees, empty, ◌before◌}
use Rattle.es_tree.specs.declared.ast_type.AstType.TheVariants.{ArrowFunctionExpression}
use Rattle.es_steps.specs.Nodes.{body_node, return_node}
use Rattle.es_steps.specs.Rules.{either_rule}
use Rattle.es_steps.specs.Steps.{IsExpression, Ledger, Site, Spot, at_node}
use Rattle.es_valid_rests.specs.RestRules.{OutsidePart}

-- An arrow whose body is an expression gets a body of statements (ECMA-262, 15.3): `a => e` becomes `a => { return e; }`.
pub data BodyRule : Site → Ledger → Spot → Ledger → Spot → Type 0 where
  returns : {n : Site} {s : Ledger} {l : Label} {ps : Trees} {e : Tree} → IsExpression e →
      BodyRule n s (at_node (node ArrowFunctionExpression l (many ps then one e then done))) s (at_node (node ArrowFunctionExpression l (many ps then one (body_node (return_node e before empty)) then done)))

-- the rules of object rests of which all is proved, and this one
abbrev pub WithBodies : Site → Ledger → Spot → Ledger → Spot → Type 0
WithBodies = either_rule OutsidePart BodyRule
