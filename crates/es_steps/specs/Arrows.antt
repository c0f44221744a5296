-- Arrows (ECMA-262, 15.3): a `this` that belongs to an arrow becomes the name of its target, and an arrow without one a function.
-- `function f() { return () => this; }` becomes `function f() { var _this = this; return function () { return _this; }; }`.
use Rattle.std.specs.Prelude.{◌≡◌, ◌<◌, true, false, ◌∷◌, Some, None, codes, [], ℕ}
use Rattle.es_semantic.specs.RolesOf.{reads}
use Rattle.es_steps.specs.Nodes.{placed, identifier, body_node, return_node}
use Rattle.es_steps.specs.Open.{Pending, Additions}
use Rattle.es_steps.specs.Rules.{with_made, next_name}
use Rattle.es_steps.specs.Steps.{Whole, Ledger, ledger, Site, Spot, at_node, IsExpression}
use Rattle.es_steps.specs.ThisPlaces.{belongs_to_arrow, reaches_target, has_this}
use Rattle.es_tree.specs.Fresh.{IsFreshName, text_base}
use Rattle.es_tree.specs.Tree.{Tree, node, Label, Fields, done, ◌then◌, missing, one, many, Trees, empty, ◌before◌}
use Rattle.es_tree.specs.Words.{Text}
use Rattle.es_tree.specs.declared.ast_type.AstType.TheVariants.{ArrowFunctionExpression, FunctionBody, FunctionExpression, ThisExpression}

pub data ArrowRule : Site → Ledger → Spot → Ledger → Spot → Type 0 where
  -- the name that is pending or written for the target, where it finds its symbol
  by_name : {n : Site} {w : Whole} {p : Pending} {a : Additions} {l : Label} {x : Text} {s : ℕ} → n.role ≡ reads → belongs_to_arrow n.above ≡ true → reaches_target n.above ≡ true → n.names.scope x ≡ Some s → w.in_use x ≡ true → s < w.free_symbol →
      ArrowRule n (ledger w p (Some (record { name = x; symbol = Some s })) a) (at_node (node ThisExpression l done)) (ledger w p (Some (record { name = x; symbol = Some s })) a) (at_node (placed l (identifier (record { name = x; symbol = Some s }))))
  by_new_name : {n : Site} {w : Whole} {p : Pending} {a : Additions} {l : Label} {x : Text} → n.role ≡ reads → belongs_to_arrow n.above ≡ true → reaches_target n.above ≡ true → IsFreshName w.in_use (text_base (codes "this")) x →
      ArrowRule n (ledger w p None a) (at_node (node ThisExpression l done)) (ledger (with_made (next_name w x ∷ []) w) p (Some (next_name w x)) a) (at_node (placed l (identifier (next_name w x))))
  with_body : {n : Site} {s : Ledger} {l m : Label} {ps : Trees} {fs : Fields} → has_this (node ArrowFunctionExpression l (many ps then one (node FunctionBody m fs) then done)) ≡ false →
      ArrowRule n s (at_node (node ArrowFunctionExpression l (many ps then one (node FunctionBody m fs) then done))) s (at_node (node FunctionExpression l (missing then many ps then one (node FunctionBody m fs) then done)))
  with_expression : {n : Site} {s : Ledger} {l : Label} {ps : Trees} {e : Tree} → IsExpression e → has_this (node ArrowFunctionExpression l (many ps then one e then done)) ≡ false →
      ArrowRule n s (at_node (node ArrowFunctionExpression l (many ps then one e then done))) s (at_node (node FunctionExpression l (missing then many ps then one (body_node (return_node e before empty)) then done)))
