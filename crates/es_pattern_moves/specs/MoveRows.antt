-- A pattern with an object rest moves to a declaration of its own, with a fresh name in its place: `catch ({ a, ...b }) { f(b); }` becomes
-- `catch (_ref) { let { a, ...b } = _ref; { f(b); } }`, `for (const { a, ...b } of c) f(b);` becomes
-- `for (const _ref of c) { const { a, ...b } = _ref; f(b); }`, `for ({ a, ...b } of c) f(b);` becomes
-- `for (var _ref of c) { { a, ...b } = _ref; f(b); }`, and `function f({ a, ...b } = c) { g(b); }` becomes
-- `function f(_ref = c) { let { a, ...b } = _ref; g(b); }`. An arrow function whose body is an expression gets a body of statements first:
-- `({ a, ...b }) => f(b)` becomes `({ a, ...b }) => { return f(b); }`. Each row is a part of the rules of object rests, or that of bodies.
use Rattle.std.specs.Prelude.{◌≡◌, ◌∷◌, false, true, Option, codes, []}
use Rattle.es_resolution.specs.Declarations.{Bound}
use Rattle.es_steps.specs.CatchPatterns.{CatchRest}
use Rattle.es_steps.specs.LoopHeads.{HeadRest, IsForEach, TargetHead, assigning_head, head_fields, new_head}
use Rattle.es_steps.specs.Nodes.{block_node, body_node, identifier, joined_trees, return_node}
use Rattle.es_steps.specs.Open.{Additions, Pending}
use Rattle.es_steps.specs.ParameterPatterns.{HoldsPattern, IsFunctionName, ParameterRest, are_moved, body_fields}
use Rattle.es_steps.specs.Patterns.{let_statement}
use Rattle.es_steps.specs.Rules.{either_rule, next_name, with_made}
use Rattle.es_steps.specs.Steps.{IsExpression, Ledger, Site, Spot, Whole, at_node, ledger}
use Rattle.es_tree.specs.Fresh.{IsFreshName}
use Rattle.es_tree.specs.Names.{first_text}
use Rattle.es_tree.specs.RestTargets.{is_rest_target}
use Rattle.es_tree.specs.Tree.{Field, Tree, node, Label, done, ◌then◌, many, one, statements, Trees, empty, ◌before◌}
use Rattle.es_tree.specs.Words.{Text}
use Rattle.es_tree.specs.declared.ast_type.AstType.{AstType}
use Rattle.es_tree.specs.declared.ast_type.AstType.TheVariants.{ArrowFunctionExpression, BlockStatement, CatchClause, FunctionBody, FunctionDeclaration, FunctionExpression}
use Rattle.es_arrow_bodies.specs.ArrowBodies.{BodyRule}
use Rattle.es_pattern_moves.specs.PatternMoves.{all_move, is_rest_parameter, is_value, may_move, moves_from_catch, moves_from_head}
use Rattle.es_rest_shapes.specs.RestShapes.{any_tree, is_plain_pattern}

-- the rules of object rests that move a pattern, and that by which it gets a body to move into
abbrev pub MovesOut : Site → Ledger → Spot → Ledger → Spot → Type 0
MovesOut = either_rule (either_rule CatchRest (either_rule HeadRest (either_rule TargetHead ParameterRest))) BodyRule

-- WHERE THEY ACT, as tests of the tree tell it: that names are apart. That they are in use besides is a law over whole programs
-- (`LawMoveWalks`).

-- the parameters and the statements of the body before and after: the first parameter with a rest moves, and those that moved before stand
-- first in the body
pub data MovesOne (w : Whole) (x : Text) : Trees → Trees → Trees → Trees → Type 0 where
  moves_one : (a c es ts : Trees) (p t u : Tree) → any_tree is_rest_parameter a ≡ false → is_plain_pattern p ≡ true → HoldsPattern (next_name w x) p t u → are_moved w.made es ≡ true → may_move a t c (joined_trees es ts) ≡ true →
      MovesOne w x (joined_trees a (t before c)) (joined_trees a (u before c)) (joined_trees es ts) (joined_trees es (let_statement p (next_name w x) before ts))

pub data MoveWalkRow : Site → Ledger → Spot → Ledger → Spot → Type 0 where
  from_catch : {n : Site} {w : Whole} {q : Pending} {s : Option Bound} {y : Additions} (m l : Label) (p : Tree) (bs : Trees) (x : Text) → moves_from_catch (one p then one (node BlockStatement l (statements bs then done)) then done) ≡ true → IsFreshName w.in_use (codes "ref") x →
      MoveWalkRow n (ledger w q s y) (at_node (node CatchClause m (one p then one (node BlockStatement l (statements bs then done)) then done))) (ledger (with_made (next_name w x ∷ []) w) q s y)
      (at_node (node CatchClause m (one (identifier (next_name w x)) then one (block_node (let_statement p (next_name w x) before node BlockStatement l (statements bs then done) before empty)) then done)))
  from_head : {n : Site} {w : Whole} {q : Pending} {s : Option Bound} {y : Additions} {k : AstType} (m l l' : Label) (p e b : Tree) (x : Text) → IsForEach k → moves_from_head (head_fields l l' p e b) ≡ true → IsFreshName w.in_use (codes "ref") x →
      MoveWalkRow n (ledger w q s y) (at_node (node k m (head_fields l l' p e b))) (ledger (with_made (next_name w x ∷ []) w) q s y) (at_node (node k m (new_head (first_text l.texts) (next_name w x) p e b)))
  from_target : {n : Site} {w : Whole} {q : Pending} {s : Option Bound} {y : Additions} {k : AstType} (m : Label) (t e b : Tree) (x : Text) → IsForEach k → is_rest_target (one t) ≡ true → IsFreshName w.in_use (codes "ref") x →
      MoveWalkRow n (ledger w q s y) (at_node (node k m (one t then one e then one b then done))) (ledger (with_made (next_name w x ∷ []) w) q s y) (at_node (node k m (assigning_head (next_name w x) t e b)))
  from_declaration : {n : Site} {w : Whole} {q : Pending} {s : Option Bound} {y : Additions} {f : Field} (m l : Label) (ps qs ds ts us : Trees) (x : Text) → IsFunctionName f → IsFreshName w.in_use (codes "ref") x → MovesOne w x ps qs ts us →
      MoveWalkRow n (ledger w q s y) (at_node (node FunctionDeclaration m (f then many ps then one (node FunctionBody l (body_fields ds ts)) then done))) (ledger (with_made (next_name w x ∷ []) w) q s y)
      (at_node (node FunctionDeclaration m (f then many qs then one (node FunctionBody l (body_fields ds us)) then done)))
  from_expression : {n : Site} {w : Whole} {q : Pending} {s : Option Bound} {y : Additions} {f : Field} (m l : Label) (ps qs ds ts us : Trees) (x : Text) → IsFunctionName f → IsFreshName w.in_use (codes "ref") x → MovesOne w x ps qs ts us →
      MoveWalkRow n (ledger w q s y) (at_node (node FunctionExpression m (f then many ps then one (node FunctionBody l (body_fields ds ts)) then done))) (ledger (with_made (next_name w x ∷ []) w) q s y)
      (at_node (node FunctionExpression m (f then many qs then one (node FunctionBody l (body_fields ds us)) then done)))
  from_arrow : {n : Site} {w : Whole} {q : Pending} {s : Option Bound} {y : Additions} (m l : Label) (ps qs ds ts us : Trees) (x : Text) → IsFreshName w.in_use (codes "ref") x → MovesOne w x ps qs ts us →
      MoveWalkRow n (ledger w q s y) (at_node (node ArrowFunctionExpression m (many ps then one (node FunctionBody l (body_fields ds ts)) then done))) (ledger (with_made (next_name w x ∷ []) w) q s y)
      (at_node (node ArrowFunctionExpression m (many qs then one (node FunctionBody l (body_fields ds us)) then done)))
  from_value : {n : Site} {s : Ledger} (m : Label) (ps : Trees) (e : Tree) → IsExpression e → is_value e ≡ true → all_move ps (e before empty) ≡ true →
      MoveWalkRow n s (at_node (node ArrowFunctionExpression m (many ps then one e then done))) s (at_node (node ArrowFunctionExpression m (many ps then one (body_node (return_node e before empty)) then done)))

-- THE ROWS
abbrev pub MoveRow : Site → Ledger → Spot → Ledger → Spot → Type 0
MoveRow n s x s' y = MoveWalkRow n s x s' y × MovesOut n s x s' y
