-- Patterns that move out of parameters keep every binding.
use Rattle.std.proofs.Common.{refl}
use Rattle.es_tree.specs.Tree.{Tree, node, ◌before◌}
use Rattle.es_tree.specs.declared.ast_type.AstType.TheVariants.{ObjectPattern}
use Rattle.es_resolution.specs.Called.{Called}
use Rattle.es_resolution.specs.Named.{Named}
use Rattle.es_steps.specs.Nodes.{joined_trees}
use Rattle.es_steps.specs.Steps.{Ledger, Site, Spot}
use Rattle.es_steps.specs.Steps.Spot.{at_node}
use Rattle.es_steps.specs.Rules.{next_name}
use Rattle.es_steps.specs.Patterns.{let_statement}
use Rattle.es_steps.specs.ParameterPatterns.{ParameterRest}
use Rattle.es_steps.specs.ParameterPatterns.MovesParameter.{moves_one}
use Rattle.es_steps.specs.ParameterPatterns.ParameterRest.{in_declaration, in_expression, in_arrow}
use Rattle.es_steps.proofs.Apartness.{moves-apart}
use Rattle.es_steps.proofs.Kept.Change.{sealed}
use Rattle.es_steps.proofs.OneName.{knowing, one-taken}
use Rattle.es_steps.proofs.RuleLaws.{AtNodes, called-only}
use Rattle.es_steps.proofs.Taken.{whole_in, NodesKept, Outcome, Lawful}
use Rattle.es_steps.proofs.ParameterMoves.{moved-inside, kept-arrow, kept-declaration, kept-expression}

pub parameter-nodes : (n : Site) (s s' : Ledger) (t u : Tree) → ParameterRest n s (at_node t) s' (at_node u) → Named (whole_in s).in_use (whole_in s).free_symbol n.role t → Called (whole_in s).called t → Outcome (NodesKept n t u) s s'
parameter-nodes n s s' t u (in_declaration {w = w} {s = y} {q = q} {a = top} {m = m} {l = l} {f = f} {x = x} fresh fname (moves_one a c ds es ts lp pf v z rest moved holds may)) used called = one-taken q y top w x fresh.free sealed refl (kept-declaration n (knowing w x fresh.free) m l (joined_trees a (v before c)) (joined_trees a (z before c)) ds (joined_trees es ts) (joined_trees es (let_statement (node ObjectPattern lp pf) (next_name w x) before ts)) (moved-inside w l a c ds es ts x fresh.free lp pf v z holds (moves-apart w (next_name w x) (node ObjectPattern lp pf) v z a c ds (joined_trees es ts) holds may called.1.1.0 called.1.1.1.0.1.0 called.1.1.1.0.1.1.0) used.1.1.0 used.1.1.1.0) f fname used)
parameter-nodes n s s' t u (in_expression {w = w} {s = y} {q = q} {a = top} {m = m} {l = l} {f = f} {x = x} fresh fname (moves_one a c ds es ts lp pf v z rest moved holds may)) used called = one-taken q y top w x fresh.free sealed refl (kept-expression n (knowing w x fresh.free) m l (joined_trees a (v before c)) (joined_trees a (z before c)) ds (joined_trees es ts) (joined_trees es (let_statement (node ObjectPattern lp pf) (next_name w x) before ts)) (moved-inside w l a c ds es ts x fresh.free lp pf v z holds (moves-apart w (next_name w x) (node ObjectPattern lp pf) v z a c ds (joined_trees es ts) holds may called.1.1.0 called.1.1.1.0.1.0 called.1.1.1.0.1.1.0) used.1.1.0 used.1.1.1.0) f fname used)
parameter-nodes n s s' t u (in_arrow {w = w} {s = y} {q = q} {a = top} {m = m} {l = l} {x = x} fresh (moves_one a c ds es ts lp pf v z rest moved holds may)) used called = one-taken q y top w x fresh.free sealed refl (kept-arrow n (knowing w x fresh.free) m l (joined_trees a (v before c)) (joined_trees a (z before c)) ds (joined_trees es ts) (joined_trees es (let_statement (node ObjectPattern lp pf) (next_name w x) before ts)) (moved-inside w l a c ds es ts x fresh.free lp pf v z holds (moves-apart w (next_name w x) (node ObjectPattern lp pf) v z a c ds (joined_trees es ts) holds may called.1.0 called.1.1.0.1.0 called.1.1.0.1.1.0) used.1.0 used.1.1.0) used)

pub parameter-only : (n : Site) (s s' : Ledger) (x y : Spot) → ParameterRest n s x s' y → AtNodes x y
parameter-only n s s' x y (in_declaration fresh f h) = tt
parameter-only n s s' x y (in_expression fresh f h) = tt
parameter-only n s s' x y (in_arrow fresh h) = tt

pub parameter-lawful : Lawful ParameterRest
parameter-lawful = called-only {R = ParameterRest} parameter-only parameter-nodes
