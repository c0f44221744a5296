-- A pattern with an object rest moves out of a parameter (ECMA-262, 10.2.11): `function f({ a, ...b } = c) { g(b); }` becomes
-- `function f(_ref = c) { let { a, ...b } = _ref; g(b); }`. It is lowered where it then stands. Parameters move one at a time, and those
-- that moved before stand first in the body.
use Rattle.std.specs.Prelude.{◌≡◌, ◌&&◌, Bool, true, false, List, ◌∷◌, ◌++◌, Option, codes, []}
use Rattle.es_resolution.specs.Declarations.{Bound, declared, declared_among}
use Rattle.es_resolution.specs.Named.{Named, NamedAll}
use Rattle.es_resolution.specs.Resolved.{bound_by}
use Rattle.es_semantic.specs.RolesOf.{reads}
use Rattle.es_semantic.specs.declared.place.Binding.TheVariants.{Parameter}
use Rattle.es_semantic.specs.declared.place.Role.TheVariants.{Top, Binds}
use Rattle.es_steps.specs.Nodes.{made, identifier, joined_trees}
use Rattle.es_steps.specs.Open.{Pending, Additions}
use Rattle.es_steps.specs.Patterns.{let_statement, IsSilent, avoiding, holds_rest}
use Rattle.es_steps.specs.Rules.{with_made, next_name}
use Rattle.es_steps.specs.Steps.{Whole, Ledger, ledger, Site, Spot, at_node}
use Rattle.es_tree.specs.Fresh.{IsFreshName}
use Rattle.es_tree.specs.Names.{first_text}
use Rattle.es_tree.specs.Tree.{Tree, node, Label, Fields, done, ◌then◌, Field, missing, one, many, statements, Trees, empty, ◌before◌}
use Rattle.es_tree.specs.Words.{Text}
use Rattle.es_tree.specs.declared.ast_type.AstType.TheVariants.{ArrowFunctionExpression, AssignmentPattern, FunctionBody, FunctionDeclaration, FunctionExpression, Identifier, ObjectPattern, VariableDeclaration, VariableDeclarator}

-- a parameter that holds the pattern p, and what stays of it
pub data HoldsPattern (x : Bound) (p : Tree) : Tree → Tree → Type 0 where
  alone : HoldsPattern x p p (identifier x)
  with_default : {l : Label} {d : Tree} → IsSilent reads d → HoldsPattern x p (node AssignmentPattern l (one p then one d then done)) (node AssignmentPattern l (one (identifier x) then one d then done))

abbrev pub body_fields : Trees → Trees → Fields
body_fields ds ts = many ds then statements ts then done

-- what a body declares at its top, and by `var`
abbrev pub lexical_names : Trees → Trees → List Bound
lexical_names ds ts = declared_among false reads ds ++ (declared_among false Top ts ++ [])

abbrev pub var_names : Trees → Trees → List Bound
var_names ds ts = declared_among true reads ds ++ (declared_among true Top ts ++ [])

-- the names that the pattern binds
abbrev pub parameter_names : Tree → List Bound
parameter_names p = declared false (Binds Parameter) p

-- what stays of it holds none of these names, where it has a default
abbrev pub StandsApart : List Bound → Whole → Tree → Type 0
StandsApart bs w (node AssignmentPattern l (x then one d then fs)) = Named (avoiding bs w.in_use) w.free_symbol reads d
StandsApart bs w t = Unit {0}

-- WHEN A PARAMETER MAY MOVE, as far as look-up goes, where a stands before it and c after it, u is what stays of it, and the
-- body has the directives ds and the statements ts.
pub record MayMove (w : Whole) (p u : Tree) (a c ds ts : Trees) : Type 0 where
  -- no other parameter holds a name that p binds
  pub earlier : NamedAll (avoiding (parameter_names p) w.in_use) w.free_symbol (Binds Parameter) a
  pub later : NamedAll (avoiding (parameter_names p) w.in_use) w.free_symbol (Binds Parameter) c
  -- nor does the default of p itself
  pub own_default : StandsApart (parameter_names p) w u
  -- the body declares no name that stands in p
  pub body : Named (avoiding (lexical_names ds ts ++ var_names ds ts) w.in_use) w.free_symbol (Binds Parameter) p
  -- form: a pattern declares nothing by `var`
  pub form : declared true (Binds Parameter) p ≡ []

-- a `let` statement of a parameter that was moved
abbrev pub is_moved : List Bound → Tree → Bool
is_moved made (node VariableDeclaration l (many (node VariableDeclarator l' (one p then one (node Identifier m fs) then done) before empty) then done)) = bound_by made (first_text m.texts)
is_moved made t = false

abbrev pub are_moved : List Bound → Trees → Bool
are_moved made empty = true
are_moved made (t before ts) = is_moved made t && are_moved made ts

-- the name of a function, or none
pub data IsFunctionName : Field → Type 0 where
  nameless : IsFunctionName missing
  named : {l : Label} → IsFunctionName (one (node Identifier l done))

-- the parameters and the body before and after, where those that moved before stand first in the body
pub data MovesParameter (w : Whole) (x : Text) : Trees → Trees → Trees → Trees → Trees → Type 0 where
  moves_one : (a c ds es ts : Trees) (l : Label) (ps : Fields) (t u : Tree) → holds_rest (node ObjectPattern l ps) ≡ true → are_moved w.made es ≡ true → HoldsPattern (next_name w x) (node ObjectPattern l ps) t u →
      MayMove w (node ObjectPattern l ps) u a c ds (joined_trees es ts) →
      MovesParameter w x (joined_trees a (t before c)) (joined_trees a (u before c)) ds (joined_trees es ts) (joined_trees es (let_statement (node ObjectPattern l ps) (next_name w x) before ts))

pub data ParameterRest : Site → Ledger → Spot → Ledger → Spot → Type 0 where
  in_declaration : {n : Site} {w : Whole} {s : Option Bound} {q : Pending} {a : Additions} {m l : Label} {f : Field} {ps qs ds ts us : Trees} {x : Text} → IsFreshName w.in_use (codes "ref") x → IsFunctionName f → MovesParameter w x ps qs ds ts us →
      ParameterRest n (ledger w q s a) (at_node (node FunctionDeclaration m (f then many ps then one (node FunctionBody l (body_fields ds ts)) then done))) (ledger (with_made (next_name w x ∷ []) w) q s a)
      (at_node (node FunctionDeclaration m (f then many qs then one (node FunctionBody l (body_fields ds us)) then done)))
  in_expression : {n : Site} {w : Whole} {s : Option Bound} {q : Pending} {a : Additions} {m l : Label} {f : Field} {ps qs ds ts us : Trees} {x : Text} → IsFreshName w.in_use (codes "ref") x → IsFunctionName f → MovesParameter w x ps qs ds ts us →
      ParameterRest n (ledger w q s a) (at_node (node FunctionExpression m (f then many ps then one (node FunctionBody l (body_fields ds ts)) then done))) (ledger (with_made (next_name w x ∷ []) w) q s a)
      (at_node (node FunctionExpression m (f then many qs then one (node FunctionBody l (body_fields ds us)) then done)))
  in_arrow : {n : Site} {w : Whole} {s : Option Bound} {q : Pending} {a : Additions} {m l : Label} {ps qs ds ts us : Trees} {x : Text} → IsFreshName w.in_use (codes "ref") x → MovesParameter w x ps qs ds ts us →
      ParameterRest n (ledger w q s a) (at_node (node ArrowFunctionExpression m (many ps then one (node FunctionBody l (body_fields ds ts)) then done))) (ledger (with_made (next_name w x ∷ []) w) q s a)
      (at_node (node ArrowFunctionExpression m (many qs then one (node FunctionBody l (body_fields ds us)) then done)))
