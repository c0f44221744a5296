-- Calls of `super` in the parameters of a constructor (ECMA-262, 13.3.7.1), in the body of which a `this` belongs to an arrow: the name for it is declared
-- in the body, and can't be set before. `class A extends B { constructor(a = super()) { () => this; } }`.
use Rattle.std.specs.Prelude.{◌&&◌, ◌||◌, not, Bool, false, zero, suc, ℕ}
use Rattle.es_tree.specs.Ancestors.{ancestor}
use Rattle.es_tree.specs.HasForm.{same_type}
use Rattle.es_tree.specs.Tree.{Tree, node, Fields, done, ◌then◌, Field, missing, one, many, statements, Trees, empty, ◌before◌}
use Rattle.es_tree.specs.declared.ast_type.AstType.{AstType}
use Rattle.es_tree.specs.declared.ast_type.AstType.TheVariants.{ArrowFunctionExpression, CallExpression, ThisExpression}
use Rattle.es_steps.specs.ThisPlaces.{keeps_this}
use Rattle.es_super_calls.specs.SuperCalls.{calls_it}

-- whether a `this` stands there that belongs to an arrow, where the tree itself does or doesn't; it belongs to none in what keeps a `this` of its own
abbrev mutual
  pub arrow_this : Bool → Tree → Bool
  arrow_this inside (node k l fs) = (same_type k ThisExpression && inside) || arrow_this_in (inside || same_type k ArrowFunctionExpression) (λ i. keeps_this (ancestor k l done i 0)) fs

  pub arrow_this_in : Bool → (ℕ → Bool) → Fields → Bool
  arrow_this_in inside keeps done = false
  arrow_this_in inside keeps (f then fs) = (not (keeps zero) && arrow_this_by inside f) || arrow_this_in inside (λ i. keeps (suc i)) fs

  pub arrow_this_by : Bool → Field → Bool
  arrow_this_by inside missing = false
  arrow_this_by inside (one t) = arrow_this inside t
  arrow_this_by inside (many ts) = arrow_this_among inside ts
  arrow_this_by inside (statements ts) = arrow_this_among inside ts

  pub arrow_this_among : Bool → Trees → Bool
  arrow_this_among inside empty = false
  arrow_this_among inside (t before ts) = arrow_this inside t || arrow_this_among inside ts

-- in the body of a function with these fields
abbrev pub has_arrow_this : Fields → Bool
has_arrow_this (f then ps then b then fs) = arrow_this_by false b
has_arrow_this _ = false

-- whether the node is a call of `super`
abbrev pub calls_super_here : AstType → Fields → Bool
calls_super_here k fs = same_type k CallExpression && calls_it fs
