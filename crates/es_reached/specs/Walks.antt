-- The law of a walk that lowers arrows: it makes none of the other constructs that options ask to lower.
use Rattle.std.specs.Prelude.{◌≡◌, ◌&&◌, ◌||◌, Bool, false, is_some}
use Rattle.es_tree.specs.Constructs.{is_chain, is_enabled_statement, is_exponentiation, is_logical_assignment, is_nullish_coalescing, is_object_spread}
use Rattle.es_tree.specs.RestTargets.{is_rest_assignment}
use Rattle.es_tree.specs.Tree.{Fields, Label, Tree}
use Rattle.es_tree.specs.Walks.{any_node}
use Rattle.es_tree.specs.declared.ast_type.AstType.{AstType}
use Rattle.es_tree.specs.declared.options.EnvOptions.{EnvOptions}
use Rattle.es_steps.specs.Laws.{nothing_beside}
use Rattle.es_steps.specs.Open.{opened}
use Rattle.es_steps.specs.Rules.{Writing, either_rule}
use Rattle.es_steps.specs.Steps.{Step, Steps, Whole, the_program}
use Rattle.es_arrow_steps.specs.ArrowWalks.{ArrowWalkRule}

-- the rows of expressions that options ask to lower, but for arrows
abbrev pub is_other_expression : EnvOptions → AstType → Label → Fields → Bool
is_other_expression o k l fs =
    (o.es2016.exponentiation_operator && is_exponentiation k l fs)
    || (o.es2020.nullish_coalescing_operator && is_nullish_coalescing k l fs)
    || (o.es2020.optional_chaining && is_chain k l fs)
    || (o.es2021.logical_assignment_operators && is_logical_assignment k l fs)
    || (is_some o.es2018.object_rest_spread && is_object_spread k l fs)
    || (is_some o.es2018.object_rest_spread && is_rest_assignment k l fs)

-- whether the node is a construct that options ask to lower, and neither an arrow nor a pattern with a rest that is declared
abbrev pub is_other_construct : EnvOptions → AstType → Label → Fields → Bool
is_other_construct o k l fs = is_other_expression o k l fs || is_enabled_statement o k l fs

-- What such a walk, with what is pending written on the way, leads to from a program without them is without them too.
abbrev pub LawWalkMakesNone : Type 0
LawWalkMakesNone = (o : EnvOptions) (p q : Tree) (w w' : Whole) → Steps (Step (either_rule Writing ArrowWalkRule) the_program) (nothing_beside w) (opened p) (nothing_beside w') (opened q) → any_node (is_other_construct o) p ≡ false → any_node (is_other_construct o) q ≡ false
