-- The example of an arrow that gets a body holds.
use Rattle.std.proofs.Common.{◌≡◌, refl, inl, inr, []}
use Rattle.std.specs.Prelude.{◌&&◌, Bool, true, false, codes}
use Rattle.es_tree.specs.Fresh.{IsFreshName}
use Rattle.es_tree.specs.Tree.{empty, ◌before◌}
use Rattle.es_semantic.specs.RolesOf.{reads}
use Rattle.es_resolution.specs.Declarations.{declared}
use Rattle.es_steps.specs.Nodes.{identifier, made, return_node}
use Rattle.es_steps.specs.ParameterPatterns.{MayMove}
use Rattle.es_steps.specs.ParameterPatterns.HoldsPattern.{alone}
use Rattle.es_steps.specs.ParameterPatterns.MovesParameter.{moves_one}
use Rattle.es_steps.specs.ParameterPatterns.ParameterRest.{in_arrow}
use Rattle.es_steps.specs.Steps.{IsExpression, Whole}
use Rattle.es_steps.specs.Steps.FieldStep.{in_child, in_program}
use Rattle.es_steps.specs.Steps.FieldsStep.{in_first, in_later}
use Rattle.es_steps.specs.Steps.Step.{acts, inside}
use Rattle.es_steps.specs.Steps.Steps.{goes, stays}
use Rattle.es_steps.specs.Steps.TreesStep.{in_head}
use Rattle.es_valid_rests.specs.Examples.{Leads, rest_members, rest_pattern, the_ref}
use Rattle.es_arrow_bodies.specs.ArrowBodies.{WithBodies}
use Rattle.es_arrow_bodies.specs.ArrowBodies.BodyRule.{returns}
use Rattle.es_arrow_bodies.specs.Examples.{LawBodyExamples, called, script, short_arrow, with_body, with_moved}

called-expression : IsExpression called
called-expression = record { no_body = refl; no_import = refl; declares_nothing = nothing }
  where
    nothing : (v : Bool) → declared v reads called ≡ []
    nothing true = refl
    nothing false = refl

and-true : (b : Bool) → b ≡ true → (b && true) ≡ true
and-true true e = refl
and-true false e = e

-- the body declares none of the names of the pattern
may-move : (w : Whole) → w.in_use (codes "a") ≡ true → w.in_use (codes "b") ≡ true → MayMove w rest_pattern (identifier (the_ref w)) empty empty empty (return_node called before empty)
may-move w a b = record {
  earlier = tt;
  later = tt;
  own_default = tt;
  body = ((tt, tt), ((((tt, tt), (((tt, tt), tt), (((and-true (w.in_use (codes "a")) a, tt), tt), tt))), (((tt, tt), (((and-true (w.in_use (codes "b")) b, tt), tt), tt)), tt)), tt));
  form = refl;
}

body-steps : (w : Whole) → IsFreshName w.in_use (codes "ref") (codes "_ref") → w.in_use (codes "a") ≡ true → w.in_use (codes "b") ≡ true → Leads WithBodies w (the_ref w) (script short_arrow) (script (with_moved w))
body-steps w f a b =
    let moved = moves_one empty empty empty empty (return_node called before empty) (made [] []) rest_members rest_pattern (identifier (the_ref w)) refl refl alone (may-move w a b) in
    goes (inside (in_later (in_first (in_program refl (in_head (inside (in_first (in_child (acts short_arrow with_body (inr (returns called-expression)))))))))))
    (goes (inside (in_later (in_first (in_program refl (in_head (inside (in_first (in_child (acts with_body (with_moved w) (inl (inr (inr (inr (inr (inr (in_arrow f moved))))))))))))))))
    stays)

pub law_body_examples_proof : LawBodyExamples
law_body_examples_proof w f a b = record { formed = refl; kept = refl; steps = body-steps w f a b; formed_after = refl; kept_after = refl }
