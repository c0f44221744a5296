use Rattle.std.proofs.Common.{◌∙◌, List, refl, subst, sym}
use Rattle.std.specs.Vec.Iter.{into_iter_items}
use Rattle.es_tree.specs.Tree.{Tree}
use Rattle.es_using_rows.specs.UsingPlaces.{are_used}
use Rattle.es_using_rows.specs.Used.{constant, constants}
use Rattle.lower_using.proofs.Becomes.{SoFar, so-far-all, so-far-item, so-far-next, so-far-none}
use Rattle.lower_using.proofs.PlaceTests.{passes}
use Rattle.lower_using.proofs.constants.make_constants.Goals as goal

pub loop-statement-init : goal.loop-statement-init
loop-statement-init c =
    let x = c.args.context.now in
    let all = c.args.statements.items in
    subst (λ (rest : List Tree). SoFar constants are_used x all c.new-made.result.items rest) (sym c.into_iter-statement-iterator.ensures.into_iter_gives.0)
    (so-far-none constant constants (λ m n. refl) (λ m n t ts. refl) passes are_used (λ t ts. refl) x all c.new-made.result.items c.new-made.ensures.items c.requires)

pub make_constant-requires : goal.make_constant-requires
make_constant-requires c =
    let l = c.loop-statement in
    so-far-item constant constants (λ m n. refl) (λ m n t ts. refl) passes are_used (λ t ts. refl) c.in-Some.statement (subst (λ (ts : List Tree). SoFar constants are_used c.args.context.now c.args.statements.items l.made.items ts) c.in-Some.ensures.steps.0 l.invariant)

pub loop-statement-preserved : goal.loop-statement-preserved
loop-statement-preserved c =
    let l = c.loop-statement in
    so-far-next constant constants (λ m n. refl) (λ m n t ts. refl) passes are_used (λ t ts. refl) c.in-Some.statement c.in_ok-constant.constant c.in_ok-constant.ensures c.in_ok-push.ensures.items (subst (λ (ts : List Tree). SoFar constants are_used c.args.context.now c.args.statements.items l.made.items ts) c.in-Some.ensures.steps.0 l.invariant)

pub returns : goal.returns
returns c =
    let ended = c.loop-statement.statement-iterator in
    so-far-all constant constants (λ m n. refl) (λ m n t ts. refl) passes are_used (λ t ts. refl) (into_iter_items ended) (sym ended.rest.ok.0 ∙ c.in-None.ensures.steps.0) c.loop-statement.invariant
