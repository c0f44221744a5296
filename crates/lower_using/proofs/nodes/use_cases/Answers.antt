use Rattle.std.proofs.Common.{◌∙◌, List, refl, subst, sym}
use Rattle.std.specs.Vec.Iter.{into_iter_items}
use Rattle.es_tree.specs.Tree.{Tree}
use Rattle.es_using_rows.specs.UsingPlaces.{is_used_case, are_used_cases}
use Rattle.es_using_rows.specs.Used.{used_case, used_cases}
use Rattle.lower_using.proofs.Becomes.{SoFar, so-far-all, so-far-item, so-far-next, so-far-none}
use Rattle.lower_using.proofs.nodes.use_cases.Goals as goal

pub loop-case-init : goal.loop-case-init
loop-case-init c =
    let x = c.args.context.now in
    let all = c.args.cases.items in
    subst (λ (rest : List Tree). SoFar used_cases are_used_cases x all c.new-used.result.items rest) (sym c.into_iter-case-iterator.ensures.into_iter_gives.0)
    (so-far-none used_case used_cases (λ m n. refl) (λ m n t ts. refl) is_used_case are_used_cases (λ t ts. refl) x all c.new-used.result.items c.new-used.ensures.items c.requires)

pub use_case-requires : goal.use_case-requires
use_case-requires c =
    let l = c.loop-case in
    so-far-item used_case used_cases (λ m n. refl) (λ m n t ts. refl) is_used_case are_used_cases (λ t ts. refl) c.in-Some.case (subst (λ (ts : List Tree). SoFar used_cases are_used_cases c.args.context.now c.args.cases.items l.used.items ts) c.in-Some.ensures.steps.0 l.invariant)

pub loop-case-preserved : goal.loop-case-preserved
loop-case-preserved c =
    let l = c.loop-case in
    so-far-next used_case used_cases (λ m n. refl) (λ m n t ts. refl) is_used_case are_used_cases (λ t ts. refl) c.in-Some.case c.in_ok-made.made c.in_ok-made.ensures c.in_ok-push.ensures.items (subst (λ (ts : List Tree). SoFar used_cases are_used_cases c.args.context.now c.args.cases.items l.used.items ts) c.in-Some.ensures.steps.0 l.invariant)

pub returns : goal.returns
returns c =
    let ended = c.loop-case.case-iterator in
    so-far-all used_case used_cases (λ m n. refl) (λ m n t ts. refl) is_used_case are_used_cases (λ t ts. refl) (into_iter_items ended) (sym ended.rest.ok.0 ∙ c.in-None.ensures.steps.0) c.loop-case.invariant
