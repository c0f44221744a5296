use Rattle.std.proofs.Common.{◌∙◌, List, refl, subst, sym}
use Rattle.std.specs.Prelude.{true}
use Rattle.std.specs.Vec.Iter.{into_iter_items}
use Rattle.es_tree.specs.Tree.{Tree}
use Rattle.es_using_rows.specs.Used.{used_declarator, used_declarators}
use Rattle.lower_using.proofs.Becomes.{SoFar, so-far-all, so-far-next, so-far-none}
use Rattle.lower_using.proofs.constants.use_values.Goals as goal

pub loop-declarator-init : goal.loop-declarator-init
loop-declarator-init c =
    let x = c.args.context.now in
    let all = c.args.declarators.items in
    subst (λ (rest : List Tree). SoFar used_declarators (λ ds. true) x all c.new-used.result.items rest) (sym c.into_iter-declarator-iterator.ensures.into_iter_gives.0)
    (so-far-none used_declarator used_declarators (λ m n. refl) (λ m n t ts. refl) (λ d. true) (λ ds. true) (λ t ts. refl) x all c.new-used.result.items c.new-used.ensures.items refl)

pub loop-declarator-preserved : goal.loop-declarator-preserved
loop-declarator-preserved c =
    let l = c.loop-declarator in
    so-far-next used_declarator used_declarators (λ m n. refl) (λ m n t ts. refl) (λ d. true) (λ ds. true) (λ t ts. refl) c.in-Some.declarator c.in_ok-made.made c.in_ok-made.ensures c.in_ok-push.ensures.items (subst (λ (ts : List Tree). SoFar used_declarators (λ ds. true) c.args.context.now c.args.declarators.items l.used.items ts) c.in-Some.ensures.steps.0 l.invariant)

pub returns : goal.returns
returns c =
    let ended = c.loop-declarator.declarator-iterator in
    so-far-all used_declarator used_declarators (λ m n. refl) (λ m n t ts. refl) (λ d. true) (λ ds. true) (λ t ts. refl) (into_iter_items ended) (sym ended.rest.ok.0 ∙ c.in-None.ensures.steps.0) c.loop-declarator.invariant
