use Rattle.std.proofs.Common.{◌≡◌, ◌∙◌, [], List, Option, Some, subst, sym}
use Rattle.es_tree.specs.Heads.{head_of, label}
use Rattle.es_tree.specs.Tree.{Tree}
use Rattle.es_tree.specs.declared.kind.Kind.TheVariants.{SpreadElement as k-SpreadElement}
use Rattle.lower_object_spread.specs.Copying.{AddsProperty}
use Rattle.lower_object_spread.proofs.Copying.{adds-pending, adds-spread}
use Rattle.lower_object_spread.proofs.copies.add_property.Goals as goal

pub returns-then-not-is_spread : goal.returns-then-not-is_spread
returns-then-not-is_spread c = adds-pending c.args.ctx.now c.args.property c.args.copied.now.copy c.args.copied.now.pending.items c.push.new.self.items (sym c.is_spread.ensures ∙ c.if-not-is_spread.true) c.in_ok-push.ensures.items

pub returns : goal.returns
returns c =
    let old = c.args.ctx.now in
    let new = c.copy_spread.new.ctx in
    let t = c.args.property in
    let x = c.open-argument.result in
    let u = c.in_ok-copy.copy in
    let before = c.args.copied.now in
    let taken = c.take.result in
    let moved = c.replace-pending.result.items in
    let left = c.replace-pending.new.dest.items in
    let none : left ≡ [] = (λ i. (c.replace-pending.ensures.after i).items) ∙ c.new.ensures.items in
    let step = adds-spread old new (label x.id x.span (head_of k-SpreadElement)) x.argument t u taken moved c.open-argument.ensures c.in_ok-copy.ensures.made c.in_ok-copy.ensures.reads in
    subst (λ (o : Option Tree). AddsProperty old new t o before.pending.items (Some u) left) c.take.ensures.value
    (subst (λ (ps : List Tree). AddsProperty old new t taken ps (Some u) left) (λ i. (c.replace-pending.ensures.value i).items) (subst (λ (qs : List Tree). AddsProperty old new t taken moved (Some u) qs) (sym none) step))
