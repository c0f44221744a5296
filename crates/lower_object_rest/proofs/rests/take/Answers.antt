use Rattle.std.proofs.Common.{List, arith, subst, sym, ◌∙◌}
use Rattle.es_tree.specs.Tree.{Tree}
use Rattle.lower_object_rest.specs.Parts.{Takes}
use Rattle.lower_object_rest.proofs.Taken.{taken-alone, taken-beside}
use Rattle.lower_object_rest.proofs.rests.take.Goals as goal

pub returns-then-is_empty : goal.returns-then-is_empty
returns-then-is_empty c p parts =
    let r = c.args.pattern in
    subst (λ (us : List Tree). Takes c.args.ctx.now c.take_all.new.ctx p c.args.source us) (sym c.in_ok-declarators.ensures.items)
    (taken-alone c.args.ctx.now c.take_all.new.ctx p c.args.source r c.in_ok-declarator.declarator r.properties.len (omega (arith, r.properties.ok.0)) (sym c.is_empty.ensures ∙ c.if-is_empty.true) parts c.in_ok-declarator.ensures)

pub returns : goal.returns
returns c p parts =
    let r = c.args.pattern in
    taken-beside c.args.ctx.now c.take_rest.new.ctx p c.args.source r c.in_ok-declarators-2.declarators.items r.properties.len (omega (arith, r.properties.ok.0)) (sym c.is_empty.ensures ∙ c.if-is_empty.false) parts c.in_ok-declarators-2.ensures
