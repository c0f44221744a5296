use Rattle.std.proofs.Common.{◌-◌, ◌∙◌, ◌≡◌, ap, arith, length, suc, sym, take}
use Rattle.std.specs.Prelude.{◌&&◌}
use Rattle.es_tree.specs.Tree.{trees}
use Rattle.lower_rest_assignments.specs.Assignments.{are_properties}
use Rattle.lower_rest_assignments.proofs.Opened.{members-last}
use Rattle.lower_rest_assignments.proofs.constructs.are_members.Goals as goal

pub returns-then-is_simple_rest : goal.returns-then-is_simple_rest
returns-then-is_simple_rest c =
    let ms = c.args.members.now in
    let whole : suc (length ms - 1) ≡ length ms = omega (arith, c.in-len1-up.len_at_least) in
    c.are_properties.ensures ∙ (ap (λ b. b && are_properties (trees (take (length ms - 1) ms))) (sym (sym c.is_simple_rest.ensures ∙ c.if-is_simple_rest.true)) ∙ members-last ms (length ms - 1) c.last-item.result whole c.last-item.is)

pub returns-else-is_simple_rest : goal.returns-else-is_simple_rest
returns-else-is_simple_rest c =
    let ms = c.args.members.now in
    let whole : suc (length ms - 1) ≡ length ms = omega (arith, c.in-len1-up.len_at_least) in
    c.if-is_simple_rest.false ∙ (ap (λ b. b && are_properties (trees (take (length ms - 1) ms))) (sym (sym c.is_simple_rest.ensures ∙ c.if-is_simple_rest.false)) ∙ members-last ms (length ms - 1) c.last-item.result whole c.last-item.is)
