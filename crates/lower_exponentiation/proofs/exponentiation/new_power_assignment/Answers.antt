use Rattle.std.proofs.Common.{◌+◌, ◌≡◌, ◌∙◌, ap, arith, refl, sym}
use Rattle.es_tree.specs.Tree.{Tree}
use Rattle.es_resolution.specs.Seen.{seen}
use Rattle.es_runs.specs.Rules.{assign_node}
use Rattle.lower_temporaries.proofs.Takings.{reads-ids, reads-then}
use Rattle.lower_exponentiation.proofs.Rows.{around-none, around-some, reads-as, sequence_made}
use Rattle.lower_exponentiation.proofs.exponentiation.new_power_assignment.Goals as goal

pub returns-then-is_empty-clause-reads : goal.returns-then-is_empty-clause-reads
returns-then-is_empty-clause-reads c =
    let items = c.args.used.first in
    let mid = c.new_power.new.ctx in
    reads-as (around-none _ items.items (sym c.is_empty.ensures ∙ c.if-is_empty.true) (omega (arith, items.ok.0)))
    (reads-then {m = 4} {n = 1} c.in_ok-value.ensures.reads (reads-ids 1 mid _ c.in_ok-node.ensures.counted refl (record { used = λ x. refl; made_is = refl }) (record { state = refl; options = refl; around = refl; scopes = refl; place = refl })))

pub returns-clause-reads : goal.returns-clause-reads
returns-clause-reads c =
    let items = c.args.used.first in
    let mid = c.new_power.new.ctx in
    let counted : c.new_sequence_expression.new.ast.next ≡ mid.ast.next + 2 = omega (arith, c.in_ok-last.ensures.counted, c.in_ok-node-2.ensures.counted) in
    reads-as (around-some _ items.items (sym c.is_empty.ensures ∙ c.if-is_empty.false) (omega (arith, items.ok.0)))
    (reads-then {m = 4} {n = 2} c.in_ok-value.ensures.reads (reads-ids 2 mid _ counted refl (record { used = λ x. refl; made_is = refl }) (record { state = refl; options = refl; around = refl; scopes = refl; place = refl })))

pub returns-clause-made : goal.returns-clause-made
returns-clause-made c names =
    let used = c.args.used in
    sequence_made names c.args.span used.first.items _ _ c.in_ok-last.last c.in_ok-node-2.node (seen names used.written) (seen names used.read) (seen names c.args.right) (sym c.is_empty.ensures ∙ c.if-is_empty.false) (omega (arith, used.first.ok.0)) c.in_ok-push.ensures.items
    (ap (seen names) c.in_ok-last.ensures.made ∙ ap (λ (t : Tree). assign_node (seen names used.written) t) (c.in_ok-value.ensures.made names)) (ap (seen names) c.in_ok-node-2.ensures.made)
