use Rattle.std.proofs.Common.{◌≡◌, ◌++◌, ◌∷◌, ◌∙◌, ap, append_assoc, arith, length, length-append, sym}
use Rattle.std.specs.Prelude.{nat_eq}
use Rattle.std.specs.HashMap.{get}
use Rattle.std.specs.Vec.Iter.{into_iter_items}
use Rattle.es_tree.specs.Tree.{Tree, label_of}
use Rattle.lower_stores.specs.BareInsertions.{lists_left, surrounded_by, woven}
use Rattle.lower_stores.proofs.WovenLemmas.{left_step, woven_step}
use Rattle.lower_stores.proofs.statement_injector.weave.Goals as goal

pub loop-statement-preserved : goal.loop-statement-preserved
loop-statement-preserved c =
    let before = get nat_eq c.loop-statement.insertions in
    let after = get nat_eq c.remove-lists.new.self in
    let rest = into_iter_items c.next.new.self in
    let id = ap (λ (t : Tree). (label_of t).id) c.statement.view_is in
    let taken : into_iter_items c.loop-statement.statement-iterator ≡ c.in-Some.statement ∷ rest = c.in-Some.ensures.steps.0 in
    let step : woven before (into_iter_items c.loop-statement.statement-iterator) ≡ surrounded_by c.remove-lists.result c.in-Some.statement ++ woven after rest =
    ap (woven before) taken ∙ woven_step before after c.statement.inside.id.0 c.in-Some.statement rest c.remove-lists.result id c.remove-lists.ensures.value c.remove-lists.ensures.updates.0 in
    let lengths = ap length step in
    let both = length-append (surrounded_by c.remove-lists.result c.in-Some.statement) (woven after rest) in
    let room = c.loop-statement.invariant.room in
    record {
      room = omega (arith, lengths, both, room, c.surround-written.ensures.len, c.surround-written.ensures.capacity);
      written = ap (λ l. l ++ woven after rest) c.surround-written.ensures.written ∙ append_assoc c.loop-statement.written.items (surrounded_by c.remove-lists.result c.in-Some.statement) (woven after rest)
          ∙ ap (λ l. c.loop-statement.written.items ++ l) (sym step) ∙ c.loop-statement.invariant.written;
      left = λ q. left_step before after c.statement.inside.id.0 c.in-Some.statement rest q id c.remove-lists.ensures.updates.0
          ∙ ap (λ ss. lists_left before ss q) (sym taken) ∙ c.loop-statement.invariant.left q;
    }
