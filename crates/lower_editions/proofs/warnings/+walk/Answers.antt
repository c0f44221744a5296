use Rattle.std.proofs.Common.{◌≡◌, ◌++◌, append-nil, map, sym}
use Rattle.std.proofs.lemmas.List.{take_all}
use Rattle.std.specs.Option.{option_to_list}
use Rattle.es_tree.specs.Heads.{head_of, label}
use Rattle.es_tree.specs.Tree.{fields}
use Rattle.es_tree.specs.Views.{plain_field}
use Rattle.lower_editions.specs.Warnings.{warning_at}
use Rattle.lower_editions.specs.WarningWalk.{walked_fields}
use Rattle.lower_editions.proofs.Walked.{fields_more, node_done, trees_more}
use Rattle.lower_editions.proofs.warnings.+walk.Goals.{push_warnings-in-Some+in_ok-push, push_warnings-in_default}
use Rattle.lower_editions.proofs.warnings.+walk.Goals as goal

pub push_warnings-loop-index-preserved : goal.push_warnings-loop-index-preserved
push_warnings-loop-index-preserved t c =
    fields_more c.args.options.now (head_of c.node.inside.kind).kind _ _ _ c.deref-field-items.result.now c.loop-index.index c.field-item.result c.loop-index-test.true c.field-item.is c.loop-index.invariant
    (rw c.holds_module_name.ensures at c.in_ok-push_warnings_in.ensures)

pub push_warnings_in-loop-node-preserved : goal.push_warnings_in-loop-node-preserved
push_warnings_in-loop-node-preserved t c =
    trees_more c.args.options.now c.args.is_name _ _ _ c.deref-node-items.result.now c.loop-node.node-index c.node-item.result c.loop-node-test.true c.node-item.is c.loop-node.invariant c.in_ok-push_warnings-in-Many.ensures

pub push_warnings-returns : goal.push_warnings-returns
push_warnings-returns t c =
    let o = c.args.options.now in
    let inside = c.node.inside in
    let kind = (head_of inside.kind).kind in
    let said = label inside.id inside.span (head_of inside.kind) in
    let own : c.match-warning_kind.warnings.items ≡ c.args.warnings.now.items ++ option_to_list (warning_at o c.args.is_name kind said) =
    elim c.match-warning_kind.branch [
      | push_warnings-in-Some+in_ok-push w ↦ rw (w.warnings-is, ← c.warning_kind.ensures, w.in-Some.is) w.in_ok-push.ensures.items
      | push_warnings-in_default w ↦ rw (w.warnings-is, ← c.warning_kind.ensures, w.in_default.is) (sym (append-nil _))
    ] in
    let rest : c.loop-index.warnings.items ≡ c.match-warning_kind.warnings.items ++ walked_fields o kind 0 (fields (map plain_field inside.fields.items)) =
    rw (← c.deref-field-items.ensures.value, ← take_all c.loop-index.index c.deref-field-items.result.now c.loop-index-test.false) c.loop-index.invariant in
    node_done o c.args.is_name _ _ _ c.args.node.now kind said (fields (map plain_field inside.fields.items)) c.node.view_is own rest
