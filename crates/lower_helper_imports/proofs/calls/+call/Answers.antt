use Rattle.std.proofs.Common.{◌≡◌, ◌∙◌, ◌<◌, ap, arith, get_or, length, map, sym}
use Rattle.std.proofs.lemmas.List.{map-id}
use Rattle.es_tree.proofs.Sizes.{fields_size-within, trees_size-within}
use Rattle.es_tree.specs.Tree.{fields, trees}
use Rattle.es_tree.specs.Views.{plain_field}
use Rattle.es_helper_calls.specs.HelperCalls.{calling, calling_by}
use Rattle.lower_helper_imports.specs.Parts.{callee_of}
use Rattle.lower_helper_imports.proofs.Walked.{changed-all, fields-called, trees-called}
use Rattle.lower_helper_imports.proofs.calls.+call.Goals as goal

-- LISTS

pub call_in_list-call_by_names-requires : goal.call_in_list-call_by_names-requires
call_in_list-call_by_names-requires t c =
    let i = c.loop-index.index in
    let first = c.args.nodes.now.items in
    let items = c.loop-index.nodes.items in
    let x = c.index_mut.result.now in
    let l : i < length items = omega (arith, c.loop-index.invariant.count) in
    let was : x ≡ get_or first i x = c.index_mut.ensures.value ∙ c.loop-index.invariant.untouched i x (omega arith) in
    let small = trees_size-within first i x (omega (arith, l, c.loop-index.invariant.count)) was in
    grind (arith, small)

pub call_in_list-returns : goal.call_in_list-returns
call_in_list-returns t c =
    let calls = callee_of c.args.helpers.now c.args.names.now in
    let first = c.args.nodes.now.items in
    let items = c.loop-index.nodes.items in
    let all = changed-all (λ u. u) (calling calls) first items c.loop-index.index (omega (arith, c.loop-index.invariant.count)) c.loop-index.invariant in
    ap trees (sym (map-id items) ∙ all ∙ ap (map (calling calls)) (map-id first)) ∙ trees-called calls first

-- FIELDS

pub call_in_fields-call_in_field-requires : goal.call_in_fields-call_in_field-requires
call_in_fields-call_in_field-requires t c =
    let i = c.loop-index.index in
    let first = c.args.fields.now.items in
    let items = c.loop-index.fields.items in
    let x = c.index_mut.result.now in
    let l : i < length items = omega (arith, c.loop-index.invariant.count) in
    let was : x ≡ get_or first i x = c.index_mut.ensures.value ∙ c.loop-index.invariant.untouched i x (omega arith) in
    let small = fields_size-within first i x (omega (arith, l, c.loop-index.invariant.count)) was in
    grind (arith, small)

pub call_in_fields-returns : goal.call_in_fields-returns
call_in_fields-returns t c =
    let calls = callee_of c.args.helpers.now c.args.names.now in
    let first = c.args.fields.now.items in
    let items = c.loop-index.fields.items in
    let all = changed-all plain_field (calling_by calls) first items c.loop-index.index (omega (arith, c.loop-index.invariant.count)) c.loop-index.invariant in
    ap fields all ∙ fields-called calls (map plain_field first)
