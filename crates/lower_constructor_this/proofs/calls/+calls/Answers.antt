use Rattle.std.proofs.Common.{◌≡◌, ◌∙◌, ◌<◌, ◌≤◌, Some, ap, arith, length, sym}
use Rattle.std.proofs.lemmas.Result.{on_ok_weaker}
use Rattle.std.proofs.lemmas.List.Quantifiers.{position-Some}
use Rattle.std.specs.List.{position}
use Rattle.es_tree.specs.Heads.{head_of, label}
use Rattle.es_super_calls.specs.SuperCalls.{is_super_statement}
use Rattle.es_set_this.specs.ConstructorThis.{in_arguments}
use Rattle.lower_fresh_names.specs.Names.{name_with}
use Rattle.lower_constructor_this.proofs.Passed.{arguments-gone, fields-all, fields-more, fields-smaller, list-all, list-more, list-smaller}
use Rattle.lower_constructor_this.proofs.Settings.{set-at, set-nowhere}
use Rattle.lower_constructor_this.proofs.calls.+calls.Goals as goal

-- LISTS

pub walk_first-walk_node-requires : goal.walk_first-walk_node-requires
walk_first-walk_node-requires t c =
    let first = c.args.nodes.now.items in
    let l : c.loop-index.index < length first = omega arith in
    let small = list-smaller (name_with 0 c.args.name.now) first c.loop-index.nodes.items c.loop-index.index c.index_mut.result.now l c.loop-index.invariant c.index_mut.ensures.value in
    grind (arith, small)

pub walk_first-loop-index-preserved : goal.walk_first-loop-index-preserved
walk_first-loop-index-preserved t c =
    let first = c.args.nodes.now.items in
    let l : c.loop-index.index < length first = omega arith in
    list-more (name_with 0 c.args.name.now) first c.loop-index.nodes.items c.loop-index.index c.index_mut.result.now c.walk_node.new.node l c.loop-index.invariant c.index_mut.ensures.value c.in_ok-walk_node.ensures

pub walk_nodes-returns : goal.walk_nodes-returns
walk_nodes-returns t c =
    let first = c.args.nodes.now.items in
    let all : length first ≤ c.len-count.result = omega arith in
    on_ok_weaker c.walk_first.result (λ h. list-all (name_with 0 c.args.name.now) first c.walk_first.new.nodes.items c.len-count.result all h) c.walk_first.ensures

-- FIELDS

pub walk_fields-walk_field-requires : goal.walk_fields-walk_field-requires
walk_fields-walk_field-requires t c =
    let first = c.args.fields.now.items in
    let l : c.loop-index.index < length first = omega arith in
    let small = fields-smaller (name_with 0 c.args.name.now) c.args.lists first c.loop-index.fields.items c.loop-index.index c.index_mut.result.now l c.loop-index.invariant c.index_mut.ensures.value in
    grind (arith, small)

pub walk_fields-loop-index-preserved : goal.walk_fields-loop-index-preserved
walk_fields-loop-index-preserved t c =
    let first = c.args.fields.now.items in
    let l : c.loop-index.index < length first = omega arith in
    fields-more (name_with 0 c.args.name.now) c.args.lists first c.loop-index.fields.items c.loop-index.index c.index_mut.result.now c.walk_field.new.field l c.loop-index.invariant c.index_mut.ensures.value c.in_ok-walk_field.ensures

pub walk_fields-returns : goal.walk_fields-returns
walk_fields-returns t c =
    let first = c.args.fields.now.items in
    let all : length first ≤ c.loop-index.index = omega arith in
    fields-all (name_with 0 c.args.name.now) c.args.lists first c.loop-index.fields.items c.loop-index.index all c.loop-index.invariant

-- A LIST OF STATEMENTS

pub set_in_list-walk_arguments-requires : goal.set_in_list-walk_arguments-requires
set_in_list-walk_arguments-requires t c =
    let ts = c.args.statements.now.items in
    let found : Some c.in-Some.index ≡ position is_super_statement ts = sym c.in-Some.is ∙ c.first_super.ensures ∙ ap (position is_super_statement) c.as_slice.ensures.value in
    let small = list-smaller (name_with 0 c.args.name.now) ts c.walk_first.new.nodes.items c.in-Some.index c.index_mut.result.now (position-Some is_super_statement ts c.in-Some.index c.index_mut.result.now (sym found)).0
    c.in_ok-walk_first-in-Some.ensures c.index_mut.ensures.value in
    grind (arith, small)

pub set_in_list-returns-in_ok-insert-in-Some : goal.set_in_list-returns-in_ok-insert-in-Some
set_in_list-returns-in_ok-insert-in-Some t c =
    let ts = c.args.statements.now.items in
    let found : Some c.in-Some.index ≡ position is_super_statement ts = sym c.in-Some.is ∙ c.first_super.ensures ∙ ap (position is_super_statement) c.as_slice.ensures.value in
    set-at (name_with 0 c.args.name.now) c.in_ok-new_setting-in-Some.field-0 c.index_mut.result.now c.walk_arguments.new.statement ts c.walk_first.new.nodes.items c.insert.new.self.items c.in-Some.index
    found c.in_ok-walk_first-in-Some.ensures c.index_mut.ensures.value c.in_ok-walk_arguments-in-Some.ensures c.in_ok-new_setting-in-Some.ensures c.in_ok-insert-in-Some.ensures.items

pub set_in_list-returns-in-None : goal.set_in_list-returns-in-None
set_in_list-returns-in-None t c =
    let ts = c.args.statements.now.items in
    let all : length ts ≤ c.len-count.result = omega arith in
    on_ok_weaker c.walk_first-in-None.result
    (λ h. set-nowhere (name_with 0 c.args.name.now) ts c.walk_first-in-None.new.nodes.items c.len-count.result (sym c.in-None.is ∙ c.first_super.ensures ∙ ap (position is_super_statement) c.as_slice.ensures.value) all h)
    c.walk_first-in-None.ensures

pub walk_arguments-returns : goal.walk_arguments-returns
walk_arguments-returns t c =
    let a = c.statement.inside in
    let x = name_with 0 c.args.name.now in
    on_ok_weaker c.walk_call.result
    (λ h. arguments-gone x (head_of a.kind).kind (label a.id a.span (head_of a.kind)) a.fields.items c.index_mut.result.now c.walk_call.new.field c.index_mut.ensures.value h ∙ ap (in_arguments x) c.statement.view_is)
    c.walk_call.ensures
