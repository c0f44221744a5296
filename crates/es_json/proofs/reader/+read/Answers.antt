use Rattle.std.proofs.Common.{◌≡◌, List, [], map, length, reverse, true, Some}
use Rattle.std.proofs.Common.{arith, sym, ap, subst, refl, ◌∙◌, take}
use Rattle.std.proofs.lemmas.Bool.Decides.{nat_tests}
use Rattle.serde_json.specs.Data.{depth}
use Rattle.serde_json.specs.View.{view}
use Rattle.es_tree.specs.Attributes.{text_entries, flag_entries, texts_fit}
use Rattle.es_tree.specs.Heads.{head_of}
use Rattle.es_tree.specs.Table.{entries, field_text}
use Rattle.es_tree.specs.Texts.{plain_text, plain_texts}
use Rattle.es_tree.specs.Views.{plain_field, plain_fields}
use Rattle.es_json.specs.Faults.{faults, unless_null, fields_faults}
use Rattle.es_json.specs.Values.{TextsAre, FlagsAre}
use Rattle.es_json.proofs.Children.{a_non_empty}
use Rattle.es_json.proofs.Depth.{get_depth, listed_depth}
use Rattle.es_json.proofs.Entries.{AreRead, one_more_text, one_more_flag, one_more_refused, one_more_child, texts_pushed, flags_pushed, fields_pushed, texts_fit-given, length-flags, all_texts, all_flags, all_fields}
use Rattle.es_json.proofs.Errors.{exit_error}
use Rattle.es_json.proofs.FirstFaults.{not_an_object, no_kind, span_fails, parts_fail, content_fails, child_fails, refused_passes, child_passes, entry_passes, entry_fails, entries_pass, none_refused, agreed, item_passes}
use Rattle.es_json.proofs.Items.{one_more_item, one_more_element, all_items, all_elements}
use Rattle.es_json.proofs.NewNodes.{one_more_tree, one_more_field, no_more_fields}
use Rattle.es_json.proofs.NoFaults.{no_faults, element_none, text_sound, flag_sound, field_none}
use Rattle.es_json.proofs.Parts.{fields_parts, no_elements_at}
use Rattle.es_json.proofs.reader.+read.Goals as goal
use Rattle.es_json.proofs.reader.+read.Goals.{read_fields-in-Text+in_ok-read_text-in-Text+in_ok-push-in-Text, read_fields-in-Flag+in_ok-read_flag-in-Flag+in_ok-push-in-Flag, read_fields-in-Refused+in_ok-refuse-in-Refused, read_fields-in-Child+in_ok-read_field-in-Child+in_ok-push-in-Child}
use Rattle.es_json.specs.declared.error.Step.{Step}
use Rattle.es_json.specs.declared.error.ReadError.TheVariants.{Shape}

pub read_child-read_node-requires : goal.read_child-read_node-requires
read_child-read_node-requires t c = (omega (arith, get_depth (field_text c.args.name) (view c.args.value.now) (view c.in-Some.child.now) (sym c.in-Some.ensures), c.decreases), tt)

pub read_child-read_element-requires : goal.read_child-read_element-requires
read_child-read_element-requires t c = (omega (arith, get_depth (field_text c.args.name) (view c.args.value.now) (view c.in-Some-field_of.child.now) (sym c.in-Some-field_of.ensures), c.decreases), tt)

pub read_child-returns-else-is_empty-clause-form :
    goal.read_child-returns-else-is_empty-clause-form
read_child-returns-else-is_empty-clause-form t c =
    let nodes = c.in_ok-nodes-in-NonEmptyList.nodes in
    a_non_empty (view c.args.value.now) c.args.sort _ c.args.often nodes.items c.in-NonEmptyList.is (λ none. grind (arith, nat_tests, none, nodes.ok.0, c.is_empty.ensures, c.if-is_empty.false)) c.in_ok-nodes-in-NonEmptyList.ensures.form

pub read_elements-read_element-requires : goal.read_elements-read_element-requires
read_elements-read_element-requires t c =
    (omega (arith, listed_depth (field_text c.args.place.field) (view c.args.value.now) c.in-Some.elements.now c.loop-i.i c.index-elements-i.result c.in-Some.ensures c.loop-i-test.true, ap (λ x. depth (view x)) c.index-elements-i.is, c.decreases), tt)

pub read_elements-loop-i-preserved : goal.read_elements-loop-i-preserved
read_elements-loop-i-preserved t c =
    let x = c.in-Ok.field in
    let f = plain_field x in
    let vs = c.in-Some.elements.now in
    let pushed = fields_pushed c.loop-i.fields.items c.push.new.self c.push.new.self x refl c.in_ok-push-in-Ok.ensures.items in record {
      form = one_more_element c.args.place.sort c.args.place.last vs c.loop-i.i c.index-elements-i.result c.sort_before-sort.result c.loop-i-test.true c.index-elements-i.is c.sort_before-sort.ensures (map plain_field c.loop-i.fields.items) (map plain_field c.push.new.self.items) f pushed c.in-Ok.ensures.form c.loop-i.invariant.form;
      none = item_passes (unless_null faults) c.args.place.sort c.args.place.last vs c.loop-i.i c.index-elements-i.result c.sort_before-sort.result c.loop-i-test.true c.index-elements-i.is c.sort_before-sort.ensures c.loop-i.invariant.none (element_none faults no_faults c.sort_before-sort.result (view c.index-elements-i.result) f c.in-Ok.ensures.form);
      new = one_more_field c.args.ast.now.next c.loop-i.ast.next c.read_element.new.ast.next (map plain_field c.loop-i.fields.items) (map plain_field c.push.new.self.items) f pushed c.loop-i.invariant.new c.in-Ok.ensures.new;
    }

pub read_elements-returns-clause-form : goal.read_elements-returns-clause-form
read_elements-returns-clause-form t c = all_elements c.args.place.sort c.args.place.last c.in-Some.elements.now c.loop-i.i (map plain_field c.loop-i.fields.items) _ c.loop-i-test.false c.in-Some.ensures c.loop-i.invariant.form

pub read_fields-returns-in_err-read_text-in-Text-clause-fault :
    goal.read_fields-returns-in_err-read_text-in-Text-clause-fault
read_fields-returns-in_err-read_text-in-Text-clause-fault t c =
    let es = c.entries-entry-items.result.now in
    let v = view c.args.value.now in
    let e = c.in_err-read_text-in-Text.field-0.0 in
    exit_error c.from_residual.result e (fields_faults faults c.args.ast_type v (entries c.args.ast_type)) c.from_residual.ensures.1
    (entry_fails c.args.ast_type v es c.loop-entry.entry-index _ c.loop-entry-test.true e (entries c.args.ast_type) c.entries-entry-items.ensures c.loop-entry.invariant.none (content_fails e c.args.ast_type v _ c.in_err-read_text-in-Text.ensures.fault))

pub read_fields-returns-in_err-read_flag-in-Flag-clause-fault :
    goal.read_fields-returns-in_err-read_flag-in-Flag-clause-fault
read_fields-returns-in_err-read_flag-in-Flag-clause-fault t c =
    let es = c.entries-entry-items.result.now in
    let v = view c.args.value.now in
    let e = c.in_err-read_flag-in-Flag.field-0.0 in
    exit_error c.from_residual-in_err-read_flag-in-Flag.result e (fields_faults faults c.args.ast_type v (entries c.args.ast_type)) c.from_residual-in_err-read_flag-in-Flag.ensures.1
    (entry_fails c.args.ast_type v es c.loop-entry.entry-index _ c.loop-entry-test.true e (entries c.args.ast_type) c.entries-entry-items.ensures c.loop-entry.invariant.none (content_fails e c.args.ast_type v _ c.in_err-read_flag-in-Flag.ensures.fault))

pub read_fields-read_field-requires : goal.read_fields-read_field-requires
read_fields-read_field-requires t c =
    (omega (arith, c.decreases), no_elements_at c.args.ast_type c.entries-entry-items.result.now c.loop-entry.entry-index _ c.in-Child.sort c.in-Child.often c.requires c.entries-entry-items.ensures c.loop-entry-test.true c.in-Child.is)

pub read_fields-returns-in_err-read_field-in-Child-clause-fault :
    goal.read_fields-returns-in_err-read_field-in-Child-clause-fault
read_fields-returns-in_err-read_field-in-Child-clause-fault t c =
    let es = c.entries-entry-items.result.now in
    let v = view c.args.value.now in
    let e = c.in_err-read_field-in-Child.field-0.0 in
    exit_error c.from_residual-in_err-read_field-in-Child.result e (fields_faults faults c.args.ast_type v (entries c.args.ast_type)) c.from_residual-in_err-read_field-in-Child.ensures.1
    (entry_fails c.args.ast_type v es c.loop-entry.entry-index _ c.loop-entry-test.true e (entries c.args.ast_type) c.entries-entry-items.ensures c.loop-entry.invariant.none
    (child_fails e c.args.ast_type v _ c.in-Child.sort c.in-Child.often c.in-Child.is (sym c.agrees_at.ensures ∙ c.if-not-agrees_at.false) c.in_err-read_field-in-Child.ensures.fault))

pub read_fields-loop-entry-preserved : goal.read_fields-loop-entry-preserved
read_fields-loop-entry-preserved t c =
    let es = c.entries-entry-items.result.now in
    let i = c.loop-entry.entry-index in
    let v = view c.args.value.now in
    let k = c.args.ast_type in
    let agrees = sym c.agrees_at.ensures ∙ c.if-not-agrees_at.false in
    let before : AreRead v (take i es) (plain_texts c.loop-entry.texts.items) c.loop-entry.flags.items (map plain_field c.loop-entry.fields.items) =
    record { texts = c.loop-entry.invariant.texts; flags = c.loop-entry.invariant.flags; children = c.loop-entry.invariant.children } in
    elim c.match-entry.branch [
      | read_fields-in-Text+in_ok-read_text-in-Text+in_ok-push-in-Text w ↦
          let r = one_more_text es i _ v c.loop-entry-test.true (plain_texts c.loop-entry.texts.items) (plain_texts c.match-entry.texts.items) c.loop-entry.flags.items c.match-entry.flags.items (map plain_field c.loop-entry.fields.items) (map plain_field c.match-entry.fields.items) (plain_text w.in_ok-read_text-in-Text.field-0) (texts_pushed c.loop-entry.texts.items w.push.new.self c.match-entry.texts w.in_ok-read_text-in-Text.field-0 w.texts-is w.in_ok-push-in-Text.ensures.items) (ap (λ x. x.items) w.flags-is) (ap (λ x. map plain_field x.items) w.fields-is) before w.in_ok-read_text-in-Text.ensures.text in record { texts = r.texts; flags = r.flags; children = r.children; none = entry_passes k v es i _ c.loop-entry-test.true c.loop-entry.invariant.none (field_none faults k v _ (text_sound faults v _ _ _ w.in_ok-read_text-in-Text.ensures.text) agrees); new = no_more_fields c.args.ast.now.next c.loop-entry.ast.next c.match-entry.ast.next (map plain_field c.loop-entry.fields.items) (map plain_field c.match-entry.fields.items) (ap (λ x. map plain_field x.items) w.fields-is) (ap (λ x. x.next) w.ast-is) c.loop-entry.invariant.new }
      | read_fields-in-Flag+in_ok-read_flag-in-Flag+in_ok-push-in-Flag w ↦
          let r = one_more_flag es i _ v c.loop-entry-test.true (plain_texts c.loop-entry.texts.items) (plain_texts c.match-entry.texts.items) c.loop-entry.flags.items c.match-entry.flags.items (map plain_field c.loop-entry.fields.items) (map plain_field c.match-entry.fields.items) w.in_ok-read_flag-in-Flag.field-0 (ap (λ x. plain_texts x.items) w.texts-is) (flags_pushed c.loop-entry.flags.items w.push-in-Flag.new.self c.match-entry.flags w.in_ok-read_flag-in-Flag.field-0 w.flags-is w.in_ok-push-in-Flag.ensures.items) (ap (λ x. map plain_field x.items) w.fields-is) before w.in_ok-read_flag-in-Flag.ensures.flag in record { texts = r.texts; flags = r.flags; children = r.children; none = entry_passes k v es i _ c.loop-entry-test.true c.loop-entry.invariant.none (field_none faults k v _ (flag_sound faults v _ _ _ w.in_ok-read_flag-in-Flag.ensures.flag) agrees); new = no_more_fields c.args.ast.now.next c.loop-entry.ast.next c.match-entry.ast.next (map plain_field c.loop-entry.fields.items) (map plain_field c.match-entry.fields.items) (ap (λ x. map plain_field x.items) w.fields-is) (ap (λ x. x.next) w.ast-is) c.loop-entry.invariant.new }
      | read_fields-in-Refused+in_ok-refuse-in-Refused w ↦
          let r = one_more_refused es i _ v c.loop-entry-test.true (plain_texts c.loop-entry.texts.items) (plain_texts c.match-entry.texts.items) c.loop-entry.flags.items c.match-entry.flags.items (map plain_field c.loop-entry.fields.items) (map plain_field c.match-entry.fields.items) (ap (λ x. plain_texts x.items) w.texts-is) (ap (λ x. x.items) w.flags-is) (ap (λ x. map plain_field x.items) w.fields-is) before w.in-Refused.is in record { texts = r.texts; flags = r.flags; children = r.children; none = entry_passes k v es i _ c.loop-entry-test.true c.loop-entry.invariant.none (refused_passes k v _ w.in-Refused.is w.in_ok-refuse-in-Refused.ensures.none agrees); new = no_more_fields c.args.ast.now.next c.loop-entry.ast.next c.match-entry.ast.next (map plain_field c.loop-entry.fields.items) (map plain_field c.match-entry.fields.items) (ap (λ x. map plain_field x.items) w.fields-is) (ap (λ x. x.next) w.ast-is) c.loop-entry.invariant.new }
      | read_fields-in-Child+in_ok-read_field-in-Child+in_ok-push-in-Child w ↦
          let pushed = fields_pushed c.loop-entry.fields.items w.push-in-Child.new.self c.match-entry.fields w.in_ok-read_field-in-Child.field-0 w.fields-is w.in_ok-push-in-Child.ensures.items in
          let r = one_more_child es i _ v c.loop-entry-test.true (plain_texts c.loop-entry.texts.items) (plain_texts c.match-entry.texts.items) c.loop-entry.flags.items c.match-entry.flags.items (map plain_field c.loop-entry.fields.items) (map plain_field c.match-entry.fields.items) w.in-Child.sort w.in-Child.often (plain_field w.in_ok-read_field-in-Child.field-0) (ap (λ x. plain_texts x.items) w.texts-is) (ap (λ x. x.items) w.flags-is) pushed before w.in-Child.is w.in_ok-read_field-in-Child.ensures.form in record { texts = r.texts; flags = r.flags; children = r.children; none = entry_passes k v es i _ c.loop-entry-test.true c.loop-entry.invariant.none (child_passes k v _ w.in-Child.sort w.in-Child.often (plain_field w.in_ok-read_field-in-Child.field-0) w.in-Child.is w.in_ok-read_field-in-Child.ensures.form agrees); new = no_more_fields c.args.ast.now.next w.read_field.new.ast.next c.match-entry.ast.next (map plain_field c.match-entry.fields.items) (map plain_field c.match-entry.fields.items) refl (ap (λ x. x.next) w.ast-is) (one_more_field c.args.ast.now.next c.loop-entry.ast.next w.read_field.new.ast.next (map plain_field c.loop-entry.fields.items) (map plain_field c.match-entry.fields.items) (plain_field w.in_ok-read_field-in-Child.field-0) pushed c.loop-entry.invariant.new w.in_ok-read_field-in-Child.ensures.new) }
    ]

pub read_fields-new-requires-clause-texts : goal.read_fields-new-requires-clause-texts
read_fields-new-requires-clause-texts t c =
    subst (λ ts. texts_fit (text_entries c.args.ast_type) (plain_texts ts) ≡ true) (sym c.as_slice.ensures.value) (texts_fit-given (text_entries c.args.ast_type) (view c.args.value.now) (plain_texts c.loop-entry.texts.items) (all_texts c.entries-entry-items.result.now (entries c.args.ast_type) c.loop-entry.entry-index (view c.args.value.now) _ c.entries-entry-items.ensures c.loop-entry-test.false c.loop-entry.invariant.texts))

pub read_fields-new-requires-clause-flags : goal.read_fields-new-requires-clause-flags
read_fields-new-requires-clause-flags t c =
    ap length c.as_slice-2.ensures.value ∙ length-flags (flag_entries c.args.ast_type) (view c.args.value.now) c.loop-entry.flags.items (all_flags c.entries-entry-items.result.now (entries c.args.ast_type) c.loop-entry.entry-index (view c.args.value.now) _ c.entries-entry-items.ensures c.loop-entry-test.false c.loop-entry.invariant.flags)

pub read_fields-returns-clause-form : goal.read_fields-returns-clause-form
read_fields-returns-clause-form t c =
    let es = c.entries-entry-items.result.now in
    let i = c.loop-entry.entry-index in
    let v = view c.args.value.now in
    let k = c.args.ast_type in
    let none : fields_faults faults k v (entries k) ≡ [] = entries_pass k v es (entries k) i c.entries-entry-items.ensures c.loop-entry-test.false c.loop-entry.invariant.none in
    fields_parts k v c.requires (head_of c.in_ok-kind.kind) (plain_texts c.as_slice.result.now) c.as_slice-2.result.now (plain_fields c.loop-entry.fields.items) c.in_ok-kind.ensures
    (subst (λ ts. TextsAre (text_entries k) v (plain_texts ts)) (sym c.as_slice.ensures.value) (all_texts es (entries k) i v _ c.entries-entry-items.ensures c.loop-entry-test.false c.loop-entry.invariant.texts))
    (subst (λ bs. FlagsAre (flag_entries k) v bs) (sym c.as_slice-2.ensures.value) (all_flags es (entries k) i v _ c.entries-entry-items.ensures c.loop-entry-test.false c.loop-entry.invariant.flags))
    (all_fields es (entries k) i v _ c.entries-entry-items.ensures c.loop-entry-test.false c.loop-entry.invariant.children)
    (none_refused k v (entries k) none) (agreed k v none)

pub read_list-read_node-requires : goal.read_list-read_node-requires
read_list-read_node-requires t c =
    (omega (arith, listed_depth (field_text c.args.name) (view c.args.value.now) c.in-Some.items.now c.loop-i.i c.index-items-i.result c.in-Some.ensures c.loop-i-test.true, ap (λ x. depth (view x)) c.index-items-i.is, c.decreases), tt)

pub read_list-loop-i-preserved : goal.read_list-loop-i-preserved
read_list-loop-i-preserved t c =
    let node = c.in-Ok.node in
    let vs = c.in-Some.items.now in
    let pushed = c.in_ok-push-in-Ok.ensures.items in record {
      form = one_more_item c.args.sort c.args.last vs c.loop-i.i c.index-items-i.result c.sort_before-place.result c.loop-i-test.true c.index-items-i.is c.sort_before-place.ensures c.loop-i.nodes.items c.push.new.self.items node pushed c.in-Ok.ensures.form c.loop-i.invariant.form;
      none = item_passes faults c.args.sort c.args.last vs c.loop-i.i c.index-items-i.result c.sort_before-place.result c.loop-i-test.true c.index-items-i.is c.sort_before-place.ensures c.loop-i.invariant.none (no_faults c.sort_before-place.result (view c.index-items-i.result) node c.in-Ok.ensures.form);
      new = one_more_tree c.args.ast.now.next c.loop-i.ast.next c.read_node.new.ast.next c.loop-i.nodes.items c.push.new.self.items node pushed c.loop-i.invariant.new c.in-Ok.ensures.order c.in-Ok.ensures.marks c.in-Ok.ensures.counted;
    }

pub read_list-returns-clause-form : goal.read_list-returns-clause-form
read_list-returns-clause-form t c = all_items c.args.sort c.args.last c.in-Some.items.now c.loop-i.i c.loop-i.nodes.items _ c.loop-i-test.false c.in-Some.ensures c.loop-i.invariant.form

pub read_node-returns-then-not-is_object-clause-fault :
    goal.read_node-returns-then-not-is_object-clause-fault
read_node-returns-then-not-is_object-clause-fault t c =
    not_an_object (Shape c.new.result) c.args.sort (view c.args.value.now) (sym c.is_object.ensures ∙ c.if-not-is_object.true) (ap (λ (steps : List Step). Some (reverse steps)) (sym c.new.ensures.items))

pub read_node-returns-in_default-clause-fault : goal.read_node-returns-in_default-clause-fault
read_node-returns-in_default-clause-fault t c =
    no_kind c.fault_at.result c.args.sort (view c.args.value.now) (sym c.is_object.ensures ∙ c.if-not-is_object.false) c.in_default.ensures c.fault_at.ensures

pub read_node-returns-in_err-span-clause-fault : goal.read_node-returns-in_err-span-clause-fault
read_node-returns-in_err-span-clause-fault t c =
    let e = c.in_err-span.field-0.0 in
    exit_error c.from_residual-in_err-span.result e (faults c.args.sort (view c.args.value.now)) c.from_residual-in_err-span.ensures.1
    (span_fails e c.args.sort (view c.args.value.now) c.in-Some.ast_type (sym c.is_object.ensures ∙ c.if-not-is_object.false) c.in-Some.ensures c.in_err-span.ensures.fault)

pub read_node-returns-in_err-kind-clause-fault : goal.read_node-returns-in_err-kind-clause-fault
read_node-returns-in_err-kind-clause-fault t c =
    let e = c.in_err-kind.field-0.0 in
    exit_error c.from_residual-in_err-kind.result e (faults c.args.sort (view c.args.value.now)) c.from_residual-in_err-kind.ensures.1
    (parts_fail e c.args.sort (view c.args.value.now) c.in-Some.ast_type _ _ (sym c.is_object.ensures ∙ c.if-not-is_object.false) c.in-Some.ensures c.in_ok-span.ensures.start c.in_ok-span.ensures.stop c.in_err-kind.ensures.fault)
