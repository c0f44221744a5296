use Rattle.std.proofs.Common.{◌≡◌, ◌∙◌, ◌-◌, suc, ap, arith, length, sym, take}
use Rattle.std.specs.Prelude.{◌&&◌}
use Rattle.es_tree.proofs.Sizes.{trees_size-within}
use Rattle.es_tree.specs.Tree.{label_of, trees}
use Rattle.es_tree.specs.Views.{plain, plain_fields}
use Rattle.es_tree.specs.declared.kind.Kind.{Kind as NodeKind}
use Rattle.es_tree.specs.declared.kind.Kind.TheVariants.{PatternProperty as k-PatternProperty}
use Rattle.es_rest_shapes.specs.RestShapes.{are_plain, is_plain_property}
use Rattle.es_rest_nodes.specs.RestFields.{is_plain_pair}
use Rattle.es_rest_nodes.proofs.RestTests.{fewer-first, fewer-than-two, more-first, more-parts, more-than-two, plain-last, plain-property}
use Rattle.es_rest_nodes.proofs.patterns.+plain.Goals as goal

pub are_plain-is_plain_property-requires : goal.are_plain-is_plain_property-requires
are_plain-is_plain_property-requires t c =
    let small = trees_size-within c.args.properties.now c.loop-property.property-index c.property-item.result c.loop-property-test.true c.property-item.is in
    grind (arith, small)

pub are_plain_members-may_stand_last-requires : goal.are_plain_members-may_stand_last-requires
are_plain_members-may_stand_last-requires t c =
    let small = trees_size-within c.args.members.now (length c.args.members.now - 1) c.last-item.result (omega (arith, c.in-len1-up.len_at_least)) c.last-item.is in
    grind (arith, small)

pub are_plain_members-are_plain-requires : goal.are_plain_members-are_plain-requires
are_plain_members-are_plain-requires t c =
    let small = trees_size-within c.args.members.now (length c.args.members.now - 1) c.last-item.result (omega (arith, c.in-len1-up.len_at_least)) c.last-item.is in
    grind (arith, small)

pub are_plain_members-returns-then-may_stand_last : goal.are_plain_members-returns-then-may_stand_last
are_plain_members-returns-then-may_stand_last t c =
    let ms = c.args.members.now in
    let whole : suc (length ms - 1) ≡ length ms = omega (arith, c.in-len1-up.len_at_least) in
    c.are_plain.ensures
    ∙ (ap (λ b. b && are_plain (trees (take (length ms - 1) ms))) (sym (sym c.may_stand_last.ensures ∙ c.if-may_stand_last.true)) ∙ plain-last ms (length ms - 1) c.last-item.result whole c.last-item.is)

pub are_plain_members-returns-else-may_stand_last : goal.are_plain_members-returns-else-may_stand_last
are_plain_members-returns-else-may_stand_last t c =
    let ms = c.args.members.now in
    let whole : suc (length ms - 1) ≡ length ms = omega (arith, c.in-len1-up.len_at_least) in
    c.if-may_stand_last.false
    ∙ (ap (λ b. b && are_plain (trees (take (length ms - 1) ms))) (sym (sym c.may_stand_last.ensures ∙ c.if-may_stand_last.false)) ∙ plain-last ms (length ms - 1) c.last-item.result whole c.last-item.is)

pub are_plain_parts-returns-in_default-3 : goal.are_plain_parts-returns-in_default-3
are_plain_parts-returns-in_default-3 t c = sym (more-parts c.args.fields.now (omega (arith, c.in_default.len_at_least)))

pub is_plain_first-returns-in_default : goal.is_plain_first-returns-in_default
is_plain_first-returns-in_default t c = sym (fewer-first c.args.fields.now (omega (arith, c.in_default.len_below)))

pub is_plain_first-returns-in_default-4 : goal.is_plain_first-returns-in_default-4
is_plain_first-returns-in_default-4 t c = sym (more-first c.args.fields.now (omega (arith, c.in_default.len_at_least)))

pub is_plain_pair-returns-in_default : goal.is_plain_pair-returns-in_default
is_plain_pair-returns-in_default t c = sym (fewer-than-two _ c.args.fields.now (omega (arith, c.in_default.len_below)))

pub is_plain_pair-returns-in_default-4 : goal.is_plain_pair-returns-in_default-4
is_plain_pair-returns-in_default-4 t c = sym (more-than-two _ c.args.fields.now (omega (arith, c.in_default.len_at_least)))

pub is_plain_property-returns-in-PatternProperty : goal.is_plain_property-returns-in-PatternProperty
is_plain_property-returns-in-PatternProperty t c =
    let x = c.property.inside in
    let fs = plain_fields x.fields.items in
    let kind : NodeKind = k-PatternProperty c.in-PatternProperty.shorthand c.in-PatternProperty.computed in
    c.is_plain_pair.ensures ∙ (ap (λ gs. is_plain_pair c.in-PatternProperty.computed (plain_fields gs)) c.as_slice.ensures.value ∙ (plain-property (label_of (plain x.id x.span kind fs)) fs
    ∙ (ap (λ (k : NodeKind). is_plain_property (plain x.id x.span k fs)) (sym c.in-PatternProperty.is) ∙ ap is_plain_property c.property.view_is)))
