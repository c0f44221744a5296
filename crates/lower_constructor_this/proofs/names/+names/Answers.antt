use Rattle.std.proofs.Common.{◌∙◌, ap, arith, sym}
use Rattle.es_tree.proofs.Sizes.{fields_size-within, trees_size-within}
use Rattle.es_tree.specs.Heads.{head_of, label}
use Rattle.es_tree.specs.Names.{is_name_place}
use Rattle.es_tree.specs.Views.{plain_field}
use Rattle.es_set_this.specs.ConstructorThis.{names_by}
use Rattle.lower_constructor_this.proofs.NamePlaces.{none-in, one-in}
use Rattle.lower_constructor_this.proofs.names.+names.Goals as goal

pub names_among-names_it-requires : goal.names_among-names_it-requires
names_among-names_it-requires t c =
    let small = trees_size-within c.args.nodes.now c.loop-node.node-index c.node-item.result c.loop-node-test.true c.node-item.is in
    grind (arith, small)

pub names_in-names_by-requires : goal.names_in-names_by-requires
names_in-names_by-requires t c =
    let small = fields_size-within c.args.fields.now c.loop-index.index c.index-fields-index.result c.loop-index-test.true c.index-fields-index.is in
    grind (arith, small)

pub names_in-returns-then-names_by : goal.names_in-returns-then-names_by
names_in-returns-then-names_by t c id span =
    let counts = is_name_place (head_of c.args.kind.now).kind (label id span (head_of c.args.kind.now)) in
    sym (one-in c.args.name.now counts c.args.fields.now c.loop-index.index c.index-fields-index.result c.loop-index-test.true c.index-fields-index.is
    (ap (λ b. names_by c.args.name.now b (plain_field c.index-fields-index.result)) (sym (c.is_name_place.ensures id span)) ∙ sym c.if-names_by.ensures))

pub names_in-loop-index-preserved : goal.names_in-loop-index-preserved
names_in-loop-index-preserved t c id span =
    let counts = is_name_place (head_of c.args.kind.now).kind (label id span (head_of c.args.kind.now)) in
    none-in c.args.name.now counts c.args.fields.now c.loop-index.index c.index-fields-index.result c.loop-index-test.true c.index-fields-index.is (c.loop-index.invariant id span)
    (ap (λ b. names_by c.args.name.now b (plain_field c.index-fields-index.result)) (sym (c.is_name_place.ensures id span)) ∙ sym c.if-names_by.ensures)
