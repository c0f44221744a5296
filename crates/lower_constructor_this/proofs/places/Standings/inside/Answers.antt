use Rattle.es_tree.specs.Tree.{fields_of, kind_of, label_of}
use Rattle.lower_constructor_this.proofs.Told.{told}
use Rattle.lower_constructor_this.proofs.places.Standings.inside.Goals as goal

pub returns : goal.returns
returns c =
    let t = c.args.node.now in
    told (record { at_1 = c.inside.result; at_2 = c.inside-2.result }) c.args.standing (kind_of t) (label_of t) (fields_of t) c.inside.ensures c.inside-2.ensures
