use Rattle.std.proofs.Common.{ℕ}
use Rattle.es_tree.specs.Tree.{fields_of, kind_of, label_of}
use Rattle.es_semantic.proofs.PlacesOfFields.{known_at, own_known, stands_at}
use Rattle.es_semantic.proofs.field_places.FieldPlaces.of_node.Goals as goal

pub returns-clause-stands : goal.returns-clause-stands
returns-clause-stands c = λ p n stands own.
    let t = c.args.node.now in
    stands_at _ p n (kind_of t) (label_of t) (fields_of t) (c.place_in.ensures.stands p n stands own) (c.place_in-2.ensures.stands p n stands own) (c.place_in-3.ensures.stands p n stands own) (c.place_in-4.ensures.stands p n stands own)

pub returns-clause-known : goal.returns-clause-known
returns-clause-known c = λ n count known own room.
    let t = c.args.node.now in
    let within = λ (m : ℕ). own_known c.args.own n (kind_of t) (fields_of t) count m own room in
    known_at _ count
    (c.place_in.ensures.known count known (λ m. (within m).0) (λ m. (within m).1))
    (c.place_in-2.ensures.known count known (λ m. (within m).0) (λ m. (within m).1))
    (c.place_in-3.ensures.known count known (λ m. (within m).0) (λ m. (within m).1))
    (c.place_in-4.ensures.known count known (λ m. (within m).0) (λ m. (within m).1))
