use Rattle.std.proofs.Common.{List, ap, arith, refl, ◌++◌, ◌∙◌, ◌∷◌, ◌≡◌, []}
use Rattle.es_tree.specs.Tree.{Tree, trees}
use Rattle.es_changes.specs.Moments.{Moment}
use Rattle.es_resolution.specs.Seen.{seen, seen_among}
use Rattle.es_rest_rows.specs.RestRows.{group}
use Rattle.es_steps.specs.Nodes.{made}
use Rattle.lower_object_rest.proofs.GroupsMade.{makes-read}
use Rattle.lower_object_rest.proofs.groups.begin_group.Goals as goal

pub name_key-requires-clause-room : goal.name_key-requires-clause-room
name_key-requires-clause-room c =
    let next = ap (λ (a : Moment). a.next) c.in_ok-group.ensures.reads.moment_is in
    omega (arith, next, c.requires.room)

pub returns : goal.returns
returns c first ps m =
    let s = c.args.source.now in
    let g = c.args.groups.now in
    let k = c.in_ok-declarator.field-0 in
    let none : c.replace-closed.new.dest.items ≡ [] = (λ i. (c.replace-closed.ensures.after i).items) ∙ c.new.ensures.items in
    let moved : c.replace-closed.result.items ≡ g.properties.items = λ i. (c.replace-closed.ensures.value i).items in
    makes-read first c.args.ctx.now _ ps s c.args.property g _ m c.new_group.new.ctx c.in_ok-group.group k c.requires.read
    (λ names. c.in_ok-group.ensures.made names ∙ ap (λ (qs : List Tree). group (made [] []) (seen names s) (seen_among names (trees qs))) moved) c.in_ok-group.ensures.reads c.in_ok-declarator.ensures
    (c.in_ok-push-2.ensures.items ∙ ap (λ (ts : List Tree). ts ++ k.declarator ∷ []) c.in_ok-push.ensures.items) (c.in_ok-push-3.ensures.items ∙ ap (λ (ts : List Tree). ts ++ k.property ∷ []) none) c.in_ok-push-4.ensures.items refl
