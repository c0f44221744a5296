use Rattle.std.proofs.Common.{List, ap, refl, ◌++◌, ◌∙◌, ◌∷◌, ◌≡◌, []}
use Rattle.es_tree.specs.Heads.{head_of, label}
use Rattle.es_tree.specs.Tree.{Tree}
use Rattle.es_tree.specs.declared.kind.Kind.TheVariants.{ObjectTarget as k-ObjectTarget, TargetProperty as k-TargetProperty}
use Rattle.es_steps.specs.RestAssignments.{object_target}
use Rattle.lower_temporaries.specs.Declarators.{bound_as}
use Rattle.lower_temporaries.proofs.Takings.{reads-ids, reads-then}
use Rattle.lower_rest_assignments.proofs.Properties.{adds-read}
use Rattle.lower_rest_assignments.proofs.groups.begin_group.Goals as goal

pub returns : goal.returns
returns c =
    let x = c.args.property in
    let old = c.args.ctx.now in
    let g = c.args.groups.now in
    let closed = c.assign_source.new.ctx in
    let stored = c.store.new.ctx in
    let st = c.in_ok-name.field-0 in
    let last = c.in_ok-last.last in
    let none : c.replace-closed.new.dest.items ≡ [] = (λ i. (c.replace-closed.ensures.after i).items) ∙ c.new.ensures.items in
    let moved : c.replace-closed.result.items ≡ g.properties.items = λ i. (c.replace-closed.ensures.value i).items in
    let m = label (record { 0 = old.ast.next }) (record { start = 0; end = 0 }) (head_of k-ObjectTarget) in
    adds-read (bound_as c.args.source.now) old c.read-2.new.ctx (label x.id x.span (head_of (k-TargetProperty x.shorthand x.computed))) x.key x.value _ g _ refl closed stored st m c.in_ok-group.group last c.in_ok-target.target c.in_ok-property.property c.in_ok-element.element refl c.requires.read
    (c.in_ok-group.ensures.made ∙ ap (object_target m) moved) c.in_ok-last.ensures.made
    (reads-then {m = 1} {n = 2} (reads-ids 1 old _ c.new_object_target.ensures.counted refl (record { used = λ x. refl; made_is = refl }) (record { state = refl; options = refl; around = refl; scopes = refl; place = refl })) c.in_ok-last.ensures.reads)
    c.in_ok-name.ensures (reads-then {m = 1} {n = 1} c.in_ok-target.ensures.reads c.in_ok-element.ensures.reads) c.in_ok-target.ensures.made c.in_ok-element.ensures.made c.in_ok-property.ensures
    (c.in_ok-push-2.ensures.items ∙ ap (λ (ts : List Tree). ts ++ st.assignment ∷ []) c.in_ok-push.ensures.items) (c.in_ok-push-3.ensures.items ∙ ap (λ (ts : List Tree). ts ++ c.in_ok-property.property ∷ []) none) c.in_ok-push-4.ensures.items refl
