use Rattle.std.proofs.Common.{ap, refl, subst, sym, ◌++◌, ◌∙◌, ◌∷◌, []}
use Rattle.es_tree.specs.Heads.{head_of, label}
use Rattle.es_tree.specs.Tree.{Tree}
use Rattle.es_tree.specs.declared.kind.Kind.TheVariants.{TargetProperty as k-TargetProperty}
use Rattle.es_resolution.specs.Seen.{seen}
use Rattle.es_steps.specs.Nodes.{string_node}
use Rattle.lower_temporaries.specs.Declarators.{bound_as}
use Rattle.lower_temporaries.proofs.Takings.{reads-ids}
use Rattle.lower_rest_assignments.specs.Groups.{AddsProperty}
use Rattle.lower_rest_assignments.proofs.Opened.{property-opens}
use Rattle.lower_rest_assignments.proofs.Properties.{adds-known}
use Rattle.lower_rest_assignments.proofs.groups.add_property.Goals as goal

pub open-opened-requires : goal.open-opened-requires
open-opened-requires c = property-opens c.args.property c.requires.whole

pub begin_group-requires-clause-read : goal.begin_group-requires-clause-read
begin_group-requires-clause-read c = sym c.reads_key.ensures ∙ c.if-reads_key.true

pub returns-then-reads_key : goal.returns-then-reads_key
returns-then-reads_key c = subst (λ (t : Tree). AddsProperty (bound_as c.args.source.now) c.args.ctx.now c.begin_group.new.ctx t c.args.groups.now c.begin_group.new.groups) c.open-opened.ensures c.in_ok-begin_group.ensures

pub returns : goal.returns
returns c =
    let x = c.open-opened.result in
    let old = c.args.ctx.now in
    let g = c.args.groups.now in
    let whole = c.in_ok-property.ensures ∙ c.open-opened.ensures in
    adds-known (bound_as c.args.source.now) old _ (label x.id x.span (head_of (k-TargetProperty x.shorthand x.computed))) x.key x.value c.args.property g _ c.open-opened.ensures c.in_ok-key.key (sym c.reads_key.ensures ∙ c.if-reads_key.false)
    (λ names. ap (seen names) c.in_ok-key.ensures.made ∙ ap string_node c.in_ok-text.ensures) refl (c.in_ok-push-2.ensures.items ∙ ap (λ (t : Tree). g.properties.items ++ t ∷ []) whole) c.in_ok-push.ensures.items refl
    (reads-ids 1 old _ c.in_ok-key.ensures.counted refl (record { used = λ x. refl; made_is = refl }) (record { state = refl; options = refl; around = refl; scopes = refl; place = refl }))
