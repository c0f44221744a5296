use Rattle.std.proofs.Common.{ap, arith, refl, sym, ◌∙◌}
use Rattle.lower_temporaries.proofs.Takings.{reads-ids}
use Rattle.lower_object_rest.specs.Profile.{key_ids_by}
use Rattle.lower_object_rest.proofs.GroupsMade.{makes-known}
use Rattle.lower_object_rest.proofs.groups.add_property.Goals as goal

pub begin_group-requires-clause-read : goal.begin_group-requires-clause-read
begin_group-requires-clause-read c = sym c.reads_key.ensures ∙ c.if-reads_key.true

pub begin_group-requires-clause-room : goal.begin_group-requires-clause-room
begin_group-requires-clause-room c = omega (arith, ap key_ids_by (sym c.reads_key.ensures ∙ c.if-reads_key.true), c.requires.room)

pub new_key-requires-clause-room : goal.new_key-requires-clause-room
new_key-requires-clause-room c = omega (arith, ap key_ids_by (sym c.reads_key.ensures ∙ c.if-reads_key.false), c.requires.room)

pub returns : goal.returns
returns c first ps m =
    let old = c.args.ctx.now in
    makes-known first old _ ps c.args.source.now c.args.property c.args.groups.now _ m c.in_ok-key.key (sym c.reads_key.ensures ∙ c.if-reads_key.false) c.in_ok-key.ensures.made refl c.in_ok-push-2.ensures.items c.in_ok-push.ensures.items refl
    (reads-ids 1 old _ c.in_ok-key.ensures.counted refl (record { used = λ x. refl; made_is = refl }) (record { state = refl; options = refl; around = refl; scopes = refl; place = refl }))
