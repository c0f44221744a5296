use Rattle.std.proofs.Common.{◌∙◌, sym}
use Rattle.lower_chains.specs.Ways.{held}
use Rattle.lower_chains.proofs.Receiving.{chosen-again, chosen-stored, chosen-this}
use Rattle.lower_chains.proofs.receivers.choose_receiver.Goals as goal

pub returns-then-is_to_this-clause-chosen : goal.returns-then-is_to_this-clause-chosen
returns-then-is_to_this-clause-chosen c = λ names. chosen-this names c.args.with_this c.args.ctx.now (held c.args.holder.now) c.args.object.now (sym c.is_to_this.ensures ∙ c.if-is_to_this.true)

pub returns-then-is_kept_name-clause-chosen : goal.returns-then-is_kept_name-clause-chosen
returns-then-is_kept_name-clause-chosen c = λ names. chosen-again names c.args.with_this c.args.ctx.now (held c.args.holder.now) c.args.object.now (sym c.is_to_this.ensures ∙ c.if-is_to_this.false) (sym c.is_kept_name.ensures ∙ c.if-is_kept_name.true)

pub returns-in_ok-temporary-clause-chosen : goal.returns-in_ok-temporary-clause-chosen
returns-in_ok-temporary-clause-chosen c = λ names.
    chosen-stored names c.args.with_this c.args.ctx.now (held c.args.holder.now) c.args.object.now c.new_temporary.new.ctx c.in_ok-temporary.temporary (sym c.is_to_this.ensures ∙ c.if-is_to_this.false) (sym c.is_kept_name.ensures ∙ c.if-is_kept_name.false) c.in_ok-temporary.ensures.taken
