use Rattle.lower_logical_assignment.proofs.Duplicated.{duplicated-name}
use Rattle.lower_temporaries.proofs.Takings.{reads-then}
use Rattle.lower_logical_assignment.proofs.targets.duplicate_name.Goals as goal

pub returns : goal.returns
returns c names = duplicated-name c.args.ctx.now c.set_name_flags.new.ctx names c.args.target c.in_ok-read.read c.requires.name (c.in_ok-read.ensures.copy names) (reads-then c.in_ok-read.ensures.reads c.set_name_flags.ensures)
