use Rattle.std.proofs.Common.{ℕ, subst}
use Rattle.lower_temporaries.specs.Takings.{ReadsMore}
use Rattle.lower_exponentiation.proofs.TargetParts.{alone_size}
use Rattle.lower_exponentiation.proofs.targets.use_copies.Goals as goal

pub returns-clause-reads : goal.returns-clause-reads
returns-clause-reads c = subst (λ (n : ℕ). ReadsMore n c.args.ctx.now c.read_once_more.new.ctx) (alone_size c.args.node c.requires.alone) c.in_ok-read.ensures.reads
