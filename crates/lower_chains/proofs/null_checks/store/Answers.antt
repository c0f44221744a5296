use Rattle.std.proofs.Common.{refl}
use Rattle.lower_temporaries.proofs.Later.{reads-made}
use Rattle.lower_chains.proofs.null_checks.store.Goals as goal

pub returns-clause-reads : goal.returns-clause-reads
returns-clause-reads c = reads-made 1 2 c.args.ctx.now c.read_name.new.ctx _ c.in_ok-read.ensures.reads c.in_ok-written.ensures.counted refl (record { used = λ x. refl; made_is = refl }) (record { state = refl; options = refl; around = refl; scopes = refl; place = refl }) refl
