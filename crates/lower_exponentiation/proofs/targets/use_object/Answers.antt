use Rattle.std.proofs.Common.{◌∙◌, sym}
use Rattle.es_resolution.specs.Seen.{seen}
use Rattle.lower_temporaries.specs.SeenTrees.{no_bindings}
use Rattle.lower_exponentiation.specs.Targets.{names_that_stay}
use Rattle.lower_exponentiation.proofs.TargetParts.{stays_no_fields, used_held, used_object}
use Rattle.lower_exponentiation.proofs.targets.use_object.Goals as goal

pub returns-in_ok-used : goal.returns-in_ok-used
returns-in_ok-used c names = used_held c.args.by_name c.args.ctx.now c.use_copies.new.ctx (seen names c.args.object) _ _ _ (sym (c.stays.ensures names) ∙ c.if-stays.true) (c.in_ok-used.ensures.used names) c.in_ok-used.ensures.reads

pub returns-in_ok-used-2 : goal.returns-in_ok-used-2
returns-in_ok-used-2 c names = used_object c.args.by_name c.args.ctx.now c.use_temporary.new.ctx (seen names c.args.object) _ _ _ (sym (c.stays.ensures names) ∙ c.if-stays.false) (c.in_ok-used-2.ensures names)

pub use_copies-requires-clause-alone : goal.use_copies-requires-clause-alone
use_copies-requires-clause-alone c = stays_no_fields (names_that_stay c.args.by_name) no_bindings c.args.object (sym (c.stays.ensures no_bindings) ∙ c.if-stays.true)
