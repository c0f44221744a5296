use Rattle.std.proofs.Common.{◌∙◌, arith, sym}
use Rattle.es_resolution.specs.Seen.{seen}
use Rattle.lower_temporaries.proofs.TwoFields.{name-seen}
use Rattle.lower_exponentiation.proofs.TargetParts.{name_no_fields, next-read, there-read, used_after, used_bound}
use Rattle.lower_exponentiation.proofs.targets.use_name.Goals as goal

pub returns-in_ok-used : goal.returns-in_ok-used
returns-in_ok-used c names =
    let old = c.args.ctx.now in
    let mid = c.set_name_flags.new.ctx in
    let new = c.use_copies.new.ctx in
    let t = seen names c.args.target in
    used_after old mid new t _ _ _ c.set_name_flags.ensures (used_bound mid new t _ _ _ (name-seen names c.args.target ∙ c.requires.target) (sym (c.stays.ensures names) ∙ c.if-stays.true) (c.in_ok-used.ensures.used names) c.in_ok-used.ensures.reads)

pub returns-in_ok-used-2 : goal.returns-in_ok-used-2
returns-in_ok-used-2 c names = used_after c.args.ctx.now c.set_name_flags.new.ctx c.read_in_front.new.ctx (seen names c.args.target) _ _ _ c.set_name_flags.ensures (c.in_ok-used-2.ensures names)

pub use_copies-requires : goal.use_copies-requires
use_copies-requires c = record { alone = name_no_fields c.args.target c.requires.target; room = omega (arith, next-read c.set_name_flags.ensures) }

pub read_in_front-requires : goal.read_in_front-requires
read_in_front-requires c = record {
  target = c.requires.target;
  unbound = λ names. sym (c.stays.ensures names) ∙ c.if-stays.false;
  there = there-read c.set_name_flags.ensures c.requires.there;
  room = omega (arith, next-read c.set_name_flags.ensures);
}
