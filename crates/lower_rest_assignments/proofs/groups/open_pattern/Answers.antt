use Rattle.std.proofs.Common.{refl}
use Rattle.lower_rest_assignments.proofs.Opened.{last-opens, pattern-apart, pattern-opens}
use Rattle.lower_rest_assignments.proofs.groups.open_pattern.Goals as goal

pub open-properties-requires : goal.open-properties-requires
open-properties-requires c = pattern-opens c.args.pattern c.requires

pub open-argument-requires : goal.open-argument-requires
open-argument-requires c = last-opens c.args.pattern c.open-properties.result c.open-properties.ensures c.requires c.pop.new.self.items c.in-Some.rest c.in-Some.ensures.items

pub returns : goal.returns
returns c = pattern-apart c.args.pattern c.open-properties.result c.open-properties.ensures c.requires c.pop.new.self.items c.in-Some.rest c.in-Some.ensures.items c.open-argument.result _ c.open-argument.ensures refl refl refl refl
