use Rattle.std.proofs.Common.{ap, sym, ◌∙◌}
use Rattle.es_resolution.specs.Seen.{seen}
use Rattle.es_steps.specs.Nodes.{string_node}
use Rattle.lower_object_rest.proofs.Keys.{text-of}
use Rattle.lower_object_rest.proofs.groups.new_key.Goals as goal

pub returns-clause-made : goal.returns-clause-made
returns-clause-made c names = ap (seen names) c.in_ok-made.ensures.made ∙ (ap string_node c.in_ok-text.ensures ∙ sym (text-of c.args.property.now c.in-Some.key.now c.in-Some.ensures c.requires.plain))
