use Rattle.std.proofs.Common.{None, ap, ◌∙◌, bytes_eq}
use Rattle.std.proofs.lemmas.Map.Text.{hash_map_updates_text}
use Rattle.es_tree.specs.Heads.{symbol}
use Rattle.es_scope.proofs.ChangedItems.{symbol-cond}
use Rattle.es_scope.proofs.scoping_settings.unbind.Goals as goal

pub returns : goal.returns
returns c = λ x. ap symbol (hash_map_updates_text c.args.name.now c.args.bindings.now c.remove.new.self None c.remove.ensures.updates x) ∙ symbol-cond (bytes_eq c.args.name.now x) _ _
