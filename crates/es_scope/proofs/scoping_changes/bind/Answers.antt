use Rattle.std.proofs.Common.{Some, string_bytes, ap, ◌∙◌, bytes_eq}
use Rattle.std.proofs.lemmas.Map.Text.{hash_map_updates_text}
use Rattle.es_tree.specs.Heads.{symbol}
use Rattle.es_scope.proofs.ChangedItems.{symbol-cond}
use Rattle.es_scope.proofs.scoping_changes.bind.Goals as goal

pub returns-clause-bound : goal.returns-clause-bound
returns-clause-bound c = λ x.
    ap symbol (hash_map_updates_text (string_bytes c.args.name) c.args.bindings.now c.insert.new.self (Some c.args.symbol) c.in_ok-insert.ensures.updates x) ∙ symbol-cond (bytes_eq (string_bytes c.args.name) x) _ _
