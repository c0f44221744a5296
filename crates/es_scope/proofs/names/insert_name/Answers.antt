use Rattle.std.proofs.Common.{string_bytes}
use Rattle.es_scope.proofs.Among.{also-inserted}
use Rattle.es_scope.proofs.names.insert_name.Goals as goal

pub returns-in_ok-insert : goal.returns-in_ok-insert
returns-in_ok-insert c =
    also-inserted c.args.names.now c.insert.new.self (string_bytes c.in_ok-from_str.field-0) c.args.name.now c.in_ok-insert.ensures.updates c.in_ok-from_str.ensures.ok
