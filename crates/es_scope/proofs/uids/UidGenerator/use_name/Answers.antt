use Rattle.std.proofs.Common.{◌∙◌, bytes_eq, string_bytes}
use Rattle.es_scope.proofs.Among.{also-inserted}
use Rattle.es_scope.proofs.Candidates.{stays, AreTaken-inserted_use}
use Rattle.es_scope.proofs.uids.UidGenerator.use_name.Goals as goal

pub invariant_of-self : goal.invariant_of-self
invariant_of-self c = record {
  counted = AreTaken-inserted_use c.args.self.now.taken c.args.self.now.in_use c.insert.new.self (string_bytes c.in_ok-used.used) c.insert.result c.insert.ensures.updates c.insert.ensures.err c.args.self.now.counted;
  underscored = c.args.self.now.underscored;
}

pub returns-clause-taken : goal.returns-clause-taken
returns-clause-taken c = also-inserted c.args.self.now.in_use c.insert.new.self (string_bytes c.in_ok-used.used) c.args.name.now c.in_ok-insert.ensures.updates c.in_ok-used.ensures.ok

pub returns-clause-kept : goal.returns-clause-kept
returns-clause-kept c = λ x e.
    also-inserted c.args.self.now.in_use c.insert.new.self (string_bytes c.in_ok-used.used) c.args.name.now c.in_ok-insert.ensures.updates c.in_ok-used.ensures.ok x ∙ stays _ (bytes_eq c.args.name.now x) e
