use Rattle.std.proofs.Common.{◌≡◌, ◌+◌, ◌<◌, ℕ, true, bytes_eq, string_bytes, ◌∙◌}
use Rattle.std.specs.HashSet.{contains_text}
use Rattle.es_tree.specs.Fresh.{also, candidate}
use Rattle.es_tree.specs.Words.{Text}
use Rattle.es_scope.proofs.Among.{also-inserted}
use Rattle.es_scope.proofs.Candidates.{stays, AreTaken-also, AreTaken-inserted, taken_through, AreUnderscored-pushed}
use Rattle.es_scope.proofs.uids.UidGenerator.take.Goals as goal

-- the candidates of the base through this one are in use, whether or not its number is kept
pub invariant_of-self-2 : goal.invariant_of-self-2
invariant_of-self-2 c =
    let old = c.args.self.now.in_use in
    let new = c.insert.new.self in
    let name = c.args.name.now in
    let adds : (x : Text) → contains_text new x ≡ also name (contains_text old) x =
    also-inserted old new (string_bytes c.in_ok-used.used) name c.in_ok-insert.ensures.updates c.in_ok-used.ensures.ok in
    let first : (m : ℕ) → m < c.args.number + 1 → contains_text new (candidate (string_bytes c.in_ok-key.key) m) ≡ true =
    rw c.in_ok-key.ensures.ok (taken_through old new name adds c.args.base.now c.args.number c.requires.name c.requires.first) in
    record {
      counted = AreTaken-inserted c.args.self.now.taken c.insert-2.new.self new (string_bytes c.in_ok-key.key) (c.args.number + 1) c.insert-2.result c.insert-2.ensures.updates c.insert-2.ensures.err first (AreTaken-also c.args.self.now.taken old new name adds c.args.self.now.counted);
      underscored = AreUnderscored-pushed c.args.self.now.made.items c.push.new.self.items c.in_ok-from_str.field-0 c.args.base.now c.args.number (c.in_ok-from_str.ensures.ok ∙ c.requires.name) c.in_ok-push.ensures.items c.args.self.now.underscored;
    }

pub returns-clause-taken : goal.returns-clause-taken
returns-clause-taken c =
    also-inserted c.args.self.now.in_use c.insert.new.self (string_bytes c.in_ok-used.used) c.args.name.now c.in_ok-insert.ensures.updates c.in_ok-used.ensures.ok

pub returns-in_err-insert-2-clause-kept : goal.returns-in_err-insert-2-clause-kept
returns-in_err-insert-2-clause-kept c = λ x e.
    also-inserted c.args.self.now.in_use c.insert.new.self (string_bytes c.in_ok-used.used) c.args.name.now c.in_ok-insert.ensures.updates c.in_ok-used.ensures.ok x ∙ stays _ (bytes_eq c.args.name.now x) e

pub returns-clause-kept : goal.returns-clause-kept
returns-clause-kept c = λ x e.
    also-inserted c.args.self.now.in_use c.insert.new.self (string_bytes c.in_ok-used.used) c.args.name.now c.in_ok-insert.ensures.updates c.in_ok-used.ensures.ok x ∙ stays _ (bytes_eq c.args.name.now x) e
