use Rattle.std.proofs.Common.{◌≡◌, ◌+◌, length, map}
use Rattle.es_resolution.specs.Seen.{seen}
use Rattle.es_runs.specs.OptionalChaining.{joined_by_or}
use Rattle.lower_chains.specs.Ways.{Names}
use Rattle.lower_chains.proofs.choices.join_by_or.Given as goal

-- what is joined so far, with what is left, makes the whole
abbrev pub invariant-loop-other : goal.invariant-loop-other
invariant-loop-other l = record {
  whole : (names : Names) → joined_by_or (seen names l.joined) (map (seen names) l.other-iterator.rest.items) ≡ joined_by_or (seen names l.fn.first) (map (seen names) l.fn.others.items);
  counted : l.ast.next + length l.other-iterator.rest.items ≡ l.fn.ast.next + length l.fn.others.items;
}
