use Rattle.std.proofs.Common.{ℕ, map, Option}
use Rattle.es_resolution.specs.Seen.{seen}
use Rattle.es_tree.specs.Words.{Text}
use Rattle.lower_temporaries.specs.FurtherUses.{DuplicatedSoFar}
use Rattle.lower_temporaries.proofs.duplicate.duplicate_expression_multiple.Given as goal

abbrev pub invariant-loop : goal.invariant-loop
invariant-loop g l = (names : ℕ → Text → Option ℕ) → DuplicatedSoFar l.fn.mutated_symbol_needs_temp_var l.counter l.fn.ctx l.ctx (seen names l.fn.expression) (seen names l.first) l.again (map (seen names) l.others.items)
