use Rattle.std.proofs.Common.{◌≡◌, map, string_bytes}
use Rattle.es_helper_calls.specs.HelperCalls.{bound_of}
use Rattle.es_helper_imports.specs.Imported.{unmarked}
use Rattle.lower_helper_imports.proofs.names.name_of.Given as goal

-- the name is that which those that are left give
abbrev pub invariant-loop-known : goal.invariant-loop-known
invariant-loop-known l = (goal.iterator-loop-known).can_next l.known-iterator × (goal.iterator-loop-known).is_finite l.known-iterator × ((bound_of l.known-iterator.a.rest.now (unmarked (map string_bytes l.known-iterator.b.rest.now)) l.helper).name ≡ (bound_of l.helpers (unmarked (map string_bytes l.names)) l.helper).name)
