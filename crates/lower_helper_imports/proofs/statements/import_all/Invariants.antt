use Rattle.std.proofs.Common.{◌≡◌, map, string_bytes}
use Rattle.lower_helper_imports.specs.Parts.{all_statements}
use Rattle.lower_helper_imports.proofs.ImportPlaces.{Inserted}
use Rattle.lower_helper_imports.proofs.statements.import_all.Given as goal

-- with the statements that are left put in, the body is that with all put in
abbrev pub invariant-loop-helper : goal.invariant-loop-helper
invariant-loop-helper l =
    (goal.iterator-loop-helper).can_next l.helper-iterator × (goal.iterator-loop-helper).is_finite l.helper-iterator × (l.program ≡ record l.initial.program { body = l.program.body })
    × Inserted l.initial.index l.initial.program.body.items (all_statements l.program.source_type l.module_name l.helpers (map string_bytes l.names)) l.index l.program.body.items (all_statements l.program.source_type l.module_name l.helper-iterator.a.rest.now (map string_bytes l.helper-iterator.b.rest.now))
