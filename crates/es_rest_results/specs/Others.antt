-- Which constructs that options ask to lower stand in a program of statements, but for object patterns with a rest that are declared. Arrows don't stand in
-- one, and declarations by `using` are none of what the built rules lower.
use Rattle.std.specs.Prelude.{◌&&◌, ◌||◌, Bool, is_some}
use Rattle.es_tree.specs.Constructs.{is_namespace_export, is_nullish_coalescing, is_optional_catch}
use Rattle.es_tree.specs.Tree.{Tree}
use Rattle.es_tree.specs.Walks.{any_node}
use Rattle.es_tree.specs.declared.options.EnvOptions.{EnvOptions}
use Rattle.es_reached.specs.Unmade.{is_sought, of_assigned_rests}
use Rattle.es_statement_steps.specs.Laws.{assignments_there, chains_there, powers_there, spreads_there}

-- `l ?? r` (ECMA-262, 13.13)
abbrev pub coalescings_there : EnvOptions → Tree → Bool
coalescings_there o p = o.es2020.nullish_coalescing_operator && any_node is_nullish_coalescing p

-- `catch { .. }` without a parameter (14.15)
abbrev pub catches_there : EnvOptions → Tree → Bool
catches_there o p = o.es2019.optional_catch_binding && any_node is_optional_catch p

-- `export * as n from "m"` (16.2.3)
abbrev pub exports_there : EnvOptions → Tree → Bool
exports_there o p = o.es2020.export_namespace_from && any_node is_namespace_export p

-- an object pattern with a rest to which a value is assigned (13.15.5)
abbrev pub assigned_rests_there : EnvOptions → Tree → Bool
assigned_rests_there o p = is_some o.es2018.object_rest_spread && any_node (is_sought of_assigned_rests) p

-- any of them, an object literal with a spread (13.2.5), an optional chain (13.3.9), an assignment by `||=`, `&&=` or `??=` (13.15), or a power by `**` or
-- `**=` (13.6, 13.15)
abbrev pub others_there : EnvOptions → Tree → Bool
others_there o p =
    spreads_there o p || (chains_there o p || (assignments_there o p || (powers_there o p || (coalescings_there o p || (catches_there o p || (exports_there o p || assigned_rests_there o p))))))
