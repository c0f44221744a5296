-- The constructs that the built lowerings take away, where the options ask for them: of assignments those to a name or a member, maybe in
-- parentheses, and so of the rest of an object that is assigned to.
use Rattle.std.specs.Prelude.{Bool, ◌&&◌, ◌||◌, is_some}
use Rattle.es_tree.specs.Constructs.{is_chain, is_exponentiation, is_logical_assignment, is_namespace_export, is_nullish_coalescing, is_object_spread, is_optional_catch}
use Rattle.es_tree.specs.RestTargets.{is_rest_assignment}
use Rattle.es_tree.specs.Tree.{Label, Fields}
use Rattle.es_tree.specs.declared.ast_type.AstType.{AstType}
use Rattle.es_tree.specs.declared.options.EnvOptions.{EnvOptions}
use Rattle.es_row_laws.specs.Laws.{is_lowered_assignment, is_lowered_power, is_lowered_rest}

abbrev pub is_lowered_construct : EnvOptions → AstType → Label → Fields → Bool
is_lowered_construct o k l fs =
    (o.es2021.logical_assignment_operators && is_lowered_assignment k l fs)
    || (o.es2020.nullish_coalescing_operator && is_nullish_coalescing k l fs)
    || (o.es2020.optional_chaining && is_chain k l fs)
    || (o.es2019.optional_catch_binding && is_optional_catch k l fs)
    || (is_some o.es2018.object_rest_spread && is_object_spread k l fs)
    || (is_some o.es2018.object_rest_spread && is_lowered_rest k l fs)
    || (o.es2016.exponentiation_operator && is_lowered_power k l fs)

-- the rows of the lowerings that are built, which the visit takes away
abbrev pub is_built_construct : EnvOptions → AstType → Label → Fields → Bool
is_built_construct o k l fs =
    (o.es2021.logical_assignment_operators && is_logical_assignment k l fs)
    || (o.es2020.nullish_coalescing_operator && is_nullish_coalescing k l fs)
    || (o.es2020.optional_chaining && is_chain k l fs)
    || (o.es2019.optional_catch_binding && is_optional_catch k l fs)
    || (is_some o.es2018.object_rest_spread && is_object_spread k l fs)
    || (is_some o.es2018.object_rest_spread && is_rest_assignment k l fs)
    || (o.es2016.exponentiation_operator && is_exponentiation k l fs)

-- exports of a module's namespace, which are taken away after the visit
abbrev pub is_lowered_export : EnvOptions → AstType → Label → Fields → Bool
is_lowered_export o k l fs = o.es2020.export_namespace_from && is_namespace_export k l fs
