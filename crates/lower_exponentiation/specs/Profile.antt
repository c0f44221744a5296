-- What the lowering of exponentiation states of itself.
use Rattle.std.specs.Prelude.{Bool}
use Rattle.es_tree.specs.Tree.{Label, Fields}
use Rattle.es_tree.specs.declared.ast_type.AstType.{AstType}
use Rattle.es_tree.specs.declared.options.EnvOptions.{EnvOptions}
use Rattle.es_visit.specs.declared.hook.Hook.{Hook}
use Rattle.es_conditions.specs.CoreConditions.{is_free}
use Rattle.es_traverse.specs.Laws.{Profile}
use Rattle.es_row_laws.specs.Laws.{exponentiation_under, is_lowered_power}
use Rattle.lower_temporaries.specs.RowProfiles.{constructs_where, row_profile}
use Rattle.lower_exponentiation.specs.Exponentiations.{IsCallOrAssignment}

-- each `**`, and each `**=` to what it can assign to, where it is on
abbrev pub exponentiation_constructs : Bool → Hook → AstType → Label → Fields → Bool
exponentiation_constructs = constructs_where is_lowered_power

-- It counts on chains being lowered, and leaves them so.
abbrev pub exponentiation_profile : EnvOptions → Profile
exponentiation_profile o = row_profile o (is_free o) (is_free o) (exponentiation_under o) (exponentiation_constructs o.es2016.exponentiation_operator) IsCallOrAssignment
