-- What the lowering of logical assignment states of itself.
use Rattle.std.specs.Prelude.{◌≡◌, Bool}
use Rattle.es_tree.specs.Tree.{Label, Fields, kind_of}
use Rattle.es_tree.specs.declared.ast_type.AstType.{AstType}
use Rattle.es_tree.specs.declared.ast_type.AstType.TheVariants.{LogicalExpression}
use Rattle.es_tree.specs.declared.options.EnvOptions.{EnvOptions}
use Rattle.es_visit.specs.declared.hook.Hook.{Hook}
use Rattle.es_conditions.specs.CoreConditions.{is_wrapped}
use Rattle.es_traverse.specs.Laws.{Profile}
use Rattle.es_row_laws.specs.Laws.{is_lowered_assignment, logical_assignment_under}
use Rattle.lower_temporaries.specs.RowProfiles.{constructs_where, row_profile}

-- each logical assignment to a name or to a member that isn't private, where it is on
abbrev pub logical_assignment_constructs : Bool → Hook → AstType → Label → Fields → Bool
logical_assignment_constructs = constructs_where is_lowered_assignment

-- It counts on slots being wrapped, and leaves them so.
abbrev pub logical_assignment_profile : EnvOptions → Profile
logical_assignment_profile o = row_profile o (is_wrapped o) (is_wrapped o) (logical_assignment_under o) (logical_assignment_constructs o.es2021.logical_assignment_operators) (λ t. kind_of t ≡ LogicalExpression)
