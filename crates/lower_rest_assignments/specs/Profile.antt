-- What the lowering of object rests in assignments states of itself.
use Rattle.std.specs.Prelude.{◌≡◌, Bool, is_some}
use Rattle.es_tree.specs.Tree.{Label, Fields, kind_of}
use Rattle.es_tree.specs.declared.ast_type.AstType.{AstType}
use Rattle.es_tree.specs.declared.ast_type.AstType.TheVariants.{SequenceExpression}
use Rattle.es_tree.specs.declared.options.EnvOptions.{EnvOptions}
use Rattle.es_visit.specs.declared.hook.Hook.{Hook}
use Rattle.es_conditions.specs.CoreConditions.{is_free}
use Rattle.es_traverse.specs.Laws.{Profile}
use Rattle.es_row_laws.specs.Laws.{is_lowered_rest, rest_assignment_under}
use Rattle.lower_temporaries.specs.RowProfiles.{constructs_where, row_profile}

-- each assignment to a pattern with a rest whose target is a name or a member, where it is on
abbrev pub rest_assignment_constructs : Bool → Hook → AstType → Label → Fields → Bool
rest_assignment_constructs = constructs_where is_lowered_rest

-- It counts on chains being lowered, and leaves them so; none stands around what it lowers.
abbrev pub rest_assignment_profile : EnvOptions → Profile
rest_assignment_profile o = row_profile o (is_free o) (is_free o) (rest_assignment_under o) (rest_assignment_constructs (is_some o.es2018.object_rest_spread)) (λ t. kind_of t ≡ SequenceExpression)
