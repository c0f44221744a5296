-- What the lowering of nullish coalescing states of itself.
use Rattle.std.specs.Prelude.{◌≡◌, Bool}
use Rattle.es_tree.specs.Constructs.{is_nullish_coalescing}
use Rattle.es_tree.specs.Tree.{Label, Fields, kind_of}
use Rattle.es_tree.specs.declared.ast_type.AstType.{AstType}
use Rattle.es_tree.specs.declared.ast_type.AstType.TheVariants.{ConditionalExpression}
use Rattle.es_tree.specs.declared.options.EnvOptions.{EnvOptions}
use Rattle.es_visit.specs.declared.hook.Hook.{Hook}
use Rattle.es_conditions.specs.CoreConditions.{is_wrapped}
use Rattle.es_traverse.specs.Laws.{Profile}
use Rattle.es_row_laws.specs.Laws.{nullish_coalescing_under}
use Rattle.lower_temporaries.specs.RowProfiles.{constructs_where, row_profile}

-- each `??`, where it is on
abbrev pub nullish_coalescing_constructs : Bool → Hook → AstType → Label → Fields → Bool
nullish_coalescing_constructs = constructs_where is_nullish_coalescing

-- It counts on slots being wrapped, and leaves them so.
abbrev pub nullish_coalescing_profile : EnvOptions → Profile
nullish_coalescing_profile o = row_profile o (is_wrapped o) (is_wrapped o) (nullish_coalescing_under o) (nullish_coalescing_constructs o.es2020.nullish_coalescing_operator) (λ t. kind_of t ≡ ConditionalExpression)
