-- What the lowering of object spread states of itself.
use Rattle.std.specs.Prelude.{◌≡◌, Bool, is_some}
use Rattle.es_tree.specs.Constructs.{is_object_spread}
use Rattle.es_tree.specs.Tree.{Label, Fields, kind_of}
use Rattle.es_tree.specs.declared.ast_type.AstType.{AstType}
use Rattle.es_tree.specs.declared.ast_type.AstType.TheVariants.{CallExpression}
use Rattle.es_tree.specs.declared.options.EnvOptions.{EnvOptions}
use Rattle.es_visit.specs.declared.hook.Hook.{Hook}
use Rattle.es_conditions.specs.CoreConditions.{is_free}
use Rattle.es_traverse.specs.Laws.{Profile}
use Rattle.es_row_laws.specs.Laws.{object_spread_under}
use Rattle.lower_temporaries.specs.RowProfiles.{constructs_where, row_profile}

-- each literal with a spread, where it is on
abbrev pub object_spread_constructs : Bool → Hook → AstType → Label → Fields → Bool
object_spread_constructs = constructs_where is_object_spread

-- It counts on chains being lowered, and leaves them so; none stands around what it lowers.
abbrev pub object_spread_profile : EnvOptions → Profile
object_spread_profile o = row_profile o (is_free o) (is_free o) (object_spread_under o) (object_spread_constructs (is_some o.es2018.object_rest_spread)) (λ t. kind_of t ≡ CallExpression)
