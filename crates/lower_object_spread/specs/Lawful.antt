-- The laws of the lowering of object spread.
use Rattle.std.proofs.Common.{◌≡◌, refl, inl}
use Rattle.std.specs.Prelude.{true, is_some}
use Rattle.es_tree.specs.Constructs.{is_object_spread}
use Rattle.es_tree.specs.Tree.{Label, Fields, kind_of}
use Rattle.es_tree.specs.declared.ast_type.AstType.{AstType}
use Rattle.es_tree.specs.declared.ast_type.AstType.TheVariants.{CallExpression, ObjectExpression}
use Rattle.es_tree.specs.declared.options.EnvOptions.{EnvOptions}
use Rattle.es_visit.specs.Hooks.{IsHooked}
use Rattle.es_visit.specs.declared.hook.Hook.TheVariants.{Expression}
use Rattle.es_conditions.specs.CoreConditions.{is_free}
use Rattle.es_traverse.specs.Laws.{IsLawful, OnlyAt}
use Rattle.es_row_laws.specs.Laws.{object_spread_under}
use Rattle.es_row_laws.proofs.Lawful.{object-spread-lawful}
use Rattle.es_row_laws.proofs.Stable.{law_stable_rows_proof}
use Rattle.lower_temporaries.proofs.RowProfiles.{only-where, row-lawful}
use Rattle.lower_object_spread.specs.Profile.{object_spread_profile}

object_spread_hooked : (k : AstType) (l : Label) (fs : Fields) → is_object_spread k l fs ≡ true → IsHooked Expression k
object_spread_hooked ObjectExpression l fs e = inl refl
object_spread_hooked _ l fs e = absurd (cc e)

pub object_spread_lawful : (o : EnvOptions) → IsLawful (object_spread_profile o)
object_spread_lawful o =
    row-lawful is_object_spread o (is_free o) (is_free o) (object_spread_under o) (is_some o.es2018.object_rest_spread) (λ t. kind_of t ≡ CallExpression) (object-spread-lawful o) (law_stable_rows_proof o).object_spread.object_spread object_spread_hooked

pub object_spread_only : (o : EnvOptions) → OnlyAt Expression (object_spread_profile o)
object_spread_only o = only-where is_object_spread (is_some o.es2018.object_rest_spread)
