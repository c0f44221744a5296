-- The laws of the lowering of exponentiation.
use Rattle.std.proofs.Common.{◌≡◌, refl, inl}
use Rattle.std.specs.Prelude.{true}
use Rattle.es_tree.specs.Tree.{Label, Fields}
use Rattle.es_tree.specs.declared.ast_type.AstType.{AstType}
use Rattle.es_tree.specs.declared.ast_type.AstType.TheVariants.{AssignmentExpression, BinaryExpression}
use Rattle.es_tree.specs.declared.options.EnvOptions.{EnvOptions}
use Rattle.es_visit.specs.Hooks.{IsHooked}
use Rattle.es_visit.specs.declared.hook.Hook.TheVariants.{Expression}
use Rattle.es_conditions.specs.CoreConditions.{is_free}
use Rattle.es_traverse.specs.Laws.{IsLawful, OnlyAt}
use Rattle.es_row_laws.specs.Laws.{exponentiation_under, is_lowered_power}
use Rattle.es_row_laws.proofs.Lawful.{exponentiation-lawful}
use Rattle.es_row_laws.proofs.Stable.{law_stable_rows_proof}
use Rattle.lower_temporaries.proofs.RowProfiles.{only-where, row-lawful}
use Rattle.lower_exponentiation.specs.Exponentiations.{IsCallOrAssignment}
use Rattle.lower_exponentiation.specs.Profile.{exponentiation_profile}

exponentiation_hooked : (k : AstType) (l : Label) (fs : Fields) → is_lowered_power k l fs ≡ true → IsHooked Expression k
exponentiation_hooked BinaryExpression l fs e = inl refl
exponentiation_hooked AssignmentExpression l fs e = inl refl
exponentiation_hooked _ l fs e = absurd (cc e)

pub exponentiation_lawful : (o : EnvOptions) → IsLawful (exponentiation_profile o)
exponentiation_lawful o =
    row-lawful is_lowered_power o (is_free o) (is_free o) (exponentiation_under o) o.es2016.exponentiation_operator IsCallOrAssignment (exponentiation-lawful o) (law_stable_rows_proof o).exponentiation.exponentiation exponentiation_hooked

pub exponentiation_only : (o : EnvOptions) → OnlyAt Expression (exponentiation_profile o)
exponentiation_only o = only-where is_lowered_power o.es2016.exponentiation_operator
