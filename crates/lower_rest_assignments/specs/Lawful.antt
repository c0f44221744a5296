-- The laws of the lowering of object rests in assignments.
use Rattle.std.proofs.Common.{◌≡◌, refl, inl}
use Rattle.std.specs.Prelude.{true, is_some}
use Rattle.es_tree.specs.Tree.{Label, Fields, kind_of}
use Rattle.es_tree.specs.declared.ast_type.AstType.{AstType}
use Rattle.es_tree.specs.declared.ast_type.AstType.TheVariants.{AssignmentExpression, SequenceExpression}
use Rattle.es_tree.specs.declared.options.EnvOptions.{EnvOptions}
use Rattle.es_visit.specs.Hooks.{IsHooked}
use Rattle.es_visit.specs.declared.hook.Hook.TheVariants.{Expression}
use Rattle.es_conditions.specs.CoreConditions.{is_free}
use Rattle.es_traverse.specs.Laws.{IsLawful, OnlyAt}
use Rattle.es_row_laws.specs.Laws.{is_lowered_rest, rest_assignment_under}
use Rattle.es_row_laws.proofs.Lawful.{rest-assignment-lawful}
use Rattle.es_row_laws.proofs.Stable.{law_stable_rows_proof}
use Rattle.lower_temporaries.proofs.RowProfiles.{only-where, row-lawful}
use Rattle.lower_rest_assignments.specs.Profile.{rest_assignment_profile}

rest_assignment_hooked : (k : AstType) (l : Label) (fs : Fields) → is_lowered_rest k l fs ≡ true → IsHooked Expression k
rest_assignment_hooked AssignmentExpression l fs e = inl refl
rest_assignment_hooked _ l fs e = absurd (cc e)

pub rest_assignment_lawful : (o : EnvOptions) → IsLawful (rest_assignment_profile o)
rest_assignment_lawful o =
    row-lawful is_lowered_rest o (is_free o) (is_free o) (rest_assignment_under o) (is_some o.es2018.object_rest_spread) (λ t. kind_of t ≡ SequenceExpression) (rest-assignment-lawful o) (law_stable_rows_proof o).rest_assignment.rest_assignment rest_assignment_hooked

pub rest_assignment_only : (o : EnvOptions) → OnlyAt Expression (rest_assignment_profile o)
rest_assignment_only o = only-where is_lowered_rest (is_some o.es2018.object_rest_spread)
