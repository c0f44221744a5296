-- The laws of the lowering of logical assignment.
use Rattle.std.proofs.Common.{◌≡◌, Bool, refl, inl}
use Rattle.std.specs.Prelude.{true}
use Rattle.es_tree.specs.Tree.{Label, Fields, kind_of}
use Rattle.es_tree.specs.declared.ast_type.AstType.{AstType}
use Rattle.es_tree.specs.declared.ast_type.AstType.TheVariants.{AssignmentExpression, LogicalExpression}
use Rattle.es_tree.specs.declared.options.EnvOptions.{EnvOptions}
use Rattle.es_steps.specs.Steps.{Ledger, Site, Spot}
use Rattle.es_visit.specs.Hooks.{IsHooked}
use Rattle.es_visit.specs.declared.hook.Hook.{Hook}
use Rattle.es_visit.specs.declared.hook.Hook.TheVariants.{Expression}
use Rattle.es_conditions.specs.CoreConditions.{is_wrapped}
use Rattle.es_traverse.specs.Laws.{IsLawful, IsStable, OnlyAt}
use Rattle.es_row_laws.specs.Laws.{is_lowered_assignment, logical_assignment_under}
use Rattle.es_row_laws.proofs.Lawful.{logical-assignment-lawful}
use Rattle.es_row_laws.proofs.Stable.{law_stable_rows_proof}
use Rattle.lower_temporaries.proofs.RowProfiles.{only-where, row-lawful, stable-where}
use Rattle.lower_logical_assignment.specs.Profile.{logical_assignment_constructs, logical_assignment_profile}

assignment_hooked : (k : AstType) (l : Label) (fs : Fields) → is_lowered_assignment k l fs ≡ true → IsHooked Expression k
assignment_hooked AssignmentExpression l fs e = inl refl
assignment_hooked _ l fs e = absurd (cc e)

-- steps that make no node a logical assignment make none one that is to be lowered
pub assignment_stable : (R : Site → Ledger → Spot → Ledger → Spot → Type 0) → IsStable R is_lowered_assignment → (on : Bool) (h : Hook) → IsStable R (logical_assignment_constructs on h)
assignment_stable = stable-where is_lowered_assignment

pub logical_assignment_lawful : (o : EnvOptions) → IsLawful (logical_assignment_profile o)
logical_assignment_lawful o =
    row-lawful is_lowered_assignment o (is_wrapped o) (is_wrapped o) (logical_assignment_under o) o.es2021.logical_assignment_operators (λ t. kind_of t ≡ LogicalExpression) (logical-assignment-lawful o)
    (law_stable_rows_proof o).logical_assignment.logical_assignment assignment_hooked

pub logical_assignment_only : (o : EnvOptions) → OnlyAt Expression (logical_assignment_profile o)
logical_assignment_only o = only-where is_lowered_assignment o.es2021.logical_assignment_operators
