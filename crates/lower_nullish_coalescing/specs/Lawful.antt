-- The laws of the lowering of nullish coalescing.
use Rattle.std.proofs.Common.{◌≡◌, Bool, refl, inl}
use Rattle.std.specs.Prelude.{true}
use Rattle.es_tree.specs.Constructs.{is_nullish_coalescing}
use Rattle.es_tree.specs.Tree.{Label, Fields, kind_of}
use Rattle.es_tree.specs.declared.ast_type.AstType.{AstType}
use Rattle.es_tree.specs.declared.ast_type.AstType.TheVariants.{ConditionalExpression, LogicalExpression}
use Rattle.es_tree.specs.declared.options.EnvOptions.{EnvOptions}
use Rattle.es_steps.specs.Steps.{Ledger, Site, Spot}
use Rattle.es_visit.specs.Hooks.{IsHooked}
use Rattle.es_visit.specs.declared.hook.Hook.{Hook}
use Rattle.es_visit.specs.declared.hook.Hook.TheVariants.{Expression}
use Rattle.es_conditions.specs.CoreConditions.{is_wrapped}
use Rattle.es_traverse.specs.Laws.{IsLawful, IsStable, OnlyAt}
use Rattle.es_row_laws.specs.Laws.{nullish_coalescing_under}
use Rattle.es_row_laws.proofs.Lawful.{nullish-coalescing-lawful}
use Rattle.es_row_laws.proofs.Stable.{law_stable_rows_proof}
use Rattle.lower_temporaries.proofs.RowProfiles.{only-where, row-lawful, stable-where}
use Rattle.lower_nullish_coalescing.specs.Profile.{nullish_coalescing_constructs, nullish_coalescing_profile}

coalescing_hooked : (k : AstType) (l : Label) (fs : Fields) → is_nullish_coalescing k l fs ≡ true → IsHooked Expression k
coalescing_hooked LogicalExpression l fs e = inl refl
coalescing_hooked _ l fs e = absurd (cc e)

-- steps that make no node a `??` make none one that is to be lowered
pub coalescing_stable : (R : Site → Ledger → Spot → Ledger → Spot → Type 0) → IsStable R is_nullish_coalescing → (on : Bool) (h : Hook) → IsStable R (nullish_coalescing_constructs on h)
coalescing_stable = stable-where is_nullish_coalescing

pub nullish_coalescing_lawful : (o : EnvOptions) → IsLawful (nullish_coalescing_profile o)
nullish_coalescing_lawful o =
    row-lawful is_nullish_coalescing o (is_wrapped o) (is_wrapped o) (nullish_coalescing_under o) o.es2020.nullish_coalescing_operator (λ t. kind_of t ≡ ConditionalExpression) (nullish-coalescing-lawful o)
    (law_stable_rows_proof o).nullish_coalescing.nullish_coalescing coalescing_hooked

pub nullish_coalescing_only : (o : EnvOptions) → OnlyAt Expression (nullish_coalescing_profile o)
nullish_coalescing_only o = only-where is_nullish_coalescing o.es2020.nullish_coalescing_operator
