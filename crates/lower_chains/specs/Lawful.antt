-- The laws of the lowering of optional chaining.
use Rattle.std.proofs.Common.{◌≡◌, refl, inl}
use Rattle.std.specs.Prelude.{true}
use Rattle.es_conditions.specs.CoreConditions.{is_free, is_wrapped}
use Rattle.es_row_laws.proofs.Lawful.{optional-chaining-lawful}
use Rattle.es_row_laws.proofs.Stable.{law_stable_rows_proof}
use Rattle.es_traverse.specs.Laws.{IsLawful, OnlyAt}
use Rattle.es_tree.specs.Constructs.{is_chain}
use Rattle.es_tree.specs.Tree.{Label, Fields, kind_of}
use Rattle.es_tree.specs.declared.ast_type.AstType.{AstType}
use Rattle.es_tree.specs.declared.ast_type.AstType.TheVariants.{ChainExpression}
use Rattle.es_tree.specs.declared.options.EnvOptions.{EnvOptions}
use Rattle.es_visit.specs.Hooks.{IsHooked}
use Rattle.es_visit.specs.declared.hook.Hook.TheVariants.{Expression}
use Rattle.lower_temporaries.proofs.RowProfiles.{only-where, row-lawful}
use Rattle.lower_chains.specs.Profiles.{chain_profile, chain_rule, is_left}

chain_hooked : (k : AstType) (l : Label) (fs : Fields) → is_chain k l fs ≡ true → IsHooked Expression k
chain_hooked ChainExpression l fs e = inl refl
chain_hooked _ l fs e = absurd (cc e)

pub chain_lawful : (o : EnvOptions) → IsLawful (chain_profile o)
chain_lawful o =
    row-lawful is_chain o (is_wrapped o) (is_free o) (chain_rule o) o.es2020.optional_chaining (λ t. is_left (kind_of t) ≡ true) (optional-chaining-lawful o) (law_stable_rows_proof o).optional_chaining.optional_chaining chain_hooked

-- it removes nothing at other hooks
pub chain_only : (o : EnvOptions) → OnlyAt Expression (chain_profile o)
chain_only o = only-where is_chain o.es2020.optional_chaining
