-- What the lowering of optional chaining states of itself.
use Rattle.std.specs.Prelude.{◌≡◌, ◌||◌, Bool, true}
use Rattle.es_conditions.specs.CoreConditions.{is_free, is_wrapped}
use Rattle.es_steps.specs.Steps.{Ledger, Site, Spot}
use Rattle.es_traverse.specs.Laws.{Profile}
use Rattle.es_tree.specs.Constructs.{is_chain}
use Rattle.es_tree.specs.HasForm.{same_type}
use Rattle.es_tree.specs.Tree.{Label, Fields, kind_of}
use Rattle.es_tree.specs.declared.ast_type.AstType.{AstType}
use Rattle.es_tree.specs.declared.ast_type.AstType.TheVariants.{CallExpression, ConditionalExpression}
use Rattle.es_tree.specs.declared.options.EnvOptions.{EnvOptions}
use Rattle.es_visit.specs.declared.hook.Hook.{Hook}
use Rattle.es_row_laws.specs.Laws.{optional_chaining_under}
use Rattle.lower_temporaries.specs.RowProfiles.{constructs_where, row_profile}
use Rattle.lower_chains.specs.declared.optional_chaining.OptionalChaining.{OptionalChaining}

-- where the options ask for it
abbrev pub chain_rule : EnvOptions → Site → Ledger → Spot → Ledger → Spot → Type 0
chain_rule = optional_chaining_under

-- the hook of expressions removes each chain
abbrev pub chain_constructs : EnvOptions → Hook → AstType → Label → Fields → Bool
chain_constructs o = constructs_where is_chain o.es2020.optional_chaining

-- it leaves a conditional, or a call of one
abbrev pub is_left : AstType → Bool
is_left k = same_type k ConditionalExpression || same_type k CallExpression

-- It counts on slots being wrapped, and leaves what is free of chains.
abbrev pub chain_profile : EnvOptions → Profile
chain_profile o = row_profile o (is_wrapped o) (is_free o) (chain_rule o) (chain_constructs o) (λ t. is_left (kind_of t) ≡ true)

-- the settings of these options
pub record Suits (x : OptionalChaining) (o : EnvOptions) : Type 0 where
  pub on : x.is_on ≡ o.es2020.optional_chaining
  pub assumed : x.no_document_all ≡ o.assumptions.no_document_all

-- whether it is asked for, and whether it assumes that no value is `document.all`
abbrev pub is_asked : OptionalChaining → Bool
is_asked x = x.is_on

abbrev pub assumes : OptionalChaining → Bool
assumes x = x.no_document_all
