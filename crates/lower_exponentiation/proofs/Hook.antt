-- The hook of exponentiation: a node is lowered, or left alone.
use Rattle.std.proofs.Common.{◌≡◌, ◌∙◌, ◌<◌, Bool, true, false, refl, sym, ap, length}
use Rattle.std.specs.Prelude.{◌&&◌}
use Rattle.es_tree.specs.Tree.{Tree, node, kind_of}
use Rattle.es_tree.specs.declared.ast_type.AstType.TheVariants.{AssignmentExpression, BinaryExpression, CallExpression, SequenceExpression}
use Rattle.es_tree.specs.declared.options.EnvOptions.{EnvOptions}
use Rattle.es_scope.specs.declared.context.TraverseCtx.{TraverseCtx}
use Rattle.es_resolution.specs.Seen.{seen}
use Rattle.es_steps.specs.CoreRules.{RowRule}
use Rattle.es_steps.specs.Exponentiation.{ExponentiationRule}
use Rattle.es_steps.specs.Open.{is_statement_body}
use Rattle.es_visit.specs.Hooks.{hook_of_sort, sort_of}
use Rattle.es_changes.specs.Moments.{Moment}
use Rattle.es_conditions.proofs.Powers.{power-keeps}
use Rattle.es_conditions.specs.CoreConditions.{is_free}
use Rattle.es_traverse.specs.Laws.{KeptLoad, Known, Seen, is_construct}
use Rattle.lower_temporaries.specs.Replacings.{IsPut}
use Rattle.lower_temporaries.specs.Takings.{moment_of}
use Rattle.lower_temporaries.specs.declared.state.TransformState.{TransformState}
use Rattle.lower_temporaries.proofs.Entered.{is_expression_hook, on-rule, sort-expression}
use Rattle.lower_temporaries.proofs.RowProfiles.{EnteredBy, left-alone, none-where, row-entered, row-kept}
use Rattle.lower_exponentiation.specs.Exponentiations.{IsCallOrAssignment, is_lowerable_exponentiation}
use Rattle.es_row_laws.specs.Laws.{is_lowered_power}
use Rattle.lower_exponentiation.specs.Profile.{exponentiation_profile}
use Rattle.lower_exponentiation.specs.Targets.{Lowers}
use Rattle.lower_exponentiation.proofs.Form.{power-lowerable}
use Rattle.lower_exponentiation.proofs.SeenParts.{lowerable-seen}

-- WHAT IS MADE

none-made : (u : Tree) → IsCallOrAssignment u → is_construct is_lowered_power u ≡ false
none-made (node CallExpression l fs) h = refl
none-made (node SequenceExpression l fs) h = refl
none-made (node AssignmentExpression l fs) h = rw h.0 refl
none-made (node _ l fs) h = absurd h

expression-made : (u : Tree) → IsCallOrAssignment u → is_expression_hook (hook_of_sort (sort_of (kind_of u))) ≡ true
expression-made (node CallExpression l fs) h = refl
expression-made (node SequenceExpression l fs) h = refl
expression-made (node AssignmentExpression l fs) h = refl
expression-made (node _ l fs) h = absurd h

no-body-made : (u : Tree) → IsCallOrAssignment u → is_statement_body u ≡ false
no-body-made (node CallExpression l fs) h = refl
no-body-made (node SequenceExpression l fs) h = refl
no-body-made (node AssignmentExpression l fs) h = refl
no-body-made (node _ l fs) h = absurd h

no-body : (t : Tree) → is_construct is_lowerable_exponentiation t ≡ true → is_statement_body t ≡ false
no-body (node BinaryExpression l fs) h = refl
no-body (node AssignmentExpression l fs) h = refl
no-body (node _ l fs) h = absurd (cc h)

is-put : (o : EnvOptions) (t u : Tree) → is_construct is_lowerable_exponentiation t ≡ true → IsCallOrAssignment u → IsPut (exponentiation_profile o) t u
is-put o t u lowerable made = record {
  cleared = ap (λ b. o.es2016.exponentiation_operator && b) (none-made u made) ∙ none-where o.es2016.exponentiation_operator;
  sort = sort-expression t u (expression-made u made);
  body = no-body-made u made ∙ sym (no-body t lowerable);
  made = made;
}

-- THE HOOK

-- a node that was lowered, once it was taken out
module _ (old new : TraverseCtx TransformState) (t s u : Tree) (taken : s ≡ t) (there : 0 < length old.state.var_declarations) (lowers : Seen (Lowers old new) s u) where
  pub kept-lowered : KeptLoad 0 (moment_of old) t (moment_of new) u
  kept-lowered = row-kept ExponentiationRule (moment_of old) (moment_of new) t s u taken there (Known (is_free old.options)) (λ names. (lowers names).replaces)

  pub entered-lowered : old.options.es2016.exponentiation_operator ≡ true → is_construct is_lowerable_exponentiation t ≡ true → Seen (λ x y. EnteredBy (exponentiation_profile old.options) (moment_of old) x (moment_of new) y) t u
  entered-lowered on lowerable =
      let o = old.options in
      row-entered ExponentiationRule (moment_of old) (moment_of new) t s u taken there (exponentiation_profile o) (on-rule (RowRule ExponentiationRule) o.es2016.exponentiation_operator on) (power-keeps o on) (λ names. (lowers names).replaces)
      (λ names. is-put o (seen names s) (seen names u) (lowerable-seen names s ∙ (ap (is_construct is_lowerable_exponentiation) taken ∙ lowerable)) (lowers names).made)

-- one that was left alone
pub left : (o : EnvOptions) (is_on : Bool) → is_on ≡ o.es2016.exponentiation_operator → (a : Moment) (t : Tree) → (is_on && is_construct is_lowerable_exponentiation t) ≡ false → Seen (λ x y. EnteredBy (exponentiation_profile o) a x a y) t t
left o is_on = left-alone (exponentiation_profile o) is_lowered_power is_lowerable_exponentiation o.es2016.exponentiation_operator is_on (λ t. refl) (λ n t known. known) power-lowerable lowerable-seen
