-- What the hook leaves: an assignment that was lowered, or a node that is none.
use Rattle.std.proofs.Common.{◌≡◌, ◌∙◌, ◌<◌, ◌&&◌, Bool, true, false, refl, ap, length}
use Rattle.std.specs.Prelude.{is_some}
use Rattle.es_tree.specs.Tree.{Tree, node, kind_of}
use Rattle.es_tree.specs.declared.ast_type.AstType.TheVariants.{AssignmentExpression, SequenceExpression}
use Rattle.es_tree.specs.declared.options.EnvOptions.{EnvOptions}
use Rattle.es_scope.specs.declared.context.TraverseCtx.{TraverseCtx}
use Rattle.es_resolution.specs.Seen.{seen}
use Rattle.es_steps.specs.CoreRules.{RowRule}
use Rattle.es_steps.specs.RestAssignments.{RestAssignmentRule}
use Rattle.es_changes.specs.Moments.{Moment}
use Rattle.es_conditions.proofs.RestAssigning.{rest-assignment-keeps}
use Rattle.es_conditions.specs.CoreConditions.{is_free}
use Rattle.es_row_laws.specs.Laws.{is_lowered_rest}
use Rattle.es_traverse.specs.Laws.{KeptLoad, Known, Seen, is_construct}
use Rattle.lower_temporaries.specs.Replacings.{IsPut}
use Rattle.lower_temporaries.specs.Takings.{moment_of}
use Rattle.lower_temporaries.specs.declared.state.TransformState.{TransformState}
use Rattle.lower_temporaries.proofs.Entered.{on-rule}
use Rattle.lower_temporaries.proofs.RowProfiles.{EnteredBy, left-alone, none-where, put-by-kinds, row-entered, row-kept}
use Rattle.lower_rest_assignments.specs.Assignments.{is_lowerable_assignment}
use Rattle.lower_rest_assignments.specs.Profile.{rest_assignment_profile}
use Rattle.lower_rest_assignments.specs.Rows.{Lowers}
use Rattle.lower_rest_assignments.proofs.Formed.{formed-assignment, lowerable-seen}

assignment-kind : (t : Tree) → is_construct is_lowerable_assignment t ≡ true → kind_of t ≡ AssignmentExpression
assignment-kind (node AssignmentExpression l fs) h = refl
assignment-kind (node _ l fs) h = absurd (cc h)

is-put : (o : EnvOptions) (t u : Tree) → is_construct is_lowerable_assignment t ≡ true → kind_of u ≡ SequenceExpression → IsPut (rest_assignment_profile o) t u
is-put o t u lowerable made = put-by-kinds (rest_assignment_profile o) AssignmentExpression SequenceExpression t u (assignment-kind t lowerable) made (none-where (is_some o.es2018.object_rest_spread)) refl refl refl made

-- an assignment that was lowered, once it was taken out
module _ (old new : TraverseCtx TransformState) (t s u : Tree) (taken : s ≡ t) (there : 0 < length old.state.var_declarations) (lowers : Seen (Lowers old new) s u) where
  pub kept-lowered : KeptLoad 0 (moment_of old) t (moment_of new) u
  kept-lowered = row-kept RestAssignmentRule (moment_of old) (moment_of new) t s u taken there (Known (is_free old.options)) (λ names. (lowers names).replaces)

  pub entered-lowered : is_some old.options.es2018.object_rest_spread ≡ true → is_construct is_lowerable_assignment t ≡ true → Seen (λ x y. EnteredBy (rest_assignment_profile old.options) (moment_of old) x (moment_of new) y) t u
  entered-lowered on lowerable =
      let o = old.options in
      row-entered RestAssignmentRule (moment_of old) (moment_of new) t s u taken there (rest_assignment_profile o) (on-rule (RowRule RestAssignmentRule) (is_some o.es2018.object_rest_spread) on) (rest-assignment-keeps o on) (λ names. (lowers names).replaces)
      (λ names. is-put o (seen names s) (seen names u) (lowerable-seen names s ∙ (ap (is_construct is_lowerable_assignment) taken ∙ lowerable)) (lowers names).made)

-- a node that was left alone
pub left : (o : EnvOptions) (is_on : Bool) → is_on ≡ is_some o.es2018.object_rest_spread → (a : Moment) (t : Tree) → (is_on && is_construct is_lowerable_assignment t) ≡ false → Seen (λ x y. EnteredBy (rest_assignment_profile o) a x a y) t t
left o is_on = left-alone (rest_assignment_profile o) is_lowered_rest is_lowerable_assignment (is_some o.es2018.object_rest_spread) is_on (λ t. refl) (λ n t known. known) formed-assignment lowerable-seen
