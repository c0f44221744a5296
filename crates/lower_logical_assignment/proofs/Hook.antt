-- What the hook leaves: a logical assignment that was lowered, or a node that is none to be lowered.
use Rattle.std.proofs.Common.{◌≡◌, ◌<◌, ◌&&◌, Bool, true, false, refl, length}
use Rattle.es_tree.specs.Tree.{Tree, kind_of}
use Rattle.es_tree.specs.declared.ast_type.AstType.TheVariants.{AssignmentExpression, LogicalExpression}
use Rattle.es_tree.specs.declared.options.EnvOptions.{EnvOptions}
use Rattle.es_resolution.specs.Seen.{seen}
use Rattle.es_steps.specs.CoreRules.{RowRule}
use Rattle.es_steps.specs.LogicalAssignment.{LogicalAssignmentRule}
use Rattle.es_changes.specs.Moments.{Moment}
use Rattle.es_conditions.proofs.Assigning.{assignment-keeps}
use Rattle.es_traverse.specs.Laws.{Seen, anything, is_construct}
use Rattle.es_row_laws.specs.Laws.{is_lowered_assignment}
use Rattle.lower_temporaries.specs.Replacings.{IsPut, Replaces}
use Rattle.lower_temporaries.proofs.Entered.{on-rule}
use Rattle.lower_temporaries.proofs.RowProfiles.{EnteredBy, left-alone, none-where, put-by-kinds, row-entered, whatever-known}
use Rattle.lower_logical_assignment.specs.Assignments.{is_lowerable_assignment}
use Rattle.lower_logical_assignment.specs.Profile.{logical_assignment_profile}
use Rattle.lower_logical_assignment.proofs.Formed.{formed-assignment, lowerable-seen}

is-put : (o : EnvOptions) (t u : Tree) → kind_of t ≡ AssignmentExpression → kind_of u ≡ LogicalExpression → IsPut (logical_assignment_profile o) t u
is-put o t u e d = put-by-kinds (logical_assignment_profile o) AssignmentExpression LogicalExpression t u e d (none-where o.es2021.logical_assignment_operators) refl refl refl d

pub entered : (o : EnvOptions) → o.es2021.logical_assignment_operators ≡ true → (a b : Moment) (t s u : Tree) → s ≡ t → 0 < length a.lists → Seen (λ x y. Replaces anything LogicalAssignmentRule a x b y) s u →
    Seen (λ x y. (kind_of x ≡ AssignmentExpression) × (kind_of y ≡ LogicalExpression)) s u → Seen (λ x y. EnteredBy (logical_assignment_profile o) a x b y) t u
entered o on a b t s u taken there rows kinds =
    row-entered LogicalAssignmentRule a b t s u taken there (logical_assignment_profile o) (on-rule (RowRule LogicalAssignmentRule) o.es2021.logical_assignment_operators on) (assignment-keeps o on) (λ names. whatever-known (rows names))
    (λ names. let k = kinds names in is-put o (seen names s) (seen names u) k.0 k.1)

pub left : (o : EnvOptions) (is_on : Bool) → is_on ≡ o.es2021.logical_assignment_operators → (a : Moment) (t : Tree) → (is_on && is_construct is_lowerable_assignment t) ≡ false → Seen (λ x y. EnteredBy (logical_assignment_profile o) a x a y) t t
left o is_on = left-alone (logical_assignment_profile o) is_lowered_assignment is_lowerable_assignment o.es2021.logical_assignment_operators is_on (λ t. refl) (λ n t known. known) formed-assignment lowerable-seen
