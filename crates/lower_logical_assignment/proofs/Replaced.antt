-- A logical assignment that became a logical expression, as a row that replaced it.
use Rattle.std.proofs.Common.{◌≡◌, ◌∙◌, ◌≤◌, ◌+◌, ℕ, List, [], ◌∷◌, refl, sym, ap, subst, arith, Option, Some, codes}
use Rattle.std.proofs.lemmas.Bool.{and_parts}
use Rattle.std.specs.Prelude.{Bool, true, false, bytes_eq, if◌then◌else◌}
use Rattle.es_tree.specs.Heads.{head_of, label}
use Rattle.es_tree.specs.Parens.{without_parens}
use Rattle.es_tree.specs.Tree.{Tree, node, Label, done, ◌then◌, one, fields_of, kind_of, label_of, tree_size}
use Rattle.es_tree.specs.Words.{Text, assignment_operator_text, logical_operator_text}
use Rattle.es_tree.specs.declared.ast_type.AstType.TheVariants.{AssignmentExpression}
use Rattle.es_tree.specs.declared.kind.Kind.TheVariants.{AssignmentExpression as k-AssignmentExpression}
use Rattle.es_tree.specs.declared.operators.AssignmentOperator.{AssignmentOperator}
use Rattle.es_tree.specs.declared.operators.AssignmentOperator.TheVariants.{LogicalOr, LogicalAnd, LogicalNullish}
use Rattle.es_tree.specs.declared.operators.LogicalOperator.{LogicalOperator}
use Rattle.es_expressions.specs.OperationsPlain.{plain_assignment_expression}
use Rattle.es_expressions.specs.declared.operations.AssignmentExpression.{AssignmentExpression as AnyAssignmentExpression}
use Rattle.es_scope.specs.declared.context.TraverseCtx.{TraverseCtx}
use Rattle.es_resolution.specs.Declarations.{Bound}
use Rattle.es_resolution.specs.Seen.{seen}
use Rattle.es_runs.specs.Core.{without_last}
use Rattle.es_runs.specs.LogicalAssignment.{assigned_where, is_logical_assignment_operator}
use Rattle.es_runs.specs.Weights.{assignment_weight}
use Rattle.es_runs.proofs.OptionalChainingWeights.{stripped_size}
use Rattle.es_steps.specs.Duplication.{is_alone}
use Rattle.es_steps.specs.LogicalAssignment.{LogicalAssignmentRule}
use Rattle.es_steps.specs.LogicalAssignment.LogicalAssignmentRule.{to_name, to_static_member, to_computed_member}
use Rattle.es_steps.specs.Steps.{Site, Whole}
use Rattle.es_traverse.specs.Laws.{anything}
use Rattle.es_traverse.specs.Loads.{load}
use Rattle.lower_temporaries.specs.Replacings.{Replaces}
use Rattle.lower_temporaries.specs.Takings.{ReadsMore, moment_of}
use Rattle.lower_temporaries.specs.declared.state.TransformState.{TransformState}
use Rattle.lower_temporaries.proofs.Loads.{stripped_load}
use Rattle.lower_temporaries.proofs.SeenLaws.{parens-seen}
use Rattle.lower_temporaries.proofs.Takings.{takes-reads}
use Rattle.lower_logical_assignment.specs.Assignments.{assigned_at, is_duplicated_target, is_lowerable_assignment}
use Rattle.lower_logical_assignment.specs.Targets.{DuplicatesTarget, TwiceTarget}
use Rattle.lower_logical_assignment.specs.Targets.TwiceTarget.{twice_computed, twice_name, twice_static}
use Rattle.lower_temporaries.proofs.ParensForm.{sides-alone}

-- THE ROW

row-of : (n : Site) (w : Whole) (xs : List Bound) (m : Label) (t target read written r : Tree) (op : Text) → TwiceTarget w xs target read written → m.texts ≡ Some op ∷ [] → is_logical_assignment_operator op ≡ true → is_alone t ≡ true → without_parens t ≡ target →
    LogicalAssignmentRule n w xs (node AssignmentExpression m (one t then (one r then done))) (assigned_where m op read written r)
row-of n w xs m t target read written r op twice_name texts is alone below = to_name texts is alone below
row-of n w xs m t target read written r op (twice_static flags d) texts is alone below = to_static_member texts is alone below flags d
row-of n w xs m t target read written r op (twice_computed flags d k) texts is alone below = to_computed_member texts is alone below flags d k

-- WHAT IT WEIGHS

operator-weight : (o : AssignmentOperator) → is_logical_assignment_operator (assignment_operator_text o) ≡ true → assignment_weight (assignment_operator_text o) ≡ 60
operator-weight LogicalOr h = refl
operator-weight LogicalAnd h = refl
operator-weight LogicalNullish h = refl
operator-weight _ h = absurd (cc h)

test-weight : (op : Text) → (if bytes_eq op (codes "??") then 28 else 0) ≤ 28
test-weight op = at (bytes_eq op (codes "??"))
  where
    at : (b : Bool) → (if b then 28 else 0) ≤ 28
    at true = omega arith
    at false = omega arith

-- THE NODE THAT WAS OPENED

-- the label of an opened assignment, as it is seen
abbrev label_in : AnyAssignmentExpression → Label
label_in e = record (label e.id e.span (head_of (k-AssignmentExpression e.operator))) { id = 0; marks = [] }

abbrev IsLowerable : Tree → Type 0
IsLowerable t = is_lowerable_assignment (kind_of t) (label_of t) (fields_of t) ≡ true

parts-in : (t : Tree) (e : AnyAssignmentExpression) → plain_assignment_expression e ≡ t → IsLowerable t → (is_logical_assignment_operator (assignment_operator_text e.operator) ≡ true) × (is_duplicated_target (without_parens e.left) ≡ true)
parts-in t e opened h = and_parts (is_logical_assignment_operator (assignment_operator_text e.operator)) (is_duplicated_target (without_parens e.left)) (subst IsLowerable (sym opened) h)

pub target-in : (t : Tree) (e : AnyAssignmentExpression) → plain_assignment_expression e ≡ t → IsLowerable t → is_duplicated_target (without_parens e.left) ≡ true
target-in t e opened h = (parts-in t e opened h).1

replaced-opened : (old mid new : TraverseCtx TransformState) (names : ℕ → Text → Option ℕ) (e : AnyAssignmentExpression) (read written : Tree) → is_logical_assignment_operator (assignment_operator_text e.operator) ≡ true → DuplicatesTarget old mid (seen names (without_parens e.left)) read written → ReadsMore 2 mid new →
    Replaces anything LogicalAssignmentRule (moment_of old) (seen names (plain_assignment_expression e)) (moment_of new) (assigned_where (label_in e) (assignment_operator_text e.operator) read written (seen names e.right))
replaced-opened old mid new names e read written assigning d more =
    let below = parens-seen names e.left in
    let w = stripped_load (seen names e.left) in
    let s = stripped_size (seen names e.left) in
    let op = operator-weight e.operator assigning in
    let test = test-weight (without_last (assignment_operator_text e.operator)) in
    record {
      made = d.made;
      ids = d.ids + 2;
      takes = takes-reads mid new d.takes more;
      row = λ n f known. row-of n _ d.made (label_in e) (seen names e.left) _ read written (seen names e.right) (assignment_operator_text e.operator) d.twice refl assigning (sides-alone f.sort (label_in e) (seen names e.left) (seen names e.right) f.formed) below;
      nodes = omega (arith, d.nodes, s, ap tree_size below);
      lighter = omega (arith, d.lighter, w, ap load below, op, test);
    }

pub replaced-assignment : (old mid new : TraverseCtx TransformState) (names : ℕ → Text → Option ℕ) (t target read written made : Tree) (e : AnyAssignmentExpression) (o : LogicalOperator) → plain_assignment_expression e ≡ t → IsLowerable t → target ≡ without_parens e.left →
    DuplicatesTarget old mid (seen names target) (seen names read) (seen names written) → ReadsMore 2 mid new → logical_operator_text o ≡ without_last (assignment_operator_text e.operator) →
    seen names made ≡ assigned_at e.span (logical_operator_text o) (seen names read) (seen names written) (seen names e.right) → Replaces anything LogicalAssignmentRule (moment_of old) (seen names t) (moment_of new) (seen names made)
replaced-assignment old mid new names t target read written made e o opened lowerable is d more op wrote =
    let whole : seen names made ≡ assigned_where (label_in e) (assignment_operator_text e.operator) (seen names read) (seen names written) (seen names e.right) = wrote ∙ ap (λ p. assigned_at e.span p (seen names read) (seen names written) (seen names e.right)) op in
    let step = replaced-opened old mid new names e (seen names read) (seen names written) (parts-in t e opened lowerable).0 (subst (λ v. DuplicatesTarget old mid (seen names v) (seen names read) (seen names written)) is d) more in
    subst (λ v. Replaces anything LogicalAssignmentRule (moment_of old) (seen names v) (moment_of new) (seen names made)) opened (subst (λ v. Replaces anything LogicalAssignmentRule (moment_of old) (seen names (plain_assignment_expression e)) (moment_of new) v) (sym whole) step)

-- such a node weighs enough for all that its target takes
pub heavy : (t : Tree) (e : AnyAssignmentExpression) → plain_assignment_expression e ≡ t → IsLowerable t → 61 ≤ load t
heavy t e opened h =
    let op = operator-weight e.operator (parts-in t e opened h).0 in
    let whole : 61 ≤ load (plain_assignment_expression e) = omega (arith, op) in
    subst (λ (x : Tree). 61 ≤ load x) opened whole
