-- The logical assignments that are lowered (ECMA-262, 13.15), as their code tests them.
use Rattle.std.specs.Prelude.{Bool, true, false, ◌&&◌, List, [], ◌∷◌, Some}
use Rattle.es_tree.specs.Names.{first_text}
use Rattle.es_tree.specs.Parens.{without_parens}
use Rattle.es_tree.specs.Tree.{Tree, node, Label, Fields, done, ◌then◌, one}
use Rattle.es_tree.specs.Words.{Text}
use Rattle.es_tree.specs.declared.ast_type.AstType.{AstType}
use Rattle.es_tree.specs.declared.ast_type.AstType.TheVariants.{AssignmentExpression, Identifier, LogicalExpression, MemberExpression}
use Rattle.es_tree.specs.declared.ids.Span.{Span}
use Rattle.es_runs.specs.Duplication.{has_no_fields}
use Rattle.es_runs.specs.LogicalAssignment.{is_logical_assignment_operator}
use Rattle.es_runs.specs.Rules.{assign_node}
use Rattle.lower_temporaries.specs.Shapes.{at_span, is_name, on_two}

-- a member without an optional mark: with a computed key, or with a name as its key
abbrev pub has_duplicated_key : List Bool → Tree → Bool
has_duplicated_key (true ∷ false ∷ []) k = true
has_duplicated_key (false ∷ false ∷ []) k = is_name k
has_duplicated_key _ k = false

abbrev pub has_duplicated_member : Bool → Fields → Bool
has_duplicated_member computed fs = on_two (λ o k. has_duplicated_key (computed ∷ false ∷ []) k) fs

-- a name, or such a member
abbrev pub is_duplicated_target : Tree → Bool
is_duplicated_target (node Identifier l fs) = has_no_fields fs
is_duplicated_target (node MemberExpression l fs) = on_two (λ o k. has_duplicated_key l.flags k) fs
is_duplicated_target _ = false

-- two sides, of which the first one is such a target, maybe in parentheses
abbrev pub has_target : Fields → Bool
has_target fs = on_two (λ t r. is_duplicated_target (without_parens t)) fs

-- `t ||= r`, `t &&= r` or `t ??= r` with such a target
abbrev pub is_lowerable_assignment : AstType → Label → Fields → Bool
is_lowerable_assignment AssignmentExpression l fs = is_logical_assignment_operator (first_text l.texts) && has_target fs
is_lowerable_assignment _ l fs = false

-- `begin op (again = r)`, with this span
abbrev pub assigned_at : Span → Text → Tree → Tree → Tree → Tree
assigned_at span op begin again r = node LogicalExpression (record (at_span span) { texts = Some op ∷ [] }) (one begin then one (assign_node again r) then done)
