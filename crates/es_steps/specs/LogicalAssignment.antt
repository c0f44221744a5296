-- Logical assignment (ECMA-262, 13.15): `o().p ||= r` becomes `(_o = o()).p || (_o.p = r)`. `t op= r`, with `op` one of `||`,
-- `&&` and `??`, becomes `t op (t = r)`, with what stands in `t` read twice. One to a private member is left as it is.
use Rattle.std.specs.Prelude.{◌≡◌, List, [], ◌∷◌, ◌++◌, true, false, Some}
use Rattle.es_tree.specs.Words.{Text}
use Rattle.es_tree.specs.Parens.{without_parens}
use Rattle.es_tree.specs.Tree.{Tree, node, Label, done, ◌then◌, one}
use Rattle.es_tree.specs.declared.ast_type.AstType.TheVariants.{AssignmentExpression, Identifier, MemberExpression}
use Rattle.es_runs.specs.LogicalAssignment.{assigned_where, is_logical_assignment_operator}
use Rattle.es_runs.specs.Rules.{member_node}
use Rattle.es_resolution.specs.Declarations.{Bound}
use Rattle.es_steps.specs.Duplication.{IsDuplicated, is_alone}
use Rattle.es_steps.specs.Rules.{with_made}
use Rattle.es_steps.specs.Steps.{Whole, Site}

-- a name is read and written; of a member the object is duplicated, and then a computed key
pub data LogicalAssignmentRule (n : Site) (w : Whole) : List Bound → Tree → Tree → Type 0 where
  to_name : {m l : Label} {t r : Tree} {op : Text} → m.texts ≡ Some op ∷ [] → is_logical_assignment_operator op ≡ true →
      is_alone t ≡ true → without_parens t ≡ node Identifier l done →
      LogicalAssignmentRule n w [] (node AssignmentExpression m (one t then one r then done)) (assigned_where m op (node Identifier l done) (node Identifier l done) r)
  to_static_member : {m l k : Label} {t r o o1 o2 : Tree} {op : Text} {xs : List Bound} → m.texts ≡ Some op ∷ [] → is_logical_assignment_operator op ≡ true →
      is_alone t ≡ true → without_parens t ≡ node MemberExpression l (one o then one (node Identifier k done) then done) → l.flags ≡ false ∷ false ∷ [] →
      IsDuplicated w xs o o1 o2 →
      LogicalAssignmentRule n w xs (node AssignmentExpression m (one t then one r then done))
      (assigned_where m op (member_node false o1 (node Identifier k done)) (member_node false o2 (node Identifier k done)) r)
  to_computed_member : {m l : Label} {t r o o1 o2 k k1 k2 : Tree} {op : Text} {xs ys : List Bound} → m.texts ≡ Some op ∷ [] → is_logical_assignment_operator op ≡ true →
      is_alone t ≡ true → without_parens t ≡ node MemberExpression l (one o then one k then done) → l.flags ≡ true ∷ false ∷ [] →
      IsDuplicated w xs o o1 o2 → IsDuplicated (with_made xs w) ys k k1 k2 →
      LogicalAssignmentRule n w (xs ++ ys) (node AssignmentExpression m (one t then one r then done))
      (assigned_where m op (member_node true o1 k1) (member_node true o2 k2) r)
