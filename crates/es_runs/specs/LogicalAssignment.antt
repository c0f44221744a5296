-- Logical assignment (ECMA-262, 13.15): `t op= r`, with `op` one of `||`, `&&` and `??`, becomes `t op (t = r)`, with what
-- stands in `t` read twice.
use Rattle.std.specs.Prelude.{◌≡◌, List, [], ◌∷◌, ◌++◌, ◌||◌, Bool, true, false, Some, bytes_eq, codes}
use Rattle.es_tree.specs.Words.{Text}
use Rattle.es_tree.specs.Parens.{without_parens}
use Rattle.es_tree.specs.Tree.{Tree, node, Label, done, ◌then◌, one}
use Rattle.es_tree.specs.declared.ast_type.AstType.TheVariants.{AssignmentExpression, Identifier, LogicalExpression, MemberExpression}
use Rattle.es_runs.specs.Alike.{Need}
use Rattle.es_runs.specs.Core.{without_last}
use Rattle.es_runs.specs.Duplication.{IsDuplicated}
use Rattle.es_runs.specs.Rules.{assign_node, in_place_of, member_node}
use Rattle.es_runs.specs.NullishCoalescing.{also_all}

abbrev pub is_logical_assignment_operator : Text → Bool
is_logical_assignment_operator op = bytes_eq op (codes "||=") || bytes_eq op (codes "&&=") || bytes_eq op (codes "??=")

abbrev pub logical_at : Label → Text → Tree → Tree → Tree
logical_at m op l r = node LogicalExpression (record (in_place_of m) { texts = Some op ∷ [] }) (one l then one r then done)

-- `first op (again = r)`, in the place of `t op= r`
abbrev pub assigned_where : Label → Text → Tree → Tree → Tree → Tree
assigned_where m op begin again r = logical_at m (without_last op) begin (assign_node again r)

-- a name is read and written; of a member the object is duplicated, and then a computed key
pub data LogicalAssignmentRule (steady in_use : Text → Bool) : List Text → Need → Tree → Tree → Type 0 where
  to_name : {n : Need} {m l : Label} {t r : Tree} {op : Text} → m.texts ≡ Some op ∷ [] → is_logical_assignment_operator op ≡ true →
      without_parens t ≡ node Identifier l done →
      LogicalAssignmentRule steady in_use [] n (node AssignmentExpression m (one t then one r then done)) (assigned_where m op (node Identifier l done) (node Identifier l done) r)
  to_static_member : {n : Need} {m l k : Label} {t r o o1 o2 : Tree} {op : Text} {xs : List Text} → m.texts ≡ Some op ∷ [] → is_logical_assignment_operator op ≡ true →
      without_parens t ≡ node MemberExpression l (one o then one (node Identifier k done) then done) → l.flags ≡ false ∷ false ∷ [] →
      IsDuplicated steady in_use xs o o1 o2 →
      LogicalAssignmentRule steady in_use xs n (node AssignmentExpression m (one t then one r then done))
      (assigned_where m op (member_node false o1 (node Identifier k done)) (member_node false o2 (node Identifier k done)) r)
  to_computed_member : {n : Need} {m l : Label} {t r o o1 o2 k k1 k2 : Tree} {op : Text} {xs ys : List Text} → m.texts ≡ Some op ∷ [] → is_logical_assignment_operator op ≡ true →
      without_parens t ≡ node MemberExpression l (one o then one k then done) → l.flags ≡ true ∷ false ∷ [] →
      IsDuplicated steady in_use xs o o1 o2 → IsDuplicated steady (also_all xs in_use) ys k k1 k2 →
      LogicalAssignmentRule steady in_use (xs ++ ys) n (node AssignmentExpression m (one t then one r then done))
      (assigned_where m op (member_node true o1 k1) (member_node true o2 k2) r)
