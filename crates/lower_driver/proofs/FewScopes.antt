-- A program has at most two scopes for each node.
use Rattle.std.proofs.Common.{◌*◌, ◌≤◌, ◌<◌, ◌^◌, arith}
use Rattle.std.specs.Prelude.{Bool, true, false, if◌then◌else◌}
use Rattle.es_tree.specs.Tree.{Tree, node, Fields, done, ◌then◌, Field, missing, one, many, statements, Trees, empty, ◌before◌, field_size, fields_size, tree_size, trees_size}
use Rattle.es_tree.specs.declared.ast_type.AstType.{AstType}
use Rattle.es_scope.specs.Tables.{scope_count}
use Rattle.es_scope.specs.declared.scoping.Scoping.{Scoping}
use Rattle.es_semantic.specs.Places.{has_name_scope, makes_scope, outermost, own_scope_count, scope_count_in, scope_count_in_field, scope_count_in_fields, scope_count_in_trees}
use Rattle.es_semantic.specs.TableOf.{IsTableOf}
use Rattle.es_semantic.proofs.VisitCounts.{scopes_count}

at-most-two : (named makes : Bool) → (if named then 2 else if makes then 1 else 0) ≤ 2
at-most-two true makes = omega arith
at-most-two false true = omega arith
at-most-two false false = omega arith

own : (k : AstType) (fs : Fields) → own_scope_count k fs ≤ 2
own k fs = at-most-two (has_name_scope k fs) (makes_scope k)

mutual
  few : (t : Tree) → scope_count_in t ≤ 2 * tree_size t
  few (node k l fs) = omega (arith, own k fs, few-in fs)

  few-in : (fs : Fields) → scope_count_in_fields fs ≤ 2 * fields_size fs
  few-in done = omega arith
  few-in (f then fs) = omega (arith, few-by f, few-in fs)

  few-by : (f : Field) → scope_count_in_field f ≤ 2 * field_size f
  few-by missing = omega arith
  few-by (one t) = few t
  few-by (many ts) = few-among ts
  few-by (statements ts) = few-among ts

  few-among : (ts : Trees) → scope_count_in_trees ts ≤ 2 * trees_size ts
  few-among empty = omega arith
  few-among (t before ts) = omega (arith, few t, few-among ts)

pub few-scopes : (p : Tree) (s : Scoping) → IsTableOf p s → tree_size p < 10 * 2 ^ 20 → scope_count s < 2 ^ 32
few-scopes p s table small = omega (arith, table.all_scopes, scopes_count (outermost p) 1 p, few p, small)
