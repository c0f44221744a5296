use Rattle.std.proofs.Common.{◌≡◌, ◌++◌, map, append-nil, sym, arith}
use Rattle.es_tree.specs.Fresh.{parts}
use Rattle.es_tree.specs.Tree.{fields_of}
use Rattle.es_tree.specs.Children.{child_at}
use Rattle.es_tree.proofs.Children.{child_smaller}
use Rattle.es_scope.specs.Children.{optional_parts}
use Rattle.es_scope.proofs.Parts.{member_parts, first_child_parts, with_children}
use Rattle.es_scope.proofs.base.+push_parts.Goals.{in-Some+in_ok-push_parts-in-MemberExpression, in_default-child_at}
use Rattle.es_scope.proofs.base.+push_parts.Goals as goal

pub push_parts-requires : goal.push_parts-requires
push_parts-requires t c = (omega (arith, child_smaller 0 c.args.node.now c.in-Some.object.now c.in-Some.ensures), tt)

pub push_parts-requires-in-Some-child_at : goal.push_parts-requires-in-Some-child_at
push_parts-requires-in-Some-child_at t c = (omega (arith, child_smaller 1 c.args.node.now c.in-Some-child_at.property.now c.in-Some-child_at.ensures), tt)

pub push_parts-requires-in-Some-child_at-2 : goal.push_parts-requires-in-Some-child_at-2
push_parts-requires-in-Some-child_at-2 t c = (omega (arith, child_smaller 0 c.args.node.now c.in-Some-child_at-2.child.now c.in-Some-child_at-2.ensures), tt)

pub returns-in_default-child_at-3 : goal.returns-in_default-child_at-3
returns-in_default-child_at-3 t c =
    let whole : parts c.args.node.now ≡ optional_parts (child_at 0 (fields_of c.args.node.now)) = rw (← c.node.view_is) (first_child_parts c.node.inside.kind _ _ c.in-CallExpression.is) in
    rw (whole, ← c.in_default-child_at-3.ensures) (sym (append-nil _))

pub returns-in_ok-push_parts-in-CallExpression : goal.returns-in_ok-push_parts-in-CallExpression
returns-in_ok-push_parts-in-CallExpression t c =
    let whole : parts c.args.node.now ≡ optional_parts (child_at 0 (fields_of c.args.node.now)) = rw (← c.node.view_is) (first_child_parts c.node.inside.kind _ _ c.in-CallExpression.is) in
    rw (whole, ← c.in-Some-child_at-2.ensures) c.in_ok-push_parts-in-CallExpression.ensures

pub returns-in_default-child_at-2 : goal.returns-in_default-child_at-2
returns-in_default-child_at-2 t c =
    let whole : parts c.args.node.now ≡ optional_parts (child_at 0 (fields_of c.args.node.now)) ++ optional_parts (child_at 1 (fields_of c.args.node.now)) = rw (← c.node.view_is) (member_parts c.node.inside.kind _ _ _ _ c.in-MemberExpression.is) in
    let first : map (λ t'. t'.now) c.match-child_at.names.items ≡ map (λ t'. t'.now) c.args.names.now.items ++ optional_parts (child_at 0 (fields_of c.args.node.now)) =
    elim c.match-child_at.branch [
      | in-Some+in_ok-push_parts-in-MemberExpression w ↦ rw (w.names-is, ← w.in-Some.ensures) w.in_ok-push_parts-in-MemberExpression.ensures
      | in_default-child_at w ↦ rw (w.names-is, ← w.in_default-child_at.ensures) (sym (append-nil _))
    ] in
    rw (whole, ← c.in_default-child_at-2.ensures, append-nil) first

pub returns-in_ok-push_parts-in-MemberExpression-2 :
    goal.returns-in_ok-push_parts-in-MemberExpression-2
returns-in_ok-push_parts-in-MemberExpression-2 t c =
    let whole : parts c.args.node.now ≡ optional_parts (child_at 0 (fields_of c.args.node.now)) ++ optional_parts (child_at 1 (fields_of c.args.node.now)) = rw (← c.node.view_is) (member_parts c.node.inside.kind _ _ _ _ c.in-MemberExpression.is) in
    let first : map (λ t'. t'.now) c.match-child_at.names.items ≡ map (λ t'. t'.now) c.args.names.now.items ++ optional_parts (child_at 0 (fields_of c.args.node.now)) =
    elim c.match-child_at.branch [
      | in-Some+in_ok-push_parts-in-MemberExpression w ↦ rw (w.names-is, ← w.in-Some.ensures) w.in_ok-push_parts-in-MemberExpression.ensures
      | in_default-child_at w ↦ rw (w.names-is, ← w.in_default-child_at.ensures) (sym (append-nil _))
    ] in
    with_children (map (λ t'. t'.now) c.args.names.now.items) (map (λ t'. t'.now) c.match-child_at.names.items) _ _ (child_at 0 (fields_of c.args.node.now)) (child_at 1 (fields_of c.args.node.now)) first (rw (← c.in-Some-child_at.ensures) c.in_ok-push_parts-in-MemberExpression-2.ensures) whole
