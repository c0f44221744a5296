use Rattle.std.proofs.Common.{◌≡◌, ◌+◌, ◌≤◌, ◌∷◌, [], inl, inr, map, drop, arith, ap, ◌∙◌, refl, Ok}
use Rattle.std.proofs.lemmas.List.{drop_all}
use Rattle.es_tree.specs.Ancestors.{place_of, visits, visits_in_field, visits_in_fields, visits_in_trees}
use Rattle.es_tree.specs.Tree.{field_size, fields, fields_of, fields_size, trees, trees_size, tree_size, kind_of, label_of}
use Rattle.es_tree.specs.Views.{plain_field}
use Rattle.es_static_rules.specs.Outward.{outward, plain_ancestor}
use Rattle.es_static_rules.specs.declared.ancestors.Ancestor.{Ancestor}
use Rattle.es_static_rules.proofs.Outward.{outward-pushed, popped}
use Rattle.es_static_rules.proofs.Walks.{Checks-none, Checks-node, Checks-visit_stops, Checks-same, Leads-on, Leads-stops, Leads-ends, error_of, field_within, fields_size-rest, tree_size-fields, tree_within, trees_size-rest, visits_in_trees-rest, visits_in_fields-rest}
use Rattle.es_static_rules.proofs.static_rules.+walk.Goals.{check_field-in-Missing, check_field-in-One+in_ok-check_node-in-One, check_field-in-Many+else-loop-node-test}
use Rattle.es_static_rules.proofs.static_rules.+walk.Goals as goal

pub check_field-returns-in_err-check_node-in-Many-clause-checks : goal.check_field-returns-in_err-check_node-in-Many-clause-checks
check_field-returns-in_err-check_node-in-Many-clause-checks t c =
    let rules = c.args.pass.rules.now in
    let known = c.args.pass.all.now in
    let old = c.args.walk.now in
    let now = c.loop-node.walk in
    let new = c.check_node-in-loop-node.new.walk in
    let up = outward old.ancestors.items in
    let items = c.deref-node-items.result.now in
    let item = c.node-item.result in
    let i = c.loop-node.node-index in
    let e = c.in_err-check_node-in-Many.field-0.0 in
    let r = c.from_residual-in_err-check_node-in-Many.result in
    let whole : visits_in_field up old.next (plain_field c.args.field.now) ≡ visits_in_trees up old.next (trees items) =
    rw c.deref-node-items.ensures.value (elim c.in-Many.is [ inl is ↦ rw is refl | inr is ↦ rw is refl ]) in
    Checks-same rules known old.names new.names r (visits_in_field up old.next (plain_field c.args.field.now)) (visits_in_trees up old.next (trees items)) whole
    (Leads-stops rules known old.names now.names new.names e r
    (visits_in_trees up now.next (trees (drop i items))) (visits up now.next item) (visits_in_trees up (now.next + tree_size item) (trees (drop (i + 1) items))) (visits_in_trees up old.next (trees items))
    c.loop-node.invariant.checks
    (visits_in_trees-rest up now.next items i item c.loop-node-test.true c.node-item.is)
    (error_of r e c.from_residual-in_err-check_node-in-Many.ensures.1)
    (rw c.loop-node.invariant.ancestors at c.in_err-check_node-in-Many.ensures.checks))

pub check_field-loop-node-preserved : goal.check_field-loop-node-preserved
check_field-loop-node-preserved t c =
    let old = c.args.walk.now in
    let now = c.loop-node.walk in
    let next = c.check_node-in-loop-node.new.walk in
    let up = outward old.ancestors.items in
    let items = c.deref-node-items.result.now in
    let item = c.node-item.result in
    let i = c.loop-node.node-index in
    record {
      checks =
          rw c.in_ok-check_node-in-Many.ensures.next
          (Leads-on c.args.pass.rules.now c.args.pass.all.now old.names now.names next.names tt
          (visits_in_trees up now.next (trees (drop i items))) (visits up now.next item) (visits_in_trees up (now.next + tree_size item) (trees (drop (i + 1) items))) (visits_in_trees up old.next (trees items))
          c.loop-node.invariant.checks
          (visits_in_trees-rest up now.next items i item c.loop-node-test.true c.node-item.is)
          (rw c.loop-node.invariant.ancestors at c.in_ok-check_node-in-Many.ensures.checks));
      ancestors = c.in_ok-check_node-in-Many.ensures.ancestors ∙ c.loop-node.invariant.ancestors;
      next = omega (arith, trees_size-rest items i item c.loop-node-test.true c.node-item.is, c.in_ok-check_node-in-Many.ensures.next);
    }

pub check_field-returns-clause-checks : goal.check_field-returns-clause-checks
check_field-returns-clause-checks t c =
    let rules = c.args.pass.rules.now in
    let known = c.args.pass.all.now in
    let old = c.args.walk.now in
    let new = c.match-field.walk in
    let up = outward old.ancestors.items in
    let field = plain_field c.args.field.now in
    elim c.match-field.branch [
      | check_field-in-Missing w ↦
          Checks-same rules known old.names new.names (Ok tt) (visits_in_field up old.next field) [] (rw w.in-Missing.is refl) (rw w.walk-is (Checks-none rules known old.names tt))
      | check_field-in-One+in_ok-check_node-in-One w ↦
          Checks-same rules known old.names new.names (Ok tt) (visits_in_field up old.next field) (visits up old.next w.in-One.node) (rw w.in-One.is refl) (rw w.walk-is w.in_ok-check_node-in-One.ensures.checks)
      | check_field-in-Many+else-loop-node-test w ↦
          let items = w.deref-node-items.result.now in
          let i = w.loop-node.node-index in
          let now = w.loop-node.walk in
          let whole : visits_in_field up old.next field ≡ visits_in_trees up old.next (trees items) =
          rw w.deref-node-items.ensures.value (elim w.in-Many.is [ inl is ↦ rw is refl | inr is ↦ rw is refl ]) in
          Checks-same rules known old.names new.names (Ok tt) (visits_in_field up old.next field) (visits_in_trees up old.next (trees items)) whole
          (rw w.walk-is
          (Leads-ends rules known old.names now.names tt
          (visits_in_trees up now.next (trees (drop i items))) (visits_in_trees up old.next (trees items))
          w.loop-node.invariant.checks
          (ap (λ ts. visits_in_trees up now.next (trees ts)) (drop_all i items w.loop-node-test.false))))
    ]

pub check_node-returns-in_err-check_visit-clause-checks : goal.check_node-returns-in_err-check_visit-clause-checks
check_node-returns-in_err-check_visit-clause-checks t c =
    let old = c.args.walk.now in
    let e = c.in_err-check_visit.field-0.0 in
    let r = c.from_residual-in_err-check_visit.result in
    Checks-visit_stops c.args.pass.rules.now c.args.pass.all.now old.names c.check_visit.new.names e r (outward old.ancestors.items) old.next c.args.node.now
    (error_of r e c.from_residual-in_err-check_visit.ensures.1) (rw c.deref.ensures.value at c.in_err-check_visit.ensures)

pub check_node-check_field-requires : goal.check_node-check_field-requires
check_node-check_field-requires t c =
    let a : Ancestor = record { node = c.args.node; index = c.loop-index.index; number = c.args.walk.now.next } in
    let stands : c.place_in.result ≡ place_of (outward c.push.new.self.items) =
    rw (outward-pushed c.push.new.self.items c.loop-index.walk.ancestors.items c.args.walk.now.ancestors.items a c.in_ok-push.ensures.items c.loop-index.invariant.ancestors, ← c.requires) c.place_in.ensures in
    let within : field_size (plain_field c.field-item.result) ≤ fields_size (fields_of c.args.node.now) =
    rw (← c.node.view_is, ← c.deref-field-items.ensures.value) (field_within c.deref-field-items.result.now c.loop-index.index c.field-item.result c.loop-index-test.true c.field-item.is) in
    (omega (arith, within, tree_size-fields c.args.node.now), stands)

pub check_field-check_node-requires-in-loop-node : goal.check_field-check_node-requires-in-loop-node
check_field-check_node-requires-in-loop-node t c =
    let items = c.deref-node-items.result.now in
    let within : tree_size c.node-item.result ≤ trees_size (trees items) = tree_within items c.loop-node.node-index c.node-item.result c.loop-node-test.true c.node-item.is in
    let whole : field_size (plain_field c.args.field.now) ≡ trees_size (trees items) =
    rw c.deref-node-items.ensures.value (elim c.in-Many.is [ inl is ↦ rw is refl | inr is ↦ rw is refl ]) in
    (omega (arith, within, whole), rw c.loop-node.invariant.ancestors c.requires)

pub check_node-returns-in_err-check_field-clause-checks : goal.check_node-returns-in_err-check_field-clause-checks
check_node-returns-in_err-check_field-clause-checks t c =
    let rules = c.args.pass.rules.now in
    let known = c.args.pass.all.now in
    let old = c.args.walk.now in
    let now = c.loop-index.walk in
    let new = c.check_field.new.walk in
    let up = outward old.ancestors.items in
    let node = c.args.node.now in
    let items = c.deref-field-items.result.now in
    let item = c.field-item.result in
    let i = c.loop-index.index in
    let e = c.in_err-check_field.field-0.0 in
    let r = c.from_residual-in_err-check_field.result in
    let first = c.in_ok-walk.field-0 in
    let a : Ancestor = record { node = c.args.node; index = i; number = old.next } in
    let visits_from = visits_in_fields up (kind_of node) (label_of node) (fields_of node) old.next in
    let held : fields_of node ≡ fields (map plain_field items) = rw (c.deref-field-items.ensures.value, ← c.node.view_is) refl in
    let pushed : outward c.push.new.self.items ≡ plain_ancestor a ∷ up = outward-pushed c.push.new.self.items now.ancestors.items old.ancestors.items a c.in_ok-push.ensures.items c.loop-index.invariant.ancestors in
    Checks-node rules known old.names c.check_visit.new.names new.names tt r up old.next first node (fields (map plain_field items)) held c.in_ok-walk.ensures (rw c.deref.ensures.value at c.in_ok-check_visit.ensures)
    (Leads-stops rules known c.check_visit.new.names now.names new.names e r
    (visits_from i now.next (fields (map plain_field (drop i items)))) (visits_in_field (plain_ancestor a ∷ up) now.next (plain_field item)) (visits_from (i + 1) (now.next + field_size (plain_field item)) (fields (map plain_field (drop (i + 1) items)))) (visits_from 0 first (fields (map plain_field items)))
    c.loop-index.invariant.checks
    (visits_in_fields-rest up (kind_of node) (label_of node) (fields_of node) old.next now.next items i item c.loop-index-test.true c.field-item.is)
    (error_of r e c.from_residual-in_err-check_field.ensures.1)
    (rw pushed at c.in_err-check_field.ensures.checks))

pub check_node-loop-index-preserved : goal.check_node-loop-index-preserved
check_node-loop-index-preserved t c =
    let old = c.args.walk.now in
    let now = c.loop-index.walk in
    let new = c.check_field.new.walk in
    let up = outward old.ancestors.items in
    let node = c.args.node.now in
    let items = c.deref-field-items.result.now in
    let item = c.field-item.result in
    let i = c.loop-index.index in
    let first = c.in_ok-walk.field-0 in
    let a : Ancestor = record { node = c.args.node; index = i; number = old.next } in
    let visits_from = visits_in_fields up (kind_of node) (label_of node) (fields_of node) old.next in
    let pushed : outward c.push.new.self.items ≡ plain_ancestor a ∷ up = outward-pushed c.push.new.self.items now.ancestors.items old.ancestors.items a c.in_ok-push.ensures.items c.loop-index.invariant.ancestors in
    record {
      checks =
          rw c.in_ok-check_field.ensures.next
          (Leads-on c.args.pass.rules.now c.args.pass.all.now c.check_visit.new.names now.names new.names tt
          (visits_from i now.next (fields (map plain_field (drop i items)))) (visits_in_field (plain_ancestor a ∷ up) now.next (plain_field item)) (visits_from (i + 1) (now.next + field_size (plain_field item)) (fields (map plain_field (drop (i + 1) items)))) (visits_from 0 first (fields (map plain_field items)))
          c.loop-index.invariant.checks
          (visits_in_fields-rest up (kind_of node) (label_of node) (fields_of node) old.next now.next items i item c.loop-index-test.true c.field-item.is)
          (rw pushed at c.in_ok-check_field.ensures.checks));
      ancestors = popped new.ancestors.items c.pop.new.self.items now.ancestors.items a new.ancestors.len (c.in_ok-check_field.ensures.ancestors ∙ c.in_ok-push.ensures.items) (omega (arith, new.ancestors.ok.0)) c.pop.ensures.rest ∙ c.loop-index.invariant.ancestors;
      next = omega (arith, fields_size-rest items i item c.loop-index-test.true c.field-item.is, c.in_ok-check_field.ensures.next);
    }

pub check_node-returns-clause-checks : goal.check_node-returns-clause-checks
check_node-returns-clause-checks t c =
    let rules = c.args.pass.rules.now in
    let known = c.args.pass.all.now in
    let old = c.args.walk.now in
    let now = c.loop-index.walk in
    let up = outward old.ancestors.items in
    let node = c.args.node.now in
    let items = c.deref-field-items.result.now in
    let i = c.loop-index.index in
    let first = c.in_ok-walk.field-0 in
    let visits_from = visits_in_fields up (kind_of node) (label_of node) (fields_of node) old.next in
    let held : fields_of node ≡ fields (map plain_field items) = rw (c.deref-field-items.ensures.value, ← c.node.view_is) refl in
    Checks-node rules known old.names c.check_visit.new.names now.names tt (Ok tt) up old.next first node (fields (map plain_field items)) held c.in_ok-walk.ensures (rw c.deref.ensures.value at c.in_ok-check_visit.ensures)
    (Leads-ends rules known c.check_visit.new.names now.names tt
    (visits_from i now.next (fields (map plain_field (drop i items)))) (visits_from 0 first (fields (map plain_field items)))
    c.loop-index.invariant.checks
    (ap (λ fs. visits_from i now.next (fields (map plain_field fs))) (drop_all i items c.loop-index-test.false)))
