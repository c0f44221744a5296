use Rattle.std.proofs.Common.{subst, arith}
use Rattle.std.proofs.lemmas.List.{take_all}
use Rattle.es_scope.specs.Outwards.{IsInside}
use Rattle.es_scope.specs.Tables.{parent_of}
use Rattle.es_scope.proofs.TableSettings.{child_inner, child_known, made_known, made_outside, moved_more, none_moved}
use Rattle.es_scope.proofs.scoping.Scoping.insert_scope.Goals as goal

pub loop-child-init : goal.loop-child-init
loop-child-init c = record { number = c.in_ok-made.ensures.number; inserted = none_moved c.args.self.now c.add_scope.new.self c.args.parent.0 c.args.flags c.in_ok-made.ensures.added }

pub change_scope_parent_id-requires-clause-scope : goal.change_scope_parent_id-requires-clause-scope
change_scope_parent_id-requires-clause-scope c = child_known c.args.self.now c.loop-child.self c.args.parent.0 c.args.flags c.args.children.now c.loop-child.child-index (record { 0 = 0 }) c.loop-child-test.true c.requires.children c.loop-child.invariant.inserted

pub change_scope_parent_id-requires-clause-inner : goal.change_scope_parent_id-requires-clause-inner
change_scope_parent_id-requires-clause-inner c = child_inner c.args.self.now c.loop-child.self c.args.parent.0 c.args.flags c.args.children.now c.loop-child.child-index (record { 0 = 0 }) c.loop-child-test.true c.requires.children c.loop-child.invariant.inserted

pub change_scope_parent_id-requires-clause-parent : goal.change_scope_parent_id-requires-clause-parent
change_scope_parent_id-requires-clause-parent c = omega (arith, c.loop-child.invariant.number, made_known c.args.self.now c.loop-child.self c.args.parent.0 c.args.flags c.args.children.now c.loop-child.child-index (record { 0 = 0 }) c.loop-child-test.true c.requires.children c.loop-child.invariant.inserted)

pub change_scope_parent_id-requires-clause-outside : goal.change_scope_parent_id-requires-clause-outside
change_scope_parent_id-requires-clause-outside c = λ h.
    made_outside c.args.self.now c.loop-child.self c.args.parent.0 c.args.flags c.args.children.now c.loop-child.child-index (record { 0 = 0 }) c.loop-child-test.true c.requires.children c.loop-child.invariant.inserted (subst (IsInside (parent_of c.loop-child.self) _) c.loop-child.invariant.number h)

pub loop-child-preserved : goal.loop-child-preserved
loop-child-preserved c = record {
  number = c.loop-child.invariant.number;
  inserted = moved_more c.args.self.now c.loop-child.self c.args.parent.0 c.args.flags c.args.children.now c.loop-child.child-index (record { 0 = 0 }) c.loop-child-test.true c.requires.children c.loop-child.invariant.inserted c.change_scope_parent_id.new.self (rw (c.loop-child.invariant.number) at c.change_scope_parent_id.ensures);
}

pub returns-clause-inserted : goal.returns-clause-inserted
returns-clause-inserted c = rw (take_all c.loop-child.child-index c.args.children.now c.loop-child-test.false) at c.loop-child.invariant.inserted
