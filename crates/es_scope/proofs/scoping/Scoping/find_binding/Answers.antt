use Rattle.std.proofs.Common.{◌≡◌, Some, None, sym}
use Rattle.es_scope.specs.Tables.{found_here, found_outside, found_nowhere, binding_in, parent_of}
use Rattle.es_scope.proofs.Outward.{steps-smaller}
use Rattle.es_scope.proofs.scoping.Scoping.find_binding.Goals as goal

pub returns-in-Some-clause-found : goal.returns-in-Some-clause-found
returns-in-Some-clause-found c = c.loop-found.invariant.rest _ (found_here (sym c.in-Some.ensures.binding))

pub returns-in_err-scope_id-clause-found : goal.returns-in_err-scope_id-clause-found
returns-in_err-scope_id-clause-found c =
    let absent : binding_in c.args.self.now c.loop-found.scope_id.0 c.args.name.now ≡ None = sym c.in_default.ensures.binding in
    let outermost : parent_of c.args.self.now c.loop-found.scope_id.0 ≡ None = sym c.in_err-scope_id.ensures in
    rw c.from_residual.ensures (c.loop-found.invariant.rest None (found_nowhere absent outermost))

pub loop-found-preserved : goal.loop-found-preserved
loop-found-preserved c =
    let absent : binding_in c.args.self.now c.loop-found.scope_id.0 c.args.name.now ≡ None = sym c.in_default.ensures.binding in
    let parent : parent_of c.args.self.now c.loop-found.scope_id.0 ≡ Some c.in_ok-scope_id.scope_id.0 = sym c.in_ok-scope_id.ensures in
    record {
      known = c.args.self.now.outwards.known c.loop-found.scope_id.0 c.in_ok-scope_id.scope_id.0 parent;
      rest = λ r found. c.loop-found.invariant.rest r (found_outside absent parent found);
    }

pub loop-found-smaller : goal.loop-found-smaller
loop-found-smaller c =
    let parent : parent_of c.args.self.now c.loop-found.scope_id.0 ≡ Some c.in_ok-scope_id.scope_id.0 = sym c.in_ok-scope_id.ensures in
    steps-smaller (parent_of c.args.self.now) c.loop-found.scope_id.0 c.in_ok-scope_id.scope_id.0 (c.args.self.now.outwards.end c.loop-found.scope_id.0) (c.args.self.now.outwards.end c.in_ok-scope_id.scope_id.0) parent
