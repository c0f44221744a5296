use Rattle.std.proofs.Common.{◌≡◌, length, slice_get, refl, sym, ap, ◌∙◌, true, false}
use Rattle.es_scope.specs.HoistScopes.{is_hoist_place}
use Rattle.es_scope.proofs.HoistPlaces.{hoist_of, hoists-here, hoists-further, hoists-nowhere}
use Rattle.es_scope.proofs.Lasts.{get_last, get_kept}
use Rattle.es_scope.proofs.context.TraverseCtx.current_hoist_scope_id.Goals as goal

pub loop-place-init : goal.loop-place-init
loop-place-init g c =
    let e : c.into_iter-place-iterator.result.iter.rest.now ≡ c.args.self.now.ancestors.items = cc in
    record { rest = ap hoist_of e; known = λ n p h. c.args.self.now.in_table n p (sym (ap (λ ps. slice_get ps n) e) ∙ h) }

pub returns-then-hoists-clause-scope : goal.returns-then-hoists-clause-scope
returns-then-hoists-clause-scope g c =
    let here : is_hoist_place c.in-Some.place.now.ancestor ≡ true = sym c.hoists.ensures ∙ c.if-hoists.true in
    sym (hoists-here c.next.new.self.iter.rest.now c.in-Some.place.now here) ∙ (sym (ap hoist_of c.in-Some.ensures.steps) ∙ c.loop-place.invariant.rest)

pub returns-then-hoists-clause-known : goal.returns-then-hoists-clause-known
returns-then-hoists-clause-known g c =
    let left = c.next.new.self.iter.rest.now in
    c.loop-place.invariant.known (length left) c.in-Some.place.now (ap (λ ps. slice_get ps (length left)) c.in-Some.ensures.steps ∙ get_last left c.in-Some.place.now (length left) refl)

pub loop-place-preserved : goal.loop-place-preserved
loop-place-preserved g c =
    let left = c.next.new.self.iter.rest.now in
    let further : is_hoist_place c.in-Some.place.now.ancestor ≡ false = sym c.hoists.ensures ∙ c.if-hoists.false in
    record {
      rest = sym (hoists-further left c.in-Some.place.now further) ∙ (sym (ap hoist_of c.in-Some.ensures.steps) ∙ c.loop-place.invariant.rest);
      known = λ n p h. c.loop-place.invariant.known n p (ap (λ ps. slice_get ps n) c.in-Some.ensures.steps ∙ get_kept left c.in-Some.place.now p n h);
    }

pub returns-clause-scope : goal.returns-clause-scope
returns-clause-scope g c = c.root_scope_id.ensures.zero ∙ (sym (hoists-nowhere c.loop-place.place-iterator.iter.rest.now c.in-None.ensures.steps.0) ∙ c.loop-place.invariant.rest)
