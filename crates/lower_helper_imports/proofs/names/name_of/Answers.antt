use Rattle.std.proofs.Common.{◌∙◌, ap, inl, inr, sym}
use Rattle.lower_helper_imports.proofs.Helpers.{name-later, name-none}
use Rattle.lower_helper_imports.proofs.names.name_of.Goals as goal

pub loop-known-preserved : goal.loop-known-preserved
loop-known-preserved c =
    let now = c.in-Some.ensures.steps in
    ((tt, tt), tt, ap (λ b. b.name) (name-later c.args.helper c.in-Some.known.now c.next.new.self.a.rest.now c.loop-known.known-iterator.a.rest.now c.in-Some.name.now c.next.new.self.b.rest.now c.loop-known.known-iterator.b.rest.now (sym c.eq.ensures ∙ c.if-eq.false) now.0 now.1) ∙ c.loop-known.invariant.2)

pub returns : goal.returns
returns c =
    let hs = c.loop-known.known-iterator.a.rest.now in let xs = c.loop-known.known-iterator.b.rest.now in
    elim c.in-None.ensures.steps [
      | inl e ↦ name-none hs xs c.args.helper (inl e.1.0)
      | inr e ↦ name-none hs xs c.args.helper (inr e.1.0)
    ] ∙ c.loop-known.invariant.2
