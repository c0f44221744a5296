use Rattle.std.proofs.Common.{◌≡◌, ◌∙◌, ◌⊎◌, ap, inl, inr, None}
use Rattle.es_scope.specs.PlainReferences.{plain_reference}
use Rattle.es_scope.specs.Tables.{reference_at}
use Rattle.es_scope.proofs.TableReferences.{alike_tests}
use Rattle.lower_temporaries.proofs.MovedReferences.{no-symbol, reads-flags}
use Rattle.lower_temporaries.proofs.references.set_name_flags.Goals as goal
use Rattle.lower_temporaries.proofs.references.set_name_flags.Goals.{then-is_none-via-then-is_none, then-is_none-via-else-is_none+then-found-flags}

pub returns-then-is_none : goal.returns-then-is_none
returns-then-is_none c =
    let found = c.reference-found.result in
    let i = c.in-Identifier-default-Some-default.reference.0 in
    let same : ((plain_reference found).symbol ≡ None) ⊎ ((plain_reference found).write ≡ c.args.flags.write) = elim c.then-is_none.branch [
      | then-is_none-via-then-is_none w ↦ inl (no-symbol found.symbol c.is_none.result w.if-is_none.true c.is_none.ensures)
      | then-is_none-via-else-is_none+then-found-flags w ↦ inr (alike_tests _ _ w.if-found-flags.true)
    ] in
    reads-flags c.args.ctx.now c.set_reference_flags.new.self i c.args.flags (plain_reference found) c.set_reference_flags.ensures.table c.set_reference_flags.ensures.kept
    (c.reference-found.ensures ∙ ap (λ s. reference_at s i) c.scoping-then-reference-reference_count.ensures) same
