use Rattle.std.proofs.Common.{◌≡◌, ◌+◌, ap, arith}
use Rattle.lower_temporaries.specs.Takings.{moment_of}
use Rattle.lower_writing.proofs.WrappedContexts.{ids-later}
use Rattle.lower_writing.proofs.wrapping.called_arrow.Goals as goal

pub returns-clause-reads : goal.returns-clause-reads
returns-clause-reads c =
    let old = c.args.ctx.now in
    let more = c.in_ok-scope.ensures in
    let same = ap (λ m. m.next) more.moment_is in
    let next : c.new_call_expression.new.ast.next ≡ old.ast.next + 2 = omega (arith, same, c.new_id.ensures.counted, c.in_ok-call.ensures.counted) in
    record {
      moment_is = ids-later 2 (moment_of old) (moment_of c.insert_arrow_scope.new.ctx) c.new_call_expression.new.ast.next more.moment_is next;
      symbols = more.symbols;
      kept = record { state = more.kept.state; options = more.kept.options; around = more.kept.around; scopes = more.kept.scopes; place = more.kept.place };
    }
