use Rattle.std.proofs.Common.{map}
use Rattle.es_resolution.specs.Seen.{seen, seen_among}
use Rattle.es_tree.specs.Tree.{trees}
use Rattle.lower_chains.specs.Ways.{call_label}
use Rattle.lower_chains.proofs.Calling.{called-stored}
use Rattle.lower_chains.proofs.calls.call_value.Goals as goal

pub returns-clause-called : goal.returns-clause-called
returns-clause-called c = λ names.
    let stored = c.in_ok-tests.ensures in
    called-stored names c.args.no_document_all c.args.ctx.now c.new_temporary.new.ctx c.test_stored.new.ctx (call_label c.args.call.span) (seen_among names (trees c.args.call.arguments.items)) (map (seen names) c.args.tests.items) c.args.callee (seen names c.in_ok-tests.field-0.current) c.in_ok-temporary.temporary _
    c.in_ok-temporary.ensures.taken (stored.tests names) (stored.current names) (c.in_ok-current.ensures names) stored.holder stored.reads
