use Rattle.std.proofs.Common.{◌≡◌, ◌+◌, ◌∙◌, ◌++◌, Bool, map, refl, sym, ap, arith}
use Rattle.es_resolution.specs.Seen.{seen}
use Rattle.es_runs.specs.OptionalChaining.{null_checks}
use Rattle.es_tree.specs.Tree.{tree_size}
use Rattle.lower_chains.specs.WayParts.{test_nodes}
use Rattle.lower_temporaries.proofs.Later.{reads-made}
use Rattle.lower_chains.proofs.null_checks.push_tests.Goals as goal

pub returns-then-no_document_all-clause-pushed :
    goal.returns-then-no_document_all-clause-pushed
returns-then-no_document_all-clause-pushed c = λ names.
    c.in_ok-tests.ensures.pushed names (seen names c.args.name.now) ∙ ap (λ (b : Bool). map (seen names) c.args.tests.items ++ null_checks b (seen names c.args.first) (seen names c.args.name.now)) (sym c.if-no_document_all.true)

pub returns-clause-reads : goal.returns-clause-reads
returns-clause-reads c =
    let nodes = ap test_nodes c.if-no_document_all.false in
    let count : tree_size c.args.name.now + 5 ≡ test_nodes c.args.no_document_all = omega (arith, nodes, c.requires.alone) in
    reads-made 5 (test_nodes c.args.no_document_all) c.args.ctx.now c.read_once_more.new.ctx _ c.in_ok-again.ensures.reads c.in_ok-tests-2.ensures.counted refl (record { used = λ x. refl; made_is = refl }) (record { state = refl; options = refl; around = refl; scopes = refl; place = refl }) count
