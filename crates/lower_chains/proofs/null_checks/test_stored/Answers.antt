use Rattle.std.proofs.Common.{◌∙◌, sym, ap}
use Rattle.es_tree.specs.Tree.{tree_size}
use Rattle.lower_temporaries.proofs.SeenLaws.{size-seen}
use Rattle.lower_temporaries.proofs.Takings.{reads-then}
use Rattle.lower_temporaries.specs.SeenTrees.{no_bindings}
use Rattle.lower_chains.proofs.Held.{own-read}
use Rattle.lower_chains.proofs.null_checks.test_stored.Goals as goal

pub push_tests-requires-clause-alone : goal.push_tests-requires-clause-alone
push_tests-requires-clause-alone c = sym (size-seen no_bindings c.in_ok-first.current) ∙ ap tree_size (c.in_ok-first.ensures.read no_bindings)

pub returns-clause-kept : goal.returns-clause-kept
returns-clause-kept c = (own-read c.args.ctx.now c.push_tests.new.ctx c.args.temporary (reads-then c.in_ok-first.ensures.reads c.in_ok-tests.ensures.reads) c.requires.own).unsteady
