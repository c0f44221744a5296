use Rattle.std.specs.Prelude.{string_bytes}
use Rattle.es_tree.specs.declared.helper.Helper.TheVariants.{AwaitAsyncGenerator}
use Rattle.es_scope.specs.Uids.{made, uses}
use Rattle.es_steps.specs.CoreBridge.{first_whole}
use Rattle.lower_helper_imports.proofs.FreshNames.{made-more}
use Rattle.lower_helper_imports.proofs.names.fresh_names.Goals as goal

pub loop-helper-preserved : goal.loop-helper-preserved
loop-helper-preserved c =
    let one = c.in_ok-generate_from_text in
    made-more (first_whole c.args.program.now).in_use (uses c.loop-helper.uids) (uses c.generate_from_text.new.self) c.args.helpers.now c.loop-helper.helper-index AwaitAsyncGenerator c.name.result.now (string_bytes one.field-0) (made c.loop-helper.uids) (made c.generate_from_text.new.self)
    c.loop-helper-test.true c.name.ensures one.ensures.fresh one.ensures.taken one.ensures.made c.loop-helper.invariant
