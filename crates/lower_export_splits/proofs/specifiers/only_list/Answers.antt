use Rattle.std.proofs.Common.{sym}
use Rattle.lower_export_splits.proofs.Fields.{other-lists}
use Rattle.lower_export_splits.proofs.specifiers.only_list.Goals as goal

pub returns-then-fields-ne1 : goal.returns-then-fields-ne1
returns-then-fields-ne1 c = sym (other-lists c.args.fields.now c.if-fields-ne1.true)
