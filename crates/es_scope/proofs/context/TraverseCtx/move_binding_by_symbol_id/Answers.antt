use Rattle.es_scope.proofs.MovedBindings.{in_table_moved, in_use_moved}
use Rattle.es_scope.proofs.context.TraverseCtx.move_binding_by_symbol_id.Goals as goal

pub invariant_of-self : goal.invariant_of-self
invariant_of-self g c =
    let self = c.args.self.now in
    let call = c.move_binding_by_symbol_id in
    record {
      in_table = in_table_moved call.result self.scoping call.new.self self.ancestors c.args.from.0 c.args.to.0 c.args.symbol_id.0 call.ensures.moved call.ensures.err self.in_table;
      in_use = in_use_moved call.result self.scoping call.new.self self.uids c.args.from.0 c.args.to.0 c.args.symbol_id.0 call.ensures.moved call.ensures.err c.requires.stands self.in_use;
    }
